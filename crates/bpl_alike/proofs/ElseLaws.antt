-- When two parts after `else`, and two `if` statements, are alike.
use Rattle.std.proofs.Common.{◌≡◌, List, map, Bool, true, false, refl, ap, sym, ◌∙◌, rules, ◌↔◌}
use Rattle.bpl_ast.specs.Alike.{bare_attribute, bare_guard, bare_stmt, bare_if, bare_else}
use Rattle.bpl_ast.specs.declared.stmt.Else.TheFolds.{the_lemmas}
use Rattle.bpl_ast.specs.declared.stmt.Else.TheOpen.{Else-F}
use Rattle.bpl_ast.specs.declared.stmt.Else.{Else, out-Else, roll-Else}
use Rattle.bpl_ast.specs.declared.stmt.If.{If}
use Rattle.bpl_ast.specs.declared.stmt.Stmt.{Stmt}

-- a node whose children are bare
abbrev pub layer : Else-F Else Stmt If → Else-F Else Stmt If
layer Else-F.Absent = Else-F.Absent
layer (Else-F.Else::If inner) = Else-F.Else::If (bare_if inner)
layer (Else-F.Block body) = Else-F.Block (map bare_stmt body)

bare-roll : (y : Else-F Else Stmt If) → bare_else (roll-Else y) ≡ roll-Else (layer y)
unfolding bare_stmt bare_if bare_else
bare-roll Else-F.Absent = search (rules, the_lemmas)
bare-roll (Else-F.Else::If inner) = search (rules, the_lemmas)
bare-roll (Else-F.Block body) = search (rules, the_lemmas)

opened : (x : Else) → roll-Else (out-Else x) ≡ x
opened x = search (rules, the_lemmas)

shut : (y : Else-F Else Stmt If) → out-Else (roll-Else y) ≡ y
shut y = search (rules, the_lemmas)

pub forth : (x y : Else-F Else Stmt If) → bare_else (roll-Else x) ≡ bare_else (roll-Else y) → layer x ≡ layer y
forth x y same = let e : roll-Else (layer x) ≡ roll-Else (layer y) = sym (bare-roll x) ∙ (same ∙ bare-roll y) in sym (shut (layer x)) ∙ (ap out-Else e ∙ shut (layer y))

pub back : (x y : Else-F Else Stmt If) → layer x ≡ layer y → bare_else (roll-Else x) ≡ bare_else (roll-Else y)
back x y same = bare-roll x ∙ (ap roll-Else same ∙ sym (bare-roll y))

-- two nodes that are known
pub both : {r : Bool} {a b : Else} (x y : Else-F Else Stmt If) → a ≡ roll-Else x → b ≡ roll-Else y → (r ≡ true ↔ layer x ≡ layer y) → (r ≡ true ↔ bare_else a ≡ bare_else b)
both x y p q same = (λ h. ap bare_else p ∙ (back x y (same.0 h) ∙ sym (ap bare_else q)), λ e. same.1 (forth x y (sym (ap bare_else p) ∙ (e ∙ ap bare_else q))))

-- two nodes of two kinds
pub apart : {a : Else} (b : Else) (x : Else-F Else Stmt If) → a ≡ roll-Else x → (layer x ≡ layer (out-Else b) → ⊥) → (false ≡ true ↔ bare_else a ≡ bare_else b)
apart b x p never = both {r = false} x (out-Else b) p (sym (opened b)) (λ h. absurd cc, λ e. absurd (never e))

-- a value that is opened to this node
pub turned : (b : Else) (z : Else-F Else Stmt If) → out-Else b ≡ z → b ≡ roll-Else z
turned b z is = sym (opened b) ∙ ap roll-Else is

pub not-absent : (other : Else-F Else Stmt If) → (other ≡ Else-F.Absent → ⊥) → layer Else-F.Absent ≡ layer other → ⊥
not-absent Else-F.Absent isnt same = isnt refl
not-absent _ isnt same = absurd cc

pub not-if : (inner : If) (other : Else-F Else Stmt If) → ((inner' : If) → other ≡ Else-F.Else::If inner' → ⊥) → layer (Else-F.Else::If inner) ≡ layer other → ⊥
not-if inner (Else-F.Else::If inner') isnt same = isnt inner' refl
not-if inner _ isnt same = absurd cc

pub not-block : (body : List Stmt) (other : Else-F Else Stmt If) → ((body' : List Stmt) → other ≡ Else-F.Block body' → ⊥) → layer (Else-F.Block body) ≡ layer other → ⊥
not-block body (Else-F.Block body') isnt same = isnt body' refl
not-block body _ isnt same = absurd cc

abbrev pub bare_parts : If → If
bare_parts i = record { at = 0; attributes = map bare_attribute i.attributes; guard = bare_guard i.guard; then = map bare_stmt i.then; other = bare_else i.other }

pub if-is : (i : If) → bare_if i ≡ bare_parts i
unfolding bare_stmt bare_if bare_else
if-is i = search (rules, the_lemmas)

-- two `if` statements, by their parts
pub both_parts : {r : Bool} (a b : If) → (r ≡ true ↔ bare_parts a ≡ bare_parts b) → (r ≡ true ↔ bare_if a ≡ bare_if b)
both_parts a b same = (λ h. if-is a ∙ (same.0 h ∙ sym (if-is b)), λ e. same.1 (sym (if-is a) ∙ (e ∙ if-is b)))
