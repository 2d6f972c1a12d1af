-- When two sorts are alike, by their outermost nodes.
use Rattle.std.proofs.Common.{◌≡◌, ℕ, List, Bool, true, false, refl, ap, sym, ◌∙◌, rules, ◌↔◌}
use Rattle.bpl_ast.specs.Alike.{bare_name, bare_sort}
use Rattle.bpl_ast.specs.declared.name.Name.{Name}
use Rattle.bpl_ast.specs.declared.sort.Sort.{Sort, out-Sort, roll-Sort}
use Rattle.bpl_ast.specs.declared.sort.Sort.TheFolds.{the_lemmas}
use Rattle.bpl_ast.specs.declared.sort.Sort.TheOpen.{Sort-F}

-- a node whose offsets are 0 and whose children are bare
abbrev pub layer : Sort-F Sort → Sort-F Sort
layer (Sort-F.Boolean at) = Sort-F.Boolean 0
layer (Sort-F.Bits at width text) = Sort-F.Bits 0 width text
layer (Sort-F.Named name) = Sort-F.Named (bare_name name)
layer (Sort-F.Map at index elem) = Sort-F.Map 0 (bare_sort index) (bare_sort elem)

bare-roll : (y : Sort-F Sort) → bare_sort (roll-Sort y) ≡ roll-Sort (layer y)
unfolding bare_sort
bare-roll (Sort-F.Boolean at) = search (rules, the_lemmas)
bare-roll (Sort-F.Bits at width text) = search (rules, the_lemmas)
bare-roll (Sort-F.Named name) = search (rules, the_lemmas)
bare-roll (Sort-F.Map at index elem) = search (rules, the_lemmas)

opened : (x : Sort) → roll-Sort (out-Sort x) ≡ x
opened x = search (rules, the_lemmas)

shut : (y : Sort-F Sort) → out-Sort (roll-Sort y) ≡ y
shut y = search (rules, the_lemmas)

pub forth : (x y : Sort-F Sort) → bare_sort (roll-Sort x) ≡ bare_sort (roll-Sort y) → layer x ≡ layer y
forth x y same = let e : roll-Sort (layer x) ≡ roll-Sort (layer y) = sym (bare-roll x) ∙ (same ∙ bare-roll y) in sym (shut (layer x)) ∙ (ap out-Sort e ∙ shut (layer y))

pub back : (x y : Sort-F Sort) → layer x ≡ layer y → bare_sort (roll-Sort x) ≡ bare_sort (roll-Sort y)
back x y same = bare-roll x ∙ (ap roll-Sort same ∙ sym (bare-roll y))

-- two nodes that are known
pub both : {r : Bool} {a b : Sort} (x y : Sort-F Sort) → a ≡ roll-Sort x → b ≡ roll-Sort y → (r ≡ true ↔ layer x ≡ layer y) → (r ≡ true ↔ bare_sort a ≡ bare_sort b)
both x y p q same = (λ h. ap bare_sort p ∙ (back x y (same.0 h) ∙ sym (ap bare_sort q)), λ e. same.1 (forth x y (sym (ap bare_sort p) ∙ (e ∙ ap bare_sort q))))

-- two nodes of two kinds
pub apart : {a : Sort} (b : Sort) (x : Sort-F Sort) → a ≡ roll-Sort x → (layer x ≡ layer (out-Sort b) → ⊥) → (false ≡ true ↔ bare_sort a ≡ bare_sort b)
apart b x p never = both {r = false} x (out-Sort b) p (sym (opened b)) (λ h. absurd cc, λ e. absurd (never e))

pub not-boolean : (at : ℕ) (z : Sort-F Sort) → ((at : ℕ) → z ≡ Sort-F.Boolean at → ⊥) → layer (Sort-F.Boolean at) ≡ layer z → ⊥
not-boolean at (Sort-F.Boolean n) isnt same = isnt n refl
not-boolean at _ isnt same = absurd cc

pub not-map : (at : ℕ) (x y : Sort) (z : Sort-F Sort) → ((at : ℕ) (x y : Sort) → z ≡ Sort-F.Map at x y → ⊥) → layer (Sort-F.Map at x y) ≡ layer z → ⊥
not-map at x y (Sort-F.Map n z w) isnt same = isnt n z w refl
not-map at x y _ isnt same = absurd cc

pub not-bits : (at width : ℕ) (text : List ℕ) (z : Sort-F Sort) → ((at width : ℕ) (text : List ℕ) → z ≡ Sort-F.Bits at width text → ⊥) → layer (Sort-F.Bits at width text) ≡ layer z → ⊥
not-bits at width text (Sort-F.Bits n w t) isnt same = isnt n w t refl
not-bits at width text _ isnt same = absurd cc

pub not-named : (name : Name) (z : Sort-F Sort) → ((name : Name) → z ≡ Sort-F.Named name → ⊥) → layer (Sort-F.Named name) ≡ layer z → ⊥
not-named name (Sort-F.Named n) isnt same = isnt n refl
not-named name _ isnt same = absurd cc

-- a value that is opened to this node
pub turned : (b : Sort) (z : Sort-F Sort) → out-Sort b ≡ z → b ≡ roll-Sort z
turned b z is = sym (opened b) ∙ ap roll-Sort is
