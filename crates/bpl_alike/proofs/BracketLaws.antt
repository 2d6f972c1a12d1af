-- When two brackets are alike, by their outermost nodes.
use Rattle.std.proofs.Common.{◌≡◌, ℕ, Bool, true, false, refl, ap, sym, ◌∙◌, rules, ◌↔◌}
use Rattle.bpl_ast.specs.Alike.{bare_bracket, bare_expr, spine}
use Rattle.bpl_ast.specs.declared.expr.Bracket.{Bracket, out-Bracket, roll-Bracket}
use Rattle.bpl_ast.specs.declared.expr.Bracket.TheFolds.{the_lemmas}
use Rattle.bpl_ast.specs.declared.expr.Bracket.TheOpen.{Bracket-F}
use Rattle.bpl_ast.specs.declared.expr.Expr.{Expr}

-- a node whose children are bare
abbrev pub layer : Bracket-F Bracket Expr → Bracket-F Bracket Expr
layer (Bracket-F.Select index) = Bracket-F.Select (bare_expr index)
layer (Bracket-F.Store index value) = Bracket-F.Store (bare_expr index) (bare_expr value)
layer (Bracket-F.Extract high low) = Bracket-F.Extract high low

bare-roll : (y : Bracket-F Bracket Expr) → bare_bracket (roll-Bracket y) ≡ roll-Bracket (layer y)
unfolding spine bare_bracket
bare-roll (Bracket-F.Select index) = search (rules, the_lemmas)
bare-roll (Bracket-F.Store index value) = search (rules, the_lemmas)
bare-roll (Bracket-F.Extract high low) = search (rules, the_lemmas)

opened : (x : Bracket) → roll-Bracket (out-Bracket x) ≡ x
opened x = search (rules, the_lemmas)

shut : (y : Bracket-F Bracket Expr) → out-Bracket (roll-Bracket y) ≡ y
shut y = search (rules, the_lemmas)

pub forth : (x y : Bracket-F Bracket Expr) → bare_bracket (roll-Bracket x) ≡ bare_bracket (roll-Bracket y) → layer x ≡ layer y
forth x y same = let e : roll-Bracket (layer x) ≡ roll-Bracket (layer y) = sym (bare-roll x) ∙ (same ∙ bare-roll y) in sym (shut (layer x)) ∙ (ap out-Bracket e ∙ shut (layer y))

pub back : (x y : Bracket-F Bracket Expr) → layer x ≡ layer y → bare_bracket (roll-Bracket x) ≡ bare_bracket (roll-Bracket y)
back x y same = bare-roll x ∙ (ap roll-Bracket same ∙ sym (bare-roll y))

-- two nodes that are known
pub both : {r : Bool} {a b : Bracket} (x y : Bracket-F Bracket Expr) → a ≡ roll-Bracket x → b ≡ roll-Bracket y → (r ≡ true ↔ layer x ≡ layer y) → (r ≡ true ↔ bare_bracket a ≡ bare_bracket b)
both x y p q same = (λ h. ap bare_bracket p ∙ (back x y (same.0 h) ∙ sym (ap bare_bracket q)), λ e. same.1 (forth x y (sym (ap bare_bracket p) ∙ (e ∙ ap bare_bracket q))))

-- two nodes of two kinds
pub apart : {a : Bracket} (b : Bracket) (x : Bracket-F Bracket Expr) → a ≡ roll-Bracket x → (layer x ≡ layer (out-Bracket b) → ⊥) → (false ≡ true ↔ bare_bracket a ≡ bare_bracket b)
apart b x p never = both {r = false} x (out-Bracket b) p (sym (opened b)) (λ h. absurd cc, λ e. absurd (never e))

-- a value that is opened to this node
pub turned : (b : Bracket) (z : Bracket-F Bracket Expr) → out-Bracket b ≡ z → b ≡ roll-Bracket z
turned b z is = sym (opened b) ∙ ap roll-Bracket is

pub not-select : (index : Expr) (other : Bracket-F Bracket Expr) → ((index' : Expr) → other ≡ Bracket-F.Select index' → ⊥) → layer (Bracket-F.Select index) ≡ layer other → ⊥
not-select index (Bracket-F.Select index') isnt same = isnt index' refl
not-select index _ isnt same = absurd cc

pub not-store : (index value : Expr) (other : Bracket-F Bracket Expr) → ((index' value' : Expr) → other ≡ Bracket-F.Store index' value' → ⊥) → layer (Bracket-F.Store index value) ≡ layer other → ⊥
not-store index value (Bracket-F.Store index' value') isnt same = isnt index' value' refl
not-store index value _ isnt same = absurd cc

pub not-extract : (high low : ℕ) (other : Bracket-F Bracket Expr) → ((high' low' : ℕ) → other ≡ Bracket-F.Extract high' low' → ⊥) → layer (Bracket-F.Extract high low) ≡ layer other → ⊥
not-extract high low (Bracket-F.Extract high' low') isnt same = isnt high' low' refl
not-extract high low _ isnt same = absurd cc
