-- Formulas in the order of their procedures.
use Rattle.std.proofs.Common.{◌≡◌, ℕ, zero, suc, ◌+◌, List, [], ◌∷◌, ◌++◌, length, length-append, sym, ap, ◌∙◌, subst}
use Rattle.std.specs.Prelude.{Bool, Some, slice_get}
use Rattle.flat_prog.specs.Program.{FlatProgram}
use Rattle.tree_terms.specs.declared.linked.Template.{Template}
use Rattle.proc_template.specs.Template.{IsTemplateOf}

each_more : (P : ℕ → Template → Type 0) (old : List Template) (t : Template) → ((p : ℕ) (x : Template) → slice_get old p ≡ Some x → P p x) → P (length old) t → (p : ℕ) (x : Template) → slice_get (old ++ t ∷ []) p ≡ Some x → P p x
each_more P [] t h last zero x is = let same : t ≡ x = cc in subst (P zero) same last
each_more P [] t h last (suc p) x is = cc
each_more P (y ∷ old) t h last zero x is = h zero x is
each_more P (y ∷ old) t h last (suc p) x is = each_more (λ n z. P (suc n) z) old t (λ n z e. h (suc n) z e) last p x is

pub templates_next : (flat : FlatProgram) (limits : List (List Bool)) (n : ℕ) (old new : List Template) (t : Template) → length old ≡ n → ((p : ℕ) (x : Template) → slice_get old p ≡ Some x → IsTemplateOf flat limits p x) → new ≡ old ++ t ∷ [] →
    IsTemplateOf flat limits n t → (length new ≡ n + 1) × ((p : ℕ) (x : Template) → slice_get new p ≡ Some x → IsTemplateOf flat limits p x)
templates_next flat limits n old new t e h is last = (
  ap length is ∙ length-append old (t ∷ []) ∙ ap (λ i. i + 1) e,
  λ p x at. each_more (IsTemplateOf flat limits) old t h (subst (λ i. IsTemplateOf flat limits i t) (sym e) last) p x (ap (λ ts. slice_get ts p) (sym is) ∙ at),
)
