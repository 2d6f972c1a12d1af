-- Ways part, and edges become terms.
use Rattle.vc_gen.proofs.Pushing.{fresh_numbers}
use Rattle.std.proofs.Common.{◌≡◌, ℕ, ◌+◌, true, not, ◌&&◌, List, [], ◌∷◌, ◌++◌, map, sym, ◌∙◌, ap, refl, subst}
use Rattle.std.specs.Prelude.{Some, IsTrue}
use Rattle.hy_val.specs.Values.{at, is_on}
use Rattle.hy_val.specs.declared.sort.Sort.{Sort}
use Rattle.hy_val.specs.declared.value.Value.{Value}
use Rattle.hy_term.specs.TermSorts.{sort_at}
use Rattle.hy_term.specs.Meaning.{values, value, fits}
use Rattle.hy_term.specs.Variables.{below}
use Rattle.hy_term.specs.declared.node.TermNode.{TermNode}
use Rattle.passive_form.specs.Local.{sorted_as}
use Rattle.vc_gen.specs.declared.parts.Draft.{Draft}
use Rattle.vc_gen.specs.Standing.{Later, Plain, AreOf, variables_in}
use Rattle.vc_gen.specs.Items.{bool_sort}
use Rattle.vc_gen.specs.Emit.{IsBoth, IsNot, Fresh}
use Rattle.vc_gen.specs.Edges.{Parted, Framed}
use Rattle.vc_gen.proofs.Growth.{later_then, sort_later}
use Rattle.vc_gen.proofs.Joining.{fits_before}
use Rattle.vc_gen.proofs.Passes.{bit_later}
use Rattle.vc_gen.proofs.Zeros.{cancel}

-- the new variable
pub record Choice (old : List TermNode) (d : Draft) (new : List TermNode) (e : Draft) (t : ℕ) : Type 0 where
  pub sort : sort_at new t ≡ Some bool_sort
  pub value_is : (a : ℕ → Value) → value a new t ≡ a d.next
  pub frame : Framed d e
  pub next : e.next ≡ d.next + 1
  pub below : IsTrue (below e.next new)
  pub numbers : variables_in new ≡ variables_in old ++ d.next ∷ []
  pub fit : (a : ℕ → Value) → IsTrue (fits a old) → sorted_as (bool_sort ∷ []) (a d.next ∷ []) ≡ true → IsTrue (fits a new)

pub framed_by : (d e : Draft) (vs : List ℕ) (n : ℕ) → e ≡ record d { versions = vs; next = n } → Framed d e
framed_by d e vs n is = subst (λ (x : Draft). x ≡ record d { versions = x.versions; next = x.next }) (sym is) refl

pub framed_same : (d : Draft) → Framed d d
framed_same d = refl

pub framed_then : (d m e : Draft) → Framed d m → Framed m e → Framed d e
framed_then d m e h k = k ∙ ap (λ (x : Draft). record x { versions = e.versions; next = e.next }) h

pub choice : (old new : List TermNode) (d e : Draft) (s : Sort) (t : ℕ) → s ≡ bool_sort → Fresh old d (s ∷ []) new e → e.versions ≡ d.versions ++ t ∷ [] → Choice old d new e t
choice old new d e s t is f v =
    let f2 : Fresh old d (bool_sort ∷ []) new e = subst (λ (r : Sort). Fresh old d (r ∷ []) new e) is f in
    let more_is : f2.more ≡ t ∷ [] = cancel d.versions f2.more (t ∷ []) (sym (ap (λ (x : Draft). x.versions) f2.draft_is) ∙ v) in
    record {
      sort = (subst (λ (ts : List ℕ). AreOf new ts (bool_sort ∷ [])) more_is f2.are).0;
      value_is = λ a. one (value a new t) (a d.next) (ap (map (at (values a new))) (sym more_is) ∙ f2.read a);
      frame = framed_by d e (d.versions ++ f2.more) (d.next + 1) f2.draft_is;
      next = ap (λ (x : Draft). x.next) f2.draft_is;
      below = f2.below;
      numbers = fresh_numbers old new d e (bool_sort ∷ []) f2;
      fit = f2.fit;
    }
  where
    one : (v w : Value) → v ∷ [] ≡ w ∷ [] → v ≡ w
    one v w h = cc

pub parted : (old m1 m2 m3 new : List TermNode) (d e : Draft) (left c other live rest : ℕ) → sort_at old left ≡ Some bool_sort → Later old m1 → Choice old d m1 e c → Later m1 m2 → Plain m1 m2 → IsNot m1 m2 c other →
    Later m2 m3 → Plain m2 m3 → IsBoth m2 m3 left c live → Later m3 new → Plain m3 new → IsBoth m3 new left other rest → Parted old d left new e live rest
parted old m1 m2 m3 new d e left c other live rest hl l1 ch l2 p2 b2 l3 p3 b3 l4 p4 b4 =
    let l12 = later_then old m1 m2 l1 l2 in
    let l13 = later_then old m2 m3 l12 l3 in
    record {
      later = later_then old m3 new l13 l4;
      frame = ch.frame;
      next = ch.next;
      below = p4.below e.next (p3.below e.next (p2.below e.next ch.below));
      numbers = p4.numbers ∙ p3.numbers ∙ p2.numbers ∙ ch.numbers;
      live_sort = sort_later m3 new live bool_sort l4 b3.sort;
      rest_sort = b4.sort;
      live_is = λ a f.
          let f3 = fits_before a m3 new l4 f in
          let f2 = fits_before a m2 m3 l3 f3 in
          bit_later m3 new a live l4 b3.sort ∙ b3.means a f2 ∙ ap (λ x. x && is_on (value a m2 c)) (bit_later old m2 a left l12 hl)
          ∙ ap (λ x. is_on (value a old left) && x) (bit_later m1 m2 a c l2 ch.sort ∙ ap is_on (ch.value_is a));
      rest_is = λ a f.
          let f3 = fits_before a m3 new l4 f in
          let f2 = fits_before a m2 m3 l3 f3 in
          let f1 = fits_before a m1 m2 l2 f2 in
          b4.means a f3 ∙ ap (λ x. x && is_on (value a m3 other)) (bit_later old m3 a left l13 hl)
          ∙ ap (λ x. is_on (value a old left) && x) (bit_later m2 m3 a other l3 b2.sort ∙ b2.means a f1 ∙ ap (λ v. not (is_on v)) (ch.value_is a));
      fit = λ a f g. p4.fit a (p3.fit a (p2.fit a (ch.fit a f g)));
    }
