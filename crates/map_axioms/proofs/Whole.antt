-- The whole reduction, from its parts.
use Rattle.std.proofs.Common.{◌≡◌, ℕ, ◌+◌, ◌*◌, ◌^◌, ◌<◌, ◌≤◌, ◌↔◌, Bool, true, ◌&&◌, List, [], ◌∷◌, length, arith, sym, ◌∙◌, ap, refl, subst}
use Rattle.std.specs.Prelude.{Some, slice_index, IsTrue}
use Rattle.hy_val.specs.Values.{is_on}
use Rattle.hy_val.specs.declared.atom.AtomKind.TheVariants.{Bool as BoolAtom}
use Rattle.hy_val.specs.declared.sort.ScalarKind.TheVariants.{Bool as BoolSort}
use Rattle.hy_val.specs.declared.sort.SortKind.TheVariants.{Scalar as ScalarSort}
use Rattle.hy_val.specs.declared.value.Value.{Value}
use Rattle.hy_term.specs.Formula.{Formula}
use Rattle.hy_term.specs.TermSorts.{sort_at, is_bool, is_formula, agree_onto, are_plain}
use Rattle.hy_term.specs.Meaning.{values, value, CanHold}
use Rattle.hy_term.specs.Variables.{below}
use Rattle.hy_term.specs.declared.node.TermNode.{TermNode}
use Rattle.hy_term.specs.declared.node.TermNode.TheVariants.{Lit}
use Rattle.hy_term.proofs.Sorting.{and_left}
use Rattle.map_axioms.specs.declared.entry.Entry.{Entry}
use Rattle.map_axioms.specs.Reduction.{KeepsHolding, KeepsScalars}
use Rattle.map_axioms.specs.Steps.{State, Conjoined, congruent, pairs, AllTaken, IsReduction, IsPlan}
use Rattle.map_axioms.proofs.Cases.{sort_within}
use Rattle.map_axioms.proofs.Homes.{home_plain}
use Rattle.map_axioms.proofs.Standing.{value_later}
use Rattle.map_axioms.proofs.Rows.{reds_later}
use Rattle.map_axioms.proofs.Conjoining.{congruent_stays}
use Rattle.map_axioms.proofs.Counting.{few_pairs, places_below, count_bound}
use Rattle.map_axioms.proofs.Theorem.{bool_root, keeps_holding, keeps_scalars}

pub first_state : (base : ℕ) (nodes out : List TermNode) (es : List Entry) → out ≡ Lit (BoolAtom true) ∷ [] → es ≡ [] → State base nodes out es
first_state base nodes out es is none =
    subst (λ (ns : List TermNode). State base nodes ns es) (sym is)
    (subst (λ (xs : List Entry). State base nodes (Lit (BoolAtom true) ∷ []) xs) (sym none) (record {
      sound = refl;
      at_home = (tt, tt);
      entry = λ j e there. cc;
      apart = tt;
    }))

pub root_is_bool : (f : Formula) → IsTrue (is_formula f) → sort_at f.nodes f.root ≡ Some (ScalarSort BoolSort)
root_is_bool f h = bool_root (sort_at f.nodes f.root) (and_left (is_bool (sort_at f.nodes f.root)) (agree_onto [] f.nodes) h)

module _ (base : ℕ) (source : Formula) (out : List TermNode) (es : List Entry) (reds : List ℕ) (formula : IsTrue (is_formula source)) (taken : AllTaken base source.nodes out es reds) where
  pub root_before : source.root < length reds
  root_before =
      let l = sort_within source.nodes source.root (ScalarSort BoolSort) (root_is_bool source formula) in
      let c = taken.count in
      omega (arith, l, c)

  pub reduced_root : (t : ℕ) → t ≡ slice_index reds source.root → sort_at out t ≡ Some (ScalarSort BoolSort)
  reduced_root t is = ap (sort_at out) is ∙ ((taken.each source.root root_before).stands BoolSort (root_is_bool source formula)).sort

  pub whole : (reduced : Formula) (t : ℕ) → IsTrue (below base source.nodes) → t ≡ slice_index reds source.root → Conjoined base source.nodes out es reduced.nodes t reduced.root (λ vs. congruent vs es)
      → IsReduction base source reduced reds es
  whole reduced t under is c =
      let named = subst (λ (k : ℕ). Conjoined base source.nodes out es reduced.nodes k reduced.root (λ vs. congruent vs es)) is c in
      record {
        formula = formula;
        under = under;
        state = c.state;
        count = taken.count;
        each = reds_later source.nodes out es reduced.nodes es reds c.later taken.each;
        root = λ b.
            named.is b
            ∙ ap (λ (v : Value). is_on v && congruent (values b out) es)
            (sym (value_later out es reduced.nodes es c.later b (slice_index reds source.root) (sort_within out (slice_index reds source.root) (ScalarSort BoolSort) (reduced_root (slice_index reds source.root) refl))))
            ∙ ap (λ (x : Bool). is_on (value b reduced.nodes (slice_index reds source.root)) && x) (sym (congruent_stays base source.nodes out es reduced.nodes es b c.later taken.state.entry));
      }

  pub whole_count : (n : ℕ) → n ≤ length out + 4 * pairs es → n ≤ 1024 * length source.nodes ^ 3
  whole_count n h =
      let l = sort_within source.nodes source.root (ScalarSort BoolSort) (root_is_bool source formula) in
      let few = few_pairs (length source.nodes) es taken.state.apart (places_below base source.nodes out es taken.state) in
      let bound = count_bound (length source.nodes) (length out) (length es) (pairs es) (omega (arith, l)) taken.few_nodes few taken.few_entries in
      omega (arith, h, bound)

pub plan_plain : (source reduced : Formula) (es : List Entry) → IsPlan source reduced es → IsTrue (are_plain reduced.nodes)
plan_plain source reduced es p = home_plain p.base source.nodes reduced.nodes p.is.state.at_home

pub plan_holds : (source reduced : Formula) (es : List Entry) → IsPlan source reduced es → KeepsHolding source reduced
plan_holds source reduced es p = keeps_holding p.base source reduced p.reds es p.is

pub plan_scalars : (source reduced : Formula) (es : List Entry) → IsPlan source reduced es → KeepsScalars source.nodes reduced.nodes
plan_scalars source reduced es p = keeps_scalars p.base source reduced p.reds es p.is

pub plan_can : (source reduced : Formula) (es : List Entry) → IsPlan source reduced es → CanHold reduced ↔ CanHold source
plan_can source reduced es p = (
  λ h. let r = (plan_holds source reduced es p h.0).0 (h.0, h.1, h.2, λ n e. refl) in (r.0, r.1, r.2),
  λ h. let r = (plan_holds source reduced es p h.0).1 (h.0, h.1, h.2, λ n e. refl) in (r.0, r.1, r.2),
)
