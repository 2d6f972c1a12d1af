-- Zeros, and new variables that are versions.
use Rattle.vc_gen.proofs.Pushing.{fresh_numbers}
use Rattle.std.proofs.Common.{◌≡◌, ℕ, Bool, true, List, [], ◌∷◌, ◌++◌, map, length, arith, sym, ◌∙◌, ap, refl, subst, append-nil}
use Rattle.std.specs.Prelude.{Option, None, Some, slice_get, IsTrue, IsSome, if◌then◌else◌}
use Rattle.std.specs.Option.{option_and_then}
use Rattle.hy_val.specs.NodeSorts.{is_sort}
use Rattle.hy_val.specs.Sorts.{scalar_of, has_scalar, zero_of_scalar}
use Rattle.hy_val.specs.Values.{at, is_on, has_sort, zero_of}
use Rattle.hy_val.specs.declared.sort.Sort.{Sort}
use Rattle.hy_val.specs.declared.sort.Scalar.{Scalar}
use Rattle.hy_val.specs.declared.sort.ScalarKind.TheVariants.{Bool as BoolSort, Bv as BvSort}
use Rattle.hy_val.specs.declared.sort.SortKind.TheVariants.{Scalar as ScalarSort, Map as MapSort}
use Rattle.hy_val.specs.declared.value.Value.{Value}
use Rattle.hy_val.proofs.Lawful.{keep_sorts}
use Rattle.hy_term.specs.TermSorts.{sorts, sort_at, sort_behind, fits_behind}
use Rattle.hy_term.specs.Meaning.{node_value, values, value, node_fits, fits}
use Rattle.hy_term.specs.Variables.{node_below, reads}
use Rattle.hy_term.specs.declared.node.TermNode.{TermNode}
use Rattle.hy_term.proofs.Growing.{value-new}
use Rattle.hy_term.proofs.Typing.{value_has_sort}
use Rattle.passive_form.specs.declared.Item.TheVariants.{Zero, Free}
use Rattle.vc_gen.specs.declared.parts.Draft.{Draft}
use Rattle.vc_gen.specs.declared.parts.ValueTerm.{ValueTerm}
use Rattle.vc_gen.specs.Standing.{AreOf}
use Rattle.vc_gen.specs.Items.{bool_sort}
use Rattle.vc_gen.specs.Emit.{ItemReady, Fresh, zero_node, Step}
use Rattle.vc_gen.proofs.Growth.{later_push, plain_push, sort_added, fits_by, sort_later, sort_within, are_count}
use Rattle.vc_gen.proofs.Steps.{step_zero, or_false, pushed_at}
use Rattle.vc_gen.proofs.Passes.{bit_later}

some_sorts : (o : Option (List Sort)) (s : Sort) → IsSome o → option_and_then (λ (ss : List Sort). Some s) o ≡ Some s
some_sorts None s h = cc
some_sorts (Some ss) s h = refl

zero_has : (s : Scalar) → IsTrue (is_sort (ScalarSort s)) → (has_scalar (zero_of_scalar s) (scalar_of (zero_of_scalar s)) ≡ true) × (scalar_of (zero_of_scalar s) ≡ s)
zero_has BoolSort h = (refl, refl)
zero_has (BvSort w) h = (keep_sorts.zero (ScalarSort (BvSort w)) h, refl)

pub zero_behind : (old : List TermNode) (s : Sort) → IsSome (sorts old) → IsTrue (is_sort s) → sort_behind old (zero_node s) ≡ Some s
zero_behind old (ScalarSort s) h k =
    let z = zero_has s k in
    ap (λ (b : Bool). option_and_then (λ (ss : List Sort). if b then Some (ScalarSort (scalar_of (zero_of_scalar s))) else None) (sorts old)) z.0
    ∙ ap (λ (t : Scalar). option_and_then (λ (ss : List Sort). Some (ScalarSort t)) (sorts old)) z.1 ∙ some_sorts (sorts old) (ScalarSort s) h
zero_behind old (MapSort index elem) h k =
    ap (λ (b : Bool). option_and_then (λ (ss : List Sort). if b then Some (MapSort index elem) else None) (sorts old)) k ∙ some_sorts (sorts old) (MapSort index elem) h

pub zero_below : (s : Sort) (k : ℕ) → node_below k (zero_node s) ≡ true
zero_below (ScalarSort s) k = refl
zero_below (MapSort index elem) k = refl

pub zero_fits : (s : Sort) (a : ℕ → Value) → node_fits a (zero_node s) ≡ true
zero_fits (ScalarSort s) a = refl
zero_fits (MapSort index elem) a = refl

zero_value : (s : Sort) (a : ℕ → Value) (vs : List Value) → node_value a vs (zero_node s) ≡ zero_of s
zero_value (ScalarSort s) a vs = refl
zero_value (MapSort index elem) a vs = refl

zero_agrees : (old : List TermNode) (s : Sort) → IsSome (sorts old) → IsTrue (is_sort s) → IsTrue (fits_behind old (zero_node s))
zero_agrees old (ScalarSort s) h k = fits_by old (zero_node (ScalarSort s)) (ScalarSort s) (zero_behind old (ScalarSort s) h k) refl
zero_agrees old (MapSort index elem) h k = fits_by old (zero_node (MapSort index elem)) (MapSort index elem) (zero_behind old (MapSort index elem) h k) refl

pub zero_may : (old : List TermNode) (s : Sort) (node : TermNode) → IsSome (sorts old) → IsTrue (is_sort s) → node ≡ zero_node s → IsTrue (fits_behind old node)
zero_may old s node h k is = subst (λ (n : TermNode). IsTrue (fits_behind old n)) (sym is) (zero_agrees old s h k)

pub step_zero_pushed : (cs : List ℕ) (block : ℕ) (old new : List TermNode) (d : Draft) (v t : ℕ) (s : Sort) (vs : List ℕ) → ItemReady old cs d (Zero v s) → new ≡ old ++ zero_node s ∷ [] → t ≡ length old → vs ≡ d.versions ++ t ∷ [] →
    Step cs block old d (Zero v s ∷ []) new (record d { versions = vs })
step_zero_pushed cs block old new d v t s vs r is at_end p =
    let node = zero_node s in
    let behind = zero_behind old s r.stands.sound r.fit.1 in
    step_zero cs block old d new v t s vs r (later_push old new node s behind is) (plain_push old new node (zero_below s) (zero_fits s) is)
    (ap (λ (ns : List TermNode). sort_at ns t) is ∙ ap (sort_at (old ++ node ∷ [])) at_end ∙ sort_added old node s behind)
    (λ a. ap (λ (ns : List TermNode). value a ns t) is ∙ ap (value a (old ++ node ∷ [])) at_end ∙ value-new a old node ∙ zero_value s a (values a old)) p

-- the sort of a new variable's value
one_has : (a : ℕ → Value) (new : List TermNode) (t : ℕ) (s : Sort) (v : Value) → IsTrue (fits a new) → sort_at new t ≡ Some s → v ≡ value a new t → has_sort v s ≡ true
one_has a new t s v f h is = ap (λ x. has_sort x s) is ∙ value_has_sort keep_sorts a new t s f h

pub cancel : {A : Type 0} (xs ys zs : List A) → xs ++ ys ≡ xs ++ zs → ys ≡ zs
cancel [] ys zs h = h
cancel (x ∷ xs) ys zs h = let e : xs ++ ys ≡ xs ++ zs = cc in cancel xs ys zs e

pub step_free : (cs : List ℕ) (block : ℕ) (old new : List TermNode) (d e : Draft) (v t : ℕ) (s : Sort) → ItemReady old cs d (Free v s) → Fresh old d (s ∷ []) new e → e.versions ≡ d.versions ++ t ∷ [] → (taken : List ValueTerm) → taken ≡ e.values ++ record { node = t; live = e.cond } ∷ [] →
    Step cs block old d (Free v s ∷ []) new (record e { values = taken })
step_free cs block old new d e v t s r w p taken taken_is =
    let st = r.stands in
    let vs : e.versions ≡ d.versions ++ w.more = ap (λ (x : Draft). x.versions) w.draft_is in
    let more_is : w.more ≡ t ∷ [] = cancel d.versions w.more (t ∷ []) (sym vs ∙ p) in
    let sorted : sort_at new t ≡ Some s = (subst (λ (ts : List ℕ). AreOf new ts (s ∷ [])) more_is w.are).0 in
    let cond_is : e.cond ≡ d.cond = ap (λ (x : Draft). x.cond) w.draft_is in
    let fails_is : e.fails ≡ d.fails = ap (λ (x : Draft). x.fails) w.draft_is in
    record {
      later = w.later;
      more = t ∷ [];
      versions = p;
      are = (sorted, tt);
      cond = ap (sort_at new) cond_is ∙ sort_later old new d.cond bool_sort w.later st.cond;
      fails = ap (sort_at new) fails_is ∙ sort_later old new d.fails bool_sort w.later st.fails;
      next = ap (λ (x : Draft). x.next) w.draft_is;
      below = w.below;
      sites = [];
      sites_there = tt;
      sites_of = tt;
      sites_behind = ap (λ (x : Draft). x.sites) w.draft_is ∙ sym (append-nil d.sites);
      asked = λ csorts vsorts _. tt;
      numbered = refl;
      laid = refl;
      calls = omega (arith, ap (λ (x : Draft). x.calls) w.draft_is);
      variables = fresh_numbers old new d e (s ∷ []) w;
      asserts = [];
      asserts_there = tt;
      asserts_behind = ap (λ (x : Draft). x.asserts) w.draft_is ∙ sym (append-nil d.asserts);
      checked = refl;
      values = record { node = t; live = e.cond } ∷ [];
      values_there = ((ap (sort_at new) cond_is ∙ sort_later old new d.cond bool_sort w.later st.cond, sort_within new t s sorted), tt);
      values_behind = taken_is ∙ ap (λ (x : Draft). x.values ++ record { node = t; live = e.cond } ∷ []) w.draft_is;
      taken = λ a consts vals f m.
          let is : vals v ≡ value a new t = m.each v t (ap (λ xs. slice_get xs v) p ∙ pushed_at d.versions t v (length r.vsorts) r.fit.0 (are_count old d.versions r.vsorts st.versions)) in
          let on = is_on (value a old d.cond) in
          ap (λ i. if is_on (value a new i) then value a new t ∷ [] else []) cond_is ∙ ap (λ b. if b then value a new t ∷ [] else []) (bit_later old new a d.cond w.later st.cond)
          ∙ ap (λ x. if on then x ∷ [] else []) (sym is) ∙ sym (append-nil (if on then vals v ∷ [] else []));
      says = λ a consts vals f m.
          let is : vals v ≡ value a new t = m.each v t (ap (λ xs. slice_get xs v) p ∙ pushed_at d.versions t v (length r.vsorts) r.fit.0 (are_count old d.versions r.vsorts st.versions)) in
          let read : value a new t ∷ [] ≡ reads a d.next 1 = ap (map (at (values a new))) (sym more_is) ∙ w.read a in
          record {
            defined = (one_has a new t s (vals v) f sorted is, tt);
            on = ap (λ i. is_on (value a new i)) cond_is ∙ bit_later old new a d.cond w.later st.cond;
            fails = ap (λ i. is_on (value a new i)) fails_is ∙ bit_later old new a d.fails w.later st.fails ∙ or_false (is_on (value a old d.fails));
            inputs_are = ap (λ x. x ∷ []) is ∙ read;
            sites_are = refl;
            asserts_are = refl;
          };
      fit = λ a f k. w.fit a f k;
    }
