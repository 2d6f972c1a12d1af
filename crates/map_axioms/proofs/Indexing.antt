-- Nodes that are reduced to the same node are one index.
use Rattle.std.proofs.Common.{◌≡◌, ℕ, ◌<◌, Bool, true, false, List, [], ◌∷◌, ◌++◌, length, length-append, arith, sym, ◌∙◌, ap, refl, subst}
use Rattle.std.specs.Prelude.{Option, None, Some, if◌then◌else◌, slice_index, nat_eq}
use Rattle.std.specs.Map.{lookup}
use Rattle.std.proofs.lemmas.List.{get_or_append_left}
use Rattle.hy_val.specs.Values.{select_value}
use Rattle.hy_val.specs.declared.sort.Scalar.{Scalar}
use Rattle.hy_val.specs.declared.sort.SortKind.TheVariants.{Scalar as ScalarSort}
use Rattle.hy_val.specs.declared.value.Value.{Value}
use Rattle.hy_term.specs.TermSorts.{sort_at}
use Rattle.hy_term.specs.Meaning.{value}
use Rattle.hy_term.specs.declared.node.TermNode.{TermNode}
use Rattle.map_axioms.specs.declared.entry.Entry.{Entry}
use Rattle.map_axioms.specs.Steps.{AllReduced, IsSelect, IsFirst, IsScalarAt, AreFirsts, EntryStands}
use Rattle.map_axioms.proofs.Homes.{number_is}

pub first_self : (nodes : List TermNode) (reds : List ℕ) (p : ℕ) → p < length reds → IsScalarAt nodes p → IsFirst nodes reds (slice_index reds p) p
first_self nodes reds p l s = record { within = l; red = refl; scalar = s }

firsts_by : (nodes : List TermNode) (reds : List ℕ) (r p q k : ℕ) (o : Option ℕ) (b : Bool) → nat_eq r q ≡ b → IsFirst nodes reds r p → (if b then Some p else o) ≡ Some k → (o ≡ Some k → IsFirst nodes reds q k) → IsFirst nodes reds q k
firsts_by nodes reds r p q k o true test new is old =
    let a : r ≡ q = number_is r q test in
    let b : p ≡ k = cc in
    subst (λ (x : ℕ). IsFirst nodes reds x k) a (subst (λ (x : ℕ). IsFirst nodes reds r x) b new)
firsts_by nodes reds r p q k o false test new is old = old is

pub firsts_set : (nodes : List TermNode) (reds : List ℕ) (find find' : ℕ → Option ℕ) (r p : ℕ) → AreFirsts nodes reds find → IsFirst nodes reds r p → ((q : ℕ) → find' q ≡ (if nat_eq r q then Some p else find q))
    → AreFirsts nodes reds find'
firsts_set nodes reds find find' r p h new set q k is = firsts_by nodes reds r p q k (find q) (nat_eq r q) refl new (sym (set q) ∙ is) (h q k)

pub firsts_none : (nodes : List TermNode) (reds : List ℕ) (found : List (ℕ × ℕ)) → found ≡ [] → AreFirsts nodes reds (λ r. lookup (nat_eq r) found)
firsts_none nodes reds found none r k is = absurd (let no : None ≡ Some k → ⊥ = λ q. cc in no (ap (λ (es : List (ℕ × ℕ)). lookup (nat_eq r) es) (sym none) ∙ is))

pub firsts_push : (nodes : List TermNode) (reds reds' : List ℕ) (find : ℕ → Option ℕ) (t : ℕ) → AreFirsts nodes reds find → reds' ≡ reds ++ t ∷ [] → AreFirsts nodes reds' find
firsts_push nodes reds reds' find t h is q k there =
    let f = h q k there in
    subst (λ (rs : List ℕ). IsFirst nodes rs q k) (sym is) (record {
      within = let l = f.within in omega (arith, l, length-append reds (t ∷ []));
      red = get_or_append_left reds (t ∷ []) 0 k f.within ∙ f.red;
      scalar = f.scalar;
    })

pub first_select : (nodes out : List TermNode) (es : List Entry) (reds : List ℕ) (m i p : ℕ) → AllReduced nodes out es reds → IsSelect nodes m i → i < length reds → IsFirst nodes reds (slice_index reds i) p → IsSelect nodes m p
first_select nodes out es reds m i p each sel l f =
    let x = (each p f.within).stands f.scalar.scalar f.scalar.is in
    let y = (each i l).stands sel.index sel.place in
    let same : Some (ScalarSort f.scalar.scalar) ≡ Some (ScalarSort sel.index) = sym x.sort ∙ ap (sort_at out) f.red ∙ y.sort in
    let one : f.scalar.scalar ≡ sel.index = cc in
    record { index = sel.index; elem = sel.elem; map = sel.map; place = f.scalar.is ∙ ap (λ (s : Scalar). Some (ScalarSort s)) one }

pub first_entry : (nodes out : List TermNode) (es : List Entry) (reds : List ℕ) (m i p t : ℕ) → AllReduced nodes out es reds → IsSelect nodes m i → i < length reds → IsFirst nodes reds (slice_index reds i) p
    → EntryStands nodes out es p m t → EntryStands nodes out es i m t
first_entry nodes out es reds m i p t each sel l f h x e sort =
    let q = h x e sort in
    let a = (each p f.within).stands f.scalar.scalar f.scalar.is in
    let b = (each i l).stands sel.index sel.place in
    record {
      sort = q.sort;
      means = λ u v ok link. q.means u v ok link ∙ ap (λ (w : Value). select_value (value u nodes m) w) (sym (a.means u v ok link) ∙ ap (value v out) f.red ∙ b.means u v ok link);
    }
