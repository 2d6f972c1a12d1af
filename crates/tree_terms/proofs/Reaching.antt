-- Bools of nodes, one by one.
use Rattle.std.proofs.Common.{◌≡◌, ℕ, zero, suc, ◌+◌, ◌<◌, ◌≤◌, Bool, true, false, ◌&&◌, List, [], ◌∷◌, ◌++◌, length, length-append, refl, sym, ap, ◌∙◌, subst, arith, ⊎_elim}
use Rattle.std.specs.Prelude.{if◌then◌else◌, slice_index, IsSome}
use Rattle.hy_val.specs.declared.value.Value.{Value}
use Rattle.hy_term.specs.TermSorts.{sorts}
use Rattle.hy_term.specs.Meaning.{Grows}
use Rattle.hy_term.specs.declared.node.TermNode.{TermNode}
use Rattle.tree_terms.proofs.Growth.{fits_before, grows_not, grows_on}
use Rattle.tree_terms.proofs.Parts.{index_last, index_left, lt_or_eq}
use Rattle.tree_terms.proofs.Ruling.{bit_stays, bool_stays}
use Rattle.tree_terms.specs.declared.linked.Linked.{Linked}
use Rattle.tree_terms.specs.Linked.{parent, site_of, node_by}
use Rattle.tree_terms.specs.Tables.{row}
use Rattle.tree_terms.specs.Rules.{IsBool, bit, IsBit, IsFalse}
use Rattle.tree_terms.specs.Reach.{site_term, reach_by, SitesFit, IsAlways, ReachTo}

pub always_stays : (old new : List TermNode) (t : ℕ) → IsSome (sorts old) → IsSome (sorts new) → Grows old new → IsAlways old t → IsAlways new t
always_stays old new t ok new_ok g h = record { bool = bool_stays old new t ok new_ok g h.bool; on = λ a fit. bit_stays a old new t ok g h.bool ∙ h.on a (fits_before a old new g fit) }

pub sites_later : (q : Linked) (old new : List TermNode) (places : List (List ℕ)) → IsSome (sorts old) → IsSome (sorts new) → Grows old new → SitesFit q old places → SitesFit q new places
sites_later q old new places ok new_ok g s = record { count = s.count; up = s.up; there = s.there; bool = λ m l. bool_stays old new (site_term q places (suc m)) ok new_ok g (s.bool m l) }

-- the same from now on
pub from_here : (q : Linked) (places : List (List ℕ)) (old new : List TermNode) (reach : List ℕ) (k : ℕ) → ReachTo q places old new reach k → ReachTo q places new new reach (length reach)
from_here q places old new reach k h = record {
  grows = grows_not new;
  sorted = h.sorted;
  fit = λ a f. f;
  low = λ j x. x;
  count = refl;
  bools = λ m l. h.bools m (omega (arith, l, h.count));
  says = λ a f m l. h.says a f m (omega (arith, l, h.count));
}

pub first_term : (q : Linked) (places : List (List ℕ)) (old : List TermNode) (reach : List ℕ) (t : ℕ) → IsSome (sorts old) → IsAlways old t → length reach ≡ 0
    → IsBit old old (λ a. reach_by q places reach (bit a old) (length reach)) t
first_term q places old reach t ok h e = record { grows = grows_not old; sorted = ok; bool = h.bool; fit = λ a f. f; low = λ j x. x; means = λ a f. h.on a f ∙ sym (ap (reach_by q places reach (bit a old)) e) }

if_and : (x y z : Bool) → z ≡ false → (if x then y else z) ≡ (x && y)
if_and true y z e = refl
if_and false y z e = e

pub next_term : (q : Linked) (places : List (List ℕ)) (old new : List TermNode) (reach : List ℕ) (never n t : ℕ) → IsFalse old never → length reach ≡ n → (0 < n)
    → IsBit old new (λ a. if bit a old (slice_index reach (parent q n)) then bit a old (site_term q places n) else bit a old never) t
    → IsBit old new (λ a. reach_by q places reach (bit a old) (length reach)) t
next_term q places old new reach never zero t off e l b = absurd (omega (arith, l))
next_term q places old new reach never (suc n) t off e l b = record {
  grows = b.grows;
  sorted = b.sorted;
  bool = b.bool;
  fit = b.fit;
  low = b.low;
  means = λ a f. b.means a f
      ∙ (if_and (bit a old (slice_index reach (parent q (suc n)))) (bit a old (site_term q places (suc n))) (bit a old never) (off.off a (fits_before a old new b.grows f))
      ∙ sym (ap (reach_by q places reach (bit a old)) e));
}

-- the bools before a node alone matter
reach_same : (q : Linked) (old mid new : List TermNode) (places : List (List ℕ)) (reach more : List ℕ) (a : ℕ → Value) (m : ℕ) → IsSome (sorts mid) → Grows mid new → SitesFit q mid places → m < length q.tree
    → m ≤ length reach → ((j : ℕ) → j < length reach → IsBool mid (slice_index reach j)) → reach_by q places (reach ++ more) (bit a new) m ≡ reach_by q places reach (bit a mid) m
reach_same q old mid new places reach more a zero ok g s l low bools = refl
reach_same q old mid new places reach more a (suc m) ok g s l low bools =
    let u = s.up m l in
    let up_low : parent q (suc m) < length reach = omega (arith, u, low) in
    ap (λ (x : Bool). x && bit a new (site_term q places (suc m))) (ap (bit a new) (index_left reach more (parent q (suc m)) up_low) ∙ bit_stays a mid new (slice_index reach (parent q (suc m))) ok g (bools (parent q (suc m)) up_low))
    ∙ ap (λ (x : Bool). bit a mid (slice_index reach (parent q (suc m))) && x) (bit_stays a mid new (site_term q places (suc m)) ok g (s.bool m l))

pub reach_next : (q : Linked) (places : List (List ℕ)) (old mid new : List TermNode) (reach : List ℕ) (k t : ℕ) → SitesFit q mid places → k < length q.tree → ReachTo q places old mid reach k
    → IsBit mid new (λ a. reach_by q places reach (bit a mid) (length reach)) t → ReachTo q places old new (reach ++ t ∷ []) (k + 1)
reach_next q places old mid new reach k t sites within h b = record {
  grows = grows_on old mid new h.grows b.grows;
  sorted = b.sorted;
  fit = λ a f. b.fit a (h.fit a f);
  low = λ j x. b.low j (h.low j x);
  count = length-append reach (t ∷ []) ∙ ap (λ (n : ℕ). n + 1) h.count;
  bools = λ m l. ⊎_elim
      (λ low. subst (λ (x : ℕ). IsBool new x) (sym (index_left reach (t ∷ []) m (omega (arith, low, h.count)))) (bool_stays mid new (slice_index reach m) h.sorted b.sorted b.grows (h.bools m low)))
      (λ e. subst (λ (x : ℕ). IsBool new x) (sym (last m e)) b.bool) (lt_or_eq m k l);
  says = λ a f m l. ⊎_elim
      (λ low. ap (bit a new) (index_left reach (t ∷ []) m (omega (arith, low, h.count)))
      ∙ (bit_stays a mid new (slice_index reach m) h.sorted b.grows (h.bools m low)
      ∙ (h.says a (fits_before a mid new b.grows f) m low
      ∙ sym (reach_same q old mid new places reach (t ∷ []) a m h.sorted b.grows sites (omega (arith, low, within)) (omega (arith, low, h.count)) bools_mid))))
      (λ e. ap (bit a new) (last m e)
      ∙ (b.means a f
      ∙ (sym (reach_same q old mid new places reach (t ∷ []) a (length reach) h.sorted b.grows sites (omega (arith, h.count, within)) (omega arith) bools_mid)
      ∙ ap (reach_by q places (reach ++ t ∷ []) (bit a new)) (h.count ∙ sym e))))
      (lt_or_eq m k l);
}
  where
    last : (m : ℕ) → m ≡ k → slice_index (reach ++ t ∷ []) m ≡ t
    last m e = ap (slice_index (reach ++ t ∷ [])) (e ∙ sym h.count) ∙ index_last reach t

    bools_mid : (j : ℕ) → j < length reach → IsBool mid (slice_index reach j)
    bools_mid j l = h.bools j (omega (arith, l, h.count))

pub reach_begun : (q : Linked) (places : List (List ℕ)) (old : List TermNode) → IsSome (sorts old) → ReachTo q places old old [] 0
reach_begun q places old ok = record { grows = grows_not old; sorted = ok; fit = λ a f. f; low = λ j x. x; count = refl; bools = λ m l. absurd (omega (arith, l)); says = λ a f m l. absurd (omega (arith, l)) }

pub site_facts : (q : Linked) (into : List TermNode) (places : List (List ℕ)) (n : ℕ) → SitesFit q into places → n < length q.tree → 0 < n
    → (parent q n < n) × (node_by (site_of q n) < length (row places (parent q n))) × IsBool into (site_term q places n)
site_facts q into places zero s l p = absurd (omega (arith, p))
site_facts q into places (suc m) s l p = (s.up m l, s.there m l, s.bool m l)
