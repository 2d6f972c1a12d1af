-- Bools of reached nodes stay where terms grow.
use Rattle.std.proofs.Common.{◌≡◌, ℕ, zero, suc, ◌<◌, Bool, ◌&&◌, List, length, refl, sym, ap, ◌∙◌, arith}
use Rattle.std.specs.Prelude.{slice_index, IsSome}
use Rattle.hy_val.specs.declared.value.Value.{Value}
use Rattle.hy_term.specs.TermSorts.{sorts}
use Rattle.hy_term.specs.Meaning.{Grows}
use Rattle.hy_term.specs.declared.node.TermNode.{TermNode}
use Rattle.tree_terms.proofs.Growth.{grows_on, fits_before}
use Rattle.tree_terms.specs.declared.linked.Linked.{Linked}
use Rattle.tree_terms.specs.Linked.{parent}
use Rattle.tree_terms.specs.Rules.{IsBool, bit}
use Rattle.tree_terms.specs.Reach.{site_term, reach_by, SitesFit}
use Rattle.tree_terms.proofs.Ruling.{bool_stays, bit_stays}
use Rattle.tree_words.specs.Rooted.{ReachesStay}

same_reach : (q : Linked) (places : List (List ℕ)) (mid new : List TermNode) (reach : List ℕ) (a : ℕ → Value) (m : ℕ) → IsSome (sorts mid) → Grows mid new → SitesFit q mid places
    → ((j : ℕ) → j < length q.tree → IsBool mid (slice_index reach j)) → m < length q.tree → reach_by q places reach (bit a new) m ≡ reach_by q places reach (bit a mid) m
same_reach q places mid new reach a zero ok g s bools l = refl
same_reach q places mid new reach a (suc m) ok g s bools l =
    let u = s.up m l in
    let low : parent q (suc m) < length q.tree = omega (arith, u, l) in
    ap (λ (x : Bool). x && bit a new (site_term q places (suc m))) (bit_stays a mid new (slice_index reach (parent q (suc m))) ok g (bools (parent q (suc m)) low))
    ∙ ap (λ (x : Bool). bit a mid (slice_index reach (parent q (suc m))) && x) (bit_stays a mid new (site_term q places (suc m)) ok g (s.bool m l))

pub reaches_stay : ReachesStay
reaches_stay q places old mid new reach h sites g ok fit low = record {
  grows = grows_on old mid new h.grows g;
  sorted = ok;
  fit = λ a f. fit a (h.fit a f);
  low = λ k x. low k (h.low k x);
  count = h.count;
  bools = λ m l. bool_stays mid new (slice_index reach m) h.sorted ok g (h.bools m l);
  says = λ a f m l. bit_stays a mid new (slice_index reach m) h.sorted g (h.bools m l)
      ∙ (h.says a (fits_before a mid new g f) m l ∙ sym (same_reach q places mid new reach a m h.sorted g sites h.bools l));
}
