-- What is known of all seats at the end.
use Rattle.std.proofs.Common.{◌≡◌, ℕ, suc, ◌+◌, ◌*◌, ◌^◌, ◌<◌, ◌≤◌, List, [], ◌∷◌, get_or, length, take, drop, sym, refl, ap, ◌∙◌, subst, arith}
use Rattle.std.proofs.lemmas.List.{length-map}
use Rattle.std.specs.List.{sum_by}
use Rattle.std.proofs.lemmas.List.Sums.{sum_by_more, sum_by-cons}
use Rattle.crossbeam_deque.proofs.Lists.{at_index}
use mathlib.Core.Option.{some, some-injective}
use Rattle.crossbeam_deque.specs.Handles.{stealer_deque}
use lib.ListN.{get_elem?}
use Rattle.steal_pool.specs.declared.rule.Ticket.{Ticket}
use Rattle.steal_pool.specs.declared.seats.Pool.{Pool}
use Rattle.steal_pool.specs.declared.seats.Seat.{Seat}
use Rattle.steal_pool.specs.Seats.{Deque, AreThieves, AreSeatsOf, puts_of, pops_of, deque_of, deques_of, owners, stolen_from}
use Rattle.steal_pool.specs.Closing.{AreCounted, HaveNoOlds, IsMember, Leaves, Members, Settles, popped_length, put_length, stolen_total}
use Rattle.steal_pool.proofs.Totals.{sum_by-one}
use Rattle.steal_pool.proofs.Places.{seat_at}

-- seats that have these deques, each at its place
owners_at : (seats : List Seat) (ds : List Deque) → length seats ≡ length ds → ((i : ℕ) (s : Seat) → get_elem? seats i ≡ some s → get_elem? ds i ≡ some (deque_of s)) → owners seats ≡ ds
owners_at [] [] e at = refl
owners_at [] (d ∷ ds) e at = absurd (omega (arith, e))
owners_at (s ∷ ss) [] e at = absurd (omega (arith, e))
owners_at (s ∷ ss) (d ∷ ds) e at =
    let here : deque_of s ≡ d = sym (some-injective d (deque_of s) (at 0 s refl)) in
    let rest = owners_at ss ds (omega (arith, e)) (λ i u h. at (suc i) u h) in
    λ k. here k ∷ rest k

module _ (pool : Pool) where
  all_length : length (deques_of pool) ≡ length pool.stealers.items
  all_length = length-map pool.stealers.items stealer_deque

  seats_few : (seats : List Seat) → AreSeatsOf pool seats → length seats ≤ 64
  seats_few [] a = omega arith
  seats_few (s ∷ ss) a =
      let k = (seat_at pool (s ∷ ss) a 0 s refl).1.0 in
      omega (arith, k.few, a.count, all_length)

  all_owners : (seats : List Seat) → AreSeatsOf pool seats → owners seats ≡ deques_of pool
  all_owners seats a =
      owners_at seats (deques_of pool) (a.count ∙ sym all_length)
      (λ i s at. subst (λ (j : ℕ). get_elem? (deques_of pool) j ≡ some (deque_of s)) (seat_at pool seats a i s at).0 (seat_at pool seats a i s at).1.0.own)

  pub counted_of : (seats : List Seat) → AreSeatsOf pool seats → AreCounted seats
  counted_of seats a = (
    seats_few seats a,
    λ i s at.
        let k = (seat_at pool seats a i s at).1.0 in
        (k.put, k.popped, k.put_most, k.popped_most),
  )

  pub members_of : (seats : List Seat) → AreSeatsOf pool seats → Members seats
  members_of seats a = (
    seats_few seats a,
    λ i s at.
        let n = (seat_at pool seats a i s at).0 in
        let k = (seat_at pool seats a i s at).1.0 in
        let steals = (seat_at pool seats a i s at).1.1 in
        subst (λ (ds : List Deque). IsMember ds i s) (sym (all_owners seats a)) (record {
          number = n;
          port = k.port;
          parts = k.parts;
          below = subst (λ (j : ℕ). AreThieves (take j (deques_of pool)) s.below.items) n k.below;
          above = subst (λ (j : ℕ). AreThieves (drop (suc j) (deques_of pool)) s.above.items) n k.above;
          steals = steals;
          most = omega (arith, k.put, k.put_most);
        }),
  )

  pub no_olds_of : (seats : List Seat) → AreSeatsOf pool seats → HaveNoOlds seats
  no_olds_of seats a i s at = (seat_at pool seats a i s at).1.2

-- the counts of the seats below i
pub record Counted (seats : List Seat) (i p q : ℕ) : Type 0 where
  pub put : p ≡ sum_by put_length (take i seats)
  pub popped : q ≡ sum_by popped_length (take i seats)
  pub few_put : p ≤ i * (2 ^ 57)
  pub few_popped : q ≤ i * (2 ^ 57)

module _ (seats : List Seat) (i p q : ℕ) (s : Seat) (all : AreCounted seats) (within : i < length seats) (is : s ≡ get_or seats i s) (so_far : Counted seats i p q) where
  one : (s.put ≡ length (puts_of s)) × (s.popped ≡ length (pops_of s)) × (s.put ≤ 2 ^ 57) × (s.popped ≤ 2 ^ 57)
  one = all.1 i s (at_index seats i s within is)

  more : (f : Seat → ℕ) → sum_by f (take (i + 1) seats) ≡ sum_by f (take i seats) + f s
  more f = sum_by_more f seats i s within ∙ ap (λ (u : Seat). sum_by f (take i seats) + f u) (sym is)

  pub put_fits : p + s.put < 2 ^ 64
  put_fits = omega (arith, so_far.few_put, one.2, all.0, within)

  pub popped_fits : q + s.popped < 2 ^ 64
  popped_fits = omega (arith, so_far.few_popped, one.3, all.0, within)

  pub counts_on : Counted seats (i + 1) (p + s.put) (q + s.popped)
  counts_on = record {
    put = omega (arith, more put_length, so_far.put, one.0);
    popped = omega (arith, more popped_length, so_far.popped, one.1);
    few_put = omega (arith, so_far.few_put, one.2);
    few_popped = omega (arith, so_far.few_popped, one.3);
  }

-- what was put is what was popped, stolen and left
pub settled_sum : (all : List Seat) (j : ℕ) (ss : List Seat) (ls : List (List Ticket)) → Settles all j ss ls
    → sum_by put_length ss ≡ sum_by popped_length ss + stolen_total all j ss + sum_by (λ (l : List Ticket). length l) ls
settled_sum all j [] [] h = refl
settled_sum all j [] (l ∷ ls) h = absurd h
settled_sum all j (s ∷ ss) [] h = absurd h
settled_sum all j (s ∷ ss) (l ∷ ls) h =
    let w = h.0.1 (λ _. 1) in
    let ones : sum_by (λ (u : Seat). sum_by (λ _. 1) (stolen_from j u)) all ≡ sum_by (λ (u : Seat). length (stolen_from j u)) all = ones_are all in
    omega (
      arith,
      settled_sum all (suc j) ss ls h.1,
      sum_by-one (puts_of s),
      sum_by-one (pops_of s),
      sum_by-one l,
      sum_by-cons put_length s ss,
      sum_by-cons popped_length s ss,
      sum_by-cons (λ (k : List Ticket). length k) l ls,
    )
  where
    ones_are : (us : List Seat) → sum_by (λ (u : Seat). sum_by (λ _. 1) (stolen_from j u)) us ≡ sum_by (λ (u : Seat). length (stolen_from j u)) us
    ones_are [] = refl
    ones_are (u ∷ us) = omega (arith, ones_are us, sum_by-one (stolen_from j u), sum_by-cons (λ (v : Seat). sum_by (λ _. 1) (stolen_from j v)) u us, sum_by-cons (λ (v : Seat). length (stolen_from j v)) u us)

pub whole_tally : (all : List Seat) (left : ℕ) → Leaves all left → sum_by put_length all ≡ sum_by popped_length all + stolen_total all 0 all + left
whole_tally all left h = omega (arith, settled_sum all 0 all h.0 h.1, h.2)
