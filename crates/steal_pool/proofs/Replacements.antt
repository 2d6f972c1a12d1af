-- Seats that were used are still all seats of the pool.
use Rattle.std.proofs.Common.{◌≡◌, ◌≢◌, ℕ, ◌<◌, List, slice_index_or, get_or, length, set, sym, ◌∙◌, subst, arith, ⊎_elim}
use Rattle.std.proofs.lemmas.List.{length-set}
use mathlib.Core.Option.{some}
use lib.ListN.{get_elem?}
use Rattle.crossbeam_deque.proofs.Lists.{at_index, at_set}
use Rattle.steal_pool.specs.declared.seats.Pool.{Pool}
use Rattle.steal_pool.specs.declared.seats.Seat.{Seat}
use Rattle.steal_pool.specs.Seats.{IsSeatOf, AreSeatsOf, number_of}
use Rattle.steal_pool.proofs.Places.{seat_at, ours_of, numbers_of}

module _ (pool : Pool) (seats : List Seat) (all : AreSeatsOf pool seats) where
  pub here : (at : ℕ) (x : Seat) → at < length seats → x ≡ get_or seats at x → (x.number ≡ at) × IsSeatOf pool x
  here at x within is = seat_at pool seats all at x (at_index seats at x within is)

  -- one seat was used
  pub replaced : (at : ℕ) (x y : Seat) → at < length seats → x ≡ get_or seats at x → y.number ≡ x.number → IsSeatOf pool y → AreSeatsOf pool (set seats at y)
  replaced at x y within is same kept = record {
    count = length-set seats at y ∙ all.count;
    ours = ours_of pool (set seats at y) each;
    numbers = numbers_of pool (set seats at y) each;
  }
    where
      each : (i : ℕ) (s : Seat) → get_elem? (set seats at y) i ≡ some s → (s.number ≡ i) × IsSeatOf pool s
      each i s h = ⊎_elim
          (λ (e : (i ≡ at) × (y ≡ s)). subst (λ (u : Seat). (u.number ≡ i) × IsSeatOf pool u) e.1 (same ∙ (here at x within is).0 ∙ sym e.0, kept))
          (λ (e : (i ≢ at) × (get_elem? seats i ≡ some s)). seat_at pool seats all i s e.1)
          (at_set seats at i y s h)

  -- each seat was used, and kept its number
  pub all_used : (new : List Seat) → length new ≡ length seats
      → ((i : ℕ) (d : Seat) → i < length seats → IsSeatOf pool (slice_index_or new i d) × (number_of (slice_index_or new i d) ≡ number_of (slice_index_or seats i d)))
      → AreSeatsOf pool new
  all_used new e kept = record {
    count = e ∙ all.count;
    ours = (λ i d lt. (kept i d (omega (arith, lt, e))).0);
    numbers = (λ i d lt. let h : i < length seats = omega (arith, lt, e) in (kept i d h).1 ∙ all.numbers i d h);
  }
