-- All seats of a pool, by their places.
use Rattle.std.proofs.Common.{◌≡◌, ℕ, zero, suc, ◌<◌, List, [], ◌∷◌, All, slice_index_or, length, sym, refl, ap, ◌∙◌, subst, arith}
use mathlib.Core.Option.{some, some-ne-none, some-injective}
use lib.ListN.{get_elem?}
use Rattle.steal_pool.specs.declared.seats.Pool.{Pool}
use Rattle.steal_pool.specs.declared.seats.Seat.{Seat}
use Rattle.steal_pool.specs.Seats.{IsSeatOf, AreSeatsOf, number_of}

module _ {A : Type 0} where
  or_is : (xs : List A) (i : ℕ) (x d : A) → get_elem? xs i ≡ some x → slice_index_or xs i d ≡ x
  or_is [] i x d at = absurd (some-ne-none x (sym at))
  or_is (y ∷ ys) zero x d at = some-injective y x at
  or_is (y ∷ ys) (suc i) x d at = or_is ys i x d at

  is_within : (xs : List A) (i : ℕ) (x : A) → get_elem? xs i ≡ some x → i < length xs
  is_within [] i x at = absurd (some-ne-none x (sym at))
  is_within (y ∷ ys) zero x at = omega arith
  is_within (y ∷ ys) (suc i) x at = let h = is_within ys i x at in omega arith

  -- what holds of the element at each place holds of all
  pub each_at : (P : ℕ → A → Type 0) (xs : List A) → ((i : ℕ) (x : A) → get_elem? xs i ≡ some x → P i x) → (i : ℕ) (d : A) → i < length xs → P i (slice_index_or xs i d)
  each_at P [] h i d lt = absurd (omega arith)
  each_at P (x ∷ xs) h zero d lt = h 0 x refl
  each_at P (x ∷ xs) h (suc i) d lt = each_at (λ j y. P (suc j) y) xs (λ j y at. h (suc j) y at) i d (omega arith)

  pub all_of : (P : A → Type 0) (xs : List A) → ((i : ℕ) (x : A) → get_elem? xs i ≡ some x → P x) → All P xs
  all_of P xs h = each_at (λ _ x. P x) xs h

module _ (pool : Pool) (seats : List Seat) where
  pub seat_at : AreSeatsOf pool seats → (i : ℕ) (s : Seat) → get_elem? seats i ≡ some s → (s.number ≡ i) × IsSeatOf pool s
  seat_at a i s at =
      let lt = is_within seats i s at in
      let is = or_is seats i s s at in
      (ap number_of (sym is) ∙ a.numbers i s lt, subst (IsSeatOf pool) is (a.ours i s lt))

  module _ (each : (i : ℕ) (s : Seat) → get_elem? seats i ≡ some s → (s.number ≡ i) × IsSeatOf pool s) where
    pub ours_of : All (IsSeatOf pool) seats
    ours_of = all_of (IsSeatOf pool) seats (λ i s at. (each i s at).1)

    pub numbers_of : (i : ℕ) (d : Seat) → i < length seats → number_of (slice_index_or seats i d) ≡ i
    numbers_of = each_at (λ i s. number_of s ≡ i) seats (λ i s at. (each i s at).0)
