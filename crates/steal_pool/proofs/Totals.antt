-- Sums over the views of all passes.
use Rattle.std.proofs.Common.{◌≡◌, ◌≢◌, ℕ, zero, suc, ◌+◌, ◌≤◌, List, [], ◌∷◌, ◌++◌, length, set, sym, refl, ap, subst, arith, ⊎_elim}
use Rattle.std.specs.List.{sum_by}
use Rattle.std.proofs.lemmas.List.Sums.{sum_by-cons}
use mathlib.Core.Option.{some, some-ne-none, some-injective}
use lib.ListN.{get_elem?}
use Rattle.crossbeam_deque.proofs.Lists.{at_set, at_snoc}

module _ {V : Type 0} where
  -- the sum after a change of one view
  pub sum_by-changed : (f : V → ℕ) (views : List V) (port : ℕ) (v w : V) → get_elem? views port ≡ some v → sum_by f (set views port w) + f v ≡ sum_by f views + f w
  sum_by-changed f [] port v w at = absurd (some-ne-none v (sym at))
  sum_by-changed f (x ∷ xs) zero v w at =
      let e : f x ≡ f v = ap f (some-injective x v at) in
      omega (arith, sum_by-cons f x xs, sum_by-cons f w xs, e)
  sum_by-changed f (x ∷ xs) (suc port) v w at =
      omega (arith, sum_by-cons f x xs, sum_by-cons f x (set xs port w), sum_by-changed f xs port v w at)

  abbrev pub AllAt : (V → Type 0) → List V → Type 0
  AllAt F views = (port : ℕ) (v : V) → get_elem? views port ≡ some v → F v

  pub all_at_set : (F : V → Type 0) (views : List V) (port : ℕ) (w : V) → F w → AllAt F views → AllAt F (set views port w)
  all_at_set F views port w mine all j u e = ⊎_elim (λ (x : (j ≡ port) × (w ≡ u)). subst F x.1 mine) (λ (x : (j ≢ port) × (get_elem? views j ≡ some u)). all j u x.1) (at_set views port j w u e)

  pub all_at_snoc : (F : V → Type 0) (views : List V) (w : V) → F w → AllAt F views → AllAt F (views ++ w ∷ [])
  all_at_snoc F views w mine all j u e = ⊎_elim (λ (x : get_elem? views j ≡ some u). all j u x) (λ (x : w ≡ u). subst F x mine) (at_snoc views w u j e)

  -- where no view has parts, nothing is counted
  pub sum_by-idle : (parts f : V → ℕ) (views : List V) → AllAt (λ u. parts u ≡ 0 → f u ≡ 0) views → sum_by parts views ≡ 0 → sum_by f views ≡ 0
  sum_by-idle parts f [] idle none = refl
  sum_by-idle parts f (x ∷ xs) idle none =
      let c = sum_by-cons parts x xs in
      let here : f x ≡ 0 = idle 0 x refl (omega arith) in
      let rest : sum_by f xs ≡ 0 = sum_by-idle parts f xs (λ j u e. idle (suc j) u e) (omega arith) in
      omega (arith, sum_by-cons f x xs)

  pub part_within : (f : V → ℕ) (views : List V) (port : ℕ) (v : V) → get_elem? views port ≡ some v → f v ≤ sum_by f views
  part_within f [] port v at = absurd (some-ne-none v (sym at))
  part_within f (x ∷ xs) zero v at = let e : f x ≡ f v = ap f (some-injective x v at) in omega (arith, sum_by-cons f x xs)
  part_within f (x ∷ xs) (suc port) v at = omega (arith, sum_by-cons f x xs, part_within f xs port v at)

  -- where one view has all parts, only it is counted
  pub sum_by-alone : (parts f : V → ℕ) (views : List V) (port : ℕ) (v : V) → get_elem? views port ≡ some v → AllAt (λ u. parts u ≡ 0 → f u ≡ 0) views → sum_by parts views ≡ parts v → sum_by f views ≡ f v
  sum_by-alone parts f [] port v at idle whole = absurd (some-ne-none v (sym at))
  sum_by-alone parts f (x ∷ xs) zero v at idle whole =
      let c = sum_by-cons parts x xs in
      let same = ap parts (some-injective x v at) in
      let also = ap f (some-injective x v at) in
      let rest : sum_by f xs ≡ 0 = sum_by-idle parts f xs (λ j u e. idle (suc j) u e) (omega arith) in
      omega (arith, sum_by-cons f x xs)
  sum_by-alone parts f (x ∷ xs) (suc port) v at idle whole =
      let c = sum_by-cons parts x xs in
      let within : parts v ≤ sum_by parts xs = part_within parts xs port v at in
      let here : f x ≡ 0 = idle 0 x refl (omega arith) in
      let rest : sum_by f xs ≡ f v = sum_by-alone parts f xs port v at (λ j u e. idle (suc j) u e) (omega arith) in
      omega (arith, sum_by-cons f x xs)

  pub sum_by-one : (xs : List V) → sum_by (λ _. 1) xs ≡ length xs
  sum_by-one [] = refl
  sum_by-one (x ∷ xs) = omega (arith, sum_by-cons (λ (_ : V). 1) x xs, sum_by-one xs)
