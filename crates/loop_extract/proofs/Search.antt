-- Searches by halves in numbers that ascend.
use Rattle.std.proofs.Common.{◌≡◌, ◌≢◌, ℕ, zero, suc, ◌+◌, ◌<◌, ◌≤◌, ◌&&◌, nat_eq, nat_le, Bool, true, false, if◌then◌else◌, List, [], ◌∷◌, length, get_or, filter, refl, ap, ◌∙◌, arith}
use Rattle.std.proofs.lemmas.Bool.{leb-true}
use Rattle.std.proofs.lemmas.Bool.Decides.{nat_tests}
use Rattle.hy_val.proofs.Booleans.{and-first, and-second}
use Rattle.extract_def.specs.Places.{index_of}
use Rattle.loop_extract.specs.Ascents.{ascends, IsPlaceFrom}
use Rattle.loop_extract.specs.Flags.{ups}

all_above : (low : ℕ) (ns : List ℕ) (k : ℕ) → ascends low ns ≡ true → k < length ns → low ≤ get_or ns k 0
all_above low [] k h lt = absurd (omega (arith, lt))
all_above low (n ∷ ns) zero h lt = leb-true low n (and-first (nat_le low n) (ascends n ns) h)
all_above low (n ∷ ns) (suc k) h lt =
    let one : low ≤ n = leb-true low n (and-first (nat_le low n) (ascends n ns) h) in
    let more = all_above n ns k (and-second (nat_le low n) (ascends n ns) h) (omega (arith, lt)) in
    omega (arith, one, more)

-- a number that stands before another is not greater
pub in_order : (low : ℕ) (ns : List ℕ) (j k : ℕ) → ascends low ns ≡ true → j ≤ k → k < length ns → get_or ns j 0 ≤ get_or ns k 0
in_order low [] j k h le lt = absurd (omega (arith, lt))
in_order low (n ∷ ns) zero zero h le lt = omega arith
in_order low (n ∷ ns) zero (suc k) h le lt = all_above n ns k (and-second (nat_le low n) (ascends n ns) h) (omega (arith, lt))
in_order low (n ∷ ns) (suc j) zero h le lt = absurd (omega (arith, le))
in_order low (n ∷ ns) (suc j) (suc k) h le lt = in_order n ns j k (and-second (nat_le low n) (ascends n ns) h) (omega (arith, le)) (omega (arith, lt))

pub below_half : (number : ℕ) (ns : List ℕ) (middle k : ℕ) → ascends 0 ns ≡ true → middle < length ns → get_or ns middle 0 < number → k < middle + 1 → get_or ns k 0 < number
below_half number ns middle k up lt less h = let order = in_order 0 ns k middle up (omega (arith, h)) lt in omega (arith, order, less)

pub above_half : (number : ℕ) (ns : List ℕ) (middle k : ℕ) → ascends 0 ns ≡ true → number ≤ get_or ns middle 0 → middle ≤ k → k < length ns → number ≤ get_or ns k 0
above_half number ns middle k up more le lt = let order = in_order 0 ns middle k up le lt in omega (arith, order, more)

differ : (m n : ℕ) → m ≢ n → nat_eq m n ≡ false
differ m n h = grind (arith, nat_tests)

same : (m n : ℕ) → m ≡ n → nat_eq m n ≡ true
same m n h = grind (arith, nat_tests)

-- the first place where the number stands
pub index_found : (number : ℕ) (ns : List ℕ) (place : ℕ) → ((k : ℕ) → k < place → get_or ns k 0 < number) → place < length ns → get_or ns place 0 ≡ number → index_of number ns ≡ place
index_found number [] place less lt is = absurd (omega (arith, lt))
index_found number (n ∷ ns) zero less lt is = ap (λ b. if b then 0 else index_of number ns + 1) (same n number is)
index_found number (n ∷ ns) (suc place) less lt is =
    let first : n < number = less 0 (omega arith) in
    let other : n ≢ number = λ e. absurd (omega (arith, first, e)) in
    let rest = index_found number ns place (λ k h. less (suc k) (omega (arith, h))) (omega (arith, lt)) is in
    ap (λ b. if b then 0 else index_of number ns + 1) (differ n number other) ∙ (let z : index_of number ns + 1 ≡ suc place = omega (arith, rest) in z)

pub index_missed : (number : ℕ) (ns : List ℕ) → ((k : ℕ) → k < length ns → get_or ns k 0 ≢ number) → index_of number ns ≡ length ns
index_missed number [] others = refl
index_missed number (n ∷ ns) others =
    let other : n ≢ number = others 0 (omega arith) in
    let rest = index_missed number ns (λ k h. others (suc k) (omega (arith, h))) in
    ap (λ b. if b then 0 else index_of number ns + 1) (differ n number other) ∙ (let z : index_of number ns + 1 ≡ suc (length ns) = omega (arith, rest) in z)

-- where the number is not at the place from which on none is less, it is nowhere
pub index_none : (low number : ℕ) (ns : List ℕ) (place : ℕ) → ascends low ns ≡ true → IsPlaceFrom number ns place → (place < length ns → get_or ns place 0 ≢ number) → index_of number ns ≡ length ns
index_none low number ns place up found never =
    index_missed number ns (λ k lt e. not_there low number ns place k up found never lt e)
  where
    not_there : (low number : ℕ) (ns : List ℕ) (place k : ℕ) → ascends low ns ≡ true → IsPlaceFrom number ns place → (place < length ns → get_or ns place 0 ≢ number) → k < length ns → get_or ns k 0 ≡ number → ⊥
    not_there low number ns place k up found never lt e = either (nat_le place k) refl
      where
        either : (b : Bool) → nat_le place k ≡ b → ⊥
        either true h =
            let le : place ≤ k = leb-true place k h in
            let order = in_order low ns place k up le lt in
            let there : place < length ns = omega (arith, le, lt) in
            let more = found.more place (omega arith) there in
            never there (omega (arith, order, more, e))
        either false h = let below : k < place = grind (arith, nat_tests) in let less = found.less k below in absurd (omega (arith, less, e))

-- ---- numbers of flags ascend

one_more : (low n : ℕ) (b : Bool) (ns : List ℕ) → low ≤ n → ascends n ns ≡ true → ascends low ns ≡ true → ascends low (if b then n ∷ ns else ns) ≡ true
one_more low n true ns le above here = let first : nat_le low n ≡ true = grind (arith, nat_tests) in ap (λ b. b && ascends n ns) first ∙ above
one_more low n false ns le above here = here

ups_ascend : (low n : ℕ) (flags : List Bool) → low ≤ n → (test : ℕ → Bool) → ascends low (filter test (ups n flags)) ≡ true
ups_ascend low n [] le test = refl
ups_ascend low n (true ∷ flags) le test =
    one_more low n (test n) (filter test (ups (n + 1) flags)) le (ups_ascend n (n + 1) flags (omega arith) test) (ups_ascend low (n + 1) flags (omega (arith, le)) test)
ups_ascend low n (false ∷ flags) le test = ups_ascend low (n + 1) flags (omega (arith, le)) test

pub flags_ascend : (flags : List Bool) (test : ℕ → Bool) → ascends 0 (filter test (ups 0 flags)) ≡ true
flags_ascend flags test = ups_ascend 0 0 flags (omega arith) test
