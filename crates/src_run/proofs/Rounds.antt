-- How far a frame is from the end of its procedure: a number whose digits are the rounds that are left for each loop, the outer loops first. A back
-- edge makes it smaller, and an edge to a greater block does not make it greater.
use Rattle.std.proofs.Common.{◌≡◌, ℕ, ◌+◌, ◌-◌, ◌*◌, ◌<◌, ◌≤◌, nat_lt, Bool, true, false, if◌then◌else◌, List, [], ◌∷◌, arith, refl, inl, inr, ◌⊎◌}
use Rattle.std.proofs.Math.Nat.{mul-le-mul_right, add-mul}
use Rattle.std.proofs.lemmas.Bool.Decides.{nat_tests}
use Rattle.std.specs.List.{list_all}
use Rattle.src_prog.specs.Loops.{is_apart_or_inside, are_nested}
use Rattle.src_prog.specs.declared.proc.SrcLoop.{SrcLoop}
use Rattle.src_run.specs.Machine.{Lap}
use Rattle.hy_val.proofs.Booleans.{and-first, and-second}
use Rattle.src_run.proofs.Nested.{IsLoop, Edge, first_nested}
use Rattle.src_run.proofs.Laps.{rounds, LapsFit, Landing}

-- more than the bound before the loop, the rounds that the bound leaves inside, and 0 behind it
abbrev pub left_in : (bound block : ℕ) → List Lap → (head exit : ℕ) → ℕ
left_in bound block laps head exit = if nat_lt block head then bound + 1 else if nat_lt block exit then bound - rounds laps head exit else 0

abbrev pub weight : ℕ → List SrcLoop → ℕ
weight bound [] = 1
weight bound (l ∷ ls) = (bound + 2) * weight bound ls

abbrev pub rounds_left : (bound block : ℕ) → List Lap → List SrcLoop → ℕ
rounds_left bound block laps [] = 0
rounds_left bound block laps (l ∷ ls) = left_in bound block laps l.head l.exit * weight bound ls + rounds_left bound block laps ls

-- ---- one loop

before : (bound block : ℕ) (laps : List Lap) (h e : ℕ) → block < h → left_in bound block laps h e ≡ bound + 1
before bound block laps h e lt = let t : nat_lt block h ≡ true = grind (arith, nat_tests) in rw t refl

within : (bound block : ℕ) (laps : List Lap) (h e : ℕ) → h ≤ block → block < e → left_in bound block laps h e ≡ bound - rounds laps h e
within bound block laps h e le lt =
    let t : nat_lt block h ≡ false = grind (arith, nat_tests) in
    let u : nat_lt block e ≡ true = grind (arith, nat_tests) in
    rw (t, u) refl

behind : (bound block : ℕ) (laps : List Lap) (h e : ℕ) → h ≤ block → e ≤ block → left_in bound block laps h e ≡ 0
behind bound block laps h e le past =
    let t : nat_lt block h ≡ false = grind (arith, nat_tests) in
    let u : nat_lt block e ≡ false = grind (arith, nat_tests) in
    rw (t, u) refl

left_most : (bound block : ℕ) (laps : List Lap) (h e : ℕ) → left_in bound block laps h e < bound + 2
left_most bound block laps h e = one (nat_lt block h)
  where
    two : (b : Bool) → (if b then bound - rounds laps h e else 0) < bound + 2
    two true = omega arith
    two false = omega arith

    one : (b : Bool) → (if b then bound + 1 else if nat_lt block e then bound - rounds laps h e else 0) < bound + 2
    one true = omega arith
    one false = two (nat_lt block e)

-- where a block is: before a loop, in it or behind it
data Place (block h e : ℕ) : Type 0 where
  IsBefore : block < h → Place block h e
  IsWithin : h ≤ block → block < e → Place block h e
  IsBehind : h ≤ block → e ≤ block → Place block h e

place : (block h e : ℕ) → Place block h e
place block h e = one (nat_lt block h) refl
  where
    two : (b : Bool) → h ≤ block → nat_lt block e ≡ b → Place block h e
    two true le k = IsWithin le (grind (arith, nat_tests))
    two false le k = IsBehind le (grind (arith, nat_tests))

    one : (b : Bool) → nat_lt block h ≡ b → Place block h e
    one true k = IsBefore (grind (arith, nat_tests))
    one false k = two (nat_lt block e) (grind (arith, nat_tests)) refl

-- ---- all loops

rounds_below : (bound block : ℕ) (laps : List Lap) (loops : List SrcLoop) → rounds_left bound block laps loops < weight bound loops
rounds_below bound block laps [] = omega arith
rounds_below bound block laps (l ∷ ls) =
    let most = left_most bound block laps l.head l.exit in
    let rec = rounds_below bound block laps ls in
    let grow : (left_in bound block laps l.head l.exit + 1) * weight bound ls ≤ (bound + 2) * weight bound ls = mul-le-mul_right (weight bound ls) (omega arith) in
    let apart = add-mul (left_in bound block laps l.head l.exit) 1 (weight bound ls) in
    omega arith

not_greater : (bound block to : ℕ) (laps new : List Lap) (loops : List SrcLoop) → ((h e : ℕ) → IsLoop loops h e → left_in bound to new h e ≤ left_in bound block laps h e) → rounds_left bound to new loops ≤ rounds_left bound block laps loops
not_greater bound block to laps new [] each = omega arith
not_greater bound block to laps new (l ∷ ls) each =
    let one = mul-le-mul_right (weight bound ls) (each l.head l.exit (inl (refl, refl))) in
    let rec = not_greater bound block to laps new ls (λ h e i. each h e (inr i)) in
    omega arith

smaller : (bound block to : ℕ) (laps new : List Lap) (exit : ℕ) (loops : List SrcLoop) → are_nested loops ≡ true → IsLoop loops to exit
    → ((h e : ℕ) → IsLoop loops h e → h < to → (e ≤ to) ⊎ (exit < e) → left_in bound to new h e ≤ left_in bound block laps h e) → left_in bound to new to exit < left_in bound block laps to exit
    → rounds_left bound to new loops < rounds_left bound block laps loops
smaller bound block to laps new exit [] nest i each lt = absurd i
smaller bound block to laps new exit (l ∷ ls) nest (inl (p, q)) each lt =
    let less : left_in bound to new l.head l.exit < left_in bound block laps l.head l.exit = rw (p, q) lt in
    let below = rounds_below bound to new ls in
    let grow : (left_in bound to new l.head l.exit + 1) * weight bound ls ≤ left_in bound block laps l.head l.exit * weight bound ls = mul-le-mul_right (weight bound ls) (omega arith) in
    let apart = add-mul (left_in bound to new l.head l.exit) 1 (weight bound ls) in
    omega arith
smaller bound block to laps new exit (l ∷ ls) nest (inr i) each lt =
    let n = first_nested l ls to exit (and-first (list_all (is_apart_or_inside l) ls) (are_nested ls) nest) i in
    let one = mul-le-mul_right (weight bound ls) (each l.head l.exit (inl (refl, refl)) n.0 n.1) in
    let rec = smaller bound block to laps new exit ls (and-second (list_all (is_apart_or_inside l) ls) (are_nested ls) nest) i (λ h e j. each h e (inr j)) lt in
    omega arith

-- ---- edges

-- an edge to a greater block
pub forward : (loops : List SrcLoop) (bound block to : ℕ) (laps new : List Lap) → LapsFit loops block laps → Edge loops block to → Landing loops bound to laps new → block < to
    → rounds_left bound to new loops ≤ rounds_left bound block laps loops
forward loops bound block to laps new fit edge land lt = not_greater bound block to laps new loops each
  where
    inside : (h e : ℕ) → IsLoop loops h e → h ≤ to → to < e → Place block h e → left_in bound to new h e ≤ left_in bound block laps h e
    inside h e i le less (IsBefore p) =
        let x = within bound to new h e le less in
        let y = before bound block laps h e p in
        omega arith
    inside h e i le less (IsWithin p q) =
        let x = within bound to new h e le less in
        let y = within bound block laps h e p q in
        let same = land.keeps h e i (λ z. omega arith) le less in
        omega arith
    inside h e i le less (IsBehind p q) = absurd (omega arith)

    at : (h e : ℕ) → IsLoop loops h e → Place to h e → left_in bound to new h e ≤ left_in bound block laps h e
    at h e i (IsBefore p) =
        let x = before bound to new h e p in
        let y = before bound block laps h e (omega arith) in
        omega arith
    at h e i (IsWithin p q) = inside h e i p q (place block h e)
    at h e i (IsBehind p q) = let x = behind bound to new h e p q in omega arith

    each : (h e : ℕ) → IsLoop loops h e → left_in bound to new h e ≤ left_in bound block laps h e
    each h e i = at h e i (place to h e)

-- a back edge
pub backward : (loops : List SrcLoop) (bound block to : ℕ) (laps new : List Lap) (exit : ℕ) → are_nested loops ≡ true → LapsFit loops block laps → Landing loops bound to laps new → IsLoop loops to exit → to ≤ block → block < exit
    → rounds_left bound to new loops < rounds_left bound block laps loops
backward loops bound block to laps new exit nest fit land i le less = smaller bound block to laps new exit loops nest i each here
  where
    each : (h e : ℕ) → IsLoop loops h e → h < to → (e ≤ to) ⊎ (exit < e) → left_in bound to new h e ≤ left_in bound block laps h e
    each h e j lt (inl p) = let x = behind bound to new h e (omega arith) p in omega arith
    each h e j lt (inr p) =
        let x = within bound to new h e (omega arith) (omega arith) in
        let y = within bound block laps h e (omega arith) (omega arith) in
        let same = land.keeps h e j (λ z. omega arith) (omega arith) (omega arith) in
        omega arith

    here : left_in bound to new to exit < left_in bound block laps to exit
    here =
        let x = within bound to new to exit (omega arith) (omega arith) in
        let y = within bound block laps to exit le less in
        let (one, two) = land.counts to exit (fit.all to exit i le less) refl (omega arith) in
        omega arith
