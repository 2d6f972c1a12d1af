-- Loops that are nested: a head belongs to one loop, and a loop around a block in an inner loop holds the inner loop.
use Rattle.std.proofs.Common.{◌≡◌, ℕ, ◌<◌, ◌≤◌, nat_eq, nat_le, nat_lt, Bool, true, false, ◌&&◌, ◌||◌, List, [], ◌∷◌, arith, refl, inl, inr, ◌⊎◌}
use Rattle.std.proofs.lemmas.Bool.Decides.{nat_tests}
use Rattle.std.specs.List.{list_all}
use Rattle.src_prog.specs.Loops.{holds_block, loop_is_within, is_apart_or_inside, are_nested, goes_back, enters_at_head, edge_fits}
use Rattle.src_prog.specs.declared.proc.SrcLoop.{SrcLoop}
use Rattle.hy_val.proofs.Booleans.{and-first, and-second}

-- one of the loops has this head and this exit
abbrev pub IsLoop : List SrcLoop → (head exit : ℕ) → Type 0
IsLoop [] head exit = ⊥
IsLoop (l ∷ ls) head exit = ((l.head ≡ head) × (l.exit ≡ exit)) ⊎ IsLoop ls head exit

-- the head is above 0 and below the exit
pub head_below : (blocks : ℕ) (loops : List SrcLoop) (h e : ℕ) → list_all (loop_is_within blocks) loops ≡ true → IsLoop loops h e → (0 < h) × (h < e)
head_below blocks [] h e w i = absurd i
head_below blocks (l ∷ ls) h e w (inl (a, b)) =
    let one = and-first (loop_is_within blocks l) (list_all (loop_is_within blocks) ls) w in
    let p = and-first (nat_lt 0 l.head) _ one in
    let q = and-first (nat_lt l.head l.exit) _ (and-second (nat_lt 0 l.head) _ one) in
    let p' : 0 < l.head = grind (arith, nat_tests) in
    let q' : l.head < l.exit = grind (arith, nat_tests) in
    (omega arith, omega arith)
head_below blocks (l ∷ ls) h e w (inr i) = head_below blocks ls h e (and-second (loop_is_within blocks l) (list_all (loop_is_within blocks) ls) w) i

or-either : (a b : Bool) → (a || b) ≡ true → (a ≡ true) ⊎ (b ≡ true)
or-either true b h = inl refl
or-either false b h = inr h

-- a loop apart from those behind it, or around them
pub first_nested : (l : SrcLoop) (ls : List SrcLoop) (h e : ℕ) → list_all (is_apart_or_inside l) ls ≡ true → IsLoop ls h e → (l.head < h) × ((l.exit ≤ h) ⊎ (e < l.exit))
first_nested l [] h e w i = absurd i
first_nested l (m ∷ ms) h e w (inl (a, b)) =
    let one = and-first (is_apart_or_inside l m) (list_all (is_apart_or_inside l) ms) w in
    let p = and-first (nat_lt l.head m.head) _ one in
    let q = and-second (nat_lt l.head m.head) _ one in
    let p' : l.head < m.head = grind (arith, nat_tests) in
    (omega arith, either (or-either (nat_le l.exit m.head) (nat_lt m.exit l.exit) q))
  where
    either : (nat_le l.exit m.head ≡ true) ⊎ (nat_lt m.exit l.exit ≡ true) → (l.exit ≤ h) ⊎ (e < l.exit)
    either (inl s) = let s' : l.exit ≤ m.head = grind (arith, nat_tests) in inl (omega arith)
    either (inr s) = let s' : m.exit < l.exit = grind (arith, nat_tests) in inr (omega arith)
first_nested l (m ∷ ms) h e w (inr i) = first_nested l ms h e (and-second (is_apart_or_inside l m) (list_all (is_apart_or_inside l) ms) w) i

-- of two loops the one with the greater head is apart from the other or inside it
pub nested : (loops : List SrcLoop) (h e k f : ℕ) → are_nested loops ≡ true → IsLoop loops h e → IsLoop loops k f → h < k → (e ≤ k) ⊎ (f < e)
nested [] h e k f w i j lt = absurd i
nested (l ∷ ls) h e k f w (inl (a, b)) (inl (c, d)) lt = absurd (omega arith)
nested (l ∷ ls) h e k f w (inl (a, b)) (inr j) lt =
    let n = first_nested l ls k f (and-first (list_all (is_apart_or_inside l) ls) (are_nested ls) w) j in
    either n.1
  where
    either : (l.exit ≤ k) ⊎ (f < l.exit) → (e ≤ k) ⊎ (f < e)
    either (inl s) = inl (omega arith)
    either (inr s) = inr (omega arith)
nested (l ∷ ls) h e k f w (inr i) (inl (c, d)) lt =
    let n = first_nested l ls h e (and-first (list_all (is_apart_or_inside l) ls) (are_nested ls) w) i in
    let m = n.0 in
    absurd (omega arith)
nested (l ∷ ls) h e k f w (inr i) (inr j) lt = nested ls h e k f (and-second (list_all (is_apart_or_inside l) ls) (are_nested ls) w) i j lt

-- two loops with one head have one exit
pub one_exit : (loops : List SrcLoop) (h e f : ℕ) → are_nested loops ≡ true → IsLoop loops h e → IsLoop loops h f → e ≡ f
one_exit [] h e f w i j = absurd i
one_exit (l ∷ ls) h e f w (inl (a, b)) (inl (c, d)) = omega arith
one_exit (l ∷ ls) h e f w (inl (a, b)) (inr j) =
    let n = first_nested l ls h f (and-first (list_all (is_apart_or_inside l) ls) (are_nested ls) w) j in
    let m = n.0 in
    absurd (omega arith)
one_exit (l ∷ ls) h e f w (inr i) (inl (c, d)) =
    let n = first_nested l ls h e (and-first (list_all (is_apart_or_inside l) ls) (are_nested ls) w) i in
    let m = n.0 in
    absurd (omega arith)
one_exit (l ∷ ls) h e f w (inr i) (inr j) = one_exit ls h e f (and-second (list_all (is_apart_or_inside l) ls) (are_nested ls) w) i j

-- ---- edges

-- What an edge keeps: it leads to a greater block or to the head of a loop that holds the block, and a loop that holds the target but not the
-- block has the target as its head.
pub record Edge (loops : List SrcLoop) (block target : ℕ) : Type 0 where
  pub way : (block < target) ⊎ ((exit : ℕ) × IsLoop loops target exit × (target ≤ block) × (block < exit))
  pub enters : (h e : ℕ) → IsLoop loops h e → h ≤ target → target < e → ((h ≤ block) × (block < e)) ⊎ (h ≡ target)

back_to : (loops : List SrcLoop) (block target : ℕ) → goes_back loops block target ≡ true → (exit : ℕ) × IsLoop loops target exit × (target ≤ block) × (block < exit)
back_to [] block target h = cc
back_to (l ∷ ls) block target h = at (λ k. back_to ls block target k) (or-either (nat_eq l.head target && holds_block l block) (goes_back ls block target) h)
  where
    at : (goes_back ls block target ≡ true → (exit : ℕ) × IsLoop ls target exit × (target ≤ block) × (block < exit)) → ((nat_eq l.head target && holds_block l block) ≡ true) ⊎ (goes_back ls block target ≡ true) → (exit : ℕ) × IsLoop (l ∷ ls) target exit × (target ≤ block) × (block < exit)
    at rec (inl s) =
        let p = and-first (nat_eq l.head target) _ s in
        let q = and-second (nat_eq l.head target) _ s in
        let a = and-first (nat_le l.head block) _ q in
        let b = and-second (nat_le l.head block) _ q in
        let p' : l.head ≡ target = grind (arith, nat_tests) in
        let a' : l.head ≤ block = grind (arith, nat_tests) in
        let b' : block < l.exit = grind (arith, nat_tests) in
        (l.exit, inl (p', refl), omega arith, b')
    at rec (inr s) = let r = rec s in (r.0, inr r.1, r.2, r.3)

enters_all : (loops : List SrcLoop) (block target : ℕ) → list_all (enters_at_head block target) loops ≡ true
    → (h e : ℕ) → IsLoop loops h e → h ≤ target → target < e → ((h ≤ block) × (block < e)) ⊎ (h ≡ target)
enters_all [] block target w h e i a b = absurd i
enters_all (l ∷ ls) block target w h e (inl (c, d)) a b =
    let one = and-first (enters_at_head block target l) (list_all (enters_at_head block target) ls) w in
    grind (arith, nat_tests)
enters_all (l ∷ ls) block target w h e (inr i) a b = enters_all ls block target (and-second (enters_at_head block target l) (list_all (enters_at_head block target) ls) w) h e i a b

pub edge : (loops : List SrcLoop) (block target : ℕ) → edge_fits loops block target ≡ true → Edge loops block target
edge loops block target h =
    record {
      way = at (or-either (nat_lt block target) (goes_back loops block target) (and-first (nat_lt block target || goes_back loops block target) _ h));
      enters = enters_all loops block target (and-second (nat_lt block target || goes_back loops block target) _ h);
    }
  where
    at : (nat_lt block target ≡ true) ⊎ (goes_back loops block target ≡ true) → (block < target) ⊎ ((exit : ℕ) × IsLoop loops target exit × (target ≤ block) × (block < exit))
    at (inl s) = let s' : block < target = grind (arith, nat_tests) in inl s'
    at (inr s) = inr (back_to loops block target s)
