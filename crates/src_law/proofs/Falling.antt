-- Lists of loops whose heads fall are equal where they have the same loops; those around a block, innermost first, are one.
use Rattle.std.proofs.Common.{◌≡◌, ℕ, ◌<◌, ◌≤◌, nat_eq, nat_le, Bool, true, false, if◌then◌else◌, List, [], ◌∷◌, ◌++◌, map, filter, reverse, arith, refl, sym, subst, inl, inr}
use Rattle.std.proofs.lemmas.Bool.{ne_eqb}
use Rattle.std.proofs.lemmas.Bool.Decides.{nat_tests}
use Rattle.std.proofs.lemmas.Grind.{reverse_onto}
use Rattle.std.proofs.lemmas.List.{reverse-reverse}
use Rattle.std.specs.List.{list_all, IsDistinct, AllByRecursion}
use Rattle.src_prog.specs.Loops.{holds_block, is_apart_or_inside, are_nested}
use Rattle.src_prog.specs.declared.proc.SrcLoop.{SrcLoop}
use Rattle.hy_val.proofs.Booleans.{and-first, and-second}
use Rattle.src_run.specs.Machine.{Lap}
use Rattle.src_law.specs.OpenLoops.{loop_of, loops_around}
use Rattle.src_run.proofs.Nested.{IsLoop, first_nested}
use Rattle.src_run.proofs.Laps.{IsOpen, HeadsBelow, Around, LapsFit}

-- all heads are below this one
abbrev Below : ℕ → List SrcLoop → Type 0
Below head [] = Unit {0}
Below head (l ∷ ls) = (l.head < head) × Below head ls

-- each head is above those behind it
abbrev Falls : List SrcLoop → Type 0
Falls [] = Unit {0}
Falls (l ∷ ls) = Below l.head ls × Falls ls

below_all : (ls : List SrcLoop) (head h e : ℕ) → Below head ls → IsLoop ls h e → h < head
below_all [] head h e b i = absurd i
below_all (l ∷ ls) head h e b (inl (p, q)) = let r = b.0 in omega arith
below_all (l ∷ ls) head h e b (inr i) = below_all ls head h e b.1 i

same_loop : (l m : SrcLoop) → l.head ≡ m.head → l.exit ≡ m.exit → l ≡ m
same_loop l m p q = subst (λ h. l ≡ record { head = h; exit = m.exit }) p (subst (λ e. l ≡ record { head = l.head; exit = e }) q refl)

same_lists : (l m : SrcLoop) (ls ms : List SrcLoop) → l ≡ m → ls ≡ ms → l ∷ ls ≡ m ∷ ms
same_lists l m ls ms p q = rw (p, q) refl

same_falling : (ls ms : List SrcLoop) → Falls ls → Falls ms → ((h e : ℕ) → IsLoop ls h e → IsLoop ms h e) → ((h e : ℕ) → IsLoop ms h e → IsLoop ls h e) → ls ≡ ms
same_falling [] [] f g to from = refl
same_falling [] (m ∷ ms) f g to from = absurd (from m.head m.exit (inl (refl, refl)))
same_falling (l ∷ ls) [] f g to from = absurd (to l.head l.exit (inl (refl, refl)))
same_falling (l ∷ ls) (m ∷ ms) f g to from = same_lists l m ls ms (same_loop l m first.0 first.1) (same_falling ls ms f.1 g.1 there back)
  where
    first : (l.head ≡ m.head) × (l.exit ≡ m.exit)
    first = at (to l.head l.exit (inl (refl, refl))) (from m.head m.exit (inl (refl, refl)))
      where
        at : IsLoop (m ∷ ms) l.head l.exit → IsLoop (l ∷ ls) m.head m.exit → (l.head ≡ m.head) × (l.exit ≡ m.exit)
        at (inl (p, q)) j = (sym p, sym q)
        at (inr i) (inl (p, q)) = (p, q)
        at (inr i) (inr j) =
            let one = below_all ms m.head l.head l.exit g.0 i in
            let two = below_all ls l.head m.head m.exit f.0 j in
            absurd (omega arith)

    there : (h e : ℕ) → IsLoop ls h e → IsLoop ms h e
    there h e i = at (to h e (inr i))
      where
        at : IsLoop (m ∷ ms) h e → IsLoop ms h e
        at (inr j) = j
        at (inl (p, q)) =
            let lower = below_all ls l.head h e f.0 i in
            let same = first.0 in
            absurd (omega arith)

    back : (h e : ℕ) → IsLoop ms h e → IsLoop ls h e
    back h e i = at (from h e (inr i))
      where
        at : IsLoop (l ∷ ls) h e → IsLoop ls h e
        at (inr j) = j
        at (inl (p, q)) =
            let lower = below_all ms m.head h e g.0 i in
            let same = first.0 in
            absurd (omega arith)

-- ---- reversed lists

in_left : (ls ms : List SrcLoop) (h e : ℕ) → IsLoop ls h e → IsLoop (ls ++ ms) h e
in_left [] ms h e i = absurd i
in_left (l ∷ ls) ms h e (inl p) = inl p
in_left (l ∷ ls) ms h e (inr i) = inr (in_left ls ms h e i)

in_right : (ls ms : List SrcLoop) (h e : ℕ) → IsLoop ms h e → IsLoop (ls ++ ms) h e
in_right [] ms h e i = i
in_right (l ∷ ls) ms h e i = inr (in_right ls ms h e i)

in_reverse : (ls : List SrcLoop) (h e : ℕ) → IsLoop ls h e → IsLoop (reverse ls) h e
in_reverse [] h e i = absurd i
in_reverse (l ∷ ls) h e i = rw (reverse_onto ls l []) (at (λ j. in_reverse ls h e j) i)
  where
    at : (IsLoop ls h e → IsLoop (reverse ls) h e) → IsLoop (l ∷ ls) h e → IsLoop (reverse ls ++ l ∷ []) h e
    at rec (inl p) = in_right (reverse ls) (l ∷ []) h e (inl p)
    at rec (inr j) = in_left (reverse ls) (l ∷ []) h e (rec j)

of_reverse : (ls : List SrcLoop) (h e : ℕ) → IsLoop (reverse ls) h e → IsLoop ls h e
of_reverse ls h e i = subst (λ (ms : List SrcLoop). IsLoop ms h e) (reverse-reverse ls) (in_reverse (reverse ls) h e i)

below_last : (ls : List SrcLoop) (l : SrcLoop) (head : ℕ) → Below head ls → l.head < head → Below head (ls ++ l ∷ [])
below_last [] l head b lt = (lt, tt)
below_last (m ∷ ms) l head b lt = (b.0, below_last ms l head b.1 lt)

falls_last : (ls : List SrcLoop) (l : SrcLoop) → Falls ls → ((h e : ℕ) → IsLoop ls h e → l.head < h) → Falls (ls ++ l ∷ [])
falls_last [] l f above = (tt, tt)
falls_last (m ∷ ms) l f above = (below_last ms l m.head f.0 (above m.head m.exit (inl (refl, refl))), falls_last ms l f.1 (λ h e i. above h e (inr i)))

-- ---- the loops around a block

module _ (block : ℕ) where
  abbrev holding : List SrcLoop → List SrcLoop
  holding ls = filter (λ l. holds_block l block) ls

  in_holding : (ls : List SrcLoop) (h e : ℕ) → IsLoop ls h e → h ≤ block → block < e → IsLoop (holding ls) h e
  in_holding [] h e i a b = absurd i
  in_holding (l ∷ ls) h e i a b = at (λ j. in_holding ls h e j a b) (holds_block l block) refl i
    where
      at : (IsLoop ls h e → IsLoop (holding ls) h e) → (t : Bool) → holds_block l block ≡ t → IsLoop (l ∷ ls) h e → IsLoop (if t then l ∷ holding ls else holding ls) h e
      at rec true k (inl p) = inl p
      at rec true k (inr j) = inr (rec j)
      at rec false k (inl (p, q)) = absurd (grind (arith, nat_tests))
      at rec false k (inr j) = rec j

  of_holding : (ls : List SrcLoop) (h e : ℕ) → IsLoop (holding ls) h e → IsLoop ls h e × (h ≤ block) × (block < e)
  of_holding [] h e i = absurd i
  of_holding (l ∷ ls) h e i = at (λ j. of_holding ls h e j) (holds_block l block) refl i
    where
      at : (IsLoop (holding ls) h e → IsLoop ls h e × (h ≤ block) × (block < e)) → (t : Bool) → holds_block l block ≡ t → IsLoop (if t then l ∷ holding ls else holding ls) h e → IsLoop (l ∷ ls) h e × (h ≤ block) × (block < e)
      at rec true k (inl (p, q)) =
          let a = and-first (nat_le l.head block) _ k in
          let b = and-second (nat_le l.head block) _ k in
          let a' : l.head ≤ block = grind (arith, nat_tests) in
          let b' : block < l.exit = grind (arith, nat_tests) in
          (inl (p, q), omega arith, omega arith)
      at rec true k (inr j) = let (i, a, b) = rec j in (inr i, a, b)
      at rec false k j = let (i, a, b) = rec j in (inr i, a, b)

  falls_around : (ls : List SrcLoop) → are_nested ls ≡ true → Falls (loops_around ls block)
  falls_around [] nest = tt
  falls_around (l ∷ ls) nest = at (falls_around ls (and-second (list_all (is_apart_or_inside l) ls) _ nest)) (holds_block l block)
    where
      above : (h e : ℕ) → IsLoop (reverse (holding ls)) h e → l.head < h
      above h e i =
          let j = of_holding ls h e (of_reverse (holding ls) h e i) in
          (first_nested l ls h e (and-first (list_all (is_apart_or_inside l) ls) _ nest) j.0).0

      at : Falls (reverse (holding ls)) → (t : Bool) → Falls (reverse (if t then l ∷ holding ls else holding ls))
      at rest true = rw (reverse_onto (holding ls) l []) (falls_last (reverse (holding ls)) l rest above)
      at rest false = rest

  -- ---- open loops

  is_open : (laps : List Lap) (h e : ℕ) → IsLoop (map loop_of laps) h e → IsOpen laps h e
  is_open [] h e i = i
  is_open (lap ∷ laps) h e (inl p) = inl p
  is_open (lap ∷ laps) h e (inr i) = inr (is_open laps h e i)

  of_open : (laps : List Lap) (h e : ℕ) → IsOpen laps h e → IsLoop (map loop_of laps) h e
  of_open [] h e i = i
  of_open (lap ∷ laps) h e (inl p) = inl p
  of_open (lap ∷ laps) h e (inr i) = inr (of_open laps h e i)

  below_heads : (laps : List Lap) (head : ℕ) → HeadsBelow head laps → Below head (map loop_of laps)
  below_heads [] head b = tt
  below_heads (lap ∷ laps) head b = (b.0, below_heads laps head b.1)

  module _ (loops : List SrcLoop) where
    falls_open : (laps : List Lap) → Around loops block laps → Falls (map loop_of laps)
    falls_open [] around = tt
    falls_open (lap ∷ laps) (one, holds, inner, outer) = (below_heads laps lap.head inner, falls_open laps outer)

    open_holds : (laps : List Lap) (h e : ℕ) → Around loops block laps → IsOpen laps h e → IsLoop loops h e × (h ≤ block) × (block < e)
    open_holds [] h e around i = absurd i
    open_holds (lap ∷ laps) h e (one, (low, high), inner, outer) (inl (p, q)) = (rw (← p, ← q) one, omega arith, omega arith)
    open_holds (lap ∷ laps) h e (one, holds, inner, outer) (inr i) = open_holds laps h e outer i

    -- the open loops are those around the block
    pub are_around : (laps : List Lap) → are_nested loops ≡ true → LapsFit loops block laps → map loop_of laps ≡ loops_around loops block
    are_around laps nest fit = same_falling (map loop_of laps) (loops_around loops block) (falls_open laps fit.around) (falls_around loops nest) to from
      where
        to : (h e : ℕ) → IsLoop (map loop_of laps) h e → IsLoop (loops_around loops block) h e
        to h e i =
            let (j, a, b) = open_holds laps h e fit.around (is_open laps h e i) in
            in_reverse (holding loops) h e (in_holding loops h e j a b)

        from : (h e : ℕ) → IsLoop (loops_around loops block) h e → IsLoop (map loop_of laps) h e
        from h e i =
            let (j, a, b) = of_holding loops h e (of_reverse (holding loops) h e i) in
            of_open laps h e (fit.all h e j a b)

    other_heads : (laps : List Lap) (head : ℕ) → HeadsBelow head laps → AllByRecursion (λ h. nat_eq head h ≡ false) (map (λ lap. lap.head) laps)
    other_heads [] head b = tt
    other_heads (lap ∷ laps) head b = let r = b.0 in (ne_eqb head lap.head (λ e. omega arith), other_heads laps head b.1)

    -- heads that fall differ
    pub heads_differ : (laps : List Lap) → Around loops block laps → IsDistinct nat_eq (map (λ lap. lap.head) laps)
    unfolding IsDistinct
    heads_differ [] around = tt
    heads_differ (lap ∷ laps) (one, holds, inner, outer) = (other_heads laps lap.head inner, heads_differ laps outer)
