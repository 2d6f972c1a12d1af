-- The loops that are made are those of the procedure: each holds its reached blocks, and the last one before it that ends behind its head is the
-- innermost around it, since loops are apart or nested.
use Rattle.std.proofs.Common.{◌≡◌, ℕ, zero, suc, ◌+◌, ◌<◌, ◌≤◌, Bool, true, false, List, [], ◌∷◌, ◌++◌, length, map, take, get_or, ◌⊎◌, inl, inr, Option, Some, None, Result, refl, sym, ◌∙◌, ap, subst, arith, append_assoc, if◌then◌else◌, nat_lt, nat_le, nat_eq}
use Rattle.std.proofs.lemmas.Bool.Decides.{nat_tests}
use Rattle.std.proofs.lemmas.List.{append-nil, length-take-le, length-map, get_or-take, get_or-map}
use Rattle.std.proofs.lemmas.List.Elements.{All-nil, All-cons, All-filter, All-contains_itself, filter_passes}
use Rattle.std.proofs.lemmas.List.Kept.{AllPairs-filter}
use Rattle.std.proofs.lemmas.Option.{slice_get-get_or, slice_get_within, get_or_from_slice_get}
use Rattle.std.specs.List.{All, AllPairs, Contains, slice_get, slice_range}
use Rattle.std.specs.List.Sorted.{IsStrictlyIncreasing}
use Rattle.std.specs.Result.{IfOk}
use Rattle.std.specs.declared.alloc.AllocError.{AllocError}
use Rattle.src_prog.specs.Loops.{holds_block}
use Rattle.src_prog.specs.Shape.{loops_fit}
use Rattle.src_prog.specs.declared.block.SrcBlock.{SrcBlock}
use Rattle.src_prog.specs.declared.proc.SrcLoop.{SrcLoop}
use Rattle.src_prog.specs.declared.proc.SrcProc.{SrcProc}
use Rattle.loop_nest.specs.declared.types.Loop.{Loop}
use Rattle.loop_nest.specs.Listed.{numbers, or_else, last_over, loop_of, loops_of, reached_of}
use Rattle.loop_nest.specs.Nests.{IsLoop, heads, blocks_from, blocks_at, IsAround, IsInnermost, IsNest, IsNestFrom}
use Rattle.loop_nest.specs.Reached.{Reached}
use Rattle.loop_nest.specs.Walks.{HasFlag, AreReachedFlags}
use Rattle.loop_nest.proofs.Fitting.{IsWithin, AreApart, LoopsFit, loops-fit, and-first, and-second}
use Rattle.loop_nest.proofs.ListLaws.{length-loops_of}
use Rattle.loop_nest.proofs.Members.{in-map, in-filter, numbers-up, up-numbers, numbers-increase, range-flag, flag-range}

-- ---- a loop and its blocks

pub holds-true : (l : SrcLoop) (b : ℕ) → l.head ≤ b → b < l.exit → holds_block l b ≡ true
holds-true l b le lt = grind (arith, nat_tests)

pub holds-order : (l : SrcLoop) (b : ℕ) → holds_block l b ≡ true → (l.head ≤ b) × (b < l.exit)
holds-order l b h =
    let p = and-first (nat_le l.head b) _ h in
    let q = and-second (nat_le l.head b) _ h in
    let le : l.head ≤ b = grind (arith, nat_tests) in
    let lt : b < l.exit = grind (arith, nat_tests) in
    (le, lt)

-- the blocks of a `while`, from the flags
abbrev blocks-of : List Bool → SrcLoop → List ℕ
blocks-of flags l = numbers l.head (slice_range flags l.head l.exit)

in-blocks : (flags : List Bool) (l : SrcLoop) (b : ℕ) → Contains (blocks-of flags l) b → HasFlag flags b × (l.head ≤ b) × (b < l.exit)
in-blocks flags l b h =
    let u = numbers-up l.head (slice_range flags l.head l.exit) b h in
    let r = range-flag flags l.head l.exit b u.0 u.1 in
    (r.1, u.0, r.0)

blocks-in : (flags : List Bool) (l : SrcLoop) (b : ℕ) → HasFlag flags b → l.head ≤ b → b < l.exit → Contains (blocks-of flags l) b
blocks-in flags l b up le lt = up-numbers l.head (slice_range flags l.head l.exit) b le (flag-range flags l.head l.exit b le lt up)

is-loop : (proc : SrcProc) (flags : List Bool) (before : List SrcLoop) (l : SrcLoop) → AreReachedFlags proc.blocks flags → Contains proc.loops l → HasFlag flags l.head → IsLoop proc (loop_of flags before l)
is-loop proc flags before l marks among up = record {
  stands = l;
  among = among;
  head = refl;
  reached = (marks.exact l.head).0 up;
  holds = λ b. (λ h. let i = in-blocks flags l b h in ((marks.exact b).0 i.0, holds-true l b i.1 i.2), λ h. let o = holds-order l b h.1 in blocks-in flags l b ((marks.exact b).1 h.0) o.0 o.1);
  ascend = numbers-increase l.head (slice_range flags l.head l.exit);
}

-- ---- the loops by place

loops-at : (flags : List Bool) (before ls : List SrcLoop) (i : ℕ) (d : Loop) (e : SrcLoop) → i < length ls → get_or (loops_of flags before ls) i d ≡ loop_of flags (before ++ take i ls) (get_or ls i e)
loops-at flags before [] i d e lt = absurd (omega arith)
loops-at flags before (l ∷ ls) zero d e lt = ap (λ (bs : List SrcLoop). loop_of flags bs l) (sym (append-nil before))
loops-at flags before (l ∷ ls) (suc i) d e lt =
    let less : i < length ls = omega arith in
    loops-at flags (before ++ l ∷ []) ls i d e less ∙ ap (λ (bs : List SrcLoop). loop_of flags bs (get_or ls i e)) (append_assoc before (l ∷ []) (take i ls))

heads-of : (flags : List Bool) (before ls : List SrcLoop) → heads (loops_of flags before ls) ≡ map (λ l. l.head) ls
heads-of flags before [] = refl
heads-of flags before (l ∷ ls) = ap (λ (ns : List ℕ). l.head ∷ ns) (heads-of flags (before ++ l ∷ []) ls)

-- ---- the last of some loops that ends behind a block

abbrev nowhere : SrcLoop
nowhere = record { head = 0; exit = 0 }

record IsLastOver (ls : List SrcLoop) (b q : ℕ) : Type 0 where
  within : q < length ls
  over : b < (get_or ls q nowhere).exit
  later : (k : ℕ) → q < k → k < length ls → (get_or ls k nowhere).exit ≤ b

last-none : (n : ℕ) (ls : List SrcLoop) (b : ℕ) → last_over n ls b ≡ None → All (λ l. l.exit ≤ b) ls
last-none n [] b h = All-nil (λ l. l.exit ≤ b)
last-none n (l ∷ ls) b h = by (last_over (n + 1) ls b) refl (nat_lt b l.exit) refl h (last-none (n + 1) ls b)
  where
    by : (o : Option ℕ) → last_over (n + 1) ls b ≡ o → (t : Bool) → nat_lt b l.exit ≡ t → or_else o (if t then Some n else None) ≡ None → (last_over (n + 1) ls b ≡ None → All (λ l. l.exit ≤ b) ls) → All (λ l. l.exit ≤ b) (l ∷ ls)
    by (Some p) e t s k rec = cc
    by None e true s k rec = cc
    by None e false s k rec = let past : l.exit ≤ b = grind (arith, nat_tests) in All-cons (λ l. l.exit ≤ b) l ls past (rec e)

last-some : (n : ℕ) (ls : List SrcLoop) (b p : ℕ) → last_over n ls b ≡ Some p → (q : ℕ) × (p ≡ n + q) × IsLastOver ls b q
last-some n [] b p h = cc
last-some n (l ∷ ls) b p h = by (last_over (n + 1) ls b) refl (nat_lt b l.exit) refl h (last-some (n + 1) ls b)
  where
    by : (o : Option ℕ) → last_over (n + 1) ls b ≡ o → (t : Bool) → nat_lt b l.exit ≡ t → or_else o (if t then Some n else None) ≡ Some p
        → ((p' : ℕ) → last_over (n + 1) ls b ≡ Some p' → (q : ℕ) × (p' ≡ n + 1 + q) × IsLastOver ls b q) → (q : ℕ) × (p ≡ n + q) × IsLastOver (l ∷ ls) b q
    by (Some r) e t s k rec =
        let same : r ≡ p = cc in
        let o = rec r e in
        let at = o.1 in
        let is = o.2 in
        (suc o.0, omega arith, record { within = (let w = is.within in omega arith); over = is.over; later = λ j lt within. later o.0 is j lt within })
      where
        later : (q : ℕ) → IsLastOver ls b q → (j : ℕ) → suc q < j → j < length (l ∷ ls) → (get_or (l ∷ ls) j nowhere).exit ≤ b
        later q is zero lt within = absurd (omega arith)
        later q is (suc j) lt within = is.later j (omega arith) (omega arith)
    by None e true s k rec =
        let same : n ≡ p = cc in
        (0, omega arith, record { within = omega arith; over = (let lt : b < l.exit = grind (arith, nat_tests) in lt); later = λ j lt within. later (last-none (n + 1) ls b e) j lt within })
      where
        later : All (λ l. l.exit ≤ b) ls → (j : ℕ) → 0 < j → j < length (l ∷ ls) → (get_or (l ∷ ls) j nowhere).exit ≤ b
        later all zero lt within = absurd (omega arith)
        later all (suc j) lt within = let less : j < length ls = omega arith in all j nowhere less
    by None e false s k rec = cc

-- ---- the nest

record World : Type 0 where
  proc : SrcProc
  flags : List Bool
  marks : AreReachedFlags proc.blocks flags
  fit : LoopsFit (length proc.blocks) proc.loops

abbrev spans : World → List SrcLoop
spans w = reached_of w.flags w.proc.loops

abbrev made : World → List Loop
made w = loops_of w.flags [] (spans w)

abbrev span : World → ℕ → SrcLoop
span w i = get_or (spans w) i nowhere

spans-apart : (w : World) → AllPairs AreApart (spans w)
spans-apart w = AllPairs-filter AreApart (λ (l : SrcLoop). get_or w.flags l.head false) w.proc.loops w.fit.apart

spans-up : (w : World) → All (λ l. HasFlag w.flags l.head) (spans w)
spans-up w = filter_passes (λ (l : SrcLoop). get_or w.flags l.head false) w.proc.loops

spans-within : (w : World) → All (IsWithin (length w.proc.blocks)) (spans w)
spans-within w = All-filter (λ (l : SrcLoop). get_or w.flags l.head false) (IsWithin (length w.proc.blocks)) w.proc.loops w.fit.within

spans-among : (w : World) → All (Contains w.proc.loops) (spans w)
spans-among w = All-filter (λ (l : SrcLoop). get_or w.flags l.head false) (Contains w.proc.loops) w.proc.loops (All-contains_itself w.proc.loops)

made-at : (w : World) (i : ℕ) (d : Loop) → i < length (spans w) → get_or (made w) i d ≡ loop_of w.flags (take i (spans w)) (span w i)
made-at w i d lt = loops-at w.flags [] (spans w) i d nowhere lt

made-size : (w : World) → length (made w) ≡ length (spans w)
made-size w = length-loops_of w.flags [] (spans w)

each : (w : World) → All (IsLoop w.proc) (made w)
each w = λ i d within.
    let lt : i < length (spans w) = omega (arith, made-size w) in
    subst (IsLoop w.proc) (sym (made-at w i d lt)) (is-loop w.proc w.flags (take i (spans w)) (span w i) w.marks (spans-among w i nowhere lt) (spans-up w i nowhere lt))

every : (w : World) (l : SrcLoop) → Contains w.proc.loops l → Reached w.proc.blocks l.head → Contains (heads (made w)) l.head
every w l among reached =
    subst (λ (ns : List ℕ). Contains ns l.head) (sym (heads-of w.flags [] (spans w)))
    (in-map (λ (m : SrcLoop). m.head) (spans w) l (in-filter (λ (m : SrcLoop). get_or w.flags m.head false) w.proc.loops l among ((w.marks.exact l.head).1 reached)))

heads-ascend : (w : World) → IsStrictlyIncreasing (heads (made w))
heads-ascend w = subst IsStrictlyIncreasing (sym (heads-of w.flags [] (spans w))) (λ k lt.
    let within : k + 1 < length (spans w) = omega (arith, length-map (spans w) (λ (l : SrcLoop). l.head)) in
    let before : k < length (spans w) = omega arith in
    let a = get_or-map (λ (l : SrcLoop). l.head) (spans w) k nowhere 0 before in
    let b = get_or-map (λ (l : SrcLoop). l.head) (spans w) (k + 1) nowhere 0 within in
    let h = (spans-apart w k (k + 1) nowhere (omega arith) within).below in
    omega arith)

made-blocks : (w : World) (i : ℕ) → i < length (spans w) → blocks_at (made w) i ≡ blocks-of w.flags (span w i)
made-blocks w i lt =
    let d : Loop = record { head = 0; blocks = []; outer = None } in
    let within : i < length (made w) = omega (arith, made-size w) in
    ap blocks_from (slice_get-get_or (made w) i d within) ∙ ap (λ (m : Loop). m.blocks) (made-at w i d lt)

-- a loop is around another one exactly where it stands before it and ends behind its head
around-over : (w : World) (i o : ℕ) → i < length (spans w) → IsAround (made w) i o → (o < i) × ((span w i).head < (span w o).exit)
around-over w i o lt a = by (nat_lt o i) refl
  where
    inside : o < length (made w) → HasFlag w.flags (span w i).head × ((span w o).head ≤ (span w i).head) × ((span w i).head < (span w o).exit)
    inside within =
        let less : o < length (spans w) = omega (arith, made-size w) in
        let own : Contains (blocks-of w.flags (span w i)) (span w i).head = blocks-in w.flags (span w i) (span w i).head (spans-up w i nowhere lt) (omega arith) (spans-within w i nowhere lt).order in
        in-blocks w.flags (span w o) (span w i).head
        (subst (λ (bs : List ℕ). Contains bs (span w i).head) (made-blocks w o less) (a.holds (span w i).head (subst (λ (bs : List ℕ). Contains bs (span w i).head) (sym (made-blocks w i lt)) own)))

    by : (t : Bool) → nat_lt o i ≡ t → (o < i) × ((span w i).head < (span w o).exit)
    by true s = let before : o < i = grind (arith, nat_tests) in (before, (inside a.within).2)
    by false s =
        let ge : i ≤ o = grind (arith, nat_tests) in
        let less : o < length (spans w) = (let v = a.within in omega (arith, made-size w)) in
        absurd (differ (nat_eq o i) refl ge less)
      where
        differ : (t : Bool) → nat_eq o i ≡ t → i ≤ o → o < length (spans w) → ⊥
        differ true s ge less = let same : o ≡ i = grind (arith, nat_tests) in a.other same
        differ false s ge less =
            let after : i < o = grind (arith, nat_tests) in
            let h = (spans-apart w i o nowhere after less).below in
            let k = (inside a.within).1 in
            omega arith

over-around : (w : World) (i o : ℕ) → i < length (spans w) → o < i → (span w i).head < (span w o).exit → IsAround (made w) i o
over-around w i o lt before over =
    let less : o < length (spans w) = omega arith in
    let size = made-size w in
    record {
      within = omega arith;
      other = λ e. omega arith;
      holds = λ b h. subst (λ (bs : List ℕ). Contains bs b) (sym (made-blocks w o less))
          (inner less b (in-blocks w.flags (span w i) b (subst (λ (bs : List ℕ). Contains bs b) (made-blocks w i lt) h)));
    }
  where
    exits : ((span w o).exit ≤ (span w i).head) ⊎ ((span w i).exit < (span w o).exit) → (span w i).exit < (span w o).exit
    exits (inl h) = absurd (omega arith)
    exits (inr h) = h

    inner : o < length (spans w) → (b : ℕ) → HasFlag w.flags b × ((span w i).head ≤ b) × (b < (span w i).exit) → Contains (blocks-of w.flags (span w o)) b
    inner less b (up, le, below) =
        let pair = spans-apart w o i nowhere before lt in
        let h = pair.below in
        let e = exits pair.apart in
        blocks-in w.flags (span w o) b up (omega arith) (omega arith)

before-at : (w : World) (i k : ℕ) → k < i → get_or (take i (spans w)) k nowhere ≡ span w k
before-at w i k lt = get_or-take i (spans w) k nowhere lt

innermost : (w : World) (i : ℕ) (o : Option ℕ) → i < length (spans w) → last_over 0 (take i (spans w)) (span w i).head ≡ o → IsInnermost (made w) i o
innermost w i None lt e = λ other a.
    let v = around-over w i other lt a in
    let before = v.0 in
    let size = length-take-le i (spans w) (omega arith) in
    let over = v.1 in
    let past = last-none 0 (take i (spans w)) (span w i).head e other nowhere (omega arith) in
    let same : (get_or (take i (spans w)) other nowhere).exit ≡ (span w other).exit = ap (λ (l : SrcLoop). l.exit) (before-at w i other before) in
    omega arith
innermost w i (Some p) lt e = ends (last-some 0 (take i (spans w)) (span w i).head p e) (length-take-le i (spans w) (omega arith))
  where
    ends : (q : ℕ) × (p ≡ 0 + q) × IsLastOver (take i (spans w)) (span w i).head q → length (take i (spans w)) ≡ i → IsInnermost (made w) i (Some p)
    ends (q, at, is) size =
        let here : p ≡ q = omega arith in
        let before : p < i = (let v = is.within in omega arith) in
        let same : (get_or (take i (spans w)) q nowhere).exit ≡ (span w p).exit = ap (λ (l : SrcLoop). l.exit) (before-at w i q (omega arith) ∙ ap (span w) (sym here)) in
        let over : (span w i).head < (span w p).exit = (let v = is.over in omega arith) in
        (over-around w i p lt before over, λ other a. compare other (around-over w i other lt a) (nat_eq other p) refl (nat_lt other p) refl before)
      where
        compare : (other : ℕ) → (other < i) × ((span w i).head < (span w other).exit) → (s : Bool) → nat_eq other p ≡ s → (t : Bool) → nat_lt other p ≡ t → p < i → (other ≡ p) ⊎ IsAround (made w) p other
        compare other v true s t u before = let same : other ≡ p = grind (arith, nat_tests) in inl same
        compare other (less, over) false s true u before =
            let lower : other < p = grind (arith, nat_tests) in
            let within : p < length (spans w) = omega arith in
            let h = (spans-apart w p i nowhere before lt).below in
            inr (over-around w p other within lower (omega arith))
        compare other (less, over) false s false u before =
            let higher : p < other = grind (arith, nat_tests) in
            let past = is.later other (omega arith) (omega arith) in
            let same : (get_or (take i (spans w)) other nowhere).exit ≡ (span w other).exit = ap (λ (l : SrcLoop). l.exit) (before-at w i other less) in
            absurd (omega arith)

outers : (w : World) (i : ℕ) (m : Loop) → slice_get (made w) i ≡ Some m → IsInnermost (made w) i m.outer
outers w i m e =
    let within = slice_get_within (made w) i m e in
    let lt : i < length (spans w) = omega (arith, made-size w) in
    let is : m ≡ loop_of w.flags (take i (spans w)) (span w i) = sym (get_or_from_slice_get (made w) i m m e) ∙ made-at w i m lt in
    innermost w i m.outer lt (sym (ap (λ (n : Loop). n.outer) is))

pub is-nest : (proc : SrcProc) (flags : List Bool) → AreReachedFlags proc.blocks flags → LoopsFit (length proc.blocks) proc.loops → IsNest proc (loops_of flags [] (reached_of flags proc.loops))
is-nest proc flags marks fit =
    let w : World = record { proc = proc; flags = flags; marks = marks; fit = fit } in
    record { each = each w; every = every w; ascend = heads-ascend w; outers = outers w }

pub nest-is : (proc : SrcProc) (blocks : List SrcBlock) (ls : List SrcLoop) (flags numbered : List Bool) (all result : List Loop) → loops_fit proc ≡ true → blocks ≡ proc.blocks → ls ≡ proc.loops → AreReachedFlags blocks flags
    → numbered ≡ flags → all ≡ loops_of numbered [] (reached_of numbered ls) → result ≡ all → IsNest proc result
nest-is proc blocks ls flags numbered all result fit b l marks n a r =
    let marked : AreReachedFlags proc.blocks numbered = subst (AreReachedFlags proc.blocks) (sym n) (subst (λ (bs : List SrcBlock). AreReachedFlags bs flags) b marks) in
    subst (IsNest proc) (sym (r ∙ a ∙ ap (λ (ms : List SrcLoop). loops_of numbered [] (reached_of numbered ms)) l)) (is-nest proc numbered marked (loops-fit proc fit))

pub nest-at : (o : Option SrcProc) (proc : SrcProc) (r : Result (List Loop) AllocError) → o ≡ Some proc → IfOk r (IsNest proc) → IfOk r (IsNestFrom o)
nest-at o proc r e h = subst (λ (p : Option SrcProc). IfOk r (IsNestFrom p)) (sym e) h
