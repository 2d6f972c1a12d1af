-- The lists that the loops are made of, one step on.
use Rattle.std.proofs.Common.{◌≡◌, ℕ, suc, ◌+◌, ◌-◌, ◌<◌, ◌≤◌, Bool, true, false, cond, List, [], ◌∷◌, ◌++◌, length, take, drop, get_or, Option, Some, None, Result, Ok, Err, refl, sym, ◌∙◌, ap, subst, arith, append_assoc, length-append, if◌then◌else◌, nat_lt}
use Rattle.std.proofs.lemmas.Bool.Decides.{nat_tests}
use Rattle.std.proofs.lemmas.List.{append-nil, length_push, take_more, take_all, take_at, drop_at, take-append-drop, length-take-le, length-drop, take-take, get_or_append_left, get_or_push, get_or-take, get_or_default}
use Rattle.std.proofs.lemmas.List.Elements.{filter-append}
use Rattle.std.proofs.lemmas.List.Folds.{drop_split}
use Rattle.std.specs.List.{All, AllPairs, slice_get, slice_range}
use Rattle.std.specs.Result.{IfOk, OnOk}
use Rattle.std.proofs.lemmas.Option.{slice_get_within, get_or_from_slice_get}
use Rattle.src_prog.specs.declared.proc.SrcLoop.{SrcLoop}
use Rattle.loop_nest.specs.declared.making.Open.{Open}
use Rattle.loop_nest.specs.declared.types.Loop.{Loop}
use Rattle.loop_nest.specs.Listed.{numbers, or_else, last_over, loop_of, loops_of, reached_of, IsNumbering, inner, IsMade}

-- ---- numbers of flags

pub numbers-append : (first : ℕ) (xs ys : List Bool) → numbers first (xs ++ ys) ≡ numbers first xs ++ numbers (first + length xs) ys
numbers-append first [] ys = let e : first ≡ first + 0 = omega arith in ap (λ n. numbers n ys) e
numbers-append first (x ∷ xs) ys =
    let e : first + 1 + length xs ≡ first + suc (length xs) = omega arith in
    by x (numbers-append (first + 1) xs ys ∙ ap (λ n. numbers (first + 1) xs ++ numbers n ys) e)
  where
    by : (flag : Bool) → numbers (first + 1) (xs ++ ys) ≡ numbers (first + 1) xs ++ numbers (first + suc (length xs)) ys
        → cond flag (first ∷ numbers (first + 1) (xs ++ ys)) (numbers (first + 1) (xs ++ ys)) ≡ cond flag (first ∷ numbers (first + 1) xs) (numbers (first + 1) xs) ++ numbers (first + suc (length xs)) ys
    by true h = ap (λ ns. first ∷ ns) h
    by false h = h

pub numbers-more : (flags : List Bool) (i : ℕ) → i < length flags → numbers 0 (take (i + 1) flags) ≡ numbers 0 (take i flags) ++ (if get_or flags i false then i ∷ [] else [])
numbers-more flags i within =
    let e : 0 + length (take i flags) ≡ i = omega (arith, length-take-le i flags (omega arith)) in
    ap (numbers 0) (take_more flags i false within) ∙ numbers-append 0 (take i flags) (get_or flags i false ∷ []) ∙ ap (λ n. numbers 0 (take i flags) ++ numbers n (get_or flags i false ∷ [])) e

-- some flags in three parts
pub in-parts : (flags : List Bool) (from to : ℕ) → from ≤ to → flags ≡ take from flags ++ (slice_range flags from to ++ drop to flags)
in-parts flags from to le = sym (take-append-drop from flags) ∙ ap (λ fs. take from flags ++ fs) (drop_split flags from to le)

numbers-parts : (flags : List Bool) (from to : ℕ) → from ≤ to → from ≤ length flags → numbers 0 flags ≡ numbers 0 (take from flags) ++ (numbers from (slice_range flags from to) ++ numbers (from + length (slice_range flags from to)) (drop to flags))
numbers-parts flags from to le within =
    let size : 0 + length (take from flags) ≡ from = omega (arith, length-take-le from flags within) in
    ap (numbers 0) (in-parts flags from to le) ∙ numbers-append 0 (take from flags) (slice_range flags from to ++ drop to flags)
    ∙ ap (λ n. numbers 0 (take from flags) ++ numbers n (slice_range flags from to ++ drop to flags)) size
    ∙ ap (λ ns. numbers 0 (take from flags) ++ ns) (numbers-append from (slice_range flags from to) (drop to flags))

take-parts : (flags : List Bool) (from to : ℕ) → from ≤ to → to ≤ length flags → take to flags ≡ take from flags ++ slice_range flags from to
take-parts flags from to le within =
    let e = in-parts flags from to le ∙ sym (append_assoc (take from flags) (slice_range flags from to) (drop to flags)) in
    ap (take to) e ∙ take_at (take from flags ++ slice_range flags from to) (drop to flags) to (length-append (take from flags) (slice_range flags from to) ∙ sizes)
  where
    sizes : length (take from flags) + length (slice_range flags from to) ≡ to
    sizes =
        let d = length-drop from flags in
        let a = length-take-le from flags (omega arith) in
        let b = length-take-le (to - from) (drop from flags) (omega arith) in
        omega arith

-- how many numbers stand before a flag, in two parts
numbers-before : (flags : List Bool) (from to : ℕ) → from ≤ to → to ≤ length flags → length (numbers 0 (take to flags)) ≡ length (numbers 0 (take from flags)) + length (numbers from (slice_range flags from to))
numbers-before flags from to le within =
    let size : 0 + length (take from flags) ≡ from = omega (arith, length-take-le from flags (omega arith)) in
    ap length (ap (numbers 0) (take-parts flags from to le within) ∙ numbers-append 0 (take from flags) (slice_range flags from to) ∙ ap (λ n. numbers 0 (take from flags) ++ numbers n (slice_range flags from to)) size)
    ∙ length-append (numbers 0 (take from flags)) (numbers from (slice_range flags from to))

middle : (xs ys zs : List ℕ) (first end : ℕ) → first ≡ length xs → end ≡ length xs + length ys → slice_range (xs ++ (ys ++ zs)) first end ≡ ys
middle xs ys zs first end a b =
    let size : length ys ≡ end - first = omega arith in
    ap (take (end - first)) (drop_at xs (ys ++ zs) first (sym a)) ∙ take_at ys zs (end - first) size

-- the numbers from one flag on and below another one are a part of the list
pub record IsPart (flags : List Bool) (from to : ℕ) (ups : List ℕ) (first end : ℕ) : Type 0 where
  pub order : first ≤ end
  pub within : end ≤ length ups
  pub is : slice_range ups first end ≡ numbers from (slice_range flags from to)

pub part-of : (flags : List Bool) (from to : ℕ) (us ups before : List ℕ) (first end : ℕ) → IsNumbering flags ups before → from ≤ to → to < length flags → us ≡ ups → first ≡ get_or before from 0 → end ≡ get_or before to 0 → IsPart flags from to us first end
part-of flags from to us ups before first end n le within same a b =
    let f : first ≡ length (numbers 0 (take from flags)) = a ∙ n.counts from (omega arith) in
    let e : end ≡ length (numbers 0 (take from flags)) + length (numbers from (slice_range flags from to)) = b ∙ n.counts to within ∙ numbers-before flags from to le (omega arith) in
    let whole : us ≡ numbers 0 (take from flags) ++ (numbers from (slice_range flags from to) ++ numbers (from + length (slice_range flags from to)) (drop to flags)) = same ∙ n.all ∙ numbers-parts flags from to le (omega arith) in
    let size = ap length whole ∙ length-append (numbers 0 (take from flags)) (numbers from (slice_range flags from to) ++ numbers (from + length (slice_range flags from to)) (drop to flags)) in
    let rest = length-append (numbers from (slice_range flags from to)) (numbers (from + length (slice_range flags from to)) (drop to flags)) in
    record {
      order = omega arith;
      within = omega arith;
      is = ap (λ ns. slice_range ns first end) whole
          ∙ middle (numbers 0 (take from flags)) (numbers from (slice_range flags from to)) (numbers (from + length (slice_range flags from to)) (drop to flags)) first end f e;
    }

pub part-ok : {E : Type 0} (r : Result (List ℕ) E) (flags : List Bool) (from to : ℕ) (us : List ℕ) (first end : ℕ) → IsPart flags from to us first end → IfOk r (λ ns. ns ≡ slice_range us first end) → IfOk r (λ ns. ns ≡ numbers from (slice_range flags from to))
part-ok (Err e) flags from to us first end p h = tt
part-ok (Ok ns) flags from to us first end p h = h ∙ p.is

-- ---- numbering

pub numbering-more : (flags : List Bool) (i : ℕ) (ups new before new_before : List ℕ) → i < length flags → IsNumbering (take i flags) ups before
    → new ≡ ups ++ (if get_or flags i false then i ∷ [] else []) → new_before ≡ before ++ length ups ∷ [] → IsNumbering (take (i + 1) flags) new new_before
numbering-more flags i ups new before new_before within n e d =
    let size : length before ≡ i = omega (arith, n.size, length-take-le i flags (omega arith)) in
    record {
      all = e ∙ ap (λ ns. ns ++ (if get_or flags i false then i ∷ [] else [])) n.all ∙ sym (numbers-more flags i within);
      size = omega (arith, ap length d, length_push before (length ups), size, length-take-le (i + 1) flags (omega arith));
      counts = λ k lt. ap (λ bs. get_or bs k 0) d ∙ count k size (omega (arith, lt, length-take-le (i + 1) flags (omega arith)));
    }
  where
    old : (k : ℕ) → k ≤ i → take k (take (i + 1) flags) ≡ take k (take i flags)
    old k le = take-take k (i + 1) flags (omega arith) ∙ sym (take-take k i flags le)

    by : (k : ℕ) (t : Bool) → nat_lt k i ≡ t → length before ≡ i → k < i + 1 → get_or (before ++ length ups ∷ []) k 0 ≡ length (numbers 0 (take k (take (i + 1) flags)))
    by k true h size lt =
        let below : k < i = grind (arith, nat_tests) in
        get_or_append_left before (length ups ∷ []) 0 k (omega arith) ∙ n.counts k (omega (arith, length-take-le i flags (omega arith))) ∙ ap (λ fs. length (numbers 0 fs)) (sym (old k (omega arith)))
    by k false h size lt =
        let same : k ≡ i = grind (arith, nat_tests) in
        get_or_push before (length ups) 0 k (omega arith) ∙ ap length n.all
        ∙ ap (λ fs. length (numbers 0 fs)) (sym (take-take i i flags (omega arith)) ∙ sym (old i (omega arith)) ∙ ap (λ j. take j (take (i + 1) flags)) (sym same))

    count : (k : ℕ) → length before ≡ i → k < i + 1 → get_or (before ++ length ups ∷ []) k 0 ≡ length (numbers 0 (take k (take (i + 1) flags)))
    count k size lt = by k (nat_lt k i) refl size lt

-- ---- the innermost loop

pub inner-push : (os : List Open) (o : Open) (b : ℕ) → inner (os ++ o ∷ []) b ≡ (if nat_lt b o.exit then Some o.place else inner os b)
inner-push [] o b = refl
inner-push (p ∷ os) o b = ap (λ r. or_else r (if nat_lt b p.exit then Some p.place else None)) (inner-push os o b) ∙ by (nat_lt b o.exit)
  where
    by : (t : Bool) → or_else (if t then Some o.place else inner os b) (if nat_lt b p.exit then Some p.place else None) ≡ (if t then Some o.place else or_else (inner os b) (if nat_lt b p.exit then Some p.place else None))
    by true = refl
    by false = refl

pub last_over-push : (n : ℕ) (ls : List SrcLoop) (l : SrcLoop) (b : ℕ) → last_over n (ls ++ l ∷ []) b ≡ (if nat_lt b l.exit then Some (n + length ls) else last_over n ls b)
last_over-push n [] l b = let e : n ≡ n + 0 = omega arith in ap (λ m. if nat_lt b l.exit then Some m else None) e
last_over-push n (m ∷ ls) l b =
    let e : n + 1 + length ls ≡ n + suc (length ls) = omega arith in
    ap (λ r. or_else r (if nat_lt b m.exit then Some n else None)) (last_over-push (n + 1) ls l b ∙ ap (λ k. if nat_lt b l.exit then Some k else last_over (n + 1) ls b) e) ∙ by (nat_lt b l.exit)
  where
    by : (t : Bool) → or_else (if t then Some (n + suc (length ls)) else last_over (n + 1) ls b) (if nat_lt b m.exit then Some n else None)
        ≡ (if t then Some (n + suc (length ls)) else or_else (last_over (n + 1) ls b) (if nat_lt b m.exit then Some n else None))
    by true = refl
    by false = refl

-- a list and its last element
last-of : (os : List Open) (o : Open) → slice_get os (length os - 1) ≡ Some o → os ≡ take (length os - 1) os ++ o ∷ []
last-of os o e =
    let lt : length os - 1 < length os = slice_get_within os (length os - 1) o e in
    let all : length os ≤ length os - 1 + 1 = omega arith in
    sym (take_all (length os - 1 + 1) os all) ∙ take_more os (length os - 1) o lt ∙ ap (λ (p : Open). take (length os - 1) os ++ p ∷ []) (get_or_from_slice_get os (length os - 1) o o e)

-- the open loops without the last one, which ends before a head
pub inner-pop : (os ps : List Open) (o : Open) (head : ℕ) → slice_get os (length os - 1) ≡ Some o → ps ≡ take (length os - 1) os → o.exit ≤ head → (b : ℕ) → head ≤ b → inner ps b ≡ inner os b
inner-pop os ps o head e d past b le =
    let no' : nat_lt b o.exit ≡ false = grind (arith, nat_tests) in
    ap (λ qs. inner qs b) d ∙ sym (ap (λ qs. inner qs b) (last-of os o e) ∙ inner-push (take (length os - 1) os) o b ∙ ap (λ (t : Bool). if t then Some o.place else inner (take (length os - 1) os) b) no')

pub inner-last : (os : List Open) (o : Open) (head : ℕ) → slice_get os (length os - 1) ≡ Some o → head < o.exit → Some o.place ≡ inner os head
inner-last os o head e within =
    let yes' : nat_lt head o.exit ≡ true = grind (arith, nat_tests) in
    sym (ap (λ qs. inner qs head) (last-of os o e) ∙ inner-push (take (length os - 1) os) o head ∙ ap (λ (t : Bool). if t then Some o.place else inner (take (length os - 1) os) head) yes')

-- one open loop more
pub inner-opened : {T E : Type 0} (r : Result T E) (os ps new : List Open) (head exit place count : ℕ) → ((b : ℕ) → head ≤ b → inner ps b ≡ inner os b) → new ≡ ps ++ record { exit = exit; place = place } ∷ [] → place ≡ count
    → OnOk r ((b : ℕ) → head ≤ b → inner new b ≡ (if nat_lt b exit then Some count else inner os b))
inner-opened (Err e) os ps new head exit place count kept made is = tt
inner-opened (Ok t) os ps new head exit place count kept made is = λ b le.
    ap (λ qs. inner qs b) made ∙ inner-push ps (record { exit = exit; place = place }) b ∙ ap (λ (n : ℕ). if nat_lt b exit then Some n else inner ps b) is ∙ ap (λ (o : Option ℕ). if nat_lt b exit then Some count else o) (kept b le)

-- ---- the loops

pub loops_of-push : (flags : List Bool) (before ls : List SrcLoop) (l : SrcLoop) → loops_of flags before (ls ++ l ∷ []) ≡ loops_of flags before ls ++ loop_of flags (before ++ ls) l ∷ []
loops_of-push flags before [] l = ap (λ (bs : List SrcLoop). loop_of flags bs l ∷ []) (sym (append-nil before))
loops_of-push flags before (m ∷ ls) l =
    ap (λ ms. loop_of flags before m ∷ ms)
    (loops_of-push flags (before ++ m ∷ []) ls l ∙ ap (λ (bs : List SrcLoop). loops_of flags (before ++ m ∷ []) ls ++ loop_of flags bs l ∷ []) (append_assoc before (m ∷ []) ls))

pub length-loops_of : (flags : List Bool) (before ls : List SrcLoop) → length (loops_of flags before ls) ≡ length ls
length-loops_of flags before [] = refl
length-loops_of flags before (l ∷ ls) = ap suc (length-loops_of flags (before ++ l ∷ []) ls)

reached-push : (flags : List Bool) (ls : List SrcLoop) (l : SrcLoop) (t : Bool) → get_or flags l.head false ≡ t → reached_of flags (ls ++ l ∷ []) ≡ reached_of flags ls ++ cond t (l ∷ []) []
reached-push flags ls l t e = filter-append (λ (m : SrcLoop). get_or flags m.head false) ls (l ∷ []) ∙ ap (λ (b : Bool). reached_of flags ls ++ cond b (l ∷ []) []) e

front : (P : SrcLoop → Type 0) (xs : List SrcLoop) (y : SrcLoop) → All P (xs ++ y ∷ []) → All P xs
front P xs y h = λ k d lt. subst P (get_or_append_left xs (y ∷ []) d k lt) (h k d (omega (arith, length_push xs y)))

back : (P : SrcLoop → Type 0) (xs : List SrcLoop) (y : SrcLoop) → All P (xs ++ y ∷ []) → P y
back P xs y h = subst P (get_or_push xs y y (length xs) refl) (h (length xs) y (omega (arith, length_push xs y)))

made-skip : (flags : List Bool) (passed : List SrcLoop) (l : SrcLoop) (loops : List Loop) (opened : List Open) → IsMade flags passed loops opened → get_or flags l.head false ≡ false → IsMade flags (passed ++ l ∷ []) loops opened
made-skip flags passed l loops opened m down =
    let same : reached_of flags (passed ++ l ∷ []) ≡ reached_of flags passed = reached-push flags passed l false down ∙ append-nil (reached_of flags passed) in
    record {
      made = m.made ∙ ap (loops_of flags []) (sym same);
      around = λ b h. m.around b (front (λ n. n.head ≤ b) passed l h) ∙ ap (λ ls. last_over 0 ls b) (sym same);
    }

made-one : (flags : List Bool) (passed : List SrcLoop) (l : SrcLoop) (loops new : List Loop) (opened new_opened : List Open) → IsMade flags passed loops opened → get_or flags l.head false ≡ true → All (λ n. n.head ≤ l.head) passed
    → new ≡ loops ++ record { head = l.head; blocks = numbers l.head (slice_range flags l.head l.exit); outer = inner opened l.head } ∷ []
    → ((b : ℕ) → l.head ≤ b → inner new_opened b ≡ (if nat_lt b l.exit then Some (length loops) else inner opened b)) → IsMade flags (passed ++ l ∷ []) new new_opened
made-one flags passed l loops new opened new_opened m up below e d =
    let same : reached_of flags (passed ++ l ∷ []) ≡ reached_of flags passed ++ l ∷ [] = reached-push flags passed l true up in
    let size : length loops ≡ 0 + length (reached_of flags passed) = omega (arith, ap length m.made, length-loops_of flags [] (reached_of flags passed)) in
    let this : record { head = l.head; blocks = numbers l.head (slice_range flags l.head l.exit); outer = inner opened l.head } ≡ loop_of flags (reached_of flags passed) l =
    ap (λ (o : Option ℕ). let n : Loop = record { head = l.head; blocks = numbers l.head (slice_range flags l.head l.exit); outer = o } in n) (m.around l.head below) in
    record {
      made = e ∙ ap (λ (ms : List Loop). ms ++ record { head = l.head; blocks = numbers l.head (slice_range flags l.head l.exit); outer = inner opened l.head } ∷ []) m.made
          ∙ ap (λ (n : Loop). loops_of flags [] (reached_of flags passed) ++ n ∷ []) this ∙ sym (loops_of-push flags [] (reached_of flags passed) l) ∙ ap (loops_of flags []) (sym same);
      around = λ b h. d b (back (λ n. n.head ≤ b) passed l h) ∙ ap (λ (k : ℕ). if nat_lt b l.exit then Some k else inner opened b) size
          ∙ ap (λ (o : Option ℕ). if nat_lt b l.exit then Some (0 + length (reached_of flags passed)) else o) (m.around b (front (λ n. n.head ≤ b) passed l h))
          ∙ sym (last_over-push 0 (reached_of flags passed) l b) ∙ ap (λ ls. last_over 0 ls b) (sym same);
    }

earlier-below : (spans : List SrcLoop) (at : ℕ) (d : SrcLoop) → AllPairs (λ l m. l.head ≤ m.head) spans → at < length spans → All (λ n. n.head ≤ (get_or spans at d).head) (take at spans)
earlier-below spans at d pairs within = λ k e lt.
    let size = length-take-le at spans (omega arith) in
    let below : k < at = omega arith in
    let h = pairs k at e below within in
    let one : get_or (take at spans) k e ≡ get_or spans k e = get_or-take at spans k e below in
    let two : get_or spans at e ≡ get_or spans at d = get_or_default spans at e d within in
    subst (λ (n : SrcLoop). n.head ≤ (get_or spans at d).head) (sym one) (subst (λ (n : SrcLoop). (get_or spans k e).head ≤ n.head) two h)

pub made-past : (flags : List Bool) (spans : List SrcLoop) (at : ℕ) (d : SrcLoop) (loops : List Loop) (opened : List Open) → at < length spans → IsMade flags (take at spans) loops opened → get_or flags (get_or spans at d).head false ≡ false
    → IsMade flags (take (at + 1) spans) loops opened
made-past flags spans at d loops opened within m down =
    subst (λ (ls : List SrcLoop). IsMade flags ls loops opened) (sym (take_more spans at d within)) (made-skip flags (take at spans) (get_or spans at d) loops opened m down)

pub made-more : {T E : Type 0} (r : Result T E) (flags : List Bool) (spans : List SrcLoop) (at : ℕ) (d : SrcLoop) (loops new : List Loop) (opened new_opened : List Open)
    → at < length spans → AllPairs (λ l m. l.head ≤ m.head) spans → IsMade flags (take at spans) loops opened → get_or flags (get_or spans at d).head false ≡ true
    → OnOk r (new ≡ loops ++ record { head = (get_or spans at d).head; blocks = numbers (get_or spans at d).head (slice_range flags (get_or spans at d).head (get_or spans at d).exit); outer = inner opened (get_or spans at d).head } ∷ [])
    → OnOk r ((b : ℕ) → (get_or spans at d).head ≤ b → inner new_opened b ≡ (if nat_lt b (get_or spans at d).exit then Some (length loops) else inner opened b)) → OnOk r (IsMade flags (take (at + 1) spans) new new_opened)
made-more (Err e) flags spans at d loops new opened new_opened within pairs m up a b = tt
made-more (Ok t) flags spans at d loops new opened new_opened within pairs m up a b =
    subst (λ (ls : List SrcLoop). IsMade flags ls new new_opened) (sym (take_more spans at d within))
    (made-one flags (take at spans) (get_or spans at d) loops new opened new_opened m up (earlier-below spans at d pairs within) a b)
