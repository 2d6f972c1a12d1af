-- The laws of the loops of a procedure, from what they are.
use Rattle.std.proofs.Common.{◌≡◌, ℕ, suc, ◌+◌, ◌<◌, ◌≤◌, Bool, true, false, List, [], ◌∷◌, length, get_or, ◌⊎◌, inl, inr, Option, Some, None, refl, sym, ◌∙◌, ap, subst, arith, nat_lt}
use Rattle.std.proofs.lemmas.Bool.Decides.{nat_tests}
use Rattle.std.proofs.lemmas.List.{length-map, get_or-map, get_or_default, same_lists}
use Rattle.std.proofs.lemmas.List.Elements.{All-contains}
use Rattle.std.proofs.lemmas.List.Kept.{AllPairs-from_increasing}
use Rattle.std.proofs.lemmas.Option.{slice_get-get_or}
use Rattle.std.specs.List.{AllPairs, Contains, slice_get}
use Rattle.std.specs.List.Sorted.{IsStrictlyIncreasing}
use Rattle.src_prog.specs.Loops.{holds_block}
use Rattle.src_prog.specs.declared.block.SrcBlock.{SrcBlock}
use Rattle.src_prog.specs.declared.proc.SrcLoop.{SrcLoop}
use Rattle.src_prog.specs.declared.proc.SrcProc.{SrcProc}
use Rattle.loop_nest.specs.declared.types.Loop.{Loop}
use Rattle.loop_nest.specs.Laws.{HasNest, NestsAreUnique, HeadsComeFirst, ReachedWithout, LoopsAreEnteredAtHeads, IsBackEdge, OtherEdgesLeadOn, AreDisjoint, Holds, LoopsAreNested}
use Rattle.loop_nest.specs.Laws.ReachedWithout.{entry, edge}
use Rattle.loop_nest.specs.Nests.{IsLoop, heads, blocks_from, blocks_at, IsAround, IsInnermost, IsNest}
use Rattle.loop_nest.specs.Reached.{targets, Reached}
use Rattle.loop_nest.specs.Reached.Reached.{entry as at-entry, edge as one-more}
use Rattle.loop_nest.proofs.Fitting.{IsWithin, AreApart, loops-fit, ProcFits, proc-of}
use Rattle.loop_nest.proofs.Members.{none-in, in-head, in-tail, head-or-tail}
use Rattle.loop_nest.proofs.NestLaws.{holds-true, holds-order}

facts : (proc : SrcProc) (loops : List Loop) → HasNest proc loops → ProcFits proc
facts proc loops h = proc-of h.prog h.number proc h.is_prog h.is_proc

-- ---- one loop

within : (proc : SrcProc) (m : Loop) → ProcFits proc → (is : IsLoop proc m) → IsWithin (length proc.blocks) is.stands
within proc m fits is = All-contains (IsWithin (length proc.blocks)) proc.loops is.stands (loops-fit proc fits.loops).within is.among

block-bounds : (proc : SrcProc) (m : Loop) (is : IsLoop proc m) (b : ℕ) → Contains m.blocks b → (m.head ≤ b) × (b < is.stands.exit)
block-bounds proc m is b h =
    let o = holds-order is.stands b ((is.holds b).0 h).1 in
    let low = o.0 in
    let high = o.1 in
    let e = is.head in
    (omega arith, omega arith)

own-head : (proc : SrcProc) (m : Loop) → ProcFits proc → IsLoop proc m → Contains m.blocks m.head
own-head proc m fits is =
    let w = (within proc m fits is).order in
    let e = is.head in
    (is.holds m.head).1 (is.reached, holds-true is.stands m.head (omega arith) (omega arith))

first-of : (xs : List ℕ) (x : ℕ) → IsStrictlyIncreasing xs → Contains xs x → ((y : ℕ) → Contains xs y → x ≤ y) → slice_get xs 0 ≡ Some x
first-of [] x up here least = absurd (none-in x here)
first-of (y ∷ ys) x up here least = by (head-or-tail y ys x here)
  where
    by : (y ≡ x) ⊎ Contains ys x → Some y ≡ Some x
    by (inl e) = ap Some e
    by (inr (k, lt, e)) =
        let le = least y (in-head y ys) in
        let pairs = AllPairs-from_increasing (y ∷ ys) up 0 (suc k) x (omega arith) (omega arith) in
        absurd (omega arith)

pub heads-first : HeadsComeFirst
heads-first proc loops h = λ k d lt.
    let fits = facts proc loops h in
    let m = get_or loops k d in
    let is = h.nest.each k d lt in
    first-of m.blocks m.head is.ascend (own-head proc m fits is) (λ y here. (block-bounds proc m is y here).0)

enters : (proc : SrcProc) (m : Loop) → ProcFits proc → IsLoop proc m → (from to : ℕ) → Reached proc.blocks from → Contains (targets proc.blocks from) to → (Contains m.blocks from → ⊥) → Contains m.blocks to → to ≡ m.head
enters proc m fits is from to reached there outside inside = by ((fits.edges from to there).enters is.stands is.among ((is.holds to).0 inside).1)
  where
    by : (holds_block is.stands from ≡ true) ⊎ (is.stands.head ≡ to) → to ≡ m.head
    by (inl s) = absurd (outside ((is.holds from).1 (reached, s)))
    by (inr s) = sym s ∙ sym is.head

reached-of : (blocks : List SrcBlock) (avoided b : ℕ) → ReachedWithout blocks avoided b → Reached blocks b
reached-of blocks avoided b (entry n) = at-entry
reached-of blocks avoided b (edge {from = from} r there n) = one-more (reached-of blocks avoided from r) there

passes : (proc : SrcProc) (m : Loop) → ProcFits proc → IsLoop proc m → (b : ℕ) → ReachedWithout proc.blocks m.head b → Contains m.blocks b → ⊥
passes proc m fits is b (entry n) inside =
    let some = (within proc m fits is).some in
    let e = is.head in
    let low = (block-bounds proc m is 0 inside).0 in
    omega arith
passes proc m fits is b (edge {from = from} r there n) inside =
    n (enters proc m fits is from b (reached-of proc.blocks m.head from r) there (passes proc m fits is from r) inside)

pub entered-at-heads : LoopsAreEnteredAtHeads
entered-at-heads = record {
  edges = λ proc loops h from to reached there k d lt. enters proc (get_or loops k d) (facts proc loops h) (h.nest.each k d lt) from to reached there;
  paths = λ proc loops h k d lt b inside r. passes proc (get_or loops k d) (facts proc loops h) (h.nest.each k d lt) b r inside;
}

-- ---- a `while` is known by its head

same-place : (ls : List SrcLoop) → AllPairs AreApart ls → (i j : ℕ) (d : SrcLoop) → i < length ls → j < length ls → (get_or ls i d).head ≡ (get_or ls j d).head → i ≡ j
same-place ls apart i j d a b e = by (nat_lt i j) refl (nat_lt j i) refl
  where
    by : (s : Bool) → nat_lt i j ≡ s → (t : Bool) → nat_lt j i ≡ t → i ≡ j
    by true s t u = let lt : i < j = grind (arith, nat_tests) in let h = (apart i j d lt b).below in absurd (omega arith)
    by false s true u = let lt : j < i = grind (arith, nat_tests) in let h = (apart j i d lt a).below in absurd (omega arith)
    by false s false u = grind (arith, nat_tests)

same-stands : (ls : List SrcLoop) → AllPairs AreApart ls → (l m : SrcLoop) → Contains ls l → Contains ls m → l.head ≡ m.head → l ≡ m
same-stands ls apart l m (i, a, d) (j, b, e) same =
    let f : get_or ls j l ≡ m = get_or_default ls j l m b ∙ e in
    let at : i ≡ j = same-place ls apart i j l a b (ap (λ (n : SrcLoop). n.head) d ∙ same ∙ ap (λ (n : SrcLoop). n.head) (sym f)) in
    sym d ∙ ap (λ (k : ℕ). get_or ls k l) at ∙ f

head-at : (loops : List Loop) (h : ℕ) → Contains (heads loops) h → (k : ℕ) × (k < length loops) × ((d : Loop) → (get_or loops k d).head ≡ h)
head-at loops h (k, lt, e) =
    let less : k < length loops = omega (arith, length-map loops (λ (m : Loop). m.head)) in
    (k, less, λ d. sym (get_or-map (λ (m : Loop). m.head) loops k d h less) ∙ e)

pub edges-lead-on : OtherEdgesLeadOn
edges-lead-on proc loops h from to reached there = by ((facts proc loops h).edges from to there).way
  where
    back : (l : SrcLoop) → Contains proc.loops l → l.head ≡ to → holds_block l from ≡ true → (k : ℕ) × (k < length loops) × ((d : Loop) → (get_or loops k d).head ≡ l.head) → IsBackEdge loops from to
    back l among e holds (k, lt, at) =
        let d : Loop = record { head = 0; blocks = []; outer = None } in
        let m = get_or loops k d in
        let is = h.nest.each k d lt in
        let same : is.stands ≡ l = same-stands proc.loops (loops-fit proc (facts proc loops h).loops).apart is.stands l is.among among (sym is.head ∙ at d) in
        (k, m, lt, sym (get_or_default loops k d m lt), ((is.holds from).1 (reached, ap (λ (n : SrcLoop). holds_block n from) same ∙ holds), at d ∙ e))

    by : (from < to) ⊎ ((l : SrcLoop) × Contains proc.loops l × (l.head ≡ to) × (holds_block l from ≡ true)) → (from < to) ⊎ IsBackEdge loops from to
    by (inl s) = inl s
    by (inr (l, among, e, holds)) = inr (back l among e holds (head-at loops l.head (h.nest.every l among (subst (Reached proc.blocks) (sym e) (one-more reached there)))))

-- ---- two loops

heads-below : (proc : SrcProc) (loops : List Loop) → IsNest proc loops → (i j : ℕ) (d : Loop) → i < j → j < length loops → (get_or loops i d).head < (get_or loops j d).head
heads-below proc loops nest i j d lt inside =
    let size = length-map loops (λ (m : Loop). m.head) in
    let a = get_or-map (λ (m : Loop). m.head) loops i d 0 (omega arith) in
    let b = get_or-map (λ (m : Loop). m.head) loops j d 0 inside in
    let h = AllPairs-from_increasing (heads loops) nest.ascend i j 0 lt (omega arith) in
    omega arith

stands-apart : (ls : List SrcLoop) → AllPairs AreApart ls → (l m : SrcLoop) → Contains ls l → Contains ls m → l.head < m.head → AreApart l m
stands-apart ls apart l m (i, a, d) (j, b, e) below = by (nat_lt i j) refl
  where
    f : get_or ls j l ≡ m
    f = get_or_default ls j l m b ∙ e

    hl : (get_or ls i l).head ≡ l.head
    hl = ap (λ (n : SrcLoop). n.head) d

    hm : (get_or ls j l).head ≡ m.head
    hm = ap (λ (n : SrcLoop). n.head) f

    by : (t : Bool) → nat_lt i j ≡ t → AreApart l m
    by true s = let lt : i < j = grind (arith, nat_tests) in subst (λ (n : SrcLoop). AreApart n m) d (subst (λ (n : SrcLoop). AreApart (get_or ls i l) n) f (apart i j l lt b))
    by false s = absurd (not-below (nat_lt j i) refl (λ lt. (apart j i l lt a).below))
      where
        not-below : (t : Bool) → nat_lt j i ≡ t → (j < i → (get_or ls j l).head < (get_or ls i l).head) → ⊥
        not-below true u h = let lt : j < i = grind (arith, nat_tests) in let k = h lt in let p = hl in let q = hm in omega arith
        not-below false u h =
            let at : i ≡ j = grind (arith, nat_tests) in
            let same : (get_or ls i l).head ≡ (get_or ls j l).head = ap (λ (k : ℕ). (get_or ls k l).head) at in
            let p = hl in
            let q = hm in
            omega arith

pub nested : LoopsAreNested
nested proc loops h = λ i j d lt inside.
    let fits = facts proc loops h in
    let m = get_or loops i d in
    let n = get_or loops j d in
    let a = h.nest.each i d (omega arith) in
    let b = h.nest.each j d inside in
    let below = heads-below proc loops h.nest i j d lt inside in
    let e = a.head in
    let f = b.head in
    let apart = stands-apart proc.loops (loops-fit proc fits.loops).apart a.stands b.stands a.among b.among (omega arith) in
    by m n a b apart
  where
    by : (m n : Loop) (a : IsLoop proc m) (b : IsLoop proc n) → AreApart a.stands b.stands → AreDisjoint m n ⊎ Holds m n
    by m n a b apart = way apart.apart
      where
        way : (a.stands.exit ≤ b.stands.head) ⊎ (b.stands.exit < a.stands.exit) → AreDisjoint m n ⊎ Holds m n
        way (inl s) = inl (λ block x y.
            let p = (block-bounds proc m a block x).1 in
            let q = (block-bounds proc n b block y).0 in
            let f = b.head in
            omega arith)
        way (inr s) = inr (λ block y.
            let q = block-bounds proc n b block y in
            let low = q.0 in
            let high = q.1 in
            let f = b.head in
            let below = apart.below in
            (a.holds block).1 (((b.holds block).0 y).0, holds-true a.stands block (omega arith) (omega arith)))

-- ---- one nest

-- lists that increase and have the same elements are the same
same-increasing : (xs ys : List ℕ) → IsStrictlyIncreasing xs → IsStrictlyIncreasing ys → ((x : ℕ) → Contains xs x → Contains ys x) → ((y : ℕ) → Contains ys y → Contains xs y) → xs ≡ ys
same-increasing [] [] a b f g = refl
same-increasing [] (y ∷ ys) a b f g = absurd (none-in y (g y (in-head y ys)))
same-increasing (x ∷ xs) [] a b f g = absurd (none-in x (f x (in-head x xs)))
same-increasing (x ∷ xs) (y ∷ ys) a b f g =
    let e : x ≡ y = first in
    ap (λ (n : ℕ). n ∷ xs) e ∙ ap (λ (ns : List ℕ). y ∷ ns) (same-increasing xs ys (rest x xs a) (rest y ys b) (further first) (back-further first))
  where
    rest : (n : ℕ) (ns : List ℕ) → IsStrictlyIncreasing (n ∷ ns) → IsStrictlyIncreasing ns
    rest n ns up = λ k lt. let e : suc (k + 1) ≡ suc k + 1 = omega arith in subst (λ (j : ℕ). get_or ns k 0 < get_or (n ∷ ns) j 0) (sym e) (up (suc k) (omega arith))

    above : (n : ℕ) (ns : List ℕ) → IsStrictlyIncreasing (n ∷ ns) → (z : ℕ) → Contains ns z → n < z
    above n ns up z (k, lt, e) = let h = AllPairs-from_increasing (n ∷ ns) up 0 (suc k) z (omega arith) (omega arith) in omega arith

    least : (n : ℕ) (ns : List ℕ) → IsStrictlyIncreasing (n ∷ ns) → (z : ℕ) → Contains (n ∷ ns) z → n ≤ z
    least n ns up z h = by (head-or-tail n ns z h)
      where
        by : (n ≡ z) ⊎ Contains ns z → n ≤ z
        by (inl e) = omega arith
        by (inr k) = let lt = above n ns up z k in omega arith

    first : x ≡ y
    first =
        let p = least y ys b x (f x (in-head x xs)) in
        let q = least x xs a y (g y (in-head y ys)) in
        omega arith

    tail : (n : ℕ) (ns : List ℕ) (z : ℕ) → n < z → Contains (n ∷ ns) z → Contains ns z
    tail n ns z lt h = by (head-or-tail n ns z h)
      where
        by : (n ≡ z) ⊎ Contains ns z → Contains ns z
        by (inl e) = absurd (omega arith)
        by (inr k) = k

    further : x ≡ y → (z : ℕ) → Contains xs z → Contains ys z
    further e z h = let lt = above x xs a z h in tail y ys z (omega arith) (f z (in-tail x xs z h))

    back-further : x ≡ y → (z : ℕ) → Contains ys z → Contains xs z
    back-further e z h = let lt = above y ys b z h in tail x xs z (omega arith) (g z (in-tail y ys z h))

head-among : (proc : SrcProc) (one other : List Loop) → IsNest proc one → IsNest proc other → (h : ℕ) → Contains (heads one) h → Contains (heads other) h
head-among proc one other a b h here = by (head-at one h here)
  where
    by : (k : ℕ) × (k < length one) × ((d : Loop) → (get_or one k d).head ≡ h) → Contains (heads other) h
    by (k, lt, at) =
        let d : Loop = record { head = 0; blocks = []; outer = None } in
        let is = a.each k d lt in
        let e : is.stands.head ≡ h = sym is.head ∙ at d in
        subst (Contains (heads other)) e (b.every is.stands is.among (subst (Reached proc.blocks) is.head is.reached))

same-heads : (proc : SrcProc) (one other : List Loop) → IsNest proc one → IsNest proc other → heads one ≡ heads other
same-heads proc one other a b = same-increasing (heads one) (heads other) a.ascend b.ascend (head-among proc one other a b) (head-among proc other one b a)

same-blocks : (proc : SrcProc) (m n : Loop) → ProcFits proc → IsLoop proc m → IsLoop proc n → m.head ≡ n.head → m.blocks ≡ n.blocks
same-blocks proc m n fits a b e =
    let same : a.stands ≡ b.stands = same-stands proc.loops (loops-fit proc fits.loops).apart a.stands b.stands a.among b.among (sym a.head ∙ e ∙ b.head) in
    same-increasing m.blocks n.blocks a.ascend b.ascend
    (λ x h. let o = (a.holds x).0 h in (b.holds x).1 (o.0, ap (λ (l : SrcLoop). holds_block l x) (sym same) ∙ o.1))
    (λ x h. let o = (b.holds x).0 h in (a.holds x).1 (o.0, ap (λ (l : SrcLoop). holds_block l x) same ∙ o.1))

-- two nests with the same blocks at each place
record AreAlike (proc : SrcProc) (one other : List Loop) : Type 0 where
  size : length one ≡ length other
  head : (i : ℕ) (d : Loop) → i < length one → (get_or one i d).head ≡ (get_or other i d).head
  blocks : (i : ℕ) (d : Loop) → i < length one → (get_or one i d).blocks ≡ (get_or other i d).blocks

alike : (proc : SrcProc) (one other : List Loop) → ProcFits proc → IsNest proc one → IsNest proc other → AreAlike proc one other
alike proc one other fits a b =
    let e = same-heads proc one other a b in
    let p = length-map one (λ (m : Loop). m.head) in
    let q = length-map other (λ (m : Loop). m.head) in
    let size : length one ≡ length other = omega (arith, ap length e) in
    let head : (i : ℕ) (d : Loop) → i < length one → (get_or one i d).head ≡ (get_or other i d).head = λ i d lt.
    sym (get_or-map (λ (m : Loop). m.head) one i d 0 lt) ∙ ap (λ (ns : List ℕ). get_or ns i 0) e ∙ get_or-map (λ (m : Loop). m.head) other i d 0 (omega arith) in
    record {
      size = size;
      head = head;
      blocks = λ i d lt. same-blocks proc (get_or one i d) (get_or other i d) fits (a.each i d lt) (b.each i d (omega arith)) (head i d lt);
    }

blocks-at : (loops : List Loop) (i : ℕ) (d : Loop) → i < length loops → blocks_at loops i ≡ (get_or loops i d).blocks
blocks-at loops i d lt = ap blocks_from (slice_get-get_or loops i d lt)

around-alike : (proc : SrcProc) (one other : List Loop) → AreAlike proc one other → (i o : ℕ) → i < length one → IsAround one i o → IsAround other i o
around-alike proc one other like i o lt a =
    let d : Loop = record { head = 0; blocks = []; outer = None } in
    let size = like.size in
    let inside = a.within in
    let inner : blocks_at one i ≡ blocks_at other i = blocks-at one i d lt ∙ like.blocks i d lt ∙ sym (blocks-at other i d (omega arith)) in
    let outer : blocks_at one o ≡ blocks_at other o = blocks-at one o d inside ∙ like.blocks o d inside ∙ sym (blocks-at other o d (omega arith)) in
    record {
      within = omega arith;
      other = a.other;
      holds = λ b h. subst (λ (bs : List ℕ). Contains bs b) outer (a.holds b (subst (λ (bs : List ℕ). Contains bs b) (sym inner) h));
    }

-- two loops are not each around the other
not-both : (proc : SrcProc) (loops : List Loop) → ProcFits proc → IsNest proc loops → (i o : ℕ) → IsAround loops i o → IsAround loops o i → ⊥
not-both proc loops fits nest i o a b = by (nat_lt i o) refl (nat_lt o i) refl
  where
    nobody : Loop
    nobody = record { head = 0; blocks = []; outer = None }

    reach : (i o : ℕ) → IsAround loops i o → i < length loops → (get_or loops o nobody).head ≤ (get_or loops i nobody).head
    reach i o a lt =
        let m = get_or loops i nobody in
        let own : Contains (blocks_at loops i) m.head = subst (λ (bs : List ℕ). Contains bs m.head) (sym (blocks-at loops i nobody lt)) (own-head proc m fits (nest.each i nobody lt)) in
        (block-bounds proc (get_or loops o nobody) (nest.each o nobody a.within) m.head (subst (λ (bs : List ℕ). Contains bs m.head) (blocks-at loops o nobody a.within) (a.holds m.head own))).0

    by : (s : Bool) → nat_lt i o ≡ s → (t : Bool) → nat_lt o i ≡ t → ⊥
    by true s t u = let lt : i < o = grind (arith, nat_tests) in let h = heads-below proc loops nest i o nobody lt a.within in let k = reach i o a b.within in omega arith
    by false s true u = let lt : o < i = grind (arith, nat_tests) in let h = heads-below proc loops nest o i nobody lt b.within in let k = reach o i b a.within in omega arith
    by false s false u = let e : o ≡ i = grind (arith, nat_tests) in a.other e

same-outer : (proc : SrcProc) (one other : List Loop) → ProcFits proc → IsNest proc one → IsNest proc other → AreAlike proc one other → AreAlike proc other one → (i : ℕ) → i < length one → (o p : Option ℕ) → IsInnermost one i o → IsInnermost other i p → o ≡ p
same-outer proc one other fits a b like back i lt None None h k = refl
same-outer proc one other fits a b like back i lt None (Some p) h k = let size = like.size in absurd (h p (around-alike proc other one back i p (omega arith) k.0))
same-outer proc one other fits a b like back i lt (Some o) None h k = absurd (k o (around-alike proc one other like i o lt h.0))
same-outer proc one other fits a b like back i lt (Some o) (Some p) h k =
    let size = like.size in
    by (h.1 p (around-alike proc other one back i p (omega arith) k.0)) (k.1 o (around-alike proc one other like i o lt h.0))
  where
    by : (p ≡ o) ⊎ IsAround one o p → (o ≡ p) ⊎ IsAround other p o → Some o ≡ Some p
    by (inl e) v = ap Some (sym e)
    by (inr u) (inl e) = ap Some e
    by (inr u) (inr v) = let size = like.size in let inside = u.within in absurd (not-both proc one fits a o p u (around-alike proc other one back p o (omega arith) v))

same-loop : (m n : Loop) → m.head ≡ n.head → m.blocks ≡ n.blocks → m.outer ≡ n.outer → m ≡ n
same-loop m n a b c =
    ap (λ (h : ℕ). let l : Loop = record { head = h; blocks = m.blocks; outer = m.outer } in l) a ∙ ap (λ (bs : List ℕ). let l : Loop = record { head = n.head; blocks = bs; outer = m.outer } in l) b
    ∙ ap (λ (o : Option ℕ). let l : Loop = record { head = n.head; blocks = n.blocks; outer = o } in l) c

pub unique : NestsAreUnique
unique proc one other h b =
    let fits = facts proc one h in
    let like = alike proc one other fits h.nest b in
    let back = alike proc other one fits b h.nest in
    let size = like.size in
    same_lists one other size (λ k d lt.
    let within' : k < length other = omega arith in
    same-loop (get_or one k d) (get_or other k d) (like.head k d lt) (like.blocks k d lt)
    (same-outer proc one other fits h.nest b like back k lt (get_or one k d).outer (get_or other k d).outer (h.nest.outers k (get_or one k d) (slice_get-get_or one k d lt)) (b.outers k (get_or other k d) (slice_get-get_or other k d within'))))
