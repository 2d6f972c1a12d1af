-- The loops directly inside a loop stand together among all loops of the procedure, which ascend by head.
use Rattle.std.proofs.Common.{◌≡◌, ℕ, zero, suc, ◌+◌, ◌-◌, ◌<◌, ◌≤◌, ◌&&◌, nat_eq, nat_lt, nat_le, Bool, true, false, not, if◌then◌else◌, List, [], ◌∷◌, ◌++◌, length, map, filter, take, drop, get_or, max, ◌⊎◌, inl, inr, refl, ap, sym, ◌∙◌, subst, arith}
use Rattle.std.proofs.lemmas.Bool.{leb-true, ltb-true, eqb-true, le-leb, cases_lt}
use Rattle.std.proofs.lemmas.List.{take-append-drop, drop-drop, length-drop, length-map, length-take-le, take_all}
use Rattle.std.specs.List.{list_all}
use Rattle.hy_val.proofs.Booleans.{and-first, and-second, and-both}
use Rattle.src_prog.specs.Loops.{holds_block}
use Rattle.src_prog.specs.declared.proc.SrcLoop.{SrcLoop}
use Rattle.src_prog.specs.declared.proc.SrcProc.{SrcProc}
use Rattle.extract_def.specs.Exits.{exits_of}
use Rattle.extract_def.specs.Places.{pass_count}
use Rattle.extract_def.specs.Scopes.{same_scope, innermost}
use Rattle.extract_def.specs.declared.scope.Scope.{Scope}
use Rattle.extract_def.specs.declared.scope.Scope.TheVariants.{Whole, In}
use Rattle.loop_extract.specs.Ascents.{ascends, head_at, IsPlaceFrom}
use Rattle.loop_extract.specs.Heads.{head_of, holds, lies_within, HaveHeads}
use Rattle.loop_extract.specs.Plans.{spans_in, inners_from}
use Rattle.loop_extract.specs.declared.inner.Inner.{Inner}
use Rattle.loop_extract.specs.declared.scopes.Head.{Head}

-- ---- loops that are not directly inside

-- none of the loops stands directly inside the scope
abbrev Apart : Scope → List Head → Type 0
Apart scope [] = Unit {0}
Apart scope (h ∷ hs) = (same_scope h.around scope ≡ false) × Apart scope hs

no : (a b : ℕ) → (a ≡ b → ⊥) → nat_eq a b ≡ false
no a b never = at (nat_eq a b) refl
  where
    at : (t : Bool) → nat_eq a b ≡ t → nat_eq a b ≡ false
    at true e = absurd (never (eqb-true a b e))
    at false e = e

and-false : (a : Bool) → (a && false) ≡ false
and-false true = refl
and-false false = refl

-- a scope that holds a block below the head is another loop's
below_head : (s : Scope) (n head exit : ℕ) → holds s n ≡ true → n < head → same_scope s (In head exit) ≡ false
below_head Whole n head exit h lt = refl
below_head (In a b) n head exit h lt =
    let le : a ≤ n = leb-true a n (and-first (nat_le a n) (nat_lt n b) h) in
    ap (λ t. t && nat_eq b exit) (no a head (λ e. absurd (omega (arith, le, lt, e))))

-- and so is one that holds a block behind the loop
behind_exit : (s : Scope) (n head exit : ℕ) → holds s n ≡ true → exit ≤ n → same_scope s (In head exit) ≡ false
behind_exit Whole n head exit h le = refl
behind_exit (In a b) n head exit h le =
    let lt : n < b = ltb-true n b (and-second (nat_le a n) (nat_lt n b) h) in
    ap (λ t. nat_eq a head && t) (no b exit (λ e. absurd (omega (arith, le, lt, e)))) ∙ and-false (nat_eq a head)

apart_before : (head exit n : ℕ) (hs : List Head) → list_all lies_within hs ≡ true → ((k : ℕ) → k < n → get_or (map head_at hs) k 0 < head) → Apart (In head exit) (take n hs)
apart_before head exit zero hs w less = tt
apart_before head exit (suc n) [] w less = tt
apart_before head exit (suc n) (h ∷ hs) w less =
    (below_head h.around h.span.head head exit (and-first (lies_within h) _ w) (less 0 (omega arith)), apart_before head exit n hs (and-second (lies_within h) _ w) (λ k lt. less (suc k) (omega (arith, lt))))

apart_all : (head exit : ℕ) (hs : List Head) → list_all lies_within hs ≡ true → ((k : ℕ) → k < length (map head_at hs) → exit ≤ get_or (map head_at hs) k 0) → Apart (In head exit) hs
apart_all head exit [] w more = tt
apart_all head exit (h ∷ hs) w more =
    (behind_exit h.around h.span.head head exit (and-first (lies_within h) _ w) (more 0 (omega arith)), apart_all head exit hs (and-second (lies_within h) _ w) (λ k lt. more (suc k) (omega (arith, lt))))

apart_behind : (head exit n : ℕ) (hs : List Head) → list_all lies_within hs ≡ true → ((k : ℕ) → n ≤ k → k < length (map head_at hs) → exit ≤ get_or (map head_at hs) k 0) → Apart (In head exit) (drop n hs)
apart_behind head exit zero hs w more = apart_all head exit hs w (λ k lt. more k (omega arith) lt)
apart_behind head exit (suc n) [] w more = tt
apart_behind head exit (suc n) (h ∷ hs) w more = apart_behind head exit n hs (and-second (lies_within h) _ w) (λ k le lt. more (suc k) (omega (arith, le)) (omega (arith, lt)))

-- ---- they can be left out

spans_skip : (scope : Scope) (xs ys : List Head) → Apart scope xs → spans_in scope (xs ++ ys) ≡ spans_in scope ys
spans_skip scope [] ys a = refl
spans_skip scope (h ∷ xs) ys a =
    ap (λ (b : Bool). map (λ (x : Head). x.span) (if b then h ∷ filter (λ (x : Head). same_scope x.around scope) (xs ++ ys) else filter (λ (x : Head). same_scope x.around scope) (xs ++ ys))) a.0 ∙ spans_skip scope xs ys a.1

spans_none : (scope : Scope) (ys : List Head) → Apart scope ys → spans_in scope ys ≡ []
spans_none scope [] a = refl
spans_none scope (h ∷ ys) a =
    ap (λ (b : Bool). map (λ (x : Head). x.span) (if b then h ∷ filter (λ (x : Head). same_scope x.around scope) ys else filter (λ (x : Head). same_scope x.around scope) ys)) a.0 ∙ spans_none scope ys a.1

spans_stop : (scope : Scope) (xs ys : List Head) → Apart scope ys → spans_in scope (xs ++ ys) ≡ spans_in scope xs
spans_stop scope [] ys a = spans_none scope ys a
spans_stop scope (h ∷ xs) ys a = pick (same_scope h.around scope) (spans_stop scope xs ys a)
  where
    pick : (b : Bool) → spans_in scope (xs ++ ys) ≡ spans_in scope xs
        → map (λ (x : Head). x.span) (if b then h ∷ filter (λ (x : Head). same_scope x.around scope) (xs ++ ys) else filter (λ (x : Head). same_scope x.around scope) (xs ++ ys))
        ≡ map (λ (x : Head). x.span) (if b then h ∷ filter (λ (x : Head). same_scope x.around scope) xs else filter (λ (x : Head). same_scope x.around scope) xs)
    pick true e = ap (λ ls. h.span ∷ ls) e
    pick false e = e

inners_skip : (proc : SrcProc) (scope : Scope) (n f : ℕ) (xs ys : List Head) → Apart scope xs → inners_from proc scope n f (xs ++ ys) ≡ inners_from proc scope (n + length xs) f ys
inners_skip proc scope n f [] ys a = let z : n ≡ n + 0 = omega arith in ap (λ m. inners_from proc scope m f ys) z
inners_skip proc scope n f (h ∷ xs) ys a =
    let z : n + 1 + length xs ≡ n + suc (length xs) = omega arith in
    ap (λ (b : Bool). if b then record { span = h.span; number = n; first = f; exits = exits_of proc h.span } ∷ inners_from proc scope (n + 1) (f + pass_count (exits_of proc h.span)) (xs ++ ys) else inners_from proc scope (n + 1) f (xs ++ ys)) a.0
    ∙ inners_skip proc scope (n + 1) f xs ys a.1 ∙ ap (λ m. inners_from proc scope m f ys) z

inners_none : (proc : SrcProc) (scope : Scope) (n f : ℕ) (ys : List Head) → Apart scope ys → inners_from proc scope n f ys ≡ []
inners_none proc scope n f [] a = refl
inners_none proc scope n f (h ∷ ys) a =
    ap (λ (b : Bool). if b then record { span = h.span; number = n; first = f; exits = exits_of proc h.span } ∷ inners_from proc scope (n + 1) (f + pass_count (exits_of proc h.span)) ys else inners_from proc scope (n + 1) f ys) a.0
    ∙ inners_none proc scope (n + 1) f ys a.1

inners_stop : (proc : SrcProc) (scope : Scope) (n f : ℕ) (xs ys : List Head) → Apart scope ys → inners_from proc scope n f (xs ++ ys) ≡ inners_from proc scope n f xs
inners_stop proc scope n f [] ys a = inners_none proc scope n f ys a
inners_stop proc scope n f (h ∷ xs) ys a = pick (same_scope h.around scope) (inners_stop proc scope (n + 1) (f + pass_count (exits_of proc h.span)) xs ys a) (inners_stop proc scope (n + 1) f xs ys a)
  where
    one : Inner
    one = record { span = h.span; number = n; first = f; exits = exits_of proc h.span }

    pick : (b : Bool) → inners_from proc scope (n + 1) (f + pass_count (exits_of proc h.span)) (xs ++ ys) ≡ inners_from proc scope (n + 1) (f + pass_count (exits_of proc h.span)) xs
        → inners_from proc scope (n + 1) f (xs ++ ys) ≡ inners_from proc scope (n + 1) f xs
        → (if b then one ∷ inners_from proc scope (n + 1) (f + pass_count (exits_of proc h.span)) (xs ++ ys) else inners_from proc scope (n + 1) f (xs ++ ys))
        ≡ (if b then one ∷ inners_from proc scope (n + 1) (f + pass_count (exits_of proc h.span)) xs else inners_from proc scope (n + 1) f xs)
    pick true here there = ap (λ is. one ∷ is) here
    pick false here there = there

-- ---- each loop lies in the scope around it

inner_holds : (test : SrcLoop → Bool) (block : ℕ) → ((m : SrcLoop) → test m ≡ true → holds_block m block ≡ true) → (s : Scope) (ls : List SrcLoop) → holds s block ≡ true → holds (innermost test s ls) block ≡ true
inner_holds test block each s [] h = h
inner_holds test block each s (l ∷ ls) h = inner_holds test block each (if test l then In l.head l.exit else s) ls (pick (test l) refl)
  where
    pick : (b : Bool) → test l ≡ b → holds (if b then In l.head l.exit else s) block ≡ true
    pick true e = each l e
    pick false e = h

pub heads_lie : (loops ls : List SrcLoop) → list_all lies_within (map (head_of loops) ls) ≡ true
heads_lie loops [] = refl
heads_lie loops (l ∷ ls) =
    and-both (lies_within (head_of loops l)) (list_all lies_within (map (head_of loops) ls))
    (inner_holds (λ m. holds_block m l.head && not (nat_eq m.head l.head)) l.head (λ m e. and-first (holds_block m l.head) _ e) Whole loops refl)
    (heads_lie loops ls)

-- ---- the loops of a part ascend

weaken : (low n : ℕ) (ns : List ℕ) → low ≤ n → ascends n ns ≡ true → ascends low ns ≡ true
weaken low n [] le h = refl
weaken low n (m ∷ ns) le h =
    let one : n ≤ m = leb-true n m (and-first (nat_le n m) (ascends m ns) h) in
    and-both (nat_le low m) (ascends m ns) (le-leb low m (omega (arith, le, one))) (and-second (nat_le n m) (ascends m ns) h)

ascend_drop : (low n : ℕ) (hs : List Head) → ascends low (map head_at hs) ≡ true → ascends low (map head_at (drop n hs)) ≡ true
ascend_drop low zero hs h = h
ascend_drop low (suc n) [] h = refl
ascend_drop low (suc n) (x ∷ hs) h =
    let above = and-second (nat_le low x.span.head) (ascends x.span.head (map head_at hs)) h in
    let le : low ≤ x.span.head = leb-true low x.span.head (and-first (nat_le low x.span.head) (ascends x.span.head (map head_at hs)) h) in
    weaken low x.span.head (map head_at (drop n hs)) le (ascend_drop x.span.head n hs above)

ascend_take : (low n : ℕ) (hs : List Head) → ascends low (map head_at hs) ≡ true → ascends low (map head_at (take n hs)) ≡ true
ascend_take low zero hs h = refl
ascend_take low (suc n) [] h = refl
ascend_take low (suc n) (x ∷ hs) h =
    and-both (nat_le low x.span.head) (ascends x.span.head (map head_at (take n hs))) (and-first (nat_le low x.span.head) (ascends x.span.head (map head_at hs)) h)
    (ascend_take x.span.head n hs (and-second (nat_le low x.span.head) (ascends x.span.head (map head_at hs)) h))

-- ---- the part of a scope

-- among these loops, before which so many stand, are all that are directly inside the scope
pub record IsWindow (scope : Scope) (hs : List Head) (first : ℕ) (among : List Head) : Type 0 where
  pub spans : spans_in scope among ≡ spans_in scope hs
  pub inners : (proc : SrcProc) (number f : ℕ) → inners_from proc scope number f hs ≡ inners_from proc scope (number + first) f among
  pub ascend : ascends 0 (map head_at among) ≡ true

pub whole_window : (hs : List Head) → ascends 0 (map head_at hs) ≡ true → IsWindow Whole hs 0 hs
whole_window hs up = record {
  spans = refl;
  inners = λ proc number f. let z : number ≡ number + 0 = omega arith in ap (λ m. inners_from proc Whole m f hs) z;
  ascend = up;
}

pub loop_window : (head exit first stop end : ℕ) (numbers : List ℕ) (hs : List Head) → HaveHeads numbers hs → ascends 0 numbers ≡ true → IsPlaceFrom head numbers first → IsPlaceFrom exit numbers stop → stop ≤ end → first ≤ end
    → IsWindow (In head exit) hs first (take (end - first) (drop first hs))
loop_window head exit first stop end numbers hs have up low high past le = record {
  spans = sym (ap (spans_in (In head exit)) whole ∙ spans_skip (In head exit) (take first hs) (among ++ behind) before_apart ∙ spans_stop (In head exit) among behind behind_apart);
  inners = λ proc number f.
      ap (inners_from proc (In head exit) number f) whole ∙ inners_skip proc (In head exit) number f (take first hs) (among ++ behind) before_apart ∙ inners_stop proc (In head exit) (number + length (take first hs)) f among behind behind_apart
      ∙ ap (λ n. inners_from proc (In head exit) (number + n) f among) long;
  ascend = ascend_take 0 (end - first) (drop first hs) (ascend_drop 0 first hs (ap (ascends 0) (sym have.numbers_are) ∙ up));
}
  where
    among : List Head
    among = take (end - first) (drop first hs)

    behind : List Head
    behind = drop end hs

    within : first ≤ length hs
    within = let a = low.within in let b = ap length have.numbers_are in let d = length-map hs head_at in omega (arith, a, b, d)

    long : length (take first hs) ≡ first
    long = length-take-le first hs within

    rest : drop first hs ≡ among ++ behind
    rest =
        let z : first + (end - first) ≡ end = omega (arith, le) in
        sym (take-append-drop (end - first) (drop first hs)) ∙ ap (λ ys. among ++ ys) (drop-drop (end - first) first hs ∙ ap (λ n. drop n hs) z)

    whole : hs ≡ take first hs ++ (among ++ behind)
    whole = sym (take-append-drop first hs) ∙ ap (λ ys. take first hs ++ ys) rest

    before_apart : Apart (In head exit) (take first hs)
    before_apart = apart_before head exit first hs have.within (λ k lt. let a = low.less k lt in let e = ap (λ ns. get_or ns k 0) have.numbers_are in omega (arith, a, e))

    behind_apart : Apart (In head exit) behind
    behind_apart =
        apart_behind head exit end hs have.within
        (λ k from lt. let e = have.numbers_are in let n = ap length e in let a = high.more k (omega (arith, past, from)) (omega (arith, n, lt)) in let b = ap (λ ns. get_or ns k 0) e in omega (arith, a, b))

-- the same, said of what is equal
pub window_at : (scope s : Scope) (hs own : List Head) (among found : List Head) (first : ℕ) → IsWindow s hs first among → scope ≡ s → hs ≡ own → found ≡ among → IsWindow scope own first found
window_at scope s hs own among found first w e f g = subst (λ (x : List Head). IsWindow scope own first x) (sym g) (subst (λ (x : List Head). IsWindow scope x first among) f (subst (λ (x : Scope). IsWindow x hs first among) (sym e) w))

-- a part of what stands behind the first ones
pub part_is : (first end : ℕ) (hs own : List Head) → own ≡ hs → take (end - first) (take (length own - first) (drop first own)) ≡ take (end - first) (drop first hs)
part_is first end hs own e =
    let long = length-drop first own in
    ap (take (end - first)) (take_all (length own - first) (drop first own) (omega (arith, long))) ∙ ap (λ (xs : List Head). take (end - first) (drop first xs)) e
