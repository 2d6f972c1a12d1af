-- Ascending pairs: what a write leaves, and where it goes.
use Rattle.std.proofs.Common.{◌≡◌, ◌≢◌, ℕ, zero, suc, ◌^◌, ◌<◌, ◌≤◌, Bool, true, false, not, ◌&&◌, List, [], ◌∷◌, length, arith, sym, ◌∙◌, ap, refl, subst}
use Rattle.std.specs.Prelude.{nat_eq, nat_lt, if◌then◌else◌, slice_get, slice_set, slice_index_or, insert, remove, IsTrue}
use Rattle.std.proofs.lemmas.Bool.Decides.{nat_tests}
use Rattle.hy_val.specs.Word.{Word}
use Rattle.hy_val.specs.Sorts.{is_scalar, has_scalar, rank, is_zero, zero_of_scalar}
use Rattle.hy_val.specs.Table.{Table}
use Rattle.hy_val.specs.Maps.{pair_fits, pairs_fit, first_above, ascends, is_map, entry, select, kept, put, stored, WritesAt, MapsThatAgreeAreEqual}
use Rattle.hy_val.specs.Places.{count_below, is_at, entry_at}
use Rattle.hy_val.specs.declared.sort.Scalar.{Scalar}
use Rattle.hy_val.specs.declared.sort.ScalarKind.TheVariants.{Bool as BoolSort, Bv as BvSort}
use Rattle.hy_val.specs.declared.atom.Atom.{Atom}
use Rattle.hy_val.specs.declared.atom.AtomKind.TheVariants.{Bool as BoolAtom, Bv as BvAtom}

-- ---- tests

pub both : (a b : Bool) → a ≡ true → b ≡ true → IsTrue (a && b)
both true b h k = k
both false b h k = cc

pub left : (a b : Bool) → IsTrue (a && b) → a ≡ true
left true b h = refl
left false b h = cc

pub right : (a b : Bool) → IsTrue (a && b) → b ≡ true
right true b h = h
right false b h = cc

if_true : {A : Type 0} (t : Bool) (x y : A) → t ≡ true → (if t then x else y) ≡ x
if_true true x y h = refl
if_true false x y h = cc

if_false : {A : Type 0} (t : Bool) (x y : A) → t ≡ false → (if t then x else y) ≡ y
if_false true x y h = cc
if_false false x y h = refl

lt_is : (m n : ℕ) → m < n → nat_lt m n ≡ true
lt_is m n h = grind (arith, nat_tests, h)

lt_not : (m n : ℕ) → n ≤ m → nat_lt m n ≡ false
lt_not m n h = grind (arith, nat_tests, h)

is_lt : (m n : ℕ) → nat_lt m n ≡ true → m < n
is_lt m n h = grind (arith, nat_tests, h)

not_lt : (m n : ℕ) → nat_lt m n ≡ false → n ≤ m
not_lt m n h = grind (arith, nat_tests, h)

eq_is : (m n : ℕ) → m ≡ n → nat_eq m n ≡ true
eq_is m n h = grind (arith, nat_tests, h)

eq_not : (m n : ℕ) → m ≢ n → nat_eq m n ≡ false
eq_not m n h = grind (arith, nat_tests, h)

is_eq : (m n : ℕ) → nat_eq m n ≡ true → m ≡ n
is_eq m n h = grind (arith, nat_tests, h)

not_eq : (m n : ℕ) → nat_eq m n ≡ false → m ≢ n
not_eq m n h = grind (arith, nat_tests, h)

-- ---- reading

first_lower : (n m : ℕ) (ps : List (Atom × Atom)) → n ≤ m → first_above m ps ≡ true → first_above n ps ≡ true
first_lower n m [] le h = refl
first_lower n m (p ∷ ps) le h = let less : m < rank p.0 = is_lt m (rank p.0) h in lt_is n (rank p.0) (omega arith)

-- no pair stands at or below what is below the first
pub entry-above : (none : Atom) (n : ℕ) (ps : List (Atom × Atom)) (i : Atom) → first_above n ps ≡ true → ascends ps ≡ true → rank i ≤ n → entry none ps i ≡ none
entry-above none n [] i f a le = refl
entry-above none n (p ∷ ps) i f a le =
    let less : n < rank p.0 = is_lt n (rank p.0) f in
    let other : rank p.0 ≢ rank i = omega arith in
    if_false (nat_eq (rank p.0) (rank i)) p.1 (entry none ps i) (eq_not (rank p.0) (rank i) other)
    ∙ entry-above none (rank p.0) ps i (left (first_above (rank p.0) ps) (ascends ps) a) (right (first_above (rank p.0) ps) (ascends ps) a) (omega arith)

-- ---- writing

entry-kept_by : (z e : Bool) (none v i : Atom) (ps : List (Atom × Atom)) (j : Atom) → nat_eq (rank i) (rank j) ≡ e → (z ≡ true → v ≡ none)
    → (e ≡ true → entry none ps j ≡ none) → entry none (if z then ps else (i, v) ∷ ps) j ≡ (if e then v else entry none ps j)
entry-kept_by true true none v i ps j is zeros empty = empty refl ∙ sym (zeros refl)
entry-kept_by true false none v i ps j is zeros empty = refl
entry-kept_by false e none v i ps j is zeros empty = ap (λ t. if t then v else entry none ps j) is

entry-kept : (none v i : Atom) (ps : List (Atom × Atom)) (j : Atom) → (is_zero v ≡ true → v ≡ none)
    → (nat_eq (rank i) (rank j) ≡ true → entry none ps j ≡ none) → entry none (kept i v ps) j ≡ (if nat_eq (rank i) (rank j) then v else entry none ps j)
entry-kept none v i ps j zeros empty = entry-kept_by (is_zero v) (nat_eq (rank i) (rank j)) none v i ps j refl zeros empty

-- two tests that are not both true commute
swapped : (s t : Bool) (x y z : Atom) → (s ≡ true → t ≡ false) → (if s then x else if t then y else z) ≡ (if t then y else if s then x else z)
swapped true true x y z apart = cc (apart refl)
swapped true false x y z apart = refl
swapped false true x y z apart = refl
swapped false false x y z apart = refl

-- the second of two equal tests is not met
again : (s t : Bool) (x y z : Atom) → t ≡ s → (if t then x else z) ≡ (if t then x else if s then y else z)
again true true x y z same = refl
again true false x y z same = cc
again false true x y z same = cc
again false false x y z same = refl

same_test : (p i j : ℕ) → p ≡ i → nat_eq i j ≡ nat_eq p j
same_test p i j same = ap (λ n. nat_eq n j) (sym same)

entry-put_by : (less same : Bool) (none v i : Atom) (p : Atom × Atom) (ps : List (Atom × Atom)) (j : Atom)
    → nat_lt (rank p.0) (rank i) ≡ less → nat_eq (rank p.0) (rank i) ≡ same → (is_zero v ≡ true → v ≡ none)
    → first_above (rank p.0) ps ≡ true → ascends ps ≡ true
    → entry none (put i v ps) j ≡ (if nat_eq (rank i) (rank j) then v else entry none ps j)
    → entry none (if less then p ∷ put i v ps else if same then kept i v ps else kept i v (p ∷ ps)) j
    ≡ (if nat_eq (rank i) (rank j) then v else entry none (p ∷ ps) j)
entry-put_by true same none v i p ps j is_less is_same zeros above rest ih =
    ap (λ x. if nat_eq (rank p.0) (rank j) then p.1 else x) ih
    ∙ swapped (nat_eq (rank p.0) (rank j)) (nat_eq (rank i) (rank j)) p.1 v (entry none ps j)
    (λ h. let less : rank p.0 < rank i = is_lt (rank p.0) (rank i) is_less in
    let here : rank p.0 ≡ rank j = is_eq (rank p.0) (rank j) h in
    let other : rank i ≢ rank j = omega arith in
    eq_not (rank i) (rank j) other)
entry-put_by false true none v i p ps j is_less is_same zeros above rest ih =
    let same : rank p.0 ≡ rank i = is_eq (rank p.0) (rank i) is_same in
    entry-kept none v i ps j zeros
    (λ h. let here : rank i ≡ rank j = is_eq (rank i) (rank j) h in
    entry-above none (rank p.0) ps j above rest (omega arith))
    ∙ again (nat_eq (rank p.0) (rank j)) (nat_eq (rank i) (rank j)) v p.1 (entry none ps j) (same_test (rank p.0) (rank i) (rank j) same)
entry-put_by false false none v i p ps j is_less is_same zeros above rest ih =
    let least : rank i ≤ rank p.0 = not_lt (rank p.0) (rank i) is_less in
    let other : rank p.0 ≢ rank i = not_eq (rank p.0) (rank i) is_same in
    entry-kept none v i (p ∷ ps) j zeros
    (λ h. let here : rank i ≡ rank j = is_eq (rank i) (rank j) h in
    let less : rank i < rank p.0 = omega arith in
    entry-above none (rank i) (p ∷ ps) j (lt_is (rank i) (rank p.0) less) (both (first_above (rank p.0) ps) (ascends ps) above rest) (omega arith))

pub entry-put : (none v i : Atom) (ps : List (Atom × Atom)) (j : Atom) → (is_zero v ≡ true → v ≡ none) → ascends ps ≡ true
    → entry none (put i v ps) j ≡ (if nat_eq (rank i) (rank j) then v else entry none ps j)
entry-put none v i [] j zeros a = entry-kept none v i [] j zeros (λ h. refl)
entry-put none v i (p ∷ ps) j zeros a =
    entry-put_by (nat_lt (rank p.0) (rank i)) (nat_eq (rank p.0) (rank i)) none v i p ps j refl refl zeros
    (left (first_above (rank p.0) ps) (ascends ps) a) (right (first_above (rank p.0) ps) (ascends ps) a)
    (entry-put none v i ps j zeros (right (first_above (rank p.0) ps) (ascends ps) a))

first-kept_by : (z : Bool) (n : ℕ) (i v : Atom) (ps : List (Atom × Atom)) → n < rank i → first_above n ps ≡ true → first_above n (if z then ps else (i, v) ∷ ps) ≡ true
first-kept_by true n i v ps less f = f
first-kept_by false n i v ps less f = lt_is n (rank i) less

ascends-kept_by : (z : Bool) (i v : Atom) (ps : List (Atom × Atom)) → first_above (rank i) ps ≡ true → ascends ps ≡ true → ascends (if z then ps else (i, v) ∷ ps) ≡ true
ascends-kept_by true i v ps f a = a
ascends-kept_by false i v ps f a = both (first_above (rank i) ps) (ascends ps) f a

first-put_by : (less same : Bool) (n : ℕ) (i v : Atom) (p : Atom × Atom) (ps : List (Atom × Atom)) → n < rank i → n < rank p.0 → first_above (rank p.0) ps ≡ true
    → first_above n (if less then p ∷ put i v ps else if same then kept i v ps else kept i v (p ∷ ps)) ≡ true
first-put_by true same n i v p ps under first above = lt_is n (rank p.0) first
first-put_by false true n i v p ps under first above =
    first-kept_by (is_zero v) n i v ps under (first_lower n (rank p.0) ps (omega arith) above)
first-put_by false false n i v p ps under first above = first-kept_by (is_zero v) n i v (p ∷ ps) under (lt_is n (rank p.0) first)

first-put : (n : ℕ) (i v : Atom) (ps : List (Atom × Atom)) → n < rank i → first_above n ps ≡ true → ascends ps ≡ true → first_above n (put i v ps) ≡ true
first-put n i v [] under f a = first-kept_by (is_zero v) n i v [] under refl
first-put n i v (p ∷ ps) under f a =
    first-put_by (nat_lt (rank p.0) (rank i)) (nat_eq (rank p.0) (rank i)) n i v p ps under (is_lt n (rank p.0) f) (left (first_above (rank p.0) ps) (ascends ps) a)

ascends-put_by : (less same : Bool) (i v : Atom) (p : Atom × Atom) (ps : List (Atom × Atom))
    → nat_lt (rank p.0) (rank i) ≡ less → nat_eq (rank p.0) (rank i) ≡ same
    → first_above (rank p.0) ps ≡ true → ascends ps ≡ true → ascends (put i v ps) ≡ true
    → ascends (if less then p ∷ put i v ps else if same then kept i v ps else kept i v (p ∷ ps)) ≡ true
ascends-put_by true same i v p ps is_less is_same above rest ih =
    both (first_above (rank p.0) (put i v ps)) (ascends (put i v ps)) (first-put (rank p.0) i v ps (is_lt (rank p.0) (rank i) is_less) above rest) ih
ascends-put_by false true i v p ps is_less is_same above rest ih =
    let same : rank p.0 ≡ rank i = is_eq (rank p.0) (rank i) is_same in
    ascends-kept_by (is_zero v) i v ps (first_lower (rank i) (rank p.0) ps (omega arith) above) rest
ascends-put_by false false i v p ps is_less is_same above rest ih =
    let least : rank i ≤ rank p.0 = not_lt (rank p.0) (rank i) is_less in
    let other : rank p.0 ≢ rank i = not_eq (rank p.0) (rank i) is_same in
    let less : rank i < rank p.0 = omega arith in
    ascends-kept_by (is_zero v) i v (p ∷ ps) (lt_is (rank i) (rank p.0) less) (both (first_above (rank p.0) ps) (ascends ps) above rest)

pub ascends-put : (i v : Atom) (ps : List (Atom × Atom)) → ascends ps ≡ true → ascends (put i v ps) ≡ true
ascends-put i v [] a = ascends-kept_by (is_zero v) i v [] refl refl
ascends-put i v (p ∷ ps) a =
    ascends-put_by (nat_lt (rank p.0) (rank i)) (nat_eq (rank p.0) (rank i)) i v p ps refl refl
    (left (first_above (rank p.0) ps) (ascends ps) a) (right (first_above (rank p.0) ps) (ascends ps) a)
    (ascends-put i v ps (right (first_above (rank p.0) ps) (ascends ps) a))

fit-kept_by : (z : Bool) (index elem : Scalar) (i v : Atom) (ps : List (Atom × Atom)) → is_zero v ≡ z → has_scalar i index ≡ true → has_scalar v elem ≡ true
    → pairs_fit index elem ps ≡ true → pairs_fit index elem (if z then ps else (i, v) ∷ ps) ≡ true
fit-kept_by true index elem i v ps is hi hv f = f
fit-kept_by false index elem i v ps is hi hv f =
    both (has_scalar i index && has_scalar v elem && not (is_zero v)) (pairs_fit index elem ps)
    (both (has_scalar i index && has_scalar v elem) (not (is_zero v)) (both (has_scalar i index) (has_scalar v elem) hi hv) (ap not is)) f

fit-put_by : (less same : Bool) (index elem : Scalar) (i v : Atom) (p : Atom × Atom) (ps : List (Atom × Atom)) → has_scalar i index ≡ true → has_scalar v elem ≡ true
    → pair_fits index elem p ≡ true → pairs_fit index elem ps ≡ true → pairs_fit index elem (put i v ps) ≡ true
    → pairs_fit index elem (if less then p ∷ put i v ps else if same then kept i v ps else kept i v (p ∷ ps)) ≡ true
fit-put_by true same index elem i v p ps hi hv first rest ih = both (pair_fits index elem p) (pairs_fit index elem (put i v ps)) first ih
fit-put_by false true index elem i v p ps hi hv first rest ih = fit-kept_by (is_zero v) index elem i v ps refl hi hv rest
fit-put_by false false index elem i v p ps hi hv first rest ih =
    fit-kept_by (is_zero v) index elem i v (p ∷ ps) refl hi hv (both (pair_fits index elem p) (pairs_fit index elem ps) first rest)

pub fit-put : (index elem : Scalar) (i v : Atom) (ps : List (Atom × Atom)) → has_scalar i index ≡ true → has_scalar v elem ≡ true
    → pairs_fit index elem ps ≡ true → pairs_fit index elem (put i v ps) ≡ true
fit-put index elem i v [] hi hv f = fit-kept_by (is_zero v) index elem i v [] refl hi hv refl
fit-put index elem i v (p ∷ ps) hi hv f =
    fit-put_by (nat_lt (rank p.0) (rank i)) (nat_eq (rank p.0) (rank i)) index elem i v p ps hi hv
    (left (pair_fits index elem p) (pairs_fit index elem ps) f) (right (pair_fits index elem p) (pairs_fit index elem ps) f)
    (fit-put index elem i v ps hi hv (right (pair_fits index elem p) (pairs_fit index elem ps) f))

-- a map stays a map
pub stored-is_map : (m : Table) (i v : Atom) → IsTrue (is_map m) → IsTrue (has_scalar i m.index) → IsTrue (has_scalar v m.elem) → IsTrue (is_map (stored m i v))
stored-is_map m i v h hi hv =
    both (pairs_fit m.index m.elem (put i v m.pairs)) (ascends (put i v m.pairs))
    (fit-put m.index m.elem i v m.pairs hi hv (left (pairs_fit m.index m.elem m.pairs) (ascends m.pairs) h))
    (ascends-put i v m.pairs (right (pairs_fit m.index m.elem m.pairs) (ascends m.pairs) h))

-- ---- atoms of one sort

word_same : (v w : Word) → v.width ≡ w.width → v.bits ≡ w.bits → v ≡ w
word_same v w e f =
    let made : ℕ → ℕ → Word = λ m n. record { width = m; bits = n } in
    ap (λ m. made m v.bits) e ∙ ap (λ n. made w.width n) f

-- two atoms of a sort with one rank are equal
pub rank_tells : (a b : Atom) (s : Scalar) → has_scalar a s ≡ true → has_scalar b s ≡ true → rank a ≡ rank b → a ≡ b
rank_tells (BoolAtom true) (BoolAtom true) s h k e = refl
rank_tells (BoolAtom true) (BoolAtom false) s h k e = absurd (omega (arith, e))
rank_tells (BoolAtom false) (BoolAtom true) s h k e = absurd (omega (arith, e))
rank_tells (BoolAtom false) (BoolAtom false) s h k e = refl
rank_tells (BoolAtom a) (BvAtom v) BoolSort h k e = cc
rank_tells (BoolAtom a) (BvAtom v) (BvSort n) h k e = cc
rank_tells (BvAtom v) (BoolAtom b) BoolSort h k e = cc
rank_tells (BvAtom v) (BoolAtom b) (BvSort n) h k e = cc
rank_tells (BvAtom v) (BvAtom w) BoolSort h k e = cc
rank_tells (BvAtom v) (BvAtom w) (BvSort n) h k e =
    let one : v.width ≡ n = is_eq v.width n (left (nat_eq v.width n) (is_scalar (BvSort n)) (left (nat_eq v.width n && is_scalar (BvSort n)) (nat_lt v.bits (2 ^ n)) h)) in
    let two : w.width ≡ n = is_eq w.width n (left (nat_eq w.width n) (is_scalar (BvSort n)) (left (nat_eq w.width n && is_scalar (BvSort n)) (nat_lt w.bits (2 ^ n)) k)) in
    ap BvAtom (word_same v w (one ∙ sym two) e)

pub zero_is : (a : Atom) (s : Scalar) → has_scalar a s ≡ true → is_zero a ≡ true → a ≡ zero_of_scalar s
zero_is (BoolAtom true) s h z = cc
zero_is (BoolAtom false) BoolSort h z = refl
zero_is (BoolAtom false) (BvSort n) h z = cc
zero_is (BvAtom v) BoolSort h z = cc
zero_is (BvAtom v) (BvSort n) h z =
    let one : v.width ≡ n = is_eq v.width n (left (nat_eq v.width n) (is_scalar (BvSort n)) (left (nat_eq v.width n && is_scalar (BvSort n)) (nat_lt v.bits (2 ^ n)) h)) in
    ap BvAtom (word_same v (record { width = n; bits = 0 }) one (is_eq v.bits 0 z))

zero_is_zero : (s : Scalar) → is_zero (zero_of_scalar s) ≡ true
zero_is_zero BoolSort = refl
zero_is_zero (BvSort n) = refl

-- a write differs at its index alone
pub writes_at : (m : Table) (i v : Atom) → IsTrue (is_map m) → IsTrue (has_scalar i m.index) → IsTrue (has_scalar v m.elem) → WritesAt m (stored m i v) i v
writes_at m i v h hi hv =
    let none : Atom = zero_of_scalar m.elem in
    let zeros : is_zero v ≡ true → v ≡ none = λ z. zero_is v m.elem hv z in
    let a : ascends m.pairs ≡ true = right (pairs_fit m.index m.elem m.pairs) (ascends m.pairs) h in
    record {
      index = refl;
      elem = refl;
      at = entry-put none v i m.pairs i zeros a ∙ if_true (nat_eq (rank i) (rank i)) v (entry none m.pairs i) (eq_is (rank i) (rank i) refl);
      elsewhere = λ j hj other.
          entry-put none v i m.pairs j zeros a
          ∙ if_false (nat_eq (rank i) (rank j)) v (entry none m.pairs j) (eq_not (rank i) (rank j) (λ e. other (rank_tells j i m.index hj hi (sym e))));
    }

-- ---- maps that agree

not_zero : (index elem : Scalar) (p : Atom × Atom) → pair_fits index elem p ≡ true → is_zero p.1 ≡ true → ⊥
not_zero index elem p f z =
    let off : not (is_zero p.1) ≡ true = right (has_scalar p.0 index && has_scalar p.1 elem) (not (is_zero p.1)) f in
    cc (ap not z)

index_fits : (index elem : Scalar) (p : Atom × Atom) → pair_fits index elem p ≡ true → has_scalar p.0 index ≡ true
index_fits index elem p f = left (has_scalar p.0 index) (has_scalar p.1 elem) (left (has_scalar p.0 index && has_scalar p.1 elem) (not (is_zero p.1)) f)

here : (none : Atom) (p : Atom × Atom) (ps : List (Atom × Atom)) (i : Atom) → rank p.0 ≡ rank i → entry none (p ∷ ps) i ≡ p.1
here none p ps i e = if_true (nat_eq (rank p.0) (rank i)) p.1 (entry none ps i) (eq_is (rank p.0) (rank i) e)

there : (none : Atom) (p : Atom × Atom) (ps : List (Atom × Atom)) (i : Atom) → rank p.0 ≢ rank i → entry none (p ∷ ps) i ≡ entry none ps i
there none p ps i e = if_false (nat_eq (rank p.0) (rank i)) p.1 (entry none ps i) (eq_not (rank p.0) (rank i) e)

-- a pair that the other list doesn't have makes a difference
differs : (index elem : Scalar) (none : Atom) (p : Atom × Atom) (ps qs : List (Atom × Atom)) → is_zero none ≡ true → pair_fits index elem p ≡ true
    → first_above (rank p.0) qs ≡ true → ascends qs ≡ true → entry none (p ∷ ps) p.0 ≡ entry none qs p.0 → ⊥
differs index elem none p ps qs z f above a agree =
    let empty : entry none qs p.0 ≡ none = entry-above none (rank p.0) qs p.0 above a (omega arith) in
    not_zero index elem p f (ap is_zero (sym (here none p ps p.0 refl) ∙ agree ∙ empty) ∙ z)

cons_same : (p q : Atom × Atom) (ps qs : List (Atom × Atom)) → p.0 ≡ q.0 → p.1 ≡ q.1 → ps ≡ qs → p ∷ ps ≡ q ∷ qs
cons_same p q ps qs e f g =
    let made : Atom → Atom → List (Atom × Atom) → List (Atom × Atom) = λ x y zs. (x, y) ∷ zs in
    ap (λ x. made x p.1 ps) e ∙ ap (λ y. made q.0 y ps) f ∙ ap (λ zs. made q.0 q.1 zs) g

tails_agree : (e : Bool) (none : Atom) (p q : Atom × Atom) (ps qs : List (Atom × Atom)) (i : Atom) → nat_eq (rank p.0) (rank i) ≡ e → rank p.0 ≡ rank q.0
    → first_above (rank p.0) ps ≡ true → ascends ps ≡ true → first_above (rank q.0) qs ≡ true → ascends qs ≡ true
    → entry none (p ∷ ps) i ≡ entry none (q ∷ qs) i → entry none ps i ≡ entry none qs i
tails_agree true none p q ps qs i is one fp ap' fq aq agree =
    let at : rank p.0 ≡ rank i = is_eq (rank p.0) (rank i) is in
    entry-above none (rank p.0) ps i fp ap' (omega arith) ∙ sym (entry-above none (rank q.0) qs i fq aq (omega arith))
tails_agree false none p q ps qs i is one fp ap' fq aq agree =
    let off : rank p.0 ≢ rank i = not_eq (rank p.0) (rank i) is in
    let off' : rank q.0 ≢ rank i = omega arith in
    sym (there none p ps i off) ∙ agree ∙ there none q qs i off'

pairs_agree_by : (less more : Bool) (index elem : Scalar) (none : Atom) (p q : Atom × Atom) (ps qs : List (Atom × Atom))
    → nat_lt (rank p.0) (rank q.0) ≡ less → nat_lt (rank q.0) (rank p.0) ≡ more
    → is_zero none ≡ true → pairs_fit index elem (p ∷ ps) ≡ true → pairs_fit index elem (q ∷ qs) ≡ true → ascends (p ∷ ps) ≡ true → ascends (q ∷ qs) ≡ true
    → ((i : Atom) → has_scalar i index ≡ true → entry none (p ∷ ps) i ≡ entry none (q ∷ qs) i)
    → (((i : Atom) → has_scalar i index ≡ true → entry none ps i ≡ entry none qs i) → ps ≡ qs) → p ∷ ps ≡ q ∷ qs
pairs_agree_by true more index elem none p q ps qs is_less is_more z fp fq a b agree ih =
    let f : pair_fits index elem p ≡ true = left (pair_fits index elem p) (pairs_fit index elem ps) fp in
    absurd (differs index elem none p ps (q ∷ qs) z f is_less b (agree p.0 (index_fits index elem p f)))
pairs_agree_by false true index elem none p q ps qs is_less is_more z fp fq a b agree ih =
    let f : pair_fits index elem q ≡ true = left (pair_fits index elem q) (pairs_fit index elem qs) fq in
    absurd (differs index elem none q qs (p ∷ ps) z f is_more a (sym (agree q.0 (index_fits index elem q f))))
pairs_agree_by false false index elem none p q ps qs is_less is_more z fp fq a b agree ih =
    let f : pair_fits index elem p ≡ true = left (pair_fits index elem p) (pairs_fit index elem ps) fp in
    let g : pair_fits index elem q ≡ true = left (pair_fits index elem q) (pairs_fit index elem qs) fq in
    let most : rank q.0 ≤ rank p.0 = not_lt (rank p.0) (rank q.0) is_less in
    let least : rank p.0 ≤ rank q.0 = not_lt (rank q.0) (rank p.0) is_more in
    let one : rank p.0 ≡ rank q.0 = omega arith in
    cons_same p q ps qs
    (rank_tells p.0 q.0 index (index_fits index elem p f) (index_fits index elem q g) one)
    (sym (here none p ps p.0 refl) ∙ agree p.0 (index_fits index elem p f) ∙ here none q qs p.0 (sym one))
    (ih (λ i h. tails_agree (nat_eq (rank p.0) (rank i)) none p q ps qs i refl one
    (left (first_above (rank p.0) ps) (ascends ps) a) (right (first_above (rank p.0) ps) (ascends ps) a)
    (left (first_above (rank q.0) qs) (ascends qs) b) (right (first_above (rank q.0) qs) (ascends qs) b) (agree i h)))

pairs_agree : (index elem : Scalar) (none : Atom) (ps qs : List (Atom × Atom)) → is_zero none ≡ true
    → pairs_fit index elem ps ≡ true → pairs_fit index elem qs ≡ true → ascends ps ≡ true → ascends qs ≡ true
    → ((i : Atom) → has_scalar i index ≡ true → entry none ps i ≡ entry none qs i) → ps ≡ qs
pairs_agree index elem none [] [] z fp fq a b agree = refl
pairs_agree index elem none [] (q ∷ qs) z fp fq a b agree =
    let g : pair_fits index elem q ≡ true = left (pair_fits index elem q) (pairs_fit index elem qs) fq in
    absurd (differs index elem none q qs [] z g refl refl (sym (agree q.0 (index_fits index elem q g))))
pairs_agree index elem none (p ∷ ps) [] z fp fq a b agree =
    let f : pair_fits index elem p ≡ true = left (pair_fits index elem p) (pairs_fit index elem ps) fp in
    absurd (differs index elem none p ps [] z f refl refl (agree p.0 (index_fits index elem p f)))
pairs_agree index elem none (p ∷ ps) (q ∷ qs) z fp fq a b agree =
    pairs_agree_by (nat_lt (rank p.0) (rank q.0)) (nat_lt (rank q.0) (rank p.0)) index elem none p q ps qs refl refl z fp fq a b agree
    (pairs_agree index elem none ps qs z
    (right (pair_fits index elem p) (pairs_fit index elem ps) fp) (right (pair_fits index elem q) (pairs_fit index elem qs) fq)
    (right (first_above (rank p.0) ps) (ascends ps) a) (right (first_above (rank q.0) qs) (ascends qs) b))

table_same : (m n : Table) → m.index ≡ n.index → m.elem ≡ n.elem → m.pairs ≡ n.pairs → m ≡ n
table_same m n e f g =
    let made : Scalar → Scalar → List (Atom × Atom) → Table = λ x y ps. record { index = x; elem = y; pairs = ps } in
    ap (λ x. made x m.elem m.pairs) e ∙ ap (λ y. made n.index y m.pairs) f ∙ ap (λ ps. made n.index n.elem ps) g

pub maps_agree : MapsThatAgreeAreEqual
maps_agree m n h k e f agree =
    table_same m n e f
    (pairs_agree m.index m.elem (zero_of_scalar m.elem) m.pairs n.pairs (zero_is_zero m.elem)
    (left (pairs_fit m.index m.elem m.pairs) (ascends m.pairs) h)
    (subst (λ x. pairs_fit x m.elem n.pairs ≡ true) (sym e)
    (subst (λ y. pairs_fit n.index y n.pairs ≡ true) (sym f) (left (pairs_fit n.index n.elem n.pairs) (ascends n.pairs) k)))
    (right (pairs_fit m.index m.elem m.pairs) (ascends m.pairs) h)
    (right (pairs_fit n.index n.elem n.pairs) (ascends n.pairs) k)
    (λ i hi. agree i hi ∙ ap (λ y. entry (zero_of_scalar y) n.pairs i) (sym f)))

-- ---- places

pub count-le : (i : Atom) (ps : List (Atom × Atom)) → count_below i ps ≤ length ps
count-le i [] = omega arith
count-le i (p ∷ ps) = grind (arith, count-le i ps)

found_by : (less : Bool) (none i : Atom) (p : Atom × Atom) (ps : List (Atom × Atom)) → nat_lt (rank p.0) (rank i) ≡ less
    → first_above (rank p.0) ps ≡ true → ascends ps ≡ true → entry none ps i ≡ entry_at none i (slice_get ps (count_below i ps))
    → entry none (p ∷ ps) i ≡ entry_at none i (slice_get (p ∷ ps) (if less then suc (count_below i ps) else zero))
found_by true none i p ps is above a ih =
    let less : rank p.0 < rank i = is_lt (rank p.0) (rank i) is in
    let other : rank p.0 ≢ rank i = omega arith in
    there none p ps i other ∙ ih
found_by false none i p ps is above a ih =
    found_here (nat_eq (rank p.0) (rank i)) none i p ps refl (not_lt (rank p.0) (rank i) is) above a
  where
    found_here : (same : Bool) (none i : Atom) (p : Atom × Atom) (ps : List (Atom × Atom)) → nat_eq (rank p.0) (rank i) ≡ same → rank i ≤ rank p.0
        → first_above (rank p.0) ps ≡ true → ascends ps ≡ true → (if same then p.1 else entry none ps i) ≡ (if same then p.1 else none)
    found_here true none i p ps is least above a = refl
    found_here false none i p ps is least above a = entry-above none (rank p.0) ps i above a least

-- the entry stands at the place of its index
pub entry_found : (none i : Atom) (ps : List (Atom × Atom)) → ascends ps ≡ true → entry none ps i ≡ entry_at none i (slice_get ps (count_below i ps))
entry_found none i [] a = refl
entry_found none i (p ∷ ps) a =
    found_by (nat_lt (rank p.0) (rank i)) none i p ps refl (left (first_above (rank p.0) ps) (ascends ps) a) (right (first_above (rank p.0) ps) (ascends ps) a)
    (entry_found none i ps (right (first_above (rank p.0) ps) (ascends ps) a))

-- what a write does at the place of its index
abbrev pub put_there : Bool → Bool → ℕ → Atom → Atom → List (Atom × Atom) → List (Atom × Atom)
put_there true true n i v ps = remove ps n
put_there true false n i v ps = slice_set ps n (i, v)
put_there false true n i v ps = ps
put_there false false n i v ps = insert ps n (i, v)

deeper : (there zero' : Bool) (n : ℕ) (i v : Atom) (p : Atom × Atom) (ps : List (Atom × Atom)) → p ∷ put_there there zero' n i v ps ≡ put_there there zero' (suc n) i v (p ∷ ps)
deeper true true n i v p ps = refl
deeper true false n i v p ps = refl
deeper false true n i v p ps = refl
deeper false false n i v p ps = refl

put_here : (same z : Bool) (i v : Atom) (p : Atom × Atom) (ps : List (Atom × Atom))
    → (if same then (if z then ps else (i, v) ∷ ps) else (if z then p ∷ ps else (i, v) ∷ p ∷ ps)) ≡ put_there same z zero i v (p ∷ ps)
put_here true true i v p ps = refl
put_here true false i v p ps = refl
put_here false true i v p ps = refl
put_here false false i v p ps = refl

placed_by : (less : Bool) (i v : Atom) (p : Atom × Atom) (ps : List (Atom × Atom))
    → put i v ps ≡ put_there (is_at i (slice_get ps (count_below i ps))) (is_zero v) (count_below i ps) i v ps
    → (if less then p ∷ put i v ps else if nat_eq (rank p.0) (rank i) then kept i v ps else kept i v (p ∷ ps))
    ≡ put_there (is_at i (slice_get (p ∷ ps) (if less then suc (count_below i ps) else zero))) (is_zero v) (if less then suc (count_below i ps) else zero) i v (p ∷ ps)
placed_by true i v p ps ih =
    ap (λ qs. p ∷ qs) ih ∙ deeper (is_at i (slice_get ps (count_below i ps))) (is_zero v) (count_below i ps) i v p ps
placed_by false i v p ps ih = put_here (nat_eq (rank p.0) (rank i)) (is_zero v) i v p ps

pub put_placed : (i v : Atom) (ps : List (Atom × Atom)) → put i v ps ≡ put_there (is_at i (slice_get ps (count_below i ps))) (is_zero v) (count_below i ps) i v ps
put_placed i v [] = put_empty (is_zero v) i v
  where
    put_empty : (z : Bool) (i v : Atom) → (if z then [] else (i, v) ∷ []) ≡ put_there false z zero i v []
    put_empty true i v = refl
    put_empty false i v = refl
put_placed i v (p ∷ ps) = placed_by (nat_lt (rank p.0) (rank i)) i v p ps (put_placed i v ps)

-- an index that is there has its place within the list
pub there_within : (i : Atom) (n : ℕ) (ps : List (Atom × Atom)) → is_at i (slice_get ps n) ≡ true → n < length ps
there_within i n [] h = cc
there_within i zero (p ∷ ps) h = omega arith
there_within i (suc n) (p ∷ ps) h = let less : n < length ps = there_within i n ps h in omega arith

-- the same where the list, the place and the tests are read by the code
pub put_known : (i v : Atom) (ps seen seen' : List (Atom × Atom)) (n : ℕ) (t z t' z' : Bool) → n ≡ count_below i seen → seen ≡ ps → t ≡ is_at i (slice_get seen' n) → seen' ≡ ps
    → t ≡ t' → z ≡ is_zero v → z ≡ z' → put_there t' z' n i v ps ≡ put i v ps
put_known i v ps seen seen' n t z t' z' place_is same there_is same' t_is zero_is z_is =
    let n_is : n ≡ count_below i ps = place_is ∙ ap (count_below i) same in
    let at_is : t' ≡ is_at i (slice_get ps n) = sym t_is ∙ there_is ∙ ap (λ qs. is_at i (slice_get qs n)) same' in
    let none_is : z' ≡ is_zero v = sym z_is ∙ zero_is in
    ap (λ b. put_there b z' n i v ps) at_is
    ∙ ap (λ b. put_there (is_at i (slice_get ps n)) b n i v ps) none_is
    ∙ ap (λ m. put_there (is_at i (slice_get ps m)) (is_zero v) m i v ps) n_is
    ∙ sym (put_placed i v ps)

pub there_known : (i : Atom) (ps seen' : List (Atom × Atom)) (n : ℕ) (t : Bool) → t ≡ is_at i (slice_get seen' n) → seen' ≡ ps → t ≡ true → n < length ps
there_known i ps seen' n t there_is same t_is =
    there_within i n ps (sym (ap (λ qs. is_at i (slice_get qs n)) same) ∙ sym there_is ∙ t_is)

pub place_known : (i : Atom) (ps seen : List (Atom × Atom)) (n : ℕ) → n ≡ count_below i seen → seen ≡ ps → n ≤ length ps
place_known i ps seen n place_is same =
    let n_is : n ≡ count_below i ps = place_is ∙ ap (count_below i) same in
    let le : count_below i ps ≤ length ps = count-le i ps in
    omega arith

pub select_found : (m : Table) (elem : Scalar) (none i : Atom) (seen : List (Atom × Atom)) (n : ℕ) → IsTrue (is_map m) → elem ≡ m.elem → none ≡ zero_of_scalar elem → seen ≡ m.pairs → n ≡ count_below i seen
    → entry_at none i (slice_get seen n) ≡ select m i
select_found m elem none i seen n h elem_is none_is same place_is =
    ap (λ k. entry_at none i (slice_get seen k)) place_is
    ∙ ap (λ ps. entry_at none i (slice_get ps (count_below i ps))) same
    ∙ ap (λ x. entry_at x i (slice_get m.pairs (count_below i m.pairs))) (none_is ∙ ap zero_of_scalar elem_is)
    ∙ sym (entry_found (zero_of_scalar m.elem) i m.pairs (right (pairs_fit m.index m.elem m.pairs) (ascends m.pairs) h))

abbrev table : Scalar → Scalar → List (Atom × Atom) → Table
table x y ps = record { index = x; elem = y; pairs = ps }

pub written_is_map : (m : Table) (index elem : Scalar) (old new : List (Atom × Atom)) (i v : Atom) → table index elem old ≡ m → IsTrue (is_map (table index elem old))
    → IsTrue (has_scalar i m.index) → IsTrue (has_scalar v m.elem) → new ≡ put i v old → IsTrue (is_map (table index elem new))
written_is_map m index elem old new i v view_is h hi hv new_is =
    subst (λ ps. IsTrue (is_map (table index elem ps))) (sym new_is)
    (stored-is_map (table index elem old) i v h
    (subst (λ x. IsTrue (has_scalar i x)) (sym (ap (λ (t : Table). t.index) view_is)) hi)
    (subst (λ x. IsTrue (has_scalar v x)) (sym (ap (λ (t : Table). t.elem) view_is)) hv))

pub written_alone : (m : Table) (index elem : Scalar) (old new : List (Atom × Atom)) (i v : Atom) → table index elem old ≡ m → IsTrue (is_map (table index elem old))
    → IsTrue (has_scalar i m.index) → IsTrue (has_scalar v m.elem) → new ≡ put i v old → WritesAt m (table index elem new) i v
written_alone m index elem old new i v view_is h hi hv new_is =
    subst (λ (t : Table). WritesAt t (table index elem new) i v) view_is
    (subst (λ ps. WritesAt (table index elem old) (table index elem ps) i v) (sym new_is)
    (writes_at (table index elem old) i v h
    (subst (λ x. IsTrue (has_scalar i x)) (sym (ap (λ (t : Table). t.index) view_is)) hi)
    (subst (λ x. IsTrue (has_scalar v x)) (sym (ap (λ (t : Table). t.elem) view_is)) hv)))

-- ---- the place, as a partition

above_all : (n : ℕ) (ps : List (Atom × Atom)) → first_above n ps ≡ true → ascends ps ≡ true → (b : ℕ) (d : Atom × Atom) → b < length ps → n < rank (slice_index_or ps b d).0
above_all n [] f a b d within = absurd (omega (arith, within))
above_all n (p ∷ ps) f a zero d within = is_lt n (rank p.0) f
above_all n (p ∷ ps) f a (suc b) d within =
    let first : n < rank p.0 = is_lt n (rank p.0) f in
    let next : rank p.0 < rank (slice_index_or ps b d).0 =
    above_all (rank p.0) ps (left (first_above (rank p.0) ps) (ascends ps) a) (right (first_above (rank p.0) ps) (ascends ps) a) b d (omega (arith, within)) in
    omega arith

pub partitioned : (i : Atom) (ps : List (Atom × Atom)) → ascends ps ≡ true → (a b : ℕ) (d : Atom × Atom) → a ≤ b → b < length ps
    → nat_lt (rank (slice_index_or ps b d).0) (rank i) ≡ true → nat_lt (rank (slice_index_or ps a d).0) (rank i) ≡ true
partitioned i [] h a b d le within t = absurd (omega (arith, within))
partitioned i (p ∷ ps) h zero zero d le within t = t
partitioned i (p ∷ ps) h zero (suc b) d le within t =
    let later : rank p.0 < rank (slice_index_or ps b d).0 =
    above_all (rank p.0) ps (left (first_above (rank p.0) ps) (ascends ps) h) (right (first_above (rank p.0) ps) (ascends ps) h) b d (omega (arith, within)) in
    let below : rank (slice_index_or ps b d).0 < rank i = is_lt (rank (slice_index_or ps b d).0) (rank i) t in
    lt_is (rank p.0) (rank i) (omega arith)
partitioned i (p ∷ ps) h (suc a) zero d le within t = absurd (omega (arith, le))
partitioned i (p ∷ ps) h (suc a) (suc b) d le within t =
    partitioned i ps (right (first_above (rank p.0) ps) (ascends ps) h) a b d (omega (arith, le)) (omega (arith, within)) t

pub place_is : (i : Atom) (ps : List (Atom × Atom)) (n : ℕ) → n ≤ length ps
    → ((k : ℕ) (d : Atom × Atom) → 0 ≤ k → k < n → nat_lt (rank (slice_index_or ps k d).0) (rank i) ≡ true)
    → ((k : ℕ) (d : Atom × Atom) → n ≤ k → k < length ps → nat_lt (rank (slice_index_or ps k d).0) (rank i) ≡ false)
    → n ≡ count_below i ps
place_is i [] n le lows highs = omega (arith, le)
place_is i (p ∷ ps) zero le lows highs =
    sym (if_false (nat_lt (rank p.0) (rank i)) (suc (count_below i ps)) zero (highs zero p (omega arith) (omega arith)))
place_is i (p ∷ ps) (suc n) le lows highs =
    ap suc (place_is i ps n (omega (arith, le)) (λ k d l m. lows (suc k) d (omega arith) (omega (arith, m))) (λ k d l m. highs (suc k) d (omega (arith, l)) (omega (arith, m))))
    ∙ sym (if_true (nat_lt (rank p.0) (rank i)) (suc (count_below i ps)) zero (lows zero p (omega arith) (omega arith)))
