-- Variables that ascend by number, and the place of one among them.
use Rattle.std.proofs.Common.{◌≡◌, ℕ, zero, suc, ◌<◌, ◌≤◌, Bool, true, false, List, [], ◌∷◌, length, arith, sym, ◌∙◌, ap, refl}
use Rattle.std.specs.Prelude.{if◌then◌else◌, slice_get, slice_index_or, insert as insert_at, IsTrue, nat_eq, nat_lt}
use Rattle.std.proofs.lemmas.Bool.Decides.{nat_tests}
use Rattle.hy_term.specs.Variables.{insert, with_variable, variables_onto, numbers_of, numbers, first_above, ascend, count_below, has_number}
use Rattle.hy_term.specs.declared.node.TermNode.{TermNode}
use Rattle.hy_term.specs.declared.node.TermNode.TheVariants.{Lit, ZeroMap, Variable, Unary, Binary, If, Select, Store}
use Rattle.hy_term.specs.declared.node.TermVariable.{TermVariable}
use Rattle.hy_term.proofs.Sorting.{and_left, and_right, and_both}

pub is_lt : (m n : ℕ) → nat_lt m n ≡ true → m < n
is_lt m n h = grind (arith, nat_tests, h)

pub lt_is : (m n : ℕ) → m < n → nat_lt m n ≡ true
lt_is m n h = grind (arith, nat_tests, h)

pub lt_isnt : (m n : ℕ) → n ≤ m → nat_lt m n ≡ false
lt_isnt m n h = grind (arith, nat_tests, h)

above_other : (m n : ℕ) → nat_lt m n ≡ false → nat_eq m n ≡ false → nat_lt n m ≡ true
above_other m n l e = grind (arith, nat_tests, l, e)

-- ---- an insertion keeps the order

above_by : (m : ℕ) (v w : TermVariable) (ws : List TermVariable) (l e : Bool) → nat_lt m w.number ≡ true → nat_lt m v.number ≡ true
    → first_above m (numbers_of (if l then w ∷ insert v ws else if e then w ∷ ws else v ∷ w ∷ ws)) ≡ true
above_by m v w ws true e h k = h
above_by m v w ws false true h k = h
above_by m v w ws false false h k = k

above-insert : (m : ℕ) (v : TermVariable) (ws : List TermVariable) → first_above m (numbers_of ws) ≡ true → nat_lt m v.number ≡ true → first_above m (numbers_of (insert v ws)) ≡ true
above-insert m v [] h k = k
above-insert m v (w ∷ ws) h k = above_by m v w ws (nat_lt w.number v.number) (nat_eq w.number v.number) h k

ascend_by : (v w : TermVariable) (ws : List TermVariable) (l e : Bool) → nat_lt w.number v.number ≡ l → nat_eq w.number v.number ≡ e
    → ascend (numbers_of (w ∷ ws)) ≡ true → ascend (numbers_of (insert v ws)) ≡ true
    → ascend (numbers_of (if l then w ∷ insert v ws else if e then w ∷ ws else v ∷ w ∷ ws)) ≡ true
ascend_by v w ws true e l_is e_is h ih =
    and_both (first_above w.number (numbers_of (insert v ws))) (ascend (numbers_of (insert v ws)))
    (above-insert w.number v ws (and_left (first_above w.number (numbers_of ws)) (ascend (numbers_of ws)) h) l_is) ih
ascend_by v w ws false true l_is e_is h ih = h
ascend_by v w ws false false l_is e_is h ih =
    and_both (nat_lt v.number w.number) (ascend (numbers_of (w ∷ ws))) (above_other w.number v.number l_is e_is) h

pub ascend-insert : (v : TermVariable) (ws : List TermVariable) → ascend (numbers_of ws) ≡ true → ascend (numbers_of (insert v ws)) ≡ true
ascend-insert v [] h = refl
ascend-insert v (w ∷ ws) h =
    ascend_by v w ws (nat_lt w.number v.number) (nat_eq w.number v.number) refl refl h
    (ascend-insert v ws (and_right (first_above w.number (numbers_of ws)) (ascend (numbers_of ws)) h))

pub with-ascend : (vs : List TermVariable) (node : TermNode) → ascend (numbers_of vs) ≡ true → ascend (numbers_of (with_variable vs node)) ≡ true
with-ascend vs (Lit a) h = h
with-ascend vs (ZeroMap i e) h = h
with-ascend vs (Variable number sort) h = ascend-insert (record { number = number; sort = sort }) vs h
with-ascend vs (Unary op child) h = h
with-ascend vs (Binary op left right) h = h
with-ascend vs (If test one other) h = h
with-ascend vs (Select m i) h = h
with-ascend vs (Store m i v) h = h

onto-ascend : (vs : List TermVariable) (nodes : List TermNode) → ascend (numbers_of vs) ≡ true → ascend (numbers_of (variables_onto vs nodes)) ≡ true
onto-ascend vs [] h = h
onto-ascend vs (node ∷ nodes) h = onto-ascend (with_variable vs node) nodes (with-ascend vs node h)

pub variables_ascend : (nodes : List TermNode) → IsTrue (ascend (numbers nodes))
variables_ascend nodes = onto-ascend [] nodes refl

-- ---- the place of a number

abbrev put_there : Bool → ℕ → TermVariable → List TermVariable → List TermVariable
put_there true n v ws = ws
put_there false n v ws = insert_at ws n v

deeper : (there : Bool) (n : ℕ) (v w : TermVariable) (ws : List TermVariable) → w ∷ put_there there n v ws ≡ put_there there (suc n) v (w ∷ ws)
deeper true n v w ws = refl
deeper false n v w ws = refl

put_here : (same : Bool) (v w : TermVariable) (ws : List TermVariable) → (if same then w ∷ ws else v ∷ w ∷ ws) ≡ put_there same zero v (w ∷ ws)
put_here true v w ws = refl
put_here false v w ws = refl

placed_by : (less : Bool) (v w : TermVariable) (ws : List TermVariable)
    → insert v ws ≡ put_there (has_number v.number (slice_get ws (count_below v.number ws))) (count_below v.number ws) v ws
    → (if less then w ∷ insert v ws else if nat_eq w.number v.number then w ∷ ws else v ∷ w ∷ ws)
    ≡ put_there (has_number v.number (slice_get (w ∷ ws) (if less then suc (count_below v.number ws) else zero))) (if less then suc (count_below v.number ws) else zero) v (w ∷ ws)
placed_by true v w ws ih =
    ap (λ us. w ∷ us) ih ∙ deeper (has_number v.number (slice_get ws (count_below v.number ws))) (count_below v.number ws) v w ws
placed_by false v w ws ih = put_here (nat_eq w.number v.number) v w ws

insert_placed : (v : TermVariable) (ws : List TermVariable) → insert v ws ≡ put_there (has_number v.number (slice_get ws (count_below v.number ws))) (count_below v.number ws) v ws
insert_placed v [] = refl
insert_placed v (w ∷ ws) = placed_by (nat_lt w.number v.number) v w ws (insert_placed v ws)

count-le : (n : ℕ) (ws : List TermVariable) → count_below n ws ≤ length ws
count-le n [] = omega arith
count-le n (w ∷ ws) = grind (arith, count-le n ws)

pub place_within : (n : ℕ) (ws seen : List TermVariable) (k : ℕ) → k ≡ count_below n seen → seen ≡ ws → k ≤ length ws
place_within n ws seen k is same = let e : k ≡ count_below n ws = is ∙ ap (count_below n) same in omega (arith, count-le n ws)

-- the same where the list, the place and the test are read by the code
pub insert_known : (v : TermVariable) (ws seen seen' : List TermVariable) (k : ℕ) (t t' : Bool) → k ≡ count_below v.number seen → seen ≡ ws
    → t ≡ has_number v.number (slice_get seen' k) → seen' ≡ ws → t ≡ t' → put_there t' k v ws ≡ insert v ws
insert_known v ws seen seen' k t t' place_is same there_is same' t_is =
    let k_is : k ≡ count_below v.number ws = place_is ∙ ap (count_below v.number) same in
    let there : t' ≡ has_number v.number (slice_get ws k) = sym t_is ∙ there_is ∙ ap (λ us. has_number v.number (slice_get us k)) same' in
    ap (λ b. put_there b k v ws) there ∙ ap (λ m. put_there (has_number v.number (slice_get ws m)) m v ws) k_is ∙ sym (insert_placed v ws)

-- ---- the place, as a partition

if_true : {A : Type 0} (t : Bool) (x y : A) → t ≡ true → (if t then x else y) ≡ x
if_true true x y h = refl
if_true false x y h = cc

if_false : {A : Type 0} (t : Bool) (x y : A) → t ≡ false → (if t then x else y) ≡ y
if_false true x y h = cc
if_false false x y h = refl

above_all : (n : ℕ) (vs : List TermVariable) → first_above n (numbers_of vs) ≡ true → ascend (numbers_of vs) ≡ true → (b : ℕ) (d : TermVariable) → b < length vs
    → n < (slice_index_or vs b d).number
above_all n [] f a b d within = absurd (omega (arith, within))
above_all n (v ∷ vs) f a zero d within = is_lt n v.number f
above_all n (v ∷ vs) f a (suc b) d within =
    let first : n < v.number = is_lt n v.number f in
    let next : v.number < (slice_index_or vs b d).number =
    above_all v.number vs (and_left (first_above v.number (numbers_of vs)) (ascend (numbers_of vs)) a)
    (and_right (first_above v.number (numbers_of vs)) (ascend (numbers_of vs)) a) b d (omega (arith, within)) in
    omega arith

pub partitioned : (n : ℕ) (vs : List TermVariable) → ascend (numbers_of vs) ≡ true → (a b : ℕ) (d : TermVariable) → a ≤ b → b < length vs
    → nat_lt (slice_index_or vs b d).number n ≡ true → nat_lt (slice_index_or vs a d).number n ≡ true
partitioned n [] h a b d le within t = absurd (omega (arith, within))
partitioned n (v ∷ vs) h zero zero d le within t = t
partitioned n (v ∷ vs) h zero (suc b) d le within t =
    let later : v.number < (slice_index_or vs b d).number =
    above_all v.number vs (and_left (first_above v.number (numbers_of vs)) (ascend (numbers_of vs)) h)
    (and_right (first_above v.number (numbers_of vs)) (ascend (numbers_of vs)) h) b d (omega (arith, within)) in
    let below : (slice_index_or vs b d).number < n = is_lt (slice_index_or vs b d).number n t in
    lt_is v.number n (omega arith)
partitioned n (v ∷ vs) h (suc a) zero d le within t = absurd (omega (arith, le))
partitioned n (v ∷ vs) h (suc a) (suc b) d le within t =
    partitioned n vs (and_right (first_above v.number (numbers_of vs)) (ascend (numbers_of vs)) h) a b d (omega (arith, le)) (omega (arith, within)) t

pub place_is : (n : ℕ) (vs : List TermVariable) (k : ℕ) → k ≤ length vs
    → ((j : ℕ) (d : TermVariable) → 0 ≤ j → j < k → nat_lt (slice_index_or vs j d).number n ≡ true)
    → ((j : ℕ) (d : TermVariable) → k ≤ j → j < length vs → nat_lt (slice_index_or vs j d).number n ≡ false)
    → k ≡ count_below n vs
place_is n [] k le lows highs = omega (arith, le)
place_is n (v ∷ vs) zero le lows highs =
    sym (if_false (nat_lt v.number n) (suc (count_below n vs)) zero (highs zero v (omega arith) (omega arith)))
place_is n (v ∷ vs) (suc k) le lows highs =
    ap suc (place_is n vs k (omega (arith, le)) (λ j d l m. lows (suc j) d (omega arith) (omega (arith, m))) (λ j d l m. highs (suc j) d (omega (arith, l)) (omega (arith, m))))
    ∙ sym (if_true (nat_lt v.number n) (suc (count_below n vs)) zero (lows zero v (omega arith) (omega arith)))
