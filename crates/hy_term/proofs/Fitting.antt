-- Assignments that fit, by their values for the list of the variables.
use Rattle.std.proofs.Common.{◌≡◌, ◌≢◌, ℕ, ◌<◌, Bool, true, false, ◌&&◌, ◌||◌, List, [], ◌∷◌, ◌++◌, length, map, arith, sym, ◌∙◌, ap, refl, subst}
use Rattle.std.specs.Prelude.{Option, None, Some, if◌then◌else◌, IsTrue, nat_eq, nat_lt}
use Rattle.std.proofs.lemmas.Bool.Decides.{nat_tests}
use Rattle.hy_val.specs.Values.{has_sort}
use Rattle.hy_val.specs.declared.sort.Sort.{Sort}
use Rattle.hy_val.specs.declared.value.Value.{Value}
use Rattle.hy_term.specs.TermSorts.{named, or_else, sort_of_number, free_or_same, variable_agrees, agree_onto}
use Rattle.hy_term.specs.Meaning.{node_fits, fits}
use Rattle.hy_term.specs.Variables.{insert, with_variable, variables_onto, variables, numbers_of, numbers, first_above, ascend, have_sorts, of_list, is_in}
use Rattle.hy_term.specs.Laws.{FitsByVariables, ListsAreRead, ListsFit}
use Rattle.hy_term.specs.declared.node.TermNode.{TermNode}
use Rattle.hy_term.specs.declared.node.TermNode.TheVariants.{Lit, ZeroMap, Variable, Unary, Binary, If, Select, Store}
use Rattle.hy_term.specs.declared.node.TermVariable.{TermVariable}
use Rattle.hy_term.proofs.Sorting.{and_left, and_right, and_both}
use Rattle.hy_term.proofs.Numbering.{same_number, number_is}
use Rattle.hy_term.proofs.Ordering.{is_lt, lt_is, with-ascend, variables_ascend}
use Rattle.hy_term.proofs.Typing.{same_sort_is}

-- the variables' values have their sorts
abbrev all_have : (ℕ → Value) → List TermVariable → Bool
all_have a [] = true
all_have a (v ∷ vs) = has_sort (a v.number) v.sort && all_have a vs

have_map : (a : ℕ → Value) (vs : List TermVariable) → have_sorts vs (map a (numbers_of vs)) ≡ all_have a vs
have_map a [] = refl
have_map a (v ∷ vs) = ap (λ (b : Bool). has_sort (a v.number) v.sort && b) (have_map a vs)

-- ---- what fits the nodes fits the list

have_by : (a : ℕ → Value) (v w : TermVariable) (ws : List TermVariable) (l e : Bool) → all_have a (w ∷ ws) ≡ true → IsTrue (has_sort (a v.number) v.sort) → all_have a (insert v ws) ≡ true
    → all_have a (if l then w ∷ insert v ws else if e then w ∷ ws else v ∷ w ∷ ws) ≡ true
have_by a v w ws true e h k ih = and_both (has_sort (a w.number) w.sort) (all_have a (insert v ws)) (and_left (has_sort (a w.number) w.sort) (all_have a ws) h) ih
have_by a v w ws false true h k ih = h
have_by a v w ws false false h k ih = and_both (has_sort (a v.number) v.sort) (all_have a (w ∷ ws)) k h

have-insert : (a : ℕ → Value) (v : TermVariable) (ws : List TermVariable) → all_have a ws ≡ true → IsTrue (has_sort (a v.number) v.sort) → all_have a (insert v ws) ≡ true
have-insert a v [] h k = and_both (has_sort (a v.number) v.sort) true k refl
have-insert a v (w ∷ ws) h k =
    have_by a v w ws (nat_lt w.number v.number) (nat_eq w.number v.number) h k (have-insert a v ws (and_right (has_sort (a w.number) w.sort) (all_have a ws) h) k)

have-with : (a : ℕ → Value) (vs : List TermVariable) (node : TermNode) → all_have a vs ≡ true → IsTrue (node_fits a node) → all_have a (with_variable vs node) ≡ true
have-with a vs (Lit x) h k = h
have-with a vs (ZeroMap i e) h k = h
have-with a vs (Variable number sort) h k = have-insert a (record { number = number; sort = sort }) vs h k
have-with a vs (Unary op child) h k = h
have-with a vs (Binary op left right) h k = h
have-with a vs (If test one other) h k = h
have-with a vs (Select m i) h k = h
have-with a vs (Store m i v) h k = h

have-onto : (a : ℕ → Value) (vs : List TermVariable) (nodes : List TermNode) → all_have a vs ≡ true → IsTrue (fits a nodes) → all_have a (variables_onto vs nodes) ≡ true
have-onto a vs [] h k = h
have-onto a vs (node ∷ nodes) h k =
    have-onto a (with_variable vs node) nodes (have-with a vs node h (and_left (node_fits a node) (fits a nodes) k)) (and_right (node_fits a node) (fits a nodes) k)

-- ---- the sort of a number, in the list and in the nodes

abbrev pub named_by : TermVariable → ℕ → Option Sort
named_by v n = if nat_eq v.number n then Some v.sort else None

abbrev pub sort_in : ℕ → List TermVariable → Option Sort
sort_in n [] = None
sort_in n (v ∷ vs) = or_else (named_by v n) (sort_in n vs)

pub or_none : (o : Option Sort) → or_else o None ≡ o
or_none None = refl
or_none (Some s) = refl

or_assoc : (o p q : Option Sort) → or_else (or_else o p) q ≡ or_else o (or_else p q)
or_assoc None p q = refl
or_assoc (Some s) p q = refl

pub named_off : (v : TermVariable) (n : ℕ) → v.number ≢ n → named_by v n ≡ None
named_off v n h = off (nat_eq v.number n) (let f : nat_eq v.number n ≡ false = grind (arith, nat_tests, h) in f)
  where
    off : (x : Bool) → x ≡ false → (if x then Some v.sort else None) ≡ None
    off true h = cc
    off false h = refl

pub none_above : (n : ℕ) (vs : List TermVariable) → first_above n (numbers_of vs) ≡ true → ascend (numbers_of vs) ≡ true → sort_in n vs ≡ None
none_above n [] f a = refl
none_above n (v ∷ vs) f a =
    let less : n < v.number = is_lt n v.number f in
    let off : v.number ≢ n = omega arith in
    ap (λ (o : Option Sort). or_else o (sort_in n vs)) (named_off v n off)
    ∙ none_above n vs (above_less n v.number vs less (and_left (first_above v.number (numbers_of vs)) (ascend (numbers_of vs)) a))
    (and_right (first_above v.number (numbers_of vs)) (ascend (numbers_of vs)) a)
  where
    above_less : (n m : ℕ) (ws : List TermVariable) → n < m → first_above m (numbers_of ws) ≡ true → first_above n (numbers_of ws) ≡ true
    above_less n m [] l h = refl
    above_less n m (w ∷ ws) l h = let k : m < w.number = is_lt m w.number h in lt_is n w.number (omega arith)

-- a number that another one has is named by the first
named_twice : (v w : TermVariable) (n : ℕ) (o : Option Sort) → w.number ≡ v.number → or_else (or_else (named_by w n) o) (named_by v n) ≡ or_else (named_by w n) o
named_twice v w n o same = by_test (nat_eq w.number n) refl
  where
    by_test : (x : Bool) → nat_eq w.number n ≡ x → or_else (or_else (if x then Some w.sort else None) o) (named_by v n) ≡ or_else (if x then Some w.sort else None) o
    by_test true is = refl
    by_test false is =
        let other : v.number ≢ n = grind (arith, nat_tests, is, same) in
        ap (λ (p : Option Sort). or_else o p) (named_off v n other) ∙ or_none o

-- a number that none has is named by the one that is put in front
named_first : (v : TermVariable) (n : ℕ) (ws : List TermVariable) → first_above v.number (numbers_of ws) ≡ true → ascend (numbers_of ws) ≡ true
    → or_else (named_by v n) (sort_in n ws) ≡ or_else (sort_in n ws) (named_by v n)
named_first v n ws f a = by_test (nat_eq v.number n) refl
  where
    by_test : (x : Bool) → nat_eq v.number n ≡ x → or_else (if x then Some v.sort else None) (sort_in n ws) ≡ or_else (sort_in n ws) (if x then Some v.sort else None)
    by_test true is =
        let same : v.number ≡ n = number_is v.number n is in
        let none : sort_in n ws ≡ None = none_above n ws (subst (λ (m : ℕ). first_above m (numbers_of ws) ≡ true) same f) a in
        ap (λ (o : Option Sort). or_else o (Some v.sort)) (sym none)
    by_test false is = sym (or_none (sort_in n ws))

in_by : (n : ℕ) (v w : TermVariable) (ws : List TermVariable) (l e : Bool) → nat_lt w.number v.number ≡ l → nat_eq w.number v.number ≡ e → ascend (numbers_of (w ∷ ws)) ≡ true
    → sort_in n (insert v ws) ≡ or_else (sort_in n ws) (named_by v n)
    → sort_in n (if l then w ∷ insert v ws else if e then w ∷ ws else v ∷ w ∷ ws) ≡ or_else (sort_in n (w ∷ ws)) (named_by v n)
in_by n v w ws true e l_is e_is a ih = ap (λ (o : Option Sort). or_else (named_by w n) o) ih ∙ sym (or_assoc (named_by w n) (sort_in n ws) (named_by v n))
in_by n v w ws false true l_is e_is a ih = sym (named_twice v w n (sort_in n ws) (number_is w.number v.number e_is))
in_by n v w ws false false l_is e_is a ih =
    let less : nat_lt v.number w.number ≡ true = grind (arith, nat_tests, l_is, e_is) in
    named_first v n (w ∷ ws) less a

in-insert : (n : ℕ) (v : TermVariable) (ws : List TermVariable) → ascend (numbers_of ws) ≡ true → sort_in n (insert v ws) ≡ or_else (sort_in n ws) (named_by v n)
in-insert n v [] a = or_none (named_by v n)
in-insert n v (w ∷ ws) a =
    in_by n v w ws (nat_lt w.number v.number) (nat_eq w.number v.number) refl refl a (in-insert n v ws (and_right (first_above w.number (numbers_of ws)) (ascend (numbers_of ws)) a))

in-with : (n : ℕ) (vs : List TermVariable) (node : TermNode) → ascend (numbers_of vs) ≡ true → sort_in n (with_variable vs node) ≡ or_else (sort_in n vs) (named n node)
in-with n vs (Lit x) a = sym (or_none (sort_in n vs))
in-with n vs (ZeroMap i e) a = sym (or_none (sort_in n vs))
in-with n vs (Variable number sort) a = in-insert n (record { number = number; sort = sort }) vs a
in-with n vs (Unary op child) a = sym (or_none (sort_in n vs))
in-with n vs (Binary op left right) a = sym (or_none (sort_in n vs))
in-with n vs (If test one other) a = sym (or_none (sort_in n vs))
in-with n vs (Select m i) a = sym (or_none (sort_in n vs))
in-with n vs (Store m i v) a = sym (or_none (sort_in n vs))

pub in-onto : (n : ℕ) (vs : List TermVariable) (nodes : List TermNode) → ascend (numbers_of vs) ≡ true → sort_in n (variables_onto vs nodes) ≡ or_else (sort_in n vs) (sort_of_number n nodes)
in-onto n vs [] a = sym (or_none (sort_in n vs))
in-onto n vs (node ∷ nodes) a =
    in-onto n (with_variable vs node) nodes (with-ascend vs node a)
    ∙ ap (λ (o : Option Sort). or_else o (sort_of_number n nodes)) (in-with n vs node a)
    ∙ or_assoc (sort_in n vs) (named n node) (sort_of_number n nodes)

-- ---- what fits the list fits the nodes

have_by_number : (b : Bool) (a : ℕ → Value) (n : ℕ) (s : Sort) (v : TermVariable) (o : Option Sort) → nat_eq v.number n ≡ b → IsTrue (has_sort (a v.number) v.sort)
    → (o ≡ Some s → IsTrue (has_sort (a n) s)) → or_else (if b then Some v.sort else None) o ≡ Some s → IsTrue (has_sort (a n) s)
have_by_number true a n s v o is h k e =
    let sort : v.sort ≡ s = cc in
    subst (λ (t : Sort). IsTrue (has_sort (a n) t)) sort (subst (λ (m : ℕ). IsTrue (has_sort (a m) v.sort)) (number_is v.number n is) h)
have_by_number false a n s v o is h k e = k e

have_at : (a : ℕ → Value) (vs : List TermVariable) (n : ℕ) (s : Sort) → all_have a vs ≡ true → sort_in n vs ≡ Some s → IsTrue (has_sort (a n) s)
have_at a [] n s h e = absurd (let no : None ≡ Some s → ⊥ = λ y. cc in no e)
have_at a (v ∷ vs) n s h e =
    have_by_number (nat_eq v.number n) a n s v (sort_in n vs) refl (and_left (has_sort (a v.number) v.sort) (all_have a vs) h)
    (have_at a vs n s (and_right (has_sort (a v.number) v.sort) (all_have a vs) h)) e

pub number-append : (n : ℕ) (xs ys : List TermNode) → sort_of_number n (xs ++ ys) ≡ or_else (sort_of_number n xs) (sort_of_number n ys)
number-append n [] ys = refl
number-append n (x ∷ xs) ys = ap (λ (o : Option Sort). or_else (named n x) o) (number-append n xs ys) ∙ sym (or_assoc (named n x) (sort_of_number n xs) (sort_of_number n ys))

pub named_self : (number : ℕ) (sort : Sort) (rest : Option Sort) → or_else (named number (Variable number sort)) rest ≡ Some sort
named_self number sort rest = on (nat_eq number number) (same_number number)
  where
    on : (x : Bool) → x ≡ true → or_else (if x then Some sort else None) rest ≡ Some sort
    on true h = refl
    on false h = cc

pub agreed : (o : Option Sort) (sort : Sort) → IsTrue (free_or_same o sort) → or_else o (Some sort) ≡ Some sort
agreed None sort h = refl
agreed (Some s) sort h = ap (λ (t : Sort). Some t) (same_sort_is s sort h)

-- each number's sort holds, among nodes of which those before are skipped
abbrev EachHas : (ℕ → Value) → List TermNode → Type 0
EachHas a nodes = (n : ℕ) (s : Sort) → sort_of_number n nodes ≡ Some s → IsTrue (has_sort (a n) s)

node_has : (a : ℕ → Value) (before : List TermNode) (node : TermNode) (nodes : List TermNode) → IsTrue (variable_agrees before node) → EachHas a (before ++ node ∷ nodes) → IsTrue (node_fits a node)
node_has a before (Lit x) nodes g h = refl
node_has a before (ZeroMap i e) nodes g h = refl
node_has a before (Variable number sort) nodes g h =
    h number sort
    (number-append number before (Variable number sort ∷ nodes)
    ∙ ap (λ (o : Option Sort). or_else (sort_of_number number before) o) (named_self number sort (sort_of_number number nodes))
    ∙ agreed (sort_of_number number before) sort g)
node_has a before (Unary op child) nodes g h = refl
node_has a before (Binary op left right) nodes g h = refl
node_has a before (If test one other) nodes g h = refl
node_has a before (Select m i) nodes g h = refl
node_has a before (Store m i v) nodes g h = refl

pub append_one : (xs : List TermNode) (y : TermNode) (ys : List TermNode) → (xs ++ y ∷ []) ++ ys ≡ xs ++ y ∷ ys
append_one [] y ys = refl
append_one (x ∷ xs) y ys = ap (λ (r : List TermNode). x ∷ r) (append_one xs y ys)

fits_each : (a : ℕ → Value) (before nodes : List TermNode) → IsTrue (agree_onto before nodes) → EachHas a (before ++ nodes) → IsTrue (fits a nodes)
fits_each a before [] g h = refl
fits_each a before (node ∷ nodes) g h =
    and_both (node_fits a node) (fits a nodes) (node_has a before node nodes (and_left (variable_agrees before node) (agree_onto (before ++ node ∷ []) nodes) g) h)
    (fits_each a (before ++ node ∷ []) nodes (and_right (variable_agrees before node) (agree_onto (before ++ node ∷ []) nodes) g)
    (subst (λ (r : List TermNode). EachHas a r) (sym (append_one before node nodes)) h))

pub fits_by_variables : FitsByVariables
fits_by_variables a nodes g = (
  λ fit. have_map a (variables nodes) ∙ have-onto a [] nodes refl fit,
  λ h. fits_each a [] nodes g (λ n s is. have_at a (variables nodes) n s (sym (have_map a (variables nodes)) ∙ h) (in-onto n [] nodes refl ∙ is)),
)

-- ---- assignments by lists

map_same : (f g : ℕ → Value) (ms : List ℕ) → ((n : ℕ) → is_in n ms ≡ true → f n ≡ g n) → map f ms ≡ map g ms
map_same f g [] h = refl
map_same f g (m ∷ ms) h =
    ap (λ (v : Value). v ∷ map f ms) (h m (ap (λ (b : Bool). b || is_in m ms) (same_number m)))
    ∙ ap (λ (vs : List Value). g m ∷ vs) (map_same f g ms (λ n k. h n (or_right (nat_eq n m) (is_in n ms) k)))
  where
    or_right : (x y : Bool) → y ≡ true → (x || y) ≡ true
    or_right true y h = refl
    or_right false y h = h

in_above : (x : Bool) (n m k : ℕ) (ms : List ℕ) → nat_eq k m ≡ x → n < m → (is_in k ms ≡ true → m < k) → (x || is_in k ms) ≡ true → n < k
in_above true n m k ms is l h e = let same : k ≡ m = number_is k m is in omega arith
in_above false n m k ms is l h e = let more : m < k = h e in omega arith

all_above : (n : ℕ) (ms : List ℕ) → first_above n ms ≡ true → ascend ms ≡ true → (k : ℕ) → is_in k ms ≡ true → n < k
all_above n [] f a k h = absurd (let no : false ≡ true → ⊥ = λ y. cc in no h)
all_above n (m ∷ ms) f a k h =
    in_above (nat_eq k m) n m k ms refl (is_lt n m f)
    (all_above m ms (and_left (first_above m ms) (ascend ms) a) (and_right (first_above m ms) (ascend ms) a) k) h

if_yes : (x : Bool) (v w : Value) → x ≡ true → (if x then v else w) ≡ v
if_yes true v w h = refl
if_yes false v w h = cc

if_no : (x : Bool) (v w : Value) → x ≡ false → (if x then v else w) ≡ w
if_no true v w h = cc
if_no false v w h = refl

pub lists_are_read : ListsAreRead
lists_are_read [] [] a l = refl
lists_are_read [] (v ∷ vs) a l = absurd (omega (arith, l))
lists_are_read (m ∷ ms) [] a l = absurd (omega (arith, l))
lists_are_read (m ∷ ms) (v ∷ vs) a l =
    ap (λ (u : Value). u ∷ map (of_list (m ∷ ms) (v ∷ vs)) ms) (if_yes (nat_eq m m) v (of_list ms vs m) (same_number m))
    ∙ ap (λ (us : List Value). v ∷ us)
    (map_same (of_list (m ∷ ms) (v ∷ vs)) (of_list ms vs) ms
    (λ n k.
    let less : m < n = all_above m ms (and_left (first_above m ms) (ascend ms) a) (and_right (first_above m ms) (ascend ms) a) n k in
    if_no (nat_eq n m) v (of_list ms vs n) (let f : nat_eq n m ≡ false = grind (arith, nat_tests, less) in f))
    ∙ lists_are_read ms vs (and_right (first_above m ms) (ascend ms) a) (omega (arith, l)))

have_length : (vs : List TermVariable) (ws : List Value) → have_sorts vs ws ≡ true → length ws ≡ length (numbers_of vs)
have_length [] [] h = refl
have_length [] (w ∷ ws) h = absurd (let no : false ≡ true → ⊥ = λ y. cc in no h)
have_length (v ∷ vs) [] h = absurd (let no : false ≡ true → ⊥ = λ y. cc in no h)
have_length (v ∷ vs) (w ∷ ws) h = let k : length ws ≡ length (numbers_of vs) = have_length vs ws (and_right (has_sort w v.sort) (have_sorts vs ws) h) in omega arith

pub lists_fit : ListsFit
lists_fit nodes ws g h =
    let read : map (of_list (numbers nodes) ws) (numbers nodes) ≡ ws = lists_are_read (numbers nodes) ws (variables_ascend nodes) (have_length (variables nodes) ws h) in
    ((fits_by_variables (of_list (numbers nodes) ws) nodes g).1 (subst (λ (us : List Value). IsTrue (have_sorts (variables nodes) us)) (sym read) h), read)
