-- The variables that stand in terms alone matter.
use Rattle.std.proofs.Common.{◌≡◌, ℕ, ◌+◌, ◌-◌, ◌<◌, Bool, true, false, ◌&&◌, ◌||◌, List, [], ◌∷◌, ◌++◌, length, map, arith, sym, ◌∙◌, ap, refl, length-append, append_assoc}
use Rattle.std.specs.Prelude.{Option, None, Some, if◌then◌else◌, IsTrue, nat_eq, nat_lt}
use Rattle.std.proofs.lemmas.Bool.Decides.{nat_tests}
use Rattle.hy_val.specs.Values.{at, has_sort}
use Rattle.hy_val.specs.declared.sort.Sort.{Sort}
use Rattle.hy_val.specs.declared.value.Value.{Value}
use Rattle.hy_term.specs.TermSorts.{named, or_else, sort_of_number}
use Rattle.hy_term.specs.Meaning.{node_value, values_onto, values, node_fits, fits, extended}
use Rattle.hy_term.specs.Variables.{insert, with_variable, variables_onto, numbers_of, numbers, of_list, is_in, Agree, node_below, below, reads}
use Rattle.hy_term.specs.declared.node.TermNode.{TermNode}
use Rattle.hy_term.specs.declared.node.TermNode.TheVariants.{Lit, ZeroMap, Variable, Unary, Binary, If, Select, Store}
use Rattle.hy_term.specs.declared.node.TermVariable.{TermVariable}
use Rattle.hy_term.proofs.Sorting.{and_left, and_right}

pub same_number : (n : ℕ) → nat_eq n n ≡ true
same_number n = grind (arith, nat_tests)

pub number_is : (n m : ℕ) → nat_eq n m ≡ true → n ≡ m
number_is n m h = grind (arith, nat_tests, h)

or_right : (a b : Bool) → b ≡ true → (a || b) ≡ true
or_right true b h = refl
or_right false b h = h

-- ---- what is inserted is there, and what was there stays

holds_by : (v w : TermVariable) (ws : List TermVariable) (l e : Bool) → nat_eq w.number v.number ≡ e → is_in v.number (numbers_of (insert v ws)) ≡ true
    → is_in v.number (numbers_of (if l then w ∷ insert v ws else if e then w ∷ ws else v ∷ w ∷ ws)) ≡ true
holds_by v w ws true e h ih = or_right (nat_eq v.number w.number) (is_in v.number (numbers_of (insert v ws))) ih
holds_by v w ws false true h ih =
    ap (λ (b : Bool). b || is_in v.number (numbers_of ws)) (ap (nat_eq v.number) (number_is w.number v.number h) ∙ same_number v.number)
holds_by v w ws false false h ih = ap (λ (b : Bool). b || (nat_eq v.number w.number || is_in v.number (numbers_of ws))) (same_number v.number)

insert-holds : (v : TermVariable) (ws : List TermVariable) → is_in v.number (numbers_of (insert v ws)) ≡ true
insert-holds v [] = ap (λ (b : Bool). b || false) (same_number v.number)
insert-holds v (w ∷ ws) = holds_by v w ws (nat_lt w.number v.number) (nat_eq w.number v.number) refl (insert-holds v ws)

head_or : (x : Bool) (r s : Bool) → (x || r) ≡ true → (r ≡ true → s ≡ true) → (x || s) ≡ true
head_or true r s h ih = refl
head_or false r s h ih = ih h

keeps_by : (k : ℕ) (v w : TermVariable) (ws : List TermVariable) (l e : Bool) → is_in k (numbers_of (w ∷ ws)) ≡ true → (is_in k (numbers_of ws) ≡ true → is_in k (numbers_of (insert v ws)) ≡ true)
    → is_in k (numbers_of (if l then w ∷ insert v ws else if e then w ∷ ws else v ∷ w ∷ ws)) ≡ true
keeps_by k v w ws true e h ih = head_or (nat_eq k w.number) (is_in k (numbers_of ws)) (is_in k (numbers_of (insert v ws))) h ih
keeps_by k v w ws false true h ih = h
keeps_by k v w ws false false h ih = or_right (nat_eq k v.number) (is_in k (numbers_of (w ∷ ws))) h

insert-keeps : (k : ℕ) (v : TermVariable) (ws : List TermVariable) → is_in k (numbers_of ws) ≡ true → is_in k (numbers_of (insert v ws)) ≡ true
insert-keeps k v [] h = cc
insert-keeps k v (w ∷ ws) h = keeps_by k v w ws (nat_lt w.number v.number) (nat_eq w.number v.number) h (insert-keeps k v ws)

with-keeps : (k : ℕ) (vs : List TermVariable) (node : TermNode) → is_in k (numbers_of vs) ≡ true → is_in k (numbers_of (with_variable vs node)) ≡ true
with-keeps k vs (Lit a) h = h
with-keeps k vs (ZeroMap i e) h = h
with-keeps k vs (Variable number sort) h = insert-keeps k (record { number = number; sort = sort }) vs h
with-keeps k vs (Unary op child) h = h
with-keeps k vs (Binary op left right) h = h
with-keeps k vs (If test one other) h = h
with-keeps k vs (Select m i) h = h
with-keeps k vs (Store m i v) h = h

onto-keeps : (k : ℕ) (vs : List TermVariable) (nodes : List TermNode) → is_in k (numbers_of vs) ≡ true → is_in k (numbers_of (variables_onto vs nodes)) ≡ true
onto-keeps k vs [] h = h
onto-keeps k vs (node ∷ nodes) h = onto-keeps k (with_variable vs node) nodes (with-keeps k vs node h)

-- ---- values by the variables

node_agrees : (a b : ℕ → Value) (known : List Value) (node : TermNode) (vs : List TermVariable) → Agree a b (numbers_of (with_variable vs node)) → node_value a known node ≡ node_value b known node
node_agrees a b known (Lit v) vs h = refl
node_agrees a b known (ZeroMap i e) vs h = refl
node_agrees a b known (Variable number sort) vs h = h number (insert-holds (record { number = number; sort = sort }) vs)
node_agrees a b known (Unary op child) vs h = refl
node_agrees a b known (Binary op left right) vs h = refl
node_agrees a b known (If test one other) vs h = refl
node_agrees a b known (Select m i) vs h = refl
node_agrees a b known (Store m i v) vs h = refl

fits_agrees : (a b : ℕ → Value) (node : TermNode) (vs : List TermVariable) → Agree a b (numbers_of (with_variable vs node)) → node_fits a node ≡ node_fits b node
fits_agrees a b (Lit v) vs h = refl
fits_agrees a b (ZeroMap i e) vs h = refl
fits_agrees a b (Variable number sort) vs h = ap (λ (v : Value). has_sort v sort) (h number (insert-holds (record { number = number; sort = sort }) vs))
fits_agrees a b (Unary op child) vs h = refl
fits_agrees a b (Binary op left right) vs h = refl
fits_agrees a b (If test one other) vs h = refl
fits_agrees a b (Select m i) vs h = refl
fits_agrees a b (Store m i v) vs h = refl

values-agree : (a b : ℕ → Value) (known : List Value) (vs : List TermVariable) (nodes : List TermNode) → Agree a b (numbers_of (variables_onto vs nodes)) → values_onto a known nodes ≡ values_onto b known nodes
values-agree a b known vs [] h = refl
values-agree a b known vs (node ∷ nodes) h =
    ap (λ (v : Value). values_onto a (known ++ v ∷ []) nodes) (node_agrees a b known node vs (λ n k. h n (onto-keeps n (with_variable vs node) nodes k)))
    ∙ values-agree a b (known ++ node_value b known node ∷ []) (with_variable vs node) nodes h

fits-agree : (a b : ℕ → Value) (vs : List TermVariable) (nodes : List TermNode) → Agree a b (numbers_of (variables_onto vs nodes)) → fits a nodes ≡ fits b nodes
fits-agree a b vs [] h = refl
fits-agree a b vs (node ∷ nodes) h =
    ap (λ (x : Bool). x && fits a nodes) (fits_agrees a b node vs (λ n k. h n (onto-keeps n (with_variable vs node) nodes k)))
    ∙ ap (λ (x : Bool). node_fits b node && x) (fits-agree a b (with_variable vs node) nodes h)

pub same_by_variables : (a b : ℕ → Value) (nodes : List TermNode) → Agree a b (numbers nodes) → (values a nodes ≡ values b nodes) × (fits a nodes ≡ fits b nodes)
same_by_variables a b nodes h = (values-agree a b [] [] nodes h, fits-agree a b [] nodes h)

by_head : (a : ℕ → Value) (n m : ℕ) (ms : List ℕ) (x : Bool) → nat_eq n m ≡ x → (x || is_in n ms) ≡ true → (is_in n ms ≡ true → of_list ms (map a ms) n ≡ a n) → (if x then a m else of_list ms (map a ms) n) ≡ a n
by_head a n m ms true e h ih = ap a (sym (number_is n m e))
by_head a n m ms false e h ih = ih h

pub of-list-map : (a : ℕ → Value) (ms : List ℕ) (n : ℕ) → is_in n ms ≡ true → of_list ms (map a ms) n ≡ a n
of-list-map a [] n h = cc
of-list-map a (m ∷ ms) n h = by_head a n m ms (nat_eq n m) refl h (of-list-map a ms n)

pub list_bridge : (a : ℕ → Value) (nodes : List TermNode)
    → (values (of_list (numbers nodes) (map a (numbers nodes))) nodes ≡ values a nodes) × (fits (of_list (numbers nodes) (map a (numbers nodes))) nodes ≡ fits a nodes)
list_bridge a nodes = same_by_variables (of_list (numbers nodes) (map a (numbers nodes))) a nodes (of-list-map a (numbers nodes))

-- ---- new variables

node_below_agrees : (a b : ℕ → Value) (k : ℕ) (known : List Value) (node : TermNode) → IsTrue (node_below k node) → ((n : ℕ) → n < k → a n ≡ b n) → (node_value a known node ≡ node_value b known node) × (node_fits a node ≡ node_fits b node)
node_below_agrees a b k known (Lit v) l h = (refl, refl)
node_below_agrees a b k known (ZeroMap i e) l h = (refl, refl)
node_below_agrees a b k known (Variable number sort) l h =
    let e : a number ≡ b number = h number (grind (arith, nat_tests, l)) in
    (e, ap (λ (v : Value). has_sort v sort) e)
node_below_agrees a b k known (Unary op child) l h = (refl, refl)
node_below_agrees a b k known (Binary op left right) l h = (refl, refl)
node_below_agrees a b k known (If test one other) l h = (refl, refl)
node_below_agrees a b k known (Select m i) l h = (refl, refl)
node_below_agrees a b k known (Store m i v) l h = (refl, refl)

values-below : (a b : ℕ → Value) (k : ℕ) (known : List Value) (nodes : List TermNode) → IsTrue (below k nodes) → ((n : ℕ) → n < k → a n ≡ b n) → values_onto a known nodes ≡ values_onto b known nodes
values-below a b k known [] l h = refl
values-below a b k known (node ∷ nodes) l h =
    ap (λ (v : Value). values_onto a (known ++ v ∷ []) nodes) (node_below_agrees a b k known node (and_left (node_below k node) (below k nodes) l) h).0
    ∙ values-below a b k (known ++ node_value b known node ∷ []) nodes (and_right (node_below k node) (below k nodes) l) h

fits-below : (a b : ℕ → Value) (k : ℕ) (nodes : List TermNode) → IsTrue (below k nodes) → ((n : ℕ) → n < k → a n ≡ b n) → fits a nodes ≡ fits b nodes
fits-below a b k [] l h = refl
fits-below a b k (node ∷ nodes) l h =
    ap (λ (x : Bool). x && fits a nodes) (node_below_agrees a b k [] node (and_left (node_below k node) (below k nodes) l) h).1
    ∙ ap (λ (x : Bool). node_fits b node && x) (fits-below a b k nodes (and_right (node_below k node) (below k nodes) l) h)

if_on : (x : Bool) (v w : Value) → x ≡ true → (if x then v else w) ≡ v
if_on true v w h = refl
if_on false v w h = cc

if_off : (x : Bool) (v w : Value) → x ≡ false → (if x then v else w) ≡ w
if_off true v w h = cc
if_off false v w h = refl

at-front : (pre vs : List Value) (v : Value) → at (pre ++ v ∷ vs) (length pre) ≡ v
at-front [] vs v = refl
at-front (w ∷ pre) vs v = at-front pre vs v

reads-after : (a : ℕ → Value) (k : ℕ) (pre vs : List Value) → reads (extended a k (pre ++ vs)) (k + length pre) (length vs) ≡ vs
reads-after a k pre [] = refl
reads-after a k pre (v ∷ vs) =
    let off : nat_lt (k + length pre) k ≡ false = grind (arith, nat_tests) in
    let n : k + length pre - k ≡ length pre = omega arith in
    let m : k + length pre + 1 ≡ k + length (pre ++ v ∷ []) = omega (arith, length-append pre (v ∷ [])) in
    ap (λ (x : Value). x ∷ reads (extended a k (pre ++ v ∷ vs)) (k + length pre + 1) (length vs))
    (if_off (nat_lt (k + length pre) k) (a (k + length pre)) (at (pre ++ v ∷ vs) (k + length pre - k)) off ∙ ap (λ (i : ℕ). at (pre ++ v ∷ vs) i) n ∙ at-front pre vs v)
    ∙ ap (λ (x : List Value). v ∷ x)
    (ap (λ (i : ℕ). reads (extended a k (pre ++ v ∷ vs)) i (length vs)) m
    ∙ ap (λ (xs : List Value). reads (extended a k xs) (k + length (pre ++ v ∷ [])) (length vs)) (sym (append_assoc pre (v ∷ []) vs))
    ∙ reads-after a k (pre ++ v ∷ []) vs)

reads-extended : (a : ℕ → Value) (k : ℕ) (vs : List Value) → reads (extended a k vs) k (length vs) ≡ vs
reads-extended a k vs =
    let n : k ≡ k + length {A = Value} [] = omega arith in
    ap (λ (i : ℕ). reads (extended a k vs) i (length vs)) n ∙ reads-after a k [] vs

pub new_variables : (a : ℕ → Value) (k : ℕ) (vs : List Value) (nodes : List TermNode) → IsTrue (below k nodes)
    → (values (extended a k vs) nodes ≡ values a nodes) × (fits (extended a k vs) nodes ≡ fits a nodes) × (reads (extended a k vs) k (length vs) ≡ vs)
new_variables a k vs nodes l =
    let old : (n : ℕ) → n < k → extended a k vs n ≡ a n = λ n h. if_on (nat_lt n k) (a n) (at vs (n - k)) (grind (arith, nat_tests, h)) in
    (values-below (extended a k vs) a k [] nodes l old, fits-below (extended a k vs) a k nodes l old, reads-extended a k vs)

named_none : (k : ℕ) (node : TermNode) → IsTrue (node_below k node) → named k node ≡ None
named_none k (Lit a) l = refl
named_none k (ZeroMap i e) l = refl
named_none k (Variable number sort) l = off (nat_eq number k) (grind (arith, nat_tests, l))
  where
    off : (x : Bool) → x ≡ false → (if x then Some sort else None) ≡ None
    off true h = cc
    off false h = refl
named_none k (Unary op child) l = refl
named_none k (Binary op left right) l = refl
named_none k (If test one other) l = refl
named_none k (Select m i) l = refl
named_none k (Store m i v) l = refl

pub above_is_free : (k : ℕ) (nodes : List TermNode) → IsTrue (below k nodes) → sort_of_number k nodes ≡ None
above_is_free k [] l = refl
above_is_free k (node ∷ nodes) l =
    ap (λ (o : Option Sort). or_else o (sort_of_number k nodes)) (named_none k node (and_left (node_below k node) (below k nodes) l))
    ∙ above_is_free k nodes (and_right (node_below k node) (below k nodes) l)
