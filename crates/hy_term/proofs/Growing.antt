-- Nodes that are added leave the values of the others, and each value is that of its node.
use Rattle.std.proofs.Common.{◌≡◌, ℕ, zero, suc, ◌+◌, ◌<◌, List, [], ◌∷◌, ◌++◌, length, arith, sym, ◌∙◌, ap, refl, length-append}
use Rattle.std.specs.Prelude.{Option, None, Some, slice_get, IsSome}
use Rattle.std.specs.Option.{option_and_then}
use Rattle.hy_val.specs.Values.{at, unary_value, binary_value, pick, select_value, store_value}
use Rattle.hy_val.specs.NodeSorts.{as_scalar, unary_sort, binary_sort, if_sort, select_sort, store_sort}
use Rattle.hy_val.specs.declared.sort.ScalarKind.TheVariants.{Bool as BoolSort, Bv as BvSort}
use Rattle.hy_val.specs.declared.sort.Sort.{Sort}
use Rattle.hy_val.specs.declared.sort.SortKind.TheVariants.{Scalar as ScalarSort, Map as MapSort}
use Rattle.hy_val.specs.declared.operator.UnOp.{UnOp}
use Rattle.hy_val.specs.declared.operator.BvOp.{BvOp}
use Rattle.hy_val.specs.declared.value.Value.{Value}
use Rattle.hy_term.specs.TermSorts.{sort_of_node, sorts_onto, sorts}
use Rattle.hy_term.specs.Meaning.{node_value, values_onto, values, value}
use Rattle.hy_term.specs.declared.node.TermNode.{TermNode}
use Rattle.hy_term.specs.declared.node.TermNode.TheVariants.{Lit, ZeroMap, Variable, Unary, Binary, If, Select, Store}
use Rattle.hy_term.proofs.Sorting.{there}

pub values-append : (a : ℕ → Value) (known : List Value) (xs ys : List TermNode) → values_onto a known (xs ++ ys) ≡ values_onto a (values_onto a known xs) ys
values-append a known [] ys = refl
values-append a known (x ∷ xs) ys = values-append a (known ++ node_value a known x ∷ []) xs ys

pub length-values : (a : ℕ → Value) (known : List Value) (xs : List TermNode) → length (values_onto a known xs) ≡ length known + length xs
length-values a known [] = omega arith
length-values a known (x ∷ xs) = omega (arith, length-values a (known ++ node_value a known x ∷ []) xs, length-append known (node_value a known x ∷ []))

pub at-append : (vs ws : List Value) (i : ℕ) → i < length vs → at (vs ++ ws) i ≡ at vs i
at-append [] ws i l = absurd (omega (arith, l))
at-append (v ∷ vs) ws zero l = refl
at-append (v ∷ vs) ws (suc i) l = at-append vs ws i (omega (arith, l))

pub at-old : (a : ℕ → Value) (known : List Value) (xs : List TermNode) (i : ℕ) → i < length known → at (values_onto a known xs) i ≡ at known i
at-old a known [] i l = refl
at-old a known (x ∷ xs) i l =
    at-old a (known ++ node_value a known x ∷ []) xs i (omega (arith, l, length-append known (node_value a known x ∷ [])))
    ∙ at-append known (node_value a known x ∷ []) i l

pub at-last : (vs : List Value) (v : Value) → at (vs ++ v ∷ []) (length vs) ≡ v
at-last [] v = refl
at-last (w ∷ vs) v = at-last vs v

-- old nodes keep their values
pub value-more : (a : ℕ → Value) (xs ys : List TermNode) (t : ℕ) → t < length xs → value a (xs ++ ys) t ≡ value a xs t
value-more a xs ys t l =
    ap (λ (vs : List Value). at vs t) (values-append a [] xs ys) ∙ at-old a (values a xs) ys t (omega (arith, l, length-values a [] xs))

-- the new node's value
pub value-new : (a : ℕ → Value) (xs : List TermNode) (node : TermNode) → value a (xs ++ node ∷ []) (length xs) ≡ node_value a (values a xs) node
value-new a xs node =
    let n : length (values a xs) ≡ length xs = omega (arith, length-values a [] xs) in
    ap (λ (vs : List Value). at vs (length xs)) (values-append a [] xs (node ∷ []))
    ∙ ap (λ (i : ℕ). at (values a xs ++ node_value a (values a xs) node ∷ []) i) (sym n)
    ∙ at-last (values a xs) (node_value a (values a xs) node)

-- ---- a node reads the values of its children alone, which are there

unary_there : (op : UnOp) (o : Option Sort) → IsSome (unary_sort op (as_scalar o)) → IsSome o
unary_there op None h = cc
unary_there op (Some s) h = refl

left_there : (op : BvOp) (o p : Option Sort) → IsSome (binary_sort op (as_scalar o) (as_scalar p)) → IsSome o
left_there op None p h = cc
left_there op (Some s) p h = refl

right_there : (op : BvOp) (o p : Option Sort) → IsSome (binary_sort op (as_scalar o) (as_scalar p)) → IsSome p
right_there op None p h = cc
right_there op (Some (ScalarSort s)) None h = cc
right_there op (Some (MapSort i e)) None h = cc
right_there op o (Some t) h = refl

test_there : (o p q : Option Sort) → IsSome (if_sort (as_scalar o) p q) → IsSome o
test_there None p q h = cc
test_there (Some s) p q h = refl

one_there : (o p q : Option Sort) → IsSome (if_sort (as_scalar o) p q) → IsSome p
one_there None None q h = cc
one_there (Some (MapSort i e)) None q h = cc
one_there (Some (ScalarSort BoolSort)) None q h = cc
one_there (Some (ScalarSort (BvSort w))) None q h = cc
one_there o (Some s) q h = refl

other_there : (o p q : Option Sort) → IsSome (if_sort (as_scalar o) p q) → IsSome q
other_there None p None h = cc
other_there (Some (MapSort i e)) p None h = cc
other_there (Some (ScalarSort BoolSort)) None None h = cc
other_there (Some (ScalarSort BoolSort)) (Some s) None h = cc
other_there (Some (ScalarSort (BvSort w))) p None h = cc
other_there o p (Some s) h = refl

map_there : (o p : Option Sort) → IsSome (select_sort o (as_scalar p)) → IsSome o
map_there None p h = cc
map_there (Some s) p h = refl

index_there : (o p : Option Sort) → IsSome (select_sort o (as_scalar p)) → IsSome p
index_there None None h = cc
index_there (Some (ScalarSort s)) None h = cc
index_there (Some (MapSort i e)) None h = cc
index_there o (Some s) h = refl

stored_there : (o p q : Option Sort) → IsSome (store_sort o (as_scalar p) (as_scalar q)) → IsSome o
stored_there None p q h = cc
stored_there (Some s) p q h = refl

place_there : (o p q : Option Sort) → IsSome (store_sort o (as_scalar p) (as_scalar q)) → IsSome p
place_there None None q h = cc
place_there (Some (ScalarSort s)) None q h = cc
place_there (Some (MapSort i e)) None q h = cc
place_there o (Some s) q h = refl

entry_there : (o p q : Option Sort) → IsSome (store_sort o (as_scalar p) (as_scalar q)) → IsSome q
entry_there None p None h = cc
entry_there (Some (ScalarSort s)) p None h = cc
entry_there (Some (MapSort i e)) None None h = cc
entry_there (Some (MapSort i e)) (Some (ScalarSort s)) None h = cc
entry_there (Some (MapSort i e)) (Some (MapSort j f)) None h = cc
entry_there o p (Some s) h = refl

-- lists of values that agree on the nodes before give a node the same value
pub node_same : (a : ℕ → Value) (ss : List Sort) (us vs : List Value) (node : TermNode) → IsSome (sort_of_node ss node) → ((j : ℕ) → j < length ss → at us j ≡ at vs j)
    → node_value a us node ≡ node_value a vs node
node_same a ss us vs (Lit v) h same = refl
node_same a ss us vs (ZeroMap index elem) h same = refl
node_same a ss us vs (Variable number sort) h same = refl
node_same a ss us vs (Unary op child) h same = ap (unary_value op) (same child (there ss child (unary_there op (slice_get ss child) h)))
node_same a ss us vs (Binary op left right) h same =
    let l = same left (there ss left (left_there op (slice_get ss left) (slice_get ss right) h)) in
    let r = same right (there ss right (right_there op (slice_get ss left) (slice_get ss right) h)) in
    ap (λ (v : Value). binary_value op v (at us right)) l ∙ ap (λ (v : Value). binary_value op (at vs left) v) r
node_same a ss us vs (If test one other) h same =
    let t = same test (there ss test (test_there (slice_get ss test) (slice_get ss one) (slice_get ss other) h)) in
    let o = same one (there ss one (one_there (slice_get ss test) (slice_get ss one) (slice_get ss other) h)) in
    let p = same other (there ss other (other_there (slice_get ss test) (slice_get ss one) (slice_get ss other) h)) in
    ap (λ (v : Value). pick v (at us one) (at us other)) t ∙ ap (λ (v : Value). pick (at vs test) v (at us other)) o ∙ ap (λ (v : Value). pick (at vs test) (at vs one) v) p
node_same a ss us vs (Select map index) h same =
    let m = same map (there ss map (map_there (slice_get ss map) (slice_get ss index) h)) in
    let i = same index (there ss index (index_there (slice_get ss map) (slice_get ss index) h)) in
    ap (λ (v : Value). select_value v (at us index)) m ∙ ap (λ (v : Value). select_value (at vs map) v) i
node_same a ss us vs (Store map index value) h same =
    let m = same map (there ss map (stored_there (slice_get ss map) (slice_get ss index) (slice_get ss value) h)) in
    let i = same index (there ss index (place_there (slice_get ss map) (slice_get ss index) (slice_get ss value) h)) in
    let e = same value (there ss value (entry_there (slice_get ss map) (slice_get ss index) (slice_get ss value) h)) in
    ap (λ (v : Value). store_value v (at us index) (at us value)) m ∙ ap (λ (v : Value). store_value (at vs map) v (at us value)) i ∙ ap (λ (v : Value). store_value (at vs map) (at vs index) v) e

first_some : (f : Sort → Option (List Sort)) (o : Option Sort) → IsSome (option_and_then f o) → IsSome o
first_some f None h = cc
first_some f (Some s) h = refl

rest_some : (f : Sort → Option (List Sort)) (o : Option Sort) → IsSome (option_and_then f o) → (s : Sort) × IsSome (f s)
rest_some f None h = cc
rest_some f (Some s) h = (s, h)

value_by : (a : ℕ → Value) (ss : List Sort) (vs : List Value) (nodes : List TermNode) (k : ℕ) (node : TermNode) → length vs ≡ length ss → IsSome (sorts_onto ss nodes) → slice_get nodes k ≡ Some node
    → at (values_onto a vs nodes) (length vs + k) ≡ node_value a (values_onto a vs nodes) node
value_by a ss vs [] k node len h is = cc
value_by a ss vs (n ∷ nodes) zero node len h is =
    let same : n ≡ node = cc in
    let v = node_value a vs n in
    let whole = values_onto a (vs ++ v ∷ []) nodes in
    let longer = length-append vs (v ∷ []) in
    let place : length vs + 0 ≡ length vs = omega arith in
    ap (at whole) place
    ∙ at-old a (vs ++ v ∷ []) nodes (length vs) (omega (arith, longer))
    ∙ at-last vs v
    ∙ node_same a ss vs whole n (first_some (λ s. sorts_onto (ss ++ s ∷ []) nodes) (sort_of_node ss n) h)
    (λ j b. sym (at-old a (vs ++ v ∷ []) nodes j (omega (arith, longer, b, len)) ∙ at-append vs (v ∷ []) j (omega (arith, b, len))))
    ∙ ap (node_value a whole) same
value_by a ss vs (n ∷ nodes) (suc k) node len h is =
    let v = node_value a vs n in
    let rest = rest_some (λ s. sorts_onto (ss ++ s ∷ []) nodes) (sort_of_node ss n) h in
    let longer = length-append vs (v ∷ []) in
    let place : length vs + suc k ≡ length (vs ++ v ∷ []) + k = omega (arith, longer) in
    ap (at (values_onto a (vs ++ v ∷ []) nodes)) place
    ∙ value_by a (ss ++ rest.0 ∷ []) (vs ++ v ∷ []) nodes k node (omega (arith, longer, length-append ss (rest.0 ∷ []), len)) rest.1 is

-- each node's value is that of its operator on the values of all nodes
pub node_values : (a : ℕ → Value) (nodes : List TermNode) (k : ℕ) (node : TermNode) → IsSome (sorts nodes) → slice_get nodes k ≡ Some node → value a nodes k ≡ node_value a (values a nodes) node
node_values a nodes k node h is =
    let place : k ≡ length {A = Value} [] + k = omega arith in
    ap (at (values a nodes)) place ∙ value_by a [] [] nodes k node refl h is
