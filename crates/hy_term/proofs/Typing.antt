-- The value of each node has the node's sort.
use Rattle.std.proofs.Common.{◌≡◌, ℕ, zero, suc, ◌^◌, Bool, true, false, ◌&&◌, List, [], ◌∷◌, ◌++◌, arith, sym, ◌∙◌, ap, refl, subst}
use Rattle.std.specs.Prelude.{Option, None, Some, if◌then◌else◌, slice_get, nat_eq, nat_lt, IsTrue}
use Rattle.std.specs.Option.{option_and_then}
use Rattle.std.proofs.lemmas.Bool.Decides.{nat_tests}
use Rattle.hy_val.specs.Sorts.{scalar_of, is_scalar, same_scalar, has_scalar}
use Rattle.hy_val.specs.Operators.{sort_of_unary, sort_of_binary}
use Rattle.hy_val.specs.NodeSorts.{is_sort, same_sort, as_sort, as_scalar, unary_sort, binary_sort, branch_sort, if_sort, select_sort, store_sort}
use Rattle.hy_val.specs.Values.{zero_of, has_sort, at, unary_value, binary_value, pick, select_value, store_value}
use Rattle.hy_val.specs.Laws.{ValuesKeepSorts}
use Rattle.hy_val.specs.declared.sort.Scalar.{Scalar}
use Rattle.hy_val.specs.declared.sort.ScalarKind.TheVariants.{Bool as BoolSort, Bv as BvSort}
use Rattle.hy_val.specs.declared.sort.Sort.{Sort}
use Rattle.hy_val.specs.declared.sort.SortKind.TheVariants.{Scalar as ScalarSort, Map as MapSort}
use Rattle.hy_val.specs.declared.atom.Atom.{Atom}
use Rattle.hy_val.specs.declared.atom.AtomKind.TheVariants.{Bool as BoolAtom, Bv as BvAtom}
use Rattle.hy_val.specs.declared.operator.UnOp.{UnOp}
use Rattle.hy_val.specs.declared.operator.BvOp.{BvOp}
use Rattle.hy_val.specs.declared.value.Value.{Value}
use Rattle.hy_val.specs.declared.value.Value.TheVariants.{Atom as AtomValue, Map as MapValue}
use Rattle.hy_term.specs.TermSorts.{sort_of_node, sorts_onto, sorts}
use Rattle.hy_term.specs.Meaning.{node_value, values_onto, values, value, node_fits, fits}
use Rattle.hy_term.specs.Laws.{EachValueHasItsSort}
use Rattle.hy_term.specs.declared.node.TermNode.{TermNode}
use Rattle.hy_term.specs.declared.node.TermNode.TheVariants.{Lit, ZeroMap, Variable, Unary, Binary, If, Select, Store}
use Rattle.hy_term.proofs.Sorting.{and_left, and_right, and_both}

-- ---- equal sorts

same_scalar_is : (s t : Scalar) → same_scalar s t ≡ true → s ≡ t
same_scalar_is BoolSort BoolSort h = refl
same_scalar_is BoolSort (BvSort w) h = cc
same_scalar_is (BvSort v) BoolSort h = cc
same_scalar_is (BvSort v) (BvSort w) h = let e : v ≡ w = grind (arith, nat_tests, h) in ap (λ (n : ℕ). BvSort n) e

pub same_sort_is : (s t : Sort) → same_sort s t ≡ true → s ≡ t
same_sort_is (ScalarSort s) (ScalarSort t) h = ap (λ (r : Scalar). ScalarSort r) (same_scalar_is s t h)
same_sort_is (ScalarSort s) (MapSort i e) h = cc
same_sort_is (MapSort i e) (ScalarSort t) h = cc
same_sort_is (MapSort i e) (MapSort j f) h =
    ap (λ (r : Scalar). MapSort r e) (same_scalar_is i j (and_left (same_scalar i j) (same_scalar e f) h))
    ∙ ap (λ (r : Scalar). MapSort j r) (same_scalar_is e f (and_right (same_scalar i j) (same_scalar e f) h))

-- ---- values beside their sorts

abbrev Fine : Value → Sort → Type 0
Fine v s = IsTrue (has_sort v s) × IsTrue (is_sort s)

abbrev all_typed : List Value → List Sort → Bool
all_typed [] [] = true
all_typed [] (s ∷ ss) = false
all_typed (v ∷ vs) [] = false
all_typed (v ∷ vs) (s ∷ ss) = (has_sort v s && is_sort s) && all_typed vs ss

no_sort : (P : Type 0) (x : Sort) → None ≡ Some x → P
no_sort P x h = absurd (let no : None ≡ Some x → ⊥ = λ y. cc in no h)

never : (P : Type 0) → false ≡ true → P
never P h = absurd (let no : false ≡ true → ⊥ = λ y. cc in no h)

typed-push : (vs : List Value) (ss : List Sort) (v : Value) (s : Sort) → all_typed vs ss ≡ true → Fine v s → all_typed (vs ++ v ∷ []) (ss ++ s ∷ []) ≡ true
typed-push [] [] v s h k = and_both (has_sort v s && is_sort s) true (and_both (has_sort v s) (is_sort s) k.0 k.1) refl
typed-push [] (t ∷ ss) v s h k = never (all_typed (v ∷ []) (t ∷ (ss ++ s ∷ [])) ≡ true) h
typed-push (u ∷ vs) [] v s h k = never (all_typed (u ∷ (vs ++ v ∷ [])) (s ∷ []) ≡ true) h
typed-push (u ∷ vs) (t ∷ ss) v s h k =
    and_both (has_sort u t && is_sort t) (all_typed (vs ++ v ∷ []) (ss ++ s ∷ [])) (and_left (has_sort u t && is_sort t) (all_typed vs ss) h)
    (typed-push vs ss v s (and_right (has_sort u t && is_sort t) (all_typed vs ss) h) k)

typed_at : (vs : List Value) (ss : List Sort) (k : ℕ) (s : Sort) → all_typed vs ss ≡ true → slice_get ss k ≡ Some s → Fine (at vs k) s
typed_at [] [] k s h is = no_sort (Fine (at [] k) s) s is
typed_at [] (t ∷ ss) k s h is = never (Fine (at [] k) s) h
typed_at (v ∷ vs) [] k s h is = never (Fine (at (v ∷ vs) k) s) h
typed_at (v ∷ vs) (t ∷ ss) zero s h is =
    let same : t ≡ s = cc in
    let one = and_left (has_sort v t && is_sort t) (all_typed vs ss) h in
    subst (λ (r : Sort). Fine v r) same (and_left (has_sort v t) (is_sort t) one, and_right (has_sort v t) (is_sort t) one)
typed_at (v ∷ vs) (t ∷ ss) (suc k) s h is = typed_at vs ss k s (and_right (has_sort v t && is_sort t) (all_typed vs ss) h) is

-- a value of a scalar sort shows that it is one
scalar_is : (v : Value) (s : Scalar) → IsTrue (has_sort v (ScalarSort s)) → IsTrue (is_scalar s)
scalar_is (AtomValue (BoolAtom b)) BoolSort h = refl
scalar_is (AtomValue (BoolAtom b)) (BvSort w) h = never (IsTrue (is_scalar (BvSort w))) h
scalar_is (AtomValue (BvAtom x)) BoolSort h = refl
scalar_is (AtomValue (BvAtom x)) (BvSort w) h =
    and_right (nat_eq x.width w) (is_scalar (BvSort w)) (and_left (nat_eq x.width w && is_scalar (BvSort w)) (nat_lt x.bits (2 ^ w)) h)
scalar_is (MapValue m) s h = never (IsTrue (is_scalar s)) h

fine_scalar : (v : Value) (s : Sort) (t : Scalar) → s ≡ ScalarSort t → IsTrue (has_sort v (ScalarSort t)) → Fine v s
fine_scalar v s t same h = subst (λ (r : Sort). Fine v r) (sym same) (h, scalar_is v t h)

-- ---- the value of one node

lit_by : (b : Bool) (a : Atom) (s : Sort) → has_scalar a (scalar_of a) ≡ b → (if b then Some (ScalarSort (scalar_of a)) else None) ≡ Some s → Fine (AtomValue a) s
lit_by true a s own is = let same : s ≡ ScalarSort (scalar_of a) = cc in fine_scalar (AtomValue a) s (scalar_of a) same own
lit_by false a s own is = no_sort (Fine (AtomValue a) s) s is

sort_by : (b : Bool) (t s : Sort) → is_sort t ≡ b → (if b then Some t else None) ≡ Some s → (t ≡ s) × IsTrue (is_sort t)
sort_by true t s own is = let e : t ≡ s = cc in (e, own)
sort_by false t s own is = no_sort ((t ≡ s) × IsTrue (is_sort t)) s is

as_sort_is : (o : Option Scalar) (s : Sort) → as_sort o ≡ Some s → (t : Scalar) × (o ≡ Some t) × (s ≡ ScalarSort t)
as_sort_is None s h = no_sort ((t : Scalar) × (None ≡ Some t) × (s ≡ ScalarSort t)) s h
as_sort_is (Some t) s h = let e : s ≡ ScalarSort t = cc in (t, refl, e)

abbrev Gives : Option Sort → Value → Type 0
Gives o v = (t : Sort) → o ≡ Some t → Fine v t

unary_by : ValuesKeepSorts → (op : UnOp) (o : Option Sort) (v : Value) (s : Sort) → Gives o v → unary_sort op (as_scalar o) ≡ Some s → Fine (unary_value op v) s
unary_by keep op None v s h is = no_sort (Fine (unary_value op v) s) s is
unary_by keep op (Some (MapSort i e)) v s h is = no_sort (Fine (unary_value op v) s) s is
unary_by keep op (Some (ScalarSort t)) v s h is =
    let r = as_sort_is (sort_of_unary op t) s is in
    fine_scalar (unary_value op v) s r.0 r.2 (keep.unary op v t r.0 (h (ScalarSort t) refl).0 r.1)

binary_by : ValuesKeepSorts → (op : BvOp) (o p : Option Sort) (v w : Value) (s : Sort) → Gives o v → Gives p w → binary_sort op (as_scalar o) (as_scalar p) ≡ Some s
    → Fine (binary_value op v w) s
binary_by keep op None p v w s h k is = no_sort (Fine (binary_value op v w) s) s is
binary_by keep op (Some (MapSort i e)) p v w s h k is = no_sort (Fine (binary_value op v w) s) s is
binary_by keep op (Some (ScalarSort t)) None v w s h k is = no_sort (Fine (binary_value op v w) s) s is
binary_by keep op (Some (ScalarSort t)) (Some (MapSort i e)) v w s h k is = no_sort (Fine (binary_value op v w) s) s is
binary_by keep op (Some (ScalarSort t)) (Some (ScalarSort u)) v w s h k is =
    let r = as_sort_is (sort_of_binary op t u) s is in
    fine_scalar (binary_value op v w) s r.0 r.2 (keep.binary op v w t u r.0 (h (ScalarSort t) refl).0 (k (ScalarSort u) refl).0 r.1)

same_by : (b : Bool) (t u s : Sort) → same_sort t u ≡ b → (if b then Some t else None) ≡ Some s → (t ≡ s) × (u ≡ s)
same_by true t u s own is = let e : t ≡ s = cc in (e, sym (same_sort_is t u own) ∙ e)
same_by false t u s own is = no_sort ((t ≡ s) × (u ≡ s)) s is

branch_by : ValuesKeepSorts → (test v w : Value) (o p : Option Sort) (s : Sort) → Gives o v → Gives p w → branch_sort o p ≡ Some s → Fine (pick test v w) s
branch_by keep test v w None p s h k is = no_sort (Fine (pick test v w) s) s is
branch_by keep test v w (Some t) None s h k is = no_sort (Fine (pick test v w) s) s is
branch_by keep test v w (Some t) (Some u) s h k is =
    let two = same_by (same_sort t u) t u s refl is in
    let one = h s (ap (λ (r : Sort). Some r) two.0) in
    (keep.choice test v w s one.0 (k s (ap (λ (r : Sort). Some r) two.1)).0, one.1)

if_by : ValuesKeepSorts → (test v w : Value) (c o p : Option Sort) (s : Sort) → Gives o v → Gives p w → if_sort (as_scalar c) o p ≡ Some s → Fine (pick test v w) s
if_by keep test v w None o p s h k is = no_sort (Fine (pick test v w) s) s is
if_by keep test v w (Some (MapSort i e)) o p s h k is = no_sort (Fine (pick test v w) s) s is
if_by keep test v w (Some (ScalarSort (BvSort n))) o p s h k is = no_sort (Fine (pick test v w) s) s is
if_by keep test v w (Some (ScalarSort BoolSort)) o p s h k is = branch_by keep test v w o p s h k is

entry_by : (b : Bool) (t s : Sort) → (if b then Some t else None) ≡ Some s → s ≡ t
entry_by true t s is = cc
entry_by false t s is = no_sort (s ≡ t) s is

select_by : ValuesKeepSorts → (m i : Value) (o p : Option Sort) (s : Sort) → Gives o m → select_sort o (as_scalar p) ≡ Some s → Fine (select_value m i) s
select_by keep m i None p s h is = no_sort (Fine (select_value m i) s) s is
select_by keep m i (Some (ScalarSort t)) p s h is = no_sort (Fine (select_value m i) s) s is
select_by keep m i (Some (MapSort x e)) None s h is = no_sort (Fine (select_value m i) s) s is
select_by keep m i (Some (MapSort x e)) (Some (MapSort y f)) s h is = no_sort (Fine (select_value m i) s) s is
select_by keep m i (Some (MapSort x e)) (Some (ScalarSort t)) s h is =
    let one = h (MapSort x e) refl in
    fine_scalar (select_value m i) s e (entry_by (same_scalar t x) (ScalarSort e) s is) (keep.entry m i x e (and_right (is_scalar x) (is_scalar e) one.1) one.0)

abbrev Written : Scalar → Scalar → Scalar → Scalar → Sort → Type 0
Written t x u e s = (MapSort x e ≡ s) × (t ≡ x) × (u ≡ e)

written_by : (b c : Bool) (t x u e : Scalar) (s : Sort) → same_scalar t x ≡ b → same_scalar u e ≡ c → (if b && c then Some (MapSort x e) else None) ≡ Some s → Written t x u e s
written_by true true t x u e s b_is c_is is = let same : MapSort x e ≡ s = cc in (same, same_scalar_is t x b_is, same_scalar_is u e c_is)
written_by true false t x u e s b_is c_is is = no_sort (Written t x u e s) s is
written_by false c t x u e s b_is c_is is = no_sort (Written t x u e s) s is

store_by : ValuesKeepSorts → (m i v : Value) (o p q : Option Sort) (s : Sort) → Gives o m → Gives p i → Gives q v → store_sort o (as_scalar p) (as_scalar q) ≡ Some s → Fine (store_value m i v) s
store_by keep m i v None p q s h k l is = no_sort (Fine (store_value m i v) s) s is
store_by keep m i v (Some (ScalarSort t)) p q s h k l is = no_sort (Fine (store_value m i v) s) s is
store_by keep m i v (Some (MapSort x e)) None q s h k l is = no_sort (Fine (store_value m i v) s) s is
store_by keep m i v (Some (MapSort x e)) (Some (MapSort y f)) q s h k l is = no_sort (Fine (store_value m i v) s) s is
store_by keep m i v (Some (MapSort x e)) (Some (ScalarSort t)) None s h k l is = no_sort (Fine (store_value m i v) s) s is
store_by keep m i v (Some (MapSort x e)) (Some (ScalarSort t)) (Some (MapSort y f)) s h k l is = no_sort (Fine (store_value m i v) s) s is
store_by keep m i v (Some (MapSort x e)) (Some (ScalarSort t)) (Some (ScalarSort u)) s h k l is =
    let three = written_by (same_scalar t x) (same_scalar u e) t x u e s refl refl is in
    let one = h (MapSort x e) refl in
    let index = subst (λ (r : Scalar). IsTrue (has_sort i (ScalarSort r))) three.1 (k (ScalarSort t) refl).0 in
    let entry = subst (λ (r : Scalar). IsTrue (has_sort v (ScalarSort r))) three.2 (l (ScalarSort u) refl).0 in
    subst (λ (r : Sort). Fine (store_value m i v) r) three.0 (keep.map m i v x e one.0 index entry, one.1)

node_fine : ValuesKeepSorts → (a : ℕ → Value) (ss : List Sort) (vs : List Value) (node : TermNode) (s : Sort) → all_typed vs ss ≡ true → IsTrue (node_fits a node) → sort_of_node ss node ≡ Some s
    → Fine (node_value a vs node) s
node_fine keep a ss vs (Lit v) s h fit is = lit_by (has_scalar v (scalar_of v)) v s refl is
node_fine keep a ss vs (ZeroMap i e) s h fit is =
    let two = sort_by (is_sort (MapSort i e)) (MapSort i e) s refl is in
    subst (λ (r : Sort). Fine (zero_of (MapSort i e)) r) two.0 (keep.zero (MapSort i e) two.1, two.1)
node_fine keep a ss vs (Variable number sort) s h fit is =
    let two = sort_by (is_sort sort) sort s refl is in
    subst (λ (r : Sort). Fine (a number) r) two.0 (fit, two.1)
node_fine keep a ss vs (Unary op child) s h fit is = unary_by keep op (slice_get ss child) (at vs child) s (λ t. typed_at vs ss child t h) is
node_fine keep a ss vs (Binary op left right) s h fit is =
    binary_by keep op (slice_get ss left) (slice_get ss right) (at vs left) (at vs right) s (λ t. typed_at vs ss left t h) (λ t. typed_at vs ss right t h) is
node_fine keep a ss vs (If test one other) s h fit is =
    if_by keep (at vs test) (at vs one) (at vs other) (slice_get ss test) (slice_get ss one) (slice_get ss other) s (λ t. typed_at vs ss one t h) (λ t. typed_at vs ss other t h) is
node_fine keep a ss vs (Select m i) s h fit is = select_by keep (at vs m) (at vs i) (slice_get ss m) (slice_get ss i) s (λ t. typed_at vs ss m t h) is
node_fine keep a ss vs (Store m i v) s h fit is =
    store_by keep (at vs m) (at vs i) (at vs v) (slice_get ss m) (slice_get ss i) (slice_get ss v) s (λ t. typed_at vs ss m t h) (λ t. typed_at vs ss i t h) (λ t. typed_at vs ss v t h) is

-- ---- the values of all nodes

-- the rest, behind a node
abbrev Rest : (ℕ → Value) → List Value → List Sort → TermNode → List TermNode → Type 0
Rest a vs all node nodes = all_typed (values_onto a (vs ++ node_value a vs node ∷ []) nodes) all ≡ true

typed_by : (o : Option Sort) → ValuesKeepSorts → (a : ℕ → Value) (vs : List Value) (ss all : List Sort) (node : TermNode) (nodes : List TermNode) → sort_of_node ss node ≡ o
    → all_typed vs ss ≡ true → IsTrue (node_fits a node) → option_and_then (λ s. sorts_onto (ss ++ s ∷ []) nodes) o ≡ Some all
    → ((s : Sort) → all_typed (vs ++ node_value a vs node ∷ []) (ss ++ s ∷ []) ≡ true → sorts_onto (ss ++ s ∷ []) nodes ≡ Some all → Rest a vs all node nodes)
    → Rest a vs all node nodes
typed_by None keep a vs ss all node nodes is h fit k ih = absurd (let no : None ≡ Some all → ⊥ = λ y. cc in no k)
typed_by (Some s) keep a vs ss all node nodes is h fit k ih = ih s (typed-push vs ss (node_value a vs node) s h (node_fine keep a ss vs node s h fit is)) k

typed_onto : ValuesKeepSorts → (a : ℕ → Value) (vs : List Value) (ss all : List Sort) (nodes : List TermNode) → IsTrue (fits a nodes) → all_typed vs ss ≡ true → sorts_onto ss nodes ≡ Some all
    → all_typed (values_onto a vs nodes) all ≡ true
typed_onto keep a vs ss all [] fit h is = let same : ss ≡ all = cc in subst (λ (r : List Sort). all_typed vs r ≡ true) same h
typed_onto keep a vs ss all (node ∷ nodes) fit h is =
    typed_by (sort_of_node ss node) keep a vs ss all node nodes refl h (and_left (node_fits a node) (fits a nodes) fit) is
    (λ s. typed_onto keep a (vs ++ node_value a vs node ∷ []) (ss ++ s ∷ []) all nodes (and_right (node_fits a node) (fits a nodes) fit))

value_by : (o : Option (List Sort)) → ValuesKeepSorts → (a : ℕ → Value) (nodes : List TermNode) (k : ℕ) (sort : Sort) → sorts nodes ≡ o → IsTrue (fits a nodes)
    → option_and_then (λ (ss : List Sort). slice_get ss k) o ≡ Some sort → IsTrue (has_sort (value a nodes k) sort)
value_by None keep a nodes k sort is fit h = no_sort (IsTrue (has_sort (value a nodes k) sort)) sort h
value_by (Some ss) keep a nodes k sort is fit h = (typed_at (values a nodes) ss k sort (typed_onto keep a [] [] ss nodes fit refl is) h).0

pub value_has_sort : ValuesKeepSorts → EachValueHasItsSort
value_has_sort keep a nodes k sort fit h = value_by (sorts nodes) keep a nodes k sort refl fit h
