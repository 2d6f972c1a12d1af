-- The laws of evaluation.
use Rattle.std.proofs.Common.{◌≡◌, ℕ, zero, suc, ◌-◌, ◌+◌, ◌<◌, ◌≤◌, Bool, true, false, ◌&&◌, List, [], ◌∷◌, ◌++◌, length, map, arith, sym, ◌∙◌, ap, refl, subst, length-append}
use Rattle.std.specs.Prelude.{Option, None, Some, nat_lt, if◌then◌else◌, slice_get, IsTrue, IsSome, is_some}
use Rattle.std.specs.Option.{option_map, option_and_then}
use Rattle.std.proofs.lemmas.Bool.Decides.{nat_tests}
use Rattle.std.proofs.lemmas.Option.{slice_get-map, slice_get_past}
use Rattle.std.proofs.lemmas.List.{map-append, length-map}
use Rattle.hy_val.specs.Sorts.{scalar_of, is_scalar, same_scalar, has_scalar, zero_of_scalar}
use Rattle.hy_val.specs.Table.{Table}
use Rattle.hy_val.specs.Maps.{pairs_fit, ascends, is_map, select, stored}
use Rattle.hy_val.specs.Operators.{sort_of_unary, sort_of_binary, apply1, apply}
use Rattle.hy_val.specs.Values.{zero_of, sort_of, has_sort, default, at, atom_of, is_on, unary_value, binary_value, pick, select_value, store_value}
use Rattle.hy_val.specs.NodeSorts.{is_sort, as_scalar, unary_sort, binary_sort, branch_sort, if_sort, select_sort, store_sort}
use Rattle.hy_val.specs.Exprs.{sort_of_node, sorts_onto, node_by, values_by, read, node_reads, reads}
use Rattle.hy_val.specs.Building.{sorts_of}
use Rattle.hy_val.specs.Laws.{StoresWriteAtOne, ValuesKeepSorts, is_above_children, ChildrenAreLower, value_at, EachNodeByCases, EachNodeHasItsSort, AgreeOn, OnlyVariablesMatter, renamed, RenamingKeepsAll}
use Rattle.hy_val.proofs.Lists.{slice_get-left, slice_get-seam}
use Rattle.hy_val.proofs.Tables.{both, left, right, stored-is_map, writes_at}
use Rattle.hy_val.proofs.ResultSorts.{kept, same_scalar_is, same_scalar_self, has_scalar_is, unary_sorted, binary_sorted, entry_scalar, zero_scalar}
use Rattle.hy_val.proofs.Evaluating.{node_sorted}
use Rattle.hy_val.proofs.Ranges.{own, apply1_own, apply_own, zero_own, entry_own, Good, all_good, good_kept, good_push, good_at, node_good}
use Rattle.hy_val.specs.declared.sort.Scalar.{Scalar}
use Rattle.hy_val.specs.declared.sort.ScalarKind.TheVariants.{Bool as BoolSort, Bv as BvSort}
use Rattle.hy_val.specs.declared.sort.Sort.{Sort}
use Rattle.hy_val.specs.declared.sort.SortKind.TheVariants.{Scalar as ScalarSort, Map as MapSort}
use Rattle.hy_val.specs.declared.atom.Atom.{Atom}
use Rattle.hy_val.specs.declared.operator.UnOp.{UnOp}
use Rattle.hy_val.specs.declared.operator.BvOp.{BvOp}
use Rattle.hy_val.specs.declared.value.Value.{Value}
use Rattle.hy_val.specs.declared.value.Value.TheVariants.{Atom as AtomValue, Map as MapValue}
use Rattle.hy_val.specs.declared.expr.Var.{Var}
use Rattle.hy_val.specs.declared.expr.Env.{Env}
use Rattle.hy_val.specs.declared.expr.ExprNode.{ExprNode}
use Rattle.hy_val.specs.declared.expr.ExprNode.TheVariants.{Lit, Var as Read, Unary, Binary, If, Select, Store}

-- ---- values keep their sorts

same_self : (s : Scalar) → same_scalar s s ≡ true
same_self s = same_scalar_self s

-- an atom of a sort, by its own sort
own_of : (a : Atom) (s : Scalar) → has_scalar a s ≡ true → own a
own_of a s h = subst (λ (t : Scalar). has_scalar a t ≡ true) (sym (has_scalar_is a s h)) h

result_has : (a : Atom) (t : Scalar) → own a → scalar_of a ≡ t → IsTrue (has_scalar a t)
result_has a t k is = subst (λ (s : Scalar). IsTrue (has_scalar a s)) is k

zero_keeps : (s : Sort) → IsTrue (is_sort s) → IsTrue (has_sort (zero_of s) s)
zero_keeps (ScalarSort s) h = result_has (zero_of_scalar s) s (zero_own s h) (zero_scalar s)
zero_keeps (MapSort index elem) h =
    both (same_scalar index index && same_scalar elem elem) true (both (same_scalar index index) (same_scalar elem elem) (same_self index) (same_self elem)) refl

unary_keeps : (op : UnOp) (v : Value) (s t : Scalar) → IsTrue (has_sort v (ScalarSort s)) → sort_of_unary op s ≡ Some t → IsTrue (has_sort (unary_value op v) (ScalarSort t))
unary_keeps op (AtomValue a) s t h is =
    let of : sort_of_unary op (scalar_of a) ≡ Some t = ap (λ (r : Scalar). sort_of_unary op r) (has_scalar_is a s h) ∙ is in
    result_has (apply1 op a) t (apply1_own op a (own_of a s h) (ap is_some of)) (unary_sorted op a t of)
unary_keeps op (MapValue m) s t h is = absurd (let no : false ≡ true → ⊥ = λ x. cc in no h)

binary_keeps : (op : BvOp) (v w : Value) (r s t : Scalar) → IsTrue (has_sort v (ScalarSort r)) → IsTrue (has_sort w (ScalarSort s)) → sort_of_binary op r s ≡ Some t
    → IsTrue (has_sort (binary_value op v w) (ScalarSort t))
binary_keeps op (AtomValue a) (AtomValue b) r s t h k is =
    let of : sort_of_binary op (scalar_of a) (scalar_of b) ≡ Some t =
    ap (λ (x : Scalar). sort_of_binary op x (scalar_of b)) (has_scalar_is a r h) ∙ ap (λ (y : Scalar). sort_of_binary op r y) (has_scalar_is b s k) ∙ is in
    result_has (apply op a b) t (apply_own op a b (own_of a r h) (own_of b s k) (ap is_some of)) (binary_sorted op a b t of)
binary_keeps op (AtomValue a) (MapValue n) r s t h k is = absurd (let no : false ≡ true → ⊥ = λ x. cc in no k)
binary_keeps op (MapValue m) w r s t h k is = absurd (let no : false ≡ true → ⊥ = λ x. cc in no h)

choice_by : (b : Bool) (v w : Value) (s : Sort) → IsTrue (has_sort v s) → IsTrue (has_sort w s) → IsTrue (has_sort (if b then v else w) s)
choice_by true v w s h k = h
choice_by false v w s h k = k

-- the parts of a map of a sort
pub record MapOf (m : Table) (index elem : Scalar) : Type 0 where
  pub is_index : m.index ≡ index
  pub is_elem : m.elem ≡ elem
  pub fits : IsTrue (is_map m)

map_of : (m : Table) (index elem : Scalar) → IsTrue (has_sort (MapValue m) (MapSort index elem)) → MapOf m index elem
map_of m index elem h =
    let same = left (same_scalar m.index index && same_scalar m.elem elem) (is_map m) h in
    record {
      is_index = same_scalar_is m.index index (left (same_scalar m.index index) (same_scalar m.elem elem) same);
      is_elem = same_scalar_is m.elem elem (right (same_scalar m.index index) (same_scalar m.elem elem) same);
      fits = right (same_scalar m.index index && same_scalar m.elem elem) (is_map m) h;
    }

entry_keeps : (m i : Value) (index elem : Scalar) → IsTrue (is_scalar elem) → IsTrue (has_sort m (MapSort index elem)) → IsTrue (has_sort (select_value m i) (ScalarSort elem))
entry_keeps (AtomValue a) i index elem s h = absurd (let no : false ≡ true → ⊥ = λ x. cc in no h)
entry_keeps (MapValue m) i index elem s h =
    let of : MapOf m index elem = map_of m index elem h in
    let fit : pairs_fit m.index m.elem m.pairs ≡ true = left (pairs_fit m.index m.elem m.pairs) (ascends m.pairs) of.fits in
    result_has (select m (atom_of i)) elem
    (entry_own m.index m.elem m.pairs (atom_of i) (subst (λ (t : Scalar). is_scalar t ≡ true) (sym of.is_elem) s) fit)
    (entry_scalar m.index m.elem (zero_of_scalar m.elem) m.pairs (atom_of i) (zero_scalar m.elem) fit ∙ of.is_elem)

map_keeps : (m i v : Value) (index elem : Scalar) → IsTrue (has_sort m (MapSort index elem)) → IsTrue (has_sort i (ScalarSort index)) → IsTrue (has_sort v (ScalarSort elem))
    → IsTrue (has_sort (store_value m i v) (MapSort index elem))
map_keeps (AtomValue a) i v index elem h k l = absurd (let no : false ≡ true → ⊥ = λ x. cc in no h)
map_keeps (MapValue m) (MapValue n) v index elem h k l = absurd (let no : false ≡ true → ⊥ = λ x. cc in no k)
map_keeps (MapValue m) (AtomValue i) (MapValue n) index elem h k l = absurd (let no : false ≡ true → ⊥ = λ x. cc in no l)
map_keeps (MapValue m) (AtomValue i) (AtomValue v) index elem h k l =
    let of : MapOf m index elem = map_of m index elem h in
    both (same_scalar m.index index && same_scalar m.elem elem) (is_map (stored m i v))
    (left (same_scalar m.index index && same_scalar m.elem elem) (is_map m) h)
    (stored-is_map m i v of.fits (subst (λ (t : Scalar). IsTrue (has_scalar i t)) (sym of.is_index) k) (subst (λ (t : Scalar). IsTrue (has_scalar v t)) (sym of.is_elem) l))

pub keep_sorts : ValuesKeepSorts
keep_sorts =
    record {
      zero = zero_keeps;
      unary = unary_keeps;
      binary = binary_keeps;
      choice = λ test v w s h k. choice_by (is_on test) v w s h k;
      entry = entry_keeps;
      map = map_keeps;
    }

pub write_at_one : StoresWriteAtOne
write_at_one m i v h hi hv = (stored-is_map m i v h hi hv, writes_at m i v h hi hv)

-- ---- children are lower

lt_is : (m n : ℕ) → m < n → nat_lt m n ≡ true
lt_is m n h = grind (arith, nat_tests, h)

is_lt : (m n : ℕ) → nat_lt m n ≡ true → m < n
is_lt m n h = grind (arith, nat_tests, h)

within_by : (known : List Sort) (n : ℕ) (o : Option Sort) → slice_get known n ≡ o → IsSome o → nat_lt n (length known) ≡ true
within_by known n o is h = within_test (nat_lt n (length known)) known n o refl is h
  where
    within_test : (less : Bool) (known : List Sort) (n : ℕ) (o : Option Sort) → nat_lt n (length known) ≡ less → slice_get known n ≡ o → IsSome o → less ≡ true
    within_test true known n o test is h = refl
    within_test false known n o test is h =
        let most : length known ≤ n = grind (arith, nat_tests, test) in
        let none : slice_get known n ≡ None = slice_get_past known n most in
        let some : IsSome (slice_get known n) = subst (λ (p : Option Sort). IsSome p) (sym is) h in
        let bad : is_some {T = Sort} None ≡ true = ap is_some (sym none) ∙ some in
        cc

scalar_some : (o : Option Sort) → IsSome (as_scalar o) → IsSome o
scalar_some None h = cc
scalar_some (Some s) h = refl

scalar_within : (known : List Sort) (n : ℕ) → IsSome (as_scalar (slice_get known n)) → nat_lt n (length known) ≡ true
scalar_within known n h = within_by known n (slice_get known n) refl (scalar_some (slice_get known n) h)

sort_within : (known : List Sort) (n : ℕ) → IsSome (slice_get known n) → nat_lt n (length known) ≡ true
sort_within known n h = within_by known n (slice_get known n) refl h

unary_some : (op : UnOp) (o : Option Scalar) → IsSome (unary_sort op o) → IsSome o
unary_some op None h = cc
unary_some op (Some s) h = refl

binary_some : (op : BvOp) (o p : Option Scalar) → IsSome (binary_sort op o p) → IsSome o × IsSome p
binary_some op None p h = (let no : IsSome {T = Scalar} None = cc in no, cc)
binary_some op (Some s) None h = (refl, cc)
binary_some op (Some s) (Some t) h = (refl, refl)

branch_some : (o p : Option Sort) → IsSome (branch_sort o p) → IsSome o × IsSome p
branch_some None p h = (cc, cc)
branch_some (Some s) None h = (refl, cc)
branch_some (Some s) (Some t) h = (refl, refl)

if_some : (c : Option Scalar) (o p : Option Sort) → IsSome (if_sort c o p) → IsSome c × IsSome o × IsSome p
if_some None o p h = (cc, cc, cc)
if_some (Some BoolSort) o p h = let two = branch_some o p h in (refl, two.0, two.1)
if_some (Some (BvSort w)) o p h = (refl, cc, cc)

select_some : (m : Option Sort) (i : Option Scalar) → IsSome (select_sort m i) → IsSome m × IsSome i
select_some None i h = (cc, cc)
select_some (Some (ScalarSort s)) i h = (refl, cc)
select_some (Some (MapSort index elem)) None h = (refl, cc)
select_some (Some (MapSort index elem)) (Some s) h = (refl, refl)

store_some : (m : Option Sort) (i v : Option Scalar) → IsSome (store_sort m i v) → IsSome m × IsSome i × IsSome v
store_some None i v h = (cc, cc, cc)
store_some (Some (ScalarSort s)) i v h = (refl, cc, cc)
store_some (Some (MapSort index elem)) None v h = (refl, cc, cc)
store_some (Some (MapSort index elem)) (Some s) None h = (refl, refl, cc)
store_some (Some (MapSort index elem)) (Some s) (Some t) h = (refl, refl, refl)

both3 : (a b c : Bool) → a ≡ true → b ≡ true → c ≡ true → IsTrue (a && b && c)
both3 a b c h k l = both (a && b) c (both a b h k) l

pub node_lower : (known : List Sort) (node : ExprNode) → IsSome (sort_of_node known node) → IsTrue (is_above_children (length known) node)
node_lower known (Lit a) h = refl
node_lower known (Read x sort) h = refl
node_lower known (Unary op child) h = scalar_within known child (unary_some op (as_scalar (slice_get known child)) h)
node_lower known (Binary op l r) h =
    let two = binary_some op (as_scalar (slice_get known l)) (as_scalar (slice_get known r)) h in
    both (nat_lt l (length known)) (nat_lt r (length known)) (scalar_within known l two.0) (scalar_within known r two.1)
node_lower known (If c y n) h =
    let three = if_some (as_scalar (slice_get known c)) (slice_get known y) (slice_get known n) h in
    both3 (nat_lt c (length known)) (nat_lt y (length known)) (nat_lt n (length known))
    (scalar_within known c three.0) (sort_within known y three.1) (sort_within known n three.2)
node_lower known (Select m i) h =
    let two = select_some (slice_get known m) (as_scalar (slice_get known i)) h in
    both (nat_lt m (length known)) (nat_lt i (length known)) (sort_within known m two.0) (scalar_within known i two.1)
node_lower known (Store m i v) h =
    let three = store_some (slice_get known m) (as_scalar (slice_get known i)) (as_scalar (slice_get known v)) h in
    both3 (nat_lt m (length known)) (nat_lt i (length known)) (nat_lt v (length known))
    (sort_within known m three.0) (scalar_within known i three.1) (scalar_within known v three.2)

same_node : (a b : ExprNode) → Some a ≡ Some b → a ≡ b
same_node a b h = cc

some_sort : (o : Option Sort) (f : Sort → Option (List Sort)) → IsSome (option_and_then f o) → IsSome o
some_sort None f h = cc
some_sort (Some s) f h = refl

some_rest : (o : Option Sort) (f : Sort → Option (List Sort)) (P : Type 0) → IsSome (option_and_then f o) → ((s : Sort) → IsSome (f s) → P) → P
some_rest None f P h k = absurd (let no : IsSome {T = List Sort} None → ⊥ = λ x. cc in no h)
some_rest (Some s) f P h k = k s h

lower_onto : (known : List Sort) (nodes : List ExprNode) (n : ℕ) (node : ExprNode) → IsSome (sorts_onto known nodes) → slice_get nodes n ≡ Some node
    → IsTrue (is_above_children (length known + n) node)
lower_onto known [] n node h at = absurd (let no : None ≡ Some node → ⊥ = λ x. cc in no at)
lower_onto known (first ∷ nodes) zero node h at =
    let here : length known ≡ length known + 0 = omega arith in
    subst (λ (m : ℕ). IsTrue (is_above_children m node)) here
    (subst (λ (x : ExprNode). IsTrue (is_above_children (length known) x)) (same_node first node at)
    (node_lower known first (some_sort (sort_of_node known first) (λ s. sorts_onto (known ++ s ∷ []) nodes) h)))
lower_onto known (first ∷ nodes) (suc n) node h at =
    some_rest (sort_of_node known first) (λ s. sorts_onto (known ++ s ∷ []) nodes) (IsTrue (is_above_children (length known + suc n) node)) h
    (λ s k.
    let more : length (known ++ s ∷ []) ≡ length known + 1 = length-append known (s ∷ []) in
    let place : length (known ++ s ∷ []) + n ≡ length known + suc n = omega arith in
    subst (λ (m : ℕ). IsTrue (is_above_children m node)) place (lower_onto (known ++ s ∷ []) nodes n node k at))

pub children_lower : ChildrenAreLower
children_lower nodes n node h at =
    let place : length {A = Sort} [] + n ≡ n = omega arith in
    subst (λ (m : ℕ). IsTrue (is_above_children m node)) place (lower_onto [] nodes n node h at)

-- ---- values by cases

-- equal values of children give equal values
pub node_by-same : (look : Var → Value) (vs ws : List Value) (n : ℕ) (node : ExprNode) → ((m : ℕ) → m < n → at vs m ≡ at ws m) → IsTrue (is_above_children n node)
    → node_by look vs node ≡ node_by look ws node
node_by-same look vs ws n (Lit a) same h = refl
node_by-same look vs ws n (Read x sort) same h = refl
node_by-same look vs ws n (Unary op c) same h = ap (λ (v : Value). unary_value op v) (same c (is_lt c n h))
node_by-same look vs ws n (Binary op l r) same h =
    ap (λ (v : Value). binary_value op v (at vs r)) (same l (is_lt l n (left (nat_lt l n) (nat_lt r n) h)))
    ∙ ap (λ (v : Value). binary_value op (at ws l) v) (same r (is_lt r n (right (nat_lt l n) (nat_lt r n) h)))
node_by-same look vs ws n (If c y o) same h =
    let two = left (nat_lt c n && nat_lt y n) (nat_lt o n) h in
    ap (λ (v : Value). pick v (at vs y) (at vs o)) (same c (is_lt c n (left (nat_lt c n) (nat_lt y n) two)))
    ∙ ap (λ (v : Value). pick (at ws c) v (at vs o)) (same y (is_lt y n (right (nat_lt c n) (nat_lt y n) two)))
    ∙ ap (λ (v : Value). pick (at ws c) (at ws y) v) (same o (is_lt o n (right (nat_lt c n && nat_lt y n) (nat_lt o n) h)))
node_by-same look vs ws n (Select m i) same h =
    ap (λ (v : Value). select_value v (at vs i)) (same m (is_lt m n (left (nat_lt m n) (nat_lt i n) h)))
    ∙ ap (λ (v : Value). select_value (at ws m) v) (same i (is_lt i n (right (nat_lt m n) (nat_lt i n) h)))
node_by-same look vs ws n (Store m i v) same h =
    let two = left (nat_lt m n && nat_lt i n) (nat_lt v n) h in
    ap (λ (x : Value). store_value x (at vs i) (at vs v)) (same m (is_lt m n (left (nat_lt m n) (nat_lt i n) two)))
    ∙ ap (λ (x : Value). store_value (at ws m) x (at vs v)) (same i (is_lt i n (right (nat_lt m n) (nat_lt i n) two)))
    ∙ ap (λ (x : Value). store_value (at ws m) (at ws i) x) (same v (is_lt v n (right (nat_lt m n && nat_lt i n) (nat_lt v n) h)))

-- what is known stays
pub values-front : (look : Var → Value) (known : List Value) (nodes : List ExprNode) (n : ℕ) → n < length known → at (values_by look known nodes) n ≡ at known n
values-front look known [] n h = refl
values-front look known (node ∷ nodes) n h =
    let more : length (known ++ node_by look known node ∷ []) ≡ length known + 1 = length-append known (node_by look known node ∷ []) in
    let within : n < length (known ++ node_by look known node ∷ []) = omega arith in
    values-front look (known ++ node_by look known node ∷ []) nodes n within ∙ ap default (slice_get-left known (node_by look known node ∷ []) n h)

first_value : (look : Var → Value) (known : List Value) (node : ExprNode) (nodes : List ExprNode)
    → at (values_by look known (node ∷ nodes)) (length known) ≡ node_by look known node
first_value look known node nodes =
    let more : length (known ++ node_by look known node ∷ []) ≡ length known + 1 = length-append known (node_by look known node ∷ []) in
    let within : length known < length (known ++ node_by look known node ∷ []) = omega arith in
    values-front look (known ++ node_by look known node ∷ []) nodes (length known) within ∙ ap default (slice_get-seam known (node_by look known node))

by_cases_onto : (look : Var → Value) (known : List Value) (nodes : List ExprNode) (n : ℕ) (node : ExprNode) → slice_get nodes n ≡ Some node
    → IsTrue (is_above_children (length known + n) node) → at (values_by look known nodes) (length known + n) ≡ node_by look (values_by look known nodes) node
by_cases_onto look known [] n node at_n h = absurd (let no : None ≡ Some node → ⊥ = λ x. cc in no at_n)
by_cases_onto look known (first ∷ nodes) zero node at_n h =
    let here : length known + 0 ≡ length known = omega arith in
    let lower : IsTrue (is_above_children (length known) node) = subst (λ (m : ℕ). IsTrue (is_above_children m node)) here h in
    ap (λ (m : ℕ). at (values_by look known (first ∷ nodes)) m) here ∙ first_value look known first nodes
    ∙ ap (λ (x : ExprNode). node_by look known x) (same_node first node at_n)
    ∙ node_by-same look known (values_by look known (first ∷ nodes)) (length known) node (λ m less. sym (values-front look known (first ∷ nodes) m less)) lower
by_cases_onto look known (first ∷ nodes) (suc n) node at_n h =
    let more : length (known ++ node_by look known first ∷ []) ≡ length known + 1 = length-append known (node_by look known first ∷ []) in
    let place : length known + suc n ≡ length (known ++ node_by look known first ∷ []) + n = omega arith in
    ap (λ (m : ℕ). at (values_by look known (first ∷ nodes)) m) place
    ∙ by_cases_onto look (known ++ node_by look known first ∷ []) nodes n node at_n (subst (λ (m : ℕ). IsTrue (is_above_children m node)) place h)

pub by_cases : EachNodeByCases
by_cases look nodes n node h at_n =
    let place : length {A = Value} [] + n ≡ n = omega arith in
    ap (λ (m : ℕ). at (values_by look [] nodes) m) (sym place)
    ∙ by_cases_onto look [] nodes n node at_n (subst (λ (m : ℕ). IsTrue (is_above_children m node)) (sym place) (children_lower nodes n node h at_n))

-- ---- sorts of values

pub record Typed (vs : List Value) (sorts : List Sort) : Type 0 where
  pub each : all_good vs
  pub same : map sort_of vs ≡ sorts

some_list : (xs ys : List Sort) → Some xs ≡ Some ys → xs ≡ ys
some_list xs ys h = cc

typed_by : (o : Option Sort) (env : Env) (known : List Value) (node : ExprNode) (rest : List ExprNode) (sorts : List Sort) → sort_of_node (map sort_of known) node ≡ o
    → all_good known → IsTrue (node_reads env node)
    → (all_good (known ++ node_by (read env) known node ∷ []) → sorts_onto (map sort_of (known ++ node_by (read env) known node ∷ [])) rest ≡ Some sorts
    → Typed (values_by (read env) (known ++ node_by (read env) known node ∷ []) rest) sorts)
    → option_and_then (λ s. sorts_onto (map sort_of known ++ s ∷ []) rest) o ≡ Some sorts
    → Typed (values_by (read env) (known ++ node_by (read env) known node ∷ []) rest) sorts
typed_by None env known node rest sorts is k r next h = absurd (let no : None ≡ Some sorts → ⊥ = λ x. cc in no h)
typed_by (Some s) env known node rest sorts is k r next h =
    let v : Value = node_by (read env) known node in
    let own : Good v = node_good env known node k r (ap is_some is) in
    let of : sort_of v ≡ s = node_sorted env known node s (good_kept known k) r is in
    next (good_push known v k own)
    (ap (λ (xs : List Sort). sorts_onto xs rest) (map-append sort_of known (v ∷ []) ∙ ap (λ (t : Sort). map sort_of known ++ t ∷ []) of) ∙ h)

typed_onto : (env : Env) (known : List Value) (rest : List ExprNode) (sorts : List Sort) → all_good known → IsTrue (reads env rest)
    → sorts_onto (map sort_of known) rest ≡ Some sorts → Typed (values_by (read env) known rest) sorts
typed_onto env known [] sorts k r h = record { each = k; same = some_list (map sort_of known) sorts h }
typed_onto env known (node ∷ rest) sorts k r h =
    typed_by (sort_of_node (map sort_of known) node) env known node rest sorts refl k (left (node_reads env node) (reads env rest) r)
    (λ more next. typed_onto env (known ++ node_by (read env) known node ∷ []) rest sorts more (right (node_reads env node) (reads env rest) r) next) h

value_typed : (o : Option Value) (sort : Sort) → kept (default o) → option_map sort_of o ≡ Some sort → IsTrue (has_sort (default o) sort)
value_typed None sort k h = absurd (let no : None ≡ Some sort → ⊥ = λ x. cc in no h)
value_typed (Some v) sort k h = let same : sort_of v ≡ sort = cc in subst (λ (s : Sort). IsTrue (has_sort v s)) same k

has_sort_by : (o : Option (List Sort)) (env : Env) (nodes : List ExprNode) (n : ℕ) (sort : Sort) → sorts_of nodes ≡ o → IsTrue (reads env nodes)
    → option_and_then (λ (sorts : List Sort). slice_get sorts n) o ≡ Some sort → IsTrue (has_sort (value_at (read env) nodes n) sort)
has_sort_by None env nodes n sort is r h = absurd (let no : None ≡ Some sort → ⊥ = λ x. cc in no h)
has_sort_by (Some sorts) env nodes n sort is r h =
    let t : Typed (values_by (read env) [] nodes) sorts = typed_onto env [] nodes sorts tt r is in
    value_typed (slice_get (values_by (read env) [] nodes) n) sort (good_at (values_by (read env) [] nodes) n t.each).own
    (sym (slice_get-map sort_of (values_by (read env) [] nodes) n) ∙ ap (λ (ss : List Sort). slice_get ss n) t.same ∙ h)

pub has_its_sort : EachNodeHasItsSort
has_its_sort env nodes n sort r h = has_sort_by (sorts_of nodes) env nodes n sort refl r h

-- ---- variables

agree_here : (look other : Var → Value) (node : ExprNode) (nodes : List ExprNode) (known : List Value) → AgreeOn look other (node ∷ nodes)
    → (node_by look known node ≡ node_by other known node) × AgreeOn look other nodes
agree_here look other (Lit a) nodes known h = (refl, h)
agree_here look other (Read x sort) nodes known h = h
agree_here look other (Unary op c) nodes known h = (refl, h)
agree_here look other (Binary op l r) nodes known h = (refl, h)
agree_here look other (If c y n) nodes known h = (refl, h)
agree_here look other (Select m i) nodes known h = (refl, h)
agree_here look other (Store m i v) nodes known h = (refl, h)

values-agree : (look other : Var → Value) (known : List Value) (nodes : List ExprNode) → AgreeOn look other nodes → values_by look known nodes ≡ values_by other known nodes
values-agree look other known [] h = refl
values-agree look other known (node ∷ nodes) h =
    let two = agree_here look other node nodes known h in
    values-agree look other (known ++ node_by look known node ∷ []) nodes two.1 ∙ ap (λ (v : Value). values_by other (known ++ v ∷ []) nodes) two.0

pub only_variables : OnlyVariablesMatter
only_variables look other nodes h = ap (λ (vs : List Value). at vs (length nodes - 1)) (values-agree look other [] nodes h)

-- ---- renaming

renamed_sort : (f : Var → Var) (known : List Sort) (node : ExprNode) → sort_of_node known (renamed f node) ≡ sort_of_node known node
renamed_sort f known (Lit a) = refl
renamed_sort f known (Read x sort) = refl
renamed_sort f known (Unary op c) = refl
renamed_sort f known (Binary op l r) = refl
renamed_sort f known (If c y n) = refl
renamed_sort f known (Select m i) = refl
renamed_sort f known (Store m i v) = refl

renamed_value : (f : Var → Var) (look : Var → Value) (known : List Value) (node : ExprNode) → node_by look known (renamed f node) ≡ node_by (λ x. look (f x)) known node
renamed_value f look known (Lit a) = refl
renamed_value f look known (Read x sort) = refl
renamed_value f look known (Unary op c) = refl
renamed_value f look known (Binary op l r) = refl
renamed_value f look known (If c y n) = refl
renamed_value f look known (Select m i) = refl
renamed_value f look known (Store m i v) = refl

under : (o : Option Sort) (g h : Sort → Option (List Sort)) → ((s : Sort) → g s ≡ h s) → option_and_then g o ≡ option_and_then h o
under None g h same = refl
under (Some s) g h same = same s

renamed_sorts : (f : Var → Var) (known : List Sort) (nodes : List ExprNode) → sorts_onto known (map (renamed f) nodes) ≡ sorts_onto known nodes
renamed_sorts f known [] = refl
renamed_sorts f known (node ∷ nodes) =
    ap (λ (o : Option Sort). option_and_then (λ s. sorts_onto (known ++ s ∷ []) (map (renamed f) nodes)) o) (renamed_sort f known node)
    ∙ under (sort_of_node known node) (λ s. sorts_onto (known ++ s ∷ []) (map (renamed f) nodes)) (λ s. sorts_onto (known ++ s ∷ []) nodes)
    (λ s. renamed_sorts f (known ++ s ∷ []) nodes)

renamed_values : (f : Var → Var) (look : Var → Value) (known : List Value) (nodes : List ExprNode)
    → values_by look known (map (renamed f) nodes) ≡ values_by (λ x. look (f x)) known nodes
renamed_values f look known [] = refl
renamed_values f look known (node ∷ nodes) =
    ap (λ (v : Value). values_by look (known ++ v ∷ []) (map (renamed f) nodes)) (renamed_value f look known node)
    ∙ renamed_values f look (known ++ node_by (λ x. look (f x)) known node ∷ []) nodes

pub renaming : RenamingKeepsAll
renaming f look nodes =
    record {
      sorts = renamed_sorts f [] nodes;
      value =
          ap (λ (vs : List Value). at vs (length (map (renamed f) nodes) - 1)) (renamed_values f look [] nodes)
          ∙ ap (λ (n : ℕ). at (values_by (λ x. look (f x)) [] nodes) (n - 1)) (length-map nodes (renamed f));
    }
