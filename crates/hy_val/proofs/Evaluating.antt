-- What evaluation keeps while it goes over the nodes.
use Rattle.std.proofs.Common.{◌≡◌, ℕ, zero, suc, ◌-◌, ◌+◌, ◌<◌, Bool, true, false, ◌&&◌, List, [], ◌∷◌, ◌++◌, length, map, drop, get_or, arith, sym, ◌∙◌, ap, refl, subst, length-append}
use Rattle.std.specs.Prelude.{Option, None, Some, if◌then◌else◌, slice_get, IsTrue, IsSome}
use Rattle.std.specs.Option.{option_map, option_and_then}
use Rattle.std.proofs.lemmas.Option.{slice_get-map}
use Rattle.std.proofs.lemmas.List.{map-append}
use Rattle.std.proofs.Math.Seq.{drop-cons}
use Rattle.hy_val.specs.Sorts.{scalar_of, same_scalar, has_scalar}
use Rattle.hy_val.specs.Table.{Table}
use Rattle.hy_val.specs.Operators.{sort_of_unary, sort_of_binary}
use Rattle.hy_val.specs.Values.{sort_of, default, at, atom_of}
use Rattle.hy_val.specs.NodeSorts.{is_sort, as_sort, as_scalar, unary_sort, binary_sort, if_sort, select_sort, store_sort}
use Rattle.hy_val.specs.Exprs.{sort_of_node, sorts_onto, node_by, values_by, variable, read, eval, is_there, node_reads, reads}
use Rattle.hy_val.proofs.Tables.{left, right}
use Rattle.hy_val.proofs.ResultSorts.{kept, same_scalar_is, has_sort_is, unary_value_sorted, binary_value_sorted, pick_sorted, select_sorted, store_sorted}
use Rattle.hy_val.specs.declared.sort.Scalar.{Scalar}
use Rattle.hy_val.specs.declared.sort.Sort.{Sort}
use Rattle.hy_val.specs.declared.sort.SortKind.TheVariants.{Scalar as ScalarSort, Map as MapSort}
use Rattle.hy_val.specs.declared.atom.Atom.{Atom}
use Rattle.hy_val.specs.declared.operator.UnOp.{UnOp}
use Rattle.hy_val.specs.declared.operator.BvOp.{BvOp}
use Rattle.hy_val.specs.declared.value.Value.{Value}
use Rattle.hy_val.specs.declared.value.Value.TheVariants.{Atom as AtomValue, Map as MapValue}
use Rattle.hy_val.specs.declared.expr.Var.{Var}
use Rattle.hy_val.specs.declared.expr.Env.{Env}
use Rattle.hy_val.specs.declared.expr.ExprNode.{ExprNode}
use Rattle.hy_val.specs.declared.expr.ExprNode.TheVariants.{Lit, Var as Read, Unary, Binary, If, Select, Store}

-- ---- what the operators ask

unary_ask : (op : UnOp) (o : Option Value) → IsSome (unary_sort op (as_scalar (option_map sort_of o))) → IsSome (sort_of_unary op (scalar_of (atom_of (default o))))
unary_ask op None h = cc
unary_ask op (Some (AtomValue a)) h = ask_by (sort_of_unary op (scalar_of a)) h
  where
    ask_by : (o : Option Scalar) → IsSome (as_sort o) → IsSome o
    ask_by None h = cc
    ask_by (Some t) h = refl
unary_ask op (Some (MapValue m)) h = cc

pub unary_known : (op : UnOp) (known : List Value) (child : ℕ) (a : Atom) → a ≡ atom_of (at known child)
    → IsSome (unary_sort op (as_scalar (slice_get (map sort_of known) child))) → IsSome (sort_of_unary op (scalar_of a))
unary_known op known child a is h =
    subst (λ x. IsSome (sort_of_unary op (scalar_of x))) (sym is)
    (unary_ask op (slice_get known child) (subst (λ o. IsSome (unary_sort op (as_scalar o))) (slice_get-map sort_of known child) h))

binary_ask : (op : BvOp) (o p : Option Value) → IsSome (binary_sort op (as_scalar (option_map sort_of o)) (as_scalar (option_map sort_of p)))
    → IsSome (sort_of_binary op (scalar_of (atom_of (default o))) (scalar_of (atom_of (default p))))
binary_ask op None p h = cc
binary_ask op (Some (AtomValue a)) None h = cc
binary_ask op (Some (AtomValue a)) (Some (AtomValue b)) h = ask_by (sort_of_binary op (scalar_of a) (scalar_of b)) h
  where
    ask_by : (o : Option Scalar) → IsSome (as_sort o) → IsSome o
    ask_by None h = cc
    ask_by (Some t) h = refl
binary_ask op (Some (AtomValue a)) (Some (MapValue n)) h = cc
binary_ask op (Some (MapValue m)) p h = cc

pub binary_known : (op : BvOp) (known : List Value) (l r : ℕ) (a b : Atom) → a ≡ atom_of (at known l) → b ≡ atom_of (at known r)
    → IsSome (binary_sort op (as_scalar (slice_get (map sort_of known) l)) (as_scalar (slice_get (map sort_of known) r))) → IsSome (sort_of_binary op (scalar_of a) (scalar_of b))
binary_known op known l r a b is_a is_b h =
    subst (λ x. IsSome (sort_of_binary op (scalar_of x) (scalar_of b))) (sym is_a)
    (subst (λ y. IsSome (sort_of_binary op (scalar_of (atom_of (at known l))) (scalar_of y))) (sym is_b)
    (binary_ask op (slice_get known l) (slice_get known r)
    (subst (λ o. IsSome (binary_sort op (as_scalar o) (as_scalar (option_map sort_of (slice_get known r))))) (slice_get-map sort_of known l)
    (subst (λ o. IsSome (binary_sort op (as_scalar (slice_get (map sort_of known) l)) (as_scalar o))) (slice_get-map sort_of known r) h))))

-- the index has the map's index sort
index_by : (same : Bool) (e : Scalar) → IsSome (if same then Some (ScalarSort e) else None) → same ≡ true
index_by true e h = refl
index_by false e h = cc

pub index_known : (m : Table) (i : Atom) → IsTrue (has_scalar i (scalar_of i)) → IsSome (select_sort (Some (MapSort m.index m.elem)) (Some (scalar_of i))) → IsTrue (has_scalar i m.index)
index_known m i k h =
    subst (λ s. IsTrue (has_scalar i s)) (same_scalar_is (scalar_of i) m.index (index_by (same_scalar (scalar_of i) m.index) m.elem h)) k

written_ask : (same : Bool) (s : Sort) → IsSome (if same then Some s else None) → same ≡ true
written_ask true s h = refl
written_ask false s h = cc

pub written_known : (m : Table) (i v : Atom) → IsTrue (has_scalar i (scalar_of i)) → IsTrue (has_scalar v (scalar_of v))
    → IsSome (store_sort (Some (MapSort m.index m.elem)) (Some (scalar_of i)) (Some (scalar_of v))) → IsTrue (has_scalar i m.index) × IsTrue (has_scalar v m.elem)
written_known m i v ki kv h =
    let both : IsTrue (same_scalar (scalar_of i) m.index && same_scalar (scalar_of v) m.elem) =
    written_ask (same_scalar (scalar_of i) m.index && same_scalar (scalar_of v) m.elem) (MapSort m.index m.elem) h in (
      subst (λ s. IsTrue (has_scalar i s)) (same_scalar_is (scalar_of i) m.index (left (same_scalar (scalar_of i) m.index) (same_scalar (scalar_of v) m.elem) both)) ki,
      subst (λ s. IsTrue (has_scalar v s)) (same_scalar_is (scalar_of v) m.elem (right (same_scalar (scalar_of i) m.index) (same_scalar (scalar_of v) m.elem) both)) kv,
    )

-- the sorts of select and store by the atoms that are read
select_ask : (o p : Option Value) → IsSome (select_sort (option_map sort_of o) (as_scalar (option_map sort_of p))) → IsSome (select_sort (option_map sort_of o) (Some (scalar_of (atom_of (default p)))))
select_ask None p h = cc
select_ask (Some (AtomValue a)) p h = cc
select_ask (Some (MapValue m)) None h = cc
select_ask (Some (MapValue m)) (Some (AtomValue i)) h = h
select_ask (Some (MapValue m)) (Some (MapValue n)) h = cc

pub select_known : (known : List Value) (m k : ℕ) (i : Atom) → i ≡ atom_of (at known k) → IsSome (select_sort (slice_get (map sort_of known) m) (as_scalar (slice_get (map sort_of known) k)))
    → IsSome (select_sort (option_map sort_of (slice_get known m)) (Some (scalar_of i)))
select_known known m k i is h =
    subst (λ x. IsSome (select_sort (option_map sort_of (slice_get known m)) (Some (scalar_of x)))) (sym is)
    (select_ask (slice_get known m) (slice_get known k)
    (subst (λ o. IsSome (select_sort o (as_scalar (option_map sort_of (slice_get known k))))) (slice_get-map sort_of known m)
    (subst (λ o. IsSome (select_sort (slice_get (map sort_of known) m) (as_scalar o))) (slice_get-map sort_of known k) h)))

store_ask : (o p q : Option Value) → IsSome (store_sort (option_map sort_of o) (as_scalar (option_map sort_of p)) (as_scalar (option_map sort_of q)))
    → IsSome (store_sort (option_map sort_of o) (Some (scalar_of (atom_of (default p)))) (Some (scalar_of (atom_of (default q)))))
store_ask None p q h = cc
store_ask (Some (AtomValue a)) p q h = cc
store_ask (Some (MapValue m)) None q h = cc
store_ask (Some (MapValue m)) (Some (AtomValue i)) None h = cc
store_ask (Some (MapValue m)) (Some (AtomValue i)) (Some (AtomValue v)) h = h
store_ask (Some (MapValue m)) (Some (AtomValue i)) (Some (MapValue n)) h = cc
store_ask (Some (MapValue m)) (Some (MapValue n)) q h = cc

pub store_known : (known : List Value) (m k l : ℕ) (i v : Atom) → i ≡ atom_of (at known k) → v ≡ atom_of (at known l)
    → IsSome (store_sort (slice_get (map sort_of known) m) (as_scalar (slice_get (map sort_of known) k)) (as_scalar (slice_get (map sort_of known) l)))
    → IsSome (store_sort (option_map sort_of (slice_get known m)) (Some (scalar_of i)) (Some (scalar_of v)))
store_known known m k l i v is_i is_v h =
    subst (λ x. IsSome (store_sort (option_map sort_of (slice_get known m)) (Some (scalar_of x)) (Some (scalar_of v)))) (sym is_i)
    (subst (λ y. IsSome (store_sort (option_map sort_of (slice_get known m)) (Some (scalar_of (atom_of (at known k)))) (Some (scalar_of y)))) (sym is_v)
    (store_ask (slice_get known m) (slice_get known k) (slice_get known l)
    (subst (λ o. IsSome (store_sort o (as_scalar (option_map sort_of (slice_get known k))) (as_scalar (option_map sort_of (slice_get known l))))) (slice_get-map sort_of known m)
    (subst (λ o. IsSome (store_sort (slice_get (map sort_of known) m) (as_scalar o) (as_scalar (option_map sort_of (slice_get known l))))) (slice_get-map sort_of known k)
    (subst (λ o. IsSome (store_sort (slice_get (map sort_of known) m) (as_scalar (slice_get (map sort_of known) k)) (as_scalar o))) (slice_get-map sort_of known l) h)))))

-- ---- the sort of a node's value

abbrev pub all_kept : List Value → Type 0
all_kept [] = Unit {0}
all_kept (v ∷ vs) = kept v × all_kept vs

pub kept_at : (vs : List Value) (k : ℕ) → all_kept vs → kept (default (slice_get vs k))
kept_at [] k h = refl
kept_at (v ∷ vs) zero h = h.0
kept_at (v ∷ vs) (suc k) h = kept_at vs k h.1

pub kept_push : (vs : List Value) (v : Value) → all_kept vs → kept v → all_kept (vs ++ v ∷ [])
kept_push [] v h k = (k, tt)
kept_push (w ∷ vs) v h k = (h.0, kept_push vs v h.1 k)

lit_by : (b : Bool) (t s : Sort) → (if b then Some t else None) ≡ Some s → t ≡ s
lit_by true t s h = cc
lit_by false t s h = cc

read_by : (o : Option Value) (sort : Sort) → IsTrue (is_there o sort) → sort_of (default o) ≡ sort
read_by None sort h = cc
read_by (Some v) sort h = has_sort_is v sort h

pub node_sorted : (env : Env) (known : List Value) (node : ExprNode) (s : Sort) → all_kept known → IsTrue (node_reads env node)
    → sort_of_node (map sort_of known) node ≡ Some s → sort_of (node_by (read env) known node) ≡ s
node_sorted env known (Lit a) s k r h = lit_by (has_scalar a (scalar_of a)) (ScalarSort (scalar_of a)) s h
node_sorted env known (Read x sort) s k r h = read_by (variable env x) sort r ∙ lit_by (is_sort sort) sort s h
node_sorted env known (Unary op child) s k r h =
    unary_value_sorted op (slice_get known child) s (subst (λ o. unary_sort op (as_scalar o) ≡ Some s) (slice_get-map sort_of known child) h)
node_sorted env known (Binary op l m) s k r h =
    binary_value_sorted op (slice_get known l) (slice_get known m) s
    (subst (λ o. binary_sort op (as_scalar o) (as_scalar (option_map sort_of (slice_get known m))) ≡ Some s) (slice_get-map sort_of known l)
    (subst (λ o. binary_sort op (as_scalar (slice_get (map sort_of known) l)) (as_scalar o) ≡ Some s) (slice_get-map sort_of known m) h))
node_sorted env known (If c y n) s k r h =
    pick_sorted (slice_get known c) (slice_get known y) (slice_get known n) s
    (subst (λ o. if_sort (as_scalar o) (option_map sort_of (slice_get known y)) (option_map sort_of (slice_get known n)) ≡ Some s) (slice_get-map sort_of known c)
    (subst (λ o. if_sort (as_scalar (slice_get (map sort_of known) c)) o (option_map sort_of (slice_get known n)) ≡ Some s) (slice_get-map sort_of known y)
    (subst (λ o. if_sort (as_scalar (slice_get (map sort_of known) c)) (slice_get (map sort_of known) y) o ≡ Some s) (slice_get-map sort_of known n) h)))
node_sorted env known (Select m i) s k r h =
    select_sorted (slice_get known m) (slice_get known i) s (kept_at known m k)
    (subst (λ o. select_sort o (as_scalar (option_map sort_of (slice_get known i))) ≡ Some s) (slice_get-map sort_of known m)
    (subst (λ o. select_sort (slice_get (map sort_of known) m) (as_scalar o) ≡ Some s) (slice_get-map sort_of known i) h))
node_sorted env known (Store m i v) s k r h =
    store_sorted (slice_get known m) (slice_get known i) (slice_get known v) s
    (subst (λ o. store_sort o (as_scalar (option_map sort_of (slice_get known i))) (as_scalar (option_map sort_of (slice_get known v))) ≡ Some s) (slice_get-map sort_of known m)
    (subst (λ o. store_sort (slice_get (map sort_of known) m) (as_scalar o) (as_scalar (option_map sort_of (slice_get known v))) ≡ Some s) (slice_get-map sort_of known i)
    (subst (λ o. store_sort (slice_get (map sort_of known) m) (as_scalar (slice_get (map sort_of known) i)) (as_scalar o) ≡ Some s) (slice_get-map sort_of known v) h)))

-- ---- over the nodes

-- what holds before each node: the values so far are those of the nodes so far, and the rest fits behind them
pub record Evaluates (env : Env) (nodes : List ExprNode) (values : List Value) (rest : List ExprNode) : Type 0 where
  pub whole : values_by (read env) values rest ≡ values_by (read env) [] nodes
  pub sorts : IsSome (sorts_onto (map sort_of values) rest)
  pub variables : IsTrue (reads env rest)
  pub each : all_kept values

some_first : (f : Sort → Option (List Sort)) (o : Option Sort) → IsSome (option_and_then f o) → IsSome o
some_first f None h = cc
some_first f (Some s) h = refl

-- the next node fits
pub next_fits : (env : Env) (nodes : List ExprNode) (values : List Value) (node : ExprNode) (rest : List ExprNode) → Evaluates env nodes values (node ∷ rest) → IsSome (sort_of_node (map sort_of values) node)
next_fits env nodes values node rest e = some_first (λ s. sorts_onto (map sort_of values ++ s ∷ []) rest) (sort_of_node (map sort_of values) node) e.sorts

sorts_next : (o : Option Sort) (known : List Sort) (rest : List ExprNode) (t : Sort) → ((s : Sort) → o ≡ Some s → t ≡ s)
    → IsSome (option_and_then (λ s. sorts_onto (known ++ s ∷ []) rest) o) → IsSome (sorts_onto (known ++ t ∷ []) rest)
sorts_next None known rest t same h = cc
sorts_next (Some s) known rest t same h = subst (λ x. IsSome (sorts_onto (known ++ x ∷ []) rest)) (sym (same s refl)) h

-- one node further
pub next_node : (env : Env) (nodes : List ExprNode) (values : List Value) (node : ExprNode) (rest : List ExprNode) (v : Value) → Evaluates env nodes values (node ∷ rest)
    → v ≡ node_by (read env) values node → kept v → Evaluates env nodes (values ++ v ∷ []) rest
next_node env nodes values node rest v e is k =
    record {
      whole = ap (λ w. values_by (read env) (values ++ w ∷ []) rest) is ∙ e.whole;
      sorts =
          subst (λ xs. IsSome (sorts_onto xs rest)) (sym (map-append sort_of values (v ∷ [])))
          (sorts_next (sort_of_node (map sort_of values) node) (map sort_of values) rest (sort_of v)
          (λ s h. ap sort_of is ∙ node_sorted env values node s e.each (left (node_reads env node) (reads env rest) e.variables) h) e.sorts);
      variables = right (node_reads env node) (reads env rest) e.variables;
      each = kept_push values v e.each k;
    }

-- at an index of the nodes
pub at_node : (env : Env) (nodes : List ExprNode) (values : List Value) (k : ℕ) (d node : ExprNode) → k < length nodes → node ≡ get_or nodes k d
    → Evaluates env nodes values (drop k nodes) → Evaluates env nodes values (node ∷ drop (k + 1) nodes)
at_node env nodes values k d node within is e =
    let next : suc k ≡ k + 1 = omega arith in
    subst (λ (ns : List ExprNode). Evaluates env nodes values ns)
    (drop-cons nodes k d within ∙ ap (λ n. n ∷ drop (suc k) nodes) (sym is) ∙ ap (λ j. node ∷ drop j nodes) next) e

pub length-values_by : (look : Var → Value) (known : List Value) (nodes : List ExprNode) → length (values_by look known nodes) ≡ length known + length nodes
length-values_by look known [] = omega arith
length-values_by look known (node ∷ nodes) =
    let one : length (known ++ node_by look known node ∷ []) ≡ length known + 1 = length-append known (node_by look known node ∷ []) in
    let rest : length (values_by look (known ++ node_by look known node ∷ []) nodes) ≡ length (known ++ node_by look known node ∷ []) + length nodes =
    length-values_by look (known ++ node_by look known node ∷ []) nodes in
    omega arith

at-last : (vs : List Value) (v : Value) → at (vs ++ v ∷ []) (length vs) ≡ v
at-last [] v = refl
at-last (w ∷ vs) v = at-last vs v

-- the last value is the whole's
pub last_is : (env : Env) (nodes : List ExprNode) (vs : List Value) (v : Value) → values_by (read env) [] nodes ≡ vs ++ v ∷ [] → v ≡ eval env nodes
last_is env nodes vs v is =
    let many : length (values_by (read env) [] nodes) ≡ length {A = Value} [] + length nodes = length-values_by (read env) [] nodes in
    let count : length (values_by (read env) [] nodes) ≡ length (vs ++ v ∷ []) = ap length is in
    let more : length (vs ++ v ∷ []) ≡ length vs + 1 = length-append vs (v ∷ []) in
    let place : length nodes - 1 ≡ length vs = omega arith in
    sym (ap (λ xs. at xs (length nodes - 1)) is ∙ ap (λ j. at (vs ++ v ∷ []) j) place ∙ at-last vs v)
