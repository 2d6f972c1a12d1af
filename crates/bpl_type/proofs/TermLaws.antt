-- The list of nodes of a term: how long it is, and the sorts of its nodes.
use Rattle.std.proofs.Common.{◌≡◌, ℕ, zero, suc, ◌+◌, ◌-◌, ◌<◌, true, false, List, [], ◌∷◌, ◌++◌, length, slice_get, Option, Some, None, refl, sym, ◌∙◌, ap, subst, arith, append_assoc, length-append, zero-add}
use Rattle.std.proofs.lemmas.List.{append-nil}
use Rattle.std.specs.Option.{option_and_then}
use Rattle.hy_val.specs.Exprs.{sort_of_node, sorts_onto, is_empty, is_expr}
use Rattle.hy_val.specs.NodeSorts.{as_scalar, unary_sort, binary_sort, if_sort, select_sort, store_sort, written_sort}
use Rattle.hy_val.specs.declared.expr.ExprNode.{ExprNode}
use Rattle.hy_val.specs.declared.expr.ExprNode.TheVariants as nodes
use Rattle.hy_val.specs.declared.sort.Scalar.{Scalar}
use Rattle.hy_val.specs.declared.operator.BvOp.{BvOp}
use Rattle.hy_val.specs.declared.operator.BvOp.TheVariants.{Implies}
use Rattle.hy_val.specs.declared.sort.ScalarKind.TheVariants.{Bool as BoolSort, Bv as BvSort}
use Rattle.hy_val.specs.declared.sort.Sort.{Sort}
use Rattle.hy_val.specs.declared.sort.SortKind.TheVariants.{Scalar as ScalarSort, Map as MapSort}
use Rattle.bpl_type.specs.Laws.{expr_sort, AreNodesOf}
use Rattle.type_pass.specs.Terms.{Term, lit, read, unary, binary, implied, choice, select, store, size, nodes_from, nodes_of, term_sort}

-- ---- lengths

length-one : (xs : List ExprNode) (x : ExprNode) → length (xs ++ x ∷ []) ≡ length xs + 1
length-one xs x = length-append xs (x ∷ [])

length-two : (xs ys : List ExprNode) (x : ExprNode) → length (xs ++ ys ++ x ∷ []) ≡ length xs + length ys + 1
length-two xs ys x = length-one (xs ++ ys) x ∙ ap (λ n. n + 1) (length-append xs ys)

length-three : (xs ys zs : List ExprNode) (x : ExprNode) → length (xs ++ ys ++ zs ++ x ∷ []) ≡ length xs + length ys + length zs + 1
length-three xs ys zs x = length-one (xs ++ ys ++ zs) x ∙ ap (λ n. n + 1) (length-append (xs ++ ys) zs ∙ ap (λ n. n + length zs) (length-append xs ys))

-- the list has as many nodes as are counted
pub length-nodes : (n : ℕ) (t : Term) → length (nodes_from n t) ≡ size t
length-nodes n (lit a) = refl
length-nodes n (read x sort) = refl
length-nodes n (unary op a) = rw (length-one, length-nodes n a) refl
length-nodes n (binary op a b) = rw (length-two, length-nodes n a, length-nodes (n + size a) b) refl
length-nodes n (implied a b) = rw (length-two, length-nodes n a, length-nodes (n + size a) b) refl
length-nodes n (choice c a b) = rw (length-three, length-nodes n c, length-nodes (n + size c) a, length-nodes (n + size c + size a) b) refl
length-nodes n (select m i) = rw (length-two, length-nodes n m, length-nodes (n + size m) i) refl
length-nodes n (store m i v) = rw (length-three, length-nodes n m, length-nodes (n + size m) i, length-nodes (n + size m + size i) v) refl

-- ---- sorts

-- a list of nodes behind nodes of known sorts: the sorts of its nodes
pub record Made (known : List Sort) (ns : List ExprNode) (count : ℕ) : Type 0 where
  pub all : List Sort
  pub counted : length all ≡ count
  pub onto : (rest : List ExprNode) → sorts_onto known (ns ++ rest) ≡ sorts_onto (known ++ all) rest

-- the nodes of a term, of which the last has its sort
pub record Lands (known : List Sort) (t : Term) (s : Sort) : Type 0 where
  pub made : Made known (nodes_from (length known) t) (size t)
  pub last : slice_get (known ++ made.all) (length known + size t - 1) ≡ Some s

get_seam : (xs : List Sort) (s : Sort) (more : List Sort) (i : ℕ) → i ≡ length xs → slice_get (xs ++ s ∷ more) i ≡ Some s
get_seam [] s more i at = rw at refl
get_seam (x ∷ xs) s more i at = rw at (get_seam xs s more (length xs) refl)

get_more : (xs more : List Sort) (i : ℕ) (s : Sort) → slice_get xs i ≡ Some s → slice_get (xs ++ more) i ≡ Some s
get_more [] more i s h = cc
get_more (x ∷ xs) more zero s h = h
get_more (x ∷ xs) more (suc i) s h = get_more xs more i s h

-- the same where the list is longer in the middle
get_wider : (known all more : List Sort) (i : ℕ) (s : Sort) → slice_get (known ++ all) i ≡ Some s → slice_get (known ++ (all ++ more)) i ≡ Some s
get_wider known all more i s h = subst (λ xs. slice_get xs i ≡ Some s) (append_assoc known all more) (get_more (known ++ all) more i s h)

nothing_made : (known : List Sort) → Made known [] 0
nothing_made known = record { all = []; counted = refl; onto = λ rest. ap (λ xs. sorts_onto xs rest) (sym (append-nil known)) }

joined : (known : List Sort) (ms ns : List ExprNode) (j k : ℕ) (m : Made known ms j) → Made (known ++ m.all) ns k → Made known (ms ++ ns) (j + k)
joined known ms ns j k m n = record {
  all = m.all ++ n.all;
  counted = length-append m.all n.all ∙ omega (arith, m.counted, n.counted);
  onto = λ rest. ap (sorts_onto known) (append_assoc ms ns rest) ∙ m.onto (ns ++ rest) ∙ n.onto rest ∙ ap (λ xs. sorts_onto xs rest) (append_assoc known m.all n.all);
}

one_more : (known : List Sort) (u : ExprNode) (s : Sort) (rest : List ExprNode) → sort_of_node known u ≡ Some s → sorts_onto known (u ∷ rest) ≡ sorts_onto (known ++ s ∷ []) rest
one_more known u s rest h = ap (option_and_then (λ v. sorts_onto (known ++ v ∷ []) rest)) h

ended : (known : List Sort) (ns : List ExprNode) (k : ℕ) (u : ExprNode) (s : Sort) (m : Made known ns k) → sort_of_node (known ++ m.all) u ≡ Some s → Made known (ns ++ u ∷ []) (k + 1)
ended known ns k u s m h = record {
  all = m.all ++ s ∷ [];
  counted = length-append m.all (s ∷ []) ∙ omega (arith, m.counted);
  onto = λ rest. ap (sorts_onto known) (append_assoc ns (u ∷ []) rest) ∙ m.onto (u ∷ rest) ∙ one_more (known ++ m.all) u s rest h ∙ ap (λ xs. sorts_onto xs rest) (append_assoc known m.all (s ∷ []));
}

-- what ends in a node of a sort has that sort at its end
ends_so : (known all : List Sort) (s : Sort) (k i : ℕ) → length all ≡ k → i ≡ length known + k → slice_get (known ++ (all ++ s ∷ [])) i ≡ Some s
ends_so known all s k i counted at =
    subst (λ xs. slice_get xs i ≡ Some s) (append_assoc known all (s ∷ [])) (get_seam (known ++ all) s [] i (at ∙ omega (arith, counted, length-append known all)))

-- the same term behind as many nodes
moved : (known : List Sort) (t : Term) (s : Sort) (n : ℕ) → length known ≡ n → (l : Lands known t s) → Made known (nodes_from n t) (size t)
moved known t s n at l = record { all = l.made.all; counted = l.made.counted; onto = λ rest. ap (λ v. sorts_onto known (nodes_from v t ++ rest)) (sym at) ∙ l.made.onto rest }

-- ---- operands

-- a sort that is there, where a test of it is passed
pub there : (o : Option Sort) (test : Option Sort → Option Sort) (s : Sort) → test None ≡ None → test o ≡ Some s → (x : Sort) × (o ≡ Some x)
there None test s none h = absurd (cc)
there (Some x) test s none h = (x, refl)

pub binary-none : (op : BvOp) (o : Option Scalar) → binary_sort op o None ≡ None
binary-none op None = refl
binary-none op (Some x) = refl

pub select-none : (o : Option Sort) → select_sort o None ≡ None
select-none None = refl
select-none (Some (ScalarSort x)) = refl
select-none (Some (MapSort index elem)) = refl

pub if-none : (o : Option Scalar) (one : Option Sort) → if_sort o one None ≡ None
if-none None one = refl
if-none (Some BoolSort) None = refl
if-none (Some BoolSort) (Some s) = refl
if-none (Some (BvSort w)) one = refl

pub if-nothing : (o : Option Scalar) (other : Option Sort) → if_sort o None other ≡ None
if-nothing None other = refl
if-nothing (Some BoolSort) other = refl
if-nothing (Some (BvSort w)) other = refl

written-none : (index elem : Scalar) (o : Option Scalar) → written_sort index elem o None ≡ None
written-none index elem None = refl
written-none index elem (Some x) = refl

pub store-none : (m : Option Sort) (o : Option Scalar) → store_sort m o None ≡ None
store-none None o = refl
store-none (Some (ScalarSort x)) o = refl
store-none (Some (MapSort index elem)) o = written-none index elem o

pub store-nothing : (m : Option Sort) (o : Option Scalar) → store_sort m None o ≡ None
store-nothing None o = refl
store-nothing (Some (ScalarSort x)) o = refl
store-nothing (Some (MapSort index elem)) o = refl

-- what is made of two terms, and where their own nodes stand in it
record Two (known : List Sort) (a b : Term) (x y : Sort) : Type 0 where
  pub made : Made known (nodes_from (length known) a ++ nodes_from (length known + size a) b) (size a + size b)
  pub one : slice_get (known ++ made.all) (length known + size a - 1) ≡ Some x
  pub two : slice_get (known ++ made.all) (length known + size a + size b - 1) ≡ Some y

-- the length of the sorts up to the end of a term
behind : (known : List Sort) (t : Term) (s : Sort) (l : Lands known t s) → length (known ++ l.made.all) ≡ length known + size t
behind known t s l = length-append known l.made.all ∙ ap (λ n. length known + n) l.made.counted

two_of : (known : List Sort) (a b : Term) (x y : Sort) (la : Lands known a x) → Lands (known ++ la.made.all) b y → Two known a b x y
unfolding joined moved
two_of known a b x y la lb =
    let at : length (known ++ la.made.all) ≡ length known + size a = behind known a x la in
    record {
      made = joined known _ _ (size a) (size b) la.made (moved (known ++ la.made.all) b y (length known + size a) at lb);
      one = get_wider known la.made.all lb.made.all (length known + size a - 1) x la.last;
      two = subst (λ xs. slice_get xs (length known + size a + size b - 1) ≡ Some y) (append_assoc known la.made.all lb.made.all)
          (subst (λ n. slice_get ((known ++ la.made.all) ++ lb.made.all) (n + size b - 1) ≡ Some y) at lb.last);
    }

-- what is made of three terms
record Three (known : List Sort) (a b c : Term) (x y z : Sort) : Type 0 where
  pub made : Made known (nodes_from (length known) a ++ nodes_from (length known + size a) b ++ nodes_from (length known + size a + size b) c) (size a + size b + size c)
  pub one : slice_get (known ++ made.all) (length known + size a - 1) ≡ Some x
  pub two : slice_get (known ++ made.all) (length known + size a + size b - 1) ≡ Some y
  pub three : slice_get (known ++ made.all) (length known + size a + size b + size c - 1) ≡ Some z

behind_two : (known : List Sort) (a b : Term) (x y : Sort) (l : Two known a b x y) → length (known ++ l.made.all) ≡ length known + size a + size b
behind_two known a b x y l = length-append known l.made.all ∙ omega (arith, l.made.counted)

three_of : (known : List Sort) (a b c : Term) (x y z : Sort) (l : Two known a b x y) → Lands (known ++ l.made.all) c z → Three known a b c x y z
unfolding joined moved
three_of known a b c x y z l lc =
    let at : length (known ++ l.made.all) ≡ length known + size a + size b = behind_two known a b x y l in
    record {
      made = joined known _ _ (size a + size b) (size c) l.made (moved (known ++ l.made.all) c z (length known + size a + size b) at lc);
      one = get_wider known l.made.all lc.made.all (length known + size a - 1) x l.one;
      two = get_wider known l.made.all lc.made.all (length known + size a + size b - 1) y l.two;
      three = subst (λ xs. slice_get xs (length known + size a + size b + size c - 1) ≡ Some z) (append_assoc known l.made.all lc.made.all)
          (subst (λ n. slice_get ((known ++ l.made.all) ++ lc.made.all) (n + size c - 1) ≡ Some z) at lc.last);
    }

-- ---- the law: the nodes of a term whose sorts fit are an expression, whose last node has its sort

node_of : (known : List Sort) (ns : List ExprNode) (k : ℕ) (u : ExprNode) (s : Sort) (m : Made known ns k) → sort_of_node (known ++ m.all) u ≡ Some s
    → (made : Made known (ns ++ u ∷ []) (k + 1)) × (slice_get (known ++ made.all) (length known + (k + 1) - 1) ≡ Some s)
unfolding ended
node_of known ns k u s m h = (ended known ns k u s m h, ends_so known m.all s k (length known + (k + 1) - 1) m.counted (omega arith))

leaf_of : (known : List Sort) (u : ExprNode) (s : Sort) → sort_of_node known u ≡ Some s
    → (made : Made known (u ∷ []) 1) × (slice_get (known ++ made.all) (length known + 1 - 1) ≡ Some s)
leaf_of known u s h = (record { all = s ∷ []; counted = refl; onto = λ rest. one_more known u s rest h }, get_seam known s [] (length known + 1 - 1) (omega arith))

pub lands : (t : Term) (s : Sort) → term_sort t ≡ Some s → (known : List Sort) → Lands known t s
lands (lit a) s h known = let l = leaf_of known (nodes.Lit a) s h in record { made = l.0; last = l.1 }
lands (read x sort) s h known = let l = leaf_of known (nodes.Var x sort) s h in record { made = l.0; last = l.1 }
lands (unary op a) s h known =
    let x = there (term_sort a) (λ o. unary_sort op (as_scalar o)) s refl h in
    let la = lands a x.0 x.1 known in
    let l = node_of known (nodes_from (length known) a) (size a) (nodes.Unary op (length known + size a - 1)) s la.made
    (ap (λ o. unary_sort op (as_scalar o)) (la.last ∙ sym x.1) ∙ h) in
    record { made = l.0; last = l.1 }
lands (binary op a b) s h known =
    let x = there (term_sort a) (λ o. binary_sort op (as_scalar o) (as_scalar (term_sort b))) s refl h in
    let y = there (term_sort b) (λ o. binary_sort op (as_scalar (term_sort a)) (as_scalar o)) s (binary-none op (as_scalar (term_sort a))) h in
    let la = lands a x.0 x.1 known in
    let l2 = two_of known a b x.0 y.0 la (lands b y.0 y.1 (known ++ la.made.all)) in
    let l = node_of known (nodes_from (length known) a ++ nodes_from (length known + size a) b) (size a + size b)
    (nodes.Binary op (length known + size a - 1) (length known + size a + size b - 1)) s l2.made
    (ap (λ o. binary_sort op (as_scalar o) (as_scalar (slice_get (known ++ l2.made.all) (length known + size a + size b - 1)))) (l2.one ∙ sym x.1)
    ∙ ap (λ o. binary_sort op (as_scalar (term_sort a)) (as_scalar o)) (l2.two ∙ sym y.1) ∙ h) in
    record { made = l.0; last = l.1 }
lands (implied a b) s h known =
    let x = there (term_sort a) (λ o. binary_sort Implies (as_scalar (term_sort b)) (as_scalar o)) s (binary-none Implies (as_scalar (term_sort b))) h in
    let y = there (term_sort b) (λ o. binary_sort Implies (as_scalar o) (as_scalar (term_sort a))) s refl h in
    let la = lands a x.0 x.1 known in
    let l2 = two_of known a b x.0 y.0 la (lands b y.0 y.1 (known ++ la.made.all)) in
    let l = node_of known (nodes_from (length known) a ++ nodes_from (length known + size a) b) (size a + size b)
    (nodes.Binary Implies (length known + size a + size b - 1) (length known + size a - 1)) s l2.made
    (ap (λ o. binary_sort Implies (as_scalar o) (as_scalar (slice_get (known ++ l2.made.all) (length known + size a - 1)))) (l2.two ∙ sym y.1)
    ∙ ap (λ o. binary_sort Implies (as_scalar (term_sort b)) (as_scalar o)) (l2.one ∙ sym x.1) ∙ h) in
    record { made = l.0; last = l.1 }
lands (choice c a b) s h known =
    let x = there (term_sort c) (λ o. if_sort (as_scalar o) (term_sort a) (term_sort b)) s refl h in
    let y = there (term_sort a) (λ o. if_sort (as_scalar (term_sort c)) o (term_sort b)) s (if-nothing (as_scalar (term_sort c)) (term_sort b)) h in
    let z = there (term_sort b) (λ o. if_sort (as_scalar (term_sort c)) (term_sort a) o) s (if-none (as_scalar (term_sort c)) (term_sort a)) h in
    let lc = lands c x.0 x.1 known in
    let l2 = two_of known c a x.0 y.0 lc (lands a y.0 y.1 (known ++ lc.made.all)) in
    let l3 = three_of known c a b x.0 y.0 z.0 l2 (lands b z.0 z.1 (known ++ l2.made.all)) in
    let i = length known + size c - 1 in
    let j = length known + size c + size a - 1 in
    let k = length known + size c + size a + size b - 1 in
    let at : ℕ → Option Sort = slice_get (known ++ l3.made.all) in
    let l = node_of known (nodes_from (length known) c ++ nodes_from (length known + size c) a ++ nodes_from (length known + size c + size a) b) (size c + size a + size b)
    (nodes.If i j k) s l3.made
    (ap (λ o. if_sort (as_scalar o) (at j) (at k)) (l3.one ∙ sym x.1)
    ∙ ap (λ o. if_sort (as_scalar (term_sort c)) o (at k)) (l3.two ∙ sym y.1)
    ∙ ap (λ o. if_sort (as_scalar (term_sort c)) (term_sort a) o) (l3.three ∙ sym z.1) ∙ h) in
    record { made = l.0; last = l.1 }
lands (select m i) s h known =
    let x = there (term_sort m) (λ o. select_sort o (as_scalar (term_sort i))) s refl h in
    let y = there (term_sort i) (λ o. select_sort (term_sort m) (as_scalar o)) s (select-none (term_sort m)) h in
    let la = lands m x.0 x.1 known in
    let l2 = two_of known m i x.0 y.0 la (lands i y.0 y.1 (known ++ la.made.all)) in
    let l = node_of known (nodes_from (length known) m ++ nodes_from (length known + size m) i) (size m + size i)
    (nodes.Select (length known + size m - 1) (length known + size m + size i - 1)) s l2.made
    (ap (λ o. select_sort o (as_scalar (slice_get (known ++ l2.made.all) (length known + size m + size i - 1)))) (l2.one ∙ sym x.1)
    ∙ ap (λ o. select_sort (term_sort m) (as_scalar o)) (l2.two ∙ sym y.1) ∙ h) in
    record { made = l.0; last = l.1 }
lands (store m i v) s h known =
    let x = there (term_sort m) (λ o. store_sort o (as_scalar (term_sort i)) (as_scalar (term_sort v))) s refl h in
    let y = there (term_sort i) (λ o. store_sort (term_sort m) (as_scalar o) (as_scalar (term_sort v))) s (store-nothing (term_sort m) (as_scalar (term_sort v))) h in
    let z = there (term_sort v) (λ o. store_sort (term_sort m) (as_scalar (term_sort i)) (as_scalar o)) s (store-none (term_sort m) (as_scalar (term_sort i))) h in
    let lm = lands m x.0 x.1 known in
    let l2 = two_of known m i x.0 y.0 lm (lands i y.0 y.1 (known ++ lm.made.all)) in
    let l3 = three_of known m i v x.0 y.0 z.0 l2 (lands v z.0 z.1 (known ++ l2.made.all)) in
    let p = length known + size m - 1 in
    let j = length known + size m + size i - 1 in
    let k = length known + size m + size i + size v - 1 in
    let at : ℕ → Option Sort = slice_get (known ++ l3.made.all) in
    let l = node_of known (nodes_from (length known) m ++ nodes_from (length known + size m) i ++ nodes_from (length known + size m + size i) v) (size m + size i + size v)
    (nodes.Store p j k) s l3.made
    (ap (λ o. store_sort o (as_scalar (at j)) (as_scalar (at k))) (l3.one ∙ sym x.1)
    ∙ ap (λ o. store_sort (term_sort m) (as_scalar o) (as_scalar (at k))) (l3.two ∙ sym y.1)
    ∙ ap (λ o. store_sort (term_sort m) (as_scalar (term_sort i)) (as_scalar o)) (l3.three ∙ sym z.1) ∙ h) in
    record { made = l.0; last = l.1 }

-- ---- the law of the whole list

size-some : (t : Term) → 0 < size t
size-some (lit a) = omega arith
size-some (read x sort) = omega arith
size-some (unary op a) = omega arith
size-some (binary op a b) = omega arith
size-some (implied a b) = omega arith
size-some (choice c a b) = omega arith
size-some (select m i) = omega arith
size-some (store m i v) = omega arith

-- all nodes have sorts
whole : (t : Term) (s : Sort) (l : Lands [] t s) → sorts_onto [] (nodes_of t) ≡ Some l.made.all
whole t s l = ap (sorts_onto []) (sym (append-nil (nodes_of t))) ∙ l.made.onto []

some_nodes : (nodes : List ExprNode) → 0 < length nodes → is_empty nodes ≡ false
some_nodes [] h = absurd (omega arith)
some_nodes (n ∷ ns) h = refl

is_expr_if : (nodes : List ExprNode) (sorts : List Sort) → 0 < length nodes → sorts_onto [] nodes ≡ Some sorts → is_expr nodes ≡ true
is_expr_if nodes sorts some h = rw (some_nodes nodes some, h) refl

sort_if : (nodes : List ExprNode) (sorts : List Sort) (s : Sort) (i : ℕ) → length nodes ≡ i → sorts_onto [] nodes ≡ Some sorts → slice_get sorts (i - 1) ≡ Some s → expr_sort nodes ≡ Some s
sort_if nodes sorts s i at h k = rw (h, at) k

pub are_nodes : (t : Term) → AreNodesOf t
are_nodes t = record {
  counted = length-nodes 0 t;
  is_expr = λ s h. is_expr_if (nodes_of t) (lands t s h []).made.all (subst (λ n. 0 < n) (sym (length-nodes 0 t)) (size-some t)) (whole t s (lands t s h []));
  has_sort = λ s h. sort_if (nodes_of t) (lands t s h []).made.all s (size t) (length-nodes 0 t) (whole t s (lands t s h [])) (subst (λ i. slice_get (lands t s h []).made.all (i - 1) ≡ Some s) (zero-add (size t)) (lands t s h []).last);
}
