-- Expressions without functions, as trees, and the list of nodes that a tree is: in it the nodes of the operands stand first, from left to
-- right, before the node that uses them, and no node is shared by two uses.
use Rattle.std.specs.Prelude.{ℕ, ◌+◌, ◌-◌, Bool, false, List, [], ◌∷◌, ◌++◌, fold, slice_get, unwrap_or, Option}
use Rattle.hy_val.specs.NodeSorts.{as_scalar, unary_sort, binary_sort, if_sort, select_sort, store_sort}
use Rattle.hy_val.specs.Exprs.{sort_of_node}
use Rattle.hy_val.specs.declared.atom.Atom.{Atom}
use Rattle.hy_val.specs.declared.atom.AtomKind.TheVariants.{Bool as BoolAtom}
use Rattle.hy_val.specs.declared.expr.ExprNode.{ExprNode}
use Rattle.hy_val.specs.declared.expr.ExprNode.TheVariants as nodes
use Rattle.hy_val.specs.declared.expr.Var.{Var}
use Rattle.hy_val.specs.declared.expr.Var.TheVariants.{Const, Global, Local}
use Rattle.hy_val.specs.declared.operator.BvOp.{BvOp}
use Rattle.hy_val.specs.declared.operator.BvOp.TheVariants.{Implies}
use Rattle.hy_val.specs.declared.operator.UnOp.{UnOp}
use Rattle.hy_val.specs.declared.sort.Sort.{Sort}

pub data Term : Type 0 where
  lit : Atom → Term
  read : Var → Sort → Term
  unary : UnOp → Term → Term
  binary : BvOp → Term → Term → Term
  -- a <== b, which is b ==> a, with the operands in the order of the text
  implied : Term → Term → Term
  choice : Term → Term → Term → Term
  select : Term → Term → Term
  store : Term → Term → Term → Term

-- the number of nodes
abbrev pub size : Term → ℕ
size (lit a) = 1
size (read x sort) = 1
size (unary op a) = size a + 1
size (binary op a b) = size a + size b + 1
size (implied a b) = size a + size b + 1
size (choice c a b) = size c + size a + size b + 1
size (select m i) = size m + size i + 1
size (store m i v) = size m + size i + size v + 1

-- The nodes, where so many stand before. The whole is the last of them.
abbrev pub nodes_from : ℕ → Term → List ExprNode
nodes_from n (lit a) = nodes.Lit a ∷ []
nodes_from n (read x sort) = nodes.Var x sort ∷ []
nodes_from n (unary op a) = nodes_from n a ++ nodes.Unary op (n + size a - 1) ∷ []
nodes_from n (binary op a b) = nodes_from n a ++ nodes_from (n + size a) b ++ nodes.Binary op (n + size a - 1) (n + size a + size b - 1) ∷ []
nodes_from n (implied a b) = nodes_from n a ++ nodes_from (n + size a) b ++ nodes.Binary Implies (n + size a + size b - 1) (n + size a - 1) ∷ []
nodes_from n (choice c a b) =
    nodes_from n c ++ nodes_from (n + size c) a ++ nodes_from (n + size c + size a) b ++
    nodes.If (n + size c - 1) (n + size c + size a - 1) (n + size c + size a + size b - 1) ∷ []
nodes_from n (select m i) = nodes_from n m ++ nodes_from (n + size m) i ++ nodes.Select (n + size m - 1) (n + size m + size i - 1) ∷ []
nodes_from n (store m i v) =
    nodes_from n m ++ nodes_from (n + size m) i ++ nodes_from (n + size m + size i) v ++
    nodes.Store (n + size m - 1) (n + size m + size i - 1) (n + size m + size i + size v - 1) ∷ []

abbrev pub nodes_of : Term → List ExprNode
nodes_of t = nodes_from 0 t

-- the sort, and None where the sorts don't fit
abbrev pub term_sort : Term → Option Sort
term_sort (lit a) = sort_of_node [] (nodes.Lit a)
term_sort (read x sort) = sort_of_node [] (nodes.Var x sort)
term_sort (unary op a) = unary_sort op (as_scalar (term_sort a))
term_sort (binary op a b) = binary_sort op (as_scalar (term_sort a)) (as_scalar (term_sort b))
term_sort (implied a b) = binary_sort Implies (as_scalar (term_sort b)) (as_scalar (term_sort a))
term_sort (choice c a b) = if_sort (as_scalar (term_sort c)) (term_sort a) (term_sort b)
term_sort (select m i) = select_sort (term_sort m) (as_scalar (term_sort i))
term_sort (store m i v) = store_sort (term_sort m) (as_scalar (term_sort i)) (as_scalar (term_sort v))

-- what stands for a local of a function: its argument
abbrev pub local_term : List Term → Var → Sort → Term
local_term arguments (Const n) sort = read (Const n) sort
local_term arguments (Global n) sort = read (Global n) sort
local_term arguments (Local n) sort = unwrap_or (slice_get arguments n) (read (Local n) sort)

-- the term with arguments in place of the locals
abbrev pub substituted : List Term → Term → Term
substituted arguments (lit a) = lit a
substituted arguments (read x sort) = local_term arguments x sort
substituted arguments (unary op a) = unary op (substituted arguments a)
substituted arguments (binary op a b) = binary op (substituted arguments a) (substituted arguments b)
substituted arguments (implied a b) = implied (substituted arguments a) (substituted arguments b)
substituted arguments (choice c a b) = choice (substituted arguments c) (substituted arguments a) (substituted arguments b)
substituted arguments (select m i) = select (substituted arguments m) (substituted arguments i)
substituted arguments (store m i v) = store (substituted arguments m) (substituted arguments i) (substituted arguments v)

abbrev pub truth : Bool → Term
truth b = lit (BoolAtom b)

-- what stands for what isn't there; no typed program has it
abbrev pub missing : Term
missing = truth false

-- operands that group from the left
abbrev pub chain : (Term → Term → Term) → List Term → Term
chain join [] = missing
chain join (t ∷ ts) = fold join t ts
