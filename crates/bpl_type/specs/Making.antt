-- Lists of nodes in the making, and functions whose bodies are lists of nodes.
use Rattle.std.specs.Prelude.{ℕ, ◌-◌, nat_lt, List, [], ◌∷◌, ◌++◌, length, map, fold, position, slice_get, slice_index, unwrap_or, Option, None, Some, if◌then◌else◌}
use Rattle.std.specs.Option.{option_and_then}
use Rattle.std.specs.Str.{bytes_eq}
use Rattle.hy_val.specs.declared.expr.ExprNode.{ExprNode}
use Rattle.hy_val.specs.declared.expr.ExprNode.TheVariants as nodes
use Rattle.bpl_ast.specs.declared.decl.Ast.{Ast}
use Rattle.bpl_ast.specs.declared.decl.Function.{Function}
use Rattle.bpl_ast.specs.declared.expr.Expr.{Expr}
use Rattle.hy_val.specs.declared.expr.Var.TheVariants.{Local}
use Rattle.bpl_type.specs.declared.nodes.Join.{Join}
use Rattle.bpl_type.specs.declared.nodes.Join.TheVariants.{Plain, Swapped}
use Rattle.type_pass.specs.declared.tables.Scope.{Scope}
use Rattle.type_pass.specs.declared.tables.Tables.{Tables}
use Rattle.type_pass.specs.Declarations.{synonyms, functions}
use Rattle.type_pass.specs.Replaced.{Use, used, term_by, term_of, body_term}
use Rattle.type_pass.specs.Scopes.{tables_of, signature_of, function_scope, function_named}
use Rattle.type_pass.specs.Terms.{Term, lit, read, unary, binary, implied, choice, select, store, nodes_from, nodes_of, missing}

-- the nodes with those of a term behind them
unfoldable pub with_term : List ExprNode → Term → List ExprNode
with_term out t = out ++ nodes_from (length out) t

-- a node with other numbers for its operands
abbrev pub renumbered : (ℕ → ℕ) → ExprNode → ExprNode
renumbered f (nodes.Lit a) = nodes.Lit a
renumbered f (nodes.Var x sort) = nodes.Var x sort
renumbered f (nodes.Unary op child) = nodes.Unary op (f child)
renumbered f (nodes.Binary op left right) = nodes.Binary op (f left) (f right)
renumbered f (nodes.If test one other) = nodes.If (f test) (f one) (f other)
renumbered f (nodes.Select map index) = nodes.Select (f map) (f index)
renumbered f (nodes.Store map index value) = nodes.Store (f map) (f index) (f value)

-- ---- the term that a list of nodes is

abbrev pub term_at : List Term → ℕ → Term
term_at known i = unwrap_or (slice_get known i) missing

-- the term of a node behind nodes of known terms; the conclusion of `a <== b` stands before its premise
abbrev pub term_next : List Term → ExprNode → Term
term_next known (nodes.Lit a) = lit a
term_next known (nodes.Var x sort) = read x sort
term_next known (nodes.Unary op child) = unary op (term_at known child)
term_next known (nodes.Binary op left right) =
    if nat_lt left right then binary op (term_at known left) (term_at known right) else implied (term_at known right) (term_at known left)
term_next known (nodes.If test one other) = choice (term_at known test) (term_at known one) (term_at known other)
term_next known (nodes.Select map index) = select (term_at known map) (term_at known index)
term_next known (nodes.Store map index value) = store (term_at known map) (term_at known index) (term_at known value)

-- the terms of all nodes
abbrev pub terms_of : List ExprNode → List Term
terms_of nodes = fold (λ known node. known ++ term_next known node ∷ []) [] nodes

-- the term of the last node, which is the whole
unfoldable pub read_back : List ExprNode → Term
read_back nodes = term_at (terms_of nodes) (length nodes - 1)

-- ---- uses of functions

-- the body of a function by its name, where bodies stand in the order of the functions
abbrev pub body_nodes : Tables → List (List ExprNode) → List ℕ → List ExprNode
body_nodes tables bodies text = unwrap_or (option_and_then (slice_get bodies) (position (λ f. bytes_eq text f.name) tables.functions)) (nodes_of missing)

-- what uses of functions with these bodies make of their arguments
unfoldable pub use_with : Tables → List (List ExprNode) → Use
use_with tables bodies text arguments = used (function_named tables text) arguments (λ f. read_back (body_nodes tables bodies text))

-- the term of an expression where functions have these bodies
abbrev pub term_with : Tables → List (List ExprNode) → Scope → Expr → Term
term_with tables bodies scope = term_by (use_with tables bodies) tables scope

-- the bodies of the functions of a program, in their order
abbrev pub body_of : Ast → Function → List ExprNode
body_of ast f = nodes_of (body_term (term_of (tables_of ast) (functions ast) (function_scope (signature_of (synonyms ast) f))) f.body)

abbrev pub bodies_of : Ast → List (List ExprNode)
bodies_of ast = map (body_of ast) (functions ast)

-- ---- terms in place of the locals of a body

-- the argument that stands for a node
abbrev pub argument_for : List (List ExprNode) → ExprNode → Option (List ExprNode)
argument_for arguments (nodes.Var (Local n) sort) = slice_get arguments n
argument_for arguments _ = None

abbrev pub placed_as : Option (List ExprNode) → List ℕ → List ExprNode → ExprNode → List ExprNode
placed_as None places out node = out ++ renumbered (λ c. slice_index places c) node ∷ []
placed_as (Some made) places out node = with_term out (read_back made)

-- a node of a body, or its argument, behind the nodes so far, where the nodes before it have these places
abbrev pub placed : List (List ExprNode) → List ℕ → List ExprNode → ExprNode → List ExprNode
placed arguments places out node = placed_as (argument_for arguments node) places out node

-- ---- how two operands are joined
abbrev pub join_term : Join → Term → Term → Term
join_term (Plain op) = binary op
join_term Swapped = implied
