-- The term that an expression is once each function is replaced by its meaning.
use Rattle.std.specs.Prelude.{ℕ, zero, suc, true, false, List, length, fold, find, slice_get, unwrap_or, Option, None, Some}
use Rattle.std.specs.Option.{option_and_then}
use Rattle.std.specs.Str.{bytes_eq}
use Rattle.bpl_ast.specs.declared.decl.Function.{Function}
use Rattle.bpl_ast.specs.declared.expr.Bracket.TheOpen.{Bracket-F, Expr-F}
use Rattle.bpl_ast.specs.declared.expr.Bracket.{Bracket}
use Rattle.bpl_ast.specs.declared.expr.Bracket.TheFolds.{fold-Expr, fold-Bracket}
use Rattle.bpl_ast.specs.declared.expr.Expr.{Expr}
use Rattle.hy_val.specs.Operators.{bits_atom}
use Rattle.hy_val.specs.declared.expr.Var.{Var}
use Rattle.hy_val.specs.declared.operator.BvOp.TheVariants.{And, Or, Implies, Iff, Eq, Ne, Concat}
use Rattle.hy_val.specs.declared.operator.UnOp.TheVariants.{Not, Extract}
use Rattle.hy_val.specs.declared.sort.Sort.{Sort}
use Rattle.type_pass.specs.declared.tables.Builtin.{Builtin}
use Rattle.type_pass.specs.declared.tables.Builtin.TheVariants.{Unary, Binary}
use Rattle.type_pass.specs.declared.tables.Meaning.{Meaning}
use Rattle.type_pass.specs.declared.tables.Meaning.TheVariants.{Body, Operator, Nothing}
use Rattle.type_pass.specs.declared.tables.Scope.{Scope}
use Rattle.type_pass.specs.declared.tables.Signature.{Signature}
use Rattle.type_pass.specs.declared.tables.Tables.{Tables}
use Rattle.type_pass.specs.Scopes.{find_name, function_named, function_scope}
use Rattle.type_pass.specs.Terms.{Term, lit, read, unary, binary, implied, choice, select, store, truth, missing, chain, substituted}

-- what a function, by its name, makes of the terms of its arguments
abbrev pub Use : Type 0
Use = List ℕ → List Term → Term

abbrev pub read_if : Option (Var × Sort) → Term
read_if None = missing
read_if (Some seen) = read seen.0 seen.1

abbrev pub bracket_node : Bracket-F (Term → Term) Term → Term → Term
bracket_node (Bracket-F.Select index) t = select t index
bracket_node (Bracket-F.Store index value) t = store t index value
bracket_node (Bracket-F.Extract high low) t = unary (Extract high low) t

abbrev pub term_node : Use → Tables → Scope → Expr-F (Term → Term) Term → Term
term_node use_of tables scope (Expr-F.True at) = truth true
term_node use_of tables scope (Expr-F.False at) = truth false
term_node use_of tables scope (Expr-F.Literal at width bits) = lit (bits_atom width bits)
term_node use_of tables scope (Expr-F.Variable name) = read_if (find_name tables scope name.text)
term_node use_of tables scope (Expr-F.Apply function arguments) = use_of function.text arguments
term_node use_of tables scope (Expr-F.Post at operand brackets) = fold (λ t bracket. bracket t) operand brackets
term_node use_of tables scope (Expr-F.Not at operand) = unary Not operand
term_node use_of tables scope (Expr-F.Concat at operands) = chain (binary Concat) operands
term_node use_of tables scope (Expr-F.Equal at left right) = binary Eq left right
term_node use_of tables scope (Expr-F.NotEqual at left right) = binary Ne left right
term_node use_of tables scope (Expr-F.And at operands) = chain (binary And) operands
term_node use_of tables scope (Expr-F.Or at operands) = chain (binary Or) operands
term_node use_of tables scope (Expr-F.Implies at left right) = binary Implies left right
term_node use_of tables scope (Expr-F.ImpliedBy at operands) = chain implied operands
term_node use_of tables scope (Expr-F.Equivalent at operands) = chain (binary Iff) operands
term_node use_of tables scope (Expr-F.Choice at condition one other) = choice condition one other

unfoldable pub term_by : Use → Tables → Scope → Expr → Term
term_by use_of tables scope = fold-Expr (Term → Term) Term bracket_node (term_node use_of tables scope)

-- what a bracket makes of what stands before it
unfoldable pub bracket_term : Use → Tables → Scope → Bracket → Term → Term
bracket_term use_of tables scope = fold-Bracket (Term → Term) Term bracket_node (term_node use_of tables scope)

-- ---- functions

abbrev pub argument : List Term → ℕ → Term
argument arguments n = unwrap_or (slice_get arguments n) missing

abbrev pub operated : Builtin → List Term → Term
operated (Unary op) arguments = unary op (argument arguments 0)
operated (Binary op) arguments = binary op (argument arguments 0) (argument arguments 1)

abbrev pub body_named : List Function → List ℕ → Option Expr
body_named functions text = option_and_then (λ f. f.body) (find (λ f. bytes_eq text f.name.text) functions)

-- a body, where its expression's term is known
abbrev pub body_term : (Expr → Term) → Option Expr → Term
body_term term None = missing
body_term term (Some body) = term body

abbrev pub meant : Meaning → List Term → Term → Term
meant Body arguments body = substituted arguments body
meant (Operator b) arguments body = operated b arguments
meant Nothing arguments body = missing

abbrev pub used : Option Signature → List Term → (Signature → Term) → Term
used None arguments body = missing
used (Some f) arguments body = meant f.meaning arguments (body f)

-- A use of a function: an operator of its arguments, or its body with the arguments in place of its own. Where no function lies on a circle of
-- uses, a chain of uses passes each function once at most, so it is no longer than there are functions.
abbrev pub use_within : ℕ → Tables → List Function → Use
use_within zero tables functions text arguments = missing
use_within (suc n) tables functions text arguments =
    used (function_named tables text) arguments (λ f. body_term (term_by (use_within n tables functions) tables (function_scope f)) (body_named functions text))

-- the term of an expression
abbrev pub term_of : Tables → List Function → Scope → Expr → Term
term_of tables functions = term_by (use_within (length functions) tables functions) tables
