-- What an expression counts, by what its locals and the functions count.
use Rattle.std.specs.Prelude.{ℕ, ◌+◌, List, [], ◌∷◌, map, slice_get, unwrap_or, Option, None, Some}
use Rattle.bpl_ast.specs.declared.expr.Bracket.TheOpen.{Bracket-F, Expr-F}
use Rattle.bpl_ast.specs.declared.expr.Bracket.TheFolds.{fold-Expr, fold-Bracket}
use Rattle.bpl_ast.specs.declared.expr.Bracket.{Bracket}
use Rattle.bpl_ast.specs.declared.expr.Expr.{Expr}
use Rattle.hy_val.specs.declared.expr.Var.{Var}
use Rattle.hy_val.specs.declared.sort.Sort.{Sort}
use Rattle.type_pass.specs.declared.tables.Builtin.{Builtin}
use Rattle.type_pass.specs.declared.tables.Builtin.TheVariants.{Unary, Binary}
use Rattle.type_pass.specs.declared.tables.Meaning.{Meaning}
use Rattle.type_pass.specs.declared.tables.Meaning.TheVariants.{Body, Operator, Nothing}
use Rattle.type_pass.specs.declared.tables.Scope.{Scope}
use Rattle.type_pass.specs.declared.tables.Signature.{Signature}
use Rattle.type_pass.specs.declared.tables.Tables.{Tables}
use Rattle.bpl_type.specs.Counts.{weigh_read, affine_at}
use Rattle.type_pass.specs.Scopes.{find_name, function_named}

-- what something counts, by what the locals count
abbrev pub Weight : Type 0
Weight = (ℕ → ℕ) → ℕ

-- a base, and a slope for each argument
abbrev pub Affine : Type 0
Affine = ℕ × List ℕ

-- what each function, by its name, counts by its arguments
abbrev pub Templates : Type 0
Templates = List ℕ → Affine

-- an argument, which stays a local where it isn't there
abbrev pub argument_weight : (ℕ → ℕ) → List ℕ → ℕ → ℕ
argument_weight v arguments n = unwrap_or (slice_get arguments n) (v n)

-- an operand of an operator, which is one node where it isn't there
abbrev pub operand_weight : List ℕ → ℕ → ℕ
operand_weight arguments n = unwrap_or (slice_get arguments n) 1

abbrev pub operated_weight : Builtin → List ℕ → ℕ
operated_weight (Unary op) arguments = operand_weight arguments 0 + 1
operated_weight (Binary op) arguments = operand_weight arguments 0 + operand_weight arguments 1 + 1

abbrev pub meant_weight : Meaning → Affine → (ℕ → ℕ) → List ℕ → ℕ
meant_weight Body t v arguments = affine_at t.0 t.1 (argument_weight v arguments)
meant_weight (Operator b) t v arguments = operated_weight b arguments
meant_weight Nothing t v arguments = 1

abbrev pub used_weight : Option Signature → Affine → (ℕ → ℕ) → List ℕ → ℕ
used_weight None t v arguments = 1
used_weight (Some f) t v arguments = meant_weight f.meaning t v arguments

abbrev pub read_weight : (ℕ → ℕ) → Option (Var × Sort) → ℕ
read_weight v None = 1
read_weight v (Some seen) = weigh_read v seen.0

abbrev pub all_weights : List Weight → Weight
all_weights [] v = 0
all_weights (w ∷ ws) v = w v + all_weights ws v

-- operands after the first, each with the node that joins it
abbrev pub rest_weight : List Weight → Weight
rest_weight [] v = 0
rest_weight (w ∷ ws) v = w v + 1 + rest_weight ws v

-- operands that group from the left
abbrev pub chain_weight : List Weight → Weight
chain_weight [] v = 1
chain_weight (w ∷ ws) v = w v + rest_weight ws v

-- what a bracket adds to what stands before it
abbrev pub bracket_weight : Bracket-F Weight Weight → Weight
bracket_weight (Bracket-F.Select index) v = index v + 1
bracket_weight (Bracket-F.Store index value) v = index v + value v + 1
bracket_weight (Bracket-F.Extract high low) v = 1

abbrev pub expr_weight : Templates → Tables → Scope → Expr-F Weight Weight → Weight
expr_weight t tables scope (Expr-F.True at) v = 1
expr_weight t tables scope (Expr-F.False at) v = 1
expr_weight t tables scope (Expr-F.Literal at width bits) v = 1
expr_weight t tables scope (Expr-F.Variable name) v = read_weight v (find_name tables scope name.text)
expr_weight t tables scope (Expr-F.Apply function arguments) v = used_weight (function_named tables function.text) (t function.text) v (map (λ a. a v) arguments)
expr_weight t tables scope (Expr-F.Post at operand brackets) v = operand v + all_weights brackets v
expr_weight t tables scope (Expr-F.Not at operand) v = operand v + 1
expr_weight t tables scope (Expr-F.Concat at operands) v = chain_weight operands v
expr_weight t tables scope (Expr-F.Equal at left right) v = left v + right v + 1
expr_weight t tables scope (Expr-F.NotEqual at left right) v = left v + right v + 1
expr_weight t tables scope (Expr-F.And at operands) v = chain_weight operands v
expr_weight t tables scope (Expr-F.Or at operands) v = chain_weight operands v
expr_weight t tables scope (Expr-F.Implies at left right) v = left v + right v + 1
expr_weight t tables scope (Expr-F.ImpliedBy at operands) v = chain_weight operands v
expr_weight t tables scope (Expr-F.Equivalent at operands) v = chain_weight operands v
expr_weight t tables scope (Expr-F.Choice at condition one other) v = condition v + one v + other v + 1

unfoldable pub weight_by : Templates → Tables → Scope → Expr → Weight
weight_by t tables scope = fold-Expr Weight Weight bracket_weight (expr_weight t tables scope)

unfoldable pub bracket_weight_by : Templates → Tables → Scope → Bracket → Weight
bracket_weight_by t tables scope = fold-Bracket Weight Weight bracket_weight (expr_weight t tables scope)
