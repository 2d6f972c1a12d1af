-- Trees that are alike: equal but for the offsets of their tokens. Brackets after an operand are one list here, however the text groups them: `(m[i])[j]` is
-- `m[i][j]`.
use Rattle.std.specs.Prelude.{◌≡◌, ℕ, Bool, List, [], ◌∷◌, ◌++◌, map, Option, None, Some, option_map}
use Rattle.bpl_ast.specs.declared.decl.Ast.{Ast}
use Rattle.bpl_ast.specs.declared.decl.Axiom.{Axiom}
use Rattle.bpl_ast.specs.declared.decl.Body.{Body}
use Rattle.bpl_ast.specs.declared.decl.Constants.{Constants}
use Rattle.bpl_ast.specs.declared.decl.Decl.{Decl}
use Rattle.bpl_ast.specs.declared.decl.Decl.TheVariants as decls
use Rattle.bpl_ast.specs.declared.decl.Function.{Function}
use Rattle.bpl_ast.specs.declared.decl.FunctionArgument.{FunctionArgument}
use Rattle.bpl_ast.specs.declared.decl.FunctionResult.{FunctionResult}
use Rattle.bpl_ast.specs.declared.decl.FunctionResult.TheVariants.{Returns, Plain}
use Rattle.bpl_ast.specs.declared.decl.Group.{Group}
use Rattle.bpl_ast.specs.declared.decl.Heads.{Heads}
use Rattle.bpl_ast.specs.declared.decl.Implementation.{Implementation}
use Rattle.bpl_ast.specs.declared.decl.Modifies.{Modifies}
use Rattle.bpl_ast.specs.declared.decl.ParameterGroup.{ParameterGroup}
use Rattle.bpl_ast.specs.declared.decl.Procedure.{Procedure}
use Rattle.bpl_ast.specs.declared.decl.Synonym.{Synonym}
use Rattle.bpl_ast.specs.declared.decl.Variables.{Variables}
use Rattle.bpl_ast.specs.declared.expr.Bracket.{Bracket}
use Rattle.bpl_ast.specs.declared.expr.Bracket.TheFolds.{fold-Bracket, fold-Expr}
use Rattle.bpl_ast.specs.declared.expr.Bracket.TheOpen.{Bracket-F, Expr-F}
use Rattle.bpl_ast.specs.declared.expr.Bracket.TheVariants as brackets
use Rattle.bpl_ast.specs.declared.expr.Expr.{Expr}
use Rattle.bpl_ast.specs.declared.expr.Expr.TheVariants as e
use Rattle.bpl_ast.specs.declared.name.Attribute.{Attribute}
use Rattle.bpl_ast.specs.declared.name.Lexeme.{Lexeme}
use Rattle.bpl_ast.specs.declared.name.Name.{Name}
use Rattle.bpl_ast.specs.declared.sort.Sort.{Sort, fold-Sort}
use Rattle.bpl_ast.specs.declared.sort.Sort.TheOpen.{Sort-F}
use Rattle.bpl_ast.specs.declared.sort.Sort.TheVariants as sorts
use Rattle.bpl_ast.specs.declared.stmt.Else.{Else}
use Rattle.bpl_ast.specs.declared.stmt.Else.TheFolds.{fold-Else, fold-Stmt, fold-If}
use Rattle.bpl_ast.specs.declared.stmt.Else.TheOpen.{Else-F, Stmt-F, If-F}
use Rattle.bpl_ast.specs.declared.stmt.Else.TheVariants as elses
use Rattle.bpl_ast.specs.declared.stmt.Guard.{Guard}
use Rattle.bpl_ast.specs.declared.stmt.Guard.TheVariants.{Any, Condition}
use Rattle.bpl_ast.specs.declared.stmt.If.{If}
use Rattle.bpl_ast.specs.declared.stmt.Invariant.{Invariant}
use Rattle.bpl_ast.specs.declared.stmt.Stmt.{Stmt}
use Rattle.bpl_ast.specs.declared.stmt.Stmt.TheVariants as stmts
use Rattle.bpl_ast.specs.declared.stmt.Target.{Target}

-- ---- names

abbrev pub bare_name : Name → Name
bare_name n = record { at = 0; text = n.text }

abbrev pub bare_lexeme : Lexeme → Lexeme
bare_lexeme l = record { at = 0; text = l.text }

abbrev pub bare_attribute : Attribute → Attribute
bare_attribute a = record { at = 0; name = bare_name a.name; tokens = map bare_lexeme a.tokens }

-- ---- sorts

abbrev pub sort_node : Sort-F Sort → Sort
sort_node (Sort-F.Boolean at) = sorts.Boolean 0
sort_node (Sort-F.Bits at width text) = sorts.Bits 0 width text
sort_node (Sort-F.Named name) = sorts.Named (bare_name name)
sort_node (Sort-F.Map at index elem) = sorts.Map 0 index elem

unfoldable pub bare_sort : Sort → Sort
bare_sort = fold-Sort Sort sort_node

-- ---- expressions

-- an operand, and all brackets after it
pub record Spine : Type 0 where
  pub operand : Expr
  pub brackets : List Bracket

-- every expression with the list of its brackets, though it be empty
abbrev pub whole : Spine → Expr
whole s = e.Post 0 s.operand s.brackets

abbrev pub alone : Expr → Spine
alone x = record { operand = x; brackets = [] }

abbrev pub bracket_node : Bracket-F Bracket Spine → Bracket
bracket_node (Bracket-F.Select index) = brackets.Select (whole index)
bracket_node (Bracket-F.Store index value) = brackets.Store (whole index) (whole value)
bracket_node (Bracket-F.Extract high low) = brackets.Extract high low

abbrev pub expr_node : Expr-F Bracket Spine → Spine
expr_node (Expr-F.True at) = alone (e.True 0)
expr_node (Expr-F.False at) = alone (e.False 0)
expr_node (Expr-F.Literal at width bits) = alone (e.Literal 0 width bits)
expr_node (Expr-F.Variable name) = alone (e.Variable (bare_name name))
expr_node (Expr-F.Apply function arguments) = alone (e.Apply (bare_name function) (map whole arguments))
expr_node (Expr-F.Post at operand after) = record { operand = operand.operand; brackets = operand.brackets ++ after }
expr_node (Expr-F.Not at operand) = alone (e.Not 0 (whole operand))
expr_node (Expr-F.Concat at operands) = alone (e.Concat 0 (map whole operands))
expr_node (Expr-F.Equal at left right) = alone (e.Equal 0 (whole left) (whole right))
expr_node (Expr-F.NotEqual at left right) = alone (e.NotEqual 0 (whole left) (whole right))
expr_node (Expr-F.And at operands) = alone (e.And 0 (map whole operands))
expr_node (Expr-F.Or at operands) = alone (e.Or 0 (map whole operands))
expr_node (Expr-F.Implies at left right) = alone (e.Implies 0 (whole left) (whole right))
expr_node (Expr-F.ImpliedBy at operands) = alone (e.ImpliedBy 0 (map whole operands))
expr_node (Expr-F.Equivalent at operands) = alone (e.Equivalent 0 (map whole operands))
expr_node (Expr-F.Choice at condition one other) = alone (e.Choice 0 (whole condition) (whole one) (whole other))

unfoldable pub spine : Expr → Spine
spine = fold-Expr Bracket Spine bracket_node expr_node

unfoldable pub bare_bracket : Bracket → Bracket
bare_bracket = fold-Bracket Bracket Spine bracket_node expr_node

abbrev pub bare_expr : Expr → Expr
bare_expr x = whole (spine x)

-- ---- statements

abbrev pub bare_guard : Guard → Guard
bare_guard (Any at) = Any 0
bare_guard (Condition condition) = Condition (bare_expr condition)

abbrev pub bare_target : Target → Target
bare_target t = record { name = bare_name t.name; index = option_map bare_expr t.index }

abbrev pub bare_invariant : Invariant → Invariant
bare_invariant i = record { at = 0; free = i.free; attributes = map bare_attribute i.attributes; condition = bare_expr i.condition }

abbrev pub else_node : Else-F Else Stmt If → Else
else_node Else-F.Absent = elses.Absent
else_node (Else-F.Else::If inner) = elses.If inner
else_node (Else-F.Block body) = elses.Block body

abbrev pub if_node : If-F Else Stmt If → If
if_node i = record { at = 0; attributes = map bare_attribute i.attributes; guard = bare_guard i.guard; then = i.then; other = i.other }

abbrev pub stmt_node : Stmt-F Else Stmt If → Stmt
stmt_node (Stmt-F.Label name) = stmts.Label (bare_name name)
stmt_node (Stmt-F.Assert at attributes condition) = stmts.Assert 0 (map bare_attribute attributes) (bare_expr condition)
stmt_node (Stmt-F.Assume at attributes condition) = stmts.Assume 0 (map bare_attribute attributes) (bare_expr condition)
stmt_node (Stmt-F.Havoc at attributes names) = stmts.Havoc 0 (map bare_attribute attributes) (map bare_name names)
stmt_node (Stmt-F.Goto at attributes labels) = stmts.Goto 0 (map bare_attribute attributes) (map bare_name labels)
stmt_node (Stmt-F.Return at attributes) = stmts.Return 0 (map bare_attribute attributes)
stmt_node (Stmt-F.Break at attributes label) = stmts.Break 0 (map bare_attribute attributes) (option_map bare_name label)
stmt_node (Stmt-F.Assign at targets values) = stmts.Assign 0 (map bare_target targets) (map bare_expr values)
stmt_node (Stmt-F.Call at attributes outs procedure arguments) = stmts.Call 0 (map bare_attribute attributes) (map bare_name outs) (bare_name procedure) (map bare_expr arguments)
stmt_node (Stmt-F.Stmt::If inner) = stmts.If inner
stmt_node (Stmt-F.While at attributes guard invariants body) = stmts.While 0 (map bare_attribute attributes) (bare_guard guard) (map bare_invariant invariants) body

unfoldable pub bare_stmt : Stmt → Stmt
bare_stmt = fold-Stmt Else Stmt If else_node stmt_node if_node

unfoldable pub bare_if : If → If
bare_if = fold-If Else Stmt If else_node stmt_node if_node

unfoldable pub bare_else : Else → Else
bare_else = fold-Else Else Stmt If else_node stmt_node if_node

-- ---- declarations

abbrev pub bare_group : Group → Group
bare_group g = record { at = 0; names = map bare_name g.names; sort = bare_sort g.sort }

abbrev pub bare_variables : Variables → Variables
bare_variables v = record { at = 0; attributes = map bare_attribute v.attributes; groups = map bare_group v.groups }

abbrev pub bare_parameters : ParameterGroup → ParameterGroup
bare_parameters g = record { at = 0; attributes = map bare_attribute g.attributes; names = map bare_name g.names; sort = bare_sort g.sort }

abbrev pub bare_heads : Heads → Heads
bare_heads h = record { at = 0; ins = map bare_parameters h.ins; outs = map bare_parameters h.outs }

abbrev pub bare_modifies : Modifies → Modifies
bare_modifies m = record { at = 0; attributes = map bare_attribute m.attributes; names = map bare_name m.names }

abbrev pub bare_body : Body → Body
bare_body b = record { at = 0; locals = map bare_variables b.locals; statements = map bare_stmt b.statements }

abbrev pub bare_argument : FunctionArgument → FunctionArgument
bare_argument a = record { at = 0; name = option_map bare_name a.name; sort = bare_sort a.sort }

abbrev pub bare_result : FunctionResult → FunctionResult
bare_result (Returns at argument) = Returns 0 (bare_argument argument)
bare_result (Plain at sort) = Plain 0 (bare_sort sort)

abbrev pub bare_synonym : Synonym → Synonym
bare_synonym s = record { at = 0; attributes = map bare_attribute s.attributes; name = bare_name s.name; sort = bare_sort s.sort }

abbrev pub bare_constants : Constants → Constants
bare_constants c = record { at = 0; attributes = map bare_attribute c.attributes; unique = c.unique; names = map bare_name c.names; sort = bare_sort c.sort }

abbrev pub bare_function : Function → Function
bare_function f = record { at = 0; attributes = map bare_attribute f.attributes; name = bare_name f.name; arguments = map bare_argument f.arguments; output = bare_result f.output; body = option_map bare_expr f.body }

abbrev pub bare_axiom : Axiom → Axiom
bare_axiom a = record { at = 0; attributes = map bare_attribute a.attributes; condition = bare_expr a.condition }

abbrev pub bare_procedure : Procedure → Procedure
bare_procedure p = record { at = 0; attributes = map bare_attribute p.attributes; name = bare_name p.name; heads = bare_heads p.heads; specs = map bare_modifies p.specs; body = option_map bare_body p.body }

abbrev pub bare_implementation : Implementation → Implementation
bare_implementation i = record { at = 0; attributes = map bare_attribute i.attributes; name = bare_name i.name; heads = bare_heads i.heads; body = bare_body i.body }

abbrev pub bare_decl : Decl → Decl
bare_decl (decls.Synonym s) = decls.Synonym (bare_synonym s)
bare_decl (decls.Constants c) = decls.Constants (bare_constants c)
bare_decl (decls.Function f) = decls.Function (bare_function f)
bare_decl (decls.Axiom a) = decls.Axiom (bare_axiom a)
bare_decl (decls.Variables v) = decls.Variables (bare_variables v)
bare_decl (decls.Procedure p) = decls.Procedure (bare_procedure p)
bare_decl (decls.Implementation i) = decls.Implementation (bare_implementation i)

abbrev pub bare : Ast → Ast
bare tree = record { decls = map bare_decl tree.decls }

-- equal but for the offsets
abbrev pub AreAlike : Ast → Ast → Type 0
AreAlike a b = bare a ≡ bare b
