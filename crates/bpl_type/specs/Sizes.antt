-- The expressions that are too large, by what the functions count.
use Rattle.std.specs.Prelude.{◌≡◌, ℕ, true, nat_le, List, [], flat_map, length, slice_get, Option, None, Some}
use Rattle.bpl_ast.specs.declared.decl.Ast.{Ast}
use Rattle.bpl_ast.specs.declared.decl.Body.{Body}
use Rattle.bpl_ast.specs.declared.decl.Decl.{Decl}
use Rattle.bpl_ast.specs.declared.decl.Decl.TheVariants as decls
use Rattle.bpl_ast.specs.declared.decl.Function.{Function}
use Rattle.bpl_ast.specs.declared.decl.Heads.{Heads}
use Rattle.bpl_ast.specs.declared.decl.Synonym.{Synonym}
use Rattle.bpl_ast.specs.declared.expr.Expr.{Expr}
use Rattle.bpl_ast.specs.declared.stmt.Else.{Else}
use Rattle.bpl_ast.specs.declared.stmt.Else.TheFolds.{fold-If, fold-Else}
use Rattle.bpl_ast.specs.declared.stmt.If.{If}
use Rattle.bpl_ast.specs.declared.stmt.Stmt.{Stmt}
use Rattle.bpl_type.specs.declared.count.Counting.{Counting}
use Rattle.bpl_type.specs.declared.count.Tally.{Tally}
use Rattle.type_pass.specs.declared.fault.TypeFault.{TypeFault}
use Rattle.type_pass.specs.declared.fault.TypeKind.TheVariants.{Large}
use Rattle.type_pass.specs.declared.tables.Scope.{Scope}
use Rattle.type_pass.specs.declared.tables.Signature.{Signature}
use Rattle.type_pass.specs.declared.tables.Tables.{Tables}
use Rattle.bpl_type.specs.Counts.{Alike, affine_at, weigh}
use Rattle.type_pass.specs.Declarations.{synonyms, functions}
use Rattle.type_pass.specs.ExprSorts.{part}
use Rattle.type_pass.specs.Faults.{told}
use Rattle.type_pass.specs.Orders.{is_in}
use Rattle.type_pass.specs.Passes.{else_exprs, stmt_exprs, if_exprs, exprs_of}
use Rattle.type_pass.specs.Replaced.{body_term, term_of}
use Rattle.type_pass.specs.Scopes.{tables_of, signature_of, function_scope, axiom_scope, body_scope}
use Rattle.bpl_type.specs.Tallies.{noted_template, templates_of, weight_in}
use Rattle.bpl_type.specs.Weights.{Templates, Weight, weight_by}

-- ---- the templates of functions

-- a tally is that of a number, up to a bound
abbrev pub CountsAs : ℕ → Weight → Tally → Type 0
CountsAs most f t = (v : ℕ → ℕ) → Alike most (f v) (affine_at t.base t.slopes v)

-- a body, or one node for a body that isn't there
abbrev pub body_weight : (Expr → Weight) → Option Expr → Weight
body_weight weight None v = 1
body_weight weight (Some body) v = weight body v

-- the tally of the function of a number, where functions have these templates
abbrev pub CountsAt : ℕ → Tables → List Tally → List Function → ℕ → Tally → Type 0
CountsAt most tables templates fs n tally = (f : Function) (s : Signature) → slice_get fs n ≡ Some f → slice_get tables.functions n ≡ Some s
    → CountsAs most (body_weight (weight_by (templates_of tables templates) tables (function_scope s)) f.body) tally

-- what the body of a function counts once functions are replaced
abbrev pub function_weight : Ast → Function → Weight
function_weight ast f v = weigh v (body_term (term_of (tables_of ast) (functions ast) (function_scope (signature_of (synonyms ast) f))) f.body)

-- the functions of a list of numbers have their templates
pub record AreCounted (most : ℕ) (ast : Ast) (seen : List ℕ) (templates : List Tally) : Type 0 where
  pub counted : length templates ≡ length (functions ast)
  pub templates_at : (j : ℕ) (f : Function) → is_in seen j ≡ true → slice_get (functions ast) j ≡ Some f → (v : ℕ → ℕ) → Alike most (function_weight ast f v) (affine_at (noted_template (slice_get templates j)).0 (noted_template (slice_get templates j)).1 v)

-- all functions have
abbrev pub AreTemplates : ℕ → Ast → List Tally → Type 0
AreTemplates most ast templates = (j : ℕ) (f : Function) → slice_get (functions ast) j ≡ Some f → (v : ℕ → ℕ) → Alike most (function_weight ast f v) (affine_at (noted_template (slice_get templates j)).0 (noted_template (slice_get templates j)).1 v)

-- ---- expressions

-- Large at an expression that reaches the bound, where each local is one node
abbrev pub heavy_fault : ℕ → Templates → Tables → Scope → Expr → List TypeFault
heavy_fault most t tables scope x = told (nat_le most (weight_by t tables scope x (λ n. 1))) (part tables scope x).at Large

abbrev pub heavy_in : Counting → Expr → List TypeFault
heavy_in c x = told (nat_le c.most (weight_in c x (λ n. 1))) (part c.known.now c.scope.now x).at Large

-- the expressions of an `if`, and of what stands after `else`
abbrev pub exprs_in_if : If → List Expr
exprs_in_if = fold-If (List Expr) (List Expr) (List Expr) else_exprs stmt_exprs if_exprs

abbrev pub exprs_in_else : Else → List Expr
exprs_in_else = fold-Else (List Expr) (List Expr) (List Expr) else_exprs stmt_exprs if_exprs

abbrev pub heavy_stmt : Counting → Stmt → List TypeFault
heavy_stmt c s = flat_map (heavy_in c) (exprs_of s)

-- ---- declarations

abbrev pub heavy_body : ℕ → Templates → Tables → List Synonym → Heads → Option Body → List TypeFault
heavy_body most t tables types heads None = []
heavy_body most t tables types heads (Some body) = flat_map (λ s. flat_map (heavy_fault most t tables (body_scope types heads body)) (exprs_of s)) body.statements

abbrev pub heavy_decl : ℕ → Templates → Tables → List Synonym → Decl → List TypeFault
heavy_decl most t tables types (decls.Axiom a) = heavy_fault most t tables axiom_scope a.condition
heavy_decl most t tables types (decls.Procedure p) = heavy_body most t tables types p.heads p.body
heavy_decl most t tables types (decls.Implementation i) = heavy_body most t tables types i.heads (Some i.body)
heavy_decl most t tables types _ = []
