-- The five passes: the faults of each.
use Rattle.std.specs.Prelude.{ℕ, Bool, true, false, not, ◌&&◌, ◌||◌, nat_lt, List, [], ◌∷◌, ◌++◌, length, map, flat_map, filter_map, position, Option, None, Some, is_some, option_to_list, if◌then◌else◌}
use Rattle.std.specs.List.{enumerate_from}
use Rattle.std.specs.Str.{bytes_eq}
use Rattle.bpl_ast.specs.declared.decl.Ast.{Ast}
use Rattle.bpl_ast.specs.declared.decl.Body.{Body}
use Rattle.bpl_ast.specs.declared.decl.Decl.{Decl}
use Rattle.bpl_ast.specs.declared.decl.Decl.TheVariants as decls
use Rattle.bpl_ast.specs.declared.decl.Function.{Function}
use Rattle.bpl_ast.specs.declared.decl.Heads.{Heads}
use Rattle.bpl_ast.specs.declared.decl.Synonym.{Synonym}
use Rattle.bpl_ast.specs.declared.expr.Bracket.TheOpen.{Bracket-F, Expr-F}
use Rattle.bpl_ast.specs.declared.expr.Bracket.TheFolds.{fold-Expr}
use Rattle.bpl_ast.specs.declared.expr.Expr.{Expr}
use Rattle.bpl_ast.specs.declared.name.Name.{Name}
use Rattle.bpl_ast.specs.declared.sort.Sort.{Sort}
use Rattle.bpl_ast.specs.declared.stmt.Else.TheFolds.{fold-Stmt}
use Rattle.bpl_ast.specs.declared.stmt.Else.TheOpen.{Else-F, Stmt-F, If-F}
use Rattle.bpl_ast.specs.declared.stmt.Guard.{Guard}
use Rattle.bpl_ast.specs.declared.stmt.Guard.TheVariants.{Any, Condition}
use Rattle.bpl_ast.specs.declared.stmt.Stmt.{Stmt}
use Rattle.bpl_ast.specs.declared.word.Word.TheVariants.{UniqueMap}
use Rattle.hy_val.specs.NodeSorts.{same_sort}
use Rattle.hy_val.specs.declared.sort.Sort.{Sort as Resolved}
use Rattle.type_pass.specs.declared.fault.TypeFault.{TypeFault}
use Rattle.type_pass.specs.declared.fault.TypeKind.{TypeKind}
use Rattle.type_pass.specs.declared.fault.TypeKind.TheVariants.{Unknown, Twice, Mismatch, Arity, Cyclic, Large, LeftOut}
use Rattle.type_pass.specs.declared.tables.Heading.{Heading}
use Rattle.type_pass.specs.declared.tables.Meaning.{Meaning}
use Rattle.type_pass.specs.declared.tables.Meaning.TheVariants as means
use Rattle.type_pass.specs.declared.tables.Scope.{Scope}
use Rattle.type_pass.specs.declared.tables.Signature.{Signature}
use Rattle.type_pass.specs.declared.tables.Tables.{Tables}
use Rattle.type_pass.specs.Commands.{value_faults, condition_faults, stmt_faults, differ}
use Rattle.type_pass.specs.Declarations.{synonyms, functions, procedures, has_builtin, in_parameters, in_heads, in_body, result_sort, result_name, value_names, body_names}
use Rattle.type_pass.specs.ExprSorts.{part}
use Rattle.type_pass.specs.Faults.{fault, told}
use Rattle.type_pass.specs.Graphs.{Graph, is_on_circle}
use Rattle.type_pass.specs.Meanings.{misfit}
use Rattle.type_pass.specs.Names.{repeats, name_if}
use Rattle.type_pass.specs.Replaced.{term_of}
use Rattle.type_pass.specs.Scopes.{tables_of, signature_of, sort_in, axiom_scope, function_scope, body_scope, procedure_named}
use Rattle.type_pass.specs.Sorts.{part_of, sort_faults, type_graph}
use Rattle.type_pass.specs.Terms.{size}

-- ---- the first pass: names and bodies that stand a second time

-- the arguments of a function and its result
abbrev pub function_names : Function → List Name
function_names f = flat_map (λ a. name_if a.name) f.arguments ++ name_if (result_name f.output)

abbrev pub function_repeats : Function → List TypeFault
function_repeats f = repeats (function_names f) ++ told (has_builtin f && is_some f.body) f.name.at Twice

abbrev pub local_names : Option Body → List Name
local_names None = []
local_names (Some body) = map (λ d. d.name) (in_body body)

-- ins, outs and locals
abbrev pub parameter_repeats : Heads → Option Body → List TypeFault
parameter_repeats heads body = repeats (map (λ d. d.name) (in_heads heads) ++ local_names body)

abbrev pub inner_repeats : Decl → List TypeFault
inner_repeats (decls.Function f) = function_repeats f
inner_repeats (decls.Procedure p) = parameter_repeats p.heads p.body
inner_repeats (decls.Implementation i) = parameter_repeats i.heads (Some i.body)
inner_repeats _ = []

-- Types, functions, procedures, and constants with globals are four spaces of names. A procedure has one body at most.
abbrev pub twice_faults : Ast → List TypeFault
twice_faults ast =
    repeats (map (λ s. s.name) (synonyms ast)) ++
    repeats (map (λ f. f.name) (functions ast)) ++
    repeats (map (λ p. p.name) (procedures ast)) ++
    repeats (value_names ast) ++
    repeats (body_names ast) ++
    flat_map inner_repeats ast.decls

-- ---- the second pass: sorts

abbrev pub heads_sorts : Heads → List Sort
heads_sorts heads = map (λ d. d.sort) (in_heads heads)

abbrev pub body_sorts : Option Body → List Sort
body_sorts None = []
body_sorts (Some body) = flat_map (λ v. map (λ g. g.sort) v.groups) body.locals

-- all sorts that a declaration writes
abbrev pub sorts_in : Decl → List Sort
sorts_in (decls.Synonym s) = s.sort ∷ []
sorts_in (decls.Constants c) = c.sort ∷ []
sorts_in (decls.Function f) = map (λ a. a.sort) f.arguments ++ result_sort f.output ∷ []
sorts_in (decls.Axiom a) = []
sorts_in (decls.Variables v) = map (λ g. g.sort) v.groups
sorts_in (decls.Procedure p) = heads_sorts p.heads ++ body_sorts p.body
sorts_in (decls.Implementation i) = heads_sorts i.heads ++ body_sorts (Some i.body)

-- the declared names that lie on a circle, where the graph has one node for each
abbrev pub cyclic_names : Graph → List Name → List TypeFault
cyclic_names graph names = flat_map (λ n. told (is_on_circle graph n.0) n.1.at Cyclic) (enumerate_from 0 names)

-- a unique constant is no map
abbrev pub unique_faults : List Synonym → Decl → List TypeFault
unique_faults types (decls.Constants c) = told (c.unique && (part_of types c.sort).is_map) (part_of types c.sort).at (LeftOut UniqueMap)
unique_faults types _ = []

abbrev pub sorts_faults : Ast → List TypeFault
sorts_faults ast =
    flat_map (sort_faults (synonyms ast)) (flat_map sorts_in ast.decls) ++
    cyclic_names (type_graph (synonyms ast)) (map (λ s. s.name) (synonyms ast)) ++
    flat_map (unique_faults (synonyms ast)) ast.decls

-- ---- the third pass: heads

abbrev pub same_sorts : List Resolved → List Resolved → Bool
same_sorts [] [] = true
same_sorts [] (t ∷ ts) = false
same_sorts (s ∷ ss) [] = false
same_sorts (s ∷ ss) (t ∷ ts) = same_sort s t && same_sorts ss ts

-- an implementation has its procedure's sorts in order
abbrev pub implementation_faults : ℕ → Option Heading → List Resolved → List Resolved → List TypeFault
implementation_faults at None ins outs = fault at Unknown ∷ []
implementation_faults at (Some p) ins outs =
    if differ (length p.ins) (length ins) || differ (length p.outs) (length outs) then fault at Arity ∷ []
    else told (not (same_sorts p.ins ins && same_sorts p.outs outs)) at Mismatch

abbrev pub kind_fault : ℕ → Option TypeKind → List TypeFault
kind_fault at None = []
kind_fault at (Some kind) = fault at kind ∷ []

-- the sorts of a function that means an operator fit it
abbrev pub operator_faults : ℕ → Signature → Meaning → List TypeFault
operator_faults at f means.Body = []
operator_faults at f (means.Operator b) = kind_fault at (misfit b (map (λ a. a.sort) f.arguments) f.output)
operator_faults at f means.Nothing = []

-- `modifies` has names of globals
abbrev pub modifies_faults : Tables → Name → List TypeFault
modifies_faults tables n = told (not (is_some (position (λ g. bytes_eq n.text g.name) tables.globals))) n.at Unknown

abbrev pub head_faults : Ast → Decl → List TypeFault
head_faults ast (decls.Function f) = operator_faults f.name.at (signature_of (synonyms ast) f) (signature_of (synonyms ast) f).meaning
head_faults ast (decls.Procedure p) = flat_map (λ s. flat_map (modifies_faults (tables_of ast)) s.names) p.specs
head_faults ast (decls.Implementation i) =
    implementation_faults i.name.at (procedure_named (tables_of ast) i.name.text)
    (map (sort_in (synonyms ast)) (flat_map in_parameters i.heads.ins)) (map (sort_in (synonyms ast)) (flat_map in_parameters i.heads.outs))
head_faults ast _ = []

abbrev pub heads_faults : Ast → List TypeFault
heads_faults ast = flat_map (head_faults ast) ast.decls

-- ---- the fourth pass: expressions and commands

abbrev pub function_faults : Tables → Signature → Option Expr → List TypeFault
function_faults tables f None = []
function_faults tables f (Some body) = value_faults (Some f.output) (part tables (function_scope f) body)

abbrev pub body_faults : Tables → List Synonym → Heads → Option Body → List TypeFault
body_faults tables types heads None = []
body_faults tables types heads (Some body) = flat_map (stmt_faults tables (body_scope types heads body)) body.statements

abbrev pub command_faults : Ast → Decl → List TypeFault
command_faults ast (decls.Function f) = function_faults (tables_of ast) (signature_of (synonyms ast) f) f.body
command_faults ast (decls.Axiom a) = condition_faults (tables_of ast) axiom_scope a.condition
command_faults ast (decls.Procedure p) = body_faults (tables_of ast) (synonyms ast) p.heads p.body
command_faults ast (decls.Implementation i) = body_faults (tables_of ast) (synonyms ast) i.heads (Some i.body)
command_faults ast _ = []

abbrev pub commands_faults : Ast → List TypeFault
commands_faults ast = flat_map (command_faults ast) ast.decls

-- ---- the fifth pass: circles of uses, and expressions that are too large

abbrev pub bracket_uses : Bracket-F (List (List ℕ)) (List (List ℕ)) → List (List ℕ)
bracket_uses (Bracket-F.Select index) = index
bracket_uses (Bracket-F.Store index value) = index ++ value
bracket_uses (Bracket-F.Extract high low) = []

abbrev pub all_uses : List (List (List ℕ)) → List (List ℕ)
all_uses parts = flat_map (λ names. names) parts

abbrev pub expr_uses : Expr-F (List (List ℕ)) (List (List ℕ)) → List (List ℕ)
expr_uses (Expr-F.True at) = []
expr_uses (Expr-F.False at) = []
expr_uses (Expr-F.Literal at width bits) = []
expr_uses (Expr-F.Variable name) = []
expr_uses (Expr-F.Apply function arguments) = all_uses arguments ++ function.text ∷ []
expr_uses (Expr-F.Post at operand brackets) = operand ++ all_uses brackets
expr_uses (Expr-F.Not at operand) = operand
expr_uses (Expr-F.Concat at operands) = all_uses operands
expr_uses (Expr-F.Equal at left right) = left ++ right
expr_uses (Expr-F.NotEqual at left right) = left ++ right
expr_uses (Expr-F.And at operands) = all_uses operands
expr_uses (Expr-F.Or at operands) = all_uses operands
expr_uses (Expr-F.Implies at left right) = left ++ right
expr_uses (Expr-F.ImpliedBy at operands) = all_uses operands
expr_uses (Expr-F.Equivalent at operands) = all_uses operands
expr_uses (Expr-F.Choice at condition one other) = condition ++ one ++ other

-- the names of the functions that an expression uses
unfoldable pub uses : Expr → List (List ℕ)
uses = fold-Expr (List (List ℕ)) (List (List ℕ)) bracket_uses expr_uses

abbrev pub uses_if : Option Expr → List (List ℕ)
uses_if None = []
uses_if (Some body) = uses body

abbrev pub function_number : List Function → List ℕ → Option ℕ
function_number fs text = position (λ f. bytes_eq text f.name.text) fs

-- from each function edges lead to those that its body uses
abbrev pub use_graph : List Function → Graph
use_graph fs = map (λ f. filter_map (function_number fs) (uses_if f.body)) fs

abbrev pub circle_faults : Ast → List TypeFault
circle_faults ast = cyclic_names (use_graph (functions ast)) (map (λ f. f.name) (functions ast))

-- ---- all expressions of a body

abbrev pub guard_exprs : Guard → List Expr
guard_exprs (Any at) = []
guard_exprs (Condition condition) = condition ∷ []

abbrev pub all_exprs : List (List Expr) → List Expr
all_exprs parts = flat_map (λ es. es) parts

abbrev pub else_exprs : Else-F (List Expr) (List Expr) (List Expr) → List Expr
else_exprs Else-F.Absent = []
else_exprs (Else-F.Else::If inner) = inner
else_exprs (Else-F.Block body) = all_exprs body

abbrev pub if_exprs : If-F (List Expr) (List Expr) (List Expr) → List Expr
if_exprs s = guard_exprs s.guard ++ all_exprs s.then ++ s.other

abbrev pub stmt_exprs : Stmt-F (List Expr) (List Expr) (List Expr) → List Expr
stmt_exprs (Stmt-F.Label name) = []
stmt_exprs (Stmt-F.Assert at attributes condition) = condition ∷ []
stmt_exprs (Stmt-F.Assume at attributes condition) = condition ∷ []
stmt_exprs (Stmt-F.Havoc at attributes names) = []
stmt_exprs (Stmt-F.Goto at attributes labels) = []
stmt_exprs (Stmt-F.Return at attributes) = []
stmt_exprs (Stmt-F.Break at attributes label) = []
stmt_exprs (Stmt-F.Assign at targets values) = flat_map (λ t. option_to_list t.index) targets ++ values
stmt_exprs (Stmt-F.Call at attributes outs procedure arguments) = arguments
stmt_exprs (Stmt-F.Stmt::If inner) = inner
stmt_exprs (Stmt-F.While at attributes guard invariants body) = guard_exprs guard ++ map (λ i. i.condition) invariants ++ all_exprs body

-- the expressions of a statement as the text has them
unfoldable pub exprs_of : Stmt → List Expr
exprs_of = fold-Stmt (List Expr) (List Expr) (List Expr) else_exprs stmt_exprs if_exprs

-- more nodes than the limit, once functions are replaced
abbrev pub large_fault : ℕ → Tables → List Function → Scope → Expr → List TypeFault
large_fault limit tables fs scope x = told (nat_lt limit (size (term_of tables fs scope x))) (part tables scope x).at Large

abbrev pub large_body : ℕ → Ast → Heads → Option Body → List TypeFault
large_body limit ast heads None = []
large_body limit ast heads (Some body) =
    flat_map (large_fault limit (tables_of ast) (functions ast) (body_scope (synonyms ast) heads body)) (flat_map exprs_of body.statements)

abbrev pub large_decl : ℕ → Ast → Decl → List TypeFault
large_decl limit ast (decls.Axiom a) = large_fault limit (tables_of ast) (functions ast) axiom_scope a.condition
large_decl limit ast (decls.Procedure p) = large_body limit ast p.heads p.body
large_decl limit ast (decls.Implementation i) = large_body limit ast i.heads (Some i.body)
large_decl limit ast _ = []

abbrev pub large_faults : ℕ → Ast → List TypeFault
large_faults limit ast = flat_map (large_decl limit ast) ast.decls
