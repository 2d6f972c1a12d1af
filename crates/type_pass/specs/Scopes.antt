-- What the names of a program stand for.
use Rattle.std.specs.Prelude.{ℕ, Bool, true, false, ◌||◌, nat_le, List, [], ◌++◌, length, map, flat_map, slice_get, position, find, Option, None, is_some, option_map, if◌then◌else◌, filter, unwrap_or}
use Rattle.std.specs.List.{list_any}
use Rattle.std.specs.Option.{option_and_then, option_or}
use Rattle.std.specs.Str.{bytes_eq}
use Rattle.bpl_ast.specs.declared.decl.Ast.{Ast}
use Rattle.bpl_ast.specs.declared.decl.Body.{Body}
use Rattle.bpl_ast.specs.declared.decl.Function.{Function}
use Rattle.bpl_ast.specs.declared.decl.FunctionArgument.{FunctionArgument}
use Rattle.bpl_ast.specs.declared.decl.Heads.{Heads}
use Rattle.bpl_ast.specs.declared.decl.Procedure.{Procedure}
use Rattle.bpl_ast.specs.declared.decl.Synonym.{Synonym}
use Rattle.hy_val.specs.declared.expr.Var.{Var}
use Rattle.hy_val.specs.declared.expr.Var.TheVariants.{Const, Global, Local}
use Rattle.hy_val.specs.declared.sort.Sort.{Sort}
use Rattle.type_pass.specs.declared.tables.Heading.{Heading}
use Rattle.type_pass.specs.declared.tables.Scope.{Scope}
use Rattle.type_pass.specs.declared.tables.Signature.{Signature}
use Rattle.type_pass.specs.declared.tables.Tables.{Tables}
use Rattle.type_pass.specs.declared.tables.Named.{Named}
use Rattle.type_pass.specs.Declarations.{Declared, synonyms, functions, procedures, implementations, constants, globals, in_parameters, in_heads, in_body, result_sort, text_if}
use Rattle.type_pass.specs.Meanings.{meaning_of}
use Rattle.type_pass.specs.Sorts.{sort_of}

-- ---- the tables of a program

abbrev pub named_of : List Synonym → Declared → Named
named_of types d = record { name = d.name.text; sort = sort_of types d.sort }

abbrev pub argument_of : List Synonym → FunctionArgument → Named
argument_of types a = record { name = text_if a.name; sort = sort_of types a.sort }

abbrev pub signature_of : List Synonym → Function → Signature
signature_of types f = record { name = f.name.text; arguments = map (argument_of types) f.arguments; output = sort_of types (result_sort f.output); meaning = meaning_of f }

abbrev pub sort_in : List Synonym → Declared → Sort
sort_in types d = sort_of types d.sort

-- an implementation has the name
abbrev pub is_implemented : Ast → List ℕ → Bool
is_implemented ast text = list_any (λ i. bytes_eq text i.name.text) (implementations ast)

abbrev pub heading_of : Ast → Procedure → Heading
heading_of ast p = record { name = p.name.text; ins = map (sort_in (synonyms ast)) (flat_map in_parameters p.heads.ins); outs = map (sort_in (synonyms ast)) (flat_map in_parameters p.heads.outs); has_body = is_some p.body || is_implemented ast p.name.text }

abbrev pub tables_of : Ast → Tables
tables_of ast = record { consts = map (named_of (synonyms ast)) (constants ast); globals = map (named_of (synonyms ast)) (globals ast); functions = map (signature_of (synonyms ast)) (functions ast); procedures = map (heading_of ast) (procedures ast) }

-- ---- scopes

-- in an axiom the constants are known
abbrev pub axiom_scope : Scope
axiom_scope = record { locals = []; ins = 0; globals = false }

-- in a function its arguments too
abbrev pub function_scope : Signature → Scope
function_scope f = record { locals = f.arguments; ins = length f.arguments; globals = false }

-- in a body the ins, the outs, the locals and the globals
abbrev pub body_scope : List Synonym → Heads → Body → Scope
body_scope types heads body = record { locals = map (named_of types) (in_heads heads ++ in_body body); ins = length (flat_map in_parameters heads.ins); globals = true }

-- ---- look-ups

-- the first of this name, as a variable with its sort
abbrev pub seen_as : (ℕ → Var) → List Named → List ℕ → Option (Var × Sort)
seen_as var names text = option_and_then (λ i. option_map (λ n. (var i, n.sort)) (slice_get names i)) (position (λ n. bytes_eq text n.name) names)

abbrev pub seen_if : Bool → Option (Var × Sort) → Option (Var × Sort)
seen_if known seen = if known then seen else None

-- A parameter, out or local hides a constant or global.
abbrev pub find_name : Tables → Scope → List ℕ → Option (Var × Sort)
find_name tables scope text = option_or (seen_as Local scope.locals text) (option_or (seen_as Const tables.consts text) (seen_if scope.globals (seen_as Global tables.globals text)))

-- a constant and an in-parameter never change
abbrev pub is_assignable : Scope → Var → Bool
is_assignable scope (Const n) = false
is_assignable scope (Global n) = true
is_assignable scope (Local n) = nat_le scope.ins n

abbrev pub function_named : Tables → List ℕ → Option Signature
function_named tables text = find (λ f. bytes_eq text f.name) tables.functions

abbrev pub procedure_named : Tables → List ℕ → Option Heading
procedure_named tables text = find (λ p. bytes_eq text p.name) tables.procedures

-- the sort alone of the first of this name
abbrev pub sort_named : List Named → List ℕ → Option Sort
sort_named names text = option_map (λ n. n.sort) (find (λ n. bytes_eq text n.name) names)

-- the sort alone of what `find_name` finds
abbrev pub sort_in_scope : Tables → Scope → List ℕ → Option Sort
sort_in_scope tables scope text = option_or (sort_named scope.locals text) (option_or (sort_named tables.consts text) (if scope.globals then sort_named tables.globals text else None))

-- the number of a procedure among those with a body
abbrev pub body_number : Tables → List ℕ → ℕ
body_number tables text = unwrap_or (position (λ p. bytes_eq text p.name) (filter (λ p. p.has_body) tables.procedures)) 0
