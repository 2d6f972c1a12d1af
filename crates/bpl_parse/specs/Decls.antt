-- program  = { decl } end
-- decl     = "type" {attr} id "=" sort ";"
--          | "const" {attr} ["unique"] ids ":" sort ";"
--          | "function" {attr} id "(" [ farg { "," farg } ] ")" result ( ";" | "{" expr "}" )
--          | "axiom" {attr} expr ";"
--          | "var" {attr} groups ";"
--          | "procedure" {attr} id heads ( ";" {spec} | {spec} body )
--          | "implementation" {attr} id heads body
-- farg     = [ id ":" ] sort
-- result   = "returns" "(" farg ")" | ":" sort
-- heads    = "(" [pgroups] ")" [ "returns" "(" [pgroups] ")" ]
-- groups   = ids ":" sort { "," ids ":" sort }
-- pgroups  = {attr} ids ":" sort { "," {attr} ids ":" sort }
-- spec     = "modifies" {attr} [ids] ";"
-- body     = "{" { "var" {attr} groups ";" } {stmt} "}"
-- None of these parentheses and braces nests.
use Rattle.std.specs.Prelude.{ℕ, Bool, false, zero, suc, List, [], Option, Some, None, is_some}
use Rattle.bpl_ast.specs.declared.decl.Ast.{Ast}
use Rattle.bpl_ast.specs.declared.decl.Body.{Body}
use Rattle.bpl_ast.specs.declared.decl.Decl.{Decl}
use Rattle.bpl_ast.specs.declared.decl.Decl.TheVariants as decls
use Rattle.bpl_ast.specs.declared.decl.FunctionArgument.{FunctionArgument}
use Rattle.bpl_ast.specs.declared.decl.FunctionResult.{FunctionResult}
use Rattle.bpl_ast.specs.declared.decl.FunctionResult.TheVariants as results
use Rattle.bpl_ast.specs.declared.decl.Group.{Group}
use Rattle.bpl_ast.specs.declared.decl.Heads.{Heads}
use Rattle.bpl_ast.specs.declared.decl.Modifies.{Modifies}
use Rattle.bpl_ast.specs.declared.decl.ParameterGroup.{ParameterGroup}
use Rattle.bpl_ast.specs.declared.decl.Variables.{Variables}
use Rattle.bpl_ast.specs.declared.expr.Expr.{Expr}
use Rattle.bpl_ast.specs.declared.name.Attribute.{Attribute}
use Rattle.bpl_ast.specs.declared.name.Name.{Name}
use Rattle.bpl_ast.specs.declared.sort.Sort.{Sort}
use Rattle.bpl_ast.specs.declared.sort.Sort.TheVariants as sorts
use Rattle.bpl_ast.specs.declared.stmt.Stmt.{Stmt}
use Rattle.bpl_tok.specs.declared.token.Terminal.TheVariants as k
use Rattle.bpl_tok.specs.declared.token.Token.{Token}
use Rattle.bpl_parse.specs.declared.place.Place.{Place}
use Rattle.bpl_parse.specs.declared.place.Place.TheVariants as at
use Rattle.bpl_rules.specs.Rules.{bottom, above, one, end, refuse, seq, made, placed, alt, maybe, many, sealed, never, behind, ended, separated}
use Rattle.bpl_parse.specs.Tests.{is, begins_sort, begins_parameter, begins_contract, begins_spec, begins_procedure_end, begins_decl}
use Rattle.bpl_parse.specs.Reader.{Reader, Levels, place_of}
use Rattle.bpl_parse.specs.Names.{name, names, attributes}
use Rattle.bpl_parse.specs.Sorts.{sort, unnamed_sort}
use Rattle.bpl_parse.specs.Exprs.{expr, implication, unary}
use Rattle.bpl_parse.specs.Stmts.{condition, statements, if_rest}

-- ---- types and constants

abbrev pub synonym_of : Token × (List Attribute × (Name × Sort)) → Decl
synonym_of x = decls.Synonym (record { at = x.0.at; attributes = x.1.0; name = x.1.1.0; sort = x.1.1.1 })

unfoldable pub synonym : List ℕ → Levels → Reader Decl
synonym s l = sealed (is k.TypeWord) false never (made synonym_of (seq (one at.Other (is k.TypeWord)) (seq (attributes s) (seq (name s at.Other) (behind at.SynonymSign (is k.EqualsSign) (ended (sort s l) at.AfterSort (is k.Semicolon)))))))

-- whether `unique` stands
abbrev pub uniqueness : Reader Bool
uniqueness = made is_some (maybe (one at.Other (is k.Unique)))

abbrev pub constants_of : Token × (List Attribute × (Bool × (List Name × Sort))) → Decl
constants_of x = decls.Constants (record { at = x.0.at; attributes = x.1.0; unique = x.1.1.0; names = x.1.1.1.0; sort = x.1.1.1.1 })

unfoldable pub constants : List ℕ → Levels → Reader Decl
constants s l = sealed (is k.Const) false never (made constants_of (seq (one at.Other (is k.Const)) (seq (attributes s) (seq uniqueness (seq (names s) (behind at.Other (is k.Colon) (ended (sort s l) at.AfterConstantSort (is k.Semicolon))))))))

-- ---- functions and axioms

-- a name and a sort, or a sort that is a name
abbrev pub named_argument_of : Name × Option Sort → FunctionArgument
named_argument_of (n, None) = record { at = n.at; name = None; sort = sorts.Named n }
named_argument_of (n, Some x) = record { at = n.at; name = Some n; sort = x }

abbrev pub argument_sort : List ℕ → Levels → Reader Sort
argument_sort s l = behind at.AfterSort (is k.Colon) (sort s l)

abbrev pub named_argument : List ℕ → Levels → Reader FunctionArgument
named_argument s l = made named_argument_of (seq (name s at.Sort) (maybe (argument_sort s l)))

abbrev pub unnamed_argument_of : Option Token → Sort → FunctionArgument
unnamed_argument_of t x = record { at = place_of t; name = None; sort = x }

abbrev pub unnamed_argument : List ℕ → Levels → Reader FunctionArgument
unnamed_argument s l = placed unnamed_argument_of (unnamed_sort s l)

unfoldable pub argument : List ℕ → Levels → Reader FunctionArgument
argument s l = sealed begins_sort false (is k.Colon) (alt (named_argument s l) (unnamed_argument s l))

abbrev pub no_function_arguments : Reader (List FunctionArgument)
no_function_arguments = made (λ t. []) (one at.Sort (is k.RightParen))

abbrev pub some_function_arguments : List ℕ → Levels → Reader (List FunctionArgument)
some_function_arguments s l = ended (separated at.Other (is k.Comma) (argument s l)) at.AfterSort (is k.RightParen)

abbrev pub function_arguments : List ℕ → Levels → Reader (List FunctionArgument)
function_arguments s l = alt no_function_arguments (some_function_arguments s l)

abbrev pub no_body : Place → Reader (Option Expr)
no_body place = made (λ t. None) (one place (is k.Semicolon))

abbrev pub some_body : List ℕ → Levels → Place → Reader (Option Expr)
some_body s l place = made Some (behind place (is k.LeftBrace) (ended (expr s l) at.AfterOperand (is k.RightBrace)))

abbrev pub function_body : List ℕ → Levels → Place → Reader (Option Expr)
function_body s l place = alt (no_body place) (some_body s l place)

abbrev pub returns_of : Token × FunctionArgument → FunctionResult
returns_of x = results.Returns x.0.at x.1

abbrev pub returned : List ℕ → Levels → Reader FunctionResult
returned s l = made returns_of (seq (one at.Other (is k.Returns)) (behind at.Other (is k.LeftParen) (ended (argument s l) at.AfterSort (is k.RightParen))))

abbrev pub plain_of : Token × Sort → FunctionResult
plain_of x = results.Plain x.0.at x.1

abbrev pub plain : List ℕ → Levels → Reader FunctionResult
plain s l = made plain_of (seq (one at.Other (is k.Colon)) (sort s l))

-- the result and the body, where a sort stands last
abbrev pub function_end : List ℕ → Levels → Reader (FunctionResult × Option Expr)
function_end s l = alt (seq (returned s l) (function_body s l at.Other)) (seq (plain s l) (function_body s l at.AfterSort))

abbrev pub function_of : Token × (List Attribute × (Name × (List FunctionArgument × (FunctionResult × Option Expr)))) → Decl
function_of x = decls.Function (record { at = x.0.at; attributes = x.1.0; name = x.1.1.0; arguments = x.1.1.1.0; output = x.1.1.1.1.0; body = x.1.1.1.1.1 })

unfoldable pub function : List ℕ → Levels → Reader Decl
function s l = sealed (is k.Function) false never (made function_of (seq (one at.Other (is k.Function)) (seq (attributes s) (seq (name s at.Other) (behind at.AfterDeclaredName (is k.LeftParen) (seq (function_arguments s l) (function_end s l)))))))

abbrev pub axiom_of : Token × (List Attribute × Expr) → Decl
axiom_of x = decls.Axiom (record { at = x.0.at; attributes = x.1.0; condition = x.1.1 })

unfoldable pub axiom_decl : List ℕ → Levels → Reader Decl
axiom_decl s l = sealed (is k.Axiom) false never (made axiom_of (seq (one at.Other (is k.Axiom)) (condition s l)))

-- ---- variables and parameters

abbrev pub group_of : Option Token → List Name × Sort → Group
group_of t x = record { at = place_of t; names = x.0; sort = x.1 }

unfoldable pub variable_group : List ℕ → Levels → Reader Group
variable_group s l = sealed (is k.Ident) false never (placed group_of (seq (names s) (behind at.Other (is k.Colon) (sort s l))))

abbrev pub variables_of : Token × (List Attribute × List Group) → Variables
variables_of x = record { at = x.0.at; attributes = x.1.0; groups = x.1.1 }

unfoldable pub variables : List ℕ → Levels → Reader Variables
variables s l = sealed (is k.Var) false never (made variables_of (seq (one at.Statement (is k.Var)) (seq (attributes s) (ended (separated at.Other (is k.Comma) (variable_group s l)) at.AfterSort (is k.Semicolon)))))

abbrev pub globals : List ℕ → Levels → Reader Decl
globals s l = made decls.Variables (variables s l)

abbrev pub parameter_group_of : Option Token → List Attribute × (List Name × Sort) → ParameterGroup
parameter_group_of t x = record { at = place_of t; attributes = x.0; names = x.1.0; sort = x.1.1 }

unfoldable pub parameter_group : List ℕ → Levels → Reader ParameterGroup
parameter_group s l = sealed begins_parameter false never (placed parameter_group_of (seq (attributes s) (seq (names s) (behind at.Other (is k.Colon) (sort s l)))))

abbrev pub no_parameters : Reader (List ParameterGroup)
no_parameters = made (λ t. []) (one at.Other (is k.RightParen))

abbrev pub some_parameters : List ℕ → Levels → Reader (List ParameterGroup)
some_parameters s l = ended (separated at.Other (is k.Comma) (parameter_group s l)) at.AfterSort (is k.RightParen)

-- any number of groups, and the parenthesis after them
abbrev pub parameters : List ℕ → Levels → Reader (List ParameterGroup)
parameters s l = alt no_parameters (some_parameters s l)

abbrev pub outs : List ℕ → Levels → Reader (List ParameterGroup)
outs s l = behind at.Other (is k.Returns) (behind at.Other (is k.LeftParen) (parameters s l))

-- no `returns` is the same as an empty one
abbrev pub groups_of : Option (List ParameterGroup) → List ParameterGroup
groups_of None = []
groups_of (Some x) = x

abbrev pub maybe_outs : List ℕ → Levels → Reader (List ParameterGroup)
maybe_outs s l = made groups_of (maybe (outs s l))

abbrev pub heads_of : Token × (List ParameterGroup × List ParameterGroup) → Heads
heads_of x = record { at = x.0.at; ins = x.1.0; outs = x.1.1 }

unfoldable pub heads : List ℕ → Levels → Reader Heads
heads s l = sealed (is k.LeftParen) false (is k.Returns) (made heads_of (seq (one at.AfterDeclaredName (is k.LeftParen)) (seq (parameters s l) (maybe_outs s l))))

-- ---- procedures

abbrev pub body_of : Token × (List Variables × List Stmt) → Body
body_of x = record { at = x.0.at; locals = x.1.0; statements = x.1.1 }

unfoldable pub body : List ℕ → Levels → Reader Body
body s l = sealed (is k.LeftBrace) false never (made body_of (seq (one at.Other (is k.LeftBrace)) (seq (many (variables s l)) (ended (statements s l) at.Statement (is k.RightBrace)))))

abbrev pub names_of : Option (List Name) → List Name
names_of None = []
names_of (Some x) = x

abbrev pub maybe_names : List ℕ → Reader (List Name)
maybe_names s = made names_of (maybe (names s))

abbrev pub modifies_of : Token × (List Attribute × List Name) → Modifies
modifies_of x = record { at = x.0.at; attributes = x.1.0; names = x.1.1 }

unfoldable pub modifies : List ℕ → Reader Modifies
modifies s = sealed (is k.Modifies) false never (made modifies_of (seq (one at.Spec (is k.Modifies)) (seq (attributes s) (ended (maybe_names s) at.Other (is k.Semicolon)))))

-- `requires`, `ensures` and `free` are no specs of this language; where a spec may stand they are told as contracts
unfoldable pub contract : Reader Modifies
contract = sealed begins_contract false never (refuse at.Spec)

unfoldable pub spec : List ℕ → Reader Modifies
spec s = sealed begins_spec false never (alt (modifies s) contract)

abbrev pub bodiless : List ℕ → Reader (List Modifies × Option Body)
bodiless s = made (λ x. (x, None)) (behind at.Other (is k.Semicolon) (many (spec s)))

abbrev pub bodied : List ℕ → Levels → Reader (List Modifies × Option Body)
bodied s l = made (λ x. (x.0, Some x.1)) (seq (many (spec s)) (body s l))

unfoldable pub procedure_end : List ℕ → Levels → Reader (List Modifies × Option Body)
procedure_end s l = sealed begins_procedure_end false begins_spec (alt (bodiless s) (bodied s l))

abbrev pub procedure_of : Token × (List Attribute × (Name × (Heads × (List Modifies × Option Body)))) → Decl
procedure_of x = decls.Procedure (record { at = x.0.at; attributes = x.1.0; name = x.1.1.0; heads = x.1.1.1.0; specs = x.1.1.1.1.0; body = x.1.1.1.1.1 })

unfoldable pub procedure : List ℕ → Levels → Reader Decl
procedure s l = sealed (is k.Procedure) false begins_spec (made procedure_of (seq (one at.Other (is k.Procedure)) (seq (attributes s) (seq (name s at.Other) (seq (heads s l) (procedure_end s l))))))

abbrev pub implementation_of : Token × (List Attribute × (Name × (Heads × Body))) → Decl
implementation_of x = decls.Implementation (record { at = x.0.at; attributes = x.1.0; name = x.1.1.0; heads = x.1.1.1.0; body = x.1.1.1.1 })

unfoldable pub implementation : List ℕ → Levels → Reader Decl
implementation s l = sealed (is k.Implementation) false never (made implementation_of (seq (one at.Other (is k.Implementation)) (seq (attributes s) (seq (name s at.Other) (seq (heads s l) (body s l))))))

-- ---- programs

unfoldable pub decl : List ℕ → Levels → Reader Decl
decl s l = sealed begins_decl false begins_spec (alt (synonym s l) (alt (constants s l) (alt (function s l) (alt (axiom_decl s l) (alt (globals s l) (alt (procedure s l) (implementation s l)))))))

abbrev pub ast_of : List Decl × Unit {0} → Ast
ast_of x = record { decls = x.0 }

unfoldable pub program : List ℕ → Levels → Reader Ast
program s l = made ast_of (seq (many (decl s l)) (end at.Other))

-- what may be nested where this many levels are left
unfoldable pub levels : List ℕ → ℕ → Levels
levels s zero = record { sorts = bottom; exprs = bottom; impls = bottom; unaries = bottom; blocks = bottom; ifs = bottom }
levels s (suc depth) = record {
  sorts = above (sort s (levels s depth));
  exprs = above (expr s (levels s depth));
  impls = above (implication s (levels s depth));
  unaries = above (unary s (levels s depth));
  blocks = above (statements s (levels s depth));
  ifs = above (if_rest s (levels s depth));
}

-- the grammar of a source whose phrases nest at most this deep
unfoldable pub whole : List ℕ → ℕ → Reader Ast
whole s depth = program s (levels s depth)
