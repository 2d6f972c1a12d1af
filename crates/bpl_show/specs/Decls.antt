-- The tokens of declarations. A line ends after each declaration, variable line and spec, and at the braces of a body.
use Rattle.std.specs.Prelude.{Bool, true, false, List, [], ◌∷◌, ◌++◌, flat_map, Option, None, Some, codes}
use Rattle.bpl_ast.specs.declared.decl.Body.{Body}
use Rattle.bpl_ast.specs.declared.decl.Constants.{Constants}
use Rattle.bpl_ast.specs.declared.decl.Decl.{Decl}
use Rattle.bpl_ast.specs.declared.decl.Decl.TheVariants as decls
use Rattle.bpl_ast.specs.declared.decl.Function.{Function}
use Rattle.bpl_ast.specs.declared.decl.FunctionArgument.{FunctionArgument}
use Rattle.bpl_ast.specs.declared.decl.FunctionResult.{FunctionResult}
use Rattle.bpl_ast.specs.declared.decl.FunctionResult.TheVariants.{Returns, Plain}
use Rattle.bpl_ast.specs.declared.decl.Group.{Group}
use Rattle.bpl_ast.specs.declared.decl.Heads.{Heads}
use Rattle.bpl_ast.specs.declared.decl.Implementation.{Implementation}
use Rattle.bpl_ast.specs.declared.decl.Modifies.{Modifies}
use Rattle.bpl_ast.specs.declared.decl.ParameterGroup.{ParameterGroup}
use Rattle.bpl_ast.specs.declared.decl.Procedure.{Procedure}
use Rattle.bpl_ast.specs.declared.decl.Synonym.{Synonym}
use Rattle.bpl_ast.specs.declared.decl.Variables.{Variables}
use Rattle.bpl_ast.specs.declared.expr.Expr.{Expr}
use Rattle.bpl_ast.specs.declared.name.Name.{Name}
use Rattle.bpl_ast.specs.declared.sort.Sort.{Sort}
use Rattle.bpl_show.specs.Exprs.{whole}
use Rattle.bpl_show.specs.Names.{name, names, listed, attributes, sort}
use Rattle.bpl_show.specs.Stmts.{condition, naming, stmt}
use Rattle.bpl_show.specs.Tokens.{Token, word, last}

-- ---- types, constants and functions

-- names of one sort
abbrev pub typed : List Name → Sort → List Token
typed ns s = names ns ++ word (codes ":") ++ sort s

abbrev pub synonym : Synonym → List Token
synonym d = word (codes "type") ++ attributes d.attributes ++ name d.name ++ word (codes "=") ++ sort d.sort ++ last (codes ";")

abbrev pub maybe_unique : Bool → List Token
maybe_unique true = word (codes "unique")
maybe_unique false = []

abbrev pub constants : Constants → List Token
constants d = word (codes "const") ++ attributes d.attributes ++ maybe_unique d.unique ++ typed d.names d.sort ++ last (codes ";")

abbrev pub maybe_named : Option Name → List Token
maybe_named None = []
maybe_named (Some n) = name n ++ word (codes ":")

abbrev pub argument : FunctionArgument → List Token
argument a = maybe_named a.name ++ sort a.sort

abbrev pub output : FunctionResult → List Token
output (Returns at a) = word (codes "returns") ++ word (codes "(") ++ argument a ++ word (codes ")")
output (Plain at s) = word (codes ":") ++ sort s

-- a function stands on one line, with its body
abbrev pub function_end : Option Expr → List Token
function_end None = last (codes ";")
function_end (Some x) = word (codes "{") ++ whole x ++ last (codes "}")

abbrev pub function : Function → List Token
function d =
    word (codes "function") ++ attributes d.attributes ++ name d.name ++ word (codes "(") ++ listed argument d.arguments ++ word (codes ")") ++
    output d.output ++ function_end d.body

-- ---- variables and parameters

abbrev pub group : Group → List Token
group g = typed g.names g.sort

abbrev pub variables : Variables → List Token
variables d = word (codes "var") ++ attributes d.attributes ++ listed group d.groups ++ last (codes ";")

abbrev pub parameter_group : ParameterGroup → List Token
parameter_group g = attributes g.attributes ++ typed g.names g.sort

abbrev pub parameters : List ParameterGroup → List Token
parameters gs = word (codes "(") ++ listed parameter_group gs ++ word (codes ")")

-- `returns` stands only where there are outs
abbrev pub maybe_returns : List ParameterGroup → List Token
maybe_returns [] = []
maybe_returns (g ∷ gs) = word (codes "returns") ++ parameters (g ∷ gs)

abbrev pub heads : Heads → List Token
heads h = parameters h.ins ++ maybe_returns h.outs

-- ---- procedures

abbrev pub modifies : Modifies → List Token
modifies s = naming (codes "modifies") s.attributes s.names

abbrev pub body : Body → List Token
body b = last (codes "{") ++ flat_map variables b.locals ++ flat_map stmt b.statements ++ last (codes "}")

-- the first spec stands on the line of the heads; without a spec the line of a procedure without a body ends at its semicolon
abbrev pub bodiless : List Modifies → List Token
bodiless [] = last (codes ";")
bodiless (s ∷ ss) = word (codes ";") ++ flat_map modifies (s ∷ ss)

abbrev pub procedure_end : List Modifies → Option Body → List Token
procedure_end specs None = bodiless specs
procedure_end specs (Some b) = flat_map modifies specs ++ body b

abbrev pub procedure : Procedure → List Token
procedure d = word (codes "procedure") ++ attributes d.attributes ++ name d.name ++ heads d.heads ++ procedure_end d.specs d.body

abbrev pub implementation : Implementation → List Token
implementation d = word (codes "implementation") ++ attributes d.attributes ++ name d.name ++ heads d.heads ++ body d.body

-- ---- declarations

abbrev pub decl : Decl → List Token
decl (decls.Synonym d) = synonym d
decl (decls.Constants d) = constants d
decl (decls.Function d) = function d
decl (decls.Axiom d) = condition (codes "axiom") d.attributes d.condition
decl (decls.Variables d) = variables d
decl (decls.Procedure d) = procedure d
decl (decls.Implementation d) = implementation d
