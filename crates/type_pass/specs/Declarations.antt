-- What a program declares, in the order of the text.
use Rattle.std.specs.Prelude.{ℕ, Bool, true, false, List, [], ◌∷◌, ◌++◌, map, flat_map, Option, None, Some, is_some, codes}
use Rattle.std.specs.List.{list_any}
use Rattle.std.specs.Str.{bytes_eq}
use Rattle.bpl_ast.specs.declared.decl.Ast.{Ast}
use Rattle.bpl_ast.specs.declared.decl.Axiom.{Axiom}
use Rattle.bpl_ast.specs.declared.decl.Body.{Body}
use Rattle.bpl_ast.specs.declared.decl.Constants.{Constants}
use Rattle.bpl_ast.specs.declared.decl.Decl.{Decl}
use Rattle.bpl_ast.specs.declared.decl.Decl.TheVariants as decls
use Rattle.bpl_ast.specs.declared.decl.Function.{Function}
use Rattle.bpl_ast.specs.declared.decl.FunctionResult.{FunctionResult}
use Rattle.bpl_ast.specs.declared.decl.FunctionResult.TheVariants.{Returns, Plain}
use Rattle.bpl_ast.specs.declared.decl.Group.{Group}
use Rattle.bpl_ast.specs.declared.decl.Heads.{Heads}
use Rattle.bpl_ast.specs.declared.decl.Implementation.{Implementation}
use Rattle.bpl_ast.specs.declared.decl.ParameterGroup.{ParameterGroup}
use Rattle.bpl_ast.specs.declared.decl.Procedure.{Procedure}
use Rattle.bpl_ast.specs.declared.decl.Synonym.{Synonym}
use Rattle.bpl_ast.specs.declared.decl.Variables.{Variables}
use Rattle.bpl_ast.specs.declared.name.Attribute.{Attribute}
use Rattle.bpl_ast.specs.declared.name.Name.{Name}
use Rattle.bpl_ast.specs.declared.sort.Sort.{Sort}

-- a name, with the sort that the text gives it
pub record Declared : Type 0 where
  pub name : Name
  pub sort : Sort

abbrev pub declared : Sort → Name → Declared
declared sort name = record { name = name; sort = sort }

-- ---- the declarations of each kind

abbrev pub synonym_of : Decl → List Synonym
synonym_of (decls.Synonym s) = s ∷ []
synonym_of _ = []

abbrev pub synonyms : Ast → List Synonym
synonyms ast = flat_map synonym_of ast.decls

abbrev pub constants_of : Decl → List Constants
constants_of (decls.Constants c) = c ∷ []
constants_of _ = []

abbrev pub constant_groups : Ast → List Constants
constant_groups ast = flat_map constants_of ast.decls

abbrev pub function_of : Decl → List Function
function_of (decls.Function f) = f ∷ []
function_of _ = []

abbrev pub functions : Ast → List Function
functions ast = flat_map function_of ast.decls

abbrev pub axiom_of : Decl → List Axiom
axiom_of (decls.Axiom a) = a ∷ []
axiom_of _ = []

abbrev pub axioms : Ast → List Axiom
axioms ast = flat_map axiom_of ast.decls

abbrev pub variables_of : Decl → List Variables
variables_of (decls.Variables v) = v ∷ []
variables_of _ = []

abbrev pub procedure_of : Decl → List Procedure
procedure_of (decls.Procedure p) = p ∷ []
procedure_of _ = []

abbrev pub procedures : Ast → List Procedure
procedures ast = flat_map procedure_of ast.decls

abbrev pub implementation_of : Decl → List Implementation
implementation_of (decls.Implementation i) = i ∷ []
implementation_of _ = []

abbrev pub implementations : Ast → List Implementation
implementations ast = flat_map implementation_of ast.decls

-- ---- names with their sorts

abbrev pub in_constants : Constants → List Declared
in_constants c = map (declared c.sort) c.names

abbrev pub in_group : Group → List Declared
in_group g = map (declared g.sort) g.names

abbrev pub in_variables : Variables → List Declared
in_variables v = flat_map in_group v.groups

abbrev pub in_parameters : ParameterGroup → List Declared
in_parameters g = map (declared g.sort) g.names

abbrev pub in_heads : Heads → List Declared
in_heads h = flat_map in_parameters h.ins ++ flat_map in_parameters h.outs

abbrev pub constants : Ast → List Declared
constants ast = flat_map in_constants (constant_groups ast)

abbrev pub globals : Ast → List Declared
globals ast = flat_map in_variables (flat_map variables_of ast.decls)

-- the locals of a body, without the parameters
abbrev pub in_body : Body → List Declared
in_body b = flat_map in_variables b.locals

-- whether each constant is unique
abbrev pub flags_of : Constants → List Bool
flags_of c = map (λ n. c.unique) c.names

abbrev pub unique_flags : Ast → List Bool
unique_flags ast = flat_map flags_of (constant_groups ast)

-- ---- functions

abbrev pub result_sort : FunctionResult → Sort
result_sort (Returns at argument) = argument.sort
result_sort (Plain at sort) = sort

abbrev pub result_name : FunctionResult → Option Name
result_name (Returns at argument) = argument.name
result_name (Plain at sort) = None

-- the bytes of a name, or none of an argument without a name
abbrev pub text_if : Option Name → List ℕ
text_if None = []
text_if (Some n) = n.text

abbrev pub is_builtin_attribute : Attribute → Bool
is_builtin_attribute a = bytes_eq a.name.text (codes "bvbuiltin")

-- an attribute `bvbuiltin`, whatever it holds
abbrev pub has_builtin : Function → Bool
has_builtin f = list_any is_builtin_attribute f.attributes

-- ---- bodies

-- the name of a procedure with a body, or of an implementation
abbrev pub name_where : Bool → Name → List Name
name_where true n = n ∷ []
name_where false n = []

abbrev pub body_name : Decl → List Name
body_name (decls.Procedure p) = name_where (is_some p.body) p.name
body_name (decls.Implementation i) = i.name ∷ []
body_name _ = []

abbrev pub body_names : Ast → List Name
body_names ast = flat_map body_name ast.decls

-- constants and globals, which share one space of names
abbrev pub value_name : Decl → List Name
value_name (decls.Constants c) = c.names
value_name (decls.Variables v) = map (λ d. d.name) (in_variables v)
value_name _ = []

abbrev pub value_names : Ast → List Name
value_names ast = flat_map value_name ast.decls
