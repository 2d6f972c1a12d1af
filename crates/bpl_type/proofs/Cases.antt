-- The definitions, computed on small programs. Each tree is that of the text above it.
use Rattle.std.proofs.Common.{◌≡◌, ℕ, Bool, true, false, List, [], ◌∷◌, Option, None, Some, Ok, Err, refl, ap, arith, ◌*◌}
use Rattle.std.specs.Prelude.{codes, ◌++◌, ◌+◌, nat_le}
use Rattle.bpl_ast.specs.declared.decl.Ast.{Ast}
use Rattle.bpl_ast.specs.declared.decl.Body.{Body}
use Rattle.bpl_ast.specs.declared.decl.Decl.{Decl}
use Rattle.bpl_ast.specs.declared.decl.Decl.TheVariants as decls
use Rattle.bpl_ast.specs.declared.decl.FunctionArgument.{FunctionArgument}
use Rattle.bpl_ast.specs.declared.decl.FunctionResult.{FunctionResult}
use Rattle.bpl_ast.specs.declared.decl.FunctionResult.TheVariants.{Plain}
use Rattle.bpl_ast.specs.declared.decl.ParameterGroup.{ParameterGroup}
use Rattle.bpl_ast.specs.declared.decl.Variables.{Variables}
use Rattle.bpl_ast.specs.declared.expr.Bracket.TheVariants as brackets
use Rattle.bpl_ast.specs.declared.expr.Expr.{Expr}
use Rattle.bpl_ast.specs.declared.expr.Expr.TheVariants as e
use Rattle.bpl_ast.specs.declared.name.Attribute.{Attribute}
use Rattle.bpl_ast.specs.declared.name.Name.{Name}
use Rattle.bpl_ast.specs.declared.sort.Sort.{Sort}
use Rattle.bpl_ast.specs.declared.sort.Sort.TheVariants as sorts
use Rattle.bpl_ast.specs.declared.stmt.Stmt.{Stmt}
use Rattle.bpl_ast.specs.declared.stmt.Stmt.TheVariants as stmts
use Rattle.bpl_ast.specs.declared.word.Word.TheVariants.{UniqueMap, MapEquality, Uninterpreted, NoBody}
use Rattle.hy_val.specs.declared.atom.AtomKind.TheVariants.{Bool as BoolAtom}
use Rattle.hy_val.specs.declared.expr.ExprNode.TheVariants as nodes
use Rattle.hy_val.specs.declared.expr.Var.TheVariants.{Const}
use Rattle.hy_val.specs.declared.operator.BvOp.TheVariants.{Eq, Implies}
use Rattle.hy_val.specs.declared.sort.ScalarKind.TheVariants.{Bool as BoolSort}
use Rattle.hy_val.specs.declared.sort.SortKind.TheVariants.{Scalar as ScalarSort}
use Rattle.type_pass.specs.declared.tables.Tables.{Tables}
use Rattle.type_pass.specs.declared.fault.TypeKind.TheVariants.{Unknown, Twice, Mismatch, Arity, Width, Cyclic, NotAssignable, Large, LeftOut}
use Rattle.bpl_type.specs.Checked.{checked, checked_within}
use Rattle.type_pass.specs.ExprSorts.{part}
use Rattle.type_pass.specs.Faults.{fault, told}
use Rattle.type_pass.specs.Scopes.{tables_of, axiom_scope}
use Rattle.bpl_type.specs.Sizes.{heavy_fault}
use Rattle.type_pass.specs.Sorts.{sort_faults, inside_map}
use Rattle.bpl_type.specs.Weights.{Templates, Weight, weight_by}
use Rattle.bpl_type.proofs.Equations.{equations}
use Rattle.bpl_type.proofs.WeightEquations.{weight-apply, weight-true}

abbrev program : List Decl → Ast
program ds = record { decls = ds }

abbrev name : ℕ → List ℕ → Name
name at text = record { at = at; text = text }

abbrev axiom_at : ℕ → Expr → Decl
axiom_at at condition = decls.Axiom (record { at = at; attributes = []; condition = condition })

abbrev synonym_at : ℕ → Name → Sort → Decl
synonym_at at n sort = decls.Synonym (record { at = at; attributes = []; name = n; sort = sort })

abbrev const_at : ℕ → Bool → List Name → Sort → Decl
const_at at unique names sort = decls.Constants (record { at = at; attributes = []; unique = unique; names = names; sort = sort })

abbrev variables_at : ℕ → List Name → Sort → Variables
variables_at at names sort = record { at = at; attributes = []; groups = record { at = at; names = names; sort = sort } ∷ [] }

abbrev var_at : ℕ → List Name → Sort → Decl
var_at at names sort = decls.Variables (variables_at at names sort)

abbrev parameter : Name → Sort → ParameterGroup
parameter n sort = record { at = n.at; attributes = []; names = n ∷ []; sort = sort }

abbrev body_at : ℕ → List Variables → List Stmt → Body
body_at at locals statements = record { at = at; locals = locals; statements = statements }

abbrev procedure_at : ℕ → Name → List ParameterGroup → List ParameterGroup → Option Body → Decl
procedure_at at n ins outs body = decls.Procedure (record { at = at; attributes = []; name = n; heads = record { at = n.at; ins = ins; outs = outs }; specs = []; body = body })

abbrev implementation_at : ℕ → Name → List ParameterGroup → List ParameterGroup → Body → Decl
implementation_at at n ins outs body = decls.Implementation (record { at = at; attributes = []; name = n; heads = record { at = n.at; ins = ins; outs = outs }; body = body })

abbrev function_at : ℕ → List Attribute → Name → List FunctionArgument → FunctionResult → Option Expr → Decl
function_at at attributes n arguments output body = decls.Function (record { at = at; attributes = attributes; name = n; arguments = arguments; output = output; body = body })

-- {:bvbuiltin "text"}
abbrev builtin_at : ℕ → ℕ → List ℕ → Attribute
builtin_at at within text = record { at = at; name = name within (codes "bvbuiltin"); tokens = record { at = within + 10; text = 34 ∷ (text ++ 34 ∷ []) } ∷ [] }

-- a name declared again
-- var a: bool; var a: bool;
pub name_twice : checked (program (var_at 0 ((name 4 (codes "a")) ∷ []) (sorts.Boolean 7) ∷ var_at 13 ((name 17 (codes "a")) ∷ []) (sorts.Boolean 20) ∷ [])) ≡ Err (fault 17 Twice)
name_twice = refl

-- an axiom of an unknown name
-- axiom b;
pub unknown_name : checked (program (axiom_at 0 (e.Variable (name 6 (codes "b"))) ∷ [])) ≡ Err (fault 6 Unknown)
unknown_name = simp (equations, sort_faults, inside_map) refl

-- two sides of two widths
-- axiom 1bv8 == 1bv9;
pub sides_differ : checked (program (axiom_at 0 (e.Equal 6 (e.Literal 6 8 1) (e.Literal 14 9 1)) ∷ [])) ≡ Err (fault 6 Mismatch)
sides_differ = simp (equations, sort_faults, inside_map) refl

-- a node that begins with a parenthesis begins there
-- axiom (1bv8) == 1bv9;
pub side_in_parentheses : checked (program (axiom_at 0 (e.Equal 6 (e.Literal 7 8 1) (e.Literal 16 9 1)) ∷ [])) ≡ Err (fault 6 Mismatch)
side_in_parentheses = simp (equations, sort_faults, inside_map) refl

-- a sum of widths above 64
-- axiom 1bv40 ++ 1bv40 == 0bv1;
pub sum_of_widths : checked (program (axiom_at 0 (e.Equal 6 (e.Concat 6 ((e.Literal 6 40 1) ∷ (e.Literal 15 40 1) ∷ [])) (e.Literal 24 1 0)) ∷ [])) ≡ Err (fault 6 Width)
sum_of_widths = simp (equations, sort_faults, inside_map) refl

-- in a chain the widths of the first two come before the third operand
-- axiom 1bv40 ++ 1bv40 ++ true == 0bv1;
pub width_before_operand : checked (program (axiom_at 0 (e.Equal 6 (e.Concat 6 ((e.Literal 6 40 1) ∷ (e.Literal 15 40 1) ∷ (e.True 24) ∷ [])) (e.Literal 32 1 0)) ∷ [])) ≡ Err (fault 6 Width)
width_before_operand = simp (equations, sort_faults, inside_map) refl

-- a function without meaning is used
-- function f(): bool; axiom f();
pub uninterpreted : checked (program (function_at 0 ([]) (name 9 (codes "f")) ([]) (Plain 12 (sorts.Boolean 14)) None ∷ axiom_at 20 (e.Apply (name 26 (codes "f")) ([])) ∷ [])) ≡ Err (fault 26 (LeftOut Uninterpreted))
uninterpreted = simp (equations, sort_faults, inside_map) refl

-- an unknown argument comes before its unknown function
-- axiom f(zzz);
pub argument_before_function : checked (program (axiom_at 0 (e.Apply (name 6 (codes "f")) ((e.Variable (name 8 (codes "zzz"))) ∷ [])) ∷ [])) ≡ Err (fault 8 Unknown)
argument_before_function = simp (equations, sort_faults, inside_map) refl

-- in an expression an unknown index comes before what is no map
-- const m: bool; axiom m[zzz];
pub index_before_map : checked (program (const_at 0 false ((name 6 (codes "m")) ∷ []) (sorts.Boolean 9) ∷ axiom_at 15 (e.Post 21 (e.Variable (name 21 (codes "m"))) (brackets.Select (e.Variable (name 23 (codes "zzz"))) ∷ [])) ∷ [])) ≡ Err (fault 23 Unknown)
index_before_map = simp (equations, sort_faults, inside_map) refl

-- on a left side what is no map comes before its index
-- procedure p() { var m: bool; m[zzz] := true; }
pub map_before_index : checked (program (procedure_at 0 (name 10 (codes "p")) ([]) ([]) (Some (body_at 14 (variables_at 16 ((name 20 (codes "m")) ∷ []) (sorts.Boolean 23) ∷ []) (stmts.Assign 29 (record { name = (name 29 (codes "m")); index = Some (e.Variable (name 31 (codes "zzz"))) } ∷ []) ((e.True 39) ∷ []) ∷ []))) ∷ [])) ≡ Err (fault 29 Mismatch)
map_before_index = simp (equations, sort_faults, inside_map) refl

-- an in-parameter is no target
-- procedure main(a: bool) { a := true; }
pub in_parameter : checked (program (procedure_at 0 (name 10 (codes "main")) (parameter (name 15 (codes "a")) (sorts.Boolean 18) ∷ []) ([]) (Some (body_at 24 ([]) (stmts.Assign 26 (record { name = (name 26 (codes "a")); index = None } ∷ []) ((e.True 31) ∷ []) ∷ []))) ∷ [])) ≡ Err (fault 26 NotAssignable)
in_parameter = simp (equations, sort_faults, inside_map) refl

-- the number of sides comes before an unknown target that isn't the first
-- procedure p() { var x: bool; x, zzz := true; }
pub count_before_name : checked (program (procedure_at 0 (name 10 (codes "p")) ([]) ([]) (Some (body_at 14 (variables_at 16 ((name 20 (codes "x")) ∷ []) (sorts.Boolean 23) ∷ []) (stmts.Assign 29 (record { name = (name 29 (codes "x")); index = None } ∷ record { name = (name 32 (codes "zzz")); index = None } ∷ []) ((e.True 39) ∷ []) ∷ []))) ∷ [])) ≡ Err (fault 29 Arity)
count_before_name = simp (equations, sort_faults, inside_map) refl

-- a target that can't be one comes before the unknown procedure
-- const c: bool; procedure p() { call c := q(); }
pub target_before_callee : checked (program (const_at 0 false ((name 6 (codes "c")) ∷ []) (sorts.Boolean 9) ∷ procedure_at 15 (name 25 (codes "p")) ([]) ([]) (Some (body_at 29 ([]) (stmts.Call 31 [] ((name 36 (codes "c")) ∷ []) (name 41 (codes "q")) ([]) ∷ []))) ∷ [])) ≡ Err (fault 36 NotAssignable)
target_before_callee = simp (equations, sort_faults, inside_map) refl

-- the number of arguments comes before the missing body
-- procedure q(); procedure p() { call q(true); }
pub count_before_no_body : checked (program (procedure_at 0 (name 10 (codes "q")) ([]) ([]) None ∷ procedure_at 15 (name 25 (codes "p")) ([]) ([]) (Some (body_at 29 ([]) (stmts.Call 31 [] ([]) (name 36 (codes "q")) ((e.True 38) ∷ []) ∷ []))) ∷ [])) ≡ Err (fault 36 Arity)
count_before_no_body = simp (equations, sort_faults, inside_map) refl

-- the missing body comes before an argument that doesn't fit
-- procedure q(a: bv8); procedure p() { call q(true); }
pub no_body_before_argument : checked (program (procedure_at 0 (name 10 (codes "q")) (parameter (name 12 (codes "a")) (sorts.Bits 15 8 (codes "bv8")) ∷ []) ([]) None ∷ procedure_at 21 (name 31 (codes "p")) ([]) ([]) (Some (body_at 35 ([]) (stmts.Call 37 [] ([]) (name 42 (codes "q")) ((e.True 44) ∷ []) ∷ []))) ∷ [])) ≡ Err (fault 42 (LeftOut NoBody))
no_body_before_argument = simp (equations, sort_faults, inside_map) refl

-- a unique map comes before an unknown type in it
-- const unique c: [zzz]bool;
pub unique_map : checked (program (const_at 0 true ((name 13 (codes "c")) ∷ []) (sorts.Map 16 (sorts.Named (name 17 (codes "zzz"))) (sorts.Boolean 21)) ∷ [])) ≡ Err (fault 16 (LeftOut UniqueMap))
unique_map = simp (equations, sort_faults, inside_map) refl

-- a synonym on a circle through a map; one that only leads there isn't told
-- type U = T; type T = [bool]T;
pub circle_through_map : checked (program (synonym_at 0 (name 5 (codes "U")) (sorts.Named (name 9 (codes "T"))) ∷ synonym_at 12 (name 17 (codes "T")) (sorts.Map 21 (sorts.Boolean 22) (sorts.Named (name 27 (codes "T")))) ∷ [])) ≡ Err (fault 17 Cyclic)
circle_through_map = simp (equations, sort_faults, inside_map) refl

-- the later of two bodies is told, whichever declaration that is
-- implementation p() { } procedure p() { }
pub second_body : checked (program (implementation_at 0 (name 15 (codes "p")) ([]) ([]) (body_at 19 ([]) ([])) ∷ procedure_at 23 (name 33 (codes "p")) ([]) ([]) (Some (body_at 37 ([]) ([]))) ∷ [])) ≡ Err (fault 33 Twice)
second_body = refl

-- two implementations of a name that no procedure has
-- implementation p() { } implementation p() { }
pub two_implementations : checked (program (implementation_at 0 (name 15 (codes "p")) ([]) ([]) (body_at 19 ([]) ([])) ∷ implementation_at 23 (name 38 (codes "p")) ([]) ([]) (body_at 42 ([]) ([])) ∷ [])) ≡ Err (fault 38 Twice)
two_implementations = refl

-- an attribute and a body
-- function {:bvbuiltin "bvnot"} f(): bool { true }
pub meaning_twice : checked (program (function_at 0 (builtin_at 9 11 (codes "bvnot") ∷ []) (name 30 (codes "f")) ([]) (Plain 33 (sorts.Boolean 35)) (Some (e.True 42)) ∷ [])) ≡ Err (fault 30 Twice)
meaning_twice = refl

-- an extension whose result no sort has
-- function {:bvbuiltin "zero_extend 60"} f(bv8): bv8;
pub extension_too_wide : checked (program (function_at 0 (builtin_at 9 11 (codes "zero_extend 60") ∷ []) (name 39 (codes "f")) (record { at = 41; name = None; sort = (sorts.Bits 41 8 (codes "bv8")) } ∷ []) (Plain 45 (sorts.Bits 47 8 (codes "bv8"))) None ∷ [])) ≡ Err (fault 39 Width)
extension_too_wide = simp (equations, sort_faults, inside_map) refl

-- an operator with a wrong number of arguments
-- function {:bvbuiltin "bvadd"} f(bv8): bv8;
pub operator_of_one : checked (program (function_at 0 (builtin_at 9 11 (codes "bvadd") ∷ []) (name 30 (codes "f")) (record { at = 32; name = None; sort = (sorts.Bits 32 8 (codes "bv8")) } ∷ []) (Plain 36 (sorts.Bits 38 8 (codes "bv8"))) None ∷ [])) ≡ Err (fault 30 Mismatch)
operator_of_one = simp (equations, sort_faults, inside_map) refl

-- one side is a map
-- const m: [bool]bool; axiom m == true;
pub map_equality : checked (program (const_at 0 false ((name 6 (codes "m")) ∷ []) (sorts.Map 9 (sorts.Boolean 10) (sorts.Boolean 15)) ∷ axiom_at 21 (e.Equal 27 (e.Variable (name 27 (codes "m"))) (e.True 32)) ∷ [])) ≡ Err (fault 27 (LeftOut MapEquality))
map_equality = simp (equations, sort_faults, inside_map) refl

-- two functions that use each other
-- function f(): bool { g() } function g(): bool { f() }
pub circle_of_uses : checked (program (function_at 0 ([]) (name 9 (codes "f")) ([]) (Plain 12 (sorts.Boolean 14)) (Some (e.Apply (name 21 (codes "g")) ([]))) ∷ function_at 27 ([]) (name 36 (codes "g")) ([]) (Plain 39 (sorts.Boolean 41)) (Some (e.Apply (name 48 (codes "f")) ([]))) ∷ [])) ≡ Err (fault 9 Cyclic)
circle_of_uses = simp (equations, sort_faults, inside_map) refl

-- more nodes than the limit, counted once the function is replaced
-- function f(a: bool): bool { a == a } axiom f(true);
pub too_large : checked_within 2 (program (function_at 0 ([]) (name 9 (codes "f")) (record { at = 11; name = (Some (name 11 (codes "a"))); sort = (sorts.Boolean 14) } ∷ []) (Plain 19 (sorts.Boolean 21)) (Some (e.Equal 28 (e.Variable (name 28 (codes "a"))) (e.Variable (name 33 (codes "a"))))) ∷ axiom_at 37 (e.Apply (name 43 (codes "f")) ((e.True 45) ∷ [])) ∷ [])) ≡ Err (fault 43 Large)
too_large = simp (equations, sort_faults, inside_map) refl

-- the same within the limit: the argument stands once for each use
-- function f(a: bool): bool { a == a } axiom f(true);
pub replaced : checked_within 3 (program (function_at 0 ([]) (name 9 (codes "f")) (record { at = 11; name = (Some (name 11 (codes "a"))); sort = (sorts.Boolean 14) } ∷ []) (Plain 19 (sorts.Boolean 21)) (Some (e.Equal 28 (e.Variable (name 28 (codes "a"))) (e.Variable (name 33 (codes "a"))))) ∷ axiom_at 37 (e.Apply (name 43 (codes "f")) ((e.True 45) ∷ [])) ∷ [])) ≡ Ok (record { consts = []; uniques = []; axioms = (nodes.Lit (BoolAtom true) ∷ nodes.Lit (BoolAtom true) ∷ nodes.Binary Eq 0 1 ∷ []) ∷ []; globals = []; procs = [] })
replaced = simp (equations, sort_faults, inside_map) refl

-- the operands stand in the order of the text
-- const c, d: bool; axiom c <== d;
pub implied_by : checked (program (const_at 0 false ((name 6 (codes "c")) ∷ (name 9 (codes "d")) ∷ []) (sorts.Boolean 12) ∷ axiom_at 18 (e.ImpliedBy 24 ((e.Variable (name 24 (codes "c"))) ∷ (e.Variable (name 30 (codes "d"))) ∷ [])) ∷ [])) ≡ Ok (record { consts = record { name = codes "c"; sort = ScalarSort BoolSort } ∷ record { name = codes "d"; sort = ScalarSort BoolSort } ∷ []; uniques = []; axioms = (nodes.Var (Const 0) (ScalarSort BoolSort) ∷ nodes.Var (Const 1) (ScalarSort BoolSort) ∷ nodes.Binary Implies 1 0 ∷ []) ∷ []; globals = []; procs = [] })
implied_by = simp (equations, sort_faults, inside_map) refl

-- an axiom knows no global
-- var g: bool; axiom g;
pub global_in_axiom : checked (program (var_at 0 ((name 4 (codes "g")) ∷ []) (sorts.Boolean 7) ∷ axiom_at 13 (e.Variable (name 19 (codes "g"))) ∷ [])) ≡ Err (fault 19 Unknown)
global_in_axiom = simp (equations, sort_faults, inside_map) refl

-- a function that doubles, counted by its template: one node, and its argument twice
-- function f(a: bool): bool { a == a } axiom f(f(f(true)));
abbrev doubling : Templates
doubling text = (1, 2 ∷ [])

abbrev thrice : Expr
thrice = e.Apply (name 43 (codes "f")) (e.Apply (name 45 (codes "f")) (e.Apply (name 47 (codes "f")) (e.True 49 ∷ []) ∷ []) ∷ [])

abbrev doubled : Tables
doubled = tables_of (program (function_at 0 [] (name 9 (codes "f")) (record { at = 11; name = Some (name 11 (codes "a")); sort = sorts.Boolean 14 } ∷ []) (Plain 19 (sorts.Boolean 21)) (Some (e.Equal 28 (e.Variable (name 28 (codes "a"))) (e.Variable (name 33 (codes "a"))))) ∷ axiom_at 37 thrice ∷ []))

abbrev nodes_in : Expr → ℕ
nodes_in x = weight_by doubling doubled axiom_scope x (λ n. 1)

doubles : (at : ℕ) (x : Expr) → nodes_in (e.Apply (name at (codes "f")) (x ∷ [])) ≡ 2 * nodes_in x + 1
doubles at x =
    let counts : nodes_in (e.Apply (name at (codes "f")) (x ∷ [])) ≡ 1 + (2 * nodes_in x + 0) = ap (λ (w : Weight). w (λ n. 1)) (weight-apply doubling doubled axiom_scope (name at (codes "f")) (x ∷ [])) in
    omega (arith, counts)

pub counted : nodes_in thrice ≡ 15
counted =
    let one : nodes_in (e.True 49) ≡ 1 = ap (λ (w : Weight). w (λ n. 1)) (weight-true doubling doubled axiom_scope 49) in
    let once = doubles 47 (e.True 49) in
    let twice = doubles 45 (e.Apply (name 47 (codes "f")) (e.True 49 ∷ [])) in
    let whole = doubles 43 (e.Apply (name 45 (codes "f")) (e.Apply (name 47 (codes "f")) (e.True 49 ∷ []) ∷ [])) in
    omega (arith, one, once, twice, whole)

-- a limit of as many nodes, which is a bound of one more, is no fault
pub counted_within : heavy_fault 16 doubling doubled axiom_scope thrice ≡ []
counted_within = ap (λ n. told (nat_le 16 n) (part doubled axiom_scope thrice).at Large) counted

-- one less is
pub counted_past : heavy_fault 15 doubling doubled axiom_scope thrice ≡ fault (part doubled axiom_scope thrice).at Large ∷ []
counted_past = ap (λ n. told (nat_le 15 n) (part doubled axiom_scope thrice).at Large) counted
