-- The definition, computed on small programs. Each tree is that of the text above it.
use Rattle.std.proofs.Common.{◌≡◌, ℕ, true, List, [], ◌∷◌, Option, None, Some, refl, lit<}
use Rattle.std.specs.Prelude.{codes}
use Rattle.std.proofs.lemmas.Fmt.{decimal_digit}
use Rattle.bpl_ast.specs.declared.decl.Ast.{Ast}
use Rattle.bpl_ast.specs.declared.decl.Body.{Body}
use Rattle.bpl_ast.specs.declared.decl.Decl.{Decl}
use Rattle.bpl_ast.specs.declared.decl.Decl.TheVariants as decls
use Rattle.bpl_ast.specs.declared.decl.FunctionResult.TheVariants.{Returns}
use Rattle.bpl_ast.specs.declared.decl.Modifies.{Modifies}
use Rattle.bpl_ast.specs.declared.decl.ParameterGroup.{ParameterGroup}
use Rattle.bpl_ast.specs.declared.decl.Variables.{Variables}
use Rattle.bpl_ast.specs.declared.expr.Bracket.TheVariants as brackets
use Rattle.bpl_ast.specs.declared.expr.Expr.{Expr}
use Rattle.bpl_ast.specs.declared.expr.Expr.TheVariants as e
use Rattle.bpl_ast.specs.declared.name.Name.{Name}
use Rattle.bpl_ast.specs.declared.sort.Sort.{Sort}
use Rattle.bpl_ast.specs.declared.sort.Sort.TheVariants as sorts
use Rattle.bpl_ast.specs.declared.stmt.Else.TheVariants as others
use Rattle.bpl_ast.specs.declared.stmt.Guard.TheVariants.{Any, Condition}
use Rattle.bpl_ast.specs.declared.stmt.Stmt.{Stmt}
use Rattle.bpl_ast.specs.declared.stmt.Stmt.TheVariants as stmts
use Rattle.bpl_show.specs.Shown.{shown, shown_text}
use Rattle.bpl_show.specs.Tokens.{text_of}
use Rattle.bpl_show.proofs.Equations.{equations}

abbrev program : List Decl → Ast
program ds = record { decls = ds }

-- offsets are no part of the text
abbrev name : List ℕ → Name
name text = record { at = 0; text = text }

abbrev variable : List ℕ → Expr
variable text = e.Variable (name text)

abbrev a : Expr
a = variable (codes "a")

abbrev b : Expr
b = variable (codes "b")

abbrev c : Expr
c = variable (codes "c")

abbrev selected : Expr → Expr → Expr
selected x index = e.Post 0 x (brackets.Select index ∷ [])

abbrev axiom_of : Expr → Ast
axiom_of x = program (decls.Axiom (record { at = 0; attributes = []; condition = x }) ∷ [])

abbrev variables_of : List Name → Sort → Variables
variables_of names sort = record { at = 0; attributes = []; groups = record { at = 0; names = names; sort = sort } ∷ [] }

abbrev parameter : List ℕ → Sort → ParameterGroup
parameter n sort = record { at = 0; attributes = []; names = name n ∷ []; sort = sort }

abbrev body_of : List Variables → List Stmt → Body
body_of locals statements = record { at = 0; locals = locals; statements = statements }

abbrev procedure_of : List ParameterGroup → List ParameterGroup → List Modifies → Option Body → Decl
procedure_of ins outs specs body = decls.Procedure (record { at = 0; attributes = []; name = name (codes "p"); heads = record { at = 0; ins = ins; outs = outs }; specs = specs; body = body })

abbrev main_of : List Stmt → Ast
main_of statements = program (procedure_of [] [] [] (Some (body_of [] statements)) ∷ [])

abbrev modifies_of : List ℕ → Modifies
modifies_of text = record { at = 0; attributes = []; names = name text ∷ [] }

abbrev bits_sort : Sort
bits_sort = sorts.Bits 0 8 (codes "bv008")

-- var b:bool;procedure p(){assert ((b));}
pub two_lines : shown_text (program (decls.Variables (variables_of (name (codes "b") ∷ []) (sorts.Boolean 0)) ∷ procedure_of [] [] [] (Some (body_of [] (stmts.Assert 0 [] b ∷ []))) ∷ [])) ≡ codes "var b : bool ;\nprocedure p ( ) {\nassert b ;\n}\n"
unfolding shown_text shown text_of
two_lines = simp equations refl

-- ---- parentheses that the tree needs

-- axiom (a && b) && c;
pub conjunction : shown_text (axiom_of (e.And 0 (e.And 0 (a ∷ b ∷ []) ∷ c ∷ []))) ≡ codes "axiom ( a && b ) && c ;\n"
unfolding shown_text shown text_of
conjunction = simp equations refl

-- axiom (a ++ b) ++ c;
pub concatenation : shown_text (axiom_of (e.Concat 0 (e.Concat 0 (a ∷ b ∷ []) ∷ c ∷ []))) ≡ codes "axiom ( a ++ b ) ++ c ;\n"
unfolding shown_text shown text_of
concatenation = simp equations refl

-- axiom a <== (b <== c);
pub implied : shown_text (axiom_of (e.ImpliedBy 0 (a ∷ e.ImpliedBy 0 (b ∷ c ∷ []) ∷ []))) ≡ codes "axiom a <== ( b <== c ) ;\n"
unfolding shown_text shown text_of
implied = simp equations refl

-- axiom (a ==> b) ==> c;
pub implication_first : shown_text (axiom_of (e.Implies 0 (e.Implies 0 a b) c)) ≡ codes "axiom ( a ==> b ) ==> c ;\n"
unfolding shown_text shown text_of
implication_first = simp equations refl

-- axiom (!a)[b];
pub negation_of_map : shown_text (axiom_of (selected (e.Not 0 a) b)) ≡ codes "axiom ( ! a ) [ b ] ;\n"
unfolding shown_text shown text_of
negation_of_map = simp equations refl

-- axiom (if a then b else c) <==> a || b;
pub choice_in_chain : shown_text (axiom_of (e.Equivalent 0 (e.Choice 0 a b c ∷ e.Or 0 (a ∷ b ∷ []) ∷ []))) ≡ codes "axiom ( if a then b else c ) <==> a || b ;\n"
unfolding shown_text shown text_of
choice_in_chain = simp equations refl

-- axiom a ==> (if a then b else c);
pub choice_last : shown_text (axiom_of (e.Implies 0 a (e.Choice 0 a b c))) ≡ codes "axiom a ==> ( if a then b else c ) ;\n"
unfolding shown_text shown text_of
choice_last = simp equations refl

-- axiom (a == b) != (b <==> c);
pub equality_first : shown_text (axiom_of (e.NotEqual 0 (e.Equal 0 a b) (e.Equivalent 0 (b ∷ c ∷ [])))) ≡ codes "axiom ( a == b ) != ( b <==> c ) ;\n"
unfolding shown_text shown text_of
equality_first = simp equations refl

-- ---- parentheses that it does not need

-- axiom (a[b])[c];
pub brackets_twice : shown_text (axiom_of (selected (selected a b) c)) ≡ codes "axiom a [ b ] [ c ] ;\n"
unfolding shown_text shown text_of
brackets_twice = simp equations refl

-- axiom a ==> (b ==> c);
pub implication_last : shown_text (axiom_of (e.Implies 0 a (e.Implies 0 b c))) ≡ codes "axiom a ==> b ==> c ;\n"
unfolding shown_text shown text_of
implication_last = simp equations refl

-- axiom a ==> (b <== c);
pub implied_last : shown_text (axiom_of (e.Implies 0 a (e.ImpliedBy 0 (b ∷ c ∷ [])))) ≡ codes "axiom a ==> b <== c ;\n"
unfolding shown_text shown text_of
implied_last = simp equations refl

-- axiom !(!(a[b]));
pub negation_twice : shown_text (axiom_of (e.Not 0 (e.Not 0 (selected a b)))) ≡ codes "axiom ! ! a [ b ] ;\n"
unfolding shown_text shown text_of
negation_twice = simp equations refl

-- axiom f((if a then b else c), a[(if a then b else c)]);
pub choice_alone : shown_text (axiom_of (e.Apply (name (codes "f")) (e.Choice 0 a b c ∷ selected a (e.Choice 0 a b c) ∷ []))) ≡ codes "axiom f ( if a then b else c , a [ if a then b else c ] ) ;\n"
unfolding shown_text shown text_of
choice_alone = simp equations refl

-- ---- numbers

-- axiom 007bv008[08:00] ++ a[b := c] == 0bv1;
pub without_zeros : shown_text (axiom_of (e.Equal 0 (e.Concat 0 (e.Post 0 (e.Literal 0 8 7) (brackets.Extract 8 0 ∷ []) ∷ e.Post 0 a (brackets.Store b c ∷ []) ∷ [])) (e.Literal 0 1 0))) ≡ codes "axiom 7bv8 [ 8 : 0 ] ++ a [ b := c ] == 0bv1 ;\n"
unfolding shown_text shown text_of
without_zeros = simp (equations, decimal_digit 7 (lit< tt), decimal_digit 8 (lit< tt), decimal_digit 0 (lit< tt), decimal_digit 1 (lit< tt)) refl

-- ---- lines

-- function {:x 007} f(a: bv008, [(bool)]bool) returns (bool) { a }
pub function_on_a_line : shown_text (program (decls.Function (record { at = 0; attributes = record { at = 0; name = name (codes "x"); tokens = record { at = 0; text = codes "007" } ∷ [] } ∷ []; name = name (codes "f"); arguments = record { at = 0; name = Some (name (codes "a")); sort = bits_sort } ∷ record { at = 0; name = None; sort = sorts.Map 0 (sorts.Boolean 0) (sorts.Boolean 0) } ∷ []; output = Returns 0 (record { at = 0; name = None; sort = sorts.Boolean 0 }); body = Some a }) ∷ [])) ≡ codes "function { : x 007 } f ( a : bv008 , [ bool ] bool ) returns ( bool ) { a }\n"
unfolding shown_text shown text_of
function_on_a_line = simp equations refl

-- procedure p() returns (); procedure p(); modifies a; modifies b; procedure p() returns (a: bool) modifies b; { }
pub specs_on_lines : shown_text (program (procedure_of [] [] [] None ∷ procedure_of [] [] (modifies_of (codes "a") ∷ modifies_of (codes "b") ∷ []) None ∷ procedure_of [] (parameter (codes "a") (sorts.Boolean 0) ∷ []) (modifies_of (codes "b") ∷ []) (Some (body_of [] [])) ∷ [])) ≡ codes "procedure p ( ) ;\nprocedure p ( ) ; modifies a ;\nmodifies b ;\nprocedure p ( ) returns ( a : bool ) modifies b ;\n{\n}\n"
unfolding shown_text shown text_of
specs_on_lines = simp equations refl

-- procedure p() { A: if (*) { goto A; } else if (a) { return; } else { } while (a) free invariant b; { break; } }
pub blocks_on_lines : shown_text (main_of (stmts.Label (name (codes "A")) ∷ stmts.If (record { at = 0; attributes = []; guard = Any 0; then = stmts.Goto 0 [] (name (codes "A") ∷ []) ∷ []; other = others.If (record { at = 0; attributes = []; guard = Condition a; then = stmts.Return 0 [] ∷ []; other = others.Block [] }) }) ∷ stmts.While 0 [] (Condition a) (record { at = 0; free = true; attributes = []; condition = b } ∷ []) (stmts.Break 0 [] None ∷ []) ∷ [])) ≡ codes "procedure p ( ) {\nA :\nif ( * ) {\ngoto A ;\n}\nelse if ( a ) {\nreturn ;\n}\nelse {\n}\nwhile ( a ) free invariant b ;\n{\nbreak ;\n}\n}\n"
unfolding shown_text shown text_of
blocks_on_lines = simp equations refl

-- procedure p() { a, b[c] := (if a then b else c), b; call p(); call a, b := p((a), b); while (*) { } }
pub commands_on_lines : shown_text (main_of (stmts.Assign 0 (record { name = name (codes "a"); index = None } ∷ record { name = name (codes "b"); index = Some c } ∷ []) (e.Choice 0 a b c ∷ b ∷ []) ∷ stmts.Call 0 [] [] (name (codes "p")) [] ∷ stmts.Call 0 [] (name (codes "a") ∷ name (codes "b") ∷ []) (name (codes "p")) (a ∷ b ∷ []) ∷ stmts.While 0 [] (Any 0) [] [] ∷ [])) ≡ codes "procedure p ( ) {\na , b [ c ] := if a then b else c , b ;\ncall p ( ) ;\ncall a , b := p ( a , b ) ;\nwhile ( * ) {\n}\n}\n"
unfolding shown_text shown text_of
commands_on_lines = simp equations refl
