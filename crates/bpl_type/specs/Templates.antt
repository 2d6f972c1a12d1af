-- The bodies of functions while they are made.
use Rattle.std.specs.Prelude.{◌≡◌, ℕ, List, slice_get, slice_set, Some}
use Rattle.bpl_ast.specs.declared.decl.Function.{Function}
use Rattle.hy_val.specs.declared.expr.ExprNode.{ExprNode}
use Rattle.type_pass.specs.declared.tables.Signature.{Signature}
use Rattle.type_pass.specs.declared.tables.Tables.{Tables}
use Rattle.bpl_type.specs.Making.{term_with}
use Rattle.type_pass.specs.Replaced.{body_term}
use Rattle.type_pass.specs.Scopes.{function_scope}
use Rattle.type_pass.specs.Terms.{nodes_of}

-- the body of the function of a number takes its place, made with the bodies that are there
abbrev pub IsFilled : Tables → List Function → ℕ → List (List ExprNode) → List (List ExprNode) → Type 0
IsFilled tables fs n old new = (f : Function) (s : Signature) → slice_get fs n ≡ Some f → slice_get tables.functions n ≡ Some s
    → new ≡ slice_set old n (nodes_of (body_term (term_with tables old (function_scope s)) f.body))
