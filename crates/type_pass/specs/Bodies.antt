-- The faults of the expressions and commands of one declaration, where the signature of a function is known.
use Rattle.std.specs.Prelude.{List, [], Option, None, Some}
use Rattle.bpl_ast.specs.declared.decl.Decl.{Decl}
use Rattle.bpl_ast.specs.declared.decl.Decl.TheVariants as decls
use Rattle.bpl_ast.specs.declared.decl.Synonym.{Synonym}
use Rattle.bpl_ast.specs.declared.expr.Expr.{Expr}
use Rattle.type_pass.specs.declared.fault.TypeFault.{TypeFault}
use Rattle.type_pass.specs.declared.tables.Signature.{Signature}
use Rattle.type_pass.specs.declared.tables.Tables.{Tables}
use Rattle.type_pass.specs.Commands.{condition_faults}
use Rattle.type_pass.specs.Passes.{function_faults, body_faults}
use Rattle.type_pass.specs.Scopes.{axiom_scope}

abbrev pub signature_faults : Tables → Option Signature → Option Expr → List TypeFault
signature_faults tables None body = []
signature_faults tables (Some f) body = function_faults tables f body

abbrev pub decl_faults : Tables → List Synonym → Option Signature → Decl → List TypeFault
decl_faults tables types signature (decls.Function f) = signature_faults tables signature f.body
decl_faults tables types signature (decls.Axiom a) = condition_faults tables axiom_scope a.condition
decl_faults tables types signature (decls.Procedure p) = body_faults tables types p.heads p.body
decl_faults tables types signature (decls.Implementation i) = body_faults tables types i.heads (Some i.body)
decl_faults tables types signature _ = []
