use Rattle.std.proofs.Common.{◌≡◌, subst}
use Rattle.std.specs.Result.{IfOk}
use Rattle.type_pass.specs.declared.tables.Scope.{Scope}
use Rattle.bpl_type.specs.WellMade.{expr_in}
use Rattle.bpl_type.proofs.ProgramMade.{axiom-made}
use Rattle.bpl_type.proofs.parts.typed_axiom.Goals as goal

pub expression-requires : goal.expression-requires
expression-requires c = axiom-made c.args.program.now c.args.stated.now c.in_ok-scope.scope c.in_ok-scope.ensures c.requires

pub returns : goal.returns
returns c = subst (λ (s : Scope). IfOk c.expression.result (λ made. made ≡ expr_in c.args.program.now.ast.now s c.args.stated.now.condition)) c.in_ok-scope.ensures c.expression.ensures
