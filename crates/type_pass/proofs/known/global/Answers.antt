use Rattle.std.proofs.Common.{None, Some}
use Rattle.hy_val.specs.declared.expr.Var.TheVariants.{Global}
use Rattle.type_pass.proofs.OperandLaws.{seen-is}
use Rattle.type_pass.proofs.known.global.Goals as goal

pub returns-in-None : goal.returns-in-None
returns-in-None c = seen-is Global c.args.names.now c.args.text.now None c.in-None.ensures

pub returns-in-Some : goal.returns-in-Some
returns-in-Some c = seen-is Global c.args.names.now c.args.text.now (Some c.in-Some.found) c.in-Some.ensures
