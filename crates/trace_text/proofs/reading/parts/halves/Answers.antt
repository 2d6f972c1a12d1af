use Rattle.std.proofs.Common.{rules}
use Rattle.trace_text.proofs.Cuts.{not_halves}
use Rattle.trace_text.proofs.reading.parts.halves.Goals as goal

pub returns-in_default-Some : goal.returns-in_default-Some
returns-in_default-Some c =
    not_halves c.args.byte c.args.text.now c.cut.result.0.now c.in_ok-back.back.now c.cut-2.result.0.now c.in_default-Some.field-0-1.now (search rules) (search rules)
