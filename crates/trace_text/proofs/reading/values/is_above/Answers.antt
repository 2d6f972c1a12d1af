use Rattle.std.proofs.Common.{◌∙◌, ap, nat_lt}
use Rattle.trace_text.proofs.Pairs.{above_by_last}
use Rattle.trace_text.proofs.reading.values.is_above.Goals as goal

pub returns-in-Some : goal.returns-in-Some
returns-in-Some c =
    ap (λ r. nat_lt r c.args.number) c.rank.ensures
    ∙ above_by_last c.args.number c.args.pairs.now c.in-Some.field-0-1.now c.in-Some.last.now c.in-Some.ensures.cases.0
