use Rattle.trace_text.proofs.Lines.{end_cut, none_cut}
use Rattle.trace_text.proofs.reading.lines.without_empty_end.Goals as goal

pub returns-in-Some : goal.returns-in-Some
returns-in-Some c =
    end_cut (λ l. l.now) c.args.parts.now c.in-Some.front.now c.front_where_empty.result.now c.in-Some.last.now c.in-Some.ensures.cases.0 c.front_where_empty.ensures

pub returns-in-None : goal.returns-in-None
returns-in-None c = none_cut (λ l. l.now) c.args.parts.now c.in-None.ensures.cases
