use Rattle.std.proofs.Common.{Some, rules, ◌∙◌, ap}
use Rattle.trace_text.proofs.Lines.{bad_here, end_here, gives_fault, gives_same, item_here}
use Rattle.trace_text.proofs.reading.trace_of_lines.Goals as goal

pub returns-in-None : goal.returns-in-None
returns-in-None c =
    gives_fault c.fault.result _ _ c.fault.ensures
    (bad_here (λ l. l.now) c.args.lines.now c.loop-index.index _ c.loop-index.items c.in_ok-line_of.field-0 _ (search rules) c.in_ok-line_of.ensures c.in-None.is c.loop-index.invariant)

pub returns-in-Some-End : goal.returns-in-Some-End
returns-in-Some-End c =
    gives_same c.ended.result _ _
    (end_here (λ l. l.now) c.args.lines.now c.loop-index.index _ c.loop-index.items c.in_ok-line_of.field-0 c.in-Some-End.proc c.in-Some-End.assert _ (search rules) c.in_ok-line_of.ensures
    (c.in-Some-End.is ∙ ap (λ f. Some f) c.in-Some-End.field-0-is) c.loop-index.invariant)
    c.ended.ensures

pub loop-index-preserved : goal.loop-index-preserved
loop-index-preserved c =
    item_here (λ l. l.now) c.args.lines.now c.loop-index.index _ c.loop-index.items c.push.new.self c.in_ok-line_of.field-0 c.in-Some-Item.item _ (search rules) c.in_ok-line_of.ensures
    (c.in-Some-Item.is ∙ ap (λ f. Some f) c.in-Some-Item.field-0-is) c.in_ok-push-in-Some-Item.ensures.ok c.loop-index.invariant
