use Rattle.std.proofs.Common.{sym, arith}
use Rattle.trace_text.proofs.Printed.{no_names, no_choices, one_line}
use Rattle.trace_text.proofs.printing.put_choices.Goals as goal

pub returns-in-None : goal.returns-in-None
returns-in-None c = no_names c.loop-index.index c.args.names.now c.args.choices.now c.loop-index.text _ (sym (c.in-None.ensures {u = tt})) c.loop-index.invariant

pub loop-index-preserved : goal.loop-index-preserved
loop-index-preserved c =
    one_line c.loop-index.index c.args.names.now c.args.choices.now c.in-Some.name.now c.index-choices-index.result c.loop-index.text c.put_named.new.text _
    (sym (c.in-Some.ensures {u = tt})) (omega arith) c.index-choices-index.is (c.in_ok-put_named-in-Some.ensures {u = tt}) c.loop-index.invariant

pub returns : goal.returns
returns c = no_choices c.loop-index.index c.args.names.now c.args.choices.now c.loop-index.text _ (omega arith) c.loop-index.invariant
