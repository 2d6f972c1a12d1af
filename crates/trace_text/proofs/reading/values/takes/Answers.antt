use Rattle.std.proofs.Common.{rules}
use Rattle.trace_text.proofs.Pairs.{takes_none, takes_above}
use Rattle.trace_text.proofs.reading.values.takes.Goals as goal

pub returns-then-not-fits : goal.returns-then-not-fits
returns-then-not-fits c = takes_none c.args.found.now (c.args.index, c.args.entry) c.pairs-pairs.ensures.kept (search rules)

pub returns : goal.returns
returns c = let h = takes_above c.args.found.now (c.args.index, c.args.entry) c.pairs-pairs.ensures.kept (search rules) in search rules
