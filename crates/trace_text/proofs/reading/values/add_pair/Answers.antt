use Rattle.std.proofs.Common.{sym}
use Rattle.trace_text.proofs.Pairs.{added, index_fits, entry_fits}
use Rattle.trace_text.proofs.reading.values.add_pair.Goals as goal

pub store-requires-clause-index : goal.store-requires-clause-index
store-requires-clause-index c = index_fits c.args.found.now (_, _) (sym c.if-not-takes.ensures)

pub store-requires-clause-elem : goal.store-requires-clause-elem
store-requires-clause-elem c = entry_fits c.args.found.now (_, _) (sym c.if-not-takes.ensures)

pub returns : goal.returns
returns c = added c.args.found.now c.store.new.m _ (_, _) c.in-Some.ensures (sym c.if-not-takes.ensures) c.in_ok-store.ensures.ok
