use Rattle.std.proofs.Common.{◌≡◌, take}
use Rattle.frontier.specs.Passed.{site_tables}
use Rattle.frontier.proofs.numbers.tables_of.Given as goal

abbrev pub invariant-loop-q : goal.invariant-loop-q
invariant-loop-q l = l.tables.items ≡ site_tables (take l.q-index l.procs)
