use Rattle.std.proofs.Common.{◌≡◌, ◌++◌, drop}
use Rattle.extract_def.specs.Exits.{exits_of}
use Rattle.loop_extract.proofs.Walks.{exits_from}
use Rattle.loop_extract.proofs.exits.exits_of.Given as goal

abbrev pub invariant-loop-block : goal.invariant-loop-block
invariant-loop-block l = exits_of l.proc l.span ≡ l.exits ++ exits_from l.proc l.span l.block (drop l.block l.up)
