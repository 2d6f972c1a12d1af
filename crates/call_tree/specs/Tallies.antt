-- How often a procedure stands among some. No public clause cites it.
use Rattle.std.specs.Prelude.{ℕ, List}
use Rattle.flat_prog.specs.Caps.{times, row_of}
use Rattle.call_tree.specs.declared.caps.Tally.{Tally}

abbrev pub tally_of : ℕ → List ℕ → Tally
tally_of proc passed = record { times = times proc passed; row = row_of proc passed }
