use Rattle.std.proofs.Common.{◌≡◌, drop}
use Rattle.flat_parts.specs.Parts.{all_call_on}
use Rattle.flat_parts.proofs.calls.all_call_on.Given as goal

abbrev pub invariant-loop-number : goal.invariant-loop-number
invariant-loop-number l = all_call_on l.procs l.number (drop l.number l.procs) ≡ all_call_on l.procs 0 l.procs
