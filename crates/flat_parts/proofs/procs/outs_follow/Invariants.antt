use Rattle.std.proofs.Common.{◌≡◌, drop}
use Rattle.flat_parts.specs.Parts.{outs_follow}
use Rattle.flat_parts.proofs.procs.outs_follow.Given as goal

abbrev pub invariant-loop-place : goal.invariant-loop-place
invariant-loop-place l = outs_follow (drop l.place l.ins) (drop l.place l.outs) ≡ outs_follow l.ins l.outs
