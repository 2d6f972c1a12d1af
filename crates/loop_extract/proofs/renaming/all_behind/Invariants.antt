use Rattle.std.proofs.Common.{◌≡◌, map, take}
use Rattle.extract_def.specs.Renaming.{behind}
use Rattle.loop_extract.proofs.renaming.all_behind.Given as goal

abbrev pub invariant-loop-var : goal.invariant-loop-var
invariant-loop-var l = l.all ≡ map (behind l.by) (take l.var-index l.vars)
