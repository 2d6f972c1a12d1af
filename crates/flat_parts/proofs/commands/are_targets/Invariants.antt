use Rattle.std.proofs.Common.{◌≡◌, drop}
use Rattle.std.specs.List.{list_all}
use Rattle.hy_val.specs.Scope.{is_target}
use Rattle.flat_parts.proofs.commands.are_targets.Given as goal

abbrev pub invariant-loop-var : goal.invariant-loop-var
invariant-loop-var l = list_all (is_target l.known) (drop l.var-index l.vars) ≡ list_all (is_target l.known) l.vars
