use Rattle.std.proofs.Common.{◌≡◌, take}
use Rattle.src_run.specs.Search.{bool_choices}
use Rattle.src_run.proofs.searching.choices_of.Given as goal

abbrev pub invariant-loop-value : goal.invariant-loop-value
invariant-loop-value l = l.choices ≡ bool_choices (take l.value-index l.given)
