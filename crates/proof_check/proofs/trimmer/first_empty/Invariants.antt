use Rattle.std.proofs.Common.{◌≡◌, false, take}
use Rattle.std.specs.List.{list_any}
use Rattle.cnf_form.specs.Lines.{is_empty_line}
use Rattle.proof_check.proofs.trimmer.first_empty.Given as goal

abbrev pub invariant-loop-i : goal.invariant-loop-i
invariant-loop-i l = list_any is_empty_line (take l.i l.lines) ≡ false
