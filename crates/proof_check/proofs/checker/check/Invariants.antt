use Rattle.std.proofs.Common.{◌≡◌, true, take}
use Rattle.std.specs.List.{list_any}
use Rattle.cnf_form.specs.Lines.{accepts, is_empty_line}
use Rattle.proof_check.proofs.checker.check.Given as goal

abbrev pub invariant-loop-i : goal.invariant-loop-i
invariant-loop-i l = record {
  accepted : accepts l.cnf.clauses (take l.i l.lines) ≡ true;
  empty : l.empty ≡ list_any is_empty_line (take l.i l.lines);
}
