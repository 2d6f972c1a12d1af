use Rattle.std.proofs.Common.{arith, length, ◌<◌}
use Rattle.std.proofs.lemmas.Grind.{common_steps}
use Rattle.cnf_form.proofs.Accepting.{accepts_more, empty_more, is_empty_list-length}
use Rattle.proof_check.proofs.checker.check.Goals as goal
use Rattle.proof_check.proofs.checker.check.Goals.{then-is_empty, else-is_empty}

pub loop-i-preserved : goal.loop-i-preserved
loop-i-preserved c =
    let lines = c.as_slice-lines.result.now in
    let line = c.index-lines-i.result in
    let within : c.loop-i.i < length lines = omega arith in
    record {
      accepted = accepts_more c.args.cnf.now.clauses lines c.loop-i.i line within c.index-lines-i.is c.loop-i.invariant.accepted (grind (arith, common_steps));
      empty = rw (empty_more lines c.loop-i.i line within c.index-lines-i.is, ← is_empty_list-length line.clause) (grind (arith, common_steps));
    }
