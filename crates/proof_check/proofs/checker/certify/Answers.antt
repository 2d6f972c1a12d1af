use Rattle.std.proofs.Common.{subst}
use Rattle.proof_check.specs.Verdict.{IsVerdict}
use Rattle.proof_check.proofs.Keeping.{bad_refutes}
use Rattle.proof_check.proofs.checker.certify.Goals as goal

pub returns-in-BadLine : goal.returns-in-BadLine
returns-in-BadLine c =
    let cs = c.args.cnf.clauses in
    let lines = c.args.log.lines in
    bad_refutes cs lines c.in-BadLine.index (subst (λ v. IsVerdict cs lines v) c.in-BadLine.is c.in_ok-check.ensures)
