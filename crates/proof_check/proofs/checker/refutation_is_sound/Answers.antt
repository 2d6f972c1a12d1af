use Rattle.cnf_form.proofs.Soundness.{refutes_sound}
use Rattle.proof_check.proofs.checker.refutation_is_sound.Goals as goal

pub returns : goal.returns
returns c = refutes_sound
