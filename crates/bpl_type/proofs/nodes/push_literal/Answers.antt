use Rattle.std.proofs.Common.{◌∙◌, sym}
use Rattle.std.proofs.lemmas.Result.{on_ok_weaker}
use Rattle.bpl_type.proofs.MakingLaws.{with-lit}
use Rattle.bpl_type.proofs.nodes.push_literal.Goals as goal

pub returns : goal.returns
returns c = on_ok_weaker c.push.result (λ e. e ∙ sym (with-lit c.args.out.now c.args.atom)) c.push.ensures.ok
