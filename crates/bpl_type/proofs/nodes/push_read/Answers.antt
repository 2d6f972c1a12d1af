use Rattle.std.proofs.Common.{◌∙◌, sym, ap}
use Rattle.std.proofs.lemmas.Result.{on_ok_weaker}
use Rattle.bpl_type.specs.Making.{with_term}
use Rattle.type_pass.specs.Replaced.{read_if}
use Rattle.bpl_type.proofs.MakingLaws.{with-read}
use Rattle.bpl_type.proofs.nodes.push_read.Goals as goal

pub returns-in-Some : goal.returns-in-Some
returns-in-Some c =
    on_ok_weaker c.push.result (λ e. e ∙ sym (with-read c.args.out.now c.in-Some.seen.0 c.in-Some.seen.1) ∙ ap (λ o. with_term c.args.out.now (read_if o)) (sym c.in-Some.is)) c.push.ensures.ok
