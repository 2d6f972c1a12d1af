use Rattle.std.proofs.Common.{ap, ◌∙◌}
use Rattle.std.specs.Prelude.{codes}
use Rattle.std.proofs.lemmas.Result.{on_ok_weaker}
use Rattle.bpl_show.specs.Stmts as spec
use Rattle.bpl_show.specs.Tokens.{written}
use Rattle.bpl_show.proofs.Loops.{both}
use Rattle.bpl_show.proofs.commands.InvariantShow.show.Goals as goal

pub returns : goal.returns
returns c =
    let i = c.args.self.now in
    let same = ap (λ xs. written c.maybe_free.new.out (spec.condition (codes "invariant") xs i.condition)) c.as_slice.ensures in
    on_ok_weaker c.condition.result (λ rest. both (spec.maybe_free i.free) (spec.condition (codes "invariant") i.attributes i.condition) c.args.out.now c.maybe_free.new.out c.condition.new.out c.in_ok-maybe_free.ensures (rest ∙ same)) c.condition.ensures
