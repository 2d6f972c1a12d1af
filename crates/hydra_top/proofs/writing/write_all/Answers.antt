use Rattle.std.proofs.Common.{arith, ◌∙◌}
use Rattle.std.proofs.lemmas.Grind.{common_steps}
use Rattle.hydra_top.proofs.WriteSteps.{appends_more}
use Rattle.hydra_top.proofs.writing.write_all.Goals as goal

pub loop-at-preserved : goal.loop-at-preserved
loop-at-preserved g c = record {
  within = (let bound = c.in_ok-count.ensures.taken.0 in grind (arith, common_steps, bound, c.loop-at-test.true));
  written = appends_more (g.K.Sink.held c.args.out.now) (g.K.Sink.held c.loop-at.out) (g.K.Sink.held c.write.new.self) c.args.text.now c.loop-at.at c.in_ok-count.count c.loop-at.invariant.written c.in_ok-count.ensures.held;
  kept = c.in_ok-count.ensures.cause.kept ∙ c.loop-at.invariant.kept;
}
