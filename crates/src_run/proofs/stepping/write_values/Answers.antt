use Rattle.std.proofs.Common.{◌∙◌, sym, arith}
use Rattle.src_run.proofs.Stacked.{written_end}
use Rattle.src_run.proofs.stepping.write_values.Goals as goal

pub returns : goal.returns
returns c = sym (written_end c.loop-index.env c.loop-index.index c.args.vars.now c.args.values.now (omega (arith, c.min-count.ensures))) ∙ c.loop-index.invariant
