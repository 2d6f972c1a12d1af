use Rattle.std.proofs.Common.{◌<◌, length, arith}
use Rattle.hydra_top.specs.Reading.{limit}
use Rattle.hydra_top.proofs.ReadSteps.{too_long}
use Rattle.hydra_top.proofs.reading.read_rest.Goals as goal

pub returns-clause-left : goal.returns-clause-left
returns-clause-left g c =
    let long : limit < length c.loop-buffer.bytes = omega arith in
    too_long (g.S.Shelf.left c.args.shelf.now) (g.S.Shelf.left c.loop-buffer.shelf) c.loop-buffer.bytes c.loop-buffer.invariant.consumed long c.loop-buffer.invariant.few
