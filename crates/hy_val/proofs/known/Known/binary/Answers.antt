use Rattle.std.proofs.Common.{[]}
use Rattle.hy_val.specs.Kept.{meant_onto}
use Rattle.hy_val.proofs.Evaluating.{binary_known}
use Rattle.hy_val.proofs.known.Known.binary.Goals as goal

pub apply-requires : goal.apply-requires
apply-requires c =
    binary_known c.args.op (meant_onto c.args.self.now.env.now [] c.args.self.now.kept.now) c.args.left c.args.right c.atom.result c.atom-2.result
    c.atom.ensures.value c.atom-2.ensures.value c.requires.fits
