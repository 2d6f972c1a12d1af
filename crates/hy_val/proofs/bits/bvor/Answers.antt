use Rattle.std.proofs.lemmas.Nat.{or_lt}
use Rattle.hy_val.proofs.bits.bvor.Goals as goal

pub returns-clause-within : goal.returns-clause-within
returns-clause-within c = or_lt c.args.width c.args.a c.args.b c.requires.left c.requires.right
