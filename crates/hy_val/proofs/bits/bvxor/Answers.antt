use Rattle.std.proofs.lemmas.Nat.{xor_lt}
use Rattle.hy_val.proofs.bits.bvxor.Goals as goal

pub returns-clause-within : goal.returns-clause-within
returns-clause-within c = xor_lt c.args.width c.args.a c.args.b c.requires.left c.requires.right
