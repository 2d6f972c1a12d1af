use Rattle.std.proofs.Common.{refl}
use Rattle.bpl_parse.proofs.Ranks.{rank_is}
use Rattle.bpl_parse.proofs.tokens.same_terminal.Goals as goal

pub returns : goal.returns
returns c = rw (rank_is c.args.a, rank_is c.args.b) refl
