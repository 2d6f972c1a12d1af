use Rattle.std.proofs.Common.{◌∙◌, sym}
use Rattle.src_run.proofs.Takes.{asks_some, asks_none}
use Rattle.src_run.proofs.choosing.asks_const.Goals as goal

pub returns-in-Some : goal.returns-in-Some
returns-in-Some c = c.is_const.ensures ∙ sym (asks_some c.args.state.now.given c.args.state.now.wants c.in-Some.asked.now (sym (rw c.as_slice.ensures at (c.in-Some.ensures {u = tt}))))

pub returns-in-None : goal.returns-in-None
returns-in-None c = sym (asks_none c.args.state.now.given c.args.state.now.wants (sym (rw c.as_slice.ensures at (c.in-None.ensures {u = tt}))))
