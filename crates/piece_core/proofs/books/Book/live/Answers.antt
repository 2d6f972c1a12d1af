use Rattle.std.proofs.Common.{◌≡◌, ◌+◌, Some, sym, ap, ◌∙◌, arith}
use Rattle.piece_core.specs.Book.{settled_of}
use Rattle.piece_core.proofs.Settled.{before_end, past_end, least_some, least_none, least_is}
use Rattle.piece_core.proofs.books.Book.live.Goals as goal

pub returns-then-self-len : goal.returns-then-self-len
returns-then-self-len c =
    rw (← c.self.view_is) (least_is c.self.inside.nodes.items c.self.inside.settled c.self.invariant.1.settled_is
    (before_end c.self.inside.nodes.items c.self.inside.settled _ c.self.invariant.1.settled_is (c.len.ensures ∙ c.self.inside.nodes.ok.0) c.if-self-len.true))

pub returns-else-self-len : goal.returns-else-self-len
returns-else-self-len c =
    rw (← c.self.view_is) (sym (least_none 0 c.self.inside.nodes.items
    (past_end c.self.inside.nodes.items c.self.inside.settled _ c.self.invariant.1.settled_is (c.len.ensures ∙ c.self.inside.nodes.ok.0) c.if-self-len.false)))
