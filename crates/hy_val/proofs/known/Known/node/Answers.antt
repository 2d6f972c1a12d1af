-- What a store asks of its children's values follows from its sort.
use Rattle.std.proofs.Common.{[]}
use Rattle.hy_val.specs.Kept.{meant_onto}
use Rattle.hy_val.proofs.Evaluating.{store_known}
use Rattle.hy_val.proofs.Keeping.{store_may}
use Rattle.hy_val.proofs.known.Known.node.Goals as goal

pub returns-in-Store-clause-may : goal.returns-in-Store-clause-may
returns-in-Store-clause-may c =
    store_may c.args.self.now.env.now c.args.self.now.kept.now c.in-Store.map c.atom-in-Store.result c.atom-in-Store-2.result
    c.requires.keeps c.atom-in-Store.ensures.kept c.atom-in-Store-2.ensures.kept
    (store_known (meant_onto c.args.self.now.env.now [] c.args.self.now.kept.now) c.in-Store.map c.in-Store.index c.in-Store.value
    c.atom-in-Store.result c.atom-in-Store-2.result c.atom-in-Store.ensures.value c.atom-in-Store-2.ensures.value (rw c.in-Store.is at c.requires.sorts))
