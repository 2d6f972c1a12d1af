-- The last of what is left is written next.
use Rattle.hy_val.proofs.Keeping.{remains_index, remains_next}
use Rattle.hy_val.proofs.whole.copy_with.Goals as goal

pub store-requires-clause-index : goal.store-requires-clause-index
store-requires-clause-index c =
    (remains_index c.args.m.now c.args.writes.items c.loop-i.map c.loop-i.writes.items c.pop.new.self.items _ _ c.loop-i.invariant c.in-Some.ensures.items).0

pub store-requires-clause-elem : goal.store-requires-clause-elem
store-requires-clause-elem c =
    (remains_index c.args.m.now c.args.writes.items c.loop-i.map c.loop-i.writes.items c.pop.new.self.items _ _ c.loop-i.invariant c.in-Some.ensures.items).1

pub loop-i-preserved : goal.loop-i-preserved
loop-i-preserved c =
    remains_next c.args.m.now c.args.writes.items c.loop-i.map c.store.new.m c.loop-i.writes.items c.pop.new.self.items _ _
    c.loop-i.invariant c.in-Some.ensures.items c.in_ok-store.ensures.ok
