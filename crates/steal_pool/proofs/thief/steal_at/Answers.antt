use Rattle.std.proofs.Common.{refl}
use Rattle.crossbeam_deque.proofs.Lists.{at_index}
use Rattle.steal_pool.proofs.Passes.{thief_here}
use Rattle.steal_pool.proofs.thief.steal_at.Goals as goal

pub steal_by-requires : goal.steal_by-requires
steal_by-requires c = thief_here _ c.args.at c.args.passes.now.items _ c.requires.at c.index_mut-pass.ensures.value c.requires.pass

pub returns : goal.returns
returns c = (c.index_mut-pass.result.now, c.steal_by.new.pass, at_index _ c.args.at _ c.requires.at c.index_mut-pass.ensures.value, refl, c.steal_by.ensures.pass, c.steal_by.ensures.stolen)
