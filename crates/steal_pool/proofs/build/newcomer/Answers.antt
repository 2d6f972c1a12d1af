use Rattle.std.proofs.Common.{refl, arith}
use Rattle.steal_pool.proofs.Moves.{begins}
use Rattle.steal_pool.proofs.Meetings.{slots_are}
use Rattle.steal_pool.proofs.build.newcomer.Goals as goal

pub fifo_as-requires : goal.fifo_as-requires
fifo_as-requires c = begins

pub returns : goal.returns
returns c = record {
  number = refl;
  port = c.in_ok-owner.ensures.2;
  flavor = c.in_ok-owner.ensures.1;
  sees = c.in_ok-owner.ensures.4;
  capacity = slots_are _ c.in_ok-owner.ensures.0;
  room = omega (arith, c.min-room.ensures, c.capacity.ensures);
  index = c.in_ok-owner.ensures.3;
  counts = (refl, refl);
  below = c.new.ensures.items;
  above = c.new-2.ensures.items;
}
