use Rattle.std.specs.Prelude.{flat_map, option_to_list}
use Rattle.bpl_type.specs.Sizes.{heavy_in}
use Rattle.type_pass.proofs.CommandLaws.{flat-turn}
use Rattle.bpl_type.proofs.sizes.large_targets.Goals as goal

pub loop-target-preserved : goal.loop-target-preserved
loop-target-preserved c =
    flat-turn (λ t. flat_map (heavy_in c.args.counting.now) (option_to_list t.index)) c.args.targets.now c.loop-target.target-index c.target-item.result c.loop-target.so_far c.in_ok-so_far.so_far _
    c.loop-target-test.true c.target-item.is c.in_ok-so_far.ensures c.loop-target.invariant
