use Rattle.bpl_type.specs.Sizes.{heavy_in}
use Rattle.type_pass.proofs.CommandLaws.{flat-turn}
use Rattle.bpl_type.proofs.sizes.large_invariants.Goals as goal

pub loop-invariant-preserved : goal.loop-invariant-preserved
loop-invariant-preserved c =
    flat-turn (λ i. heavy_in c.args.counting.now i.condition) c.args.invariants.now c.loop-invariant.invariant-index c.invariant-item.result c.loop-invariant.so_far c.in_ok-so_far.so_far _
    c.loop-invariant-test.true c.invariant-item.is c.in_ok-so_far.ensures c.loop-invariant.invariant
