use Rattle.bpl_type.specs.Sizes.{heavy_decl}
use Rattle.bpl_type.specs.Tallies.{templates_of}
use Rattle.type_pass.proofs.CommandLaws.{flat-turn}
use Rattle.bpl_type.proofs.sizes.large_decls.Goals as goal

pub loop-decl-preserved : goal.loop-decl-preserved
loop-decl-preserved c =
    let w = c.args.weighing.now in
    flat-turn (heavy_decl w.most (templates_of w.known.now w.templates.now) w.known.now c.args.types.now) c.args.decls.now c.loop-decl.decl-index c.decl-item.result c.loop-decl.so_far c.in_ok-so_far.so_far _
    c.loop-decl-test.true c.decl-item.is c.in_ok-so_far.ensures c.loop-decl.invariant
