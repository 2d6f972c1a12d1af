use Rattle.std.proofs.Common.{ℕ, ◌<◌, get_or, refl, sym, subst}
use Rattle.type_pass.specs.Declarations.{functions}
use Rattle.bpl_type.proofs.TemplateLaws.{filled-step, filled-all, node-within}
use Rattle.bpl_type.proofs.templates.bodies.Goals as goal

pub fill-requires : goal.fill-requires
fill-requires c =
    let order = c.args.order.now in
    let i = c.loop-number.number-index in
    subst (λ (k : ℕ). get_or order i 0 < k) (sym c.loop-number.invariant.counted) (node-within (functions c.args.ast.now) order c.requires.order i (get_or order i 0) c.loop-number-test.true refl)

pub loop-number-preserved : goal.loop-number-preserved
loop-number-preserved c =
    filled-step c.args.ast.now c.requires.heads c.requires.commands c.requires.circles c.args.order.now c.requires.order c.loop-number.number-index (get_or c.args.order.now c.loop-number.number-index 0)
    c.args.known.now c.in_ok-functions.functions.items c.as_slice.result.now c.loop-number.bodies c.fill.new.bodies c.requires.known c.as_slice.ensures.value c.in_ok-functions.ensures
    c.loop-number-test.true refl c.in_ok-fill.ensures c.loop-number.invariant

pub returns : goal.returns
returns c =
    filled-all c.args.ast.now c.requires.heads c.requires.commands c.requires.circles c.args.order.now c.requires.order c.loop-number.number-index c.loop-number.bodies c.loop-number-test.false c.loop-number.invariant
