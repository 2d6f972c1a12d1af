use Rattle.std.proofs.Common.{◌+◌, ◌<◌, ℕ, List, take, get_or, refl, sym, subst}
use Rattle.bpl_type.specs.declared.count.Tally.{Tally}
use Rattle.type_pass.specs.Declarations.{functions}
use Rattle.bpl_type.specs.Sizes.{AreCounted}
use Rattle.bpl_type.proofs.TallyTemplates.{tally-step, counted-all-functions}
use Rattle.bpl_type.proofs.TemplateLaws.{node-within}
use Rattle.bpl_type.proofs.tallies.tallies.Goals as goal

pub set-requires : goal.set-requires
set-requires c =
    let order = c.args.order.now in
    let i = c.loop-number.number-index in
    subst (λ (k : ℕ). get_or order i 0 < k) (sym c.loop-number.invariant.counted) (node-within (functions c.args.ast.now) order c.requires.order i (get_or order i 0) c.loop-number-test.true refl)

pub loop-number-preserved : goal.loop-number-preserved
loop-number-preserved c =
    let order = c.args.order.now in
    let i = c.loop-number.number-index in
    subst (λ (templates : List Tally). AreCounted c.args.most c.args.ast.now (take (i + 1) order) templates) (sym c.set.ensures)
    (tally-step c.args.most c.args.ast.now c.requires.heads c.requires.commands c.requires.circles order c.requires.order i (get_or order i 0)
    c.args.known.now c.in_ok-functions.functions.items c.as_slice.result.now c.loop-number.templates c.as_slice-in-loop-number.result.now c.in_ok-tally.tally
    c.requires.known c.as_slice.ensures.value c.in_ok-functions.ensures c.as_slice-in-loop-number.ensures c.loop-number-test.true refl c.loop-number.invariant c.in_ok-tally.ensures)

pub returns : goal.returns
returns c =
    counted-all-functions c.args.most c.args.ast.now c.requires.heads c.requires.commands c.requires.circles c.args.order.now c.requires.order c.loop-number.number-index c.loop-number.templates
    c.loop-number-test.false c.loop-number.invariant
