use Rattle.std.proofs.Common.{◌++◌}
use Rattle.std.specs.Prelude.{codes}
use Rattle.bpl_show.specs.Tokens.{word}
use Rattle.bpl_show.proofs.Loops.{both, step, done}
use Rattle.bpl_show.proofs.lists.behind_commas.Goals as goal

pub loop-item-preserved : goal.loop-item-preserved
loop-item-preserved g c =
    let item = c.item-item.result in
    let wrote = both (word (codes ",")) (g.T.Show.tokens item) c.loop-item.out c.word.new.out c.show.new.out c.in_ok-word.ensures c.in_ok-show.ensures in
    step (λ x. word (codes ",") ++ g.T.Show.tokens x) c.args.items.now c.loop-item.item-index _ item c.loop-item.out c.show.new.out c.loop-item-test.true c.item-item.is wrote c.loop-item.invariant

pub returns : goal.returns
returns g c = done (λ x. word (codes ",") ++ g.T.Show.tokens x) c.args.items.now c.loop-item.item-index _ c.loop-item.out c.loop-item-test.false c.loop-item.invariant
