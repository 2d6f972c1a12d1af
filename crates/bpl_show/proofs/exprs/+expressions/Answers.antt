use Rattle.std.proofs.Common.{◌++◌, ap, sym, ◌∙◌}
use Rattle.std.specs.Prelude.{codes}
use Rattle.std.proofs.lemmas.Result.{on_ok_weaker}
use Rattle.bpl_show.specs.Exprs as spec
use Rattle.bpl_show.specs.Tokens.{word, written}
use Rattle.bpl_show.proofs.KindLaws.{shown_wide, shown_narrow}
use Rattle.bpl_show.proofs.Loops.{both, step, done, link_more}
use Rattle.bpl_show.proofs.Written.{written-nil}
use Rattle.bpl_show.proofs.exprs.+expressions.Goals as goal

pub expr-returns-in_ok-bare : goal.expr-returns-in_ok-bare
expr-returns-in_ok-bare t c =
    let shown = c.args.shown.now in
    let asked = c.args.asked in
    let opened = both (word (codes "(")) (spec.whole shown) c.args.out.now c.word.new.out c.bare.new.out c.in_ok-word.ensures c.in_ok-bare.ensures in
    let is = shown_wide shown asked c.kind.result c.rank.result c.rank-2.result c.kind.ensures c.rank.ensures c.rank-2.ensures c.if-rank.true in
    on_ok_weaker c.word-then-rank.result (λ closed. both (word (codes "(") ++ spec.whole shown) (word (codes ")")) c.args.out.now c.bare.new.out c.word-then-rank.new.out opened closed ∙ ap (written c.args.out.now) (sym is)) c.word-then-rank.ensures

pub expr-returns-else-rank : goal.expr-returns-else-rank
expr-returns-else-rank t c =
    let is = shown_narrow c.args.shown.now c.args.asked c.kind.result c.rank.result c.rank-2.result c.kind.ensures c.rank.ensures c.rank-2.ensures c.if-rank.false in
    on_ok_weaker c.bare-else-rank.result (λ wrote. wrote ∙ ap (written c.args.out.now) (sym is)) c.bare-else-rank.ensures

pub chain-loop-index-init : goal.chain-loop-index-init
chain-loop-index-init t c = sym (written-nil c.args.out.now)

pub chain-loop-index-preserved : goal.chain-loop-index-preserved
chain-loop-index-preserved t c =
    link_more (λ x. spec.expr x c.args.asked) (word c.args.sign.now) c.args.operands.now c.loop-index.index c.index-operands-index.result c.args.out.now c.loop-index.out c.link.new.out c.loop-index-test.true c.index-operands-index.is c.loop-index.invariant c.in_ok-link.ensures

pub brackets-loop-one-preserved : goal.brackets-loop-one-preserved
brackets-loop-one-preserved t c = step spec.bracket c.args.shown.now c.loop-one.one-index _ c.one-item.result c.loop-one.out c.bracket.new.out c.loop-one-test.true c.one-item.is c.in_ok-bracket.ensures c.loop-one.invariant

pub brackets-returns : goal.brackets-returns
brackets-returns t c = done spec.bracket c.args.shown.now c.loop-one.one-index _ c.loop-one.out c.loop-one-test.false c.loop-one.invariant
