use Rattle.std.proofs.Common.{refl}
use Rattle.std.specs.Prelude.{filter_map}
use Rattle.type_pass.specs.Memos.{number_among}
use Rattle.type_pass.specs.Passes.{uses}
use Rattle.type_pass.specs.Uses.{in_bracket}
use Rattle.type_pass.proofs.SpaceLaws.{list-further, list-done}
use Rattle.type_pass.proofs.UsedNumbers.{apply-ok}
use Rattle.type_pass.proofs.uses.+uses.Goals as goal

pub push_all-loop-expr-preserved : goal.push_all-loop-expr-preserved
push_all-loop-expr-preserved t c =
    list-further (λ x. filter_map (number_among c.args.numbers.now) (uses x)) c.args.exprs.now c.args.exprs.now c.loop-expr.expr-index c.expr-item.result c.loop-expr.edges c.push_uses.new.edges _
    refl c.loop-expr-test.true c.expr-item.is c.in_ok-push_uses.ensures c.loop-expr.invariant

pub push_all-returns : goal.push_all-returns
push_all-returns t c =
    list-done (λ x. filter_map (number_among c.args.numbers.now) (uses x)) c.args.exprs.now c.args.exprs.now c.loop-expr.expr-index c.loop-expr.edges _ refl c.loop-expr-test.false c.loop-expr.invariant

pub push_brackets-loop-bracket-preserved : goal.push_brackets-loop-bracket-preserved
push_brackets-loop-bracket-preserved t c =
    list-further (λ b. filter_map (number_among c.args.numbers.now) (in_bracket b)) c.args.brackets.now c.args.brackets.now c.loop-bracket.bracket-index c.bracket-item.result c.loop-bracket.edges c.push_bracket.new.edges _
    refl c.loop-bracket-test.true c.bracket-item.is c.in_ok-push_bracket.ensures c.loop-bracket.invariant

pub push_brackets-returns : goal.push_brackets-returns
push_brackets-returns t c =
    list-done (λ b. filter_map (number_among c.args.numbers.now) (in_bracket b)) c.args.brackets.now c.args.brackets.now c.loop-bracket.bracket-index c.loop-bracket.edges _ refl c.loop-bracket-test.false c.loop-bracket.invariant

pub push_uses-returns-in_ok-push_all-in-Apply : goal.push_uses-returns-in_ok-push_all-in-Apply
push_uses-returns-in_ok-push_all-in-Apply t c =
    apply-ok c.push_number.result c.args.numbers.now c.args.edges.now c.push_all.new.edges c.push_number.new.edges c.args.expr.now c.in-Apply.function c.in-Apply.arguments c.as_slice.result.now c.as_slice-in-Apply.result.now c.number.result
    c.in-Apply.is c.as_slice.ensures c.as_slice-in-Apply.ensures c.number.ensures c.in_ok-push_all-in-Apply.ensures c.push_number.ensures
