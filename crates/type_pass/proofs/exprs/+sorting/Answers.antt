use Rattle.std.proofs.Common.{Ok, refl}
use Rattle.std.specs.Option.{option_copied}
use Rattle.bpl_ast.specs.declared.expr.Expr.TheVariants as e
use Rattle.type_pass.specs.ExprSorts.{bool_sort, needs, compared}
use Rattle.type_pass.proofs.OperandLaws.{bools-turn, joined-turn, applied-turn, brackets-further, brackets-fault, select-arm, store-arm, extract-arm, post-arm, two-arm, three-arm}
use Rattle.type_pass.proofs.PartEquations.{part-equal, part-not_equal, part-implies}
use Rattle.type_pass.proofs.exprs.+sorting.Goals as goal

pub chain-loop-expr-preserved : goal.chain-loop-expr-preserved
chain-loop-expr-preserved t c =
    bools-turn c.args.known.now c.args.scope.now c.args.operands.now c.loop-expr.expr-index c.expr-item.result c.in-Ok.operand c.bool_sort-wanted.result c.loop-expr.told c.fits-told.result _
    c.bool_sort-wanted.ensures c.fits-told.ensures c.loop-expr-test.true c.expr-item.is c.in-Ok.ensures c.loop-expr.invariant

pub concatenation-loop-expr-preserved : goal.concatenation-loop-expr-preserved
concatenation-loop-expr-preserved t c =
    joined-turn c.args.known.now c.args.scope.now c.args.at c.args.operands.now c.loop-expr.expr-index c.expr-item.result c.in-Ok.operand c.loop-expr.width c.joined_with.result _
    c.joined_with.ensures c.loop-expr-test.true c.expr-item.is c.in-Ok.ensures c.loop-expr.invariant

pub application-loop-number-preserved : goal.application-loop-number-preserved
application-loop-number-preserved t c =
    applied-turn c.args.known.now c.args.scope.now c.args.name.now.at (option_copied c.function-function.result) c.args.arguments.now c.loop-number.number c.index-arguments-number.result c.in-Ok.operand c.argument_sort.result c.loop-number.told c.fits-told.result _
    c.argument_sort.ensures c.fits-told.ensures c.loop-number-test.true c.index-arguments-number.is c.in-Ok.ensures c.loop-number.invariant

pub bracket_sort-returns-in-Select : goal.bracket_sort-returns-in-Select
bracket_sort-returns-in-Select t c =
    select-arm c.args.known.now c.args.scope.now c.args.at c.args.operand.now c.args.bracket.now c.in-Select.index c.operand_of.result _ c.in-Select.is c.operand_of.ensures c.selection.ensures

pub bracket_sort-returns-in-Store : goal.bracket_sort-returns-in-Store
bracket_sort-returns-in-Store t c =
    store-arm c.args.known.now c.args.scope.now c.args.at c.args.operand.now c.args.bracket.now c.in-Store.index c.in-Store.value c.operand_of-in-Store.result c.operand_of-in-Store-2.result _ c.in-Store.is c.operand_of-in-Store.ensures c.operand_of-in-Store-2.ensures c.replacement.ensures

pub bracket_sort-returns-in-Extract : goal.bracket_sort-returns-in-Extract
bracket_sort-returns-in-Extract t c = extract-arm c.args.known.now c.args.scope.now c.args.at c.args.operand.now c.args.bracket.now c.in-Extract.high c.in-Extract.low _ c.in-Extract.is c.extracted.ensures

pub sort_of_expr-returns-in-Post : goal.sort_of_expr-returns-in-Post
sort_of_expr-returns-in-Post t c =
    post-arm c.args.known.now c.args.scope.now c.args.expr.now c.in-Post.at c.in-Post.operand c.get.result.now c.in-Post.brackets c.as_slice-in-Post.result.now c.operand_of.result _
    c.in-Post.is c.get.ensures c.as_slice-in-Post.ensures c.operand_of.ensures c.post.ensures

pub sort_of_expr-returns-in-Equal : goal.sort_of_expr-returns-in-Equal
sort_of_expr-returns-in-Equal t c =
    two-arm c.args.known.now c.args.scope.now c.args.expr.now (e.Equal c.in-Equal.at c.in-Equal.left c.in-Equal.right) c.in-Equal.left c.in-Equal.right c.get-in-Equal.result.now c.get-in-Equal-2.result.now
    c.operand_of-in-Equal.result c.operand_of-in-Equal-2.result (compared c.in-Equal.at) _ _ c.in-Equal.is (part-equal c.args.known.now c.args.scope.now c.in-Equal.at c.in-Equal.left c.in-Equal.right) refl
    c.get-in-Equal.ensures c.get-in-Equal-2.ensures c.operand_of-in-Equal.ensures c.operand_of-in-Equal-2.ensures c.comparison.ensures

pub sort_of_expr-returns-in-NotEqual : goal.sort_of_expr-returns-in-NotEqual
sort_of_expr-returns-in-NotEqual t c =
    two-arm c.args.known.now c.args.scope.now c.args.expr.now (e.NotEqual c.in-NotEqual.at c.in-NotEqual.left c.in-NotEqual.right) c.in-NotEqual.left c.in-NotEqual.right c.get-in-NotEqual.result.now c.get-in-NotEqual-2.result.now
    c.operand_of-in-NotEqual.result c.operand_of-in-NotEqual-2.result (compared c.in-NotEqual.at) _ _ c.in-NotEqual.is (part-not_equal c.args.known.now c.args.scope.now c.in-NotEqual.at c.in-NotEqual.left c.in-NotEqual.right) refl
    c.get-in-NotEqual.ensures c.get-in-NotEqual-2.ensures c.operand_of-in-NotEqual.ensures c.operand_of-in-NotEqual-2.ensures c.comparison-in-NotEqual.ensures

pub sort_of_expr-returns-in-Implies : goal.sort_of_expr-returns-in-Implies
sort_of_expr-returns-in-Implies t c =
    two-arm c.args.known.now c.args.scope.now c.args.expr.now (e.Implies c.in-Implies.at c.in-Implies.left c.in-Implies.right) c.in-Implies.left c.in-Implies.right c.get-in-Implies.result.now c.get-in-Implies-2.result.now
    c.operand_of-in-Implies.result c.operand_of-in-Implies-2.result (λ l r. needs bool_sort l (needs bool_sort r (Ok bool_sort))) _ _ c.in-Implies.is (part-implies c.args.known.now c.args.scope.now c.in-Implies.at c.in-Implies.left c.in-Implies.right) refl
    c.get-in-Implies.ensures c.get-in-Implies-2.ensures c.operand_of-in-Implies.ensures c.operand_of-in-Implies-2.ensures c.implication.ensures

pub sort_of_expr-returns-in-Choice : goal.sort_of_expr-returns-in-Choice
sort_of_expr-returns-in-Choice t c =
    three-arm c.args.known.now c.args.scope.now c.args.expr.now c.in-Choice.at c.in-Choice.condition c.in-Choice.yes c.in-Choice.no c.get-in-Choice.result.now c.get-in-Choice-2.result.now c.get-in-Choice-3.result.now
    c.operand_of-in-Choice.result c.operand_of-in-Choice-2.result c.operand_of-in-Choice-3.result _ c.in-Choice.is
    c.get-in-Choice.ensures c.get-in-Choice-2.ensures c.get-in-Choice-3.ensures c.operand_of-in-Choice.ensures c.operand_of-in-Choice-2.ensures c.operand_of-in-Choice-3.ensures c.choice.ensures

pub post-returns-in-Err-bracket_sort : goal.post-returns-in-Err-bracket_sort
post-returns-in-Err-bracket_sort t c =
    brackets-fault c.args.known.now c.args.scope.now c.args.at c.args.brackets.now c.loop-bracket.bracket-index c.bracket-item.result c.loop-bracket.operand c.in-Err-bracket_sort.fault _
    c.loop-bracket-test.true c.bracket-item.is c.in-Err-bracket_sort.ensures c.loop-bracket.invariant

pub post-loop-bracket-preserved : goal.post-loop-bracket-preserved
post-loop-bracket-preserved t c =
    brackets-further c.args.known.now c.args.scope.now c.args.at c.args.brackets.now c.loop-bracket.bracket-index c.bracket-item.result c.loop-bracket.operand c.in-Ok-bracket_sort.sort _
    c.loop-bracket-test.true c.bracket-item.is c.in-Ok-bracket_sort.ensures c.loop-bracket.invariant
