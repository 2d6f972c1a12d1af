use Rattle.std.proofs.Common.{◌*◌, ◌<◌, ℕ, List, length, get_or, min, refl, ap, subst, ◌∙◌, arith}
use Rattle.bpl_ast.specs.declared.expr.Expr.TheVariants as e
use Rattle.bpl_type.proofs.TallyLaws.{one-arm, two-arm, three-arm, post-arm, list-arm, use-arm, select-arm, store-arm, unary-arm, binary-arm, rest-turn, brackets-turn, body-turn, chain-arm, of-post, of-not, of-equal, of-not_equal, of-implies, of-choice, of-concat, of-and, of-or, of-implied_by, of-equivalent}
use Rattle.bpl_type.proofs.count.+counting.Goals as goal

pub count-returns-in-Apply : goal.count-returns-in-Apply
count-returns-in-Apply t c =
    use-arm c.count_use.result c.args.counting.now c.args.weight c.args.expr.now c.in-Apply.function c.in-Apply.arguments c.as_slice.result.now c.args.tally.now c.count_use.new.tally c.in-Apply.is c.as_slice.ensures c.count_use.ensures

pub count-returns-in_ok-count-in-Post : goal.count-returns-in_ok-count-in-Post
count-returns-in_ok-count-in-Post t c =
    post-arm c.count_brackets.result c.args.counting.now c.args.weight c.args.expr.now (e.Post c.in-Post.at c.in-Post.operand c.in-Post.brackets) c.in-Post.operand c.get.result.now c.in-Post.brackets c.as_slice-in-Post.result.now
    c.args.tally.now c.count.new.tally c.count_brackets.new.tally c.in-Post.is c.get.ensures c.as_slice-in-Post.ensures (of-post c.args.counting.now c.in-Post.at c.in-Post.operand c.in-Post.brackets)
    c.in_ok-count-in-Post.ensures c.count_brackets.ensures

pub count-returns-in_ok-count-in-Not : goal.count-returns-in_ok-count-in-Not
count-returns-in_ok-count-in-Not t c =
    one-arm c.one_node-in-Not.result c.args.counting.now c.args.weight c.args.expr.now (e.Not c.in-Not.at c.in-Not.operand) c.in-Not.operand c.get-in-Not.result.now
    c.args.tally.now c.count-in-Not.new.tally c.one_node-in-Not.new.tally c.in-Not.is c.get-in-Not.ensures (of-not c.args.counting.now c.in-Not.at c.in-Not.operand)
    c.in_ok-count-in-Not.ensures c.one_node-in-Not.ensures

pub count-returns-in-Concat : goal.count-returns-in-Concat
count-returns-in-Concat t c =
    list-arm c.count_chain.result c.args.counting.now c.args.weight c.args.expr.now (e.Concat c.in-Concat.at c.in-Concat.operands) c.in-Concat.operands c.as_slice-in-Concat.result.now c.args.tally.now c.count_chain.new.tally
    c.in-Concat.is c.as_slice-in-Concat.ensures (of-concat c.args.counting.now c.in-Concat.at c.in-Concat.operands) c.count_chain.ensures

pub count-returns-in-And : goal.count-returns-in-And
count-returns-in-And t c =
    list-arm c.count_chain-in-And.result c.args.counting.now c.args.weight c.args.expr.now (e.And c.in-And.at c.in-And.operands) c.in-And.operands c.as_slice-in-And.result.now c.args.tally.now c.count_chain-in-And.new.tally
    c.in-And.is c.as_slice-in-And.ensures (of-and c.args.counting.now c.in-And.at c.in-And.operands) c.count_chain-in-And.ensures

pub count-returns-in-Or : goal.count-returns-in-Or
count-returns-in-Or t c =
    list-arm c.count_chain-in-Or.result c.args.counting.now c.args.weight c.args.expr.now (e.Or c.in-Or.at c.in-Or.operands) c.in-Or.operands c.as_slice-in-Or.result.now c.args.tally.now c.count_chain-in-Or.new.tally
    c.in-Or.is c.as_slice-in-Or.ensures (of-or c.args.counting.now c.in-Or.at c.in-Or.operands) c.count_chain-in-Or.ensures

pub count-returns-in-ImpliedBy : goal.count-returns-in-ImpliedBy
count-returns-in-ImpliedBy t c =
    list-arm c.count_chain-in-ImpliedBy.result c.args.counting.now c.args.weight c.args.expr.now (e.ImpliedBy c.in-ImpliedBy.at c.in-ImpliedBy.operands) c.in-ImpliedBy.operands c.as_slice-in-ImpliedBy.result.now c.args.tally.now c.count_chain-in-ImpliedBy.new.tally
    c.in-ImpliedBy.is c.as_slice-in-ImpliedBy.ensures (of-implied_by c.args.counting.now c.in-ImpliedBy.at c.in-ImpliedBy.operands) c.count_chain-in-ImpliedBy.ensures

pub count-returns-in-Equivalent : goal.count-returns-in-Equivalent
count-returns-in-Equivalent t c =
    list-arm c.count_chain-in-Equivalent.result c.args.counting.now c.args.weight c.args.expr.now (e.Equivalent c.in-Equivalent.at c.in-Equivalent.operands) c.in-Equivalent.operands c.as_slice-in-Equivalent.result.now c.args.tally.now c.count_chain-in-Equivalent.new.tally
    c.in-Equivalent.is c.as_slice-in-Equivalent.ensures (of-equivalent c.args.counting.now c.in-Equivalent.at c.in-Equivalent.operands) c.count_chain-in-Equivalent.ensures

pub count-returns-in_ok-count-in-Equal-2 : goal.count-returns-in_ok-count-in-Equal-2
count-returns-in_ok-count-in-Equal-2 t c =
    two-arm c.one_node-in-Equal.result c.args.counting.now c.args.weight c.args.expr.now (e.Equal c.in-Equal.at c.in-Equal.left c.in-Equal.right) c.in-Equal.left c.in-Equal.right c.get-in-Equal.result.now c.get-in-Equal-2.result.now
    c.args.tally.now c.count-in-Equal.new.tally c.count-in-Equal-2.new.tally c.one_node-in-Equal.new.tally c.in-Equal.is c.get-in-Equal.ensures c.get-in-Equal-2.ensures
    (of-equal c.args.counting.now c.in-Equal.at c.in-Equal.left c.in-Equal.right) c.in_ok-count-in-Equal.ensures c.in_ok-count-in-Equal-2.ensures c.one_node-in-Equal.ensures

pub count-returns-in_ok-count-in-NotEqual-2 : goal.count-returns-in_ok-count-in-NotEqual-2
count-returns-in_ok-count-in-NotEqual-2 t c =
    two-arm c.one_node-in-NotEqual.result c.args.counting.now c.args.weight c.args.expr.now (e.NotEqual c.in-NotEqual.at c.in-NotEqual.left c.in-NotEqual.right) c.in-NotEqual.left c.in-NotEqual.right c.get-in-NotEqual.result.now c.get-in-NotEqual-2.result.now
    c.args.tally.now c.count-in-NotEqual.new.tally c.count-in-NotEqual-2.new.tally c.one_node-in-NotEqual.new.tally c.in-NotEqual.is c.get-in-NotEqual.ensures c.get-in-NotEqual-2.ensures
    (of-not_equal c.args.counting.now c.in-NotEqual.at c.in-NotEqual.left c.in-NotEqual.right) c.in_ok-count-in-NotEqual.ensures c.in_ok-count-in-NotEqual-2.ensures c.one_node-in-NotEqual.ensures

pub count-returns-in_ok-count-in-Implies-2 : goal.count-returns-in_ok-count-in-Implies-2
count-returns-in_ok-count-in-Implies-2 t c =
    two-arm c.one_node-in-Implies.result c.args.counting.now c.args.weight c.args.expr.now (e.Implies c.in-Implies.at c.in-Implies.left c.in-Implies.right) c.in-Implies.left c.in-Implies.right c.get-in-Implies.result.now c.get-in-Implies-2.result.now
    c.args.tally.now c.count-in-Implies.new.tally c.count-in-Implies-2.new.tally c.one_node-in-Implies.new.tally c.in-Implies.is c.get-in-Implies.ensures c.get-in-Implies-2.ensures
    (of-implies c.args.counting.now c.in-Implies.at c.in-Implies.left c.in-Implies.right) c.in_ok-count-in-Implies.ensures c.in_ok-count-in-Implies-2.ensures c.one_node-in-Implies.ensures

pub count-returns-in_ok-count-in-Choice-3 : goal.count-returns-in_ok-count-in-Choice-3
count-returns-in_ok-count-in-Choice-3 t c =
    three-arm c.one_node-in-Choice.result c.args.counting.now c.args.weight c.args.expr.now (e.Choice c.in-Choice.at c.in-Choice.condition c.in-Choice.yes c.in-Choice.no) c.in-Choice.condition c.in-Choice.yes c.in-Choice.no
    c.get-in-Choice.result.now c.get-in-Choice-2.result.now c.get-in-Choice-3.result.now
    c.args.tally.now c.count-in-Choice.new.tally c.count-in-Choice-2.new.tally c.count-in-Choice-3.new.tally c.one_node-in-Choice.new.tally c.in-Choice.is c.get-in-Choice.ensures c.get-in-Choice-2.ensures c.get-in-Choice-3.ensures
    (of-choice c.args.counting.now c.in-Choice.at c.in-Choice.condition c.in-Choice.yes c.in-Choice.no) c.in_ok-count-in-Choice.ensures c.in_ok-count-in-Choice-2.ensures c.in_ok-count-in-Choice-3.ensures c.one_node-in-Choice.ensures

pub count_body-loop-local-preserved : goal.count_body-loop-local-preserved
count_body-loop-local-preserved t c =
    let i = c.loop-local.local in
    body-turn c.args.counting.now c.args.weight c.args.template.now.base c.args.template.now.slopes c.args.arguments.now i (get_or c.args.template.now.slopes i 0) c.times-part.result c.args.tally.now c.loop-local.tally c.count_argument.new.tally
    (subst (λ (ks : List ℕ). i < length ks) c.as_slice-slope-items.ensures c.loop-local-test.true) refl
    (c.times-part.ensures ∙ ap (λ (ks : List ℕ). min (c.args.weight * get_or ks i 0) c.args.counting.now.most) c.as_slice-slope-items.ensures) c.loop-local.invariant c.in_ok-count_argument.ensures

pub count_bracket-returns-in_ok-count-in-Select : goal.count_bracket-returns-in_ok-count-in-Select
count_bracket-returns-in_ok-count-in-Select t c =
    select-arm c.one_node.result c.args.counting.now c.args.weight c.args.bracket.now c.in-Select.index c.args.tally.now c.count.new.tally c.one_node.new.tally c.in-Select.is c.in_ok-count-in-Select.ensures c.one_node.ensures

pub count_bracket-returns-in_ok-count-in-Store-2 : goal.count_bracket-returns-in_ok-count-in-Store-2
count_bracket-returns-in_ok-count-in-Store-2 t c =
    store-arm c.one_node-in-Store.result c.args.counting.now c.args.weight c.args.bracket.now c.in-Store.index c.in-Store.value c.args.tally.now c.count-in-Store.new.tally c.count-in-Store-2.new.tally c.one_node-in-Store.new.tally
    c.in-Store.is c.in_ok-count-in-Store.ensures c.in_ok-count-in-Store-2.ensures c.one_node-in-Store.ensures

pub count_brackets-loop-bracket-preserved : goal.count_brackets-loop-bracket-preserved
count_brackets-loop-bracket-preserved t c =
    brackets-turn c.args.counting.now c.args.weight c.args.brackets.now c.loop-bracket.bracket-index c.bracket-item.result c.args.tally.now c.loop-bracket.tally c.count_bracket.new.tally
    c.loop-bracket-test.true c.bracket-item.is c.loop-bracket.invariant c.in_ok-count_bracket.ensures

pub count_chain-returns-in_ok-count-in-len1-up : goal.count_chain-returns-in_ok-count-in-len1-up
count_chain-returns-in_ok-count-in-len1-up t c =
    chain-arm c.count_rest.result c.args.counting.now c.args.weight c.args.operands.now c.first-item.result c.args.tally.now c.count.new.tally c.count_rest.new.tally
    (omega (arith, c.in-len1-up.len_at_least)) c.first-item.is c.in_ok-count-in-len1-up.ensures c.count_rest.ensures

pub count_operator-returns-in_ok-count_first-in-Unary : goal.count_operator-returns-in_ok-count_first-in-Unary
count_operator-returns-in_ok-count_first-in-Unary t c =
    unary-arm c.one_node.result c.args.counting.now c.args.weight c.args.builtin _ c.args.arguments.now c.args.tally.now c.count_first.new.tally c.one_node.new.tally c.in-Unary.is c.in_ok-count_first-in-Unary.ensures c.one_node.ensures

pub count_operator-returns-in_ok-count_second-in-Binary : goal.count_operator-returns-in_ok-count_second-in-Binary
count_operator-returns-in_ok-count_second-in-Binary t c =
    binary-arm c.one_node-in-Binary.result c.args.counting.now c.args.weight c.args.builtin _ c.args.arguments.now c.args.tally.now c.count_first-in-Binary.new.tally c.count_second.new.tally c.one_node-in-Binary.new.tally
    c.in-Binary.is c.in_ok-count_first-in-Binary.ensures c.in_ok-count_second-in-Binary.ensures c.one_node-in-Binary.ensures

pub count_rest-loop-number-preserved : goal.count_rest-loop-number-preserved
count_rest-loop-number-preserved t c =
    rest-turn c.args.counting.now c.args.weight c.args.operands.now c.loop-number.number c.index-operands-number.result c.args.tally.now c.loop-number.tally c.count.new.tally c.one_node.new.tally
    (omega arith) (omega arith) c.index-operands-number.is c.loop-number.invariant c.in_ok-count.ensures c.in_ok-one_node.ensures
