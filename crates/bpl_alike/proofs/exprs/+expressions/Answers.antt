use Rattle.std.proofs.Common.{◌≡◌, ◌<◌, ◌-◌, true, false, [], ap, sym, ◌∙◌, rules, arith, length}
use Rattle.std.proofs.lemmas.List.Sums.{get_or-le-sum_by}
use Rattle.std.specs.List.{sum_by}
use Rattle.bpl_ast.specs.Alike.{bare_bracket, bare_expr}
use Rattle.bpl_ast.specs.declared.expr.Bracket.{out-Bracket}
use Rattle.bpl_ast.specs.declared.expr.Bracket.TheOpen.{Bracket-F, Expr-F}
use Rattle.bpl_ast.specs.declared.expr.Bracket.TheVariants as k
use Rattle.bpl_ast.specs.declared.expr.Expr.{out-Expr}
use Rattle.bpl_ast.specs.declared.expr.Expr.TheVariants as e
use Rattle.bpl_alike.proofs.BehindLaws.{alone_differs, at_end, back_lighter, differ, front_lighter, left, node, none_behind, peeled, post_spine, turned_round}
use Rattle.bpl_alike.proofs.BracketLaws as brackets
use Rattle.bpl_alike.proofs.ExprLaws.{apart, both, turned, not-apply, not-not, not-concat, not-equal, not-not_equal, not-and, not-or, not-implies, not-implied_by, not-equivalent, not-choice}
use Rattle.bpl_alike.proofs.GroupLaws.{no_application, no_comparison, no_connective}
use Rattle.bpl_alike.proofs.ListLaws.{differs}
use Rattle.bpl_alike.proofs.Weights.{bracket_weight, weight, weight-apply, weight-post, weight-not, weight-concat, weight-equal, weight-not_equal, weight-and, weight-or, weight-implies, weight-implied_by, weight-equivalent, weight-choice, weight-select, weight-store}
use Rattle.bpl_alike.proofs.exprs.+expressions.Goals as goal

-- ---- the recursion ends

pub exprs-rest-requires : goal.exprs-rest-requires
exprs-rest-requires t c = (omega (arith, c.decreases, ap weight c.in-Post.is ∙ weight-post _ _ _, ap weight c.get.ensures, ap (sum_by bracket_weight) c.as_slice.ensures), tt {0})

pub exprs-rest-requires-in-Post-a : goal.exprs-rest-requires-in-Post-a
exprs-rest-requires-in-Post-a t c = (omega (arith, c.decreases, ap weight c.in-Post-a.is ∙ weight-post _ _ _, ap weight c.get-in-Post-a.ensures, ap (sum_by bracket_weight) c.as_slice-in-Post-a.ensures), tt {0})

pub applications-operands-requires : goal.applications-operands-requires
applications-operands-requires t c = (omega (arith, c.decreases, ap weight c.in-Apply-Apply.is-0 ∙ weight-apply _ _, ap weight c.in-Apply-Apply.is-1 ∙ weight-apply _ _), tt {0})

pub applications-operands-requires-in-Concat-Concat : goal.applications-operands-requires-in-Concat-Concat
applications-operands-requires-in-Concat-Concat t c = (omega (arith, c.decreases, ap weight c.in-Concat-Concat.is-0 ∙ weight-concat _ _, ap weight c.in-Concat-Concat.is-1 ∙ weight-concat _ _), tt {0})

pub applications-operands-requires-in-And-And : goal.applications-operands-requires-in-And-And
applications-operands-requires-in-And-And t c = (omega (arith, c.decreases, ap weight c.in-And-And.is-0 ∙ weight-and _ _, ap weight c.in-And-And.is-1 ∙ weight-and _ _), tt {0})

pub applications-operands-requires-in-Or-Or : goal.applications-operands-requires-in-Or-Or
applications-operands-requires-in-Or-Or t c = (omega (arith, c.decreases, ap weight c.in-Or-Or.is-0 ∙ weight-or _ _, ap weight c.in-Or-Or.is-1 ∙ weight-or _ _), tt {0})

pub applications-operands-requires-in-ImpliedBy-ImpliedBy : goal.applications-operands-requires-in-ImpliedBy-ImpliedBy
applications-operands-requires-in-ImpliedBy-ImpliedBy t c = (omega (arith, c.decreases, ap weight c.in-ImpliedBy-ImpliedBy.is-0 ∙ weight-implied_by _ _, ap weight c.in-ImpliedBy-ImpliedBy.is-1 ∙ weight-implied_by _ _), tt {0})

pub applications-operands-requires-in-Equivalent-Equivalent : goal.applications-operands-requires-in-Equivalent-Equivalent
applications-operands-requires-in-Equivalent-Equivalent t c = (omega (arith, c.decreases, ap weight c.in-Equivalent-Equivalent.is-0 ∙ weight-equivalent _ _, ap weight c.in-Equivalent-Equivalent.is-1 ∙ weight-equivalent _ _), tt {0})

pub comparisons-boxes-requires : goal.comparisons-boxes-requires
comparisons-boxes-requires t c = (omega (arith, c.decreases, ap weight c.in-Equal-Equal.is-0 ∙ weight-equal _ _ _, ap weight c.in-Equal-Equal.is-1 ∙ weight-equal _ _ _), tt {0})

pub comparisons-boxes-requires-then-boxes : goal.comparisons-boxes-requires-then-boxes
comparisons-boxes-requires-then-boxes t c = (omega (arith, c.decreases, ap weight c.in-Equal-Equal.is-0 ∙ weight-equal _ _ _, ap weight c.in-Equal-Equal.is-1 ∙ weight-equal _ _ _), tt {0})

pub comparisons-boxes-requires-in-NotEqual-NotEqual : goal.comparisons-boxes-requires-in-NotEqual-NotEqual
comparisons-boxes-requires-in-NotEqual-NotEqual t c = (omega (arith, c.decreases, ap weight c.in-NotEqual-NotEqual.is-0 ∙ weight-not_equal _ _ _, ap weight c.in-NotEqual-NotEqual.is-1 ∙ weight-not_equal _ _ _), tt {0})

pub comparisons-boxes-requires-then-boxes-2 : goal.comparisons-boxes-requires-then-boxes-2
comparisons-boxes-requires-then-boxes-2 t c = (omega (arith, c.decreases, ap weight c.in-NotEqual-NotEqual.is-0 ∙ weight-not_equal _ _ _, ap weight c.in-NotEqual-NotEqual.is-1 ∙ weight-not_equal _ _ _), tt {0})

pub connectives-boxes-requires : goal.connectives-boxes-requires
connectives-boxes-requires t c = (omega (arith, c.decreases, ap weight c.in-Not-Not.is-0 ∙ weight-not _ _, ap weight c.in-Not-Not.is-1 ∙ weight-not _ _), tt {0})

pub connectives-boxes-requires-in-Implies-Implies : goal.connectives-boxes-requires-in-Implies-Implies
connectives-boxes-requires-in-Implies-Implies t c = (omega (arith, c.decreases, ap weight c.in-Implies-Implies.is-0 ∙ weight-implies _ _ _, ap weight c.in-Implies-Implies.is-1 ∙ weight-implies _ _ _), tt {0})

pub connectives-boxes-requires-then-boxes : goal.connectives-boxes-requires-then-boxes
connectives-boxes-requires-then-boxes t c = (omega (arith, c.decreases, ap weight c.in-Implies-Implies.is-0 ∙ weight-implies _ _ _, ap weight c.in-Implies-Implies.is-1 ∙ weight-implies _ _ _), tt {0})

pub connectives-boxes-requires-in-Choice-Choice : goal.connectives-boxes-requires-in-Choice-Choice
connectives-boxes-requires-in-Choice-Choice t c = (omega (arith, c.decreases, ap weight c.in-Choice-Choice.is-0 ∙ weight-choice _ _ _ _, ap weight c.in-Choice-Choice.is-1 ∙ weight-choice _ _ _ _), tt {0})

pub connectives-boxes-requires-then-boxes-2 : goal.connectives-boxes-requires-then-boxes-2
connectives-boxes-requires-then-boxes-2 t c = (omega (arith, c.decreases, ap weight c.in-Choice-Choice.is-0 ∙ weight-choice _ _ _ _, ap weight c.in-Choice-Choice.is-1 ∙ weight-choice _ _ _ _), tt {0})

pub connectives-boxes-requires-then-boxes-3 : goal.connectives-boxes-requires-then-boxes-3
connectives-boxes-requires-then-boxes-3 t c = (omega (arith, c.decreases, ap weight c.in-Choice-Choice.is-0 ∙ weight-choice _ _ _ _, ap weight c.in-Choice-Choice.is-1 ∙ weight-choice _ _ _ _), tt {0})

pub boxes-exprs-requires : goal.boxes-exprs-requires
boxes-exprs-requires t c = (omega (arith, c.decreases, ap weight c.get.ensures, ap weight c.get-2.ensures), tt {0})

pub operands-each-requires : goal.operands-each-requires
operands-each-requires t c = (omega (arith, c.decreases, ap (sum_by weight) c.as_slice.ensures, ap (sum_by weight) c.as_slice-2.ensures), tt {0})

pub each-exprs-requires : goal.each-exprs-requires
each-exprs-requires t c =
    let a_within : c.loop-i.i < length c.args.a.now = omega arith in
    let b_within : c.loop-i.i < length c.args.b.now = omega arith in
    (omega (arith, c.decreases, ap weight c.index-a-i.is, get_or-le-sum_by weight c.args.a.now c.loop-i.i c.index-a-i.result a_within, ap weight c.index-b-i.is, get_or-le-sum_by weight c.args.b.now c.loop-i.i c.index-b-i.result b_within), tt {0})

pub brackets-bracket-requires : goal.brackets-bracket-requires
brackets-bracket-requires t c =
    let a_within : c.loop-i.i < length c.args.a.now = omega arith in
    let b_within : c.loop-i.i < length c.args.b.now = omega arith in
    (omega (arith, c.decreases, ap bracket_weight c.index-a-i.is, get_or-le-sum_by bracket_weight c.args.a.now c.loop-i.i c.index-a-i.result a_within, ap bracket_weight c.index-b-i.is, get_or-le-sum_by bracket_weight c.args.b.now c.loop-i.i c.index-b-i.result b_within), tt {0})

pub posts-brackets-requires : goal.posts-brackets-requires
posts-brackets-requires t c = (omega (arith, c.decreases, back_lighter c.args.q.now c.split_at.result.1.now (length c.args.q.now - length c.args.p.now) c.split_at.ensures.back), tt {0})

pub posts-rest-requires : goal.posts-rest-requires
posts-rest-requires t c = (omega (arith, c.decreases, front_lighter c.args.q.now c.split_at.result.0.now (length c.args.q.now - length c.args.p.now) c.split_at.ensures.front), tt {0})

pub posts-brackets-requires-else-p-q : goal.posts-brackets-requires-else-p-q
posts-brackets-requires-else-p-q t c = (omega (arith, c.decreases, back_lighter c.args.p.now c.split_at-else-p-q.result.1.now (length c.args.p.now - length c.args.q.now) c.split_at-else-p-q.ensures.back), tt {0})

pub posts-rest-requires-then-brackets-2 : goal.posts-rest-requires-then-brackets-2
posts-rest-requires-then-brackets-2 t c = (omega (arith, c.decreases, front_lighter c.args.p.now c.split_at-else-p-q.result.0.now (length c.args.p.now - length c.args.q.now) c.split_at-else-p-q.ensures.front), tt {0})

pub rest-exprs-requires : goal.rest-exprs-requires
rest-exprs-requires t c = (omega (arith, c.decreases), tt {0})

pub rest-posts-requires : goal.rest-posts-requires
rest-posts-requires t c = (omega (arith, c.decreases, ap weight c.in-Post.is ∙ weight-post _ _ _, ap weight c.get.ensures, ap (sum_by bracket_weight) c.as_slice.ensures), tt {0})

pub bracket-exprs-requires : goal.bracket-exprs-requires
bracket-exprs-requires t c = (omega (arith, c.decreases, ap bracket_weight c.in-Select-Select.is-0 ∙ weight-select _, ap bracket_weight c.in-Select-Select.is-1 ∙ weight-select _), tt {0})

pub bracket-exprs-requires-in-Store-Store : goal.bracket-exprs-requires-in-Store-Store
bracket-exprs-requires-in-Store-Store t c = (omega (arith, c.decreases, ap bracket_weight c.in-Store-Store.is-0 ∙ weight-store _ _, ap bracket_weight c.in-Store-Store.is-1 ∙ weight-store _ _), tt {0})

pub bracket-exprs-requires-then-exprs : goal.bracket-exprs-requires-then-exprs
bracket-exprs-requires-then-exprs t c = (omega (arith, c.decreases, ap bracket_weight c.in-Store-Store.is-0 ∙ weight-store _ _, ap bracket_weight c.in-Store-Store.is-1 ∙ weight-store _ _), tt {0})

-- ---- expressions

pub exprs-returns-in-Post : goal.exprs-returns-in-Post
exprs-returns-in-Post t c = node _ _ _ _ (post_spine _ _ _ _ _ _ c.in-Post.is c.get.ensures c.as_slice.ensures) c.rest.ensures

pub exprs-returns-in-Post-a : goal.exprs-returns-in-Post-a
exprs-returns-in-Post-a t c = turned_round (node _ _ _ _ (post_spine _ _ _ _ _ _ c.in-Post-a.is c.get-in-Post-a.ensures c.as_slice-in-Post-a.ensures) c.rest-in-Post-a.ensures)

pub applications-returns-then-is_like : goal.applications-returns-then-is_like
applications-returns-then-is_like t c = let a = c.in-Apply-Apply in both (Expr-F.Apply a.f a.x) (Expr-F.Apply a.g a.y) (tt {0}) (tt {0}) (a.is-0 ∙ sym (e.rolls-Apply _ _)) (a.is-1 ∙ sym (e.rolls-Apply _ _)) (search rules)

pub applications-returns-else-is_like : goal.applications-returns-else-is_like
applications-returns-else-is_like t c = let a = c.in-Apply-Apply in both (Expr-F.Apply a.f a.x) (Expr-F.Apply a.g a.y) (tt {0}) (tt {0}) (a.is-0 ∙ sym (e.rolls-Apply _ _)) (a.is-1 ∙ sym (e.rolls-Apply _ _)) (search rules)

pub applications-returns-in-Concat-Concat : goal.applications-returns-in-Concat-Concat
applications-returns-in-Concat-Concat t c = let a = c.in-Concat-Concat in both (Expr-F.Concat a.at-0 a.x) (Expr-F.Concat a.at-1 a.y) (tt {0}) (tt {0}) (a.is-0 ∙ sym (e.rolls-Concat _ _)) (a.is-1 ∙ sym (e.rolls-Concat _ _)) (search rules)

pub applications-returns-in-And-And : goal.applications-returns-in-And-And
applications-returns-in-And-And t c = let a = c.in-And-And in both (Expr-F.And a.at-0 a.x) (Expr-F.And a.at-1 a.y) (tt {0}) (tt {0}) (a.is-0 ∙ sym (e.rolls-And _ _)) (a.is-1 ∙ sym (e.rolls-And _ _)) (search rules)

pub applications-returns-in-Or-Or : goal.applications-returns-in-Or-Or
applications-returns-in-Or-Or t c = let a = c.in-Or-Or in both (Expr-F.Or a.at-0 a.x) (Expr-F.Or a.at-1 a.y) (tt {0}) (tt {0}) (a.is-0 ∙ sym (e.rolls-Or _ _)) (a.is-1 ∙ sym (e.rolls-Or _ _)) (search rules)

pub applications-returns-in-ImpliedBy-ImpliedBy : goal.applications-returns-in-ImpliedBy-ImpliedBy
applications-returns-in-ImpliedBy-ImpliedBy t c = let a = c.in-ImpliedBy-ImpliedBy in both (Expr-F.ImpliedBy a.at-0 a.x) (Expr-F.ImpliedBy a.at-1 a.y) (tt {0}) (tt {0}) (a.is-0 ∙ sym (e.rolls-ImpliedBy _ _)) (a.is-1 ∙ sym (e.rolls-ImpliedBy _ _)) (search rules)

pub applications-returns-in-Equivalent-Equivalent : goal.applications-returns-in-Equivalent-Equivalent
applications-returns-in-Equivalent-Equivalent t c = let a = c.in-Equivalent-Equivalent in both (Expr-F.Equivalent a.at-0 a.x) (Expr-F.Equivalent a.at-1 a.y) (tt {0}) (tt {0}) (a.is-0 ∙ sym (e.rolls-Equivalent _ _)) (a.is-1 ∙ sym (e.rolls-Equivalent _ _)) (search rules)

pub applications-returns-in_default : goal.applications-returns-in_default
applications-returns-in_default t c = let a = c.in_default in apart c.args.b.now (Expr-F.Apply a.field-0-0 a.field-1-0) (tt {0}) (a.is-0 ∙ sym (e.rolls-Apply _ _)) c.requires.no_brackets (not-apply a.field-0-0 a.field-1-0 (out-Expr c.args.b.now) (λ p0 p1 is. a.not-Apply-1 p0 p1 (turned c.args.b.now (Expr-F.Apply p0 p1) is ∙ e.rolls-Apply p0 p1)))

pub applications-returns-in_default-2 : goal.applications-returns-in_default-2
applications-returns-in_default-2 t c = let a = c.in_default in apart c.args.b.now (Expr-F.Concat a.field-0-0 a.field-1-0) (tt {0}) (a.is-0 ∙ sym (e.rolls-Concat _ _)) c.requires.no_brackets (not-concat a.field-0-0 a.field-1-0 (out-Expr c.args.b.now) (λ p0 p1 is. a.not-Concat-1 p0 p1 (turned c.args.b.now (Expr-F.Concat p0 p1) is ∙ e.rolls-Concat p0 p1)))

pub applications-returns-in_default-3 : goal.applications-returns-in_default-3
applications-returns-in_default-3 t c = let a = c.in_default in apart c.args.b.now (Expr-F.And a.field-0-0 a.field-1-0) (tt {0}) (a.is-0 ∙ sym (e.rolls-And _ _)) c.requires.no_brackets (not-and a.field-0-0 a.field-1-0 (out-Expr c.args.b.now) (λ p0 p1 is. a.not-And-1 p0 p1 (turned c.args.b.now (Expr-F.And p0 p1) is ∙ e.rolls-And p0 p1)))

pub applications-returns-in_default-4 : goal.applications-returns-in_default-4
applications-returns-in_default-4 t c = let a = c.in_default in apart c.args.b.now (Expr-F.Or a.field-0-0 a.field-1-0) (tt {0}) (a.is-0 ∙ sym (e.rolls-Or _ _)) c.requires.no_brackets (not-or a.field-0-0 a.field-1-0 (out-Expr c.args.b.now) (λ p0 p1 is. a.not-Or-1 p0 p1 (turned c.args.b.now (Expr-F.Or p0 p1) is ∙ e.rolls-Or p0 p1)))

pub applications-returns-in_default-5 : goal.applications-returns-in_default-5
applications-returns-in_default-5 t c = let a = c.in_default in apart c.args.b.now (Expr-F.ImpliedBy a.field-0-0 a.field-1-0) (tt {0}) (a.is-0 ∙ sym (e.rolls-ImpliedBy _ _)) c.requires.no_brackets (not-implied_by a.field-0-0 a.field-1-0 (out-Expr c.args.b.now) (λ p0 p1 is. a.not-ImpliedBy-1 p0 p1 (turned c.args.b.now (Expr-F.ImpliedBy p0 p1) is ∙ e.rolls-ImpliedBy p0 p1)))

pub applications-returns-in_default-6 : goal.applications-returns-in_default-6
applications-returns-in_default-6 t c = let a = c.in_default in apart c.args.b.now (Expr-F.Equivalent a.field-0-0 a.field-1-0) (tt {0}) (a.is-0 ∙ sym (e.rolls-Equivalent _ _)) c.requires.no_brackets (not-equivalent a.field-0-0 a.field-1-0 (out-Expr c.args.b.now) (λ p0 p1 is. a.not-Equivalent-1 p0 p1 (turned c.args.b.now (Expr-F.Equivalent p0 p1) is ∙ e.rolls-Equivalent p0 p1)))

pub applications-returns-in_default-7 : goal.applications-returns-in_default-7
applications-returns-in_default-7 t c = absurd (no_application c.args.a.now c.requires.grouped c.in_default.not-Apply-0 c.in_default.not-Concat-0 c.in_default.not-And-0 c.in_default.not-Or-0 c.in_default.not-ImpliedBy-0 c.in_default.not-Equivalent-0)

pub comparisons-returns-then-boxes : goal.comparisons-returns-then-boxes
comparisons-returns-then-boxes t c = let a = c.in-Equal-Equal in both (Expr-F.Equal a.at-0 a.x a.z) (Expr-F.Equal a.at-1 a.y a.w) (tt {0}) (tt {0}) (a.is-0 ∙ sym (e.rolls-Equal _ _ _)) (a.is-1 ∙ sym (e.rolls-Equal _ _ _)) (search rules)

pub comparisons-returns-else-boxes : goal.comparisons-returns-else-boxes
comparisons-returns-else-boxes t c = let a = c.in-Equal-Equal in both (Expr-F.Equal a.at-0 a.x a.z) (Expr-F.Equal a.at-1 a.y a.w) (tt {0}) (tt {0}) (a.is-0 ∙ sym (e.rolls-Equal _ _ _)) (a.is-1 ∙ sym (e.rolls-Equal _ _ _)) (search rules)

pub comparisons-returns-then-boxes-2 : goal.comparisons-returns-then-boxes-2
comparisons-returns-then-boxes-2 t c = let a = c.in-NotEqual-NotEqual in both (Expr-F.NotEqual a.at-0 a.x a.z) (Expr-F.NotEqual a.at-1 a.y a.w) (tt {0}) (tt {0}) (a.is-0 ∙ sym (e.rolls-NotEqual _ _ _)) (a.is-1 ∙ sym (e.rolls-NotEqual _ _ _)) (search rules)

pub comparisons-returns-else-boxes-2 : goal.comparisons-returns-else-boxes-2
comparisons-returns-else-boxes-2 t c = let a = c.in-NotEqual-NotEqual in both (Expr-F.NotEqual a.at-0 a.x a.z) (Expr-F.NotEqual a.at-1 a.y a.w) (tt {0}) (tt {0}) (a.is-0 ∙ sym (e.rolls-NotEqual _ _ _)) (a.is-1 ∙ sym (e.rolls-NotEqual _ _ _)) (search rules)

pub comparisons-returns-in_default : goal.comparisons-returns-in_default
comparisons-returns-in_default t c = let a = c.in_default in apart c.args.b.now (Expr-F.Equal a.field-0-0 a.field-1-0 a.field-2-0) (tt {0}) (a.is-0 ∙ sym (e.rolls-Equal _ _ _)) c.requires.no_brackets (not-equal a.field-0-0 a.field-1-0 a.field-2-0 (out-Expr c.args.b.now) (λ p0 p1 p2 is. a.not-Equal-1 p0 p1 p2 (turned c.args.b.now (Expr-F.Equal p0 p1 p2) is ∙ e.rolls-Equal p0 p1 p2)))

pub comparisons-returns-in_default-2 : goal.comparisons-returns-in_default-2
comparisons-returns-in_default-2 t c = let a = c.in_default in apart c.args.b.now (Expr-F.NotEqual a.field-0-0 a.field-1-0 a.field-2-0) (tt {0}) (a.is-0 ∙ sym (e.rolls-NotEqual _ _ _)) c.requires.no_brackets (not-not_equal a.field-0-0 a.field-1-0 a.field-2-0 (out-Expr c.args.b.now) (λ p0 p1 p2 is. a.not-NotEqual-1 p0 p1 p2 (turned c.args.b.now (Expr-F.NotEqual p0 p1 p2) is ∙ e.rolls-NotEqual p0 p1 p2)))

pub comparisons-returns-in_default-3 : goal.comparisons-returns-in_default-3
comparisons-returns-in_default-3 t c = absurd (no_comparison c.args.a.now c.requires.grouped c.in_default.not-Equal-0 c.in_default.not-NotEqual-0)

pub connectives-returns-in-Not-Not : goal.connectives-returns-in-Not-Not
connectives-returns-in-Not-Not t c = let a = c.in-Not-Not in both (Expr-F.Not a.at-0 a.x) (Expr-F.Not a.at-1 a.y) (tt {0}) (tt {0}) (a.is-0 ∙ sym (e.rolls-Not _ _)) (a.is-1 ∙ sym (e.rolls-Not _ _)) (search rules)

pub connectives-returns-then-boxes : goal.connectives-returns-then-boxes
connectives-returns-then-boxes t c = let a = c.in-Implies-Implies in both (Expr-F.Implies a.at-0 a.x a.z) (Expr-F.Implies a.at-1 a.y a.w) (tt {0}) (tt {0}) (a.is-0 ∙ sym (e.rolls-Implies _ _ _)) (a.is-1 ∙ sym (e.rolls-Implies _ _ _)) (search rules)

pub connectives-returns-else-boxes : goal.connectives-returns-else-boxes
connectives-returns-else-boxes t c = let a = c.in-Implies-Implies in both (Expr-F.Implies a.at-0 a.x a.z) (Expr-F.Implies a.at-1 a.y a.w) (tt {0}) (tt {0}) (a.is-0 ∙ sym (e.rolls-Implies _ _ _)) (a.is-1 ∙ sym (e.rolls-Implies _ _ _)) (search rules)

pub connectives-returns-else-boxes-2 : goal.connectives-returns-else-boxes-2
connectives-returns-else-boxes-2 t c = let a = c.in-Choice-Choice in both (Expr-F.Choice a.at-0 a.f a.x a.z) (Expr-F.Choice a.at-1 a.g a.y a.w) (tt {0}) (tt {0}) (a.is-0 ∙ sym (e.rolls-Choice _ _ _ _)) (a.is-1 ∙ sym (e.rolls-Choice _ _ _ _)) (search rules)

pub connectives-returns-then-boxes-3 : goal.connectives-returns-then-boxes-3
connectives-returns-then-boxes-3 t c = let a = c.in-Choice-Choice in both (Expr-F.Choice a.at-0 a.f a.x a.z) (Expr-F.Choice a.at-1 a.g a.y a.w) (tt {0}) (tt {0}) (a.is-0 ∙ sym (e.rolls-Choice _ _ _ _)) (a.is-1 ∙ sym (e.rolls-Choice _ _ _ _)) (search rules)

pub connectives-returns-else-boxes-3 : goal.connectives-returns-else-boxes-3
connectives-returns-else-boxes-3 t c = let a = c.in-Choice-Choice in both (Expr-F.Choice a.at-0 a.f a.x a.z) (Expr-F.Choice a.at-1 a.g a.y a.w) (tt {0}) (tt {0}) (a.is-0 ∙ sym (e.rolls-Choice _ _ _ _)) (a.is-1 ∙ sym (e.rolls-Choice _ _ _ _)) (search rules)

pub connectives-returns-in_default : goal.connectives-returns-in_default
connectives-returns-in_default t c = let a = c.in_default in apart c.args.b.now (Expr-F.Not a.field-0-0 a.field-1-0) (tt {0}) (a.is-0 ∙ sym (e.rolls-Not _ _)) c.requires.no_brackets (not-not a.field-0-0 a.field-1-0 (out-Expr c.args.b.now) (λ p0 p1 is. a.not-Not-1 p0 p1 (turned c.args.b.now (Expr-F.Not p0 p1) is ∙ e.rolls-Not p0 p1)))

pub connectives-returns-in_default-2 : goal.connectives-returns-in_default-2
connectives-returns-in_default-2 t c = let a = c.in_default in apart c.args.b.now (Expr-F.Implies a.field-0-0 a.field-1-0 a.field-2-0) (tt {0}) (a.is-0 ∙ sym (e.rolls-Implies _ _ _)) c.requires.no_brackets (not-implies a.field-0-0 a.field-1-0 a.field-2-0 (out-Expr c.args.b.now) (λ p0 p1 p2 is. a.not-Implies-1 p0 p1 p2 (turned c.args.b.now (Expr-F.Implies p0 p1 p2) is ∙ e.rolls-Implies p0 p1 p2)))

pub connectives-returns-in_default-3 : goal.connectives-returns-in_default-3
connectives-returns-in_default-3 t c = let a = c.in_default in apart c.args.b.now (Expr-F.Choice a.field-0-0 a.field-1-0 a.field-2-0 a.field-3-0) (tt {0}) (a.is-0 ∙ sym (e.rolls-Choice _ _ _ _)) c.requires.no_brackets (not-choice a.field-0-0 a.field-1-0 a.field-2-0 a.field-3-0 (out-Expr c.args.b.now) (λ p0 p1 p2 p3 is. a.not-Choice-1 p0 p1 p2 p3 (turned c.args.b.now (Expr-F.Choice p0 p1 p2 p3) is ∙ e.rolls-Choice p0 p1 p2 p3)))

pub connectives-returns-in_default-4 : goal.connectives-returns-in_default-4
connectives-returns-in_default-4 t c = absurd (no_connective c.args.a.now c.requires.grouped c.in_default.not-Not-0 c.in_default.not-Implies-0 c.in_default.not-Choice-0)

-- ---- lists

pub each-returns-then-not-exprs : goal.each-returns-then-not-exprs
each-returns-then-not-exprs t c =
    let here : c.loop-i.i < length c.args.a.now = omega arith in
    let there : c.loop-i.i < length c.args.b.now = omega arith in (
      λ h. absurd cc,
      λ same. absurd (differs bare_expr c.args.a.now c.args.b.now c.loop-i.i c.index-a-i.result c.index-b-i.result here there c.index-a-i.is c.index-b-i.is
          (λ e. let yes : c.exprs.result ≡ true = c.exprs.ensures.1 e in let clash : true ≡ false = sym yes ∙ c.if-not-exprs.true in absurd cc) same),
    )

pub brackets-returns-then-not-bracket : goal.brackets-returns-then-not-bracket
brackets-returns-then-not-bracket t c =
    let here : c.loop-i.i < length c.args.a.now = omega arith in
    let there : c.loop-i.i < length c.args.b.now = omega arith in (
      λ h. absurd cc,
      λ same. absurd (differs bare_bracket c.args.a.now c.args.b.now c.loop-i.i c.index-a-i.result c.index-b-i.result here there c.index-a-i.is c.index-b-i.is
          (λ e. let yes : c.bracket.result ≡ true = c.bracket.ensures.1 e in let clash : true ≡ false = sym yes ∙ c.if-not-bracket.true in absurd cc) same),
    )

-- ---- brackets

pub bracket-returns-in-Select-Select : goal.bracket-returns-in-Select-Select
bracket-returns-in-Select-Select t c = let a = c.in-Select-Select in brackets.both (Bracket-F.Select a.x) (Bracket-F.Select a.y) (a.is-0 ∙ sym (k.rolls-Select _)) (a.is-1 ∙ sym (k.rolls-Select _)) (search rules)

pub bracket-returns-then-exprs : goal.bracket-returns-then-exprs
bracket-returns-then-exprs t c = let a = c.in-Store-Store in brackets.both (Bracket-F.Store a.x a.z) (Bracket-F.Store a.y a.w) (a.is-0 ∙ sym (k.rolls-Store _ _)) (a.is-1 ∙ sym (k.rolls-Store _ _)) (search rules)

pub bracket-returns-else-exprs : goal.bracket-returns-else-exprs
bracket-returns-else-exprs t c = let a = c.in-Store-Store in brackets.both (Bracket-F.Store a.x a.z) (Bracket-F.Store a.y a.w) (a.is-0 ∙ sym (k.rolls-Store _ _)) (a.is-1 ∙ sym (k.rolls-Store _ _)) (search rules)

pub bracket-returns-then-x-y : goal.bracket-returns-then-x-y
bracket-returns-then-x-y t c = let a = c.in-Extract-Extract in brackets.both (Bracket-F.Extract a.x a.z) (Bracket-F.Extract a.y a.w) (a.is-0 ∙ sym (k.rolls-Extract _ _)) (a.is-1 ∙ sym (k.rolls-Extract _ _)) (search rules)

pub bracket-returns-else-x-y : goal.bracket-returns-else-x-y
bracket-returns-else-x-y t c = let a = c.in-Extract-Extract in brackets.both (Bracket-F.Extract a.x a.z) (Bracket-F.Extract a.y a.w) (a.is-0 ∙ sym (k.rolls-Extract _ _)) (a.is-1 ∙ sym (k.rolls-Extract _ _)) (search rules)

pub bracket-returns-in_default : goal.bracket-returns-in_default
bracket-returns-in_default t c = let a = c.in_default in brackets.apart c.args.b.now (Bracket-F.Select a.field-0-0) (a.is-0 ∙ sym (k.rolls-Select _)) (brackets.not-select a.field-0-0 (out-Bracket c.args.b.now) (λ p0 is. a.not-Select-1 p0 (brackets.turned c.args.b.now (Bracket-F.Select p0) is ∙ k.rolls-Select p0)))

pub bracket-returns-in_default-2 : goal.bracket-returns-in_default-2
bracket-returns-in_default-2 t c = let a = c.in_default in brackets.apart c.args.b.now (Bracket-F.Store a.field-0-0 a.field-1-0) (a.is-0 ∙ sym (k.rolls-Store _ _)) (brackets.not-store a.field-0-0 a.field-1-0 (out-Bracket c.args.b.now) (λ p0 p1 is. a.not-Store-1 p0 p1 (brackets.turned c.args.b.now (Bracket-F.Store p0 p1) is ∙ k.rolls-Store p0 p1)))

pub bracket-returns-in_default-3 : goal.bracket-returns-in_default-3
bracket-returns-in_default-3 t c = let a = c.in_default in brackets.apart c.args.b.now (Bracket-F.Extract a.field-0-0 a.field-1-0) (a.is-0 ∙ sym (k.rolls-Extract _ _)) (brackets.not-extract a.field-0-0 a.field-1-0 (out-Bracket c.args.b.now) (λ p0 p1 is. a.not-Extract-1 p0 p1 (brackets.turned c.args.b.now (Bracket-F.Extract p0 p1) is ∙ k.rolls-Extract p0 p1)))

-- ---- operands with brackets behind them

pub posts-returns-then-brackets : goal.posts-returns-then-brackets
posts-returns-then-brackets t c = left c.args.x.now c.args.y.now c.args.p.now c.args.q.now c.split_at.result.0.now c.split_at.result.1.now _ c.split_at.ensures.front c.split_at.ensures.back (omega (arith, c.split_at.ensures.back_len, c.if-p-q.true)) c.if-brackets.true c.brackets.ensures c.rest.ensures

pub posts-returns-else-brackets : goal.posts-returns-else-brackets
posts-returns-else-brackets t c = differ c.args.x.now c.args.y.now c.args.p.now c.args.q.now c.split_at.result.1.now _ c.split_at.ensures.back (omega (arith, c.split_at.ensures.back_len, c.if-p-q.true)) c.if-brackets.false c.brackets.ensures

pub posts-returns-then-brackets-2 : goal.posts-returns-then-brackets-2
posts-returns-then-brackets-2 t c = turned_round (left c.args.y.now c.args.x.now c.args.q.now c.args.p.now c.split_at-else-p-q.result.0.now c.split_at-else-p-q.result.1.now _ c.split_at-else-p-q.ensures.front c.split_at-else-p-q.ensures.back (omega (arith, c.split_at-else-p-q.ensures.back_len, c.if-p-q.false)) c.if-brackets-2.true (turned_round c.brackets-else-p-q.ensures) c.rest-then-brackets-2.ensures)

pub posts-returns-else-brackets-2 : goal.posts-returns-else-brackets-2
posts-returns-else-brackets-2 t c = turned_round (differ c.args.y.now c.args.x.now c.args.q.now c.args.p.now c.split_at-else-p-q.result.1.now _ c.split_at-else-p-q.ensures.back (omega (arith, c.split_at-else-p-q.ensures.back_len, c.if-p-q.false)) c.if-brackets-2.false (turned_round c.brackets-else-p-q.ensures))

pub rest-returns-then-is_empty : goal.rest-returns-then-is_empty
rest-returns-then-is_empty t c = at_end c.args.x.now c.args.y.now c.args.q.now (none_behind c.is_empty.result c.args.q.now c.is_empty.ensures c.if-is_empty.true) c.exprs.ensures

pub rest-returns-in-Post : goal.rest-returns-in-Post
rest-returns-in-Post t c = peeled _ _ _ _ _ (post_spine _ _ _ _ _ _ c.in-Post.is c.get.ensures c.as_slice.ensures) c.posts.ensures

pub rest-returns-in_default : goal.rest-returns-in_default
rest-returns-in_default t c = let some : c.args.q.now ≡ [] → ⊥ = search rules in alone_differs c.args.x.now c.args.y.now c.args.q.now c.in_default.not-Post some
