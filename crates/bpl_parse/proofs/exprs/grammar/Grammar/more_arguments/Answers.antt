use Rattle.bpl_parse.proofs.Loops.{ends}
use Rattle.bpl_parse.specs.Nests.{inner_expr}
use Rattle.bpl_parse.specs.Reader.{as_expr}
use Rattle.bpl_parse.specs.Tests.{is}
use Rattle.bpl_parse.specs.declared.place.Place.TheVariants as at
use Rattle.bpl_rules.proofs.Turns.{append, goes_on, lists, push, stops}
use Rattle.bpl_rules.specs.Rules.{run_many, behind}
use Rattle.bpl_tok.specs.declared.token.Terminal.TheVariants as k
use Rattle.std.proofs.Common.{rules, ◌-◌, length}
use Rattle.std.proofs.lemmas.Result.{err_from_is_err_and}
use Rattle.bpl_parse.proofs.exprs.grammar.Grammar.more_arguments.Goals as goal

pub returns-then-not-is_at : goal.returns-then-not-is_at
returns-then-not-is_at g c = stops append push lists (behind at.AfterOperand (is k.Comma) (as_expr (inner_expr c.args.self.now.source.now c.args.self.now.depth))) c.loop.found (length c.args.tokens.now - c.loop.counter) c.loop.rest.now _ (search rules) c.loop.invariant

pub returns-in_err-next : goal.returns-in_err-next
returns-in_err-next g c =
    let p = err_from_is_err_and c.from_residual.result c.from_residual.ensures.1 in
    rw (p.1, p.2) (ends (behind at.AfterOperand (is k.Comma) (as_expr (inner_expr c.args.self.now.source.now c.args.self.now.depth))) c.in_err-next.field-0.0 c.loop.found (length c.args.tokens.now) c.loop.counter c.loop.rest.now (run_many (behind at.AfterOperand (is k.Comma) (as_expr (inner_expr c.args.self.now.source.now c.args.self.now.depth))) (length c.args.tokens.now) c.args.tokens.now) c.loop-test.true (search rules) c.in_err-next.ensures c.loop.invariant)

pub loop-preserved : goal.loop-preserved
loop-preserved g c =
    rw c.in_ok-push.ensures.ok (goes_on append push lists (behind at.AfterOperand (is k.Comma) (as_expr (inner_expr c.args.self.now.source.now c.args.self.now.depth))) c.loop.found (length c.args.tokens.now) c.loop.counter c.loop.rest.now c.in_ok-next.next c.in_ok-next.after.now (run_many (behind at.AfterOperand (is k.Comma) (as_expr (inner_expr c.args.self.now.source.now c.args.self.now.depth))) (length c.args.tokens.now) c.args.tokens.now) c.loop-test.true (search rules) c.in_ok-next.ensures c.loop.invariant)
