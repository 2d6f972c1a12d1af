use Rattle.bpl_parse.proofs.LevelLaws.{fails_at, block_bottom, block_above, else_if_bottom, else_if_above}
use Rattle.bpl_parse.proofs.Loops.{ends}
use Rattle.bpl_parse.specs.Decls.{levels}
use Rattle.bpl_parse.specs.Gives.{Gives}
use Rattle.bpl_parse.specs.Stmts.{stmt}
use Rattle.bpl_parse.specs.declared.place.Place.TheVariants as at
use Rattle.bpl_rules.proofs.Turns.{append, goes_on, lists, push, stops}
use Rattle.bpl_rules.specs.Rules.{run_many}
use Rattle.bpl_tok.specs.declared.token.Terminal.TheVariants as k
use Rattle.std.proofs.Common.{rules, ◌-◌, length, arith, sym, subst}
use Rattle.std.proofs.lemmas.Result.{err_from_is_err_and}
use Rattle.bpl_parse.proofs.stmts.blocks.+nesting.Goals as goal

pub block-returns-then-depth-eq0 : goal.block-returns-then-depth-eq0
block-returns-then-depth-eq0 t c = fails_at c.at_bottom.result k.LeftBrace at.Other c.args.tokens.now _ c.at_bottom.ensures (block_bottom c.args.source.now c.args.depth c.args.tokens.now c.if-depth-eq0.true)

pub block-returns : goal.block-returns
block-returns t c = subst (Gives (λ x. (x.0, x.1.now)) c.inside_block.result) (sym (block_above c.args.source.now c.args.depth c.args.tokens.now (omega arith))) c.inside_block.ensures

pub else_if-returns-then-depth-eq0 : goal.else_if-returns-then-depth-eq0
else_if-returns-then-depth-eq0 t c = fails_at c.at_bottom.result k.If at.Other c.args.tokens.now _ c.at_bottom.ensures (else_if_bottom c.args.source.now c.args.depth c.args.tokens.now c.if-depth-eq0.true)

pub else_if-returns : goal.else_if-returns
else_if-returns t c = subst (Gives (λ x. (x.0, x.1.now)) c.inside_else_if.result) (sym (else_if_above c.args.source.now c.args.depth c.args.tokens.now (omega arith))) c.inside_else_if.ensures

pub many_stmts-returns-then-not-is_at_stmt : goal.many_stmts-returns-then-not-is_at_stmt
unfolding stmt
many_stmts-returns-then-not-is_at_stmt t c = stops append push lists (stmt c.args.source.now (levels c.args.source.now c.args.depth)) c.loop.found (length c.args.tokens.now - c.loop.counter) c.loop.rest.now _ (search rules) c.loop.invariant

pub many_stmts-returns-in_err-next : goal.many_stmts-returns-in_err-next
unfolding stmt
many_stmts-returns-in_err-next t c =
    let p = err_from_is_err_and c.from_residual.result c.from_residual.ensures.1 in
    rw (p.1, p.2) (ends (stmt c.args.source.now (levels c.args.source.now c.args.depth)) c.in_err-next.field-0.0 c.loop.found (length c.args.tokens.now) c.loop.counter c.loop.rest.now (run_many (stmt c.args.source.now (levels c.args.source.now c.args.depth)) (length c.args.tokens.now) c.args.tokens.now) c.loop-test.true (search rules) c.in_err-next.ensures c.loop.invariant)

pub many_stmts-loop-preserved : goal.many_stmts-loop-preserved
unfolding stmt
many_stmts-loop-preserved t c =
    rw c.in_ok-push.ensures.ok (goes_on append push lists (stmt c.args.source.now (levels c.args.source.now c.args.depth)) c.loop.found (length c.args.tokens.now) c.loop.counter c.loop.rest.now c.in_ok-next.next c.in_ok-next.after.now (run_many (stmt c.args.source.now (levels c.args.source.now c.args.depth)) (length c.args.tokens.now) c.args.tokens.now) c.loop-test.true (search rules) c.in_ok-next.ensures c.loop.invariant)
