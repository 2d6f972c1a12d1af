use Rattle.bpl_parse.specs.Decls.{levels}
use Rattle.bpl_parse.specs.Stmts.{next_target}
use Rattle.bpl_parse.proofs.Loops.{ends}
use Rattle.bpl_rules.proofs.Turns.{append, goes_on, lists, push, stops}
use Rattle.bpl_rules.specs.Rules.{run_many}
use Rattle.std.proofs.Common.{rules, ◌-◌, length}
use Rattle.std.proofs.lemmas.Result.{err_from_is_err_and}
use Rattle.bpl_parse.proofs.stmts.named.more_targets.Goals as goal

pub returns-then-not-is_at : goal.returns-then-not-is_at
unfolding next_target
returns-then-not-is_at c = stops append push lists (next_target c.args.source.now (levels c.args.source.now c.args.depth)) c.loop.found (length c.args.tokens.now - c.loop.counter) c.loop.rest.now _ (search rules) c.loop.invariant

pub returns-in_err-next : goal.returns-in_err-next
unfolding next_target
returns-in_err-next c =
    let p = err_from_is_err_and c.from_residual.result c.from_residual.ensures.1 in
    rw (p.1, p.2) (ends (next_target c.args.source.now (levels c.args.source.now c.args.depth)) c.in_err-next.field-0.0 c.loop.found (length c.args.tokens.now) c.loop.counter c.loop.rest.now (run_many (next_target c.args.source.now (levels c.args.source.now c.args.depth)) (length c.args.tokens.now) c.args.tokens.now) c.loop-test.true (search rules) c.in_err-next.ensures c.loop.invariant)

pub loop-preserved : goal.loop-preserved
unfolding next_target
loop-preserved c =
    rw c.in_ok-push.ensures.ok (goes_on append push lists (next_target c.args.source.now (levels c.args.source.now c.args.depth)) c.loop.found (length c.args.tokens.now) c.loop.counter c.loop.rest.now c.in_ok-next.next c.in_ok-next.after.now (run_many (next_target c.args.source.now (levels c.args.source.now c.args.depth)) (length c.args.tokens.now) c.args.tokens.now) c.loop-test.true (search rules) c.in_ok-next.ensures c.loop.invariant)
