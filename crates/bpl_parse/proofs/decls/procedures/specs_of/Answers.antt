use Rattle.bpl_parse.specs.Decls.{spec}
use Rattle.bpl_parse.proofs.Loops.{ends}
use Rattle.bpl_rules.proofs.Turns.{append, goes_on, lists, push, stops}
use Rattle.bpl_rules.specs.Rules.{run_many}
use Rattle.std.proofs.Common.{rules, ◌-◌, length}
use Rattle.std.proofs.lemmas.Result.{err_from_is_err_and}
use Rattle.bpl_parse.proofs.decls.procedures.specs_of.Goals as goal

pub returns-then-not-is_at_spec : goal.returns-then-not-is_at_spec
unfolding spec
returns-then-not-is_at_spec c = stops append push lists (spec c.args.source.now) c.loop.found (length c.args.tokens.now - c.loop.counter) c.loop.rest.now _ (search rules) c.loop.invariant

pub returns-in_err-next : goal.returns-in_err-next
unfolding spec
returns-in_err-next c =
    let p = err_from_is_err_and c.from_residual.result c.from_residual.ensures.1 in
    rw (p.1, p.2) (ends (spec c.args.source.now) c.in_err-next.field-0.0 c.loop.found (length c.args.tokens.now) c.loop.counter c.loop.rest.now (run_many (spec c.args.source.now) (length c.args.tokens.now) c.args.tokens.now) c.loop-test.true (search rules) c.in_err-next.ensures c.loop.invariant)

pub loop-preserved : goal.loop-preserved
unfolding spec
loop-preserved c =
    rw c.in_ok-push.ensures.ok (goes_on append push lists (spec c.args.source.now) c.loop.found (length c.args.tokens.now) c.loop.counter c.loop.rest.now c.in_ok-next.next c.in_ok-next.after.now (run_many (spec c.args.source.now) (length c.args.tokens.now) c.args.tokens.now) c.loop-test.true (search rules) c.in_ok-next.ensures c.loop.invariant)
