-- Parts of a statement that fits fit, and what the parts of an `if` and of a `while` come to.
use Rattle.std.proofs.Common.{subst, sym, refl, arith, rules}
use Rattle.std.proofs.lemmas.Result.{on_ok_weaker}
use Rattle.bpl_flow.proofs.Fitting.{if-guard, if-part, if-other, while-guard, while-body}
use Rattle.bpl_flow.proofs.Walked.{if-walked, while-walked}
use Rattle.bpl_flow.specs.Fits.{Fits, AllFit}
use Rattle.bpl_type.specs.declared.typed.TypedStmt.TheViews.{the_lemmas}
use Rattle.bpl_flow.proofs.state.Walk.+walk.Goals as goal

pub statement-statements-requires : goal.statement-statements-requires
statement-statements-requires t c = (first_of (search (rules, the_lemmas), search rules, grind arith), subst AllFit (sym c.as_slice-in-If.ensures) (if-part c.in-If.guard c.in-If.then c.in-If.other (subst Fits c.in-If.is c.requires)))

pub statement-begin_else-requires : goal.statement-begin_else-requires
statement-begin_else-requires t c = if-guard c.in-If.guard c.in-If.then c.in-If.other (subst Fits c.in-If.is c.requires)

pub statement-statements-requires-in-If : goal.statement-statements-requires-in-If
statement-statements-requires-in-If t c = (first_of (search (rules, the_lemmas), search rules, grind arith), subst AllFit (sym c.as_slice-in-If-2.ensures) (if-other c.in-If.guard c.in-If.then c.in-If.other (subst Fits c.in-If.is c.requires)))

pub statement-statements-requires-in-While : goal.statement-statements-requires-in-While
statement-statements-requires-in-While t c = (first_of (search (rules, the_lemmas), search rules, grind arith), subst AllFit (sym c.as_slice-in-While-2.ensures) (while-body c.in-While.guard c.in-While.invariants c.in-While.body (subst Fits c.in-While.is c.requires)))

pub statement-leave_while-requires : goal.statement-leave_while-requires
statement-leave_while-requires t c = while-guard c.in-While.guard c.in-While.invariants c.in-While.body (subst Fits c.in-While.is c.requires)

pub statement-returns-in_ok-statements-in-If-2-clause-walked : goal.statement-returns-in_ok-statements-in-If-2-clause-walked
statement-returns-in_ok-statements-in-If-2-clause-walked t c =
    on_ok_weaker c.leave_if.result (λ ended. if-walked c.args.statement.now c.in-If.guard c.in-If.then c.in-If.other c.as_slice-in-If.result.now c.as_slice-in-If-2.result.now
    c.args.around.now c.enter_if.new.around c.statements.new.around c.args.before
    c.args.self.now c.enter_if.new.self c.statements.new.self c.begin_else.new.self c.statements-in-If.new.self c.leave_if.new.self
    c.in_ok-entered-in-If.entered.number c.statements.new.self.made c.in_ok-entered-in-If.entered.before
    c.in-If.is c.as_slice-in-If.ensures c.as_slice-in-If-2.ensures
    c.in_ok-entered-in-If.ensures.around c.in_ok-entered-in-If.ensures.number c.in_ok-entered-in-If.ensures.before c.in_ok-entered-in-If.ensures.begun
    c.in_ok-statements-in-If.ensures.kept c.in_ok-statements-in-If.ensures.walked refl
    c.in_ok-begin_else-in-If.ensures c.in_ok-statements-in-If-2.ensures.walked ended) c.leave_if.ensures.ended

pub statement-returns-in_ok-statements-in-While-clause-walked : goal.statement-returns-in_ok-statements-in-While-clause-walked
statement-returns-in_ok-statements-in-While-clause-walked t c =
    on_ok_weaker c.leave_while.result (λ ended. while-walked c.args.statement.now c.in-While.guard c.in-While.invariants c.as_slice-in-While.result.now c.in-While.body c.as_slice-in-While-2.result.now
    c.args.around.now c.enter_while.new.around c.args.before
    c.args.self.now c.enter_while.new.self c.statements-in-While.new.self c.leave_while.new.self
    c.in_ok-entered-in-While.entered.number c.in_ok-entered-in-While.entered.head c.in_ok-entered-in-While.entered.loops
    c.in-While.is c.as_slice-in-While.ensures c.as_slice-in-While-2.ensures
    c.in_ok-entered-in-While.ensures.around c.in_ok-entered-in-While.ensures.number c.in_ok-entered-in-While.ensures.head c.in_ok-entered-in-While.ensures.loops c.in_ok-entered-in-While.ensures.begun
    c.in_ok-statements-in-While.ensures.walked ended) c.leave_while.ensures.ended
