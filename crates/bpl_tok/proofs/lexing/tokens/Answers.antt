use Rattle.std.proofs.Common.{rules, arith, length, sym}
use Rattle.bpl_tok.proofs.TokensLaws.{after_gap, after_whole, at_fault, at_end, no_turn}
use Rattle.bpl_tok.proofs.lexing.tokens.Goals as goal
use Rattle.bpl_tok.proofs.lexing.tokens.Goals.{in-Gap, in-Whole+in_ok-push-in-Whole}

pub returns-then-is_empty : goal.returns-then-is_empty
returns-then-is_empty c = at_end _ c.loop.at c.loop.rest.now c.loop.found.items _ (search rules) c.loop.invariant.1

pub returns-in-Fault : goal.returns-in-Fault
returns-in-Fault c = at_fault c.loop.rest.now (length c.args.source.now) c.loop.counter c.loop.at c.loop.found.items _ c.loop-test.true (grind arith) c.loop.invariant.1 c.in-Fault.kind (sym c.in-Fault.ensures.value)

pub loop-preserved : goal.loop-preserved
loop-preserved c =
    elim c.match-next_piece.branch [
      | in-Gap w ↦ (
        rw (w.at-is, w.rest-is) (omega (arith, w.split_at.ensures.back_len, c.loop.invariant.0)),
        rw (w.at-is, w.rest-is, w.found-is, w.split_at.ensures.back) (after_gap c.loop.rest.now (length c.args.source.now) c.loop.counter c.loop.at c.loop.found.items _ c.loop-test.true (grind arith) c.loop.invariant.1 w.in-Gap.n (sym w.in-Gap.ensures.value)),
      )
      | in-Whole+in_ok-push-in-Whole w ↦ (
        rw (w.at-is, w.rest-is) (omega (arith, w.split_at-in-Whole.ensures.back_len, c.loop.invariant.0)),
        rw (w.at-is, w.rest-is, w.found-is, w.in_ok-push-in-Whole.ensures.items, w.split_at-in-Whole.ensures.back)
            (after_whole c.loop.rest.now (length c.args.source.now) c.loop.counter c.loop.at c.loop.found.items _ c.loop-test.true (grind arith) c.loop.invariant.1 w.in-Whole.kind w.in-Whole.len (sym w.in-Whole.ensures.value)),
      )
    ]

pub returns : goal.returns
returns c = no_turn (length c.args.source.now) c.loop.counter c.loop.at c.loop.rest.now c.loop.found.items _ c.loop-test.false c.loop.invariant.1
