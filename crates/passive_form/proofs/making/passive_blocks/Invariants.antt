use Rattle.std.specs.Prelude.{◌≡◌, drop, []}
use Rattle.passive_form.proofs.Loops.{blocks_made}
use Rattle.passive_form.proofs.making.passive_blocks.Given as goal

abbrev pub invariant-loop-number : goal.invariant-loop-number
invariant-loop-number l = blocks_made l.program l.proc [] l.order ≡ blocks_made l.program l.proc l.blocks (drop l.number-index l.order)
