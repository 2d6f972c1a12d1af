use Rattle.type_pass.proofs.NumberLaws.{texts-more}
use Rattle.type_pass.proofs.numbers.places_of.Goals as goal

pub loop-i-preserved : goal.loop-i-preserved
loop-i-preserved c = λ text. texts-more c.args.names.now c.loop-i.i _ text _ _ c.loop-i-test.true (c.loop-i.invariant text) (c.in_ok-put_first.ensures text)
