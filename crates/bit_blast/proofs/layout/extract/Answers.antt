use Rattle.bit_blast.proofs.Signing.{extract_law, extract_word}
use Rattle.bit_blast.proofs.layout.extract.Goals as goal

pub returns-clause-word : goal.returns-clause-word
returns-clause-word c = λ net wa. extract_word net c.args.a.now c.in_ok-out.out.items c.args.hi c.args.lo c.requires.order c.requires.within c.in_ok-out.ensures.items wa

pub returns-clause-value : goal.returns-clause-value
returns-clause-value c = λ net ins. extract_law ins net c.args.a.now c.in_ok-out.out.items c.args.hi c.args.lo c.requires.order c.requires.within c.in_ok-out.ensures.items
