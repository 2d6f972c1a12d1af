use Rattle.std.proofs.Common.{refl}
use Rattle.bpl_tok.specs.Spellings.{lone_signs, shared_signs}
use Rattle.bpl_tok.proofs.SpellingLaws.{sign_of-append}
use Rattle.bpl_tok.proofs.piece.signs.sign.Goals as goal

pub returns-in-Some-clause-value : goal.returns-in-Some-clause-value
returns-in-Some-clause-value c = rw (sign_of-append lone_signs shared_signs c.args.bytes.now, ← c.in-Some.ensures.value) refl

pub returns-in-None-clause-value : goal.returns-in-None-clause-value
returns-in-None-clause-value c = rw (sign_of-append lone_signs shared_signs c.args.bytes.now, ← c.in-None.ensures.value) c.shared_sign.ensures.value
