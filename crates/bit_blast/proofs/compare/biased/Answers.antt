use Rattle.std.proofs.Common.{◌≡◌, ◌+◌, ◌-◌, ◌++◌, [], ◌∷◌, ◌∙◌, ℕ, List, ap, length, arith}
use Rattle.bit_blast.proofs.Comparing.{biased_law, biased_word}
use Rattle.bit_blast.proofs.compare.biased.Goals as goal

pub returns-clause-value : goal.returns-clause-value
returns-clause-value c =
    let some : length c.args.a.now ≡ length c.args.a.now - 1 + 1 = omega (arith, c.requires.some) in
    biased_law c.args.net.now c.negated.new.net c.args.a.now c.push.new.self.items (length c.args.a.now - 1) c.in_ok-sign.sign _ c.negated.ensures.grows c.requires.a some
    (c.in_ok-push.ensures.items ∙ ap (λ (l : List ℕ). l ++ c.in_ok-sign.sign ∷ []) c.in_ok-out.ensures.items) c.in_ok-sign.ensures.value

pub returns-clause-word : goal.returns-clause-word
returns-clause-word c =
    let some : length c.args.a.now ≡ length c.args.a.now - 1 + 1 = omega (arith, c.requires.some) in
    biased_word c.args.net.now c.negated.new.net c.args.a.now c.push.new.self.items (length c.args.a.now - 1) c.in_ok-sign.sign _ c.negated.ensures.grows c.requires.a some
    (c.in_ok-push.ensures.items ∙ ap (λ (l : List ℕ). l ++ c.in_ok-sign.sign ∷ []) c.in_ok-out.ensures.items) c.in_ok-sign.ensures.wire
