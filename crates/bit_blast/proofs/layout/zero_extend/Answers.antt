use Rattle.std.proofs.Common.{◌++◌, ◌∙◌, ℕ, List, ap}
use Rattle.bit_blast.proofs.Signing.{zero_law, zero_word}
use Rattle.bit_blast.proofs.layout.zero_extend.Goals as goal

pub returns-clause-word : goal.returns-clause-word
returns-clause-word c =
    let is = c.in_ok-out.ensures ∙ ap (λ (l : List ℕ). c.args.a.now ++ l) (c.as_slice.ensures.value ∙ c.in_ok-above.ensures) in
    zero_word c.args.net.now c.push.new.net c.args.a.now c.in_ok-out.out.items c.in_ok-off.off c.args.more _ c.push.ensures.grows c.requires.a c.in_ok-off.ensures.wire is

pub returns-clause-value : goal.returns-clause-value
returns-clause-value c =
    let is = c.in_ok-out.ensures ∙ ap (λ (l : List ℕ). c.args.a.now ++ l) (c.as_slice.ensures.value ∙ c.in_ok-above.ensures) in
    zero_law c.args.net.now c.push.new.net c.args.a.now c.in_ok-out.out.items c.in_ok-off.off c.args.more _ c.push.ensures.grows c.requires.a c.in_ok-off.ensures.value is
