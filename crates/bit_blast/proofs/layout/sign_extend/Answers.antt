use Rattle.std.proofs.Common.{◌≡◌, ◌+◌, ◌-◌, ◌++◌, ◌∙◌, ℕ, List, ap, length, arith}
use Rattle.bit_blast.proofs.Signing.{sign_law, sign_word}
use Rattle.bit_blast.proofs.layout.sign_extend.Goals as goal

pub returns-clause-word : goal.returns-clause-word
returns-clause-word c = λ net wa.
    let is = c.in_ok-out.ensures ∙ ap (λ (l : List ℕ). c.args.a.now ++ l) (c.as_slice.ensures.value ∙ c.in_ok-above.ensures) in
    sign_word net c.args.a.now c.in_ok-out.out.items (length c.args.a.now - 1) c.args.more (omega (arith, c.requires)) is wa

pub returns-clause-value : goal.returns-clause-value
returns-clause-value c = λ net ins.
    let some : length c.args.a.now ≡ length c.args.a.now - 1 + 1 = omega (arith, c.requires) in
    let is = c.in_ok-out.ensures ∙ ap (λ (l : List ℕ). c.args.a.now ++ l) (c.as_slice.ensures.value ∙ c.in_ok-above.ensures) in
    sign_law ins net c.args.a.now c.in_ok-out.out.items (length c.args.a.now - 1) c.args.more some is
