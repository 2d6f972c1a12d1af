use Rattle.std.proofs.Common.{◌≡◌, ◌-◌, ◌∙◌, ◌++◌, ℕ, List, ap, sym, length, take, drop}
use Rattle.bit_blast.proofs.Adding.{whole_word}
use Rattle.bit_blast.proofs.Moving.{length_drop}
use Rattle.bit_blast.proofs.layout.moved_right.Goals as goal

pub returns : goal.returns
returns c =
    let a = c.args.a.now in
    let by = c.args.by in
    let whole : take (length c.args.a.now - c.args.by) (drop c.args.by c.args.a.now) ≡ drop c.args.by c.args.a.now =
    whole_word (drop c.args.by c.args.a.now) (length c.args.a.now - c.args.by) (sym (length_drop c.args.by c.args.a.now)) in
    c.in_ok-out.ensures
    ∙ ap (λ (l : List ℕ). l ++ c.as_slice.result.now) whole
    ∙ ap (λ (l : List ℕ). drop c.args.by c.args.a.now ++ l) (c.as_slice.ensures.value ∙ c.in_ok-free.ensures)
