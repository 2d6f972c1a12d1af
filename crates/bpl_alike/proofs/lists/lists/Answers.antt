use Rattle.std.proofs.Common.{◌≡◌, true, false, arith, length, ◌<◌, sym, ◌∙◌}
use Rattle.bpl_alike.proofs.ListLaws.{differs}
use Rattle.bpl_alike.proofs.lists.lists.Goals as goal

pub returns-then-not-is_like : goal.returns-then-not-is_like
returns-then-not-is_like g c =
    let here : c.loop-i.i < length c.args.a.now = omega arith in
    let there : c.loop-i.i < length c.args.b.now = omega arith in (
      λ h. absurd cc,
      λ same. absurd (differs g.T.Compare.bare c.args.a.now c.args.b.now c.loop-i.i c.index-a-i.result c.index-b-i.result here there c.index-a-i.is c.index-b-i.is
          (λ e. let yes : c.is_like.result ≡ true = c.is_like.ensures.1 e in let clash : true ≡ false = sym yes ∙ c.if-not-is_like.true in absurd cc) same),
    )
