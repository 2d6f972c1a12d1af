use Rattle.std.proofs.Common.{ℕ, ◌+◌, ◌∙◌, List, subst, sym, ap, arith}
use Rattle.bit_blast.specs.Words.{IsWord, bits}
use Rattle.bit_blast.proofs.Growing.{grows_then, word_push}
use Rattle.bit_blast.proofs.Zipping.{zip_law}
use Rattle.bit_blast.proofs.word.zip.Goals as goal

pub loop-i-preserved : goal.loop-i-preserved
loop-i-preserved c =
    let items = c.in_ok-push.ensures.items in
    record {
      grows = grows_then c.loop-i.invariant.grows c.push.ensures.grows (omega arith);
      word = subst (λ (l : List ℕ). IsWord c.push.new.net (c.loop-i.i + 1) l) (sym items) (word_push c.loop-i.out.items c.in_ok-wire.wire c.push.ensures.grows c.loop-i.invariant.word c.in_ok-wire.ensures.wire);
      law = λ ins e.
          ap (bits ins c.push.new.net) items
          ∙ zip_law c.args.net.now c.loop-i.net c.push.new.net c.loop-i.i c.args.pairing c.args.a.now c.args.b.now c.loop-i.out.items c.in_ok-wire.wire c.gate.result
          c.requires.pairing c.requires.same c.requires.a c.requires.b c.loop-i-test.true
          c.loop-i.invariant.grows c.loop-i.invariant.word c.push.ensures.grows c.gate.ensures c.in_ok-wire.ensures.value c.loop-i.invariant.law ins e;
    }
