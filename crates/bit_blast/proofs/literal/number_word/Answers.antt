use Rattle.std.proofs.Common.{◌+◌, ◌-◌, ◌/◌, ◌++◌, ◌∙◌, ℕ, List, length, sym, subst, ap, arith}
use Rattle.std.proofs.lemmas.List.Elements.{All-nil}
use Rattle.bit_blast.specs.Words.{AreWires, IsWire, IsWord, bits}
use Rattle.bit_blast.specs.Blasted.{low_bits}
use Rattle.bit_blast.proofs.Growing.{grows_not, word_push}
use Rattle.bit_blast.proofs.LowBits.{literal_step, literal_end}
use Rattle.bit_blast.proofs.literal.number_word.Goals as goal

pub loop-i-init : goal.loop-i-init
loop-i-init c = record {
  wires = record { width = ap length c.new-out.ensures.items; there = subst (AreWires c.args.net.now) (sym c.new-out.ensures.items) (All-nil (IsWire c.args.net.now)) };
  law = λ ins e.
      ap (λ (l : List ℕ). bits ins c.args.net.now l ++ low_bits (c.args.width - 0) c.args.number) c.new-out.ensures.items
      ∙ ap (λ (w : ℕ). low_bits w c.args.number) (omega arith);
}

pub loop-i-preserved : goal.loop-i-preserved
loop-i-preserved c = record {
  wires = subst (λ (l : List ℕ). IsWord c.args.net.now (c.loop-i.i + 1) l) (sym c.in_ok-push.ensures.items)
      (word_push c.loop-i.out.items c.constant.result (grows_not c.args.net.now) c.loop-i.invariant.wires c.constant.ensures.wire);
  law = λ ins e.
      ap (λ (l : List ℕ). bits ins c.args.net.now l ++ low_bits (c.args.width - (c.loop-i.i + 1)) (c.loop-i.rest / 2)) c.in_ok-push.ensures.items
      ∙ literal_step ins c.args.net.now c.loop-i.out.items c.constant.result c.args.width c.loop-i.i c.loop-i.rest (low_bits c.args.width c.args.number)
      c.loop-i-test.true (c.constant.ensures.value ins e) (c.loop-i.invariant.law ins e);
}

pub returns-clause-bits : goal.returns-clause-bits
returns-clause-bits c = λ ins e.
    literal_end (bits ins c.args.net.now c.loop-i.out.items) c.args.width c.loop-i.i c.loop-i.rest (low_bits c.args.width c.args.number) c.loop-i-test.false (c.loop-i.invariant.law ins e)
