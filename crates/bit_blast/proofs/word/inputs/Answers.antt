use Rattle.std.proofs.Common.{◌+◌, ◌∙◌, ℕ, List, length, sym, subst, ap, arith}
use Rattle.std.proofs.lemmas.List.Elements.{All-nil}
use Rattle.bit_blast.specs.Words.{AreWires, IsWire, IsWord, bits}
use Rattle.bit_blast.proofs.Growing.{grows_not, word_push}
use Rattle.bit_blast.proofs.FirstWires.{input_law}
use Rattle.bit_blast.proofs.word.inputs.Goals as goal

pub loop-i-init : goal.loop-i-init
loop-i-init c = record {
  wires = record { width = ap length c.new-out.ensures.items; there = subst (AreWires c.args.net.now) (sym c.new-out.ensures.items) (All-nil (IsWire c.args.net.now)) };
  law = λ ins e. ap (bits ins c.args.net.now) c.new-out.ensures.items;
}

pub loop-i-preserved : goal.loop-i-preserved
loop-i-preserved c =
    let net = c.args.net.now in
    record {
      wires = subst (λ (l : List ℕ). IsWord c.args.net.now (c.loop-i.i + 1) l) (sym c.in_ok-push.ensures.items)
          (word_push c.loop-i.out.items (c.args.first + c.loop-i.i) (grows_not c.args.net.now) c.loop-i.invariant.wires (omega (arith, c.requires, c.loop-i-test.true)));
      law = λ ins e.
          ap (bits ins c.args.net.now) c.in_ok-push.ensures.items
          ∙ input_law ins c.args.net.now c.args.first c.loop-i.i c.loop-i.out.items (omega (arith, c.requires, c.loop-i-test.true, e)) (c.loop-i.invariant.law ins e);
    }
