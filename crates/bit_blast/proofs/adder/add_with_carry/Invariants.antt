use Rattle.std.proofs.Common.{◌≡◌, ◌+◌, ◌*◌, ◌^◌, Bool, List, length, take}
use Rattle.bit_blast.specs.Words.{Grows, IsWire, IsWord, bit, carried, word}
use Rattle.bit_blast.proofs.adder.add_with_carry.Given as goal

abbrev pub invariant-loop-i : goal.invariant-loop-i
invariant-loop-i l =
    record {
      grows : Grows l.fn.net l.net (3 * l.i);
      wires : IsWord l.net l.i l.sum.items;
      next : IsWire l.net l.next;
      law : (ins : List Bool) → length ins ≡ l.fn.net.inputs
          → word ins l.net l.sum.items + 2 ^ l.i * bit (carried ins l.net l.next) ≡ word ins l.fn.net (take l.i l.a) + word ins l.fn.net (take l.i l.b) + bit (carried ins l.fn.net l.carry);
    }
