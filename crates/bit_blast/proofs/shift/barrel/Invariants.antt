use Rattle.std.proofs.Common.{◌≡◌, ◌+◌, ◌*◌, Bool, false, List, length, take}
use Rattle.bit_blast.specs.Words.{Grows, IsWire, IsWord, carried, word}
use Rattle.bit_blast.specs.Moves.{shifted}
use Rattle.bit_blast.proofs.shift.barrel.Given as goal

abbrev pub invariant-loop-i : goal.invariant-loop-i
invariant-loop-i l =
    record {
      grows : Grows l.fn.net l.net (length l.a * l.i + 1);
      wires : IsWord l.net (length l.a) l.out.items;
      zero : IsWire l.net l.off;
      never : (ins : List Bool) → length ins ≡ l.fn.net.inputs → carried ins l.net l.off ≡ false;
      law : (ins : List Bool) → length ins ≡ l.fn.net.inputs
          → word ins l.net l.out.items ≡ shifted l.direction (length l.a) (word ins l.fn.net l.a) (word ins l.fn.net (take l.i l.b));
    }
