use Rattle.std.proofs.Common.{◌≡◌, Bool, List, length, take, drop}
use Rattle.bit_blast.specs.Words.{IsWord, bits}
use Rattle.bit_blast.proofs.word.inputs.Given as goal

abbrev pub invariant-loop-i : goal.invariant-loop-i
invariant-loop-i l =
    record {
      wires : IsWord l.net l.i l.out.items;
      law : (ins : List Bool) → length ins ≡ l.net.inputs → bits ins l.net l.out.items ≡ take l.i (drop l.first ins);
    }
