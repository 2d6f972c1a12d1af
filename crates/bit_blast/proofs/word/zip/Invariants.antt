use Rattle.std.proofs.Common.{◌≡◌, Bool, List, length, take}
use Rattle.bit_blast.specs.Words.{Grows, IsWord, bits}
use Rattle.bit_blast.specs.Pairings.{pair_value, zipped}
use Rattle.bit_blast.proofs.word.zip.Given as goal

abbrev pub invariant-loop-i : goal.invariant-loop-i
invariant-loop-i l =
    record {
      grows : Grows l.fn.net l.net l.i;
      word : IsWord l.net l.i l.out.items;
      law : (ins : List Bool) → length ins ≡ l.fn.net.inputs
          → bits ins l.net l.out.items ≡ zipped (pair_value ins l.fn.net l.pairing) (bits ins l.fn.net (take l.i l.a)) (bits ins l.fn.net (take l.i l.b));
    }
