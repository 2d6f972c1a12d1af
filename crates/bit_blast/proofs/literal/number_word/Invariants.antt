use Rattle.std.proofs.Common.{◌≡◌, ◌-◌, ◌++◌, Bool, List, length}
use Rattle.bit_blast.specs.Words.{IsWord, bits}
use Rattle.bit_blast.specs.Blasted.{low_bits}
use Rattle.bit_blast.proofs.literal.number_word.Given as goal

-- with the bits of the rest, the bits so far are those of the number
abbrev pub invariant-loop-i : goal.invariant-loop-i
invariant-loop-i l =
    record {
      wires : IsWord l.net l.i l.out.items;
      law : (ins : List Bool) → length ins ≡ l.net.inputs → bits ins l.net l.out.items ++ low_bits (l.width - l.i) l.rest ≡ low_bits l.width l.number;
    }
