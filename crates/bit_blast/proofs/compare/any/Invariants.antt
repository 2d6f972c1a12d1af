use Rattle.std.proofs.Common.{◌≡◌, ◌+◌, Bool, not, List, length, take}
use Rattle.std.specs.Prelude.{nat_eq}
use Rattle.bit_blast.specs.Words.{Grows, IsWire, carried, word}
use Rattle.bit_blast.proofs.compare.any.Given as goal

abbrev pub invariant-loop-i : goal.invariant-loop-i
invariant-loop-i l =
    record {
      grows : Grows l.fn.net l.net (l.i + 1);
      there : IsWire l.net l.some;
      law : (ins : List Bool) → length ins ≡ l.fn.net.inputs → carried ins l.net l.some ≡ not (nat_eq (word ins l.fn.net (take l.i l.a)) 0);
    }
