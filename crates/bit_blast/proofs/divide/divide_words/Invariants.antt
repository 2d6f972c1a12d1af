use Rattle.std.proofs.Common.{◌≡◌, ◌+◌, ◌-◌, ◌*◌, Bool, List, length, drop}
use Rattle.std.specs.Prelude.{reverse}
use Rattle.bit_blast.specs.Words.{AreWires, Grows, IsWord, word}
use Rattle.bit_blast.proofs.Dividing.{Divides}
use Rattle.bit_blast.proofs.divide.divide_words.Given as goal

abbrev pub invariant-loop-i : goal.invariant-loop-i
invariant-loop-i l =
    record {
      grows : Grows l.fn.net l.net ((5 * length l.a + 5) * l.i + 1);
      there : AreWires l.net l.wide.items;
      left : IsWord l.net (length l.a) l.rest.items;
      places : IsWord l.net l.i l.digits.items;
      divisor : (ins : List Bool) → length ins ≡ l.fn.net.inputs → word ins l.net l.wide.items ≡ word ins l.fn.net l.b;
      law : (ins : List Bool) → length ins ≡ l.fn.net.inputs
          → Divides (word ins l.fn.net l.b) l.i (word ins l.fn.net (drop (length l.a - l.i) l.a)) (word ins l.net (reverse l.digits.items)) (word ins l.net l.rest.items);
    }
