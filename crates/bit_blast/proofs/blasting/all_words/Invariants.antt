use Rattle.std.proofs.Common.{◌≡◌, ℕ, ◌+◌, ◌≤◌, length, drop}
use Rattle.bit_blast.specs.Words.{Grows}
use Rattle.bit_blast.specs.Blasted.{gates_from, most_gates}
use Rattle.bit_blast.specs.Standing.{Stands}
use Rattle.bit_blast.proofs.blasting.all_words.Given as goal

-- the words so far stand, and the gates leave enough for the rest
abbrev pub invariant-loop-k : goal.invariant-loop-k
invariant-loop-k l =
    record {
      count : length l.words ≡ l.k;
      stands : Stands l.terms.nodes l.net l.words;
      grows : (j : ℕ) × Grows l.fn.net l.net j × (j + gates_from l.terms.nodes l.k (drop l.k l.terms.nodes) ≤ most_gates l.terms.nodes);
    }
