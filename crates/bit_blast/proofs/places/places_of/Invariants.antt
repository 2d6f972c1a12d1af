use Rattle.std.proofs.Common.{◌≡◌, ◌+◌, ◌++◌, drop}
use Rattle.bit_blast.specs.Blasted.{input_count}
use Rattle.bit_blast.specs.Standing.{starts_from}
use Rattle.bit_blast.proofs.places.places_of.Given as goal

-- with those of the rest, the starts and the count so far are those of all variables
abbrev pub invariant-loop-variable : goal.invariant-loop-variable
invariant-loop-variable l =
    record {
      starts : l.starts ++ starts_from l.count (drop l.variable-index l.variable-items) ≡ starts_from 0 l.variable-items;
      count : l.count + input_count (drop l.variable-index l.variable-items) ≡ input_count l.variable-items;
    }
