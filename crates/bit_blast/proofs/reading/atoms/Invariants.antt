use Rattle.std.proofs.Common.{◌≡◌, ◌+◌, ◌++◌, length, drop}
use Rattle.bit_blast.specs.Blasted.{input_count}
use Rattle.bit_blast.specs.Standing.{atoms_read}
use Rattle.bit_blast.proofs.reading.atoms.Given as goal

-- with those of the rest, the atoms so far are those of all variables
abbrev pub invariant-loop-variable : goal.invariant-loop-variable
invariant-loop-variable l =
    record {
      atoms : l.atoms ++ atoms_read (drop l.variable-index l.variables) (drop l.from l.bits) ≡ atoms_read l.variables l.bits;
      count : l.from + input_count (drop l.variable-index l.variables) ≡ length l.bits;
    }
