-- Words moved by places, and the numbers that they are then.
use Rattle.std.specs.Prelude.{ℕ, ◌-◌, ◌*◌, ◌/◌, ◌%◌, ◌^◌, List, ◌++◌, drop, length, replicate, take}
use Rattle.bit_blast.specs.declared.layout.Direction.{Direction}
use Rattle.bit_blast.specs.declared.layout.Direction.TheVariants.{Left, Right}

-- the wires moved by so many places, at most their number, with one wire in the places that are left free
abbrev pub moved : Direction → ℕ → ℕ → List ℕ → List ℕ
moved Left by fill ws = replicate by fill ++ take (length ws - by) ws
moved Right by fill ws = drop by ws ++ replicate by fill

-- the number a of w bits shifted by n places
abbrev pub shifted : Direction → ℕ → ℕ → ℕ → ℕ
shifted Left w a n = a * 2 ^ n % 2 ^ w
shifted Right w a n = a / 2 ^ n
