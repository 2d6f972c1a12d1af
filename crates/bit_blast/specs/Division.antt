-- One step of a restoring division.
use Rattle.std.specs.Prelude.{ℕ, ◌-◌, nat_le, if◌then◌else◌}

-- what is left of s where d is taken from it, if it goes
abbrev pub restored : ℕ → ℕ → ℕ
restored d s = if nat_le d s then s - d else s
