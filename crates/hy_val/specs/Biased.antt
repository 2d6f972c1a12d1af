-- The order of signed numbers, seen on unsigned ones.
use Rattle.std.specs.Prelude.{ℕ, ◌+◌, ◌-◌, ◌^◌, if◌then◌else◌}
use Rattle.hy_val.specs.Bits.{is_negative}

-- the signed value plus 2^(w-1)
abbrev pub biased : ℕ → ℕ → ℕ
biased w a = if is_negative w a then a - 2 ^ (w - 1) else a + 2 ^ (w - 1)
