-- A bit vector, by its width and the number that its bits are in base 2.
use Rattle.std.specs.Prelude.{ℕ}

pub record Word : Type 0 where
  pub width : ℕ
  pub bits : ℕ
