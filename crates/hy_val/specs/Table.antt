-- A map value: its sorts, and its entries that aren't zero, each behind its index.
use Rattle.std.specs.Prelude.{List}
use Rattle.hy_val.specs.declared.sort.Scalar.{Scalar}
use Rattle.hy_val.specs.declared.atom.Atom.{Atom}

pub record Table : Type 0 where
  pub index : Scalar
  pub elem : Scalar
  pub pairs : List (Atom × Atom)
