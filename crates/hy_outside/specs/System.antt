-- What the shelf of real files counts.
use Rattle.std.specs.Prelude.{ℕ, Bool, List, Result, Ok, Err}
use Rattle.hy_outside.specs.declared.ShelfFault.{ShelfFault}
use Rattle.hy_outside.specs.declared.ShelfFault.TheVariants.{Failed, NoMemory}
use Rattle.hy_outside.specs.Outside.{one_more}

pub record FileState : Type 0 where
  pub is_open : Bool
  pub faults : ℕ
  pub opened : List (List ℕ)

-- the count after an `open`: a fault of the system is counted, want of memory is not
abbrev pub opens_counted : ℕ → Result (Unit {0}) ShelfFault → ℕ
opens_counted count (Ok done) = count
opens_counted count (Err NoMemory) = count
opens_counted count (Err Failed) = one_more count
