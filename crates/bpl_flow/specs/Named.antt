-- Places that stand under their names.
use Rattle.std.specs.Prelude.{◌≡◌, ℕ, List}
use Rattle.std.specs.List.{AllByRecursion}
use Rattle.std.specs.Global.{Vec}
use Rattle.bpl_flow.specs.declared.state.Place.{Place}

abbrev pub AreNamed : List (Vec ℕ × Place) → Type 0
AreNamed entries = AllByRecursion (λ e. e.0.items ≡ e.1.name) entries
