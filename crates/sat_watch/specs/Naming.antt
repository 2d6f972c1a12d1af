-- Which answers of a store name a clause.
use Rattle.std.specs.Prelude.{Bool, true, false}
use Rattle.cnf_form.specs.declared.store.Seen.{Seen}
use Rattle.cnf_form.specs.declared.store.Seen.TheVariants.{Unit, Falsified, Nothing}

abbrev pub names_clause : Seen → Bool
names_clause (Unit l id) = true
names_clause (Falsified id) = true
names_clause Nothing = false
