-- The indexes of the tables of a program.
use Rattle.std.specs.Prelude.{◌≡◌, ℕ, ◌<◌, ◌^◌, List, length, map, filter}
use Rattle.type_pass.specs.declared.tables.Tables.{Tables}
use Rattle.type_pass.specs.declared.tables.Named.{Named}

pub record AreIndexes (tables : Tables) (consts globals : List Named) (functions procedures bodies : List (List ℕ)) : Type 0 where
  pub of_consts : consts ≡ tables.consts
  pub of_globals : globals ≡ tables.globals
  pub of_functions : functions ≡ map (λ f. f.name) tables.functions
  pub of_procedures : procedures ≡ map (λ p. p.name) tables.procedures
  pub of_bodies : bodies ≡ map (λ p. p.name) (filter (λ p. p.has_body) tables.procedures)
  pub few_bodies : length bodies < 2 ^ 32
