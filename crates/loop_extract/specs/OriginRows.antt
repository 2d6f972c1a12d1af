-- What the blocks of a scope's flat procedure come from, from what is kept of the scope.
use Rattle.std.specs.Prelude.{ℕ, nat_eq, List, [], ◌∷◌, ◌++◌, length, map, flat_map, if◌then◌else◌}
use Rattle.flat_prog.specs.Sites.{numbers_from}
use Rattle.extract_def.specs.Places.{pass_count}
use Rattle.extract_def.specs.declared.origin.Origin.{Origin}
use Rattle.extract_def.specs.declared.origin.Origin.TheVariants.{Block, Enter, Pass, Leave, Again}
use Rattle.extract_def.specs.declared.scope.Scope.{Scope}
use Rattle.extract_def.specs.declared.scope.Scope.TheVariants.{Whole, In}
use Rattle.loop_extract.specs.declared.inner.Inner.{Inner}
use Rattle.loop_extract.specs.declared.region.Region.{Region}

-- what a block that the scope keeps comes from
abbrev pub kept_at : List Inner → ℕ → Origin
kept_at [] block = Block block
kept_at (i ∷ is) block = if nat_eq i.span.head block then Enter block else kept_at is block

-- what the blocks for the exits of a loop directly inside come from
abbrev pub passes_at : Inner → List Origin
passes_at i = map (Pass i.span.head) (numbers_from 0 (pass_count i.exits))

-- what the blocks behind the others come from
abbrev pub ends_at : Region → Scope → List Origin
ends_at r Whole = []
ends_at r (In head exit) = map Leave (numbers_from 0 (length r.exits)) ++ Again head ∷ []

-- what all blocks come from, in order
abbrev pub origins_at : Region → List Origin
origins_at r = map (kept_at r.inside) r.kept ++ (flat_map passes_at r.inside ++ ends_at r r.scope)
