use Rattle.std.proofs.Common.{◌≡◌, ℕ, List, take, map}
use Rattle.std.specs.Prelude.{position}
use Rattle.std.specs.Str.{bytes_eq}
use Rattle.indexmap.specs.IndexMap.{get_by}
use Rattle.type_pass.proofs.numbers.places_of.Given as goal

-- the names so far have their first places
abbrev pub invariant-loop-i : goal.invariant-loop-i
invariant-loop-i l = (text : List ℕ) → get_by (λ t. bytes_eq text t.now) l.places ≡ position (bytes_eq text) (map (λ t. t.now) (take l.i l.names))
