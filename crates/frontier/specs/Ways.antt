-- What the code keeps of the callees of all sites, and of the way along a path. No public clause cites it.
use Rattle.std.specs.Prelude.{ℕ, List, [], ◌∷◌, map, slice_get, Option, None, Some}
use Rattle.flat_prog.specs.Sites.{sites_of}
use Rattle.flat_prog.specs.declared.proc.FlatProc.{FlatProc}

-- for each procedure those that its sites call
abbrev pub callee_lists : List FlatProc → List (List ℕ)
callee_lists procs = map (λ q. sites_of q.blocks) procs

abbrev pub list_or_none : Option (List ℕ) → List ℕ
list_or_none None = []
list_or_none (Some xs) = xs

abbrev pub list_at : List (List ℕ) → ℕ → List ℕ
list_at lists p = list_or_none (slice_get lists p)

abbrev pub go_on : (ℕ → List ℕ) → Option ℕ → List ℕ
go_on go None = []
go_on go (Some q) = go q

-- the procedures along a path from one, itself first, as far as it exists
abbrev pub way_on : List (List ℕ) → ℕ → List ℕ → List ℕ
way_on lists p [] = p ∷ []
way_on lists p (site ∷ path) = p ∷ go_on (λ q. way_on lists q path) (slice_get (list_at lists p) site)
