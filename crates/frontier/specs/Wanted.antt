-- The two kinds of sites that are listed. No public clause cites it.
use Rattle.std.specs.Prelude.{ℕ, ◌+◌, Bool, not, ◌&&◌, cond, List, [], ◌∷◌, ◌++◌, reverse, slice_get}
use Rattle.flat_prog.specs.Program.{FlatProgram}
use Rattle.flat_prog.specs.Caps.{kind_of, may_follow, within}
use Rattle.call_tree.specs.Trees.{has_path, is_open}
use Rattle.frontier.specs.declared.listing.Wanted.{Wanted}
use Rattle.frontier.specs.declared.listing.Wanted.TheVariants.{Open, Cut}

abbrev pub is_wanted : FlatProgram → (entry bound : ℕ) → List (List ℕ) → Wanted → List ℕ → Bool
is_wanted flat entry bound tree Open path = is_open flat entry bound tree path
is_wanted flat entry bound tree Cut path = not (within flat entry bound path)

-- the callee may stand behind a way
abbrev pub follows : FlatProgram → (bound : ℕ) → List ℕ → ℕ → Bool
follows flat bound way callee = may_follow bound (kind_of (slice_get flat.procs callee)) callee (reverse way)

-- the same as the first by the way to a node, where these are the nodes: for a site and its callee
abbrev pub takes : FlatProgram → (bound : ℕ) → List (List ℕ) → Wanted → List ℕ → List ℕ → ℕ → Bool
takes flat bound nodes Open way site callee = follows flat bound way callee && not (has_path nodes site)
takes flat bound nodes Cut way site callee = not (follows flat bound way callee)

-- those of a path's sites that a test takes, where they have these callees and the first has this number
abbrev pub taken : (List ℕ → ℕ → Bool) → List ℕ → (first : ℕ) → List ℕ → List (List ℕ)
taken test path first [] = []
taken test path first (callee ∷ callees) = cond (test (path ++ first ∷ []) callee) ((path ++ first ∷ []) ∷ taken test path (first + 1) callees) (taken test path (first + 1) callees)
