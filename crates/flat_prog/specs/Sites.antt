-- The call sites of flat procedures, and the site paths of the nodes of a run tree (after Corral, CAV 2012).
use Rattle.std.specs.Prelude.{ℕ, zero, suc, ◌+◌, List, [], ◌∷◌, ◌++◌, length, take, slice_get, Option, None, Some}
use Rattle.std.specs.Option.{option_and_then, option_map}
use Rattle.flat_prog.specs.Program.{FlatProgram, blocks_of}
use Rattle.flat_prog.specs.Trees.{Run, Below, node, none, inner, free}
use Rattle.flat_prog.specs.declared.block.FlatBlock.{FlatBlock}
use Rattle.flat_prog.specs.declared.block.FlatCmd.{FlatCmd}
use Rattle.flat_prog.specs.declared.block.FlatCmd.TheVariants.{Assign, Havoc, Assume, Assert, Call}

-- the procedures that commands call, in order
abbrev pub calls_of : List FlatCmd → List ℕ
calls_of [] = []
calls_of (Assign pairs ∷ cmds) = calls_of cmds
calls_of (Havoc xs ∷ cmds) = calls_of cmds
calls_of (Assume expr ∷ cmds) = calls_of cmds
calls_of (Assert proc number expr ∷ cmds) = calls_of cmds
calls_of (Call proc args outs ∷ cmds) = proc ∷ calls_of cmds

-- The sites of a procedure are its calls, numbered from 0 by block and position: the procedure that each one calls.
abbrev pub sites_of : List FlatBlock → List ℕ
sites_of [] = []
sites_of (b ∷ bs) = calls_of b.cmds ++ sites_of bs

-- so many numbers, from one on
abbrev pub numbers_from : ℕ → ℕ → List ℕ
numbers_from first zero = []
numbers_from first (suc count) = first ∷ numbers_from (first + 1) count

-- the procedures that a block calls
abbrev pub calls_at : Option FlatBlock → List ℕ
calls_at None = []
calls_at (Some b) = calls_of b.cmds

-- the numbers of the sites in the blocks of a path, in order
abbrev pub sites_passed : List FlatBlock → List ℕ → List ℕ
sites_passed blocks [] = []
sites_passed blocks (b ∷ path) = numbers_from (length (sites_of (take b blocks))) (length (calls_at (slice_get blocks b))) ++ sites_passed blocks path

-- The site paths of the nodes of a run, where this is its own: lists of site numbers from the root. The children stand at
-- the sites passed, in order; a free child is no node.
abbrev mutual
  pub paths_of : Run → FlatProgram → List ℕ → List (List ℕ)
  paths_of (node track below) flat path = path ∷ paths_below below flat path (sites_passed (blocks_of (slice_get flat.procs track.proc)) track.path)

  pub paths_below : Below → FlatProgram → List ℕ → List ℕ → List (List ℕ)
  paths_below none flat path sites = []
  paths_below (inner run below) flat path [] = []
  paths_below (inner run below) flat path (site ∷ sites) = paths_of run flat (path ++ site ∷ []) ++ paths_below below flat path sites
  paths_below (free ends values below) flat path [] = []
  paths_below (free ends values below) flat path (site ∷ sites) = paths_below below flat path sites

-- the procedures along a site path from a procedure, itself first; None where the path does not exist
abbrev pub along : FlatProgram → ℕ → List ℕ → Option (List ℕ)
along flat p [] = Some (p ∷ [])
along flat p (site ∷ sites) = option_map (λ ps. p ∷ ps) (option_and_then (λ q. along flat q sites) (slice_get (sites_of (blocks_of (slice_get flat.procs p))) site))
