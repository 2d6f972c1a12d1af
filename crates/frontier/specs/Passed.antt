-- What the code keeps of the sites of blocks, and of a run on the way to its free children. No public clause cites it.
use Rattle.std.specs.Prelude.{ℕ, ◌+◌, Bool, false, ◌||◌, List, [], ◌∷◌, ◌++◌, length, map, slice_get, slice_index_or, Option, None, Some}
use Rattle.flat_prog.specs.Laws.{below_of}
use Rattle.flat_prog.specs.Nodes.{stray}
use Rattle.flat_prog.specs.Program.{FlatProgram}
use Rattle.flat_prog.specs.Sites.{calls_of, numbers_from}
use Rattle.flat_prog.specs.Trees.{Run}
use Rattle.flat_prog.specs.declared.block.FlatBlock.{FlatBlock}
use Rattle.flat_prog.specs.declared.proc.FlatProc.{FlatProc}
use Rattle.flat_prog.specs.declared.run.RunNode.{RunNode}
use Rattle.call_tree.specs.Questions.{frees_of, frees_below}
use Rattle.call_tree.specs.Trees.{has_path}
use Rattle.frontier.specs.Ways.{list_at}
use Rattle.frontier.specs.declared.passing.Standing.{Standing}

-- the numbers of the sites in each block, where the first site has this one
abbrev pub block_sites : ℕ → List FlatBlock → List (List ℕ)
block_sites first [] = []
block_sites first (b ∷ blocks) = numbers_from first (length (calls_of b.cmds)) ∷ block_sites (first + length (calls_of b.cmds)) blocks

-- the same for each procedure
abbrev pub site_tables : List FlatProc → List (List (List ℕ))
site_tables procs = map (λ q. block_sites 0 q.blocks) procs

abbrev pub table_or_none : Option (List (List ℕ)) → List (List ℕ)
table_or_none None = []
table_or_none (Some lists) = lists

abbrev pub table_at : List (List (List ℕ)) → ℕ → List (List ℕ)
table_at tables p = table_or_none (slice_get tables p)

-- the lists of these numbers, put together
abbrev pub sites_on : List (List ℕ) → List ℕ → List ℕ
sites_on lists [] = []
sites_on lists (b ∷ path) = list_at lists b ++ sites_on lists path

-- the path is a free child's in one of the runs that stand so
abbrev pub is_left : FlatProgram → List Run → List Standing → List ℕ → Bool
is_left flat runs [] p = false
is_left flat runs (s ∷ left) p = has_path (frees_of (slice_index_or runs s.node stray) flat s.path) p || is_left flat runs left p

-- or it is one of those found
abbrev pub has_free : FlatProgram → List Run → List Standing → List (List ℕ) → List ℕ → Bool
has_free flat runs left free p = has_path free p || is_left flat runs left p

abbrev pub frees_by : FlatProgram → List Run → List (List (List ℕ)) → Option RunNode → List ℕ → List (List ℕ)
frees_by flat runs tables None path = []
frees_by flat runs tables (Some n) path = frees_below (below_of runs n.children) flat path (sites_on (table_at tables n.proc) n.path)

-- the free children below the node that stands so, where these are the sites of all blocks
abbrev pub frees_at : FlatProgram → List Run → List (List (List ℕ)) → List RunNode → Standing → List (List ℕ)
frees_at flat runs tables nodes s = frees_by flat runs tables (slice_get nodes s.node) s.path
