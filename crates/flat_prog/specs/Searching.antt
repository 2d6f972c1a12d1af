-- The steps of the search in depth for an order of the blocks of a procedure.
use Rattle.std.specs.Prelude.{ℕ, Bool, true, false, not, List, [], ◌∷◌, ◌++◌, map, length, replicate, slice_get, slice_set, Option, None, Some, if◌then◌else◌}
use Rattle.flat_prog.specs.Sites.{numbers_from}
use Rattle.flat_prog.specs.declared.block.FlatBlock.{FlatBlock}
use Rattle.flat_prog.specs.declared.block.FlatNext.{FlatNext}
use Rattle.flat_prog.specs.declared.block.FlatNext.TheVariants.{Goto, Return}
use Rattle.flat_prog.specs.declared.proc.FlatProc.{FlatProc}
use Rattle.flat_prog.specs.declared.ordering.Visit.{Visit}
use Rattle.flat_prog.specs.declared.ordering.Visit.TheVariants.{Enter, Leave}
use Rattle.flat_prog.specs.declared.ordering.Search.{Search}

-- the blocks to which a block leads, in the order of its goto list
abbrev pub targets_next : FlatNext → List ℕ
targets_next (Goto targets) = targets
targets_next Return = []

abbrev pub targets_at : Option FlatBlock → List ℕ
targets_at None = []
targets_at (Some block) = targets_next block.next

-- each of these is to be entered
abbrev pub entries : List ℕ → List Visit
entries numbers = map Enter numbers

-- each of so many blocks is to be entered
abbrev pub all_entries : ℕ → List Visit
all_entries count = entries (numbers_from 0 count)

-- the search before its first step
abbrev pub begun : FlatProc → Search
begun q = record { visits = all_entries (length q.blocks); entered = replicate (length q.blocks) false; left = [] }

-- the block is there and was not entered
abbrev pub is_new : Option Bool → Bool
is_new None = false
is_new (Some entered) = not entered

-- the search after a block is entered, where it was not before
abbrev pub entered : FlatProc → Search → ℕ → Search
entered q s n =
    if is_new (slice_get s.entered n)
    then record { visits = s.visits ++ Leave n ∷ entries (targets_at (slice_get q.blocks n)); entered = slice_set s.entered n true; left = s.left }
    else s

-- the search after a step
abbrev pub stepped : FlatProc → Search → Visit → Search
stepped q s (Enter n) = entered q s n
stepped q s (Leave n) = record { visits = s.visits; entered = s.entered; left = s.left ++ n ∷ [] }
