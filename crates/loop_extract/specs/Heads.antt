-- The reached loops of a procedure, each with the scope around it.
use Rattle.std.specs.Prelude.{◌≡◌, ℕ, ◌&&◌, nat_le, nat_lt, Bool, true, false, List, map, slice_index_or, IsTrue}
use Rattle.std.specs.List.{list_all}
use Rattle.src_prog.specs.declared.proc.SrcLoop.{SrcLoop}
use Rattle.extract_def.specs.Scopes.{scope_around}
use Rattle.extract_def.specs.declared.scope.Scope.{Scope}
use Rattle.extract_def.specs.declared.scope.Scope.TheVariants.{Whole, In}
use Rattle.loop_extract.specs.Ascents.{head_at}
use Rattle.loop_extract.specs.declared.scopes.Head.{Head}

-- the flag of the loop's head is up
abbrev pub is_up : List Bool → SrcLoop → Bool
is_up flags l = slice_index_or flags l.head false

-- a loop, and the scope directly around it
abbrev pub head_of : List SrcLoop → SrcLoop → Head
head_of loops l = record { span = l; around = scope_around loops l.head }

-- the scope holds the block
abbrev pub holds : Scope → ℕ → Bool
holds Whole block = true
holds (In head exit) block = nat_le head block && nat_lt block exit

-- the scope around the loop holds its head
abbrev pub lies_within : Head → Bool
lies_within h = holds h.around h.span.head

-- these are the heads of the loops, each of which lies in the scope around it
pub record HaveHeads (numbers : List ℕ) (heads : List Head) : Type 0 where
  pub numbers_are : numbers ≡ map head_at heads
  pub within : IsTrue (list_all lies_within heads)
