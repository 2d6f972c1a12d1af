-- How the loops of a procedure lie among its blocks. The blocks of a loop are those numbered from its head on, below its exit.
use Rattle.std.specs.Prelude.{ℕ, Bool, true, ◌&&◌, ◌||◌, not, nat_eq, nat_lt, nat_le, List, [], ◌∷◌}
use Rattle.std.specs.List.{list_all, list_any}
use Rattle.src_prog.specs.declared.proc.SrcLoop.{SrcLoop}

-- whether the loop holds a block
abbrev pub holds_block : SrcLoop → ℕ → Bool
holds_block l block = nat_le l.head block && nat_lt block l.exit

-- the head is below the exit, which is one of so many blocks, and block 0 is in no loop
abbrev pub loop_is_within : ℕ → SrcLoop → Bool
loop_is_within blocks l = nat_lt 0 l.head && (nat_lt l.head l.exit && nat_lt l.exit blocks)

-- Of two loops the second has the greater head, and they share no block, or the first holds all blocks and the exit of the second.
abbrev pub is_apart_or_inside : SrcLoop → SrcLoop → Bool
is_apart_or_inside l m = nat_lt l.head m.head && (nat_le l.exit m.head || nat_lt m.exit l.exit)

-- the loops ascend by head, and two are apart or one is inside the other
abbrev pub are_nested : List SrcLoop → Bool
are_nested [] = true
are_nested (l ∷ ls) = list_all (is_apart_or_inside l) ls && are_nested ls

-- the target is the head of a loop that holds the block
abbrev pub goes_back : List SrcLoop → ℕ → ℕ → Bool
goes_back loops block target = list_any (λ l. nat_eq l.head target && holds_block l block) loops

-- a loop that holds the target but not the block is entered at its head
abbrev pub enters_at_head : ℕ → ℕ → SrcLoop → Bool
enters_at_head block target l = not (holds_block l target) || (holds_block l block || nat_eq l.head target)

-- an edge leads to a greater block or back to the head of a loop around it, and into a loop only at its head
abbrev pub edge_fits : List SrcLoop → ℕ → ℕ → Bool
edge_fits loops block target = (nat_lt block target || goes_back loops block target) && list_all (enters_at_head block target) loops
