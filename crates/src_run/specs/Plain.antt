-- The programs whose runs are searched by trying every list of choices.
use Rattle.std.specs.Prelude.{ℕ, ◌+◌, nat_le, Bool, true, false, not, ◌&&◌, List, [], ◌∷◌, length, slice_get, Option, None, Some}
use Rattle.std.specs.List.{list_all}
use Rattle.hy_val.specs.declared.sort.ScalarKind.TheVariants.{Bool as BoolSort, Bv as BvSort}
use Rattle.hy_val.specs.declared.sort.Sort.{Sort}
use Rattle.hy_val.specs.declared.sort.SortKind.TheVariants.{Scalar as ScalarSort, Map as MapSort}
use Rattle.src_prog.specs.Program.{Program}
use Rattle.src_prog.specs.declared.block.Cmd.{Cmd}
use Rattle.src_prog.specs.declared.block.Cmd.TheVariants.{Assign, Havoc, Assume, Assert, Call}
use Rattle.src_prog.specs.declared.block.SrcBlock.{SrcBlock}
use Rattle.src_prog.specs.declared.block.Next.{Next}
use Rattle.src_prog.specs.declared.block.Next.TheVariants.{Goto, Return}
use Rattle.src_prog.specs.declared.proc.Named.{Named}
use Rattle.src_prog.specs.declared.proc.SrcProc.{SrcProc}

abbrev pub is_empty : {A : Type 0} → List A → Bool
is_empty [] = true
is_empty (x ∷ xs) = false

abbrev pub is_bool : Sort → Bool
is_bool (ScalarSort BoolSort) = true
is_bool (ScalarSort (BvSort w)) = false
is_bool (MapSort index elem) = false

abbrev pub are_bools : List Named → Bool
are_bools names = list_all (λ (n : Named). is_bool n.sort) names

-- the values that a command asks for
abbrev pub asked_by : Cmd → ℕ
asked_by (Assign pairs) = 0
asked_by (Havoc xs) = length xs
asked_by (Assume expr) = 0
asked_by (Assert number expr) = 0
asked_by (Call proc args outs) = 0

abbrev pub asked_by_all : List Cmd → ℕ
asked_by_all [] = 0
asked_by_all (cmd ∷ cmds) = asked_by cmd + asked_by_all cmds

abbrev pub is_call : Cmd → Bool
is_call (Assign pairs) = false
is_call (Havoc xs) = false
is_call (Assume expr) = false
is_call (Assert number expr) = false
is_call (Call proc args outs) = true

abbrev pub is_without_call : List Cmd → Bool
is_without_call cmds = list_all (λ cmd. not (is_call cmd)) cmds

-- the values that a run of the entry may ask for: the globals, the outs and locals, and each name of a `havoc`
abbrev pub asked : Program → SrcProc → List Cmd → ℕ
asked prog proc cmds = length prog.globals + length proc.outs + length proc.locals + asked_by_all cmds

abbrev pub returns : Next → Bool
returns Return = true
returns (Goto targets) = false

abbrev pub is_plain_block : Program → SrcProc → SrcBlock → Bool
is_plain_block prog proc block = returns block.next && (is_without_call block.cmds && nat_le (asked prog proc block.cmds) 16)

abbrev pub have_plain_block : Program → SrcProc → List SrcBlock → Bool
have_plain_block prog proc [] = false
have_plain_block prog proc (block ∷ []) = is_plain_block prog proc block
have_plain_block prog proc (block ∷ more ∷ blocks) = false

abbrev pub is_plain_proc : Program → SrcProc → Bool
is_plain_proc prog proc = is_empty proc.ins && (are_bools proc.outs && (are_bools proc.locals && have_plain_block prog proc proc.blocks))

abbrev pub is_plain_entry : Program → Option SrcProc → Bool
is_plain_entry prog None = false
is_plain_entry prog (Some proc) = is_plain_proc prog proc

-- There are no constants and no axioms; all variables of the program and of the entry are bools; the entry has no ins, one block and no call; and
-- a run of it asks for at most 16 values.
abbrev pub is_plain : Program → ℕ → Bool
is_plain prog entry = is_empty prog.consts && (is_empty prog.axioms && (are_bools prog.globals && is_plain_entry prog (slice_get prog.procs entry)))
