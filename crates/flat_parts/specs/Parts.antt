-- Parts of which a flat program is made, where the numbers of blocks are an order in which edges lead on, and the numbers of procedures one in which
-- loop procedures are called by themselves and by earlier ones alone.
use Rattle.std.specs.Prelude.{ℕ, ◌+◌, nat_lt, nat_le, nat_eq, Bool, true, false, not, ◌&&◌, ◌||◌, List, [], ◌∷◌, length, slice_get, Option, None, Some}
use Rattle.std.specs.List.{list_all}
use Rattle.hy_val.specs.NodeSorts.{same_sort}
use Rattle.hy_val.specs.Scope.{Scope, are_numbered}
use Rattle.hy_val.specs.declared.sort.Sort.{Sort}
use Rattle.flat_prog.specs.Program.{FlatProgram, variables_of}
use Rattle.flat_prog.specs.Shape.{cmd_fits, sorts_fit, exit_sort, is_loop_kind}
use Rattle.flat_prog.specs.declared.block.FlatBlock.{FlatBlock}
use Rattle.flat_prog.specs.declared.block.FlatCmd.{FlatCmd}
use Rattle.flat_prog.specs.declared.block.FlatCmd.TheVariants.{Assign, Havoc, Assume, Assert, Call}
use Rattle.flat_prog.specs.declared.block.FlatNext.{FlatNext}
use Rattle.flat_prog.specs.declared.block.FlatNext.TheVariants.{Goto, Return}
use Rattle.flat_prog.specs.declared.proc.FlatKind.{FlatKind}
use Rattle.flat_prog.specs.declared.proc.FlatKind.TheVariants.{Source, Loop}
use Rattle.flat_prog.specs.declared.proc.FlatProc.{FlatProc}

-- a block behind this one, of so many
abbrev pub is_behind : (number count : ℕ) → ℕ → Bool
is_behind number count target = nat_lt number target && nat_lt target count

-- a goto has a target, and each is behind the block
abbrev pub leads_on : (number count : ℕ) → FlatNext → Bool
leads_on number count Return = true
leads_on number count (Goto targets) = nat_lt 0 (length targets) && list_all (is_behind number count) targets

abbrev pub block_fits : List FlatProc → Scope → (count number : ℕ) → FlatBlock → Bool
block_fits procs scope count number b = list_all (cmd_fits procs scope) b.cmds && leads_on number count b.next

-- the blocks from a number on
abbrev pub blocks_fit : List FlatProc → Scope → (count number : ℕ) → List FlatBlock → Bool
blocks_fit procs scope count number [] = true
blocks_fit procs scope count number (b ∷ bs) = block_fits procs scope count number b && blocks_fit procs scope count (number + 1) bs

-- the outs of a loop procedure are its ins, and then one of 32 bits
abbrev pub outs_follow : List Sort → List Sort → Bool
outs_follow [] [] = false
outs_follow [] (s ∷ []) = same_sort s exit_sort
outs_follow [] (s ∷ t ∷ ss) = false
outs_follow (i ∷ ins) [] = false
outs_follow (i ∷ ins) (s ∷ ss) = same_sort s i && outs_follow ins ss

abbrev pub outs_fit : FlatKind → FlatProc → Bool
outs_fit (Source p) q = true
outs_fit (Loop p head) q = outs_follow q.ins q.outs

abbrev pub proc_fits : (consts globals : List Sort) → List FlatProc → FlatProc → Bool
proc_fits consts globals procs q =
    sorts_fit (variables_of q)
    && ((nat_lt 0 (length q.blocks) && are_numbered (length q.blocks)) && (blocks_fit procs (record { consts = consts; globals = globals; locals = variables_of q }) (length q.blocks) 0 q.blocks && outs_fit q.kind q))

-- ---- calls

abbrev pub is_loop_at : Option FlatProc → Bool
is_loop_at None = false
is_loop_at (Some q) = is_loop_kind q.kind

-- a command of the procedure with this number calls no earlier loop procedure
abbrev pub calls_on : List FlatProc → ℕ → FlatCmd → Bool
calls_on procs number (Assign pairs) = true
calls_on procs number (Havoc xs) = true
calls_on procs number (Assume e) = true
calls_on procs number (Assert p n e) = true
calls_on procs number (Call p args outs) = not (is_loop_at (slice_get procs p)) || nat_le number p

-- the procedures from a number on
abbrev pub all_call_on : List FlatProc → ℕ → List FlatProc → Bool
all_call_on procs number [] = true
all_call_on procs number (q ∷ qs) = list_all (λ (b : FlatBlock). list_all (calls_on procs number) b.cmds) q.blocks && all_call_on procs (number + 1) qs

-- ---- programs

abbrev pub program_of : (consts globals : List Sort) → List FlatProc → FlatProgram
program_of consts globals procs = record { consts = consts; uniques = []; axioms = []; globals = globals; procs = procs }

abbrev pub are_flat : (consts globals : List Sort) → List FlatProc → Bool
are_flat consts globals procs =
    (sorts_fit consts && (sorts_fit globals && are_numbered (length procs))) && (list_all (proc_fits consts globals procs) procs && all_call_on procs 0 procs)
