-- Loops become procedures: the flat program of a program.
use Rattle.std.specs.Prelude.{ℕ, ◌+◌, nat_eq, List, [], ◌∷◌, ◌++◌, length, map, take, slice_get, Option, None, Some, if◌then◌else◌, flat_map}
use Rattle.src_prog.specs.Program.{Program}
use Rattle.src_prog.specs.Scope.{sorts_of, locals_of}
use Rattle.src_prog.specs.declared.block.Next.{Next}
use Rattle.src_prog.specs.declared.block.Next.TheVariants.{Goto as SrcGoto, Return as SrcReturn}
use Rattle.src_prog.specs.declared.block.SrcBlock.{SrcBlock}
use Rattle.src_prog.specs.declared.proc.SrcLoop.{SrcLoop}
use Rattle.src_prog.specs.declared.proc.SrcProc.{SrcProc}
use Rattle.hy_val.specs.declared.sort.Sort.{Sort}
use Rattle.flat_prog.specs.Program.{FlatProgram}
use Rattle.flat_prog.specs.Shape.{exit_sort}
use Rattle.flat_prog.specs.Sites.{numbers_from}
use Rattle.flat_prog.specs.declared.block.FlatBlock.{FlatBlock}
use Rattle.flat_prog.specs.declared.block.FlatNext.{FlatNext}
use Rattle.flat_prog.specs.declared.block.FlatNext.TheVariants.{Goto, Return}
use Rattle.flat_prog.specs.declared.proc.FlatKind.TheVariants.{Source, Loop}
use Rattle.flat_prog.specs.declared.proc.FlatProc.{FlatProc}
use Rattle.extract_def.specs.Exits.{Dest, Back, At, Edge, exits_of}
use Rattle.extract_def.specs.Places.{index_of, exits_in, exit_of, pass_count, pass_place, leave_place, edge_place, moved_by, exit_local}
use Rattle.extract_def.specs.Renaming.{moved_cmds, call_of_loop, assume_exit, set_exit, assume_false}
use Rattle.extract_def.specs.Scopes.{Scope, Whole, In, reached_loops, loops_inside, kept_blocks, way_from}

-- ---- variables

-- the sorts of the variables that the procedures of a procedure's loops take over from it, in order
abbrev pub carried_of : Program → SrcProc → List Sort
carried_of prog proc = locals_of proc

-- a local for the exit number, where there is a loop
abbrev pub exit_locals : List SrcLoop → List Sort
exit_locals [] = []
exit_locals (l ∷ ls) = exit_sort ∷ []

-- the sorts of what stands behind the variables of a source procedure in its flat one: a local for the exit number, where the procedure has a loop
abbrev pub behind_of : Program → SrcProc → List Sort
behind_of prog proc = exit_locals (reached_loops proc)

-- ---- numbers of procedures

-- how many reached loops the procedures have
abbrev pub loops_count : List SrcProc → ℕ
loops_count [] = 0
loops_count (proc ∷ procs) = length (reached_loops proc) + loops_count procs

-- the heads of a procedure's reached loops, ascending
abbrev pub heads_at : Option SrcProc → List ℕ
heads_at None = []
heads_at (Some proc) = map (λ l. l.head) (reached_loops proc)

-- the source procedures keep their numbers, and the loops follow, by procedure and then by head
abbrev pub number_of : Program → (p : ℕ) → Scope → ℕ
number_of prog p Whole = p
number_of prog p (In head exit) = length prog.procs + (loops_count (take p prog.procs) + index_of head (heads_at (slice_get prog.procs p)))

-- ---- blocks

-- how the flat procedure of a scope itself ends
abbrev pub end_from : SrcProc → Scope → FlatNext
end_from proc scope = Return

-- where a Return leads, seen from a scope: out of a loop by the exit that it is
abbrev pub return_from : SrcProc → Scope → (block : ℕ) → FlatNext
return_from proc Whole block = end_from proc Whole
return_from proc (In head exit) block = Goto (leave_place proc (In head exit) (exit_of proc (In head exit) block 0) ∷ [])

-- the block to which the edge from that place of that block leads in the flat procedure of a scope
abbrev pub target_from : SrcProc → Scope → (block place to : ℕ) → ℕ
target_from proc scope block place to = edge_place proc scope block place to (way_from proc.loops scope to)

-- those of a goto, from a place on
abbrev pub targets_from : SrcProc → Scope → (block place : ℕ) → List ℕ → List ℕ
targets_from proc scope block place [] = []
targets_from proc scope block place (t ∷ ts) = target_from proc scope block place t ∷ targets_from proc scope block (place + 1) ts

-- how a block ends in the flat procedure of a scope
abbrev pub next_from : SrcProc → Scope → (block : ℕ) → Next → FlatNext
next_from proc scope block SrcReturn = return_from proc scope block
next_from proc scope block (SrcGoto targets) = Goto (targets_from proc scope block 0 targets)

-- where one edge leads
abbrev pub dest_from : SrcProc → Scope → (block place : ℕ) → Dest → FlatNext
dest_from proc scope block place Back = return_from proc scope block
dest_from proc scope block place (At to) = Goto (target_from proc scope block place to ∷ [])

-- the call of the loop of a head, and the blocks for its exits
abbrev pub head_block : Program → (p : ℕ) → SrcProc → Scope → SrcLoop → FlatBlock
head_block prog p proc scope l =
    record { cmds = call_of_loop (number_of prog p (In l.head l.exit)) (moved_by proc scope) (carried_of prog proc) ∷ []; next = Goto (numbers_from (pass_place proc scope l.head 0) (pass_count (exits_of proc l))) }

-- a block of the source procedure, in the flat procedure of a scope
abbrev pub own_block : Program → (p : ℕ) → SrcProc → Scope → ℕ → SrcBlock → FlatBlock
own_block prog p proc scope number block = record { cmds = flat_map (moved_cmds prog p (moved_by proc scope)) block.cmds; next = next_from proc scope number block.next }

-- what a number that names no block would stand for; a scope keeps no such number
abbrev pub no_block : FlatBlock
no_block = record { cmds = []; next = Return }

-- the same of a block of a number
abbrev pub own_block_at : Program → (p : ℕ) → SrcProc → Scope → ℕ → Option SrcBlock → FlatBlock
own_block_at prog p proc scope number None = no_block
own_block_at prog p proc scope number (Some block) = own_block prog p proc scope number block

-- the head of one of these loops calls it; another block keeps what it has
abbrev pub kept_block : Program → (p : ℕ) → SrcProc → Scope → List SrcLoop → ℕ → FlatBlock
kept_block prog p proc scope [] number = own_block_at prog p proc scope number (slice_get proc.blocks number)
kept_block prog p proc scope (l ∷ ls) number = if nat_eq l.head number then head_block prog p proc scope l else kept_block prog p proc scope ls number

-- behind an exit of a loop directly inside: the number is the exit's, and the run goes on where its edge leads
abbrev pub pass_blocks : SrcProc → Scope → ℕ → List Edge → List FlatBlock
pass_blocks proc scope x [] = []
pass_blocks proc scope x (e ∷ es) = record { cmds = assume_exit (exit_local proc scope) x ∷ []; next = dest_from proc scope e.block e.place e.dest } ∷ pass_blocks proc scope (x + 1) es

-- a loop without an exit has one block behind it, which no run passes
abbrev pub pass_blocks_of : SrcProc → Scope → List Edge → List FlatBlock
pass_blocks_of proc scope [] = record { cmds = assume_false ∷ []; next = end_from proc scope } ∷ []
pass_blocks_of proc scope (e ∷ es) = pass_blocks proc scope 0 (e ∷ es)

-- out of the scope's own loop by an exit: the number is the exit's
abbrev pub leave_blocks : SrcProc → Scope → ℕ → List Edge → List FlatBlock
leave_blocks proc scope x [] = []
leave_blocks proc scope x (e ∷ es) = record { cmds = set_exit (exit_local proc scope) x ∷ []; next = Return } ∷ leave_blocks proc scope (x + 1) es

-- a further turn of the scope's own loop
abbrev pub again_block : Program → (p : ℕ) → SrcProc → Scope → FlatBlock
again_block prog p proc scope = record { cmds = call_of_loop (number_of prog p scope) (moved_by proc scope) (carried_of prog proc) ∷ []; next = Return }

-- the blocks behind the others of a loop procedure
abbrev pub end_blocks : Program → (p : ℕ) → SrcProc → Scope → List FlatBlock
end_blocks prog p proc Whole = []
end_blocks prog p proc (In head exit) = leave_blocks proc (In head exit) 0 (exits_in proc (In head exit)) ++ again_block prog p proc (In head exit) ∷ []

-- the blocks of the flat procedure of a scope, in order
abbrev pub blocks_of : Program → (p : ℕ) → SrcProc → Scope → List FlatBlock
blocks_of prog p proc scope =
    map (kept_block prog p proc scope (loops_inside proc scope)) (kept_blocks proc scope)
    ++ (flat_map (λ l. pass_blocks_of proc scope (exits_of proc l)) (loops_inside proc scope)
    ++ end_blocks prog p proc scope)

-- ---- procedures

-- the flat procedure of a scope
abbrev pub proc_of : Program → (p : ℕ) → SrcProc → Scope → FlatProc
proc_of prog p proc Whole =
    record { kind = Source p; ins = sorts_of proc.ins; outs = sorts_of proc.outs; locals = sorts_of proc.locals ++ behind_of prog proc; blocks = blocks_of prog p proc Whole }
proc_of prog p proc (In head exit) =
    record { kind = Loop p head; ins = carried_of prog proc; outs = carried_of prog proc ++ exit_sort ∷ []; locals = []; blocks = blocks_of prog p proc (In head exit) }

-- those of the source procedures, where the first has this number
abbrev pub source_procs : Program → ℕ → List SrcProc → List FlatProc
source_procs prog p [] = []
source_procs prog p (proc ∷ procs) = proc_of prog p proc Whole ∷ source_procs prog (p + 1) procs

-- those of their loops
abbrev pub loop_procs : Program → ℕ → List SrcProc → List FlatProc
loop_procs prog p [] = []
loop_procs prog p (proc ∷ procs) = map (λ l. proc_of prog p proc (In l.head l.exit)) (reached_loops proc) ++ loop_procs prog (p + 1) procs

-- the flat program
abbrev pub flat_of : Program → FlatProgram
flat_of prog =
    record {
      consts = sorts_of prog.consts;
      uniques = prog.uniques;
      axioms = prog.axioms;
      globals = sorts_of prog.globals;
      procs = source_procs prog 0 prog.procs ++ loop_procs prog 0 prog.procs;
    }
