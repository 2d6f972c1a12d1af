-- Where the blocks of a scope stand in its flat procedure: the kept blocks, then for each loop directly inside a block for each exit of it, then in
-- a loop procedure a block for each exit of the loop, and the block that calls the loop again.
use Rattle.std.specs.Prelude.{ℕ, ◌+◌, nat_eq, List, [], ◌∷◌, length, if◌then◌else◌}
use Rattle.src_prog.specs.Scope.{locals_of}
use Rattle.src_prog.specs.declared.proc.SrcLoop.{SrcLoop}
use Rattle.src_prog.specs.declared.proc.SrcProc.{SrcProc}
use Rattle.src_run.specs.Machine.{Way, Again, Enter, Stay, Out}
use Rattle.extract_def.specs.Exits.{Edge, exits_of, place_of_edge}
use Rattle.extract_def.specs.Scopes.{Scope, Whole, In, kept_blocks, loops_inside}

-- the first place of a number in a list, or how long the list is where it is not there
abbrev pub index_of : ℕ → List ℕ → ℕ
index_of n [] = 0
index_of n (m ∷ ms) = if nat_eq m n then 0 else index_of n ms + 1

-- the loop of this head and this exit
abbrev pub loop_in : ℕ → ℕ → SrcLoop
loop_in head exit = record { head = head; exit = exit }

-- ---- the exits

-- the exits of the loop of a scope, in order
abbrev pub exits_in : SrcProc → Scope → List Edge
exits_in proc Whole = []
exits_in proc (In head exit) = exits_of proc (loop_in head exit)

-- the number of the exit by the edge from that place of that block
abbrev pub exit_of : SrcProc → Scope → (block place : ℕ) → ℕ
exit_of proc scope block place = place_of_edge block place (exits_in proc scope)

-- ---- the places

-- where a block of the source procedure that the scope keeps stands
abbrev pub kept_place : SrcProc → Scope → ℕ → ℕ
kept_place proc scope block = index_of block (kept_blocks proc scope)

-- a loop without an exit has one block too
abbrev pub pass_count : List Edge → ℕ
pass_count [] = 1
pass_count (e ∷ es) = length (e ∷ es)

-- how many blocks there are for the exits of these loops
abbrev pub passes_of : SrcProc → List SrcLoop → ℕ
passes_of proc [] = 0
passes_of proc (l ∷ ls) = pass_count (exits_of proc l) + passes_of proc ls

-- how many blocks there are for the loops before that of a head
abbrev pub passes_before : SrcProc → ℕ → List SrcLoop → ℕ
passes_before proc head [] = 0
passes_before proc head (l ∷ ls) = if nat_eq l.head head then 0 else pass_count (exits_of proc l) + passes_before proc head ls

-- the block for an exit of the loop of a head
abbrev pub pass_place : SrcProc → Scope → (head exit : ℕ) → ℕ
pass_place proc scope head x = length (kept_blocks proc scope) + (passes_before proc head (loops_inside proc scope) + x)

-- the block for an exit of the scope's loop
abbrev pub leave_place : SrcProc → Scope → ℕ → ℕ
leave_place proc scope x = length (kept_blocks proc scope) + (passes_of proc (loops_inside proc scope) + x)

-- the block that calls the scope's loop again
abbrev pub again_place : SrcProc → Scope → ℕ
again_place proc scope = leave_place proc scope (length (exits_in proc scope))

-- the block to which an edge leads: from that place of that block, to a block of the source procedure
abbrev pub edge_place : SrcProc → Scope → (block place to : ℕ) → Way → ℕ
edge_place proc scope block place to Again = again_place proc scope
edge_place proc scope block place to (Enter exit) = kept_place proc scope to
edge_place proc scope block place to Stay = kept_place proc scope to
edge_place proc scope block place to Out = leave_place proc scope (exit_of proc scope block place)

-- ---- the variables

-- how many variables a procedure has: ins, outs and locals
abbrev pub variable_count : SrcProc → ℕ
variable_count proc = length (locals_of proc)

-- how much further behind the source procedure's variables stand: in a loop procedure the body works on the outs
abbrev pub moved_by : SrcProc → Scope → ℕ
moved_by proc Whole = 0
moved_by proc (In head exit) = variable_count proc

-- the local for the exit number
abbrev pub exit_local : SrcProc → Scope → ℕ
exit_local proc scope = moved_by proc scope + variable_count proc
