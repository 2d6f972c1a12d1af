-- The program that typed statements become, or the first fault of flow in the text.
use Rattle.std.specs.Prelude.{◌≡◌, ℕ, zero, suc, ◌+◌, Bool, not, ◌||◌, nat_eq, nat_lt, List, [], ◌∷◌, ◌++◌, map, Option, None, Some, Result, Ok, Err, if◌then◌else◌}
use Rattle.std.specs.List.{list_all, list_any}
use Rattle.std.specs.Str.{bytes_eq}
use Rattle.bpl_flow.specs.Walk.{begin, stop, walk_all}
use Rattle.bpl_flow.specs.declared.fault.FlowFault.{FlowFault}
use Rattle.bpl_flow.specs.declared.fault.FlowKind.TheVariants as tells
use Rattle.bpl_flow.specs.declared.state.Aim.{Aim}
use Rattle.bpl_flow.specs.declared.state.Aim.TheVariants.{Block, Label, Exit}
use Rattle.bpl_flow.specs.declared.state.End.{End}
use Rattle.bpl_flow.specs.declared.state.End.TheVariants.{Goes, Returns}
use Rattle.bpl_flow.specs.declared.state.Ended.{Ended}
use Rattle.bpl_flow.specs.declared.state.Jump.{Jump}
use Rattle.bpl_flow.specs.declared.state.Place.{Place}
use Rattle.bpl_flow.specs.declared.state.Walk.{Walk}
use Rattle.bpl_type.specs.WellTyped.{named}
use Rattle.bpl_type.specs.declared.typed.Typed.{Typed}
use Rattle.bpl_type.specs.declared.typed.TypedBody.{TypedBody}
use Rattle.bpl_type.specs.declared.typed.TypedProc.{TypedProc}
use Rattle.hy_text.specs.declared.refusal.Or.{Or}
use Rattle.hy_text.specs.declared.refusal.Or.TheVariants as ors
use Rattle.src_prog.specs.Program.{Program}
use Rattle.src_prog.specs.declared.block.Next.{Next}
use Rattle.src_prog.specs.declared.block.Next.TheVariants.{Goto, Return}
use Rattle.src_prog.specs.declared.block.SrcBlock.{SrcBlock}
use Rattle.src_prog.specs.declared.proc.SrcProc.{SrcProc}

-- the whole walk of a body; a block that is still current at the end returns
abbrev pub walked : TypedBody → Walk
walked body = stop Returns (walk_all body.statements [] None begin)

-- ---- faults

-- a fault as a list of one
abbrev pub listed : Option FlowFault → List FlowFault
listed None = []
listed (Some f) = f ∷ []

abbrev pub place_of : List ℕ → List Place → Option Place
place_of name [] = None
place_of name (p ∷ ps) = if bytes_eq p.name name then Some p else place_of name ps

-- each loop around the label is around the goto
abbrev pub is_enclosed : List ℕ → List ℕ → Bool
is_enclosed loops around = list_all (λ l. list_any (nat_eq l) around) loops

abbrev pub fault_of_jump : Option Place → Jump → List FlowFault
fault_of_jump None j = record { at = j.name.at; kind = tells.NoLabel } ∷ []
fault_of_jump (Some p) j = if j.is_behind || not (is_enclosed p.loops j.loops) then record { at = j.name.at; kind = tells.NotForward } ∷ [] else []

abbrev pub faults_of_jumps : List Place → List Jump → List FlowFault
faults_of_jumps places [] = []
faults_of_jumps places (j ∷ js) = fault_of_jump (place_of j.name.text places) j ++ faults_of_jumps places js

abbrev pub faults_of : TypedBody → List FlowFault
faults_of body = (walked body).faults ++ faults_of_jumps (walked body).places (walked body).jumps

abbrev pub faults_of_proc : Option TypedBody → List FlowFault
faults_of_proc None = []
faults_of_proc (Some body) = faults_of body

abbrev pub faults_of_procs : List TypedProc → List FlowFault
faults_of_procs [] = []
faults_of_procs (p ∷ ps) = faults_of_proc p.body ++ faults_of_procs ps

-- of two faults the one with the lesser offset, else the first
abbrev pub sooner : Option FlowFault → FlowFault → FlowFault
sooner None f = f
sooner (Some first) f = if nat_lt f.at first.at then f else first

abbrev pub first_behind : Option FlowFault → List FlowFault → Option FlowFault
first_behind found [] = found
first_behind found (f ∷ fs) = first_behind (Some (sooner found f)) fs

-- the fault with the least offset, the first of several
abbrev pub first_fault : List FlowFault → Option FlowFault
first_fault faults = first_behind None faults

-- ---- blocks

-- the number that stands for a key
abbrev pub number_at : ℕ → List (ℕ × ℕ) → ℕ
number_at key [] = 0
number_at key ((k, n) ∷ rest) = if nat_eq k key then n else number_at key rest

abbrev pub block_of_place : Option Place → ℕ
block_of_place None = 0
block_of_place (Some p) = p.block

abbrev pub target : List Place → List (ℕ × ℕ) → Aim → ℕ
target places exits (Block number) = number
target places exits (Label name) = block_of_place (place_of name places)
target places exits (Exit statement) = number_at statement exits

abbrev pub next_of : List Place → List (ℕ × ℕ) → End → Next
next_of places exits (Goes aims) = Goto (map (target places exits) aims)
next_of places exits Returns = Return

abbrev pub ended_at : ℕ → List Ended → Option Ended
ended_at number [] = None
ended_at number (b ∷ bs) = if nat_eq b.number number then Some b else ended_at number bs

abbrev pub block_of : List Place → List (ℕ × ℕ) → Option Ended → SrcBlock
block_of places exits None = record { cmds = []; next = Return }
block_of places exits (Some b) = record { cmds = b.cmds; next = next_of places exits b.end }

abbrev pub blocks_from : List Place → List (ℕ × ℕ) → List Ended → ℕ → ℕ → List SrcBlock
blocks_from places exits ended number zero = []
blocks_from places exits ended number (suc left) = block_of places exits (ended_at number ended) ∷ blocks_from places exits ended (number + 1) left

-- the blocks by number
abbrev pub blocks_of : Walk → List SrcBlock
blocks_of w = blocks_from w.places w.exits w.ended 0 w.made

-- ---- programs

abbrev pub proc_of : TypedProc → TypedBody → SrcProc
proc_of p body = record { name = p.name; ins = map named p.ins; outs = map named p.outs; locals = map named body.locals; blocks = blocks_of (walked body); loops = (walked body).loops }

abbrev pub procs_onto : TypedProc → Option TypedBody → List SrcProc → List SrcProc
procs_onto p None rest = rest
procs_onto p (Some body) rest = proc_of p body ∷ rest

-- procedures without a body have no number
abbrev pub procs_of : List TypedProc → List SrcProc
procs_of [] = []
procs_of (p ∷ ps) = procs_onto p p.body (procs_of ps)

abbrev pub program_of : Typed → Program
program_of typed = record { consts = map named typed.consts; uniques = typed.uniques; axioms = typed.axioms; globals = map named typed.globals; procs = procs_of typed.procs }

abbrev pub lowered_unless : Option FlowFault → Typed → Result Program FlowFault
lowered_unless None typed = Ok (program_of typed)
lowered_unless (Some f) typed = Err f

-- the program, or the first fault in the text
abbrev pub lowered : Typed → Result Program FlowFault
lowered typed = lowered_unless (first_fault (faults_of_procs typed.procs)) typed

-- what a call answers is this, unless memory ran out
abbrev pub Gives : Result Program (Or FlowFault) → Result Program FlowFault → Type 0
Gives (Ok program) flow = flow ≡ Ok program
Gives (Err (ors.Fault f)) flow = flow ≡ Err f
Gives (Err ors.NoMemory) flow = Unit {0}
