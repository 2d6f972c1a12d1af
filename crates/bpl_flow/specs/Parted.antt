-- A program by its parts.
use Rattle.std.specs.Prelude.{◌≡◌, Result, Ok, Err}
use Rattle.bpl_flow.specs.declared.fault.FlowFault.{FlowFault}
use Rattle.bpl_flow.specs.declared.lowering.Parts.{Parts}
use Rattle.hy_text.specs.declared.refusal.Or.{Or}
use Rattle.hy_text.specs.declared.refusal.Or.TheVariants as ors
use Rattle.src_prog.specs.Program.{Program}

abbrev pub program_by : Parts → Program
program_by p = record { consts = p.consts; uniques = p.uniques; axioms = p.axioms; globals = p.globals; procs = p.procs }

-- what a call answers has these parts, unless memory ran out
abbrev pub GivesParts : Result Parts (Or FlowFault) → Result Program FlowFault → Type 0
GivesParts (Ok p) flow = flow ≡ Ok (program_by p)
GivesParts (Err (ors.Fault f)) flow = flow ≡ Err f
GivesParts (Err ors.NoMemory) flow = Unit {0}
