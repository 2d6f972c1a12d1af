-- What a program without faults becomes besides its constants and globals.
use Rattle.std.specs.Prelude.{◌≡◌, ℕ, [], Option, None, Some, Result, Ok, Err}
use Rattle.hy_text.specs.declared.refusal.Or.{Or}
use Rattle.hy_text.specs.declared.refusal.Or.TheVariants as ors
use Rattle.bpl_ast.specs.declared.decl.Ast.{Ast}
use Rattle.type_pass.specs.declared.fault.TypeFault.{TypeFault}
use Rattle.bpl_type.specs.declared.parts.Parts.{Parts}
use Rattle.bpl_type.specs.Checked.{after_sorts}
use Rattle.type_pass.specs.Passes.{heads_faults, commands_faults, circle_faults}
use Rattle.bpl_type.specs.TypedOf.{typed_of}

abbrev pub parts_of : Ast → Parts
parts_of ast = record { uniques = (typed_of ast).uniques; axioms = (typed_of ast).axioms; procs = (typed_of ast).procs }

-- what the passes behind that of sorts tell: a fault; or that there is none, and so the typed program is the answer
abbrev pub TellsPast : ℕ → Ast → Option TypeFault → Type 0
TellsPast limit ast (Some f) = after_sorts limit ast None ≡ Err f
TellsPast limit ast None = (after_sorts limit ast None ≡ Ok (typed_of ast)) × (heads_faults ast ≡ []) × (commands_faults ast ≡ []) × (circle_faults ast ≡ [])

-- what the passes behind that of sorts answer, unless memory ran out: a fault, or the parts of the typed program
abbrev pub GivesParts : ℕ → Ast → Result Parts (Or TypeFault) → Type 0
GivesParts limit ast (Ok parts) = (after_sorts limit ast None ≡ Ok (typed_of ast)) × (parts ≡ parts_of ast)
GivesParts limit ast (Err (ors.Fault f)) = after_sorts limit ast None ≡ Err f
GivesParts limit ast (Err ors.NoMemory) = Unit {0}
