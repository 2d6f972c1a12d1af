-- The program of a file and the number of its entry, or why the file is refused.
use Rattle.std.specs.Prelude.{◌≡◌, ℕ, List, Option, None, Some, Result, Ok, Err, ⊤}
use Rattle.bpl_ast.specs.declared.decl.Ast.{Ast}
use Rattle.bpl_flow.specs.Flow.{lowered}
use Rattle.bpl_flow.specs.declared.fault.FlowFault.{FlowFault}
use Rattle.bpl_type.specs.Checked.{checked}
use Rattle.bpl_type.specs.declared.typed.Typed.{Typed}
use Rattle.hy_text.specs.declared.refusal.Or.{Or}
use Rattle.hy_text.specs.declared.refusal.Or.TheVariants as ors
use Rattle.src_prog.specs.Program.{Program, number_of}
use Rattle.type_pass.specs.declared.fault.TypeFault.{TypeFault}
use Rattle.hydra_top.specs.declared.entry.Entered.{Entered}
use Rattle.hydra_top.specs.declared.outcome.Refusal.{Refusal}
use Rattle.hydra_top.specs.declared.outcome.Refusal.TheVariants.{Typing, Flow, NoEntry}
use Rattle.hydra_top.specs.Trees.{IsReadAs}

-- where no procedure has the name of the entry, it is refused by that name
abbrev pub at_entry : (name : List ℕ) → Program → Option ℕ → Result Entered Refusal
at_entry name prog None = Err (NoEntry name)
at_entry name prog (Some entry) = Ok (record { prog = prog; entry = entry })

-- a program whose flow has a fault is refused for it
abbrev pub after_flow : (name : List ℕ) → Result Program FlowFault → Result Entered Refusal
after_flow name (Err fault) = Err (Flow fault)
after_flow name (Ok prog) = at_entry name prog (number_of prog name)

-- a program whose typing has a fault is refused for it, before its flow is looked at
abbrev pub after_typing : (name : List ℕ) → Result Typed TypeFault → Result Entered Refusal
after_typing name (Err fault) = Err (Typing fault)
after_typing name (Ok typed) = after_flow name (lowered typed)

abbrev pub entered : (name : List ℕ) → Ast → Result Entered Refusal
entered name tree = after_typing name (checked tree)

-- where the file is refused before it has a tree, that comes first
abbrev pub entered_in : (name : List ℕ) → Result Ast Refusal → Result Entered Refusal
entered_in name (Err refusal) = Err refusal
entered_in name (Ok tree) = entered name tree

-- what a call answers is this, unless memory ran out
abbrev pub Gives : {A : Type 0} → Result A (Or Refusal) → Result A Refusal → Type 0
Gives (Ok answer) read = read ≡ Ok answer
Gives (Err (ors.Fault refusal)) read = read ≡ Err refusal
Gives (Err ors.NoMemory) read = ⊤

-- the bytes are read as a file of which this is found
pub record HasEntry (name bytes : List ℕ) (found : Result Entered Refusal) : Type 0 where
  pub read : Result Ast Refusal
  pub reads : IsReadAs bytes read
  pub gives : entered_in name read ≡ found

-- what a call answers is found in a file of these bytes, unless memory ran out
abbrev pub IsEntryOf : (name bytes : List ℕ) → Result Entered (Or Refusal) → Type 0
IsEntryOf name bytes (Ok e) = HasEntry name bytes (Ok e)
IsEntryOf name bytes (Err (ors.Fault refusal)) = HasEntry name bytes (Err refusal)
IsEntryOf name bytes (Err ors.NoMemory) = ⊤
