-- What checking a program gives: the first fault of the first pass that has one, else the typed program.
use Rattle.std.specs.Prelude.{◌≡◌, ℕ, Option, None, Some, Result, Ok, Err}
use Rattle.hy_text.specs.declared.refusal.Or.{Or}
use Rattle.hy_text.specs.declared.refusal.Or.TheVariants as ors
use Rattle.bpl_ast.specs.declared.decl.Ast.{Ast}
use Rattle.type_pass.specs.declared.fault.TypeFault.{TypeFault}
use Rattle.bpl_type.specs.declared.typed.Typed.{Typed}
use Rattle.type_pass.specs.Faults.{first}
use Rattle.type_pass.specs.Passes.{twice_faults, sorts_faults, heads_faults, commands_faults, circle_faults, large_faults}
use Rattle.bpl_type.specs.TypedOf.{typed_of}

-- the greatest number of nodes of an expression once functions are replaced
abbrev pub max_nodes : ℕ
max_nodes = 10000000

abbrev pub after_sizes : Ast → Option TypeFault → Result Typed TypeFault
after_sizes ast (Some f) = Err f
after_sizes ast None = Ok (typed_of ast)

abbrev pub after_circles : ℕ → Ast → Option TypeFault → Result Typed TypeFault
after_circles limit ast (Some f) = Err f
after_circles limit ast None = after_sizes ast (first (large_faults limit ast))

abbrev pub after_commands : ℕ → Ast → Option TypeFault → Result Typed TypeFault
after_commands limit ast (Some f) = Err f
after_commands limit ast None = after_circles limit ast (first (circle_faults ast))

abbrev pub after_heads : ℕ → Ast → Option TypeFault → Result Typed TypeFault
after_heads limit ast (Some f) = Err f
after_heads limit ast None = after_commands limit ast (first (commands_faults ast))

abbrev pub after_sorts : ℕ → Ast → Option TypeFault → Result Typed TypeFault
after_sorts limit ast (Some f) = Err f
after_sorts limit ast None = after_heads limit ast (first (heads_faults ast))

abbrev pub after_names : ℕ → Ast → Option TypeFault → Result Typed TypeFault
after_names limit ast (Some f) = Err f
after_names limit ast None = after_sorts limit ast (first (sorts_faults ast))

-- with a limit on the nodes of an expression
abbrev pub checked_within : ℕ → Ast → Result Typed TypeFault
checked_within limit ast = after_names limit ast (first (twice_faults ast))

abbrev pub checked : Ast → Result Typed TypeFault
checked ast = checked_within max_nodes ast

-- what a call answers is this, unless memory ran out
abbrev pub Gives : Result Typed (Or TypeFault) → Result Typed TypeFault → Type 0
Gives (Ok program) check = check ≡ Ok program
Gives (Err (ors.Fault f)) check = check ≡ Err f
Gives (Err ors.NoMemory) check = Unit {0}
