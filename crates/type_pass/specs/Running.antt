-- Operands, and the targets of a call, one after another: what is told of those so far, and what the rest adds to it.
use Rattle.std.specs.Prelude.{ℕ, ◌+◌, not, nat_eq, nat_le, List, [], length, map, drop, slice_get, Option, None, Some, Result, Ok, Err, if◌then◌else◌}
use Rattle.std.specs.Option.{option_map, option_and_then}
use Rattle.bpl_ast.specs.declared.name.Name.{Name}
use Rattle.bpl_ast.specs.declared.word.Word.TheVariants.{Uninterpreted}
use Rattle.hy_val.specs.NodeSorts.{same_sort}
use Rattle.hy_val.specs.declared.sort.Sort.{Sort}
use Rattle.type_pass.specs.declared.fault.TypeFault.{TypeFault}
use Rattle.type_pass.specs.declared.fault.TypeKind.TheVariants.{Unknown, Mismatch, Arity, Width, LeftOut}
use Rattle.type_pass.specs.declared.operand.Operand.{Operand}
use Rattle.type_pass.specs.declared.tables.Scope.{Scope}
use Rattle.type_pass.specs.declared.tables.Signature.{Signature}
use Rattle.type_pass.specs.declared.tables.Tables.{Tables}
use Rattle.type_pass.specs.Commands.{taken_faults}
use Rattle.type_pass.specs.ExprSorts.{Checked, refused, with_width, joined, joined_after, all_fit, is_nothing}
use Rattle.type_pass.specs.Faults.{fault}
use Rattle.type_pass.specs.Scopes.{find_name}

-- what an operand leads to; a fault stays
abbrev pub with_answer : {A : Type 0} → Result Operand TypeFault → (Operand → Result A TypeFault) → Result A TypeFault
with_answer (Ok o) next = next o
with_answer (Err f) next = Err f

-- the fault of an operand in a place that asks for a sort, where it is known which
abbrev pub unfit : Operand → Option Sort → Option TypeFault
unfit o None = None
unfit o (Some wanted) = if same_sort o.sort wanted then None else Some (fault o.at Mismatch)

-- the fault that was told before, else the rest
abbrev pub unless_told : Option TypeFault → Checked → Checked
unless_told None rest = rest
unless_told (Some f) rest = Err f

-- the sort of the argument of this number
abbrev pub argument_sort : Option Signature → ℕ → Option Sort
argument_sort function n = option_and_then (λ f. option_map (λ a. a.sort) (slice_get f.arguments n)) function

-- a use of a function, of whose first n arguments the first fault is known
abbrev pub applied_from : ℕ → Option Signature → ℕ → Option TypeFault → List Operand → Checked
applied_from at None n told os = refused at Unknown
applied_from at (Some f) n told os =
    if not (nat_eq (length f.arguments) (n + length os)) then refused at Arity
    else if is_nothing f.meaning then refused at (LeftOut Uninterpreted)
    else unless_told told (all_fit (map (λ a. a.sort) (drop n f.arguments)) os f.output)

-- The width of the operands of a `++` so far, where there is one, with one more: at most 64.
abbrev pub joined_with : ℕ → Option (Result ℕ TypeFault) → Operand → Result ℕ TypeFault
joined_with at None o = with_width o o.sort (λ w. Ok w)
joined_with at (Some (Err f)) o = Err f
joined_with at (Some (Ok width)) o = with_width o o.sort (λ w. if nat_le (width + w) 64 then Ok (width + w) else refused at Width)

-- the rest of a chain of `++`
abbrev pub joined_from : ℕ → Option (Result ℕ TypeFault) → List Operand → Checked
joined_from at None os = joined at os
joined_from at (Some (Err f)) os = Err f
joined_from at (Some (Ok width)) os = joined_after at width os

-- the fault of a target of a call that takes an out of this sort, where there is one
abbrev pub out_faults : Tables → Scope → Option Sort → Name → List TypeFault
out_faults tables scope None name = []
out_faults tables scope (Some output) name = taken_faults name.at (find_name tables scope name.text) output
