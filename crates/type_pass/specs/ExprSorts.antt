-- The sort of an expression, or its first fault: the operands come first, from left to right.
use Rattle.std.specs.Prelude.{ℕ, ◌+◌, ◌-◌, Bool, true, false, not, ◌&&◌, ◌||◌, nat_eq, nat_lt, nat_le, List, [], ◌∷◌, length, fold, map, Option, None, Some, Result, Ok, Err, if◌then◌else◌}
use Rattle.bpl_ast.specs.declared.expr.Bracket.{Bracket}
use Rattle.bpl_ast.specs.declared.expr.Bracket.TheOpen.{Bracket-F, Expr-F}
use Rattle.bpl_ast.specs.declared.expr.Bracket.TheFolds.{fold-Bracket, fold-Expr}
use Rattle.bpl_ast.specs.declared.expr.Expr.{Expr}
use Rattle.bpl_ast.specs.declared.word.Word.TheVariants.{MapEquality, Uninterpreted}
use Rattle.hy_val.specs.NodeSorts.{same_sort}
use Rattle.hy_val.specs.Operators.{bits_atom}
use Rattle.hy_val.specs.Sorts.{has_scalar}
use Rattle.hy_val.specs.declared.expr.Var.{Var}
use Rattle.hy_val.specs.declared.sort.Scalar.{Scalar}
use Rattle.hy_val.specs.declared.sort.ScalarKind.TheVariants.{Bool as BoolSort, Bv as BvSort}
use Rattle.hy_val.specs.declared.sort.Sort.{Sort}
use Rattle.hy_val.specs.declared.sort.SortKind.TheVariants.{Scalar as ScalarSort, Map as MapSort}
use Rattle.type_pass.specs.declared.fault.TypeFault.{TypeFault}
use Rattle.type_pass.specs.declared.fault.TypeKind.{TypeKind}
use Rattle.type_pass.specs.declared.fault.TypeKind.TheVariants.{Unknown, Mismatch, Arity, Width, LeftOut}
use Rattle.type_pass.specs.declared.operand.Operand.{Operand}
use Rattle.type_pass.specs.declared.tables.Meaning.{Meaning}
use Rattle.type_pass.specs.declared.tables.Meaning.TheVariants.{Body, Operator, Nothing}
use Rattle.type_pass.specs.declared.tables.Scope.{Scope}
use Rattle.type_pass.specs.declared.tables.Signature.{Signature}
use Rattle.type_pass.specs.declared.tables.Tables.{Tables}
use Rattle.type_pass.specs.Faults.{fault}
use Rattle.type_pass.specs.Scopes.{find_name, function_named}

abbrev pub Checked : Type 0
Checked = Result Sort TypeFault

abbrev pub refused : {A : Type 0} → ℕ → TypeKind → Result A TypeFault
refused at kind = Err (fault at kind)

-- a part of an expression: the offset of its first token, and its sort or first fault
pub record Part : Type 0 where
  pub at : ℕ
  pub sort : Checked

-- what a sort leads to; a fault stays
abbrev pub with_sort : {A : Type 0} → Checked → (Sort → Result A TypeFault) → Result A TypeFault
with_sort (Ok s) next = next s
with_sort (Err f) next = Err f

abbrev pub with_operand : {A : Type 0} → Part → (Operand → Result A TypeFault) → Result A TypeFault
with_operand p next = with_sort p.sort (λ s. next (record { at = p.at; sort = s }))

-- all parts as operands, or the first fault
abbrev pub with_operands : {A : Type 0} → List Part → (List Operand → Result A TypeFault) → Result A TypeFault
with_operands [] next = next []
with_operands (p ∷ ps) next = with_operand p (λ o. with_operands ps (λ os. next (o ∷ os)))

abbrev pub bool_sort : Sort
bool_sort = ScalarSort BoolSort

-- Mismatch at the operand unless it has the sort
abbrev pub needs : {A : Type 0} → Sort → Operand → Result A TypeFault → Result A TypeFault
needs sort o next = if same_sort o.sort sort then next else refused o.at Mismatch

-- ---- operators

-- all are bools; a chain of no operand is in no text
abbrev pub all_bools : List Operand → Checked
all_bools [] = Ok bool_sort
all_bools (o ∷ os) = needs bool_sort o (all_bools os)

abbrev pub chain_of_bools : ℕ → List Operand → Checked
chain_of_bools at [] = refused at Arity
chain_of_bools at (o ∷ os) = all_bools (o ∷ os)

-- what the width of a bit vector leads to
abbrev pub with_width : {A : Type 0} → Operand → Sort → (ℕ → Result A TypeFault) → Result A TypeFault
with_width o (ScalarSort BoolSort) next = refused o.at Mismatch
with_width o (ScalarSort (BvSort w)) next = next w
with_width o (MapSort index elem) next = refused o.at Mismatch

-- from left to right: each is a bit vector, and the widths so far add up to at most 64
abbrev pub joined_after : ℕ → ℕ → List Operand → Checked
joined_after at width [] = Ok (ScalarSort (BvSort width))
joined_after at width (o ∷ os) = with_width o o.sort (λ w. if nat_le (width + w) 64 then joined_after at (width + w) os else refused at Width)

abbrev pub joined : ℕ → List Operand → Checked
joined at [] = refused at Arity
joined at (o ∷ os) = with_width o o.sort (λ w. joined_after at w os)

abbrev pub is_map : Sort → Bool
is_map (ScalarSort s) = false
is_map (MapSort index elem) = true

-- two sides of `==` or `!=`
abbrev pub compared : ℕ → Operand → Operand → Checked
compared at left right =
    if is_map left.sort || is_map right.sort then refused at (LeftOut MapEquality)
    else if same_sort left.sort right.sort then Ok bool_sort else refused at Mismatch

-- the condition of an `if` is a bool, and its branches have one sort
abbrev pub chosen : ℕ → Operand → Operand → Operand → Checked
chosen at condition one other = needs bool_sort condition (if same_sort one.sort other.sort then Ok one.sort else refused at Mismatch)

-- ---- brackets

-- what the sorts of a map lead to
abbrev pub with_map : {A : Type 0} → Operand → Sort → (Scalar → Scalar → Result A TypeFault) → Result A TypeFault
with_map o (ScalarSort s) next = refused o.at Mismatch
with_map o (MapSort index elem) next = next index elem

abbrev pub selected : Operand → Operand → Checked
selected map index = with_map map map.sort (λ i e. needs (ScalarSort i) index (Ok (ScalarSort e)))

abbrev pub stored : Operand → Operand → Operand → Checked
stored map index value = with_map map map.sort (λ i e. needs (ScalarSort i) index (needs (ScalarSort e) value (Ok (MapSort i e))))

-- the bits from low on, below high
abbrev pub extracted : ℕ → ℕ → ℕ → Operand → Checked
extracted at high low o = with_width o o.sort (λ w. if nat_lt low high && nat_le high w then Ok (ScalarSort (BvSort (high - low))) else refused at Width)

-- A bracket, given the offset of the whole, makes a part of what stands before it.
abbrev pub bracket_node : Bracket-F (ℕ → Part → Part) Part → ℕ → Part → Part
bracket_node (Bracket-F.Select index) at p = record { at = at; sort = with_operand p (λ m. with_operand index (λ i. selected m i)) }
bracket_node (Bracket-F.Store index value) at p = record { at = at; sort = with_operand p (λ m. with_operand index (λ i. with_operand value (λ v. stored m i v))) }
bracket_node (Bracket-F.Extract high low) at p = record { at = at; sort = with_operand p (λ o. extracted at high low o) }

-- ---- names

abbrev pub sort_if : ℕ → Option (Var × Sort) → Checked
sort_if at None = refused at Unknown
sort_if at (Some seen) = Ok seen.1

-- Mismatch at the first argument that has not its sort
abbrev pub all_fit : List Sort → List Operand → Sort → Checked
all_fit [] os output = Ok output
all_fit (s ∷ ss) [] output = Ok output
all_fit (s ∷ ss) (o ∷ os) output = needs s o (all_fit ss os output)

abbrev pub is_nothing : Meaning → Bool
is_nothing Body = false
is_nothing (Operator b) = false
is_nothing Nothing = true

-- at the name: Unknown, else Arity, else a function without meaning; then the arguments
abbrev pub applied : ℕ → Option Signature → List Operand → Checked
applied at None os = refused at Unknown
applied at (Some f) os =
    if not (nat_eq (length f.arguments) (length os)) then refused at Arity
    else if is_nothing f.meaning then refused at (LeftOut Uninterpreted)
    else all_fit (map (λ a. a.sort) f.arguments) os f.output

-- ---- expressions

-- the offset of the first token of a node
abbrev pub at_node : {B E : Type 0} → Expr-F B E → ℕ
at_node (Expr-F.True at) = at
at_node (Expr-F.False at) = at
at_node (Expr-F.Literal at width bits) = at
at_node (Expr-F.Variable name) = name.at
at_node (Expr-F.Apply function arguments) = function.at
at_node (Expr-F.Post at operand brackets) = at
at_node (Expr-F.Not at operand) = at
at_node (Expr-F.Concat at operands) = at
at_node (Expr-F.Equal at left right) = at
at_node (Expr-F.NotEqual at left right) = at
at_node (Expr-F.And at operands) = at
at_node (Expr-F.Or at operands) = at
at_node (Expr-F.Implies at left right) = at
at_node (Expr-F.ImpliedBy at operands) = at
at_node (Expr-F.Equivalent at operands) = at
at_node (Expr-F.Choice at condition one other) = at

-- a literal whose width or bits are out of range is in no text
abbrev pub literal : ℕ → ℕ → ℕ → Checked
literal at width bits = if has_scalar (bits_atom width bits) (BvSort width) then Ok (ScalarSort (BvSort width)) else refused at Width

abbrev pub both_bools : Part → Part → Checked
both_bools left right = with_operand left (λ l. with_operand right (λ r. needs bool_sort l (needs bool_sort r (Ok bool_sort))))

abbrev pub sort_node : Tables → Scope → Expr-F (ℕ → Part → Part) Part → Checked
sort_node tables scope (Expr-F.True at) = Ok bool_sort
sort_node tables scope (Expr-F.False at) = Ok bool_sort
sort_node tables scope (Expr-F.Literal at width bits) = literal at width bits
sort_node tables scope (Expr-F.Variable name) = sort_if name.at (find_name tables scope name.text)
sort_node tables scope (Expr-F.Apply function arguments) = with_operands arguments (applied function.at (function_named tables function.text))
sort_node tables scope (Expr-F.Post at operand brackets) = (fold (λ p bracket. bracket at p) operand brackets).sort
sort_node tables scope (Expr-F.Not at operand) = with_operand operand (λ o. needs bool_sort o (Ok bool_sort))
sort_node tables scope (Expr-F.Concat at operands) = with_operands operands (joined at)
sort_node tables scope (Expr-F.Equal at left right) = with_operand left (λ l. with_operand right (compared at l))
sort_node tables scope (Expr-F.NotEqual at left right) = with_operand left (λ l. with_operand right (compared at l))
sort_node tables scope (Expr-F.And at operands) = with_operands operands (chain_of_bools at)
sort_node tables scope (Expr-F.Or at operands) = with_operands operands (chain_of_bools at)
sort_node tables scope (Expr-F.Implies at left right) = both_bools left right
sort_node tables scope (Expr-F.ImpliedBy at operands) = with_operands operands (chain_of_bools at)
sort_node tables scope (Expr-F.Equivalent at operands) = with_operands operands (chain_of_bools at)
sort_node tables scope (Expr-F.Choice at condition one other) = with_operand condition (λ c. with_operand one (λ y. with_operand other (chosen at c y)))

abbrev pub part_node : Tables → Scope → Expr-F (ℕ → Part → Part) Part → Part
part_node tables scope node = record { at = at_node node; sort = sort_node tables scope node }

-- what is told of an expression
unfoldable pub part : Tables → Scope → Expr → Part
part tables scope = fold-Expr (ℕ → Part → Part) Part bracket_node (part_node tables scope)

-- what a bracket, given the offset of the whole, makes of what stands before it
unfoldable pub bracket_part : Tables → Scope → Bracket → ℕ → Part → Part
bracket_part tables scope = fold-Bracket (ℕ → Part → Part) Part bracket_node (part_node tables scope)
