-- The facts that the type of flat programs keeps: numbers in range, sorts that fit (This is Boogie 2, typing of
-- commands), acyclic blocks, and loop procedures as taking out loops makes them.
use Rattle.std.specs.Prelude.{◌≡◌, ◌⊎◌, ◌<◌, ℕ, nat_lt, nat_le, nat_eq, Bool, true, false, ◌&&◌, List, [], ◌∷◌, ◌++◌, length, slice_get, Option, None, Some, IsTrue, Contains, All, Any}
use Rattle.std.specs.List.{list_all}
use Rattle.hy_val.specs.NodeSorts.{is_sort}
use Rattle.hy_val.specs.declared.expr.ExprNode.{ExprNode}
use Rattle.hy_val.specs.declared.expr.Var.{Var}
use Rattle.hy_val.specs.declared.sort.ScalarKind.TheVariants.{Bv as BvSort}
use Rattle.hy_val.specs.declared.sort.Sort.{Sort}
use Rattle.hy_val.specs.declared.sort.SortKind.TheVariants.{Scalar as ScalarSort}
use Rattle.hy_val.specs.Scope.{Scope, sort_of_target, is_sort_of, is_target, pair_fits, expr_fits, is_condition, are_numbered, ascend_from}
use Rattle.flat_prog.specs.Program.{FlatProgram, scope_of, variables_of}
use Rattle.flat_prog.specs.declared.block.FlatBlock.{FlatBlock}
use Rattle.flat_prog.specs.declared.block.FlatCmd.{FlatCmd}
use Rattle.flat_prog.specs.declared.block.FlatCmd.TheVariants.{Assign, Havoc, Assume, Assert, Call}
use Rattle.flat_prog.specs.declared.block.FlatNext.{FlatNext}
use Rattle.flat_prog.specs.declared.block.FlatNext.TheVariants.{Goto, Return}
use Rattle.flat_prog.specs.declared.proc.FlatKind.{FlatKind}
use Rattle.flat_prog.specs.declared.proc.FlatKind.TheVariants.{Source, Loop}
use Rattle.flat_prog.specs.declared.proc.FlatProc.{FlatProc}

-- ---- commands and blocks

-- as many expressions as sorts, each of its sort
abbrev pub args_fit : Scope → List Sort → List (List ExprNode) → Bool
args_fit scope [] [] = true
args_fit scope [] (arg ∷ args) = false
args_fit scope (sort ∷ sorts) [] = false
args_fit scope (sort ∷ sorts) (arg ∷ args) = expr_fits scope (Some sort) arg && args_fit scope sorts args

-- as many targets as sorts, each of its sort
abbrev pub targets_fit : Scope → List Sort → List Var → Bool
targets_fit scope [] [] = true
targets_fit scope [] (x ∷ xs) = false
targets_fit scope (sort ∷ sorts) [] = false
targets_fit scope (sort ∷ sorts) (x ∷ xs) = is_sort_of (sort_of_target scope x) sort && targets_fit scope sorts xs

-- a call: there is such a procedure, each argument has the sort of the in, each target that of the out
abbrev pub call_fits : Scope → Option FlatProc → List (List ExprNode) → List Var → Bool
call_fits scope None args outs = false
call_fits scope (Some q) args outs = args_fit scope q.ins args && targets_fit scope q.outs outs

-- A command that fits: a value has the sort of its target, which is no constant; conditions are bools; the asserts of a
-- procedure are numbered from 1.
abbrev pub cmd_fits : List FlatProc → Scope → FlatCmd → Bool
cmd_fits procs scope (Assign pairs) = list_all (pair_fits scope) pairs
cmd_fits procs scope (Havoc xs) = list_all (is_target scope) xs
cmd_fits procs scope (Assume expr) = is_condition scope expr
cmd_fits procs scope (Assert proc number expr) = nat_le 1 number && is_condition scope expr
cmd_fits procs scope (Call proc args outs) = call_fits scope (slice_get procs proc) args outs

-- a goto has a target, and each target is one of so many blocks
abbrev pub next_fits : ℕ → FlatNext → Bool
next_fits blocks Return = true
next_fits blocks (Goto targets) = nat_lt 0 (length targets) && list_all (λ t. nat_lt t blocks) targets

-- the commands of a block fit, and so does its end
abbrev pub block_fits : List FlatProc → Scope → ℕ → FlatBlock → Bool
block_fits procs scope blocks block = list_all (cmd_fits procs scope) block.cmds && next_fits blocks block.next

-- ---- acyclic blocks

-- the block at a place of a goto list
abbrev pub place_of : FlatNext → ℕ → Option ℕ
place_of Return place = None
place_of (Goto targets) place = slice_get targets place

-- the target of the edge from a block at a place
abbrev pub place_at : Option FlatBlock → ℕ → Option ℕ
place_at None place = None
place_at (Some block) place = place_of block.next place

-- each edge from a block of the list leads to one behind it
abbrev pub Onward : List FlatBlock → List ℕ → Type 0
Onward blocks [] = Unit {0}
Onward blocks (n ∷ ns) = ((place to : ℕ) → place_at (slice_get blocks n) place ≡ Some to → Contains ns to) × Onward blocks ns

-- The blocks are acyclic: they can be listed, all of them, so that each edge leads on.
pub record AreAcyclic (blocks : List FlatBlock) : Type 0 where
  pub order : List ℕ
  pub onward : Onward blocks order
  pub every : (n : ℕ) → n < length blocks → Contains order n

-- ---- procedures

-- the sort of the number of a loop's exit
abbrev pub exit_sort : Sort
exit_sort = ScalarSort (BvSort 32)

-- the sorts of a loop procedure's outs are those of its ins, and then one of 32 bits
abbrev pub HaveLoopOuts : FlatKind → FlatProc → Type 0
HaveLoopOuts (Source proc) q = Unit {0}
HaveLoopOuts (Loop proc head) q = q.outs ≡ q.ins ++ exit_sort ∷ []

-- numbers of 32 bits name so many variables, and each is of a sort that there is
abbrev pub sorts_fit : List Sort → Bool
sorts_fit sorts = are_numbered (length sorts) && list_all is_sort sorts

-- A procedure that fits: its variables have sorts, it has a block and 32 bits number them, its blocks fit and are
-- acyclic, and the outs of a loop procedure are as above.
pub record IsFlatProc (flat : FlatProgram) (q : FlatProc) : Type 0 where
  pub variables : IsTrue (sorts_fit (variables_of q))
  pub some : IsTrue (nat_lt 0 (length q.blocks) && are_numbered (length q.blocks))
  pub blocks : IsTrue (list_all (block_fits flat.procs (scope_of flat q) (length q.blocks)) q.blocks)
  pub acyclic : AreAcyclic q.blocks
  pub loop_outs : HaveLoopOuts q.kind q

-- ---- calls

-- the command calls the procedure of this number
abbrev pub is_call_of : ℕ → FlatCmd → Bool
is_call_of p (Assign pairs) = false
is_call_of p (Havoc xs) = false
is_call_of p (Assume expr) = false
is_call_of p (Assert proc number expr) = false
is_call_of p (Call proc args outs) = nat_eq proc p

-- a command of the procedure calls the one of that number
abbrev pub Calls : FlatProc → ℕ → Type 0
Calls q p = Any (λ b. Any (λ c. IsTrue (is_call_of p c)) b.cmds) q.blocks

-- it stands for a loop
abbrev pub is_loop_kind : FlatKind → Bool
is_loop_kind (Source proc) = false
is_loop_kind (Loop proc head) = true

-- each procedure of the list calls of the loop procedures none but itself and those behind it
abbrev pub CallsOnward : List FlatProc → List ℕ → Type 0
CallsOnward procs [] = Unit {0}
CallsOnward procs (p ∷ ps) =
    ((q called : FlatProc) (to : ℕ) → slice_get procs p ≡ Some q → slice_get procs to ≡ Some called → IsTrue (is_loop_kind called.kind) → Calls q to → (to ≡ p) ⊎ Contains ps to)
    × CallsOnward procs ps

-- No circle of calls goes through loop procedures alone, but that of one that calls itself: they can be listed, all of
-- them, so that each calls itself and later ones alone.
pub record HaveNoLoopCircle (procs : List FlatProc) : Type 0 where
  pub order : List ℕ
  pub onward : CallsOnward procs order
  pub every : (p : ℕ) (q : FlatProc) → slice_get procs p ≡ Some q → IsTrue (is_loop_kind q.kind) → Contains order p

-- ---- programs

-- the scope of axioms
abbrev pub constant_scope : FlatProgram → Scope
constant_scope flat = record { consts = flat.consts; globals = []; locals = [] }

-- Numbers are in range, the unique constants are told in order and once, axioms are bools over the constants, 32 bits
-- number the procedures, each fits, and no circle of calls goes through loop procedures alone.
pub record IsFlat (flat : FlatProgram) : Type 0 where
  pub consts : IsTrue (sorts_fit flat.consts)
  pub globals : IsTrue (sorts_fit flat.globals)
  pub uniques : IsTrue (ascend_from 0 (length flat.consts) flat.uniques)
  pub axioms : IsTrue (list_all (is_condition (constant_scope flat)) flat.axioms)
  pub few : IsTrue (are_numbered (length flat.procs))
  pub procs : All (IsFlatProc flat) flat.procs
  pub loops : HaveNoLoopCircle flat.procs
