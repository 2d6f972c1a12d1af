-- What the passive form means: the items of a block say of versions what its commands do to variables; and what an order of blocks names is
-- there.
use Rattle.std.specs.Prelude.{◌≡◌, ℕ, ◌+◌, ◌<◌, ◌≤◌, Bool, true, ◌&&◌, List, [], ◌∷◌, ◌++◌, length, slice_get, Option, None, Some, is_some, if◌then◌else◌}
use Rattle.hy_val.specs.declared.expr.Env.{Env}
use Rattle.hy_val.specs.declared.expr.Var.{Var}
use Rattle.hy_val.specs.declared.value.Value.{Value}
use Rattle.flat_prog.specs.Local.{Result, Request}
use Rattle.flat_prog.specs.Ordering.{is_in, IsOrderOf}
use Rattle.flat_prog.specs.declared.block.FlatBlock.{FlatBlock}
use Rattle.flat_prog.specs.declared.block.FlatCmd.{FlatCmd}
use Rattle.flat_prog.specs.declared.block.FlatCmd.TheVariants.{Assign, Havoc, Assume, Assert, Call}
use Rattle.flat_prog.specs.declared.proc.FlatProc.{FlatProc}
use Rattle.flat_prog.specs.Program.{FlatProgram}
use Rattle.flat_prog.specs.Shape.{IsFlat}
use Rattle.passive_form.specs.Limited.{Limited, limited}
use Rattle.passive_form.specs.Local.{State, alone, sort_of, pass_all}
use Rattle.passive_form.specs.WellSorted.{ProcSorted}
use Rattle.passive_form.specs.Versions.{Cur, env_of, Defined, hold, taken_values, taken_results, made_calls}
use Rattle.passive_form.specs.Making.{items_all, cur_end, passive_of}
use Rattle.passive_form.specs.declared.Passive.{Passive}

-- the state behind commands that hold; none where they do not
abbrev pub outcome : Bool → Env → List Value → List Result → List Request → Option State
outcome ok env vs rs calls = if ok then Some (alone env vs rs calls) else None

-- ---- what commands name is there

-- each variable that a havoc names has a sort
abbrev pub targets_there : Limited → FlatProc → List Var → Bool
targets_there flat q [] = true
targets_there flat q (x ∷ xs) = is_some (sort_of flat q x) && targets_there flat q xs

abbrev pub cmd_there : Limited → FlatProc → FlatCmd → Bool
cmd_there flat q (Assign pairs) = true
cmd_there flat q (Havoc xs) = targets_there flat q xs
cmd_there flat q (Assume e) = true
cmd_there flat q (Assert p n e) = true
cmd_there flat q (Call p args outs) = true

abbrev pub cmds_there : Limited → FlatProc → List FlatCmd → Bool
cmds_there flat q [] = true
cmds_there flat q (c ∷ cs) = cmd_there flat q c && cmds_there flat q cs

-- the blocks of an order are there, and what their commands name
abbrev pub AllThere : Limited → FlatProc → List ℕ → Type 0
AllThere flat q [] = Unit {0}
AllThere flat q (n ∷ ns) = ((b : FlatBlock) × (slice_get q.blocks n ≡ Some b) × (cmds_there flat q b.cmds ≡ true)) × AllThere flat q ns

-- ---- laws

-- Where the versions have the values that the items of some commands define, the commands pass from the values of the versions before them to
-- those of the versions behind them exactly if the conditions of the items hold. On the way they take the values and the results of the items'
-- free versions and sites, and make the calls of the sites.
abbrev pub ItemsSay : Type 0
ItemsSay =
    (flat : Limited) (q : FlatProc) (consts : List Value) (vals : ℕ → Value) (cur : Cur) (at k : ℕ) (cmds : List FlatCmd) (vs : List Value) (rs : List Result) (calls : List Request) →
    cmds_there flat q cmds ≡ true → Defined consts vals (items_all flat q cur at k cmds) →
    pass_all flat q cmds (alone (env_of consts vals cur) (taken_values vals (items_all flat q cur at k cmds) ++ vs) (taken_results vals (items_all flat q cur at k cmds) ++ rs) calls)
    ≡ outcome (hold consts vals (items_all flat q cur at k cmds)) (env_of consts vals (cur_end flat cur k cmds)) vs rs (calls ++ made_calls consts vals (items_all flat q cur at k cmds))

-- the blocks of an order are there, block 0 among them
abbrev pub OrderedAreThere : Type 0
OrderedAreThere = (flat : Limited) (q : FlatProc) (order : List ℕ) → ProcSorted flat q → 0 < length q.blocks → IsOrderOf q order → (is_in 0 order ≡ true) × AllThere flat q order

-- the procedures of a flat program have their sorts
abbrev pub ProcsAreSorted : Type 0
ProcsAreSorted = (flat : FlatProgram) (limits : List (List Bool)) (p : ℕ) (q : FlatProc) → IsFlat flat → slice_get flat.procs p ≡ Some q → ProcSorted (limited flat limits) q

-- ---- the passive form of a procedure of a program

-- it is the passive form by an order of all blocks in which each edge leads on, with no more numbers than there are blocks
pub record IsPassiveOf (flat : Limited) (q : FlatProc) (p : Passive) : Type 0 where
  pub order : List ℕ
  pub ordered : IsOrderOf q order
  pub few : length order ≤ length q.blocks
  pub is : p ≡ passive_of flat q order
