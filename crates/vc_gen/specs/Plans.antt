-- What a run settles of an instance's variables: whatever the others are, the terms say the run.
use Rattle.std.specs.Prelude.{◌≡◌, ℕ, ◌+◌, ◌<◌, true, false, List, [], ◌∷◌, ◌++◌, map, length, take, slice_get, zero, suc, Option, None, Some, IsTrue}
use Rattle.hy_val.specs.Values.{has_sort}
use Rattle.hy_val.specs.declared.sort.Sort.{Sort}
use Rattle.hy_val.specs.declared.value.Value.{Value}
use Rattle.hy_term.specs.Meaning.{fits}
use Rattle.hy_term.specs.Variables.{reads}
use Rattle.hy_term.specs.declared.node.TermNode.{TermNode}
use Rattle.flat_prog.specs.declared.proc.FlatProc.{FlatProc}
use Rattle.passive_form.specs.Limited.{Limited}
use Rattle.flat_prog.specs.Local.{Result, Request}
use Rattle.passive_form.specs.Local.{sorted_as}
use Rattle.flat_prog.specs.Ordering.{is_in}
use Rattle.flat_prog.specs.declared.block.FlatCmd.{FlatCmd}
use Rattle.flat_prog.specs.declared.block.FlatCmd.TheVariants.{Assign, Havoc, Assume, Assert, Call}
use Rattle.vc_gen.specs.Fold.{last_of}
use Rattle.passive_form.specs.Versions.{Cur}
use Rattle.passive_form.specs.Making.{items_all, entry_cur, entry_count}
use Rattle.vc_gen.specs.Items.{chosen}
use Rattle.vc_gen.specs.declared.parts.Actuals.{Actuals}
use Rattle.vc_gen.specs.declared.parts.EdgeTerm.{EdgeTerm}
use Rattle.vc_gen.specs.declared.parts.SiteTerm.{SiteTerm}
use Rattle.vc_gen.specs.Inputs.{sorts_of_block, sorts_of_blocks}
use Rattle.vc_gen.specs.Instance.{start_sorts, EndsFrom, Answers, FailsFrom, FailAnswers, run_values}

-- the variables from k on have these values, as far as they are settled
abbrev pub Follows : (ℕ → Value) → ℕ → List (Option Value) → Type 0
Follows a k [] = Unit {0}
Follows a k (None ∷ vs) = Follows a (k + 1) vs
Follows a k (Some v ∷ vs) = (a k ≡ v) × Follows a (k + 1) vs

-- what is settled has its sort
abbrev pub RowFits : List Sort → List (Option Value) → Type 0
RowFits [] [] = Unit {0}
RowFits [] (v ∷ vs) = ⊥
RowFits (s ∷ ss) [] = ⊥
RowFits (s ∷ ss) (None ∷ vs) = RowFits ss vs
RowFits (s ∷ ss) (Some v ∷ vs) = (has_sort v s ≡ true) × RowFits ss vs

-- nothing is settled
abbrev pub AllOpen : List (Option Value) → Type 0
AllOpen [] = Unit {0}
AllOpen (None ∷ vs) = AllOpen vs
AllOpen (Some v ∷ vs) = ⊥

-- nothing of the blocks that are not on the path
abbrev pub OpenOff : Limited → FlatProc → List ℕ → List ℕ → List (Option Value) → Type 0
OpenOff flat q path [] row = row ≡ []
OpenOff flat q path (n ∷ ns) row =
    (mine : List (Option Value)) × (rest : List (Option Value)) × (row ≡ mine ++ rest) × (length mine ≡ length (sorts_of_block flat q n)) × (is_in n path ≡ false → AllOpen mine) × OpenOff flat q path ns rest

abbrev pub call_bit : FlatCmd → ℕ
call_bit (Assign pairs) = 0
call_bit (Havoc xs) = 0
call_bit (Assume e) = 0
call_bit (Assert p n e) = 0
call_bit (Call p args outs) = 1

-- how many variables a run that fails at a command settles of its block: those of the commands before it, and whether the callee fails
abbrev pub settled_count : Limited → FlatProc → Cur → (at k : ℕ) → List FlatCmd → FlatCmd → ℕ
settled_count flat q cur at k before cmd = length (chosen (items_all flat q cur at k before)) + call_bit cmd

abbrev pub settled_value : Value → Option Value
settled_value v = Some v

abbrev pub opens : ℕ → List (Option Value)
opens zero = []
opens (suc n) = None ∷ opens n

-- so many variables are settled, and nothing behind them
pub record OpenBehind (count : ℕ) (mine : List (Option Value)) : Type 0 where
  pub front : List Value
  pub free : ℕ
  pub mine_is : mine ≡ map settled_value front ++ opens free
  pub size : length front ≡ count

-- of the block at this place of the order so many variables are settled, and nothing behind them
pub record OpenAt (flat : Limited) (q : FlatProc) (order : List ℕ) (place count : ℕ) (row : List (Option Value)) : Type 0 where
  pub pre : List (Option Value)
  pub mine : List (Option Value)
  pub post : List (Option Value)
  pub row_is : row ≡ pre ++ (mine ++ post)
  pub before : length pre ≡ length (sorts_of_blocks flat q (take place order))
  pub size : (n : ℕ) → slice_get order place ≡ Some n → length mine ≡ length (sorts_of_block flat q n)
  pub behind : OpenBehind count mine

-- for a run that ends: the values of the start's variables, and of those of the blocks as far as the run settles them. Under each assignment with
-- these the terms say the run, whatever the other variables are.
pub record EndPlan (flat : Limited) (q : FlatProc) (order : List ℕ) (a : ℕ → Value) (k : ℕ) (new : List TermNode) (ended : ℕ) (outs globals : List ℕ) (edges : List EdgeTerm) (sites : List SiteTerm)
    (path places : List ℕ) (values : List Value) (results : List Result) (calls : List Request) (os gs : List Value) : Type 0 where
  pub first : List Value
  pub first_sorts : sorted_as (start_sorts q q.kind) first ≡ true
  pub row : List (Option Value)
  pub row_sorts : RowFits (sorts_of_blocks flat q order) row
  pub open_off : OpenOff flat q (0 ∷ path) order row
  pub says : (b : ℕ → Value) → ((n : ℕ) → n < k → b n ≡ a n) → IsTrue (fits b new) → reads b k (length (start_sorts q q.kind)) ≡ first → Follows b (k + length (start_sorts q q.kind)) row →
      Answers a b k new ended outs globals edges sites os gs path places results calls × (values ≡ run_values flat q order k b (0 ∷ path))

abbrev pub EndsPlanned : Limited → FlatProc → List ℕ → Actuals → ℕ → List TermNode → List TermNode → ℕ → List ℕ → List ℕ → List EdgeTerm → List SiteTerm → Type 0
EndsPlanned flat q order actuals k old nodes ended outs globals edges sites =
    (a : ℕ → Value) → IsTrue (fits a old) → (path places : List ℕ) (values : List Value) (results : List Result) (calls : List Request) (os gs : List Value) →
    EndsFrom flat q actuals a old path places values results calls os gs → EndPlan flat q order a k nodes ended outs globals edges sites path places values results calls os gs

-- the same for a run that fails. Of its last block the row settles what is chosen up to the command that fails, and nothing behind it.
pub record FailPlan (flat : Limited) (q : FlatProc) (order : List ℕ) (a : ℕ → Value) (k : ℕ) (new : List TermNode) (fails : ℕ) (edges : List EdgeTerm) (sites : List SiteTerm)
    (path places : List ℕ) (values : List Value) (results : List Result) (calls : List Request) (count : ℕ) : Type 0 where
  pub first : List Value
  pub first_sorts : sorted_as (start_sorts q q.kind) first ≡ true
  pub row : List (Option Value)
  pub row_sorts : RowFits (sorts_of_blocks flat q order) row
  pub open_off : OpenOff flat q (0 ∷ path) order row
  pub place : ℕ
  pub place_is : slice_get order place ≡ Some (last_of 0 path)
  pub open_behind : OpenAt flat q order place count row
  pub says : (b : ℕ → Value) → ((n : ℕ) → n < k → b n ≡ a n) → IsTrue (fits b new) → reads b k (length (start_sorts q q.kind)) ≡ first → Follows b (k + length (start_sorts q q.kind)) row →
      FailAnswers a b k new fails edges sites path places results calls × (values ≡ take (length values) (run_values flat q order k b (0 ∷ path)))

abbrev pub FailsPlanned : Limited → FlatProc → List ℕ → Actuals → ℕ → List TermNode → List TermNode → ℕ → List EdgeTerm → List SiteTerm → Type 0
FailsPlanned flat q order actuals k old nodes fails edges sites =
    (a : ℕ → Value) → IsTrue (fits a old) → (path places : List ℕ) (values : List Value) (results : List Result) (calls : List Request) (proc number : ℕ) →
    (run : FailsFrom flat q actuals a old path places values results calls proc number) →
    FailPlan flat q order a k nodes fails edges sites path places values results calls (settled_count flat q (entry_cur flat q) 0 (entry_count flat q) run.run.before run.run.at)
