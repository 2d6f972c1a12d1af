-- The globals that a procedure may change (This is Boogie 2, modifies clauses, here computed), the results that leave the
-- others, and what a free child may stand for.
use Rattle.std.specs.Prelude.{◌≡◌, ◌↔◌, ℕ, Bool, true, false, List, [], ◌∷◌, ◌++◌, length, slice_get, slice_set, Some, Contains, Any}
use Rattle.std.specs.List.Sorted.{IsStrictlyIncreasing}
use Rattle.hy_val.specs.declared.expr.ExprNode.{ExprNode}
use Rattle.hy_val.specs.declared.expr.Var.{Var}
use Rattle.hy_val.specs.declared.expr.Var.TheVariants.{Global}
use Rattle.hy_val.specs.declared.value.Value.{Value}
use Rattle.flat_prog.specs.Program.{FlatProgram}
use Rattle.flat_prog.specs.Shape.{Calls}
use Rattle.flat_prog.specs.Local.{Request, Result, Ended, Broken, can_come_back}
use Rattle.flat_prog.specs.declared.block.FlatCmd.{FlatCmd}
use Rattle.flat_prog.specs.declared.block.FlatCmd.TheVariants.{Assign, Havoc, Assume, Assert, Call}
use Rattle.flat_prog.specs.declared.proc.FlatProc.{FlatProc}

-- the command assigns the variable, havocs it, or takes it from a call as a target
abbrev pub Writes : Var → FlatCmd → Type 0
Writes x (Assign pairs) = Any (λ (p : Var × List ExprNode). p.0 ≡ x) pairs
Writes x (Havoc xs) = Contains xs x
Writes x (Assume expr) = ⊥
Writes x (Assert proc number expr) = ⊥
Writes x (Call proc args outs) = Contains outs x

-- A procedure may change a global where a command of it writes the global, or a procedure that it calls may change it.
pub data MayChange (flat : FlatProgram) (g : ℕ) : ℕ → Type 0 where
  own : {p : ℕ} → (q : FlatProc) → slice_get flat.procs p ≡ Some q → Any (λ b. Any (Writes (Global g)) b.cmds) q.blocks → MayChange flat g p
  through : {p : ℕ} → (q : FlatProc) → (to : ℕ) → slice_get flat.procs p ≡ Some q → Calls q to → MayChange flat g to → MayChange flat g p

-- exactly these globals may be changed, by number, in order
pub record AreChanged (flat : FlatProgram) (p : ℕ) (numbers : List ℕ) : Type 0 where
  pub exact : (g : ℕ) → Contains numbers g ↔ MayChange flat g p
  pub ascend : IsStrictlyIncreasing numbers

-- ---- results that leave the others

-- as many values, and the same at each place but these
pub record Unchanged (changes : ℕ → Type 0) (old new : List Value) : Type 0 where
  pub count : length new ≡ length old
  pub others : (g : ℕ) → (changes g → ⊥) → slice_get new g ≡ slice_get old g

-- a callee that ended left the globals alone that it may not change
abbrev pub Keeps : FlatProgram → Request → Result → Type 0
Keeps flat call (Ended outs globals) = Unchanged (λ g. MayChange flat g call.proc) call.globals globals
Keeps flat call (Broken proc number) = Unit {0}

-- so did each, as far as the results go
abbrev pub AllKeep : FlatProgram → List Request → List Result → Type 0
AllKeep flat [] results = Unit {0}
AllKeep flat (call ∷ calls) [] = Unit {0}
AllKeep flat (call ∷ calls) (result ∷ results) = Keeps flat call result × AllKeep flat calls results

-- ---- what a free child may stand for

-- the values at these places are set, in order
abbrev pub set_all : List Value → List ℕ → List Value → List Value
set_all vs [] ws = vs
set_all vs (n ∷ ns) [] = vs
set_all vs (n ∷ ns) (w ∷ ws) = set_all (slice_set vs n w) ns ws

-- A free child ends with any values of its outs and of the globals that its procedure may change, of their sorts; its
-- values are these, and the other globals stay.
pub record FreeEnds (flat : FlatProgram) (call : Request) (values outs globals : List Value) : Type 0 where
  pub numbers : List ℕ
  pub changed : AreChanged flat call.proc numbers
  pub new : List Value
  pub one_each : length new ≡ length numbers
  pub values_are : values ≡ outs ++ new
  pub globals_are : globals ≡ set_all call.globals numbers new
  pub fit : can_come_back flat call.proc outs globals ≡ true

-- a free child ends so, or it fails, in any assert
abbrev pub MayBe : FlatProgram → Request → (ends : Bool) → (values : List Value) → Result → Type 0
MayBe flat call true values (Ended outs globals) = FreeEnds flat call values outs globals
MayBe flat call true values (Broken proc number) = ⊥
MayBe flat call false values (Ended outs globals) = ⊥
MayBe flat call false values (Broken proc number) = values ≡ []
