-- The order of the lists of choices, and the first of those on which the run fails.
use Rattle.std.specs.Prelude.{◌≡◌, ℕ, Bool, true, false, List, [], ◌∷◌, ◌++◌, ◌⊎◌, map}
use Rattle.hy_val.specs.declared.atom.AtomKind.TheVariants.{Bool as BoolAtom}
use Rattle.hy_val.specs.declared.value.Value.TheVariants.{Atom as AtomValue}
use Rattle.src_prog.specs.Program.{Program}
use Rattle.src_run.specs.declared.machine.Choice.{Choice}
use Rattle.src_run.specs.declared.machine.Choice.TheVariants.{Val}
use Rattle.src_run.specs.declared.machine.Status.TheVariants.{Failed}
use Rattle.src_run.specs.declared.searching.Failing.{Failing}
use Rattle.src_run.specs.Machine.{HasStatus, Fails}

-- the choice of a bool
abbrev pub bool_choice : Bool → Choice
bool_choice b = Val (AtomValue (BoolAtom b))

abbrev pub bool_choices : List Bool → List Choice
bool_choices bs = map bool_choice bs

-- one list comes before another where, at the first place at which they differ, it has false and the other true
abbrev pub Precedes : List Choice → List Choice → Type 0
Precedes [] ys = ⊥
Precedes (x ∷ xs) [] = ⊥
Precedes (x ∷ xs) (y ∷ ys) = ((x ≡ bool_choice false) × (y ≡ bool_choice true)) ⊎ ((x ≡ y) × Precedes xs ys)

-- the run fails on these choices, at this assert, and on no list of choices that comes before them
pub record FirstFailing (prog : Program) (entry bound : ℕ) (f : Failing) : Type 0 where
  pub fails : HasStatus prog entry bound f.choices (Failed f.proc f.assert)
  pub first : (earlier : List Choice) → Precedes earlier f.choices → Fails prog entry bound earlier → ⊥

-- the same among the lists that begin with these choices
pub record FirstFrom (prog : Program) (entry bound : ℕ) (given : List Choice) (f : Failing) : Type 0 where
  pub rest : List Choice
  pub begins : f.choices ≡ given ++ rest
  pub fails : HasStatus prog entry bound f.choices (Failed f.proc f.assert)
  pub first : (earlier : List Choice) → Precedes earlier rest → Fails prog entry bound (given ++ earlier) → ⊥

-- no list that begins with these choices fails
abbrev pub NoneFrom : Program → (entry bound : ℕ) → List Choice → Type 0
NoneFrom prog entry bound given = (rest : List Choice) → Fails prog entry bound (given ++ rest) → ⊥
