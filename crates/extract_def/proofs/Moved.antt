-- Variables of a source procedure in a flat one, where its locals stand further behind.
use Rattle.std.proofs.Common.{◌≡◌, ℕ, ◌+◌, ◌<◌, length, ◌∙◌, ap}
use Rattle.std.specs.Prelude.{Some, slice_get}
use Rattle.hy_val.specs.Scope.{Scope, sort_of_target}
use Rattle.hy_val.specs.declared.expr.Var.{Var}
use Rattle.hy_val.specs.declared.expr.Var.TheVariants.{Const, Global, Local}
use Rattle.hy_val.specs.declared.sort.Sort.{Sort}
use Rattle.extract_def.proofs.Lookup.{below}
use Rattle.extract_def.specs.Renaming.{behind}

-- a local is one of so many
abbrev pub IsWithin : ℕ → Var → Type 0
IsWithin n (Const k) = Unit {0}
IsWithin n (Global k) = Unit {0}
IsWithin n (Local k) = k < n

-- the scopes have the same variables, where the locals of the first stand so much further behind in the second
pub record IsMoved (by : ℕ) (old new : Scope) : Type 0 where
  pub consts : new.consts ≡ old.consts
  pub globals : new.globals ≡ old.globals
  pub locals : (n : ℕ) (s : Sort) → slice_get old.locals n ≡ Some s → slice_get new.locals (by + n) ≡ Some s

pub moved_target : (by : ℕ) (old new : Scope) (x : Var) (s : Sort) → IsMoved by old new → sort_of_target old x ≡ Some s → (sort_of_target new (behind by x) ≡ Some s) × IsWithin (length old.locals) x
moved_target by old new (Const n) s h e = absurd cc
moved_target by old new (Global n) s h e = (ap (λ gs. slice_get gs n) h.globals ∙ e, tt)
moved_target by old new (Local n) s h e = (h.locals n s e, below old.locals n s e)
