-- The values of the variables that commands change, what writes do to them, conditions that hold, and values that differ (This is Boogie 2,
-- commands and their runs).
use Rattle.std.specs.Prelude.{ℕ, nat_eq, Bool, true, false, not, ◌&&◌, List, [], ◌∷◌, slice_set, Option, None, Some, if◌then◌else◌}
use Rattle.std.specs.List.{list_all}
use Rattle.hy_val.specs.Exprs.{eval}
use Rattle.hy_val.specs.Sorts.{same_scalar}
use Rattle.hy_val.specs.Values.{at, has_sort, is_on}
use Rattle.hy_val.specs.declared.atom.Atom.{Atom}
use Rattle.hy_val.specs.declared.atom.AtomKind.TheVariants.{Bool as BoolAtom, Bv as BvAtom}
use Rattle.hy_val.specs.declared.expr.Env.{Env}
use Rattle.hy_val.specs.declared.expr.ExprNode.{ExprNode}
use Rattle.hy_val.specs.declared.expr.Var.{Var}
use Rattle.hy_val.specs.declared.expr.Var.TheVariants.{Const, Global, Local}
use Rattle.hy_val.specs.declared.sort.Sort.{Sort}
use Rattle.hy_val.specs.declared.value.Value.{Value}
use Rattle.hy_val.specs.declared.value.Value.TheVariants.{Atom as AtomValue, Map as MapValue}

-- ---- values of sorts

-- a value of the sort, where there is one
abbrev pub is_value_of : Option Sort → Value → Bool
is_value_of None v = false
is_value_of (Some s) v = has_sort v s

-- one value of each sort, in order
abbrev pub have_sorts : List Value → List Sort → Bool
have_sorts [] [] = true
have_sorts [] (s ∷ ss) = false
have_sorts (v ∷ vs) [] = false
have_sorts (v ∷ vs) (s ∷ ss) = has_sort v s && have_sorts vs ss

-- ---- conditions

-- the condition is true in the environment
abbrev pub holds : Env → List ExprNode → Bool
holds env nodes = is_on (eval env nodes)

-- ---- variables

-- the values that commands change
pub record Store : Type 0 where
  pub globals : List Value
  pub locals : List Value

-- the environment of these constants and variables
abbrev pub env_with : List Value → Store → Env
env_with consts s = record { consts = consts; globals = s.globals; locals = s.locals }

-- one variable takes a value; a constant takes none
abbrev pub write : Store → Var → Value → Store
write s (Const n) v = s
write s (Global n) v = record s { globals = slice_set s.globals n v }
write s (Local n) v = record s { locals = slice_set s.locals n v }

-- the variables take the values, in order
abbrev pub write_all : Store → List Var → List Value → Store
write_all s [] vs = s
write_all s (x ∷ xs) [] = s
write_all s (x ∷ xs) (v ∷ vs) = write_all (write s x v) xs vs

-- ---- values that differ

abbrev pub same_atom : Atom → Atom → Bool
same_atom (BoolAtom a) (BoolAtom b) = if a then b else not b
same_atom (BoolAtom a) (BvAtom b) = false
same_atom (BvAtom a) (BoolAtom b) = false
same_atom (BvAtom a) (BvAtom b) = nat_eq a.width b.width && nat_eq a.bits b.bits

abbrev pub same_pairs : List (Atom × Atom) → List (Atom × Atom) → Bool
same_pairs [] [] = true
same_pairs [] (q ∷ qs) = false
same_pairs (p ∷ ps) [] = false
same_pairs (p ∷ ps) (q ∷ qs) = same_atom p.0 q.0 && (same_atom p.1 q.1 && same_pairs ps qs)

-- equal values, which have one sort
abbrev pub same_value : Value → Value → Bool
same_value (AtomValue a) (AtomValue b) = same_atom a b
same_value (AtomValue a) (MapValue n) = false
same_value (MapValue m) (AtomValue b) = false
same_value (MapValue m) (MapValue n) = same_scalar m.index n.index && (same_scalar m.elem n.elem && same_pairs m.pairs n.pairs)

-- the constants of these numbers differ from one another
abbrev pub all_differ : List Value → List ℕ → Bool
all_differ consts [] = true
all_differ consts (n ∷ ns) = list_all (λ m. not (same_value (at consts n) (at consts m))) ns && all_differ consts ns
