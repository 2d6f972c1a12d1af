-- What evaluation keeps of the nodes so far, and the values that this stands for. No public clause cites it.
use Rattle.std.specs.Prelude.{◌≡◌, ℕ, ◌<◌, List, [], ◌∷◌, ◌++◌, slice_get, Some, IsTrue}
use Rattle.hy_val.specs.Sorts.{scalar_of, has_scalar}
use Rattle.hy_val.specs.Table.{Table}
use Rattle.hy_val.specs.Maps.{is_map, stored}
use Rattle.hy_val.specs.Values.{at, table_of}
use Rattle.hy_val.specs.Exprs.{variable, read}
use Rattle.hy_val.specs.declared.atom.Atom.{Atom}
use Rattle.hy_val.specs.declared.value.Value.{Value}
use Rattle.hy_val.specs.declared.value.Value.TheVariants.{Atom as AtomValue, Map as MapValue}
use Rattle.hy_val.specs.declared.expr.Var.{Var}
use Rattle.hy_val.specs.declared.expr.Env.{Env}
use Rattle.hy_val.specs.declared.known.Kept.{Kept}
use Rattle.hy_val.specs.declared.known.Known.{Known}
use Rattle.hy_val.specs.declared.known.Kept.TheVariants.{Atom as KeptAtom, Variable, Written}

-- the value that is meant, where those of the nodes before are known
abbrev pub meant : Env → List Value → Kept → Value
meant env known (KeptAtom a) = AtomValue a
meant env known (Variable x) = read env x
meant env known (Written under i v) = MapValue (stored (table_of (at known under)) i v)

-- the values of all nodes, behind those that are known
abbrev pub meant_onto : Env → List Value → List Kept → List Value
meant_onto env known [] = known
meant_onto env known (k ∷ ks) = meant_onto env (known ++ meant env known k ∷ []) ks

-- the variable has this map
pub record HasMap (env : Env) (x : Var) : Type 0 where
  pub map : Table
  pub there : variable env x ≡ Some (MapValue map)
  pub fits : IsTrue (is_map map)

-- a lower node has a map, and the index and the entry have its sorts
pub record Writes (known : List Value) (n under : ℕ) (i v : Atom) : Type 0 where
  pub below : under < n
  pub map : Table
  pub is : at known under ≡ MapValue map
  pub fits : IsTrue (is_map map)
  pub index : IsTrue (has_scalar i map.index)
  pub elem : IsTrue (has_scalar v map.elem)

-- what may be kept of the node number n
abbrev pub MayKeep : Env → List Value → ℕ → Kept → Type 0
MayKeep env known n (KeptAtom a) = IsTrue (has_scalar a (scalar_of a))
MayKeep env known n (Variable x) = HasMap env x
MayKeep env known n (Written under i v) = Writes known n under i v

-- what is kept of the node number n may be, and means the node's value
pub record KeepsAt (env : Env) (values : List Value) (n : ℕ) (k : Kept) : Type 0 where
  pub may : MayKeep env values n k
  pub is : at values n ≡ meant env values k

-- what is kept of each node
pub record Keeps (env : Env) (ks : List Kept) : Type 0 where
  pub each : (n : ℕ) (k : Kept) → slice_get ks n ≡ Some k → KeepsAt env (meant_onto env [] ks) n k

-- the values of the nodes that are known
abbrev pub known_values : Known → List Value
known_values known = meant_onto known.env.now [] known.kept.now

abbrev pub AllKept : Known → Type 0
AllKept known = Keeps known.env.now known.kept.now

-- the map with the entries of these pairs written into it, the last pair first
abbrev pub written : Table → List (Atom × Atom) → Table
written m [] = m
written m (p ∷ ps) = stored (written m ps) p.0 p.1

-- the pairs have these sorts
abbrev pub AllWritable : Table → List (Atom × Atom) → Type 0
AllWritable m [] = Unit {0}
AllWritable m (p ∷ ps) = (IsTrue (has_scalar p.0 m.index) × IsTrue (has_scalar p.1 m.elem)) × AllWritable m ps

-- the map is the variable's, with what the pairs write
pub record Layers (env : Env) (whole : Table) (x : Var) (ps : List (Atom × Atom)) : Type 0 where
  pub map : Table
  pub there : variable env x ≡ Some (MapValue map)
  pub is : whole ≡ written map ps
  pub fit : AllWritable map ps
