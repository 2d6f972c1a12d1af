-- Unique constants, each looked for among those seen before. No public clause cites it.
use Rattle.std.specs.Prelude.{◌≡◌, ℕ, ◌+◌, Bool, true, false, not, ◌&&◌, ◌||◌, List, drop, ⊤, if◌then◌else◌}
use Rattle.std.specs.BTreeSet.{BTreeSet, contains}
use Rattle.std.specs.List.{list_all}
use Rattle.std.specs.Ordering.{nat_cmp, ordering_then}
use Rattle.std.specs.declared.cmp.Ordering.{Ordering}
use Rattle.hy_val.specs.Stores.{same_atom, all_differ}
use Rattle.hy_val.specs.Values.{at}
use Rattle.hy_val.specs.declared.atom.Atom.{Atom}
use Rattle.hy_val.specs.declared.atom.AtomKind.TheVariants.{Bool as BoolAtom, Bv as BvAtom}
use Rattle.hy_val.specs.declared.value.Value.{Value}
use Rattle.hy_val.specs.declared.value.Value.TheVariants.{Atom as AtomValue, Map as MapValue}

-- a pair of numbers for each value without maps, which no other one has
abbrev pub key_of : Atom → ℕ × ℕ
key_of (BoolAtom b) = (0, if b then 1 else 0)
key_of (BvAtom word) = (word.width + 1, word.bits)

-- pairs by their first number, and where that is the same by their second
abbrev pub pair_cmp : ℕ × ℕ → ℕ × ℕ → Ordering
pair_cmp x y = ordering_then (nat_cmp x.0 y.0) (nat_cmp x.1 y.1)

abbrev pub was_seen : BTreeSet (ℕ × ℕ) → Atom → Bool
was_seen seen atom = contains pair_cmp seen (key_of atom)

-- the value wasn't among those seen, and now it is too
abbrev pub Adds : Atom → (before now : BTreeSet (ℕ × ℕ)) → (new : Bool) → Type 0
Adds atom before now new = (new ≡ not (was_seen before atom)) × ((other : Atom) → was_seen now other ≡ (same_atom atom other || was_seen before other))

abbrev pub IsMap : Value → Type 0
IsMap (AtomValue atom) = ⊥
IsMap (MapValue map) = ⊤

-- a value without maps is none of those seen
abbrev pub is_unseen : BTreeSet (ℕ × ℕ) → Value → Bool
is_unseen seen (AtomValue atom) = not (was_seen seen atom)
is_unseen seen (MapValue map) = true

-- the constants of these numbers differ from those seen and from one another
abbrev pub all_left_differ : List Value → List ℕ → BTreeSet (ℕ × ℕ) → Bool
all_left_differ consts numbers seen = list_all (λ n. is_unseen seen (at consts n)) numbers && all_differ consts numbers

-- where the first one differs, they do if the others differ; else they don't
abbrev pub Steps : List Value → List ℕ → (before now : BTreeSet (ℕ × ℕ)) → (differs : Bool) → Type 0
Steps consts numbers before now true = all_left_differ consts (drop 1 numbers) now ≡ all_left_differ consts numbers before
Steps consts numbers before now false = all_left_differ consts numbers before ≡ false
