-- Which text is a value, and of which value. Leading zeros may stand before each number.
use Rattle.std.specs.Prelude.{ℕ, ◌^◌, ◌-◌, true, false, ◌==◌, nat_eq, nat_lt, List, [], ◌∷◌, ◌++◌, length, drop, Option, None, Some, option_map, codes, if◌then◌else◌}
use Rattle.std.specs.List.{starts_with}
use Rattle.std.specs.Option.{option_or, option_zip}
use Rattle.std.specs.Str.{bytes_eq}
use Rattle.hy_val.specs.Maps.{is_map}
use Rattle.hy_val.specs.Table.{Table}
use Rattle.hy_val.specs.declared.atom.Atom.{Atom}
use Rattle.hy_val.specs.declared.atom.AtomKind.TheVariants.{Bool as BoolAtom, Bv as BvAtom}
use Rattle.hy_val.specs.declared.sort.Scalar.{Scalar}
use Rattle.hy_val.specs.declared.sort.ScalarKind.TheVariants.{Bool as BoolSort, Bv as BvSort}
use Rattle.hy_val.specs.declared.value.Value.{Value}
use Rattle.hy_val.specs.declared.value.Value.TheVariants.{Atom as AtomValue, Map as MapValue}
use Rattle.trace_text.specs.Words.{and_then, halves, number_up_to, parts}

-- ---- bits

-- what stands before `bv` and what behind it
abbrev pub around_bv : List ℕ → Option (List ℕ × List ℕ)
around_bv text = and_then (halves 98 text) (λ p. if starts_with nat_eq p.1 (codes "v") then Some (p.0, drop 1 p.1) else None)

-- 1 to 64
abbrev pub width_of : List ℕ → Option ℕ
width_of digits = and_then (number_up_to 64 digits) (λ w. if nat_lt 0 w then Some w else None)

-- the bits of a number, which the width holds
abbrev pub bits_of : List ℕ → Option Atom
bits_of text = and_then (around_bv text) (λ p. and_then (width_of p.1) (λ w. option_map (λ n. BvAtom (record { width = w; bits = n })) (number_up_to (2 ^ w - 1) p.0)))

-- ---- values and sorts without maps

abbrev pub atom_of : List ℕ → Option Atom
atom_of text =
    if bytes_eq text (codes "true") then Some (BoolAtom true)
    else if bytes_eq text (codes "false") then Some (BoolAtom false)
    else bits_of text

-- `bv` and a width, with nothing before
abbrev pub bits_sort : List ℕ → Option Scalar
bits_sort text = and_then (around_bv text) (λ p. if length p.0 == 0 then option_map (λ w. BvSort w) (width_of p.1) else None)

abbrev pub scalar_of : List ℕ → Option Scalar
scalar_of text = if bytes_eq text (codes "bool") then Some BoolSort else bits_sort text

-- ---- maps

-- an index and the entry there, with a colon between them
abbrev pub pair_of : List ℕ → Option (Atom × Atom)
pair_of text = and_then (halves 58 text) (λ p. option_zip (atom_of p.0) (atom_of p.1))

abbrev pub before_pairs : Option (Atom × Atom) → Option (List (Atom × Atom)) → Option (List (Atom × Atom))
before_pairs None more = None
before_pairs (Some pair) more = option_map (λ pairs. pair ∷ pairs) more

-- each text is a pair
abbrev pub each_pair : List (List ℕ) → Option (List (Atom × Atom))
each_pair [] = Some []
each_pair (text ∷ texts) = before_pairs (pair_of text) (each_pair texts)

-- pairs with commas between them
abbrev pub pairs_of : List ℕ → Option (List (Atom × Atom))
pairs_of text = if length text == 0 then Some [] else each_pair (parts 44 text)

-- the map of these pairs, where they have its sorts, ascend by index and aren't zero
abbrev pub map_with : Scalar → Scalar → List (Atom × Atom) → Option Table
map_with index elem pairs = let m : Table = record { index = index; elem = elem; pairs = pairs } in if is_map m then Some m else None

-- the map with the pair that is there behind its own, where it is one
abbrev pub with_one : Table → Option (Atom × Atom) → Option Table
with_one m pair = and_then pair (λ p. map_with m.index m.elem (m.pairs ++ p ∷ []))

-- the texts of the index sort, of the element sort and of the pairs: `[`, the first, `]`, the second, `{`, the third, `}`
abbrev pub map_parts : List ℕ → Option (List ℕ × List ℕ × List ℕ)
map_parts text =
    if starts_with nat_eq text (codes "[")
    then and_then (halves 93 (drop 1 text)) (λ p. and_then (halves 123 p.1) (λ q. and_then (halves 125 q.1) (λ r. if length r.1 == 0 then Some (p.0, q.0, r.0) else None)))
    else None

abbrev pub map_of : List ℕ → Option Table
map_of text =
    and_then (map_parts text) (λ p. and_then (scalar_of p.0) (λ index. and_then (scalar_of p.1) (λ elem. and_then (pairs_of p.2) (λ pairs. map_with index elem pairs))))

-- ---- values

abbrev pub value_of : List ℕ → Option Value
value_of text = option_or (option_map (λ a. AtomValue a) (atom_of text)) (option_map (λ m. MapValue m) (map_of text))
