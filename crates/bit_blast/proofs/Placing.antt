-- Where the bits of variables stand among the inputs.
use Rattle.std.proofs.Common.{◌≡◌, ℕ, zero, suc, ◌+◌, ◌<◌, ◌≤◌, true, false, ◌&&◌, List, [], ◌∷◌, ◌++◌, length, map, take, drop, get_or, refl, ap, sym, ◌∙◌, subst, arith, length-append}
use Rattle.std.specs.Prelude.{None, Some, slice_get, IsTrue}
use Rattle.std.proofs.Math.Seq.{take-append_seam, drop-append-add}
use Rattle.hy_val.specs.NodeSorts.{is_sort}
use Rattle.hy_val.specs.Values.{has_sort}
use Rattle.hy_val.specs.declared.sort.Sort.{Sort}
use Rattle.hy_val.specs.declared.sort.SortKind.TheVariants.{Scalar as ScalarSort, Map as MapSort}
use Rattle.hy_val.specs.declared.value.Value.{Value}
use Rattle.hy_val.specs.declared.value.Value.TheVariants.{Atom as AtomValue, Map as MapValue}
use Rattle.hy_term.specs.TermSorts.{is_scalar_sort}
use Rattle.hy_term.specs.Variables.{numbers_of, have_sorts, are_scalars}
use Rattle.hy_term.specs.declared.node.TermVariable.{TermVariable}
use Rattle.bit_blast.specs.Blasted.{scalar_width, sort_width, value_bits, input_bits, input_count, InputsOfVariables}
use Rattle.bit_blast.specs.Standing.{starts_from}
use Rattle.bit_blast.proofs.LowBits.{and_left, and_right, length-atom, scalar_is}

never : (P : Type 0) → false ≡ true → P
never P h = absurd (let no : false ≡ true → ⊥ = λ y. cc in no h)

-- ---- how many bits

pub value_width : (v : Value) (s : Sort) → IsTrue (is_scalar_sort s) → IsTrue (has_sort v s) → length (value_bits v) ≡ sort_width s
value_width (AtomValue x) (ScalarSort s) p h = length-atom x ∙ ap scalar_width (scalar_is x s h)
value_width (AtomValue x) (MapSort i e) p h = never (length (value_bits (AtomValue x)) ≡ 0) p
value_width (MapValue m) (ScalarSort s) p h = never (length (value_bits (MapValue m)) ≡ scalar_width s) h
value_width (MapValue m) (MapSort i e) p h = never (length (value_bits (MapValue m)) ≡ 0) p

-- the first of the variables
pub record First (v : TermVariable) (vs : List TermVariable) (a : ℕ → Value) : Type 0 where
  pub width : length (value_bits (a v.number)) ≡ sort_width v.sort
  pub scalars : IsTrue (are_scalars vs)
  pub sorts : IsTrue (have_sorts vs (map a (numbers_of vs)))

pub first : (v : TermVariable) (vs : List TermVariable) (a : ℕ → Value) → IsTrue (are_scalars (v ∷ vs)) → IsTrue (have_sorts (v ∷ vs) (map a (numbers_of (v ∷ vs)))) → First v vs a
first v vs a p h = record {
  width = value_width (a v.number) v.sort (and_left (is_scalar_sort v.sort) (is_sort v.sort) (and_left (is_scalar_sort v.sort && is_sort v.sort) (are_scalars vs) p))
      (and_left (has_sort (a v.number) v.sort) (have_sorts vs (map a (numbers_of vs))) h);
  scalars = and_right (is_scalar_sort v.sort && is_sort v.sort) (are_scalars vs) p;
  sorts = and_right (has_sort (a v.number) v.sort) (have_sorts vs (map a (numbers_of vs))) h;
}

pub length-inputs : (vs : List TermVariable) (a : ℕ → Value) → IsTrue (are_scalars vs) → IsTrue (have_sorts vs (map a (numbers_of vs))) → length (input_bits vs a) ≡ input_count vs
length-inputs [] a p h = refl
length-inputs (v ∷ vs) a p h =
    let f : First v vs a = first v vs a p h in
    omega (arith, length-append (value_bits (a v.number)) (input_bits vs a), f.width, length-inputs vs a f.scalars f.sorts)

pub inputs_of : InputsOfVariables
inputs_of [] a i v p h at = absurd (let no : None ≡ Some v → ⊥ = λ y. cc in no at)
inputs_of (u ∷ vs) a zero v p h at =
    let f : First u vs a = first u vs a p h in
    let same : u ≡ v = cc in
    subst (λ (w : TermVariable). take (sort_width w.sort) (input_bits (u ∷ vs) a) ≡ value_bits (a w.number)) same
    (ap (λ (n : ℕ). take n (value_bits (a u.number) ++ input_bits vs a)) (sym f.width) ∙ take-append_seam (value_bits (a u.number)) (input_bits vs a))
inputs_of (u ∷ vs) a (suc i) v p h at =
    let f : First u vs a = first u vs a p h in
    ap (λ (n : ℕ). take (sort_width v.sort) (drop (n + input_count (take i vs)) (value_bits (a u.number) ++ input_bits vs a))) (sym f.width)
    ∙ ap (take (sort_width v.sort)) (drop-append-add (value_bits (a u.number)) (input_bits vs a) (input_count (take i vs)))
    ∙ inputs_of vs a i v f.scalars f.sorts at

-- ---- where they begin

pub record Begins (vs : List TermVariable) (from i : ℕ) (v : TermVariable) : Type 0 where
  pub there : i < length (starts_from from vs)
  pub at : get_or (starts_from from vs) i 0 ≡ from + input_count (take i vs)
  pub within : input_count (take i vs) + sort_width v.sort ≤ input_count vs

pub begins : (vs : List TermVariable) (from i : ℕ) (v : TermVariable) → slice_get vs i ≡ Some v → Begins vs from i v
begins [] from i v at = absurd (let no : None ≡ Some v → ⊥ = λ y. cc in no at)
begins (u ∷ vs) from zero v at =
    let same : u ≡ v = cc in
    let width : sort_width u.sort ≡ sort_width v.sort = ap (λ (w : TermVariable). sort_width w.sort) same in
    record { there = omega arith; at = omega arith; within = omega (arith, width) }
begins (u ∷ vs) from (suc i) v at =
    let b : Begins vs (from + sort_width u.sort) i v = begins vs (from + sort_width u.sort) i v at in
    record { there = omega (arith, b.there); at = omega (arith, b.at); within = omega (arith, b.within) }
