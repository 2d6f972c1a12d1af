-- Values from bits.
use Rattle.std.proofs.Common.{◌≡◌, ℕ, ◌-◌, ◌^◌, ◌<◌, ◌≤◌, Bool, true, false, ◌&&◌, List, [], ◌∷◌, ◌++◌, length, map, take, drop, refl, ap, sym, ◌∙◌, subst, arith}
use Rattle.std.specs.Prelude.{◌↔◌, nat_eq, nat_lt, IsTrue}
use Rattle.std.proofs.lemmas.List.{length-take-le, take-append-drop}
use Rattle.std.proofs.lemmas.Bool.Decides.{nat_tests}
use Rattle.std.proofs.Math.ListN.{length-drop}
use Rattle.std.proofs.Math.Nat.{pow-le-pow_right}
use Rattle.hy_val.specs.Sorts.{is_scalar}
use Rattle.hy_val.specs.NodeSorts.{is_sort}
use Rattle.hy_val.specs.Values.{has_sort}
use Rattle.hy_val.specs.declared.sort.ScalarKind.TheVariants.{Bool as BoolSort, Bv as BvSort}
use Rattle.hy_val.specs.declared.sort.Sort.{Sort}
use Rattle.hy_val.specs.declared.sort.SortKind.TheVariants.{Scalar as ScalarSort, Map as MapSort}
use Rattle.hy_val.specs.declared.atom.Atom.{Atom}
use Rattle.hy_val.specs.declared.value.Value.{Value}
use Rattle.hy_val.specs.declared.value.Value.TheVariants.{Atom as AtomValue}
use Rattle.hy_term.specs.Formula.{Formula}
use Rattle.hy_term.specs.TermSorts.{is_scalar_sort}
use Rattle.hy_term.specs.Meaning.{fits, CanHold}
use Rattle.hy_term.specs.Variables.{variables, numbers_of, have_sorts, are_scalars}
use Rattle.hy_term.specs.declared.node.TermVariable.{TermVariable}
use Rattle.gate_net.specs.Net.{value}
use Rattle.gate_net.specs.Encoding.{CanBeTrue}
use Rattle.gate_net.specs.declared.net.Net.{Net}
use Rattle.bit_blast.specs.Words.{number}
use Rattle.bit_blast.specs.Blasted.{sort_width, low_bits, atom_bits, value_bits, input_bits, input_count, assigned, IsNetOf}
use Rattle.bit_blast.specs.Standing.{first_bit, sort_read, atoms_read}
use Rattle.bit_blast.proofs.LowBits.{and_left, and_right, and_both, low-number}
use Rattle.bit_blast.proofs.Numbers.{number-below}
use Rattle.bit_blast.proofs.Carrying.{all_sorted, all_agree, inputs_length}
use Rattle.bit_blast.proofs.Building.{Given}

abbrev AtomRight : Sort → List Bool → Type 0
AtomRight s bs = IsTrue (has_sort (AtomValue (sort_read s bs)) s) × (atom_bits (sort_read s bs) ≡ bs)

bool_right : (bs : List Bool) → length bs ≡ 1 → first_bit bs ∷ [] ≡ bs
bool_right [] h = absurd (omega (arith, h))
bool_right (b ∷ []) h = refl
bool_right (b ∷ c ∷ bs) h = absurd (omega (arith, h))

-- an atom that is read has its sort, and these bits
pub atom_right : (s : Sort) (bs : List Bool) → IsTrue (is_scalar_sort s) → IsTrue (is_sort s) → length bs ≡ sort_width s → AtomRight s bs
atom_right (ScalarSort BoolSort) bs p q h = (refl, bool_right bs h)
atom_right (ScalarSort (BvSort w)) bs p q h =
    let below : number bs < 2 ^ w = subst (λ (n : ℕ). number bs < 2 ^ n) h (number-below bs) in
    let same : nat_eq w w ≡ true = grind (arith, nat_tests) in
    let less : nat_lt (number bs) (2 ^ w) ≡ true = grind (arith, nat_tests, below) in (
      and_both (nat_eq w w && is_scalar (BvSort w)) (nat_lt (number bs) (2 ^ w)) (and_both (nat_eq w w) (is_scalar (BvSort w)) same q) less,
      ap (λ (n : ℕ). low_bits n (number bs)) (sym h) ∙ low-number bs,
    )
atom_right (MapSort i e) bs p q h = absurd (let no : false ≡ true → ⊥ = λ y. cc in no p)

abbrev pub as_values : List Atom → List Value
as_values atoms = map (λ (x : Atom). AtomValue x) atoms

abbrev joined : List Value → List Bool
joined [] = []
joined (v ∷ vs) = value_bits v ++ joined vs

input_joined : (vs : List TermVariable) (a : ℕ → Value) → input_bits vs a ≡ joined (map a (numbers_of vs))
input_joined [] a = refl
input_joined (v ∷ vs) a = ap (λ (r : List Bool). value_bits (a v.number) ++ r) (input_joined vs a)

pub record Read (vs : List TermVariable) (bs : List Bool) : Type 0 where
  pub sorts : IsTrue (have_sorts vs (as_values (atoms_read vs bs)))
  pub bits : joined (as_values (atoms_read vs bs)) ≡ bs

nothing_left : (bs : List Bool) → length bs ≡ 0 → [] ≡ bs
nothing_left [] h = refl
nothing_left (b ∷ bs) h = absurd (omega (arith, h))

pub are_read : (vs : List TermVariable) (bs : List Bool) → IsTrue (are_scalars vs) → length bs ≡ input_count vs → Read vs bs
are_read [] bs p h = record { sorts = refl; bits = nothing_left bs h }
are_read (v ∷ vs) bs p h =
    let w = sort_width v.sort in
    let fine = and_left (is_scalar_sort v.sort && is_sort v.sort) (are_scalars vs) p in
    let front : length (take (sort_width v.sort) bs) ≡ sort_width v.sort = length-take-le (sort_width v.sort) bs (omega (arith, h)) in
    let back : length (drop (sort_width v.sort) bs) ≡ input_count vs = omega (arith, length-drop (sort_width v.sort) bs, h) in
    let one = atom_right v.sort (take (sort_width v.sort) bs) (and_left (is_scalar_sort v.sort) (is_sort v.sort) fine) (and_right (is_scalar_sort v.sort) (is_sort v.sort) fine) front in
    let rest = are_read vs (drop (sort_width v.sort) bs) (and_right (is_scalar_sort v.sort && is_sort v.sort) (are_scalars vs) p) back in
    record {
      sorts = and_both (has_sort (AtomValue (sort_read v.sort (take (sort_width v.sort) bs))) v.sort) (have_sorts vs (as_values (atoms_read vs (drop (sort_width v.sort) bs)))) one.0 rest.sorts;
      bits =
          ap (λ (r : List Bool). r ++ joined (as_values (atoms_read vs (drop (sort_width v.sort) bs)))) one.1
          ∙ ap (λ (r : List Bool). take (sort_width v.sort) bs ++ r) rest.bits
          ∙ take-append-drop (sort_width v.sort) bs;
    }

-- the assignment of the atoms that are read fits, and has these bits
pub record Back (f : Formula) (atoms : List Atom) (bs : List Bool) : Type 0 where
  pub sorts : IsTrue (have_sorts (variables f.nodes) (as_values atoms))
  pub fit : IsTrue (fits (assigned f.nodes atoms) f.nodes)
  pub bits : input_bits (variables f.nodes) (assigned f.nodes atoms) ≡ bs

pub read_right : (f : Formula) (bs : List Bool) → Given f → length bs ≡ input_count (variables f.nodes) → Back f (atoms_read (variables f.nodes) bs) bs
read_right f bs given h =
    let read = are_read (variables f.nodes) bs (given.laws.scalars f.nodes (all_sorted f given.formula).some given.plain) h in
    let two = given.laws.lists f.nodes (as_values (atoms_read (variables f.nodes) bs)) (all_agree f given.formula) read.sorts in
    record {
      sorts = read.sorts;
      fit = two.0;
      bits = input_joined (variables f.nodes) (assigned f.nodes (atoms_read (variables f.nodes) bs)) ∙ ap joined two.1 ∙ read.bits;
    }

-- the root can be true exactly where the terms can hold
pub can_both : (f : Formula) (net : Net) → Given f → IsNetOf f net → CanBeTrue net.inputs net.gates.items net.root ↔ CanHold f
can_both f net given is = (
  λ t.
      let back = read_right f t.0 given (t.1 ∙ is.inputs) in
      let a = assigned f.nodes (atoms_read (variables f.nodes) t.0) in (
        assigned f.nodes (atoms_read (variables f.nodes) t.0),
        back.fit,
        sym (is.means (assigned f.nodes (atoms_read (variables f.nodes) t.0)) back.fit) ∙ ap (λ (ins : List Bool). value ins net.gates.items net.root) back.bits ∙ t.2,
      ),
  λ t. (input_bits (variables f.nodes) t.0, inputs_length given.laws f t.0 given.formula given.plain t.1 ∙ sym is.inputs, is.means t.0 t.1 ∙ t.2),
)

-- the number of the highest i bits of at most 64, where there is one more
pub high_bits : (bs : List Bool) (i : ℕ) → i < length bs → length bs ≤ 64 → number (drop (length bs - i) bs) < 2 ^ 63
high_bits bs i less most =
    let many : length (drop (length bs - i) bs) ≡ i = omega (arith, length-drop (length bs - i) bs, less) in
    let below : number (drop (length bs - i) bs) < 2 ^ i = subst (λ (n : ℕ). number (drop (length bs - i) bs) < 2 ^ n) many (number-below (drop (length bs - i) bs)) in
    let some : 0 < 2 = omega arith in
    let few : i ≤ 63 = omega (arith, less, most) in
    let top : 2 ^ i ≤ 2 ^ 63 = pow-le-pow_right some few in
    omega (arith, below, top)
