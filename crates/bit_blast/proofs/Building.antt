-- One node after the other.
use Rattle.std.proofs.Common.{◌≡◌, ℕ, zero, suc, ◌+◌, ◌*◌, ◌<◌, ◌⊎◌, inl, inr, Bool, true, false, List, [], ◌∷◌, ◌++◌, length, drop, refl, ap, sym, ◌∙◌, subst, arith}
use Rattle.std.specs.Prelude.{None, Some, slice_get, IsTrue}
use Rattle.hy_val.specs.Values.{has_sort, is_on}
use Rattle.hy_val.specs.declared.sort.ScalarKind.TheVariants.{Bool as BoolSort, Bv as BvSort}
use Rattle.hy_val.specs.declared.sort.Sort.{Sort}
use Rattle.hy_val.specs.declared.sort.SortKind.TheVariants.{Scalar as ScalarSort, Map as MapSort}
use Rattle.hy_val.specs.declared.atom.AtomKind.TheVariants.{Bool as BoolAtom, Bv as BvAtom}
use Rattle.hy_val.specs.declared.value.Value.{Value}
use Rattle.hy_val.specs.declared.value.Value.TheVariants.{Atom as AtomValue, Map as MapValue}
use Rattle.std.specs.Prelude.{Option, get_or}
use Rattle.hy_term.specs.Formula.{Formula}
use Rattle.hy_term.specs.TermSorts.{sort_at, agree_onto, is_bool, is_formula, are_plain}
use Rattle.hy_term.specs.Meaning.{fits, value, holds}
use Rattle.hy_term.specs.Variables.{variables}
use Rattle.hy_term.specs.declared.node.TermNode.{TermNode}
use Rattle.gate_net.specs.declared.net.Net.{Net}
use Rattle.bit_blast.specs.Words.{carried, bits, Grows}
use Rattle.bit_blast.specs.Blasted.{value_bits, input_bits, input_count, reach, gates_from}
use Rattle.bit_blast.specs.Standing.{TermLaws, CarriesNode, HasConstants, Stands}
use Rattle.bit_blast.proofs.Growing.{bits_stay, word_stays}
use Rattle.bit_blast.proofs.LowBits.{and_left}
use Rattle.bit_blast.proofs.Carrying.{inputs_length}

-- ---- gates

gates-next : (nodes all : List TermNode) (n k : ℕ) (node : TermNode) → slice_get all k ≡ Some node
    → gates_from nodes (n + k) (drop k all) ≡ 64 * (reach nodes (n + k) node * reach nodes (n + k) node) + gates_from nodes (suc (n + k)) (drop (suc k) all)
gates-next nodes [] n k node at = absurd (let no : None ≡ Some node → ⊥ = λ y. cc in no at)
gates-next nodes (first ∷ all) n zero node at =
    let same : first ≡ node = cc in
    ap (λ (m : TermNode). 64 * (reach nodes (n + zero) m * reach nodes (n + zero) m) + gates_from nodes (suc (n + zero)) all) same
gates-next nodes (first ∷ all) n (suc k) node at =
    let place : suc n + k ≡ n + suc k = omega arith in
    subst (λ (m : ℕ). gates_from nodes m (drop k all) ≡ 64 * (reach nodes m node * reach nodes m node) + gates_from nodes (suc m) (drop (suc k) all)) place
    (gates-next nodes all (suc n) k node at)

-- the node k leaves the gates of the rest
pub gates_next : (nodes : List TermNode) (k : ℕ) (node : TermNode) → slice_get nodes k ≡ Some node
    → gates_from nodes k (drop k nodes) ≡ 64 * (reach nodes k node * reach nodes k node) + gates_from nodes (k + 1) (drop (k + 1) nodes)
gates_next nodes k node at =
    let place : 0 + k ≡ k = omega arith in
    let next : suc k ≡ k + 1 = omega arith in
    subst (λ (m : ℕ). gates_from nodes k (drop k nodes) ≡ 64 * (reach nodes k node * reach nodes k node) + gates_from nodes m (drop m nodes)) next
    (subst (λ (m : ℕ). gates_from nodes m (drop k nodes) ≡ 64 * (reach nodes m node * reach nodes m node) + gates_from nodes (suc m) (drop (suc k) nodes)) place
    (gates-next nodes nodes 0 k node at))

-- ---- what stands stays

constants_stay : (net net' : Net) (n : ℕ) → Grows net net' n → HasConstants net → HasConstants net'
constants_stay net net' n g h = record {
  there = omega (arith, g.more, h.there);
  never = λ ins e.
      let old : length ins ≡ net.inputs = e ∙ g.inputs in
      ap (carried ins net') g.inputs ∙ g.kept ins old net.inputs (omega (arith, h.there)) ∙ h.never ins old;
  always = λ ins e.
      let old : length ins ≡ net.inputs = e ∙ g.inputs in
      ap (λ (m : ℕ). carried ins net' (m + 1)) g.inputs ∙ g.kept ins old (net.inputs + 1) (omega (arith, h.there)) ∙ h.always ins old;
}

-- what the proofs need of the terms
pub record Given (f : Formula) : Type 0 where
  pub laws : TermLaws
  pub formula : IsTrue (is_formula f)
  pub plain : IsTrue (are_plain f.nodes)

carries_stay : (f : Formula) (net net' : Net) (n k : ℕ) (ws : List ℕ) → Given f → net.inputs ≡ input_count (variables f.nodes) → Grows net net' n → CarriesNode f.nodes net k ws → CarriesNode f.nodes net' k ws
carries_stay f net net' n k ws given inputs g h = record {
  wires = word_stays ws g h.wires;
  some = h.some;
  narrow = h.narrow;
  means = λ a fit. bits_stay (input_bits (variables f.nodes) a) ws g (inputs_length given.laws f a given.formula given.plain fit ∙ sym inputs) h.wires.there ∙ h.means a fit;
}

push_cases : (words : List (List ℕ)) (ws us : List ℕ) (j : ℕ) → slice_get (words ++ ws ∷ []) j ≡ Some us → (slice_get words j ≡ Some us) ⊎ ((j ≡ length words) × (us ≡ ws))
push_cases [] ws us zero h = let same : us ≡ ws = cc in inr (refl, same)
push_cases [] ws us (suc j) h = absurd (let no : None ≡ Some us → ⊥ = λ y. cc in no h)
push_cases (w ∷ words) ws us zero h = inl h
push_cases (w ∷ words) ws us (suc j) h =
    elim (push_cases words ws us j h) [ inl x ↦ inl x | inr x ↦ inr (ap suc x.0, x.1) ]

pub stands_push : (f : Formula) (net net' : Net) (n : ℕ) (words : List (List ℕ)) (ws : List ℕ) → Given f → Grows net net' n → Stands f.nodes net words → CarriesNode f.nodes net' (length words) ws
    → Stands f.nodes net' (words ++ ws ∷ [])
stands_push f net net' n words ws given g h new = record {
  inputs = g.inputs ∙ h.inputs;
  constants = constants_stay net net' n g h.constants;
  each = λ j us at. elim (push_cases words ws us j at) [
    | inl x ↦ carries_stay f net net' n j us given h.inputs g (h.each j us x)
    | inr x ↦ subst (λ (i : ℕ). CarriesNode f.nodes net' i us) (sym x.0) (subst (λ (l : List ℕ). CarriesNode f.nodes net' (length words) l) (sym x.1) new)
  ];
}

pub stands_first : (f : Formula) (net : Net) → net.inputs ≡ input_count (variables f.nodes) → HasConstants net → Stands f.nodes net []
stands_first f net inputs constants = record {
  inputs = inputs;
  constants = constants;
  each = λ j us at. absurd (let no : None ≡ Some us → ⊥ = λ y. cc in no at);
}

-- ---- the root

bool_sort : (o : Option Sort) → IsTrue (is_bool o) → o ≡ Some (ScalarSort BoolSort)
bool_sort None h = absurd (let no : false ≡ true → ⊥ = λ y. cc in no h)
bool_sort (Some (ScalarSort BoolSort)) h = refl
bool_sort (Some (ScalarSort (BvSort w))) h = absurd (let no : false ≡ true → ⊥ = λ y. cc in no h)
bool_sort (Some (MapSort i e)) h = absurd (let no : false ≡ true → ⊥ = λ y. cc in no h)

one_bit : (v : Value) (b : Bool) (bs : List Bool) → IsTrue (has_sort v (ScalarSort BoolSort)) → b ∷ bs ≡ value_bits v → b ≡ is_on v
one_bit (AtomValue (BoolAtom x)) b bs h is = cc
one_bit (AtomValue (BvAtom x)) b bs h is = absurd (let no : false ≡ true → ⊥ = λ y. cc in no h)
one_bit (MapValue m) b bs h is = absurd (let no : false ≡ true → ⊥ = λ y. cc in no h)

first_of : (ins : List Bool) (net : Net) (ws : List ℕ) (d : ℕ) (v : Value) → 0 < length ws → IsTrue (has_sort v (ScalarSort BoolSort)) → bits ins net ws ≡ value_bits v → carried ins net (get_or ws 0 d) ≡ is_on v
first_of ins net [] d v some h is = absurd (omega (arith, some))
first_of ins net (w ∷ ws) d v some h is = one_bit v (carried ins net w) (bits ins net ws) h is

pub root_carries : (f : Formula) (net : Net) (ws : List ℕ) (d : ℕ) → Given f → CarriesNode f.nodes net f.root ws
    → (a : ℕ → Value) → IsTrue (fits a f.nodes) → carried (input_bits (variables f.nodes) a) net (get_or ws 0 d) ≡ holds a f
root_carries f net ws d given h a fit =
    let sort : sort_at f.nodes f.root ≡ Some (ScalarSort BoolSort) = bool_sort (sort_at f.nodes f.root) (and_left (is_bool (sort_at f.nodes f.root)) (agree_onto [] f.nodes) given.formula) in
    first_of (input_bits (variables f.nodes) a) net ws d (value a f.nodes f.root) h.some (given.laws.typed a f.nodes f.root (ScalarSort BoolSort) fit sort) (h.means a fit)
