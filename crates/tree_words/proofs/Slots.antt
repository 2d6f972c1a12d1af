-- The nodes that are reached, and their numbers among them.
use Rattle.std.proofs.Common.{◌≡◌, ℕ, zero, suc, ◌+◌, ◌<◌, ◌≤◌, Bool, true, false, List, [], ◌∷◌, ◌++◌, length, length-append, refl, sym, ap, ◌∙◌, subst, arith, ◌⊎◌, ⊎_elim, true≢false}
use Rattle.std.specs.Prelude.{Some, slice_get, slice_index, if◌then◌else◌}
use Rattle.std.proofs.lemmas.Bool.{and_from, cases_lt}
use Rattle.std.proofs.lemmas.Option.{slice_get_within}
use Rattle.std.specs.List.{list_all}
use Rattle.hy_val.proofs.Lists.{slice_get-left, slice_get-seam}
use Rattle.flat_prog.specs.Nodes.{is_child, nodes_fit}
use Rattle.flat_prog.specs.declared.run.RunNode.{RunNode}
use Rattle.tree_terms.proofs.Parts.{index_left, index_last}
use Rattle.tree_words.specs.Reading.{slot, slots_to, nodes_to}

-- nodes fit where each does
pub fit_each : (number high : ℕ) (nodes : List RunNode) → ((k : ℕ) (n : RunNode) → slice_get nodes k ≡ Some n → list_all (is_child (number + k) high) n.children ≡ true) → nodes_fit number high nodes ≡ true
fit_each number high [] each = refl
fit_each number high (m ∷ nodes) each =
    let z : number + 0 ≡ number = omega arith in
    and_from (list_all (is_child number high) m.children) (nodes_fit (number + 1) high nodes)
    (subst (λ (k : ℕ). list_all (is_child k high) m.children ≡ true) z (each 0 m refl))
    (fit_each (number + 1) high nodes (λ k n is. let e : number + suc k ≡ (number + 1) + k = omega arith in subst (λ (j : ℕ). list_all (is_child j high) n.children ≡ true) e (each (suc k) n is)))

module _ (r : ℕ → Bool) where
  slot_next : (m : ℕ) → r m ≡ true → slot r (suc m) ≡ suc (slot r m)
  slot_next m on = ap (λ (b : Bool). if b then suc (slot r m) else slot r m) on

  slot_step : (b : Bool) (k : ℕ) → k ≤ (if b then suc k else k)
  slot_step true k = omega arith
  slot_step false k = omega arith

  pub slot_less : (m n : ℕ) → m < n → r m ≡ true → slot r m < slot r n
  slot_less m zero l on = absurd (omega (arith, l))
  slot_less m (suc n) l on = ⊎_elim
      (λ low. let ih = slot_less m n low on in let s = slot_step (r n) (slot r n) in omega (arith, ih, s))
      (λ high. let e : m ≡ n = omega (arith, high, l) in
      subst (λ (k : ℕ). slot r m < slot r (suc k)) e (let s = slot_next m on in omega (arith, s))) (cases_lt m n)

  slots_count : (n : ℕ) → length (slots_to r n) ≡ n
  slots_count zero = refl
  slots_count (suc n) = length-append (slots_to r n) (slot r n ∷ []) ∙ (let e = slots_count n in omega (arith, e))

  pub slots_index : (n m : ℕ) → m < n → slice_index (slots_to r n) m ≡ slot r m
  slots_index zero m l = absurd (omega (arith, l))
  slots_index (suc n) m l = ⊎_elim
      (λ low. index_left (slots_to r n) (slot r n ∷ []) m (let c = slots_count n in omega (arith, low, c)) ∙ slots_index n m low)
      (λ high.
      let e : m ≡ n = omega (arith, high, l) in
      let z : m ≡ length (slots_to r n) = let c = slots_count n in omega (arith, e, c) in
      ap (slice_index (slots_to r n ++ slot r n ∷ [])) z ∙ (index_last (slots_to r n) (slot r n) ∙ ap (slot r) (sym e))) (cases_lt m n)

  module _ (node : ℕ → RunNode) where
    pub nodes_count : (n : ℕ) → length (nodes_to r node n) ≡ slot r n
    nodes_count zero = refl
    nodes_count (suc n) = by_on (r n) (nodes_count n)
      where
        by_on : (b : Bool) → length (nodes_to r node n) ≡ slot r n → length (if b then nodes_to r node n ++ node n ∷ [] else nodes_to r node n) ≡ (if b then suc (slot r n) else slot r n)
        by_on true ih = length-append (nodes_to r node n) (node n ∷ []) ∙ omega (arith, ih)
        by_on false ih = ih

    pub nodes_get : (n m : ℕ) → m < n → r m ≡ true → slice_get (nodes_to r node n) (slot r m) ≡ Some (node m)
    nodes_get zero m l on = absurd (omega (arith, l))
    nodes_get (suc n) m l on = by_on (r n) refl (cases_lt m n) (λ low. nodes_get n m low on) (λ low. slot_less m n low on) (nodes_count n)
      where
        by_on : (b : Bool) → r n ≡ b → (m < n) ⊎ (n ≤ m) → (m < n → slice_get (nodes_to r node n) (slot r m) ≡ Some (node m)) → (m < n → slot r m < slot r n) → length (nodes_to r node n) ≡ slot r n
            → slice_get (if b then nodes_to r node n ++ node n ∷ [] else nodes_to r node n) (slot r m) ≡ Some (node m)
        by_on true is o ih less c = ⊎_elim
            (λ low. slice_get-left (nodes_to r node n) (node n ∷ []) (slot r m) (let s = less low in omega (arith, s, c)) ∙ ih low)
            (λ high.
            let e : m ≡ n = omega (arith, high, l) in
            let z : slot r m ≡ length (nodes_to r node n) = ap (slot r) e ∙ sym c in
            ap (slice_get (nodes_to r node n ++ node n ∷ [])) z ∙ (slice_get-seam (nodes_to r node n) (node n) ∙ ap (λ (k : ℕ). Some (node k)) (sym e))) o
        by_on false is o ih less c = ⊎_elim ih (λ high. let e : m ≡ n = omega (arith, high, l) in absurd (true≢false (sym on ∙ (ap r e ∙ is)))) o

    pub record IsOf (n k : ℕ) (x : RunNode) : Type 0 where
      pub m : ℕ
      pub low : m < n
      pub on : r m ≡ true
      pub at : k ≡ slot r m
      pub is : node m ≡ x

    some_same : (x y : RunNode) → Some x ≡ Some y → x ≡ y
    some_same x y e = cc

    later : (n k : ℕ) (x : RunNode) → IsOf n k x → IsOf (suc n) k x
    later n k x w = record { m = w.m; low = omega (arith, w.low); on = w.on; at = w.at; is = w.is }

    -- each is of a node that is reached
    pub nodes_of : (n k : ℕ) (x : RunNode) → slice_get (nodes_to r node n) k ≡ Some x → IsOf n k x
    nodes_of zero k x is = cc
    nodes_of (suc n) k x is = by_on (r n) refl is (λ h. later n k x (nodes_of n k x h)) (nodes_count n)
      where
        by_on : (b : Bool) → r n ≡ b → slice_get (if b then nodes_to r node n ++ node n ∷ [] else nodes_to r node n) k ≡ Some x
            → (slice_get (nodes_to r node n) k ≡ Some x → IsOf (suc n) k x) → length (nodes_to r node n) ≡ slot r n → IsOf (suc n) k x
        by_on false e h ih c = ih h
        by_on true e h ih c = ⊎_elim
            (λ low. ih (sym (slice_get-left (nodes_to r node n) (node n ∷ []) k low) ∙ h))
            (λ high.
            let w = slice_get_within (nodes_to r node n ++ node n ∷ []) k x h in
            let len = length-append (nodes_to r node n) (node n ∷ []) in
            let z : k ≡ length (nodes_to r node n) = omega (arith, w, len, high) in
            record { m = n; low = omega arith; on = e; at = z ∙ c; is = some_same (node n) x (sym (ap (slice_get (nodes_to r node n ++ node n ∷ [])) z ∙ slice_get-seam (nodes_to r node n) (node n)) ∙ h) })
            (cases_lt k (length (nodes_to r node n)))
