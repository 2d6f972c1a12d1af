-- What satisfies the clauses of all gates is what the wires carry.
use Rattle.std.proofs.Common.{◌≡◌, ℕ, zero, suc, ◌+◌, ◌<◌, ◌≤◌, ◌↔◌, Bool, true, false, List, [], ◌∷◌, ◌++◌, length, get_or, take, refl, ap, sym, ◌∙◌, subst, arith, length-append}
use Rattle.std.proofs.lemmas.List.{take_more, length-take-le}
use Rattle.cnf_form.specs.Literal.{Satisfies, Satisfiable}
use Rattle.gate_net.specs.Net.{wire, gate_value, values, value, is_lower}
use Rattle.gate_net.specs.Encoding.{Ties, Encodes, IsRunOf, CanBeTrue, SatisfiableWith}
use Rattle.gate_net.specs.declared.net.NetGate.{NetGate}
use Rattle.gate_net.proofs.Wires.{values-push, length-values, values_front, gate_same}

wire-take : (vs : List Bool) (n k : ℕ) → k < n → wire (take n vs) k ≡ wire vs k
wire-take vs zero k h = absurd (omega arith)
wire-take [] (suc n) k h = refl
wire-take (x ∷ xs) (suc n) zero h = refl
wire-take (x ∷ xs) (suc n) (suc k) h = wire-take xs n k (omega arith)

module _ {A : Type 0} where
  take_whole : (xs : List A) (n : ℕ) → length xs ≤ n → take n xs ≡ xs
  take_whole [] zero h = refl
  take_whole [] (suc n) h = refl
  take_whole (x ∷ xs) zero h = absurd (omega arith)
  take_whole (x ∷ xs) (suc n) h = ap (λ (r : List A). x ∷ r) (take_whole xs n (omega arith))

  take_front : (xs ys : List A) (n : ℕ) → n ≤ length xs → take n (xs ++ ys) ≡ take n xs
  take_front xs ys zero h = refl
  take_front [] ys (suc n) h = absurd (omega arith)
  take_front (x ∷ xs) ys (suc n) h = ap (λ (r : List A). x ∷ r) (take_front xs ys n (omega arith))

  snoc_front : (xs ys : List A) (x y : A) → length xs ≡ length ys → xs ++ x ∷ [] ≡ ys ++ y ∷ [] → xs ≡ ys
  snoc_front xs ys x y e h =
      sym (front xs x) ∙ ap (take (length xs)) h ∙ ap (λ (n : ℕ). take n (ys ++ y ∷ [])) e ∙ front ys y
    where
      front : (zs : List A) (z : A) → take (length zs) (zs ++ z ∷ []) ≡ zs
      front zs z = take_front zs (z ∷ []) (length zs) (omega arith) ∙ take_whole zs (length zs) (omega arith)

snoc_last : (xs ys : List Bool) (x y : Bool) → length xs ≡ length ys → xs ++ x ∷ [] ≡ ys ++ y ∷ [] → x ≡ y
snoc_last xs ys x y e h = sym (last xs x) ∙ ap (λ (l : List Bool). wire l (length xs)) h ∙ ap (λ (n : ℕ). wire (ys ++ y ∷ []) n) e ∙ last ys y
  where
    last : (zs : List Bool) (z : Bool) → wire (zs ++ z ∷ []) (length zs) ≡ z
    last [] z = refl
    last (w ∷ zs) z = last zs z

-- the values that are given stand first
take-values : (vs : List Bool) (gs : List NetGate) (n : ℕ) → n ≤ length vs → take n (values vs gs) ≡ take n vs
take-values vs [] n h = refl
take-values vs (g ∷ gs) n h =
    take-values (vs ++ gate_value vs g ∷ []) gs n (omega (arith, length-append vs (gate_value vs g ∷ []))) ∙ take_front vs (gate_value vs g ∷ []) n h

-- what satisfies the clauses of the first i gates
abbrev pub EncodesFirst : ℕ → List NetGate → ℕ → ℕ → List (List ℕ) → Type 0
EncodesFirst inputs gates i variables clauses =
    (v : List Bool) → length v ≡ variables → Satisfies v clauses ↔ (take (inputs + i) v ≡ values (take inputs v) (take i gates))

pub none_encoded : (inputs : ℕ) (gates : List NetGate) (variables : ℕ) (clauses : List (List ℕ)) → clauses ≡ [] → EncodesFirst inputs gates 0 variables clauses
none_encoded inputs gates variables clauses none v e = (
  (λ s. let z : inputs + 0 ≡ inputs = omega arith in ap (λ (n : ℕ). take n v) z),
  (λ h. subst (Satisfies v) (sym none) tt),
)

-- one more gate
module _ (inputs : ℕ) (gates : List NetGate) (i : ℕ) (g : NetGate) (within : i < length gates) (is : g ≡ get_or gates i g) (lower : is_lower (inputs + i) g ≡ true)
    (variables : ℕ) (old new : List (List ℕ)) (size : variables ≡ inputs + length gates) (so_far : EncodesFirst inputs gates i variables old)
    (ties : Ties old new (λ v. wire v (inputs + i) ≡ gate_value v g)) (v : List Bool) (e : length v ≡ variables) where
  abbrev before : List Bool
  before = values (take inputs v) (take i gates)

  before_length : length before ≡ inputs + i
  before_length = omega (arith, length-values (take inputs v) (take i gates), length-take-le inputs v (omega (arith, e, size)), length-take-le i gates (omega (arith, within)))

  front_length : length (take (inputs + i) v) ≡ inputs + i
  front_length = length-take-le (inputs + i) v (omega (arith, e, size, within))

  one_wire : take (inputs + (i + 1)) v ≡ take (inputs + i) v ++ wire v (inputs + i) ∷ []
  one_wire =
      let n : inputs + (i + 1) ≡ inputs + i + 1 = omega arith in
      ap (λ (k : ℕ). take k v) n ∙ take_more v (inputs + i) false (omega (arith, e, size, within))

  one_value : values (take inputs v) (take (i + 1) gates) ≡ before ++ gate_value before g ∷ []
  one_value =
      ap (values (take inputs v)) (take_more gates i g within ∙ ap (λ (x : NetGate). take i gates ++ x ∷ []) (sym is))
      ∙ values-push (take inputs v) (take i gates) g

  -- the gate looks at lower wires alone
  carried : take (inputs + i) v ≡ before → gate_value v g ≡ gate_value before g
  carried run = gate_same (inputs + i) v before g lower (λ k h. sym (wire-take v (inputs + i) k h) ∙ ap (λ (l : List Bool). wire l k) run)

  forth : Satisfies v new → take (inputs + (i + 1)) v ≡ values (take inputs v) (take (i + 1) gates)
  forth s =
      let t = (ties v).0 s in
      let run = (so_far v e).0 t.0 in
      one_wire
      ∙ ap (λ (l : List Bool). l ++ wire v (inputs + i) ∷ []) run
      ∙ ap (λ (b : Bool). before ++ b ∷ []) (t.1 ∙ carried run)
      ∙ sym one_value

  back : take (inputs + (i + 1)) v ≡ values (take inputs v) (take (i + 1) gates) → Satisfies v new
  back h =
      let both : take (inputs + i) v ++ wire v (inputs + i) ∷ [] ≡ before ++ gate_value before g ∷ [] = sym one_wire ∙ h ∙ one_value in
      let same : length (take (inputs + i) v) ≡ length before = front_length ∙ sym before_length in
      let run = snoc_front (take (inputs + i) v) before (wire v (inputs + i)) (gate_value before g) same both in
      let last = snoc_last (take (inputs + i) v) before (wire v (inputs + i)) (gate_value before g) same both in
      (ties v).1 ((so_far v e).1 run, last ∙ sym (carried run))

  pub one_encoded : Satisfies v new ↔ (take (inputs + (i + 1)) v ≡ values (take inputs v) (take (i + 1) gates))
  one_encoded = (forth, back)

pub all_encoded : (inputs : ℕ) (gates : List NetGate) (i variables : ℕ) (clauses : List (List ℕ)) → i ≡ length gates → variables ≡ inputs + length gates
    → EncodesFirst inputs gates i variables clauses → Encodes inputs gates variables clauses
all_encoded inputs gates i variables clauses end size first v e =
    let whole : take (inputs + i) v ≡ v = take_whole v (inputs + i) (omega (arith, e, size, end)) in
    let every : values (take inputs v) (take i gates) ≡ values (take inputs v) gates = ap (values (take inputs v)) (take_whole gates i (omega (arith, end))) in (
      (λ s. sym whole ∙ (first v e).0 s ∙ every),
      (λ h. (first v e).1 (whole ∙ h ∙ sym every)),
    )

-- the root is asked for
module _ (inputs : ℕ) (gates : List NetGate) (root variables : ℕ) (old new : List (List ℕ)) (size : variables ≡ inputs + length gates)
    (all : Encodes inputs gates variables old) (ties : Ties old new (λ v. wire v root ≡ true)) where
  pub runs_of : (v : List Bool) → length v ≡ variables → Satisfies v new → IsRunOf inputs gates root v
  runs_of v e s =
      let t = (ties v).0 s in
      let run = (all v e).0 t.0 in
      (run, sym (ap (λ (l : List Bool). wire l root) run) ∙ t.1)

  first_length : (v : List Bool) → length v ≡ variables → length (take inputs v) ≡ inputs
  first_length v e = length-take-le inputs v (omega (arith, e, size))

  -- the values of all wires satisfy the clauses where the root is true
  run_satisfies : (ins : List Bool) → length ins ≡ inputs → value ins gates root ≡ true → SatisfiableWith ins variables new
  run_satisfies ins e h =
      let v : List Bool = values ins gates in
      let len : length (values ins gates) ≡ variables = omega (arith, length-values ins gates, e, size) in
      let front : take (length ins) (values ins gates) ≡ ins = take-values ins gates (length ins) (omega arith) ∙ take_whole ins (length ins) (omega arith) in
      let same : take inputs (values ins gates) ≡ ins = ap (λ (n : ℕ). take n (values ins gates)) (sym e) ∙ front in
      (values ins gates, len, front, (ties (values ins gates)).1 ((all (values ins gates) len).1 (ap (λ (l : List Bool). values l gates) (sym same)), h))

  pub with_inputs : (ins : List Bool) → length ins ≡ inputs → SatisfiableWith ins variables new ↔ (value ins gates root ≡ true)
  with_inputs ins e = (
    (λ s.
        let r = runs_of s.0 s.1 s.3 in
        let same : take inputs s.0 ≡ ins = ap (λ (n : ℕ). take n s.0) (sym e) ∙ s.2 in
        ap (λ (l : List Bool). value l gates root) (sym same) ∙ r.1),
    run_satisfies ins e,
  )

  pub satisfiable : Satisfiable variables new ↔ CanBeTrue inputs gates root
  satisfiable = (
    (λ s. (take inputs s.0, first_length s.0 s.1, (runs_of s.0 s.1 s.2).1)),
    (λ r. let w = run_satisfies r.0 r.1 r.2 in (w.0, w.1, w.3)),
  )
