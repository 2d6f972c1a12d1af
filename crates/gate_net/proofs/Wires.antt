-- What the wires carry as gates are put behind others.
use Rattle.std.proofs.Common.{◌≡◌, ℕ, zero, suc, ◌+◌, ◌-◌, ◌<◌, ◌≤◌, Bool, true, false, ◌&&◌, List, [], ◌∷◌, ◌++◌, length, get_or, slice_index_or, refl, ap, sym, ◌∙◌, subst, arith, take, ltb, length-append, if◌then◌else◌}
use Rattle.std.proofs.lemmas.Grind.{common_steps}
use Rattle.std.proofs.lemmas.Bool.{and_from, and_parts, ltb-true, lt-ltb}
use Rattle.gate_net.specs.Net.{xor, wire, gate_value, values, value, is_lower, are_lower, IsKept, IsConstant, Carries}
use Rattle.gate_net.specs.declared.net.NetGate.{NetGate}
use Rattle.gate_net.specs.declared.net.NetGate.TheVariants as gate

pub values-push : (vs : List Bool) (gs : List NetGate) (g : NetGate) → values vs (gs ++ g ∷ []) ≡ values vs gs ++ gate_value (values vs gs) g ∷ []
values-push vs [] g = refl
values-push vs (h ∷ gs) g = values-push (vs ++ gate_value vs h ∷ []) gs g

pub length-values : (vs : List Bool) (gs : List NetGate) → length (values vs gs) ≡ length vs + length gs
length-values vs [] = omega arith
length-values vs (h ∷ gs) = omega (arith, length-values (vs ++ gate_value vs h ∷ []) gs, length-append vs (gate_value vs h ∷ []))

pub wire-front : (xs : List Bool) (y : Bool) (k : ℕ) → k < length xs → wire (xs ++ y ∷ []) k ≡ wire xs k
wire-front [] y k h = absurd (omega arith)
wire-front (x ∷ xs) y zero h = refl
wire-front (x ∷ xs) y (suc k) h = wire-front xs y k (omega arith)

pub wire-last : (xs : List Bool) (y : Bool) (k : ℕ) → k ≡ length xs → wire (xs ++ y ∷ []) k ≡ y
wire-last [] y zero h = refl
wire-last [] y (suc k) h = absurd (omega (arith, h))
wire-last (x ∷ xs) y zero h = absurd (omega (arith, h))
wire-last (x ∷ xs) y (suc k) h = wire-last xs y k (omega (arith, h))

-- a wire of a lower number keeps its value
pub value_old : (ins : List Bool) (gs : List NetGate) (g : NetGate) (k : ℕ) → k < length ins + length gs → value ins (gs ++ g ∷ []) k ≡ value ins gs k
value_old ins gs g k h = ap (λ (vs : List Bool). wire vs k) (values-push ins gs g) ∙ wire-front (values ins gs) (gate_value (values ins gs) g) k (omega (arith, length-values ins gs))

-- the new wire
pub value_new : (ins : List Bool) (gs : List NetGate) (g : NetGate) (k : ℕ) → k ≡ length ins + length gs → value ins (gs ++ g ∷ []) k ≡ gate_value (values ins gs) g
value_new ins gs g k h = ap (λ (vs : List Bool). wire vs k) (values-push ins gs g) ∙ wire-last (values ins gs) (gate_value (values ins gs) g) k (omega (arith, length-values ins gs))

pub kept_push : (inputs : ℕ) (gs : List NetGate) (g : NetGate) → IsKept inputs gs (gs ++ g ∷ [])
kept_push inputs gs g ins e k h = value_old ins gs g k (omega (arith, e, h))

-- the first wires carry what they are given
pub values_front : (vs : List Bool) (gs : List NetGate) (k : ℕ) → k < length vs → wire (values vs gs) k ≡ wire vs k
values_front vs [] k h = refl
values_front vs (g ∷ gs) k h = values_front (vs ++ gate_value vs g ∷ []) gs k (omega (arith, length-append vs (gate_value vs g ∷ []))) ∙ wire-front vs (gate_value vs g) k h

-- a gate that carries the same whatever the lower wires do
pub constant_at : (vs : List Bool) (gs : List NetGate) (i : ℕ) (g : NetGate) (b : Bool) → i < length gs → g ≡ get_or gs i g → ((us : List Bool) → gate_value us g ≡ b) → wire (values vs gs) (length vs + i) ≡ b
constant_at vs [] i g b h is same = absurd (omega arith)
constant_at vs (f ∷ gs) zero g b h is same =
    let place : length vs + 0 ≡ length vs = omega arith in
    ap (wire (values vs (f ∷ gs))) place
    ∙ values_front (vs ++ gate_value vs f ∷ []) gs (length vs) (omega (arith, length-append vs (gate_value vs f ∷ [])))
    ∙ wire-last vs (gate_value vs f) (length vs) refl
    ∙ ap (gate_value vs) (sym is)
    ∙ same vs
constant_at vs (f ∷ gs) (suc i) g b h is same =
    let longer = length-append vs (gate_value vs f ∷ []) in
    let place : length vs + suc i ≡ length (vs ++ gate_value vs f ∷ []) + i = omega (arith, longer) in
    ap (wire (values vs (f ∷ gs))) place ∙ constant_at (vs ++ gate_value vs f ∷ []) gs i g b (omega arith) is same

pub is_constant : (inputs : ℕ) (gs : List NetGate) (k : ℕ) (g : NetGate) (b : Bool) → inputs ≤ k → k < inputs + length gs → g ≡ get_or gs (k - inputs) g → ((us : List Bool) → gate_value us g ≡ b) → IsConstant inputs gs k b
is_constant inputs gs k g b low high is same ins e =
    let place : k ≡ length ins + (k - inputs) = omega (arith, e, low) in
    ap (value ins gs) place ∙ constant_at ins gs (k - inputs) g b (omega (arith, low, high)) is same

pub lower-push : (n : ℕ) (gs : List NetGate) (g : NetGate) → are_lower n gs ≡ true → is_lower (n + length gs) g ≡ true → are_lower n (gs ++ g ∷ []) ≡ true
lower-push n [] g all one = and_from (is_lower n g) true (let e : n + 0 ≡ n = omega arith in subst (λ (m : ℕ). is_lower m g ≡ true) e one) refl
lower-push n (h ∷ gs) g all one =
    let a = and_parts (is_lower n h) (are_lower (suc n) gs) all in
    let e : n + length (h ∷ gs) ≡ suc n + length gs = omega arith in
    and_from (is_lower n h) (are_lower (suc n) (gs ++ g ∷ [])) a.0 (lower-push (suc n) gs g a.1 (subst (λ (m : ℕ). is_lower m g ≡ true) e one))

-- the gate at a place names lower wires alone
pub lower_at : (n : ℕ) (gs : List NetGate) (i : ℕ) (g : NetGate) → are_lower n gs ≡ true → i < length gs → g ≡ get_or gs i g → is_lower (n + i) g ≡ true
lower_at n [] i g all h is = absurd (omega arith)
lower_at n (f ∷ gs) zero g all h is =
    let a = and_parts (is_lower n f) (are_lower (suc n) gs) all in
    let e : n ≡ n + 0 = omega arith in
    subst (λ (m : ℕ). is_lower m g ≡ true) e (subst (λ (x : NetGate). is_lower n x ≡ true) (sym is) a.0)
lower_at n (f ∷ gs) (suc i) g all h is =
    let a = and_parts (is_lower n f) (are_lower (suc n) gs) all in
    let e : suc n + i ≡ n + suc i = omega arith in
    subst (λ (m : ℕ). is_lower m g ≡ true) e (lower_at (suc n) gs i g a.1 (omega arith) is)

pub get_same : (gs : List NetGate) (i : ℕ) (d : NetGate) → i < length gs → get_or gs i d ≡ get_or gs i (get_or gs i d)
get_same [] i d h = absurd (omega arith)
get_same (g ∷ gs) zero d h = refl
get_same (g ∷ gs) (suc i) d h = get_same gs i d (omega arith)

pub lower_get : (n : ℕ) (gs : List NetGate) (i : ℕ) (d : NetGate) → are_lower n gs ≡ true → i < length gs → is_lower (n + i) (get_or gs i d) ≡ true
lower_get n gs i d all h = lower_at n gs i (get_or gs i d) all h (get_same gs i d h)

-- the two constants
pub two_gates : (g0 g1 g2 : List NetGate) → g0 ≡ [] → g1 ≡ g0 ++ gate.False ∷ [] → g2 ≡ g1 ++ gate.True ∷ [] → g2 ≡ gate.False ∷ gate.True ∷ []
two_gates g0 g1 g2 e f g = g ∙ ap (λ (l : List NetGate). l ++ gate.True ∷ []) (f ∙ ap (λ (l : List NetGate). l ++ gate.False ∷ []) e)

pub never_true : (ins : List Bool) (gs : List NetGate) (n : ℕ) → gs ≡ gate.False ∷ gate.True ∷ [] → length ins ≡ n → value ins gs n ≡ false
never_true ins gs n e len =
    ap (λ (l : List NetGate). value ins l n) e
    ∙ ap (value ins (gate.False ∷ gate.True ∷ [])) (sym len)
    ∙ wire-front (ins ++ false ∷ []) true (length ins) (omega (arith, length-append ins (false ∷ [])))
    ∙ wire-last ins false (length ins) refl

pub always_true : (ins : List Bool) (gs : List NetGate) (n : ℕ) → gs ≡ gate.False ∷ gate.True ∷ [] → length ins ≡ n → value ins gs (n + 1) ≡ true
always_true ins gs n e len =
    ap (λ (l : List NetGate). value ins l (n + 1)) e
    ∙ wire-last (ins ++ false ∷ []) true (n + 1) (omega (arith, length-append ins (false ∷ []), len))

-- the names of a gate with two wires, and of one with three
pub both_lower : (a b n : ℕ) → (is_lower n (gate.And a b)) ≡ true → (a < n) × (b < n)
both_lower a b n h = let p = and_parts (ltb a n) (ltb b n) h in (ltb-true a n p.0, ltb-true b n p.1)

pub three_lower : (a b d n : ℕ) → (is_lower n (gate.Mux a b d)) ≡ true → (a < n) × (b < n) × (d < n)
three_lower a b d n h =
    let p = and_parts (ltb a n) (ltb b n && ltb d n) h in
    let q = and_parts (ltb b n) (ltb d n) p.1 in
    (ltb-true a n p.0, ltb-true b n q.0, ltb-true d n q.1)

pub lower_more : (n m : ℕ) (g : NetGate) → n ≤ m → is_lower n g ≡ true → is_lower m g ≡ true
lower_more n m gate.False le h = refl
lower_more n m gate.True le h = refl
lower_more n m (gate.And a b) le h = let p = both_lower a b n h in and_from (ltb a m) (ltb b m) (lt-ltb a m (omega (arith, p.0, le))) (lt-ltb b m (omega (arith, p.1, le)))
lower_more n m (gate.Xor a b) le h = let p = both_lower a b n h in and_from (ltb a m) (ltb b m) (lt-ltb a m (omega (arith, p.0, le))) (lt-ltb b m (omega (arith, p.1, le)))
lower_more n m (gate.Mux a b d) le h =
    let p = three_lower a b d n h in
    and_from (ltb a m) (ltb b m && ltb d m) (lt-ltb a m (omega (arith, p.0, le))) (and_from (ltb b m) (ltb d m) (lt-ltb b m (omega (arith, p.1, le))) (lt-ltb d m (omega (arith, p.2, le))))

-- lists that agree on the lower wires give a gate the same value
pub gate_same : (n : ℕ) (us vs : List Bool) (g : NetGate) → is_lower n g ≡ true → ((k : ℕ) → k < n → wire us k ≡ wire vs k) → gate_value us g ≡ gate_value vs g
gate_same n us vs gate.False h same = refl
gate_same n us vs gate.True h same = refl
gate_same n us vs (gate.And a b) h same =
    let p = both_lower a b n h in
    ap (λ (x : Bool). x && wire us b) (same a p.0) ∙ ap (λ (y : Bool). wire vs a && y) (same b p.1)
gate_same n us vs (gate.Xor a b) h same =
    let p = both_lower a b n h in
    ap (λ (x : Bool). xor x (wire us b)) (same a p.0) ∙ ap (λ (y : Bool). xor (wire vs a) y) (same b p.1)
gate_same n us vs (gate.Mux a b d) h same =
    let p = three_lower a b d n h in
    ap (λ (x : Bool). if x then wire us b else wire us d) (same a p.0)
    ∙ ap (λ (y : Bool). if wire vs a then y else wire us d) (same b p.1)
    ∙ ap (λ (z : Bool). if wire vs a then wire vs b else z) (same d p.2)
