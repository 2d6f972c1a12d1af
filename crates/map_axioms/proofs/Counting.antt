-- How many nodes and entries there are.
use Rattle.std.proofs.Common.{◌≡◌, ℕ, zero, suc, ◌+◌, ◌*◌, ◌^◌, ◌<◌, ◌≤◌, ◌-◌, ◌≢◌, Bool, true, false, ◌&&◌, List, [], ◌∷◌, length, arith, sym, ◌∙◌, ap, refl}
use Rattle.std.specs.Prelude.{Option, None, Some, is_some, if◌then◌else◌, slice_get, nat_eq, nat_lt}
use Rattle.std.proofs.lemmas.Bool.Decides.{nat_tests}
use Rattle.std.proofs.Math.Nat.{mul-le-mul_left, mul-one, pow-succ', pow-zero}
use Rattle.hy_val.specs.declared.sort.SortKind.TheVariants.{Scalar as ScalarSort}
use Rattle.hy_term.specs.declared.node.TermNode.{TermNode}
use Rattle.map_axioms.specs.declared.entry.Entry.{Entry}
use Rattle.map_axioms.specs.Steps.{asked, found, sum_below, known_at, known, Apart, State, of_map, pairs}
use Rattle.map_axioms.proofs.Cases.{sort_within}
use Rattle.map_axioms.proofs.Homes.{number_is}

pub four_more : (a b c d e : ℕ) (t : Bool) → t ≡ true → b ≤ a + 1 → c ≤ b + 1 → d ≤ c + 1 → e ≤ d + 1 → e ≤ a + 4 * (if t then 1 else 0)
four_more a b c d e false test p q r s = cc
four_more a b c d e true test p q r s = omega (arith, p, q, r, s)

-- ---- entries of one map are at different nodes, so there are at most as many as nodes

at_node : ℕ → ℕ → List Entry → ℕ
at_node m k [] = 0
at_node m k (e ∷ es) = (if nat_eq e.map m && nat_eq e.place k then 1 else 0) + at_node m k es

before_node : ℕ → ℕ → List Entry → ℕ
before_node m k [] = 0
before_node m k (e ∷ es) = (if nat_eq e.map m && nat_lt e.place k then 1 else 0) + before_node m k es

none_by : (b : Bool) (x n : ℕ) (o : Option ℕ) → (if b then Some x else o) ≡ None → (o ≡ None → n ≡ 0) → (if b then 1 else 0) + n ≡ 0
none_by true x n o h k = cc
none_by false x n o h k = let e = k h in omega (arith, e)

none_at : (m k : ℕ) (es : List Entry) → asked m k es ≡ None → at_node m k es ≡ 0
unfolding at_node
none_at m k [] h = refl
none_at m k (e ∷ es) h = none_by (nat_eq e.map m && nat_eq e.place k) e.entry (at_node m k es) (asked m k es) h (none_at m k es)

one_by : (b : Bool) (n : ℕ) → (b ≡ true → n ≡ 0) → n ≤ 1 → (if b then 1 else 0) + n ≤ 1
one_by true n h k = let e = h refl in omega (arith, e)
one_by false n h k = omega (arith, k)

one_at : (m k : ℕ) (es : List Entry) → Apart es → at_node m k es ≤ 1
unfolding at_node
one_at m k [] h = omega arith
one_at m k (e ∷ es) h =
    one_by (nat_eq e.map m && nat_eq e.place k) (at_node m k es)
    (λ t.
    let map : e.map ≡ m = grind (arith, nat_tests, t) in
    let place : e.place ≡ k = grind (arith, nat_tests, t) in
    none_at m k es (ap (λ (x : ℕ). asked m x es) (sym place) ∙ ap (λ (x : ℕ). asked x e.place es) (sym map) ∙ h.0))
    (one_at m k es h.1)

sum_by : (a b c d : Bool) (p x y : ℕ) → p ≤ x + y → (b ≡ true → c ≡ false → d ≡ true) → (if a && b then 1 else 0) + p ≤ ((if a && c then 1 else 0) + x) + ((if a && d then 1 else 0) + y)
sum_by false b c d p x y sum cover = omega (arith, sum)
sum_by true false c d p x y sum cover = omega (arith, sum)
sum_by true true true d p x y sum cover = omega (arith, sum)
sum_by true true false true p x y sum cover = omega (arith, sum)
sum_by true true false false p x y sum cover = let e = cover refl refl in absurd (let no : false ≡ true → ⊥ = λ q. cc in no e)

next_node : (m k : ℕ) (es : List Entry) → before_node m (suc k) es ≤ before_node m k es + at_node m k es
unfolding before_node at_node
next_node m k [] = omega arith
next_node m k (e ∷ es) =
    sum_by (nat_eq e.map m) (nat_lt e.place (suc k)) (nat_lt e.place k) (nat_eq e.place k) (before_node m (suc k) es) (before_node m k es) (at_node m k es) (next_node m k es)
    (λ less not_less. let a = less in let b = not_less in grind (arith, nat_tests, a, b))

no_node : (m : ℕ) (es : List Entry) → before_node m 0 es ≡ 0
unfolding before_node
no_node m [] = refl
no_node m (e ∷ es) = off (nat_eq e.map m) (nat_lt e.place 0) (before_node m 0 es) (grind (arith, nat_tests)) (no_node m es)
  where
    off : (a b : Bool) (n : ℕ) → b ≡ false → n ≡ 0 → (if a && b then 1 else 0) + n ≡ 0
    off true true n h k = cc
    off true false n h k = omega (arith, k)
    off false b n h k = omega (arith, k)

few_nodes : (m k : ℕ) (es : List Entry) → Apart es → before_node m k es ≤ k
few_nodes m zero es h = let e = no_node m es in omega (arith, e)
few_nodes m (suc k) es h = let a = few_nodes m k es h in let b = next_node m k es in let c = one_at m k es h in omega (arith, a, b, c)

-- the places are nodes
abbrev pub Placed_below : ℕ → List Entry → Type 0
Placed_below n es = (j : ℕ) (e : Entry) → slice_get es j ≡ Some e → e.place < n

count_by : (a b c : Bool) (x y : ℕ) → x ≡ y → a ≡ b → c ≡ true → (if a then 1 else 0) + x ≡ (if b && c then 1 else 0) + y
count_by true true true x y h e f = omega (arith, h)
count_by true true false x y h e f = cc
count_by true false c x y h e f = cc
count_by false true c x y h e f = cc
count_by false false c x y h e f = omega (arith, h)

all_before : (p : Entry) (n : ℕ) (es : List Entry) → Placed_below n es → of_map p es ≡ before_node p.map n es
unfolding before_node
all_before p n [] h = refl
all_before p n (e ∷ es) h =
    let low : e.place < n = h 0 e refl in
    count_by (nat_eq p.map e.map) (nat_eq e.map p.map) (nat_lt e.place n) (of_map p es) (before_node p.map n es) (all_before p n es (λ j x is. h (suc j) x is)) (grind (arith, nat_tests)) (grind (arith, nat_tests, low))

few_of_map : (p : Entry) (n : ℕ) (es : List Entry) → Apart es → Placed_below n es → of_map p es ≤ n
few_of_map p n es a h = let e = all_before p n es h in let f = few_nodes p.map n es a in omega (arith, e, f)

pub few_pairs : (n : ℕ) (es : List Entry) → Apart es → Placed_below n es → pairs es ≤ n * length es
few_pairs n [] a h = omega arith
few_pairs n (e ∷ es) a h =
    let one = few_of_map e n es a.1 (λ j x is. h (suc j) x is) in
    let rest = few_pairs n es a.1 (λ j x is. h (suc j) x is) in
    let step : n * length (e ∷ es) ≡ n + n * length es = grind arith in
    omega (arith, one, rest, step)

pub places_below : (base : ℕ) (nodes out : List TermNode) (es : List Entry) → State base nodes out es → Placed_below (length nodes) es
places_below base nodes out es st j e is = let k = st.entry j e is in sort_within nodes e.place (ScalarSort k.index) k.place

-- ---- sums, and how many entries of map nodes are known

sum_same : (n : ℕ) (f g : ℕ → ℕ) → ((k : ℕ) → f k ≡ g k) → sum_below n f ≡ sum_below n g
sum_same zero f g h = refl
sum_same (suc n) f g h = let a = h n in let b = sum_same n f g h in omega (arith, a, b)

sum_before : (n j : ℕ) (f g : ℕ → ℕ) → n ≤ j → ((k : ℕ) → k ≢ j → f k ≡ g k) → sum_below n f ≡ sum_below n g
sum_before zero j f g l h = refl
sum_before (suc n) j f g l h =
    let other : n ≢ j = λ e. absurd (omega (arith, e, l)) in
    let a = h n other in
    let b = sum_before n j f g (omega (arith, l)) h in
    omega (arith, a, b)

sum_case : (n j a b x y : ℕ) (t : Bool) → nat_eq n j ≡ t → (n ≡ j → (x ≡ y) × (b ≡ a + 1)) → (n ≢ j → (a ≡ b) × (y ≡ x + 1)) → b + y ≡ (a + x) + 1
sum_case n j a b x y true e one other = let p = one (number_is n j e) in let u = p.0 in let v = p.1 in omega (arith, u, v)
sum_case n j a b x y false e one other =
    let apart : n ≢ j = grind (arith, nat_tests, e) in
    let p = other apart in
    let u = p.0 in
    let v = p.1 in
    omega (arith, u, v)

sum_more : (n j : ℕ) (f g : ℕ → ℕ) → j < n → ((k : ℕ) → k ≢ j → f k ≡ g k) → g j ≡ f j + 1 → sum_below n g ≡ sum_below n f + 1
sum_more zero j f g l h new = absurd (omega (arith, l))
sum_more (suc n) j f g l h new =
    sum_case n j (f n) (g n) (sum_below n f) (sum_below n g) (nat_eq n j) refl
    (λ e. (sum_before n j f g (omega (arith, e)) h, ap g e ∙ new ∙ ap (λ (k : ℕ). f k + 1) (sym e)))
    (λ other. (h n other, let a : n ≢ j = other in let b : j < suc n = l in let low : j < n = grind (arith, a, b) in sum_more n j f g low h new))

sum_few : (n b : ℕ) (f : ℕ → ℕ) → ((k : ℕ) → f k ≤ b) → sum_below n f ≤ b * n
sum_few zero b f h = omega arith
sum_few (suc n) b f h =
    let one = h n in
    let rest = sum_few n b f h in
    let step : b * suc n ≡ b + b * n = grind arith in
    omega (arith, one, rest, step)

bit_few : (b : Bool) → (if b then 1 else 0) ≤ 1
bit_few true = omega arith
bit_few false = omega arith

pub known_at_few : (n : ℕ) (rows : List ((ℕ × ℕ) × ℕ)) (i : ℕ) → known_at n rows i ≤ n
known_at_few n rows i = let a = sum_few n 1 (λ j. if is_some (found j i rows) then 1 else 0) (λ j. bit_few (is_some (found j i rows))) in omega (arith, a)

pub known_few : (n : ℕ) (rows : List ((ℕ × ℕ) × ℕ)) → known n rows ≤ n * n
known_few n rows = sum_few n n (known_at n rows) (known_at_few n rows)

sum_none : (n : ℕ) (f : ℕ → ℕ) → ((k : ℕ) → f k ≡ 0) → sum_below n f ≡ 0
sum_none zero f h = refl
sum_none (suc n) f h = let a = h n in let b = sum_none n f h in omega (arith, a, b)

pub known_none : (n : ℕ) (rows : List ((ℕ × ℕ) × ℕ)) → rows ≡ [] → known n rows ≡ 0
known_none n rows none = ap (known n) none ∙ sum_none n (known_at n []) (λ i. sum_none n (λ j. 0) (λ j. refl))

module _ (n : ℕ) (rows rows' : List ((ℕ × ℕ) × ℕ)) (m k u : ℕ) (m_in : m < n) (k_in : k < n) (none : found m k rows ≡ None)
    (set : (a b : ℕ) → found a b rows' ≡ (if nat_eq m a && nat_eq k b then Some u else found a b rows)) where
  bit_same : (j i : ℕ) → (nat_eq m j && nat_eq k i) ≡ false → ◌≡◌ {A = ℕ} (if is_some (found j i rows) then 1 else 0) (if is_some (found j i rows') then 1 else 0)
  bit_same j i other = ap (λ (o : Option ℕ). if is_some o then 1 else 0) (sym (set j i ∙ ap (λ (b : Bool). if b then Some u else found j i rows) other))

  here : found m k rows' ≡ Some u
  here = let own : (nat_eq m m && nat_eq k k) ≡ true = grind (arith, nat_tests) in set m k ∙ ap (λ (b : Bool). if b then Some u else found m k rows) own

  pub known_at_more : known_at n rows' k ≡ known_at n rows k + 1
  known_at_more =
      sum_more n m (λ j. if is_some (found j k rows) then 1 else 0) (λ j. if is_some (found j k rows') then 1 else 0) m_in
      (λ j other. let a : j ≢ m = other in let off : (nat_eq m j && nat_eq k k) ≡ false = grind (arith, nat_tests, a) in bit_same j k off)
      (ap (λ (o : Option ℕ). if is_some o then 1 else 0) here ∙ ap (λ (o : Option ℕ). (if is_some o then 1 else 0) + 1) (sym none))

  pub known_more : known n rows' ≡ known n rows + 1
  known_more =
      sum_more n k (known_at n rows) (known_at n rows') k_in
      (λ i other. sum_same n (λ j. if is_some (found j i rows) then 1 else 0) (λ j. if is_some (found j i rows') then 1 else 0) (λ j. let a : i ≢ k = other in let off : (nat_eq m j && nat_eq k i) ≡ false = grind (arith, nat_tests, a) in bit_same j i off))
      known_at_more

-- a walk that knows one entry more has less before it
pub fewer : (n a b t u : ℕ) → b ≡ a + 1 → b ≤ n → u < n → (n - b) * n + u < (n - a) * n + t
fewer n a b t u more l low =
    let left : n - a ≡ suc (n - b) = omega (arith, more, l) in
    let rows : (n - a) * n ≡ n + (n - b) * n = ap (λ (x : ℕ). x * n) left ∙ grind arith in
    omega (arith, rows, low)

-- ---- the bound

pub count_bound : (n l e p : ℕ) → 1 ≤ n → l ≤ 1 + n + 2 * (n * n) → p ≤ n * e → e ≤ n * n → l + 4 * p ≤ 1024 * n ^ 3
count_bound n l e p one few pairs_few entries_few =
    let square : n ≤ n * n = grind (arith, one) in
    let cube : n * n ≤ n * (n * n) = mul-le-mul_left n square in
    let more : n * e ≤ n * (n * n) = mul-le-mul_left n entries_few in
    let first : n ^ 1 ≡ n = pow-succ' n 0 ∙ ap (λ (x : ℕ). n * x) (pow-zero n) ∙ mul-one n in
    let second : n ^ 2 ≡ n * n = pow-succ' n 1 ∙ ap (λ (x : ℕ). n * x) first in
    let power : n ^ 3 ≡ n * (n * n) = pow-succ' n 2 ∙ ap (λ (x : ℕ). n * x) second in
    omega (arith, one, few, pairs_few, square, cube, more, power)
