-- Numbers that are the same up to a bound, and affine functions of them.
use Rattle.std.proofs.Common.{◌≡◌, ℕ, zero, suc, ◌+◌, ◌*◌, ◌<◌, ◌≤◌, ◌⊎◌, inl, inr, min, Bool, true, false, List, [], ◌∷◌, ◌++◌, length, set, unwrap_or, Option, Some, None, refl, sym, ◌∙◌, ap, subst, arith, le_trans, le_of_eq, mul-add, mul-one, mul-zero, mul_comm, mul_assoc, zero-mul, zero-lt-suc, le-mul_of_pos_right, add-mul, zero-add, add-zero}
use Rattle.std.specs.List.{slice_get}
use Rattle.std.specs.Prelude.{nat_lt}
use Rattle.std.proofs.Math.Nat.{min-eq_left, min-eq_right}
use Rattle.std.proofs.lemmas.Bool.Decides.{nat_tests}
use Rattle.hy_val.specs.declared.expr.Var.TheVariants.{Const, Global, Local}
use Rattle.hy_val.specs.declared.sort.Sort.{Sort}
use Rattle.type_pass.specs.Terms.{Term, lit, read, unary, binary, implied, choice, select, store, size, substituted}
use Rattle.bpl_type.specs.Counts.{weigh, weigh_if, weigh_argument, Alike, sloped, affine_at, Valued, Counted}

-- ---- terms

two : (a a' b b' : ℕ) → a ≡ a' → b ≡ b' → a + b + 1 ≡ a' + b' + 1
two a a' b b' h k = omega (arith, h, k)

three : (a a' b b' c c' : ℕ) → a ≡ a' → b ≡ b' → c ≡ c' → a + b + c + 1 ≡ a' + b' + c' + 1
three a a' b b' c c' h k l = omega (arith, h, k, l)

-- where each local is one node, the number of nodes
pub weigh-size : (v : ℕ → ℕ) → ((n : ℕ) → v n ≡ 1) → (t : Term) → size t ≡ weigh v t
weigh-size v one (lit a) = refl
weigh-size v one (read (Const n) sort) = refl
weigh-size v one (read (Global n) sort) = refl
weigh-size v one (read (Local n) sort) = sym (one n)
weigh-size v one (unary op a) = ap (λ n. n + 1) (weigh-size v one a)
weigh-size v one (binary op a b) = two (size a) (weigh v a) (size b) (weigh v b) (weigh-size v one a) (weigh-size v one b)
weigh-size v one (implied a b) = two (size a) (weigh v a) (size b) (weigh v b) (weigh-size v one a) (weigh-size v one b)
weigh-size v one (choice c a b) = three (size c) (weigh v c) (size a) (weigh v a) (size b) (weigh v b) (weigh-size v one c) (weigh-size v one a) (weigh-size v one b)
weigh-size v one (select m i) = two (size m) (weigh v m) (size i) (weigh v i) (weigh-size v one m) (weigh-size v one i)
weigh-size v one (store m i x) = three (size m) (weigh v m) (size i) (weigh v i) (size x) (weigh v x) (weigh-size v one m) (weigh-size v one i) (weigh-size v one x)

weigh-local : (v : ℕ → ℕ) (n : ℕ) (sort : Sort) (argument : Option Term) → weigh v (unwrap_or argument (read (Local n) sort)) ≡ weigh_if v n argument
weigh-local v n sort None = refl
weigh-local v n sort (Some a) = refl

-- arguments in place of the locals
pub weigh-substituted : (v : ℕ → ℕ) (arguments : List Term) (t : Term) → weigh v (substituted arguments t) ≡ weigh (weigh_argument v arguments) t
weigh-substituted v xs (lit a) = refl
weigh-substituted v xs (read (Const n) sort) = refl
weigh-substituted v xs (read (Global n) sort) = refl
weigh-substituted v xs (read (Local n) sort) = weigh-local v n sort (slice_get xs n)
weigh-substituted v xs (unary op a) = ap (λ n. n + 1) (weigh-substituted v xs a)
weigh-substituted v xs (binary op a b) = two (weigh v (substituted xs a)) (weigh (weigh_argument v xs) a) (weigh v (substituted xs b)) (weigh (weigh_argument v xs) b) (weigh-substituted v xs a) (weigh-substituted v xs b)
weigh-substituted v xs (implied a b) = two (weigh v (substituted xs a)) (weigh (weigh_argument v xs) a) (weigh v (substituted xs b)) (weigh (weigh_argument v xs) b) (weigh-substituted v xs a) (weigh-substituted v xs b)
weigh-substituted v xs (choice c a b) = three (weigh v (substituted xs c)) (weigh (weigh_argument v xs) c) (weigh v (substituted xs a)) (weigh (weigh_argument v xs) a) (weigh v (substituted xs b)) (weigh (weigh_argument v xs) b) (weigh-substituted v xs c) (weigh-substituted v xs a) (weigh-substituted v xs b)
weigh-substituted v xs (select m i) = two (weigh v (substituted xs m)) (weigh (weigh_argument v xs) m) (weigh v (substituted xs i)) (weigh (weigh_argument v xs) i) (weigh-substituted v xs m) (weigh-substituted v xs i)
weigh-substituted v xs (store m i x) = three (weigh v (substituted xs m)) (weigh (weigh_argument v xs) m) (weigh v (substituted xs i)) (weigh (weigh_argument v xs) i) (weigh v (substituted xs x)) (weigh (weigh_argument v xs) x) (weigh-substituted v xs m) (weigh-substituted v xs i) (weigh-substituted v xs x)

-- ---- numbers that are the same up to a bound

pub alike-refl : (most a : ℕ) → Alike most a a
alike-refl most a = inl refl

pub alike-same : (most a b : ℕ) → a ≡ b → Alike most a b
alike-same most a b h = inl h

pub alike-sym : (most a b : ℕ) → Alike most a b → Alike most b a
alike-sym most a b (inl h) = inl (sym h)
alike-sym most a b (inr h) = inr (h.1, h.0)

pub alike-trans : (most a b c : ℕ) → Alike most a b → Alike most b c → Alike most a c
alike-trans most a b c (inl h) k = subst (λ x. Alike most x c) (sym h) k
alike-trans most a b c (inr h) (inl k) = inr (h.0, subst (λ x. most ≤ x) k h.1)
alike-trans most a b c (inr h) (inr k) = inr (h.0, k.1)

-- numbers that are equal to ones that are alike
pub alike-between : (most a a' b b' : ℕ) → a ≡ a' → Alike most a' b' → b' ≡ b → Alike most a b
alike-between most a a' b b' h k l = alike-trans most a a' b (inl h) (alike-trans most a' b' b k (inl l))

more : (most a b : ℕ) → most ≤ a → most ≤ a + b
more most a b h = omega (arith, h)

more-behind : (most a b : ℕ) → most ≤ b → most ≤ a + b
more-behind most a b h = omega (arith, h)

sum-same : (a a' b b' : ℕ) → a ≡ a' → b ≡ b' → a + b ≡ a' + b'
sum-same a a' b b' h k = omega (arith, h, k)

pub alike-sum : (most a a' b b' : ℕ) → Alike most a a' → Alike most b b' → Alike most (a + b) (a' + b')
alike-sum most a a' b b' (inl h) (inl k) = inl (sum-same a a' b b' h k)
alike-sum most a a' b b' (inl h) (inr k) = inr (more-behind most a b k.0, more-behind most a' b' k.1)
alike-sum most a a' b b' (inr h) k = inr (more most a b h.0, more most a' b' h.1)

pub alike-one_more : (most a a' : ℕ) → Alike most a a' → Alike most (a + 1) (a' + 1)
alike-one_more most a a' h = alike-sum most a a' 1 1 h (inl refl)

pub alike-two : (most a a' b b' : ℕ) → Alike most a a' → Alike most b b' → Alike most (a + b + 1) (a' + b' + 1)
alike-two most a a' b b' h k = alike-one_more most (a + b) (a' + b') (alike-sum most a a' b b' h k)

pub alike-three : (most a a' b b' c c' : ℕ) → Alike most a a' → Alike most b b' → Alike most c c' → Alike most (a + b + c + 1) (a' + b' + c' + 1)
alike-three most a a' b b' c c' h k l = alike-two most (a + b) (a' + b') c c' (alike-sum most a a' b b' h k) l

reaches : (most w a : ℕ) → 0 < w → most ≤ a → most ≤ w * a
reaches most w a some h = subst (λ x. most ≤ x) (mul_comm a w) (le_trans h (le-mul_of_pos_right a some))

pub alike-times : (most w a b : ℕ) → Alike most a b → Alike most (w * a) (w * b)
alike-times most zero a b h = inl (zero-mul a ∙ sym (zero-mul b))
alike-times most (suc w) a b (inl h) = inl (ap (λ x. suc w * x) h)
alike-times most (suc w) a b (inr h) = inr (reaches most (suc w) a (zero-lt-suc w) h.0, reaches most (suc w) b (zero-lt-suc w) h.1)

pub alike-weight : (most w w' a : ℕ) → Alike most w w' → Alike most (w * a) (w' * a)
alike-weight most w w' a h = alike-between most (w * a) (a * w) (w' * a) (a * w') (mul_comm w a) (alike-times most a w w' h) (mul_comm a w')

pub alike-product : (most w w' a a' : ℕ) → Alike most w w' → Alike most a a' → Alike most (w * a) (w' * a')
alike-product most w w' a a' h k = alike-trans most (w * a) (w' * a) (w' * a') (alike-weight most w w' a h) (alike-times most w' a a' k)

either : (a b : ℕ) → (a ≤ b) ⊎ (b ≤ a)
either zero b = inl (omega arith)
either (suc a) zero = inr (omega arith)
either (suc a) (suc b) = elim (either a b) [ inl h ↦ inl (omega (arith, h)) | inr h ↦ inr (omega (arith, h)) ]

pub alike-min : (most a : ℕ) → Alike most (min a most) a
alike-min most a = elim (either a most) [ inl h ↦ inl (min-eq_left h) | inr h ↦ inr (le_of_eq (sym (min-eq_right h)), h) ]

more-decides : (limit a : ℕ) → suc limit ≤ a → nat_lt limit a ≡ true
more-decides limit a h = grind (arith, nat_tests)

-- a test of the bound has one answer
pub alike-decides : (limit a b : ℕ) → Alike (suc limit) a b → nat_lt limit a ≡ nat_lt limit b
alike-decides limit a b (inl h) = ap (nat_lt limit) h
alike-decides limit a b (inr h) = more-decides limit a h.0 ∙ sym (more-decides limit b h.1)

-- ---- affine functions

pub sloped-alike : (most : ℕ) (v v' : ℕ → ℕ) → ((n : ℕ) → Alike most (v n) (v' n)) → (slopes : List ℕ) (i : ℕ) → Alike most (sloped slopes i v) (sloped slopes i v')
sloped-alike most v v' h [] i = inl refl
sloped-alike most v v' h (m ∷ ms) i =
    alike-sum most (m * v i) (m * v' i) (sloped ms (i + 1) v) (sloped ms (i + 1) v') (alike-times most m (v i) (v' i) (h i)) (sloped-alike most v v' h ms (i + 1))

pub affine-alike : (most base : ℕ) (slopes : List ℕ) (v v' : ℕ → ℕ) → ((n : ℕ) → Alike most (v n) (v' n)) → Alike most (affine_at base slopes v) (affine_at base slopes v')
affine-alike most base slopes v v' h = alike-sum most base base (sloped slopes 0 v) (sloped slopes 0 v') (inl refl) (sloped-alike most v v' h slopes 0)

-- slopes that are alike at each place
abbrev pub AllAlike : ℕ → List ℕ → List ℕ → Type 0
AllAlike most [] [] = Unit {0}
AllAlike most [] (n ∷ ns) = ⊥
AllAlike most (m ∷ ms) [] = ⊥
AllAlike most (m ∷ ms) (n ∷ ns) = Alike most m n × AllAlike most ms ns

pub slopes-alike : (most : ℕ) (v : ℕ → ℕ) (ms ns : List ℕ) (i : ℕ) → AllAlike most ms ns → Alike most (sloped ms i v) (sloped ns i v)
slopes-alike most v [] [] i h = inl refl
slopes-alike most v [] (n ∷ ns) i h = absurd h
slopes-alike most v (m ∷ ms) [] i h = absurd h
slopes-alike most v (m ∷ ms) (n ∷ ns) i h = alike-sum most (m * v i) (n * v i) (sloped ms (i + 1) v) (sloped ns (i + 1) v) (alike-weight most m n (v i) h.0) (slopes-alike most v ms ns (i + 1) h.1)

-- slopes one after the other
pub sloped-append : (v : ℕ → ℕ) (ms ns : List ℕ) (i : ℕ) → sloped (ms ++ ns) i v ≡ sloped ms i v + sloped ns (i + length ms) v
sloped-append v [] ns i = sym (ap (λ k. 0 + sloped ns k v) (add-zero i) ∙ zero-add (sloped ns i v))
sloped-append v (m ∷ ms) ns i =
    let at : i + 1 + length ms ≡ i + suc (length ms) = omega arith in
    let e : sloped (ms ++ ns) (i + 1) v ≡ sloped ms (i + 1) v + sloped ns (i + suc (length ms)) v = sloped-append v ms ns (i + 1) ∙ ap (λ k. sloped ms (i + 1) v + sloped ns k v) at in
    omega (arith, e)

-- a slope at the end
pub sloped-push : (v : ℕ → ℕ) (ms : List ℕ) (m : ℕ) → sloped (ms ++ m ∷ []) 0 v ≡ sloped ms 0 v + m * v (length ms)
sloped-push v ms m =
    let e : sloped (ms ++ m ∷ []) 0 v ≡ sloped ms 0 v + (m * v (0 + length ms) + 0) = sloped-append v ms (m ∷ []) 0 in
    e ∙ ap (λ k. sloped ms 0 v + k) (add-zero (m * v (0 + length ms)) ∙ ap (λ k. m * v k) (zero-add (length ms)))

-- a slope that is none
pub sloped-zero : (v : ℕ → ℕ) (ms : List ℕ) (i : ℕ) → sloped (ms ++ 0 ∷ []) i v ≡ sloped ms i v
sloped-zero v [] i = ap (λ k. k + 0) (zero-mul (v i)) ∙ add-zero 0
sloped-zero v (m ∷ ms) i = ap (λ k. m * v i + k) (sloped-zero v ms (i + 1))

-- a slope that is raised up to the bound
pub sloped-set : (most weight : ℕ) (v : ℕ → ℕ) (slopes : List ℕ) (i n m : ℕ) → slice_get slopes n ≡ Some m
    → Alike most (sloped (set slopes n (min (m + weight) most)) i v) (sloped slopes i v + weight * v (i + n))
sloped-set most weight v [] i n m h = absurd (cc)
sloped-set most weight v (k ∷ ks) i zero m h =
    let same : k ≡ m = cc in
    let raised : Alike most (min (m + weight) most * v i) ((m + weight) * v i) = alike-weight most (min (m + weight) most) (m + weight) (v i) (alike-min most (m + weight)) in
    let apart : (m + weight) * v i ≡ m * v i + weight * v i = add-mul m weight (v i) in
    let here : m * v i ≡ k * v i = ap (λ x. x * v i) (sym same) in
    let at : weight * v i ≡ weight * v (i + 0) = ap (λ x. weight * v x) (sym (add-zero i)) in
    let total : (m + weight) * v i + sloped ks (i + 1) v ≡ k * v i + sloped ks (i + 1) v + weight * v (i + 0) = omega (arith, apart, here, at) in
    alike-trans most (min (m + weight) most * v i + sloped ks (i + 1) v) ((m + weight) * v i + sloped ks (i + 1) v) (k * v i + sloped ks (i + 1) v + weight * v (i + 0))
    (alike-sum most (min (m + weight) most * v i) ((m + weight) * v i) (sloped ks (i + 1) v) (sloped ks (i + 1) v) raised (inl refl)) (inl total)
sloped-set most weight v (k ∷ ks) i (suc n) m h =
    let at : i + 1 + n ≡ i + suc n = omega arith in
    let next : Alike most (sloped (set ks n (min (m + weight) most)) (i + 1) v) (sloped ks (i + 1) v + weight * v (i + 1 + n)) = sloped-set most weight v ks (i + 1) n m h in
    let there : weight * v (i + 1 + n) ≡ weight * v (i + suc n) = ap (λ x. weight * v x) at in
    let total : k * v i + (sloped ks (i + 1) v + weight * v (i + 1 + n)) ≡ k * v i + sloped ks (i + 1) v + weight * v (i + suc n) = omega (arith, there) in
    alike-trans most (k * v i + sloped (set ks n (min (m + weight) most)) (i + 1) v) (k * v i + (sloped ks (i + 1) v + weight * v (i + 1 + n))) (k * v i + sloped ks (i + 1) v + weight * v (i + suc n))
    (alike-sum most (k * v i) (k * v i) (sloped (set ks n (min (m + weight) most)) (i + 1) v) (sloped ks (i + 1) v + weight * v (i + 1 + n)) (inl refl) next) (inl total)

-- ---- what is counted

-- nothing
pub counted-none : (most : ℕ) (whole : Bool) (base : ℕ) (slopes : List ℕ) (weight : ℕ) → Counted most whole base slopes base slopes weight (λ v. 0)
counted-none most whole base slopes weight v valued = inl (sym (ap (λ k. affine_at base slopes v + k) (mul-zero weight) ∙ add-zero (affine_at base slopes v)))

-- nodes, which are added to the base
pub counted-node : (most : ℕ) (whole : Bool) (base : ℕ) (slopes : List ℕ) (weight : ℕ) → Counted most whole base slopes (min (base + weight) most) slopes weight (λ v. 1)
counted-node most whole base slopes weight v valued =
    let one : weight * 1 ≡ weight = mul-one weight in
    let total : base + weight + sloped slopes 0 v ≡ base + sloped slopes 0 v + weight * 1 = omega (arith, one) in
    alike-trans most (min (base + weight) most + sloped slopes 0 v) (base + weight + sloped slopes 0 v) (base + sloped slopes 0 v + weight * 1)
    (alike-sum most (min (base + weight) most) (base + weight) (sloped slopes 0 v) (sloped slopes 0 v) (alike-min most (base + weight)) (inl refl)) (inl total)

-- slopes that come to the same
pub counted-room : (most : ℕ) (whole : Bool) (base : ℕ) (slopes slopes' : List ℕ) (base' : ℕ) (slopes'' : List ℕ) (weight : ℕ) (f : (ℕ → ℕ) → ℕ)
    → ((i : ℕ) (v : ℕ → ℕ) → sloped slopes' i v ≡ sloped slopes i v) → Counted most whole base slopes' base' slopes'' weight f → Counted most whole base slopes base' slopes'' weight f
counted-room most whole base slopes slopes' base' slopes'' weight f same h v valued =
    subst (λ k. Alike most (affine_at base' slopes'' v) (base + k + weight * f v)) (same 0 v) (h v valued)

-- a local, whose slope is raised
pub counted-local : (most : ℕ) (whole : Bool) (base : ℕ) (slopes : List ℕ) (weight n m : ℕ) → slice_get slopes n ≡ Some m
    → Counted most whole base slopes base (set slopes n (min (m + weight) most)) weight (λ v. v n)
counted-local most whole base slopes weight n m h v valued =
    let raised : Alike most (sloped (set slopes n (min (m + weight) most)) 0 v) (sloped slopes 0 v + weight * v (0 + n)) = sloped-set most weight v slopes 0 n m h in
    let at : weight * v (0 + n) ≡ weight * v n = ap (λ x. weight * v x) (zero-add n) in
    let total : base + (sloped slopes 0 v + weight * v (0 + n)) ≡ base + sloped slopes 0 v + weight * v n = omega (arith, at) in
    alike-trans most (base + sloped (set slopes n (min (m + weight) most)) 0 v) (base + (sloped slopes 0 v + weight * v (0 + n))) (base + sloped slopes 0 v + weight * v n)
    (alike-sum most base base (sloped (set slopes n (min (m + weight) most)) 0 v) (sloped slopes 0 v + weight * v (0 + n)) (inl refl) raised) (inl total)

-- in a whole expression a local is a node
pub counted-whole : (most base : ℕ) (slopes : List ℕ) (base' : ℕ) (slopes' : List ℕ) (weight n : ℕ)
    → Counted most true base slopes base' slopes' weight (λ v. 1) → Counted most true base slopes base' slopes' weight (λ v. v n)
counted-whole most base slopes base' slopes' weight n h v valued = subst (λ k. Alike most (affine_at base' slopes' v) (affine_at base slopes v + weight * k)) (sym (valued n)) (h v valued)

-- numbers that are the same
pub counted-same : (most : ℕ) (whole : Bool) (base : ℕ) (slopes : List ℕ) (base' : ℕ) (slopes' : List ℕ) (weight : ℕ) (f g : (ℕ → ℕ) → ℕ) → ((v : ℕ → ℕ) → f v ≡ g v)
    → Counted most whole base slopes base' slopes' weight f → Counted most whole base slopes base' slopes' weight g
counted-same most whole base slopes base' slopes' weight f g same h v valued =
    subst (λ k. Alike most (affine_at base' slopes' v) (affine_at base slopes v + weight * k)) (same v) (h v valued)

-- numbers that are alike
pub counted-alike : (most : ℕ) (whole : Bool) (base : ℕ) (slopes : List ℕ) (base' : ℕ) (slopes' : List ℕ) (weight : ℕ) (f g : (ℕ → ℕ) → ℕ) → ((v : ℕ → ℕ) → Valued whole v → Alike most (f v) (g v))
    → Counted most whole base slopes base' slopes' weight f → Counted most whole base slopes base' slopes' weight g
counted-alike most whole base slopes base' slopes' weight f g alike h v valued =
    alike-trans most (affine_at base' slopes' v) (affine_at base slopes v + weight * f v) (affine_at base slopes v + weight * g v) (h v valued)
    (alike-sum most (affine_at base slopes v) (affine_at base slopes v) (weight * f v) (weight * g v) (inl refl) (alike-times most weight (f v) (g v) (alike v valued)))

-- one after the other
pub counted-then : (most : ℕ) (whole : Bool) (base : ℕ) (slopes : List ℕ) (base' : ℕ) (slopes' : List ℕ) (base'' : ℕ) (slopes'' : List ℕ) (weight : ℕ) (f g : (ℕ → ℕ) → ℕ)
    → Counted most whole base slopes base' slopes' weight f → Counted most whole base' slopes' base'' slopes'' weight g
    → Counted most whole base slopes base'' slopes'' weight (λ v. f v + g v)
counted-then most whole base slopes base' slopes' base'' slopes'' weight f g h k v valued =
    let both : weight * (f v + g v) ≡ weight * f v + weight * g v = mul-add weight (f v) (g v) in
    let total : affine_at base slopes v + weight * f v + weight * g v ≡ affine_at base slopes v + weight * (f v + g v) = omega (arith, both) in
    alike-trans most (affine_at base'' slopes'' v) (affine_at base' slopes' v + weight * g v) (affine_at base slopes v + weight * (f v + g v)) (k v valued)
    (alike-trans most (affine_at base' slopes' v + weight * g v) (affine_at base slopes v + weight * f v + weight * g v) (affine_at base slopes v + weight * (f v + g v))
    (alike-sum most (affine_at base' slopes' v) (affine_at base slopes v + weight * f v) (weight * g v) (weight * g v) (h v valued) (inl refl)) (inl total))

-- so many times what is added by a weight up to the bound
pub counted-times : (most : ℕ) (whole : Bool) (base : ℕ) (slopes : List ℕ) (base' : ℕ) (slopes' : List ℕ) (weight k : ℕ) (f : (ℕ → ℕ) → ℕ)
    → Counted most whole base slopes base' slopes' (min (weight * k) most) f → Counted most whole base slopes base' slopes' weight (λ v. k * f v)
counted-times most whole base slopes base' slopes' weight k f h v valued =
    let bound : Alike most (min (weight * k) most * f v) (weight * k * f v) = alike-weight most (min (weight * k) most) (weight * k) (f v) (alike-min most (weight * k)) in
    let apart : weight * k * f v ≡ weight * (k * f v) = mul_assoc weight k (f v) in
    alike-trans most (affine_at base' slopes' v) (affine_at base slopes v + min (weight * k) most * f v) (affine_at base slopes v + weight * (k * f v)) (h v valued)
    (alike-sum most (affine_at base slopes v) (affine_at base slopes v) (min (weight * k) most * f v) (weight * (k * f v)) (inl refl)
    (alike-trans most (min (weight * k) most * f v) (weight * k * f v) (weight * (k * f v)) bound (inl apart)))

-- one slope more of an affine function, each of whose locals counts as something
pub counted-slope : (most : ℕ) (whole : Bool) (base : ℕ) (slopes : List ℕ) (base' : ℕ) (slopes' : List ℕ) (base'' : ℕ) (slopes'' : List ℕ) (weight k : ℕ) (ks : List ℕ) (slope : ℕ)
    (arguments : (ℕ → ℕ) → ℕ → ℕ)
    → Counted most whole base slopes base' slopes' weight (λ v. affine_at k ks (arguments v))
    → Counted most whole base' slopes' base'' slopes'' (min (weight * slope) most) (λ v. arguments v (length ks))
    → Counted most whole base slopes base'' slopes'' weight (λ v. affine_at k (ks ++ slope ∷ []) (arguments v))
counted-slope most whole base slopes base' slopes' base'' slopes'' weight k ks slope arguments h g =
    counted-same most whole base slopes base'' slopes'' weight (λ v. affine_at k ks (arguments v) + slope * arguments v (length ks)) (λ v. affine_at k (ks ++ slope ∷ []) (arguments v))
    (λ v. let e : sloped (ks ++ slope ∷ []) 0 (arguments v) ≡ sloped ks 0 (arguments v) + slope * arguments v (length ks) = sloped-push (arguments v) ks slope in omega (arith, e))
    (counted-then most whole base slopes base' slopes' base'' slopes'' weight (λ v. affine_at k ks (arguments v)) (λ v. slope * arguments v (length ks)) h
    (counted-times most whole base' slopes' base'' slopes'' weight slope (λ v. arguments v (length ks)) g))

-- no slope yet
pub counted-base : (most : ℕ) (whole : Bool) (base : ℕ) (slopes : List ℕ) (weight k : ℕ) (arguments : (ℕ → ℕ) → ℕ → ℕ)
    → Counted most whole base slopes (min (base + min (weight * k) most) most) slopes weight (λ v. affine_at k [] (arguments v))
counted-base most whole base slopes weight k arguments =
    counted-same most whole base slopes (min (base + min (weight * k) most) most) slopes weight (λ v. k * 1) (λ v. affine_at k [] (arguments v)) (λ v. mul-one k ∙ sym (add-zero k))
    (counted-times most whole base slopes (min (base + min (weight * k) most) most) slopes weight k (λ v. 1) (counted-node most whole base slopes (min (weight * k) most)))

-- What is counted once from nothing is alike.
pub counted-once : (most base : ℕ) (slopes : List ℕ) (f : (ℕ → ℕ) → ℕ) → Counted most false 0 [] base slopes 1 f → (v : ℕ → ℕ) → Alike most (f v) (affine_at base slopes v)
counted-once most base slopes f h v =
    let none : 0 + 0 + 1 * f v ≡ f v = omega arith in
    alike-sym most (affine_at base slopes v) (f v) (alike-trans most (affine_at base slopes v) (0 + 0 + 1 * f v) (f v) (h v tt) (inl none))

-- What is counted once from nothing, with each local as a node, is alike where each local is one node.
pub counted-ones : (most base : ℕ) (slopes : List ℕ) (f : (ℕ → ℕ) → ℕ) → Counted most true 0 [] base slopes 1 f → Alike most (f (λ n. 1)) (affine_at base slopes (λ n. 1))
counted-ones most base slopes f h =
    let none : 0 + 0 + 1 * f (λ n. 1) ≡ f (λ n. 1) = omega arith in
    alike-sym most (affine_at base slopes (λ n. 1)) (f (λ n. 1)) (alike-trans most (affine_at base slopes (λ n. 1)) (0 + 0 + 1 * f (λ n. 1)) (f (λ n. 1)) (h (λ n. 1) (λ n. refl)) (inl none))

-- ... and without slopes alike to the base
pub counted-all : (most base : ℕ) (f : (ℕ → ℕ) → ℕ) → Counted most true 0 [] base [] 1 f → Alike most (f (λ n. 1)) base
counted-all most base f h = alike-trans most (f (λ n. 1)) (base + 0) base (counted-ones most base [] f h) (inl (add-zero base))
