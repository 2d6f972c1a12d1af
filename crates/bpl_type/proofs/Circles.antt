-- Paths in a graph without circles: each step leads to a node to which one node more leads.
use Rattle.std.proofs.Common.{◌≡◌, ℕ, zero, suc, ◌+◌, ◌<◌, ◌≤◌, Bool, true, false, ◌||◌, refl, sym, subst, arith}
use Rattle.std.specs.List.{list_any}
use Rattle.std.specs.Prelude.{nat_eq, if◌then◌else◌}
use Rattle.std.proofs.lemmas.Bool.Decides.{nat_tests}
use Rattle.type_pass.specs.Graphs.{Graph, edges, leads}
use Rattle.bpl_type.proofs.Elements.{any-more, or-more}

-- an edge leads from a to b
abbrev pub has_edge : Graph → ℕ → ℕ → Bool
has_edge g a b = list_any (λ c. nat_eq c b) (edges g a)

or-left : (a b : Bool) → a ≡ true → (a || b) ≡ true
or-left true b h = refl
or-left false b h = absurd (cc)

pub leads-edge : (n : ℕ) (g : Graph) (a b : ℕ) → has_edge g a b ≡ true → leads (suc n) g a b ≡ true
leads-edge n g a b h = any-more (λ c. nat_eq c b) (λ c. nat_eq c b || leads n g c b) (λ c e. or-left (nat_eq c b) (leads n g c b) e) (edges g a) h

-- one step more is allowed
leads-more : (n : ℕ) (g : Graph) (a b : ℕ) → leads n g a b ≡ true → leads (suc n) g a b ≡ true
leads-more zero g a b h = absurd (cc)
leads-more (suc n) g a b h =
    any-more (λ c. nat_eq c b || leads n g c b) (λ c. nat_eq c b || leads (suc n) g c b)
    (λ c e. or-more (nat_eq c b) (leads n g c b) (nat_eq c b) (leads (suc n) g c b) (λ k. k) (leads-more n g c b) e) (edges g a) h

pub leads-within : (m d : ℕ) (g : Graph) (a b : ℕ) → leads m g a b ≡ true → leads (m + d) g a b ≡ true
leads-within m zero g a b h = let e : m ≡ m + zero = omega arith in subst (λ n. leads n g a b ≡ true) e h
leads-within m (suc d) g a b h = let e : suc (m + d) ≡ m + suc d = omega arith in subst (λ n. leads n g a b ≡ true) e (leads-more (m + d) g a b (leads-within m d g a b h))

-- one edge at the end
pub leads-further : (n : ℕ) (g : Graph) (a b c : ℕ) → leads n g a b ≡ true → has_edge g b c ≡ true → leads (suc n) g a c ≡ true
leads-further zero g a b c h e = absurd (cc)
leads-further (suc n) g a b c h e =
    any-more (λ v. nat_eq v b || leads n g v b) (λ v. nat_eq v c || leads (suc n) g v c)
    (λ v k. further-from n g v b c (nat_eq v b) refl k e (λ l. leads-further n g v b c l e)) (edges g a) h
  where
    or-right : (x y : Bool) → y ≡ true → (x || y) ≡ true
    or-right true y p = refl
    or-right false y p = p

    further-from : (m : ℕ) (f : Graph) (v w z : ℕ) (same : Bool) → nat_eq v w ≡ same → (same || leads m f v w) ≡ true → has_edge f w z ≡ true
        → (leads m f v w ≡ true → leads (suc m) f v z ≡ true) → (nat_eq v z || leads (suc m) f v z) ≡ true
    further-from m f v w z true is k edge rest =
        let eq : v ≡ w = grind (arith, nat_tests) in
        or-right (nat_eq v z) (leads (suc m) f v z) (leads-edge m f v z (subst (λ x. has_edge f x z ≡ true) (sym eq) edge))
    further-from m f v w z false is k edge rest = or-right (nat_eq v z) (leads (suc m) f v z) (rest k)

-- ---- how many numbers below a bound fail a test

abbrev pub unseen : (ℕ → Bool) → ℕ → ℕ
unseen seen zero = 0
unseen seen (suc n) = (if seen n then 0 else 1) + unseen seen n

pub unseen-most : (p : ℕ → Bool) (n : ℕ) → unseen p n ≤ n
unseen-most p zero = omega arith
unseen-most p (suc n) = most (p n) (unseen p n) n (unseen-most p n)
  where
    most : (b : Bool) (count m : ℕ) → count ≤ m → (if b then 0 else 1) + count ≤ suc m
    most true count m h = omega arith
    most false count m h = omega arith

one-less : (a b : Bool) (m n : ℕ) → (a ≡ true → b ≡ true) → m ≤ n → (if b then 0 else 1) + m ≤ (if a then 0 else 1) + n
one-less true true m n so h = omega arith
one-less true false m n so h = absurd (cc (so refl))
one-less false true m n so h = omega arith
one-less false false m n so h = omega arith

unseen-less : (p q : ℕ → Bool) → ((v : ℕ) → p v ≡ true → q v ≡ true) → (n : ℕ) → unseen q n ≤ unseen p n
unseen-less p q so zero = omega arith
unseen-less p q so (suc n) = one-less (p n) (q n) (unseen q n) (unseen p n) (so n) (unseen-less p q so n)

falls-here : (a b : Bool) (m k : ℕ) → a ≡ false → b ≡ true → m ≤ k → ((if b then 0 else 1) + m) + 1 ≤ (if a then 0 else 1) + k
falls-here false true m k x y h = omega arith
falls-here false false m k x y h = absurd (cc)
falls-here true b m k x y h = absurd (cc)

falls-later : (a b : Bool) (m k : ℕ) → (a ≡ true → b ≡ true) → m + 1 ≤ k → ((if b then 0 else 1) + m) + 1 ≤ (if a then 0 else 1) + k
falls-later true true m k s h = omega arith
falls-later true false m k s h = absurd (cc (s refl))
falls-later false true m k s h = omega arith
falls-later false false m k s h = omega arith

falls-at : (p q : ℕ → Bool) → ((v : ℕ) → p v ≡ true → q v ≡ true) → (n i : ℕ) (same : Bool) → nat_eq i n ≡ same → i < suc n → p i ≡ false → q i ≡ true
    → (i < n → unseen q n + 1 ≤ unseen p n) → unseen q (suc n) + 1 ≤ unseen p (suc n)
falls-at p q so n i true is below fails passes rest =
    let eq : i ≡ n = grind (arith, nat_tests) in
    falls-here (p n) (q n) (unseen q n) (unseen p n) (subst (λ v. p v ≡ false) eq fails) (subst (λ v. q v ≡ true) eq passes) (unseen-less p q so n)
falls-at p q so n i false is below fails passes rest =
    let lt : i < n = grind (arith, nat_tests) in
    falls-later (p n) (q n) (unseen q n) (unseen p n) (so n) (rest lt)

-- one of them passes the other test
pub unseen-falls : (p q : ℕ → Bool) → ((v : ℕ) → p v ≡ true → q v ≡ true) → (n i : ℕ) → i < n → p i ≡ false → q i ≡ true → unseen q n + 1 ≤ unseen p n
unseen-falls p q so zero i below fails passes = absurd (omega arith)
unseen-falls p q so (suc n) i below fails passes = falls-at p q so n i (nat_eq i n) refl below fails passes (λ lt. unseen-falls p q so n i lt fails passes)

pub unseen-some : (p : ℕ → Bool) (n i : ℕ) → i < n → p i ≡ false → 1 ≤ unseen p n
unseen-some p n i below fails = omega (arith, unseen-falls p (λ v. true) (λ v h. refl) n i below fails refl)
