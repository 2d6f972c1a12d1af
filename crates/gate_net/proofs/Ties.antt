-- The clauses of each gate say what the gate carries.
use Rattle.std.proofs.Common.{◌≡◌, ℕ, zero, suc, ◌+◌, ◌*◌, ◌/◌, ◌%◌, ◌<◌, ◌≤◌, Bool, true, false, not, ◌&&◌, ◌||◌, List, [], ◌∷◌, ◌++◌, length, length-append, refl, ap, sym, ◌∙◌, subst, arith, if◌then◌else◌}
use Rattle.std.specs.List.{AllByRecursion}
use Rattle.std.proofs.lemmas.Bool.{and_from, and_parts}
use Rattle.cnf_form.specs.Literal.{literal_value, clause_value, Satisfies}
use Rattle.gate_net.specs.Net.{xor, wire}
use Rattle.gate_net.specs.Encoding.{Ties}

pub positive_value : (v : List Bool) (k : ℕ) → literal_value v (2 * k) ≡ wire v k
positive_value v k =
    let even : (2 * k) % 2 ≡ 0 = omega arith in
    let half : 2 * k / 2 ≡ k = omega arith in
    rw (even, half) refl

pub negative_value : (v : List Bool) (k : ℕ) → literal_value v (2 * k + 1) ≡ not (wire v k)
negative_value v k =
    let odd : (2 * k + 1) % 2 ≡ 1 = omega arith in
    let half : (2 * k + 1) / 2 ≡ k = omega arith in
    rw (odd, half) refl

-- a clause of one, two and three literals
one_value : (v : List Bool) (l : ℕ) (p : Bool) → literal_value v l ≡ p → clause_value v (l ∷ []) ≡ (p || false)
one_value v l p e = ap (λ (x : Bool). x || false) e

two_value : (v : List Bool) (l m : ℕ) (p q : Bool) → literal_value v l ≡ p → literal_value v m ≡ q → clause_value v (l ∷ m ∷ []) ≡ (p || (q || false))
two_value v l m p q e f = ap (λ (x : Bool). x || (literal_value v m || false)) e ∙ ap (λ (y : Bool). p || (y || false)) f

three_value : (v : List Bool) (l m n : ℕ) (p q r : Bool) → literal_value v l ≡ p → literal_value v m ≡ q → literal_value v n ≡ r → clause_value v (l ∷ m ∷ n ∷ []) ≡ (p || (q || (r || false)))
three_value v l m n p q r e f g =
    ap (λ (x : Bool). x || (literal_value v m || (literal_value v n || false))) e
    ∙ ap (λ (y : Bool). p || (y || (literal_value v n || false))) f
    ∙ ap (λ (z : Bool). p || (q || (z || false))) g

sat_push : (v : List Bool) (cs : List (List ℕ)) (c : List ℕ) → Satisfies v cs → clause_value v c ≡ true → Satisfies v (cs ++ c ∷ [])
sat_push v [] c all one = (one, tt)
sat_push v (d ∷ cs) c all one = (all.0, sat_push v cs c all.1 one)

sat_pop : (v : List Bool) (cs : List (List ℕ)) (c : List ℕ) → Satisfies v (cs ++ c ∷ []) → Satisfies v cs × (clause_value v c ≡ true)
sat_pop v [] c all = (tt, all.0)
sat_pop v (d ∷ cs) c all = let r = sat_pop v cs c all.1 in ((all.0, r.0), r.1)

-- one more clause
pub ties_one : (old new : List (List ℕ)) (c : List ℕ) → new ≡ old ++ c ∷ [] → Ties old new (λ v. clause_value v c ≡ true)
ties_one old new c e v = (
  (λ s. sat_pop v old c (subst (Satisfies v) e s)),
  (λ s. subst (Satisfies v) (sym e) (sat_push v old c s.0 s.1)),
)

-- how many clauses there are after one, three and four more
one_count : (old new : List (List ℕ)) (c : List ℕ) → new ≡ old ++ c ∷ [] → length new ≡ length old + 1
one_count old new c e = ap length e ∙ length-append old (c ∷ [])

pub one_more : (old new : List (List ℕ)) (c : List ℕ) → new ≡ old ++ c ∷ [] → length new ≤ length old + 4
one_more old new c e = omega (arith, one_count old new c e)

pub three_more : (c0 c1 c2 c3 : List (List ℕ)) (a b c : List ℕ) → c1 ≡ c0 ++ a ∷ [] → c2 ≡ c1 ++ b ∷ [] → c3 ≡ c2 ++ c ∷ [] → length c3 ≤ length c0 + 4
three_more c0 c1 c2 c3 a b c e f g = omega (arith, one_count c0 c1 a e, one_count c1 c2 b f, one_count c2 c3 c g)

pub four_more : (c0 c1 c2 c3 c4 : List (List ℕ)) (a b c d : List ℕ) → c1 ≡ c0 ++ a ∷ [] → c2 ≡ c1 ++ b ∷ [] → c3 ≡ c2 ++ c ∷ [] → c4 ≡ c3 ++ d ∷ [] → length c4 ≤ length c0 + 4
four_more c0 c1 c2 c3 c4 a b c d e f g h = omega (arith, one_count c0 c1 a e, one_count c1 c2 b f, one_count c2 c3 c g, one_count c3 c4 d h)

-- one fact after another
both_ties : (a b c : List (List ℕ)) (f g : List Bool → Type 0) → Ties a b f → Ties b c g → Ties a c (λ v. f v × g v)
both_ties a b c f g p q v = (
  (λ s. let r = (q v).0 s in let t = (p v).0 r.0 in (t.0, (t.1, r.1))),
  (λ s. (q v).1 ((p v).1 (s.0, s.1.0), s.1.1)),
)

pub ties_same : (a b : List (List ℕ)) (f g : List Bool → Type 0) → Ties a b f → ((v : List Bool) → f v → g v) → ((v : List Bool) → g v → f v) → Ties a b g
ties_same a b f g p to from v = (
  (λ s. let r = (p v).0 s in (r.0, to v r.1)),
  (λ s. (p v).1 (s.0, from v s.1)),
)

-- whether two truth values are the same
abbrev same : Bool → Bool → Bool
same true b = b
same false b = not b

same_is : (x y : Bool) → same x y ≡ true → x ≡ y
same_is true true e = refl
same_is true false e = cc
same_is false true e = cc
same_is false false e = refl

is_same : (x y : Bool) → x ≡ y → same x y ≡ true
is_same true true e = refl
is_same true false e = cc
is_same false true e = cc
is_same false false e = refl

no_law : (x : Bool) → (not x || false) ≡ same x false
no_law true = refl
no_law false = refl

yes_law : (x : Bool) → (x || false) ≡ same x true
yes_law true = refl
yes_law false = refl

and_law : (x a b : Bool) → ((not x || (a || false)) && ((not x || (b || false)) && (x || (not a || (not b || false))))) ≡ same x (a && b)
and_law true true true = refl
and_law true true false = refl
and_law true false true = refl
and_law true false false = refl
and_law false true true = refl
and_law false true false = refl
and_law false false true = refl
and_law false false false = refl

xor_law : (x a b : Bool)
    → ((not x || (a || (b || false))) && ((not x || (not a || (not b || false))) && ((x || (not a || (b || false))) && (x || (a || (not b || false))))))
    ≡ same x (xor a b)
xor_law true true true = refl
xor_law true true false = refl
xor_law true false true = refl
xor_law true false false = refl
xor_law false true true = refl
xor_law false true false = refl
xor_law false false true = refl
xor_law false false false = refl

mux_law : (x p y n : Bool)
    → ((not p || (not x || (y || false))) && ((not p || (x || (not y || false))) && ((p || (not x || (n || false))) && (p || (x || (not n || false))))))
    ≡ same x (if p then y else n)
mux_law true true true true = refl
mux_law true true true false = refl
mux_law true true false true = refl
mux_law true true false false = refl
mux_law true false true true = refl
mux_law true false true false = refl
mux_law true false false true = refl
mux_law true false false false = refl
mux_law false true true true = refl
mux_law false true true false = refl
mux_law false true false true = refl
mux_law false true false false = refl
mux_law false false true true = refl
mux_law false false true false = refl
mux_law false false false true = refl
mux_law false false false false = refl

-- three clauses, and four, that together say that x is y
module _ (p q r x y : Bool) (law : (p && (q && r)) ≡ same x y) where
  three_say : p ≡ true → q ≡ true → r ≡ true → x ≡ y
  three_say a b c = same_is x y (sym law ∙ and_from p (q && r) a (and_from q r b c))

  three_said : x ≡ y → (p ≡ true) × (q ≡ true) × (r ≡ true)
  three_said e =
      let h = and_parts p (q && r) (law ∙ is_same x y e) in
      let k = and_parts q r h.1 in
      (h.0, k.0, k.1)

module _ (p q r s x y : Bool) (law : (p && (q && (r && s))) ≡ same x y) where
  four_say : p ≡ true → q ≡ true → r ≡ true → s ≡ true → x ≡ y
  four_say a b c d = same_is x y (sym law ∙ and_from p (q && (r && s)) a (and_from q (r && s) b (and_from r s c d)))

  four_said : x ≡ y → (p ≡ true) × (q ≡ true) × (r ≡ true) × (s ≡ true)
  four_said e =
      let h = and_parts p (q && (r && s)) (law ∙ is_same x y e) in
      let k = and_parts q (r && s) h.1 in
      let m = and_parts r s k.1 in
      (h.0, k.0, m.0, m.1)

-- a literal that is true where the wire is, and one that is true where it is not
on_of : (l k : ℕ) → l ≡ 2 * k → (v : List Bool) → literal_value v l ≡ wire v k
on_of l k e v = ap (literal_value v) e ∙ positive_value v k

off_of : (l k : ℕ) → l ≡ 2 * k + 1 → (v : List Bool) → literal_value v l ≡ not (wire v k)
off_of l k e v = ap (literal_value v) e ∙ negative_value v k

pub yes_ties : (c0 c1 : List (List ℕ)) (to on : ℕ) → on ≡ 2 * to → c1 ≡ c0 ++ (on ∷ []) ∷ [] → Ties c0 c1 (λ v. wire v to ≡ true)
yes_ties c0 c1 to on is e =
    ties_same c0 c1 (λ v. clause_value v (on ∷ []) ≡ true) (λ v. wire v to ≡ true) (ties_one c0 c1 (on ∷ []) e)
    (λ v s. same_is (wire v to) true (sym (yes_law (wire v to)) ∙ sym (one_value v on (wire v to) (on_of on to is v)) ∙ s))
    (λ v s. one_value v on (wire v to) (on_of on to is v) ∙ yes_law (wire v to) ∙ is_same (wire v to) true s)

pub no_ties : (c0 c1 : List (List ℕ)) (to off : ℕ) → off ≡ 2 * to + 1 → c1 ≡ c0 ++ (off ∷ []) ∷ [] → Ties c0 c1 (λ v. wire v to ≡ false)
no_ties c0 c1 to off is e =
    ties_same c0 c1 (λ v. clause_value v (off ∷ []) ≡ true) (λ v. wire v to ≡ false) (ties_one c0 c1 (off ∷ []) e)
    (λ v s. same_is (wire v to) false (sym (no_law (wire v to)) ∙ sym (one_value v off (not (wire v to)) (off_of off to is v)) ∙ s))
    (λ v s. one_value v off (not (wire v to)) (off_of off to is v) ∙ no_law (wire v to) ∙ is_same (wire v to) false s)

-- the clause is true
abbrev Holds : List ℕ → List Bool → Type 0
Holds c v = clause_value v c ≡ true

-- three clauses whose values are known, and four
module _ (a b c : List ℕ) (p q r x y : List Bool → Bool)
    (ep : (v : List Bool) → clause_value v a ≡ p v) (eq : (v : List Bool) → clause_value v b ≡ q v) (er : (v : List Bool) → clause_value v c ≡ r v)
    (law : (v : List Bool) → (p v && (q v && r v)) ≡ same (x v) (y v)) where
  three_ties : (c0 c1 c2 c3 : List (List ℕ)) → c1 ≡ c0 ++ a ∷ [] → c2 ≡ c1 ++ b ∷ [] → c3 ≡ c2 ++ c ∷ [] → Ties c0 c3 (λ v. x v ≡ y v)
  three_ties c0 c1 c2 c3 e f g =
      ties_same c0 c3 (λ v. (Holds a v × Holds b v) × Holds c v) (λ v. x v ≡ y v)
      (both_ties c0 c2 c3 (λ v. Holds a v × Holds b v) (Holds c)
      (both_ties c0 c1 c2 (Holds a) (Holds b) (ties_one c0 c1 a e) (ties_one c1 c2 b f))
      (ties_one c2 c3 c g))
      (λ v t. three_say (p v) (q v) (r v) (x v) (y v) (law v) (sym (ep v) ∙ t.0.0) (sym (eq v) ∙ t.0.1) (sym (er v) ∙ t.1))
      (λ v t. let k = three_said (p v) (q v) (r v) (x v) (y v) (law v) t in ((ep v ∙ k.0, eq v ∙ k.1), er v ∙ k.2))

module _ (a b c d : List ℕ) (p q r s x y : List Bool → Bool)
    (ep : (v : List Bool) → clause_value v a ≡ p v) (eq : (v : List Bool) → clause_value v b ≡ q v) (er : (v : List Bool) → clause_value v c ≡ r v) (es : (v : List Bool) → clause_value v d ≡ s v)
    (law : (v : List Bool) → (p v && (q v && (r v && s v))) ≡ same (x v) (y v)) where
  four_ties : (c0 c1 c2 c3 c4 : List (List ℕ)) → c1 ≡ c0 ++ a ∷ [] → c2 ≡ c1 ++ b ∷ [] → c3 ≡ c2 ++ c ∷ [] → c4 ≡ c3 ++ d ∷ [] → Ties c0 c4 (λ v. x v ≡ y v)
  four_ties c0 c1 c2 c3 c4 e f g h =
      ties_same c0 c4 (λ v. ((Holds a v × Holds b v) × Holds c v) × Holds d v) (λ v. x v ≡ y v)
      (both_ties c0 c3 c4 (λ v. (Holds a v × Holds b v) × Holds c v) (Holds d)
      (both_ties c0 c2 c3 (λ v. Holds a v × Holds b v) (Holds c)
      (both_ties c0 c1 c2 (Holds a) (Holds b) (ties_one c0 c1 a e) (ties_one c1 c2 b f))
      (ties_one c2 c3 c g))
      (ties_one c3 c4 d h))
      (λ v t. four_say (p v) (q v) (r v) (s v) (x v) (y v) (law v) (sym (ep v) ∙ t.0.0.0) (sym (eq v) ∙ t.0.0.1) (sym (er v) ∙ t.0.1) (sym (es v) ∙ t.1))
      (λ v t. let k = four_said (p v) (q v) (r v) (s v) (x v) (y v) (law v) t in (((ep v ∙ k.0, eq v ∙ k.1), er v ∙ k.2), es v ∙ k.3))

-- the literals of the wires of a gate with two, and what they are
module _ (to a b on off a_on a_off b_on b_off : ℕ)
    (on_is : on ≡ 2 * to) (off_is : off ≡ 2 * to + 1) (a_on_is : a_on ≡ 2 * a) (a_off_is : a_off ≡ 2 * a + 1) (b_on_is : b_on ≡ 2 * b) (b_off_is : b_off ≡ 2 * b + 1) where
  pub and_ties : (c0 c1 c2 c3 : List (List ℕ)) → c1 ≡ c0 ++ (off ∷ a_on ∷ []) ∷ [] → c2 ≡ c1 ++ (off ∷ b_on ∷ []) ∷ [] → c3 ≡ c2 ++ (on ∷ a_off ∷ b_off ∷ []) ∷ []
      → Ties c0 c3 (λ v. wire v to ≡ (wire v a && wire v b))
  and_ties c0 c1 c2 c3 e f g =
      three_ties (off ∷ a_on ∷ []) (off ∷ b_on ∷ []) (on ∷ a_off ∷ b_off ∷ [])
      (λ v. not (wire v to) || (wire v a || false))
      (λ v. not (wire v to) || (wire v b || false))
      (λ v. wire v to || (not (wire v a) || (not (wire v b) || false)))
      (λ v. wire v to) (λ v. wire v a && wire v b)
      (λ v. two_value v off a_on (not (wire v to)) (wire v a) (off_of off to off_is v) (on_of a_on a a_on_is v))
      (λ v. two_value v off b_on (not (wire v to)) (wire v b) (off_of off to off_is v) (on_of b_on b b_on_is v))
      (λ v. three_value v on a_off b_off (wire v to) (not (wire v a)) (not (wire v b)) (on_of on to on_is v) (off_of a_off a a_off_is v) (off_of b_off b b_off_is v))
      (λ v. and_law (wire v to) (wire v a) (wire v b))
      c0 c1 c2 c3 e f g

  pub xor_ties : (c0 c1 c2 c3 c4 : List (List ℕ))
      → c1 ≡ c0 ++ (off ∷ a_on ∷ b_on ∷ []) ∷ [] → c2 ≡ c1 ++ (off ∷ a_off ∷ b_off ∷ []) ∷ [] → c3 ≡ c2 ++ (on ∷ a_off ∷ b_on ∷ []) ∷ [] → c4 ≡ c3 ++ (on ∷ a_on ∷ b_off ∷ []) ∷ []
      → Ties c0 c4 (λ v. wire v to ≡ xor (wire v a) (wire v b))
  xor_ties c0 c1 c2 c3 c4 e f g h =
      four_ties (off ∷ a_on ∷ b_on ∷ []) (off ∷ a_off ∷ b_off ∷ []) (on ∷ a_off ∷ b_on ∷ []) (on ∷ a_on ∷ b_off ∷ [])
      (λ v. not (wire v to) || (wire v a || (wire v b || false)))
      (λ v. not (wire v to) || (not (wire v a) || (not (wire v b) || false)))
      (λ v. wire v to || (not (wire v a) || (wire v b || false)))
      (λ v. wire v to || (wire v a || (not (wire v b) || false)))
      (λ v. wire v to) (λ v. xor (wire v a) (wire v b))
      (λ v. three_value v off a_on b_on (not (wire v to)) (wire v a) (wire v b) (off_of off to off_is v) (on_of a_on a a_on_is v) (on_of b_on b b_on_is v))
      (λ v. three_value v off a_off b_off (not (wire v to)) (not (wire v a)) (not (wire v b)) (off_of off to off_is v) (off_of a_off a a_off_is v) (off_of b_off b b_off_is v))
      (λ v. three_value v on a_off b_on (wire v to) (not (wire v a)) (wire v b) (on_of on to on_is v) (off_of a_off a a_off_is v) (on_of b_on b b_on_is v))
      (λ v. three_value v on a_on b_off (wire v to) (wire v a) (not (wire v b)) (on_of on to on_is v) (on_of a_on a a_on_is v) (off_of b_off b b_off_is v))
      (λ v. xor_law (wire v to) (wire v a) (wire v b))
      c0 c1 c2 c3 c4 e f g h

module _ (to pick one other on off pick_on pick_off one_on one_off other_on other_off : ℕ)
    (on_is : on ≡ 2 * to) (off_is : off ≡ 2 * to + 1) (pick_on_is : pick_on ≡ 2 * pick) (pick_off_is : pick_off ≡ 2 * pick + 1)
    (one_on_is : one_on ≡ 2 * one) (one_off_is : one_off ≡ 2 * one + 1) (other_on_is : other_on ≡ 2 * other) (other_off_is : other_off ≡ 2 * other + 1) where
  pub mux_ties : (c0 c1 c2 c3 c4 : List (List ℕ))
      → c1 ≡ c0 ++ (pick_off ∷ off ∷ one_on ∷ []) ∷ [] → c2 ≡ c1 ++ (pick_off ∷ on ∷ one_off ∷ []) ∷ [] → c3 ≡ c2 ++ (pick_on ∷ off ∷ other_on ∷ []) ∷ [] → c4 ≡ c3 ++ (pick_on ∷ on ∷ other_off ∷ []) ∷ []
      → Ties c0 c4 (λ v. wire v to ≡ (if wire v pick then wire v one else wire v other))
  mux_ties c0 c1 c2 c3 c4 e f g h =
      four_ties (pick_off ∷ off ∷ one_on ∷ []) (pick_off ∷ on ∷ one_off ∷ []) (pick_on ∷ off ∷ other_on ∷ []) (pick_on ∷ on ∷ other_off ∷ [])
      (λ v. not (wire v pick) || (not (wire v to) || (wire v one || false)))
      (λ v. not (wire v pick) || (wire v to || (not (wire v one) || false)))
      (λ v. wire v pick || (not (wire v to) || (wire v other || false)))
      (λ v. wire v pick || (wire v to || (not (wire v other) || false)))
      (λ v. wire v to) (λ v. if wire v pick then wire v one else wire v other)
      (λ v. three_value v pick_off off one_on (not (wire v pick)) (not (wire v to)) (wire v one) (off_of pick_off pick pick_off_is v) (off_of off to off_is v) (on_of one_on one one_on_is v))
      (λ v. three_value v pick_off on one_off (not (wire v pick)) (wire v to) (not (wire v one)) (off_of pick_off pick pick_off_is v) (on_of on to on_is v) (off_of one_off one one_off_is v))
      (λ v. three_value v pick_on off other_on (wire v pick) (not (wire v to)) (wire v other) (on_of pick_on pick pick_on_is v) (off_of off to off_is v) (on_of other_on other other_on_is v))
      (λ v. three_value v pick_on on other_off (wire v pick) (wire v to) (not (wire v other)) (on_of pick_on pick pick_on_is v) (on_of on to on_is v) (off_of other_off other other_off_is v))
      (λ v. mux_law (wire v to) (wire v pick) (wire v one) (wire v other))
      c0 c1 c2 c3 c4 e f g h
