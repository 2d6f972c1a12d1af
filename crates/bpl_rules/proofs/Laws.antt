-- The laws of a rule, and lemmas on lists and results that they need.
use Rattle.std.proofs.Common.{◌≡◌, Bool, true, false, cond, ◌||◌, List, [], ◌∷◌, ◌++◌, Result, Ok, Err, ◌⊎◌, inl, inr, refl, sym, ap, ◌∙◌}
use Rattle.bpl_rules.specs.Rules.{Fault, Refused, Ahead, TooDeep, Halt, Outcome, ◌>>=◌, Rule, heads, first}

-- ---- results

pub bind_ok : {E A B : Type 0} (r : Result A E) (f : A → Result B E) (y : B) → (r >>= f) ≡ Ok y → (x : A) × (r ≡ Ok x) × (f x ≡ Ok y)
bind_ok (Ok x) f y e = (x, refl, e)
bind_ok (Err d) f y e = absurd cc

abbrev pub done : {E A : Type 0} → A → Result A E
done x = Ok x

abbrev pub fails : {E A : Type 0} → E → Result A E
fails s = Err s

pub ok_is : {E A : Type 0} (x y : A) → done {E = E} x ≡ done y → x ≡ y
ok_is x y e = cc

pub err_is : {E A : Type 0} (x y : E) → fails {A = A} x ≡ fails y → x ≡ y
err_is x y e = cc

pub no_ok : {E A : Type 0} (s : E) (x : A) → fails s ≡ Ok x → ⊥
no_ok s x e = cc

pub no_err : {E A : Type 0} (x : A) (s : E) → done x ≡ Err s → ⊥
no_err x s e = cc

pub bind_err : {E A B : Type 0} (r : Result A E) (f : A → Result B E) (s : E) → (r >>= f) ≡ Err s → (r ≡ Err s) ⊎ ((x : A) × (r ≡ Ok x) × (f x ≡ Err s))
bind_err (Ok x) f s e = inr (x, refl, e)
bind_err {B = B} (Err d) f s e = inl (let same : d ≡ s = err_is {A = B} d s e in ap Err same)

pub chosen : {A : Type 0} (b : Bool) (x y z : A) → cond b x y ≡ z → ((b ≡ true) × (x ≡ z)) ⊎ ((b ≡ false) × (y ≡ z))
chosen true x y z e = inl (refl, e)
chosen false x y z e = inr (refl, e)

-- ---- truth values

pub or_right : (a b : Bool) → b ≡ true → (a || b) ≡ true
or_right true b h = refl
or_right false b h = h

pub or_left : (a b : Bool) → a ≡ true → (a || b) ≡ true
or_left true b h = refl
or_left false b h = absurd cc

pub neither : (a b : Bool) → (a || b) ≡ false → (a ≡ false) × (b ≡ false)
neither true b h = absurd cc
neither false b h = (refl, h)

pub bool_false : (b c : Bool) → (b ≡ true → c ≡ true) → c ≡ false → b ≡ false
bool_false true c h e = let k = h refl in absurd cc
bool_false false c h e = refl

pub true_false : (b : Bool) → b ≡ true → b ≡ false → ⊥
true_false b h k = cc

-- ---- fronts of lists

pub first-append : {T : Type 0} (x a b : List T) → first a ≡ first b → first (x ++ a) ≡ first (x ++ b)
first-append [] a b e = e
first-append (t ∷ x) a b e = refl

pub heads_first : {T : Type 0} (c : T → Bool) (a b : List T) → first a ≡ first b → heads c a ≡ heads c b
heads_first c [] [] e = refl
heads_first c [] (t ∷ b) e = absurd cc
heads_first c (t ∷ a) [] e = absurd cc
heads_first c (t ∷ a) (u ∷ b) e = let same : t ≡ u = cc in ap c same

pub first_splits : {T : Type 0} (ts x rest other : List T) → ts ≡ x ++ rest → first other ≡ first rest → first (x ++ other) ≡ first ts
first_splits ts x rest other splits h = first-append x other rest h ∙ ap first (sym splits)

pub nil_append : {T : Type 0} (x y : List T) → [] ≡ x ++ y → y ≡ []
nil_append [] y e = sym e
nil_append (t ∷ x) y e = absurd cc

-- of two ways to cut a list, one is the longer front
pub cuts : {T : Type 0} (x y a b : List T) → x ++ y ≡ a ++ b → ((z : List T) × (a ≡ x ++ z)) ⊎ ((z : List T) × (x ≡ a ++ z) × (b ≡ z ++ y))
cuts [] y a b e = inl (a, refl)
cuts (t ∷ x) y [] b e = inr (t ∷ x, refl, sym e)
cuts (t ∷ x) y (u ∷ a) b e =
    let head : t ≡ u = cc in
    let back : x ++ y ≡ a ++ b = cc in
    elim (cuts x y a b back) [
      | inl h ↦ inl (h.0, ap (λ w. w ∷ a) (sym head) ∙ ap (λ w. t ∷ w) h.1)
      | inr h ↦ inr (h.0, ap (λ w. t ∷ w) h.1 ∙ ap (λ w. w ∷ (a ++ h.0)) head, h.2)
    ]

abbrev pub after_first : {T : Type 0} → List T → List T
after_first [] = []
after_first (t ∷ ts) = ts

-- nothing that the test allows comes first
abbrev pub Stops : {T : Type 0} → (T → Bool) → List T → Type 0
Stops g [] = Unit {0}
Stops g (t ∷ ts) = g t ≡ false

pub Stops_heads : {T : Type 0} (g : T → Bool) (ts : List T) → Stops g ts → heads g ts ≡ false
Stops_heads g [] h = refl
Stops_heads g (t ∷ ts) h = h

pub Stops_less : {T : Type 0} (f g : T → Bool) (ts : List T) → ((t : T) → g t ≡ false → f t ≡ false) → Stops g ts → Stops f ts
Stops_less f g [] h s = tt
Stops_less f g (t ∷ ts) h s = h t s

abbrev pub Starts : {T : Type 0} → (T → Bool) → Bool → List T → Type 0
Starts begins nullable [] = nullable ≡ true
Starts begins nullable (t ∷ ts) = begins t ≡ true

-- what is there begins so
abbrev pub Fronts : {T : Type 0} → (T → Bool) → List T → Type 0
Fronts begins [] = Unit {0}
Fronts begins (t ∷ ts) = begins t ≡ true

pub Fronts_wider : {T : Type 0} (f g : T → Bool) (ts : List T) → ((t : T) → f t ≡ true → g t ≡ true) → Fronts f ts → Fronts g ts
Fronts_wider f g [] h s = tt
Fronts_wider f g (t ∷ ts) h s = h t s

-- no token with which the second begins is one that the first goes on with
abbrev pub Apart : {T : Type 0} → (T → Bool) → (T → Bool) → Type 0
Apart {T = T} f g = (t : T) → g t ≡ true → f t ≡ false

abbrev pub Within : {T : Type 0} → (T → Bool) → (T → Bool) → Type 0
Within {T = T} f g = (t : T) → f t ≡ true → g t ≡ true

pub front_stops : {T : Type 0} (f c : T → Bool) (ts : List T) → Apart f c → Fronts c ts → Stops f ts
front_stops f c [] apart h = tt
front_stops f c (t ∷ ts) apart h = apart t h

-- ---- the laws

-- the tokens that a fault looks at are the same
abbrev pub Same : {K T : Type 0} → Fault K → List T → List T → Type 0
Same (Refused k) a b = first a ≡ first b
Same (Ahead k) a b = (first a ≡ first b) × (first (after_first a) ≡ first (after_first b))
Same TooDeep a b = first a ≡ first b

pub Same_first : {K T : Type 0} (k : Fault K) (a b : List T) → Same k a b → first a ≡ first b
Same_first (Refused k) a b h = h
Same_first (Ahead k) a b h = h.0
Same_first TooDeep a b h = h

-- What was read is a phrase, and it is read so whatever comes after the token behind it.
pub record Taken {K T A : Type 0} (Spells : List T → A → Type 0) (run : List T → Outcome K T A) (ts : List T) (v : A) (rest : List T) : Type 0 where
  pub phrase : List T
  pub splits : ts ≡ phrase ++ rest
  pub spells : Spells phrase v
  pub steady : (other : List T) → first other ≡ first rest → run (phrase ++ other) ≡ Ok (v, other)

pub record LeadsTo {T : Type 0} (Begun : List T → Type 0) (phrase left : List T) : Type 0 where
  pub token : T
  pub others : List T
  pub is : left ≡ token ∷ others
  pub with_it : Begun (phrase ++ token ∷ [])

-- a token that is refused for the one after it still goes on with a phrase
abbrev pub Leads : {K T : Type 0} → Fault K → (List T → Type 0) → List T → List T → Type 0
Leads (Refused k) Begun phrase left = Unit {0}
Leads (Ahead k) Begun phrase left = LeadsTo Begun phrase left
Leads TooDeep Begun phrase left = Unit {0}

pub leads_map : {K T : Type 0} (k : Fault K) (B C : List T → Type 0) (x y left : List T) → ((z : List T) → B (x ++ z) → C (y ++ z)) → Leads k B x left → Leads k C y left
leads_map (Refused k) B C x y left f h = tt
leads_map (Ahead k) B C x y left f h = record { token = h.token; others = h.others; is = h.is; with_it = f (h.token ∷ []) h.with_it }
leads_map TooDeep B C x y left f h = tt

-- What comes before a fault begins a phrase, and with the token at the fault it is refused whatever follows.
pub record Halted {K T A : Type 0} (Begun : List T → Type 0) (run : List T → Outcome K T A) (ts : List T) (s : Halt K T) : Type 0 where
  pub phrase : List T
  pub splits : ts ≡ phrase ++ s.left
  pub begun : Begun phrase
  pub leads : Leads s.kind Begun phrase s.left
  pub stuck : (other : List T) → Same s.kind other s.left → run (phrase ++ other) ≡ Err (record { kind = s.kind; left = other })

-- nothing is left but what a fault looks at
abbrev pub NoneAfter : {K T : Type 0} → Fault K → List T → Type 0
NoneAfter (Refused k) left = left ≡ []
NoneAfter (Ahead k) left = after_first left ≡ []
NoneAfter TooDeep left = left ≡ []

pub none_after : {K T : Type 0} (k : Fault K) (left : List T) → left ≡ [] → NoneAfter k left
none_after (Refused k) left h = h
none_after (Ahead k) left h = ap after_first h
none_after TooDeep left h = h

abbrev pub AtEnd : {K T A : Type 0} → Outcome K T A → Type 0
AtEnd (Ok a) = a.1 ≡ []
AtEnd (Err s) = NoneAfter s.kind s.left

pub record Lawful {K T A : Type 0} (r : Rule K T A) : Type 0 where
  -- what is read is a phrase; a phrase is read; a fault is at the first token that no phrase goes on with
  pub sound : (ts : List T) (v : A) (rest : List T) → r.run ts ≡ Ok (v, rest) → Taken r.Spells r.run ts v rest
  pub complete : (x : List T) (v : A) (rest : List T) → r.Spells x v → Stops r.goes_on rest → r.run (x ++ rest) ≡ Ok (v, rest)
  pub halts : (ts : List T) (s : Halt K T) → r.run ts ≡ Err s → Halted r.Begun r.run ts s
  pub starts : (x : List T) (v : A) → r.Spells x v → Starts r.begins r.nullable x
  -- what has begun: nothing, a phrase, a front of what has begun; and reading that comes to its end
  pub nothing : r.Begun []
  pub whole : (x : List T) (v : A) → r.Spells x v → r.Begun x
  pub fronts : (x y : List T) → r.Begun (x ++ y) → r.Begun x
  pub begun_starts : (x : List T) → r.Begun x → Fronts r.begins x
  pub reaches : (x : List T) → r.Begun x → AtEnd (r.run x)

module _ {K T A : Type 0} (q : Rule K T A) (Q : Lawful q) where
  nil_outcome : (o : Outcome K T A) → q.run [] ≡ o → AtEnd o
  nil_outcome (Ok a) e = let t = Q.sound [] a.0 a.1 e in nil_append t.phrase a.1 t.splits
  nil_outcome (Err s) e = let t = Q.halts [] s e in none_after s.kind s.left (nil_append t.phrase s.left t.splits)

  pub nil_at_end : AtEnd (q.run [])
  nil_at_end = nil_outcome (q.run []) refl
