-- Rules of a grammar over tokens of a type T. A rule says which tokens spell which value (Spells), which tokens are the front
-- of a phrase (Begun), and how a phrase is read from left to right with one token of lookahead (run).
-- Spells and Begun say what a language is and look at no token ahead; run is a recursive descent (Wirth, Compiler Construction, 1996).
-- Places, of a type K, tell where a token was refused.
use Rattle.std.specs.Prelude.{◌≡◌, ℕ, zero, suc, Bool, true, false, ◌||◌, ◌&&◌, if◌then◌else◌, List, [], ◌∷◌, ◌++◌, length, Option, Some, None, Result, Ok, Err, ◌⊎◌}

-- why reading stopped
pub data Fault (K : Type 0) : Type 0 where
  -- the token goes on with no phrase, or the tokens end too soon
  Refused : K → Fault K
  -- the token goes on with a phrase, but not with the token after it
  Ahead : K → Fault K
  -- the token opens a level too many
  TooDeep : Fault K

-- the fault, and the tokens from there on
pub record Halt (K T : Type 0) : Type 0 where
  pub kind : Fault K
  pub left : List T

abbrev pub refused : {K T : Type 0} → K → List T → Halt K T
refused place ts = record { kind = Refused place; left = ts }

abbrev pub too_deep : {K T : Type 0} → List T → Halt K T
too_deep ts = record { kind = TooDeep; left = ts }

-- a value and the tokens after it
abbrev pub Outcome : Type 0 → Type 0 → Type 0 → Type 0
Outcome K T A = Result (A × List T) (Halt K T)

infixl 10 ◌>>=◌
abbrev pub ◌>>=◌ : {A B E : Type 0} → Result A E → (A → Result B E) → Result B E
(Ok x) >>= f = f x
(Err e) >>= f = Err e

pub record Rule (K T A : Type 0) : Type 1 where
  -- the tokens are a phrase with this value
  pub Spells : List T → A → Type 0
  -- The tokens are the front of a phrase, and open no level too many. The phrase itself may need one level more.
  pub Begun : List T → Type 0
  -- reads a phrase at the front
  pub run : List T → Outcome K T A
  -- what a phrase may begin with, and whether it may be empty
  pub begins : T → Bool
  pub nullable : Bool
  -- what a phrase that could end here may go on with
  pub goes_on : T → Bool

abbrev pub never : {T : Type 0} → T → Bool
never t = false

abbrev pub heads : {T : Type 0} → (T → Bool) → List T → Bool
heads c [] = false
heads c (t ∷ ts) = c t

-- ---- one token

pub record IsOne {T : Type 0} (test : T → Bool) (ts : List T) (t : T) : Type 0 where
  pub alone : ts ≡ t ∷ []
  pub passes : test t ≡ true

abbrev pub OneBegun : {T : Type 0} → (T → Bool) → List T → Type 0
OneBegun test [] = Unit {0}
OneBegun test (t ∷ []) = test t ≡ true
OneBegun test (t ∷ u ∷ ts) = ⊥

abbrev pub run_one : {K T : Type 0} → K → (T → Bool) → List T → Outcome K T T
run_one place test [] = Err (refused place [])
run_one place test (t ∷ ts) = if test t then Ok (t, ts) else Err (refused place (t ∷ ts))

abbrev pub one : {K T : Type 0} → K → (T → Bool) → Rule K T T
one place test = record { Spells = IsOne test; Begun = OneBegun test; run = run_one place test; begins = test; nullable = false; goes_on = never }

-- ---- two tokens that are looked at together: where the second is another, the fault is told at the first

pub record AreTwo {T : Type 0} (c d : T → Bool) (ts : List T) (v : T × T) : Type 0 where
  pub alone : ts ≡ v.0 ∷ v.1 ∷ []
  pub first : c v.0 ≡ true
  pub second : d v.1 ≡ true

abbrev pub TwoBegun : {T : Type 0} → (T → Bool) → (T → Bool) → List T → Type 0
TwoBegun c d [] = Unit {0}
TwoBegun c d (t ∷ []) = c t ≡ true
TwoBegun c d (t ∷ u ∷ []) = (c t ≡ true) × (d u ≡ true)
TwoBegun c d (t ∷ u ∷ w ∷ ts) = ⊥

abbrev pub run_second : {K T : Type 0} → K → (T → Bool) → T → List T → Outcome K T (T × T)
run_second place d t [] = Err (record { kind = Ahead place; left = t ∷ [] })
run_second place d t (u ∷ ts) = if d u then Ok ((t, u), ts) else Err (record { kind = Ahead place; left = t ∷ u ∷ ts })

abbrev pub run_two : {K T : Type 0} → K → (T → Bool) → (T → Bool) → List T → Outcome K T (T × T)
run_two place c d [] = Err (refused place [])
run_two place c d (t ∷ ts) = if c t then run_second place d t ts else Err (refused place (t ∷ ts))

abbrev pub two : {K T : Type 0} → K → (T → Bool) → (T → Bool) → Rule K T (T × T)
two place c d = record { Spells = AreTwo c d; Begun = TwoBegun c d; run = run_two place c d; begins = c; nullable = false; goes_on = never }

-- ---- the end of the tokens

abbrev pub run_end : {K T : Type 0} → K → List T → Outcome K T (Unit {0})
run_end place [] = Ok (tt, [])
run_end place (t ∷ ts) = Err (refused place (t ∷ ts))

abbrev pub end : {K T : Type 0} → K → Rule K T (Unit {0})
end place = record { Spells = λ ts _. ts ≡ []; Begun = λ ts. ts ≡ []; run = run_end place; begins = never; nullable = true; goes_on = λ _. true }

-- ---- nothing, with a value

pub record IsEmpty {T A : Type 0} (a : A) (ts : List T) (v : A) : Type 0 where
  pub none : ts ≡ []
  pub value : v ≡ a

abbrev pub empty : {K T A : Type 0} → A → Rule K T A
empty a = record { Spells = IsEmpty a; Begun = λ ts. ts ≡ []; run = λ ts. Ok (a, ts); begins = never; nullable = true; goes_on = never }

-- ---- no phrase at all

abbrev pub refuse : {K T A : Type 0} → K → Rule K T A
refuse place = record { Spells = λ ts v. ⊥; Begun = λ ts. ts ≡ []; run = λ ts. Err (refused place ts); begins = never; nullable = false; goes_on = never }

-- ---- one after the other

pub record AreBoth {K T A B : Type 0} (p : Rule K T A) (q : Rule K T B) (ts : List T) (v : A × B) : Type 0 where
  pub front : List T
  pub back : List T
  pub parts : ts ≡ front ++ back
  pub first : p.Spells front v.0
  pub second : q.Spells back v.1

pub record SecondBegun {K T A B : Type 0} (p : Rule K T A) (q : Rule K T B) (ts : List T) : Type 0 where
  pub front : List T
  pub back : List T
  pub value : A
  pub parts : ts ≡ front ++ back
  pub first : p.Spells front value
  pub second : q.Begun back

abbrev pub run_seq : {K T A B : Type 0} → (List T → Outcome K T A) → (List T → Outcome K T B) → List T → Outcome K T (A × B)
run_seq p q ts = p ts >>= λ a. q a.1 >>= λ b. Ok ((a.0, b.0), b.1)

abbrev pub seq : {K T A B : Type 0} → Rule K T A → Rule K T B → Rule K T (A × B)
seq p q = record {
  Spells = AreBoth p q;
  Begun = λ ts. p.Begun ts ⊎ SecondBegun p q ts;
  run = run_seq p.run q.run;
  begins = λ t. p.begins t || (p.nullable && q.begins t);
  nullable = p.nullable && q.nullable;
  goes_on = λ t. q.goes_on t || (q.nullable && p.goes_on t);
}

-- ---- a function of the value

pub record IsMade {K T A B : Type 0} (f : A → B) (p : Rule K T A) (ts : List T) (v : B) : Type 0 where
  pub inner : A
  pub spells : p.Spells ts inner
  pub value : v ≡ f inner

abbrev pub run_made : {K T A B : Type 0} → (A → B) → (List T → Outcome K T A) → List T → Outcome K T B
run_made f p ts = p ts >>= λ a. Ok (f a.0, a.1)

abbrev pub made : {K T A B : Type 0} → (A → B) → Rule K T A → Rule K T B
made f p = record { Spells = IsMade f p; Begun = p.Begun; run = run_made f p.run; begins = p.begins; nullable = p.nullable; goes_on = p.goes_on }

-- ---- a function of the value and of the first token of the phrase, as for the place of a node

abbrev pub first : {T : Type 0} → List T → Option T
first [] = None
first (t ∷ ts) = Some t

pub record IsPlaced {K T A B : Type 0} (f : Option T → A → B) (p : Rule K T A) (ts : List T) (v : B) : Type 0 where
  pub inner : A
  pub spells : p.Spells ts inner
  pub value : v ≡ f (first ts) inner

abbrev pub run_placed : {K T A B : Type 0} → (Option T → A → B) → (List T → Outcome K T A) → List T → Outcome K T B
run_placed f p ts = p ts >>= λ a. Ok (f (first ts) a.0, a.1)

abbrev pub placed : {K T A B : Type 0} → (Option T → A → B) → Rule K T A → Rule K T B
placed f p = record { Spells = IsPlaced f p; Begun = p.Begun; run = run_placed f p.run; begins = p.begins; nullable = p.nullable; goes_on = p.goes_on }

-- ---- a choice by the first token

abbrev pub alt : {K T A : Type 0} → Rule K T A → Rule K T A → Rule K T A
alt p q = record {
  Spells = λ ts v. p.Spells ts v ⊎ q.Spells ts v;
  Begun = λ ts. p.Begun ts ⊎ q.Begun ts;
  run = λ ts. if heads p.begins ts then p.run ts else q.run ts;
  begins = λ t. p.begins t || q.begins t;
  nullable = q.nullable;
  goes_on = λ t. p.goes_on t || (q.goes_on t || (q.nullable && p.begins t));
}

-- ---- none or one

abbrev pub maybe : {K T A : Type 0} → Rule K T A → Rule K T (Option A)
maybe p = alt (made Some p) (empty None)

-- ---- any number

-- The record is the step of AreMany.
pub record HasFirst {K T A : Type 0} (p : Rule K T A) (v : A) (more : List T → Type 0) (ts : List T) : Type 0 where
  pub front : List T
  pub back : List T
  pub parts : ts ≡ front ++ back
  pub first : p.Spells front v
  pub others : more back

abbrev pub AreMany : {K T A : Type 0} → Rule K T A → List T → List A → Type 0
AreMany p ts [] = ts ≡ []
AreMany p ts (v ∷ vs) = HasFirst p v (λ back. AreMany p back vs) ts

-- some whole phrases, and the front of one
pub record ManyBegun {K T A : Type 0} (p : Rule K T A) (ts : List T) : Type 0 where
  pub front : List T
  pub back : List T
  pub values : List A
  pub parts : ts ≡ front ++ back
  pub wholes : AreMany p front values
  pub last : p.Begun back

-- The number bounds the turns. Each takes a token, so the count of tokens is enough.
abbrev pub run_many : {K T A : Type 0} → Rule K T A → ℕ → List T → Outcome K T (List A)
run_many p zero ts = Ok ([], ts)
run_many p (suc n) ts =
    if heads p.begins ts then (p.run ts >>= λ a. run_many p n a.1 >>= λ b. Ok (a.0 ∷ b.0, b.1))
    else Ok ([], ts)

abbrev pub many : {K T A : Type 0} → Rule K T A → Rule K T (List A)
many p = record {
  Spells = AreMany p;
  Begun = ManyBegun p;
  run = λ ts. run_many p (length ts) ts;
  begins = p.begins;
  nullable = true;
  goes_on = λ t. p.begins t || p.goes_on t;
}

-- ---- a rule whose first and following tokens are told

abbrev pub sealed : {K T A : Type 0} → (T → Bool) → Bool → (T → Bool) → Rule K T A → Rule K T A
sealed b n g r = record { Spells = r.Spells; Begun = r.Begun; run = r.run; begins = b; nullable = n; goes_on = g }

-- ---- one or more

abbrev pub listed : {A : Type 0} → A × List A → List A
listed x = x.0 ∷ x.1

abbrev pub some : {K T A : Type 0} → Rule K T A → Rule K T (List A)
some p = sealed p.begins false (λ t. p.begins t || p.goes_on t) (made listed (seq p (many p)))

-- ---- a token of the test and then a phrase, whose value is kept

abbrev pub behind : {K T A : Type 0} → K → (T → Bool) → Rule K T A → Rule K T A
behind place c p = sealed c false p.goes_on (made (λ x. x.1) (seq (one place c) p))

-- ---- a phrase, whose value is kept, and then a token of the test

abbrev pub ended : {K T A : Type 0} → Rule K T A → K → (T → Bool) → Rule K T A
ended p place c = made (λ x. x.0) (seq p (one place c))

-- ---- one or more, with a token of the test between each two

abbrev pub separated : {K T A : Type 0} → K → (T → Bool) → Rule K T A → Rule K T (List A)
separated place c p = sealed p.begins false (λ t. p.goes_on t || c t) (made listed (seq p (many (behind place c p))))

-- ---- nesting

-- the rule, but a token of the test is one level too many
abbrev pub unless : {K T A : Type 0} → (T → Bool) → Rule K T A → Rule K T A
unless c q = record {
  Spells = q.Spells;
  Begun = q.Begun;
  run = λ ts. if heads c ts then Err (too_deep ts) else q.run ts;
  begins = q.begins;
  nullable = q.nullable;
  goes_on = λ t. q.goes_on t || (q.nullable && c t);
}

-- a rule for what is nested, if a level is left
pub data Below (K T A : Type 0) : Type 1 where
  bottom : Below K T A
  above : Rule K T A → Below K T A

-- a nested form that is required: it begins with a token of the test, and another one is refused
abbrev pub must : {K T A B : Type 0} → K → (T → Bool) → (Rule K T A → Rule K T B) → Below K T A → Rule K T B
must place c form bottom = unless c (refuse place)
must place c form (above inner) = form inner

-- a form that begins with a token of the test; what comes after the token nests one level deeper
abbrev pub form : {K T A B C : Type 0} → K → (T → Bool) → (T × B → C) → (Rule K T A → Rule K T B) → Rule K T A → Rule K T C
form place c f after inner = made f (seq (one place c) (after inner))

abbrev pub nested : {K T A B C : Type 0} → K → (T → Bool) → (T → Bool) → (T × B → C) → (Rule K T A → Rule K T B) → Below K T A → Rule K T C
nested place c g f after below = sealed c false g (must place c (form place c f after) below)
