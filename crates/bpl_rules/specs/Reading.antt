-- What reading by a grammar promises, in words of the grammar alone: of which tokens are phrases, and which fronts have begun.
-- The grammar gives a rule for each number of levels that phrases may nest.
use Rattle.std.specs.Prelude.{◌≡◌, ℕ, suc, ◌+◌, List, [], ◌∷◌, ◌++◌}
use Rattle.bpl_rules.specs.Rules.{Fault, Refused, Ahead, TooDeep, Rule}

-- With the first token left no program goes on. With none left the tokens are no program.
abbrev pub IsRefused : {K T A : Type 0} → Rule K T A → List T → List T → Type 0
IsRefused {A = A} r before [] = (value : A) → r.Spells before value → ⊥
IsRefused r before (t ∷ left) = r.Begun (before ++ t ∷ []) → ⊥

-- The first token left continues no program, however deep that nests.
pub record RefusedAt {K T A : Type 0} (whole : ℕ → Rule K T A) (depth : ℕ) (ts left : List T) : Type 0 where
  pub before : List T
  pub parts : ts ≡ before ++ left
  pub begun : (whole depth).Begun before
  pub refused : (more : ℕ) → IsRefused (whole (more + depth)) before left

-- The first token left continues a program, but with the token after it, or the end, none.
pub record AheadAt {K T A : Type 0} (whole : ℕ → Rule K T A) (depth : ℕ) (ts left : List T) : Type 0 where
  pub before : List T
  pub token : T
  pub rest : List T
  pub parts : ts ≡ before ++ token ∷ rest
  pub at : left ≡ token ∷ rest
  pub begun : (whole depth).Begun (before ++ token ∷ [])
  pub refused : (more : ℕ) → IsRefused (whole (more + depth)) (before ++ token ∷ []) rest

-- The first token left opens a level too many: the tokens before it keep to the levels, with it they do not, and with one level more they do.
pub record TooDeepAt {K T A : Type 0} (whole : ℕ → Rule K T A) (depth : ℕ) (ts left : List T) : Type 0 where
  pub before : List T
  pub token : T
  pub rest : List T
  pub parts : ts ≡ before ++ token ∷ rest
  pub at : left ≡ token ∷ rest
  pub begun : (whole depth).Begun before
  pub over : (whole depth).Begun (before ++ token ∷ []) → ⊥
  pub deeper : (whole (suc depth)).Begun (before ++ token ∷ [])

abbrev pub StopsAt : {K T A : Type 0} → (ℕ → Rule K T A) → ℕ → List T → Fault K → List T → Type 0
StopsAt whole depth ts (Refused place) left = RefusedAt whole depth ts left
StopsAt whole depth ts (Ahead place) left = AheadAt whole depth ts left
StopsAt whole depth ts TooDeep left = TooDeepAt whole depth ts left

-- What has begun is the front of a phrase, which may need one level more, and each front of a phrase has begun.
pub record AreFronts {K T A : Type 0} (whole : ℕ → Rule K T A) (depth : ℕ) : Type 0 where
  pub ends : (x : List T) → (whole depth).Begun x → (more : List T) × (value : A) × (whole (suc depth)).Spells (x ++ more) value
  pub begins : (x more : List T) (value : A) → (whole depth).Spells (x ++ more) value → (whole depth).Begun x
