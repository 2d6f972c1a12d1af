-- Lines that add to what unit propagation gives.
use Rattle.std.specs.Prelude.{◌≡◌, ℕ, true, false, not, ◌==◌, List, [], ◌∷◌, ◌++◌, Some, slice_get, map}
use Rattle.std.specs.List.{filter}
use Rattle.cnf_form.specs.Literal.{negation, is_among, is_tautology}
use Rattle.cnf_form.specs.declared.log.Line.{Line}

-- the least set of literals that holds these and each literal of a clause whose other literals are false, that is, whose negations it holds
pub data Closure (cs : List (List ℕ)) (ls : List ℕ) : ℕ → Type 0 where
  given : {l : ℕ} → is_among ls l ≡ true → Closure cs ls l
  forced : {l : ℕ} (id : ℕ) (c : List ℕ) → slice_get cs id ≡ Some c → is_among c l ≡ true → ((q : ℕ) → is_among c q ≡ true → (q ≡ l → ⊥) → Closure cs ls (negation q)) → Closure cs ls l

-- no clause has only literals that are false in the closure
abbrev pub IsQuiet : List (List ℕ) → List ℕ → Type 0
IsQuiet cs ls = (id : ℕ) (c : List ℕ) → slice_get cs id ≡ Some c → ((q : ℕ) → is_among c q ≡ true → Closure cs ls (negation q)) → ⊥

-- the negations of the clause's other literals
abbrev pub others : List ℕ → ℕ → List ℕ
others c l = map negation (filter (λ q. not (q == l)) c)

-- the clause is no tautology, and has a literal that the closure of the others' negations doesn't hold, where no clause is false
pub record IsNew (cs : List (List ℕ)) (c : List ℕ) : Type 0 where
  pub plain : is_tautology c ≡ false
  pub literal : ℕ
  pub holds : is_among c literal ≡ true
  pub quiet : IsQuiet cs (others c literal)
  pub absent : Closure cs (others c literal) literal → ⊥

-- each line is new over the clauses and the earlier lines
abbrev pub AreNew : List (List ℕ) → List Line → Type 0
AreNew cs [] = Unit {0}
AreNew cs (line ∷ lines) = IsNew cs line.clause × AreNew (cs ++ line.clause ∷ []) lines
