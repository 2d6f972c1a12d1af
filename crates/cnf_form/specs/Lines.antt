-- When a line follows from clauses by its hints, and when a log refutes: reverse unit propagation
-- (Goldberg and Novikov 2003), with hints as in the LRAT format (Cruz-Filipe, Heule, Hunt, Kaufmann, Schneider-Kamp 2017).
use Rattle.std.specs.Prelude.{ℕ, Bool, true, false, not, ◌&&◌, List, [], ◌∷◌, ◌++◌, Option, None, Some, slice_get, map}
use Rattle.std.specs.List.{list_any}
use Rattle.std.specs.Option.{option_map}
use Rattle.cnf_form.specs.Literal.{negation, is_tautology, look}
use Rattle.cnf_form.specs.declared.look.Look.{Look}
use Rattle.cnf_form.specs.declared.look.Look.TheVariants.{Falsified, Unit, Other}
use Rattle.cnf_form.specs.declared.log.Line.{Line}

abbrev pub is_empty_list : {X : Type 0} → List X → Bool
is_empty_list [] = true
is_empty_list (x ∷ xs) = false

-- what comes of a hint: no clause of that number, or one that is neither false nor unit, shows nothing; a false one must be the last; after a unit one its literal is true
abbrev pub hint_says : Option Look → Bool → (ℕ → Bool) → Bool
hint_says None last rest = false
hint_says (Some Falsified) last rest = last
hint_says (Some (Unit l)) last rest = rest l
hint_says (Some Other) last rest = false

-- the hints, taken in order from the literals that are false, end in a false clause
abbrev pub hints_refute : List (List ℕ) → List ℕ → List ℕ → Bool
hints_refute cs falses [] = false
hints_refute cs falses (h ∷ hs) = hint_says (option_map (look falses) (slice_get cs h)) (is_empty_list hs) (λ l. hints_refute cs (falses ++ negation l ∷ []) hs)

-- the line is no tautology, and where all its literals are false its hints end in a false clause
abbrev pub follows : List (List ℕ) → Line → Bool
follows cs line = not (is_tautology line.clause) && hints_refute cs line.clause line.hints

-- each line follows from the clauses and the earlier lines
abbrev pub accepts : List (List ℕ) → List Line → Bool
accepts cs [] = true
accepts cs (line ∷ lines) = follows cs line && accepts (cs ++ line.clause ∷ []) lines

abbrev pub is_empty_line : Line → Bool
is_empty_line line = is_empty_list line.clause

-- each line follows, and some line is empty
abbrev pub refutes : List (List ℕ) → List Line → Bool
refutes cs lines = accepts cs lines && list_any is_empty_line lines

-- the clauses that lines derive
abbrev pub clause_of : Line → List ℕ
clause_of line = line.clause

abbrev pub clauses_of : List Line → List (List ℕ)
clauses_of lines = map clause_of lines
