-- Literals and clauses under truth values, and under a list of literals that are false.
-- A literal is twice its variable, plus one where it is negated, as in the AIGER and DIMACS literature.
use Rattle.std.specs.Prelude.{◌≡◌, ℕ, ◌+◌, ◌-◌, ◌/◌, ◌%◌, ◌==◌, Bool, true, false, not, ◌&&◌, if◌then◌else◌, List, [], ◌∷◌, slice_index_or, length, nat_lt}
use Rattle.std.specs.List.{filter, list_any, list_all, AllByRecursion}
use Rattle.cnf_form.specs.declared.look.Look.{Look}
use Rattle.cnf_form.specs.declared.look.Look.TheVariants.{Falsified, Unit, Other}

-- the other literal of the variable
abbrev pub negation : ℕ → ℕ
negation l = if l % 2 == 0 then l + 1 else l - 1

abbrev pub is_among : List ℕ → ℕ → Bool
is_among ls l = list_any (λ q. q == l) ls

-- no literal stands twice
abbrev pub is_distinct : List ℕ → Bool
is_distinct [] = true
is_distinct (l ∷ ls) = not (is_among ls l) && is_distinct ls

-- each literal's variable is below the number
abbrev pub clause_in_range : ℕ → List ℕ → Bool
clause_in_range variables c = list_all (λ l. nat_lt (l / 2) variables) c

abbrev pub clauses_in_range : ℕ → List (List ℕ) → Bool
clauses_in_range variables cs = list_all (clause_in_range variables) cs

-- the value of a literal where variable k has the k-th truth value
abbrev pub literal_value : List Bool → ℕ → Bool
literal_value v l = if l % 2 == 0 then slice_index_or v (l / 2) false else not (slice_index_or v (l / 2) false)

-- some literal is true
abbrev pub clause_value : List Bool → List ℕ → Bool
clause_value v c = list_any (literal_value v) c

-- every clause is true
abbrev pub Satisfies : List Bool → List (List ℕ) → Type 0
Satisfies v cs = AllByRecursion (λ c. clause_value v c ≡ true) cs

-- some list of truth values makes every clause true
abbrev pub Satisfiable : ℕ → List (List ℕ) → Type 0
Satisfiable variables cs = (v : List Bool) × (length v ≡ variables) × Satisfies v cs

-- a clause holds a literal and its negation
abbrev pub is_tautology : List ℕ → Bool
is_tautology c = list_any (λ l. is_among c (negation l)) c

-- the literals of the clause that aren't false
abbrev pub open_literals : List ℕ → List ℕ → List ℕ
open_literals falses c = filter (λ l. not (is_among falses l)) c

-- what a clause says by its literals that aren't false: there is none; or they all are one, whose negation isn't false either; or else
abbrev pub look_open : List ℕ → List ℕ → Look
look_open falses [] = Falsified
look_open falses (l ∷ ls) = if list_all (λ q. q == l) ls && not (is_among falses (negation l)) then Unit l else Other

-- what a clause, read as the set of its literals, says where these literals are false
abbrev pub look : List ℕ → List ℕ → Look
look falses c = look_open falses (open_literals falses c)
