-- What the search keeps from one step to the next, and the order in which it moves on.
use Rattle.std.specs.Prelude.{◌≡◌, ℕ, zero, suc, ◌+◌, ◌-◌, ◌*◌, ◌/◌, ◌^◌, ◌==◌, ◌<◌, ◌≤◌, Bool, true, false, List, [], ◌∷◌, ◌++◌, length, take, slice_index}
use Rattle.std.specs.List.{list_any}
use Rattle.cnf_form.specs.Literal.{is_among, clauses_in_range}
use Rattle.cnf_form.specs.Lines.{follows}
use Rattle.cnf_form.specs.Store.{NoneSeen}
use Rattle.cnf_form.specs.declared.log.Line.{Line}
use Rattle.sat_core.specs.Analysis.{IsPlaced, Forces}
use Rattle.sat_core.specs.Answer.{AreAdded}
use Rattle.sat_core.specs.declared.search.Search.{Search}
use Rattle.sat_core.specs.declared.search.Turn.{Turn}
use Rattle.sat_core.specs.declared.search.Turn.TheVariants.{Onward, Satisfied, Refuted}

-- some literal is of the variable
abbrev pub has_variable : List ℕ → ℕ → Bool
has_variable literals variable = list_any (λ l. l / 2 == variable) literals

-- the trail is what is assigned; all of it but the decisions was forced; no clause was unit or false before a decision
pub record IsSearch (clauses : List (List ℕ)) (assigned trail places reasons starts : List ℕ) : Type 0 where
  pub same : assigned ≡ trail
  pub few : length places ≤ 2 ^ 63
  pub in_range : clauses_in_range (length places) clauses ≡ true
  pub placed : IsPlaced trail places
  pub reasoned : length reasons ≡ length trail
  pub forced : (p : ℕ) → p < length trail → is_among starts p ≡ false → Forces clauses (take p trail) (slice_index reasons p) (slice_index trail p)
  pub ascending : (i j : ℕ) → i < j → j < length starts → slice_index starts i < slice_index starts j
  pub below : (i : ℕ) → i < length starts → slice_index starts i < length trail
  pub quiet : (i : ℕ) → i < length starts → NoneSeen clauses (take (slice_index starts i) trail)

abbrev pub IsSearching : List (List ℕ) → List ℕ → Search → Type 0
IsSearching clauses assigned s = IsSearch clauses assigned s.trail.items s.places.items s.reasons.items s.starts.items

-- the lines that were added to the clauses were added to the log
pub record HasLearnt (before : List (List ℕ)) (old : List Line) (after : List (List ℕ)) (new : List Line) : Type 0 where
  pub more : List Line
  pub log : new ≡ old ++ more
  pub added : AreAdded before more after

-- a list as digits in a base, of so many places
abbrev pub rank : ℕ → ℕ → List ℕ → ℕ
rank base zero digits = 0
rank base (suc places) [] = 0
rank base (suc places) (d ∷ digits) = d * base ^ places + rank base places digits

-- what is left to the greatest list of numbers of literals per level, in lexicographic order: each level's end stands for the number of its literals and of those before
unfoldable pub to_go : ℕ → List ℕ → ℕ → ℕ
to_go variables starts count = (variables + 2) ^ (variables + 2) - rank (variables + 2) (variables + 2) (starts ++ count ∷ [])

-- a step of the search: its facts hold again, what it learnt follows and is new, and the numbers of literals per level went up
pub record GoesOn (before : List (List ℕ)) (old : Search) (after : List (List ℕ)) (assigned : List ℕ) (new : Search) : Type 0 where
  pub searching : IsSearching after assigned new
  pub sized : length new.places.items ≡ length old.places.items
  pub learnt : HasLearnt before old.lines after new.lines
  pub less : to_go (length new.places.items) new.starts.items (length new.trail.items) < to_go (length old.places.items) old.starts.items (length old.trail.items)

-- what a turn came to: a step; an assignment of all variables under which no clause is unit or false; or an empty line that follows
abbrev pub IsTurn : List (List ℕ) → Search → List (List ℕ) → List ℕ → Search → Turn → Type 0
IsTurn before old after assigned new Onward = GoesOn before old after assigned new
IsTurn before old after assigned new Satisfied = (after ≡ before) × (new.trail ≡ old.trail) × (new.places ≡ old.places) × NoneSeen before old.trail.items × ((v : ℕ) → v < length old.places.items → has_variable old.trail.items v ≡ true)
IsTurn before old after assigned new (Refuted line) = (after ≡ before) × (new.lines ≡ old.lines) × (line.clause ≡ []) × (follows before line ≡ true)
