-- What the watches, the lists and the queue of a store say of its clauses under the assigned literals.
use Rattle.std.specs.Prelude.{◌≡◌, ℕ, ◌<◌, ◌≤◌, Bool, true, false, List, ◌++◌, length, take, Some, slice_index, slice_get, ◌⊎◌}
use Rattle.cnf_form.specs.Literal.{negation, is_among, is_distinct}
use Rattle.sat_watch.specs.Lists.{list_at}
use Rattle.sat_watch.specs.Watches.{watch_at, other_watch}
use Rattle.sat_watch.specs.declared.watch.Watch.{Watch}
use Rattle.sat_watch.specs.declared.watcher.Watcher.{Watcher}

abbrev pub is_false : List ℕ → ℕ → Bool
is_false trail l = is_among trail (negation l)

-- all literals of the clause are false
abbrev pub AreFalse : List ℕ → List ℕ → Type 0
AreFalse trail c = (q : ℕ) → is_among c q ≡ true → is_false trail q ≡ true

-- all literals of the clause but this one are false
abbrev pub AreFalseBut : List ℕ → List ℕ → ℕ → Type 0
AreFalseBut trail c l = (q : ℕ) → is_among c q ≡ true → (q ≡ l → ⊥) → is_false trail q ≡ true

-- no literal twice, and none beside its negation
pub record IsTrail (trail : List ℕ) : Type 0 where
  pub distinct : is_distinct trail ≡ true
  pub consistent : (l : ℕ) → is_among trail l ≡ true → is_false trail l ≡ false

-- the watched literals are of the clause, which is entered at both
pub record IsListed (clauses lists : List (List ℕ)) (id : ℕ) (w : Watch) : Type 0 where
  pub clause : List ℕ
  pub found : slice_get clauses id ≡ Some clause
  pub first_in : is_among clause w.first ≡ true
  pub second_in : is_among clause w.second ≡ true
  pub first_listed : is_among (list_at lists w.first) id ≡ true
  pub second_listed : is_among (list_at lists w.second) id ≡ true

-- in each front of the trail where one literal is false the other is true
abbrev pub Guards : List ℕ → ℕ → ℕ → Type 0
Guards trail a b = (k : ℕ) → is_false (take k trail) a ≡ true → is_among (take k trail) b ≡ true

-- two different literals are watched, and each guards the other
pub record IsGuarded (trail : List ℕ) (w : Watch) : Type 0 where
  pub differ : w.first ≡ w.second → ⊥
  pub first : Guards trail w.first w.second
  pub second : Guards trail w.second w.first

-- a literal of the clause is among the first ones of the trail
pub record IsTrueSince (clauses : List (List ℕ)) (trail : List ℕ) (id count : ℕ) : Type 0 where
  pub within : count ≤ length trail
  pub clause : List ℕ
  pub found : slice_get clauses id ≡ Some clause
  pub literal : ℕ
  pub inside : is_among clause literal ≡ true
  pub holds : is_among (take count trail) literal ≡ true

abbrev pub IsAscending : List ℕ → Type 0
IsAscending ns = (i j : ℕ) → i < j → j < length ns → slice_index ns i ≤ slice_index ns j

-- each clause is in the queue or guarded by its watches, under which it is entered; the first in the queue are true
pub record IsWatch (clauses : List (List ℕ)) (trail walked : List ℕ) (watches : List Watch) (lists : List (List ℕ)) (queue since : List ℕ) : Type 0 where
  pub plain : IsTrail trail
  pub rest : List ℕ
  pub front : trail ≡ walked ++ rest
  pub room : length clauses ≤ length watches
  pub listed : (id : ℕ) → ((watch_at watches id).first ≡ (watch_at watches id).second → ⊥) → IsListed clauses lists id (watch_at watches id)
  pub guarded : (id : ℕ) → id < length clauses → is_among queue id ≡ false → IsGuarded walked (watch_at watches id)
  pub behind : length since ≤ length queue
  pub true_since : (i : ℕ) → i < length since → IsTrueSince clauses trail (slice_index queue i) (slice_index since i)
  pub ascending : IsAscending since

abbrev pub IsWatching : List (List ℕ) → List ℕ → Watcher → Type 0
IsWatching clauses trail w = IsWatch clauses trail w.walked w.watches.items w.lists w.queue.items w.since.items

-- a clause that watches the literal is in the queue, or its other watch is true
abbrev pub IsHandled : List ℕ → List ℕ → List Watch → ℕ → ℕ → Type 0
IsHandled queue walked watches lit id = (is_among queue id ≡ true) ⊎ ((other : ℕ) → other_watch (watch_at watches id) lit ≡ Some other → is_among walked other ≡ true)

-- a clause doesn't watch the literal
abbrev pub IsStale : List Watch → ℕ → ℕ → Type 0
IsStale watches lit id = (other : ℕ) → other_watch (watch_at watches id) lit ≡ Some other → ⊥
