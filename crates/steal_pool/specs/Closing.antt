-- What is known of a pool at its end, and how it is taken apart, seat by seat from the last.
use Rattle.std.specs.Prelude.{◌≡◌, ℕ, suc, ◌+◌, ◌<◌, ◌≤◌, ◌^◌, List, [], ◌∷◌, ◌++◌, length, take, drop}
use Rattle.std.specs.List.{sum_by}
use mathlib.Core.Option.{some}
use lib.ListN.{get_elem?}
use Rattle.crossbeam_deque.specs.Handles.{view, worker_port, worker_view}
use Rattle.steal_pool.specs.declared.rule.Ticket.{Ticket}
use Rattle.steal_pool.specs.declared.seats.Seat.{Seat}
use Rattle.steal_pool.specs.Rule.{joined}
use Rattle.steal_pool.specs.Seats.{Deque, TicketPass, AreThieves, stolen_at, stolen_from, puts_of, pops_of, olds_of, deque_of, owners}

-- how many tickets the seat put
abbrev pub put_length : Seat → ℕ
put_length s = length (puts_of s)

-- how many tickets the seat popped
abbrev pub popped_length : Seat → ℕ
popped_length s = length (pops_of s)

-- how many tickets all seats stole from the seat j
abbrev pub stolen_length : List Seat → ℕ → ℕ
stolen_length all j = sum_by (λ (u : Seat). length (stolen_from j u)) all

-- how many tickets all seats stole from the given ones, which have the numbers j, j + 1 and so on
abbrev pub stolen_total : List Seat → ℕ → List Seat → ℕ
stolen_total all j [] = 0
stolen_total all j (s ∷ ss) = stolen_length all j + stolen_total all (suc j) ss

-- The tickets l, which are left on the deque of the seat s with the number j, are a suffix of what it put. However the
-- tickets are weighed, what it put weighs as much as what is left, what it popped and what all seats stole from it. So
-- each ticket is as often there as here: its weight is then 1, and that of every other ticket 0.
abbrev pub IsSettled : List Seat → ℕ → Seat → List Ticket → Type 0
IsSettled all j s l =
    ((gone : List Ticket) × (puts_of s ≡ gone ++ l))
    × ((h : Ticket → ℕ) → sum_by h (puts_of s) ≡ sum_by h l + sum_by h (pops_of s) + sum_by (λ (u : Seat). sum_by h (stolen_from j u)) all)

-- the lists are what is left on the deques of the given seats, which have the numbers j, j + 1 and so on
abbrev pub Settles : List Seat → ℕ → List Seat → List (List Ticket) → Type 0
Settles all j [] [] = Unit {0}
Settles all j [] (l ∷ ls) = ⊥
Settles all j (s ∷ ss) [] = ⊥
Settles all j (s ∷ ss) (l ∷ ls) = IsSettled all j s l × Settles all (suc j) ss ls

-- there are lists of what is left, one for each deque, and so many tickets are in them
abbrev pub Leaves : List Seat → ℕ → Type 0
Leaves seats left =
    (lefts : List (List Ticket)) × Settles seats 0 seats lefts × (left ≡ sum_by (λ (l : List Ticket). length l) lefts)

-- the seats are at most 64, and their counts are right
abbrev pub AreCounted : List Seat → Type 0
AreCounted seats =
    (length seats ≤ 64)
    × ((i : ℕ) (s : Seat) → get_elem? seats i ≡ some s → (s.put ≡ put_length s) × (s.popped ≡ popped_length s) × (s.put ≤ 2 ^ 57) × (s.popped ≤ 2 ^ 57))

-- no pass was joined to these seats' own yet
abbrev pub HaveNoOlds : List Seat → Type 0
HaveNoOlds seats = (i : ℕ) (s : Seat) → get_elem? seats i ≡ some s → olds_of s ≡ []

-- a seat that has its own deque and a pass on each other one of those that still stand, whatever was joined to its own
pub record IsMember (ds : List Deque) (i : ℕ) (s : Seat) : Type 0 where
  pub number : s.number ≡ i
  pub port : worker_port s.owner ≡ 0
  pub parts : (worker_view s.owner).parts + length ds ≡ 65
  pub below : AreThieves (take i ds) s.below.items
  pub above : AreThieves (drop (suc i) ds) s.above.items
  pub steals : (worker_view s.owner).steals ≡ []
  pub most : length (puts_of s) ≤ 2 ^ 57

-- these seats are a pool of their own: at most 64, each with its place as its number
abbrev pub Members : List Seat → Type 0
Members seats = (length seats ≤ 64) × ((i : ℕ) (s : Seat) → get_elem? seats i ≡ some s → IsMember (owners seats) i s)

-- the seat has taken in the pass p, and given up its own last pass q
pub record Parts (old : Seat) (p : TicketPass) (new : Seat) (q : TicketPass) : Type 0 where
  pub number : new.number ≡ old.number
  pub deque : deque_of new ≡ deque_of old
  pub port : worker_port new.owner ≡ worker_port old.owner
  pub sees : worker_view new.owner ≡ joined (worker_view old.owner) (view p)
  pub below : new.below ≡ old.below
  pub above : old.above.items ≡ new.above.items ++ q ∷ []

-- what a seat with a number below n keeps as the seat n leaves, which stole xs from it
pub record Joins (n : ℕ) (xs : List Ticket) (old new : Seat) : Type 0 where
  pub puts : puts_of new ≡ puts_of old
  pub pops : pops_of new ≡ pops_of old
  pub stolen : (j : ℕ) → j < n → stolen_from j new ≡ stolen_from j old
  pub olds : olds_of new ≡ olds_of old ++ (xs ++ [])

-- the seat s has left the seats old: they are new now, and `left` tickets were left on its deque
pub record Departs (old : List Seat) (s : Seat) (new : List Seat) (left : ℕ) : Type 0 where
  pub members : Members new
  pub count : length new ≡ length old
  pub each :
      (i : ℕ) (o o' : Seat)
      → get_elem? old i ≡ some o
      → get_elem? new i ≡ some o'
      → Joins (length old) (stolen_at s.below.items i) o o'
  pub items : List Ticket
  pub are_left : length items ≡ left
  pub suffix : (gone : List Ticket) × (puts_of s ≡ gone ++ items)
  pub whole :
      (h : Ticket → ℕ)
      → sum_by h (puts_of s)
      ≡ sum_by h items + sum_by h (pops_of s) + sum_by h (olds_of s) + sum_by (λ (o : Seat). sum_by h (stolen_from (length old) o)) old
