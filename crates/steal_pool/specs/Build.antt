-- How a pool is put together, seat by seat.
use Rattle.std.specs.Prelude.{◌≡◌, ℕ, ◌-◌, ◌≤◌, ◌^◌, min, List, [], ◌∷◌, ◌++◌}
use mathlib.Core.Option.{some}
use lib.ListN.{get_elem?}
use Rattle.crossbeam_deque.specs.Handles.{view, IsPassOf, worker_port, worker_flavor, worker_view, worker_capacity, worker_index}
use Rattle.steal_pool.specs.declared.build.TheConstants.{SLOTS}
use Rattle.steal_pool.specs.declared.rule.View.{View}
use Rattle.steal_pool.specs.declared.seats.Seat.{Seat}
use Rattle.steal_pool.specs.Rule.{view_of}
use Rattle.steal_pool.specs.Seats.{Deque, TicketPass, IsSeat, capacity_of, deque_of, owners, room_of, puts_of, pops_of, stolen_at, stolen_from}

-- the view of a pass that has these parts, and by which nothing was done
abbrev pub idle : ℕ → View
idle parts = view_of parts [] [] [] []

-- nothing was stolen by any of these passes
abbrev pub HaveStolenNothing : List TicketPass → Type 0
HaveStolenNothing passes = (j : ℕ) → stolen_at passes j ≡ []

-- the seat has this number and an empty deque of its own, and has met no other seat
pub record IsNew (place : ℕ) (s : Seat) : Type 0 where
  pub number : s.number ≡ place
  pub port : worker_port s.owner ≡ 0
  pub flavor : worker_flavor s.owner ≡ 0
  pub sees : worker_view s.owner ≡ idle 64
  pub capacity : capacity_of s ≡ SLOTS
  pub room : s.room ≡ min (2 ^ 57) (capacity_of s)
  pub index : worker_index s.owner ≡ 0
  pub counts : (s.put ≡ 0) × (s.popped ≡ 0)
  pub below : s.below.items ≡ []
  pub above : s.above.items ≡ []

-- what stays of a seat that gives a pass on its deque
pub record Gives (old new : Seat) : Type 0 where
  pub number : new.number ≡ old.number
  pub deque : deque_of new ≡ deque_of old
  pub port : worker_port new.owner ≡ worker_port old.owner
  pub flavor : worker_flavor new.owner ≡ worker_flavor old.owner
  pub capacity : worker_capacity old.owner ≤ worker_capacity new.owner
  pub index : worker_index new.owner ≡ worker_index old.owner
  pub sees :
      worker_view new.owner
      ≡ view_of ((worker_view old.owner).parts - 1) (worker_view old.owner).puts (worker_view old.owner).pops (worker_view old.owner).steals (worker_view old.owner).olds
  pub same : (new.room ≡ old.room) × (new.put ≡ old.put) × (new.popped ≡ old.popped)

-- two seats gave each other a pass
pub record Meets (old old' new new' : Seat) : Type 0 where
  pub one : Gives old old'
  pub two : Gives new new'
  pub theirs : TicketPass
  pub mine : TicketPass
  pub theirs_is : IsPassOf (deque_of old) theirs × (view theirs ≡ idle 1)
  pub mine_is : IsPassOf (deque_of new) mine × (view mine ≡ idle 1)
  pub old_below : old'.below ≡ old.below
  pub old_above : old'.above.items ≡ old.above.items ++ mine ∷ []
  pub new_below : new'.below.items ≡ new.below.items ++ theirs ∷ []
  pub new_above : new'.above ≡ new.above

-- the seat with this number, of the seats that have these deques, before anything went through the pool
pub record IsFresh (ds : List Deque) (i : ℕ) (s : Seat) : Type 0 where
  pub number : s.number ≡ i
  pub seat : IsSeat ds s
  pub puts : puts_of s ≡ []
  pub pops : pops_of s ≡ []
  pub steals : (worker_view s.owner).steals ≡ []
  pub olds : (worker_view s.owner).olds ≡ []
  pub below : HaveStolenNothing s.below.items
  pub above : HaveStolenNothing s.above.items
  pub room : room_of s ≡ min (2 ^ 57) SLOTS

abbrev pub AreFresh : List Seat → Type 0
AreFresh seats = (i : ℕ) (s : Seat) → get_elem? seats i ≡ some s → IsFresh (owners seats) i s

-- nothing was put, popped or stolen by the seat
abbrev pub IsUnused : Seat → Type 0
IsUnused s = (puts_of s ≡ []) × (pops_of s ≡ []) × ((j : ℕ) → stolen_from j s ≡ [])
