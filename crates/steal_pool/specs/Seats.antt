-- What a clause says of a pool and its seats. A seat is known by the lists of what it put, popped and stole.
use Rattle.std.specs.Prelude.{◌≡◌, ℕ, zero, suc, ◌+◌, ◌-◌, ◌<◌, ◌≤◌, ◌^◌, All, slice_index_or, nat_lt, if◌then◌else◌, List, [], ◌∷◌, length, map, take, drop}
use Rattle.std.specs.declared.alloc.Global.{Global}
use mathlib.Core.Option.{some}
use lib.ListN.{get_elem?}
use Rattle.atomic_blocks.specs.Lent.{RowsId}
use Rattle.crossbeam_deque.specs.Handles.{Pass, view, IsPassOf, worker_deque, stealer_deque, worker_port, worker_flavor, worker_view, worker_capacity, worker_index}
use Rattle.steal_pool.specs.declared.rule.Ticket.{Ticket}
use Rattle.steal_pool.specs.declared.rule.View.{View}
use Rattle.steal_pool.specs.declared.seats.Pool.{Pool}
use Rattle.steal_pool.specs.declared.seats.Seat.{Seat}

-- which deque it is
abbrev pub Deque : Type 0
Deque = RowsId × Global

abbrev pub TicketPass : Type 0
TicketPass = Pass Ticket View Global

-- the deques of a pool, seat by seat
abbrev pub deques_of : Pool → List Deque
deques_of pool = map stealer_deque pool.stealers.items

-- how many seats a pool has
abbrev pub seat_count : Pool → ℕ
seat_count pool = length pool.stealers.items

abbrev pub number_of : Seat → ℕ
number_of seat = seat.number

abbrev pub room_of : Seat → ℕ
room_of seat = seat.room

-- the slots that the seat's deque has
abbrev pub capacity_of : Seat → ℕ
capacity_of seat = worker_capacity seat.owner

-- the deque on which the seat puts
abbrev pub deque_of : Seat → Deque
deque_of seat = worker_deque seat.owner

-- the deques of the seats, seat by seat
abbrev pub owners : List Seat → List Deque
owners seats = map deque_of seats

-- what the seat put, in order
abbrev pub puts_of : Seat → List Ticket
puts_of seat = (worker_view seat.owner).puts

-- what the seat popped, in order
abbrev pub pops_of : Seat → List Ticket
pops_of seat = (worker_view seat.owner).pops

-- what the passes stole that were joined to the seat's own
abbrev pub olds_of : Seat → List Ticket
olds_of seat = (worker_view seat.owner).olds

-- what was stolen by the pass, in order
abbrev pub stolen_by : TicketPass → List Ticket
stolen_by p = (view p).steals

-- what was stolen by the pass at this place
abbrev pub stolen_at : List TicketPass → ℕ → List Ticket
stolen_at [] j = []
stolen_at (p ∷ ps) zero = stolen_by p
stolen_at (p ∷ ps) (suc j) = stolen_at ps j

-- what the seat stole from the seat j, in order
abbrev pub stolen_from : ℕ → Seat → List Ticket
stolen_from j seat =
    if nat_lt j seat.number
    then stolen_at seat.below.items j
    else (if nat_lt seat.number j then stolen_at seat.above.items (j - seat.number - 1) else [])

-- it is a thief's pass of this deque, to which no other was joined
abbrev pub IsThief : Deque → TicketPass → Type 0
IsThief d p = IsPassOf d p × ((view p).parts ≡ 1) × ((view p).olds ≡ [])

-- the passes are thieves' passes of these deques, in order
abbrev pub AreThieves : List Deque → List TicketPass → Type 0
AreThieves [] [] = Unit {0}
AreThieves [] (p ∷ ps) = ⊥
AreThieves (d ∷ ds) [] = ⊥
AreThieves (d ∷ ds) (p ∷ ps) = IsThief d p × AreThieves ds ps

-- The seat has the deque of its number, with the owner's pass, and a pass on each other one. Its counts are right, and
-- its deque still has the slots that it began with.
pub record IsSeat (deques : List Deque) (seat : Seat) : Type 0 where
  pub own : get_elem? deques seat.number ≡ some (worker_deque seat.owner)
  pub within : seat.number < length deques
  pub port : worker_port seat.owner ≡ 0
  pub flavor : worker_flavor seat.owner ≡ 0
  pub parts : (worker_view seat.owner).parts + length deques ≡ 65
  pub below : AreThieves (take seat.number deques) seat.below.items
  pub above : AreThieves (drop (suc seat.number) deques) seat.above.items
  pub room : seat.room ≤ worker_capacity seat.owner
  pub index : worker_index seat.owner ≤ seat.put
  pub put : seat.put ≡ length (puts_of seat)
  pub put_most : seat.put ≤ 2 ^ 57
  pub popped : seat.popped ≡ length (pops_of seat)
  pub popped_most : seat.popped ≤ 2 ^ 57
  pub few : length deques ≤ 64

-- the seat is one of the pool's, and no pass was joined to its own
abbrev pub IsSeatOf : Pool → Seat → Type 0
IsSeatOf pool seat = IsSeat (deques_of pool) seat × ((worker_view seat.owner).steals ≡ []) × (olds_of seat ≡ [])

-- these are all seats of the pool, each at the place of its number
pub record AreSeatsOf (pool : Pool) (seats : List Seat) : Type 0 where
  pub count : length seats ≡ seat_count pool
  pub ours : All (IsSeatOf pool) seats
  pub numbers : (i : ℕ) (d : Seat) → i < length seats → number_of (slice_index_or seats i d) ≡ i

-- the same seat, which has stolen the same
abbrev pub SameSteals : Seat → Seat → Type 0
SameSteals old new =
    (number_of new ≡ number_of old) × (room_of new ≡ room_of old) × ((j : ℕ) → stolen_from j new ≡ stolen_from j old)
