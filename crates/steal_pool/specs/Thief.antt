-- What an attempt to steal answers and changes.
use Rattle.std.specs.Prelude.{◌≡◌, ◌≢◌, ℕ, ◌<◌, List, [], ◌∷◌, ◌++◌, set}
use mathlib.Core.Option.{some}
use lib.ListN.{get_elem?}
use Rattle.steal_pool.specs.declared.rule.Ticket.{Ticket as Number}
use Rattle.steal_pool.specs.declared.seats.Pool.{Pool}
use Rattle.steal_pool.specs.declared.seats.Seat.{Seat}
use Rattle.steal_pool.specs.declared.thief.Stolen.{Stolen}
use Rattle.steal_pool.specs.declared.thief.Stolen.TheVariants.{Ticket, Empty, Lost}
use Rattle.steal_pool.specs.Seats.{Deque, TicketPass, IsThief, stolen_by, puts_of, pops_of, number_of, room_of, seat_count}

-- a fact for an answer with a ticket, and one for an answer without
abbrev pub MatchStolen : Stolen → Type 0 → (Number → Type 0) → Type 0
MatchStolen (Ticket t) nothing taken = taken t
MatchStolen Empty nothing taken = nothing
MatchStolen Lost nothing taken = nothing

-- the list of what was stolen has grown by the ticket of the answer, or stayed where the answer has none
abbrev pub Grows : Stolen → List Number → List Number → Type 0
Grows r was is = MatchStolen r (is ≡ was) (λ t. is ≡ was ++ t ∷ [])

-- it is the number of another seat of the pool
abbrev pub IsOther : Pool → Seat → ℕ → Type 0
IsOther pool seat victim = (victim < seat_count pool) × (victim ≢ number_of seat)

-- the same seat, which has put and popped the same
abbrev pub SameOwn : Seat → Seat → Type 0
SameOwn old new =
    (number_of new ≡ number_of old) × (room_of new ≡ room_of old) × (puts_of new ≡ puts_of old) × (pops_of new ≡ pops_of old)

-- at this place of the list stands a thief's pass of the deque
abbrev pub HasThief : Deque → ℕ → List TicketPass → Type 0
HasThief d at ps = (p : TicketPass) × (get_elem? ps at ≡ some p) × IsThief d p

-- the pass at this place, and no other, has changed: it is still of the deque, and the fact holds of what it stole
-- before and now
abbrev pub ChangesAt : Deque → ℕ → List TicketPass → List TicketPass → (List Number → List Number → Type 0) → Type 0
ChangesAt d at old new fact =
    (p : TicketPass) × (q : TicketPass)
    × (get_elem? old at ≡ some p)
    × (new ≡ set old at q)
    × IsThief d q
    × fact (stolen_by p) (stolen_by q)
