-- A steal keeps the seat.
use Rattle.std.proofs.Common.{◌≡◌, ◌≢◌, ℕ, suc, ◌+◌, ◌-◌, ◌<◌, ◌≤◌, Vec, Global, ltb, Bool, cond, true, false, List, [], length, take, drop, sym, refl, ap, ◌∙◌, subst, arith}
use Rattle.std.proofs.lemmas.Bool.{lt-ltb, le-ltb, ltb-true}
use mathlib.Core.Option.{some}
use lib.ListN.{get_elem?}
use Rattle.steal_pool.specs.declared.seats.Seat.{Seat}
use Rattle.steal_pool.specs.declared.rule.Ticket.{Ticket}
use Rattle.steal_pool.specs.declared.thief.Stolen.{Stolen}
use Rattle.steal_pool.specs.Thief.{Grows, HasThief, ChangesAt}
use Rattle.steal_pool.specs.Seats.{Deque, TicketPass, AreThieves, IsSeat, stolen_by, stolen_at, stolen_from}
use Rattle.steal_pool.proofs.Passes.{thief_at, thieves_set, stolen_at_is, stolen_at_set, stolen_at_else, at_take, at_drop, at_within}

thieves_after : (ds : List Deque) (d : Deque) (at : ℕ) (old new : List TicketPass) (r : Stolen) → AreThieves ds old → get_elem? ds at ≡ some d → ChangesAt d at old new (Grows r) → AreThieves ds new
thieves_after ds d at old new r all here h = subst (AreThieves ds) (sym h.3) (thieves_set ds old at d h.1 all here h.4)

grown_at : (d : Deque) (at : ℕ) (old new : List TicketPass) (r : Stolen) → ChangesAt d at old new (Grows r) → Grows r (stolen_at old at) (stolen_at new at)
grown_at d at old new r h =
    subst (λ (l : List TicketPass). Grows r (stolen_at old at) (stolen_at l at)) (sym h.3)
    (subst (λ (l : List Ticket). Grows r (stolen_at old at) l) (sym (stolen_at_set old at h.0 h.1 h.2))
    (subst (λ (l : List Ticket). Grows r l (stolen_by h.1)) (sym (stolen_at_is old at h.0 h.2)) h.5))

same_else : (d : Deque) (at j : ℕ) (old new : List TicketPass) (r : Stolen) → j ≢ at → ChangesAt d at old new (Grows r) → stolen_at new j ≡ stolen_at old j
same_else d at j old new r other h = ap (λ (l : List TicketPass). stolen_at l j) h.3 ∙ stolen_at_else old at j h.1 other

module _ (ds : List Deque) (s : Seat) (victim : ℕ) (d : Deque) (r : Stolen) (kept : IsSeat ds s) (here : get_elem? ds victim ≡ some d) where
  -- from a seat below this one
  module _ (b : Vec TicketPass Global) (lower : victim < s.number) (h : ChangesAt d victim s.below.items b.items (Grows r)) where
    pub below_seat : IsSeat ds (record s { below = b })
    below_seat = record {
      own = kept.own;
      within = kept.within;
      port = kept.port;
      flavor = kept.flavor;
      parts = kept.parts;
      below = thieves_after (take s.number ds) d victim s.below.items b.items r kept.below (at_take ds s.number victim d lower here) h;
      above = kept.above;
      room = kept.room;
      index = kept.index;
      put = kept.put;
      put_most = kept.put_most;
      popped = kept.popped;
      popped_most = kept.popped_most;
      few = kept.few;
    }

    pub below_grows : Grows r (stolen_from victim s) (stolen_from victim (record s { below = b }))
    below_grows = rw (lt-ltb victim s.number lower) (grown_at d victim s.below.items b.items r h)

    pub below_else : (j : ℕ) → j ≢ victim → stolen_from j (record s { below = b }) ≡ stolen_from j s
    below_else j other = ap (λ (l : List Ticket). cond (ltb j s.number) l (cond (ltb s.number j) (stolen_at s.above.items (j - s.number - 1)) [])) (same_else d victim j s.below.items b.items r other h)

  -- from a seat above this one
  module _ (b : Vec TicketPass Global) (i : ℕ) (upper : victim ≡ suc s.number + i) (h : ChangesAt d i s.above.items b.items (Grows r)) where
    there : get_elem? (drop (suc s.number) ds) i ≡ some d
    there = at_drop ds (suc s.number) i d (subst (λ (k : ℕ). get_elem? ds k ≡ some d) upper here)

    pub above_seat : IsSeat ds (record s { above = b })
    above_seat = record {
      own = kept.own;
      within = kept.within;
      port = kept.port;
      flavor = kept.flavor;
      parts = kept.parts;
      below = kept.below;
      above = thieves_after (drop (suc s.number) ds) d i s.above.items b.items r kept.above there h;
      room = kept.room;
      index = kept.index;
      put = kept.put;
      put_most = kept.put_most;
      popped = kept.popped;
      popped_most = kept.popped_most;
      few = kept.few;
    }

    pub above_grows : Grows r (stolen_from victim s) (stolen_from victim (record s { above = b }))
    above_grows =
        let place : victim - s.number - 1 ≡ i = omega (arith, upper) in
        rw (le-ltb victim s.number (omega (arith, upper)), lt-ltb s.number victim (omega (arith, upper)), place) (grown_at d i s.above.items b.items r h)

    pub above_else : (j : ℕ) → j ≢ victim → stolen_from j (record s { above = b }) ≡ stolen_from j s
    above_else j other = ap (λ (l : List Ticket). cond (ltb j s.number) (stolen_at s.below.items j) l) (pick (ltb s.number j) refl)
      where
        pick : (q : Bool) → ltb s.number j ≡ q → cond q (stolen_at b.items (j - s.number - 1)) [] ≡ cond q (stolen_at s.above.items (j - s.number - 1)) []
        pick true is = let over : s.number < j = ltb-true s.number j is in same_else d i (j - s.number - 1) s.above.items b.items r (λ e. other (omega (arith, upper, e, over))) h
        pick false is = refl

pub below_thief : (ds : List Deque) (s : Seat) (victim : ℕ) (d : Deque) → IsSeat ds s → get_elem? ds victim ≡ some d → victim < s.number → HasThief d victim s.below.items
below_thief ds s victim d k here lower = thief_at (take s.number ds) s.below.items victim d k.below (at_take ds s.number victim d lower here)

pub below_within : (ds : List Deque) (s : Seat) (victim : ℕ) (d : Deque) → IsSeat ds s → get_elem? ds victim ≡ some d → victim < s.number → victim < length s.below.items
below_within ds s victim d k here lower = let h = below_thief ds s victim d k here lower in at_within s.below.items victim h.0 h.1

-- the place of a seat above this one
pub above_place : (victim n : ℕ) → n ≤ victim → victim ≢ n → victim ≡ suc n + (victim - n - 1)
above_place victim n low other = omega (arith, low, other)

pub above_thief : (ds : List Deque) (s : Seat) (victim : ℕ) (d : Deque) → IsSeat ds s → get_elem? ds victim ≡ some d → s.number ≤ victim → victim ≢ s.number → HasThief d (victim - s.number - 1) s.above.items
above_thief ds s victim d k here low other =
    let i = victim - s.number - 1 in
    thief_at (drop (suc s.number) ds) s.above.items i d k.above (at_drop ds (suc s.number) i d (subst (λ (k : ℕ). get_elem? ds k ≡ some d) (above_place victim s.number low other) here))

pub above_within : (ds : List Deque) (s : Seat) (victim : ℕ) (d : Deque) → IsSeat ds s → get_elem? ds victim ≡ some d → s.number ≤ victim → victim ≢ s.number → victim - s.number - 1 < length s.above.items
above_within ds s victim d k here low other = let h = above_thief ds s victim d k here low other in at_within s.above.items (victim - s.number - 1) h.0 h.1
