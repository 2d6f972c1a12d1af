-- A pool is put together, seat by seat.
use Rattle.std.proofs.Common.{◌≡◌, ℕ, zero, suc, ◌-◌, ◌^◌, ◌<◌, ◌≤◌, List, [], ◌∷◌, ◌++◌, min, ltb, cond, Bool, true, false, All, length, length-append, take, drop, set, sym, refl, ap, ◌∙◌, subst, arith, ⊎_elim}
use Rattle.std.proofs.lemmas.List.{length-map, length-set}
use mathlib.Core.Option.{some, some-ne-none, some-injective}
use Rattle.std.proofs.Math.Pow.{pow_mono}
use Rattle.std.specs.Int.{IsNextPowerOfTwo}
use lib.ListN.{get_elem?}
use Rattle.crossbeam_deque.proofs.Lists.{at_map, at_last, at_longer, set_here, set_else}
use Rattle.crossbeam_deque.specs.Handles.{view, worker_port, worker_flavor, worker_view, worker_capacity, worker_index, stealer_deque}
use Rattle.steal_pool.specs.declared.seats.Pool.{Pool}
use Rattle.steal_pool.specs.declared.seats.Seat.{Seat}
use Rattle.steal_pool.specs.Seats.{Deque, TicketPass, AreThieves, IsThief, IsSeat, IsSeatOf, stolen_by, stolen_at, puts_of, pops_of, room_of, deque_of, deques_of, AreSeatsOf, owners}
use Rattle.steal_pool.specs.declared.build.TheConstants.{SLOTS}
use Rattle.steal_pool.specs.Build.{idle, HaveStolenNothing, IsNew, Meets, IsFresh, AreFresh, IsUnused}
use Rattle.steal_pool.proofs.Places.{all_of, ours_of, numbers_of}
use Rattle.steal_pool.proofs.Partings.{at_some, within, take_snoc, drop_snoc, split, owners_same, owners_snoc}

pub thieves_add : (ds : List Deque) (ps : List TicketPass) (d : Deque) (q : TicketPass) → AreThieves ds ps → IsThief d q → AreThieves (ds ++ d ∷ []) (ps ++ q ∷ [])
thieves_add [] [] d q all is = (is, tt)
thieves_add [] (p ∷ ps) d q all is = absurd all
thieves_add (e ∷ ds) [] d q all is = absurd all
thieves_add (e ∷ ds) (p ∷ ps) d q all is = (all.0, thieves_add ds ps d q all.1 is)

take_more : {A : Type 0} (l : List A) (k : ℕ) (a : A) → get_elem? l k ≡ some a → take (suc k) l ≡ take k l ++ a ∷ []
take_more [] k a at = absurd (some-ne-none a (sym at))
take_more (x ∷ xs) zero a at = λ i. some-injective x a at i ∷ []
take_more (x ∷ xs) (suc k) a at = λ i. x ∷ take_more xs k a at i

thief_of : (d : Deque) (q : TicketPass) → (view q ≡ idle 1) → (stolen_by q ≡ []) × ((view q).parts ≡ 1) × ((view q).olds ≡ [])
thief_of d q e = (ap (λ v. v.steals) e, ap (λ v. v.parts) e, ap (λ v. v.olds) e)

-- one more pass that stole nothing
none_more : (ps : List TicketPass) (q : TicketPass) → HaveStolenNothing ps → stolen_by q ≡ [] → HaveStolenNothing (ps ++ q ∷ [])
none_more [] q none e zero = e
none_more [] q none e (suc j) = refl
none_more (p ∷ ps) q none e zero = none 0
none_more (p ∷ ps) q none e (suc j) = none_more ps q (λ i. none (suc i)) e j

-- how far the new seat has met the others: those below k
pub record Joining (os : List Seat) (n0 : Seat) (k : ℕ) (cur : List Seat) (n : Seat) : Type 0 where
  pub count : length cur ≡ length os
  pub few : k ≤ length os
  pub number : n.number ≡ length os
  pub deque : deque_of n ≡ deque_of n0
  pub port : worker_port n.owner ≡ 0
  pub flavor : worker_flavor n.owner ≡ 0
  pub sees : worker_view n.owner ≡ idle (64 - k)
  pub room : n.room ≤ worker_capacity n.owner
  pub slots : n.room ≡ min (2 ^ 57) SLOTS
  pub index : worker_index n.owner ≡ 0
  pub counts : (n.put ≡ 0) × (n.popped ≡ 0)
  pub none : HaveStolenNothing n.below.items
  pub below : AreThieves (take k (owners os)) n.below.items
  pub above : n.above.items ≡ []
  pub low : (i : ℕ) (o : Seat) → i < k → get_elem? os i ≡ some o → (o' : Seat) × (get_elem? cur i ≡ some o') × (deque_of o' ≡ deque_of o) × IsFresh (owners os ++ deque_of n0 ∷ []) i o'
  pub high : (i : ℕ) (o : Seat) → k ≤ i → get_elem? os i ≡ some o → get_elem? cur i ≡ some o

module _ (os : List Seat) (n0 : Seat) (fresh : AreFresh os) (few : length os < 64) (new : IsNew (length os) n0) where
  pub opens : Joining os n0 0 os n0
  opens = record {
    count = refl;
    few = omega arith;
    number = new.number;
    deque = refl;
    port = new.port;
    flavor = new.flavor;
    sees = new.sees;
    room = omega (arith, new.room);
    slots = new.room ∙ ap (min (2 ^ 57)) new.capacity;
    index = new.index;
    counts = new.counts;
    none = subst HaveStolenNothing (sym new.below) (λ j. refl);
    below = subst (λ (l : List TicketPass). AreThieves [] l) (sym new.below) tt;
    above = new.above;
    low = (λ i o less at. absurd (omega (arith, less)));
    high = (λ i o more at. at);
  }

  grown : (i : ℕ) (o o' n n' : Seat) → get_elem? os i ≡ some o → deque_of n ≡ deque_of n0 → Meets o o' n n' → IsFresh (owners os ++ deque_of n0 ∷ []) i o'
  grown i o o' n n' at same m =
      let f = fresh i o at in
      let k = f.seat in
      let lt = within os i o at in
      let len = length-map os deque_of in
      let g = m.one in
      let th = thief_of (deque_of n) m.mine m.mine_is.1 in
      let mine : IsThief (deque_of n0) m.mine = subst (λ (d : Deque). IsThief d m.mine) same (m.mine_is.0, th.1, th.2) in
      let less : o.number < length (owners os) = omega (arith, f.number, lt, len) in
      let puts : puts_of o' ≡ puts_of o = ap (λ v. v.puts) g.sees in
      let pops : pops_of o' ≡ pops_of o = ap (λ v. v.pops) g.sees in
      record {
        number = g.number ∙ f.number;
        seat = record {
          own = subst (λ (j : ℕ). get_elem? (owners os ++ deque_of n0 ∷ []) j ≡ some (deque_of o')) (sym g.number) (at_longer (owners os) (deque_of n0 ∷ []) o.number (deque_of o') (k.own ∙ ap some (sym g.deque)));
          within = omega (arith, g.number, less, length-append (owners os) (deque_of n0 ∷ []));
          port = g.port ∙ k.port;
          flavor = g.flavor ∙ k.flavor;
          parts = (let e = ap (λ v. v.parts) g.sees in omega (arith, e, k.parts, length-append (owners os) (deque_of n0 ∷ []), few, len));
          below = subst (λ (j : ℕ). AreThieves (take j (owners os ++ deque_of n0 ∷ [])) o'.below.items) (sym g.number)
              (subst (λ (ds : List Deque). AreThieves ds o'.below.items) (sym (take_snoc (owners os) (deque_of n0) o.number (omega (arith, less))))
              (subst (λ (l : List TicketPass). AreThieves (take o.number (owners os)) l) (sym (ap (λ v. v.items) m.old_below)) k.below));
          above = subst (λ (j : ℕ). AreThieves (drop (suc j) (owners os ++ deque_of n0 ∷ [])) o'.above.items) (sym g.number)
              (subst (λ (ds : List Deque). AreThieves ds o'.above.items) (sym (drop_snoc (owners os) (deque_of n0) (suc o.number) (omega (arith, less))))
              (subst (λ (l : List TicketPass). AreThieves (drop (suc o.number) (owners os) ++ deque_of n0 ∷ []) l) (sym m.old_above) (thieves_add (drop (suc o.number) (owners os)) o.above.items (deque_of n0) m.mine k.above mine)));
          room = omega (arith, g.same.0, k.room, g.capacity);
          index = omega (arith, g.index, k.index, g.same.1);
          put = g.same.1 ∙ k.put ∙ ap length (sym puts);
          put_most = omega (arith, g.same.1, k.put_most);
          popped = g.same.2 ∙ k.popped ∙ ap length (sym pops);
          popped_most = omega (arith, g.same.2, k.popped_most);
          few = omega (arith, few, len, length-append (owners os) (deque_of n0 ∷ []));
        };
        puts = puts ∙ f.puts;
        pops = pops ∙ f.pops;
        steals = ap (λ v. v.steals) g.sees ∙ f.steals;
        olds = ap (λ v. v.olds) g.sees ∙ f.olds;
        below = subst HaveStolenNothing (sym (ap (λ v. v.items) m.old_below)) f.below;
        above = subst HaveStolenNothing (sym m.old_above) (none_more o.above.items m.mine f.above th.0);
        room = g.same.0 ∙ f.room;
      }

  module _ (k : ℕ) (cur : List Seat) (n : Seat) (j : Joining os n0 k cur n) (x : Seat) (is : get_elem? cur k ≡ some x) where
    inside : k < length os
    inside = let w = within cur k x is in omega (arith, w, j.count)

    pub was : get_elem? os k ≡ some x
    was = let o = at_some os k inside in o.1 ∙ ap some (some-injective o.0 x (sym (j.high k o.0 (omega arith) o.1) ∙ is))

    pub ready : (worker_port x.owner ≡ 0) × (1 < (worker_view x.owner).parts) × (1 < (worker_view n.owner).parts)
    ready =
        let s = (fresh k x was).seat in
        let e = ap (λ v. v.parts) j.sees in
        (s.port, omega (arith, s.parts, few, length-map os deque_of), omega (arith, e, inside, few))

    pub joins : (x' n' : Seat) → Meets x x' n n' → Joining os n0 (suc k) (set cur k x') n'
    joins x' n' m =
        let th = thief_of (deque_of x) m.theirs m.theirs_is.1 in
        let theirs : IsThief (deque_of x) m.theirs = (m.theirs_is.0, th.1, th.2) in
        let g = m.two in
        record {
          count = length-set cur k x' ∙ j.count;
          few = inside;
          number = g.number ∙ j.number;
          deque = g.deque ∙ j.deque;
          port = g.port ∙ j.port;
          flavor = g.flavor ∙ j.flavor;
          sees = g.sees ∙ ap (λ v. record { parts = v.parts - 1; puts = v.puts; pops = v.pops; steals = v.steals; olds = v.olds }) j.sees ∙ ap idle (omega arith);
          room = omega (arith, g.same.0, j.room, g.capacity);
          slots = g.same.0 ∙ j.slots;
          index = g.index ∙ j.index;
          counts = (g.same.1 ∙ j.counts.0, g.same.2 ∙ j.counts.1);
          none = subst HaveStolenNothing (sym m.new_below) (none_more n.below.items m.theirs j.none th.0);
          below = subst (λ (ds : List Deque). AreThieves ds n'.below.items) (sym (take_more (owners os) k (deque_of x) (at_map deque_of os k x was)))
              (subst (λ (l : List TicketPass). AreThieves (take k (owners os) ++ deque_of x ∷ []) l) (sym m.new_below) (thieves_add (take k (owners os)) n.below.items (deque_of x) m.theirs j.below theirs));
          above = ap (λ v. v.items) m.new_above ∙ j.above;
          low = (λ i o less at.
              ⊎_elim
              (λ (e : i ≡ k).
              let o_is : x ≡ o = some-injective x o (sym was ∙ (ap (get_elem? os) (sym e) ∙ at)) in
              (x', ap (get_elem? (set cur k x')) e ∙ set_here cur k x' (within cur k x is), m.one.deque ∙ ap deque_of o_is, subst (λ (q : ℕ). IsFresh (owners os ++ deque_of n0 ∷ []) q x') (sym e) (grown k x x' n n' was j.deque m)))
              (λ (l : suc i ≤ k).
              let old = j.low i o l at in
              (old.0, set_else cur k i x' (λ e. omega (arith, e, l)) ∙ old.1, old.2, old.3))
              (split k i (omega (arith, less))));
          high = (λ i o more at. set_else cur k i x' (λ e. omega (arith, e, more)) ∙ j.high i o (omega (arith, more)) at);
        }

  pub closes : (cur : List Seat) (n : Seat) → Joining os n0 (length os) cur n → AreFresh (cur ++ n ∷ []) × (owners (cur ++ n ∷ []) ≡ owners os ++ deque_of n0 ∷ [])
  closes cur n j =
      let kept : owners cur ≡ owners os = owners_same cur os j.count (λ i o at. let l = j.low i o (within os i o at) at in (l.0, l.1, l.2)) in
      let all : owners (cur ++ n ∷ []) ≡ owners os ++ deque_of n0 ∷ [] = owners_snoc cur n ∙ ap (λ (l : List Deque). l ++ deque_of n ∷ []) kept ∙ ap (λ (d : Deque). owners os ++ d ∷ []) j.deque in
      (λ i s at. subst (λ (ds : List Deque). IsFresh ds i s) (sym all) (one i s at), all)
    where
      len : length (owners os) ≡ length os
      len = length-map os deque_of

      mine : IsFresh (owners os ++ deque_of n0 ∷ []) (length os) n
      mine =
          let e = ap (λ v. v.parts) j.sees in
          record {
            number = j.number;
            seat = record {
              own = subst (λ (q : ℕ). get_elem? (owners os ++ deque_of n0 ∷ []) q ≡ some (deque_of n)) (sym j.number) (at_last (owners os) (deque_of n0) (length os) len ∙ ap some (sym j.deque));
              within = omega (arith, j.number, len, length-append (owners os) (deque_of n0 ∷ []));
              port = j.port;
              flavor = j.flavor;
              parts = omega (arith, e, few, len, length-append (owners os) (deque_of n0 ∷ []));
              below = subst (λ (q : ℕ). AreThieves (take q (owners os ++ deque_of n0 ∷ [])) n.below.items) (sym j.number) (subst (λ (ds : List Deque). AreThieves ds n.below.items) (sym (take_snoc (owners os) (deque_of n0) (length os) (omega (arith, len)))) j.below);
              above = subst (λ (q : ℕ). AreThieves (drop (suc q) (owners os ++ deque_of n0 ∷ [])) n.above.items) (sym j.number)
                  (subst (λ (l : List TicketPass). AreThieves (drop (suc (length os)) (owners os ++ deque_of n0 ∷ [])) l) (sym j.above) (subst (λ (ds : List Deque). AreThieves ds []) (sym (drop_past (owners os ++ deque_of n0 ∷ []) (suc (length os)) (omega (arith, len, length-append (owners os) (deque_of n0 ∷ []))))) tt));
              room = j.room;
              index = omega (arith, j.index);
              put = j.counts.0 ∙ ap (λ v. length v.puts) (sym j.sees);
              put_most = omega (arith, j.counts.0);
              popped = j.counts.1 ∙ ap (λ v. length v.pops) (sym j.sees);
              popped_most = omega (arith, j.counts.1);
              few = omega (arith, few, len, length-append (owners os) (deque_of n0 ∷ []));
            };
            puts = ap (λ v. v.puts) j.sees;
            pops = ap (λ v. v.pops) j.sees;
            steals = ap (λ v. v.steals) j.sees;
            olds = ap (λ v. v.olds) j.sees;
            below = j.none;
            above = subst HaveStolenNothing (sym j.above) (λ i. refl);
            room = j.slots;
          }
        where
          drop_past : (l : List Deque) (m : ℕ) → length l ≤ m → drop m l ≡ []
          drop_past [] zero h = refl
          drop_past [] (suc m) h = refl
          drop_past (y ∷ ys) zero h = absurd (omega (arith, h))
          drop_past (y ∷ ys) (suc m) h = drop_past ys m (omega (arith, h))

      one : (i : ℕ) (s : Seat) → get_elem? (cur ++ n ∷ []) i ≡ some s → IsFresh (owners os ++ deque_of n0 ∷ []) i s
      one i s at = ⊎_elim
          (λ (e : i ≡ length cur).
          let is : n ≡ s = some-injective n s (sym (at_last cur n i (sym e)) ∙ at) in
          subst (IsFresh (owners os ++ deque_of n0 ∷ []) i) is (subst (λ (q : ℕ). IsFresh (owners os ++ deque_of n0 ∷ []) q n) (sym (e ∙ j.count)) mine))
          (λ (l : suc i ≤ length cur).
          let o = at_some os i (omega (arith, l, j.count)) in
          let low = j.low i o.0 (omega (arith, l, j.count)) o.1 in
          let is : low.0 ≡ s = some-injective low.0 s (sym (at_longer cur (n ∷ []) i low.0 low.1) ∙ at) in
          subst (IsFresh (owners os ++ deque_of n0 ∷ []) i) is low.3)
          (split (length cur) i (let w = within (cur ++ n ∷ []) i s at in omega (arith, w, length-append cur (n ∷ []))))

pub made : (pool : Pool) (seats : List Seat) → AreFresh seats → owners seats ≡ deques_of pool → AreSeatsOf pool seats
made pool seats fresh all = record {
  count = sym (length-map seats deque_of) ∙ ap length all ∙ length-map pool.stealers.items stealer_deque;
  ours = ours_of pool seats each;
  numbers = numbers_of pool seats each;
}
  where
    each : (i : ℕ) (s : Seat) → get_elem? seats i ≡ some s → (s.number ≡ i) × IsSeatOf pool s
    each i s at = let f = fresh i s at in (f.number, (subst (λ (ds : List Deque). IsSeat ds s) all f.seat, f.steals, f.olds))

-- where no pass stole anything, the seat stole nothing from anyone
unused : (ds : List Deque) (i : ℕ) (s : Seat) → IsFresh ds i s → IsUnused s
unused ds i s f = (f.puts, f.pops, λ j. none j (ltb j s.number) (ltb s.number j))
  where
    none : (j : ℕ) (b c : Bool) → cond b (stolen_at s.below.items j) (cond c (stolen_at s.above.items (j - s.number - 1)) []) ≡ []
    none j true c = f.below j
    none j false true = f.above (j - s.number - 1)
    none j false false = refl

module _ (seats : List Seat) (fresh : AreFresh seats) where
  pub all_unused : All IsUnused seats
  all_unused = all_of IsUnused seats (λ i s at. unused (owners seats) i s (fresh i s at))

  pub all_roomy : All (λ s. room_of s ≡ min (2 ^ 57) SLOTS) seats
  all_roomy = all_of (λ s. room_of s ≡ min (2 ^ 57) SLOTS) seats (λ i s at. (fresh i s at).room)

-- the one power of two from 64 on and below 128
pub power_is : (k : ℕ) → 64 ≤ 2 ^ k → 2 ^ k < 128 → 2 ^ k ≡ 64
power_is zero low high = absurd (omega arith)
power_is (suc zero) low high = absurd (omega arith)
power_is (suc (suc zero)) low high = absurd (omega arith)
power_is (suc (suc (suc zero))) low high = absurd (omega arith)
power_is (suc (suc (suc (suc zero)))) low high = absurd (omega arith)
power_is (suc (suc (suc (suc (suc zero))))) low high = absurd (omega arith)
power_is (suc (suc (suc (suc (suc (suc zero)))))) low high = refl
power_is (suc (suc (suc (suc (suc (suc (suc j))))))) low high =
    let k : ℕ = suc (suc (suc (suc (suc (suc (suc j)))))) in
    let more : 2 ^ 7 ≤ 2 ^ k = pow_mono (let le : 7 ≤ k = omega arith in le) in
    absurd (omega (arith, more, high))

pub slots_are : (p : ℕ) → IsNextPowerOfTwo 64 p → p ≡ 64
slots_are p h =
    let low : 64 ≤ 2 ^ h.0.0 = subst (λ (n : ℕ). 64 ≤ n) h.0.1 h.1 in
    let high : p < 128 = omega (arith, h.2) in
    h.0.1 ∙ power_is h.0.0 low (subst (λ (n : ℕ). n < 128) h.0.1 high)
