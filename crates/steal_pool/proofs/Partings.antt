-- A pool is taken apart, seat by seat from the last.
use Rattle.std.proofs.Common.{◌≡◌, ℕ, zero, suc, ◌+◌, ◌-◌, ◌^◌, ◌<◌, ◌≤◌, ◌⊎◌, inl, inr, ltb, Bool, cond, true, false, List, [], ◌∷◌, ◌++◌, get_or, length, length-append, length-drop, take, drop, set, sym, refl, ap, ◌∙◌, subst, arith, ⊎_elim}
use Rattle.std.specs.List.{sum_by}
use Rattle.std.proofs.lemmas.List.{length-map, length-set}
use Rattle.std.proofs.lemmas.List.Sums.{sum_by-cons, sum_by-append}
use Rattle.std.proofs.lemmas.Bool.{lt-ltb, le-ltb, ltb-true}
use mathlib.Core.Option.{some, some-ne-none, some-injective}
use lib.ListN.{get_elem?}
use Rattle.crossbeam_deque.proofs.Lists.{at_index, at_map, at_last, at_longer, set_here, set_else, drop_at}
use Rattle.crossbeam_deque.specs.Handles.{view, worker_port, worker_view}
use Rattle.steal_pool.specs.declared.rule.Ticket.{Ticket}
use Rattle.steal_pool.specs.declared.seats.Seat.{Seat}
use Rattle.steal_pool.specs.Rule.{joined, IsAccounted}
use Rattle.steal_pool.specs.Seats.{Deque, TicketPass, AreThieves, IsThief, stolen_by, stolen_at, stolen_from, puts_of, pops_of, olds_of, deque_of, owners}
use Rattle.steal_pool.specs.Closing.{IsMember, Members, Parts, Joins, Departs}
use Rattle.steal_pool.proofs.Passes.{thief_at, thieves_length}

module _ {A : Type 0} where
  pub at_some : (l : List A) (i : ℕ) → i < length l → (a : A) × (get_elem? l i ≡ some a)
  at_some [] i h = absurd (omega arith)
  at_some (x ∷ xs) zero h = (x, refl)
  at_some (x ∷ xs) (suc i) h = at_some xs i (omega arith)

  pub within : (l : List A) (i : ℕ) (a : A) → get_elem? l i ≡ some a → i < length l
  within [] i a at = absurd (some-ne-none a (sym at))
  within (x ∷ xs) zero a at = omega arith
  within (x ∷ xs) (suc i) a at = let h = within xs i a at in omega arith

  pub at_untake : (l : List A) (n i : ℕ) (a : A) → get_elem? (take n l) i ≡ some a → get_elem? l i ≡ some a
  at_untake l zero i a at = absurd (some-ne-none a (sym at))
  at_untake [] (suc n) i a at = absurd (some-ne-none a (sym at))
  at_untake (x ∷ xs) (suc n) zero a at = at
  at_untake (x ∷ xs) (suc n) (suc i) a at = at_untake xs n i a at

  pub at_unsnoc : (l : List A) (x : A) (i : ℕ) (a : A) → i < length l → get_elem? (l ++ x ∷ []) i ≡ some a → get_elem? l i ≡ some a
  at_unsnoc [] x i a h at = absurd (omega arith)
  at_unsnoc (y ∷ ys) x zero a h at = at
  at_unsnoc (y ∷ ys) x (suc i) a h at = at_unsnoc ys x i a (omega arith) at

  pub empty_of : (l : List A) → length l ≡ 0 → l ≡ []
  empty_of [] e = refl
  empty_of (x ∷ xs) e = absurd (omega (arith, e))

  pub take_snoc : (l : List A) (x : A) (n : ℕ) → n ≤ length l → take n (l ++ x ∷ []) ≡ take n l
  take_snoc l x zero h = refl
  take_snoc [] x (suc n) h = absurd (omega arith)
  take_snoc (y ∷ ys) x (suc n) h = ap (λ (r : List A). y ∷ r) (take_snoc ys x n (omega arith))

  pub drop_snoc : (l : List A) (x : A) (n : ℕ) → n ≤ length l → drop n (l ++ x ∷ []) ≡ drop n l ++ x ∷ []
  drop_snoc l x zero h = refl
  drop_snoc [] x (suc n) h = absurd (omega arith)
  drop_snoc (y ∷ ys) x (suc n) h = drop_snoc ys x n (omega arith)

  -- what is left of a beginning without its last
  pub take_front : (l m : List A) (x : A) → m ++ x ∷ [] ≡ take (length (m ++ x ∷ [])) l → m ≡ take (length m) l
  take_front l m x e =
      let n : length (m ++ x ∷ []) ≡ length m + 1 = length-append m (x ∷ []) in
      sym (take_whole m x) ∙ ap (take (length m)) e ∙ take_take l (length m) (length (m ++ x ∷ [])) (omega (arith, n))
    where
      take_whole : (m : List A) (x : A) → take (length m) (m ++ x ∷ []) ≡ m
      take_whole [] x = refl
      take_whole (y ∷ ys) x = ap (λ (r : List A). y ∷ r) (take_whole ys x)

      take_take : (l : List A) (a b : ℕ) → a ≤ b → take a (take b l) ≡ take a l
      take_take l zero b h = refl
      take_take l (suc a) zero h = absurd (omega arith)
      take_take [] (suc a) (suc b) h = refl
      take_take (y ∷ ys) (suc a) (suc b) h = ap (λ (r : List A). y ∷ r) (take_take ys a b (omega arith))

pub thieves_snoc : (ds : List Deque) (d : Deque) (ps : List TicketPass) (q : TicketPass) → AreThieves (ds ++ d ∷ []) (ps ++ q ∷ []) → AreThieves ds ps × IsThief d q
thieves_snoc [] d [] q all = (tt, all.0)
thieves_snoc [] d (p ∷ []) q all = absurd all.1
thieves_snoc [] d (p ∷ p' ∷ ps) q all = absurd all.1
thieves_snoc (e ∷ []) d [] q all = absurd all.1
thieves_snoc (e ∷ e' ∷ ds) d [] q all = absurd all.1
thieves_snoc (e ∷ ds) d (p ∷ ps) q all = let r = thieves_snoc ds d ps q all.1 in ((all.0, r.0), r.1)

stolen_at_last : (ps : List TicketPass) (q : TicketPass) → stolen_at (ps ++ q ∷ []) (length ps) ≡ stolen_by q
stolen_at_last [] q = refl
stolen_at_last (p ∷ ps) q = stolen_at_last ps q

stolen_at_front : (ps : List TicketPass) (q : TicketPass) (i : ℕ) → i < length ps → stolen_at (ps ++ q ∷ []) i ≡ stolen_at ps i
stolen_at_front [] q i h = absurd (omega arith)
stolen_at_front (p ∷ ps) q zero h = refl
stolen_at_front (p ∷ ps) q (suc i) h = stolen_at_front ps q i (omega arith)

pub stolen_at_here : (ps : List TicketPass) (i : ℕ) (p : TicketPass) → get_elem? ps i ≡ some p → stolen_at ps i ≡ stolen_by p
stolen_at_here [] i p at = absurd (some-ne-none p (sym at))
stolen_at_here (x ∷ xs) zero p at = ap stolen_by (some-injective x p at)
stolen_at_here (x ∷ xs) (suc i) p at = stolen_at_here xs i p at

-- how far the seat s0 has left the seats os: those from length s.below on have taken its pass in, and given theirs up
pub record Half (os : List Seat) (s0 : Seat) (cur : List Seat) (s : Seat) : Type 0 where
  pub count : length cur ≡ length os
  pub deque : deque_of s ≡ deque_of s0
  pub port : worker_port s.owner ≡ 0
  pub few : length s.below.items ≤ length os
  pub below : s.below.items ≡ take (length s.below.items) s0.below.items
  pub parts : (worker_view s.owner).parts + length s.below.items ≡ 64
  pub puts : puts_of s ≡ puts_of s0
  pub pops : pops_of s ≡ pops_of s0
  pub steals : (worker_view s.owner).steals ≡ []
  pub olds : (h : Ticket → ℕ) → sum_by h (olds_of s) ≡ sum_by h (olds_of s0) + sum_by (λ (o : Seat). sum_by h (stolen_from (length os) o)) (drop (length s.below.items) os)
  pub low : (i : ℕ) (o : Seat) → i < length s.below.items → get_elem? os i ≡ some o → get_elem? cur i ≡ some o
  pub high : (i : ℕ) (o : Seat) → length s.below.items ≤ i → get_elem? os i ≡ some o → (p : TicketPass) × (q : TicketPass) × (o' : Seat) × (get_elem? s0.below.items i ≡ some p) × (get_elem? cur i ≡ some o') × Parts o p o' q

pub owners_snoc : (os : List Seat) (s : Seat) → owners (os ++ s ∷ []) ≡ owners os ++ deque_of s ∷ []
owners_snoc [] s = refl
owners_snoc (o ∷ os) s = ap (λ (r : List Deque). deque_of o ∷ r) (owners_snoc os s)

module _ (os : List Seat) (s0 : Seat) (members : Members (os ++ s0 ∷ [])) where
  all_owners : List Deque
  all_owners = owners (os ++ s0 ∷ [])

  own_length : length (owners os) ≡ length os
  own_length = length-map os deque_of

  last : IsMember (owners (os ++ s0 ∷ [])) (length os) s0
  last = members.1 (length os) s0 (at_last os s0 (length os) refl)

  all_length : length (owners (os ++ s0 ∷ [])) ≡ length os + 1
  all_length = length-map (os ++ s0 ∷ []) deque_of ∙ length-append os (s0 ∷ [])

  -- the leaving seat has a pass on each other one
  pub below_all : AreThieves (owners os) s0.below.items
  below_all =
      let e : take (length os) (owners (os ++ s0 ∷ [])) ≡ owners os =
      ap (take (length os)) (owners_snoc os s0) ∙ take_snoc (owners os) (deque_of s0) (length os) (omega (arith, own_length)) ∙ take_all (owners os) (length os) own_length in
      subst (λ (ds : List Deque). AreThieves ds s0.below.items) e last.below
    where
      take_all : (ds : List Deque) (n : ℕ) → length ds ≡ n → take n ds ≡ ds
      take_all [] zero e = refl
      take_all [] (suc n) e = refl
      take_all (d ∷ ds) zero e = absurd (omega (arith, e))
      take_all (d ∷ ds) (suc n) e = ap (λ (r : List Deque). d ∷ r) (take_all ds n (omega (arith, e)))

  pub below_length : length s0.below.items ≡ length os
  below_length = thieves_length (owners os) s0.below.items below_all ∙ own_length

  pub other : (i : ℕ) (o : Seat) → get_elem? os i ≡ some o → IsMember (owners (os ++ s0 ∷ [])) i o
  other i o at = members.1 i o (at_longer os (s0 ∷ []) i o at)

  -- each other seat's last pass is on the leaving seat's deque
  pub above_all : (i : ℕ) (o : Seat) → get_elem? os i ≡ some o → AreThieves (drop (suc i) (owners os) ++ deque_of s0 ∷ []) o.above.items
  above_all i o at =
      let h = within os i o at in
      subst (λ (ds : List Deque). AreThieves ds o.above.items)
      (ap (drop (suc i)) (owners_snoc os s0) ∙ drop_snoc (owners os) (deque_of s0) (suc i) (omega (arith, own_length, h))) (other i o at).above

  pub starts : Half os s0 os s0
  starts = record {
    count = refl;
    deque = refl;
    port = last.port;
    few = omega (arith, below_length);
    below = sym (take_it s0.below.items);
    parts = omega (arith, last.parts, all_length, below_length);
    puts = refl;
    pops = refl;
    steals = last.steals;
    olds = (λ h. let e : drop (length s0.below.items) os ≡ [] = drop_it os (length s0.below.items) (omega (arith, below_length)) in rw e (omega arith));
    low = (λ i o less at. at);
    high = (λ i o more at. absurd (let h = within os i o at in omega (arith, below_length)));
  }
    where
      take_it : (ps : List TicketPass) → take (length ps) ps ≡ ps
      take_it [] = refl
      take_it (p ∷ ps) = ap (λ (r : List TicketPass). p ∷ r) (take_it ps)

      drop_it : (l : List Seat) (n : ℕ) → length l ≤ n → drop n l ≡ []
      drop_it [] zero h = refl
      drop_it [] (suc n) h = refl
      drop_it (x ∷ xs) zero h = absurd (omega (arith, h))
      drop_it (x ∷ xs) (suc n) h = drop_it xs n (omega (arith, h))

pub split : (i k : ℕ) → k ≤ i → (k ≡ i) ⊎ (suc k ≤ i)
split zero zero h = inl refl
split (suc i) zero h = inr (omega arith)
split zero (suc k) h = absurd (omega (arith, h))
split (suc i) (suc k) h = ⊎_elim (λ (e : k ≡ i). inl (ap suc e)) (λ (l : suc k ≤ i). inr (omega (arith, l))) (split i k (omega (arith, h)))

pub owners_same : (cur os : List Seat) → length cur ≡ length os → ((i : ℕ) (o : Seat) → get_elem? os i ≡ some o → (o' : Seat) × (get_elem? cur i ≡ some o') × (deque_of o' ≡ deque_of o)) → owners cur ≡ owners os
owners_same [] [] e same = refl
owners_same [] (o ∷ os) e same = absurd (omega (arith, e))
owners_same (c ∷ cs) [] e same = absurd (omega (arith, e))
owners_same (c ∷ cs) (o ∷ os) e same =
    let s = same 0 o refl in
    let d : deque_of c ≡ deque_of o = ap deque_of (some-injective c s.0 s.1) ∙ s.2 in
    let r = owners_same cs os (omega (arith, e)) (λ i u at. same (suc i) u at) in
    λ k. d k ∷ r k

module _ (os : List Seat) (s0 : Seat) (members : Members (os ++ s0 ∷ [])) (cur : List Seat) (s : Seat) (half : Half os s0 cur s) where
  one_more_of : (nb : List TicketPass) (pass : TicketPass) → s.below.items ≡ nb ++ pass ∷ [] → length s.below.items ≡ length nb + 1
  one_more_of nb pass popped = ap length popped ∙ length-append nb (pass ∷ [])

  pub in_range : (nb : List TicketPass) (pass : TicketPass) → s.below.items ≡ nb ++ pass ∷ [] → length nb < length cur
  in_range nb pass popped = omega (arith, one_more_of nb pass popped, half.few, half.count)

  pub here_of : (nb : List TicketPass) (pass : TicketPass) → s.below.items ≡ nb ++ pass ∷ [] → (at : ℕ) → at ≡ length nb → (x : Seat) → x ≡ get_or cur at x → get_elem? cur (length nb) ≡ some x
  here_of nb pass popped at place x is = at_index cur (length nb) x (in_range nb pass popped) (subst (λ (n : ℕ). x ≡ get_or cur n x) place is)

  module _ (nb : List TicketPass) (pass : TicketPass) (popped : s.below.items ≡ nb ++ pass ∷ []) (x : Seat) (is : get_elem? cur (length nb) ≡ some x) where
    one_more : length s.below.items ≡ length nb + 1
    one_more = one_more_of nb pass popped

    pub was : get_elem? os (length nb) ≡ some x
    was =
        let o = at_some os (length nb) (omega (arith, one_more, half.few)) in
        let e : o.0 ≡ x = some-injective o.0 x (sym (half.low (length nb) o.0 (omega (arith, one_more)) o.1) ∙ is) in
        o.1 ∙ ap some e

    member : IsMember (owners (os ++ s0 ∷ [])) (length nb) x
    member = other os s0 members (length nb) x was

    pub on_pass : get_elem? s0.below.items (length nb) ≡ some pass
    on_pass =
        let e : nb ++ pass ∷ [] ≡ take (length s.below.items) s0.below.items = sym popped ∙ half.below in
        at_untake s0.below.items (length s.below.items) (length nb) pass (sym (ap (λ (l : List TicketPass). get_elem? l (length nb)) e) ∙ at_last nb pass (length nb) refl)

    pub pass_thief : IsThief (deque_of x) pass
    pass_thief =
        let at : get_elem? (owners os) (length nb) ≡ some (deque_of x) = at_map deque_of os (length nb) x was in
        let h = thief_at (owners os) s0.below.items (length nb) (deque_of x) (below_all os s0 members) at in
        subst (IsThief (deque_of x)) (some-injective h.0 pass (sym h.1 ∙ on_pass)) h.2

    pub port_is : worker_port x.owner ≡ 0
    port_is = member.port

    pub has_part : 0 < (worker_view x.owner).parts
    has_part = omega (arith, member.parts, members.0, length-map (os ++ s0 ∷ []) deque_of, length-append os (s0 ∷ []))

    above_length : length x.above.items ≡ length os - suc (length nb) + 1
    above_length =
        thieves_length (drop (suc (length nb)) (owners os) ++ deque_of s0 ∷ []) x.above.items (above_all os s0 members (length nb) x was)
        ∙ length-append (drop (suc (length nb)) (owners os)) (deque_of s0 ∷ [])
        ∙ ap (λ (n : ℕ). n + 1) (length-drop (suc (length nb)) (owners os) ∙ ap (λ (n : ℕ). n - suc (length nb)) (length-map os deque_of))

    pub has_above : 0 < length x.above.items
    has_above = omega (arith, above_length)

    module _ (x' : Seat) (q : TicketPass) (parts : Parts x pass x' q) where
      pub last_thief : IsThief (deque_of s0) q
      last_thief = (thieves_snoc (drop (suc (length nb)) (owners os)) (deque_of s0) x'.above.items q (subst (λ (l : List TicketPass). AreThieves (drop (suc (length nb)) (owners os) ++ deque_of s0 ∷ []) l) parts.above (above_all os s0 members (length nb) x was))).1

      place : length os - x.number - 1 ≡ length x'.above.items
      place =
          let a : length x.above.items ≡ length x'.above.items + 1 = ap length parts.above ∙ length-append x'.above.items (q ∷ []) in
          omega (arith, a, above_length, member.number)

      pub stolen_last : stolen_from (length os) x ≡ stolen_by q
      stolen_last =
          let n : x.number < length os = omega (arith, member.number, one_more, half.few) in
          rw (le-ltb (length os) x.number (omega (arith, n)), lt-ltb x.number (length os) n, place, parts.above) (stolen_at_last x'.above.items q)

      module _ (s' : Seat) (nb_is : s'.below.items ≡ nb) (deque_is : deque_of s' ≡ deque_of s) (port_same : worker_port s'.owner ≡ worker_port s.owner)
          (sees : worker_view s'.owner ≡ joined (worker_view s.owner) (view q)) where
        pub half_step : Half os s0 (set cur (length nb) x') s'
        half_step = record {
          count = length-set cur (length nb) x' ∙ half.count;
          deque = deque_is ∙ half.deque;
          port = port_same ∙ half.port;
          few = omega (arith, ap length nb_is, one_more, half.few);
          below = nb_is ∙ take_front s0.below.items nb pass (sym popped ∙ half.below ∙ ap (λ (l : List TicketPass). take (length l) s0.below.items) popped) ∙ ap (λ (l : List TicketPass). take (length l) s0.below.items) (sym nb_is);
          parts = (let e = ap (λ v. v.parts) sees in omega (arith, e, half.parts, one_more, ap length nb_is, last_thief.1));
          puts = ap (λ v. v.puts) sees ∙ half.puts;
          pops = ap (λ v. v.pops) sees ∙ half.pops;
          steals = ap (λ v. v.steals) sees ∙ half.steals;
          olds = (λ h.
              let f : Seat → ℕ = λ o. sum_by h (stolen_from (length os) o) in
              let e : olds_of s' ≡ olds_of s ++ (stolen_by q ++ (view q).olds) = ap (λ v. v.olds) sees in
              let d : drop (length nb) os ≡ x ∷ drop (suc (length nb)) os = drop_at os (length nb) x was in
              let t : sum_by f (drop (length nb) os) ≡ f x + sum_by f (drop (suc (length nb)) os) = ap (sum_by f) d ∙ sum_by-cons f x (drop (suc (length nb)) os) in
              let more : sum_by f (drop (length s.below.items) os) ≡ sum_by f (drop (suc (length nb)) os) = (let one : length s.below.items ≡ suc (length nb) = omega (arith, one_more) in ap (λ (n : ℕ). sum_by f (drop n os)) one) in
              let new : sum_by f (drop (length s'.below.items) os) ≡ sum_by f (drop (length nb) os) = ap (λ (l : List TicketPass). sum_by f (drop (length l) os)) nb_is in
              let here : f x ≡ sum_by h (stolen_by q) = ap (sum_by h) stolen_last in
              let none : sum_by h (view q).olds ≡ 0 = ap (sum_by h) last_thief.2 in
              let a = ap (sum_by h) e in
              let b = sum_by-append h (olds_of s) (stolen_by q ++ (view q).olds) in
              let c = sum_by-append h (stolen_by q) (view q).olds in
              omega (arith, half.olds h));
          low = (λ i o less at.
              let lt : i < length nb = omega (arith, less, ap length nb_is) in
              set_else cur (length nb) i x' (λ e. omega (arith, e, lt)) ∙ half.low i o (omega (arith, lt, one_more)) at);
          high = (λ i o more at.
              ⊎_elim
              (λ (e : length nb ≡ i).
              let o_is : x ≡ o = some-injective x o (sym was ∙ (ap (get_elem? os) e ∙ at)) in
              (pass, q, x', ap (get_elem? s0.below.items) (sym e) ∙ on_pass, ap (get_elem? (set cur (length nb) x')) (sym e) ∙ set_here cur (length nb) x' (in_range nb pass popped), subst (λ (u : Seat). Parts u pass x' q) o_is parts))
              (λ (l : suc (length nb) ≤ i).
              let old = half.high i o (omega (arith, l, one_more)) at in
              (old.0, old.1, old.2, old.3, set_else cur (length nb) i x' (λ e. omega (arith, e, l)) ∙ old.4, old.5))
              (split i (length nb) (omega (arith, more, ap length nb_is))));
        }

  module _ (done : s.below.items ≡ []) where
    none_left : length s.below.items ≡ 0
    none_left = ap length done

    changed : (i : ℕ) (o : Seat) → get_elem? os i ≡ some o → (p : TicketPass) × (q : TicketPass) × (o' : Seat) × (get_elem? s0.below.items i ≡ some p) × (get_elem? cur i ≡ some o') × Parts o p o' q
    changed i o at = half.high i o (omega (arith, none_left)) at

    pub parts_all : (worker_view s.owner).parts ≡ 64
    parts_all = omega (arith, half.parts, none_left)

    owners_kept : owners cur ≡ owners os
    owners_kept = owners_same cur os half.count (λ i o at. let c = changed i o at in (c.2, c.4, c.5.deque))

    member_after : (i : ℕ) (o : Seat) (p : TicketPass) (o' : Seat) (q : TicketPass) → get_elem? os i ≡ some o → get_elem? s0.below.items i ≡ some p → Parts o p o' q → IsMember (owners os) i o'
    member_after i o p o' q at at_p parts =
        let m = other os s0 members i o at in
        let lt = within os i o at in
        let th = thief_at (owners os) s0.below.items i (deque_of o) (below_all os s0 members) (at_map deque_of os i o at) in
        let one : (view p).parts ≡ 1 = ap (λ (t : TicketPass). (view t).parts) (some-injective p th.0 (sym at_p ∙ th.1)) ∙ th.2.1 in
        record {
          number = parts.number ∙ m.number;
          port = parts.port ∙ m.port;
          parts = (let e = ap (λ v. v.parts) parts.sees in omega (arith, e, one, m.parts, length-map (os ++ s0 ∷ []) deque_of, length-append os (s0 ∷ []), length-map os deque_of));
          below = subst (λ (ds : List Deque). AreThieves ds o'.below.items) (ap (take i) (owners_snoc os s0) ∙ take_snoc (owners os) (deque_of s0) i (omega (arith, lt, length-map os deque_of)))
              (subst (λ (l : List TicketPass). AreThieves (take i (owners (os ++ s0 ∷ []))) l) (sym (ap (λ v. v.items) parts.below)) m.below);
          above = (thieves_snoc (drop (suc i) (owners os)) (deque_of s0) o'.above.items q (subst (λ (l : List TicketPass). AreThieves (drop (suc i) (owners os) ++ deque_of s0 ∷ []) l) parts.above (above_all os s0 members i o at))).0;
          steals = ap (λ v. v.steals) parts.sees ∙ m.steals;
          most = subst (λ (l : List Ticket). length l ≤ 2 ^ 57) (sym (ap (λ v. v.puts) parts.sees)) m.most;
        }

    stolen_same : (i : ℕ) (o : Seat) (p : TicketPass) (o' : Seat) (q : TicketPass) → get_elem? os i ≡ some o → Parts o p o' q → (j : ℕ) → j < length os → stolen_from j o' ≡ stolen_from j o
    stolen_same i o p o' q at parts j lt =
        let m = other os s0 members i o at in
        let len : length o'.above.items ≡ length os - suc i =
        thieves_length (drop (suc i) (owners os)) o'.above.items
        (thieves_snoc (drop (suc i) (owners os)) (deque_of s0) o'.above.items q (subst (λ (l : List TicketPass). AreThieves (drop (suc i) (owners os) ++ deque_of s0 ∷ []) l) parts.above (above_all os s0 members i o at))).0
        ∙ length-drop (suc i) (owners os) ∙ ap (λ (n : ℕ). n - suc i) (length-map os deque_of) in
        rw (parts.number, ap (λ v. v.items) parts.below) (ap (λ (l : List Ticket). cond (ltb j o.number) (stolen_at o.below.items j) l) (pick (ltb o.number j) refl m.number len))
      where
        pick : (b : Bool) → ltb o.number j ≡ b → o.number ≡ i → length o'.above.items ≡ length os - suc i
            → cond b (stolen_at o'.above.items (j - o.number - 1)) [] ≡ cond b (stolen_at o.above.items (j - o.number - 1)) []
        pick true is num len =
            let over = ltb-true o.number j is in
            sym (ap (λ (l : List TicketPass). stolen_at l (j - o.number - 1)) parts.above ∙ stolen_at_front o'.above.items q (j - o.number - 1) (omega (arith, over, num, len, lt)))
        pick false is num len = refl

    pub departs : (left : ℕ) → (items : List Ticket) × (length items ≡ left) × IsAccounted (worker_view s.owner) items → Departs os s0 cur left
    departs left account = record {
      members = (
        omega (arith, half.count, members.0, length-append os (s0 ∷ [])),
        λ i c at.
            let o = at_some os i (omega (arith, within cur i c at, half.count)) in
            let ch = changed i o.0 o.1 in
            let is : ch.2 ≡ c = some-injective ch.2 c (sym ch.4 ∙ at) in
            subst (λ (ds : List Deque). IsMember ds i c) (sym owners_kept) (subst (IsMember (owners os) i) is (member_after i o.0 ch.0 ch.2 ch.1 o.1 ch.3 ch.5)),
      );
      count = half.count;
      each = (λ i o c at at'.
          let ch = changed i o at in
          let is : ch.2 ≡ c = some-injective ch.2 c (sym ch.4 ∙ at') in
          let th = thief_at (owners os) s0.below.items i (deque_of o) (below_all os s0 members) (at_map deque_of os i o at) in
          let none : (view ch.0).olds ≡ [] = ap (λ (t : TicketPass). (view t).olds) (some-injective ch.0 th.0 (sym ch.3 ∙ th.1)) ∙ th.2.2 in
          subst (Joins (length os) (stolen_at s0.below.items i) o) is (record {
            puts = ap (λ v. v.puts) ch.5.sees;
            pops = ap (λ v. v.pops) ch.5.sees;
            stolen = stolen_same i o ch.0 ch.2 ch.1 at ch.5;
            olds = ap (λ v. v.olds) ch.5.sees ∙ ap (λ (l : List Ticket). olds_of o ++ (stolen_by ch.0 ++ l)) none ∙ ap (λ (l : List Ticket). olds_of o ++ (l ++ [])) (sym (stolen_at_here s0.below.items i ch.0 ch.3));
          }));
      items = account.0;
      are_left = account.1;
      suffix = (account.2.0.0, sym half.puts ∙ account.2.0.1);
      whole = (λ h.
          let f : Seat → ℕ = λ o. sum_by h (stolen_from (length os) o) in
          let a = account.2.1 h in
          let none : sum_by h (worker_view s.owner).steals ≡ 0 = ap (sum_by h) half.steals in
          let p = ap (sum_by h) half.puts in
          let r = ap (sum_by h) half.pops in
          let d : sum_by f (drop (length s.below.items) os) ≡ sum_by f os = ap (λ (n : ℕ). sum_by f (drop n os)) none_left in
          omega (arith, half.olds h));
    }
