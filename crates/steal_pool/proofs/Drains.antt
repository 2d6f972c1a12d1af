-- All seats leave, one by one.
use Rattle.std.proofs.Common.{◌≡◌, ℕ, suc, ◌+◌, ◌*◌, ◌^◌, ◌<◌, ◌≤◌, List, [], ◌∷◌, ◌++◌, length, length-append, take, drop, sym, refl, ap, ◌∙◌, subst, arith}
use Rattle.std.specs.List.{sum_by}
use Rattle.std.proofs.lemmas.List.Sums.{sum_by-cons, sum_by-append, sum_by-take-drop}
use Rattle.std.proofs.lemmas.Bool.{lt-ltb, le-ltb}
use mathlib.Core.Option.{some, some-injective}
use lib.ListN.{get_elem?}
use Rattle.crossbeam_deque.proofs.Lists.{at_last, at_longer, drop_at}
use Rattle.steal_pool.specs.declared.rule.Ticket.{Ticket}
use Rattle.steal_pool.specs.declared.seats.Seat.{Seat}
use Rattle.steal_pool.specs.Seats.{stolen_at, stolen_from, puts_of, pops_of, olds_of, owners}
use Rattle.steal_pool.specs.Closing.{IsMember, Members, Departs, HaveNoOlds, IsSettled, Settles, Leaves}
use Rattle.steal_pool.proofs.Partings.{at_some, within}

-- what the seat c, which was s, still shows while m seats are left
pub record Same (all : List Seat) (m i : ℕ) (c s : Seat) : Type 0 where
  pub puts : puts_of c ≡ puts_of s
  pub pops : pops_of c ≡ pops_of s
  pub stolen : (j : ℕ) → j < m → stolen_from j c ≡ stolen_from j s
  pub olds : (h : Ticket → ℕ) → sum_by h (olds_of c) ≡ sum_by (λ (u : Seat). sum_by h (stolen_from i u)) (drop m all)

pub record Drained (all cur : List Seat) (left : ℕ) : Type 0 where
  pub members : Members cur
  pub few : length cur ≤ length all
  pub room : left + length cur * (2 ^ 57) ≤ length all * (2 ^ 57)
  pub each : (i : ℕ) (c s : Seat) → get_elem? cur i ≡ some c → get_elem? all i ≡ some s → Same all (length cur) i c s
  pub lefts : List (List Ticket)
  pub settles : Settles all (length cur) (drop (length cur) all) lefts
  pub sum : left ≡ sum_by (λ (l : List Ticket). length l) lefts

drop_it : {A : Type 0} (l : List A) → drop (length l) l ≡ []
drop_it [] = refl
drop_it (x ∷ xs) = drop_it xs

pub begin : (all : List Seat) → Members all → HaveNoOlds all → Drained all all 0
begin all members fresh = record {
  members = members;
  few = omega arith;
  room = omega arith;
  each = (λ i c s at at'.
      let is : c ≡ s = some-injective c s (sym at ∙ at') in
      record {
        puts = ap puts_of is;
        pops = ap pops_of is;
        stolen = (λ j lt. ap (stolen_from j) is);
        olds = (λ h. ap (sum_by h) (fresh i c at) ∙ ap (sum_by (λ (u : Seat). sum_by h (stolen_from i u))) (sym (drop_it all)));
      });
  lefts = [];
  settles = subst (λ (l : List Seat). Settles all (length all) l []) (sym (drop_it all)) tt;
  sum = refl;
}

sum_same : (f : Seat → ℕ) (cs ss : List Seat) → length cs ≤ length ss → ((i : ℕ) (c s : Seat) → get_elem? cs i ≡ some c → get_elem? ss i ≡ some s → f c ≡ f s) → sum_by f cs ≡ sum_by f (take (length cs) ss)
sum_same f [] ss h same = refl
sum_same f (c ∷ cs) [] h same = absurd (omega (arith, h))
sum_same f (c ∷ cs) (s ∷ ss) h same =
    omega (arith, sum_by-cons f c cs, sum_by-cons f s (take (length cs) ss), same 0 c s refl refl, sum_same f cs ss (omega (arith, h)) (λ i d t at at'. same (suc i) d t at at'))

module _ (all : List Seat) (first : Members all) (cs : List Seat) (c : Seat) (left : ℕ) (d : Drained all (cs ++ c ∷ []) left) where
  m : ℕ
  m = length cs

  whole_length : length (cs ++ c ∷ []) ≡ suc (length cs)
  whole_length = let e = length-append cs (c ∷ []) in omega (arith, e)

  module _ (new : List Seat) (more : ℕ) (gone : Departs cs c new more) where
    here : (s : Seat) × (get_elem? all (length cs) ≡ some s)
    here = at_some all (length cs) (omega (arith, d.few, whole_length))

    last : IsMember (owners (cs ++ c ∷ [])) (length cs) c
    last = d.members.1 (length cs) c (at_last cs c (length cs) refl)

    mine : Same all (length (cs ++ c ∷ [])) (length cs) c here.0
    mine = d.each (length cs) c here.0 (at_last cs c (length cs) refl) here.1

    split_here : drop (length cs) all ≡ here.0 ∷ drop (suc (length cs)) all
    split_here = drop_at all (length cs) here.0 here.1

    drop_whole : drop (length (cs ++ c ∷ [])) all ≡ drop (suc (length cs)) all
    drop_whole = ap (λ (n : ℕ). drop n all) whole_length

    -- a seat steals nothing from itself
    own_none : stolen_from (length cs) here.0 ≡ []
    own_none =
        let n : here.0.number ≡ length cs = (first.1 (length cs) here.0 here.1).number in
        rw (le-ltb (length cs) here.0.number (omega (arith, n)), le-ltb here.0.number (length cs) (omega (arith, n))) refl

    pub few_more : more ≤ 2 ^ 57
    few_more = let e = ap length gone.suffix.1 in omega (arith, gone.are_left, last.most, e, length-append gone.suffix.0 gone.items)

    settled : IsSettled all (length cs) here.0 gone.items
    settled = (
      (gone.suffix.0, sym mine.puts ∙ gone.suffix.1),
      λ h.
          let f : Seat → ℕ = λ u. sum_by h (stolen_from (length cs) u) in
          let p = ap (sum_by h) mine.puts in
          let q = ap (sum_by h) mine.pops in
          let o : sum_by h (olds_of c) ≡ sum_by f (drop (suc (length cs)) all) = mine.olds h ∙ ap (sum_by f) drop_whole in
          let below : sum_by f cs ≡ sum_by f (take (length cs) all) =
          sum_same f cs all (omega (arith, d.few, whole_length)) (λ i u s at at'. ap (sum_by h) ((d.each i u s (at_longer cs (c ∷ []) i u at) at').stolen (length cs) (omega (arith, whole_length)))) in
          let none : f here.0 ≡ 0 = ap (sum_by h) own_none in
          let all_sum = sum_by-take-drop f all (length cs) in
          let tail : sum_by f (drop (length cs) all) ≡ f here.0 + sum_by f (drop (suc (length cs)) all) = ap (sum_by f) split_here ∙ sum_by-cons f here.0 (drop (suc (length cs)) all) in
          omega (arith, gone.whole h),
    )

    pub step : Drained all new (left + more)
    step = record {
      members = gone.members;
      few = omega (arith, gone.count, d.few, whole_length);
      room = omega (arith, d.room, whole_length, gone.count, few_more);
      each = (λ i u s at at'.
          let lt : i < length cs = (let w = within new i u at in omega (arith, w, gone.count)) in
          let o = at_some cs i lt in
          let old = d.each i o.0 s (at_longer cs (c ∷ []) i o.0 o.1) at' in
          let j = gone.each i o.0 u o.1 at in
          record {
            puts = j.puts ∙ old.puts;
            pops = j.pops ∙ old.pops;
            stolen = (λ k less.
                let l : k < length cs = omega (arith, less, gone.count) in
                let l' : k < length (cs ++ c ∷ []) = omega (arith, l, whole_length) in
                j.stolen k l ∙ old.stolen k l');
            olds = (λ h.
                let f : Seat → ℕ = λ v. sum_by h (stolen_from i v) in
                let e = ap (sum_by h) j.olds in
                let a = sum_by-append h (olds_of o.0) (stolen_at c.below.items i ++ []) in
                let b = sum_by-append h (stolen_at c.below.items i) [] in
                let over : i < length (cs ++ c ∷ []) = omega (arith, lt, whole_length) in
                let num : i < c.number = omega (arith, lt, last.number) in
                let same : stolen_at c.below.items i ≡ stolen_from i here.0 = (let z : stolen_from i c ≡ stolen_at c.below.items i = rw (lt-ltb i c.number num) refl in sym z ∙ mine.stolen i over) in
                let xs = ap (sum_by h) same in
                let tail : sum_by f (drop (length cs) all) ≡ f here.0 + sum_by f (drop (suc (length cs)) all) = ap (sum_by f) split_here ∙ sum_by-cons f here.0 (drop (suc (length cs)) all) in
                let before : sum_by h (olds_of o.0) ≡ sum_by f (drop (suc (length cs)) all) = old.olds h ∙ ap (sum_by f) drop_whole in
                let now : sum_by f (drop (length new) all) ≡ sum_by f (drop (length cs) all) = ap (λ (n : ℕ). sum_by f (drop n all)) gone.count in
                omega arith);
          });
      lefts = gone.items ∷ d.lefts;
      settles =
          (let rest : Settles all (suc (length cs)) (drop (suc (length cs)) all) d.lefts = subst (λ (n : ℕ). Settles all n (drop n all) d.lefts) whole_length d.settles in
          let both : Settles all (length cs) (drop (length cs) all) (gone.items ∷ d.lefts) = subst (λ (l : List Seat). Settles all (length cs) l (gone.items ∷ d.lefts)) (sym split_here) (settled, rest) in
          subst (λ (n : ℕ). Settles all n (drop n all) (gone.items ∷ d.lefts)) (sym gone.count) both);
      sum = omega (arith, d.sum, gone.are_left, sum_by-cons (λ (l : List Ticket). length l) gone.items d.lefts);
    }

pub ends : (all cur : List Seat) (left : ℕ) → Drained all cur left → cur ≡ [] → Leaves all left
ends all cur left d none =
    (d.lefts, subst (λ (l : List Seat). Settles all (length l) (drop (length l) all) d.lefts) none d.settles, d.sum)
