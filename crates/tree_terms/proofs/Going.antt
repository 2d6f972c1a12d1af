-- The copies go on until all are whole.
use Rattle.std.proofs.Common.{◌≡◌, ℕ, zero, suc, ◌+◌, ◌-◌, ◌<◌, ◌≤◌, Bool, true, false, List, [], ◌∷◌, length, refl, sym, ap, ◌∙◌, subst, arith, length-append, ⊎_elim}
use Rattle.std.specs.Prelude.{if◌then◌else◌, Option, None, Some, slice_get, nat_lt, IsSome, IsTrue}
use Rattle.std.proofs.lemmas.Bool.{ltb-true, ltb-false}
use Rattle.hy_val.specs.declared.sort.Sort.{Sort}
use Rattle.hy_term.specs.TermSorts.{sorts}
use Rattle.hy_term.specs.Variables.{below}
use Rattle.hy_term.specs.declared.node.TermNode.{TermNode}
use Rattle.hy_term.specs.declared.node.TermNode.TheVariants.{Lit, ZeroMap, Variable, Unary, Binary, If, Select, Store}
use Rattle.tree_terms.specs.Copies.{IsPart}
use Rattle.tree_terms.proofs.Growth.{grows_not, sort_within}
use Rattle.tree_terms.proofs.Parts.{lt_or_eq}
use Rattle.tree_terms.proofs.Rows.{row_longer}
use Rattle.tree_terms.specs.declared.linked.Linked.{Linked}
use Rattle.tree_terms.specs.declared.linked.Source.{Source}
use Rattle.tree_terms.specs.declared.linked.Source.TheVariants.{Given, Up, Down, Fresh}
use Rattle.tree_terms.specs.Linked.{nodes_of, parent, source, IsVariable, IsLinked}
use Rattle.tree_terms.specs.Copying.{IsCopying, IsReady, waits_at, waits_by, waits, MayGo, IsTurn, Keeps, left_of, AreDone, AreCopied}
use Rattle.tree_terms.specs.Tables.{row, IsPushed}

-- ---- down

-- what a node waits for
pub record WaitsFor (q : Linked) (places : List (List ℕ)) (m c : ℕ) : Type 0 where
  pub number : ℕ
  pub sort : Sort
  pub place : ℕ
  pub is : IsVariable q m (length (row places m)) number sort
  pub down : source q m number ≡ Down c place
  pub far : length (row places c) ≤ place

waits_source : (q : Linked) (places : List (List ℕ)) (m c number : ℕ) (sort : Sort) (s : Source) → IsVariable q m (length (row places m)) number sort → source q m number ≡ s → waits_at places s ≡ Some c → WaitsFor q places m c
waits_source q places m c number sort (Given t) is src h = cc
waits_source q places m c number sort (Up i) is src h = cc
waits_source q places m c number sort (Down d i) is src h = by_test (nat_lt i (length (row places d))) refl h
  where
    by_test : (b : Bool) → nat_lt i (length (row places d)) ≡ b → (if b then None else Some d) ≡ Some c → WaitsFor q places m c
    by_test true lt e = cc
    by_test false lt e =
        let same : d ≡ c = cc in
        record {
          number = number;
          sort = sort;
          place = i;
          is = is;
          down = src ∙ ap (λ (n : ℕ). Down n i) same;
          far = subst (λ (n : ℕ). length (row places n) ≤ i) same (ltb-false i (length (row places d)) lt);
        }
waits_source q places m c number sort Fresh is src h = cc

waits_node : (q : Linked) (places : List (List ℕ)) (m c : ℕ) (o : Option TermNode) → slice_get (nodes_of q m) (length (row places m)) ≡ o → waits_by q places m o ≡ Some c → WaitsFor q places m c
waits_node q places m c None is h = cc
waits_node q places m c (Some (Lit a)) is h = cc
waits_node q places m c (Some (ZeroMap i e)) is h = cc
waits_node q places m c (Some (Variable number sort)) is h = waits_source q places m c number sort (source q m number) is refl h
waits_node q places m c (Some (Unary op child)) is h = cc
waits_node q places m c (Some (Binary op left right)) is h = cc
waits_node q places m c (Some (If test one other)) is h = cc
waits_node q places m c (Some (Select i j)) is h = cc
waits_node q places m c (Some (Store i j v)) is h = cc

-- the callee that a node waits for may go on
pub down_goes : (q : Linked) (base : List TermNode) (places : List (List ℕ)) (m c : ℕ) → IsLinked q base → MayGo q places m → waits q places m ≡ Some c → (m < c) × (c < length q.tree) × MayGo q places c
down_goes q base places m c linked go h =
    let w = waits_node q places m c (slice_get (nodes_of q m) (length (row places m))) refl h in
    let d = linked.down m (length (row places m)) w.number c w.place w.sort go.tree w.is w.down in
    let l : w.place < length (nodes_of q c) = sort_within (nodes_of q c) w.place w.sort d.2 in (
      d.0,
      d.1,
      record {
        tree = d.1;
        more = omega (arith, l, w.far);
        ready = λ j number i sort is src. let u = d.3 j number i sort is src in subst (λ (p : ℕ). i < length (row places p)) (sym u.0) u.1;
      },
    )

-- ---- what is left

left_same : (q : Linked) (old new : List (List ℕ)) (m t : ℕ) → IsPushed old new m t → (n : ℕ) → n ≤ m → left_of q new n ≡ left_of q old n
left_same q old new m t p zero l = refl
left_same q old new m t p (suc n) l =
    let off : n ≡ m → ⊥ = λ e. absurd (omega (arith, e, l)) in
    ap (λ (r : List ℕ). (length (nodes_of q n) - length r) + left_of q new n) (p.others n off)
    ∙ ap (λ (k : ℕ). (length (nodes_of q n) - length (row old n)) + k) (left_same q old new m t p n (omega (arith, l)))

pub left_less : (q : Linked) (old new : List (List ℕ)) (m t : ℕ) → IsPushed old new m t → length (row old m) < length (nodes_of q m) → (n : ℕ) → m < n → left_of q new n < left_of q old n
left_less q old new m t p more zero l = absurd (omega (arith, l))
left_less q old new m t p more (suc n) l = ⊎_elim
    (λ low. let off : n ≡ m → ⊥ = λ e. absurd (omega (arith, e, low)) in
    let same : length (row new n) ≡ length (row old n) = ap length (p.others n off) in
    let rest = left_less q old new m t p more n low in omega (arith, same, rest))
    (λ e. let long : length (row new n) ≡ length (row old n) + 1 =
    ap (λ (k : ℕ). length (row new k)) (sym e) ∙ (ap length p.here ∙ (length-append (row old m) (t ∷ []) ∙ ap (λ (k : ℕ). length (row old k) + 1) e)) in
    let room : length (row old n) < length (nodes_of q n) = subst (λ (k : ℕ). length (row old k) < length (nodes_of q k)) e more in
    let rest = left_same q old new m t p n (omega (arith, e)) in omega (arith, long, room, rest))
    (lt_or_eq m n (omega (arith, l)))

-- ---- a node made whole

pub ready_done : (q : Linked) (base : List TermNode) (places : List (List ℕ)) (m : ℕ) → IsLinked q base → AreDone q places m → m < length q.tree → IsReady q places m
ready_done q base places m linked done here j number i sort is src =
    let u = linked.up m j number i sort here is src in
    let in_tree : parent q m < length q.tree = omega (arith, u.0, here) in
    let low = sort_within (nodes_of q (parent q m)) i sort u.1 in
    let whole = done (parent q m) u.0 in_tree in
    omega (arith, low, whole)

pub ready_stays : (q : Linked) (old new : List (List ℕ)) (m : ℕ) → ((x : ℕ) → length (row old x) ≤ length (row new x)) → IsReady q old m → IsReady q new m
ready_stays q old new m longer ready j number i sort is src = let r = ready j number i sort is src in let l = longer (parent q m) in omega (arith, r, l)

turn_longer : (old new : List (List ℕ)) (m t : ℕ) → IsPushed old new m t → (x : ℕ) → length (row old x) ≤ length (row new x)
turn_longer old new m t p x = by_length (length (row old x)) refl
  where
    by_length : (n : ℕ) → length (row old x) ≡ n → length (row old x) ≤ length (row new x)
    by_length zero e = omega (arith, e)
    by_length (suc n) e = let r = (row_longer old new m t p x n (omega (arith, e))).0 in omega (arith, e, r)

pub keeps_not : (q : Linked) (terms : List TermNode) (places : List (List ℕ)) → Keeps q terms terms places places
keeps_not q terms places = record { keeps = λ base linked h. h; longer = λ x. omega arith }

pub keeps_turn : (q : Linked) (old mid new : List TermNode) (places places2 places3 : List (List ℕ)) (m : ℕ) → Keeps q old mid places places2 → IsTurn q mid new places2 places3 m
    → Keeps q old new places places3
keeps_turn q old mid new places places2 places3 m k t = record {
  keeps = λ base linked h. t.keeps base linked (k.keeps base linked h);
  longer = λ x. let a = k.longer x in let b = turn_longer places2 places3 m t.term t.pushed x in omega (arith, a, b);
}

pub done_more : (q : Linked) (old new : List (List ℕ)) (m : ℕ) → AreDone q old m → ((x : ℕ) → length (row old x) ≤ length (row new x)) → length (nodes_of q m) ≤ length (row new m) → AreDone q new (m + 1)
done_more q old new m done longer whole x l here = ⊎_elim
    (λ low. let d = done x low here in let g = longer x in omega (arith, d, g))
    (λ e. subst (λ (k : ℕ). length (nodes_of q k) ≤ length (row new k)) (sym e) whole) (lt_or_eq x m l)

-- ---- the whole tree

pub begun : (q : Linked) (base : List TermNode) (places : List (List ℕ)) → IsLinked q base → IsSome (sorts base) → IsTrue (below (length base) base) → length places ≡ length q.tree → ((m : ℕ) → row places m ≡ [])
    → IsCopying q base base places
begun q base places linked sorted low count empty = record {
  grows = grows_not base;
  base_sorted = sorted;
  sorted = sorted;
  low = low;
  count = count;
  parts = λ m here. subst (λ (r : List ℕ). IsPart (nodes_of q m) base r) (sym (empty m))
      (record { count = omega arith; sorts_are = λ j l. absurd (omega (arith, l)); means = λ a c fit puts j l. absurd (omega (arith, l)) });
  puts = λ m j number sort here l is. absurd (omega (arith, l, ap length (empty m)));
  assigns = λ b w fit have. record { a = b; fits = fit; old = λ t l. refl; new = λ m j sort f. absurd (let l = f.copied in omega (arith, l, ap length (empty m))) };
}

pub all_done : (q : Linked) (base into : List TermNode) (places : List (List ℕ)) (n : ℕ) → IsCopying q base into places → AreDone q places n → length q.tree ≤ n → AreCopied q base into places
all_done q base into places n h done over = record {
  copying = h;
  whole = λ m here. let d = done m (omega (arith, here, over)) here in let c = (h.parts m here).count in omega (arith, d, c);
}

pub lt_unless : (a b : ℕ) → (b ≤ a → IsTrue false) → a < b
lt_unless a b h = by_test (nat_lt a b) refl
  where
    by_test : (x : Bool) → nat_lt a b ≡ x → a < b
    by_test true lt = ltb-true a b lt
    by_test false lt = let e : false ≡ true = h (ltb-false a b lt) in cc
