-- Each split node has two halves, which are made with it.
use Rattle.std.proofs.Common.{◌≡◌, ℕ, zero, suc, ◌+◌, ◌<◌, Bool, true, false, List, [], ◌∷◌, ◌++◌, length, set, slice_get, refl, sym, ap, ◌∙◌, subst, arith, Some, true≢false, nat_eq, eqb-true, eq-eqb, ◌⊎◌, inl, inr, ⊎_elim, length-append, length-set}
use Rattle.std.specs.Prelude.{Option, None, All, map}
use Rattle.std.proofs.lemmas.Option.{none-some, same_Some, slice_get_within}
use Rattle.call_tree.specs.declared.piece.Decision2.{Decision2}
use Rattle.call_tree.specs.declared.piece.Decision2.TheVariants.{Must, Avoid}
use Rattle.piece_core.specs.declared.tasks.Task.{Task}
use Rattle.piece_core.specs.declared.events.Event.{Event}
use Rattle.piece_core.specs.declared.events.Event.TheVariants.{Take, Inline, Split, Close, Found, Back}
use Rattle.piece_core.specs.declared.events.Entry.{Entry}
use Rattle.piece_core.specs.declared.leaves.StatusKind.{StatusKind}
use Rattle.piece_core.specs.declared.leaves.StatusKind.TheVariants.{Live as LiveKind, Closed as ClosedKind, Found as FoundKind, Split as SplitKind}
use Rattle.piece_core.specs.Shapes.{Shape, Ask, Legal, replay, after_at, after, changed, half, made, fault_at, is_live}
use Rattle.piece_core.specs.Evidence.{kind_of, shape_of, shapes_of}
use Rattle.piece_core.specs.Halves.{split_of, next_after, HasHalves, site_of, AreHalves, firsts_with}
use Rattle.piece_core.specs.Book.{leaf_with, live_leaf, written_at, written}
use Rattle.piece_core.proofs.Shaping.{map_get, shapes_written}
use Rattle.piece_core.proofs.Table.{IsHere, here_of}
use Rattle.piece_core.proofs.Kept.{get_left, get_set_same, get_set_other, own_after, other_after, settled_after}
use Rattle.piece_core.specs.declared.leaves.Status2.{Status2}
use Rattle.piece_core.specs.declared.leaves.Status2.TheVariants.{Live, Closed as ClosedNode, Found as FoundNode, Split as SplitNode}
use Rattle.piece_core.specs.declared.leaves.Leaf.{Leaf}

get_behind : {X : Type 0} (xs ys : List X) (i : ℕ) → slice_get (xs ++ ys) (length xs + i) ≡ slice_get ys i
get_behind [] ys i = let e : 0 + i ≡ i = omega arith in ap (slice_get ys) e
get_behind (x ∷ xs) ys i = let e : length (x ∷ xs) + i ≡ suc (length xs + i) = omega arith in ap (slice_get ((x ∷ xs) ++ ys)) e ∙ get_behind xs ys i

made_length : (s : Shape) (w : ℕ) (event : Event) (n : ℕ) → n + length (made s w event) ≡ next_after (split_of event) n
made_length s w Take n = omega arith
made_length s w (Inline sites) n = omega arith
made_length s w (Split site) n = refl
made_length s w Close n = omega arith
made_length s w Found n = omega arith
made_length s w Back n = omega arith

pub length_after : (task : Task) (nodes : List Shape) (e : Entry) → fault_at task (slice_get nodes e.node) e ≡ None → length (after nodes e) ≡ next_after (split_of e.event) (length nodes)
length_after task nodes e h =
    let here = here_of task nodes e h in
    let new = changed here.shape e.worker e.event in
    let more = made here.shape e.worker e.event in
    subst (λ (o : Option Shape). length (after_at nodes e o) ≡ next_after (split_of e.event) (length nodes)) (sym here.at)
    (length-append (set nodes e.node new) more ∙ ap (λ n. n + length more) (length-set nodes e.node new) ∙ made_length here.shape e.worker e.event (length nodes))

changed_piece : (s : Shape) (w : ℕ) (event : Event) → (changed s w event).piece ≡ s.piece
changed_piece s w Take = refl
changed_piece s w (Inline sites) = refl
changed_piece s w (Split site) = refl
changed_piece s w Close = refl
changed_piece s w Found = refl
changed_piece s w Back = refl

-- a node keeps its piece
pub piece_after : (task : Task) (nodes : List Shape) (e : Entry) (i : ℕ) (s : Shape) → fault_at task (slice_get nodes e.node) e ≡ None → slice_get nodes i ≡ Some s → (t : Shape) × (slice_get (after nodes e) i ≡ Some t) × (t.piece ≡ s.piece)
piece_after task nodes e i s h at = by_place (nat_eq e.node i) refl
  where
    by_place : (b : Bool) → nat_eq e.node i ≡ b → (t : Shape) × (slice_get (after nodes e) i ≡ Some t) × (t.piece ≡ s.piece)
    by_place true is =
        let same : e.node ≡ i = eqb-true e.node i is in
        (changed s e.worker e.event, subst (λ k. slice_get (after nodes e) k ≡ Some (changed s e.worker e.event)) same (own_after nodes e s (ap (slice_get nodes) same ∙ at)), changed_piece s e.worker e.event)
    by_place false is = (s, other_after task nodes e i s h (λ same. true≢false (sym (eq-eqb e.node i same) ∙ is)) at, refl)

-- later events leave a node with its halves
halves_after : (task : Task) (nodes : List Shape) (e : Entry) (node : ℕ) (site : List ℕ) (first : ℕ) → fault_at task (slice_get nodes e.node) e ≡ None → HasHalves nodes node site first → HasHalves (after nodes e) node site first
halves_after task nodes e node site first h has =
    let m = piece_after task nodes e first has.must h has.at_must in
    let a = piece_after task nodes e (suc first) has.avoid h has.at_avoid in
    record {
      shape = has.shape;
      at = settled_after task nodes e node has.shape h (ap is_live has.split) has.at;
      split = has.split;
      must = m.0;
      at_must = m.1;
      must_piece = m.2 ∙ has.must_piece;
      avoid = a.0;
      at_avoid = a.1;
      avoid_piece = a.2 ∙ has.avoid_piece;
      above = has.above;
    }

-- a split gives its node two halves
halves_made : (task : Task) (nodes : List Shape) (worker node : ℕ) (site : List ℕ) → fault_at task (slice_get nodes node) (record { worker = worker; node = node; event = Split site }) ≡ None → HasHalves (after nodes (record { worker = worker; node = node; event = Split site })) node site (length nodes)
halves_made task nodes worker node site h =
    let e : Entry = record { worker = worker; node = node; event = Split site } in
    let here = here_of task nodes e h in
    let s = here.shape in
    let old = set nodes node (changed s worker (Split site)) in
    let more = made s worker (Split site) in
    let long : length old ≡ length nodes = length-set nodes node (changed s worker (Split site)) in
    let first : slice_get (old ++ more) (length nodes) ≡ Some (half s (Some worker) site Must) = subst (λ n. slice_get (old ++ more) n ≡ Some (half s (Some worker) site Must)) (omega (arith, long)) (get_behind old more 0) in
    let second : slice_get (old ++ more) (suc (length nodes)) ≡ Some (half s None site Avoid) = subst (λ n. slice_get (old ++ more) n ≡ Some (half s None site Avoid)) (omega (arith, long)) (get_behind old more 1) in
    let whole : after nodes e ≡ old ++ more = ap (after_at nodes e) here.at in
    record {
      shape = changed s worker (Split site);
      at = own_after nodes e s here.at;
      split = refl;
      must = half s (Some worker) site Must;
      at_must = ap (λ (ns : List Shape). slice_get ns (length nodes)) whole ∙ first;
      must_piece = refl;
      avoid = half s None site Avoid;
      at_avoid = ap (λ (ns : List Shape). slice_get ns (suc (length nodes))) whole ∙ second;
      avoid_piece = refl;
      above = slice_get_within nodes node s here.at;
    }

split_is : (event : Event) (site : List ℕ) → split_of event ≡ Some site → event ≡ Split site
split_is Take site h = absurd (none-some site h)
split_is (Inline sites) site h = absurd (none-some site h)
split_is (Split x) site h = ap Split (same_Some x site h)
split_is Close site h = absurd (none-some site h)
split_is Found site h = absurd (none-some site h)
split_is Back site h = absurd (none-some site h)

-- what a longer list has
append_cases : {X : Type 0} (xs ys : List X) (i : ℕ) (x : X) → slice_get (xs ++ ys) i ≡ Some x → (slice_get xs i ≡ Some x) ⊎ ((j : ℕ) × (slice_get ys j ≡ Some x))
append_cases [] ys i x h = inr (i, h)
append_cases (z ∷ zs) ys zero x h = inl h
append_cases (z ∷ zs) ys (suc i) x h = append_cases zs ys i x h

made_is_live : (ss : List Shape) (j : ℕ) (leaf : Leaf) → slice_get (map live_leaf ss) j ≡ Some leaf → leaf.status ≡ Live
made_is_live [] j leaf h = absurd (none-some leaf h)
made_is_live (s ∷ ss) zero leaf h = sym (ap (λ (l : Leaf). l.status) (same_Some (live_leaf s) leaf h))
made_is_live (s ∷ ss) (suc j) leaf h = made_is_live ss j leaf h

live_split : {X : Type 0} (status : Status2) (site : List ℕ) → status ≡ Live → status ≡ SplitNode site → X
live_split status site live split = absurd (none-some site (sym (ap site_of live) ∙ ap site_of split))

map_length : {X Y : Type 0} (f : X → Y) (xs : List X) → length (map f xs) ≡ length xs
map_length f [] = refl
map_length f (x ∷ xs) = ap suc (map_length f xs)

-- the numbers of first halves after an event
firsts_long : (o : Option (List ℕ)) (firsts : List ℕ) (node count n : ℕ) → length firsts ≡ n → length (firsts_with o firsts node count) ≡ next_after o n
firsts_long None firsts node count n h = h
firsts_long (Some site) firsts node count n h = length-append (set firsts node count) (0 ∷ 0 ∷ []) ∙ ap (λ k. k + 2) (length-set firsts node count ∙ h)

firsts_other : (o : Option (List ℕ)) (firsts : List ℕ) (node count other first : ℕ) → (node ≡ other → ⊥) → slice_get firsts other ≡ Some first → slice_get (firsts_with o firsts node count) other ≡ Some first
firsts_other None firsts node count other first apart at = at
firsts_other (Some site) firsts node count other first apart at = get_left (set firsts node count) (0 ∷ 0 ∷ []) other first (get_set_other firsts node other count apart ∙ at)

firsts_own : (firsts : List ℕ) (node count : ℕ) (site : List ℕ) → node < length firsts → slice_get (firsts_with (Some site) firsts node count) node ≡ Some count
firsts_own [] node count site less = absurd (omega (arith, less))
firsts_own (x ∷ xs) zero count site less = refl
firsts_own (x ∷ xs) (suc node) count site less = firsts_own xs node count site (omega (arith, less))

pub halves_written : (task : Task) (nodes : List Leaf) (e : Entry) (status : Status2) (leaf : Leaf) (firsts : List ℕ) → slice_get nodes e.node ≡ Some leaf → fault_at task (slice_get (shapes_of nodes) e.node) e ≡ None
    → kind_of status ≡ (changed (shape_of leaf) e.worker e.event).status → split_of e.event ≡ site_of status → AreHalves nodes firsts → AreHalves (written_at nodes e status (Some leaf)) (firsts_with (split_of e.event) firsts e.node (length nodes))
halves_written task nodes e status leaf firsts at fault kind names are =
    let old = shapes_of nodes in
    let new = leaf_with (changed (shape_of leaf) e.worker e.event) status in
    let more = map live_leaf (made (shape_of leaf) e.worker e.event) in
    let all = written_at nodes e status (Some leaf) in
    let same : shapes_of all ≡ after old e = shapes_written nodes e status leaf at kind in
    let count : length old ≡ length nodes = map_length shape_of nodes in
    let long : length all ≡ next_after (split_of e.event) (length nodes) =
    sym (map_length shape_of all) ∙ ap length same ∙ length_after task old e fault ∙ ap (next_after (split_of e.event)) count in
    let own : (l : Leaf) (site : List ℕ) → new ≡ l → l.status ≡ SplitNode site → (first : ℕ) × (slice_get (firsts_with (split_of e.event) firsts e.node (length nodes)) e.node ≡ Some first) × HasHalves (shapes_of all) e.node site first = λ l site is split.
    let says : split_of e.event ≡ Some site = names ∙ ap site_of (ap (λ (x : Leaf). x.status) is ∙ split) in
    let event : e.event ≡ Split site = split_is e.event site says in
    let here : HasHalves (after old e) e.node site (length old) =
    subst (λ (x : Entry). fault_at task (slice_get old x.node) x ≡ None → HasHalves (after old x) e.node site (length old)) (sym (ap (λ (v : Event). record e { event = v }) event)) (halves_made task old e.worker e.node site) fault in (
      length nodes,
      subst (λ (o : Option (List ℕ)). slice_get (firsts_with o firsts e.node (length nodes)) e.node ≡ Some (length nodes)) (sym says) (firsts_own firsts e.node (length nodes) site (subst (λ n. e.node < n) (sym are.long) (slice_get_within nodes e.node leaf at))),
      subst (λ (ns : List Shape). HasHalves ns e.node site (length nodes)) (sym same) (subst (λ n. HasHalves (after old e) e.node site n) count here),
    ) in
    let others : (node : ℕ) (l : Leaf) (site : List ℕ) → (e.node ≡ node → ⊥) → slice_get nodes node ≡ Some l → l.status ≡ SplitNode site → (first : ℕ) × (slice_get (firsts_with (split_of e.event) firsts e.node (length nodes)) node ≡ Some first) × HasHalves (shapes_of all) node site first = λ node l site apart there split.
    let r = are.each node l site there split in
    (r.0, firsts_other (split_of e.event) firsts e.node (length nodes) node r.0 apart r.1, subst (λ (ns : List Shape). HasHalves ns node site r.0) (sym same) (halves_after task old e node site r.0 fault r.2)) in
    record {
      long = firsts_long (split_of e.event) firsts e.node (length nodes) (length nodes) are.long ∙ sym long;
      each = λ node l site there split.
          ⊎_elim (λ k. by_place node l site split k (nat_eq e.node node) refl own others)
          (λ k. live_split l.status site (made_is_live (made (shape_of leaf) e.worker e.event) k.0 l k.1) split)
          (append_cases (set nodes e.node new) more node l there);
    }
  where
    by_place : (node : ℕ) (l : Leaf) (site : List ℕ) → l.status ≡ SplitNode site → slice_get (set nodes e.node (leaf_with (changed (shape_of leaf) e.worker e.event) status)) node ≡ Some l → (b : Bool) → nat_eq e.node node ≡ b
        → ((l : Leaf) (site : List ℕ) → leaf_with (changed (shape_of leaf) e.worker e.event) status ≡ l → l.status ≡ SplitNode site → (first : ℕ) × (slice_get (firsts_with (split_of e.event) firsts e.node (length nodes)) e.node ≡ Some first) × HasHalves (shapes_of (written_at nodes e status (Some leaf))) e.node site first)
        → ((node : ℕ) (l : Leaf) (site : List ℕ) → (e.node ≡ node → ⊥) → slice_get nodes node ≡ Some l → l.status ≡ SplitNode site → (first : ℕ) × (slice_get (firsts_with (split_of e.event) firsts e.node (length nodes)) node ≡ Some first) × HasHalves (shapes_of (written_at nodes e status (Some leaf))) node site first)
        → (first : ℕ) × (slice_get (firsts_with (split_of e.event) firsts e.node (length nodes)) node ≡ Some first) × HasHalves (shapes_of (written_at nodes e status (Some leaf))) node site first
    by_place node l site split there true is own others =
        let k : e.node ≡ node = eqb-true e.node node is in
        let mine = get_set_same nodes e.node leaf (leaf_with (changed (shape_of leaf) e.worker e.event) status) at in
        let same = same_Some (leaf_with (changed (shape_of leaf) e.worker e.event) status) l (sym mine ∙ ap (slice_get (set nodes e.node (leaf_with (changed (shape_of leaf) e.worker e.event) status))) k ∙ there) in
        subst (λ n. (first : ℕ) × (slice_get (firsts_with (split_of e.event) firsts e.node (length nodes)) n ≡ Some first) × HasHalves (shapes_of (written_at nodes e status (Some leaf))) n site first) k (own l site same split)
    by_place node l site split there false is own others =
        let apart : e.node ≡ node → ⊥ = λ k. true≢false (sym (eq-eqb e.node node k) ∙ is) in
        others node l site apart (sym (get_set_other nodes e.node node (leaf_with (changed (shape_of leaf) e.worker e.event) status) apart) ∙ there) split
