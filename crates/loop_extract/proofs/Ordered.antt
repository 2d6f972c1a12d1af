-- The exits of a loop stand in order, by block and then by place, and so they can be searched by halves.
use Rattle.std.proofs.Common.{◌≡◌, ℕ, zero, suc, ◌+◌, ◌<◌, ◌≤◌, ◌&&◌, ◌||◌, nat_eq, nat_lt, nat_le, Bool, true, false, if◌then◌else◌, List, [], ◌∷◌, ◌++◌, length, filter, slice_get, get_or, Option, None, Some, ◌⊎◌, inl, inr, refl, ap, sym, ◌∙◌, subst, arith}
use Rattle.std.proofs.lemmas.Bool.{ltb-true, leb-true, eqb-true, lt-ltb, le-leb, eq-eqb, cases_lt}
use Rattle.std.proofs.lemmas.List.Folds.{list_all-append}
use Rattle.std.specs.List.{list_all, flat_map}
use Rattle.hy_val.proofs.Booleans.{and-first, and-second, and-both, all-at}
use Rattle.src_prog.specs.Loops.{holds_block}
use Rattle.src_prog.specs.declared.block.Next.{Next}
use Rattle.src_prog.specs.declared.block.Next.TheVariants.{Goto, Return}
use Rattle.src_prog.specs.declared.block.SrcBlock.{SrcBlock}
use Rattle.src_prog.specs.declared.proc.SrcLoop.{SrcLoop}
use Rattle.src_prog.specs.declared.proc.SrcProc.{SrcProc}
use Rattle.extract_def.specs.Exits.{edges_at, edges_of, edges_to, exits_of, leaves, place_of_edge}
use Rattle.extract_def.specs.Scopes.{is_in, reached_blocks, reached_from, targets_of}
use Rattle.extract_def.specs.declared.edge.Dest.TheVariants.{Back, At}
use Rattle.extract_def.specs.declared.edge.Edge.{Edge}
use Rattle.loop_extract.specs.Orders.{is_before, are_ordered, IsFirstFrom}

-- ---- two edges

or-cases : (a b : Bool) → (a || b) ≡ true → (a ≡ true) ⊎ (b ≡ true)
or-cases true b h = inl refl
or-cases false b h = inr h

or-left : (a b : Bool) → a ≡ true → (a || b) ≡ true
or-left true b h = refl
or-left false b h = absurd cc

or-right : (a b : Bool) → b ≡ true → (a || b) ≡ true
or-right true b h = refl
or-right false b h = h

-- what it means that an edge stands before another
abbrev pub Before : (block place other at : ℕ) → Type 0
Before block place other at = (block < other) ⊎ ((block ≡ other) × (place < at))

before_of : (block place : ℕ) (e : Edge) → is_before block place e ≡ true → Before e.block e.place block place
before_of block place e h = by (or-cases (nat_lt e.block block) (nat_eq e.block block && nat_lt e.place place) h)
  where
    by : (nat_lt e.block block ≡ true) ⊎ ((nat_eq e.block block && nat_lt e.place place) ≡ true) → Before e.block e.place block place
    by (inl k) = inl (ltb-true e.block block k)
    by (inr k) = inr (eqb-true e.block block (and-first (nat_eq e.block block) _ k), ltb-true e.place place (and-second (nat_eq e.block block) _ k))

is_so : (block place : ℕ) (e : Edge) → Before e.block e.place block place → is_before block place e ≡ true
is_so block place e (inl lt) = or-left (nat_lt e.block block) _ (lt-ltb e.block block lt)
is_so block place e (inr (same, lt)) = or-right (nat_lt e.block block) _ (and-both (nat_eq e.block block) (nat_lt e.place place) (eq-eqb e.block block same) (lt-ltb e.place place lt))

chain : (a p b q c r : ℕ) → Before a p b q → Before b q c r → Before a p c r
chain a p b q c r (inl x) (inl y) = inl (omega (arith, x, y))
chain a p b q c r (inl x) (inr (y, z)) = inl (omega (arith, x, y))
chain a p b q c r (inr (x, w)) (inl y) = inl (omega (arith, x, y))
chain a p b q c r (inr (x, w)) (inr (y, z)) = inr (omega (arith, x, y), omega (arith, w, z))

-- an edge that stands before one that stands before a third stands before the third
along : (block place : ℕ) (d e : Edge) → is_before e.block e.place d ≡ true → is_before block place e ≡ true → is_before block place d ≡ true
along block place d e h k = is_so block place d (chain d.block d.place e.block e.place block place (before_of e.block e.place d h) (before_of block place e k))

-- no edge stands before itself
not_itself : (e : Edge) → is_before e.block e.place e ≡ true → ⊥
not_itself e h = by (before_of e.block e.place e h)
  where
    by : Before e.block e.place e.block e.place → ⊥
    by (inl lt) = absurd (omega (arith, lt))
    by (inr (same, lt)) = absurd (omega (arith, lt))

-- ---- two edges of a list

in_order : (es : List Edge) (j k : ℕ) (d e : Edge) → are_ordered es ≡ true → j < k → slice_get es j ≡ Some d → slice_get es k ≡ Some e → is_before e.block e.place d ≡ true
in_order [] j k d e h lt x y = absurd cc
in_order (c ∷ es) j zero d e h lt x y = absurd (omega (arith, lt))
in_order (c ∷ es) zero (suc k) d e h lt x y =
    let same : c ≡ d = cc in
    subst (λ z. is_before e.block e.place z ≡ true) same (all-at (λ z. is_before z.block z.place c) es k e (and-first (list_all (λ z. is_before z.block z.place c) es) _ h) y)
in_order (c ∷ es) (suc j) (suc k) d e h lt x y = in_order es j k d e (and-second (list_all (λ z. is_before z.block z.place c) es) _ h) (omega (arith, lt)) x y

-- ---- searched by halves

below_half : (block place : ℕ) (es : List Edge) (middle k : ℕ) (d e : Edge) → are_ordered es ≡ true → slice_get es middle ≡ Some e → is_before block place e ≡ true → k < middle + 1 → slice_get es k ≡ Some d → is_before block place d ≡ true
below_half block place es middle k d e h there less lt x = by (cases_lt k middle)
  where
    by : (k < middle) ⊎ (middle ≤ k) → is_before block place d ≡ true
    by (inl below) = along block place d e (in_order es k middle d e h below x there) less
    by (inr more) =
        let same : k ≡ middle = omega (arith, lt, more) in
        let one : Some d ≡ Some e = sym x ∙ ap (slice_get es) same ∙ there in
        let z : d ≡ e = cc in ap (is_before block place) z ∙ less

above_half : (block place : ℕ) (es : List Edge) (middle k : ℕ) (d e : Edge) → are_ordered es ≡ true → slice_get es middle ≡ Some e → is_before block place e ≡ false → middle ≤ k → slice_get es k ≡ Some d → is_before block place d ≡ false
above_half block place es middle k d e h there not_less le x = at (is_before block place d) refl
  where
    by : is_before block place d ≡ true → (middle < k) ⊎ (k ≤ middle) → is_before block place d ≡ false
    by less (inl below) = let one = along block place e d (in_order es middle k e d h below there x) less in absurd cc
    by less (inr more) =
        let same : k ≡ middle = omega (arith, le, more) in
        let one : Some d ≡ Some e = sym x ∙ ap (slice_get es) same ∙ there in
        let z : d ≡ e = cc in ap (is_before block place) z ∙ not_less

    at : (b : Bool) → is_before block place d ≡ b → is_before block place d ≡ false
    at true less = by less (cases_lt middle k)
    at false less = less

get_there : (es : List Edge) (k : ℕ) (d : Edge) → k < length es → slice_get es k ≡ Some (get_or es k d)
get_there [] k d lt = absurd (omega (arith, lt))
get_there (e ∷ es) zero d lt = refl
get_there (e ∷ es) (suc k) d lt = get_there es k d (omega (arith, lt))

-- the same of an edge that is read with some other one in place of what isn't there
pub low_half : (block place : ℕ) (es : List Edge) (middle k : ℕ) (d e : Edge) (r : Bool) → are_ordered es ≡ true → middle < length es → r ≡ is_before block place (get_or es middle d) → r ≡ true → k < middle + 1 → slice_get es k ≡ Some e → is_before block place e ≡ true
low_half block place es middle k d e r h lt is less up x = below_half block place es middle k e (get_or es middle d) h (get_there es middle d lt) (sym is ∙ less) up x

pub high_half : (block place : ℕ) (es : List Edge) (middle k : ℕ) (d e : Edge) (r : Bool) → are_ordered es ≡ true → middle < length es → r ≡ is_before block place (get_or es middle d) → r ≡ false → middle ≤ k → slice_get es k ≡ Some e → is_before block place e ≡ false
high_half block place es middle k d e r h lt is less le x = above_half block place es middle k e (get_or es middle d) h (get_there es middle d lt) (sym is ∙ less) le x

-- ---- found

-- the edge from the place of the block
is_it : (block place : ℕ) (e : Edge) → e.block ≡ block → e.place ≡ place → (nat_eq e.block block && nat_eq e.place place) ≡ true
is_it block place e h k = and-both (nat_eq e.block block) (nat_eq e.place place) (eq-eqb e.block block h) (eq-eqb e.place place k)

differs : (block place : ℕ) (e : Edge) → ((e.block ≡ block) → (e.place ≡ place) → ⊥) → (nat_eq e.block block && nat_eq e.place place) ≡ false
differs block place e never = at (nat_eq e.block block && nat_eq e.place place) refl
  where
    at : (b : Bool) → (nat_eq e.block block && nat_eq e.place place) ≡ b → (nat_eq e.block block && nat_eq e.place place) ≡ false
    at true h = absurd (never (eqb-true e.block block (and-first (nat_eq e.block block) _ h)) (eqb-true e.place place (and-second (nat_eq e.block block) _ h)))
    at false h = h

-- an edge that stands before another is another
before_differs : (block place : ℕ) (e : Edge) → is_before block place e ≡ true → e.block ≡ block → e.place ≡ place → ⊥
before_differs block place e h x y = by (before_of block place e h)
  where
    by : Before e.block e.place block place → ⊥
    by (inl lt) = absurd (omega (arith, lt, x))
    by (inr (same, lt)) = absurd (omega (arith, lt, y))

edge_found : (block place : ℕ) (es : List Edge) (n : ℕ) (d : Edge) → ((k : ℕ) (e : Edge) → k < n → slice_get es k ≡ Some e → is_before block place e ≡ true) → slice_get es n ≡ Some d → d.block ≡ block → d.place ≡ place → place_of_edge block place es ≡ n
edge_found block place [] n d less there x y = absurd cc
edge_found block place (c ∷ es) zero d less there x y =
    let same : c ≡ d = cc in
    ap (λ b. if b then 0 else place_of_edge block place es + 1) (is_it block place c (ap (λ (e : Edge). e.block) same ∙ x) (ap (λ (e : Edge). e.place) same ∙ y))
edge_found block place (c ∷ es) (suc n) d less there x y =
    let rest = edge_found block place es n d (λ k e lt g. less (suc k) e (omega (arith, lt)) g) there x y in
    let first : is_before block place c ≡ true = less 0 c (omega arith) refl in
    ap (λ b. if b then 0 else place_of_edge block place es + 1) (differs block place c (before_differs block place c first))
    ∙ (let z : place_of_edge block place es + 1 ≡ suc n = omega (arith, rest) in z)

edge_missed : (block place : ℕ) (es : List Edge) → ((k : ℕ) (e : Edge) → slice_get es k ≡ Some e → e.block ≡ block → e.place ≡ place → ⊥) → place_of_edge block place es ≡ length es
edge_missed block place [] never = refl
edge_missed block place (c ∷ es) never =
    let rest = edge_missed block place es (λ k e g. never (suc k) e g) in
    ap (λ b. if b then 0 else place_of_edge block place es + 1) (differs block place c (never 0 c refl))
    ∙ (let z : place_of_edge block place es + 1 ≡ suc (length es) = omega (arith, rest) in z)

-- where the edge is not at the place from which on none stands before it, it is nowhere
edge_none : (block place : ℕ) (es : List Edge) (n : ℕ) → are_ordered es ≡ true → IsFirstFrom block place es n → ((d : Edge) → slice_get es n ≡ Some d → d.block ≡ block → d.place ≡ place → ⊥) → place_of_edge block place es ≡ length es
edge_none block place es n h first never = edge_missed block place es not_there
  where
    there : (k : ℕ) (e : Edge) → slice_get es k ≡ Some e → n < k → (d : Edge) × (slice_get es n ≡ Some d)
    there k e g lt = find es n k e g lt
      where
        find : (xs : List Edge) (j k : ℕ) (e : Edge) → slice_get xs k ≡ Some e → j < k → (d : Edge) × (slice_get xs j ≡ Some d)
        find [] j k e g lt = absurd cc
        find (c ∷ xs) zero k e g lt = (c, refl)
        find (c ∷ xs) (suc j) zero e g lt = absurd (omega (arith, lt))
        find (c ∷ xs) (suc j) (suc k) e g lt = find xs j k e g (omega (arith, lt))

    above : (k : ℕ) (e : Edge) → slice_get es k ≡ Some e → e.block ≡ block → e.place ≡ place → (n < k) ⊎ (k ≤ n) → ⊥
    above k e g x y (inl lt) =
        let o = there k e g lt in
        let order = in_order es n k o.0 e h lt o.1 g in
        let less : is_before block place o.0 ≡ true = subst (λ p. is_before block p o.0 ≡ true) y (subst (λ b. is_before b e.place o.0 ≡ true) x order) in
        let more = first.more n o.0 (omega arith) o.1 in
        absurd cc
    above k e g x y (inr le) = at (cases_lt k n)
      where
        at : (k < n) ⊎ (n ≤ k) → ⊥
        at (inl lt) = before_differs block place e (first.less k e lt g) x y
        at (inr more) = let same : k ≡ n = omega (arith, le, more) in never e (ap (slice_get es) (sym same) ∙ g) x y

    not_there : (k : ℕ) (e : Edge) → slice_get es k ≡ Some e → e.block ≡ block → e.place ≡ place → ⊥
    not_there k e g x y = above k e g x y (cases_lt n k)

-- what is read where the edge should be
pub found_at : (block place : ℕ) (es : List Edge) (n : ℕ) (d : Edge) (r : Bool) → IsFirstFrom block place es n → n < length es → r ≡ (nat_eq (get_or es n d).block block && nat_eq (get_or es n d).place place) → r ≡ true → n ≡ place_of_edge block place es
found_at block place es n d r first lt is so =
    let e = get_or es n d in
    let h = sym is ∙ so in
    sym (edge_found block place es n e first.less (get_there es n d lt) (eqb-true e.block block (and-first (nat_eq e.block block) _ h)) (eqb-true e.place place (and-second (nat_eq e.block block) _ h)))

pub missed_at : (block place : ℕ) (es : List Edge) (n : ℕ) (d : Edge) (r : Bool) → are_ordered es ≡ true → IsFirstFrom block place es n → n < length es → r ≡ (nat_eq (get_or es n d).block block && nat_eq (get_or es n d).place place) → r ≡ false
    → length es ≡ place_of_edge block place es
missed_at block place es n d r h first lt is other = sym (edge_none block place es n h first never)
  where
    never : (e : Edge) → slice_get es n ≡ Some e → e.block ≡ block → e.place ≡ place → ⊥
    never e there x y =
        let one : Some e ≡ Some (get_or es n d) = sym there ∙ get_there es n d lt in
        let same : e ≡ get_or es n d = cc in
        let here = is_it block place (get_or es n d) (ap (λ (z : Edge). z.block) (sym same) ∙ x) (ap (λ (z : Edge). z.place) (sym same) ∙ y) in
        let z : false ≡ true = sym other ∙ is ∙ here in
        absurd cc

pub missed_past : (block place : ℕ) (es : List Edge) (n : ℕ) → are_ordered es ≡ true → IsFirstFrom block place es n → length es ≤ n → length es ≡ place_of_edge block place es
missed_past block place es n h first past = sym (edge_none block place es n h first (λ e there x y. never es n e past there))
  where
    never : (xs : List Edge) (n : ℕ) (e : Edge) → length xs ≤ n → slice_get xs n ≡ Some e → ⊥
    never [] n e le g = absurd cc
    never (c ∷ xs) zero e le g = absurd (omega (arith, le))
    never (c ∷ xs) (suc n) e le g = never xs n e (omega (arith, le)) g

-- ---- the exits of a loop stand in order

-- each edge of the list stands before each of the other
abbrev AllBefore : List Edge → List Edge → Type 0
AllBefore xs ys = list_all (λ x. list_all (λ y. is_before y.block y.place x) ys) xs ≡ true

ordered_append : (xs ys : List Edge) → are_ordered xs ≡ true → are_ordered ys ≡ true → AllBefore xs ys → are_ordered (xs ++ ys) ≡ true
ordered_append [] ys h k all = k
ordered_append (x ∷ xs) ys h k all =
    and-both (list_all (λ y. is_before y.block y.place x) (xs ++ ys)) (are_ordered (xs ++ ys))
    (list_all-append (λ y. is_before y.block y.place x) xs ys ∙ and-both (list_all (λ y. is_before y.block y.place x) xs) (list_all (λ y. is_before y.block y.place x) ys)
    (and-first (list_all (λ y. is_before y.block y.place x) xs) (are_ordered xs) h) (and-first (list_all (λ y. is_before y.block y.place x) ys) _ all))
    (ordered_append xs ys (and-second (list_all (λ y. is_before y.block y.place x) xs) (are_ordered xs) h) k (and-second (list_all (λ y. is_before y.block y.place x) ys) _ all))

all_filter : {A : Type 0} (q t : A → Bool) (xs : List A) → list_all q xs ≡ true → list_all q (filter t xs) ≡ true
all_filter q t [] h = refl
all_filter q t (x ∷ xs) h = pick (t x) (and-first (q x) (list_all q xs) h) (all_filter q t xs (and-second (q x) (list_all q xs) h))
  where
    pick : (b : Bool) → q x ≡ true → list_all q (filter t xs) ≡ true → list_all q (if b then x ∷ filter t xs else filter t xs) ≡ true
    pick true a r = and-both (q x) (list_all q (filter t xs)) a r
    pick false a r = r

ordered_filter : (t : Edge → Bool) (es : List Edge) → are_ordered es ≡ true → are_ordered (filter t es) ≡ true
ordered_filter t [] h = refl
ordered_filter t (e ∷ es) h =
    pick (t e) (all_filter (λ x. is_before x.block x.place e) t es (and-first (list_all (λ x. is_before x.block x.place e) es) (are_ordered es) h)) (ordered_filter t es (and-second (list_all (λ x. is_before x.block x.place e) es) (are_ordered es) h))
  where
    pick : (b : Bool) → list_all (λ x. is_before x.block x.place e) (filter t es) ≡ true → are_ordered (filter t es) ≡ true → are_ordered (if b then e ∷ filter t es else filter t es) ≡ true
    pick true a r = and-both (list_all (λ x. is_before x.block x.place e) (filter t es)) (are_ordered (filter t es)) a r
    pick false a r = r

-- the edges of one block

all_weaken : {A : Type 0} (p q : A → Bool) (xs : List A) → ((x : A) → p x ≡ true → q x ≡ true) → list_all p xs ≡ true → list_all q xs ≡ true
all_weaken p q [] h all = refl
all_weaken p q (x ∷ xs) h all = and-both (q x) (list_all q xs) (h x (and-first (p x) (list_all p xs) all)) (all_weaken p q xs h (and-second (p x) (list_all p xs) all))

edges_to_all : (q : Edge → Bool) (block place : ℕ) (ts : List ℕ) → ((e : Edge) → e.block ≡ block → place ≤ e.place → q e ≡ true) → list_all q (edges_to block place ts) ≡ true
edges_to_all q block place [] h = refl
edges_to_all q block place (t ∷ ts) h =
    and-both (q (record { block = block; place = place; dest = At t })) (list_all q (edges_to block (place + 1) ts)) (h (record { block = block; place = place; dest = At t }) refl (omega arith))
    (edges_to_all q block (place + 1) ts (λ e x le. h e x (omega (arith, le))))

edges_to_ordered : (block place : ℕ) (ts : List ℕ) → are_ordered (edges_to block place ts) ≡ true
edges_to_ordered block place [] = refl
edges_to_ordered block place (t ∷ ts) =
    let e : Edge = record { block = block; place = place; dest = At t } in
    and-both (list_all (λ x. is_before x.block x.place e) (edges_to block (place + 1) ts)) (are_ordered (edges_to block (place + 1) ts))
    (edges_to_all (λ x. is_before x.block x.place e) block (place + 1) ts (λ x same le. is_so x.block x.place e (inr (sym same, omega (arith, le)))))
    (edges_to_ordered block (place + 1) ts)

edges_of_all : (q : Edge → Bool) (block : ℕ) (next : Next) → ((e : Edge) → e.block ≡ block → q e ≡ true) → list_all q (edges_of block next) ≡ true
edges_of_all q block Return h = and-both (q (record { block = block; place = 0; dest = Back })) true (h (record { block = block; place = 0; dest = Back }) refl) refl
edges_of_all q block (Goto ts) h = edges_to_all q block 0 ts (λ e x le. h e x)

edges_at_all : (q : Edge → Bool) (block : ℕ) (o : Option SrcBlock) → ((e : Edge) → e.block ≡ block → q e ≡ true) → list_all q (edges_at block o) ≡ true
edges_at_all q block None h = refl
edges_at_all q block (Some b) h = edges_of_all q block b.next h

edges_of_ordered : (block : ℕ) (next : Next) → are_ordered (edges_of block next) ≡ true
edges_of_ordered block Return = refl
edges_of_ordered block (Goto ts) = edges_to_ordered block 0 ts

edges_at_ordered : (block : ℕ) (o : Option SrcBlock) → are_ordered (edges_at block o) ≡ true
edges_at_ordered block None = refl
edges_at_ordered block (Some b) = edges_of_ordered block b.next

-- the edges of blocks whose numbers ascend, and no number twice

abbrev climbs : ℕ → List ℕ → Bool
climbs low [] = true
climbs low (n ∷ ns) = nat_le low n && climbs (n + 1) ns

abbrev edges_all : List SrcBlock → List ℕ → List Edge
edges_all blocks ns = flat_map (λ b. edges_at b (slice_get blocks b)) ns

pieces_from : (blocks : List SrcBlock) (low : ℕ) (ns : List ℕ) → climbs low ns ≡ true → list_all (λ e. nat_le low e.block) (edges_all blocks ns) ≡ true
pieces_from blocks low [] h = refl
pieces_from blocks low (n ∷ ns) h =
    let le : low ≤ n = leb-true low n (and-first (nat_le low n) (climbs (n + 1) ns) h) in
    let rest = pieces_from blocks (n + 1) ns (and-second (nat_le low n) (climbs (n + 1) ns) h) in
    list_all-append (λ e. nat_le low e.block) (edges_at n (slice_get blocks n)) (edges_all blocks ns)
    ∙ and-both (list_all (λ e. nat_le low e.block) (edges_at n (slice_get blocks n))) (list_all (λ e. nat_le low e.block) (edges_all blocks ns))
    (edges_at_all (λ e. nat_le low e.block) n (slice_get blocks n) (λ e same. le-leb low e.block (omega (arith, same, le))))
    (all_weaken (λ e. nat_le (n + 1) e.block) (λ e. nat_le low e.block) (edges_all blocks ns) (λ e more. le-leb low e.block (omega (arith, le, leb-true (n + 1) e.block more))) rest)

pieces_ordered : (blocks : List SrcBlock) (low : ℕ) (ns : List ℕ) → climbs low ns ≡ true → are_ordered (edges_all blocks ns) ≡ true
pieces_ordered blocks low [] h = refl
pieces_ordered blocks low (n ∷ ns) h =
    let above = and-second (nat_le low n) (climbs (n + 1) ns) h in
    ordered_append (edges_at n (slice_get blocks n)) (edges_all blocks ns) (edges_at_ordered n (slice_get blocks n)) (pieces_ordered blocks (n + 1) ns above)
    (edges_at_all (λ x. list_all (λ y. is_before y.block y.place x) (edges_all blocks ns)) n (slice_get blocks n)
    (λ x same. all_weaken (λ y. nat_le (n + 1) y.block) (λ y. is_before y.block y.place x) (edges_all blocks ns)
    (λ y more. is_so y.block y.place x (inl (omega (arith, same, leb-true (n + 1) y.block more)))) (pieces_from blocks (n + 1) ns above)))

reached_climb : (test : ℕ → Bool) (low n : ℕ) (blocks : List SrcBlock) (ts : List ℕ) → low ≤ n → climbs low (filter test (reached_from n blocks ts)) ≡ true
reached_climb test low n [] ts le = refl
reached_climb test low n (b ∷ bs) ts le =
    pick (is_in n ts)
    (one (test n) (reached_climb test (n + 1) (n + 1) bs (ts ++ targets_of b.next) (omega arith)) (reached_climb test low (n + 1) bs (ts ++ targets_of b.next) (omega (arith, le))))
    (reached_climb test low (n + 1) bs ts (omega (arith, le)))
  where
    one : (t : Bool) → climbs (n + 1) (filter test (reached_from (n + 1) bs (ts ++ targets_of b.next))) ≡ true → climbs low (filter test (reached_from (n + 1) bs (ts ++ targets_of b.next))) ≡ true
        → climbs low (if t then n ∷ filter test (reached_from (n + 1) bs (ts ++ targets_of b.next)) else filter test (reached_from (n + 1) bs (ts ++ targets_of b.next))) ≡ true
    one true above here = and-both (nat_le low n) (climbs (n + 1) (filter test (reached_from (n + 1) bs (ts ++ targets_of b.next)))) (le-leb low n le) above
    one false above here = here

    pick : (r : Bool) → climbs low (filter test (n ∷ reached_from (n + 1) bs (ts ++ targets_of b.next))) ≡ true → climbs low (filter test (reached_from (n + 1) bs ts)) ≡ true
        → climbs low (filter test (if r then n ∷ reached_from (n + 1) bs (ts ++ targets_of b.next) else reached_from (n + 1) bs ts)) ≡ true
    pick true here there = here
    pick false here there = there

pub exits_ordered : (proc : SrcProc) (l : SrcLoop) → are_ordered (exits_of proc l) ≡ true
exits_ordered proc l =
    ordered_filter (λ e. leaves l e.dest) (edges_all proc.blocks (filter (holds_block l) (reached_blocks proc)))
    (pieces_ordered proc.blocks 0 (filter (holds_block l) (reached_blocks proc)) (reached_climb (holds_block l) 0 0 proc.blocks (0 ∷ []) (omega arith)))
