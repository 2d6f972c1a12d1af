-- Nodes in their order: one place more, one edge further, and what holds at the end.
use Rattle.std.proofs.Common.{◌≡◌, ℕ, zero, suc, ◌+◌, ◌<◌, ◌≤◌, Bool, true, false, List, [], ◌∷◌, ◌++◌, length, take, get_or, set, Some, Result, Ok, Err, refl, sym, ◌∙◌, ap, subst, arith, append_assoc, replicate, length-set, length-append, get_or-set_same, get_or-set_other, true≢false}
use Rattle.std.proofs.lemmas.Bool.Decides.{nat_tests, Decides-eqb}
use Rattle.std.proofs.lemmas.List.{length-replicate, get_or_past, take_all}
use Rattle.std.specs.Result.{OnOk}
use Rattle.std.proofs.lemmas.List.Folds.{list_any-append, list_all_at}
use Rattle.std.proofs.lemmas.List.Sums.{sum_by-set, count_by-le-length}
use Rattle.std.proofs.lemmas.Option.{slice_get_within}
use Rattle.std.specs.List.{list_all}
use Rattle.std.specs.Prelude.{nat_eq, nat_lt, ◌&&◌, ◌||◌, count_by, slice_get, unwrap_or, if◌then◌else◌}
use Rattle.type_pass.specs.Graphs.{Graph, edges}
use Rattle.type_pass.specs.Orders.{is_in, Follows, IsOrder, IsSorting, Grows, AreStuck, IsStuck}

or-false : (b : Bool) → (b || false) ≡ b
or-false true = refl
or-false false = refl

or-true : (b : Bool) → (b || true) ≡ true
or-true true = refl
or-true false = refl

pub is_in-append : (ns ms : List ℕ) (c : ℕ) → is_in (ns ++ ms) c ≡ (is_in ns c || is_in ms c)
is_in-append ns ms c = list_any-append (nat_eq c) ns ms

pub is_in-push : (ns : List ℕ) (n c : ℕ) → is_in (ns ++ n ∷ []) c ≡ (is_in ns c || nat_eq c n)
is_in-push ns n c = is_in-append ns (n ∷ []) c ∙ ap (λ b. is_in ns c || b) (or-false (nat_eq c n))

still : (a b : Bool) → a ≡ true → (a || b) ≡ true
still true b h = refl
still false b h = absurd (cc)

pub is_in-more : (ns ms : List ℕ) (c : ℕ) → is_in ns c ≡ true → is_in (ns ++ ms) c ≡ true
is_in-more ns ms c h = is_in-append ns ms c ∙ still (is_in ns c) (is_in ms c) h

pub all-cong : {A : Type 0} (p q : A → Bool) → ((c : A) → p c ≡ q c) → (xs : List A) → list_all p xs ≡ list_all q xs
all-cong p q h [] = refl
all-cong p q h (x ∷ xs) = ap (λ b. b && list_all p xs) (h x) ∙ ap (λ b. q x && b) (all-cong p q h xs)

both : (a b : Bool) → (a && b) ≡ true → (a ≡ true) × (b ≡ true)
both true true h = (refl, refl)
both true false h = absurd (cc)
both false b h = absurd (cc)

pub all-more : {A : Type 0} (p q : A → Bool) → ((c : A) → p c ≡ true → q c ≡ true) → (xs : List A) → list_all p xs ≡ true → list_all q xs ≡ true
all-more p q h [] e = refl
all-more p q h (x ∷ xs) e =
    let b = both (p x) (list_all p xs) e in
    ap (λ v. v && list_all q xs) (h x b.0) ∙ all-more p q h xs b.1

pub all-in-more : (ns ms es : List ℕ) → list_all (is_in ns) es ≡ true → list_all (is_in (ns ++ ms)) es ≡ true
all-in-more ns ms es h = all-more (is_in ns) (is_in (ns ++ ms)) (is_in-more ns ms) es h

pub follows-push : (g : Graph) (before ns : List ℕ) (n : ℕ) → Follows g before ns → list_all (is_in (before ++ ns)) (edges g n) ≡ true → Follows g before (ns ++ n ∷ [])
follows-push g before [] n h e = (subst (λ ms. list_all (is_in ms) (edges g n) ≡ true) (nil-append before) e, tt)
  where
    nil-append : (xs : List ℕ) → xs ++ [] ≡ xs
    nil-append [] = refl
    nil-append (x ∷ xs) = ap (λ ys. x ∷ ys) (nil-append xs)
follows-push g before (m ∷ ns) n h e =
    (h.0, follows-push g (before ++ m ∷ []) ns n h.1 (subst (λ ms. list_all (is_in ms) (edges g n) ≡ true) (sym (append_assoc before (m ∷ []) ns)) e))

same-number : (c n : ℕ) → nat_eq c n ≡ true → c ≡ n
same-number c n h = (Decides-eqb c n).0 h

pub flag-set : (done : List Bool) (node c : ℕ) (same : Bool) → nat_eq c node ≡ same → node < length done → get_or (set done node true) c false ≡ (get_or done c false || same)
flag-set done node c true e within =
    ap (λ k. get_or (set done node true) k false) (same-number c node e) ∙ get_or-set_same done node true false within ∙ sym (or-true (get_or done c false))
flag-set done node c false e within =
    get_or-set_other done node c true false (λ same. true≢false (sym ((Decides-eqb c node).1 same) ∙ e)) ∙ sym (or-false (get_or done c false))

pub one-more : (done : List Bool) (node : ℕ) → node < length done → get_or done node false ≡ false → count_by (λ b. b) (set done node true) ≡ count_by (λ b. b) done + 1
one-more done node within h =
    let e = sum_by-set (λ (b : Bool). let n : ℕ = if b then 1 else 0 in n) done node true false within in
    let z : ◌≡◌ {A = ℕ} (if get_or done node false then 1 else 0) 0 = ap (λ (b : Bool). let n : ℕ = if b then 1 else 0 in n) h in
    omega (arith, e, z)

-- a node gets its place
pub sorting-placed : (g : Graph) (ns : List ℕ) (done : List Bool) (next : List ℕ) (node : ℕ) → IsSorting g ns done next → node < length g → is_in ns node ≡ false
    → list_all (is_in ns) (edges g node) ≡ true → IsSorting g (ns ++ node ∷ []) (set done node true) next
sorting-placed g ns done next node s within without all =
    let inside : node < length done = omega (arith, s.size) in
    record {
      flags = λ c. flag-set done node c (nat_eq c node) refl inside ∙ ap (λ b. b || nat_eq c node) (s.flags c) ∙ sym (is_in-push ns node c);
      counted = one-more done node inside (s.flags node ∙ without) ∙ ap (λ k. k + 1) s.counted ∙ sym (length-append ns (node ∷ []));
      size = length-set done node true ∙ s.size;
      sizes = s.sizes;
      follows = follows-push g [] ns node s.follows all;
      passed = λ i. all-in-more ns (node ∷ []) (take (get_or next i 0) (edges g i)) (s.passed i);
      within = s.within;
    }

at-next : (P : ℕ → ℕ → Type 0) (next : List ℕ) (node stop i : ℕ) (same : Bool) → nat_eq i node ≡ same → node < length next → P node stop → P i (get_or next i 0) → P i (get_or (set next node stop) i 0)
at-next P next node stop i true e within here there =
    let n : i ≡ node = same-number i node e in
    subst (λ (k : ℕ). P k (get_or (set next node stop) k 0)) (sym n) (subst (P node) (sym (get_or-set_same next node stop 0 within)) here)
at-next P next node stop i false e within here there =
    subst (P i) (sym (get_or-set_other next node i stop 0 (λ same. true≢false (sym ((Decides-eqb i node).1 same) ∙ e)))) there

-- a node waits at an edge
pub sorting-halted : (g : Graph) (ns : List ℕ) (done : List Bool) (next : List ℕ) (node stop : ℕ) → IsSorting g ns done next → node < length g
    → stop ≤ length (edges g node) → list_all (is_in ns) (take stop (edges g node)) ≡ true → IsSorting g ns done (set next node stop)
sorting-halted g ns done next node stop s within le all =
    let inside : node < length next = omega (arith, s.sizes) in
    record {
      flags = s.flags;
      counted = s.counted;
      size = s.size;
      sizes = length-set next node stop ∙ s.sizes;
      follows = s.follows;
      passed = λ i. at-next (λ k e. list_all (is_in ns) (take e (edges g k)) ≡ true) next node stop i (nat_eq i node) refl inside all (s.passed i);
      within = λ i. at-next (λ k e. e ≤ length (edges g k)) next node stop i (nat_eq i node) refl inside le (s.within i);
    }

-- there are no more places than nodes
pub few-sorted : (g : Graph) (ns : List ℕ) (done : List Bool) (next : List ℕ) → IsSorting g ns done next → length ns ≤ length g
few-sorted g ns done next s = omega (arith, s.counted, s.size, count_by-le-length (λ (b : Bool). b) done)

-- the edges of a node that is there
pub edges-at : (g : Graph) (node : ℕ) (es : List ℕ) → slice_get g node ≡ Some es → edges g node ≡ es
edges-at g node es h = ap (λ o. unwrap_or o []) h

nil-append : (xs : List ℕ) → xs ++ [] ≡ xs
nil-append [] = refl
nil-append (x ∷ xs) = ap (λ ys. x ∷ ys) (nil-append xs)

pub grows-not : (g : Graph) (ns : List ℕ) (done : List Bool) (next : List ℕ) → IsSorting g ns done next → Grows g ns ns done next
grows-not g ns done next s = record { sound = s; more = []; grown = sym (nil-append ns) }

pub grows-further : (g : Graph) (old mid new : List ℕ) (done : List Bool) (next : List ℕ) (more : List ℕ) → mid ≡ old ++ more → Grows g mid new done next → Grows g old new done next
grows-further g old mid new done next more e s = record { sound = s.sound; more = more ++ s.more; grown = s.grown ∙ ap (λ ms. ms ++ s.more) e ∙ append_assoc old more s.more }

empty-more : (ms : List ℕ) → length ms ≡ 0 → ms ≡ []
empty-more [] h = refl
empty-more (m ∷ ms) h = absurd (omega (arith, h))

same-length : (old new more : List ℕ) → new ≡ old ++ more → length new ≡ length old → new ≡ old
same-length old new more e h =
    e ∙ ap (λ ms. old ++ ms) (empty-more more (omega (arith, h, ap length e, length-append old more))) ∙ nil-append old

-- one node more is stuck
pub stuck-further : (g : Graph) (old mid new : List ℕ) (i : ℕ) (m1 m2 : List ℕ) → mid ≡ old ++ m1 → new ≡ mid ++ m2 → AreStuck g i old mid → IsStuck g i mid new → AreStuck g (i + 1) old new
stuck-further g old mid new i m1 m2 e1 e2 before here same j below inside without =
    let l1 : length mid ≡ length old = omega (arith, same, ap length e1, ap length e2, length-append old m1, length-append mid m2) in
    let l2 : length new ≡ length mid = omega (arith, same, ap length e1, ap length e2, length-append old m1, length-append mid m2) in
    let n : new ≡ mid = same-length mid new m2 e2 l2 in
    by (nat_eq j i) refl l1 l2 n
  where
    by : (b : Bool) → nat_eq j i ≡ b → length mid ≡ length old → length new ≡ length mid → new ≡ mid → list_all (is_in new) (edges g j) ≡ false
    by true e l1 l2 n =
        let k : j ≡ i = same-number j i e in
        subst (λ (v : ℕ). list_all (is_in new) (edges g v) ≡ false) (sym k) (here l2 (subst (λ (v : ℕ). v < length g) k inside) (subst (λ (v : ℕ). is_in new v ≡ false) k without))
    by false e l1 l2 n =
        let lt : j < i = grind (arith, nat_tests) in
        subst (λ (ns : List ℕ). list_all (is_in ns) (edges g j) ≡ false) (sym n) (before l1 j lt inside (subst (λ (ns : List ℕ). is_in ns j ≡ false) n without))

-- the edge at which a node waits
pub open-edge : (ns : List ℕ) (done : List Bool) (es : List ℕ) (stop : ℕ) → ((c : ℕ) → get_or done c false ≡ is_in ns c) → stop < length es → get_or done (get_or es stop 0) false ≡ false → list_all (is_in ns) es ≡ false
open-edge ns done es stop flags within h = list_all_at (is_in ns) es stop 0 within (sym (flags (get_or es stop 0)) ∙ h)

-- what was passed, by the flags and by the order
pub by-flags : (ns : List ℕ) (done : List Bool) → ((c : ℕ) → get_or done c false ≡ is_in ns c) → (es : List ℕ) → list_all (λ c. get_or done c false) es ≡ list_all (is_in ns) es
by-flags ns done flags es = all-cong (λ c. get_or done c false) (is_in ns) flags es

-- the edges passed
edges-passed : (g : Graph) (ns : List ℕ) (done done1 : List Bool) (next next1 : List ℕ) (node edge from : ℕ) (es es0 : List ℕ) → IsSorting g ns done next
    → slice_get g node ≡ Some es0 → es ≡ es0 → done1 ≡ done → next1 ≡ next → from ≡ get_or next1 node 0
    → (list_all (λ c. get_or done1 c false) (take from es) ≡ true → list_all (λ c. get_or done1 c false) (take edge es) ≡ true)
    → list_all (is_in ns) (take edge (edges g node)) ≡ true
edges-passed g ns done done1 next next1 node edge from es es0 s there same d n start more =
    let e : edges g node ≡ es = edges-at g node es0 there ∙ sym same in
    let f : from ≡ get_or next node 0 = start ∙ ap (λ v. get_or v node 0) n in
    let before : list_all (λ c. get_or done1 c false) (take from es) ≡ true =
    ap (λ v. list_all (λ c. get_or v c false) (take from es)) d ∙ by-flags ns done s.flags (take from es) ∙ ap (λ k. list_all (is_in ns) (take k es)) f
    ∙ ap (λ v. list_all (is_in ns) (take (get_or next node 0) v)) (sym e) ∙ s.passed node in
    ap (λ v. list_all (is_in ns) (take edge v)) e ∙ sym (by-flags ns done s.flags (take edge es)) ∙ ap (λ v. list_all (λ c. get_or v c false) (take edge es)) (sym d) ∙ more before

-- where a call succeeds, the nodes grow
pub halt-step : {T E : Type 0} (r : Result T E) (g : Graph) (ns ns' : List ℕ) (done done1 done' : List Bool) (next next1 next' : List ℕ) (node edge from : ℕ) (es es0 : List ℕ)
    → IsSorting g ns done next → slice_get g node ≡ Some es0 → es ≡ es0 → done1 ≡ done → next1 ≡ next → from ≡ get_or next1 node 0 → edge ≤ length es
    → (list_all (λ c. get_or done1 c false) (take from es) ≡ true → list_all (λ c. get_or done1 c false) (take edge es) ≡ true)
    → OnOk r (ns' ≡ ns) → OnOk r (done' ≡ done) → OnOk r (next' ≡ set next node edge) → OnOk r (Grows g ns ns' done' next')
halt-step (Err e) g ns ns' done done1 done' next next1 next' node edge from es es0 s there same d n start le more a b c = tt
halt-step (Ok t) g ns ns' done done1 done' next next1 next' node edge from es es0 s there same d n start le more a b c =
    let e : edges g node ≡ es = edges-at g node es0 there ∙ sym same in
    let sound : IsSorting g ns done (set next node edge) =
    sorting-halted g ns done next node edge s (slice_get_within g node es0 there) (omega (arith, ap length e)) (edges-passed g ns done done1 next next1 node edge from es es0 s there same d n start more) in
    subst (λ v. Grows g ns v done' next') (sym a) (subst (λ v. Grows g ns ns v next') (sym b) (subst (λ v. Grows g ns ns done v) (sym c) (grows-not g ns done (set next node edge) sound)))

pub place-step : {T E : Type 0} (r : Result T E) (g : Graph) (ns ns' : List ℕ) (done done1 done2 done' : List Bool) (next next1 next' : List ℕ) (node edge from : ℕ) (es es0 : List ℕ)
    → IsSorting g ns done next → slice_get g node ≡ Some es0 → es ≡ es0 → done1 ≡ done → done2 ≡ done → next1 ≡ next → from ≡ get_or next1 node 0 → length es ≤ edge → get_or done2 node false ≡ false
    → (list_all (λ c. get_or done1 c false) (take from es) ≡ true → list_all (λ c. get_or done1 c false) (take edge es) ≡ true)
    → OnOk r (ns' ≡ ns ++ node ∷ []) → OnOk r (done' ≡ set done node true) → OnOk r (next' ≡ next) → OnOk r (Grows g ns ns' done' next')
place-step (Err e) g ns ns' done done1 done2 done' next next1 next' node edge from es es0 s there same d d2 n start le without more a b c = tt
place-step (Ok t) g ns ns' done done1 done2 done' next next1 next' node edge from es es0 s there same d d2 n start le without more a b c =
    let e : edges g node ≡ es = edges-at g node es0 there ∙ sym same in
    let all : list_all (is_in ns) (edges g node) ≡ true =
    ap (list_all (is_in ns)) (sym (take_all edge (edges g node) (omega (arith, ap length e)))) ∙ edges-passed g ns done done1 next next1 node edge from es es0 s there same d n start more in
    let out : is_in ns node ≡ false = sym (s.flags node) ∙ ap (λ v. get_or v node false) (sym d2) ∙ without in
    let sound : IsSorting g (ns ++ node ∷ []) (set done node true) next = sorting-placed g ns done next node s (slice_get_within g node es0 there) out all in
    subst (λ v. Grows g ns v done' next') (sym a) (subst (λ v. Grows g ns (ns ++ node ∷ []) v next') (sym b) (subst (λ v. Grows g ns (ns ++ node ∷ []) (set done node true) v) (sym c)
    (record { sound = sound; more = node ∷ []; grown = refl })))

-- at the start
pub none-true : (n : ℕ) → count_by (λ b. b) (replicate n false) ≡ 0
none-true zero = refl
none-true (suc n) = omega (arith, count-cons n, none-true n)
  where
    count-cons : (n : ℕ) → count_by (λ b. b) (false ∷ replicate n false) ≡ count_by (λ b. b) (replicate n false)
    count-cons n = refl

pub no-flag : (n c : ℕ) (inside : Bool) → get_or (replicate n false) c false ≡ false
no-flag zero c inside = refl
no-flag (suc n) zero inside = refl
no-flag (suc n) (suc c) inside = no-flag n c inside

no-edge : (n c : ℕ) → ◌≡◌ {A = ℕ} (get_or (replicate n 0) c 0) 0
no-edge zero c = refl
no-edge (suc n) zero = refl
no-edge (suc n) (suc c) = no-edge n c

pub sorting-none : (g : Graph) (n : ℕ) → n ≡ length g → IsSorting g [] (replicate n false) (replicate n 0)
sorting-none g n e = record {
  flags = λ c. no-flag n c true;
  counted = none-true n;
  size = length-replicate n false ∙ e;
  sizes = length-replicate n 0 ∙ e;
  follows = tt;
  passed = λ i. ap (λ k. list_all (is_in []) (take k (edges g i))) (no-edge n i);
  within = λ i. let z = no-edge n i in omega (arith, z);
}

-- a node with a place is a node
pub place-within : (g : Graph) (ns : List ℕ) (done : List Bool) (next : List ℕ) → IsSorting g ns done next → (c : ℕ) → is_in ns c ≡ true → c < length g
place-within g ns done next s c here = by (nat_lt c (length done)) refl
  where
    by : (b : Bool) → nat_lt c (length done) ≡ b → c < length g
    by true e = let size = s.size in grind (arith, nat_tests)
    by false e =
        let past : length done ≤ c = grind (arith, nat_tests) in
        absurd (true≢false (sym here ∙ sym (s.flags c) ∙ get_or_past done c false past))

-- at the end
pub is_order : (g : Graph) (old new : List ℕ) (done : List Bool) (next : List ℕ) → IsSorting g new done next → AreStuck g (length g) old new → length new ≡ length old → IsOrder g new
is_order g old new done next s stuck same = record { few = few-sorted g new done next s; nodes = place-within g new done next s; follows = s.follows; others = λ i within without. stuck same i within within without }
