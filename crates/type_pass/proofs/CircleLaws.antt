-- Nodes on circles: a search finds all to which a node leads, and a node with a place in the order leads to no circle.
use Rattle.std.proofs.Common.{◌≡◌, ℕ, zero, suc, ◌+◌, ◌-◌, ◌<◌, ◌≤◌, Bool, true, false, List, [], ◌∷◌, ◌++◌, length, map, take, drop, get_or, set, ◌⊎◌, inl, inr, Option, Some, None, Result, Ok, Err, refl, sym, ◌∙◌, ap, subst, arith, append_assoc, replicate, length-set, length-append, get_or-set_other, true≢false, Bor}
use Rattle.std.proofs.lemmas.Bool.Decides.{nat_tests, Decides-eqb}
use Rattle.std.proofs.lemmas.List.{length-replicate, take_more, drop_more, drop_all}
use Rattle.std.proofs.lemmas.List.Folds.{list_all-append}
use Rattle.std.proofs.lemmas.List.Sums.{count_by-le-length}
use Rattle.std.specs.List.{list_any, list_all, enumerate_from}
use Rattle.std.specs.Result.{OnOk}
use Rattle.std.specs.Prelude.{nat_eq, nat_lt, ◌&&◌, ◌||◌, slice_get, unwrap_or, flat_map}
use Rattle.bpl_ast.specs.declared.name.Name.{Name}
use Rattle.type_pass.specs.declared.fault.TypeFault.{TypeFault}
use Rattle.type_pass.specs.declared.fault.TypeKind.TheVariants.{Cyclic}
use Rattle.type_pass.specs.Circles.{IsClosed, IsFlagged, Adds, Reaching, Reaches, Searching}
use Rattle.type_pass.specs.Faults.{earlier, first, told}
use Rattle.type_pass.specs.Graphs.{Graph, edges, leads, is_on_circle}
use Rattle.type_pass.specs.Orders.{is_in, Follows, IsOrder}
use Rattle.type_pass.proofs.FaultLaws.{first-append, earlier-assoc, earlier-none}
use Rattle.type_pass.proofs.MemoLaws.{at-one, one-not}
use Rattle.type_pass.proofs.OrderLaws.{is_in-push, is_in-more, all-more, flag-set, one-more, edges-at, none-true, no-flag}

same-number : (c n : ℕ) → nat_eq c n ≡ true → c ≡ n
same-number c n h = (Decides-eqb c n).0 h

same-itself : (n : ℕ) → nat_eq n n ≡ true
same-itself n = (Decides-eqb n n).1 refl

later : (a b : Bool) → b ≡ true → (a || b) ≡ true
later true b h = refl
later false b h = h

either : (a b : Bool) (P : Type 0) → (a || b) ≡ true → (a ≡ true → P) → (b ≡ true → P) → P
either true b P h l r = l refl
either false b P h l r = r h

-- one of a list that passes
pub any-one : (p : ℕ → Bool) (xs : List ℕ) → list_any p xs ≡ true → (c : ℕ) × (is_in xs c ≡ true) × (p c ≡ true)
any-one p [] h = absurd (true≢false (sym h))
any-one p (x ∷ xs) h =
    either (p x) (list_any p xs) ((c : ℕ) × (is_in (x ∷ xs) c ≡ true) × (p c ≡ true)) h
    (λ e. (x, ap (λ b. b || is_in xs x) (same-itself x), e))
    (λ e. let o = any-one p xs e in (o.0, later (nat_eq o.0 x) (is_in xs o.0) o.1, o.2))

pub any-from : (p : ℕ → Bool) (xs : List ℕ) (c : ℕ) → is_in xs c ≡ true → p c ≡ true → list_any p xs ≡ true
any-from p [] c here h = absurd (true≢false (sym here))
any-from p (x ∷ xs) c here h =
    either (nat_eq c x) (is_in xs c) (list_any p (x ∷ xs) ≡ true) here
    (λ e. ap (λ b. b || list_any p xs) (ap p (sym (same-number c x e)) ∙ h))
    (λ e. later (p x) (list_any p xs) (any-from p xs c e h))

-- ---- paths

first-edge : (n : ℕ) (g : Graph) (a b c : ℕ) → is_in (edges g a) c ≡ true → (nat_eq c b || leads n g c b) ≡ true → leads (suc n) g a b ≡ true
first-edge n g a b c here h = any-from (λ c. nat_eq c b || leads n g c b) (edges g a) c here h

leads-more : (n : ℕ) (g : Graph) (a b : ℕ) → leads n g a b ≡ true → leads (suc n) g a b ≡ true
leads-more zero g a b h = absurd (true≢false (sym h))
leads-more (suc n) g a b h =
    let o = any-one (λ c. nat_eq c b || leads n g c b) (edges g a) h in
    first-edge (suc n) g a b o.0 o.1
    (either (nat_eq o.0 b) (leads n g o.0 b) ((nat_eq o.0 b || leads (suc n) g o.0 b) ≡ true) o.2
    (λ e. ap (λ v. v || leads (suc n) g o.0 b) e) (λ e. later (nat_eq o.0 b) (leads (suc n) g o.0 b) (leads-more n g o.0 b e)))

leads-up : (k n : ℕ) (g : Graph) (a b : ℕ) → leads n g a b ≡ true → leads (k + n) g a b ≡ true
leads-up zero n g a b h = let z : n ≡ 0 + n = omega arith in subst (λ (m : ℕ). leads m g a b ≡ true) z h
leads-up (suc k) n g a b h = let z : suc (k + n) ≡ suc k + n = omega arith in subst (λ (m : ℕ). leads m g a b ≡ true) z (leads-more (k + n) g a b (leads-up k n g a b h))

pub leads-above : (n m : ℕ) (g : Graph) (a b : ℕ) → n ≤ m → leads n g a b ≡ true → leads m g a b ≡ true
leads-above n m g a b le h = let z : (m - n) + n ≡ m = omega arith in subst (λ (k : ℕ). leads k g a b ≡ true) z (leads-up (m - n) n g a b h)

pub leads-edge : (g : Graph) (a c : ℕ) → is_in (edges g a) c ≡ true → leads 1 g a c ≡ true
leads-edge g a c here = first-edge 0 g a c c here (ap (λ b. b || leads 0 g c c) (same-itself c))

-- one edge more at the end
pub leads-further : (n : ℕ) (g : Graph) (a c d : ℕ) → leads n g a c ≡ true → is_in (edges g c) d ≡ true → leads (suc n) g a d ≡ true
leads-further zero g a c d h here = absurd (true≢false (sym h))
leads-further (suc n) g a c d h here =
    let o = any-one (λ e. nat_eq e c || leads n g e c) (edges g a) h in
    first-edge (suc n) g a d o.0 o.1
    (later (nat_eq o.0 d) (leads (suc n) g o.0 d)
    (either (nat_eq o.0 c) (leads n g o.0 c) (leads (suc n) g o.0 d ≡ true) o.2
    (λ e. leads-above 1 (suc n) g o.0 d (omega arith) (subst (λ (v : ℕ). leads 1 g v d ≡ true) (sym (same-number o.0 c e)) (leads-edge g c d here)))
    (λ e. leads-further n g o.0 c d e here)))

-- a set that has all nodes after those in it, and all after one, has all to which that one leads
pub all-reached : (n : ℕ) (g : Graph) (s : List ℕ) (a b : ℕ) → ((c : ℕ) → is_in s c ≡ true → list_all (is_in s) (edges g c) ≡ true) → list_all (is_in s) (edges g a) ≡ true → leads n g a b ≡ true → is_in s b ≡ true
all-reached zero g s a b closed from h = absurd (true≢false (sym h))
all-reached (suc n) g s a b closed from h =
    let o = any-one (λ c. nat_eq c b || leads n g c b) (edges g a) h in
    let inside : is_in s o.0 ≡ true = at-one (is_in s) (edges g a) o.0 from o.1 in
    either (nat_eq o.0 b) (leads n g o.0 b) (is_in s b ≡ true) o.2
    (λ e. subst (λ (v : ℕ). is_in s v ≡ true) (same-number o.0 b e) inside)
    (λ e. all-reached n g s o.0 b closed (closed o.0 inside) e)

-- ---- the search

nil-append : (xs : List ℕ) → xs ++ [] ≡ xs
nil-append [] = refl
nil-append (x ∷ xs) = ap (λ ys. x ∷ ys) (nil-append xs)

pub flagged-none : (g : Graph) (n : ℕ) → n ≡ length g → IsFlagged g [] (replicate n false)
flagged-none g n e = record { flags = λ c. no-flag n c true; counted = none-true n; size = length-replicate n false ∙ e }

pub flagged-more : (g : Graph) (found : List ℕ) (seen : List Bool) (node : ℕ) → IsFlagged g found seen → node < length g → get_or seen node false ≡ false → IsFlagged g (found ++ node ∷ []) (set seen node true)
flagged-more g found seen node s within out =
    let inside : node < length seen = omega (arith, s.size) in
    record {
      flags = λ c. flag-set seen node c (nat_eq c node) refl inside ∙ ap (λ b. b || nat_eq c node) (s.flags c) ∙ sym (is_in-push found node c);
      counted = one-more seen node inside out ∙ ap (λ k. k + 1) s.counted ∙ sym (length-append found (node ∷ []));
      size = length-set seen node true ∙ s.size;
    }

pub few-flagged : (g : Graph) (found : List ℕ) (seen : List Bool) → IsFlagged g found seen → length found ≤ length g
few-flagged g found seen s = omega (arith, s.counted, s.size, count_by-le-length (λ (b : Bool). b) seen)

pub reaching-none : (g : Graph) (es old : List ℕ) (seen : List Bool) → IsFlagged g old seen → Reaching g es old old seen []
reaching-none g es old seen s = record { flagged = s; more = []; grown = sym (nil-append old); all = refl; only = refl }

and-true : (a b : Bool) → a ≡ true → b ≡ true → (a && b) ≡ true
and-true a b h k = ap (λ v. v && b) h ∙ k

one-further : (p : ℕ → Bool) (passed : List ℕ) (node : ℕ) → list_all p passed ≡ true → p node ≡ true → list_all p (passed ++ node ∷ []) ≡ true
one-further p passed node h k = list_all-append p passed (node ∷ []) ∙ and-true (list_all p passed) (p node && true) h (and-true (p node) true k refl)

here-itself : (ns : List ℕ) (n : ℕ) → is_in (ns ++ n ∷ []) n ≡ true
here-itself ns n = is_in-push ns n n ∙ later (is_in ns n) (nat_eq n n) (same-itself n)

pub in-at : (xs : List ℕ) (p : ℕ) → p < length xs → is_in xs (get_or xs p 0) ≡ true
in-at [] p w = absurd (omega arith)
in-at (x ∷ xs) zero w = ap (λ b. b || is_in xs x) (same-itself x)
in-at (x ∷ xs) (suc p) w = let lt : p < length xs = omega arith in later (nat_eq (get_or xs p 0) x) (is_in xs (get_or xs p 0)) (in-at xs p lt)

-- a node that was found before
pub adds-known : (g : Graph) (node : ℕ) (old : List ℕ) (seen seen1 : List Bool) → IsFlagged g old seen → seen1 ≡ seen → get_or seen1 node false ≡ true → Adds g node old old seen
adds-known g node old seen seen1 s e known = record {
  flagged = s;
  more = [];
  grown = sym (nil-append old);
  here = sym (s.flags node) ∙ ap (λ v. get_or v node false) (sym e) ∙ known;
  only = λ c h. absurd (true≢false (sym h));
}

one-alone : (node c : ℕ) → is_in (node ∷ []) c ≡ true → c ≡ node
one-alone node c h = either (nat_eq c node) false (c ≡ node) h (λ e. same-number c node e) (λ e. absurd (true≢false (sym e)))

-- a new node, where the call succeeds
pub adds-new : {T E : Type 0} (r : Result T E) (g : Graph) (node : ℕ) (old new : List ℕ) (seen seen1 seen' : List Bool) → IsFlagged g old seen → node < length g → seen1 ≡ seen → get_or seen1 node false ≡ false
    → OnOk r (new ≡ old ++ node ∷ []) → OnOk r (seen' ≡ set seen node true) → OnOk r (Adds g node old new seen')
adds-new (Err e) g node old new seen seen1 seen' s within d out a b = tt
adds-new (Ok t) g node old new seen seen1 seen' s within d out a b =
    subst (λ v. Adds g node old v seen') (sym a) (subst (λ v. Adds g node old (old ++ node ∷ []) v) (sym b)
    (record {
      flagged = flagged-more g old seen node s within (ap (λ v. get_or v node false) (sym d) ∙ out);
      more = node ∷ [];
      grown = refl;
      here = here-itself old node;
      only = one-alone node;
    }))

all-only : (es : List ℕ) (node : ℕ) (more : List ℕ) → ((c : ℕ) → is_in more c ≡ true → c ≡ node) → is_in es node ≡ true → list_all (is_in es) more ≡ true
all-only es node [] only h = refl
all-only es node (m ∷ more) only h =
    and-true (is_in es m) (list_all (is_in es) more)
    (ap (is_in es) (only m (ap (λ b. b || is_in more m) (same-itself m))) ∙ h)
    (all-only es node more (λ c e. only c (later (nat_eq c m) (is_in more c) e)) h)

pub reaching-add : (g : Graph) (es old mid new : List ℕ) (seen seen' : List Bool) (passed : List ℕ) (node : ℕ) → Reaching g es old mid seen passed → Adds g node mid new seen' → is_in es node ≡ true
    → Reaching g es old new seen' (passed ++ node ∷ [])
reaching-add g es old mid new seen seen' passed node r a among =
    record {
      flagged = a.flagged;
      more = r.more ++ a.more;
      grown = a.grown ∙ ap (λ ns. ns ++ a.more) r.grown ∙ append_assoc old r.more a.more;
      all = one-further (is_in new) passed node (subst (λ (ns : List ℕ). list_all (is_in ns) passed ≡ true) (sym a.grown) (all-more (is_in mid) (is_in (mid ++ a.more)) (is_in-more mid a.more) passed r.all)) a.here;
      only = list_all-append (is_in es) r.more a.more ∙ and-true (list_all (is_in es) r.more) (list_all (is_in es) a.more) r.only (all-only es node a.more a.only among);
    }

pub reaching-step : (g : Graph) (es old mid new : List ℕ) (seen seen' : List Bool) (i : ℕ) → i < length es → Reaching g es old mid seen (take i es) → Adds g (get_or es i 0) mid new seen' → Reaching g es old new seen' (take (i + 1) es)
reaching-step g es old mid new seen seen' i within r a =
    subst (Reaching g es old new seen') (sym (take_more es i 0 within)) (reaching-add g es old mid new seen seen' (take i es) (get_or es i 0) r a (in-at es i within))

-- all edges of a node
pub reaches : (g : Graph) (from : ℕ) (es old new : List ℕ) (seen : List Bool) → slice_get g from ≡ Some es → Reaching g es old new seen es → Reaches g from old new seen
reaches g from es old new seen there r =
    let e : edges g from ≡ es = edges-at g from es there in
    record {
      flagged = r.flagged;
      more = r.more;
      grown = r.grown;
      all = ap (list_all (is_in new)) e ∙ r.all;
      only = ap (λ ds. list_all (is_in ds) r.more) e ∙ r.only;
    }

pub reaches-none : (g : Graph) (from : ℕ) (old : List ℕ) (seen : List Bool) → slice_get g from ≡ None → IsFlagged g old seen → Reaches g from old old seen
reaches-none g from old seen none s =
    let e : edges g from ≡ [] = ap (λ o. unwrap_or o []) none in
    record { flagged = s; more = []; grown = sym (nil-append old); all = ap (list_all (is_in old)) e; only = refl }

at-front : (xs ys : List ℕ) (p : ℕ) → p < length xs → get_or (xs ++ ys) p 0 ≡ get_or xs p 0
at-front [] ys p w = absurd (omega arith)
at-front (x ∷ xs) ys zero w = refl
at-front (x ∷ xs) ys (suc p) w = let lt : p < length xs = omega arith in at-front xs ys p lt

at-back : (xs ys : List ℕ) (p : ℕ) → get_or (xs ++ ys) (length xs + p) 0 ≡ get_or ys p 0
at-back [] ys p = let z : 0 + p ≡ p = omega arith in ap (λ k. get_or ys k 0) z
at-back (x ∷ xs) ys p = let z : suc (length xs) + p ≡ suc (length xs + p) = omega arith in ap (λ k. get_or (x ∷ (xs ++ ys)) k 0) z ∙ at-back xs ys p

-- nodes that are found from one that is reached by so many edges
sound-more : (g : Graph) (node from k : ℕ) (old new more : List ℕ) → ((c : ℕ) → is_in (edges g from) c ≡ true → leads k g node c ≡ true) → k ≤ suc (length old) → new ≡ old ++ more → list_all (is_in (edges g from)) more ≡ true
    → ((p : ℕ) → p < length old → leads (suc p) g node (get_or old p 0) ≡ true) → (p : ℕ) → p < length new → leads (suc p) g node (get_or new p 0) ≡ true
sound-more g node from k old new more step le e only sound p w = by (nat_lt p (length old)) refl
  where
    sizes : length new ≡ length old + length more
    sizes = ap length e ∙ length-append old more

    by : (b : Bool) → nat_lt p (length old) ≡ b → leads (suc p) g node (get_or new p 0) ≡ true
    by true h =
        let lt : p < length old = grind (arith, nat_tests) in
        ap (leads (suc p) g node) (ap (λ ns. get_or ns p 0) e ∙ at-front old more p lt) ∙ sound p lt
    by false h =
        let ge : length old ≤ p = grind (arith, nat_tests) in
        let q : length old + (p - length old) ≡ p = omega arith in
        let lt : (p - length old) < length more = omega (arith, sizes) in
        let there : get_or new p 0 ≡ get_or more (p - length old) 0 = ap (λ ns. get_or ns p 0) e ∙ ap (λ j. get_or (old ++ more) j 0) (sym q) ∙ at-back old more (p - length old) in
        ap (leads (suc p) g node) there
        ∙ leads-above k (suc p) g node (get_or more (p - length old) 0) (omega arith)
        (step (get_or more (p - length old) 0) (at-one (is_in (edges g from)) more (get_or more (p - length old) 0) only (in-at more (p - length old) lt)))

pub searching-first : (g : Graph) (node : ℕ) (found : List ℕ) (seen : List Bool) → Reaches g node [] found seen → Searching g node 0 found seen
searching-first g node found seen r = record {
  flagged = r.flagged;
  sound = sound-more g node node 1 [] found r.more (leads-edge g node) (omega arith) r.grown r.only (λ p w. absurd (omega arith));
  start = r.all;
  passed = λ p w. absurd (omega arith);
}

pub searching-more : (g : Graph) (node head next : ℕ) (old new : List ℕ) (seen seen' : List Bool) → Searching g node head old seen → head < length old → next ≡ get_or old head 0 → Reaches g next old new seen' → Searching g node (head + 1) new seen'
searching-more g node head next old new seen seen' s within at r = record {
  flagged = r.flagged;
  sound = sound-more g node next (suc (suc head)) old new r.more
      (λ c here. leads-further (suc head) g node next c (ap (leads (suc head) g node) at ∙ s.sound head within) here) (omega arith) r.grown r.only s.sound;
  start = keep (edges g node) s.start;
  passed = λ p lt w. passed p (nat_eq p head) refl lt;
}
  where
    keep : (es : List ℕ) → list_all (is_in old) es ≡ true → list_all (is_in new) es ≡ true
    keep es h = subst (λ (ns : List ℕ). list_all (is_in ns) es ≡ true) (sym r.grown) (all-more (is_in old) (is_in (old ++ r.more)) (is_in-more old r.more) es h)

    same-at : (p : ℕ) → p < length old → get_or new p 0 ≡ get_or old p 0
    same-at p w = ap (λ ns. get_or ns p 0) r.grown ∙ at-front old r.more p w

    passed : (p : ℕ) (b : Bool) → nat_eq p head ≡ b → p < head + 1 → list_all (is_in new) (edges g (get_or new p 0)) ≡ true
    passed p true same lt =
        let z : p ≡ head = same-number p head same in
        ap (λ k. list_all (is_in new) (edges g k)) (ap (λ j. get_or new j 0) z ∙ same-at head within ∙ sym at) ∙ r.all
    passed p false same lt =
        let below : p < head = grind (arith, nat_tests) in
        let w : p < length old = omega arith in
        ap (λ k. list_all (is_in new) (edges g k)) (same-at p w) ∙ keep (edges g (get_or old p 0)) (s.passed p below w)

-- the place of one in a list
place-in : (xs : List ℕ) (c : ℕ) → is_in xs c ≡ true → (p : ℕ) × (p < length xs) × (get_or xs p 0 ≡ c)
place-in [] c here = absurd (true≢false (sym here))
place-in (x ∷ xs) c here =
    either (nat_eq c x) (is_in xs c) ((p : ℕ) × (p < length (x ∷ xs)) × (get_or (x ∷ xs) p 0 ≡ c)) here
    (λ e. (0, omega arith, sym (same-number c x e)))
    (λ e. let o = place-in xs c e in (suc o.0, let lt = o.1 in omega arith, o.2))

-- at the end
pub searched : (g : Graph) (node head : ℕ) (found : List ℕ) (seen : List Bool) → Searching g node head found seen → length found ≤ head → get_or seen node false ≡ is_on_circle g node
searched g node head found seen s past = s.flagged.flags node ∙ by (is_in found node) refl (is_on_circle g node) refl
  where
    closed : (c : ℕ) → is_in found c ≡ true → list_all (is_in found) (edges g c) ≡ true
    closed c here =
        let o = place-in found c here in
        let lt = o.1 in
        subst (λ (v : ℕ). list_all (is_in found) (edges g v) ≡ true) o.2 (s.passed o.0 (omega (arith, lt)) lt)

    by : (a : Bool) → is_in found node ≡ a → (b : Bool) → is_on_circle g node ≡ b → a ≡ b
    by true h true k = refl
    by false h false k = refl
    by true h false k =
        let o = place-in found node h in
        let lt = o.1 in
        let few = few-flagged g found seen s.flagged in
        let l : leads (suc o.0) g node node ≡ true = subst (λ (v : ℕ). leads (suc o.0) g node v ≡ true) o.2 (s.sound o.0 lt) in
        absurd (true≢false (sym (leads-above (suc o.0) (length g) g node node (omega (arith, lt, few)) l) ∙ k))
    by false h true k = absurd (true≢false (sym (all-reached (length g) g found node node closed s.start k) ∙ h))

-- ---- the order

-- a walk of so many edges begins at the node
walks : Graph → ℕ → ℕ → Bool
walks g zero a = true
walks g (suc k) a = list_any (walks g k) (edges g a)

walks-less : (g : Graph) (k a : ℕ) → walks g (suc k) a ≡ true → walks g k a ≡ true
unfolding walks
walks-less g zero a h = refl
walks-less g (suc k) a h =
    let o = any-one (walks g (suc k)) (edges g a) h in
    any-from (walks g k) (edges g a) o.0 o.1 (walks-less g k o.0 o.2)

leads-walk : (n k : ℕ) (g : Graph) (a b : ℕ) → leads n g a b ≡ true → walks g k b ≡ true → walks g (suc k) a ≡ true
unfolding walks
leads-walk zero k g a b h w = absurd (true≢false (sym h))
leads-walk (suc n) k g a b h w =
    let o = any-one (λ c. nat_eq c b || leads n g c b) (edges g a) h in
    either (nat_eq o.0 b) (leads n g o.0 b) (walks g (suc k) a ≡ true) o.2
    (λ e. any-from (walks g k) (edges g a) o.0 o.1 (ap (walks g k) (same-number o.0 b e) ∙ w))
    (λ e. any-from (walks g k) (edges g a) o.0 o.1 (walks-less g k o.0 (leads-walk n k g o.0 b e w)))

circle-walks : (n : ℕ) (g : Graph) (a : ℕ) → leads n g a a ≡ true → (k : ℕ) → walks g k a ≡ true
unfolding walks
circle-walks n g a h zero = refl
circle-walks n g a h (suc k) = leads-walk n k g a a h (circle-walks n g a h k)

not-more : (g : Graph) (k i : ℕ) → walks g k i ≡ false → walks g (suc k) i ≡ false
not-more g k i h = by (walks g (suc k) i) refl
  where
    by : (b : Bool) → walks g (suc k) i ≡ b → b ≡ false
    by true e = absurd (true≢false (sym (walks-less g k i e) ∙ h))
    by false e = refl

not-up : (g : Graph) (d k i : ℕ) → walks g k i ≡ false → walks g (d + k) i ≡ false
not-up g zero k i h = let z : k ≡ 0 + k = omega arith in subst (λ (m : ℕ). walks g m i ≡ false) z h
not-up g (suc d) k i h = let z : suc (d + k) ≡ suc d + k = omega arith in subst (λ (m : ℕ). walks g m i ≡ false) z (not-more g (d + k) i (not-up g d k i h))

not-above : (g : Graph) (k m i : ℕ) → k ≤ m → walks g k i ≡ false → walks g m i ≡ false
not-above g k m i le h = let z : (m - k) + k ≡ m = omega arith in subst (λ (j : ℕ). walks g j i ≡ false) z (not-up g (m - k) k i h)

any-none : (p : ℕ → Bool) (xs : List ℕ) → ((c : ℕ) → is_in xs c ≡ true → p c ≡ false) → list_any p xs ≡ false
any-none p xs h = by (list_any p xs) refl
  where
    by : (b : Bool) → list_any p xs ≡ b → b ≡ false
    by true e = let o = any-one p xs e in absurd (true≢false (sym o.2 ∙ h o.0 o.1))
    by false e = refl

order-ends : (g : Graph) (before ns : List ℕ) → Follows g before ns → ((c : ℕ) → is_in before c ≡ true → walks g (length before) c ≡ false) → (i : ℕ) → is_in ns i ≡ true → walks g (length before + length ns) i ≡ false
unfolding walks
order-ends g before [] f h i here = absurd (true≢false (sym here))
order-ends g before (n ∷ ns) f h i here =
    let head : walks g (suc (length before)) n ≡ false = any-none (walks g (length before)) (edges g n) (λ c e. h c (at-one (is_in before) (edges g n) c f.0 e)) in
    let e = length-append before (n ∷ []) in
    let longer : length (before ++ n ∷ []) ≡ suc (length before) = omega (arith, e) in
    let sum : length (before ++ n ∷ []) + length ns ≡ length before + suc (length ns) = omega (arith, longer) in
    either (nat_eq i n) (is_in ns i) (walks g (length before + suc (length ns)) i ≡ false) here
    (λ e. not-above g (suc (length before)) (length before + suc (length ns)) i (omega arith) (ap (walks g (suc (length before))) (same-number i n e) ∙ head))
    (λ e. subst (λ (m : ℕ). walks g m i ≡ false) sum
    (order-ends g (before ++ n ∷ []) ns f.1
    (λ c in-longer. subst (λ (m : ℕ). walks g m c ≡ false) (sym longer)
    (either (is_in before c) (nat_eq c n) (walks g (suc (length before)) c ≡ false) (sym (is_in-push before n c) ∙ in-longer)
    (λ b. not-more g (length before) c (h c b)) (λ b. ap (walks g (suc (length before))) (same-number c n b) ∙ head)))
    i e))

-- a node with a place in the order lies on no circle
pub ordered-not : (g : Graph) (ns : List ℕ) → IsOrder g ns → (c : ℕ) → is_in ns c ≡ true → is_on_circle g c ≡ false
ordered-not g ns o c here = by (is_on_circle g c) refl
  where
    by : (b : Bool) → is_on_circle g c ≡ b → b ≡ false
    by true e = absurd (true≢false (sym (circle-walks (length g) g c e (0 + length ns)) ∙ order-ends g [] ns o.follows (λ d h. absurd (true≢false (sym h))) c here))
    by false e = refl

-- flags of the nodes of a list
pub flagged-further : (flags : List Bool) (ns : List ℕ) (i : ℕ) → i < length ns → ((c : ℕ) → get_or flags c false ≡ true → is_in (take i ns) c ≡ true)
    → (c : ℕ) → get_or (set flags (get_or ns i 0) true) c false ≡ true → is_in (take (i + 1) ns) c ≡ true
flagged-further flags ns i within before c h =
    ap (λ ms. is_in ms c) (take_more ns i 0 within) ∙ is_in-push (take i ns) (get_or ns i 0) c ∙ by (nat_eq c (get_or ns i 0)) refl
  where
    by : (b : Bool) → nat_eq c (get_or ns i 0) ≡ b → (is_in (take i ns) c || b) ≡ true
    by true e = later (is_in (take i ns) c) true refl
    by false e =
        let other = get_or-set_other flags (get_or ns i 0) c true false (λ same. true≢false (sym ((Decides-eqb c (get_or ns i 0)).1 same) ∙ e)) in
        ap (λ b. b || false) (before c (sym other ∙ h))

-- ---- names

pub cyclic-further : (g : Graph) (names : List (Bor Name)) (i : ℕ) (d : Bor Name) (found next all : Option TypeFault) → i < length names
    → next ≡ earlier found (first (told (is_on_circle g i) (get_or names i d).now.at Cyclic))
    → earlier found (first (flat_map (λ m. told (is_on_circle g m.0) m.1.at Cyclic) (enumerate_from i (map (λ m. m.now) (drop i names))))) ≡ all
    → earlier next (first (flat_map (λ m. told (is_on_circle g m.0) m.1.at Cyclic) (enumerate_from (i + 1) (map (λ m. m.now) (drop (i + 1) names))))) ≡ all
cyclic-further g names i d found next all within more h =
    let n = get_or names i d in
    let rest : drop i names ≡ n ∷ drop (i + 1) names = drop_more names i d within in
    let later = flat_map (λ m. told (is_on_circle g m.0) m.1.at Cyclic) (enumerate_from (i + 1) (map (λ m. m.now) (drop (i + 1) names))) in
    ap (λ v. earlier v (first later)) more ∙ earlier-assoc found (first (told (is_on_circle g i) n.now.at Cyclic)) (first later)
    ∙ sym (ap (earlier found) (ap (λ ns. first (flat_map (λ m. told (is_on_circle g m.0) m.1.at Cyclic) (enumerate_from i (map (λ m. m.now) ns)))) rest ∙ first-append (told (is_on_circle g i) n.now.at Cyclic) later)) ∙ h

pub cyclic-done : (g : Graph) (names : List (Bor Name)) (i : ℕ) (found all : Option TypeFault) → length names ≤ i
    → earlier found (first (flat_map (λ m. told (is_on_circle g m.0) m.1.at Cyclic) (enumerate_from i (map (λ m. m.now) (drop i names))))) ≡ all → found ≡ all
cyclic-done g names i found all past h =
    sym (earlier-none found) ∙ sym (ap (λ ns. earlier found (first (flat_map (λ m. told (is_on_circle g m.0) m.1.at Cyclic) (enumerate_from i (map (λ m. m.now) ns))))) (drop_all i names past)) ∙ h

pub reaches-ok : {T E : Type 0} (r : Result T E) (g : Graph) (from : ℕ) (es es0 old new : List ℕ) (seen : List Bool) → slice_get g from ≡ Some es0 → es ≡ es0 → OnOk r (Reaching g es old new seen es) → OnOk r (Reaches g from old new seen)
reaches-ok (Err e) g from es es0 old new seen there same h = tt
reaches-ok (Ok t) g from es es0 old new seen there same h = reaches g from es old new seen (there ∙ ap Some (sym same)) h

pub searching-all : (g : Graph) (node head : ℕ) (found : List ℕ) (seen : List Bool) → length found ≤ head → Searching g node head found seen → Searching g node (length found) found seen
searching-all g node head found seen past s = record { flagged = s.flagged; sound = s.sound; start = s.start; passed = λ p lt w. s.passed p (omega (arith, past)) w }

pub flagged-start : (g : Graph) (ns : List ℕ) (seen : List Bool) (n : ℕ) → ns ≡ [] → seen ≡ replicate n false → n ≡ length g → IsFlagged g ns seen
flagged-start g ns seen n a b e = subst (λ (v : List ℕ). IsFlagged g v seen) (sym a) (subst (λ (v : List Bool). IsFlagged g [] v) (sym b) (flagged-none g n e))

pub searching-start : (g : Graph) (node : ℕ) (old found : List ℕ) (seen : List Bool) → old ≡ [] → Reaches g node old found seen → Searching g node 0 found seen
searching-start g node old found seen e r = searching-first g node found seen (subst (λ (v : List ℕ). Reaches g node v found seen) e r)

-- ---- a graph without circles has an order of all nodes

some-edge : (g : Graph) (ns : List ℕ) (x : ℕ) → list_all (is_in ns) (edges g x) ≡ false → (c : ℕ) × (is_in (edges g x) c ≡ true) × (is_in ns c ≡ false)
some-edge g ns x h = one-not (is_in ns) (edges g x) h

-- the node leads to another one by fewer edges than so many, or is that one
abbrev LeadsBy : ℕ → Graph → ℕ → ℕ → Type 0
LeadsBy n g c x = (c ≡ x) ⊎ ((k : ℕ) × (suc k ≤ n) × (leads k g c x ≡ true))

leads-by-further : (n : ℕ) (g : Graph) (x c f : ℕ) → 1 ≤ n → LeadsBy n g c x → is_in (edges g x) f ≡ true → (k : ℕ) × (suc k ≤ n + 1) × (leads k g c f ≡ true)
leads-by-further n g x c f some (inl z) edge = (1, omega (arith, some), subst (λ (v : ℕ). leads 1 g v f ≡ true) (sym z) (leads-edge g x f edge))
leads-by-further n g x c f some (inr l) edge = (suc l.0, let h = l.1 in omega (arith, h), leads-further l.0 g c x f l.2 edge)

endless : (d : ℕ) (g : Graph) (ns xs : List ℕ) (seen : List Bool) (x : ℕ) → IsClosed g → IsOrder g ns → ((c : ℕ) → is_on_circle g c ≡ false) → IsFlagged g xs seen → length xs + d ≡ suc (length g) → 1 ≤ length xs
    → ((c : ℕ) → is_in xs c ≡ true → LeadsBy (length xs) g c x) → x < length g → is_in ns x ≡ false → ⊥
endless zero g ns xs seen x closed o none s sum some to within out = let few = few-flagged g xs seen s in omega (arith, few, sum)
endless (suc d) g ns xs seen x closed o none s sum some to within out =
    let e = some-edge g ns x (o.others x within out) in
    let inside : e.0 < length g = closed x e.0 e.1 in
    let few = few-flagged g xs seen s in
    let size = length-append xs (e.0 ∷ []) in
    by (is_in xs e.0) e.0 refl e.1 few
    (λ new. endless d g ns (xs ++ e.0 ∷ []) (set seen e.0 true) e.0 closed o none (flagged-more g xs seen e.0 s inside (s.flags e.0 ∙ new)) (omega (arith, sum, size)) (omega (arith, size))
    (λ c here. either (is_in xs c) (nat_eq c e.0) (LeadsBy (length (xs ++ e.0 ∷ [])) g c e.0) (sym (is_in-push xs e.0 c) ∙ here)
    (λ old. inr (subst (λ (n : ℕ). (k : ℕ) × (suc k ≤ n) × (leads k g c e.0 ≡ true)) (sym size) (leads-by-further (length xs) g x c e.0 some (to c old) e.1))) (λ same. inl (same-number c e.0 same)))
    inside e.2)
  where
    round : (c : ℕ) → (k : ℕ) × (suc k ≤ length xs + 1) × (leads k g c c ≡ true) → length xs ≤ length g → ⊥
    round c l few = let h = l.1 in true≢false (sym (leads-above l.0 (length g) g c c (omega (arith, h, few)) l.2) ∙ none c)

    by : (b : Bool) (f : ℕ) → is_in xs f ≡ b → is_in (edges g x) f ≡ true → length xs ≤ length g → (is_in xs f ≡ false → ⊥) → ⊥
    by true f h edge few rest = round f (leads-by-further (length xs) g x f f some (to f h) edge) few
    by false f h edge few rest = rest h

pub complete-order : (g : Graph) (ns : List ℕ) → IsClosed g → IsOrder g ns → ((c : ℕ) → is_on_circle g c ≡ false) → (i : ℕ) → i < length g → is_in ns i ≡ true
complete-order g ns closed o none i within = by (is_in ns i) refl
  where
    alone : (c : ℕ) → is_in (i ∷ []) c ≡ true → LeadsBy 1 g c i
    alone c h = inl (one-alone i c h)

    by : (b : Bool) → is_in ns i ≡ b → b ≡ true
    by true h = refl
    by false h =
        absurd (endless (length g) g ns (i ∷ []) (set (replicate (length g) false) i true) i closed o none
        (flagged-more g [] (replicate (length g) false) i (flagged-none g (length g) refl) within (no-flag (length g) i true)) (omega arith) (omega arith) alone within h)
