-- The search in depth leaves the blocks in an order in which, read backward, each edge leads on, and ends.
use Rattle.std.proofs.Common.{◌≡◌, ℕ, zero, suc, ◌+◌, ◌<◌, ◌≤◌, nat_eq, Bool, true, false, ◌||◌, List, [], ◌∷◌, ◌++◌, length, reverse, replicate, arith, sym, ◌∙◌, ap, refl, subst, inl, inr, append-nil, append_assoc, length-append}
use Rattle.std.specs.Prelude.{Option, None, Some, if◌then◌else◌, slice_get, slice_set, ◌⊎◌}
use Rattle.std.proofs.lemmas.Bool.{eqb-true, eq-eqb}
use Rattle.std.proofs.lemmas.List.{reverse-append}
use Rattle.flat_prog.specs.declared.block.FlatBlock.{FlatBlock}
use Rattle.flat_prog.specs.declared.block.FlatNext.{FlatNext}
use Rattle.flat_prog.specs.declared.block.FlatNext.TheVariants.{Goto, Return}
use Rattle.flat_prog.specs.declared.ordering.Search.{Search}
use Rattle.flat_prog.specs.declared.ordering.Visit.{Visit}
use Rattle.flat_prog.specs.declared.ordering.Visit.TheVariants.{Enter, Leave}
use Rattle.flat_prog.specs.declared.proc.FlatProc.{FlatProc}
use Rattle.flat_prog.specs.Ordering.{is_in, Onward, IsOrderOf, IsAcyclic}
use Rattle.flat_prog.specs.Searching.{targets_next, targets_at, entries, is_new, entered, stepped, begun}
use Rattle.flat_prog.specs.Shape.{place_of, place_at}
use Rattle.flat_prog.specs.Sites.{numbers_from}

-- ---- truth

or_l : (a b : Bool) → a ≡ true → (a || b) ≡ true
or_l true b h = refl
or_l false b h = cc

or_r : (a b : Bool) → b ≡ true → (a || b) ≡ true
or_r true b h = refl
or_r false b h = h

or_cases : (a b : Bool) → (a || b) ≡ true → (a ≡ true) ⊎ (b ≡ true)
or_cases true b h = inl refl
or_cases false b h = inr h

-- ---- a block's depth: how much of the order stands behind its last place

abbrev pub depth : List ℕ → ℕ → ℕ
depth [] n = 0
depth (m ∷ ms) n = if is_in n ms then depth ms n else (if nat_eq n m then suc (length ms) else 0)

small_by : (a b : Bool) (x l : ℕ) → x ≤ l → (if a then x else (if b then suc l else 0)) ≤ suc l
small_by true b x l h = omega (arith, h)
small_by false true x l h = omega arith
small_by false false x l h = omega arith

depth_small : (ms : List ℕ) (n : ℕ) → depth ms n ≤ length ms
depth_small [] n = omega arith
depth_small (m ∷ ms) n = small_by (is_in n ms) (nat_eq n m) (depth ms n) (length ms) (depth_small ms n)

in_rest_by : (q : FlatProc) (m : ℕ) (ms : List ℕ) (n place t : ℕ) → Onward q (m ∷ ms) → place_at (slice_get q.blocks n) place ≡ Some t → (is_in n ms ≡ true → is_in t ms ≡ true) →
    (nat_eq n m ≡ true) ⊎ (is_in n ms ≡ true) → is_in t ms ≡ true
in_rest_by q m ms n place t o e more (inl y) = o.0 place t (subst (λ x. place_at (slice_get q.blocks x) place ≡ Some t) (eqb-true n m y) e)
in_rest_by q m ms n place t o e more (inr y) = more y

in_more : (q : FlatProc) (ms : List ℕ) (n place t : ℕ) → Onward q ms → is_in n ms ≡ true → place_at (slice_get q.blocks n) place ≡ Some t → is_in t ms ≡ true
in_more q [] n place t o h e = cc
in_more q (m ∷ ms) n place t o h e =
    or_r (nat_eq t m) (is_in t ms) (in_rest_by q m ms n place t o e (λ y. in_more q ms n place t o.1 y e) (or_cases (nat_eq n m) (is_in n ms) h))

in_rest : (q : FlatProc) (m : ℕ) (ms : List ℕ) (n place t : ℕ) → Onward q (m ∷ ms) → is_in n (m ∷ ms) ≡ true → place_at (slice_get q.blocks n) place ≡ Some t → is_in t ms ≡ true
in_rest q m ms n place t o h e = in_rest_by q m ms n place t o e (λ y. in_more q ms n place t o.1 y e) (or_cases (nat_eq n m) (is_in n ms) h)

down_by : (a b c : Bool) (x y l : ℕ) → (c || a) ≡ true → y ≤ l → (a ≡ true → y < x) → y < (if a then x else (if c then suc l else 0))
down_by true b c x y l h s k = k refl
down_by false b true x y l h s k = omega (arith, s)
down_by false b false x y l h s k = cc

skip_by : (a b : Bool) (x l : ℕ) → a ≡ true → (if a then x else (if b then suc l else 0)) ≡ x
skip_by true b x l h = refl
skip_by false b x l h = cc

pub depth_down : (q : FlatProc) (ms : List ℕ) (n place t : ℕ) → Onward q ms → is_in n ms ≡ true → place_at (slice_get q.blocks n) place ≡ Some t → depth ms t < depth ms n
depth_down q [] n place t o h e = cc
depth_down q (m ∷ ms) n place t o h e =
    rw (skip_by (is_in t ms) (nat_eq t m) (depth ms t) (length ms) (in_rest q m ms n place t o h e))
    (down_by (is_in n ms) true (nat_eq n m) (depth ms n) (depth ms t) (length ms) h (depth_small ms t) (λ y. depth_down q ms n place t o.1 y e))

-- each edge leads to a block that is there, and down
abbrev pub Down : FlatProc → (ℕ → ℕ) → Type 0
Down q d = (n place t : ℕ) → place_at (slice_get q.blocks n) place ≡ Some t → (t < length q.blocks) × (d t < d n)

within : (bs : List FlatBlock) (n place t : ℕ) → place_at (slice_get bs n) place ≡ Some t → n < length bs
within [] n place t e = cc
within (b ∷ bs) zero place t e = omega arith
within (b ∷ bs) (suc n) place t e = let h : n < length bs = within bs n place t e in omega (arith, h)

pub goes_down : (q : FlatProc) (a : IsAcyclic q) → Down q (depth a.order)
goes_down q a n place t e =
    let is : is_in n a.order ≡ true = a.ordered.every n (within q.blocks n place t e) in
    (a.ordered.there t (in_more q a.order n place t a.ordered.onward is e), depth_down q a.order n place t a.ordered.onward is e)

-- ---- what is to be done

abbrev pub number_of : Visit → ℕ
number_of (Enter n) = n
number_of (Leave n) = n

abbrev pub has : ℕ → List Visit → Bool
has n [] = false
has n (v ∷ vs) = nat_eq n (number_of v) || has n vs

abbrev pub leaves : List Visit → List ℕ
leaves [] = []
leaves (Enter n ∷ vs) = leaves vs
leaves (Leave n ∷ vs) = n ∷ leaves vs

-- a block of less depth than those that are to be left
abbrev pub Low : (ℕ → ℕ) → ℕ → List Visit → Type 0
Low d b [] = Unit {0}
Low d b (Enter n ∷ vs) = Low d b vs
Low d b (Leave m ∷ vs) = (b < d m) × Low d b vs

abbrev pub AllUnder : (ℕ → ℕ) → ℕ → List Visit → Type 0
AllUnder d b [] = Unit {0}
AllUnder d b (v ∷ vs) = (d (number_of v) < b) × AllUnder d b vs

-- what stands above a block that is to be left has less depth
abbrev pub Ranked : (ℕ → ℕ) → List Visit → Type 0
Ranked d [] = Unit {0}
Ranked d (Enter n ∷ vs) = Ranked d vs
Ranked d (Leave m ∷ vs) = AllUnder d (d m) vs × Ranked d vs

under_push : (d : ℕ → ℕ) (b : ℕ) (xs : List Visit) (v : Visit) → AllUnder d b xs → d (number_of v) < b → AllUnder d b (xs ++ v ∷ [])
under_push d b [] v h l = (l, tt)
under_push d b (x ∷ xs) v (a, h) l = (a, under_push d b xs v h l)

under_last : (d : ℕ → ℕ) (b : ℕ) (xs : List Visit) (v : Visit) → AllUnder d b (xs ++ v ∷ []) → d (number_of v) < b
under_last d b [] v (l, h) = l
under_last d b (x ∷ xs) v (a, h) = under_last d b xs v h

under_front : (d : ℕ → ℕ) (b : ℕ) (xs ys : List Visit) → AllUnder d b (xs ++ ys) → AllUnder d b xs
under_front d b [] ys h = tt
under_front d b (x ∷ xs) ys (a, h) = (a, under_front d b xs ys h)

ranked_front : (d : ℕ → ℕ) (xs ys : List Visit) → Ranked d (xs ++ ys) → Ranked d xs
ranked_front d [] ys h = tt
ranked_front d (Enter n ∷ xs) ys h = ranked_front d xs ys h
ranked_front d (Leave m ∷ xs) ys (u, h) = (under_front d (d m) xs ys u, ranked_front d xs ys h)

ranked_low : (d : ℕ → ℕ) (xs : List Visit) (v : Visit) → Ranked d (xs ++ v ∷ []) → Low d (d (number_of v)) xs
ranked_low d [] v h = tt
ranked_low d (Enter n ∷ xs) v h = ranked_low d xs v h
ranked_low d (Leave m ∷ xs) v (u, h) = (under_last d (d m) xs v u, ranked_low d xs v h)

ranked_push : (d : ℕ → ℕ) (xs : List Visit) (v : Visit) → Ranked d xs → Low d (d (number_of v)) xs → Ranked d (xs ++ v ∷ [])
ranked_push d [] (Enter n) h l = tt
ranked_push d [] (Leave n) h l = (tt, tt)
ranked_push d (Enter n ∷ xs) v h l = ranked_push d xs v h l
ranked_push d (Leave m ∷ xs) v (u, h) (a, l) = (under_push d (d m) xs v u a, ranked_push d xs v h l)

low_less : (d : ℕ → ℕ) (b c : ℕ) (xs : List Visit) → b < c → Low d c xs → Low d b xs
low_less d b c [] l h = tt
low_less d b c (Enter n ∷ xs) l h = low_less d b c xs l h
low_less d b c (Leave m ∷ xs) l (a, h) = (omega (arith, l, a), low_less d b c xs l h)

low_leave : (d : ℕ → ℕ) (b n : ℕ) (xs : List Visit) → Low d b xs → b < d n → Low d b (xs ++ Leave n ∷ [])
low_leave d b n [] h l = (l, tt)
low_leave d b n (Enter m ∷ xs) h l = low_leave d b n xs h l
low_leave d b n (Leave m ∷ xs) (a, h) l = (a, low_leave d b n xs h l)

low_enter : (d : ℕ → ℕ) (b n : ℕ) (xs : List Visit) → Low d b xs → Low d b (xs ++ Enter n ∷ [])
low_enter d b n [] h = tt
low_enter d b n (Enter m ∷ xs) h = low_enter d b n xs h
low_enter d b n (Leave m ∷ xs) (a, h) = (a, low_enter d b n xs h)

low_in : (d : ℕ → ℕ) (b n : ℕ) (xs : List Visit) → Low d b xs → is_in n (leaves xs) ≡ true → b < d n
low_in d b n [] h i = cc
low_in d b n (Enter m ∷ xs) h i = low_in d b n xs h i
low_in d b n (Leave m ∷ xs) (a, h) i = by (or_cases (nat_eq n m) (is_in n (leaves xs)) i) (λ y. low_in d b n xs h y)
  where
    by : (nat_eq n m ≡ true) ⊎ (is_in n (leaves xs) ≡ true) → (is_in n (leaves xs) ≡ true → b < d n) → b < d n
    by (inl y) k = subst (λ x. b < d x) (sym (eqb-true n m y)) a
    by (inr y) k = k y

-- blocks of less depth, above
ranked_entries : (d : ℕ → ℕ) (ts : List ℕ) (xs : List Visit) → Ranked d xs → ((p t : ℕ) → slice_get ts p ≡ Some t → Low d (d t) xs) → Ranked d (xs ++ entries ts)
ranked_entries d [] xs h l = subst (Ranked d) (sym (append-nil xs)) h
ranked_entries d (t ∷ ts) xs h l =
    subst (Ranked d) (append_assoc xs (Enter t ∷ []) (entries ts))
    (ranked_entries d ts (xs ++ Enter t ∷ []) (ranked_push d xs (Enter t) h (l 0 t refl)) (λ p u e. low_enter d (d u) t xs (l (suc p) u e)))

-- ---- what is owed: each target of a block that is to be left is listed, or stands above it

has_append : (t : ℕ) (xs ys : List Visit) → has t (xs ++ ys) ≡ (has t xs || has t ys)
has_append t [] ys = refl
has_append t (x ∷ xs) ys = ap (λ b. nat_eq t (number_of x) || b) (has_append t xs ys) ∙ or_assoc (nat_eq t (number_of x)) (has t xs) (has t ys)
  where
    or_assoc : (a b c : Bool) → (a || (b || c)) ≡ ((a || b) || c)
    or_assoc true b c = refl
    or_assoc false b c = refl

-- v goes, zs come, and what has v's number is listed or among zs
abbrev pub Turns : List ℕ → Visit → List Visit → Type 0
Turns ds v zs = (t : ℕ) → nat_eq t (number_of v) ≡ true → (is_in t ds || has t zs) ≡ true

turned : (a b c e : Bool) → (a || (b || (c || false))) ≡ true → (c ≡ true → (a || e) ≡ true) → (a || (b || e)) ≡ true
turned true b c e h k = refl
turned false true c e h k = refl
turned false false true e h k = k refl
turned false false false e h k = cc

turn_in : (ds : List ℕ) (t : ℕ) (xs : List Visit) (v : Visit) (zs : List Visit) → Turns ds v zs → (is_in t ds || has t (xs ++ v ∷ [])) ≡ true → (is_in t ds || has t (xs ++ zs)) ≡ true
turn_in ds t xs v zs k h =
    ap (λ b. is_in t ds || b) (has_append t xs zs)
    ∙ turned (is_in t ds) (has t xs) (nat_eq t (number_of v)) (has t zs) (ap (λ b. is_in t ds || b) (sym (has_append t xs (v ∷ []))) ∙ h) (k t)

abbrev pub Owed : FlatProc → List ℕ → List Visit → Type 0
Owed q ds [] = Unit {0}
Owed q ds (Enter n ∷ vs) = Owed q ds vs
Owed q ds (Leave n ∷ vs) = ((place t : ℕ) → place_at (slice_get q.blocks n) place ≡ Some t → (is_in t ds || has t vs) ≡ true) × Owed q ds vs

owed_entries : (q : FlatProc) (ds ts : List ℕ) → Owed q ds (entries ts)
owed_entries q ds [] = tt
owed_entries q ds (t ∷ ts) = owed_entries q ds ts

owed_last : (q : FlatProc) (ds : List ℕ) (xs ys : List Visit) → Owed q ds (xs ++ ys) → Owed q ds ys
owed_last q ds [] ys h = h
owed_last q ds (Enter n ∷ xs) ys h = owed_last q ds xs ys h
owed_last q ds (Leave n ∷ xs) ys (a, h) = owed_last q ds xs ys h

owed_turn : (q : FlatProc) (ds : List ℕ) (xs : List Visit) (v : Visit) (zs : List Visit) → Turns ds v zs → Owed q ds zs → Owed q ds (xs ++ v ∷ []) → Owed q ds (xs ++ zs)
owed_turn q ds [] v zs k z h = z
owed_turn q ds (Enter n ∷ xs) v zs k z h = owed_turn q ds xs v zs k z h
owed_turn q ds (Leave n ∷ xs) v zs k z (a, h) = ((λ place t e. turn_in ds t xs v zs k (a place t e)), owed_turn q ds xs v zs k z h)

more_in : (a b c e : Bool) → (a ≡ true → b ≡ true) → (a || c) ≡ true → (b || c) ≡ true
more_in true b c e k h = or_l b c (k refl)
more_in false b c e k h = or_r b c h

owed_more : (q : FlatProc) (ds : List ℕ) (n : ℕ) (xs : List Visit) → Owed q ds xs → Owed q (n ∷ ds) xs
owed_more q ds n [] h = tt
owed_more q ds n (Enter m ∷ xs) h = owed_more q ds n xs h
owed_more q ds n (Leave m ∷ xs) (a, h) = ((λ place t e. more_in (is_in t ds) (is_in t (n ∷ ds)) (has t xs) true (or_r (nat_eq t n) (is_in t ds)) (a place t e)), owed_more q ds n xs h)

-- ---- what is entered

leaves_append : (xs ys : List Visit) → leaves (xs ++ ys) ≡ leaves xs ++ leaves ys
leaves_append [] ys = refl
leaves_append (Enter n ∷ xs) ys = leaves_append xs ys
leaves_append (Leave n ∷ xs) ys = ap (λ zs. n ∷ zs) (leaves_append xs ys)

leaves_entries : (ts : List ℕ) → leaves (entries ts) ≡ []
leaves_entries [] = refl
leaves_entries (t ∷ ts) = leaves_entries ts

is_in_append : (n : ℕ) (xs ys : List ℕ) → is_in n (xs ++ ys) ≡ (is_in n xs || is_in n ys)
is_in_append n [] ys = refl
is_in_append n (x ∷ xs) ys = ap (λ b. nat_eq n x || b) (is_in_append n xs ys) ∙ or_assoc (nat_eq n x) (is_in n xs) (is_in n ys)
  where
    or_assoc : (a b c : Bool) → (a || (b || c)) ≡ ((a || b) || c)
    or_assoc true b c = refl
    or_assoc false b c = refl

-- how many are not entered
abbrev pub unset : List Bool → ℕ
unset [] = 0
unset (true ∷ fs) = unset fs
unset (false ∷ fs) = suc (unset fs)

unset_set : (fs : List Bool) (n : ℕ) → slice_get fs n ≡ Some false → unset fs ≡ suc (unset (slice_set fs n true))
unset_set [] n e = cc
unset_set (true ∷ fs) zero e = cc
unset_set (false ∷ fs) zero e = refl
unset_set (true ∷ fs) (suc n) e = unset_set fs n e
unset_set (false ∷ fs) (suc n) e = ap suc (unset_set fs n e)

length_set : (fs : List Bool) (n : ℕ) → length (slice_set fs n true) ≡ length fs
length_set [] n = refl
length_set (f ∷ fs) zero = refl
length_set (f ∷ fs) (suc n) = ap suc (length_set fs n)

set_known : (fs : List Bool) (n m : ℕ) → slice_get (slice_set fs n true) m ≡ Some true → (m ≡ n) ⊎ (slice_get fs m ≡ Some true)
set_known [] n m e = cc
set_known (f ∷ fs) zero zero e = inl refl
set_known (f ∷ fs) zero (suc m) e = inr e
set_known (f ∷ fs) (suc n) zero e = inr e
set_known (f ∷ fs) (suc n) (suc m) e = by (set_known fs n m e)
  where
    by : (m ≡ n) ⊎ (slice_get fs m ≡ Some true) → (suc m ≡ suc n) ⊎ (slice_get fs m ≡ Some true)
    by (inl y) = inl (ap suc y)
    by (inr y) = inr y

-- how much is still to be entered, each block with its edges
abbrev pub waiting : List FlatBlock → List Bool → ℕ
waiting [] fs = 0
waiting (b ∷ bs) [] = 0
waiting (b ∷ bs) (true ∷ fs) = waiting bs fs
waiting (b ∷ bs) (false ∷ fs) = suc (length (targets_next b.next)) + waiting bs fs

waiting_set : (bs : List FlatBlock) (fs : List Bool) (n : ℕ) → n < length bs → slice_get fs n ≡ Some false → waiting bs fs ≡ suc (length (targets_at (slice_get bs n))) + waiting bs (slice_set fs n true)
waiting_set [] fs n l e = absurd (omega (arith, l))
waiting_set (b ∷ bs) [] n l e = cc
waiting_set (b ∷ bs) (true ∷ fs) zero l e = cc
waiting_set (b ∷ bs) (false ∷ fs) zero l e = refl
waiting_set (b ∷ bs) (true ∷ fs) (suc n) l e = waiting_set bs fs n (omega (arith, l)) e
waiting_set (b ∷ bs) (false ∷ fs) (suc n) l e = let h = waiting_set bs fs n (omega (arith, l)) e in omega (arith, h)

-- ---- targets

get_has : (ts : List ℕ) (p t : ℕ) → slice_get ts p ≡ Some t → has t (entries ts) ≡ true
get_has [] p t e = cc
get_has (x ∷ ts) zero t e = let y : t ≡ x = cc in or_l (nat_eq t x) (has t (entries ts)) (eq-eqb t x y)
get_has (x ∷ ts) (suc p) t e = or_r (nat_eq t x) (has t (entries ts)) (get_has ts p t e)

next_has : (next : FlatNext) (p t : ℕ) → place_of next p ≡ Some t → has t (entries (targets_next next)) ≡ true
next_has (Goto ts) p t e = get_has ts p t e
next_has Return p t e = cc

target_has : (o : Option FlatBlock) (p t : ℕ) → place_at o p ≡ Some t → has t (entries (targets_at o)) ≡ true
target_has None p t e = cc
target_has (Some b) p t e = next_has b.next p t e

next_get : (next : FlatNext) (p t : ℕ) → slice_get (targets_next next) p ≡ Some t → place_of next p ≡ Some t
next_get (Goto ts) p t e = e
next_get Return p t e = cc

target_get : (o : Option FlatBlock) (p t : ℕ) → slice_get (targets_at o) p ≡ Some t → place_at o p ≡ Some t
target_get None p t e = cc
target_get (Some b) p t e = next_get b.next p t e

has_get : (ts : List ℕ) (t : ℕ) → has t (entries ts) ≡ true → (p : ℕ) × (slice_get ts p ≡ Some t)
has_get [] t h = cc
has_get (x ∷ ts) t h = by (or_cases (nat_eq t x) (has t (entries ts)) h) (λ y. has_get ts t y)
  where
    by : (nat_eq t x ≡ true) ⊎ (has t (entries ts) ≡ true) → (has t (entries ts) ≡ true → (p : ℕ) × (slice_get ts p ≡ Some t)) → (p : ℕ) × (slice_get (x ∷ ts) p ≡ Some t)
    by (inl y) k = (0, ap (λ z. Some z) (sym (eqb-true t x y)))
    by (inr y) k = (suc (k y).0, (k y).1)

-- ---- the search so far; ds are the blocks that were left, the last first
pub record Searching (q : FlatProc) (d : ℕ → ℕ) (st : List Visit) (fs : List Bool) (ds : List ℕ) : Type 0 where
  pub onward : Onward q ds
  pub every : (n : ℕ) → n < length q.blocks → (is_in n ds || has n st) ≡ true
  pub owed : Owed q ds st
  pub ranked : Ranked d st
  pub size : length fs ≡ length q.blocks
  pub known : (n : ℕ) → slice_get fs n ≡ Some true → (is_in n ds || is_in n (leaves st)) ≡ true
  pub range : (n : ℕ) → has n st ≡ true → n < length q.blocks
  pub there : (n : ℕ) → is_in n ds ≡ true → n < length q.blocks
  pub count : length ds + length (leaves st) + unset fs ≡ length q.blocks

leaves_in : (n : ℕ) (xs ys : List Visit) → is_in n (leaves (xs ++ ys)) ≡ (is_in n (leaves xs) || is_in n (leaves ys))
leaves_in n xs ys = ap (λ zs. is_in n zs) (leaves_append xs ys) ∙ is_in_append n (leaves xs) (leaves ys)

leaves_length : (xs ys : List Visit) → length (leaves (xs ++ ys)) ≡ length (leaves xs) + length (leaves ys)
leaves_length xs ys = ap length (leaves_append xs ys) ∙ length-append (leaves xs) (leaves ys)

has_front : (n : ℕ) (xs ys : List Visit) → has n xs ≡ true → has n (xs ++ ys) ≡ true
has_front n xs ys h = has_append n xs ys ∙ or_l (has n xs) (has n ys) h

has_last : (xs : List Visit) (v : Visit) → has (number_of v) (xs ++ v ∷ []) ≡ true
has_last xs v = has_append (number_of v) xs (v ∷ []) ∙ or_r (has (number_of v) xs) (nat_eq (number_of v) (number_of v) || false) (or_l (nat_eq (number_of v) (number_of v)) false (eq-eqb (number_of v) (number_of v) refl))

no_more : (a : Bool) → (a || false) ≡ true → a ≡ true
no_more true h = refl
no_more false h = cc

drop_false : (a b : Bool) → (a || (b || false)) ≡ true → (a || b) ≡ true
drop_false true b h = refl
drop_false false b h = no_more b h

known_more : (a b c : Bool) → (a || b) ≡ true → (a || (b || c)) ≡ true
known_more true b c h = refl
known_more false b c h = or_l b c h

known_left : (a b c : Bool) → (a || (b || (c || false))) ≡ true → ((c || a) || b) ≡ true
known_left a b true h = refl
known_left true b false h = refl
known_left false b false h = no_more b h

-- a block that is entered was left before
was_left : (q : FlatProc) (d : ℕ → ℕ) (xs : List Visit) (fs : List Bool) (ds : List ℕ) (n : ℕ) → Searching q d (xs ++ Enter n ∷ []) fs ds → slice_get fs n ≡ Some true → is_in n ds ≡ true
was_left q d xs fs ds n s e = by (or_cases (is_in n ds) (is_in n (leaves xs)) (drop_false (is_in n ds) (is_in n (leaves xs)) (ap (λ b. is_in n ds || b) (sym (leaves_in n xs (Enter n ∷ []))) ∙ s.known n e)))
  where
    by : (is_in n ds ≡ true) ⊎ (is_in n (leaves xs) ≡ true) → is_in n ds ≡ true
    by (inl y) = y
    by (inr y) = let l : d n < d n = low_in d (d n) n xs (ranked_low d xs (Enter n) s.ranked) y in absurd (omega (arith, l))

skipped : (q : FlatProc) (d : ℕ → ℕ) (xs : List Visit) (fs : List Bool) (ds : List ℕ) (n : ℕ) → Searching q d (xs ++ Enter n ∷ []) fs ds → slice_get fs n ≡ Some true → Searching q d xs fs ds
skipped q d xs fs ds n s e =
    let is : is_in n ds ≡ true = was_left q d xs fs ds n s e in
    let turns : Turns ds (Enter n) [] = λ t y. or_l (is_in t ds) false (subst (λ x. is_in x ds ≡ true) (sym (eqb-true t n y)) is) in
    let nil = append-nil xs in
    let ll = leaves_length xs (Enter n ∷ []) in
    let total = s.count in
    record {
      onward = s.onward;
      every = λ m l. subst (λ ys. (is_in m ds || has m ys) ≡ true) nil (turn_in ds m xs (Enter n) [] turns (s.every m l));
      owed = subst (Owed q ds) nil (owed_turn q ds xs (Enter n) [] turns tt s.owed);
      ranked = ranked_front d xs (Enter n ∷ []) s.ranked;
      size = s.size;
      known = λ m f. drop_false (is_in m ds) (is_in m (leaves xs)) (ap (λ b. is_in m ds || b) (sym (leaves_in m xs (Enter n ∷ []))) ∙ s.known m f);
      range = λ m h. s.range m (has_front m xs (Enter n ∷ []) h);
      there = s.there;
      count = omega (arith, ll, total);
    }

opened : (q : FlatProc) (d : ℕ → ℕ) (xs : List Visit) (fs : List Bool) (ds : List ℕ) (n : ℕ) → Down q d → Searching q d (xs ++ Enter n ∷ []) fs ds → slice_get fs n ≡ Some false →
    Searching q d (xs ++ Leave n ∷ entries (targets_at (slice_get q.blocks n))) (slice_set fs n true) ds
opened q d xs fs ds n down s e =
    let ts = targets_at (slice_get q.blocks n) in
    let zs : List Visit = Leave n ∷ entries ts in
    let turns : Turns ds (Enter n) zs = λ t y. or_r (is_in t ds) (nat_eq t n || has t (entries ts)) (or_l (nat_eq t n) (has t (entries ts)) y) in
    let low = ranked_low d xs (Enter n) s.ranked in
    let to : (p t : ℕ) → slice_get ts p ≡ Some t → (t < length q.blocks) × (d t < d n) = λ p t g. down n p t (target_get (slice_get q.blocks n) p t g) in
    let ll = leaves_length xs (Enter n ∷ []) in
    let lz = leaves_length xs zs in
    let le = ap length (leaves_entries ts) in
    let un = unset_set fs n e in
    let total = s.count in
    let known : (m : ℕ) → (m ≡ n) ⊎ (slice_get fs m ≡ Some true) → (is_in m ds || is_in m (leaves (xs ++ zs))) ≡ true = λ m c.
    ap (λ b. is_in m ds || b) (leaves_in m xs zs) ∙ known_by m (is_in m ds) (is_in m (leaves xs)) (is_in m (leaves (entries ts))) c (λ g.
    drop_false (is_in m ds) (is_in m (leaves xs)) (ap (λ b. is_in m ds || b) (sym (leaves_in m xs (Enter n ∷ []))) ∙ s.known m g)) in
    record {
      onward = s.onward;
      every = λ m l. turn_in ds m xs (Enter n) zs turns (s.every m l);
      owed = owed_turn q ds xs (Enter n) zs turns ((λ p t g. or_r (is_in t ds) (has t (entries ts)) (target_has (slice_get q.blocks n) p t g)), owed_entries q ds ts) s.owed;
      ranked = subst (Ranked d) (append_assoc xs (Leave n ∷ []) (entries ts))
          (ranked_entries d ts (xs ++ Leave n ∷ []) (ranked_push d xs (Leave n) (ranked_front d xs (Enter n ∷ []) s.ranked) low)
          (λ p t g. low_leave d (d t) n xs (low_less d (d t) (d n) xs (to p t g).1 low) (to p t g).1));
      size = length_set fs n ∙ s.size;
      known = λ m g. known m (set_known fs n m g);
      range = λ m h. range_by m (or_cases (has m xs) (has m zs) (sym (has_append m xs zs) ∙ h)) (λ y. or_cases (nat_eq m n) (has m (entries ts)) y) (λ y. (to (has_get ts m y).0 m (has_get ts m y).1).0);
      there = s.there;
      count = omega (arith, ll, lz, le, un, total);
    }
  where
    known_by : (m : ℕ) (a b c : Bool) → (m ≡ n) ⊎ (slice_get fs m ≡ Some true) → (slice_get fs m ≡ Some true → (a || b) ≡ true) → (a || (b || (nat_eq m n || c))) ≡ true
    known_by m a b c (inl y) k = or_r a (b || (nat_eq m n || c)) (or_r b (nat_eq m n || c) (or_l (nat_eq m n) c (eq-eqb m n y)))
    known_by m a b c (inr y) k = known_more a b (nat_eq m n || c) (k y)

    range_in : (m : ℕ) {B : Type 0} → (nat_eq m n ≡ true) ⊎ B → (B → m < length q.blocks) → m < length q.blocks
    range_in m (inl y) g = subst (λ x. x < length q.blocks) (sym (eqb-true m n y)) (s.range n (has_last xs (Enter n)))
    range_in m (inr y) g = g y

    range_by : (m : ℕ) {A B : Type 0} → (has m xs ≡ true) ⊎ A → (A → (nat_eq m n ≡ true) ⊎ B) → (B → m < length q.blocks) → m < length q.blocks
    range_by m (inl y) k g = s.range m (has_front m xs (Enter n ∷ []) y)
    range_by m (inr y) k g = range_in m (k y) g

left_now : (q : FlatProc) (d : ℕ → ℕ) (xs : List Visit) (fs : List Bool) (ds : List ℕ) (n : ℕ) → Searching q d (xs ++ Leave n ∷ []) fs ds → Searching q d xs fs (n ∷ ds)
left_now q d xs fs ds n s =
    let turns : Turns (n ∷ ds) (Leave n) [] = λ t y. or_l (is_in t (n ∷ ds)) false (or_l (nat_eq t n) (is_in t ds) y) in
    let nil = append-nil xs in
    let ll = leaves_length xs (Leave n ∷ []) in
    let total = s.count in
    let top = owed_last q ds xs (Leave n ∷ []) s.owed in
    record {
      onward = ((λ place t e. no_more (is_in t ds) (top.0 place t e)), s.onward);
      every = λ m l. subst (λ ys. (is_in m (n ∷ ds) || has m ys) ≡ true) nil (turn_in (n ∷ ds) m xs (Leave n) [] turns
          (more_in (is_in m ds) (is_in m (n ∷ ds)) (has m (xs ++ Leave n ∷ [])) true (or_r (nat_eq m n) (is_in m ds)) (s.every m l)));
      owed = subst (Owed q (n ∷ ds)) nil (owed_turn q (n ∷ ds) xs (Leave n) [] turns tt (owed_more q ds n (xs ++ Leave n ∷ []) s.owed));
      ranked = ranked_front d xs (Leave n ∷ []) s.ranked;
      size = s.size;
      known = λ m f. known_left (is_in m ds) (is_in m (leaves xs)) (nat_eq m n) (ap (λ b. is_in m ds || b) (sym (leaves_in m xs (Leave n ∷ []))) ∙ s.known m f);
      range = λ m h. s.range m (has_front m xs (Leave n ∷ []) h);
      there = λ m h. there_by m (or_cases (nat_eq m n) (is_in m ds) h);
      count = omega (arith, ll, total);
    }
  where
    there_by : (m : ℕ) → (nat_eq m n ≡ true) ⊎ (is_in m ds ≡ true) → m < length q.blocks
    there_by m (inl y) = subst (λ x. x < length q.blocks) (sym (eqb-true m n y)) (s.range n (has_last xs (Leave n)))
    there_by m (inr y) = s.there m y

-- ---- steps

get_some : (fs : List Bool) (n : ℕ) → n < length fs → slice_get fs n ≡ None → ⊥
get_some [] n l e = omega (arith, l)
get_some (f ∷ fs) zero l e = cc
get_some (f ∷ fs) (suc n) l e = get_some fs n (omega (arith, l)) e

abbrev After : FlatProc → (ℕ → ℕ) → Search → Type 0
After q d e = Searching q d e.visits e.entered (reverse e.left)

abbrev work : FlatProc → List Visit → List Bool → ℕ
work q st fs = waiting q.blocks fs + length st

abbrev Opened : FlatProc → Search → ℕ → Search
Opened q s n = record { visits = s.visits ++ Leave n ∷ entries (targets_at (slice_get q.blocks n)); entered = slice_set s.entered n true; left = s.left }

entries_length : (ts : List ℕ) → length (entries ts) ≡ length ts
entries_length [] = refl
entries_length (t ∷ ts) = ap suc (entries_length ts)

enter_on : (q : FlatProc) (d : ℕ → ℕ) (s : Search) (n : ℕ) (o : Option Bool) → Down q d → Searching q d (s.visits ++ Enter n ∷ []) s.entered (reverse s.left) → slice_get s.entered n ≡ o →
    After q d (if is_new o then Opened q s n else s)
enter_on q d s n None down h e = absurd (get_some s.entered n (subst (λ l. n < l) (sym h.size) (h.range n (has_last s.visits (Enter n)))) e)
enter_on q d s n (Some true) down h e = skipped q d s.visits s.entered (reverse s.left) n h e
enter_on q d s n (Some false) down h e = opened q d s.visits s.entered (reverse s.left) n down h e

enter_less : (q : FlatProc) (s : Search) (n : ℕ) (o : Option Bool) → n < length q.blocks → slice_get s.entered n ≡ o →
    work q (if is_new o then Opened q s n else s).visits (if is_new o then Opened q s n else s).entered < work q (s.visits ++ Enter n ∷ []) s.entered
enter_less q s n None l e = let a = length-append s.visits (Enter n ∷ []) in omega (arith, a)
enter_less q s n (Some true) l e = let a = length-append s.visits (Enter n ∷ []) in omega (arith, a)
enter_less q s n (Some false) l e =
    let ts = targets_at (slice_get q.blocks n) in
    let a = length-append s.visits (Enter n ∷ []) in
    let b = length-append s.visits (Leave n ∷ entries ts) in
    let c = entries_length ts in
    let w = waiting_set q.blocks s.entered n l e in
    omega (arith, a, b, c, w)

pub search_on : (q : FlatProc) (d : ℕ → ℕ) (s e : Search) (v : Visit) (st : List Visit) → Down q d → st ≡ s.visits ++ v ∷ [] → Searching q d st s.entered (reverse s.left) → e ≡ stepped q s v →
    Searching q d e.visits e.entered (reverse e.left)
search_on q d s e (Enter n) st down top h is =
    subst (After q d) (sym is) (enter_on q d s n (slice_get s.entered n) down (subst (λ xs. Searching q d xs s.entered (reverse s.left)) top h) refl)
search_on q d s e (Leave n) st down top h is =
    subst (After q d) (sym is) (subst (λ ds. Searching q d s.visits s.entered ds) (sym (reverse-append s.left (n ∷ [])))
    (left_now q d s.visits s.entered (reverse s.left) n (subst (λ xs. Searching q d xs s.entered (reverse s.left)) top h)))

pub search_less : (q : FlatProc) (d : ℕ → ℕ) (s e : Search) (v : Visit) (st : List Visit) → st ≡ s.visits ++ v ∷ [] → Searching q d st s.entered (reverse s.left) → e ≡ stepped q s v →
    waiting q.blocks e.entered + length e.visits < waiting q.blocks s.entered + length st
search_less q d s e (Enter n) st top h is =
    let g : Searching q d (s.visits ++ Enter n ∷ []) s.entered (reverse s.left) = subst (λ xs. Searching q d xs s.entered (reverse s.left)) top h in
    subst (λ (z : Search). work q z.visits z.entered < work q st s.entered) (sym is)
    (subst (λ xs. work q (entered q s n).visits (entered q s n).entered < work q xs s.entered) (sym top) (enter_less q s n (slice_get s.entered n) (g.range n (has_last s.visits (Enter n))) refl))
search_less q d s e (Leave n) st top h is =
    let a = length-append s.visits (Leave n ∷ []) in
    let b = ap length top in
    subst (λ (z : Search). work q z.visits z.entered < work q st s.entered) (sym is) (omega (arith, a, b))

-- ---- the start and the end

snoc_by : (k n : ℕ) → numbers_from k (suc n) ≡ numbers_from k n ++ (k + n) ∷ []
snoc_by k zero = let e : k ≡ k + 0 = omega arith in ap (λ m. m ∷ []) e
snoc_by k (suc n) = let e : k + 1 + n ≡ k + suc n = omega arith in ap (λ ms. k ∷ ms) (snoc_by (k + 1) n ∙ ap (λ m. numbers_from (k + 1) n ++ m ∷ []) e)

entries_snoc : (ns : List ℕ) (n : ℕ) → entries (ns ++ n ∷ []) ≡ entries ns ++ Enter n ∷ []
entries_snoc [] n = refl
entries_snoc (m ∷ ns) n = ap (λ (vs : List Visit). Enter m ∷ vs) (entries_snoc ns n)

pub numbers_on : (i : ℕ) → numbers_from 0 (i + 1) ≡ numbers_from 0 i ++ i ∷ []
numbers_on i =
    let e : i + 1 ≡ suc i = omega arith in
    let z : 0 + i ≡ i = omega arith in
    ap (numbers_from 0) e ∙ snoc_by 0 i ∙ ap (λ m. numbers_from 0 i ++ m ∷ []) z

pub visits_on : (vs new : List Visit) (i n : ℕ) → vs ≡ entries (numbers_from 0 i) → n ≡ i → new ≡ vs ++ Enter n ∷ [] → new ≡ entries (numbers_from 0 (i + 1))
visits_on vs new i n a b c =
    c ∙ ap (λ (us : List Visit). us ++ Enter n ∷ []) a ∙ ap (λ m. entries (numbers_from 0 i) ++ Enter m ∷ []) b ∙ sym (entries_snoc (numbers_from 0 i) i) ∙ ap entries (sym (numbers_on i))

later : (k c n : ℕ) (x : Bool) → nat_eq n k ≡ x → k ≤ n → (k + 1 ≤ n → has n (entries (numbers_from (k + 1) c)) ≡ true) → (nat_eq n k || has n (entries (numbers_from (k + 1) c))) ≡ true
later k c n true e a f = or_l (nat_eq n k) (has n (entries (numbers_from (k + 1) c))) e
later k c n false e a f = or_r (nat_eq n k) (has n (entries (numbers_from (k + 1) c))) (f (more (λ y. differs (eq-eqb n k y) e)))
  where
    differs : nat_eq n k ≡ true → nat_eq n k ≡ false → ⊥
    differs p r = cc

    more : (n ≡ k → ⊥) → k + 1 ≤ n
    more g = omega (arith, a, g)

has_numbers : (k c n : ℕ) → k ≤ n → n < k + c → has n (entries (numbers_from k c)) ≡ true
has_numbers k zero n a b = absurd (omega (arith, a, b))
has_numbers k (suc c) n a b = later k c n (nat_eq n k) refl a (λ l. has_numbers (k + 1) c n l (omega (arith, b)))

numbers_within : (k c n : ℕ) → has n (entries (numbers_from k c)) ≡ true → n < k + c
numbers_within k zero n h = cc
numbers_within k (suc c) n h = by (or_cases (nat_eq n k) (has n (entries (numbers_from (k + 1) c))) h) (λ y. numbers_within (k + 1) c n y)
  where
    by : (nat_eq n k ≡ true) ⊎ (has n (entries (numbers_from (k + 1) c)) ≡ true) → (has n (entries (numbers_from (k + 1) c)) ≡ true → n < k + 1 + c) → n < k + suc c
    by (inl y) f = let e : n ≡ k = eqb-true n k y in omega (arith, e)
    by (inr y) f = let l : n < k + 1 + c = f y in omega (arith, l)

ranked_none : (d : ℕ → ℕ) (ts : List ℕ) → Ranked d (entries ts)
ranked_none d [] = tt
ranked_none d (t ∷ ts) = ranked_none d ts

none_set : (c n : ℕ) → slice_get (replicate c false) n ≡ Some true → ⊥
none_set zero n e = cc
none_set (suc c) zero e = cc
none_set (suc c) (suc n) e = none_set c n e

all_unset : (c : ℕ) → unset (replicate c false) ≡ c
all_unset zero = refl
all_unset (suc c) = ap suc (all_unset c)

all_size : (c : ℕ) → length (replicate c false) ≡ c
all_size zero = refl
all_size (suc c) = ap suc (all_size c)

pub search_begins : (q : FlatProc) (d : ℕ → ℕ) (s : Search) → s ≡ begun q → Searching q d s.visits s.entered (reverse s.left)
search_begins q d s is =
    let size = length q.blocks in
    let none = ap length (leaves_entries (numbers_from 0 size)) in
    let un = all_unset size in
    subst (After q d) (sym is) (record {
      onward = tt;
      every = λ n l. has_numbers 0 size n (omega arith) (omega (arith, l));
      owed = owed_entries q [] (numbers_from 0 size);
      ranked = ranked_none d (numbers_from 0 size);
      size = all_size size;
      known = λ n e. absurd (none_set size n e);
      range = λ n h. (let l : n < 0 + size = numbers_within 0 size n h in omega (arith, l));
      there = λ n h. cc;
      count = omega (arith, none, un);
    })

pub search_ends : (q : FlatProc) (d : ℕ → ℕ) (st : List Visit) (fs : List Bool) (ls ns : List ℕ) → Searching q d st fs (reverse ls) → st ≡ [] → ns ≡ reverse ls → IsOrderOf q ns
search_ends q d st fs ls ns s nil is =
    let e : Searching q d [] fs ns = subst (λ ds. Searching q d [] fs ds) (sym is) (subst (λ xs. Searching q d xs fs (reverse ls)) nil s) in
    record { onward = e.onward; every = λ n l. no_more (is_in n ns) (e.every n l); there = e.there }

pub search_small : (q : FlatProc) (d : ℕ → ℕ) (st : List Visit) (fs : List Bool) (ls ns : List ℕ) → Searching q d st fs (reverse ls) → ns ≡ reverse ls → length ns ≤ length q.blocks
search_small q d st fs ls ns s is =
    let e : Searching q d st fs ns = subst (λ ds. Searching q d st fs ds) (sym is) s in
    let c = e.count in
    omega (arith, c)
