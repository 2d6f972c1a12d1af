-- Maps whose pairs come one by one.
use Rattle.std.proofs.Common.{◌≡◌, ℕ, Bool, true, false, not, ◌&&◌, List, [], ◌∷◌, ◌++◌, ◌+◌, ◌<◌, length, get_or, drop, map, arith, sym, ◌∙◌, ap, refl}
use Rattle.std.specs.Prelude.{nat_lt, Option, None, Some, if◌then◌else◌}
use Rattle.std.proofs.lemmas.Bool.{and_parts, true≢false}
use Rattle.std.proofs.lemmas.Bool.Decides.{nat_tests}
use Rattle.std.proofs.lemmas.List.{append_assoc, append-nil}
use Rattle.hy_val.specs.Maps.{pair_fits, pairs_fit, first_above, ascends, is_map, put, stored}
use Rattle.hy_val.specs.Sorts.{has_scalar, rank, is_zero}
use Rattle.hy_val.specs.Table.{Table}
use Rattle.hy_val.specs.declared.atom.Atom.{Atom}
use Rattle.hy_val.specs.declared.sort.Scalar.{Scalar}
use Rattle.trace_text.proofs.Lines.{shown_drop}
use Rattle.trace_text.specs.Pairs.{above_last, with_pair}
use Rattle.trace_text.specs.ReadValues.{before_pairs, each_pair, map_with, pair_of, with_one}
use Rattle.trace_text.specs.Words.{and_then}

and_true : (a : Bool) → (a && true) ≡ a
and_true true = refl
and_true false = refl

and_assoc : (a b c : Bool) → (a && (b && c)) ≡ ((a && b) && c)
and_assoc true b c = refl
and_assoc false b c = refl

fits-append : (s t : Scalar) (xs ys : List (Atom × Atom)) → pairs_fit s t (xs ++ ys) ≡ (pairs_fit s t xs && pairs_fit s t ys)
fits-append s t [] ys = refl
fits-append s t (x ∷ xs) ys = ap (λ b. pair_fits s t x && b) (fits-append s t xs ys) ∙ and_assoc (pair_fits s t x) (pairs_fit s t xs) (pairs_fit s t ys)

ascends-push : (xs : List (Atom × Atom)) (p : Atom × Atom) → ascends (xs ++ p ∷ []) ≡ (ascends xs && above_last (rank p.0) xs)
ascends-push [] p = refl
ascends-push (x ∷ []) p = and_true (nat_lt (rank x.0) (rank p.0))
ascends-push (x ∷ y ∷ zs) p =
    ap (λ b. nat_lt (rank x.0) (rank y.0) && b) (ascends-push (y ∷ zs) p)
    ∙ and_assoc (nat_lt (rank x.0) (rank y.0)) (ascends (y ∷ zs)) (above_last (rank p.0) (y ∷ zs))

first-append : (n : ℕ) (xs ys : List (Atom × Atom)) → first_above n (xs ++ ys) ≡ true → first_above n xs ≡ true
first-append n [] ys h = refl
first-append n (x ∷ xs) ys h = h

ascends-append : (xs ys : List (Atom × Atom)) → ascends (xs ++ ys) ≡ true → ascends xs ≡ true
ascends-append [] ys h = refl
ascends-append (x ∷ xs) ys h =
    let parts = and_parts (first_above (rank x.0) (xs ++ ys)) (ascends (xs ++ ys)) h in
    rw (first-append (rank x.0) xs ys parts.0, ascends-append xs ys parts.1) refl

fits_front : (s t : Scalar) (xs ys : List (Atom × Atom)) → pairs_fit s t (xs ++ ys) ≡ true → pairs_fit s t xs ≡ true
fits_front s t xs ys h = (and_parts (pairs_fit s t xs) (pairs_fit s t ys) (sym (fits-append s t xs ys) ∙ h)).0

-- what is a map with further pairs is one without them
map_front : (s t : Scalar) (xs ys : List (Atom × Atom)) → is_map (record { index = s; elem = t; pairs = xs ++ ys }) ≡ true → is_map (record { index = s; elem = t; pairs = xs }) ≡ true
map_front s t xs ys h =
    let parts = and_parts (pairs_fit s t (xs ++ ys)) (ascends (xs ++ ys)) h in
    rw (fits_front s t xs ys parts.0, ascends-append xs ys parts.1) refl

-- A map with one more pair is one exactly where the pair fits and its index is above the last.
pub takes_is : (m : Table) (p : Atom × Atom) → is_map m ≡ true → (pair_fits m.index m.elem p && above_last (rank p.0) m.pairs) ≡ is_map (with_pair m p)
takes_is m p h =
    let parts = and_parts (pairs_fit m.index m.elem m.pairs) (ascends m.pairs) h in
    rw (fits-append m.index m.elem m.pairs (p ∷ []), ascends-push m.pairs p, parts.0, parts.1, and_true (pair_fits m.index m.elem p)) refl

not_true : (b : Bool) → (b ≡ true → ⊥) → b ≡ false
not_true true h = absurd (h refl)
not_true false h = refl

off : (b : Bool) → not b ≡ true → b ≡ false
off true h = cc
off false h = refl

not_zero : (s t : Scalar) (p : Atom × Atom) → pair_fits s t p ≡ true → is_zero p.1 ≡ false
not_zero s t p h = off (is_zero p.1) (and_parts (has_scalar p.0 s && has_scalar p.1 t) (not (is_zero p.1)) h).1

-- ---- a write behind the last pair

below : (l m n : ℕ) → nat_lt l m ≡ true → nat_lt m n ≡ true → nat_lt l n ≡ true
below l m n h k = grind (arith, nat_tests, h, k)

first_below_last : (n : ℕ) (xs : List (Atom × Atom)) (p : Atom × Atom) → first_above n (xs ++ p ∷ []) ≡ true → ascends (xs ++ p ∷ []) ≡ true → nat_lt n (rank p.0) ≡ true
first_below_last n [] p h a = h
first_below_last n (x ∷ xs) p h a =
    let parts = and_parts (first_above (rank x.0) (xs ++ p ∷ [])) (ascends (xs ++ p ∷ [])) a in
    below n (rank x.0) (rank p.0) h (first_below_last (rank x.0) xs p parts.0 parts.1)

put_behind : (xs : List (Atom × Atom)) (p : Atom × Atom) → ascends (xs ++ p ∷ []) ≡ true → is_zero p.1 ≡ false → put p.0 p.1 xs ≡ xs ++ p ∷ []
put_behind [] p a z = rw z refl
put_behind (x ∷ xs) p a z =
    let parts = and_parts (first_above (rank x.0) (xs ++ p ∷ [])) (ascends (xs ++ p ∷ [])) a in
    rw (first_below_last (rank x.0) xs p parts.0 parts.1) (ap (λ ps. x ∷ ps) (put_behind xs p parts.1 z))

-- ---- pairs one by one

above_push : (n : ℕ) (xs : List (Atom × Atom)) (last : Atom × Atom) → above_last n (xs ++ last ∷ []) ≡ nat_lt (rank last.0) n
above_push n [] last = refl
above_push n (x ∷ []) last = refl
above_push n (x ∷ y ∷ zs) last = above_push n (y ∷ zs) last

pub above_by_last : (n : ℕ) (xs rest : List (Atom × Atom)) (last : Atom × Atom) → xs ≡ rest ++ last ∷ [] → nat_lt (rank last.0) n ≡ above_last n xs
above_by_last n xs rest last e = sym (ap (above_last n) e ∙ above_push n rest last)

-- the write that puts a pair behind the others
pub stored_is : (m : Table) (p : Atom × Atom) → is_map (with_pair m p) ≡ true → stored m p.0 p.1 ≡ with_pair m p
stored_is m p h =
    let parts = and_parts (pairs_fit m.index m.elem (m.pairs ++ p ∷ [])) (ascends (m.pairs ++ p ∷ [])) h in
    let fits = and_parts (pairs_fit m.index m.elem m.pairs) (pair_fits m.index m.elem p && true) (sym (fits-append m.index m.elem m.pairs (p ∷ [])) ∙ parts.0) in
    let zero : is_zero p.1 ≡ false = not_zero m.index m.elem p (sym (and_true (pair_fits m.index m.elem p)) ∙ fits.1) in
    ap (λ (ps : List (Atom × Atom)). let t : Table = record { index = m.index; elem = m.elem; pairs = ps } in t) (put_behind m.pairs p parts.1 zero)

-- the map with each pair of the texts behind its own, where it is one
abbrev pub with_each : Table → List (List ℕ) → Option Table
with_each m texts = and_then (each_pair texts) (λ pairs. map_with m.index m.elem (m.pairs ++ pairs))

pub all_read : (m : Table) → is_map m ≡ true → with_each m [] ≡ Some m
all_read m h = ap (map_with m.index m.elem) (append-nil m.pairs) ∙ rw h refl

one_more : (m : Table) (p : Atom × Atom) (more : Option (List (Atom × Atom))) →
    and_then (before_pairs (Some p) more) (λ pairs. map_with m.index m.elem (m.pairs ++ pairs)) ≡ and_then more (λ pairs. map_with m.index m.elem ((m.pairs ++ p ∷ []) ++ pairs))
one_more m p None = refl
one_more m p (Some pairs) = ap (map_with m.index m.elem) (sym (append_assoc m.pairs (p ∷ []) pairs))

refuses : (t : Bool) (m : Table) → t ≡ false → (if t then Some m else None) ≡ None
refuses true m e = cc
refuses false m e = refl

no_more : (m : Table) (p : Atom × Atom) (more : Option (List (Atom × Atom))) → is_map (with_pair m p) ≡ false → and_then (before_pairs (Some p) more) (λ pairs. map_with m.index m.elem (m.pairs ++ pairs)) ≡ None
no_more m p None h = refl
no_more m p (Some pairs) h =
    refuses _ _ (not_true (is_map (record { index = m.index; elem = m.elem; pairs = m.pairs ++ p ∷ pairs })) (λ yes.
    true≢false (sym (map_front m.index m.elem (m.pairs ++ p ∷ []) pairs (ap (λ (ps : List (Atom × Atom)). is_map (record { index = m.index; elem = m.elem; pairs = ps })) (append_assoc m.pairs (p ∷ []) pairs) ∙ yes)) ∙ h)))

taken : (t : Bool) (m n : Table) → (if t then Some m else None) ≡ Some n → m ≡ n
taken true m n e = cc
taken false m n e = cc

left_out : (t : Bool) (m : Table) → (if t then Some m else None) ≡ None → t ≡ false
left_out true m e = cc
left_out false m e = refl

goes_on_by : (m n : Table) (pair : Option (Atom × Atom)) (more : Option (List (Atom × Atom))) → with_one m pair ≡ Some n →
    and_then (before_pairs pair more) (λ pairs. map_with m.index m.elem (m.pairs ++ pairs)) ≡ and_then more (λ pairs. map_with n.index n.elem (n.pairs ++ pairs))
goes_on_by m n None more e = cc
goes_on_by m n (Some p) more e =
    one_more m p more ∙ ap (λ (k : Table). and_then more (λ pairs. map_with k.index k.elem (k.pairs ++ pairs))) (taken (is_map (with_pair m p)) (with_pair m p) n e)

-- the map takes the first pair
pub goes_on : (m n : Table) (text : List ℕ) (texts : List (List ℕ)) → with_one m (pair_of text) ≡ Some n → with_each m (text ∷ texts) ≡ with_each n texts
goes_on m n text texts e = goes_on_by m n (pair_of text) (each_pair texts) e

stops_by : (m : Table) (pair : Option (Atom × Atom)) (more : Option (List (Atom × Atom))) → with_one m pair ≡ None →
    and_then (before_pairs pair more) (λ pairs. map_with m.index m.elem (m.pairs ++ pairs)) ≡ None
stops_by m None more e = refl
stops_by m (Some p) more e = no_more m p more (left_out (is_map (with_pair m p)) (with_pair m p) e)

-- the first pair is none that the map takes
pub stops : (m : Table) (text : List ℕ) (texts : List (List ℕ)) → with_one m (pair_of text) ≡ None → with_each m (text ∷ texts) ≡ None
stops m text texts e = stops_by m (pair_of text) (each_pair texts) e

-- ---- one pair

pub takes_none : (m : Table) (p : Atom × Atom) → is_map m ≡ true → pair_fits m.index m.elem p ≡ false → false ≡ is_map (with_pair m p)
takes_none m p h f = sym (ap (λ b. b && above_last (rank p.0) m.pairs) f) ∙ takes_is m p h

pub takes_above : (m : Table) (p : Atom × Atom) → is_map m ≡ true → pair_fits m.index m.elem p ≡ true → above_last (rank p.0) m.pairs ≡ is_map (with_pair m p)
takes_above m p h f = sym (ap (λ b. b && above_last (rank p.0) m.pairs) f) ∙ takes_is m p h

fits_last : (m : Table) (p : Atom × Atom) → is_map (with_pair m p) ≡ true → pair_fits m.index m.elem p ≡ true
fits_last m p h =
    let parts = and_parts (pairs_fit m.index m.elem (m.pairs ++ p ∷ [])) (ascends (m.pairs ++ p ∷ [])) h in
    let fits = and_parts (pairs_fit m.index m.elem m.pairs) (pair_fits m.index m.elem p && true) (sym (fits-append m.index m.elem m.pairs (p ∷ [])) ∙ parts.0) in
    sym (and_true (pair_fits m.index m.elem p)) ∙ fits.1

pub index_fits : (m : Table) (p : Atom × Atom) → is_map (with_pair m p) ≡ true → has_scalar p.0 m.index ≡ true
index_fits m p h =
    (and_parts (has_scalar p.0 m.index) (has_scalar p.1 m.elem) (and_parts (has_scalar p.0 m.index && has_scalar p.1 m.elem) (not (is_zero p.1)) (fits_last m p h)).0).0

pub entry_fits : (m : Table) (p : Atom × Atom) → is_map (with_pair m p) ≡ true → has_scalar p.1 m.elem ≡ true
entry_fits m p h =
    (and_parts (has_scalar p.0 m.index) (has_scalar p.1 m.elem) (and_parts (has_scalar p.0 m.index && has_scalar p.1 m.elem) (not (is_zero p.1)) (fits_last m p h)).0).1

kept_if : (t : Bool) (m : Table) → t ≡ true → (if t then Some m else None) ≡ Some m
kept_if true m e = refl
kept_if false m e = cc

pub added : (m n : Table) (pair : Option (Atom × Atom)) (p : Atom × Atom) → Some p ≡ pair → is_map (with_pair m p) ≡ true → n ≡ stored m p.0 p.1 → with_one m pair ≡ Some n
added m n pair p e h s =
    ap (with_one m) (sym e) ∙ kept_if (is_map (with_pair m p)) (with_pair m p) h ∙ ap (λ (t : Table). let o : Option Table = Some t in o) (sym (s ∙ stored_is m p h))

-- ---- the pair at an index

pub stop_here : {A : Type 0} (show : A → List ℕ) (xs : List A) (i : ℕ) (d : A) (m n : Table) (took : Bool) (whole : Option Table) → i < length xs
    → with_one m (pair_of (show (get_or xs i d))) ≡ (if took then Some n else None) → took ≡ false → with_each m (drop i (map show xs)) ≡ whole → None ≡ whole
stop_here show xs i d m n took whole l e f h =
    let none : with_one m (pair_of (show (get_or xs i d))) ≡ None = e ∙ refuses took n f in
    sym (stops m (show (get_or xs i d)) (drop (i + 1) (map show xs)) none) ∙ ap (with_each m) (sym (shown_drop show xs i d l)) ∙ h

pub go_here : {A : Type 0} (show : A → List ℕ) (xs : List A) (i : ℕ) (d : A) (m n : Table) (took : Bool) (whole : Option Table) → i < length xs
    → with_one m (pair_of (show (get_or xs i d))) ≡ (if took then Some n else None) → took ≡ true → with_each m (drop i (map show xs)) ≡ whole → with_each n (drop (i + 1) (map show xs)) ≡ whole
go_here show xs i d m n took whole l e f h =
    let some : with_one m (pair_of (show (get_or xs i d))) ≡ Some n = e ∙ kept_if took n f in
    sym (goes_on m n (show (get_or xs i d)) (drop (i + 1) (map show xs)) some) ∙ ap (with_each m) (sym (shown_drop show xs i d l)) ∙ h
