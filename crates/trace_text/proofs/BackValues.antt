-- Values that are written are read back.
use Rattle.std.proofs.Common.{◌≡◌, ℕ, ◌-◌, ◌<◌, ◌≤◌, ◌^◌, Bool, true, false, ◌&&◌, List, [], ◌∷◌, ◌++◌, length, map, arith, refl, sym, ◌∙◌, ap, subst, append_assoc, length-append}
use Rattle.std.specs.Prelude.{◌==◌, ◌||◌, not, nat_eq, nat_le, nat_lt, decimal, None, Some, option_map, codes}
use Rattle.std.specs.Char.{is_ascii_digit}
use Rattle.std.specs.List.{list_all}
use Rattle.std.specs.Option.{option_or}
use Rattle.std.specs.Str.{bytes_eq}
use Rattle.std.proofs.lemmas.Bool.{and_parts, ne_eqb, eqb-true}
use Rattle.std.proofs.lemmas.Bool.Decides.{nat_tests}
use Rattle.std.proofs.lemmas.List.{append-nil}
use Rattle.std.proofs.Math.Pow.{pow_mono}
use Rattle.hy_val.specs.Maps.{is_map, pair_fits, pairs_fit, ascends}
use Rattle.hy_val.specs.Sorts.{has_scalar, is_scalar, same_scalar, is_zero}
use Rattle.hy_val.specs.Table.{Table}
use Rattle.hy_val.specs.NodeSorts.{is_sort}
use Rattle.hy_val.specs.Values.{has_sort}
use Rattle.hy_val.specs.declared.atom.Atom.{Atom}
use Rattle.hy_val.specs.declared.atom.AtomKind.TheVariants.{Bool as BoolAtom, Bv as BvAtom}
use Rattle.hy_val.specs.declared.sort.Scalar.{Scalar}
use Rattle.hy_val.specs.declared.sort.ScalarKind.TheVariants.{Bool as BoolSort, Bv as BvSort}
use Rattle.hy_val.specs.declared.sort.Sort.{Sort}
use Rattle.hy_val.specs.declared.sort.SortKind.TheVariants.{Scalar as ScalarSort, Map as MapSort}
use Rattle.hy_val.specs.declared.value.Value.{Value}
use Rattle.hy_val.specs.declared.value.Value.TheVariants.{Atom as AtomValue, Map as MapValue}
use Rattle.trace_text.specs.ReadValues.{around_bv, width_of, bits_of, atom_of, scalar_of, pair_of, each_pair, pairs_of, map_parts, map_of, value_of}
use Rattle.trace_text.specs.Values.{scalar_text, atom_text, pair_text, more_pairs_text, pairs_text, map_text, value_text}
use Rattle.trace_text.specs.Words.{halves, parts}
use Rattle.trace_text.proofs.Bytes.{all-both, all-wider, Free, free, free-both, cons_free, none_free, one_part, first_part, two_halves, no_halves, decimal_all, decimal_some, number_read}

-- ---- which bytes stand in the texts of values

-- a digit or a small letter
abbrev pub is_word : ℕ → Bool
is_word b = is_ascii_digit b || (nat_le 97 b && nat_le b 122)

digit_is_word : (b : ℕ) → is_ascii_digit b ≡ true → is_word b ≡ true
digit_is_word b h = rw h refl

words : (n : ℕ) → n < 2 ^ 64 → list_all is_word (decimal n) ≡ true
words n h = all-wider is_ascii_digit is_word digit_is_word (decimal n) (decimal_all n h)

-- a sort that has values

-- the parts of a bit vector of a sort
record Bits (width bits : ℕ) : Type 0 where
  positive : 0 < width
  narrow : width ≤ 64
  fits : bits < 2 ^ width
  fits_all : bits < 2 ^ 64

bits : (w n : ℕ) → has_scalar (BvAtom (record { width = w; bits = n })) (BvSort w) ≡ true → Bits w n
bits w n h =
    let (k, fit) = and_parts (nat_eq w w && (nat_lt 0 w && nat_le w 64)) (nat_lt n (2 ^ w)) h in
    let (same, sort) = and_parts (nat_eq w w) (nat_lt 0 w && nat_le w 64) k in
    let (low, high) = and_parts (nat_lt 0 w) (nat_le w 64) sort in
    let narrow : w ≤ 64 = grind (arith, nat_tests, high) in
    let most : 2 ^ w ≤ 2 ^ 64 = pow_mono narrow in
    let below : n < 2 ^ w = grind (arith, nat_tests, fit) in
    record { positive = grind (arith, nat_tests, low); narrow = narrow; fits = below; fits_all = omega arith }

digits_free : (n : ℕ) → n < 2 ^ 64 → Free 98 (decimal n)
digits_free n h = free is_ascii_digit 98 refl (decimal n) (decimal_all n h)

-- what stands around `bv`
around_is : (front digits : List ℕ) → Free 98 front → Free 98 digits → around_bv (front ++ 98 ∷ 118 ∷ digits) ≡ Some (front, digits)
around_is front digits h k = rw (two_halves 98 front (118 ∷ digits) h (cons_free 98 118 digits refl k)) refl

width_read : (w : ℕ) → 0 < w → w ≤ 64 → width_of (decimal w) ≡ Some w
width_read w low high =
    let positive : nat_lt 0 w ≡ true = grind (arith, nat_tests) in
    rw (number_read 64 w (omega arith) high, positive) refl

-- ---- sorts

sort_words : (w : ℕ) → (nat_lt 0 w && nat_le w 64) ≡ true → (0 < w) × (w ≤ 64)
sort_words w h = let (low, high) = and_parts (nat_lt 0 w) (nat_le w 64) h in (grind (arith, nat_tests, low), grind (arith, nat_tests, high))

scalar_read : (s : Scalar) → is_scalar s ≡ true → scalar_of (scalar_text s) ≡ Some s
scalar_read BoolSort h = refl
scalar_read (BvSort w) h =
    let (low, high) = sort_words w h in
    rw (around_is [] (decimal w) (none_free 98) (digits_free w (omega arith)), width_read w low high) refl

scalar_words : (s : Scalar) → is_scalar s ≡ true → list_all is_word (scalar_text s) ≡ true
scalar_words BoolSort h = refl
scalar_words (BvSort w) h = let (low, high) = sort_words w h in words w (omega arith)

-- a sort begins with its only `b`
record BeginsOnce (s : Scalar) : Type 0 where
  more : List ℕ
  is : scalar_text s ≡ 98 ∷ more
  once : Free 98 more

begins_once : (s : Scalar) → is_scalar s ≡ true → BeginsOnce s
begins_once BoolSort h = record { more = codes "ool"; is = refl; once = free (λ b. nat_le 99 b) 98 refl (codes "ool") refl }
begins_once (BvSort w) h =
    let (low, high) = sort_words w h in
    record { more = 118 ∷ decimal w; is = refl; once = cons_free 98 118 (decimal w) refl (digits_free w (omega arith)) }

-- ---- atoms

bits_text : (w n : ℕ) → atom_text (BvAtom (record { width = w; bits = n })) ≡ decimal n ++ 98 ∷ 118 ∷ decimal w
bits_text w n = append_assoc (decimal n) (codes "bv") (decimal w)

bits_read : (w n : ℕ) → Bits w n → bits_of (decimal n ++ 98 ∷ 118 ∷ decimal w) ≡ Some (BvAtom (record { width = w; bits = n }))
bits_read w n b =
    let narrow = b.narrow in
    let fits = b.fits in
    rw (around_is (decimal n) (decimal w) (digits_free n b.fits_all) (digits_free w (omega arith)), width_read w b.positive b.narrow, number_read (2 ^ w - 1) n b.fits_all (omega arith)) refl

-- a text that begins with a digit
no_word : (first : ℕ) (word ds more : List ℕ) → is_ascii_digit first ≡ false → 0 < length ds → list_all is_ascii_digit ds ≡ true → bytes_eq (ds ++ more) (first ∷ word) ≡ false
no_word first word [] more isnt some h = absurd (omega arith)
no_word first word (d ∷ ds) more isnt some h = at (d == first) refl
  where
    at : (b : Bool) → (d == first) ≡ b → bytes_eq (d ∷ ds ++ more) (first ∷ word) ≡ false
    at false e = rw e refl
    at true e =
        let same : d ≡ first = eqb-true d first e in
        let yes = (and_parts (is_ascii_digit d) (list_all is_ascii_digit ds) h).0 in
        let clash : true ≡ false = sym yes ∙ (ap is_ascii_digit same ∙ isnt) in
        cc

of_sort : (w u n : ℕ) → has_scalar (BvAtom (record { width = u; bits = n })) (BvSort w) ≡ true → Bits u n
of_sort w u n h =
    let (k, fit) = and_parts (nat_eq u w && (nat_lt 0 w && nat_le w 64)) (nat_lt n (2 ^ w)) h in
    let (same, sort) = and_parts (nat_eq u w) (nat_lt 0 w && nat_le w 64) k in
    let is : u ≡ w = grind (arith, nat_tests, same) in
    bits u n (rw (sym is) at h)

atom_read : (a : Atom) (s : Scalar) → has_scalar a s ≡ true → atom_of (atom_text a) ≡ Some a
atom_read (BoolAtom true) s h = refl
atom_read (BoolAtom false) s h = refl
atom_read (BvAtom v) BoolSort h = cc
atom_read (BvAtom v) (BvSort w) h = subst (λ text. atom_of text ≡ Some (BvAtom v)) (sym (bits_text v.width v.bits)) read
  where
    read : atom_of (decimal v.bits ++ 98 ∷ 118 ∷ decimal v.width) ≡ Some (BvAtom v)
    read =
        let b = of_sort w v.width v.bits h in
        let some = decimal_some v.bits b.fits_all in
        let all = decimal_all v.bits b.fits_all in
        rw (no_word 116 (codes "rue") (decimal v.bits) (98 ∷ 118 ∷ decimal v.width) refl some all, no_word 102 (codes "alse") (decimal v.bits) (98 ∷ 118 ∷ decimal v.width) refl some all) (bits_read v.width v.bits b)

atom_words : (a : Atom) (s : Scalar) → has_scalar a s ≡ true → list_all is_word (atom_text a) ≡ true
atom_words (BoolAtom true) s h = refl
atom_words (BoolAtom false) s h = refl
atom_words (BvAtom v) BoolSort h = cc
atom_words (BvAtom v) (BvSort w) h =
    let b = of_sort w v.width v.bits h in
    let narrow = b.narrow in
    all-both is_word (decimal v.bits ++ codes "bv") (decimal v.width) (all-both is_word (decimal v.bits) (codes "bv") (words v.bits b.fits_all) refl) (words v.width (omega arith))

-- ---- pairs

-- a byte of atoms, or a colon
abbrev is_in_pair : ℕ → Bool
is_in_pair b = is_word b || b == 58

-- or a comma
abbrev is_in_pairs : ℕ → Bool
is_in_pairs b = is_in_pair b || b == 44

word_in_pair : (b : ℕ) → is_word b ≡ true → is_in_pair b ≡ true
word_in_pair b h = rw h refl

in_pair_in_pairs : (b : ℕ) → is_in_pair b ≡ true → is_in_pairs b ≡ true
in_pair_in_pairs b h = rw h refl

-- the sorts of the parts of a pair
record HasSorts (index elem : Scalar) (p : Atom × Atom) : Type 0 where
  first : has_scalar p.0 index ≡ true
  second : has_scalar p.1 elem ≡ true

has_sorts : (index elem : Scalar) (p : Atom × Atom) → pair_fits index elem p ≡ true → HasSorts index elem p
has_sorts index elem p h =
    let (both, other) = and_parts (has_scalar p.0 index && has_scalar p.1 elem) (not (is_zero p.1)) h in
    let (first, second) = and_parts (has_scalar p.0 index) (has_scalar p.1 elem) both in
    record { first = first; second = second }

pair_is : (p : Atom × Atom) → pair_text p ≡ atom_text p.0 ++ 58 ∷ atom_text p.1
pair_is p = append_assoc (atom_text p.0) (codes ":") (atom_text p.1)

pair_read : (index elem : Scalar) (p : Atom × Atom) → HasSorts index elem p → pair_of (pair_text p) ≡ Some p
pair_read index elem p h =
    let first = free is_word 58 refl (atom_text p.0) (atom_words p.0 index h.first) in
    let second = free is_word 58 refl (atom_text p.1) (atom_words p.1 elem h.second) in
    rw (pair_is p, two_halves 58 (atom_text p.0) (atom_text p.1) first second, atom_read p.0 index h.first, atom_read p.1 elem h.second) refl

pair_words : (index elem : Scalar) (p : Atom × Atom) → HasSorts index elem p → list_all is_in_pair (pair_text p) ≡ true
pair_words index elem p h =
    all-both is_in_pair (atom_text p.0 ++ codes ":") (atom_text p.1)
    (all-both is_in_pair (atom_text p.0) (codes ":") (all-wider is_word is_in_pair word_in_pair (atom_text p.0) (atom_words p.0 index h.first)) refl)
    (all-wider is_word is_in_pair word_in_pair (atom_text p.1) (atom_words p.1 elem h.second))

pairs_words : (index elem : Scalar) (ps : List (Atom × Atom)) → pairs_fit index elem ps ≡ true → list_all is_in_pairs (more_pairs_text ps) ≡ true
pairs_words index elem [] h = refl
pairs_words index elem (p ∷ ps) h =
    let (fit, more) = and_parts (pair_fits index elem p) (pairs_fit index elem ps) h in
    all-both is_in_pairs (codes "," ++ pair_text p) (more_pairs_text ps)
    (all-both is_in_pairs (codes ",") (pair_text p) refl (all-wider is_in_pair is_in_pairs in_pair_in_pairs (pair_text p) (pair_words index elem p (has_sorts index elem p fit))))
    (pairs_words index elem ps more)

all_pairs_words : (index elem : Scalar) (ps : List (Atom × Atom)) → pairs_fit index elem ps ≡ true → list_all is_in_pairs (pairs_text ps) ≡ true
all_pairs_words index elem [] h = refl
all_pairs_words index elem (p ∷ ps) h =
    let (fit, more) = and_parts (pair_fits index elem p) (pairs_fit index elem ps) h in
    all-both is_in_pairs (pair_text p) (more_pairs_text ps)
    (all-wider is_in_pair is_in_pairs in_pair_in_pairs (pair_text p) (pair_words index elem p (has_sorts index elem p fit)))
    (pairs_words index elem ps more)

-- pairs are cut at their commas
pairs_cut : (index elem : Scalar) (p : Atom × Atom) (ps : List (Atom × Atom)) → pairs_fit index elem (p ∷ ps) ≡ true → parts 44 (pair_text p ++ more_pairs_text ps) ≡ map pair_text (p ∷ ps)
pairs_cut index elem p [] h =
    let fit = (and_parts (pair_fits index elem p) true h).0 in
    rw (append-nil (pair_text p)) (one_part 44 (pair_text p) (free is_in_pair 44 refl (pair_text p) (pair_words index elem p (has_sorts index elem p fit))))
pairs_cut index elem p (q ∷ qs) h =
    let (fit, more) = and_parts (pair_fits index elem p) (pairs_fit index elem (q ∷ qs)) h in
    first_part 44 (pair_text p) (pair_text q ++ more_pairs_text qs) (free is_in_pair 44 refl (pair_text p) (pair_words index elem p (has_sorts index elem p fit)))
    ∙ ap (λ ts. pair_text p ∷ ts) (pairs_cut index elem q qs more)

each_read : (index elem : Scalar) (ps : List (Atom × Atom)) → pairs_fit index elem ps ≡ true → each_pair (map pair_text ps) ≡ Some ps
each_read index elem [] h = refl
each_read index elem (p ∷ ps) h =
    let (fit, more) = and_parts (pair_fits index elem p) (pairs_fit index elem ps) h in
    rw (pair_read index elem p (has_sorts index elem p fit), each_read index elem ps more) refl

not_empty : (text front back : List ℕ) (b : ℕ) → text ≡ front ++ b ∷ back → (length text == 0) ≡ false
not_empty text front back b e = ne_eqb (length text) 0 (λ z. omega (arith, ap length e, length-append front (b ∷ back)))

pairs_read : (index elem : Scalar) (ps : List (Atom × Atom)) → pairs_fit index elem ps ≡ true → pairs_of (pairs_text ps) ≡ Some ps
pairs_read index elem [] h = refl
pairs_read index elem (p ∷ ps) h =
    let is : pair_text p ++ more_pairs_text ps ≡ atom_text p.0 ++ 58 ∷ (atom_text p.1 ++ more_pairs_text ps) = ap (λ t. t ++ more_pairs_text ps) (pair_is p) ∙ append_assoc (atom_text p.0) (58 ∷ atom_text p.1) (more_pairs_text ps) in
    rw (not_empty (pair_text p ++ more_pairs_text ps) (atom_text p.0) (atom_text p.1 ++ more_pairs_text ps) 58 is, pairs_cut index elem p ps h, each_read index elem (p ∷ ps) h) refl

-- ---- maps

regroup : (i e p : List ℕ) → ((((((91 ∷ []) ++ i) ++ 93 ∷ []) ++ e) ++ 123 ∷ []) ++ p) ++ 125 ∷ [] ≡ 91 ∷ (i ++ 93 ∷ (e ++ 123 ∷ (p ++ 125 ∷ [])))
regroup i e p = simp append_assoc

-- the sorts are sorts, and the pairs are those of a map
record IsWhole (m : Table) : Type 0 where
  index : is_scalar m.index ≡ true
  elem : is_scalar m.elem ≡ true
  pairs : pairs_fit m.index m.elem m.pairs ≡ true
  map : is_map m ≡ true

abbrev spread : List ℕ → List ℕ → List ℕ → List ℕ
spread i e p = 91 ∷ (i ++ 93 ∷ (e ++ 123 ∷ (p ++ 125 ∷ [])))

map_is : (m : Table) → map_text m ≡ spread (scalar_text m.index) (scalar_text m.elem) (pairs_text m.pairs)
map_is m = regroup (scalar_text m.index) (scalar_text m.elem) (pairs_text m.pairs)

parts_read : (i e p : List ℕ) → list_all is_word i ≡ true → list_all is_word e ≡ true → list_all is_in_pairs p ≡ true → map_parts (spread i e p) ≡ Some (i, e, p)
parts_read i e p hi he hp =
    let end : (byte : ℕ) → (125 == byte) ≡ false → is_in_pairs byte ≡ false → Free byte (p ++ 125 ∷ []) =
    λ byte k l. free-both byte p (125 ∷ []) (free is_in_pairs byte l p hp) (cons_free byte 125 [] k (none_free byte)) in
    let behind : Free 93 (e ++ 123 ∷ (p ++ 125 ∷ [])) =
    free-both 93 e (123 ∷ (p ++ 125 ∷ [])) (free is_word 93 refl e he) (cons_free 93 123 (p ++ 125 ∷ []) refl (end 93 refl refl)) in
    rw (
      two_halves 93 i (e ++ 123 ∷ (p ++ 125 ∷ [])) (free is_word 93 refl i hi) behind,
      two_halves 123 e (p ++ 125 ∷ []) (free is_word 123 refl e he) (end 123 refl refl),
      two_halves 125 p [] (free is_in_pairs 125 refl p hp) (none_free 125),
    ) refl

map_read : (m : Table) → IsWhole m → map_of (map_text m) ≡ Some m
map_read m w =
    rw (
      map_is m,
      parts_read (scalar_text m.index) (scalar_text m.elem) (pairs_text m.pairs) (scalar_words m.index w.index) (scalar_words m.elem w.elem) (all_pairs_words m.index m.elem m.pairs w.pairs),
      scalar_read m.index w.index,
      scalar_read m.elem w.elem,
      pairs_read m.index m.elem m.pairs w.pairs,
      w.map,
    ) refl

-- two sorts have two `b`
twice : (i e p : List ℕ) → Free 98 i → halves 98 (spread (98 ∷ i) (98 ∷ e) p) ≡ None
twice i e p h =
    let is : i ++ 93 ∷ 98 ∷ (e ++ 123 ∷ (p ++ 125 ∷ [])) ≡ (i ++ 93 ∷ []) ++ 98 ∷ (e ++ 123 ∷ (p ++ 125 ∷ [])) = sym (append_assoc i (93 ∷ []) (98 ∷ (e ++ 123 ∷ (p ++ 125 ∷ [])))) in
    ap (λ t. halves 98 (91 ∷ 98 ∷ t)) is
    ∙ no_halves 98 (91 ∷ []) (i ++ 93 ∷ []) (e ++ 123 ∷ (p ++ 125 ∷ [])) (cons_free 98 91 [] refl (none_free 98)) (free-both 98 i (93 ∷ []) h (cons_free 98 93 [] refl (none_free 98)))

no_bits : (text : List ℕ) → halves 98 text ≡ None → bits_of text ≡ None
no_bits text h = rw h refl

map_is_no_atom : (m : Table) → IsWhole m → atom_of (map_text m) ≡ None
map_is_no_atom m w =
    let i = begins_once m.index w.index in
    let e = begins_once m.elem w.elem in
    let p = pairs_text m.pairs in
    let none : bits_of (spread (98 ∷ i.more) (98 ∷ e.more) p) ≡ None = no_bits (spread (98 ∷ i.more) (98 ∷ e.more) p) (twice i.more e.more p i.once) in
    subst (λ (t : List ℕ). atom_of t ≡ None) (sym (map_is m ∙ ap (λ (t : List ℕ). spread t (scalar_text m.elem) p) i.is ∙ ap (λ (t : List ℕ). spread (98 ∷ i.more) t p) e.is)) none

-- ---- the bytes of values

-- a byte of pairs, a bracket or a brace
abbrev pub is_in_value : ℕ → Bool
is_in_value b = is_in_pairs b || (b == 91 || b == 93 || b == 123 || b == 125)

word_in_value : (b : ℕ) → is_word b ≡ true → is_in_value b ≡ true
word_in_value b h = rw h refl

pairs_in_value : (b : ℕ) → is_in_pairs b ≡ true → is_in_value b ≡ true
pairs_in_value b h = rw h refl

spread_bytes : (i e p : List ℕ) → list_all is_word i ≡ true → list_all is_word e ≡ true → list_all is_in_pairs p ≡ true → list_all is_in_value (spread i e p) ≡ true
spread_bytes i e p hi he hp =
    all-both is_in_value i (93 ∷ (e ++ 123 ∷ (p ++ 125 ∷ []))) (all-wider is_word is_in_value word_in_value i hi)
    (all-both is_in_value e (123 ∷ (p ++ 125 ∷ [])) (all-wider is_word is_in_value word_in_value e he)
    (all-both is_in_value p (125 ∷ []) (all-wider is_in_pairs is_in_value pairs_in_value p hp) refl))

map_bytes : (m : Table) → IsWhole m → list_all is_in_value (map_text m) ≡ true
map_bytes m w =
    subst (λ (t : List ℕ). list_all is_in_value t ≡ true) (sym (map_is m))
    (spread_bytes (scalar_text m.index) (scalar_text m.elem) (pairs_text m.pairs) (scalar_words m.index w.index) (scalar_words m.elem w.elem) (all_pairs_words m.index m.elem m.pairs w.pairs))

-- ---- values

same_is_scalar : (a b : Scalar) → same_scalar a b ≡ true → is_scalar b ≡ true → is_scalar a ≡ true
same_is_scalar BoolSort b h k = refl
same_is_scalar (BvSort v) BoolSort h k = cc
same_is_scalar (BvSort v) (BvSort w) h k = let is : v ≡ w = grind (arith, nat_tests, h) in rw is k

whole : (m : Table) (index elem : Scalar) → (is_scalar index && is_scalar elem) ≡ true → (same_scalar m.index index && same_scalar m.elem elem && is_map m) ≡ true → IsWhole m
whole m index elem k h =
    let (both, map) = and_parts (same_scalar m.index index && same_scalar m.elem elem) (is_map m) h in
    let (first, second) = and_parts (same_scalar m.index index) (same_scalar m.elem elem) both in
    let (one, other) = and_parts (is_scalar index) (is_scalar elem) k in
    record {
      index = same_is_scalar m.index index first one;
      elem = same_is_scalar m.elem elem second other;
      pairs = (and_parts (pairs_fit m.index m.elem m.pairs) (ascends m.pairs) map).0;
      map = map;
    }

pub value_read : (v : Value) (s : Sort) → is_sort s ≡ true → has_sort v s ≡ true → value_of (value_text v) ≡ Some v
value_read (AtomValue a) (ScalarSort s) k h = rw (atom_read a s h) refl
value_read (AtomValue a) (MapSort index elem) k h = cc
value_read (MapValue m) (ScalarSort s) k h = cc
value_read (MapValue m) (MapSort index elem) k h =
    let w = whole m index elem k h in
    ap (λ o. option_or (option_map (λ a. AtomValue a) o) (option_map (λ m. MapValue m) (map_of (map_text m)))) (map_is_no_atom m w) ∙ ap (option_map (λ m. MapValue m)) (map_read m w)

pub value_bytes : (v : Value) (s : Sort) → is_sort s ≡ true → has_sort v s ≡ true → list_all is_in_value (value_text v) ≡ true
value_bytes (AtomValue a) (ScalarSort s) k h = all-wider is_word is_in_value word_in_value (atom_text a) (atom_words a s h)
value_bytes (AtomValue a) (MapSort index elem) k h = cc
value_bytes (MapValue m) (ScalarSort s) k h = cc
value_bytes (MapValue m) (MapSort index elem) k h = map_bytes m (whole m index elem k h)
