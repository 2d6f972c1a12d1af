-- Constants that are looked for among those seen before, against constants that are compared pair by pair.
use Rattle.std.proofs.Common.{◌≡◌, ℕ, ◌+◌, Bool, true, false, not, ◌&&◌, ◌||◌, List, [], ◌∷◌, length, ◌<◌, ◌-◌, slice_index, take, drop, refl, sym, ap, ◌∙◌, subst, arith, if◌then◌else◌}
use Rattle.std.proofs.lemmas.Cmp.{nat_cmp_total, tied_itself}
use Rattle.std.proofs.lemmas.List.{drop-drop, length-drop}
use Rattle.std.proofs.Math.Seq.{take-length}
use Rattle.std.proofs.lemmas.Map.Lookups.{exact_unsigned, exact_pairs}
use Rattle.std.specs.BTreeSet.{BTreeSet, contains, Updates}
use Rattle.std.specs.BTreeMap.{is_at}
use Rattle.std.specs.List.{list_all}
use Rattle.std.specs.Ordering.{nat_cmp}
use Rattle.std.specs.declared.cmp.Ordering.{Ordering}
use Rattle.std.specs.declared.cmp.Ordering.TheVariants.{Less, Equal, Greater}
use Rattle.hy_val.specs.Stores.{same_atom, same_value, all_differ}
use Rattle.hy_val.specs.Values.{at}
use Rattle.hy_val.specs.declared.atom.Atom.{Atom}
use Rattle.hy_val.specs.declared.atom.AtomKind.TheVariants.{Bool as BoolAtom, Bv as BvAtom}
use Rattle.hy_val.specs.declared.value.Value.{Value}
use Rattle.hy_val.specs.declared.value.Value.TheVariants.{Atom as AtomValue, Map as MapValue}
use Rattle.src_run.specs.Uniques.{key_of, pair_cmp, was_seen, Adds, IsMap, is_unseen, all_left_differ, Steps}
use Rattle.src_run.proofs.Takes.{atom_self, atom_is}

-- ---- pairs of numbers

equal_is : (o : Ordering) → is_at (λ (n : ℕ). o) 0 ≡ true → o ≡ Equal
equal_is Less h = cc
equal_is Equal h = refl
equal_is Greater h = cc

numbers_differ : (n : ℕ) → 0 ≡ n + 1 → ⊥
numbers_differ n e = omega arith

one_differs : (m n : ℕ) → m ≡ 0 → n ≡ 1 → m ≡ n → ⊥
one_differs m n p q e = omega arith

key_is : (a b : Atom) → key_of a ≡ key_of b → a ≡ b
key_is (BoolAtom true) (BoolAtom true) e = refl
key_is (BoolAtom true) (BoolAtom false) e = absurd (one_differs (key_of (BoolAtom false)).1 (key_of (BoolAtom true)).1 refl refl (sym (ap (λ (p : ℕ × ℕ). p.1) e)))
key_is (BoolAtom false) (BoolAtom true) e = absurd (one_differs (key_of (BoolAtom false)).1 (key_of (BoolAtom true)).1 refl refl (ap (λ (p : ℕ × ℕ). p.1) e))
key_is (BoolAtom false) (BoolAtom false) e = refl
key_is (BoolAtom a) (BvAtom b) e = absurd (numbers_differ b.width (ap (λ (p : ℕ × ℕ). p.0) e))
key_is (BvAtom a) (BoolAtom b) e = absurd (numbers_differ a.width (sym (ap (λ (p : ℕ × ℕ). p.0) e)))
key_is (BvAtom a) (BvAtom b) e =
    let more : a.width + 1 ≡ b.width + 1 = ap (λ (p : ℕ × ℕ). p.0) e in
    let width : a.width ≡ b.width = omega arith in
    let bits : a.bits ≡ b.bits = ap (λ (p : ℕ × ℕ). p.1) e in
    ap (λ w. BvAtom (record { width = w; bits = a.bits })) width ∙ ap (λ n. BvAtom (record { width = b.width; bits = n })) bits

same_bools : (p q : Bool) → (p ≡ true → q ≡ true) → (q ≡ true → p ≡ true) → p ≡ q
same_bools true q to from = sym (to refl)
same_bools false true to from = from refl
same_bools false false to from = refl

key_tells : (a b : Atom) → is_at (pair_cmp (key_of a)) (key_of b) ≡ same_atom a b
key_tells a b = same_bools (is_at (pair_cmp (key_of a)) (key_of b)) (same_atom a b) to from
  where
    to : is_at (pair_cmp (key_of a)) (key_of b) ≡ true → same_atom a b ≡ true
    to h =
        let tied = equal_is (pair_cmp (key_of a) (key_of b)) h in
        let same = key_is a b (exact_pairs nat_cmp nat_cmp exact_unsigned exact_unsigned (key_of a) (key_of b) tied) in
        subst (λ c. same_atom a c ≡ true) same (atom_self a)

    itself : pair_cmp (key_of a) (key_of a) ≡ Equal
    itself = rw (tied_itself nat_cmp_total (key_of a).0, tied_itself nat_cmp_total (key_of a).1) refl

    from : same_atom a b ≡ true → is_at (pair_cmp (key_of a)) (key_of b) ≡ true
    from h = subst (λ c. is_at (pair_cmp (key_of a)) (key_of c) ≡ true) (atom_is a b h) (rw itself refl)

-- what the set has behind an insertion
pub adds : (atom : Atom) (key : ℕ × ℕ) (before now : BTreeSet (ℕ × ℕ)) (new : Bool) → key ≡ key_of atom → new ≡ not (contains pair_cmp before key) → Updates pair_cmp before now key true → Adds atom before now new
adds atom key before now new k is updates = (subst (λ p. new ≡ not (contains pair_cmp before p)) k is, has)
  where
    either : (p q : Bool) → (if p then true else q) ≡ (p || q)
    either true q = refl
    either false q = refl

    has : (other : Atom) → was_seen now other ≡ (same_atom atom other || was_seen before other)
    has other =
        let tells : is_at (pair_cmp key) (key_of other) ≡ same_atom atom other = subst (λ p. is_at (pair_cmp p) (key_of other) ≡ same_atom atom other) (sym k) (key_tells atom other) in
        updates.0 (key_of other) ∙ (ap (λ t. if t then true else was_seen before other) tells ∙ either (same_atom atom other) (was_seen before other))

-- ---- constants behind the first

unseen_now : (atom : Atom) (before now : BTreeSet (ℕ × ℕ)) → ((other : Atom) → was_seen now other ≡ (same_atom atom other || was_seen before other)) → (v : Value)
    → is_unseen now v ≡ (not (same_value (AtomValue atom) v) && is_unseen before v)
unseen_now atom before now has (AtomValue other) = ap not (has other) ∙ neither (same_atom atom other) (was_seen before other)
  where
    neither : (p q : Bool) → not (p || q) ≡ (not p && not q)
    neither true q = refl
    neither false q = refl
unseen_now atom before now has (MapValue map) = refl

both : (f g h : ℕ → Bool) → ((n : ℕ) → f n ≡ (g n && h n)) → (ns : List ℕ) → list_all f ns ≡ (list_all g ns && list_all h ns)
both f g h each [] = refl
both f g h each (n ∷ ns) = rw (each n, both f g h each ns) (four (g n) (h n) (list_all g ns) (list_all h ns))
  where
    four : (a b c d : Bool) → ((a && b) && (c && d)) ≡ ((a && c) && (b && d))
    four true true c d = refl
    four true false true d = refl
    four true false false d = refl
    four false b c d = refl

all_true : (ns : List ℕ) (f : ℕ → Bool) → ((n : ℕ) → f n ≡ true) → list_all f ns ≡ true
all_true [] f each = refl
all_true (n ∷ ns) f each = rw (each n, all_true ns f each) refl

-- nothing was seen
pub none_seen : (consts : List Value) (numbers : List ℕ) (seen : BTreeSet (ℕ × ℕ)) → seen.keys ≡ [] → all_left_differ consts numbers seen ≡ all_differ consts numbers
none_seen consts numbers seen empty = rw (all_true numbers (λ n. is_unseen seen (at consts n)) (λ n. each (at consts n))) refl
  where
    each : (v : Value) → is_unseen seen v ≡ true
    each (AtomValue atom) = rw empty refl
    each (MapValue map) = refl

-- the first is a value without maps
pub steps_atom : (consts : List Value) (n : ℕ) (ns : List ℕ) (atom : Atom) (before now : BTreeSet (ℕ × ℕ)) (new : Bool) → at consts n ≡ AtomValue atom → Adds atom before now new → Steps consts (n ∷ ns) before now new
steps_atom consts n ns atom before now true is (new, has) =
    let rest : list_all (λ m. is_unseen now (at consts m)) ns ≡ (list_all (λ m. not (same_value (AtomValue atom) (at consts m))) ns && list_all (λ m. is_unseen before (at consts m)) ns) =
    both (λ m. is_unseen now (at consts m)) (λ m. not (same_value (AtomValue atom) (at consts m))) (λ m. is_unseen before (at consts m)) (λ m. unseen_now atom before now has (at consts m)) ns in
    rw (is, ← new, rest) (turned (list_all (λ m. not (same_value (AtomValue atom) (at consts m))) ns) (list_all (λ m. is_unseen before (at consts m)) ns) (all_differ consts ns))
  where
    turned : (a b c : Bool) → ((a && b) && c) ≡ (b && (a && c))
    turned true true c = refl
    turned true false c = refl
    turned false true c = refl
    turned false false c = refl
steps_atom consts n ns atom before now false is (new, has) = rw (is, ← new) refl

-- the first is a map
pub steps_map : (consts : List Value) (n : ℕ) (ns : List ℕ) (seen : BTreeSet (ℕ × ℕ)) (differs : Bool) → IsMap (at consts n)
    → differs ≡ list_all (λ m. not (same_value (at consts n) (at consts m))) ns → Steps consts (n ∷ ns) seen seen differs
steps_map consts n ns seen differs map is = step differs is
  where
    unseen : (v : Value) → IsMap v → is_unseen seen v ≡ true
    unseen (AtomValue atom) m = absurd m
    unseen (MapValue table) m = refl

    last : (p : Bool) → (p && false) ≡ false
    last true = refl
    last false = refl

    step : (b : Bool) → b ≡ list_all (λ m. not (same_value (at consts n) (at consts m))) ns → Steps consts (n ∷ ns) seen seen b
    step true e = rw (unseen (at consts n) map, ← e) refl
    step false e = rw (unseen (at consts n) map, ← e) (last (list_all (λ m. is_unseen seen (at consts m)) ns))

-- ---- numbers of which there is a first

pub first_atom : (consts : List Value) (ns : List ℕ) (atom : Atom) (before now : BTreeSet (ℕ × ℕ)) (new : Bool) → 0 < length ns → at consts (slice_index ns 0) ≡ AtomValue atom → Adds atom before now new → Steps consts ns before now new
first_atom consts [] atom before now new some is adds = absurd (omega arith)
first_atom consts (n ∷ ns) atom before now new some is adds = steps_atom consts n ns atom before now new is adds

pub first_map : (consts : List Value) (ns : List ℕ) (seen : BTreeSet (ℕ × ℕ)) (differs : Bool) → 0 < length ns → IsMap (at consts (slice_index ns 0))
    → differs ≡ list_all (λ m. not (same_value (at consts (slice_index ns 0)) (at consts m))) (drop 1 ns) → Steps consts ns seen seen differs
first_map consts [] seen differs some map is = absurd (omega arith)
first_map consts (n ∷ ns) seen differs some map is = steps_map consts n ns seen differs map is

-- what is left of a slice behind a place
pub rest_is : (i : ℕ) (ns : List ℕ) → take (length ns - i) (drop i ns) ≡ drop i ns
rest_is i ns = subst (λ m. take m (drop i ns) ≡ drop i ns) (length-drop i ns) (take-length (drop i ns))

-- one more was looked at
pub one_more : (consts : List Value) (ns : List ℕ) (i : ℕ) (before now : BTreeSet (ℕ × ℕ)) → all_left_differ consts (drop i ns) before ≡ all_differ consts ns → Steps consts (drop i ns) before now true
    → all_left_differ consts (drop (i + 1) ns) now ≡ all_differ consts ns
one_more consts ns i before now all step = subst (λ ms. all_left_differ consts ms now ≡ all_differ consts ns) (drop-drop 1 i ns) (step ∙ all)
