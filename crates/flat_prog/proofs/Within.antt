-- A site path is within the caps exactly where the procedures along it are: sources counted, loops in rows.
use Rattle.std.proofs.Common.{◌≡◌, ℕ, zero, suc, ◌+◌, ◌<◌, ◌≤◌, nat_eq, Bool, true, false, if◌then◌else◌, List, [], ◌∷◌, ◌++◌, replicate, slice_get, Option, None, Some, refl, sym, ap, ◌∙◌, subst, append_assoc, true≢false, arith}
use Rattle.std.proofs.lemmas.Bool.{and_parts, and_from, eq-eqb, eqb-true, ltb-true, lt-ltb, leb-true, le-leb}
use Rattle.flat_prog.specs.Caps.{times, row_of, kind_of, may_follow, are_within, chain_within, within}
use Rattle.flat_prog.specs.Laws.{AreCapped, IsWithin, WithinIsExact}
use Rattle.flat_prog.specs.Program.{FlatProgram}
use Rattle.flat_prog.specs.Shape.{is_loop_kind}
use Rattle.flat_prog.specs.Sites.{along}
use Rattle.flat_prog.specs.declared.proc.FlatKind.{FlatKind}
use Rattle.flat_prog.specs.declared.proc.FlatKind.TheVariants.{Source, Loop}

-- ---- the test of one procedure

source_less : (bound : ℕ) (kind : FlatKind) (p : ℕ) (passed : List ℕ) → is_loop_kind kind ≡ false → may_follow bound kind p passed ≡ true → times p passed < bound
source_less bound (Source proc) p passed is h = ltb-true (times p passed) bound h
source_less bound (Loop proc head) p passed is h = absurd (true≢false is)

loop_less : (bound : ℕ) (kind : FlatKind) (p : ℕ) (passed : List ℕ) → is_loop_kind kind ≡ true → may_follow bound kind p passed ≡ true → row_of p passed ≤ bound
loop_less bound (Source proc) p passed is h = absurd (true≢false (sym is))
loop_less bound (Loop proc head) p passed is h = leb-true (row_of p passed) bound h

may_by : (bound : ℕ) (kind : FlatKind) (p : ℕ) (passed : List ℕ) → (is_loop_kind kind ≡ false → times p passed < bound) → (is_loop_kind kind ≡ true → row_of p passed ≤ bound) → may_follow bound kind p passed ≡ true
may_by bound (Source proc) p passed source loop = lt-ltb (times p passed) bound (source refl)
may_by bound (Loop proc head) p passed source loop = le-leb (row_of p passed) bound (loop refl)

-- ---- from the tests to the counts

times_same : (p : ℕ) (passed : List ℕ) → times p (p ∷ passed) ≡ suc (times p passed)
times_same p passed = ap (λ b. if b then suc (times p passed) else times p passed) (eq-eqb p p refl)

row_same : (p : ℕ) (passed : List ℕ) → row_of p (p ∷ passed) ≡ suc (row_of p passed)
row_same p passed = ap (λ b. if b then suc (row_of p passed) else 0) (eq-eqb p p refl)

sources_capped : (flat : FlatProgram) (bound p : ℕ) (passed ps : List ℕ) → is_loop_kind (kind_of (slice_get flat.procs p)) ≡ false → are_within flat bound passed ps ≡ true → times p passed ≤ bound → times p passed + times p ps ≤ bound
sources_capped flat bound p passed [] source h few = omega (arith, few)
sources_capped flat bound p passed (q ∷ qs) source h few =
    let parts = and_parts (may_follow bound (kind_of (slice_get flat.procs q)) q passed) (are_within flat bound (q ∷ passed) qs) h in
    by (nat_eq q p) refl parts.0 (λ small. sources_capped flat bound p (q ∷ passed) qs source parts.1 small)
  where
    by : (b : Bool) → nat_eq q p ≡ b → may_follow bound (kind_of (slice_get flat.procs q)) q passed ≡ true → (times p (q ∷ passed) ≤ bound → times p (q ∷ passed) + times p qs ≤ bound) → times p passed + (if b then suc (times p qs) else times p qs) ≤ bound
    by true is may more =
        let same : q ≡ p = eqb-true q p is in
        let less : times p passed < bound = source_less bound (kind_of (slice_get flat.procs p)) p passed source (subst (λ (x : ℕ). may_follow bound (kind_of (slice_get flat.procs x)) x passed ≡ true) same may) in
        let count : times p (q ∷ passed) ≡ suc (times p passed) = ap (λ b. if b then suc (times p passed) else times p passed) is in
        let all : times p (q ∷ passed) + times p qs ≤ bound = more (omega (arith, count, less)) in
        omega (arith, count, all)
    by false is may more =
        let count : times p (q ∷ passed) ≡ times p passed = ap (λ b. if b then suc (times p passed) else times p passed) is in
        let all : times p (q ∷ passed) + times p qs ≤ bound = more (omega (arith, count, few)) in
        omega (arith, count, all)

-- behind some procedures
behind_within : (flat : FlatProgram) (bound : ℕ) (passed before rest : List ℕ) → are_within flat bound passed (before ++ rest) ≡ true → (more : List ℕ) × (are_within flat bound more rest ≡ true)
behind_within flat bound passed [] rest h = (passed, h)
behind_within flat bound passed (b ∷ before) rest h =
    behind_within flat bound (b ∷ passed) before rest (and_parts (may_follow bound (kind_of (slice_get flat.procs b)) b passed) (are_within flat bound (b ∷ passed) (before ++ rest)) h).1

row_capped : (flat : FlatProgram) (bound p count : ℕ) (passed behind : List ℕ) → is_loop_kind (kind_of (slice_get flat.procs p)) ≡ true → are_within flat bound passed (replicate count p ++ behind) ≡ true → count ≤ bound + 1
row_capped flat bound p zero passed behind loop h = omega arith
row_capped flat bound p (suc zero) passed behind loop h = omega arith
row_capped flat bound p (suc (suc count)) passed behind loop h =
    let r = long count (p ∷ passed) (and_parts (may_follow bound (kind_of (slice_get flat.procs p)) p passed) (are_within flat bound (p ∷ passed) (replicate (suc count) p ++ behind)) h).1 in
    let e = row_same p passed in
    omega (arith, r, e)
  where
    long : (count : ℕ) (passed : List ℕ) → are_within flat bound passed (replicate (suc count) p ++ behind) ≡ true → row_of p passed + count ≤ bound
    long zero passed h =
        let l = loop_less bound (kind_of (slice_get flat.procs p)) p passed loop (and_parts (may_follow bound (kind_of (slice_get flat.procs p)) p passed) (are_within flat bound (p ∷ passed) behind) h).0 in
        omega (arith, l)
    long (suc count) passed h =
        let r = long count (p ∷ passed) (and_parts (may_follow bound (kind_of (slice_get flat.procs p)) p passed) (are_within flat bound (p ∷ passed) (replicate (suc count) p ++ behind)) h).1 in
        let e = row_same p passed in
        omega (arith, r, e)

-- ---- and back

-- the procedures, where the passed ones stand last one first
abbrev onto : List ℕ → List ℕ → List ℕ
onto [] ps = ps
onto (x ∷ xs) ps = onto xs (x ∷ ps)

times_onto : (p : ℕ) (xs ps : List ℕ) → times p (onto xs ps) ≡ times p xs + times p ps
times_onto p [] ps = let e : times p ps ≡ 0 + times p ps = omega arith in e
times_onto p (x ∷ xs) ps = times_onto p xs (x ∷ ps) ∙ by (nat_eq x p)
  where
    by : (b : Bool) → times p xs + (if b then suc (times p ps) else times p ps) ≡ (if b then suc (times p xs) else times p xs) + times p ps
    by true = omega arith
    by false = refl

onto_front : (xs ps : List ℕ) → (before : List ℕ) × (onto xs ps ≡ before ++ ps)
onto_front [] ps = ([], refl)
onto_front (x ∷ xs) ps = let r = onto_front xs (x ∷ ps) in (r.0 ++ x ∷ [], r.1 ∙ sym (append_assoc r.0 (x ∷ []) ps))

more_row : (p count : ℕ) (ps : List ℕ) → replicate count p ++ p ∷ ps ≡ replicate (suc count) p ++ ps
more_row p zero ps = refl
more_row p (suc count) ps = ap (λ qs. p ∷ qs) (more_row p count ps)

onto_row : (p : ℕ) (xs ps : List ℕ) → (before : List ℕ) × (onto xs ps ≡ before ++ (replicate (row_of p xs) p ++ ps))
onto_row p [] ps = ([], refl)
onto_row p (x ∷ xs) ps = by (nat_eq x p) refl (onto_row p xs (x ∷ ps))
  where
    by : (b : Bool) → nat_eq x p ≡ b → ((before : List ℕ) × (onto xs (x ∷ ps) ≡ before ++ (replicate (row_of p xs) p ++ (x ∷ ps)))) →
        (before : List ℕ) × (onto xs (x ∷ ps) ≡ before ++ (replicate (if b then suc (row_of p xs) else 0) p ++ ps))
    by true is (before, e) =
        (before, e ∙ ap (λ (y : ℕ). before ++ (replicate (row_of p xs) p ++ y ∷ ps)) (eqb-true x p is) ∙ ap (λ qs. before ++ qs) (more_row p (row_of p xs) ps))
    by false is more = let r = onto_front xs (x ∷ ps) in (r.0 ++ x ∷ [], r.1 ∙ sym (append_assoc r.0 (x ∷ []) ps))

tests_pass : (flat : FlatProgram) (bound : ℕ) (passed ps : List ℕ) → AreCapped flat bound (onto passed ps) → are_within flat bound passed ps ≡ true
tests_pass flat bound passed [] caps = refl
tests_pass flat bound passed (q ∷ qs) caps =
    and_from (may_follow bound (kind_of (slice_get flat.procs q)) q passed) (are_within flat bound (q ∷ passed) qs)
    (may_by bound (kind_of (slice_get flat.procs q)) q passed source loop) (tests_pass flat bound (q ∷ passed) qs caps)
  where
    source : is_loop_kind (kind_of (slice_get flat.procs q)) ≡ false → times q passed < bound
    source is =
        let most = caps.sources q is in
        let e = times_onto q passed (q ∷ qs) in
        let f = times_same q qs in
        omega (arith, most, e, f)

    loop : is_loop_kind (kind_of (slice_get flat.procs q)) ≡ true → row_of q passed ≤ bound
    loop is =
        let r = onto_row q passed (q ∷ qs) in
        let most = caps.loops q (suc (row_of q passed)) r.0 qs is (r.1 ∙ ap (λ xs. r.0 ++ xs) (more_row q (row_of q passed) qs)) in
        omega (arith, most)

pub within_exact : WithinIsExact
within_exact flat entry bound path = (to (along flat entry path) refl, from)
  where
    to : (o : Option (List ℕ)) → along flat entry path ≡ o → chain_within flat bound o ≡ true → IsWithin flat entry bound path
    to None is h = absurd (true≢false (sym h))
    to (Some ps) is h = record {
      procs = ps;
      exists = is;
      capped = record {
        sources = λ p source. (let r = sources_capped flat bound p [] ps source h (omega arith) in omega (arith, r));
        loops = λ p count before behind loop e.
            let r = behind_within flat bound [] before (replicate count p ++ behind) (subst (λ (qs : List ℕ). are_within flat bound [] qs ≡ true) e h) in
            row_capped flat bound p count r.0 behind loop r.1;
      };
    }

    from : IsWithin flat entry bound path → within flat entry bound path ≡ true
    from w = ap (chain_within flat bound) w.exists ∙ tests_pass flat bound [] w.procs w.capped
