-- Walks along paths, and the caps on the way.
use Rattle.std.proofs.Common.{◌≡◌, ℕ, zero, suc, ◌+◌, ◌<◌, ◌≤◌, Bool, true, false, ◌&&◌, nat_eq, nat_lt, nat_le, true≢false, not-suc-le-zero, if◌then◌else◌, List, [], ◌∷◌, ◌++◌, length, take, drop, slice_get, slice_index_or, Option, None, Some, option_map, option_and_then, refl, sym, ap, ◌∙◌, subst, arith}
use Rattle.flat_prog.specs.declared.proc.FlatKind.{FlatKind}
use Rattle.flat_prog.specs.declared.proc.FlatKind.TheVariants.{Source, Loop}
use Rattle.flat_prog.specs.Shape.{is_loop_kind}
use Rattle.flat_prog.specs.Program.{FlatProgram}
use Rattle.flat_prog.specs.Sites.{along}
use Rattle.flat_prog.specs.Caps.{times, row_of, may_follow, are_within, chain_within, within}
use Rattle.call_tree.specs.Trees.{callees}
use Rattle.call_tree.proofs.Seeking.{next_of}
use Rattle.call_tree.specs.Walks.{walked, may_stand, if_there, goes_within}

and_no : (a : Bool) → (a && false) ≡ false
and_no true = refl
and_no false = refl

-- the caps on the way are those on the procedures along the path
abbrev chained : FlatProgram → ℕ → List ℕ → Option (List ℕ) → Bool
chained flat bound passed None = false
chained flat bound passed (Some ps) = are_within flat bound passed ps

pub goes_is : (flat : FlatProgram) (bound : ℕ) (passed : List ℕ) (p : ℕ) (path : List ℕ) → goes_within flat bound passed p path ≡ chained flat bound passed (along flat p path)
goes_is flat bound passed p [] = one (may_stand flat bound passed p)
  where
    one : (b : Bool) → b ≡ (b && true)
    one true = refl
    one false = refl
goes_is flat bound passed p (site ∷ path) = by_site (slice_get (callees flat p) site) (λ q. goes_is flat bound (p ∷ passed) q path)
  where
    by_rest : (o : Option (List ℕ)) → (may_stand flat bound passed p && chained flat bound (p ∷ passed) o) ≡ chained flat bound passed (option_map (λ ps. p ∷ ps) o)
    by_rest None = and_no (may_stand flat bound passed p)
    by_rest (Some ps) = refl

    by_site : (o : Option ℕ) → ((q : ℕ) → goes_within flat bound (p ∷ passed) q path ≡ chained flat bound (p ∷ passed) (along flat q path)) →
        (may_stand flat bound passed p && if_there (λ q. goes_within flat bound (p ∷ passed) q path) o) ≡ chained flat bound passed (option_map (λ ps. p ∷ ps) (option_and_then (λ q. along flat q path) o))
    by_site None go = and_no (may_stand flat bound passed p)
    by_site (Some q) go = ap (λ b. may_stand flat bound passed p && b) (go q) ∙ by_rest (along flat q path)

pub within_is : (flat : FlatProgram) (entry bound : ℕ) (path : List ℕ) → goes_within flat bound [] entry path ≡ within flat entry bound path
within_is flat entry bound path = goes_is flat bound [] entry path ∙ same (along flat entry path)
  where
    same : (o : Option (List ℕ)) → chained flat bound [] o ≡ chain_within flat bound o
    same None = refl
    same (Some ps) = refl

pub walked_on : (flat : FlatProgram) (passed : List ℕ) (p : ℕ) (path : List ℕ) (before : List ℕ) (q site r : ℕ) → walked flat passed p path ≡ Some (before, q) → slice_get (callees flat q) site ≡ Some r →
    walked flat passed p (path ++ site ∷ []) ≡ Some (q ∷ before, r)
walked_on flat passed p [] before q site r h at =
    let e : p ≡ q = firsts h in
    let f : passed ≡ before = seconds h in
    ap (λ o. option_and_then (λ x. walked flat (p ∷ passed) x []) o) (subst (λ (x : ℕ). slice_get (callees flat x) site ≡ Some r) (sym e) at)
    ∙ ap (λ (x : ℕ). Some (x ∷ passed, r)) e ∙ ap (λ (x : List ℕ). Some (q ∷ x, r)) f
  where
    pairs : ◌≡◌ {A = Option (List ℕ × ℕ)} (Some (passed, p)) (Some (before, q)) → ◌≡◌ {A = List ℕ × ℕ} (passed, p) (before, q)
    pairs h = cc

    firsts : ◌≡◌ {A = Option (List ℕ × ℕ)} (Some (passed, p)) (Some (before, q)) → p ≡ q
    firsts h = ap (λ x. x.1) (pairs h)

    seconds : ◌≡◌ {A = Option (List ℕ × ℕ)} (Some (passed, p)) (Some (before, q)) → passed ≡ before
    seconds h = ap (λ x. x.0) (pairs h)
walked_on flat passed p (x ∷ path) before q site r h at = by_site (slice_get (callees flat p) x) (λ s k. walked_on flat (p ∷ passed) s path before q site r k at) h
  where
    by_site : (o : Option ℕ) → ((s : ℕ) → walked flat (p ∷ passed) s path ≡ Some (before, q) → walked flat (p ∷ passed) s (path ++ site ∷ []) ≡ Some (q ∷ before, r)) →
        option_and_then (λ s. walked flat (p ∷ passed) s path) o ≡ Some (before, q) → option_and_then (λ s. walked flat (p ∷ passed) s (path ++ site ∷ [])) o ≡ Some (q ∷ before, r)
    by_site None go h = cc
    by_site (Some s) go h = go s h

-- so far the tally counts the procedures passed
pub record Counting (flat : FlatProgram) (entry : ℕ) (path : List ℕ) (proc index at tally_times tally_row : ℕ) : Type 0 where
  pub passed : List ℕ
  pub left : walked flat [] entry path ≡ walked flat passed at (drop index path)
  pub many : length passed ≡ index
  pub times_are : tally_times ≡ times proc passed
  pub row_is : tally_row ≡ row_of proc passed

-- so far the path is within the caps
pub record Checking (flat : FlatProgram) (entry bound : ℕ) (path : List ℕ) (index at : ℕ) : Type 0 where
  pub passed : List ℕ
  pub front : walked flat [] entry (take index path) ≡ Some (passed, at)
  pub left : goes_within flat bound [] entry path ≡ goes_within flat bound passed at (drop index path)

pub times_most : (p : ℕ) (passed : List ℕ) → times p passed ≤ length passed
times_most p [] = omega arith
times_most p (q ∷ passed) = by_test (nat_eq q p) (times_most p passed)
  where
    by_test : (b : Bool) → times p passed ≤ length passed → (if b then suc (times p passed) else times p passed) ≤ suc (length passed)
    by_test true h = omega arith
    by_test false h = omega arith

pub row_most : (p : ℕ) (passed : List ℕ) → row_of p passed ≤ length passed
row_most p [] = omega arith
row_most p (q ∷ passed) = by_test (nat_eq q p) (row_most p passed)
  where
    by_test : (b : Bool) → row_of p passed ≤ length passed → (if b then suc (row_of p passed) else 0) ≤ suc (length passed)
    by_test true h = omega arith
    by_test false h = omega arith

-- by what the kind of a procedure is
pub may_loop : (bound : ℕ) (kind : FlatKind) (p : ℕ) (passed : List ℕ) → is_loop_kind kind ≡ true → nat_le (row_of p passed) bound ≡ may_follow bound kind p passed
may_loop bound (Source proc) p passed h = absurd (true≢false (sym h))
may_loop bound (Loop proc head) p passed h = refl

pub may_source : (bound : ℕ) (kind : FlatKind) (p : ℕ) (passed : List ℕ) → is_loop_kind kind ≡ false → nat_lt (times p passed) bound ≡ may_follow bound kind p passed
may_source bound (Source proc) p passed h = refl
may_source bound (Loop proc head) p passed h = absurd (true≢false h)

pub goes_refused : (flat : FlatProgram) (bound : ℕ) (passed : List ℕ) (p : ℕ) (path : List ℕ) → may_stand flat bound passed p ≡ false → goes_within flat bound passed p path ≡ false
goes_refused flat bound passed p [] h = h
goes_refused flat bound passed p (site ∷ path) h = ap (λ b. b && if_there (λ q. goes_within flat bound (p ∷ passed) q path) (slice_get (callees flat p) site)) h

pub goes_on : (flat : FlatProgram) (bound : ℕ) (passed : List ℕ) (p site : ℕ) (path : List ℕ) (o : Option ℕ) → may_stand flat bound passed p ≡ true → slice_get (callees flat p) site ≡ o →
    goes_within flat bound passed p (site ∷ path) ≡ if_there (λ q. goes_within flat bound (p ∷ passed) q path) o
goes_on flat bound passed p site path o h at =
    ap (λ b. b && if_there (λ q. goes_within flat bound (p ∷ passed) q path) (slice_get (callees flat p) site)) h ∙ ap (λ o. if_there (λ q. goes_within flat bound (p ∷ passed) q path) o) at

pub take_next : (xs : List ℕ) (i x : ℕ) → i < length xs → x ≡ slice_index_or xs i x → take (i + 1) xs ≡ take i xs ++ x ∷ []
take_next [] i x h is = absurd (not-suc-le-zero h)
take_next (y ∷ ys) zero x h is = ap (λ z. z ∷ []) (sym is)
take_next (y ∷ ys) (suc i) x h is =
    let e : suc i + 1 ≡ suc (i + 1) = omega arith in
    ap (λ n. take n (y ∷ ys)) e ∙ ap (λ zs. y ∷ zs) (take_next ys i x (omega arith) is)

-- the test refuses
pub checked_no : (flat : FlatProgram) (entry bound : ℕ) (path : List ℕ) (index at : ℕ) (b : Bool) → (c : Checking flat entry bound path index at) →
    ((passed : List ℕ) (last : ℕ) → walked flat [] entry (take index path) ≡ Some (passed, last) → b ≡ may_stand flat bound passed at) → b ≡ false → false ≡ within flat entry bound path
checked_no flat entry bound path index at b c stands refused =
    sym (goes_refused flat bound c.passed at (drop index path) (sym (stands c.passed at c.front) ∙ refused)) ∙ sym c.left ∙ within_is flat entry bound path

-- there is no such site
pub checked_none : (flat : FlatProgram) (entry bound : ℕ) (path : List ℕ) (index at site : ℕ) (b : Bool) → (c : Checking flat entry bound path index at) → index < length path → site ≡ slice_index_or path index site →
    ((passed : List ℕ) (last : ℕ) → walked flat [] entry (take index path) ≡ Some (passed, last) → b ≡ may_stand flat bound passed at) → b ≡ true → slice_get (callees flat at) site ≡ None → false ≡ within flat entry bound path
checked_none flat entry bound path index at site b c there is stands may none =
    sym (ap (λ xs. goes_within flat bound c.passed at xs) (next_of path index site there is)
    ∙ goes_on flat bound c.passed at site (drop (index + 1) path) None (sym (stands c.passed at c.front) ∙ may) none) ∙ sym c.left ∙ within_is flat entry bound path

-- one site further
pub checked_next : (flat : FlatProgram) (entry bound : ℕ) (path : List ℕ) (index at site next : ℕ) (b : Bool) → (c : Checking flat entry bound path index at) → index < length path → site ≡ slice_index_or path index site →
    ((passed : List ℕ) (last : ℕ) → walked flat [] entry (take index path) ≡ Some (passed, last) → b ≡ may_stand flat bound passed at) → b ≡ true → slice_get (callees flat at) site ≡ Some next →
    Checking flat entry bound path (index + 1) next
checked_next flat entry bound path index at site next b c there is stands may found = record {
  passed = at ∷ c.passed;
  front = ap (λ xs. walked flat [] entry xs) (take_next path index site there is) ∙ walked_on flat [] entry (take index path) c.passed at site next c.front found;
  left = c.left ∙ ap (λ xs. goes_within flat bound c.passed at xs) (next_of path index site there is)
      ∙ goes_on flat bound c.passed at site (drop (index + 1) path) (Some next) (sym (stands c.passed at c.front) ∙ may) found;
}

-- at the end
pub checked_all : (flat : FlatProgram) (entry bound : ℕ) (path : List ℕ) (index at : ℕ) (b : Bool) → (c : Checking flat entry bound path index at) → length path ≤ index →
    ((passed : List ℕ) (last : ℕ) → walked flat [] entry path ≡ Some (passed, last) → b ≡ may_stand flat bound passed at) → b ≡ within flat entry bound path
checked_all flat entry bound path index at b c all stands =
    stands c.passed at (subst (λ (xs : List ℕ). walked flat [] entry xs ≡ Some (c.passed, at)) (take_whole path index all) c.front)
    ∙ sym (ap (λ xs. goes_within flat bound c.passed at xs) (drop_whole path index all)) ∙ sym c.left ∙ within_is flat entry bound path
  where
    take_whole : (xs : List ℕ) (n : ℕ) → length xs ≤ n → take n xs ≡ xs
    take_whole [] zero h = refl
    take_whole [] (suc n) h = refl
    take_whole (x ∷ xs) zero h = absurd (not-suc-le-zero h)
    take_whole (x ∷ xs) (suc n) h = ap (λ ys. x ∷ ys) (take_whole xs n (omega arith))

    drop_whole : (xs : List ℕ) (n : ℕ) → length xs ≤ n → drop n xs ≡ []
    drop_whole [] zero h = refl
    drop_whole [] (suc n) h = refl
    drop_whole (x ∷ xs) zero h = absurd (not-suc-le-zero h)
    drop_whole (x ∷ xs) (suc n) h = drop_whole xs n (omega arith)

pub take_length : (n : ℕ) (xs : List ℕ) → length (take n xs) ≤ length xs
take_length zero xs = omega arith
take_length (suc n) [] = omega arith
take_length (suc n) (x ∷ xs) = let r = take_length n xs in omega arith

-- the element at a place, whatever stands where there is none
pub same_index : (xs : List ℕ) (i d : ℕ) → i < length xs → slice_index_or xs i d ≡ slice_index_or xs i (slice_index_or xs i d)
same_index [] i d h = absurd (not-suc-le-zero h)
same_index (x ∷ xs) zero d h = refl
same_index (x ∷ xs) (suc i) d h = same_index xs i d (omega arith)
