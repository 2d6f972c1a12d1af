-- A mark more.
use Rattle.std.proofs.Common.{◌≡◌, ℕ, ◌+◌, ◌<◌, Bool, true, false, ◌&&◌, List, [], ◌∷◌, ◌++◌, length, length-append, refl, sym, ap, ◌∙◌, subst, arith, ⊎_elim, slice_index_or}
use Rattle.std.specs.Prelude.{Some, slice_get, slice_index, IsSome, IsTrue, if◌then◌else◌}
use Rattle.std.proofs.lemmas.Option.{slice_get-get_or}
use Rattle.hy_val.specs.declared.value.Value.{Value}
use Rattle.hy_term.specs.TermSorts.{sorts}
use Rattle.hy_term.specs.Meaning.{fits}
use Rattle.hy_term.specs.declared.node.TermNode.{TermNode}
use Rattle.tree_terms.proofs.Growth.{grows_on, grows_not, fits_before}
use Rattle.tree_terms.proofs.Parts.{index_left, index_last, lt_or_eq}
use Rattle.tree_terms.specs.Rules.{IsBool, bit, IsBit, IsFalse}
use Rattle.tree_terms.proofs.Ruling.{bool_stays, bit_stays, false_stays}
use Rattle.tree_words.specs.Marking.{PairsFit, MarksTo}

pub marks_none : (old : List TermNode) (pairs : List (ℕ × ℕ)) (marks : List ℕ) → IsSome (sorts old) → marks ≡ [] → MarksTo old old pairs marks 0
marks_none old pairs marks ok e = record {
  grows = grows_not old;
  sorted = ok;
  fit = λ a f. f;
  low = λ j x. x;
  count = ap length e;
  bools = λ m l. absurd (omega (arith, l));
  says = λ a f m x l is. absurd (omega (arith, l));
}

pub pair_is : (pairs : List (ℕ × ℕ)) (k : ℕ) → k < length pairs → slice_get pairs k ≡ Some (slice_index_or pairs k (0, 0))
pair_is pairs k l = slice_get-get_or pairs k (0, 0) l

-- the bools of the next pair
pub pair_bools : (old mid : List TermNode) (pairs : List (ℕ × ℕ)) (marks : List ℕ) (k : ℕ) → IsSome (sorts old) → PairsFit old pairs → MarksTo old mid pairs marks k → k < length pairs
    → IsBool mid (slice_index_or pairs k (0, 0)).0 × IsBool mid (slice_index_or pairs k (0, 0)).1
pair_bools old mid pairs marks k ok fits_pairs h l =
    let x = slice_index_or pairs k (0, 0) in
    let b = fits_pairs k x (pair_is pairs k l) in (
      bool_stays old mid x.0 ok h.sorted h.grows b.0,
      bool_stays old mid x.1 ok h.sorted h.grows b.1,
    )

if_and : (x y z : Bool) → z ≡ false → (if x then y else z) ≡ (x && y)
if_and true y z e = refl
if_and false y z e = e

some_same : (x y : ℕ × ℕ) → Some x ≡ Some y → x ≡ y
some_same x y e = cc

pub marks_next : (old mid new : List TermNode) (pairs : List (ℕ × ℕ)) (marks marks2 : List ℕ) (k never t : ℕ) (x : ℕ × ℕ) → IsSome (sorts old) → IsFalse old never → PairsFit old pairs
    → MarksTo old mid pairs marks k → slice_get pairs k ≡ Some x → IsBit mid new (λ a. if bit a mid x.0 then bit a mid x.1 else bit a mid never) t → marks2 ≡ marks ++ t ∷ [] → MarksTo old new pairs marks2 (k + 1)
marks_next old mid new pairs marks marks2 k never t x ok off fits_pairs h is b e = record {
  grows = grows_on old mid new h.grows b.grows;
  sorted = b.sorted;
  fit = λ a f. b.fit a (h.fit a f);
  low = λ j x. b.low j (h.low j x);
  count = ap length e ∙ (length-append marks (t ∷ []) ∙ (let c = h.count in omega (arith, c)));
  bools = λ m l. ⊎_elim
      (λ low. subst (λ (n : ℕ). IsBool new n) (sym (left m low)) (bool_stays mid new (slice_index marks m) h.sorted b.sorted b.grows (h.bools m low)))
      (λ same. subst (λ (n : ℕ). IsBool new n) (sym (last m same)) b.bool) (lt_or_eq m k l);
  says = λ a f m y l at. ⊎_elim
      (λ low. ap (bit a new) (left m low) ∙ (bit_stays a mid new (slice_index marks m) h.sorted b.grows (h.bools m low) ∙ h.says a (fits_before a mid new b.grows f) m y low at))
      (λ same. ap (bit a new) (last m same) ∙ (b.means a f ∙ both a (fits_before a mid new b.grows f) m y same at)) (lt_or_eq m k l);
}
  where
    left : (m : ℕ) → m < k → slice_index marks2 m ≡ slice_index marks m
    left m low = ap (λ (ms : List ℕ). slice_index ms m) e ∙ index_left marks (t ∷ []) m (let c = h.count in omega (arith, low, c))

    last : (m : ℕ) → m ≡ k → slice_index marks2 m ≡ t
    last m same =
        let z : m ≡ length marks = (let c = h.count in omega (arith, same, c)) in
        ap (λ (ms : List ℕ). slice_index ms m) e ∙ (ap (slice_index (marks ++ t ∷ [])) z ∙ index_last marks t)

    both : (a : ℕ → Value) → IsTrue (fits a mid) → (m : ℕ) (y : ℕ × ℕ) → m ≡ k → slice_get pairs m ≡ Some y → (if bit a mid x.0 then bit a mid x.1 else bit a mid never) ≡ (bit a old y.0 && bit a old y.1)
    both a f m y same at =
        let z : x ≡ y = some_same x y (sym is ∙ (ap (slice_get pairs) (sym same) ∙ at)) in
        let bs = fits_pairs k x is in
        if_and (bit a mid x.0) (bit a mid x.1) (bit a mid never) ((false_stays old mid never ok h.sorted h.grows off).off a f)
        ∙ (ap (λ (c : Bool). c && bit a mid x.1) (bit_stays a old mid x.0 ok h.grows bs.0) ∙ (ap (λ (c : Bool). bit a old x.0 && c) (bit_stays a old mid x.1 ok h.grows bs.1)
        ∙ ap (λ (w : ℕ × ℕ). bit a old w.0 && bit a old w.1) z))
