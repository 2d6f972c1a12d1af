-- Blocks with a rank that grows along each edge are acyclic: list them by rank.
use Rattle.std.proofs.Common.{◌≡◌, ℕ, zero, suc, ◌≤◌, ◌<◌, ◌+◌, Bool, true, false, List, [], ◌∷◌, ◌++◌, length, arith, ◌∙◌, ap, refl}
use Rattle.std.proofs.lemmas.Bool.Decides.{nat_tests}
use Rattle.std.proofs.lemmas.Bool.{eqb-true}
use Rattle.std.specs.Prelude.{Some, slice_get, nat_eq, filter, Contains, slice_index_or}
use Rattle.flat_prog.specs.Shape.{AreAcyclic, Onward, place_at}
use Rattle.flat_prog.specs.Sites.{numbers_from}
use Rattle.flat_prog.specs.declared.block.FlatBlock.{FlatBlock}
use Rattle.extract_def.proofs.Facts.{Among}
use Rattle.extract_def.proofs.Lookup.{below}
use Rattle.extract_def.proofs.Members.{in_filter, from_filter}
use Rattle.extract_def.proofs.Lookup.{get_left, get_right}

-- each block has a rank below a top, and each edge leads to a block of a greater one
pub record AreRanked (blocks : List FlatBlock) (rank : ℕ → ℕ) (top : ℕ) : Type 0 where
  pub under : (n : ℕ) → n < length blocks → rank n < top
  pub grows : (n place to : ℕ) → place_at (slice_get blocks n) place ≡ Some to → (to < length blocks) × (rank n < rank to)

get_or_among : {A : Type 0} (xs : List A) (k : ℕ) (x d : A) → slice_get xs k ≡ Some x → slice_index_or xs k d ≡ x
get_or_among [] k x d e = absurd cc
get_or_among (y ∷ ys) zero x d e = cc
get_or_among (y ∷ ys) (suc k) x d e = get_or_among ys k x d e

pub contains : {A : Type 0} (xs : List A) (x : A) → Among xs x → Contains xs x
contains xs x (k, e) = (k, below xs k x e, get_or_among xs k x x e)

pub numbered : (first count n : ℕ) → first ≤ n → n < first + count → Among (numbers_from first count) n
numbered first zero n le lt = absurd (omega (arith, le, lt))
numbered first (suc count) n le lt = at (nat_eq first n) refl (λ le' lt'. numbered (first + 1) count n le' lt')
  where
    at : (b : Bool) → nat_eq first n ≡ b → (first + 1 ≤ n → n < first + 1 + count → Among (numbers_from (first + 1) count) n) → Among (first ∷ numbers_from (first + 1) count) n
    at true e ih = (0, ap (λ m. Some m) (eqb-true first n e))
    at false e ih = let more : first + 1 ≤ n = grind (arith, nat_tests) in let i = ih more (omega (arith, lt)) in (suc i.0, i.1)

-- those of the numbers with the rank, then those with the next one, for so many ranks
abbrev layers : (ℕ → ℕ) → List ℕ → (rank count : ℕ) → List ℕ
layers rank ns r zero = []
layers rank ns r (suc count) = filter (λ n. nat_eq (rank n) r) ns ++ layers rank ns (r + 1) count

in_layers : (rank : ℕ → ℕ) (ns : List ℕ) (r count n : ℕ) → Among ns n → r ≤ rank n → rank n < r + count → Among (layers rank ns r count) n
in_layers rank ns r zero n a le lt = absurd (omega (arith, le, lt))
in_layers rank ns r (suc count) n a le lt = at (nat_eq (rank n) r) refl (λ le' lt'. in_layers rank ns (r + 1) count n a le' lt')
  where
    here : List ℕ
    here = filter (λ m. nat_eq (rank m) r) ns

    at : (b : Bool) → nat_eq (rank n) r ≡ b → (r + 1 ≤ rank n → rank n < r + 1 + count → Among (layers rank ns (r + 1) count) n) → Among (here ++ layers rank ns (r + 1) count) n
    at true e ih = let i = in_filter (λ m. nat_eq (rank m) r) ns n a e in (i.0, get_left here (layers rank ns (r + 1) count) i.0 n i.1)
    at false e ih = let more : r + 1 ≤ rank n = grind (arith, nat_tests) in let i = ih more (omega (arith, lt)) in (length here + i.0, get_right here (layers rank ns (r + 1) count) i.0 ∙ i.1)

-- numbers in front, whose edges all lead into the rest
onward_front : (blocks : List FlatBlock) (ns rest : List ℕ) → ((n : ℕ) → Among ns n → (place to : ℕ) → place_at (slice_get blocks n) place ≡ Some to → Among rest to) → Onward blocks rest → Onward blocks (ns ++ rest)
onward_front blocks [] rest each h = h
onward_front blocks (n ∷ ns) rest each h = (
  λ place to e. let i = each n (0, refl) place to e in contains (ns ++ rest) to (length ns + i.0, get_right ns rest i.0 ∙ i.1),
  onward_front blocks ns rest (λ m a. each m (suc a.0, a.1)) h,
)

onward_layers : (blocks : List FlatBlock) (rank : ℕ → ℕ) (top : ℕ) → AreRanked blocks rank top → (r count : ℕ) → r + count ≡ top → Onward blocks (layers rank (numbers_from 0 (length blocks)) r count)
onward_layers blocks rank top h r zero e = tt
onward_layers blocks rank top h r (suc count) e =
    onward_front blocks (filter (λ n. nat_eq (rank n) r) ns) (layers rank ns (r + 1) count) each (onward_layers blocks rank top h (r + 1) count (omega (arith, e)))
  where
    ns : List ℕ
    ns = numbers_from 0 (length blocks)

    each : (n : ℕ) → Among (filter (λ m. nat_eq (rank m) r) ns) n → (place to : ℕ) → place_at (slice_get blocks n) place ≡ Some to → Among (layers rank ns (r + 1) count) to
    each n a place to k =
        let f = from_filter (λ m. nat_eq (rank m) r) ns n a in
        let g = h.grows n place to k in
        let same = eqb-true (rank n) r f.1 in
        let lt = g.1 in let within = g.0 in let high = h.under to within in
        in_layers rank ns (r + 1) count to (numbered 0 (length blocks) to (omega arith) (omega (arith, within))) (omega (arith, same, lt)) (omega (arith, e, high))

pub acyclic_by_rank : (blocks : List FlatBlock) (rank : ℕ → ℕ) (top : ℕ) → AreRanked blocks rank top → AreAcyclic blocks
acyclic_by_rank blocks rank top h =
    let ns = numbers_from 0 (length blocks) in
    record {
      order = layers rank ns 0 top;
      onward = onward_layers blocks rank top h 0 top (omega arith);
      every = λ n lt. let high = h.under n lt in contains (layers rank ns 0 top) n (in_layers rank ns 0 top n (numbered 0 (length blocks) n (omega arith) (omega (arith, lt))) (omega arith) (omega (arith, high)));
    }
