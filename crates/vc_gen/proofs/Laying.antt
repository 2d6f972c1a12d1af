-- Values of blocks are laid out as variables in a row, and read back.
use Rattle.std.proofs.Common.{◌≡◌, ℕ, zero, suc, ◌+◌, Bool, true, false, List, [], ◌∷◌, ◌++◌, map, length, replicate, arith, sym, ◌∙◌, ap, refl, length-append}
use Rattle.hy_val.specs.Values.{is_on, has_sort, zero_of}
use Rattle.hy_val.specs.declared.atom.AtomKind.TheVariants.{Bool as BoolAtom}
use Rattle.hy_val.specs.declared.sort.Sort.{Sort}
use Rattle.hy_val.specs.declared.value.Value.{Value}
use Rattle.hy_val.specs.declared.value.Value.TheVariants.{Atom as AtomValue}
use Rattle.hy_val.proofs.Lawful.{keep_sorts}
use Rattle.hy_term.specs.Variables.{reads}
use Rattle.flat_prog.specs.declared.proc.FlatProc.{FlatProc}
use Rattle.passive_form.specs.Limited.{Limited}
use Rattle.flat_prog.specs.Local.{Result}
use Rattle.passive_form.specs.Local.{sorted_as}
use Rattle.vc_gen.specs.Fold.{Given}
use Rattle.vc_gen.proofs.Complete.{Each}
use Rattle.vc_gen.specs.Items.{bool_sort, chosen, AreSorts}
use Rattle.vc_gen.specs.Inputs.{values_in, results_in, items_at, choices_at, sorts_of_block, sorts_of_blocks, given_at, givens_at, Shaped}
use Rattle.vc_gen.proofs.Joining.{reads_append, length_reads, sorts_both, and_two}
use Rattle.vc_gen.proofs.Shapes.{length_have}

-- two lists of which the first parts are equally long
pub split_same : {A : Type 0} (xs ys us vs : List A) → length xs ≡ length us → xs ++ ys ≡ us ++ vs → (xs ≡ us) × (ys ≡ vs)
split_same [] ys [] vs n h = (refl, h)
split_same [] ys (u ∷ us) vs n h = absurd (omega (arith, n))
split_same (x ∷ xs) ys [] vs n h = absurd (omega (arith, n))
split_same {A} (x ∷ xs) ys (u ∷ us) vs n h =
    let e : x ≡ u = cc in
    let t : xs ++ ys ≡ us ++ vs = cc in
    let r = split_same xs ys us vs (omega (arith, n)) t in
    (ap (λ y. y ∷ xs) e ∙ ap (λ z. u ∷ z) r.0, r.1)

-- the first variables of a row, and the others
pub read_split : (a : ℕ → Value) (k : ℕ) (xs ys : List Value) → reads a k (length (xs ++ ys)) ≡ xs ++ ys → (reads a k (length xs) ≡ xs) × (reads a (k + length xs) (length ys) ≡ ys)
read_split a k xs ys h =
    split_same (reads a k (length xs)) (reads a (k + length xs) (length ys)) xs ys (length_reads a k (length xs))
    (sym (reads_append a k (length xs) (length ys)) ∙ ap (reads a k) (sym (length-append xs ys)) ∙ h)

abbrev pub bits : List Bool → List Value
bits [] = []
bits (c ∷ cs) = AtomValue (BoolAtom c) ∷ bits cs

pub bits_have : (cs : List Bool) (n : ℕ) → length cs ≡ n → sorted_as (replicate n bool_sort) (bits cs) ≡ true
bits_have [] zero h = refl
bits_have [] (suc n) h = absurd (omega (arith, h))
bits_have (c ∷ cs) zero h = absurd (omega (arith, h))
bits_have (c ∷ cs) (suc n) h = bits_have cs n (omega (arith, h))

bits_on : (cs : List Bool) → map is_on (bits cs) ≡ cs
bits_on [] = refl
bits_on (c ∷ cs) = ap (λ r. c ∷ r) (bits_on cs)

bits_count : (cs : List Bool) → length (bits cs) ≡ length cs
bits_count [] = refl
bits_count (c ∷ cs) = ap suc (bits_count cs)

pub record Laid (flat : Limited) (q : FlatProc) (gs : List Given) (ns : List ℕ) : Type 0 where
  pub vs : List Value
  pub sorts : sorted_as (sorts_of_blocks flat q ns) vs ≡ true
  pub read : (a : ℕ → Value) (k : ℕ) → reads a k (length vs) ≡ vs → givens_at flat q a k ns ≡ gs

same_given : (n : ℕ) (v v' : List Value) (r r' : List Result) (c c' : List Bool) → v ≡ v' → r ≡ r' → c ≡ c' →
    ◌≡◌ {A = Given} (record { number = n; values = v; results = r; choices = c }) (record { number = n; values = v'; results = r'; choices = c' })
same_given n v v' r r' c c' p q s = cc

pub given_read : (flat : Limited) (q : FlatProc) (g : Given) (s : Shaped flat q g) (a : ℕ → Value) (k : ℕ) → reads a k (length (s.ins ++ bits g.choices)) ≡ s.ins ++ bits g.choices → given_at flat q a k g.number ≡ g
given_read flat q g s a k h =
    let two = read_split a k s.ins (bits g.choices) h in
    let n : length s.ins ≡ length (chosen (items_at flat q g.number)) = length_have (chosen (items_at flat q g.number)) s.ins s.sorts in
    let ins : reads a k (length (chosen (items_at flat q g.number))) ≡ s.ins = ap (reads a k) (sym n) ∙ two.0 in
    let count : choices_at q g.number ≡ length (bits g.choices) = sym s.count ∙ sym (bits_count g.choices) in
    same_given g.number (values_in (items_at flat q g.number) (reads a k (length (chosen (items_at flat q g.number))))) g.values
    (results_in (items_at flat q g.number) (reads a k (length (chosen (items_at flat q g.number))))) g.results
    (map is_on (reads a (k + length (chosen (items_at flat q g.number))) (choices_at q g.number))) g.choices
    (ap (values_in (items_at flat q g.number)) ins ∙ s.values_are)
    (ap (results_in (items_at flat q g.number)) ins ∙ s.results_are)
    (ap (λ i. map is_on (reads a (k + i) (choices_at q g.number))) (sym n) ∙ ap (λ i. map is_on (reads a (k + length s.ins) i)) count ∙ ap (map is_on) two.1 ∙ bits_on g.choices)

pub laid : (flat : Limited) (q : FlatProc) (gs : List Given) → Each (Shaped flat q) gs → Laid flat q gs (map (λ (g : Given). g.number) gs)
laid flat q [] h = record { vs = []; sorts = refl; read = λ a k r. refl }
laid flat q (g ∷ gs) (s, h) =
    let rest = laid flat q gs h in
    let own = s.ins ++ bits g.choices in
    let own_sorts : sorted_as (sorts_of_block flat q g.number) own ≡ true =
    sorts_both (chosen (items_at flat q g.number)) (replicate (choices_at q g.number) bool_sort) s.ins (bits g.choices) s.sorts (bits_have g.choices (choices_at q g.number) s.count) in
    let n : length own ≡ length (sorts_of_block flat q g.number) = length_have (sorts_of_block flat q g.number) own own_sorts in
    record {
      vs = own ++ rest.vs;
      sorts = sorts_both (sorts_of_block flat q g.number) (sorts_of_blocks flat q (map (λ (x : Given). x.number) gs)) own rest.vs own_sorts rest.sorts;
      read = λ a k r.
          let two = read_split a k own rest.vs r in
          ap (λ x. x ∷ givens_at flat q a (k + length (sorts_of_block flat q g.number)) (map (λ (x : Given). x.number) gs)) (given_read flat q g s a k two.0)
          ∙ ap (λ i. g ∷ givens_at flat q a (k + i) (map (λ (x : Given). x.number) gs)) (sym n)
          ∙ ap (λ x. g ∷ x) (rest.read a (k + length own) two.1);
    }

-- ---- a block that isn't passed takes zeros

abbrev pub zeros : List Sort → List Value
zeros [] = []
zeros (s ∷ ss) = zero_of s ∷ zeros ss

pub zeros_have : (ss : List Sort) → AreSorts ss → sorted_as ss (zeros ss) ≡ true
zeros_have [] h = refl
zeros_have (s ∷ ss) (h, hs) = and_two (has_sort (zero_of s) s) (sorted_as ss (zeros ss)) (keep_sorts.zero s h) (zeros_have ss hs)

abbrev pub falses : ℕ → List Bool
falses zero = []
falses (suc n) = false ∷ falses n

pub falses_count : (n : ℕ) → length (falses n) ≡ n
falses_count zero = refl
falses_count (suc n) = ap suc (falses_count n)

abbrev pub dull : Limited → FlatProc → ℕ → Given
dull flat q n = record {
  number = n;
  values = values_in (items_at flat q n) (zeros (chosen (items_at flat q n)));
  results = results_in (items_at flat q n) (zeros (chosen (items_at flat q n)));
  choices = falses (choices_at q n);
}

pub dull_shaped : (flat : Limited) (q : FlatProc) → ((n : ℕ) → AreSorts (chosen (items_at flat q n))) → (n : ℕ) → Shaped flat q (dull flat q n)
dull_shaped flat q are n = record { ins = zeros (chosen (items_at flat q n)); sorts = zeros_have (chosen (items_at flat q n)) (are n); values_are = refl; results_are = refl; count = falses_count (choices_at q n) }
