-- Blocks whose edges lead to higher numbers are acyclic, and fit.
use Rattle.std.proofs.Common.{◌≡◌, ℕ, zero, suc, ◌<◌, ◌+◌, Bool, true, false, ◌&&◌, List, [], ◌∷◌, length, arith, refl, subst, ap, ◌∙◌}
use Rattle.std.specs.Prelude.{Option, None, Some, slice_get, nat_lt, Contains}
use Rattle.std.specs.List.{list_all}
use Rattle.std.proofs.lemmas.Bool.{and_parts, and_from, ltb-true}
use Rattle.hy_val.specs.Scope.{Scope}
use Rattle.flat_prog.specs.Shape.{cmd_fits, next_fits, place_of, place_at, Onward, AreAcyclic, block_fits as fits_as_block}
use Rattle.flat_prog.specs.Sites.{numbers_from}
use Rattle.flat_prog.specs.declared.block.FlatBlock.{FlatBlock}
use Rattle.flat_prog.specs.declared.block.FlatNext.{FlatNext}
use Rattle.flat_prog.specs.declared.block.FlatNext.TheVariants.{Goto, Return}
use Rattle.flat_prog.specs.declared.proc.FlatProc.{FlatProc}
use Rattle.flat_parts.specs.Parts.{is_behind, leads_on, block_fits, blocks_fit}
use Rattle.flat_parts.proofs.Lists.{passes, among}

within : (n count : ℕ) (ts : List ℕ) → list_all (is_behind n count) ts ≡ true → list_all (λ t. nat_lt t count) ts ≡ true
within n count [] h = refl
within n count (t ∷ ts) h =
    let p = and_parts (is_behind n count t) (list_all (is_behind n count) ts) h in
    and_from (nat_lt t count) (list_all (λ t. nat_lt t count) ts) (and_parts (nat_lt n t) (nat_lt t count) p.0).1 (within n count ts p.1)

next_is : (next : FlatNext) (n count : ℕ) → leads_on n count next ≡ true → next_fits count next ≡ true
next_is Return n count h = refl
next_is (Goto ts) n count h =
    let p = and_parts (nat_lt 0 (length ts)) (list_all (is_behind n count) ts) h in
    and_from (nat_lt 0 (length ts)) (list_all (λ t. nat_lt t count) ts) p.0 (within n count ts p.1)

pub all_fit : (procs : List FlatProc) (scope : Scope) (count n : ℕ) (blocks : List FlatBlock) → blocks_fit procs scope count n blocks ≡ true → list_all (fits_as_block procs scope count) blocks ≡ true
all_fit procs scope count n [] h = refl
all_fit procs scope count n (b ∷ bs) h =
    let p = and_parts (block_fits procs scope count n b) (blocks_fit procs scope count (n + 1) bs) h in
    let one = and_parts (list_all (cmd_fits procs scope) b.cmds) (leads_on n count b.next) p.0 in
    and_from (fits_as_block procs scope count b) (list_all (fits_as_block procs scope count) bs)
    (and_from (list_all (cmd_fits procs scope) b.cmds) (next_fits count b.next) one.0 (next_is b.next n count one.1)) (all_fit procs scope count (n + 1) bs p.1)

fits_at : (procs : List FlatProc) (scope : Scope) (count n : ℕ) (blocks : List FlatBlock) (m : ℕ) (b : FlatBlock) → blocks_fit procs scope count n blocks ≡ true → slice_get blocks m ≡ Some b →
    leads_on (n + m) count b.next ≡ true
fits_at procs scope count n [] m b h e = absurd cc
fits_at procs scope count n (x ∷ xs) zero b h e =
    let same : x ≡ b = cc in
    let here : n ≡ n + 0 = omega arith in
    let p = and_parts (block_fits procs scope count n x) (blocks_fit procs scope count (n + 1) xs) h in
    let one = and_parts (list_all (cmd_fits procs scope) x.cmds) (leads_on n count x.next) p.0 in
    subst (λ m. leads_on m count b.next ≡ true) here (subst (λ (y : FlatBlock). leads_on n count y.next ≡ true) same one.1)
fits_at procs scope count n (x ∷ xs) (suc m) b h e =
    let there : (n + 1) + m ≡ n + suc m = omega arith in
    subst (λ m. leads_on m count b.next ≡ true) there (fits_at procs scope count (n + 1) xs m b (and_parts (block_fits procs scope count n x) (blocks_fit procs scope count (n + 1) xs) h).1 e)

behind_at : (next : FlatNext) (n count place to : ℕ) → leads_on n count next ≡ true → place_of next place ≡ Some to → (n < to) × (to < count)
behind_at Return n count place to h e = absurd cc
behind_at (Goto ts) n count place to h e =
    let t = passes (is_behind n count) ts place to (and_parts (nat_lt 0 (length ts)) (list_all (is_behind n count) ts) h).1 e in
    let p = and_parts (nat_lt n to) (nat_lt to count) t in
    (ltb-true n to p.0, ltb-true to count p.1)

onward : (blocks : List FlatBlock) (n k : ℕ) → n + k ≡ length blocks → ((m : ℕ) (b : FlatBlock) → slice_get blocks m ≡ Some b → leads_on m (length blocks) b.next ≡ true) → Onward blocks (numbers_from n k)
onward blocks n zero e each = tt
onward blocks n (suc k) e each = (λ place to h. leads (slice_get blocks n) refl place to h, onward blocks (n + 1) k (omega (arith, e)) each)
  where
    leads : (o : Option FlatBlock) → slice_get blocks n ≡ o → (place to : ℕ) → place_at o place ≡ Some to → Contains (numbers_from (n + 1) k) to
    leads None is place to h = absurd cc
    leads (Some b) is place to h =
        let p = behind_at b.next n (length blocks) place to (each n b is) h in
        let low = p.0 in let high = p.1 in
        among (n + 1) k to (omega (arith, low)) (omega (arith, high, e))

pub acyclic : (procs : List FlatProc) (scope : Scope) (blocks : List FlatBlock) → blocks_fit procs scope (length blocks) 0 blocks ≡ true → AreAcyclic blocks
acyclic procs scope blocks h = record {
  order = numbers_from 0 (length blocks);
  onward = onward blocks 0 (length blocks) (omega arith) (λ m b is. let e : 0 + m ≡ m = omega arith in subst (λ n. leads_on n (length blocks) b.next ≡ true) e (fits_at procs scope (length blocks) 0 blocks m b h is));
  every = λ n lt. among 0 (length blocks) n (omega arith) (omega (arith, lt));
}
