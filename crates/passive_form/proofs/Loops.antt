-- Loops that go through a list: what is made of the whole list is what is made of the rest, from where the loop stands.
use Rattle.std.proofs.Common.{◌≡◌, ℕ, zero, suc, ◌+◌, ◌<◌, ◌≤◌, List, [], ◌∷◌, ◌++◌, map, length, drop, arith, sym, ◌∙◌, ap, refl, append-nil, append_assoc}
use Rattle.std.specs.Prelude.{slice_get, slice_index_or}
use Rattle.hy_val.specs.declared.sort.Sort.{Sort}
use Rattle.hy_val.specs.declared.sort.ScalarKind.TheVariants.{Bool as BoolSort}
use Rattle.hy_val.specs.declared.sort.SortKind.TheVariants.{Scalar as ScalarSort}
use Rattle.hy_val.specs.declared.expr.Var.{Var}
use Rattle.hy_val.specs.declared.expr.ExprNode.{ExprNode}
use Rattle.flat_prog.specs.declared.block.FlatCmd.{FlatCmd}
use Rattle.flat_prog.specs.declared.proc.FlatProc.{FlatProc}
use Rattle.passive_form.specs.Limited.{Limited}
use Rattle.passive_form.specs.Local.{sort_of, targets_of}
use Rattle.passive_form.specs.declared.Item.{Item}
use Rattle.passive_form.specs.declared.Item.TheVariants.{Let, Zero, Free}
use Rattle.passive_form.specs.declared.PassiveBlock.{PassiveBlock}
use Rattle.passive_form.specs.declared.commands.Draft.{Draft}
use Rattle.passive_form.specs.Versions.{Cur, from}
use Rattle.passive_form.specs.Making.{over_versions, set_version, set_versions, lets, frees, sort_or, items_of, cur_after, next_after, items_all, cur_end, block_or, passive_block, passive_blocks, free_items, zero_items}
use Rattle.passive_form.specs.Drafts.{with_lets, with_frees, with_cmd}

-- the rest of a list at a place, and at its end
pub rest_at_by : {A : Type 0} (xs : List A) (i : ℕ) (d : A) → i < length xs → drop i xs ≡ slice_index_or xs i d ∷ drop (suc i) xs
rest_at_by [] i d l = absurd (omega (arith, l))
rest_at_by (x ∷ xs) zero d l = refl
rest_at_by (x ∷ xs) (suc i) d l = rest_at_by xs i d (omega (arith, l))

pub rest_at : {A : Type 0} (xs : List A) (i : ℕ) (d : A) → i < length xs → drop i xs ≡ slice_index_or xs i d ∷ drop (i + 1) xs
rest_at xs i d l = let n : suc i ≡ i + 1 = omega arith in rest_at_by xs i d l ∙ ap (λ n. slice_index_or xs i d ∷ drop n xs) n

pub rest_none : {A : Type 0} (xs : List A) (i : ℕ) → length xs ≤ i → drop i xs ≡ []
rest_none [] zero l = refl
rest_none [] (suc i) l = refl
rest_none (x ∷ xs) zero l = absurd (omega (arith, l))
rest_none (x ∷ xs) (suc i) l = rest_none xs i (omega (arith, l))

-- ---- new versions

abbrev pub pushed : List ℕ × ℕ → List Sort → List ℕ × ℕ
pushed d ss = (d.0 ++ from d.1 ss, d.1 + length ss)

abbrev pub targets_set : Cur × ℕ → List (Var × List ExprNode) → Cur
targets_set d pairs = set_versions d.0 (targets_of pairs) pairs d.1

abbrev pub freed : List Item × ℕ → List Sort → List Item × ℕ
freed d ss = (d.0 ++ free_items d.1 ss, d.1 + length ss)

abbrev pub zeroed : List Item × ℕ → List Sort → List Item
zeroed d ss = d.0 ++ zero_items d.1 ss

abbrev pub all_pushed : Limited → FlatProc → Draft × ℕ → List FlatCmd → Cur × List Item
all_pushed flat q d cs = (cur_end flat d.0.current d.0.next cs, d.0.items ++ items_all flat q d.0.current d.1 d.0.next cs)

abbrev pub blocks_made : Limited → FlatProc → List PassiveBlock → List ℕ → List PassiveBlock
blocks_made flat q bs ns = bs ++ passive_blocks flat q ns

-- ---- lists of versions, part by part

pub from_append : {A : Type 0} (k : ℕ) (xs ys : List A) → from k (xs ++ ys) ≡ from k xs ++ from (k + length xs) ys
from_append k [] ys = let e : k ≡ k + 0 = omega arith in ap (λ n. from n ys) e
from_append k (x ∷ xs) ys =
    let e : k + 1 + length xs ≡ k + suc (length xs) = omega arith in
    ap (λ zs. k ∷ zs) (from_append (k + 1) xs ys ∙ ap (λ n. from (k + 1) xs ++ from n ys) e)

pub free_append : (k : ℕ) (xs ys : List Sort) → free_items k (xs ++ ys) ≡ free_items k xs ++ free_items (k + length xs) ys
free_append k [] ys = let e : k ≡ k + 0 = omega arith in ap (λ n. free_items n ys) e
free_append k (x ∷ xs) ys =
    let e : k + 1 + length xs ≡ k + suc (length xs) = omega arith in
    ap (λ (zs : List Item). Free k x ∷ zs) (free_append (k + 1) xs ys ∙ ap (λ n. free_items (k + 1) xs ++ free_items n ys) e)

-- ---- the outs of a call

set_none : (cur : Cur) (xs : List Var) (k : ℕ) → set_versions {A = Sort} cur xs [] k ≡ cur
set_none cur [] k = refl
set_none cur (x ∷ xs) k = refl

pub set_over : (whole cur : Cur) (xs : List Var) (ss : List Sort) (i k : ℕ) → whole ≡ set_versions cur (drop i xs) (drop i ss) k → length ss ≤ i → whole ≡ cur
set_over whole cur xs ss i k so l = so ∙ ap (λ zs. set_versions cur (drop i xs) zs k) (rest_none ss i l) ∙ set_none cur (drop i xs) k

pub set_on : (whole cur : Cur) (xs : List Var) (ss : List Sort) (i k : ℕ) (d : Var) → whole ≡ set_versions cur (drop i xs) (drop i ss) k → i < length xs → i < length ss →
    whole ≡ set_versions (set_version cur (slice_index_or xs i d) k) (drop (i + 1) xs) (drop (i + 1) ss) (k + 1)
set_on whole cur xs ss i k d so l m =
    so ∙ ap (λ ys. set_versions cur ys (drop i ss) k) (rest_at xs i d l)
    ∙ ap (λ zs. set_versions cur (slice_index_or xs i d ∷ drop (i + 1) xs) zs k) (rest_at ss i (ScalarSort BoolSort) m)
