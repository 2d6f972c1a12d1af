-- The first variables of a formula say the constants, and the globals and ins of a call.
use Rattle.std.proofs.Common.{arith, ◌≡◌, ℕ, zero, suc, ◌+◌, ◌<◌, ◌≤◌, true, List, [], ◌∷◌, ◌++◌, map, length, sym, ap, ◌∙◌, refl, append_assoc}
use Rattle.std.specs.Prelude.{slice_get, Some, IsTrue, IsSome}
use Rattle.std.proofs.lemmas.Bool.{and_parts, and_from}
use Rattle.hy_val.specs.Stores.{have_sorts}
use Rattle.hy_val.specs.Values.{at, has_sort}
use Rattle.hy_val.specs.declared.sort.Sort.{Sort}
use Rattle.hy_val.specs.declared.value.Value.{Value}
use Rattle.hy_term.specs.Laws.{EachNodeHasItsValue}
use Rattle.hy_term.specs.Meaning.{fits, value, values, Grows}
use Rattle.hy_term.specs.TermSorts.{sorts}
use Rattle.hy_term.specs.Variables.{reads}
use Rattle.hy_term.specs.declared.node.TermNode.{TermNode}
use Rattle.hy_term.specs.declared.node.TermNode.TheVariants.{Variable}
use Rattle.flat_prog.specs.Sites.{numbers_from}
use Rattle.vc_gen.specs.Emit.{row_of}
use Rattle.proc_template.specs.Starting.{first_nodes}
use Rattle.proc_template.proofs.Beginning.{row_append}

-- ---- their values

row_at : (k : ℕ) (ss : List Sort) (more : List TermNode) (j : ℕ) → j < length ss → (s : Sort) × (slice_get (row_of k ss ++ more) j ≡ Some (Variable (k + j) s))
row_at k [] more j h = absurd (omega (arith, h))
row_at k (s ∷ ss) more zero h = let e : k ≡ k + 0 = omega arith in (s, ap (λ i. Some (Variable i s)) e)
row_at k (s ∷ ss) more (suc j) h =
    let r = row_at (k + 1) ss more j (omega (arith, h)) in
    let e : k + 1 + j ≡ k + suc j = omega arith in
    (r.0, r.1 ∙ ap (λ i. Some (Variable i r.0)) e)

first_value : EachNodeHasItsValue → (a : ℕ → Value) (ss : List Sort) (nodes : List TermNode) → Grows (first_nodes ss) nodes → IsSome (sorts nodes) → (j : ℕ) → j < length ss → value a nodes (suc j) ≡ a j
first_value law a ss nodes g s j h =
    let r = row_at 0 ss g.0 j h in
    let e : 0 + j ≡ j = omega arith in
    law a nodes (suc j) (Variable j r.0) s (ap (λ (ns : List TermNode). slice_get ns (suc j)) g.1 ∙ r.1 ∙ ap (λ i. Some (Variable i r.0)) e)

pub first_values : EachNodeHasItsValue → (a : ℕ → Value) (ss : List Sort) (nodes : List TermNode) → Grows (first_nodes ss) nodes → IsSome (sorts nodes) → (k m : ℕ) → k + m ≤ length ss → map (at (values a nodes)) (numbers_from (1 + k) m) ≡ reads a k m
first_values law a ss nodes g s k zero h = refl
first_values law a ss nodes g s k (suc m) h =
    let e : 1 + k ≡ suc k = omega arith in
    let f : 1 + k + 1 ≡ 1 + (k + 1) = omega arith in
    ap (λ i. at (values a nodes) i ∷ map (at (values a nodes)) (numbers_from (1 + k + 1) m)) e
    ∙ ap (λ v. v ∷ map (at (values a nodes)) (numbers_from (1 + k + 1) m)) (first_value law a ss nodes g s k (omega (arith, h)))
    ∙ ap (λ i. a k ∷ map (at (values a nodes)) (numbers_from i m)) f
    ∙ ap (λ vs. a k ∷ vs) (first_values law a ss nodes g s (k + 1) m (omega (arith, h)))

-- ---- their sorts

have_row : (a : ℕ → Value) (k : ℕ) (xs : List Sort) (rest : List TermNode) → fits a (row_of k xs ++ rest) ≡ true → (have_sorts (reads a k (length xs)) xs ≡ true) × (fits a rest ≡ true)
have_row a k [] rest h = (refl, h)
have_row a k (x ∷ xs) rest h =
    let p = and_parts (has_sort (a k) x) (fits a (row_of (k + 1) xs ++ rest)) h in
    let r = have_row a (k + 1) xs rest p.1 in
    (and_from (has_sort (a k) x) (have_sorts (reads a (k + 1) (length xs)) xs) p.0 r.0, r.1)

pub first_sorted : (a : ℕ → Value) (xs ys zs : List Sort) (nodes : List TermNode) → Grows (first_nodes (xs ++ (ys ++ zs))) nodes → IsTrue (fits a nodes) →
    (have_sorts (reads a 0 (length xs)) xs ≡ true) × (have_sorts (reads a (length xs) (length ys)) ys ≡ true) × (have_sorts (reads a (length xs + length ys) (length zs)) zs ≡ true)
first_sorted a xs ys zs nodes g h =
    let row = row_of 0 (xs ++ (ys ++ zs)) in
    let z : 0 + length xs ≡ length xs = omega arith in
    let parts : row ++ g.0 ≡ row_of 0 xs ++ (row_of (length xs) ys ++ (row_of (length xs + length ys) zs ++ g.0)) =
    ap (λ r. r ++ g.0) (row_append 0 xs (ys ++ zs) ∙ ap (λ i. row_of 0 xs ++ row_of i (ys ++ zs)) z ∙ ap (λ r. row_of 0 xs ++ r) (row_append (length xs) ys zs))
    ∙ append_assoc (row_of 0 xs) (row_of (length xs) ys ++ row_of (length xs + length ys) zs) g.0
    ∙ ap (λ r. row_of 0 xs ++ r) (append_assoc (row_of (length xs) ys) (row_of (length xs + length ys) zs) g.0) in
    let fit : fits a (row ++ g.0) ≡ true = sym (ap (fits a) g.1) ∙ h in
    let one = have_row a 0 xs (row_of (length xs) ys ++ (row_of (length xs + length ys) zs ++ g.0)) (sym (ap (fits a) parts) ∙ fit) in
    let two = have_row a (length xs) ys (row_of (length xs + length ys) zs ++ g.0) one.1 in
    let three = have_row a (length xs + length ys) zs g.0 two.1 in
    (one.0, two.0, three.0)
