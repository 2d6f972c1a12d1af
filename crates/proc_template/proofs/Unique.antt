-- Each variable of a formula is one node.
use Rattle.std.proofs.Common.{arith, ◌≡◌, ℕ, zero, suc, ◌+◌, ◌<◌, ◌≤◌, List, [], ◌∷◌, ◌++◌, length, sym, ap, ◌∙◌, refl}
use Rattle.std.specs.Prelude.{slice_get, Some}
use Rattle.hy_val.specs.declared.sort.Sort.{Sort}
use Rattle.hy_term.specs.declared.node.TermNode.{TermNode}
use Rattle.hy_term.specs.declared.node.TermNode.TheVariants.{Variable}
use Rattle.flat_prog.specs.Sites.{numbers_from}
use Rattle.vc_gen.specs.Emit.{row_of}
use Rattle.vc_gen.specs.Standing.{variables_in}
use Rattle.vc_gen.specs.Whole.{NewVariables}
use Rattle.proc_template.specs.Starting.{first_nodes}
use Rattle.proc_template.proofs.Beginning.{numbers_append}

above : (a m : ℕ) (nodes : List TermNode) → variables_in nodes ≡ numbers_from a m → (i n : ℕ) (s : Sort) → slice_get nodes i ≡ Some (Variable n s) → a ≤ n
above a m [] e i n s is = cc
above a zero (Variable k r ∷ nodes) e i n s is = cc
above a (suc m) (Variable k r ∷ nodes) e zero n s is = let h : a ≡ n = cc in omega (arith, h)
above a (suc m) (Variable k r ∷ nodes) e (suc i) n s is =
    let rest : variables_in nodes ≡ numbers_from (a + 1) m = cc in
    let h = above (a + 1) m nodes rest i n s is in
    omega (arith, h)
above a m (node ∷ nodes) e zero n s is = cc
above a m (node ∷ nodes) e (suc i) n s is = above a m nodes e i n s is

pub under : (a m : ℕ) (nodes : List TermNode) → variables_in nodes ≡ numbers_from a m → (i n : ℕ) (s : Sort) → slice_get nodes i ≡ Some (Variable n s) → n < a + m
under a m [] e i n s is = cc
under a zero (Variable k r ∷ nodes) e i n s is = cc
under a (suc m) (Variable k r ∷ nodes) e zero n s is = let h : a ≡ n = cc in omega (arith, h)
under a (suc m) (Variable k r ∷ nodes) e (suc i) n s is =
    let rest : variables_in nodes ≡ numbers_from (a + 1) m = cc in
    let h = under (a + 1) m nodes rest i n s is in
    omega (arith, h)
under a m (node ∷ nodes) e zero n s is = cc
under a m (node ∷ nodes) e (suc i) n s is = under a m nodes e i n s is

-- a variable with a greater number stands behind
pub ordered : (a m : ℕ) (nodes : List TermNode) → variables_in nodes ≡ numbers_from a m → (i j n k : ℕ) (s r : Sort) → slice_get nodes i ≡ Some (Variable n s) → slice_get nodes j ≡ Some (Variable k r) → n < k → i < j
ordered a m [] e i j n k s r one other l = cc
ordered a zero (Variable v q ∷ nodes) e i j n k s r one other l = cc
ordered a (suc m) (Variable v q ∷ nodes) e zero zero n k s r one other l = let same : n ≡ k = cc in absurd (omega (arith, l, same))
ordered a (suc m) (Variable v q ∷ nodes) e zero (suc j) n k s r one other l = omega arith
ordered a (suc m) (Variable v q ∷ nodes) e (suc i) zero n k s r one other l =
    let rest : variables_in nodes ≡ numbers_from (a + 1) m = cc in
    let is : a ≡ k = cc in
    let h = above (a + 1) m nodes rest i n s one in
    absurd (omega (arith, is, h, l))
ordered a (suc m) (Variable v q ∷ nodes) e (suc i) (suc j) n k s r one other l =
    let rest : variables_in nodes ≡ numbers_from (a + 1) m = cc in
    let h = ordered (a + 1) m nodes rest i j n k s r one other l in
    omega (arith, h)
ordered a m (node ∷ nodes) e zero j n k s r one other l = cc
ordered a m (node ∷ nodes) e (suc i) zero n k s r one other l = cc
ordered a m (node ∷ nodes) e (suc i) (suc j) n k s r one other l = let h = ordered a m nodes e i j n k s r one other l in omega (arith, h)

pub once : (a m : ℕ) (nodes : List TermNode) → variables_in nodes ≡ numbers_from a m → (i j n : ℕ) (s r : Sort) → slice_get nodes i ≡ Some (Variable n s) → slice_get nodes j ≡ Some (Variable n r) → i ≡ j
once a m [] e i j n s r one other = cc
once a zero (Variable k q ∷ nodes) e i j n s r one other = cc
once a (suc m) (Variable k q ∷ nodes) e zero zero n s r one other = refl
once a (suc m) (Variable k q ∷ nodes) e zero (suc j) n s r one other =
    let rest : variables_in nodes ≡ numbers_from (a + 1) m = cc in
    let is : a ≡ n = cc in
    let h = above (a + 1) m nodes rest j n r other in
    omega (arith, is, h)
once a (suc m) (Variable k q ∷ nodes) e (suc i) zero n s r one other =
    let rest : variables_in nodes ≡ numbers_from (a + 1) m = cc in
    let is : a ≡ n = cc in
    let h = above (a + 1) m nodes rest i n s one in
    omega (arith, is, h)
once a (suc m) (Variable k q ∷ nodes) e (suc i) (suc j) n s r one other =
    let rest : variables_in nodes ≡ numbers_from (a + 1) m = cc in
    ap suc (once (a + 1) m nodes rest i j n s r one other)
once a m (node ∷ nodes) e zero j n s r one other = cc
once a m (node ∷ nodes) e (suc i) zero n s r one other = cc
once a m (node ∷ nodes) e (suc i) (suc j) n s r one other = ap suc (once a m nodes e i j n s r one other)

row_numbers : (k : ℕ) (ss : List Sort) → variables_in (row_of k ss) ≡ numbers_from k (length ss)
row_numbers k [] = refl
row_numbers k (s ∷ ss) = ap (λ ns. k ∷ ns) (row_numbers (k + 1) ss)

-- the variables stand in the order of their numbers
pub in_order : (ss : List Sort) (nodes : List TermNode) (next : ℕ) (h : NewVariables (first_nodes ss) (length ss) nodes next) → variables_in nodes ≡ numbers_from 0 (length ss + h.count)
in_order ss nodes next h =
    let k : length ss ≡ 0 + length ss = omega arith in
    h.numbers ∙ ap (λ ns. ns ++ numbers_from (length ss) h.count) (row_numbers 0 ss) ∙ ap (λ i. numbers_from 0 (length ss) ++ numbers_from i h.count) k ∙ sym (numbers_append 0 (length ss) h.count)
