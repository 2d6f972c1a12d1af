-- A variable for each constant, global and in, behind the literal true.
use Rattle.std.proofs.Common.{◌≡◌, ℕ, zero, suc, ◌+◌, ◌-◌, ◌<◌, ◌≤◌, Bool, true, false, List, [], ◌∷◌, ◌++◌, length, take, arith, sym, ◌∙◌, ap, refl, subst, append-nil, append_assoc, length-append}
use Rattle.std.specs.Prelude.{Option, None, Some, slice_index_or, nat_eq, IsTrue, is_some, if◌then◌else◌, ◌&&◌}
use Rattle.std.specs.Option.{option_and_then}
use Rattle.std.proofs.lemmas.Bool.Decides.{nat_tests}
use Rattle.hy_val.specs.NodeSorts.{is_sort}
use Rattle.hy_val.specs.declared.sort.Sort.{Sort}
use Rattle.hy_term.specs.TermSorts.{sorts, sorts_onto, sort_behind, sort_of_node, sort_of_number, or_else, free_or_same, fits_behind}
use Rattle.hy_term.specs.declared.node.TermNode.{TermNode}
use Rattle.hy_term.specs.declared.node.TermNode.TheVariants.{Lit, Variable}
use Rattle.hy_val.specs.declared.atom.AtomKind.TheVariants.{Bool as BoolAtom}
use Rattle.flat_prog.specs.Sites.{numbers_from}
use Rattle.vc_gen.specs.Emit.{row_of}
use Rattle.vc_gen.specs.Items.{bool_sort, AreSorts}
use Rattle.passive_form.specs.declared.Passive.{Passive}
use Rattle.vc_gen.specs.declared.parts.Actuals.{Actuals}
use Rattle.proc_template.specs.Starting.{first_nodes, first_sorts, first_actuals, IsBegun, Adds}

-- ---- rows of variables

pub row_append : (k : ℕ) (xs ys : List Sort) → row_of k (xs ++ ys) ≡ row_of k xs ++ row_of (k + length xs) ys
row_append k [] ys = let e : k ≡ k + 0 = omega arith in ap (λ i. row_of i ys) e
row_append k (x ∷ xs) ys = let e : k + 1 + length xs ≡ k + suc (length xs) = omega arith in ap (λ r. Variable k x ∷ r) (row_append (k + 1) xs ys ∙ ap (λ i. row_of (k + 1) xs ++ row_of i ys) e)

pub row_count : (k : ℕ) (xs : List Sort) → length (row_of k xs) ≡ length xs
row_count k [] = refl
row_count k (x ∷ xs) = ap suc (row_count (k + 1) xs)

pub numbers_append : (k m n : ℕ) → numbers_from k (m + n) ≡ numbers_from k m ++ numbers_from (k + m) n
numbers_append k zero n = let e : 0 + n ≡ n = omega arith in let f : k ≡ k + 0 = omega arith in ap (numbers_from k) e ∙ ap (λ i. numbers_from i n) f
numbers_append k (suc m) n =
    let e : suc m + n ≡ suc (m + n) = omega arith in
    let f : k + 1 + m ≡ k + suc m = omega arith in
    ap (numbers_from k) e ∙ ap (λ r. k ∷ r) (numbers_append (k + 1) m n ∙ ap (λ i. numbers_from (k + 1) m ++ numbers_from i n) f)

-- ---- their sorts

sorts_rest : (known : List Sort) (k : ℕ) (ss : List Sort) → AreSorts ss → sorts_onto known (row_of k ss) ≡ Some (known ++ ss)
sorts_rest known k [] h = ap Some (sym (append-nil known))
sorts_rest known k (s ∷ ss) h =
    ap (λ (b : Bool). option_and_then (λ (t : Sort). sorts_onto (known ++ t ∷ []) (row_of (k + 1) ss)) (if b then Some s else None)) h.0
    ∙ sorts_rest (known ++ s ∷ []) (k + 1) ss h.1 ∙ ap Some (append_assoc known (s ∷ []) ss)

pub begun_sorts : (ss : List Sort) → AreSorts ss → sorts (first_nodes ss) ≡ Some (bool_sort ∷ ss)
begun_sorts ss h = sorts_rest (bool_sort ∷ []) 0 ss h

no_number : (n k : ℕ) (ss : List Sort) → k + length ss ≤ n → sort_of_number n (row_of k ss) ≡ None
no_number n k [] l = refl
no_number n k (s ∷ ss) l =
    let e : nat_eq k n ≡ false = other k n (omega (arith, l)) in
    ap (λ (b : Bool). or_else (if b then Some s else None) (sort_of_number n (row_of (k + 1) ss))) e ∙ no_number n (k + 1) ss (omega (arith, l))
  where
    other : (i j : ℕ) → i < j → nat_eq i j ≡ false
    other i j h = grind (arith, nat_tests)

pub begun_fits : (ss : List Sort) (s : Sort) → AreSorts ss → is_sort s ≡ true → IsTrue (fits_behind (first_nodes ss) (Variable (length ss) s))
begun_fits ss s h k =
    let behind : sort_behind (first_nodes ss) (Variable (length ss) s) ≡ Some s =
    ap (option_and_then (λ (known : List Sort). sort_of_node known (Variable (length ss) s))) (begun_sorts ss h) ∙ ap (λ (b : Bool). if b then Some s else None) k in
    ap (λ (o : Option Sort). is_some o && free_or_same (sort_of_number (length ss) (first_nodes ss)) s) behind
    ∙ ap (λ (o : Option Sort). free_or_same o s) (no_number (length ss) 0 ss (omega arith))

pub variable_fits : (nodes : List TermNode) (s : Sort) → IsBegun nodes → is_sort s ≡ true → IsTrue (fits_behind nodes (Variable (length nodes - 1) s))
variable_fits nodes s b k =
    let count : length (first_nodes b.0) - 1 ≡ length b.0 = let c = row_count 0 b.0 in omega (arith, c) in
    subst (λ (ns : List TermNode). IsTrue (fits_behind ns (Variable (length ns - 1) s))) (sym b.1)
    (subst (λ (n : ℕ). IsTrue (fits_behind (first_nodes b.0) (Variable n s))) (sym count) (begun_fits b.0 s b.2 k))

-- ---- what is added

pub are_append : (xs ys : List Sort) → AreSorts xs → AreSorts ys → AreSorts (xs ++ ys)
are_append [] ys h k = k
are_append (x ∷ xs) ys h k = (h.0, are_append xs ys h.1 k)

pub are_take : (n : ℕ) (xs : List Sort) → AreSorts xs → AreSorts (take n xs)
are_take zero xs h = tt
are_take (suc n) [] h = tt
are_take (suc n) (x ∷ xs) h = (h.0, are_take n xs h.1)

pub adds_one : (old new : List TermNode) (s : Sort) (t : ℕ) → new ≡ old ++ Variable (length old - 1) s ∷ [] → t ≡ length old → Adds old (s ∷ []) new (t ∷ [])
adds_one old new s t is at_end = λ ss e.
    let count : length old ≡ 1 + length ss = let c = row_count 0 ss in ap length e ∙ (let f : suc (length (row_of 0 ss)) ≡ 1 + length ss = omega (arith, c) in f) in
    let number : length old - 1 ≡ 0 + length ss = omega (arith, count) in (
      is ∙ ap (λ (n : ℕ). old ++ Variable n s ∷ []) number ∙ ap (λ (ns : List TermNode). ns ++ Variable (0 + length ss) s ∷ []) e ∙ ap (λ (ns : List TermNode). Lit (BoolAtom true) ∷ ns) (sym (row_append 0 ss (s ∷ []))),
      ap (λ (i : ℕ). i ∷ []) (at_end ∙ count),
    )

pub adds_both : (old mid new : List TermNode) (xs ys : List Sort) (ts us : List ℕ) → Adds old xs mid ts → Adds mid ys new us → Adds old (xs ++ ys) new (ts ++ us)
adds_both old mid new xs ys ts us h k = λ ss e.
    let one = h ss e in
    let two = k (ss ++ xs) one.0 in
    let count : 1 + length (ss ++ xs) ≡ 1 + length ss + length xs = let c = length-append ss xs in omega (arith, c) in (
      two.0 ∙ ap first_nodes (append_assoc ss xs ys),
      ap (λ r. r ++ us) one.1 ∙ ap (λ r. numbers_from (1 + length ss) (length xs) ++ r) (two.1 ∙ ap (λ i. numbers_from i (length ys)) count)
          ∙ sym (ap (numbers_from (1 + length ss)) (length-append xs ys) ∙ numbers_append (1 + length ss) (length xs) (length ys)),
    )

pub begun_still : (old new : List TermNode) (xs : List Sort) (ts : List ℕ) → IsBegun old → AreSorts xs → Adds old xs new ts → IsBegun new
begun_still old new xs ts b h k = (b.0 ++ xs, (k b.0 b.1).0, are_append b.0 xs b.2 h)

-- ---- sorts one by one

sort_of_all : (ss : List Sort) (i : ℕ) (s : Sort) → AreSorts ss → i < length ss → is_sort (slice_index_or ss i s) ≡ true
sort_of_all [] i s h l = absurd (omega (arith, l))
sort_of_all (x ∷ ss) zero s h l = h.0
sort_of_all (x ∷ ss) (suc i) s h l = sort_of_all ss i s h.1 (omega (arith, l))

pub next_is_sort : (ss : List Sort) (i : ℕ) (s : Sort) → AreSorts ss → i < length ss → s ≡ slice_index_or ss i s → IsTrue (is_sort s)
next_is_sort ss i s h l is = ap is_sort is ∙ sort_of_all ss i s h l

take_next : (xs : List Sort) (d : Sort) (i : ℕ) → i < length xs → take (suc i) xs ≡ take i xs ++ slice_index_or xs i d ∷ []
take_next [] d i l = absurd (omega (arith, l))
take_next (x ∷ xs) d zero l = refl
take_next (x ∷ xs) d (suc i) l = ap (λ ys. x ∷ ys) (take_next xs d i (omega (arith, l)))

pub adds_next : (old mid new : List TermNode) (ss : List Sort) (i : ℕ) (s : Sort) (ts us : List ℕ) (t : ℕ) → i < length ss → s ≡ slice_index_or ss i s → us ≡ ts ++ t ∷ [] → Adds old (take i ss) mid ts → Adds mid (s ∷ []) new (t ∷ []) → Adds old (take (i + 1) ss) new us
adds_next old mid new ss i s ts us t l is pushed h k =
    let n : i + 1 ≡ suc i = omega arith in
    let more : take (i + 1) ss ≡ take i ss ++ s ∷ [] = ap (λ m. take m ss) n ∙ take_next ss s i l ∙ ap (λ x. take i ss ++ x ∷ []) (sym is) in
    subst (λ (xs : List Sort). Adds old xs new us) (sym more) (subst (λ (vs : List ℕ). Adds old (take i ss ++ s ∷ []) new vs) (sym pushed) (adds_both old mid new (take i ss) (s ∷ []) ts (t ∷ []) h k))

-- ---- constants, globals and ins

pub are_first : (xs ys : List Sort) → AreSorts (xs ++ ys) → AreSorts xs
are_first [] ys h = tt
are_first (x ∷ xs) ys h = (h.0, are_first xs ys h.1)

pub are_second : (xs ys : List Sort) → AreSorts (xs ++ ys) → AreSorts ys
are_second [] ys h = h
are_second (x ∷ xs) ys h = are_second xs ys h.1

abbrev actuals_of : List ℕ → List ℕ → List ℕ → Actuals
actuals_of ts us vs = record { consts = ts; globals = us; args = vs }

pub all_added : (p : Passive) (old n1 n2 n3 : List TermNode) (ts us vs : List ℕ) → old ≡ first_nodes [] → Adds old p.consts n1 ts → Adds n1 p.globals n2 us → Adds n2 p.ins n3 vs →
    (n3 ≡ first_nodes (first_sorts p)) × (actuals_of ts us vs ≡ first_actuals p)
all_added p old n1 n2 n3 ts us vs e h k m =
    let one = h [] e in
    let two = k p.consts one.0 in
    let three = m (p.consts ++ p.globals) two.0 in
    let count : 1 + length (p.consts ++ p.globals) ≡ 1 + length p.consts + length p.globals = let c = length-append p.consts p.globals in omega (arith, c) in (
      three.0 ∙ ap first_nodes (append_assoc p.consts p.globals p.ins),
      ap (λ x. actuals_of x us vs) one.1 ∙ ap (λ x. actuals_of (numbers_from 1 (length p.consts)) x vs) two.1
          ∙ ap (actuals_of (numbers_from 1 (length p.consts)) (numbers_from (1 + length p.consts) (length p.globals))) (three.1 ∙ ap (λ i. numbers_from i (length p.ins)) count),
    )
