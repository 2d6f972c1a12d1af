-- Variables that stand in a row: their numbers, their sorts and their values.
use Rattle.std.proofs.Common.{◌≡◌, ℕ, zero, suc, ◌+◌, ◌<◌, Bool, true, false, List, [], ◌∷◌, ◌++◌, length, map, take, arith, sym, ◌∙◌, ap, refl, subst, append_assoc, append-nil, length-append}
use Rattle.std.specs.Prelude.{Option, None, Some, if◌then◌else◌, slice_get, nat_lt, IsTrue, IsSome}
use Rattle.std.proofs.lemmas.Bool.Decides.{nat_tests}
use Rattle.std.specs.Option.{option_and_then}
use Rattle.hy_val.specs.NodeSorts.{is_sort}
use Rattle.hy_val.specs.Stores.{have_sorts}
use Rattle.hy_val.specs.Values.{at, has_sort}
use Rattle.hy_val.specs.declared.atom.AtomKind.TheVariants.{Bool as BoolAtom}
use Rattle.hy_val.specs.declared.sort.Sort.{Sort}
use Rattle.hy_val.specs.declared.sort.SortKind.TheVariants.{Scalar as ScalarSort}
use Rattle.hy_val.specs.declared.sort.ScalarKind.TheVariants.{Bool as BoolSort}
use Rattle.hy_val.specs.declared.value.Value.{Value}
use Rattle.hy_val.specs.declared.value.Value.TheVariants.{Atom as AtomValue}
use Rattle.hy_term.specs.TermSorts.{sorts_onto, sorts}
use Rattle.hy_term.specs.Meaning.{values_onto, values, fits}
use Rattle.hy_term.specs.Variables.{below}
use Rattle.hy_term.specs.declared.node.TermNode.{TermNode}
use Rattle.hy_term.specs.declared.node.TermNode.TheVariants.{Lit, Variable}
use Rattle.hy_term.proofs.Sorting.{and_both, and_left, and_right}
use Rattle.flat_prog.specs.Program.{FlatProgram}
use Rattle.flat_prog.specs.Sites.{numbers_from}
use Rattle.tree_terms.specs.Standing.{AreOf}
use Rattle.tree_terms.proofs.Growth.{below_more, below_push}
use Rattle.tree_words.specs.Stands.{ins_at}
use Rattle.tree_query.specs.declared.opening.BaseTerms.{BaseTerms}
use Rattle.tree_query.specs.Opening.{variables_from, called_sorts, IsOpening, HasTerms, CanHaveValues}

-- ---- numbers

variables-append : (k : ℕ) (xs ys : List Sort) → variables_from k (xs ++ ys) ≡ variables_from k xs ++ variables_from (k + length xs) ys
variables-append k [] ys = let e : k ≡ k + 0 = omega arith in ap (λ (n : ℕ). variables_from n ys) e
variables-append k (x ∷ xs) ys =
    let e : (k + 1) + length xs ≡ k + suc (length xs) = omega arith in
    ap (λ (r : List TermNode). Variable k x ∷ r) (variables-append (k + 1) xs ys ∙ ap (λ (n : ℕ). variables_from (k + 1) xs ++ variables_from n ys) e)

length-variables : (k : ℕ) (xs : List Sort) → length (variables_from k xs) ≡ length xs
length-variables k [] = refl
length-variables k (x ∷ xs) = ap suc (length-variables (k + 1) xs)

pub numbers-snoc : (k n : ℕ) → numbers_from k (suc n) ≡ numbers_from k n ++ (k + n) ∷ []
numbers-snoc k zero = let e : k ≡ k + 0 = omega arith in ap (λ (m : ℕ). m ∷ []) e
numbers-snoc k (suc n) =
    let e : (k + 1) + n ≡ k + suc n = omega arith in
    ap (λ (r : List ℕ). k ∷ r) (numbers-snoc (k + 1) n ∙ ap (λ (m : ℕ). numbers_from (k + 1) n ++ m ∷ []) e)

-- the numbers of variables stay below the count of the nodes
pub low_pushed : (nodes new : List TermNode) (s : Sort) → IsTrue (below (length nodes) nodes) → new ≡ nodes ++ Variable (length nodes) s ∷ [] → IsTrue (below (length new) new)
low_pushed nodes new s low is =
    let longer : length new ≡ length nodes + 1 = ap length is ∙ length-append nodes (Variable (length nodes) s ∷ []) in
    let less : nat_lt (length nodes) (length nodes + 1) ≡ true = grind (arith, nat_tests) in
    subst (λ (k : ℕ). IsTrue (below k new)) (sym longer)
    (subst (λ (ns : List TermNode). IsTrue (below (length nodes + 1) ns)) (sym is)
    (below_push (length nodes + 1) nodes (Variable (length nodes) s) (below_more (length nodes) (length nodes + 1) nodes (omega arith) low) less))

-- what holds while variables are put behind others
pub record Pushing (old : List TermNode) (ss : List Sort) (nodes : List TermNode) (numbers : List ℕ) (i : ℕ) : Type 0 where
  pub nodes_are : nodes ≡ old ++ variables_from (length old) (take i ss)
  pub numbers_are : numbers ≡ numbers_from (length old) i
  pub low : IsTrue (below (length nodes) nodes)

pub push_start : (old : List TermNode) (ss : List Sort) → IsTrue (below (length old) old) → Pushing old ss old [] 0
push_start old ss low = record { nodes_are = sym (append-nil old); numbers_are = refl; low = low }

take_suc : (ss : List Sort) (i : ℕ) (s : Sort) → slice_get ss i ≡ Some s → take (suc i) ss ≡ take i ss ++ s ∷ []
take_suc [] i s h = cc
take_suc (x ∷ ss) zero s h = let same : x ≡ s = cc in ap (λ (y : Sort). y ∷ []) same
take_suc (x ∷ ss) (suc i) s h = ap (λ (r : List Sort). x ∷ r) (take_suc ss i s h)

length_take : (ss : List Sort) (i : ℕ) (s : Sort) → slice_get ss i ≡ Some s → length (take i ss) ≡ i
length_take [] i s h = cc
length_take (x ∷ ss) zero s h = refl
length_take (x ∷ ss) (suc i) s h = ap suc (length_take ss i s h)

pub pushed : (old : List TermNode) (ss : List Sort) (nodes new : List TermNode) (numbers more : List ℕ) (i n : ℕ) (s : Sort) → slice_get ss i ≡ Some s → Pushing old ss nodes numbers i
    → n ≡ length nodes → new ≡ nodes ++ Variable (length nodes) s ∷ [] → IsTrue (below (length new) new) → more ≡ numbers ++ n ∷ [] → Pushing old ss new more (i + 1)
pushed old ss nodes new numbers more i n s is p n_is new_is low more_is =
    let next : i + 1 ≡ suc i = omega arith in
    let grown : take (i + 1) ss ≡ take i ss ++ s ∷ [] = ap (λ (k : ℕ). take k ss) next ∙ take_suc ss i s is in
    let long = length_take ss i s is in
    let count : length nodes ≡ length old + i =
    ap length p.nodes_are ∙ length-append old (variables_from (length old) (take i ss)) ∙ ap (λ (k : ℕ). length old + k) (length-variables (length old) (take i ss) ∙ long) in
    let place : length nodes ≡ length old + length (take i ss) = count ∙ ap (λ (k : ℕ). length old + k) (sym long) in
    record {
      nodes_are =
          new_is ∙ ap (λ (r : List TermNode). r ++ Variable (length nodes) s ∷ []) p.nodes_are ∙ append_assoc old (variables_from (length old) (take i ss)) (Variable (length nodes) s ∷ [])
          ∙ ap (λ (k : ℕ). old ++ (variables_from (length old) (take i ss) ++ Variable k s ∷ [])) place
          ∙ ap (λ (r : List TermNode). old ++ r) (sym (variables-append (length old) (take i ss) (s ∷ [])) ∙ ap (variables_from (length old)) (sym grown));
      numbers_are = more_is ∙ ap (λ (r : List ℕ). r ++ n ∷ []) p.numbers_are ∙ ap (λ (k : ℕ). numbers_from (length old) i ++ k ∷ []) (n_is ∙ count) ∙ sym (numbers-snoc (length old) i) ∙ ap (numbers_from (length old)) (sym next);
      low = low;
    }

take_all : (ss : List Sort) (i : ℕ) → i ≡ length ss → take i ss ≡ ss
take_all [] zero e = refl
take_all [] (suc i) e = refl
take_all (s ∷ ss) zero e = absurd (omega (arith, e))
take_all (s ∷ ss) (suc i) e = ap (λ (r : List Sort). s ∷ r) (take_all ss i (omega (arith, e)))

pub push_nodes : (old : List TermNode) (ss : List Sort) (nodes : List TermNode) (numbers : List ℕ) (i : ℕ) → i ≡ length ss → Pushing old ss nodes numbers i → nodes ≡ old ++ variables_from (length old) ss
push_nodes old ss nodes numbers i e p = p.nodes_are ∙ ap (λ (r : List Sort). old ++ variables_from (length old) r) (take_all ss i e)

pub push_numbers : (old : List TermNode) (ss : List Sort) (nodes : List TermNode) (numbers : List ℕ) (i : ℕ) → i ≡ length ss → Pushing old ss nodes numbers i → numbers ≡ numbers_from (length old) (length ss)
push_numbers old ss nodes numbers i e p = p.numbers_are ∙ ap (numbers_from (length old)) e

-- ---- sorts

sorts_by : (b : Bool) (known : List Sort) (k : ℕ) (s : Sort) (ss rs : List Sort) → option_and_then (λ t. sorts_onto (known ++ t ∷ []) (variables_from (k + 1) ss)) (if b then Some s else None) ≡ Some rs
    → sorts_onto (known ++ s ∷ []) (variables_from (k + 1) ss) ≡ Some rs
sorts_by true known k s ss rs h = h
sorts_by false known k s ss rs h = cc

sorts_from : (known : List Sort) (k : ℕ) (ss rs : List Sort) → sorts_onto known (variables_from k ss) ≡ Some rs → rs ≡ known ++ ss
sorts_from known k [] rs h = let e : known ≡ rs = cc in sym e ∙ sym (append-nil known)
sorts_from known k (s ∷ ss) rs h = sorts_from (known ++ s ∷ []) (k + 1) ss rs (sorts_by (is_sort s) known k s ss rs h) ∙ append_assoc known (s ∷ []) ss

got_here : (pre : List Sort) (s : Sort) (post : List Sort) → slice_get (pre ++ s ∷ post) (length pre) ≡ Some s
got_here [] s post = refl
got_here (p ∷ pre) s post = got_here pre s post

are_row : (nodes : List TermNode) (pre ss post : List Sort) (k : ℕ) → k ≡ length pre → sorts nodes ≡ Some (pre ++ (ss ++ post)) → AreOf nodes (numbers_from k (length ss)) ss
are_row nodes pre [] post k e h = tt
are_row nodes pre (s ∷ ss) post k e h = (
  ap (option_and_then (λ (ts : List Sort). slice_get ts k)) h ∙ ap (slice_get (pre ++ (s ∷ (ss ++ post)))) e ∙ got_here pre s (ss ++ post),
  are_row nodes (pre ++ s ∷ []) ss post (k + 1) (ap (λ (n : ℕ). n + 1) e ∙ sym (length-append pre (s ∷ []))) (h ∙ ap Some (sym (append_assoc pre (s ∷ []) (ss ++ post)))),
)

-- ---- values

-- the assignment gives the variables from a number on these values
abbrev Gives : (ℕ → Value) → ℕ → List Sort → List Value → Type 0
Gives a k ss vs = (j : ℕ) → j < length ss → a (k + j) ≡ at vs j

gives_first : (a : ℕ → Value) (k : ℕ) (s : Sort) (ss : List Sort) (v : Value) (vs : List Value) → Gives a k (s ∷ ss) (v ∷ vs) → a k ≡ v
gives_first a k s ss v vs g = let e : k ≡ k + 0 = omega arith in ap a e ∙ g zero (omega arith)

gives_rest : (a : ℕ → Value) (k : ℕ) (s : Sort) (ss : List Sort) (v : Value) (vs : List Value) → Gives a k (s ∷ ss) (v ∷ vs) → Gives a (k + 1) ss vs
gives_rest a k s ss v vs g = λ j l. let e : (k + 1) + j ≡ k + suc j = omega arith in ap a e ∙ g (suc j) (omega (arith, l))

fits_from : (a : ℕ → Value) (k : ℕ) (ss : List Sort) (vs : List Value) → Gives a k ss vs → have_sorts vs ss ≡ true → IsTrue (fits a (variables_from k ss))
fits_from a k [] vs g h = refl
fits_from a k (s ∷ ss) [] g h = cc
fits_from a k (s ∷ ss) (v ∷ vs) g h =
    and_both (has_sort (a k) s) (fits a (variables_from (k + 1) ss)) (subst (λ (x : Value). IsTrue (has_sort x s)) (sym (gives_first a k s ss v vs g)) (and_left (has_sort v s) (have_sorts vs ss) h))
    (fits_from a (k + 1) ss vs (gives_rest a k s ss v vs g) (and_right (has_sort v s) (have_sorts vs ss) h))

values_from : (a : ℕ → Value) (k : ℕ) (ss : List Sort) (vs known : List Value) → Gives a k ss vs → have_sorts vs ss ≡ true → values_onto a known (variables_from k ss) ≡ known ++ vs
values_from a k [] [] known g h = sym (append-nil known)
values_from a k [] (v ∷ vs) known g h = cc
values_from a k (s ∷ ss) [] known g h = cc
values_from a k (s ∷ ss) (v ∷ vs) known g h =
    ap (λ (w : Value). values_onto a (known ++ w ∷ []) (variables_from (k + 1) ss)) (gives_first a k s ss v vs g)
    ∙ values_from a (k + 1) ss vs (known ++ v ∷ []) (gives_rest a k s ss v vs g) (and_right (has_sort v s) (have_sorts vs ss) h) ∙ append_assoc known (v ∷ []) vs

at_here : (pre : List Value) (v : Value) (post : List Value) → at (pre ++ v ∷ post) (length pre) ≡ v
at_here [] v post = refl
at_here (p ∷ pre) v post = at_here pre v post

read_row : (pre vs post : List Value) (k : ℕ) → k ≡ length pre → map (at (pre ++ (vs ++ post))) (numbers_from k (length vs)) ≡ vs
read_row pre [] post k e = refl
read_row pre (v ∷ vs) post k e =
    let same : pre ++ (v ∷ (vs ++ post)) ≡ (pre ++ v ∷ []) ++ (vs ++ post) = sym (append_assoc pre (v ∷ []) (vs ++ post)) in
    ap (λ (w : Value). w ∷ map (at (pre ++ (v ∷ (vs ++ post)))) (numbers_from (k + 1) (length vs))) (ap (at (pre ++ (v ∷ (vs ++ post)))) e ∙ at_here pre v (vs ++ post))
    ∙ ap (λ (r : List Value). v ∷ r)
    (ap (λ (w : List Value). map (at w) (numbers_from (k + 1) (length vs))) same ∙ read_row (pre ++ v ∷ []) vs post (k + 1) (ap (λ (n : ℕ). n + 1) e ∙ sym (length-append pre (v ∷ []))))

have_append : (vs ws : List Value) (ss ts : List Sort) → have_sorts vs ss ≡ true → have_sorts ws ts ≡ true → have_sorts (vs ++ ws) (ss ++ ts) ≡ true
have_append [] ws [] ts h k = k
have_append [] ws (s ∷ ss) ts h k = cc
have_append (v ∷ vs) ws [] ts h k = cc
have_append (v ∷ vs) ws (s ∷ ss) ts h k = and_both (has_sort v s) (have_sorts (vs ++ ws) (ss ++ ts)) (and_left (has_sort v s) (have_sorts vs ss) h) (have_append vs ws ss ts (and_right (has_sort v s) (have_sorts vs ss) h) k)

have_count : (vs : List Value) (ss : List Sort) → have_sorts vs ss ≡ true → length vs ≡ length ss
have_count [] [] h = refl
have_count [] (s ∷ ss) h = cc
have_count (v ∷ vs) [] h = cc
have_count (v ∷ vs) (s ∷ ss) h = ap suc (have_count vs ss (and_right (has_sort v s) (have_sorts vs ss) h))

-- ---- the whole

-- the nodes after each of the three rows
pub record Rows (flat : FlatProgram) (entry : ℕ) (n1 n2 n3 : List TermNode) : Type 0 where
  pub whole : n3 ≡ Lit (BoolAtom true) ∷ variables_from 1 (called_sorts flat entry)
  pub first : length n1 ≡ 1 + length flat.consts
  pub second : length n2 ≡ (1 + length flat.consts) + length flat.globals

pub rows : (flat : FlatProgram) (entry : ℕ) (n0 n1 n2 n3 : List TermNode) → n0 ≡ Lit (BoolAtom true) ∷ [] → n1 ≡ n0 ++ variables_from (length n0) flat.consts → n2 ≡ n1 ++ variables_from (length n1) flat.globals
    → n3 ≡ n2 ++ variables_from (length n2) (ins_at (slice_get flat.procs entry)) → Rows flat entry n1 n2 n3
rows flat entry n0 n1 n2 n3 e0 e1 e2 e3 =
    let cs = flat.consts in
    let gs = flat.globals in
    let is = ins_at (slice_get flat.procs entry) in
    let l1 : length n1 ≡ 1 + length cs =
    ap length e1 ∙ length-append n0 (variables_from (length n0) cs) ∙ ap (λ (k : ℕ). k + length (variables_from (length n0) cs)) (ap length e0) ∙ ap (λ (k : ℕ). 1 + k) (length-variables (length n0) cs) in
    let l2 : length n2 ≡ (1 + length cs) + length gs =
    ap length e2 ∙ length-append n1 (variables_from (length n1) gs) ∙ ap (λ (k : ℕ). k + length (variables_from (length n1) gs)) l1 ∙ ap (λ (k : ℕ). (1 + length cs) + k) (length-variables (length n1) gs) in
    let w1 : n1 ≡ Lit (BoolAtom true) ∷ variables_from 1 cs = e1 ∙ ap (λ (ns : List TermNode). ns ++ variables_from (length ns) cs) e0 in
    let w2 : n2 ≡ Lit (BoolAtom true) ∷ (variables_from 1 cs ++ variables_from (1 + length cs) gs) =
    e2 ∙ ap (λ (k : ℕ). n1 ++ variables_from k gs) l1 ∙ ap (λ (ns : List TermNode). ns ++ variables_from (1 + length cs) gs) w1 in
    let w3 : n3 ≡ Lit (BoolAtom true) ∷ ((variables_from 1 cs ++ variables_from (1 + length cs) gs) ++ variables_from ((1 + length cs) + length gs) is) =
    e3 ∙ ap (λ (k : ℕ). n2 ++ variables_from k is) l2 ∙ ap (λ (ns : List TermNode). ns ++ variables_from ((1 + length cs) + length gs) is) w2 in
    record {
      whole =
          w3
          ∙ ap (λ (r : List TermNode). Lit (BoolAtom true) ∷ r)
          (append_assoc (variables_from 1 cs) (variables_from (1 + length cs) gs) (variables_from ((1 + length cs) + length gs) is)
          ∙ ap (λ (r : List TermNode). variables_from 1 cs ++ r) (sym (variables-append (1 + length cs) gs is)) ∙ sym (variables-append 1 cs (gs ++ is)));
      first = l1;
      second = l2;
    }

-- what three rows of variables make
pub opening_is : (flat : FlatProgram) (entry : ℕ) (b : BaseTerms) (n0 n1 n2 : List TermNode) (cs gs is : List Sort) → cs ≡ flat.consts → gs ≡ flat.globals → is ≡ ins_at (slice_get flat.procs entry)
    → n0 ≡ Lit (BoolAtom true) ∷ [] → n1 ≡ n0 ++ variables_from (length n0) cs → n2 ≡ n1 ++ variables_from (length n1) gs → b.terms.nodes ≡ n2 ++ variables_from (length n2) is → b.terms.root ≡ 0
    → b.consts ≡ numbers_from (length n0) (length cs) → b.globals ≡ numbers_from (length n1) (length gs) → b.args ≡ numbers_from (length n2) (length is) → IsOpening flat entry b
opening_is flat entry b n0 n1 n2 cs gs is hc hg hi e0 e1 e2 e3 root bc bg bi =
    let r =
    rows flat entry n0 n1 n2 b.terms.nodes e0 (e1 ∙ ap (λ (ss : List Sort). n0 ++ variables_from (length n0) ss) hc) (e2 ∙ ap (λ (ss : List Sort). n1 ++ variables_from (length n1) ss) hg)
    (e3 ∙ ap (λ (ss : List Sort). n2 ++ variables_from (length n2) ss) hi) in
    record {
      nodes = r.whole;
      root = root;
      consts = bc ∙ ap (λ (ns : List TermNode). numbers_from (length ns) (length cs)) e0 ∙ ap (λ (ss : List Sort). numbers_from 1 (length ss)) hc;
      globals = bg ∙ ap (λ (k : ℕ). numbers_from k (length gs)) r.first ∙ ap (λ (ss : List Sort). numbers_from (1 + length flat.consts) (length ss)) hg;
      args = bi ∙ ap (λ (k : ℕ). numbers_from k (length is)) r.second ∙ ap (λ (ss : List Sort). numbers_from ((1 + length flat.consts) + length flat.globals) (length ss)) hi;
    }

-- the terms have the program's sorts
pub opening_has : (flat : FlatProgram) (entry : ℕ) (b : BaseTerms) (ts : List Sort) → IsOpening flat entry b → sorts b.terms.nodes ≡ Some ts → IsTrue (below (length b.terms.nodes) b.terms.nodes)
    → HasTerms flat entry b.terms.nodes b
opening_has flat entry b ts o sorted low =
    let cs = flat.consts in
    let gs = flat.globals in
    let is = ins_at (slice_get flat.procs entry) in
    let bool = ScalarSort BoolSort in
    let all : sorts b.terms.nodes ≡ Some (bool ∷ (cs ++ (gs ++ is))) =
    sorted ∙ ap Some (sorts_from (bool ∷ []) 1 (called_sorts flat entry) ts (sym (ap sorts o.nodes) ∙ sorted)) in
    record {
      sorted = subst (λ (s : Option (List Sort)). IsSome s) (sym sorted) refl;
      low = low;
      consts = subst (λ (ns : List ℕ). AreOf b.terms.nodes ns cs) (sym o.consts) (are_row b.terms.nodes (bool ∷ []) cs (gs ++ is) 1 refl all);
      globals =
          subst (λ (ns : List ℕ). AreOf b.terms.nodes ns gs) (sym o.globals)
          (are_row b.terms.nodes (bool ∷ cs) gs is (1 + length cs) (let e : 1 + length cs ≡ suc (length cs) = omega arith in e) all);
      args =
          subst (λ (ns : List ℕ). AreOf b.terms.nodes ns is) (sym o.args)
          (are_row b.terms.nodes (bool ∷ (cs ++ gs)) is [] ((1 + length cs) + length gs)
          (let e : (1 + length cs) + length gs ≡ suc (length cs + length gs) = omega arith in e ∙ ap suc (sym (length-append cs gs)))
          (all ∙ ap (λ (r : List Sort). Some (bool ∷ r)) (ap (λ (r : List Sort). cs ++ (gs ++ r)) (sym (append-nil is)) ∙ sym (append_assoc cs gs (is ++ [])))));
    }

-- any values of their sorts can be had
pub opening_values : (flat : FlatProgram) (entry : ℕ) (b : BaseTerms) → IsOpening flat entry b → CanHaveValues flat entry b.terms.nodes b
opening_values flat entry b o = λ xs ys zs hx hy hz.
    let cs = flat.consts in
    let gs = flat.globals in
    let is = ins_at (slice_get flat.procs entry) in
    let bool = AtomValue (BoolAtom true) in
    let vs = xs ++ (ys ++ zs) in
    let a = λ (n : ℕ). at (bool ∷ vs) n in
    let have : have_sorts vs (called_sorts flat entry) ≡ true = have_append xs (ys ++ zs) cs (gs ++ is) hx (have_append ys zs gs is hy hz) in
    let gives : Gives a 1 (called_sorts flat entry) vs = λ j l. let e : 1 + j ≡ suc j = omega arith in ap (at (bool ∷ vs)) e in
    let all : values a b.terms.nodes ≡ bool ∷ vs = ap (values a) o.nodes ∙ values_from a 1 (called_sorts flat entry) vs (bool ∷ []) gives have in
    let nx = have_count xs cs hx in
    let ny = have_count ys gs hy in
    let nz = have_count zs is hz in (
      a,
      subst (λ (ns : List TermNode). IsTrue (fits a ns)) (sym o.nodes) (fits_from a 1 (called_sorts flat entry) vs gives have),
      ap (λ (w : List Value). map (at w) b.consts) all ∙ ap (map (at (bool ∷ vs))) (o.consts ∙ ap (numbers_from 1) (sym nx)) ∙ read_row (bool ∷ []) xs (ys ++ zs) 1 refl,
      ap (λ (w : List Value). map (at w) b.globals) all ∙ ap (map (at (bool ∷ vs))) (o.globals ∙ ap (numbers_from (1 + length cs)) (sym ny))
          ∙ read_row (bool ∷ xs) ys zs (1 + length cs) (let e : 1 + length cs ≡ suc (length xs) = omega (arith, nx) in e),
      ap (λ (w : List Value). map (at w) b.args) all ∙ ap (map (at (bool ∷ vs))) (o.args ∙ ap (numbers_from ((1 + length cs) + length gs)) (sym nz))
          ∙ ap (λ (w : List Value). map (at (bool ∷ w)) (numbers_from ((1 + length cs) + length gs) (length zs))) (ap (λ (r : List Value). xs ++ (ys ++ r)) (sym (append-nil zs)) ∙ sym (append_assoc xs ys (zs ++ [])))
          ∙ read_row (bool ∷ (xs ++ ys)) zs [] ((1 + length cs) + length gs) (let e : (1 + length cs) + length gs ≡ suc (length xs + length ys) = omega (arith, nx, ny) in e ∙ ap suc (sym (length-append xs ys))),
    )
