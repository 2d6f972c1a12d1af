-- Values of a formula's variables, told by what the variables stand for, have their sorts.
use Rattle.std.proofs.Common.{◌≡◌, ℕ, zero, suc, ◌+◌, ◌<◌, true, List, [], ◌∷◌, map, length, slice_get, slice_set, slice_index, Some, Contains, refl, sym, ap, ◌∙◌, subst, inl, inr, ◌⊎◌, ⊎_elim, arith, true≢false}
use Rattle.std.specs.Prelude.{IsTrue, nat_eq}
use Rattle.std.proofs.lemmas.Bool.{and_from, and_parts, cases_eq, or_right}
use Rattle.hy_val.specs.declared.sort.Sort.{Sort}
use Rattle.hy_val.specs.declared.value.Value.{Value}
use Rattle.hy_val.specs.Values.{at, has_sort}
use Rattle.hy_term.specs.Laws.{EachValueHasItsSort}
use Rattle.hy_term.specs.Meaning.{fits, node_fits, value}
use Rattle.hy_term.specs.TermSorts.{sort_at}
use Rattle.hy_term.specs.Variables.{reads}
use Rattle.hy_term.specs.declared.node.TermNode.{TermNode}
use Rattle.hy_term.specs.declared.node.TermNode.TheVariants.{Lit, ZeroMap, Variable, Unary, Binary, If, Select, Store}
use Rattle.flat_prog.specs.Changes.{set_all}
use Rattle.flat_prog.specs.Local.{have_sorts}
use Rattle.flat_prog.specs.Once.{has_number}
use Rattle.flat_prog.proofs.Lists.{has_cases, has_none}
use Rattle.flat_prog.proofs.Numbers.{number_here}
use Rattle.flat_prog.proofs.Steps.{set_length, set_other}
use Rattle.tree_terms.specs.Standing.{AreOf}
use Rattle.tree_terms.specs.declared.linked.Role.{Role}
use Rattle.tree_terms.specs.declared.linked.Role.TheVariants.{Own}
use Rattle.tree_words.specs.Filling.{if_own, own_node, own_nodes}

-- ---- lists of values

pub have_count : (vs : List Value) (ss : List Sort) → have_sorts vs ss ≡ true → length vs ≡ length ss
have_count [] [] h = refl
have_count [] (s ∷ ss) h = absurd (true≢false (sym h))
have_count (v ∷ vs) [] h = absurd (true≢false (sym h))
have_count (v ∷ vs) (s ∷ ss) h = ap suc (have_count vs ss (and_parts (has_sort v s) (have_sorts vs ss) h).1)

-- the value at a place has the sort there
pub have_at : (vs : List Value) (ss : List Sort) (k : ℕ) (sort : Sort) → have_sorts vs ss ≡ true → slice_get ss k ≡ Some sort → IsTrue (has_sort (at vs k) sort)
have_at [] [] k sort h is = cc
have_at [] (s ∷ ss) k sort h is = absurd (true≢false (sym h))
have_at (v ∷ vs) [] k sort h is = absurd (true≢false (sym h))
have_at (v ∷ vs) (s ∷ ss) zero sort h is =
    let e : s ≡ sort = cc in
    subst (λ (x : Sort). IsTrue (has_sort v x)) e (and_parts (has_sort v s) (have_sorts vs ss) h).0
have_at (v ∷ vs) (s ∷ ss) (suc k) sort h is = have_at vs ss k sort (and_parts (has_sort v s) (have_sorts vs ss) h).1 is

-- the values of nodes of these sorts have them
pub have_of : (keep : EachValueHasItsSort) (c : ℕ → Value) (nodes : List TermNode) (ts : List ℕ) (ss : List Sort) → IsTrue (fits c nodes) → AreOf nodes ts ss → have_sorts (map (value c nodes) ts) ss ≡ true
have_of keep c nodes [] [] fit h = refl
have_of keep c nodes [] (s ∷ ss) fit h = absurd h
have_of keep c nodes (t ∷ ts) [] fit h = absurd h
have_of keep c nodes (t ∷ ts) (s ∷ ss) fit h = and_from (has_sort (value c nodes t) s) (have_sorts (map (value c nodes) ts) ss) (keep c nodes t s fit h.0) (have_of keep c nodes ts ss fit h.1)

-- the node at a place has the sort there
pub of_at : (nodes : List TermNode) (ts : List ℕ) (ss : List Sort) (k : ℕ) → AreOf nodes ts ss → k < length ts → (sort : Sort) × (slice_get ss k ≡ Some sort) × (sort_at nodes (slice_index ts k) ≡ Some sort)
of_at nodes [] ss k h low = absurd (omega (arith, low))
of_at nodes (t ∷ ts) [] k h low = absurd h
of_at nodes (t ∷ ts) (s ∷ ss) zero h low = (s, refl, h.0)
of_at nodes (t ∷ ts) (s ∷ ss) (suc k) h low = of_at nodes ts ss k h.1 (omega (arith, low))

pub at_map : (f : ℕ → Value) (ts : List ℕ) (k : ℕ) → k < length ts → at (map f ts) k ≡ f (slice_index ts k)
at_map f [] k h = absurd (omega (arith, h))
at_map f (t ∷ ts) zero h = refl
at_map f (t ∷ ts) (suc k) h = at_map f ts k (omega (arith, h))

pub map_count : (f : ℕ → Value) (ts : List ℕ) → length (map f ts) ≡ length ts
map_count f [] = refl
map_count f (t ∷ ts) = ap suc (map_count f ts)

pub same_values : (xs ys : List Value) → length xs ≡ length ys → ((k : ℕ) → k < length ys → at xs k ≡ at ys k) → xs ≡ ys
same_values [] [] e h = refl
same_values [] (y ∷ ys) e h = absurd (omega (arith, e))
same_values (x ∷ xs) [] e h = absurd (omega (arith, e))
same_values (x ∷ xs) (y ∷ ys) e h =
    let first : x ≡ y = h 0 (omega arith) in
    let others : xs ≡ ys = same_values xs ys (omega (arith, e)) (λ k low. h (suc k) (omega (arith, low))) in
    cc

pub map_same_on : {A : Type 0} → (f g : ℕ → A) (l : List ℕ) → ((i : ℕ) → has_number l i ≡ true → f i ≡ g i) → map f l ≡ map g l
map_same_on f g [] h = refl
map_same_on f g (n ∷ l) h =
    let first : f n ≡ g n = h n (number_here n l) in
    let others : map f l ≡ map g l = map_same_on f g l (λ i is. h i (or_right (nat_eq n i) (has_number l i) is)) in
    cc

-- the values that an assignment gives to numbers in a row
pub reads_are : (a : ℕ → Value) (k n : ℕ) (xs : List Value) → length xs ≡ n → ((i m : ℕ) → i < n → m ≡ k + i → a m ≡ at xs i) → reads a k n ≡ xs
reads_are a k zero [] e h = refl
reads_are a k zero (x ∷ xs) e h = absurd (omega (arith, e))
reads_are a k (suc n) [] e h = absurd (omega (arith, e))
reads_are a k (suc n) (x ∷ xs) e h =
    let first : a k ≡ x = h 0 k (omega arith) (omega arith) in
    let others : reads a (k + 1) n ≡ xs = reads_are a (k + 1) n xs (omega (arith, e)) (λ i m low is. h (suc i) m (omega (arith, low)) (omega (arith, is))) in
    cc

-- ---- values that are set

at_slice : (vs ws : List Value) (i : ℕ) → slice_get vs i ≡ slice_get ws i → at vs i ≡ at ws i
at_slice vs ws i e = rw e refl

set_here : (vs : List Value) (n : ℕ) (v : Value) → n < length vs → at (slice_set vs n v) n ≡ v
set_here [] n v h = absurd (omega (arith, h))
set_here (w ∷ vs) zero v h = refl
set_here (w ∷ vs) (suc n) v h = set_here vs n v (omega (arith, h))

-- values that are as others but at some places are these, with what stands there set
pub set_back : (old new : List Value) (ns : List ℕ) → length new ≡ length old → ((g : ℕ) → g < length new → (Contains ns g → ⊥) → at new g ≡ at old g) → new ≡ set_all old ns (map (at new) ns)
set_back old new [] e h = same_values new old e (λ k low. h k (omega (arith, low, e)) (λ is. has_none k is))
set_back old new (n ∷ ns) e h = set_back (slice_set old n (at new n)) new ns (e ∙ sym (set_length old n (at new n))) (λ g low out. by_place g low out (cases_eq n g))
  where
    by_place : (g : ℕ) → g < length new → (Contains ns g → ⊥) → ((n ≡ g) ⊎ (n ≡ g → ⊥)) → at new g ≡ at (slice_set old n (at new n)) g
    by_place g low out (inl is) = sym (subst (λ (m : ℕ). at (slice_set old n (at new n)) m ≡ at new m) is (set_here old n (at new n) (omega (arith, low, is, e))))
    by_place g low out (inr differs) =
        h g low (λ in_ns. ⊎_elim (λ is. differs is) out (has_cases g n ns in_ns)) ∙ sym (at_slice (slice_set old n (at new n)) old g (set_other old n g (at new n) differs))

-- ---- assignments

-- an assignment fits where each variable's value has its sort
pub make_fits : (c : ℕ → Value) (nodes : List TermNode) → ((j n : ℕ) (sort : Sort) → slice_get nodes j ≡ Some (Variable n sort) → IsTrue (has_sort (c n) sort)) → IsTrue (fits c nodes)
make_fits c [] h = refl
make_fits c (node ∷ nodes) h = and_from (node_fits c node) (fits c nodes) (here node (λ n sort e. h 0 n sort (ap (λ (x : TermNode). Some x) e))) (make_fits c nodes (λ j n sort is. h (suc j) n sort is))
  where
    here : (x : TermNode) → ((n : ℕ) (sort : Sort) → x ≡ Variable n sort → IsTrue (has_sort (c n) sort)) → IsTrue (node_fits c x)
    here (Lit a) k = refl
    here (ZeroMap i e) k = refl
    here (Variable n sort) k = k n sort refl
    here (Unary op x) k = refl
    here (Binary op l r) k = refl
    here (If t o p) k = refl
    here (Select m i) k = refl
    here (Store m i v) k = refl

-- a choice of the node's own has its variable's sort
pub own_has : (role : ℕ → Role) (own : ℕ → Value) (nodes : List TermNode) (j n : ℕ) (sort : Sort) → own_nodes role own nodes ≡ true → slice_get nodes j ≡ Some (Variable n sort) → role n ≡ Own
    → IsTrue (has_sort (own n) sort)
own_has role own [] j n sort h is r = cc
own_has role own (node ∷ nodes) zero n sort h is r =
    let e : node ≡ Variable n sort = cc in
    let k : own_node role own node ≡ true = (and_parts (own_node role own node) (own_nodes role own nodes) h).0 in
    subst (λ (x : Role). if_own x (has_sort (own n) sort) ≡ true) r (subst (λ (x : TermNode). own_node role own x ≡ true) e k)
own_has role own (node ∷ nodes) (suc j) n sort h is r = own_has role own nodes j n sort (and_parts (own_node role own node) (own_nodes role own nodes) h).1 is r
