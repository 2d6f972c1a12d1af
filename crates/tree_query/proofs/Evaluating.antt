-- The values of nodes, one after the other, and their sorts.
use Rattle.std.proofs.Common.{◌≡◌, ℕ, zero, suc, ◌+◌, ◌<◌, ◌≤◌, Bool, true, false, List, [], ◌∷◌, ◌++◌, length, map, take, drop, arith, sym, ◌∙◌, ap, refl, subst, append_assoc, append-nil, length-append}
use Rattle.std.specs.Prelude.{Option, None, Some, if◌then◌else◌, slice_get, nat_eq, nat_lt, IsTrue, IsSome}
use Rattle.std.specs.Option.{option_and_then}
use Rattle.std.proofs.lemmas.Bool.Decides.{nat_tests}
use Rattle.std.proofs.lemmas.List.{take-map}
use Rattle.std.proofs.Math.Seq.{take-append_seam}
use Rattle.hy_val.specs.Stores.{have_sorts}
use Rattle.hy_val.specs.Values.{at, has_sort, sort_of}
use Rattle.hy_val.specs.declared.sort.Sort.{Sort}
use Rattle.hy_val.specs.declared.value.Value.{Value}
use Rattle.hy_val.proofs.ResultSorts.{has_sort_is}
use Rattle.hy_term.specs.Formula.{Formula}
use Rattle.hy_term.specs.TermSorts.{sort_of_node, sorts, sort_at, is_bool, agree_onto, is_formula}
use Rattle.hy_term.specs.Meaning.{node_value, values_onto, values, fits}
use Rattle.hy_term.specs.Variables.{variables, numbers_of, count_below, of_list}
use Rattle.hy_term.specs.Laws.{EachNodeHasItsSort, EachValueHasItsSort, VariablesAreListed}
use Rattle.hy_term.specs.declared.node.TermNode.{TermNode}
use Rattle.hy_term.specs.declared.node.TermNode.TheVariants.{Lit, ZeroMap, Variable, Unary, Binary, If, Select, Store}
use Rattle.hy_term.specs.declared.node.TermVariable.{TermVariable}
use Rattle.hy_term.proofs.Growing.{length-values}
use Rattle.hy_term.proofs.Sorting.{and_both, and_left, and_right, count_sorts}
use Rattle.tree_query.specs.Valued.{IsListed}

-- ---- variables

found_by : (n : ℕ) (u : TermVariable) (us : List TermVariable) (w : Value) (ws : List Value) (v : TermVariable) (less same : Bool) → nat_lt u.number n ≡ less → nat_eq n u.number ≡ same → v.number ≡ n
    → slice_get (u ∷ us) (if less then suc (count_below n us) else zero) ≡ Some v → (slice_get us (count_below n us) ≡ Some v → of_list (numbers_of us) ws n ≡ at ws (count_below n us))
    → (if same then w else of_list (numbers_of us) ws n) ≡ at (w ∷ ws) (if less then suc (count_below n us) else zero)
found_by n u us w ws v true true l e is there go = absurd (grind (arith, nat_tests, l, e))
found_by n u us w ws v true false l e is there go = go there
found_by n u us w ws v false true l e is there go = refl
found_by n u us w ws v false false l e is there go =
    let here : Some u ≡ Some v = there in
    let same : u ≡ v = cc in
    absurd (grind (arith, nat_tests, e, is, ap (λ (x : TermVariable). x.number) same))

-- a variable that stands at its place among those of the list has the value there
pub listed_value : (n : ℕ) (vs : List TermVariable) (ws : List Value) (v : TermVariable) → slice_get vs (count_below n vs) ≡ Some v → v.number ≡ n → of_list (numbers_of vs) ws n ≡ at ws (count_below n vs)
listed_value n [] ws v there is = cc
listed_value n (u ∷ us) [] v there is = refl
listed_value n (u ∷ us) (w ∷ ws) v there is = found_by n u us w ws v (nat_lt u.number n) (nat_eq n u.number) refl refl is there (λ h. listed_value n us ws v h is)

listed_by : (vs : List TermVariable) (node : TermNode) → ((number : ℕ) (sort : Sort) → node ≡ Variable number sort → slice_get vs (count_below number vs) ≡ Some (record { number = number; sort = sort })) → IsListed vs node
listed_by vs (Lit a) h = tt
listed_by vs (ZeroMap i e) h = tt
listed_by vs (Variable number sort) h = h number sort refl
listed_by vs (Unary op c) h = tt
listed_by vs (Binary op l r) h = tt
listed_by vs (If c y n) h = tt
listed_by vs (Select m i) h = tt
listed_by vs (Store m i v) h = tt

pub node_listed : VariablesAreListed → (f : Formula) (nodes : List TermNode) (i : ℕ) (node : TermNode) → IsTrue (is_formula f) → nodes ≡ f.nodes → i < length nodes → slice_get nodes i ≡ Some node → IsListed (variables nodes) node
node_listed law f nodes i node ok same within is =
    listed_by (variables nodes) node
    (λ number sort e. law nodes i number sort (subst (λ (ns : List TermNode). IsTrue (agree_onto [] ns)) (sym same) (and_right (is_bool (sort_at f.nodes f.root)) (agree_onto [] f.nodes) ok)) (is ∙ ap Some e))

-- ---- values

some_by : (f : List Sort → Option Sort) (o : Option (List Sort)) → IsTrue (is_bool (option_and_then f o)) → (ss : List Sort) × (o ≡ Some ss)
some_by f None h = cc
some_by f (Some ss) h = (ss, refl)

-- the nodes of terms have sorts
pub formula_sorted : (f : Formula) → IsTrue (is_formula f) → (ss : List Sort) × (sorts f.nodes ≡ Some ss)
formula_sorted f ok = some_by (λ ss. slice_get ss f.root) (sorts f.nodes) (and_left (is_bool (sort_at f.nodes f.root)) (agree_onto [] f.nodes) ok)

-- the values so far stand in front
front : (a : ℕ → Value) (known : List Value) (nodes : List TermNode) → (more : List Value) × (values_onto a known nodes ≡ known ++ more)
front a known [] = ([], sym (append-nil known))
front a known (node ∷ nodes) =
    let r = front a (known ++ node_value a known node ∷ []) nodes in
    (node_value a known node ∷ r.0, r.1 ∙ append_assoc known (node_value a known node ∷ []) r.0)

-- the values so far are those of the nodes so far
pub record Evaluates (a : ℕ → Value) (nodes : List TermNode) (known : List Value) (i : ℕ) : Type 0 where
  pub count : length known ≡ i
  pub whole : values_onto a known (drop i nodes) ≡ values a nodes

pub at_start : (a : ℕ → Value) (nodes : List TermNode) → Evaluates a nodes [] 0
at_start a nodes = record { count = refl; whole = refl }

drop_suc : (nodes : List TermNode) (i : ℕ) (node : TermNode) → slice_get nodes i ≡ Some node → drop i nodes ≡ node ∷ drop (suc i) nodes
drop_suc [] i node h = cc
drop_suc (n ∷ nodes) zero node h = let same : n ≡ node = cc in ap (λ (x : TermNode). x ∷ nodes) same
drop_suc (n ∷ nodes) (suc i) node h = drop_suc nodes i node h

drop_at : (nodes : List TermNode) (i : ℕ) (node : TermNode) → slice_get nodes i ≡ Some node → drop i nodes ≡ node ∷ drop (i + 1) nodes
drop_at nodes i node h = let next : suc i ≡ i + 1 = omega arith in drop_suc nodes i node h ∙ ap (λ (k : ℕ). node ∷ drop k nodes) next

-- one node further
pub one_more : (a : ℕ → Value) (nodes : List TermNode) (known new : List Value) (i : ℕ) (node : TermNode) (v : Value) → i < length nodes → slice_get nodes i ≡ Some node → Evaluates a nodes known i
    → v ≡ node_value a known node → new ≡ known ++ v ∷ [] → Evaluates a nodes new (i + 1)
one_more a nodes known new i node v within is e v_is new_is =
    record {
      count = ap length new_is ∙ length-append known (v ∷ []) ∙ ap (λ (n : ℕ). n + 1) e.count;
      whole =
          ap (λ (vs : List Value). values_onto a vs (drop (i + 1) nodes)) (new_is ∙ ap (λ (w : Value). known ++ w ∷ []) v_is)
          ∙ sym (ap (values_onto a known) (drop_at nodes i node is)) ∙ e.whole;
    }

drop_all : (nodes : List TermNode) (i : ℕ) → length nodes ≤ i → drop i nodes ≡ []
drop_all [] zero l = refl
drop_all [] (suc i) l = refl
drop_all (n ∷ nodes) zero l = absurd (omega (arith, l))
drop_all (n ∷ nodes) (suc i) l = drop_all nodes i (omega (arith, l))

-- behind the last node
pub at_end : (a : ℕ → Value) (nodes : List TermNode) (known : List Value) (i : ℕ) → length nodes ≤ i → Evaluates a nodes known i → known ≡ values a nodes
at_end a nodes known i l e = ap (values_onto a known) (sym (drop_all nodes i l)) ∙ e.whole

-- ---- sorts

each_have : (vs : List Value) (ss : List Sort) → length vs ≡ length ss → ((k : ℕ) (s : Sort) → slice_get ss k ≡ Some s → IsTrue (has_sort (at vs k) s)) → have_sorts vs ss ≡ true
each_have [] [] n h = refl
each_have [] (s ∷ ss) n h = absurd (omega (arith, n))
each_have (v ∷ vs) [] n h = absurd (omega (arith, n))
each_have (v ∷ vs) (s ∷ ss) n h = and_both (has_sort v s) (have_sorts vs ss) (h zero s refl) (each_have vs ss (omega (arith, n)) (λ k t is. h (suc k) t is))

their_sorts : (vs : List Value) (ss : List Sort) → have_sorts vs ss ≡ true → map sort_of vs ≡ ss
their_sorts [] [] h = refl
their_sorts [] (s ∷ ss) h = cc
their_sorts (v ∷ vs) [] h = cc
their_sorts (v ∷ vs) (s ∷ ss) h =
    ap (λ (t : Sort). t ∷ map sort_of vs) (has_sort_is v s (and_left (has_sort v s) (have_sorts vs ss) h)) ∙ ap (λ (ts : List Sort). s ∷ ts) (their_sorts vs ss (and_right (has_sort v s) (have_sorts vs ss) h))

-- the values of the nodes have the nodes' sorts
pub values_sorted : EachValueHasItsSort → (a : ℕ → Value) (nodes : List TermNode) (ss : List Sort) → IsTrue (fits a nodes) → sorts nodes ≡ Some ss → have_sorts (values a nodes) ss ≡ true
values_sorted law a nodes ss fit is =
    each_have (values a nodes) ss (length-values a [] nodes ∙ count nodes ss is)
    (λ k s there. law a nodes k s fit (ap (option_and_then (λ (ts : List Sort). slice_get ts k)) is ∙ there))
  where
    count : (ns : List TermNode) (ts : List Sort) → sorts ns ≡ Some ts → 0 + length ns ≡ length ts
    count ns ts h = let e : length ts ≡ length ns = count_sorts ns ts h in omega (arith, e)

some_at : (ss : List Sort) (i : ℕ) → i < length ss → IsSome (slice_get ss i)
some_at [] i l = absurd (omega (arith, l))
some_at (s ∷ ss) zero l = refl
some_at (s ∷ ss) (suc i) l = some_at ss i (omega (arith, l))

-- the next node fits behind the values so far
pub next_sorted : EachNodeHasItsSort → EachValueHasItsSort → (a : ℕ → Value) (f : Formula) (nodes : List TermNode) (known : List Value) (i : ℕ) (node : TermNode) → IsTrue (is_formula f) → nodes ≡ f.nodes
    → IsTrue (fits a nodes) → i < length nodes → slice_get nodes i ≡ Some node → Evaluates a nodes known i → IsSome (sort_of_node (map sort_of known) node)
next_sorted node_law value_law a f nodes known i node ok same fit within is e =
    let s = formula_sorted f ok in
    let sorted : sorts nodes ≡ Some s.0 = ap sorts same ∙ s.1 in
    let r = front a known (drop i nodes) in
    let all : map sort_of (values a nodes) ≡ s.0 = their_sorts (values a nodes) s.0 (values_sorted value_law a nodes s.0 fit sorted) in
    let first : take i (values a nodes) ≡ known = ap (take i) (sym e.whole ∙ r.1) ∙ ap (λ (n : ℕ). take n (known ++ r.0)) (sym e.count) ∙ take-append_seam known r.0 in
    let mine : map sort_of known ≡ take i s.0 = ap (map sort_of) (sym first) ∙ sym (take-map sort_of i (values a nodes)) ∙ ap (take i) all in
    let long : i < length s.0 = omega (arith, within, count_sorts nodes s.0 sorted) in
    subst (λ (o : Option Sort). IsSome o) (node_law nodes s.0 i node sorted is ∙ ap (λ (ts : List Sort). sort_of_node ts node) (sym mine)) (some_at s.0 i long)
