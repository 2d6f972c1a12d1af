-- The sorts and values of terms that grow, and of nodes over others.
use Rattle.std.proofs.Common.{◌≡◌, ℕ, zero, suc, ◌<◌, ◌≤◌, true≢false, Bool, true, List, [], ◌∷◌, ◌++◌, map, length, arith, sym, ◌∙◌, ap, refl, subst, length-append, append_assoc, append-nil}
use Rattle.std.specs.Prelude.{Option, None, Some, if◌then◌else◌, slice_get, slice_index, IsSome, IsTrue, is_some}
use Rattle.std.proofs.lemmas.Bool.{and_parts, and_from, lt-ltb, ltb-true}
use Rattle.std.specs.Option.{option_and_then}
use Rattle.std.proofs.lemmas.Option.{slice_get_within}
use Rattle.hy_val.specs.Operators.{sort_of_unary, sort_of_binary}
use Rattle.hy_val.specs.NodeSorts.{same_sort, as_sort, as_scalar, unary_sort, binary_sort, branch_sort, if_sort}
use Rattle.hy_val.specs.Values.{at}
use Rattle.hy_val.specs.declared.sort.Scalar.{Scalar}
use Rattle.hy_val.specs.declared.sort.ScalarKind.TheVariants.{Bool as BoolSort}
use Rattle.hy_val.specs.declared.sort.Sort.{Sort}
use Rattle.hy_val.specs.declared.sort.SortKind.TheVariants.{Scalar as ScalarSort, Map as MapSort}
use Rattle.hy_val.specs.declared.operator.UnOp.{UnOp}
use Rattle.hy_val.specs.declared.operator.BvOp.{BvOp}
use Rattle.hy_val.specs.declared.value.Value.{Value}
use Rattle.hy_val.proofs.ResultSorts.{same_scalar_self}
use Rattle.hy_val.proofs.Lists.{slice_get-left, slice_get-seam}
use Rattle.hy_term.specs.TermSorts.{sort_of_node, sorts_onto, sorts, sort_at, sort_behind, variable_agrees, fits_behind, is_bool, is_formula, agree_onto}
use Rattle.hy_term.specs.Formula.{Formula}
use Rattle.hy_term.specs.Meaning.{values, value, node_fits, fits, Grows}
use Rattle.hy_term.specs.Variables.{node_below, below}
use Rattle.hy_term.specs.declared.node.TermNode.{TermNode}
use Rattle.hy_term.specs.declared.node.TermNode.TheVariants.{Lit, ZeroMap, Variable, Unary, Binary, If, Select, Store}
use Rattle.hy_term.proofs.Sorting.{and_both, and_left, and_right, sorts-append, sorts_push, count_sorts, sort_there}
use Rattle.hy_term.proofs.Growing.{value-more}
use Rattle.tree_terms.specs.Standing.{Later, Plain, AreOf}

record Pushed (f : Sort → Option (List Sort)) (o : Option Sort) (ss : List Sort) : Type 0 where
  pub sort : Sort
  pub is : o ≡ Some sort
  pub rest : f sort ≡ Some ss

pushed : (f : Sort → Option (List Sort)) (o : Option Sort) (ss : List Sort) → option_and_then f o ≡ Some ss → Pushed f o ss
pushed f None ss h = cc
pushed f (Some s) ss h = record { sort = s; is = refl; rest = h }

sorts-front : (known : List Sort) (nodes : List TermNode) (ss : List Sort) (j : ℕ) → sorts_onto known nodes ≡ Some ss → j < length known → slice_get ss j ≡ slice_get known j
sorts-front known [] ss j h l = let e : known ≡ ss = cc in ap (λ (ts : List Sort). slice_get ts j) (sym e)
sorts-front known (n ∷ nodes) ss j h l =
    let p = pushed (λ s. sorts_onto (known ++ s ∷ []) nodes) (sort_of_node known n) ss h in
    sorts-front (known ++ p.sort ∷ []) nodes ss j p.rest (omega (arith, l, length-append known (p.sort ∷ [])))
    ∙ slice_get-left known (p.sort ∷ []) j l

abbrev at_by : Option (List Sort) → ℕ → Option Sort
at_by o t = option_and_then (λ (ss : List Sort). slice_get ss t) o

abbrev behind_by : Option (List Sort) → TermNode → Option Sort
behind_by o node = option_and_then (λ (ss : List Sort). sort_of_node ss node) o

unary_by : (o : Option (List Sort)) (op : UnOp) (c : ℕ) (s t : Scalar) → at_by o c ≡ Some (ScalarSort s) → sort_of_unary op s ≡ Some t → behind_by o (Unary op c) ≡ Some (ScalarSort t)
unary_by None op c s t h k = cc
unary_by (Some ss) op c s t h k = ap (λ (x : Option Sort). unary_sort op (as_scalar x)) h ∙ ap as_sort k

pub behind_unary : (out : List TermNode) (op : UnOp) (c : ℕ) (s t : Scalar) → sort_at out c ≡ Some (ScalarSort s) → sort_of_unary op s ≡ Some t → sort_behind out (Unary op c) ≡ Some (ScalarSort t)
behind_unary out = unary_by (sorts out)

binary_by : (o : Option (List Sort)) (op : BvOp) (l r : ℕ) (s t u : Scalar) → at_by o l ≡ Some (ScalarSort s) → at_by o r ≡ Some (ScalarSort t) → sort_of_binary op s t ≡ Some u
    → behind_by o (Binary op l r) ≡ Some (ScalarSort u)
binary_by None op l r s t u h k e = cc
binary_by (Some ss) op l r s t u h k e =
    ap (λ (x : Option Sort). binary_sort op (as_scalar x) (as_scalar (slice_get ss r))) h ∙ ap (λ (x : Option Sort). binary_sort op (Some s) (as_scalar x)) k ∙ ap as_sort e

pub behind_binary : (out : List TermNode) (op : BvOp) (l r : ℕ) (s t u : Scalar) → sort_at out l ≡ Some (ScalarSort s) → sort_at out r ≡ Some (ScalarSort t) → sort_of_binary op s t ≡ Some u
    → sort_behind out (Binary op l r) ≡ Some (ScalarSort u)
behind_binary out = binary_by (sorts out)

same_sort_self : (s : Sort) → same_sort s s ≡ true
same_sort_self (ScalarSort s) = same_scalar_self s
same_sort_self (MapSort i e) = let h = same_scalar_self i in let k = same_scalar_self e in and_both (same_sort (ScalarSort i) (ScalarSort i)) (same_sort (ScalarSort e) (ScalarSort e)) h k

same_branch : (s : Sort) → branch_sort (Some s) (Some s) ≡ Some s
same_branch s = ap (λ (b : Bool). if b then Some s else None) (same_sort_self s)

if_by : (o : Option (List Sort)) (c y n : ℕ) (s : Sort) → at_by o c ≡ Some (ScalarSort BoolSort) → at_by o y ≡ Some s → at_by o n ≡ Some s → behind_by o (If c y n) ≡ Some s
if_by None c y n s h k e = cc
if_by (Some ss) c y n s h k e =
    ap (λ (x : Option Sort). if_sort (as_scalar x) (slice_get ss y) (slice_get ss n)) h ∙ ap (λ (x : Option Sort). branch_sort x (slice_get ss n)) k
    ∙ ap (λ (x : Option Sort). branch_sort (Some s) x) e ∙ same_branch s

pub behind_if : (out : List TermNode) (c y n : ℕ) (s : Sort) → sort_at out c ≡ Some (ScalarSort BoolSort) → sort_at out y ≡ Some s → sort_at out n ≡ Some s → sort_behind out (If c y n) ≡ Some s
behind_if out = if_by (sorts out)

push_by : (o p : Option (List Sort)) (node : TermNode) (s : Sort) → behind_by o node ≡ Some s → ((ss : List Sort) → o ≡ Some ss → sort_of_node ss node ≡ Some s → p ≡ Some (ss ++ s ∷ [])) → (ss : List Sort) × (o ≡ Some ss) × (p ≡ Some (ss ++ s ∷ []))
push_by None p node s h push = cc
push_by (Some ss) p node s h push = (ss, refl, push ss refl h)

pub record SortsAdded (out : List TermNode) (node : TermNode) (s : Sort) : Type 0 where
  pub old : List Sort
  pub old_is : sorts out ≡ Some old
  pub new_is : sorts (out ++ node ∷ []) ≡ Some (old ++ s ∷ [])

pub sorts_added : (out : List TermNode) (node : TermNode) (s : Sort) → sort_behind out node ≡ Some s → SortsAdded out node s
sorts_added out node s h =
    let r = push_by (sorts out) (sorts (out ++ node ∷ [])) node s h (λ ss e k. sorts_push out node ss s e k) in
    record { old = r.0; old_is = r.1; new_is = r.2 }

pub sort_added : (out : List TermNode) (node : TermNode) (s : Sort) → sort_behind out node ≡ Some s → sort_at (out ++ node ∷ []) (length out) ≡ Some s
sort_added out node s h =
    let a = sorts_added out node s h in
    ap (option_and_then (λ (ts : List Sort). slice_get ts (length out))) a.new_is
    ∙ ap (slice_get (a.old ++ s ∷ [])) (sym (count_sorts out a.old a.old_is)) ∙ slice_get-seam a.old s

more_by : (o p : Option (List Sort)) (ys : List TermNode) (t : ℕ) (s : Sort) → p ≡ option_and_then (λ (ss : List Sort). sorts_onto ss ys) o → IsSome p → at_by o t ≡ Some s → at_by p t ≡ Some s
more_by None p ys t s e is h = cc
more_by (Some ss) None ys t s e is h = cc
more_by (Some ss) (Some ts) ys t s e is h = sorts-front ss ys ts t (sym e) (slice_get_within ss t s h) ∙ h

sort_front : (out more : List TermNode) (t : ℕ) (s : Sort) → IsSome (sorts (out ++ more)) → sort_at out t ≡ Some s → sort_at (out ++ more) t ≡ Some s
sort_front out more t s is h = more_by (sorts out) (sorts (out ++ more)) more t s (sorts-append [] out more) is h

within_by : (o : Option (List Sort)) (n t : ℕ) (s : Sort) → ((ss : List Sort) → o ≡ Some ss → length ss ≡ n) → at_by o t ≡ Some s → t < n
within_by None n t s c h = cc
within_by (Some ss) n t s c h = omega (arith, c ss refl, slice_get_within ss t s h)

pub sort_within : (out : List TermNode) (t : ℕ) (s : Sort) → sort_at out t ≡ Some s → t < length out
sort_within out t s h = within_by (sorts out) (length out) t s (λ ss e. count_sorts out ss e) h

pub some_is : {A : Type 0} (o : Option A) (x : A) → o ≡ Some x → IsSome o
some_is None x h = cc
some_is (Some y) x h = refl

pub fits_by : (out : List TermNode) (node : TermNode) (s : Sort) → sort_behind out node ≡ Some s → variable_agrees out node ≡ true → IsTrue (fits_behind out node)
fits_by out node s h k = and_both (is_some (sort_behind out node)) (variable_agrees out node) (some_is (sort_behind out node) s h) k

pub sorts_are : (o : Option (List Sort)) → IsSome o → (ss : List Sort) × (o ≡ Some ss)
sorts_are None h = cc
sorts_are (Some ss) h = (ss, refl)

pub of_sorts : (nodes : List TermNode) (ss : List Sort) (k : ℕ) → sorts nodes ≡ Some ss → sort_at nodes k ≡ slice_get ss k
of_sorts nodes ss k is = ap (λ (o : Option (List Sort)). option_and_then (λ xs. slice_get xs k) o) is

-- each node has a sort
pub sort_here : (nodes : List TermNode) (k : ℕ) → IsSome (sorts nodes) → k < length nodes → (s : Sort) × (sort_at nodes k ≡ Some s)
sort_here nodes k ok within =
    let n = sorts_are (sorts nodes) ok in
    let s = sort_there nodes n.0 k n.1 within in
    (s.0, of_sorts nodes n.0 k n.1 ∙ s.1)

pub fits_some : (into : List TermNode) (node : TermNode) → IsTrue (fits_behind into node) → (s : Sort) × (sort_behind into node ≡ Some s)
fits_some into node h = by_sort (sort_behind into node) refl (and_parts (is_some (sort_behind into node)) (variable_agrees into node) h).0
  where
    by_sort : (o : Option Sort) → sort_behind into node ≡ o → is_some o ≡ true → (s : Sort) × (sort_behind into node ≡ Some s)
    by_sort None e y = absurd (true≢false (sym y))
    by_sort (Some s) e y = (s, e)

-- ---- later nodes

pub later_same : (out : List TermNode) → IsSome (sorts out) → Later out out
later_same out h = record { nodes = ([], sym (append-nil out)); sound = h }

pub later_is : (out new : List TermNode) → IsSome (sorts out) → new ≡ out → Later out new
later_is out new h same = subst (λ (ns : List TermNode). Later out ns) (sym same) (later_same out h)

pub later_then : (x y z : List TermNode) → Later x y → Later y z → Later x z
later_then x y z h k = record {
  nodes = (h.nodes.0 ++ k.nodes.0, k.nodes.1 ∙ ap (λ (ns : List TermNode). ns ++ k.nodes.0) h.nodes.1 ∙ append_assoc x h.nodes.0 k.nodes.0);
  sound = k.sound;
}

pub later_push : (out new : List TermNode) (node : TermNode) (s : Sort) → sort_behind out node ≡ Some s → new ≡ out ++ node ∷ [] → Later out new
later_push out new node s h is =
    let a = sorts_added out node s h in
    subst (λ (ns : List TermNode). Later out ns) (sym is) (record { nodes = (node ∷ [], refl); sound = some_is (sorts (out ++ node ∷ [])) (a.old ++ s ∷ []) a.new_is })

pub value_later : (x y : List TermNode) (a : ℕ → Value) (t : ℕ) → Later x y → t < length x → value a y t ≡ value a x t
value_later x y a t h l = ap (λ (ns : List TermNode). value a ns t) h.nodes.1 ∙ value-more a x h.nodes.0 t l

pub sort_later : (x y : List TermNode) (t : ℕ) (s : Sort) → Later x y → sort_at x t ≡ Some s → sort_at y t ≡ Some s
sort_later x y t s h k =
    ap (λ (ns : List TermNode). sort_at ns t) h.nodes.1
    ∙ sort_front x h.nodes.0 t s (subst (λ (ns : List TermNode). IsSome (sorts ns)) h.nodes.1 h.sound) k

pub are_later : (x y : List TermNode) (ts : List ℕ) (ss : List Sort) → Later x y → AreOf x ts ss → AreOf y ts ss
are_later x y [] [] h k = tt
are_later x y [] (s ∷ ss) h k = k
are_later x y (t ∷ ts) [] h k = k
are_later x y (t ∷ ts) (s ∷ ss) h (k, ks) = (sort_later x y t s h k, are_later x y ts ss h ks)

pub are_append : (x : List TermNode) (ts us : List ℕ) (ss rs : List Sort) → AreOf x ts ss → AreOf x us rs → AreOf x (ts ++ us) (ss ++ rs)
are_append x [] us [] rs h k = k
are_append x [] us (s ∷ ss) rs h k = absurd h
are_append x (t ∷ ts) us [] rs h k = absurd h
are_append x (t ∷ ts) us (s ∷ ss) rs (h, hs) k = (h, are_append x ts us ss rs hs k)

pub are_count : (x : List TermNode) (ts : List ℕ) (ss : List Sort) → AreOf x ts ss → length ts ≡ length ss
are_count x [] [] h = refl
are_count x [] (s ∷ ss) h = absurd h
are_count x (t ∷ ts) [] h = absurd h
are_count x (t ∷ ts) (s ∷ ss) (h, hs) = ap suc (are_count x ts ss hs)

pub map_later : (x y : List TermNode) (a : ℕ → Value) (ts : List ℕ) (ss : List Sort) → Later x y → AreOf x ts ss → map (at (values a y)) ts ≡ map (at (values a x)) ts
map_later x y a [] ss h k = refl
map_later x y a (t ∷ ts) [] h k = absurd k
map_later x y a (t ∷ ts) (s ∷ ss) h (k, ks) =
    ap (λ v. v ∷ map (at (values a y)) ts) (value_later x y a t h (sort_within x t s k)) ∙ ap (λ vs. value a x t ∷ vs) (map_later x y a ts ss h ks)

-- a sort in the list
pub are_at : (x : List TermNode) (ts : List ℕ) (ss : List Sort) (i : ℕ) (s : Sort) → AreOf x ts ss → slice_get ss i ≡ Some s → sort_at x (slice_index ts i) ≡ Some s
are_at x [] [] i s h k = cc
are_at x [] (r ∷ ss) i s h k = absurd h
are_at x (t ∷ ts) [] i s h k = cc
are_at x (t ∷ ts) (r ∷ ss) zero s (h, hs) k = h ∙ k
are_at x (t ∷ ts) (r ∷ ss) (suc i) s (h, hs) k = are_at x ts ss i s hs k

pub are_get : (x : List TermNode) (ts : List ℕ) (ss : List Sort) (i : ℕ) (s : Sort) → AreOf x ts ss → slice_get ss i ≡ Some s → option_and_then (sort_at x) (slice_get ts i) ≡ Some s
are_get x [] [] i s h k = cc
are_get x [] (r ∷ ss) i s h k = absurd h
are_get x (t ∷ ts) [] i s h k = cc
are_get x (t ∷ ts) (r ∷ ss) zero s (h, hs) k = h ∙ k
are_get x (t ∷ ts) (r ∷ ss) (suc i) s (h, hs) k = are_get x ts ss i s hs k

pub are_got : (x : List TermNode) (ts : List ℕ) (ss : List Sort) (i : ℕ) → AreOf x ts ss → i < length ss → sort_at x (slice_index ts i) ≡ slice_get ss i
are_got x [] [] i h l = absurd (omega (arith, l))
are_got x [] (r ∷ ss) i h l = absurd h
are_got x (t ∷ ts) [] i h l = absurd h
are_got x (t ∷ ts) (r ∷ ss) zero (h, hs) l = h
are_got x (t ∷ ts) (r ∷ ss) (suc i) (h, hs) l = are_got x ts ss i hs (omega (arith, l))

-- ---- nodes that are no variables

pub plain_same : (x : List TermNode) → Plain x x
plain_same x = record { below = λ k h. h; fit = λ a h. h }

pub plain_is : (x y : List TermNode) → y ≡ x → Plain x y
plain_is x y same = subst (λ (ns : List TermNode). Plain x ns) (sym same) (plain_same x)

pub plain_then : (x y z : List TermNode) → Plain x y → Plain y z → Plain x z
plain_then x y z h k = record { below = λ n b. k.below n (h.below n b); fit = λ a f. k.fit a (h.fit a f) }

pub below_push : (k : ℕ) (xs : List TermNode) (node : TermNode) → IsTrue (below k xs) → node_below k node ≡ true → IsTrue (below k (xs ++ node ∷ []))
below_push k [] node h n = and_both (node_below k node) true n refl
below_push k (x ∷ xs) node h n = and_both (node_below k x) (below k (xs ++ node ∷ [])) (and_left (node_below k x) (below k xs) h) (below_push k xs node (and_right (node_below k x) (below k xs) h) n)

pub fits_push : (a : ℕ → Value) (xs : List TermNode) (node : TermNode) → IsTrue (fits a xs) → node_fits a node ≡ true → IsTrue (fits a (xs ++ node ∷ []))
fits_push a [] node h n = and_both (node_fits a node) true n refl
fits_push a (x ∷ xs) node h n = and_both (node_fits a x) (fits a (xs ++ node ∷ [])) (and_left (node_fits a x) (fits a xs) h) (fits_push a xs node (and_right (node_fits a x) (fits a xs) h) n)

pub plain_push : (xs new : List TermNode) (node : TermNode) → ((k : ℕ) → node_below k node ≡ true) → ((a : ℕ → Value) → node_fits a node ≡ true) → new ≡ xs ++ node ∷ [] → Plain xs new
plain_push xs new node b f is = subst (λ (ns : List TermNode). Plain xs ns) (sym is) (record { below = λ k h. below_push k xs node h (b k); fit = λ a h. fits_push a xs node h (f a) })

-- ---- what stays where nodes stand behind

fits_left : (a : ℕ → Value) (xs ys : List TermNode) → IsTrue (fits a (xs ++ ys)) → IsTrue (fits a xs)
fits_left a [] ys h = refl
fits_left a (x ∷ xs) ys h =
    let b = and_parts (node_fits a x) (fits a (xs ++ ys)) h in
    and_from (node_fits a x) (fits a xs) b.0 (fits_left a xs ys b.1)

pub fits_before : (a : ℕ → Value) (old new : List TermNode) → Grows old new → IsTrue (fits a new) → IsTrue (fits a old)
fits_before a old new g h = fits_left a old g.0 (subst (λ (ns : List TermNode). IsTrue (fits a ns)) g.1 h)

pub value_stays : (a : ℕ → Value) (old new : List TermNode) (t : ℕ) → Grows old new → t < length old → value a new t ≡ value a old t
value_stays a old new t g low = ap (λ (ns : List TermNode). value a ns t) g.1 ∙ value-more a old g.0 t low

pub grows_on : (old mid new : List TermNode) → Grows old mid → Grows mid new → Grows old new
grows_on old mid new g h = (g.0 ++ h.0, h.1 ∙ (ap (λ (ns : List TermNode). ns ++ h.0) g.1 ∙ append_assoc old g.0 h.0))

pub grows_not : (old : List TermNode) → Grows old old
grows_not old = ([], sym (append-nil old))

-- sorts stay where nodes stand behind
pub sort_stays : (old new : List TermNode) (t : ℕ) → IsSome (sorts old) → IsSome (sorts new) → Grows old new → t < length old → sort_at new t ≡ sort_at old t
sort_stays old new t ok new_ok g low =
    let s = sort_here old t ok low in
    sort_later old new t s.0 (record { nodes = g; sound = new_ok }) s.1 ∙ sym s.1

node_below_more : (m n : ℕ) (node : TermNode) → m ≤ n → IsTrue (node_below m node) → IsTrue (node_below n node)
node_below_more m n (Lit a) l h = refl
node_below_more m n (ZeroMap i e) l h = refl
node_below_more m n (Variable number sort) l h = lt-ltb number n (let b = ltb-true number m h in omega (arith, b, l))
node_below_more m n (Unary op child) l h = refl
node_below_more m n (Binary op left right) l h = refl
node_below_more m n (If test one other) l h = refl
node_below_more m n (Select i j) l h = refl
node_below_more m n (Store i j v) l h = refl

pub below_more : (m n : ℕ) (xs : List TermNode) → m ≤ n → IsTrue (below m xs) → IsTrue (below n xs)
below_more m n [] l h = refl
below_more m n (x ∷ xs) l h =
    let b = and_parts (node_below m x) (below m xs) h in
    and_from (node_below n x) (below n xs) (node_below_more m n x l b.0) (below_more m n xs l b.1)

-- terms whose root is a bool have their sorts
pub formula_sorts : (f : Formula) → IsTrue (is_formula f) → IsSome (sorts f.nodes)
formula_sorts f h = by_sorts (sorts f.nodes) (and_parts (is_bool (sort_at f.nodes f.root)) (agree_onto [] f.nodes) h).0
  where
    by_sorts : (o : Option (List Sort)) → is_bool (option_and_then (λ (ss : List Sort). slice_get ss f.root) o) ≡ true → IsSome o
    by_sorts None k = cc
    by_sorts (Some ss) k = refl
