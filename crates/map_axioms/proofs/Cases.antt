-- Sorts by cases: what the children of a node of a sort are, and which nodes may be added.
use Rattle.std.proofs.Common.{◌≡◌, ℕ, zero, suc, ◌+◌, ◌<◌, Bool, true, false, ◌&&◌, List, [], ◌∷◌, ◌++◌, length, arith, sym, ◌∙◌, ap, refl, subst, length-append}
use Rattle.std.specs.Prelude.{Option, None, Some, if◌then◌else◌, slice_get, IsSome}
use Rattle.std.specs.Option.{option_and_then}
use Rattle.std.proofs.lemmas.Option.{slice_get_within}
use Rattle.hy_val.specs.Sorts.{same_scalar}
use Rattle.hy_val.specs.Operators.{sort_of_unary, sort_of_binary}
use Rattle.hy_val.specs.NodeSorts.{same_sort, as_sort, as_scalar, unary_sort, binary_sort, branch_sort, if_sort, select_sort, store_sort}
use Rattle.hy_val.specs.declared.sort.Scalar.{Scalar}
use Rattle.hy_val.specs.declared.sort.ScalarKind.TheVariants.{Bool as BoolSort, Bv as BvSort}
use Rattle.hy_val.specs.declared.sort.Sort.{Sort}
use Rattle.hy_val.specs.declared.sort.SortKind.TheVariants.{Scalar as ScalarSort, Map as MapSort}
use Rattle.hy_val.specs.declared.operator.UnOp.{UnOp}
use Rattle.hy_val.specs.declared.operator.BvOp.{BvOp}
use Rattle.hy_val.proofs.ResultSorts.{same_scalar_is, same_scalar_self}
use Rattle.hy_val.proofs.Lists.{slice_get-left, slice_get-seam}
use Rattle.hy_term.specs.TermSorts.{sort_of_node, sorts_onto, sorts, sort_at, sort_behind}
use Rattle.hy_term.specs.declared.node.TermNode.{TermNode}
use Rattle.hy_term.specs.declared.node.TermNode.TheVariants.{Unary, Binary, If}
use Rattle.hy_term.proofs.Sorting.{and_left, and_right, sorts-append, sorts_push, count_sorts}

pub same_sort_is : (s t : Sort) → same_sort s t ≡ true → s ≡ t
same_sort_is (ScalarSort s) (ScalarSort t) h = ap (λ r. ScalarSort r) (same_scalar_is s t h)
same_sort_is (ScalarSort s) (MapSort i e) h = cc
same_sort_is (MapSort i e) (ScalarSort t) h = cc
same_sort_is (MapSort i e) (MapSort j f) h =
    ap (λ r. MapSort r e) (same_scalar_is i j (and_left (same_scalar i j) (same_scalar e f) h))
    ∙ ap (λ r. MapSort j r) (same_scalar_is e f (and_right (same_scalar i j) (same_scalar e f) h))

-- ---- each node of the terms has its sort from the nodes before it

record Pushed (f : Sort → Option (List Sort)) (o : Option Sort) (ss : List Sort) : Type 0 where
  pub sort : Sort
  pub is : o ≡ Some sort
  pub rest : f sort ≡ Some ss

pushed : (f : Sort → Option (List Sort)) (o : Option Sort) (ss : List Sort) → option_and_then f o ≡ Some ss → Pushed f o ss
pushed f None ss h = cc
pushed f (Some s) ss h = record { sort = s; is = refl; rest = h }

sorts-front : (known : List Sort) (nodes : List TermNode) (ss : List Sort) (j : ℕ) → sorts_onto known nodes ≡ Some ss → j < length known → slice_get ss j ≡ slice_get known j
sorts-front known [] ss j h l = let e : known ≡ ss = cc in ap (λ (ts : List Sort). slice_get ts j) (sym e)
sorts-front known (n ∷ nodes) ss j h l =
    let p = pushed (λ s. sorts_onto (known ++ s ∷ []) nodes) (sort_of_node known n) ss h in
    sorts-front (known ++ p.sort ∷ []) nodes ss j p.rest (omega (arith, l, length-append known (p.sort ∷ [])))
    ∙ slice_get-left known (p.sort ∷ []) j l

pub record Case (ss : List Sort) (k : ℕ) (node : TermNode) : Type 0 where
  pub known : List Sort
  pub count : length known ≡ k
  pub front : (j : ℕ) → j < k → slice_get ss j ≡ slice_get known j
  pub is : sort_of_node known node ≡ slice_get ss k

case_by : (known : List Sort) (nodes : List TermNode) (ss : List Sort) (k : ℕ) (node : TermNode) → sorts_onto known nodes ≡ Some ss → slice_get nodes k ≡ Some node
    → Case ss (length known + k) node
case_by known [] ss k node h is = cc
case_by known (n ∷ nodes) ss zero node h is =
    let p = pushed (λ s. sorts_onto (known ++ s ∷ []) nodes) (sort_of_node known n) ss h in
    let same : n ≡ node = cc in
    let place : length known + 0 ≡ length known = omega arith in
    record {
      known = known;
      count = omega arith;
      front = λ j l. sorts-front known (n ∷ nodes) ss j h (omega (arith, l));
      is = ap (sort_of_node known) (sym same) ∙ p.is
          ∙ sym (ap (slice_get ss) place ∙ sorts-front (known ++ p.sort ∷ []) nodes ss (length known) p.rest (omega (arith, length-append known (p.sort ∷ [])))
          ∙ slice_get-seam known p.sort);
    }
case_by known (n ∷ nodes) ss (suc k) node h is =
    let p = pushed (λ s. sorts_onto (known ++ s ∷ []) nodes) (sort_of_node known n) ss h in
    let place : length (known ++ p.sort ∷ []) + k ≡ length known + suc k = omega (arith, length-append known (p.sort ∷ [])) in
    subst (λ (i : ℕ). Case ss i node) place (case_by (known ++ p.sort ∷ []) nodes ss k node p.rest is)

-- the sorts of the nodes before a node, and its own sort from them
pub record CaseAt (nodes : List TermNode) (k : ℕ) (node : TermNode) (s : Sort) : Type 0 where
  pub known : List Sort
  pub lower : (j : ℕ) (t : Sort) → slice_get known j ≡ Some t → (j < k) × (sort_at nodes j ≡ Some t)
  pub is : sort_of_node known node ≡ Some s

record Sorts (o : Option (List Sort)) : Type 0 where
  pub list : List Sort
  pub is : o ≡ Some list

sorts_there : (o : Option (List Sort)) (k : ℕ) (s : Sort) → option_and_then (λ (ss : List Sort). slice_get ss k) o ≡ Some s → Sorts o
sorts_there None k s h = cc
sorts_there (Some ss) k s h = record { list = ss; is = refl }

pub case_at : (nodes : List TermNode) (k : ℕ) (node : TermNode) (s : Sort) → sort_at nodes k ≡ Some s → slice_get nodes k ≡ Some node → CaseAt nodes k node s
case_at nodes k node s h is =
    let ss = sorts_there (sorts nodes) k s h in
    let zero_k : length {A = Sort} [] + k ≡ k = omega arith in
    let c : Case ss.list k node = subst (λ (i : ℕ). Case ss.list i node) zero_k (case_by [] nodes ss.list k node ss.is is) in
    let at_list : (j : ℕ) → sort_at nodes j ≡ slice_get ss.list j = λ j. ap (option_and_then (λ (ts : List Sort). slice_get ts j)) ss.is in
    record {
      known = c.known;
      lower = λ j t e.
          let l : j < k = omega (arith, slice_get_within c.known j t e, c.count) in
          (l, at_list j ∙ c.front j l ∙ e);
      is = c.is ∙ sym (at_list k) ∙ h;
    }

-- ---- the children of a node of a sort

record Scalared (o : Option Scalar) (s : Sort) : Type 0 where
  pub scalar : Scalar
  pub there : o ≡ Some scalar
  pub is : s ≡ ScalarSort scalar

scalared : (o : Option Scalar) (s : Sort) → as_sort o ≡ Some s → Scalared o s
scalared None s h = cc
scalared (Some t) s h = record { scalar = t; there = refl; is = cc }

pub record UnaryCase (op : UnOp) (o : Option Sort) (s : Sort) : Type 0 where
  pub operand : Scalar
  pub answer : Scalar
  pub there : o ≡ Some (ScalarSort operand)
  pub fits : sort_of_unary op operand ≡ Some answer
  pub is : s ≡ ScalarSort answer

pub unary_case : (op : UnOp) (o : Option Sort) (s : Sort) → unary_sort op (as_scalar o) ≡ Some s → UnaryCase op o s
unary_case op None s h = cc
unary_case op (Some (MapSort i e)) s h = cc
unary_case op (Some (ScalarSort t)) s h =
    let r = scalared (sort_of_unary op t) s h in
    record { operand = t; answer = r.scalar; there = refl; fits = r.there; is = r.is }

pub record BinaryCase (op : BvOp) (o p : Option Sort) (s : Sort) : Type 0 where
  pub left : Scalar
  pub right : Scalar
  pub answer : Scalar
  pub left_there : o ≡ Some (ScalarSort left)
  pub right_there : p ≡ Some (ScalarSort right)
  pub fits : sort_of_binary op left right ≡ Some answer
  pub is : s ≡ ScalarSort answer

pub binary_case : (op : BvOp) (o p : Option Sort) (s : Sort) → binary_sort op (as_scalar o) (as_scalar p) ≡ Some s → BinaryCase op o p s
binary_case op None p s h = cc
binary_case op (Some (MapSort i e)) p s h = cc
binary_case op (Some (ScalarSort t)) None s h = cc
binary_case op (Some (ScalarSort t)) (Some (MapSort i e)) s h = cc
binary_case op (Some (ScalarSort t)) (Some (ScalarSort u)) s h =
    let r = scalared (sort_of_binary op t u) s h in
    record { left = t; right = u; answer = r.scalar; left_there = refl; right_there = refl; fits = r.there; is = r.is }

pub record IfCase (o p q : Option Sort) (s : Sort) : Type 0 where
  pub test : o ≡ Some (ScalarSort BoolSort)
  pub one : p ≡ Some s
  pub other : q ≡ Some s

same_by : (b : Bool) (t u s : Sort) → same_sort t u ≡ b → (if b then Some t else None) ≡ Some s → (t ≡ s) × (u ≡ s)
same_by true t u s e h = let x : t ≡ s = cc in (x, sym (same_sort_is t u e) ∙ x)
same_by false t u s e h = cc

pub if_case : (o p q : Option Sort) (s : Sort) → if_sort (as_scalar o) p q ≡ Some s → IfCase o p q s
if_case None p q s h = cc
if_case (Some (MapSort i e)) p q s h = cc
if_case (Some (ScalarSort (BvSort w))) p q s h = cc
if_case (Some (ScalarSort BoolSort)) None q s h = cc
if_case (Some (ScalarSort BoolSort)) (Some t) None s h = cc
if_case (Some (ScalarSort BoolSort)) (Some t) (Some u) s h =
    let r = same_by (same_sort t u) t u s refl h in
    record { test = refl; one = ap Some r.0; other = ap Some r.1 }

pub record SelectCase (o p : Option Sort) (s : Sort) : Type 0 where
  pub index : Scalar
  pub elem : Scalar
  pub map : o ≡ Some (MapSort index elem)
  pub place : p ≡ Some (ScalarSort index)
  pub is : s ≡ ScalarSort elem

select_by : (b : Bool) (t i e : Scalar) (s : Sort) → same_scalar t i ≡ b → (if b then Some (ScalarSort e) else None) ≡ Some s → SelectCase (Some (MapSort i e)) (Some (ScalarSort t)) s
select_by true t i e s same h = record { index = i; elem = e; map = refl; place = ap (λ r. Some (ScalarSort r)) (same_scalar_is t i same); is = cc }
select_by false t i e s same h = cc

pub select_case : (o p : Option Sort) (s : Sort) → select_sort o (as_scalar p) ≡ Some s → SelectCase o p s
select_case None p s h = cc
select_case (Some (ScalarSort t)) p s h = cc
select_case (Some (MapSort i e)) None s h = cc
select_case (Some (MapSort i e)) (Some (MapSort j f)) s h = cc
select_case (Some (MapSort i e)) (Some (ScalarSort t)) s h = select_by (same_scalar t i) t i e s refl h

pub record StoreCase (o p q : Option Sort) (s : Sort) : Type 0 where
  pub index : Scalar
  pub elem : Scalar
  pub map : o ≡ Some (MapSort index elem)
  pub place : p ≡ Some (ScalarSort index)
  pub entry : q ≡ Some (ScalarSort elem)
  pub is : s ≡ MapSort index elem

store_by : (b c : Bool) (t u i e : Scalar) (s : Sort) → same_scalar t i ≡ b → same_scalar u e ≡ c → (if b && c then Some (MapSort i e) else None) ≡ Some s
    → StoreCase (Some (MapSort i e)) (Some (ScalarSort t)) (Some (ScalarSort u)) s
store_by true true t u i e s same also h =
    record { index = i; elem = e; map = refl; place = ap (λ r. Some (ScalarSort r)) (same_scalar_is t i same); entry = ap (λ r. Some (ScalarSort r)) (same_scalar_is u e also); is = cc }
store_by true false t u i e s same also h = cc
store_by false c t u i e s same also h = cc

pub store_case : (o p q : Option Sort) (s : Sort) → store_sort o (as_scalar p) (as_scalar q) ≡ Some s → StoreCase o p q s
store_case None p q s h = cc
store_case (Some (ScalarSort t)) p q s h = cc
store_case (Some (MapSort i e)) None q s h = cc
store_case (Some (MapSort i e)) (Some (MapSort j f)) q s h = cc
store_case (Some (MapSort i e)) (Some (ScalarSort t)) None s h = cc
store_case (Some (MapSort i e)) (Some (ScalarSort t)) (Some (MapSort j f)) s h = cc
store_case (Some (MapSort i e)) (Some (ScalarSort t)) (Some (ScalarSort u)) s h = store_by (same_scalar t i) (same_scalar u e) t u i e s refl refl h

sort_if_by : (b : Bool) (t s : Sort) → (if b then Some t else None) ≡ Some s → t ≡ s
sort_if_by true t s h = cc
sort_if_by false t s h = cc

-- ---- nodes that may be added behind others

abbrev at_by : Option (List Sort) → ℕ → Option Sort
at_by o t = option_and_then (λ (ss : List Sort). slice_get ss t) o

abbrev behind_by : Option (List Sort) → TermNode → Option Sort
behind_by o node = option_and_then (λ (ss : List Sort). sort_of_node ss node) o

unary_by : (o : Option (List Sort)) (op : UnOp) (c : ℕ) (s t : Scalar) → at_by o c ≡ Some (ScalarSort s) → sort_of_unary op s ≡ Some t → behind_by o (Unary op c) ≡ Some (ScalarSort t)
unary_by None op c s t h k = cc
unary_by (Some ss) op c s t h k = ap (λ (x : Option Sort). unary_sort op (as_scalar x)) h ∙ ap as_sort k

pub behind_unary : (out : List TermNode) (op : UnOp) (c : ℕ) (s t : Scalar) → sort_at out c ≡ Some (ScalarSort s) → sort_of_unary op s ≡ Some t → sort_behind out (Unary op c) ≡ Some (ScalarSort t)
behind_unary out = unary_by (sorts out)

binary_by : (o : Option (List Sort)) (op : BvOp) (l r : ℕ) (s t u : Scalar) → at_by o l ≡ Some (ScalarSort s) → at_by o r ≡ Some (ScalarSort t) → sort_of_binary op s t ≡ Some u
    → behind_by o (Binary op l r) ≡ Some (ScalarSort u)
binary_by None op l r s t u h k e = cc
binary_by (Some ss) op l r s t u h k e =
    ap (λ (x : Option Sort). binary_sort op (as_scalar x) (as_scalar (slice_get ss r))) h ∙ ap (λ (x : Option Sort). binary_sort op (Some s) (as_scalar x)) k ∙ ap as_sort e

pub behind_binary : (out : List TermNode) (op : BvOp) (l r : ℕ) (s t u : Scalar) → sort_at out l ≡ Some (ScalarSort s) → sort_at out r ≡ Some (ScalarSort t) → sort_of_binary op s t ≡ Some u
    → sort_behind out (Binary op l r) ≡ Some (ScalarSort u)
behind_binary out = binary_by (sorts out)

same_branch : (s : Scalar) → branch_sort (Some (ScalarSort s)) (Some (ScalarSort s)) ≡ Some (ScalarSort s)
same_branch s = ap (λ (b : Bool). if b then Some (ScalarSort s) else None) (same_scalar_self s)

if_by : (o : Option (List Sort)) (c y n : ℕ) (s : Scalar) → at_by o c ≡ Some (ScalarSort BoolSort) → at_by o y ≡ Some (ScalarSort s) → at_by o n ≡ Some (ScalarSort s)
    → behind_by o (If c y n) ≡ Some (ScalarSort s)
if_by None c y n s h k e = cc
if_by (Some ss) c y n s h k e =
    ap (λ (x : Option Sort). if_sort (as_scalar x) (slice_get ss y) (slice_get ss n)) h ∙ ap (λ (x : Option Sort). branch_sort x (slice_get ss n)) k
    ∙ ap (λ (x : Option Sort). branch_sort (Some (ScalarSort s)) x) e ∙ same_branch s

pub behind_if : (out : List TermNode) (c y n : ℕ) (s : Scalar) → sort_at out c ≡ Some (ScalarSort BoolSort) → sort_at out y ≡ Some (ScalarSort s) → sort_at out n ≡ Some (ScalarSort s)
    → sort_behind out (If c y n) ≡ Some (ScalarSort s)
behind_if out = if_by (sorts out)

-- the sort of a node that is added, and those of the others
push_by : (o p : Option (List Sort)) (node : TermNode) (s : Sort) → behind_by o node ≡ Some s → ((ss : List Sort) → o ≡ Some ss → sort_of_node ss node ≡ Some s → p ≡ Some (ss ++ s ∷ [])) → (ss : List Sort) × (o ≡ Some ss) × (p ≡ Some (ss ++ s ∷ []))
push_by None p node s h push = cc
push_by (Some ss) p node s h push = (ss, refl, push ss refl h)

pub record Added (out : List TermNode) (node : TermNode) (s : Sort) : Type 0 where
  pub old : List Sort
  pub old_is : sorts out ≡ Some old
  pub new_is : sorts (out ++ node ∷ []) ≡ Some (old ++ s ∷ [])

pub added : (out : List TermNode) (node : TermNode) (s : Sort) → sort_behind out node ≡ Some s → Added out node s
added out node s h =
    let r = push_by (sorts out) (sorts (out ++ node ∷ [])) node s h (λ ss e k. sorts_push out node ss s e k) in
    record { old = r.0; old_is = r.1; new_is = r.2 }

pub sort_added : (out : List TermNode) (node : TermNode) (s : Sort) → sort_behind out node ≡ Some s → sort_at (out ++ node ∷ []) (length out) ≡ Some s
sort_added out node s h =
    let a = added out node s h in
    ap (option_and_then (λ (ts : List Sort). slice_get ts (length out))) a.new_is
    ∙ ap (slice_get (a.old ++ s ∷ [])) (sym (count_sorts out a.old a.old_is)) ∙ slice_get-seam a.old s

-- the nodes before keep their sorts
more_by : (o p : Option (List Sort)) (ys : List TermNode) (t : ℕ) (s : Sort) → p ≡ option_and_then (λ (ss : List Sort). sorts_onto ss ys) o → IsSome p → at_by o t ≡ Some s → at_by p t ≡ Some s
more_by None p ys t s e is h = cc
more_by (Some ss) None ys t s e is h = cc
more_by (Some ss) (Some ts) ys t s e is h = sorts-front ss ys ts t (sym e) (slice_get_within ss t s h) ∙ h

pub sort_stays : (out more : List TermNode) (t : ℕ) (s : Sort) → IsSome (sorts (out ++ more)) → sort_at out t ≡ Some s → sort_at (out ++ more) t ≡ Some s
sort_stays out more t s is h = more_by (sorts out) (sorts (out ++ more)) more t s (sorts-append [] out more) is h

within_by : (o : Option (List Sort)) (n t : ℕ) (s : Sort) → ((ss : List Sort) → o ≡ Some ss → length ss ≡ n) → at_by o t ≡ Some s → t < n
within_by None n t s c h = cc
within_by (Some ss) n t s c h = omega (arith, c ss refl, slice_get_within ss t s h)

pub sort_within : (out : List TermNode) (t : ℕ) (s : Sort) → sort_at out t ≡ Some s → t < length out
sort_within out t s h = within_by (sorts out) (length out) t s (λ ss e. count_sorts out ss e) h
