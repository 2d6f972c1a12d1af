-- The wires of each node carry the bits of its value.
use Rattle.std.proofs.Common.{◌≡◌, ℕ, zero, suc, ◌<◌, ◌≤◌, Bool, true, false, List, [], ◌∷◌, length, map, take, drop, refl, ap, sym, ◌∙◌, subst, arith}
use Rattle.std.specs.Prelude.{Option, None, Some, slice_get, nat_eq, nat_lt, nat_le, IsTrue, IsSome, if◌then◌else◌}
use Rattle.std.specs.Option.{option_and_then}
use Rattle.std.proofs.lemmas.Bool.Decides.{nat_tests}
use Rattle.hy_val.specs.Sorts.{scalar_of, is_scalar, has_scalar, rank}
use Rattle.hy_val.specs.NodeSorts.{is_sort, same_sort, as_sort, as_scalar, unary_sort, binary_sort, branch_sort, if_sort}
use Rattle.hy_val.specs.Operators.{sort_of_unary, sort_of_binary, apply1, apply}
use Rattle.hy_val.specs.Values.{has_sort, at, is_on, unary_value, binary_value, pick}
use Rattle.hy_val.specs.declared.sort.Scalar.{Scalar}
use Rattle.hy_val.specs.declared.sort.ScalarKind.TheVariants.{Bool as BoolSort, Bv as BvSort}
use Rattle.hy_val.specs.declared.sort.Sort.{Sort}
use Rattle.hy_val.specs.declared.sort.SortKind.TheVariants.{Scalar as ScalarSort, Map as MapSort}
use Rattle.hy_val.specs.declared.operator.UnOp.{UnOp}
use Rattle.hy_val.specs.declared.operator.BvOp.{BvOp}
use Rattle.hy_val.specs.declared.atom.Atom.{Atom}
use Rattle.hy_val.specs.declared.atom.AtomKind.TheVariants.{Bool as BoolAtom, Bv as BvAtom}
use Rattle.hy_val.specs.declared.value.Value.{Value}
use Rattle.hy_val.specs.declared.value.Value.TheVariants.{Atom as AtomValue, Map as MapValue}
use Rattle.hy_term.specs.Formula.{Formula}
use Rattle.hy_term.specs.TermSorts.{sort_of_node, sorts, sort_at, agree_onto, is_bool, is_formula, are_plain}
use Rattle.hy_term.specs.Meaning.{node_value, values, value, fits}
use Rattle.hy_term.specs.Variables.{variables, numbers, have_sorts, are_scalars, count_below}
use Rattle.hy_term.specs.declared.node.TermNode.{TermNode}
use Rattle.hy_term.specs.declared.node.TermNode.TheVariants.{Lit, Variable, Unary, Binary, If}
use Rattle.hy_term.proofs.Typing.{same_sort_is}
use Rattle.gate_net.specs.declared.net.Net.{Net}
use Rattle.bit_blast.specs.Words.{bits, word, AreWires, IsWord, Grows, Means}
use Rattle.bit_blast.specs.Operations.{unary_width, unary_number, binary_width, binary_number}
use Rattle.bit_blast.specs.Blasted.{scalar_width, sort_width, atom_bits, value_bits, input_bits, input_count, width_of}
use Rattle.bit_blast.specs.Standing.{TermLaws, CarriesNode, Stands}
use Rattle.bit_blast.proofs.LowBits.{and_left, and_right, scalar_is, word_of_atom, atom_of_word}
use Rattle.bit_blast.proofs.Operating.{unary_fits, unary_right, binary_fits, binary_right}
use Rattle.bit_blast.proofs.Placing.{length-inputs, inputs_of}

never : (P : Type 0) → false ≡ true → P
never P h = absurd (let no : false ≡ true → ⊥ = λ y. cc in no h)

no_sort : (P : Type 0) (s : Sort) → None ≡ Some s → P
no_sort P s h = absurd (let no : None ≡ Some s → ⊥ = λ y. cc in no h)

-- ---- the sorts of all nodes

pub record Sorted (nodes : List TermNode) : Type 0 where
  pub all : List Sort
  pub is : sorts nodes ≡ Some all
  pub some : IsSome (sorts nodes)

sorted_by : (o : Option (List Sort)) (nodes : List TermNode) (root : ℕ) → sorts nodes ≡ o → IsTrue (is_bool (option_and_then (λ (ss : List Sort). slice_get ss root) o)) → Sorted nodes
sorted_by None nodes root is h = never (Sorted nodes) h
sorted_by (Some ss) nodes root is h = record { all = ss; is = is; some = subst (λ (o : Option (List Sort)). IsSome o) (sym is) refl }

pub all_sorted : (f : Formula) → IsTrue (is_formula f) → Sorted f.nodes
all_sorted f h = sorted_by (sorts f.nodes) f.nodes f.root refl (and_left (is_bool (sort_at f.nodes f.root)) (agree_onto [] f.nodes) h)

pub all_agree : (f : Formula) → IsTrue (is_formula f) → IsTrue (agree_onto [] f.nodes)
all_agree f h = and_right (is_bool (sort_at f.nodes f.root)) (agree_onto [] f.nodes) h

pub sort_is : (nodes : List TermNode) (s : Sorted nodes) (k : ℕ) → sort_at nodes k ≡ slice_get s.all k
sort_is nodes s k = ap (option_and_then (λ (ss : List Sort). slice_get ss k)) s.is

pub get_taken : (ss : List Sort) (k j : ℕ) (s : Sort) → slice_get (take k ss) j ≡ Some s → (j < k) × (slice_get ss j ≡ Some s)
get_taken ss zero j s h = no_sort ((j < zero) × (slice_get ss j ≡ Some s)) s h
get_taken [] (suc k) j s h = no_sort ((j < suc k) × (slice_get [] j ≡ Some s)) s h
get_taken (x ∷ ss) (suc k) zero s h = (omega arith, h)
get_taken (x ∷ ss) (suc k) (suc j) s h = let r = get_taken ss k j s h in (omega (arith, r.0), r.1)

-- the node's sort, from those before
pub own_sort : TermLaws → (nodes : List TermNode) (s : Sorted nodes) (k : ℕ) (node : TermNode) (sort : Sort) → slice_get nodes k ≡ Some node → sort_at nodes k ≡ Some sort
    → sort_of_node (take k s.all) node ≡ Some sort
own_sort laws nodes s k node sort is own = sym (laws.sort nodes s.all k node s.is is) ∙ sym (sort_is nodes s k) ∙ own

-- ---- inputs for an assignment

pub inputs_fit : TermLaws → (f : Formula) (a : ℕ → Value) → IsTrue (is_formula f) → IsTrue (are_plain f.nodes) → IsTrue (fits a f.nodes)
    → IsTrue (are_scalars (variables f.nodes)) × IsTrue (have_sorts (variables f.nodes) (map a (numbers f.nodes)))
inputs_fit laws f a h p fit = (laws.scalars f.nodes (all_sorted f h).some p, (laws.fits a f.nodes (all_agree f h)).0 fit)

pub inputs_length : TermLaws → (f : Formula) (a : ℕ → Value) → IsTrue (is_formula f) → IsTrue (are_plain f.nodes) → IsTrue (fits a f.nodes) → length (input_bits (variables f.nodes) a) ≡ input_count (variables f.nodes)
inputs_length laws f a h p fit = let two = inputs_fit laws f a h p fit in length-inputs (variables f.nodes) a two.0 two.1

-- ---- what is shown of one node

-- the node is the k-th, of the scalar sort u, and the net has the bits of the variables' values as its inputs
pub record Place (f : Formula) (net : Net) (k : ℕ) (node : TermNode) (u : Scalar) : Type 0 where
  pub laws : TermLaws
  pub formula : IsTrue (is_formula f)
  pub plain : IsTrue (are_plain f.nodes)
  pub is : slice_get f.nodes k ≡ Some node
  pub sort : sort_at f.nodes k ≡ Some (ScalarSort u)
  pub fine : IsTrue (is_sort (ScalarSort u))
  pub inputs : net.inputs ≡ input_count (variables f.nodes)

scalar_some : (u : Scalar) → IsTrue (is_scalar u) → (0 < scalar_width u) × (scalar_width u ≤ 64)
scalar_some BoolSort h = (omega arith, omega arith)
scalar_some (BvSort w) h =
    let low : nat_lt 0 w ≡ true = and_left (nat_lt 0 w) (nat_le w 64) h in
    let high : nat_le w 64 ≡ true = and_right (nat_lt 0 w) (nat_le w 64) h in
    (grind (arith, nat_tests, low), grind (arith, nat_tests, high))

-- the wires carry the bits
pub by_bits : (f : Formula) (net : Net) (k : ℕ) (node : TermNode) (u : Scalar) (out : List ℕ) → Place f net k node u → AreWires net out → length out ≡ scalar_width u
    → ((a : ℕ → Value) → IsTrue (fits a f.nodes) → length (input_bits (variables f.nodes) a) ≡ net.inputs → bits (input_bits (variables f.nodes) a) net out ≡ value_bits (node_value a (values a f.nodes) node))
    → CarriesNode f.nodes net k out
by_bits f net k node u out p wires len means =
    let size = scalar_some u p.fine in
    record {
      wires = record { width = len ∙ sym (ap width_of p.sort); there = wires };
      some = omega (arith, size.0, len);
      narrow = omega (arith, size.1, len);
      means = λ a fit.
          means a fit (inputs_length p.laws f a p.formula p.plain fit ∙ sym p.inputs)
          ∙ ap value_bits (sym (p.laws.value a f.nodes k node (all_sorted f p.formula).some p.is));
    }

-- a value's atom, whose number is this
pub record AtomIs (v : Value) (n : ℕ) : Type 0 where
  pub atom : Atom
  pub is : v ≡ AtomValue atom
  pub number : n ≡ rank atom

-- the wires carry the number
pub by_number : (f : Formula) (net : Net) (k : ℕ) (node : TermNode) (u : Scalar) (out : List ℕ) → Place f net k node u → AreWires net out → length out ≡ scalar_width u
    → ((a : ℕ → Value) → IsTrue (fits a f.nodes) → length (input_bits (variables f.nodes) a) ≡ net.inputs → AtomIs (node_value a (values a f.nodes) node) (word (input_bits (variables f.nodes) a) net out))
    → CarriesNode f.nodes net k out
by_number f net k node u out p wires len means =
    by_bits f net k node u out p wires len
    (λ a fit e.
    let r = means a fit e in
    let v : value a f.nodes k ≡ AtomValue r.atom = p.laws.value a f.nodes k node (all_sorted f p.formula).some p.is ∙ r.is in
    let has : IsTrue (has_scalar r.atom u) = subst (λ (x : Value). IsTrue (has_sort x (ScalarSort u))) v (p.laws.typed a f.nodes k (ScalarSort u) fit p.sort) in
    atom_of_word (input_bits (variables f.nodes) a) net out r.atom u has len r.number ∙ ap value_bits (sym r.is))

-- ---- children

-- a child of the sort t, with its wires
pub record Child (f : Formula) (net : Net) (j : ℕ) (t : Scalar) (ws : List ℕ) : Type 0 where
  pub carries : CarriesNode f.nodes net j ws
  pub sort : sort_at f.nodes j ≡ Some (ScalarSort t)
  pub width : length ws ≡ scalar_width t

pub child : (f : Formula) (net : Net) (words : List (List ℕ)) (s : Sorted f.nodes) (k j : ℕ) (t : Scalar) (ws : List ℕ) → Stands f.nodes net words → slice_get (take k s.all) j ≡ Some (ScalarSort t)
    → slice_get words j ≡ Some ws → Child f net j t ws
child f net words s k j t ws stands is at =
    let own : sort_at f.nodes j ≡ Some (ScalarSort t) = sort_is f.nodes s j ∙ (get_taken s.all k j (ScalarSort t) is).1 in
    let carries = stands.each j ws at in
    record { carries = carries; sort = own; width = carries.wires.width ∙ ap width_of own }

-- the child's value is an atom of its sort, and the wires carry its number
pub record ChildIs (f : Formula) (net : Net) (j : ℕ) (t : Scalar) (ws : List ℕ) (a : ℕ → Value) : Type 0 where
  pub atom : Atom
  pub is : value a f.nodes j ≡ AtomValue atom
  pub own : scalar_of atom ≡ t
  pub number : word (input_bits (variables f.nodes) a) net ws ≡ rank atom

child_by : (v : Value) (f : Formula) (net : Net) (j : ℕ) (t : Scalar) (ws : List ℕ) (a : ℕ → Value) → value a f.nodes j ≡ v → IsTrue (has_sort v (ScalarSort t))
    → bits (input_bits (variables f.nodes) a) net ws ≡ value_bits v → ChildIs f net j t ws a
child_by (AtomValue x) f net j t ws a is has bits_are =
    record { atom = x; is = is; own = scalar_is x t has; number = word_of_atom (input_bits (variables f.nodes) a) net ws x t has bits_are }
child_by (MapValue m) f net j t ws a is has bits_are = never (ChildIs f net j t ws a) has

pub child_value : TermLaws → (f : Formula) (net : Net) (j : ℕ) (t : Scalar) (ws : List ℕ) (a : ℕ → Value) → Child f net j t ws → IsTrue (fits a f.nodes) → ChildIs f net j t ws a
child_value laws f net j t ws a c fit =
    child_by (value a f.nodes j) f net j t ws a refl (laws.typed a f.nodes j (ScalarSort t) fit c.sort) (c.carries.means a fit)

-- ---- parts of sorts

as_sort_is : (o : Option Scalar) (s : Sort) → as_sort o ≡ Some s → (u : Scalar) × (o ≡ Some u) × (s ≡ ScalarSort u)
as_sort_is None s h = no_sort ((u : Scalar) × (None ≡ Some u) × (s ≡ ScalarSort u)) s h
as_sort_is (Some t) s h = let e : s ≡ ScalarSort t = cc in (t, refl, e)

pub record UnarySorts (op : UnOp) (o : Option Sort) (s : Sort) : Type 0 where
  pub t : Scalar
  pub u : Scalar
  pub operand : o ≡ Some (ScalarSort t)
  pub result : sort_of_unary op t ≡ Some u
  pub whole : s ≡ ScalarSort u

pub unary_sorts : (op : UnOp) (o : Option Sort) (s : Sort) → unary_sort op (as_scalar o) ≡ Some s → UnarySorts op o s
unary_sorts op None s h = no_sort (UnarySorts op None s) s h
unary_sorts op (Some (MapSort i e)) s h = no_sort (UnarySorts op (Some (MapSort i e)) s) s h
unary_sorts op (Some (ScalarSort t)) s h =
    let r = as_sort_is (sort_of_unary op t) s h in record { t = t; u = r.0; operand = refl; result = r.1; whole = r.2 }

pub record BinarySorts (op : BvOp) (o p : Option Sort) (s : Sort) : Type 0 where
  pub t : Scalar
  pub t' : Scalar
  pub u : Scalar
  pub left : o ≡ Some (ScalarSort t)
  pub right : p ≡ Some (ScalarSort t')
  pub result : sort_of_binary op t t' ≡ Some u
  pub whole : s ≡ ScalarSort u

pub binary_sorts : (op : BvOp) (o p : Option Sort) (s : Sort) → binary_sort op (as_scalar o) (as_scalar p) ≡ Some s → BinarySorts op o p s
binary_sorts op None p s h = no_sort (BinarySorts op None p s) s h
binary_sorts op (Some (MapSort i e)) p s h = no_sort (BinarySorts op (Some (MapSort i e)) p s) s h
binary_sorts op (Some (ScalarSort t)) None s h = no_sort (BinarySorts op (Some (ScalarSort t)) None s) s h
binary_sorts op (Some (ScalarSort t)) (Some (MapSort i e)) s h = no_sort (BinarySorts op (Some (ScalarSort t)) (Some (MapSort i e)) s) s h
binary_sorts op (Some (ScalarSort t)) (Some (ScalarSort t')) s h =
    let r = as_sort_is (sort_of_binary op t t') s h in record { t = t; t' = t'; u = r.0; left = refl; right = refl; result = r.1; whole = r.2 }

pub record IfSorts (c o p : Option Sort) (s : Sort) : Type 0 where
  pub cond : c ≡ Some (ScalarSort BoolSort)
  pub one : o ≡ Some s
  pub other : p ≡ Some s

same_by : (b : Bool) (t u s : Sort) → same_sort t u ≡ b → (if b then Some t else None) ≡ Some s → (t ≡ s) × (u ≡ s)
same_by true t u s own is = let e : t ≡ s = cc in (e, sym (same_sort_is t u own) ∙ e)
same_by false t u s own is = no_sort ((t ≡ s) × (u ≡ s)) s is

if_by : (c o p : Option Sort) (s : Sort) → c ≡ Some (ScalarSort BoolSort) → branch_sort o p ≡ Some s → IfSorts c o p s
if_by c None p s cond h = no_sort (IfSorts c None p s) s h
if_by c (Some t) None s cond h = no_sort (IfSorts c (Some t) None s) s h
if_by c (Some t) (Some u) s cond h =
    let two = same_by (same_sort t u) t u s refl h in
    record { cond = cond; one = ap (λ (x : Sort). Some x) two.0; other = ap (λ (x : Sort). Some x) two.1 }

pub if_sorts : (c o p : Option Sort) (s : Sort) → if_sort (as_scalar c) o p ≡ Some s → IfSorts c o p s
if_sorts None o p s h = no_sort (IfSorts None o p s) s h
if_sorts (Some (MapSort i e)) o p s h = no_sort (IfSorts (Some (MapSort i e)) o p s) s h
if_sorts (Some (ScalarSort (BvSort w))) o p s h = no_sort (IfSorts (Some (ScalarSort (BvSort w))) o p s) s h
if_sorts (Some (ScalarSort BoolSort)) o p s h = if_by (Some (ScalarSort BoolSort)) o p s refl h

-- ---- the nodes

pub unary_carries : (f : Formula) (net net' : Net) (n k j : ℕ) (op : UnOp) (t u : Scalar) (as' out : List ℕ) → Place f net' k (Unary op j) u → Child f net j t as' → sort_of_unary op t ≡ Some u
    → Grows net net' n → IsWord net' (unary_width op (length as')) out → Means net' out (λ ins. unary_number op (length as') (word ins net as')) → CarriesNode f.nodes net' k out
unary_carries f net net' n k j op t u as' out p c sort grows wires means =
    by_number f net' k (Unary op j) u out p wires.there (wires.width ∙ ap (unary_width op) c.width ∙ (unary_fits op t u sort).1)
    (λ a fit e.
    let ins = input_bits (variables f.nodes) a in
    let r = child_value p.laws f net j t as' a c fit in
    record {
      atom = apply1 op r.atom;
      is = ap (unary_value op) r.is;
      number =
          means (input_bits (variables f.nodes) a) e
          ∙ ap (λ (w : ℕ). unary_number op w (word (input_bits (variables f.nodes) a) net as')) (c.width ∙ ap scalar_width (sym r.own))
          ∙ ap (unary_number op (scalar_width (scalar_of r.atom))) r.number
          ∙ sym (unary_right op r.atom u (ap (sort_of_unary op) r.own ∙ sort));
    })

pub binary_carries : (f : Formula) (net net' : Net) (n k i j : ℕ) (op : BvOp) (t t' u : Scalar) (as' bs out : List ℕ) → Place f net' k (Binary op i j) u → Child f net i t as' → Child f net j t' bs
    → sort_of_binary op t t' ≡ Some u → Grows net net' n → IsWord net' (binary_width op (length as') (length bs)) out
    → Means net' out (λ ins. binary_number op (length as') (length bs) (word ins net as') (word ins net bs)) → CarriesNode f.nodes net' k out
binary_carries f net net' n k i j op t t' u as' bs out p c d sort grows wires means =
    by_number f net' k (Binary op i j) u out p wires.there
    (wires.width ∙ ap (λ (v : ℕ). binary_width op v (length bs)) c.width ∙ ap (binary_width op (scalar_width t)) d.width ∙ (binary_fits op t t' u sort).1)
    (λ a fit e.
    let r = child_value p.laws f net i t as' a c fit in
    let q = child_value p.laws f net j t' bs a d fit in
    record {
      atom = apply op r.atom q.atom;
      is = ap (λ (v : Value). binary_value op v (value a f.nodes j)) r.is ∙ ap (binary_value op (AtomValue r.atom)) q.is;
      number =
          means (input_bits (variables f.nodes) a) e
          ∙ ap (λ (v : ℕ). binary_number op v (length bs) (word (input_bits (variables f.nodes) a) net as') (word (input_bits (variables f.nodes) a) net bs)) (c.width ∙ ap scalar_width (sym r.own))
          ∙ ap (λ (w : ℕ). binary_number op (scalar_width (scalar_of r.atom)) w (word (input_bits (variables f.nodes) a) net as') (word (input_bits (variables f.nodes) a) net bs))
          (d.width ∙ ap scalar_width (sym q.own))
          ∙ ap (λ (x : ℕ). binary_number op (scalar_width (scalar_of r.atom)) (scalar_width (scalar_of q.atom)) x (word (input_bits (variables f.nodes) a) net bs)) r.number
          ∙ ap (binary_number op (scalar_width (scalar_of r.atom)) (scalar_width (scalar_of q.atom)) (rank r.atom)) q.number
          ∙ sym (binary_right op r.atom q.atom u (ap (λ (x : Scalar). sort_of_binary op x (scalar_of q.atom)) r.own ∙ ap (sort_of_binary op t) q.own ∙ sort));
    })

on_is : (x : Atom) → scalar_of x ≡ BoolSort → nat_eq (rank x) 1 ≡ is_on (AtomValue x)
on_is (BoolAtom true) h = refl
on_is (BoolAtom false) h = refl
on_is (BvAtom v) h = cc

picked : (b : Bool) (v w : Value) (x y : Atom) (m n : ℕ) → v ≡ AtomValue x → w ≡ AtomValue y → m ≡ rank x → n ≡ rank y → AtomIs (if b then v else w) (if b then m else n)
picked true v w x y m n v_is w_is m_is n_is = record { atom = x; is = v_is; number = m_is }
picked false v w x y m n v_is w_is m_is n_is = record { atom = y; is = w_is; number = n_is }

pub if_carries : (f : Formula) (net net' : Net) (n k h i j : ℕ) (u : Scalar) (cs as' bs out : List ℕ) → Place f net' k (If h i j) u → Child f net h BoolSort cs → Child f net i u as' → Child f net j u bs
    → Grows net net' n → IsWord net' (length as') out → Means net' out (λ ins. if nat_eq (word ins net cs) 1 then word ins net as' else word ins net bs) → CarriesNode f.nodes net' k out
if_carries f net net' n k h i j u cs as' bs out p b c d grows wires means =
    by_number f net' k (If h i j) u out p wires.there (wires.width ∙ c.width)
    (λ a fit e.
    let ins = input_bits (variables f.nodes) a in
    let q = child_value p.laws f net h BoolSort cs a b fit in
    let r = child_value p.laws f net i u as' a c fit in
    let s = child_value p.laws f net j u bs a d fit in
    let test : nat_eq (word (input_bits (variables f.nodes) a) net cs) 1 ≡ is_on (value a f.nodes h) =
    ap (λ (m : ℕ). nat_eq m 1) q.number ∙ on_is q.atom q.own ∙ ap is_on (sym q.is) in
    subst (λ (m : ℕ). AtomIs (pick (value a f.nodes h) (value a f.nodes i) (value a f.nodes j)) m)
    (sym (means (input_bits (variables f.nodes) a) e
    ∙ ap (λ (x : Bool). if x then word (input_bits (variables f.nodes) a) net as' else word (input_bits (variables f.nodes) a) net bs) test))
    (picked (is_on (value a f.nodes h)) (value a f.nodes i) (value a f.nodes j) r.atom s.atom (word (input_bits (variables f.nodes) a) net as') (word (input_bits (variables f.nodes) a) net bs)
    r.is s.is r.number s.number))

pub lit_carries : (f : Formula) (net : Net) (k : ℕ) (x : Atom) (u : Scalar) (out : List ℕ) → Place f net k (Lit x) u → scalar_of x ≡ u → IsWord net (scalar_width (scalar_of x)) out
    → ((ins : List Bool) → length ins ≡ net.inputs → bits ins net out ≡ atom_bits x) → CarriesNode f.nodes net k out
lit_carries f net k x u out p own wires law =
    by_bits f net k (Lit x) u out p wires.there (wires.width ∙ ap scalar_width own) (λ a fit e. law (input_bits (variables f.nodes) a) e)

pub variable_carries : (f : Formula) (net : Net) (k number : ℕ) (sort : Sort) (u : Scalar) (out : List ℕ) → Place f net k (Variable number sort) u → sort ≡ ScalarSort u → IsWord net (sort_width sort) out
    → ((ins : List Bool) → length ins ≡ net.inputs
    → bits ins net out ≡ take (sort_width sort) (drop (input_count (take (count_below number (variables f.nodes)) (variables f.nodes))) ins)) → CarriesNode f.nodes net k out
variable_carries f net k number sort u out p own wires law =
    by_bits f net k (Variable number sort) u out p wires.there (wires.width ∙ ap sort_width own)
    (λ a fit e.
    let two = inputs_fit p.laws f a p.formula p.plain fit in
    law (input_bits (variables f.nodes) a) e
    ∙ inputs_of (variables f.nodes) a (count_below number (variables f.nodes)) (record { number = number; sort = sort }) two.0 two.1
    (p.laws.listed f.nodes k number sort (all_agree f p.formula) p.is))
