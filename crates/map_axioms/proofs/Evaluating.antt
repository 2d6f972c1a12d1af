-- The values of reduced terms as atoms, and the look-up of a variable's.
use Rattle.std.proofs.Common.{◌≡◌, ◌≢◌, ℕ, zero, suc, ◌<◌, Bool, true, false, List, [], ◌∷◌, ◌++◌, map, arith, sym, ◌∙◌, ap, refl, subst}
use Rattle.std.specs.Prelude.{Option, None, Some, if◌then◌else◌, slice_get, IsTrue, IsSome, nat_eq, nat_lt}
use Rattle.std.specs.Option.{option_and_then, option_map}
use Rattle.std.proofs.lemmas.Option.{slice_get-map}
use Rattle.std.proofs.lemmas.Bool.Decides.{nat_tests}
use Rattle.hy_val.specs.Sorts.{scalar_of, has_scalar}
use Rattle.hy_val.specs.Operators.{sort_of_unary, sort_of_binary, apply, apply1}
use Rattle.hy_val.specs.NodeSorts.{is_sort}
use Rattle.hy_val.specs.Values.{at, default, has_sort, is_on, pick, unary_value, binary_value}
use Rattle.hy_val.specs.declared.atom.Atom.{Atom}
use Rattle.hy_val.specs.declared.atom.AtomKind.TheVariants.{Bool as BoolAtom}
use Rattle.hy_val.specs.declared.sort.Scalar.{Scalar}
use Rattle.hy_val.specs.declared.sort.Sort.{Sort}
use Rattle.hy_val.specs.declared.sort.SortKind.TheVariants.{Scalar as ScalarSort, Map as MapSort}
use Rattle.hy_val.specs.declared.operator.UnOp.{UnOp}
use Rattle.hy_val.specs.declared.operator.BvOp.{BvOp}
use Rattle.hy_val.specs.declared.value.Value.{Value}
use Rattle.hy_val.specs.declared.value.Value.TheVariants.{Atom as AtomValue}
use Rattle.hy_val.proofs.ResultSorts.{unary_sorted, binary_sorted, has_scalar_is}
use Rattle.hy_term.specs.TermSorts.{sort_of_node, sorts_onto, is_plain, are_plain}
use Rattle.hy_term.specs.Meaning.{node_value, values_onto, values, node_fits, fits}
use Rattle.hy_term.specs.Variables.{first_above, ascend, numbers_of, count_below, has_number, of_list}
use Rattle.hy_term.specs.declared.node.TermNode.{TermNode}
use Rattle.hy_term.specs.declared.node.TermNode.TheVariants.{Lit, ZeroMap, Variable, Unary, Binary, If, Select, Store}
use Rattle.hy_term.specs.declared.node.TermVariable.{TermVariable}
use Rattle.hy_term.proofs.Sorting.{and_left, and_right}
use Rattle.map_axioms.specs.Steps.{atom_values, atom_sorts, chosen_by}
use Rattle.map_axioms.proofs.Cases.{unary_case, binary_case, if_case}
use Rattle.map_axioms.proofs.Nodes.{if_is}

-- ---- the look-up

abbrev look : ℕ → List TermVariable → List Value → ℕ → Value
look n vs ws k = if has_number n (slice_get vs k) then at ws k else AtomValue (BoolAtom false)

off_list : (n : ℕ) (vs : List TermVariable) (ws : List Value) → first_above n (numbers_of vs) ≡ true → ascend (numbers_of vs) ≡ true → of_list (numbers_of vs) ws n ≡ AtomValue (BoolAtom false)
off_list n [] ws f a = refl
off_list n (v ∷ vs) [] f a = refl
off_list n (v ∷ vs) (w ∷ ws) f a =
    let less : n < v.number = grind (arith, nat_tests, f) in
    off (nat_eq n v.number) w (of_list (numbers_of vs) ws n) (grind (arith, nat_tests, less))
    ∙ off_list n vs ws (above n v.number vs less (and_left (first_above v.number (numbers_of vs)) (ascend (numbers_of vs)) a)) (and_right (first_above v.number (numbers_of vs)) (ascend (numbers_of vs)) a)
  where
    off : (b : Bool) (x y : Value) → b ≡ false → (if b then x else y) ≡ y
    off true x y h = cc
    off false x y h = refl

    above : (m k : ℕ) (us : List TermVariable) → m < k → first_above k (numbers_of us) ≡ true → first_above m (numbers_of us) ≡ true
    above m k [] l h = refl
    above m k (u ∷ us) l h = grind (arith, nat_tests, l, h)

found_by : (n : ℕ) (v : TermVariable) (vs : List TermVariable) (w : Value) (ws : List Value) (less same : Bool) → nat_lt v.number n ≡ less → nat_eq n v.number ≡ same → ascend (numbers_of (v ∷ vs)) ≡ true
    → of_list (numbers_of vs) ws n ≡ look n vs ws (count_below n vs)
    → (if same then w else of_list (numbers_of vs) ws n) ≡ look n (v ∷ vs) (w ∷ ws) (if less then suc (count_below n vs) else zero)
found_by n v vs w ws true true l e a ih = absurd (grind (arith, nat_tests, l, e))
found_by n v vs w ws true false l e a ih = ih
found_by n v vs w ws false true l e a ih =
    let test : nat_eq v.number n ≡ true = grind (arith, nat_tests, e) in
    ap (λ (b : Bool). if b then w else AtomValue (BoolAtom false)) (sym test)
found_by n v vs w ws false false l e a ih =
    let test : nat_eq v.number n ≡ false = grind (arith, nat_tests, e) in
    let less : n < v.number = grind (arith, nat_tests, l, e) in
    off_list n vs ws (above n v.number vs less (and_left (first_above v.number (numbers_of vs)) (ascend (numbers_of vs)) a)) (and_right (first_above v.number (numbers_of vs)) (ascend (numbers_of vs)) a)
    ∙ ap (λ (b : Bool). if b then w else AtomValue (BoolAtom false)) (sym test)
  where
    above : (m k : ℕ) (us : List TermVariable) → m < k → first_above k (numbers_of us) ≡ true → first_above m (numbers_of us) ≡ true
    above m k [] l h = refl
    above m k (u ∷ us) l h = grind (arith, nat_tests, l, h)

none_by : (b : Bool) → AtomValue (BoolAtom false) ≡ (if b then AtomValue (BoolAtom false) else AtomValue (BoolAtom false))
none_by true = refl
none_by false = refl

pub list_found : (n : ℕ) (vs : List TermVariable) (ws : List Value) → ascend (numbers_of vs) ≡ true → of_list (numbers_of vs) ws n ≡ look n vs ws (count_below n vs)
list_found n [] ws a = refl
list_found n (v ∷ vs) [] a = none_by (has_number n (slice_get (v ∷ vs) (count_below n (v ∷ vs))))
list_found n (v ∷ vs) (w ∷ ws) a =
    found_by n v vs w ws (nat_lt v.number n) (nat_eq n v.number) refl refl a (list_found n vs ws (and_right (first_above v.number (numbers_of vs)) (ascend (numbers_of vs)) a))

-- the value where the code finds it, and where it doesn't
pub look_there : (n k : ℕ) (vs : List TermVariable) (atoms : List Atom) (v : TermVariable) (a : Atom) → ascend (numbers_of vs) ≡ true → k ≡ count_below n vs → slice_get vs k ≡ Some v → v.number ≡ n
    → AtomValue a ≡ at (atom_values atoms) k → AtomValue a ≡ chosen_by vs atoms n
look_there n k vs atoms v a asc place there same is =
    let test : nat_eq v.number n ≡ true = grind (arith, nat_tests, same) in
    is
    ∙ ap (λ (b : Bool). if b then at (atom_values atoms) k else AtomValue (BoolAtom false)) (sym (ap (has_number n) there ∙ test))
    ∙ ap (look n vs (atom_values atoms)) place ∙ sym (list_found n vs (atom_values atoms) asc)

pub look_other : (n k : ℕ) (vs : List TermVariable) (atoms : List Atom) (v : TermVariable) → ascend (numbers_of vs) ≡ true → k ≡ count_below n vs → slice_get vs k ≡ Some v → v.number ≢ n
    → AtomValue (BoolAtom false) ≡ chosen_by vs atoms n
look_other n k vs atoms v asc place there other =
    let test : nat_eq v.number n ≡ false = grind (arith, nat_tests, other) in
    ap (λ (b : Bool). if b then at (atom_values atoms) k else AtomValue (BoolAtom false)) (sym (ap (has_number n) there ∙ test))
    ∙ ap (look n vs (atom_values atoms)) place ∙ sym (list_found n vs (atom_values atoms) asc)

pub look_none : (n k : ℕ) (vs : List TermVariable) (atoms : List Atom) → ascend (numbers_of vs) ≡ true → k ≡ count_below n vs → slice_get vs k ≡ None → AtomValue (BoolAtom false) ≡ chosen_by vs atoms n
look_none n k vs atoms asc place there =
    ap (λ (b : Bool). if b then at (atom_values atoms) k else AtomValue (BoolAtom false)) (sym (ap (has_number n) there))
    ∙ ap (look n vs (atom_values atoms)) place ∙ sym (list_found n vs (atom_values atoms) asc)

pub atom_there : (atoms : List Atom) (k : ℕ) (o : Option Atom) → o ≡ slice_get atoms k → default (option_map (λ (a : Atom). AtomValue a) o) ≡ at (atom_values atoms) k
atom_there atoms k o h = ap (λ (x : Option Atom). default (option_map (λ (a : Atom). AtomValue a) x)) h ∙ ap default (sym (slice_get-map (λ (a : Atom). AtomValue a) atoms k))

-- ---- one node

record Known (known : List Atom) (k : ℕ) (s : Sort) : Type 0 where
  pub atom : Atom
  pub is : slice_get known k ≡ Some atom
  pub sort : s ≡ ScalarSort (scalar_of atom)

known_by : (known : List Atom) (k : ℕ) (o : Option Atom) (s : Sort) → slice_get known k ≡ o → option_map (λ (a : Atom). ScalarSort (scalar_of a)) o ≡ Some s → Known known k s
known_by known k None s is h = cc
known_by known k (Some a) s is h = record { atom = a; is = is; sort = cc }

known_at : (known : List Atom) (k : ℕ) (s : Sort) → slice_get (atom_sorts known) k ≡ Some s → Known known k s
known_at known k s h = known_by known k (slice_get known k) s refl (sym (slice_get-map (λ (a : Atom). ScalarSort (scalar_of a)) known k) ∙ h)

value_known : (known : List Atom) (k : ℕ) (a : Atom) → slice_get known k ≡ Some a → at (atom_values known) k ≡ AtomValue a
value_known known k a h = ap default (slice_get-map (λ (x : Atom). AtomValue x) known k ∙ ap (option_map (λ (x : Atom). AtomValue x)) h)

record SomeSort (o : Option Sort) : Type 0 where
  pub sort : Sort
  pub is : o ≡ Some sort

some_sort : (o : Option Sort) → IsSome o → SomeSort o
some_sort None h = cc
some_sort (Some s) h = record { sort = s; is = refl }

is_some_scalar : (o : Option Scalar) (s : Scalar) → o ≡ Some s → IsSome o
is_some_scalar None s h = cc
is_some_scalar (Some t) s h = refl

pub unary_ready : (known : List Atom) (op : UnOp) (k : ℕ) (a : Atom) → IsSome (sort_of_node (atom_sorts known) (Unary op k)) → AtomValue a ≡ at (atom_values known) k → IsSome (sort_of_unary op (scalar_of a))
unary_ready known op k a h is =
    let s = some_sort (sort_of_node (atom_sorts known) (Unary op k)) h in
    let u = unary_case op (slice_get (atom_sorts known) k) s.sort s.is in
    let x = known_at known k (ScalarSort u.operand) u.there in
    let value : AtomValue a ≡ AtomValue x.atom = is ∙ value_known known k x.atom x.is in
    let atom : a ≡ x.atom = cc in
    let sorts_same : ScalarSort u.operand ≡ ScalarSort (scalar_of x.atom) = x.sort in
    let sort : u.operand ≡ scalar_of x.atom = cc in
    is_some_scalar (sort_of_unary op (scalar_of a)) u.answer (ap (λ (y : Atom). sort_of_unary op (scalar_of y)) atom ∙ ap (sort_of_unary op) (sym sort) ∙ u.fits)

pub binary_ready : (known : List Atom) (op : BvOp) (k l : ℕ) (a b : Atom) → IsSome (sort_of_node (atom_sorts known) (Binary op k l)) → AtomValue a ≡ at (atom_values known) k → AtomValue b ≡ at (atom_values known) l
    → IsSome (sort_of_binary op (scalar_of a) (scalar_of b))
binary_ready known op k l a b h is_a is_b =
    let s = some_sort (sort_of_node (atom_sorts known) (Binary op k l)) h in
    let u = binary_case op (slice_get (atom_sorts known) k) (slice_get (atom_sorts known) l) s.sort s.is in
    let x = known_at known k (ScalarSort u.left) u.left_there in
    let y = known_at known l (ScalarSort u.right) u.right_there in
    let value_a : AtomValue a ≡ AtomValue x.atom = is_a ∙ value_known known k x.atom x.is in
    let value_b : AtomValue b ≡ AtomValue y.atom = is_b ∙ value_known known l y.atom y.is in
    let atom_a : a ≡ x.atom = cc in
    let atom_b : b ≡ y.atom = cc in
    let left_same : ScalarSort u.left ≡ ScalarSort (scalar_of x.atom) = x.sort in
    let right_same : ScalarSort u.right ≡ ScalarSort (scalar_of y.atom) = y.sort in
    let left : u.left ≡ scalar_of x.atom = cc in
    let right : u.right ≡ scalar_of y.atom = cc in
    is_some_scalar (sort_of_binary op (scalar_of a) (scalar_of b)) u.answer
    (ap (λ (z : Atom). sort_of_binary op (scalar_of z) (scalar_of b)) atom_a ∙ ap (λ (z : Atom). sort_of_binary op (scalar_of x.atom) (scalar_of z)) atom_b
    ∙ ap (λ (t : Scalar). sort_of_binary op t (scalar_of y.atom)) (sym left) ∙ ap (sort_of_binary op u.left) (sym right) ∙ u.fits)

-- the atom of a node has the node's sort
has_sort_atom : (a : Atom) (s : Sort) → has_sort (AtomValue a) s ≡ true → s ≡ ScalarSort (scalar_of a)
has_sort_atom a (ScalarSort s) h = ap (λ (t : Scalar). ScalarSort t) (sym (has_scalar_is a s h))
has_sort_atom a (MapSort i e) h = cc

picked : (b : Bool) (a x y : Atom) (s : Sort) → AtomValue a ≡ (if b then AtomValue x else AtomValue y) → s ≡ ScalarSort (scalar_of x) → s ≡ ScalarSort (scalar_of y) → s ≡ ScalarSort (scalar_of a)
picked true a x y s h p q = let e : a ≡ x = cc in p ∙ ap (λ (z : Atom). ScalarSort (scalar_of z)) (sym e)
picked false a x y s h p q = let e : a ≡ y = cc in q ∙ ap (λ (z : Atom). ScalarSort (scalar_of z)) (sym e)

pub node_sorted : (b : ℕ → Value) (known : List Atom) (a : Atom) (node : TermNode) (s : Sort) → is_plain node ≡ true → node_fits b node ≡ true → sort_of_node (atom_sorts known) node ≡ Some s
    → AtomValue a ≡ node_value b (atom_values known) node → s ≡ ScalarSort (scalar_of a)
node_sorted b known a (Lit v) s plain fit h is =
    let e : a ≡ v = cc in
    sym (if_is (has_scalar v (scalar_of v)) (ScalarSort (scalar_of v)) s h).0 ∙ ap (λ (z : Atom). ScalarSort (scalar_of z)) (sym e)
node_sorted b known a (ZeroMap i e) s plain fit h is = cc
node_sorted b known a (Variable n t) s plain fit h is =
    sym (if_is (is_sort t) t s h).0 ∙ has_sort_atom a t (ap (λ (v : Value). has_sort v t) is ∙ fit)
node_sorted b known a (Unary op k) s plain fit h is =
    let u = unary_case op (slice_get (atom_sorts known) k) s h in
    let x = known_at known k (ScalarSort u.operand) u.there in
    let sorts_same : ScalarSort u.operand ≡ ScalarSort (scalar_of x.atom) = x.sort in
    let sort : u.operand ≡ scalar_of x.atom = cc in
    let value : AtomValue a ≡ AtomValue (apply1 op x.atom) = is ∙ ap (unary_value op) (value_known known k x.atom x.is) in
    let atom : a ≡ apply1 op x.atom = cc in
    u.is ∙ ap (λ (t : Scalar). ScalarSort t) (sym (unary_sorted op x.atom u.answer (ap (sort_of_unary op) (sym sort) ∙ u.fits)) ∙ ap scalar_of (sym atom))
node_sorted b known a (Binary op k l) s plain fit h is =
    let u = binary_case op (slice_get (atom_sorts known) k) (slice_get (atom_sorts known) l) s h in
    let x = known_at known k (ScalarSort u.left) u.left_there in
    let y = known_at known l (ScalarSort u.right) u.right_there in
    let left_same : ScalarSort u.left ≡ ScalarSort (scalar_of x.atom) = x.sort in
    let right_same : ScalarSort u.right ≡ ScalarSort (scalar_of y.atom) = y.sort in
    let left : u.left ≡ scalar_of x.atom = cc in
    let right : u.right ≡ scalar_of y.atom = cc in
    let value : AtomValue a ≡ AtomValue (apply op x.atom y.atom) =
    is ∙ ap (λ (v : Value). binary_value op v (at (atom_values known) l)) (value_known known k x.atom x.is) ∙ ap (binary_value op (AtomValue x.atom)) (value_known known l y.atom y.is) in
    let atom : a ≡ apply op x.atom y.atom = cc in
    u.is
    ∙ ap (λ (t : Scalar). ScalarSort t)
    (sym (binary_sorted op x.atom y.atom u.answer (ap (λ (t : Scalar). sort_of_binary op t (scalar_of y.atom)) (sym left) ∙ ap (sort_of_binary op u.left) (sym right) ∙ u.fits)) ∙ ap scalar_of (sym atom))
node_sorted b known a (If t k l) s plain fit h is =
    let u = if_case (slice_get (atom_sorts known) t) (slice_get (atom_sorts known) k) (slice_get (atom_sorts known) l) s h in
    let x = known_at known k s u.one in
    let y = known_at known l s u.other in
    picked (is_on (at (atom_values known) t)) a x.atom y.atom s
    (is ∙ ap (λ (v : Value). pick (at (atom_values known) t) v (at (atom_values known) l)) (value_known known k x.atom x.is) ∙ ap (λ (v : Value). pick (at (atom_values known) t) (AtomValue x.atom) v) (value_known known l y.atom y.is))
    x.sort y.sort
node_sorted b known a (Select m i) s plain fit h is = cc
node_sorted b known a (Store m i v) s plain fit h is = cc

-- ---- all nodes

map_push : {A B : Type 0} (f : A → B) (xs : List A) (x : A) → map f (xs ++ x ∷ []) ≡ map f xs ++ f x ∷ []
map_push f [] x = refl
map_push f (y ∷ xs) x = ap (λ ys. f y ∷ ys) (map_push f xs x)

-- what the loop has of the nodes from a place on
pub record Evaluated (b : ℕ → Value) (nodes rest : List TermNode) (known : List Atom) : Type 0 where
  pub value : values_onto b (atom_values known) rest ≡ values b nodes
  pub sort : IsSome (sorts_onto (atom_sorts known) rest)
  pub plain : IsTrue (are_plain rest)
  pub fit : IsTrue (fits b rest)

first_some : (f : Sort → Option (List Sort)) (o : Option Sort) → IsSome (option_and_then f o) → IsSome o
first_some f None h = cc
first_some f (Some s) h = refl

pub next_sort : (b : ℕ → Value) (nodes rest : List TermNode) (node : TermNode) (known : List Atom) → Evaluated b nodes (node ∷ rest) known → IsSome (sort_of_node (atom_sorts known) node)
next_sort b nodes rest node known e = first_some (λ s. sorts_onto (atom_sorts known ++ s ∷ []) rest) (sort_of_node (atom_sorts known) node) e.sort

pub next_plain : (b : ℕ → Value) (nodes rest : List TermNode) (node : TermNode) (known : List Atom) → Evaluated b nodes (node ∷ rest) known → is_plain node ≡ true
next_plain b nodes rest node known e = and_left (is_plain node) (are_plain rest) e.plain

rest_by : (f : Sort → Option (List Sort)) (o : Option Sort) (s : Sort) → o ≡ Some s → IsSome (option_and_then f o) → IsSome (f s)
rest_by f None s h k = cc
rest_by f (Some t) s h k = let e : t ≡ s = cc in subst (λ (x : Sort). IsSome (f x)) e k

pub next_evaluated : (b : ℕ → Value) (nodes rest : List TermNode) (node : TermNode) (known : List Atom) (a : Atom) → Evaluated b nodes (node ∷ rest) known → AtomValue a ≡ node_value b (atom_values known) node
    → Evaluated b nodes rest (known ++ a ∷ [])
next_evaluated b nodes rest node known a e is =
    let s = some_sort (sort_of_node (atom_sorts known) node) (next_sort b nodes rest node known e) in
    let sort = node_sorted b known a node s.sort (next_plain b nodes rest node known e) (and_left (node_fits b node) (fits b rest) e.fit) s.is is in
    record {
      value = ap (λ (vs : List Value). values_onto b vs rest) (map_push (λ (x : Atom). AtomValue x) known a ∙ ap (λ (v : Value). atom_values known ++ v ∷ []) is) ∙ e.value;
      sort = subst (λ (ss : List Sort). IsSome (sorts_onto ss rest)) (sym (map_push (λ (x : Atom). ScalarSort (scalar_of x)) known a))
          (subst (λ (t : Sort). IsSome (sorts_onto (atom_sorts known ++ t ∷ []) rest)) sort
          (rest_by (λ (t : Sort). sorts_onto (atom_sorts known ++ t ∷ []) rest) (sort_of_node (atom_sorts known) node) s.sort s.is e.sort));
      plain = and_right (is_plain node) (are_plain rest) e.plain;
      fit = and_right (node_fits b node) (fits b rest) e.fit;
    }
