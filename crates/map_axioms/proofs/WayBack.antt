-- The values of the source's variables, as the code makes them.
use Rattle.std.proofs.Common.{◌≡◌, ℕ, zero, suc, ◌≤◌, Bool, true, false, List, [], ◌∷◌, ◌++◌, map, length, drop, arith, sym, ◌∙◌, ap, refl, subst, append_assoc, append-nil}
use Rattle.std.specs.Prelude.{Option, Some, if◌then◌else◌, slice_get, IsTrue, nat_eq, nat_lt}
use Rattle.hy_val.specs.Sorts.{has_scalar}
use Rattle.hy_val.specs.Table.{Table}
use Rattle.hy_val.specs.Maps.{stored}
use Rattle.hy_val.specs.Values.{at, atom_of, is_on}
use Rattle.hy_val.specs.declared.atom.Atom.{Atom}
use Rattle.hy_val.specs.declared.sort.Scalar.{Scalar}
use Rattle.hy_val.specs.declared.sort.ScalarKind.TheVariants.{Bool as BoolSort}
use Rattle.hy_val.specs.declared.sort.Sort.{Sort}
use Rattle.hy_val.specs.declared.sort.SortKind.TheVariants.{Scalar as ScalarSort, Map as MapSort}
use Rattle.hy_val.specs.declared.value.Value.{Value}
use Rattle.hy_val.specs.declared.value.Value.TheVariants.{Atom as AtomValue, Map as MapValue}
use Rattle.hy_term.specs.Formula.{Formula}
use Rattle.hy_term.specs.TermSorts.{sort_at, sort_of_number, agree_onto, is_bool, is_formula}
use Rattle.hy_term.specs.Meaning.{values, value, fits, holds}
use Rattle.hy_term.specs.Variables.{insert, with_variable, variables_onto, variables, numbers_of, numbers, of_list}
use Rattle.hy_term.specs.declared.node.TermNode.{TermNode}
use Rattle.hy_term.specs.declared.node.TermNode.TheVariants.{Lit, ZeroMap, Variable, Unary, Binary, If, Select, Store}
use Rattle.hy_term.specs.declared.node.TermVariable.{TermVariable}
use Rattle.hy_term.proofs.Growing.{node_values}
use Rattle.hy_term.proofs.Numbering.{list_bridge}
use Rattle.hy_term.proofs.Sorting.{and_left, and_right}
use Rattle.map_axioms.specs.declared.entry.Entry.{Entry}
use Rattle.map_axioms.specs.Reduction.{AgreeOnScalars}
use Rattle.map_axioms.specs.Steps.{Fillable, IsPlan, filled, lifted_by, lifted}
use Rattle.map_axioms.proofs.Homes.{same_number, number_at}
use Rattle.map_axioms.proofs.Nodes.{sound_at}
use Rattle.map_axioms.proofs.Pairs.{IsFilled, own_scalar, fill_by}
use Rattle.map_axioms.proofs.Theorem.{somewhere, bool_root, scalar_there, fillable, lifted_fits, lifted_holds, lifted_agrees}

-- ---- the variables of terms have the sorts of their numbers

abbrev pub AllNamed : (ℕ → Option Sort) → List TermVariable → Type 0
AllNamed sort vs = (j : ℕ) (v : TermVariable) → slice_get vs j ≡ Some v → sort v.number ≡ Some v.sort

named_tail : (sort : ℕ → Option Sort) (w : TermVariable) (ws : List TermVariable) → AllNamed sort (w ∷ ws) → AllNamed sort ws
named_tail sort w ws h j v is = h (suc j) v is

named_cons : (sort : ℕ → Option Sort) (w : TermVariable) (ws : List TermVariable) → sort w.number ≡ Some w.sort → AllNamed sort ws → AllNamed sort (w ∷ ws)
named_cons sort w ws k h zero v is = let same : w ≡ v = cc in subst (λ (x : TermVariable). sort x.number ≡ Some x.sort) same k
named_cons sort w ws k h (suc j) v is = h j v is

insert_by : (sort : ℕ → Option Sort) (v w : TermVariable) (ws : List TermVariable) (l e : Bool) → AllNamed sort (w ∷ ws) → sort v.number ≡ Some v.sort → AllNamed sort (insert v ws)
    → AllNamed sort (if l then w ∷ insert v ws else if e then w ∷ ws else v ∷ w ∷ ws)
insert_by sort v w ws true e h k ih = named_cons sort w (insert v ws) (h 0 w refl) ih
insert_by sort v w ws false true h k ih = h
insert_by sort v w ws false false h k ih = named_cons sort v (w ∷ ws) k h

named_insert : (sort : ℕ → Option Sort) (v : TermVariable) (ws : List TermVariable) → AllNamed sort ws → sort v.number ≡ Some v.sort → AllNamed sort (insert v ws)
named_insert sort v [] h k = named_cons sort v [] k h
named_insert sort v (w ∷ ws) h k = insert_by sort v w ws (nat_lt w.number v.number) (nat_eq w.number v.number) h k (named_insert sort v ws (named_tail sort w ws h) k)

named_with : (sort : ℕ → Option Sort) (vs : List TermVariable) (node : TermNode) → AllNamed sort vs → ((n : ℕ) (s : Sort) → node ≡ Variable n s → sort n ≡ Some s) → AllNamed sort (with_variable vs node)
named_with sort vs (Lit a) h k = h
named_with sort vs (ZeroMap i e) h k = h
named_with sort vs (Variable n s) h k = named_insert sort (record { number = n; sort = s }) vs h (k n s refl)
named_with sort vs (Unary op c) h k = h
named_with sort vs (Binary op l r) h k = h
named_with sort vs (If t x y) h k = h
named_with sort vs (Select m i) h k = h
named_with sort vs (Store m i v) h k = h

named_onto : (sort : ℕ → Option Sort) (vs : List TermVariable) (nodes : List TermNode) → AllNamed sort vs → ((k n : ℕ) (s : Sort) → slice_get nodes k ≡ Some (Variable n s) → sort n ≡ Some s) → AllNamed sort (variables_onto vs nodes)
named_onto sort vs [] h k = h
named_onto sort vs (node ∷ nodes) h k =
    named_onto sort (with_variable vs node) nodes (named_with sort vs node h (λ n s e. k 0 n s (ap Some e))) (λ j n s is. k (suc j) n s is)

pub variables_named : (f : Formula) → IsTrue (is_formula f) → AllNamed (λ n. sort_of_number n f.nodes) (variables f.nodes)
variables_named f h =
    named_onto (λ n. sort_of_number n f.nodes) [] f.nodes (λ j v is. cc)
    (λ k n s is. number_at f.nodes k n s (and_right (is_bool (sort_at f.nodes f.root)) (agree_onto [] f.nodes) h) is)

-- ---- the loop that fills a map

pub fill_index : (b : ℕ → Value) (vs : List Value) (n : ℕ) (index elem : Scalar) (es : List Entry) (m : Table) (j : ℕ) (e : Entry) (x : Atom) → Fillable b vs n index elem es → IsFilled m index elem → slice_get es j ≡ Some e → e.map ≡ n
    → AtomValue x ≡ at vs e.index → IsTrue (has_scalar x m.index)
fill_index b vs n index elem es m j e x h f is map value =
    ap (has_scalar x) f.index_is ∙ ap (λ (v : Value). has_scalar (atom_of v) index) value ∙ own_scalar (at vs e.index) index (h j e is map).0

pub fill_elem : (b : ℕ → Value) (vs : List Value) (n : ℕ) (index elem : Scalar) (es : List Entry) (m : Table) (j : ℕ) (e : Entry) (y : Atom) → Fillable b vs n index elem es → IsFilled m index elem → slice_get es j ≡ Some e → e.map ≡ n
    → AtomValue y ≡ b e.number → IsTrue (has_scalar y m.elem)
fill_elem b vs n index elem es m j e y h f is map value =
    ap (has_scalar y) f.elem_is ∙ ap (λ (v : Value). has_scalar (atom_of v) elem) value ∙ own_scalar (b e.number) elem (h j e is map).1

fill_true : (t : Bool) (m m' : Table) → t ≡ true → (if t then m else m') ≡ m
fill_true true m m' h = refl
fill_true false m m' h = cc

pub fill_then : (b : ℕ → Value) (vs : List Value) (n : ℕ) (m m' : Table) (es rest : List Entry) (e : Entry) (x y : Atom) → es ≡ e ∷ rest → e.map ≡ n → AtomValue x ≡ at vs e.index → AtomValue y ≡ b e.number → m' ≡ stored m x y
    → filled b vs n m' rest ≡ filled b vs n m es
fill_then b vs n m m' es rest e x y is map value entry made =
    ap (λ (t : Table). filled b vs n t rest)
    (made ∙ ap (λ (v : Value). stored m (atom_of v) y) value ∙ ap (λ (v : Value). stored m (atom_of (at vs e.index)) (atom_of v)) entry
    ∙ sym (fill_true (nat_eq e.map n) (stored m (atom_of (at vs e.index)) (atom_of (b e.number))) m (ap (nat_eq e.map) (sym map) ∙ same_number e.map)))
    ∙ ap (filled b vs n m) (sym is)

pub fill_fits : (b : ℕ → Value) (vs : List Value) (n : ℕ) (index elem : Scalar) (es : List Entry) (m m' : Table) (j : ℕ) (e : Entry) (x y : Atom) → Fillable b vs n index elem es → IsFilled m index elem → slice_get es j ≡ Some e
    → e.map ≡ n → AtomValue x ≡ at vs e.index → AtomValue y ≡ b e.number → m' ≡ stored m x y → IsFilled m' index elem
fill_fits b vs n index elem es m m' j e x y h f is map value entry made =
    let same : m' ≡ stored m (atom_of (at vs e.index)) (atom_of (b e.number)) =
    made ∙ ap (λ (v : Value). stored m (atom_of v) y) value ∙ ap (λ (v : Value). stored m (atom_of (at vs e.index)) (atom_of v)) entry in
    subst (λ (t : Table). IsFilled t index elem) (sym same) (fill_by b vs n index elem m e true (ap (nat_eq e.map) (sym map) ∙ same_number e.map) f (λ k. h j e is k))

-- ---- the assignment by its list

pub plan_fillable : (source reduced : Formula) (es : List Entry) (p : IsPlan source reduced es) (b : ℕ → Value) → IsTrue (fits b reduced.nodes) → (n : ℕ) (index elem : Scalar) → sort_of_number n source.nodes ≡ Some (MapSort index elem)
    → Fillable b (values b reduced.nodes) n index elem es
plan_fillable source reduced es p b fit n index elem is = fillable p.base source reduced p.reds es p.is b fit n index elem is

pub lifted_of_scalar : (source reduced : List TermNode) (es : List Entry) (b : ℕ → Value) (n : ℕ) (s : Scalar) → sort_of_number n source ≡ Some (ScalarSort s) → b n ≡ lifted source reduced es b n
lifted_of_scalar source reduced es b n s is = ap (λ (o : Option Sort). lifted_by o b (values b reduced) es n) (sym is)

pub lifted_of_map : (source reduced : List TermNode) (es : List Entry) (b : ℕ → Value) (n : ℕ) (index elem : Scalar) → sort_of_number n source ≡ Some (MapSort index elem)
    → MapValue (filled b (values b reduced) n (record { index = index; elem = elem; pairs = [] }) es) ≡ lifted source reduced es b n
lifted_of_map source reduced es b n index elem is = ap (λ (o : Option Sort). lifted_by o b (values b reduced) es n) (sym is)

module _ (source reduced : Formula) (es : List Entry) (p : IsPlan source reduced es) (formula : IsTrue (is_formula source)) (b : ℕ → Value) (fit : IsTrue (fits b reduced.nodes)) (hold : holds b reduced ≡ true) (vs : List Value)
    (is : vs ≡ map (lifted source.nodes reduced.nodes es b) (numbers source.nodes)) where
  listed : of_list (numbers source.nodes) vs ≡ of_list (numbers source.nodes) (map (lifted source.nodes reduced.nodes es b) (numbers source.nodes))
  listed = ap (of_list (numbers source.nodes)) is

  same_values : values (of_list (numbers source.nodes) vs) source.nodes ≡ values (lifted source.nodes reduced.nodes es b) source.nodes
  same_values = ap (λ (f : ℕ → Value). values f source.nodes) listed ∙ (list_bridge (lifted source.nodes reduced.nodes es b) source.nodes).0

  pub list_fits : IsTrue (fits (of_list (numbers source.nodes) vs) source.nodes)
  list_fits =
      ap (λ (f : ℕ → Value). fits f source.nodes) listed ∙ (list_bridge (lifted source.nodes reduced.nodes es b) source.nodes).1 ∙ lifted_fits p.base source reduced p.reds es p.is b fit hold

  pub list_holds : holds (of_list (numbers source.nodes) vs) source ≡ true
  list_holds = ap (λ (us : List Value). is_on (at us source.root)) same_values ∙ lifted_holds p.base source reduced p.reds es p.is b fit hold

  pub list_agrees : AgreeOnScalars source.nodes (of_list (numbers source.nodes) vs) b
  list_agrees n h =
      let s = scalar_there (sort_of_number n source.nodes) h in
      let w = somewhere source.nodes n (ScalarSort s.0) s.1 in
      let sound = sound_at source.nodes source.root (ScalarSort BoolSort) (bool_root (sort_at source.nodes source.root) (and_left (is_bool (sort_at source.nodes source.root)) (agree_onto [] source.nodes) formula)) in
      sym (node_values (of_list (numbers source.nodes) vs) source.nodes w.place (Variable n (ScalarSort s.0)) sound w.is)
      ∙ ap (λ (us : List Value). at us w.place) same_values
      ∙ node_values (lifted source.nodes reduced.nodes es b) source.nodes w.place (Variable n (ScalarSort s.0)) sound w.is
      ∙ lifted_agrees p.base source reduced p.reds es p.is b fit hold n h

-- ---- the loop over the variables

pub mapped_next : (f : ℕ → Value) (vs rest : List TermVariable) (v : TermVariable) (done more : List Value) (x : Value) (whole : List Value) → vs ≡ v ∷ rest → x ≡ f v.number → more ≡ done ++ x ∷ [] → done ++ map f (numbers_of vs) ≡ whole
    → more ++ map f (numbers_of rest) ≡ whole
mapped_next f vs rest v done more x whole is value pushed h =
    ap (λ (us : List Value). us ++ map f (numbers_of rest)) (pushed ∙ ap (λ (y : Value). done ++ y ∷ []) value)
    ∙ append_assoc done (f v.number ∷ []) (map f (numbers_of rest))
    ∙ ap (λ (us : List TermVariable). done ++ map f (numbers_of us)) (sym is) ∙ h

drop_end : {A : Type 0} (xs : List A) (n : ℕ) → length xs ≤ n → drop n xs ≡ []
drop_end [] zero h = refl
drop_end [] (suc n) h = refl
drop_end (x ∷ xs) zero h = absurd (omega (arith, h))
drop_end (x ∷ xs) (suc n) h = drop_end xs n (omega (arith, h))

pub mapped_last : (f : ℕ → Value) (vs : List TermVariable) (k : ℕ) (done whole : List Value) → length vs ≤ k → done ++ map f (numbers_of (drop k vs)) ≡ whole → done ≡ whole
mapped_last f vs k done whole l h = sym (append-nil done) ∙ ap (λ (us : List TermVariable). done ++ map f (numbers_of us)) (sym (drop_end vs k l)) ∙ h
