-- The reduced terms can hold exactly where the source can.
use Rattle.std.proofs.Common.{◌≡◌, ℕ, suc, ◌+◌, ◌-◌, ◌/◌, ◌%◌, ◌<◌, Bool, true, false, ◌&&◌, List, [], ◌∷◌, length, arith, sym, ◌∙◌, ap, refl, subst}
use Rattle.std.specs.Prelude.{Option, None, Some, if◌then◌else◌, slice_get, slice_index, IsTrue, IsSome, nat_eq, nat_lt}
use Rattle.std.proofs.lemmas.Option.{slice_get_within}
use Rattle.std.proofs.lemmas.Bool.Decides.{nat_tests}
use Rattle.std.proofs.Math.Nat.{mul-add-div, div-eq_of_lt}
use Rattle.hy_val.specs.Sorts.{is_scalar, same_scalar}
use Rattle.hy_val.specs.Table.{Table}
use Rattle.hy_val.specs.Maps.{is_map, select}
use Rattle.hy_val.specs.NodeSorts.{is_sort}
use Rattle.hy_val.specs.Values.{at, has_sort, is_on, select_value}
use Rattle.hy_val.specs.declared.atom.Atom.{Atom}
use Rattle.hy_val.specs.declared.sort.Scalar.{Scalar}
use Rattle.hy_val.specs.declared.sort.ScalarKind.TheVariants.{Bool as BoolSort, Bv as BvSort}
use Rattle.hy_val.specs.declared.sort.Sort.{Sort}
use Rattle.hy_val.specs.declared.sort.SortKind.TheVariants.{Scalar as ScalarSort, Map as MapSort}
use Rattle.hy_val.specs.declared.value.Value.{Value}
use Rattle.hy_val.specs.declared.value.Value.TheVariants.{Atom as AtomValue, Map as MapValue}
use Rattle.hy_val.proofs.Lawful.{keep_sorts}
use Rattle.hy_val.proofs.ResultSorts.{same_scalar_self}
use Rattle.hy_term.specs.Formula.{Formula}
use Rattle.hy_term.specs.TermSorts.{sorts, sort_at, or_else, sort_of_number, agree_onto, is_bool}
use Rattle.hy_term.specs.Meaning.{values, value, fits, holds}
use Rattle.hy_term.specs.Variables.{below}
use Rattle.hy_term.specs.declared.node.TermNode.{TermNode}
use Rattle.hy_term.specs.declared.node.TermNode.TheVariants.{Lit, ZeroMap, Variable, Unary, Binary, If, Select, Store}
use Rattle.hy_term.proofs.Sorting.{and_left, and_right, and_both, sort_there, sort_got}
use Rattle.map_axioms.specs.declared.entry.Entry.{Entry}
use Rattle.map_axioms.specs.Reduction.{is_scalar_there, AgreeOnScalars, KeepsHolding, KeepsScalars}
use Rattle.map_axioms.specs.Steps.{entry_number, elem_of, home, AllHome, Linked, EntryKept, congruent, IsReduction, Fillable, filled, lifted_by, lifted, lowered}
use Rattle.map_axioms.proofs.Cases.{case_at, sort_within}
use Rattle.map_axioms.proofs.Homes.{number_is, below_at, fits_number, fits_numbers, entry_map, entry_above}
use Rattle.map_axioms.proofs.Storing.{atom_is}
use Rattle.map_axioms.proofs.Nodes.{has_its_sort, if_is, sound_at}
use Rattle.map_axioms.proofs.Pairs.{AllMatched, AllAlike, congruent_if, congruent_says, IsFilled, filled_is, Agreed, filled_has}

-- ---- variables of valid terms

pub record Somewhere (nodes : List TermNode) (n : ℕ) (s : Sort) : Type 0 where
  pub place : ℕ
  pub is : slice_get nodes place ≡ Some (Variable n s)

somewhere_by : (n m : ℕ) (t s : Sort) (nodes : List TermNode) (b : Bool) → nat_eq m n ≡ b → (sort_of_number n nodes ≡ Some s → Somewhere nodes n s) → or_else (if b then Some t else None) (sort_of_number n nodes) ≡ Some s
    → Somewhere (Variable m t ∷ nodes) n s
somewhere_by n m t s nodes true e ih h =
    let number = number_is m n e in
    let sort : t ≡ s = cc in
    record { place = 0; is = ap (λ (k : ℕ). Some (Variable k t)) number ∙ ap (λ (r : Sort). Some (Variable n r)) sort }
somewhere_by n m t s nodes false e ih h = let r = ih h in record { place = suc r.place; is = r.is }

later_on : (nodes : List TermNode) (x : TermNode) (n : ℕ) (s : Sort) → Somewhere nodes n s → Somewhere (x ∷ nodes) n s
later_on nodes x n s r = record { place = suc r.place; is = r.is }

pub somewhere : (nodes : List TermNode) (n : ℕ) (s : Sort) → sort_of_number n nodes ≡ Some s → Somewhere nodes n s
somewhere [] n s h = cc
somewhere (Lit v ∷ nodes) n s h = later_on nodes (Lit v) n s (somewhere nodes n s h)
somewhere (ZeroMap i e ∷ nodes) n s h = later_on nodes (ZeroMap i e) n s (somewhere nodes n s h)
somewhere (Variable m t ∷ nodes) n s h = somewhere_by n m t s nodes (nat_eq m n) refl (somewhere nodes n s) h
somewhere (Unary op c ∷ nodes) n s h = later_on nodes (Unary op c) n s (somewhere nodes n s h)
somewhere (Binary op l r ∷ nodes) n s h = later_on nodes (Binary op l r) n s (somewhere nodes n s h)
somewhere (If t x y ∷ nodes) n s h = later_on nodes (If t x y) n s (somewhere nodes n s h)
somewhere (Select m i ∷ nodes) n s h = later_on nodes (Select m i) n s (somewhere nodes n s h)
somewhere (Store m i v ∷ nodes) n s h = later_on nodes (Store m i v) n s (somewhere nodes n s h)

number_below : (base : ℕ) (nodes : List TermNode) (n : ℕ) (s : Sort) → IsTrue (below base nodes) → sort_of_number n nodes ≡ Some s → n < base
number_below base nodes n s h is = let r = somewhere nodes n s is in below_at base nodes r.place n s h r.is

record Got (A : Type 0) (o : Option A) : Type 0 where
  pub value : A
  pub is : o ≡ Some value

got : (A : Type 0) (o : Option A) → IsSome o → Got A o
got A None h = cc
got A (Some x) h = record { value = x; is = refl }

number_sort : (nodes : List TermNode) (n : ℕ) (s : Sort) → IsSome (sorts nodes) → sort_of_number n nodes ≡ Some s → IsTrue (is_sort s)
number_sort nodes n s h is =
    let r = somewhere nodes n s is in
    let ss = got (List Sort) (sorts nodes) h in
    let t = sort_there nodes ss.value r.place ss.is (slice_get_within nodes r.place (Variable n s) r.is) in
    let c = case_at nodes r.place (Variable n s) t.0 (sort_got nodes ss.value r.place t.0 ss.is t.1) r.is in
    (if_is (is_sort s) s t.0 c.is).1

pub bool_root : (o : Option Sort) → is_bool o ≡ true → o ≡ Some (ScalarSort BoolSort)
bool_root None h = cc
bool_root (Some (ScalarSort BoolSort)) h = refl
bool_root (Some (ScalarSort (BvSort w))) h = cc
bool_root (Some (MapSort i e)) h = cc

-- ---- from the source to the reduced terms

fits_home : (base : ℕ) (nodes out : List TermNode) (b : ℕ → Value) → AllHome base nodes out → ((n : ℕ) (s : Scalar) → home base nodes n ≡ Some (ScalarSort s) → IsTrue (has_sort (b n) (ScalarSort s))) → IsTrue (fits b out)
fits_home base nodes [] b h k = refl
fits_home base nodes (Lit v ∷ out) b h k = fits_home base nodes out b h.1 k
fits_home base nodes (ZeroMap i e ∷ out) b h k = absurd h.0
fits_home base nodes (Variable n (ScalarSort s) ∷ out) b h k = and_both (has_sort (b n) (ScalarSort s)) (fits b out) (k n s h.0) (fits_home base nodes out b h.1 k)
fits_home base nodes (Variable n (MapSort i e) ∷ out) b h k = absurd h.0
fits_home base nodes (Unary op c ∷ out) b h k = fits_home base nodes out b h.1 k
fits_home base nodes (Binary op l r ∷ out) b h k = fits_home base nodes out b h.1 k
fits_home base nodes (If t x y ∷ out) b h k = fits_home base nodes out b h.1 k
fits_home base nodes (Select m i ∷ out) b h k = absurd h.0
fits_home base nodes (Store m i v ∷ out) b h k = absurd h.0

entry_fits : (a : ℕ → Value) (n : ℕ) (i : Value) (o : Option Sort) (s : Scalar) → ((t : Sort) → o ≡ Some t → IsTrue (has_sort (a n) t) × IsTrue (is_sort t)) → elem_of o ≡ Some (ScalarSort s)
    → IsTrue (has_sort (select_value (a n) i) (ScalarSort s))
entry_fits a n i None s h k = cc
entry_fits a n i (Some (ScalarSort t)) s h k = cc
entry_fits a n i (Some (MapSort x e)) s h k =
    let r = h (MapSort x e) refl in
    let same : e ≡ s = cc in
    subst (λ (t : Scalar). IsTrue (has_sort (select_value (a n) i) (ScalarSort t))) same (keep_sorts.entry (a n) i x e (and_right (is_scalar x) (is_scalar e) r.1) r.0)

lowered_by : (base : ℕ) (nodes : List TermNode) (a : ℕ → Value) (n : ℕ) (s : Scalar) (b : Bool) (i : Value) → IsTrue (fits a nodes) → IsSome (sorts nodes)
    → (if b then sort_of_number n nodes else elem_of (sort_of_number (n % base) nodes)) ≡ Some (ScalarSort s) → IsTrue (has_sort (if b then a n else select_value (a (n % base)) i) (ScalarSort s))
lowered_by base nodes a n s true i fit sound h = fits_number a nodes n (ScalarSort s) fit h
lowered_by base nodes a n s false i fit sound h =
    entry_fits a (n % base) i (sort_of_number (n % base) nodes) s (λ t e. (fits_number a nodes (n % base) t fit e, number_sort nodes (n % base) t sound e)) h

if_on : (b : Bool) (v w : Value) → b ≡ true → (if b then v else w) ≡ v
if_on true v w h = refl
if_on false v w h = cc

if_off : (b : Bool) (v w : Value) → b ≡ false → (if b then v else w) ≡ w
if_off true v w h = cc
if_off false v w h = refl

pub scalar_there : (o : Option Sort) → is_scalar_there o ≡ true → (s : Scalar) × (o ≡ Some (ScalarSort s))
scalar_there None h = cc
scalar_there (Some (ScalarSort s)) h = (s, refl)
scalar_there (Some (MapSort i e)) h = cc

module _ (base : ℕ) (source reduced : Formula) (reds : List ℕ) (es : List Entry) (r : IsReduction base source reduced reds es) where
  pub root_sort : sort_at source.nodes source.root ≡ Some (ScalarSort BoolSort)
  root_sort = bool_root (sort_at source.nodes source.root) (and_left (is_bool (sort_at source.nodes source.root)) (agree_onto [] source.nodes) r.formula)

  agrees : IsTrue (agree_onto [] source.nodes)
  agrees = and_right (is_bool (sort_at source.nodes source.root)) (agree_onto [] source.nodes) r.formula

  sound : IsSome (sorts source.nodes)
  sound = sound_at source.nodes source.root (ScalarSort BoolSort) root_sort

  root_before : source.root < length reds
  root_before = let l = sort_within source.nodes source.root (ScalarSort BoolSort) root_sort in let c = r.count in omega (arith, l, c)

  -- under linked assignments both roots have one value
  same_root : (a b : ℕ → Value) → IsTrue (fits a source.nodes) → Linked source.nodes reduced.nodes es a b → value b reduced.nodes (slice_index reds source.root) ≡ value a source.nodes source.root
  same_root a b fit link = ((r.each source.root root_before).stands BoolSort root_sort).means a b fit link

  -- entries have the sorts of their map
  entry_sorts : (b : ℕ → Value) → IsTrue (fits b reduced.nodes) → (p : Entry) (k : EntryKept base source.nodes reduced.nodes es p)
      → IsTrue (has_sort (value b reduced.nodes p.index) (ScalarSort k.index)) × IsTrue (has_sort (value b reduced.nodes p.entry) (ScalarSort k.elem))
  entry_sorts b fit p k = (has_its_sort b reduced.nodes p.index (ScalarSort k.index) fit k.stands.sort, has_its_sort b reduced.nodes p.entry (ScalarSort k.elem) fit k.sort)

  all_matched : (b : ℕ → Value) → IsTrue (fits b reduced.nodes) → AllMatched (values b reduced.nodes) es
  all_matched b fit i j p q is_p is_q same =
      let k = r.state.entry i p is_p in
      let l = r.state.entry j q is_q in
      let x = entry_sorts b fit p k in
      let y = entry_sorts b fit q l in
      let one : Some (MapSort l.index l.elem) ≡ Some (MapSort k.index k.elem) = sym l.map ∙ ap (λ (n : ℕ). sort_of_number n source.nodes) (sym same) ∙ k.map in
      let index : l.index ≡ k.index = cc in
      let elem : l.elem ≡ k.elem = cc in (
        k.index,
        k.elem,
        x.0,
        subst (λ (s : Scalar). IsTrue (has_sort (value b reduced.nodes q.index) (ScalarSort s))) index y.0,
        x.1,
        subst (λ (s : Scalar). IsTrue (has_sort (value b reduced.nodes q.entry) (ScalarSort s))) elem y.1,
      )

  module _ (a : ℕ → Value) (fit : IsTrue (fits a source.nodes)) where
    pub lowered_fits : IsTrue (fits (lowered base source.nodes a) reduced.nodes)
    lowered_fits = fits_home base source.nodes reduced.nodes (lowered base source.nodes a) r.state.at_home
        (λ n s h. lowered_by base source.nodes a n s (nat_lt n base) (value a source.nodes (n / base - 1)) fit sound h)

    pub lowered_agrees : AgreeOnScalars source.nodes a (lowered base source.nodes a)
    lowered_agrees n h =
        let s = scalar_there (sort_of_number n source.nodes) h in
        let l = number_below base source.nodes n (ScalarSort s.0) r.under s.1 in
        sym (if_on (nat_lt n base) (a n) (select_value (a (n % base)) (value a source.nodes (n / base - 1))) (grind (arith, nat_tests, l)))

    lowered_entry : (p : Entry) → EntryKept base source.nodes reduced.nodes es p → lowered base source.nodes a p.number ≡ select_value (a p.map) (value a source.nodes p.place)
    lowered_entry p k =
        let under : p.map < base = number_below base source.nodes p.map (MapSort k.index k.elem) r.under k.map in
        let above = entry_above base p.place p.map under in
        let map : entry_number base p.place p.map % base ≡ p.map = entry_map base p.place p.map under in
        let some : 0 < base = omega (arith, under) in
        let small : p.map / base ≡ 0 = div-eq_of_lt under in
        let row : entry_number base p.place p.map / base ≡ p.place + 1 + p.map / base = mul-add-div some (p.place + 1) p.map in
        let place : entry_number base p.place p.map / base - 1 ≡ p.place = omega (arith, row, small) in
        ap (lowered base source.nodes a) k.number
        ∙ if_off (nat_lt (entry_number base p.place p.map) base) (a (entry_number base p.place p.map))
        (select_value (a (entry_number base p.place p.map % base)) (value a source.nodes (entry_number base p.place p.map / base - 1))) (grind (arith, nat_tests, above))
        ∙ ap (λ (n : ℕ). select_value (a n) (value a source.nodes (entry_number base p.place p.map / base - 1))) map
        ∙ ap (λ (n : ℕ). select_value (a p.map) (value a source.nodes n)) place

    pub lowered_linked : Linked source.nodes reduced.nodes es a (lowered base source.nodes a)
    lowered_linked = record {
      scalars = lowered_agrees;
      maps = λ j e is same. lowered_entry e (r.state.entry j e is);
    }

    lowered_alike : AllAlike (values (lowered base source.nodes a) reduced.nodes) es
    lowered_alike i j p q is_p is_q map index =
        let k = r.state.entry i p is_p in
        let l = r.state.entry j q is_q in
        let low = lowered base source.nodes a in
        let place : value a source.nodes p.place ≡ value a source.nodes q.place = sym (k.stands.means a low fit lowered_linked) ∙ index ∙ l.stands.means a low fit lowered_linked in
        k.is low ∙ lowered_entry p k ∙ ap (λ (n : ℕ). select_value (a n) (value a source.nodes p.place)) map ∙ ap (select_value (a q.map)) place ∙ sym (lowered_entry q l) ∙ sym (l.is low)

    pub lowered_holds : holds a source ≡ true → holds (lowered base source.nodes a) reduced ≡ true
    lowered_holds h =
        r.root (lowered base source.nodes a)
        ∙ and_both (is_on (value (lowered base source.nodes a) reduced.nodes (slice_index reds source.root))) (congruent (values (lowered base source.nodes a) reduced.nodes) es)
        (ap is_on (same_root a (lowered base source.nodes a) fit lowered_linked) ∙ h)
        (congruent_if (values (lowered base source.nodes a) reduced.nodes) es (all_matched (lowered base source.nodes a) lowered_fits) lowered_alike)

  pub keeps_scalars : KeepsScalars source.nodes reduced.nodes
  keeps_scalars n s is =
      let w = somewhere source.nodes n (ScalarSort s) is in
      let l = slice_get_within source.nodes w.place (Variable n (ScalarSort s)) w.is in
      let c = r.count in
      (r.each w.place (omega (arith, l, c))).variable n s w.is

  pub fillable : (b : ℕ → Value) → IsTrue (fits b reduced.nodes) → (n : ℕ) (index elem : Scalar) → sort_of_number n source.nodes ≡ Some (MapSort index elem) → Fillable b (values b reduced.nodes) n index elem es
  fillable b fit n index elem is j e there map =
      let k = r.state.entry j e there in
      let x = entry_sorts b fit e k in
      let one : Some (MapSort k.index k.elem) ≡ Some (MapSort index elem) = sym k.map ∙ ap (λ (m : ℕ). sort_of_number m source.nodes) map ∙ is in
      let same_index : k.index ≡ index = cc in
      let same_elem : k.elem ≡ elem = cc in (
        subst (λ (s : Scalar). IsTrue (has_sort (value b reduced.nodes e.index) (ScalarSort s))) same_index x.0,
        subst (λ (v : Value). IsTrue (has_sort v (ScalarSort elem))) (k.is b) (subst (λ (s : Scalar). IsTrue (has_sort (value b reduced.nodes e.entry) (ScalarSort s))) same_elem x.1),
      )

  module _ (b : ℕ → Value) (fit : IsTrue (fits b reduced.nodes)) (h : holds b reduced ≡ true) where
    both : IsTrue (is_on (value b reduced.nodes (slice_index reds source.root)) && congruent (values b reduced.nodes) es)
    both = sym (r.root b) ∙ h

    alike : AllAlike (values b reduced.nodes) es
    alike = congruent_says (values b reduced.nodes) es (all_matched b fit) (and_right (is_on (value b reduced.nodes (slice_index reds source.root))) (congruent (values b reduced.nodes) es) both)

    lifted_scalar : (o : Option Sort) (n : ℕ) → is_scalar_there o ≡ true → lifted_by o b (values b reduced.nodes) es n ≡ b n
    lifted_scalar None n e = refl
    lifted_scalar (Some (ScalarSort s)) n e = refl
    lifted_scalar (Some (MapSort i e)) n k = cc

    pub lifted_agrees : AgreeOnScalars source.nodes (lifted source.nodes reduced.nodes es b) b
    lifted_agrees n e = lifted_scalar (sort_of_number n source.nodes) n e

    filled_map : (n : ℕ) (index elem : Scalar) → sort_of_number n source.nodes ≡ Some (MapSort index elem)
        → IsFilled (filled b (values b reduced.nodes) n (record { index = index; elem = elem; pairs = [] }) es) index elem
    filled_map n index elem is =
        filled_is b (values b reduced.nodes) n index elem (record { index = index; elem = elem; pairs = [] }) es (record { fits = refl; index_is = refl; elem_is = refl }) (fillable b fit n index elem is)

    lifted_sort : (o : Option Sort) (n : ℕ) (s : Sort) → sort_of_number n source.nodes ≡ o → o ≡ Some s → has_sort (lifted_by o b (values b reduced.nodes) es n) s ≡ true
    lifted_sort None n s is e = cc
    lifted_sort (Some (ScalarSort t)) n s is e =
        let same : ScalarSort t ≡ s = cc in
        subst (λ (x : Sort). has_sort (b n) x ≡ true) same (fits_number b reduced.nodes n (ScalarSort t) fit (keeps_scalars n t is))
    lifted_sort (Some (MapSort i t)) n s is e =
        let same : MapSort i t ≡ s = cc in
        let f = filled_map n i t is in
        let m = filled b (values b reduced.nodes) n (record { index = i; elem = t; pairs = [] }) es in
        subst (λ (x : Sort). has_sort (MapValue (filled b (values b reduced.nodes) n (record { index = i; elem = t; pairs = [] }) es)) x ≡ true) same
        (and_both (same_scalar m.index i && same_scalar m.elem t) (is_map m)
        (and_both (same_scalar m.index i) (same_scalar m.elem t) (ap (λ (x : Scalar). same_scalar x i) f.index_is ∙ same_scalar_self i) (ap (λ (x : Scalar). same_scalar x t) f.elem_is ∙ same_scalar_self t)) f.fits)

    pub lifted_fits : IsTrue (fits (lifted source.nodes reduced.nodes es b) source.nodes)
    lifted_fits = fits_numbers (lifted source.nodes reduced.nodes es b) source.nodes agrees (λ n s is. lifted_sort (sort_of_number n source.nodes) n s refl is)

    agreed : (n : ℕ) (x y : Atom) (j : ℕ) (e : Entry) → slice_get es j ≡ Some e → e.map ≡ n → at (values b reduced.nodes) e.index ≡ AtomValue x → b e.number ≡ AtomValue y → Agreed b (values b reduced.nodes) n x y es
    agreed n x y j e is map i v k f is_f map_f i_f =
        let p = r.state.entry j e is in
        let q = r.state.entry k f is_f in
        sym (q.is b) ∙ alike k j f e is_f is (map_f ∙ sym map) (i_f ∙ sym i) ∙ p.is b ∙ v

    lifted_entry : (j : ℕ) (e : Entry) (place : Value) → slice_get es j ≡ Some e → value b reduced.nodes e.index ≡ place → b e.number ≡ select_value (lifted source.nodes reduced.nodes es b e.map) place
    lifted_entry j e place is same =
        let k = r.state.entry j e is in
        let s = entry_sorts b fit e k in
        let x = atom_is (value b reduced.nodes e.index) k.index s.0 in
        let y = atom_is (b e.number) k.elem (subst (λ (v : Value). IsTrue (has_sort v (ScalarSort k.elem))) (k.is b) s.1) in
        let m : Table = filled b (values b reduced.nodes) e.map (record { index = k.index; elem = k.elem; pairs = [] }) es in
        let has : select m x.atom ≡ y.atom =
        filled_has b (values b reduced.nodes) e.map k.index k.elem x.atom y.atom (record { index = k.index; elem = k.elem; pairs = [] }) es j e (record { fits = refl; index_is = refl; elem_is = refl }) x.fits
        (fillable b fit e.map k.index k.elem k.map) (agreed e.map x.atom y.atom j e is refl x.is y.is) is refl x.is y.is in
        y.is ∙ ap AtomValue (sym has)
        ∙ ap (λ (v : Value). select_value (MapValue m) v) (sym x.is ∙ same)
        ∙ ap (λ (o : Option Sort). select_value (lifted_by o b (values b reduced.nodes) es e.map) place) (sym k.map)

    pub lifted_linked : Linked source.nodes reduced.nodes es (lifted source.nodes reduced.nodes es b) b
    lifted_linked = record {
      scalars = lifted_agrees;
      maps = λ j e is same. lifted_entry j e (value (lifted source.nodes reduced.nodes es b) source.nodes e.place) is same;
    }

    pub lifted_holds : holds (lifted source.nodes reduced.nodes es b) source ≡ true
    lifted_holds =
        ap is_on (sym (same_root (lifted source.nodes reduced.nodes es b) b lifted_fits lifted_linked))
        ∙ and_left (is_on (value b reduced.nodes (slice_index reds source.root))) (congruent (values b reduced.nodes) es) both

  -- both directions
  pub keeps_holding : KeepsHolding source reduced
  keeps_holding chosen = (
    λ h. (lifted source.nodes reduced.nodes es h.0, lifted_fits h.0 h.1 h.2, lifted_holds h.0 h.1 h.2, λ n e. lifted_agrees h.0 h.1 h.2 n e ∙ h.3 n e),
    λ h. (lowered base source.nodes h.0, lowered_fits h.0 h.1, lowered_holds h.0 h.1 h.2, λ n e. sym (lowered_agrees h.0 h.1 n e) ∙ h.3 n e),
  )
