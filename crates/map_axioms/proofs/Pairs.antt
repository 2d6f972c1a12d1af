-- What congruence of entries says of their values.
use Rattle.std.proofs.Common.{◌≡◌, ℕ, zero, suc, Bool, true, false, not, ◌||◌, List, [], ◌∷◌, arith, sym, ◌∙◌, ap, refl, subst}
use Rattle.std.specs.Prelude.{Some, if◌then◌else◌, slice_get, IsTrue, nat_eq}
use Rattle.std.proofs.lemmas.Bool.Decides.{nat_tests}
use Rattle.hy_val.specs.Sorts.{rank, has_scalar}
use Rattle.hy_val.specs.Table.{Table}
use Rattle.hy_val.specs.Maps.{is_map, select, stored}
use Rattle.hy_val.specs.Operators.{apply}
use Rattle.hy_val.specs.Values.{at, atom_of, has_sort, is_on, binary_value}
use Rattle.hy_val.specs.declared.atom.Atom.{Atom}
use Rattle.hy_val.specs.declared.atom.AtomKind.TheVariants.{Bool as BoolAtom, Bv as BvAtom}
use Rattle.hy_val.specs.declared.sort.Scalar.{Scalar}
use Rattle.hy_val.specs.declared.sort.ScalarKind.TheVariants.{Bool as BoolSort, Bv as BvSort}
use Rattle.hy_val.specs.declared.sort.SortKind.TheVariants.{Scalar as ScalarSort}
use Rattle.hy_val.specs.declared.operator.BvOp.TheVariants.{Eq, Implies}
use Rattle.hy_val.specs.declared.value.Value.{Value}
use Rattle.hy_val.specs.declared.value.Value.TheVariants.{Atom as AtomValue}
use Rattle.hy_val.proofs.Tables.{rank_tells, stored-is_map}
use Rattle.hy_term.proofs.Sorting.{and_left, and_right, and_both}
use Rattle.map_axioms.specs.declared.entry.Entry.{Entry}
use Rattle.map_axioms.specs.Steps.{pair_on, pairs_on, congruent, filled, Fillable}
use Rattle.map_axioms.proofs.Homes.{same_number, number_is}
use Rattle.map_axioms.proofs.Storing.{atom_is, select_put}
use Rattle.map_axioms.proofs.Conjoining.{pair_same, pair_other}

-- ---- equality of values of one sort, as a test

eq_is : (x y : Atom) (s : Scalar) → has_scalar x s ≡ true → has_scalar y s ≡ true → apply Eq x y ≡ BoolAtom (nat_eq (rank x) (rank y))
eq_is (BoolAtom true) (BoolAtom true) s h k = refl
eq_is (BoolAtom true) (BoolAtom false) s h k = refl
eq_is (BoolAtom false) (BoolAtom true) s h k = refl
eq_is (BoolAtom false) (BoolAtom false) s h k = refl
eq_is (BoolAtom a) (BvAtom v) BoolSort h k = cc
eq_is (BoolAtom a) (BvAtom v) (BvSort n) h k = cc
eq_is (BvAtom v) (BoolAtom b) BoolSort h k = cc
eq_is (BvAtom v) (BoolAtom b) (BvSort n) h k = cc
eq_is (BvAtom v) (BvAtom w) s h k = refl

record Test (v w : Value) : Type 0 where
  pub test : Bool
  pub is : binary_value Eq v w ≡ AtomValue (BoolAtom test)
  pub says : test ≡ true → v ≡ w
  pub if_same : v ≡ w → test ≡ true

test_of : (v w : Value) (s : Scalar) → IsTrue (has_sort v (ScalarSort s)) → IsTrue (has_sort w (ScalarSort s)) → Test v w
test_of v w s h k =
    let x = atom_is v s h in
    let y = atom_is w s k in
    record {
      test = nat_eq (rank x.atom) (rank y.atom);
      is = ap (λ (u : Value). binary_value Eq u w) x.is ∙ ap (λ (u : Value). binary_value Eq (AtomValue x.atom) u) y.is ∙ ap AtomValue (eq_is x.atom y.atom s x.fits y.fits);
      says = λ e.
          let ranks : rank x.atom ≡ rank y.atom = grind (arith, nat_tests, e) in
          x.is ∙ ap AtomValue (rank_tells x.atom y.atom s x.fits y.fits ranks) ∙ sym y.is;
      if_same = λ e.
          let one : AtomValue x.atom ≡ AtomValue y.atom = sym x.is ∙ e ∙ y.is in
          let same : x.atom ≡ y.atom = cc in
          ap (λ (a : Atom). nat_eq (rank x.atom) (rank a)) (sym same) ∙ same_number (rank x.atom);
    }

implied : (p q : Bool) → (p ≡ true → q ≡ true) → (not p || q) ≡ true
implied true q h = h refl
implied false q h = refl

implies : (p q : Bool) → (not p || q) ≡ true → p ≡ true → q ≡ true
implies true q h e = h
implies false q h e = cc

-- what congruence says of two entries
abbrev pub Alike : List Value → Entry → Entry → Type 0
Alike vs p q = p.map ≡ q.map → at vs p.index ≡ at vs q.index → at vs p.entry ≡ at vs q.entry

-- the sorts of two entries' values, where they are of one map
abbrev pub Matched : List Value → Entry → Entry → Type 0
Matched vs p q =
    p.map ≡ q.map → (s : Scalar) × (t : Scalar) × IsTrue (has_sort (at vs p.index) (ScalarSort s)) × IsTrue (has_sort (at vs q.index) (ScalarSort s)) × IsTrue (has_sort (at vs p.entry) (ScalarSort t))
    × IsTrue (has_sort (at vs q.entry) (ScalarSort t))

pair_says : (vs : List Value) (p q : Entry) → Matched vs p q → pair_on vs p q ≡ true → Alike vs p q
pair_says vs p q m h same index =
    let k = m same in
    let x = test_of (at vs p.index) (at vs q.index) k.0 k.2 k.3 in
    let y = test_of (at vs p.entry) (at vs q.entry) k.1 k.4 k.5 in
    let on : (not x.test || y.test) ≡ true =
    sym (ap (λ (v : Value). is_on (binary_value Implies v (binary_value Eq (at vs p.entry) (at vs q.entry)))) x.is ∙ ap (λ (v : Value). is_on (binary_value Implies (AtomValue (BoolAtom x.test)) v)) y.is)
    ∙ sym (pair_same p q vs same) ∙ h in
    y.says (implies x.test y.test on (x.if_same index))

if_by : (vs : List Value) (p q : Entry) (b : Bool) → nat_eq p.map q.map ≡ b → Matched vs p q → Alike vs p q → pair_on vs p q ≡ true
if_by vs p q false e m h = pair_other p q vs e
if_by vs p q true e m h =
    let same : p.map ≡ q.map = number_is p.map q.map e in
    let k = m same in
    let x = test_of (at vs p.index) (at vs q.index) k.0 k.2 k.3 in
    let y = test_of (at vs p.entry) (at vs q.entry) k.1 k.4 k.5 in
    pair_same p q vs same
    ∙ ap (λ (v : Value). is_on (binary_value Implies v (binary_value Eq (at vs p.entry) (at vs q.entry)))) x.is
    ∙ ap (λ (v : Value). is_on (binary_value Implies (AtomValue (BoolAtom x.test)) v)) y.is
    ∙ implied x.test y.test (λ t. y.if_same (h same (x.says t)))

pair_if : (vs : List Value) (p q : Entry) → Matched vs p q → Alike vs p q → pair_on vs p q ≡ true
pair_if vs p q m h = if_by vs p q (nat_eq p.map q.map) refl m h

-- ---- all pairs

abbrev pub AllMatched : List Value → List Entry → Type 0
AllMatched vs es = (i j : ℕ) (p q : Entry) → slice_get es i ≡ Some p → slice_get es j ≡ Some q → Matched vs p q

abbrev pub AllAlike : List Value → List Entry → Type 0
AllAlike vs es = (i j : ℕ) (p q : Entry) → slice_get es i ≡ Some p → slice_get es j ≡ Some q → Alike vs p q

pairs_if : (vs : List Value) (p : Entry) (qs : List Entry) → ((j : ℕ) (q : Entry) → slice_get qs j ≡ Some q → Matched vs p q) → ((j : ℕ) (q : Entry) → slice_get qs j ≡ Some q → Alike vs p q) → pairs_on vs p qs ≡ true
pairs_if vs p [] m h = refl
pairs_if vs p (q ∷ qs) m h = and_both (pair_on vs p q) (pairs_on vs p qs) (pair_if vs p q (m 0 q refl) (h 0 q refl)) (pairs_if vs p qs (λ j x is. m (suc j) x is) (λ j x is. h (suc j) x is))

pub congruent_if : (vs : List Value) (es : List Entry) → AllMatched vs es → AllAlike vs es → congruent vs es ≡ true
congruent_if vs [] m h = refl
congruent_if vs (p ∷ ps) m h =
    and_both (pairs_on vs p ps) (congruent vs ps) (pairs_if vs p ps (λ j q is. m 0 (suc j) p q refl is) (λ j q is. h 0 (suc j) p q refl is))
    (congruent_if vs ps (λ i j x y is_x is_y. m (suc i) (suc j) x y is_x is_y) (λ i j x y is_x is_y. h (suc i) (suc j) x y is_x is_y))

pairs_say : (vs : List Value) (p : Entry) (qs : List Entry) → pairs_on vs p qs ≡ true → (j : ℕ) (q : Entry) → slice_get qs j ≡ Some q → Matched vs p q → Alike vs p q
pairs_say vs p [] h j q is m = cc
pairs_say vs p (x ∷ qs) h zero q is m =
    let same : x ≡ q = cc in
    pair_says vs p q m (subst (λ (y : Entry). pair_on vs p y ≡ true) same (and_left (pair_on vs p x) (pairs_on vs p qs) h))
pairs_say vs p (x ∷ qs) h (suc j) q is m = pairs_say vs p qs (and_right (pair_on vs p x) (pairs_on vs p qs) h) j q is m

alike_self : (vs : List Value) (p q : Entry) → p ≡ q → Alike vs p q
alike_self vs p q same map index = ap (λ (e : Entry). at vs e.entry) same

alike_turned : (vs : List Value) (p q : Entry) → Alike vs q p → Alike vs p q
alike_turned vs p q h map index = sym (h (sym map) (sym index))

pub congruent_says : (vs : List Value) (es : List Entry) → AllMatched vs es → congruent vs es ≡ true → AllAlike vs es
congruent_says vs [] m h i j p q is_p is_q = cc
congruent_says vs (x ∷ es) m h zero zero p q is_p is_q = let one : p ≡ q = cc in alike_self vs p q one
congruent_says vs (x ∷ es) m h zero (suc j) p q is_p is_q =
    let one : x ≡ p = cc in
    subst (λ (y : Entry). Alike vs y q) one (pairs_say vs x es (and_left (pairs_on vs x es) (congruent vs es) h) j q is_q (m 0 (suc j) x q refl is_q))
congruent_says vs (x ∷ es) m h (suc i) zero p q is_p is_q =
    let one : x ≡ q = cc in
    alike_turned vs p q (subst (λ (y : Entry). Alike vs y p) one (pairs_say vs x es (and_left (pairs_on vs x es) (congruent vs es) h) i p is_p (m 0 (suc i) x p refl is_p)))
congruent_says vs (x ∷ es) m h (suc i) (suc j) p q is_p is_q =
    congruent_says vs es (λ k l y z is_y is_z. m (suc k) (suc l) y z is_y is_z) (and_right (pairs_on vs x es) (congruent vs es) h) i j p q is_p is_q

-- ---- the map of a variable's entries

pub record IsFilled (m : Table) (index elem : Scalar) : Type 0 where
  pub fits : IsTrue (is_map m)
  pub index_is : m.index ≡ index
  pub elem_is : m.elem ≡ elem

abbrev fill : (ℕ → Value) → List Value → ℕ → Table → Entry → Table
fill b vs n m e = if nat_eq e.map n then stored m (atom_of (at vs e.index)) (atom_of (b e.number)) else m

pub own_scalar : (v : Value) (s : Scalar) → IsTrue (has_sort v (ScalarSort s)) → has_scalar (atom_of v) s ≡ true
own_scalar v s h = let x = atom_is v s h in ap (λ (u : Value). has_scalar (atom_of u) s) x.is ∙ x.fits

pub fill_by : (b : ℕ → Value) (vs : List Value) (n : ℕ) (index elem : Scalar) (m : Table) (e : Entry) (t : Bool) → nat_eq e.map n ≡ t → IsFilled m index elem
    → (e.map ≡ n → IsTrue (has_sort (at vs e.index) (ScalarSort index)) × IsTrue (has_sort (b e.number) (ScalarSort elem)))
    → IsFilled (if t then stored m (atom_of (at vs e.index)) (atom_of (b e.number)) else m) index elem
fill_by b vs n index elem m e true test h k =
    let s = k (number_is e.map n test) in
    record {
      fits = stored-is_map m (atom_of (at vs e.index)) (atom_of (b e.number)) h.fits (ap (has_scalar (atom_of (at vs e.index))) h.index_is ∙ own_scalar (at vs e.index) index s.0)
          (ap (has_scalar (atom_of (b e.number))) h.elem_is ∙ own_scalar (b e.number) elem s.1);
      index_is = h.index_is;
      elem_is = h.elem_is;
    }
fill_by b vs n index elem m e false test h k = h

pub filled_is : (b : ℕ → Value) (vs : List Value) (n : ℕ) (index elem : Scalar) (m : Table) (es : List Entry) → IsFilled m index elem → Fillable b vs n index elem es → IsFilled (filled b vs n m es) index elem
filled_is b vs n index elem m [] h k = h
filled_is b vs n index elem m (e ∷ es) h k =
    filled_is b vs n index elem (fill b vs n m e) es (fill_by b vs n index elem m e (nat_eq e.map n) refl h (k 0 e refl)) (λ j x is. k (suc j) x is)

-- all entries at this index are this atom
abbrev pub Agreed : (ℕ → Value) → List Value → ℕ → Atom → Atom → List Entry → Type 0
Agreed b vs n x y es = (j : ℕ) (e : Entry) → slice_get es j ≡ Some e → e.map ≡ n → at vs e.index ≡ AtomValue x → b e.number ≡ AtomValue y

chosen : (P : Bool → Type 0) (t : Bool) → (t ≡ true → P true) → (t ≡ false → P false) → P t
chosen P true h k = h refl
chosen P false h k = k refl

keep_by : (b : ℕ → Value) (vs : List Value) (n : ℕ) (index elem : Scalar) (x y : Atom) (m : Table) (e : Entry) (t : Bool) → nat_eq e.map n ≡ t → IsFilled m index elem → has_scalar x index ≡ true
    → (e.map ≡ n → IsTrue (has_sort (at vs e.index) (ScalarSort index)) × IsTrue (has_sort (b e.number) (ScalarSort elem)))
    → (e.map ≡ n → at vs e.index ≡ AtomValue x → b e.number ≡ AtomValue y) → select m x ≡ y → select (if t then stored m (atom_of (at vs e.index)) (atom_of (b e.number)) else m) x ≡ y
keep_by b vs n index elem x y m e false test h own k agreed old = old
keep_by b vs n index elem x y m e true test h own k agreed old =
    let map = number_is e.map n test in
    let s = k map in
    let i = atom_is (at vs e.index) index s.0 in
    let i_atom : atom_of (at vs e.index) ≡ i.atom = ap atom_of i.is in
    select_put m (atom_of (at vs e.index)) (atom_of (b e.number)) x h.fits (ap (has_scalar (atom_of (b e.number))) h.elem_is ∙ own_scalar (b e.number) elem s.1)
    ∙ ap (λ (a : Atom). if nat_eq (rank a) (rank x) then atom_of (b e.number) else select m x) i_atom
    ∙ chosen (λ c. (if c then atom_of (b e.number) else select m x) ≡ y) (nat_eq (rank i.atom) (rank x))
    (λ same.
    let ranks : rank i.atom ≡ rank x = number_is (rank i.atom) (rank x) same in
    let one : i.atom ≡ x = rank_tells i.atom x index i.fits own ranks in
    ap atom_of (agreed map (i.is ∙ ap AtomValue one)))
    (λ other. old)

filled_keeps : (b : ℕ → Value) (vs : List Value) (n : ℕ) (index elem : Scalar) (x y : Atom) (m : Table) (es : List Entry) → IsFilled m index elem → has_scalar x index ≡ true → Fillable b vs n index elem es
    → Agreed b vs n x y es → select m x ≡ y → select (filled b vs n m es) x ≡ y
filled_keeps b vs n index elem x y m [] h own k agreed old = old
filled_keeps b vs n index elem x y m (e ∷ es) h own k agreed old =
    filled_keeps b vs n index elem x y (fill b vs n m e) es (fill_by b vs n index elem m e (nat_eq e.map n) refl h (k 0 e refl)) own (λ j z is. k (suc j) z is) (λ j z is. agreed (suc j) z is)
    (keep_by b vs n index elem x y m e (nat_eq e.map n) refl h own (k 0 e refl) (agreed 0 e refl) old)

put_by : (b : ℕ → Value) (vs : List Value) (n : ℕ) (index elem : Scalar) (x y : Atom) (m : Table) (e : Entry) (t : Bool) → t ≡ true → IsFilled m index elem → IsTrue (has_sort (b e.number) (ScalarSort elem))
    → at vs e.index ≡ AtomValue x → b e.number ≡ AtomValue y → select (if t then stored m (atom_of (at vs e.index)) (atom_of (b e.number)) else m) x ≡ y
put_by b vs n index elem x y m e false test h own i v = cc
put_by b vs n index elem x y m e true test h own i v =
    select_put m (atom_of (at vs e.index)) (atom_of (b e.number)) x h.fits (ap (has_scalar (atom_of (b e.number))) h.elem_is ∙ own_scalar (b e.number) elem own)
    ∙ ap (λ (a : Atom). if nat_eq (rank a) (rank x) then atom_of (b e.number) else select m x) (ap atom_of i)
    ∙ ap (λ (c : Bool). if c then atom_of (b e.number) else select m x) (same_number (rank x)) ∙ ap atom_of v

-- the map has each entry, where all at its index are alike
pub filled_has : (b : ℕ → Value) (vs : List Value) (n : ℕ) (index elem : Scalar) (x y : Atom) (m : Table) (es : List Entry) (j : ℕ) (e : Entry) → IsFilled m index elem → has_scalar x index ≡ true
    → Fillable b vs n index elem es → Agreed b vs n x y es → slice_get es j ≡ Some e → e.map ≡ n → at vs e.index ≡ AtomValue x → b e.number ≡ AtomValue y → select (filled b vs n m es) x ≡ y
filled_has b vs n index elem x y m [] j e h own k agreed is map i v = cc
filled_has b vs n index elem x y m (f ∷ es) zero e h own k agreed is map i v =
    let one : e ≡ f = cc in
    let map_f : f.map ≡ n = ap (λ (z : Entry). z.map) (sym one) ∙ map in
    let i_f : at vs f.index ≡ AtomValue x = ap (λ (z : Entry). at vs z.index) (sym one) ∙ i in
    let v_f : b f.number ≡ AtomValue y = ap (λ (z : Entry). b z.number) (sym one) ∙ v in
    filled_keeps b vs n index elem x y (fill b vs n m f) es (fill_by b vs n index elem m f (nat_eq f.map n) refl h (k 0 f refl)) own (λ j z q. k (suc j) z q) (λ j z q. agreed (suc j) z q)
    (put_by b vs n index elem x y m f (nat_eq f.map n) (ap (nat_eq f.map) (sym map_f) ∙ same_number f.map) h (k 0 f refl map_f).1 i_f v_f)
filled_has b vs n index elem x y m (f ∷ es) (suc j) e h own k agreed is map i v =
    filled_has b vs n index elem x y (fill b vs n m f) es j e (fill_by b vs n index elem m f (nat_eq f.map n) refl h (k 0 f refl)) own (λ l z q. k (suc l) z q) (λ l z q. agreed (suc l) z q) is map i v
