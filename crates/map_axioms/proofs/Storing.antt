-- An entry of a map that was written, or chosen, by comparisons of indexes.
use Rattle.std.proofs.Common.{◌≡◌, Bool, true, false, ◌&&◌, arith, sym, ◌∙◌, ap, refl}
use Rattle.std.specs.Prelude.{if◌then◌else◌, IsTrue, nat_eq}
use Rattle.std.proofs.lemmas.Bool.Decides.{nat_tests}
use Rattle.hy_val.specs.Sorts.{rank, has_scalar, same_scalar, zero_of_scalar}
use Rattle.hy_val.specs.Table.{Table}
use Rattle.hy_val.specs.Maps.{is_map, select, stored, ascends, pairs_fit}
use Rattle.hy_val.specs.Operators.{apply}
use Rattle.hy_val.specs.Values.{has_sort, is_on, binary_value, pick, select_value, store_value}
use Rattle.hy_val.specs.declared.sort.Scalar.{Scalar}
use Rattle.hy_val.specs.declared.sort.ScalarKind.TheVariants.{Bool as BoolSort, Bv as BvSort}
use Rattle.hy_val.specs.declared.sort.SortKind.TheVariants.{Scalar as ScalarSort, Map as MapSort}
use Rattle.hy_val.specs.declared.atom.Atom.{Atom}
use Rattle.hy_val.specs.declared.atom.AtomKind.TheVariants.{Bool as BoolAtom, Bv as BvAtom}
use Rattle.hy_val.specs.declared.operator.BvOp.TheVariants.{Eq}
use Rattle.hy_val.specs.declared.value.Value.{Value}
use Rattle.hy_val.specs.declared.value.Value.TheVariants.{Atom as AtomValue, Map as MapValue}
use Rattle.hy_val.proofs.ResultSorts.{same_scalar_is}
use Rattle.hy_val.proofs.Tables.{right, entry-put, zero_is, rank_tells}
use Rattle.hy_term.proofs.Sorting.{and_left, and_right}

-- ---- values of a sort

pub record IsAtom (v : Value) (s : Scalar) : Type 0 where
  pub atom : Atom
  pub is : v ≡ AtomValue atom
  pub fits : has_scalar atom s ≡ true

pub atom_is : (v : Value) (s : Scalar) → IsTrue (has_sort v (ScalarSort s)) → IsAtom v s
atom_is (AtomValue a) s h = record { atom = a; is = refl; fits = h }
atom_is (MapValue m) s h = cc

pub record IsTable (v : Value) (index elem : Scalar) : Type 0 where
  pub table : Table
  pub is : v ≡ MapValue table
  pub fits : IsTrue (is_map table)
  pub index_is : table.index ≡ index
  pub elem_is : table.elem ≡ elem

pub table_is : (v : Value) (index elem : Scalar) → IsTrue (has_sort v (MapSort index elem)) → IsTable v index elem
table_is (AtomValue a) index elem h = cc
table_is (MapValue m) index elem h =
    let sorts = and_left (same_scalar m.index index && same_scalar m.elem elem) (is_map m) h in
    record {
      table = m;
      is = refl;
      fits = and_right (same_scalar m.index index && same_scalar m.elem elem) (is_map m) h;
      index_is = same_scalar_is m.index index (and_left (same_scalar m.index index) (same_scalar m.elem elem) sorts);
      elem_is = same_scalar_is m.elem elem (and_right (same_scalar m.index index) (same_scalar m.elem elem) sorts);
    }

-- ---- equality of atoms of one sort

pub eq_on : (x y : Atom) (s : Scalar) → has_scalar x s ≡ true → has_scalar y s ≡ true → is_on (AtomValue (apply Eq x y)) ≡ nat_eq (rank x) (rank y)
eq_on (BoolAtom true) (BoolAtom true) s h k = refl
eq_on (BoolAtom true) (BoolAtom false) s h k = refl
eq_on (BoolAtom false) (BoolAtom true) s h k = refl
eq_on (BoolAtom false) (BoolAtom false) s h k = refl
eq_on (BoolAtom a) (BvAtom v) BoolSort h k = cc
eq_on (BoolAtom a) (BvAtom v) (BvSort n) h k = cc
eq_on (BvAtom v) (BoolAtom b) BoolSort h k = cc
eq_on (BvAtom v) (BoolAtom b) (BvSort n) h k = cc
eq_on (BvAtom v) (BvAtom w) s h k = refl

pub eq_self : (x : Atom) (s : Scalar) → has_scalar x s ≡ true → is_on (AtomValue (apply Eq x x)) ≡ true
eq_self x s h = eq_on x x s h h ∙ grind (arith, nat_tests)

pub eq_tells : (x y : Atom) (s : Scalar) → has_scalar x s ≡ true → has_scalar y s ≡ true → is_on (AtomValue (apply Eq x y)) ≡ true → x ≡ y
eq_tells x y s h k e =
    let same : nat_eq (rank x) (rank y) ≡ true = sym (eq_on x y s h k) ∙ e in
    let ranks : rank x ≡ rank y = grind (arith, nat_tests, same) in
    rank_tells x y s h k ranks

-- ---- the entry of a map with another entry

pub select_put : (m : Table) (i v j : Atom) → IsTrue (is_map m) → has_scalar v m.elem ≡ true → select (stored m i v) j ≡ (if nat_eq (rank i) (rank j) then v else select m j)
select_put m i v j h fit = entry-put (zero_of_scalar m.elem) v i m.pairs j (λ z. zero_is v m.elem fit z) (right (pairs_fit m.index m.elem m.pairs) (ascends m.pairs) h)

as_pick : (b : Bool) (c v : Value) (x y : Atom) → is_on c ≡ b → AtomValue (if b then x else y) ≡ pick c (AtomValue x) (AtomValue y)
as_pick true c v x y e = ap (λ (t : Bool). if t then AtomValue x else AtomValue y) (sym e)
as_pick false c v x y e = ap (λ (t : Bool). if t then AtomValue x else AtomValue y) (sym e)

pub select_of_store : (m i v j : Value) (index elem : Scalar) → IsTrue (has_sort m (MapSort index elem)) → IsTrue (has_sort i (ScalarSort index)) → IsTrue (has_sort v (ScalarSort elem))
    → IsTrue (has_sort j (ScalarSort index)) → select_value (store_value m i v) j ≡ pick (binary_value Eq i j) v (select_value m j)
select_of_store m i v j index elem hm hi hv hj =
    let t = table_is m index elem hm in
    let x = atom_is i index hi in
    let e = atom_is v elem hv in
    let y = atom_is j index hj in
    ap (λ (w : Value). select_value (store_value w i v) j) t.is
    ∙ ap (λ (w : Value). select_value (store_value (MapValue t.table) w v) j) x.is
    ∙ ap (λ (w : Value). select_value (store_value (MapValue t.table) (AtomValue x.atom) w) j) e.is
    ∙ ap (λ (w : Value). select_value (store_value (MapValue t.table) (AtomValue x.atom) (AtomValue e.atom)) w) y.is
    ∙ ap AtomValue (select_put t.table x.atom e.atom y.atom t.fits (ap (has_scalar e.atom) t.elem_is ∙ e.fits))
    ∙ as_pick (nat_eq (rank x.atom) (rank y.atom)) (AtomValue (apply Eq x.atom y.atom)) v e.atom (select t.table y.atom) (eq_on x.atom y.atom index x.fits y.fits)
    ∙ sym (ap (λ (w : Value). pick (binary_value Eq w j) v (select_value m j)) x.is
    ∙ ap (λ (w : Value). pick (binary_value Eq (AtomValue x.atom) w) v (select_value m w)) y.is
    ∙ ap (λ (w : Value). pick (binary_value Eq (AtomValue x.atom) (AtomValue y.atom)) w (select_value m (AtomValue y.atom))) e.is
    ∙ ap (λ (w : Value). pick (binary_value Eq (AtomValue x.atom) (AtomValue y.atom)) (AtomValue e.atom) (select_value w (AtomValue y.atom))) t.is)

select_by : (b : Bool) (v w j : Value) → select_value (if b then v else w) j ≡ (if b then select_value v j else select_value w j)
select_by true v w j = refl
select_by false v w j = refl

pub select_of_pick : (c v w j : Value) → select_value (pick c v w) j ≡ pick c (select_value v j) (select_value w j)
select_of_pick c v w j = select_by (is_on c) v w j
