-- Congruence, pair by pair.
use Rattle.std.proofs.Common.{◌≡◌, ℕ, zero, suc, ◌+◌, ◌≤◌, Bool, true, false, ◌&&◌, List, [], ◌∷◌, length, drop, arith, sym, ◌∙◌, ap, refl}
use Rattle.std.specs.Prelude.{Some, if◌then◌else◌, slice_get, IsTrue, is_some, nat_eq}
use Rattle.hy_val.specs.Operators.{apply, sort_of_binary}
use Rattle.hy_val.specs.Values.{at, atom_of, is_on, is_true_atom, binary_value}
use Rattle.hy_val.specs.declared.atom.Atom.{Atom}
use Rattle.hy_val.specs.declared.atom.AtomKind.TheVariants.{Bool as BoolAtom, Bv as BvAtom}
use Rattle.hy_val.specs.declared.sort.Scalar.{Scalar}
use Rattle.hy_val.specs.declared.sort.ScalarKind.TheVariants.{Bool as BoolSort}
use Rattle.hy_val.specs.declared.sort.SortKind.TheVariants.{Scalar as ScalarSort, Map as MapSort}
use Rattle.hy_val.specs.declared.operator.BvOp.{BvOp}
use Rattle.hy_val.specs.declared.operator.BvOp.TheVariants.{And, Eq, Implies}
use Rattle.hy_val.specs.declared.value.Value.{Value}
use Rattle.hy_term.specs.TermSorts.{sort_at, sort_behind, sort_of_number, fits_behind}
use Rattle.hy_term.specs.Meaning.{values, value}
use Rattle.hy_term.specs.declared.node.TermNode.{TermNode}
use Rattle.hy_term.specs.declared.node.TermNode.TheVariants.{Binary}
use Rattle.hy_term.proofs.Sorting.{and_both}
use Rattle.map_axioms.specs.declared.entry.Entry.{Entry}
use Rattle.map_axioms.specs.Shared.{Shared}
use Rattle.map_axioms.specs.Steps.{EntryKept, Later, State, pair_on, pairs_on, congruent, Conjoined, AllKept}
use Rattle.map_axioms.proofs.Cases.{sort_within, behind_binary}
use Rattle.map_axioms.proofs.Homes.{same_number}
use Rattle.map_axioms.proofs.Standing.{some_is, value_later, sort_later, entry_later, later_same, later_then}
use Rattle.map_axioms.proofs.Sharing.{given}
use Rattle.map_axioms.proofs.Rows.{eq_fits}

-- ---- one binary node more

pub binary_fits : (out : List TermNode) (op : BvOp) (l r : ℕ) (s t u : Scalar) → sort_at out l ≡ Some (ScalarSort s) → sort_at out r ≡ Some (ScalarSort t) → sort_of_binary op s t ≡ Some u
    → IsTrue (fits_behind out (Binary op l r))
binary_fits out op l r s t u h k e = and_both (is_some (sort_behind out (Binary op l r))) true (some_is (sort_behind out (Binary op l r)) (ScalarSort u) (behind_binary out op l r s t u h k e)) refl

pub record BinaryStep (base : ℕ) (nodes out : List TermNode) (es : List Entry) (out' : List TermNode) (t : ℕ) (op : BvOp) (l r : ℕ) (u : Scalar) : Type 0 where
  pub state : State base nodes out' es
  pub later : Later out es out' es
  pub sort : sort_at out' t ≡ Some (ScalarSort u)
  pub is : (b : ℕ → Value) → value b out' t ≡ binary_value op (value b out l) (value b out r)

pub binary_step : (base : ℕ) (nodes out : List TermNode) (es : List Entry) (out' : List TermNode) (n : ℕ) (op : BvOp) (l r : ℕ) (s t u : Scalar) → State base nodes out es → sort_at out l ≡ Some (ScalarSort s)
    → sort_at out r ≡ Some (ScalarSort t) → sort_of_binary op s t ≡ Some u → Shared out (Binary op l r) out' n → BinaryStep base nodes out es out' n op l r u
binary_step base nodes out es out' n op l r s t u st h k e shared =
    let g = given base nodes out es (Binary op l r) (ScalarSort u) st (behind_binary out op l r s t u h k e) tt out' n shared in
    record { state = g.state; later = g.later; sort = g.sort; is = g.is }

-- ---- one pair more

and_by : (x y : Atom) → is_true_atom (apply And x y) ≡ (is_true_atom x && is_true_atom y)
and_by (BoolAtom a) (BoolAtom b) = refl
and_by (BoolAtom true) (BvAtom v) = refl
and_by (BoolAtom false) (BvAtom v) = refl
and_by (BvAtom v) (BoolAtom b) = refl
and_by (BvAtom v) (BvAtom w) = refl

pub and_on : (v w : Value) → is_on (binary_value And v w) ≡ (is_on v && is_on w)
and_on v w = and_by (atom_of v) (atom_of w)

pub and_true : (a : Bool) → (a && true) ≡ a
and_true true = refl
and_true false = refl

pub and_grouped : (a b c : Bool) → (a && (b && c)) ≡ ((a && b) && c)
and_grouped true b c = refl
and_grouped false b c = refl

pub conjoined_same : (base : ℕ) (nodes out : List TermNode) (es : List Entry) (all : ℕ) (condition : List Value → Bool) → State base nodes out es → sort_at out all ≡ Some (ScalarSort BoolSort)
    → ((vs : List Value) → condition vs ≡ true) → Conjoined base nodes out es out all all condition
conjoined_same base nodes out es all condition st h k = record {
  state = st;
  later = later_same base nodes out es st;
  bool = h;
  is = λ b. sym (ap (λ (x : Bool). is_on (value b out all) && x) (k (values b out)) ∙ and_true (is_on (value b out all)));
}

other_by : (p q : Entry) (vs : List Value) (b : Bool) → nat_eq p.map q.map ≡ b → b ≡ false → pair_on vs p q ≡ true
other_by p q vs true e h = cc
other_by p q vs false e h =
    ap (λ (x : Bool). if x then is_on (binary_value Implies (binary_value Eq (at vs p.index) (at vs q.index)) (binary_value Eq (at vs p.entry) (at vs q.entry))) else true) e

pub pair_other : (p q : Entry) (vs : List Value) → nat_eq p.map q.map ≡ false → pair_on vs p q ≡ true
pair_other p q vs h = other_by p q vs (nat_eq p.map q.map) refl h

pub pair_same : (p q : Entry) (vs : List Value) → p.map ≡ q.map
    → pair_on vs p q ≡ is_on (binary_value Implies (binary_value Eq (at vs p.index) (at vs q.index)) (binary_value Eq (at vs p.entry) (at vs q.entry)))
pair_same p q vs h =
    let test : nat_eq p.map q.map ≡ true = ap (nat_eq p.map) (sym h) ∙ same_number p.map in
    ap (λ (x : Bool). if x then is_on (binary_value Implies (binary_value Eq (at vs p.index) (at vs q.index)) (binary_value Eq (at vs p.entry) (at vs q.entry))) else true) test

-- what two entries of one map have in common
pub record OneMap (out : List TermNode) (p q : Entry) : Type 0 where
  pub index : Scalar
  pub elem : Scalar
  pub index_p : sort_at out p.index ≡ Some (ScalarSort index)
  pub index_q : sort_at out q.index ≡ Some (ScalarSort index)
  pub entry_p : sort_at out p.entry ≡ Some (ScalarSort elem)
  pub entry_q : sort_at out q.entry ≡ Some (ScalarSort elem)

pub one_map : (base : ℕ) (nodes out : List TermNode) (es : List Entry) (p q : Entry) → EntryKept base nodes out es p → EntryKept base nodes out es q → p.map ≡ q.map → OneMap out p q
one_map base nodes out es p q k j same =
    let sorts : Some (MapSort j.index j.elem) ≡ Some (MapSort k.index k.elem) = sym j.map ∙ ap (λ (n : ℕ). sort_of_number n nodes) (sym same) ∙ k.map in
    let i : j.index ≡ k.index = cc in
    let e : j.elem ≡ k.elem = cc in
    record {
      index = k.index;
      elem = k.elem;
      index_p = k.stands.sort;
      index_q = j.stands.sort ∙ ap (λ (s : Scalar). Some (ScalarSort s)) i;
      entry_p = k.sort;
      entry_q = j.sort ∙ ap (λ (s : Scalar). Some (ScalarSort s)) e;
    }

module _ (base : ℕ) (nodes out : List TermNode) (es : List Entry) (all : ℕ) (p q : Entry) (st : State base nodes out es) (bool : sort_at out all ≡ Some (ScalarSort BoolSort))
    (k : EntryKept base nodes out es p) (j : EntryKept base nodes out es q) (same : p.map ≡ q.map) where
  pub first_fits : IsTrue (fits_behind out (Binary Eq p.index q.index))
  first_fits = let m = one_map base nodes out es p q k j same in binary_fits out Eq p.index q.index m.index m.index BoolSort m.index_p m.index_q (eq_fits m.index)

  pub first_step : (out1 : List TermNode) (t1 : ℕ) → Shared out (Binary Eq p.index q.index) out1 t1 → BinaryStep base nodes out es out1 t1 Eq p.index q.index BoolSort
  first_step out1 t1 shared =
      let m = one_map base nodes out es p q k j same in
      binary_step base nodes out es out1 t1 Eq p.index q.index m.index m.index BoolSort st m.index_p m.index_q (eq_fits m.index) shared

  module _ (out1 : List TermNode) (t1 : ℕ) (s1 : BinaryStep base nodes out es out1 t1 Eq p.index q.index BoolSort) where
    pub second_fits : IsTrue (fits_behind out1 (Binary Eq p.entry q.entry))
    second_fits =
        let m = one_map base nodes out es p q k j same in
        binary_fits out1 Eq p.entry q.entry m.elem m.elem BoolSort (sort_later out es out1 es s1.later p.entry (ScalarSort m.elem) m.entry_p) (sort_later out es out1 es s1.later q.entry (ScalarSort m.elem) m.entry_q) (eq_fits m.elem)

    pub second_step : (out2 : List TermNode) (t2 : ℕ) → Shared out1 (Binary Eq p.entry q.entry) out2 t2 → BinaryStep base nodes out1 es out2 t2 Eq p.entry q.entry BoolSort
    second_step out2 t2 shared =
        let m = one_map base nodes out es p q k j same in
        binary_step base nodes out1 es out2 t2 Eq p.entry q.entry m.elem m.elem BoolSort s1.state (sort_later out es out1 es s1.later p.entry (ScalarSort m.elem) m.entry_p)
        (sort_later out es out1 es s1.later q.entry (ScalarSort m.elem) m.entry_q) (eq_fits m.elem) shared

    module _ (out2 : List TermNode) (t2 : ℕ) (s2 : BinaryStep base nodes out1 es out2 t2 Eq p.entry q.entry BoolSort) where
      pub third_fits : IsTrue (fits_behind out2 (Binary Implies t1 t2))
      third_fits = binary_fits out2 Implies t1 t2 BoolSort BoolSort BoolSort (sort_later out1 es out2 es s2.later t1 (ScalarSort BoolSort) s1.sort) s2.sort refl

      pub third_step : (out3 : List TermNode) (t3 : ℕ) → Shared out2 (Binary Implies t1 t2) out3 t3 → BinaryStep base nodes out2 es out3 t3 Implies t1 t2 BoolSort
      third_step out3 t3 shared = binary_step base nodes out2 es out3 t3 Implies t1 t2 BoolSort BoolSort BoolSort s2.state (sort_later out1 es out2 es s2.later t1 (ScalarSort BoolSort) s1.sort) s2.sort refl shared

      module _ (out3 : List TermNode) (t3 : ℕ) (s3 : BinaryStep base nodes out2 es out3 t3 Implies t1 t2 BoolSort) where
        to_third : Later out es out3 es
        to_third = later_then out es out1 es out3 es s1.later (later_then out1 es out2 es out3 es s2.later s3.later)

        pub fourth_fits : IsTrue (fits_behind out3 (Binary And all t3))
        fourth_fits = binary_fits out3 And all t3 BoolSort BoolSort BoolSort (sort_later out es out3 es to_third all (ScalarSort BoolSort) bool) s3.sort refl

        meaning : (b : ℕ → Value) → is_on (value b out3 t3) ≡ pair_on (values b out) p q
        meaning b =
            let m = one_map base nodes out es p q k j same in
            ap is_on (s3.is b
            ∙ ap (λ (v : Value). binary_value Implies v (value b out2 t2)) (value_later out1 es out2 es s2.later b t1 (sort_within out1 t1 (ScalarSort BoolSort) s1.sort) ∙ s1.is b)
            ∙ ap (λ (v : Value). binary_value Implies (binary_value Eq (value b out p.index) (value b out q.index)) v)
            (s2.is b
            ∙ ap (λ (v : Value). binary_value Eq v (value b out1 q.entry)) (value_later out es out1 es s1.later b p.entry (sort_within out p.entry (ScalarSort m.elem) m.entry_p))
            ∙ ap (λ (v : Value). binary_value Eq (value b out p.entry) v) (value_later out es out1 es s1.later b q.entry (sort_within out q.entry (ScalarSort m.elem) m.entry_q))))
            ∙ sym (pair_same p q (values b out) same)

        pub fourth : (out4 : List TermNode) (t4 : ℕ) → Shared out3 (Binary And all t3) out4 t4 → Conjoined base nodes out es out4 all t4 (λ vs. pair_on vs p q)
        fourth out4 t4 shared =
            let s4 = binary_step base nodes out3 es out4 t4 And all t3 BoolSort BoolSort BoolSort s3.state (sort_later out es out3 es to_third all (ScalarSort BoolSort) bool) s3.sort refl shared in
            record {
              state = s4.state;
              later = later_then out es out3 es out4 es to_third s4.later;
              bool = s4.sort;
              is = λ b.
                  ap is_on (s4.is b) ∙ and_on (value b out3 all) (value b out3 t3)
                  ∙ ap (λ (v : Value). is_on v && is_on (value b out3 t3)) (value_later out es out3 es to_third b all (sort_within out all (ScalarSort BoolSort) bool))
                  ∙ ap (λ (x : Bool). is_on (value b out all) && x) (meaning b);
            }

-- ---- pairs stay while nodes are added

pub pair_stays : (base : ℕ) (nodes out : List TermNode) (es : List Entry) (out' : List TermNode) (p q : Entry) (b : ℕ → Value) → Later out es out' es → EntryKept base nodes out es p → EntryKept base nodes out es q
    → pair_on (values b out') p q ≡ pair_on (values b out) p q
pair_stays base nodes out es out' p q b l k j =
    let same : (t : ℕ) (s : Scalar) → sort_at out t ≡ Some (ScalarSort s) → value b out' t ≡ value b out t = λ t s h. value_later out es out' es l b t (sort_within out t (ScalarSort s) h) in
    let on : Value → Value → Value → Value → Bool = λ v w x y. if nat_eq p.map q.map then is_on (binary_value Implies (binary_value Eq v w) (binary_value Eq x y)) else true in
    ap (λ (v : Value). on v (value b out' q.index) (value b out' p.entry) (value b out' q.entry)) (same p.index k.index k.stands.sort)
    ∙ ap (λ (v : Value). on (value b out p.index) v (value b out' p.entry) (value b out' q.entry)) (same q.index j.index j.stands.sort)
    ∙ ap (λ (v : Value). on (value b out p.index) (value b out q.index) v (value b out' q.entry)) (same p.entry k.elem k.sort)
    ∙ ap (λ (v : Value). on (value b out p.index) (value b out q.index) (value b out p.entry) v) (same q.entry j.elem j.sort)

pub pairs_stay : (base : ℕ) (nodes out : List TermNode) (es : List Entry) (out' : List TermNode) (p : Entry) (qs : List Entry) (b : ℕ → Value) → Later out es out' es → EntryKept base nodes out es p
    → AllKept base nodes out es qs → pairs_on (values b out') p qs ≡ pairs_on (values b out) p qs
pairs_stay base nodes out es out' p [] b l k h = refl
pairs_stay base nodes out es out' p (q ∷ qs) b l k h =
    ap (λ (x : Bool). x && pairs_on (values b out') p qs) (pair_stays base nodes out es out' p q b l k (h 0 q refl))
    ∙ ap (λ (x : Bool). pair_on (values b out) p q && x) (pairs_stay base nodes out es out' p qs b l k (λ j e is. h (suc j) e is))

pub congruent_stays : (base : ℕ) (nodes out : List TermNode) (es : List Entry) (out' : List TermNode) (ps : List Entry) (b : ℕ → Value) → Later out es out' es → AllKept base nodes out es ps
    → congruent (values b out') ps ≡ congruent (values b out) ps
congruent_stays base nodes out es out' [] b l h = refl
congruent_stays base nodes out es out' (p ∷ ps) b l h =
    ap (λ (x : Bool). x && congruent (values b out') ps) (pairs_stay base nodes out es out' p ps b l (h 0 p refl) (λ j e is. h (suc j) e is))
    ∙ ap (λ (x : Bool). pairs_on (values b out) p ps && x) (congruent_stays base nodes out es out' ps b l (λ j e is. h (suc j) e is))

-- ---- the loops, as the whole from here

-- what is left of a list from a place
pub drop_at : {A : Type 0} (xs : List A) (k : ℕ) (x : A) → slice_get xs k ≡ Some x → drop k xs ≡ x ∷ drop (k + 1) xs
drop_at [] k x h = cc
drop_at (y ∷ xs) zero x h = ap (λ z. z ∷ xs) (let e : y ≡ x = cc in e)
drop_at (y ∷ xs) (suc k) x h = let n : suc k + 1 ≡ suc (k + 1) = omega arith in drop_at xs k x h ∙ ap (λ z. x ∷ z) (ap (λ i. drop i (y ∷ xs)) (sym n))

pub drop_kept : (base : ℕ) (nodes out : List TermNode) (es xs : List Entry) (n : ℕ) → AllKept base nodes out es xs → AllKept base nodes out es (drop n xs)
drop_kept base nodes out es [] zero h = h
drop_kept base nodes out es [] (suc n) h = h
drop_kept base nodes out es (x ∷ xs) zero h = h
drop_kept base nodes out es (x ∷ xs) (suc n) h = drop_kept base nodes out es xs n (λ j e is. h (suc j) e is)

-- what a loop over the rest of a list has conjoined so far: the first terms stand behind it
pub record SoFar (base : ℕ) (nodes out : List TermNode) (es : List Entry) (out' : List TermNode) (all t : ℕ) (whole rest : List Value → Bool) : Type 0 where
  pub state : State base nodes out' es
  pub later : Later out es out' es
  pub bool : sort_at out' t ≡ Some (ScalarSort BoolSort)
  pub is : (b : ℕ → Value) → (is_on (value b out' t) && rest (values b out)) ≡ (is_on (value b out all) && whole (values b out))

pub so_far_first : (base : ℕ) (nodes out : List TermNode) (es : List Entry) (all : ℕ) (whole : List Value → Bool) → State base nodes out es → sort_at out all ≡ Some (ScalarSort BoolSort)
    → SoFar base nodes out es out all all whole whole
so_far_first base nodes out es all whole st h = record { state = st; later = later_same base nodes out es st; bool = h; is = λ b. refl }

pub so_far_next : (base : ℕ) (nodes out : List TermNode) (es : List Entry) (out' out'' : List TermNode) (all t u : ℕ) (whole rest now next : List Value → Bool)
    → SoFar base nodes out es out' all t whole rest → Conjoined base nodes out' es out'' t u now → ((vs : List Value) → rest vs ≡ (now vs && next vs)) → ((b : ℕ → Value) → now (values b out') ≡ now (values b out))
    → SoFar base nodes out es out'' all u whole next
so_far_next base nodes out es out' out'' all t u whole rest now next s c split stays = record {
  state = c.state;
  later = later_then out es out' es out'' es s.later c.later;
  bool = c.bool;
  is = λ b.
      ap (λ (x : Bool). x && next (values b out)) (c.is b ∙ ap (λ (x : Bool). is_on (value b out' t) && x) (stays b))
      ∙ sym (and_grouped (is_on (value b out' t)) (now (values b out)) (next (values b out)))
      ∙ ap (λ (x : Bool). is_on (value b out' t) && x) (sym (split (values b out)))
      ∙ s.is b;
}

pub so_far_last : (base : ℕ) (nodes out : List TermNode) (es : List Entry) (out' : List TermNode) (all t : ℕ) (whole rest : List Value → Bool) → SoFar base nodes out es out' all t whole rest
    → ((vs : List Value) → rest vs ≡ true) → Conjoined base nodes out es out' all t whole
so_far_last base nodes out es out' all t whole rest s end = record {
  state = s.state;
  later = s.later;
  bool = s.bool;
  is = λ b. sym (and_true (is_on (value b out' t))) ∙ ap (λ (x : Bool). is_on (value b out' t) && x) (sym (end (values b out))) ∙ s.is b;
}

-- what is left may be written otherwise
pub so_far_as : (base : ℕ) (nodes out : List TermNode) (es : List Entry) (out' : List TermNode) (all t : ℕ) (whole rest next : List Value → Bool) → ((vs : List Value) → rest vs ≡ next vs) → SoFar base nodes out es out' all t whole rest
    → SoFar base nodes out es out' all t whole next
so_far_as base nodes out es out' all t whole rest next same s = record {
  state = s.state;
  later = s.later;
  bool = s.bool;
  is = λ b. ap (λ (x : Bool). is_on (value b out' t) && x) (sym (same (values b out))) ∙ s.is b;
}

drop_past : {A : Type 0} (xs : List A) (n : ℕ) → length xs ≤ n → drop n xs ≡ []
drop_past [] zero h = refl
drop_past [] (suc n) h = refl
drop_past (x ∷ xs) zero h = absurd (omega (arith, h))
drop_past (x ∷ xs) (suc n) h = drop_past xs n (omega (arith, h))

pub pairs_past : (vs : List Value) (p : Entry) (qs : List Entry) (n : ℕ) → length qs ≤ n → pairs_on vs p (drop n qs) ≡ true
pairs_past vs p qs n h = ap (pairs_on vs p) (drop_past qs n h)

pub congruent_past : (vs : List Value) (ps : List Entry) (n : ℕ) → length ps ≤ n → congruent vs (drop n ps) ≡ true
congruent_past vs ps n h = ap (congruent vs) (drop_past ps n h)

pub all_later : (base : ℕ) (nodes out : List TermNode) (es : List Entry) (out' : List TermNode) (others : List Entry) → Later out es out' es → AllKept base nodes out es others → AllKept base nodes out' es others
all_later base nodes out es out' others l h j e is = entry_later out es out' es l base nodes e (h j e is)
