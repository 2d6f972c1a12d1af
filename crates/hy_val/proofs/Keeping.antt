-- What evaluation keeps of the nodes stands for their values.
use Rattle.std.proofs.Common.{◌≡◌, ℕ, ◌+◌, ◌<◌, ◌≤◌, Bool, true, false, ◌&&◌, List, [], ◌∷◌, ◌++◌, length, arith, sym, ◌∙◌, ap, refl, subst, length-append}
use Rattle.std.specs.Prelude.{Option, None, Some, nat_eq, nat_lt, if◌then◌else◌, slice_get, IsTrue, IsSome}
use Rattle.std.specs.Option.{option_map}
use Rattle.std.proofs.lemmas.Option.{slice_get_past, slice_get_within}
use Rattle.std.proofs.lemmas.Bool.Decides.{nat_tests}
use Rattle.hy_val.specs.Sorts.{scalar_of, same_scalar, has_scalar, rank, zero_of_scalar}
use Rattle.hy_val.specs.Table.{Table}
use Rattle.hy_val.specs.Maps.{is_map, pairs_fit, ascends, select, stored}
use Rattle.hy_val.specs.Values.{sort_of, default, at, atom_of, table_of}
use Rattle.hy_val.specs.NodeSorts.{select_sort, store_sort}
use Rattle.hy_val.specs.Exprs.{node_by, read}
use Rattle.hy_val.specs.Kept.{meant, meant_onto, Writes, MayKeep, KeepsAt, Keeps, written, AllWritable, Layers}
use Rattle.hy_val.proofs.Lists.{slice_get-left, slice_get-seam, some_within}
use Rattle.hy_val.proofs.Tables.{both, right, zero_is, entry-put, stored-is_map}
use Rattle.hy_val.proofs.ResultSorts.{kept, same_scalar_self}
use Rattle.hy_val.proofs.Evaluating.{index_known, written_known, Evaluates, next_node}
use Rattle.hy_val.specs.declared.atom.Atom.{Atom}
use Rattle.hy_val.specs.declared.atom.AtomKind.TheVariants.{Bool as BoolAtom}
use Rattle.hy_val.specs.declared.value.Value.{Value}
use Rattle.hy_val.specs.declared.value.Value.TheVariants.{Atom as AtomValue, Map as MapValue}
use Rattle.hy_val.specs.declared.expr.Var.{Var}
use Rattle.hy_val.specs.declared.expr.Env.{Env}
use Rattle.hy_val.specs.declared.expr.ExprNode.{ExprNode}
use Rattle.hy_val.specs.declared.known.Kept.{Kept}
use Rattle.hy_val.specs.declared.known.Kept.TheVariants.{Atom as KeptAtom, Variable, Written}

-- ---- longer lists

pub at-left : (vs ws : List Value) (n : ℕ) → n < length vs → at (vs ++ ws) n ≡ at vs n
at-left vs ws n h = ap default (slice_get-left vs ws n h)

at-seam : (vs : List Value) (w : Value) → at (vs ++ w ∷ []) (length vs) ≡ w
at-seam vs w = ap default (slice_get-seam vs w)

pub length-meant : (env : Env) (known : List Value) (ks : List Kept) → length (meant_onto env known ks) ≡ length known + length ks
length-meant env known [] = omega arith
length-meant env known (k ∷ ks) =
    let one : length (known ++ meant env known k ∷ []) ≡ length known + 1 = length-append known (meant env known k ∷ []) in
    let rest : length (meant_onto env (known ++ meant env known k ∷ []) ks) ≡ length (known ++ meant env known k ∷ []) + length ks =
    length-meant env (known ++ meant env known k ∷ []) ks in
    omega arith

pub meant-push : (env : Env) (known : List Value) (ks : List Kept) (k : Kept)
    → meant_onto env known (ks ++ k ∷ []) ≡ meant_onto env known ks ++ meant env (meant_onto env known ks) k ∷ []
meant-push env known [] k = refl
meant-push env known (j ∷ ks) k = meant-push env (known ++ meant env known j ∷ []) ks k

-- ---- what stays while nodes are added

pub meant-stays : (env : Env) (vs ws : List Value) (n : ℕ) (k : Kept) → n ≤ length vs → MayKeep env vs n k → meant env (vs ++ ws) k ≡ meant env vs k
meant-stays env vs ws n (KeptAtom a) le may = refl
meant-stays env vs ws n (Variable x) le may = refl
meant-stays env vs ws n (Written under i v) le may =
    let within : under < length vs = omega (arith, le, may.below) in
    ap (λ (w : Value). MapValue (stored (table_of w) i v)) (at-left vs ws under within)

pub may-stays : (env : Env) (vs ws : List Value) (n : ℕ) (k : Kept) → n ≤ length vs → MayKeep env vs n k → MayKeep env (vs ++ ws) n k
may-stays env vs ws n (KeptAtom a) le may = may
may-stays env vs ws n (Variable x) le may = may
may-stays env vs ws n (Written under i v) le may =
    let within : under < length vs = omega (arith, le, may.below) in
    let same : at vs under ≡ at (vs ++ ws) under = sym (at-left vs ws under within) in
    record {
      below = may.below;
      map = may.map;
      is = sym same ∙ may.is;
      fits = may.fits;
      index = may.index;
      elem = may.elem;
    }

keeps-stays : (env : Env) (vs ws : List Value) (n : ℕ) (k : Kept) → n < length vs → KeepsAt env vs n k → KeepsAt env (vs ++ ws) n k
keeps-stays env vs ws n k less e =
    record {
      may = may-stays env vs ws n k (omega (arith, less)) e.may;
      is = at-left vs ws n less ∙ e.is ∙ sym (meant-stays env vs ws n k (omega (arith, less)) e.may);
    }

-- the new node, behind the others
new-keeps : (env : Env) (vs : List Value) (k : Kept) → MayKeep env vs (length vs) k → KeepsAt env (vs ++ meant env vs k ∷ []) (length vs) k
new-keeps env vs k may =
    record {
      may = may-stays env vs (meant env vs k ∷ []) (length vs) k (omega arith) may;
      is = at-seam vs (meant env vs k) ∙ sym (meant-stays env vs (meant env vs k ∷ []) (length vs) k (omega arith) may);
    }

is_less : (m n : ℕ) → nat_lt m n ≡ true → m < n
is_less m n h = grind (arith, nat_tests, h)

not_less : (m n : ℕ) → nat_lt m n ≡ false → n ≤ m
not_less m n h = grind (arith, nat_tests, h)

keeps-push_by : (less : Bool) (env : Env) (ks : List Kept) (vs : List Value) (new : Kept) (n : ℕ) (k : Kept) → nat_lt n (length ks) ≡ less → length vs ≡ length ks
    → ((m : ℕ) (j : Kept) → slice_get ks m ≡ Some j → KeepsAt env vs m j) → MayKeep env vs (length ks) new
    → slice_get (ks ++ new ∷ []) n ≡ Some k → KeepsAt env (vs ++ meant env vs new ∷ []) n k
keeps-push_by true env ks vs new n k test many each may there =
    let less : n < length ks = is_less n (length ks) test in
    keeps-stays env vs (meant env vs new ∷ []) n k (omega (arith, less, many)) (each n k (sym (slice_get-left ks (new ∷ []) n less) ∙ there))
keeps-push_by false env ks vs new n k test many each may there =
    let most : length ks ≤ n = not_less n (length ks) test in
    let within : n < length (ks ++ new ∷ []) = slice_get_within (ks ++ new ∷ []) n k there in
    let more : length (ks ++ new ∷ []) ≡ length ks + 1 = length-append ks (new ∷ []) in
    let last : n ≡ length ks = omega arith in
    let one : Some k ≡ Some new = sym there ∙ ap (λ (m : ℕ). slice_get (ks ++ new ∷ []) m) last ∙ slice_get-seam ks new in
    let same : new ≡ k = cc in
    let own : KeepsAt env (vs ++ meant env vs new ∷ []) (length vs) new =
    new-keeps env vs new (subst (λ (m : ℕ). MayKeep env vs m new) (sym many) may) in
    subst (λ (j : Kept). KeepsAt env (vs ++ meant env vs new ∷ []) n j) same
    (subst (λ (m : ℕ). KeepsAt env (vs ++ meant env vs new ∷ []) m new) (many ∙ sym last) own)

same_length : (env : Env) (ks : List Kept) → length (meant_onto env [] ks) ≡ length ks
same_length env ks = let many : length (meant_onto env [] ks) ≡ length {A = Value} [] + length ks = length-meant env [] ks in omega arith

pub keeps-push : (env : Env) (ks : List Kept) (new : Kept) → Keeps env ks → MayKeep env (meant_onto env [] ks) (length ks) new → Keeps env (ks ++ new ∷ [])
keeps-push env ks new keeps may =
    record {
      each = λ n k there.
          subst (λ (vs : List Value). KeepsAt env vs n k) (sym (meant-push env [] ks new))
          (keeps-push_by (nat_lt n (length ks)) env ks (meant_onto env [] ks) new n k refl (same_length env ks) keeps.each may there);
    }

pub keeps-none : (env : Env) → Keeps env []
keeps-none env = record { each = λ n k there. absurd (let no : None ≡ Some k → ⊥ = λ h. cc in no (sym (slice_get_past {X = Kept} [] n (omega arith)) ∙ there)) }

-- ---- a value that is kept is one of its sort

kept_map_value : (m : Table) → IsTrue (is_map m) → kept (MapValue m)
kept_map_value m h =
    both (same_scalar m.index m.index && same_scalar m.elem m.elem) (is_map m)
    (both (same_scalar m.index m.index) (same_scalar m.elem m.elem) (same_scalar_self m.index) (same_scalar_self m.elem)) h

pub may_kept : (env : Env) (vs : List Value) (n : ℕ) (k : Kept) → MayKeep env vs n k → kept (meant env vs k)
may_kept env vs n (KeptAtom a) may = may
may_kept env vs n (Variable x) may = subst (λ (o : Option Value). kept (default o)) (sym may.there) (kept_map_value may.map may.fits)
may_kept env vs n (Written under i v) may =
    subst (λ (w : Value). kept (MapValue (stored (table_of w) i v))) (sym may.is)
    (kept_map_value (stored may.map i v) (stored-is_map may.map i v may.fits may.index may.elem))

-- ---- the values of what is kept

pub none_known : (env : Env) (ks : List Kept) (n : ℕ) → slice_get ks n ≡ None → at (meant_onto env [] ks) n ≡ AtomValue (BoolAtom false)
none_known env ks n none = none_by (nat_lt n (length ks)) env ks n refl none
  where
    none_by : (less : Bool) (env : Env) (ks : List Kept) (n : ℕ) → nat_lt n (length ks) ≡ less → slice_get ks n ≡ None
        → at (meant_onto env [] ks) n ≡ AtomValue (BoolAtom false)
    none_by true env ks n test none = absurd (some_within ks n (is_less n (length ks) test) none)
    none_by false env ks n test none =
        let most : length ks ≤ n = not_less n (length ks) test in
        let many : length (meant_onto env [] ks) ≡ length {A = Value} [] + length ks = length-meant env [] ks in
        ap default (slice_get_past (meant_onto env [] ks) n (omega arith))

pub atom_known : (env : Env) (ks : List Kept) (n : ℕ) (a : Atom) → Keeps env ks → Some (KeptAtom a) ≡ slice_get ks n → a ≡ atom_of (at (meant_onto env [] ks) n)
atom_known env ks n a keeps there = ap atom_of (sym (keeps.each n (KeptAtom a) (sym there)).is)

pub atom_sorted : (env : Env) (ks : List Kept) (n : ℕ) (a : Atom) → Keeps env ks → Some (KeptAtom a) ≡ slice_get ks n → IsTrue (has_scalar a (scalar_of a))
atom_sorted env ks n a keeps there = (keeps.each n (KeptAtom a) (sym there)).may

pub atom_of_variable : (env : Env) (ks : List Kept) (n : ℕ) (x : Var) (r : Atom) → Keeps env ks → Some (Variable x) ≡ slice_get ks n → r ≡ BoolAtom false
    → r ≡ atom_of (at (meant_onto env [] ks) n)
atom_of_variable env ks n x r keeps there is =
    let e : KeepsAt env (meant_onto env [] ks) n (Variable x) = keeps.each n (Variable x) (sym there) in
    is ∙ sym (ap atom_of e.is ∙ ap (λ (o : Option Value). atom_of (default o)) e.may.there)

pub atom_of_written : (env : Env) (ks : List Kept) (n under : ℕ) (i v r : Atom) → Keeps env ks → Some (Written under i v) ≡ slice_get ks n → r ≡ BoolAtom false
    → r ≡ atom_of (at (meant_onto env [] ks) n)
atom_of_written env ks n under i v r keeps there is = is ∙ sym (ap atom_of (keeps.each n (Written under i v) (sym there)).is)

pub atom_of_none : (env : Env) (ks : List Kept) (n : ℕ) (r : Atom) → None ≡ slice_get ks n → r ≡ BoolAtom false → r ≡ atom_of (at (meant_onto env [] ks) n)
atom_of_none env ks n r there is = is ∙ sym (ap atom_of (none_known env ks n (sym there)))

pub same_known : (env : Env) (ks : List Kept) (n : ℕ) (k : Kept) → Keeps env ks → Some k ≡ slice_get ks n → meant env (meant_onto env [] ks) k ≡ at (meant_onto env [] ks) n
same_known env ks n k keeps there = sym (keeps.each n k (sym there)).is

lower_may : (env : Env) (vs : List Value) (n m : ℕ) (k : Kept) → n ≤ m → MayKeep env vs n k → MayKeep env vs m k
lower_may env vs n m (KeptAtom a) le may = may
lower_may env vs n m (Variable x) le may = may
lower_may env vs n m (Written under i v) le may =
    record { below = omega (arith, le, may.below); map = may.map; is = may.is; fits = may.fits; index = may.index; elem = may.elem }

pub same_may : (env : Env) (ks : List Kept) (n : ℕ) (k : Kept) → Keeps env ks → Some k ≡ slice_get ks n → MayKeep env (meant_onto env [] ks) (length ks) k
same_may env ks n k keeps there =
    let within : n < length ks = slice_get_within ks n k (sym there) in
    lower_may env (meant_onto env [] ks) n (length ks) k (omega (arith, within)) (keeps.each n k (sym there)).may

-- ---- down a chain of stores

select_by : (same : Bool) (x y : Atom) → (same ≡ true → ⊥) → (if same then x else y) ≡ y
select_by true x y h = absurd (h refl)
select_by false x y h = refl

select_on : (same : Bool) (x y : Atom) → same ≡ true → (if same then x else y) ≡ x
select_on true x y h = refl
select_on false x y h = cc

eq_is : (m n : ℕ) → m ≡ n → nat_eq m n ≡ true
eq_is m n h = grind (arith, nat_tests, h)

is_eq : (m n : ℕ) → nat_eq m n ≡ true → m ≡ n
is_eq m n h = grind (arith, nat_tests, h)

select-stored : (m : Table) (i v j : Atom) → IsTrue (is_map m) → IsTrue (has_scalar v m.elem)
    → select (stored m i v) j ≡ (if nat_eq (rank i) (rank j) then v else select m j)
select-stored m i v j h hv =
    entry-put (zero_of_scalar m.elem) v i m.pairs j (λ z. zero_is v m.elem hv z) (right (pairs_fit m.index m.elem m.pairs) (ascends m.pairs) h)

-- what select has found when it stands at a node
pub record Walks (env : Env) (ks : List Kept) (i : Atom) (from n : ℕ) : Type 0 where
  pub same : select (table_of (at (meant_onto env [] ks) n)) i ≡ select (table_of (at (meant_onto env [] ks) from)) i
  pub index : IsTrue (has_scalar i (table_of (at (meant_onto env [] ks) n)).index)

pub walk_begins : (env : Env) (ks : List Kept) (i : Atom) (from : ℕ) → IsTrue (has_scalar i (table_of (at (meant_onto env [] ks) from)).index) → Walks env ks i from from
walk_begins env ks i from h = record { same = refl; index = h }

written_is : (env : Env) (ks : List Kept) (n under : ℕ) (i v : Atom) → Keeps env ks → Some (Written under i v) ≡ slice_get ks n → KeepsAt env (meant_onto env [] ks) n (Written under i v)
written_is env ks n under i v keeps there = keeps.each n (Written under i v) (sym there)

-- the map of a node that writes, by the map below
written_table : (env : Env) (ks : List Kept) (n under : ℕ) (i v : Atom) (e : KeepsAt env (meant_onto env [] ks) n (Written under i v))
    → table_of (at (meant_onto env [] ks) n) ≡ stored e.may.map i v
written_table env ks n under i v e = ap table_of e.is ∙ ap (λ (w : Value). stored (table_of w) i v) e.may.is

pub walk_lower : (env : Env) (ks : List Kept) (n under : ℕ) (i v : Atom) → Keeps env ks → Some (Written under i v) ≡ slice_get ks n → under < n
walk_lower env ks n under i v keeps there = (written_is env ks n under i v keeps there).may.below

pub walk_found : (env : Env) (ks : List Kept) (j : Atom) (from n under : ℕ) (i v : Atom) → Keeps env ks → Some (Written under i v) ≡ slice_get ks n → rank i ≡ rank j
    → Walks env ks j from n → v ≡ select (table_of (at (meant_onto env [] ks) from)) j
walk_found env ks j from n under i v keeps there same w =
    let e : KeepsAt env (meant_onto env [] ks) n (Written under i v) = written_is env ks n under i v keeps there in
    sym (select_on (nat_eq (rank i) (rank j)) v (select e.may.map j) (eq_is (rank i) (rank j) same))
    ∙ sym (select-stored e.may.map i v j e.may.fits e.may.elem)
    ∙ sym (ap (λ (t : Table). select t j) (written_table env ks n under i v e)) ∙ w.same

pub walk_on : (env : Env) (ks : List Kept) (j : Atom) (from n under : ℕ) (i v : Atom) → Keeps env ks → Some (Written under i v) ≡ slice_get ks n → (rank i ≡ rank j → ⊥)
    → Walks env ks j from n → Walks env ks j from under
walk_on env ks j from n under i v keeps there other w =
    let e : KeepsAt env (meant_onto env [] ks) n (Written under i v) = written_is env ks n under i v keeps there in
    record {
      same =
          ap (λ (x : Value). select (table_of x) j) e.may.is
          ∙ sym (select_by (nat_eq (rank i) (rank j)) v (select e.may.map j) (λ t. other (is_eq (rank i) (rank j) t)))
          ∙ sym (select-stored e.may.map i v j e.may.fits e.may.elem)
          ∙ sym (ap (λ (t : Table). select t j) (written_table env ks n under i v e)) ∙ w.same;
      index =
          subst (λ (x : Value). IsTrue (has_scalar j (table_of x).index)) (sym e.may.is)
          (subst (λ (t : Table). IsTrue (has_scalar j t.index)) (written_table env ks n under i v e) w.index);
    }

pub walk_index : (env : Env) (ks : List Kept) (j : Atom) (from n : ℕ) (x : Var) → Keeps env ks → Some (Variable x) ≡ slice_get ks n → Walks env ks j from n
    → IsTrue (has_scalar j (table_of (read env x)).index)
walk_index env ks j from n x keeps there w =
    subst (λ (v : Value). IsTrue (has_scalar j (table_of v).index)) (keeps.each n (Variable x) (sym there)).is w.index

pub walk_variable : (env : Env) (ks : List Kept) (j : Atom) (from n : ℕ) (x : Var) (r : Atom) → Keeps env ks → Some (Variable x) ≡ slice_get ks n → Walks env ks j from n
    → r ≡ select (table_of (read env x)) j → r ≡ select (table_of (at (meant_onto env [] ks) from)) j
walk_variable env ks j from n x r keeps there w is =
    is ∙ sym (ap (λ (v : Value). select (table_of v) j) (keeps.each n (Variable x) (sym there)).is) ∙ w.same

pub walk_atom : (env : Env) (ks : List Kept) (j : Atom) (from n : ℕ) (a r : Atom) → Keeps env ks → Some (KeptAtom a) ≡ slice_get ks n → Walks env ks j from n
    → r ≡ BoolAtom false → r ≡ select (table_of (at (meant_onto env [] ks) from)) j
walk_atom env ks j from n a r keeps there w is =
    is ∙ sym (ap (λ (v : Value). select (table_of v) j) (keeps.each n (KeptAtom a) (sym there)).is) ∙ w.same

pub walk_none : (env : Env) (ks : List Kept) (j : Atom) (from n : ℕ) (r : Atom) → None ≡ slice_get ks n → Walks env ks j from n
    → r ≡ BoolAtom false → r ≡ select (table_of (at (meant_onto env [] ks) from)) j
walk_none env ks j from n r there w is = is ∙ sym (ap (λ (v : Value). select (table_of v) j) (none_known env ks n (sym there))) ∙ w.same

-- ---- what a select and a store ask

index_by : (o : Option Value) (i : Atom) → IsTrue (has_scalar i (scalar_of i)) → IsSome (select_sort (option_map sort_of o) (Some (scalar_of i)))
    → IsTrue (has_scalar i (table_of (default o)).index)
index_by None i k h = cc
index_by (Some (AtomValue a)) i k h = cc
index_by (Some (MapValue m)) i k h = index_known m i k h

pub select_index : (vs : List Value) (n : ℕ) (i : Atom) → IsTrue (has_scalar i (scalar_of i)) → IsSome (select_sort (option_map sort_of (slice_get vs n)) (Some (scalar_of i)))
    → IsTrue (has_scalar i (table_of (at vs n)).index)
select_index vs n i k h = index_by (slice_get vs n) i k h

kept_is_map : (k : Kept) (env : Env) (vs : List Value) (n : ℕ) (m : Table) → KeepsAt env vs n k → at vs n ≡ MapValue m → IsTrue (is_map m)
kept_is_map k env vs n m e is = map_kept (at vs n) m is (subst (λ (v : Value). kept v) (sym e.is) (may_kept env vs n k e.may))
  where
    map_kept : (v : Value) (m : Table) → v ≡ MapValue m → kept v → IsTrue (is_map m)
    map_kept v m is k =
        right (same_scalar m.index m.index && same_scalar m.elem m.elem) (is_map m) (subst (λ (w : Value). kept w) is k)

store_by : (o : Option Value) (env : Env) (ks : List Kept) (n : ℕ) (i v : Atom) → slice_get (meant_onto env [] ks) n ≡ o → Keeps env ks
    → IsTrue (has_scalar i (scalar_of i)) → IsTrue (has_scalar v (scalar_of v))
    → IsSome (store_sort (option_map sort_of o) (Some (scalar_of i)) (Some (scalar_of v))) → Writes (meant_onto env [] ks) (length ks) n i v
store_by None env ks n i v is keeps ki kv h = absurd (let no : IsSome (store_sort (option_map sort_of None) (Some (scalar_of i)) (Some (scalar_of v))) → ⊥ = λ x. cc in no h)
store_by (Some (AtomValue a)) env ks n i v is keeps ki kv h =
    absurd (let no : IsSome (store_sort (option_map sort_of (Some (AtomValue a))) (Some (scalar_of i)) (Some (scalar_of v))) → ⊥ = λ x. cc in no h)
store_by (Some (MapValue m)) env ks n i v is keeps ki kv h =
    let within : n < length (meant_onto env [] ks) = slice_get_within (meant_onto env [] ks) n (MapValue m) is in
    let many : length (meant_onto env [] ks) ≡ length {A = Value} [] + length ks = length-meant env [] ks in
    let less : n < length ks = omega arith in
    let here : at (meant_onto env [] ks) n ≡ MapValue m = ap default is in
    let fit : IsTrue (has_scalar i m.index) × IsTrue (has_scalar v m.elem) = written_known m i v ki kv h in
    record {
      below = less;
      map = m;
      is = here;
      fits = found (slice_get ks n) env ks n m refl less keeps here;
      index = fit.0;
      elem = fit.1;
    }
  where
    found : (o : Option Kept) (env : Env) (ks : List Kept) (n : ℕ) (m : Table) → slice_get ks n ≡ o → n < length ks → Keeps env ks
        → at (meant_onto env [] ks) n ≡ MapValue m → IsTrue (is_map m)
    found None env ks n m is less keeps here = absurd (some_within ks n less is)
    found (Some k) env ks n m is less keeps here = kept_is_map k env (meant_onto env [] ks) n m (keeps.each n k is) here

pub store_may : (env : Env) (ks : List Kept) (n : ℕ) (i v : Atom) → Keeps env ks → IsTrue (has_scalar i (scalar_of i)) → IsTrue (has_scalar v (scalar_of v))
    → IsSome (store_sort (option_map sort_of (slice_get (meant_onto env [] ks) n)) (Some (scalar_of i)) (Some (scalar_of v))) → Writes (meant_onto env [] ks) (length ks) n i v
store_may env ks n i v keeps ki kv h = store_by (slice_get (meant_onto env [] ks) n) env ks n i v refl keeps ki kv h

-- ---- a map with what stores write

written-push : (m : Table) (ps : List (Atom × Atom)) (i v : Atom) → written m (ps ++ (i, v) ∷ []) ≡ written (stored m i v) ps
written-push m [] i v = refl
written-push m (p ∷ ps) i v = ap (λ (t : Table). stored t p.0 p.1) (written-push m ps i v)

writable-push : (m : Table) (ps : List (Atom × Atom)) (i v : Atom) → AllWritable (stored m i v) ps → IsTrue (has_scalar i m.index) → IsTrue (has_scalar v m.elem)
    → AllWritable m (ps ++ (i, v) ∷ [])
writable-push m [] i v all hi hv = ((hi, hv), tt)
writable-push m (p ∷ ps) i v all hi hv = (all.0, writable-push m ps i v all.1 hi hv)

writable-pop : (m : Table) (ps : List (Atom × Atom)) (i v : Atom) → AllWritable m (ps ++ (i, v) ∷ [])
    → AllWritable (stored m i v) ps × IsTrue (has_scalar i m.index) × IsTrue (has_scalar v m.elem)
writable-pop m [] i v all = (tt, all.0.0, all.0.1)
writable-pop m (p ∷ ps) i v all = let more = writable-pop m ps i v all.1 in ((all.0, more.0), more.1, more.2)

-- what is left to write
pub record Remains (m : Table) (all : List (Atom × Atom)) (now : Table) (ps : List (Atom × Atom)) : Type 0 where
  pub same : written now ps ≡ written m all
  pub fit : AllWritable now ps

pub remains_all : (m now : Table) (ps : List (Atom × Atom)) → now ≡ m → AllWritable m ps → Remains m ps now ps
remains_all m now ps is fit = record { same = ap (λ (t : Table). written t ps) is; fit = subst (λ (t : Table). AllWritable t ps) (sym is) fit }

pub remains_next : (m : Table) (all : List (Atom × Atom)) (now next : Table) (before ps : List (Atom × Atom)) (i v : Atom)
    → Remains m all now before → before ≡ ps ++ (i, v) ∷ [] → next ≡ stored now i v → Remains m all next ps
remains_next m all now next before ps i v r split is =
    record {
      same = ap (λ (t : Table). written t ps) is ∙ sym (written-push now ps i v) ∙ sym (ap (λ qs. written now qs) split) ∙ r.same;
      fit = subst (λ (t : Table). AllWritable t ps) (sym is) (writable-pop now ps i v (subst (λ (qs : List (Atom × Atom)). AllWritable now qs) split r.fit)).0;
    }

pub remains_index : (m : Table) (all : List (Atom × Atom)) (now : Table) (before ps : List (Atom × Atom)) (i v : Atom)
    → Remains m all now before → before ≡ ps ++ (i, v) ∷ [] → IsTrue (has_scalar i now.index) × IsTrue (has_scalar v now.elem)
remains_index m all now before ps i v r split =
    let more = writable-pop now ps i v (subst (λ (qs : List (Atom × Atom)). AllWritable now qs) split r.fit) in (more.1, more.2)

pub remains_none : (m : Table) (all : List (Atom × Atom)) (now : Table) (before : List (Atom × Atom)) → Remains m all now before → before ≡ [] → now ≡ written m all
remains_none m all now before r none = sym (ap (λ qs. written now qs) none) ∙ r.same

-- what has been found when the search for the variable stands at a node
pub record Peels (env : Env) (ks : List Kept) (from n : ℕ) (ps : List (Atom × Atom)) : Type 0 where
  pub map : Table
  pub is : at (meant_onto env [] ks) n ≡ MapValue map
  pub same : table_of (at (meant_onto env [] ks) from) ≡ written map ps
  pub fit : AllWritable map ps

pub peel_begins : (env : Env) (ks : List Kept) (from : ℕ) → at (meant_onto env [] ks) from ≡ MapValue (table_of (at (meant_onto env [] ks) from)) → Peels env ks from from []
peel_begins env ks from is = record { map = table_of (at (meant_onto env [] ks) from); is = is; same = refl; fit = tt }

map_same : (m n : Table) → MapValue m ≡ MapValue n → m ≡ n
map_same m n h = cc

pub peel_on : (env : Env) (ks : List Kept) (from n under : ℕ) (i v : Atom) (ps qs : List (Atom × Atom)) → Keeps env ks → Some (Written under i v) ≡ slice_get ks n
    → Peels env ks from n ps → qs ≡ ps ++ (i, v) ∷ [] → Peels env ks from under qs
peel_on env ks from n under i v ps qs keeps there w more =
    let e : KeepsAt env (meant_onto env [] ks) n (Written under i v) = written_is env ks n under i v keeps there in
    let whole : w.map ≡ stored e.may.map i v = sym (ap table_of w.is) ∙ written_table env ks n under i v e in
    record {
      map = e.may.map;
      is = e.may.is;
      same = w.same ∙ ap (λ (t : Table). written t ps) whole ∙ sym (written-push e.may.map ps i v) ∙ sym (ap (λ xs. written e.may.map xs) more);
      fit =
          subst (λ (xs : List (Atom × Atom)). AllWritable e.may.map xs) (sym more)
          (writable-push e.may.map ps i v (subst (λ (t : Table). AllWritable t ps) whole w.fit) e.may.index e.may.elem);
    }

pub peel_ends : (env : Env) (ks : List Kept) (from n : ℕ) (x : Var) (ps : List (Atom × Atom)) → Keeps env ks → Some (Variable x) ≡ slice_get ks n → Peels env ks from n ps
    → Layers env (table_of (at (meant_onto env [] ks) from)) x ps
peel_ends env ks from n x ps keeps there w =
    let e : KeepsAt env (meant_onto env [] ks) n (Variable x) = keeps.each n (Variable x) (sym there) in
    let here : MapValue w.map ≡ MapValue e.may.map = sym w.is ∙ e.is ∙ ap default e.may.there in
    record { map = w.map; there = e.may.there ∙ ap Some (sym here); is = w.same; fit = w.fit }

pub peel_atom : (env : Env) (ks : List Kept) (from n : ℕ) (a : Atom) (ps : List (Atom × Atom)) → Keeps env ks → Some (KeptAtom a) ≡ slice_get ks n → Peels env ks from n ps → ⊥
peel_atom env ks from n a ps keeps there w =
    let e : KeepsAt env (meant_onto env [] ks) n (KeptAtom a) = keeps.each n (KeptAtom a) (sym there) in
    let one : MapValue w.map ≡ AtomValue a = sym w.is ∙ e.is in
    cc

pub peel_none : (env : Env) (ks : List Kept) (from n : ℕ) (ps : List (Atom × Atom)) → None ≡ slice_get ks n → Peels env ks from n ps → ⊥
peel_none env ks from n ps there w =
    let one : MapValue w.map ≡ AtomValue (BoolAtom false) = sym w.is ∙ none_known env ks n (sym there) in
    cc

-- ---- the whole value

pub variable_map : (env : Env) (ks : List Kept) (n : ℕ) (x : Var) → Keeps env ks → Some (Variable x) ≡ slice_get ks n
    → at (meant_onto env [] ks) n ≡ MapValue (table_of (at (meant_onto env [] ks) n))
variable_map env ks n x keeps there =
    let e : KeepsAt env (meant_onto env [] ks) n (Variable x) = keeps.each n (Variable x) (sym there) in
    let here : at (meant_onto env [] ks) n ≡ MapValue e.may.map = e.is ∙ ap default e.may.there in
    here ∙ sym (ap (λ (v : Value). MapValue (table_of v)) here)

pub written_map : (env : Env) (ks : List Kept) (n under : ℕ) (i v : Atom) → Keeps env ks → Some (Written under i v) ≡ slice_get ks n
    → at (meant_onto env [] ks) n ≡ MapValue (table_of (at (meant_onto env [] ks) n))
written_map env ks n under i v keeps there =
    let e : KeepsAt env (meant_onto env [] ks) n (Written under i v) = written_is env ks n under i v keeps there in
    e.is ∙ sym (ap (λ (x : Value). MapValue (table_of x)) e.is)

pub atom_value : (env : Env) (ks : List Kept) (n : ℕ) (a : Atom) → Keeps env ks → Some (KeptAtom a) ≡ slice_get ks n → AtomValue a ≡ at (meant_onto env [] ks) n
atom_value env ks n a keeps there = sym (keeps.each n (KeptAtom a) (sym there)).is

-- ---- over the nodes

-- what holds before each node: what is kept stands for the values of the nodes so far, and the rest fits behind them
pub record Stands (env : Env) (nodes : List ExprNode) (ks : List Kept) (rest : List ExprNode) : Type 0 where
  pub values : Evaluates env nodes (meant_onto env [] ks) rest
  pub keeps : Keeps env ks

-- one node further
pub stands_next : (env : Env) (nodes : List ExprNode) (ks ls xs : List Kept) (node : ExprNode) (rest : List ExprNode) (k : Kept)
    → Stands env nodes ks (node ∷ rest) → xs ≡ ks → ls ≡ ks ++ k ∷ []
    → meant env (meant_onto env [] xs) k ≡ node_by (read env) (meant_onto env [] xs) node → MayKeep env (meant_onto env [] xs) (length xs) k → Stands env nodes ls rest
stands_next env nodes ks ls xs node rest k s seen more is may =
    let v_is : meant env (meant_onto env [] ks) k ≡ node_by (read env) (meant_onto env [] ks) node =
    subst (λ (js : List Kept). meant env (meant_onto env [] js) k ≡ node_by (read env) (meant_onto env [] js) node) seen is in
    let fits : MayKeep env (meant_onto env [] ks) (length ks) k = subst (λ (js : List Kept). MayKeep env (meant_onto env [] js) (length js) k) seen may in
    record {
      values =
          subst (λ (vs : List Value). Evaluates env nodes vs rest) (sym (ap (λ (js : List Kept). meant_onto env [] js) more ∙ meant-push env [] ks k))
          (next_node env nodes (meant_onto env [] ks) node rest (meant env (meant_onto env [] ks) k) s.values v_is (may_kept env (meant_onto env [] ks) (length ks) k fits));
      keeps = subst (λ (js : List Kept). Keeps env js) (sym more) (keeps-push env ks k s.keeps fits);
    }
