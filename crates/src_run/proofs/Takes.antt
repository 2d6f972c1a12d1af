-- What is asked for next, and what taking it does.
use Rattle.std.proofs.Common.{◌≡◌, ◌↔◌, ℕ, zero, suc, ◌+◌, option_map, nat_eq, Bool, true, false, List, [], ◌∷◌, ◌++◌, map, drop, slice_get, None, Some, refl, sym, ap, ◌∙◌, subst, if◌then◌else◌, arith, IsTrue}
use Rattle.std.proofs.lemmas.Bool.Decides.{nat_tests}
use Rattle.std.proofs.lemmas.List.{map-append}
use Rattle.std.proofs.lemmas.Option.{slice_get-map}
use Rattle.hy_val.proofs.ResultSorts.{same_scalar_is}
use Rattle.hy_val.specs.Sorts.{same_scalar}
use Rattle.hy_val.specs.Table.{Table}
use Rattle.hy_val.specs.declared.atom.Atom.{Atom}
use Rattle.hy_val.specs.declared.atom.AtomKind.TheVariants.{Bool as BoolAtom, Bv as BvAtom}
use Rattle.hy_val.specs.declared.sort.Scalar.{Scalar}
use Rattle.hy_val.specs.declared.sort.ScalarKind.TheVariants.{Bool as BoolSort, Bv as BvSort}
use Rattle.hy_val.specs.declared.value.Value.{Value}
use Rattle.hy_val.specs.declared.value.Value.TheVariants.{Atom as AtomValue, Map as MapValue}
use Rattle.src_prog.specs.Program.{Program}
use Rattle.src_prog.specs.Scope.{locals_of, sorts_of}
use Rattle.src_prog.specs.declared.proc.Named.{Named}
use Rattle.src_prog.specs.declared.proc.SrcProc.{SrcProc}
use Rattle.src_run.specs.declared.choosing.Taken.{Taken}
use Rattle.src_run.specs.declared.choosing.Taken.TheVariants.{Const, Global, Local, Variable, To}
use Rattle.src_run.specs.declared.machine.Choice.{Choice}
use Rattle.src_run.specs.declared.machine.Status.TheVariants.{Blocked}
use Rattle.src_run.specs.declared.state.Asked.{Asked}
use Rattle.src_run.specs.Choosing.{is_const, asks_const, CanTest, CanTake, CanAccept, TakenFor}
use Rattle.src_run.specs.Machine.{Config, Want, AConst, AGlobal, ALocal, AVariable, ATarget, are_allowed, tested, with_status}
use Rattle.hy_val.specs.Stores.{same_atom, same_pairs, same_value}
use Rattle.src_run.specs.State.{want_of}
use Rattle.hy_val.proofs.Booleans.{and-first, and-second, and-both}
use Rattle.src_run.proofs.Runs.{either_way}

-- ---- equal values

nat_eq-refl : (n : ℕ) → nat_eq n n ≡ true
nat_eq-refl n = grind (arith, nat_tests)

nat_eq-is : (m n : ℕ) → nat_eq m n ≡ true → m ≡ n
nat_eq-is m n h = grind (arith, nat_tests)

scalar_self : (s : Scalar) → same_scalar s s ≡ true
scalar_self BoolSort = refl
scalar_self (BvSort w) = nat_eq-refl w

pub atom_self : (a : Atom) → same_atom a a ≡ true
atom_self (BoolAtom true) = refl
atom_self (BoolAtom false) = refl
atom_self (BvAtom a) = and-both (nat_eq a.width a.width) (nat_eq a.bits a.bits) (nat_eq-refl a.width) (nat_eq-refl a.bits)

pub atom_is : (a b : Atom) → same_atom a b ≡ true → a ≡ b
atom_is (BoolAtom true) (BoolAtom true) h = refl
atom_is (BoolAtom true) (BoolAtom false) h = cc
atom_is (BoolAtom false) (BoolAtom true) h = cc
atom_is (BoolAtom false) (BoolAtom false) h = refl
atom_is (BoolAtom a) (BvAtom b) h = cc
atom_is (BvAtom a) (BoolAtom b) h = cc
atom_is (BvAtom a) (BvAtom b) h =
    let width = nat_eq-is a.width b.width (and-first (nat_eq a.width b.width) _ h) in
    let bits = nat_eq-is a.bits b.bits (and-second (nat_eq a.width b.width) _ h) in
    ap (λ w. BvAtom (record { width = w; bits = a.bits })) width ∙ ap (λ n. BvAtom (record { width = b.width; bits = n })) bits

pairs_self : (ps : List (Atom × Atom)) → same_pairs ps ps ≡ true
pairs_self [] = refl
pairs_self (p ∷ ps) = and-both (same_atom p.0 p.0) _ (atom_self p.0) (and-both (same_atom p.1 p.1) _ (atom_self p.1) (pairs_self ps))

pair_is : (p q : Atom × Atom) → p.0 ≡ q.0 → p.1 ≡ q.1 → p ≡ q
pair_is p q e f = ap (λ (a : Atom). let r : Atom × Atom = (a, p.1) in r) e ∙ ap (λ (a : Atom). let r : Atom × Atom = (q.0, a) in r) f

pairs_are : (ps qs : List (Atom × Atom)) → same_pairs ps qs ≡ true → ps ≡ qs
pairs_are [] [] h = refl
pairs_are [] (q ∷ qs) h = cc
pairs_are (p ∷ ps) [] h = cc
pairs_are (p ∷ ps) (q ∷ qs) h =
    let e = atom_is p.0 q.0 (and-first (same_atom p.0 q.0) _ h) in
    let rest = and-second (same_atom p.0 q.0) _ h in
    let f = atom_is p.1 q.1 (and-first (same_atom p.1 q.1) _ rest) in
    let more = pairs_are ps qs (and-second (same_atom p.1 q.1) _ rest) in
    ap (λ r. r ∷ ps) (pair_is p q e f) ∙ ap (λ rs. q ∷ rs) more

value_self : (v : Value) → same_value v v ≡ true
value_self (AtomValue a) = atom_self a
value_self (MapValue m) = and-both (same_scalar m.index m.index) _ (scalar_self m.index) (and-both (same_scalar m.elem m.elem) _ (scalar_self m.elem) (pairs_self m.pairs))

table_is : (m n : Table) → m.index ≡ n.index → m.elem ≡ n.elem → m.pairs ≡ n.pairs → m ≡ n
table_is m n e f g =
    ap (λ (s : Scalar). let t : Table = record m { index = s } in t) e
    ∙ (ap (λ (s : Scalar). let t : Table = record { index = n.index; elem = s; pairs = m.pairs } in t) f
    ∙ ap (λ (ps : List (Atom × Atom)). let t : Table = record { index = n.index; elem = n.elem; pairs = ps } in t) g)

value_is : (v w : Value) → same_value v w ≡ true → v ≡ w
value_is (AtomValue a) (AtomValue b) h = ap AtomValue (atom_is a b h)
value_is (AtomValue a) (MapValue n) h = cc
value_is (MapValue m) (AtomValue b) h = cc
value_is (MapValue m) (MapValue n) h =
    let index = same_scalar_is m.index n.index (and-first (same_scalar m.index n.index) _ h) in
    let rest = and-second (same_scalar m.index n.index) _ h in
    let elem = same_scalar_is m.elem n.elem (and-first (same_scalar m.elem n.elem) _ rest) in
    ap MapValue (table_is m n index elem (pairs_are m.pairs n.pairs (and-second (same_scalar m.elem n.elem) _ rest)))

-- what tells whether two values are equal is the machine's test
pub same_agrees : (r : Bool) (v w : Value) → IsTrue r ↔ (v ≡ w) → r ≡ same_value v w
same_agrees true v w h = sym (subst (λ (u : Value). same_value v u ≡ true) (h.0 refl) (value_self v))
same_agrees false v w h = at (same_value v w) refl
  where
    at : (b : Bool) → same_value v w ≡ b → false ≡ same_value v w
    at true e = let wrong : false ≡ true = h.1 (value_is v w e) in cc
    at false e = sym e

-- ---- what is asked for

pub drop_some : {A : Type 0} (n : ℕ) (xs : List A) (x : A) → slice_get xs n ≡ Some x → drop n xs ≡ x ∷ drop (n + 1) xs
drop_some n [] x e = cc
drop_some zero (y ∷ ys) x e = let same : y ≡ x = cc in ap (λ z. z ∷ ys) same
drop_some (suc n) (y ∷ ys) x e = let more : suc n + 1 ≡ suc (n + 1) = omega arith in rw more (drop_some n ys x e)

pub drop_none : {A : Type 0} (n : ℕ) (xs : List A) → slice_get xs n ≡ None → drop n xs ≡ []
drop_none zero [] e = refl
drop_none (suc n) [] e = refl
drop_none zero (y ∷ ys) e = cc
drop_none (suc n) (y ∷ ys) e = drop_none n ys e

pub asks_some : (n : ℕ) (ws : List Asked) (w : Asked) → slice_get ws n ≡ Some w → asks_const (map want_of (drop n ws)) ≡ is_const (want_of w)
asks_some n ws w e = ap (λ us. asks_const (map want_of us)) (drop_some n ws w e)

pub asks_none : (n : ℕ) (ws : List Asked) → slice_get ws n ≡ None → asks_const (map want_of (drop n ws)) ≡ false
asks_none n ws e = ap (λ us. asks_const (map want_of us)) (drop_none n ws e)

-- ---- testing the constants

tested_by : (prog : Program) (c : Config) (ws : List Want) (P : Config → Type 0) → P c → P (if are_allowed prog c.consts then c else with_status c Blocked) → P (tested prog c ws)
tested_by prog c [] P h k = k
tested_by prog c (AConst sort ∷ ws) P h k = h
tested_by prog c (AGlobal sort ∷ ws) P h k = k
tested_by prog c (ALocal sort ∷ ws) P h k = k
tested_by prog c (AVariable x sort ∷ ws) P h k = k
tested_by prog c (ATarget targets ∷ ws) P h k = k

-- no frame is opened by it
pub tested_frames : (prog : Program) (c : Config) (ws : List Want) → (tested prog c ws).frames ≡ c.frames
tested_frames prog c ws = let P : Config → Type 0 = λ d. d.frames ≡ c.frames in tested_by prog c ws P refl (either_way P (are_allowed prog c.consts) c (with_status c Blocked) refl refl)

-- the test changes the status alone
tested_keeps : (prog : Program) (c : Config) (ws : List Want) → (((tested prog c ws).consts ≡ c.consts) × ((tested prog c ws).wants ≡ c.wants))
tested_keeps prog c ws =
    let P : Config → Type 0 = λ d. (d.consts ≡ c.consts) × (d.wants ≡ c.wants) in
    tested_by prog c ws P (refl, refl) (either_way P (are_allowed prog c.consts) c (with_status c Blocked) (refl, refl) (refl, refl))

pub can_test : (prog : Program) (c : Config) (ws : List Want) → CanTest prog (tested prog c ws) → CanTest prog c
can_test prog c ws h = let k = tested_keeps prog c ws in rw (k.0, k.1) at h

pub can_accept : (prog : Program) (bound index : ℕ) (c : Config) (choice : Choice) (want : Want) (rest : List Want) (taken : Taken) → CanTake prog bound index c choice → c.wants ≡ want ∷ rest → TakenFor want choice (Some taken) → CanAccept prog c rest taken
can_accept prog bound index c choice want rest (Const v) h e t =
    can_test prog (record c { consts = c.consts ++ v ∷ []; wants = rest }) rest (subst (CanTest prog) (t prog bound index c rest) (h want rest e))
can_accept prog bound index c choice want rest (Global v) h e t = tt
can_accept prog bound index c choice want rest (Local v) h e t = tt
can_accept prog bound index c choice want rest (Variable x v) h e t = tt
can_accept prog bound index c choice want rest (To to) h e t = tt

-- ---- locals

-- the sort of a local is that of its name
pub local_sort : (proc : SrcProc) (n : ℕ) → slice_get (locals_of proc) n ≡ option_map (λ (name : Named). name.sort) (slice_get (proc.ins ++ (proc.outs ++ proc.locals)) n)
local_sort proc n =
    let sorts : locals_of proc ≡ sorts_of (proc.ins ++ (proc.outs ++ proc.locals)) =
    ap (λ ss. sorts_of proc.ins ++ ss) (sym (map-append (λ (name : Named). name.sort) proc.outs proc.locals)) ∙ sym (map-append (λ (name : Named). name.sort) proc.ins (proc.outs ++ proc.locals)) in
    ap (λ ss. slice_get ss n) sorts ∙ slice_get-map (λ (name : Named). name.sort) (proc.ins ++ (proc.outs ++ proc.locals)) n
