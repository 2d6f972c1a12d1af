-- The commands that extraction adds: the call of a loop procedure, the test of an exit number, and its assignment.
use Rattle.std.proofs.Common.{◌≡◌, ℕ, zero, suc, ◌≤◌, ◌<◌, ◌^◌, ◌+◌, true, ◌&&◌, List, [], ◌∷◌, ◌++◌, map, length, drop, take, arith, sym, ◌∙◌, ap, refl, append_assoc, length-append}
use Rattle.std.proofs.lemmas.Bool.{eq-eqb, lt-ltb}
use Rattle.std.proofs.lemmas.List.{length-map}
use Rattle.std.specs.Prelude.{Option, Some, slice_get, slice_set}
use Rattle.hy_val.specs.Exprs.{eval}
use Rattle.hy_val.specs.Values.{has_sort, default, is_on, binary_value}
use Rattle.hy_val.specs.declared.expr.ExprNode.TheVariants.{Var as Read, Binary}
use Rattle.hy_val.specs.declared.expr.Var.{Var}
use Rattle.hy_val.specs.declared.expr.Var.TheVariants.{Local}
use Rattle.hy_val.specs.declared.operator.BvOp.TheVariants.{Eq}
use Rattle.hy_val.specs.declared.sort.Sort.{Sort}
use Rattle.hy_val.specs.declared.value.Value.{Value}
use Rattle.src_prog.specs.Program.{Program}
use Rattle.src_prog.specs.Scope.{sorts_of, locals_of}
use Rattle.src_prog.specs.declared.proc.Named.{Named}
use Rattle.src_prog.specs.declared.proc.SrcProc.{SrcProc}
use Rattle.hy_val.proofs.Booleans.{and-first, and-second, and-both}
use Rattle.hy_val.specs.Stores.{Store, write_all, holds}
use Rattle.src_run.specs.Machine.{outs_of as source_outs}
use Rattle.flat_prog.specs.Shape.{exit_sort}
use Rattle.flat_prog.specs.Local.{Result, Request, request, exit_value, outs_of, pass}
use Rattle.hy_val.specs.Stores.{env_with, have_sorts}
use Rattle.flat_prog.specs.Program.{FlatProgram}
use Rattle.flat_prog.specs.declared.proc.FlatProc.{FlatProc}
use Rattle.extract_law.proofs.Moving.{wide}
use Rattle.extract_def.proofs.Lookup.{get_right}
use Rattle.extract_def.specs.Extraction.{proc_of}
use Rattle.extract_def.specs.Renaming.{reads_of, locals_from, exit_number, set_exit}
use Rattle.extract_def.specs.declared.scope.Scope.TheVariants.{Whole, In}

pub have_length : (vs : List Value) (ss : List Sort) → have_sorts vs ss ≡ true → length vs ≡ length ss
have_length [] [] h = refl
have_length [] (s ∷ ss) h = absurd cc
have_length (v ∷ vs) [] h = absurd cc
have_length (v ∷ vs) (s ∷ ss) h = ap suc (have_length vs ss (and-second (has_sort v s) _ h))

pub have_both : (vs ws : List Value) (ss ts : List Sort) → have_sorts vs ss ≡ true → have_sorts ws ts ≡ true → have_sorts (vs ++ ws) (ss ++ ts) ≡ true
have_both [] ws [] ts h k = k
have_both [] ws (s ∷ ss) ts h k = absurd cc
have_both (v ∷ vs) ws [] ts h k = absurd cc
have_both (v ∷ vs) ws (s ∷ ss) ts h k = and-both (has_sort v s) (have_sorts (vs ++ ws) (ss ++ ts)) (and-first (has_sort v s) _ h) (have_both vs ws ss ts (and-second (has_sort v s) _ h) k)

-- an exit number that is small enough has its sort
pub exit_sorted : (x : ℕ) → x < 2 ^ 32 → have_sorts (exit_value x ∷ []) (exit_sort ∷ []) ≡ true
exit_sorted x h = ap (λ b. b && true) (lt-ltb x (2 ^ 32) h)

-- ---- arguments

one_more : (before ls others : List Value) (l : Value) → before ++ (l ∷ (ls ++ others)) ≡ (before ++ l ∷ []) ++ (ls ++ others)
one_more before ls others l = sym (append_assoc before (l ∷ []) (ls ++ others))

length_more : (before : List Value) (l : Value) → length (before ++ l ∷ []) ≡ length before + 1
length_more before l = length-append before (l ∷ [])

get_seam : (before rest : List Value) (l : Value) → slice_get (before ++ (l ∷ rest)) (length before) ≡ Some l
get_seam before rest l = let z : length before + 0 ≡ length before = omega arith in ap (slice_get (before ++ (l ∷ rest))) (sym z) ∙ get_right before (l ∷ rest) 0

reads_all : (consts globals before ls others : List Value) (sorts : List Sort) → length ls ≡ length sorts →
    map (eval (env_with consts (record { globals = globals; locals = before ++ (ls ++ others) }))) (reads_of (length before) sorts) ≡ ls
reads_all consts globals before [] others [] h = refl
reads_all consts globals before [] others (s ∷ ss) h = absurd (omega (arith, h))
reads_all consts globals before (l ∷ ls) others [] h = absurd (omega (arith, h))
reads_all consts globals before (l ∷ ls) others (s ∷ ss) h =
    let e : length ls ≡ length ss = omega (arith, h) in
    let ih = reads_all consts globals (before ++ l ∷ []) ls others ss e in
    let ih' : map (eval (env_with consts (record { globals = globals; locals = before ++ (l ∷ (ls ++ others)) }))) (reads_of (length before + 1) ss) ≡ ls =
    ap (λ (n : ℕ). map (eval (env_with consts (record { globals = globals; locals = before ++ (l ∷ (ls ++ others)) }))) (reads_of n ss)) (sym (length_more before l))
    ∙ (ap (λ (vs : List Value). map (eval (env_with consts (record { globals = globals; locals = vs }))) (reads_of (length (before ++ l ∷ [])) ss)) (one_more before ls others l) ∙ ih) in
    ap (λ v. v ∷ map (eval (env_with consts (record { globals = globals; locals = before ++ (l ∷ (ls ++ others)) }))) (reads_of (length before + 1) ss)) (ap default (get_seam before (ls ++ others) l))
    ∙ ap (λ vs. l ∷ vs) ih'

-- what a loop procedure is asked for: the globals, and the variables
pub loop_asks : (c by : ℕ) (sorts : List Sort) (consts before others : List Value) (store : Store) → length store.locals ≡ length sorts → length before ≡ by →
    request consts (wide before others store) c (reads_of by sorts) ≡ record { proc = c; globals = store.globals; args = store.locals }
loop_asks c by sorts consts before others store h e =
    ap (λ (n : ℕ). request consts (wide before others store) c (reads_of n sorts)) (sym e)
    ∙ ap (λ (vs : List Value). record { proc = c; globals = store.globals; args = vs }) (reads_all consts store.globals before store.locals others sorts h)

-- ---- targets

set_seam : (before rest : List Value) (l v : Value) → slice_set (before ++ (l ∷ rest)) (length before) v ≡ before ++ (v ∷ rest)
set_seam [] rest l v = refl
set_seam (b ∷ bs) rest l v = ap (λ vs. b ∷ vs) (set_seam bs rest l v)

writes_all : (globals before ls others vs ws : List Value) (xs : List Var) → length ls ≡ length vs →
    write_all (record { globals = globals; locals = before ++ (ls ++ others) }) (locals_from (length before) (length vs) ++ xs) (vs ++ ws) ≡ write_all (record { globals = globals; locals = before ++ (vs ++ others) }) xs ws
writes_all globals before [] others [] ws xs h = refl
writes_all globals before [] others (v ∷ vs) ws xs h = absurd (omega (arith, h))
writes_all globals before (l ∷ ls) others [] ws xs h = absurd (omega (arith, h))
writes_all globals before (l ∷ ls) others (v ∷ vs) ws xs h =
    let e : length ls ≡ length vs = omega (arith, h) in
    ap (λ (us : List Value). write_all (record { globals = globals; locals = us }) (locals_from (length before + 1) (length vs) ++ xs) (vs ++ ws)) (set_seam before (ls ++ others) l v ∙ one_more before ls others v)
    ∙ (ap (λ (n : ℕ). write_all (record { globals = globals; locals = (before ++ v ∷ []) ++ (ls ++ others) }) (locals_from n (length vs) ++ xs) (vs ++ ws)) (sym (length_more before v))
    ∙ (writes_all globals (before ++ v ∷ []) ls others vs ws xs e
    ∙ ap (λ (us : List Value). write_all (record { globals = globals; locals = us }) xs ws) (sym (one_more before vs others v))))

set_last : (before ls others : List Value) (v : Value) → length others ≡ 1 → slice_set (before ++ (ls ++ others)) (length before + length ls) v ≡ before ++ (ls ++ v ∷ [])
set_last before ls [] v h = absurd (omega (arith, h))
set_last before ls (o ∷ x ∷ os) v h = absurd (omega (arith, h))
set_last before ls (o ∷ []) v h =
    let n = length-append before ls in
    ap (λ (vs : List Value). slice_set vs (length before + length ls) v) (sym (append_assoc before ls (o ∷ [])))
    ∙ (ap (λ (k : ℕ). slice_set ((before ++ ls) ++ o ∷ []) k v) (sym n)
    ∙ (set_seam (before ++ ls) [] o v ∙ append_assoc before ls (v ∷ [])))

-- what comes back from a loop procedure: the variables, and the exit number
pub loop_gets : (by : ℕ) (sorts : List Sort) (before others : List Value) (x : Value) (store after : Store) → length others ≡ 1 → length store.locals ≡ length sorts → length after.locals ≡ length sorts → length before ≡ by →
    write_all (record { globals = after.globals; locals = before ++ (store.locals ++ others) }) (locals_from by (length sorts) ++ Local (by + length sorts) ∷ []) (after.locals ++ x ∷ []) ≡ wide before (x ∷ []) after
loop_gets by sorts before others x store after one old new e =
    let same : length store.locals ≡ length after.locals = omega (arith, old, new) in
    ap (λ (n : ℕ). write_all (record { globals = after.globals; locals = before ++ (store.locals ++ others) }) (locals_from n (length sorts) ++ Local (n + length sorts) ∷ []) (after.locals ++ x ∷ [])) (sym e)
    ∙ (ap (λ (n : ℕ). write_all (record { globals = after.globals; locals = before ++ (store.locals ++ others) }) (locals_from (length before) n ++ Local (length before + n) ∷ []) (after.locals ++ x ∷ [])) (sym new)
    ∙ (writes_all after.globals before store.locals others after.locals (x ∷ []) (Local (length before + length after.locals) ∷ []) same
    ∙ ap (λ (vs : List Value). record { globals = after.globals; locals = vs }) (set_last before after.locals others x one)))

-- ---- the exit number

pub get_last : (before ls : List Value) (v : Value) → slice_get (before ++ (ls ++ v ∷ [])) (length before + length ls) ≡ Some v
get_last before ls v =
    let n = length-append before ls in
    ap (λ (vs : List Value). slice_get vs (length before + length ls)) (sym (append_assoc before ls (v ∷ [])))
    ∙ (ap (λ (k : ℕ). slice_get ((before ++ ls) ++ v ∷ []) k) (sym n) ∙ get_seam (before ++ ls) [] v)

pub exit_holds : (local x : ℕ) (consts before : List Value) (store : Store) → local ≡ length before + length store.locals →
    holds (env_with consts (wide before (exit_value x ∷ []) store)) (Read (Local local) exit_sort ∷ exit_number x ∷ Binary Eq 0 1 ∷ []) ≡ true
exit_holds local x consts before store e =
    let g = ap (λ (k : ℕ). slice_get (before ++ (store.locals ++ exit_value x ∷ [])) k) e ∙ get_last before store.locals (exit_value x) in
    ap (λ (o : Option Value). is_on (binary_value Eq (default o) (exit_value x))) g ∙ eq-eqb x x refl

pub exit_set : (out : FlatProgram) (code : FlatProc) (local x : ℕ) (consts before others : List Value) (store : Store) (vs : List Value) (rs : List Result) (cs : List Request) → length others ≡ 1 → local ≡ length before + length store.locals →
    pass out code consts (set_exit local x) (record { store = wide before others store; values = vs; results = rs; calls = cs }) ≡ Some (record { store = wide before (exit_value x ∷ []) store; values = vs; results = rs; calls = cs })
exit_set out code local x consts before others store vs rs cs one e =
    ap (λ (n : ℕ). pass out code consts (set_exit n x) (record { store = wide before others store; values = vs; results = rs; calls = cs })) e
    ∙ ap (λ (ls : List Value). Some (record { store = record { globals = store.globals; locals = ls }; values = vs; results = rs; calls = cs })) (set_last before store.locals others (exit_value x) one)

-- ---- outs

drop_all : (before rest : List Value) → drop (length before) (before ++ rest) ≡ rest
drop_all [] rest = refl
drop_all (b ∷ bs) rest = drop_all bs rest

take_all : (vs : List Value) → take (length vs) vs ≡ vs
take_all [] = refl
take_all (v ∷ vs) = ap (λ ws. v ∷ ws) (take_all vs)

pub loop_outs : (prog : Program) (p : ℕ) (q : SrcProc) (head exit : ℕ) (before locals : List Value) (x : Value) → length locals ≡ length (locals_of q) → length before ≡ length (locals_of q) →
    outs_of (proc_of prog p q (In head exit)) (before ++ (locals ++ x ∷ [])) ≡ locals ++ x ∷ []
loop_outs prog p q head exit before locals x h e =
    let n = length-append (locals_of q) (exit_sort ∷ []) in let m = length-append locals (x ∷ []) in
    let same : length (locals_of q ++ exit_sort ∷ []) ≡ length (locals ++ x ∷ []) = omega (arith, n, m, h) in
    ap (λ (k : ℕ). take k (drop (length (locals_of q)) (before ++ (locals ++ x ∷ [])))) same
    ∙ (ap (λ (k : ℕ). take (length (locals ++ x ∷ [])) (drop k (before ++ (locals ++ x ∷ [])))) (sym e)
    ∙ (ap (take (length (locals ++ x ∷ []))) (drop_all before (locals ++ x ∷ [])) ∙ take_all (locals ++ x ∷ [])))

take_left : (n : ℕ) (vs ws : List Value) → n ≤ length vs → take n (vs ++ ws) ≡ take n vs
take_left zero [] ws h = refl
take_left zero (v ∷ vs) ws h = refl
take_left (suc n) [] ws h = absurd (omega (arith, h))
take_left (suc n) (v ∷ vs) ws h = ap (λ us. v ∷ us) (take_left n vs ws (omega (arith, h)))

drop_left : (n : ℕ) (vs ws : List Value) → n ≤ length vs → drop n (vs ++ ws) ≡ drop n vs ++ ws
drop_left zero [] ws h = refl
drop_left zero (v ∷ vs) ws h = refl
drop_left (suc n) [] ws h = absurd (omega (arith, h))
drop_left (suc n) (v ∷ vs) ws h = drop_left n vs ws (omega (arith, h))

drop_length : (n : ℕ) (vs : List Value) → n ≤ length vs → length (drop n vs) + n ≡ length vs
drop_length zero [] h = refl
drop_length zero (v ∷ vs) h = let e : length (v ∷ vs) + 0 ≡ length (v ∷ vs) = omega arith in e
drop_length (suc n) [] h = absurd (omega (arith, h))
drop_length (suc n) (v ∷ vs) h = let k = drop_length n vs (omega (arith, h)) in omega (arith, k)

pub whole_outs : (prog : Program) (p : ℕ) (q : SrcProc) (others locals : List Value) → length locals ≡ length (locals_of q) → outs_of (proc_of prog p q Whole) (locals ++ others) ≡ source_outs q locals
whole_outs prog p q others locals h =
    let name = λ (n : Named). n.sort in
    let i = length-map q.ins name in let o = length-map q.outs name in
    let a = length-append (sorts_of q.ins) (sorts_of q.outs ++ sorts_of q.locals) in let b = length-append (sorts_of q.outs) (sorts_of q.locals) in
    let ins : length q.ins ≤ length locals = omega (arith, i, a, h) in
    let d = drop_length (length q.ins) locals ins in
    let outs : length q.outs ≤ length (drop (length q.ins) locals) = omega (arith, i, o, a, b, h, d) in
    ap (λ (k : ℕ). take k (drop (length (sorts_of q.ins)) (locals ++ others))) o
    ∙ (ap (λ (k : ℕ). take (length q.outs) (drop k (locals ++ others))) i
    ∙ (ap (take (length q.outs)) (drop_left (length q.ins) locals others ins) ∙ take_left (length q.outs) (drop (length q.ins) locals) others outs))
