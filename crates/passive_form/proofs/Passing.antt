-- Commands do on variables what their passive form says of versions.
use Rattle.std.proofs.Common.{◌≡◌, ℕ, ◌+◌, ◌-◌, ◌<◌, zero, suc, Bool, true, false, not, ◌&&◌, List, [], ◌∷◌, ◌++◌, map, length, arith, sym, ◌∙◌, ap, refl, subst, append-nil, append_assoc, length-append}
use Rattle.std.specs.Prelude.{Option, None, Some, if◌then◌else◌, slice_get, slice_set, is_some, IsTrue}
use Rattle.std.specs.List.{list_all}
use Rattle.std.specs.Option.{option_and_then, option_map}
use Rattle.std.proofs.lemmas.Option.{slice_get-map}
use Rattle.hy_val.specs.Exprs.{eval, eval_by, read}
use Rattle.hy_val.specs.Laws.{renamed, AgreeOn}
use Rattle.hy_val.specs.Values.{zero_of, has_sort, default, is_on}
use Rattle.hy_val.specs.declared.sort.Sort.{Sort}
use Rattle.hy_val.specs.declared.value.Value.{Value}
use Rattle.hy_val.specs.declared.expr.Var.{Var}
use Rattle.hy_val.specs.declared.expr.Var.TheVariants.{Const, Global, Local}
use Rattle.hy_val.specs.declared.expr.Env.{Env}
use Rattle.hy_val.specs.declared.expr.ExprNode.{ExprNode}
use Rattle.hy_val.specs.declared.expr.ExprNode.TheVariants.{Lit, Var as Read, Unary, Binary, If, Select, Store}
use Rattle.hy_val.proofs.Booleans.{and-first, and-second}
use Rattle.hy_val.proofs.Lawful.{renaming, only_variables}
use Rattle.flat_prog.specs.declared.block.FlatCmd.{FlatCmd}
use Rattle.flat_prog.specs.declared.block.FlatCmd.TheVariants.{Assign, Havoc, Assume, Assert, Call}
use Rattle.flat_prog.specs.declared.proc.FlatProc.{FlatProc}
use Rattle.passive_form.specs.Limited.{Limited}
use Rattle.passive_form.specs.Local.{State, alone, sort_of, sorted_as, replaced, changed_sorts, after_call, result_fits, targets_of, write, write_all, assigned, havoc, havoc_with, come_back, request, pass, pass_all}
use Rattle.flat_prog.specs.Local.{Result, Ended, Broken, Request}
use Rattle.hy_val.specs.Stores.{is_value_of, holds}
use Rattle.passive_form.specs.Laws.{outcome, targets_there, cmd_there, cmds_there, ItemsSay}
use Rattle.passive_form.specs.declared.Item.{Item}
use Rattle.passive_form.specs.declared.Item.TheVariants.{Let, Zero, Free, Need, Check, Site}
use Rattle.passive_form.specs.Versions.{Cur, look_at, env_of, from, outs_from, after_from, Defined, hold, taken_values, site_result, taken_results, eval_all, made_call, made_calls}
use Rattle.passive_form.specs.Making.{version_or, version_of, over_versions, set_version, set_versions, lets, sort_or, frees, callee_outs, callee_changes, items_of, cur_after, next_after, items_all, cur_end}

-- readings that agree everywhere
pub agree_all : (look other : Var → Value) → ((x : Var) → look x ≡ other x) → (nodes : List ExprNode) → AgreeOn look other nodes
agree_all look other h [] = tt
agree_all look other h (Lit a ∷ nodes) = agree_all look other h nodes
agree_all look other h (Read x sort ∷ nodes) = (h x, agree_all look other h nodes)
agree_all look other h (Unary op c ∷ nodes) = agree_all look other h nodes
agree_all look other h (Binary op l r ∷ nodes) = agree_all look other h nodes
agree_all look other h (If c y n ∷ nodes) = agree_all look other h nodes
agree_all look other h (Select m i ∷ nodes) = agree_all look other h nodes
agree_all look other h (Store m i v ∷ nodes) = agree_all look other h nodes

-- a version's value is the variable's
version_value : (consts : List Value) (vals : ℕ → Value) (x : Var) (o : Option ℕ) → look_at consts vals (version_or x o) ≡ default (option_map vals o)
version_value consts vals x None = refl
version_value consts vals x (Some v) = refl

var_is : (consts : List Value) (vals : ℕ → Value) (cur : Cur) (x : Var) → look_at consts vals (version_of cur x) ≡ read (env_of consts vals cur) x
var_is consts vals cur (Const n) = refl
var_is consts vals cur (Global n) = version_value consts vals (Global n) (slice_get cur.globals n) ∙ ap default (sym (slice_get-map vals cur.globals n))
var_is consts vals cur (Local n) = version_value consts vals (Local n) (slice_get cur.locals n) ∙ ap default (sym (slice_get-map vals cur.locals n))

pub eval_is : (consts : List Value) (vals : ℕ → Value) (cur : Cur) (e : List ExprNode) → eval_by (look_at consts vals) (over_versions cur e) ≡ eval (env_of consts vals cur) e
eval_is consts vals cur e =
    let r = renaming (version_of cur) (look_at consts vals) e in
    r.value
    ∙ only_variables (λ x. look_at consts vals (version_of cur x)) (read (env_of consts vals cur)) e (agree_all (λ x. look_at consts vals (version_of cur x)) (read (env_of consts vals cur)) (var_is consts vals cur) e)

-- writing
map_set : (f : ℕ → Value) (xs : List ℕ) (n v : ℕ) → map f (slice_set xs n v) ≡ slice_set (map f xs) n (f v)
map_set f [] n v = refl
map_set f (x ∷ xs) zero v = refl
map_set f (x ∷ xs) (suc n) v = ap (λ ys. f x ∷ ys) (map_set f xs n v)

set_is : (consts : List Value) (vals : ℕ → Value) (cur : Cur) (x : Var) (v : ℕ) → env_of consts vals (set_version cur x v) ≡ write (env_of consts vals cur) x (vals v)
set_is consts vals cur (Const n) v = refl
set_is consts vals cur (Global n) v = ap {B = Env} (λ gs. record { consts = consts; globals = gs; locals = map vals cur.locals }) (map_set vals cur.globals n v)
set_is consts vals cur (Local n) v = ap {B = Env} (λ ls. record { consts = consts; globals = map vals cur.globals; locals = ls }) (map_set vals cur.locals n v)

pub sets_are : {A : Type 0} (consts : List Value) (vals : ℕ → Value) (cur : Cur) (xs : List Var) (ys : List A) (k : ℕ) → env_of consts vals (set_versions cur xs ys k) ≡ write_all (env_of consts vals cur) xs (map vals (from k ys))
sets_are consts vals cur [] ys k = refl
sets_are consts vals cur (x ∷ xs) [] k = refl
sets_are consts vals cur (x ∷ xs) (y ∷ ys) k =
    sets_are consts vals (set_version cur x k) xs ys (k + 1)
    ∙ ap (λ env. write_all env xs (map vals (from (k + 1) ys))) (set_is consts vals cur x k)

assigned_are : (consts : List Value) (vals : ℕ → Value) (cur : Cur) (k : ℕ) (pairs : List (Var × List ExprNode)) → Defined consts vals (lets cur k pairs) →
    assigned (env_of consts vals cur) pairs ≡ map vals (from k pairs)
assigned_are consts vals cur k [] h = refl
assigned_are consts vals cur k (pair ∷ pairs) (v, h) =
    ap (λ x. x ∷ assigned (env_of consts vals cur) pairs) (sym (v ∙ eval_is consts vals cur pair.1))
    ∙ ap (λ xs. vals k ∷ xs) (assigned_are consts vals cur (k + 1) pairs h)

lets_hold : (consts : List Value) (vals : ℕ → Value) (cur : Cur) (k : ℕ) (pairs : List (Var × List ExprNode)) → hold consts vals (lets cur k pairs) ≡ true
lets_hold consts vals cur k [] = refl
lets_hold consts vals cur k (pair ∷ pairs) = lets_hold consts vals cur (k + 1) pairs

lets_values : (vals : ℕ → Value) (cur : Cur) (k : ℕ) (pairs : List (Var × List ExprNode)) → taken_values vals (lets cur k pairs) ≡ []
lets_values vals cur k [] = refl
lets_values vals cur k (pair ∷ pairs) = lets_values vals cur (k + 1) pairs

lets_results : (vals : ℕ → Value) (cur : Cur) (k : ℕ) (pairs : List (Var × List ExprNode)) → taken_results vals (lets cur k pairs) ≡ []
lets_results vals cur k [] = refl
lets_results vals cur k (pair ∷ pairs) = lets_results vals cur (k + 1) pairs

lets_calls : (consts : List Value) (vals : ℕ → Value) (cur : Cur) (k : ℕ) (pairs : List (Var × List ExprNode)) → made_calls consts vals (lets cur k pairs) ≡ []
lets_calls consts vals cur k [] = refl
lets_calls consts vals cur k (pair ∷ pairs) = lets_calls consts vals cur (k + 1) pairs

frees_hold : (flat : Limited) (q : FlatProc) (consts : List Value) (vals : ℕ → Value) (k : ℕ) (xs : List Var) → hold consts vals (frees flat q k xs) ≡ true
frees_hold flat q consts vals k [] = refl
frees_hold flat q consts vals k (x ∷ xs) = frees_hold flat q consts vals (k + 1) xs

frees_results : (flat : Limited) (q : FlatProc) (vals : ℕ → Value) (k : ℕ) (xs : List Var) → taken_results vals (frees flat q k xs) ≡ []
frees_results flat q vals k [] = refl
frees_results flat q vals k (x ∷ xs) = frees_results flat q vals (k + 1) xs

frees_calls : (flat : Limited) (q : FlatProc) (consts : List Value) (vals : ℕ → Value) (k : ℕ) (xs : List Var) → made_calls consts vals (frees flat q k xs) ≡ []
frees_calls flat q consts vals k [] = refl
frees_calls flat q consts vals k (x ∷ xs) = frees_calls flat q consts vals (k + 1) xs

sort_there : (o : Option Sort) (v : Value) → is_some o ≡ true → has_sort v (sort_or o) ≡ true → is_value_of o v ≡ true
sort_there None v h k = cc
sort_there (Some s) v h k = k

havoc_is : (flat : Limited) (q : FlatProc) (consts : List Value) (vals : ℕ → Value) (env : Env) (k : ℕ) (xs : List Var) (vs : List Value) (rs : List Result) (calls : List Request) →
    targets_there flat q xs ≡ true → Defined consts vals (frees flat q k xs) →
    havoc flat q xs (alone env (taken_values vals (frees flat q k xs) ++ vs) rs calls) ≡ Some (alone (write_all env xs (map vals (from k xs))) vs rs calls)
havoc_is flat q consts vals env k [] vs rs calls t h = refl
havoc_is flat q consts vals env k (x ∷ xs) vs rs calls t (s, h) =
    ap (λ b. option_and_then (havoc flat q xs) (if b then Some (alone (write env x (vals k)) (taken_values vals (frees flat q (k + 1) xs) ++ vs) rs calls) else None))
    (sort_there (sort_of flat q x) (vals k) (and-first (is_some (sort_of flat q x)) (targets_there flat q xs) t) s)
    ∙ havoc_is flat q consts vals (write env x (vals k)) (k + 1) xs vs rs calls (and-second (is_some (sort_of flat q x)) (targets_there flat q xs) t) h

args_are : (consts : List Value) (vals : ℕ → Value) (cur : Cur) (args : List (List ExprNode)) → eval_all (look_at consts vals) (map (over_versions cur) args) ≡ map (eval (env_of consts vals cur)) args
args_are consts vals cur [] = refl
args_are consts vals cur (e ∷ es) =
    ap (λ x. x ∷ eval_all (look_at consts vals) (map (over_versions cur) es)) (eval_is consts vals cur e)
    ∙ ap (λ xs. eval (env_of consts vals cur) e ∷ xs) (args_are consts vals cur es)

pub map_replaced : {A B : Type 0} (f : A → B) (ms : List Bool) (xs ys : List A) → map f (replaced ms xs ys) ≡ replaced ms (map f xs) (map f ys)
map_replaced f [] xs ys = refl
map_replaced f (m ∷ ms) [] ys = refl
map_replaced f (true ∷ ms) (x ∷ xs) [] = refl
map_replaced f (true ∷ ms) (x ∷ xs) (y ∷ ys) = ap (λ r. f y ∷ r) (map_replaced f ms xs ys)
map_replaced f (false ∷ ms) (x ∷ xs) ys = ap (λ r. f x ∷ r) (map_replaced f ms xs ys)

come_back_is : (flat : Limited) (failed : Bool) (s : State) (call : Request) (outs : List Var) (os gs : List Value) (rs : List Result) → result_fits flat call.proc os gs ≡ true →
    come_back flat s call outs ((if failed then Broken 0 0 else Ended os gs) ∷ rs) ≡ outcome (not failed && true) (write_all (after_call flat call.proc s.env gs) outs os) s.values rs (s.calls ++ call ∷ [])
come_back_is flat true s call outs os gs rs fit = refl
come_back_is flat false s call outs os gs rs fit = ap (λ b. if b then Some (alone (write_all (after_call flat call.proc s.env gs) outs os) s.values rs (s.calls ++ call ∷ [])) else None) fit

test_is : (a b : Bool) (s : State) → b ≡ a → (if a then Some s else None) ≡ (if b && true then Some s else None)
test_is true b s h = ap (λ x. if x && true then Some s else None) (sym h)
test_is false b s h = ap (λ x. if x && true then Some s else None) (sym h)

same_outcome : (a b : Bool) (e f : Env) (vs : List Value) (rs : List Result) (c d : List Request) → a ≡ b → e ≡ f → c ≡ d → outcome a e vs rs c ≡ outcome b f vs rs d
same_outcome a b e f vs rs c d p q r = ap (λ x. outcome x e vs rs c) p ∙ ap (λ x. outcome b x vs rs c) q ∙ ap (λ x. outcome b f vs rs x) r

pub pass_is : (flat : Limited) (q : FlatProc) (consts : List Value) (vals : ℕ → Value) (cur : Cur) (at k : ℕ) (c : FlatCmd) (vs : List Value) (rs : List Result) (calls : List Request) →
    cmd_there flat q c ≡ true → Defined consts vals (items_of flat q cur at k c) →
    pass flat q c (alone (env_of consts vals cur) (taken_values vals (items_of flat q cur at k c) ++ vs) (taken_results vals (items_of flat q cur at k c) ++ rs) calls)
    ≡ outcome (hold consts vals (items_of flat q cur at k c)) (env_of consts vals (cur_after flat cur k c)) vs rs (calls ++ made_calls consts vals (items_of flat q cur at k c))
pass_is flat q consts vals cur at k (Assign pairs) vs rs calls t h =
    let env = env_of consts vals cur in
    ap (λ x. pass flat q (Assign pairs) (alone env (x ++ vs) (taken_results vals (lets cur k pairs) ++ rs) calls)) (lets_values vals cur k pairs)
    ∙ ap (λ x. pass flat q (Assign pairs) (alone env vs (x ++ rs) calls)) (lets_results vals cur k pairs)
    ∙ ap (λ x. Some (alone (write_all env (targets_of pairs) x) vs rs calls)) (assigned_are consts vals cur k pairs h)
    ∙ same_outcome true (hold consts vals (lets cur k pairs)) (write_all env (targets_of pairs) (map vals (from k pairs))) (env_of consts vals (set_versions cur (targets_of pairs) pairs k)) vs rs
    calls (calls ++ made_calls consts vals (lets cur k pairs))
    (sym (lets_hold consts vals cur k pairs)) (sym (sets_are consts vals cur (targets_of pairs) pairs k)) (sym (append-nil calls) ∙ ap (λ x. calls ++ x) (sym (lets_calls consts vals cur k pairs)))
pass_is flat q consts vals cur at k (Havoc xs) vs rs calls t h =
    let env = env_of consts vals cur in
    ap (λ x. havoc flat q xs (alone env (taken_values vals (frees flat q k xs) ++ vs) (x ++ rs) calls)) (frees_results flat q vals k xs)
    ∙ havoc_is flat q consts vals env k xs vs rs calls t h
    ∙ same_outcome true (hold consts vals (frees flat q k xs)) (write_all env xs (map vals (from k xs))) (env_of consts vals (set_versions cur xs xs k)) vs rs
    calls (calls ++ made_calls consts vals (frees flat q k xs))
    (sym (frees_hold flat q consts vals k xs)) (sym (sets_are consts vals cur xs xs k)) (sym (append-nil calls) ∙ ap (λ x. calls ++ x) (sym (frees_calls flat q consts vals k xs)))
pass_is flat q consts vals cur at k (Assume e) vs rs calls t h =
    test_is (holds (env_of consts vals cur) e) (is_on (eval_by (look_at consts vals) (over_versions cur e))) (alone (env_of consts vals cur) vs rs calls) (ap is_on (eval_is consts vals cur e))
    ∙ ap (λ x. outcome (is_on (eval_by (look_at consts vals) (over_versions cur e)) && true) (env_of consts vals cur) vs rs x) (sym (append-nil calls))
pass_is flat q consts vals cur at k (Assert p n e) vs rs calls t h =
    test_is (holds (env_of consts vals cur) e) (is_on (eval_by (look_at consts vals) (over_versions cur e))) (alone (env_of consts vals cur) vs rs calls) (ap is_on (eval_is consts vals cur e))
    ∙ ap (λ x. outcome (is_on (eval_by (look_at consts vals) (over_versions cur e)) && true) (env_of consts vals cur) vs rs x) (sym (append-nil calls))
pass_is flat q consts vals cur at k (Call p args outs) vs rs calls t (fit, h) =
    let env = env_of consts vals cur in
    let own = callee_outs flat p in
    let os = map vals (outs_from k own) in
    let gs = map vals (after_from k own (changed_sorts flat p)) in
    let call : Request = record { proc = p; globals = map vals cur.globals; args = map (eval env) args } in
    come_back_is flat (is_on (vals k)) (alone env vs (site_result vals k own (changed_sorts flat p) ∷ rs) calls) call outs os gs rs fit
    ∙ same_outcome (not (is_on (vals k)) && true) (not (is_on (vals k)) && true)
    (write_all (after_call flat p env gs) outs os) (env_of consts vals (cur_after flat cur k (Call p args outs))) vs rs
    (calls ++ call ∷ []) (calls ++ made_calls consts vals (items_of flat q cur at k (Call p args outs)))
    refl
    (ap {B = Env} (λ (x : List Value). write_all (record { consts = consts; globals = x; locals = map vals cur.locals }) outs os) (sym (map_replaced vals (callee_changes flat p) cur.globals (after_from k own (changed_sorts flat p))))
    ∙ sym (sets_are consts vals (record { globals = replaced (callee_changes flat p) cur.globals (after_from k own (changed_sorts flat p)); locals = cur.locals }) outs own (k + 1)))
    (ap (λ (x : List Value). calls ++ record { proc = p; globals = map vals cur.globals; args = x } ∷ []) (sym (args_are consts vals cur args)))

-- ---- lists of items

pub values_append : (vals : ℕ → Value) (xs ys : List Item) → taken_values vals (xs ++ ys) ≡ taken_values vals xs ++ taken_values vals ys
values_append vals [] ys = refl
values_append vals (Let v e ∷ xs) ys = values_append vals xs ys
values_append vals (Zero v s ∷ xs) ys = values_append vals xs ys
values_append vals (Free v s ∷ xs) ys = ap (λ x. vals v ∷ x) (values_append vals xs ys)
values_append vals (Need e ∷ xs) ys = values_append vals xs ys
values_append vals (Check p e ∷ xs) ys = values_append vals xs ys
values_append vals (Site p f args before outs changes after ∷ xs) ys = values_append vals xs ys

pub results_append : (vals : ℕ → Value) (xs ys : List Item) → taken_results vals (xs ++ ys) ≡ taken_results vals xs ++ taken_results vals ys
results_append vals [] ys = refl
results_append vals (Let v e ∷ xs) ys = results_append vals xs ys
results_append vals (Zero v s ∷ xs) ys = results_append vals xs ys
results_append vals (Free v s ∷ xs) ys = results_append vals xs ys
results_append vals (Need e ∷ xs) ys = results_append vals xs ys
results_append vals (Check p e ∷ xs) ys = results_append vals xs ys
results_append vals (Site p f args before outs changes after ∷ xs) ys = ap (λ x. site_result vals f outs after ∷ x) (results_append vals xs ys)

pub calls_append : (consts : List Value) (vals : ℕ → Value) (xs ys : List Item) → made_calls consts vals (xs ++ ys) ≡ made_calls consts vals xs ++ made_calls consts vals ys
calls_append consts vals [] ys = refl
calls_append consts vals (Let v e ∷ xs) ys = calls_append consts vals xs ys
calls_append consts vals (Zero v s ∷ xs) ys = calls_append consts vals xs ys
calls_append consts vals (Free v s ∷ xs) ys = calls_append consts vals xs ys
calls_append consts vals (Need e ∷ xs) ys = calls_append consts vals xs ys
calls_append consts vals (Check p e ∷ xs) ys = calls_append consts vals xs ys
calls_append consts vals (Site p f args before outs changes after ∷ xs) ys = ap (λ x. made_call consts vals p args before ∷ x) (calls_append consts vals xs ys)

and_assoc : (a b c : Bool) → (a && (b && c)) ≡ ((a && b) && c)
and_assoc true b c = refl
and_assoc false b c = refl

pub hold_append : (consts : List Value) (vals : ℕ → Value) (xs ys : List Item) → hold consts vals (xs ++ ys) ≡ (hold consts vals xs && hold consts vals ys)
hold_append consts vals [] ys = refl
hold_append consts vals (Let v e ∷ xs) ys = hold_append consts vals xs ys
hold_append consts vals (Zero v s ∷ xs) ys = hold_append consts vals xs ys
hold_append consts vals (Free v s ∷ xs) ys = hold_append consts vals xs ys
hold_append consts vals (Need e ∷ xs) ys =
    ap (λ x. is_on (eval_by (look_at consts vals) e) && x) (hold_append consts vals xs ys) ∙ and_assoc (is_on (eval_by (look_at consts vals) e)) (hold consts vals xs) (hold consts vals ys)
hold_append consts vals (Check p e ∷ xs) ys =
    ap (λ x. is_on (eval_by (look_at consts vals) e) && x) (hold_append consts vals xs ys) ∙ and_assoc (is_on (eval_by (look_at consts vals) e)) (hold consts vals xs) (hold consts vals ys)
hold_append consts vals (Site p f args before outs changes after ∷ xs) ys =
    ap (λ x. not (is_on (vals f)) && x) (hold_append consts vals xs ys) ∙ and_assoc (not (is_on (vals f))) (hold consts vals xs) (hold consts vals ys)

pub defined_left : (consts : List Value) (vals : ℕ → Value) (xs ys : List Item) → Defined consts vals (xs ++ ys) → Defined consts vals xs
defined_left consts vals [] ys h = tt
defined_left consts vals (Let v e ∷ xs) ys (a, h) = (a, defined_left consts vals xs ys h)
defined_left consts vals (Zero v s ∷ xs) ys (a, h) = (a, defined_left consts vals xs ys h)
defined_left consts vals (Free v s ∷ xs) ys (a, h) = (a, defined_left consts vals xs ys h)
defined_left consts vals (Need e ∷ xs) ys h = defined_left consts vals xs ys h
defined_left consts vals (Check p e ∷ xs) ys h = defined_left consts vals xs ys h
defined_left consts vals (Site p f args before outs changes after ∷ xs) ys (a, h) = (a, defined_left consts vals xs ys h)

pub defined_right : (consts : List Value) (vals : ℕ → Value) (xs ys : List Item) → Defined consts vals (xs ++ ys) → Defined consts vals ys
defined_right consts vals [] ys h = h
defined_right consts vals (Let v e ∷ xs) ys (a, h) = defined_right consts vals xs ys h
defined_right consts vals (Zero v s ∷ xs) ys (a, h) = defined_right consts vals xs ys h
defined_right consts vals (Free v s ∷ xs) ys (a, h) = defined_right consts vals xs ys h
defined_right consts vals (Need e ∷ xs) ys h = defined_right consts vals xs ys h
defined_right consts vals (Check p e ∷ xs) ys h = defined_right consts vals xs ys h
defined_right consts vals (Site p f args before outs changes after ∷ xs) ys (a, h) = defined_right consts vals xs ys h

pub defined_append : (consts : List Value) (vals : ℕ → Value) (xs ys : List Item) → Defined consts vals xs → Defined consts vals ys → Defined consts vals (xs ++ ys)
defined_append consts vals [] ys h k = k
defined_append consts vals (Let v e ∷ xs) ys (a, h) k = (a, defined_append consts vals xs ys h k)
defined_append consts vals (Zero v s ∷ xs) ys (a, h) k = (a, defined_append consts vals xs ys h k)
defined_append consts vals (Free v s ∷ xs) ys (a, h) k = (a, defined_append consts vals xs ys h k)
defined_append consts vals (Need e ∷ xs) ys h k = defined_append consts vals xs ys h k
defined_append consts vals (Check p e ∷ xs) ys h k = defined_append consts vals xs ys h k
defined_append consts vals (Site p f args before outs changes after ∷ xs) ys (a, h) k = (a, defined_append consts vals xs ys h k)

-- on after the first command
go_on : (a b : Bool) (f : State → Option State) (env over : Env) (vs ws : List Value) (rs ts : List Result) (calls more : List Request) →
    f (alone env vs rs calls) ≡ outcome b over ws ts more → option_and_then f (outcome a env vs rs calls) ≡ outcome (a && b) over ws ts more
go_on true b f env over vs ws rs ts calls more h = h
go_on false b f env over vs ws rs ts calls more h = refl

-- the commands of a block do on the variables what its items say of the versions
pub pass_all_is : (flat : Limited) (q : FlatProc) (consts : List Value) (vals : ℕ → Value) (cur : Cur) (at k : ℕ) (cmds : List FlatCmd) (vs : List Value) (rs : List Result) (calls : List Request) →
    cmds_there flat q cmds ≡ true → Defined consts vals (items_all flat q cur at k cmds) →
    pass_all flat q cmds (alone (env_of consts vals cur) (taken_values vals (items_all flat q cur at k cmds) ++ vs) (taken_results vals (items_all flat q cur at k cmds) ++ rs) calls)
    ≡ outcome (hold consts vals (items_all flat q cur at k cmds)) (env_of consts vals (cur_end flat cur k cmds)) vs rs (calls ++ made_calls consts vals (items_all flat q cur at k cmds))
pass_all_is flat q consts vals cur at k [] vs rs calls t h = ap (λ x. Some (alone (env_of consts vals cur) vs rs x)) (sym (append-nil calls))
pass_all_is flat q consts vals cur at k (c ∷ cs) vs rs calls t h =
    let xs = items_of flat q cur at k c in
    let next = cur_after flat cur k c in
    let ys = items_all flat q next (at + 1) (next_after flat k c) cs in
    let env = env_of consts vals next in
    let over = env_of consts vals (cur_end flat next (next_after flat k c) cs) in
    let ws = taken_values vals ys ++ vs in
    let ts = taken_results vals ys ++ rs in
    ap (λ x. pass_all flat q (c ∷ cs) (alone (env_of consts vals cur) x (taken_results vals (xs ++ ys) ++ rs) calls)) (ap (λ x. x ++ vs) (values_append vals xs ys) ∙ append_assoc (taken_values vals xs) (taken_values vals ys) vs)
    ∙ ap (λ x. pass_all flat q (c ∷ cs) (alone (env_of consts vals cur) (taken_values vals xs ++ ws) x calls)) (ap (λ x. x ++ rs) (results_append vals xs ys) ∙ append_assoc (taken_results vals xs) (taken_results vals ys) rs)
    ∙ ap (option_and_then (pass_all flat q cs)) (pass_is flat q consts vals cur at k c ws ts calls (and-first (cmd_there flat q c) (cmds_there flat q cs) t) (defined_left consts vals xs ys h))
    ∙ go_on (hold consts vals xs) (hold consts vals ys) (pass_all flat q cs) env over ws vs ts rs (calls ++ made_calls consts vals xs) (calls ++ (made_calls consts vals xs ++ made_calls consts vals ys))
    (pass_all_is flat q consts vals next (at + 1) (next_after flat k c) cs vs rs (calls ++ made_calls consts vals xs) (and-second (cmd_there flat q c) (cmds_there flat q cs) t) (defined_right consts vals xs ys h)
    ∙ ap (λ x. outcome (hold consts vals ys) over vs rs x) (append_assoc calls (made_calls consts vals xs) (made_calls consts vals ys)))
    ∙ same_outcome (hold consts vals xs && hold consts vals ys) (hold consts vals (xs ++ ys)) over over vs rs
    (calls ++ (made_calls consts vals xs ++ made_calls consts vals ys)) (calls ++ made_calls consts vals (xs ++ ys))
    (sym (hold_append consts vals xs ys)) refl (ap (λ x. calls ++ x) (sym (calls_append consts vals xs ys)))

pub items_say : ItemsSay
items_say = λ flat q consts vals cur at k cmds vs rs calls there defined. pass_all_is flat q consts vals cur at k cmds vs rs calls there defined
