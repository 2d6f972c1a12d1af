-- Where items fail, the commands do.
use Rattle.std.proofs.Common.{◌≡◌, ℕ, ◌+◌, Bool, true, false, not, ◌||◌, List, [], ◌∷◌, ◌++◌, map, sym, ◌∙◌, ap, refl, append_assoc}
use Rattle.std.specs.Prelude.{if◌then◌else◌}
use Rattle.hy_val.specs.Values.{is_on}
use Rattle.hy_val.specs.declared.value.Value.{Value}
use Rattle.hy_val.specs.declared.expr.Env.{Env}
use Rattle.flat_prog.specs.declared.block.FlatCmd.{FlatCmd}
use Rattle.flat_prog.specs.declared.block.FlatCmd.TheVariants.{Assign, Havoc, Assume, Assert, Call}
use Rattle.flat_prog.specs.declared.proc.FlatProc.{FlatProc}
use Rattle.passive_form.specs.Limited.{Limited}
use Rattle.passive_form.specs.Local.{changed_sorts, State, alone, pass}
use Rattle.flat_prog.specs.Local.{Result, Ended, Broken, Request}
use Rattle.vc_gen.specs.Breaking.{bad_call, breaks_at, test_some, breaks}
use Rattle.passive_form.specs.declared.Item.{Item}
use Rattle.passive_form.specs.Versions.{Cur, env_of, Defined, hold, outs_from, after_from, taken_values, taken_results, made_calls}
use Rattle.passive_form.specs.Making.{callee_outs, items_of, cur_after, next_after, items_all}
use Rattle.passive_form.specs.Laws.{cmd_there, cmds_there, outcome}
use Rattle.passive_form.proofs.Passing.{eval_is, defined_left, defined_right, pass_is, values_append, results_append}
use Rattle.vc_gen.specs.Items.{on_end, fails_in}
use Rattle.vc_gen.proofs.Joining.{fails_append, and_first, and_second}
use Rattle.vc_gen.proofs.Stepping.{on_is}
use Rattle.vc_gen.proofs.Failing.{broken, fails_or, off_broken, lets_whole, frees_whole}

bad_result : (b : Bool) (os gs : List Value) (rest : List Result) → bad_call ((if b then Broken 0 0 else Ended os gs) ∷ rest) ≡ b
bad_result true os gs rest = refl
bad_result false os gs rest = refl

-- one command, whose items take what they take
breaks_one : (flat : Limited) (q : FlatProc) (consts : List Value) (vals : ℕ → Value) (cur : Cur) (at k : ℕ) (c : FlatCmd) (vs : List Value) (rs : List Result) (calls : List Request) →
    broken consts vals true (items_of flat q cur at k c) ≡ breaks_at c (alone (env_of consts vals cur) vs (taken_results vals (items_of flat q cur at k c) ++ rs) calls)
breaks_one flat q consts vals cur at k (Assign pairs) vs rs calls = lets_whole consts vals cur k pairs
breaks_one flat q consts vals cur at k (Havoc xs) vs rs calls = frees_whole flat q consts vals k xs
breaks_one flat q consts vals cur at k (Assume e) vs rs calls = refl
breaks_one flat q consts vals cur at k (Assert p n e) vs rs calls = ap (λ x. not (is_on x)) (eval_is consts vals cur e)
breaks_one flat q consts vals cur at k (Call p args outs) vs rs calls =
    sym (bad_result (is_on (vals k)) (map vals (outs_from k (callee_outs flat p))) (map vals (after_from k (callee_outs flat p) (changed_sorts flat p))) rs)

rest_is : (f : State → Bool) (h b : Bool) (e : Env) (vs : List Value) (rs : List Result) (cs : List Request) (consts : List Value) (vals : ℕ → Value) (ys : List Item) → broken consts vals true ys ≡ f (alone e vs rs cs) →
    broken consts vals h ys ≡ test_some f (outcome h e vs rs cs)
rest_is f true b e vs rs cs consts vals ys k = k
rest_is f false b e vs rs cs consts vals ys k = off_broken consts vals ys

pub breaks_is : (flat : Limited) (q : FlatProc) (consts : List Value) (vals : ℕ → Value) (cur : Cur) (at k : ℕ) (cmds : List FlatCmd) (vs : List Value) (rs : List Result) (calls : List Request) →
    cmds_there flat q cmds ≡ true → Defined consts vals (items_all flat q cur at k cmds) →
    broken consts vals true (items_all flat q cur at k cmds)
    ≡ breaks flat q cmds (alone (env_of consts vals cur) (taken_values vals (items_all flat q cur at k cmds) ++ vs) (taken_results vals (items_all flat q cur at k cmds) ++ rs) calls)
breaks_is flat q consts vals cur at k [] vs rs calls t h = refl
breaks_is flat q consts vals cur at k (c ∷ cs) vs rs calls t h =
    let xs = items_of flat q cur at k c in
    let next = cur_after flat cur k c in
    let ys = items_all flat q next (at + 1) (next_after flat k c) cs in
    let env = env_of consts vals cur in
    let ws = taken_values vals ys ++ vs in
    let ts = taken_results vals ys ++ rs in
    let more = calls ++ made_calls consts vals xs in
    let vs_are : taken_values vals (xs ++ ys) ++ vs ≡ taken_values vals xs ++ ws = ap (λ x. x ++ vs) (values_append vals xs ys) ∙ append_assoc (taken_values vals xs) (taken_values vals ys) vs in
    let rs_are : taken_results vals (xs ++ ys) ++ rs ≡ taken_results vals xs ++ ts = ap (λ x. x ++ rs) (results_append vals xs ys) ∙ append_assoc (taken_results vals xs) (taken_results vals ys) rs in
    let go = breaks_is flat q consts vals next (at + 1) (next_after flat k c) cs vs rs more (and_second (cmd_there flat q c) (cmds_there flat q cs) t) (defined_right consts vals xs ys h) in
    let s : State = alone env (taken_values vals xs ++ ws) (taken_results vals xs ++ ts) calls in
    let rest : broken consts vals (on_end consts vals true xs) ys ≡ test_some (breaks flat q cs) (pass flat q c s) =
    ap (λ x. broken consts vals x ys) (on_is consts vals true xs)
    ∙ rest_is (breaks flat q cs) (hold consts vals xs) true (env_of consts vals next) ws ts more consts vals ys go
    ∙ ap (test_some (breaks flat q cs)) (sym (pass_is flat q consts vals cur at k c ws ts calls (and_first (cmd_there flat q c) (cmds_there flat q cs) t) (defined_left consts vals xs ys h))) in
    fails_append consts vals true false xs ys ∙ fails_or consts vals (on_end consts vals true xs) (fails_in consts vals true false xs) ys
    ∙ ap (λ x. x || broken consts vals (on_end consts vals true xs) ys) (breaks_one flat q consts vals cur at k c (taken_values vals xs ++ ws) ts calls)
    ∙ ap (λ x. breaks_at c s || x) rest
    ∙ ap (λ x. breaks flat q (c ∷ cs) (alone env x (taken_results vals xs ++ ts) calls)) (sym vs_are)
    ∙ ap (λ x. breaks flat q (c ∷ cs) (alone env (taken_values vals (xs ++ ys) ++ vs) x calls)) (sym rs_are)
