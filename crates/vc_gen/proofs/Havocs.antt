-- What items take where the run comes to them is what the commands take.
use Rattle.std.proofs.Common.{◌≡◌, ℕ, ◌+◌, Bool, true, false, List, [], ◌∷◌, ◌++◌, length, take, sym, ◌∙◌, ap, refl, append_assoc}
use Rattle.hy_val.specs.declared.value.Value.{Value}
use Rattle.hy_val.specs.declared.expr.Env.{Env}
use Rattle.hy_val.specs.declared.expr.Var.{Var}
use Rattle.hy_val.specs.declared.expr.ExprNode.{ExprNode}
use Rattle.flat_prog.specs.declared.block.FlatCmd.{FlatCmd}
use Rattle.flat_prog.specs.declared.block.FlatCmd.TheVariants.{Assign, Havoc, Assume, Assert, Call}
use Rattle.flat_prog.specs.declared.proc.FlatProc.{FlatProc}
use Rattle.flat_prog.specs.Local.{Result, Request}
use Rattle.passive_form.specs.Limited.{Limited}
use Rattle.passive_form.specs.Local.{State, alone, pass}
use Rattle.passive_form.specs.declared.Item.{Item}
use Rattle.passive_form.specs.declared.Item.TheVariants.{Let, Zero, Free, Need, Check, Site}
use Rattle.passive_form.specs.Versions.{Cur, env_of, Defined, hold, taken_values, taken_results, made_calls}
use Rattle.passive_form.specs.Making.{lets, frees, items_of, cur_after, next_after, items_all}
use Rattle.passive_form.specs.Laws.{cmd_there, cmds_there, outcome}
use Rattle.passive_form.proofs.Passing.{defined_left, defined_right, pass_is, values_append, results_append}
use Rattle.vc_gen.specs.Taken.{frees_in, taken_at, taken_behind, values_on}
use Rattle.vc_gen.proofs.Joining.{and_first, and_second}
use Rattle.vc_gen.proofs.Stepping.{on_is}
use Rattle.vc_gen.proofs.Taking.{frees_append}

-- where the run isn't, nothing is taken
pub off_frees : (consts : List Value) (vals : ℕ → Value) (items : List Item) → frees_in consts vals false items ≡ []
off_frees consts vals [] = refl
off_frees consts vals (Let v e ∷ items) = off_frees consts vals items
off_frees consts vals (Zero v s ∷ items) = off_frees consts vals items
off_frees consts vals (Free v s ∷ items) = off_frees consts vals items
off_frees consts vals (Need e ∷ items) = off_frees consts vals items
off_frees consts vals (Check p e ∷ items) = off_frees consts vals items
off_frees consts vals (Site p f args before outs changes after ∷ items) = off_frees consts vals items

lets_none : (consts : List Value) (vals : ℕ → Value) (cur : Cur) (k : ℕ) (pairs : List (Var × List ExprNode)) → frees_in consts vals true (lets cur k pairs) ≡ []
lets_none consts vals cur k [] = refl
lets_none consts vals cur k (pair ∷ pairs) = lets_none consts vals cur (k + 1) pairs

frees_all : (flat : Limited) (q : FlatProc) (consts : List Value) (vals : ℕ → Value) (k : ℕ) (xs : List Var) (ws : List Value) → frees_in consts vals true (frees flat q k xs) ≡ take (length xs) (taken_values vals (frees flat q k xs) ++ ws)
frees_all flat q consts vals k [] ws = refl
frees_all flat q consts vals k (x ∷ xs) ws = ap (λ r. vals k ∷ r) (frees_all flat q consts vals (k + 1) xs ws)

one_values : (flat : Limited) (q : FlatProc) (consts : List Value) (vals : ℕ → Value) (cur : Cur) (at k : ℕ) (c : FlatCmd) (ws : List Value) (rs : List Result) (calls : List Request) →
    frees_in consts vals true (items_of flat q cur at k c) ≡ taken_at c (alone (env_of consts vals cur) (taken_values vals (items_of flat q cur at k c) ++ ws) rs calls)
one_values flat q consts vals cur at k (Assign pairs) ws rs calls = lets_none consts vals cur k pairs
one_values flat q consts vals cur at k (Havoc xs) ws rs calls = frees_all flat q consts vals k xs ws
one_values flat q consts vals cur at k (Assume e) ws rs calls = refl
one_values flat q consts vals cur at k (Assert p n e) ws rs calls = refl
one_values flat q consts vals cur at k (Call p args outs) ws rs calls = refl

pub on_values : (flat : Limited) (q : FlatProc) (consts : List Value) (vals : ℕ → Value) (cur : Cur) (at k : ℕ) (cmds : List FlatCmd) (vs : List Value) (rs : List Result) (calls : List Request) → cmds_there flat q cmds ≡ true →
    Defined consts vals (items_all flat q cur at k cmds) →
    frees_in consts vals true (items_all flat q cur at k cmds)
    ≡ values_on flat q cmds (alone (env_of consts vals cur) (taken_values vals (items_all flat q cur at k cmds) ++ vs) (taken_results vals (items_all flat q cur at k cmds) ++ rs) calls)
on_values flat q consts vals cur at k [] vs rs calls t h = refl
on_values flat q consts vals cur at k (c ∷ cs) vs rs calls t h =
    let xs = items_of flat q cur at k c in
    let next = cur_after flat cur k c in
    let ys = items_all flat q next (at + 1) (next_after flat k c) cs in
    let env = env_of consts vals cur in
    let ws = taken_values vals ys ++ vs in
    let ts = taken_results vals ys ++ rs in
    let more = calls ++ made_calls consts vals xs in
    let vs_are : taken_values vals (xs ++ ys) ++ vs ≡ taken_values vals xs ++ ws = ap (λ x. x ++ vs) (values_append vals xs ys) ∙ append_assoc (taken_values vals xs) (taken_values vals ys) vs in
    let rs_are : taken_results vals (xs ++ ys) ++ rs ≡ taken_results vals xs ++ ts = ap (λ x. x ++ rs) (results_append vals xs ys) ∙ append_assoc (taken_results vals xs) (taken_results vals ys) rs in
    let go = on_values flat q consts vals next (at + 1) (next_after flat k c) cs vs rs more (and_second (cmd_there flat q c) (cmds_there flat q cs) t) (defined_right consts vals xs ys h) in
    let s : State = alone env (taken_values vals xs ++ ws) (taken_results vals xs ++ ts) calls in
    let moved : pass flat q c s ≡ outcome (hold consts vals xs) (env_of consts vals next) ws ts more =
    pass_is flat q consts vals cur at k c ws ts calls (and_first (cmd_there flat q c) (cmds_there flat q cs) t) (defined_left consts vals xs ys h) in
    frees_append consts vals true xs ys ∙ ap (λ b. frees_in consts vals true xs ++ frees_in consts vals b ys) (on_is consts vals true xs)
    ∙ ap (λ r. r ++ frees_in consts vals (hold consts vals xs) ys) (one_values flat q consts vals cur at k c ws (taken_results vals xs ++ ts) calls)
    ∙ ap (λ r. taken_at c s ++ r) (by (hold consts vals xs) (env_of consts vals next) ws ts more go ∙ ap (taken_behind (values_on flat q cs)) (sym moved))
    ∙ ap (λ v. values_on flat q (c ∷ cs) (alone env v (taken_results vals xs ++ ts) calls)) (sym vs_are)
    ∙ ap (λ r. values_on flat q (c ∷ cs) (alone env (taken_values vals (xs ++ ys) ++ vs) r calls)) (sym rs_are)
  where
    by : (b : Bool) (e : Env) (ws : List Value) (ts : List Result) (more : List Request) →
        frees_in consts vals true (items_all flat q (cur_after flat cur k c) (at + 1) (next_after flat k c) cs) ≡ values_on flat q cs (alone e ws ts more) →
        frees_in consts vals b (items_all flat q (cur_after flat cur k c) (at + 1) (next_after flat k c) cs) ≡ taken_behind (values_on flat q cs) (outcome b e ws ts more)
    by true e ws ts more go = go
    by false e ws ts more go = off_frees consts vals (items_all flat q (cur_after flat cur k c) (at + 1) (next_after flat k c) cs)
