-- Where the items of a reached block fail, a run fails there.
use Rattle.std.proofs.Common.{◌≡◌, ℕ, ◌+◌, Bool, true, false, not, ◌&&◌, ◌||◌, List, [], ◌∷◌, ◌++◌, sym, ◌∙◌, ap, refl, subst, inl, inr}
use Rattle.std.specs.Prelude.{None, Some, if◌then◌else◌, slice_get, ◌⊎◌}
use Rattle.hy_val.specs.Exprs.{eval_by}
use Rattle.hy_val.specs.Values.{is_on}
use Rattle.hy_val.specs.declared.value.Value.{Value}
use Rattle.hy_val.specs.declared.expr.Env.{Env}
use Rattle.hy_val.specs.declared.expr.Var.{Var}
use Rattle.hy_val.specs.declared.expr.ExprNode.{ExprNode}
use Rattle.flat_prog.specs.declared.block.FlatCmd.{FlatCmd}
use Rattle.flat_prog.specs.declared.block.FlatCmd.TheVariants.{Assign, Havoc, Assume, Assert, Call}
use Rattle.flat_prog.specs.declared.block.FlatBlock.{FlatBlock}
use Rattle.flat_prog.specs.declared.proc.FlatProc.{FlatProc}
use Rattle.passive_form.specs.Limited.{Limited}
use Rattle.passive_form.specs.Local.{State, alone, request, pass_all, fail, over}
use Rattle.flat_prog.specs.Local.{Result, Broken, Request}
use Rattle.hy_val.specs.Stores.{holds}
use Rattle.vc_gen.proofs.Reach.{Reaches}
use Rattle.vc_gen.proofs.Fails.{Failing, fails_at}
use Rattle.passive_form.specs.declared.Item.{Item}
use Rattle.passive_form.specs.declared.Item.TheVariants.{Let, Zero, Free, Need, Check, Site}
use Rattle.passive_form.specs.Versions.{Cur, look_at, env_of, Defined, hold, taken_values, taken_results, made_calls}
use Rattle.passive_form.specs.Making.{over_versions, lets, frees, items_of, cur_after, next_after, items_all, cur_end, entry_cur, entry_count}
use Rattle.passive_form.specs.Laws.{cmd_there, cmds_there, outcome}
use Rattle.passive_form.proofs.Passing.{eval_is, hold_append, defined_left, defined_right, defined_append, pass_all_is}
use Rattle.vc_gen.specs.Items.{on_after, on_end, fails_by, fails_in}
use Rattle.vc_gen.proofs.Joining.{fails_append, and_first, and_second, and_two}
use Rattle.vc_gen.proofs.Stepping.{on_is}

-- whether some item fails
abbrev pub broken : List Value → (ℕ → Value) → Bool → List Item → Bool
broken consts vals on items = fails_in consts vals on false items

or_assoc : (a b c : Bool) → ((a || b) || c) ≡ (a || (b || c))
or_assoc true b c = refl
or_assoc false b c = refl

or_none : (a : Bool) → a ≡ (a || false)
or_none true = refl
or_none false = refl

pub fails_or : (consts : List Value) (vals : ℕ → Value) (on failed : Bool) (items : List Item) → fails_in consts vals on failed items ≡ (failed || broken consts vals on items)
fails_or consts vals on failed [] = or_none failed
fails_or consts vals on failed (i ∷ items) =
    fails_or consts vals (on_after consts vals on i) (failed || fails_by consts vals on i) items ∙ or_assoc failed (fails_by consts vals on i) (broken consts vals (on_after consts vals on i) items)
    ∙ ap (λ x. failed || x) (sym (fails_or consts vals (on_after consts vals on i) (fails_by consts vals on i) items))

-- nothing fails where the run isn't
off_after : (consts : List Value) (vals : ℕ → Value) (i : Item) → on_after consts vals false i ≡ false
off_after consts vals (Let v e) = refl
off_after consts vals (Zero v s) = refl
off_after consts vals (Free v s) = refl
off_after consts vals (Need e) = refl
off_after consts vals (Check p e) = refl
off_after consts vals (Site p f args before outs changes after) = refl

off_by : (consts : List Value) (vals : ℕ → Value) (i : Item) → fails_by consts vals false i ≡ false
off_by consts vals (Let v e) = refl
off_by consts vals (Zero v s) = refl
off_by consts vals (Free v s) = refl
off_by consts vals (Need e) = refl
off_by consts vals (Check p e) = refl
off_by consts vals (Site p f args before outs changes after) = refl

pub off_broken : (consts : List Value) (vals : ℕ → Value) (items : List Item) → broken consts vals false items ≡ false
off_broken consts vals [] = refl
off_broken consts vals (i ∷ items) =
    ap (λ x. fails_in consts vals x (fails_by consts vals false i) items) (off_after consts vals i) ∙ ap (λ x. fails_in consts vals false x items) (off_by consts vals i) ∙ off_broken consts vals items

pub lets_whole : (consts : List Value) (vals : ℕ → Value) (cur : Cur) (k : ℕ) (pairs : List (Var × List ExprNode)) → broken consts vals true (lets cur k pairs) ≡ false
lets_whole consts vals cur k [] = refl
lets_whole consts vals cur k (pair ∷ pairs) = lets_whole consts vals cur (k + 1) pairs

pub frees_whole : (flat : Limited) (q : FlatProc) (consts : List Value) (vals : ℕ → Value) (k : ℕ) (xs : List Var) → broken consts vals true (frees flat q k xs) ≡ false
frees_whole flat q consts vals k [] = refl
frees_whole flat q consts vals k (x ∷ xs) = frees_whole flat q consts vals (k + 1) xs

-- the place that fails, behind commands that hold
pub record Place (flat : Limited) (q : FlatProc) (consts : List Value) (vals : ℕ → Value) (cur : Cur) (at k : ℕ) (cmds : List FlatCmd) : Type 0 where
  pub before : List FlatCmd
  pub cmd : FlatCmd
  pub after : List FlatCmd
  pub splits : cmds ≡ before ++ cmd ∷ after
  pub there : cmds_there flat q before ≡ true
  pub defined : Defined consts vals (items_all flat q cur at k before)
  pub held : hold consts vals (items_all flat q cur at k before) ≡ true
  pub here : ℕ
  pub next : ℕ
  pub fails : broken consts vals true (items_of flat q (cur_end flat cur k before) here next cmd) ≡ true

either_way : (a b : Bool) → (a || b) ≡ true → (a ≡ true) ⊎ ((a ≡ false) × (b ≡ true))
either_way true b h = inl refl
either_way false b h = inr (refl, h)

on_if : (consts : List Value) (vals : ℕ → Value) (on : Bool) (items : List Item) → broken consts vals on items ≡ true → on ≡ true
on_if consts vals true items h = refl
on_if consts vals false items h = let n = off_broken consts vals items in cc

pub place : (flat : Limited) (q : FlatProc) (consts : List Value) (vals : ℕ → Value) (cur : Cur) (at k : ℕ) (cmds : List FlatCmd) → cmds_there flat q cmds ≡ true → Defined consts vals (items_all flat q cur at k cmds) →
    broken consts vals true (items_all flat q cur at k cmds) ≡ true → Place flat q consts vals cur at k cmds
place flat q consts vals cur at k [] t h b = cc
place flat q consts vals cur at k (c ∷ cs) t h b =
    let xs = items_of flat q cur at k c in
    let ys = items_all flat q (cur_after flat cur k c) (at + 1) (next_after flat k c) cs in
    let parts : (broken consts vals true xs || broken consts vals (on_end consts vals true xs) ys) ≡ true =
    sym (fails_append consts vals true false xs ys ∙ fails_or consts vals (on_end consts vals true xs) (fails_in consts vals true false xs) ys) ∙ b in
    by (either_way (broken consts vals true xs) (broken consts vals (on_end consts vals true xs) ys) parts)
    (λ later. place flat q consts vals (cur_after flat cur k c) (at + 1) (next_after flat k c) cs (and_second (cmd_there flat q c) (cmds_there flat q cs) t) (defined_right consts vals xs ys h) later)
  where
    by : let xs = items_of flat q cur at k c in let ys = items_all flat q (cur_after flat cur k c) (at + 1) (next_after flat k c) cs in
        (broken consts vals true xs ≡ true) ⊎ ((broken consts vals true xs ≡ false) × (broken consts vals (on_end consts vals true xs) ys ≡ true)) →
        (broken consts vals true ys ≡ true → Place flat q consts vals (cur_after flat cur k c) (at + 1) (next_after flat k c) cs) → Place flat q consts vals cur at k (c ∷ cs)
    by (inl now) go = record { before = []; cmd = c; after = cs; splits = refl; there = refl; defined = tt; held = refl; here = at; next = k; fails = now }
    by (inr (fine, later)) go =
        let xs = items_of flat q cur at k c in
        let ys = items_all flat q (cur_after flat cur k c) (at + 1) (next_after flat k c) cs in
        let on : on_end consts vals true xs ≡ true = on_if consts vals (on_end consts vals true xs) ys later in
        let held : hold consts vals xs ≡ true = sym (on_is consts vals true xs) ∙ on in
        let r = go (subst (λ (x : Bool). broken consts vals x ys ≡ true) on later) in
        let zs = items_all flat q (cur_after flat cur k c) (at + 1) (next_after flat k c) r.before in
        record {
          before = c ∷ r.before;
          cmd = r.cmd;
          after = r.after;
          splits = ap (λ x. c ∷ x) r.splits;
          there = and_two (cmd_there flat q c) (cmds_there flat q r.before) (and_first (cmd_there flat q c) (cmds_there flat q cs) t) r.there;
          defined = defined_append consts vals xs zs (defined_left consts vals xs ys h) r.defined;
          held = hold_append consts vals xs zs ∙ and_two (hold consts vals xs) (hold consts vals zs) held r.held;
          here = r.here;
          next = r.next;
          fails = r.fails;
        }

off_holds : (b : Bool) → (true && not b) ≡ true → b ≡ false
off_holds true h = cc
off_holds false h = refl

-- what the failing place makes of a run, whatever assert a callee fails in
pub record Breaks (cmd : FlatCmd) (env : Env) : Type 0 where
  pub more : List Result
  pub proc : ℕ
  pub number : ℕ
  pub adds : List Request → List Request
  pub fails : (calls : List Request) → fail cmd (alone env [] more calls) ≡ Some (Broken proc number, adds calls)

breaks : (flat : Limited) (q : FlatProc) (consts : List Value) (vals : ℕ → Value) (cur : Cur) (at k : ℕ) (cmd : FlatCmd) → broken consts vals true (items_of flat q cur at k cmd) ≡ true → Breaks cmd (env_of consts vals cur)
breaks flat q consts vals cur at k (Assign pairs) h = let n = lets_whole consts vals cur k pairs in cc
breaks flat q consts vals cur at k (Havoc xs) h = let n = frees_whole flat q consts vals k xs in cc
breaks flat q consts vals cur at k (Assume e) h = cc
breaks flat q consts vals cur at k (Assert p n e) h =
    let off : holds (env_of consts vals cur) e ≡ false = ap is_on (sym (eval_is consts vals cur e)) ∙ off_holds (is_on (eval_by (look_at consts vals) (over_versions cur e))) h in
    record { more = []; proc = p; number = n; adds = λ calls. calls; fails = λ calls. ap (λ b. if b then None else over p n calls []) off }
breaks flat q consts vals cur at k (Call p args outs) h =
    record { more = Broken 0 0 ∷ []; proc = 0; number = 0; adds = λ calls. calls ++ request (alone (env_of consts vals cur) [] [] []) p args ∷ []; fails = λ calls. refl }

-- a reached block some item of which fails has a run that fails
pub block_fails : (flat : Limited) (q : FlatProc) (consts : List Value) (vals : ℕ → Value) (first n : ℕ) (env : Env) (edges : List (ℕ × ℕ)) (b : FlatBlock) → slice_get q.blocks n ≡ Some b → cmds_there flat q b.cmds ≡ true →
    Defined consts vals (items_all flat q (entry_cur flat q) 0 (entry_count flat q) b.cmds) → Reaches flat q first env n (env_of consts vals (entry_cur flat q)) edges →
    broken consts vals true (items_all flat q (entry_cur flat q) 0 (entry_count flat q) b.cmds) ≡ true → (p m : ℕ) × Failing flat q first env p m
block_fails flat q consts vals first n env edges b is t h reach fails =
    let cur = entry_cur flat q in
    let k = entry_count flat q in
    let r = place flat q consts vals cur 0 k b.cmds t h fails in
    let items = items_all flat q cur 0 k r.before in
    let done = cur_end flat cur k r.before in
    let over_env = env_of consts vals done in
    let z = breaks flat q consts vals done r.here r.next r.cmd r.fails in
    let s : State = alone over_env [] [] ([] ++ made_calls consts vals items) in
    let passes : pass_all flat q r.before (alone (env_of consts vals cur) (taken_values vals items ++ []) (taken_results vals items ++ []) []) ≡ Some s =
    pass_all_is flat q consts vals cur 0 k r.before [] [] [] r.there r.defined ∙ ap (λ x. outcome x over_env [] [] ([] ++ made_calls consts vals items)) r.held in (
      z.proc,
      z.number,
      fails_at flat q first n env (env_of consts vals cur) edges b r.before r.after r.cmd (taken_values vals items ++ []) (taken_results vals items ++ []) z.more s z.adds z.proc z.number reach is r.splits passes z.fails,
    )
