-- Blocks that are reached and fail.
use Rattle.std.proofs.Common.{◌≡◌, ℕ, zero, suc, Bool, true, false, not, ◌&&◌, ◌||◌, List, [], ◌∷◌, ◌++◌, take, sym, ◌∙◌, ap, refl, inr}
use Rattle.std.specs.Prelude.{Option, None, Some, if◌then◌else◌, slice_get}
use Rattle.std.specs.Option.{option_and_then}
use Rattle.hy_val.specs.declared.value.Value.{Value}
use Rattle.hy_val.specs.declared.expr.Env.{Env}
use Rattle.flat_prog.specs.declared.block.FlatCmd.{FlatCmd}
use Rattle.flat_prog.specs.declared.block.FlatCmd.TheVariants.{Assign, Havoc, Assume, Assert, Call}
use Rattle.flat_prog.specs.declared.block.FlatBlock.{FlatBlock}
use Rattle.flat_prog.specs.declared.proc.FlatProc.{FlatProc}
use Rattle.passive_form.specs.Limited.{Limited}
use Rattle.passive_form.specs.Local.{State, alone, request, cmds_of, pass, pass_all, fail, over}
use Rattle.flat_prog.specs.Local.{Result, Broken, Request}
use Rattle.hy_val.specs.Stores.{holds}
use Rattle.vc_gen.specs.Fold.{Edge, Given, Seen, seen_at, seen, reached, entered, step, fold, live_edges, One}
use Rattle.vc_gen.specs.Breaking.{breaks_at, test_some, breaks, breaks_seen, any_breaks}
use Rattle.vc_gen.specs.Alike.{Alike}
use Rattle.vc_gen.proofs.Alikes.{alike_reached, alike_entered}
use Rattle.vc_gen.proofs.Reach.{Reaches, reach}
use Rattle.vc_gen.proofs.Fails.{Failing, fails_at}

pub seen_push : (flat : Limited) (q : FlatProc) (d : Env) (gs : List Given) (g : Given) (es : List Edge) → seen flat q d (gs ++ g ∷ []) es ≡ seen flat q d gs es ++ seen_at d g (fold flat q d gs es) ∷ []
seen_push flat q d [] g es = refl
seen_push flat q d (h ∷ gs) g es = ap (λ x. seen_at d h es ∷ x) (seen_push flat q d gs g (step flat q d h es))

or_assoc : (a b c : Bool) → (a || (b || c)) ≡ ((a || b) || c)
or_assoc true b c = refl
or_assoc false b c = refl

or_none : (b : Bool) → (b || false) ≡ b
or_none true = refl
or_none false = refl

pub any_push : (flat : Limited) (q : FlatProc) (xs : List Seen) (x : Seen) → any_breaks flat q (xs ++ x ∷ []) ≡ (any_breaks flat q xs || breaks_seen flat q x)
any_push flat q [] x = or_none (breaks_seen flat q x)
any_push flat q (y ∷ xs) x = ap (λ b. breaks_seen flat q y || b) (any_push flat q xs x) ∙ or_assoc (breaks_seen flat q y) (any_breaks flat q xs) (breaks_seen flat q x)

-- the variables matter only where the block is reached
when_on : (r : Bool) (f : Env → Bool) (v w : Env) → (r ≡ true → v ≡ w) → (r && f v) ≡ (r && f w)
when_on true f v w h = ap f (h refl)
when_on false f v w h = refl

pub alike_breaks : (flat : Limited) (q : FlatProc) (d : Env) (g : Given) (es fs : List Edge) → Alike es fs → breaks_seen flat q (seen_at d g es) ≡ breaks_seen flat q (seen_at d g fs)
alike_breaks flat q d g es fs h =
    let f : Env → Bool = λ v. breaks flat q (cmds_of (slice_get q.blocks g.number)) (alone v g.values g.results []) in
    ap (λ r. r && f (entered g.number d es)) (alike_reached g.number es fs h)
    ∙ when_on (reached g.number fs) f (entered g.number d es) (entered g.number d fs) (λ k. alike_entered g.number d d es fs h (inr k))

-- ---- from a block that fails to a run

pub record FailsSomewhere (xs : List Seen) (flat : Limited) (q : FlatProc) : Type 0 where
  pub index : ℕ
  pub x : Seen
  pub at : slice_get xs index ≡ Some x
  pub is_on : x.on ≡ true
  pub breaks_is : breaks flat q (cmds_of (slice_get q.blocks x.given.number)) (alone x.env x.given.values x.given.results []) ≡ true

both : (a b : Bool) → (a && b) ≡ true → (a ≡ true) × (b ≡ true)
both true b h = (refl, h)
both false b h = cc

pub any_at : (flat : Limited) (q : FlatProc) (xs : List Seen) → any_breaks flat q xs ≡ true → FailsSomewhere xs flat q
any_at flat q [] h = cc
any_at flat q (x ∷ xs) h = by (breaks_seen flat q x) refl h (λ k. any_at flat q xs k)
  where
    by : (b : Bool) → breaks_seen flat q x ≡ b → (b || any_breaks flat q xs) ≡ true → (any_breaks flat q xs ≡ true → FailsSomewhere xs flat q) → FailsSomewhere (x ∷ xs) flat q
    by true e k go =
        let two = both x.on (breaks flat q (cmds_of (slice_get q.blocks x.given.number)) (alone x.env x.given.values x.given.results [])) e in
        record { index = 0; x = x; at = refl; is_on = two.0; breaks_is = two.1 }
    by false e k go = let r = go k in record { index = suc r.index; x = r.x; at = r.at; is_on = r.is_on; breaks_is = r.breaks_is }

pub any_found : (flat : Limited) (q : FlatProc) (xs : List Seen) (j : ℕ) (x : Seen) → slice_get xs j ≡ Some x → breaks_seen flat q x ≡ true → any_breaks flat q xs ≡ true
any_found flat q [] j x h b = cc
any_found flat q (y ∷ xs) zero x h b = let e : y ≡ x = cc in ap (λ z. breaks_seen flat q z || any_breaks flat q xs) e ∙ ap (λ c. c || any_breaks flat q xs) b
any_found flat q (y ∷ xs) (suc j) x h b = ap (λ c. breaks_seen flat q y || c) (any_found flat q xs j x h b) ∙ or_true (breaks_seen flat q y)
  where
    or_true : (c : Bool) → (c || true) ≡ true
    or_true true = refl
    or_true false = refl

-- the command that fails, behind commands that hold
pub record BreakPlace (flat : Limited) (q : FlatProc) (cmds : List FlatCmd) (s : State) : Type 0 where
  pub before : List FlatCmd
  pub at : FlatCmd
  pub after : List FlatCmd
  pub over : State
  pub splits : cmds ≡ before ++ at ∷ after
  pub passes : pass_all flat q before s ≡ Some over
  pub breaks_is : breaks_at at over ≡ true

pub break_place : (flat : Limited) (q : FlatProc) (cmds : List FlatCmd) (s : State) → breaks flat q cmds s ≡ true → BreakPlace flat q cmds s
break_place flat q [] s h = cc
break_place flat q (c ∷ cs) s h = by (breaks_at c s) refl h (pass flat q c s) refl (λ m k. break_place flat q cs m k)
  where
    by : (b : Bool) → breaks_at c s ≡ b → (b || test_some (breaks flat q cs) (pass flat q c s)) ≡ true → (o : Option State) → pass flat q c s ≡ o → ((m : State) → breaks flat q cs m ≡ true → BreakPlace flat q cs m) → BreakPlace flat q (c ∷ cs) s
    by true e k o p go = record { before = []; at = c; after = cs; over = s; splits = refl; passes = refl; breaks_is = e }
    by false e k None p go = let z = ap (test_some (breaks flat q cs)) p in cc
    by false e k (Some m) p go =
        let r = go m (sym (ap (test_some (breaks flat q cs)) p) ∙ k) in
        record {
          before = c ∷ r.before;
          at = r.at;
          after = r.after;
          over = r.over;
          splits = ap (λ x. c ∷ x) r.splits;
          passes = ap (option_and_then (pass_all flat q r.before)) p ∙ r.passes;
          breaks_is = r.breaks_is;
        }

-- what the command makes of a run, where a callee that fails fails with this
pub record MakesFail (cmd : FlatCmd) (env : Env) : Type 0 where
  pub more : List Result
  pub proc : ℕ
  pub number : ℕ
  pub adds : List Request → List Request
  pub fails : (calls : List Request) → fail cmd (alone env [] more calls) ≡ Some (Broken proc number, adds calls)

not_true : (b : Bool) → not b ≡ true → b ≡ false
not_true true h = cc
not_true false h = refl

makes_fail : (cmd : FlatCmd) (s : State) (bp bn : ℕ) → breaks_at cmd s ≡ true → MakesFail cmd s.env
makes_fail (Assign pairs) s bp bn h = cc
makes_fail (Havoc xs) s bp bn h = cc
makes_fail (Assume e) s bp bn h = cc
makes_fail (Assert p n e) s bp bn h =
    record { more = []; proc = p; number = n; adds = λ calls. calls; fails = λ calls. ap (λ b. if b then None else over p n calls []) (not_true (holds s.env e) h) }
makes_fail (Call p args outs) s bp bn h =
    record { more = Broken bp bn ∷ []; proc = bp; number = bn; adds = λ calls. calls ++ request (alone s.env [] [] []) p args ∷ []; fails = λ calls. refl }

-- a block that is reached and fails has a run that fails there; bp and bn are what a callee that fails fails with
pub breaks_run : (flat : Limited) (q : FlatProc) (d : Env) (gs : List Given) (es : List Edge) (b : ℕ) (env : Env) (bp bn : ℕ) → One es (Some b) env → any_breaks flat q (seen flat q d gs es) ≡ true → (p n : ℕ) × Failing flat q b env p n
breaks_run flat q d gs es b env bp bn one h =
    let f = any_at flat q (seen flat q d gs es) h in
    let x = f.x in
    let edges = live_edges flat q d (take f.index gs) es in
    by x.given.number x.env x.given.values x.given.results edges (reach flat q d gs es b env one f.index x f.at f.is_on) (slice_get q.blocks x.given.number) refl f.breaks_is
  where
    by : (c : ℕ) (v : Env) (vs : List Value) (rs : List Result) (edges : List (ℕ × ℕ)) → Reaches flat q b env c v edges → (o : Option FlatBlock) → slice_get q.blocks c ≡ o →
        breaks flat q (cmds_of (slice_get q.blocks c)) (alone v vs rs []) ≡ true → (p n : ℕ) × Failing flat q b env p n
    by c v vs rs edges m None at k = let z = ap (λ (o : Option FlatBlock). breaks flat q (cmds_of o) (alone v vs rs [])) at in cc
    by c v vs rs edges m (Some block) at k =
        let here : breaks flat q block.cmds (alone v vs rs []) ≡ true = sym (ap (λ (o : Option FlatBlock). breaks flat q (cmds_of o) (alone v vs rs [])) at) ∙ k in
        let r = break_place flat q block.cmds (alone v vs rs []) here in
        let z = makes_fail r.at r.over bp bn r.breaks_is in
        (z.proc, z.number, fails_at flat q b c env v edges block r.before r.after r.at vs rs z.more r.over z.adds z.proc z.number m at r.splits r.passes z.fails)
