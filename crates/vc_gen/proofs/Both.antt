-- A run ends or fails, and never both.
use Rattle.std.proofs.Common.{◌≡◌, ℕ, Bool, true, false, ◌&&◌, ◌||◌, List, [], ◌∷◌, ◌++◌, sym, ◌∙◌, ap, refl, subst, inl}
use Rattle.std.specs.Prelude.{Option, None, Some, nat_eq, slice_get}
use Rattle.hy_val.specs.declared.expr.Env.{Env}
use Rattle.flat_prog.specs.declared.block.FlatNext.{FlatNext}
use Rattle.flat_prog.specs.declared.block.FlatNext.TheVariants.{Goto, Return}
use Rattle.flat_prog.specs.declared.block.FlatBlock.{FlatBlock}
use Rattle.flat_prog.specs.declared.proc.FlatProc.{FlatProc}
use Rattle.passive_form.specs.Limited.{Limited}
use Rattle.passive_form.specs.Local.{State, alone, pass_all, cmds_of}
use Rattle.vc_gen.specs.Fold.{Edge, Given, seen, entered, others, closed, through, fan, out_next, out_of, passed, step, fold, Dead, One, ends}
use Rattle.vc_gen.specs.Breaking.{breaks, any_breaks}
use Rattle.vc_gen.proofs.Edges.{dead_append, dead_out, one_reached, one_entered, one_dead, one_unreached, one_right, end_step, dead_fold, dead_ends}
use Rattle.vc_gen.proofs.Reach.{taken}
use Rattle.vc_gen.proofs.Sound.{number_is}
use Rattle.vc_gen.proofs.Breaches.{break_place}
use Rattle.vc_gen.proofs.Failures.{off_breaks, dead_whole, end_whole, stop_all}

abbrev Rest : Limited → FlatProc → Env → List Given → Type 0
Rest flat q d gs = (es : List Edge) (b : ℕ) (env : Env) → One es (Some b) env → ends (fold flat q d gs es) ≡ true → any_breaks flat q (seen flat q d gs es) ≡ false

no_end : (flat : Limited) (q : FlatProc) (d : Env) (gs : List Given) (es : List Edge) → Dead es → ends (fold flat q d gs es) ≡ true → ⊥
no_end flat q d gs es k h = let z : false ≡ true = sym (dead_ends (fold flat q d gs es) (dead_fold flat q d gs es k)) ∙ h in clash z
  where
    clash : false ≡ true → ⊥
    clash z = cc

by_next : (flat : Limited) (q : FlatProc) (d : Env) (gs : List Given) → Rest flat q d gs → (g : Given) (before : List Edge) (s : State) (next : FlatNext) → Dead before →
    ends (fold flat q d gs (before ++ out_next next true s.env g.choices)) ≡ true → any_breaks flat q (seen flat q d gs (before ++ out_next next true s.env g.choices)) ≡ false
by_next flat q d gs rest g before s Return k h =
    end_whole flat q d gs (before ++ out_next Return true s.env g.choices) s.env (one_right before (out_next Return true s.env g.choices) None s.env k (inl (refl, refl, refl, tt)))
by_next flat q d gs rest g before s (Goto []) k h = dead_whole flat q d gs (before ++ []) (dead_append before [] k tt)
by_next flat q d gs rest g before s (Goto (u ∷ ts)) k h =
    let f = taken s.env u ts g.choices g.number 0 in
    rest (before ++ fan true s.env (u ∷ ts) g.choices) f.to s.env (one_right before (fan true s.env (u ∷ ts) g.choices) (Some f.to) s.env k f.one) h

-- the block g is reached, and ends or passes
by_state : (flat : Limited) (q : FlatProc) (d : Env) (gs : List Given) → Rest flat q d gs → (g : Given) (before : List Edge) (env : Env) (o : Option State) (b : Option FlatBlock) (x : Bool) →
    Dead before → slice_get q.blocks g.number ≡ b → through flat q g env ≡ o → breaks flat q (cmds_of b) (alone env g.values g.results []) ≡ x →
    ends (fold flat q d gs (before ++ passed o true b d g.choices)) ≡ true → (x || any_breaks flat q (seen flat q d gs (before ++ passed o true b d g.choices))) ≡ false
by_state flat q d gs rest g before env None b x k at h y e = absurd (no_end flat q d gs (before ++ out_of b false d g.choices) (dead_append before (out_of b false d g.choices) k (dead_out b d g.choices)) e)
by_state flat q d gs rest g before env (Some s) None true k at h y e = let z : false ≡ true = y in cc
by_state flat q d gs rest g before env (Some s) None false k at h y e = dead_whole flat q d gs (before ++ []) (dead_append before [] k tt)
by_state flat q d gs rest g before env (Some s) (Some block) true k at h y e =
    let r = break_place flat q block.cmds (alone env g.values g.results []) y in
    let none : pass_all flat q block.cmds (alone env g.values g.results []) ≡ None =
    ap (λ cs. pass_all flat q cs (alone env g.values g.results [])) r.splits ∙ stop_all flat q r.before r.at r.after (alone env g.values g.results []) r.over r.passes r.breaks_is in
    let w : closed None ≡ Some s = sym (ap (λ o. closed (pass_all flat q (cmds_of o) (alone env g.values g.results []))) at ∙ ap closed none) ∙ h in
    cc
by_state flat q d gs rest g before env (Some s) (Some block) false k at h y e = by_next flat q d gs rest g before s block.next k e

here : (flat : Limited) (q : FlatProc) (d : Env) (gs : List Given) → Rest flat q d gs → (g : Given) (es : List Edge) (env : Env) → One es (Some g.number) env →
    ends (fold flat q d (g ∷ gs) es) ≡ true → any_breaks flat q (seen flat q d (g ∷ gs) es) ≡ false
here flat q d gs rest g es env one h =
    let before = others g.number es in
    let block = slice_get q.blocks g.number in
    let P : Env → Bool → Type 0 = λ v r.
    ends (fold flat q d gs (before ++ passed (through flat q g v) r block d g.choices)) ≡ true →
    ((r && breaks flat q (cmds_of block) (alone v g.values g.results [])) || any_breaks flat q (seen flat q d gs (before ++ passed (through flat q g v) r block d g.choices))) ≡ false in
    subst (λ r. P (entered g.number d es) r) (sym (one_reached g.number es env one))
    (subst (λ v. P v true) (sym (one_entered g.number d es env one))
    (λ e. by_state flat q d gs rest g before env (through flat q g env) block (breaks flat q (cmds_of block) (alone env g.values g.results [])) (one_dead g.number es env one) refl refl refl e)) h

by_number : (flat : Limited) (q : FlatProc) (d : Env) (gs : List Given) → Rest flat q d gs → (g : Given) (es : List Edge) (b : ℕ) (env : Env) (x : Bool) → nat_eq b g.number ≡ x → One es (Some b) env →
    ends (fold flat q d (g ∷ gs) es) ≡ true → any_breaks flat q (seen flat q d (g ∷ gs) es) ≡ false
by_number flat q d gs rest g es b env true f one h = here flat q d gs rest g es env (subst (λ x. One es (Some x) env) (sym (number_is b g.number f)) one) h
by_number flat q d gs rest g es b env false f one h =
    off_breaks flat q d g gs es (one_unreached g.number es (Some b) env f one) ∙ rest (step flat q d g es) b env (end_step flat q d g es (Some b) env f one) h

-- where a return is live no block that is reached fails
pub never_both : (flat : Limited) (q : FlatProc) (d : Env) (gs : List Given) → Rest flat q d gs
never_both flat q d [] es b env one h = refl
never_both flat q d (g ∷ gs) es b env one h = by_number flat q d gs (never_both flat q d gs) g es b env (nat_eq b g.number) refl one h
