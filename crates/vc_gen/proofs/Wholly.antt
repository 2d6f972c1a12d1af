-- The blocks that a run comes to, where it ends, take all that they are given.
use Rattle.std.proofs.Common.{◌≡◌, ℕ, Bool, true, false, List, [], ◌∷◌, ◌++◌, sym, ◌∙◌, ap, refl, subst, inl}
use Rattle.std.specs.Prelude.{Option, None, Some, nat_eq, if◌then◌else◌, slice_get}
use Rattle.hy_val.specs.declared.expr.Env.{Env}
use Rattle.flat_prog.specs.declared.block.FlatNext.{FlatNext}
use Rattle.flat_prog.specs.declared.block.FlatNext.TheVariants.{Goto, Return}
use Rattle.flat_prog.specs.declared.block.FlatBlock.{FlatBlock}
use Rattle.flat_prog.specs.declared.proc.FlatProc.{FlatProc}
use Rattle.passive_form.specs.Limited.{Limited}
use Rattle.passive_form.specs.Local.{State, alone, pass_all, cmds_of}
use Rattle.vc_gen.specs.Fold.{Edge, Given, seen, entered, others, closed, through, fan, out_next, out_of, passed, step, fold, ends, Dead, One}
use Rattle.vc_gen.specs.Passages.{seen_values}
use Rattle.vc_gen.specs.Taken.{values_on, all_values}
use Rattle.vc_gen.proofs.Edges.{dead_append, dead_out, one_reached, one_entered, one_dead, one_unreached, one_right, end_step, one_no_end}
use Rattle.vc_gen.proofs.Reach.{taken}
use Rattle.vc_gen.proofs.Sound.{dead_end, no_end, number_is}
use Rattle.vc_gen.proofs.Traces.{end_still, seen_off}
use Rattle.vc_gen.proofs.Takes.{closed_takes, past_takes, end_takes}

abbrev Rest : Limited → FlatProc → Env → List Given → Type 0
Rest flat q d gs = (es : List Edge) (b : ℕ) (env : Env) → One es (Some b) env → ends (fold flat q d gs es) ≡ true → seen_values (seen flat q d gs es) ≡ all_values flat q (seen flat q d gs es)

by_next : (flat : Limited) (q : FlatProc) (d : Env) (gs : List Given) → Rest flat q d gs → (g : Given) (before : List Edge) (env : Env) (s : State) (block : FlatBlock) (next : FlatNext) →
    Dead before → closed (pass_all flat q block.cmds (alone env g.values g.results [])) ≡ Some s → ends (fold flat q d gs (before ++ out_next next true s.env g.choices)) ≡ true →
    g.values ++ seen_values (seen flat q d gs (before ++ out_next next true s.env g.choices))
    ≡ values_on flat q block.cmds (alone env g.values g.results []) ++ all_values flat q (seen flat q d gs (before ++ out_next next true s.env g.choices))
by_next flat q d gs rest g before env s block Return k h e =
    let es = before ++ out_next Return true s.env g.choices in
    let here = one_right before (out_next Return true s.env g.choices) None s.env k (inl (refl, refl, refl, tt)) in
    ap (λ x. x ++ seen_values (seen flat q d gs es)) (closed_takes flat q block.cmds env g.values g.results s h)
    ∙ ap (λ x. values_on flat q block.cmds (alone env g.values g.results []) ++ x) ((end_still flat q d gs es s.env here).3 ∙ sym (end_takes flat q d gs es s.env here))
by_next flat q d gs rest g before env s block (Goto []) k h e = absurd (dead_end flat q d gs (before ++ []) (dead_append before [] k tt) e)
by_next flat q d gs rest g before env s block (Goto (u ∷ ts)) k h e =
    let f = taken s.env u ts g.choices g.number 0 in
    let es = before ++ fan true s.env (u ∷ ts) g.choices in
    ap (λ x. x ++ seen_values (seen flat q d gs es)) (closed_takes flat q block.cmds env g.values g.results s h)
    ∙ ap (λ x. values_on flat q block.cmds (alone env g.values g.results []) ++ x) (rest es f.to s.env (one_right before (fan true s.env (u ∷ ts) g.choices) (Some f.to) s.env k f.one) e)

by_state : (flat : Limited) (q : FlatProc) (d : Env) (gs : List Given) → Rest flat q d gs → (g : Given) (before : List Edge) (env : Env) (o : Option State) (b : Option FlatBlock) →
    Dead before → slice_get q.blocks g.number ≡ b → through flat q g env ≡ o → ends (fold flat q d gs (before ++ passed o true b d g.choices)) ≡ true →
    g.values ++ seen_values (seen flat q d gs (before ++ passed o true b d g.choices))
    ≡ values_on flat q (cmds_of b) (alone env g.values g.results []) ++ all_values flat q (seen flat q d gs (before ++ passed o true b d g.choices))
by_state flat q d gs rest g before env None b k at h e =
    absurd (dead_end flat q d gs (before ++ out_of b false d g.choices) (dead_append before (out_of b false d g.choices) k (dead_out b d g.choices)) e)
by_state flat q d gs rest g before env (Some s) None k at h e = absurd (dead_end flat q d gs (before ++ []) (dead_append before [] k tt) e)
by_state flat q d gs rest g before env (Some s) (Some block) k at h e =
    by_next flat q d gs rest g before env s block block.next k (sym (ap (λ x. closed (pass_all flat q (cmds_of x) (alone env g.values g.results []))) at) ∙ h) e

here : (flat : Limited) (q : FlatProc) (d : Env) (gs : List Given) → Rest flat q d gs → (g : Given) (es : List Edge) (env : Env) → One es (Some g.number) env →
    ends (fold flat q d (g ∷ gs) es) ≡ true → seen_values (seen flat q d (g ∷ gs) es) ≡ all_values flat q (seen flat q d (g ∷ gs) es)
here flat q d gs rest g es env one h =
    let before = others g.number es in
    let block = slice_get q.blocks g.number in
    let P : Env → Bool → Type 0 = λ v r. ends (fold flat q d gs (before ++ passed (through flat q g v) r block d g.choices)) ≡ true →
    (if r then g.values ++ seen_values (seen flat q d gs (before ++ passed (through flat q g v) r block d g.choices)) else seen_values (seen flat q d gs (before ++ passed (through flat q g v) r block d g.choices)))
    ≡ (if r then values_on flat q (cmds_of block) (alone v g.values g.results []) else []) ++ all_values flat q (seen flat q d gs (before ++ passed (through flat q g v) r block d g.choices)) in
    subst (λ r. P (entered g.number d es) r) (sym (one_reached g.number es env one))
    (subst (λ v. P v true) (sym (one_entered g.number d es env one))
    (λ e. by_state flat q d gs rest g before env (through flat q g env) block (one_dead g.number es env one) refl refl e)) h

by_number : (flat : Limited) (q : FlatProc) (d : Env) (gs : List Given) → Rest flat q d gs → (g : Given) (es : List Edge) (b : ℕ) (env : Env) (x : Bool) → nat_eq b g.number ≡ x → One es (Some b) env →
    ends (fold flat q d (g ∷ gs) es) ≡ true → seen_values (seen flat q d (g ∷ gs) es) ≡ all_values flat q (seen flat q d (g ∷ gs) es)
by_number flat q d gs rest g es b env true f one h = here flat q d gs rest g es env (subst (λ x. One es (Some x) env) (sym (number_is b g.number f)) one) h
by_number flat q d gs rest g es b env false f one h =
    let off = one_unreached g.number es (Some b) env f one in
    seen_off flat q d g gs es off ∙ rest (step flat q d g es) b env (end_step flat q d g es (Some b) env f one) h ∙ sym (past_takes flat q d g gs es off)

pub wholly : (flat : Limited) (q : FlatProc) (d : Env) (gs : List Given) → Rest flat q d gs
wholly flat q d [] es b env one h = absurd (no_end (ends es) (one_no_end es b env one) h)
wholly flat q d (g ∷ gs) es b env one h = by_number flat q d gs (wholly flat q d gs) g es b env (nat_eq b g.number) refl one h
