-- At most one of the waiting edges is live.
use Rattle.std.proofs.Common.{◌≡◌, ℕ, suc, Bool, true, false, ◌&&◌, ◌||◌, List, [], ◌∷◌, ◌++◌, arith, sym, ◌∙◌, ap, refl, subst, inl, inr}
use Rattle.std.specs.Prelude.{Option, None, Some, nat_eq, if◌then◌else◌, slice_get}
use Rattle.std.proofs.lemmas.Bool.Decides.{nat_tests}
use Rattle.flat_prog.specs.declared.block.FlatNext.{FlatNext}
use Rattle.flat_prog.specs.declared.block.FlatNext.TheVariants.{Goto, Return}
use Rattle.flat_prog.specs.declared.block.FlatBlock.{FlatBlock}
use Rattle.flat_prog.specs.declared.proc.FlatProc.{FlatProc}
use Rattle.passive_form.specs.Limited.{Limited}
use Rattle.hy_val.specs.declared.expr.Env.{Env}
use Rattle.passive_form.specs.Local.{State, is_target}
use Rattle.vc_gen.specs.Fold.{Edge, Given, reached, entered, others, through, fan, out_next, out_of, passed, step, fold, Dead, One, is_return, is_end, ends, end_env}

and_off : (b c : Bool) → c ≡ false → (b && c) ≡ false
and_off true c h = h
and_off false c h = refl

same_number : (n : ℕ) → nat_eq n n ≡ true
same_number n = grind (arith, nat_tests)

is_at : (t : Option ℕ) (n : ℕ) → t ≡ Some n → is_target t n ≡ true
is_at t n h = ap (λ x. is_target x n) h ∙ same_number n

pub dead_reached : (n : ℕ) (es : List Edge) → Dead es → reached n es ≡ false
dead_reached n [] d = refl
dead_reached n (e ∷ es) d = ap (λ b. b || reached n es) (and_off (is_target e.target n) e.live d.0) ∙ dead_reached n es d.1

keep_dead : (b : Bool) (e : Edge) (es : List Edge) → e.live ≡ false → Dead es → Dead (if b then es else e ∷ es)
keep_dead true e es l d = d
keep_dead false e es l d = (l, d)

pub dead_others : (n : ℕ) (es : List Edge) → Dead es → Dead (others n es)
dead_others n [] d = tt
dead_others n (e ∷ es) d = keep_dead (is_target e.target n) e (others n es) d.0 (dead_others n es d.1)

pub dead_append : (es fs : List Edge) → Dead es → Dead fs → Dead (es ++ fs)
dead_append [] fs d f = f
dead_append (e ∷ es) fs d f = (d.0, dead_append es fs d.1 f)

dead_fan : (env : Env) (ts : List ℕ) (cs : List Bool) → Dead (fan false env ts cs)
dead_fan env [] cs = tt
dead_fan env (t ∷ []) cs = (refl, tt)
dead_fan env (t ∷ u ∷ ts) [] = (refl, dead_fan env (u ∷ ts) [])
dead_fan env (t ∷ u ∷ ts) (c ∷ cs) = (refl, dead_fan env (u ∷ ts) cs)

dead_next : (n : FlatNext) (env : Env) (cs : List Bool) → Dead (out_next n false env cs)
dead_next (Goto ts) env cs = dead_fan env ts cs
dead_next Return env cs = (refl, tt)

pub dead_out : (b : Option FlatBlock) (env : Env) (cs : List Bool) → Dead (out_of b false env cs)
dead_out None env cs = tt
dead_out (Some b) env cs = dead_next b.next env cs

pub dead_passed : (o : Option State) (b : Option FlatBlock) (d : Env) (cs : List Bool) → Dead (passed o false b d cs)
dead_passed None b d cs = dead_out b d cs
dead_passed (Some s) b d cs = dead_out b s.env cs

pub unreached_passed : (o : Option State) (on : Bool) (b : Option FlatBlock) (d : Env) (cs : List Bool) → on ≡ false → Dead (passed o on b d cs)
unreached_passed o on b d cs h = subst (λ x. Dead (passed o x b d cs)) (sym h) (dead_passed o b d cs)

pub dead_step : (flat : Limited) (q : FlatProc) (d : Env) (g : Given) (es : List Edge) → Dead es → Dead (step flat q d g es)
dead_step flat q d g es h =
    dead_append (others g.number es) (passed (through flat q g (entered g.number d es)) (reached g.number es) (slice_get q.blocks g.number) d g.choices)
    (dead_others g.number es h)
    (unreached_passed (through flat q g (entered g.number d es)) (reached g.number es) (slice_get q.blocks g.number) d g.choices (dead_reached g.number es h))

pub dead_fold : (flat : Limited) (q : FlatProc) (d : Env) (gs : List Given) (es : List Edge) → Dead es → Dead (fold flat q d gs es)
dead_fold flat q d [] es h = h
dead_fold flat q d (g ∷ gs) es h = dead_fold flat q d gs (step flat q d g es) (dead_step flat q d g es h)

return_off : (t : Option ℕ) (on : Bool) → on ≡ false → is_return t on ≡ false
return_off None on h = h
return_off (Some n) on h = refl

end_live : (e : Edge) → e.live ≡ false → is_end e ≡ false
end_live e h = return_off e.target e.live h

pub dead_ends : (es : List Edge) → Dead es → ends es ≡ false
dead_ends [] d = refl
dead_ends (e ∷ es) d = ap (λ b. b || ends es) (end_live e d.0) ∙ dead_ends es d.1

both_on : (b c : Bool) → b ≡ true → c ≡ true → (b && c) ≡ true
both_on true c h k = k
both_on false c h k = absurd (cc)

pub one_reached : (n : ℕ) (es : List Edge) (env : Env) → One es (Some n) env → reached n es ≡ true
one_reached n [] env h = absurd h
one_reached n (e ∷ es) env (inl (l, t, v, d)) = ap (λ b. b || reached n es) (both_on (is_target e.target n) e.live (is_at e.target n t) l)
one_reached n (e ∷ es) env (inr (l, h)) = ap (λ b. b || reached n es) (and_off (is_target e.target n) e.live l) ∙ one_reached n es env h

pub dead_entered : (n : ℕ) (d : Env) (es : List Edge) → Dead es → entered n d es ≡ d
dead_entered n d [] k = refl
dead_entered n d (e ∷ es) k = ap (λ b. entered n (if b then e.env else d) es) (and_off (is_target e.target n) e.live k.0) ∙ dead_entered n d es k.1

pub one_entered : (n : ℕ) (d : Env) (es : List Edge) (env : Env) → One es (Some n) env → entered n d es ≡ env
one_entered n d [] env h = absurd h
one_entered n d (e ∷ es) env (inl (l, t, v, k)) =
    ap (λ b. entered n (if b then e.env else d) es) (both_on (is_target e.target n) e.live (is_at e.target n t) l) ∙ dead_entered n e.env es k ∙ v
one_entered n d (e ∷ es) env (inr (l, h)) = ap (λ b. entered n (if b then e.env else d) es) (and_off (is_target e.target n) e.live l) ∙ one_entered n d es env h

pub one_dead : (n : ℕ) (es : List Edge) (env : Env) → One es (Some n) env → Dead (others n es)
one_dead n [] env h = absurd h
one_dead n (e ∷ es) env (inl (l, t, v, d)) =
    subst (λ (b : Bool). Dead (if b then others n es else e ∷ others n es)) (sym (is_at e.target n t)) (dead_others n es d)
one_dead n (e ∷ es) env (inr (l, h)) = keep_dead (is_target e.target n) e (others n es) l (one_dead n es env h)

keep_one : (b : Bool) (e : Edge) (es : List Edge) (t : Option ℕ) (env : Env) → e.live ≡ false → One es t env → One (if b then es else e ∷ es) t env
keep_one true e es t env l h = h
keep_one false e es t env l h = inr (l, h)

pub one_pass : (n : ℕ) (es : List Edge) (t : Option ℕ) (env : Env) → is_target t n ≡ false → One es t env → One (others n es) t env
one_pass n [] t env f h = absurd h
one_pass n (e ∷ es) t env f (inl (l, k, v, d)) =
    let off : is_target e.target n ≡ false = ap (λ x. is_target x n) k ∙ f in
    subst (λ (b : Bool). One (if b then others n es else e ∷ others n es) t env) (sym off) (inl (l, k, v, dead_others n es d))
one_pass n (e ∷ es) t env f (inr (l, h)) = keep_one (is_target e.target n) e (others n es) t env l (one_pass n es t env f h)

off_and : (b c : Bool) → b ≡ false → (b && c) ≡ false
off_and true c h = cc
off_and false c h = refl

pub one_unreached : (n : ℕ) (es : List Edge) (t : Option ℕ) (env : Env) → is_target t n ≡ false → One es t env → reached n es ≡ false
one_unreached n [] t env f h = absurd h
one_unreached n (e ∷ es) t env f (inl (l, k, v, d)) =
    ap (λ b. b || reached n es) (off_and (is_target e.target n) e.live (ap (λ x. is_target x n) k ∙ f)) ∙ dead_reached n es d
one_unreached n (e ∷ es) t env f (inr (l, h)) = ap (λ b. b || reached n es) (and_off (is_target e.target n) e.live l) ∙ one_unreached n es t env f h

pub one_left : (es fs : List Edge) (t : Option ℕ) (env : Env) → One es t env → Dead fs → One (es ++ fs) t env
one_left [] fs t env h d = absurd h
one_left (e ∷ es) fs t env (inl (l, k, v, f)) d = inl (l, k, v, dead_append es fs f d)
one_left (e ∷ es) fs t env (inr (l, h)) d = inr (l, one_left es fs t env h d)

pub one_right : (es fs : List Edge) (t : Option ℕ) (env : Env) → Dead es → One fs t env → One (es ++ fs) t env
one_right [] fs t env d h = h
one_right (e ∷ es) fs t env d h = inr (d.0, one_right es fs t env d.1 h)

-- the chosen target of a goto
pub one_fan : (env : Env) (u : ℕ) (ts : List ℕ) (cs : List Bool) → (place t : ℕ) × (slice_get (u ∷ ts) place ≡ Some t) × One (fan true env (u ∷ ts) cs) (Some t) env
one_fan env u [] cs = (0, u, refl, inl (refl, refl, refl, tt))
one_fan env u (w ∷ ts) [] = let r = one_fan env w ts [] in (suc r.0, r.1, r.2, inr (refl, r.3))
one_fan env u (w ∷ ts) (true ∷ cs) = (0, u, refl, inl (refl, refl, refl, dead_fan env (w ∷ ts) cs))
one_fan env u (w ∷ ts) (false ∷ cs) = let r = one_fan env w ts cs in (suc r.0, r.1, r.2, inr (refl, r.3))

-- a live return stays
pub end_step : (flat : Limited) (q : FlatProc) (d : Env) (g : Given) (es : List Edge) (t : Option ℕ) (env : Env) → is_target t g.number ≡ false → One es t env → One (step flat q d g es) t env
end_step flat q d g es t env f h =
    one_left (others g.number es) (passed (through flat q g (entered g.number d es)) (reached g.number es) (slice_get q.blocks g.number) d g.choices) t env
    (one_pass g.number es t env f h)
    (unreached_passed (through flat q g (entered g.number d es)) (reached g.number es) (slice_get q.blocks g.number) d g.choices (one_unreached g.number es t env f h))

pub end_fold : (flat : Limited) (q : FlatProc) (d : Env) (gs : List Given) (es : List Edge) (env : Env) → One es None env → One (fold flat q d gs es) None env
end_fold flat q d [] es env h = h
end_fold flat q d (g ∷ gs) es env h = end_fold flat q d gs (step flat q d g es) env (end_step flat q d g es None env refl h)

live_end : (e : Edge) → e.target ≡ None → e.live ≡ true → is_end e ≡ true
live_end e t h = ap (λ x. is_return x e.live) t ∙ h

pub one_ends : (es : List Edge) (env : Env) → One es None env → ends es ≡ true
one_ends [] env h = absurd h
one_ends (e ∷ es) env (inl (l, t, v, d)) = ap (λ b. b || ends es) (live_end e t l)
one_ends (e ∷ es) env (inr (l, h)) = ap (λ b. b || ends es) (end_live e l) ∙ one_ends es env h

pub dead_end_env : (d : Env) (es : List Edge) → Dead es → end_env d es ≡ d
dead_end_env d [] k = refl
dead_end_env d (e ∷ es) k = ap (λ b. end_env (if b then e.env else d) es) (end_live e k.0) ∙ dead_end_env d es k.1

pub one_end_env : (d : Env) (es : List Edge) (env : Env) → One es None env → end_env d es ≡ env
one_end_env d [] env h = absurd h
one_end_env d (e ∷ es) env (inl (l, t, v, k)) = ap (λ b. end_env (if b then e.env else d) es) (live_end e t l) ∙ dead_end_env e.env es k ∙ v
one_end_env d (e ∷ es) env (inr (l, h)) = ap (λ b. end_env (if b then e.env else d) es) (end_live e l) ∙ one_end_env d es env h

-- a live edge to a block is no return
some_end : (e : Edge) (n : ℕ) → e.target ≡ Some n → is_end e ≡ false
some_end e n t = ap (λ x. is_return x e.live) t

pub one_no_end : (es : List Edge) (n : ℕ) (env : Env) → One es (Some n) env → ends es ≡ false
one_no_end [] n env h = absurd h
one_no_end (e ∷ es) n env (inl (l, t, v, d)) = ap (λ b. b || ends es) (some_end e n t) ∙ dead_ends es d
one_no_end (e ∷ es) n env (inr (l, h)) = ap (λ b. b || ends es) (end_live e l) ∙ one_no_end es n env h
