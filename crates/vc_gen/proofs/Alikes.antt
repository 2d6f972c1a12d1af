-- Edges that are alike stay so.
use Rattle.std.proofs.Common.{◌≡◌, ℕ, Bool, true, false, ◌&&◌, ◌||◌, List, [], ◌∷◌, ◌++◌, sym, ◌∙◌, ap, refl, subst, inl, inr}
use Rattle.std.specs.Prelude.{Option, None, Some, if◌then◌else◌, slice_get, ◌⊎◌}
use Rattle.hy_val.specs.declared.expr.Env.{Env}
use Rattle.flat_prog.specs.declared.block.FlatNext.{FlatNext}
use Rattle.flat_prog.specs.declared.block.FlatNext.TheVariants.{Goto, Return}
use Rattle.flat_prog.specs.declared.block.FlatBlock.{FlatBlock}
use Rattle.flat_prog.specs.declared.proc.FlatProc.{FlatProc}
use Rattle.passive_form.specs.Limited.{Limited}
use Rattle.passive_form.specs.Local.{State, is_target}
use Rattle.vc_gen.specs.Fold.{Edge, Given, comes, reached, entered, others, through, fan, out_next, out_of, passed, step, fold, is_return, is_end, ends, end_env}
use Rattle.vc_gen.specs.Alike.{Alike}

pub alike_same : (es : List Edge) → Alike es es
alike_same [] = tt
alike_same (e ∷ es) = ((refl, refl, λ h. refl), alike_same es)

pub alike_is : (es fs : List Edge) → es ≡ fs → Alike es fs
alike_is es fs h = subst (λ (x : List Edge). Alike es x) h (alike_same es)

pub alike_then : (es fs gs : List Edge) → Alike es fs → Alike fs gs → Alike es gs
alike_then [] [] gs h k = k
alike_then [] (f ∷ fs) gs h k = absurd h
alike_then (e ∷ es) [] gs h k = absurd h
alike_then (e ∷ es) (f ∷ fs) [] h k = k
alike_then (e ∷ es) (f ∷ fs) (g ∷ gs) ((t, l, v), h) ((t2, l2, v2), k) = ((t ∙ t2, l ∙ l2, λ on. v (l2 ∙ on) ∙ v2 on), alike_then es fs gs h k)

pub alike_append : (es fs gs hs : List Edge) → Alike es fs → Alike gs hs → Alike (es ++ gs) (fs ++ hs)
alike_append [] [] gs hs h k = k
alike_append [] (f ∷ fs) gs hs h k = absurd h
alike_append (e ∷ es) [] gs hs h k = absurd h
alike_append (e ∷ es) (f ∷ fs) gs hs (x, h) k = (x, alike_append es fs gs hs h k)

keep_alike : (b c : Bool) (e f : Edge) (es fs : List Edge) → b ≡ c → ((e.target ≡ f.target) × (e.live ≡ f.live) × (f.live ≡ true → e.env ≡ f.env)) → Alike es fs → Alike (if b then es else e ∷ es) (if c then fs else f ∷ fs)
keep_alike true c e f es fs h x k = subst (λ (y : Bool). Alike es (if y then fs else f ∷ fs)) h k
keep_alike false c e f es fs h x k = subst (λ (y : Bool). Alike (e ∷ es) (if y then fs else f ∷ fs)) h (x, k)

pub alike_others : (n : ℕ) (es fs : List Edge) → Alike es fs → Alike (others n es) (others n fs)
alike_others n [] [] h = tt
alike_others n [] (f ∷ fs) h = absurd h
alike_others n (e ∷ es) [] h = absurd h
alike_others n (e ∷ es) (f ∷ fs) (x, h) = keep_alike (is_target e.target n) (is_target f.target n) e f (others n es) (others n fs) (ap (λ t. is_target t n) x.0) x (alike_others n es fs h)

comes_alike : (n : ℕ) (e f : Edge) → e.target ≡ f.target → e.live ≡ f.live → comes n e ≡ comes n f
comes_alike n e f t l = ap (λ x. is_target x n && e.live) t ∙ ap (λ x. is_target f.target n && x) l

pub alike_reached : (n : ℕ) (es fs : List Edge) → Alike es fs → reached n es ≡ reached n fs
alike_reached n [] [] h = refl
alike_reached n [] (f ∷ fs) h = absurd h
alike_reached n (e ∷ es) [] h = absurd h
alike_reached n (e ∷ es) (f ∷ fs) (x, h) = ap (λ b. b || reached n es) (comes_alike n e f x.0 x.1) ∙ ap (λ b. comes n f || b) (alike_reached n es fs h)

second : (a b : Bool) → (a && b) ≡ true → b ≡ true
second true b h = h
second false b h = cc

or_second : (a b : Bool) → a ≡ false → (a || b) ≡ true → b ≡ true
or_second true b f h = cc
or_second false b f h = h

entered_by : (n : ℕ) (d c : Env) (e f : Edge) (es fs : List Edge) (b : Bool) → comes n f ≡ b → comes n e ≡ comes n f → (f.live ≡ true → e.env ≡ f.env) → (d ≡ c) ⊎ (reached n (f ∷ fs) ≡ true) →
    ((x y : Env) → (x ≡ y) ⊎ (reached n fs ≡ true) → entered n x es ≡ entered n y fs) → entered n d (e ∷ es) ≡ entered n c (f ∷ fs)
entered_by n d c e f es fs true k same env p go =
    ap (λ b. entered n (if b then e.env else d) es) (same ∙ k) ∙ go e.env f.env (inl (env (second (is_target f.target n) f.live k))) ∙ sym (ap (λ b. entered n (if b then f.env else c) fs) k)
entered_by n d c e f es fs false k same env (inl p) go =
    ap (λ b. entered n (if b then e.env else d) es) (same ∙ k) ∙ go d c (inl p) ∙ sym (ap (λ b. entered n (if b then f.env else c) fs) k)
entered_by n d c e f es fs false k same env (inr p) go =
    ap (λ b. entered n (if b then e.env else d) es) (same ∙ k) ∙ go d c (inr (or_second (comes n f) (reached n fs) k p)) ∙ sym (ap (λ b. entered n (if b then f.env else c) fs) k)

pub alike_entered : (n : ℕ) (d c : Env) (es fs : List Edge) → Alike es fs → (d ≡ c) ⊎ (reached n fs ≡ true) → entered n d es ≡ entered n c fs
alike_entered n d c [] [] h (inl p) = p
alike_entered n d c [] [] h (inr p) = cc
alike_entered n d c [] (f ∷ fs) h p = absurd h
alike_entered n d c (e ∷ es) [] h p = absurd h
alike_entered n d c (e ∷ es) (f ∷ fs) (x, h) p = entered_by n d c e f es fs (comes n f) refl (comes_alike n e f x.0 x.1) x.2 p (λ u v w. alike_entered n u v es fs h w)

-- edges that aren't live are alike
fan_off : (v w : Env) (ts : List ℕ) (cs : List Bool) → Alike (fan false v ts cs) (fan false w ts cs)
fan_off v w [] cs = tt
fan_off v w (t ∷ []) cs = ((refl, refl, λ h. cc), tt)
fan_off v w (t ∷ u ∷ ts) [] = ((refl, refl, λ h. cc), fan_off v w (u ∷ ts) [])
fan_off v w (t ∷ u ∷ ts) (c ∷ cs) = ((refl, refl, λ h. cc), fan_off v w (u ∷ ts) cs)

next_off : (n : FlatNext) (v w : Env) (cs : List Bool) → Alike (out_next n false v cs) (out_next n false w cs)
next_off (Goto ts) v w cs = fan_off v w ts cs
next_off Return v w cs = ((refl, refl, λ h. cc), tt)

pub out_off : (b : Option FlatBlock) (v w : Env) (cs : List Bool) → Alike (out_of b false v cs) (out_of b false w cs)
out_off None v w cs = tt
out_off (Some b) v w cs = next_off b.next v w cs

pub passed_off : (o : Option State) (b : Option FlatBlock) (d w : Env) (cs : List Bool) → Alike (passed o false b d cs) (out_of b false w cs)
passed_off None b d w cs = out_off b d w cs
passed_off (Some s) b d w cs = out_off b s.env w cs

pub off_passed : (o : Option State) (b : Option FlatBlock) (d w : Env) (cs : List Bool) → Alike (out_of b false w cs) (passed o false b d cs)
off_passed None b d w cs = out_off b w d cs
off_passed (Some s) b d w cs = out_off b w s.env cs

pub step_alike : (flat : Limited) (q : FlatProc) (d : Env) (g : Given) (es fs : List Edge) → Alike es fs → Alike (step flat q d g es) (step flat q d g fs)
step_alike flat q d g es fs h =
    alike_append (others g.number es) (others g.number fs) (passed (through flat q g (entered g.number d es)) (reached g.number es) b d g.choices) (passed (through flat q g (entered g.number d fs)) (reached g.number fs) b d g.choices)
    (alike_others g.number es fs h) (by (reached g.number fs) refl)
  where
    b : Option FlatBlock
    b = slice_get q.blocks g.number

    by : (r : Bool) → reached g.number fs ≡ r →
        Alike (passed (through flat q g (entered g.number d es)) (reached g.number es) b d g.choices) (passed (through flat q g (entered g.number d fs)) (reached g.number fs) b d g.choices)
    by true k =
        alike_is (passed (through flat q g (entered g.number d es)) (reached g.number es) b d g.choices) (passed (through flat q g (entered g.number d fs)) (reached g.number fs) b d g.choices)
        (ap (λ r. passed (through flat q g (entered g.number d es)) r b d g.choices) (alike_reached g.number es fs h)
        ∙ ap (λ v. passed (through flat q g v) (reached g.number fs) b d g.choices) (alike_entered g.number d d es fs h (inr k)))
    by false k =
        let P : Bool → Bool → Type 0 = λ x y. Alike (passed (through flat q g (entered g.number d es)) x b d g.choices) (passed (through flat q g (entered g.number d fs)) y b d g.choices) in
        let off : P false false =
        alike_then (passed (through flat q g (entered g.number d es)) false b d g.choices) (out_of b false d g.choices) (passed (through flat q g (entered g.number d fs)) false b d g.choices)
        (passed_off (through flat q g (entered g.number d es)) b d d g.choices) (off_passed (through flat q g (entered g.number d fs)) b d d g.choices) in
        subst (λ (x : Bool). P x (reached g.number fs)) (sym (alike_reached g.number es fs h ∙ k)) (subst (λ (y : Bool). P false y) (sym k) off)

-- at the end
end_alike : (e f : Edge) → e.target ≡ f.target → e.live ≡ f.live → is_end e ≡ is_end f
end_alike e f t l = ap (λ x. is_return x e.live) t ∙ ap (λ x. is_return f.target x) l

pub alike_ends : (es fs : List Edge) → Alike es fs → ends es ≡ ends fs
alike_ends [] [] h = refl
alike_ends [] (f ∷ fs) h = absurd h
alike_ends (e ∷ es) [] h = absurd h
alike_ends (e ∷ es) (f ∷ fs) (x, h) = ap (λ b. b || ends es) (end_alike e f x.0 x.1) ∙ ap (λ b. is_end f || b) (alike_ends es fs h)

live_end : (f : Edge) (t : Option ℕ) (on : Bool) → is_return t on ≡ true → on ≡ true
live_end f None on h = h
live_end f (Some n) on h = cc

end_env_by : (d c : Env) (e f : Edge) (es fs : List Edge) (b : Bool) → is_end f ≡ b → is_end e ≡ is_end f → (f.live ≡ true → e.env ≡ f.env) → (d ≡ c) ⊎ (ends (f ∷ fs) ≡ true) →
    ((x y : Env) → (x ≡ y) ⊎ (ends fs ≡ true) → end_env x es ≡ end_env y fs) → end_env d (e ∷ es) ≡ end_env c (f ∷ fs)
end_env_by d c e f es fs true k same env p go =
    ap (λ b. end_env (if b then e.env else d) es) (same ∙ k) ∙ go e.env f.env (inl (env (live_end f f.target f.live k))) ∙ sym (ap (λ b. end_env (if b then f.env else c) fs) k)
end_env_by d c e f es fs false k same env (inl p) go =
    ap (λ b. end_env (if b then e.env else d) es) (same ∙ k) ∙ go d c (inl p) ∙ sym (ap (λ b. end_env (if b then f.env else c) fs) k)
end_env_by d c e f es fs false k same env (inr p) go =
    ap (λ b. end_env (if b then e.env else d) es) (same ∙ k) ∙ go d c (inr (or_second (is_end f) (ends fs) k p)) ∙ sym (ap (λ b. end_env (if b then f.env else c) fs) k)

pub alike_end_env : (d c : Env) (es fs : List Edge) → Alike es fs → (d ≡ c) ⊎ (ends fs ≡ true) → end_env d es ≡ end_env c fs
alike_end_env d c [] [] h (inl p) = p
alike_end_env d c [] [] h (inr p) = cc
alike_end_env d c [] (f ∷ fs) h p = absurd h
alike_end_env d c (e ∷ es) [] h p = absurd h
alike_end_env d c (e ∷ es) (f ∷ fs) (x, h) p = end_env_by d c e f es fs (is_end f) refl (end_alike e f x.0 x.1) x.2 p (λ u v w. alike_end_env u v es fs h w)

-- one block more
pub fold_push : (flat : Limited) (q : FlatProc) (d : Env) (gs : List Given) (g : Given) (es : List Edge) → fold flat q d (gs ++ g ∷ []) es ≡ step flat q d g (fold flat q d gs es)
fold_push flat q d [] g es = refl
fold_push flat q d (h ∷ gs) g es = fold_push flat q d gs g (step flat q d h es)
