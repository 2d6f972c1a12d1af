-- Edges that are passed, block by block.
use Rattle.std.proofs.Common.{◌≡◌, ℕ, ◌+◌, Bool, true, false, List, [], ◌∷◌, ◌++◌, sym, ◌∙◌, ap, refl, inr, append-nil, append_assoc}
use Rattle.std.specs.Prelude.{Option, None, Some, slice_get}
use Rattle.hy_val.specs.declared.expr.Env.{Env}
use Rattle.flat_prog.specs.declared.block.FlatNext.{FlatNext}
use Rattle.flat_prog.specs.declared.block.FlatNext.TheVariants.{Goto, Return}
use Rattle.flat_prog.specs.declared.block.FlatBlock.{FlatBlock}
use Rattle.flat_prog.specs.declared.proc.FlatProc.{FlatProc}
use Rattle.passive_form.specs.Limited.{Limited}
use Rattle.passive_form.specs.Local.{State}
use Rattle.vc_gen.specs.Fold.{Edge, Given, Seen, reached, entered, others, through, fan, out_next, passed, step, fold, places_on, edges_next, edges_out, live_edges}
use Rattle.vc_gen.specs.Passages.{marked, targets_on, passages_seen, all_passages, places_seen, all_places}
use Rattle.vc_gen.specs.Alike.{Alike}
use Rattle.vc_gen.proofs.Alikes.{alike_reached, alike_entered}
use Rattle.vc_gen.proofs.Reach.{edges_off, edges_next_off}

pub live_push : (flat : Limited) (q : FlatProc) (d : Env) (gs : List Given) (g : Given) (es : List Edge) → live_edges flat q d (gs ++ g ∷ []) es
    ≡ live_edges flat q d gs es ++ edges_out g.number (through flat q g (entered g.number d (fold flat q d gs es))) (reached g.number (fold flat q d gs es)) (slice_get q.blocks g.number) g.choices
live_push flat q d [] g es = append-nil (edges_out g.number (through flat q g (entered g.number d es)) (reached g.number es) (slice_get q.blocks g.number) g.choices)
live_push flat q d (h ∷ gs) g es =
    let first = edges_out h.number (through flat q h (entered h.number d es)) (reached h.number es) (slice_get q.blocks h.number) h.choices in
    let fs = step flat q d h es in
    let last = edges_out g.number (through flat q g (entered g.number d (fold flat q d gs fs))) (reached g.number (fold flat q d gs fs)) (slice_get q.blocks g.number) g.choices in
    ap (λ x. first ++ x) (live_push flat q d gs g fs) ∙ sym (append_assoc first (live_edges flat q d gs fs) last)

-- the variables matter only where the block is reached
pub alike_out : (flat : Limited) (q : FlatProc) (d : Env) (g : Given) (es fs : List Edge) → Alike es fs →
    edges_out g.number (through flat q g (entered g.number d es)) (reached g.number es) (slice_get q.blocks g.number) g.choices
    ≡ edges_out g.number (through flat q g (entered g.number d fs)) (reached g.number fs) (slice_get q.blocks g.number) g.choices
alike_out flat q d g es fs h =
    ap (λ r. edges_out g.number (through flat q g (entered g.number d es)) r (slice_get q.blocks g.number) g.choices) (alike_reached g.number es fs h)
    ∙ by (reached g.number fs) (λ k. alike_entered g.number d d es fs h (inr k))
  where
    by : (r : Bool) → (r ≡ true → entered g.number d es ≡ entered g.number d fs) →
        edges_out g.number (through flat q g (entered g.number d es)) r (slice_get q.blocks g.number) g.choices ≡ edges_out g.number (through flat q g (entered g.number d fs)) r (slice_get q.blocks g.number) g.choices
    by true e = ap (λ v. edges_out g.number (through flat q g v) true (slice_get q.blocks g.number) g.choices) (e refl)
    by false e = edges_off g.number (through flat q g (entered g.number d es)) (slice_get q.blocks g.number) g.choices ∙ sym (edges_off g.number (through flat q g (entered g.number d fs)) (slice_get q.blocks g.number) g.choices)

-- all edges of a goto have a target
fan_targets : (n p : ℕ) (on : Bool) (env : Env) (ts : List ℕ) (cs : List Bool) → targets_on n p (fan on env ts cs) ≡ places_on n p (fan on env ts cs)
fan_targets n p on env [] cs = refl
fan_targets n p true env (t ∷ []) cs = refl
fan_targets n p false env (t ∷ []) cs = refl
fan_targets n p on env (t ∷ u ∷ ts) [] = fan_targets n (p + 1) on env (u ∷ ts) []
fan_targets n p true env (t ∷ u ∷ ts) (true ∷ cs) = ap (λ r. (n, p) ∷ r) (fan_targets n (p + 1) false env (u ∷ ts) cs)
fan_targets n p true env (t ∷ u ∷ ts) (false ∷ cs) = fan_targets n (p + 1) true env (u ∷ ts) cs
fan_targets n p false env (t ∷ u ∷ ts) (c ∷ cs) = fan_targets n (p + 1) false env (u ∷ ts) cs

next_targets : (n : ℕ) (next : FlatNext) (on : Bool) (env : Env) (cs : List Bool) → targets_on n 0 (out_next next on env cs) ≡ edges_next n next on env cs
next_targets n (Goto ts) on env cs = fan_targets n 0 on env ts cs
next_targets n Return on env cs = refl

passed_targets : (n : ℕ) (o : Option State) (on : Bool) (b : FlatBlock) (d : Env) (cs : List Bool) → targets_on n 0 (passed o on (Some b) d cs) ≡ edges_out n o on (Some b) cs
passed_targets n None on b d cs = next_targets n b.next false d cs ∙ edges_next_off n b.next d cs
passed_targets n (Some s) on b d cs = next_targets n b.next on s.env cs

alike_targets : (n p : ℕ) (es fs : List Edge) → Alike es fs → targets_on n p es ≡ targets_on n p fs
alike_targets n p [] [] h = refl
alike_targets n p [] (f ∷ fs) h = absurd h
alike_targets n p (e ∷ es) [] h = absurd h
alike_targets n p (e ∷ es) (f ∷ fs) ((t, l, v), h) =
    ap (λ x. marked n p x e.live ++ targets_on n (p + 1) es) t ∙ ap (λ x. marked n p f.target x ++ targets_on n (p + 1) es) l ∙ ap (λ r. marked n p f.target f.live ++ r) (alike_targets n (p + 1) es fs h)

alike_behind : (xs ys zs : List Edge) → Alike (xs ++ ys) (xs ++ zs) → Alike ys zs
alike_behind [] ys zs h = h
alike_behind (x ∷ xs) ys zs (e, h) = alike_behind xs ys zs h

-- edges alike those that leave a block are passed as these are
pub out_targets : (flat : Limited) (q : FlatProc) (d : Env) (g : Given) (es next : List Edge) (b : FlatBlock) → slice_get q.blocks g.number ≡ Some b → Alike (others g.number es ++ next) (step flat q d g es) →
    targets_on g.number 0 next ≡ edges_out g.number (through flat q g (entered g.number d es)) (reached g.number es) (slice_get q.blocks g.number) g.choices
out_targets flat q d g es next b at h =
    let o = through flat q g (entered g.number d es) in
    let on = reached g.number es in
    alike_targets g.number 0 next (passed o on (slice_get q.blocks g.number) d g.choices) (alike_behind (others g.number es) next (passed o on (slice_get q.blocks g.number) d g.choices) h)
    ∙ ap (λ x. targets_on g.number 0 (passed o on x d g.choices)) at ∙ passed_targets g.number o on b d g.choices ∙ ap (λ x. edges_out g.number o on x g.choices) (sym at)

pub places_push : (flat : Limited) (q : FlatProc) (xs : List Seen) (x : Seen) → all_places flat q (xs ++ x ∷ []) ≡ all_places flat q xs ++ places_seen flat q x
places_push flat q [] x = append-nil (places_seen flat q x)
places_push flat q (y ∷ xs) x = ap (λ r. places_seen flat q y ++ r) (places_push flat q xs x) ∙ sym (append_assoc (places_seen flat q y) (all_places flat q xs) (places_seen flat q x))

pub passages_push : (flat : Limited) (q : FlatProc) (xs : List Seen) (x : Seen) → all_passages flat q (xs ++ x ∷ []) ≡ all_passages flat q xs ++ passages_seen flat q x
passages_push flat q [] x = append-nil (passages_seen flat q x)
passages_push flat q (y ∷ xs) x = ap (λ r. passages_seen flat q y ++ r) (passages_push flat q xs x) ∙ sym (append_assoc (passages_seen flat q y) (all_passages flat q xs) (passages_seen flat q x))
