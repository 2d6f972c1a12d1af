-- Of the blocks that are reached at most one fails: behind it no edge is live.
use Rattle.std.proofs.Common.{◌≡◌, ℕ, ◌+◌, Bool, true, false, ◌&&◌, ◌||◌, List, [], ◌∷◌, ◌++◌, arith, sym, ◌∙◌, ap, refl, subst, inl}
use Rattle.std.specs.Prelude.{Option, None, Some, nat_eq, slice_get}
use Rattle.hy_val.specs.declared.expr.Env.{Env}
use Rattle.flat_prog.specs.declared.block.FlatNext.{FlatNext}
use Rattle.flat_prog.specs.declared.block.FlatNext.TheVariants.{Goto, Return}
use Rattle.flat_prog.specs.declared.block.FlatBlock.{FlatBlock}
use Rattle.flat_prog.specs.declared.proc.FlatProc.{FlatProc}
use Rattle.passive_form.specs.Limited.{Limited}
use Rattle.passive_form.specs.Local.{State, alone, cmds_of, pass_all}
use Rattle.vc_gen.specs.Fold.{Edge, Given, Seen, seen, seen_at, reached, entered, others, closed, through, fan, out_next, out_of, passed, step, Dead, One}
use Rattle.vc_gen.specs.Breaking.{breaks, breaks_seen, any_breaks}
use Rattle.vc_gen.specs.Singly.{one_if, count_breaks}
use Rattle.vc_gen.proofs.Edges.{dead_append, dead_out, one_reached, one_entered, one_dead, one_unreached, one_right, end_step}
use Rattle.vc_gen.proofs.Reach.{taken}
use Rattle.vc_gen.proofs.Sound.{number_is}
use Rattle.vc_gen.proofs.Breaches.{break_place}
use Rattle.vc_gen.proofs.Failures.{dead_whole, end_whole, stop_all}

-- as many blocks are reached and fail as the bit says
abbrev Single : Limited → FlatProc → List Seen → Type 0
Single flat q xs = count_breaks flat q xs ≡ one_if (any_breaks flat q xs)

none_single : (flat : Limited) (q : FlatProc) (xs : List Seen) → any_breaks flat q xs ≡ false → count_breaks flat q xs ≡ 0
none_single flat q [] h = refl
none_single flat q (x ∷ xs) h = by (breaks_seen flat q x) h (λ k. none_single flat q xs k)
  where
    by : (b : Bool) → (b || any_breaks flat q xs) ≡ false → (any_breaks flat q xs ≡ false → count_breaks flat q xs ≡ 0) → one_if b + count_breaks flat q xs ≡ 0
    by true k go = cc
    by false k go = let r = go k in omega (arith, r)

pub count_push : (flat : Limited) (q : FlatProc) (xs : List Seen) (x : Seen) → count_breaks flat q (xs ++ x ∷ []) ≡ count_breaks flat q xs + one_if (breaks_seen flat q x)
count_push flat q [] x = let e : one_if (breaks_seen flat q x) + 0 ≡ 0 + one_if (breaks_seen flat q x) = omega arith in e
count_push flat q (y ∷ xs) x = let r = count_push flat q xs x in omega (arith, r)

-- whether the first fails or not, where none of the others does
one_first : (flat : Limited) (q : FlatProc) (b : Bool) (xs : List Seen) → any_breaks flat q xs ≡ false → one_if b + count_breaks flat q xs ≡ one_if (b || any_breaks flat q xs)
one_first flat q true xs h = let r = none_single flat q xs h in omega (arith, r)
one_first flat q false xs h = let r = none_single flat q xs h in let s : one_if (any_breaks flat q xs) ≡ 0 = ap one_if h in omega (arith, r, s)

-- the others, where the first doesn't fail
off_first : (flat : Limited) (q : FlatProc) (xs : List Seen) → Single flat q xs → one_if false + count_breaks flat q xs ≡ one_if (false || any_breaks flat q xs)
off_first flat q xs h = omega (arith, h)

abbrev Rest : Limited → FlatProc → Env → List Given → Type 0
Rest flat q d gs = (es : List Edge) (b : ℕ) (env : Env) → One es (Some b) env → Single flat q (seen flat q d gs es)

single_none : (flat : Limited) (q : FlatProc) (xs : List Seen) → any_breaks flat q xs ≡ false → Single flat q xs
single_none flat q xs h = none_single flat q xs h ∙ sym (ap one_if h)

by_next : (flat : Limited) (q : FlatProc) (d : Env) (gs : List Given) → Rest flat q d gs → (g : Given) (before : List Edge) (s : State) (next : FlatNext) → Dead before → Single flat q (seen flat q d gs (before ++ out_next next true s.env g.choices))
by_next flat q d gs rest g before s Return k =
    let es = before ++ out_next Return true s.env g.choices in
    single_none flat q (seen flat q d gs es) (end_whole flat q d gs es s.env (one_right before (out_next Return true s.env g.choices) None s.env k (inl (refl, refl, refl, tt))))
by_next flat q d gs rest g before s (Goto []) k = single_none flat q (seen flat q d gs (before ++ [])) (dead_whole flat q d gs (before ++ []) (dead_append before [] k tt))
by_next flat q d gs rest g before s (Goto (u ∷ ts)) k =
    let f = taken s.env u ts g.choices g.number 0 in
    rest (before ++ fan true s.env (u ∷ ts) g.choices) f.to s.env (one_right before (fan true s.env (u ∷ ts) g.choices) (Some f.to) s.env k f.one)

-- the block g is reached, and ends or passes
by_state : (flat : Limited) (q : FlatProc) (d : Env) (gs : List Given) → Rest flat q d gs → (g : Given) (before : List Edge) (env : Env) (o : Option State) (b : Option FlatBlock) (x : Bool) →
    Dead before → slice_get q.blocks g.number ≡ b → through flat q g env ≡ o → breaks flat q (cmds_of b) (alone env g.values g.results []) ≡ x →
    one_if x + count_breaks flat q (seen flat q d gs (before ++ passed o true b d g.choices)) ≡ one_if (x || any_breaks flat q (seen flat q d gs (before ++ passed o true b d g.choices)))
by_state flat q d gs rest g before env None b x k at h y =
    let es = before ++ out_of b false d g.choices in
    one_first flat q x (seen flat q d gs es) (dead_whole flat q d gs es (dead_append before (out_of b false d g.choices) k (dead_out b d g.choices)))
by_state flat q d gs rest g before env (Some s) None x k at h y = one_first flat q x (seen flat q d gs (before ++ [])) (dead_whole flat q d gs (before ++ []) (dead_append before [] k tt))
by_state flat q d gs rest g before env (Some s) (Some block) true k at h y =
    let r = break_place flat q block.cmds (alone env g.values g.results []) y in
    let none : pass_all flat q block.cmds (alone env g.values g.results []) ≡ None =
    ap (λ cs. pass_all flat q cs (alone env g.values g.results [])) r.splits ∙ stop_all flat q r.before r.at r.after (alone env g.values g.results []) r.over r.passes r.breaks_is in
    let w : closed None ≡ Some s = sym (ap (λ o. closed (pass_all flat q (cmds_of o) (alone env g.values g.results []))) at ∙ ap closed none) ∙ h in
    cc
by_state flat q d gs rest g before env (Some s) (Some block) false k at h y =
    off_first flat q (seen flat q d gs (before ++ out_next block.next true s.env g.choices)) (by_next flat q d gs rest g before s block.next k)

here : (flat : Limited) (q : FlatProc) (d : Env) (gs : List Given) → Rest flat q d gs → (g : Given) (es : List Edge) (env : Env) → One es (Some g.number) env → Single flat q (seen flat q d (g ∷ gs) es)
here flat q d gs rest g es env one =
    let before = others g.number es in
    let block = slice_get q.blocks g.number in
    let P : Env → Bool → Type 0 = λ v r.
    one_if (r && breaks flat q (cmds_of block) (alone v g.values g.results [])) + count_breaks flat q (seen flat q d gs (before ++ passed (through flat q g v) r block d g.choices))
    ≡ one_if ((r && breaks flat q (cmds_of block) (alone v g.values g.results [])) || any_breaks flat q (seen flat q d gs (before ++ passed (through flat q g v) r block d g.choices))) in
    subst (λ r. P (entered g.number d es) r) (sym (one_reached g.number es env one))
    (subst (λ v. P v true) (sym (one_entered g.number d es env one))
    (by_state flat q d gs rest g before env (through flat q g env) block (breaks flat q (cmds_of block) (alone env g.values g.results [])) (one_dead g.number es env one) refl refl refl))

-- a block that isn't reached doesn't fail
not_here : (flat : Limited) (q : FlatProc) (d : Env) (g : Given) (gs : List Given) (es : List Edge) → reached g.number es ≡ false → Single flat q (seen flat q d gs (step flat q d g es)) → Single flat q (seen flat q d (g ∷ gs) es)
not_here flat q d g gs es off h =
    let xs = seen flat q d gs (step flat q d g es) in
    let none : breaks_seen flat q (seen_at d g es) ≡ false = ap (λ b. b && breaks flat q (cmds_of (slice_get q.blocks g.number)) (alone (entered g.number d es) g.values g.results [])) off in
    ap (λ b. one_if b + count_breaks flat q xs) none ∙ off_first flat q xs h ∙ sym (ap (λ b. one_if (b || any_breaks flat q xs)) none)

by_number : (flat : Limited) (q : FlatProc) (d : Env) (gs : List Given) → Rest flat q d gs → (g : Given) (es : List Edge) (b : ℕ) (env : Env) (x : Bool) → nat_eq b g.number ≡ x → One es (Some b) env → Single flat q (seen flat q d (g ∷ gs) es)
by_number flat q d gs rest g es b env true f one = here flat q d gs rest g es env (subst (λ x. One es (Some x) env) (sym (number_is b g.number f)) one)
by_number flat q d gs rest g es b env false f one =
    not_here flat q d g gs es (one_unreached g.number es (Some b) env f one) (rest (step flat q d g es) b env (end_step flat q d g es (Some b) env f one))

-- of the blocks that are reached from an edge at most one fails
pub at_most_one : (flat : Limited) (q : FlatProc) (d : Env) (gs : List Given) → Rest flat q d gs
at_most_one flat q d [] es b env one = refl
at_most_one flat q d (g ∷ gs) es b env one = by_number flat q d gs (at_most_one flat q d gs) g es b env (nat_eq b g.number) refl one
