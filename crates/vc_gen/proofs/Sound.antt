-- From the values of an assignment to a run that ends.
use Rattle.std.proofs.Common.{◌≡◌, ℕ, Bool, true, false, ◌&&◌, List, [], ◌∷◌, ◌++◌, arith, sym, ◌∙◌, ap, refl, subst, inl, append-nil}
use Rattle.std.specs.Prelude.{Option, None, Some, nat_eq, if◌then◌else◌, slice_get, option_and_then}
use Rattle.std.proofs.lemmas.Bool.Decides.{nat_tests}
use Rattle.hy_val.specs.declared.value.Value.{Value}
use Rattle.hy_val.specs.declared.expr.Env.{Env}
use Rattle.flat_prog.specs.declared.block.FlatNext.{FlatNext}
use Rattle.flat_prog.specs.declared.block.FlatNext.TheVariants.{Goto, Return}
use Rattle.flat_prog.specs.declared.block.FlatBlock.{FlatBlock}
use Rattle.flat_prog.specs.declared.proc.FlatProc.{FlatProc}
use Rattle.passive_form.specs.Limited.{Limited}
use Rattle.passive_form.specs.Local.{State, LocalEnds, walk, pass_all, cmds_of, is_target}
use Rattle.flat_prog.specs.Local.{Request, Result, outs_of}
use Rattle.flat_prog.specs.Shape.{place_at, place_of}
use Rattle.vc_gen.specs.Fold.{Edge, Given, reached, others, through, closed, is_nil, fan, out_next, out_of, passed, step, fold, Dead, One, ends, end_env}
use Rattle.vc_gen.proofs.Frames.{framed, pass_all_frame, walk_frame}
use Rattle.vc_gen.proofs.Edges.{dead_append, dead_out, dead_fold, dead_ends, one_reached, one_entered, one_dead, one_right, one_fan, end_step, end_fold, one_end_env, one_no_end}

-- a run from a block that ends
pub record Going (flat : Limited) (q : FlatProc) (b : ℕ) (env over : Env) : Type 0 where
  pub path : List ℕ
  pub places : List ℕ
  pub values : List Value
  pub results : List Result
  pub calls : List Request
  pub run : LocalEnds flat q (record { proc = 0; path = b ∷ path; places = places; values = values }) (record { env = env; values = values; results = []; calls = [] }) results calls (outs_of q over.locals) over.globals

abbrev at_env : Env → State
at_env env = record { env = env; values = []; results = []; calls = [] }

-- what is left where all is taken
pub nil_is : {A : Type 0} (xs : List A) → is_nil xs ≡ true → xs ≡ []
nil_is [] h = refl
nil_is (x ∷ xs) h = cc

choose_nil : {A B : Type 0} (xs : List A) (ys : List B) (s t : State) → (if is_nil xs && is_nil ys then Some s else None) ≡ Some t → (xs ≡ []) × (ys ≡ []) × (s ≡ t)
choose_nil [] [] s t h = (refl, refl, cc)
choose_nil (x ∷ xs) ys s t h = cc
choose_nil [] (y ∷ ys) s t h = cc

pub closed_is : (o : Option State) (s : State) → closed o ≡ Some s → (o ≡ Some s) × (s.values ≡ []) × (s.results ≡ [])
closed_is None s h = cc
closed_is (Some t) s h =
    let r = choose_nil t.values t.results t s h in
    (ap (λ x. Some x) r.2, ap (λ (x : State). x.values) (sym r.2) ∙ r.0, ap (λ (x : State). x.results) (sym r.2) ∙ r.1)

-- the run that returns at once
abbrev pub returns : (flat : Limited) (q : FlatProc) (b : ℕ) (block : FlatBlock) (env : Env) (values : List Value) (results : List Result) (s : State) →
    slice_get q.blocks b ≡ Some block → block.next ≡ Return → closed (pass_all flat q (cmds_of (Some block)) (record { env = env; values = values; results = results; calls = [] })) ≡ Some s →
    Going flat q b env s.env
returns flat q b block env values results s at next h =
    let start : State = record { env = env; values = values; results = results; calls = [] } in
    let r = closed_is (pass_all flat q block.cmds start) s h in
    record {
      path = [];
      places = [];
      values = values;
      results = results;
      calls = s.calls;
      run = record {
        last = block;
        arrived = start;
        over = s;
        walks = ap (λ x. Some (x, start)) at;
        passes = r.0;
        returns = next;
        taken = (r.1, r.2);
        calls_are = refl;
        outs_are = refl;
        globals_are = refl;
      };
    }

-- the edge is one of the walk
pub edge_is : (o : Option ℕ) (t : ℕ) → o ≡ Some t → is_target o t ≡ true
edge_is o t h = ap (λ x. is_target x t) h ∙ grind (arith, nat_tests)

pub same_state : (env : Env) (v w : List Value) (r t : List Result) (c k : List Request) → v ≡ w → r ≡ t → c ≡ k →
    ◌≡◌ {A = State} (record { env = env; values = v; results = r; calls = c }) (record { env = env; values = w; results = t; calls = k })
same_state env v w r t c k a b e =
    ap {B = State} (λ x. record { env = env; values = x; results = r; calls = c }) a
    ∙ ap {B = State} (λ x. record { env = env; values = w; results = x; calls = c }) b
    ∙ ap {B = State} (λ x. record { env = env; values = w; results = t; calls = x }) e

-- the run goes on from the target
abbrev pub goes : (flat : Limited) (q : FlatProc) (b : ℕ) (block : FlatBlock) (env over : Env) (values : List Value) (results : List Result) (s : State) (place t : ℕ) →
    slice_get q.blocks b ≡ Some block → place_of block.next place ≡ Some t → closed (pass_all flat q block.cmds (record { env = env; values = values; results = results; calls = [] })) ≡ Some s →
    Going flat q t s.env over → Going flat q b env over
goes flat q b block env over values results s place t at edge h more =
    let r = closed_is (pass_all flat q block.cmds (record { env = env; values = values; results = results; calls = [] })) s h in
    let start : State = record { env = env; values = values ++ more.values; results = results ++ more.results; calls = [] } in
    let next : State = record { env = s.env; values = more.values; results = more.results; calls = [] } in
    let p = pass_all_frame flat q block.cmds more.values more.results [] (record { env = env; values = values; results = results; calls = [] }) s r.0 in
    let same : framed more.values more.results [] s ≡ framed [] [] s.calls next =
    same_state s.env (s.values ++ more.values) (more.values ++ []) (s.results ++ more.results) (more.results ++ []) s.calls (s.calls ++ [])
    (ap (λ xs. xs ++ more.values) r.1 ∙ sym (append-nil more.values)) (ap (λ xs. xs ++ more.results) r.2 ∙ sym (append-nil more.results)) (sym (append-nil s.calls)) in
    let w = walk_frame flat q (t ∷ more.path) more.places [] [] s.calls next more.run.arrived (Some more.run.last) more.run.walks in
    record {
      path = t ∷ more.path;
      places = place ∷ more.places;
      values = values ++ more.values;
      results = results ++ more.results;
      calls = s.calls ++ more.calls;
      run = record {
        last = more.run.last;
        arrived = framed [] [] s.calls more.run.arrived;
        over = framed [] [] s.calls more.run.over;
        walks =
            ap (λ x. if x then option_and_then (walk flat q (t ∷ more.path) more.places) (pass_all flat q (cmds_of (slice_get q.blocks b)) start) else None)
            (edge_is (place_at (slice_get q.blocks b) place) t (ap (λ x. place_at x place) at ∙ edge))
            ∙ ap (λ x. option_and_then (walk flat q (t ∷ more.path) more.places) (pass_all flat q (cmds_of x) start)) at
            ∙ ap (option_and_then (walk flat q (t ∷ more.path) more.places)) (p ∙ ap (λ x. Some x) same)
            ∙ w;
        passes = pass_all_frame flat q more.run.last.cmds [] [] s.calls more.run.arrived more.run.over more.run.passes;
        returns = more.run.returns;
        taken = (append-nil more.run.over.values ∙ more.run.taken.0, append-nil more.run.over.results ∙ more.run.taken.1);
        calls_are = ap (λ x. s.calls ++ x) more.run.calls_are;
        outs_are = more.run.outs_are;
        globals_are = more.run.globals_are;
      };
    }

pub no_end : (b : Bool) → b ≡ false → b ≡ true → ⊥
no_end b f t = cc

-- what holds of the blocks that are left
abbrev Rest : Limited → FlatProc → Env → List Given → Type 0
Rest flat q d gs = (es : List Edge) (b : ℕ) (env : Env) → One es (Some b) env → ends (fold flat q d gs es) ≡ true → Going flat q b env (end_env d (fold flat q d gs es))

pub dead_end : (flat : Limited) (q : FlatProc) (d : Env) (gs : List Given) (es : List Edge) → Dead es → ends (fold flat q d gs es) ≡ true → ⊥
dead_end flat q d gs es k h = no_end (ends (fold flat q d gs es)) (dead_ends (fold flat q d gs es) (dead_fold flat q d gs es k)) h

by_next : (flat : Limited) (q : FlatProc) (d : Env) (gs : List Given) → Rest flat q d gs → (g : Given) (before : List Edge) (env : Env) (s : State) (block : FlatBlock) (next : FlatNext) →
    Dead before → slice_get q.blocks g.number ≡ Some block → block.next ≡ next → closed (pass_all flat q block.cmds (record { env = env; values = g.values; results = g.results; calls = [] })) ≡ Some s →
    ends (fold flat q d gs (before ++ out_next next true s.env g.choices)) ≡ true →
    Going flat q g.number env (end_env d (fold flat q d gs (before ++ out_next next true s.env g.choices)))
by_next flat q d gs rest g before env s block Return k at next h e =
    let one = end_fold flat q d gs (before ++ out_next Return true s.env g.choices) s.env
    (one_right before (out_next Return true s.env g.choices) None s.env k (inl (refl, refl, refl, tt))) in
    subst (λ x. Going flat q g.number env x) (sym (one_end_env d (fold flat q d gs (before ++ out_next Return true s.env g.choices)) s.env one))
    (returns flat q g.number block env g.values g.results s at next h)
by_next flat q d gs rest g before env s block (Goto []) k at next h e =
    absurd (dead_end flat q d gs (before ++ []) (dead_append before [] k tt) e)
by_next flat q d gs rest g before env s block (Goto (u ∷ ts)) k at next h e =
    let f = one_fan s.env u ts g.choices in
    goes flat q g.number block env (end_env d (fold flat q d gs (before ++ fan true s.env (u ∷ ts) g.choices))) g.values g.results s f.0 f.1 at
    (ap (λ x. place_of x f.0) next ∙ f.2) h
    (rest (before ++ fan true s.env (u ∷ ts) g.choices) f.1 s.env (one_right before (fan true s.env (u ∷ ts) g.choices) (Some f.1) s.env k f.3) e)

by_state : (flat : Limited) (q : FlatProc) (d : Env) (gs : List Given) → Rest flat q d gs → (g : Given) (before : List Edge) (env : Env) (o : Option State) (b : Option FlatBlock) →
    Dead before → slice_get q.blocks g.number ≡ b → through flat q g env ≡ o →
    ends (fold flat q d gs (before ++ passed o true b d g.choices)) ≡ true →
    Going flat q g.number env (end_env d (fold flat q d gs (before ++ passed o true b d g.choices)))
by_state flat q d gs rest g before env None b k at h e =
    absurd (dead_end flat q d gs (before ++ out_of b false d g.choices) (dead_append before (out_of b false d g.choices) k (dead_out b d g.choices)) e)
by_state flat q d gs rest g before env (Some s) None k at h e =
    absurd (dead_end flat q d gs (before ++ []) (dead_append before [] k tt) e)
by_state flat q d gs rest g before env (Some s) (Some block) k at h e =
    by_next flat q d gs rest g before env s block block.next k at refl
    (sym (ap (λ x. closed (pass_all flat q (cmds_of x) (record { env = env; values = g.values; results = g.results; calls = [] }))) at) ∙ h) e

here : (flat : Limited) (q : FlatProc) (d : Env) (gs : List Given) → Rest flat q d gs → (g : Given) (es : List Edge) (env : Env) → One es (Some g.number) env →
    ends (fold flat q d (g ∷ gs) es) ≡ true → Going flat q g.number env (end_env d (fold flat q d (g ∷ gs) es))
here flat q d gs rest g es env one h =
    let is : step flat q d g es ≡ others g.number es ++ passed (through flat q g env) true (slice_get q.blocks g.number) d g.choices =
    ap (λ x. others g.number es ++ passed (through flat q g x) (reached g.number es) (slice_get q.blocks g.number) d g.choices) (one_entered g.number d es env one)
    ∙ ap (λ x. others g.number es ++ passed (through flat q g env) x (slice_get q.blocks g.number) d g.choices) (one_reached g.number es env one) in
    subst (λ x. Going flat q g.number env (end_env d (fold flat q d gs x))) (sym is)
    (by_state flat q d gs rest g (others g.number es) env (through flat q g env) (slice_get q.blocks g.number) (one_dead g.number es env one) refl refl
    (sym (ap (λ x. ends (fold flat q d gs x)) is) ∙ h))

pub number_is : (b n : ℕ) → nat_eq b n ≡ true → n ≡ b
number_is b n h = grind (arith, nat_tests, h)

by_number : (flat : Limited) (q : FlatProc) (d : Env) (gs : List Given) → Rest flat q d gs → (g : Given) (es : List Edge) (b : ℕ) (env : Env) (x : Bool) → nat_eq b g.number ≡ x → One es (Some b) env →
    ends (fold flat q d (g ∷ gs) es) ≡ true → Going flat q b env (end_env d (fold flat q d (g ∷ gs) es))
by_number flat q d gs rest g es b env false f one h = rest (step flat q d g es) b env (end_step flat q d g es (Some b) env f one) h
by_number flat q d gs rest g es b env true f one h =
    let same = number_is b g.number f in
    subst (λ x. Going flat q x env (end_env d (fold flat q d (g ∷ gs) es))) same
    (here flat q d gs rest g es env (subst (λ x. One es (Some x) env) (sym same) one) h)

-- the live edge leads to a run that ends
pub sound : (flat : Limited) (q : FlatProc) (d : Env) (gs : List Given) (es : List Edge) (b : ℕ) (env : Env) →
    One es (Some b) env → ends (fold flat q d gs es) ≡ true → Going flat q b env (end_env d (fold flat q d gs es))
sound flat q d [] es b env one h = absurd (no_end (ends es) (one_no_end es b env one) h)
sound flat q d (g ∷ gs) es b env one h = by_number flat q d gs (sound flat q d gs) g es b env (nat_eq b g.number) refl one h
