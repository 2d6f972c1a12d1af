-- Each block that is reached is reached by a path, whose edges are those that are passed before it.
use Rattle.std.proofs.Common.{◌≡◌, ℕ, ◌+◌, zero, suc, Bool, true, false, List, [], ◌∷◌, ◌++◌, take, arith, sym, ◌∙◌, ap, refl, subst, inl, inr, append-nil, append_assoc}
use Rattle.std.specs.Prelude.{Option, None, Some, nat_eq, if◌then◌else◌, slice_get, option_and_then}
use Rattle.std.proofs.lemmas.Grind.{common_steps}
use Rattle.hy_val.specs.declared.value.Value.{Value}
use Rattle.hy_val.specs.declared.expr.Env.{Env}
use Rattle.flat_prog.specs.declared.block.FlatNext.{FlatNext}
use Rattle.flat_prog.specs.declared.block.FlatNext.TheVariants.{Goto, Return}
use Rattle.flat_prog.specs.declared.block.FlatBlock.{FlatBlock}
use Rattle.flat_prog.specs.declared.proc.FlatProc.{FlatProc}
use Rattle.passive_form.specs.Limited.{Limited}
use Rattle.passive_form.specs.Local.{State, alone, walk, pass_all, cmds_of}
use Rattle.flat_prog.specs.Local.{Request, Result, edges_of}
use Rattle.flat_prog.specs.Shape.{place_at, place_of}
use Rattle.vc_gen.specs.Fold.{Edge, Given, Seen, seen, places_on, edges_next, edges_out, live_edges, reached, entered, others, through, closed, fan, out_next, out_of, passed, step, Dead, One}
use Rattle.vc_gen.proofs.Frames.{pass_all_frame, walk_frame}
use Rattle.vc_gen.proofs.Edges.{dead_append, dead_out, dead_reached, dead_step, one_reached, one_entered, one_dead, one_unreached, one_right, end_step}
use Rattle.vc_gen.proofs.Sound.{closed_is, same_state, edge_is, number_is}

-- a path from b with env to c with over, whatever values and results come after; these edges are passed
pub record Reaches (flat : Limited) (q : FlatProc) (b : ℕ) (env : Env) (c : ℕ) (over : Env) (edges : List (ℕ × ℕ)) : Type 0 where
  pub path : List ℕ
  pub places : List ℕ
  pub values : List Value
  pub results : List Result
  pub calls : List Request
  pub goes : (vs : List Value) (rs : List Result) → walk flat q (b ∷ path) places (alone env (values ++ vs) (results ++ rs) []) ≡ Some (slice_get q.blocks c, alone over vs rs calls)
  pub edges_are : edges ≡ edges_of (b ∷ path) places

abbrev pub stays : (flat : Limited) (q : FlatProc) (b : ℕ) (env : Env) → Reaches flat q b env b env []
stays flat q b env = record { path = []; places = []; values = []; results = []; calls = []; goes = λ vs rs. refl; edges_are = refl }

abbrev pub goes_on : (flat : Limited) (q : FlatProc) (b c : ℕ) (env over : Env) (block : FlatBlock) (values : List Value) (results : List Result) (s : State) (place t : ℕ) (edges : List (ℕ × ℕ)) →
    slice_get q.blocks b ≡ Some block → place_of block.next place ≡ Some t → closed (pass_all flat q block.cmds (alone env values results [])) ≡ Some s →
    Reaches flat q t s.env c over edges → Reaches flat q b env c over ((b, place) ∷ edges)
goes_on flat q b c env over block values results s place t edges at edge h m =
    let r = closed_is (pass_all flat q block.cmds (alone env values results [])) s h in
    let go : State → Option (Option FlatBlock × State) = walk flat q (t ∷ m.path) m.places in
    let all : (vs : List Value) (rs : List Result) → walk flat q (b ∷ t ∷ m.path) (place ∷ m.places) (alone env ((values ++ m.values) ++ vs) ((results ++ m.results) ++ rs) []) ≡ Some (slice_get q.blocks c, alone over vs rs (s.calls ++ m.calls)) = λ vs rs.
    let ws = m.values ++ vs in
    let ts = m.results ++ rs in
    let start : State = alone env (values ++ ws) (results ++ ts) [] in
    ap (λ x. walk flat q (b ∷ t ∷ m.path) (place ∷ m.places) x) (same_state env ((values ++ m.values) ++ vs) (values ++ ws) ((results ++ m.results) ++ rs) (results ++ ts) [] [] (append_assoc values m.values vs) (append_assoc results m.results rs) refl)
    ∙ ap (λ x. if x then option_and_then go (pass_all flat q (cmds_of (slice_get q.blocks b)) start) else None)
    (edge_is (place_at (slice_get q.blocks b) place) t (ap (λ x. place_at x place) at ∙ edge))
    ∙ ap (λ x. option_and_then go (pass_all flat q (cmds_of x) start)) at
    ∙ ap (option_and_then go) (pass_all_frame flat q block.cmds ws ts [] (alone env values results []) s r.0)
    ∙ ap go (same_state s.env (s.values ++ ws) (ws ++ []) (s.results ++ ts) (ts ++ []) s.calls (s.calls ++ [])
    (ap (λ xs. xs ++ ws) r.1 ∙ sym (append-nil ws)) (ap (λ xs. xs ++ ts) r.2 ∙ sym (append-nil ts)) (sym (append-nil s.calls)))
    ∙ walk_frame flat q (t ∷ m.path) m.places [] [] s.calls (alone s.env ws ts []) (alone over vs rs m.calls) (slice_get q.blocks c) (m.goes vs rs)
    ∙ ap (λ (x : State). Some (slice_get q.blocks c, x)) (same_state over (vs ++ []) vs (rs ++ []) rs (s.calls ++ m.calls) (s.calls ++ m.calls) (append-nil vs) (append-nil rs) refl) in
    record { path = t ∷ m.path; places = place ∷ m.places; values = values ++ m.values; results = results ++ m.results; calls = s.calls ++ m.calls; goes = all; edges_are = ap (λ x. (b, place) ∷ x) m.edges_are }

off_on : (b : Bool) → b ≡ false → b ≡ true → ⊥
off_on b f t = cc

some_seen : (x y : Seen) → Some x ≡ Some y → x ≡ y
some_seen x y h = cc

-- where no edge is live, no block is reached
dead_seen : (flat : Limited) (q : FlatProc) (d : Env) (gs : List Given) (es : List Edge) (j : ℕ) (x : Seen) → Dead es → slice_get (seen flat q d gs es) j ≡ Some x → x.on ≡ false
dead_seen flat q d [] es j x k h = absurd (grind (arith, common_steps, h))
dead_seen flat q d (g ∷ gs) es zero x k h =
    ap (λ (y : Seen). y.on) (sym (some_seen (record { given = g; on = reached g.number es; env = entered g.number d es }) x h)) ∙ dead_reached g.number es k
dead_seen flat q d (g ∷ gs) es (suc j) x k h = dead_seen flat q d gs (step flat q d g es) j x (dead_step flat q d g es k) h

-- nor where a return is live
end_seen : (flat : Limited) (q : FlatProc) (d : Env) (gs : List Given) (es : List Edge) (env : Env) (j : ℕ) (x : Seen) → One es None env → slice_get (seen flat q d gs es) j ≡ Some x → x.on ≡ false
end_seen flat q d [] es env j x k h = absurd (grind (arith, common_steps, h))
end_seen flat q d (g ∷ gs) es env zero x k h =
    ap (λ (y : Seen). y.on) (sym (some_seen (record { given = g; on = reached g.number es; env = entered g.number d es }) x h)) ∙ one_unreached g.number es None env refl k
end_seen flat q d (g ∷ gs) es env (suc j) x k h = end_seen flat q d gs (step flat q d g es) env j x (end_step flat q d g es None env refl k) h

-- exactly one edge of a goto is passed
pub dead_places : (n p : ℕ) (es : List Edge) → Dead es → places_on n p es ≡ []
dead_places n p [] d = refl
dead_places n p (e ∷ es) d = ap (λ b. if b then (n, p) ∷ places_on n (p + 1) es else places_on n (p + 1) es) d.0 ∙ dead_places n (p + 1) es d.1

dead_fan : (env : Env) (ts : List ℕ) (cs : List Bool) → Dead (fan false env ts cs)
dead_fan env [] cs = tt
dead_fan env (t ∷ []) cs = (refl, tt)
dead_fan env (t ∷ u ∷ ts) [] = (refl, dead_fan env (u ∷ ts) [])
dead_fan env (t ∷ u ∷ ts) (c ∷ cs) = (refl, dead_fan env (u ∷ ts) cs)

pub record Taken (env : Env) (ts : List ℕ) (cs : List Bool) (n p : ℕ) : Type 0 where
  pub place : ℕ
  pub to : ℕ
  pub at : slice_get ts place ≡ Some to
  pub one : One (fan true env ts cs) (Some to) env
  pub only : places_on n p (fan true env ts cs) ≡ (n, p + place) ∷ []

plus_zero : (n p : ℕ) → ◌≡◌ {A = List (ℕ × ℕ)} ((n, p) ∷ []) ((n, p + 0) ∷ [])
plus_zero n p = ap {B = List (ℕ × ℕ)} (λ x. (n, x) ∷ []) (omega arith)

later : (env : Env) (n p u w : ℕ) (ts : List ℕ) (cs : List Bool) (place : ℕ) → places_on n (p + 1) (fan true env (w ∷ ts) cs) ≡ (n, p + 1 + place) ∷ [] → places_on n (p + 1) (fan true env (w ∷ ts) cs) ≡ (n, p + suc place) ∷ []
later env n p u w ts cs place h = h ∙ ap {B = List (ℕ × ℕ)} (λ x. (n, x) ∷ []) (omega arith)

pub taken : (env : Env) (u : ℕ) (ts : List ℕ) (cs : List Bool) (n p : ℕ) → Taken env (u ∷ ts) cs n p
taken env u [] cs n p = record { place = 0; to = u; at = refl; one = inl (refl, refl, refl, tt); only = plus_zero n p }
taken env u (w ∷ ts) [] n p =
    let r = taken env w ts [] n (p + 1) in
    record { place = suc r.place; to = r.to; at = r.at; one = inr (refl, r.one); only = later env n p u w ts [] r.place r.only }
taken env u (w ∷ ts) (true ∷ cs) n p =
    record { place = 0; to = u; at = refl; one = inl (refl, refl, refl, dead_fan env (w ∷ ts) cs); only = ap (λ x. (n, p) ∷ x) (dead_places n (p + 1) (fan false env (w ∷ ts) cs) (dead_fan env (w ∷ ts) cs)) ∙ plus_zero n p }
taken env u (w ∷ ts) (false ∷ cs) n p =
    let r = taken env w ts cs n (p + 1) in
    record { place = suc r.place; to = r.to; at = r.at; one = inr (refl, r.one); only = later env n p u w ts cs r.place r.only }

pub edges_next_off : (n : ℕ) (next : FlatNext) (env : Env) (cs : List Bool) → edges_next n next false env cs ≡ []
edges_next_off n (Goto ts) env cs = dead_places n 0 (fan false env ts cs) (dead_fan env ts cs)
edges_next_off n Return env cs = refl

pub edges_off : (n : ℕ) (o : Option State) (b : Option FlatBlock) (cs : List Bool) → edges_out n o false b cs ≡ []
edges_off n None b cs = refl
edges_off n (Some s) None cs = refl
edges_off n (Some s) (Some b) cs = edges_next_off n b.next s.env cs

-- what holds of the blocks that are left
abbrev Rest : Limited → FlatProc → Env → List Given → Type 0
Rest flat q d gs = (es : List Edge) (b : ℕ) (env : Env) → One es (Some b) env → (j : ℕ) (x : Seen) → slice_get (seen flat q d gs es) j ≡ Some x → x.on ≡ true →
    Reaches flat q b env x.given.number x.env (live_edges flat q d (take j gs) es)

by_next : (flat : Limited) (q : FlatProc) (d : Env) (gs : List Given) → Rest flat q d gs → (g : Given) (before : List Edge) (env : Env) (s : State) (block : FlatBlock) (next : FlatNext) (j : ℕ) (x : Seen) →
    Dead before → slice_get q.blocks g.number ≡ Some block → block.next ≡ next → closed (pass_all flat q block.cmds (alone env g.values g.results [])) ≡ Some s →
    slice_get (seen flat q d gs (before ++ out_next next true s.env g.choices)) j ≡ Some x → x.on ≡ true →
    Reaches flat q g.number env x.given.number x.env (edges_next g.number next true s.env g.choices ++ live_edges flat q d (take j gs) (before ++ out_next next true s.env g.choices))
by_next flat q d gs rest g before env s block Return j x k at next h e on =
    absurd (off_on x.on (end_seen flat q d gs (before ++ out_next Return true s.env g.choices) s.env j x (one_right before (out_next Return true s.env g.choices) None s.env k (inl (refl, refl, refl, tt))) e) on)
by_next flat q d gs rest g before env s block (Goto []) j x k at next h e on =
    absurd (off_on x.on (dead_seen flat q d gs (before ++ []) j x (dead_append before [] k tt) e) on)
by_next flat q d gs rest g before env s block (Goto (u ∷ ts)) j x k at next h e on =
    let f = taken s.env u ts g.choices g.number 0 in
    let es = before ++ fan true s.env (u ∷ ts) g.choices in
    let more = rest es f.to s.env (one_right before (fan true s.env (u ∷ ts) g.choices) (Some f.to) s.env k f.one) j x e on in
    subst (λ ps. Reaches flat q g.number env x.given.number x.env (ps ++ live_edges flat q d (take j gs) es)) (sym f.only)
    (subst (λ p. Reaches flat q g.number env x.given.number x.env ((g.number, p) ∷ live_edges flat q d (take j gs) es)) (omega arith)
    (goes_on flat q g.number x.given.number env x.env block g.values g.results s f.place f.to (live_edges flat q d (take j gs) es) at (ap (λ x. place_of x f.place) next ∙ f.at) h more))

by_state : (flat : Limited) (q : FlatProc) (d : Env) (gs : List Given) → Rest flat q d gs → (g : Given) (before : List Edge) (env : Env) (o : Option State) (b : Option FlatBlock) (j : ℕ) (x : Seen) →
    Dead before → slice_get q.blocks g.number ≡ b → through flat q g env ≡ o →
    slice_get (seen flat q d gs (before ++ passed o true b d g.choices)) j ≡ Some x → x.on ≡ true →
    Reaches flat q g.number env x.given.number x.env (edges_out g.number o true b g.choices ++ live_edges flat q d (take j gs) (before ++ passed o true b d g.choices))
by_state flat q d gs rest g before env None b j x k at h e on =
    absurd (off_on x.on (dead_seen flat q d gs (before ++ out_of b false d g.choices) j x (dead_append before (out_of b false d g.choices) k (dead_out b d g.choices)) e) on)
by_state flat q d gs rest g before env (Some s) None j x k at h e on =
    absurd (off_on x.on (dead_seen flat q d gs (before ++ []) j x (dead_append before [] k tt) e) on)
by_state flat q d gs rest g before env (Some s) (Some block) j x k at h e on =
    by_next flat q d gs rest g before env s block block.next j x k at refl
    (sym (ap (λ x. closed (pass_all flat q (cmds_of x) (alone env g.values g.results []))) at) ∙ h) e on

here : (flat : Limited) (q : FlatProc) (d : Env) (gs : List Given) → Rest flat q d gs → (g : Given) (es : List Edge) (env : Env) (j : ℕ) (x : Seen) → One es (Some g.number) env →
    slice_get (seen flat q d (g ∷ gs) es) j ≡ Some x → x.on ≡ true → Reaches flat q g.number env x.given.number x.env (live_edges flat q d (take j (g ∷ gs)) es)
here flat q d gs rest g es env zero x one h on =
    let is : ◌≡◌ {A = Seen} (record { given = g; on = reached g.number es; env = entered g.number d es }) x = some_seen (record { given = g; on = reached g.number es; env = entered g.number d es }) x h in
    subst (λ (y : Seen). Reaches flat q g.number env y.given.number y.env []) is
    (subst (λ v. Reaches flat q g.number env g.number v []) (sym (one_entered g.number d es env one)) (stays flat q g.number env))
here flat q d gs rest g es env (suc j) x one h on =
    let before = others g.number es in
    let block = slice_get q.blocks g.number in
    let P : Env → Bool → Type 0 = λ v r. slice_get (seen flat q d gs (before ++ passed (through flat q g v) r block d g.choices)) j ≡ Some x →
    Reaches flat q g.number env x.given.number x.env (edges_out g.number (through flat q g v) r block g.choices ++ live_edges flat q d (take j gs) (before ++ passed (through flat q g v) r block d g.choices)) in
    subst (λ r. P (entered g.number d es) r) (sym (one_reached g.number es env one))
    (subst (λ v. P v true) (sym (one_entered g.number d es env one))
    (λ e. by_state flat q d gs rest g before env (through flat q g env) block j x (one_dead g.number es env one) refl refl e on)) h

by_number : (flat : Limited) (q : FlatProc) (d : Env) (gs : List Given) → Rest flat q d gs → (g : Given) (es : List Edge) (b : ℕ) (env : Env) (y : Bool) (j : ℕ) (x : Seen) → nat_eq b g.number ≡ y → One es (Some b) env →
    slice_get (seen flat q d (g ∷ gs) es) j ≡ Some x → x.on ≡ true → Reaches flat q b env x.given.number x.env (live_edges flat q d (take j (g ∷ gs)) es)
by_number flat q d gs rest g es b env true j x f one h on =
    let same = number_is b g.number f in
    subst (λ n. Reaches flat q n env x.given.number x.env (live_edges flat q d (take j (g ∷ gs)) es)) same
    (here flat q d gs rest g es env j x (subst (λ n. One es (Some n) env) (sym same) one) h on)
by_number flat q d gs rest g es b env false zero x f one h on =
    let is : ◌≡◌ {A = Seen} (record { given = g; on = reached g.number es; env = entered g.number d es }) x = some_seen (record { given = g; on = reached g.number es; env = entered g.number d es }) x h in
    absurd (off_on x.on (ap (λ (y : Seen). y.on) (sym is) ∙ one_unreached g.number es (Some b) env f one) on)
by_number flat q d gs rest g es b env false (suc j) x f one h on =
    let off : edges_out g.number (through flat q g (entered g.number d es)) (reached g.number es) (slice_get q.blocks g.number) g.choices ≡ [] =
    ap (λ r. edges_out g.number (through flat q g (entered g.number d es)) r (slice_get q.blocks g.number) g.choices) (one_unreached g.number es (Some b) env f one)
    ∙ edges_off g.number (through flat q g (entered g.number d es)) (slice_get q.blocks g.number) g.choices in
    subst (λ ps. Reaches flat q b env x.given.number x.env (ps ++ live_edges flat q d (take j gs) (step flat q d g es))) (sym off)
    (rest (step flat q d g es) b env (end_step flat q d g es (Some b) env f one) j x h on)

-- each block that is reached is reached by a path whose edges are those passed before it
pub reach : (flat : Limited) (q : FlatProc) (d : Env) (gs : List Given) (es : List Edge) (b : ℕ) (env : Env) → One es (Some b) env → (j : ℕ) (x : Seen) → slice_get (seen flat q d gs es) j ≡ Some x → x.on ≡ true →
    Reaches flat q b env x.given.number x.env (live_edges flat q d (take j gs) es)
reach flat q d [] es b env one j x h on = absurd (grind (arith, common_steps, h))
reach flat q d (g ∷ gs) es b env one j x h on = by_number flat q d gs (reach flat q d gs) g es b env (nat_eq b g.number) j x refl one h on
