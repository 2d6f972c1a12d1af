-- An edge arrives: within the scope, into a loop inside it, back at the head of its loop, or outside.
use Rattle.std.proofs.Common.{◌≡◌, ℕ, zero, suc, ◌<◌, ◌^◌, ◌+◌, Bool, true, false, ◌&&◌, if◌then◌else◌, List, [], ◌∷◌, ◌++◌, length, drop, take, inl, inr, arith, sym, ◌∙◌, ap, refl, subst}
use Rattle.std.proofs.lemmas.Bool.{eqb-true, eq-eqb, ltb-true, le-leb}
use Rattle.std.specs.Prelude.{flat_map, Option, None, Some, slice_get, IsTrue, nat_eq, nat_lt, nat_le, filter, cond}
use Rattle.std.specs.Option.{option_map}
use Rattle.hy_val.specs.Values.{has_sort}
use Rattle.hy_val.specs.declared.expr.ExprNode.TheVariants.{Var as Read, Binary}
use Rattle.hy_val.specs.declared.operator.BvOp.TheVariants.{Eq}
use Rattle.hy_val.specs.declared.expr.Var.{Var}
use Rattle.hy_val.specs.declared.expr.Var.TheVariants.{Local}
use Rattle.hy_val.specs.declared.sort.Sort.{Sort}
use Rattle.hy_val.specs.declared.value.Value.{Value}
use Rattle.src_prog.specs.Scope.{sorts_of, locals_of}
use Rattle.src_prog.specs.declared.block.Next.{Next}
use Rattle.src_prog.specs.declared.block.Next.TheVariants.{Goto as SrcGoto, Return as SrcReturn}
use Rattle.src_prog.specs.declared.block.SrcBlock.{SrcBlock}
use Rattle.src_prog.specs.declared.proc.Named.{Named}
use Rattle.src_prog.specs.declared.proc.SrcLoop.{SrcLoop}
use Rattle.src_prog.specs.declared.proc.SrcProc.{SrcProc}
use Rattle.hy_val.proofs.Booleans.{and-first, and-second, and-both}
use Rattle.src_run.specs.declared.machine.Status.TheVariants.{Blocked, Cut}
use Rattle.src_run.specs.Machine.{Config, Frame, Lap, Way, Again, Enter, Stay, Out, land_inside, land_outside, at_block, at_proc, outs_of as source_outs, with_status}
use Rattle.hy_val.specs.Stores.{Store}
use Rattle.flat_prog.specs.Shape.{place_of, exit_sort}
use Rattle.flat_prog.specs.Caps.{kind_of, may_follow, row_of, CappedBelow}
use Rattle.flat_prog.specs.Local.{Result, Ended, Broken, exit_value, can_come_back, outs_of}
use Rattle.hy_val.specs.Stores.{have_sorts}
use Rattle.flat_prog.specs.Trees.{node}
use Rattle.flat_prog.specs.Program.{outs_at}
use Rattle.flat_prog.specs.declared.block.FlatBlock.{FlatBlock}
use Rattle.flat_prog.specs.declared.block.FlatNext.{FlatNext}
use Rattle.flat_prog.specs.declared.block.FlatNext.TheVariants.{Return}
use Rattle.flat_prog.specs.declared.proc.FlatKind.TheVariants.{Loop}
use Rattle.extract_law.proofs.Adding.{loop_asks, loop_gets, exit_holds, exit_set, loop_outs, whole_outs, exit_sorted, have_both, have_length}
use Rattle.extract_def.proofs.Facts.{dest_of, Inside, Around, Seen, IsEdge, Leaves}
use Rattle.extract_law.proofs.Failing.{World, FailsFrom, going, wanting, after_tick, blocked, cut, is_over, held}
use Rattle.extract_law.proofs.Moving.{wide}
use Rattle.extract_law.proofs.RunsOn.{RunsOn, along_edge, over_command, over_test, returns, over_call, call_fails_here, RunsBelow}
use Rattle.extract_law.proofs.Spots.{Setting, out_of, scope_at, AreAround, many, passed_by, passed_at, here_at, IsStore, exit_count, From, from_frame, proceed, Outcome, outcome_map, outcome_fails, left_more, Spot, SpotRest, SpotClaim, Landing, EdgeRest, EdgeClaim, Reaches, code_of}
use Rattle.extract_def.proofs.Ways.{IsEntry, is_entry, way_again, way_out}
use Rattle.extract_def.specs.declared.edge.Dest.{Dest}
use Rattle.extract_def.specs.declared.edge.Dest.TheVariants.{Back, At}
use Rattle.extract_def.specs.Extraction.{exit_locals, number_of, proc_of, own_block, head_block, again_block, dest_from, next_from, return_from}
use Rattle.extract_def.specs.Places.{loop_in, exit_of, kept_place, pass_place, leave_place, again_place, exit_local, edge_place, moved_by}
use Rattle.extract_def.specs.Renaming.{moved_cmds, call_of_loop, assume_exit, set_exit, exit_number, reads_of, locals_from}
use Rattle.extract_def.specs.declared.scope.Scope.{Scope}
use Rattle.extract_def.specs.declared.scope.Scope.TheVariants.{Whole, In}
use Rattle.extract_def.specs.Scopes.{is_in, reached_blocks, way_from}

-- ---- blocks

block_some : (w : World) (turns : ℕ) (c : Config) (q : SrcProc) (f : Frame) (rest : List Frame) (o : Option SrcBlock) → slice_get q.blocks f.block ≡ o → FailsFrom w turns (at_block w.prog w.bound c q f rest o) → (b : SrcBlock) × (slice_get q.blocks f.block ≡ Some b)
block_some w turns c q f rest None e r = absurd (is_over w turns c Blocked blocked r)
block_some w turns c q f rest (Some b) e r = (b, e)

block_of : (w : World) (turns : ℕ) (consts globals : List Value) (q : SrcProc) (f : Frame) (rest : List Frame) → slice_get w.prog.procs f.proc ≡ Some q → FailsFrom w turns (going consts globals (f ∷ rest)) → (b : SrcBlock) × (slice_get q.blocks f.block ≡ Some b)
block_of w turns consts globals q f rest e r =
    let c = going consts globals (f ∷ rest) in
    let l = after_tick w turns consts globals (f ∷ rest) (at_block w.prog w.bound c q f rest (slice_get q.blocks f.block)) (ap (at_proc w.prog w.bound c f rest) e) r in
    block_some w l.less c q f rest (slice_get q.blocks f.block) refl l.fails

-- ---- exits

-- a loop whose head is reached is one of those that are
filtered : (test : SrcLoop → Bool) (ls : List SrcLoop) (k : ℕ) (l : SrcLoop) → slice_get ls k ≡ Some l → test l ≡ true → (m : SrcLoop) × (ms : List SrcLoop) × (filter test ls ≡ m ∷ ms)
filtered test [] k l e h = absurd cc
filtered test (m ∷ ms) zero l e h = let same : m ≡ l = cc in (m, filter test ms, ap (λ b. cond b (m ∷ filter test ms) (filter test ms)) (ap test same ∙ h))
filtered test (m ∷ ms) (suc k) l e h = at (test m) refl (filtered test ms k l e h)
  where
    at : (b : Bool) → test m ≡ b → (n : SrcLoop) × (ns : List SrcLoop) × (filter test ms ≡ n ∷ ns) → (n : SrcLoop) × (ns : List SrcLoop) × (filter test (m ∷ ms) ≡ n ∷ ns)
    at true s ih = (m, filter test ms, ap (λ b. cond b (m ∷ filter test ms) (filter test ms)) s)
    at false s ih = (ih.0, ih.1, ap (λ b. cond b (m ∷ filter test ms) (filter test ms)) s ∙ ih.2)

pub one_exit : (q : SrcProc) (head exit : ℕ) (scope : Scope) → Around q head exit scope → exit_count q scope ≡ 1
one_exit q head exit (In h e) a = refl
one_exit q head exit Whole a =
    let f = filtered (λ l. is_in l.head (reached_blocks q)) q.loops a.among.0 (loop_in head exit) a.among.1 a.reached in
    ap (λ ls. length (exit_locals ls)) f.2

-- the outs of values of the variables' sorts
have_drop : (names : List Named) (vs : List Value) (others : List Sort) → have_sorts vs (sorts_of names ++ others) ≡ true → have_sorts (drop (length names) vs) others ≡ true
have_drop [] [] others h = h
have_drop [] (v ∷ vs) others h = h
have_drop (n ∷ ns) [] others h = absurd cc
have_drop (n ∷ ns) (v ∷ vs) others h = have_drop ns vs others (and-second (has_sort v n.sort) _ h)

have_take : (names : List Named) (vs : List Value) (others : List Sort) → have_sorts vs (sorts_of names ++ others) ≡ true → have_sorts (take (length names) vs) (sorts_of names) ≡ true
have_take [] [] others h = refl
have_take [] (v ∷ vs) others h = refl
have_take (n ∷ ns) [] others h = absurd cc
have_take (n ∷ ns) (v ∷ vs) others h = and-both (has_sort v n.sort) (have_sorts (take (length ns) vs) (sorts_of ns)) (and-first (has_sort v n.sort) _ h) (have_take ns vs others (and-second (has_sort v n.sort) _ h))

pub outs_have : (q : SrcProc) (locals : List Value) → have_sorts locals (locals_of q) ≡ true → have_sorts (source_outs q locals) (sorts_of q.outs) ≡ true
outs_have q locals h = have_take q.outs (drop (length q.ins) locals) (sorts_of q.locals) (have_drop q.ins locals (sorts_of q.outs ++ sorts_of q.locals) h)

back_place : (next : Next) (place : ℕ) → dest_of next place ≡ Some Back → place ≡ 0
back_place SrcReturn zero e = refl
back_place SrcReturn (suc place) e = absurd cc
back_place (SrcGoto ts) place e = absurd (none_back (slice_get ts place) e)
  where
    none_back : (o : Option ℕ) → option_map At o ≡ Some Back → ⊥
    none_back None k = cc
    none_back (Some u) k = let f : At u ≡ Back = cc in cc

-- behind an exit the run goes on where its edge leads
pub pass_reaches : (q : SrcProc) (scope : Scope) (b place : ℕ) (dest : Dest) → IsEdge q b place dest → Reaches q scope b place dest (dest_from q scope b place dest) 0
pass_reaches q scope b place Back e = (refl, back_place e.block.next place e.dest_is, refl)
pass_reaches q scope b place (At to) e = refl

pub returns_there : (v : Setting) (p : ℕ) (q : SrcProc) (t : Lap) (ts : List Lap) (before others : List Value) (b place : ℕ) (store : Store) (next : FlatNext) (at : ℕ) → Landing v p q (t ∷ ts) before others b place Back store → Reaches q (In t.head t.exit) b place Back next at →
    place_of next at ≡ Some (leave_place q (In t.head t.exit) (exit_of q (In t.head t.exit) b place))
returns_there v p q t ts before others b place store next at l (n, z, y) =
    ap (λ (m : FlatNext). place_of m at) n ∙ (ap (place_of (return_from q (In t.head t.exit) b)) y ∙ ap (λ k. Some (leave_place q (In t.head t.exit) (exit_of q (In t.head t.exit) b k))) (sym z))

-- ---- caps

pub row_many : (c n : ℕ) (rest : List ℕ) → row_of c (many n c rest) ≡ n + row_of c rest
row_many c zero rest = let e : row_of c rest ≡ 0 + row_of c rest = omega arith in e
row_many c (suc n) rest =
    let same = eq-eqb c c refl in let ih = row_many c n rest in
    let e : suc (n + row_of c rest) ≡ suc n + row_of c rest = omega arith in
    ap (λ b. if b then suc (row_of c (many n c rest)) else 0) same ∙ ap suc ih ∙ e

not_eq : (a b : ℕ) → (a ≡ b → ⊥) → (t : Bool) → nat_eq a b ≡ t → nat_eq a b ≡ false
not_eq a b n true e = absurd (n (eqb-true a b e))
not_eq a b n false e = e

-- the first of the procedures on the way is that of the scope
pub row_around : (v : Setting) (p c : ℕ) (laps : List Lap) (rest : List ℕ) → (number_of v.w.prog p (scope_at laps) ≡ c → ⊥) → row_of c (passed_by v.w.prog p laps rest) ≡ 0
row_around v p c [] rest apart = ap (λ b. if b then suc (row_of c rest) else 0) (not_eq p c apart (nat_eq p c) refl)
row_around v p c (t ∷ ts) rest apart =
    let own = number_of v.w.prog p (In t.head t.exit) in
    ap (λ b. if b then suc (row_of c (many t.count own (passed_by v.w.prog p ts rest))) else 0) (not_eq own c apart (nat_eq own c) refl)

-- ---- out of a loop

-- the block for the exit sets its number and returns
leaves_here : (v : Setting) (consts : List Value) (p : ℕ) (q : SrcProc) (t : Lap) (ts : List Lap) (frames : List Frame) (before others : List Value) (b place : ℕ) (dest : Dest) (store : Store) (next : FlatNext) (at : ℕ) →
    Landing v p q (t ∷ ts) before others b place dest store → Leaves t.head t.exit dest → place_of next at ≡ Some (leave_place q (In t.head t.exit) (exit_of q (In t.head t.exit) b place)) →
    EdgeRest v consts p q (t ∷ ts) frames next before others store (Ended (store.locals ++ exit_value (exit_of q (In t.head t.exit) b place) ∷ []) store.globals)
leaves_here v consts p q t ts frames before others b place dest store next at l outward there =
    let scope = In t.head t.exit in
    let code = code_of v p q (t ∷ ts) in
    let here = here_at v p (t ∷ ts) frames in
    let x = exit_of q scope b place in
    let local : exit_local q scope ≡ length before + length store.locals =
    ap (λ i. i + length (locals_of q)) (sym l.before_is) ∙ ap (λ i. length before + i) (sym (have_length store.locals (locals_of q) l.sorted.locals)) in
    let r : Result = Ended (store.locals ++ exit_value x ∷ []) store.globals in
    along_edge (out_of v) v.w.bound consts code here next (wide before others store) at (leave_place q scope x) (record { cmds = set_exit (exit_local q scope) x ∷ []; next = Return }) there
    (v.x.leave_there p q t.head t.exit b place dest l.proc_is l.seen l.edge outward) r
    (over_command (out_of v) v.w.bound consts code here (set_exit (exit_local q scope) x) [] Return (wide before others store) (wide before (exit_value x ∷ []) store) [] r
    (λ vs rs cs. exit_set (out_of v) code (exit_local q scope) x consts before others store vs rs cs l.others_is local)
    (returns (out_of v) v.w.bound consts code here Return (wide before (exit_value x ∷ []) store) refl (store.locals ++ exit_value x ∷ []) store.globals
    (sym (loop_outs v.w.prog p q t.head t.exit before store.locals (exit_value x) (have_length store.locals (locals_of q) l.sorted.locals) l.before_is)) refl))

around_inside : (v : Setting) (p : ℕ) (q : SrcProc) (t : Lap) (ts : List Lap) (b : ℕ) (dest : Dest) → slice_get v.w.prog.procs p ≡ Some q → Seen q (In t.head t.exit) b dest → Inside q (In t.head t.exit) t.head
around_inside v p q t ts b dest e seen = v.x.inside_again p q t.head t.exit b dest e seen

leave_outcome : (v : Setting) (turns : ℕ) (from : From) (consts : List Value) (p : ℕ) (q : SrcProc) (t : Lap) (ts : List Lap) (outs : List Var) (frames : List Frame) (before others : List Value) (b place : ℕ) (dest : Dest) (store : Store) (next : FlatNext) (at : ℕ) →
    Landing v p q (t ∷ ts) before others b place dest store → Leaves t.head t.exit dest → place_of next at ≡ Some (leave_place q (In t.head t.exit) (exit_of q (In t.head t.exit) b place)) →
    FailsFrom v.w turns (proceed v from consts p q ts outs frames store dest) → Outcome v (EdgeRest v consts p q (t ∷ ts) frames next before others store) (suc turns) consts p q (t ∷ ts) outs frames
leave_outcome v turns from consts p q t ts outs frames before others b place dest store next at l outward there r =
    inr (
      store,
      exit_of q (In t.head t.exit) b place,
      leaves_here v consts p q t ts frames before others b place dest store next at l outward there,
      record {
        b = b;
        place = place;
        dest = dest;
        edge = l.edge;
        seen = l.seen;
        outward = outward;
        number_is = refl;
        few = v.x.few_exits p q t.head t.exit b place dest l.proc_is (v.x.inside_again p q t.head t.exit b dest l.proc_is l.seen) l.seen l.edge outward;
        sorted = l.sorted;
        from = from;
        later = record { less = turns; smaller = omega arith; fails = r };
      },
    )

-- ---- at a block of the scope

abbrev pub begin_at : List Value → Store → ℕ → List Var → List Frame → ℕ → List Lap → Config
begin_at consts store p outs frames to laps = going consts store.globals (record { proc = p; block = to; at = 0; locals = store.locals; laps = laps; outs = outs } ∷ frames)

-- what the claim gives at the begin of a block
pub record Arrived (v : Setting) (turns : ℕ) (consts : List Value) (p : ℕ) (q : SrcProc) (laps : List Lap) (outs : List Var) (frames : List Frame) (before others : List Value) (to : ℕ) (store : Store) : Type 0 where
  pub b : SrcBlock
  pub there : slice_get (code_of v p q laps).blocks (kept_place q (scope_at laps) to) ≡ Some (own_block v.w.prog p q (scope_at laps) to b)
  pub outcome : Outcome v (λ r. RunsOn (out_of v) v.w.bound consts (code_of v p q laps) (here_at v p laps frames) (own_block v.w.prog p q (scope_at laps) to b).cmds (own_block v.w.prog p q (scope_at laps) to b).next (wide before others store) r) turns consts p q laps outs frames

pub arrived : (v : Setting) (m : ℕ) → SpotClaim v m → (turns : ℕ) (consts : List Value) (p : ℕ) (q : SrcProc) (laps : List Lap) (outs : List Var) (frames : List Frame) (before others : List Value) (to : ℕ) (store : Store) → turns < m →
    slice_get v.w.prog.procs p ≡ Some q → Inside q (scope_at laps) to → AreAround q laps → length before ≡ moved_by q (scope_at laps) → length others ≡ exit_count q (scope_at laps) →
    FailsFrom v.w turns (begin_at consts store p outs frames to laps) → Arrived v turns consts p q laps outs frames before others to store
arrived v m claim turns consts p q laps outs frames before others to store le proc_is inside around before_is others_is r =
    let f : Frame = record { proc = p; block = to; at = 0; locals = store.locals; laps = laps; outs = outs } in
    let b = block_of v.w turns consts store.globals q f frames proc_is r in
    let s : Spot = record { proc = p; number = to; at = 0; q = q; b = b.0; laps = laps; outs = outs; frames = frames; before = before; others = others } in
    let code = code_of v p q laps in let here = here_at v p laps frames in
    record {
      b = b.0;
      there = v.x.own_there p q (scope_at laps) to b.0 proc_is inside b.1;
      outcome = outcome_map v (SpotRest v consts s b.0.cmds store) (λ r. RunsOn (out_of v) v.w.bound consts code here (own_block v.w.prog p q (scope_at laps) to b.0).cmds (own_block v.w.prog p q (scope_at laps) to b.0).next (wide before others store) r) turns turns consts p q laps outs frames (omega arith)
          (λ result k. subst (λ by. RunsOn (out_of v) v.w.bound consts code here (flat_map (moved_cmds v.w.prog p by) b.0.cmds) (next_from q (scope_at laps) to b.0.next) (wide before others store) result) before_is k)
          (claim turns consts s b.0.cmds store le (record { proc_is = proc_is; block_is = b.1; left = refl; inside = inside; around = around; before_is = before_is; others_is = others_is }) r);
    }

stay_outcome : (v : Setting) (m : ℕ) → SpotClaim v m → (turns : ℕ) (consts : List Value) (p : ℕ) (q : SrcProc) (laps : List Lap) (outs : List Var) (frames : List Frame) (before others : List Value) (b place to : ℕ) (store : Store) (next : FlatNext) (at : ℕ) → turns < m →
    Landing v p q laps before others b place (At to) store → way_from q.loops (scope_at laps) to ≡ Stay → place_of next at ≡ Some (kept_place q (scope_at laps) to) → FailsFrom v.w turns (begin_at consts store p outs frames to laps) →
    Outcome v (EdgeRest v consts p q laps frames next before others store) (suc turns) consts p q laps outs frames
stay_outcome v m claim turns consts p q laps outs frames before others b place to store next at le l kind there r =
    let inside = v.x.inside_stay p q (scope_at laps) b place to l.proc_is l.seen l.edge kind in
    let a = arrived v m claim turns consts p q laps outs frames before others to store le l.proc_is inside l.around l.before_is l.others_is r in
    let own = own_block v.w.prog p q (scope_at laps) to a.b in
    outcome_map v (λ r. RunsOn (out_of v) v.w.bound consts (code_of v p q laps) (here_at v p laps frames) own.cmds own.next (wide before others store) r) (EdgeRest v consts p q laps frames next before others store) turns (suc turns) consts p q laps outs frames (omega arith)
    (along_edge (out_of v) v.w.bound consts (code_of v p q laps) (here_at v p laps frames) next (wide before others store) at (kept_place q (scope_at laps) to) own there a.there) a.outcome

-- ---- runs of loop procedures

-- a run below a call of a loop procedure, from its head
loop_below : (v : Setting) (consts : List Value) (passed : List ℕ) (p : ℕ) (q : SrcProc) (head exit count : ℕ) (ts : List Lap) (frames : List Frame) (b : SrcBlock) (store : Store) →
    slice_get v.w.prog.procs p ≡ Some q → Inside q (In head exit) head → slice_get (proc_of v.w.prog p q (In head exit)).blocks (kept_place q (In head exit) head) ≡ Some (own_block v.w.prog p q (In head exit) head b) → IsStore v.w.prog q store →
    IsTrue (may_follow v.w.bound (Loop p head) (number_of v.w.prog p (In head exit)) passed) → number_of v.w.prog p (In head exit) ∷ passed ≡ here_at v p (record { head = head; exit = exit; count = count } ∷ ts) frames → (r : Result) →
    RunsOn (out_of v) v.w.bound consts (proc_of v.w.prog p q (In head exit)) (here_at v p (record { head = head; exit = exit; count = count } ∷ ts) frames) (own_block v.w.prog p q (In head exit) head b).cmds (own_block v.w.prog p q (In head exit) head b).next (wide store.locals (exit_value 0 ∷ []) store) r →
    RunsBelow (out_of v) v.w.bound consts passed (record { proc = number_of v.w.prog p (In head exit); globals = store.globals; args = store.locals }) r
loop_below v consts passed p q head exit count ts frames b store proc_is inside there sorted may here_is r k =
    let code = proc_of v.w.prog p q (In head exit) in
    let c = number_of v.w.prog p (In head exit) in
    let is = v.x.loop_there p q head exit proc_is inside in
    let kind : kind_of (slice_get (out_of v).procs c) ≡ Loop p head = ap kind_of is in
    record {
      run = node (record { proc = c; path = 0 ∷ k.path; places = k.places; values = k.values }) k.below;
      is_call = (
        code,
        record { store = wide store.locals (exit_value 0 ∷ []) store; values = k.values; results = []; calls = [] },
        record { same = refl; proc = is; globals = sorted.globals; args = sorted.locals; begin_is = refl },
        (k.results, k.calls, (k.path, own_block v.w.prog p q (In head exit) head b, refl, ap (slice_get code.blocks) (sym (v.x.first_loop p q head exit proc_is inside)) ∙ there, k.tail []), k.answers),
      );
      may = subst (λ kd. IsTrue (may_follow v.w.bound kd c passed)) (sym kind) may;
      capped = subst (λ h. CappedBelow k.below (out_of v) v.w.bound h) (sym here_is) k.capped;
    }

-- ---- again

again_rest : (v : Setting) (consts : List Value) (p : ℕ) (q : SrcProc) (t : Lap) (ts : List Lap) (frames : List Frame) (before others : List Value) (store : Store) (next : FlatNext) (at : ℕ) (r : Result) →
    slice_get v.w.prog.procs p ≡ Some q → place_of next at ≡ Some (again_place q (In t.head t.exit)) →
    RunsOn (out_of v) v.w.bound consts (code_of v p q (t ∷ ts)) (here_at v p (t ∷ ts) frames) (again_block v.w.prog p q (In t.head t.exit)).cmds Return (wide before others store) r → EdgeRest v consts p q (t ∷ ts) frames next before others store r
again_rest v consts p q t ts frames before others store next at r proc_is there k =
    along_edge (out_of v) v.w.bound consts (code_of v p q (t ∷ ts)) (here_at v p (t ∷ ts) frames) next (wide before others store) at (again_place q (In t.head t.exit)) (again_block v.w.prog p q (In t.head t.exit)) there (v.x.again_there p q t.head t.exit proc_is) r k

-- the call of a loop procedure fails, or comes back
loop_call_fails : (v : Setting) (consts : List Value) (p : ℕ) (q : SrcProc) (laps : List Lap) (frames : List Frame) (c : ℕ) (before others : List Value) (store : Store) (next : FlatNext) →
    IsStore v.w.prog q store → length before ≡ moved_by q (scope_at laps) → RunsBelow (out_of v) v.w.bound consts (here_at v p laps frames) (record { proc = c; globals = store.globals; args = store.locals }) (Broken v.w.proc v.w.number) →
    RunsOn (out_of v) v.w.bound consts (code_of v p q laps) (here_at v p laps frames) (call_of_loop c (moved_by q (scope_at laps)) (locals_of q) ∷ []) next (wide before others store) (Broken v.w.proc v.w.number)
loop_call_fails v consts p q laps frames c before others store next sorted before_is k =
    let by = moved_by q (scope_at laps) in
    let asks = loop_asks c by (locals_of q) consts before others store (have_length store.locals (locals_of q) sorted.locals) before_is in
    call_fails_here (out_of v) v.w.bound consts (code_of v p q laps) (here_at v p laps frames) c (reads_of by (locals_of q)) (locals_from by (length (locals_of q)) ++ Local (by + length (locals_of q)) ∷ []) [] next (wide before others store) v.w.proc v.w.number
    (subst (λ req. RunsBelow (out_of v) v.w.bound consts (here_at v p laps frames) req (Broken v.w.proc v.w.number)) (sym asks) k)

loop_call_ends : (v : Setting) (consts : List Value) (p : ℕ) (q : SrcProc) (laps : List Lap) (frames : List Frame) (head exit x : ℕ) (before others : List Value) (store after : Store) (next : FlatNext) (r : Result) →
    slice_get v.w.prog.procs p ≡ Some q → Inside q (In head exit) head → IsStore v.w.prog q store → IsStore v.w.prog q after → x < 2 ^ 32 → length before ≡ moved_by q (scope_at laps) → length others ≡ 1 →
    RunsBelow (out_of v) v.w.bound consts (here_at v p laps frames) (record { proc = number_of v.w.prog p (In head exit); globals = store.globals; args = store.locals }) (Ended (after.locals ++ exit_value x ∷ []) after.globals) →
    RunsOn (out_of v) v.w.bound consts (code_of v p q laps) (here_at v p laps frames) [] next (wide before (exit_value x ∷ []) after) r →
    RunsOn (out_of v) v.w.bound consts (code_of v p q laps) (here_at v p laps frames) (call_of_loop (number_of v.w.prog p (In head exit)) (moved_by q (scope_at laps)) (locals_of q) ∷ []) next (wide before others store) r
loop_call_ends v consts p q laps frames head exit x before others store after next r proc_is inside sorted sorted' few before_is one k rest =
    let by = moved_by q (scope_at laps) in
    let c = number_of v.w.prog p (In head exit) in
    let old = have_length store.locals (locals_of q) sorted.locals in
    let new = have_length after.locals (locals_of q) sorted'.locals in
    let asks = loop_asks c by (locals_of q) consts before others store old before_is in
    let can : can_come_back (out_of v) c (after.locals ++ exit_value x ∷ []) after.globals ≡ true =
    ap (λ o. have_sorts (after.locals ++ exit_value x ∷ []) (outs_at o) && have_sorts after.globals (out_of v).globals) (v.x.loop_there p q head exit proc_is inside)
    ∙ and-both (have_sorts (after.locals ++ exit_value x ∷ []) (locals_of q ++ exit_sort ∷ [])) (have_sorts after.globals (sorts_of v.w.prog.globals)) (have_both after.locals (exit_value x ∷ []) (locals_of q) (exit_sort ∷ []) sorted'.locals (exit_sorted x few)) sorted'.globals in
    over_call (out_of v) v.w.bound consts (code_of v p q laps) (here_at v p laps frames) c (reads_of by (locals_of q)) (locals_from by (length (locals_of q)) ++ Local (by + length (locals_of q)) ∷ []) [] next (wide before others store) (wide before (exit_value x ∷ []) after)
    (after.locals ++ exit_value x ∷ []) after.globals r
    (subst (λ req. RunsBelow (out_of v) v.w.bound consts (here_at v p laps frames) req (Ended (after.locals ++ exit_value x ∷ []) after.globals)) (sym asks) k) can
    (loop_gets by (locals_of q) before others (exit_value x) store after one old new before_is) rest

again_end : (v : Setting) (turns : ℕ) (consts : List Value) (p : ℕ) (q : SrcProc) (t : Lap) (ts : List Lap) (outs : List Var) (frames : List Frame) (before others : List Value) (store : Store) (next : FlatNext) (at : ℕ) →
    slice_get v.w.prog.procs p ≡ Some q → Inside q (In t.head t.exit) t.head → place_of next at ≡ Some (again_place q (In t.head t.exit)) → IsStore v.w.prog q store → length before ≡ moved_by q (In t.head t.exit) → length others ≡ 1 →
    Outcome v (λ r. RunsBelow (out_of v) v.w.bound consts (here_at v p (t ∷ ts) frames) (record { proc = number_of v.w.prog p (In t.head t.exit); globals = store.globals; args = store.locals }) r) turns consts p q (t ∷ ts) outs frames →
    Outcome v (EdgeRest v consts p q (t ∷ ts) frames next before others store) (suc turns) consts p q (t ∷ ts) outs frames
again_end v turns consts p q t ts outs frames before others store next at proc_is inside there sorted before_is one (inl k) =
    inl (again_rest v consts p q t ts frames before others store next at (Broken v.w.proc v.w.number) proc_is there
    (loop_call_fails v consts p q (t ∷ ts) frames (number_of v.w.prog p (In t.head t.exit)) before others store Return sorted before_is k))
again_end v turns consts p q t ts outs frames before others store next at proc_is inside there sorted before_is one (inr (after, x, k, l)) =
    let r : Result = Ended (after.locals ++ exit_value x ∷ []) after.globals in
    inr (
      after,
      x,
      again_rest v consts p q t ts frames before others store next at r proc_is there
          (loop_call_ends v consts p q (t ∷ ts) frames t.head t.exit x before others store after Return r proc_is inside sorted l.sorted l.few before_is one k
          (returns (out_of v) v.w.bound consts (code_of v p q (t ∷ ts)) (here_at v p (t ∷ ts) frames) Return (wide before (exit_value x ∷ []) after) refl (after.locals ++ exit_value x ∷ []) after.globals
          (sym (loop_outs v.w.prog p q t.head t.exit before after.locals (exit_value x) (have_length after.locals (locals_of q) l.sorted.locals) before_is)) refl)),
      left_more v turns (suc turns) consts p q t.head t.exit ts outs frames after x (omega arith) l,
    )

again_outcome : (v : Setting) (m : ℕ) → SpotClaim v m → (turns : ℕ) (from : From) (consts : List Value) (p : ℕ) (q : SrcProc) (t : Lap) (ts : List Lap) (outs : List Var) (frames : List Frame) (before others : List Value) (b place : ℕ) (store : Store) (next : FlatNext) (at : ℕ) → turns < m →
    Landing v p q (t ∷ ts) before others b place (At t.head) store → place_of next at ≡ Some (again_place q (In t.head t.exit)) →
    FailsFrom v.w turns (if nat_lt t.count v.w.bound then begin_at consts store p outs frames t.head (record t { count = t.count + 1 } ∷ ts) else with_status (wanting consts store.globals from.wants from.frames) Cut) →
    Outcome v (EdgeRest v consts p q (t ∷ ts) frames next before others store) (suc turns) consts p q (t ∷ ts) outs frames
again_outcome v m claim turns from consts p q t ts outs frames before others b place store next at le l there r =
    let scope = In t.head t.exit in
    let c = number_of v.w.prog p scope in
    let laps' : List Lap = record t { count = t.count + 1 } ∷ ts in
    let here = here_at v p (t ∷ ts) frames in
    let below = passed_by v.w.prog p ts (passed_at v.w.prog frames) in
    let h = held v.w turns (wanting consts store.globals from.wants from.frames) (begin_at consts store p outs frames t.head laps') Cut cut (nat_lt t.count v.w.bound) r in
    let lt = ltb-true t.count v.w.bound h.0 in
    let inside = v.x.inside_again p q t.head t.exit b (At t.head) l.proc_is l.seen in
    let old = have_length store.locals (locals_of q) l.sorted.locals in
    let a = arrived v m claim turns consts p q laps' outs frames store.locals (exit_value 0 ∷ []) t.head store le l.proc_is inside l.around old refl h.1 in
    let none = row_around v p c ts (passed_at v.w.prog frames) (v.x.apart p q t.head t.exit (scope_at ts) l.proc_is l.around.0) in
    let row : row_of c here ≡ suc t.count =
    row_many c (suc t.count) below ∙ (let e : suc t.count + 0 ≡ suc t.count = omega arith in ap (λ n. suc t.count + n) none ∙ e) in
    let may : IsTrue (may_follow v.w.bound (Loop p t.head) c here) = ap (λ n. nat_le n v.w.bound) row ∙ le-leb (suc t.count) v.w.bound (omega arith) in
    let here_is : c ∷ here ≡ here_at v p laps' frames = let e : suc t.count ≡ t.count + 1 = omega arith in ap (λ n. c ∷ many n c below) e in
    again_end v turns consts p q t ts outs frames before others store next at l.proc_is inside there l.sorted l.before_is l.others_is
    (outcome_map v (λ r. RunsOn (out_of v) v.w.bound consts (code_of v p q laps') (here_at v p laps' frames) (own_block v.w.prog p q scope t.head a.b).cmds (own_block v.w.prog p q scope t.head a.b).next (wide store.locals (exit_value 0 ∷ []) store) r)
    (λ r. RunsBelow (out_of v) v.w.bound consts here (record { proc = c; globals = store.globals; args = store.locals }) r) turns turns consts p q laps' outs frames (omega arith)
    (λ r k. loop_below v consts here p q t.head t.exit (t.count + 1) ts frames a.b store l.proc_is inside a.there l.sorted may here_is r k) a.outcome)

-- ---- into a loop, and on from where the run left it

enter_end : (v : Setting) (m : ℕ) → EdgeClaim v m → (turns : ℕ) (consts : List Value) (p : ℕ) (q : SrcProc) (laps : List Lap) (outs : List Var) (frames : List Frame) (before others : List Value) (b place to exit : ℕ) (store : Store) (next : FlatNext) (at : ℕ) → turns < suc m →
    Landing v p q laps before others b place (At to) store → Inside q (In to exit) to → Around q to exit (scope_at laps) → length others ≡ 1 → exit_count q (scope_at laps) ≡ 1 → place_of next at ≡ Some (kept_place q (scope_at laps) to) →
    Outcome v (λ r. RunsBelow (out_of v) v.w.bound consts (here_at v p laps frames) (record { proc = number_of v.w.prog p (In to exit); globals = store.globals; args = store.locals }) r) turns consts p q (record { head = to; exit = exit; count = 0 } ∷ laps) outs frames →
    Outcome v (EdgeRest v consts p q laps frames next before others store) (suc turns) consts p q laps outs frames
enter_end v m ih turns consts p q laps outs frames before others b place to exit store next at le l inside around one count there (inl k) =
    let scope = scope_at laps in let code = code_of v p q laps in let here = here_at v p laps frames in
    let head = head_block v.w.prog p q scope (loop_in to exit) in
    outcome_fails v (EdgeRest v consts p q laps frames next before others store) (suc turns) consts p q laps outs frames
    (along_edge (out_of v) v.w.bound consts code here next (wide before others store) at (kept_place q scope to) head there (v.x.head_there p q scope to exit l.proc_is around) (Broken v.w.proc v.w.number)
    (loop_call_fails v consts p q laps frames (number_of v.w.prog p (In to exit)) before others store head.next l.sorted l.before_is k))
enter_end v m ih turns consts p q laps outs frames before others b place to exit store next at le l inside around one count there (inr (after, x, k, left)) =
    let scope = scope_at laps in let code = code_of v p q laps in let here = here_at v p laps frames in
    let head = head_block v.w.prog p q scope (loop_in to exit) in
    let y = exit_of q (In to exit) left.b left.place in
    let c = number_of v.w.prog p (In to exit) in
    let k' : RunsBelow (out_of v) v.w.bound consts here (record { proc = c; globals = store.globals; args = store.locals }) (Ended (after.locals ++ exit_value y ∷ []) after.globals) =
    subst (λ z. RunsBelow (out_of v) v.w.bound consts here (record { proc = c; globals = store.globals; args = store.locals }) (Ended (after.locals ++ exit_value z ∷ []) after.globals)) left.number_is k in
    let few : y < 2 ^ 32 = subst (λ z. z < 2 ^ 32) left.number_is left.few in
    let pass : FlatBlock = record { cmds = assume_exit (exit_local q scope) y ∷ []; next = dest_from q scope left.b left.place left.dest } in
    let listed = v.x.pass_listed p q scope to exit left.b left.place left.dest l.proc_is around left.seen left.edge left.outward in
    let pass_is = v.x.pass_there p q scope to exit left.b left.place left.dest l.proc_is around left.seen left.edge left.outward in
    let lt = left.later.smaller in
    let landing : Landing v p q laps before (exit_value y ∷ []) left.b left.place left.dest after = record {
      proc_is = l.proc_is;
      edge = left.edge;
      seen = v.x.seen_out p q scope to exit left.b left.dest l.proc_is around left.seen left.outward;
      around = l.around;
      before_is = l.before_is;
      others_is = sym count;
      sorted = left.sorted;
    } in
    let n = ih left.later.less left.from consts p q laps outs frames before (exit_value y ∷ []) left.b left.place left.dest after pass.next 0 (omega arith) landing (pass_reaches q scope left.b left.place left.dest left.edge) left.later.fails in
    let local : exit_local q scope ≡ length before + length after.locals =
    ap (λ i. i + length (locals_of q)) (sym l.before_is) ∙ ap (λ i. length before + i) (sym (have_length after.locals (locals_of q) left.sorted.locals)) in
    let holds_is = exit_holds (exit_local q scope) y consts before after local in
    outcome_map v (EdgeRest v consts p q laps frames pass.next before (exit_value y ∷ []) after) (EdgeRest v consts p q laps frames next before others store) (suc left.later.less) (suc turns) consts p q laps outs frames (omega arith)
    (λ r rest.
    along_edge (out_of v) v.w.bound consts code here next (wide before others store) at (kept_place q scope to) head there (v.x.head_there p q scope to exit l.proc_is around) r
    (loop_call_ends v consts p q laps frames to exit y before others store after head.next r l.proc_is inside l.sorted left.sorted few l.before_is one k'
    (along_edge (out_of v) v.w.bound consts code here head.next (wide before (exit_value y ∷ []) after) y (pass_place q scope to y) pass listed pass_is r
    (over_test (out_of v) v.w.bound consts code here (Read (Local (exit_local q scope)) exit_sort ∷ exit_number y ∷ Binary Eq 0 1 ∷ []) [] pass.next (wide before (exit_value y ∷ []) after) r holds_is rest))))
    n

enter_outcome : (v : Setting) (m : ℕ) → SpotClaim v (suc m) → EdgeClaim v m → (turns : ℕ) (consts : List Value) (p : ℕ) (q : SrcProc) (laps : List Lap) (outs : List Var) (frames : List Frame) (before others : List Value) (b place to exit : ℕ) (store : Store) (next : FlatNext) (at : ℕ) → turns < suc m →
    Landing v p q laps before others b place (At to) store → way_from q.loops (scope_at laps) to ≡ Enter exit → place_of next at ≡ Some (kept_place q (scope_at laps) to) →
    FailsFrom v.w turns (begin_at consts store p outs frames to (record { head = to; exit = exit; count = 0 } ∷ laps)) → Outcome v (EdgeRest v consts p q laps frames next before others store) (suc turns) consts p q laps outs frames
enter_outcome v m claim ih turns consts p q laps outs frames before others b place to exit store next at le l kind there r =
    let scope = scope_at laps in
    let c = number_of v.w.prog p (In to exit) in
    let laps' : List Lap = record { head = to; exit = exit; count = 0 } ∷ laps in
    let here = here_at v p laps frames in
    let e = v.x.inside_enter p q scope b place to exit l.proc_is l.seen l.edge kind in
    let old = have_length store.locals (locals_of q) l.sorted.locals in
    let a = arrived v (suc m) claim turns consts p q laps' outs frames store.locals (exit_value 0 ∷ []) to store le l.proc_is e.0 (e.1, l.around) old refl r in
    let none = row_around v p c laps (passed_at v.w.prog frames) (v.x.apart p q to exit scope l.proc_is e.1) in
    let may : IsTrue (may_follow v.w.bound (Loop p to) c here) = ap (λ n. nat_le n v.w.bound) none ∙ le-leb 0 v.w.bound (omega arith) in
    let count = one_exit q to exit scope e.1 in
    enter_end v m ih turns consts p q laps outs frames before others b place to exit store next at le l e.0 e.1 (l.others_is ∙ count) count there
    (outcome_map v (λ r. RunsOn (out_of v) v.w.bound consts (code_of v p q laps') (here_at v p laps' frames) (own_block v.w.prog p q (In to exit) to a.b).cmds (own_block v.w.prog p q (In to exit) to a.b).next (wide store.locals (exit_value 0 ∷ []) store) r)
    (λ r. RunsBelow (out_of v) v.w.bound consts here (record { proc = c; globals = store.globals; args = store.locals }) r) turns turns consts p q laps' outs frames (omega arith)
    (λ r k. loop_below v consts here p q to exit 0 laps frames a.b store l.proc_is e.0 a.there l.sorted may refl r k) a.outcome)

-- ---- an edge arrives

land_whole : (v : Setting) (m : ℕ) → SpotClaim v (suc m) → EdgeClaim v m → (turns : ℕ) (from : From) (consts : List Value) (p : ℕ) (q : SrcProc) (outs : List Var) (frames : List Frame) (before others : List Value) (b place to : ℕ) (store : Store) (next : FlatNext) (at : ℕ) (y : Way) → turns < suc m →
    Landing v p q [] before others b place (At to) store → way_from q.loops Whole to ≡ y → IsEntry y → place_of next at ≡ Some (edge_place q Whole b place to y) →
    FailsFrom v.w turns (land_outside (wanting consts store.globals from.wants from.frames) (from_frame p store.locals outs from) frames to y) → Outcome v (EdgeRest v consts p q [] frames next before others store) (suc turns) consts p q [] outs frames
land_whole v m claim ih turns from consts p q outs frames before others b place to store next at (Enter exit) le l is e there r = enter_outcome v m claim ih turns consts p q [] outs frames before others b place to exit store next at le l is there r
land_whole v m claim ih turns from consts p q outs frames before others b place to store next at Stay le l is e there r = stay_outcome v (suc m) claim turns consts p q [] outs frames before others b place to store next at le l is there r
land_whole v m claim ih turns from consts p q outs frames before others b place to store next at Again le l is e there r = elim e [ ]
land_whole v m claim ih turns from consts p q outs frames before others b place to store next at Out le l is e there r = elim e [ ]

land_top : (v : Setting) (m : ℕ) → SpotClaim v (suc m) → EdgeClaim v m → (turns : ℕ) (from : From) (consts : List Value) (p : ℕ) (q : SrcProc) (t : Lap) (ts : List Lap) (outs : List Var) (frames : List Frame) (before others : List Value) (b place to : ℕ) (store : Store) (next : FlatNext) (at : ℕ) (y : Way) → turns < suc m →
    Landing v p q (t ∷ ts) before others b place (At to) store → way_from q.loops (In t.head t.exit) to ≡ y → place_of next at ≡ Some (edge_place q (In t.head t.exit) b place to y) →
    FailsFrom v.w turns (land_inside v.w.bound (wanting consts store.globals from.wants from.frames) (from_frame p store.locals outs from) frames to t ts y (proceed v from consts p q ts outs frames store (At to))) →
    Outcome v (EdgeRest v consts p q (t ∷ ts) frames next before others store) (suc turns) consts p q (t ∷ ts) outs frames
land_top v m claim ih turns from consts p q t ts outs frames before others b place to store next at (Enter exit) le l is there r = enter_outcome v m claim ih turns consts p q (t ∷ ts) outs frames before others b place to exit store next at le l is there r
land_top v m claim ih turns from consts p q t ts outs frames before others b place to store next at Stay le l is there r = stay_outcome v (suc m) claim turns consts p q (t ∷ ts) outs frames before others b place to store next at le l is there r
land_top v m claim ih turns from consts p q t ts outs frames before others b place to store next at Out le l is there r =
    leave_outcome v turns from consts p q t ts outs frames before others b place (At to) store next at l (way_out q.loops t.head t.exit to is) there r
land_top v m claim ih turns from consts p q t ts outs frames before others b place to store next at Again le l is there r =
    let e = way_again q.loops t.head t.exit to is in
    again_outcome v (suc m) claim turns from consts p q t ts outs frames before others b place store next at le (subst (λ z. Landing v p q (t ∷ ts) before others b place (At z) store) (sym e) l) there
    (subst (λ z. FailsFrom v.w turns (if nat_lt t.count v.w.bound then begin_at consts store p outs frames z (record t { count = t.count + 1 } ∷ ts) else with_status (wanting consts store.globals from.wants from.frames) Cut)) (sym e) r)

pub no_values : (xs : List Value) → length xs ≡ 0 → xs ≡ []
no_values [] e = refl
no_values (x ∷ xs) e = absurd (omega (arith, e))

pub land_edge : (v : Setting) (m : ℕ) → SpotClaim v (suc m) → EdgeClaim v m → EdgeClaim v (suc m)
land_edge v m claim ih turns from consts p q [] outs frames before others b place Back store next at le l there r =
    let e = no_values before l.before_is in
    let sorted = l.sorted in
    inr (
      source_outs q store.locals,
      store.globals,
      returns (out_of v) v.w.bound consts (code_of v p q []) (here_at v p [] frames) next (wide before others store) there.0 (source_outs q store.locals) store.globals
          (sym (whole_outs v.w.prog p q others store.locals (have_length store.locals (locals_of q) l.sorted.locals)) ∙ ap (λ (vs : List Value). outs_of (code_of v p q []) (vs ++ (store.locals ++ others))) (sym e)) refl,
      outs_have q store.locals sorted.locals,
      sorted.globals,
      record { less = turns; smaller = omega arith; fails = r },
    )
land_edge v m claim ih turns from consts p q (t ∷ ts) outs frames before others b place Back store next at le l there r =
    leave_outcome v turns from consts p q t ts outs frames before others b place Back store next at l refl (returns_there v p q t ts before others b place store next at l there) r
land_edge v m claim ih turns from consts p q [] outs frames before others b place (At to) store next at le l there r =
    land_whole v m claim ih turns from consts p q outs frames before others b place to store next at (way_from q.loops Whole to) le l refl (is_entry q.loops to) there r
land_edge v m claim ih turns from consts p q (t ∷ ts) outs frames before others b place (At to) store next at le l there r =
    land_top v m claim ih turns from consts p q t ts outs frames before others b place to store next at (way_from q.loops (In t.head t.exit) to) le l refl there r
