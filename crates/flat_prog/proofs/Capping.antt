-- The caps on the site paths of a run tree's nodes are those on the tree.
use Rattle.std.proofs.Common.{◌≡◌, ℕ, zero, suc, ◌+◌, Bool, true, false, ◌&&◌, if◌then◌else◌, List, [], ◌∷◌, ◌++◌, map, length, take, arith, sym, ◌∙◌, ap, refl, subst, append_assoc, length-append}
use Rattle.std.proofs.lemmas.List.{append-nil}
use Rattle.std.specs.Prelude.{Option, None, Some, slice_get}
use Rattle.std.specs.List.{list_all}
use Rattle.std.specs.Option.{option_and_then, option_map}
use Rattle.hy_val.specs.Exprs.{eval}
use Rattle.hy_val.specs.declared.expr.ExprNode.{ExprNode}
use Rattle.hy_val.specs.declared.expr.Var.{Var}
use Rattle.hy_val.specs.declared.value.Value.{Value}
use Rattle.hy_val.specs.Scope.{Scope, sort_of_target}
use Rattle.hy_val.proofs.Booleans.{and-first, and-second, and-both}
use Rattle.hy_val.specs.Stores.{write, write_all, holds, env_with, is_value_of}
use Rattle.flat_prog.specs.Caps.{kind_of, may_follow, are_within, chain_within, within, Capped, CappedBelow}
use Rattle.flat_prog.specs.Laws.{CapsOfPathsAreOfTrees}
use Rattle.flat_prog.specs.Local.{Result, Ended, Broken, Request, State, request, havoc, havoc_one, can_come_back, come_back, pass, pass_all, assert_fails, call_fails, fail, Track, Tail, LocalRun}
use Rattle.flat_prog.specs.Program.{FlatProgram, scope_of, blocks_of}
use Rattle.flat_prog.specs.Runs.{RunMeans, IsFull}
use Rattle.flat_prog.specs.Sites.{calls_of, sites_of, numbers_from, calls_at, sites_passed, paths_of, paths_below, along}
use Rattle.flat_prog.specs.Trees.{Run, Below, node, none, inner, free, track_of, Never, Means, Answer}
use Rattle.flat_prog.specs.declared.block.FlatBlock.{FlatBlock}
use Rattle.flat_prog.specs.declared.block.FlatCmd.{FlatCmd}
use Rattle.flat_prog.specs.declared.block.FlatCmd.TheVariants.{Assign, Havoc, Assume, Assert, Call}
use Rattle.flat_prog.specs.declared.block.FlatNext.{FlatNext}
use Rattle.flat_prog.specs.declared.proc.FlatProc.{FlatProc}

-- ---- what commands add to the calls

pub and_then_some : {A B : Type 0} (f : A → Option B) (o : Option A) (b : B) → option_and_then f o ≡ Some b → (a : A) × (o ≡ Some a) × (f a ≡ Some b)
and_then_some f None b h = absurd cc
and_then_some f (Some a) b h = (a, refl, h)

pub choose_some : {A : Type 0} (b : Bool) (s t : A) → (if b then Some s else None) ≡ Some t → (b ≡ true) × (s ≡ t)
choose_some true s t h = (refl, cc)
choose_some false s t h = absurd cc

-- the calls that are added are those of some commands, to these procedures
pub record Adds (old new : List Request) (procs : List ℕ) : Type 0 where
  pub more : List Request
  pub are : new ≡ old ++ more
  pub to : map (λ (r : Request). r.proc) more ≡ procs

adds_none : (s t : State) → s.calls ≡ t.calls → Adds s.calls t.calls []
adds_none s t e = record { more = []; are = sym e ∙ sym (append-nil s.calls); to = refl }

havoc_one_calls : (scope : Scope) (x : Var) (s t : State) (values : List Value) → havoc_one scope x s values ≡ Some t → s.calls ≡ t.calls
havoc_one_calls scope x s t [] h = absurd cc
havoc_one_calls scope x s t (v ∷ vs) h =
    let c = choose_some (is_value_of (sort_of_target scope x) v) (record s { store = write s.store x v; values = vs }) t h in ap (λ (u : State). u.calls) c.1

havoc_calls : (scope : Scope) (xs : List Var) (s t : State) → havoc scope xs s ≡ Some t → s.calls ≡ t.calls
havoc_calls scope [] s t h = let e : s ≡ t = cc in ap (λ (u : State). u.calls) e
havoc_calls scope (x ∷ xs) s t h =
    let m = and_then_some (havoc scope xs) (havoc_one scope x s s.values) t h in
    havoc_one_calls scope x s m.0 s.values m.1 ∙ havoc_calls scope xs m.0 t m.2

come_back_calls : (flat : FlatProgram) (s t : State) (call : Request) (outs : List Var) (results : List Result) → come_back flat s call outs results ≡ Some t → Adds s.calls t.calls (call.proc ∷ [])
come_back_calls flat s t call outs [] h = absurd cc
come_back_calls flat s t call outs (Broken p n ∷ rs) h = absurd cc
come_back_calls flat s t call outs (Ended os gs ∷ rs) h =
    let c = choose_some (can_come_back flat call.proc os gs) (record { store = write_all (record { globals = gs; locals = s.store.locals }) outs os; values = s.values; results = rs; calls = s.calls ++ call ∷ [] }) t h in
    record { more = call ∷ []; are = ap (λ (u : State). u.calls) (sym c.1); to = refl }

pub pass_calls : (flat : FlatProgram) (q : FlatProc) (consts : List Value) (c : FlatCmd) (s t : State) → pass flat q consts c s ≡ Some t → Adds s.calls t.calls (calls_of (c ∷ []))
pass_calls flat q consts (Assign pairs) s t h =
    let e : record s { store = write_all s.store (map (λ (p : Var × List ExprNode). p.0) pairs) (map (λ (p : Var × List ExprNode). eval (env_with consts s.store) p.1) pairs) } ≡ t = cc in adds_none s t (ap (λ (u : State). u.calls) e)
pass_calls flat q consts (Havoc xs) s t h = adds_none s t (havoc_calls (scope_of flat q) xs s t h)
pass_calls flat q consts (Assume e) s t h = adds_none s t (ap (λ (u : State). u.calls) (choose_some (holds (env_with consts s.store) e) s t h).1)
pass_calls flat q consts (Assert p n e) s t h = adds_none s t (ap (λ (u : State). u.calls) (choose_some (holds (env_with consts s.store) e) s t h).1)
pass_calls flat q consts (Call p args outs) s t h = come_back_calls flat s t (request consts s.store p args) outs s.results h

calls_append : (cs ds : List FlatCmd) → calls_of (cs ++ ds) ≡ calls_of cs ++ calls_of ds
calls_append [] ds = refl
calls_append (Assign pairs ∷ cs) ds = calls_append cs ds
calls_append (Havoc xs ∷ cs) ds = calls_append cs ds
calls_append (Assume e ∷ cs) ds = calls_append cs ds
calls_append (Assert p n e ∷ cs) ds = calls_append cs ds
calls_append (Call p args outs ∷ cs) ds = ap (λ ps. p ∷ ps) (calls_append cs ds)

map_append : (f : Request → ℕ) (xs ys : List Request) → map f (xs ++ ys) ≡ map f xs ++ map f ys
map_append f [] ys = refl
map_append f (x ∷ xs) ys = ap (λ zs. f x ∷ zs) (map_append f xs ys)

pub adds_both : (a b c : List Request) (ps qs : List ℕ) → Adds a b ps → Adds b c qs → Adds a c (ps ++ qs)
adds_both a b c ps qs x y = record {
  more = x.more ++ y.more;
  are = y.are ∙ (ap (λ rs. rs ++ y.more) x.are ∙ append_assoc a x.more y.more);
  to = map_append (λ (r : Request). r.proc) x.more y.more ∙ (ap (λ ns. ns ++ map (λ (r : Request). r.proc) y.more) x.to ∙ ap (λ ns. ps ++ ns) y.to);
}

pub pass_all_calls : (flat : FlatProgram) (q : FlatProc) (consts : List Value) (cmds : List FlatCmd) (s t : State) → pass_all flat q consts cmds s ≡ Some t → Adds s.calls t.calls (calls_of cmds)
pass_all_calls flat q consts [] s t h = let e : s ≡ t = cc in adds_none s t (ap (λ (u : State). u.calls) e)
pass_all_calls flat q consts (c ∷ cmds) s t h =
    let m = and_then_some (pass_all flat q consts cmds) (pass flat q consts c s) t h in
    subst (Adds s.calls t.calls) (sym (calls_append (c ∷ []) cmds)) (adds_both s.calls m.0.calls t.calls (calls_of (c ∷ [])) (calls_of cmds) (pass_calls flat q consts c s m.0 m.1) (pass_all_calls flat q consts cmds m.0 t m.2))

-- a front of the calls of some commands
pub record AddsFront (old new : List Request) (procs : List ℕ) : Type 0 where
  pub front : List ℕ
  pub behind : List ℕ
  pub splits : procs ≡ front ++ behind
  pub adds : Adds old new front

assert_calls : (b : Bool) (p n : ℕ) (calls : List Request) (results : List Result) (r : Result) (total : List Request) → (if b then None else assert_fails p n calls results) ≡ Some (r, total) → total ≡ calls
assert_calls true p n calls results r total h = absurd cc
assert_calls false p n calls [] r total h = let k : (Broken p n, calls) ≡ (r, total) = cc in ap (λ (x : Result × List Request). x.1) (sym k)
assert_calls false p n calls (x ∷ xs) r total h = absurd cc

call_calls : (s : State) (call : Request) (results : List Result) (r : Result) (total : List Request) → call_fails s call results ≡ Some (r, total) → total ≡ s.calls ++ call ∷ []
call_calls s call [] r total h = absurd cc
call_calls s call (Ended os gs ∷ rs) r total h = absurd cc
call_calls s call (Broken p n ∷ []) r total h = let k : (Broken p n, s.calls ++ call ∷ []) ≡ (r, total) = cc in ap (λ (x : Result × List Request). x.1) (sym k)
call_calls s call (Broken p n ∷ x ∷ rs) r total h = absurd cc

pub fail_calls : (consts : List Value) (c : FlatCmd) (s : State) (r : Result) (total : List Request) → fail consts c s ≡ Some (r, total) → Adds s.calls total (calls_of (c ∷ []))
fail_calls consts (Assign pairs) s r total h = absurd cc
fail_calls consts (Havoc xs) s r total h = absurd cc
fail_calls consts (Assume e) s r total h = absurd cc
fail_calls consts (Assert p n e) s r total h = record { more = []; are = assert_calls (holds (env_with consts s.store) e) p n s.calls s.results r total h ∙ sym (append-nil s.calls); to = refl }
fail_calls consts (Call p args outs) s r total h = record { more = request consts s.store p args ∷ []; are = call_calls s (request consts s.store p args) s.results r total h; to = refl }

-- the procedures that the commands of a path call
abbrev pub path_calls : List FlatBlock → List ℕ → List ℕ
path_calls blocks [] = []
path_calls blocks (b ∷ path) = calls_at (slice_get blocks b) ++ path_calls blocks path

pub tail_calls : (flat : FlatProgram) (q : FlatProc) (consts : List Value) (path places : List ℕ) (cmds : List FlatCmd) (next : FlatNext) (s : State) (calls : List Request) (r : Result) → Tail flat q consts path places cmds next s calls r →
    AddsFront s.calls calls (calls_of cmds ++ path_calls q.blocks path)
tail_calls flat q consts [] [] cmds next s calls (Ended os gs) k =
    record { front = calls_of cmds; behind = []; splits = refl; adds = subst (λ cs. Adds s.calls cs (calls_of cmds)) (sym k.calls_are) (pass_all_calls flat q consts cmds s k.over k.passes) }
tail_calls flat q consts [] [] cmds next s calls (Broken p n) k =
    let a = pass_all_calls flat q consts k.before s k.over k.passes in
    let b = fail_calls consts k.at k.over (Broken p n) calls k.fails in
    record {
      front = calls_of k.before ++ calls_of (k.at ∷ []);
      behind = calls_of k.behind;
      splits = append-nil (calls_of cmds) ∙ (ap calls_of k.splits ∙ (calls_append k.before (k.at ∷ k.behind) ∙ (ap (λ ps. calls_of k.before ++ ps) (calls_append (k.at ∷ []) k.behind) ∙ sym (append_assoc (calls_of k.before) (calls_of (k.at ∷ [])) (calls_of k.behind)))));
      adds = adds_both s.calls k.over.calls calls (calls_of k.before) (calls_of (k.at ∷ [])) a b;
    }
tail_calls flat q consts [] (place ∷ places) cmds next s calls r k = absurd k
tail_calls flat q consts (b ∷ path) [] cmds next s calls r k = absurd k
tail_calls flat q consts (b ∷ path) (place ∷ places) cmds next s calls r (block, t, passes, there, is, k) =
    let a = pass_all_calls flat q consts cmds s t passes in
    let n = tail_calls flat q consts path places block.cmds block.next t calls r k in
    record {
      front = calls_of cmds ++ n.front;
      behind = n.behind;
      splits = ap (λ o. calls_of cmds ++ (calls_at o ++ path_calls q.blocks path)) is ∙ (ap (λ ps. calls_of cmds ++ ps) n.splits ∙ sym (append_assoc (calls_of cmds) n.front n.behind));
      adds = adds_both s.calls t.calls calls (calls_of cmds) n.front a n.adds;
    }

-- ---- sites

get_first : {A : Type 0} (xs ys : List A) (k : ℕ) (a : A) → slice_get xs k ≡ Some a → slice_get (xs ++ ys) k ≡ Some a
get_first [] ys k a e = absurd cc
get_first (x ∷ xs) ys zero a e = e
get_first (x ∷ xs) ys (suc k) a e = get_first xs ys k a e

get_second : {A : Type 0} (xs ys : List A) (k : ℕ) → slice_get (xs ++ ys) (length xs + k) ≡ slice_get ys k
get_second [] ys k = let e : 0 + k ≡ k = omega arith in ap (slice_get ys) e
get_second (x ∷ xs) ys k = let e : suc (length xs) + k ≡ suc (length xs + k) = omega arith in ap (slice_get (x ∷ (xs ++ ys))) e ∙ get_second xs ys k

site_at : (blocks : List FlatBlock) (b : ℕ) (block : FlatBlock) (i c : ℕ) → slice_get blocks b ≡ Some block → slice_get (calls_of block.cmds) i ≡ Some c → slice_get (sites_of blocks) (length (sites_of (take b blocks)) + i) ≡ Some c
site_at [] b block i c e h = absurd cc
site_at (x ∷ xs) zero block i c e h =
    let same : x ≡ block = cc in let z : 0 + i ≡ i = omega arith in
    ap (slice_get (calls_of x.cmds ++ sites_of xs)) z ∙ get_first (calls_of x.cmds) (sites_of xs) i c (ap (λ (y : FlatBlock). slice_get (calls_of y.cmds) i) same ∙ h)
site_at (x ∷ xs) (suc b) block i c e h =
    let n = length-append (calls_of x.cmds) (sites_of (take b xs)) in
    let z : length (calls_of x.cmds ++ sites_of (take b xs)) + i ≡ length (calls_of x.cmds) + (length (sites_of (take b xs)) + i) = omega (arith, n) in
    ap (slice_get (calls_of x.cmds ++ sites_of xs)) z ∙ (get_second (calls_of x.cmds) (sites_of xs) (length (sites_of (take b xs)) + i) ∙ site_at xs b block i c e h)

-- each site is a call of the procedure beside it
abbrev pub AreCalls : List FlatBlock → List ℕ → List ℕ → Type 0
AreCalls blocks [] [] = Unit {0}
AreCalls blocks [] (p ∷ ps) = ⊥
AreCalls blocks (s ∷ ss) [] = ⊥
AreCalls blocks (s ∷ ss) (p ∷ ps) = (slice_get (sites_of blocks) s ≡ Some p) × AreCalls blocks ss ps

are_both : (blocks : List FlatBlock) (ss ts ps qs : List ℕ) → AreCalls blocks ss ps → AreCalls blocks ts qs → AreCalls blocks (ss ++ ts) (ps ++ qs)
are_both blocks [] ts [] qs a b = b
are_both blocks [] ts (p ∷ ps) qs a b = absurd a
are_both blocks (s ∷ ss) ts [] qs a b = absurd a
are_both blocks (s ∷ ss) ts (p ∷ ps) qs a b = (a.0, are_both blocks ss ts ps qs a.1 b)

are_numbered : (blocks : List FlatBlock) (first : ℕ) (ps : List ℕ) → ((i c : ℕ) → slice_get ps i ≡ Some c → slice_get (sites_of blocks) (first + i) ≡ Some c) → AreCalls blocks (numbers_from first (length ps)) ps
are_numbered blocks first [] h = tt
are_numbered blocks first (p ∷ ps) h =
    let z : first + 0 ≡ first = omega arith in
    (ap (slice_get (sites_of blocks)) (sym z) ∙ h 0 p refl, are_numbered blocks (first + 1) ps (λ i c e. let y : first + 1 + i ≡ first + suc i = omega arith in ap (slice_get (sites_of blocks)) y ∙ h (suc i) c e))

block_calls : (blocks : List FlatBlock) (b : ℕ) (o : Option FlatBlock) → slice_get blocks b ≡ o → AreCalls blocks (numbers_from (length (sites_of (take b blocks))) (length (calls_at o))) (calls_at o)
block_calls blocks b None e = tt
block_calls blocks b (Some block) e = are_numbered blocks (length (sites_of (take b blocks))) (calls_of block.cmds) (λ i c h. site_at blocks b block i c e h)

pub path_sites : (blocks : List FlatBlock) (path : List ℕ) → AreCalls blocks (sites_passed blocks path) (path_calls blocks path)
path_sites blocks [] = tt
path_sites blocks (b ∷ path) = are_both blocks (numbers_from (length (sites_of (take b blocks))) (length (calls_at (slice_get blocks b)))) (sites_passed blocks path) (calls_at (slice_get blocks b)) (path_calls blocks path) (block_calls blocks b (slice_get blocks b) refl) (path_sites blocks path)

-- the calls that a run passes stand at a front of these sites
abbrev pub AreAt : List FlatBlock → List ℕ → List Request → Type 0
AreAt blocks sites [] = Unit {0}
AreAt blocks [] (c ∷ cs) = ⊥
AreAt blocks (s ∷ ss) (c ∷ cs) = (slice_get (sites_of blocks) s ≡ Some c.proc) × AreAt blocks ss cs

front_at : (blocks : List FlatBlock) (sites procs front behind : List ℕ) (calls : List Request) → AreCalls blocks sites procs → procs ≡ front ++ behind → map (λ (r : Request). r.proc) calls ≡ front → AreAt blocks sites calls
front_at blocks sites procs front behind [] a e h = tt
front_at blocks sites procs [] behind (c ∷ cs) a e h = absurd cc
front_at blocks sites [] (f ∷ front) behind (c ∷ cs) a e h = absurd cc
front_at blocks [] (p ∷ ps) (f ∷ front) behind (c ∷ cs) a e h = absurd a
front_at blocks (s ∷ ss) (p ∷ ps) (f ∷ front) behind (c ∷ cs) a e h =
    let x : p ≡ f = cc in let y : ps ≡ front ++ behind = cc in let z : c.proc ≡ f = cc in let w : map (λ (r : Request). r.proc) cs ≡ front = cc in
    (a.0 ∙ ap (λ n. Some n) (x ∙ sym z), front_at blocks ss ps front behind cs a.1 y w)

pub local_sites : (flat : FlatProgram) (q : FlatProc) (consts : List Value) (track : Track) (begin : State) (results : List Result) (calls : List Request) (r : Result) → LocalRun flat q consts track begin results calls r → AreAt q.blocks (sites_passed q.blocks track.path) calls
local_sites flat q consts track begin results calls r (path, block, path_is, block_is, tail) =
    let n = tail_calls flat q consts path track.places block.cmds block.next (record begin { results = results; calls = [] }) calls r tail in
    let procs_are : path_calls q.blocks track.path ≡ n.front ++ n.behind = ap (path_calls q.blocks) path_is ∙ (ap (λ o. calls_at o ++ path_calls q.blocks path) block_is ∙ n.splits) in
    front_at q.blocks (sites_passed q.blocks track.path) (path_calls q.blocks track.path) n.front n.behind calls (path_sites q.blocks track.path) procs_are (ap (map (λ (c : Request). c.proc)) n.adds.are ∙ n.adds.to)

-- ---- paths

abbrev pub turned : List ℕ → List ℕ → List ℕ
turned [] passed = passed
turned (p ∷ ps) passed = turned ps (p ∷ passed)

-- the path exists from the entry, along these procedures, the last one first
pub record Along (flat : FlatProgram) (entry : ℕ) (path passed : List ℕ) : Type 0 where
  pub procs : List ℕ
  pub are : along flat entry path ≡ Some procs
  pub back : turned procs [] ≡ passed

turned_more : (ps : List ℕ) (c : ℕ) (passed : List ℕ) → turned (ps ++ c ∷ []) passed ≡ c ∷ turned ps passed
turned_more [] c passed = refl
turned_more (p ∷ ps) c passed = turned_more ps c (p ∷ passed)

within_more : (flat : FlatProgram) (bound : ℕ) (passed ps : List ℕ) (c : ℕ) → are_within flat bound passed (ps ++ c ∷ []) ≡ (are_within flat bound passed ps && may_follow bound (kind_of (slice_get flat.procs c)) c (turned ps passed))
within_more flat bound passed [] c = at (may_follow bound (kind_of (slice_get flat.procs c)) c passed)
  where
    at : (b : Bool) → (b && true) ≡ (true && b)
    at true = refl
    at false = refl
within_more flat bound passed (p ∷ ps) c =
    let own = may_follow bound (kind_of (slice_get flat.procs p)) p passed in
    ap (λ b. own && b) (within_more flat bound (p ∷ passed) ps c) ∙ at own (are_within flat bound (p ∷ passed) ps) (may_follow bound (kind_of (slice_get flat.procs c)) c (turned ps (p ∷ passed)))
  where
    at : (a b c : Bool) → (a && (b && c)) ≡ ((a && b) && c)
    at true b c = refl
    at false b c = refl

-- the last of the procedures
abbrev pub last_of : ℕ → List ℕ → ℕ
last_of p [] = p
last_of p (q ∷ qs) = last_of q qs

along_more : (flat : FlatProgram) (entry : ℕ) (path : List ℕ) (p site c : ℕ) (rest : List ℕ) → (a : Along flat entry path (p ∷ rest)) → slice_get (sites_of (blocks_of (slice_get flat.procs p))) site ≡ Some c → Along flat entry (path ++ site ∷ []) (c ∷ p ∷ rest)
along_more flat entry path p site c rest a h =
    let n = go entry path a.procs a.are in
    record { procs = a.procs ++ c ∷ []; are = n (last_is a.procs [] p rest a.back entry (starts entry path a.procs a.are)); back = turned_more a.procs c [] ∙ ap (λ ps. c ∷ ps) a.back }
  where
    -- the procedures begin with the first one
    starts : (e : ℕ) (path ps : List ℕ) → along flat e path ≡ Some ps → (qs : List ℕ) × (ps ≡ e ∷ qs)
    starts e [] ps k = let x : e ∷ [] ≡ ps = cc in ([], sym x)
    starts e (s ∷ path) ps k = at (option_and_then (λ q. along flat q path) (slice_get (sites_of (blocks_of (slice_get flat.procs e))) s)) k
      where
        at : (o : Option (List ℕ)) → option_map (λ qs. e ∷ qs) o ≡ Some ps → (qs : List ℕ) × (ps ≡ e ∷ qs)
        at None j = absurd cc
        at (Some qs) j = let x : e ∷ qs ≡ ps = cc in (qs, sym x)

    turned_last : (ps passed : List ℕ) (e p : ℕ) (rest : List ℕ) → turned ps (e ∷ passed) ≡ p ∷ rest → last_of e ps ≡ p
    turned_last [] passed e p rest k = cc
    turned_last (x ∷ ps) passed e p rest k = turned_last ps (e ∷ passed) x p rest k

    last_is : (ps passed : List ℕ) (p : ℕ) (rest : List ℕ) → turned ps passed ≡ p ∷ rest → (e : ℕ) → (qs : List ℕ) × (ps ≡ e ∷ qs) → (qs : List ℕ) × (ps ≡ e ∷ qs) × (last_of e qs ≡ p)
    last_is ps passed p rest k e (qs, j) = (qs, j, turned_last qs passed e p rest (ap (λ zs. turned zs passed) (sym j) ∙ k))

    go : (e : ℕ) (path ps : List ℕ) → along flat e path ≡ Some ps → ((qs : List ℕ) × (ps ≡ e ∷ qs) × (last_of e qs ≡ p)) → along flat e (path ++ site ∷ []) ≡ Some (ps ++ c ∷ [])
    go e [] ps k (qs, j, l) =
        let x : e ∷ [] ≡ ps = cc in let y : [] ≡ qs = cc in
        let z : e ≡ p = ap (last_of e) y ∙ l in
        let s : slice_get (sites_of (blocks_of (slice_get flat.procs e))) site ≡ Some c = ap (λ n. slice_get (sites_of (blocks_of (slice_get flat.procs n))) site) z ∙ h in
        ap (λ o. option_map (λ us. e ∷ us) (option_and_then (λ q. along flat q []) o)) s ∙ ap (λ us. Some (us ++ c ∷ [])) x
    go e (s ∷ path) ps k (qs, j, l) = at (slice_get (sites_of (blocks_of (slice_get flat.procs e))) s) k (λ q us i. go q path us i)
      where
        at : (o : Option ℕ) → option_map (λ us. e ∷ us) (option_and_then (λ q. along flat q path) o) ≡ Some ps →
            ((q : ℕ) (us : List ℕ) → along flat q path ≡ Some us → ((vs : List ℕ) × (us ≡ q ∷ vs) × (last_of q vs ≡ p)) → along flat q (path ++ site ∷ []) ≡ Some (us ++ c ∷ [])) →
            option_map (λ us. e ∷ us) (option_and_then (λ q. along flat q (path ++ site ∷ [])) o) ≡ Some (ps ++ c ∷ [])
        at None i ih = absurd cc
        at (Some q) i ih = more (along flat q path) refl i
          where
            more : (o : Option (List ℕ)) → along flat q path ≡ o → option_map (λ us. e ∷ us) o ≡ Some ps → option_map (λ us. e ∷ us) (along flat q (path ++ site ∷ [])) ≡ Some (ps ++ c ∷ [])
            more None u v = absurd cc
            more (Some us) u v =
                let x : e ∷ us ≡ ps = cc in let y : us ≡ qs = cc in
                let f = starts q path us u in
                let g : last_of q f.0 ≡ p = ap (last_of e) (sym f.1 ∙ y) ∙ l in
                ap (option_map (λ ws. e ∷ ws)) (ih q us u (f.0, f.1, g)) ∙ ap (λ ws. Some (ws ++ c ∷ [])) x

within_is : (flat : FlatProgram) (entry bound : ℕ) (path passed : List ℕ) → (a : Along flat entry path passed) → within flat entry bound path ≡ are_within flat bound [] a.procs
within_is flat entry bound path passed a = ap (chain_within flat bound) a.are

-- ---- the caps

all_both : (test : List ℕ → Bool) (xs ys : List (List ℕ)) → list_all test xs ≡ true → list_all test ys ≡ true → list_all test (xs ++ ys) ≡ true
all_both test [] ys h k = k
all_both test (x ∷ xs) ys h k = and-both (test x) (list_all test (xs ++ ys)) (and-first (test x) _ h) (all_both test xs ys (and-second (test x) _ h) k)

-- one node further down
next_within : (flat : FlatProgram) (entry bound : ℕ) (path : List ℕ) (p site c : ℕ) (rest : List ℕ) → (a : Along flat entry path (p ∷ rest)) → within flat entry bound path ≡ true → (h : slice_get (sites_of (blocks_of (slice_get flat.procs p))) site ≡ Some c) →
    may_follow bound (kind_of (slice_get flat.procs c)) c (p ∷ rest) ≡ true → within flat entry bound (path ++ site ∷ []) ≡ true
unfolding along_more
next_within flat entry bound path p site c rest a w h may =
    let b = along_more flat entry path p site c rest a h in
    ap (chain_within flat bound) b.are
    ∙ (within_more flat bound [] a.procs c
    ∙ and-both (are_within flat bound [] a.procs) (may_follow bound (kind_of (slice_get flat.procs c)) c (turned a.procs [])) (sym (within_is flat entry bound path (p ∷ rest) a) ∙ w) (ap (may_follow bound (kind_of (slice_get flat.procs c)) c) a.back ∙ may))

mutual
  pub run_within : (run : Run) (flat : FlatProgram) (entry bound : ℕ) (consts : List Value) (q : FlatProc) (begin : State) (r : Result) (path rest : List ℕ) → slice_get flat.procs (track_of run).proc ≡ Some q → Means run flat Never consts q begin r →
      Along flat entry path ((track_of run).proc ∷ rest) → within flat entry bound path ≡ true → Capped run flat bound ((track_of run).proc ∷ rest) → list_all (within flat entry bound) (paths_of run flat path) ≡ true
  run_within (node track below) flat entry bound consts q begin r path rest is (results, calls, local, answers) a w capped =
      let sites = local_sites flat q consts track begin results calls r local in
      let blocks_is : blocks_of (slice_get flat.procs track.proc) ≡ q.blocks = ap blocks_of is in
      and-both (within flat entry bound path) (list_all (within flat entry bound) (paths_below below flat path (sites_passed (blocks_of (slice_get flat.procs track.proc)) track.path))) w
      (below_within below flat entry bound consts track.proc path rest (sites_passed (blocks_of (slice_get flat.procs track.proc)) track.path) calls results a w
      (subst (λ bs. AreAt bs (sites_passed bs track.path) calls) (sym blocks_is) sites) answers capped)

  pub below_within : (below : Below) (flat : FlatProgram) (entry bound : ℕ) (consts : List Value) (p : ℕ) (path rest sites : List ℕ) (calls : List Request) (results : List Result) → Along flat entry path (p ∷ rest) → within flat entry bound path ≡ true →
      AreAt (blocks_of (slice_get flat.procs p)) sites calls → Answer below flat Never consts calls results → CappedBelow below flat bound (p ∷ rest) → list_all (within flat entry bound) (paths_below below flat path sites) ≡ true
  below_within none flat entry bound consts p path rest sites calls results a w at answers capped = refl
  below_within (free ends values below) flat entry bound consts p path rest sites [] results a w at answers capped = absurd answers
  below_within (free ends values below) flat entry bound consts p path rest sites (call ∷ calls) [] a w at answers capped = absurd answers
  below_within (free ends values below) flat entry bound consts p path rest sites (call ∷ calls) (result ∷ results) a w at (never, answers) capped = absurd never
  below_within (inner run below) flat entry bound consts p path rest [] calls results a w at answers capped = refl
  below_within (inner run below) flat entry bound consts p path rest (site ∷ sites) [] results a w at answers capped = absurd answers
  below_within (inner run below) flat entry bound consts p path rest (site ∷ sites) (call ∷ calls) [] a w at answers capped = absurd answers
  below_within (inner run below) flat entry bound consts p path rest (site ∷ sites) (call ∷ calls) (result ∷ results) a w (here, others) ((q, begin, begins, means), answers) (may, own, capped) =
      let c = (track_of run).proc in
      let h : slice_get (sites_of (blocks_of (slice_get flat.procs p))) site ≡ Some c = here ∙ ap (λ n. Some n) (sym begins.same) in
      let b = along_more flat entry path p site c rest a h in
      all_both (within flat entry bound) (paths_of run flat (path ++ site ∷ [])) (paths_below below flat path sites)
      (run_within run flat entry bound consts q begin result (path ++ site ∷ []) (p ∷ rest) begins.proc means b (next_within flat entry bound path p site c rest a w h may) own)
      (below_within below flat entry bound consts p path rest sites calls results a w others answers capped)

-- a run tree of the entry that is within the caps is a member of the full inlining
pub capped_full : (flat : FlatProgram) (entry bound : ℕ) (run : Run) (r : Result) → RunMeans flat entry Never run r → may_follow bound (kind_of (slice_get flat.procs entry)) entry [] ≡ true → Capped run flat bound (entry ∷ []) → IsFull flat entry bound run
capped_full flat entry bound run r m may capped =
    let e = m.same in
    let w : within flat entry bound [] ≡ true = and-both (may_follow bound (kind_of (slice_get flat.procs entry)) entry []) true may refl in
    let all = run_within run flat entry bound m.consts m.proc m.begin r [] [] (ap (slice_get flat.procs) e ∙ m.proc_is) m.means
    (subst (λ n. Along flat entry [] (n ∷ [])) (sym e) (record { procs = entry ∷ []; are = refl; back = refl })) w (subst (λ n. Capped run flat bound (n ∷ [])) (sym e) capped) in
    record { result = r; means = m; within_caps = all }

-- ---- and back

all_first : (test : List ℕ → Bool) (xs ys : List (List ℕ)) → list_all test (xs ++ ys) ≡ true → list_all test xs ≡ true
all_first test [] ys h = refl
all_first test (x ∷ xs) ys h = and-both (test x) (list_all test xs) (and-first (test x) _ h) (all_first test xs ys (and-second (test x) _ h))

all_second : (test : List ℕ → Bool) (xs ys : List (List ℕ)) → list_all test (xs ++ ys) ≡ true → list_all test ys ≡ true
all_second test [] ys h = h
all_second test (x ∷ xs) ys h = all_second test xs ys (and-second (test x) _ h)

own_path : (test : List ℕ → Bool) (run : Run) (flat : FlatProgram) (path : List ℕ) → list_all test (paths_of run flat path) ≡ true → test path ≡ true
own_path test (node track below) flat path h = and-first (test path) _ h

may_be : (flat : FlatProgram) (entry bound : ℕ) (path : List ℕ) (p site c : ℕ) (rest : List ℕ) → (a : Along flat entry path (p ∷ rest)) → (h : slice_get (sites_of (blocks_of (slice_get flat.procs p))) site ≡ Some c) → within flat entry bound (path ++ site ∷ []) ≡ true →
    may_follow bound (kind_of (slice_get flat.procs c)) c (p ∷ rest) ≡ true
unfolding along_more
may_be flat entry bound path p site c rest a h w =
    let b = along_more flat entry path p site c rest a h in
    ap (may_follow bound (kind_of (slice_get flat.procs c)) c) (sym a.back)
    ∙ and-second (are_within flat bound [] a.procs) _ (sym (within_more flat bound [] a.procs c) ∙ (ap (chain_within flat bound) (sym b.are) ∙ w))

mutual
  pub run_capped : (run : Run) (flat : FlatProgram) (entry bound : ℕ) (consts : List Value) (q : FlatProc) (begin : State) (r : Result) (path rest : List ℕ) → slice_get flat.procs (track_of run).proc ≡ Some q → Means run flat Never consts q begin r →
      Along flat entry path ((track_of run).proc ∷ rest) → list_all (within flat entry bound) (paths_of run flat path) ≡ true → Capped run flat bound ((track_of run).proc ∷ rest)
  run_capped (node track below) flat entry bound consts q begin r path rest is (results, calls, local, answers) a all =
      let sites = local_sites flat q consts track begin results calls r local in
      let blocks_is : blocks_of (slice_get flat.procs track.proc) ≡ q.blocks = ap blocks_of is in
      below_capped below flat entry bound consts track.proc path rest (sites_passed (blocks_of (slice_get flat.procs track.proc)) track.path) calls results a
      (subst (λ bs. AreAt bs (sites_passed bs track.path) calls) (sym blocks_is) sites) answers (and-second (within flat entry bound path) _ all)

  pub below_capped : (below : Below) (flat : FlatProgram) (entry bound : ℕ) (consts : List Value) (p : ℕ) (path rest sites : List ℕ) (calls : List Request) (results : List Result) → Along flat entry path (p ∷ rest) →
      AreAt (blocks_of (slice_get flat.procs p)) sites calls → Answer below flat Never consts calls results → list_all (within flat entry bound) (paths_below below flat path sites) ≡ true → CappedBelow below flat bound (p ∷ rest)
  below_capped none flat entry bound consts p path rest sites calls results a at answers all = tt
  below_capped (free ends values below) flat entry bound consts p path rest sites [] results a at answers all = absurd answers
  below_capped (free ends values below) flat entry bound consts p path rest sites (call ∷ calls) [] a at answers all = absurd answers
  below_capped (free ends values below) flat entry bound consts p path rest sites (call ∷ calls) (result ∷ results) a at (never, answers) all = absurd never
  below_capped (inner run below) flat entry bound consts p path rest sites [] results a at answers all = absurd answers
  below_capped (inner run below) flat entry bound consts p path rest sites (call ∷ calls) [] a at answers all = absurd answers
  below_capped (inner run below) flat entry bound consts p path rest [] (call ∷ calls) (result ∷ results) a at answers all = absurd at
  below_capped (inner run below) flat entry bound consts p path rest (site ∷ sites) (call ∷ calls) (result ∷ results) a (here, others) ((q, begin, begins, means), answers) all =
      let c = (track_of run).proc in
      let h : slice_get (sites_of (blocks_of (slice_get flat.procs p))) site ≡ Some c = here ∙ ap (λ n. Some n) (sym begins.same) in
      let b = along_more flat entry path p site c rest a h in
      let own = all_first (within flat entry bound) (paths_of run flat (path ++ site ∷ [])) (paths_below below flat path sites) all in (
        may_be flat entry bound path p site c rest a h (own_path (within flat entry bound) run flat (path ++ site ∷ []) own),
        run_capped run flat entry bound consts q begin result (path ++ site ∷ []) (p ∷ rest) begins.proc means b own,
        below_capped below flat entry bound consts p path rest sites calls results a others answers (all_second (within flat entry bound) (paths_of run flat (path ++ site ∷ [])) (paths_below below flat path sites) all),
      )

-- a member of the full inlining is within the caps
pub full_capped : (flat : FlatProgram) (entry bound : ℕ) (run : Run) → IsFull flat entry bound run → Capped run flat bound (entry ∷ [])
full_capped flat entry bound run f =
    let m = f.means in
    let e = m.same in
    subst (λ n. Capped run flat bound (n ∷ [])) e
    (run_capped run flat entry bound m.consts m.proc m.begin f.result [] [] (ap (slice_get flat.procs) e ∙ m.proc_is) m.means
    (subst (λ n. Along flat entry [] (n ∷ [])) (sym e) (record { procs = entry ∷ []; are = refl; back = refl })) f.within_caps)

-- both ways
pub caps_are : CapsOfPathsAreOfTrees
caps_are flat entry bound run result m = (to, from)
  where
    to : list_all (within flat entry bound) (paths_of run flat []) ≡ true → (may_follow bound (kind_of (slice_get flat.procs entry)) entry [] ≡ true) × Capped run flat bound (entry ∷ [])
    to h = (and-first (may_follow bound (kind_of (slice_get flat.procs entry)) entry []) true (own_path (within flat entry bound) run flat [] h), full_capped flat entry bound run (record { result = result; means = m; within_caps = h }))

    from : (may_follow bound (kind_of (slice_get flat.procs entry)) entry [] ≡ true) × Capped run flat bound (entry ∷ []) → list_all (within flat entry bound) (paths_of run flat []) ≡ true
    from (may, capped) = (capped_full flat entry bound run result m may capped).within_caps
