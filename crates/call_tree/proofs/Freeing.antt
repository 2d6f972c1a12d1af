-- A free child may stand for each result that a run of the callee may have.
use Rattle.std.proofs.Common.{◌≡◌, ℕ, zero, suc, ◌+◌, ◌<◌, ◌≤◌, Bool, true, List, [], ◌∷◌, ◌++◌, length, map, slice_get, slice_set, slice_index, Option, None, Some, All, Any, Contains, refl, sym, ap, ◌∙◌, subst, inl, inr, ◌⊎◌, ⊎_elim, arith, not-suc-le-zero, true≢false}
use Rattle.std.proofs.lemmas.Bool.{and_parts, cases_eq, cases_lt}
use Rattle.std.proofs.lemmas.Option.{slice_get_within}
use Rattle.std.specs.List.{list_all}
use Rattle.std.specs.List.Sorted.{IsStrictlyIncreasing}
use Rattle.hy_val.specs.Values.{at, has_sort}
use Rattle.hy_val.specs.declared.sort.Sort.{Sort}
use Rattle.hy_val.specs.declared.value.Value.{Value}
use Rattle.hy_val.specs.declared.expr.ExprNode.{ExprNode}
use Rattle.hy_val.specs.declared.expr.Var.{Var}
use Rattle.hy_val.specs.declared.expr.Var.TheVariants.{Global}
use Rattle.hy_val.specs.Scope.{Scope, sort_of_target, is_sort_of, are_same, is_target, pair_fits, sort_of_expr, node_fits}
use Rattle.flat_prog.specs.Program.{FlatProgram, scope_of, outs_at}
use Rattle.flat_prog.specs.Shape.{IsFlat, IsFlatProc, args_fit, targets_fit, call_fits, cmd_fits, next_fits, block_fits}
use Rattle.flat_prog.specs.declared.block.FlatCmd.{FlatCmd}
use Rattle.flat_prog.specs.declared.block.FlatCmd.TheVariants.{Assign, Havoc, Assume, Assert, Call}
use Rattle.flat_prog.specs.declared.block.FlatBlock.{FlatBlock}
use Rattle.flat_prog.specs.declared.proc.FlatProc.{FlatProc}
use Rattle.flat_prog.specs.Local.{Request, can_come_back}
use Rattle.hy_val.specs.Stores.{have_sorts}
use Rattle.flat_prog.specs.Changes.{Writes, MayChange, own, through, set_all, FreeEnds, MayBe, Unchanged}
use Rattle.call_tree.proofs.Lists.{any_cases, any_none, has_here, has_there, has_cases, has_none, alike}
use Rattle.flat_prog.proofs.Deciding.{Decided, change_decided}
use Rattle.call_tree.proofs.OverLaw.{Admits}

set_length : (gs : List Value) (n : ℕ) (v : Value) → length (slice_set gs n v) ≡ length gs
set_length [] n v = refl
set_length (g ∷ gs) zero v = refl
set_length (g ∷ gs) (suc n) v = ap suc (set_length gs n v)

set_other : (gs : List Value) (n m : ℕ) (v : Value) → (n ≡ m → ⊥) → slice_get (slice_set gs n v) m ≡ slice_get gs m
set_other [] n m v e = refl
set_other (g ∷ gs) zero zero v e = absurd (e refl)
set_other (g ∷ gs) zero (suc m) v e = refl
set_other (g ∷ gs) (suc n) zero v e = refl
set_other (g ∷ gs) (suc n) (suc m) v e = set_other gs n m v (λ is. e (ap suc is))

-- ---- the globals that are written are there

pub any_all : {X : Type 0} (P : X → Type 0) (Q : Type 0) (test : X → Bool) (xs : List X) → ((x : X) → test x ≡ true → P x → Q) → list_all test xs ≡ true → Any P xs → Q
any_all P Q test [] each all h = absurd (any_none P h)
any_all P Q test (x ∷ xs) each all h =
    let parts = and_parts (test x) (list_all test xs) all in
    ⊎_elim (λ p. each x parts.0 p) (λ more. any_all P Q test xs each parts.1 more) (any_cases P x xs h)

has_all : {X : Type 0} (Q : Type 0) (test : X → Bool) (xs : List X) (x : X) → (test x ≡ true → Q) → list_all test xs ≡ true → Contains xs x → Q
has_all Q test [] x each all h = absurd (has_none x h)
has_all Q test (y ∷ ys) x each all h =
    let parts = and_parts (test y) (list_all test ys) all in
    ⊎_elim (λ e. each (subst (λ (z : _). test z ≡ true) e parts.0)) (λ more. has_all Q test ys x each parts.1 more) (has_cases x y ys h)

global_within : (scope : Scope) (g : ℕ) (x : Var) (sort : Option Sort) → x ≡ Global g → are_same sort (sort_of_target scope x) ≡ true → g < length scope.globals
global_within scope g x sort e h = found (slice_get scope.globals g) refl (subst (λ (y : Var). are_same sort (sort_of_target scope y) ≡ true) e h)
  where
    no_sort : (o : Option Sort) → are_same o None ≡ true → ⊥
    no_sort None h = true≢false (sym h)
    no_sort (Some s) h = true≢false (sym h)

    found : (o : Option Sort) → slice_get scope.globals g ≡ o → are_same sort o ≡ true → g < length scope.globals
    found None is h = absurd (no_sort sort h)
    found (Some s) is h = slice_get_within scope.globals g s is

target_within : (scope : Scope) (g : ℕ) (sorts : List Sort) (xs : List Var) → targets_fit scope sorts xs ≡ true → Contains xs (Global g) → g < length scope.globals
target_within scope g [] [] h at = absurd (has_none (Global g) at)
target_within scope g [] (x ∷ xs) h at = absurd (true≢false (sym h))
target_within scope g (s ∷ sorts) [] h at = absurd (has_none (Global g) at)
target_within scope g (s ∷ sorts) (x ∷ xs) h at =
    let parts = and_parts (is_sort_of (sort_of_target scope x) s) (targets_fit scope sorts xs) h in
    ⊎_elim (λ e. found (slice_get scope.globals g) refl (subst (λ (y : Var). is_sort_of (sort_of_target scope y) s ≡ true) e parts.0)) (λ more. target_within scope g sorts xs parts.1 more) (has_cases (Global g) x xs at)
  where
    found : (o : Option Sort) → slice_get scope.globals g ≡ o → is_sort_of o s ≡ true → g < length scope.globals
    found None is h = absurd (true≢false (sym h))
    found (Some t) is h = slice_get_within scope.globals g t is

cmd_within : (procs : List FlatProc) (scope : Scope) (g : ℕ) (c : FlatCmd) → cmd_fits procs scope c ≡ true → Writes (Global g) c → g < length scope.globals
cmd_within procs scope g (Assign pairs) h w =
    any_all (λ (p : Var × List ExprNode). p.0 ≡ Global g) (g < length scope.globals) (pair_fits scope) pairs
    (λ p fits e. global_within scope g p.0 (sort_of_expr p.1) e (and_parts (list_all (node_fits scope) p.1) (are_same (sort_of_expr p.1) (sort_of_target scope p.0)) fits).1) h w
cmd_within procs scope g (Havoc xs) h w =
    has_all (g < length scope.globals) (is_target scope) xs (Global g) (λ fits. global_within scope g (Global g) (sort_of_target scope (Global g)) refl fits) h w
cmd_within procs scope g (Assume expr) h w = absurd w
cmd_within procs scope g (Assert proc number expr) h w = absurd w
cmd_within procs scope g (Call proc args outs) h w = called (slice_get procs proc) h
  where
    called : (o : Option FlatProc) → call_fits scope o args outs ≡ true → g < length scope.globals
    called None h = absurd (true≢false (sym h))
    called (Some q) h = target_within scope g q.outs outs (and_parts (args_fit scope q.ins args) (targets_fit scope q.outs outs) h).1 w

pub all_at : {X : Type 0} (P : X → Type 0) (xs : List X) (k : ℕ) (x : X) → All P xs → slice_get xs k ≡ Some x → P x
all_at P [] k x all h = cc
all_at P (y ∷ ys) zero x all h = let e : y ≡ x = cc in subst P e (all 0 y (omega arith))
all_at P (y ∷ ys) (suc k) x all h = all_at P ys k x (λ i d within. all (suc i) d (omega arith)) h

pub change_is_global : (flat : FlatProgram) (g p : ℕ) → IsFlat flat → MayChange flat g p → g < length flat.globals
change_is_global flat g p fits (own q is w) =
    let f = all_at (IsFlatProc flat) flat.procs p q fits.procs is in
    any_all (λ (b : FlatBlock). Any (Writes (Global g)) b.cmds) (g < length flat.globals) (block_fits flat.procs (scope_of flat q) (length q.blocks)) q.blocks
    (λ b fit some. any_all (Writes (Global g)) (g < length flat.globals) (cmd_fits flat.procs (scope_of flat q)) b.cmds
    (λ c fits wr. cmd_within flat.procs (scope_of flat q) g c fits wr) (and_parts (list_all (cmd_fits flat.procs (scope_of flat q)) b.cmds) (next_fits (length q.blocks) b.next) fit).0 some)
    f.blocks w
change_is_global flat g p fits (through q to is calls h) = change_is_global flat g to fits h

-- ---- the numbers of the globals that may be changed

abbrev keep_if : (P : Type 0) → Decided P → ℕ → List ℕ → List ℕ
keep_if P (inl p) n ns = n ∷ ns
keep_if P (inr no_p) n ns = ns

-- those from first on that are such
abbrev such : (P : ℕ → Type 0) → ((n : ℕ) → Decided (P n)) → (first count : ℕ) → List ℕ
such P each first zero = []
such P each first (suc count) = keep_if (P first) (each first) first (such P each (suc first) count)

such_in : (P : ℕ → Type 0) (each : (n : ℕ) → Decided (P n)) (first count n : ℕ) → P n → first ≤ n → n < first + count → Contains (such P each first count) n
such_in P each first zero n p low high = absurd (omega arith)
such_in P each first (suc count) n p low high =
    ⊎_elim (λ e. here n p (sym e) (each first)) (λ e. there n (each first) (such_in P each (suc first) count n p (above first n low e) (omega arith))) (cases_eq first n)
  where
    above : (a b : ℕ) → a ≤ b → (a ≡ b → ⊥) → suc a ≤ b
    above a b l e = ⊎_elim (λ h. omega arith) (λ h. absurd (e (omega arith))) (cases_lt a b)

    here : (n : ℕ) → P n → n ≡ first → (d : Decided (P first)) → Contains (keep_if (P first) d first (such P each (suc first) count)) n
    here n p e (inl h) = subst (λ (m : ℕ). Contains (first ∷ such P each (suc first) count) m) (sym e) (has_here first (such P each (suc first) count))
    here n p e (inr nay) = absurd (nay (subst P e p))

    there : (n : ℕ) (d : Decided (P first)) → Contains (such P each (suc first) count) n → Contains (keep_if (P first) d first (such P each (suc first) count)) n
    there n (inl h) more = has_there n first (such P each (suc first) count) more
    there n (inr nay) more = more

such_is : (P : ℕ → Type 0) (each : (n : ℕ) → Decided (P n)) (first count n : ℕ) → Contains (such P each first count) n → P n
such_is P each first zero n h = absurd (has_none n h)
such_is P each first (suc count) n h = by_first (each first) (λ more. such_is P each (suc first) count n more) h
  where
    by_first : (d : Decided (P first)) → (Contains (such P each (suc first) count) n → P n) → Contains (keep_if (P first) d first (such P each (suc first) count)) n → P n
    by_first (inl p) go h = ⊎_elim (λ e. subst P e p) go (has_cases n first (such P each (suc first) count) h)
    by_first (inr nay) go h = go h

-- each is above the one before, and the first is at least low
abbrev Above : ℕ → List ℕ → Type 0
Above low [] = Unit {0}
Above low (x ∷ xs) = (low ≤ x) × Above (suc x) xs

above_lower : (low high : ℕ) (xs : List ℕ) → low ≤ high → Above high xs → Above low xs
above_lower low high [] l h = tt
above_lower low high (x ∷ xs) l h = (let k = h.0 in omega arith, h.1)

such_above : (P : ℕ → Type 0) (each : (n : ℕ) → Decided (P n)) (first count : ℕ) → Above first (such P each first count)
such_above P each first zero = tt
such_above P each first (suc count) = by_first (each first) (such_above P each (suc first) count)
  where
    by_first : (d : Decided (P first)) → Above (suc first) (such P each (suc first) count) → Above first (keep_if (P first) d first (such P each (suc first) count))
    by_first (inl p) h = (omega arith, h)
    by_first (inr nay) h = above_lower first (suc first) (such P each (suc first) count) (omega arith) h

above_increases : (low : ℕ) (xs : List ℕ) → Above low xs → IsStrictlyIncreasing xs
above_increases low [] h k within = absurd (not-suc-le-zero within)
above_increases low (x ∷ []) h k within = absurd (omega arith)
above_increases low (x ∷ y ∷ ys) h zero within = let l = h.1.0 in omega arith
above_increases low (x ∷ y ∷ ys) h (suc k) within =
    let e : suc (k + 1) ≡ suc k + 1 = omega arith in
    let r = above_increases (suc x) (y ∷ ys) h.1 k (omega arith) in
    subst (λ (n : ℕ). slice_index (y ∷ ys) k < slice_index (x ∷ y ∷ ys) n) e r

-- ---- the globals behind a call

at_get : (vs : List Value) (i : ℕ) → i < length vs → slice_get vs i ≡ Some (at vs i)
at_get [] i h = absurd (not-suc-le-zero h)
at_get (v ∷ vs) zero h = refl
at_get (v ∷ vs) (suc i) h = at_get vs i (omega arith)

set_same : (gs : List Value) (n : ℕ) (v : Value) → n < length gs → slice_get (slice_set gs n v) n ≡ Some v
set_same [] n v h = absurd (not-suc-le-zero h)
set_same (g ∷ gs) zero v h = refl
set_same (g ∷ gs) (suc n) v h = set_same gs n v (omega arith)

set_all_gets : (old new : List Value) (ns : List ℕ) (i : ℕ) → length new ≡ length old → ((n : ℕ) → Contains ns n → n < length new) → ((slice_get old i ≡ slice_get new i) ⊎ Contains ns i) →
    slice_get (set_all old ns (map (at new) ns)) i ≡ slice_get new i
set_all_gets old new [] i count each h = ⊎_elim (λ e. e) (λ at. absurd (has_none i at)) h
set_all_gets old new (n ∷ ns) i count each h =
    set_all_gets (slice_set old n (at new n)) new ns i (count ∙ sym (set_length old n (at new n))) (λ m in_ns. each m (has_there m n ns in_ns)) (by_place (cases_eq n i) h)
  where
    within : n < length new
    within = each n (has_here n ns)

    by_place : ((n ≡ i) ⊎ (n ≡ i → ⊥)) → ((slice_get old i ≡ slice_get new i) ⊎ Contains (n ∷ ns) i) → (slice_get (slice_set old n (at new n)) i ≡ slice_get new i) ⊎ Contains ns i
    by_place (inl e) h =
        inl (subst (λ (m : ℕ). slice_get (slice_set old n (at new n)) m ≡ slice_get new m) e (set_same old n (at new n) (let l = within in omega arith) ∙ sym (at_get new n within)))
    by_place (inr e) (inl h) = inl (set_other old n i (at new n) e ∙ h)
    by_place (inr e) (inr h) = ⊎_elim (λ same. absurd (e same)) (λ more. inr more) (has_cases i n ns h)

sorts_length : (vs : List Value) (sorts : List Sort) → have_sorts vs sorts ≡ true → length vs ≡ length sorts
sorts_length [] [] h = refl
sorts_length [] (s ∷ sorts) h = absurd (true≢false (sym h))
sorts_length (v ∷ vs) [] h = absurd (true≢false (sym h))
sorts_length (v ∷ vs) (s ∷ sorts) h = ap suc (sorts_length vs sorts (and_parts (has_sort v s) (have_sorts vs sorts) h).1)

map_length : (f : ℕ → Value) (ns : List ℕ) → length (map f ns) ≡ length ns
map_length f [] = refl
map_length f (n ∷ ns) = ap suc (map_length f ns)

free_ends : (flat : FlatProgram) (call : Request) (outs globals : List Value) → IsFlat flat → can_come_back flat call.proc outs globals ≡ true → Unchanged (λ g. MayChange flat g call.proc) call.globals globals →
    (values : List Value) × FreeEnds flat call values outs globals
free_ends flat call outs globals fits fit h =
    let each : (g : ℕ) → Decided (MayChange flat g call.proc) = λ g. change_decided flat g call.proc in
    let ns = such (λ g. MayChange flat g call.proc) each 0 (length flat.globals) in
    let count : length globals ≡ length flat.globals = sorts_length globals flat.globals (and_parts (have_sorts outs (outs_at (slice_get flat.procs call.proc))) (have_sorts globals flat.globals) fit).1 in
    let has : (g : ℕ) → MayChange flat g call.proc → Contains ns g = λ g m. such_in (λ g. MayChange flat g call.proc) each 0 (length flat.globals) g m (omega arith) (let l = change_is_global flat g call.proc fits m in omega arith) in
    let is : (g : ℕ) → Contains ns g → MayChange flat g call.proc = λ g at. such_is (λ g. MayChange flat g call.proc) each 0 (length flat.globals) g at in (
      outs ++ map (at globals) ns,
      record {
        numbers = ns;
        changed = record { exact = λ g. (is g, has g); ascend = above_increases 0 ns (such_above (λ g. MayChange flat g call.proc) each 0 (length flat.globals)) };
        new = map (at globals) ns;
        one_each = map_length (at globals) ns;
        values_are = refl;
        globals_are = alike globals (set_all call.globals ns (map (at globals) ns))
            (λ i. sym (set_all_gets call.globals globals ns i h.count (λ n in_ns. let l = change_is_global flat n call.proc fits (is n in_ns) in omega arith)
            (⊎_elim (λ m. inr (has i m)) (λ nay. inl (sym (h.others i nay))) (each i))));
        fit = fit;
      },
    )

pub may_be_admits : (flat : FlatProgram) → IsFlat flat → Admits flat (MayBe flat)
may_be_admits flat fits = record {
  ended = λ call outs globals fit h. free_ends flat call outs globals fits fit h;
  broken = λ call proc number. ([], refl);
}
