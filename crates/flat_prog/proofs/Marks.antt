-- Marks spread from callees to callers until none is due: then they stand for what each procedure may change.
use Rattle.std.proofs.Common.{◌≡◌, ℕ, zero, suc, ◌+◌, ◌<◌, ◌≤◌, Bool, true, false, not, ◌&&◌, ◌||◌, if◌then◌else◌, List, [], ◌∷◌, ◌++◌, map, length, slice_get, slice_set, slice_index_or, Option, None, Some, Any, All, Contains, IsTrue, refl, sym, ap, ◌∙◌, subst, inl, inr, ◌⊎◌, ⊎_elim, true≢false, not-suc-le-zero, arith, length-append}
use Rattle.std.proofs.lemmas.Bool.{and_parts, or_cases, or_left, or_right, not-true, eq-eqb, eqb-true, cases_lt}
use Rattle.std.proofs.lemmas.Option.{slice_get_within}
use Rattle.std.specs.List.{list_all, list_any}
use Rattle.hy_val.specs.Scope.{Scope, sort_of_target, is_sort_of, are_same, is_target, pair_fits, sort_of_expr, node_fits}
use Rattle.hy_val.specs.declared.expr.ExprNode.{ExprNode}
use Rattle.hy_val.specs.declared.expr.Var.{Var}
use Rattle.hy_val.specs.declared.expr.Var.TheVariants.{Const, Global, Local}
use Rattle.hy_val.specs.declared.sort.Sort.{Sort}
use Rattle.flat_prog.specs.Changes.{Writes, MayChange, own, through}
use Rattle.flat_prog.specs.Limits.{row, AreLimits}
use Rattle.flat_prog.specs.Marking.{is_global, cmd_writes, block_writes, proc_writes, callees_of, is_marked, unmarked, is_due, Leads, here, on, Round, Spread, IsColumn, AreColumns, across}
use Rattle.flat_prog.specs.Program.{FlatProgram, scope_of}
use Rattle.flat_prog.specs.Shape.{Calls, is_call_of, IsFlat, IsFlatProc, args_fit, targets_fit, call_fits, cmd_fits, next_fits, block_fits}
use Rattle.flat_prog.specs.Sites.{calls_of, sites_of, numbers_from}
use Rattle.flat_prog.specs.declared.block.FlatBlock.{FlatBlock}
use Rattle.flat_prog.specs.declared.block.FlatCmd.{FlatCmd}
use Rattle.flat_prog.specs.declared.block.FlatCmd.TheVariants.{Assign, Havoc, Assume, Assert, Call}
use Rattle.flat_prog.specs.declared.proc.FlatProc.{FlatProc}
use Rattle.flat_prog.proofs.Deciding.{change_within}
use Rattle.flat_prog.proofs.Lists.{any_here, any_there, any_cases, any_none, has_here, has_there, has_cases, has_none, all_at}

-- ---- one mark more

marked_set : (marks : List Bool) (n p : ℕ) → is_marked (slice_set marks n true) p ≡ true → (p ≡ n) ⊎ (is_marked marks p ≡ true)
marked_set [] n p h = inr h
marked_set (m ∷ marks) zero zero h = inl refl
marked_set (m ∷ marks) zero (suc p) h = inr h
marked_set (m ∷ marks) (suc n) zero h = inr h
marked_set (m ∷ marks) (suc n) (suc p) h = ⊎_elim (λ e. inl (ap suc e)) (λ e. inr e) (marked_set marks n p h)

set_marked : (marks : List Bool) (n p : ℕ) → is_marked marks p ≡ true → is_marked (slice_set marks n true) p ≡ true
set_marked [] n p h = h
set_marked (m ∷ marks) zero zero h = refl
set_marked (m ∷ marks) zero (suc p) h = h
set_marked (m ∷ marks) (suc n) zero h = h
set_marked (m ∷ marks) (suc n) (suc p) h = set_marked marks n p h

set_size : (marks : List Bool) (n : ℕ) → length (slice_set marks n true) ≡ length marks
set_size [] n = refl
set_size (m ∷ marks) zero = refl
set_size (m ∷ marks) (suc n) = ap suc (set_size marks n)

set_fewer : (marks : List Bool) (n : ℕ) → n < length marks → is_marked marks n ≡ false → unmarked marks ≡ suc (unmarked (slice_set marks n true))
set_fewer [] n l h = absurd (not-suc-le-zero l)
set_fewer (true ∷ marks) zero l h = absurd (true≢false h)
set_fewer (false ∷ marks) zero l h = refl
set_fewer (true ∷ marks) (suc n) l h = set_fewer marks n (omega (arith, l)) h
set_fewer (false ∷ marks) (suc n) l h = ap suc (set_fewer marks n (omega (arith, l)) h)

-- one of these is marked
any_marked : (marks : List Bool) (ps : List ℕ) → list_any (is_marked marks) ps ≡ true → (p : ℕ) × Contains ps p × (is_marked marks p ≡ true)
any_marked marks [] h = absurd (true≢false (sym h))
any_marked marks (p ∷ ps) h =
    ⊎_elim (λ e. (p, has_here p ps, e)) (λ e. let r = any_marked marks ps e in (r.0, has_there r.0 p ps r.1, r.2)) (or_cases (is_marked marks p) (list_any (is_marked marks) ps) h)

marked_any : (marks : List Bool) (ps : List ℕ) (p : ℕ) → Contains ps p → is_marked marks p ≡ true → list_any (is_marked marks) ps ≡ true
marked_any marks [] p at h = absurd (has_none p at)
marked_any marks (q ∷ ps) p at h =
    ⊎_elim (λ e. or_left (is_marked marks q) (list_any (is_marked marks) ps) (subst (λ (x : ℕ). is_marked marks x ≡ true) (sym e) h)) (λ more. or_right (is_marked marks q) (list_any (is_marked marks) ps) (marked_any marks ps p more h)) (has_cases p q ps at)

-- ---- rounds

-- a round so far: the procedures below i were looked at
pub record Rounding (callees : List (List ℕ)) (old : List Bool) (i : ℕ) (new : List Bool) (is_new : Bool) : Type 0 where
  pub size : length new ≡ length old
  pub up : (p : ℕ) → is_marked old p ≡ true → is_marked new p ≡ true
  pub sound : (p : ℕ) → is_marked new p ≡ true → Leads callees old p
  pub most : unmarked new ≤ unmarked old
  pub fewer : is_new ≡ true → unmarked new < unmarked old
  pub closed : is_new ≡ false → (p to : ℕ) → p < i → Contains (slice_index_or callees p []) to → is_marked new to ≡ true → is_marked new p ≡ true

pub round_begins : (callees : List (List ℕ)) (marks : List Bool) → Rounding callees marks 0 marks false
round_begins callees marks = record {
  size = refl;
  up = λ p h. h;
  sound = λ p h. here h;
  most = omega arith;
  fewer = λ e. absurd (true≢false (sym e));
  closed = λ e p to l. absurd (not-suc-le-zero l);
}

below_cases : (p i : ℕ) → p < i + 1 → (p < i) ⊎ (p ≡ i)
below_cases p i l = ⊎_elim (λ h. inl h) (λ h. inr (omega (arith, l, h))) (cases_lt p i)

pub round_on : (callees : List (List ℕ)) (old : List Bool) (i : ℕ) (new more : List Bool) (called : List ℕ) (is_new due now : Bool) → Rounding callees old i new is_new → i < length new → called ≡ slice_index_or callees i [] →
    due ≡ is_due called new i → more ≡ (if is_due called new i then slice_set new i true else new) → now ≡ (is_new || due) → Rounding callees old (i + 1) more now
round_on callees old i new more called is_new due now r there row_is due_is more_is now_is = by (is_due called new i) refl
  where
    by : (b : Bool) → is_due called new i ≡ b → Rounding callees old (i + 1) more now
    by true e =
        let parts = and_parts (not (is_marked new i)) (list_any (is_marked new) called) e in
        let out = not-true (is_marked new i) parts.0 in
        let few = set_fewer new i there out in
        let most = r.most in
        let is : slice_set new i true ≡ more = ap (λ b. if b then slice_set new i true else new) (sym e) ∙ sym more_is in
        let set : now ≡ true = now_is ∙ or_right is_new due (due_is ∙ e) in
        let found = any_marked new called parts.1 in
        let lead : Leads callees old i = on found.0 (subst (λ (ps : List ℕ). Contains ps found.0) row_is found.1) (r.sound found.0 found.2) in
        subst (λ (ms : List Bool). Rounding callees old (i + 1) ms now) is (record {
          size = set_size new i ∙ r.size;
          up = λ p h. set_marked new i p (r.up p h);
          sound = λ p h. ⊎_elim (λ same. subst (Leads callees old) (sym same) lead) (λ was. r.sound p was) (marked_set new i p h);
          most = omega (arith, few, most);
          fewer = λ _. omega (arith, few, most);
          closed = λ no. absurd (true≢false (sym set ∙ no));
        })
    by false e =
        let is : new ≡ more = ap (λ b. if b then slice_set new i true else new) (sym e) ∙ sym more_is in
        let same : now ≡ is_new = now_is ∙ ap (λ b. is_new || b) (due_is ∙ e) ∙ or_no is_new in
        subst (λ (ms : List Bool). Rounding callees old (i + 1) ms now) is (record {
          size = r.size;
          up = r.up;
          sound = r.sound;
          most = r.most;
          fewer = λ yes. r.fewer (sym same ∙ yes);
          closed = λ no p to l at h. ⊎_elim (λ less. r.closed (sym same ∙ no) p to less at h) (λ own. subst (λ (x : ℕ). is_marked new x ≡ true) (sym own) (last to (subst (λ (x : ℕ). Contains (slice_index_or callees x []) to) own at) h)) (below_cases p i l);
        })
      where
        or_no : (b : Bool) → (b || false) ≡ b
        or_no true = refl
        or_no false = refl

        last : (to : ℕ) → Contains (slice_index_or callees i []) to → is_marked new to ≡ true → is_marked new i ≡ true
        last to at h = marked (is_marked new i) (list_any (is_marked new) called) e (marked_any new called to (subst (λ (ps : List ℕ). Contains ps to) (sym row_is) at) h)
          where
            marked : (a b : Bool) → (not a && b) ≡ false → b ≡ true → a ≡ true
            marked true b h k = refl
            marked false true h k = absurd (true≢false h)
            marked false false h k = absurd (true≢false (sym k))

past_row : (callees : List (List ℕ)) (p : ℕ) → length callees ≤ p → slice_index_or callees p [] ≡ []
past_row [] p l = refl
past_row (c ∷ callees) zero l = absurd (not-suc-le-zero l)
past_row (c ∷ callees) (suc p) l = past_row callees p (omega (arith, l))

pub round_ends : (callees : List (List ℕ)) (old : List Bool) (i : ℕ) (new : List Bool) (is_new : Bool) → Rounding callees old i new is_new → i ≡ length callees → Round callees old new is_new
round_ends callees old i new is_new r all = record {
  size = r.size;
  up = r.up;
  sound = r.sound;
  fewer = r.fewer;
  closed = λ no p to at h.
      ⊎_elim (λ less. r.closed no p to (omega (arith, less, all)) at h) (λ past. absurd (has_none to (subst (λ (ps : List ℕ). Contains ps to) (past_row callees p past) at))) (cases_lt p (length callees));
}

-- ---- until none is due

leads_on : (callees : List (List ℕ)) (old new : List Bool) (p : ℕ) → ((n : ℕ) → is_marked new n ≡ true → Leads callees old n) → Leads callees new p → Leads callees old p
leads_on callees old new p each (here h) = each p h
leads_on callees old new p each (on to at h) = on to at (leads_on callees old new to each h)

-- the marks so far: none was lost, each is due to calls
pub record Spreading (callees : List (List ℕ)) (old new : List Bool) : Type 0 where
  pub size : length new ≡ length old
  pub up : (p : ℕ) → is_marked old p ≡ true → is_marked new p ≡ true
  pub sound : (p : ℕ) → is_marked new p ≡ true → Leads callees old p

pub spread_begins : (callees : List (List ℕ)) (marks : List Bool) → Spreading callees marks marks
spread_begins callees marks = record { size = refl; up = λ p h. h; sound = λ p h. here h }

pub spread_on : (callees : List (List ℕ)) (old new more : List Bool) (is_new : Bool) → Spreading callees old new → Round callees new more is_new → Spreading callees old more
spread_on callees old new more is_new s r = record {
  size = r.size ∙ s.size;
  up = λ p h. r.up p (s.up p h);
  sound = λ p h. leads_on callees old new p s.sound (r.sound p h);
}

pub spread_ends : (callees : List (List ℕ)) (old new more : List Bool) (is_new : Bool) → Spreading callees old new → Round callees new more is_new → is_new ≡ false → Spread callees old more
spread_ends callees old new more is_new s r none =
    let t = spread_on callees old new more is_new s r in
    record { size = t.size; exact = λ p. (t.sound p, all p) }
  where
    all : (p : ℕ) → Leads callees old p → is_marked more p ≡ true
    all p (here h) = r.up p (s.up p h)
    all p (on to at h) = r.closed none p to at (all to h)

-- ---- what marks stand for

global_is : (g : ℕ) (x : Var) → is_global g x ≡ true → x ≡ Global g
global_is g (Const n) h = absurd (true≢false (sym h))
global_is g (Global n) h = ap (λ m. Global m) (eqb-true n g h)
global_is g (Local n) h = absurd (true≢false (sym h))

is_the_global : (g : ℕ) (x : Var) → x ≡ Global g → is_global g x ≡ true
is_the_global g x e = subst (λ (y : Var). is_global g y ≡ true) (sym e) (eq-eqb g g refl)

any_from : {X : Type 0} (test : X → Bool) (P : X → Type 0) → ((x : X) → test x ≡ true → P x) → (xs : List X) → list_any test xs ≡ true → Any P xs
any_from test P each [] h = absurd (true≢false (sym h))
any_from test P each (x ∷ xs) h = ⊎_elim (λ e. any_here P x xs (each x e)) (λ e. any_there P x xs (any_from test P each xs e)) (or_cases (test x) (list_any test xs) h)

from_any : {X : Type 0} (test : X → Bool) (P : X → Type 0) → ((x : X) → P x → test x ≡ true) → (xs : List X) → Any P xs → list_any test xs ≡ true
from_any test P each [] h = absurd (any_none P h)
from_any test P each (x ∷ xs) h = ⊎_elim (λ p. or_left (test x) (list_any test xs) (each x p)) (λ more. or_right (test x) (list_any test xs) (from_any test P each xs more)) (any_cases P x xs h)

among : (g : ℕ) (xs : List Var) → list_any (is_global g) xs ≡ true → Contains xs (Global g)
among g [] h = absurd (true≢false (sym h))
among g (x ∷ xs) h =
    ⊎_elim (λ e. subst (λ (y : Var). Contains (x ∷ xs) y) (global_is g x e) (has_here x xs)) (λ e. has_there (Global g) x xs (among g xs e)) (or_cases (is_global g x) (list_any (is_global g) xs) h)

from_among : (g : ℕ) (xs : List Var) → Contains xs (Global g) → list_any (is_global g) xs ≡ true
from_among g [] h = absurd (has_none (Global g) h)
from_among g (x ∷ xs) h =
    ⊎_elim (λ e. or_left (is_global g x) (list_any (is_global g) xs) (is_the_global g x e)) (λ more. or_right (is_global g x) (list_any (is_global g) xs) (from_among g xs more)) (has_cases (Global g) x xs h)

cmd_is : (g : ℕ) (c : FlatCmd) → cmd_writes g c ≡ true → Writes (Global g) c
cmd_is g (Assign pairs) h = any_from (λ (p : Var × List ExprNode). is_global g p.0) (λ (p : Var × List ExprNode). p.0 ≡ Global g) (λ p e. global_is g p.0 e) pairs h
cmd_is g (Havoc xs) h = among g xs h
cmd_is g (Assume expr) h = absurd (true≢false (sym h))
cmd_is g (Assert proc number expr) h = absurd (true≢false (sym h))
cmd_is g (Call proc args outs) h = among g outs h

from_cmd : (g : ℕ) (c : FlatCmd) → Writes (Global g) c → cmd_writes g c ≡ true
from_cmd g (Assign pairs) h = from_any (λ (p : Var × List ExprNode). is_global g p.0) (λ (p : Var × List ExprNode). p.0 ≡ Global g) (λ p e. is_the_global g p.0 e) pairs h
from_cmd g (Havoc xs) h = from_among g xs h
from_cmd g (Assume expr) h = absurd h
from_cmd g (Assert proc number expr) h = absurd h
from_cmd g (Call proc args outs) h = from_among g outs h

proc_is : (g : ℕ) (q : FlatProc) → proc_writes g q ≡ true → Any (λ (b : FlatBlock). Any (Writes (Global g)) b.cmds) q.blocks
proc_is g q h = any_from (block_writes g) (λ (b : FlatBlock). Any (Writes (Global g)) b.cmds) (λ b e. any_from (cmd_writes g) (Writes (Global g)) (cmd_is g) b.cmds e) q.blocks h

from_proc : (g : ℕ) (q : FlatProc) → Any (λ (b : FlatBlock). Any (Writes (Global g)) b.cmds) q.blocks → proc_writes g q ≡ true
from_proc g q h = from_any (block_writes g) (λ (b : FlatBlock). Any (Writes (Global g)) b.cmds) (λ b e. from_any (cmd_writes g) (Writes (Global g)) (from_cmd g) b.cmds e) q.blocks h

-- calls are at sites
has_left : (xs ys : List ℕ) (n : ℕ) → Contains xs n → Contains (xs ++ ys) n
has_left [] ys n h = absurd (has_none n h)
has_left (x ∷ xs) ys n h = ⊎_elim (λ e. subst (λ (m : ℕ). Contains (x ∷ (xs ++ ys)) m) e (has_here x (xs ++ ys))) (λ more. has_there n x (xs ++ ys) (has_left xs ys n more)) (has_cases n x xs h)

has_right : (xs ys : List ℕ) (n : ℕ) → Contains ys n → Contains (xs ++ ys) n
has_right [] ys n h = h
has_right (x ∷ xs) ys n h = has_there n x (xs ++ ys) (has_right xs ys n h)

has_parts : (xs ys : List ℕ) (n : ℕ) → Contains (xs ++ ys) n → Contains xs n ⊎ Contains ys n
has_parts [] ys n h = inr h
has_parts (x ∷ xs) ys n h =
    ⊎_elim (λ e. inl (subst (λ (m : ℕ). Contains (x ∷ xs) m) e (has_here x xs))) (λ more. ⊎_elim (λ a. inl (has_there n x xs a)) (λ b. inr b) (has_parts xs ys n more)) (has_cases n x (xs ++ ys) h)

cmds_call : (cmds : List FlatCmd) (r : ℕ) → Contains (calls_of cmds) r → Any (λ c. IsTrue (is_call_of r c)) cmds
cmds_call [] r h = absurd (has_none r h)
cmds_call (Assign pairs ∷ cmds) r h = any_there (λ c. IsTrue (is_call_of r c)) (Assign pairs) cmds (cmds_call cmds r h)
cmds_call (Havoc xs ∷ cmds) r h = any_there (λ c. IsTrue (is_call_of r c)) (Havoc xs) cmds (cmds_call cmds r h)
cmds_call (Assume e ∷ cmds) r h = any_there (λ c. IsTrue (is_call_of r c)) (Assume e) cmds (cmds_call cmds r h)
cmds_call (Assert p n e ∷ cmds) r h = any_there (λ c. IsTrue (is_call_of r c)) (Assert p n e) cmds (cmds_call cmds r h)
cmds_call (Call p args outs ∷ cmds) r h =
    ⊎_elim (λ e. any_here (λ c. IsTrue (is_call_of r c)) (Call p args outs) cmds (eq-eqb p r e)) (λ more. any_there (λ c. IsTrue (is_call_of r c)) (Call p args outs) cmds (cmds_call cmds r more)) (has_cases r p (calls_of cmds) h)

call_cmds : (cmds : List FlatCmd) (r : ℕ) → Any (λ c. IsTrue (is_call_of r c)) cmds → Contains (calls_of cmds) r
call_cmds [] r h = absurd (any_none (λ (c : FlatCmd). IsTrue (is_call_of r c)) h)
call_cmds (c ∷ cmds) r h = ⊎_elim (λ e. first c e) (λ more. rest c (call_cmds cmds r more)) (any_cases (λ c. IsTrue (is_call_of r c)) c cmds h)
  where
    first : (c : FlatCmd) → is_call_of r c ≡ true → Contains (calls_of (c ∷ cmds)) r
    first (Assign pairs) e = absurd (true≢false (sym e))
    first (Havoc xs) e = absurd (true≢false (sym e))
    first (Assume x) e = absurd (true≢false (sym e))
    first (Assert p n x) e = absurd (true≢false (sym e))
    first (Call p args outs) e = subst (λ (m : ℕ). Contains (p ∷ calls_of cmds) m) (eqb-true p r e) (has_here p (calls_of cmds))

    rest : (c : FlatCmd) → Contains (calls_of cmds) r → Contains (calls_of (c ∷ cmds)) r
    rest (Assign pairs) e = e
    rest (Havoc xs) e = e
    rest (Assume x) e = e
    rest (Assert p n x) e = e
    rest (Call p args outs) e = has_there r p (calls_of cmds) e

blocks_call : (blocks : List FlatBlock) (r : ℕ) → Contains (sites_of blocks) r → Any (λ (b : FlatBlock). Any (λ c. IsTrue (is_call_of r c)) b.cmds) blocks
blocks_call [] r h = absurd (has_none r h)
blocks_call (b ∷ blocks) r h =
    ⊎_elim (λ e. any_here (λ (b : FlatBlock). Any (λ c. IsTrue (is_call_of r c)) b.cmds) b blocks (cmds_call b.cmds r e)) (λ more. any_there (λ (b : FlatBlock). Any (λ c. IsTrue (is_call_of r c)) b.cmds) b blocks (blocks_call blocks r more))
    (has_parts (calls_of b.cmds) (sites_of blocks) r h)

call_blocks : (blocks : List FlatBlock) (r : ℕ) → Any (λ (b : FlatBlock). Any (λ c. IsTrue (is_call_of r c)) b.cmds) blocks → Contains (sites_of blocks) r
call_blocks [] r h = absurd (any_none (λ (b : FlatBlock). Any (λ c. IsTrue (is_call_of r c)) b.cmds) h)
call_blocks (b ∷ blocks) r h =
    ⊎_elim (λ e. has_left (calls_of b.cmds) (sites_of blocks) r (call_cmds b.cmds r e)) (λ more. has_right (calls_of b.cmds) (sites_of blocks) r (call_blocks blocks r more)) (any_cases (λ (b : FlatBlock). Any (λ c. IsTrue (is_call_of r c)) b.cmds) b blocks h)

-- a row of the callees
row_at : (procs : List FlatProc) (p to : ℕ) → Contains (slice_index_or (map callees_of procs) p []) to → (q : FlatProc) × (slice_get procs p ≡ Some q) × Calls q to
row_at [] p to h = absurd (has_none to h)
row_at (q ∷ procs) zero to h = (q, refl, blocks_call q.blocks to h)
row_at (q ∷ procs) (suc p) to h = row_at procs p to h

at_row : (procs : List FlatProc) (p to : ℕ) (q : FlatProc) → slice_get procs p ≡ Some q → Calls q to → Contains (slice_index_or (map callees_of procs) p []) to
at_row [] p to q h calls = cc
at_row (x ∷ procs) zero to q h calls = let e : x ≡ q = cc in subst (λ (y : FlatProc). Contains (callees_of y) to) (sym e) (call_blocks q.blocks to calls)
at_row (x ∷ procs) (suc p) to q h calls = at_row procs p to q h calls

marked_at : (procs : List FlatProc) (g p : ℕ) → is_marked (map (proc_writes g) procs) p ≡ true → (q : FlatProc) × (slice_get procs p ≡ Some q) × (proc_writes g q ≡ true)
marked_at [] g p h = absurd (true≢false (sym h))
marked_at (q ∷ procs) g zero h = (q, refl, h)
marked_at (q ∷ procs) g (suc p) h = marked_at procs g p h

at_marked : (procs : List FlatProc) (g p : ℕ) (q : FlatProc) → slice_get procs p ≡ Some q → proc_writes g q ≡ true → is_marked (map (proc_writes g) procs) p ≡ true
at_marked [] g p q h w = cc
at_marked (x ∷ procs) g zero q h w = let e : x ≡ q = cc in ap (proc_writes g) e ∙ w
at_marked (x ∷ procs) g (suc p) q h w = at_marked procs g p q h w

leads_change : (flat : FlatProgram) (g p : ℕ) → Leads (map callees_of flat.procs) (map (proc_writes g) flat.procs) p → MayChange flat g p
leads_change flat g p (here h) = let r = marked_at flat.procs g p h in own r.0 r.1 (proc_is g r.0 r.2)
leads_change flat g p (on to at h) = let r = row_at flat.procs p to at in through r.0 to r.1 r.2 (leads_change flat g to h)

change_leads : (flat : FlatProgram) (g p : ℕ) → MayChange flat g p → Leads (map callees_of flat.procs) (map (proc_writes g) flat.procs) p
change_leads flat g p (own q is w) = here (at_marked flat.procs g p q is (from_proc g q w))
change_leads flat g p (through q to is calls h) = on to (at_row flat.procs p to q is calls) (change_leads flat g to h)

map_size : {X Y : Type 0} (f : X → Y) (xs : List X) → length (map f xs) ≡ length xs
map_size f [] = refl
map_size f (x ∷ xs) = ap suc (map_size f xs)

pub sizes_meet : (procs : List FlatProc) (g : ℕ) (marks : List Bool) (callees : List (List ℕ)) → marks ≡ map (proc_writes g) procs → callees ≡ map callees_of procs → length marks ≡ length callees
sizes_meet procs g marks callees ms cs = ap length ms ∙ map_size (proc_writes g) procs ∙ sym (map_size callees_of procs) ∙ ap length (sym cs)

pub column_is : (procs : List FlatProc) (g : ℕ) (callees : List (List ℕ)) (old new : List Bool) → callees ≡ map callees_of procs → old ≡ map (proc_writes g) procs → Spread callees old new → IsColumn procs g new
column_is procs g callees old new cs ms s =
    let t : Spread (map callees_of procs) (map (proc_writes g) procs) new =
    subst (λ (x : List (List ℕ)). Spread x (map (proc_writes g) procs) new) cs (subst (λ (x : List Bool). Spread callees x new) ms s) in
    record { size = t.size ∙ map_size (proc_writes g) procs; exact = t.exact }

-- ---- columns

columns_parts : (columns : List (List Bool)) (last : List Bool) (g : ℕ) (marks : List Bool) → slice_get (columns ++ last ∷ []) g ≡ Some marks → ((g ≡ length columns) × (last ≡ marks)) ⊎ (slice_get columns g ≡ Some marks)
columns_parts [] last zero marks h = inl (refl, cc)
columns_parts [] last (suc g) marks h = cc
columns_parts (c ∷ columns) last zero marks h = inr h
columns_parts (c ∷ columns) last (suc g) marks h = ⊎_elim (λ e. inl (ap suc e.0, e.1)) (λ e. inr e) (columns_parts columns last g marks h)

pub columns_begin : (procs : List FlatProc) → AreColumns procs 0 []
columns_begin procs = record { size = refl; each = λ g marks h. cc }

pub columns_on : (procs : List FlatProc) (count : ℕ) (columns more : List (List Bool)) (last : List Bool) → AreColumns procs count columns → IsColumn procs count last → more ≡ columns ++ last ∷ [] → AreColumns procs (count + 1) more
columns_on procs count columns more last h k e = subst (AreColumns procs (count + 1)) (sym e) (record {
  size = (let n = length-append columns (last ∷ []) in let m = h.size in omega (arith, n, m));
  each = λ g marks at. ⊎_elim (λ own. subst (λ (ms : List Bool). IsColumn procs g ms) own.1 (subst (λ (x : ℕ). IsColumn procs x last) (sym (own.0 ∙ h.size)) k)) (λ old. h.each g marks old) (columns_parts columns last g marks at);
})

-- ---- the globals that are written are there

pub any_all : {X : Type 0} (P : X → Type 0) (Q : Type 0) (test : X → Bool) (xs : List X) → ((x : X) → test x ≡ true → P x → Q) → list_all test xs ≡ true → Any P xs → Q
any_all P Q test [] each all h = absurd (any_none P h)
any_all P Q test (x ∷ xs) each all h =
    let parts = and_parts (test x) (list_all test xs) all in
    ⊎_elim (λ p. each x parts.0 p) (λ more. any_all P Q test xs each parts.1 more) (any_cases P x xs h)

has_all : (Q : Type 0) (test : Var → Bool) (xs : List Var) (x : Var) → (test x ≡ true → Q) → list_all test xs ≡ true → Contains xs x → Q
has_all Q test [] x each all h = absurd (has_none x h)
has_all Q test (y ∷ ys) x each all h =
    let parts = and_parts (test y) (list_all test ys) all in
    ⊎_elim (λ e. each (subst (λ (z : Var). test z ≡ true) e parts.0)) (λ more. has_all Q test ys x each parts.1 more) (has_cases x y ys h)

global_within : (scope : Scope) (g : ℕ) (x : Var) (sort : Option Sort) → x ≡ Global g → are_same sort (sort_of_target scope x) ≡ true → g < length scope.globals
global_within scope g x sort e h = found (slice_get scope.globals g) refl (subst (λ (y : Var). are_same sort (sort_of_target scope y) ≡ true) e h)
  where
    no_sort : (o : Option Sort) → are_same o None ≡ true → ⊥
    no_sort None h = true≢false (sym h)
    no_sort (Some s) h = true≢false (sym h)

    found : (o : Option Sort) → slice_get scope.globals g ≡ o → are_same sort o ≡ true → g < length scope.globals
    found None is h = absurd (no_sort sort h)
    found (Some s) is h = slice_get_within scope.globals g s is

target_within : (scope : Scope) (g : ℕ) (sorts : List Sort) (xs : List Var) → targets_fit scope sorts xs ≡ true → Contains xs (Global g) → g < length scope.globals
target_within scope g [] [] h at = absurd (has_none (Global g) at)
target_within scope g [] (x ∷ xs) h at = absurd (true≢false (sym h))
target_within scope g (s ∷ sorts) [] h at = absurd (has_none (Global g) at)
target_within scope g (s ∷ sorts) (x ∷ xs) h at =
    let parts = and_parts (is_sort_of (sort_of_target scope x) s) (targets_fit scope sorts xs) h in
    ⊎_elim (λ e. found (slice_get scope.globals g) refl (subst (λ (y : Var). is_sort_of (sort_of_target scope y) s ≡ true) e parts.0)) (λ more. target_within scope g sorts xs parts.1 more) (has_cases (Global g) x xs at)
  where
    found : (o : Option Sort) → slice_get scope.globals g ≡ o → is_sort_of o s ≡ true → g < length scope.globals
    found None is h = absurd (true≢false (sym h))
    found (Some t) is h = slice_get_within scope.globals g t is

cmd_within : (procs : List FlatProc) (scope : Scope) (g : ℕ) (c : FlatCmd) → cmd_fits procs scope c ≡ true → Writes (Global g) c → g < length scope.globals
cmd_within procs scope g (Assign pairs) h w =
    any_all (λ (p : Var × List ExprNode). p.0 ≡ Global g) (g < length scope.globals) (pair_fits scope) pairs
    (λ p fits e. global_within scope g p.0 (sort_of_expr p.1) e (and_parts (list_all (node_fits scope) p.1) (are_same (sort_of_expr p.1) (sort_of_target scope p.0)) fits).1) h w
cmd_within procs scope g (Havoc xs) h w =
    has_all (g < length scope.globals) (is_target scope) xs (Global g) (λ fits. global_within scope g (Global g) (sort_of_target scope (Global g)) refl fits) h w
cmd_within procs scope g (Assume expr) h w = absurd w
cmd_within procs scope g (Assert proc number expr) h w = absurd w
cmd_within procs scope g (Call proc args outs) h w = called (slice_get procs proc) h
  where
    called : (o : Option FlatProc) → call_fits scope o args outs ≡ true → g < length scope.globals
    called None h = absurd (true≢false (sym h))
    called (Some q) h = target_within scope g q.outs outs (and_parts (args_fit scope q.ins args) (targets_fit scope q.outs outs) h).1 w

pub change_is_global : (flat : FlatProgram) (g p : ℕ) → IsFlat flat → MayChange flat g p → g < length flat.globals
change_is_global flat g p fits (own q is w) =
    let f = all_at (IsFlatProc flat) flat.procs p q fits.procs is in
    any_all (λ (b : FlatBlock). Any (Writes (Global g)) b.cmds) (g < length flat.globals) (block_fits flat.procs (scope_of flat q) (length q.blocks)) q.blocks
    (λ b fit some. any_all (Writes (Global g)) (g < length flat.globals) (cmd_fits flat.procs (scope_of flat q)) b.cmds
    (λ c fits wr. cmd_within flat.procs (scope_of flat q) g c fits wr) (and_parts (list_all (cmd_fits flat.procs (scope_of flat q)) b.cmds) (next_fits (length q.blocks) b.next) fit).0 some)
    f.blocks w
change_is_global flat g p fits (through q to is calls h) = change_is_global flat g to fits h

-- ---- rows

row_in : (columns : List (List Bool)) (first count p : ℕ) → p < count → slice_index_or (map (across columns) (numbers_from first count)) p [] ≡ across columns (first + p)
row_in columns first zero p l = absurd (not-suc-le-zero l)
row_in columns first (suc count) zero l = let e : first ≡ first + 0 = omega arith in ap (across columns) e
row_in columns first (suc count) (suc p) l = let e : first + 1 + p ≡ first + suc p = omega arith in row_in columns (first + 1) count p (omega (arith, l)) ∙ ap (across columns) e

row_past : (columns : List (List Bool)) (first count p : ℕ) → count ≤ p → slice_index_or (map (across columns) (numbers_from first count)) p [] ≡ []
row_past columns first zero p l = refl
row_past columns first (suc count) zero l = absurd (not-suc-le-zero l)
row_past columns first (suc count) (suc p) l = row_past columns (first + 1) count p (omega (arith, l))

numbers_size : (first count : ℕ) → length (numbers_from first count) ≡ count
numbers_size first zero = refl
numbers_size first (suc count) = ap suc (numbers_size (first + 1) count)

mark_in : (columns : List (List Bool)) (p g : ℕ) (marks : List Bool) → slice_get columns g ≡ Some marks → slice_index_or (across columns p) g false ≡ is_marked marks p
mark_in [] p g marks h = cc
mark_in (c ∷ columns) p zero marks h = let e : c ≡ marks = cc in ap (λ (ms : List Bool). is_marked ms p) e
mark_in (c ∷ columns) p (suc g) marks h = mark_in columns p g marks h

mark_past : (columns : List (List Bool)) (p g : ℕ) → length columns ≤ g → slice_index_or (across columns p) g false ≡ false
mark_past [] p g l = refl
mark_past (c ∷ columns) p zero l = absurd (not-suc-le-zero l)
mark_past (c ∷ columns) p (suc g) l = mark_past columns p g (omega (arith, l))

column_there : (columns : List (List Bool)) (g : ℕ) → g < length columns → (marks : List Bool) × (slice_get columns g ≡ Some marks)
column_there [] g l = absurd (not-suc-le-zero l)
column_there (c ∷ columns) zero l = (c, refl)
column_there (c ∷ columns) (suc g) l = column_there columns g (omega (arith, l))

rows_wide : (columns : List (List Bool)) (count first size : ℕ) → length columns ≡ size → All (λ (marks : List Bool). length marks ≡ size) (map (across columns) (numbers_from first count))
rows_wide columns zero first size h = λ i d within. absurd (not-suc-le-zero within)
rows_wide columns (suc count) first size h = all (rows_wide columns count (first + 1) size h)
  where
    all : All (λ (marks : List Bool). length marks ≡ size) (map (across columns) (numbers_from (first + 1) count)) → All (λ (marks : List Bool). length marks ≡ size) (map (across columns) (numbers_from first (suc count)))
    all rest zero d within = map_size (λ marks. is_marked marks first) columns ∙ h
    all rest (suc i) d within = rest i d (omega (arith, within))

pub limits_are : (flat : FlatProgram) (columns rows : List (List Bool)) → IsFlat flat → AreColumns flat.procs (length flat.globals) columns → rows ≡ map (across columns) (numbers_from 0 (length flat.procs)) → AreLimits flat rows
limits_are flat columns rows fits cs is = subst (AreLimits flat) (sym is) (record {
  exact = λ p g. (to p g, from p g);
  rows = map_size (across columns) (numbers_from 0 (length flat.procs)) ∙ numbers_size 0 (length flat.procs);
  wide = rows_wide columns (length flat.procs) 0 (length flat.globals) cs.size;
})
  where
    table : List (List Bool)
    table = map (across columns) (numbers_from 0 (length flat.procs))

    at : (p g : ℕ) (marks : List Bool) → p < length flat.procs → slice_get columns g ≡ Some marks → slice_index_or (row table p) g false ≡ is_marked marks p
    at p g marks l h =
        let z : 0 + p ≡ p = omega arith in
        ap (λ (ms : List Bool). slice_index_or ms g false) (row_in columns 0 (length flat.procs) p l ∙ ap (across columns) z) ∙ mark_in columns p g marks h

    from : (p g : ℕ) → MayChange flat g p → slice_index_or (row table p) g false ≡ true
    from p g h =
        let c = column_there columns g (subst (λ (n : ℕ). g < n) (sym cs.size) (change_is_global flat g p fits h)) in
        at p g c.0 (change_within flat g p h) c.1 ∙ ((cs.each g c.0 c.1).exact p).1 (change_leads flat g p h)

    to : (p g : ℕ) → slice_index_or (row table p) g false ≡ true → MayChange flat g p
    to p g h =
        ⊎_elim (λ inside. ⊎_elim (λ there. (let c = column_there columns g there in leads_change flat g p (((cs.each g c.0 c.1).exact p).0 (sym (at p g c.0 inside c.1) ∙ h)))) (λ past. absurd (true≢false (sym h ∙ none p g inside past))) (cases_lt g (length columns)))
        (λ past. absurd (true≢false (sym h ∙ ap (λ (ms : List Bool). slice_index_or ms g false) (row_past columns 0 (length flat.procs) p past)))) (cases_lt p (length flat.procs))
      where
        none : (p g : ℕ) → p < length flat.procs → length columns ≤ g → slice_index_or (row table p) g false ≡ false
        none p g inside past =
            let z : 0 + p ≡ p = omega arith in
            ap (λ (ms : List Bool). slice_index_or ms g false) (row_in columns 0 (length flat.procs) p inside ∙ ap (across columns) z) ∙ mark_past columns p g past
