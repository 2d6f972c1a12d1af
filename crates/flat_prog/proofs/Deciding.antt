-- Whether a procedure may change a global can be decided (Warshall): calls lead from it, through procedures of numbers below a bound, to one that writes it.
use Rattle.std.proofs.Common.{◌≡◌, ℕ, zero, suc, ◌<◌, Bool, true, List, [], ◌∷◌, length, slice_get, Option, None, Some, Any, Contains, IsTrue, refl, sym, ap, subst, inl, inr, ◌⊎◌, ⊎_elim, arith, not-suc-le-zero}
use Rattle.std.proofs.lemmas.Bool.{cases_Bool, both_ways, cases_eq, cases_lt}
use Rattle.std.proofs.lemmas.Option.{slice_get_within}
use Rattle.hy_val.specs.declared.expr.ExprNode.{ExprNode}
use Rattle.hy_val.specs.declared.expr.Var.{Var}
use Rattle.hy_val.specs.declared.expr.Var.TheVariants.{Const, Global, Local}
use Rattle.flat_prog.specs.Program.{FlatProgram}
use Rattle.flat_prog.specs.Shape.{Calls, is_call_of}
use Rattle.flat_prog.specs.declared.block.FlatCmd.{FlatCmd}
use Rattle.flat_prog.specs.declared.block.FlatCmd.TheVariants.{Assign, Havoc, Assume, Assert, Call}
use Rattle.flat_prog.specs.declared.block.FlatBlock.{FlatBlock}
use Rattle.flat_prog.specs.declared.proc.FlatProc.{FlatProc}
use Rattle.flat_prog.specs.Changes.{Writes, MayChange, own, through}
use Rattle.flat_prog.proofs.Lists.{any_here, any_there, any_cases, any_none, has_here, has_there, has_cases, has_none}

-- one of the two
abbrev pub Decided : Type 0 → Type 0
Decided P = P ⊎ (P → ⊥)

pub both_decided : (P Q : Type 0) → Decided P → Decided Q → Decided (P × Q)
both_decided P Q (inl p) (inl q) = inl (p, q)
both_decided P Q (inl p) (inr no_q) = inr (λ h. no_q h.1)
both_decided P Q (inr no_p) q = inr (λ h. no_p h.0)

pub either_decided : (P Q : Type 0) → Decided P → Decided Q → Decided (P ⊎ Q)
either_decided P Q (inl p) q = inl (inl p)
either_decided P Q (inr no_p) (inl q) = inl (inr q)
either_decided P Q (inr no_p) (inr no_q) = inr (λ h. ⊎_elim (λ p. no_p p) (λ q. no_q q) h)

pub decided_by : (P Q : Type 0) → (P → Q) → (Q → P) → Decided P → Decided Q
decided_by P Q to from (inl p) = inl (to p)
decided_by P Q to from (inr no_p) = inr (λ q. no_p (from q))

pub any_decided : {X : Type 0} (P : X → Type 0) → ((x : X) → Decided (P x)) → (xs : List X) → Decided (Any P xs)
any_decided P each [] = inr (λ h. any_none P h)
any_decided P each (x ∷ xs) =
    decided_by (P x ⊎ Any P xs) (Any P (x ∷ xs)) (λ h. ⊎_elim (λ p. any_here P x xs p) (λ more. any_there P x xs more) h) (λ h. any_cases P x xs h)
    (either_decided (P x) (Any P xs) (each x) (any_decided P each xs))

pub bool_decided : (b : Bool) → Decided (b ≡ true)
bool_decided b = ⊎_elim (λ e. inl e) (λ e. inr (λ t. both_ways b e t)) (cases_Bool b)

pub var_decided : (x : Var) (g : ℕ) → Decided (x ≡ Global g)
var_decided (Const n) g = inr (λ h. cc)
var_decided (Local n) g = inr (λ h. cc)
var_decided (Global n) g = ⊎_elim (λ e. inl (ap (λ m. Global m) e)) (λ e. inr (λ h. let k : n ≡ g = cc in e k)) (cases_eq n g)

pub has_decided : (xs : List Var) (g : ℕ) → Decided (Contains xs (Global g))
has_decided [] g = inr (λ h. has_none (Global g) h)
has_decided (x ∷ xs) g =
    decided_by ((x ≡ Global g) ⊎ Contains xs (Global g)) (Contains (x ∷ xs) (Global g))
    (λ h. ⊎_elim (λ e. subst (λ (y : Var). Contains (x ∷ xs) y) e (has_here x xs)) (λ more. has_there (Global g) x xs more) h) (λ h. has_cases (Global g) x xs h)
    (either_decided (x ≡ Global g) (Contains xs (Global g)) (var_decided x g) (has_decided xs g))

writes_decided : (g : ℕ) (c : FlatCmd) → Decided (Writes (Global g) c)
writes_decided g (Assign pairs) = any_decided (λ (p : Var × List ExprNode). p.0 ≡ Global g) (λ p. var_decided p.0 g) pairs
writes_decided g (Havoc xs) = has_decided xs g
writes_decided g (Assume expr) = inr (λ h. h)
writes_decided g (Assert proc number expr) = inr (λ h. h)
writes_decided g (Call proc args outs) = has_decided outs g

-- the procedure of a number writes the global itself, or calls
abbrev pub OwnWrite : FlatProgram → ℕ → ℕ → Type 0
OwnWrite flat g p = (q : FlatProc) × (slice_get flat.procs p ≡ Some q) × Any (λ (b : FlatBlock). Any (Writes (Global g)) b.cmds) q.blocks

abbrev pub CallsAt : FlatProgram → ℕ → ℕ → Type 0
CallsAt flat p r = (q : FlatProc) × (slice_get flat.procs p ≡ Some q) × Calls q r

same_proc : (q r : FlatProc) → ◌≡◌ {A = Option FlatProc} (Some q) (Some r) → q ≡ r
same_proc q r h = cc

at_decided : (o : Option FlatProc) (P : FlatProc → Type 0) → ((q : FlatProc) → Decided (P q)) → Decided ((q : FlatProc) × (o ≡ Some q) × P q)
at_decided None P each = inr (λ h. none_some h.0 h.1)
  where
    none_some : (q : FlatProc) → ◌≡◌ {A = Option FlatProc} None (Some q) → ⊥
    none_some q h = cc
at_decided (Some r) P each = decided_by (P r) ((q : FlatProc) × (Some r ≡ Some q) × P q) (λ h. (r, refl, h)) (λ h. subst P (sym (same_proc r h.0 h.1)) h.2) (each r)

own_decided : (flat : FlatProgram) (g p : ℕ) → Decided (OwnWrite flat g p)
own_decided flat g p = at_decided (slice_get flat.procs p) (λ q. Any (λ (b : FlatBlock). Any (Writes (Global g)) b.cmds) q.blocks) (λ q. any_decided (λ (b : FlatBlock). Any (Writes (Global g)) b.cmds) (λ b. any_decided (Writes (Global g)) (writes_decided g) b.cmds) q.blocks)

calls_decided : (flat : FlatProgram) (p r : ℕ) → Decided (CallsAt flat p r)
calls_decided flat p r = at_decided (slice_get flat.procs p) (λ q. Calls q r) (λ q. any_decided (λ (b : FlatBlock). Any (λ c. IsTrue (is_call_of r c)) b.cmds) (λ b. any_decided (λ c. IsTrue (is_call_of r c)) (λ c. bool_decided (is_call_of r c)) b.cmds) q.blocks)

-- calls lead from p to r, in between through procedures of numbers below a bound alone
abbrev pub Way : FlatProgram → ℕ → ℕ → ℕ → Type 0
Way flat zero p r = (p ≡ r) ⊎ CallsAt flat p r
Way flat (suc k) p r = Way flat k p r ⊎ (Way flat k p k × Way flat k k r)

way_decided : (flat : FlatProgram) (k p r : ℕ) → Decided (Way flat k p r)
way_decided flat zero p r = either_decided (p ≡ r) (CallsAt flat p r) (cases_eq p r) (calls_decided flat p r)
way_decided flat (suc k) p r =
    either_decided (Way flat k p r) (Way flat k p k × Way flat k k r) (way_decided flat k p r) (both_decided (Way flat k p k) (Way flat k k r) (way_decided flat k p k) (way_decided flat k k r))

way_up : (flat : FlatProgram) (k p r : ℕ) → Way flat zero p r → Way flat k p r
way_up flat zero p r h = h
way_up flat (suc k) p r h = inl (way_up flat k p r h)

way_same : (flat : FlatProgram) (k p : ℕ) → Way flat k p p
way_same flat k p = way_up flat k p p (inl refl)

way_first : (flat : FlatProgram) (k p : ℕ) → Way flat (suc k) p k → Way flat k p k
way_first flat k p (inl h) = h
way_first flat k p (inr h) = h.0

way_last : (flat : FlatProgram) (k r : ℕ) → Way flat (suc k) k r → Way flat k k r
way_last flat k r (inl h) = h
way_last flat k r (inr h) = h.1

lower : (j k : ℕ) → j < suc k → (j ≡ k → ⊥) → j < k
lower j k l e = ⊎_elim (λ h. h) (λ h. absurd (e (omega arith))) (cases_lt j k)

way_inside : (flat : FlatProgram) (k p j r : ℕ) → ((p r : ℕ) → Way flat k p j → Way flat k j r → Way flat k p r) → Way flat (suc k) p j → Way flat (suc k) j r → Way flat (suc k) p r
way_inside flat k p j r join (inl h) (inl m) = inl (join p r h m)
way_inside flat k p j r join (inl h) (inr m) = inr (join p k h m.0, m.1)
way_inside flat k p j r join (inr h) (inl m) = inr (h.0, join k r h.1 m)
way_inside flat k p j r join (inr h) (inr m) = inr (h.0, m.1)

-- ways are put together at a procedure below the bound
way_join : (flat : FlatProgram) (k p j r : ℕ) → j < k → Way flat k p j → Way flat k j r → Way flat k p r
way_join flat zero p j r below h m = absurd (not-suc-le-zero below)
way_join flat (suc k) p j r below h m =
    ⊎_elim (λ e. inr (way_first flat k p (subst (λ (x : ℕ). Way flat (suc k) p x) e h), way_last flat k r (subst (λ (x : ℕ). Way flat (suc k) x r) e m)))
    (λ e. way_inside flat k p j r (λ p r h m. way_join flat k p j r (lower j k below e) h m) h m) (cases_eq j k)

-- a way on which the global is written at the end
abbrev Written : FlatProgram → ℕ → ℕ → ℕ → Type 0
Written flat g p r = Way flat (length flat.procs) p r × OwnWrite flat g r

-- some number below a bound
abbrev Below : ℕ → (ℕ → Type 0) → Type 0
Below bound P = (r : ℕ) × (r < bound) × P r

below_decided : (bound : ℕ) (P : ℕ → Type 0) → ((r : ℕ) → Decided (P r)) → Decided (Below bound P)
below_decided zero P each = inr (λ h. not-suc-le-zero h.1)
below_decided (suc bound) P each = decided_by (P bound ⊎ Below bound P) (Below (suc bound) P) up down (either_decided (P bound) (Below bound P) (each bound) (below_decided bound P each))
  where
    up : P bound ⊎ Below bound P → Below (suc bound) P
    up (inl h) = (bound, omega arith, h)
    up (inr h) = (h.0, let l = h.1 in omega arith, h.2)

    down : Below (suc bound) P → P bound ⊎ Below bound P
    down (r, l, h) = ⊎_elim (λ e. inl (subst P e h)) (λ e. inr (r, lower r bound l e, h)) (cases_eq r bound)

way_changes : (flat : FlatProgram) (g k p r : ℕ) → Way flat k p r → MayChange flat g r → MayChange flat g p
way_changes flat g zero p r (inl e) h = subst (λ (x : ℕ). MayChange flat g x) (sym e) h
way_changes flat g zero p r (inr (q, is, calls)) h = through q r is calls h
way_changes flat g (suc k) p r (inl w) h = way_changes flat g k p r w h
way_changes flat g (suc k) p r (inr w) h = way_changes flat g k p k w.0 (way_changes flat g k k r w.1 h)

-- such a procedure is there
pub change_within : (flat : FlatProgram) (g p : ℕ) → MayChange flat g p → p < length flat.procs
change_within flat g p (own q is h) = slice_get_within flat.procs p q is
change_within flat g p (through q to is calls h) = slice_get_within flat.procs p q is

changes_way : (flat : FlatProgram) (g p : ℕ) → MayChange flat g p → Below (length flat.procs) (Written flat g p)
changes_way flat g p (own q is h) = (p, slice_get_within flat.procs p q is, (way_same flat (length flat.procs) p, (q, is, h)))
changes_way flat g p (through q to is calls h) =
    let r = changes_way flat g to h in
    (r.0, r.1, (way_join flat (length flat.procs) p to r.0 (change_within flat g to h) (way_up flat (length flat.procs) p to (inr (q, is, calls))) r.2.0, r.2.1))

-- whether a procedure may change a global is decided
pub change_decided : (flat : FlatProgram) (g p : ℕ) → Decided (MayChange flat g p)
change_decided flat g p =
    decided_by (Below (length flat.procs) (Written flat g p)) (MayChange flat g p)
    (λ h. way_changes flat g (length flat.procs) p h.0 h.2.0 (own h.2.1.0 h.2.1.1 h.2.1.2)) (λ h. changes_way flat g p h)
    (below_decided (length flat.procs) (Written flat g p) (λ r. both_decided (Way flat (length flat.procs) p r) (OwnWrite flat g r) (way_decided flat (length flat.procs) p r) (own_decided flat g r)))
