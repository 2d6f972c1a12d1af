-- What the table says of an event without a fault.
use Rattle.std.proofs.Common.{◌≡◌, ℕ, Bool, true, false, cond, List, [], ◌∷◌, ◌++◌, slice_get, refl, sym, ap, ◌∙◌, subst, Some, eqb-true, eq-eqb, nat_eq}
use Rattle.std.specs.Prelude.{Option, None}
use Rattle.std.proofs.lemmas.Option.{none-some, same_Some}
use Rattle.call_tree.specs.Trees.{has_path}
use Rattle.call_tree.specs.Pieces.{undecided_of}
use Rattle.piece_core.specs.declared.tasks.Task.{Task}
use Rattle.piece_core.specs.declared.events.Event.{Event}
use Rattle.piece_core.specs.declared.events.Event.TheVariants.{Take, Inline, Split, Close, Found, Back}
use Rattle.piece_core.specs.declared.events.Entry.{Entry}
use Rattle.piece_core.specs.declared.leaves.StatusKind.{StatusKind}
use Rattle.piece_core.specs.declared.leaves.StatusKind.TheVariants.{Live as LiveKind, Closed as ClosedKind, Found as FoundKind, Split as SplitKind}
use Rattle.piece_core.specs.Shapes.{Shape, Fault, is_due, can_grow, take_fault, back_fault, held_fault, grow_fault, split_fault, live_fault, status_fault, fault_at}

abbrev pub Lets : Task → Shape → ℕ → Event → Type 0
Lets task s worker Take = s.holder ≡ None
Lets task s worker (Inline sites) = (s.holder ≡ Some worker) × (is_due task.grain s.tree s.piece s.inlined ≡ false) × (can_grow task s.tree sites ≡ true)
Lets task s worker (Split site) = (s.holder ≡ Some worker) × (is_due task.grain s.tree s.piece s.inlined ≡ true) × (has_path (undecided_of s.tree s.piece) site ≡ true)
Lets task s worker Close = s.holder ≡ Some worker
Lets task s worker Found = s.holder ≡ Some worker
Lets task s worker Back = (by : ℕ) × (s.holder ≡ Some by)

-- the leaf of an event without a fault
pub record IsHere (task : Task) (nodes : List Shape) (e : Entry) : Type 0 where
  pub shape : Shape
  pub at : slice_get nodes e.node ≡ Some shape
  pub live : shape.status ≡ LiveKind
  pub lets : Lets task shape e.worker e.event

fault_none : {X : Type 0} (f : Fault) → Some f ≡ None → X
fault_none f h = absurd (none-some f (sym h))

take_lets : (o : Option ℕ) → take_fault o ≡ None → o ≡ None
take_lets None h = refl
take_lets (Some by) h = fault_none _ h

back_lets : (o : Option ℕ) → back_fault o ≡ None → (by : ℕ) × (o ≡ Some by)
back_lets None h = fault_none _ h
back_lets (Some by) h = (by, refl)

held_lets : (o : Option ℕ) (worker : ℕ) (later : Option Fault) → held_fault o worker later ≡ None → (o ≡ Some worker) × (later ≡ None)
held_lets None worker later h = fault_none _ h
held_lets (Some by) worker later h = by_test (nat_eq by worker) refl h
  where
    by_test : (b : Bool) → nat_eq by worker ≡ b → cond b later (Some Fault.NotHeld) ≡ None → (Some by ≡ Some worker) × (later ≡ None)
    by_test true is k = (ap Some (eqb-true by worker is), k)
    by_test false is k = fault_none _ k

grow_lets : (due can : Bool) → grow_fault due can ≡ None → (due ≡ false) × (can ≡ true)
grow_lets true can h = fault_none _ h
grow_lets false false h = fault_none _ h
grow_lets false true h = (refl, refl)

split_lets : (due free : Bool) → split_fault due free ≡ None → (due ≡ true) × (free ≡ true)
split_lets false free h = fault_none _ h
split_lets true false h = fault_none _ h
split_lets true true h = (refl, refl)

live_lets : (task : Task) (s : Shape) (worker : ℕ) (event : Event) → live_fault task s worker event ≡ None → Lets task s worker event
live_lets task s worker Take h = take_lets s.holder h
live_lets task s worker (Inline sites) h =
    let r = held_lets s.holder worker _ h in
    let q = grow_lets (is_due task.grain s.tree s.piece s.inlined) (can_grow task s.tree sites) r.1 in
    (r.0, q.0, q.1)
live_lets task s worker (Split site) h =
    let r = held_lets s.holder worker _ h in
    let q = split_lets (is_due task.grain s.tree s.piece s.inlined) (has_path (undecided_of s.tree s.piece) site) r.1 in
    (r.0, q.0, q.1)
live_lets task s worker Close h = (held_lets s.holder worker None h).0
live_lets task s worker Found h = (held_lets s.holder worker None h).0
live_lets task s worker Back h = back_lets s.holder h

status_lets : (t : StatusKind) (later : Option Fault) → status_fault t later ≡ None → (t ≡ LiveKind) × (later ≡ None)
status_lets LiveKind later h = (refl, h)
status_lets ClosedKind later h = fault_none _ h
status_lets FoundKind later h = fault_none _ h
status_lets SplitKind later h = fault_none _ h

here_at : (task : Task) (nodes : List Shape) (e : Entry) (o : Option Shape) → slice_get nodes e.node ≡ o → fault_at task o e ≡ None → IsHere task nodes e
here_at task nodes e None at h = fault_none _ h
here_at task nodes e (Some s) at h =
    let r = status_lets s.status (live_fault task s e.worker e.event) h in
    record { shape = s; at = at; live = r.0; lets = live_lets task s e.worker e.event r.1 }

pub here_of : (task : Task) (nodes : List Shape) (e : Entry) → fault_at task (slice_get nodes e.node) e ≡ None → IsHere task nodes e
here_of task nodes e h = here_at task nodes e (slice_get nodes e.node) refl h

itself : (n : ℕ) → nat_eq n n ≡ true
itself n = eq-eqb n n refl

-- and back
held_none : (o : Option ℕ) (worker : ℕ) (later : Option Fault) → o ≡ Some worker → held_fault o worker later ≡ later
held_none o worker later h = ap (λ (x : Option ℕ). held_fault x worker later) h ∙ ap (λ (b : Bool). cond b later (Some Fault.NotHeld)) (itself worker)

live_none : (task : Task) (s : Shape) (worker : ℕ) (event : Event) → Lets task s worker event → live_fault task s worker event ≡ None
live_none task s worker Take h = ap take_fault h
live_none task s worker (Inline sites) (held, undue, can) = held_none s.holder worker _ held ∙ ap (λ (b : Bool). grow_fault b (can_grow task s.tree sites)) undue ∙ ap (grow_fault false) can
live_none task s worker (Split site) (held, due, free) = held_none s.holder worker _ held ∙ ap (λ (b : Bool). split_fault b (has_path (undecided_of s.tree s.piece) site)) due ∙ ap (split_fault true) free
live_none task s worker Close h = held_none s.holder worker None h
live_none task s worker Found h = held_none s.holder worker None h
live_none task s worker Back (by, held) = ap back_fault held

pub no_fault : (task : Task) (nodes : List Shape) (e : Entry) (h : IsHere task nodes e) → fault_at task (slice_get nodes e.node) e ≡ None
no_fault task nodes e h =
    ap (λ (o : Option Shape). fault_at task o e) h.at ∙ ap (λ (t : StatusKind). status_fault t (live_fault task h.shape e.worker e.event)) h.live ∙ live_none task h.shape e.worker e.event h.lets
