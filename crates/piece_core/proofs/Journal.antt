-- Legal journals keep what every legal event keeps; legal in shape are those without a fault.
use Rattle.std.proofs.Common.{◌≡◌, ℕ, ◌+◌, cond, arith, true, List, [], ◌∷◌, ◌++◌, slice_get, refl, sym, ap, ◌∙◌, subst, Some}
use Rattle.std.specs.Prelude.{Option, None, All, IsTrue}
use Rattle.std.proofs.lemmas.Option.{none-some}
use Rattle.std.proofs.lemmas.List.Elements.{All-cons, All-nil}
use Rattle.std.proofs.lemmas.Bool.{and_from, lt-ltb, le-leb}
use Rattle.flat_prog.specs.Caps.{within, may_follow, kind_of as flat_kind_of}
use Rattle.flat_prog.specs.declared.proc.FlatKind.{FlatKind}
use Rattle.flat_prog.specs.declared.proc.FlatKind.TheVariants.{Source, Loop}
use Rattle.call_tree.specs.declared.piece.Decision2.{Decision2}
use Rattle.call_tree.specs.Pieces.{meets}
use Rattle.piece_core.specs.declared.tasks.Task.{Task}
use Rattle.piece_core.specs.declared.events.Entry.{Entry}
use Rattle.piece_core.specs.Shapes.{Shape, first, root_alone, Fault, Ask, AskAt, AskNothing, Legal, replay, opening, after, fault_at, first_fault, fault_or, counted, IsWell, Covers}
use Rattle.piece_core.specs.Evidence.{Asks}
use Rattle.piece_core.specs.Book.{Opens}
use Rattle.piece_core.specs.Counts.{WholeLaw, FaultLaw}
use Rattle.piece_core.proofs.Table.{here_of}
use Rattle.piece_core.proofs.Cover.{covers_after}
use Rattle.piece_core.proofs.Well.{well_after}

-- what each legal event keeps
pub keeps : (P : List Shape → Type 0) (task : Task) → ((nodes : List Shape) (e : Entry) → fault_at task (slice_get nodes e.node) e ≡ None → P nodes → P (after nodes e)) → (ask : Ask) (nodes : List Shape) (entries : List Entry) → Legal ask task nodes entries → P nodes → P (replay nodes entries)
keeps P task step ask nodes [] legal h = h
keeps P task step ask nodes (e ∷ es) (fine, asked, legal) h = keeps P task step ask (after nodes e) es legal (step nodes e fine h)

pub replay_more : (nodes : List Shape) (entries : List Entry) (e : Entry) → replay nodes (entries ++ e ∷ []) ≡ after (replay nodes entries) e
replay_more nodes [] e = refl
replay_more nodes (x ∷ xs) e = replay_more (after nodes x) xs e

pub legal_more : (ask : Ask) (task : Task) (nodes : List Shape) (entries : List Entry) (e : Entry) → Legal ask task nodes entries → fault_at task (slice_get (replay nodes entries) e.node) e ≡ None → AskAt ask (slice_get (replay nodes entries) e.node) e.event → Legal ask task nodes (entries ++ e ∷ [])
legal_more ask task nodes [] e legal fine asked = (fine, asked, tt)
legal_more ask task nodes (x ∷ xs) e (fine_x, asked_x, legal) fine asked = (fine_x, asked_x, legal_more ask task (after nodes x) xs e legal fine asked)

-- a leaf of which something is asked is one of which nothing is
ask_less : (ask : Ask) (o : Option Shape) (e : Entry) → AskAt ask o e.event → AskAt AskNothing o e.event
ask_less ask None e h = h
ask_less ask (Some s) e h = tt

pub legal_in_shape : (ask : Ask) (task : Task) (nodes : List Shape) (entries : List Entry) → Legal ask task nodes entries → Legal AskNothing task nodes entries
legal_in_shape ask task nodes [] legal = tt
legal_in_shape ask task nodes (e ∷ es) (fine, asked, legal) = (fine, ask_less ask (slice_get nodes e.node) e asked, legal_in_shape ask task (after nodes e) es legal)

-- legal in shape: no entry has a fault
asked_nothing : (task : Task) (o : Option Shape) (e : Entry) → fault_at task o e ≡ None → AskAt AskNothing o e.event
asked_nothing task None e h = absurd (none-some Fault.NoNode (sym h))
asked_nothing task (Some s) e h = tt

or_none : (f : Option Fault) (later : Option (ℕ × Fault)) → fault_or f later ≡ None → (f ≡ None) × (later ≡ None)
or_none None None h = (refl, refl)
or_none None (Some (index, fault)) h = absurd (none-some _ (sym h))
or_none (Some fault) later h = absurd (none-some _ (sym h))

pub legal_of_none : (task : Task) (nodes : List Shape) (entries : List Entry) → first_fault task nodes entries ≡ None → Legal AskNothing task nodes entries
legal_of_none task nodes [] h = tt
legal_of_none task nodes (e ∷ es) h =
    let r = or_none (fault_at task (slice_get nodes e.node) e) (first_fault task (after nodes e) es) h in
    (r.0, asked_nothing task (slice_get nodes e.node) e r.0, legal_of_none task (after nodes e) es r.1)

pub none_of_legal : (task : Task) (nodes : List Shape) (entries : List Entry) → Legal AskNothing task nodes entries → first_fault task nodes entries ≡ None
none_of_legal task nodes [] legal = refl
none_of_legal task nodes (e ∷ es) (fine, asked, legal) = ap (λ (f : Option Fault). fault_or f (first_fault task (after nodes e) es)) fine ∙ ap (fault_or None) (none_of_legal task (after nodes e) es legal)

-- a legal journal covers
opening_covers : (piece : List (List ℕ × Decision2)) (tree : List (List ℕ)) → Covers piece (opening piece tree)
opening_covers piece tree = λ reached. let e : 0 + cond (meets reached piece) 1 0 ≡ cond (meets reached piece) 1 0 = omega arith in e

pub covers : (ask : Ask) (task : Task) (piece : List (List ℕ × Decision2)) (tree : List (List ℕ)) (entries : List Entry) → Legal ask task (opening piece tree) entries → Covers piece (replay (opening piece tree) entries)
covers ask task piece tree entries legal = keeps (Covers piece) task (covers_after task piece) ask (opening piece tree) entries legal (opening_covers piece tree)

pub opening_well : (task : Task) (piece : List (List ℕ × Decision2)) (tree : List (List ℕ)) → IsWell task (first piece tree) → All (IsWell task) (opening piece tree)
opening_well task piece tree starts = All-cons (IsWell task) (first piece tree) [] starts (All-nil (IsWell task))

pub well : (ask : Ask) (task : Task) (piece : List (List ℕ × Decision2)) (tree : List (List ℕ)) (entries : List Entry) → IsWell task (first piece tree) → Legal ask task (opening piece tree) entries → All (IsWell task) (replay (opening piece tree) entries)
well ask task piece tree entries starts legal = keeps (All (IsWell task)) task (well_after task) ask (opening piece tree) entries legal (opening_well task piece tree starts)

-- a whole search may begin
root_within : (task : Task) → Opens task → within task.flat task.entry task.bound [] ≡ true
root_within task asked = and_from (may_follow task.bound (flat_kind_of (slice_get task.flat.procs task.entry)) task.entry []) true (may (flat_kind_of (slice_get task.flat.procs task.entry))) refl
  where
    may : (kind : FlatKind) → may_follow task.bound kind task.entry [] ≡ true
    may (Source proc) = lt-ltb 0 task.bound (omega (arith, asked.low))
    may (Loop proc head) = le-leb 0 task.bound (omega arith)

pub whole_well : WholeLaw
whole_well task asked = record { tree = record { rest = []; root_first = refl; root = root_within task asked; placed = refl }; named = refl; once = refl }

pub in_shape : FaultLaw
in_shape task nodes entries = record { exact = (legal_of_none task nodes entries, none_of_legal task nodes entries); books = legal_in_shape (Asks task) task nodes entries }
