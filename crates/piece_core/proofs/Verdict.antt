-- The verdict is right.
use Rattle.std.proofs.Common.{length, ◌≡◌, ℕ, zero, suc, ◌+◌, ◌<◌, Bool, true, false, not, ◌&&◌, ◌||◌, cond, List, [], ◌∷◌, ◌++◌, slice_get, refl, sym, ap, ◌∙◌, subst, true≢false, arith, Some, not-suc-le-zero}
use Rattle.std.specs.Prelude.{count_by, Option, None, All, IsTrue}
use Rattle.std.proofs.lemmas.List.Sums.{sum_by-cons}
use Rattle.std.proofs.lemmas.Bool.{and_parts}
use Rattle.std.proofs.lemmas.Option.{none-some, same_Some}
use Rattle.cnf_form.specs.Literal.{Satisfiable}
use Rattle.cnf_form.specs.Lines.{refutes}
use Rattle.cnf_form.specs.declared.log.Line.{Line}
use Rattle.flat_prog.specs.Shape.{IsFlat}
use Rattle.flat_prog.specs.Trees.{Run}
use Rattle.flat_prog.specs.Nodes.{run_of}
use Rattle.flat_prog.specs.Runs.{IsFull, FailsIn}
use Rattle.call_tree.specs.declared.piece.Decision2.{Decision2}
use Rattle.call_tree.specs.Pieces.{meets, reaches}
use Rattle.call_tree.specs.Laws.{OverLaw, UnderLaw}
use Rattle.piece_core.specs.declared.tasks.Task.{Task}
use Rattle.piece_core.specs.declared.events.Entry.{Entry}
use Rattle.piece_core.specs.declared.leaves.Status2.{Status2}
use Rattle.piece_core.specs.declared.leaves.Status2.TheVariants.{Live, Closed, Found, Split}
use Rattle.piece_core.specs.declared.leaves.Leaf.{Leaf}
use Rattle.piece_core.specs.declared.leaves.StatusKind.{StatusKind}
use Rattle.piece_core.specs.declared.leaves.StatusKind.TheVariants.{Live as LiveKind, Closed as ClosedKind, Found as FoundKind, Split as SplitKind}
use Rattle.piece_core.specs.Shapes.{Shape, is_leaf, is_live, is_found, is_met, Covers}
use Rattle.piece_core.specs.Evidence.{Closes, kind_of, shape_of, shapes_of, Evidence, IsFine}
use Rattle.piece_core.specs.Book.{IsUnsafe, all_closed, is_closed, settled_of, first_found, IsFoundFirst, IsSound, Says}
use Rattle.piece_core.proofs.Shaping.{map_got}
use Rattle.piece_core.proofs.Well.{all_at}
use Rattle.piece_core.proofs.Settled.{none_live}

-- a refuted formula is not satisfiable
abbrev pub RefutedLaw : Type 0
RefutedLaw = (variables : ℕ) (clauses : List (List ℕ)) (lines : List Line) → refutes clauses lines ≡ true → Satisfiable variables clauses → ⊥

-- a count that is not zero counts something
pub some_counted : {X : Type 0} (test : X → Bool) (xs : List X) → 0 < count_by test xs → (i : ℕ) × (x : X) × (slice_get xs i ≡ Some x) × (test x ≡ true)
some_counted {X = X} test [] h = absurd (not-suc-le-zero h)
some_counted {X = X} test (x ∷ xs) h = by_test (test x) refl (λ k. let r = some_counted test xs k in (suc r.0, r.1, r.2, r.3)) (subst (λ n. 0 < n) (sum_by-cons (λ y. cond (test y) 1 0) x xs) h)
  where
    by_test : (b : Bool) → test x ≡ b → (0 < count_by test xs → (i : ℕ) × (y : X) × (slice_get (x ∷ xs) i ≡ Some y) × (test y ≡ true)) → 0 < cond b 1 0 + count_by test xs → (i : ℕ) × (y : X) × (slice_get (x ∷ xs) i ≡ Some y) × (test y ≡ true)
    by_test true is rest k = (0, x, refl, is)
    by_test false is rest k = rest (omega arith)

closed_at : (shapes : List Shape) (i : ℕ) (s : Shape) → slice_get shapes i ≡ Some s → all_closed shapes ≡ true → is_closed s.status ≡ true
closed_at [] i s at h = absurd (none-some s at)
closed_at (x ∷ xs) zero s at h = subst (λ (t : Shape). is_closed t.status ≡ true) (same_Some x s at) (and_parts (is_closed x.status) (all_closed xs) h).0
closed_at (x ∷ xs) (suc i) s at h = closed_at xs i s at (and_parts (is_closed x.status) (all_closed xs) h).1

-- a Found leaf shows a failing run
found_fails : UnderLaw → (task : Task) (leaf : Leaf) (status : Status2) → IsFine task leaf → leaf.status ≡ status → is_found (kind_of status) ≡ true → IsUnsafe task
found_fails under task leaf Live fine is h = absurd (true≢false (sym h))
found_fails under task leaf (Closed proof) fine is h = absurd (true≢false (sym h))
found_fails under task leaf (Found run) fine is h =
    let r = under task.flat task.entry task.bound leaf.tree leaf.piece (run_of run) fine.well.tree (subst (λ (t : Status2). Evidence task leaf.tree leaf.piece t) is fine.evidence) in
    (run_of run, r.0, r.1, r.2, r.3)
found_fails under task leaf (Split site) fine is h = absurd (true≢false (sym h))

-- a failing run meets no closed leaf's piece
closed_fails : OverLaw → RefutedLaw → (task : Task) (leaf : Leaf) (run : Run) (proc number : ℕ) (status : Status2) → IsFlat task.flat → IsFine task leaf → leaf.status ≡ status → is_closed (kind_of status) ≡ true → is_leaf (kind_of status) ≡ true
    → meets (reaches task.flat run) leaf.piece ≡ true → IsFull task.flat task.entry task.bound run → FailsIn task.flat task.entry run proc number → ⊥
closed_fails over refuted task leaf run proc number Live flat fine is closed there meet full fails = true≢false (sym closed)
closed_fails over refuted task leaf run proc number (Closed proof) flat fine is closed there meet full fails =
    let stands : Closes task leaf.tree leaf.piece proof = subst (λ (t : Status2). Evidence task leaf.tree leaf.piece t) is fine.evidence in
    let part = over task.flat task.entry task.bound leaf.tree leaf.piece run proc number flat fine.well.tree fine.well.named full fails meet in
    refuted proof.cnf.variables proof.cnf.clauses proof.log.lines proof.refutes (stands.1 (part.0, part.1))
closed_fails over refuted task leaf run proc number (Found r) flat fine is closed there meet full fails = true≢false (sym closed)
closed_fails over refuted task leaf run proc number (Split site) flat fine is closed there meet full fails = true≢false (sym there)

pub bug_is_right : UnderLaw → (task : Task) (nodes : List Leaf) (node : ℕ) → All (IsFine task) nodes → IsFoundFirst (shapes_of nodes) (Some node) → IsUnsafe task
bug_is_right under task nodes node fine (s, at, found) =
    let r = map_got shape_of nodes node s at in
    found_fails under task r.0 r.0.status (all_at (IsFine task) nodes node r.0 r.1 fine) refl (ap (λ (x : Shape). is_found x.status) r.2 ∙ ap is_found found)

-- where all leaves are closed, no failing run meets the piece of the book
pub safe_is_right : OverLaw → RefutedLaw → (task : Task) (piece : List (List ℕ × Decision2)) (nodes : List Leaf) → IsFlat task.flat → All (IsFine task) nodes → Covers piece (shapes_of nodes) → all_closed (shapes_of nodes) ≡ true
    → (run : Run) (proc number : ℕ) → meets (reaches task.flat run) piece ≡ true → IsFull task.flat task.entry task.bound run → FailsIn task.flat task.entry run proc number → ⊥
safe_is_right over refuted task piece nodes flat fine covers closed run proc number here full fails =
    let reached = reaches task.flat run in
    let once : count_by (is_met reached) (shapes_of nodes) ≡ 1 = covers reached ∙ ap (λ (b : Bool). cond b 1 0) here in
    let met = some_counted (is_met reached) (shapes_of nodes) (subst (λ n. 0 < n) (sym once) (omega arith)) in
    let r = map_got shape_of nodes met.0 met.1 met.2 in
    let leaf = r.0 in
    let same : shape_of leaf ≡ met.1 = r.2 in
    let parts = and_parts (is_leaf (kind_of leaf.status)) (meets reached leaf.piece) (ap (is_met reached) same ∙ met.3) in
    closed_fails over refuted task leaf run proc number leaf.status flat (all_at (IsFine task) nodes met.0 leaf r.1 fine) refl
    (ap (λ (x : Shape). is_closed x.status) same ∙ closed_at (shapes_of nodes) met.0 met.1 met.2 closed)
    parts.0 parts.1 full fails

pub bug_of : UnderLaw → (task : Task) (nodes : List Leaf) (entries : List Entry) (node : ℕ) → first_found entries ≡ Some node → IsSound task nodes entries → IsUnsafe task
bug_of under task nodes entries node is sound = bug_is_right under task nodes node sound.fine (subst (IsFoundFirst (shapes_of nodes)) is sound.found)

pub safe_of : OverLaw → RefutedLaw → (task : Task) (nodes : List Leaf) (entries : List Entry) → IsFlat task.flat → all_closed (shapes_of nodes) ≡ true → IsSound task nodes entries → IsUnsafe task → ⊥
safe_of over refuted task nodes entries flat closed sound (run, proc, number, full, fails) = safe_is_right over refuted task [] nodes flat sound.fine sound.covers closed run proc number refl full fails

-- where nothing was found and none is live, all leaves are closed
pub closed_of : (task : Task) (nodes : List Leaf) (entries : List Entry) → first_found entries ≡ None → (settled_of nodes < length nodes → ⊥) → IsSound task nodes entries → all_closed (shapes_of nodes) ≡ true
closed_of task nodes entries none settled sound = none_live nodes settled (subst (IsFoundFirst (shapes_of nodes)) none sound.found)
