-- Turns go on at a leaf that the worker holds.
use Rattle.std.proofs.Common.{◌≡◌, ℕ, suc, ◌+◌, ◌-◌, List, [], ◌∷◌, ◌++◌, length, set, map, slice_get, refl, sym, ap, ◌∙◌, subst, Some, arith, length-set}
use Rattle.std.specs.Prelude.{Option}
use Rattle.call_tree.specs.declared.piece.Decision2.TheVariants.{Must}
use Rattle.piece_core.specs.declared.events.Event.TheVariants.{Inline as InlineEvent, Split as SplitEvent}
use Rattle.piece_core.specs.declared.leaves.Leaf.{Leaf}
use Rattle.piece_core.specs.declared.leaves.Status2.TheVariants.{Live, Split}
use Rattle.piece_core.specs.Shapes.{changed, made, half}
use Rattle.piece_core.specs.Evidence.{shape_of}
use Rattle.piece_core.specs.Book.{Ledger, Booked, entry, leaf_with, live_leaf, written_at}
use Rattle.engine.specs.declared.thoughts.Thought.{Thought}
use Rattle.engine.specs.declared.thoughts.Thought.TheVariants.{Inline as InlineThought, Split as SplitThought, Close as CloseThought, Found as FoundThought}
use Rattle.engine.specs.declared.turns.EventKind.{EventKind}
use Rattle.engine.specs.Engine.{TurnedTo, GoesOn, next_of, event_of, status_of, kind_of, ticket_of}
use Rattle.engine.proofs.Turning.{own_written}

get_behind : {X : Type 0} (xs ys : List X) (i : ℕ) → slice_get (xs ++ ys) (length xs + i) ≡ slice_get ys i
get_behind [] ys i = let e : 0 + i ≡ i = omega arith in ap (slice_get ys) e
get_behind (x ∷ xs) ys i = let e : length (x ∷ xs) + i ≡ suc (length xs + i) = omega arith in ap (slice_get ((x ∷ xs) ++ ys)) e ∙ get_behind xs ys i

goes : (old new : Ledger) (worker node : ℕ) (leaf : Leaf) (thought : Thought) → slice_get old.nodes node ≡ Some leaf → leaf.holder ≡ Some worker → Booked old new (entry worker node (event_of thought)) (status_of thought)
    → GoesOn new worker (next_of node (kind_of thought) (ticket_of (length old.nodes) thought))
goes old new worker node leaf (InlineThought sites run) at held booked = record {
  leaf = leaf_with (changed (shape_of leaf) worker (InlineEvent sites)) Live;
  at = ap (λ (ns : List Leaf). slice_get ns node) booked.nodes ∙ own_written old.nodes (entry worker node (InlineEvent sites)) Live leaf at;
  live = refl;
  held = held;
}
goes old new worker node leaf (SplitThought site) at held booked =
    let e = entry worker node (SplitEvent site) in
    let before = set old.nodes node (leaf_with (changed (shape_of leaf) worker (SplitEvent site)) (Split site)) in
    let more = map live_leaf (made (shape_of leaf) worker (SplitEvent site)) in
    let must : Leaf = live_leaf (half (shape_of leaf) (Some worker) site Must) in
    let long : length before ≡ length old.nodes = length-set old.nodes node (leaf_with (changed (shape_of leaf) worker (SplitEvent site)) (Split site)) in
    let whole : new.nodes ≡ before ++ more = booked.nodes ∙ ap (written_at old.nodes e (Split site)) at in
    let place : length before + 0 ≡ length old.nodes + 1 - 1 = omega (arith, long) in
    record {
      leaf = must;
      at = ap (λ (ns : List Leaf). slice_get ns (length old.nodes + 1 - 1)) whole ∙ subst (λ n. slice_get (before ++ more) n ≡ Some must) place (get_behind before more 0);
      live = refl;
      held = refl;
    }
goes old new worker node leaf (CloseThought proof) at held booked = tt
goes old new worker node leaf (FoundThought run) at held booked = tt

pub goes_on : (old new : Ledger) (worker node : ℕ) (kind : EventKind) (ticket : Option ℕ) → TurnedTo old new worker node kind ticket → GoesOn new worker (next_of node kind ticket)
goes_on old new worker node kind ticket t =
    subst (λ (k : EventKind). GoesOn new worker (next_of node k ticket)) (sym t.kind_is)
    (subst (λ (o : Option ℕ). GoesOn new worker (next_of node (kind_of t.thought) o)) (sym t.ticket_is) (goes old new worker node t.leaf t.thought t.at t.held t.booked))
