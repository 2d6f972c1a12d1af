use Rattle.std.specs.Prelude.{vec_capacity, Option}
use Rattle.std.specs.Arc.{arc_value}
use Rattle.std.proofs.Common.{◌≡◌, ℕ, ◌+◌, ◌-◌, ◌<◌, ◌≤◌, length, List, [], ◌∷◌, ◌++◌, drop, set, Some, None, arith, sym, ap, ◌∙◌, subst, length-append, refl, le_refl}
use Rattle.flat_prog.specs.Nodes.{run_of}
use Rattle.piece_core.specs.declared.leaves.Leaf.{Leaf}
use Rattle.piece_core.specs.Refusals.{back_refusal, take_refusal}
use Rattle.piece_core.specs.Book.{Ledger, Booked, Same, settled_of}
use Rattle.piece_core.proofs.Seen.{taken_of, Taken, free_of, Free, seen_of, Seen, no_refusal}
use Rattle.piece_core.proofs.Steps.{held_some, did_back, did_take, did_close, did_find, did_inline, did_split, Did, spare_same, spare_less, no_move}
use Rattle.piece_core.proofs.Settled.{settled_within}
use Rattle.piece_core.proofs.books.Book.close_as.Goals as goal

pub overflow_sub-self : goal.overflow_sub-self
overflow_sub-self c =
    let no = no_refusal (arc_value c.self.inside.task) _ c.self.inside.nodes.items _ c.args.worker c.args.sight.now _ c.refuse_event.ensures c.deref.ensures c.as_slice.ensures.value c.in_default.is in
    let t = seen_of (arc_value c.self.inside.task) c.self.inside.nodes.items c.args.worker c.args.sight.now no in
    (held_some (arc_value c.self.inside.task) c.self.inside.nodes.items c.self.inside.journal.items c.self.inside.held (vec_capacity c.self.inside.journal) c.args.sight.now.node t.leaf c.args.worker t.at t.live t.held c.self.invariant.0).0

pub push_reserved-requires : goal.push_reserved-requires
push_reserved-requires c =
    let no = no_refusal (arc_value c.self.inside.task) _ c.self.inside.nodes.items _ c.args.worker c.args.sight.now _ c.refuse_event.ensures c.deref.ensures c.as_slice.ensures.value c.in_default.is in
    let t = seen_of (arc_value c.self.inside.task) c.self.inside.nodes.items c.args.worker c.args.sight.now no in
    rw c.self.inside.journal.ok.0 ((held_some (arc_value c.self.inside.task) c.self.inside.nodes.items c.self.inside.journal.items c.self.inside.held (vec_capacity c.self.inside.journal) c.args.sight.now.node t.leaf c.args.worker t.at t.live t.held c.self.invariant.0).1)

pub next_live-self-inside-requires : goal.next_live-self-inside-requires
next_live-self-inside-requires c =
    let no = no_refusal (arc_value c.self.inside.task) _ c.self.inside.nodes.items _ c.args.worker c.args.sight.now _ c.refuse_event.ensures c.deref.ensures c.as_slice.ensures.value c.in_default.is in
    let t = seen_of (arc_value c.self.inside.task) c.self.inside.nodes.items c.args.worker c.args.sight.now no in
    subst (λ (ns : List Leaf). c.self.inside.settled ≤ length ns) (sym (c.as_slice-2.ensures.value ∙ c.set_status.ensures.items t.leaf t.at))
    (settled_within c.self.inside.nodes.items c.args.sight.now.node _ c.self.inside.settled c.self.invariant.1.settled_is)

pub invariant_of-self : goal.invariant_of-self
invariant_of-self c =
    let no = no_refusal (arc_value c.self.inside.task) _ c.self.inside.nodes.items _ c.args.worker c.args.sight.now _ c.refuse_event.ensures c.deref.ensures c.as_slice.ensures.value c.in_default.is in
    let t = seen_of (arc_value c.self.inside.task) c.self.inside.nodes.items c.args.worker c.args.sight.now no in
    let d = did_close (arc_value c.self.inside.task) c.self.inside.nodes.items c.self.inside.journal.items c.self.inside.held (vec_capacity c.self.inside.journal) (vec_capacity c.self.inside.journal) c.args.worker c.args.sight.now c.args.proof t c.self.invariant.0 (le_refl _) c.requires.closes in
    let moved = c.next_live-self-inside.ensures ∙ ap (λ (ns : List Leaf). c.self.inside.settled + settled_of (drop c.self.inside.settled ns)) (c.as_slice-2.ensures.value ∙ c.set_status.ensures.items t.leaf t.at) in
    rw (c.set_status.ensures.items t.leaf t.at, c.push_reserved.ensures.items, c.push_reserved.ensures.capacity, c.noted.ensures) (d.kept, d.indexed c.self.inside.firsts.items c.self.inside.settled _ c.self.inside.found c.self.invariant.1 moved)

pub returns : goal.returns
returns c =
    let no = no_refusal (arc_value c.self.inside.task) _ c.self.inside.nodes.items _ c.args.worker c.args.sight.now _ c.refuse_event.ensures c.deref.ensures c.as_slice.ensures.value c.in_default.is in
    let t = seen_of (arc_value c.self.inside.task) c.self.inside.nodes.items c.args.worker c.args.sight.now no in
    let d = did_close (arc_value c.self.inside.task) c.self.inside.nodes.items c.self.inside.journal.items c.self.inside.held (vec_capacity c.self.inside.journal) (vec_capacity c.self.inside.journal) c.args.worker c.args.sight.now c.args.proof t c.self.invariant.0 (le_refl _) c.requires.closes in
    rw (← c.self.view_is, c.set_status.ensures.items t.leaf t.at, c.push_reserved.ensures.items, c.push_reserved.ensures.capacity, c.noted.ensures)
    (no, record { task = refl; nodes = d.is; entries = refl }, spare_same (vec_capacity c.self.inside.journal) c.self.inside.held c.self.inside.journal.items _ ((held_some (arc_value c.self.inside.task) c.self.inside.nodes.items c.self.inside.journal.items c.self.inside.held (vec_capacity c.self.inside.journal) c.args.sight.now.node t.leaf c.args.worker t.at t.live t.held c.self.invariant.0).0), d.falls refl)
