use Rattle.std.specs.Prelude.{vec_capacity, Option}
use Rattle.std.specs.Arc.{arc_value}
use Rattle.std.proofs.Common.{◌≡◌, ℕ, ◌+◌, ◌-◌, ◌<◌, ◌≤◌, length, List, [], ◌∷◌, ◌++◌, drop, set, Some, None, arith, sym, ap, ◌∙◌, subst, length-append, refl, le_refl}
use Rattle.flat_prog.specs.Nodes.{run_of}
use Rattle.piece_core.specs.declared.leaves.Leaf.{Leaf}
use Rattle.piece_core.specs.Refusals.{back_refusal, take_refusal}
use Rattle.piece_core.specs.Book.{Ledger, Booked, Same, settled_of}
use Rattle.piece_core.proofs.Seen.{taken_of, Taken, free_of, Free, seen_of, Seen, no_refusal}
use Rattle.piece_core.proofs.Steps.{held_some, did_back, did_take, did_close, did_find, did_inline, did_split, Did, spare_same, spare_less, no_move}
use Rattle.piece_core.proofs.books.Book.back.Goals as goal

pub overflow_sub-self : goal.overflow_sub-self
overflow_sub-self c =
    let no = ap (λ (ns : List Leaf). back_refusal ns c.args.node) (sym c.as_slice.ensures.value) ∙ sym c.refuse_back.ensures ∙ c.in_default.is in
    let t = taken_of c.self.inside.nodes.items c.args.node no in
    (held_some (arc_value c.self.inside.task) c.self.inside.nodes.items c.self.inside.journal.items c.self.inside.held (vec_capacity c.self.inside.journal) c.args.node t.leaf t.by t.at t.live t.held c.self.invariant.0).0

pub push_reserved-requires : goal.push_reserved-requires
push_reserved-requires c =
    let no = ap (λ (ns : List Leaf). back_refusal ns c.args.node) (sym c.as_slice.ensures.value) ∙ sym c.refuse_back.ensures ∙ c.in_default.is in
    let t = taken_of c.self.inside.nodes.items c.args.node no in
    rw c.self.inside.journal.ok.0 ((held_some (arc_value c.self.inside.task) c.self.inside.nodes.items c.self.inside.journal.items c.self.inside.held (vec_capacity c.self.inside.journal) c.args.node t.leaf t.by t.at t.live t.held c.self.invariant.0).1)

pub invariant_of-self : goal.invariant_of-self
invariant_of-self c =
    let no = ap (λ (ns : List Leaf). back_refusal ns c.args.node) (sym c.as_slice.ensures.value) ∙ sym c.refuse_back.ensures ∙ c.in_default.is in
    let t = taken_of c.self.inside.nodes.items c.args.node no in
    let d = did_back (arc_value c.self.inside.task) c.self.inside.nodes.items c.self.inside.journal.items c.self.inside.held (vec_capacity c.self.inside.journal) (vec_capacity c.self.inside.journal) c.args.worker c.args.node t c.self.invariant.0 (le_refl _) in
    rw (c.set_holder.ensures t.leaf t.at, c.push_reserved.ensures.items, c.push_reserved.ensures.capacity, c.noted.ensures) (d.kept, d.indexed c.self.inside.firsts.items c.self.inside.settled c.self.inside.settled c.self.inside.found c.self.invariant.1 (no_move c.self.inside.nodes.items c.self.inside.journal.items c.self.inside.firsts.items c.self.inside.settled c.self.inside.found c.args.node t.leaf (record t.leaf { holder = None }) c.self.invariant.1 t.at t.live t.live))

pub returns : goal.returns
returns c =
    let no = ap (λ (ns : List Leaf). back_refusal ns c.args.node) (sym c.as_slice.ensures.value) ∙ sym c.refuse_back.ensures ∙ c.in_default.is in
    let t = taken_of c.self.inside.nodes.items c.args.node no in
    let d = did_back (arc_value c.self.inside.task) c.self.inside.nodes.items c.self.inside.journal.items c.self.inside.held (vec_capacity c.self.inside.journal) (vec_capacity c.self.inside.journal) c.args.worker c.args.node t c.self.invariant.0 (le_refl _) in
    rw (← c.self.view_is, c.set_holder.ensures t.leaf t.at, c.push_reserved.ensures.items, c.push_reserved.ensures.capacity, c.noted.ensures)
    (no, record { task = refl; nodes = d.is; entries = refl }, spare_same (vec_capacity c.self.inside.journal) c.self.inside.held c.self.inside.journal.items _ ((held_some (arc_value c.self.inside.task) c.self.inside.nodes.items c.self.inside.journal.items c.self.inside.held (vec_capacity c.self.inside.journal) c.args.node t.leaf t.by t.at t.live t.held c.self.invariant.0).0), d.stays refl)
