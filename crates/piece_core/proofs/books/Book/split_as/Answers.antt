use Rattle.std.specs.Prelude.{vec_capacity, Option}
use Rattle.std.specs.Arc.{arc_value}
use Rattle.std.proofs.Common.{◌≡◌, ℕ, ◌+◌, ◌-◌, ◌<◌, ◌≤◌, length, List, [], ◌∷◌, ◌++◌, drop, set, Some, None, arith, sym, ap, ◌∙◌, subst, length-append, refl, le_refl}
use Rattle.flat_prog.specs.Nodes.{run_of}
use Rattle.call_tree.specs.declared.piece.Decision2.TheVariants.{Must, Avoid}
use Rattle.piece_core.specs.declared.leaves.Leaf.{Leaf}
use Rattle.piece_core.specs.Refusals.{back_refusal, take_refusal}
use Rattle.piece_core.specs.Book.{Ledger, Booked, Same, settled_of}
use Rattle.piece_core.proofs.Seen.{taken_of, Taken, free_of, Free, seen_of, Seen, no_refusal}
use Rattle.piece_core.proofs.Steps.{held_some, did_back, did_take, did_close, did_find, did_inline, did_split, half_leaf, Did, spare_same, spare_less, no_move}
use Rattle.piece_core.proofs.Parting.{parted}
use Rattle.piece_core.proofs.Settled.{settled_below}
use Rattle.piece_core.proofs.books.Book.split_as.Goals as goal

pub push_reserved-requires : goal.push_reserved-requires
push_reserved-requires c =
    let room = c.in-Ok-room_for_one.ensures.room in
    let long = c.room_for_one.new.journal.ok.0 in
    let same = ap length c.room_for_one.ensures.same in
    omega arith

pub next_live-self-inside-requires : goal.next_live-self-inside-requires
next_live-self-inside-requires c =
    let no = no_refusal (arc_value c.self.inside.task) _ c.self.inside.nodes.items _ c.args.worker c.args.sight.now _ c.refuse_event.ensures c.deref.ensures c.as_slice.ensures.value c.in_default.is in
    let t = seen_of (arc_value c.self.inside.task) c.self.inside.nodes.items c.args.worker c.args.sight.now no in
    subst (λ (ns : List Leaf). c.self.inside.settled ≤ length ns) (sym (c.as_slice-2.ensures.value ∙ c.in-Ok-put_halves.ensures.ok t.leaf t.at))
    (settled_below c.self.inside.nodes.items c.args.sight.now.node _ _ c.self.inside.settled c.self.invariant.1.settled_is)

pub invariant_of-self-2 : goal.invariant_of-self-2
invariant_of-self-2 c =
    let no = no_refusal (arc_value c.self.inside.task) _ c.self.inside.nodes.items _ c.args.worker c.args.sight.now _ c.refuse_event.ensures c.deref.ensures c.as_slice.ensures.value c.in_default.is in
    let t = seen_of (arc_value c.self.inside.task) c.self.inside.nodes.items c.args.worker c.args.sight.now no in
    let d = did_split (arc_value c.self.inside.task) c.self.inside.nodes.items c.self.inside.journal.items c.self.inside.held (vec_capacity c.self.inside.journal) _ c.args.worker c.args.sight.now c.args.site.now t c.self.invariant.0 c.in-Ok-room_for_one.ensures.room c.requires.may in
    let moved = c.next_live-self-inside.ensures ∙ ap (λ (ns : List Leaf). c.self.inside.settled + settled_of (drop c.self.inside.settled ns)) (c.as_slice-2.ensures.value ∙ (c.in-Ok-put_halves.ensures.ok t.leaf t.at
    ∙ parted c.self.inside.nodes.items c.args.sight.now.node t.leaf _ c.args.site.now _ (half_leaf c.args.sight.now (Some c.args.worker) c.args.site.now Must) _ (half_leaf c.args.sight.now None c.args.site.now Avoid) c.in-Ok.ensures.0 c.in-Ok.ensures.2 c.in-Ok.ensures.3)) in
    rw (c.in-Ok-put_halves.ensures.ok t.leaf t.at, c.in-Ok-put_halves.ensures.firsts, c.push_reserved.ensures.items, c.push_reserved.ensures.capacity, c.room_for_one.ensures.same, c.noted.ensures, c.in-Ok.ensures.0, c.in-Ok.ensures.1, c.in-Ok.ensures.2, c.in-Ok.ensures.3) (d.kept, d.indexed c.self.inside.firsts.items c.self.inside.settled _ c.self.inside.found c.self.invariant.1 moved)

pub returns : goal.returns
returns c =
    let no = no_refusal (arc_value c.self.inside.task) _ c.self.inside.nodes.items _ c.args.worker c.args.sight.now _ c.refuse_event.ensures c.deref.ensures c.as_slice.ensures.value c.in_default.is in
    let t = seen_of (arc_value c.self.inside.task) c.self.inside.nodes.items c.args.worker c.args.sight.now no in
    let d = did_split (arc_value c.self.inside.task) c.self.inside.nodes.items c.self.inside.journal.items c.self.inside.held (vec_capacity c.self.inside.journal) _ c.args.worker c.args.sight.now c.args.site.now t c.self.invariant.0 c.in-Ok-room_for_one.ensures.room c.requires.may in
    rw (← c.self.view_is, c.in-Ok-put_halves.ensures.ok t.leaf t.at, c.push_reserved.ensures.items, c.push_reserved.ensures.capacity, c.room_for_one.ensures.same, c.noted.ensures, c.in-Ok.ensures.0, c.in-Ok.ensures.1, c.in-Ok.ensures.2, c.in-Ok.ensures.3) (no, record { task = refl; nodes = d.is; entries = refl }, c.len-first.ensures ∙ c.self.inside.nodes.ok.0, ap (λ n. n + 1) (c.len-first.ensures ∙ c.self.inside.nodes.ok.0), d.falls refl)
