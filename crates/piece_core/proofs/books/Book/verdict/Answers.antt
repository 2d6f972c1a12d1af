use Rattle.std.specs.Prelude.{None}
use Rattle.std.specs.Arc.{arc_value}
use Rattle.std.proofs.Common.{◌≡◌, ◌<◌, Bool, List, length, Some, refl, sym, ap, ap₂, ◌∙◌, subst}
use Rattle.piece_core.specs.Evidence.{shapes_of}
use Rattle.piece_core.specs.Book.{first_found, all_closed, settled_of, verdict_with}
use Rattle.piece_core.proofs.Settled.{before_end, past_end, some_live}
use Rattle.piece_core.proofs.Verdict.{bug_of, safe_of, closed_of}
use Rattle.piece_core.proofs.books.Book.verdict.Goals as goal

pub returns-in-Some-clause-right : goal.returns-in-Some-clause-right
returns-in-Some-clause-right c =
    rw (← c.self.view_is) (bug_of c.whole_partial_runs_are_full_trees.ensures (arc_value c.self.inside.task) c.self.inside.nodes.items c.self.inside.journal.items c.in-Some.node
    (sym c.self.invariant.1.found_is ∙ c.in-Some.is) c.self.invariant.0.sound)

pub returns-then-self-len-clause-is : goal.returns-then-self-len-clause-is
returns-then-self-len-clause-is c =
    let open_leaf = some_live c.self.inside.nodes.items (before_end c.self.inside.nodes.items c.self.inside.settled _ c.self.invariant.1.settled_is (c.len.ensures ∙ c.self.inside.nodes.ok.0) c.if-self-len.true) in
    rw (← c.self.view_is) (sym (ap₂ verdict_with (sym c.self.invariant.1.found_is ∙ c.in_default.is) open_leaf))

pub returns-else-self-len-clause-is : goal.returns-else-self-len-clause-is
returns-else-self-len-clause-is c =
    let closed = closed_of (arc_value c.self.inside.task) c.self.inside.nodes.items c.self.inside.journal.items (sym c.self.invariant.1.found_is ∙ c.in_default.is)
    (past_end c.self.inside.nodes.items c.self.inside.settled _ c.self.invariant.1.settled_is (c.len.ensures ∙ c.self.inside.nodes.ok.0) c.if-self-len.false) c.self.invariant.0.sound in
    rw (← c.self.view_is) (sym (ap₂ verdict_with (sym c.self.invariant.1.found_is ∙ c.in_default.is) closed))

pub returns-else-self-len-clause-right : goal.returns-else-self-len-clause-right
returns-else-self-len-clause-right c =
    let closed = closed_of (arc_value c.self.inside.task) c.self.inside.nodes.items c.self.inside.journal.items (sym c.self.invariant.1.found_is ∙ c.in_default.is)
    (past_end c.self.inside.nodes.items c.self.inside.settled _ c.self.invariant.1.settled_is (c.len.ensures ∙ c.self.inside.nodes.ok.0) c.if-self-len.false) c.self.invariant.0.sound in
    rw (← c.self.view_is) (safe_of c.full_trees_have_partial_runs.ensures c.refutation_is_sound.ensures (arc_value c.self.inside.task) c.self.inside.nodes.items c.self.inside.journal.items c.self.invariant.0.flat_is closed c.self.invariant.0.sound)
