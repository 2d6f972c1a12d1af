use Rattle.std.proofs.Common.{nat_le, slice_get, sym, ap, ◌∙◌}
use Rattle.flat_prog.specs.Caps.{kind_of}
use Rattle.call_tree.specs.declared.caps.Tally.{Tally}
use Rattle.call_tree.proofs.Capping.{may_loop}
use Rattle.call_tree.proofs.caps.allows.Goals as goal

pub returns-then-is_loop : goal.returns-then-is_loop
returns-then-is_loop c = λ passed is.
    ap (λ (t : Tally). nat_le t.row c.args.bound) is ∙ may_loop c.args.bound (kind_of (slice_get c.args.flat.now.procs c.args.proc)) c.args.proc passed (sym c.is_loop.ensures ∙ c.if-is_loop.true)
