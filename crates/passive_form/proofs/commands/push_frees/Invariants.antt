use Rattle.std.specs.Prelude.{◌≡◌, drop}
use Rattle.passive_form.specs.Drafts.{with_frees}
use Rattle.passive_form.proofs.commands.push_frees.Given as goal

abbrev pub invariant-loop-var : goal.invariant-loop-var
invariant-loop-var l = with_frees l.program l.proc l.initial.draft l.vars ≡ with_frees l.program l.proc l.draft (drop l.var-index l.vars)
