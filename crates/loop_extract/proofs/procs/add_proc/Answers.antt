use Rattle.std.proofs.Common.{ℕ, ◌++◌, ◌∷◌, [], List, ap, ◌∙◌}
use Rattle.flat_prog.specs.declared.proc.FlatProc.{FlatProc}
use Rattle.extract_def.specs.Extraction.{proc_of}
use Rattle.extract_def.specs.declared.scope.Scope.TheVariants.{Whole}
use Rattle.extract_def.specs.declared.origin.Origin.{Origin}
use Rattle.loop_extract.proofs.Wholes.{loops_are, loop_origins_are}
use Rattle.loop_extract.proofs.procs.add_proc.Goals as goal

pub returns-clause-sources : goal.returns-clause-sources
returns-clause-sources c =
    c.in_ok-push.ensures.ok ∙ ap (λ (q : FlatProc). c.args.made.now.sources ++ q ∷ []) (c.in_ok-whole.ensures.proc ∙ ap (λ (n : ℕ). proc_of c.args.prog.now n c.args.proc.now Whole) c.in_ok-plan.ensures.number)

pub returns-clause-loops : goal.returns-clause-loops
returns-clause-loops c =
    c.in_ok-add_loops.ensures.loops ∙ ap (λ (qs : List FlatProc). c.args.made.now.loops ++ qs) (loops_are c.args.prog.now c.args.proc.now c.in_ok-plan.plan c.args.number c.in_ok-plan.ensures.is_plan c.in_ok-plan.ensures.number)

pub returns-clause-loop_origins : goal.returns-clause-loop_origins
returns-clause-loop_origins c =
    c.in_ok-add_loops.ensures.origins ∙ ap (λ (os : List (List Origin)). c.args.made.now.loop_origins ++ os) (loop_origins_are c.args.prog.now c.args.proc.now c.in_ok-plan.plan c.in_ok-plan.ensures.is_plan)
