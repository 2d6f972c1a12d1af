use Rattle.std.proofs.Common.{◌∙◌, ap}
use Rattle.type_pass.specs.Faults.{earlier, first}
use Rattle.type_pass.specs.Told.{head_faults_with}
use Rattle.type_pass.proofs.PassLaws.{all-head-faults}
use Rattle.type_pass.proofs.SpaceLaws.{faults-further, faults-done}
use Rattle.type_pass.proofs.heads.heads_fault.Goals as goal

pub loop-decl-preserved : goal.loop-decl-preserved
loop-decl-preserved c =
    faults-further (head_faults_with c.args.types.now c.args.known.now) c.args.ast.now.decls c.as_slice-decl-items.result.now c.loop-decl.decl-index c.decl-item.result c.loop-decl.found c.earlier-found.result _
    c.as_slice-decl-items.ensures c.loop-decl-test.true c.decl-item.is (c.earlier-found.ensures ∙ ap (earlier c.loop-decl.found) c.in_ok-more.ensures) c.loop-decl.invariant

pub returns : goal.returns
returns c =
    faults-done (head_faults_with c.args.types.now c.args.known.now) c.args.ast.now.decls c.as_slice-decl-items.result.now c.loop-decl.decl-index c.loop-decl.found _
    c.as_slice-decl-items.ensures c.loop-decl-test.false c.loop-decl.invariant
    ∙ ap first (all-head-faults c.args.ast.now c.args.types.now c.args.known.now c.requires.types c.requires.known)
