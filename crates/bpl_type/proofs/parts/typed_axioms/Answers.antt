use Rattle.bpl_type.proofs.ProgramMade.{axiom-faultless}
use Rattle.bpl_type.proofs.parts.typed_axioms.Goals as goal

pub typed_axiom-requires : goal.typed_axiom-requires
typed_axiom-requires c =
    axiom-faultless c.args.program.now c.as_slice-decl-items.result.now c.loop-decl.decl-index c.decl-item.result c.in-Axiom.axiom c.as_slice-decl-items.ensures c.loop-decl-test.true c.decl-item.is c.in-Axiom.is
