use Rattle.std.proofs.Common.{refl, sym, subst}
use Rattle.type_pass.specs.Circles.{IsClosed}
use Rattle.type_pass.specs.Declarations.{functions}
use Rattle.type_pass.specs.Graphs.{Graph}
use Rattle.type_pass.proofs.UsedNumbers.{circle-ok, uses-closed}
use Rattle.type_pass.proofs.uses.circle_fault.Goals as goal

pub cyclic_name-requires : goal.cyclic_name-requires
cyclic_name-requires c = subst (λ (g : Graph). IsClosed g) (sym c.requires) (uses-closed (functions c.args.ast.now))

pub returns : goal.returns
returns c =
    circle-ok c.cyclic_name.result c.args.ast.now c.args.graph.now c.args.graph.now c.in_ok-names.names.items c.as_slice.result.now
    refl c.as_slice.ensures.value c.requires c.in_ok-names.ensures c.cyclic_name.ensures
