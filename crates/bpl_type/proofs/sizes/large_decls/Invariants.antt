use Rattle.std.proofs.Common.{◌≡◌, drop}
use Rattle.std.specs.Prelude.{flat_map}
use Rattle.type_pass.specs.Faults.{earlier, first}
use Rattle.bpl_type.specs.Sizes.{heavy_decl}
use Rattle.bpl_type.specs.Tallies.{templates_of}
use Rattle.bpl_type.proofs.sizes.large_decls.Given as goal

abbrev pub invariant-loop-decl : goal.invariant-loop-decl
invariant-loop-decl l =
    earlier l.so_far (first (flat_map (heavy_decl l.weighing.most (templates_of l.weighing.known.now l.weighing.templates.now) l.weighing.known.now l.types) (drop l.decl-index l.decls)))
    ≡ first (flat_map (heavy_decl l.weighing.most (templates_of l.weighing.known.now l.weighing.templates.now) l.weighing.known.now l.types) l.decls)
