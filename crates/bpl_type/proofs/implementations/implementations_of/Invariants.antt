use Rattle.std.proofs.Common.{◌≡◌, map, take}
use Rattle.std.specs.Prelude.{flat_map}
use Rattle.type_pass.specs.Declarations.{implementation_of}
use Rattle.bpl_type.proofs.implementations.implementations_of.Given as goal

abbrev pub invariant-loop-decl : goal.invariant-loop-decl
invariant-loop-decl l = map (λ i. i.now) l.found.items ≡ flat_map implementation_of (take l.decl-index l.decl-items)
