use Rattle.std.proofs.Common.{◌≡◌, map, take}
use Rattle.std.specs.Prelude.{flat_map}
use Rattle.type_pass.specs.Declarations.{function_of}
use Rattle.bpl_type.proofs.templates.functions_of.Given as goal

abbrev pub invariant-loop-decl : goal.invariant-loop-decl
invariant-loop-decl l = map (λ f. f.now) l.found.items ≡ flat_map function_of (take l.decl-index l.decl-items)
