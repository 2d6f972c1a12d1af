use Rattle.std.proofs.Common.{◌≡◌, drop}
use Rattle.std.specs.Prelude.{flat_map}
use Rattle.type_pass.specs.Faults.{earlier, first}
use Rattle.type_pass.specs.Told.{head_faults_with}
use Rattle.type_pass.proofs.heads.heads_fault.Given as goal

-- what was found comes before what the rest has
abbrev pub invariant-loop-decl : goal.invariant-loop-decl
invariant-loop-decl l = earlier l.found (first (flat_map (head_faults_with l.fn.types l.fn.known) (drop l.decl-index l.fn.ast.decls))) ≡ first (flat_map (head_faults_with l.fn.types l.fn.known) l.fn.ast.decls)
