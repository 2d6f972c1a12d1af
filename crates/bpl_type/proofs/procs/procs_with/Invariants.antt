use Rattle.std.proofs.Common.{◌≡◌, ◌++◌, map, drop}
use Rattle.std.specs.Prelude.{flat_map}
use Rattle.type_pass.specs.Declarations.{procedure_of, procedures}
use Rattle.bpl_type.specs.TypedOf.{proc_of}
use Rattle.bpl_type.proofs.procs.procs_with.Given as goal

abbrev pub invariant-loop-decl : goal.invariant-loop-decl
invariant-loop-decl l = l.made ++ map (proc_of l.fn.program.ast.now) (flat_map procedure_of (drop l.decl-index l.fn.program.ast.now.decls)) ≡ map (proc_of l.fn.program.ast.now) (procedures l.fn.program.ast.now)
