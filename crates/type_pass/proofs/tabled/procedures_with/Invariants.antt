use Rattle.std.proofs.Common.{◌≡◌, ◌++◌, drop}
use Rattle.std.specs.Prelude.{flat_map}
use Rattle.type_pass.proofs.TableLaws.{procedure_piece}
use Rattle.type_pass.proofs.tabled.procedures_with.Given as goal

abbrev pub invariant-loop-decl : goal.invariant-loop-decl
invariant-loop-decl l = l.headings ++ flat_map (procedure_piece l.fn.types l.fn.implemented) (drop l.decl-index l.fn.ast.decls) ≡ flat_map (procedure_piece l.fn.types l.fn.implemented) l.fn.ast.decls
