use Rattle.std.proofs.Common.{◌≡◌, ◌++◌, drop}
use Rattle.std.specs.Prelude.{flat_map}
use Rattle.type_pass.proofs.TableLaws.{constant_piece}
use Rattle.type_pass.proofs.tabled.all_constants.Given as goal

abbrev pub invariant-loop-decl : goal.invariant-loop-decl
invariant-loop-decl l = l.named ++ flat_map (constant_piece l.fn.types) (drop l.decl-index l.fn.ast.decls) ≡ flat_map (constant_piece l.fn.types) l.fn.ast.decls
