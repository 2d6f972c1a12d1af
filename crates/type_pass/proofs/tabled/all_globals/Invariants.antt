use Rattle.std.proofs.Common.{◌≡◌, ◌++◌, drop}
use Rattle.std.specs.Prelude.{flat_map}
use Rattle.type_pass.proofs.TableLaws.{global_piece}
use Rattle.type_pass.proofs.tabled.all_globals.Given as goal

abbrev pub invariant-loop-decl : goal.invariant-loop-decl
invariant-loop-decl l = l.named ++ flat_map (global_piece l.fn.types) (drop l.decl-index l.fn.ast.decls) ≡ flat_map (global_piece l.fn.types) l.fn.ast.decls
