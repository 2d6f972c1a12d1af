use Rattle.std.proofs.Common.{◌≡◌, ◌++◌, drop}
use Rattle.std.specs.Prelude.{flat_map}
use Rattle.type_pass.proofs.UsedNumbers.{function_piece}
use Rattle.type_pass.proofs.uses.use_graph.Given as goal

abbrev pub invariant-loop-decl : goal.invariant-loop-decl
invariant-loop-decl l = l.graph.items ++ flat_map (function_piece l.fn.numbers) (drop l.decl-index l.fn.ast.decls) ≡ flat_map (function_piece l.fn.numbers) l.fn.ast.decls
