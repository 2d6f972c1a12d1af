use Rattle.std.proofs.Common.{◌≡◌, map, take}
use Rattle.type_pass.proofs.indexed.procedure_numbers.Given as goal

abbrev pub invariant-loop-procedure : goal.invariant-loop-procedure
invariant-loop-procedure l = map (λ t. t.now) l.texts.items ≡ map (λ p. p.name) (take l.procedure-index l.procedures)
