use Rattle.std.proofs.Common.{◌≡◌, ◌++◌, map, drop, filter}
use Rattle.type_pass.proofs.indexed.body_numbers.Given as goal

abbrev pub invariant-loop-procedure : goal.invariant-loop-procedure
invariant-loop-procedure l = map (λ t. t.now) l.texts.items ++ map (λ p. p.name) (filter (λ p. p.has_body) (drop l.procedure-index l.procedures)) ≡ map (λ p. p.name) (filter (λ p. p.has_body) l.procedures)
