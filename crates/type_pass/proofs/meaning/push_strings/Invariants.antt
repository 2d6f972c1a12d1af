use Rattle.std.proofs.Common.{◌≡◌, ◌++◌, map, drop, filter}
use Rattle.type_pass.specs.Meanings.{inside, is_string, strings_of}
use Rattle.type_pass.proofs.meaning.push_strings.Given as goal

abbrev pub invariant-loop-token : goal.invariant-loop-token
invariant-loop-token l = map (λ t. t.now) l.strings.items ++ map inside (filter is_string (drop l.token-index l.fn.attribute.tokens)) ≡ map (λ t. t.now) l.initial.strings.items ++ strings_of l.fn.attribute
