use Rattle.std.proofs.Common.{◌≡◌, ◌++◌, map, drop, filter}
use Rattle.std.specs.Prelude.{flat_map}
use Rattle.type_pass.specs.Declarations.{is_builtin_attribute}
use Rattle.type_pass.specs.Meanings.{strings_of, builtin_strings}
use Rattle.type_pass.proofs.meaning.builtin_strings.Given as goal

abbrev pub invariant-loop-attribute : goal.invariant-loop-attribute
invariant-loop-attribute l = map (λ t. t.now) l.strings.items ++ flat_map strings_of (filter is_builtin_attribute (drop l.attribute-index l.fn.function.attributes)) ≡ builtin_strings l.fn.function
