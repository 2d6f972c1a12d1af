use Rattle.std.proofs.Common.{sym, ◌∙◌}
use Rattle.type_pass.proofs.TableLaws.{named-word}
use Rattle.type_pass.proofs.meaning.operator_named.Goals as goal

pub returns-in-Some-word_named : goal.returns-in-Some-word_named
returns-in-Some-word_named c = sym (named-word c.args.text.now c.in-Some-word_named.builtin (sym c.unary_named.ensures ∙ c.in-None.is) (sym c.word_named.ensures ∙ c.in-Some-word_named.is))
