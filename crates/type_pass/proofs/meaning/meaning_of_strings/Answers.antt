use Rattle.std.proofs.Common.{sym}
use Rattle.type_pass.proofs.TableLaws.{two-strings}
use Rattle.type_pass.proofs.meaning.meaning_of_strings.Goals as goal

pub returns-in-len2-up : goal.returns-in-len2-up
returns-in-len2-up c = sym (two-strings c.args.strings.now c.in-len2-up.len_at_least)
