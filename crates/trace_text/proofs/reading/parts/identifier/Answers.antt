use Rattle.std.proofs.Common.{◌≡◌, true, rules}
use Rattle.trace_text.specs.Words.{is_identifier}
use Rattle.trace_text.proofs.Ascii.{identifier_is_utf8}
use Rattle.trace_text.proofs.reading.parts.identifier.Goals as goal

pub returns-in-Err : goal.returns-in-Err
returns-in-Err c =
    let yes : is_identifier c.args.text.now ≡ true = search rules in
    absurd (c.in-Err.ensures.cases.0 (identifier_is_utf8 c.args.text.now yes))
