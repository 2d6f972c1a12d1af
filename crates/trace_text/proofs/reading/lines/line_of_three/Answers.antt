use Rattle.std.proofs.Common.{◌≡◌, subst}
use Rattle.std.specs.Prelude.{IfOk, Option}
use Rattle.trace_text.specs.Words.{is_identifier}
use Rattle.trace_text.specs.declared.reading.lines.Line.{Line}
use Rattle.trace_text.proofs.Lines.{named_by}
use Rattle.trace_text.proofs.reading.lines.line_of_three.Goals as goal

pub returns-in-Some : goal.returns-in-Some
returns-in-Some c =
    let e = named_by (is_identifier c.args.name.now) c.args.mark.now c.args.name.now c.in-Some.name.now c.args.text.now c.in-Some.ensures in
    subst (λ (y : Option Line). IfOk c.named_line.result (λ l. l ≡ y)) e c.named_line.ensures
