use Rattle.std.proofs.Common.{◌∙◌, ap}
use Rattle.std.specs.Prelude.{position}
use Rattle.std.specs.Str.{bytes_eq}
use Rattle.type_pass.specs.declared.tables.Tables.{Tables}
use Rattle.type_pass.proofs.IndexLaws.{function-place}
use Rattle.type_pass.proofs.known.Known.function_number.Goals as goal

pub returns : goal.returns
returns c =
    c.number.ensures ∙ function-place c.self.inside.tables.now.functions c.self.inside.functions c.args.text.now c.self.invariant.of_functions
    ∙ ap (λ (t : Tables). position (λ f. bytes_eq c.args.text.now f.name) t.functions) c.self.view_is
