use Rattle.std.proofs.Common.{◌∷◌, take, rules, sym, ◌∙◌, ap}
use Rattle.std.proofs.lemmas.List.{take_rest}
use Rattle.trace_text.specs.Words.{parts}
use Rattle.trace_text.proofs.Cuts.{cut_at, cut_none}
use Rattle.trace_text.proofs.reading.parts.cut.Goals as goal

pub returns-in-Some : goal.returns-in-Some
returns-in-Some c =
    cut_at c.args.byte c.args.text.now c.in-Some.i (search rules) (search rules) (search rules)
    ∙ ap (λ rest. take c.in-Some.i c.args.text.now ∷ parts c.args.byte rest) (sym (take_rest c.args.text.now _))

pub returns-in-None : goal.returns-in-None
returns-in-None c = cut_none c.args.byte c.args.text.now (search rules)
