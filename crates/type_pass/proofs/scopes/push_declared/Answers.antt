use Rattle.std.proofs.Common.{◌++◌, map, ap, ◌∙◌}
use Rattle.std.proofs.lemmas.Result.{on_ok_weaker}
use Rattle.hy_val.specs.declared.sort.Sort.{Sort}
use Rattle.type_pass.specs.Tabled.{named_as}
use Rattle.type_pass.proofs.BodyLaws.{names-named}
use Rattle.type_pass.proofs.scopes.push_declared.Goals as goal

pub returns : goal.returns
returns c =
    on_ok_weaker c.push_names.result
    (λ pushed. pushed ∙ ap (λ (s : Sort). c.args.named.now ++ map (named_as s) c.args.names.now) c.sort_of.ensures ∙ ap (λ ns. c.args.named.now ++ ns) (names-named c.args.types.now c.args.sort.now c.args.names.now))
    c.push_names.ensures
