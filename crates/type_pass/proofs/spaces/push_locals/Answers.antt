use Rattle.std.proofs.Common.{◌++◌, map, sym, ◌∙◌, ap}
use Rattle.type_pass.proofs.SpaceLaws.{line_names, lines-names, list-done}
use Rattle.type_pass.proofs.spaces.push_locals.Goals as goal

pub returns : goal.returns
returns c =
    let ls = c.args.body.now.locals in
    list-done line_names ls c.as_slice-line-items.result.now c.loop-line.line-index (map (λ n. n.now) c.loop-line.names.items) _ c.as_slice-line-items.ensures c.loop-line-test.false c.loop-line.invariant
    ∙ ap (λ ns. map (λ n. n.now) c.args.names.now.items ++ ns) (sym (lines-names ls))
