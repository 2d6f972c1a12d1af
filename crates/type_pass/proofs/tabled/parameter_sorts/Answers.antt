use Rattle.std.proofs.Common.{◌++◌, length, replicate, refl, sym, ◌∙◌, ap}
use Rattle.type_pass.proofs.SpaceLaws.{list-done, list-further}
use Rattle.type_pass.proofs.TableLaws.{sort_piece, parameters-sorts}
use Rattle.type_pass.proofs.tabled.parameter_sorts.Goals as goal

pub loop-group-preserved : goal.loop-group-preserved
loop-group-preserved c =
    list-further (sort_piece c.args.types.now) c.args.groups.now c.args.groups.now c.loop-group.group-index c.group-item.result c.loop-group.sorts c.push_sorts.new.sorts _ refl c.loop-group-test.true c.group-item.is
    (c.in_ok-push_sorts.ensures ∙ ap (λ ns. c.loop-group.sorts ++ replicate (length ns) c.sort_of.result) c.as_slice.ensures ∙ ap (λ s. c.loop-group.sorts ++ replicate (length c.group-item.result.names) s) c.sort_of.ensures)
    c.loop-group.invariant

pub returns : goal.returns
returns c =
    list-done (sort_piece c.args.types.now) c.args.groups.now c.args.groups.now c.loop-group.group-index c.loop-group.sorts _ refl c.loop-group-test.false c.loop-group.invariant
    ∙ sym (parameters-sorts c.args.types.now c.args.groups.now)
