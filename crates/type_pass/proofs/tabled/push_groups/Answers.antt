use Rattle.std.proofs.Common.{◌++◌, refl, sym, ◌∙◌, ap}
use Rattle.type_pass.proofs.SpaceLaws.{list-done}
use Rattle.type_pass.proofs.TableLaws.{group_piece, groups-named}
use Rattle.type_pass.proofs.tabled.push_groups.Goals as goal

pub returns : goal.returns
returns c =
    list-done (group_piece c.args.types.now) c.args.groups.now c.args.groups.now c.loop-group.group-index c.loop-group.named _ refl c.loop-group-test.false c.loop-group.invariant
    ∙ ap (λ ns. c.args.named.now ++ ns) (sym (groups-named c.args.types.now c.args.groups.now))
