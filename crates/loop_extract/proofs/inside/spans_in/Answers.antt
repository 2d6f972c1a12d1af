use Rattle.std.proofs.Common.{map, ap, ◌∙◌}
use Rattle.std.proofs.lemmas.List.{take_all}
use Rattle.loop_extract.specs.Ascents.{ascends, head_in}
use Rattle.loop_extract.specs.Plans.{spans_in}
use Rattle.loop_extract.proofs.Keys.{spans_ascend}
use Rattle.loop_extract.proofs.inside.spans_in.Goals as goal

pub new-requires : goal.new-requires
new-requires c =
    let among = c.window-found.result.1.now in
    ap (ascends 0) (c.loop-head.invariant.numbers ∙ ap (map head_in) (c.loop-head.invariant.spans ∙ ap (spans_in c.args.scope) (take_all c.loop-head.head-index among c.loop-head-test.false)))
    ∙ spans_ascend c.args.scope among 0 c.window-found.ensures.ascend
