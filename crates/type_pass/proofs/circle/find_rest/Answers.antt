use Rattle.std.proofs.Common.{◌<◌, ◌≤◌, length, ◌∙◌, arith}
use Rattle.std.proofs.lemmas.List.{get_or_default}
use Rattle.type_pass.proofs.CircleLaws.{searching-more, searching-all, few-flagged}
use Rattle.type_pass.proofs.circle.find_rest.Goals as goal

pub loop-head-preserved : goal.loop-head-preserved
loop-head-preserved c =
    let lt : c.loop-head.head < length c.loop-head.found.nodes.items = omega (arith, c.loop-head.found.nodes.ok.0) in
    searching-more c.args.graph.now c.args.node c.loop-head.head c.index-next.result.now c.loop-head.found.nodes.items c.find_edges.new.found.nodes.items c.loop-head.found.seen.items c.find_edges.new.found.seen.items
    c.loop-head.invariant lt (c.index-next.ensures ∙ get_or_default c.loop-head.found.nodes.items c.loop-head.head c.index-next.result.now 0 lt) c.in_ok-find_edges.ensures

pub loop-head-smaller : goal.loop-head-smaller
loop-head-smaller c =
    let few : length c.loop-head.found.nodes.items ≤ length c.args.graph.now = few-flagged c.args.graph.now c.loop-head.found.nodes.items c.loop-head.found.seen.items c.loop-head.invariant.flagged in
    omega (arith, c.loop-head.found.nodes.ok.0)

pub returns : goal.returns
returns c =
    let le : length c.loop-head.found.nodes.items ≤ c.loop-head.head = omega (arith, c.loop-head.found.nodes.ok.0) in
    searching-all c.args.graph.now c.args.node c.loop-head.head c.loop-head.found.nodes.items c.loop-head.found.seen.items le c.loop-head.invariant
