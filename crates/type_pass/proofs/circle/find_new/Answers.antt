use Rattle.std.proofs.Common.{sym, ◌∙◌}
use Rattle.type_pass.proofs.CircleLaws.{adds-known, adds-new}
use Rattle.type_pass.proofs.circle.find_new.Goals as goal

pub returns-then-is_done : goal.returns-then-is_done
returns-then-is_done c = adds-known c.args.graph.now c.args.node c.args.found.now.nodes.items c.args.found.now.seen.items c.as_slice.result.now c.requires.flagged c.as_slice.ensures.value (sym c.is_done.ensures ∙ c.if-is_done.true)

pub returns-else-is_done : goal.returns-else-is_done
returns-else-is_done c =
    adds-new c.find_node.result c.args.graph.now c.args.node c.args.found.now.nodes.items c.find_node.new.found.nodes.items c.args.found.now.seen.items c.as_slice.result.now c.find_node.new.found.seen.items
    c.requires.flagged c.requires.within c.as_slice.ensures.value (sym c.is_done.ensures ∙ c.if-is_done.false) c.find_node.ensures.nodes c.find_node.ensures.seen
