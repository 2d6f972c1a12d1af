use Rattle.std.proofs.Common.{false, length, get_or, refl, ◌∙◌, ap, arith}
use Rattle.type_pass.proofs.CircleLaws.{flagged-start, searching-start, searched}
use Rattle.type_pass.proofs.circle.is_on_circle.Goals as goal

pub find_edges-requires-clause-flagged : goal.find_edges-requires-clause-flagged
find_edges-requires-clause-flagged c = flagged-start c.args.graph.now c.new.result.items c.in_ok-seen.seen.items _ c.new.ensures.items c.in_ok-seen.ensures refl

pub find_rest-requires-clause-searching : goal.find_rest-requires-clause-searching
find_rest-requires-clause-searching c = searching-start c.args.graph.now c.args.node c.new.result.items c.find_edges.new.found.nodes.items c.find_edges.new.found.seen.items c.new.ensures.items c.in_ok-find_edges.ensures

pub returns : goal.returns
returns c =
    c.is_done.ensures ∙ ap (λ s. get_or s c.args.node false) c.as_slice.ensures.value
    ∙ searched c.args.graph.now c.args.node (length c.find_rest.new.found.nodes.items) c.find_rest.new.found.nodes.items c.find_rest.new.found.seen.items c.in_ok-find_rest.ensures (omega arith)
