use Rattle.std.proofs.Common.{get_or, subst, List, ℕ}
use Rattle.std.proofs.lemmas.List.{take_all}
use Rattle.type_pass.specs.Circles.{Reaching}
use Rattle.type_pass.proofs.CircleLaws.{reaching-none, reaching-step, in-at}
use Rattle.type_pass.proofs.circle.find_all.Goals as goal

pub loop-node-init : goal.loop-node-init
loop-node-init c = reaching-none c.args.graph.now c.args.nodes.now c.args.found.now.nodes.items c.args.found.now.seen.items c.requires.flagged

pub find_new-requires-clause-within : goal.find_new-requires-clause-within
find_new-requires-clause-within c = c.requires.within (get_or c.args.nodes.now c.loop-node.node-index 0) (in-at c.args.nodes.now c.loop-node.node-index c.loop-node-test.true)

pub loop-node-preserved : goal.loop-node-preserved
loop-node-preserved c =
    reaching-step c.args.graph.now c.args.nodes.now c.args.found.now.nodes.items c.loop-node.found.nodes.items c.find_new.new.found.nodes.items c.loop-node.found.seen.items c.find_new.new.found.seen.items
    c.loop-node.node-index c.loop-node-test.true c.loop-node.invariant c.in_ok-find_new.ensures

pub returns : goal.returns
returns c =
    subst (λ (ns : List ℕ). Reaching c.args.graph.now c.args.nodes.now c.args.found.now.nodes.items c.loop-node.found.nodes.items c.loop-node.found.seen.items ns)
    (take_all c.loop-node.node-index c.args.nodes.now c.loop-node-test.false) c.loop-node.invariant
