use Rattle.std.proofs.Common.{List, ℕ, sym, ap, ◌∙◌, subst, slice_index_or}
use Rattle.flat_prog.specs.Nodes.{run_of}
use Rattle.flat_prog.specs.declared.run.RunNode.{RunNode}
use Rattle.call_tree.specs.Pieces.{reaches}
use Rattle.call_tree.specs.Descent.{IsRunTree}
use Rattle.call_tree.proofs.Capping.{same_index}
use Rattle.call_tree.proofs.Downward.{at_root, at_next, at_none, at_end}
use Rattle.call_tree.proofs.reach.reaches.Goals as goal

pub loop-site-init : goal.loop-site-init
loop-site-init c =
    at_root c.args.flat.now c.nodes-nodes.result.now c.sites-sites.result.now c.nodes-nodes.ensures.kept
    (subst (λ (ns : List RunNode). IsRunTree c.args.flat.now (run_of ns)) (sym c.nodes-nodes.ensures.value) c.requires)

pub loop-site-preserved : goal.loop-site-preserved
loop-site-preserved c =
    at_next c.args.flat.now c.nodes-nodes.result.now c.sites-sites.result.now c.loop-site.site-index c.loop-site.at (slice_index_or c.sites-sites.result.now c.loop-site.site-index 0) c.in-Some.next c.child_of.result
    c.sites_are_passed_once.ensures c.nodes_are_runs.ensures c.consts.ensures.kept c.nodes-nodes.ensures.kept c.loop-site.invariant c.loop-site-test.true (same_index c.sites-sites.result.now c.loop-site.site-index 0 c.loop-site-test.true) c.child_of.ensures c.in-Some.is

pub returns-in-None : goal.returns-in-None
returns-in-None c =
    at_none c.args.flat.now c.nodes-nodes.result.now c.sites-sites.result.now c.loop-site.site-index c.loop-site.at (slice_index_or c.sites-sites.result.now c.loop-site.site-index 0) c.child_of.result
    c.sites_are_passed_once.ensures c.nodes_are_runs.ensures c.consts.ensures.kept c.nodes-nodes.ensures.kept c.loop-site.invariant c.loop-site-test.true (same_index c.sites-sites.result.now c.loop-site.site-index 0 c.loop-site-test.true) c.child_of.ensures c.in-None.is
    ∙ ap (λ (ns : List RunNode). reaches c.args.flat.now (run_of ns) c.sites-sites.result.now) c.nodes-nodes.ensures.value
    ∙ ap (λ (p : List ℕ). reaches c.args.flat.now (run_of c.args.run.now) p) c.sites-sites.ensures

pub returns : goal.returns
returns c =
    at_end c.args.flat.now c.nodes-nodes.result.now c.sites-sites.result.now c.loop-site.site-index c.loop-site.at c.loop-site.invariant c.loop-site-test.false
    ∙ ap (λ (ns : List RunNode). reaches c.args.flat.now (run_of ns) c.sites-sites.result.now) c.nodes-nodes.ensures.value
    ∙ ap (λ (p : List ℕ). reaches c.args.flat.now (run_of c.args.run.now) p) c.sites-sites.ensures
