use Rattle.std.proofs.Common.{ap, ◌∙◌, reverse}
use Rattle.flat_prog.proofs.Searching.{goes_down, search_begins, search_on, search_less, search_ends, search_small, depth}
use Rattle.flat_prog.proofs.ordering.order_blocks.Goals as goal

pub loop-visit-init : goal.loop-visit-init
loop-visit-init c = λ d down. search_begins c.args.proc.now d c.in_ok-search.search c.in_ok-search.ensures

pub loop-visit-preserved : goal.loop-visit-preserved
loop-visit-preserved c = λ d down.
    search_on c.args.proc.now d (record { visits = c.pop.new.self; entered = c.loop-visit.search.entered; left = c.loop-visit.search.left }) c.step.new.search c.in-Some.visit c.loop-visit.search.visits
    down c.in-Some.ensures (c.loop-visit.invariant d down) c.in_ok-step.ensures

pub loop-visit-smaller : goal.loop-visit-smaller
loop-visit-smaller c =
    let d = depth c.requires.order in
    search_less c.args.proc.now d (record { visits = c.pop.new.self; entered = c.loop-visit.search.entered; left = c.loop-visit.search.left }) c.step.new.search c.in-Some.visit c.loop-visit.search.visits
    c.in-Some.ensures (c.loop-visit.invariant d (goes_down c.args.proc.now c.requires)) c.in_ok-step.ensures

pub returns : goal.returns
returns c =
    let d = depth c.requires.order in
    let s = c.loop-visit.invariant d (goes_down c.args.proc.now c.requires) in
    let is = c.in_ok-order.ensures ∙ ap reverse c.as_slice.ensures in
    record {
      order = search_ends c.args.proc.now d c.loop-visit.search.visits c.loop-visit.search.entered c.loop-visit.search.left c.in_ok-order.order s c.in_default.ensures.0 is;
      few = search_small c.args.proc.now d c.loop-visit.search.visits c.loop-visit.search.entered c.loop-visit.search.left c.in_ok-order.order s is;
    }
