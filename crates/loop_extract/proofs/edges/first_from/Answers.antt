use Rattle.std.proofs.Common.{◌≤◌, ◌<◌, ◌+◌, ◌-◌, ◌/◌, length, arith}
use Rattle.loop_extract.proofs.Ordered.{high_half, low_half}
use Rattle.loop_extract.proofs.edges.first_from.Goals as goal

pub loop-low-preserved-then-is_before : goal.loop-low-preserved-then-is_before
loop-low-preserved-then-is_before c =
    let test : c.loop-low.low < c.loop-low.high = c.loop-low-test.true in
    let within : c.loop-low.high ≤ length c.args.edges.now = c.loop-low.invariant.within in
    record {
      order = omega (arith, test);
      within = within;
      less = λ k e h x. low_half c.args.block c.args.place c.args.edges.now (c.loop-low.low + (c.loop-low.high - c.loop-low.low) / 2) k _ e c.is_before.result c.requires (omega (arith, test, within)) c.is_before.ensures c.if-is_before.true h x;
      more = c.loop-low.invariant.more;
    }

pub loop-low-preserved : goal.loop-low-preserved
loop-low-preserved c =
    let test : c.loop-low.low < c.loop-low.high = c.loop-low-test.true in
    let within : c.loop-low.high ≤ length c.args.edges.now = c.loop-low.invariant.within in
    record {
      order = omega (arith, test);
      within = omega (arith, test, within);
      less = c.loop-low.invariant.less;
      more = λ k e le x. high_half c.args.block c.args.place c.args.edges.now (c.loop-low.low + (c.loop-low.high - c.loop-low.low) / 2) k _ e c.is_before.result c.requires (omega (arith, test, within)) c.is_before.ensures c.if-is_before.false le x;
    }
