use Rattle.std.proofs.Common.{◌≡◌, ◌+◌, ◌-◌, ◌/◌, ℕ, false, slice_get, sym, ◌∙◌, subst, arith}
use Rattle.src_run.specs.Edges.{is_below}
use Rattle.src_run.proofs.Heads.{found_at, skipped}
use Rattle.src_run.proofs.edges.place_of.Goals as goal

pub loop-low-preserved-then-is_below : goal.loop-low-preserved-then-is_below
loop-low-preserved-then-is_below c = record {
  ordered = omega arith;
  within = c.loop-low.invariant.within;
  skips = skipped c.args.loops.now (c.loop-low.low + (c.loop-low.high - c.loop-low.low) / 2) c.args.to c.requires (sym c.is_below.ensures ∙ c.if-is_below.true);
  above = c.loop-low.invariant.above;
}

pub returns : goal.returns
returns c =
    let same : c.loop-low.high ≡ c.loop-low.low = omega arith in
    found_at c.args.loops.now c.loop-low.low c.args.to c.requires c.loop-low.invariant.skips (subst (λ (n : ℕ). is_below c.args.to (slice_get c.args.loops.now n) ≡ false) same c.loop-low.invariant.above)
