use Rattle.std.proofs.Common.{◌≡◌, drop, take}
use Rattle.std.specs.Prelude.{flat_map}
use Rattle.bpl_show.specs.Exprs as spec
use Rattle.bpl_show.specs.Tokens.{written}
use Rattle.bpl_show.proofs.exprs.+expressions.Given as goal

abbrev pub invariant-chain-loop-index : goal.invariant-chain-loop-index
invariant-chain-loop-index l = l.out ≡ written l.initial.out (spec.chained l.sign l.asked (take l.index l.operands))

abbrev pub invariant-brackets-loop-one : goal.invariant-brackets-loop-one
invariant-brackets-loop-one l = written l.out (flat_map spec.bracket (drop l.one-index l.shown)) ≡ written l.initial.out (flat_map spec.bracket l.shown)
