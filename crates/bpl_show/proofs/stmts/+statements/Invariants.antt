use Rattle.std.proofs.Common.{◌≡◌, drop}
use Rattle.std.specs.Prelude.{flat_map}
use Rattle.bpl_show.specs.Stmts as spec
use Rattle.bpl_show.specs.Tokens.{written}
use Rattle.bpl_show.proofs.stmts.+statements.Given as goal

abbrev pub invariant-statements-loop-one : goal.invariant-statements-loop-one
invariant-statements-loop-one l = written l.out (flat_map spec.stmt (drop l.one-index l.shown)) ≡ written l.initial.out (flat_map spec.stmt l.shown)
