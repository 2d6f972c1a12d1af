use Rattle.std.proofs.Common.{◌≡◌, ◌+◌, arith}
use Rattle.extract_def.specs.Renaming.{locals_from}
use Rattle.loop_extract.proofs.Locals.{locals_more}
use Rattle.loop_extract.proofs.adding.locals_from.Goals as goal

pub loop-k-preserved : goal.loop-k-preserved
loop-k-preserved c =
    let is : c.in_ok-local.local ≡ c.args.first + c.loop-k.k = omega (arith, c.in_ok-local.ensures, c.in_ok-small.ensures.value) in
    locals_more (locals_from c.args.first c.args.count) c.loop-k.locals c.push.new.self c.args.first c.loop-k.k c.args.count c.in_ok-local.local c.loop-k.invariant c.loop-k-test.true is c.in_ok-push.ensures.ok
