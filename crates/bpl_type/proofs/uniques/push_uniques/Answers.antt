use Rattle.std.proofs.Common.{◌≡◌, ◌++◌, length, replicate, sym, ◌∙◌, ap, arith}
use Rattle.bpl_type.specs.TypedOf.{places_from}
use Rattle.bpl_type.proofs.UniqueLaws.{unique-further, flags-same, flags-counted}
use Rattle.bpl_type.proofs.uniques.push_uniques.Goals as goal

pub loop-preserved : goal.loop-preserved
loop-preserved c = record {
  list = unique-further c.args.constants.now.unique c.args.first c.loop.counter c.loop.number c.args.uniques.now c.loop.uniques c.push_unique.new.uniques c.loop.invariant.list c.loop.invariant.next c.in_ok-number.ensures.list;
  next = omega (arith, c.in_ok-number.ensures.next, c.loop.invariant.next);
}

pub returns-clause-list : goal.returns-clause-list
returns-clause-list c =
    let all : c.loop.counter ≡ length c.args.constants.now.names = omega arith in
    c.loop.invariant.list
    ∙ ap (λ bs. c.args.uniques.now ++ places_from c.args.first bs) (ap (λ k. replicate k c.args.constants.now.unique) all ∙ sym (flags-same c.args.constants.now.unique c.args.constants.now.names))

pub returns-clause-next : goal.returns-clause-next
returns-clause-next c = omega (arith, c.loop.invariant.next, flags-counted c.args.constants.now.unique c.args.constants.now.names)
