use Rattle.bpl_type.proofs.UniqueLaws.{numbers-further, next-further, numbers-all}
use Rattle.bpl_type.proofs.uniques.uniques.Goals as goal

pub loop-decl-preserved : goal.loop-decl-preserved
loop-decl-preserved c = record {
  list = numbers-further c.as_slice-decl-items.result.now c.loop-decl.decl-index c.decl-item.result c.loop-decl.next c.loop-decl.numbers c.push_declared.new.uniques c.loop-decl-test.true c.decl-item.is
      c.loop-decl.invariant.list c.loop-decl.invariant.next c.in_ok-next.ensures.list;
  next = next-further c.as_slice-decl-items.result.now c.loop-decl.decl-index c.decl-item.result c.loop-decl.next c.in_ok-next.next c.loop-decl-test.true c.decl-item.is c.loop-decl.invariant.next c.in_ok-next.ensures.next;
}

pub returns : goal.returns
returns c = numbers-all c.args.ast.now c.as_slice-decl-items.result.now c.loop-decl.decl-index c.loop-decl.numbers c.as_slice-decl-items.ensures c.loop-decl-test.false c.loop-decl.invariant.list
