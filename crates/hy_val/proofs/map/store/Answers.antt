use Rattle.hy_val.proofs.Tables.{written_is_map, written_alone}
use Rattle.hy_val.proofs.map.store.Goals as goal

pub invariant_of-m-2 : goal.invariant_of-m-2
invariant_of-m-2 c =
    written_is_map c.args.m.now c.m.inside.index c.m.inside.elem c.m.inside.pairs.items c.put.new.pairs.items c.args.i c.args.v
    c.m.view_is c.m.invariant c.requires.index c.requires.elem c.in_ok-put.ensures.ok

pub returns-clause-alone : goal.returns-clause-alone
returns-clause-alone c =
    written_alone c.args.m.now c.m.inside.index c.m.inside.elem c.m.inside.pairs.items c.put.new.pairs.items c.args.i c.args.v
    c.m.view_is c.m.invariant c.requires.index c.requires.elem c.in_ok-put.ensures.ok
