-- What a node asks of its children's values follows from its sort.
use Rattle.hy_val.proofs.Evaluating.{select_known, store_known}
use Rattle.tree_query.proofs.valuing.node_value.Goals as goal

pub unary-requires : goal.unary-requires
unary-requires c = rw c.in-Unary.is at c.requires.sorts

pub binary-requires : goal.binary-requires
binary-requires c = rw c.in-Binary.is at c.requires.sorts

pub select_at-requires-clause-fits : goal.select_at-requires-clause-fits
select_at-requires-clause-fits c =
    select_known c.args.known.now c.in-Select.map c.in-Select.index c.atom_at.result c.atom_at.ensures.value (rw c.in-Select.is at c.requires.sorts)

pub store_at-requires-clause-fits : goal.store_at-requires-clause-fits
store_at-requires-clause-fits c =
    store_known c.args.known.now c.in-Store.map c.in-Store.index c.in-Store.value c.atom_at-in-Store.result c.atom_at-in-Store-2.result
    c.atom_at-in-Store.ensures.value c.atom_at-in-Store-2.ensures.value (rw c.in-Store.is at c.requires.sorts)
