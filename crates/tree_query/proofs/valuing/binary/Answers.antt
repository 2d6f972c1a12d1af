use Rattle.hy_val.proofs.Evaluating.{binary_known}
use Rattle.tree_query.proofs.valuing.binary.Goals as goal

pub apply-requires : goal.apply-requires
apply-requires c =
    binary_known c.args.op c.args.known.now c.args.left c.args.right c.atom_at.result c.atom_at-2.result c.atom_at.ensures.value c.atom_at-2.ensures.value c.requires
