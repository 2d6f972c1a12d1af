use Rattle.std.proofs.Common.{◌≡◌, ap, arith, length}
use Rattle.hy_term.specs.Formula.{Formula}
use Rattle.hy_term.proofs.Sorting.{root_within}
use Rattle.hy_term.proofs.terms.Terms.root.Goals as goal

pub returns-clause-within : goal.returns-clause-within
returns-clause-within c =
    let whole : Formula = record { nodes = c.self.inside.nodes; root = c.self.inside.root } in
    let same : length c.self.inside.nodes ≡ length c.args.self.now.nodes = ap (λ (f : Formula). length f.nodes) c.self.view_is in
    omega (arith, root_within whole c.self.inside.sorts c.self.invariant, same)
