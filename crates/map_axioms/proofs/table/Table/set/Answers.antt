use Rattle.std.proofs.Common.{ℕ, List, ap, ◌∙◌, ◌&&◌, nat_eq}
use Rattle.std.specs.Prelude.{Some, if◌then◌else◌}
use Rattle.map_axioms.specs.Steps.{found}
use Rattle.map_axioms.proofs.table.Table.set.Goals as goal

pub returns-clause-set : goal.returns-clause-set
returns-clause-set c = λ a b.
    c.in_ok-insert.ensures.updates.0 (a, b)
    ∙ ap (λ (cells : List ((ℕ × ℕ) × ℕ)). if nat_eq c.args.one a && nat_eq c.args.other b then Some c.args.number else found a b cells) c.self.view_is
