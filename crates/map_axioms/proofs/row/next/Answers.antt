use Rattle.std.proofs.Common.{◌∙◌, sym}
use Rattle.map_axioms.specs.Steps.{found}
use Rattle.map_axioms.proofs.Walking.{none_of, part_same, parts_popped, part_popped}
use Rattle.map_axioms.proofs.row.next.Goals as goal

pub left-preserved : goal.left-preserved
left-preserved c = parts_popped c.args.nodes.now c.args.map c.in-Some.node c.left.left c.pop.new.self c.left.invariant c.in-Some.ensures

pub returns-then-not-is_known-clause-part : goal.returns-then-not-is_known-clause-part
returns-then-not-is_known-clause-part c = part_popped c.args.nodes.now c.args.map c.in-Some.node c.left.left c.pop.new.self c.left.invariant c.in-Some.ensures

pub returns-then-not-is_known-clause-parts : goal.returns-then-not-is_known-clause-parts
returns-then-not-is_known-clause-parts c = parts_popped c.args.nodes.now c.args.map c.in-Some.node c.left.left c.pop.new.self c.left.invariant c.in-Some.ensures

pub returns-then-not-is_known-clause-unknown : goal.returns-then-not-is_known-clause-unknown
returns-then-not-is_known-clause-unknown c = λ h. none_of (found c.in-Some.node c.args.place c.args.rows.now) (sym c.is_known.ensures ∙ c.if-not-is_known.true)

pub returns-clause-part : goal.returns-clause-part
returns-clause-part c = part_same c.args.nodes.now c.args.map
