use Rattle.std.proofs.Common.{sym, ◌∙◌, ap}
use Rattle.std.specs.Option.{option_copied}
use Rattle.type_pass.specs.Orders.{is_in}
use Rattle.type_pass.proofs.CircleLaws.{reaches-none, reaches-ok}
use Rattle.type_pass.proofs.OrderLaws.{edges-at}
use Rattle.type_pass.proofs.circle.find_edges.Goals as goal

pub returns-in-None : goal.returns-in-None
returns-in-None c = reaches-none c.args.graph.now c.args.from c.args.found.now.nodes.items c.args.found.now.seen.items (sym c.at.ensures ∙ ap option_copied c.in-None.is) c.requires.flagged

pub find_all-requires-clause-within : goal.find_all-requires-clause-within
find_all-requires-clause-within c = λ n here.
    c.requires.closed c.args.from n
    (ap (λ es. is_in es n) (edges-at c.args.graph.now c.args.from c.in-Some.edges.now (sym c.at.ensures ∙ ap option_copied c.in-Some.is) ∙ sym c.as_slice.ensures) ∙ here)

pub returns-in-Some : goal.returns-in-Some
returns-in-Some c =
    reaches-ok c.find_all.result c.args.graph.now c.args.from c.as_slice.result.now c.in-Some.edges.now c.args.found.now.nodes.items c.find_all.new.found.nodes.items c.find_all.new.found.seen.items
    (sym c.at.ensures ∙ ap option_copied c.in-Some.is) c.as_slice.ensures c.find_all.ensures
