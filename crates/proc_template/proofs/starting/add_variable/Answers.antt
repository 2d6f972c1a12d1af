use Rattle.std.proofs.Common.{ap, sym, subst, ◌∙◌, ◌-◌, ◌++◌, ◌∷◌, [], List, length, IsTrue}
use Rattle.hy_term.specs.TermSorts.{fits_behind}
use Rattle.hy_term.specs.declared.node.TermNode.{TermNode}
use Rattle.hy_term.specs.declared.node.TermNode.TheVariants.{Variable}
use Rattle.proc_template.proofs.Beginning.{variable_fits, adds_one}
use Rattle.proc_template.proofs.starting.add_variable.Goals as goal

pub add-requires : goal.add-requires
add-requires c =
    subst (λ (ns : List TermNode). IsTrue (fits_behind c.args.terms.now.nodes (Variable (length ns - 1) c.args.sort))) (sym c.nodes.ensures.value) (variable_fits c.args.terms.now.nodes c.args.sort c.requires.begun c.requires.sort)

pub returns : goal.returns
returns c =
    adds_one c.args.terms.now.nodes c.add.new.self.nodes c.args.sort c.in_ok-term.term
    (c.in_ok-term.ensures.added ∙ ap (λ (ns : List TermNode). c.args.terms.now.nodes ++ Variable (length ns - 1) c.args.sort ∷ []) c.nodes.ensures.value) c.in_ok-term.ensures.number
