use Rattle.std.proofs.Common.{◌≡◌, ◌∙◌, ap, sym, subst, List, map, true}
use Rattle.std.specs.Prelude.{IsTrue}
use Rattle.hy_term.specs.Meaning.{fits, holds}
use Rattle.hy_term.specs.Variables.{numbers, of_list}
use Rattle.map_axioms.specs.declared.entry.Entry.{Entry}
use Rattle.map_axioms.specs.Reduction.{Reduction, AgreeOnScalars, of_atoms}
use Rattle.map_axioms.specs.Steps.{lifted}
use Rattle.map_axioms.proofs.WayBack.{list_fits, list_holds, list_agrees}
use Rattle.map_axioms.proofs.lifting.lift.Goals as goal

pub returns-clause-fits : goal.returns-clause-fits
returns-clause-fits c =
    let fit = subst (λ (r : Reduction). IsTrue (fits (of_atoms r.reduced.nodes c.args.atoms.now) r.reduced.nodes)) (sym c.plan.view_is) c.requires.fits in
    let hold = subst (λ (r : Reduction). holds (of_atoms r.reduced.nodes c.args.atoms.now) r.reduced ≡ true) (sym c.plan.view_is) c.requires.holds in
    let is : c.in_ok-values.values ≡ map (lifted c.plan.inside.source.nodes c.plan.inside.reduced.nodes c.plan.inside.entries (of_atoms c.plan.inside.reduced.nodes c.args.atoms.now)) (numbers c.plan.inside.source.nodes) =
    c.in_ok-values.ensures ∙ ap (λ (es : List Entry). map (lifted c.plan.inside.source.nodes c.plan.inside.reduced.nodes es (of_atoms c.plan.inside.reduced.nodes c.args.atoms.now)) (numbers c.plan.inside.source.nodes)) c.as_slice.ensures in
    subst (λ (r : Reduction). IsTrue (fits (of_list (numbers r.source.nodes) c.in_ok-values.values) r.source.nodes)) c.plan.view_is
    (list_fits c.plan.inside.source c.plan.inside.reduced c.plan.inside.entries c.plan.invariant c.plan.invariant.is.formula (of_atoms c.plan.inside.reduced.nodes c.args.atoms.now) fit hold c.in_ok-values.values is)

pub returns-clause-holds : goal.returns-clause-holds
returns-clause-holds c =
    let fit = subst (λ (r : Reduction). IsTrue (fits (of_atoms r.reduced.nodes c.args.atoms.now) r.reduced.nodes)) (sym c.plan.view_is) c.requires.fits in
    let hold = subst (λ (r : Reduction). holds (of_atoms r.reduced.nodes c.args.atoms.now) r.reduced ≡ true) (sym c.plan.view_is) c.requires.holds in
    let is : c.in_ok-values.values ≡ map (lifted c.plan.inside.source.nodes c.plan.inside.reduced.nodes c.plan.inside.entries (of_atoms c.plan.inside.reduced.nodes c.args.atoms.now)) (numbers c.plan.inside.source.nodes) =
    c.in_ok-values.ensures ∙ ap (λ (es : List Entry). map (lifted c.plan.inside.source.nodes c.plan.inside.reduced.nodes es (of_atoms c.plan.inside.reduced.nodes c.args.atoms.now)) (numbers c.plan.inside.source.nodes)) c.as_slice.ensures in
    subst (λ (r : Reduction). holds (of_list (numbers r.source.nodes) c.in_ok-values.values) r.source ≡ true) c.plan.view_is
    (list_holds c.plan.inside.source c.plan.inside.reduced c.plan.inside.entries c.plan.invariant c.plan.invariant.is.formula (of_atoms c.plan.inside.reduced.nodes c.args.atoms.now) fit hold c.in_ok-values.values is)

pub returns-clause-scalars : goal.returns-clause-scalars
returns-clause-scalars c =
    let fit = subst (λ (r : Reduction). IsTrue (fits (of_atoms r.reduced.nodes c.args.atoms.now) r.reduced.nodes)) (sym c.plan.view_is) c.requires.fits in
    let hold = subst (λ (r : Reduction). holds (of_atoms r.reduced.nodes c.args.atoms.now) r.reduced ≡ true) (sym c.plan.view_is) c.requires.holds in
    let is : c.in_ok-values.values ≡ map (lifted c.plan.inside.source.nodes c.plan.inside.reduced.nodes c.plan.inside.entries (of_atoms c.plan.inside.reduced.nodes c.args.atoms.now)) (numbers c.plan.inside.source.nodes) =
    c.in_ok-values.ensures ∙ ap (λ (es : List Entry). map (lifted c.plan.inside.source.nodes c.plan.inside.reduced.nodes es (of_atoms c.plan.inside.reduced.nodes c.args.atoms.now)) (numbers c.plan.inside.source.nodes)) c.as_slice.ensures in
    subst (λ (r : Reduction). AgreeOnScalars r.source.nodes (of_list (numbers r.source.nodes) c.in_ok-values.values) (of_atoms r.reduced.nodes c.args.atoms.now)) c.plan.view_is
    (list_agrees c.plan.inside.source c.plan.inside.reduced c.plan.inside.entries c.plan.invariant c.plan.invariant.is.formula (of_atoms c.plan.inside.reduced.nodes c.args.atoms.now) fit hold c.in_ok-values.values is)
