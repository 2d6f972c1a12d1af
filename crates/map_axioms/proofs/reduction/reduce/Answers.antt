use Rattle.std.proofs.Common.{◌↔◌, sym, subst}
use Rattle.hy_term.specs.Formula.{Formula}
use Rattle.hy_term.specs.Meaning.{CanHold}
use Rattle.map_axioms.specs.Reduction.{AllDiffer, KeepsHolding, KeepsScalars}
use Rattle.map_axioms.proofs.Whole.{plan_plain, plan_holds, plan_can, plan_scalars}
use Rattle.map_axioms.proofs.reduction.reduce.Goals as goal

pub new-requires : goal.new-requires
new-requires c = plan_plain c.args.terms.now c.in_ok-out.out c.reduced_terms.new.entries c.in_ok-out.ensures.plan

pub returns-clause-holds : goal.returns-clause-holds
returns-clause-holds c =
    subst (λ (f : Formula). KeepsHolding c.args.terms.now f) (sym c.new.ensures) (plan_holds c.args.terms.now c.in_ok-out.out c.reduced_terms.new.entries c.in_ok-out.ensures.plan)

pub returns-clause-can : goal.returns-clause-can
returns-clause-can c =
    subst (λ (f : Formula). CanHold f ↔ CanHold c.args.terms.now) (sym c.new.ensures) (plan_can c.args.terms.now c.in_ok-out.out c.reduced_terms.new.entries c.in_ok-out.ensures.plan)

pub returns-clause-scalars : goal.returns-clause-scalars
returns-clause-scalars c =
    subst (λ (f : Formula). KeepsScalars c.args.terms.now.nodes f.nodes) (sym c.new.ensures) (plan_scalars c.args.terms.now c.in_ok-out.out c.reduced_terms.new.entries c.in_ok-out.ensures.plan)

pub returns-clause-shares : goal.returns-clause-shares
returns-clause-shares c = subst (λ (f : Formula). AllDiffer f.nodes) (sym c.new.ensures) c.in_ok-out.ensures.shares
