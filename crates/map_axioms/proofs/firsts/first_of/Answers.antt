use Rattle.std.proofs.Common.{ℕ, subst, sym, ◌∙◌}
use Rattle.std.specs.Prelude.{nat_eq}
use Rattle.indexmap.specs.IndexMap.{get}
use Rattle.map_axioms.specs.Steps.{IsFirst}
use Rattle.map_axioms.proofs.Indexing.{first_self, firsts_set}
use Rattle.map_axioms.proofs.firsts.first_of.Goals as goal

pub returns-in-Some-clause-first : goal.returns-in-Some-clause-first
returns-in-Some-clause-first c =
    subst (λ (r : ℕ). IsFirst c.args.nodes.now c.args.reds.now r c.in-Some.first) c.reduced_at-red.ensures
    (c.requires.firsts c.reduced_at-red.result c.in-Some.first (sym c.get.ensures.value ∙ sym c.in-Some.ensures))

pub returns-clause-first : goal.returns-clause-first
returns-clause-first c = first_self c.args.nodes.now c.args.reds.now c.args.place c.requires.within c.requires.scalar

pub returns-clause-firsts : goal.returns-clause-firsts
returns-clause-firsts c =
    firsts_set c.args.nodes.now c.args.reds.now (get nat_eq c.args.firsts.now) (get nat_eq c.insert.new.self) c.reduced_at-red.result c.args.place c.requires.firsts
    (subst (λ (r : ℕ). IsFirst c.args.nodes.now c.args.reds.now r c.args.place) (sym c.reduced_at-red.ensures) (first_self c.args.nodes.now c.args.reds.now c.args.place c.requires.within c.requires.scalar))
    c.in_ok-insert.ensures.updates.0
