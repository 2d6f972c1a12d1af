use Rattle.std.proofs.Common.{◌≡◌, ap, sym, subst, drop, List, ℕ, arith, ◌+◌}
use Rattle.std.specs.Prelude.{slice_get, Some, slice_index_or}
use Rattle.std.proofs.lemmas.Option.{slice_get-get_or}
use Rattle.map_axioms.specs.declared.entry.Entry.{Entry}
use Rattle.map_axioms.specs.Steps.{LinksFrom, pairs, pairs_on, congruent}
use Rattle.map_axioms.proofs.Conjoining.{so_far_first, so_far_next, so_far_last, pairs_stay, drop_at, drop_kept, congruent_past}
use Rattle.map_axioms.proofs.congruence.congruent.Goals as goal

pub loop-i-init : goal.loop-i-init
loop-i-init c = record {
  so_far = so_far_first c.args.base c.args.nodes.now c.args.out.now.nodes c.args.entries.now c.args.all (λ vs. congruent vs c.args.entries.now) c.requires.state c.requires.all;
  nodes = omega arith;
}

pub with_pairs-requires-clause-links : goal.with_pairs-requires-clause-links
with_pairs-requires-clause-links c = subst (λ (ls : List ℕ). LinksFrom c.args.entries.now ls 0) (sym c.as_slice-links.ensures) c.in_ok-found.ensures

pub with_pairs-requires-clause-one : goal.with_pairs-requires-clause-one
with_pairs-requires-clause-one c =
    let none : Entry = record { map = 0; place = 0; index = 0; number = 0; entry = 0 } in
    slice_get-get_or c.args.entries.now c.loop-i.i none c.loop-i-test.true

pub loop-i-preserved : goal.loop-i-preserved
loop-i-preserved c =
    let none : Entry = record { map = 0; place = 0; index = 0; number = 0; entry = 0 } in
    let x = slice_index_or c.args.entries.now c.loop-i.i none in
    let is : slice_get c.args.entries.now c.loop-i.i ≡ Some x = slice_get-get_or c.args.entries.now c.loop-i.i none c.loop-i-test.true in
    record {
      so_far = so_far_next c.args.base c.args.nodes.now c.args.out.now.nodes c.args.entries.now c.loop-i.out.nodes c.with_pairs.new.out.nodes c.args.all c.loop-i.whole c.in_ok-whole.whole
          (λ vs. congruent vs c.args.entries.now) (λ vs. congruent vs (drop c.loop-i.i c.args.entries.now)) (λ vs. pairs_on vs x (drop (c.loop-i.i + 1) c.args.entries.now))
          (λ vs. congruent vs (drop (c.loop-i.i + 1) c.args.entries.now))
          c.loop-i.invariant.so_far c.in_ok-whole.ensures.all
          (λ vs. ap (congruent vs) (drop_at c.args.entries.now c.loop-i.i x is))
          (λ b. pairs_stay c.args.base c.args.nodes.now c.args.out.now.nodes c.args.entries.now c.loop-i.out.nodes x (drop (c.loop-i.i + 1) c.args.entries.now) b c.loop-i.invariant.so_far.later (c.requires.state.entry c.loop-i.i x is)
          (drop_kept c.args.base c.args.nodes.now c.args.out.now.nodes c.args.entries.now c.args.entries.now (c.loop-i.i + 1) c.requires.state.entry));
      nodes = omega (arith, c.in_ok-whole.ensures.nodes, c.loop-i.invariant.nodes, ap pairs (drop_at c.args.entries.now c.loop-i.i x is));
    }

pub returns-clause-all : goal.returns-clause-all
returns-clause-all c =
    so_far_last c.args.base c.args.nodes.now c.args.out.now.nodes c.args.entries.now c.loop-i.out.nodes c.args.all c.loop-i.whole
    (λ vs. congruent vs c.args.entries.now) (λ vs. congruent vs (drop c.loop-i.i c.args.entries.now)) c.loop-i.invariant.so_far
    (λ vs. congruent_past vs c.args.entries.now c.loop-i.i (omega (arith, c.loop-i-test.false)))

pub returns-clause-nodes : goal.returns-clause-nodes
returns-clause-nodes c = omega (arith, c.loop-i.invariant.nodes)
