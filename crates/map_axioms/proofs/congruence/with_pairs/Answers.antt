use Rattle.std.proofs.Common.{◌≡◌, ◌<◌, ◌+◌, ◌∙◌, ap, subst, ℕ, drop, length, arith, ◌&&◌, Bool}
use Rattle.std.specs.Prelude.{slice_get, slice_index, slice_index_or, Some}
use Rattle.std.proofs.lemmas.Option.{slice_get-get_or, slice_get_within}
use Rattle.map_axioms.specs.declared.entry.Entry.{Entry}
use Rattle.map_axioms.specs.Steps.{IsNext, of_map, pair_on, pairs_on}
use Rattle.map_axioms.proofs.Standing.{entry_later}
use Rattle.map_axioms.proofs.Conjoining.{so_far_first, so_far_as, so_far_next, so_far_last, pair_stays, drop_at, pairs_past}
use Rattle.map_axioms.proofs.Linking.{skip_pairs, skip_few}
use Rattle.map_axioms.proofs.congruence.with_pairs.Goals as goal

pub bounds-links-place : goal.bounds-links-place
bounds-links-place c =
    let l = slice_get_within c.args.entries.now c.args.place c.args.one c.requires.one in
    let n = c.requires.links.count in
    omega (arith, l, n)

pub bounds-links-next : goal.bounds-links-next
bounds-links-next c = let n = c.requires.links.count in omega (arith, n, c.pairs-test.true)

pub pairs-init : goal.pairs-init
pairs-init c =
    let l = slice_get_within c.args.entries.now c.args.place c.args.one c.requires.one in
    let n = c.requires.links.count in
    let within : c.args.place < length c.args.links.now = omega (arith, l, n) in
    let there : slice_get c.args.links.now c.args.place ≡ Some (slice_index c.args.links.now c.args.place) =
    slice_get-get_or c.args.links.now c.args.place 0 within in
    let next = c.requires.links.next c.args.place (slice_index c.args.links.now c.args.place) c.args.one (omega arith) c.requires.one there in
    record {
      so_far =
          so_far_as c.args.base c.args.nodes.now c.args.out.now.nodes c.args.entries.now c.args.out.now.nodes c.args.all c.args.all (λ vs. pairs_on vs c.args.one (drop (c.args.place + 1) c.args.entries.now))
          (λ vs. pairs_on vs c.args.one (drop (c.args.place + 1) c.args.entries.now)) (λ vs. pairs_on vs c.args.one (drop (slice_index c.args.links.now c.args.place) c.args.entries.now))
          (λ vs. skip_pairs vs c.args.one c.args.entries.now (c.args.place + 1) (slice_index c.args.links.now c.args.place) next)
          (so_far_first c.args.base c.args.nodes.now c.args.out.now.nodes c.args.entries.now c.args.all (λ vs. pairs_on vs c.args.one (drop (c.args.place + 1) c.args.entries.now)) c.requires.state c.requires.all);
      same = next.at;
      nodes = let few = skip_few c.args.one c.args.entries.now (c.args.place + 1) (slice_index c.args.links.now c.args.place) next in omega (arith, few);
    }

pub with_pair-requires-clause-one : goal.with_pair-requires-clause-one
with_pair-requires-clause-one c =
    entry_later c.args.out.now.nodes c.args.entries.now c.pairs.out.nodes c.args.entries.now c.pairs.invariant.so_far.later c.args.base c.args.nodes.now c.args.one (c.requires.state.entry c.args.place c.args.one c.requires.one)

pub with_pair-requires-clause-other : goal.with_pair-requires-clause-other
with_pair-requires-clause-other c =
    let none : Entry = record { map = 0; place = 0; index = 0; number = 0; entry = 0 } in
    let is : slice_get c.args.entries.now c.pairs.next ≡ Some (slice_index_or c.args.entries.now c.pairs.next none) =
    slice_get-get_or c.args.entries.now c.pairs.next none c.pairs-test.true in
    entry_later c.args.out.now.nodes c.args.entries.now c.pairs.out.nodes c.args.entries.now c.pairs.invariant.so_far.later c.args.base c.args.nodes.now (slice_index_or c.args.entries.now c.pairs.next none)
    (c.requires.state.entry c.pairs.next (slice_index_or c.args.entries.now c.pairs.next none) is)

pub pairs-preserved : goal.pairs-preserved
pairs-preserved c =
    let none : Entry = record { map = 0; place = 0; index = 0; number = 0; entry = 0 } in
    let is : slice_get c.args.entries.now c.pairs.next ≡ Some (slice_index_or c.args.entries.now c.pairs.next none) =
    slice_get-get_or c.args.entries.now c.pairs.next none c.pairs-test.true in
    let n = c.requires.links.count in
    let within : c.pairs.next < length c.args.links.now = omega (arith, n, c.pairs-test.true) in
    let there : slice_get c.args.links.now c.pairs.next ≡ Some (slice_index c.args.links.now c.pairs.next) =
    slice_get-get_or c.args.links.now c.pairs.next 0 within in
    let next =
    subst (λ (m : ℕ). IsNext c.args.entries.now m (c.pairs.next + 1) (slice_index c.args.links.now c.pairs.next)) (c.pairs.invariant.same (slice_index_or c.args.entries.now c.pairs.next none) is)
    (c.requires.links.next c.pairs.next (slice_index c.args.links.now c.pairs.next) (slice_index_or c.args.entries.now c.pairs.next none) (omega arith) is there) in
    record {
      so_far =
          so_far_next c.args.base c.args.nodes.now c.args.out.now.nodes c.args.entries.now c.pairs.out.nodes c.with_pair.new.out.nodes c.args.all c.pairs.whole c.in_ok-whole.whole
          (λ vs. pairs_on vs c.args.one (drop (c.args.place + 1) c.args.entries.now)) (λ vs. pairs_on vs c.args.one (drop c.pairs.next c.args.entries.now)) (λ vs. pair_on vs c.args.one (slice_index_or c.args.entries.now c.pairs.next none))
          (λ vs. pairs_on vs c.args.one (drop (slice_index c.args.links.now c.pairs.next) c.args.entries.now)) c.pairs.invariant.so_far c.in_ok-whole.ensures.all
          (λ vs. ap (pairs_on vs c.args.one) (drop_at c.args.entries.now c.pairs.next (slice_index_or c.args.entries.now c.pairs.next none) is)
          ∙ ap (λ (b : Bool). pair_on vs c.args.one (slice_index_or c.args.entries.now c.pairs.next none) && b) (skip_pairs vs c.args.one c.args.entries.now (c.pairs.next + 1) (slice_index c.args.links.now c.pairs.next) next))
          (λ b. pair_stays c.args.base c.args.nodes.now c.args.out.now.nodes c.args.entries.now c.pairs.out.nodes c.args.one (slice_index_or c.args.entries.now c.pairs.next none) b c.pairs.invariant.so_far.later
          (c.requires.state.entry c.args.place c.args.one c.requires.one) (c.requires.state.entry c.pairs.next (slice_index_or c.args.entries.now c.pairs.next none) is));
      same = next.at;
      nodes =
          let few = skip_few c.args.one c.args.entries.now (c.pairs.next + 1) (slice_index c.args.links.now c.pairs.next) next in
          omega (arith, few, c.in_ok-whole.ensures.nodes, c.pairs.invariant.nodes, ap (of_map c.args.one) (drop_at c.args.entries.now c.pairs.next (slice_index_or c.args.entries.now c.pairs.next none) is));
    }

pub pairs-smaller : goal.pairs-smaller
pairs-smaller c =
    let none : Entry = record { map = 0; place = 0; index = 0; number = 0; entry = 0 } in
    let is : slice_get c.args.entries.now c.pairs.next ≡ Some (slice_index_or c.args.entries.now c.pairs.next none) =
    slice_get-get_or c.args.entries.now c.pairs.next none c.pairs-test.true in
    let n = c.requires.links.count in
    let within : c.pairs.next < length c.args.links.now = omega (arith, n, c.pairs-test.true) in
    let there : slice_get c.args.links.now c.pairs.next ≡ Some (slice_index c.args.links.now c.pairs.next) =
    slice_get-get_or c.args.links.now c.pairs.next 0 within in
    let next = c.requires.links.next c.pairs.next (slice_index c.args.links.now c.pairs.next) (slice_index_or c.args.entries.now c.pairs.next none) (omega arith) is there in
    let a = next.after in
    omega (arith, a, c.pairs-test.true)

pub returns-clause-all : goal.returns-clause-all
returns-clause-all c =
    so_far_last c.args.base c.args.nodes.now c.args.out.now.nodes c.args.entries.now c.pairs.out.nodes c.args.all c.pairs.whole
    (λ vs. pairs_on vs c.args.one (drop (c.args.place + 1) c.args.entries.now)) (λ vs. pairs_on vs c.args.one (drop c.pairs.next c.args.entries.now)) c.pairs.invariant.so_far
    (λ vs. pairs_past vs c.args.one c.args.entries.now c.pairs.next (omega (arith, c.pairs-test.false)))

pub returns-clause-nodes : goal.returns-clause-nodes
returns-clause-nodes c = omega (arith, c.pairs.invariant.nodes)
