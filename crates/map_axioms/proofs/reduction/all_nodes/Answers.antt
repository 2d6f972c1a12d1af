use Rattle.std.proofs.Common.{◌≡◌, ◌+◌, ◌∙◌, ap, sym, subst, ℕ, List, length, arith, ◌++◌, ◌∷◌, [], length-append}
use Rattle.std.specs.Prelude.{nat_eq}
use Rattle.indexmap.specs.IndexMap.{get}
use Rattle.map_axioms.specs.Steps.{Taken, AllReduced, AreFirsts}
use Rattle.map_axioms.proofs.Indexing.{firsts_none, firsts_push}
use Rattle.map_axioms.proofs.Rows.{reds_push, rows_none}
use Rattle.map_axioms.proofs.Counting.{known_few}
use Rattle.map_axioms.proofs.reduction.all_nodes.Goals as goal

pub nodes-init : goal.nodes-init
nodes-init c =
    let none : length c.new-reds.result ≡ 0 = ap length c.new-reds.ensures in
    record {
      state = c.requires.state;
      within = omega (arith, none);
      each = λ k l. absurd (omega (arith, l, none));
      firsts = firsts_none c.args.terms.now.nodes c.new-reds.result c.new-firsts.result.entries c.new-firsts.ensures.empty;
      stands = rows_none c.args.terms.now.nodes c.args.out.now.nodes c.args.entries.now c.new-rows.result c.new-rows.ensures;
      nodes = omega (arith, c.requires.nodes);
      entries = omega (arith, c.requires.entries);
    }

pub reduced-requires-clause-firsts : goal.reduced-requires-clause-firsts
reduced-requires-clause-firsts c = subst (λ (r : List ℕ). AreFirsts c.args.terms.now.nodes r (get nat_eq c.nodes.firsts)) (sym c.as_slice.ensures) c.nodes.invariant.firsts

pub nodes-preserved : goal.nodes-preserved
nodes-preserved c =
    let pushed : c.push.new.self ≡ c.nodes.reds ++ c.in_ok-red.red ∷ [] = c.in_ok-push.ensures.ok in
    let longer : length c.push.new.self ≡ length c.nodes.reds + 1 = ap length pushed ∙ length-append c.nodes.reds (c.in_ok-red.red ∷ []) in
    let taken = subst (λ (r : List ℕ). Taken c.args.base c.args.terms.now.nodes c.nodes.out.nodes c.nodes.entries c.reduced.new.out.nodes c.reduced.new.entries (length r) c.in_ok-red.red) c.as_slice.ensures c.in_ok-red.ensures.node in
    let count : length c.nodes-count.result.now ≡ length c.args.terms.now.nodes = ap length c.nodes-count.ensures.value in
    record {
      state = taken.state;
      within = omega (arith, longer, c.nodes-test.true, c.len.ensures, count);
      each = subst (λ (r : List ℕ). AllReduced c.args.terms.now.nodes c.reduced.new.out.nodes c.reduced.new.entries r) (sym pushed)
          (reds_push c.args.base c.args.terms.now.nodes c.nodes.out.nodes c.nodes.entries c.reduced.new.out.nodes c.reduced.new.entries c.nodes.reds c.in_ok-red.red c.nodes.invariant.each taken);
      firsts =
          firsts_push c.args.terms.now.nodes c.nodes.reds c.push.new.self (get nat_eq c.reduced.new.firsts) c.in_ok-red.red
          (subst (λ (r : List ℕ). AreFirsts c.args.terms.now.nodes r (get nat_eq c.reduced.new.firsts)) c.as_slice.ensures c.in_ok-red.ensures.firsts) pushed;
      stands = c.in_ok-red.ensures.rows;
      nodes = omega (arith, c.in_ok-red.ensures.nodes, c.nodes.invariant.nodes, longer);
      entries = omega (arith, c.in_ok-red.ensures.entries, c.nodes.invariant.entries);
    }

pub returns : goal.returns
returns c =
    let count : length c.nodes-count.result.now ≡ length c.args.terms.now.nodes = ap length c.nodes-count.ensures.value in
    let few = known_few (length c.args.terms.now.nodes) c.nodes.rows in
    let same : length c.nodes.reds ≡ length c.args.terms.now.nodes = omega (arith, c.nodes.invariant.within, c.nodes-test.false, c.len.ensures, count) in
    record {
      state = c.nodes.invariant.state;
      count = same;
      each = c.nodes.invariant.each;
      few_nodes = omega (arith, c.nodes.invariant.nodes, few, same);
      few_entries = omega (arith, c.nodes.invariant.entries, few);
    }
