use Rattle.std.proofs.Common.{◌≡◌, ◌∙◌, ap, sym, subst, ℕ, List, length, arith}
use Rattle.std.specs.Prelude.{Option, IfSome, IsTrue, slice_index}
use Rattle.hy_term.specs.Variables.{below}
use Rattle.hy_term.specs.declared.node.TermNode.{TermNode}
use Rattle.map_axioms.specs.declared.entry.Entry.{Entry}
use Rattle.map_axioms.specs.Steps.{Conjoined, congruent, pairs}
use Rattle.map_axioms.proofs.Whole.{whole, whole_count}
use Rattle.map_axioms.proofs.reduction.reduced_terms.Goals as goal

pub returns-clause-plan : goal.returns-clause-plan
returns-clause-plan c =
    let base = c.in_ok-base.base in
    let nodes = c.args.terms.now.nodes in
    let out = c.all_nodes.new.out.nodes in
    let es = c.all_nodes.new.entries in
    let under : IsTrue (below c.in_ok-base.base c.args.terms.now.nodes) =
    subst (λ (o : Option ℕ). IfSome o (λ n. IsTrue (below n c.args.terms.now.nodes))) c.in_ok-base.ensures.ok_part c.fresh.ensures.above in
    let t : c.reduced_at-root.result ≡ slice_index c.in_ok-reds.reds c.args.terms.now.root =
    c.reduced_at-root.ensures ∙ ap (λ (r : List ℕ). slice_index r c.root.result) c.as_slice.ensures ∙ ap (slice_index c.in_ok-reds.reds) c.root.ensures.value in
    let conj : Conjoined c.in_ok-base.base c.args.terms.now.nodes c.all_nodes.new.out.nodes c.all_nodes.new.entries c.rooted.result.nodes c.reduced_at-root.result c.rooted.result.root (λ vs. congruent vs c.all_nodes.new.entries) =
    subst (λ (k : ℕ). Conjoined c.in_ok-base.base c.args.terms.now.nodes c.all_nodes.new.out.nodes c.all_nodes.new.entries c.rooted.result.nodes c.reduced_at-root.result k (λ vs. congruent vs c.all_nodes.new.entries)) (sym c.rooted.ensures.root)
    (subst (λ (ns : List TermNode). Conjoined c.in_ok-base.base c.args.terms.now.nodes c.all_nodes.new.out.nodes c.all_nodes.new.entries ns c.reduced_at-root.result c.in_ok-all.all (λ vs. congruent vs c.all_nodes.new.entries)) (sym c.rooted.ensures.nodes)
    (subst (λ (xs : List Entry). Conjoined c.in_ok-base.base c.args.terms.now.nodes c.all_nodes.new.out.nodes xs c.congruent.new.out.nodes c.reduced_at-root.result c.in_ok-all.all (λ vs. congruent vs xs)) c.as_slice-2.ensures
    (subst (λ (ns : List TermNode). Conjoined c.in_ok-base.base ns c.all_nodes.new.out.nodes c.as_slice-2.result.now c.congruent.new.out.nodes c.reduced_at-root.result c.in_ok-all.all (λ vs. congruent vs c.as_slice-2.result.now))
    c.nodes-nodes.ensures.value c.in_ok-all.ensures.all))) in
    record {
      base = base;
      reds = c.in_ok-reds.reds;
      is = whole base c.args.terms.now out es c.in_ok-reds.reds c.nodes-nodes.ensures.kept c.in_ok-reds.ensures c.rooted.result c.reduced_at-root.result under t conj;
    }

pub returns-clause-count : goal.returns-clause-count
returns-clause-count c =
    let n : length c.rooted.result.nodes ≡ length c.congruent.new.out.nodes = ap length c.rooted.ensures.nodes in
    let few : pairs c.as_slice-2.result.now ≡ pairs c.all_nodes.new.entries = ap pairs c.as_slice-2.ensures in
    whole_count c.in_ok-base.base c.args.terms.now c.all_nodes.new.out.nodes c.all_nodes.new.entries c.in_ok-reds.reds c.nodes-nodes.ensures.kept c.in_ok-reds.ensures (length c.rooted.result.nodes)
    (omega (arith, n, few, c.in_ok-all.ensures.nodes))
