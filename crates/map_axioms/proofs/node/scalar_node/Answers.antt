use Rattle.std.proofs.Common.{◌≡◌, ◌∙◌, ap, sym, subst, List, length, arith, false}
use Rattle.std.specs.Prelude.{Some, IsTrue, nat_eq, slice_index}
use Rattle.hy_term.specs.TermSorts.{fits_behind}
use Rattle.hy_term.specs.declared.node.TermNode.{TermNode}
use Rattle.indexmap.specs.IndexMap.{get}
use Rattle.map_axioms.specs.Shared.{Shared}
use Rattle.map_axioms.specs.Steps.{AreFirsts, IsFirst, IsScalarAt, renamed}
use Rattle.map_axioms.proofs.Indexing.{first_select, first_entry}
use Rattle.map_axioms.proofs.Nodes.{is_select, Ground, addable_node}
use Rattle.map_axioms.proofs.Rows.{taken_node, select_reduced, rows_later, reds_later}
use Rattle.map_axioms.proofs.Standing.{addable_fits}
use Rattle.map_axioms.proofs.Arms.{formula_agrees}
use Rattle.map_axioms.proofs.Walking.{select_parts, not_select}
use Rattle.map_axioms.proofs.node.scalar_node.Goals as goal

pub first_of-requires-clause-firsts : goal.first_of-requires-clause-firsts
first_of-requires-clause-firsts c = subst (λ (ns : List TermNode). AreFirsts ns c.args.reds.now (get nat_eq c.args.firsts.now)) (sym c.nodes-nodes.ensures.value) c.requires.firsts

pub first_of-requires-clause-within : goal.first_of-requires-clause-within
first_of-requires-clause-within c = (select_parts c.args.terms.now.nodes (length c.args.reds.now) c.in-Select.map c.in-Select.index c.args.sort c.args.node c.requires.node c.in-Select.is c.requires.sort).place

pub first_of-requires-clause-scalar : goal.first_of-requires-clause-scalar
first_of-requires-clause-scalar c =
    let p = select_parts c.args.terms.now.nodes (length c.args.reds.now) c.in-Select.map c.in-Select.index c.args.sort c.args.node c.requires.node c.in-Select.is c.requires.sort in
    subst (λ (ns : List TermNode). IsScalarAt ns c.in-Select.index) (sym c.nodes-nodes.ensures.value) (record { scalar = p.select.index; is = p.select.place })

pub entry_of-requires-clause-select : goal.entry_of-requires-clause-select
entry_of-requires-clause-select c =
    let p = select_parts c.args.terms.now.nodes (length c.args.reds.now) c.in-Select.map c.in-Select.index c.args.sort c.args.node c.requires.node c.in-Select.is c.requires.sort in
    first_select c.args.terms.now.nodes c.args.out.now.nodes c.args.entries.now c.args.reds.now c.in-Select.map c.in-Select.index c.in_ok-place-in-Select.place c.requires.reds p.select p.place (subst (λ (ns : List TermNode). IsFirst ns c.args.reds.now (slice_index c.args.reds.now c.in-Select.index) c.in_ok-place-in-Select.place) c.nodes-nodes.ensures.value c.in_ok-place-in-Select.ensures.first)

pub entry_of-requires-clause-map : goal.entry_of-requires-clause-map
entry_of-requires-clause-map c = (select_parts c.args.terms.now.nodes (length c.args.reds.now) c.in-Select.map c.in-Select.index c.args.sort c.args.node c.requires.node c.in-Select.is c.requires.sort).map

pub entry_of-requires-clause-place : goal.entry_of-requires-clause-place
entry_of-requires-clause-place c = c.in_ok-place-in-Select.ensures.first.within

pub add-requires : goal.add-requires
add-requires c =
    let g : Ground c.args.base c.args.terms.now.nodes c.args.out.now.nodes c.args.entries.now c.args.reds.now =
    record { agree = formula_agrees c.args.terms.now c.nodes-nodes.ensures.kept; under = c.requires.under; state = c.requires.state; each = c.requires.reds } in
    let other : is_select c.args.node ≡ false = not_select c.args.node (λ m i e. c.in_default.not-Select m i e) in
    subst (λ (x : TermNode). IsTrue (fits_behind c.args.out.now.nodes x)) (sym c.renamed.ensures)
    (addable_fits c.args.base c.args.terms.now.nodes c.args.out.now.nodes c.args.entries.now (renamed c.args.reds.now c.args.node) c.args.sort _
    (addable_node c.args.base c.args.terms.now.nodes c.args.out.now.nodes c.args.entries.now c.args.reds.now g c.args.node c.args.sort c.requires.sort c.requires.node other))

pub returns-in_ok-red-in-Select-clause-node : goal.returns-in_ok-red-in-Select-clause-node
returns-in_ok-red-in-Select-clause-node c = record {
  state = c.in_ok-red-in-Select.ensures.entry.state;
  later = c.in_ok-red-in-Select.ensures.entry.later;
  red = select_reduced c.args.terms.now.nodes c.entry_of.new.out.nodes c.entry_of.new.entries (length c.args.reds.now) c.in-Select.map c.in-Select.index c.in_ok-red-in-Select.red (c.requires.node ∙ ap Some c.in-Select.is)
      (first_entry c.args.terms.now.nodes c.entry_of.new.out.nodes c.entry_of.new.entries c.args.reds.now c.in-Select.map c.in-Select.index c.in_ok-place-in-Select.place c.in_ok-red-in-Select.red
      (reds_later c.args.terms.now.nodes c.args.out.now.nodes c.args.entries.now c.entry_of.new.out.nodes c.entry_of.new.entries c.args.reds.now c.in_ok-red-in-Select.ensures.entry.later c.requires.reds)
      (select_parts c.args.terms.now.nodes (length c.args.reds.now) c.in-Select.map c.in-Select.index c.args.sort c.args.node c.requires.node c.in-Select.is c.requires.sort).select (select_parts c.args.terms.now.nodes (length c.args.reds.now) c.in-Select.map c.in-Select.index c.args.sort c.args.node c.requires.node c.in-Select.is c.requires.sort).place (subst (λ (ns : List TermNode). IsFirst ns c.args.reds.now (slice_index c.args.reds.now c.in-Select.index) c.in_ok-place-in-Select.place) c.nodes-nodes.ensures.value c.in_ok-place-in-Select.ensures.first) c.in_ok-red-in-Select.ensures.entry.entry);
}

pub returns-in_ok-red-in-Select-clause-firsts : goal.returns-in_ok-red-in-Select-clause-firsts
returns-in_ok-red-in-Select-clause-firsts c = subst (λ (ns : List TermNode). AreFirsts ns c.args.reds.now (get nat_eq c.first_of.new.firsts)) c.nodes-nodes.ensures.value c.in_ok-place-in-Select.ensures.firsts

pub returns-in_ok-red-in-Select-clause-nodes : goal.returns-in_ok-red-in-Select-clause-nodes
returns-in_ok-red-in-Select-clause-nodes c =
    omega (arith, c.in_ok-red-in-Select.ensures.nodes)

pub returns-in_ok-red-in-Select-clause-entries : goal.returns-in_ok-red-in-Select-clause-entries
returns-in_ok-red-in-Select-clause-entries c =
    c.in_ok-red-in-Select.ensures.entries

pub returns-in_ok-red-in_default : goal.returns-in_ok-red-in_default
returns-in_ok-red-in_default c =
    let g : Ground c.args.base c.args.terms.now.nodes c.args.out.now.nodes c.args.entries.now c.args.reds.now =
    record { agree = formula_agrees c.args.terms.now c.nodes-nodes.ensures.kept; under = c.requires.under; state = c.requires.state; each = c.requires.reds } in
    let other : is_select c.args.node ≡ false = not_select c.args.node (λ m i e. c.in_default.not-Select m i e) in
    let taken = taken_node c.args.base c.args.terms.now.nodes c.args.out.now.nodes c.args.entries.now c.args.reds.now g c.args.node c.args.sort c.requires.sort c.requires.node other c.add.new.self.nodes c.in_ok-red-in_default.red
    (subst (λ (x : TermNode). Shared c.args.out.now.nodes x c.add.new.self.nodes c.in_ok-red-in_default.red) c.renamed.ensures c.in_ok-red-in_default.ensures.node) in
    record {
      node = taken;
      firsts = c.requires.firsts;
      rows = rows_later c.args.terms.now.nodes c.args.out.now.nodes c.args.entries.now c.add.new.self.nodes c.args.entries.now c.args.rows.now taken.later c.requires.rows;
      nodes = omega (arith, c.in_ok-red-in_default.ensures.count);
      entries = omega arith;
    }
