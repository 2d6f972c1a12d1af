use Rattle.std.proofs.Common.{◌∙◌, ap, sym, subst, refl, List, length, arith}
use Rattle.std.specs.Prelude.{Some, IsSome, slice_get}
use Rattle.std.proofs.lemmas.Option.{slice_get_read}
use Rattle.hy_val.specs.declared.sort.SortKind.TheVariants.{Map as MapSort}
use Rattle.hy_term.specs.declared.node.TermNode.{TermNode}
use Rattle.map_axioms.specs.Steps.{AllParts, IsPart, found, known_at}
use Rattle.map_axioms.proofs.Cases.{sort_within}
use Rattle.map_axioms.proofs.Counting.{known_at_few, fewer}
use Rattle.map_axioms.proofs.Rows.{known_row}
use Rattle.map_axioms.proofs.Standing.{later_same, later_then}
use Rattle.map_axioms.proofs.Walking.{none_of, select_before, under_of, part_same, part_under, parts_push, parts_none, row_moved}
use Rattle.map_axioms.proofs.row.entry_of.Goals as goal

pub walk-init : goal.walk-init
walk-init c = record {
  row = record { state = c.requires.state; select = c.requires.select; map_before = c.requires.map; place_before = c.requires.place; reduced = c.requires.reds; stands = c.requires.rows };
  later = later_same c.args.base c.args.terms.now.nodes c.args.out.now.nodes c.args.entries.now c.requires.state;
  part = part_same c.args.terms.now.nodes c.args.map;
  parts = parts_none c.args.terms.now.nodes c.args.map c.new-left.result c.new-left.ensures;
  waits = λ h. h;
  nodes = omega arith;
  entries = omega arith;
}

pub bounds-nodes-top : goal.bounds-nodes-top
bounds-nodes-top c = select_before c.args.terms.now.nodes c.nodes-nodes.result.now c.walk.top c.args.place c.walk.invariant.row.select c.nodes-nodes.ensures.value

pub offset_bounds-nodes-top : goal.offset_bounds-nodes-top
offset_bounds-nodes-top c =
    let l = select_before c.args.terms.now.nodes c.nodes-nodes.result.now c.walk.top c.args.place c.walk.invariant.row.select c.nodes-nodes.ensures.value in
    omega (arith, l, c.nodes-nodes.type_inv)

pub add_row-requires-clause-node : goal.add_row-requires-clause-node
add_row-requires-clause-node c =
    ap (λ (ns : List TermNode). slice_get ns c.walk.top) (sym c.nodes-nodes.ensures.value) ∙ slice_get_read c.nodes-nodes.result.now (length c.nodes-nodes.result.now) c.walk.top c.index-nodes-top.result refl (select_before c.args.terms.now.nodes c.nodes-nodes.result.now c.walk.top c.args.place c.walk.invariant.row.select c.nodes-nodes.ensures.value) c.index-nodes-top.is

pub add_row-requires-clause-unknown : goal.add_row-requires-clause-unknown
add_row-requires-clause-unknown c = c.walk.invariant.waits (none_of (found c.args.map c.args.place c.walk.rows) (sym c.is_known.ensures ∙ c.walk-test.true))

pub next-top-requires : goal.next-top-requires
next-top-requires c = record { parts = subst (λ (ns : List TermNode). AllParts ns c.args.map c.walk.left) (sym c.nodes-nodes.ensures.value) c.walk.invariant.parts }

pub walk-preserved-in-Some : goal.walk-preserved-in-Some
walk-preserved-in-Some c =
    let there = ap (λ (ns : List TermNode). slice_get ns c.walk.top) (sym c.nodes-nodes.ensures.value) ∙ slice_get_read c.nodes-nodes.result.now (length c.nodes-nodes.result.now) c.walk.top c.index-nodes-top.result refl (select_before c.args.terms.now.nodes c.nodes-nodes.result.now c.walk.top c.args.place c.walk.invariant.row.select c.nodes-nodes.ensures.value) c.index-nodes-top.is in
    let u = under_of c.args.terms.now.nodes c.walk.top c.args.place c.in-Some.below c.index-nodes-top.result c.walk.invariant.row.select there c.in-Some.ensures.0 in
    record {
      row = row_moved c.args.base c.args.terms.now.nodes c.walk.out.nodes c.walk.entries c.args.reds.now c.walk.rows c.walk.top c.args.place c.in-Some.below c.walk.invariant.row u.sort
          (let a = u.before in let b = c.walk.invariant.row.map_before in omega (arith, a, b));
      later = c.walk.invariant.later;
      part = part_under c.args.terms.now.nodes c.args.map c.walk.top c.in-Some.below c.walk.invariant.part u;
      parts = parts_push c.args.terms.now.nodes c.args.map c.walk.top c.walk.left c.push.new.self c.walk.invariant.parts c.walk.invariant.part c.in_ok-push-in-Some.ensures.ok;
      waits = λ h. c.in-Some.ensures.1;
      nodes = c.walk.invariant.nodes;
      entries = c.walk.invariant.entries;
    }

pub walk-smaller-in-Some : goal.walk-smaller-in-Some
walk-smaller-in-Some c =
    let there = ap (λ (ns : List TermNode). slice_get ns c.walk.top) (sym c.nodes-nodes.ensures.value) ∙ slice_get_read c.nodes-nodes.result.now (length c.nodes-nodes.result.now) c.walk.top c.index-nodes-top.result refl (select_before c.args.terms.now.nodes c.nodes-nodes.result.now c.walk.top c.args.place c.walk.invariant.row.select c.nodes-nodes.ensures.value) c.index-nodes-top.is in
    let u = under_of c.args.terms.now.nodes c.walk.top c.args.place c.in-Some.below c.index-nodes-top.result c.walk.invariant.row.select there c.in-Some.ensures.0 in
    let a = u.before in
    omega (arith, a)

pub walk-preserved : goal.walk-preserved
walk-preserved c =
    let part = subst (λ (ns : List TermNode). IsPart ns c.args.map c.next-top.result) c.nodes-nodes.ensures.value c.next-top.ensures.part in
    record {
      row = row_moved c.args.base c.args.terms.now.nodes c.add_row.new.out.nodes c.add_row.new.entries c.args.reds.now c.add_row.new.rows c.walk.top c.args.place c.next-top.result c.in_ok-add_row-in-None.ensures.row
          (part.sort ∙ sym c.walk.invariant.part.sort) (let a = part.within in omega (arith, a, c.requires.map));
      later = later_then c.args.out.now.nodes c.args.entries.now c.walk.out.nodes c.walk.entries c.add_row.new.out.nodes c.add_row.new.entries c.walk.invariant.later c.in_ok-add_row-in-None.ensures.later;
      part = part;
      parts = subst (λ (ns : List TermNode). AllParts ns c.args.map c.next-top.new.left) c.nodes-nodes.ensures.value c.next-top.ensures.parts;
      waits = c.next-top.ensures.unknown;
      nodes = omega (arith, c.in_ok-add_row-in-None.ensures.nodes, c.walk.invariant.nodes);
      entries = omega (arith, c.in_ok-add_row-in-None.ensures.entries, c.walk.invariant.entries);
    }

pub walk-smaller : goal.walk-smaller
walk-smaller c =
    let part = subst (λ (ns : List TermNode). IsPart ns c.args.map c.next-top.result) c.nodes-nodes.ensures.value c.next-top.ensures.part in
    let l = sort_within c.args.terms.now.nodes c.args.map (MapSort c.requires.select.index c.requires.select.elem) c.requires.select.map in
    fewer (length c.args.terms.now.nodes) (known_at (length c.args.terms.now.nodes) c.walk.rows c.args.place) (known_at (length c.args.terms.now.nodes) c.add_row.new.rows c.args.place) c.walk.top c.next-top.result
    c.in_ok-add_row-in-None.ensures.more (known_at_few (length c.args.terms.now.nodes) c.add_row.new.rows c.args.place) (let a = part.within in omega (arith, a, l))

pub returns-clause-entry : goal.returns-clause-entry
returns-clause-entry c =
    let some : IsSome (found c.args.map c.args.place c.walk.rows) = sym c.is_known.ensures ∙ c.walk-test.false in
    record {
      state = c.walk.invariant.row.state;
      later = c.walk.invariant.later;
      entry = c.walk.invariant.row.stands c.args.map c.args.place c.entry_at.result (known_row c.walk.rows c.args.map c.args.place some ∙ ap Some (sym c.entry_at.ensures));
    }

pub returns-clause-rows : goal.returns-clause-rows
returns-clause-rows c = c.walk.invariant.row.stands

pub returns-clause-nodes : goal.returns-clause-nodes
returns-clause-nodes c = c.walk.invariant.nodes

pub returns-clause-entries : goal.returns-clause-entries
returns-clause-entries c = c.walk.invariant.entries
