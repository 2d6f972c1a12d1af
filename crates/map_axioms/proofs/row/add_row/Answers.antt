use Rattle.std.proofs.Common.{length, arith}
use Rattle.hy_val.specs.declared.sort.SortKind.TheVariants.{Map as MapSort, Scalar as ScalarSort}
use Rattle.map_axioms.proofs.Cases.{sort_within}
use Rattle.map_axioms.proofs.Counting.{known_at_more, known_more}
use Rattle.map_axioms.proofs.Walking.{row_read}
use Rattle.map_axioms.proofs.row.add_row.Goals as goal

pub returns-clause-row : goal.returns-clause-row
returns-clause-row c =
    row_read c.args.base c.args.terms.now.nodes c.args.out.now.nodes c.args.entries.now c.node_row.new.out.nodes c.node_row.new.entries c.args.reds.now c.args.rows.now c.set.new.self c.args.top c.args.place c.in_ok-entry.entry c.requires.row
    c.in_ok-entry.ensures.entry c.in_ok-set.ensures.set

pub returns-clause-later : goal.returns-clause-later
returns-clause-later c = c.in_ok-entry.ensures.entry.later

pub returns-clause-nodes : goal.returns-clause-nodes
returns-clause-nodes c =
    let r = c.requires.row in
    let more = known_more (length c.args.terms.now.nodes) c.args.rows.now c.set.new.self c.args.top c.args.place c.in_ok-entry.entry (sort_within c.args.terms.now.nodes c.args.top (MapSort r.select.index r.select.elem) r.select.map)
    (sort_within c.args.terms.now.nodes c.args.place (ScalarSort r.select.index) r.select.place) c.requires.unknown c.in_ok-set.ensures.set in
    omega (arith, more, c.in_ok-entry.ensures.nodes)

pub returns-clause-entries : goal.returns-clause-entries
returns-clause-entries c =
    let r = c.requires.row in
    let more = known_more (length c.args.terms.now.nodes) c.args.rows.now c.set.new.self c.args.top c.args.place c.in_ok-entry.entry (sort_within c.args.terms.now.nodes c.args.top (MapSort r.select.index r.select.elem) r.select.map)
    (sort_within c.args.terms.now.nodes c.args.place (ScalarSort r.select.index) r.select.place) c.requires.unknown c.in_ok-set.ensures.set in
    omega (arith, more, c.in_ok-entry.ensures.entries)

pub returns-clause-more : goal.returns-clause-more
returns-clause-more c =
    let r = c.requires.row in
    known_at_more (length c.args.terms.now.nodes) c.args.rows.now c.set.new.self c.args.top c.args.place c.in_ok-entry.entry (sort_within c.args.terms.now.nodes c.args.top (MapSort r.select.index r.select.elem) r.select.map)
    (sort_within c.args.terms.now.nodes c.args.place (ScalarSort r.select.index) r.select.place) c.requires.unknown c.in_ok-set.ensures.set
