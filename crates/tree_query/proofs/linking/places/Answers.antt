-- The paths differ, and one node more.
use Rattle.std.proofs.Common.{◌≡◌, true, List, ℕ, length, refl, sym, ap, ◌∙◌, subst}
use Rattle.std.proofs.lemmas.Option.{slice_get_read}
use Rattle.std.specs.Prelude.{slice_get}
use Rattle.call_tree.specs.Trees.{all_differ}
use Rattle.call_tree.proofs.PartTrees.{tree_differs}
use Rattle.tree_terms.specs.declared.linked.Place.{Place}
use Rattle.tree_query.specs.Tabled.{place_from}
use Rattle.tree_query.proofs.Numbers.{take_path}
use Rattle.tree_query.proofs.Tables.{places_next}
use Rattle.tree_query.proofs.linking.places.Goals as goal

pub of-requires : goal.of-requires
of-requires c =
    subst (λ (ps : List (List ℕ)). all_differ ps ≡ true) (sym c.nodes-nodes.ensures) (tree_differs c.args.flat.now c.args.entry c.requires.tree.0 c.args.tree.now c.requires.tree.1)

pub loop-path-preserved : goal.loop-path-preserved
loop-path-preserved c =
    let is =
    ap (λ (ps : List (List ℕ)). slice_get ps c.loop-path.path-index) (sym c.nodes-nodes.ensures)
    ∙ slice_get_read c.nodes-nodes.result.now (length c.nodes-nodes.result.now) c.loop-path.path-index c.path-item.result refl c.loop-path-test.true c.path-item.is in
    places_next c.args.flat.now c.args.entry c.requires.tree.0 c.args.tree.now c.args.templates.now c.loop-path.places c.push.new.self c.loop-path.path-index c.path-item.result c.in_ok-place.place c.requires.tree.1
    c.requires.templates is c.loop-path.invariant
    (c.in_ok-place.ensures ∙ ap (λ (ns : List (List ℕ)). place_from ns c.args.templates.now c.as_slice.result.now c.args.entry c.path-item.result) (c.in_ok-numbers.ensures ∙ c.nodes-nodes.ensures)
    ∙ ap (λ (ps : List Place). place_from c.args.tree.now c.args.templates.now ps c.args.entry c.path-item.result) c.as_slice.ensures)
    c.in_ok-push.ensures.ok (take_path c.args.tree.now c.loop-path.path-index c.path-item.result is)
