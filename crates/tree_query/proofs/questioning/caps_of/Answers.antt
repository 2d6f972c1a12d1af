-- One node more.
use Rattle.std.proofs.Common.{◌≡◌, ◌<◌, List, ℕ, length, refl, sym, ap, ◌∙◌, subst}
use Rattle.std.proofs.lemmas.Option.{slice_get_read}
use Rattle.std.specs.Prelude.{slice_get, Some}
use Rattle.tree_terms.specs.declared.linked.Place.{Place}
use Rattle.tree_query.proofs.Capped.{kids_count, places_count, table_next}
use Rattle.tree_query.proofs.Numbers.{take_path}
use Rattle.tree_query.proofs.questioning.caps_of.Goals as goal

pub loop-index-preserved : goal.loop-index-preserved
loop-index-preserved c =
    let tree = c.args.tree.now in
    let path = c.index-paths-index.result in
    let place = c.index-places-index.result in
    let is : slice_get tree c.loop-index.index ≡ Some path =
    ap (λ (ps : List (List ℕ)). slice_get ps c.loop-index.index) (sym c.nodes-paths.ensures)
    ∙ slice_get_read c.nodes-paths.result.now (length c.nodes-paths.result.now) c.loop-index.index path refl c.loop-index-test.true c.index-paths-index.is in
    let low : c.loop-index.index < length c.args.places.now =
    subst (λ (n : ℕ). c.loop-index.index < n) (sym (places_count c.args.flat.now c.args.entry tree c.args.places.now c.requires)) (subst (λ (ps : List (List ℕ)). c.loop-index.index < length ps) c.nodes-paths.ensures c.loop-index-test.true) in
    let at = slice_get_read c.args.places.now (length c.args.places.now) c.loop-index.index place refl low c.index-places-index.is in
    table_next c.args.flat.now c.args.entry c.args.bound tree c.loop-index.index c.len-count.result path c.loop-index.table c.push.new.self c.in_ok-site_caps.field-0 (take_path tree c.loop-index.index path is)
    (c.len-count.ensures ∙ ap (λ (x : Place). length x.kids) (sym c.index-places-index.is) ∙ kids_count c.args.flat.now c.args.entry tree c.args.places.now c.loop-index.index path place c.requires is at) c.in_ok-site_caps.ensures c.loop-index.invariant c.in_ok-push.ensures.ok
