-- A path is none of those before it.
use Rattle.std.proofs.Common.{List, ℕ, take, length, refl, ap, ◌∙◌}
use Rattle.std.proofs.lemmas.Option.{slice_get_read}
use Rattle.call_tree.specs.Trees.{has_path}
use Rattle.tree_query.proofs.Numbers.{new_path}
use Rattle.tree_query.proofs.numbering.PathNumbers.of.Goals as goal

pub add-requires : goal.add-requires
add-requires c =
    ap (λ (v : List (List ℕ)). has_path v c.sites.result.now) c.loop-path.invariant ∙ ap (has_path (take c.loop-path.path-index c.args.paths.now)) c.sites.ensures
    ∙ new_path c.args.paths.now c.loop-path.path-index c.path-item.result c.requires
    (slice_get_read c.args.paths.now (length c.args.paths.now) c.loop-path.path-index c.path-item.result refl c.loop-path-test.true c.path-item.is)
