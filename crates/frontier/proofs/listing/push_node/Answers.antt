use Rattle.std.proofs.Common.{◌≡◌, List, ℕ, ◌++◌, OnOk, ap, ◌∙◌, subst}
use Rattle.call_tree.specs.Trees.{last_or}
use Rattle.frontier.specs.Ways.{list_at, way_on}
use Rattle.frontier.proofs.Sites.{same_taken}
use Rattle.frontier.proofs.listing.push_node.Goals as goal

pub returns : goal.returns
returns c =
    let way = way_on c.args.lists.now c.args.entry c.args.path.now in
    let path_same = ap (λ (p : List ℕ). way_on c.args.lists.now c.args.entry p) c.sites.ensures in
    let last_same : c.last_on-last.result ≡ last_or 0 way = c.last_on-last.ensures ∙ ap (last_or 0) (c.as_slice.ensures.value ∙ c.in_ok-way.ensures {u = tt} ∙ path_same) in
    subst (λ (x : List (List ℕ)). OnOk c.push_sites.result (c.push_sites.new.found.items ≡ c.args.found.now.items ++ x))
    (same_taken c.args.flat.now c.args.bound c.args.nodes.now c.args.wanted c.args.path.now c.as_slice-2.result.now way c.list_at.result.now (list_at c.args.lists.now (last_or 0 way))
    (c.as_slice-2.ensures.value ∙ c.in_ok-way.ensures {u = tt} ∙ path_same) (c.list_at.ensures ∙ ap (list_at c.args.lists.now) last_same))
    c.push_sites.ensures
