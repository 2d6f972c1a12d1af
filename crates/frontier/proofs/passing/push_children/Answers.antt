use Rattle.std.proofs.Common.{ℕ, ◌≡◌, ◌||◌, slice_get, Some, None, sym, ap, ◌∙◌, arith}
use Rattle.flat_prog.specs.Laws.{below_of}
use Rattle.call_tree.specs.Questions.{frees_below}
use Rattle.call_tree.specs.Trees.{has_path}
use Rattle.frontier.specs.Passed.{has_free}
use Rattle.frontier.proofs.Freeing.{child_more, child_none}
use Rattle.frontier.proofs.passing.push_children.Goals as goal

pub loop-child-preserved : goal.loop-child-preserved
loop-child-preserved c =
    let at = c.loop-child.invariant.0 in
    let got : slice_get c.args.sites.now c.loop-child.at ≡ Some c.in-Some.site = sym c.site_at.ensures ∙ c.in-Some.is in (
      omega (arith, at),
      λ flat runs p.
          child_more flat runs p c.args.path.now c.args.sites.now c.args.children.now c.loop-child.child-index c.in-Some.site c.child-item.result
          (has_free flat runs c.args.left.now.items c.args.free.now.items p) (has_free flat runs c.loop-child.left.items c.loop-child.free.items p) (has_free flat runs c.push_child.new.left.items c.push_child.new.free.items p)
          (has_path (frees_below (below_of runs c.args.children.now) flat c.args.path.now c.args.sites.now) p)
          c.loop-child-test.true c.child-item.is (ap (λ (n : ℕ). slice_get c.args.sites.now n) (sym at) ∙ got) (c.loop-child.invariant.1 flat runs p) ((c.in_ok-push_child.ensures {u = tt}) flat runs p),
    )

pub returns-in_default : goal.returns-in_default
returns-in_default c = λ flat runs p.
    let at = c.loop-child.invariant.0 in
    let got : slice_get c.args.sites.now c.loop-child.at ≡ None = sym c.site_at.ensures ∙ c.in_default.is in
    child_none flat runs p c.args.path.now c.args.sites.now c.args.children.now c.loop-child.child-index
    (has_free flat runs c.loop-child.left.items c.loop-child.free.items p) (has_free flat runs c.args.left.now.items c.args.free.now.items p || has_path (frees_below (below_of runs c.args.children.now) flat c.args.path.now c.args.sites.now) p)
    (ap (λ (n : ℕ). slice_get c.args.sites.now n) (sym at) ∙ got) (c.loop-child.invariant.1 flat runs p)
