use Rattle.std.proofs.Common.{[], ◌∷◌, ap}
use Rattle.flat_prog.specs.Laws.{below_of}
use Rattle.flat_prog.specs.declared.run.Child.{Child}
use Rattle.call_tree.specs.Questions.{frees_below}
use Rattle.frontier.proofs.Freeing.{node_pushed, free_pushed}
use Rattle.frontier.proofs.passing.push_child.Goals as goal

pub returns-in_ok-push-in-Node : goal.returns-in_ok-push-in-Node
returns-in_ok-push-in-Node c = λ flat runs p.
    node_pushed flat runs p c.args.path.now c.args.site c.args.child.now (record { node = c.in-Node.node; path = c.in_ok-next.next }) c.args.left.now.items c.push.new.self.items c.args.free.now.items
    c.in-Node.is (c.in_ok-next.ensures {u = tt}) (c.in_ok-push-in-Node.ensures {u = tt}).items

pub returns-in_ok-push-in-Free : goal.returns-in_ok-push-in-Free
returns-in_ok-push-in-Free c = λ flat runs p.
    free_pushed flat runs p c.args.path.now c.args.site c.in_ok-next.next c.args.left.now.items c.args.free.now.items c.push-in-Free.new.self.items
    (frees_below (below_of runs (c.args.child.now ∷ [])) flat c.args.path.now (c.args.site ∷ []))
    (ap (λ (x : Child). frees_below (below_of runs (x ∷ [])) flat c.args.path.now (c.args.site ∷ [])) c.in-Free.is) (c.in_ok-next.ensures {u = tt}) (c.in_ok-push-in-Free.ensures {u = tt}).items
