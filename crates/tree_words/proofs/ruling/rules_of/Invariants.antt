use Rattle.std.proofs.Common.{◌≡◌, ◌++◌, map, take, length}
use Rattle.tree_words.specs.Asking.{decided, rules_to, may_by}
use Rattle.tree_words.proofs.ruling.rules_of.Given as goal

abbrev pub invariant-loop-node : goal.invariant-loop-node
invariant-loop-node l = l.rules ≡ rules_to l.q l.places l.reach (may_by l.may) l.node

abbrev pub invariant-loop-decision : goal.invariant-loop-decision
invariant-loop-decision l = l.rules ≡ rules_to l.q l.places l.reach (may_by l.may) (length l.q.tree) ++ map (decided l.always l.never l.reach) (take l.decision-index l.piece)
