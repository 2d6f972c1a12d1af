use Rattle.std.proofs.Common.{◌≡◌, take}
use Rattle.tree_words.specs.RulesSaid.{numbered}
use Rattle.tree_query.proofs.questioning.numbered.Given as goal

-- the decisions so far
abbrev pub invariant-loop-decision : goal.invariant-loop-decision
invariant-loop-decision l = l.decisions ≡ numbered l.q (take l.decision-index l.piece)
