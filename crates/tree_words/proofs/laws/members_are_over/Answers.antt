-- The law is two lemmas, with the law of going down.
use Rattle.tree_words.proofs.OverMembers.{over_member, member_over}
use Rattle.tree_words.proofs.laws.members_are_over.Goals as goal

pub returns : goal.returns
returns c = λ flat entry bound tree piece run.
    (over_member c.paths_are_reached_by_going_down.ensures flat entry bound tree piece run, member_over c.paths_are_reached_by_going_down.ensures flat entry bound tree piece run)
