use Rattle.std.proofs.Common.{◌≡◌, ◌++◌}
use Rattle.tree_words.specs.Asking.{cuts_to, may_by}
use Rattle.tree_words.proofs.ruling.push_cuts.Given as goal

abbrev pub invariant-loop-site : goal.invariant-loop-site
invariant-loop-site l = l.rules ≡ l.fn.rules ++ cuts_to l.q l.places l.reach (may_by l.may) l.node l.site
