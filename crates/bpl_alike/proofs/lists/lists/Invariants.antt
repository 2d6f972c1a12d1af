use Rattle.std.proofs.Common.{◌≡◌, map, take}
use Rattle.bpl_alike.proofs.lists.lists.Given as goal

abbrev pub invariant-loop-i : goal.invariant-loop-i
invariant-loop-i g l = map g.T.Compare.bare (take l.i l.a) ≡ map g.T.Compare.bare (take l.i l.b)
