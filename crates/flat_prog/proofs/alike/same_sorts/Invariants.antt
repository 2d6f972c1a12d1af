use Rattle.hy_val.specs.declared.sort.Sort.{Sort}
use Rattle.flat_prog.proofs.Matching.{Alike}
use Rattle.flat_prog.proofs.alike.same_sorts.Given as goal

abbrev pub invariant-loop-i : goal.invariant-loop-i
invariant-loop-i l = Alike Sort l.left l.right l.i
