use Rattle.hy_val.specs.declared.atom.Atom.{Atom}
use Rattle.hy_val.proofs.Same.{Alike}
use Rattle.hy_val.proofs.map.same_pairs.Given as goal

abbrev pub invariant-loop-i : goal.invariant-loop-i
invariant-loop-i l = Alike (Atom × Atom) l.left l.right l.i
