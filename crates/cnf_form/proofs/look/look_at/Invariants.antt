use Rattle.std.proofs.Common.{◌≡◌, drop}
use Rattle.cnf_form.specs.Literal.{look}
use Rattle.cnf_form.proofs.Looking.{look_rest}
use Rattle.cnf_form.proofs.look.look_at.Given as goal

abbrev pub invariant-loop-lit : goal.invariant-loop-lit
invariant-loop-lit g l =
    let falses = g.F.FalseLiterals.falses l.falses in
    look falses l.literals ≡ look_rest falses l.first (drop l.lit-index l.literals)
