use Rattle.std.proofs.Common.{◌≡◌, ◌++◌, take, drop}
use Rattle.std.specs.List.{list_any}
use Rattle.cnf_form.specs.Lines.{follows, hints_refute}
use Rattle.cnf_form.specs.Literal.{negation, is_among, is_tautology}
use Rattle.cnf_form.specs.Lines.{clauses_of}
use Rattle.proof_check.proofs.checker.check_line.Given as goal

abbrev pub invariant-loop-lit : goal.invariant-loop-lit
invariant-loop-lit l = l.falses ≡ take l.lit-index l.literals

abbrev pub invariant-loop-lit-2 : goal.invariant-loop-lit-2
invariant-loop-lit-2 l = record {
  marked : l.falses ≡ l.line.clause;
  rest : is_tautology l.line.clause ≡ list_any (λ x. is_among l.line.clause (negation x)) (drop l.lit-index l.literals);
}

abbrev pub invariant-loop-i : goal.invariant-loop-i
invariant-loop-i l =
    let cs = l.clauses ++ clauses_of l.earlier in
    follows cs l.line ≡ hints_refute cs l.falses (drop l.i l.hints)
