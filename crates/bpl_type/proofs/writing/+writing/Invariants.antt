use Rattle.std.proofs.Common.{◌≡◌, List, map, fold, take}
use Rattle.hy_val.specs.declared.expr.ExprNode.{ExprNode}
use Rattle.bpl_type.specs.Making.{with_term, term_with, use_with, join_term}
use Rattle.type_pass.specs.Replaced.{bracket_term}
use Rattle.type_pass.specs.Terms.{Term, nodes_of}
use Rattle.bpl_type.proofs.WritingLaws.{chained}
use Rattle.bpl_type.proofs.writing.+writing.Given as goal

abbrev pub invariant-write_chain-loop-number : goal.invariant-write_chain-loop-number
invariant-write_chain-loop-number l =
    l.out ≡ chained l.fn.out (join_term l.join) (map (term_with l.place.known.now l.place.bodies.now l.place.scope.now) (take l.number l.operands))

abbrev pub invariant-write_brackets-loop-bracket : goal.invariant-write_brackets-loop-bracket
invariant-write_brackets-loop-bracket l =
    (o : List ExprNode) → (a : Term) → l.fn.out ≡ with_term o a
    → l.out ≡ with_term o (fold (λ t b. b t) a (map (bracket_term (use_with l.place.known.now l.place.bodies.now) l.place.known.now l.place.scope.now) (take l.bracket-index l.brackets)))

abbrev pub invariant-write_body-loop-argument : goal.invariant-write_body-loop-argument
invariant-write_body-loop-argument l =
    l.made ≡ map (λ x. nodes_of (term_with l.place.known.now l.place.bodies.now l.place.scope.now x)) (take l.argument-index l.arguments)
