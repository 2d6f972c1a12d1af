use Rattle.std.proofs.Common.{◌≡◌, ◌++◌, drop}
use Rattle.std.specs.Prelude.{flat_map, filter_map}
use Rattle.type_pass.specs.Memos.{number_among}
use Rattle.type_pass.specs.Passes.{uses}
use Rattle.type_pass.specs.Uses.{in_bracket}
use Rattle.type_pass.proofs.uses.+uses.Given as goal

abbrev pub invariant-push_all-loop-expr : goal.invariant-push_all-loop-expr
invariant-push_all-loop-expr l = l.edges ++ flat_map (λ x. filter_map (number_among l.fn.numbers) (uses x)) (drop l.expr-index l.exprs) ≡ l.initial.edges ++ flat_map (λ x. filter_map (number_among l.fn.numbers) (uses x)) l.exprs

abbrev pub invariant-push_brackets-loop-bracket : goal.invariant-push_brackets-loop-bracket
invariant-push_brackets-loop-bracket l = l.edges ++ flat_map (λ b. filter_map (number_among l.fn.numbers) (in_bracket b)) (drop l.bracket-index l.brackets) ≡ l.initial.edges ++ flat_map (λ b. filter_map (number_among l.fn.numbers) (in_bracket b)) l.brackets
