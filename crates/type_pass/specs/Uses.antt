-- The functions that brackets and functions use.
use Rattle.std.specs.Prelude.{ℕ, List, filter_map}
use Rattle.bpl_ast.specs.declared.decl.Function.{Function}
use Rattle.bpl_ast.specs.declared.expr.Bracket.{Bracket}
use Rattle.bpl_ast.specs.declared.expr.Bracket.TheFolds.{fold-Bracket}
use Rattle.type_pass.specs.Memos.{number_among}
use Rattle.type_pass.specs.Passes.{bracket_uses, expr_uses, uses_if}

-- those that a bracket uses
unfoldable pub in_bracket : Bracket → List (List ℕ)
in_bracket = fold-Bracket (List (List ℕ)) (List (List ℕ)) bracket_uses expr_uses

-- the numbers of those that a function uses
abbrev pub used_numbers : List (List ℕ) → Function → List ℕ
used_numbers names f = filter_map (number_among names) (uses_if f.body)
