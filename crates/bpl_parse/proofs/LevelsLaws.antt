-- What nests is lawful, where a level is left.
use Rattle.bpl_parse.specs.Reader.{as_sort, as_expr, as_impl, as_unary, as_stmts, as_if_rest, Levels}
use Rattle.bpl_rules.proofs.Laws.{Lawful}
use Rattle.bpl_rules.proofs.Nested.{AtBelow}

pub record LevelsAre (l : Levels) : Type 0 where
  pub sorts : AtBelow (λ r. Lawful (as_sort r)) l.sorts
  pub exprs : AtBelow (λ r. Lawful (as_expr r)) l.exprs
  pub impls : AtBelow (λ r. Lawful (as_impl r)) l.impls
  pub unaries : AtBelow (λ r. Lawful (as_unary r)) l.unaries
  pub blocks : AtBelow (λ r. Lawful (as_stmts r)) l.blocks
  pub ifs : AtBelow (λ r. Lawful (as_if_rest r)) l.ifs
