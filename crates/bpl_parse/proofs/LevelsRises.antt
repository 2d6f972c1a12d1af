-- What nests at one level fewer and at these, where a level is left.
use Rattle.bpl_parse.specs.Reader.{Reader, as_sort, as_expr, as_impl, as_unary, as_stmts, as_if_rest, Levels}
use Rattle.bpl_rules.proofs.Nested.{BelowRise}
use Rattle.bpl_rules.proofs.Rises.{Rises, HasExample}

abbrev pub Goes : {A : Type 0} → Reader A → Reader A → Type 0
Goes r q = Rises r q × HasExample q

pub record LevelsRise (l m : Levels) : Type 0 where
  pub sorts : BelowRise (λ q. Unit {0}) (λ r q. Goes (as_sort r) (as_sort q)) l.sorts m.sorts
  pub exprs : BelowRise (λ q. Unit {0}) (λ r q. Goes (as_expr r) (as_expr q)) l.exprs m.exprs
  pub impls : BelowRise (λ q. Unit {0}) (λ r q. Goes (as_impl r) (as_impl q)) l.impls m.impls
  pub unaries : BelowRise (λ q. Unit {0}) (λ r q. Goes (as_unary r) (as_unary q)) l.unaries m.unaries
  pub blocks : BelowRise (λ q. HasExample (as_stmts q)) (λ r q. Goes (as_stmts r) (as_stmts q)) l.blocks m.blocks
  pub ifs : BelowRise (λ q. Unit {0}) (λ r q. Goes (as_if_rest r) (as_if_rest q)) l.ifs m.ifs
