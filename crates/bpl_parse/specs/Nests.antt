-- A function value that reads what nests in an expression, to less than a depth.
use Rattle.std.specs.Prelude.{◌≡◌, ◌<◌, ◌-◌, ℕ, List, Result}
use Rattle.std.specs.declared.alloc.Global.{Global}
use denote.Ref.{Bor}
use Rattle.bpl_ast.specs.declared.expr.Expr.{Expr}
use Rattle.bpl_parse.specs.Decls.{levels}
use Rattle.bpl_parse.specs.Exprs.{expr, nested_expr}
use Rattle.bpl_parse.specs.Gives.{Gives}
use Rattle.bpl_parse.specs.Reader.{Reader}
use Rattle.bpl_parse.specs.declared.error.ReadError.{ReadError}
use Rattle.bpl_parse.specs.declared.parts.Level.{Level}
use Rattle.bpl_tok.specs.declared.token.Token.{Token}

pub record Nests (source : List ℕ) (depth : ℕ) (pre : Global → Bor (List ℕ) → Level → ℕ → Bor (List Token) → Type 0)
    (post : Global → Bor (List ℕ) → Level → ℕ → Bor (List Token) → Result (Expr × Bor (List Token)) ReadError → Type 0) : Type 0 where
  pub callable : (alloc : Global) (s : Bor (List ℕ)) (level : Level) (n : ℕ) (tokens : Bor (List Token)) → s.now ≡ source → n < depth → pre alloc s level n tokens
  pub reads : (alloc : Global) (s : Bor (List ℕ)) (level : Level) (n : ℕ) (tokens : Bor (List Token)) (r : Result (Expr × Bor (List Token)) ReadError) → s.now ≡ source → n < depth → post alloc s level n tokens r
      → Gives (λ x. (x.0, x.1.now)) r ((nested_expr level source (levels source n)).run tokens.now)

-- an expression inside a form that nests
abbrev pub inner_expr : List ℕ → ℕ → Reader Expr
inner_expr source depth = expr source (levels source (depth - 1))
