use Rattle.std.proofs.Common.{sym, ◌∙◌, rules}
use Rattle.bpl_ast.specs.declared.stmt.Else.TheOpen.{Stmt-F}
use Rattle.bpl_ast.specs.declared.stmt.Stmt.{out-Stmt}
use Rattle.bpl_ast.specs.declared.stmt.Stmt.TheVariants as s
use Rattle.bpl_alike.proofs.StmtLaws.{apart, both, turned, not-assert, not-assume}
use Rattle.bpl_alike.proofs.GroupLaws.{no_claim}
use Rattle.bpl_alike.proofs.stmts.claims.Goals as goal

pub returns-then-lists : goal.returns-then-lists
returns-then-lists c = let a = c.in-Assert-Assert in both (Stmt-F.Assert a.at-0 a.f a.x) (Stmt-F.Assert a.at-1 a.g a.y) (a.is-0 ∙ sym (s.rolls-Assert _ _ _)) (a.is-1 ∙ sym (s.rolls-Assert _ _ _)) (search rules)

pub returns-else-lists : goal.returns-else-lists
returns-else-lists c = let a = c.in-Assert-Assert in both (Stmt-F.Assert a.at-0 a.f a.x) (Stmt-F.Assert a.at-1 a.g a.y) (a.is-0 ∙ sym (s.rolls-Assert _ _ _)) (a.is-1 ∙ sym (s.rolls-Assert _ _ _)) (search rules)

pub returns-then-lists-2 : goal.returns-then-lists-2
returns-then-lists-2 c = let a = c.in-Assume-Assume in both (Stmt-F.Assume a.at-0 a.f a.x) (Stmt-F.Assume a.at-1 a.g a.y) (a.is-0 ∙ sym (s.rolls-Assume _ _ _)) (a.is-1 ∙ sym (s.rolls-Assume _ _ _)) (search rules)

pub returns-else-lists-2 : goal.returns-else-lists-2
returns-else-lists-2 c = let a = c.in-Assume-Assume in both (Stmt-F.Assume a.at-0 a.f a.x) (Stmt-F.Assume a.at-1 a.g a.y) (a.is-0 ∙ sym (s.rolls-Assume _ _ _)) (a.is-1 ∙ sym (s.rolls-Assume _ _ _)) (search rules)

pub returns-in_default : goal.returns-in_default
returns-in_default c = let a = c.in_default in apart c.args.b.now (Stmt-F.Assert a.field-0-0 a.field-1-0 a.field-2-0) (a.is-0 ∙ sym (s.rolls-Assert _ _ _)) (not-assert a.field-0-0 a.field-1-0 a.field-2-0 (out-Stmt c.args.b.now) (λ p0 p1 p2 is. a.not-Assert-1 p0 p1 p2 (turned c.args.b.now (Stmt-F.Assert p0 p1 p2) is ∙ s.rolls-Assert p0 p1 p2)))

pub returns-in_default-2 : goal.returns-in_default-2
returns-in_default-2 c = let a = c.in_default in apart c.args.b.now (Stmt-F.Assume a.field-0-0 a.field-1-0 a.field-2-0) (a.is-0 ∙ sym (s.rolls-Assume _ _ _)) (not-assume a.field-0-0 a.field-1-0 a.field-2-0 (out-Stmt c.args.b.now) (λ p0 p1 p2 is. a.not-Assume-1 p0 p1 p2 (turned c.args.b.now (Stmt-F.Assume p0 p1 p2) is ∙ s.rolls-Assume p0 p1 p2)))

pub returns-in_default-3 : goal.returns-in_default-3
returns-in_default-3 c = absurd (no_claim c.args.a.now c.requires c.in_default.not-Assert-0 c.in_default.not-Assume-0)
