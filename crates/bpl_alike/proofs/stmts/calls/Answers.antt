use Rattle.std.proofs.Common.{sym, ◌∙◌, rules}
use Rattle.bpl_ast.specs.declared.stmt.Else.TheOpen.{Stmt-F}
use Rattle.bpl_ast.specs.declared.stmt.Stmt.{out-Stmt}
use Rattle.bpl_ast.specs.declared.stmt.Stmt.TheVariants as s
use Rattle.bpl_alike.proofs.StmtLaws.{apart, both, turned, not-call}
use Rattle.bpl_alike.proofs.GroupLaws.{no_call}
use Rattle.bpl_alike.proofs.stmts.calls.Goals as goal

pub returns-else-lists : goal.returns-else-lists
returns-else-lists c = let a = c.in-Call-Call in both (Stmt-F.Call a.at-0 a.f a.x a.p a.z) (Stmt-F.Call a.at-1 a.g a.y a.q a.w) (a.is-0 ∙ sym (s.rolls-Call _ _ _ _ _)) (a.is-1 ∙ sym (s.rolls-Call _ _ _ _ _)) (search rules)

pub returns-else-lists-2 : goal.returns-else-lists-2
returns-else-lists-2 c = let a = c.in-Call-Call in both (Stmt-F.Call a.at-0 a.f a.x a.p a.z) (Stmt-F.Call a.at-1 a.g a.y a.q a.w) (a.is-0 ∙ sym (s.rolls-Call _ _ _ _ _)) (a.is-1 ∙ sym (s.rolls-Call _ _ _ _ _)) (search rules)

pub returns-then-is_like : goal.returns-then-is_like
returns-then-is_like c = let a = c.in-Call-Call in both (Stmt-F.Call a.at-0 a.f a.x a.p a.z) (Stmt-F.Call a.at-1 a.g a.y a.q a.w) (a.is-0 ∙ sym (s.rolls-Call _ _ _ _ _)) (a.is-1 ∙ sym (s.rolls-Call _ _ _ _ _)) (search rules)

pub returns-else-is_like : goal.returns-else-is_like
returns-else-is_like c = let a = c.in-Call-Call in both (Stmt-F.Call a.at-0 a.f a.x a.p a.z) (Stmt-F.Call a.at-1 a.g a.y a.q a.w) (a.is-0 ∙ sym (s.rolls-Call _ _ _ _ _)) (a.is-1 ∙ sym (s.rolls-Call _ _ _ _ _)) (search rules)

pub returns-in_default : goal.returns-in_default
returns-in_default c = let a = c.in_default in apart c.args.b.now (Stmt-F.Call a.field-0-0 a.field-1-0 a.field-2-0 a.field-3-0 a.field-4-0) (a.is-0 ∙ sym (s.rolls-Call _ _ _ _ _)) (not-call a.field-0-0 a.field-1-0 a.field-2-0 a.field-3-0 a.field-4-0 (out-Stmt c.args.b.now) (λ p0 p1 p2 p3 p4 is. a.not-Call-1 p0 p1 p2 p3 p4 (turned c.args.b.now (Stmt-F.Call p0 p1 p2 p3 p4) is ∙ s.rolls-Call p0 p1 p2 p3 p4)))

pub returns-in_default-2 : goal.returns-in_default-2
returns-in_default-2 c = absurd (no_call c.args.a.now c.requires c.in_default.not-Call-0)
