use Rattle.std.proofs.Common.{sym, ◌∙◌, rules}
use Rattle.bpl_ast.specs.declared.stmt.Else.TheOpen.{Stmt-F}
use Rattle.bpl_ast.specs.declared.stmt.Stmt.{out-Stmt}
use Rattle.bpl_ast.specs.declared.stmt.Stmt.TheVariants as s
use Rattle.bpl_alike.proofs.StmtLaws.{apart, both, turned, not-havoc, not-assign}
use Rattle.bpl_alike.proofs.GroupLaws.{no_update}
use Rattle.bpl_alike.proofs.stmts.updates.Goals as goal

pub returns-then-lists : goal.returns-then-lists
returns-then-lists c = let a = c.in-Havoc-Havoc in both (Stmt-F.Havoc a.at-0 a.f a.x) (Stmt-F.Havoc a.at-1 a.g a.y) (a.is-0 ∙ sym (s.rolls-Havoc _ _ _)) (a.is-1 ∙ sym (s.rolls-Havoc _ _ _)) (search rules)

pub returns-else-lists : goal.returns-else-lists
returns-else-lists c = let a = c.in-Havoc-Havoc in both (Stmt-F.Havoc a.at-0 a.f a.x) (Stmt-F.Havoc a.at-1 a.g a.y) (a.is-0 ∙ sym (s.rolls-Havoc _ _ _)) (a.is-1 ∙ sym (s.rolls-Havoc _ _ _)) (search rules)

pub returns-then-lists-2 : goal.returns-then-lists-2
returns-then-lists-2 c = let a = c.in-Assign-Assign in both (Stmt-F.Assign a.at-0 a.x a.z) (Stmt-F.Assign a.at-1 a.y a.w) (a.is-0 ∙ sym (s.rolls-Assign _ _ _)) (a.is-1 ∙ sym (s.rolls-Assign _ _ _)) (search rules)

pub returns-else-lists-2 : goal.returns-else-lists-2
returns-else-lists-2 c = let a = c.in-Assign-Assign in both (Stmt-F.Assign a.at-0 a.x a.z) (Stmt-F.Assign a.at-1 a.y a.w) (a.is-0 ∙ sym (s.rolls-Assign _ _ _)) (a.is-1 ∙ sym (s.rolls-Assign _ _ _)) (search rules)

pub returns-in_default : goal.returns-in_default
returns-in_default c = let a = c.in_default in apart c.args.b.now (Stmt-F.Havoc a.field-0-0 a.field-1-0 a.field-2-0) (a.is-0 ∙ sym (s.rolls-Havoc _ _ _)) (not-havoc a.field-0-0 a.field-1-0 a.field-2-0 (out-Stmt c.args.b.now) (λ p0 p1 p2 is. a.not-Havoc-1 p0 p1 p2 (turned c.args.b.now (Stmt-F.Havoc p0 p1 p2) is ∙ s.rolls-Havoc p0 p1 p2)))

pub returns-in_default-2 : goal.returns-in_default-2
returns-in_default-2 c = let a = c.in_default in apart c.args.b.now (Stmt-F.Assign a.field-0-0 a.field-1-0 a.field-2-0) (a.is-0 ∙ sym (s.rolls-Assign _ _ _)) (not-assign a.field-0-0 a.field-1-0 a.field-2-0 (out-Stmt c.args.b.now) (λ p0 p1 p2 is. a.not-Assign-1 p0 p1 p2 (turned c.args.b.now (Stmt-F.Assign p0 p1 p2) is ∙ s.rolls-Assign p0 p1 p2)))

pub returns-in_default-3 : goal.returns-in_default-3
returns-in_default-3 c = absurd (no_update c.args.a.now c.requires c.in_default.not-Havoc-0 c.in_default.not-Assign-0)
