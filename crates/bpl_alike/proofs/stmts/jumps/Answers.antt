use Rattle.std.proofs.Common.{sym, ◌∙◌, rules}
use Rattle.bpl_ast.specs.declared.stmt.Else.TheOpen.{Stmt-F}
use Rattle.bpl_ast.specs.declared.stmt.Stmt.{out-Stmt}
use Rattle.bpl_ast.specs.declared.stmt.Stmt.TheVariants as s
use Rattle.bpl_alike.proofs.StmtLaws.{apart, both, turned, not-label, not-goto, not-return, not-break}
use Rattle.bpl_alike.proofs.GroupLaws.{no_jump}
use Rattle.bpl_alike.proofs.stmts.jumps.Goals as goal

pub returns-in-Label-Label : goal.returns-in-Label-Label
returns-in-Label-Label c = let a = c.in-Label-Label in both (Stmt-F.Label a.x) (Stmt-F.Label a.y) (a.is-0 ∙ sym (s.rolls-Label _)) (a.is-1 ∙ sym (s.rolls-Label _)) (search rules)

pub returns-then-lists : goal.returns-then-lists
returns-then-lists c = let a = c.in-Goto-Goto in both (Stmt-F.Goto a.at-0 a.f a.x) (Stmt-F.Goto a.at-1 a.g a.y) (a.is-0 ∙ sym (s.rolls-Goto _ _ _)) (a.is-1 ∙ sym (s.rolls-Goto _ _ _)) (search rules)

pub returns-else-lists : goal.returns-else-lists
returns-else-lists c = let a = c.in-Goto-Goto in both (Stmt-F.Goto a.at-0 a.f a.x) (Stmt-F.Goto a.at-1 a.g a.y) (a.is-0 ∙ sym (s.rolls-Goto _ _ _)) (a.is-1 ∙ sym (s.rolls-Goto _ _ _)) (search rules)

pub returns-in-Return-Return : goal.returns-in-Return-Return
returns-in-Return-Return c = let a = c.in-Return-Return in both (Stmt-F.Return a.at-0 a.f) (Stmt-F.Return a.at-1 a.g) (a.is-0 ∙ sym (s.rolls-Return _ _)) (a.is-1 ∙ sym (s.rolls-Return _ _)) (search rules)

pub returns-then-lists-2 : goal.returns-then-lists-2
returns-then-lists-2 c = let a = c.in-Break-Break in both (Stmt-F.Break a.at-0 a.f a.x) (Stmt-F.Break a.at-1 a.g a.y) (a.is-0 ∙ sym (s.rolls-Break _ _ _)) (a.is-1 ∙ sym (s.rolls-Break _ _ _)) (search rules)

pub returns-else-lists-2 : goal.returns-else-lists-2
returns-else-lists-2 c = let a = c.in-Break-Break in both (Stmt-F.Break a.at-0 a.f a.x) (Stmt-F.Break a.at-1 a.g a.y) (a.is-0 ∙ sym (s.rolls-Break _ _ _)) (a.is-1 ∙ sym (s.rolls-Break _ _ _)) (search rules)

pub returns-in_default : goal.returns-in_default
returns-in_default c = let a = c.in_default in apart c.args.b.now (Stmt-F.Label a.field-0-0) (a.is-0 ∙ sym (s.rolls-Label _)) (not-label a.field-0-0 (out-Stmt c.args.b.now) (λ p0 is. a.not-Label-1 p0 (turned c.args.b.now (Stmt-F.Label p0) is ∙ s.rolls-Label p0)))

pub returns-in_default-2 : goal.returns-in_default-2
returns-in_default-2 c = let a = c.in_default in apart c.args.b.now (Stmt-F.Goto a.field-0-0 a.field-1-0 a.field-2-0) (a.is-0 ∙ sym (s.rolls-Goto _ _ _)) (not-goto a.field-0-0 a.field-1-0 a.field-2-0 (out-Stmt c.args.b.now) (λ p0 p1 p2 is. a.not-Goto-1 p0 p1 p2 (turned c.args.b.now (Stmt-F.Goto p0 p1 p2) is ∙ s.rolls-Goto p0 p1 p2)))

pub returns-in_default-3 : goal.returns-in_default-3
returns-in_default-3 c = let a = c.in_default in apart c.args.b.now (Stmt-F.Return a.field-0-0 a.field-1-0) (a.is-0 ∙ sym (s.rolls-Return _ _)) (not-return a.field-0-0 a.field-1-0 (out-Stmt c.args.b.now) (λ p0 p1 is. a.not-Return-1 p0 p1 (turned c.args.b.now (Stmt-F.Return p0 p1) is ∙ s.rolls-Return p0 p1)))

pub returns-in_default-4 : goal.returns-in_default-4
returns-in_default-4 c = let a = c.in_default in apart c.args.b.now (Stmt-F.Break a.field-0-0 a.field-1-0 a.field-2-0) (a.is-0 ∙ sym (s.rolls-Break _ _ _)) (not-break a.field-0-0 a.field-1-0 a.field-2-0 (out-Stmt c.args.b.now) (λ p0 p1 p2 is. a.not-Break-1 p0 p1 p2 (turned c.args.b.now (Stmt-F.Break p0 p1 p2) is ∙ s.rolls-Break p0 p1 p2)))

pub returns-in_default-5 : goal.returns-in_default-5
returns-in_default-5 c = absurd (no_jump c.args.a.now c.requires c.in_default.not-Label-0 c.in_default.not-Goto-0 c.in_default.not-Return-0 c.in_default.not-Break-0)
