use Rattle.std.proofs.Common.{◌≡◌, ◌<◌, true, false, sym, ◌∙◌, rules, arith, length}
use Rattle.bpl_ast.specs.Alike.{bare_stmt}
use Rattle.bpl_ast.specs.declared.stmt.Else.{out-Else}
use Rattle.bpl_ast.specs.declared.stmt.Else.TheOpen.{Else-F, Stmt-F}
use Rattle.bpl_ast.specs.declared.stmt.Else.TheVariants as o
use Rattle.bpl_ast.specs.declared.stmt.Stmt.{out-Stmt}
use Rattle.bpl_ast.specs.declared.stmt.Stmt.TheVariants as s
use Rattle.bpl_alike.proofs.ElseLaws as others
use Rattle.bpl_alike.proofs.ElseLaws.{both_parts}
use Rattle.bpl_alike.proofs.ListLaws.{differs}
use Rattle.bpl_alike.proofs.StmtLaws.{apart, both, turned, not-if, not-while}
use Rattle.bpl_alike.proofs.stmts.+statements.Goals as goal

pub stmts-returns-in-If-If : goal.stmts-returns-in-If-If
stmts-returns-in-If-If t c = let a = c.in-If-If in both (Stmt-F.Stmt::If a.x) (Stmt-F.Stmt::If a.y) (a.is-0 ∙ sym (s.rolls-If _)) (a.is-1 ∙ sym (s.rolls-If _)) (search rules)

pub stmts-returns-else-lists : goal.stmts-returns-else-lists
stmts-returns-else-lists t c = let a = c.in-While-While in both (Stmt-F.While a.at-0 a.f a.p a.x a.z) (Stmt-F.While a.at-1 a.g a.q a.y a.w) (a.is-0 ∙ sym (s.rolls-While _ _ _ _ _)) (a.is-1 ∙ sym (s.rolls-While _ _ _ _ _)) (search rules)

pub stmts-returns-else-is_like : goal.stmts-returns-else-is_like
stmts-returns-else-is_like t c = let a = c.in-While-While in both (Stmt-F.While a.at-0 a.f a.p a.x a.z) (Stmt-F.While a.at-1 a.g a.q a.y a.w) (a.is-0 ∙ sym (s.rolls-While _ _ _ _ _)) (a.is-1 ∙ sym (s.rolls-While _ _ _ _ _)) (search rules)

pub stmts-returns-then-lists-2 : goal.stmts-returns-then-lists-2
stmts-returns-then-lists-2 t c = let a = c.in-While-While in both (Stmt-F.While a.at-0 a.f a.p a.x a.z) (Stmt-F.While a.at-1 a.g a.q a.y a.w) (a.is-0 ∙ sym (s.rolls-While _ _ _ _ _)) (a.is-1 ∙ sym (s.rolls-While _ _ _ _ _)) (search rules)

pub stmts-returns-else-lists-2 : goal.stmts-returns-else-lists-2
stmts-returns-else-lists-2 t c = let a = c.in-While-While in both (Stmt-F.While a.at-0 a.f a.p a.x a.z) (Stmt-F.While a.at-1 a.g a.q a.y a.w) (a.is-0 ∙ sym (s.rolls-While _ _ _ _ _)) (a.is-1 ∙ sym (s.rolls-While _ _ _ _ _)) (search rules)

pub stmts-returns-in_default : goal.stmts-returns-in_default
stmts-returns-in_default t c = let a = c.in_default in apart c.args.b.now (Stmt-F.Stmt::If a.field-0-0) (a.is-0 ∙ sym (s.rolls-If _)) (not-if a.field-0-0 (out-Stmt c.args.b.now) (λ p0 is. a.not-If-1 p0 (turned c.args.b.now (Stmt-F.Stmt::If p0) is ∙ s.rolls-If p0)))

pub stmts-returns-in_default-2 : goal.stmts-returns-in_default-2
stmts-returns-in_default-2 t c = let a = c.in_default in apart c.args.b.now (Stmt-F.While a.field-0-0 a.field-1-0 a.field-2-0 a.field-3-0 a.field-4-0) (a.is-0 ∙ sym (s.rolls-While _ _ _ _ _)) (not-while a.field-0-0 a.field-1-0 a.field-2-0 a.field-3-0 a.field-4-0 (out-Stmt c.args.b.now) (λ p0 p1 p2 p3 p4 is. a.not-While-1 p0 p1 p2 p3 p4 (turned c.args.b.now (Stmt-F.While p0 p1 p2 p3 p4) is ∙ s.rolls-While p0 p1 p2 p3 p4)))

pub blocks-returns-then-not-stmts : goal.blocks-returns-then-not-stmts
blocks-returns-then-not-stmts t c =
    let here : c.loop-i.i < length c.args.a.now = omega arith in
    let there : c.loop-i.i < length c.args.b.now = omega arith in (
      λ h. absurd cc,
      λ same. absurd (differs bare_stmt c.args.a.now c.args.b.now c.loop-i.i c.index-a-i.result c.index-b-i.result here there c.index-a-i.is c.index-b-i.is
          (λ e. let yes : c.stmts.result ≡ true = c.stmts.ensures.1 e in let clash : true ≡ false = sym yes ∙ c.if-not-stmts.true in absurd cc) same),
    )

pub ifs-returns-else-lists : goal.ifs-returns-else-lists
ifs-returns-else-lists t c = both_parts c.args.a.now c.args.b.now (search rules)

pub ifs-returns-else-is_like : goal.ifs-returns-else-is_like
ifs-returns-else-is_like t c = both_parts c.args.a.now c.args.b.now (search rules)

pub ifs-returns-then-blocks : goal.ifs-returns-then-blocks
ifs-returns-then-blocks t c = both_parts c.args.a.now c.args.b.now (search rules)

pub ifs-returns-else-blocks : goal.ifs-returns-else-blocks
ifs-returns-else-blocks t c = both_parts c.args.a.now c.args.b.now (search rules)

pub elses-returns-in-Absent-Absent : goal.elses-returns-in-Absent-Absent
elses-returns-in-Absent-Absent t c = let a = c.in-Absent-Absent in others.both Else-F.Absent Else-F.Absent (a.is-0 ∙ sym o.rolls-Absent) (a.is-1 ∙ sym o.rolls-Absent) (search rules)

pub elses-returns-in-If-If : goal.elses-returns-in-If-If
elses-returns-in-If-If t c = let a = c.in-If-If in others.both (Else-F.Else::If a.x) (Else-F.Else::If a.y) (a.is-0 ∙ sym (o.rolls-If _)) (a.is-1 ∙ sym (o.rolls-If _)) (search rules)

pub elses-returns-in-Block-Block : goal.elses-returns-in-Block-Block
elses-returns-in-Block-Block t c = let a = c.in-Block-Block in others.both (Else-F.Block a.x) (Else-F.Block a.y) (a.is-0 ∙ sym (o.rolls-Block _)) (a.is-1 ∙ sym (o.rolls-Block _)) (search rules)

pub elses-returns-in_default : goal.elses-returns-in_default
elses-returns-in_default t c = let a = c.in_default in others.apart c.args.b.now Else-F.Absent (a.is-0 ∙ sym o.rolls-Absent) (others.not-absent (out-Else c.args.b.now) (λ is. a.not-Absent-1 (others.turned c.args.b.now Else-F.Absent is ∙ o.rolls-Absent)))

pub elses-returns-in_default-2 : goal.elses-returns-in_default-2
elses-returns-in_default-2 t c = let a = c.in_default in others.apart c.args.b.now (Else-F.Else::If a.field-0-0) (a.is-0 ∙ sym (o.rolls-If _)) (others.not-if a.field-0-0 (out-Else c.args.b.now) (λ p0 is. a.not-If-1 p0 (others.turned c.args.b.now (Else-F.Else::If p0) is ∙ o.rolls-If p0)))

pub elses-returns-in_default-3 : goal.elses-returns-in_default-3
elses-returns-in_default-3 t c = let a = c.in_default in others.apart c.args.b.now (Else-F.Block a.field-0-0) (a.is-0 ∙ sym (o.rolls-Block _)) (others.not-block a.field-0-0 (out-Else c.args.b.now) (λ p0 is. a.not-Block-1 p0 (others.turned c.args.b.now (Else-F.Block p0) is ∙ o.rolls-Block p0)))
