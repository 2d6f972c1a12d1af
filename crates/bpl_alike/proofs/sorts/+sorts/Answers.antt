use Rattle.std.proofs.Common.{rules, ◌∙◌, sym}
use Rattle.bpl_ast.specs.declared.sort.Sort.{out-Sort}
use Rattle.bpl_ast.specs.declared.sort.Sort.TheOpen.{Sort-F}
use Rattle.bpl_ast.specs.declared.sort.Sort.TheVariants.{rolls-Boolean, rolls-Named, rolls-Map, rolls-Bits}
use Rattle.bpl_alike.proofs.SortLaws.{both, apart, turned, not-boolean, not-bits, not-named, not-map}
use Rattle.bpl_alike.proofs.sorts.+sorts.Goals as goal

pub returns-in-Boolean-Boolean : goal.returns-in-Boolean-Boolean
returns-in-Boolean-Boolean t c = let a = c.in-Boolean-Boolean in both (Sort-F.Boolean a.at-0) (Sort-F.Boolean a.at-1) (a.is-0 ∙ sym (rolls-Boolean _)) (a.is-1 ∙ sym (rolls-Boolean _)) (search rules)

pub returns-in_default : goal.returns-in_default
returns-in_default t c = let a = c.in_default in apart c.args.b.now (Sort-F.Boolean a.field-0-0) (a.is-0 ∙ sym (rolls-Boolean _)) (not-boolean a.field-0-0 (out-Sort c.args.b.now) (λ at is. a.not-Boolean-1 at (turned c.args.b.now (Sort-F.Boolean at) is ∙ rolls-Boolean at)))

pub returns-in_default-2 : goal.returns-in_default-2
returns-in_default-2 t c = let a = c.in_default in apart c.args.b.now (Sort-F.Bits a.field-0-0 a.field-1-0 a.field-2-0) (a.is-0 ∙ sym (rolls-Bits _ _ _)) (not-bits a.field-0-0 a.field-1-0 a.field-2-0 (out-Sort c.args.b.now) (λ p q r is. a.not-Bits-1 p q r (turned c.args.b.now (Sort-F.Bits p q r) is ∙ rolls-Bits p q r)))

pub returns-in_default-3 : goal.returns-in_default-3
returns-in_default-3 t c = let a = c.in_default in apart c.args.b.now (Sort-F.Named a.field-0-0) (a.is-0 ∙ sym (rolls-Named _)) (not-named a.field-0-0 (out-Sort c.args.b.now) (λ p is. a.not-Named-1 p (turned c.args.b.now (Sort-F.Named p) is ∙ rolls-Named p)))

pub returns-in_default-4 : goal.returns-in_default-4
returns-in_default-4 t c = let a = c.in_default in apart c.args.b.now (Sort-F.Map a.field-0-0 a.field-1-0 a.field-2-0) (a.is-0 ∙ sym (rolls-Map _ _ _)) (not-map a.field-0-0 a.field-1-0 a.field-2-0 (out-Sort c.args.b.now) (λ p q r is. a.not-Map-1 p q r (turned c.args.b.now (Sort-F.Map p q r) is ∙ rolls-Map p q r)))

pub returns-then-w-v : goal.returns-then-w-v
returns-then-w-v t c = let a = c.in-Bits-Bits in both (Sort-F.Bits a.at-0 a.w a.x) (Sort-F.Bits a.at-1 a.v a.y) (a.is-0 ∙ sym (rolls-Bits _ _ _)) (a.is-1 ∙ sym (rolls-Bits _ _ _)) (search rules)

pub returns-else-w-v : goal.returns-else-w-v
returns-else-w-v t c = let a = c.in-Bits-Bits in both (Sort-F.Bits a.at-0 a.w a.x) (Sort-F.Bits a.at-1 a.v a.y) (a.is-0 ∙ sym (rolls-Bits _ _ _)) (a.is-1 ∙ sym (rolls-Bits _ _ _)) (search rules)

pub returns-in-Named-Named : goal.returns-in-Named-Named
returns-in-Named-Named t c = let a = c.in-Named-Named in both (Sort-F.Named a.x) (Sort-F.Named a.y) (a.is-0 ∙ sym (rolls-Named _)) (a.is-1 ∙ sym (rolls-Named _)) (search rules)

pub returns-then-sorts : goal.returns-then-sorts
returns-then-sorts t c = let a = c.in-Map-Map in both (Sort-F.Map a.at-0 a.i a.x) (Sort-F.Map a.at-1 a.j a.y) (a.is-0 ∙ sym (rolls-Map _ _ _)) (a.is-1 ∙ sym (rolls-Map _ _ _)) (search rules)

pub returns-else-sorts : goal.returns-else-sorts
returns-else-sorts t c = let a = c.in-Map-Map in both (Sort-F.Map a.at-0 a.i a.x) (Sort-F.Map a.at-1 a.j a.y) (a.is-0 ∙ sym (rolls-Map _ _ _)) (a.is-1 ∙ sym (rolls-Map _ _ _)) (search rules)
