-- The equations of all folds over trees, by the outermost node.
use Rattle.type_pass.proofs.PartEquations.{part-true, part-false, part-literal, part-variable, part-apply, part-post, part-not, part-concat, part-equal, part-not_equal, part-and, part-or, part-implies, part-implied_by, part-equivalent, part-choice, part-select, part-store, part-extract}
use Rattle.type_pass.proofs.SortEquations as s
use Rattle.type_pass.proofs.StmtEquations.{faults-label, faults-assert, faults-assume, faults-havoc, faults-goto, faults-return, faults-break, faults-assign, faults-call, faults-if, faults-while, exprs-label, exprs-assert, exprs-assume, exprs-havoc, exprs-goto, exprs-return, exprs-break, exprs-assign, exprs-call, exprs-if, exprs-while}
use Rattle.bpl_type.proofs.TypedForms.{typed-label, typed-assert, typed-assume, typed-havoc, typed-goto, typed-return, typed-break, typed-assign, typed-call, typed-if, typed-while}
use Rattle.bpl_type.proofs.TermEquations.{term-true, term-false, term-literal, term-variable, term-apply, term-post, term-not, term-concat, term-equal, term-not_equal, term-and, term-or, term-implies, term-implied_by, term-equivalent, term-choice, term-select, term-store, term-extract}
use Rattle.type_pass.proofs.UseEquations.{uses-true, uses-false, uses-literal, uses-variable, uses-apply, uses-post, uses-not, uses-concat, uses-equal, uses-not_equal, uses-and, uses-or, uses-implies, uses-implied_by, uses-equivalent, uses-choice, uses-select, uses-store, uses-extract}
use Rattle.type_pass.proofs.PartEquations as p
use Rattle.bpl_type.proofs.TermEquations as t

pub ruleset equations = (p.on-select, p.on-store, p.on-extract, t.on-select, t.on-store, t.on-extract, s.of-boolean, s.of-bits, s.of-named, s.of-map, part-true, part-false, part-literal, part-variable, part-apply, part-post, part-not, part-concat, part-equal, part-not_equal, part-and, part-or, part-implies, part-implied_by, part-equivalent, part-choice, part-select, part-store, part-extract, s.part-boolean, s.part-bits, s.part-named, s.part-map, s.mentions-boolean, s.mentions-bits, s.mentions-named, s.mentions-map, s.resolved-boolean, s.resolved-bits, s.resolved-named, s.resolved-map, faults-label, faults-assert, faults-assume, faults-havoc, faults-goto, faults-return, faults-break, faults-assign, faults-call, faults-if, faults-while, exprs-label, exprs-assert, exprs-assume, exprs-havoc, exprs-goto, exprs-return, exprs-break, exprs-assign, exprs-call, exprs-if, exprs-while, typed-label, typed-assert, typed-assume, typed-havoc, typed-goto, typed-return, typed-break, typed-assign, typed-call, typed-if, typed-while, term-true, term-false, term-literal, term-variable, term-apply, term-post, term-not, term-concat, term-equal, term-not_equal, term-and, term-or, term-implies, term-implied_by, term-equivalent, term-choice, term-select, term-store, term-extract, uses-true, uses-false, uses-literal, uses-variable, uses-apply, uses-post, uses-not, uses-concat, uses-equal, uses-not_equal, uses-and, uses-or, uses-implies, uses-implied_by, uses-equivalent, uses-choice, uses-select, uses-store, uses-extract)
