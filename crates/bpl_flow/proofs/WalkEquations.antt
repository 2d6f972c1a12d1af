-- What a statement does in the walk, by its outermost node.
use Rattle.std.proofs.Common.{◌≡◌, ℕ, List, Option, map, rules}
use Rattle.bpl_ast.specs.declared.name.Name.{Name}
use Rattle.bpl_flow.specs.Walk.{step, walk}
use Rattle.bpl_type.specs.declared.typed.TypedInvariant.{TypedInvariant}
use Rattle.bpl_type.specs.declared.typed.TypedStmt.{TypedStmt}
use Rattle.bpl_type.specs.declared.typed.TypedStmt.TheFolds.{the_lemmas}
use Rattle.bpl_type.specs.declared.typed.TypedStmt.TheOpen.{TypedStmt-F}
use Rattle.bpl_type.specs.declared.typed.TypedStmt.TheVariants as stmts
use Rattle.hy_val.specs.declared.expr.ExprNode.{ExprNode}
use Rattle.hy_val.specs.declared.expr.Var.{Var}

pub walk-label : (name : Name) → walk (stmts.Label name) ≡ step (TypedStmt-F.Label name)
unfolding walk
walk-label name = search (rules, the_lemmas)

pub walk-assert : (c : List ExprNode) → walk (stmts.Assert c) ≡ step (TypedStmt-F.Assert c)
unfolding walk
walk-assert c = search (rules, the_lemmas)

pub walk-assume : (c : List ExprNode) → walk (stmts.Assume c) ≡ step (TypedStmt-F.Assume c)
unfolding walk
walk-assume c = search (rules, the_lemmas)

pub walk-havoc : (vars : List Var) → walk (stmts.Havoc vars) ≡ step (TypedStmt-F.Havoc vars)
unfolding walk
walk-havoc vars = search (rules, the_lemmas)

pub walk-goto : (labels : List Name) → walk (stmts.Goto labels) ≡ step (TypedStmt-F.Goto labels)
unfolding walk
walk-goto labels = search (rules, the_lemmas)

pub walk-return : walk stmts.Return ≡ step TypedStmt-F.Return
unfolding walk
walk-return = search (rules, the_lemmas)

pub walk-break : (at : ℕ) (label : Option Name) → walk (stmts.Break at label) ≡ step (TypedStmt-F.Break at label)
unfolding walk
walk-break at label = search (rules, the_lemmas)

pub walk-assign : (pairs : List (Var × List ExprNode)) → walk (stmts.Assign pairs) ≡ step (TypedStmt-F.Assign pairs)
unfolding walk
walk-assign pairs = search (rules, the_lemmas)

pub walk-call : (proc : ℕ) (args : List (List ExprNode)) (outs : List Var) → walk (stmts.Call proc args outs) ≡ step (TypedStmt-F.Call proc args outs)
unfolding walk
walk-call proc args outs = search (rules, the_lemmas)

pub walk-if : (guard : Option (List ExprNode)) (part other : List TypedStmt) → walk (stmts.If guard part other) ≡ step (TypedStmt-F.If guard (map walk part) (map walk other))
unfolding walk
walk-if guard part other = search (rules, the_lemmas)

pub walk-while : (guard : Option (List ExprNode)) (invariants : List TypedInvariant) (body : List TypedStmt) → walk (stmts.While guard invariants body) ≡ step (TypedStmt-F.While guard invariants (map walk body))
unfolding walk
walk-while guard invariants body = search (rules, the_lemmas)

pub ruleset walks = (walk-label, walk-assert, walk-assume, walk-havoc, walk-goto, walk-return, walk-break, walk-assign, walk-call, walk-if, walk-while)
