-- What the steps of an `if` and of a `while` come to.
use Rattle.std.proofs.Common.{◌≡◌, ℕ, List, [], ◌∷◌, ◌++◌, Option, None, map, true, false, refl}
use Rattle.bpl_ast.specs.declared.name.Name.{Name}
use Rattle.bpl_flow.proofs.WalkEquations.{walk-if, walk-while}
use Rattle.bpl_flow.specs.Walk.{add_invariants, begin_body, begin_else, begin_part, end_if, end_while, go_all, in_block, is_broken, walk}
use Rattle.bpl_flow.specs.declared.state.Around.{Around}
use Rattle.bpl_flow.specs.declared.state.Current.{Current}
use Rattle.bpl_flow.specs.declared.state.Walk.{Walk}
use Rattle.bpl_type.specs.declared.typed.TypedInvariant.{TypedInvariant}
use Rattle.bpl_type.specs.declared.typed.TypedStmt.{TypedStmt}
use Rattle.bpl_type.specs.declared.typed.TypedStmt.TheVariants as stmts
use Rattle.hy_val.specs.declared.expr.ExprNode.{ExprNode}
use Rattle.src_prog.specs.declared.block.Cmd.{Cmd}
use Rattle.src_prog.specs.declared.proc.SrcLoop.{SrcLoop}

pub if-walked : (s : TypedStmt) (guard : Option (List ExprNode)) (part other part1 other1 : List TypedStmt) (a0 a1 a2 : List Around) (label : Option Name) (w0 w1 w2 w3 w4 w5 : Walk) (number second : ℕ) (before : Option Current)
    → s ≡ stmts.If guard part other
    → part1 ≡ part
    → other1 ≡ other
    → a1 ≡ a0 ++ record { statement = (in_block w0).made; label = label; is_loop = false } ∷ []
    → number ≡ (in_block w0).made
    → before ≡ (in_block w0).current
    → w1 ≡ begin_part guard (in_block w0)
    → a2 ≡ a1
    → w2 ≡ go_all (map walk part1) a1 None w1
    → second ≡ w2.made
    → w3 ≡ begin_else number guard w2
    → w4 ≡ go_all (map walk other1) a2 None w3
    → w5 ≡ end_if before number second w4
    → w5 ≡ (walk s).go a0 label w0
if-walked s guard part other part1 other1 a0 a1 a2 label w0 w1 w2 w3 w4 w5 number second before es ep eo ea1 en eb e1 ea2 e2 esecond e3 e4 e5 =
    rw (es, walk-if guard part other, e5, esecond, e4, e3, eo, ea2, e2, ep, ea1, e1, en, eb) refl

pub while-walked : (s : TypedStmt) (guard : Option (List ExprNode)) (invariants invariants1 : List TypedInvariant) (body body1 : List TypedStmt) (a0 a1 : List Around) (label : Option Name) (w0 w1 w2 w3 : Walk) (number : ℕ) (head : List Cmd) (loops : List SrcLoop)
    → s ≡ stmts.While guard invariants body
    → invariants1 ≡ invariants
    → body1 ≡ body
    → a1 ≡ a0 ++ record { statement = (in_block w0).made; label = label; is_loop = true } ∷ []
    → number ≡ (in_block w0).made
    → head ≡ (add_invariants invariants1 [] (in_block w0).asserts).0
    → loops ≡ (in_block w0).loops
    → w1 ≡ begin_body guard (add_invariants invariants1 [] (in_block w0).asserts).1 (in_block w0)
    → w2 ≡ go_all (map walk body1) a1 None w1
    → w3 ≡ end_while (is_broken guard number w2.breaks) guard number head loops w2
    → w3 ≡ (walk s).go a0 label w0
while-walked s guard invariants invariants1 body body1 a0 a1 label w0 w1 w2 w3 number head loops es ei eb ea1 en eh el e1 e2 e3 =
    rw (es, walk-while guard invariants body, e3, e2, eb, ea1, e1, en, eh, el, ei) refl
