-- The flow of small bodies, computed.
use Rattle.std.proofs.Common.{◌≡◌, refl, List, [], ◌∷◌, None, Some, true, false}
use Rattle.bpl_ast.specs.declared.name.Name.{Name}
use Rattle.bpl_flow.specs.Flow.{walked, blocks_of, faults_of, first_fault}
use Rattle.bpl_flow.proofs.WalkEquations.{walk-label, walk-assert, walk-goto, walk-return, walk-break, walk-if, walk-while}
use Rattle.bpl_flow.specs.declared.fault.FlowKind.TheVariants as tells
use Rattle.bpl_type.specs.declared.typed.TypedBody.{TypedBody}
use Rattle.bpl_type.specs.declared.typed.TypedStmt.{TypedStmt}
use Rattle.bpl_type.specs.declared.typed.TypedStmt.TheVariants as stmts
use Rattle.hy_val.specs.declared.expr.ExprNode.{ExprNode}
use Rattle.hy_val.specs.declared.expr.ExprNode.TheVariants.{Unary}
use Rattle.hy_val.specs.declared.operator.UnOp.TheVariants.{Not}
use Rattle.src_prog.specs.declared.block.Cmd.TheVariants.{Assume, Assert}
use Rattle.src_prog.specs.declared.block.Next.TheVariants.{Goto, Return}

abbrev body_of : List TypedStmt → TypedBody
body_of statements = record { locals = []; statements = statements }

-- `while (x) { break; } assert y;`: the negated guard stands in a block of its own, which the break passes by
broken_loop : (x : ExprNode) (y : List ExprNode) → blocks_of (walked (body_of (stmts.While (Some (x ∷ [])) [] (stmts.Break 13 None ∷ []) ∷ stmts.Assert y ∷ [])))
    ≡ record { cmds = []; next = Goto (1 ∷ []) }
    ∷ record { cmds = []; next = Goto (2 ∷ 3 ∷ []) }
    ∷ record { cmds = Assume (x ∷ []) ∷ []; next = Goto (4 ∷ []) }
    ∷ record { cmds = Assume (x ∷ Unary Not 0 ∷ []) ∷ []; next = Goto (4 ∷ []) }
    ∷ record { cmds = Assert 1 y ∷ []; next = Return } ∷ []
broken_loop x y = rw (walk-while (Some (x ∷ [])) [] (stmts.Break 13 None ∷ []), walk-break 13 None, walk-assert y) refl

-- `while (x) { } assert y;`
plain_loop : (x : ExprNode) (y : List ExprNode) → blocks_of (walked (body_of (stmts.While (Some (x ∷ [])) [] [] ∷ stmts.Assert y ∷ [])))
    ≡ record { cmds = []; next = Goto (1 ∷ []) }
    ∷ record { cmds = []; next = Goto (2 ∷ 3 ∷ []) }
    ∷ record { cmds = Assume (x ∷ []) ∷ []; next = Goto (1 ∷ []) }
    ∷ record { cmds = Assume (x ∷ Unary Not 0 ∷ []) ∷ Assert 1 y ∷ []; next = Return } ∷ []
plain_loop x y = rw (walk-while (Some (x ∷ [])) [] [], walk-assert y) refl

-- `if (*) { assert x; } assert y;`: an else part is made, also where there is none
one_sided : (x y : List ExprNode) → blocks_of (walked (body_of (stmts.If None (stmts.Assert x ∷ []) [] ∷ stmts.Assert y ∷ [])))
    ≡ record { cmds = []; next = Goto (1 ∷ 2 ∷ []) }
    ∷ record { cmds = Assert 1 x ∷ []; next = Goto (3 ∷ []) }
    ∷ record { cmds = []; next = Goto (3 ∷ []) }
    ∷ record { cmds = Assert 2 y ∷ []; next = Return } ∷ []
one_sided x y = rw (walk-if None (stmts.Assert x ∷ []) [], walk-assert x, walk-assert y) refl

abbrev a_label : Name
a_label = record { at = 7; text = 65 ∷ [] }

-- `goto A; assert x; A:`: the assert stands in a block that nothing reaches
jump_forward : (x : List ExprNode) → blocks_of (walked (body_of (stmts.Goto (a_label ∷ []) ∷ stmts.Assert x ∷ stmts.Label a_label ∷ [])))
    ≡ record { cmds = []; next = Goto (2 ∷ []) }
    ∷ record { cmds = Assert 1 x ∷ []; next = Goto (2 ∷ []) }
    ∷ record { cmds = []; next = Return } ∷ []
jump_forward x = rw (walk-goto (a_label ∷ []), walk-assert x, walk-label a_label) refl

-- `A: goto A;`
jump_back : faults_of (body_of (stmts.Label a_label ∷ stmts.Goto (a_label ∷ []) ∷ [])) ≡ record { at = 7; kind = tells.NotForward } ∷ []
jump_back = rw (walk-goto (a_label ∷ []), walk-label a_label) refl

-- `goto A; while (*) { A: }`
jump_inside : faults_of (body_of (stmts.Goto (a_label ∷ []) ∷ stmts.While None [] (stmts.Label a_label ∷ []) ∷ [])) ≡ record { at = 7; kind = tells.NotForward } ∷ []
jump_inside = rw (walk-goto (a_label ∷ []), walk-while None [] (stmts.Label a_label ∷ []), walk-label a_label) refl

-- `goto A; if (*) { A: }`
jump_into_if : faults_of (body_of (stmts.Goto (a_label ∷ []) ∷ stmts.If None (stmts.Label a_label ∷ []) [] ∷ [])) ≡ []
jump_into_if = rw (walk-goto (a_label ∷ []), walk-if None (stmts.Label a_label ∷ []) [], walk-label a_label) refl

-- `break A;`, and `A: if (*) { break A; }`, and `A: assert x; if (*) { break A; }`
break_outside : faults_of (body_of (stmts.Break 3 (Some a_label) ∷ [])) ≡ record { at = 3; kind = tells.BreakOutside } ∷ []
break_outside = rw (walk-break 3 (Some a_label)) refl

break_labelled : faults_of (body_of (stmts.Label a_label ∷ stmts.If None (stmts.Break 3 (Some a_label) ∷ []) [] ∷ [])) ≡ []
break_labelled = rw (walk-label a_label, walk-if None (stmts.Break 3 (Some a_label) ∷ []) [], walk-break 3 (Some a_label)) refl

break_past : (x : List ExprNode) → faults_of (body_of (stmts.Label a_label ∷ stmts.Assert x ∷ stmts.If None (stmts.Break 3 (Some a_label) ∷ []) [] ∷ [])) ≡ record { at = 3; kind = tells.BreakOutside } ∷ []
break_past x = rw (walk-label a_label, walk-assert x, walk-if None (stmts.Break 3 (Some a_label) ∷ []) [], walk-break 3 (Some a_label)) refl

abbrev b_label : Name
b_label = record { at = 9; text = 66 ∷ [] }

-- `A: B: while (*) { break A; }`: the last label alone stands directly before the loop
break_far_label : faults_of (body_of (stmts.Label a_label ∷ stmts.Label b_label ∷ stmts.While None [] (stmts.Break 13 (Some a_label) ∷ []) ∷ [])) ≡ record { at = 13; kind = tells.BreakOutside } ∷ []
break_far_label = rw (walk-label a_label, walk-label b_label, walk-while None [] (stmts.Break 13 (Some a_label) ∷ []), walk-break 13 (Some a_label)) refl

-- `A: B: while (*) { break B; }`
break_near_label : faults_of (body_of (stmts.Label a_label ∷ stmts.Label b_label ∷ stmts.While None [] (stmts.Break 13 (Some b_label) ∷ []) ∷ [])) ≡ []
break_near_label = rw (walk-label a_label, walk-label b_label, walk-while None [] (stmts.Break 13 (Some b_label) ∷ []), walk-break 13 (Some b_label)) refl

-- `return; if (*) { }`: a block is made, which then goes to both parts
if_behind_return : blocks_of (walked (body_of (stmts.Return ∷ stmts.If None [] [] ∷ [])))
    ≡ record { cmds = []; next = Return }
    ∷ record { cmds = []; next = Goto (2 ∷ 3 ∷ []) }
    ∷ record { cmds = []; next = Goto (4 ∷ []) }
    ∷ record { cmds = []; next = Goto (4 ∷ []) }
    ∷ record { cmds = []; next = Return } ∷ []
if_behind_return = rw (walk-return, walk-if None [] []) refl

-- `return; while (*) { }`
while_behind_return : blocks_of (walked (body_of (stmts.Return ∷ stmts.While None [] [] ∷ [])))
    ≡ record { cmds = []; next = Return }
    ∷ record { cmds = []; next = Goto (2 ∷ []) }
    ∷ record { cmds = []; next = Goto (3 ∷ 4 ∷ []) }
    ∷ record { cmds = []; next = Goto (2 ∷ []) }
    ∷ record { cmds = []; next = Return } ∷ []
while_behind_return = rw (walk-return, walk-while None [] []) refl

-- `goto A, A; A:`: two targets
goto_twice : blocks_of (walked (body_of (stmts.Goto (a_label ∷ a_label ∷ []) ∷ stmts.Label a_label ∷ [])))
    ≡ record { cmds = []; next = Goto (1 ∷ 1 ∷ []) }
    ∷ record { cmds = []; next = Return } ∷ []
goto_twice = rw (walk-goto (a_label ∷ a_label ∷ []), walk-label a_label) refl

-- `goto A; A: A:`: the goto means the first place, and the second one alone is told
label_twice : faults_of (body_of (stmts.Goto (a_label ∷ []) ∷ stmts.Label a_label ∷ stmts.Label a_label ∷ [])) ≡ record { at = 7; kind = tells.LabelTwice } ∷ []
label_twice = rw (walk-goto (a_label ∷ []), walk-label a_label) refl

label_first : blocks_of (walked (body_of (stmts.Goto (a_label ∷ []) ∷ stmts.Label a_label ∷ stmts.Label a_label ∷ [])))
    ≡ record { cmds = []; next = Goto (1 ∷ []) }
    ∷ record { cmds = []; next = Goto (2 ∷ []) }
    ∷ record { cmds = []; next = Return } ∷ []
label_first = rw (walk-goto (a_label ∷ []), walk-label a_label) refl

-- invariants are numbered before the asserts of the body, and a free one is assumed
invariants_first : (x y z : List ExprNode) → blocks_of (walked (body_of (stmts.While None (record { free = false; condition = x } ∷ record { free = true; condition = y } ∷ []) (stmts.Assert z ∷ []) ∷ [])))
    ≡ record { cmds = []; next = Goto (1 ∷ []) }
    ∷ record { cmds = Assert 1 x ∷ Assume y ∷ []; next = Goto (2 ∷ 3 ∷ []) }
    ∷ record { cmds = Assert 2 z ∷ []; next = Goto (1 ∷ []) }
    ∷ record { cmds = []; next = Return } ∷ []
invariants_first x y z = rw (walk-while None (record { free = false; condition = x } ∷ record { free = true; condition = y } ∷ []) (stmts.Assert z ∷ []), walk-assert z) refl

-- an inner loop stands behind the one around it, and its exit is within
loops_inside : (walked (body_of (stmts.While None [] (stmts.While None [] [] ∷ []) ∷ []))).loops ≡ record { head = 1; exit = 6 } ∷ record { head = 3; exit = 5 } ∷ []
loops_inside = rw (walk-while None [] (stmts.While None [] [] ∷ []), walk-while None [] []) refl

-- of faults in two bodies the one with the lesser offset is told
fault_in_text : first_fault (record { at = 40; kind = tells.NoLabel } ∷ record { at = 13; kind = tells.BreakOutside } ∷ record { at = 13; kind = tells.LabelTwice } ∷ []) ≡ Some (record { at = 13; kind = tells.BreakOutside })
fault_in_text = refl
