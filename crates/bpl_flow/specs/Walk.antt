-- The walk over the statements of a body, which makes blocks (This is Boogie 2, statements; the order in which blocks are made and
-- asserts are numbered is this project's own). Where an edge leads to a label or past a statement, the number is found at the end.
use Rattle.std.specs.Prelude.{ℕ, ◌+◌, ◌-◌, Bool, true, false, ◌&&◌, nat_eq, List, [], ◌∷◌, ◌++◌, length, map, filter, Option, None, Some, is_some, if◌then◌else◌}
use Rattle.std.specs.List.{list_any}
use Rattle.std.specs.Str.{bytes_eq}
use Rattle.bpl_ast.specs.declared.name.Name.{Name}
use Rattle.bpl_flow.specs.declared.fault.FlowFault.{FlowFault}
use Rattle.bpl_flow.specs.declared.state.Aim.TheVariants.{Block, Label, Exit}
use Rattle.bpl_flow.specs.declared.state.Around.{Around}
use Rattle.bpl_flow.specs.declared.state.Current.{Current}
use Rattle.bpl_flow.specs.declared.state.End.{End}
use Rattle.bpl_flow.specs.declared.state.End.TheVariants.{Goes, Returns}
use Rattle.bpl_flow.specs.declared.state.Ended.{Ended}
use Rattle.bpl_flow.specs.declared.state.Jump.{Jump}
use Rattle.bpl_flow.specs.declared.state.Place.{Place}
use Rattle.bpl_flow.specs.declared.state.Walk.{Walk}
use Rattle.bpl_flow.specs.declared.fault.FlowKind.TheVariants as tells
use Rattle.bpl_type.specs.declared.typed.TypedInvariant.{TypedInvariant}
use Rattle.bpl_type.specs.declared.typed.TypedStmt.{TypedStmt}
use Rattle.bpl_type.specs.declared.typed.TypedStmt.TheOpen.{TypedStmt-F}
use Rattle.bpl_type.specs.declared.typed.TypedStmt.TheFolds.{fold-TypedStmt}
use Rattle.hy_val.specs.declared.expr.ExprNode.{ExprNode}
use Rattle.hy_val.specs.declared.expr.ExprNode.TheVariants.{Unary}
use Rattle.hy_val.specs.declared.operator.UnOp.TheVariants.{Not}
use Rattle.src_prog.specs.declared.block.Cmd.{Cmd}
use Rattle.src_prog.specs.declared.block.Cmd.TheVariants as cmds
use Rattle.src_prog.specs.declared.proc.SrcLoop.{SrcLoop}

abbrev pub begin : Walk
begin = record { made = 1; asserts = 0; current = Some (record { number = 0; cmds = [] }); ended = []; loops = []; exits = []; places = []; jumps = []; breaks = []; faults = [] }

-- ---- the current block

-- the blocks that have ended, and the current one with this end
abbrev pub with_end : Option Current → End → List Ended → List Ended
with_end None end done = done
with_end (Some c) end done = done ++ record { number = c.number; cmds = c.cmds; end = end } ∷ []

-- the current block ends so
abbrev pub stop : End → Walk → Walk
stop end w = record w { current = None; ended = with_end w.current end w.ended }

-- a new block becomes current; it begins with these commands
abbrev pub start : List Cmd → Walk → Walk
start first w = record w { made = w.made + 1; current = Some (record { number = w.made; cmds = first }) }

-- where there is no current block, one is made
abbrev pub ensure : Option Current → Walk → Walk
ensure None w = start [] w
ensure (Some c) w = w

abbrev pub in_block : Walk → Walk
in_block w = ensure w.current w

abbrev pub with_command : Option Current → Cmd → Option Current
with_command None cmd = None
with_command (Some c) cmd = Some (record { number = c.number; cmds = c.cmds ++ cmd ∷ [] })

abbrev pub append : Cmd → Walk → Walk
append cmd w = record w { current = with_command w.current cmd }

abbrev pub command : Cmd → Walk → Walk
command cmd w = append cmd (in_block w)

-- ---- guards and invariants

-- the expression, negated
abbrev pub negated : List ExprNode → List ExprNode
negated nodes = nodes ++ Unary Not (length nodes - 1) ∷ []

-- what is assumed where the guard is true, and where it is false; nothing for `*`
abbrev pub where_true : Option (List ExprNode) → List Cmd
where_true None = []
where_true (Some nodes) = cmds.Assume nodes ∷ []

abbrev pub where_false : Option (List ExprNode) → List Cmd
where_false None = []
where_false (Some nodes) = cmds.Assume (negated nodes) ∷ []

-- an invariant is asserted at each arrival at the head, and a free one assumed; asserts are numbered on
abbrev pub add_invariant : TypedInvariant → List Cmd → ℕ → List Cmd × ℕ
add_invariant i before asserts =
    if i.free then (before ++ cmds.Assume i.condition ∷ [], asserts) else (before ++ cmds.Assert (asserts + 1) i.condition ∷ [], asserts + 1)

abbrev pub add_invariants : List TypedInvariant → List Cmd → ℕ → List Cmd × ℕ
add_invariants [] before asserts = (before, asserts)
add_invariants (i ∷ more) before asserts = add_invariants more (add_invariant i before asserts).0 (add_invariant i before asserts).1

-- ---- labels, gotos, breaks

abbrev pub loops_of : List Around → List ℕ
loops_of around = map (λ a. a.statement) (filter (λ a. a.is_loop) around)

abbrev pub is_placed : List ℕ → List Place → Bool
is_placed name places = list_any (λ p. bytes_eq p.name name) places

abbrev pub place_label : List Around → Name → ℕ → List Place → List Place
place_label around name block places =
    if is_placed name.text places then places else places ++ record { name = name.text; block = block; loops = loops_of around } ∷ []

abbrev pub twice : Name → List Place → List FlowFault → List FlowFault
twice name places faults = if is_placed name.text places then faults ++ record { at = name.at; kind = tells.LabelTwice } ∷ [] else faults

-- a label makes a block, to which the current one goes, and which becomes current
abbrev pub label : List Around → Name → Walk → Walk
label around name w =
    start [] (record (stop (Goes (Block w.made ∷ [])) w) { places = place_label around name w.made w.places; faults = twice name w.places w.faults })

abbrev pub jump_of : List Around → List Place → Name → Jump
jump_of around places name = record { name = name; is_behind = is_placed name.text places; loops = loops_of around }

abbrev pub goto : List Around → List Name → Walk → Walk
goto around names w =
    stop (Goes (map (λ (n : Name). Label n.text) names)) (record (in_block w) { jumps = w.jumps ++ map (jump_of around w.places) names })

abbrev pub has_label : List ℕ → Option Name → Bool
has_label name None = false
has_label name (Some n) = bytes_eq n.text name

-- whether such a break may leave the statement: one with this label directly before it, or a loop where none is named
abbrev pub leaves : Option Name → Around → Bool
leaves None a = a.is_loop
leaves (Some n) a = has_label n.text a.label

-- the innermost of these statements that such a break leaves, else what was found before
abbrev pub left_by : Option Name → Option ℕ → List Around → Option ℕ
left_by name found [] = found
left_by name found (a ∷ rest) = left_by name (if leaves name a then Some a.statement else found) rest

abbrev pub break_to : Option ℕ → ℕ → Walk → Walk
break_to None at w = stop Returns (record w { faults = w.faults ++ record { at = at; kind = tells.BreakOutside } ∷ [] })
break_to (Some statement) at w = stop (Goes (Exit statement ∷ [])) (record w { breaks = w.breaks ++ statement ∷ [] })

-- ---- if

-- the then part begins; the current block has not ended yet
abbrev pub begin_part : Option (List ExprNode) → Walk → Walk
begin_part guard w = start (where_true guard) w

-- the then part goes on to the exit, and the else part begins, also where there is none
abbrev pub begin_else : ℕ → Option (List ExprNode) → Walk → Walk
begin_else statement guard w = start (where_false guard) (stop (Goes (Exit statement ∷ [])) w)

-- The else part goes on to the exit, which is made and becomes current. The block before the `if` goes to both parts.
abbrev pub end_if : Option Current → ℕ → ℕ → Walk → Walk
end_if before part other w =
    start [] (record w {
      ended = with_end before (Goes (Block part ∷ Block other ∷ [])) (with_end w.current (Goes (Exit part ∷ [])) w.ended);
      exits = w.exits ++ (part, w.made) ∷ [];
    })

-- ---- while

-- the current block goes to the head, which is made, and then the body begins; the loops inside are counted anew
abbrev pub begin_body : Option (List ExprNode) → ℕ → Walk → Walk
begin_body guard asserts w =
    start (where_true guard) (record (start [] (stop (Goes (Block w.made ∷ [])) w)) { asserts = asserts; loops = [] })

-- whether a break leaves the loop of a guard, so that the negated guard stands in a block of its own before the exit
abbrev pub is_broken : Option (List ExprNode) → ℕ → List ℕ → Bool
is_broken guard head breaks = is_some guard && list_any (nat_eq head) breaks

abbrev pub head_block : ℕ → List Cmd → ℕ → Ended
head_block head first out = record { number = head; cmds = first; end = Goes (Block (head + 1) ∷ Block out ∷ []) }

-- The body goes back to the head, the head goes to the body and out, and the exit is made. The loop stands before those inside it.
abbrev pub end_while : Bool → Option (List ExprNode) → ℕ → List Cmd → List SrcLoop → Walk → Walk
end_while true guard head first before w =
    start [] (record (stop (Goes (Exit head ∷ [])) (start (where_false guard) (stop (Goes (Block head ∷ [])) (record w { ended = w.ended ++ head_block head first w.made ∷ [] })))) {
      loops = before ++ record { head = head; exit = w.made + 1 } ∷ w.loops;
      exits = w.exits ++ (head, w.made + 1) ∷ [];
    })
end_while false guard head first before w =
    start (where_false guard) (record w {
      ended = with_end w.current (Goes (Block head ∷ [])) (w.ended ++ head_block head first w.made ∷ []);
      loops = before ++ record { head = head; exit = w.made } ∷ w.loops;
      exits = w.exits ++ (head, w.made) ∷ [];
    })

-- ---- statements

-- What a statement does in the walk, among the statements around it, the outermost first, and with the label directly before it; and
-- its name where it is a label.
pub record Step : Type 0 where
  pub label : Option Name
  pub go : List Around → Option Name → Walk → Walk

-- the steps in order; each knows whether a label stands directly before it
abbrev pub go_all : List Step → List Around → Option Name → Walk → Walk
go_all [] around before w = w
go_all (s ∷ ss) around before w = go_all ss around s.label (s.go around before w)

abbrev pub walk_if : Option (List ExprNode) → List Step → List Step → List Around → Option Name → Walk → Walk
walk_if guard part other around before w =
    let from = in_block w in
    let inside = around ++ record { statement = from.made; label = before; is_loop = false } ∷ [] in
    let after_part = go_all part inside None (begin_part guard from) in
    end_if from.current from.made after_part.made (go_all other inside None (begin_else from.made guard after_part))

abbrev pub walk_while : Option (List ExprNode) → List TypedInvariant → List Step → List Around → Option Name → Walk → Walk
walk_while guard invariants body around before w =
    let from = in_block w in
    let first = add_invariants invariants [] from.asserts in
    let inside = around ++ record { statement = from.made; label = before; is_loop = true } ∷ [] in
    let after_body = go_all body inside None (begin_body guard first.1 from) in
    end_while (is_broken guard from.made after_body.breaks) guard from.made first.0 from.loops after_body

abbrev pub asserted : List ExprNode → Walk → Walk
asserted condition w = record (command (cmds.Assert (w.asserts + 1) condition) w) { asserts = w.asserts + 1 }

-- a statement that is no label
abbrev pub plain : (List Around → Option Name → Walk → Walk) → Step
plain go = record { label = None; go = go }

abbrev pub step : TypedStmt-F Step → Step
step (TypedStmt-F.Label name) = record { label = Some name; go = λ around before w. label around name w }
step (TypedStmt-F.Assert condition) = plain (λ around before w. asserted condition w)
step (TypedStmt-F.Assume condition) = plain (λ around before w. command (cmds.Assume condition) w)
step (TypedStmt-F.Havoc vars) = plain (λ around before w. command (cmds.Havoc vars) w)
step (TypedStmt-F.Goto labels) = plain (λ around before w. goto around labels w)
step TypedStmt-F.Return = plain (λ around before w. stop Returns (in_block w))
step (TypedStmt-F.Break at name) = plain (λ around before w. break_to (left_by name None around) at (in_block w))
step (TypedStmt-F.Assign pairs) = plain (λ around before w. command (cmds.Assign pairs) w)
step (TypedStmt-F.Call proc args outs) = plain (λ around before w. command (cmds.Call proc args outs) w)
step (TypedStmt-F.If guard part other) = plain (walk_if guard part other)
step (TypedStmt-F.While guard invariants body) = plain (walk_while guard invariants body)

unfoldable pub walk : TypedStmt → Step
walk = fold-TypedStmt Step step

abbrev pub walk_all : List TypedStmt → List Around → Option Name → Walk → Walk
walk_all statements = go_all (map walk statements)
