-- By induction on the tree: a statement that fits keeps what is kept of a walk.
use Rattle.std.proofs.Common.{◌≡◌, ℕ, true, ◌&&◌, List, [], ◌∷◌, length, map, Option, refl, sym, ◌∙◌, subst, rules}
use Rattle.std.specs.Prelude.{slice_get, nat_lt}
use Rattle.std.specs.List.{list_all, AllByRecursion as Each}
use Rattle.std.proofs.lemmas.Bool.{and_parts, ltb-true}
use Rattle.bpl_ast.specs.declared.name.Name.{Name}
use Rattle.bpl_flow.proofs.Commands.{true-fits, false-fits, assert-fits, invariants-fit}
use Rattle.bpl_flow.proofs.Fitting.{all_fit-map, fits-if, fits-while}
use Rattle.bpl_flow.proofs.Kept.{step-command, step-assert, step-return, step-break, step-goto, step-label}
use Rattle.bpl_flow.proofs.Looping.{step-while}
use Rattle.bpl_flow.proofs.Turns.{Steps, step-if}
use Rattle.bpl_flow.proofs.WalkEquations.{walk-label, walk-assert, walk-assume, walk-havoc, walk-goto, walk-return, walk-break, walk-assign, walk-call, walk-if, walk-while}
use Rattle.bpl_flow.specs.Walk.{walk}
use Rattle.bpl_type.specs.WellTyped.{all_fit, callee_fits, guard_fits, invariant_fits, stmt_fits}
use Rattle.bpl_type.specs.declared.typed.TypedInvariant.{TypedInvariant}
use Rattle.bpl_type.specs.declared.typed.TypedProc.{TypedProc}
use Rattle.bpl_type.specs.declared.typed.TypedStmt.{TypedStmt, roll-TypedStmt}
use Rattle.bpl_type.specs.declared.typed.TypedStmt.TheFolds.{ind-TypedStmt, map-TypedStmt, the_lemmas}
use Rattle.bpl_type.specs.declared.typed.TypedStmt.TheOpen.{TypedStmt-F}
use Rattle.bpl_type.specs.declared.typed.TypedStmt.TheVariants as stmts
use Rattle.bpl_type.specs.declared.typed.TypedStmt.TheVariants.{rolls-Label, rolls-Assert, rolls-Assume, rolls-Havoc, rolls-Goto, rolls-Return, rolls-Break, rolls-Assign, rolls-Call, rolls-If, rolls-While}
use Rattle.hy_val.specs.declared.expr.ExprNode.{ExprNode}
use Rattle.hy_val.specs.declared.expr.Var.{Var}
use Rattle.hy_val.specs.Scope.{Scope, is_condition, is_target, pair_fits}
use Rattle.src_prog.specs.Scope.{call_fits}
use Rattle.src_prog.specs.declared.block.Cmd.TheVariants as cmds
use Rattle.src_prog.specs.declared.proc.SrcProc.{SrcProc}

pub fits-assert : (cs : List TypedProc) (sc : Scope) (c : List ExprNode) → stmt_fits cs sc (stmts.Assert c) ≡ is_condition sc c
unfolding stmt_fits
fits-assert cs sc c = search (rules, the_lemmas)

fits-assume : (cs : List TypedProc) (sc : Scope) (c : List ExprNode) → stmt_fits cs sc (stmts.Assume c) ≡ is_condition sc c
unfolding stmt_fits
fits-assume cs sc c = search (rules, the_lemmas)

fits-havoc : (cs : List TypedProc) (sc : Scope) (vars : List Var) → stmt_fits cs sc (stmts.Havoc vars) ≡ list_all (is_target sc) vars
unfolding stmt_fits
fits-havoc cs sc vars = search (rules, the_lemmas)

pub fits-goto : (cs : List TypedProc) (sc : Scope) (labels : List Name) → stmt_fits cs sc (stmts.Goto labels) ≡ nat_lt 0 (length labels)
unfolding stmt_fits
fits-goto cs sc labels = search (rules, the_lemmas)

fits-assign : (cs : List TypedProc) (sc : Scope) (pairs : List (Var × List ExprNode)) → stmt_fits cs sc (stmts.Assign pairs) ≡ list_all (pair_fits sc) pairs
unfolding stmt_fits
fits-assign cs sc pairs = search (rules, the_lemmas)

fits-call : (cs : List TypedProc) (sc : Scope) (proc : ℕ) (args : List (List ExprNode)) (outs : List Var) → stmt_fits cs sc (stmts.Call proc args outs) ≡ callee_fits sc (slice_get cs proc) args outs
unfolding stmt_fits
fits-call cs sc proc args outs = search (rules, the_lemmas)

-- a call that fits the procedures of the text fits those of the program
abbrev pub CallsFit : List TypedProc → List SrcProc → Scope → Type 0
CallsFit callees procs scope = (proc : ℕ) (args : List (List ExprNode)) (outs : List Var) → callee_fits scope (slice_get callees proc) args outs ≡ true → call_fits scope (slice_get procs proc) args outs ≡ true

module _ (callees : List TypedProc) (procs : List SrcProc) (scope : Scope) (calls : CallsFit callees procs scope) where
  abbrev Keeps : TypedStmt → Type 0
  Keeps s = stmt_fits callees scope s ≡ true → Steps procs scope (walk s)

  each-keeps : {B : Type 0} (v : B → TypedStmt) (kv : (c : B) → Keeps (v c)) (cs : List B) → list_all (stmt_fits callees scope) (map v cs) ≡ true → Each (Steps procs scope) (map walk (map v cs))
  each-keeps v kv [] h = tt
  each-keeps v kv (c ∷ cs) h =
      let p = and_parts (stmt_fits callees scope (v c)) (list_all (stmt_fits callees scope) (map v cs)) h in
      (kv c p.0, each-keeps v kv cs p.1)

  label-keeps : (name : Name) → Keeps (stmts.Label name)
  label-keeps name h = subst (Steps procs scope) (sym (walk-label name)) (λ closed around before w k. step-label procs scope closed around name w k)

  assert-keeps : (c : List ExprNode) → Keeps (stmts.Assert c)
  assert-keeps c h = subst (Steps procs scope) (sym (walk-assert c)) (λ closed around before w k. step-assert procs scope closed around w c k (assert-fits procs scope w.asserts c (sym (fits-assert callees scope c) ∙ h)))

  assume-keeps : (c : List ExprNode) → Keeps (stmts.Assume c)
  assume-keeps c h = subst (Steps procs scope) (sym (walk-assume c)) (λ closed around before w k. step-command procs scope closed around w (cmds.Assume c) k (sym (fits-assume callees scope c) ∙ h))

  havoc-keeps : (vars : List Var) → Keeps (stmts.Havoc vars)
  havoc-keeps vars h = subst (Steps procs scope) (sym (walk-havoc vars)) (λ closed around before w k. step-command procs scope closed around w (cmds.Havoc vars) k (sym (fits-havoc callees scope vars) ∙ h))

  goto-keeps : (labels : List Name) → Keeps (stmts.Goto labels)
  goto-keeps labels h = subst (Steps procs scope) (sym (walk-goto labels)) (λ closed around before w k. step-goto procs scope closed around labels w (ltb-true 0 (length labels) (sym (fits-goto callees scope labels) ∙ h)) k)

  return-keeps : Keeps stmts.Return
  return-keeps h = subst (Steps procs scope) (sym walk-return) (λ closed around before w k. step-return procs scope closed around w k)

  break-keeps : (at : ℕ) (label : Option Name) → Keeps (stmts.Break at label)
  break-keeps at label h = subst (Steps procs scope) (sym (walk-break at label)) (λ closed around before w k. step-break procs scope closed around w label at k)

  assign-keeps : (pairs : List (Var × List ExprNode)) → Keeps (stmts.Assign pairs)
  assign-keeps pairs h = subst (Steps procs scope) (sym (walk-assign pairs)) (λ closed around before w k. step-command procs scope closed around w (cmds.Assign pairs) k (sym (fits-assign callees scope pairs) ∙ h))

  call-keeps : (proc : ℕ) (args : List (List ExprNode)) (outs : List Var) → Keeps (stmts.Call proc args outs)
  call-keeps proc args outs h =
      subst (Steps procs scope) (sym (walk-call proc args outs)) (λ closed around before w k. step-command procs scope closed around w (cmds.Call proc args outs) k (calls proc args outs (sym (fits-call callees scope proc args outs) ∙ h)))

  if-keeps : {B : Type 0} (v : B → TypedStmt) (kv : (c : B) → Keeps (v c)) (guard : Option (List ExprNode)) (part other : List B) → Keeps (stmts.If guard (map v part) (map v other))
  if-keeps v kv guard part other h =
      let p = and_parts (guard_fits scope guard) (all_fit (map (stmt_fits callees scope) (map v part)) && all_fit (map (stmt_fits callees scope) (map v other))) (sym (fits-if callees scope guard (map v part) (map v other)) ∙ h) in
      let q = and_parts (all_fit (map (stmt_fits callees scope) (map v part))) (all_fit (map (stmt_fits callees scope) (map v other))) p.1 in
      subst (Steps procs scope) (sym (walk-if guard (map v part) (map v other)))
      (λ closed around before w k. step-if procs scope guard (map walk (map v part)) (map walk (map v other)) (true-fits procs scope guard p.0) (false-fits procs scope guard p.0)
      (each-keeps v kv part (all_fit-map callees scope (map v part) q.0)) (each-keeps v kv other (all_fit-map callees scope (map v other) q.1)) closed around before w k)

  while-keeps : {B : Type 0} (v : B → TypedStmt) (kv : (c : B) → Keeps (v c)) (guard : Option (List ExprNode)) (invariants : List TypedInvariant) (body : List B) → Keeps (stmts.While guard invariants (map v body))
  while-keeps v kv guard invariants body h =
      let p = and_parts (guard_fits scope guard) (list_all (invariant_fits scope) invariants && all_fit (map (stmt_fits callees scope) (map v body))) (sym (fits-while callees scope guard invariants (map v body)) ∙ h) in
      let q = and_parts (list_all (invariant_fits scope) invariants) (all_fit (map (stmt_fits callees scope) (map v body))) p.1 in
      subst (Steps procs scope) (sym (walk-while guard invariants (map v body)))
      (λ closed around before w k. step-while procs scope guard invariants (map walk (map v body)) (true-fits procs scope guard p.0) (false-fits procs scope guard p.0)
      (λ asserts. invariants-fit procs scope invariants [] asserts q.0 refl) (each-keeps v kv body (all_fit-map callees scope (map v body) q.1)) closed around before w k)

  statement-step : {B : Type 0} (v : B → TypedStmt) (kv : (c : B) → Keeps (v c)) (y : TypedStmt-F B) → Keeps (roll-TypedStmt (map-TypedStmt B TypedStmt v y))
  statement-step v kv (TypedStmt-F.Label name) = subst Keeps (sym (rolls-Label name)) (label-keeps name)
  statement-step v kv (TypedStmt-F.Assert c) = subst Keeps (sym (rolls-Assert c)) (assert-keeps c)
  statement-step v kv (TypedStmt-F.Assume c) = subst Keeps (sym (rolls-Assume c)) (assume-keeps c)
  statement-step v kv (TypedStmt-F.Havoc vars) = subst Keeps (sym (rolls-Havoc vars)) (havoc-keeps vars)
  statement-step v kv (TypedStmt-F.Goto labels) = subst Keeps (sym (rolls-Goto labels)) (goto-keeps labels)
  statement-step v kv TypedStmt-F.Return = subst Keeps (sym rolls-Return) return-keeps
  statement-step v kv (TypedStmt-F.Break at label) = subst Keeps (sym (rolls-Break at label)) (break-keeps at label)
  statement-step v kv (TypedStmt-F.Assign pairs) = subst Keeps (sym (rolls-Assign pairs)) (assign-keeps pairs)
  statement-step v kv (TypedStmt-F.Call proc args outs) = subst Keeps (sym (rolls-Call proc args outs)) (call-keeps proc args outs)
  statement-step v kv (TypedStmt-F.If guard part other) = subst Keeps (sym (rolls-If guard (map v part) (map v other))) (if-keeps v kv guard part other)
  statement-step v kv (TypedStmt-F.While guard invariants body) = subst Keeps (sym (rolls-While guard invariants (map v body))) (while-keeps v kv guard invariants body)

  statement-keeps : (s : TypedStmt) → Keeps s
  statement-keeps = ind-TypedStmt Keeps (λ x y same. subst (λ (w : TypedStmt-F TypedStmt). Keeps (roll-TypedStmt w)) same (statement-step (λ c. c.0) (λ c. c.1) y))

  pub statements-keep : (ss : List TypedStmt) → list_all (stmt_fits callees scope) ss ≡ true → Each (Steps procs scope) (map walk ss)
  statements-keep [] h = tt
  statements-keep (s ∷ ss) h =
      let p = and_parts (stmt_fits callees scope s) (list_all (stmt_fits callees scope) ss) h in
      (statement-keeps s p.0, statements-keep ss p.1)
