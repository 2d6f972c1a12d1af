-- A statement that fits is made of expressions.
use Rattle.std.proofs.Common.{◌≡◌, ℕ, ◌-◌, Bool, true, false, not, ◌&&◌, List, [], ◌∷◌, length, map, Option, Some, None, is_some, refl, sym, ◌∙◌, ap, subst}
use Rattle.std.specs.List.{list_all, slice_get}
use Rattle.std.specs.Option.{option_and_then}
use Rattle.hy_val.specs.Exprs.{sorts_onto, is_empty, is_expr}
use Rattle.hy_val.specs.declared.expr.ExprNode.{ExprNode}
use Rattle.hy_val.specs.declared.expr.Var.{Var}
use Rattle.hy_val.specs.declared.sort.ScalarKind.TheVariants.{Bool as BoolSort}
use Rattle.hy_val.specs.declared.sort.Sort.{Sort}
use Rattle.hy_val.specs.declared.sort.SortKind.TheVariants.{Scalar as ScalarSort}
use Rattle.bpl_ast.specs.declared.name.Name.{Name}
use Rattle.hy_val.specs.Scope.{are_same, node_fits, sort_of_expr, expr_fits, is_condition, pair_fits}
use Rattle.src_prog.specs.Scope.{args_fit, targets_fit}
use Rattle.hy_val.specs.Scope as src
use Rattle.src_prog.specs.declared.proc.Named.{Named}
use Rattle.bpl_type.specs.declared.typed.TypedInvariant.{TypedInvariant}
use Rattle.bpl_type.specs.declared.typed.TypedProc.{TypedProc}
use Rattle.bpl_type.specs.declared.typed.TypedStmt.{TypedStmt, roll-TypedStmt}
use Rattle.bpl_type.specs.declared.typed.TypedStmt.TheFolds.{ind-TypedStmt, map-TypedStmt}
use Rattle.bpl_type.specs.declared.typed.TypedStmt.TheOpen.{TypedStmt-F}
use Rattle.bpl_type.specs.declared.typed.TypedStmt.TheVariants as stmts
use Rattle.bpl_type.specs.declared.typed.TypedStmt.TheVariants.{rolls-Label, rolls-Assert, rolls-Assume, rolls-Havoc, rolls-Goto, rolls-Return, rolls-Break, rolls-Assign, rolls-Call, rolls-If, rolls-While}
use Rattle.bpl_type.specs.WellMade.{guard_is, all_made, is_made}
use Rattle.bpl_type.specs.WellTyped.{named, guard_fits, invariant_fits, callee_fits, all_fit, stmt_fits}
use Rattle.bpl_type.proofs.Elements.{both, and-true}
use Rattle.bpl_type.proofs.MakingEquations.{made-label, made-havoc, made-goto, made-return, made-break, made-assert, made-assume, made-assign, made-call, made-if, made-while}
use Rattle.bpl_type.proofs.StmtsFit.{fits-assert, fits-assume, fits-assign, fits-call, fits-if, fits-while}

-- ---- expressions

sorts-there : (last : ℕ) (o : Option Sort) (known : Option (List Sort)) → are_same (option_and_then (λ sorts. slice_get sorts last) known) o ≡ true → is_some known ≡ true
sorts-there last o None h = absurd (cc)
sorts-there last o (Some sorts) h = refl

some-nodes : (ns : List ExprNode) (o : Option Sort) → are_same (sort_of_expr ns) o ≡ true → not (is_empty ns) ≡ true
some-nodes [] o h = absurd (cc)
some-nodes (n ∷ ns) o h = refl

pub expr-made : (sc : src.Scope) (o : Option Sort) (ns : List ExprNode) → expr_fits sc o ns ≡ true → is_expr ns ≡ true
expr-made sc o ns h =
    let r = (both (list_all (node_fits sc) ns) (are_same (sort_of_expr ns) o) h).1 in
    and-true (not (is_empty ns)) (is_some (sorts_onto [] ns)) (some-nodes ns o r) (sorts-there (length ns - 1) o (sorts_onto [] ns) r)

pub condition-made : (sc : src.Scope) (ns : List ExprNode) → is_condition sc ns ≡ true → is_expr ns ≡ true
condition-made sc ns h = expr-made sc (Some (ScalarSort BoolSort)) ns h

-- ---- parts of statements

guard-made : (sc : src.Scope) (guard : Option (List ExprNode)) → guard_fits sc guard ≡ true → guard_is guard ≡ true
guard-made sc None h = refl
guard-made sc (Some c) h = condition-made sc c h

pairs-made : (sc : src.Scope) (pairs : List (Var × List ExprNode)) → list_all (pair_fits sc) pairs ≡ true → list_all (λ p. is_expr p.1) pairs ≡ true
pairs-made sc [] h = refl
pairs-made sc (p ∷ ps) h =
    let r = both (pair_fits sc p) (list_all (pair_fits sc) ps) h in
    and-true (is_expr p.1) (list_all (λ q. is_expr q.1) ps) (expr-made sc (src.sort_of_target sc p.0) p.1 r.0) (pairs-made sc ps r.1)

invariants-made : (sc : src.Scope) (is : List TypedInvariant) → list_all (invariant_fits sc) is ≡ true → list_all (λ i. is_expr i.condition) is ≡ true
invariants-made sc [] h = refl
invariants-made sc (i ∷ is) h =
    let r = both (invariant_fits sc i) (list_all (invariant_fits sc) is) h in
    and-true (is_expr i.condition) (list_all (λ (j : TypedInvariant). is_expr j.condition) is) (condition-made sc i.condition r.0) (invariants-made sc is r.1)

args-made : (sc : src.Scope) (names : List Named) (args : List (List ExprNode)) → args_fit sc names args ≡ true → list_all is_expr args ≡ true
args-made sc [] [] h = refl
args-made sc [] (a ∷ rest) h = absurd (cc)
args-made sc (n ∷ ns) [] h = absurd (cc)
args-made sc (n ∷ ns) (a ∷ rest) h =
    let r = both (expr_fits sc (Some n.sort) a) (args_fit sc ns rest) h in
    and-true (is_expr a) (list_all is_expr rest) (expr-made sc (Some n.sort) a r.0) (args-made sc ns rest r.1)

callee-made : (sc : src.Scope) (callee : Option TypedProc) (args : List (List ExprNode)) (outs : List Var) → callee_fits sc callee args outs ≡ true → list_all is_expr args ≡ true
callee-made sc None args outs h = absurd (cc)
callee-made sc (Some p) args outs h = args-made sc (map named p.ins) args (both (args_fit sc (map named p.ins) args) (targets_fit sc (map named p.outs) outs) h).0

-- ---- by induction on the tree

module _ (callees : List TypedProc) (sc : src.Scope) where
  abbrev Made : TypedStmt → Type 0
  Made s = stmt_fits callees sc s ≡ true → is_made s ≡ true

  each-made : {B : Type 0} (v : B → TypedStmt) (kv : (c : B) → Made (v c)) (cs : List B) → all_fit (map (stmt_fits callees sc) (map v cs)) ≡ true → all_made (map is_made (map v cs)) ≡ true
  each-made v kv [] h = refl
  each-made v kv (c ∷ cs) h =
      let p = both (stmt_fits callees sc (v c)) (all_fit (map (stmt_fits callees sc) (map v cs))) h in
      and-true (is_made (v c)) (all_made (map is_made (map v cs))) (kv c p.0) (each-made v kv cs p.1)

  if-is : {B : Type 0} (v : B → TypedStmt) (kv : (c : B) → Made (v c)) (guard : Option (List ExprNode)) (part other : List B) → Made (stmts.If guard (map v part) (map v other))
  if-is v kv guard part other h =
      let p = both (guard_fits sc guard) (all_fit (map (stmt_fits callees sc) (map v part)) && all_fit (map (stmt_fits callees sc) (map v other))) (sym (fits-if callees sc guard (map v part) (map v other)) ∙ h) in
      let q = both (all_fit (map (stmt_fits callees sc) (map v part))) (all_fit (map (stmt_fits callees sc) (map v other))) p.1 in
      made-if guard (map v part) (map v other)
      ∙ and-true (guard_is guard) (all_made (map is_made (map v part)) && all_made (map is_made (map v other))) (guard-made sc guard p.0)
      (and-true (all_made (map is_made (map v part))) (all_made (map is_made (map v other))) (each-made v kv part q.0) (each-made v kv other q.1))

  while-is : {B : Type 0} (v : B → TypedStmt) (kv : (c : B) → Made (v c)) (guard : Option (List ExprNode)) (invariants : List TypedInvariant) (body : List B) → Made (stmts.While guard invariants (map v body))
  while-is v kv guard invariants body h =
      let p = both (guard_fits sc guard) (list_all (invariant_fits sc) invariants && all_fit (map (stmt_fits callees sc) (map v body))) (sym (fits-while callees sc guard invariants (map v body)) ∙ h) in
      let q = both (list_all (invariant_fits sc) invariants) (all_fit (map (stmt_fits callees sc) (map v body))) p.1 in
      made-while guard invariants (map v body)
      ∙ and-true (guard_is guard) (list_all (λ (i : TypedInvariant). is_expr i.condition) invariants && all_made (map is_made (map v body))) (guard-made sc guard p.0)
      (and-true (list_all (λ (i : TypedInvariant). is_expr i.condition) invariants) (all_made (map is_made (map v body))) (invariants-made sc invariants q.0) (each-made v kv body q.1))

  step : {B : Type 0} (v : B → TypedStmt) (kv : (c : B) → Made (v c)) (y : TypedStmt-F B) → Made (roll-TypedStmt (map-TypedStmt B TypedStmt v y))
  step v kv (TypedStmt-F.Label name) = subst Made (sym (rolls-Label name)) (λ h. made-label name)
  step v kv (TypedStmt-F.Assert c) = subst Made (sym (rolls-Assert c)) (λ h. made-assert c ∙ condition-made sc c (sym (fits-assert callees sc c) ∙ h))
  step v kv (TypedStmt-F.Assume c) = subst Made (sym (rolls-Assume c)) (λ h. made-assume c ∙ condition-made sc c (sym (fits-assume callees sc c) ∙ h))
  step v kv (TypedStmt-F.Havoc vars) = subst Made (sym (rolls-Havoc vars)) (λ h. made-havoc vars)
  step v kv (TypedStmt-F.Goto labels) = subst Made (sym (rolls-Goto labels)) (λ h. made-goto labels)
  step v kv TypedStmt-F.Return = subst Made (sym rolls-Return) (λ h. made-return)
  step v kv (TypedStmt-F.Break at label) = subst Made (sym (rolls-Break at label)) (λ h. made-break at label)
  step v kv (TypedStmt-F.Assign pairs) = subst Made (sym (rolls-Assign pairs)) (λ h. made-assign pairs ∙ pairs-made sc pairs (sym (fits-assign callees sc pairs) ∙ h))
  step v kv (TypedStmt-F.Call proc args outs) =
      subst Made (sym (rolls-Call proc args outs)) (λ h. made-call proc args outs ∙ callee-made sc (slice_get callees proc) args outs (sym (fits-call callees sc proc args outs) ∙ h))
  step v kv (TypedStmt-F.If guard part other) = subst Made (sym (rolls-If guard (map v part) (map v other))) (if-is v kv guard part other)
  step v kv (TypedStmt-F.While guard invariants body) = subst Made (sym (rolls-While guard invariants (map v body))) (while-is v kv guard invariants body)

  pub stmt-made : (s : TypedStmt) → Made s
  stmt-made = ind-TypedStmt Made (λ x y same. subst (λ (w : TypedStmt-F TypedStmt). Made (roll-TypedStmt w)) same (step (λ c. c.0) (λ c. c.1) y))

  pub stmts-made : (ss : List TypedStmt) → list_all (stmt_fits callees sc) ss ≡ true → list_all is_made ss ≡ true
  stmts-made [] h = refl
  stmts-made (s ∷ ss) h =
      let p = both (stmt_fits callees sc s) (list_all (stmt_fits callees sc) ss) h in
      and-true (is_made s) (list_all is_made ss) (stmt-made s p.0) (stmts-made ss p.1)
