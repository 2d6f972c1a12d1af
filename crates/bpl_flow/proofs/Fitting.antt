-- Statements that fit have parts that fit.
use Rattle.std.proofs.Common.{◌≡◌, ℕ, ◌<◌, Bool, true, false, ◌&&◌, List, [], ◌∷◌, length, get_or, map, Option, None, Some, refl, ◌∙◌, sym, subst, zero, suc, arith, rules}
use Rattle.std.specs.List.{list_all}
use Rattle.std.proofs.lemmas.List.Folds.{list_all-map}
use Rattle.bpl_flow.specs.Fits.{Fits, AllFit, ProcsFit, is_bool, is_guard}
use Rattle.bpl_type.specs.WellTyped.{guard_fits, all_fit, fits_node, stmt_fits, callees_of, body_scope, body_fits, proc_fits, have_sorts, invariant_fits}
use Rattle.bpl_type.specs.declared.typed.Typed.{Typed}
use Rattle.bpl_type.specs.declared.typed.TypedBody.{TypedBody}
use Rattle.bpl_type.specs.declared.typed.TypedInvariant.{TypedInvariant}
use Rattle.bpl_type.specs.declared.typed.TypedProc.{TypedProc}
use Rattle.bpl_type.specs.declared.typed.TypedStmt.{TypedStmt}
use Rattle.bpl_type.specs.declared.typed.TypedStmt.TheFolds.{the_lemmas}
use Rattle.bpl_type.specs.declared.typed.TypedStmt.TheOpen.{TypedStmt-F}
use Rattle.bpl_type.specs.declared.typed.TypedStmt.TheVariants as stmts
use Rattle.hy_val.specs.declared.expr.ExprNode.{ExprNode}
use Rattle.hy_val.specs.Scope.{Scope, node_fits}

pub fits-if : (cs : List TypedProc) (sc : Scope) (guard : Option (List ExprNode)) (part other : List TypedStmt) → stmt_fits cs sc (stmts.If guard part other) ≡ fits_node cs sc (TypedStmt-F.If guard (map (stmt_fits cs sc) part) (map (stmt_fits cs sc) other))
unfolding stmt_fits
fits-if cs sc guard part other = search (rules, the_lemmas)

pub fits-while : (cs : List TypedProc) (sc : Scope) (guard : Option (List ExprNode)) (invariants : List TypedInvariant) (body : List TypedStmt) → stmt_fits cs sc (stmts.While guard invariants body) ≡ fits_node cs sc (TypedStmt-F.While guard invariants (map (stmt_fits cs sc) body))
unfolding stmt_fits
fits-while cs sc guard invariants body = search (rules, the_lemmas)

pub and-first : (a b : Bool) → (a && b) ≡ true → a ≡ true
and-first true b h = refl
and-first false b h = h

pub and-second : (a b : Bool) → (a && b) ≡ true → b ≡ true
and-second true b h = h
and-second false b h = cc

pub list_all-at : {A : Type 0} (p : A → Bool) (xs : List A) (i : ℕ) (d : A) → list_all p xs ≡ true → i < length xs → p (get_or xs i d) ≡ true
list_all-at p [] i d h below = absurd (omega arith)
list_all-at p (x ∷ xs) zero d h below = and-first (p x) (list_all p xs) h
list_all-at p (x ∷ xs) (suc i) d h below = list_all-at p xs i d (and-second (p x) (list_all p xs) h) (omega arith)

pub all_fit-map : (cs : List TypedProc) (sc : Scope) (ss : List TypedStmt) → all_fit (map (stmt_fits cs sc) ss) ≡ true → list_all (stmt_fits cs sc) ss ≡ true
all_fit-map cs sc ss h = sym (list_all-map (λ b. b) (stmt_fits cs sc) ss) ∙ h

pub guard-is : (sc : Scope) (guard : Option (List ExprNode)) → guard_fits sc guard ≡ true → is_guard guard ≡ true
guard-is sc None h = refl
guard-is sc (Some nodes) h = and-second (list_all (node_fits sc) nodes) (is_bool nodes) h

pub if-guard : (guard : Option (List ExprNode)) (part other : List TypedStmt) → Fits (stmts.If guard part other) → is_guard guard ≡ true
if-guard guard part other f =
    let h = sym (fits-if f.callees f.scope guard part other) ∙ f.fits in
    guard-is f.scope guard (and-first (guard_fits f.scope guard) _ h)

pub if-part : (guard : Option (List ExprNode)) (part other : List TypedStmt) → Fits (stmts.If guard part other) → AllFit part
if-part guard part other f =
    let h = sym (fits-if f.callees f.scope guard part other) ∙ f.fits in
    let fs = and-second (guard_fits f.scope guard) _ h in
    record { callees = f.callees; scope = f.scope; fits = all_fit-map f.callees f.scope part (and-first (all_fit (map (stmt_fits f.callees f.scope) part)) _ fs) }

pub if-other : (guard : Option (List ExprNode)) (part other : List TypedStmt) → Fits (stmts.If guard part other) → AllFit other
if-other guard part other f =
    let h = sym (fits-if f.callees f.scope guard part other) ∙ f.fits in
    let fs = and-second (guard_fits f.scope guard) _ h in
    record { callees = f.callees; scope = f.scope; fits = all_fit-map f.callees f.scope other (and-second (all_fit (map (stmt_fits f.callees f.scope) part)) _ fs) }

pub while-guard : (guard : Option (List ExprNode)) (invariants : List TypedInvariant) (body : List TypedStmt) → Fits (stmts.While guard invariants body) → is_guard guard ≡ true
while-guard guard invariants body f =
    let h = sym (fits-while f.callees f.scope guard invariants body) ∙ f.fits in
    guard-is f.scope guard (and-first (guard_fits f.scope guard) _ h)

pub while-body : (guard : Option (List ExprNode)) (invariants : List TypedInvariant) (body : List TypedStmt) → Fits (stmts.While guard invariants body) → AllFit body
while-body guard invariants body f =
    let h = sym (fits-while f.callees f.scope guard invariants body) ∙ f.fits in
    let fs = and-second (guard_fits f.scope guard) _ h in
    record { callees = f.callees; scope = f.scope; fits = all_fit-map f.callees f.scope body (and-second (list_all (invariant_fits f.scope) invariants) _ fs) }

pub one-fits : (ss : List TypedStmt) (i : ℕ) (d : TypedStmt) → AllFit ss → i < length ss → Fits (get_or ss i d)
one-fits ss i d f below = record { callees = f.callees; scope = f.scope; fits = list_all-at (stmt_fits f.callees f.scope) ss i d f.fits below }

body-fits : (typed : Typed) (p : TypedProc) (o : Option TypedBody) (body : TypedBody) → o ≡ Some body → body_fits typed p o ≡ true → AllFit body.statements
body-fits typed p None body e h = cc
body-fits typed p (Some b) body e h =
    let same : b ≡ body = cc in
    subst (λ x. AllFit x.statements) same (record { callees = callees_of typed.procs; scope = body_scope typed p b; fits = and-second (have_sorts b.locals) _ h })

pub proc-body : (ps : List TypedProc) (i : ℕ) (d : TypedProc) (body : TypedBody) → ProcsFit ps → i < length ps → (get_or ps i d).body ≡ Some body → AllFit body.statements
proc-body ps i d body f below e =
    let h = list_all-at (proc_fits f.typed) ps i d f.fits below in
    body-fits f.typed (get_or ps i d) (get_or ps i d).body body e (and-second (have_sorts (get_or ps i d).ins && have_sorts (get_or ps i d).outs) _ h)
