-- Statements of the tests fit in any place.
use Rattle.std.proofs.Common.{◌≡◌, ℕ, ◌<◌, true, List, [], ◌∷◌, ◌++◌, length, map, Option, Some, None, refl, sym, ◌∙◌, subst, rules}
use Rattle.std.specs.List.{list_all}
use Rattle.std.proofs.lemmas.Bool.{and_from, lt-ltb}
use Rattle.std.proofs.lemmas.List.Folds.{list_all-append, list_all-map}
use Rattle.bpl_ast.specs.declared.name.Name.{Name}
use Rattle.bpl_flow.proofs.Fitting.{fits-if, fits-while}
use Rattle.bpl_flow.proofs.Induction.{fits-assert, fits-goto}
use Rattle.bpl_flow.specs.Anywhere.{Anywhere, AllAnywhere}
use Rattle.bpl_type.specs.WellTyped.{all_fit, is_typed, stmt_fits}
use Rattle.bpl_type.specs.declared.typed.TypedProc.{TypedProc}
use Rattle.bpl_type.specs.declared.typed.TypedStmt.{TypedStmt}
use Rattle.bpl_type.specs.declared.typed.TypedStmt.TheFolds.{the_lemmas}
use Rattle.bpl_type.specs.declared.typed.TypedStmt.TheVariants as stmts
use Rattle.hy_val.specs.declared.atom.AtomKind.TheVariants.{Bool as Truth}
use Rattle.hy_val.specs.declared.expr.ExprNode.{ExprNode}
use Rattle.hy_val.specs.declared.expr.ExprNode.TheVariants.{Lit}
use Rattle.hy_val.specs.Scope.{Scope}

abbrev truth : List ExprNode
truth = Lit (Truth true) ∷ []

fits-label : (cs : List TypedProc) (sc : Scope) (name : Name) → stmt_fits cs sc (stmts.Label name) ≡ true
unfolding stmt_fits
fits-label cs sc name = search (rules, the_lemmas)

fits-break : (cs : List TypedProc) (sc : Scope) (at : ℕ) (label : Option Name) → stmt_fits cs sc (stmts.Break at label) ≡ true
unfolding stmt_fits
fits-break cs sc at label = search (rules, the_lemmas)

pub label-anywhere : (name : Name) → Anywhere (stmts.Label name)
label-anywhere name = record { fits = λ cs sc. fits-label cs sc name }

pub break-anywhere : (at : ℕ) (label : Option Name) → Anywhere (stmts.Break at label)
break-anywhere at label = record { fits = λ cs sc. fits-break cs sc at label }

pub assert-anywhere : (c : List ExprNode) → c ≡ truth → Anywhere (stmts.Assert c)
assert-anywhere c e = subst (λ x. Anywhere (stmts.Assert x)) (sym e) (record { fits = λ cs sc. fits-assert cs sc truth })

pub goto-anywhere : (labels : List Name) → 0 < length labels → Anywhere (stmts.Goto labels)
goto-anywhere labels some = record { fits = λ cs sc. fits-goto cs sc labels ∙ lt-ltb 0 (length labels) some }

map-fit : (cs : List TypedProc) (sc : Scope) (ss : List TypedStmt) → list_all (stmt_fits cs sc) ss ≡ true → all_fit (map (stmt_fits cs sc) ss) ≡ true
map-fit cs sc ss h = list_all-map (λ b. b) (stmt_fits cs sc) ss ∙ h

pub if-anywhere : (part other : List TypedStmt) → AllAnywhere part → AllAnywhere other → Anywhere (stmts.If None part other)
if-anywhere part other p q = record {
  fits = λ cs sc. fits-if cs sc None part other ∙ and_from (all_fit (map (stmt_fits cs sc) part)) (all_fit (map (stmt_fits cs sc) other)) (map-fit cs sc part (p.fits cs sc)) (map-fit cs sc other (q.fits cs sc));
}

pub while-anywhere : (body : List TypedStmt) → AllAnywhere body → Anywhere (stmts.While None [] body)
while-anywhere body p = record { fits = λ cs sc. fits-while cs sc None [] body ∙ map-fit cs sc body (p.fits cs sc) }

pub guarded-anywhere : (c : List ExprNode) (body : List TypedStmt) → c ≡ truth → AllAnywhere body → Anywhere (stmts.While (Some c) [] body)
guarded-anywhere c body e p =
    subst (λ x. Anywhere (stmts.While (Some x) [] body)) (sym e) (record { fits = λ cs sc. fits-while cs sc (Some truth) [] body ∙ map-fit cs sc body (p.fits cs sc) })

pub none-anywhere : AllAnywhere []
none-anywhere = record { fits = λ cs sc. refl }

pub last-anywhere : (ss : List TypedStmt) (s : TypedStmt) → AllAnywhere ss → Anywhere s → AllAnywhere (ss ++ s ∷ [])
last-anywhere ss s p q = record {
  fits = λ cs sc. list_all-append (stmt_fits cs sc) ss (s ∷ []) ∙ and_from (list_all (stmt_fits cs sc) ss) (list_all (stmt_fits cs sc) (s ∷ [])) (p.fits cs sc) (and_from (stmt_fits cs sc s) true (q.fits cs sc) refl);
}

pub program-typed : (p m : List ℕ) (ss : List TypedStmt) → AllAnywhere ss
    → is_typed (record { consts = []; uniques = []; axioms = []; globals = []; procs = record { name = p; ins = []; outs = []; body = None } ∷ record { name = m; ins = []; outs = []; body = Some (record { locals = []; statements = ss }) } ∷ [] }) ≡ true
program-typed p m ss a = and_from _ true (a.fits _ _) refl

pub ruleset anywhere = (label-anywhere, break-anywhere, assert-anywhere, goto-anywhere, if-anywhere, while-anywhere, guarded-anywhere, none-anywhere, last-anywhere, program-typed)
