-- Expressions that are too large, one after another.
use Rattle.std.proofs.Common.{◌≡◌, ℕ, ◌+◌, ◌*◌, ◌<◌, ◌≤◌, inl, inr, true, List, [], ◌∷◌, ◌++◌, length, map, take, get_or, min, Option, Some, Result, Ok, Err, refl, sym, ◌∙◌, ap, subst, arith, rules}
use Rattle.std.proofs.lemmas.Bool.Decides.{nat_tests}
use Rattle.std.proofs.lemmas.List.{take_more}
use Rattle.std.proofs.lemmas.List.Concat.{flat_map-append}
use Rattle.std.specs.Prelude.{flat_map, nat_le, option_to_list}
use Rattle.std.specs.Result.{IfOk}
use Rattle.bpl_ast.specs.declared.decl.Body.{Body}
use Rattle.bpl_ast.specs.declared.decl.Heads.{Heads}
use Rattle.bpl_ast.specs.declared.decl.Synonym.{Synonym}
use Rattle.bpl_ast.specs.declared.expr.Expr.{Expr}
use Rattle.bpl_ast.specs.declared.name.Attribute.{Attribute}
use Rattle.bpl_ast.specs.declared.stmt.Else.{Else}
use Rattle.bpl_ast.specs.declared.stmt.Else.TheFolds.{fold_out-If, the_lemmas}
use Rattle.bpl_ast.specs.declared.stmt.Else.TheVariants as elses
use Rattle.bpl_ast.specs.declared.stmt.Guard.{Guard}
use Rattle.bpl_ast.specs.declared.stmt.If.{If, out-If}
use Rattle.bpl_ast.specs.declared.stmt.Invariant.{Invariant}
use Rattle.bpl_ast.specs.declared.stmt.Stmt.{Stmt}
use Rattle.bpl_ast.specs.declared.stmt.Stmt.TheVariants as statement
use Rattle.bpl_ast.specs.declared.stmt.Target.{Target}
use Rattle.bpl_type.specs.declared.count.Counting.{Counting}
use Rattle.bpl_type.specs.declared.count.Tally.{Tally}
use Rattle.type_pass.specs.declared.fault.TypeFault.{TypeFault}
use Rattle.type_pass.specs.declared.tables.Scope.{Scope}
use Rattle.type_pass.specs.declared.tables.Tables.{Tables}
use Rattle.type_pass.specs.declared.tables.Named.{Named}
use Rattle.bpl_type.specs.Counts.{Alike, affine_at, sloped, Valued}
use Rattle.type_pass.specs.Faults.{earlier, first}
use Rattle.type_pass.specs.Passes.{guard_exprs, all_exprs, else_exprs, stmt_exprs, if_exprs, exprs_of}
use Rattle.type_pass.specs.Scopes.{body_scope}
use Rattle.bpl_type.specs.Sizes.{heavy_fault, heavy_in, heavy_stmt, heavy_body, exprs_in_if, exprs_in_else}
use Rattle.bpl_type.specs.Tallies.{Adds, weight_in}
use Rattle.bpl_type.specs.Weights.{Templates}
use Rattle.type_pass.proofs.CommandLaws.{two-steps, three-steps}
use Rattle.bpl_type.proofs.CountLaws.{alike-min, alike-sum, alike-trans, sloped-push}
use Rattle.type_pass.proofs.FaultLaws.{earlier-none}
use Rattle.type_pass.proofs.SpaceLaws.{nil-append}
use Rattle.type_pass.proofs.StmtEquations.{exprs-label, exprs-assert, exprs-assume, exprs-havoc, exprs-goto, exprs-return, exprs-break, exprs-assign, exprs-call, exprs-if, exprs-while}

-- ---- numbers

reached : (most a : ℕ) → most ≤ a → nat_le most a ≡ true
reached most a h = grind (arith, nat_tests)

-- numbers that are alike reach the bound both or neither
pub alike-reach : (most a b : ℕ) → Alike most a b → nat_le most a ≡ nat_le most b
alike-reach most a b (inl h) = ap (nat_le most) h
alike-reach most a b (inr h) = reached most a h.0 ∙ sym (reached most b h.1)

-- the next slope in a total
pub total-turn : (most base : ℕ) (slopes : List ℕ) (i slope sum next : ℕ) → i < length slopes → slope ≡ get_or slopes i 0 → next ≡ min (sum + slope) most
    → Alike most sum (affine_at base (take i slopes) (λ n. 1)) → Alike most next (affine_at base (take (i + 1) slopes) (λ n. 1))
total-turn most base slopes i slope sum next less at is h =
    let more : take (i + 1) slopes ≡ take i slopes ++ slope ∷ [] = take_more slopes i 0 less ∙ ap (λ k. take i slopes ++ k ∷ []) (sym at) in
    let push : sloped (take i slopes ++ slope ∷ []) 0 (λ n. 1) ≡ sloped (take i slopes) 0 (λ n. 1) + slope * 1 = sloped-push (λ n. 1) (take i slopes) slope in
    let total : affine_at base (take i slopes) (λ n. 1) + slope ≡ affine_at base (take (i + 1) slopes) (λ n. 1) =
    (let e : base + sloped (take i slopes) 0 (λ n. 1) + slope ≡ base + sloped (take i slopes ++ slope ∷ []) 0 (λ n. 1) = omega (arith, push) in e ∙ ap (λ ks. affine_at base ks (λ n. 1)) (sym more)) in
    subst (λ k. Alike most k (affine_at base (take (i + 1) slopes) (λ n. 1))) (sym is)
    (alike-trans most (min (sum + slope) most) (sum + slope) (affine_at base (take (i + 1) slopes) (λ n. 1)) (alike-min most (sum + slope))
    (alike-trans most (sum + slope) (affine_at base (take i slopes) (λ n. 1) + slope) (affine_at base (take (i + 1) slopes) (λ n. 1))
    (alike-sum most sum (affine_at base (take i slopes) (λ n. 1)) slope slope h (inl refl)) (inl total)))

from-nothing : (a b k : ℕ) (ks : List ℕ) → a ≡ 0 → ks ≡ [] → a + sloped ks 0 (λ n. 1) + 1 * b ≡ b
from-nothing a b k ks none empty =
    ap (λ s. a + sloped s 0 (λ n. 1) + 1 * b) empty ∙ ap (λ c. c + 0 + 1 * b) none ∙ once b
  where
    once : (b : ℕ) → 0 + 0 + 1 * b ≡ b
    once b = omega arith

-- what a whole expression counts from nothing decides whether it is too large
pub expr-large : (c : Counting) (x : Expr) (old tally : Tally) (sum : ℕ) → c.whole ≡ true → old.base ≡ 0 → old.slopes ≡ [] → Adds c 1 (weight_in c x) old tally
    → Alike c.most sum (affine_at tally.base tally.slopes (λ n. 1)) → nat_le c.most sum ≡ nat_le c.most (weight_in c x (λ n. 1))
expr-large c x old tally sum whole none empty adds total =
    let valued : Valued c.whole (λ n. 1) = subst (λ b. Valued b (λ n. 1)) (sym whole) (λ n. refl) in
    let counted : Alike c.most (affine_at tally.base tally.slopes (λ n. 1)) (affine_at old.base old.slopes (λ n. 1) + 1 * weight_in c x (λ n. 1)) = adds (λ n. 1) valued in
    alike-reach c.most sum (weight_in c x (λ n. 1))
    (alike-trans c.most sum (affine_at tally.base tally.slopes (λ n. 1)) (weight_in c x (λ n. 1)) total
    (subst (λ k. Alike c.most (affine_at tally.base tally.slopes (λ n. 1)) k) (from-nothing old.base (weight_in c x (λ n. 1)) 0 old.slopes none empty) counted))

-- ---- lists of expressions

pub heavy-conditions : (f : Expr → List TypeFault) (is : List Invariant) → flat_map (λ i. f i.condition) is ≡ flat_map f (map (λ i. i.condition) is)
heavy-conditions f [] = refl
heavy-conditions f (i ∷ is) = ap (λ ys. f i.condition ++ ys) (heavy-conditions f is)

pub heavy-targets : (f : Expr → List TypeFault) (ts : List Target) → flat_map (λ t. flat_map f (option_to_list t.index)) ts ≡ flat_map f (flat_map (λ t. option_to_list t.index) ts)
heavy-targets f [] = refl
heavy-targets f (t ∷ ts) =
    ap (λ ys. flat_map f (option_to_list t.index) ++ ys) (heavy-targets f ts) ∙ sym (flat_map-append f (option_to_list t.index) (flat_map (λ u. option_to_list u.index) ts))

-- the expressions of statements one after another
pub heavy-all : (f : Expr → List TypeFault) (ss : List Stmt) → flat_map (λ s. flat_map f (exprs_of s)) ss ≡ flat_map f (all_exprs (map exprs_of ss))
heavy-all f [] = refl
heavy-all f (s ∷ ss) = ap (λ ys. flat_map f (exprs_of s) ++ ys) (heavy-all f ss) ∙ sym (flat_map-append f (exprs_of s) (all_exprs (map exprs_of ss)))

pub heavy-three : (f : Expr → List TypeFault) (xs ys zs : List Expr) → flat_map f xs ++ flat_map f ys ++ flat_map f zs ≡ flat_map f (xs ++ ys ++ zs)
heavy-three f xs ys zs = ap (λ v. v ++ flat_map f zs) (sym (flat_map-append f xs ys)) ∙ sym (flat_map-append f (xs ++ ys) zs)

-- ---- statements

if-exprs : (x : If) → exprs_in_if x ≡ guard_exprs (out-If x).guard ++ all_exprs (map exprs_of (out-If x).then) ++ exprs_in_else (out-If x).other
unfolding exprs_of
if-exprs x = fold_out-If (List Expr) (List Expr) (List Expr) else_exprs stmt_exprs if_exprs x

pub else-absent : exprs_in_else elses.Absent ≡ []
else-absent = search (rules, the_lemmas)

pub else-if : (x : If) → exprs_in_else (elses.If x) ≡ exprs_in_if x
else-if x = search (rules, the_lemmas)

pub else-block : (body : List Stmt) → exprs_in_else (elses.Block body) ≡ all_exprs (map exprs_of body)
unfolding exprs_of
else-block body = search (rules, the_lemmas)

pub large-if : (c : Counting) (x : If) (found guarded so_far : Option TypeFault) (stmts : List Stmt)
    → stmts ≡ (out-If x).then → guarded ≡ earlier found (first (flat_map (heavy_in c) (guard_exprs (out-If x).guard))) → so_far ≡ earlier guarded (first (flat_map (heavy_stmt c) stmts))
    → earlier so_far (first (flat_map (heavy_in c) (exprs_in_else (out-If x).other))) ≡ earlier found (first (flat_map (heavy_in c) (exprs_in_if x)))
large-if c x found guarded so_far stmts same one two =
    let f = heavy_in c in
    let guard = guard_exprs (out-If x).guard in
    let then = all_exprs (map exprs_of (out-If x).then) in
    let other = exprs_in_else (out-If x).other in
    three-steps found guarded so_far (earlier so_far (first (flat_map f other))) (flat_map f guard) (flat_map f then) (flat_map f other) one
    (two ∙ ap (λ ys. earlier guarded (first (flat_map (heavy_stmt c) ys))) same ∙ ap (λ v. earlier guarded (first v)) (heavy-all f (out-If x).then)) refl
    ∙ ap (λ v. earlier found (first v)) (heavy-three f guard then other ∙ ap (flat_map f) (sym (if-exprs x)))

pub large-while : (c : Counting) (x : Stmt) (at : ℕ) (attributes : List Attribute) (guard : Guard) (invariants invs : List Invariant) (body stmts : List Stmt) (found guarded so_far : Option TypeFault)
    → x ≡ statement.While at attributes guard invariants body → invs ≡ invariants → stmts ≡ body
    → guarded ≡ earlier found (first (flat_map (heavy_in c) (guard_exprs guard))) → so_far ≡ earlier guarded (first (flat_map (λ i. heavy_in c i.condition) invs))
    → earlier so_far (first (flat_map (heavy_stmt c) stmts)) ≡ earlier found (first (heavy_stmt c x))
large-while c x at attributes guard invariants invs body stmts found guarded so_far is same also one two =
    let f = heavy_in c in
    let conditions = map (λ (i : Invariant). i.condition) invariants in
    let inner = all_exprs (map exprs_of body) in
    three-steps found guarded so_far (earlier so_far (first (flat_map (heavy_stmt c) stmts))) (flat_map f (guard_exprs guard)) (flat_map f conditions) (flat_map f inner) one
    (two ∙ ap (λ ys. earlier guarded (first (flat_map (λ (i : Invariant). f i.condition) ys))) same ∙ ap (λ v. earlier guarded (first v)) (heavy-conditions f invariants))
    (ap (λ ys. earlier so_far (first (flat_map (heavy_stmt c) ys))) also ∙ ap (λ v. earlier so_far (first v)) (heavy-all f body))
    ∙ ap (λ v. earlier found (first v)) (heavy-three f (guard_exprs guard) conditions inner ∙ ap (flat_map f) (sym (exprs-while at attributes guard invariants body)))
    ∙ ap (λ y. earlier found (first (heavy_stmt c y))) (sym is)

pub large-assign : (c : Counting) (x : Stmt) (at : ℕ) (targets ts : List Target) (values vs : List Expr) (found so_far : Option TypeFault)
    → x ≡ statement.Assign at targets values → ts ≡ targets → vs ≡ values → so_far ≡ earlier found (first (flat_map (λ t. flat_map (heavy_in c) (option_to_list t.index)) ts))
    → earlier so_far (first (flat_map (heavy_in c) vs)) ≡ earlier found (first (heavy_stmt c x))
large-assign c x at targets ts values vs found so_far is same also one =
    let f = heavy_in c in
    let indexes = flat_map (λ (t : Target). option_to_list t.index) targets in
    two-steps found so_far (earlier so_far (first (flat_map f vs))) (flat_map f indexes) (flat_map f values)
    (one ∙ ap (λ ys. earlier found (first (flat_map (λ (t : Target). flat_map f (option_to_list t.index)) ys))) same ∙ ap (λ v. earlier found (first v)) (heavy-targets f targets))
    (ap (λ ys. earlier so_far (first (flat_map f ys))) also)
    ∙ ap (λ v. earlier found (first v)) (sym (flat_map-append f indexes values) ∙ ap (flat_map f) (sym (exprs-assign at targets values)))
    ∙ ap (λ y. earlier found (first (heavy_stmt c y))) (sym is)

pub large-block : (c : Counting) (other : Else) (body stmts : List Stmt) (found : Option TypeFault) → other ≡ elses.Block body → stmts ≡ body
    → earlier found (first (flat_map (heavy_stmt c) stmts)) ≡ earlier found (first (flat_map (heavy_in c) (exprs_in_else other)))
large-block c other body stmts found is same =
    ap (λ ys. earlier found (first (flat_map (heavy_stmt c) ys))) same ∙ ap (λ v. earlier found (first v)) (heavy-all (heavy_in c) body)
    ∙ ap (λ ys. earlier found (first (flat_map (heavy_in c) ys))) (sym (else-block body)) ∙ ap (λ o. earlier found (first (flat_map (heavy_in c) (exprs_in_else o)))) (sym is)

-- the statements of a body, in its scope
pub body-large : {E : Type 0} (r : Result (Option TypeFault) E) (most : ℕ) (m : Templates) (tables : Tables) (scope names : Scope) (locals : List Named) (types : List Synonym) (heads : Heads) (body : Body) (stmts : List Stmt) (found : Option TypeFault)
    → names ≡ body_scope types heads body → locals ≡ names.locals → scope ≡ record { locals = locals; ins = names.ins; globals = names.globals } → stmts ≡ body.statements
    → IfOk r (λ answer. answer ≡ earlier found (first (flat_map (λ s. flat_map (heavy_fault most m tables scope) (exprs_of s)) stmts)))
    → IfOk r (λ answer. answer ≡ earlier found (first (heavy_body most m tables types heads (Some body))))
body-large (Err e) most m tables scope names locals types heads body stmts found is same known all h = tt
body-large (Ok answer) most m tables scope names locals types heads body stmts found is same known all h =
    let here : scope ≡ body_scope types heads body = known ∙ ap (λ (ls : List Named). record { locals = ls; ins = names.ins; globals = names.globals }) same ∙ is in
    h ∙ ap (λ (s : Scope). earlier found (first (flat_map (λ st. flat_map (heavy_fault most m tables s) (exprs_of st)) stmts))) here
    ∙ ap (λ ss. earlier found (first (flat_map (λ st. flat_map (heavy_fault most m tables (body_scope types heads body)) (exprs_of st)) ss))) all

pub ruleset statements = (exprs-label, exprs-assert, exprs-assume, exprs-havoc, exprs-goto, exprs-return, exprs-break, exprs-call, exprs-if, else-absent, else-if, earlier-none, nil-append)
