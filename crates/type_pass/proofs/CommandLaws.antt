-- The faults of commands, one after another.
use Rattle.std.proofs.Common.{◌≡◌, ℕ, ◌+◌, ◌<◌, ◌≤◌, Bool, true, false, List, [], ◌∷◌, ◌++◌, length, map, drop, get_or, Option, Some, None, Ok, Err, refl, sym, ◌∙◌, ap, arith, ◌⊎◌, inl, inr, rules}
use Rattle.std.proofs.Math.Seq.{drop-length}
use Rattle.std.proofs.lemmas.List.{drop_all}
use Rattle.std.proofs.lemmas.Option.{slice_get_cases}
use Rattle.std.specs.Prelude.{flat_map, slice_get}
use Rattle.std.specs.Option.{option_and_then}
use Rattle.bpl_ast.specs.declared.expr.Expr.{Expr}
use Rattle.bpl_ast.specs.declared.name.Name.{Name}
use Rattle.bpl_ast.specs.declared.stmt.Else.{Else}
use Rattle.bpl_ast.specs.declared.stmt.Else.TheFolds.{fold_out-If, the_lemmas}
use Rattle.bpl_ast.specs.declared.stmt.Else.TheVariants as elses
use Rattle.bpl_ast.specs.declared.stmt.If.{If, out-If}
use Rattle.bpl_ast.specs.declared.name.Attribute.{Attribute}
use Rattle.bpl_ast.specs.declared.stmt.Guard.{Guard}
use Rattle.bpl_ast.specs.declared.stmt.Invariant.{Invariant}
use Rattle.bpl_ast.specs.declared.stmt.Stmt.{Stmt}
use Rattle.bpl_ast.specs.declared.stmt.Stmt.TheVariants as statement
use Rattle.hy_val.specs.declared.sort.Sort.{Sort}
use Rattle.type_pass.specs.declared.fault.TypeFault.{TypeFault}
use Rattle.type_pass.specs.declared.fault.TypeKind.{TypeKind}
use Rattle.type_pass.specs.declared.tables.Scope.{Scope}
use Rattle.type_pass.specs.declared.tables.Tables.{Tables}
use Rattle.type_pass.specs.Commands.{value_faults, condition_faults, checked_faults, sort_faults, values_faults, outs_faults, guard_faults, all_faults, if_faults, else_faults, stmt_faults, else_node, stmt_node, if_node}
use Rattle.type_pass.specs.ExprSorts.{Checked, Part, part}
use Rattle.type_pass.specs.Faults.{fault, told, earlier, first}
use Rattle.type_pass.specs.Running.{out_faults}
use Rattle.type_pass.proofs.FaultLaws.{first-append, earlier-assoc, earlier-none}
use Rattle.type_pass.proofs.OperandLaws.{drop-more}
use Rattle.type_pass.proofs.StmtEquations.{faults-label, faults-assert, faults-assume, faults-havoc, faults-goto, faults-return, faults-break, faults-assign, faults-call, faults-if, faults-while}

-- what was found so far, and two lists of faults
pub earlier-append : (o : Option TypeFault) (xs ys : List TypeFault) → earlier o (first (xs ++ ys)) ≡ earlier (earlier o (first xs)) (first ys)
earlier-append o xs ys = ap (earlier o) (first-append xs ys) ∙ sym (earlier-assoc o (first xs) (first ys))

-- the same in steps, of which each adds to what was found
pub two-steps : (o p q : Option TypeFault) (xs ys : List TypeFault) → p ≡ earlier o (first xs) → q ≡ earlier p (first ys) → q ≡ earlier o (first (xs ++ ys))
two-steps o p q xs ys one two = two ∙ ap (λ (v : Option TypeFault). earlier v (first ys)) one ∙ sym (earlier-append o xs ys)

pub three-steps : (o p q r : Option TypeFault) (xs ys zs : List TypeFault) → p ≡ earlier o (first xs) → q ≡ earlier p (first ys) → r ≡ earlier q (first zs) → r ≡ earlier o (first (xs ++ ys ++ zs))
three-steps o p q r xs ys zs one two three = two-steps o q r (xs ++ ys) zs (two-steps o p q xs ys one two) three

pub four-steps : (o p q r v : Option TypeFault) (xs ys zs ws : List TypeFault) → p ≡ earlier o (first xs) → q ≡ earlier p (first ys) → r ≡ earlier q (first zs) → v ≡ earlier r (first ws) → v ≡ earlier o (first (xs ++ ys ++ zs ++ ws))
four-steps o p q r v xs ys zs ws one two three four = two-steps o r v (xs ++ ys ++ zs) ws (three-steps o p q r xs ys zs one two three) four

-- nothing is added
pub no-step : (o : Option TypeFault) → o ≡ earlier o (first [])
no-step o = sym (earlier-none o)

pub told-step : (o : Option TypeFault) (b : Bool) (at : ℕ) (kind : TypeKind) (p : Option TypeFault) → b ≡ true → p ≡ earlier o (Some (fault at kind)) → p ≡ earlier o (first (told b at kind))
told-step o b at kind p holds h = h ∙ sym (ap (λ v. earlier o (first (told v at kind))) holds)

pub not-told-step : (o : Option TypeFault) (b : Bool) (at : ℕ) (kind : TypeKind) → b ≡ false → o ≡ earlier o (first (told b at kind))
not-told-step o b at kind not = no-step o ∙ sym (ap (λ v. earlier o (first (told v at kind))) not)

-- ---- lists

pub flat-turn : {A : Type 0} (f : A → List TypeFault) (xs : List A) (i : ℕ) (x : A) (found next all : Option TypeFault)
    → i < length xs → x ≡ get_or xs i x → next ≡ earlier found (first (f x))
    → earlier found (first (flat_map f (drop i xs))) ≡ all
    → earlier next (first (flat_map f (drop (i + 1) xs))) ≡ all
flat-turn f xs i x found next all within is step h =
    ap (λ (v : Option TypeFault). earlier v (first (flat_map f (drop (i + 1) xs)))) step
    ∙ sym (earlier-append found (f x) (flat_map f (drop (i + 1) xs)))
    ∙ ap (λ ys. earlier found (first (flat_map f ys))) (sym (drop-more xs i x within is)) ∙ h

pub flat-end : {A : Type 0} (f : A → List TypeFault) (xs : List A) (i : ℕ) (found all : Option TypeFault)
    → i ≡ length xs → earlier found (first (flat_map f (drop i xs))) ≡ all → found ≡ all
flat-end f xs i found all ends h =
    sym (earlier-none found) ∙ ap (λ ys. earlier found (first (flat_map f ys))) (sym (drop-length xs)) ∙ ap (λ j. earlier found (first (flat_map f (drop j xs)))) (sym ends) ∙ h

-- the faults of parts, and of a whole
pub all-flat : {A : Type 0} (f : A → List TypeFault) (xs : List A) → flat_map f xs ≡ all_faults (map f xs)
all-flat f [] = refl
all-flat f (x ∷ xs) = ap (λ v. f x ++ v) (all-flat f xs)

-- ---- values

values-cases : {A : Type 0} (f : A → Option Sort) (ws : List A) (i : ℕ) (p : Part) (ps : List Part)
    → ((w : A) × (i < length ws) × (slice_get ws i ≡ Some w) × (get_or ws i w ≡ w)) ⊎ ((length ws ≤ i) × (slice_get ws i ≡ None))
    → values_faults (map f (drop i ws)) (p ∷ ps) ≡ value_faults (option_and_then f (slice_get ws i)) p ++ values_faults (map f (drop (i + 1) ws)) ps
values-cases f ws i p ps (inl w) =
    ap (λ vs. values_faults (map f vs) (p ∷ ps)) (drop-more ws i w.0 w.1 (sym w.3))
    ∙ ap (λ o. value_faults (option_and_then f o) p ++ values_faults (map f (drop (i + 1) ws)) ps) (sym w.2)
values-cases f ws i p ps (inr w) =
    ap (λ vs. values_faults (map f vs) (p ∷ ps)) (drop_all i ws w.0)
    ∙ ap (λ vs. value_faults None p ++ values_faults (map f vs) ps) (sym (drop_all (i + 1) ws (omega (arith, w.0))))
    ∙ ap (λ o. value_faults (option_and_then f o) p ++ values_faults (map f (drop (i + 1) ws)) ps) (sym w.1)

pub values-turn : {A : Type 0} (f : A → Option Sort) (ws : List A) (t : Tables) (s : Scope) (xs : List Expr) (i : ℕ) (x : Expr) (wanted : Option Sort) (found next all : Option TypeFault)
    → wanted ≡ option_and_then f (slice_get ws i) → i < length xs → x ≡ get_or xs i x → next ≡ earlier found (first (value_faults wanted (part t s x)))
    → earlier found (first (values_faults (map f (drop i ws)) (map (part t s) (drop i xs)))) ≡ all
    → earlier next (first (values_faults (map f (drop (i + 1) ws)) (map (part t s) (drop (i + 1) xs)))) ≡ all
values-turn f ws t s xs i x wanted found next all place within is step h =
    let rest : List TypeFault = values_faults (map f (drop (i + 1) ws)) (map (part t s) (drop (i + 1) xs)) in
    ap (λ (v : Option TypeFault). earlier v (first rest)) (step ∙ ap (λ (w : Option Sort). earlier found (first (value_faults w (part t s x)))) place)
    ∙ sym (earlier-append found (value_faults (option_and_then f (slice_get ws i)) (part t s x)) rest)
    ∙ ap (λ v. earlier found (first v)) (sym (values-cases f ws i (part t s x) (map (part t s) (drop (i + 1) xs)) (slice_get_cases ws i).1))
    ∙ ap (λ ys. earlier found (first (values_faults (map f (drop i ws)) (map (part t s) ys)))) (sym (drop-more xs i x within is)) ∙ h

pub values-end : (ws : List (Option Sort)) (t : Tables) (s : Scope) (xs : List Expr) (i : ℕ) (found all : Option TypeFault)
    → i ≡ length xs → earlier found (first (values_faults ws (map (part t s) (drop i xs)))) ≡ all → found ≡ all
values-end ws t s xs i found all ends h =
    sym (earlier-none found) ∙ ap (λ ys. earlier found (first (values_faults ws (map (part t s) ys)))) (sym (drop-length xs))
    ∙ ap (λ j. earlier found (first (values_faults ws (map (part t s) (drop j xs))))) (sym ends) ∙ h

pub sort-some : (o : Option Sort) → o ≡ option_and_then Some o
sort-some None = refl
sort-some (Some s) = refl

-- the fault of a value, from its sort
pub value-err : (o q : Option TypeFault) (wanted : Option Sort) (p : Part) (f : TypeFault) → p.sort ≡ Err f → q ≡ earlier o (Some f) → q ≡ earlier o (first (value_faults wanted p))
value-err o q wanted p f is h = h ∙ sym (ap (λ (c : Checked). earlier o (first (checked_faults wanted p.at c))) is)

pub value-ok : (o q : Option TypeFault) (wanted : Option Sort) (p : Part) (at : ℕ) (s : Sort) → p.sort ≡ Ok s → p.at ≡ at → q ≡ earlier o (first (sort_faults wanted at s)) → q ≡ earlier o (first (value_faults wanted p))
value-ok o q wanted p at s is place h =
    h ∙ sym (ap (λ (a : ℕ). earlier o (first (sort_faults wanted a s))) place) ∙ sym (ap (λ (c : Checked). earlier o (first (checked_faults wanted p.at c))) is)

-- ---- targets of a call

outs-none : (t : Tables) (s : Scope) (ss : List Sort) → outs_faults t s ss [] ≡ []
outs-none t s [] = refl
outs-none t s (x ∷ ss) = refl

outs-cases : (t : Tables) (s : Scope) (ss : List Sort) (i : ℕ) (n : Name) (ns : List Name)
    → ((w : Sort) × (i < length ss) × (slice_get ss i ≡ Some w) × (get_or ss i w ≡ w)) ⊎ ((length ss ≤ i) × (slice_get ss i ≡ None))
    → outs_faults t s (drop i ss) (n ∷ ns) ≡ out_faults t s (slice_get ss i) n ++ outs_faults t s (drop (i + 1) ss) ns
outs-cases t s ss i n ns (inl w) =
    ap (λ vs. outs_faults t s vs (n ∷ ns)) (drop-more ss i w.0 w.1 (sym w.3))
    ∙ ap (λ o. out_faults t s o n ++ outs_faults t s (drop (i + 1) ss) ns) (sym w.2)
outs-cases t s ss i n ns (inr w) =
    ap (λ vs. outs_faults t s vs (n ∷ ns)) (drop_all i ss w.0)
    ∙ ap (λ vs. outs_faults t s vs ns) (sym (drop_all (i + 1) ss (omega (arith, w.0))))
    ∙ ap (λ o. out_faults t s o n ++ outs_faults t s (drop (i + 1) ss) ns) (sym w.1)

pub outs-turn : (t : Tables) (s : Scope) (ss : List Sort) (xs : List Name) (i : ℕ) (x : Name) (wanted : Option Sort) (found next all : Option TypeFault)
    → wanted ≡ slice_get ss i → i < length xs → x ≡ get_or xs i x → next ≡ earlier found (first (out_faults t s wanted x))
    → earlier found (first (outs_faults t s (drop i ss) (drop i xs))) ≡ all
    → earlier next (first (outs_faults t s (drop (i + 1) ss) (drop (i + 1) xs))) ≡ all
outs-turn t s ss xs i x wanted found next all place within is step h =
    let rest : List TypeFault = outs_faults t s (drop (i + 1) ss) (drop (i + 1) xs) in
    ap (λ (v : Option TypeFault). earlier v (first rest)) (step ∙ ap (λ (w : Option Sort). earlier found (first (out_faults t s w x))) place)
    ∙ sym (earlier-append found (out_faults t s (slice_get ss i) x) rest)
    ∙ ap (λ v. earlier found (first v)) (sym (outs-cases t s ss i x (drop (i + 1) xs) (slice_get_cases ss i).1))
    ∙ ap (λ ys. earlier found (first (outs_faults t s (drop i ss) ys))) (sym (drop-more xs i x within is)) ∙ h

pub outs-end : (t : Tables) (s : Scope) (ss : List Sort) (xs : List Name) (i : ℕ) (found all : Option TypeFault)
    → i ≡ length xs → earlier found (first (outs_faults t s ss (drop i xs))) ≡ all → found ≡ all
outs-end t s ss xs i found all ends h =
    sym (earlier-none found) ∙ ap (λ v. earlier found (first v)) (sym (outs-none t s ss)) ∙ ap (λ ys. earlier found (first (outs_faults t s ss ys))) (sym (drop-length xs))
    ∙ ap (λ j. earlier found (first (outs_faults t s ss (drop j xs)))) (sym ends) ∙ h

-- ---- an `if`, and what stands after `else`

pub if-parts : (t : Tables) (s : Scope) (x : If) → if_faults t s x ≡ guard_faults t s (out-If x).guard ++ all_faults (map (stmt_faults t s) (out-If x).then) ++ else_faults t s (out-If x).other
unfolding stmt_faults
if-parts t s x = fold_out-If (List TypeFault) (List TypeFault) (List TypeFault) else_node (stmt_node t s) (if_node t s) x

pub else-absent : (t : Tables) (s : Scope) → else_faults t s elses.Absent ≡ []
else-absent t s = search (rules, the_lemmas)

pub else-if : (t : Tables) (s : Scope) (x : If) → else_faults t s (elses.If x) ≡ if_faults t s x
else-if t s x = search (rules, the_lemmas)

pub else-block : (t : Tables) (s : Scope) (body : List Stmt) → else_faults t s (elses.Block body) ≡ all_faults (map (stmt_faults t s) body)
unfolding stmt_faults
else-block t s body = search (rules, the_lemmas)

-- ---- statements within statements

pub if-steps : (t : Tables) (s : Scope) (x : If) (found guarded so_far : Option TypeFault) (stmts : List Stmt)
    → stmts ≡ (out-If x).then → guarded ≡ earlier found (first (guard_faults t s (out-If x).guard)) → so_far ≡ earlier guarded (first (flat_map (stmt_faults t s) stmts))
    → earlier so_far (first (else_faults t s (out-If x).other)) ≡ earlier found (first (if_faults t s x))
if-steps t s x found guarded so_far stmts same one two =
    three-steps found guarded so_far (earlier so_far (first (else_faults t s (out-If x).other)))
    (guard_faults t s (out-If x).guard) (all_faults (map (stmt_faults t s) (out-If x).then)) (else_faults t s (out-If x).other)
    one (two ∙ ap (λ ys. earlier guarded (first (flat_map (stmt_faults t s) ys))) same ∙ ap (λ v. earlier guarded (first v)) (all-flat (stmt_faults t s) (out-If x).then)) refl
    ∙ ap (λ v. earlier found (first v)) (sym (if-parts t s x))

pub while-steps : (t : Tables) (s : Scope) (x : Stmt) (at : ℕ) (attributes : List Attribute) (guard : Guard) (invariants invs : List Invariant) (body stmts : List Stmt) (found guarded so_far : Option TypeFault)
    → x ≡ statement.While at attributes guard invariants body → invs ≡ invariants → stmts ≡ body
    → guarded ≡ earlier found (first (guard_faults t s guard)) → so_far ≡ earlier guarded (first (flat_map (λ i. condition_faults t s i.condition) invs))
    → earlier so_far (first (flat_map (stmt_faults t s) stmts)) ≡ earlier found (first (stmt_faults t s x))
while-steps t s x at attributes guard invariants invs body stmts found guarded so_far is same also one two =
    three-steps found guarded so_far (earlier so_far (first (flat_map (stmt_faults t s) stmts)))
    (guard_faults t s guard) (flat_map (λ i. condition_faults t s i.condition) invariants) (all_faults (map (stmt_faults t s) body))
    one (two ∙ ap (λ ys. earlier guarded (first (flat_map (λ i. condition_faults t s i.condition) ys))) same)
    (ap (λ ys. earlier so_far (first (flat_map (stmt_faults t s) ys))) also ∙ ap (λ v. earlier so_far (first v)) (all-flat (stmt_faults t s) body))
    ∙ ap (λ v. earlier found (first v)) (sym (faults-while t s at attributes guard invariants body))
    ∙ ap (λ y. earlier found (first (stmt_faults t s y))) (sym is)

pub else-steps : (t : Tables) (s : Scope) (other : Else) (body stmts : List Stmt) (found : Option TypeFault)
    → other ≡ elses.Block body → stmts ≡ body → earlier found (first (flat_map (stmt_faults t s) stmts)) ≡ earlier found (first (else_faults t s other))
else-steps t s other body stmts found is same =
    ap (λ ys. earlier found (first (flat_map (stmt_faults t s) ys))) same ∙ ap (λ v. earlier found (first v)) (all-flat (stmt_faults t s) body)
    ∙ ap (λ v. earlier found (first v)) (sym (else-block t s body)) ∙ ap (λ o. earlier found (first (else_faults t s o))) (sym is)

pub ruleset statements = (faults-label, faults-assert, faults-assume, faults-havoc, faults-goto, faults-return, faults-break, faults-assign, faults-call, faults-if, faults-while, earlier-none)
