-- A statement without faults becomes one that fits.
use Rattle.std.proofs.Common.{◌≡◌, ℕ, suc, Bool, true, false, not, ◌&&◌, ◌||◌, List, [], ◌∷◌, ◌++◌, length, map, flat_map, Option, Some, None, Ok, refl, sym, ◌∙◌, ap, subst, arith, rules}
use Rattle.std.specs.List.{list_all, slice_get}
use Rattle.std.specs.Option.{option_map}
use Rattle.std.specs.Prelude.{nat_eq, nat_lt, if◌then◌else◌}
use Rattle.std.proofs.lemmas.List.{length-map}
use Rattle.std.proofs.lemmas.Bool.Decides.{nat_tests}
use Rattle.bpl_ast.specs.declared.decl.Ast.{Ast}
use Rattle.bpl_ast.specs.declared.decl.Function.{Function}
use Rattle.bpl_ast.specs.declared.expr.Expr.{Expr}
use Rattle.bpl_ast.specs.declared.name.Name.{Name}
use Rattle.bpl_ast.specs.declared.stmt.Else.{Else, roll-Else}
use Rattle.bpl_ast.specs.declared.stmt.Else.TheFolds.{ind-Stmt, map-Stmt, map-If, map-Else, fold-roll-Stmt, fold-roll-If, fold-roll-Else, fold-Else, fold-If}
use Rattle.bpl_ast.specs.declared.stmt.Else.TheOpen.{Else-F, Stmt-F, If-F}
use Rattle.bpl_ast.specs.declared.stmt.Guard.{Guard}
use Rattle.bpl_ast.specs.declared.stmt.Guard.TheVariants.{Any, Condition}
use Rattle.bpl_ast.specs.declared.stmt.If.{If, roll-If}
use Rattle.bpl_ast.specs.declared.stmt.Invariant.{Invariant}
use Rattle.bpl_ast.specs.declared.stmt.Stmt.{Stmt, roll-Stmt}
use Rattle.bpl_ast.specs.declared.stmt.Target.{Target}
use Rattle.hy_val.specs.NodeSorts.{is_sort, same_sort, as_scalar, store_sort}
use Rattle.hy_val.specs.declared.expr.ExprNode.{ExprNode}
use Rattle.hy_val.specs.declared.expr.Var.{Var}
use Rattle.hy_val.specs.declared.expr.Var.TheVariants.{Const, Global, Local}
use Rattle.hy_val.specs.declared.sort.Sort.{Sort}
use Rattle.hy_val.specs.declared.sort.SortKind.TheVariants.{Scalar as ScalarSort, Map as MapSort}
use Rattle.hy_val.specs.Scope.{sort_of_variable, sort_of_target, is_sort_of, are_same, is_target, is_condition, expr_fits, pair_fits}
use Rattle.src_prog.specs.Scope.{args_fit, targets_fit}
use Rattle.hy_val.specs.Scope as src
use Rattle.type_pass.specs.declared.fault.TypeFault.{TypeFault}
use Rattle.type_pass.specs.declared.fault.TypeKind.TheVariants.{Mismatch, NotAssignable, Arity, LeftOut}
use Rattle.bpl_ast.specs.declared.word.Word.TheVariants.{NoBody}
use Rattle.type_pass.specs.declared.tables.Heading.{Heading}
use Rattle.type_pass.specs.declared.tables.Scope.{Scope}
use Rattle.type_pass.specs.declared.tables.Tables.{Tables}
use Rattle.type_pass.specs.declared.tables.Named.{Named}
use Rattle.bpl_type.specs.declared.typed.TypedInvariant.{TypedInvariant}
use Rattle.bpl_type.specs.declared.typed.TypedProc.{TypedProc}
use Rattle.bpl_type.specs.declared.typed.TypedStmt.{TypedStmt}
use Rattle.bpl_type.specs.declared.typed.TypedStmt.TheFolds.{the_lemmas}
use Rattle.bpl_type.specs.declared.typed.TypedStmt.TheVariants as typed
use Rattle.type_pass.specs.Commands as commands
use Rattle.type_pass.specs.Commands.{condition_faults, guard_faults, name_faults, seen_faults, target_faults, index_faults, index_of_faults, target_sort, sort_of_target as wanted_sort, element, value_faults, values_faults, outs_faults, taken_faults, called_faults, call_faults, assign_faults, all_faults, stmt_faults, if_faults, else_faults, differ}
use Rattle.type_pass.specs.Declarations.{functions}
use Rattle.type_pass.specs.ExprSorts.{part, bool_sort}
use Rattle.type_pass.specs.Faults.{told}
use Rattle.type_pass.specs.Names.{repeats}
use Rattle.type_pass.specs.Replaced.{read_if, term_of, use_within}
use Rattle.type_pass.specs.Scopes.{tables_of, find_name, is_assignable, procedure_named, body_number}
use Rattle.type_pass.specs.Terms.{store, nodes_of}
use Rattle.bpl_type.specs.TypedOf as forms
use Rattle.bpl_type.specs.TypedOf.{expr_of, var_if, var_of, assigned, pair_of, pairs_of, guard_of, invariant_of, stmt_of}
use Rattle.bpl_type.specs.WellTyped.{named, sorts_of, guard_fits, invariant_fits, callee_fits, all_fit, stmt_fits}
use Rattle.bpl_type.proofs.Elements.{and-true, some-is, nil-split}
use Rattle.bpl_type.proofs.Fitted.{fitted}
use Rattle.bpl_type.proofs.FunctionsFit.{FunctionsSound, all-fit, value-ok, told-not, told-false}
use Rattle.bpl_type.proofs.Induction.{preserved}
use Rattle.bpl_type.proofs.Places.{place, globals_if, SortsKnown, Stands, found-stands, are-known, is_sort_of-self}
use Rattle.bpl_type.proofs.Preserved.{same_sort-is, same_sort-self, written-self}
use Rattle.bpl_type.proofs.TermFits.{knows_in, term_fits}

-- ---- the fitting of typed statements, by the outermost node

module _ (cs : List TypedProc) (sc : src.Scope) where
  fits-label : (n : Name) → stmt_fits cs sc (typed.Label n) ≡ true
  unfolding stmt_fits
  fits-label n = search (rules, the_lemmas)

  pub fits-assert : (c : List ExprNode) → stmt_fits cs sc (typed.Assert c) ≡ is_condition sc c
  unfolding stmt_fits
  fits-assert c = search (rules, the_lemmas)

  pub fits-assume : (c : List ExprNode) → stmt_fits cs sc (typed.Assume c) ≡ is_condition sc c
  unfolding stmt_fits
  fits-assume c = search (rules, the_lemmas)

  fits-havoc : (xs : List Var) → stmt_fits cs sc (typed.Havoc xs) ≡ list_all (is_target sc) xs
  unfolding stmt_fits
  fits-havoc xs = search (rules, the_lemmas)

  fits-goto : (labels : List Name) → stmt_fits cs sc (typed.Goto labels) ≡ nat_lt 0 (length labels)
  unfolding stmt_fits
  fits-goto labels = search (rules, the_lemmas)

  fits-return : stmt_fits cs sc typed.Return ≡ true
  unfolding stmt_fits
  fits-return = search (rules, the_lemmas)

  fits-break : (at : ℕ) (label : Option Name) → stmt_fits cs sc (typed.Break at label) ≡ true
  unfolding stmt_fits
  fits-break at label = search (rules, the_lemmas)

  pub fits-assign : (pairs : List (Var × List ExprNode)) → stmt_fits cs sc (typed.Assign pairs) ≡ list_all (pair_fits sc) pairs
  unfolding stmt_fits
  fits-assign pairs = search (rules, the_lemmas)

  pub fits-call : (proc : ℕ) (args : List (List ExprNode)) (outs : List Var) → stmt_fits cs sc (typed.Call proc args outs) ≡ callee_fits sc (slice_get cs proc) args outs
  unfolding stmt_fits
  fits-call proc args outs = search (rules, the_lemmas)

  pub fits-if : (guard : Option (List ExprNode)) (part other : List TypedStmt)
      → stmt_fits cs sc (typed.If guard part other) ≡ (guard_fits sc guard && (all_fit (map (stmt_fits cs sc) part) && all_fit (map (stmt_fits cs sc) other)))
  unfolding stmt_fits
  fits-if guard part other = search (rules, the_lemmas)

  pub fits-while : (guard : Option (List ExprNode)) (invariants : List TypedInvariant) (body : List TypedStmt)
      → stmt_fits cs sc (typed.While guard invariants body) ≡ (guard_fits sc guard && (list_all (invariant_fits sc) invariants && all_fit (map (stmt_fits cs sc) body)))
  unfolding stmt_fits
  fits-while guard invariants body = search (rules, the_lemmas)

-- ---- the faults and the typed form of a statement, by its outermost node

abbrev Faults : Type 0
Faults = List TypeFault

abbrev else_of : Tables → List Function → Scope → Else → List TypedStmt
else_of t fs s = fold-Else (List TypedStmt) TypedStmt TypedStmt forms.else_node (forms.stmt_node t fs s) (forms.if_node t fs s)

abbrev if_of : Tables → List Function → Scope → If → TypedStmt
if_of t fs s = fold-If (List TypedStmt) TypedStmt TypedStmt forms.else_node (forms.stmt_node t fs s) (forms.if_node t fs s)

faults-roll : (t : Tables) (s : Scope) (d : Stmt-F Else Stmt If)
    → stmt_faults t s (roll-Stmt d) ≡ commands.stmt_node t s (map-Stmt Else Stmt If Faults Faults Faults (else_faults t s) (stmt_faults t s) (if_faults t s) d)
unfolding stmt_faults
faults-roll t s d = fold-roll-Stmt Faults Faults Faults commands.else_node (commands.stmt_node t s) (commands.if_node t s) d

if_faults-roll : (t : Tables) (s : Scope) (d : If-F Else Stmt If)
    → if_faults t s (roll-If d) ≡ commands.if_node t s (map-If Else Stmt If Faults Faults Faults (else_faults t s) (stmt_faults t s) (if_faults t s) d)
unfolding stmt_faults
if_faults-roll t s d = fold-roll-If Faults Faults Faults commands.else_node (commands.stmt_node t s) (commands.if_node t s) d

else_faults-roll : (t : Tables) (s : Scope) (d : Else-F Else Stmt If)
    → else_faults t s (roll-Else d) ≡ commands.else_node (map-Else Else Stmt If Faults Faults Faults (else_faults t s) (stmt_faults t s) (if_faults t s) d)
unfolding stmt_faults
else_faults-roll t s d = fold-roll-Else Faults Faults Faults commands.else_node (commands.stmt_node t s) (commands.if_node t s) d

typed-roll : (t : Tables) (fs : List Function) (s : Scope) (d : Stmt-F Else Stmt If)
    → stmt_of t fs s (roll-Stmt d) ≡ forms.stmt_node t fs s (map-Stmt Else Stmt If (List TypedStmt) TypedStmt TypedStmt (else_of t fs s) (stmt_of t fs s) (if_of t fs s) d)
unfolding stmt_of
typed-roll t fs s d = fold-roll-Stmt (List TypedStmt) TypedStmt TypedStmt forms.else_node (forms.stmt_node t fs s) (forms.if_node t fs s) d

if_of-roll : (t : Tables) (fs : List Function) (s : Scope) (d : If-F Else Stmt If)
    → if_of t fs s (roll-If d) ≡ forms.if_node t fs s (map-If Else Stmt If (List TypedStmt) TypedStmt TypedStmt (else_of t fs s) (stmt_of t fs s) (if_of t fs s) d)
unfolding stmt_of
if_of-roll t fs s d = fold-roll-If (List TypedStmt) TypedStmt TypedStmt forms.else_node (forms.stmt_node t fs s) (forms.if_node t fs s) d

else_of-roll : (t : Tables) (fs : List Function) (s : Scope) (d : Else-F Else Stmt If)
    → else_of t fs s (roll-Else d) ≡ forms.else_node (map-Else Else Stmt If (List TypedStmt) TypedStmt TypedStmt (else_of t fs s) (stmt_of t fs s) (if_of t fs s) d)
unfolding stmt_of
else_of-roll t fs s d = fold-roll-Else (List TypedStmt) TypedStmt TypedStmt forms.else_node (forms.stmt_node t fs s) (forms.if_node t fs s) d

-- ---- names that change

target-is : (t : Tables) (s : Scope) (x : Var) (r : Sort) → is_assignable s x ≡ true → sort_of_variable (place t s) x ≡ Some r → sort_of_target (place t s) x ≡ Some r
target-is t s (Const n) r ok h = absurd (cc)
target-is t s (Global n) r ok h = h
target-is t s (Local n) r ok h = h

-- what a name without faults is seen as
record Changes (t : Tables) (s : Scope) (found : Option (Var × Sort)) : Type 0 where
  pub seen : Var × Sort
  pub is_found : found ≡ Some seen
  pub target : sort_of_target (place t s) seen.0 ≡ Some seen.1

changes-of : (t : Tables) (s : Scope) (at : ℕ) (found : Option (Var × Sort)) → ((seen : Var × Sort) → found ≡ Some seen → Stands t s seen) → seen_faults s at found ≡ [] → Changes t s found
changes-of t s at None stands h = absurd (cc)
changes-of t s at (Some seen) stands h =
    record { seen = seen; is_found = refl; target = target-is t s seen.0 seen.1 (told-not (is_assignable s seen.0) at NotAssignable h) (stands seen refl).there }

pub differ-not : (m n : ℕ) → differ m n ≡ false → m ≡ n
differ-not m n h = equal-of (nat_eq m n) refl h
  where
    equal-of : (b : Bool) → nat_eq m n ≡ b → not b ≡ false → m ≡ n
    equal-of true is k = grind (arith, nat_tests)
    equal-of false is k = absurd (cc)

pub neither : (a b : Bool) → (a || b) ≡ false → (a ≡ false) × (b ≡ false)
neither false b h = (refl, h)
neither true b h = absurd (cc)

-- ---- statements of a program

-- calls name procedures that have bodies, with the sorts of their heads
abbrev pub CallsFit : Tables → List TypedProc → Type 0
CallsFit t callees = (text : List ℕ) (p : Heading) → procedure_named t text ≡ Some p → p.has_body ≡ true
    → (q : TypedProc) × (slice_get callees (body_number t text) ≡ Some q) × (sorts_of q.ins ≡ p.ins) × (sorts_of q.outs ≡ p.outs)

module _ (ast : Ast) (sound : FunctionsSound ast) (s : Scope) (known : SortsKnown (tables_of ast) s) (callees : List TypedProc) (calls : CallsFit (tables_of ast) callees) where
  abbrev t : Tables
  t = tables_of ast

  abbrev fs : List Function
  fs = functions ast

  abbrev sc : src.Scope
  sc = place t s

  -- the term of an expression that has a sort has that sort
  term-is : (x : Expr) (r : Sort) → (part t s x).sort ≡ Ok r → fitted (knows_in sc) (term_of t fs s x) ≡ Some r
  term-is x r h = preserved (knows_in sc) (use_within (length fs) t fs) t s (are-known t s known) x (all-fit ast sound (globals_if s.globals t) (sorts_of s.locals) _) r h

  value-fits : (x : Expr) (w : Sort) → value_faults (Some w) (part t s x) ≡ [] → expr_fits sc (Some w) (expr_of t fs s x) ≡ true
  value-fits x w h = term_fits sc (term_of t fs s x) w (term-is x w (value-ok w (part t s x) h))

  pub condition-fits : (x : Expr) → condition_faults t s x ≡ [] → is_condition sc (expr_of t fs s x) ≡ true
  condition-fits x h = value-fits x bool_sort h

  guard-fits : (g : Guard) → guard_faults t s g ≡ [] → guard_fits sc (guard_of t fs s g) ≡ true
  guard-fits (Any at) h = refl
  guard-fits (Condition condition) h = condition-fits condition h

  invariants-fit : (xs : List Invariant) → flat_map (λ i. condition_faults t s i.condition) xs ≡ [] → list_all (invariant_fits sc) (map (invariant_of t fs s) xs) ≡ true
  invariants-fit [] h = refl
  invariants-fit (x ∷ xs) h =
      let p = nil-split (condition_faults t s x.condition) (flat_map (λ (i : Invariant). condition_faults t s i.condition) xs) h in
      and-true (is_condition sc (expr_of t fs s x.condition)) (list_all (invariant_fits sc) (map (invariant_of t fs s) xs)) (condition-fits x.condition p.0) (invariants-fit xs p.1)

  name-changes : (n : Name) → name_faults t s n ≡ [] → Changes t s (find_name t s n.text)
  name-changes n h = changes-of t s n.at (find_name t s n.text) (λ seen is. found-stands t s known n.text seen is) h

  -- the sort of the variable of a name that changes
  target-of : (n : Name) (c : Changes t s (find_name t s n.text)) → sort_of_target sc (var_of t s n) ≡ Some c.seen.1
  target-of n c = ap (λ o. sort_of_target sc (var_if o)) c.is_found ∙ c.target

  havoc-fits : (names : List Name) → flat_map (name_faults t s) names ≡ [] → list_all (is_target sc) (map (var_of t s) names) ≡ true
  havoc-fits [] h = refl
  havoc-fits (n ∷ ns) h =
      let p = nil-split (name_faults t s n) (flat_map (name_faults t s) ns) h in
      let c = name-changes n p.0 in
      and-true (is_target sc (var_of t s n)) (list_all (is_target sc) (map (var_of t s) ns))
      (ap (λ o. are_same o o) (target-of n c) ∙ same_sort-self c.seen.1) (havoc-fits ns p.1)

  -- ---- assignments

  -- `m[i] := e`
  entry-fits : (x : Var) (sort : Sort) (at : ℕ) (index value : Expr) → Stands t s (x, sort) → index_of_faults at sort (part t s index) ≡ [] → value_faults (element sort) (part t s value) ≡ []
      → fitted (knows_in sc) (store (read_if (Some (x, sort))) (term_of t fs s index) (term_of t fs s value)) ≡ Some sort
  entry-fits x (ScalarSort i) at index value stands hi hv = absurd (cc)
  entry-fits x (MapSort i e) at index value stands hi hv =
      let ti = term-is index (ScalarSort i) (value-ok (ScalarSort i) (part t s index) hi) in
      let tv = term-is value (ScalarSort e) (value-ok (ScalarSort e) (part t s value) hv) in
      let m = ap (λ (b : Bool). if b then Some (MapSort i e) else None) (and-true (is_sort (MapSort i e)) (is_sort_of (sort_of_variable sc x) (MapSort i e)) stands.is_sort (is_sort_of-self (sort_of_variable sc x) (MapSort i e) stands.there)) in
      ap (λ o. store_sort o (as_scalar (fitted (knows_in sc) (term_of t fs s index))) (as_scalar (fitted (knows_in sc) (term_of t fs s value)))) m
      ∙ ap (λ o. store_sort (Some (MapSort i e)) (as_scalar o) (as_scalar (fitted (knows_in sc) (term_of t fs s value)))) ti
      ∙ ap (λ o. store_sort (Some (MapSort i e)) (Some i) (as_scalar o)) tv
      ∙ written-self (knows_in sc) i e

  pair-of : (found : Option (Var × Sort)) (index : Option Expr) (at : ℕ) (value : Expr) → ((seen : Var × Sort) → found ≡ Some seen → Stands t s seen)
      → Changes t s found → index_faults at found (option_map (part t s) index) ≡ [] → value_faults (target_sort found index) (part t s value) ≡ []
      → expr_fits sc (sort_of_target sc (var_if found)) (nodes_of (assigned found (option_map (term_of t fs s) index) (term_of t fs s value))) ≡ true
  pair-of None index at value stands c hi hv = absurd (cc (c.is_found))
  pair-of (Some seen) None at value stands c hi hv =
      let same = some-is seen c.seen c.is_found in
      ap (λ o. expr_fits sc o (nodes_of (term_of t fs s value))) (subst (λ (v : Var × Sort). sort_of_target sc v.0 ≡ Some v.1) (sym same) c.target) ∙ value-fits value seen.1 hv
  pair-of (Some seen) (Some index) at value stands c hi hv =
      let same = some-is seen c.seen c.is_found in
      let term = store (read_if (Some seen)) (term_of t fs s index) (term_of t fs s value) in
      ap (λ o. expr_fits sc o (nodes_of term)) (subst (λ (v : Var × Sort). sort_of_target sc v.0 ≡ Some v.1) (sym same) c.target)
      ∙ term_fits sc term seen.1 (entry-fits seen.0 seen.1 at index value (stands seen refl) hi hv)

  pairs-fit : (targets : List Target) (values : List Expr) → flat_map (target_faults t s) targets ≡ [] → values_faults (map (wanted_sort t s) targets) (map (part t s) values) ≡ []
      → list_all (pair_fits sc) (pairs_of t fs s targets values) ≡ true
  pairs-fit [] values ht hv = refl
  pairs-fit (x ∷ xs) [] ht hv = refl
  pairs-fit (x ∷ xs) (v ∷ vs) ht hv =
      let p = nil-split (target_faults t s x) (flat_map (target_faults t s) xs) ht in
      let n = nil-split (name_faults t s x.name) (index_faults x.name.at (find_name t s x.name.text) (option_map (part t s) x.index)) p.0 in
      let w = nil-split (value_faults (wanted_sort t s x) (part t s v)) (values_faults (map (wanted_sort t s) xs) (map (part t s) vs)) hv in
      and-true (pair_fits sc (pair_of t fs s x v)) (list_all (pair_fits sc) (pairs_of t fs s xs vs))
      (pair-of (find_name t s x.name.text) x.index x.name.at v (λ seen is. found-stands t s known x.name.text seen is) (name-changes x.name n.0) n.1 w.0)
      (pairs-fit xs vs p.1 w.1)

  assign-fits : (at : ℕ) (targets : List Target) (values : List Expr) → assign_faults t s at targets values ≡ [] → list_all (pair_fits sc) (pairs_of t fs s targets values) ≡ true
  assign-fits at targets values h =
      let a = nil-split (told (differ (length targets) (length values)) at Arity ++ flat_map (target_faults t s) targets ++ repeats (map (λ x. x.name) targets)) (values_faults (map (wanted_sort t s) targets) (map (part t s) values)) h in
      let b = nil-split (told (differ (length targets) (length values)) at Arity ++ flat_map (target_faults t s) targets) (repeats (map (λ x. x.name) targets)) a.0 in
      let c = nil-split (told (differ (length targets) (length values)) at Arity) (flat_map (target_faults t s) targets) b.0 in
      pairs-fit targets values c.1 a.1

  -- ---- calls

  args-fit : (names : List Named) (xs : List Expr) → length names ≡ length xs → values_faults (map Some (sorts_of names)) (map (part t s) xs) ≡ [] → args_fit sc (map named names) (map (expr_of t fs s) xs) ≡ true
  args-fit [] [] same h = refl
  args-fit [] (x ∷ xs) same h = absurd (omega arith)
  args-fit (n ∷ ns) [] same h = absurd (omega arith)
  args-fit (n ∷ ns) (x ∷ xs) same h =
      let p = nil-split (value_faults (Some n.sort) (part t s x)) (values_faults (map Some (sorts_of ns)) (map (part t s) xs)) h in
      let fewer : length ns ≡ length xs = omega arith in
      and-true (expr_fits sc (Some n.sort) (expr_of t fs s x)) (args_fit sc (map named ns) (map (expr_of t fs s) xs)) (value-fits x n.sort p.0) (args-fit ns xs fewer p.1)

  taken-is : (at : ℕ) (found : Option (Var × Sort)) (sort : Sort) (c : Changes t s found) → taken_faults at found sort ≡ [] → c.seen.1 ≡ sort
  taken-is at None sort c h = absurd (cc (c.is_found))
  taken-is at (Some seen) sort c h =
      let same = some-is seen c.seen c.is_found in
      subst (λ (v : Var × Sort). v.1 ≡ sort) same (same_sort-is seen.1 sort (told-not (same_sort seen.1 sort) at Mismatch h))

  outs-fit : (names : List Named) (outs : List Name) → length names ≡ length outs → flat_map (name_faults t s) outs ≡ [] → outs_faults t s (sorts_of names) outs ≡ [] → targets_fit sc (map named names) (map (var_of t s) outs) ≡ true
  outs-fit [] [] same hn ho = refl
  outs-fit [] (x ∷ xs) same hn ho = absurd (omega arith)
  outs-fit (n ∷ ns) [] same hn ho = absurd (omega arith)
  outs-fit (n ∷ ns) (x ∷ xs) same hn ho =
      let p = nil-split (name_faults t s x) (flat_map (name_faults t s) xs) hn in
      let q = nil-split (taken_faults x.at (find_name t s x.text) n.sort) (outs_faults t s (sorts_of ns) xs) ho in
      let c = name-changes x p.0 in
      let fewer : length ns ≡ length xs = omega arith in
      and-true (is_sort_of (sort_of_target sc (var_of t s x)) n.sort) (targets_fit sc (map named ns) (map (var_of t s) xs))
      (is_sort_of-self (sort_of_target sc (var_of t s x)) n.sort (target-of x c ∙ ap Some (taken-is x.at (find_name t s x.text) n.sort c q.0)))
      (outs-fit ns xs fewer p.1 q.1)

  called-fits : (at : ℕ) (text : List ℕ) (found : Option Heading) (outs : List Name) (xs : List Expr) → procedure_named t text ≡ found → flat_map (name_faults t s) outs ≡ []
      → called_faults t s at found outs (map (part t s) xs) ≡ [] → callee_fits sc (slice_get callees (body_number t text)) (map (expr_of t fs s) xs) (map (var_of t s) outs) ≡ true
  called-fits at text None outs xs is hn h = absurd (cc)
  called-fits at text (Some p) outs xs is hn h =
      let arity = told (differ (length p.ins) (length (map (part t s) xs)) || differ (length p.outs) (length outs)) at Arity in
      let a = nil-split (arity ++ told (not p.has_body) at (LeftOut NoBody) ++ outs_faults t s p.outs outs) (values_faults (map Some p.ins) (map (part t s) xs)) h in
      let b = nil-split (arity ++ told (not p.has_body) at (LeftOut NoBody)) (outs_faults t s p.outs outs) a.0 in
      let c = nil-split arity (told (not p.has_body) at (LeftOut NoBody)) b.0 in
      let d = neither (differ (length p.ins) (length (map (part t s) xs))) (differ (length p.outs) (length outs)) (told-false _ at Arity c.0) in
      let q = calls text p is (told-not p.has_body at (LeftOut NoBody) c.1) in
      let ins : length q.0.ins ≡ length xs = sym (length-map q.0.ins (λ (n : Named). n.sort)) ∙ ap length q.2 ∙ differ-not (length p.ins) (length (map (part t s) xs)) d.0 ∙ length-map xs (part t s) in
      let ends : length q.0.outs ≡ length outs = sym (length-map q.0.outs (λ (n : Named). n.sort)) ∙ ap length q.3 ∙ differ-not (length p.outs) (length outs) d.1 in
      ap (λ o. callee_fits sc o (map (expr_of t fs s) xs) (map (var_of t s) outs)) q.1
      ∙ and-true (args_fit sc (map named q.0.ins) (map (expr_of t fs s) xs)) (targets_fit sc (map named q.0.outs) (map (var_of t s) outs))
      (args-fit q.0.ins xs ins (subst (λ ss. values_faults (map Some ss) (map (part t s) xs) ≡ []) (sym q.2) a.1))
      (outs-fit q.0.outs outs ends hn (subst (λ ss. outs_faults t s ss outs ≡ []) (sym q.3) b.1))

  call-fits : (outs : List Name) (procedure : Name) (xs : List Expr) → call_faults t s outs procedure xs ≡ []
      → callee_fits sc (slice_get callees (body_number t procedure.text)) (map (expr_of t fs s) xs) (map (var_of t s) outs) ≡ true
  call-fits outs procedure xs h =
      let a = nil-split (flat_map (name_faults t s) outs ++ repeats outs) (called_faults t s procedure.at (procedure_named t procedure.text) outs (map (part t s) xs)) h in
      let b = nil-split (flat_map (name_faults t s) outs) (repeats outs) a.0 in
      called-fits procedure.at procedure.text (procedure_named t procedure.text) outs xs refl b.0 a.1

  goto-fits : (at : ℕ) (labels : List Name) → told (nat_eq (length labels) 0) at Arity ≡ [] → nat_lt 0 (length labels) ≡ true
  goto-fits at [] h = absurd (cc)
  goto-fits at (l ∷ ls) h = positive (length ls)
    where
      positive : (n : ℕ) → nat_lt 0 (suc n) ≡ true
      positive n = grind (arith, nat_tests)

  -- ---- by induction on the tree

  abbrev StmtFits : Stmt → Type 0
  StmtFits x = stmt_faults t s x ≡ [] → stmt_fits callees sc (stmt_of t fs s x) ≡ true

  abbrev IfFits : If → Type 0
  IfFits x = if_faults t s x ≡ [] → stmt_fits callees sc (if_of t fs s x) ≡ true

  abbrev ElseFits : Else → Type 0
  ElseFits x = else_faults t s x ≡ [] → all_fit (map (stmt_fits callees sc) (else_of t fs s x)) ≡ true

  block-fits : {B : Type 0} (v : B → Stmt) (kv : (c : B) → StmtFits (v c)) (xs : List B) → all_faults (map (stmt_faults t s) (map v xs)) ≡ []
      → all_fit (map (stmt_fits callees sc) (map (stmt_of t fs s) (map v xs))) ≡ true
  block-fits v kv [] h = refl
  block-fits v kv (x ∷ xs) h =
      let p = nil-split (stmt_faults t s (v x)) (all_faults (map (stmt_faults t s) (map v xs))) h in
      and-true (stmt_fits callees sc (stmt_of t fs s (v x))) (all_fit (map (stmt_fits callees sc) (map (stmt_of t fs s) (map v xs)))) (kv x p.0) (block-fits v kv xs p.1)

  else_step : {A B C : Type 0} (e : A → Else) (v : B → Stmt) (kv : (c : B) → StmtFits (v c)) (i : C → If) (ki : (c : C) → IfFits (i c)) (y : Else-F A B C)
      → ElseFits (roll-Else (map-Else A B C Else Stmt If e v i y))
  else_step e v kv i ki Else-F.Absent h = ap (λ xs. all_fit (map (stmt_fits callees sc) xs)) (else_of-roll t fs s Else-F.Absent)
  else_step e v kv i ki (Else-F.Else::If inner) h =
      ap (λ xs. all_fit (map (stmt_fits callees sc) xs)) (else_of-roll t fs s (Else-F.Else::If (i inner)))
      ∙ and-true (stmt_fits callees sc (if_of t fs s (i inner))) true (ki inner (sym (else_faults-roll t s (Else-F.Else::If (i inner))) ∙ h)) refl
  else_step e v kv i ki (Else-F.Block body) h =
      ap (λ xs. all_fit (map (stmt_fits callees sc) xs)) (else_of-roll t fs s (Else-F.Block (map v body)))
      ∙ block-fits v kv body (sym (else_faults-roll t s (Else-F.Block (map v body))) ∙ h)

  if_step : {A B C : Type 0} (e : A → Else) (ke : (c : A) → ElseFits (e c)) (v : B → Stmt) (kv : (c : B) → StmtFits (v c)) (i : C → If) (y : If-F A B C)
      → IfFits (roll-If (map-If A B C Else Stmt If e v i y))
  if_step e ke v kv i y h =
      let k = sym (if_faults-roll t s (map-If _ _ _ Else Stmt If e v i y)) ∙ h in
      let a = nil-split (guard_faults t s y.guard ++ all_faults (map (stmt_faults t s) (map v y.then))) (else_faults t s (e y.other)) k in
      let b = nil-split (guard_faults t s y.guard) (all_faults (map (stmt_faults t s) (map v y.then))) a.0 in
      ap (stmt_fits callees sc) (if_of-roll t fs s (map-If _ _ _ Else Stmt If e v i y))
      ∙ fits-if callees sc (guard_of t fs s y.guard) (map (stmt_of t fs s) (map v y.then)) (else_of t fs s (e y.other))
      ∙ and-true (guard_fits sc (guard_of t fs s y.guard)) _ (guard-fits y.guard b.0)
      (and-true (all_fit (map (stmt_fits callees sc) (map (stmt_of t fs s) (map v y.then)))) (all_fit (map (stmt_fits callees sc) (else_of t fs s (e y.other)))) (block-fits v kv y.then b.1) (ke y.other a.1))

  stmt_step : {A B C : Type 0} (e : A → Else) (v : B → Stmt) (kv : (c : B) → StmtFits (v c)) (i : C → If) (ki : (c : C) → IfFits (i c)) (y : Stmt-F A B C)
      → StmtFits (roll-Stmt (map-Stmt A B C Else Stmt If e v i y))
  stmt_step e v kv i ki (Stmt-F.Label name) h = ap (stmt_fits callees sc) (typed-roll t fs s (Stmt-F.Label name)) ∙ fits-label callees sc name
  stmt_step e v kv i ki (Stmt-F.Assert at attributes condition) h =
      ap (stmt_fits callees sc) (typed-roll t fs s (Stmt-F.Assert at attributes condition)) ∙ fits-assert callees sc (expr_of t fs s condition)
      ∙ condition-fits condition (sym (faults-roll t s (Stmt-F.Assert at attributes condition)) ∙ h)
  stmt_step e v kv i ki (Stmt-F.Assume at attributes condition) h =
      ap (stmt_fits callees sc) (typed-roll t fs s (Stmt-F.Assume at attributes condition)) ∙ fits-assume callees sc (expr_of t fs s condition)
      ∙ condition-fits condition (sym (faults-roll t s (Stmt-F.Assume at attributes condition)) ∙ h)
  stmt_step e v kv i ki (Stmt-F.Havoc at attributes names) h =
      ap (stmt_fits callees sc) (typed-roll t fs s (Stmt-F.Havoc at attributes names)) ∙ fits-havoc callees sc (map (var_of t s) names)
      ∙ havoc-fits names (sym (faults-roll t s (Stmt-F.Havoc at attributes names)) ∙ h)
  stmt_step e v kv i ki (Stmt-F.Goto at attributes labels) h =
      ap (stmt_fits callees sc) (typed-roll t fs s (Stmt-F.Goto at attributes labels)) ∙ fits-goto callees sc labels
      ∙ goto-fits at labels (sym (faults-roll t s (Stmt-F.Goto at attributes labels)) ∙ h)
  stmt_step e v kv i ki (Stmt-F.Return at attributes) h = ap (stmt_fits callees sc) (typed-roll t fs s (Stmt-F.Return at attributes)) ∙ fits-return callees sc
  stmt_step e v kv i ki (Stmt-F.Break at attributes label) h = ap (stmt_fits callees sc) (typed-roll t fs s (Stmt-F.Break at attributes label)) ∙ fits-break callees sc at label
  stmt_step e v kv i ki (Stmt-F.Assign at targets values) h =
      ap (stmt_fits callees sc) (typed-roll t fs s (Stmt-F.Assign at targets values)) ∙ fits-assign callees sc (pairs_of t fs s targets values)
      ∙ assign-fits at targets values (sym (faults-roll t s (Stmt-F.Assign at targets values)) ∙ h)
  stmt_step e v kv i ki (Stmt-F.Call at attributes outs procedure arguments) h =
      ap (stmt_fits callees sc) (typed-roll t fs s (Stmt-F.Call at attributes outs procedure arguments))
      ∙ fits-call callees sc (body_number t procedure.text) (map (expr_of t fs s) arguments) (map (var_of t s) outs)
      ∙ call-fits outs procedure arguments (sym (faults-roll t s (Stmt-F.Call at attributes outs procedure arguments)) ∙ h)
  stmt_step e v kv i ki (Stmt-F.Stmt::If inner) h =
      ap (stmt_fits callees sc) (typed-roll t fs s (Stmt-F.Stmt::If (i inner))) ∙ ki inner (sym (faults-roll t s (Stmt-F.Stmt::If (i inner))) ∙ h)
  stmt_step e v kv i ki (Stmt-F.While at attributes guard invariants body) h =
      let k = sym (faults-roll t s (Stmt-F.While at attributes guard invariants (map v body))) ∙ h in
      let a = nil-split (guard_faults t s guard ++ flat_map (λ (j : Invariant). condition_faults t s j.condition) invariants) (all_faults (map (stmt_faults t s) (map v body))) k in
      let b = nil-split (guard_faults t s guard) (flat_map (λ (j : Invariant). condition_faults t s j.condition) invariants) a.0 in
      ap (stmt_fits callees sc) (typed-roll t fs s (Stmt-F.While at attributes guard invariants (map v body)))
      ∙ fits-while callees sc (guard_of t fs s guard) (map (invariant_of t fs s) invariants) (map (stmt_of t fs s) (map v body))
      ∙ and-true (guard_fits sc (guard_of t fs s guard)) _ (guard-fits guard b.0)
      (and-true (list_all (invariant_fits sc) (map (invariant_of t fs s) invariants)) (all_fit (map (stmt_fits callees sc) (map (stmt_of t fs s) (map v body)))) (invariants-fit invariants b.1) (block-fits v kv body a.1))

  pub stmt-fits : (x : Stmt) → StmtFits x
  stmt-fits = ind-Stmt ElseFits StmtFits IfFits
      (λ x y same. subst (λ (w : Else-F Else Stmt If). ElseFits (roll-Else w)) same (else_step (λ c. c.0) (λ c. c.0) (λ c. c.1) (λ c. c.0) (λ c. c.1) y))
      (λ x y same. subst (λ (w : Stmt-F Else Stmt If). StmtFits (roll-Stmt w)) same (stmt_step (λ c. c.0) (λ c. c.0) (λ c. c.1) (λ c. c.0) (λ c. c.1) y))
      (λ x y same. subst (λ (w : If-F Else Stmt If). IfFits (roll-If w)) same (if_step (λ c. c.0) (λ c. c.1) (λ c. c.0) (λ c. c.1) (λ c. c.0) y))
