-- The expressions of a program without faults.
use Rattle.std.proofs.Common.{◌≡◌, ℕ, zero, suc, ◌+◌, ◌-◌, ◌<◌, Bool, true, List, [], ◌∷◌, ◌++◌, length, map, get_or, take, Option, Some, None, refl, sym, ◌∙◌, ap, arith, add-one}
use Rattle.std.specs.List.{list_all, slice_get}
use Rattle.bpl_ast.specs.declared.decl.Function.{Function}
use Rattle.bpl_ast.specs.declared.expr.Expr.{Expr}
use Rattle.bpl_ast.specs.declared.stmt.Target.{Target}
use Rattle.hy_val.specs.Exprs.{is_expr}
use Rattle.hy_val.specs.declared.expr.ExprNode.{ExprNode}
use Rattle.hy_val.specs.declared.expr.Var.{Var}
use Rattle.hy_val.specs.declared.sort.Sort.{Sort}
use Rattle.bpl_type.specs.declared.program.Program.{Program}
use Rattle.type_pass.specs.declared.tables.Scope.{Scope}
use Rattle.type_pass.specs.declared.tables.Tables.{Tables}
use Rattle.type_pass.specs.Declarations.{functions}
use Rattle.bpl_type.specs.Making.{with_term, term_with}
use Rattle.type_pass.specs.Replaced.{read_if, term_of}
use Rattle.type_pass.specs.Scopes.{tables_of, find_name}
use Rattle.type_pass.specs.Terms.{Term, store, nodes_of}
use Rattle.bpl_type.specs.TypedOf.{assigned, pair_of, pairs_of}
use Rattle.bpl_type.specs.WellMade.{expr_in}
use Rattle.bpl_type.proofs.BodyTerms.{term-is}
use Rattle.bpl_type.proofs.Elements.{both}
use Rattle.bpl_type.proofs.ProgramFits.{NoFaults, sound}
use Rattle.bpl_type.proofs.WritingLaws.{made-is}

pub term-in : (p : Program) (s : Scope) (x : Expr) → term_with p.known.now p.bodies.now s x ≡ term_of (tables_of p.ast.now) (functions p.ast.now) s x
term-in p s x =
    let none : NoFaults p.ast.now = record { heads = p.heads; commands = p.commands; circles = p.circles } in
    ap (λ k. term_with k p.bodies.now s x) p.names ∙ ap (λ b. term_with (tables_of p.ast.now) b s x) p.has_bodies ∙ term-is p.ast.now (sound p.ast.now none) s x

-- what is written behind nothing
pub written-in : (p : Program) (s : Scope) (x : Expr) (before out : List ExprNode) → before ≡ [] → out ≡ with_term before (term_with p.known.now p.bodies.now s x) → out ≡ expr_in p.ast.now s x
written-in p s x before out none h = made-is before out (term_of (tables_of p.ast.now) (functions p.ast.now) s x) none (h ∙ ap (with_term before) (term-in p s x))

-- a map with a value at an index
pub entry-in : (p : Program) (s : Scope) (text seen : List ℕ) (index value : Expr) (found : Option (Var × Sort)) (n0 n1 n2 n3 n4 : List ExprNode) (table key : ℕ)
    → n0 ≡ [] → seen ≡ text → found ≡ find_name p.known.now s seen → n1 ≡ with_term n0 (read_if found) → table ≡ length n1 - 1
    → n2 ≡ with_term n1 (term_with p.known.now p.bodies.now s index) → key ≡ length n2 - 1 → n3 ≡ with_term n2 (term_with p.known.now p.bodies.now s value)
    → ((o : List ExprNode) (c a b : Term) → n3 ≡ with_term (with_term (with_term o c) a) b → table ≡ length (with_term o c) - 1 → key ≡ length (with_term (with_term o c) a) - 1 → n4 ≡ with_term o (store c a b))
    → n4 ≡ nodes_of (assigned (find_name (tables_of p.ast.now) s text) (Some (term_of (tables_of p.ast.now) (functions p.ast.now) s index)) (term_of (tables_of p.ast.now) (functions p.ast.now) s value))
entry-in p s text seen index value found n0 n1 n2 n3 n4 table key none same is h1 t1 h2 t2 h3 stored =
    let i = term_with p.known.now p.bodies.now s index in
    let v = term_with p.known.now p.bodies.now s value in
    let m = read_if found in
    let e2 : n2 ≡ with_term (with_term n0 m) i = h2 ∙ ap (λ n. with_term n i) h1 in
    let e3 : n3 ≡ with_term (with_term (with_term n0 m) i) v = h3 ∙ ap (λ n. with_term n v) e2 in
    let e4 : n4 ≡ with_term n0 (store m i v) = stored n0 m i v e3 (t1 ∙ ap (λ n. length n - 1) h1) (t2 ∙ ap (λ n. length n - 1) e2) in
    let name : found ≡ find_name (tables_of p.ast.now) s text = is ∙ ap (λ k. find_name k s seen) p.names ∙ ap (find_name (tables_of p.ast.now) s) same in
    made-is n0 n4 (store m i v) none e4
    ∙ ap (λ o. nodes_of (store (read_if o) i v)) name
    ∙ ap (λ t. nodes_of (store (read_if (find_name (tables_of p.ast.now) s text)) t v)) (term-in p s index)
    ∙ ap (λ t. nodes_of (store (read_if (find_name (tables_of p.ast.now) s text)) (term_of (tables_of p.ast.now) (functions p.ast.now) s index) t)) (term-in p s value)

-- one of several
pub one-of : {A B : Type 0} (test : B → Bool) (f : A → B) (xs : List A) (i : ℕ) (x : A) → i < length xs → x ≡ get_or xs i x → list_all test (map f xs) ≡ true → test (f x) ≡ true
one-of test f [] i x less at h = absurd (omega arith)
one-of test f (y ∷ ys) zero x less at h = ap (λ v. test (f v)) at ∙ (both (test (f y)) (list_all test (map f ys)) h).0
one-of test f (y ∷ ys) (suc i) x less at h = one-of test f ys i x (omega arith) at (both (test (f y)) (list_all test (map f ys)) h).1

-- ---- pairs

module _ (t : Tables) (fs : List Function) (s : Scope) where
  pairs-suc : (ts : List Target) (vs : List Expr) (i : ℕ) (x : Target) (v : Expr) → i < length ts → x ≡ get_or ts i x → slice_get vs i ≡ Some v
      → pairs_of t fs s (take (suc i) ts) vs ≡ pairs_of t fs s (take i ts) vs ++ pair_of t fs s x v ∷ []
  pairs-suc [] vs i x v less at h = absurd (omega arith)
  pairs-suc (y ∷ ys) [] i x v less at h = absurd (cc)
  pairs-suc (y ∷ ys) (w ∷ ws) zero x v less at h = ap (λ a. pair_of t fs s a w ∷ []) (sym at) ∙ ap (λ (a : Expr). pair_of t fs s x a ∷ []) (cc (h))
  pairs-suc (y ∷ ys) (w ∷ ws) (suc i) x v less at h = ap (λ ps. pair_of t fs s y w ∷ ps) (pairs-suc ys ws i x v (omega arith) at h)

  pub pairs-further : (ts : List Target) (vs : List Expr) (i : ℕ) (x : Target) (v : Expr) → i < length ts → x ≡ get_or ts i x → slice_get vs i ≡ Some v
      → pairs_of t fs s (take (i + 1) ts) vs ≡ pairs_of t fs s (take i ts) vs ++ pair_of t fs s x v ∷ []
  pairs-further ts vs i x v less at h = ap (λ n. pairs_of t fs s (take n ts) vs) (add-one i) ∙ pairs-suc ts vs i x v less at h

  -- where there are no more values
  pub pairs-end : (ts : List Target) (vs : List Expr) (i : ℕ) → slice_get vs i ≡ None → pairs_of t fs s (take i ts) vs ≡ pairs_of t fs s ts vs
  pairs-end [] vs zero h = refl
  pairs-end [] vs (suc i) h = refl
  pairs-end (y ∷ ys) [] zero h = refl
  pairs-end (y ∷ ys) [] (suc i) h = refl
  pairs-end (y ∷ ys) (w ∷ ws) zero h = absurd (cc)
  pairs-end (y ∷ ys) (w ∷ ws) (suc i) h = ap (λ ps. pair_of t fs s y w ∷ ps) (pairs-end ys ws i h)

  -- one of the pairs
  pub pair-is : (ts : List Target) (vs : List Expr) (i : ℕ) (x : Target) (v : Expr) → i < length ts → x ≡ get_or ts i x → slice_get vs i ≡ Some v → list_all (λ p. is_expr p.1) (pairs_of t fs s ts vs) ≡ true → is_expr (pair_of t fs s x v).1 ≡ true
  pair-is [] vs i x v less at h all = absurd (omega arith)
  pair-is (y ∷ ys) [] i x v less at h all = absurd (cc)
  pair-is (y ∷ ys) (w ∷ ws) zero x v less at h all =
      let same : w ≡ v = cc in
      ap (λ a. is_expr (pair_of t fs s a v).1) at ∙ ap (λ a. is_expr (pair_of t fs s y a).1) (sym same) ∙ (both (is_expr (pair_of t fs s y w).1) (list_all (λ p. is_expr p.1) (pairs_of t fs s ys ws)) all).0
  pair-is (y ∷ ys) (w ∷ ws) (suc i) x v less at h all = pair-is ys ws i x v (omega arith) at h (both (is_expr (pair_of t fs s y w).1) (list_all (λ p. is_expr p.1) (pairs_of t fs s ys ws)) all).1
