-- Where no function lies on a circle of uses, a use is the meaning of the function with the term of its body.
use Rattle.std.proofs.Common.{◌≡◌, ℕ, zero, suc, ◌+◌, ◌<◌, ◌≤◌, true, List, length, Option, Some, None, refl, sym, ◌∙◌, ap, subst, arith}
use Rattle.std.specs.List.{AllByRecursion, find, filter_map, list_any, slice_get}
use Rattle.std.specs.Option.{option_map, option_and_then}
use Rattle.std.specs.Prelude.{nat_eq}
use Rattle.std.specs.Str.{bytes_eq}
use Rattle.std.proofs.lemmas.Option.{slice_get_within}
use Rattle.bpl_ast.specs.declared.decl.Ast.{Ast}
use Rattle.bpl_ast.specs.declared.decl.Function.{Function}
use Rattle.bpl_ast.specs.declared.expr.Expr.{Expr}
use Rattle.type_pass.specs.declared.tables.Scope.{Scope}
use Rattle.type_pass.specs.declared.tables.Tables.{Tables}
use Rattle.type_pass.specs.Graphs.{leads}
use Rattle.type_pass.specs.Passes.{uses_if, function_number}
use Rattle.type_pass.specs.Replaced.{Use, term_by, term_of, body_named, body_term, meant, used, use_within}
use Rattle.type_pass.specs.Scopes.{function_scope, function_named}
use Rattle.type_pass.specs.Terms.{Term, missing}
use Rattle.bpl_type.proofs.Circles.{has_edge, leads-edge, leads-further, unseen, unseen-most, unseen-falls, unseen-some}
use Rattle.bpl_type.proofs.Elements.{found, find-map}
use Rattle.bpl_type.proofs.FunctionsFit.{FunctionsSound, t, fs, sig, named, graph, names-hold, edges-of, no-way}
use Rattle.bpl_type.proofs.TermAgreement.{Agree, same-term}

-- terms of a body that agree on what it uses
body-same : (u v : Use) (ts : Tables) (s : Scope) (body : Option Expr) → AllByRecursion (Agree u v) (uses_if body) → body_term (term_by u ts s) body ≡ body_term (term_by v ts s) body
body-same u v ts s None h = refl
body-same u v ts s (Some body) h = same-term u v ts s body h

module _ (ast : Ast) (sound : FunctionsSound ast) where
  abbrev tables : Tables
  tables = t ast sound

  abbrev functions : List Function
  functions = fs ast sound

  abbrev within : ℕ → Use
  within n = use_within n tables functions

  -- at most n functions lead nowhere near the function of the name, where ways of m uses count
  abbrev Near : ℕ → ℕ → List ℕ → Type 0
  Near n m text = (i : ℕ) → function_number functions text ≡ Some i → unseen (λ v. leads m (graph ast sound) v i) (length functions) ≤ n

  named-none : (text : List ℕ) → find (named ast sound text) functions ≡ None → function_named tables text ≡ None
  named-none text h = find-map (λ g. bytes_eq text g.name) (sig ast sound) functions ∙ ap (option_map (sig ast sound)) h

  named-some : (text : List ℕ) (g : Function) → find (named ast sound text) functions ≡ Some g → function_named tables text ≡ Some (sig ast sound g)
  named-some text g h = find-map (λ k. bytes_eq text k.name) (sig ast sound) functions ∙ ap (option_map (sig ast sound)) h

  -- a use of what is no function
  none-missing : (n : ℕ) (text : List ℕ) (arguments : List Term) → function_named tables text ≡ None → within n text arguments ≡ missing
  none-missing zero text xs h = refl
  none-missing (suc n) text xs h = ap (λ o. used o xs (λ f. body_term (term_by (within n) tables (function_scope f)) (body_named functions text))) h

  -- what the body of a function uses is nearer than the function
  nearer : (n m : ℕ) → m + suc n ≡ length functions → (text : List ℕ) (i : ℕ) (g : Function) → slice_get functions i ≡ Some g
      → unseen (λ v. leads m (graph ast sound) v i) (length functions) ≤ suc n
      → (x : List ℕ) → ((j : ℕ) → function_number functions x ≡ Some j → list_any (λ c. nat_eq c j) (filter_map (function_number functions) (uses_if g.body)) ≡ true) → Near n (suc m) x
  nearer n m all text i g at few x edge j number =
      let below : i < length functions = slice_get_within functions i g at in
      let step : has_edge (graph ast sound) i j ≡ true = subst (λ es. list_any (λ c. nat_eq c j) es ≡ true) (sym (edges-of ast sound i g at)) (edge j number) in
      let falls : unseen (λ v. leads (suc m) (graph ast sound) v j) (length functions) + 1 ≤ unseen (λ v. leads m (graph ast sound) v i) (length functions) =
      unseen-falls (λ v. leads m (graph ast sound) v i) (λ v. leads (suc m) (graph ast sound) v j) (λ v h. leads-further m (graph ast sound) v i j h step) (length functions) i below
      (no-way ast sound m (suc n) i all below) (leads-edge m (graph ast sound) i j step) in
      omega arith

  -- a use of a function, whose body has the same term with two meanings of what it uses
  used-same : (u v : Use) (text : List ℕ) (arguments : List Term) (g : Function) → find (named ast sound text) functions ≡ Some g → AllByRecursion (Agree u v) (uses_if g.body)
      → used (function_named tables text) arguments (λ f. body_term (term_by u tables (function_scope f)) (body_named functions text))
      ≡ used (function_named tables text) arguments (λ f. body_term (term_by v tables (function_scope f)) (body_named functions text))
  used-same u v text xs g first agree =
      let body : body_named functions text ≡ g.body = ap (option_and_then (λ (k : Function). k.body)) first in
      let s = function_scope (sig ast sound g) in
      ap (λ o. used o xs (λ f. body_term (term_by u tables (function_scope f)) (body_named functions text))) (named-some text g first)
      ∙ ap (λ o. meant (sig ast sound g).meaning xs (body_term (term_by u tables s) o)) body
      ∙ ap (meant (sig ast sound g).meaning xs) (body-same u v tables s g.body agree)
      ∙ ap (λ o. meant (sig ast sound g).meaning xs (body_term (term_by v tables s) o)) (sym body)
      ∙ ap (λ o. used o xs (λ f. body_term (term_by v tables (function_scope f)) (body_named functions text))) (sym (named-some text g first))

  -- more levels change nothing
  abbrev Below : ℕ → ℕ → Type 0
  Below zero m = Unit {0}
  Below (suc n) m = (k : ℕ) → n ≤ k → (text : List ℕ) → Near n (suc m) text → Agree (within n) (within k) text

  stable-of : (n m k : ℕ) → m + n ≡ length functions → n ≤ k → Below n m → (text : List ℕ) (g : Function) → find (named ast sound text) functions ≡ Some g → Near n m text → Agree (within n) (within k) text
  stable-of zero m k all more lower text g first near xs =
      let r = found (named ast sound text) functions g first in
      let below : r.place < length functions = slice_get_within functions r.place g r.at in
      let some : 1 ≤ unseen (λ v. leads m (graph ast sound) v r.place) (length functions) =
      unseen-some (λ v. leads m (graph ast sound) v r.place) (length functions) r.place below (no-way ast sound m zero r.place all below) in
      let few = near r.place r.is_place in
      absurd (omega arith)
  stable-of (suc n) m zero all more lower text g first near xs = absurd (omega arith)
  stable-of (suc n) m (suc k) all more lower text g first near xs =
      let r = found (named ast sound text) functions g first in
      let less : n ≤ k = omega arith in
      used-same (within n) (within k) text xs g first
      (names-hold ast sound (Agree (within n) (within k)) (uses_if g.body) (λ x edge. lower k less x (nearer n m all text r.place g r.at (near r.place r.is_place) x edge)))

  stable-by : (n m k : ℕ) → m + n ≡ length functions → n ≤ k → Below n m → (text : List ℕ) (o : Option Function) → find (named ast sound text) functions ≡ o → Near n m text → Agree (within n) (within k) text
  stable-by n m k all more lower text None is near xs = none-missing n text xs (named-none text is) ∙ sym (none-missing k text xs (named-none text is))
  stable-by n m k all more lower text (Some g) is near xs = stable-of n m k all more lower text g is near xs

  stable : (n m k : ℕ) → m + n ≡ length functions → n ≤ k → (text : List ℕ) → Near n m text → Agree (within n) (within k) text
  stable zero m k all more text near = stable-by zero m k all more tt text (find (named ast sound text) functions) refl near
  stable (suc n) m k all more text near =
      let next : suc m + n ≡ length functions = omega arith in
      stable-by (suc n) m k all more (λ j less x close. stable n (suc m) j next less x close) text (find (named ast sound text) functions) refl near

  -- a use with the terms of bodies at some level
  abbrev used_at : ℕ → Use
  used_at n text xs = used (function_named tables text) xs (λ f. body_term (term_by (within n) tables (function_scope f)) (body_named functions text))

  use-at : (n : ℕ) → n ≡ length functions → (text : List ℕ) (o : Option Function) → find (named ast sound text) functions ≡ o → (arguments : List Term) → within n text arguments ≡ used_at n text arguments
  use-at n all text None is xs =
      none-missing n text xs (named-none text is) ∙ sym (ap (λ o. used o xs (λ f. body_term (term_by (within n) tables (function_scope f)) (body_named functions text))) (named-none text is))
  use-at zero all text (Some g) is xs =
      let r = found (named ast sound text) functions g is in
      let below : r.place < length functions = slice_get_within functions r.place g r.at in
      absurd (omega arith)
  use-at (suc n) all text (Some g) is xs =
      let r = found (named ast sound text) functions g is in
      let whole : 0 + suc n ≡ length functions = omega arith in
      let next : 1 + n ≡ length functions = omega arith in
      let less : n ≤ suc n = omega arith in
      let few : unseen (λ v. leads 0 (graph ast sound) v r.place) (length functions) ≤ suc n = subst (λ k. unseen (λ v. leads 0 (graph ast sound) v r.place) (length functions) ≤ k) (sym all) (unseen-most (λ v. leads 0 (graph ast sound) v r.place) (length functions)) in
      used-same (within n) (within (suc n)) text xs g is
      (names-hold ast sound (Agree (within n) (within (suc n))) (uses_if g.body) (λ x edge. stable n 1 (suc n) next less x (nearer n 0 whole text r.place g r.at few x edge)))

  pub use-is : (text : List ℕ) (arguments : List Term)
      → use_within (length functions) tables functions text arguments ≡ used (function_named tables text) arguments (λ f. body_term (term_of tables functions (function_scope f)) (body_named functions text))
  use-is text xs = use-at (length functions) refl text (find (named ast sound text) functions) refl xs
