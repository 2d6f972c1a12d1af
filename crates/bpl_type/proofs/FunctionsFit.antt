-- Where no function has a fault and none lies on a circle of uses, each use of a function has the sort of its result.
use Rattle.std.proofs.Common.{◌≡◌, ℕ, zero, suc, ◌+◌, ◌<◌, ◌≤◌, Bool, true, false, not, ◌&&◌, ◌||◌, List, [], ◌∷◌, length, Option, Some, None, Ok, Err, refl, sym, ◌∙◌, ap, subst, arith, unwrap_or}
use Rattle.std.specs.List.{AllByRecursion, cons_option, filter_map, find, list_any, slice_get}
use Rattle.std.specs.Option.{option_map, option_and_then}
use Rattle.std.specs.Prelude.{nat_eq, if◌then◌else◌}
use Rattle.std.specs.Str.{bytes_eq}
use Rattle.std.proofs.lemmas.Bool.Decides.{nat_tests}
use Rattle.std.proofs.lemmas.List.{length-map}
use Rattle.std.proofs.lemmas.Option.{slice_get-map, slice_get_within}
use Rattle.bpl_ast.specs.declared.decl.Ast.{Ast}
use Rattle.bpl_ast.specs.declared.decl.Function.{Function}
use Rattle.bpl_ast.specs.declared.expr.Expr.{Expr}
use Rattle.hy_val.specs.NodeSorts.{is_sort, same_sort, as_scalar, unary_sort, binary_sort}
use Rattle.hy_val.specs.declared.expr.Var.{Var}
use Rattle.hy_val.specs.declared.expr.Var.TheVariants.{Const, Global, Local}
use Rattle.hy_val.specs.declared.sort.Sort.{Sort}
use Rattle.hy_val.specs.Scope.{is_sort_of, sort_of_variable}
use Rattle.hy_val.specs.Scope as src
use Rattle.type_pass.specs.declared.fault.TypeKind.{TypeKind}
use Rattle.type_pass.specs.declared.fault.TypeKind.TheVariants.{Mismatch}
use Rattle.type_pass.specs.declared.tables.Builtin.{Builtin}
use Rattle.type_pass.specs.declared.tables.Builtin.TheVariants.{Unary, Binary}
use Rattle.type_pass.specs.declared.tables.Signature.{Signature}
use Rattle.type_pass.specs.declared.tables.Tables.{Tables}
use Rattle.type_pass.specs.Commands.{checked_faults, value_faults}
use Rattle.type_pass.specs.Declarations.{synonyms, functions}
use Rattle.type_pass.specs.ExprSorts.{Part, Checked, is_nothing, part}
use Rattle.type_pass.specs.Faults.{told}
use Rattle.type_pass.specs.Graphs.{Graph, edges, leads, is_on_circle}
use Rattle.type_pass.specs.Meanings.{builtin_strings, builtin_named, operator_if, meaning_of_strings, meaning_without, meaning_of, is_bits, is_result_kind, is_same, width_unless, misfit}
use Rattle.type_pass.specs.Passes.{kind_fault, operator_faults, function_faults, uses_if, function_number, use_graph}
use Rattle.type_pass.specs.Replaced.{term_by, operated, body_named, body_term, meant, used, use_within}
use Rattle.type_pass.specs.Scopes.{tables_of, signature_of, function_scope, function_named}
use Rattle.type_pass.specs.Terms.{Term, read, missing, local_term}
use Rattle.bpl_type.specs.WellTyped.{sorts_of}
use Rattle.bpl_type.proofs.Circles.{has_edge, leads-edge, leads-within, leads-further, unseen, unseen-most, unseen-falls, unseen-some}
use Rattle.bpl_type.proofs.Elements.{all_at, both, some-is, found, find-map, found-map}
use Rattle.bpl_type.proofs.Fitted.{Known, fitted}
use Rattle.bpl_type.proofs.Induction.{preserved}
use Rattle.bpl_type.proofs.Places.{place, SortsKnown, are-known}
use Rattle.bpl_type.proofs.Preserved.{HaveSorts, UseFits, UsesFit, same_sort-is}
use Rattle.bpl_type.proofs.TermFits.{knows_in, replaced}

-- ---- what no fault says

pub told-not : (b : Bool) (at : ℕ) (kind : TypeKind) → told (not b) at kind ≡ [] → b ≡ true
told-not true at kind h = refl
told-not false at kind h = absurd (cc)

pub told-false : (b : Bool) (at : ℕ) (kind : TypeKind) → told b at kind ≡ [] → b ≡ false
told-false true at kind h = absurd (cc)
told-false false at kind h = refl

checked-ok : (w : Sort) (at : ℕ) (c : Checked) → checked_faults (Some w) at c ≡ [] → c ≡ Ok w
checked-ok w at (Ok s) h = ap Ok (same_sort-is s w (told-not (same_sort s w) at Mismatch h))
checked-ok w at (Err f) h = absurd (cc)

-- a value in a place that asks for its sort
pub value-ok : (w : Sort) (x : Part) → value_faults (Some w) x ≡ [] → x.sort ≡ Ok w
value-ok w x h = checked-ok w x.at x.sort h

kind-none : (at : ℕ) (kind : Option TypeKind) → kind_fault at kind ≡ [] → kind ≡ None
kind-none at None h = refl
kind-none at (Some kind) h = absurd (cc)

-- ---- operators

is_same-is : (o : Option Sort) (s : Sort) → is_same o s ≡ true → o ≡ Some s
is_same-is None s h = absurd (cc)
is_same-is (Some x) s h = ap Some (same_sort-is x s h)

pub is_sort_of-is : (o : Option Sort) (s : Sort) → is_sort_of o s ≡ true → o ≡ Some s
is_sort_of-is None s h = absurd (cc)
is_sort_of-is (Some x) s h = ap Some (same_sort-is x s h)

misfit-if : (b c : Bool) → (if b then width_unless c else Some Mismatch) ≡ None → c ≡ true
misfit-if true true h = refl
misfit-if true false h = absurd (cc)
misfit-if false c h = absurd (cc)

operated-fits : (k : Known) (b : Builtin) (ss : List Sort) (output : Sort) (arguments : List Term) → misfit b ss output ≡ None → HaveSorts k arguments ss → fitted k (operated b arguments) ≡ Some output
operated-fits k (Unary op) [] output xs h have = absurd (cc)
operated-fits k (Unary op) (s ∷ []) output [] h have = absurd have
operated-fits k (Unary op) (s ∷ []) output (x ∷ xs) h have =
    ap (λ o. unary_sort op (as_scalar o)) have.0 ∙ is_same-is (unary_sort op (as_scalar (Some s))) output (misfit-if (is_bits s && is_bits output) (is_same (unary_sort op (as_scalar (Some s))) output) h)
operated-fits k (Unary op) (s ∷ t ∷ ss) output xs h have = absurd (cc)
operated-fits k (Binary op) [] output xs h have = absurd (cc)
operated-fits k (Binary op) (s ∷ []) output xs h have = absurd (cc)
operated-fits k (Binary op) (s ∷ t ∷ []) output [] h have = absurd have
operated-fits k (Binary op) (s ∷ t ∷ []) output (x ∷ []) h have = absurd have.1
operated-fits k (Binary op) (s ∷ t ∷ []) output (x ∷ y ∷ xs) h have =
    ap (λ o. binary_sort op (as_scalar o) (as_scalar (fitted k y))) have.0 ∙ ap (λ o. binary_sort op (as_scalar (Some s)) (as_scalar o)) have.1.0
    ∙ is_same-is (binary_sort op (as_scalar (Some s)) (as_scalar (Some t))) output
    (misfit-if (is_bits s && is_bits t && is_result_kind op output) (is_same (binary_sort op (as_scalar (Some s)) (as_scalar (Some t))) output) h)
operated-fits k (Binary op) (s ∷ t ∷ u ∷ ss) output xs h have = absurd (cc)

-- ---- arguments in place of locals

argument-at : (k : Known) (ss : List Sort) (xs : List Term) (n : ℕ) (s : Sort) → HaveSorts k xs ss → slice_get ss n ≡ Some s → (x : Term) × (slice_get xs n ≡ Some x) × (fitted k x ≡ Some s)
argument-at k [] xs n s have h = absurd (cc)
argument-at k (t ∷ ts) [] n s have h = absurd have
argument-at k (t ∷ ts) (x ∷ xs) zero s have h = (x, refl, have.0 ∙ h)
argument-at k (t ∷ ts) (x ∷ xs) (suc n) s have h = argument-at k ts xs n s have.1 h

module _ (t : Tables) (gs ls : List Sort) where
  -- a place with the constants of the program
  abbrev pub with_consts : src.Scope
  with_consts = record { consts = sorts_of t.consts; globals = gs; locals = ls }

  local-fits : (f : Signature) (arguments : List Term) → HaveSorts (knows_in with_consts) arguments (sorts_of f.arguments)
      → (x : Var) (s : Sort) → knows_in (place t (function_scope f)) x s ≡ true → fitted (knows_in with_consts) (local_term arguments x s) ≡ Some s
  local-fits f arguments have (Const n) s h = ap (λ (b : Bool). if b then Some s else None) h
  local-fits f arguments have (Global n) s h = absurd (cc (both (is_sort s) false h).1)
  local-fits f arguments have (Local n) s h =
      let at = is_sort_of-is (slice_get (sorts_of f.arguments) n) s (both (is_sort s) (is_sort_of (slice_get (sorts_of f.arguments) n) s) h).1 in
      let r = argument-at (knows_in with_consts) (sorts_of f.arguments) arguments n s have at in
      ap (λ o. fitted (knows_in with_consts) (unwrap_or o (read (Local n) s))) r.1 ∙ r.2

-- ---- functions

-- no function of the program has a fault, and none lies on a circle of uses
pub record FunctionsSound (ast : Ast) : Type 0 where
  pub bodies : AllByRecursion (λ f. function_faults (tables_of ast) (signature_of (synonyms ast) f) f.body ≡ []) (functions ast)
  pub operators : AllByRecursion (λ f. operator_faults f.name.at (signature_of (synonyms ast) f) (meaning_of f) ≡ []) (functions ast)
  pub circles : (i : ℕ) → i < length (functions ast) → is_on_circle (use_graph (functions ast)) i ≡ false
  pub scopes : (f : Function) → SortsKnown (tables_of ast) (function_scope (signature_of (synonyms ast) f))

or-right : (x y : Bool) → y ≡ true → (x || y) ≡ true
or-right true y p = refl
or-right false y p = p

not-so : (b : Bool) → (b ≡ true → ⊥) → b ≡ false
not-so true h = absurd (h refl)
not-so false h = refl

operator-fits : (k : Known) (f : Signature) (at : ℕ) (o : Option Builtin) (arguments : List Term) (body : Term) → operator_faults at f (operator_if o) ≡ [] → is_nothing (operator_if o) ≡ false
    → HaveSorts k arguments (sorts_of f.arguments) → fitted k (meant (operator_if o) arguments body) ≡ Some f.output
operator-fits k f at None xs body h meaning have = absurd (cc)
operator-fits k f at (Some b) xs body h meaning have = operated-fits k b (sorts_of f.arguments) f.output xs (kind-none at (misfit b (sorts_of f.arguments) f.output) h) have

strings-fit : (k : Known) (f : Signature) (at : ℕ) (texts : List (List ℕ)) (arguments : List Term) (body : Term) → operator_faults at f (meaning_of_strings texts) ≡ [] → is_nothing (meaning_of_strings texts) ≡ false
    → HaveSorts k arguments (sorts_of f.arguments) → fitted k (meant (meaning_of_strings texts) arguments body) ≡ Some f.output
strings-fit k f at [] xs body h meaning have = absurd (cc)
strings-fit k f at (text ∷ []) xs body h meaning have = operator-fits k f at (builtin_named text) xs body h meaning have
strings-fit k f at (text ∷ other ∷ more) xs body h meaning have = absurd (cc)

module _ (ast : Ast) (sound : FunctionsSound ast) where
  abbrev pub t : Tables
  t = tables_of ast

  abbrev pub fs : List Function
  fs = functions ast

  abbrev pub sig : Function → Signature
  sig f = signature_of (synonyms ast) f

  abbrev pub named : List ℕ → Function → Bool
  named text f = bytes_eq text f.name.text

  abbrev pub graph : Graph
  graph = use_graph fs

  -- what is known in the body of a function
  abbrev inside : Function → Known
  inside f = knows_in (place t (function_scope (sig f)))

  -- the meaning of a function whose own uses fit
  meaning-fits : (n : ℕ) (gs ls : List Sort) (f : Function) (body : Option Expr) (arguments : List Term)
      → function_faults t (sig f) body ≡ [] → operator_faults f.name.at (sig f) (meaning_without f body) ≡ [] → is_nothing (meaning_without f body) ≡ false
      → UsesFit (inside f) (use_within n t fs) t (uses_if body) → HaveSorts (knows_in (with_consts t gs ls)) arguments (sorts_of (sig f).arguments)
      → fitted (knows_in (with_consts t gs ls)) (meant (meaning_without f body) arguments (body_term (term_by (use_within n t fs) t (function_scope (sig f))) body)) ≡ Some (sig f).output
  meaning-fits n gs ls f None xs fault operator meaning fit have = strings-fit (knows_in (with_consts t gs ls)) (sig f) f.name.at (builtin_strings f) xs missing operator meaning have
  meaning-fits n gs ls f (Some body) xs fault operator meaning fit have =
      replaced (inside f) (knows_in (with_consts t gs ls)) xs (local-fits t gs ls (sig f) xs have) (term_by (use_within n t fs) t (function_scope (sig f)) body) (sig f).output
      (preserved (inside f) (use_within n t fs) t (function_scope (sig f)) (are-known t (function_scope (sig f)) (sound.scopes f)) body fit (sig f).output
      (value-ok (sig f).output (part t (function_scope (sig f)) body) fault))

  -- a function that has a signature has a number
  pub place-of : (text : List ℕ) (f : Signature) → function_named t text ≡ Some f → (j : ℕ) × (function_number fs text ≡ Some j)
  place-of text f is =
      let fm = found-map sig (find (named text) fs) f (sym (find-map (λ g. bytes_eq text g.name) sig fs) ∙ is) in
      let r = found (named text) fs fm.0 fm.1 in
      (r.place, r.is_place)

  at-head : (o : Option ℕ) (js : List ℕ) (j : ℕ) → o ≡ Some j → list_any (λ c. nat_eq c j) (cons_option o js) ≡ true
  at-head None js j h = absurd (cc)
  at-head (Some i) js j h = let e : i ≡ j = some-is i j h in let same : nat_eq i j ≡ true = grind (arith, nat_tests) in ap (λ b. b || list_any (λ c. nat_eq c j) js) same

  at-tail : (o : Option ℕ) (js : List ℕ) (j : ℕ) → list_any (λ c. nat_eq c j) js ≡ true → list_any (λ c. nat_eq c j) (cons_option o js) ≡ true
  at-tail None js j h = h
  at-tail (Some i) js j h = or-right (nat_eq i j) (list_any (λ c. nat_eq c j) js) h

  -- what holds of each name whose number, if it has one, is among those of a list of names holds of all these names
  pub names-hold : (P : List ℕ → Type 0) (names : List (List ℕ))
      → ((text : List ℕ) → ((j : ℕ) → function_number fs text ≡ Some j → list_any (λ c. nat_eq c j) (filter_map (function_number fs) names) ≡ true) → P text)
      → AllByRecursion P names
  names-hold P [] each = tt
  names-hold P (x ∷ xs) each = (
    each x (λ j at. at-head (function_number fs x) (filter_map (function_number fs) xs) j at),
    names-hold P xs (λ text later. each text (λ j at. at-tail (function_number fs x) (filter_map (function_number fs) xs) j (later j at))),
  )

  -- the edges that lead from a function
  pub edges-of : (i : ℕ) (f : Function) → slice_get fs i ≡ Some f → edges graph i ≡ filter_map (function_number fs) (uses_if f.body)
  edges-of i f at = ap (λ o. unwrap_or o []) (slice_get-map (λ g. filter_map (function_number fs) (uses_if g.body)) fs i ∙ ap (option_map (λ g. filter_map (function_number fs) (uses_if g.body))) at)

  pub no-way : (m n i : ℕ) → m + n ≡ length fs → i < length fs → leads m graph i i ≡ false
  no-way m n i all below =
      not-so (leads m graph i i)
      (λ h. let whole : m + n ≡ length graph = all ∙ sym (length-map fs (λ g. filter_map (function_number fs) (uses_if g.body))) in
      let circle = subst (λ v. leads v graph i i ≡ true) whole (leads-within m n graph i i h) in
      cc (circle, sound.circles i below))

  -- what is known of the functions that are used at one level below
  abbrev Below : ℕ → ℕ → Type 0
  Below zero m = Unit {0}
  Below (suc n) m = (gs ls : List Sort) (text : List ℕ) (i : ℕ) → function_number fs text ≡ Some i → unseen (λ v. leads (suc m) graph v i) (length fs) ≤ n
      → UseFits (knows_in (with_consts t gs ls)) (use_within n t fs) t text

  use-of : (n m : ℕ) → m + n ≡ length fs → Below n m → (gs ls : List Sort) (text : List ℕ) (i : ℕ) → unseen (λ v. leads m graph v i) (length fs) ≤ n
      → (f : Signature) (g : Function) → function_named t text ≡ Some f → find (named text) fs ≡ Some g → sig g ≡ f → slice_get fs i ≡ Some g
      → is_nothing f.meaning ≡ false → (arguments : List Term) → HaveSorts (knows_in (with_consts t gs ls)) arguments (sorts_of f.arguments)
      → fitted (knows_in (with_consts t gs ls)) (use_within n t fs text arguments) ≡ Some f.output
  use-of zero m all lower gs ls text i few f g is first sigs at meaning xs have =
      let below : i < length fs = slice_get_within fs i g at in
      let some : 1 ≤ unseen (λ v. leads m graph v i) (length fs) = unseen-some (λ v. leads m graph v i) (length fs) i below (no-way m zero i all below) in
      absurd (omega arith)
  use-of (suc n) m all lower gs ls text i few f g is first sigs at meaning xs have =
      let below : i < length fs = slice_get_within fs i g at in
      let k = knows_in (with_consts t gs ls) in
      let term = λ (s : Signature). body_term (term_by (use_within n t fs) t (function_scope s)) (body_named fs text) in
      let next : (x : List ℕ) (j : ℕ) → function_number fs x ≡ Some j → list_any (λ c. nat_eq c j) (filter_map (function_number fs) (uses_if g.body)) ≡ true → UseFits (inside g) (use_within n t fs) t x =
      λ x j number edge.
      let step : has_edge graph i j ≡ true = subst (λ es. list_any (λ c. nat_eq c j) es ≡ true) (sym (edges-of i g at)) edge in
      let falls : unseen (λ v. leads (suc m) graph v j) (length fs) + 1 ≤ unseen (λ v. leads m graph v i) (length fs) =
      unseen-falls (λ v. leads m graph v i) (λ v. leads (suc m) graph v j) (λ v h. leads-further m graph v i j h step) (length fs) i below (no-way m (suc n) i all below) (leads-edge m graph i j step) in
      let fewer : unseen (λ v. leads (suc m) graph v j) (length fs) ≤ n = omega arith in
      lower [] (sorts_of (sig g).arguments) x j number fewer in
      let body : body_named fs text ≡ g.body = ap (option_and_then (λ v. v.body)) first in
      let fit = names-hold (UseFits (inside g) (use_within n t fs) t) (uses_if g.body) (λ x edge f named. let r = place-of x f named in next x r.0 r.1 (edge r.0 r.1) f named) in
      let meant-so = meaning-fits n gs ls g g.body xs
      (all_at (λ v. function_faults t (sig v) v.body ≡ []) fs i g sound.bodies at)
      (all_at (λ v. operator_faults v.name.at (sig v) (meaning_of v) ≡ []) fs i g sound.operators at)
      (subst (λ s. is_nothing s.meaning ≡ false) (sym sigs) meaning) fit
      (subst (λ (s : Signature). HaveSorts k xs (sorts_of s.arguments)) (sym sigs) have) in
      ap (λ o. fitted k (used o xs term)) is
      ∙ subst (λ (s : Signature). fitted k (meant s.meaning xs (term s)) ≡ Some s.output) sigs
      (ap (λ o. fitted k (meant (sig g).meaning xs (body_term (term_by (use_within n t fs) t (function_scope (sig g))) o))) body ∙ meant-so)

  fits-by : (n m : ℕ) → m + n ≡ length fs → Below n m → (gs ls : List Sort) (text : List ℕ) (i : ℕ) → function_number fs text ≡ Some i
      → unseen (λ v. leads m graph v i) (length fs) ≤ n → UseFits (knows_in (with_consts t gs ls)) (use_within n t fs) t text
  fits-by n m all lower gs ls text i number few f is meaning arguments have =
      let fm = found-map sig (find (named text) fs) f (sym (find-map (λ g. bytes_eq text g.name) sig fs) ∙ is) in
      let r = found (named text) fs fm.0 fm.1 in
      let same : r.place ≡ i = some-is r.place i (sym r.is_place ∙ number) in
      let at : slice_get fs i ≡ Some fm.0 = subst (λ v. slice_get fs v ≡ Some fm.0) same r.at in
      use-of n m all lower gs ls text i few f fm.0 is (fm.1) fm.2 at meaning arguments have

  -- a use of a function to which ways of up to m uses lead from all but n functions
  use-fits : (n m : ℕ) → m + n ≡ length fs → (gs ls : List Sort) (text : List ℕ) (i : ℕ) → function_number fs text ≡ Some i
      → unseen (λ v. leads m graph v i) (length fs) ≤ n → UseFits (knows_in (with_consts t gs ls)) (use_within n t fs) t text
  use-fits zero m all gs ls text i number few = fits-by zero m all tt gs ls text i number few
  use-fits (suc n) m all gs ls text i number few =
      let whole : suc m + n ≡ length fs = omega arith in
      fits-by (suc n) m all (λ hs ks x j is less. use-fits n (suc m) whole hs ks x j is less) gs ls text i number few

  -- each use fits
  pub all-fit : (gs ls : List Sort) (names : List (List ℕ)) → UsesFit (knows_in (with_consts t gs ls)) (use_within (length fs) t fs) t names
  all-fit gs ls [] = tt
  all-fit gs ls (x ∷ xs) =
      let whole : 0 + length fs ≡ length fs = omega arith in
      ((λ f is. let r = place-of x f is in use-fits (length fs) 0 whole gs ls x r.0 r.1 (unseen-most (λ v. leads 0 graph v r.0) (length fs)) f is), all-fit gs ls xs)
