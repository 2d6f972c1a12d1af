-- The bodies of functions, made in an order in which those that a body uses come first.
use Rattle.std.proofs.Common.{◌≡◌, ℕ, zero, suc, ◌+◌, ◌<◌, ◌≤◌, Bool, true, false, ◌||◌, List, [], ◌∷◌, length, map, get_or, set, take, Option, Some, None, Bor, refl, sym, ◌∙◌, ap, subst, arith, length-set, take_all}
use Rattle.std.specs.List.{AllByRecursion, list_any, list_all, slice_get, filter_map}
use Rattle.std.specs.Option.{option_map}
use Rattle.std.specs.Prelude.{nat_eq, nat_lt}
use Rattle.std.proofs.lemmas.Bool.Decides.{nat_tests}
use Rattle.std.proofs.lemmas.List.{length-map, take_more}
use Rattle.std.proofs.lemmas.Option.{slice_get-map, slice_get_within}
use Rattle.bpl_ast.specs.declared.decl.Ast.{Ast}
use Rattle.bpl_ast.specs.declared.decl.Function.{Function}
use Rattle.bpl_ast.specs.declared.expr.Expr.{Expr}
use Rattle.hy_val.specs.declared.expr.ExprNode.{ExprNode}
use Rattle.type_pass.specs.declared.tables.Scope.{Scope}
use Rattle.type_pass.specs.declared.tables.Signature.{Signature}
use Rattle.type_pass.specs.declared.tables.Tables.{Tables}
use Rattle.type_pass.specs.Declarations.{synonyms, functions}
use Rattle.type_pass.specs.Graphs.{Graph, edges, leads, is_on_circle}
use Rattle.bpl_type.specs.Making.{use_with, term_with, body_of, bodies_of}
use Rattle.type_pass.specs.Orders.{is_in, IsOrder}
use Rattle.type_pass.specs.Passes.{heads_faults, commands_faults, circle_faults, uses_if, use_graph, function_number}
use Rattle.type_pass.specs.Replaced.{Use, term_by, term_of, body_term, use_within}
use Rattle.type_pass.specs.Scopes.{tables_of, signature_of, function_scope}
use Rattle.bpl_type.specs.Templates.{IsFilled}
use Rattle.type_pass.specs.Terms.{nodes_of}
use Rattle.bpl_type.proofs.BodyTerms.{agrees}
use Rattle.type_pass.proofs.CircleLaws.{complete-order, in-at}
use Rattle.bpl_type.proofs.Elements.{element-at, some-is}
use Rattle.bpl_type.proofs.FunctionsFit.{FunctionsSound, names-hold, edges-of}
use Rattle.type_pass.proofs.MemoLaws.{at-one, follows-at}
use Rattle.type_pass.proofs.OrderLaws.{is_in-push}
use Rattle.bpl_type.proofs.ProgramFits.{NoFaults, sound}
use Rattle.bpl_type.proofs.TermAgreement.{Agree, same-term}
use Rattle.type_pass.proofs.UsedNumbers.{uses-closed}

pub flip : (es : List ℕ) (j : ℕ) → list_any (λ c. nat_eq c j) es ≡ true → is_in es j ≡ true
flip [] j h = h
flip (e ∷ es) j h = flipped (nat_eq e j) (nat_eq j e) (list_any (λ c. nat_eq c j) es) (is_in es j) (same e j) (flip es j) h
  where
    same : (a b : ℕ) → nat_eq a b ≡ nat_eq b a
    same a b = grind (arith, nat_tests)

    flipped : (a b x y : Bool) → a ≡ b → (x ≡ true → y ≡ true) → (a || x) ≡ true → (b || y) ≡ true
    flipped true b x y e f g = ap (λ v. v || y) (sym e)
    flipped false true x y e f g = refl
    flipped false false x y e f g = f g

no-edge : (n : ℕ) (g : Graph) (a b : ℕ) → edges g a ≡ [] → leads n g a b ≡ false
no-edge zero g a b h = refl
no-edge (suc n) g a b h = ap (list_any (λ c. nat_eq c b || leads n g c b)) h

past-edges : (g : Graph) (i : ℕ) → length g ≤ i → edges g i ≡ []
past-edges [] i h = refl
past-edges (e ∷ es) zero h = absurd (omega arith)
past-edges (e ∷ es) (suc i) h = past-edges es i (omega arith)

pub set-same : {A : Type 0} (xs : List A) (i : ℕ) (v : A) → i < length xs → slice_get (set xs i v) i ≡ Some v
set-same [] i v h = absurd (omega arith)
set-same (x ∷ xs) zero v h = refl
set-same (x ∷ xs) (suc i) v h = set-same xs i v (omega arith)

pub set-other : {A : Type 0} (xs : List A) (i j : ℕ) (v : A) → nat_eq j i ≡ false → slice_get (set xs i v) j ≡ slice_get xs j
set-other [] i j v h = refl
set-other (x ∷ xs) zero zero v h = absurd (cc)
set-other (x ∷ xs) zero (suc j) v h = refl
set-other (x ∷ xs) (suc i) zero v h = refl
set-other (x ∷ xs) (suc i) (suc j) v h = set-other xs i j v (let e : nat_eq j i ≡ nat_eq (suc j) (suc i) = grind (arith, nat_tests) in e ∙ h)

-- two lists of one length with the same elements
same-lists : {A : Type 0} (xs ys : List A) → length xs ≡ length ys → ((i : ℕ) (y : A) → slice_get ys i ≡ Some y → slice_get xs i ≡ Some y) → xs ≡ ys
same-lists [] [] e h = refl
same-lists [] (y ∷ ys) e h = absurd (omega arith)
same-lists (x ∷ xs) [] e h = absurd (omega arith)
same-lists (x ∷ xs) (y ∷ ys) e h =
    let first : x ≡ y = cc (h 0 y refl) in
    ap (λ a. a ∷ xs) first ∙ ap (λ rest. y ∷ rest) (same-lists xs ys (omega arith) (λ i z at. h (suc i) z at))

-- the bodies of the functions in a list of numbers are there
pub record Filled (ast : Ast) (seen : List ℕ) (bodies : List (List ExprNode)) : Type 0 where
  pub counted : length bodies ≡ length (functions ast)
  pub bodies_at : (j : ℕ) (g : Function) → is_in seen j ≡ true → slice_get (functions ast) j ≡ Some g → slice_get bodies j ≡ Some (body_of ast g)

pub filled-none : (ast : Ast) (bodies : List (List ExprNode)) → length bodies ≡ length (functions ast) → Filled ast [] bodies
filled-none ast bodies h = record { counted = h; bodies_at = λ j g no at. absurd (cc) }

module _ (ast : Ast) (heads : heads_faults ast ≡ []) (commands : commands_faults ast ≡ []) (circles : circle_faults ast ≡ []) where
  abbrev none : NoFaults ast
  none = record { heads = heads; commands = commands; circles = circles }

  abbrev right : FunctionsSound ast
  right = sound ast none

  abbrev tables : Tables
  tables = tables_of ast

  abbrev fs : List Function
  fs = functions ast

  abbrev whole : Use
  whole = use_within (length fs) tables fs

  same-body : (u v : Use) (s : Scope) (body : Option Expr) → AllByRecursion (Agree u v) (uses_if body) → body_term (term_by u tables s) body ≡ body_term (term_by v tables s) body
  same-body u v s None h = refl
  same-body u v s (Some body) h = same-term u v tables s body h

  -- a body whose uses are there
  pub body-made : (seen : List ℕ) (bodies : List (List ExprNode)) (i : ℕ) (g : Function) → Filled ast seen bodies → slice_get fs i ≡ Some g → list_all (is_in seen) (edges (use_graph fs) i) ≡ true
      → (s : Scope) → body_term (term_with tables bodies s) g.body ≡ body_term (term_of tables fs s) g.body
  body-made seen bodies i g filled at all s =
      same-body (use_with tables bodies) whole s g.body
      (names-hold ast right (Agree (use_with tables bodies) whole) (uses_if g.body)
      (λ text edge. agrees ast right bodies text
      (λ j h number there. filled.bodies_at j h
      (at-one (is_in seen) (edges (use_graph fs) i) j all (subst (λ es. is_in es j ≡ true) (sym (edges-of ast right i g at)) (flip (filter_map (function_number fs) (uses_if g.body)) j (edge j number))))
      there)))

  -- one body more, in an order
  pub filled-more : (order : List ℕ) → IsOrder (use_graph fs) order → (h : ℕ) (bodies : List (List ExprNode)) (n : ℕ) (g : Function) (made : List ExprNode) → h < length order → n ≡ get_or order h 0
      → Filled ast (take h order) bodies → slice_get fs n ≡ Some g → made ≡ nodes_of (body_term (term_with tables bodies (function_scope (signature_of (synonyms ast) g))) g.body)
      → Filled ast (take (h + 1) order) (set bodies n made)
  filled-more order is h bodies n g made less node filled at written =
      let all : list_all (is_in (take h order)) (edges (use_graph fs) n) ≡ true = ap (λ k. list_all (is_in (take h order)) (edges (use_graph fs) k)) node ∙ follows-at (use_graph fs) [] order h is.follows less in
      let made-is : made ≡ body_of ast g = written ∙ ap nodes_of (body-made (take h order) bodies n g filled at all (function_scope (signature_of (synonyms ast) g))) in
      let within : n < length bodies = subst (λ k. n < k) (sym filled.counted) (slice_get_within fs n g at) in
      record {
        counted = length-set bodies n made ∙ filled.counted;
        bodies_at = λ j f seen there.
            by-number j f (nat_eq j n) refl seen there made-is within;
      }
    where
      in-more : (j : ℕ) → is_in (take (h + 1) order) j ≡ (is_in (take h order) j || nat_eq j n)
      in-more j = ap (λ ns. is_in ns j) (take_more order h 0 less) ∙ is_in-push (take h order) (get_or order h 0) j ∙ ap (λ k. is_in (take h order) j || nat_eq j k) (sym node)

      or-false : (a : Bool) → (a || false) ≡ true → a ≡ true
      or-false true k = refl
      or-false false k = k

      by-number : (j : ℕ) (f : Function) (same : Bool) → nat_eq j n ≡ same → is_in (take (h + 1) order) j ≡ true → slice_get fs j ≡ Some f → made ≡ body_of ast g → n < length bodies → slice_get (set bodies n made) j ≡ Some (body_of ast f)
      by-number j f true same seen there made-is within =
          let e : j ≡ n = grind (arith, nat_tests) in
          let one : f ≡ g = cc (ap (slice_get fs) e, there, at) in
          ap (slice_get (set bodies n made)) e ∙ set-same bodies n made within ∙ ap Some made-is ∙ ap (λ x. Some (body_of ast x)) (sym one)
      by-number j f false same seen there made-is within =
          let before : is_in (take h order) j ≡ true = or-false (is_in (take h order) j) (sym (in-more j ∙ ap (λ b. is_in (take h order) j || b) same) ∙ seen) in
          set-other bodies n j made same ∙ filled.bodies_at j f before there

  pub no-circles : (c : ℕ) → is_on_circle (use_graph fs) c ≡ false
  no-circles c = by-size (nat_lt c (length fs)) refl
    where
      counted : length (use_graph fs) ≡ length fs
      counted = length-map fs (λ f. filter_map (function_number fs) (uses_if f.body))

      by-size : (b : Bool) → nat_lt c (length fs) ≡ b → is_on_circle (use_graph fs) c ≡ false
      by-size true k = let below : c < length fs = grind (arith, nat_tests) in right.circles c below
      by-size false k =
          let past : length fs ≤ c = grind (arith, nat_tests) in
          no-edge (length (use_graph fs)) (use_graph fs) c c (past-edges (use_graph fs) c (subst (λ n. n ≤ c) (sym counted) past))

  -- all bodies
  pub filled-all : (order : List ℕ) → IsOrder (use_graph fs) order → (h : ℕ) (bodies : List (List ExprNode)) → length order ≤ h → Filled ast (take h order) bodies → bodies ≡ bodies_of ast
  filled-all order is h bodies past filled =
      same-lists bodies (bodies_of ast) (filled.counted ∙ sym (length-map fs (body_of ast)))
      (λ i y at.
      let below : i < length (bodies_of ast) = slice_get_within (bodies_of ast) i y at in
      let counted : length (bodies_of ast) ≡ length fs = length-map fs (body_of ast) in
      let sized : length (use_graph fs) ≡ length fs = length-map fs (λ f. filter_map (function_number fs) (uses_if f.body)) in
      let inside : i < length (use_graph fs) = omega arith in
      let lower : i < length fs = omega arith in
      let g = element-at fs i lower in
      let seen : is_in (take h order) i ≡ true = ap (λ ns. is_in ns i) (take_all h order past) ∙ complete-order (use_graph fs) order (uses-closed fs) is no-circles i inside in
      filled.bodies_at i g.0 seen g.1 ∙ sym (slice_get-map (body_of ast) fs i ∙ ap (option_map (body_of ast)) g.1) ∙ at)

-- a node of an order is one of the functions
pub node-within : (fs : List Function) (order : List ℕ) → IsOrder (use_graph fs) order → (h n : ℕ) → h < length order → n ≡ get_or order h 0 → n < length fs
node-within fs order is h n less node =
    let sized : length (use_graph fs) ≡ length fs = length-map fs (λ f. filter_map (function_number fs) (uses_if f.body)) in
    let below : get_or order h 0 < length (use_graph fs) = is.nodes (get_or order h 0) (in-at order h less) in
    omega arith

-- one body more takes its place
pub filled-step : (ast : Ast) → heads_faults ast ≡ [] → commands_faults ast ≡ [] → circle_faults ast ≡ [] → (order : List ℕ) → IsOrder (use_graph (functions ast)) order
    → (h n : ℕ) (tables : Tables) (found found1 : List (Bor Function)) (old new : List (List ExprNode)) → tables ≡ tables_of ast → found1 ≡ found → map (λ f. f.now) found ≡ functions ast → h < length order → n ≡ get_or order h 0
    → IsFilled tables (map (λ f. f.now) found1) n old new → Filled ast (take h order) old → Filled ast (take (h + 1) order) new
filled-step ast heads commands circles order is h n tables found found1 old new known same listed less node step filled =
    let fs = functions ast in
    let g = element-at fs n (node-within fs order is h n less node) in
    let functions-are : map (λ f. f.now) found1 ≡ fs = ap (λ (v : List (Bor Function)). map (λ f. f.now) v) same ∙ listed in
    let here : slice_get (map (λ f. f.now) found1) n ≡ Some g.0 = ap (λ (v : List Function). slice_get v n) functions-are ∙ g.1 in
    let signed : slice_get tables.functions n ≡ Some (signature_of (synonyms ast) g.0) =
    ap (λ (k : Tables). slice_get k.functions n) known ∙ slice_get-map (signature_of (synonyms ast)) fs n ∙ ap (option_map (signature_of (synonyms ast))) g.1 in
    let made = nodes_of (body_term (term_with (tables_of ast) old (function_scope (signature_of (synonyms ast) g.0))) g.0.body) in
    let new-is : new ≡ set old n made =
    step g.0 (signature_of (synonyms ast) g.0) here signed
    ∙ ap (λ (k : Tables). set old n (nodes_of (body_term (term_with k old (function_scope (signature_of (synonyms ast) g.0))) g.0.body))) known in
    subst (Filled ast (take (h + 1) order)) (sym new-is) (filled-more ast heads commands circles order is h old n g.0 made less node filled g.1 refl)

-- no body is there yet
pub filled-first : (ast : Ast) (found : List (Bor Function)) (n : ℕ) (bodies : List (List ExprNode)) → map (λ f. f.now) found ≡ functions ast → n ≡ length found → length bodies ≡ n → Filled ast [] bodies
filled-first ast found n bodies listed size made =
    filled-none ast bodies (made ∙ size ∙ sym (length-map found (λ (f : Bor Function). f.now)) ∙ ap length listed)

-- ---- one body

pub fill-none : (tables : Tables) (found : List (Bor Function)) (n : ℕ) (old new : List (List ExprNode)) → slice_get found n ≡ None → IsFilled tables (map (λ f. f.now) found) n old new
fill-none tables found n old new none = λ f s here signed.
    let past : None ≡ Some f = sym (slice_get-map (λ (g : Bor Function). g.now) found n ∙ ap (option_map (λ (g : Bor Function). g.now)) none) ∙ here in
    absurd (cc)

pub fill-unsigned : (tables : Tables) (fs : List Function) (n : ℕ) (old new : List (List ExprNode)) → slice_get tables.functions n ≡ None → IsFilled tables fs n old new
fill-unsigned tables fs n old new none = λ f s here signed. absurd (cc)

pub fill-some : (tables : Tables) (found : List (Bor Function)) (n : ℕ) (old bodies new : List (List ExprNode)) (g : Bor Function) (sig : Signature) (made : List ExprNode) → slice_get found n ≡ Some g → slice_get tables.functions n ≡ Some sig → bodies ≡ old
    → made ≡ nodes_of (body_term (term_with tables bodies (function_scope sig)) g.now.body) → new ≡ set old n made → IsFilled tables (map (λ f. f.now) found) n old new
fill-some tables found n old bodies new g sig made there signed same written placed = λ f s here known.
    let function : g.now ≡ f = some-is g.now f (sym (slice_get-map (λ (h : Bor Function). h.now) found n ∙ ap (option_map (λ (h : Bor Function). h.now)) there) ∙ here) in
    let signature : sig ≡ s = some-is sig s (sym signed ∙ known) in
    placed
    ∙ ap (set old n)
    (written ∙ ap (λ bs. nodes_of (body_term (term_with tables bs (function_scope sig)) g.now.body)) same
    ∙ ap (λ (h : Function). nodes_of (body_term (term_with tables old (function_scope sig)) h.body)) function
    ∙ ap (λ (h : Signature). nodes_of (body_term (term_with tables old (function_scope h)) f.body)) signature)
