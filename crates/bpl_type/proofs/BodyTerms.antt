-- With the bodies of a program, expressions have their terms.
use Rattle.std.proofs.Common.{◌≡◌, ℕ, List, length, Option, Some, None, refl, sym, ◌∙◌, ap, unwrap_or}
use Rattle.std.specs.List.{find, slice_get, position}
use Rattle.std.specs.Option.{option_map, option_and_then}
use Rattle.std.specs.Str.{bytes_eq}
use Rattle.std.proofs.lemmas.Option.{slice_get-map}
use Rattle.bpl_ast.specs.declared.decl.Ast.{Ast}
use Rattle.bpl_ast.specs.declared.decl.Function.{Function}
use Rattle.bpl_ast.specs.declared.expr.Expr.{Expr}
use Rattle.hy_val.specs.declared.expr.ExprNode.{ExprNode}
use Rattle.type_pass.specs.declared.tables.Scope.{Scope}
use Rattle.type_pass.specs.declared.tables.Signature.{Signature}
use Rattle.type_pass.specs.declared.tables.Tables.{Tables}
use Rattle.bpl_type.specs.Making.{read_back, body_nodes, use_with, term_with, body_of, bodies_of}
use Rattle.type_pass.specs.Passes.{uses, function_number}
use Rattle.type_pass.specs.Replaced.{Use, term_of, body_named, body_term, meant, used, use_within}
use Rattle.type_pass.specs.Scopes.{function_scope, function_named}
use Rattle.type_pass.specs.Terms.{missing, nodes_of}
use Rattle.bpl_type.proofs.Elements.{found, find-map, position-map, all_every}
use Rattle.bpl_type.proofs.FunctionsFit.{FunctionsSound, t, fs, sig, named}
use Rattle.bpl_type.proofs.MakingLaws.{reads-back}
use Rattle.bpl_type.proofs.TermAgreement.{Agree, same-term}
use Rattle.bpl_type.proofs.UseMeanings.{use-is}

module _ (ast : Ast) (sound : FunctionsSound ast) where
  abbrev tables : Tables
  tables = t ast sound

  abbrev functions : List Function
  functions = fs ast sound

  abbrev whole : Use
  whole = use_within (length functions) tables functions

  -- the body of a function stands at its number
  abbrev pub Stands : List (List ExprNode) → List ℕ → Type 0
  Stands bodies text = (j : ℕ) (g : Function) → function_number functions text ≡ Some j → slice_get functions j ≡ Some g → slice_get bodies j ≡ Some (body_of ast g)

  agrees-by : (bodies : List (List ExprNode)) (text : List ℕ) (o : Option Function) → find (named ast sound text) functions ≡ o → Stands bodies text → Agree (use_with tables bodies) whole text
  unfolding use_with
  agrees-by bodies text None is stands xs =
      let none : function_named tables text ≡ None = find-map (λ g. bytes_eq text g.name) (sig ast sound) functions ∙ ap (option_map (sig ast sound)) is in
      ap (λ o. used o xs (λ f. read_back (body_nodes tables bodies text))) none
      ∙ sym (ap (λ o. used o xs (λ f. body_term (term_of tables functions (function_scope f)) (body_named functions text))) none)
      ∙ sym (use-is ast sound text xs)
  agrees-by bodies text (Some g) is stands xs =
      let some : function_named tables text ≡ Some (sig ast sound g) = find-map (λ k. bytes_eq text k.name) (sig ast sound) functions ∙ ap (option_map (sig ast sound)) is in
      let r = found (named ast sound text) functions g is in
      let place : position (λ f. bytes_eq text f.name) tables.functions ≡ Some r.place = position-map (λ (f : Signature). bytes_eq text f.name) (sig ast sound) functions ∙ r.is_place in
      let nodes : body_nodes tables bodies text ≡ body_of ast g =
      ap (λ o. unwrap_or (option_and_then (slice_get bodies) o) (nodes_of missing)) place ∙ ap (λ o. unwrap_or o (nodes_of missing)) (stands r.place g r.is_place r.at) in
      let s = function_scope (sig ast sound g) in
      let body : body_named functions text ≡ g.body = ap (option_and_then (λ (k : Function). k.body)) is in
      ap (λ o. used o xs (λ f. read_back (body_nodes tables bodies text))) some
      ∙ ap (meant (sig ast sound g).meaning xs) (ap read_back nodes ∙ reads-back (body_term (term_of tables functions s) g.body) ∙ ap (body_term (term_of tables functions s)) (sym body))
      ∙ sym (ap (λ o. used o xs (λ f. body_term (term_of tables functions (function_scope f)) (body_named functions text))) some)
      ∙ sym (use-is ast sound text xs)

  pub agrees : (bodies : List (List ExprNode)) (text : List ℕ) → Stands bodies text → Agree (use_with tables bodies) whole text
  agrees bodies text stands = agrees-by bodies text (find (named ast sound text) functions) refl stands

  all-stand : (text : List ℕ) → Stands (bodies_of ast) text
  all-stand text j g number at = slice_get-map (body_of ast) functions j ∙ ap (option_map (body_of ast)) at

  pub term-is : (s : Scope) (x : Expr) → term_with tables (bodies_of ast) s x ≡ term_of tables functions s x
  term-is s x = same-term (use_with tables (bodies_of ast)) whole tables s x (all_every (Agree (use_with tables (bodies_of ast)) whole) (λ text. agrees (bodies_of ast) text (all-stand text)) (uses x))
