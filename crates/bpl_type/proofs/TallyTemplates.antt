-- The templates of functions, counted in an order in which those that a body uses come first, and what they say of all expressions.
use Rattle.std.proofs.Common.{◌≡◌, ℕ, suc, ◌+◌, ◌<◌, ◌≤◌, inl, Bool, true, false, ◌||◌, List, [], ◌∷◌, length, get_or, map, set, take, Option, Some, None, Result, Ok, Err, Bor, refl, sym, ◌∙◌, ap, subst, arith, length-set, take_all}
use Rattle.std.specs.List.{AllByRecursion, find, list_all, slice_get, filter_map}
use Rattle.std.specs.Option.{option_map, option_and_then}
use Rattle.std.specs.Result.{IfOk}
use Rattle.std.specs.Prelude.{flat_map, nat_eq, nat_le, nat_lt}
use Rattle.std.specs.Str.{bytes_eq}
use Rattle.std.proofs.lemmas.Bool.Decides.{nat_tests}
use Rattle.std.proofs.lemmas.List.{length-map, take_more}
use Rattle.std.proofs.lemmas.Option.{slice_get-map, slice_get_within}
use Rattle.bpl_ast.specs.declared.decl.Ast.{Ast}
use Rattle.bpl_ast.specs.declared.decl.Body.{Body}
use Rattle.bpl_ast.specs.declared.decl.Decl.{Decl}
use Rattle.bpl_ast.specs.declared.decl.Decl.TheVariants as decls
use Rattle.bpl_ast.specs.declared.decl.Function.{Function}
use Rattle.bpl_ast.specs.declared.decl.Heads.{Heads}
use Rattle.bpl_ast.specs.declared.decl.Synonym.{Synonym}
use Rattle.bpl_ast.specs.declared.expr.Expr.{Expr}
use Rattle.bpl_type.specs.declared.count.Tally.{Tally}
use Rattle.type_pass.specs.declared.fault.TypeFault.{TypeFault}
use Rattle.type_pass.specs.declared.fault.TypeKind.TheVariants.{Large}
use Rattle.type_pass.specs.declared.tables.Scope.{Scope}
use Rattle.type_pass.specs.declared.tables.Signature.{Signature}
use Rattle.type_pass.specs.declared.tables.Tables.{Tables}
use Rattle.bpl_type.specs.Counts.{Alike, affine_at, weigh}
use Rattle.type_pass.specs.Declarations.{synonyms, functions}
use Rattle.type_pass.specs.ExprSorts.{part}
use Rattle.type_pass.specs.Faults.{told, first}
use Rattle.type_pass.specs.Graphs.{edges}
use Rattle.type_pass.specs.Orders.{is_in, IsOrder}
use Rattle.type_pass.specs.Passes.{heads_faults, commands_faults, circle_faults, uses, uses_if, use_graph, function_number, exprs_of, large_fault, large_body, large_decl, large_faults}
use Rattle.type_pass.specs.Replaced.{Use, term_of, body_named, body_term, use_within}
use Rattle.type_pass.specs.Scopes.{tables_of, signature_of, function_named, function_scope, axiom_scope, body_scope}
use Rattle.bpl_type.specs.Sizes.{CountsAs, CountsAt, AreCounted, AreTemplates, body_weight, function_weight, heavy_fault, heavy_body, heavy_decl}
use Rattle.bpl_type.specs.Tallies.{noted_template, template_if, templates_of}
use Rattle.type_pass.specs.Terms.{size}
use Rattle.bpl_type.specs.Weights.{Affine, Templates, used_weight, weight_by}
use Rattle.type_pass.proofs.CircleLaws.{complete-order}
use Rattle.bpl_type.proofs.CountLaws.{weigh-size, alike-trans, alike-between, alike-decides}
use Rattle.bpl_type.proofs.Elements.{element-at, found, find-map, found-map}
use Rattle.bpl_type.proofs.FunctionsFit.{FunctionsSound, names-hold, edges-of}
use Rattle.type_pass.proofs.MemoLaws.{at-one, follows-at}
use Rattle.type_pass.proofs.NumberLaws.{position-map}
use Rattle.type_pass.proofs.OrderLaws.{is_in-push}
use Rattle.type_pass.proofs.PassLaws.{flat-flat}
use Rattle.bpl_type.proofs.ProgramFits.{sound}
use Rattle.bpl_type.proofs.TemplateLaws.{flip, set-same, set-other, node-within, no-circles}
use Rattle.bpl_type.proofs.UseMeanings.{use-is}
use Rattle.type_pass.proofs.UsedNumbers.{uses-closed}
use Rattle.bpl_type.proofs.WeightLaws.{Weighed, weighed-term, used-weighed}

-- the numbers that a function counts, as its tally says
abbrev pub HasTemplate : ℕ → Ast → Function → Option Tally → Type 0
HasTemplate most ast f tally = (v : ℕ → ℕ) → Alike most (function_weight ast f v) (affine_at (noted_template tally).0 (noted_template tally).1 v)

counted-first : (most : ℕ) (ast : Ast) (templates : List Tally) → length templates ≡ length (functions ast) → AreCounted most ast [] templates
counted-first most ast templates h = record { counted = h; templates_at = λ j f no at. absurd (cc) }

pub counted-start : (most : ℕ) (ast : Ast) (templates : List Tally) (count : ℕ) (found : List (Bor Function)) → length templates ≡ count → count ≡ length found → map (λ f. f.now) found ≡ functions ast → AreCounted most ast [] templates
counted-start most ast templates count found long many names =
    counted-first most ast templates (long ∙ many ∙ sym (length-map found (λ (f : Bor Function). f.now)) ∙ ap length names)

at-limit : (limit a : ℕ) → nat_le (suc limit) a ≡ nat_lt limit a
at-limit limit a = grind (arith, nat_tests)

module _ (most : ℕ) (ast : Ast) (heads : heads_faults ast ≡ []) (commands : commands_faults ast ≡ []) (circles : circle_faults ast ≡ []) where
  abbrev right : FunctionsSound ast
  right = sound ast (record { heads = heads; commands = commands; circles = circles })

  abbrev tables : Tables
  tables = tables_of ast

  abbrev fs : List Function
  fs = functions ast

  abbrev sig : Function → Signature
  sig f = signature_of (synonyms ast) f

  abbrev whole : Use
  whole = use_within (length fs) tables fs

  template-is : (templates : List Tally) (text : List ℕ) (j : ℕ) → function_number fs text ≡ Some j → templates_of tables templates text ≡ noted_template (slice_get templates j)
  template-is templates text j number = ap (template_if templates) (position-map (λ f. bytes_eq text f.name) sig fs ∙ number)

  -- a name whose function, if it has one, has its template
  text-weighed : (templates : List Tally) (text : List ℕ)
      → ((j : ℕ) (g : Function) → function_number fs text ≡ Some j → slice_get fs j ≡ Some g → HasTemplate most ast g (slice_get templates j))
      → Weighed most whole (templates_of tables templates) tables text
  text-weighed templates text h v xs =
      let body = λ (s : Signature). body_term (term_of tables fs (function_scope s)) (body_named fs text) in
      subst (λ t. Alike most (weigh v t) (used_weight (function_named tables text) (templates_of tables templates text) v (map (weigh v) xs))) (sym (use-is ast right text xs))
      (used-weighed most (function_named tables text) (templates_of tables templates text) body
      (λ s is meaning w. named s is w) v xs)
    where
      named : (s : Signature) → function_named tables text ≡ Some s → (w : ℕ → ℕ)
          → Alike most (weigh w (body_term (term_of tables fs (function_scope s)) (body_named fs text))) (affine_at (templates_of tables templates text).0 (templates_of tables templates text).1 w)
      named s is w =
          let fm = found-map sig (find (λ g. bytes_eq text g.name.text) fs) s (sym (find-map (λ g. bytes_eq text g.name) sig fs) ∙ is) in
          let r = found (λ g. bytes_eq text g.name.text) fs fm.0 fm.1 in
          let same : body_named fs text ≡ fm.0.body = ap (option_and_then (λ (k : Function). k.body)) fm.1 in
          alike-between most (weigh w (body_term (term_of tables fs (function_scope s)) (body_named fs text))) (function_weight ast fm.0 w)
          (affine_at (templates_of tables templates text).0 (templates_of tables templates text).1 w)
          (affine_at (noted_template (slice_get templates r.place)).0 (noted_template (slice_get templates r.place)).1 w)
          (ap (λ o. weigh w (body_term (term_of tables fs (function_scope s)) o)) same ∙ ap (λ (k : Signature). weigh w (body_term (term_of tables fs (function_scope k)) fm.0.body)) (sym fm.2))
          (h r.place fm.0 r.is_place r.at w)
          (ap (λ (t : Affine). affine_at t.0 t.1 w) (sym (template-is templates text r.place r.is_place)))

  body-alike : (m : Templates) (s : Scope) (body : Option Expr) → AllByRecursion (Weighed most whole m tables) (uses_if body) → (v : ℕ → ℕ)
      → Alike most (weigh v (body_term (term_of tables fs s) body)) (body_weight (weight_by m tables s) body v)
  body-alike m s None h v = inl refl
  body-alike m s (Some x) h v = weighed-term most whole m tables s x h v

  -- a function whose uses have their templates
  body-counted : (seen : List ℕ) (templates : List Tally) (i : ℕ) (g : Function) (tally : Tally) → AreCounted most ast seen templates → slice_get fs i ≡ Some g → list_all (is_in seen) (edges (use_graph fs) i) ≡ true
      → CountsAs most (body_weight (weight_by (templates_of tables templates) tables (function_scope (sig g))) g.body) tally → CountsAs most (function_weight ast g) tally
  body-counted seen templates i g tally are at all counts v =
      let m = templates_of tables templates in
      alike-trans most (function_weight ast g v) (body_weight (weight_by m tables (function_scope (sig g))) g.body v) (affine_at tally.base tally.slopes v)
      (body-alike m (function_scope (sig g)) g.body
      (names-hold ast right (Weighed most whole m tables) (uses_if g.body)
      (λ text edge. text-weighed templates text
      (λ j h number there. are.templates_at j h
      (at-one (is_in seen) (edges (use_graph fs) i) j all (subst (λ es. is_in es j ≡ true) (sym (edges-of ast right i g at)) (flip (filter_map (function_number fs) (uses_if g.body)) j (edge j number))))
      there))) v)
      (counts v)

  -- one template more, in an order
  pub counted-more : (order : List ℕ) → IsOrder (use_graph fs) order → (h : ℕ) (templates : List Tally) (n : ℕ) (g : Function) (tally : Tally) → h < length order → n ≡ get_or order h 0
      → AreCounted most ast (take h order) templates → slice_get fs n ≡ Some g
      → CountsAs most (body_weight (weight_by (templates_of tables templates) tables (function_scope (sig g))) g.body) tally
      → AreCounted most ast (take (h + 1) order) (set templates n tally)
  counted-more order is h templates n g tally less node are at counts =
      let all : list_all (is_in (take h order)) (edges (use_graph fs) n) ≡ true = ap (λ k. list_all (is_in (take h order)) (edges (use_graph fs) k)) node ∙ follows-at (use_graph fs) [] order h is.follows less in
      let here : CountsAs most (function_weight ast g) tally = body-counted (take h order) templates n g tally are at all counts in
      let within : n < length templates = subst (λ k. n < k) (sym are.counted) (slice_get_within fs n g at) in
      record {
        counted = length-set templates n tally ∙ are.counted;
        templates_at = λ j f seen there. by-number j f (nat_eq j n) refl seen there here within;
      }
    where
      in-more : (j : ℕ) → is_in (take (h + 1) order) j ≡ (is_in (take h order) j || nat_eq j n)
      in-more j = ap (λ ns. is_in ns j) (take_more order h 0 less) ∙ is_in-push (take h order) (get_or order h 0) j ∙ ap (λ k. is_in (take h order) j || nat_eq j k) (sym node)

      or-false : (a : Bool) → (a || false) ≡ true → a ≡ true
      or-false true k = refl
      or-false false k = k

      by-number : (j : ℕ) (f : Function) (same : Bool) → nat_eq j n ≡ same → is_in (take (h + 1) order) j ≡ true → slice_get fs j ≡ Some f → CountsAs most (function_weight ast g) tally → n < length templates
          → HasTemplate most ast f (slice_get (set templates n tally) j)
      by-number j f true same seen there here within =
          let e : j ≡ n = grind (arith, nat_tests) in
          let one : f ≡ g = cc (ap (slice_get fs) e, there, at) in
          let set-at : slice_get (set templates n tally) j ≡ Some tally = ap (slice_get (set templates n tally)) e ∙ set-same templates n tally within in
          subst (λ o. HasTemplate most ast f o) (sym set-at) (subst (λ k. HasTemplate most ast k (Some tally)) (sym one) here)
      by-number j f false same seen there here within =
          let before : is_in (take h order) j ≡ true = or-false (is_in (take h order) j) (sym (in-more j ∙ ap (λ b. is_in (take h order) j || b) same) ∙ seen) in
          subst (λ o. HasTemplate most ast f o) (sym (set-other templates n j tally same)) (are.templates_at j f before there)

  -- all templates
  pub counted-all-functions : (order : List ℕ) → IsOrder (use_graph fs) order → (h : ℕ) (templates : List Tally) → length order ≤ h → AreCounted most ast (take h order) templates → AreTemplates most ast templates
  counted-all-functions order is h templates past are j f at =
      let below : j < length fs = slice_get_within fs j f at in
      let sized : length (use_graph fs) ≡ length fs = length-map fs (λ g. filter_map (function_number fs) (uses_if g.body)) in
      let inside : j < length (use_graph fs) = omega arith in
      are.templates_at j f (ap (λ ns. is_in ns j) (take_all h order past) ∙ complete-order (use_graph fs) order (uses-closed fs) is (no-circles ast heads commands circles) j inside) at

  -- ---- all expressions

  all-weighed : (templates : List Tally) → AreTemplates most ast templates → (names : List (List ℕ)) → AllByRecursion (Weighed most whole (templates_of tables templates) tables) names
  all-weighed templates are [] = tt
  all-weighed templates are (x ∷ xs) = (text-weighed templates x (λ j g number at. are j g at), all-weighed templates are xs)

  pub size-alike : (templates : List Tally) → AreTemplates most ast templates → (s : Scope) (x : Expr)
      → Alike most (size (term_of tables fs s x)) (weight_by (templates_of tables templates) tables s x (λ n. 1))
  size-alike templates are s x =
      subst (λ k. Alike most k (weight_by (templates_of tables templates) tables s x (λ n. 1))) (sym (weigh-size (λ n. 1) (λ n. refl) (term_of tables fs s x)))
      (weighed-term most whole (templates_of tables templates) tables s x (all-weighed templates are (uses x)) (λ n. 1))

  module _ (limit : ℕ) (bound : most ≡ suc limit) (templates : List Tally) (are : AreTemplates most ast templates) where
    abbrev m : Templates
    m = templates_of tables templates

    large-test : (s : Scope) (x : Expr) → nat_le most (weight_by m tables s x (λ n. 1)) ≡ nat_lt limit (size (term_of tables fs s x))
    large-test s x =
        ap (λ k. nat_le k (weight_by m tables s x (λ n. 1))) bound ∙ at-limit limit (weight_by m tables s x (λ n. 1))
        ∙ sym (alike-decides limit (size (term_of tables fs s x)) (weight_by m tables s x (λ n. 1))
        (subst (λ k. Alike k (size (term_of tables fs s x)) (weight_by m tables s x (λ n. 1))) bound (size-alike templates are s x)))

    heavy-is : (s : Scope) (x : Expr) → heavy_fault most m tables s x ≡ large_fault limit tables fs s x
    heavy-is s x = ap (λ b. told b (part tables s x).at Large) (large-test s x)

    heavy-body : (h : Heads) (body : Option Body) → heavy_body most m tables (synonyms ast) h body ≡ large_body limit ast h body
    heavy-body h None = refl
    heavy-body h (Some body) =
        let s = body_scope (synonyms ast) h body in
        sym (flat-flat (heavy_fault most m tables s) exprs_of body.statements)
        ∙ ap (λ (f : Expr → List TypeFault). flat_map f (flat_map exprs_of body.statements)) (λ j x. heavy-is s x j)

    heavy-decl : (d : Decl) → heavy_decl most m tables (synonyms ast) d ≡ large_decl limit ast d
    heavy-decl (decls.Synonym x) = refl
    heavy-decl (decls.Constants x) = refl
    heavy-decl (decls.Function x) = refl
    heavy-decl (decls.Axiom a) = heavy-is axiom_scope a.condition
    heavy-decl (decls.Variables x) = refl
    heavy-decl (decls.Procedure p) = heavy-body p.heads p.body
    heavy-decl (decls.Implementation i) = heavy-body i.heads (Some i.body)

    -- the faults by the templates are those by the terms
    pub heavy-all-decls : flat_map (heavy_decl most m tables (synonyms ast)) ast.decls ≡ large_faults limit ast
    heavy-all-decls = ap (λ (f : Decl → List TypeFault). flat_map f ast.decls) (λ j d. heavy-decl d j)

-- one template more takes its place
pub tally-step : (most : ℕ) (ast : Ast) → heads_faults ast ≡ [] → commands_faults ast ≡ [] → circle_faults ast ≡ [] → (order : List ℕ) → IsOrder (use_graph (functions ast)) order
    → (h n : ℕ) (ts : Tables) (found found1 : List (Bor Function)) (templates templates1 : List Tally) (tally : Tally)
    → ts ≡ tables_of ast → found1 ≡ found → map (λ f. f.now) found ≡ functions ast → templates1 ≡ templates → h < length order → n ≡ get_or order h 0
    → AreCounted most ast (take h order) templates
    → CountsAt most ts templates1 (map (λ f. f.now) found1) n tally
    → AreCounted most ast (take (h + 1) order) (set templates n tally)
tally-step most ast heads commands circles order is h n ts found found1 templates templates1 tally known same names slice less node are counts =
    let fs = functions ast in
    let sig = signature_of (synonyms ast) in
    let g = element-at fs n (node-within fs order is h n less node) in
    let there : slice_get (map (λ f. f.now) found1) n ≡ Some g.0 = ap (λ (v : List (Bor Function)). slice_get (map (λ f. f.now) v) n) same ∙ ap (λ v. slice_get v n) names ∙ g.1 in
    let signed : slice_get ts.functions n ≡ Some (sig g.0) = ap (λ (t : Tables). slice_get t.functions n) known ∙ slice_get-map sig fs n ∙ ap (option_map sig) g.1 in
    counted-more most ast heads commands circles order is h templates n g.0 tally less node are g.1
    (subst (λ (t : Tables). CountsAs most (body_weight (weight_by (templates_of t templates) t (function_scope (sig g.0))) g.0.body) tally) known
    (subst (λ (k : List Tally). CountsAs most (body_weight (weight_by (templates_of ts k) ts (function_scope (sig g.0))) g.0.body) tally) slice (counts g.0 (sig g.0) there signed)))

-- the first fault by the templates is that by the terms
pub sizes-ok : {E : Type 0} (r : Result (Option TypeFault) E) (limit most : ℕ) (ast : Ast) → heads_faults ast ≡ [] → commands_faults ast ≡ [] → circle_faults ast ≡ []
    → (templates templates1 : List Tally) (ts : Tables) (types : List Synonym) (ds : List Decl)
    → most ≡ suc limit → AreTemplates most ast templates → templates1 ≡ templates → ts ≡ tables_of ast → types ≡ synonyms ast → ds ≡ ast.decls
    → IfOk r (λ f. f ≡ first (flat_map (heavy_decl most (templates_of ts templates1) ts types) ds)) → IfOk r (λ f. f ≡ first (large_faults limit ast))
sizes-ok (Err e) limit most ast heads commands circles templates templates1 ts types ds bound are slice known written all h = tt
sizes-ok (Ok f) limit most ast heads commands circles templates templates1 ts types ds bound are slice known written all h =
    h ∙ ap (λ k. first (flat_map (heavy_decl most (templates_of ts k) ts types) ds)) slice
    ∙ ap (λ (t : Tables). first (flat_map (heavy_decl most (templates_of t templates) t types) ds)) known
    ∙ ap (λ (k : List Synonym). first (flat_map (heavy_decl most (templates_of (tables_of ast) templates) (tables_of ast) k) ds)) written
    ∙ ap (λ (v : List Decl). first (flat_map (heavy_decl most (templates_of (tables_of ast) templates) (tables_of ast) (synonyms ast)) v)) all
    ∙ ap first (heavy-all-decls most ast heads commands circles limit bound templates are)
