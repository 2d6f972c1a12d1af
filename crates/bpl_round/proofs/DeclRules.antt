-- Declarations and programs: what was read is printed so that it reads again as a tree alike.
use Rattle.std.proofs.Common.{◌≡◌, ℕ, Bool, true, false, List, [], ◌∷◌, ◌++◌, map, Option, None, Some, inl, inr, refl, sym, ap, subst, ◌∙◌, codes, append_assoc}
use Rattle.std.specs.Prelude.{option_map}
use Rattle.std.specs.List.{flat_map, join_by}
use Rattle.std.proofs.lemmas.List.{append-nil}
use Rattle.bpl_ast.specs.Alike.{bare_name, bare_sort, bare_expr, bare_group, bare_variables, bare_parameters, bare_heads, bare_modifies, bare_body, bare_argument, bare_result, bare_decl, bare}
use Rattle.bpl_ast.specs.declared.decl.Ast.{Ast}
use Rattle.bpl_ast.specs.declared.decl.Body.{Body}
use Rattle.bpl_ast.specs.declared.decl.Decl.{Decl}
use Rattle.bpl_ast.specs.declared.decl.Decl.TheVariants as decls
use Rattle.bpl_ast.specs.declared.decl.FunctionArgument.{FunctionArgument}
use Rattle.bpl_ast.specs.declared.decl.FunctionResult.{FunctionResult}
use Rattle.bpl_ast.specs.declared.decl.FunctionResult.TheVariants as results
use Rattle.bpl_ast.specs.declared.decl.Group.{Group}
use Rattle.bpl_ast.specs.declared.decl.Heads.{Heads}
use Rattle.bpl_ast.specs.declared.decl.Modifies.{Modifies}
use Rattle.bpl_ast.specs.declared.decl.ParameterGroup.{ParameterGroup}
use Rattle.bpl_ast.specs.declared.decl.Variables.{Variables}
use Rattle.bpl_ast.specs.declared.expr.Expr.{Expr}
use Rattle.bpl_ast.specs.declared.name.Attribute.{Attribute}
use Rattle.bpl_ast.specs.declared.name.Name.{Name}
use Rattle.bpl_ast.specs.declared.sort.Sort.{Sort}
use Rattle.bpl_ast.specs.declared.sort.Sort.TheVariants as sorts
use Rattle.bpl_ast.specs.declared.stmt.Stmt.{Stmt}
use Rattle.bpl_tok.specs.declared.token.Terminal.TheVariants as k
use Rattle.bpl_tok.specs.declared.token.Token.{Token}
use Rattle.bpl_parse.specs.declared.place.Place.{Place}
use Rattle.bpl_parse.specs.declared.place.Place.TheVariants as at
use Rattle.bpl_parse.specs.Decls.{synonym_of, synonym, constants_of, constants, named_argument_of, named_argument, unnamed_argument_of, unnamed_argument, argument, function_arguments, function_body, returns_of, returned, plain_of, plain, function_end, function_of, function, axiom_of, axiom_decl, group_of, variable_group, variables_of, variables, globals, parameter_group_of, parameter_group, parameters, outs, groups_of, maybe_outs, heads_of, heads, body_of, body, names_of, modifies_of, modifies, contract, spec, procedure_end, procedure_of, procedure, implementation_of, implementation, decl, ast_of, program}
use Rattle.bpl_parse.specs.Exprs.{expr}
use Rattle.bpl_parse.specs.Reader.{Levels, place_of, name_of}
use Rattle.bpl_parse.specs.Sorts.{unnamed_sort, sort}
use Rattle.bpl_rules.specs.Rules.{first, end, made, maybe}
use Rattle.bpl_show.proofs.Equations.{sort-named}
use Rattle.bpl_show.specs.Decls as show
use Rattle.bpl_show.specs.Exprs as exprs
use Rattle.bpl_show.specs.Names as names
use Rattle.bpl_show.specs.Shown as whole
use Rattle.bpl_show.specs.Stmts as stmts
use Rattle.bpl_show.specs.Tokens as shown
use Rattle.bpl_round.proofs.Again.{Again, stand_none, empty_again, made_again, right_again, made_yields, placed_yields, more_yields, alt_yields}
use Rattle.bpl_round.proofs.Fits.{naked}
use Rattle.bpl_round.proofs.Joined.{texts}
use Rattle.bpl_round.proofs.Known as known
use Rattle.bpl_round.proofs.Old.{name_renders}
use Rattle.bpl_round.proofs.Pairs.{Renders, Like, maybe_texts, flag_texts, one_renders, seq_renders, made_renders, placed_renders, alt_renders, behind_renders, ended_renders, flag_renders, maybe_renders, many_renders, separated_renders}
use Rattle.bpl_round.proofs.SortRules.{ap2, ap3, ap4, ap5, sort_texts, bare-named, names_render, attributes_render, sort_renders, unnamed_sort_renders}
use Rattle.bpl_round.proofs.StmtRules.{attribute_texts, stmts_texts, LevelsAgain, expr_renders, condition_is, condition_renders, naming_is, statements_render}
use Rattle.bpl_round.proofs.Texts.{texts_append, texts_flat, texts_join, texts_3, texts_4, texts_5, texts_6, texts_8}

-- ---- trees without offsets, by their parts

abbrev synonym_with : List Attribute → Name → Sort → Decl
synonym_with xs n x = decls.Synonym (record { at = 0; attributes = xs; name = n; sort = x })

abbrev constants_with : List Attribute → Bool → List Name → Sort → Decl
constants_with xs u ns x = decls.Constants (record { at = 0; attributes = xs; unique = u; names = ns; sort = x })

abbrev argument_with : Option Name → Sort → FunctionArgument
argument_with n x = record { at = 0; name = n; sort = x }

abbrev function_with : List Attribute → Name → List FunctionArgument → FunctionResult → Option Expr → Decl
function_with xs n args r b = decls.Function (record { at = 0; attributes = xs; name = n; arguments = args; output = r; body = b })

abbrev axiom_with : List Attribute → Expr → Decl
axiom_with xs x = decls.Axiom (record { at = 0; attributes = xs; condition = x })

abbrev group_with : List Name → Sort → Group
group_with ns x = record { at = 0; names = ns; sort = x }

abbrev variables_with : List Attribute → List Group → Variables
variables_with xs gs = record { at = 0; attributes = xs; groups = gs }

abbrev parameters_with : List Attribute → List Name → Sort → ParameterGroup
parameters_with xs ns x = record { at = 0; attributes = xs; names = ns; sort = x }

abbrev heads_with : List ParameterGroup → List ParameterGroup → Heads
heads_with a b = record { at = 0; ins = a; outs = b }

abbrev body_with : List Variables → List Stmt → Body
body_with a b = record { at = 0; locals = a; statements = b }

abbrev modifies_with : List Attribute → List Name → Modifies
modifies_with xs ns = record { at = 0; attributes = xs; names = ns }

abbrev procedure_with : List Attribute → Name → Heads → List Modifies → Option Body → Decl
procedure_with xs n h s b = decls.Procedure (record { at = 0; attributes = xs; name = n; heads = h; specs = s; body = b })

abbrev implementation_with : List Attribute → Name → Heads → Body → Decl
implementation_with xs n h b = decls.Implementation (record { at = 0; attributes = xs; name = n; heads = h; body = b })

-- ---- what is printed of parts of declarations

abbrev names_texts : List Name → List (List ℕ)
names_texts ns = texts (names.names ns)

abbrev typed_texts : List Name → Sort → List (List ℕ)
typed_texts ns x = names_texts ns ++ codes ":" ∷ sort_texts x

typed_is : (ns : List Name) (x : Sort) → texts (show.typed ns x) ≡ typed_texts ns x
typed_is ns x = texts_3 (names.names ns) (shown.word (codes ":")) (names.sort x)

maybe_unique_is : (u : Bool) → texts (show.maybe_unique u) ≡ flag_texts (codes "unique") u
maybe_unique_is true = refl
maybe_unique_is false = refl

constants_are : (xs : List Attribute) (u : Bool) (ns : List Name) (x : Sort) (place : ℕ)
    → texts (show.constants (record { at = place; attributes = xs; unique = u; names = ns; sort = x })) ≡ codes "const" ∷ (attribute_texts xs ++ (flag_texts (codes "unique") u ++ (names_texts ns ++ codes ":" ∷ (sort_texts x ++ codes ";" ∷ []))))
constants_are xs u ns x place =
    texts_5 (shown.word (codes "const")) (names.attributes xs) (show.maybe_unique u) (show.typed ns x) (shown.last (codes ";"))
    ∙ ap2 (λ a b. codes "const" ∷ (attribute_texts xs ++ (a ++ (b ++ codes ";" ∷ [])))) (maybe_unique_is u) (typed_is ns x)
    ∙ ap (λ ws. codes "const" ∷ (attribute_texts xs ++ (flag_texts (codes "unique") u ++ ws))) (append_assoc (names_texts ns) (codes ":" ∷ sort_texts x) (codes ";" ∷ []))

abbrev argument_texts : FunctionArgument → List (List ℕ)
argument_texts a = texts (show.argument a)

argument_is : (n : Name) (o : Option Sort) → argument_texts (named_argument_of (n, o)) ≡ n.text ∷ maybe_texts (λ x. codes ":" ∷ sort_texts x) o
argument_is n None = ap texts (sort-named n)
argument_is n (Some x) = refl

argument_good : (n m : Name) (o p : Option Sort) → bare_name m ≡ bare_name n → Like (option_map bare_sort) o p → bare_argument (named_argument_of (m, p)) ≡ bare_argument (named_argument_of (n, o))
argument_good n m None None h g = ap (argument_with None) (bare-named m ∙ ap sorts.Named h ∙ sym (bare-named n))
argument_good n m None (Some y) h g = absurd cc
argument_good n m (Some x) None h g = absurd cc
argument_good n m (Some x) (Some y) h g = let same : bare_sort y ≡ bare_sort x = cc in ap2 argument_with (ap Some h) same

abbrev body_texts : Option Expr → List (List ℕ)
body_texts o = texts (show.function_end o)

function_is : (place : ℕ) (xs : List Attribute) (n : Name) (args : List FunctionArgument) (r : FunctionResult) (b : Option Expr)
    → texts (show.function (record { at = place; attributes = xs; name = n; arguments = args; output = r; body = b })) ≡ codes "function" ∷ (attribute_texts xs ++ n.text ∷ codes "(" ∷ ((join_by argument_texts (codes "," ∷ []) args ++ codes ")" ∷ []) ++ (texts (show.output r) ++ body_texts b)))
function_is place xs n args r b =
    texts_8 (shown.word (codes "function")) (names.attributes xs) (names.name n) (shown.word (codes "(")) (names.listed show.argument args) (shown.word (codes ")")) (show.output r) (show.function_end b)
    ∙ ap (λ ws. codes "function" ∷ (attribute_texts xs ++ n.text ∷ codes "(" ∷ (ws ++ codes ")" ∷ (texts (show.output r) ++ body_texts b)))) (texts_join show.argument (codes ",") args)
    ∙ ap (λ ws. codes "function" ∷ (attribute_texts xs ++ n.text ∷ codes "(" ∷ ws)) (sym (append_assoc (join_by argument_texts (codes "," ∷ []) args) (codes ")" ∷ []) (texts (show.output r) ++ body_texts b)))

abbrev parameter_texts : ParameterGroup → List (List ℕ)
parameter_texts g = texts (show.parameter_group g)

abbrev parameters_texts : List ParameterGroup → List (List ℕ)
parameters_texts gs = join_by parameter_texts (codes "," ∷ []) gs ++ codes ")" ∷ []

abbrev returns_texts : List ParameterGroup → List (List ℕ)
returns_texts gs = texts (show.maybe_returns gs)

returns_are : (g : ParameterGroup) (gs : List ParameterGroup) → returns_texts (g ∷ gs) ≡ codes "returns" ∷ codes "(" ∷ parameters_texts (g ∷ gs)
returns_are g gs = ap (λ ws. codes "returns" ∷ codes "(" ∷ ws) (texts_append (names.listed show.parameter_group (g ∷ gs)) (shown.word (codes ")")) ∙ ap (λ ws. ws ++ codes ")" ∷ []) (texts_join show.parameter_group (codes ",") (g ∷ gs)))

heads_are : (place : ℕ) (a b : List ParameterGroup) → texts (show.heads (record { at = place; ins = a; outs = b })) ≡ codes "(" ∷ (parameters_texts a ++ returns_texts b)
heads_are place a b =
    texts_4 (shown.word (codes "(")) (names.listed show.parameter_group a) (shown.word (codes ")")) (show.maybe_returns b)
    ∙ ap (λ ws. codes "(" ∷ (ws ++ codes ")" ∷ returns_texts b)) (texts_join show.parameter_group (codes ",") a)
    ∙ ap (λ ws. codes "(" ∷ ws) (sym (append_assoc (join_by parameter_texts (codes "," ∷ []) a) (codes ")" ∷ []) (returns_texts b)))

names_are : (o : Option (List Name)) → names_texts (names_of o) ≡ maybe_texts names_texts o
names_are None = refl
names_are (Some ns) = refl

names_good : (o p : Option (List Name)) → Like (option_map (map bare_name)) o p → map bare_name (names_of p) ≡ map bare_name (names_of o)
names_good None None h = refl
names_good None (Some b) h = absurd cc
names_good (Some a) None h = absurd cc
names_good (Some a) (Some b) h = cc

groups_good : (o p : Option (List ParameterGroup)) → Like (option_map (map bare_parameters)) o p → map bare_parameters (groups_of p) ≡ map bare_parameters (groups_of o)
groups_good None None h = refl
groups_good None (Some b) h = absurd cc
groups_good (Some a) None h = absurd cc
groups_good (Some a) (Some b) h = cc

bodiless_is : (specs : List Modifies) → texts (show.procedure_end specs None) ≡ codes ";" ∷ flat_map (λ m. texts (show.modifies m)) specs
bodiless_is [] = refl
bodiless_is (m ∷ ms) = ap (λ ws. codes ";" ∷ ws) (texts_flat show.modifies (m ∷ ms))

module _ (s s' : List ℕ) (l l' : Levels) (L : LevelsAgain s s' l l') where
  sort_render : Renders s s' (sort s l).Spells (sort s' l').Spells sort_texts (Like bare_sort)
  sort_render = sort_renders s s' l l' L.sorts

  expr_render : Renders s s' (expr s l).Spells (expr s' l').Spells naked (Like bare_expr)
  expr_render = expr_renders s s' l l' L

  -- ---- types, constants and functions

  synonym_renders : Renders s s' (synonym s l).Spells (synonym s' l').Spells (λ d. texts (show.decl d)) (Like bare_decl)
  unfolding synonym
  synonym_renders = made_renders s s' synonym_of (λ d. texts (show.decl d)) (Like bare_decl)
      (seq_renders s s' (one_renders s s' at.Other k.TypeWord (codes "type") known.type_word) (seq_renders s s' (attributes_render s s') (seq_renders s s' (name_renders s s' at.Other) (behind_renders s s' at.SynonymSign k.EqualsSign (codes "=") known.equals_sign (ended_renders s s' at.AfterSort k.Semicolon (codes ";") sort_render known.semicolon)))))
      (λ x. texts_6 (shown.word (codes "type")) (names.attributes x.1.0) (names.name x.1.1.0) (shown.word (codes "=")) (names.sort x.1.1.1) (shown.last (codes ";")))
      (λ x y h. ap3 synonym_with h.1.0 h.1.1.0 h.1.1.1)

  constants_render : Renders s s' (constants s l).Spells (constants s' l').Spells (λ d. texts (show.decl d)) (Like bare_decl)
  unfolding constants
  constants_render = made_renders s s' constants_of (λ d. texts (show.decl d)) (Like bare_decl)
      (seq_renders s s' (one_renders s s' at.Other k.Const (codes "const") known.const_word) (seq_renders s s' (attributes_render s s') (seq_renders s s' (flag_renders s s' at.Other k.Unique (codes "unique") known.unique_word) (seq_renders s s' (names_render s s') (behind_renders s s' at.Other k.Colon (codes ":") known.colon (ended_renders s s' at.AfterConstantSort k.Semicolon (codes ";") sort_render known.semicolon))))))
      (λ x. constants_are x.1.0 x.1.1.0 x.1.1.1.0 x.1.1.1.1 x.0.at)
      (λ x y h. ap4 constants_with h.1.0 h.1.1.0 h.1.1.1.0 h.1.1.1.1)

  named_argument_renders : Renders s s' (named_argument s l).Spells (argument s' l').Spells argument_texts (Like bare_argument)
  unfolding argument
  named_argument_renders =
      let r : Renders s s' (named_argument s l).Spells (named_argument s' l').Spells argument_texts (Like bare_argument) =
      made_renders s s' named_argument_of argument_texts (Like bare_argument) (seq_renders s s' (name_renders s s' at.Sort) (maybe_renders s s' bare_sort (behind_renders s s' at.AfterSort k.Colon (codes ":") known.colon sort_render)))
      (λ x. argument_is x.0 x.1) (λ x y h. argument_good x.0 y.0 x.1 y.1 h.0 h.1) in
      record { each = more_yields s (named_argument s l).Spells _ _ r.each (λ x c. record { spelt = c.spelt; reads = λ ts stand. let (y, spells, good) = c.reads ts stand in (y, inl spells, good) }) }

  -- a sort is an argument without a name
  argument_of_sort : (place : ℕ) (x : Sort) → Again s' (sort s' l').Spells (sort_texts x) (Like bare_sort x) → Again s' (argument s' l').Spells (sort_texts x) (Like bare_argument (record { at = place; name = None; sort = x }))
  unfolding sort argument
  argument_of_sort place x c = record {
    spelt = c.spelt;
    reads = λ ts stand.
        let (y, spells, good) = c.reads ts stand in
        elim spells [
          | inl n ↦ (
            named_argument_of (name_of s' n.inner, None),
            inl (record {
              inner = (name_of s' n.inner, None);
              spells = record { front = ts; back = []; parts = sym (append-nil ts); first = record { inner = n.inner; spells = n.spells; value = refl }; second = inr (record { none = refl; value = refl }) };
              value = refl;
            }),
            ap (argument_with None) (ap bare_sort (sym n.value) ∙ good),
          )
          | inr u ↦ (
            unnamed_argument_of (first ts) y,
            inr (record { inner = y; spells = u; value = refl }),
            ap (argument_with None) good,
          )
        ];
  }

  unnamed_argument_renders : Renders s s' (unnamed_argument s l).Spells (argument s' l').Spells argument_texts (Like bare_argument)
  unnamed_argument_renders = record {
    each = placed_yields s unnamed_argument_of (unnamed_sort s l) _ _ (unnamed_sort_renders s s' l l' L.sorts).each (λ t x c. argument_of_sort (place_of t) x c);
  }

  argument_renders : Renders s s' (argument s l).Spells (argument s' l').Spells argument_texts (Like bare_argument)
  unfolding argument
  argument_renders = record { each = alt_yields s (named_argument s l).Spells (unnamed_argument s l).Spells _ named_argument_renders.each unnamed_argument_renders.each }

  function_arguments_render : Renders s s' (function_arguments s l).Spells (function_arguments s' l').Spells (λ xs. join_by argument_texts (codes "," ∷ []) xs ++ codes ")" ∷ []) (Like (map bare_argument))
  function_arguments_render =
      alt_renders s s'
      (made_renders s s' (λ t. []) (λ xs. join_by argument_texts (codes "," ∷ []) xs ++ codes ")" ∷ []) (Like (map bare_argument)) (one_renders s s' at.Sort k.RightParen (codes ")") known.right_paren) (λ x. refl) (λ x y h. refl))
      (ended_renders s s' at.AfterSort k.RightParen (codes ")") (separated_renders s s' at.Other k.Comma (codes ",") bare_argument known.comma argument_renders) known.right_paren)

  function_body_renders : (place : Place) → Renders s s' (function_body s l place).Spells (function_body s' l' place).Spells body_texts (Like (option_map bare_expr))
  function_body_renders place =
      alt_renders s s'
      (made_renders s s' (λ t. None) body_texts (Like (option_map bare_expr)) (one_renders s s' place k.Semicolon (codes ";") known.semicolon) (λ x. refl) (λ x y h. refl))
      (made_renders s s' Some body_texts (Like (option_map bare_expr)) (behind_renders s s' place k.LeftBrace (codes "{") known.left_brace (ended_renders s s' at.AfterOperand k.RightBrace (codes "}") expr_render known.right_brace))
      (λ x. texts_3 (shown.word (codes "{")) (exprs.whole x) (shown.last (codes "}"))) (λ x y h. ap Some h))

  returned_renders : Renders s s' (returned s l).Spells (returned s' l').Spells (λ r. texts (show.output r)) (Like bare_result)
  returned_renders = made_renders s s' returns_of (λ r. texts (show.output r)) (Like bare_result)
      (seq_renders s s' (one_renders s s' at.Other k.Returns (codes "returns") known.returns_word) (behind_renders s s' at.Other k.LeftParen (codes "(") known.left_paren (ended_renders s s' at.AfterSort k.RightParen (codes ")") argument_renders known.right_paren)))
      (λ x. texts_4 (shown.word (codes "returns")) (shown.word (codes "(")) (show.argument x.1) (shown.word (codes ")"))) (λ x y h. ap (results.Returns 0) h.1)

  plain_renders : Renders s s' (plain s l).Spells (plain s' l').Spells (λ r. texts (show.output r)) (Like bare_result)
  plain_renders = made_renders s s' plain_of (λ r. texts (show.output r)) (Like bare_result) (seq_renders s s' (one_renders s s' at.Other k.Colon (codes ":") known.colon) sort_render) (λ x. refl) (λ x y h. ap (results.Plain 0) h.1)

  function_end_renders : Renders s s' (function_end s l).Spells (function_end s' l').Spells (λ x. texts (show.output x.0) ++ body_texts x.1) (λ x y. Like bare_result x.0 y.0 × Like (option_map bare_expr) x.1 y.1)
  function_end_renders = alt_renders s s' (seq_renders s s' returned_renders (function_body_renders at.Other)) (seq_renders s s' plain_renders (function_body_renders at.AfterSort))

  function_renders : Renders s s' (function s l).Spells (function s' l').Spells (λ d. texts (show.decl d)) (Like bare_decl)
  unfolding function
  function_renders = made_renders s s' function_of (λ d. texts (show.decl d)) (Like bare_decl)
      (seq_renders s s' (one_renders s s' at.Other k.Function (codes "function") known.function_word) (seq_renders s s' (attributes_render s s') (seq_renders s s' (name_renders s s' at.Other) (behind_renders s s' at.AfterDeclaredName k.LeftParen (codes "(") known.left_paren (seq_renders s s' function_arguments_render function_end_renders)))))
      (λ x. function_is x.0.at x.1.0 x.1.1.0 x.1.1.1.0 x.1.1.1.1.0 x.1.1.1.1.1)
      (λ x y h. ap5 function_with h.1.0 h.1.1.0 h.1.1.1.0 h.1.1.1.1.0 h.1.1.1.1.1)

  axiom_renders : Renders s s' (axiom_decl s l).Spells (axiom_decl s' l').Spells (λ d. texts (show.decl d)) (Like bare_decl)
  unfolding axiom_decl
  axiom_renders = made_renders s s' axiom_of (λ d. texts (show.decl d)) (Like bare_decl) (seq_renders s s' (one_renders s s' at.Other k.Axiom (codes "axiom") known.axiom_word) (condition_renders s s' l l' L))
      (λ x. condition_is (codes "axiom") x.1.0 x.1.1) (λ x y h. ap2 axiom_with h.1.0 h.1.1)

  -- ---- variables and parameters

  variable_group_renders : Renders s s' (variable_group s l).Spells (variable_group s' l').Spells (λ g. texts (show.group g)) (Like bare_group)
  unfolding variable_group
  variable_group_renders = placed_renders s s' group_of (λ g. texts (show.group g)) (Like bare_group) (seq_renders s s' (names_render s s') (behind_renders s s' at.Other k.Colon (codes ":") known.colon sort_render))
      (λ t x. typed_is x.0 x.1) (λ t u x y h. ap2 group_with h.0 h.1)

  variables_render : Renders s s' (variables s l).Spells (variables s' l').Spells (λ v. texts (show.variables v)) (Like bare_variables)
  unfolding variables
  variables_render = made_renders s s' variables_of (λ v. texts (show.variables v)) (Like bare_variables)
      (seq_renders s s' (one_renders s s' at.Statement k.Var (codes "var") known.var_word) (seq_renders s s' (attributes_render s s') (ended_renders s s' at.AfterSort k.Semicolon (codes ";") (separated_renders s s' at.Other k.Comma (codes ",") bare_group known.comma variable_group_renders) known.semicolon)))
      (λ x. texts_4 (shown.word (codes "var")) (names.attributes x.1.0) (names.listed show.group x.1.1) (shown.last (codes ";")) ∙ ap (λ ws. codes "var" ∷ (attribute_texts x.1.0 ++ (ws ++ codes ";" ∷ []))) (texts_join show.group (codes ",") x.1.1))
      (λ x y h. ap2 variables_with h.1.0 h.1.1)

  globals_render : Renders s s' (globals s l).Spells (globals s' l').Spells (λ d. texts (show.decl d)) (Like bare_decl)
  globals_render = made_renders s s' decls.Variables (λ d. texts (show.decl d)) (Like bare_decl) variables_render (λ x. refl) (λ x y h. ap decls.Variables h)

  parameter_group_renders : Renders s s' (parameter_group s l).Spells (parameter_group s' l').Spells parameter_texts (Like bare_parameters)
  unfolding parameter_group
  parameter_group_renders = placed_renders s s' parameter_group_of parameter_texts (Like bare_parameters) (seq_renders s s' (attributes_render s s') (seq_renders s s' (names_render s s') (behind_renders s s' at.Other k.Colon (codes ":") known.colon sort_render)))
      (λ t x. texts_append (names.attributes x.0) (show.typed x.1.0 x.1.1) ∙ ap (λ ws. attribute_texts x.0 ++ ws) (typed_is x.1.0 x.1.1)) (λ t u x y h. ap3 parameters_with h.0 h.1.0 h.1.1)

  parameters_render : Renders s s' (parameters s l).Spells (parameters s' l').Spells parameters_texts (Like (map bare_parameters))
  parameters_render =
      alt_renders s s'
      (made_renders s s' (λ t. []) parameters_texts (Like (map bare_parameters)) (one_renders s s' at.Other k.RightParen (codes ")") known.right_paren) (λ x. refl) (λ x y h. refl))
      (ended_renders s s' at.AfterSort k.RightParen (codes ")") (separated_renders s s' at.Other k.Comma (codes ",") bare_parameters known.comma parameter_group_renders) known.right_paren)

  outs_render : Renders s s' (outs s l).Spells (outs s' l').Spells (λ gs. codes "returns" ∷ codes "(" ∷ parameters_texts gs) (Like (map bare_parameters))
  outs_render = behind_renders s s' at.Other k.Returns (codes "returns") known.returns_word (behind_renders s s' at.Other k.LeftParen (codes "(") known.left_paren parameters_render)

  -- no outs are printed as nothing
  no_outs : (o : Option (List ParameterGroup)) → groups_of o ≡ [] → Again s' (maybe_outs s' l').Spells [] (Like (map bare_parameters) (groups_of o))
  no_outs o e =
      made_again s' groups_of (maybe (outs s' l')) [] (λ p. p ≡ None) (Like (map bare_parameters) (groups_of o))
      (right_again s' (made Some (outs s' l')).Spells _ [] (λ p. p ≡ None) (empty_again s' None))
      (λ p h. ap (λ q. map bare_parameters (groups_of q)) h ∙ ap (map bare_parameters) (sym e))

  outs_found : (o : Option (List ParameterGroup)) → Again s' (maybe (outs s' l')).Spells (maybe_texts (λ gs. codes "returns" ∷ codes "(" ∷ parameters_texts gs) o) (Like (option_map (map bare_parameters)) o)
      → Again s' (maybe_outs s' l').Spells (returns_texts (groups_of o)) (Like (map bare_parameters) (groups_of o))
  outs_found None c = no_outs None refl
  outs_found (Some []) c = no_outs (Some []) refl
  outs_found (Some (g ∷ gs)) c =
      subst (λ (ws : List (List ℕ)). Again s' (maybe_outs s' l').Spells ws (Like (map bare_parameters) (g ∷ gs))) (sym (returns_are g gs))
      (made_again s' groups_of (maybe (outs s' l')) (codes "returns" ∷ codes "(" ∷ parameters_texts (g ∷ gs)) (Like (option_map (map bare_parameters)) (Some (g ∷ gs))) (Like (map bare_parameters) (g ∷ gs)) c (λ p h. groups_good (Some (g ∷ gs)) p h))

  maybe_outs_render : Renders s s' (maybe_outs s l).Spells (maybe_outs s' l').Spells returns_texts (Like (map bare_parameters))
  maybe_outs_render = record { each = made_yields s groups_of (maybe (outs s l)) _ _ (maybe_renders s s' (map bare_parameters) outs_render).each (λ o c. outs_found o c) }

  heads_render : Renders s s' (heads s l).Spells (heads s' l').Spells (λ h. texts (show.heads h)) (Like bare_heads)
  unfolding heads
  heads_render = made_renders s s' heads_of (λ h. texts (show.heads h)) (Like bare_heads) (seq_renders s s' (one_renders s s' at.AfterDeclaredName k.LeftParen (codes "(") known.left_paren) (seq_renders s s' parameters_render maybe_outs_render))
      (λ x. heads_are x.0.at x.1.0 x.1.1) (λ x y h. ap2 heads_with h.1.0 h.1.1)

  -- ---- procedures

  body_renders : Renders s s' (body s l).Spells (body s' l').Spells (λ b. texts (show.body b)) (Like bare_body)
  unfolding body
  body_renders = made_renders s s' body_of (λ b. texts (show.body b)) (Like bare_body)
      (seq_renders s s' (one_renders s s' at.Other k.LeftBrace (codes "{") known.left_brace) (seq_renders s s' (many_renders s s' bare_variables variables_render) (ended_renders s s' at.Statement k.RightBrace (codes "}") (statements_render s s' l l' L) known.right_brace)))
      (λ x. texts_4 (shown.last (codes "{")) (flat_map show.variables x.1.0) (flat_map stmts.stmt x.1.1) (shown.last (codes "}")) ∙ ap (λ ws. codes "{" ∷ (ws ++ (stmts_texts x.1.1 ++ codes "}" ∷ []))) (texts_flat show.variables x.1.0))
      (λ x y h. ap2 body_with h.1.0 h.1.1)

  modifies_render : Renders s s' (modifies s).Spells (modifies s').Spells (λ m. texts (show.modifies m)) (Like bare_modifies)
  unfolding modifies
  modifies_render = made_renders s s' modifies_of (λ m. texts (show.modifies m)) (Like bare_modifies)
      (seq_renders s s' (one_renders s s' at.Spec k.Modifies (codes "modifies") known.modifies_word) (seq_renders s s' (attributes_render s s') (ended_renders s s' at.Other k.Semicolon (codes ";")
      (made_renders s s' names_of names_texts (Like (map bare_name)) (maybe_renders s s' (map bare_name) (names_render s s')) names_are names_good) known.semicolon)))
      (λ x. naming_is (codes "modifies") x.1.0 x.1.1) (λ x y h. ap2 modifies_with h.1.0 h.1.1)

  spec_renders : Renders s s' (spec s).Spells (spec s').Spells (λ m. texts (show.modifies m)) (Like bare_modifies)
  unfolding spec contract
  spec_renders = record {
    each = record {
      each = λ ts x old spells. elim spells [
        | inl m ↦ (let c = modifies_render.each.each ts x old m in record { spelt = c.spelt; reads = λ us stand. let (y, again, good) = c.reads us stand in (y, inl again, good) })
        | inr none ↦ absurd none
      ];
    };
  }

  abbrev LikeEnd : List Modifies × Option Body → List Modifies × Option Body → Type 0
  LikeEnd x y = Like (map bare_modifies) x.0 y.0 × Like (option_map bare_body) x.1 y.1

  procedure_end_renders : Renders s s' (procedure_end s l).Spells (procedure_end s' l').Spells (λ x. texts (show.procedure_end x.0 x.1)) LikeEnd
  unfolding procedure_end
  procedure_end_renders =
      alt_renders s s'
      (made_renders s s' (λ x. (x, None)) (λ x. texts (show.procedure_end x.0 x.1)) LikeEnd (behind_renders s s' at.Other k.Semicolon (codes ";") known.semicolon (many_renders s s' bare_modifies spec_renders)) bodiless_is (λ x y h. (h, refl)))
      (made_renders s s' (λ x. (x.0, Some x.1)) (λ x. texts (show.procedure_end x.0 x.1)) LikeEnd (seq_renders s s' (many_renders s s' bare_modifies spec_renders) body_renders)
      (λ x. texts_append (flat_map show.modifies x.0) (show.body x.1) ∙ ap (λ ws. ws ++ texts (show.body x.1)) (texts_flat show.modifies x.0)) (λ x y h. (h.0, ap Some h.1)))

  procedure_renders : Renders s s' (procedure s l).Spells (procedure s' l').Spells (λ d. texts (show.decl d)) (Like bare_decl)
  unfolding procedure
  procedure_renders = made_renders s s' procedure_of (λ d. texts (show.decl d)) (Like bare_decl)
      (seq_renders s s' (one_renders s s' at.Other k.Procedure (codes "procedure") known.procedure_word) (seq_renders s s' (attributes_render s s') (seq_renders s s' (name_renders s s' at.Other) (seq_renders s s' heads_render procedure_end_renders))))
      (λ x. texts_5 (shown.word (codes "procedure")) (names.attributes x.1.0) (names.name x.1.1.0) (show.heads x.1.1.1.0) (show.procedure_end x.1.1.1.1.0 x.1.1.1.1.1))
      (λ x y h. ap5 procedure_with h.1.0 h.1.1.0 h.1.1.1.0 h.1.1.1.1.0 h.1.1.1.1.1)

  implementation_renders : Renders s s' (implementation s l).Spells (implementation s' l').Spells (λ d. texts (show.decl d)) (Like bare_decl)
  unfolding implementation
  implementation_renders = made_renders s s' implementation_of (λ d. texts (show.decl d)) (Like bare_decl)
      (seq_renders s s' (one_renders s s' at.Other k.Implementation (codes "implementation") known.implementation_word) (seq_renders s s' (attributes_render s s') (seq_renders s s' (name_renders s s' at.Other) (seq_renders s s' heads_render body_renders))))
      (λ x. texts_5 (shown.word (codes "implementation")) (names.attributes x.1.0) (names.name x.1.1.0) (show.heads x.1.1.1.0) (show.body x.1.1.1.1))
      (λ x y h. ap4 implementation_with h.1.0 h.1.1.0 h.1.1.1.0 h.1.1.1.1)

  -- ---- programs

  decl_renders : Renders s s' (decl s l).Spells (decl s' l').Spells (λ d. texts (show.decl d)) (Like bare_decl)
  unfolding decl
  decl_renders = alt_renders s s' synonym_renders (alt_renders s s' constants_render (alt_renders s s' function_renders (alt_renders s s' axiom_renders (alt_renders s s' globals_render (alt_renders s s' procedure_renders implementation_renders)))))

  end_renders : Renders s s' (end {K = Place} {T = Token} at.Other).Spells (end {K = Place} {T = Token} at.Other).Spells (λ x. []) (λ x y. Unit {0})
  end_renders = record { each = record { each = λ ts x old h. record { spelt = tt; reads = λ us stand. (tt, stand_none s' us stand, tt) } } }

  pub program_renders : Renders s s' (program s l).Spells (program s' l').Spells (λ tree. texts (whole.shown tree)) (Like bare)
  unfolding program whole.shown
  program_renders = made_renders s s' ast_of (λ tree. texts (whole.shown tree)) (Like bare) (seq_renders s s' (many_renders s s' bare_decl decl_renders) end_renders)
      (λ x. texts_flat show.decl x.0 ∙ sym (append-nil (flat_map (λ d. texts (show.decl d)) x.0)))
      (λ x y h. ap (λ (ds : List Decl). let tree : Ast = record { decls = ds } in tree) h.0)
