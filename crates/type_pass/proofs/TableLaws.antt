-- The parts of tables, piece by piece.
use Rattle.std.proofs.Common.{◌≡◌, ℕ, suc, zero, Bool, true, false, List, [], ◌∷◌, ◌++◌, length, map, Option, None, Some, Result, Ok, Err, is_some, replicate, refl, sym, ◌∙◌, ap, append_assoc, ◌≤◌, arith, Bor}
use Rattle.std.proofs.lemmas.List.{map-append}
use Rattle.std.proofs.lemmas.List.Concat.{flat_map-append}
use Rattle.std.specs.Prelude.{codes, min, flat_map, position, ◌||◌, if◌then◌else◌, option_map}
use Rattle.std.specs.List.{list_any}
use Rattle.std.specs.Option.{option_or, option_and_then}
use Rattle.std.specs.Result.{IfOk}
use Rattle.std.specs.Str.{bytes_eq}
use Rattle.bpl_ast.specs.declared.decl.Ast.{Ast}
use Rattle.bpl_ast.specs.declared.decl.Constants.{Constants}
use Rattle.bpl_ast.specs.declared.decl.Decl.{Decl}
use Rattle.bpl_ast.specs.declared.decl.Group.{Group}
use Rattle.bpl_ast.specs.declared.decl.Implementation.{Implementation}
use Rattle.bpl_ast.specs.declared.decl.ParameterGroup.{ParameterGroup}
use Rattle.bpl_ast.specs.declared.decl.Procedure.{Procedure}
use Rattle.bpl_ast.specs.declared.decl.Synonym.{Synonym}
use Rattle.bpl_ast.specs.declared.decl.Variables.{Variables}
use Rattle.bpl_ast.specs.declared.name.Name.{Name}
use Rattle.bpl_ast.specs.declared.sort.Sort.{Sort as Written}
use Rattle.std.specs.Str.Parse.{digits_value}
use Rattle.hy_text.specs.Number.{are_digits}
use Rattle.hy_val.specs.declared.operator.UnOp.{UnOp}
use Rattle.hy_val.specs.declared.sort.Sort.{Sort}
use Rattle.type_pass.specs.declared.tables.Builtin.{Builtin}
use Rattle.type_pass.specs.declared.tables.Builtin.TheVariants.{Unary}
use Rattle.type_pass.specs.declared.tables.Heading.{Heading}
use Rattle.type_pass.specs.declared.tables.Meaning.TheVariants.{Nothing}
use Rattle.type_pass.specs.declared.tables.Named.{Named}
use Rattle.type_pass.specs.Amounts.{amount, amount_behind}
use Rattle.type_pass.specs.Declarations.{declared, in_group, in_variables, in_parameters, in_constants, constants_of, variables_of, procedure_of, constants, globals, procedures, synonyms, implementations}
use Rattle.type_pass.specs.Meanings.{meaning_of_strings, listed, unary_names, word_names, test_names, by_digits, extension, behind, before}
use Rattle.type_pass.specs.Memos.{number_among}
use Rattle.type_pass.specs.Scopes.{named_of, sort_in, heading_of, is_implemented}
use Rattle.type_pass.specs.Sorts.{sort_of}
use Rattle.type_pass.specs.Tabled.{named_as, heading_with}
use Rattle.type_pass.proofs.NumberLaws.{position-place, position-map, place}
use Rattle.type_pass.proofs.SpaceLaws.{nil-append}

pub pieces : {X Y Z W : Type 0} (h : Z → W) (f : Y → List Z) (g : X → List Y) (xs : List X) → map h (flat_map f (flat_map g xs)) ≡ flat_map (λ x. map h (flat_map f (g x))) xs
pieces h f g [] = refl
pieces h f g (x ∷ xs) =
    ap (map h) (flat_map-append f (g x) (flat_map g xs)) ∙ map-append h (flat_map f (g x)) (flat_map f (flat_map g xs))
    ∙ ap (λ ys. map h (flat_map f (g x)) ++ ys) (pieces h f g xs)

abbrev pub group_piece : List Synonym → Group → List Named
group_piece types g = map (named_as (sort_of types g.sort)) g.names

abbrev pub constant_piece : List Synonym → Decl → List Named
constant_piece types d = map (named_of types) (flat_map in_constants (constants_of d))

abbrev pub global_piece : List Synonym → Decl → List Named
global_piece types d = map (named_of types) (flat_map in_variables (variables_of d))

abbrev pub sort_piece : List Synonym → ParameterGroup → List Sort
sort_piece types g = replicate (length g.names) (sort_of types g.sort)

names-named : (types : List Synonym) (s : Written) (ns : List Name) → map (named_of types) (map (declared s) ns) ≡ map (named_as (sort_of types s)) ns
names-named types s [] = refl
names-named types s (n ∷ ns) = ap (λ ms. named_as (sort_of types s) n ∷ ms) (names-named types s ns)

names-sorts : (types : List Synonym) (s : Written) (ns : List Name) → map (sort_in types) (map (declared s) ns) ≡ replicate (length ns) (sort_of types s)
names-sorts types s [] = refl
names-sorts types s (n ∷ ns) = ap (λ ms. sort_of types s ∷ ms) (names-sorts types s ns)

pub groups-named : (types : List Synonym) (gs : List Group) → map (named_of types) (flat_map in_group gs) ≡ flat_map (group_piece types) gs
groups-named types [] = refl
groups-named types (g ∷ gs) =
    map-append (named_of types) (in_group g) (flat_map in_group gs) ∙ ap (λ ns. ns ++ map (named_of types) (flat_map in_group gs)) (names-named types g.sort g.names)
    ∙ ap (λ ns. group_piece types g ++ ns) (groups-named types gs)

pub parameters-sorts : (types : List Synonym) (gs : List ParameterGroup) → map (sort_in types) (flat_map in_parameters gs) ≡ flat_map (sort_piece types) gs
parameters-sorts types [] = refl
parameters-sorts types (g ∷ gs) =
    map-append (sort_in types) (in_parameters g) (flat_map in_parameters gs) ∙ ap (λ ns. ns ++ map (sort_in types) (flat_map in_parameters gs)) (names-sorts types g.sort g.names)
    ∙ ap (λ ns. sort_piece types g ++ ns) (parameters-sorts types gs)

pub constants-named : (types : List Synonym) (c : Constants) → map (named_of types) (in_constants c ++ []) ≡ map (named_as (sort_of types c.sort)) c.names
constants-named types c = ap (map (named_of types)) (nil-append (in_constants c)) ∙ names-named types c.sort c.names

pub variables-named : (types : List Synonym) (v : Variables) → map (named_of types) (in_variables v ++ []) ≡ map (named_of types) (flat_map in_group v.groups)
variables-named types v = ap (map (named_of types)) (nil-append (in_variables v))

pub all-constants : (types : List Synonym) (ast : Ast) → flat_map (constant_piece types) ast.decls ≡ map (named_of types) (constants ast)
all-constants types ast = sym (pieces (named_of types) in_constants constants_of ast.decls)

pub all-globals : (types : List Synonym) (ast : Ast) → flat_map (global_piece types) ast.decls ≡ map (named_of types) (globals ast)
all-globals types ast = sym (pieces (named_of types) in_variables variables_of ast.decls)

-- ---- procedures

place-any : {A : Type 0} (p : A → Bool) (xs : List A) → is_some (place p xs) ≡ list_any p xs
place-any p [] = refl
place-any p (x ∷ xs) = by (p x) (place p xs) (place-any p xs)
  where
    by : (b : Bool) (o : Option ℕ) → is_some o ≡ list_any p xs → is_some (if b then Some 0 else option_map suc o) ≡ (b || list_any p xs)
    by true o h = refl
    by false None h = h
    by false (Some k) h = h

pub position-any : {A : Type 0} (p : A → Bool) (xs : List A) → is_some (position p xs) ≡ list_any p xs
position-any p xs = ap is_some (position-place p xs) ∙ place-any p xs

pub implemented-is : (ast : Ast) (text : List ℕ) → is_some (number_among (map (λ i. i.name.text) (implementations ast)) text) ≡ is_implemented ast text
implemented-is ast text = ap is_some (position-map (bytes_eq text) (λ (i : Implementation). i.name.text) (implementations ast)) ∙ position-any (λ (i : Implementation). bytes_eq text i.name.text) (implementations ast)

pub heading-is : (ast : Ast) (types : List Synonym) (names : List (List ℕ)) → types ≡ synonyms ast → names ≡ map (λ i. i.name.text) (implementations ast) → (p : Procedure) → heading_with types names p ≡ heading_of ast p
heading-is ast types names t n p =
    ap (λ ts. heading_with ts names p) t ∙ ap (λ ns. heading_with (synonyms ast) ns p) n
    ∙ ap (λ b. let h = heading_of ast p in record h { has_body = is_some p.body || b }) (implemented-is ast p.name.text)

map-same : {A B : Type 0} (f g : A → B) → ((x : A) → f x ≡ g x) → (xs : List A) → map f xs ≡ map g xs
map-same f g h [] = refl
map-same f g h (x ∷ xs) = ap (λ y. y ∷ map f xs) (h x) ∙ ap (λ ys. g x ∷ ys) (map-same f g h xs)

pub headings-are : (ast : Ast) (types : List Synonym) (names : List (List ℕ)) → types ≡ synonyms ast → names ≡ map (λ i. i.name.text) (implementations ast) → (ps : List Procedure)
    → map (heading_with types names) ps ≡ map (heading_of ast) ps
headings-are ast types names t n ps = map-same (heading_with types names) (heading_of ast) (heading-is ast types names t n) ps

-- ---- operators

pub listed-append : (xs ys : List (List ℕ × Builtin)) (text : List ℕ) → listed (xs ++ ys) text ≡ option_or (listed xs text) (listed ys text)
listed-append [] ys text = refl
listed-append (x ∷ xs) ys text = by (bytes_eq text x.0) (listed-append xs ys text)
  where
    by : (b : Bool) → listed (xs ++ ys) text ≡ option_or (listed xs text) (listed ys text) → (if b then Some x.1 else listed (xs ++ ys) text) ≡ option_or (if b then Some x.1 else listed xs text) (listed ys text)
    by true h = refl
    by false h = h

abbrev pub extended : (ℕ → UnOp) → Option ℕ → Option Builtin
extended op None = None
extended op (Some k) = Some (Unary (op k))

digits-amount : (op : ℕ → UnOp) (o : Option (List ℕ)) → option_and_then (by_digits op) o ≡ extended op (option_and_then amount o)
digits-amount op None = refl
digits-amount op (Some ds) = by (are_digits ds)
  where
    by : (b : Bool) → (if b then Some (Unary (op (min (digits_value 10 ds) 64))) else None) ≡ extended op (if b then Some (min (digits_value 10 ds) 64) else None)
    by true = refl
    by false = refl

or-extended : (op : ℕ → UnOp) (o p : Option ℕ) → option_or (extended op o) (extended op p) ≡ extended op (option_or o p)
or-extended op None p = refl
or-extended op (Some k) p = refl

-- an extension by the number that stands behind its name
pub extension-is : (name : List ℕ) (op : ℕ → UnOp) (text : List ℕ) → extension name op text ≡ extended op (amount_behind (name ++ codes " ") (codes "(_ " ++ name ++ codes " ") text)
extension-is name op text =
    ap (λ o. option_or o (option_and_then (by_digits op) (option_and_then (before (codes ")")) (behind (codes "(_ " ++ name ++ codes " ") text)))) (digits-amount op (behind (name ++ codes " ") text))
    ∙ ap (option_or (extended op (option_and_then amount (behind (name ++ codes " ") text)))) (digits-amount op (option_and_then (before (codes ")")) (behind (codes "(_ " ++ name ++ codes " ") text)))
    ∙ or-extended op (option_and_then amount (behind (name ++ codes " ") text)) (option_and_then amount (option_and_then (before (codes ")")) (behind (codes "(_ " ++ name ++ codes " ") text)))

pub extension-by : (name : List ℕ) (op : ℕ → UnOp) (text front bracketed : List ℕ) (r : Option ℕ) → front ≡ name ++ codes " " → bracketed ≡ codes "(_ " ++ name ++ codes " " → r ≡ amount_behind front bracketed text
    → extension name op text ≡ extended op r
extension-by name op text front bracketed r f b h =
    extension-is name op text ∙ sym (ap (extended op) (h ∙ ap (λ v. amount_behind v bracketed text) f ∙ ap (λ v. amount_behind (name ++ codes " ") v text) b))

-- an operator whose name is no unary one's
pub named-word : (text : List ℕ) (w : Builtin) → listed unary_names text ≡ None → listed word_names text ≡ Some w → listed (unary_names ++ word_names ++ test_names) text ≡ Some w
named-word text w none found =
    listed-append (unary_names ++ word_names) test_names text
    ∙ ap (λ o. option_or o (listed test_names text)) (listed-append unary_names word_names text ∙ ap (λ o. option_or o (listed word_names text)) none ∙ found)

abbrev pub procedure_piece : List Synonym → List (List ℕ) → Decl → List Heading
procedure_piece types implemented d = map (heading_with types implemented) (procedure_of d)

pub map-flat : {X Y Z : Type 0} (h : Y → Z) (g : X → List Y) (xs : List X) → map h (flat_map g xs) ≡ flat_map (λ x. map h (g x)) xs
map-flat h g [] = refl
map-flat h g (x ∷ xs) = map-append h (g x) (flat_map g xs) ∙ ap (λ ys. map h (g x) ++ ys) (map-flat h g xs)

pub all-procedures : (types : List Synonym) (names : List (List ℕ)) (ast : Ast) → flat_map (procedure_piece types names) ast.decls ≡ map (heading_with types names) (procedures ast)
all-procedures types names ast = sym (map-flat (heading_with types names) procedure_of ast.decls)

pub headings-ok : {E : Type 0} (r : Result (List Heading) E) (ast : Ast) (types : List Synonym) (names : List (List ℕ)) → types ≡ synonyms ast → names ≡ map (λ i. i.name.text) (implementations ast)
    → IfOk r (λ hs. hs ≡ map (heading_with types names) (procedures ast)) → IfOk r (λ hs. hs ≡ map (heading_of ast) (procedures ast))
headings-ok (Err e) ast types names t n h = tt
headings-ok (Ok hs) ast types names t n h = h ∙ headings-are ast types names t n (procedures ast)

-- two strings or more mean nothing
pub two-strings : (ss : List (Bor (List ℕ))) → 2 ≤ length ss → meaning_of_strings (map (λ t. t.now) ss) ≡ Nothing
two-strings [] h = absurd (omega arith)
two-strings (s ∷ []) h = absurd (omega arith)
two-strings (s ∷ t ∷ ss) h = refl

pub ruleset table_laws = (groups-named, parameters-sorts, constants-named, variables-named, all-constants, all-globals, headings-are, append_assoc, nil-append)

pub ruleset meaning_laws = (listed-append, extension-is)
