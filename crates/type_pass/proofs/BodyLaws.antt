-- The names of a body, and the faults of declarations, one after another.
use Rattle.std.proofs.Common.{◌≡◌, ℕ, ◌+◌, ◌<◌, ◌≤◌, List, [], ◌∷◌, ◌++◌, length, map, drop, get_or, Option, Some, None, refl, sym, ◌∙◌, ap, arith, add-zero, ◌⊎◌, inl, inr}
use Rattle.std.proofs.lemmas.List.{drop_all}
use Rattle.std.proofs.lemmas.Option.{slice_get_cases}
use Rattle.std.specs.Prelude.{flat_map, slice_get}
use Rattle.bpl_ast.specs.declared.decl.Ast.{Ast}
use Rattle.bpl_ast.specs.declared.decl.Decl.{Decl}
use Rattle.bpl_ast.specs.declared.decl.Decl.TheVariants as decls
use Rattle.bpl_ast.specs.declared.decl.Function.{Function}
use Rattle.bpl_ast.specs.declared.decl.Synonym.{Synonym}
use Rattle.bpl_ast.specs.declared.name.Name.{Name}
use Rattle.bpl_ast.specs.declared.sort.Sort.{Sort as Written}
use Rattle.type_pass.specs.declared.fault.TypeFault.{TypeFault}
use Rattle.type_pass.specs.declared.tables.Signature.{Signature}
use Rattle.type_pass.specs.declared.tables.Tables.{Tables}
use Rattle.type_pass.specs.Bodies.{signature_faults, decl_faults}
use Rattle.type_pass.specs.Declarations.{declared, function_of, synonyms}
use Rattle.type_pass.specs.Faults.{earlier, first}
use Rattle.type_pass.specs.Passes.{command_faults}
use Rattle.type_pass.specs.Scopes.{named_of, signature_of, tables_of}
use Rattle.type_pass.specs.Sorts.{sort_of}
use Rattle.type_pass.specs.Tabled.{named_as}
use Rattle.type_pass.proofs.OperandLaws.{drop-more}

-- ---- the names of a body

pub names-named : (types : List Synonym) (s : Written) (ns : List Name) → map (named_as (sort_of types s)) ns ≡ map (named_of types) (map (declared s) ns)
names-named types s [] = refl
names-named types s (n ∷ ns) = ap (λ ms. named_as (sort_of types s) n ∷ ms) (names-named types s ns)

-- ---- declarations

-- the signatures of the functions that are still to come
head-cases : {A : Type 0} (xs : List A) (n : ℕ) (y : A) (ys : List A) → drop n xs ≡ y ∷ ys
    → ((x : A) × (n < length xs) × (slice_get xs n ≡ Some x) × (get_or xs n x ≡ x)) ⊎ ((length xs ≤ n) × (slice_get xs n ≡ None))
    → (slice_get xs n ≡ Some y) × (drop (n + 1) xs ≡ ys)
head-cases xs n y ys h (inl w) =
    let more : drop n xs ≡ w.0 ∷ drop (n + 1) xs = drop-more xs n w.0 w.1 (sym w.3) in
    let both : w.0 ∷ drop (n + 1) xs ≡ y ∷ ys = sym more ∙ h in
    let top : w.0 ≡ y = cc in
    let rest : drop (n + 1) xs ≡ ys = cc in
    (w.2 ∙ ap Some top, rest)
head-cases xs n y ys h (inr w) =
    let none : [] ≡ y ∷ ys = sym (drop_all n xs w.0) ∙ h in
    absurd (cc)

behind : {A : Type 0} {B : Type 0} (g : A → B) (ys zs : List A) (xs : List B) (n : ℕ) → drop n xs ≡ map g (ys ++ zs) → drop (n + length ys) xs ≡ map g zs
behind g [] zs xs n h = ap (λ k. drop k xs) (add-zero n) ∙ h
behind g (y ∷ ys) zs xs n h =
    let w = head-cases xs n (g y) (map g (ys ++ zs)) h (slice_get_cases xs n).1 in
    let same : n + length (y ∷ ys) ≡ n + 1 + length ys = omega arith in
    ap (λ k. drop k xs) same ∙ behind g ys zs xs (n + 1) w.1

to-come : (decls : List Decl) (i : ℕ) (d : Decl) → i < length decls → d ≡ get_or decls i d → flat_map function_of (drop i decls) ≡ function_of d ++ flat_map function_of (drop (i + 1) decls)
to-come decls i d within is = ap (λ ds. flat_map function_of ds) (drop-more decls i d within is)

pub decls-further : (types : List Synonym) (decls : List Decl) (i : ℕ) (d : Decl) (fs : List Signature) (n k : ℕ)
    → i < length decls → d ≡ get_or decls i d → k ≡ length (function_of d)
    → drop n fs ≡ map (signature_of types) (flat_map function_of (drop i decls))
    → drop (n + k) fs ≡ map (signature_of types) (flat_map function_of (drop (i + 1) decls))
decls-further types decls i d fs n k within is count h =
    ap (λ j. drop (n + j) fs) count
    ∙ behind (signature_of types) (function_of d) (flat_map function_of (drop (i + 1) decls)) fs n (h ∙ ap (map (signature_of types)) (to-come decls i d within is))

decl-cases : (ast : Ast) (d : Decl) (fs : List Signature) (n : ℕ) (rest : List Function)
    → drop n fs ≡ map (signature_of (synonyms ast)) (function_of d ++ rest)
    → decl_faults (tables_of ast) (synonyms ast) (slice_get fs n) d ≡ command_faults ast d
decl-cases ast (decls.Synonym x) fs n rest h = refl
decl-cases ast (decls.Constants x) fs n rest h = refl
decl-cases ast (decls.Function f) fs n rest h =
    ap (λ o. signature_faults (tables_of ast) o f.body) (head-cases fs n (signature_of (synonyms ast) f) (map (signature_of (synonyms ast)) rest) h (slice_get_cases fs n).1).0
decl-cases ast (decls.Axiom x) fs n rest h = refl
decl-cases ast (decls.Variables x) fs n rest h = refl
decl-cases ast (decls.Procedure x) fs n rest h = refl
decl-cases ast (decls.Implementation x) fs n rest h = refl

-- the faults of a declaration with the next signature are its own
pub decl-is : (ast : Ast) (tables : Tables) (types : List Synonym) (i : ℕ) (d : Decl) (n : ℕ) (signature : Option Signature) (found next : Option TypeFault)
    → tables ≡ tables_of ast → types ≡ synonyms ast → i < length ast.decls → d ≡ get_or ast.decls i d
    → drop n tables.functions ≡ map (signature_of (synonyms ast)) (flat_map function_of (drop i ast.decls))
    → signature ≡ slice_get tables.functions n
    → next ≡ earlier found (first (decl_faults tables types signature d))
    → next ≡ earlier found (first (command_faults ast d))
decl-is ast tables types i d n signature found next same known within is h place step =
    step ∙ ap (λ (o : Option Signature). earlier found (first (decl_faults tables types o d))) place
    ∙ ap (λ (t : Tables). earlier found (first (decl_faults t types (slice_get tables.functions n) d))) same
    ∙ ap (λ (ts : List Synonym). earlier found (first (decl_faults (tables_of ast) ts (slice_get tables.functions n) d))) known
    ∙ ap (λ v. earlier found (first v)) (decl-cases ast d tables.functions n (flat_map function_of (drop (i + 1) ast.decls)) (h ∙ ap (map (signature_of (synonyms ast))) (to-come ast.decls i d within is)))
