-- Faults of the second and the third pass, piece by piece.
use Rattle.std.proofs.Common.{◌≡◌, ℕ, false, List, [], ◌∷◌, ◌++◌, map, Option, None, Some, refl, sym, ◌∙◌, ap, arith}
use Rattle.std.proofs.lemmas.Bool.Decides.{nat_tests}
use Rattle.std.proofs.lemmas.List.Concat.{flat_map-append}
use Rattle.std.specs.Prelude.{flat_map, nat_lt, nat_eq, ◌&&◌, ◌||◌, if◌then◌else◌}
use Rattle.bpl_ast.specs.declared.decl.Ast.{Ast}
use Rattle.bpl_ast.specs.declared.decl.Decl.{Decl}
use Rattle.bpl_ast.specs.declared.decl.Decl.TheVariants as decls
use Rattle.bpl_ast.specs.declared.decl.FunctionArgument.{FunctionArgument}
use Rattle.bpl_ast.specs.declared.decl.Group.{Group}
use Rattle.bpl_ast.specs.declared.decl.Heads.{Heads}
use Rattle.bpl_ast.specs.declared.decl.ParameterGroup.{ParameterGroup}
use Rattle.bpl_ast.specs.declared.decl.Synonym.{Synonym}
use Rattle.bpl_ast.specs.declared.decl.Variables.{Variables}
use Rattle.bpl_ast.specs.declared.name.Name.{Name}
use Rattle.bpl_ast.specs.declared.sort.Sort.{Sort}
use Rattle.type_pass.specs.declared.fault.TypeFault.{TypeFault}
use Rattle.type_pass.specs.declared.tables.Tables.{Tables}
use Rattle.type_pass.specs.Declarations.{declared, synonyms, in_parameters, in_heads}
use Rattle.type_pass.specs.Faults.{rank, earlier, first}
use Rattle.type_pass.specs.Passes.{heads_sorts, sorts_in, unique_faults, sorts_faults, cyclic_names, head_faults, heads_faults}
use Rattle.type_pass.specs.Scopes.{tables_of}
use Rattle.type_pass.specs.Sorts.{sort_faults, type_graph}
use Rattle.type_pass.specs.Told.{parameter_faults, head_faults_with}
use Rattle.type_pass.proofs.FaultLaws.{first-append, earlier-assoc, earlier-none}
use Rattle.type_pass.proofs.SortEquations.{of-boolean, of-bits, of-named, of-map}
use Rattle.type_pass.proofs.SpaceLaws.{nil-append}

pub flat-map : {X Y A : Type 0} (f : Y → List A) (h : X → Y) (xs : List X) → flat_map f (map h xs) ≡ flat_map (λ x. f (h x)) xs
flat-map f h [] = refl
flat-map f h (x ∷ xs) = ap (λ ys. f (h x) ++ ys) (flat-map f h xs)

pub flat-flat : {X Y A : Type 0} (f : Y → List A) (g : X → List Y) (xs : List X) → flat_map f (flat_map g xs) ≡ flat_map (λ x. flat_map f (g x)) xs
flat-flat f g [] = refl
flat-flat f g (x ∷ xs) = flat_map-append f (g x) (flat_map g xs) ∙ ap (λ ys. flat_map f (g x) ++ ys) (flat-flat f g xs)

flat-same : {X A : Type 0} (f h : X → List A) → ((x : X) → f x ≡ h x) → (xs : List X) → flat_map f xs ≡ flat_map h xs
flat-same f h e [] = refl
flat-same f h e (x ∷ xs) = ap (λ y. y ++ flat_map f xs) (e x) ∙ ap (λ ys. h x ++ ys) (flat-same f h e xs)

not-itself : (a r : ℕ) → (nat_lt a a || (nat_eq a a && nat_lt r r)) ≡ false
not-itself a r = grind (arith, nat_tests)

pub earlier-same : (o : Option TypeFault) → earlier o o ≡ o
earlier-same None = refl
earlier-same (Some f) = ap (λ b. Some (if b then f else f)) (not-itself f.at (rank f.kind))

-- the same faults once for each name
same-times : (types : List Synonym) (s : Sort) (n : Name) (ns : List Name) → first (flat_map (λ d. sort_faults types d.sort) (map (declared s) (n ∷ ns))) ≡ first (sort_faults types s)
same-times types s n [] = ap first (nil-append (sort_faults types s))
same-times types s n (m ∷ ns) =
    first-append (sort_faults types s) (flat_map (λ d. sort_faults types d.sort) (map (declared s) (m ∷ ns)))
    ∙ ap (earlier (first (sort_faults types s))) (same-times types s m ns) ∙ earlier-same (first (sort_faults types s))

pub parameter-some : (types : List Synonym) (g : ParameterGroup) → (g.names ≡ [] → ⊥) → first (parameter_faults types g) ≡ first (sort_faults types g.sort)
parameter-some types g h = by g.names h
  where
    by : (ns : List Name) → (ns ≡ [] → ⊥) → first (flat_map (λ d. sort_faults types d.sort) (map (declared g.sort) ns)) ≡ first (sort_faults types g.sort)
    by [] h = absurd (h refl)
    by (n ∷ ns) h = same-times types g.sort n ns

pub parameter-empty : (types : List Synonym) (g : ParameterGroup) → g.names ≡ [] → first (parameter_faults types g) ≡ None
parameter-empty types g h = ap (λ ns. first (flat_map (λ d. sort_faults types d.sort) (map (declared g.sort) ns))) h

pub heads-faults : (types : List Synonym) (h : Heads) → flat_map (sort_faults types) (heads_sorts h) ≡ flat_map (parameter_faults types) h.ins ++ flat_map (parameter_faults types) h.outs
heads-faults types h =
    flat-map (sort_faults types) (λ d. d.sort) (in_heads h) ∙ flat_map-append (λ d. sort_faults types d.sort) (flat_map in_parameters h.ins) (flat_map in_parameters h.outs)
    ∙ ap (λ fs. fs ++ flat_map (λ d. sort_faults types d.sort) (flat_map in_parameters h.outs)) (flat-flat (λ d. sort_faults types d.sort) in_parameters h.ins)
    ∙ ap (λ fs. flat_map (parameter_faults types) h.ins ++ fs) (flat-flat (λ d. sort_faults types d.sort) in_parameters h.outs)

pub groups-faults : (types : List Synonym) (gs : List Group) → flat_map (sort_faults types) (map (λ g. g.sort) gs) ≡ flat_map (λ g. sort_faults types g.sort) gs
groups-faults types gs = flat-map (sort_faults types) (λ (g : Group). g.sort) gs

pub lines-faults : (types : List Synonym) (vs : List Variables) → flat_map (sort_faults types) (flat_map (λ v. map (λ g. g.sort) v.groups) vs) ≡ flat_map (λ v. flat_map (λ g. sort_faults types g.sort) v.groups) vs
lines-faults types vs =
    flat-flat (sort_faults types) (λ (v : Variables). map (λ g. g.sort) v.groups) vs
    ∙ flat-same (λ (v : Variables). flat_map (sort_faults types) (map (λ g. g.sort) v.groups)) (λ v. flat_map (λ g. sort_faults types g.sort) v.groups) (λ v. groups-faults types v.groups) vs

pub ruleset sort_laws = (of-boolean, of-bits, of-named, of-map, first-append)

pub ruleset pass_laws = (first-append, nil-append, flat_map-append, flat-map, flat-flat, heads-faults, groups-faults, lines-faults, parameter-some, parameter-empty, earlier-assoc, earlier-none)

pub function-faults : (types : List Synonym) (arguments : List FunctionArgument) (output : Sort)
    → earlier (first (flat_map (λ a. sort_faults types a.sort) arguments)) (first (sort_faults types output)) ≡ first (flat_map (sort_faults types) (map (λ a. a.sort) arguments ++ output ∷ []))
function-faults types arguments output =
    sym (first-append (flat_map (λ a. sort_faults types a.sort) arguments) (sort_faults types output))
    ∙ ap first (sym (ap (λ fs. fs ++ sort_faults types output) (flat-map (sort_faults types) (λ (a : FunctionArgument). a.sort) arguments))
    ∙ ap (λ fs. flat_map (sort_faults types) (map (λ a. a.sort) arguments) ++ fs) (sym (nil-append (sort_faults types output)))
    ∙ sym (flat_map-append (sort_faults types) (map (λ a. a.sort) arguments) (output ∷ [])))

pub sorts-told : (ast : Ast) (types : List Synonym) → types ≡ synonyms ast
    → earlier (earlier (first (flat_map (λ d. flat_map (sort_faults types) (sorts_in d)) ast.decls)) (first (cyclic_names (type_graph types) (map (λ s. s.name) types)))) (first (flat_map (unique_faults types) ast.decls)) ≡ first (sorts_faults ast)
sorts-told ast types e =
    let circles = cyclic_names (type_graph (synonyms ast)) (map (λ s. s.name) (synonyms ast)) in
    let uniques = flat_map (unique_faults (synonyms ast)) ast.decls in
    ap (λ ts. earlier (earlier (first (flat_map (λ d. flat_map (sort_faults ts) (sorts_in d)) ast.decls)) (first (cyclic_names (type_graph ts) (map (λ s. s.name) ts)))) (first (flat_map (unique_faults ts) ast.decls))) e
    ∙ ap (λ fs. earlier (earlier (first fs) (first circles)) (first uniques)) (sym (flat-flat (sort_faults (synonyms ast)) sorts_in ast.decls))
    ∙ ap (λ o. earlier o (first uniques)) (sym (first-append (flat_map (sort_faults (synonyms ast)) (flat_map sorts_in ast.decls)) circles))
    ∙ sym (first-append (flat_map (sort_faults (synonyms ast)) (flat_map sorts_in ast.decls) ++ circles) uniques)

-- ---- heads, by the types and the tables

pub head-faults : (ast : Ast) (types : List Synonym) (tables : Tables) → types ≡ synonyms ast → tables ≡ tables_of ast → (d : Decl) → head_faults_with types tables d ≡ head_faults ast d
head-faults ast types tables t k d = ap (λ ts. head_faults_with ts tables d) t ∙ ap (λ ks. head_faults_with (synonyms ast) ks d) k ∙ by d
  where
    by : (d : Decl) → head_faults_with (synonyms ast) (tables_of ast) d ≡ head_faults ast d
    by (decls.Synonym s) = refl
    by (decls.Constants c) = refl
    by (decls.Function f) = refl
    by (decls.Axiom a) = refl
    by (decls.Variables v) = refl
    by (decls.Procedure p) = refl
    by (decls.Implementation i) = refl

pub all-head-faults : (ast : Ast) (types : List Synonym) (tables : Tables) → types ≡ synonyms ast → tables ≡ tables_of ast → flat_map (head_faults_with types tables) ast.decls ≡ heads_faults ast
all-head-faults ast types tables t k = flat-same (head_faults_with types tables) (head_faults ast) (head-faults ast types tables t k) ast.decls
