-- The numbers of the unique constants, one declaration after another.
use Rattle.std.proofs.Common.{◌≡◌, ℕ, zero, suc, ◌+◌, ◌<◌, ◌≤◌, Bool, true, false, List, [], ◌∷◌, ◌++◌, length, map, flat_map, take, get_or, replicate, refl, sym, ◌∙◌, ap, append_assoc, length-append, arith, add-one}
use Rattle.std.proofs.lemmas.List.{take_more, take_all}
use Rattle.std.proofs.lemmas.List.Concat.{flat_map-append}
use Rattle.bpl_ast.specs.declared.decl.Ast.{Ast}
use Rattle.bpl_ast.specs.declared.decl.Decl.{Decl}
use Rattle.bpl_ast.specs.declared.name.Name.{Name}
use Rattle.type_pass.specs.Declarations.{constants_of, flags_of, unique_flags}
use Rattle.bpl_type.specs.TypedOf.{places_from}
use Rattle.type_pass.proofs.SpaceLaws.{nil-append}

pub places-append : (n : ℕ) (xs ys : List Bool) → places_from n (xs ++ ys) ≡ places_from n xs ++ places_from (n + length xs) ys
places-append n [] ys = let z : n ≡ n + 0 = omega arith in ap (λ k. places_from k ys) z
places-append n (true ∷ xs) ys =
    let z : n + 1 + length xs ≡ n + length (true ∷ xs) = omega arith in
    ap (λ ns. n ∷ ns) (places-append (n + 1) xs ys ∙ ap (λ k. places_from (n + 1) xs ++ places_from k ys) z)
places-append n (false ∷ xs) ys =
    let z : n + 1 + length xs ≡ n + length (false ∷ xs) = omega arith in
    places-append (n + 1) xs ys ∙ ap (λ k. places_from (n + 1) xs ++ places_from k ys) z

replicate-suc : {A : Type 0} (k : ℕ) (u : A) → replicate (suc k) u ≡ replicate k u ++ u ∷ []
replicate-suc zero u = refl
replicate-suc (suc k) u = ap (λ xs. u ∷ xs) (replicate-suc k u)

length-same : {A : Type 0} (k : ℕ) (u : A) → length (replicate k u) ≡ k
length-same zero u = refl
length-same (suc k) u = ap suc (length-same k u)

pub flags-same : (u : Bool) (ns : List Name) → map (λ n. u) ns ≡ replicate (length ns) u
flags-same u [] = refl
flags-same u (n ∷ ns) = ap (λ xs. u ∷ xs) (flags-same u ns)

pub flags-counted : (u : Bool) (ns : List Name) → length (map (λ n. u) ns) ≡ length ns
flags-counted u [] = refl
flags-counted u (n ∷ ns) = ap suc (flags-counted u ns)

-- one constant more
pub unique-further : (u : Bool) (first k number : ℕ) (start before after : List ℕ) → before ≡ start ++ places_from first (replicate k u) → number ≡ first + k → after ≡ before ++ places_from number (u ∷ [])
    → after ≡ start ++ places_from first (replicate (k + 1) u)
unique-further u first k number start before after b n a =
    a ∙ ap (λ xs. xs ++ places_from number (u ∷ [])) b ∙ append_assoc start (places_from first (replicate k u)) (places_from number (u ∷ []))
    ∙ ap (λ xs. start ++ xs)
    (ap (λ m. places_from first (replicate k u) ++ places_from m (u ∷ [])) (n ∙ ap (λ m. first + m) (sym (length-same k u)))
    ∙ sym (places-append first (replicate k u) (u ∷ [])) ∙ ap (places_from first) (sym (replicate-suc k u)) ∙ ap (λ m. places_from first (replicate m u)) (sym (add-one k)))

-- the flags of a declaration
abbrev pub flags_in : Decl → List Bool
flags_in d = flat_map flags_of (constants_of d)

pub flags-of-all : (ds : List Decl) → flat_map flags_of (flat_map constants_of ds) ≡ flat_map flags_in ds
flags-of-all [] = refl
flags-of-all (d ∷ ds) = flat_map-append flags_of (constants_of d) (flat_map constants_of ds) ∙ ap (λ xs. flags_in d ++ xs) (flags-of-all ds)

flags-further : (ds : List Decl) (i : ℕ) (d : Decl) → i < length ds → d ≡ get_or ds i d → flat_map flags_in (take (i + 1) ds) ≡ flat_map flags_in (take i ds) ++ flags_in d
flags-further ds i d less at =
    ap (flat_map flags_in) (take_more ds i d less ∙ ap (λ x. take i ds ++ x ∷ []) (sym at)) ∙ flat_map-append flags_in (take i ds) (d ∷ []) ∙ ap (λ xs. flat_map flags_in (take i ds) ++ xs) (nil-append (flags_in d))

-- one declaration more
pub numbers-further : (ds : List Decl) (i : ℕ) (d : Decl) (next : ℕ) (before after : List ℕ) → i < length ds → d ≡ get_or ds i d → before ≡ places_from 0 (flat_map flags_in (take i ds)) → next ≡ length (flat_map flags_in (take i ds))
    → after ≡ before ++ places_from next (flags_in d) → after ≡ places_from 0 (flat_map flags_in (take (i + 1) ds))
numbers-further ds i d next before after less at b n a =
    let flags = flat_map flags_in (take i ds) in
    let z : next ≡ 0 + length flags = omega arith in
    a ∙ ap (λ xs. xs ++ places_from next (flags_in d)) b ∙ ap (λ m. places_from 0 flags ++ places_from m (flags_in d)) z
    ∙ sym (places-append 0 flags (flags_in d)) ∙ ap (places_from 0) (sym (flags-further ds i d less at))

pub next-further : (ds : List Decl) (i : ℕ) (d : Decl) (next after : ℕ) → i < length ds → d ≡ get_or ds i d → next ≡ length (flat_map flags_in (take i ds)) → after ≡ next + length (flags_in d)
    → after ≡ length (flat_map flags_in (take (i + 1) ds))
next-further ds i d next after less at n a =
    a ∙ ap (λ m. m + length (flags_in d)) n ∙ sym (length-append (flat_map flags_in (take i ds)) (flags_in d)) ∙ ap length (sym (flags-further ds i d less at))

pub numbers-all : (ast : Ast) (ds : List Decl) (i : ℕ) (numbers : List ℕ) → ds ≡ ast.decls → length ds ≤ i → numbers ≡ places_from 0 (flat_map flags_in (take i ds)) → numbers ≡ places_from 0 (unique_flags ast)
numbers-all ast ds i numbers same past h =
    h ∙ ap (λ xs. places_from 0 (flat_map flags_in xs)) (take_all i ds past ∙ same) ∙ ap (places_from 0) (sym (flags-of-all ast.decls))
