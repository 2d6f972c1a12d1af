-- Names of groups, and loops that add up lists or faults piece by piece.
use Rattle.std.proofs.Common.{◌≡◌, ℕ, ◌+◌, ◌<◌, ◌≤◌, List, [], ◌∷◌, ◌++◌, length, map, drop, get_or, Option, refl, sym, ◌∙◌, ap, append_assoc}
use Rattle.std.proofs.lemmas.List.{drop_more, at_drop_all, map-append}
use Rattle.std.specs.Prelude.{flat_map}
use Rattle.bpl_ast.specs.declared.decl.Group.{Group}
use Rattle.bpl_ast.specs.declared.decl.Heads.{Heads}
use Rattle.bpl_ast.specs.declared.decl.ParameterGroup.{ParameterGroup}
use Rattle.bpl_ast.specs.declared.decl.Variables.{Variables}
use Rattle.bpl_ast.specs.declared.name.Name.{Name}
use Rattle.bpl_ast.specs.declared.sort.Sort.{Sort}
use Rattle.type_pass.specs.Declarations.{declared, in_group, in_variables, in_parameters, in_heads}
use Rattle.type_pass.specs.declared.fault.TypeFault.{TypeFault}
use Rattle.type_pass.specs.Faults.{earlier, first}
use Rattle.type_pass.proofs.FaultLaws.{first-append, earlier-assoc, earlier-none}

-- one piece further
pub list-further : {X A : Type 0} (f : X → List A) (xs items : List X) (i : ℕ) (x : X) (found next all : List A)
    → items ≡ xs → i < length items → x ≡ get_or items i x → next ≡ found ++ f x → found ++ flat_map f (drop i xs) ≡ all → next ++ flat_map f (drop (i + 1) xs) ≡ all
list-further f xs items i x found next all same within is more h =
    let rest : drop i xs ≡ x ∷ drop (i + 1) xs = ap (drop i) (sym same) ∙ drop_more items i x within ∙ ap (λ y. y ∷ drop (i + 1) items) (sym is) ∙ ap (λ ys. x ∷ drop (i + 1) ys) same in
    ap (λ v. v ++ flat_map f (drop (i + 1) xs)) more ∙ append_assoc found (f x) (flat_map f (drop (i + 1) xs))
    ∙ sym (ap (λ ys. found ++ flat_map f ys) rest) ∙ h

pub nil-append : {A : Type 0} (xs : List A) → xs ++ [] ≡ xs
nil-append [] = refl
nil-append (x ∷ xs) = ap (λ ys. x ∷ ys) (nil-append xs)

pub list-done : {X A : Type 0} (f : X → List A) (xs items : List X) (i : ℕ) (found all : List A) → items ≡ xs → length items ≤ i → found ++ flat_map f (drop i xs) ≡ all → found ≡ all
list-done f xs items i found all same past h =
    sym (nil-append found) ∙ sym (ap (λ ys. found ++ ys) (ap (λ ys. flat_map f (drop i ys)) (sym same) ∙ at_drop_all (flat_map f) items i past)) ∙ h

-- the faults of one piece more
pub faults-further : {X : Type 0} (f : X → List TypeFault) (xs items : List X) (i : ℕ) (x : X) (found next all : Option TypeFault)
    → items ≡ xs → i < length items → x ≡ get_or items i x → next ≡ earlier found (first (f x)) → earlier found (first (flat_map f (drop i xs))) ≡ all
    → earlier next (first (flat_map f (drop (i + 1) xs))) ≡ all
faults-further f xs items i x found next all same within is more h =
    let rest : drop i xs ≡ x ∷ drop (i + 1) xs = ap (drop i) (sym same) ∙ drop_more items i x within ∙ ap (λ y. y ∷ drop (i + 1) items) (sym is) ∙ ap (λ ys. x ∷ drop (i + 1) ys) same in
    ap (λ v. earlier v (first (flat_map f (drop (i + 1) xs)))) more ∙ earlier-assoc found (first (f x)) (first (flat_map f (drop (i + 1) xs)))
    ∙ sym (ap (earlier found) (ap (λ ys. first (flat_map f ys)) rest ∙ first-append (f x) (flat_map f (drop (i + 1) xs)))) ∙ h

pub faults-done : {X : Type 0} (f : X → List TypeFault) (xs items : List X) (i : ℕ) (found all : Option TypeFault)
    → items ≡ xs → length items ≤ i → earlier found (first (flat_map f (drop i xs))) ≡ all → found ≡ all
faults-done f xs items i found all same past h =
    sym (earlier-none found) ∙ sym (ap (λ ys. earlier found (first ys)) (ap (λ ys. flat_map f (drop i ys)) (sym same) ∙ at_drop_all (flat_map f) items i past)) ∙ h

-- ---- names of groups

declared-names : (s : Sort) (ns : List Name) → map (λ d. d.name) (map (declared s) ns) ≡ ns
declared-names s [] = refl
declared-names s (n ∷ ns) = ap (λ ms. n ∷ ms) (declared-names s ns)

pub group-names : (gs : List Group) → map (λ d. d.name) (flat_map in_group gs) ≡ flat_map (λ g. g.names) gs
group-names [] = refl
group-names (g ∷ gs) = map-append (λ d. d.name) (in_group g) (flat_map in_group gs) ∙ ap (λ ns. ns ++ map (λ d. d.name) (flat_map in_group gs)) (declared-names g.sort g.names) ∙ ap (λ ns. g.names ++ ns) (group-names gs)

pub parameter-names : (gs : List ParameterGroup) → map (λ d. d.name) (flat_map in_parameters gs) ≡ flat_map (λ g. g.names) gs
parameter-names [] = refl
parameter-names (g ∷ gs) = map-append (λ d. d.name) (in_parameters g) (flat_map in_parameters gs) ∙ ap (λ ns. ns ++ map (λ d. d.name) (flat_map in_parameters gs)) (declared-names g.sort g.names) ∙ ap (λ ns. g.names ++ ns) (parameter-names gs)

-- the names of one line of variables
abbrev pub line_names : Variables → List Name
line_names v = flat_map (λ g. g.names) v.groups

pub lines-names : (vs : List Variables) → map (λ d. d.name) (flat_map in_variables vs) ≡ flat_map line_names vs
lines-names [] = refl
lines-names (v ∷ vs) = map-append (λ d. d.name) (in_variables v) (flat_map in_variables vs) ∙ ap (λ ns. ns ++ map (λ d. d.name) (flat_map in_variables vs)) (group-names v.groups) ∙ ap (λ ns. line_names v ++ ns) (lines-names vs)

pub heads-names : (h : Heads) → map (λ d. d.name) (in_heads h) ≡ flat_map (λ g. g.names) h.ins ++ flat_map (λ g. g.names) h.outs
heads-names h = map-append (λ d. d.name) (flat_map in_parameters h.ins) (flat_map in_parameters h.outs) ∙ ap (λ ns. ns ++ map (λ d. d.name) (flat_map in_parameters h.outs)) (parameter-names h.ins) ∙ ap (λ ns. flat_map (λ g. g.names) h.ins ++ ns) (parameter-names h.outs)

pub ruleset space_laws = (group-names, parameter-names, lines-names, heads-names, nil-append)

pub ruleset fault_laws = (first-append, earlier-assoc, earlier-none)
