-- The graph of types, as it is made.
use Rattle.std.proofs.Common.{◌≡◌, ℕ, List, map, Option, Result, Ok, Err, Bool, refl, sym, ◌∙◌, ap, Bor, ◌∷◌, []}
use Rattle.std.specs.Result.{IfOk}
use Rattle.bpl_ast.specs.declared.decl.Synonym.{Synonym}
use Rattle.bpl_ast.specs.declared.name.Name.{Name}
use Rattle.hy_val.specs.declared.sort.Sort.{Sort as Resolved}
use Rattle.type_pass.specs.declared.fault.TypeFault.{TypeFault}
use Rattle.type_pass.specs.Circles.{IsClosed}
use Rattle.type_pass.specs.Faults.{first}
use Rattle.type_pass.specs.Graphs.{Graph}
use Rattle.type_pass.specs.Memos.{AreTypes}
use Rattle.type_pass.specs.Passes.{cyclic_names}
use Rattle.type_pass.specs.Sorts.{type_graph}
use Rattle.type_pass.proofs.TypeLaws.{sorts-closed}

pub types-closed : (types : List Synonym) → IsClosed (type_graph types)
types-closed types = sorts-closed types

map-now : {A B : Type 0} (f : A → B) (xs : List (Bor A)) → map (λ x. f x.now) xs ≡ map f (map (λ x. x.now) xs)
map-now f [] = refl
map-now f (x ∷ xs) = ap (λ ys. f x.now ∷ ys) (map-now f xs)

pub numbered-types : (types types1 : List (Bor Synonym)) (names : List (List ℕ)) (maps : List Bool) (sorts : List (Option Resolved)) → types1 ≡ types → AreTypes (map (λ s. s.now) types) names maps sorts → names ≡ map (λ s. s.now.name.text) types1
numbered-types types types1 names maps sorts e are = are.numbered ∙ sym (map-now (λ (s : Synonym). s.name.text) types) ∙ sym (ap (λ (v : List (Bor Synonym)). map (λ s. s.now.name.text) v) e)

pub cyclic-ok : {E : Type 0} (r : Result (Option TypeFault) E) (types types1 : List (Bor Synonym)) (self : List Synonym) (g g1 : Graph) (names names1 : List (Bor Name))
    → types1 ≡ types → map (λ s. s.now) types ≡ self → g1 ≡ g → names1 ≡ names → g ≡ type_graph (map (λ s. s.now) types1) → map (λ n. n.now) names ≡ map (λ s. s.now.name) types1
    → IfOk r (λ f. f ≡ first (cyclic_names g1 (map (λ n. n.now) names1))) → IfOk r (λ f. f ≡ first (cyclic_names (type_graph self) (map (λ s. s.name) self)))
cyclic-ok (Err e) types types1 self g g1 names names1 a b c d k n h = tt
cyclic-ok (Ok f) types types1 self g g1 names names1 a b c d k n h =
    let ts : map (λ s. s.now) types1 ≡ self = ap (λ (v : List (Bor Synonym)). map (λ s. s.now) v) a ∙ b in
    h ∙ ap (λ v. first (cyclic_names v (map (λ n. n.now) names1))) (c ∙ k ∙ ap type_graph ts)
    ∙ ap (λ v. first (cyclic_names (type_graph self) v)) (ap (λ (v : List (Bor Name)). map (λ n. n.now) v) d ∙ n ∙ map-now (λ (s : Synonym). s.name) types1 ∙ ap (λ (v : List Synonym). map (λ s. s.name) v) ts)
