-- The look-up of implementations by the places of their names.
use Rattle.std.proofs.Common.{◌≡◌, ℕ, List, [], ◌∷◌, map, Option, None, Some, Bor, refl, sym, ◌∙◌, ap}
use Rattle.std.proofs.lemmas.Option.{slice_get-map}
use Rattle.std.specs.Prelude.{find, slice_get}
use Rattle.std.specs.Option.{option_and_then, option_map}
use Rattle.std.specs.Str.{bytes_eq}
use Rattle.bpl_ast.specs.declared.decl.Implementation.{Implementation}
use Rattle.type_pass.specs.Memos.{number_among}
use Rattle.type_pass.proofs.NumberLaws.{position-map, find-position}

pub names-are : (items : List (Bor Implementation)) → map (λ x. x.now.name.text) items ≡ map (λ (i : Implementation). i.name.text) (map (λ x. x.now) items)
names-are [] = refl
names-are (x ∷ xs) = ap (λ ts. x.now.name.text ∷ ts) (names-are xs)

pub named-at : (items : List (Bor Implementation)) (self : List Implementation) (names : List (List ℕ)) (text : List ℕ) (r : Option ℕ) → map (λ x. x.now) items ≡ self → names ≡ map (λ x. x.now.name.text) items → r ≡ number_among names text
    → find (λ i. bytes_eq text i.name.text) self ≡ option_and_then (slice_get self) r
named-at items self names text r s n h =
    find-position (λ (i : Implementation). bytes_eq text i.name.text) self
    ∙ sym (ap (option_and_then (slice_get self))
    (h ∙ ap (λ ns. number_among ns text) (n ∙ names-are items ∙ ap (map (λ (i : Implementation). i.name.text)) s) ∙ position-map (bytes_eq text) (λ (i : Implementation). i.name.text) self))

pub named-none : (items : List (Bor Implementation)) (self : List Implementation) (names : List (List ℕ)) (text : List ℕ) (r : Option ℕ) → map (λ x. x.now) items ≡ self → names ≡ map (λ x. x.now.name.text) items → r ≡ number_among names text → r ≡ None
    → ◌≡◌ {A = Option Implementation} None (find (λ i. bytes_eq text i.name.text) self)
named-none items self names text r s n h none = sym (named-at items self names text r s n h ∙ ap (option_and_then (slice_get self)) none)

pub named-past : (items slice : List (Bor Implementation)) (self : List Implementation) (names : List (List ℕ)) (text : List ℕ) (r : Option ℕ) (k : ℕ) → map (λ x. x.now) items ≡ self → names ≡ map (λ x. x.now.name.text) items → r ≡ number_among names text → r ≡ Some k
    → slice ≡ items → slice_get slice k ≡ None → ◌≡◌ {A = Option Implementation} None (find (λ i. bytes_eq text i.name.text) self)
named-past items slice self names text r k s n h at same none =
    sym (named-at items self names text r s n h ∙ ap (option_and_then (slice_get self)) at ∙ ap (λ (v : List Implementation). slice_get v k) (sym s) ∙ slice_get-map (λ (x : Bor Implementation). x.now) items k
    ∙ ap (option_map (λ (x : Bor Implementation). x.now)) (ap (λ (v : List (Bor Implementation)). slice_get v k) (sym same) ∙ none))

pub named-some : (items slice : List (Bor Implementation)) (self : List Implementation) (names : List (List ℕ)) (text : List ℕ) (r : Option ℕ) (k : ℕ) (x : Bor Implementation) → map (λ x. x.now) items ≡ self → names ≡ map (λ x. x.now.name.text) items → r ≡ number_among names text
    → r ≡ Some k → slice ≡ items → slice_get slice k ≡ Some x → ◌≡◌ {A = Option Implementation} (Some x.now) (find (λ i. bytes_eq text i.name.text) self)
named-some items slice self names text r k x s n h at same there =
    sym (named-at items self names text r s n h ∙ ap (option_and_then (slice_get self)) at ∙ ap (λ (v : List Implementation). slice_get v k) (sym s) ∙ slice_get-map (λ (y : Bor Implementation). y.now) items k
    ∙ ap (option_map (λ (y : Bor Implementation). y.now)) (ap (λ (v : List (Bor Implementation)). slice_get v k) (sym same) ∙ there))

pub ruleset names_laws = (names-are)
