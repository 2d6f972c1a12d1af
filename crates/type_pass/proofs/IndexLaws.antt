-- Look-ups by the places of names.
use Rattle.std.proofs.Common.{◌≡◌, ℕ, ◌<◌, List, map, filter, length, Option, None, Some, sym, ◌∙◌, ap}
use Rattle.std.proofs.lemmas.Option.{slice_get_within}
use Rattle.std.specs.Prelude.{position, find, slice_get, unwrap_or}
use Rattle.hy_val.specs.declared.sort.Sort.{Sort}
use Rattle.std.specs.Option.{option_and_then, option_map}
use Rattle.std.specs.Str.{bytes_eq}
use Rattle.type_pass.specs.declared.tables.Heading.{Heading}
use Rattle.type_pass.specs.declared.tables.Signature.{Signature}
use Rattle.type_pass.specs.declared.tables.Named.{Named}
use Rattle.type_pass.specs.declared.tables.Tables.{Tables}
use Rattle.type_pass.specs.Memos.{number_among}
use Rattle.type_pass.specs.Scopes.{body_number}
use Rattle.type_pass.proofs.NumberLaws.{position-map, position-within, find-position}

pub named-place : (names : List Named) (numbers : List (List ℕ)) (text : List ℕ) → numbers ≡ map (λ n. n.name) names → number_among numbers text ≡ position (λ n. bytes_eq text n.name) names
named-place names numbers text e = ap (λ ns. number_among ns text) e ∙ position-map (bytes_eq text) (λ (n : Named). n.name) names

pub function-at : (functions : List Signature) (numbers : List (List ℕ)) (text : List ℕ) → numbers ≡ map (λ f. f.name) functions
    → find (λ f. bytes_eq text f.name) functions ≡ option_and_then (slice_get functions) (number_among numbers text)
function-at functions numbers text e =
    find-position (λ (f : Signature). bytes_eq text f.name) functions
    ∙ sym (ap (option_and_then (slice_get functions)) (ap (λ ns. number_among ns text) e ∙ position-map (bytes_eq text) (λ (f : Signature). f.name) functions))

pub function-place : (functions : List Signature) (numbers : List (List ℕ)) (text : List ℕ) → numbers ≡ map (λ f. f.name) functions → number_among numbers text ≡ position (λ f. bytes_eq text f.name) functions
function-place functions numbers text e = ap (λ ns. number_among ns text) e ∙ position-map (bytes_eq text) (λ (f : Signature). f.name) functions

pub procedure-at : (procedures : List Heading) (numbers : List (List ℕ)) (text : List ℕ) → numbers ≡ map (λ p. p.name) procedures
    → find (λ p. bytes_eq text p.name) procedures ≡ option_and_then (slice_get procedures) (number_among numbers text)
procedure-at procedures numbers text e =
    find-position (λ (p : Heading). bytes_eq text p.name) procedures
    ∙ sym (ap (option_and_then (slice_get procedures)) (ap (λ ns. number_among ns text) e ∙ position-map (bytes_eq text) (λ (p : Heading). p.name) procedures))

-- the place of the first of a name, in an index of the list
pub place-in : (names self : List Named) (numbers : List (List ℕ)) (text : List ℕ) (r : Option ℕ) → names ≡ self → numbers ≡ map (λ n. n.name) names → r ≡ number_among numbers text → position (λ n. bytes_eq text n.name) self ≡ r
place-in names self numbers text r s e h = sym (h ∙ named-place names numbers text e ∙ ap (position (λ n. bytes_eq text n.name)) s)

abbrev pub found : List Named → ℕ → Option (ℕ × Sort)
found names i = option_map (λ (n : Named). let r : ℕ × Sort = (i, n.sort) in r) (slice_get names i)

pub seen-none : (names self : List Named) (numbers : List (List ℕ)) (text : List ℕ) (r : Option ℕ) → names ≡ self → numbers ≡ map (λ n. n.name) names → r ≡ number_among numbers text → r ≡ None
    → ◌≡◌ {A = Option (ℕ × Sort)} None (option_and_then (found self) (position (λ n. bytes_eq text n.name) self))
seen-none names self numbers text r s e h none = sym (ap (option_and_then (found self)) (place-in names self numbers text r s e h ∙ none))

pub seen-past : (names self : List Named) (numbers : List (List ℕ)) (text : List ℕ) (r : Option ℕ) (i : ℕ) → names ≡ self → numbers ≡ map (λ n. n.name) names → r ≡ number_among numbers text → r ≡ Some i → slice_get names i ≡ None
    → ◌≡◌ {A = Option (ℕ × Sort)} None (option_and_then (found self) (position (λ n. bytes_eq text n.name) self))
seen-past names self numbers text r i s e h at none =
    sym (ap (option_and_then (found self)) (place-in names self numbers text r s e h ∙ at) ∙ ap (option_map (λ (n : Named). let r : ℕ × Sort = (i, n.sort) in r)) (ap (λ (v : List Named). slice_get v i) (sym s) ∙ none))

pub seen-some : (names self : List Named) (numbers : List (List ℕ)) (text : List ℕ) (r : Option ℕ) (i : ℕ) (n : Named) → names ≡ self → numbers ≡ map (λ n. n.name) names → r ≡ number_among numbers text → r ≡ Some i → slice_get names i ≡ Some n
    → ◌≡◌ {A = Option (ℕ × Sort)} (Some (i, n.sort)) (option_and_then (found self) (position (λ n. bytes_eq text n.name) self))
seen-some names self numbers text r i n s e h at there =
    sym (ap (option_and_then (found self)) (place-in names self numbers text r s e h ∙ at) ∙ ap (option_map (λ (n : Named). let r : ℕ × Sort = (i, n.sort) in r)) (ap (λ (v : List Named). slice_get v i) (sym s) ∙ there))

-- the number of a body
pub body-at : (tables : Tables) (bodies : List (List ℕ)) (text : List ℕ) → bodies ≡ map (λ p. p.name) (filter (λ p. p.has_body) tables.procedures) → body_number tables text ≡ unwrap_or (number_among bodies text) 0
body-at tables bodies text e =
    sym (ap (λ o. unwrap_or o 0) (ap (λ ns. number_among ns text) e ∙ position-map (bytes_eq text) (λ (p : Heading). p.name) (filter (λ p. p.has_body) tables.procedures)))

pub number-within : (names : List (List ℕ)) (text : List ℕ) (i : ℕ) → number_among names text ≡ Some i → i < length names
number-within names text i h = position-within (bytes_eq text) names i h

pub ruleset index_laws = (slice_get_within, named-place, function-at, function-place, procedure-at)
