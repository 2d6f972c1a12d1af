-- Which elements of a list are marked, and what stands in their places when they are replaced.
use Rattle.std.proofs.Common.{arith, ◌≡◌, ℕ, zero, suc, ◌+◌, ◌<◌, Bool, true, false, List, [], ◌∷◌, ◌++◌, length, drop, ap, ◌∙◌, refl}
use Rattle.std.specs.Prelude.{Some, slice_get, slice_index_or}
use Rattle.hy_val.specs.declared.sort.Sort.{Sort}
use Rattle.passive_form.specs.Local.{picked, replaced}
use Rattle.tree_terms.specs.declared.linked.Role.{Role}
use Rattle.tree_terms.specs.declared.linked.Role.TheVariants.{After}
use Rattle.proc_template.specs.Layout.{after_roles, role_if}

-- how many marks before one are true
abbrev pub marked : List Bool → ℕ → ℕ
marked [] g = 0
marked (m ∷ ms) zero = 0
marked (true ∷ ms) (suc g) = suc (marked ms g)
marked (false ∷ ms) (suc g) = marked ms g

-- the globals from g on that are marked
abbrev pub after_list : ℕ → ℕ → List Bool → List ℕ → List Role
after_list site g [] vs = []
after_list site g (m ∷ ms) [] = []
after_list site g (true ∷ ms) (v ∷ vs) = After site g ∷ after_list site (g + 1) ms vs
after_list site g (false ∷ ms) (v ∷ vs) = after_list site (g + 1) ms vs

abbrev head_or : List Bool → Bool
head_or [] = false
head_or (m ∷ ms) = m

abbrev tail_of : List Bool → List Bool
tail_of [] = []
tail_of (m ∷ ms) = ms

head_mark : (ms : List Bool) (g : ℕ) → slice_index_or ms g false ≡ head_or (drop g ms)
head_mark [] zero = refl
head_mark [] (suc g) = refl
head_mark (m ∷ ms) zero = refl
head_mark (m ∷ ms) (suc g) = head_mark ms g

rest_marks : (ms : List Bool) (g : ℕ) → drop (suc g) ms ≡ tail_of (drop g ms)
rest_marks [] zero = refl
rest_marks [] (suc g) = refl
rest_marks (m ∷ ms) zero = refl
rest_marks (m ∷ ms) (suc g) = rest_marks ms g

next_marks : (ms : List Bool) (g : ℕ) (ds : List Bool) → drop g ms ≡ ds → drop (g + 1) ms ≡ tail_of ds
next_marks ms g ds e = let n : g + 1 ≡ suc g = omega arith in ap (λ i. drop i ms) n ∙ rest_marks ms g ∙ ap tail_of e

after_from : (site : ℕ) (marks : List Bool) (g : ℕ) (vs : List ℕ) (ds : List Bool) → drop g marks ≡ ds → after_roles site marks g vs ≡ after_list site g ds vs
after_from site marks g [] [] e = refl
after_from site marks g [] (d ∷ ds) e = refl
after_from site marks g (v ∷ vs) [] e =
    ap (λ b. role_if b (After site g) ++ after_roles site marks (g + 1) vs) (head_mark marks g ∙ ap head_or e) ∙ after_from site marks (g + 1) vs [] (next_marks marks g [] e)
after_from site marks g (v ∷ vs) (true ∷ ds) e =
    ap (λ b. role_if b (After site g) ++ after_roles site marks (g + 1) vs) (head_mark marks g ∙ ap head_or e) ∙ ap (λ r. After site g ∷ r) (after_from site marks (g + 1) vs ds (next_marks marks g (true ∷ ds) e))
after_from site marks g (v ∷ vs) (false ∷ ds) e =
    ap (λ b. role_if b (After site g) ++ after_roles site marks (g + 1) vs) (head_mark marks g ∙ ap head_or e) ∙ after_from site marks (g + 1) vs ds (next_marks marks g (false ∷ ds) e)

pub after_is : (site : ℕ) (marks : List Bool) (vs : List ℕ) → after_roles site marks 0 vs ≡ after_list site 0 marks vs
after_is site marks vs = after_from site marks 0 vs marks refl

pub after_count : (site g : ℕ) (ms : List Bool) (vs : List ℕ) (gs : List Sort) → length vs ≡ length gs → length (after_list site g ms vs) ≡ length (picked ms gs)
after_count site g [] vs gs e = refl
after_count site g (m ∷ ms) [] [] e = refl
after_count site g (m ∷ ms) [] (s ∷ gs) e = absurd (omega (arith, e))
after_count site g (m ∷ ms) (v ∷ vs) [] e = absurd (omega (arith, e))
after_count site g (true ∷ ms) (v ∷ vs) (s ∷ gs) e = ap suc (after_count site (g + 1) ms vs gs (omega (arith, e)))
after_count site g (false ∷ ms) (v ∷ vs) (s ∷ gs) e = after_count site (g + 1) ms vs gs (omega (arith, e))

pub after_get : (site g : ℕ) (ms : List Bool) (vs : List ℕ) (y : ℕ) (r : Role) → slice_get (after_list site g ms vs) y ≡ Some r →
    (h : ℕ) × (r ≡ After site (g + h)) × (h < length vs) × (slice_index_or ms h false ≡ true) × (marked ms h ≡ y)
after_get site g [] vs y r e = absurd cc
after_get site g (m ∷ ms) [] y r e = absurd cc
after_get site g (true ∷ ms) (v ∷ vs) zero r e =
    let z : g ≡ g + 0 = omega arith in
    let same : r ≡ After site g = cc in
    (0, same ∙ ap (After site) z, omega arith, refl, refl)
after_get site g (true ∷ ms) (v ∷ vs) (suc y) r e =
    let h = after_get site (g + 1) ms vs y r e in
    let z : g + 1 + h.0 ≡ g + suc h.0 = omega arith in
    (suc h.0, h.1 ∙ ap (After site) z, omega (arith, h.2), h.3, ap suc h.4)
after_get site g (false ∷ ms) (v ∷ vs) y r e =
    let h = after_get site (g + 1) ms vs y r e in
    let z : g + 1 + h.0 ≡ g + suc h.0 = omega arith in
    (suc h.0, h.1 ∙ ap (After site) z, omega (arith, h.2), h.3, h.4)

pub get_after : (site g : ℕ) (ms : List Bool) (vs : List ℕ) (h : ℕ) → h < length vs → slice_index_or ms h false ≡ true → slice_get (after_list site g ms vs) (marked ms h) ≡ Some (After site (g + h))
get_after site g [] vs zero l m = absurd cc
get_after site g [] vs (suc h) l m = absurd cc
get_after site g (m ∷ ms) [] h l k = absurd (omega (arith, l))
get_after site g (true ∷ ms) (v ∷ vs) zero l m = let z : g ≡ g + 0 = omega arith in ap (λ i. Some (After site i)) z
get_after site g (false ∷ ms) (v ∷ vs) zero l m = absurd cc
get_after site g (true ∷ ms) (v ∷ vs) (suc h) l m = let z : g + 1 + h ≡ g + suc h = omega arith in get_after site (g + 1) ms vs h (omega (arith, l)) m ∙ ap (λ i. Some (After site i)) z
get_after site g (false ∷ ms) (v ∷ vs) (suc h) l m = let z : g + 1 + h ≡ g + suc h = omega arith in get_after site (g + 1) ms vs h (omega (arith, l)) m ∙ ap (λ i. Some (After site i)) z

pub replaced_at : (ms : List Bool) (xs ys : List ℕ) (h y : ℕ) → h < length xs → slice_index_or ms h false ≡ true → slice_get ys (marked ms h) ≡ Some y → slice_get (replaced ms xs ys) h ≡ Some y
replaced_at [] xs ys zero y l m e = absurd cc
replaced_at [] xs ys (suc h) y l m e = absurd cc
replaced_at (m ∷ ms) [] ys h y l k e = absurd (omega (arith, l))
replaced_at (true ∷ ms) (x ∷ xs) [] h y l m e = absurd cc
replaced_at (true ∷ ms) (x ∷ xs) (z ∷ ys) zero y l m e = e
replaced_at (true ∷ ms) (x ∷ xs) (z ∷ ys) (suc h) y l m e = replaced_at ms xs ys h y (omega (arith, l)) m e
replaced_at (false ∷ ms) (x ∷ xs) ys zero y l m e = absurd cc
replaced_at (false ∷ ms) (x ∷ xs) ys (suc h) y l m e = replaced_at ms xs ys h y (omega (arith, l)) m e

pub kept_at : (ms : List Bool) (xs ys : List ℕ) (h : ℕ) → slice_index_or ms h false ≡ false → slice_get (replaced ms xs ys) h ≡ slice_get xs h
kept_at [] xs ys h m = refl
kept_at (m ∷ ms) [] ys h k = refl
kept_at (true ∷ ms) (x ∷ xs) [] h k = refl
kept_at (true ∷ ms) (x ∷ xs) (y ∷ ys) zero k = absurd cc
kept_at (true ∷ ms) (x ∷ xs) (y ∷ ys) (suc h) k = kept_at ms xs ys h k
kept_at (false ∷ ms) (x ∷ xs) ys zero k = refl
kept_at (false ∷ ms) (x ∷ xs) ys (suc h) k = kept_at ms xs ys h k

pub replaced_count : {A : Type 0} (ms : List Bool) (xs ys : List A) → length (replaced ms xs ys) ≡ length xs
replaced_count [] xs ys = refl
replaced_count (m ∷ ms) [] ys = refl
replaced_count (true ∷ ms) (x ∷ xs) [] = refl
replaced_count (true ∷ ms) (x ∷ xs) (y ∷ ys) = ap suc (replaced_count ms xs ys)
replaced_count (false ∷ ms) (x ∷ xs) ys = ap suc (replaced_count ms xs ys)

pub marked_within : (ms : List Bool) (gs : List Sort) (h : ℕ) → h < length gs → slice_index_or ms h false ≡ true → marked ms h < length (picked ms gs)
marked_within [] gs zero l m = absurd cc
marked_within [] gs (suc h) l m = absurd cc
marked_within (m ∷ ms) [] h l k = absurd (omega (arith, l))
marked_within (true ∷ ms) (s ∷ gs) zero l m = omega arith
marked_within (false ∷ ms) (s ∷ gs) zero l m = absurd cc
marked_within (true ∷ ms) (s ∷ gs) (suc h) l m = let r = marked_within ms gs h (omega (arith, l)) m in omega (arith, r)
marked_within (false ∷ ms) (s ∷ gs) (suc h) l m = marked_within ms gs h (omega (arith, l)) m

pub picked_replaced : {A : Type 0} (ms : List Bool) (xs ys : List A) (gs : List Sort) → length xs ≡ length gs → length ys ≡ length (picked ms gs) → picked ms (replaced ms xs ys) ≡ ys
picked_replaced [] xs [] gs e f = refl
picked_replaced [] xs (y ∷ ys) gs e f = absurd (omega (arith, f))
picked_replaced (m ∷ ms) [] [] [] e f = refl
picked_replaced (m ∷ ms) [] (y ∷ ys) [] e f = absurd (omega (arith, f))
picked_replaced (m ∷ ms) [] ys (s ∷ gs) e f = absurd (omega (arith, e))
picked_replaced (m ∷ ms) (x ∷ xs) ys [] e f = absurd (omega (arith, e))
picked_replaced (true ∷ ms) (x ∷ xs) [] (s ∷ gs) e f = absurd (omega (arith, f))
picked_replaced (true ∷ ms) (x ∷ xs) (y ∷ ys) (s ∷ gs) e f = ap (λ r. y ∷ r) (picked_replaced ms xs ys gs (omega (arith, e)) (omega (arith, f)))
picked_replaced (false ∷ ms) (x ∷ xs) ys (s ∷ gs) e f = picked_replaced ms xs ys gs (omega (arith, e)) f
