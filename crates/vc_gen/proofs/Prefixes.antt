-- The front of a list.
use Rattle.std.proofs.Common.{◌≡◌, ℕ, zero, suc, ◌+◌, List, [], ◌∷◌, ◌++◌, length, take, arith, sym, ◌∙◌, ap, refl, length-append}

pub take_both : {A : Type 0} (n m : ℕ) (xs ys : List A) → length xs ≡ n → take (n + m) (xs ++ ys) ≡ xs ++ take m ys
take_both n m [] ys h = let e : n + m ≡ m = omega (arith, h) in ap (λ k. take k ys) e
take_both zero m (x ∷ xs) ys h = absurd (omega (arith, h))
take_both (suc n) m (x ∷ xs) ys h = let e : suc n + m ≡ suc (n + m) = omega arith in ap (λ k. take k (x ∷ (xs ++ ys))) e ∙ ap (λ r. x ∷ r) (take_both n m xs ys (omega (arith, h)))

-- a front of the rest is one of the whole
pub prefix_then : {A : Type 0} (xs ys zs whole : List A) → whole ≡ xs ++ ys → ys ≡ take (length ys) zs → whole ≡ take (length whole) (xs ++ zs)
prefix_then xs ys zs whole e h =
    e ∙ ap (λ r. xs ++ r) h ∙ sym (take_both (length xs) (length ys) xs zs refl) ∙ ap (λ n. take n (xs ++ zs)) (sym (ap length e ∙ length-append xs ys))

pub prefix_none : {A : Type 0} (xs zs : List A) → xs ≡ [] → xs ≡ take (length xs) zs
prefix_none xs zs h = h ∙ sym (ap (λ ys. take (length ys) zs) h)
