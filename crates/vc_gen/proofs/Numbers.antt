-- Lists of consecutive numbers, part by part.
use Rattle.std.proofs.Common.{◌≡◌, ℕ, zero, suc, ◌+◌, List, ◌∷◌, ◌++◌, arith, sym, ◌∙◌, ap, append_assoc}
use Rattle.flat_prog.specs.Sites.{numbers_from}

pub numbers_append : (k n m : ℕ) → numbers_from k (n + m) ≡ numbers_from k n ++ numbers_from (k + n) m
numbers_append k zero m =
    let e : zero + m ≡ m = omega arith in
    let f : k ≡ k + zero = omega arith in
    ap (numbers_from k) e ∙ ap (λ i. numbers_from i m) f
numbers_append k (suc n) m =
    let e : suc n + m ≡ suc (n + m) = omega arith in
    let f : k + 1 + n ≡ k + suc n = omega arith in
    ap (numbers_from k) e ∙ ap (λ r. k ∷ r) (numbers_append (k + 1) n m ∙ ap (λ i. numbers_from (k + 1) n ++ numbers_from i m) f)

-- numbers of two parts
pub numbers_then : (xs ys zs : List ℕ) (k i n m c : ℕ) → ys ≡ xs ++ numbers_from k n → i ≡ k + n → zs ≡ ys ++ numbers_from i m → c ≡ n + m → zs ≡ xs ++ numbers_from k c
numbers_then xs ys zs k i n m c h e g is =
    g ∙ ap (λ r. r ++ numbers_from i m) h ∙ append_assoc xs (numbers_from k n) (numbers_from i m)
    ∙ ap (λ r. xs ++ r) (ap (λ j. numbers_from k n ++ numbers_from j m) e ∙ sym (numbers_append k n m) ∙ ap (numbers_from k) (sym is))
