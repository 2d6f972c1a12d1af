-- Words with a gate on each bit.
use Rattle.std.proofs.Common.{◌≡◌, ℕ, ◌-◌, ◌^◌, Bool, true, false, not, ◌&&◌, List, length, map, refl, ap, sym, ◌∙◌, if◌then◌else◌}
use Rattle.std.specs.Prelude.{replicate}
use Rattle.hy_val.specs.Bits.{bvnot}
use Rattle.gate_net.specs.Net.{xor}
use Rattle.gate_net.specs.declared.net.Net.{Net}
use Rattle.bit_blast.specs.declared.word.Pairing.TheVariants as pairing
use Rattle.bit_blast.specs.Words.{number, carried, bits, word, AreWires, Grows, Says, Means}
use Rattle.bit_blast.specs.Pairings.{pair_value, zipped}
use Rattle.bit_blast.proofs.Growing.{bits-repeated, length-bits, same_word, as_before}
use Rattle.bit_blast.proofs.Numbers.{zipped-first, zipped-second, zipped-replicate, number-kept, number-none, number-turned}

pub chosen_by : (f : Bool → Bool → Bool) (xs ys : List Bool) (x : Bool) → ((a b : Bool) → f a b ≡ (if x then a else b)) → length xs ≡ length ys
    → number (zipped f xs ys) ≡ (if x then number xs else number ys)
chosen_by f xs ys true h l = ap number (zipped-first f h xs ys l)
chosen_by f xs ys false h l = ap number (zipped-second f h xs ys l)

-- a word and one bit beside each of its bits
beside : (f : Bool → Bool → Bool) (ins : List Bool) (net : Net) (as' ons : List ℕ) (n on : ℕ) → n ≡ length as' → ons ≡ replicate n on
    → zipped f (bits ins net as') (bits ins net ons) ≡ map (λ (a : Bool). f a (carried ins net on)) (bits ins net as')
beside f ins net as' ons n on len is =
    let many : n ≡ length (bits ins net as') = len ∙ sym (length-bits ins net as') in
    ap (λ (ks : List ℕ). zipped f (bits ins net as') (bits ins net ks)) is
    ∙ ap (zipped f (bits ins net as')) (bits-repeated ins net n on ∙ ap (λ (m : ℕ). replicate m (carried ins net on)) many)
    ∙ zipped-replicate f (carried ins net on) (bits ins net as')

xor_true : (a : Bool) → xor a true ≡ not a
xor_true true = refl
xor_true false = refl

xor_false : (a : Bool) → xor a false ≡ a
xor_false true = refl
xor_false false = refl

and_true : (a : Bool) → (a && true) ≡ a
and_true true = refl
and_true false = refl

and_false : (a : Bool) → (a && false) ≡ false
and_false true = refl
and_false false = refl

turned_by : (xs : List Bool) (w : ℕ) (b : Bool) → length xs ≡ w → number (map (λ (a : Bool). xor a b) xs) ≡ (if b then bvnot w (number xs) else number xs)
turned_by xs w true h = number-turned (λ (a : Bool). xor a true) xor_true xs ∙ ap (λ (n : ℕ). 2 ^ n - 1 - number xs) h
turned_by xs w false h = number-kept (λ (a : Bool). xor a false) xor_false xs

masked_by : (xs : List Bool) (b : Bool) → number (map (λ (a : Bool). a && b) xs) ≡ (if b then number xs else 0)
masked_by xs true = number-kept (λ (a : Bool). a && true) and_true xs
masked_by xs false = number-none (λ (a : Bool). a && false) and_false xs

pub turned_law : (ins : List Bool) (net : Net) (as' ons : List ℕ) (n on : ℕ) → n ≡ length as' → ons ≡ replicate n on
    → number (zipped (pair_value ins net pairing.Xor) (bits ins net as') (bits ins net ons)) ≡ (if carried ins net on then bvnot (length as') (word ins net as') else word ins net as')
turned_law ins net as' ons n on len is =
    ap number (beside (pair_value ins net pairing.Xor) ins net as' ons n on len is) ∙ turned_by (bits ins net as') (length as') (carried ins net on) (length-bits ins net as')

pub masked_law : (ins : List Bool) (net : Net) (as' ons : List ℕ) (n on : ℕ) → n ≡ length as' → ons ≡ replicate n on
    → number (zipped (pair_value ins net pairing.And) (bits ins net as') (bits ins net ons)) ≡ (if carried ins net on then word ins net as' else 0)
masked_law ins net as' ons n on len is =
    ap number (beside (pair_value ins net pairing.And) ins net as' ons n on len is) ∙ masked_by (bits ins net as') (carried ins net on)

pub not_law : (n0 n1 n2 : Net) (as' out : List ℕ) (on j k : ℕ) → Grows n0 n1 j → Grows n1 n2 k → AreWires n0 as' → Says n1 on (λ ins. true)
    → Means n2 out (λ ins. if carried ins n1 on then bvnot (length as') (word ins n1 as') else word ins n1 as') → Means n2 out (λ ins. bvnot (length as') (word ins n0 as'))
not_law n0 n1 n2 as' out on j k g1 g2 wa son law ins e2 =
    let e1 : length ins ≡ n1.inputs = as_before ins g2 e2 in
    law ins e2
    ∙ ap (λ (b : Bool). if b then bvnot (length as') (word ins n1 as') else word ins n1 as') (son ins e1)
    ∙ ap (bvnot (length as')) (same_word ins as' g1 (as_before ins g1 e1) wa)
