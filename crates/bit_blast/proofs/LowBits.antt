-- The bits of values, and the numbers that they are.
use Rattle.std.proofs.Common.{◌≡◌, ℕ, zero, suc, ◌+◌, ◌*◌, ◌/◌, ◌%◌, ◌^◌, ◌<◌, ◌≤◌, Bool, true, false, ◌&&◌, List, [], ◌∷◌, ◌++◌, ◌-◌, length, append_assoc, refl, ap, sym, ◌∙◌, subst, arith}
use Rattle.std.specs.Prelude.{nat_eq, nat_lt, IsTrue}
use Rattle.std.proofs.Math.Nat.{pow-succ', pow-zero}
use Rattle.std.proofs.lemmas.Bool.Decides.{nat_tests}
use Rattle.hy_val.specs.Sorts.{scalar_of, is_scalar, has_scalar, rank}
use Rattle.hy_val.specs.declared.sort.Scalar.{Scalar}
use Rattle.hy_val.specs.declared.sort.ScalarKind.TheVariants.{Bool as BoolSort, Bv as BvSort}
use Rattle.hy_val.specs.declared.atom.Atom.{Atom}
use Rattle.hy_val.specs.declared.atom.AtomKind.TheVariants.{Bool as BoolAtom, Bv as BvAtom}
use Rattle.gate_net.specs.declared.net.Net.{Net}
use Rattle.bit_blast.specs.Words.{bit, number, carried, bits, word}
use Rattle.bit_blast.specs.Blasted.{scalar_width, low_bits, atom_bits}
use Rattle.bit_blast.proofs.Growing.{bits-push, length-bits}

pub and_left : (a b : Bool) → IsTrue (a && b) → IsTrue a
and_left true b h = refl
and_left false b h = h

pub and_right : (a b : Bool) → IsTrue (a && b) → IsTrue b
and_right true b h = h
and_right false b h = cc

pub and_both : (a b : Bool) → IsTrue a → IsTrue b → IsTrue (a && b)
and_both true b h k = k
and_both false b h k = h

-- ---- low bits of numbers

bit_is : (m : ℕ) → m < 2 → bit (nat_eq m 1) ≡ m
bit_is zero h = refl
bit_is (suc zero) h = refl
bit_is (suc (suc m)) h = absurd (omega (arith, h))

pub number-low : (w n : ℕ) → n < 2 ^ w → number (low_bits w n) ≡ n
number-low zero n h = omega (arith, h, pow-zero 2)
number-low (suc w) n h =
    let half : n / 2 < 2 ^ w = omega (arith, h, pow-succ' 2 w) in
    let rest : number (low_bits w (n / 2)) ≡ n / 2 = number-low w (n / 2) half in
    let first : bit (nat_eq (n % 2) 1) ≡ n % 2 = bit_is (n % 2) (omega arith) in
    omega (arith, rest, first)

one_bit : (b : Bool) → nat_eq (bit b) 1 ≡ b
one_bit true = refl
one_bit false = refl

pub low-number : (bs : List Bool) → low_bits (length bs) (number bs) ≡ bs
low-number [] = refl
low-number (b ∷ bs) =
    ap (λ (n : ℕ). nat_eq n 1 ∷ low_bits (length bs) ((bit b + 2 * number bs) / 2)) (rest b (number bs))
    ∙ ap (λ (n : ℕ). nat_eq (bit b) 1 ∷ low_bits (length bs) n) (half b (number bs))
    ∙ ap (λ (x : Bool). x ∷ low_bits (length bs) (number bs)) (one_bit b)
    ∙ ap (λ (r : List Bool). b ∷ r) (low-number bs)
  where
    rest : (x : Bool) (n : ℕ) → (bit x + 2 * n) % 2 ≡ bit x
    rest true n = omega arith
    rest false n = omega arith

    half : (x : Bool) (n : ℕ) → (bit x + 2 * n) / 2 ≡ n
    half true n = omega arith
    half false n = omega arith

pub length-low : (w n : ℕ) → length (low_bits w n) ≡ w
length-low zero n = refl
length-low (suc w) n = ap suc (length-low w (n / 2))

-- ---- bits of atoms

pub atom_low : (x : Atom) → atom_bits x ≡ low_bits (scalar_width (scalar_of x)) (rank x)
atom_low (BoolAtom true) = refl
atom_low (BoolAtom false) = refl
atom_low (BvAtom v) = refl

pub length-atom : (x : Atom) → length (atom_bits x) ≡ scalar_width (scalar_of x)
length-atom x = ap length (atom_low x) ∙ length-low (scalar_width (scalar_of x)) (rank x)

pub scalar_is : (x : Atom) (s : Scalar) → IsTrue (has_scalar x s) → scalar_of x ≡ s
scalar_is (BoolAtom b) BoolSort h = refl
scalar_is (BoolAtom b) (BvSort w) h = cc
scalar_is (BvAtom v) BoolSort h = cc
scalar_is (BvAtom v) (BvSort w) h =
    let test : nat_eq v.width w ≡ true = and_left (nat_eq v.width w) (is_scalar (BvSort w)) (and_left (nat_eq v.width w && is_scalar (BvSort w)) (nat_lt v.bits (2 ^ w)) h) in
    let same : v.width ≡ w = grind (arith, nat_tests, test) in
    ap (λ (n : ℕ). BvSort n) same

pub rank_below : (x : Atom) (s : Scalar) → IsTrue (has_scalar x s) → rank x < 2 ^ scalar_width s
rank_below (BoolAtom true) BoolSort h = omega arith
rank_below (BoolAtom false) BoolSort h = omega arith
rank_below (BoolAtom b) (BvSort w) h = absurd (let no : false ≡ true → ⊥ = λ y. cc in no h)
rank_below (BvAtom v) BoolSort h = absurd (let no : false ≡ true → ⊥ = λ y. cc in no h)
rank_below (BvAtom v) (BvSort w) h =
    let test : nat_lt v.bits (2 ^ w) ≡ true = and_right (nat_eq v.width w && is_scalar (BvSort w)) (nat_lt v.bits (2 ^ w)) h in
    grind (arith, nat_tests, test)

-- ---- words that carry atoms

pub word_of_atom : (ins : List Bool) (net : Net) (ws : List ℕ) (x : Atom) (s : Scalar) → IsTrue (has_scalar x s) → bits ins net ws ≡ atom_bits x → word ins net ws ≡ rank x
word_of_atom ins net ws x s h is =
    let below : rank x < 2 ^ scalar_width (scalar_of x) = subst (λ (t : Scalar). rank x < 2 ^ scalar_width t) (sym (scalar_is x s h)) (rank_below x s h) in
    ap number (is ∙ atom_low x) ∙ number-low (scalar_width (scalar_of x)) (rank x) below

pub atom_of_word : (ins : List Bool) (net : Net) (ws : List ℕ) (x : Atom) (s : Scalar) → IsTrue (has_scalar x s) → length ws ≡ scalar_width s → word ins net ws ≡ rank x
    → bits ins net ws ≡ atom_bits x
atom_of_word ins net ws x s h len is =
    let many : length (bits ins net ws) ≡ scalar_width (scalar_of x) = length-bits ins net ws ∙ len ∙ ap scalar_width (sym (scalar_is x s h)) in
    sym (low-number (bits ins net ws))
    ∙ ap (λ (n : ℕ). low_bits n (word ins net ws)) many
    ∙ ap (λ (n : ℕ). low_bits (scalar_width (scalar_of x)) n) is
    ∙ sym (atom_low x)

-- ---- literals

pub append_nil : (bs : List Bool) → bs ++ [] ≡ bs
append_nil [] = refl
append_nil (b ∷ bs) = ap (λ (r : List Bool). b ∷ r) (append_nil bs)

-- one more bit of a number
pub literal_step : (ins : List Bool) (net : Net) (out : List ℕ) (k w i rest : ℕ) (target : List Bool) → i < w → carried ins net k ≡ nat_eq (rest % 2) 1
    → bits ins net out ++ low_bits (w - i) rest ≡ target → bits ins net (out ++ k ∷ []) ++ low_bits (w - (i + 1)) (rest / 2) ≡ target
literal_step ins net out k w i rest target less is h =
    let left : suc (w - (i + 1)) ≡ w - i = omega (arith, less) in
    ap (λ (r : List Bool). r ++ low_bits (w - (i + 1)) (rest / 2)) (bits-push ins net out k)
    ∙ append_assoc (bits ins net out) (carried ins net k ∷ []) (low_bits (w - (i + 1)) (rest / 2))
    ∙ ap (λ (b : Bool). bits ins net out ++ b ∷ low_bits (w - (i + 1)) (rest / 2)) is
    ∙ ap (λ (m : ℕ). bits ins net out ++ low_bits m rest) left
    ∙ h

pub literal_end : (bs : List Bool) (w i rest : ℕ) (target : List Bool) → w ≤ i → bs ++ low_bits (w - i) rest ≡ target → bs ≡ target
literal_end bs w i rest target most h =
    let none : w - i ≡ 0 = omega (arith, most) in
    sym (append_nil bs) ∙ ap (λ (m : ℕ). bs ++ low_bits m rest) (sym none) ∙ h
