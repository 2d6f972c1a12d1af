-- What a read from a place on takes of a list.
use Rattle.std.proofs.Common.{◌≡◌, ◌≤◌, ◌<◌, ◌+◌, ◌-◌, ℕ, List, [], ◌++◌, take, drop, length, min, arith, sym, ◌∙◌, ap}
use Rattle.std.proofs.Math.Seq.{take-append_seam}
use Rattle.std.proofs.lemmas.List.{take-append-drop, drop-drop, drop_all, length-take-le, length-append, length-drop}

pub taken_back : (at n : ℕ) (xs front rest : List ℕ) → at + n ≤ length xs → front ≡ take n (drop at xs) → drop at xs ≡ take n (front ++ rest) ++ drop (at + n) xs
taken_back at n xs front rest within same =
    let room : n ≤ length (drop at xs) = omega (arith, length-drop at xs) in
    let size : length front ≡ n = ap length same ∙ length-take-le n (drop at xs) room in
    let cut : take n (front ++ rest) ≡ front = ap (λ k. take k (front ++ rest)) (sym size) ∙ take-append_seam front rest in
    sym (ap (λ p. p ++ drop (at + n) xs) (cut ∙ same) ∙ ap (λ p. take n (drop at xs) ++ p) (sym (drop-drop n at xs)) ∙ take-append-drop n (drop at xs))

-- a read that gives nothing to a buffer with room is at the end
pub none_left : (at n most room len : ℕ) (xs : List ℕ) → (0 < most → 0 < n) → most ≡ min room (len - at) → len ≡ length xs → n ≡ 0 → 0 < room → drop (at + n) xs ≡ []
none_left at n most room len xs some most_is len_is none is_room = drop_all (at + n) xs (grind arith)

-- the front of a buffer was written over by as many bytes
pub same_room : (n : ℕ) (front buf : List ℕ) → length front ≡ n → 0 < length (front ++ drop n buf) → n ≤ length buf → 0 < length buf
same_room n front buf size some within = omega (arith, length-append front (drop n buf), length-drop n buf)
