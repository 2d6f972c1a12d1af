-- One step along a comment.
use Rattle.std.proofs.Common.{◌≡◌, ℕ, suc, ◌+◌, ◌-◌, ◌<◌, ◌≤◌, true, false, List, [], ◌∷◌, length, get_or, drop, Option, Some, None, option_map, refl, sym, ap, ◌∙◌, arith, drop-cons}
use Rattle.std.proofs.lemmas.List.{length-drop}
use Rattle.bpl_tok.specs.Pieces.{comment_len, closes, opens}

two_at : (bs : List ℕ) (i : ℕ) → i + 2 ≤ length bs → drop i bs ≡ get_or bs i 0 ∷ (get_or bs (i + 1) 0 ∷ drop (i + 2) bs)
two_at bs i le =
    let lt : i < length bs = omega arith in
    let lt1 : suc i < length bs = omega arith in
    let e1 : i + 1 ≡ suc i = omega arith in
    let e2 : i + 2 ≡ suc (suc i) = omega arith in
    rw (e1, e2) (drop-cons bs i 0 lt ∙ ap (λ (t : List ℕ). get_or bs i 0 ∷ t) (drop-cons bs (suc i) 0 lt1))

module _ (bs : List ℕ) (i depth : ℕ) (total : Option ℕ) (le : i + 2 ≤ length bs) (so_far : option_map (λ n. i + n) (comment_len depth (drop i bs)) ≡ total) where
  plus : (o : Option ℕ) (k : ℕ) → option_map (λ n. i + n) (option_map (λ n. n + k) o) ≡ option_map (λ n. (i + k) + n) o
  plus None k = refl
  plus (Some n) k = ap Some (omega arith)

  pub nested : closes (get_or bs i 0) (get_or bs (i + 1) 0) ≡ false → opens (get_or bs i 0) (get_or bs (i + 1) 0) ≡ true
      → option_map (λ n. (i + 2) + n) (comment_len (depth + 1) (drop (i + 2) bs)) ≡ total
  unfolding comment_len
  nested h k =
      let here : comment_len depth (drop i bs) ≡ option_map (λ n. n + 2) (comment_len (depth + 1) (drop (i + 2) bs)) = let up : depth + 1 ≡ suc depth = omega arith in rw (two_at bs i le, h, k, up) refl in
      let there = rw here at so_far in
      sym (plus (comment_len (depth + 1) (drop (i + 2) bs)) 2) ∙ there

  pub plain : closes (get_or bs i 0) (get_or bs (i + 1) 0) ≡ false → opens (get_or bs i 0) (get_or bs (i + 1) 0) ≡ false
      → option_map (λ n. (i + 1) + n) (comment_len depth (drop (i + 1) bs)) ≡ total
  unfolding comment_len
  plain h k =
      let lt1 : suc i < length bs = omega arith in
      let tail : drop (i + 1) bs ≡ get_or bs (i + 1) 0 ∷ drop (i + 2) bs = (let e1 : i + 1 ≡ suc i = omega arith in let e2 : i + 2 ≡ suc (suc i) = omega arith in rw (e1, e2) (drop-cons bs (suc i) 0 lt1)) in
      let here : comment_len depth (drop i bs) ≡ option_map (λ n. n + 1) (comment_len depth (drop (i + 1) bs)) = rw (two_at bs i le, h, k, tail) refl in
      let there = rw here at so_far in
      sym (plus (comment_len depth (drop (i + 1) bs)) 1) ∙ there

  pub is_closed : depth ≡ 0 → closes (get_or bs i 0) (get_or bs (i + 1) 0) ≡ true → Some (i + 2) ≡ total
  unfolding comment_len
  is_closed e h =
      let here : comment_len depth (drop i bs) ≡ Some 2 = rw (two_at bs i le, h, e) refl in
      let there = rw here at so_far in there

  less_at : (d : ℕ) → depth ≡ suc d → closes (get_or bs i 0) (get_or bs (i + 1) 0) ≡ true
      → option_map (λ n. (i + 2) + n) (comment_len d (drop (i + 2) bs)) ≡ total
  unfolding comment_len
  less_at d e h =
      let here : comment_len depth (drop i bs) ≡ option_map (λ n. n + 2) (comment_len d (drop (i + 2) bs)) = rw (two_at bs i le, h, e) refl in
      let there = rw here at so_far in
      sym (plus (comment_len d (drop (i + 2) bs)) 2) ∙ there

  pub less : 0 < depth → closes (get_or bs i 0) (get_or bs (i + 1) 0) ≡ true
      → option_map (λ n. (i + 2) + n) (comment_len (depth - 1) (drop (i + 2) bs)) ≡ total
  less lt h = less_at (depth - 1) (omega arith) h

short : (depth : ℕ) (bs : List ℕ) → length bs < 2 → comment_len depth bs ≡ None
unfolding comment_len
short depth [] h = refl
short depth (b ∷ []) h = refl
short depth (b ∷ c ∷ bs) h = absurd (omega arith)

pub never_closed : (bs : List ℕ) (i depth : ℕ) (total : Option ℕ) → length bs - i < 2 → option_map (λ n. i + n) (comment_len depth (drop i bs)) ≡ total → None ≡ total
never_closed bs i depth total lt so_far =
    let none = short depth (drop i bs) (omega (arith, length-drop i bs)) in
    let there = rw none at so_far in there
