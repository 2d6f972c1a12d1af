-- Loops that write one item after the other: what is written, and then the rest, is the whole.
use Rattle.std.proofs.Common.{◌≡◌, ℕ, ◌+◌, ◌-◌, ◌<◌, ◌≤◌, List, [], ◌∷◌, ◌++◌, length, get_or, take, drop, arith, ap, sym, ◌∙◌, append_assoc}
use Rattle.std.specs.Prelude.{flat_map, false, suc, nat_eq, if◌then◌else◌}
use Rattle.std.specs.List.{join_by}
use Rattle.std.proofs.lemmas.Grind.{flat_map-append}
use Rattle.std.proofs.lemmas.List.{append-nil, at_drop_more, at_drop_all, length-take-le, take_all, take_more}
use Rattle.bpl_show.specs.Tokens.{Token, written}
use Rattle.bpl_show.proofs.Written.{written-nil, written-append}

-- two parts in a row
pub both : (xs ys : List Token) (before middle after : List ℕ) → middle ≡ written before xs → after ≡ written middle ys → after ≡ written before (xs ++ ys)
both xs ys before middle after first second = second ∙ ap (λ o. written o ys) first ∙ sym (written-append before xs ys)

pub five : (a b c d e : List Token) (o p q r s t : List ℕ) → p ≡ written o a → q ≡ written p b → r ≡ written q c → s ≡ written r d → t ≡ written s e → t ≡ written o (a ++ b ++ c ++ d ++ e)
five a b c d e o p q r s t h1 h2 h3 h4 h5 = both (a ++ b ++ c ++ d) e o s t (both (a ++ b ++ c) d o r s (both (a ++ b) c o q r (both a b o p q h1 h2) h3) h4) h5

module _ {X : Type 0} (f : X → List Token) (xs : List X) (i : ℕ) (start : List ℕ) where
  next : (x : X) (before : List ℕ) → i < length xs → x ≡ get_or xs i x → written before (flat_map f (drop i xs)) ≡ written (written before (f x)) (flat_map f (drop (i + 1) xs))
  next x before within is =
      at_drop_more (λ l. written before (flat_map f l)) xs i x within ∙
      ap (λ y. written before (f y ++ flat_map f (drop (i + 1) xs))) (sym is) ∙
      written-append before (f x) (flat_map f (drop (i + 1) xs))

  pub step : (x : X) (before after : List ℕ) → i < length xs → x ≡ get_or xs i x → after ≡ written before (f x) → written before (flat_map f (drop i xs)) ≡ start → written after (flat_map f (drop (i + 1) xs)) ≡ start
  step x before after within is wrote whole = ap (λ o. written o (flat_map f (drop (i + 1) xs))) wrote ∙ sym (next x before within is) ∙ whole

  pub done : (out : List ℕ) → length xs ≤ i → written out (flat_map f (drop i xs)) ≡ start → out ≡ start
  done out past whole = sym (at_drop_all (λ l. written out (flat_map f l)) xs i past ∙ written-nil out) ∙ whole

take_push : {X : Type 0} (xs : List X) (i : ℕ) (x : X) → i < length xs → x ≡ get_or xs i x → take (i + 1) xs ≡ take i xs ++ x ∷ []
take_push xs i x within is = take_more xs i x within ∙ ap (λ y. take i xs ++ y ∷ []) (sym is)

length_front : {X : Type 0} (xs : List X) (i : ℕ) → i < length xs → length (take i xs) ≡ i
length_front xs i within = length-take-le i xs (omega arith)

-- a list is its first item and the rest
first_is : {X : Type 0} (x : X) (xs : List X) → 1 ≤ length xs → x ≡ get_or xs 0 x → x ∷ take (length xs - 1) (drop 1 xs) ≡ xs
first_is x [] some is = absurd (omega arith)
first_is x (y ∷ ys) some is =
    let rest : take (length (y ∷ ys) - 1) ys ≡ ys = take_all (length (y ∷ ys) - 1) ys (omega arith) in
    ap (λ z. z ∷ take (length (y ∷ ys) - 1) ys) is ∙ ap (λ l. y ∷ l) rest

pub joined_from : {X : Type 0} (f : X → List Token) (sep : List Token) (x : X) (xs : List X) (before middle after : List ℕ) → 1 ≤ length xs → x ≡ get_or xs 0 x → middle ≡ written before (f x) → after ≡ written middle (flat_map (λ y. sep ++ f y) (take (length xs - 1) (drop 1 xs))) → after ≡ written before (join_by f sep xs)
joined_from f sep x xs before middle after some is first others =
    let rest = take (length xs - 1) (drop 1 xs) in
    both (f x) (flat_map (λ y. sep ++ f y) rest) before middle after first others ∙
    ap (λ l. written before (join_by f sep l)) (first_is x xs some is)

-- ---- one item more, with a separator before it unless it is the first

not_first : (n : ℕ) → nat_eq (suc n) 0 ≡ false
not_first n = grind arith

module _ {X : Type 0} (f : X → List Token) (sep : List Token) where
  joined-push : (xs : List X) (x : X) → join_by f sep (xs ++ x ∷ []) ≡ join_by f sep xs ++ (if nat_eq (length xs) 0 then f x else sep ++ f x)
  joined-push [] x = append-nil (f x)
  joined-push (y ∷ ys) x =
      let others : flat_map (λ z. sep ++ f z) (ys ++ x ∷ []) ≡ flat_map (λ z. sep ++ f z) ys ++ (sep ++ f x) = flat_map-append (λ z. sep ++ f z) ys (x ∷ []) ∙ ap (λ l. flat_map (λ z. sep ++ f z) ys ++ l) (append-nil (sep ++ f x)) in
      ap (λ l. f y ++ l) others ∙ sym (append_assoc (f y) (flat_map (λ z. sep ++ f z) ys) (sep ++ f x)) ∙ ap (λ b. (f y ++ flat_map (λ z. sep ++ f z) ys) ++ (if b then f x else sep ++ f x)) (sym (not_first (length ys)))

  joined-more : (xs : List X) (i : ℕ) (x : X) → i < length xs → x ≡ get_or xs i x → join_by f sep (take (i + 1) xs) ≡ join_by f sep (take i xs) ++ (if nat_eq i 0 then f x else sep ++ f x)
  joined-more xs i x within is =
      let taken : take (i + 1) xs ≡ take i xs ++ x ∷ [] = take_push xs i x within is in
      let long : length (take i xs) ≡ i = length_front xs i within in
      ap (join_by f sep) taken ∙ joined-push (take i xs) x ∙ ap (λ n. join_by f sep (take i xs) ++ (if nat_eq n 0 then f x else sep ++ f x)) long

  pub link_more : (xs : List X) (i : ℕ) (x : X) (start before after : List ℕ) → i < length xs → x ≡ get_or xs i x → before ≡ written start (join_by f sep (take i xs)) → after ≡ written before (if nat_eq i 0 then f x else sep ++ f x) → after ≡ written start (join_by f sep (take (i + 1) xs))
  link_more xs i x start before after within is first wrote =
      both (join_by f sep (take i xs)) (if nat_eq i 0 then f x else sep ++ f x) start before after first wrote ∙
      ap (written start) (sym (joined-more xs i x within is))
