-- Comments, strings and signs by the text of the piece alone.
use Rattle.std.proofs.Common.{◌≡◌, ◌≢◌, ℕ, zero, suc, ◌+◌, ◌-◌, ◌≤◌, Bool, true, false, not, ◌&&◌, ◌==◌, List, [], ◌∷◌, ◌++◌, length, take, drop, nat_eq, nat_le, refl, sym, ap, subst, ◌∙◌, arith, inl, inr}
use Rattle.std.specs.Prelude.{Some, None}
use Rattle.std.specs.List.{list_all, starts_with}
use Rattle.std.proofs.lemmas.Bool.{cases_Bool}
use Rattle.std.proofs.lemmas.Bool.Decides.{nat_tests, Decides-eqb}
use Rattle.std.proofs.lemmas.List.{take-append-drop, take-append-le, take_at}
use Rattle.std.proofs.lemmas.Slice.Eq.{starts_is}
use Rattle.bpl_tok.specs.declared.token.Terminal.{Terminal}
use Rattle.bpl_tok.specs.Spellings.{Spelling, sign_of}
use Rattle.bpl_tok.specs.Pieces.{closes, comment_len, opens, string_len}
use Rattle.bpl_tok.specs.Cuts.{HasSpelling, IsClosed, is_longest}
use Rattle.bpl_tok.proofs.Runs.{begins, option_map_some}

-- what is left of a comment is its `*/` at least
pub comment_len-two : (depth : ℕ) (bs : List ℕ) (n : ℕ) → comment_len depth bs ≡ Some n → 2 ≤ n
unfolding comment_len
comment_len-two depth [] n h = absurd cc
comment_len-two depth (b ∷ []) n h = absurd cc
comment_len-two zero (b ∷ c ∷ bs) n h = elim (cases_Bool (closes b c)) [
  | inl k ↦ (let e = rw k at h in let two : 2 ≡ n = cc in omega arith)
  | inr k ↦ elim (cases_Bool (opens b c)) [
    | inl j ↦ (let (m, e, s) = option_map_some (comment_len 1 bs) 2 n (rw (k, j) at h) in omega arith)
    | inr j ↦ (let (m, e, s) = option_map_some (comment_len 0 (c ∷ bs)) 1 n (rw (k, j) at h) in omega (arith, comment_len-two zero (c ∷ bs) m e))
  ]
]
comment_len-two (suc depth) (b ∷ c ∷ bs) n h = elim (cases_Bool (closes b c)) [
  | inl k ↦ (let (m, e, s) = option_map_some (comment_len depth bs) 2 n (rw k at h) in omega arith)
  | inr k ↦ elim (cases_Bool (opens b c)) [
    | inl j ↦ (let (m, e, s) = option_map_some (comment_len (suc (suc depth)) bs) 2 n (rw (k, j) at h) in omega arith)
    | inr j ↦ (let (m, e, s) = option_map_some (comment_len (suc depth) (c ∷ bs)) 1 n (rw (k, j) at h) in omega (arith, comment_len-two (suc depth) (c ∷ bs) m e))
  ]
]

module _ (b c : ℕ) (bs : List ℕ) (depth m : ℕ) where
  jump : take (m + 2) (b ∷ c ∷ bs) ≡ b ∷ (c ∷ take m bs)
  jump = let e : m + 2 ≡ suc (suc m) = omega arith in rw e refl

  stride : 2 ≤ m → take (m + 1) (b ∷ c ∷ bs) ≡ b ∷ (c ∷ take (m - 1) bs)
  stride le = let e : m + 1 ≡ suc (suc (m - 1)) = omega arith in rw e refl

  stride_tail : 2 ≤ m → take m (c ∷ bs) ≡ c ∷ take (m - 1) bs
  stride_tail le =
      let P : ℕ → Type 0 = λ k. take k (c ∷ bs) ≡ c ∷ take (m - 1) bs in
      let e : suc (m - 1) ≡ m = omega arith in
      subst P e refl

  stable_open : closes b c ≡ false → opens b c ≡ true → comment_len (suc depth) (take m bs) ≡ Some m → comment_len depth (take (m + 2) (b ∷ c ∷ bs)) ≡ Some (m + 2)
  unfolding comment_len
  stable_open k j ih = rw (jump, k, j, ih) refl

  stable_plain : 2 ≤ m → closes b c ≡ false → opens b c ≡ false → comment_len depth (take m (c ∷ bs)) ≡ Some m → comment_len depth (take (m + 1) (b ∷ c ∷ bs)) ≡ Some (m + 1)
  unfolding comment_len
  stable_plain le k j ih =
      let there : comment_len depth (c ∷ take (m - 1) bs) ≡ Some m = ap (comment_len depth) (sym (stride_tail le)) ∙ ih in
      rw (stride le, k, j, there) refl

  stable_close : closes b c ≡ true → comment_len depth (take m bs) ≡ Some m → comment_len (suc depth) (take (m + 2) (b ∷ c ∷ bs)) ≡ Some (m + 2)
  unfolding comment_len
  stable_close k ih = rw (jump, k, ih) refl

-- what stands after a comment has no part in it
pub comment_len-take : (depth : ℕ) (bs : List ℕ) (n : ℕ) → comment_len depth bs ≡ Some n → comment_len depth (take n bs) ≡ Some n
unfolding comment_len
comment_len-take depth [] n h = absurd cc
comment_len-take depth (b ∷ []) n h = absurd cc
comment_len-take zero (b ∷ c ∷ bs) n h = elim (cases_Bool (closes b c)) [
  | inl k ↦ (let e = rw k at h in let two : n ≡ 2 = cc in rw (two, k) refl)
  | inr k ↦ elim (cases_Bool (opens b c)) [
    | inl j ↦ (let (m, e, s) = option_map_some (comment_len 1 bs) 2 n (rw (k, j) at h) in rw s (stable_open b c bs 0 m k j (comment_len-take 1 bs m e)))
    | inr j ↦ (let (m, e, s) = option_map_some (comment_len 0 (c ∷ bs)) 1 n (rw (k, j) at h) in rw s (stable_plain b c bs 0 m (comment_len-two 0 (c ∷ bs) m e) k j (comment_len-take 0 (c ∷ bs) m e)))
  ]
]
comment_len-take (suc depth) (b ∷ c ∷ bs) n h = elim (cases_Bool (closes b c)) [
  | inl k ↦ (let (m, e, s) = option_map_some (comment_len depth bs) 2 n (rw k at h) in rw s (stable_close b c bs depth m k (comment_len-take depth bs m e)))
  | inr k ↦ elim (cases_Bool (opens b c)) [
    | inl j ↦ (let (m, e, s) = option_map_some (comment_len (suc (suc depth)) bs) 2 n (rw (k, j) at h) in rw s (stable_open b c bs (suc depth) m k j (comment_len-take (suc (suc depth)) bs m e)))
    | inr j ↦ (let (m, e, s) = option_map_some (comment_len (suc depth) (c ∷ bs)) 1 n (rw (k, j) at h) in rw s (stable_plain b c bs (suc depth) m (comment_len-two (suc depth) (c ∷ bs) m e) k j (comment_len-take (suc depth) (c ∷ bs) m e)))
  ]
]

-- Strings.

pub string_len-one : (escaped : Bool) (bs : List ℕ) (n : ℕ) → string_len escaped bs ≡ Some n → 1 ≤ n
unfolding string_len
string_len-one escaped [] n h = absurd cc
string_len-one escaped (b ∷ bs) n h = elim (cases_Bool (b == 10)) [
  | inl k ↦ (let e = rw k at h in absurd cc)
  | inr k ↦ elim (cases_Bool ((b == 34) && not escaped)) [
    | inl j ↦ (let e = rw (k, j) at h in let one : 1 ≡ n = cc in omega arith)
    | inr j ↦ (let (m, e, s) = option_map_some (string_len (b == 92) bs) 1 n (rw (k, j) at h) in omega arith)
  ]
]

-- a byte more in front of a closed end
closed_more : (before b : ℕ) (bs : List ℕ) → (b ≢ 10) → (b ≡ 34 → before ≡ 92) → IsClosed b bs → IsClosed before (b ∷ bs)
closed_more before b [] no_feed no_quote closed = absurd closed
closed_more before b (c ∷ bs) no_feed no_quote closed = (no_feed, no_quote, closed)

closed_here : (before b : ℕ) → ((b == 34) && not (before == 92)) ≡ true → IsClosed before (b ∷ [])
closed_here before b j = (grind (arith, nat_tests), grind (arith, nat_tests))

escaped_here : (before b : ℕ) → ((b == 34) && not (before == 92)) ≡ false → b ≡ 34 → before ≡ 92
escaped_here before b j e = grind (arith, nat_tests)

no_feed_here : (b : ℕ) → (b == 10) ≡ false → b ≢ 10
no_feed_here b k = λ e. absurd (grind (arith, nat_tests))

take_more : (b : ℕ) (bs : List ℕ) (m : ℕ) → take (m + 1) (b ∷ bs) ≡ b ∷ take m bs
take_more b bs m = let e : m + 1 ≡ suc m = omega arith in rw e refl

pub string_len-closed : (before : ℕ) (bs : List ℕ) (n : ℕ) → string_len (before == 92) bs ≡ Some n → IsClosed before (take n bs)
unfolding string_len
string_len-closed before [] n h = absurd cc
string_len-closed before (b ∷ bs) n h = elim (cases_Bool (b == 10)) [
  | inl k ↦ (let e = rw k at h in absurd cc)
  | inr k ↦ elim (cases_Bool ((b == 34) && not (before == 92))) [
    | inl j ↦ (let e = rw (k, j) at h in let one : n ≡ 1 = cc in rw one (closed_here before b j))
    | inr j ↦ (
        let (m, e, s) = option_map_some (string_len (b == 92) bs) 1 n (rw (k, j) at h) in
        rw (s, take_more b bs m) (closed_more before b (take m bs) (no_feed_here b k) (escaped_here before b j) (string_len-closed b bs m e)))
  ]
]

-- Signs.

pub sign_of-spelling : (table : List Spelling) (bs : List ℕ) (s : Terminal × ℕ) → sign_of table bs ≡ Some s → HasSpelling table (take s.1 bs) s.0
unfolding sign_of
sign_of-spelling [] bs s h = absurd cc
sign_of-spelling (entry ∷ more) bs s h = elim (cases_Bool (starts_with nat_eq bs entry.0)) [
  | inl k ↦ (
      let e = rw k at h in
      let len : length entry.0 ≡ s.1 = cc in
      let is : entry.1 ≡ s.0 = cc in
      let front : take (length entry.0) bs ≡ entry.0 = ap (take (length entry.0)) (begins bs entry.0 k) ∙ take_at entry.0 (drop (length entry.0) bs) (length entry.0) refl in
      inl (sym front ∙ ap (λ n. take n bs) len, is))
  | inr k ↦ inr (sign_of-spelling more bs s (rw k at h))
]

-- no text of the table begins with an earlier one
abbrev pub is_ordered : List Spelling → Bool
is_ordered [] = true
is_ordered (entry ∷ more) = list_all (λ later. not (starts_with nat_eq later.0 entry.0)) more && is_ordered more

-- of two texts with which a text begins, the longer begins with the shorter
front_of_front : (bs long short : List ℕ) → starts_with nat_eq bs long ≡ true → starts_with nat_eq bs short ≡ true → length short ≤ length long → starts_with nat_eq long short ≡ true
front_of_front bs long short k j le =
    let e1 : take (length short) bs ≡ short = ap (take (length short)) (begins bs short j) ∙ take_at short (drop (length short) bs) (length short) refl in
    let e2 : take (length short) bs ≡ take (length short) long = ap (take (length short)) (begins bs long k) ∙ take-append-le (length short) long (drop (length long) bs) le in
    let e3 : long ≡ short ++ drop (length short) long = sym (take-append-drop (length short) long) ∙ ap (λ t. t ++ drop (length short) long) (sym e2 ∙ e1) in
    (starts_is Decides-eqb long short (starts_with nat_eq long short) refl).1 (drop (length short) long) e3

longest_later : (more : List Spelling) (bs short : List ℕ) → starts_with nat_eq bs short ≡ true → list_all (λ later. not (starts_with nat_eq later.0 short)) more ≡ true → is_longest more bs (length short) ≡ true
longest_later [] bs short k all = refl
longest_later (later ∷ more) bs short k all =
    elim (cases_Bool (starts_with nat_eq later.0 short)) [
      | inl j ↦ (let e = rw j at all in absurd cc)
      | inr j ↦ (
          let rest = rw j at all in
          elim (cases_Bool (starts_with nat_eq bs later.0)) [
            | inl i ↦ elim (cases_Bool (nat_le (length later.0) (length short))) [
              | inl le ↦ rw (i, le) (longest_later more bs short k rest)
              | inr gt ↦ (
                  let more_than : length short ≤ length later.0 = grind (arith, nat_tests) in
                  let begins_so = front_of_front bs later.0 short i k more_than in
                  absurd cc)
            ]
            | inr i ↦ rw i (longest_later more bs short k rest)
          ])
    ]

pub sign_of-longest : (table : List Spelling) (bs : List ℕ) (s : Terminal × ℕ) → is_ordered table ≡ true → sign_of table bs ≡ Some s → is_longest table bs s.1 ≡ true
unfolding sign_of
sign_of-longest [] bs s ordered h = absurd cc
sign_of-longest (entry ∷ more) bs s ordered h = elim (cases_Bool (list_all (λ later. not (starts_with nat_eq later.0 entry.0)) more)) [
  | inr o ↦ (let e = rw o at ordered in absurd cc)
  | inl o ↦ elim (cases_Bool (starts_with nat_eq bs entry.0)) [
    | inl k ↦ (
        let e = rw k at h in
        let len : s.1 ≡ length entry.0 = cc in
        let le : nat_le (length entry.0) (length entry.0) ≡ true = grind (arith, nat_tests) in
        let P : ℕ → Type 0 = λ n. is_longest (entry ∷ more) bs n ≡ true in
        subst P (sym len) (rw (k, le) (longest_later more bs entry.0 k o)))
    | inr k ↦ rw k (sign_of-longest more bs s (rw o at ordered) (rw k at h))
  ]
]

pub sign_of-none : (table : List Spelling) (bs : List ℕ) → sign_of table bs ≡ None → list_all (λ entry. not (starts_with nat_eq bs entry.0)) table ≡ true
unfolding sign_of
sign_of-none [] bs h = refl
sign_of-none (entry ∷ more) bs h = elim (cases_Bool (starts_with nat_eq bs entry.0)) [
  | inl k ↦ (let e = rw k at h in absurd cc)
  | inr k ↦ rw k (sign_of-none more bs (rw k at h))
]
