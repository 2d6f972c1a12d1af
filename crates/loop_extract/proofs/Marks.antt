-- The pass over the blocks finds those that are reached.
use Rattle.std.proofs.Common.{◌≡◌, ◌≢◌, ◌⊎◌, ℕ, suc, ◌+◌, ◌<◌, ◌≤◌, Bool, true, false, ◌||◌, ◌&&◌, nat_eq, List, [], ◌∷◌, ◌++◌, length, get_or, set, drop, replicate, if◌then◌else◌, refl, sym, ap, ◌∙◌, arith, inl, inr, subst}
use Rattle.std.proofs.lemmas.List.{length-append, get_or-set_same, get_or-set_other, get_or-replicate, length-replicate}
use Rattle.std.proofs.lemmas.Bool.{eqb-true, eq-eqb}
use Rattle.src_prog.specs.declared.block.SrcBlock.{SrcBlock}
use Rattle.extract_def.specs.Scopes.{is_in, reached_from, targets_of}
use Rattle.loop_extract.specs.Flags.{ups}
use Rattle.loop_extract.proofs.Rests.{rest_more, rest_none}

-- ---- tests

or_assoc : (a b c : Bool) → ((a || b) || c) ≡ (a || (b || c))
or_assoc true b c = refl
or_assoc false b c = refl

or_false : (a : Bool) → (a || false) ≡ a
or_false true = refl
or_false false = refl

pub is_in-append : (n : ℕ) (xs ys : List ℕ) → is_in n (xs ++ ys) ≡ (is_in n xs || is_in n ys)
is_in-append n [] ys = refl
is_in-append n (x ∷ xs) ys = ap (λ b. nat_eq x n || b) (is_in-append n xs ys) ∙ sym (or_assoc (nat_eq x n) (is_in n xs) (is_in n ys))

-- ---- marks

same_or_not : (t n : ℕ) → ((n ≡ t) × (nat_eq t n ≡ true)) ⊎ ((n ≢ t) × (nat_eq t n ≡ false))
same_or_not t n = by (nat_eq t n) refl
  where
    by : (b : Bool) → nat_eq t n ≡ b → ((n ≡ t) × (nat_eq t n ≡ true)) ⊎ ((n ≢ t) × (nat_eq t n ≡ false))
    by true e = inl (sym (eqb-true t n e), e)
    by false e = inr (λ (s : n ≡ t). let w : nat_eq t n ≡ true = eq-eqb t n (sym s) in let z : true ≡ false = sym w ∙ e in absurd cc, e)

-- one of the flags is put up, or it is none of them
pub set_flag : (flags : List Bool) (t n : ℕ) (ts : List ℕ) → n < length flags → (get_or (set flags t true) n false || is_in n ts) ≡ (get_or flags n false || is_in n (t ∷ ts))
set_flag flags t n ts lt = at (same_or_not t n)
  where
    both : (a : Bool) → true ≡ (a || true)
    both true = refl
    both false = refl

    at : ((n ≡ t) × (nat_eq t n ≡ true)) ⊎ ((n ≢ t) × (nat_eq t n ≡ false)) → (get_or (set flags t true) n false || is_in n ts) ≡ (get_or flags n false || (nat_eq t n || is_in n ts))
    at (inl (s, e)) =
        let up : get_or (set flags t true) n false ≡ true = ap (λ m. get_or (set flags t true) m false) s ∙ get_or-set_same flags t true false (subst (λ m. m < length flags) s lt) in
        ap (λ b. b || is_in n ts) up ∙ both (get_or flags n false) ∙ ap (λ b. get_or flags n false || (b || is_in n ts)) (sym e)
    at (inr (s, e)) = ap (λ b. b || is_in n ts) (get_or-set_other flags t n true false s) ∙ ap (λ b. get_or flags n false || (b || is_in n ts)) (sym e)

pub past_flag : (flags : List Bool) (t n : ℕ) (ts : List ℕ) → n < length flags → length flags ≤ t → (get_or flags n false || is_in n ts) ≡ (get_or flags n false || is_in n (t ∷ ts))
past_flag flags t n ts lt le = at (same_or_not t n)
  where
    at : ((n ≡ t) × (nat_eq t n ≡ true)) ⊎ ((n ≢ t) × (nat_eq t n ≡ false)) → (get_or flags n false || is_in n ts) ≡ (get_or flags n false || (nat_eq t n || is_in n ts))
    at (inl (s, e)) = absurd (omega (arith, s, lt, le))
    at (inr (s, e)) = ap (λ b. get_or flags n false || (b || is_in n ts)) (sym e)

-- ---- the pass

pub ups-append : (n : ℕ) (xs : List Bool) (f : Bool) → ups n (xs ++ f ∷ []) ≡ ups n xs ++ (if f then (n + length xs) ∷ [] else [])
ups-append n [] f = let z : n ≡ n + 0 = omega arith in one f
  where
    one : (b : Bool) → ups n (b ∷ []) ≡ (if b then (n + 0) ∷ [] else [])
    one true = let z : n ≡ n + 0 = omega arith in ap (λ m. m ∷ []) z
    one false = refl
ups-append n (true ∷ xs) f = let z : n + 1 + length xs ≡ n + suc (length xs) = omega arith in ap (λ ms. n ∷ ms) (ups-append (n + 1) xs f ∙ ap (λ m. ups (n + 1) xs ++ (if f then m ∷ [] else [])) z)
ups-append n (false ∷ xs) f = let z : n + 1 + length xs ≡ n + suc (length xs) = omega arith in ups-append (n + 1) xs f ∙ ap (λ m. ups (n + 1) xs ++ (if f then m ∷ [] else [])) z

-- Where the flags of the first blocks are found, and those blocks are marked to which edges lead so far.
abbrev pub Marked : List SrcBlock → ℕ → List Bool → List Bool → Type 0
Marked blocks k up flags =
    (ts : List ℕ) × (reached_from 0 blocks (0 ∷ []) ≡ ups 0 up ++ reached_from k (drop k blocks) ts) × ((n : ℕ) → n < length blocks → get_or flags n false ≡ is_in n ts) × (length up ≡ k)
    × (length flags ≡ length blocks)

pub marked_start : (blocks : List SrcBlock) (old flags : List Bool) → old ≡ replicate (length blocks) false → length flags ≡ length old → ((n : ℕ) → n < length old → get_or flags n false ≡ (get_or old n false || is_in n (0 ∷ []))) → Marked blocks 0 [] flags
marked_start blocks old flags e size h =
    let long : length old ≡ length blocks = ap length e ∙ length-replicate (length blocks) false in
    (0 ∷ [], refl, λ n lt. h n (subst (λ m. n < m) (sym long) lt) ∙ ap (λ b. b || is_in n (0 ∷ [])) (ap (λ xs. get_or xs n false) e ∙ get_or-replicate (length blocks) n false false lt), refl, size ∙ long)

pub marked_more : (blocks : List SrcBlock) (k : ℕ) (up flags new : List Bool) (b : SrcBlock) (f : Bool) → Marked blocks k up flags → k < length blocks → b ≡ get_or blocks k b → f ≡ get_or flags k false
    → ((n : ℕ) → n < length flags → get_or new n false ≡ (get_or flags n false || (f && is_in n (targets_of b.next)))) → length new ≡ length flags → Marked blocks (k + 1) (up ++ f ∷ []) new
marked_more blocks k up flags new b true (ts, whole, marks, size, long) lt is flag more same =
    let here : is_in k ts ≡ true = sym (marks k lt) ∙ sym flag in
    let step : reached_from k (b ∷ drop (k + 1) blocks) ts ≡ (k ∷ []) ++ reached_from (k + 1) (drop (k + 1) blocks) (ts ++ targets_of b.next) =
    ap (λ (t : Bool). if t then k ∷ reached_from (k + 1) (drop (k + 1) blocks) (ts ++ targets_of b.next) else reached_from (k + 1) (drop (k + 1) blocks) ts) here in
    let next = rest_more (λ bs. reached_from k bs ts) (λ bs. reached_from (k + 1) bs (ts ++ targets_of b.next)) (reached_from 0 blocks (0 ∷ [])) (ups 0 up) (k ∷ []) blocks k b whole lt is step in
    let z : k ≡ 0 + length up = omega (arith, size) in
    let put : ups 0 up ++ k ∷ [] ≡ ups 0 (up ++ true ∷ []) = ap (λ m. ups 0 up ++ m ∷ []) z ∙ sym (ups-append 0 up true) in (
      ts ++ targets_of b.next,
      next ∙ ap (λ ms. ms ++ reached_from (k + 1) (drop (k + 1) blocks) (ts ++ targets_of b.next)) put,
      λ n l. more n (subst (λ m. n < m) (sym long) l) ∙ ap (λ c. c || is_in n (targets_of b.next)) (marks n l) ∙ sym (is_in-append n ts (targets_of b.next)),
      length-append up (true ∷ []) ∙ ap (λ m. m + 1) size,
      same ∙ long,
    )
marked_more blocks k up flags new b false (ts, whole, marks, size, long) lt is flag more same =
    let here : is_in k ts ≡ false = sym (marks k lt) ∙ sym flag in
    let step : reached_from k (b ∷ drop (k + 1) blocks) ts ≡ [] ++ reached_from (k + 1) (drop (k + 1) blocks) ts =
    ap (λ (t : Bool). if t then k ∷ reached_from (k + 1) (drop (k + 1) blocks) (ts ++ targets_of b.next) else reached_from (k + 1) (drop (k + 1) blocks) ts) here in
    let next = rest_more (λ bs. reached_from k bs ts) (λ bs. reached_from (k + 1) bs ts) (reached_from 0 blocks (0 ∷ [])) (ups 0 up) [] blocks k b whole lt is step in (
      ts,
      next ∙ ap (λ ms. ms ++ reached_from (k + 1) (drop (k + 1) blocks) ts) (sym (ups-append 0 up false)),
      λ n l. more n (subst (λ m. n < m) (sym long) l) ∙ or_false (get_or flags n false) ∙ marks n l,
      length-append up (false ∷ []) ∙ ap (λ m. m + 1) size,
      same ∙ long,
    )

pub marked_all : (blocks : List SrcBlock) (k : ℕ) (up flags : List Bool) → Marked blocks k up flags → length blocks ≤ k → ups 0 up ≡ reached_from 0 blocks (0 ∷ [])
marked_all blocks k up flags (ts, whole, marks, size, long) le = sym (rest_none (λ bs. reached_from k bs ts) (reached_from 0 blocks (0 ∷ [])) (ups 0 up) blocks k whole le refl)
