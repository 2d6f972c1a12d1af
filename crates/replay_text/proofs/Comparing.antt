-- Two texts byte by byte, and their lines.
use Rattle.std.proofs.Common.{◌≡◌, ◌≢◌, ℕ, zero, suc, ◌+◌, ◌<◌, ◌≤◌, Bool, true, false, ◌==◌, if◌then◌else◌, List, [], ◌∷◌, length, get_or, take, drop, slice_get, Option, None, Some, arith, refl, sym, ◌∙◌, ap, subst}
use Rattle.std.proofs.lemmas.Bool.{eqb-true, eq-eqb}
use Rattle.std.proofs.lemmas.List.{drop_all, drop_more}
use Rattle.replay_text.specs.Lines.{before_first, whole_lines, IsFirstDifference}

-- ---- lines

-- the first line, if there is one, has a byte
abbrev Starts : List (List ℕ) → Type 0
Starts [] = Unit {0}
Starts ([] ∷ lines) = ⊥
Starts ((byte ∷ bytes) ∷ lines) = Unit {0}

starts_before : (byte : ℕ) (lines : List (List ℕ)) → Starts (before_first byte lines)
starts_before byte [] = tt
starts_before byte (line ∷ lines) = tt

starts_if : (b : Bool) (byte : ℕ) (lines : List (List ℕ)) → Starts (if b then (byte ∷ []) ∷ lines else before_first byte lines)
starts_if true byte lines = tt
starts_if false byte lines = starts_before byte lines

starts : (text : List ℕ) → Starts (whole_lines text)
starts [] = tt
starts (byte ∷ bytes) = starts_if (byte == 10) byte (whole_lines bytes)

-- the first line begins with the first byte
record Begins (byte : ℕ) (lines : List (List ℕ)) : Type 0 where
  rest : List ℕ
  is : slice_get lines 0 ≡ Some (byte ∷ rest)

begins_before : (byte : ℕ) (lines : List (List ℕ)) → Begins byte (before_first byte lines)
begins_before byte [] = record { rest = []; is = refl }
begins_before byte (line ∷ lines) = record { rest = line; is = refl }

begins_if : (b : Bool) (byte : ℕ) (lines : List (List ℕ)) → Begins byte (if b then (byte ∷ []) ∷ lines else before_first byte lines)
begins_if true byte lines = record { rest = []; is = refl }
begins_if false byte lines = begins_before byte lines

begins : (byte : ℕ) (bytes : List ℕ) → Begins byte (whole_lines (byte ∷ bytes))
begins byte bytes = begins_if (byte == 10) byte (whole_lines bytes)

-- ---- the first difference of lists of lines

-- so many lines are the same in both, and the next one isn't, where lines are numbered from this number on
record Differ (from line : ℕ) (one other : List (List ℕ)) : Type 0 where
  before : ℕ
  number : line ≡ from + before
  same : take before one ≡ take before other
  differs : slice_get one before ≢ slice_get other before

differ_now : (from line : ℕ) (one other : List (List ℕ)) → line ≡ from → slice_get one 0 ≢ slice_get other 0 → Differ from line one other
differ_now from line one other is differs = record { before = 0; number = omega arith; same = refl; differs = differs }

differ_behind : (from line : ℕ) (same : List ℕ) (one other : List (List ℕ)) → Differ (from + 1) line one other → Differ from line (same ∷ one) (same ∷ other)
differ_behind from line same one other h =
    let n = h.number in
    record { before = suc h.before; number = omega arith; same = ap (λ ls. same ∷ ls) h.same; differs = h.differs }

-- a byte more at the begin of both
some_line : (byte : ℕ) (a b : List ℕ) → Some (byte ∷ a) ≡ Some (byte ∷ b) → Some a ≡ Some b
some_line byte a b e = cc

before_one : (byte : ℕ) (line : List ℕ) (lines : List (List ℕ)) → Starts (line ∷ lines) → Some (byte ∷ []) ≢ Some (byte ∷ line)
before_one byte [] lines h = absurd h
before_one byte (b ∷ bs) lines h = λ e. cc

same_before : (byte n : ℕ) (a b : List ℕ) (one other : List (List ℕ)) → take n (a ∷ one) ≡ take n (b ∷ other) → take n ((byte ∷ a) ∷ one) ≡ take n ((byte ∷ b) ∷ other)
same_before byte zero a b one other h = refl
same_before byte (suc n) a b one other h =
    let head : a ≡ b = cc in
    let tail : take n one ≡ take n other = cc in
    cc

differs_before : (byte n : ℕ) (a b : List ℕ) (one other : List (List ℕ)) → slice_get (a ∷ one) n ≢ slice_get (b ∷ other) n → slice_get ((byte ∷ a) ∷ one) n ≢ slice_get ((byte ∷ b) ∷ other) n
differs_before byte zero a b one other h = λ e. h (some_line byte a b e)
differs_before byte (suc n) a b one other h = h

one_more : (n : ℕ) (line : List ℕ) (lines : List (List ℕ)) → take n [] ≡ take n (line ∷ lines) → n ≡ 0
one_more zero line lines h = refl
one_more (suc n) line lines h = cc

differ_before : (from line byte : ℕ) (one other : List (List ℕ)) → Starts one → Starts other → Differ from line one other → Differ from line (before_first byte one) (before_first byte other)
differ_before from line byte [] [] s t h = absurd (h.differs refl)
differ_before from line byte [] (b ∷ other) s t h =
    let none = one_more h.before b other h.same in
    let n = h.number in
    differ_now from line ((byte ∷ []) ∷ []) ((byte ∷ b) ∷ other) (omega arith) (before_one byte b other t)
differ_before from line byte (a ∷ one) [] s t h =
    let none = one_more h.before a one (sym h.same) in
    let n = h.number in
    differ_now from line ((byte ∷ a) ∷ one) ((byte ∷ []) ∷ []) (omega arith) (λ e. before_one byte a one s (sym e))
differ_before from line byte (a ∷ one) (b ∷ other) s t h =
    record { before = h.before; number = h.number; same = same_before byte h.before a b one other h.same; differs = differs_before byte h.before a b one other h.differs }

-- ---- the first difference of texts

-- the number of the line in which the first byte stands that differs, where the texts begin in the line of this number
abbrev pub differs_from : ℕ → List ℕ → List ℕ → Option ℕ
differs_from line [] [] = None
differs_from line [] (y ∷ ys) = Some line
differs_from line (x ∷ xs) [] = Some line
differs_from line (x ∷ xs) (y ∷ ys) = if x == y then differs_from (if x == 10 then line + 1 else line) xs ys else Some line

-- the lines of texts that begin with the same byte
behind_byte : (feed : Bool) (from line byte : ℕ) (xs ys : List ℕ) → Differ (if feed then from + 1 else from) line (whole_lines xs) (whole_lines ys)
    → Differ from line (if feed then (byte ∷ []) ∷ whole_lines xs else before_first byte (whole_lines xs)) (if feed then (byte ∷ []) ∷ whole_lines ys else before_first byte (whole_lines ys))
behind_byte true from line byte xs ys h = differ_behind from line (byte ∷ []) (whole_lines xs) (whole_lines ys) h
behind_byte false from line byte xs ys h = differ_before from line byte (whole_lines xs) (whole_lines ys) (starts xs) (starts ys) h

other_bytes : (from line x y : ℕ) (xs ys : List ℕ) → line ≡ from → (x == y) ≡ false → Differ from line (whole_lines (x ∷ xs)) (whole_lines (y ∷ ys))
other_bytes from line x y xs ys is other =
    let one = begins x xs in
    let two = begins y ys in
    differ_now from line (whole_lines (x ∷ xs)) (whole_lines (y ∷ ys)) is
    (λ e. let heads : Some (x ∷ one.rest) ≡ Some (y ∷ two.rest) = sym one.is ∙ e ∙ two.is in
    let same : x ≡ y = cc in
    let equal = eq-eqb x y same in
    let no : true ≡ false = sym equal ∙ other in cc)

-- the lines of texts whose rests differ as it is told
first_bytes : (from line x y : ℕ) (xs ys : List ℕ) → ((n : ℕ) → differs_from n xs ys ≡ Some line → Differ n line (whole_lines xs) (whole_lines ys)) → (b : Bool) → (x == y) ≡ b
    → (if b then differs_from (if x == 10 then from + 1 else from) xs ys else Some from) ≡ Some line → Differ from line (whole_lines (x ∷ xs)) (whole_lines (y ∷ ys))
first_bytes from line x y xs ys rest true e h =
    subst (λ z. Differ from line (whole_lines (x ∷ xs)) (whole_lines (z ∷ ys))) (eqb-true x y e)
    (behind_byte (x == 10) from line x xs ys (rest (if x == 10 then from + 1 else from) h))
first_bytes from line x y xs ys rest false e h = let is : line ≡ from = cc in other_bytes from line x y xs ys is e

differ_at : (from line : ℕ) (xs ys : List ℕ) → differs_from from xs ys ≡ Some line → Differ from line (whole_lines xs) (whole_lines ys)
differ_at from line [] [] h = cc
differ_at from line [] (y ∷ ys) h =
    let is : line ≡ from = cc in
    let head = begins y ys in
    differ_now from line [] (whole_lines (y ∷ ys)) is (λ e. let no = e ∙ head.is in cc)
differ_at from line (x ∷ xs) [] h =
    let is : line ≡ from = cc in
    let head = begins x xs in
    differ_now from line (whole_lines (x ∷ xs)) [] is (λ e. let no = sym head.is ∙ e in cc)
differ_at from line (x ∷ xs) (y ∷ ys) h = first_bytes from line x y xs ys (λ n e. differ_at n line xs ys e) (x == y) refl h

same_bytes : (from x y : ℕ) (xs ys : List ℕ) → ((n : ℕ) → differs_from n xs ys ≡ None → xs ≡ ys) → (b : Bool) → (x == y) ≡ b
    → (if b then differs_from (if x == 10 then from + 1 else from) xs ys else Some from) ≡ None → x ∷ xs ≡ y ∷ ys
same_bytes from x y xs ys rest true e h =
    let same = eqb-true x y e in
    let tail = rest (if x == 10 then from + 1 else from) h in
    cc
same_bytes from x y xs ys rest false e h = cc

same_at : (from : ℕ) (xs ys : List ℕ) → differs_from from xs ys ≡ None → xs ≡ ys
same_at from [] [] h = refl
same_at from [] (y ∷ ys) h = cc
same_at from (x ∷ xs) [] h = cc
same_at from (x ∷ xs) (y ∷ ys) h = same_bytes from x y xs ys (λ n e. same_at n xs ys e) (x == y) refl h

-- ---- the walk

-- the walk found a line
pub found : (line : ℕ) (one other : List ℕ) → differs_from 1 one other ≡ Some line → IsFirstDifference one other line
found line one other h =
    let d = differ_at 1 line one other h in
    let n = d.number in
    record { before = d.before; number = omega arith; same = d.same; differs = d.differs }

-- the walk came to the end of both texts
pub none_found : (i line : ℕ) (one other : List ℕ) → length one ≤ i → length other ≤ i → differs_from line (drop i one) (drop i other) ≡ differs_from 1 one other → one ≡ other
none_found i line one other short long h =
    same_at 1 one other (sym h ∙ ap (λ xs. differs_from line xs (drop i other)) (drop_all i one short) ∙ ap (differs_from line []) (drop_all i other long))

-- the walk came to the end of the other text alone
pub other_ends : (i line : ℕ) (one other : List ℕ) → i < length one → length other ≤ i → differs_from line (drop i one) (drop i other) ≡ differs_from 1 one other → IsFirstDifference one other line
other_ends i line one other there short h =
    found line one other (sym h ∙ ap (λ xs. differs_from line xs (drop i other)) (drop_more one i 0 there) ∙ ap (differs_from line (get_or one i 0 ∷ drop (i + 1) one)) (drop_all i other short))

-- the walk came to the end of the one text alone
pub one_ends : (i line : ℕ) (one other : List ℕ) → length one ≤ i → i < length other → differs_from line (drop i one) (drop i other) ≡ differs_from 1 one other → IsFirstDifference one other line
one_ends i line one other short there h =
    found line one other (sym h ∙ ap (λ xs. differs_from line xs (drop i other)) (drop_all i one short) ∙ ap (differs_from line []) (drop_more other i 0 there))

-- the walk came to bytes that differ
pub byte_differs : (i line : ℕ) (one other : List ℕ) → i < length one → i < length other → get_or one i 0 ≢ get_or other i 0 → differs_from line (drop i one) (drop i other) ≡ differs_from 1 one other → IsFirstDifference one other line
byte_differs i line one other there here differs h =
    let x = get_or one i 0 in
    let y = get_or other i 0 in
    let stops : differs_from line (x ∷ drop (i + 1) one) (y ∷ drop (i + 1) other) ≡ Some line = stop (x == y) refl in
    found line one other (sym h ∙ ap (λ xs. differs_from line xs (drop i other)) (drop_more one i 0 there) ∙ ap (differs_from line (x ∷ drop (i + 1) one)) (drop_more other i 0 here) ∙ stops)
  where
    stop : (b : Bool) → (get_or one i 0 == get_or other i 0) ≡ b
        → (if b then differs_from (if get_or one i 0 == 10 then line + 1 else line) (drop (i + 1) one) (drop (i + 1) other) else Some line) ≡ Some line
    stop true e = absurd (differs (eqb-true (get_or one i 0) (get_or other i 0) e))
    stop false e = refl
