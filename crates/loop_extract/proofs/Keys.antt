-- Loops that are found by their heads.
use Rattle.std.proofs.Common.{◌≡◌, ℕ, suc, ◌+◌, ◌<◌, ◌≤◌, ◌&&◌, ◌||◌, nat_eq, nat_lt, nat_le, Bool, true, false, if◌then◌else◌, List, [], ◌∷◌, length, map, filter, slice_get, None, Some, refl, sym, ap, ◌∙◌, arith}
use Rattle.std.proofs.lemmas.Bool.{leb-true, ltb-true}
use Rattle.std.proofs.lemmas.Bool.Decides.{nat_tests}
use Rattle.std.specs.List.{list_all}
use Rattle.src_prog.specs.Loops.{are_nested, is_apart_or_inside, loop_is_within}
use Rattle.src_prog.specs.Program.{Program}
use Rattle.src_prog.specs.Shape.{is_program}
use Rattle.src_prog.specs.declared.block.SrcBlock.{SrcBlock}
use Rattle.src_prog.specs.declared.proc.SrcLoop.{SrcLoop}
use Rattle.src_prog.specs.declared.proc.SrcProc.{SrcProc}
use Rattle.extract_def.specs.Exits.{exits_of}
use Rattle.extract_def.specs.Places.{index_of, pass_count}
use Rattle.extract_def.specs.Scopes.{is_head_of, is_in, reached_blocks, reached_loops, same_scope}
use Rattle.extract_def.specs.declared.origin.Origin.TheVariants.{Block, Enter}
use Rattle.extract_def.specs.declared.scope.Scope.{Scope}
use Rattle.loop_extract.specs.Ascents.{ascends, head_at, head_in, inner_head}
use Rattle.loop_extract.specs.Heads.{head_of}
use Rattle.loop_extract.specs.OriginRows.{kept_at}
use Rattle.loop_extract.specs.Plans.{IsPlan, inners_from, spans_in}
use Rattle.loop_extract.specs.Regions.{block_at, enter_block, plain_block_at}
use Rattle.loop_extract.specs.declared.inner.Inner.{Inner}
use Rattle.loop_extract.specs.declared.plan.Plan.{Plan}
use Rattle.loop_extract.specs.declared.region.Region.{Region}
use Rattle.loop_extract.specs.declared.scopes.Head.{Head}
use Rattle.loop_extract.proofs.Kept.{loops_ok, nested_filter}
use Rattle.hy_val.proofs.Booleans.{and-first, and-second}

-- ---- found by head

first_less : (n : ℕ) → nat_lt 0 (suc n) ≡ true
first_less n = grind (arith, nat_tests)

next_less : (m n : ℕ) → nat_lt (m + 1) (suc n) ≡ nat_lt m n
next_less m n = grind (arith, nat_tests)

next_get : {A : Type 0} (x : A) (xs : List A) (k : ℕ) → slice_get (x ∷ xs) (k + 1) ≡ slice_get xs k
next_get x xs k = let z : k + 1 ≡ suc k = omega arith in ap (slice_get (x ∷ xs)) z

pub head_found : (ls : List SrcLoop) (block : ℕ) → nat_lt (index_of block (map head_in ls)) (length (map head_in ls)) ≡ is_head_of ls block
head_found [] block = refl
head_found (l ∷ ls) block = pick (nat_eq l.head block) (head_found ls block)
  where
    pick : (b : Bool) → nat_lt (index_of block (map head_in ls)) (length (map head_in ls)) ≡ is_head_of ls block
        → nat_lt (if b then 0 else index_of block (map head_in ls) + 1) (suc (length (map head_in ls))) ≡ (b || is_head_of ls block)
    pick true rest = first_less (length (map head_in ls))
    pick false rest = next_less (index_of block (map head_in ls)) (length (map head_in ls)) ∙ rest

pub block_found : (r : Region) (blocks : List SrcBlock) (is : List Inner) (number : ℕ) (j : Inner) → Some j ≡ slice_get is (index_of number (map inner_head is)) → enter_block r j ≡ block_at r blocks is number
block_found r blocks [] number j e = absurd cc
block_found r blocks (i ∷ is) number j e = pick (nat_eq i.span.head number) e (block_found r blocks is number j)
  where
    pick : (b : Bool) → Some j ≡ slice_get (i ∷ is) (if b then 0 else index_of number (map inner_head is) + 1) → (Some j ≡ slice_get is (index_of number (map inner_head is)) → enter_block r j ≡ block_at r blocks is number)
        → enter_block r j ≡ (if b then enter_block r i else block_at r blocks is number)
    pick true h rest = let same : j ≡ i = cc in ap (enter_block r) same
    pick false h rest = rest (h ∙ next_get i is (index_of number (map inner_head is)))

pub block_missed : (r : Region) (blocks : List SrcBlock) (is : List Inner) (number : ℕ) → None ≡ slice_get is (index_of number (map inner_head is)) → plain_block_at r number (slice_get blocks number) ≡ block_at r blocks is number
block_missed r blocks [] number e = refl
block_missed r blocks (i ∷ is) number e = pick (nat_eq i.span.head number) e (block_missed r blocks is number)
  where
    pick : (b : Bool) → None ≡ slice_get (i ∷ is) (if b then 0 else index_of number (map inner_head is) + 1) → (None ≡ slice_get is (index_of number (map inner_head is)) → plain_block_at r number (slice_get blocks number) ≡ block_at r blocks is number)
        → plain_block_at r number (slice_get blocks number) ≡ (if b then enter_block r i else block_at r blocks is number)
    pick true h rest = absurd cc
    pick false h rest = rest (h ∙ next_get i is (index_of number (map inner_head is)))

pub origin_found : (is : List Inner) (block : ℕ) (j : Inner) → Some j ≡ slice_get is (index_of block (map inner_head is)) → Enter block ≡ kept_at is block
origin_found [] block j e = absurd cc
origin_found (i ∷ is) block j e = pick (nat_eq i.span.head block) e (origin_found is block j)
  where
    pick : (b : Bool) → Some j ≡ slice_get (i ∷ is) (if b then 0 else index_of block (map inner_head is) + 1) → (Some j ≡ slice_get is (index_of block (map inner_head is)) → Enter block ≡ kept_at is block) → Enter block ≡ (if b then Enter block else kept_at is block)
    pick true h rest = refl
    pick false h rest = rest (h ∙ next_get i is (index_of block (map inner_head is)))

pub origin_missed : (is : List Inner) (block : ℕ) → None ≡ slice_get is (index_of block (map inner_head is)) → Block block ≡ kept_at is block
origin_missed [] block e = refl
origin_missed (i ∷ is) block e = pick (nat_eq i.span.head block) e (origin_missed is block)
  where
    pick : (b : Bool) → None ≡ slice_get (i ∷ is) (if b then 0 else index_of block (map inner_head is) + 1) → (None ≡ slice_get is (index_of block (map inner_head is)) → Block block ≡ kept_at is block) → Block block ≡ (if b then Enter block else kept_at is block)
    pick true h rest = absurd cc
    pick false h rest = rest (h ∙ next_get i is (index_of block (map inner_head is)))

-- ---- the heads of the loops inside ascend

weaken : (low n : ℕ) (ns : List ℕ) → low ≤ n → ascends n ns ≡ true → ascends low ns ≡ true
weaken low n [] le h = refl
weaken low n (m ∷ ns) le h =
    let one : n ≤ m = leb-true n m (and-first (nat_le n m) (ascends m ns) h) in
    let first : nat_le low m ≡ true = grind (arith, nat_tests) in
    ap (λ b. b && ascends m ns) first ∙ and-second (nat_le n m) (ascends m ns) h

pub spans_ascend : (scope : Scope) (hs : List Head) (low : ℕ) → ascends low (map head_at hs) ≡ true → ascends low (map head_in (spans_in scope hs)) ≡ true
spans_ascend scope [] low up = refl
spans_ascend scope (h ∷ hs) low up =
    pick (same_scope h.around scope) (and-first (nat_le low h.span.head) (ascends h.span.head (map head_at hs)) up) (spans_ascend scope hs h.span.head (and-second (nat_le low h.span.head) (ascends h.span.head (map head_at hs)) up))
  where
    pick : (b : Bool) → nat_le low h.span.head ≡ true → ascends h.span.head (map head_in (spans_in scope hs)) ≡ true
        → ascends low (map head_in (map (λ h. h.span) (if b then h ∷ filter (λ (h : Head). same_scope h.around scope) hs else filter (λ (h : Head). same_scope h.around scope) hs))) ≡ true
    pick true first rest = ap (λ b. b && ascends h.span.head (map head_in (spans_in scope hs))) first ∙ rest
    pick false first rest = weaken low h.span.head (map head_in (spans_in scope hs)) (leb-true low h.span.head first) rest

pub inner_heads : (proc : SrcProc) (scope : Scope) (number first : ℕ) (hs : List Head) → map head_in (spans_in scope hs) ≡ map inner_head (inners_from proc scope number first hs)
inner_heads proc scope number first [] = refl
inner_heads proc scope number first (h ∷ hs) =
    pick (same_scope h.around scope) (inner_heads proc scope (number + 1) (first + pass_count (exits_of proc h.span)) hs) (inner_heads proc scope (number + 1) first hs)
  where
    pick : (b : Bool) → map head_in (spans_in scope hs) ≡ map inner_head (inners_from proc scope (number + 1) (first + pass_count (exits_of proc h.span)) hs) → map head_in (spans_in scope hs) ≡ map inner_head (inners_from proc scope (number + 1) first hs)
        → map head_in (map (λ h. h.span) (if b then h ∷ filter (λ (h : Head). same_scope h.around scope) hs else filter (λ (h : Head). same_scope h.around scope) hs))
        ≡ map inner_head (if b then record { span = h.span; number = number; first = first; exits = exits_of proc h.span } ∷ inners_from proc scope (number + 1) (first + pass_count (exits_of proc h.span)) hs else inners_from proc scope (number + 1) first hs)
    pick true here there = ap (λ ns. h.span.head ∷ ns) here
    pick false here there = there

nested_from : (loops : List SrcLoop) (l : SrcLoop) (ls : List SrcLoop) → are_nested (l ∷ ls) ≡ true → ascends l.head (map head_at (map (head_of loops) ls)) ≡ true
nested_from loops l [] h = refl
nested_from loops l (m ∷ ms) h =
    let apart = and-first (is_apart_or_inside l m) (list_all (is_apart_or_inside l) ms) (and-first (list_all (is_apart_or_inside l) (m ∷ ms)) (are_nested (m ∷ ms)) h) in
    let lt : l.head < m.head = ltb-true l.head m.head (and-first (nat_lt l.head m.head) _ apart) in
    let first : nat_le l.head m.head ≡ true = grind (arith, nat_tests) in
    ap (λ b. b && ascends m.head (map head_at (map (head_of loops) ms))) first ∙ nested_from loops m ms (and-second (list_all (is_apart_or_inside l) (m ∷ ms)) (are_nested (m ∷ ms)) h)

pub nested_ascend : (loops ls : List SrcLoop) → are_nested ls ≡ true → ascends 0 (map head_at (map (head_of loops) ls)) ≡ true
nested_ascend loops [] h = refl
nested_ascend loops (l ∷ ls) h =
    let first : nat_le 0 l.head ≡ true = grind (arith, nat_tests) in
    ap (λ b. b && ascends l.head (map head_at (map (head_of loops) ls))) first ∙ nested_from loops l ls h

pub is_head_same : (hs : List ℕ) (loops self : List SrcLoop) (block place len : ℕ) → place ≡ index_of block hs → len ≡ length hs → hs ≡ map head_in loops → self ≡ loops → nat_lt place len ≡ is_head_of self block
is_head_same hs loops self block place len p q i v =
    ap (λ m. nat_lt m len) p ∙ ap (nat_lt (index_of block hs)) q ∙ ap (λ ns. nat_lt (index_of block ns) (length ns)) i ∙ head_found loops block ∙ ap (λ ls. is_head_of ls block) (sym v)
