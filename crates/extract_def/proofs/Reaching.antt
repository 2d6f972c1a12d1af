-- The reached blocks: what an edge from a reached block leads to is reached, and the head of a loop that holds one.
use Rattle.std.proofs.Common.{◌≡◌, ℕ, zero, suc, ◌≤◌, ◌<◌, ◌+◌, Bool, true, false, ◌&&◌, ◌||◌, not, if◌then◌else◌, List, [], ◌∷◌, ◌++◌, length, ◌⊎◌, inl, inr, arith, sym, ◌∙◌, ap, refl}
use Rattle.std.proofs.lemmas.Bool.{eqb-true, eq-eqb, ltb-true, leb-true}
use Rattle.std.specs.Prelude.{Some, slice_get, nat_eq, nat_lt, nat_le}
use Rattle.src_prog.specs.Loops.{holds_block, edge_fits, enters_at_head, goes_back, loop_is_within}
use Rattle.src_prog.specs.declared.block.SrcBlock.{SrcBlock}
use Rattle.src_prog.specs.declared.proc.SrcLoop.{SrcLoop}
use Rattle.src_prog.specs.declared.proc.SrcProc.{SrcProc}
use Rattle.hy_val.proofs.Booleans.{and-first, and-second}
use Rattle.extract_def.proofs.Facts.{Among}
use Rattle.extract_def.proofs.Members.{or-cases, or-left, or-right, all_at, any_at}
use Rattle.extract_def.specs.Scopes.{is_in, targets_of, reached_from, reached_blocks}

is_in_left : (n : ℕ) (ms ks : List ℕ) → is_in n ms ≡ true → is_in n (ms ++ ks) ≡ true
is_in_left n [] ks h = absurd cc
is_in_left n (m ∷ ms) ks h = at (or-cases (nat_eq m n) (is_in n ms) h) (λ k. is_in_left n ms ks k)
  where
    at : (nat_eq m n ≡ true) ⊎ (is_in n ms ≡ true) → (is_in n ms ≡ true → is_in n (ms ++ ks) ≡ true) → (nat_eq m n || is_in n (ms ++ ks)) ≡ true
    at (inl k) ih = or-left (nat_eq m n) (is_in n (ms ++ ks)) k
    at (inr k) ih = or-right (nat_eq m n) (is_in n (ms ++ ks)) (ih k)

is_in_right : (n : ℕ) (ms ks : List ℕ) → is_in n ks ≡ true → is_in n (ms ++ ks) ≡ true
is_in_right n [] ks h = h
is_in_right n (m ∷ ms) ks h = or-right (nat_eq m n) (is_in n (ms ++ ks)) (is_in_right n ms ks h)

is_in_split : (n : ℕ) (ms ks : List ℕ) → is_in n (ms ++ ks) ≡ true → (is_in n ms ≡ true) ⊎ (is_in n ks ≡ true)
is_in_split n [] ks h = inr h
is_in_split n (m ∷ ms) ks h = at (or-cases (nat_eq m n) (is_in n (ms ++ ks)) h) (λ k. is_in_split n ms ks k)
  where
    at : (nat_eq m n ≡ true) ⊎ (is_in n (ms ++ ks) ≡ true) → (is_in n (ms ++ ks) ≡ true → (is_in n ms ≡ true) ⊎ (is_in n ks ≡ true)) → ((nat_eq m n || is_in n ms) ≡ true) ⊎ (is_in n ks ≡ true)
    at (inl k) ih = inl (or-left (nat_eq m n) (is_in n ms) k)
    at (inr k) ih = more (ih k)
      where
        more : (is_in n ms ≡ true) ⊎ (is_in n ks ≡ true) → ((nat_eq m n || is_in n ms) ≡ true) ⊎ (is_in n ks ≡ true)
        more (inl j) = inl (or-right (nat_eq m n) (is_in n ms) j)
        more (inr j) = inr j

-- the next block, by whether it is one of the targets
abbrev pub step_from : Bool → ℕ → SrcBlock → List SrcBlock → List ℕ → List ℕ
step_from b number block blocks ts = if b then number ∷ reached_from (number + 1) blocks (ts ++ targets_of block.next) else reached_from (number + 1) blocks ts

-- they are numbered from there on
pub none_before : (n m : ℕ) (blocks : List SrcBlock) (ts : List ℕ) → is_in m (reached_from n blocks ts) ≡ true → n ≤ m
none_before n m [] ts h = absurd cc
none_before n m (b ∷ bs) ts h = at (is_in n ts) h (λ us k. none_before (n + 1) m bs us k)
  where
    at : (t : Bool) → is_in m (step_from t n b bs ts) ≡ true → ((us : List ℕ) → is_in m (reached_from (n + 1) bs us) ≡ true → n + 1 ≤ m) → n ≤ m
    at false k ih = let j = ih ts k in omega (arith, j)
    at true k ih = more (or-cases (nat_eq n m) (is_in m (reached_from (n + 1) bs (ts ++ targets_of b.next))) k)
      where
        more : (nat_eq n m ≡ true) ⊎ (is_in m (reached_from (n + 1) bs (ts ++ targets_of b.next)) ≡ true) → n ≤ m
        more (inl e) = let same = eqb-true n m e in omega (arith, same)
        more (inr j) = let i = ih (ts ++ targets_of b.next) j in omega (arith, i)

shift : (n k : ℕ) → n + suc k ≡ n + 1 + k
shift n k = omega arith

-- a target is reached
pub target_reached : (n k : ℕ) (blocks : List SrcBlock) (ts : List ℕ) → is_in (n + k) ts ≡ true → k < length blocks → is_in (n + k) (reached_from n blocks ts) ≡ true
target_reached n k [] ts h lt = absurd (omega (arith, lt))
target_reached n zero (b ∷ bs) ts h lt =
    let z : n + 0 ≡ n = omega arith in
    let here : is_in n ts ≡ true = ap (λ m. is_in m ts) (sym z) ∙ h in
    ap (λ t. is_in (n + 0) (step_from t n b bs ts)) here ∙ or-left (nat_eq n (n + 0)) (is_in (n + 0) (reached_from (n + 1) bs (ts ++ targets_of b.next))) (eq-eqb n (n + 0) (sym z))
target_reached n (suc k) (b ∷ bs) ts h lt =
    let z = shift n k in let less : k < length bs = omega (arith, lt) in
    let h' : is_in (n + 1 + k) ts ≡ true = ap (λ m. is_in m ts) (sym z) ∙ h in
    at (is_in n ts) refl (λ us i. ap (λ m. is_in m (reached_from (n + 1) bs us)) z ∙ target_reached (n + 1) k bs us i less)
  where
    at : (t : Bool) → is_in n ts ≡ t → ((us : List ℕ) → is_in (n + 1 + k) us ≡ true → is_in (n + suc k) (reached_from (n + 1) bs us) ≡ true) → is_in (n + suc k) (reached_from n (b ∷ bs) ts) ≡ true
    at false e ih = let z = shift n k in ap (λ t. is_in (n + suc k) (step_from t n b bs ts)) e ∙ ih ts (ap (λ m. is_in m ts) (sym z) ∙ h)
    at true e ih =
        let z = shift n k in
        ap (λ t. is_in (n + suc k) (step_from t n b bs ts)) e
        ∙ or-right (nat_eq n (n + suc k)) (is_in (n + suc k) (reached_from (n + 1) bs (ts ++ targets_of b.next))) (ih (ts ++ targets_of b.next) (is_in_left (n + 1 + k) ts (targets_of b.next) (ap (λ m. is_in m ts) (sym z) ∙ h)))

-- an edge onward leads to a reached block
pub onward_reached : (n k j : ℕ) (blocks : List SrcBlock) (ts : List ℕ) (block : SrcBlock) → is_in (n + k) (reached_from n blocks ts) ≡ true → slice_get blocks k ≡ Some block → is_in (n + j) (targets_of block.next) ≡ true → k < j → j < length blocks →
    is_in (n + j) (reached_from n blocks ts) ≡ true
onward_reached n k j [] ts block h e i lt lt' = absurd cc
onward_reached n k zero (b ∷ bs) ts block h e i lt lt' = absurd (omega (arith, lt))
onward_reached n zero (suc j) (b ∷ bs) ts block h e i lt lt' =
    let z = shift n j in let y : n + 0 ≡ n = omega arith in let less : j < length bs = omega (arith, lt') in
    let same : b ≡ block = cc in
    let i' : is_in (n + 1 + j) (targets_of b.next) ≡ true = ap (λ m. is_in m (targets_of b.next)) (sym z) ∙ (ap (λ (c : SrcBlock). is_in (n + suc j) (targets_of c.next)) same ∙ i) in
    at (is_in n ts) refl less i'
  where
    at : (t : Bool) → is_in n ts ≡ t → j < length bs → is_in (n + 1 + j) (targets_of b.next) ≡ true → is_in (n + suc j) (reached_from n (b ∷ bs) ts) ≡ true
    at true s less i' =
        let z = shift n j in
        ap (λ t. is_in (n + suc j) (step_from t n b bs ts)) s
        ∙ or-right (nat_eq n (n + suc j)) (is_in (n + suc j) (reached_from (n + 1) bs (ts ++ targets_of b.next)))
        (ap (λ m. is_in m (reached_from (n + 1) bs (ts ++ targets_of b.next))) z ∙ target_reached (n + 1) j bs (ts ++ targets_of b.next) (is_in_right (n + 1 + j) ts (targets_of b.next) i') less)
    at false s less i' =
        let none = none_before (n + 1) (n + 0) bs ts (ap (λ t. is_in (n + 0) (step_from t n b bs ts)) (sym s) ∙ h) in absurd (omega (arith, none))
onward_reached n (suc k) (suc j) (b ∷ bs) ts block h e i lt lt' =
    let z = shift n k in let y = shift n j in
    let less : k < j = omega (arith, lt) in let less' : j < length bs = omega (arith, lt') in
    let i' : is_in (n + 1 + j) (targets_of block.next) ≡ true = ap (λ m. is_in m (targets_of block.next)) (sym y) ∙ i in
    at (is_in n ts) refl (λ us h'. ap (λ m. is_in m (reached_from (n + 1) bs us)) y ∙ onward_reached (n + 1) k j bs us block (ap (λ m. is_in m (reached_from (n + 1) bs us)) (sym z) ∙ h') e i' less less')
  where
    at : (t : Bool) → is_in n ts ≡ t → ((us : List ℕ) → is_in (n + suc k) (reached_from (n + 1) bs us) ≡ true → is_in (n + suc j) (reached_from (n + 1) bs us) ≡ true) → is_in (n + suc j) (reached_from n (b ∷ bs) ts) ≡ true
    at false s ih = ap (λ t. is_in (n + suc j) (step_from t n b bs ts)) s ∙ ih ts (ap (λ t. is_in (n + suc k) (step_from t n b bs ts)) (sym s) ∙ h)
    at true s ih =
        ap (λ t. is_in (n + suc j) (step_from t n b bs ts)) s
        ∙ or-right (nat_eq n (n + suc j)) (is_in (n + suc j) (reached_from (n + 1) bs (ts ++ targets_of b.next))) (ih (ts ++ targets_of b.next) (more (or-cases (nat_eq n (n + suc k)) (is_in (n + suc k) (reached_from (n + 1) bs (ts ++ targets_of b.next))) (ap (λ t. is_in (n + suc k) (step_from t n b bs ts)) (sym s) ∙ h))))
      where
        more : (nat_eq n (n + suc k) ≡ true) ⊎ (is_in (n + suc k) (reached_from (n + 1) bs (ts ++ targets_of b.next)) ≡ true) → is_in (n + suc k) (reached_from (n + 1) bs (ts ++ targets_of b.next)) ≡ true
        more (inl q) = let same = eqb-true n (n + suc k) q in absurd (omega (arith, same))
        more (inr q) = q

-- where a block is reached from: it is one of the first targets, or one of a reached block before it
pub record Came (n k : ℕ) (blocks : List SrcBlock) (ts : List ℕ) : Type 0 where
  pub from : ℕ
  pub block : SrcBlock
  pub block_is : slice_get blocks from ≡ Some block
  pub onward : from < k
  pub reached : is_in (n + from) (reached_from n blocks ts) ≡ true
  pub aims : is_in (n + k) (targets_of block.next) ≡ true

came_later : (n k : ℕ) (b : SrcBlock) (bs : List SrcBlock) (ts us : List ℕ) (t : Bool) → is_in n ts ≡ t → us ≡ (if t then ts ++ targets_of b.next else ts) → Came (n + 1) k bs us → Came n (suc k) (b ∷ bs) ts
came_later n k b bs ts us true s e c =
    let z = shift n c.from in let y = shift n k in let lt = c.onward in
    record {
      from = suc c.from;
      block = c.block;
      block_is = c.block_is;
      onward = omega (arith, lt);
      reached = ap (λ m. is_in m (reached_from n (b ∷ bs) ts)) z ∙ (ap (λ t. is_in (n + 1 + c.from) (step_from t n b bs ts)) s
          ∙ or-right (nat_eq n (n + 1 + c.from)) (is_in (n + 1 + c.from) (reached_from (n + 1) bs (ts ++ targets_of b.next))) (ap (λ vs. is_in (n + 1 + c.from) (reached_from (n + 1) bs vs)) (sym e) ∙ c.reached));
      aims = ap (λ m. is_in m (targets_of c.block.next)) y ∙ c.aims;
    }
came_later n k b bs ts us false s e c =
    let z = shift n c.from in let y = shift n k in let lt = c.onward in
    record {
      from = suc c.from;
      block = c.block;
      block_is = c.block_is;
      onward = omega (arith, lt);
      reached = ap (λ m. is_in m (reached_from n (b ∷ bs) ts)) z ∙ (ap (λ t. is_in (n + 1 + c.from) (step_from t n b bs ts)) s ∙ (ap (λ vs. is_in (n + 1 + c.from) (reached_from (n + 1) bs vs)) (sym e) ∙ c.reached));
      aims = ap (λ m. is_in m (targets_of c.block.next)) y ∙ c.aims;
    }

pub came_from : (n k : ℕ) (blocks : List SrcBlock) (ts : List ℕ) → is_in (n + k) (reached_from n blocks ts) ≡ true → (is_in (n + k) ts ≡ true) ⊎ Came n k blocks ts
came_from n k [] ts h = absurd cc
came_from n zero (b ∷ bs) ts h = at (is_in n ts) refl
  where
    at : (t : Bool) → is_in n ts ≡ t → (is_in (n + 0) ts ≡ true) ⊎ Came n 0 (b ∷ bs) ts
    at true s = let z : n + 0 ≡ n = omega arith in inl (ap (λ m. is_in m ts) z ∙ s)
    at false s = let none = none_before (n + 1) (n + 0) bs ts (ap (λ t. is_in (n + 0) (step_from t n b bs ts)) (sym s) ∙ h) in absurd (omega (arith, none))
came_from n (suc k) (b ∷ bs) ts h =
    at (is_in n ts) refl (λ us h'. came_from (n + 1) k bs us h')
  where
    at : (t : Bool) → is_in n ts ≡ t → ((us : List ℕ) → is_in (n + 1 + k) (reached_from (n + 1) bs us) ≡ true → (is_in (n + 1 + k) us ≡ true) ⊎ Came (n + 1) k bs us) → (is_in (n + suc k) ts ≡ true) ⊎ Came n (suc k) (b ∷ bs) ts
    at false s ih =
        let z = shift n k in
        more (ih ts (ap (λ m. is_in m (reached_from (n + 1) bs ts)) (sym z) ∙ (ap (λ t. is_in (n + suc k) (step_from t n b bs ts)) (sym s) ∙ h)))
      where
        more : (is_in (n + 1 + k) ts ≡ true) ⊎ Came (n + 1) k bs ts → (is_in (n + suc k) ts ≡ true) ⊎ Came n (suc k) (b ∷ bs) ts
        more (inl i) = let z = shift n k in inl (ap (λ m. is_in m ts) z ∙ i)
        more (inr c) = inr (came_later n k b bs ts ts false s refl c)
    at true s ih =
        let z = shift n k in
        let us = ts ++ targets_of b.next in
        more (ih us (ap (λ m. is_in m (reached_from (n + 1) bs us)) (sym z) ∙ tail (or-cases (nat_eq n (n + suc k)) (is_in (n + suc k) (reached_from (n + 1) bs us)) (ap (λ t. is_in (n + suc k) (step_from t n b bs ts)) (sym s) ∙ h))))
      where
        tail : (nat_eq n (n + suc k) ≡ true) ⊎ (is_in (n + suc k) (reached_from (n + 1) bs (ts ++ targets_of b.next)) ≡ true) → is_in (n + suc k) (reached_from (n + 1) bs (ts ++ targets_of b.next)) ≡ true
        tail (inl q) = let same = eqb-true n (n + suc k) q in absurd (omega (arith, same))
        tail (inr q) = q

        own : (is_in (n + 1 + k) ts ≡ true) ⊎ (is_in (n + 1 + k) (targets_of b.next) ≡ true) → (is_in (n + suc k) ts ≡ true) ⊎ Came n (suc k) (b ∷ bs) ts
        own (inl i) = let z = shift n k in inl (ap (λ m. is_in m ts) z ∙ i)
        own (inr i) =
            let z = shift n k in let y : n + 0 ≡ n = omega arith in
            inr (record {
              from = 0;
              block = b;
              block_is = refl;
              onward = omega arith;
              reached = ap (λ t. is_in (n + 0) (step_from t n b bs ts)) s ∙ or-left (nat_eq n (n + 0)) (is_in (n + 0) (reached_from (n + 1) bs (ts ++ targets_of b.next))) (eq-eqb n (n + 0) (sym y));
              aims = ap (λ m. is_in m (targets_of b.next)) z ∙ i;
            })

        more : (is_in (n + 1 + k) (ts ++ targets_of b.next) ≡ true) ⊎ Came (n + 1) k bs (ts ++ targets_of b.next) → (is_in (n + suc k) ts ≡ true) ⊎ Came n (suc k) (b ∷ bs) ts
        more (inl i) = own (is_in_split (n + 1 + k) ts (targets_of b.next) i)
        more (inr c) = inr (came_later n k b bs ts (ts ++ targets_of b.next) true s refl c)

-- ---- in a procedure whose edges fit

abbrev pub EdgesFit : SrcProc → Type 0
EdgesFit q = (b : ℕ) (block : SrcBlock) (to : ℕ) → slice_get q.blocks b ≡ Some block → is_in to (targets_of block.next) ≡ true → (to < length q.blocks) × (edge_fits q.loops b to ≡ true)

abbrev pub LoopsFit : SrcProc → Type 0
LoopsFit q = (l : SrcLoop) → Among q.loops l → loop_is_within (length q.blocks) l ≡ true

pub enters : (loops : List SrcLoop) (b to : ℕ) (l : SrcLoop) → edge_fits loops b to ≡ true → Among loops l → holds_block l to ≡ true → (holds_block l b ≡ true) ⊎ (l.head ≡ to)
enters loops b to l h a holds =
    let all = and-second (nat_lt b to || goes_back loops b to) _ h in
    at (holds_block l to) (all_at (enters_at_head b to) loops l all a) holds
  where
    at : (t : Bool) → (not t || (holds_block l b || nat_eq l.head to)) ≡ true → t ≡ true → (holds_block l b ≡ true) ⊎ (l.head ≡ to)
    at false k e = absurd cc
    at true k e = more (or-cases (holds_block l b) (nat_eq l.head to) k)
      where
        more : (holds_block l b ≡ true) ⊎ (nat_eq l.head to ≡ true) → (holds_block l b ≡ true) ⊎ (l.head ≡ to)
        more (inl j) = inl j
        more (inr j) = inr (eqb-true l.head to j)

in_first : (n : ℕ) → is_in n (0 ∷ []) ≡ true → n ≡ 0
in_first n h = at (or-cases (nat_eq 0 n) false h)
  where
    at : (nat_eq 0 n ≡ true) ⊎ (false ≡ true) → n ≡ 0
    at (inl e) = sym (eqb-true 0 n e)
    at (inr e) = absurd cc

holds_head : (l : SrcLoop) (b : ℕ) → holds_block l b ≡ true → l.head ≤ b
holds_head l b h = leb-true l.head b (and-first (nat_le l.head b) _ h)

-- the head of a loop that holds a reached block is reached
head_within : (q : SrcProc) → EdgesFit q → LoopsFit q → (m b : ℕ) → b < m → (l : SrcLoop) → Among q.loops l → holds_block l b ≡ true → is_in b (reached_blocks q) ≡ true → is_in l.head (reached_blocks q) ≡ true
head_within q edges loops zero b lt l a holds r = absurd (omega (arith, lt))
head_within q edges loops (suc m) b lt l a holds r = at (came_from 0 b q.blocks (0 ∷ []) (ap (λ n. is_in n (reached_blocks q)) (let z : 0 + b ≡ b = omega arith in z) ∙ r)) (λ c. head_within q edges loops m c)
  where
    at : (is_in (0 + b) (0 ∷ []) ≡ true) ⊎ Came 0 b q.blocks (0 ∷ []) → ((c : ℕ) → c < m → (l : SrcLoop) → Among q.loops l → holds_block l c ≡ true → is_in c (reached_blocks q) ≡ true → is_in l.head (reached_blocks q) ≡ true) → is_in l.head (reached_blocks q) ≡ true
    at (inl i) ih =
        let e = in_first (0 + b) i in let h = holds_head l b holds in
        let z = ltb-true 0 l.head (and-first (nat_lt 0 l.head) _ (loops l a)) in absurd (omega (arith, e, h, z))
    at (inr c) ih =
        let z : 0 + b ≡ b = omega arith in let y : 0 + c.from ≡ c.from = omega arith in
        let fits = edges c.from c.block b c.block_is (ap (λ n. is_in n (targets_of c.block.next)) (sym z) ∙ c.aims) in
        more (enters q.loops c.from b l fits.1 a holds)
      where
        more : (holds_block l c.from ≡ true) ⊎ (l.head ≡ b) → is_in l.head (reached_blocks q) ≡ true
        more (inl j) = let lt' = c.onward in let y : 0 + c.from ≡ c.from = omega arith in ih c.from (omega (arith, lt, lt')) l a j (ap (λ n. is_in n (reached_blocks q)) (sym y) ∙ c.reached)
        more (inr e) = ap (λ n. is_in n (reached_blocks q)) e ∙ r

pub head_reached : (q : SrcProc) → EdgesFit q → LoopsFit q → (b : ℕ) (l : SrcLoop) → Among q.loops l → holds_block l b ≡ true → is_in b (reached_blocks q) ≡ true → is_in l.head (reached_blocks q) ≡ true
head_reached q edges loops b l a holds r = head_within q edges loops (suc b) b (omega arith) l a holds r

-- an edge from a reached block leads to a reached one
pub edge_reached : (q : SrcProc) → EdgesFit q → LoopsFit q → (b to : ℕ) (block : SrcBlock) → slice_get q.blocks b ≡ Some block → is_in to (targets_of block.next) ≡ true → is_in b (reached_blocks q) ≡ true → is_in to (reached_blocks q) ≡ true
edge_reached q edges loops b to block e aims r =
    let fits = edges b block to e aims in
    at (or-cases (nat_lt b to) (goes_back q.loops b to) (and-first (nat_lt b to || goes_back q.loops b to) _ fits.1)) fits.0
  where
    at : (nat_lt b to ≡ true) ⊎ (goes_back q.loops b to ≡ true) → to < length q.blocks → is_in to (reached_blocks q) ≡ true
    at (inl lt) within =
        let z : 0 + b ≡ b = omega arith in let y : 0 + to ≡ to = omega arith in
        ap (λ n. is_in n (reached_blocks q)) (sym y)
        ∙ onward_reached 0 b to q.blocks (0 ∷ []) block (ap (λ n. is_in n (reached_blocks q)) z ∙ r) e (ap (λ n. is_in n (targets_of block.next)) y ∙ aims) (ltb-true b to lt) within
    at (inr back) within =
        let l = any_at (λ m. nat_eq m.head to && holds_block m b) q.loops back in
        let head = eqb-true l.0.head to (and-first (nat_eq l.0.head to) _ l.2) in
        ap (λ n. is_in n (reached_blocks q)) (sym head) ∙ head_reached q edges loops b l.0 l.1 (and-second (nat_eq l.0.head to) _ l.2) r

-- a reached block is one
pub reached_below : (n m : ℕ) (blocks : List SrcBlock) (ts : List ℕ) → is_in m (reached_from n blocks ts) ≡ true → m < n + length blocks
reached_below n m [] ts h = absurd cc
reached_below n m (b ∷ bs) ts h = at (is_in n ts) h (λ us k. reached_below (n + 1) m bs us k)
  where
    at : (t : Bool) → is_in m (step_from t n b bs ts) ≡ true → ((us : List ℕ) → is_in m (reached_from (n + 1) bs us) ≡ true → m < n + 1 + length bs) → m < n + suc (length bs)
    at false k ih = let j = ih ts k in omega (arith, j)
    at true k ih = more (or-cases (nat_eq n m) (is_in m (reached_from (n + 1) bs (ts ++ targets_of b.next))) k)
      where
        more : (nat_eq n m ≡ true) ⊎ (is_in m (reached_from (n + 1) bs (ts ++ targets_of b.next)) ≡ true) → m < n + suc (length bs)
        more (inl e) = let same = eqb-true n m e in omega (arith, same)
        more (inr j) = let i = ih (ts ++ targets_of b.next) j in omega (arith, i)

get_there : (blocks : List SrcBlock) (n : ℕ) → n < length blocks → (b : SrcBlock) × (slice_get blocks n ≡ Some b)
get_there [] n lt = absurd (omega (arith, lt))
get_there (b ∷ bs) zero lt = (b, refl)
get_there (b ∷ bs) (suc n) lt = get_there bs n (omega (arith, lt))

pub reached_there : (q : SrcProc) (b : ℕ) → is_in b (reached_blocks q) ≡ true → (block : SrcBlock) × (slice_get q.blocks b ≡ Some block)
reached_there q b h = let k = reached_below 0 b q.blocks (0 ∷ []) h in get_there q.blocks b (omega (arith, k))
