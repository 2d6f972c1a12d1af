-- The walk finds exactly what is reached: what it finds is reached, and at its end what it found is closed under edges.
use Rattle.std.proofs.Common.{◌≡◌, ◌≢◌, ℕ, zero, suc, ◌+◌, ◌<◌, ◌≤◌, Bool, true, false, List, [], ◌∷◌, ◌++◌, length, take, get_or, set, ◌⊎◌, inl, inr, refl, sym, ◌∙◌, ap, subst, arith, append_assoc, replicate, length-set, length-append, get_or-set_same, get_or-set_other, true≢false, if◌then◌else◌, nat_eq, count_by}
use Rattle.std.proofs.lemmas.Bool.Decides.{Decides-eqb}
use Rattle.std.proofs.lemmas.List.{append-nil, length-replicate, take_more, take-append-le, take_all}
use Rattle.std.proofs.lemmas.List.Elements.{All-nil, All-cons, All-push, All-weaker, All-append, All-contains, All-same, All-from_get_or, Contains-push, Contains-append_left, Contains-append_right, Contains-get_or}
use Rattle.std.proofs.lemmas.List.Sums.{sum_by-set}
use Rattle.std.proofs.lemmas.Option.{slice_get-get_or}
use Rattle.std.specs.List.{All, Contains}
use Rattle.src_prog.specs.declared.block.Next.TheVariants.{Goto, Return}
use Rattle.src_prog.specs.declared.block.SrcBlock.{SrcBlock}
use Rattle.loop_nest.specs.Reached.{targets, targets_from, targets_of, Reached}
use Rattle.loop_nest.specs.Reached.Reached.{entry, edge}
use Rattle.loop_nest.specs.Walks.{HasFlag, IsClosed, AreReachedFlags, AreFound, Finds, Walking}

one-more : (flags : List Bool) (block : ℕ) → block < length flags → get_or flags block false ≡ false → count_by (λ flag. flag) (set flags block true) ≡ count_by (λ flag. flag) flags + 1
one-more flags block within h =
    let e = sum_by-set (λ (b : Bool). let n : ℕ = if b then 1 else 0 in n) flags block true false within in
    let z : ◌≡◌ {A = ℕ} (if get_or flags block false then 1 else 0) 0 = ap (λ (b : Bool). let n : ℕ = if b then 1 else 0 in n) h in
    omega (arith, e, z)

none-up : (n : ℕ) → count_by (λ flag. flag) (replicate n false) ≡ 0
none-up zero = refl
none-up (suc n) = none-up n

no-flag : (n b : ℕ) → get_or (replicate n false) b false ≡ false
no-flag zero b = refl
no-flag (suc n) zero = refl
no-flag (suc n) (suc b) = no-flag n b

-- a block is the one whose flag is put up, or another one
same-or-not : (P : Type 0) (b block : ℕ) → (b ≡ block → P) → (b ≢ block → P) → P
same-or-not P b block yes' no' = by (nat_eq b block) refl
  where
    by : (t : Bool) → nat_eq b block ≡ t → P
    by true e = yes' ((Decides-eqb b block).0 e)
    by false e = no' (λ same. true≢false (sym ((Decides-eqb b block).1 same) ∙ e))

-- a flag that is up stays up
still-up : (seen : List Bool) (block b : ℕ) → block < length seen → HasFlag seen b → HasFlag (set seen block true) b
still-up seen block b within h =
    same-or-not (HasFlag (set seen block true) b) b block
    (λ e. subst (HasFlag (set seen block true)) (sym e) (get_or-set_same seen block true false within))
    (λ n. get_or-set_other seen block b true false n ∙ h)

up-before : (seen : List Bool) (block b : ℕ) → b ≢ block → HasFlag (set seen block true) b → HasFlag seen b
up-before seen block b n h = sym (get_or-set_other seen block b true false n) ∙ h

-- ---- a block is found

pub finds-new : (block : ℕ) (found new : List ℕ) (seen : List Bool) → AreFound found seen → block < length seen → get_or seen block false ≡ false → new ≡ found ++ block ∷ [] → Finds (block ∷ []) found new seen (set seen block true)
finds-new block found new seen fits within out e = subst (λ (v : List ℕ). Finds (block ∷ []) found v seen (set seen block true)) (sym e) made
  where
    up : HasFlag (set seen block true) block
    up = get_or-set_same seen block true false within

    listed : (b : ℕ) → HasFlag (set seen block true) b → Contains (found ++ block ∷ []) b
    listed b h =
        same-or-not (Contains (found ++ block ∷ []) b) b block
        (λ s. subst (Contains (found ++ block ∷ [])) (sym s) (Contains-push found block))
        (λ n. Contains-append_left found (block ∷ []) b (fits.listed b (up-before seen block b n h)))

    only : (b : ℕ) → HasFlag (set seen block true) b → HasFlag seen b ⊎ Contains (block ∷ []) b
    only b h =
        same-or-not (HasFlag seen b ⊎ Contains (block ∷ []) b) b block
        (λ s. inr (subst (Contains (block ∷ [])) (sym s) (Contains-push [] block)))
        (λ n. inl (up-before seen block b n h))

    made : Finds (block ∷ []) found (found ++ block ∷ []) seen (set seen block true)
    made = record {
      fits = record {
        flagged = All-push (HasFlag (set seen block true)) found block (All-weaker (HasFlag seen) (HasFlag (set seen block true)) (λ b h. still-up seen block b within h) found fits.flagged) up;
        listed = listed;
        counted = one-more seen block within out ∙ ap (λ k. k + 1) fits.counted ∙ sym (length-append found (block ∷ []));
      };
      size = length-set seen block true;
      more = block ∷ [];
      grown = refl;
      kept = λ b h. still-up seen block b within h;
      all = All-cons (HasFlag (set seen block true)) block [] up (All-nil (HasFlag (set seen block true)));
      only = only;
    }

-- ---- the blocks of a list are found

pub finds-none : (found : List ℕ) (seen : List Bool) → AreFound found seen → Finds [] found found seen seen
finds-none found seen fits = record {
  fits = fits;
  size = refl;
  more = [];
  grown = sym (append-nil found);
  kept = λ b h. h;
  all = All-nil (HasFlag seen);
  only = λ b h. inl h;
}

finds-both : (wanted others found mid new : List ℕ) (seen mid_seen new_seen : List Bool) → Finds wanted found mid seen mid_seen → Finds others mid new mid_seen new_seen → Finds (wanted ++ others) found new seen new_seen
finds-both wanted others found mid new seen mid_seen new_seen one two = record {
  fits = two.fits;
  size = two.size ∙ one.size;
  more = one.more ++ two.more;
  grown = two.grown ∙ ap (λ bs. bs ++ two.more) one.grown ∙ append_assoc found one.more two.more;
  kept = λ b h. two.kept b (one.kept b h);
  all = All-append (HasFlag new_seen) wanted others (All-weaker (HasFlag mid_seen) (HasFlag new_seen) two.kept wanted one.all) two.all;
  only = λ b h. by b (two.only b h);
}
  where
    first : (b : ℕ) → HasFlag seen b ⊎ Contains wanted b → HasFlag seen b ⊎ Contains (wanted ++ others) b
    first b (inl h) = inl h
    first b (inr h) = inr (Contains-append_left wanted others b h)

    by : (b : ℕ) → HasFlag mid_seen b ⊎ Contains others b → HasFlag seen b ⊎ Contains (wanted ++ others) b
    by b (inl h) = first b (one.only b h)
    by b (inr h) = inr (Contains-append_right wanted others b h)

pub finds-step : (blocks found mid new : List ℕ) (seen mid_seen new_seen : List Bool) (i : ℕ) → i < length blocks → Finds (take i blocks) found mid seen mid_seen → Finds (get_or blocks i 0 ∷ []) mid new mid_seen new_seen
    → Finds (take (i + 1) blocks) found new seen new_seen
finds-step blocks found mid new seen mid_seen new_seen i within one two =
    subst (λ (ws : List ℕ). Finds ws found new seen new_seen) (sym (take_more blocks i 0 within)) (finds-both (take i blocks) (get_or blocks i 0 ∷ []) found mid new seen mid_seen new_seen one two)

-- ---- the walk

pub none-found : (n : ℕ) → AreFound [] (replicate n false)
none-found n = record {
  flagged = All-nil (HasFlag (replicate n false));
  listed = λ b h. absurd (true≢false (sym h ∙ no-flag n b));
  counted = none-up n;
}

pub walking-start : (blocks : List SrcBlock) (new : List ℕ) (n : ℕ) (new_seen : List Bool) → n ≡ length blocks → Finds (0 ∷ []) [] new (replicate n false) new_seen → Walking blocks 0 new new_seen
walking-start blocks new n new_seen size one = record {
  fits = one.fits;
  size = one.size ∙ length-replicate n false ∙ size;
  sound = λ b h. by b (one.only b h);
  start = All-contains (HasFlag new_seen) (0 ∷ []) 0 one.all (Contains-push [] 0);
  followed = All-nil (λ b. All (HasFlag new_seen) (targets blocks b));
}
  where
    alone : (b : ℕ) → Contains (0 ∷ []) b → b ≡ 0
    alone b (zero, lt, e) = sym e
    alone b (suc k, lt, e) = absurd (omega arith)

    by : (b : ℕ) → HasFlag (replicate n false) b ⊎ Contains (0 ∷ []) b → Reached blocks b
    by b (inl h) = absurd (true≢false (sym h ∙ no-flag n b))
    by b (inr h) = subst (Reached blocks) (sym (alone b h)) entry

pub walking-more : (blocks : List SrcBlock) (passed from : ℕ) (found new : List ℕ) (seen new_seen : List Bool) → passed < length found → from ≡ get_or found passed 0 → Walking blocks passed found seen
    → Finds (targets blocks from) found new seen new_seen → Walking blocks (passed + 1) new new_seen
walking-more blocks passed from found new seen new_seen within at walk one = record {
  fits = one.fits;
  size = one.size ∙ walk.size;
  sound = λ b h. by b (one.only b h);
  start = one.kept 0 walk.start;
  followed = All-same (λ b. All (HasFlag new_seen) (targets blocks b)) (take (passed + 1) new) (take passed found ++ from ∷ []) same
      (All-push (λ b. All (HasFlag new_seen) (targets blocks b)) (take passed found) from
      (All-weaker (λ b. All (HasFlag seen) (targets blocks b)) (λ b. All (HasFlag new_seen) (targets blocks b)) (λ b h. All-weaker (HasFlag seen) (HasFlag new_seen) one.kept (targets blocks b) h) (take passed found) walk.followed)
      one.all);
}
  where
    up : HasFlag seen from
    up = All-contains (HasFlag seen) found from walk.fits.flagged (subst (Contains found) (sym at) (Contains-get_or found passed 0 within))

    by : (b : ℕ) → HasFlag seen b ⊎ Contains (targets blocks from) b → Reached blocks b
    by b (inl h) = walk.sound b h
    by b (inr h) = edge (walk.sound from up) h

    same : take (passed + 1) new ≡ take passed found ++ from ∷ []
    same = ap (take (passed + 1)) one.grown ∙ take-append-le (passed + 1) found one.more (omega arith) ∙ take_more found passed 0 within ∙ ap (λ b. take passed found ++ b ∷ []) (sym at)

-- at the end
pub walked : (blocks : List SrcBlock) (passed : ℕ) (found : List ℕ) (seen : List Bool) → length found ≤ passed → Walking blocks passed found seen → AreReachedFlags blocks seen
walked blocks passed found seen past walk = record {
  size = walk.size;
  exact = λ b. (walk.sound b, all b);
}
  where
    closed : (from to : ℕ) → HasFlag seen from → Contains (targets blocks from) to → HasFlag seen to
    closed from to h there =
        All-contains (HasFlag seen) (targets blocks from) to
        (All-contains (λ b. All (HasFlag seen) (targets blocks b)) found from
        (All-same (λ b. All (HasFlag seen) (targets blocks b)) found (take passed found) (sym (take_all passed found past)) walk.followed) (walk.fits.listed from h))
        there

    all : (b : ℕ) → Reached blocks b → HasFlag seen b
    all b entry = walk.start
    all b (edge {from = from} r there) = closed from b (all from r) there

-- ---- the edges of a block

pub targets-goto : (blocks : List SrcBlock) (from : ℕ) (b : SrcBlock) (ts : List ℕ) → from < length blocks → (get_or blocks from b).next ≡ Goto ts → targets blocks from ≡ ts
targets-goto blocks from b ts within e = ap targets_from (slice_get-get_or blocks from b within) ∙ ap targets_of e

pub targets-return : (blocks : List SrcBlock) (from : ℕ) (b : SrcBlock) → from < length blocks → (get_or blocks from b).next ≡ Return → targets blocks from ≡ []
targets-return blocks from b within e = ap targets_from (slice_get-get_or blocks from b within) ∙ ap targets_of e

pub targets-within : (blocks : List SrcBlock) (from : ℕ) (ts us : List ℕ) (n : ℕ) → IsClosed blocks → n ≡ length blocks → targets blocks from ≡ ts → us ≡ ts → All (λ b. b < n) us
targets-within blocks from ts us n closed size e same =
    All-from_get_or (λ b. b < n) us 0 (λ i lt.
    let h = closed from (get_or us i 0) (subst (λ (vs : List ℕ). Contains vs (get_or us i 0)) (same ∙ sym e) (Contains-get_or us i 0 lt)) in
    omega (arith, h, size))

pub none-found-of : (n : ℕ) (found : List ℕ) (seen : List Bool) → found ≡ [] → seen ≡ replicate n false → AreFound found seen
none-found-of n found seen e d = subst (λ (v : List ℕ). AreFound v seen) (sym e) (subst (λ (v : List Bool). AreFound [] v) (sym d) (none-found n))

pub walking-start-of : (blocks : List SrcBlock) (found new : List ℕ) (n : ℕ) (seen new_seen : List Bool) → found ≡ [] → seen ≡ replicate n false → n ≡ length blocks → Finds (0 ∷ []) found new seen new_seen → Walking blocks 0 new new_seen
walking-start-of blocks found new n seen new_seen e d size one =
    walking-start blocks new n new_seen size (subst (λ (v : List ℕ). Finds (0 ∷ []) v new (replicate n false) new_seen) e (subst (λ (v : List Bool). Finds (0 ∷ []) found new v new_seen) d one))
