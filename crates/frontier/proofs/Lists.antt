-- The callees of sites, put together, and the way along a path.
use Rattle.std.proofs.Common.{◌≡◌, ℕ, zero, suc, ◌+◌, ◌-◌, ◌<◌, ◌≤◌, List, [], ◌∷◌, ◌++◌, length, take, drop, slice_get, slice_index_or, Option, None, Some, option_map, option_and_then, refl, sym, ap, ◌∙◌, append_assoc, append-nil, arith, not-suc-le-zero}
use Rattle.flat_prog.specs.declared.block.FlatBlock.{FlatBlock}
use Rattle.flat_prog.specs.declared.block.FlatCmd.{FlatCmd}
use Rattle.flat_prog.specs.declared.block.FlatCmd.TheVariants.{Assign, Havoc, Assume, Assert, Call}
use Rattle.flat_prog.specs.declared.proc.FlatProc.{FlatProc}
use Rattle.flat_prog.specs.Program.{FlatProgram}
use Rattle.flat_prog.specs.Sites.{calls_of, sites_of, along}
use Rattle.call_tree.specs.Trees.{callees, last_or}
use Rattle.frontier.specs.Ways.{callee_lists, list_at, go_on, way_on}

pub take_next : {X : Type 0} (xs : List X) (i : ℕ) (x : X) → i < length xs → x ≡ slice_index_or xs i x → take (i + 1) xs ≡ take i xs ++ x ∷ []
take_next [] i x h is = absurd (not-suc-le-zero h)
take_next (y ∷ ys) zero x h is = ap (λ z. z ∷ []) (sym is)
take_next (y ∷ ys) (suc i) x h is =
    let e : suc i + 1 ≡ suc (i + 1) = omega arith in
    ap (λ n. take n (y ∷ ys)) e ∙ ap (λ zs. y ∷ zs) (take_next ys i x (omega arith) is)

pub drop_next : {X : Type 0} (xs : List X) (i : ℕ) (x : X) → i < length xs → x ≡ slice_index_or xs i x → drop i xs ≡ x ∷ drop (i + 1) xs
drop_next [] i x h is = absurd (not-suc-le-zero h)
drop_next (y ∷ ys) zero x h is = ap (λ z. z ∷ ys) (sym is)
drop_next (y ∷ ys) (suc i) x h is =
    let e : suc (i + 1) ≡ suc i + 1 = omega arith in
    drop_next ys i x (omega arith) is ∙ ap (λ n. x ∷ drop n (y ∷ ys)) e

-- the element at a place, whatever stands where there is none
pub same_index : (xs : List ℕ) (i d : ℕ) → i < length xs → slice_index_or xs i d ≡ slice_index_or xs i (slice_index_or xs i d)
same_index [] i d h = absurd (not-suc-le-zero h)
same_index (x ∷ xs) zero d h = refl
same_index (x ∷ xs) (suc i) d h = same_index xs i d (omega arith)

-- ---- the callees of blocks

calls_append : (cs ds : List FlatCmd) → calls_of (cs ++ ds) ≡ calls_of cs ++ calls_of ds
calls_append [] ds = refl
calls_append (Assign pairs ∷ cs) ds = calls_append cs ds
calls_append (Havoc xs ∷ cs) ds = calls_append cs ds
calls_append (Assume e ∷ cs) ds = calls_append cs ds
calls_append (Assert p n e ∷ cs) ds = calls_append cs ds
calls_append (Call p args outs ∷ cs) ds = ap (λ x. p ∷ x) (calls_append cs ds)

pub sites_append : (bs cs : List FlatBlock) → sites_of (bs ++ cs) ≡ sites_of bs ++ sites_of cs
sites_append [] cs = refl
sites_append (b ∷ bs) cs = ap (λ x. calls_of b.cmds ++ x) (sites_append bs cs) ∙ sym (append_assoc (calls_of b.cmds) (sites_of bs) (sites_of cs))

lists_append : (ps qs : List FlatProc) → callee_lists (ps ++ qs) ≡ callee_lists ps ++ callee_lists qs
lists_append [] qs = refl
lists_append (p ∷ ps) qs = ap (λ x. sites_of p.blocks ∷ x) (lists_append ps qs)

-- one command more
pub calls_pushed : (cmds : List FlatCmd) (i : ℕ) (c : FlatCmd) (old mid new : List ℕ) → i < length cmds → c ≡ slice_index_or cmds i c → mid ≡ old ++ calls_of (take i cmds) → new ≡ mid ++ calls_of (c ∷ []) →
    new ≡ old ++ calls_of (take (i + 1) cmds)
calls_pushed cmds i c old mid new h is before step =
    step ∙ ap (λ x. x ++ calls_of (c ∷ [])) before ∙ append_assoc old (calls_of (take i cmds)) (calls_of (c ∷ []))
    ∙ ap (λ x. old ++ x) (sym (ap calls_of (take_next cmds i c h is) ∙ calls_append (take i cmds) (c ∷ [])))

-- one block more
pub sites_pushed : (blocks : List FlatBlock) (i : ℕ) (b : FlatBlock) (cmds : List FlatCmd) (mid new : List ℕ) → i < length blocks → b ≡ slice_index_or blocks i b → cmds ≡ b.cmds → mid ≡ sites_of (take i blocks) → new ≡ mid ++ calls_of cmds →
    new ≡ sites_of (take (i + 1) blocks)
sites_pushed blocks i b cmds mid new h is same before step =
    step ∙ ap (λ x. x ++ calls_of cmds) before ∙ ap (λ cs. sites_of (take i blocks) ++ calls_of cs) same ∙ ap (λ x. sites_of (take i blocks) ++ x) (sym (append-nil (calls_of b.cmds)))
    ∙ sym (ap sites_of (take_next blocks i b h is) ∙ sites_append (take i blocks) (b ∷ []))

-- one procedure more
pub lists_pushed : (procs : List FlatProc) (i : ℕ) (q : FlatProc) (blocks : List FlatBlock) (list : List ℕ) (mid new : List (List ℕ)) → i < length procs → q ≡ slice_index_or procs i q → blocks ≡ q.blocks → list ≡ sites_of blocks →
    mid ≡ callee_lists (take i procs) → new ≡ mid ++ list ∷ [] → new ≡ callee_lists (take (i + 1) procs)
lists_pushed procs i q blocks list mid new h is same one before step =
    step ∙ ap (λ x. x ++ list ∷ []) before ∙ ap (λ x. callee_lists (take i procs) ++ x ∷ []) (one ∙ ap sites_of same)
    ∙ sym (ap callee_lists (take_next procs i q h is) ∙ lists_append (take i procs) (q ∷ []))

-- ---- the way along a path

pub list_is : (flat : FlatProgram) (procs : List FlatProc) (p : ℕ) → list_at (callee_lists procs) p ≡ callees (record flat { procs = procs }) p
list_is flat [] p = refl
list_is flat (q ∷ procs) zero = refl
list_is flat (q ∷ procs) (suc p) = list_is flat procs p

pub lists_are : (flat : FlatProgram) (p : ℕ) → list_at (callee_lists flat.procs) p ≡ callees flat p
lists_are flat p = list_is flat flat.procs p

some_option : {A B : Type 0} (f : A → B) (o : Option A) (y : B) → option_map f o ≡ Some y → (x : A) × (o ≡ Some x) × (f x ≡ y)
some_option f None y h = cc
some_option f (Some x) y h = (x, refl, cc)

some_then : {A B : Type 0} (f : A → Option B) (o : Option A) (b : B) → option_and_then f o ≡ Some b → (a : A) × (o ≡ Some a) × (f a ≡ Some b)
some_then f None b h = cc
some_then f (Some a) b h = (a, refl, h)

-- where the path exists, the way is the procedures along it
pub way_is : (flat : FlatProgram) (p : ℕ) (path ps : List ℕ) → along flat p path ≡ Some ps → way_on (callee_lists flat.procs) p path ≡ ps
way_is flat p [] ps h = cc
way_is flat p (site ∷ path) ps h =
    let m = some_option (λ ps. p ∷ ps) (option_and_then (λ q. along flat q path) (slice_get (callees flat p) site)) ps h in
    let n = some_then (λ q. along flat q path) (slice_get (callees flat p) site) m.0 m.1 in
    ap (λ xs. p ∷ go_on (λ q. way_on (callee_lists flat.procs) q path) (slice_get xs site)) (lists_are flat p)
    ∙ ap (λ o. p ∷ go_on (λ q. way_on (callee_lists flat.procs) q path) o) n.1 ∙ ap (λ xs. p ∷ xs) (way_is flat n.0 path m.0 n.2) ∙ m.2

-- one site further
pub way_next : (lists : List (List ℕ)) (from : ℕ) (path : List ℕ) (i at site next : ℕ) (old new : List ℕ) → i < length path → site ≡ slice_index_or path i site → way_on lists from path ≡ old ++ way_on lists at (drop i path) →
    slice_get (list_at lists at) site ≡ Some next → new ≡ old ++ at ∷ [] → way_on lists from path ≡ new ++ way_on lists next (drop (i + 1) path)
way_next lists from path i at site next old new h is before found step =
    before ∙ ap (λ xs. old ++ way_on lists at xs) (drop_next path i site h is) ∙ ap (λ o. old ++ at ∷ go_on (λ q. way_on lists q (drop (i + 1) path)) o) found
    ∙ sym (ap (λ xs. xs ++ way_on lists next (drop (i + 1) path)) step ∙ append_assoc old (at ∷ []) (way_on lists next (drop (i + 1) path)))

-- no such site
pub way_ends : (lists : List (List ℕ)) (from : ℕ) (path : List ℕ) (i at site : ℕ) (old new : List ℕ) → i < length path → site ≡ slice_index_or path i site → way_on lists from path ≡ old ++ way_on lists at (drop i path) →
    slice_get (list_at lists at) site ≡ None → new ≡ old ++ at ∷ [] → new ≡ way_on lists from path
way_ends lists from path i at site old new h is before out step =
    step ∙ sym (before ∙ ap (λ xs. old ++ way_on lists at xs) (drop_next path i site h is) ∙ ap (λ o. old ++ at ∷ go_on (λ q. way_on lists q (drop (i + 1) path)) o) out)

-- the path ends
pub way_done : (lists : List (List ℕ)) (from : ℕ) (path : List ℕ) (i at : ℕ) (old new : List ℕ) → length path ≤ i → way_on lists from path ≡ old ++ way_on lists at (drop i path) → new ≡ old ++ at ∷ [] → new ≡ way_on lists from path
way_done lists from path i at old new h before step = step ∙ sym (before ∙ ap (λ xs. old ++ way_on lists at xs) (drop_whole path i h))
  where
    drop_whole : (xs : List ℕ) (n : ℕ) → length xs ≤ n → drop n xs ≡ []
    drop_whole [] zero h = refl
    drop_whole [] (suc n) h = refl
    drop_whole (x ∷ xs) zero h = absurd (not-suc-le-zero h)
    drop_whole (x ∷ xs) (suc n) h = drop_whole xs n (omega arith)

-- the last procedure on a way
pub last_is : (way : List ℕ) (d x : ℕ) → slice_get way (length way - 1) ≡ Some x → x ≡ last_or d way
last_is [] d x h = cc
last_is (y ∷ []) d x h = cc
last_is (y ∷ z ∷ way) d x h =
    let e : length (y ∷ z ∷ way) - 1 ≡ suc (length (z ∷ way) - 1) = omega arith in
    last_is (z ∷ way) y x (sym (ap (λ n. slice_get (y ∷ z ∷ way) n) e) ∙ h)
