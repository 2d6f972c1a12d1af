-- The numbers of sites by block, and those that a path of blocks passes.
use Rattle.std.proofs.Common.{◌≡◌, ℕ, zero, suc, ◌+◌, ◌<◌, List, [], ◌∷◌, ◌++◌, length, take, slice_get, slice_index_or, refl, sym, ap, ◌∙◌, append_assoc, append-nil, length-append, arith}
use Rattle.flat_prog.specs.Program.{blocks_of}
use Rattle.flat_prog.specs.Sites.{calls_at, calls_of, numbers_from, sites_of, sites_passed}
use Rattle.flat_prog.specs.declared.block.FlatBlock.{FlatBlock}
use Rattle.flat_prog.specs.declared.block.FlatCmd.{FlatCmd}
use Rattle.flat_prog.specs.declared.proc.FlatProc.{FlatProc}
use Rattle.frontier.specs.Passed.{block_sites, site_tables, table_at, sites_on}
use Rattle.frontier.specs.Ways.{list_at}
use Rattle.frontier.proofs.Lists.{take_next, sites_append}

-- ---- numbers

numbers_more : (first k : ℕ) → numbers_from first (k + 1) ≡ numbers_from first k ++ (first + k) ∷ []
numbers_more first zero = ap (λ (n : ℕ). n ∷ []) (let e : first ≡ first + 0 = omega arith in e)
numbers_more first (suc k) =
    let e : (first + 1) + k ≡ first + suc k = omega arith in
    ap (λ (n : ℕ). numbers_from first n) (let m : suc k + 1 ≡ suc (k + 1) = omega arith in m)
    ∙ ap (λ (ns : List ℕ). first ∷ ns) (numbers_more (first + 1) k ∙ ap (λ (n : ℕ). numbers_from (first + 1) k ++ n ∷ []) e)

-- a number more
pub number_pushed : (first k n : ℕ) (old new : List ℕ) → old ≡ numbers_from first k → n ≡ first + k → new ≡ old ++ n ∷ [] → new ≡ numbers_from first (k + 1)
number_pushed first k n old new h e p = p ∙ (ap (λ (ns : List ℕ). ns ++ n ∷ []) h ∙ (ap (λ (m : ℕ). numbers_from first k ++ m ∷ []) e ∙ sym (numbers_more first k)))

-- ---- blocks

blocks_append : (first : ℕ) (bs : List FlatBlock) (b : FlatBlock) → block_sites first (bs ++ b ∷ []) ≡ block_sites first bs ++ numbers_from (first + length (sites_of bs)) (length (calls_of b.cmds)) ∷ []
blocks_append first [] b = ap (λ (n : ℕ). numbers_from n (length (calls_of b.cmds)) ∷ []) (let e : first ≡ first + 0 = omega arith in e)
blocks_append first (x ∷ bs) b =
    let l = length-append (calls_of x.cmds) (sites_of bs) in
    let e : (first + length (calls_of x.cmds)) + length (sites_of bs) ≡ first + length (calls_of x.cmds ++ sites_of bs) = omega (arith, l) in
    ap (λ (ls : List (List ℕ)). numbers_from first (length (calls_of x.cmds)) ∷ ls)
    (blocks_append (first + length (calls_of x.cmds)) bs b ∙ ap (λ (n : ℕ). block_sites (first + length (calls_of x.cmds)) bs ++ numbers_from n (length (calls_of b.cmds)) ∷ []) e)

-- a block more
pub block_more : (blocks : List FlatBlock) (i : ℕ) (b : FlatBlock) (cmds : List FlatCmd) (count next after : ℕ) (list : List ℕ) (old new : List (List ℕ)) → i < length blocks → b ≡ slice_index_or blocks i b → cmds ≡ b.cmds →
    count ≡ length (calls_of cmds) → list ≡ numbers_from next count → (old ≡ block_sites 0 (take i blocks)) × (next ≡ length (sites_of (take i blocks))) → new ≡ old ++ list ∷ [] → after ≡ next + count →
    (new ≡ block_sites 0 (take (i + 1) blocks)) × (after ≡ length (sites_of (take (i + 1) blocks)))
block_more blocks i b cmds count next after list old new h is same n l before step last =
    let c : count ≡ length (calls_of b.cmds) = n ∙ ap (λ (cs : List FlatCmd). length (calls_of cs)) same in
    let z : length (sites_of (take i blocks)) ≡ 0 + length (sites_of (take i blocks)) = omega arith in
    let all : length (sites_of (take (i + 1) blocks)) ≡ length (sites_of (take i blocks)) + length (calls_of b.cmds) =
    ap (λ (bs : List FlatBlock). length (sites_of bs)) (take_next blocks i b h is)
    ∙ (ap length (sites_append (take i blocks) (b ∷ []) ∙ ap (λ (x : List ℕ). sites_of (take i blocks) ++ x) (append-nil (calls_of b.cmds)))
    ∙ length-append (sites_of (take i blocks)) (calls_of b.cmds)) in
    let at = before.1 in (
      step ∙ (ap (λ (x : List (List ℕ)). x ++ list ∷ []) before.0
          ∙ (ap (λ (x : List ℕ). block_sites 0 (take i blocks) ++ x ∷ []) (l ∙ (ap (λ (m : ℕ). numbers_from m count) (at ∙ z) ∙ ap (λ (m : ℕ). numbers_from (0 + length (sites_of (take i blocks))) m) c))
          ∙ sym (ap (block_sites 0) (take_next blocks i b h is) ∙ blocks_append 0 (take i blocks) b))),
      omega (arith, last, at, c, all),
    )

-- ---- the sites on a path

on_append : (lists : List (List ℕ)) (xs : List ℕ) (b : ℕ) → sites_on lists (xs ++ b ∷ []) ≡ sites_on lists xs ++ list_at lists b
on_append lists [] b = append-nil (list_at lists b)
on_append lists (x ∷ xs) b = ap (λ (ns : List ℕ). list_at lists x ++ ns) (on_append lists xs b) ∙ sym (append_assoc (list_at lists x) (sites_on lists xs) (list_at lists b))

-- a block of the path more
pub on_more : (lists : List (List ℕ)) (path : List ℕ) (i b : ℕ) (list old new : List ℕ) → i < length path → b ≡ slice_index_or path i b → list ≡ list_at lists b → old ≡ sites_on lists (take i path) → new ≡ old ++ list →
    new ≡ sites_on lists (take (i + 1) path)
on_more lists path i b list old new h is l before step =
    step ∙ (ap (λ (x : List ℕ). x ++ list) before ∙ (ap (λ (x : List ℕ). sites_on lists (take i path) ++ x) l ∙ sym (ap (sites_on lists) (take_next path i b h is) ∙ on_append lists (take i path) b)))

list_of_block : (first : ℕ) (blocks : List FlatBlock) (b : ℕ) → list_at (block_sites first blocks) b ≡ numbers_from (first + length (sites_of (take b blocks))) (length (calls_at (slice_get blocks b)))
list_of_block first [] b = refl
list_of_block first (x ∷ bs) zero = ap (λ (n : ℕ). numbers_from n (length (calls_of x.cmds))) (let e : first ≡ first + 0 = omega arith in e)
list_of_block first (x ∷ bs) (suc b) =
    let l = length-append (calls_of x.cmds) (sites_of (take b bs)) in
    let e : (first + length (calls_of x.cmds)) + length (sites_of (take b bs)) ≡ first + length (calls_of x.cmds ++ sites_of (take b bs)) = omega (arith, l) in
    list_of_block (first + length (calls_of x.cmds)) bs b ∙ ap (λ (n : ℕ). numbers_from n (length (calls_at (slice_get bs b)))) e

sites_same : (blocks : List FlatBlock) (path : List ℕ) → sites_on (block_sites 0 blocks) path ≡ sites_passed blocks path
sites_same blocks [] = refl
sites_same blocks (b ∷ path) =
    let z : 0 + length (sites_of (take b blocks)) ≡ length (sites_of (take b blocks)) = omega arith in
    ap (λ (x : List ℕ). x ++ sites_on (block_sites 0 blocks) path) (list_of_block 0 blocks b ∙ ap (λ (n : ℕ). numbers_from n (length (calls_at (slice_get blocks b)))) z)
    ∙ ap (λ (x : List ℕ). numbers_from (length (sites_of (take b blocks))) (length (calls_at (slice_get blocks b))) ++ x) (sites_same blocks path)

table_is : (procs : List FlatProc) (p : ℕ) → table_at (site_tables procs) p ≡ block_sites 0 (blocks_of (slice_get procs p))
table_is [] p = refl
table_is (q ∷ procs) zero = refl
table_is (q ∷ procs) (suc p) = table_is procs p

-- by the tables of all procedures
pub passed_is : (procs : List FlatProc) (p : ℕ) (path : List ℕ) → sites_on (table_at (site_tables procs) p) path ≡ sites_passed (blocks_of (slice_get procs p)) path
passed_is procs p path = ap (λ (ls : List (List ℕ)). sites_on ls path) (table_is procs p) ∙ sites_same (blocks_of (slice_get procs p)) path
