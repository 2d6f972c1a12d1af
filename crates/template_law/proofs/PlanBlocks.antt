-- In the row of a plan, what is settled of calls is of those that the run passes.
use Rattle.std.proofs.Common.{◌≡◌, ℕ, zero, suc, ◌+◌, ◌-◌, ◌<◌, ◌≤◌, Bool, true, false, ◌||◌, ◌&&◌, not, List, [], ◌∷◌, ◌++◌, length, map, take, replicate, refl, sym, ap, ◌∙◌, subst, arith, append_assoc, append-nil, length-append, inl, inr}
use Rattle.std.specs.Prelude.{Option, None, Some, slice_get, slice_index, nat_eq, nat_lt, ◌⊎◌}
use Rattle.std.proofs.lemmas.Bool.{and_parts}
use Rattle.std.proofs.lemmas.Bool.Decides.{nat_tests}
use Rattle.hy_val.specs.declared.value.Value.{Value}
use Rattle.flat_prog.specs.Once.{has_number, numbers_differ}
use Rattle.flat_prog.specs.Ordering.{is_in}
use Rattle.flat_prog.specs.Sites.{calls_of, calls_at, sites_of, sites_passed, numbers_from}
use Rattle.flat_prog.specs.declared.block.FlatBlock.{FlatBlock}
use Rattle.flat_prog.specs.declared.block.FlatCmd.{FlatCmd}
use Rattle.flat_prog.specs.declared.block.FlatCmd.TheVariants.{Assign, Havoc, Assume, Assert, Call}
use Rattle.flat_prog.specs.declared.proc.FlatProc.{FlatProc}
use Rattle.passive_form.specs.Limited.{Limited}
use Rattle.passive_form.specs.Versions.{Cur}
use Rattle.passive_form.specs.Making.{items_of, items_all, entry_cur, entry_count, block_or, passive_block, passive_blocks}
use Rattle.passive_form.specs.declared.Item.{Item}
use Rattle.vc_gen.specs.Fold.{last_of}
use Rattle.vc_gen.specs.Items.{bool_sort, chosen}
use Rattle.vc_gen.specs.Inputs.{block_at, items_at, choices_at, sorts_of_block, sorts_of_blocks}
use Rattle.vc_gen.specs.Plans.{AllOpen, OpenOff, settled_value, opens, OpenAt, call_bit, settled_count}
use Rattle.tree_terms.specs.declared.linked.Role.{Role}
use Rattle.tree_terms.specs.declared.linked.Role.TheVariants.{Failed, Own}
use Rattle.proc_template.specs.Layout.{own_roles, items_roles, block_roles, blocks_roles, starts_of}
use Rattle.template_law.proofs.PlanRows.{entry, entry_front, entry_behind, entry_open, in_split, site_of, roles_count, roles_append, site_count, items_call, block_fitted, entry_globals, cmds_fitted, cmds_sites, Parted, parted}

rep_count : {A : Type 0} (n : ℕ) (x : A) → length (replicate n x) ≡ n
rep_count zero x = refl
rep_count (suc n) x = ap suc (rep_count n x)

own_none : (n o : ℕ) (r : Role) (i : ℕ) → slice_get (own_roles n) o ≡ Some r → site_of r ≡ Some i → ⊥
own_none zero o r i is at = cc
own_none (suc n) zero r i is at = let e : Own ≡ r = cc in let f : None ≡ Some i = ap site_of e ∙ at in cc
own_none (suc n) (suc o) r i is at = own_none n o r i is at

opens_open : (n : ℕ) → AllOpen (opens n)
opens_open zero = tt
opens_open (suc n) = opens_open n

settled_count_is : (vs : List Value) → length (map settled_value vs) ≡ length vs
settled_count_is [] = refl
settled_count_is (v ∷ vs) = ap suc (settled_count_is vs)

clash_tf : false ≡ true → ⊥
clash_tf e = cc

-- ---- numbers

same_of : (i j : ℕ) → nat_eq i j ≡ true → i ≡ j
same_of i j h = grind (arith, nat_tests)

equal_here : (i : ℕ) → nat_eq i i ≡ true
equal_here i = grind (arith, nat_tests)

pub has_from : (count first i : ℕ) → first ≤ i → i < first + count → has_number (numbers_from first count) i ≡ true
has_from zero first i l u = absurd (omega (arith, l, u))
has_from (suc count) first i l u = by (nat_eq first i) refl (λ k. has_from count (first + 1) i k (omega (arith, u)))
  where
    by : (b : Bool) → nat_eq first i ≡ b → (first + 1 ≤ i → has_number (numbers_from (first + 1) count) i ≡ true) → (nat_eq first i || has_number (numbers_from (first + 1) count) i) ≡ true
    by true e more = ap (λ b. b || has_number (numbers_from (first + 1) count) i) e
    by false e more =
        let apart : first ≡ i → ⊥ = λ s. clash_tf (sym e ∙ (ap (nat_eq first) (sym s) ∙ equal_here first)) in
        ap (λ b. b || has_number (numbers_from (first + 1) count) i) e ∙ more (omega (arith, l, apart))

pub has_left : (xs ys : List ℕ) (i : ℕ) → has_number xs i ≡ true → has_number (xs ++ ys) i ≡ true
has_left [] ys i h = absurd (clash_tf h)
has_left (x ∷ xs) ys i h = by (nat_eq x i) h (has_left xs ys i)
  where
    by : (b : Bool) → (b || has_number xs i) ≡ true → (has_number xs i ≡ true → has_number (xs ++ ys) i ≡ true) → (b || has_number (xs ++ ys) i) ≡ true
    by true k more = refl
    by false k more = more k

pub has_right : (xs ys : List ℕ) (i : ℕ) → has_number ys i ≡ true → has_number (xs ++ ys) i ≡ true
has_right [] ys i h = h
has_right (x ∷ xs) ys i h = by (nat_eq x i) (has_right xs ys i h)
  where
    by : (b : Bool) → has_number (xs ++ ys) i ≡ true → (b || has_number (xs ++ ys) i) ≡ true
    by true more = refl
    by false more = more

index_numbers : (f : ℕ → ℕ) (count k n : ℕ) → n < count → slice_index (map f (numbers_from k count)) n ≡ f (k + n)
index_numbers f zero k n l = absurd (omega (arith, l))
index_numbers f (suc count) k zero l = let e : k ≡ k + 0 = omega arith in ap f e
index_numbers f (suc count) k (suc n) l = let e : k + 1 + n ≡ k + suc n = omega arith in index_numbers f count (k + 1) n (omega (arith, l)) ∙ ap f e

abbrev pub start_at : List FlatBlock → ℕ → ℕ
start_at blocks n = length (sites_of (take n blocks))

pub starts_are : (blocks : List FlatBlock) (n : ℕ) → n < length blocks → slice_index (starts_of blocks) n ≡ start_at blocks n
starts_are blocks n l = let e : 0 + n ≡ n = omega arith in index_numbers (start_at blocks) (length blocks) 0 n l ∙ ap (start_at blocks) e

-- ---- paths

pub passed_has : (blocks : List FlatBlock) (path : List ℕ) (n i : ℕ) → is_in n path ≡ true → start_at blocks n ≤ i → i < start_at blocks n + length (calls_at (slice_get blocks n)) → has_number (sites_passed blocks path) i ≡ true
passed_has blocks [] n i h l u = absurd (clash_tf h)
passed_has blocks (b ∷ path) n i h l u = by (nat_eq n b) refl (λ k. passed_has blocks path n i k l u)
  where
    by : (c : Bool) → nat_eq n b ≡ c → (is_in n path ≡ true → has_number (sites_passed blocks path) i ≡ true) → has_number (numbers_from (start_at blocks b) (length (calls_at (slice_get blocks b))) ++ sites_passed blocks path) i ≡ true
    by true e more =
        let s = same_of n b e in
        has_left (numbers_from (start_at blocks b) (length (calls_at (slice_get blocks b)))) (sites_passed blocks path) i
        (subst (λ (m : ℕ). has_number (numbers_from (start_at blocks m) (length (calls_at (slice_get blocks m)))) i ≡ true) s (has_from (length (calls_at (slice_get blocks n))) (start_at blocks n) i l u))
    by false e more =
        has_right (numbers_from (start_at blocks b) (length (calls_at (slice_get blocks b)))) (sites_passed blocks path) i
        (more (ap (λ c. c || is_in n path) (sym e) ∙ h))

-- the blocks of a path but for the last
abbrev pub front_of : List ℕ → List ℕ
front_of [] = []
front_of (b ∷ []) = []
front_of (b ∷ c ∷ path) = b ∷ front_of (c ∷ path)

pub in_front : (b : ℕ) (path : List ℕ) (n : ℕ) → is_in n (b ∷ path) ≡ true → (n ≡ last_of b path) ⊎ (is_in n (front_of (b ∷ path)) ≡ true)
in_front b [] n h = by (nat_eq n b) refl h
  where
    by : (c : Bool) → nat_eq n b ≡ c → (c || false) ≡ true → (n ≡ b) ⊎ (false ≡ true)
    by true e k = inl (same_of n b e)
    by false e k = absurd (clash_tf k)
in_front b (d ∷ path) n h = by (nat_eq n b) refl h (in_front d path n)
  where
    more : nat_eq n b ≡ false → (n ≡ last_of d path) ⊎ (is_in n (front_of (d ∷ path)) ≡ true) → (n ≡ last_of d path) ⊎ ((nat_eq n b || is_in n (front_of (d ∷ path))) ≡ true)
    more e (inl k) = inl k
    more e (inr k) = inr (ap (λ c. c || is_in n (front_of (d ∷ path))) e ∙ k)

    by : (c : Bool) → nat_eq n b ≡ c → (c || is_in n (d ∷ path)) ≡ true → (is_in n (d ∷ path) ≡ true → (n ≡ last_of d path) ⊎ (is_in n (front_of (d ∷ path)) ≡ true)) → (n ≡ last_of d path) ⊎ ((nat_eq n b || is_in n (front_of (d ∷ path))) ≡ true)
    by true e k rec = inr (ap (λ c. c || is_in n (front_of (d ∷ path))) e)
    by false e k rec = more e (rec k)

pub sites_last : (blocks : List FlatBlock) (b : ℕ) (path : List ℕ) →
    sites_passed blocks (b ∷ path) ≡ sites_passed blocks (front_of (b ∷ path)) ++ numbers_from (start_at blocks (last_of b path)) (length (calls_at (slice_get blocks (last_of b path))))
sites_last blocks b [] = append-nil (numbers_from (start_at blocks b) (length (calls_at (slice_get blocks b))))
sites_last blocks b (c ∷ path) =
    let here = numbers_from (start_at blocks b) (length (calls_at (slice_get blocks b))) in
    ap (λ r. here ++ r) (sites_last blocks c path)
    ∙ sym (append_assoc here (sites_passed blocks (front_of (c ∷ path))) (numbers_from (start_at blocks (last_of c path)) (length (calls_at (slice_get blocks (last_of c path))))))

calls_same : (o : Option FlatBlock) → calls_of (block_or o).cmds ≡ calls_at o
calls_same None = refl
calls_same (Some b) = refl

-- ---- the place of a variable in the blocks

pub block_count : (flat : Limited) (q : FlatProc) (starts : List ℕ) (n : ℕ) → length (block_roles starts (passive_block flat q n (block_at q n))) ≡ length (sorts_of_block flat q n)
block_count flat q starts n =
    let s = slice_index starts n in
    let items = items_at flat q n in
    length-append (items_roles s items) (own_roles (choices_at q n)) ∙ ap (λ m. m + length (own_roles (choices_at q n))) (roles_count s items (block_fitted flat q n))
    ∙ ap (λ m. length (chosen items) + m) (rep_count (choices_at q n) Own ∙ sym (rep_count (choices_at q n) bool_sort)) ∙ sym (length-append (chosen items) (replicate (choices_at q n) bool_sort))

pub record Located (flat : Limited) (q : FlatProc) (starts order : List ℕ) (j : ℕ) (r : Role) : Type 0 where
  pub place : ℕ
  pub block : ℕ
  pub inside : ℕ
  pub place_is : slice_get order place ≡ Some block
  pub where_is : j ≡ length (sorts_of_blocks flat q (take place order)) + inside
  pub within : inside < length (sorts_of_block flat q block)
  pub role_is : slice_get (block_roles starts (passive_block flat q block (block_at q block))) inside ≡ Some r

pub located : (flat : Limited) (q : FlatProc) (starts order : List ℕ) (j : ℕ) (r : Role) → slice_get (blocks_roles starts (passive_blocks flat q order)) j ≡ Some r → Located flat q starts order j r
located flat q starts [] j r h = cc
located flat q starts (n ∷ ns) j r h = by (λ o k. located flat q starts ns o r k) (in_split (block_roles starts (passive_block flat q n (block_at q n))) (blocks_roles starts (passive_blocks flat q ns)) j r h)
  where
    by : ((o : ℕ) → slice_get (blocks_roles starts (passive_blocks flat q ns)) o ≡ Some r → Located flat q starts ns o r) → ((j < length (block_roles starts (passive_block flat q n (block_at q n)))) × (slice_get (block_roles starts (passive_block flat q n (block_at q n))) j ≡ Some r))
        ⊎ ((o : ℕ) × (j ≡ length (block_roles starts (passive_block flat q n (block_at q n))) + o) × (slice_get (blocks_roles starts (passive_blocks flat q ns)) o ≡ Some r)) → Located flat q starts (n ∷ ns) j r
    by more (inl k) =
        let c = block_count flat q starts n in
        let l = k.0 in
        record { place = 0; block = n; inside = j; place_is = refl; where_is = (let e : j ≡ 0 + j = omega arith in e); within = omega (arith, c, l); role_is = k.1 }
    by more (inr k) =
        let c = block_count flat q starts n in
        let z = more k.0 k.2 in
        let e = k.1 in
        let f = z.where_is in
        let g = length-append (sorts_of_block flat q n) (sorts_of_blocks flat q (take z.place ns)) in
        record { place = suc z.place; block = z.block; inside = z.inside; place_is = z.place_is; where_is = omega (arith, c, e, f, g); within = z.within; role_is = z.role_is }

-- ---- what is open

pub off_open : (flat : Limited) (q : FlatProc) (path order : List ℕ) (row : List (Option Value)) → OpenOff flat q path order row → (place n o : ℕ) → slice_get order place ≡ Some n → is_in n path ≡ false → o < length (sorts_of_block flat q n) →
    entry row (length (sorts_of_blocks flat q (take place order)) + o) ≡ None
off_open flat q path [] row h place n o is off l = cc
off_open flat q path (m ∷ ns) row h zero n o is off l =
    let same : m ≡ n = cc in
    let open_here : AllOpen h.0 = h.4 (ap (λ x. is_in x path) same ∙ off) in
    let size : length h.0 ≡ length (sorts_of_block flat q n) = h.3 ∙ ap (λ x. length (sorts_of_block flat q x)) same in
    let e : 0 + o ≡ o = omega arith in
    ap (λ r. entry r (0 + o)) h.2 ∙ ap (entry (h.0 ++ h.1)) e ∙ entry_front h.0 h.1 o (omega (arith, l, size)) ∙ entry_open h.0 o open_here
off_open flat q path (m ∷ ns) row h (suc place) n o is off l =
    let g = length-append (sorts_of_block flat q m) (sorts_of_blocks flat q (take place ns)) in
    let size = h.3 in
    let e : length (sorts_of_block flat q m ++ sorts_of_blocks flat q (take place ns)) + o ≡ length h.0 + (length (sorts_of_blocks flat q (take place ns)) + o) = omega (arith, g, size) in
    ap (λ r. entry r (length (sorts_of_block flat q m ++ sorts_of_blocks flat q (take place ns)) + o)) h.2 ∙ ap (entry (h.0 ++ h.1)) e ∙ entry_behind h.0 h.1 (length (sorts_of_blocks flat q (take place ns)) + o)
    ∙ off_open flat q path ns h.1 h.5 place n o is off l

pub at_open : (flat : Limited) (q : FlatProc) (order : List ℕ) (place count : ℕ) (row : List (Option Value)) (n o : ℕ) → (h : OpenAt flat q order place count row) → length h.mine ≡ length (sorts_of_block flat q n) → o < length (sorts_of_block flat q n) → count ≤ o →
    entry row (length (sorts_of_blocks flat q (take place order)) + o) ≡ None
at_open flat q order place count row n o h size l low =
    let e : length (sorts_of_blocks flat q (take place order)) + o ≡ length h.pre + o = ap (λ x. x + o) (sym h.before) in
    let b = h.behind in
    let c = settled_count_is b.front in
    let s = b.size in
    let f : o ≡ length (map settled_value b.front) + (o - count) = omega (arith, c, s, low) in
    ap (λ r. entry r (length (sorts_of_blocks flat q (take place order)) + o)) h.row_is ∙ ap (entry (h.pre ++ (h.mine ++ h.post))) e ∙ entry_behind h.pre (h.mine ++ h.post) o
    ∙ entry_front h.mine h.post o (omega (arith, l, size)) ∙ ap (λ r. entry r o) b.mine_is ∙ ap (entry (map settled_value b.front ++ opens b.free)) f
    ∙ entry_behind (map settled_value b.front) (opens b.free) (o - count) ∙ entry_open (opens b.free) (o - count) (opens_open b.free)

-- ---- what is settled of calls

none_some : {A : Type 0} (o : Option A) (v : A) → o ≡ None → o ≡ Some v → ⊥
none_some o v e f = let g : None ≡ Some v = sym e ∙ f in cc

block_call : (flat : Limited) (q : FlatProc) (n o : ℕ) (r : Role) (i : ℕ) → n < length q.blocks → slice_get (block_roles (starts_of q.blocks) (passive_block flat q n (block_at q n))) o ≡ Some r → site_of r ≡ Some i →
    (start_at q.blocks n ≤ i) × (i < start_at q.blocks n + length (calls_at (slice_get q.blocks n))) × (slice_get (items_roles (start_at q.blocks n) (items_at flat q n)) o ≡ Some r)
block_call flat q n o r i there is at = by (in_split (items_roles (slice_index (starts_of q.blocks) n) (items_at flat q n)) (own_roles (choices_at q n)) o r is)
  where
    by : ((o < length (items_roles (slice_index (starts_of q.blocks) n) (items_at flat q n))) × (slice_get (items_roles (slice_index (starts_of q.blocks) n) (items_at flat q n)) o ≡ Some r))
        ⊎ ((c : ℕ) × (o ≡ length (items_roles (slice_index (starts_of q.blocks) n) (items_at flat q n)) + c) × (slice_get (own_roles (choices_at q n)) c ≡ Some r)) →
        (start_at q.blocks n ≤ i) × (i < start_at q.blocks n + length (calls_at (slice_get q.blocks n))) × (slice_get (items_roles (start_at q.blocks n) (items_at flat q n)) o ≡ Some r)
    by (inl k) =
        let e = starts_are q.blocks n there in
        let z = items_call (slice_index (starts_of q.blocks) n) (items_at flat q n) o r i k.1 at in
        let c = cmds_sites flat q (entry_cur flat q) 0 (entry_count flat q) (block_at q n).cmds in
        let d = ap length (calls_same (slice_get q.blocks n)) in
        let a = z.low in
        let b = z.high in
        (omega (arith, e, a), omega (arith, e, b, c, d), subst (λ (x : ℕ). slice_get (items_roles x (items_at flat q n)) o ≡ Some r) e k.1)
    by (inr k) = absurd (own_none (choices_at q n) k.0 r i k.2 at)

-- where the run ends, of the calls of its path
pub settled_ends : (flat : Limited) (q : FlatProc) (order path : List ℕ) (row : List (Option Value)) → OpenOff flat q path order row → ((place n : ℕ) → slice_get order place ≡ Some n → n < length q.blocks) →
    (j : ℕ) (v : Value) (r : Role) (i : ℕ) → entry row j ≡ Some v → slice_get (blocks_roles (starts_of q.blocks) (passive_blocks flat q order)) j ≡ Some r → site_of r ≡ Some i → has_number (sites_passed q.blocks path) i ≡ true
settled_ends flat q order path row open_off there j v r i settled is at =
    let z = located flat q (starts_of q.blocks) order j r is in
    let c = block_call flat q z.block z.inside r i (there z.place z.block z.place_is) z.role_is at in
    by z c (is_in z.block path) refl
  where
    by : (z : Located flat q (starts_of q.blocks) order j r) →
        (start_at q.blocks z.block ≤ i) × (i < start_at q.blocks z.block + length (calls_at (slice_get q.blocks z.block))) × (slice_get (items_roles (start_at q.blocks z.block) (items_at flat q z.block)) z.inside ≡ Some r) →
        (b : Bool) → is_in z.block path ≡ b → has_number (sites_passed q.blocks path) i ≡ true
    by z c true e = passed_has q.blocks path z.block i e c.0 c.1
    by z c false e = absurd (none_some (entry row j) v (ap (entry row) z.where_is ∙ off_open flat q path order row open_off z.place z.block z.inside z.place_is e z.within) settled)

with_bit : (c b : Bool) → b ≡ true → (c || b) ≡ true
with_bit true b h = refl
with_bit false b h = h

number_at : (ns : List ℕ) (b m : ℕ) → Some m ≡ slice_get ns b → has_number ns m ≡ true
number_at [] b m e = cc
number_at (x ∷ ns) zero m e = let s : m ≡ x = cc in ap (λ y. nat_eq y m || has_number ns m) (sym s) ∙ ap (λ c. c || has_number ns m) (equal_here m)
number_at (x ∷ ns) (suc b) m e = with_bit (nat_eq x m) (has_number ns m) (number_at ns b m e)

twice : (ns : List ℕ) (b m : ℕ) → Some m ≡ slice_get ns b → (not (has_number ns m) && numbers_differ ns) ≡ true → ⊥
twice ns b m e d = let z = (and_parts (not (has_number ns m)) (numbers_differ ns) d).0 in clash_tf (sym (sym z ∙ ap not (number_at ns b m e)))

place_once : (ns : List ℕ) (a b n : ℕ) → numbers_differ ns ≡ true → slice_get ns a ≡ Some n → slice_get ns b ≡ Some n → a ≡ b
place_once [] a b n d h k = cc
place_once (m ∷ ns) zero zero n d h k = refl
place_once (m ∷ ns) zero (suc b) n d h k = let e : m ≡ n = cc in absurd (twice ns b m (ap (λ x. Some x) e ∙ sym k) d)
place_once (m ∷ ns) (suc a) zero n d h k = let e : m ≡ n = cc in absurd (twice ns a m (ap (λ x. Some x) e ∙ sym h) d)
place_once (m ∷ ns) (suc a) (suc b) n d h k = ap suc (place_once ns a b n (and_parts (not (has_number ns m)) (numbers_differ ns) d).1 h k)

-- where the run fails: of the calls before the command that fails; where this is a call, that the callee fails
pub data OfCall (front : List ℕ) (r : Role) (i last : ℕ) (c : FlatCmd) : Type 0 where
  before : has_number front i ≡ true → OfCall front r i last c
  failing : r ≡ Failed i → i ≡ last → call_bit c ≡ 1 → OfCall front r i last c

one_role : (flat : Limited) (q : FlatProc) (cur : Cur) (at k s : ℕ) (c : FlatCmd) (behind : List Item) (o : ℕ) (r : Role) → o < call_bit c → slice_get (items_roles s (items_of flat q cur at k c ++ behind)) o ≡ Some r → (r ≡ Failed s) × (call_bit c ≡ 1)
one_role flat q cur at k s (Assign pairs) behind o r l is = absurd (omega (arith, l))
one_role flat q cur at k s (Havoc xs) behind o r l is = absurd (omega (arith, l))
one_role flat q cur at k s (Assume e) behind o r l is = absurd (omega (arith, l))
one_role flat q cur at k s (Assert p n e) behind o r l is = absurd (omega (arith, l))
one_role flat q cur at k s (Call p args outs) behind zero r l is = let e : Failed s ≡ r = cc in (sym e, refl)
one_role flat q cur at k s (Call p args outs) behind (suc o) r l is = absurd (omega (arith, l))

last_call : (flat : Limited) (q : FlatProc) (s : ℕ) (cs : List FlatCmd) (c : FlatCmd) (ds : List FlatCmd) (front : List ℕ) (o : ℕ) (r : Role) (i : ℕ) → o < settled_count flat q (entry_cur flat q) 0 (entry_count flat q) cs c →
    slice_get (items_roles s (items_all flat q (entry_cur flat q) 0 (entry_count flat q) (cs ++ c ∷ ds))) o ≡ Some r → site_of r ≡ Some i →
    ((s ≤ i) × (i < s + length (calls_of cs))) ⊎ ((r ≡ Failed (s + length (calls_of cs))) × (call_bit c ≡ 1))
last_call flat q s cs c ds front o r i l is at = by (in_split (items_roles s pre) (items_roles (s + site_count pre) (items_of flat q z.before z.place z.count c ++ z.behind)) o r told)
  where
    pre : List Item
    pre = items_all flat q (entry_cur flat q) 0 (entry_count flat q) cs

    z : Parted flat q (entry_cur flat q) 0 (entry_count flat q) cs c ds
    z = parted flat q (entry_cur flat q) 0 (entry_count flat q) cs c ds

    told : slice_get (items_roles s pre ++ items_roles (s + site_count pre) (items_of flat q z.before z.place z.count c ++ z.behind)) o ≡ Some r
    told = ap (λ x. slice_get x o) (sym (ap (items_roles s) z.items_are ∙ roles_append s pre (items_of flat q z.before z.place z.count c ++ z.behind))) ∙ is

    by : ((o < length (items_roles s pre)) × (slice_get (items_roles s pre) o ≡ Some r)) ⊎ ((d : ℕ) × (o ≡ length (items_roles s pre) + d) × (slice_get (items_roles (s + site_count pre) (items_of flat q z.before z.place z.count c ++ z.behind)) d ≡ Some r)) →
        ((s ≤ i) × (i < s + length (calls_of cs))) ⊎ ((r ≡ Failed (s + length (calls_of cs))) × (call_bit c ≡ 1))
    by (inl k) =
        let y = items_call s pre o r i k.1 at in
        let n = cmds_sites flat q (entry_cur flat q) 0 (entry_count flat q) cs in
        let a = y.low in
        let b = y.high in
        inl (omega (arith, a), omega (arith, b, n))
    by (inr k) =
        let n = cmds_sites flat q (entry_cur flat q) 0 (entry_count flat q) cs in
        let m = roles_count s pre (cmds_fitted flat q (entry_cur flat q) 0 (entry_count flat q) cs (entry_globals flat q)) in
        let e = k.1 in
        let low : k.0 < call_bit c = omega (arith, l, e, m) in
        let y = one_role flat q z.before z.place z.count (s + site_count pre) c z.behind k.0 r low k.2 in
        inr (y.0 ∙ ap (λ x. Failed (s + x)) n, y.1)

pub settled_fails : (flat : Limited) (q : FlatProc) (order path : List ℕ) (row : List (Option Value)) → OpenOff flat q (0 ∷ path) order row → ((place n : ℕ) → slice_get order place ≡ Some n → n < length q.blocks) → numbers_differ order ≡ true →
    (place : ℕ) → slice_get order place ≡ Some (last_of 0 path) → (cs : List FlatCmd) (c : FlatCmd) (ds : List FlatCmd) → (block_at q (last_of 0 path)).cmds ≡ cs ++ c ∷ ds →
    (h : OpenAt flat q order place (settled_count flat q (entry_cur flat q) 0 (entry_count flat q) cs c) row) → length h.mine ≡ length (sorts_of_block flat q (last_of 0 path)) →
    (j : ℕ) (v : Value) (r : Role) (i : ℕ) → entry row j ≡ Some v → slice_get (blocks_roles (starts_of q.blocks) (passive_blocks flat q order)) j ≡ Some r → site_of r ≡ Some i →
    OfCall (sites_passed q.blocks (front_of (0 ∷ path)) ++ numbers_from (start_at q.blocks (last_of 0 path)) (length (calls_of cs))) r i (start_at q.blocks (last_of 0 path) + length (calls_of cs)) c
settled_fails flat q order path row open_off there once place place_is cs c ds splits h size j v r i settled is at =
    let z = located flat q (starts_of q.blocks) order j r is in
    let k = block_call flat q z.block z.inside r i (there z.place z.block z.place_is) z.role_is at in
    by z k (is_in z.block (0 ∷ path)) refl
  where
    last : ℕ
    last = last_of 0 path

    Goal : Type 0
    Goal = OfCall (sites_passed q.blocks (front_of (0 ∷ path)) ++ numbers_from (start_at q.blocks (last_of 0 path)) (length (calls_of cs))) r i (start_at q.blocks (last_of 0 path) + length (calls_of cs)) c

    told : (n : ℕ) → n ≡ last_of 0 path → site_of r ≡ Some i → ((start_at q.blocks n ≤ i) × (i < start_at q.blocks n + length (calls_of cs))) ⊎ ((r ≡ Failed (start_at q.blocks n + length (calls_of cs))) × (call_bit c ≡ 1)) → Goal
    told n e s (inl a) =
        before (has_right (sites_passed q.blocks (front_of (0 ∷ path))) (numbers_from (start_at q.blocks (last_of 0 path)) (length (calls_of cs))) i
        (subst (λ (x : ℕ). has_number (numbers_from (start_at q.blocks x) (length (calls_of cs))) i ≡ true) e (has_from (length (calls_of cs)) (start_at q.blocks n) i a.0 a.1)))
    told n e s (inr a) =
        let f : Some (start_at q.blocks n + length (calls_of cs)) ≡ Some i = sym (ap site_of a.0) ∙ s in
        let g : start_at q.blocks n + length (calls_of cs) ≡ i = cc in
        failing (a.0 ∙ ap Failed g) (sym g ∙ ap (λ x. start_at q.blocks x + length (calls_of cs)) e) a.1

    by_size : (z : Located flat q (starts_of q.blocks) order j r) → z.block ≡ last_of 0 path → slice_get (items_roles (start_at q.blocks z.block) (items_at flat q z.block)) z.inside ≡ Some r → z.place ≡ place → (b : Bool) → nat_lt z.inside (settled_count flat q (entry_cur flat q) 0 (entry_count flat q) cs c) ≡ b → Goal
    by_size z e is_role p true l =
        let low : z.inside < settled_count flat q (entry_cur flat q) 0 (entry_count flat q) cs c = below z.inside (settled_count flat q (entry_cur flat q) 0 (entry_count flat q) cs c) l in
        let items_are : items_at flat q z.block ≡ items_all flat q (entry_cur flat q) 0 (entry_count flat q) (cs ++ c ∷ ds) = ap (items_at flat q) e ∙ ap (items_all flat q (entry_cur flat q) 0 (entry_count flat q)) splits in
        told z.block e at (last_call flat q (start_at q.blocks z.block) cs c ds [] z.inside r i low (ap (λ x. slice_get (items_roles (start_at q.blocks z.block) x) z.inside) (sym items_are) ∙ is_role) at)
      where
        below : (a b : ℕ) → nat_lt a b ≡ true → a < b
        below a b h = grind (arith, nat_tests)
    by_size z e is_role p false l =
        let high : settled_count flat q (entry_cur flat q) 0 (entry_count flat q) cs c ≤ z.inside = above z.inside (settled_count flat q (entry_cur flat q) 0 (entry_count flat q) cs c) l in
        let f : j ≡ length (sorts_of_blocks flat q (take place order)) + z.inside = z.where_is ∙ ap (λ x. length (sorts_of_blocks flat q (take x order)) + z.inside) p in
        absurd (none_some (entry row j) v (ap (entry row) f ∙ at_open flat q order place (settled_count flat q (entry_cur flat q) 0 (entry_count flat q) cs c) row (last_of 0 path) z.inside h size
        (subst (λ (x : ℕ). z.inside < length (sorts_of_block flat q x)) e z.within) high) settled)
      where
        above : (a b : ℕ) → nat_lt a b ≡ false → b ≤ a
        above a b h = grind (arith, nat_tests)

    by : (z : Located flat q (starts_of q.blocks) order j r) →
        (start_at q.blocks z.block ≤ i) × (i < start_at q.blocks z.block + length (calls_at (slice_get q.blocks z.block))) × (slice_get (items_roles (start_at q.blocks z.block) (items_at flat q z.block)) z.inside ≡ Some r) →
        (b : Bool) → is_in z.block (0 ∷ path) ≡ b → Goal
    by z k true e = inside (in_front 0 path z.block e)
      where
        inside : (z.block ≡ last_of 0 path) ⊎ (is_in z.block (front_of (0 ∷ path)) ≡ true) → Goal
        inside (inl m) = by_size z m k.2 (place_once order z.place place (last_of 0 path) once (z.place_is ∙ ap (λ x. Some x) m) place_is) (nat_lt z.inside (settled_count flat q (entry_cur flat q) 0 (entry_count flat q) cs c)) refl
        inside (inr m) =
            before (has_left (sites_passed q.blocks (front_of (0 ∷ path))) (numbers_from (start_at q.blocks (last_of 0 path)) (length (calls_of cs))) i
            (passed_has q.blocks (front_of (0 ∷ path)) z.block i m k.0 k.1))
    by z k false e = absurd (none_some (entry row j) v (ap (entry row) z.where_is ∙ off_open flat q (0 ∷ path) order row open_off z.place z.block z.inside z.place_is e z.within) settled)
