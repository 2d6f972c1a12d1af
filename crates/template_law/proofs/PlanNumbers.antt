-- The variables of a formula by number: their roles, that each is a node, and an assignment that has what is settled and zeros elsewhere.
use Rattle.std.proofs.Common.{◌≡◌, ℕ, zero, suc, ◌+◌, ◌-◌, ◌<◌, ◌≤◌, Bool, true, false, List, [], ◌∷◌, ◌++◌, length, replicate, refl, sym, ap, ◌∙◌, subst, arith, append_assoc, length-append}
use Rattle.std.specs.Prelude.{Option, None, Some, slice_get, slice_index_or, nat_lt, if◌then◌else◌, IsTrue}
use Rattle.std.proofs.lemmas.Bool.{and_parts, and_from}
use Rattle.std.proofs.lemmas.Bool.Decides.{nat_tests}
use Rattle.hy_val.specs.NodeSorts.{is_sort}
use Rattle.hy_val.specs.Values.{at, has_sort, zero_of}
use Rattle.hy_val.specs.declared.sort.Sort.{Sort}
use Rattle.hy_val.specs.declared.value.Value.{Value}
use Rattle.hy_term.specs.Meaning.{extended, fits}
use Rattle.hy_term.specs.Variables.{reads}
use Rattle.hy_term.specs.declared.node.TermNode.{TermNode}
use Rattle.hy_term.specs.declared.node.TermNode.TheVariants.{Lit, ZeroMap, Variable, Unary, Binary, If, Select, Store}
use Rattle.flat_prog.specs.Local.{have_sorts}
use Rattle.flat_prog.specs.Shape.{exit_sort}
use Rattle.flat_prog.specs.Sites.{numbers_from}
use Rattle.flat_prog.specs.declared.proc.FlatKind.{FlatKind}
use Rattle.flat_prog.specs.declared.proc.FlatKind.TheVariants.{Source, Loop}
use Rattle.flat_prog.specs.declared.proc.FlatProc.{FlatProc}
use Rattle.passive_form.specs.Limited.{Limited}
use Rattle.passive_form.specs.Local.{sorted_as}
use Rattle.passive_form.specs.Making.{passive_block, passive_blocks, passive_start, free_items, zero_items}
use Rattle.passive_form.specs.declared.Item.{Item}
use Rattle.passive_form.specs.declared.Item.TheVariants.{Let, Zero, Free, Need, Check, Site}
use Rattle.passive_form.specs.declared.PassiveBlock.{PassiveBlock}
use Rattle.vc_gen.specs.Emit.{row_of}
use Rattle.vc_gen.specs.Inputs.{block_at, sorts_of_block, sorts_of_blocks}
use Rattle.vc_gen.specs.Instance.{start_sorts}
use Rattle.vc_gen.specs.Items.{AreSorts}
use Rattle.vc_gen.specs.Plans.{RowFits}
use Rattle.vc_gen.specs.Standing.{variables_in}
use Rattle.tree_terms.specs.declared.linked.Role.{Role}
use Rattle.tree_terms.specs.declared.linked.Role.TheVariants.{Const, Global, In, Failed, Out, After, Own}
use Rattle.proc_template.specs.Layout.{numbered, out_roles, own_roles, role_if, after_roles, item_roles, item_sites, items_roles, block_roles, blocks_roles}
use Rattle.template_law.proofs.PlanBlocks.{block_count}
use Rattle.template_law.proofs.PlanRows.{entry}

-- ---- roles in blocks

-- the role of a variable of a block: of a call, or an own choice
abbrev pub InBlock : Role → Type 0
InBlock (Const k) = ⊥
InBlock (Global k) = ⊥
InBlock (In k) = ⊥
InBlock (Failed i) = Unit {0}
InBlock (Out i k) = Unit {0}
InBlock (After i k) = Unit {0}
InBlock Own = Unit {0}

abbrev AllIn : List Role → Type 0
AllIn [] = Unit {0}
AllIn (r ∷ rs) = InBlock r × AllIn rs

in_both : (xs ys : List Role) → AllIn xs → AllIn ys → AllIn (xs ++ ys)
in_both [] ys h k = k
in_both (x ∷ xs) ys h k = (h.0, in_both xs ys h.1 k)

outs_in : {A : Type 0} (site k : ℕ) (xs : List A) → AllIn (numbered (Out site) k xs)
outs_in site k [] = tt
outs_in site k (x ∷ xs) = (tt, outs_in site (k + 1) xs)

afters_in : (site : ℕ) (marks : List Bool) (g : ℕ) (vs : List ℕ) → AllIn (after_roles site marks g vs)
afters_in site marks g [] = tt
afters_in site marks g (v ∷ vs) = in_both (role_if (slice_index_or marks g false) (After site g)) (after_roles site marks (g + 1) vs) (by (slice_index_or marks g false)) (afters_in site marks (g + 1) vs)
  where
    by : (b : Bool) → AllIn (role_if b (After site g))
    by true = (tt, tt)
    by false = tt

item_in : (site : ℕ) (i : Item) → AllIn (item_roles site i)
item_in site (Let v e) = tt
item_in site (Zero v s) = tt
item_in site (Free v s) = (tt, tt)
item_in site (Need e) = tt
item_in site (Check p e) = tt
item_in site (Site p f args before outs changes after) = (tt, in_both (out_roles site outs) (after_roles site changes 0 before) (outs_in site 0 outs) (afters_in site changes 0 before))

items_in : (site : ℕ) (items : List Item) → AllIn (items_roles site items)
items_in site [] = tt
items_in site (i ∷ items) = in_both (item_roles site i) (items_roles (site + item_sites i) items) (item_in site i) (items_in (site + item_sites i) items)

own_in : (n : ℕ) → AllIn (own_roles n)
own_in zero = tt
own_in (suc n) = (tt, own_in n)

blocks_in : (starts : List ℕ) (bs : List PassiveBlock) → AllIn (blocks_roles starts bs)
blocks_in starts [] = tt
blocks_in starts (b ∷ bs) = in_both (block_roles starts b) (blocks_roles starts bs) (in_both (items_roles _ b.items) (own_roles _) (items_in _ b.items) (own_in _)) (blocks_in starts bs)

in_at : (rs : List Role) (j : ℕ) (r : Role) → AllIn rs → slice_get rs j ≡ Some r → InBlock r
in_at [] j r h is = cc
in_at (x ∷ rs) zero r h is = let e : x ≡ r = cc in subst InBlock e h.0
in_at (x ∷ rs) (suc j) r h is = in_at rs j r h.1 is

pub role_in_block : (starts : List ℕ) (bs : List PassiveBlock) (j : ℕ) (r : Role) → slice_get (blocks_roles starts bs) j ≡ Some r → InBlock r
role_in_block starts bs j r is = in_at (blocks_roles starts bs) j r (blocks_in starts bs) is

pub blocks_count : (flat : Limited) (q : FlatProc) (starts order : List ℕ) → length (blocks_roles starts (passive_blocks flat q order)) ≡ length (sorts_of_blocks flat q order)
blocks_count flat q starts [] = refl
blocks_count flat q starts (n ∷ ns) =
    length-append (block_roles starts (passive_block flat q n (block_at q n))) (blocks_roles starts (passive_blocks flat q ns)) ∙ ap (λ m. m + length (blocks_roles starts (passive_blocks flat q ns))) (block_count flat q starts n)
    ∙ ap (λ m. length (sorts_of_block flat q n) + m) (blocks_count flat q starts ns) ∙ sym (length-append (sorts_of_block flat q n) (sorts_of_blocks flat q ns))

-- ---- roles at the start

frees_own : (site k : ℕ) (ss : List Sort) → items_roles site (free_items k ss) ≡ own_roles (length ss)
frees_own site k [] = refl
frees_own site k (s ∷ ss) = ap (λ r. Own ∷ r) (frees_own (site + 0) (k + 1) ss)

zeros_none : (site k : ℕ) (ss : List Sort) → items_roles site (zero_items k ss) ≡ []
zeros_none site k [] = refl
zeros_none site k (s ∷ ss) = zeros_none (site + 0) (k + 1) ss

pub start_own : (flat : Limited) (q : FlatProc) (kind : FlatKind) → items_roles 0 (passive_start flat q kind).items ≡ own_roles (length (start_sorts q kind))
start_own flat q (Source p) = frees_own 0 (length flat.globals + length q.ins) (q.outs ++ q.locals)
start_own flat q (Loop p head) = zeros_none 0 (length flat.globals + length q.ins) (exit_sort ∷ q.locals)

pub rep_count : {A : Type 0} (n : ℕ) (x : A) → length (replicate n x) ≡ n
rep_count zero x = refl
rep_count (suc n) x = ap suc (rep_count n x)

pub rep_get : {A : Type 0} (n : ℕ) (x : A) (j : ℕ) → j < n → slice_get (replicate n x) j ≡ Some x
rep_get zero x j l = absurd (omega (arith, l))
rep_get (suc n) x zero l = refl
rep_get (suc n) x (suc j) l = rep_get n x j (omega (arith, l))

pub get_left : {A : Type 0} (xs ys : List A) (j : ℕ) → j < length xs → slice_get (xs ++ ys) j ≡ slice_get xs j
get_left [] ys j l = absurd (omega (arith, l))
get_left (x ∷ xs) ys zero l = refl
get_left (x ∷ xs) ys (suc j) l = get_left xs ys j (omega (arith, l))

pub get_right : {A : Type 0} (xs ys : List A) (j : ℕ) → slice_get (xs ++ ys) (length xs + j) ≡ slice_get ys j
get_right [] ys j = let e : 0 + j ≡ j = omega arith in ap (slice_get ys) e
get_right (x ∷ xs) ys j = let e : suc (length xs) + j ≡ suc (length xs + j) = omega arith in ap (slice_get (x ∷ (xs ++ ys))) e ∙ get_right xs ys j

pub get_there : {A : Type 0} (xs : List A) (j : ℕ) → j < length xs → (x : A) × (slice_get xs j ≡ Some x)
get_there [] j l = absurd (omega (arith, l))
get_there (x ∷ xs) zero l = (x, refl)
get_there (x ∷ xs) (suc j) l = get_there xs j (omega (arith, l))

pub numbered_get : {A : Type 0} (role : ℕ → Role) (k : ℕ) (xs : List A) (j : ℕ) → j < length xs → slice_get (numbered role k xs) j ≡ Some (role (k + j))
numbered_get role k [] j l = absurd (omega (arith, l))
numbered_get role k (x ∷ xs) zero l = let e : k ≡ k + 0 = omega arith in ap (λ i. Some (role i)) e
numbered_get role k (x ∷ xs) (suc j) l = let e : k + 1 + j ≡ k + suc j = omega arith in numbered_get role (k + 1) xs j (omega (arith, l)) ∙ ap (λ i. Some (role i)) e

pub numbered_count : {A : Type 0} (role : ℕ → Role) (k : ℕ) (xs : List A) → length (numbered role k xs) ≡ length xs
numbered_count role k [] = refl
numbered_count role k (x ∷ xs) = ap suc (numbered_count role (k + 1) xs)

-- ---- each variable is a node

pub node_of : (nodes : List TermNode) (i n : ℕ) → slice_get (variables_in nodes) i ≡ Some n → (y : ℕ) × (sort : Sort) × (slice_get nodes y ≡ Some (Variable n sort))
node_of [] i n h = cc
node_of (Variable m s ∷ nodes) zero n h = let e : m ≡ n = cc in (0, s, ap (λ x. Some (Variable x s)) e)
node_of (Variable m s ∷ nodes) (suc i) n h = let r = node_of nodes i n h in (suc r.0, r.1, r.2)
node_of (Lit a ∷ nodes) i n h = let r = node_of nodes i n h in (suc r.0, r.1, r.2)
node_of (ZeroMap x e ∷ nodes) i n h = let r = node_of nodes i n h in (suc r.0, r.1, r.2)
node_of (Unary op c ∷ nodes) i n h = let r = node_of nodes i n h in (suc r.0, r.1, r.2)
node_of (Binary op l r ∷ nodes) i n h = let z = node_of nodes i n h in (suc z.0, z.1, z.2)
node_of (If t o p ∷ nodes) i n h = let r = node_of nodes i n h in (suc r.0, r.1, r.2)
node_of (Select m x ∷ nodes) i n h = let r = node_of nodes i n h in (suc r.0, r.1, r.2)
node_of (Store m x v ∷ nodes) i n h = let r = node_of nodes i n h in (suc r.0, r.1, r.2)

numbers_get : (count k j : ℕ) → j < count → slice_get (numbers_from k count) j ≡ Some (k + j)
numbers_get zero k j l = absurd (omega (arith, l))
numbers_get (suc count) k zero l = let e : k ≡ k + 0 = omega arith in ap (λ i. Some i) e
numbers_get (suc count) k (suc j) l = let e : k + 1 + j ≡ k + suc j = omega arith in numbers_get count (k + 1) j (omega (arith, l)) ∙ ap (λ i. Some i) e

pub node_from : (old nodes : List TermNode) (k count j : ℕ) → variables_in nodes ≡ variables_in old ++ numbers_from k count → j < count → (y : ℕ) × (sort : Sort) × (slice_get nodes y ≡ Some (Variable (k + j) sort))
node_from old nodes k count j e l =
    node_of nodes (length (variables_in old) + j) (k + j) (ap (λ x. slice_get x (length (variables_in old) + j)) e ∙ get_right (variables_in old) (numbers_from k count) j ∙ numbers_get count k j l)

-- ---- values in a row

pub reads_same : (a b : ℕ → Value) (k count : ℕ) → ((n : ℕ) → k ≤ n → n < k + count → a n ≡ b n) → reads a k count ≡ reads b k count
reads_same a b k zero h = refl
reads_same a b k (suc count) h =
    ap (λ v. v ∷ reads a (k + 1) count) (h k (omega arith) (omega arith)) ∙ ap (λ vs. b k ∷ vs) (reads_same a b (k + 1) count (λ n l u. h n (omega (arith, l)) (omega (arith, u))))

pub at_left : (xs ys : List Value) (j : ℕ) → j < length xs → at (xs ++ ys) j ≡ at xs j
at_left [] ys j l = absurd (omega (arith, l))
at_left (x ∷ xs) ys zero l = refl
at_left (x ∷ xs) ys (suc j) l = at_left xs ys j (omega (arith, l))

pub at_right : (xs ys : List Value) (j : ℕ) → at (xs ++ ys) (length xs + j) ≡ at ys j
at_right [] ys j = let e : 0 + j ≡ j = omega arith in ap (at ys) e
at_right (x ∷ xs) ys j = let e : suc (length xs) + j ≡ suc (length xs + j) = omega arith in ap (at (x ∷ (xs ++ ys))) e ∙ at_right xs ys j

-- the values of a part of a list, read where it stands
pub reads_part : (pre xs post : List Value) → reads (at (pre ++ (xs ++ post))) (length pre) (length xs) ≡ xs
reads_part pre [] post = refl
reads_part pre (x ∷ xs) post =
    let e : length pre ≡ length pre + 0 = omega arith in
    let f : length (pre ++ x ∷ []) ≡ length pre + 1 = length-append pre (x ∷ []) in
    let g : pre ++ (x ∷ (xs ++ post)) ≡ (pre ++ x ∷ []) ++ (xs ++ post) = sym (append_assoc pre (x ∷ []) (xs ++ post)) in
    ap (λ v. v ∷ reads (at (pre ++ (x ∷ (xs ++ post)))) (length pre + 1) (length xs)) (ap (at (pre ++ (x ∷ (xs ++ post)))) e ∙ at_right pre (x ∷ (xs ++ post)) 0)
    ∙ ap (λ vs. x ∷ vs) (ap (λ k. reads (at (pre ++ (x ∷ (xs ++ post)))) k (length xs)) (sym f) ∙ ap (λ ys. reads (at ys) (length (pre ++ x ∷ [])) (length xs)) g ∙ reads_part (pre ++ x ∷ []) xs post)

-- values of their sorts fit the variables of a row
pub row_fits : (a : ℕ → Value) (k : ℕ) (ss : List Sort) → have_sorts (reads a k (length ss)) ss ≡ true → fits a (row_of k ss) ≡ true
row_fits a k [] h = refl
row_fits a k (s ∷ ss) h =
    let two = and_parts (has_sort (a k) s) (have_sorts (reads a (k + 1) (length ss)) ss) h in
    and_from (has_sort (a k) s) (fits a (row_of (k + 1) ss)) two.0 (row_fits a (k + 1) ss two.1)

pub have_both : (xs ys : List Value) (ss rs : List Sort) → have_sorts xs ss ≡ true → have_sorts ys rs ≡ true → have_sorts (xs ++ ys) (ss ++ rs) ≡ true
have_both [] ys [] rs h k = k
have_both [] ys (s ∷ ss) rs h k = cc
have_both (x ∷ xs) ys [] rs h k = cc
have_both (x ∷ xs) ys (s ∷ ss) rs h k = let two = and_parts (has_sort x s) (have_sorts xs ss) h in and_from (has_sort x s) (have_sorts (xs ++ ys) (ss ++ rs)) two.0 (have_both xs ys ss rs two.1 k)

pub have_count : (xs : List Value) (ss : List Sort) → have_sorts xs ss ≡ true → length xs ≡ length ss
have_count [] [] h = refl
have_count [] (s ∷ ss) h = cc
have_count (x ∷ xs) [] h = cc
have_count (x ∷ xs) (s ∷ ss) h = ap suc (have_count xs ss (and_parts (has_sort x s) (have_sorts xs ss) h).1)

-- ---- zeros where nothing is settled

abbrev pub value_or : Sort → Option Value → Value
value_or s None = zero_of s
value_or s (Some v) = v

abbrev pub filled : List Sort → List (Option Value) → List Value
filled [] vs = []
filled (s ∷ ss) [] = []
filled (s ∷ ss) (v ∷ vs) = value_or s v ∷ filled ss vs

pub filled_sorted : ((s : Sort) → IsTrue (is_sort s) → IsTrue (has_sort (zero_of s) s)) → (ss : List Sort) (vs : List (Option Value)) → AreSorts ss → RowFits ss vs → sorted_as ss (filled ss vs) ≡ true
filled_sorted zeros [] [] h k = refl
filled_sorted zeros [] (v ∷ vs) h k = absurd k
filled_sorted zeros (s ∷ ss) [] h k = absurd k
filled_sorted zeros (s ∷ ss) (None ∷ vs) h k = and_from (has_sort (zero_of s) s) (sorted_as ss (filled ss vs)) (zeros s h.0) (filled_sorted zeros ss vs h.1 k)
filled_sorted zeros (s ∷ ss) (Some v ∷ vs) h k = and_from (has_sort v s) (sorted_as ss (filled ss vs)) k.0 (filled_sorted zeros ss vs h.1 k.1)

pub filled_at : (ss : List Sort) (vs : List (Option Value)) (j : ℕ) (v : Value) → RowFits ss vs → entry vs j ≡ Some v → at (filled ss vs) j ≡ v
filled_at [] [] j v h k = cc
filled_at [] (x ∷ vs) j v h k = absurd h
filled_at (s ∷ ss) [] j v h k = absurd h
filled_at (s ∷ ss) (None ∷ vs) zero v h k = cc
filled_at (s ∷ ss) (None ∷ vs) (suc j) v h k = filled_at ss vs j v h k
filled_at (s ∷ ss) (Some x ∷ vs) zero v h k = cc
filled_at (s ∷ ss) (Some x ∷ vs) (suc j) v h k = filled_at ss vs j v h.1 k

pub sorted_both : (ss rs : List Sort) (xs ys : List Value) → sorted_as ss xs ≡ true → sorted_as rs ys ≡ true → sorted_as (ss ++ rs) (xs ++ ys) ≡ true
sorted_both [] rs [] ys h k = k
sorted_both [] rs (x ∷ xs) ys h k = cc
sorted_both (s ∷ ss) rs [] ys h k = cc
sorted_both (s ∷ ss) rs (x ∷ xs) ys h k = let two = and_parts (has_sort x s) (sorted_as ss xs) h in and_from (has_sort x s) (sorted_as (ss ++ rs) (xs ++ ys)) two.0 (sorted_both ss rs xs ys two.1 k)

pub sorted_count : (ss : List Sort) (xs : List Value) → sorted_as ss xs ≡ true → length xs ≡ length ss
sorted_count [] [] h = refl
sorted_count [] (x ∷ xs) h = cc
sorted_count (s ∷ ss) [] h = cc
sorted_count (s ∷ ss) (x ∷ xs) h = ap suc (sorted_count ss xs (and_parts (has_sort x s) (sorted_as ss xs) h).1)

-- the assignment is the old one below k, and from there on these values
pub extended_old : (a : ℕ → Value) (k : ℕ) (vs : List Value) (n : ℕ) → n < k → extended a k vs n ≡ a n
extended_old a k vs n l = let e : nat_lt n k ≡ true = grind (arith, nat_tests) in ap (λ b. if b then a n else at vs (n - k)) e

pub extended_new : (a : ℕ → Value) (k : ℕ) (vs : List Value) (j : ℕ) → extended a k vs (k + j) ≡ at vs j
extended_new a k vs j =
    let e : nat_lt (k + j) k ≡ false = grind (arith, nat_tests) in
    let f : k + j - k ≡ j = omega arith in
    ap (λ b. if b then a (k + j) else at vs (k + j - k)) e ∙ ap (at vs) f
