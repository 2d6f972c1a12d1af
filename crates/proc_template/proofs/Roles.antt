-- The roles of the variables of items and blocks, in their order.
use Rattle.std.proofs.Common.{arith, ◌≡◌, ℕ, zero, suc, ◌+◌, ◌<◌, true, false, List, [], ◌∷◌, ◌++◌, length, length-append, take, replicate, sym, ap, ◌∙◌, refl, subst, inl, inr}
use Rattle.std.specs.Prelude.{Some, slice_get, slice_index, slice_index_or, slice_set}
use Rattle.hy_val.specs.declared.expr.Var.{Var}
use Rattle.hy_val.specs.declared.expr.Var.TheVariants.{Const as ConstVar, Global as GlobalVar, Local as LocalVar}
use Rattle.hy_val.specs.declared.expr.ExprNode.{ExprNode}
use Rattle.flat_prog.specs.declared.block.FlatCmd.{FlatCmd}
use Rattle.flat_prog.specs.declared.block.FlatCmd.TheVariants.{Assign, Havoc, Assume, Assert, Call}
use Rattle.flat_prog.specs.declared.proc.FlatProc.{FlatProc}
use Rattle.passive_form.specs.Limited.{Limited}
use Rattle.passive_form.specs.Local.{changed_sorts, replaced, targets_of}
use Rattle.passive_form.specs.Making.{block_or, callee_changes, callee_outs, cur_after, entry_count, entry_cur, frees, items_all, items_of, lets, next_after, passive_block, passive_blocks, set_version, set_versions}
use Rattle.passive_form.specs.Versions.{Cur, from}
use Rattle.passive_form.specs.declared.Item.{Item}
use Rattle.passive_form.specs.declared.Item.TheVariants.{Let, Zero, Free, Need, Check, Site}
use Rattle.passive_form.specs.declared.PassiveBlock.{PassiveBlock}
use Rattle.vc_gen.specs.Inputs.{block_at, choices_at, items_at, sorts_of_block, sorts_of_blocks}
use Rattle.vc_gen.specs.Items.{bool_sort, chosen}
use Rattle.vc_gen.specs.Laid.{Laid, calls_laid}
use Rattle.tree_terms.specs.declared.linked.Role.{Role}
use Rattle.tree_terms.specs.declared.linked.Role.TheVariants.{Const, Global, In, Failed, Out, After, Own}
use Rattle.proc_template.specs.Layout.{after_roles, block_roles, blocks_roles, items_roles, numbered, out_roles, own_roles, site_roles}
use Rattle.proc_template.proofs.Getting.{get_left, get_right, get_split}
use Rattle.proc_template.proofs.Marked.{marked, after_is, after_count, after_get, get_after, replaced_count}

-- ---- what items say of calls

-- the calls among the items have the sorts of their callees, and all globals before them
abbrev pub ItemsOf : Limited → List Item → Type 0
ItemsOf flat [] = Unit {0}
ItemsOf flat (Let v e ∷ items) = ItemsOf flat items
ItemsOf flat (Zero v s ∷ items) = ItemsOf flat items
ItemsOf flat (Free v s ∷ items) = ItemsOf flat items
ItemsOf flat (Need e ∷ items) = ItemsOf flat items
ItemsOf flat (Check p e ∷ items) = ItemsOf flat items
ItemsOf flat (Site p f args before outs changes after ∷ items) = ((outs ≡ callee_outs flat p) × (changes ≡ callee_changes flat p) × (after ≡ changed_sorts flat p) × (length before ≡ length flat.globals)) × ItemsOf flat items

both : (flat : Limited) (xs ys : List Item) → ItemsOf flat xs → ItemsOf flat ys → ItemsOf flat (xs ++ ys)
both flat [] ys h k = k
both flat (Let v e ∷ xs) ys h k = both flat xs ys h k
both flat (Zero v s ∷ xs) ys h k = both flat xs ys h k
both flat (Free v s ∷ xs) ys h k = both flat xs ys h k
both flat (Need e ∷ xs) ys h k = both flat xs ys h k
both flat (Check p e ∷ xs) ys h k = both flat xs ys h k
both flat (Site p f args before outs changes after ∷ xs) ys h k = (h.0, both flat xs ys h.1 k)

lets_of : (flat : Limited) (cur : Cur) (k : ℕ) (pairs : List (Var × List ExprNode)) → ItemsOf flat (lets cur k pairs)
lets_of flat cur k [] = tt
lets_of flat cur k (pair ∷ pairs) = lets_of flat cur (k + 1) pairs

frees_of : (flat : Limited) (q : FlatProc) (k : ℕ) (xs : List Var) → ItemsOf flat (frees flat q k xs)
frees_of flat q k [] = tt
frees_of flat q k (x ∷ xs) = frees_of flat q (k + 1) xs

cmd_of : (flat : Limited) (q : FlatProc) (cur : Cur) (at k : ℕ) (c : FlatCmd) → length cur.globals ≡ length flat.globals → ItemsOf flat (items_of flat q cur at k c)
cmd_of flat q cur at k (Assign pairs) e = lets_of flat cur k pairs
cmd_of flat q cur at k (Havoc xs) e = frees_of flat q k xs
cmd_of flat q cur at k (Assume x) e = tt
cmd_of flat q cur at k (Assert p n x) e = tt
cmd_of flat q cur at k (Call p args outs) e = ((refl, refl, refl, e), tt)

set_count : (xs : List ℕ) (n v : ℕ) → length (slice_set xs n v) ≡ length xs
set_count [] n v = refl
set_count (x ∷ xs) zero v = refl
set_count (x ∷ xs) (suc n) v = ap suc (set_count xs n v)

one_kept : (cur : Cur) (x : Var) (k : ℕ) → length (set_version cur x k).globals ≡ length cur.globals
one_kept cur (ConstVar n) k = refl
one_kept cur (GlobalVar n) k = set_count cur.globals n k
one_kept cur (LocalVar n) k = refl

all_kept : {A : Type 0} (cur : Cur) (xs : List Var) (ys : List A) (k : ℕ) → length (set_versions cur xs ys k).globals ≡ length cur.globals
all_kept cur [] ys k = refl
all_kept cur (x ∷ xs) [] k = refl
all_kept cur (x ∷ xs) (y ∷ ys) k = all_kept (set_version cur x k) xs ys (k + 1) ∙ one_kept cur x k

after_kept : (flat : Limited) (cur : Cur) (k : ℕ) (c : FlatCmd) → length (cur_after flat cur k c).globals ≡ length cur.globals
after_kept flat cur k (Assign pairs) = all_kept cur (targets_of pairs) pairs k
after_kept flat cur k (Havoc xs) = all_kept cur xs xs k
after_kept flat cur k (Assume e) = refl
after_kept flat cur k (Assert p n e) = refl
after_kept flat cur k (Call p args outs) =
    let gs = replaced (callee_changes flat p) cur.globals (from (k + 1 + length (callee_outs flat p)) (changed_sorts flat p)) in
    all_kept (record { globals = gs; locals = cur.locals }) outs (callee_outs flat p) (k + 1) ∙ replaced_count (callee_changes flat p) cur.globals (from (k + 1 + length (callee_outs flat p)) (changed_sorts flat p))

cmds_of : (flat : Limited) (q : FlatProc) (cur : Cur) (at k : ℕ) (cmds : List FlatCmd) → length cur.globals ≡ length flat.globals → ItemsOf flat (items_all flat q cur at k cmds)
cmds_of flat q cur at k [] e = tt
cmds_of flat q cur at k (c ∷ cs) e =
    both flat (items_of flat q cur at k c) (items_all flat q (cur_after flat cur k c) (at + 1) (next_after flat k c) cs) (cmd_of flat q cur at k c e)
    (cmds_of flat q (cur_after flat cur k c) (at + 1) (next_after flat k c) cs (after_kept flat cur k c ∙ e))

from_count : {A : Type 0} (k : ℕ) (xs : List A) → length (from k xs) ≡ length xs
from_count k [] = refl
from_count k (x ∷ xs) = ap suc (from_count (k + 1) xs)

pub block_of : (flat : Limited) (q : FlatProc) (n : ℕ) → ItemsOf flat (items_at flat q n)
block_of flat q n = cmds_of flat q (entry_cur flat q) 0 (entry_count flat q) (block_at q n).cmds (from_count 0 flat.globals)

-- ---- what comes back at a site

numbered_count : {A : Type 0} (role : ℕ → Role) (k : ℕ) (xs : List A) → length (numbered role k xs) ≡ length xs
numbered_count role k [] = refl
numbered_count role k (x ∷ xs) = ap suc (numbered_count role (k + 1) xs)

pub numbered_get : {A : Type 0} (role : ℕ → Role) (k : ℕ) (xs : List A) (y : ℕ) (r : Role) → slice_get (numbered role k xs) y ≡ Some r → (y < length xs) × (r ≡ role (k + y))
numbered_get role k [] y r e = absurd cc
numbered_get role k (x ∷ xs) zero r e =
    let same : r ≡ role k = cc in
    let z : k ≡ k + 0 = omega arith in
    (omega arith, same ∙ ap role z)
numbered_get role k (x ∷ xs) (suc y) r e =
    let h = numbered_get role (k + 1) xs y r e in
    let z : k + 1 + y ≡ k + suc y = omega arith in
    (omega (arith, h.0), h.1 ∙ ap role z)

pub get_numbered : {A : Type 0} (role : ℕ → Role) (k : ℕ) (xs : List A) (y : ℕ) → y < length xs → slice_get (numbered role k xs) y ≡ Some (role (k + y))
get_numbered role k [] y l = absurd (omega (arith, l))
get_numbered role k (x ∷ xs) zero l = let z : k ≡ k + 0 = omega arith in ap (λ i. Some (role i)) z
get_numbered role k (x ∷ xs) (suc y) l = let z : k + 1 + y ≡ k + suc y = omega arith in get_numbered role (k + 1) xs y (omega (arith, l)) ∙ ap (λ i. Some (role i)) z

-- ---- which variable is whose

-- the variable m has this role: it is one of a call, where the first call has this site number
abbrev pub RoleAt : Limited → List Laid → (site m : ℕ) → Role → Type 0
RoleAt flat ls site m (Const k) = ⊥
RoleAt flat ls site m (Global k) = ⊥
RoleAt flat ls site m (In k) = ⊥
RoleAt flat ls site m (Failed i) = (d : ℕ) × (l : Laid) × (i ≡ site + d) × (slice_get ls d ≡ Some l) × (m ≡ l.first)
RoleAt flat ls site m (Out i x) = (d : ℕ) × (l : Laid) × (i ≡ site + d) × (slice_get ls d ≡ Some l) × (x < length (callee_outs flat l.proc)) × (m ≡ l.first + (1 + x))
RoleAt flat ls site m (After i g) =
    (d : ℕ) × (l : Laid) × (i ≡ site + d) × (slice_get ls d ≡ Some l) × (g < length flat.globals) × (slice_index_or (callee_changes flat l.proc) g false ≡ true)
    × (m ≡ l.first + (1 + (length (callee_outs flat l.proc) + marked (callee_changes flat l.proc) g)))
RoleAt flat ls site m Own = Unit {0}

-- one call more stands in front
lift : (flat : Limited) (ls : List Laid) (first : Laid) (site m : ℕ) (r : Role) → RoleAt flat ls (site + 1) m r → RoleAt flat (first ∷ ls) site m r
lift flat ls first site m (Const k) h = absurd h
lift flat ls first site m (Global k) h = absurd h
lift flat ls first site m (In k) h = absurd h
lift flat ls first site m (Failed i) h = (suc h.0, h.1, omega (arith, h.2), h.3, h.4)
lift flat ls first site m (Out i x) h = (suc h.0, h.1, omega (arith, h.2), h.3, h.4, h.5)
lift flat ls first site m (After i g) h = (suc h.0, h.1, omega (arith, h.2), h.3, h.4, h.5, h.6)
lift flat ls first site m Own h = tt

moved : (flat : Limited) (ls : List Laid) (site site2 m m2 : ℕ) (r : Role) → site ≡ site2 → m ≡ m2 → RoleAt flat ls site m r → RoleAt flat ls site2 m2 r
moved flat ls site site2 m m2 r e f h = subst (λ (i : ℕ). RoleAt flat ls i m2 r) e (subst (λ (i : ℕ). RoleAt flat ls site i r) f h)

same_role : (flat : Limited) (ls : List Laid) (site m : ℕ) (r s : Role) → r ≡ s → RoleAt flat ls site m s → RoleAt flat ls site m r
same_role flat ls site m r s e h = subst (λ (x : Role). RoleAt flat ls site m x) (sym e) h

abbrev laid_at : (n c p k : ℕ) → Laid
laid_at n c p k = record { block = n; call = c; proc = p; first = k }

-- what comes back at the first call
site_role : (flat : Limited) (ls : List Laid) (n c p k site y : ℕ) (before : List ℕ) (r : Role) → length before ≡ length flat.globals → slice_get (site_roles site (callee_outs flat p) (callee_changes flat p) before) y ≡ Some r →
    RoleAt flat (laid_at n c p k ∷ ls) site (k + y) r
site_role flat ls n c p k site zero before r count e =
    let same : r ≡ Failed site = cc in
    let here : RoleAt flat (laid_at n c p k ∷ ls) site (k + 0) (Failed site) = (0, laid_at n c p k, omega arith, refl, omega arith) in
    same_role flat (laid_at n c p k ∷ ls) site (k + 0) r (Failed site) same here
site_role flat ls n c p k site (suc y) before r count e =
    let outs = callee_outs flat p in
    let marks = callee_changes flat p in
    let ns = numbered_count (Out site) 0 outs in
    elim (get_split (out_roles site outs) (after_roles site marks 0 before) y r e) [
      | inl here ↦
          let g = numbered_get (Out site) 0 outs y r here in
          let z : 0 + y ≡ y = omega arith in
          let there : RoleAt flat (laid_at n c p k ∷ ls) site (k + suc y) (Out site y) = (0, laid_at n c p k, omega arith, refl, g.0, omega arith) in
          same_role flat (laid_at n c p k ∷ ls) site (k + suc y) r (Out site y) (g.1 ∙ ap (Out site) z) there
      | inr behind ↦
          let g = after_get site 0 marks before behind.0 r (ap (λ rs. slice_get rs behind.0) (sym (after_is site marks before)) ∙ behind.2) in
          let z : 0 + g.0 ≡ g.0 = omega arith in
          let there : RoleAt flat (laid_at n c p k ∷ ls) site (k + suc y) (After site g.0) =
          (0, laid_at n c p k, omega arith, refl, subst (λ i. g.0 < i) count g.2, g.3, omega (arith, behind.1, g.4, ns)) in
          same_role flat (laid_at n c p k ∷ ls) site (k + suc y) r (After site g.0) (g.1 ∙ ap (After site) z) there
    ]

site_count : (flat : Limited) (p site : ℕ) (before : List ℕ) → length before ≡ length flat.globals →
    length (site_roles site (callee_outs flat p) (callee_changes flat p) before) ≡ length (bool_sort ∷ (callee_outs flat p ++ changed_sorts flat p))
site_count flat p site before count =
    let outs = callee_outs flat p in
    let marks = callee_changes flat p in
    let a = length-append (out_roles site outs) (after_roles site marks 0 before) in
    let b = numbered_count (Out site) 0 outs in
    let c = ap length (after_is site marks before) ∙ after_count site 0 marks before flat.globals count in
    let d = length-append outs (changed_sorts flat p) in
    omega (arith, a, b, c, d)

-- the roles of items, whose calls are laid out like this
pub items_role : (flat : Limited) (n c k site : ℕ) (items : List Item) → ItemsOf flat items → (y : ℕ) (r : Role) → slice_get (items_roles site items) y ≡ Some r → RoleAt flat (calls_laid n c k items) site (k + y) r
items_role flat n c k site [] h y r e = absurd cc
items_role flat n c k site (Let v x ∷ items) h y r e =
    moved flat (calls_laid n c (k + 0) items) (site + 0) site (k + 0 + y) (k + y) r (omega arith) (omega arith) (items_role flat n c (k + 0) (site + 0) items h y r e)
items_role flat n c k site (Zero v s ∷ items) h y r e =
    moved flat (calls_laid n c (k + 0) items) (site + 0) site (k + 0 + y) (k + y) r (omega arith) (omega arith) (items_role flat n c (k + 0) (site + 0) items h y r e)
items_role flat n c k site (Need x ∷ items) h y r e =
    moved flat (calls_laid n c (k + 0) items) (site + 0) site (k + 0 + y) (k + y) r (omega arith) (omega arith) (items_role flat n c (k + 0) (site + 0) items h y r e)
items_role flat n c k site (Check p x ∷ items) h y r e =
    moved flat (calls_laid n c (k + 0) items) (site + 0) site (k + 0 + y) (k + y) r (omega arith) (omega arith) (items_role flat n c (k + 0) (site + 0) items h y r e)
items_role flat n c k site (Free v s ∷ items) h zero r e =
    let same : r ≡ Own = cc in
    same_role flat (calls_laid n c (k + 1) items) site (k + 0) r Own same tt
items_role flat n c k site (Free v s ∷ items) h (suc y) r e =
    moved flat (calls_laid n c (k + 1) items) (site + 0) site (k + 1 + y) (k + suc y) r (omega arith) (omega arith) (items_role flat n c (k + 1) (site + 0) items h y r e)
items_role flat n c k site (Site p f args before outs changes after ∷ items) h y r e =
    let size = length (bool_sort ∷ (outs ++ after)) in
    let rest = calls_laid n (c + 1) (k + size) items in
    let mine : site_roles site outs changes before ≡ site_roles site (callee_outs flat p) (callee_changes flat p) before =
    ap (λ os. site_roles site os changes before) h.0.0 ∙ ap (λ ms. site_roles site (callee_outs flat p) ms before) h.0.1 in
    let count : length (site_roles site outs changes before) ≡ size =
    ap length mine ∙ site_count flat p site before h.0.3 ∙ ap (λ os. length (bool_sort ∷ (os ++ changed_sorts flat p))) (sym h.0.0) ∙ ap (λ gs. length (bool_sort ∷ (outs ++ gs))) (sym h.0.2) in
    elim (get_split (site_roles site outs changes before) (items_roles (site + 1) items) y r e) [
      | inl here ↦ site_role flat rest n c p k site y before r h.0.3 (ap (λ rs. slice_get rs y) (sym mine) ∙ here)
      | inr behind ↦
          lift flat rest (laid_at n c p k) site (k + y) r
          (moved flat rest (site + 1) (site + 1) (k + size + behind.0) (k + y) r refl (omega (arith, behind.1, count)) (items_role flat n (c + 1) (k + size) (site + 1) items h.1 behind.0 r behind.2))
    ]

pub items_count : (flat : Limited) (site : ℕ) (items : List Item) → ItemsOf flat items → length (items_roles site items) ≡ length (chosen items)
items_count flat site [] h = refl
items_count flat site (Let v x ∷ items) h = items_count flat (site + 0) items h
items_count flat site (Zero v s ∷ items) h = items_count flat (site + 0) items h
items_count flat site (Need x ∷ items) h = items_count flat (site + 0) items h
items_count flat site (Check p x ∷ items) h = items_count flat (site + 0) items h
items_count flat site (Free v s ∷ items) h = ap suc (items_count flat (site + 0) items h)
items_count flat site (Site p f args before outs changes after ∷ items) h =
    let mine = ap (λ os. length (site_roles site os changes before)) h.0.0 ∙ ap (λ ms. length (site_roles site (callee_outs flat p) ms before)) h.0.1 ∙ site_count flat p site before h.0.3
    ∙ ap (λ os. length (bool_sort ∷ (os ++ changed_sorts flat p))) (sym h.0.0) ∙ ap (λ gs. length (bool_sort ∷ (outs ++ gs))) (sym h.0.2) in
    let a = length-append (site_roles site outs changes before) (items_roles (site + 1) items) in
    let b = length-append (bool_sort ∷ (outs ++ after)) (chosen items) in
    let rest = items_count flat (site + 1) items h.1 in
    omega (arith, mine, a, b, rest)

-- ---- blocks

pub own_get : (count y : ℕ) (r : Role) → slice_get (own_roles count) y ≡ Some r → r ≡ Own
own_get zero y r e = absurd cc
own_get (suc count) zero r e = cc
own_get (suc count) (suc y) r e = own_get count y r e

own_count : (count : ℕ) → length (own_roles count) ≡ count
own_count zero = refl
own_count (suc count) = ap suc (own_count count)

bits_count : (count : ℕ) → length (replicate count bool_sort) ≡ count
bits_count zero = refl
bits_count (suc count) = ap suc (bits_count count)

abbrev block_in : Limited → FlatProc → ℕ → PassiveBlock
block_in flat q n = passive_block flat q n (block_or (slice_get q.blocks n))

block_count : (flat : Limited) (q : FlatProc) (starts : List ℕ) (n : ℕ) → length (block_roles starts (block_in flat q n)) ≡ length (sorts_of_block flat q n)
block_count flat q starts n =
    let a = length-append (items_roles (slice_index starts n) (items_at flat q n)) (own_roles (choices_at q n)) in
    let b = length-append (chosen (items_at flat q n)) (replicate (choices_at q n) bool_sort) in
    let c = items_count flat (slice_index starts n) (items_at flat q n) (block_of flat q n) in
    let d = own_count (choices_at q n) in
    let e = bits_count (choices_at q n) in
    omega (arith, a, b, c, d, e)

pub blocks_count : (flat : Limited) (q : FlatProc) (starts order : List ℕ) → length (blocks_roles starts (passive_blocks flat q order)) ≡ length (sorts_of_blocks flat q order)
blocks_count flat q starts [] = refl
blocks_count flat q starts (n ∷ order) =
    let a = length-append (block_roles starts (block_in flat q n)) (blocks_roles starts (passive_blocks flat q order)) in
    let b = length-append (sorts_of_block flat q n) (sorts_of_blocks flat q order) in
    let c = block_count flat q starts n in
    let d = blocks_count flat q starts order in
    omega (arith, a, b, c, d)

-- the variable m is one of the block at this place of the order
pub record InBlock (flat : Limited) (q : FlatProc) (starts order : List ℕ) (k m : ℕ) (r : Role) : Type 0 where
  pub place : ℕ
  pub number : ℕ
  pub there : slice_get order place ≡ Some number
  pub role : RoleAt flat (calls_laid number 0 (k + length (sorts_of_blocks flat q (take place order))) (items_at flat q number)) (slice_index starts number) m r

block_role : (flat : Limited) (q : FlatProc) (starts : List ℕ) (k n y : ℕ) (r : Role) → slice_get (block_roles starts (block_in flat q n)) y ≡ Some r → RoleAt flat (calls_laid n 0 k (items_at flat q n)) (slice_index starts n) (k + y) r
block_role flat q starts k n y r e =
    let site = slice_index starts n in
    let items = items_at flat q n in
    elim (get_split (items_roles site items) (own_roles (choices_at q n)) y r e) [
      | inl here ↦ items_role flat n 0 k site items (block_of flat q n) y r here
      | inr behind ↦ same_role flat (calls_laid n 0 k items) site (k + y) r Own (own_get (choices_at q n) behind.0 r behind.2) tt
    ]

pub blocks_role : (flat : Limited) (q : FlatProc) (starts order : List ℕ) (k y : ℕ) (r : Role) → slice_get (blocks_roles starts (passive_blocks flat q order)) y ≡ Some r → InBlock flat q starts order k (k + y) r
blocks_role flat q starts [] k y r e = absurd cc
blocks_role flat q starts (n ∷ order) k y r e =
    elim (get_split (block_roles starts (block_in flat q n)) (blocks_roles starts (passive_blocks flat q order)) y r e) [
      | inl here ↦
          let z : k ≡ k + 0 = omega arith in
          record {
            place = 0;
            number = n;
            there = refl;
            role = subst (λ i. RoleAt flat (calls_laid n 0 i (items_at flat q n)) (slice_index starts n) (k + y) r) z (block_role flat q starts k n y r here);
          }
      | inr behind ↦
          let size = length (sorts_of_block flat q n) in
          let rest = blocks_role flat q starts order (k + size) behind.0 r behind.2 in
          let c = block_count flat q starts n in
          let m : k + size + behind.0 ≡ k + y = omega (arith, c, behind.1) in
          let a = length-append (sorts_of_block flat q n) (sorts_of_blocks flat q (take rest.place order)) in
          let f : k + size + length (sorts_of_blocks flat q (take rest.place order)) ≡ k + length (sorts_of_block flat q n ++ sorts_of_blocks flat q (take rest.place order)) = omega (arith, a) in
          record {
            place = suc rest.place;
            number = rest.number;
            there = rest.there;
            role = subst (λ i. RoleAt flat (calls_laid rest.number 0 i (items_at flat q rest.number)) (slice_index starts rest.number) (k + y) r) f
                (subst (λ i. RoleAt flat (calls_laid rest.number 0 (k + size + length (sorts_of_blocks flat q (take rest.place order))) (items_at flat q rest.number)) (slice_index starts rest.number) i r) m rest.role);
          }
    ]

-- ---- the way back

-- the variables of a call have its roles, where the roles are those of the variables from k on
pub record RolesOf (flat : Limited) (roles : List Role) (k i : ℕ) (l : Laid) : Type 0 where
  pub offset : ℕ
  pub first_is : l.first ≡ k + offset
  pub failed : slice_get roles offset ≡ Some (Failed i)
  pub outs : (x : ℕ) → x < length (callee_outs flat l.proc) → slice_get roles (offset + (1 + x)) ≡ Some (Out i x)
  pub after : (g : ℕ) → g < length flat.globals → slice_index_or (callee_changes flat l.proc) g false ≡ true →
      slice_get roles (offset + (1 + (length (callee_outs flat l.proc) + marked (callee_changes flat l.proc) g))) ≡ Some (After i g)

pub with_more : (flat : Limited) (roles more : List Role) (k i : ℕ) (l : Laid) → RolesOf flat roles k i l → RolesOf flat (roles ++ more) k i l
with_more flat roles more k i l h = record {
  offset = h.offset;
  first_is = h.first_is;
  failed = get_left roles more h.offset (Failed i) h.failed;
  outs = λ x b. get_left roles more (h.offset + (1 + x)) (Out i x) (h.outs x b);
  after = λ g b m. get_left roles more (h.offset + (1 + (length (callee_outs flat l.proc) + marked (callee_changes flat l.proc) g))) (After i g) (h.after g b m);
}

pub with_front : (flat : Limited) (front roles : List Role) (k k2 i : ℕ) (l : Laid) → k2 ≡ k + length front → RolesOf flat roles k2 i l → RolesOf flat (front ++ roles) k i l
with_front flat front roles k k2 i l e h =
    let at : (j : ℕ) → length front + (h.offset + j) ≡ length front + h.offset + j = λ j. omega arith in
    record {
      offset = length front + h.offset;
      first_is = omega (arith, h.first_is, e);
      failed = get_right front roles h.offset ∙ h.failed;
      outs = λ x b. ap (slice_get (front ++ roles)) (sym (at (1 + x))) ∙ get_right front roles (h.offset + (1 + x)) ∙ h.outs x b;
      after = λ g b m.
          let y = 1 + (length (callee_outs flat l.proc) + marked (callee_changes flat l.proc) g) in
          ap (slice_get (front ++ roles)) (sym (at y)) ∙ get_right front roles (h.offset + y) ∙ h.after g b m;
    }

site_back : (flat : Limited) (n c p k i : ℕ) (before : List ℕ) → length before ≡ length flat.globals → RolesOf flat (site_roles i (callee_outs flat p) (callee_changes flat p) before) k i (laid_at n c p k)
site_back flat n c p k i before count =
    let outs = callee_outs flat p in
    let marks = callee_changes flat p in
    let ns = numbered_count (Out i) 0 outs in
    record {
      offset = 0;
      first_is = omega arith;
      failed = refl;
      outs = λ x b.
          let y : 0 + (1 + x) ≡ suc x = omega arith in
          let z : 0 + x ≡ x = omega arith in
          ap (slice_get (site_roles i outs marks before)) y ∙ get_left (out_roles i outs) (after_roles i marks 0 before) x (Out i x) (get_numbered (Out i) 0 outs x b ∙ ap (λ j. Some (Out i j)) z);
      after = λ g b m.
          let y : 0 + (1 + (length outs + marked marks g)) ≡ suc (length (out_roles i outs) + marked marks g) = omega (arith, ns) in
          let z : 0 + g ≡ g = omega arith in
          ap (slice_get (site_roles i outs marks before)) y ∙ get_right (out_roles i outs) (after_roles i marks 0 before) (marked marks g) ∙ ap (λ rs. slice_get rs (marked marks g)) (after_is i marks before)
          ∙ get_after i 0 marks before g (subst (λ j. g < j) (sym count) b) m ∙ ap (λ j. Some (After i j)) z;
    }

moved_back : (flat : Limited) (roles : List Role) (k k2 i i2 : ℕ) (l : Laid) → k ≡ k2 → i ≡ i2 → RolesOf flat roles k i l → RolesOf flat roles k2 i2 l
moved_back flat roles k k2 i i2 l e f h = subst (λ (x : ℕ). RolesOf flat roles x i2 l) e (subst (λ (x : ℕ). RolesOf flat roles k x l) f h)

pub items_back : (flat : Limited) (n c k site : ℕ) (items : List Item) → ItemsOf flat items → (d : ℕ) (l : Laid) → slice_get (calls_laid n c k items) d ≡ Some l → RolesOf flat (items_roles site items) k (site + d) l
items_back flat n c k site [] h d l e = absurd cc
items_back flat n c k site (Let v x ∷ items) h d l e = moved_back flat (items_roles (site + 0) items) (k + 0) k (site + 0 + d) (site + d) l (omega arith) (omega arith) (items_back flat n c (k + 0) (site + 0) items h d l e)
items_back flat n c k site (Zero v s ∷ items) h d l e = moved_back flat (items_roles (site + 0) items) (k + 0) k (site + 0 + d) (site + d) l (omega arith) (omega arith) (items_back flat n c (k + 0) (site + 0) items h d l e)
items_back flat n c k site (Need x ∷ items) h d l e = moved_back flat (items_roles (site + 0) items) (k + 0) k (site + 0 + d) (site + d) l (omega arith) (omega arith) (items_back flat n c (k + 0) (site + 0) items h d l e)
items_back flat n c k site (Check p x ∷ items) h d l e = moved_back flat (items_roles (site + 0) items) (k + 0) k (site + 0 + d) (site + d) l (omega arith) (omega arith) (items_back flat n c (k + 0) (site + 0) items h d l e)
items_back flat n c k site (Free v s ∷ items) h d l e =
    with_front flat (Own ∷ []) (items_roles (site + 0) items) k (k + 1) (site + d) l refl
    (moved_back flat (items_roles (site + 0) items) (k + 1) (k + 1) (site + 0 + d) (site + d) l refl (omega arith) (items_back flat n c (k + 1) (site + 0) items h d l e))
items_back flat n c k site (Site p f args before outs changes after ∷ items) h zero l e =
    let z : site ≡ site + 0 = omega arith in
    let same : laid_at n c p k ≡ l = cc in
    let mine : site_roles site (callee_outs flat p) (callee_changes flat p) before ≡ site_roles site outs changes before =
    sym (ap (λ os. site_roles site os changes before) h.0.0 ∙ ap (λ ms. site_roles site (callee_outs flat p) ms before) h.0.1) in
    with_more flat (site_roles site outs changes before) (items_roles (site + 1) items) k (site + 0) l
    (subst (λ (x : Laid). RolesOf flat (site_roles site outs changes before) k (site + 0) x) same
    (subst (λ (j : ℕ). RolesOf flat (site_roles site outs changes before) k j (laid_at n c p k)) z
    (subst (λ (rs : List Role). RolesOf flat rs k site (laid_at n c p k)) mine (site_back flat n c p k site before h.0.3))))
items_back flat n c k site (Site p f args before outs changes after ∷ items) h (suc d) l e =
    let size = length (bool_sort ∷ (outs ++ after)) in
    let count : length (site_roles site outs changes before) ≡ size =
    ap (λ os. length (site_roles site os changes before)) h.0.0 ∙ ap (λ ms. length (site_roles site (callee_outs flat p) ms before)) h.0.1 ∙ site_count flat p site before h.0.3
    ∙ ap (λ os. length (bool_sort ∷ (os ++ changed_sorts flat p))) (sym h.0.0) ∙ ap (λ gs. length (bool_sort ∷ (outs ++ gs))) (sym h.0.2) in
    with_front flat (site_roles site outs changes before) (items_roles (site + 1) items) k (k + size) (site + suc d) l (omega (arith, count))
    (moved_back flat (items_roles (site + 1) items) (k + size) (k + size) (site + 1 + d) (site + suc d) l refl (omega arith) (items_back flat n (c + 1) (k + size) (site + 1) items h.1 d l e))

pub blocks_back : (flat : Limited) (q : FlatProc) (starts order : List ℕ) (k i n d : ℕ) (l : Laid) → slice_get order i ≡ Some n →
    slice_get (calls_laid n 0 (k + length (sorts_of_blocks flat q (take i order))) (items_at flat q n)) d ≡ Some l → RolesOf flat (blocks_roles starts (passive_blocks flat q order)) k (slice_index starts n + d) l
blocks_back flat q starts [] k i n d l at e = absurd cc
blocks_back flat q starts (m ∷ order) k zero n d l at e =
    let same : m ≡ n = cc in
    let z : k + 0 ≡ k = omega arith in
    let here = items_back flat n 0 k (slice_index starts n) (items_at flat q n) (block_of flat q n) d l (ap (λ x. slice_get (calls_laid n 0 x (items_at flat q n)) d) (sym z) ∙ e) in
    subst (λ (x : ℕ). RolesOf flat (block_roles starts (block_in flat q x) ++ blocks_roles starts (passive_blocks flat q order)) k (slice_index starts n + d) l) (sym same)
    (with_more flat (block_roles starts (block_in flat q n)) (blocks_roles starts (passive_blocks flat q order)) k (slice_index starts n + d) l
    (with_more flat (items_roles (slice_index starts n) (items_at flat q n)) (own_roles (choices_at q n)) k (slice_index starts n + d) l here))
blocks_back flat q starts (m ∷ order) k (suc i) n d l at e =
    let size = length (sorts_of_block flat q m) in
    let a = length-append (sorts_of_block flat q m) (sorts_of_blocks flat q (take i order)) in
    let f : k + size + length (sorts_of_blocks flat q (take i order)) ≡ k + length (sorts_of_block flat q m ++ sorts_of_blocks flat q (take i order)) = omega (arith, a) in
    let c = block_count flat q starts m in
    with_front flat (block_roles starts (block_in flat q m)) (blocks_roles starts (passive_blocks flat q order)) k (k + size) (slice_index starts n + d) l (omega (arith, c))
    (blocks_back flat q starts order (k + size) i n d l at (ap (λ x. slice_get (calls_laid n 0 x (items_at flat q n)) d) f ∙ e))
