-- What a plan settles at the variables of calls: nothing but at calls of the blocks that the run passes.
use Rattle.std.proofs.Common.{◌≡◌, ℕ, zero, suc, ◌+◌, ◌<◌, ◌≤◌, Bool, true, false, List, [], ◌∷◌, ◌++◌, length, refl, sym, ap, ◌∙◌, arith, append_assoc, append-nil, length-append, inl, inr}
use Rattle.std.specs.Prelude.{Option, None, Some, slice_get, slice_index_or, slice_set, ◌⊎◌}
use Rattle.hy_val.specs.declared.expr.Var.{Var}
use Rattle.hy_val.specs.declared.expr.Var.TheVariants.{Const as ConstVar, Global as GlobalVar, Local as LocalVar}
use Rattle.hy_val.specs.declared.expr.ExprNode.{ExprNode}
use Rattle.hy_val.specs.declared.value.Value.{Value}
use Rattle.flat_prog.specs.Sites.{calls_of}
use Rattle.flat_prog.specs.declared.block.FlatCmd.{FlatCmd}
use Rattle.flat_prog.specs.declared.block.FlatCmd.TheVariants.{Assign, Havoc, Assume, Assert, Call}
use Rattle.flat_prog.specs.declared.proc.FlatProc.{FlatProc}
use Rattle.passive_form.specs.Limited.{Limited}
use Rattle.passive_form.specs.Local.{picked, replaced, changed_sorts, targets_of}
use Rattle.passive_form.specs.Versions.{Cur, from}
use Rattle.passive_form.specs.Making.{items_of, items_all, cur_after, next_after, set_version, set_versions, callee_outs, callee_changes, lets, frees, entry_cur, entry_count}
use Rattle.passive_form.specs.declared.Item.{Item}
use Rattle.passive_form.specs.declared.Item.TheVariants.{Let, Zero, Free, Need, Check, Site}
use Rattle.vc_gen.specs.Items.{chosen_by, chosen}
use Rattle.vc_gen.specs.Inputs.{block_at, items_at}
use Rattle.vc_gen.specs.Plans.{Follows, AllOpen}
use Rattle.tree_terms.specs.declared.linked.Role.{Role}
use Rattle.tree_terms.specs.declared.linked.Role.TheVariants.{Const, Global, In, Failed, Out, After, Own}
use Rattle.proc_template.specs.Layout.{numbered, out_roles, role_if, after_roles, site_roles, item_roles, item_sites, items_roles}

-- ---- lists

-- an element of two lists is one of the first or of the second
pub in_split : {A : Type 0} (xs ys : List A) (j : ℕ) (r : A) → slice_get (xs ++ ys) j ≡ Some r → ((j < length xs) × (slice_get xs j ≡ Some r)) ⊎ ((o : ℕ) × (j ≡ length xs + o) × (slice_get ys o ≡ Some r))
in_split [] ys j r h = inr (j, omega arith, h)
in_split (x ∷ xs) ys zero r h = inl (omega arith, h)
in_split (x ∷ xs) ys (suc j) r h = more (in_split xs ys j r h)
  where
    more : ((j < length xs) × (slice_get xs j ≡ Some r)) ⊎ ((o : ℕ) × (j ≡ length xs + o) × (slice_get ys o ≡ Some r)) → ((suc j < length (x ∷ xs)) × (slice_get (x ∷ xs) (suc j) ≡ Some r)) ⊎ ((o : ℕ) × (suc j ≡ length (x ∷ xs) + o) × (slice_get ys o ≡ Some r))
    more (inl k) = let l = k.0 in inl (omega (arith, l), k.1)
    more (inr k) = let e = k.1 in inr (k.0, omega (arith, e), k.2)

-- what is settled at a place of a row
abbrev pub entry : List (Option Value) → ℕ → Option Value
entry [] j = None
entry (v ∷ vs) zero = v
entry (v ∷ vs) (suc j) = entry vs j

pub entry_front : (xs ys : List (Option Value)) (j : ℕ) → j < length xs → entry (xs ++ ys) j ≡ entry xs j
entry_front [] ys j l = absurd (omega (arith, l))
entry_front (x ∷ xs) ys zero l = refl
entry_front (x ∷ xs) ys (suc j) l = entry_front xs ys j (omega (arith, l))

pub entry_behind : (xs ys : List (Option Value)) (o : ℕ) → entry (xs ++ ys) (length xs + o) ≡ entry ys o
entry_behind [] ys o = let e : 0 + o ≡ o = omega arith in ap (entry ys) e
entry_behind (x ∷ xs) ys o = let e : suc (length xs) + o ≡ suc (length xs + o) = omega arith in ap (entry (x ∷ (xs ++ ys))) e ∙ entry_behind xs ys o

pub entry_open : (vs : List (Option Value)) (j : ℕ) → AllOpen vs → entry vs j ≡ None
entry_open [] j h = refl
entry_open (None ∷ vs) zero h = refl
entry_open (None ∷ vs) (suc j) h = entry_open vs j h
entry_open (Some v ∷ vs) j h = absurd h

pub entry_within : (vs : List (Option Value)) (j : ℕ) (v : Value) → entry vs j ≡ Some v → j < length vs
entry_within [] j v h = cc
entry_within (x ∷ xs) zero v h = omega arith
entry_within (x ∷ xs) (suc j) v h = let l = entry_within xs j v h in omega (arith, l)

-- an assignment follows a row where it has what is settled
pub follows_by : (b : ℕ → Value) (m : ℕ) (vs : List (Option Value)) → ((j : ℕ) (v : Value) → entry vs j ≡ Some v → b (m + j) ≡ v) → Follows b m vs
follows_by b m [] h = tt
follows_by b m (None ∷ vs) h = follows_by b (m + 1) vs (λ j v is. let e : m + 1 + j ≡ m + suc j = omega arith in ap b e ∙ h (suc j) v is)
follows_by b m (Some w ∷ vs) h =
    let e : m ≡ m + 0 = omega arith in
    (ap b e ∙ h 0 w refl, follows_by b (m + 1) vs (λ j v is. let f : m + 1 + j ≡ m + suc j = omega arith in ap b f ∙ h (suc j) v is))

-- ---- the roles of items

-- the site of a role
abbrev pub site_of : Role → Option ℕ
site_of (Const k) = None
site_of (Global k) = None
site_of (In k) = None
site_of (Failed i) = Some i
site_of (Out i k) = Some i
site_of (After i k) = Some i
site_of Own = None

numbered_count : {A : Type 0} (role : ℕ → Role) (k : ℕ) (xs : List A) → length (numbered role k xs) ≡ length xs
numbered_count role k [] = refl
numbered_count role k (x ∷ xs) = ap suc (numbered_count role (k + 1) xs)

mark_here : (pre : List Bool) (m : Bool) (ms : List Bool) → slice_index_or (pre ++ m ∷ ms) (length pre) false ≡ m
mark_here [] m ms = refl
mark_here (x ∷ pre) m ms = mark_here pre m ms

mark_none : (ms : List Bool) (g : ℕ) → length ms ≤ g → slice_index_or ms g false ≡ false
mark_none [] g l = refl
mark_none (m ∷ ms) zero l = absurd (omega (arith, l))
mark_none (m ∷ ms) (suc g) l = mark_none ms g (omega (arith, l))

after_none : (site : ℕ) (marks : List Bool) (g : ℕ) (vs : List ℕ) → length marks ≤ g → after_roles site marks g vs ≡ []
after_none site marks g [] l = refl
after_none site marks g (v ∷ vs) l = ap (λ b. role_if b (After site g) ++ after_roles site marks (g + 1) vs) (mark_none marks g l) ∙ after_none site marks (g + 1) vs (omega (arith, l))

picked_none : (A : Type 0) (ms : List Bool) → 0 ≡ length (picked {A = A} ms [])
picked_none A [] = refl
picked_none A (m ∷ ms) = refl

after_count : {A : Type 0} (site : ℕ) (pre ms : List Bool) (vs : List ℕ) (xs : List A) → length vs ≡ length xs → length (after_roles site (pre ++ ms) (length pre) vs) ≡ length (picked ms xs)
after_count {A = A} site pre ms [] [] n = picked_none A ms
after_count site pre ms [] (x ∷ xs) n = absurd (omega (arith, n))
after_count site pre ms (v ∷ vs) [] n = absurd (omega (arith, n))
after_count site pre [] (v ∷ vs) (x ∷ xs) n = ap length (after_none site (pre ++ []) (length pre) (v ∷ vs) (let e = ap length (append-nil pre) in omega (arith, e)))
after_count site pre (m ∷ ms) (v ∷ vs) (x ∷ xs) n =
    let more : length (after_roles site (pre ++ m ∷ ms) (length pre + 1) vs) ≡ length (picked ms xs) =
    let e : length pre + 1 ≡ length (pre ++ m ∷ []) = let c = length-append pre (m ∷ []) in omega (arith, c) in
    ap (λ k. length (after_roles site (pre ++ m ∷ ms) k vs)) e ∙ ap (λ bs. length (after_roles site bs (length (pre ++ m ∷ [])) vs)) (sym (append_assoc pre (m ∷ []) ms))
    ∙ after_count site (pre ++ m ∷ []) ms vs xs (omega (arith, n)) in
    ap (λ b. length (role_if b (After site (length pre)) ++ after_roles site (pre ++ m ∷ ms) (length pre + 1) vs)) (mark_here pre m ms) ∙ with_mark m ms xs x (after_roles site (pre ++ m ∷ ms) (length pre + 1) vs) more
  where
    with_mark : {A : Type 0} (b : Bool) (ms : List Bool) (xs : List A) (x : A) (rest : List Role) → length rest ≡ length (picked ms xs) → length (role_if b (After site (length pre)) ++ rest) ≡ length (picked (b ∷ ms) (x ∷ xs))
    with_mark true ms xs x rest e = ap suc e
    with_mark false ms xs x rest e = e

-- a call's item names all globals before it
abbrev pub Fitted : Item → Type 0
Fitted (Let v e) = Unit {0}
Fitted (Zero v s) = Unit {0}
Fitted (Free v s) = Unit {0}
Fitted (Need e) = Unit {0}
Fitted (Check p e) = Unit {0}
Fitted (Site p f args before outs changes after) = (site : ℕ) → length (after_roles site changes 0 before) ≡ length after

abbrev pub AllFitted : List Item → Type 0
AllFitted [] = Unit {0}
AllFitted (i ∷ items) = Fitted i × AllFitted items

role_count : (site : ℕ) (i : Item) → Fitted i → length (item_roles site i) ≡ length (chosen_by i)
role_count site (Let v e) h = refl
role_count site (Zero v s) h = refl
role_count site (Free v s) h = refl
role_count site (Need e) h = refl
role_count site (Check p e) h = refl
role_count site (Site p f args before outs changes after) h =
    ap suc (length-append (out_roles site outs) (after_roles site changes 0 before) ∙ ap (λ n. n + length (after_roles site changes 0 before)) (numbered_count (Out site) 0 outs) ∙ ap (λ n. length outs + n) (h site) ∙ sym (length-append outs after))

pub roles_count : (site : ℕ) (items : List Item) → AllFitted items → length (items_roles site items) ≡ length (chosen items)
roles_count site [] h = refl
roles_count site (i ∷ items) h =
    length-append (item_roles site i) (items_roles (site + item_sites i) items) ∙ ap (λ n. n + length (items_roles (site + item_sites i) items)) (role_count site i h.0)
    ∙ ap (λ n. length (chosen_by i) + n) (roles_count (site + item_sites i) items h.1) ∙ sym (length-append (chosen_by i) (chosen items))

abbrev pub site_count : List Item → ℕ
site_count [] = 0
site_count (i ∷ items) = item_sites i + site_count items

pub roles_append : (site : ℕ) (xs ys : List Item) → items_roles site (xs ++ ys) ≡ items_roles site xs ++ items_roles (site + site_count xs) ys
roles_append site [] ys = let e : site ≡ site + 0 = omega arith in ap (λ n. items_roles n ys) e
roles_append site (i ∷ xs) ys =
    let e : site + item_sites i + site_count xs ≡ site + (item_sites i + site_count xs) = omega arith in
    ap (λ r. item_roles site i ++ r) (roles_append (site + item_sites i) xs ys) ∙ sym (append_assoc (item_roles site i) (items_roles (site + item_sites i) xs) (items_roles (site + item_sites i + site_count xs) ys))
    ∙ ap (λ n. (item_roles site i ++ items_roles (site + item_sites i) xs) ++ items_roles n ys) e

chosen_append : (xs ys : List Item) → chosen (xs ++ ys) ≡ chosen xs ++ chosen ys
chosen_append [] ys = refl
chosen_append (i ∷ xs) ys = ap (λ r. chosen_by i ++ r) (chosen_append xs ys) ∙ sym (append_assoc (chosen_by i) (chosen xs) (chosen ys))

sites_append : (xs ys : List Item) → site_count (xs ++ ys) ≡ site_count xs + site_count ys
sites_append [] ys = omega arith
sites_append (i ∷ xs) ys = let e = sites_append xs ys in omega (arith, e)

fitted_both : (xs ys : List Item) → AllFitted xs → AllFitted ys → AllFitted (xs ++ ys)
fitted_both [] ys h k = k
fitted_both (x ∷ xs) ys h k = (h.0, fitted_both xs ys h.1 k)

-- the site of each of these roles is this one
abbrev AllAt : ℕ → List Role → Type 0
AllAt i [] = Unit {0}
AllAt i (r ∷ rs) = (site_of r ≡ Some i) × AllAt i rs

all_both : (i : ℕ) (xs ys : List Role) → AllAt i xs → AllAt i ys → AllAt i (xs ++ ys)
all_both i [] ys h k = k
all_both i (x ∷ xs) ys h k = (h.0, all_both i xs ys h.1 k)

outs_at : {A : Type 0} (site k : ℕ) (xs : List A) → AllAt site (numbered (Out site) k xs)
outs_at site k [] = tt
outs_at site k (x ∷ xs) = (refl, outs_at site (k + 1) xs)

afters_at : (site : ℕ) (marks : List Bool) (g : ℕ) (vs : List ℕ) → AllAt site (after_roles site marks g vs)
afters_at site marks g [] = tt
afters_at site marks g (v ∷ vs) = all_both site (role_if (slice_index_or marks g false) (After site g)) (after_roles site marks (g + 1) vs) (if_at (slice_index_or marks g false)) (afters_at site marks (g + 1) vs)
  where
    if_at : (b : Bool) → AllAt site (role_if b (After site g))
    if_at true = (refl, tt)
    if_at false = tt

all_same : (i : ℕ) (rs : List Role) (o : ℕ) (r : Role) (s : ℕ) → AllAt i rs → slice_get rs o ≡ Some r → site_of r ≡ Some s → i ≡ s
all_same i [] o r s h is at = cc
all_same i (x ∷ xs) zero r s h is at = let e : x ≡ r = cc in let f : Some i ≡ Some s = sym h.0 ∙ ap site_of e ∙ at in cc
all_same i (x ∷ xs) (suc o) r s h is at = all_same i xs o r s h.1 is at

-- a role of a call of these items
pub record AtCall (site count : ℕ) (i : ℕ) : Type 0 where
  pub low : site ≤ i
  pub high : i < site + count

item_call : (site : ℕ) (i : Item) (o : ℕ) (r : Role) (s : ℕ) → slice_get (item_roles site i) o ≡ Some r → site_of r ≡ Some s → (site ≡ s) × (item_sites i ≡ 1)
item_call site (Let v e) o r s is at = cc
item_call site (Zero v x) o r s is at = cc
item_call site (Free v x) zero r s is at = let e : Own ≡ r = cc in let f : None ≡ Some s = ap site_of e ∙ at in cc
item_call site (Free v x) (suc o) r s is at = cc
item_call site (Need e) o r s is at = cc
item_call site (Check p e) o r s is at = cc
item_call site (Site p f args before outs changes after) o r s is at =
    (all_same site (site_roles site outs changes before) o r s (refl, all_both site (out_roles site outs) (after_roles site changes 0 before) (outs_at site 0 outs) (afters_at site changes 0 before)) is at, refl)

pub items_call : (site : ℕ) (items : List Item) (o : ℕ) (r : Role) (s : ℕ) → slice_get (items_roles site items) o ≡ Some r → site_of r ≡ Some s → AtCall site (site_count items) s
items_call site [] o r s is at = cc
items_call site (i ∷ items) o r s is at = here (λ c k. items_call (site + item_sites i) items c r s k at) (in_split (item_roles site i) (items_roles (site + item_sites i) items) o r is)
  where
    here : ((c : ℕ) → slice_get (items_roles (site + item_sites i) items) c ≡ Some r → AtCall (site + item_sites i) (site_count items) s) → ((o < length (item_roles site i)) × (slice_get (item_roles site i) o ≡ Some r)) ⊎ ((c : ℕ) × (o ≡ length (item_roles site i) + c) × (slice_get (items_roles (site + item_sites i) items) c ≡ Some r)) → AtCall site (item_sites i + site_count items) s
    here more (inl k) = let z = item_call site i o r s k.1 at in let a = z.0 in let b = z.1 in record { low = omega (arith, a); high = omega (arith, a, b) }
    here more (inr k) = let z = more k.0 k.2 in let a = z.low in let b = z.high in record { low = omega (arith, a); high = omega (arith, b) }

-- ---- the items of commands

set_count : (cur : Cur) (x : Var) (v : ℕ) → length (set_version cur x v).globals ≡ length cur.globals
set_count cur (ConstVar n) v = refl
set_count cur (GlobalVar n) v = slice_set_count cur.globals n v
  where
    slice_set_count : (xs : List ℕ) (n v : ℕ) → length (slice_set xs n v) ≡ length xs
    slice_set_count [] n v = grind arith
    slice_set_count (x ∷ xs) zero v = grind arith
    slice_set_count (x ∷ xs) (suc n) v = ap suc (slice_set_count xs n v)
set_count cur (LocalVar n) v = refl

sets_count : {A : Type 0} (cur : Cur) (xs : List Var) (ys : List A) (k : ℕ) → length (set_versions cur xs ys k).globals ≡ length cur.globals
sets_count cur [] ys k = refl
sets_count cur (x ∷ xs) [] k = refl
sets_count cur (x ∷ xs) (y ∷ ys) k = sets_count (set_version cur x k) xs ys (k + 1) ∙ set_count cur x k

replaced_count : {A : Type 0} (ms : List Bool) (xs ys : List A) → length (replaced ms xs ys) ≡ length xs
replaced_count [] xs ys = refl
replaced_count (m ∷ ms) [] ys = refl
replaced_count (true ∷ ms) (x ∷ xs) [] = refl
replaced_count (true ∷ ms) (x ∷ xs) (y ∷ ys) = ap suc (replaced_count ms xs ys)
replaced_count (false ∷ ms) (x ∷ xs) ys = ap suc (replaced_count ms xs ys)

after_globals : (flat : Limited) (cur : Cur) (k : ℕ) (c : FlatCmd) → length (cur_after flat cur k c).globals ≡ length cur.globals
after_globals flat cur k (Assign pairs) = sets_count cur (targets_of pairs) pairs k
after_globals flat cur k (Havoc xs) = sets_count cur xs xs k
after_globals flat cur k (Assume e) = refl
after_globals flat cur k (Assert p n e) = refl
after_globals flat cur k (Call p args outs) =
    let xs = from (k + 1 + length (callee_outs flat p)) (changed_sorts flat p) in
    sets_count (record { globals = replaced (callee_changes flat p) cur.globals xs; locals = cur.locals }) outs (callee_outs flat p) (k + 1) ∙ replaced_count (callee_changes flat p) cur.globals xs

lets_fitted : (cur : Cur) (k : ℕ) (pairs : List (Var × List ExprNode)) → AllFitted (lets cur k pairs)
lets_fitted cur k [] = tt
lets_fitted cur k (pair ∷ pairs) = (tt, lets_fitted cur (k + 1) pairs)

frees_fitted : (flat : Limited) (q : FlatProc) (k : ℕ) (xs : List Var) → AllFitted (frees flat q k xs)
frees_fitted flat q k [] = tt
frees_fitted flat q k (x ∷ xs) = (tt, frees_fitted flat q (k + 1) xs)

cmd_fitted : (flat : Limited) (q : FlatProc) (cur : Cur) (at k : ℕ) (c : FlatCmd) → length cur.globals ≡ length flat.globals → AllFitted (items_of flat q cur at k c)
cmd_fitted flat q cur at k (Assign pairs) n = lets_fitted cur k pairs
cmd_fitted flat q cur at k (Havoc xs) n = frees_fitted flat q k xs
cmd_fitted flat q cur at k (Assume e) n = (tt, tt)
cmd_fitted flat q cur at k (Assert p i e) n = (tt, tt)
cmd_fitted flat q cur at k (Call p args outs) n = ((λ site. after_count site [] (callee_changes flat p) cur.globals flat.globals n), tt)

pub cmds_fitted : (flat : Limited) (q : FlatProc) (cur : Cur) (at k : ℕ) (cs : List FlatCmd) → length cur.globals ≡ length flat.globals → AllFitted (items_all flat q cur at k cs)
cmds_fitted flat q cur at k [] n = tt
cmds_fitted flat q cur at k (c ∷ cs) n =
    fitted_both (items_of flat q cur at k c) (items_all flat q (cur_after flat cur k c) (at + 1) (next_after flat k c) cs) (cmd_fitted flat q cur at k c n)
    (cmds_fitted flat q (cur_after flat cur k c) (at + 1) (next_after flat k c) cs (after_globals flat cur k c ∙ n))

from_count : {A : Type 0} (k : ℕ) (xs : List A) → length (from k xs) ≡ length xs
from_count k [] = refl
from_count k (x ∷ xs) = ap suc (from_count (k + 1) xs)

pub entry_globals : (flat : Limited) (q : FlatProc) → length (entry_cur flat q).globals ≡ length flat.globals
entry_globals flat q = from_count 0 flat.globals

pub block_fitted : (flat : Limited) (q : FlatProc) (n : ℕ) → AllFitted (items_at flat q n)
block_fitted flat q n = cmds_fitted flat q (entry_cur flat q) 0 (entry_count flat q) (block_at q n).cmds (from_count 0 flat.globals)

lets_sites : (cur : Cur) (k : ℕ) (pairs : List (Var × List ExprNode)) → site_count (lets cur k pairs) ≡ 0
lets_sites cur k [] = refl
lets_sites cur k (pair ∷ pairs) = let e = lets_sites cur (k + 1) pairs in omega (arith, e)

frees_sites : (flat : Limited) (q : FlatProc) (k : ℕ) (xs : List Var) → site_count (frees flat q k xs) ≡ 0
frees_sites flat q k [] = refl
frees_sites flat q k (x ∷ xs) = let e = frees_sites flat q (k + 1) xs in omega (arith, e)

pub cmds_sites : (flat : Limited) (q : FlatProc) (cur : Cur) (at k : ℕ) (cs : List FlatCmd) → site_count (items_all flat q cur at k cs) ≡ length (calls_of cs)
cmds_sites flat q cur at k [] = refl
cmds_sites flat q cur at k (Assign pairs ∷ cs) =
    let m = sites_append (lets cur k pairs) (items_all flat q (cur_after flat cur k (Assign pairs)) (at + 1) (next_after flat k (Assign pairs)) cs) in
    let l = lets_sites cur k pairs in
    let r = cmds_sites flat q (cur_after flat cur k (Assign pairs)) (at + 1) (next_after flat k (Assign pairs)) cs in
    omega (arith, m, l, r)
cmds_sites flat q cur at k (Havoc xs ∷ cs) =
    let m = sites_append (frees flat q k xs) (items_all flat q (cur_after flat cur k (Havoc xs)) (at + 1) (next_after flat k (Havoc xs)) cs) in
    let l = frees_sites flat q k xs in
    let r = cmds_sites flat q (cur_after flat cur k (Havoc xs)) (at + 1) (next_after flat k (Havoc xs)) cs in
    omega (arith, m, l, r)
cmds_sites flat q cur at k (Assume e ∷ cs) = let r = cmds_sites flat q (cur_after flat cur k (Assume e)) (at + 1) (next_after flat k (Assume e)) cs in omega (arith, r)
cmds_sites flat q cur at k (Assert p n e ∷ cs) = let r = cmds_sites flat q (cur_after flat cur k (Assert p n e)) (at + 1) (next_after flat k (Assert p n e)) cs in omega (arith, r)
cmds_sites flat q cur at k (Call p args outs ∷ cs) = let r = cmds_sites flat q (cur_after flat cur k (Call p args outs)) (at + 1) (next_after flat k (Call p args outs)) cs in omega (arith, r)

-- the items of commands, where one of them is told apart
pub record Parted (flat : Limited) (q : FlatProc) (cur : Cur) (at k : ℕ) (cs : List FlatCmd) (c : FlatCmd) (ds : List FlatCmd) : Type 0 where
  pub place : ℕ
  pub before : Cur
  pub count : ℕ
  pub behind : List Item
  pub items_are : items_all flat q cur at k (cs ++ c ∷ ds) ≡ items_all flat q cur at k cs ++ (items_of flat q before place count c ++ behind)

pub parted : (flat : Limited) (q : FlatProc) (cur : Cur) (at k : ℕ) (cs : List FlatCmd) (c : FlatCmd) (ds : List FlatCmd) → Parted flat q cur at k cs c ds
parted flat q cur at k [] c ds = record { place = at; before = cur; count = k; behind = items_all flat q (cur_after flat cur k c) (at + 1) (next_after flat k c) ds; items_are = refl }
parted flat q cur at k (x ∷ cs) c ds =
    let z = parted flat q (cur_after flat cur k x) (at + 1) (next_after flat k x) cs c ds in
    record {
      place = z.place;
      before = z.before;
      count = z.count;
      behind = z.behind;
      items_are = ap (λ r. items_of flat q cur at k x ++ r) z.items_are
          ∙ sym (append_assoc (items_of flat q cur at k x) (items_all flat q (cur_after flat cur k x) (at + 1) (next_after flat k x) cs) (items_of flat q z.before z.place z.count c ++ z.behind));
    }
