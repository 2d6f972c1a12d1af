-- Each call of the blocks in an order is one site.
use Rattle.std.proofs.Common.{◌≡◌, ℕ, zero, suc, ◌+◌, Bool, true, false, not, nat_eq, cond, List, [], ◌∷◌, ◌++◌, map, length, take, slice_get, Option, None, Some, refl, sym, ap, ◌∙◌, subst, arith, append-nil, length-append}
use Rattle.std.specs.Prelude.{◌||◌}
use Rattle.std.proofs.lemmas.Bool.{and_parts, eq-eqb, eqb-true, false_from_ne_true}
use Rattle.std.proofs.lemmas.List.{map-append, length-map}
use Rattle.std.proofs.lemmas.List.Elements.{filter-append}
use Rattle.hy_val.specs.declared.expr.ExprNode.{ExprNode}
use Rattle.hy_val.specs.declared.expr.Var.{Var}
use Rattle.flat_prog.specs.Once.{has_number, numbers_differ}
use Rattle.flat_prog.specs.Sites.{calls_of, calls_at, numbers_from}
use Rattle.flat_prog.specs.declared.block.FlatBlock.{FlatBlock}
use Rattle.flat_prog.specs.declared.block.FlatCmd.{FlatCmd}
use Rattle.flat_prog.specs.declared.block.FlatCmd.TheVariants.{Assign, Havoc, Assume, Assert, Call}
use Rattle.flat_prog.specs.declared.proc.FlatProc.{FlatProc}
use Rattle.passive_form.specs.Limited.{Limited}
use Rattle.passive_form.specs.Making.{lets, frees, items_of, cur_after, next_after, items_all, entry_cur, entry_count, block_or}
use Rattle.passive_form.specs.Versions.{Cur}
use Rattle.passive_form.specs.declared.Item.{Item}
use Rattle.passive_form.specs.declared.Item.TheVariants.{Let, Zero, Free, Need, Check, Site}
use Rattle.vc_gen.specs.Items.{bool_sort, chosen}
use Rattle.vc_gen.specs.Inputs.{items_at, sorts_of_block, sorts_of_blocks}
use Rattle.vc_gen.specs.Laid.{Laid, calls_laid, sites_laid, laid_in, laid_call, laid_proc, OneSiteEach, CallsOfBlock}
use Rattle.vc_gen.proofs.Placed.{laid_append}

-- ---- the sites of a block among those of an order

own_laid : (n c k : ℕ) (items : List Item) → laid_in n (calls_laid n c k items) ≡ calls_laid n c k items
own_laid n c k [] = refl
own_laid n c k (Let v e ∷ items) = own_laid n c (k + 0) items
own_laid n c k (Zero v s ∷ items) = own_laid n c (k + 0) items
own_laid n c k (Free v s ∷ items) = own_laid n c (k + 1) items
own_laid n c k (Need e ∷ items) = own_laid n c (k + 0) items
own_laid n c k (Check p e ∷ items) = own_laid n c (k + 0) items
own_laid n c k (Site p f args before outs changes after ∷ items) =
    let own = bool_sort ∷ (outs ++ after) in
    let here : Laid = record { block = n; call = c; proc = p; first = k } in
    let rest = calls_laid n (c + 1) (k + length own) items in
    ap (λ (b : Bool). cond b (here ∷ laid_in n rest) (laid_in n rest)) (eq-eqb n n refl) ∙ ap (λ r. here ∷ r) (own_laid n (c + 1) (k + length own) items)

other_laid : (n m c k : ℕ) (items : List Item) → nat_eq m n ≡ false → laid_in n (calls_laid m c k items) ≡ []
other_laid n m c k [] h = refl
other_laid n m c k (Let v e ∷ items) h = other_laid n m c (k + 0) items h
other_laid n m c k (Zero v s ∷ items) h = other_laid n m c (k + 0) items h
other_laid n m c k (Free v s ∷ items) h = other_laid n m c (k + 1) items h
other_laid n m c k (Need e ∷ items) h = other_laid n m c (k + 0) items h
other_laid n m c k (Check p e ∷ items) h = other_laid n m c (k + 0) items h
other_laid n m c k (Site p f args before outs changes after ∷ items) h =
    let own = bool_sort ∷ (outs ++ after) in
    let here : Laid = record { block = m; call = c; proc = p; first = k } in
    let rest = calls_laid m (c + 1) (k + length own) items in
    ap (λ (b : Bool). cond b (here ∷ laid_in n rest) (laid_in n rest)) h ∙ other_laid n m (c + 1) (k + length own) items h

or_none : (a b : Bool) → (a || b) ≡ false → (a ≡ false) × (b ≡ false)
or_none true b h = cc
or_none false b h = (refl, h)

not_none : (b : Bool) → not b ≡ true → b ≡ false
not_none true h = cc
not_none false h = refl

split : (flat : Limited) (q : FlatProc) (n m : ℕ) (order : List ℕ) (k : ℕ) →
    laid_in n (sites_laid flat q (m ∷ order) k) ≡ laid_in n (calls_laid m 0 k (items_at flat q m)) ++ laid_in n (sites_laid flat q order (k + length (sorts_of_block flat q m)))
split flat q n m order k = filter-append (λ (l : Laid). nat_eq l.block n) (calls_laid m 0 k (items_at flat q m)) (sites_laid flat q order (k + length (sorts_of_block flat q m)))

none_laid_in : (flat : Limited) (q : FlatProc) (order : List ℕ) (k n : ℕ) → has_number order n ≡ false → laid_in n (sites_laid flat q order k) ≡ []
none_laid_in flat q [] k n h = refl
none_laid_in flat q (m ∷ order) k n h =
    let parts = or_none (nat_eq m n) (has_number order n) h in
    let next = k + length (sorts_of_block flat q m) in
    split flat q n m order k ∙ ap (λ r. r ++ laid_in n (sites_laid flat q order next)) (other_laid n m 0 k (items_at flat q m) parts.0) ∙ none_laid_in flat q order next n parts.1

found : (order : List ℕ) (i n : ℕ) → slice_get order i ≡ Some n → has_number order n ≡ true
found [] i n h = cc
found (m ∷ order) zero n h = let e : m ≡ n = cc in ap (λ (b : Bool). b || has_number order n) (eq-eqb m n e)
found (m ∷ order) (suc i) n h = by (nat_eq m n) (found order i n h)
  where
    by : (b : Bool) → has_number order n ≡ true → (b || has_number order n) ≡ true
    by true k = refl
    by false k = k

some_laid_in : (flat : Limited) (q : FlatProc) (order : List ℕ) (k i n : ℕ) → numbers_differ order ≡ true → slice_get order i ≡ Some n →
    laid_in n (sites_laid flat q order k) ≡ calls_laid n 0 (k + length (sorts_of_blocks flat q (take i order))) (items_at flat q n)
some_laid_in flat q [] k i n d h = cc
some_laid_in flat q (m ∷ order) k zero n d h =
    let e : m ≡ n = cc in
    let apart : has_number order m ≡ false = not_none (has_number order m) (and_parts (not (has_number order m)) (numbers_differ order) d).0 in
    let next = k + length (sorts_of_block flat q m) in
    let first : k ≡ k + 0 = omega arith in
    subst (λ (x : ℕ). laid_in x (sites_laid flat q (m ∷ order) k) ≡ calls_laid x 0 (k + 0) (items_at flat q x)) e
    (split flat q m m order k ∙ ap (λ r. r ++ laid_in m (sites_laid flat q order next)) (own_laid m 0 k (items_at flat q m)) ∙ ap (λ r. calls_laid m 0 k (items_at flat q m) ++ r) (none_laid_in flat q order next m apart)
    ∙ append-nil (calls_laid m 0 k (items_at flat q m)) ∙ ap (λ x. calls_laid m 0 x (items_at flat q m)) first)
some_laid_in flat q (m ∷ order) k (suc i) n d h =
    let parts = and_parts (not (has_number order m)) (numbers_differ order) d in
    let next = k + length (sorts_of_block flat q m) in
    let apart : nat_eq m n ≡ false =
    false_from_ne_true (nat_eq m n) (λ e.
    let same : m ≡ n = eqb-true m n e in
    let yes : has_number order m ≡ true = ap (has_number order) same ∙ found order i n h in
    let no : has_number order m ≡ false = not_none (has_number order m) parts.0 in
    cc) in
    let later : next + length (sorts_of_blocks flat q (take i order)) ≡ k + length (sorts_of_blocks flat q (take (suc i) (m ∷ order))) =
    omega (arith, length-append (sorts_of_block flat q m) (sorts_of_blocks flat q (take i order))) in
    split flat q n m order k ∙ ap (λ r. r ++ laid_in n (sites_laid flat q order next)) (other_laid n m 0 k (items_at flat q m) apart) ∙ some_laid_in flat q order next i n parts.1 h
    ∙ ap (λ x. calls_laid n 0 x (items_at flat q n)) later

-- ---- the calls of a block

calls_numbered : (n c k : ℕ) (items : List Item) → map laid_call (calls_laid n c k items) ≡ numbers_from c (length (calls_laid n c k items))
calls_numbered n c k [] = refl
calls_numbered n c k (Let v e ∷ items) = calls_numbered n c (k + 0) items
calls_numbered n c k (Zero v s ∷ items) = calls_numbered n c (k + 0) items
calls_numbered n c k (Free v s ∷ items) = calls_numbered n c (k + 1) items
calls_numbered n c k (Need e ∷ items) = calls_numbered n c (k + 0) items
calls_numbered n c k (Check p e ∷ items) = calls_numbered n c (k + 0) items
calls_numbered n c k (Site p f args before outs changes after ∷ items) = ap (λ r. c ∷ r) (calls_numbered n (c + 1) (k + length (bool_sort ∷ (outs ++ after))) items)

lets_laid : (n c k v : ℕ) (cur : Cur) (pairs : List (Var × List ExprNode)) → calls_laid n c k (lets cur v pairs) ≡ []
lets_laid n c k v cur [] = refl
lets_laid n c k v cur (pair ∷ pairs) = lets_laid n c (k + 0) (v + 1) cur pairs

frees_laid : (flat : Limited) (q : FlatProc) (n c k v : ℕ) (xs : List Var) → calls_laid n c k (frees flat q v xs) ≡ []
frees_laid flat q n c k v [] = refl
frees_laid flat q n c k v (x ∷ xs) = frees_laid flat q n c (k + 1) (v + 1) xs

one_called : (flat : Limited) (q : FlatProc) (cur : Cur) (at v n c k : ℕ) (cmd : FlatCmd) → map laid_proc (calls_laid n c k (items_of flat q cur at v cmd)) ≡ calls_of (cmd ∷ [])
one_called flat q cur at v n c k (Assign pairs) = ap (map laid_proc) (lets_laid n c k v cur pairs)
one_called flat q cur at v n c k (Havoc xs) = ap (map laid_proc) (frees_laid flat q n c k v xs)
one_called flat q cur at v n c k (Assume e) = refl
one_called flat q cur at v n c k (Assert p i e) = refl
one_called flat q cur at v n c k (Call p args outs) = refl

calls_push : (cmd : FlatCmd) (cmds : List FlatCmd) → calls_of (cmd ∷ []) ++ calls_of cmds ≡ calls_of (cmd ∷ cmds)
calls_push (Assign pairs) cmds = refl
calls_push (Havoc xs) cmds = refl
calls_push (Assume e) cmds = refl
calls_push (Assert p i e) cmds = refl
calls_push (Call p args outs) cmds = refl

all_called : (flat : Limited) (q : FlatProc) (cur : Cur) (at v n c k : ℕ) (cmds : List FlatCmd) → map laid_proc (calls_laid n c k (items_all flat q cur at v cmds)) ≡ calls_of cmds
all_called flat q cur at v n c k [] = refl
all_called flat q cur at v n c k (cmd ∷ cmds) =
    let here = items_of flat q cur at v cmd in
    let rest = items_all flat q (cur_after flat cur v cmd) (at + 1) (next_after flat v cmd) cmds in
    let i = c + length (calls_laid n c k here) in
    let j = k + length (chosen here) in
    ap (map laid_proc) (laid_append n c k here rest i j refl refl) ∙ map-append laid_proc (calls_laid n c k here) (calls_laid n i j rest)
    ∙ ap (λ r. r ++ map laid_proc (calls_laid n i j rest)) (one_called flat q cur at v n c k cmd)
    ∙ ap (λ r. calls_of (cmd ∷ []) ++ r) (all_called flat q (cur_after flat cur v cmd) (at + 1) (next_after flat v cmd) n i j cmds) ∙ calls_push cmd cmds

block_called : (o : Option FlatBlock) → calls_of (block_or o).cmds ≡ calls_at o
block_called None = refl
block_called (Some b) = refl

calls_of_block : (flat : Limited) (q : FlatProc) (n k : ℕ) → CallsOfBlock flat q n k
calls_of_block flat q n k =
    let laid = calls_laid n 0 k (items_at flat q n) in
    let procs : map laid_proc laid ≡ calls_at (slice_get q.blocks n) = all_called flat q (entry_cur flat q) 0 (entry_count flat q) n 0 k (block_or (slice_get q.blocks n)).cmds ∙ block_called (slice_get q.blocks n) in
    let count : length laid ≡ length (calls_at (slice_get q.blocks n)) = sym (length-map laid laid_proc) ∙ ap length procs in
    record { procs = procs; calls = calls_numbered n 0 k (items_at flat q n) ∙ ap (numbers_from 0) count }

pub one_each : OneSiteEach
one_each flat q order k d = record {
  some = λ i n h. some_laid_in flat q order k i n d h;
  none = λ n h. none_laid_in flat q order k n h;
  calls = λ n j. calls_of_block flat q n j;
}
