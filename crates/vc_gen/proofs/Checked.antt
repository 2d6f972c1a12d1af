-- The asserts of items, of blocks and of an order, part by part.
use Rattle.std.proofs.Common.{◌≡◌, ℕ, ◌+◌, List, [], ◌∷◌, ◌++◌, map, length, sym, ◌∙◌, ap, refl, append-nil, append_assoc}
use Rattle.std.proofs.lemmas.List.{map-append}
use Rattle.hy_val.specs.declared.sort.Sort.{Sort}
use Rattle.hy_val.specs.declared.expr.Var.{Var}
use Rattle.hy_val.specs.declared.expr.ExprNode.{ExprNode}
use Rattle.flat_prog.specs.Shape.{exit_sort}
use Rattle.flat_prog.specs.declared.block.FlatCmd.{FlatCmd}
use Rattle.flat_prog.specs.declared.block.FlatCmd.TheVariants.{Assign, Havoc, Assume, Assert, Call}
use Rattle.flat_prog.specs.declared.proc.FlatKind.{FlatKind}
use Rattle.flat_prog.specs.declared.proc.FlatKind.TheVariants.{Source, Loop}
use Rattle.flat_prog.specs.declared.proc.FlatProc.{FlatProc}
use Rattle.passive_form.specs.Limited.{Limited}
use Rattle.passive_form.specs.Making.{lets, frees, items_of, cur_after, next_after, items_all, entry_cur, entry_count, free_items, zero_items, passive_start, passive_blocks}
use Rattle.passive_form.specs.Versions.{Cur}
use Rattle.passive_form.specs.declared.Item.{Item}
use Rattle.passive_form.specs.declared.PassiveBlock.{PassiveBlock}
use Rattle.vc_gen.specs.Inputs.{block_at}
use Rattle.vc_gen.specs.Singly.{assert_place, asserts_at, asserts_laid, check_by, checks_at, blocks_checked}
use Rattle.vc_gen.specs.declared.parts.FailTerm.{FailTerm}

checks_append : (n : ℕ) (xs ys : List Item) → checks_at n (xs ++ ys) ≡ checks_at n xs ++ checks_at n ys
checks_append n [] ys = refl
checks_append n (x ∷ xs) ys = ap (λ r. check_by n x ++ r) (checks_append n xs ys) ∙ sym (append_assoc (check_by n x) (checks_at n xs) (checks_at n ys))

-- the asserts of some items, and of those behind them
pub checks_then : (n : ℕ) (fs gs : List FailTerm) (xs ys : List Item) → map assert_place fs ≡ checks_at n xs → map assert_place gs ≡ checks_at n ys → map assert_place (fs ++ gs) ≡ checks_at n (xs ++ ys)
checks_then n fs gs xs ys h k = map-append assert_place fs gs ∙ ap (λ r. r ++ map assert_place gs) h ∙ ap (λ r. checks_at n xs ++ r) k ∙ sym (checks_append n xs ys)

checked_push : (bs : List PassiveBlock) (b : PassiveBlock) → blocks_checked (bs ++ b ∷ []) ≡ blocks_checked bs ++ checks_at b.number b.items
checked_push [] b = append-nil (checks_at b.number b.items)
checked_push (x ∷ bs) b = ap (λ r. checks_at x.number x.items ++ r) (checked_push bs b) ∙ sym (append_assoc (checks_at x.number x.items) (blocks_checked bs) (checks_at b.number b.items))

-- the asserts of some blocks, and of the next one
pub checked_next : (fs gs : List FailTerm) (bs : List PassiveBlock) (b : PassiveBlock) → map assert_place fs ≡ blocks_checked bs → map assert_place gs ≡ checks_at b.number b.items → map assert_place (fs ++ gs) ≡ blocks_checked (bs ++ b ∷ [])
checked_next fs gs bs b h k = map-append assert_place fs gs ∙ ap (λ r. r ++ map assert_place gs) h ∙ ap (λ r. blocks_checked bs ++ r) k ∙ sym (checked_push bs b)

lets_checked : (n v : ℕ) (cur : Cur) (pairs : List (Var × List ExprNode)) → checks_at n (lets cur v pairs) ≡ []
lets_checked n v cur [] = refl
lets_checked n v cur (pair ∷ pairs) = lets_checked n (v + 1) cur pairs

frees_checked : (flat : Limited) (q : FlatProc) (n v : ℕ) (xs : List Var) → checks_at n (frees flat q v xs) ≡ []
frees_checked flat q n v [] = refl
frees_checked flat q n v (x ∷ xs) = frees_checked flat q n (v + 1) xs

one_checked : (flat : Limited) (q : FlatProc) (cur : Cur) (at v n : ℕ) (cmd : FlatCmd) → checks_at n (items_of flat q cur at v cmd) ≡ asserts_at n at (cmd ∷ [])
one_checked flat q cur at v n (Assign pairs) = lets_checked n v cur pairs
one_checked flat q cur at v n (Havoc xs) = frees_checked flat q n v xs
one_checked flat q cur at v n (Assume e) = refl
one_checked flat q cur at v n (Assert p i e) = refl
one_checked flat q cur at v n (Call p args outs) = refl

asserts_push : (n at : ℕ) (cmd : FlatCmd) (cmds : List FlatCmd) → asserts_at n at (cmd ∷ []) ++ asserts_at n (at + 1) cmds ≡ asserts_at n at (cmd ∷ cmds)
asserts_push n at (Assign pairs) cmds = refl
asserts_push n at (Havoc xs) cmds = refl
asserts_push n at (Assume e) cmds = refl
asserts_push n at (Assert p i e) cmds = refl
asserts_push n at (Call p args outs) cmds = refl

all_checked : (flat : Limited) (q : FlatProc) (cur : Cur) (at v n : ℕ) (cmds : List FlatCmd) → checks_at n (items_all flat q cur at v cmds) ≡ asserts_at n at cmds
all_checked flat q cur at v n [] = refl
all_checked flat q cur at v n (cmd ∷ cmds) =
    let rest = items_all flat q (cur_after flat cur v cmd) (at + 1) (next_after flat v cmd) cmds in
    checks_append n (items_of flat q cur at v cmd) rest ∙ ap (λ r. r ++ checks_at n rest) (one_checked flat q cur at v n cmd)
    ∙ ap (λ r. asserts_at n at (cmd ∷ []) ++ r) (all_checked flat q (cur_after flat cur v cmd) (at + 1) (next_after flat v cmd) n cmds) ∙ asserts_push n at cmd cmds

-- the asserts of the blocks in an order
pub order_checked : (flat : Limited) (q : FlatProc) (order : List ℕ) → blocks_checked (passive_blocks flat q order) ≡ asserts_laid q order
order_checked flat q [] = refl
order_checked flat q (n ∷ order) =
    ap (λ r. r ++ blocks_checked (passive_blocks flat q order)) (all_checked flat q (entry_cur flat q) 0 (entry_count flat q) n (block_at q n).cmds) ∙ ap (λ r. asserts_at n 0 (block_at q n).cmds ++ r) (order_checked flat q order)

free_checked : (n v : ℕ) (ss : List Sort) → checks_at n (free_items v ss) ≡ []
free_checked n v [] = refl
free_checked n v (s ∷ ss) = free_checked n (v + 1) ss

zero_checked : (n v : ℕ) (ss : List Sort) → checks_at n (zero_items v ss) ≡ []
zero_checked n v [] = refl
zero_checked n v (s ∷ ss) = zero_checked n (v + 1) ss

-- nothing is asserted as the procedure begins
pub start_checked : (flat : Limited) (q : FlatProc) (kind : FlatKind) (n : ℕ) → checks_at n (passive_start flat q kind).items ≡ []
start_checked flat q (Source p) n = free_checked n (length flat.globals + length q.ins) (q.outs ++ q.locals)
start_checked flat q (Loop p head) n = zero_checked n (length flat.globals + length q.ins) (exit_sort ∷ q.locals)

pub none_checked : (fs : List FailTerm) → map assert_place fs ≡ [] → fs ≡ []
none_checked [] h = refl
none_checked (f ∷ fs) h = cc
