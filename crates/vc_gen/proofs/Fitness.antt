-- The passive form of a procedure whose variables and commands have their sorts is one that becomes terms.
use Rattle.std.proofs.Common.{◌≡◌, ℕ, zero, suc, ◌+◌, Bool, true, false, List, [], ◌∷◌, ◌++◌, map, length, ◌-◌, arith, sym, ◌∙◌, ap, refl, subst, append-nil, append_assoc, length-append}
use Rattle.std.specs.Prelude.{Option, None, Some, slice_get, slice_set, is_some, IsTrue, IsSome}
use Rattle.std.specs.Option.{option_and_then}
use Rattle.std.proofs.lemmas.List.{length-map}
use Rattle.hy_val.specs.Building.{whole_sort, sorts_of}
use Rattle.hy_val.specs.NodeSorts.{is_sort}
use Rattle.hy_val.specs.Values.{default}
use Rattle.hy_val.specs.Laws.{renamed}
use Rattle.hy_val.specs.declared.sort.Sort.{Sort}
use Rattle.hy_val.specs.declared.expr.Var.{Var}
use Rattle.hy_val.specs.declared.expr.Var.TheVariants.{Const, Global, Local}
use Rattle.hy_val.specs.declared.expr.ExprNode.{ExprNode}
use Rattle.hy_val.specs.declared.expr.ExprNode.TheVariants.{Lit, Var as Read, Unary, Binary, If, Select, Store}
use Rattle.hy_val.proofs.Lawful.{renaming}
use Rattle.flat_prog.specs.declared.block.FlatCmd.{FlatCmd}
use Rattle.flat_prog.specs.declared.block.FlatCmd.TheVariants.{Assign, Havoc, Assume, Assert, Call}
use Rattle.flat_prog.specs.declared.block.FlatNext.{FlatNext}
use Rattle.flat_prog.specs.declared.block.FlatNext.TheVariants.{Goto, Return}
use Rattle.flat_prog.specs.declared.block.FlatBlock.{FlatBlock}
use Rattle.flat_prog.specs.declared.proc.FlatKind.{FlatKind}
use Rattle.flat_prog.specs.declared.proc.FlatKind.TheVariants.{Source, Loop}
use Rattle.flat_prog.specs.declared.proc.FlatProc.{FlatProc}
use Rattle.passive_form.specs.Limited.{Limited}
use Rattle.passive_form.specs.Local.{sort_of, targets_of, picked, replaced, changed_sorts}
use Rattle.flat_prog.specs.Program.{variables_of}
use Rattle.flat_prog.specs.Shape.{exit_sort}
use Rattle.passive_form.specs.WellSorted.{var_sort, ReadsSorted, AllSorted, PairsSorted, NamesSorted, TargetsHave, SortsGood, CmdSorted, CmdsSorted, LeadsOn, KindSorted, ProcSorted}
use Rattle.passive_form.specs.declared.Item.{Item}
use Rattle.passive_form.specs.Versions.{Cur, from}
use Rattle.passive_form.specs.Making.{version_or, version_of, over_versions, set_version, set_versions, lets, sort_or, frees, callee_outs, callee_changes, items_of, cur_after, next_after, items_all, cur_end, entry_cur, entry_count, block_or, no_block, passive_block, passive_blocks, free_items, zero_items, passive_start, passive_of}
use Rattle.passive_form.specs.Laws.{targets_there, cmd_there, cmds_there}
use Rattle.vc_gen.specs.Items.{bool_sort, made_by, made, sort_in, ReadsIn, AllRead, AllThere, AreSorts, ItemsFit}
use Rattle.vc_gen.specs.Fitting.{SortsAre, HasTarget, BlockFits, AllFit, PassiveFits}
use Rattle.vc_gen.proofs.Joining.{and_two}

-- ---- versions and their sorts

get_front : (xs ys : List Sort) (v : ℕ) (s : Sort) → slice_get xs v ≡ Some s → slice_get (xs ++ ys) v ≡ Some s
get_front [] ys v s h = cc
get_front (x ∷ xs) ys zero s h = h
get_front (x ∷ xs) ys (suc v) s h = get_front xs ys v s h

get_seam : (pre : List Sort) (s : Sort) (post : List Sort) (k : ℕ) → length pre ≡ k → slice_get (pre ++ s ∷ post) k ≡ Some s
get_seam [] s post zero h = refl
get_seam [] s post (suc k) h = absurd (omega (arith, h))
get_seam (x ∷ pre) s post zero h = absurd (omega (arith, h))
get_seam (x ∷ pre) s post (suc k) h = get_seam pre s post k (omega (arith, h))

sorts_more : (vsorts more : List Sort) (vs : List ℕ) (ss : List Sort) → SortsAre vsorts vs ss → SortsAre (vsorts ++ more) vs ss
sorts_more vsorts more [] [] h = tt
sorts_more vsorts more [] (s ∷ ss) h = absurd h
sorts_more vsorts more (v ∷ vs) [] h = absurd h
sorts_more vsorts more (v ∷ vs) (s ∷ ss) (h, hs) = (get_front vsorts more v s h, sorts_more vsorts more vs ss hs)

pub sorts_from : (vsorts pre xs post : List Sort) (k : ℕ) → vsorts ≡ pre ++ (xs ++ post) → length pre ≡ k → SortsAre vsorts (from k xs) xs
sorts_from vsorts pre [] post k is n = tt
sorts_from vsorts pre (x ∷ xs) post k is n = (
  ap (λ vs. slice_get vs k) is ∙ get_seam pre x (xs ++ post) k n,
  sorts_from vsorts (pre ++ x ∷ []) xs post (k + 1) (is ∙ sym (append_assoc pre (x ∷ []) (xs ++ post))) (omega (arith, length-append pre (x ∷ []), n)),
)

sorts_both : (vsorts : List Sort) (vs ws : List ℕ) (ss rs : List Sort) → SortsAre vsorts vs ss → SortsAre vsorts ws rs → SortsAre vsorts (vs ++ ws) (ss ++ rs)
sorts_both vsorts [] ws [] rs h k = k
sorts_both vsorts [] ws (s ∷ ss) rs h k = absurd h
sorts_both vsorts (v ∷ vs) ws [] rs h k = absurd h
sorts_both vsorts (v ∷ vs) ws (s ∷ ss) rs (h, hs) k = (h, sorts_both vsorts vs ws ss rs hs k)

sorts_set : (vsorts : List Sort) (vs : List ℕ) (ss : List Sort) (n v : ℕ) (s : Sort) → SortsAre vsorts vs ss → slice_get ss n ≡ Some s → slice_get vsorts v ≡ Some s → SortsAre vsorts (slice_set vs n v) ss
sorts_set vsorts [] [] n v s h g k = tt
sorts_set vsorts [] (t ∷ ss) n v s h g k = absurd h
sorts_set vsorts (w ∷ vs) [] n v s h g k = absurd h
sorts_set vsorts (w ∷ vs) (t ∷ ss) zero v s (h, hs) g k = (k ∙ sym g, hs)
sorts_set vsorts (w ∷ vs) (t ∷ ss) (suc n) v s (h, hs) g k = (h, sorts_set vsorts vs ss n v s hs g k)

sorts_replaced : (vsorts : List Sort) (ms : List Bool) (vs ws : List ℕ) (ss : List Sort) → SortsAre vsorts vs ss → SortsAre vsorts ws (picked ms ss) → SortsAre vsorts (replaced ms vs ws) ss
sorts_replaced vsorts [] vs ws ss h k = h
sorts_replaced vsorts (m ∷ ms) [] ws ss h k = h
sorts_replaced vsorts (m ∷ ms) (v ∷ vs) ws [] h k = absurd h
sorts_replaced vsorts (true ∷ ms) (v ∷ vs) [] (s ∷ ss) h k = h
sorts_replaced vsorts (true ∷ ms) (v ∷ vs) (w ∷ ws) (s ∷ ss) (h, hs) (k, ks) = (k, sorts_replaced vsorts ms vs ws ss hs ks)
sorts_replaced vsorts (false ∷ ms) (v ∷ vs) ws (s ∷ ss) (h, hs) k = (h, sorts_replaced vsorts ms vs ws ss hs k)

good_picked : (ms : List Bool) (ss : List Sort) → SortsGood ss → SortsGood (picked ms ss)
good_picked [] ss h = tt
good_picked (m ∷ ms) [] h = tt
good_picked (true ∷ ms) (s ∷ ss) (h, hs) = (h, good_picked ms ss hs)
good_picked (false ∷ ms) (s ∷ ss) (h, hs) = good_picked ms ss hs

-- the version of a variable is there, and has its sort
got : (vsorts : List Sort) (vs : List ℕ) (ss : List Sort) (n : ℕ) (s : Sort) → SortsAre vsorts vs ss → slice_get ss n ≡ Some s → (v : ℕ) × (slice_get vs n ≡ Some v) × (slice_get vsorts v ≡ Some s)
got vsorts [] [] n s h g = cc
got vsorts [] (t ∷ ss) n s h g = absurd h
got vsorts (w ∷ vs) [] n s h g = absurd h
got vsorts (w ∷ vs) (t ∷ ss) zero s (h, hs) g = (w, refl, h ∙ g)
got vsorts (w ∷ vs) (t ∷ ss) (suc n) s (h, hs) g = got vsorts vs ss n s hs g

all_there : (vsorts : List Sort) (vs : List ℕ) (ss : List Sort) → SortsAre vsorts vs ss → AllThere vsorts vs
all_there vsorts [] [] h = tt
all_there vsorts [] (s ∷ ss) h = absurd h
all_there vsorts (v ∷ vs) [] h = absurd h
all_there vsorts (v ∷ vs) (s ∷ ss) (h, hs) = (some (slice_get vsorts v) h, all_there vsorts vs ss hs)
  where
    some : (o : Option Sort) → o ≡ Some s → IsSome o
    some o e = subst (λ (x : Option Sort). IsSome x) (sym e) refl

-- the versions have the variables' sorts
pub record CurFits (flat : Limited) (q : FlatProc) (vsorts : List Sort) (cur : Cur) : Type 0 where
  pub globals : SortsAre vsorts cur.globals flat.globals
  pub locals : SortsAre vsorts cur.locals (variables_of q)

cur_more : (flat : Limited) (q : FlatProc) (vsorts more : List Sort) (cur : Cur) → CurFits flat q vsorts cur → CurFits flat q (vsorts ++ more) cur
cur_more flat q vsorts more cur h = record { globals = sorts_more vsorts more cur.globals flat.globals h.globals; locals = sorts_more vsorts more cur.locals (variables_of q) h.locals }

local_sort : (q : FlatProc) (n : ℕ) → slice_get (q.ins ++ q.outs ++ q.locals) n ≡ slice_get (variables_of q) n
local_sort q n = ap (λ (ss : List Sort). slice_get ss n) (append_assoc q.ins q.outs q.locals)

cur_set : (flat : Limited) (q : FlatProc) (vsorts : List Sort) (cur : Cur) (x : Var) (v : ℕ) (s : Sort) → CurFits flat q vsorts cur → sort_of flat q x ≡ Some s → slice_get vsorts v ≡ Some s → CurFits flat q vsorts (set_version cur x v)
cur_set flat q vsorts cur (Const n) v s h g k = h
cur_set flat q vsorts cur (Global n) v s h g k = record { globals = sorts_set vsorts cur.globals flat.globals n v s h.globals g k; locals = h.locals }
cur_set flat q vsorts cur (Local n) v s h g k = record { globals = h.globals; locals = sorts_set vsorts cur.locals (variables_of q) n v s h.locals (sym (local_sort q n) ∙ g) k }

cur_sets : {A : Type 0} (flat : Limited) (q : FlatProc) (vsorts pre ss post : List Sort) (cur : Cur) (xs : List Var) (ys : List A) (k : ℕ) → CurFits flat q vsorts cur → TargetsHave flat q xs ss → vsorts ≡ pre ++ (ss ++ post) → length pre ≡ k →
    CurFits flat q vsorts (set_versions cur xs ys k)
cur_sets flat q vsorts pre ss post cur [] ys k h t is n = h
cur_sets flat q vsorts pre ss post cur (x ∷ xs) [] k h t is n = h
cur_sets flat q vsorts pre [] post cur (x ∷ xs) (y ∷ ys) k h t is n = absurd t
cur_sets flat q vsorts pre (s ∷ ss) post cur (x ∷ xs) (y ∷ ys) k h (t, ts) is n =
    cur_sets flat q vsorts (pre ++ s ∷ []) ss post (set_version cur x k) xs ys (k + 1)
    (cur_set flat q vsorts cur x k s h t (ap (λ vs. slice_get vs k) is ∙ get_seam pre s (ss ++ post) k n)) ts
    (is ∙ sym (append_assoc pre (s ∷ []) (ss ++ post))) (omega (arith, length-append pre (s ∷ []), n))

-- ---- expressions

read_in : (flat : Limited) (q : FlatProc) (vsorts : List Sort) (cur : Cur) (x : Var) (s : Sort) → CurFits flat q vsorts cur → var_sort flat q x ≡ Some s → sort_in flat.consts vsorts (version_of cur x) ≡ Some s
read_in flat q vsorts cur (Const n) s h g = g
read_in flat q vsorts cur (Global n) s h g =
    let r = got vsorts cur.globals flat.globals n s h.globals g in
    ap (λ (o : Option ℕ). sort_in flat.consts vsorts (version_or (Global n) o)) r.1 ∙ r.2
read_in flat q vsorts cur (Local n) s h g =
    let r = got vsorts cur.locals (variables_of q) n s h.locals (sym (local_sort q n) ∙ g) in
    ap (λ (o : Option ℕ). sort_in flat.consts vsorts (version_or (Local n) o)) r.1 ∙ r.2

pub reads_in : (flat : Limited) (q : FlatProc) (vsorts : List Sort) (cur : Cur) (e : List ExprNode) → CurFits flat q vsorts cur → ReadsSorted flat q e → ReadsIn flat.consts vsorts (over_versions cur e)
reads_in flat q vsorts cur [] h r = tt
reads_in flat q vsorts cur (Lit a ∷ e) h r = reads_in flat q vsorts cur e h r
reads_in flat q vsorts cur (Read x s ∷ e) h (r, rs) = (read_in flat q vsorts cur x s h r, reads_in flat q vsorts cur e h rs)
reads_in flat q vsorts cur (Unary op c ∷ e) h r = reads_in flat q vsorts cur e h r
reads_in flat q vsorts cur (Binary op l m ∷ e) h r = reads_in flat q vsorts cur e h r
reads_in flat q vsorts cur (If c y n ∷ e) h r = reads_in flat q vsorts cur e h r
reads_in flat q vsorts cur (Select m i ∷ e) h r = reads_in flat q vsorts cur e h r
reads_in flat q vsorts cur (Store m i v ∷ e) h r = reads_in flat q vsorts cur e h r

all_read : (flat : Limited) (q : FlatProc) (vsorts : List Sort) (cur : Cur) (es : List (List ExprNode)) → CurFits flat q vsorts cur → AllSorted flat q es → AllRead flat.consts vsorts (map (over_versions cur) es)
all_read flat q vsorts cur [] h r = tt
all_read flat q vsorts cur (e ∷ es) h (r, rs) = (reads_in flat q vsorts cur e h r, all_read flat q vsorts cur es h rs)

pub whole_same : (cur : Cur) (e : List ExprNode) → whole_sort (over_versions cur e) ≡ whole_sort e
whole_same cur e =
    let k = renaming (version_of cur) (λ x. default None) e in
    ap (λ o. option_and_then (λ (ss : List Sort). slice_get ss (length (map (renamed (version_of cur)) e) - 1)) o) k.sorts
    ∙ ap (λ n. option_and_then (λ (ss : List Sort). slice_get ss (n - 1)) (sorts_of e)) (length-map e (renamed (version_of cur)))

-- ---- items

good_sorts : (ss : List Sort) → SortsGood ss → AreSorts ss
good_sorts [] h = tt
good_sorts (s ∷ ss) (h, hs) = (h, good_sorts ss hs)

sorts_append : (ss rs : List Sort) → AreSorts ss → AreSorts rs → AreSorts (ss ++ rs)
sorts_append [] rs h k = k
sorts_append (s ∷ ss) rs (h, hs) k = (h, sorts_append ss rs hs k)

pub fit_append : (csorts vsorts : List Sort) (xs ys : List Item) → ItemsFit csorts vsorts xs → ItemsFit csorts (vsorts ++ made xs) ys → ItemsFit csorts vsorts (xs ++ ys)
fit_append csorts vsorts [] ys h k = subst (λ (ss : List Sort). ItemsFit csorts ss ys) (append-nil vsorts) k
fit_append csorts vsorts (x ∷ xs) ys (h, hs) k =
    (h, fit_append csorts (vsorts ++ made_by x) xs ys hs (subst (λ (ss : List Sort). ItemsFit csorts ss ys) (sym (append_assoc vsorts (made_by x) (made xs))) k))

-- the sorts of the targets
abbrev pair_sorts : List (Var × List ExprNode) → List Sort
pair_sorts [] = []
pair_sorts (pair ∷ pairs) = sort_or (whole_sort pair.1) ∷ pair_sorts pairs

abbrev name_sorts : Limited → FlatProc → List Var → List Sort
name_sorts flat q [] = []
name_sorts flat q (x ∷ xs) = sort_or (sort_of flat q x) ∷ name_sorts flat q xs

lets_made : (cur : Cur) (k : ℕ) (pairs : List (Var × List ExprNode)) → made (lets cur k pairs) ≡ pair_sorts pairs
lets_made cur k [] = refl
lets_made cur k (pair ∷ pairs) = ap (λ s. sort_or s ∷ made (lets cur (k + 1) pairs)) (whole_same cur pair.1) ∙ ap (λ r. sort_or (whole_sort pair.1) ∷ r) (lets_made cur (k + 1) pairs)

frees_made : (flat : Limited) (q : FlatProc) (k : ℕ) (xs : List Var) → made (frees flat q k xs) ≡ name_sorts flat q xs
frees_made flat q k [] = refl
frees_made flat q k (x ∷ xs) = ap (λ r. sort_or (sort_of flat q x) ∷ r) (frees_made flat q (k + 1) xs)

pair_count : (pairs : List (Var × List ExprNode)) → length (pair_sorts pairs) ≡ length pairs
pair_count [] = refl
pair_count (pair ∷ pairs) = ap suc (pair_count pairs)

name_count : (flat : Limited) (q : FlatProc) (xs : List Var) → length (name_sorts flat q xs) ≡ length xs
name_count flat q [] = refl
name_count flat q (x ∷ xs) = ap suc (name_count flat q xs)

pair_targets : (flat : Limited) (q : FlatProc) (pairs : List (Var × List ExprNode)) → PairsSorted flat q pairs → TargetsHave flat q (targets_of pairs) (pair_sorts pairs)
pair_targets flat q [] h = tt
pair_targets flat q (pair ∷ pairs) ((s, x, w, r), hs) = (x ∙ ap {B = Option Sort} (λ o. Some (sort_or o)) (sym w), pair_targets flat q pairs hs)

name_targets : (flat : Limited) (q : FlatProc) (xs : List Var) → NamesSorted flat q xs → TargetsHave flat q xs (name_sorts flat q xs)
name_targets flat q [] h = tt
name_targets flat q (x ∷ xs) ((s, e, g), hs) = (e ∙ ap {B = Option Sort} (λ o. Some (sort_or o)) (sym e), name_targets flat q xs hs)

pushed_count : (vsorts : List Sort) (s : Sort) (k : ℕ) → k ≡ length vsorts → k + 1 ≡ length (vsorts ++ s ∷ [])
pushed_count vsorts s k h = omega (arith, length-append vsorts (s ∷ []), h)

lets_fit : (flat : Limited) (q : FlatProc) (vsorts : List Sort) (cur : Cur) (k : ℕ) (pairs : List (Var × List ExprNode)) → CurFits flat q vsorts cur → k ≡ length vsorts → PairsSorted flat q pairs → ItemsFit flat.consts vsorts (lets cur k pairs)
lets_fit flat q vsorts cur k [] h n p = tt
lets_fit flat q vsorts cur k (pair ∷ pairs) h n ((s, x, w, r), ps) =
    let t = sort_or (whole_sort (over_versions cur pair.1)) in
    ((n, reads_in flat q vsorts cur pair.1 h r), lets_fit flat q (vsorts ++ t ∷ []) cur (k + 1) pairs (cur_more flat q vsorts (t ∷ []) cur h) (pushed_count vsorts t k n) ps)

frees_fit : (flat : Limited) (q : FlatProc) (vsorts : List Sort) (k : ℕ) (xs : List Var) → k ≡ length vsorts → NamesSorted flat q xs → ItemsFit flat.consts vsorts (frees flat q k xs)
frees_fit flat q vsorts k [] n p = tt
frees_fit flat q vsorts k (x ∷ xs) n ((s, e, g), ps) =
    let t = sort_or (sort_of flat q x) in
    ((n, subst (λ (o : Option Sort). IsTrue (is_sort (sort_or o))) (sym e) g), frees_fit flat q (vsorts ++ t ∷ []) (k + 1) xs (pushed_count vsorts t k n) ps)

-- what holds behind the items of a command
pub record Fine (flat : Limited) (q : FlatProc) (vsorts : List Sort) (items : List Item) (cur : Cur) (next : ℕ) : Type 0 where
  pub fit : ItemsFit flat.consts vsorts items
  pub cur_fits : CurFits flat q (vsorts ++ made items) cur
  pub count : next ≡ length (vsorts ++ made items)

pub cmd_fine : (flat : Limited) (q : FlatProc) (vsorts : List Sort) (cur : Cur) (at k : ℕ) (c : FlatCmd) → SortsGood flat.globals → CurFits flat q vsorts cur → k ≡ length vsorts → CmdSorted flat q c →
    Fine flat q vsorts (items_of flat q cur at k c) (cur_after flat cur k c) (next_after flat k c)
cmd_fine flat q vsorts cur at k (Assign pairs) g h n p =
    let items = lets cur k pairs in
    let row : vsorts ++ made items ≡ vsorts ++ (pair_sorts pairs ++ []) = ap (λ r. vsorts ++ r) (lets_made cur k pairs ∙ sym (append-nil (pair_sorts pairs))) in
    record {
      fit = lets_fit flat q vsorts cur k pairs h n p;
      cur_fits = cur_sets flat q (vsorts ++ made items) vsorts (pair_sorts pairs) [] cur (targets_of pairs) pairs k (cur_more flat q vsorts (made items) cur h) (pair_targets flat q pairs p) row (sym n);
      count = omega (arith, n, length-append vsorts (made items), ap length (lets_made cur k pairs), pair_count pairs);
    }
cmd_fine flat q vsorts cur at k (Havoc xs) g h n p =
    let items = frees flat q k xs in
    let row : vsorts ++ made items ≡ vsorts ++ (name_sorts flat q xs ++ []) = ap (λ r. vsorts ++ r) (frees_made flat q k xs ∙ sym (append-nil (name_sorts flat q xs))) in
    record {
      fit = frees_fit flat q vsorts k xs n p;
      cur_fits = cur_sets flat q (vsorts ++ made items) vsorts (name_sorts flat q xs) [] cur xs xs k (cur_more flat q vsorts (made items) cur h) (name_targets flat q xs p) row (sym n);
      count = omega (arith, n, length-append vsorts (made items), ap length (frees_made flat q k xs), name_count flat q xs);
    }
cmd_fine flat q vsorts cur at k (Assume e) g h n (w, r) = record {
  fit = ((whole_same cur e ∙ w, reads_in flat q vsorts cur e h r), tt);
  cur_fits = cur_more flat q vsorts [] cur h;
  count = omega (arith, n, length-append vsorts []);
}
cmd_fine flat q vsorts cur at k (Assert p m e) g h n (w, r) = record {
  fit = ((whole_same cur e ∙ w, reads_in flat q vsorts cur e h r), tt);
  cur_fits = cur_more flat q vsorts [] cur h;
  count = omega (arith, n, length-append vsorts []);
}
cmd_fine flat q vsorts cur at k (Call p args outs) g h n (a, t, o, i) =
    let own = callee_outs flat p in
    let gs = changed_sorts flat p in
    let all = bool_sort ∷ (own ++ gs) in
    let vs = vsorts ++ (all ++ []) in
    let row : vs ≡ (vsorts ++ bool_sort ∷ []) ++ (own ++ gs) = ap (λ r. vsorts ++ r) (append-nil all) ∙ sym (append_assoc vsorts (bool_sort ∷ []) (own ++ gs)) in
    let n1 : length (vsorts ++ bool_sort ∷ []) ≡ k + 1 = omega (arith, length-append vsorts (bool_sort ∷ []), n) in
    let row2 : vs ≡ ((vsorts ++ bool_sort ∷ []) ++ own) ++ (gs ++ []) = row ∙ sym (append_assoc (vsorts ++ bool_sort ∷ []) own gs) ∙ ap (λ r. ((vsorts ++ bool_sort ∷ []) ++ own) ++ r) (sym (append-nil gs)) in
    let n2 : length ((vsorts ++ bool_sort ∷ []) ++ own) ≡ k + 1 + length own = omega (arith, length-append (vsorts ++ bool_sort ∷ []) own, n1) in
    let after : Cur = record { globals = replaced (callee_changes flat p) cur.globals (from (k + 1 + length own) gs); locals = cur.locals } in
    let after_fits : CurFits flat q vs after = record { globals = sorts_replaced vs (callee_changes flat p) cur.globals (from (k + 1 + length own) gs) flat.globals (sorts_more vsorts (all ++ []) cur.globals flat.globals h.globals) (sorts_from vs ((vsorts ++ bool_sort ∷ []) ++ own) gs [] (k + 1 + length own) row2 n2); locals = sorts_more vsorts (all ++ []) cur.locals (variables_of q) h.locals } in
    record {
      fit = ((n, all_read flat q vsorts cur args h a, all_there vsorts cur.globals flat.globals h.globals, sorts_append own gs (good_sorts own o) (good_sorts gs (good_picked (callee_changes flat p) flat.globals g))), tt);
      cur_fits = cur_sets flat q vs (vsorts ++ bool_sort ∷ []) own gs after outs own (k + 1) after_fits t row n1;
      count = omega (arith, n, length-append vsorts (all ++ []), length-append all [], length-append own gs);
    }

cmds_fine : (flat : Limited) (q : FlatProc) (vsorts : List Sort) (cur : Cur) (at k : ℕ) (cmds : List FlatCmd) → SortsGood flat.globals → CurFits flat q vsorts cur → k ≡ length vsorts → CmdsSorted flat q cmds →
    ItemsFit flat.consts vsorts (items_all flat q cur at k cmds) × CurFits flat q (vsorts ++ made (items_all flat q cur at k cmds)) (cur_end flat cur k cmds)
cmds_fine flat q vsorts cur at k [] g h n p = (tt, cur_more flat q vsorts [] cur h)
cmds_fine flat q vsorts cur at k (c ∷ cs) g h n (p, ps) =
    let xs = items_of flat q cur at k c in
    let r = cmd_fine flat q vsorts cur at k c g h n p in
    let next = cur_after flat cur k c in
    let ys = items_all flat q next (at + 1) (next_after flat k c) cs in
    let z = cmds_fine flat q (vsorts ++ made xs) next (at + 1) (next_after flat k c) cs g r.cur_fits r.count ps in (
      fit_append flat.consts vsorts xs ys r.fit z.0,
      subst (λ (ss : List Sort). CurFits flat q ss (cur_end flat next (next_after flat k c) cs)) (append_assoc vsorts (made xs) (made ys) ∙ ap (λ r. vsorts ++ r) (sym (made_append xs ys))) z.1,
    )
  where
    made_append : (xs ys : List Item) → made (xs ++ ys) ≡ made xs ++ made ys
    made_append [] ys = refl
    made_append (x ∷ xs) ys = ap (λ r. made_by x ++ r) (made_append xs ys) ∙ sym (append_assoc (made_by x) (made xs) (made ys))

-- ---- blocks

pub entry_fits : (flat : Limited) (q : FlatProc) → CurFits flat q (flat.globals ++ variables_of q) (entry_cur flat q)
entry_fits flat q = record {
  globals = sorts_from (flat.globals ++ variables_of q) [] flat.globals (variables_of q) 0 refl refl;
  locals = sorts_from (flat.globals ++ variables_of q) flat.globals (variables_of q) [] (length flat.globals) (ap (λ r. flat.globals ++ r) (sym (append-nil (variables_of q)))) refl;
}

has_target : (next : FlatNext) → LeadsOn next → HasTarget next
has_target Return h = tt
has_target (Goto ts) h = h

block_fits : (flat : Limited) (q : FlatProc) (n : ℕ) (b : FlatBlock) → SortsGood flat.globals → CmdsSorted flat q b.cmds → LeadsOn b.next → BlockFits flat.consts flat.globals (variables_of q) (passive_block flat q n b)
block_fits flat q n b g c l =
    let r = cmds_fine flat q (flat.globals ++ variables_of q) (entry_cur flat q) 0 (entry_count flat q) b.cmds g (entry_fits flat q) (sym (length-append flat.globals (variables_of q))) c in
    record { items = r.0; globals = r.1.globals; locals = r.1.locals; next = has_target b.next l }

blocks_fit : (flat : Limited) (q : FlatProc) (order : List ℕ) → ProcSorted flat q → AllFit flat.consts flat.globals (variables_of q) (passive_blocks flat q order)
blocks_fit flat q [] h = tt
blocks_fit flat q (n ∷ ns) h = (by (slice_get q.blocks n) refl, blocks_fit flat q ns h)
  where
    by : (o : Option FlatBlock) → slice_get q.blocks n ≡ o → BlockFits flat.consts flat.globals (variables_of q) (passive_block flat q n (block_or (slice_get q.blocks n)))
    by None e = subst (λ (o : Option FlatBlock). BlockFits flat.consts flat.globals (variables_of q) (passive_block flat q n (block_or o))) (sym e) (block_fits flat q n no_block h.globals tt tt)
    by (Some b) e =
        let r = h.blocks n b e in
        subst (λ (o : Option FlatBlock). BlockFits flat.consts flat.globals (variables_of q) (passive_block flat q n (block_or o))) (sym e) (block_fits flat q n b h.globals r.0 r.1)

-- ---- the start

free_made : (k : ℕ) (ss : List Sort) → made (free_items k ss) ≡ ss
free_made k [] = refl
free_made k (s ∷ ss) = ap (λ r. s ∷ r) (free_made (k + 1) ss)

zero_made : (k : ℕ) (ss : List Sort) → made (zero_items k ss) ≡ ss
zero_made k [] = refl
zero_made k (s ∷ ss) = ap (λ r. s ∷ r) (zero_made (k + 1) ss)

free_fit : (csorts vsorts : List Sort) (k : ℕ) (ss : List Sort) → k ≡ length vsorts → SortsGood ss → ItemsFit csorts vsorts (free_items k ss)
free_fit csorts vsorts k [] n g = tt
free_fit csorts vsorts k (s ∷ ss) n (g, gs) = ((n, g), free_fit csorts (vsorts ++ s ∷ []) (k + 1) ss (pushed_count vsorts s k n) gs)

zero_fit : (csorts vsorts : List Sort) (k : ℕ) (ss : List Sort) → k ≡ length vsorts → SortsGood ss → ItemsFit csorts vsorts (zero_items k ss)
zero_fit csorts vsorts k [] n g = tt
zero_fit csorts vsorts k (s ∷ ss) n (g, gs) = ((n, g), zero_fit csorts (vsorts ++ s ∷ []) (k + 1) ss (pushed_count vsorts s k n) gs)

good_append : (ss rs : List Sort) → SortsGood ss → SortsGood rs → SortsGood (ss ++ rs)
good_append [] rs h k = k
good_append (s ∷ ss) rs (h, hs) k = (h, good_append ss rs hs k)

record StartFine (flat : Limited) (q : FlatProc) (kind : FlatKind) : Type 0 where
  pub items : ItemsFit flat.consts (flat.globals ++ q.ins) (passive_start flat q kind).items
  pub globals : SortsAre ((flat.globals ++ q.ins) ++ made (passive_start flat q kind).items) (passive_start flat q kind).globals flat.globals
  pub locals : SortsAre ((flat.globals ++ q.ins) ++ made (passive_start flat q kind).items) (passive_start flat q kind).locals (variables_of q)

start_fine : (flat : Limited) (q : FlatProc) (kind : FlatKind) → SortsGood q.outs → SortsGood q.locals → KindSorted q kind → StartFine flat q kind
start_fine flat q (Source p) o l t =
    let k = length flat.globals + length q.ins in
    let ss = q.outs ++ q.locals in
    let items = free_items k ss in
    let n : k ≡ length (flat.globals ++ q.ins) = sym (length-append flat.globals q.ins) in
    let vs = (flat.globals ++ q.ins) ++ made items in
    let row : vs ≡ flat.globals ++ (q.ins ++ ss) = ap (λ r. (flat.globals ++ q.ins) ++ r) (free_made k ss) ∙ append_assoc flat.globals q.ins ss in
    let row2 : vs ≡ (flat.globals ++ q.ins) ++ (ss ++ []) = ap (λ r. (flat.globals ++ q.ins) ++ r) (free_made k ss ∙ sym (append-nil ss)) in
    record {
      items = free_fit flat.consts (flat.globals ++ q.ins) k ss n (good_append q.outs q.locals o l);
      globals = sorts_from vs [] flat.globals (q.ins ++ ss) 0 row refl;
      locals = sorts_both vs (from (length flat.globals) q.ins) (from k ss) q.ins ss (sorts_from vs flat.globals q.ins ss (length flat.globals) row refl) (sorts_from vs (flat.globals ++ q.ins) ss [] k row2 (sym n));
    }
start_fine flat q (Loop p head) o l t =
    let k = length flat.globals + length q.ins in
    let zs = exit_sort ∷ q.locals in
    let items = zero_items k zs in
    let n : k ≡ length (flat.globals ++ q.ins) = sym (length-append flat.globals q.ins) in
    let vs = (flat.globals ++ q.ins) ++ made items in
    let row : vs ≡ flat.globals ++ (q.ins ++ zs) = ap (λ r. (flat.globals ++ q.ins) ++ r) (zero_made k zs) ∙ append_assoc flat.globals q.ins zs in
    let row2 : vs ≡ (flat.globals ++ q.ins) ++ (zs ++ []) = ap (λ r. (flat.globals ++ q.ins) ++ r) (zero_made k zs ∙ sym (append-nil zs)) in
    let ins = from (length flat.globals) q.ins in
    let one = sorts_from vs flat.globals q.ins zs (length flat.globals) row refl in
    let all : q.ins ++ (q.ins ++ zs) ≡ variables_of q = ap (λ r. q.ins ++ r) (sym (append_assoc q.ins (exit_sort ∷ []) q.locals) ∙ ap (λ r. r ++ q.locals) (sym t)) in
    record {
      items = zero_fit flat.consts (flat.globals ++ q.ins) k zs n (refl, l);
      globals = sorts_from vs [] flat.globals (q.ins ++ zs) 0 row refl;
      locals = subst (λ (ss : List Sort). SortsAre vs (ins ++ (ins ++ from k zs)) ss) all
          (sorts_both vs ins (ins ++ from k zs) q.ins (q.ins ++ zs) one (sorts_both vs ins (from k zs) q.ins zs one (sorts_from vs (flat.globals ++ q.ins) zs [] k row2 (sym n))));
    }

pub passive_fits : (flat : Limited) (q : FlatProc) (order : List ℕ) → ProcSorted flat q → PassiveFits (passive_of flat q order)
passive_fits flat q order h =
    let s = start_fine flat q q.kind h.outs h.locals h.kind in
    record { start_items = s.items; start_globals = s.globals; start_locals = s.locals; blocks = blocks_fit flat q order h }

-- ---- what havocs name is there

names_there : (flat : Limited) (q : FlatProc) (xs : List Var) → NamesSorted flat q xs → targets_there flat q xs ≡ true
names_there flat q [] h = refl
names_there flat q (x ∷ xs) ((s, e, g), hs) = and_two (is_some (sort_of flat q x)) (targets_there flat q xs) (ap is_some e) (names_there flat q xs hs)

cmd_is_there : (flat : Limited) (q : FlatProc) (c : FlatCmd) → CmdSorted flat q c → cmd_there flat q c ≡ true
cmd_is_there flat q (Assign pairs) h = refl
cmd_is_there flat q (Havoc xs) h = names_there flat q xs h
cmd_is_there flat q (Assume e) h = refl
cmd_is_there flat q (Assert p n e) h = refl
cmd_is_there flat q (Call p args outs) h = refl

pub cmds_are_there : (flat : Limited) (q : FlatProc) (cs : List FlatCmd) → CmdsSorted flat q cs → cmds_there flat q cs ≡ true
cmds_are_there flat q [] h = refl
cmds_are_there flat q (c ∷ cs) (h, hs) = and_two (cmd_there flat q c) (cmds_there flat q cs) (cmd_is_there flat q c h) (cmds_are_there flat q cs hs)
