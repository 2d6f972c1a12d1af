-- The passive form of commands, blocks and procedures.
use Rattle.std.specs.Prelude.{◌≡◌, ℕ, zero, suc, ◌+◌, Bool, true, false, List, [], ◌∷◌, ◌++◌, map, length, slice_get, slice_set, Option, None, Some}
use Rattle.hy_val.specs.Laws.{renamed}
use Rattle.hy_val.specs.declared.sort.ScalarKind.TheVariants.{Bool as BoolSort}
use Rattle.hy_val.specs.declared.sort.Sort.{Sort}
use Rattle.hy_val.specs.declared.sort.SortKind.TheVariants.{Scalar as ScalarSort}
use Rattle.hy_val.specs.declared.expr.Var.{Var}
use Rattle.hy_val.specs.declared.expr.Var.TheVariants.{Const, Global, Local}
use Rattle.hy_val.specs.declared.expr.ExprNode.{ExprNode}
use Rattle.flat_prog.specs.declared.block.FlatCmd.{FlatCmd}
use Rattle.flat_prog.specs.declared.block.FlatCmd.TheVariants.{Assign, Havoc, Assume, Assert, Call}
use Rattle.flat_prog.specs.declared.block.FlatNext.{FlatNext}
use Rattle.flat_prog.specs.declared.block.FlatNext.TheVariants.{Goto, Return}
use Rattle.flat_prog.specs.declared.block.FlatBlock.{FlatBlock}
use Rattle.flat_prog.specs.declared.proc.FlatKind.{FlatKind}
use Rattle.flat_prog.specs.declared.proc.FlatKind.TheVariants.{Source, Loop}
use Rattle.flat_prog.specs.declared.proc.FlatProc.{FlatProc}
use Rattle.passive_form.specs.Limited.{Limited}
use Rattle.flat_prog.specs.Limits.{row}
use Rattle.passive_form.specs.Local.{sort_of, targets_of, changed_sorts, replaced}
use Rattle.flat_prog.specs.Program.{outs_at, variables_of}
use Rattle.flat_prog.specs.Shape.{exit_sort}
use Rattle.passive_form.specs.declared.Item.{Item}
use Rattle.passive_form.specs.declared.Item.TheVariants.{Let, Zero, Free, Need, Check, Site}
use Rattle.passive_form.specs.declared.PassiveBlock.{PassiveBlock}
use Rattle.passive_form.specs.declared.PassiveStart.{PassiveStart}
use Rattle.passive_form.specs.declared.Passive.{Passive}
use Rattle.passive_form.specs.Versions.{Cur, from}

-- a variable by its version; one that isn't there stays a global, of which there are none
abbrev pub version_or : Var → Option ℕ → Var
version_or x None = Global 0
version_or x (Some v) = Local v

abbrev pub version_of : Cur → Var → Var
version_of cur (Const n) = Const n
version_of cur (Global n) = version_or (Global n) (slice_get cur.globals n)
version_of cur (Local n) = version_or (Local n) (slice_get cur.locals n)

-- the expression over versions
abbrev pub over_versions : Cur → List ExprNode → List ExprNode
over_versions cur e = map (renamed (version_of cur)) e

abbrev pub set_version : Cur → Var → ℕ → Cur
set_version cur (Const n) v = cur
set_version cur (Global n) v = record { globals = slice_set cur.globals n v; locals = cur.locals }
set_version cur (Local n) v = record { globals = cur.globals; locals = slice_set cur.locals n v }

-- new versions from k on, one for each of the second list
abbrev pub set_versions : {A : Type 0} → Cur → List Var → List A → ℕ → Cur
set_versions cur [] ys k = cur
set_versions cur (x ∷ xs) [] k = cur
set_versions cur (x ∷ xs) (y ∷ ys) k = set_versions (set_version cur x k) xs ys (k + 1)

abbrev pub lets : Cur → ℕ → List (Var × List ExprNode) → List Item
lets cur k [] = []
lets cur k (pair ∷ pairs) = Let k (over_versions cur pair.1) ∷ lets cur (k + 1) pairs

abbrev pub sort_or : Option Sort → Sort
sort_or None = ScalarSort BoolSort
sort_or (Some s) = s

abbrev pub frees : Limited → FlatProc → ℕ → List Var → List Item
frees flat q k [] = []
frees flat q k (x ∷ xs) = Free k (sort_or (sort_of flat q x)) ∷ frees flat q (k + 1) xs

abbrev pub callee_outs : Limited → ℕ → List Sort
callee_outs flat p = outs_at (slice_get flat.procs p)

abbrev pub callee_changes : Limited → ℕ → List Bool
callee_changes flat p = row flat.changes p

-- the items of the command at this position, where its versions are numbered from k on
abbrev pub items_of : Limited → FlatProc → Cur → (position k : ℕ) → FlatCmd → List Item
items_of flat q cur position k (Assign pairs) = lets cur k pairs
items_of flat q cur position k (Havoc xs) = frees flat q k xs
items_of flat q cur position k (Assume e) = Need (over_versions cur e) ∷ []
items_of flat q cur position k (Assert p n e) = Check position (over_versions cur e) ∷ []
items_of flat q cur position k (Call p args outs) = Site p k (map (over_versions cur) args) cur.globals (callee_outs flat p) (callee_changes flat p) (changed_sorts flat p) ∷ []

abbrev pub cur_after : Limited → Cur → ℕ → FlatCmd → Cur
cur_after flat cur k (Assign pairs) = set_versions cur (targets_of pairs) pairs k
cur_after flat cur k (Havoc xs) = set_versions cur xs xs k
cur_after flat cur k (Assume e) = cur
cur_after flat cur k (Assert p n e) = cur
cur_after flat cur k (Call p args outs) =
    set_versions (record { globals = replaced (callee_changes flat p) cur.globals (from (k + 1 + length (callee_outs flat p)) (changed_sorts flat p)); locals = cur.locals }) outs (callee_outs flat p) (k + 1)

abbrev pub next_after : Limited → ℕ → FlatCmd → ℕ
next_after flat k (Assign pairs) = k + length pairs
next_after flat k (Havoc xs) = k + length xs
next_after flat k (Assume e) = k
next_after flat k (Assert p n e) = k
next_after flat k (Call p args outs) = k + 1 + length (callee_outs flat p) + length (changed_sorts flat p)

abbrev pub items_all : Limited → FlatProc → Cur → (position k : ℕ) → List FlatCmd → List Item
items_all flat q cur position k [] = []
items_all flat q cur position k (c ∷ cs) = items_of flat q cur position k c ++ items_all flat q (cur_after flat cur k c) (position + 1) (next_after flat k c) cs

abbrev pub cur_end : Limited → Cur → ℕ → List FlatCmd → Cur
cur_end flat cur k [] = cur
cur_end flat cur k (c ∷ cs) = cur_end flat (cur_after flat cur k c) (next_after flat k c) cs

-- ---- blocks and procedures

-- the versions with which a block is entered
abbrev pub entry_cur : Limited → FlatProc → Cur
entry_cur flat q = record { globals = from 0 flat.globals; locals = from (length flat.globals) (variables_of q) }

abbrev pub entry_count : Limited → FlatProc → ℕ
entry_count flat q = length flat.globals + length (variables_of q)

abbrev pub no_block : FlatBlock
no_block = record { cmds = []; next = Return }

abbrev pub block_or : Option FlatBlock → FlatBlock
block_or None = no_block
block_or (Some b) = b

abbrev pub passive_block : Limited → FlatProc → ℕ → FlatBlock → PassiveBlock
passive_block flat q n b =
    let leave = cur_end flat (entry_cur flat q) (entry_count flat q) b.cmds in
    record { number = n; items = items_all flat q (entry_cur flat q) 0 (entry_count flat q) b.cmds; globals = leave.globals; locals = leave.locals; next = b.next }

abbrev pub passive_blocks : Limited → FlatProc → List ℕ → List PassiveBlock
passive_blocks flat q [] = []
passive_blocks flat q (n ∷ ns) = passive_block flat q n (block_or (slice_get q.blocks n)) ∷ passive_blocks flat q ns

abbrev pub free_items : ℕ → List Sort → List Item
free_items k [] = []
free_items k (s ∷ ss) = Free k s ∷ free_items (k + 1) ss

abbrev pub zero_items : ℕ → List Sort → List Item
zero_items k [] = []
zero_items k (s ∷ ss) = Zero k s ∷ zero_items (k + 1) ss

-- a source procedure takes its outs and locals; in a loop procedure the outs begin as the ins, the exit as 0 and the locals as zeros
abbrev pub passive_start : Limited → FlatProc → FlatKind → PassiveStart
passive_start flat q (Source p) =
    let k = length flat.globals in
    record {
      items = free_items (k + length q.ins) (q.outs ++ q.locals);
      globals = from 0 flat.globals;
      locals = from k q.ins ++ from (k + length q.ins) (q.outs ++ q.locals);
    }
passive_start flat q (Loop p head) =
    let k = length flat.globals in
    record {
      items = zero_items (k + length q.ins) (exit_sort ∷ q.locals);
      globals = from 0 flat.globals;
      locals = from k q.ins ++ (from k q.ins ++ from (k + length q.ins) (exit_sort ∷ q.locals));
    }

abbrev pub passive_of : Limited → FlatProc → List ℕ → Passive
passive_of flat q order = record {
  consts = flat.consts;
  globals = flat.globals;
  ins = q.ins;
  outs = q.outs;
  locals = variables_of q;
  start = passive_start flat q q.kind;
  blocks = passive_blocks flat q order;
}
