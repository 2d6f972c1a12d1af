-- Marks of procedures that spread from callees to callers, as tests over lists, and what they stand for.
use Rattle.std.specs.Prelude.{◌≡◌, ◌↔◌, ◌<◌, ℕ, suc, nat_eq, Bool, true, false, not, ◌&&◌, List, [], ◌∷◌, map, length, slice_get, slice_index_or, Option, None, Some, Contains}
use Rattle.std.specs.List.{list_any}
use Rattle.hy_val.specs.declared.expr.ExprNode.{ExprNode}
use Rattle.hy_val.specs.declared.expr.Var.{Var}
use Rattle.hy_val.specs.declared.expr.Var.TheVariants.{Const, Global, Local}
use Rattle.flat_prog.specs.Sites.{sites_of}
use Rattle.flat_prog.specs.declared.block.FlatBlock.{FlatBlock}
use Rattle.flat_prog.specs.declared.block.FlatCmd.{FlatCmd}
use Rattle.flat_prog.specs.declared.block.FlatCmd.TheVariants.{Assign, Havoc, Assume, Assert, Call}
use Rattle.flat_prog.specs.declared.proc.FlatProc.{FlatProc}

-- ---- what is written

abbrev pub is_global : ℕ → Var → Bool
is_global g (Const n) = false
is_global g (Global n) = nat_eq n g
is_global g (Local n) = false

abbrev pub cmd_writes : ℕ → FlatCmd → Bool
cmd_writes g (Assign pairs) = list_any (λ (p : Var × List ExprNode). is_global g p.0) pairs
cmd_writes g (Havoc xs) = list_any (is_global g) xs
cmd_writes g (Assume expr) = false
cmd_writes g (Assert proc number expr) = false
cmd_writes g (Call proc args outs) = list_any (is_global g) outs

abbrev pub block_writes : ℕ → FlatBlock → Bool
block_writes g b = list_any (cmd_writes g) b.cmds

abbrev pub proc_writes : ℕ → FlatProc → Bool
proc_writes g q = list_any (block_writes g) q.blocks

-- whom a procedure calls, at its sites in order
abbrev pub callees_of : FlatProc → List ℕ
callees_of q = sites_of q.blocks

-- ---- marks

abbrev pub is_set : Option Bool → Bool
is_set None = false
is_set (Some mark) = mark

-- the procedure of this number is marked
abbrev pub is_marked : List Bool → ℕ → Bool
is_marked marks p = is_set (slice_get marks p)

-- how many are not marked
abbrev pub unmarked : List Bool → ℕ
unmarked [] = 0
unmarked (true ∷ marks) = unmarked marks
unmarked (false ∷ marks) = suc (unmarked marks)

-- the procedure is to be marked, where it calls these: it is not, and one of them is
abbrev pub is_due : List ℕ → List Bool → ℕ → Bool
is_due called marks p = not (is_marked marks p) && list_any (is_marked marks) called

-- calls lead from the procedure to a marked one
pub data Leads (callees : List (List ℕ)) (marks : List Bool) : ℕ → Type 0 where
  here : {p : ℕ} → is_marked marks p ≡ true → Leads callees marks p
  on : {p : ℕ} → (to : ℕ) → Contains (slice_index_or callees p []) to → Leads callees marks to → Leads callees marks p

-- after a round: no mark is lost, each is due to calls, a round that says so marked one, and one that does not left none due
pub record Round (callees : List (List ℕ)) (old new : List Bool) (is_new : Bool) : Type 0 where
  pub size : length new ≡ length old
  pub up : (p : ℕ) → is_marked old p ≡ true → is_marked new p ≡ true
  pub sound : (p : ℕ) → is_marked new p ≡ true → Leads callees old p
  pub fewer : is_new ≡ true → unmarked new < unmarked old
  pub closed : is_new ≡ false → (p to : ℕ) → Contains (slice_index_or callees p []) to → is_marked new to ≡ true → is_marked new p ≡ true

-- the marks spread to all from which calls lead to a marked one
pub record Spread (callees : List (List ℕ)) (old new : List Bool) : Type 0 where
  pub size : length new ≡ length old
  pub exact : (p : ℕ) → (is_marked new p ≡ true) ↔ Leads callees old p

-- the marks of the procedures that may change a global
pub record IsColumn (procs : List FlatProc) (g : ℕ) (marks : List Bool) : Type 0 where
  pub size : length marks ≡ length procs
  pub exact : (p : ℕ) → (is_marked marks p ≡ true) ↔ Leads (map callees_of procs) (map (proc_writes g) procs) p

-- one column for each of so many globals
pub record AreColumns (procs : List FlatProc) (count : ℕ) (columns : List (List Bool)) : Type 0 where
  pub size : length columns ≡ count
  pub each : (g : ℕ) (marks : List Bool) → slice_get columns g ≡ Some marks → IsColumn procs g marks

-- the marks of one procedure, from all columns
abbrev pub across : List (List Bool) → ℕ → List Bool
across columns p = map (λ marks. is_marked marks p) columns
