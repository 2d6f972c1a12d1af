-- A block in the making, and what each command adds to it.
use Rattle.std.specs.Prelude.{ℕ, ◌+◌, Bool, true, false, Option, None, Some, List, [], ◌∷◌, ◌++◌, map, length}
use Rattle.hy_val.specs.declared.expr.Var.{Var}
use Rattle.hy_val.specs.declared.expr.ExprNode.{ExprNode}
use Rattle.flat_prog.specs.declared.block.FlatCmd.{FlatCmd}
use Rattle.flat_prog.specs.declared.block.FlatCmd.TheVariants.{Call}
use Rattle.flat_prog.specs.declared.proc.FlatProc.{FlatProc}
use Rattle.passive_form.specs.Limited.{Limited}
use Rattle.passive_form.specs.Local.{changed_sorts}
use Rattle.passive_form.specs.declared.commands.Draft.{Draft}
use Rattle.passive_form.specs.declared.Item.TheVariants.{Site}
use Rattle.passive_form.specs.Making.{over_versions, callee_outs, callee_changes, lets, frees, set_versions, items_of, cur_after, next_after, items_all, cur_end}

abbrev pub with_lets : Draft → List (Var × List ExprNode) → Draft
with_lets d pairs = record { current = d.current; next = d.next + length pairs; items = d.items ++ lets d.current d.next pairs }

abbrev pub with_frees : Limited → FlatProc → Draft → List Var → Draft
with_frees flat q d xs = record { current = set_versions d.current xs xs d.next; next = d.next + length xs; items = d.items ++ frees flat q d.next xs }

abbrev pub with_cmd : Limited → FlatProc → Draft → ℕ → FlatCmd → Draft
with_cmd flat q d position c = record { current = cur_after flat d.current d.next c; next = next_after flat d.next c; items = d.items ++ items_of flat q d.current position d.next c }

abbrev pub with_site : Limited → Draft → ℕ → List (List ExprNode) → List Var → Draft
with_site flat d p args outs = record {
  current = cur_after flat d.current d.next (Call p args outs);
  next = next_after flat d.next (Call p args outs);
  items = d.items ++ Site p d.next (map (over_versions d.current) args) d.current.globals (callee_outs flat p) (callee_changes flat p) (changed_sorts flat p) ∷ [];
}

-- ---- globals that a call changes

-- behind the list's end nothing is marked
abbrev pub is_marked : Option Bool → Bool
is_marked None = false
is_marked (Some m) = m

abbrev pub replacement : Bool → Option ℕ → Option ℕ
replacement true y = y
replacement false y = None
