-- A block does with the waiting edges what its passive form says.
use Rattle.std.proofs.Common.{◌≡◌, ℕ, Bool, true, false, ◌&&◌, List, [], ◌++◌, sym, ◌∙◌, ap, refl, subst, append-nil}
use Rattle.std.specs.Prelude.{Option, Some, slice_get}
use Rattle.hy_val.specs.declared.value.Value.{Value}
use Rattle.hy_val.specs.declared.expr.Env.{Env}
use Rattle.flat_prog.specs.declared.block.FlatCmd.{FlatCmd}
use Rattle.flat_prog.specs.declared.block.FlatBlock.{FlatBlock}
use Rattle.flat_prog.specs.declared.proc.FlatProc.{FlatProc}
use Rattle.passive_form.specs.Limited.{Limited}
use Rattle.passive_form.specs.Local.{State, alone, pass_all, cmds_of}
use Rattle.flat_prog.specs.Local.{Request}
use Rattle.vc_gen.specs.Fold.{Edge, Given, reached, entered, others, closed, out_next, passed, step}
use Rattle.vc_gen.specs.Alike.{Alike}
use Rattle.vc_gen.proofs.Alikes.{alike_same, alike_append, out_off, off_passed}
use Rattle.passive_form.specs.declared.Item.{Item}
use Rattle.passive_form.specs.Versions.{Cur, env_of, Defined, hold, taken_values, taken_results, made_calls}
use Rattle.passive_form.specs.Making.{items_all, cur_end, entry_cur, entry_count}
use Rattle.passive_form.specs.Laws.{cmds_there, outcome}
use Rattle.passive_form.proofs.Passing.{pass_all_is}

-- what is taken, and no more
pass_alone : (flat : Limited) (q : FlatProc) (consts : List Value) (vals : ℕ → Value) (cur : Cur) (at k : ℕ) (cmds : List FlatCmd) → cmds_there flat q cmds ≡ true → Defined consts vals (items_all flat q cur at k cmds) →
    pass_all flat q cmds (alone (env_of consts vals cur) (taken_values vals (items_all flat q cur at k cmds)) (taken_results vals (items_all flat q cur at k cmds)) [])
    ≡ outcome (hold consts vals (items_all flat q cur at k cmds)) (env_of consts vals (cur_end flat cur k cmds)) [] [] (made_calls consts vals (items_all flat q cur at k cmds))
pass_alone flat q consts vals cur at k cmds t h =
    let items = items_all flat q cur at k cmds in
    ap (λ x. pass_all flat q cmds (alone (env_of consts vals cur) x (taken_results vals items) [])) (sym (append-nil (taken_values vals items)))
    ∙ ap (λ x. pass_all flat q cmds (alone (env_of consts vals cur) (taken_values vals items ++ []) x [])) (sym (append-nil (taken_results vals items)))
    ∙ pass_all_is flat q consts vals cur at k cmds [] [] [] t h

passed_on : (h : Bool) (b : FlatBlock) (d e : Env) (calls : List Request) (cs : List Bool) → Alike (out_next b.next h e cs) (passed (closed (outcome h e [] [] calls)) true (Some b) d cs)
passed_on true b d e calls cs = alike_same (out_next b.next true e cs)
passed_on false b d e calls cs = out_off (Some b) e d cs

abbrev pub given_by : (ℕ → Value) → ℕ → List Item → List Bool → Given
given_by vals n items cs = record { number = n; values = taken_values vals items; results = taken_results vals items; choices = cs }

pub block_law : (flat : Limited) (q : FlatProc) (d : Env) (consts : List Value) (vals : ℕ → Value) (n : ℕ) (b : FlatBlock) (es : List Edge) (cs : List Bool) → slice_get q.blocks n ≡ Some b → cmds_there flat q b.cmds ≡ true →
    Defined consts vals (items_all flat q (entry_cur flat q) 0 (entry_count flat q) b.cmds) → (reached n es ≡ true → env_of consts vals (entry_cur flat q) ≡ entered n d es) →
    Alike (others n es ++ out_next b.next (reached n es && hold consts vals (items_all flat q (entry_cur flat q) 0 (entry_count flat q) b.cmds)) (env_of consts vals (cur_end flat (entry_cur flat q) (entry_count flat q) b.cmds)) cs)
    (step flat q d (given_by vals n (items_all flat q (entry_cur flat q) 0 (entry_count flat q) b.cmds) cs) es)
block_law flat q d consts vals n b es cs at there h env =
    let cur = entry_cur flat q in
    let k = entry_count flat q in
    let items = items_all flat q cur 0 k b.cmds in
    let over = env_of consts vals (cur_end flat cur k b.cmds) in
    let g = given_by vals n items cs in
    let go : Env → Option FlatBlock → Option State = λ v o. closed (pass_all flat q (cmds_of o) (alone v (taken_values vals items) (taken_results vals items) [])) in
    let P : Bool → Env → Option FlatBlock → Type 0 = λ r v o. Alike (out_next b.next (r && hold consts vals items) over cs) (passed (go v o) r o d cs) in
    let here : P true (env_of consts vals cur) (Some b) =
    subst (λ (o : Option State). Alike (out_next b.next (hold consts vals items) over cs) (passed (closed o) true (Some b) d cs)) (sym (pass_alone flat q consts vals cur 0 k b.cmds there h))
    (passed_on (hold consts vals items) b d over (made_calls consts vals items) cs) in
    let by : (r : Bool) → reached n es ≡ r → P r (entered n d es) (Some b) = λ r e. cases P (env_of consts vals cur) (entered n d es) (Some b) r here (off_passed (go (entered n d es) (Some b)) (Some b) d over cs) (λ y. env (e ∙ y)) in
    alike_append (others n es) (others n es) (out_next b.next (reached n es && hold consts vals items) over cs) (passed (go (entered n d es) (slice_get q.blocks n)) (reached n es) (slice_get q.blocks n) d cs)
    (alike_same (others n es)) (subst (λ (o : Option FlatBlock). P (reached n es) (entered n d es) o) (sym at) (by (reached n es) refl))
  where
    cases : (P : Bool → Env → Option FlatBlock → Type 0) (v w : Env) (o : Option FlatBlock) (r : Bool) → P true v o → P false w o → (r ≡ true → v ≡ w) → P r w o
    cases P v w o true x y e = subst (λ (u : Env). P true u o) (e refl) x
    cases P v w o false x y e = y
