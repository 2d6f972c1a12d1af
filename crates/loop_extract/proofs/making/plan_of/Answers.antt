use Rattle.std.proofs.Common.{◌≡◌, ◌<◌, [], ◌∷◌, List, ℕ, Bool, length, get_or, filter, map, ap, sym, subst, ◌∙◌}
use Rattle.std.specs.List.{list_all}
use Rattle.src_prog.specs.Loops.{are_nested, loop_is_within}
use Rattle.src_prog.specs.declared.block.SrcBlock.{SrcBlock}
use Rattle.src_prog.specs.declared.proc.SrcLoop.{SrcLoop}
use Rattle.extract_def.specs.Scopes.{reached_from, scope_of, reached_blocks}
use Rattle.extract_def.specs.declared.scope.Scope.{Scope}
use Rattle.extract_def.specs.declared.scope.Scope.TheVariants.{Whole}
use Rattle.loop_extract.specs.Flags.{ups}
use Rattle.loop_extract.specs.Ascents.{ascends, head_at}
use Rattle.loop_extract.specs.Heads.{head_of, is_up, lies_within}
use Rattle.loop_extract.specs.declared.scopes.Head.{Head}
use Rattle.loop_extract.proofs.Keys.{nested_ascend}
use Rattle.loop_extract.proofs.Kept.{loops_ok, nested_filter, reached_are}
use Rattle.loop_extract.proofs.Windows.{heads_lie}
use Rattle.hy_val.proofs.Booleans.{and-first, and-second}
use Rattle.loop_extract.proofs.making.plan_of.Goals as goal

pub scopes_of-requires-clause-within : goal.scopes_of-requires-clause-within
scopes_of-requires-clause-within c =
    let proc = c.args.proc.now in
    let n : length c.as_slice-2.result.now ≡ length proc.blocks = ap (λ (fs : List Bool). length fs) c.as_slice-2.ensures ∙ c.in_ok-up.ensures.size ∙ ap (λ (bs : List SrcBlock). length bs) c.as_slice.ensures in
    ap (λ (ls : List SrcLoop). list_all (loop_is_within (length c.as_slice-2.result.now)) ls) c.as_slice-3.ensures
    ∙ ap (λ (m : ℕ). list_all (loop_is_within m) proc.loops) n
    ∙ and-first (list_all (loop_is_within (length proc.blocks)) proc.loops) (are_nested proc.loops) (loops_ok c.args.prog.now c.args.number proc c.consts-consts.ensures.kept c.requires.is_proc)

pub scopes_of-requires-clause-nested : goal.scopes_of-requires-clause-nested
scopes_of-requires-clause-nested c =
    let proc = c.args.proc.now in
    ap are_nested c.as_slice-3.ensures ∙ and-second (list_all (loop_is_within (length proc.blocks)) proc.loops) (are_nested proc.loops) (loops_ok c.args.prog.now c.args.number proc c.consts-consts.ensures.kept c.requires.is_proc)

pub new-requires-clause-ascend : goal.new-requires-clause-ascend
new-requires-clause-ascend c =
    let proc = c.args.proc.now in
    let spans = c.as_slice-3.result.now in
    let up = c.as_slice-2.result.now in
    let nested = ap are_nested c.as_slice-3.ensures ∙ and-second (list_all (loop_is_within (length proc.blocks)) proc.loops) (are_nested proc.loops) (loops_ok c.args.prog.now c.args.number proc c.consts-consts.ensures.kept c.requires.is_proc) in
    ap (λ (hs : List Head). ascends 0 (map head_at hs)) c.in_ok-of_blocks.ensures.heads ∙ nested_ascend spans (filter (is_up up) spans) (nested_filter (is_up up) spans nested)

pub new-requires-clause-within : goal.new-requires-clause-within
new-requires-clause-within c =
    let spans = c.as_slice-3.result.now in
    let up = c.as_slice-2.result.now in
    ap (λ (hs : List Head). list_all lies_within hs) c.in_ok-of_blocks.ensures.heads ∙ heads_lie spans (filter (is_up up) spans)

pub returns-clause-is_plan : goal.returns-clause-is_plan
returns-clause-is_plan c =
    let proc = c.args.proc.now in
    let reached : ups 0 c.in_ok-up.up ≡ reached_blocks proc = c.in_ok-up.ensures.exact ∙ ap (λ (bs : List SrcBlock). reached_from 0 bs (0 ∷ [])) c.as_slice.ensures in
    record {
      is_proc = c.requires.is_proc;
      base = c.requires.base;
      reached = reached;
      size = c.in_ok-up.ensures.size ∙ ap (λ (bs : List SrcBlock). length bs) c.as_slice.ensures;
      long = ap (λ (ss : List Scope). length ss) c.from_vec.ensures ∙ c.in_ok-of_blocks.ensures.size ∙ ap (λ (fs : List Bool). length fs) c.as_slice-2.ensures;
      scopes = λ n lt.
          ap (λ (ss : List Scope). get_or ss n Whole) c.from_vec.ensures ∙ c.in_ok-of_blocks.ensures.blocks n (subst (λ (fs : List Bool). n < length fs) (sym c.as_slice-2.ensures) lt)
          ∙ ap (λ (ls : List SrcLoop). scope_of ls n) c.as_slice-3.ensures;
      heads =
          c.in_ok-known.ensures ∙ c.in_ok-of_blocks.ensures.heads ∙ ap (λ (ls : List SrcLoop). map (head_of ls) (filter (is_up c.as_slice-2.result.now) ls)) c.as_slice-3.ensures
          ∙ ap (λ (fs : List Bool). map (head_of proc.loops) (filter (is_up fs) proc.loops)) c.as_slice-2.ensures ∙ ap (λ (ls : List SrcLoop). map (head_of proc.loops) ls) (reached_are proc c.in_ok-up.up reached);
      sorts = c.in_ok-sorts.ensures;
    }
