use Rattle.std.proofs.Common.{◌≡◌, ◌+◌, List, ℕ, length, map, filter, refl, ap, ◌∙◌, arith}
use Rattle.src_prog.specs.declared.proc.SrcLoop.{SrcLoop}
use Rattle.extract_def.specs.Places.{exits_in}
use Rattle.loop_extract.specs.Ascents.{ascends, head_at, head_in}
use Rattle.loop_extract.specs.Flags.{ups}
use Rattle.loop_extract.specs.declared.scopes.Head.{Head}
use Rattle.loop_extract.specs.Plans.{spans_in, stays, inners_from, passes_in, moved_in, kept_in, inside_in}
use Rattle.loop_extract.proofs.Kept.{make}
use Rattle.loop_extract.proofs.making.region_of.Goals as goal

pub inners_of-requires-clause-heads : goal.inners_of-requires-clause-heads
inners_of-requires-clause-heads c = c.into_heads-heads.ensures ∙ ap (map head_in) c.in_ok-spans.ensures

pub returns : goal.returns
returns c =
    let proc = c.args.proc.now in
    let plan = c.args.plan.now in
    let scope = c.args.scope in
    let count : c.in_ok-count.count ≡ length plan.sorts = c.in_ok-count.ensures.value ∙ c.len-variables.ensures in
    let by : c.moved_in-by.result ≡ moved_in scope (length plan.sorts) = c.moved_in-by.ensures ∙ ap (moved_in scope) count in
    let local : c.in_ok-local.local ≡ moved_in scope (length plan.sorts) + length plan.sorts = omega (arith, c.in_ok-local.ensures, by, count) in
    let spans : c.in_ok-spans.spans ≡ spans_in scope plan.heads = c.in_ok-spans.ensures in
    let kept : c.in_ok-kept.kept ≡ kept_in plan scope = c.in_ok-kept.ensures ∙ ap (λ (ss : List SrcLoop). filter (stays plan.scopes scope ss) (ups 0 plan.up)) spans in
    let first : c.in_ok-first.first ≡ length (kept_in plan scope) = c.in_ok-first.ensures.value ∙ c.len-blocks.ensures ∙ ap (λ (ns : List ℕ). length ns) kept in
    let inside : c.in_ok-inside.inside ≡ inside_in proc plan scope = c.in_ok-inside.ensures ∙ ap (λ (f : ℕ). inners_from proc scope plan.base f plan.heads) first in
    let passes : c.in_ok-passes.passes ≡ passes_in (inside_in proc plan scope) = c.in_ok-passes.ensures ∙ ap passes_in (c.inners.ensures ∙ inside) in
    let ends : c.in_ok-leaves.leaves ≡ length (exits_in proc scope) = c.in_ok-leaves.ensures.value ∙ c.len-ends.ensures ∙ ap length c.in_ok-exits.ensures in
    let leave : c.in_ok-leave.leave ≡ length (kept_in plan scope) + passes_in (inside_in proc plan scope) = omega (arith, c.in_ok-leave.ensures, first, passes) in
    let again : c.in_ok-again.again ≡ length (kept_in plan scope) + passes_in (inside_in proc plan scope) + length (exits_in proc scope) = omega (arith, c.in_ok-again.ensures, leave, ends) in
    make plan.proc scope c.in_ok-exits.exits (exits_in proc scope) c.args.number c.args.number c.moved_in-by.result (moved_in scope (length plan.sorts)) c.in_ok-local.local (moved_in scope (length plan.sorts) + length plan.sorts) c.in_ok-sorts.sorts plan.sorts
    c.in_ok-kept.kept (kept_in plan scope) c.in_ok-inside.inside (inside_in proc plan scope) c.in_ok-leave.leave (length (kept_in plan scope) + passes_in (inside_in proc plan scope)) c.in_ok-again.again
    (length (kept_in plan scope) + passes_in (inside_in proc plan scope) + length (exits_in proc scope)) c.in_ok-exits.ensures refl by local (c.in_ok-sorts.ensures ∙ c.as_slice.ensures) kept inside leave again
