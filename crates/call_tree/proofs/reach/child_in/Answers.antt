use Rattle.std.proofs.Common.{ℕ, List, length, take, slice_get, option_and_then, sym, ◌∙◌, subst}
use Rattle.std.proofs.lemmas.Bool.{ltb-true}
use Rattle.flat_prog.specs.Sites.{calls_of, sites_of}
use Rattle.call_tree.specs.Walks.{node_of}
use Rattle.call_tree.specs.Reaching.{Finds}
use Rattle.call_tree.specs.declared.reach.InBlock.TheVariants.{Here}
use Rattle.call_tree.proofs.Reaching.{in_block, is_before, is_past, is_here}
use Rattle.call_tree.proofs.reach.child_in.Goals as goal

pub returns-in-Ok : goal.returns-in-Ok
returns-in-Ok c =
    let found = (c.in-Some.ensures {u = tt}).lookup in
    let e = in_block c.args.blocks.now c.args.number c.in-Some.block.now c.as_slice-cmds.result.now (ltb-true c.args.number (length c.args.blocks.now) (sym found.0)) found.1 c.as_slice-cmds.ensures in
    subst (λ (xs : List ℕ). Finds xs c.args.children.now c.args.site c.passing.result) e
    (c.passing.ensures (length (sites_of (take c.args.number c.args.blocks.now))) c.args.site
    (is_before (sites_of (take c.args.number c.args.blocks.now)) (calls_of c.as_slice-cmds.result.now) c.args.site c.in-Ok.field-0 (sym c.seek_sites.ensures ∙ c.in-Ok.is)))

pub returns-in-Ok-seek_call : goal.returns-in-Ok-seek_call
returns-in-Ok-seek_call c =
    let found = (c.in-Some.ensures {u = tt}).lookup in
    let e = in_block c.args.blocks.now c.args.number c.in-Some.block.now c.as_slice-cmds.result.now (ltb-true c.args.number (length c.args.blocks.now) (sym found.0)) found.1 c.as_slice-cmds.ensures in
    λ more. (subst (λ (xs : List ℕ). Finds xs c.args.children.now c.args.site (Here (option_and_then node_of (slice_get c.args.children.now c.in-Err.left)))) e
    (is_here (sites_of (take c.args.number c.args.blocks.now)) (calls_of c.as_slice-cmds.result.now) c.args.children.now c.args.site c.in-Err.left c.in-Ok-seek_call.field-0
    (sym c.seek_sites.ensures ∙ c.in-Err.is) (sym c.seek_call.ensures ∙ c.in-Ok-seek_call.is))) more ∙ sym c.node_at.ensures

pub returns-in-Err-seek_call : goal.returns-in-Err-seek_call
returns-in-Err-seek_call c =
    let found = (c.in-Some.ensures {u = tt}).lookup in
    let e = in_block c.args.blocks.now c.args.number c.in-Some.block.now c.as_slice-cmds.result.now (ltb-true c.args.number (length c.args.blocks.now) (sym found.0)) found.1 c.as_slice-cmds.ensures in
    subst (λ (xs : List ℕ). Finds xs c.args.children.now c.args.site c.passing-in-Err-seek_call.result) e
    (c.passing-in-Err-seek_call.ensures (length (sites_of (take c.args.number c.args.blocks.now))) c.args.site
    (is_past (sites_of (take c.args.number c.args.blocks.now)) (calls_of c.as_slice-cmds.result.now) c.args.site c.in-Err.left c.in-Err-seek_call.field-0
    (sym c.seek_sites.ensures ∙ c.in-Err.is) (sym c.seek_call.ensures ∙ c.in-Err-seek_call.is)))
