use Rattle.std.proofs.Common.{◌≡◌, ◌∙◌, ◌++◌, ◌+◌, ◌<◌, ◌^◌, length, map, ap, take_all, arith}
use Rattle.bpl_type.proofs.MakingLaws.{later, appended}
use Rattle.bpl_type.proofs.nodes.append.Goals as goal

pub returns : goal.returns
returns c =
    let out = c.args.out.now in
    let made = c.args.made.now in
    let same : c.nodes-nodes.result.now ≡ made = c.nodes-nodes.ensures.value in
    let counted = ap length same in
    let few : length out + length made < 2 ^ 64 = omega arith in
    c.loop-node.invariant
    ∙ ap (λ ns. out ++ map (later (2 ^ 64) c.len-start.result) ns) (take_all c.loop-node.node-index c.nodes-nodes.result.now c.loop-node-test.false ∙ same)
    ∙ ap (λ n. out ++ map (later (2 ^ 64) n) made) c.len-start.ensures
    ∙ appended (2 ^ 64) out made c.nodes-nodes.ensures.kept few
