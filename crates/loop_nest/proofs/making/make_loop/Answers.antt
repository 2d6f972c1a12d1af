use Rattle.std.proofs.Common.{sym, ◌∙◌}
use Rattle.src_prog.specs.declared.proc.SrcLoop.{SrcLoop}
use Rattle.loop_nest.proofs.ListLaws.{made-past, made-more}
use Rattle.loop_nest.proofs.making.make_loop.Goals as goal

pub returns-then-not-is_up : goal.returns-then-not-is_up
returns-then-not-is_up c =
    let d : SrcLoop = record { head = 0; exit = 0 } in
    made-past c.args.numbering.now.flags.items c.args.spans.now c.args.at d c.args.making.now.loops c.args.making.now.opened.items c.requires.at c.requires.made (sym c.is_up.ensures ∙ c.if-not-is_up.true)

pub returns : goal.returns
returns c =
    let d : SrcLoop = record { head = 0; exit = 0 } in
    made-more c.push_loop.result c.args.numbering.now.flags.items c.args.spans.now c.args.at d c.args.making.now.loops c.push_loop.new.making.loops c.args.making.now.opened.items c.push_loop.new.making.opened.items
    c.requires.at c.requires.ascend c.requires.made (sym c.is_up.ensures ∙ c.if-not-is_up.false) c.push_loop.ensures.loops c.push_loop.ensures.around
