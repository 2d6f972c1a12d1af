use Rattle.std.proofs.Common.{◌≡◌, ◌∙◌, true, sym, subst}
use Rattle.hy_val.specs.Exprs.{is_expr}
use Rattle.bpl_type.proofs.ProgramLaws.{entry-in}
use Rattle.bpl_type.proofs.program.entry.Goals as goal

pub new-requires : goal.new-requires
new-requires c =
    subst (λ ns. is_expr ns ≡ true)
    (sym (entry-in c.args.program.now c.args.scope.now c.args.name.now.text c.as_slice.result.now c.args.index.now c.args.value.now c.find.result c.new-nodes.result c.push_read.new.out c.write.new.out c.write-2.new.out c.push_store.new.out c.last-table.result c.last-key.result
    c.new-nodes.ensures c.as_slice.ensures c.find.ensures c.in_ok-push_read.ensures c.last-table.ensures c.in_ok-write.ensures c.last-key.ensures c.in_ok-write-2.ensures c.in_ok-push_store.ensures))
    c.requires

pub returns : goal.returns
returns c =
    c.new.ensures
    ∙ entry-in c.args.program.now c.args.scope.now c.args.name.now.text c.as_slice.result.now c.args.index.now c.args.value.now c.find.result c.new-nodes.result c.push_read.new.out c.write.new.out c.write-2.new.out c.push_store.new.out c.last-table.result c.last-key.result
    c.new-nodes.ensures c.as_slice.ensures c.find.ensures c.in_ok-push_read.ensures c.last-table.ensures c.in_ok-write.ensures c.last-key.ensures c.in_ok-write-2.ensures c.in_ok-push_store.ensures
