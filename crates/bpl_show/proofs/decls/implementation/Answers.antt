use Rattle.std.proofs.Common.{ap, ◌∙◌}
use Rattle.std.specs.Prelude.{codes}
use Rattle.std.proofs.lemmas.Result.{on_ok_weaker}
use Rattle.bpl_show.specs.Decls as spec
use Rattle.bpl_show.specs.Names.{attributes, name}
use Rattle.bpl_show.specs.Tokens.{word, written}
use Rattle.bpl_show.proofs.Loops.{five}
use Rattle.bpl_show.proofs.decls.implementation.Goals as goal

pub returns : goal.returns
returns c =
    let d = c.args.shown.now in
    let same = ap (λ xs. written c.word.new.out (attributes xs)) c.as_slice.ensures in
    on_ok_weaker c.body.result (λ rest. five (word (codes "implementation")) (attributes d.attributes) (name d.name) (spec.heads d.heads) (spec.body d.body) c.args.out.now c.word.new.out c.each.new.out c.show.new.out c.heads.new.out c.body.new.out c.in_ok-word.ensures (c.in_ok-each.ensures ∙ same) c.in_ok-show.ensures c.in_ok-heads.ensures rest) c.body.ensures
