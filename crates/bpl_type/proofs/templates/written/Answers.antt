use Rattle.std.proofs.Common.{◌∙◌, List, length, false, ap}
use Rattle.type_pass.specs.declared.tables.Scope.{Scope}
use Rattle.type_pass.specs.declared.tables.Named.{Named}
use Rattle.bpl_type.specs.Making.{term_with}
use Rattle.type_pass.specs.Terms.{nodes_of}
use Rattle.bpl_type.proofs.WritingLaws.{canonical, made-is}
use Rattle.bpl_type.proofs.templates.written.Goals as goal

pub new-requires-2 : goal.new-requires-2
new-requires-2 c = canonical c.new-nodes.result c.write.new.out (term_with c.args.known.now c.args.bodies.now c.in_ok-scope.scope c.args.body.now) c.new-nodes.ensures c.in_ok-write.ensures

pub returns : goal.returns
returns c =
    c.new-2.ensures ∙ made-is c.new-nodes.result c.write.new.out (term_with c.args.known.now c.args.bodies.now c.in_ok-scope.scope c.args.body.now) c.new-nodes.ensures c.in_ok-write.ensures
    ∙ ap (λ (s : Scope). nodes_of (term_with c.args.known.now c.args.bodies.now s c.args.body.now))
    (c.in_ok-scope.ensures ∙ ap (λ (ns : List Named). let s : Scope = record { locals = ns; ins = length ns; globals = false } in s) c.as_slice-arguments.ensures)
