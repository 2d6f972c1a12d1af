use Rattle.bpl_type.specs.Tallies.{templates_of}
use Rattle.bpl_type.proofs.SizeLaws.{body-large}
use Rattle.bpl_type.proofs.sizes.large_body.Goals as goal

pub returns : goal.returns
returns c =
    let w = c.args.weighing.now in
    body-large c.large_stmts.result w.most (templates_of w.known.now w.templates.now) w.known.now c.in_ok-scope.scope c.in_ok-names.names c.as_slice.result.now
    c.args.types.now c.args.heads.now c.args.body.now c.as_slice-2.result.now c.args.found c.in_ok-names.ensures c.as_slice.ensures c.in_ok-scope.ensures c.as_slice-2.ensures c.large_stmts.ensures
