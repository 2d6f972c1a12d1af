use Rattle.type_pass.specs.Declarations.{synonyms}
use Rattle.bpl_type.proofs.ProgramMade.{scope-is, block-made, body-is}
use Rattle.bpl_type.proofs.procs.typed_body.Goals as goal

pub typed_block-requires : goal.typed_block-requires
typed_block-requires c =
    block-made c.args.program.now c.args.heads.now c.args.body.now c.in_ok-scope.scope c.as_slice-2.result.now
    (scope-is c.args.types.now (synonyms c.args.program.now.ast.now) c.args.heads.now c.args.body.now c.in_ok-names.names c.in_ok-scope.scope c.as_slice.result.now c.requires.types c.in_ok-names.ensures c.as_slice.ensures c.in_ok-scope.ensures)
    c.as_slice-2.ensures c.requires.faultless

pub returns : goal.returns
returns c =
    body-is c.args.program.now.ast.now c.args.types.now c.args.heads.now c.args.body.now c.in_ok-scope.scope c.as_slice-2.result.now c.in_ok-locals.locals c.in_ok-statements.statements c.requires.types
    (scope-is c.args.types.now (synonyms c.args.program.now.ast.now) c.args.heads.now c.args.body.now c.in_ok-names.names c.in_ok-scope.scope c.as_slice.result.now c.requires.types c.in_ok-names.ensures c.as_slice.ensures c.in_ok-scope.ensures)
    c.as_slice-2.ensures c.in_ok-locals.ensures c.in_ok-statements.ensures
