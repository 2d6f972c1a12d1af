use Rattle.bpl_parse.proofs.ParseLaws.{found_is, only_is, none_is, first_is}
use Rattle.bpl_parse.proofs.WholeLaws.{are_fronts}
use Rattle.bpl_parse.specs.Gives.{fault}
use Rattle.bpl_parse.proofs.parsing.parse.Goals as goal

pub returns-in-Ok-clause-found : goal.returns-in-Ok-clause-found
returns-in-Ok-clause-found c = found_is c.args.source.now c.args.tokens.now c.in-Ok.tree c.in-Ok.ensures

pub returns-in-Ok-clause-only : goal.returns-in-Ok-clause-only
returns-in-Ok-clause-only c = only_is c.args.source.now c.args.tokens.now c.in-Ok.tree c.in-Ok.ensures

pub returns-in-Ok-clause-fronts : goal.returns-in-Ok-clause-fronts
returns-in-Ok-clause-fronts c = are_fronts c.args.source.now

pub returns-in-Err-Memory-clause-fronts : goal.returns-in-Err-Memory-clause-fronts
returns-in-Err-Memory-clause-fronts c = are_fronts c.args.source.now

pub returns-in-Err-Stop-clause-only : goal.returns-in-Err-Stop-clause-only
returns-in-Err-Stop-clause-only c =
    let read = rw c.in-Err-Stop.field-0-is at c.in-Err-Stop.ensures in
    none_is c.args.source.now c.args.tokens.now _ read

pub returns-in-Err-Stop-clause-first : goal.returns-in-Err-Stop-clause-first
returns-in-Err-Stop-clause-first c =
    let read = rw c.in-Err-Stop.field-0-is at c.in-Err-Stop.ensures in
    first_is c.args.source.now c.args.tokens.now (fault c.in-Err-Stop.kind) c.in-Err-Stop.left.now c.tell.result read c.tell.ensures

pub returns-in-Err-Stop-clause-fronts : goal.returns-in-Err-Stop-clause-fronts
returns-in-Err-Stop-clause-fronts c = are_fronts c.args.source.now
