use Rattle.type_pass.proofs.TableLaws.{headings-ok}
use Rattle.type_pass.proofs.tabled.all_procedures.Goals as goal

pub returns : goal.returns
returns c = headings-ok c.procedures_with.result c.args.ast.now c.args.types.now c.in_ok-implemented.implemented c.requires c.in_ok-implemented.ensures c.procedures_with.ensures
