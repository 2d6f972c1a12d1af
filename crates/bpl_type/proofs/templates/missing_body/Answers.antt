use Rattle.std.proofs.Common.{◌∙◌}
use Rattle.type_pass.specs.Terms.{missing}
use Rattle.bpl_type.proofs.WritingLaws.{canonical, made-is}
use Rattle.bpl_type.proofs.templates.missing_body.Goals as goal

pub new-requires : goal.new-requires
new-requires c = canonical c.new-nodes.result c.push_missing.new.out missing c.new-nodes.ensures c.in_ok-push_missing.ensures

pub returns : goal.returns
returns c = c.new.ensures ∙ made-is c.new-nodes.result c.push_missing.new.out missing c.new-nodes.ensures c.in_ok-push_missing.ensures
