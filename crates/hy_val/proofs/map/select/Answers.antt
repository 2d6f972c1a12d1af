use Rattle.std.proofs.Common.{◌∙◌}
use Rattle.hy_val.proofs.Tables.{select_found}
use Rattle.hy_val.proofs.map.select.Goals as goal

pub returns : goal.returns
returns c =
    c.entry_at.ensures
    ∙ select_found c.args.m.now c.elem.result c.zero.result c.args.i c.pairs-pairs.result.now c.place.result
    c.pairs-pairs.ensures.kept c.elem.ensures c.zero.ensures c.pairs-pairs.ensures.value c.place.ensures
