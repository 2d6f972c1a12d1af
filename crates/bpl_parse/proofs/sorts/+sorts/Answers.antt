use Rattle.bpl_parse.proofs.LevelLaws.{fails_at, map_sort_bottom, map_sort_above, sort_group_bottom, sort_group_above}
use Rattle.bpl_parse.specs.Gives.{Gives}
use Rattle.bpl_parse.specs.declared.place.Place.TheVariants as at
use Rattle.bpl_tok.specs.declared.token.Terminal.TheVariants as k
use Rattle.std.proofs.Common.{arith, sym, subst}
use Rattle.bpl_parse.proofs.sorts.+sorts.Goals as goal

pub map_sort-returns-then-depth-eq0 : goal.map_sort-returns-then-depth-eq0
map_sort-returns-then-depth-eq0 t c = fails_at c.at_bottom.result k.LeftBracket at.Sort c.args.tokens.now _ c.at_bottom.ensures (map_sort_bottom c.args.source.now c.args.depth c.args.tokens.now c.if-depth-eq0.true)

pub map_sort-returns : goal.map_sort-returns
map_sort-returns t c = subst (Gives (λ x. (x.0, x.1.now)) c.inside_map.result) (sym (map_sort_above c.args.source.now c.args.depth c.args.tokens.now (omega arith))) c.inside_map.ensures

pub sort_group-returns-then-depth-eq0 : goal.sort_group-returns-then-depth-eq0
sort_group-returns-then-depth-eq0 t c = fails_at c.at_bottom.result k.LeftParen at.Sort c.args.tokens.now _ c.at_bottom.ensures (sort_group_bottom c.args.source.now c.args.depth c.args.tokens.now c.if-depth-eq0.true)

pub sort_group-returns : goal.sort_group-returns
sort_group-returns t c = subst (Gives (λ x. (x.0, x.1.now)) c.inside_group.result) (sym (sort_group_above c.args.source.now c.args.depth c.args.tokens.now (omega arith))) c.inside_group.ensures
