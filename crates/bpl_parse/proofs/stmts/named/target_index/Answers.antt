use Rattle.bpl_parse.proofs.LevelLaws.{fails_at, target_index_bottom, target_index_above}
use Rattle.bpl_parse.specs.Gives.{Gives}
use Rattle.bpl_parse.specs.declared.place.Place.TheVariants as at
use Rattle.bpl_tok.specs.declared.token.Terminal.TheVariants as k
use Rattle.std.proofs.Common.{arith, sym, subst}
use Rattle.bpl_parse.proofs.stmts.named.target_index.Goals as goal

pub returns-then-depth-eq0 : goal.returns-then-depth-eq0
returns-then-depth-eq0 c = fails_at c.at_bottom.result k.LeftBracket at.Other c.args.tokens.now _ c.at_bottom.ensures (target_index_bottom c.args.source.now c.args.depth c.args.tokens.now c.if-depth-eq0.true)

pub returns : goal.returns
returns c = subst (Gives (λ x. (x.0, x.1.now)) c.inside_index.result) (sym (target_index_above c.args.source.now c.args.depth c.args.tokens.now (omega arith))) c.inside_index.ensures
