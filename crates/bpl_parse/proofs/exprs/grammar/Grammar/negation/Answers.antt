use Rattle.bpl_parse.proofs.LevelLaws.{fails_at, negation_bottom, negation_above}
use Rattle.bpl_parse.specs.Gives.{Gives}
use Rattle.bpl_parse.specs.declared.place.Place.TheVariants as at
use Rattle.bpl_tok.specs.declared.token.Terminal.TheVariants as k
use Rattle.std.proofs.Common.{arith, sym, subst}
use Rattle.bpl_parse.proofs.exprs.grammar.Grammar.negation.Goals as goal

pub returns-then-self-eq0 : goal.returns-then-self-eq0
returns-then-self-eq0 g c = fails_at c.at_bottom.result k.Bang at.Operand c.args.tokens.now _ c.at_bottom.ensures (negation_bottom c.args.self.now.source.now c.args.self.now.depth c.args.tokens.now c.if-self-eq0.true)

pub returns : goal.returns
returns g c = subst (Gives (λ x. (x.0, x.1.now)) c.inside_negation.result) (sym (negation_above c.args.self.now.source.now c.args.self.now.depth c.args.tokens.now (omega arith))) c.inside_negation.ensures
