-- Bools behind the terms of an opening.
use Rattle.std.proofs.Common.{ap, refl, sym}
use Rattle.hy_term.specs.Formula.{Formula as Terms}
use Rattle.tree_query.proofs.Founds.{founded, says_bit}
use Rattle.tree_query.proofs.founding.founded.Goals as goal

pub returns : goal.returns
returns c =
    let b = c.in_ok-terms.field-0 in
    let x = says_bit c.args.flat.now b.terms.nodes b.terms.nodes c.in_ok-terms-2.terms.nodes c.allowed.new.terms.nodes b.consts c.as_slice.result.now c.in_ok-allowed.field-0 c.in-Some.allowed c.in-Some.is
    refl (ap (λ (f : Terms). f.nodes) (sym c.in_ok-terms-2.ensures)) c.as_slice.ensures c.in_ok-allowed.ensures in
    founded c.args.flat.now c.args.entry b c.in_ok-terms-2.terms.nodes c.literal.new.terms.nodes c.literal-2.new.terms.nodes c.in-Some.allowed c.in_ok-always.always c.in_ok-never.never c.in_ok-terms.ensures.terms
    c.in_ok-terms.ensures.values x c.in_ok-always.ensures c.in_ok-never.ensures
