use Rattle.std.proofs.Common.{◌≡◌, ◌∙◌, ◌++◌, [], ◌∷◌, List, ℕ, ap, sym, subst}
use Rattle.std.specs.Prelude.{nat_eq}
use Rattle.std.specs.Map.{lookup}
use Rattle.hy_val.specs.declared.sort.Sort.{Sort}
use Rattle.hy_term.specs.TermSorts.{named, or_else}
use Rattle.hy_term.specs.Kept.{IsIndexed}
use Rattle.hy_term.specs.declared.node.TermNode.{TermNode}
use Rattle.hy_term.proofs.Keeping.{indexed_push}
use Rattle.hy_term.proofs.builder.TermBuilder.try_add.Goals as goal

pub invariant_of-self-2 : goal.invariant_of-self-2
invariant_of-self-2 c =
    let nodes : c.add.new.self.nodes ≡ c.self.inside.terms.nodes ++ c.args.node ∷ [] = c.in_ok-number.ensures.added in
    let more : (n : ℕ) → lookup (nat_eq n) c.note.new.by_number.entries ≡ or_else (lookup (nat_eq n) c.self.inside.by_number.entries) (named n c.args.node) =
    λ n. c.note.ensures n ∙ ap (λ (es : List (ℕ × Sort)). or_else (lookup (nat_eq n) es) (named n c.args.node)) c.reserve.ensures.entries in
    subst (λ (ns : List TermNode). IsIndexed c.note.new.by_number.entries ns) (sym nodes)
    (indexed_push c.self.inside.terms.nodes c.args.node c.self.inside.by_number.entries c.note.new.by_number.entries c.self.invariant more)
