-- What is kept beside nodes of terms in the making, with one node more.
use Rattle.std.proofs.Common.{◌≡◌, ℕ, List, [], ◌∷◌, ◌++◌, sym, ◌∙◌, ap}
use Rattle.std.specs.Prelude.{Option, nat_eq}
use Rattle.std.specs.Map.{lookup}
use Rattle.hy_val.specs.declared.sort.Sort.{Sort}
use Rattle.hy_term.specs.TermSorts.{named, or_else, sort_of_number}
use Rattle.hy_term.specs.Kept.{IsIndexed}
use Rattle.hy_term.specs.declared.node.TermNode.{TermNode}
use Rattle.hy_term.proofs.Fitting.{or_none, number-append}

-- the node's variable keeps the sort that its number has, else it gives its own
pub number-push : (n : ℕ) (nodes : List TermNode) (node : TermNode) → sort_of_number n (nodes ++ node ∷ []) ≡ or_else (sort_of_number n nodes) (named n node)
number-push n nodes node = number-append n nodes (node ∷ []) ∙ ap (or_else (sort_of_number n nodes)) (or_none (named n node))

pub indexed_push : (nodes : List TermNode) (node : TermNode) (before entries : List (ℕ × Sort)) → IsIndexed before nodes
    → ((n : ℕ) → lookup (nat_eq n) entries ≡ or_else (lookup (nat_eq n) before) (named n node)) → IsIndexed entries (nodes ++ node ∷ [])
indexed_push nodes node before entries h more n = more n ∙ ap (λ (o : Option Sort). or_else o (named n node)) (h n) ∙ sym (number-push n nodes node)
