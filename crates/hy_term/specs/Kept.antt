-- What is kept beside the nodes of terms in the making. No public clause cites it.
use Rattle.std.specs.Prelude.{◌≡◌, ℕ, nat_eq, List}
use Rattle.std.specs.Map.{lookup}
use Rattle.hy_val.specs.declared.sort.Sort.{Sort}
use Rattle.hy_term.specs.TermSorts.{sort_of_number}
use Rattle.hy_term.specs.declared.node.TermNode.{TermNode}

-- under each number is the sort of the variable that has it in the nodes
abbrev pub IsIndexed : List (ℕ × Sort) → List TermNode → Type 0
IsIndexed entries nodes = (n : ℕ) → lookup (nat_eq n) entries ≡ sort_of_number n nodes
