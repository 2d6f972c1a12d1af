-- Variables that are found in a list by their numbers. No public clause cites it.
use Rattle.std.specs.Prelude.{◌≡◌, List, slice_get, Some}
use Rattle.hy_term.specs.Variables.{count_below}
use Rattle.hy_term.specs.declared.node.TermNode.{TermNode}
use Rattle.hy_term.specs.declared.node.TermNode.TheVariants.{Variable}
use Rattle.hy_term.specs.declared.node.TermVariable.{TermVariable}

-- a node that is a variable stands in the list at the place of its number, with its sort
abbrev pub IsListed : List TermVariable → TermNode → Type 0
IsListed vs (Variable number sort) = slice_get vs (count_below number vs) ≡ Some (record { number = number; sort = sort })
IsListed vs node = Unit {0}
