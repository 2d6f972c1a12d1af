use Rattle.std.proofs.Common.{refl, [], ◌∷◌, ◌++◌}
use Rattle.tree_terms.proofs.Growth.{behind_binary, behind_if, behind_unary, later_push, plain_push, sort_added}
use Rattle.tree_terms.proofs.laws.nodes_are_added.Goals as goal

pub returns : goal.returns
returns c = record {
  later = λ x node s h. later_push x (x ++ node ∷ []) node s h refl;
  sort_is = sort_added;
  plain = λ x node b f. plain_push x (x ++ node ∷ []) node b f refl;
  unary = behind_unary;
  binary = behind_binary;
  choice = behind_if;
}
