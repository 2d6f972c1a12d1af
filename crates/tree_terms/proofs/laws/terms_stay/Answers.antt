use Rattle.tree_terms.proofs.Growth.{are_later, fits_before, later_then, map_later, plain_then, sort_later, value_later}
use Rattle.tree_terms.proofs.Parts.{part_stays}
use Rattle.tree_terms.proofs.laws.terms_stay.Goals as goal

pub returns : goal.returns
returns c = record {
  chain = later_then;
  plain_chain = plain_then;
  sort_stays = sort_later;
  value_stays = λ a x y t h l. value_later x y a t h l;
  are_still = are_later;
  all_stay = λ a x y ts ss h k. map_later x y a ts ss h k;
  fitted = λ a x y h f. fits_before a x y h.nodes f;
  copies_stay = λ nodes x y places ok old h p. part_stays nodes x y places ok old h.sound h.nodes p;
}
