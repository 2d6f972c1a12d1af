use Rattle.type_pass.proofs.TypeLaws.{types-made}
use Rattle.type_pass.proofs.types.Types.new.Goals as goal

pub invariant_of-result : goal.invariant_of-result
invariant_of-result c =
    types-made c.in_ok-synonyms.synonyms.items c.as_slice.result.now c.as_slice-2.result.now c.as_slice-3.result.now c.in_ok-names.names.items c.in_ok-numbers.numbers c.in_ok-maps.maps.items c.in_ok-sorts.sorts.items
    c.as_slice.ensures.value c.as_slice-2.ensures.value c.as_slice-3.ensures.value c.in_ok-names.ensures c.in_ok-numbers.ensures c.in_ok-maps.ensures c.in_ok-sorts.ensures
