use Rattle.std.proofs.Common.{◌≡◌, length, flat_map, take}
use Rattle.bpl_type.specs.TypedOf.{places_from}
use Rattle.bpl_type.proofs.UniqueLaws.{flags_in}
use Rattle.bpl_type.proofs.uniques.uniques.Given as goal

abbrev pub invariant-loop-decl : goal.invariant-loop-decl
invariant-loop-decl l = record {
  list : l.numbers ≡ places_from 0 (flat_map flags_in (take l.decl-index l.decl-items));
  next : l.next ≡ length (flat_map flags_in (take l.decl-index l.decl-items));
}
