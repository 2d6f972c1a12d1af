use Rattle.std.proofs.Common.{◌≡◌, ◌-◌, drop, [], length}
use Rattle.std.specs.Prelude.{Some, slice_get}
use Rattle.map_axioms.specs.declared.entry.Entry.{Entry}
use Rattle.map_axioms.specs.Steps.{atom_values, chosen_by, filled}
use Rattle.map_axioms.proofs.Pairs.{IsFilled}
use Rattle.map_axioms.proofs.lifting.filled.Given as goal

abbrev pub invariant-fill : goal.invariant-fill
invariant-fill l = record {
  value : filled (chosen_by l.variables l.atoms) (atom_values l.known) l.number l.map (drop l.next l.entries)
      ≡ filled (chosen_by l.variables l.atoms) (atom_values l.known) l.number (record { index = l.fn.index; elem = l.fn.elem; pairs = [] }) l.entries;
  fits : IsFilled l.map l.fn.index l.fn.elem;
  same : (x : Entry) → slice_get l.entries l.next ≡ Some x → x.map ≡ l.number;
}

abbrev pub decreases-fill : goal.decreases-fill
decreases-fill l = length l.entries - l.next
