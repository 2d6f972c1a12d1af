use Rattle.std.proofs.Common.{◌≡◌, ◌≤◌, ◌+◌, ◌-◌, length}
use Rattle.std.specs.Io.KnownBytes.{Consumes}
use Rattle.hydra_top.specs.Reading.{limit}
use Rattle.hydra_top.proofs.reading.read_rest.Given as goal

abbrev pub invariant-loop-buffer : goal.invariant-loop-buffer
invariant-loop-buffer g l = record {
  consumed : Consumes (g.S.Shelf.left l.fn.shelf) (g.S.Shelf.left l.shelf) l.bytes;
  few : length l.bytes ≤ limit + 1;
  faults : g.S.Shelf.faults l.shelf ≡ g.S.Shelf.faults l.fn.shelf;
  files : g.S.Shelf.files l.shelf ≡ g.S.Shelf.files l.fn.shelf;
  opened : g.S.Shelf.opened l.shelf ≡ g.S.Shelf.opened l.fn.shelf;
}

abbrev pub decreases-loop-buffer : goal.decreases-loop-buffer
decreases-loop-buffer g l = 16777217 - length l.bytes
