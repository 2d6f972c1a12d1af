use Rattle.std.proofs.Common.{◌≡◌, ◌-◌, ◌+◌, ◌*◌, ◌≤◌, length}
use Rattle.std.specs.Prelude.{None}
use Rattle.map_axioms.specs.Steps.{AllParts, IsPart, IsRow, Later, found, known, known_at}
use Rattle.map_axioms.proofs.row.entry_of.Given as goal

abbrev pub invariant-walk : goal.invariant-walk
invariant-walk l = record {
  row : IsRow l.base l.terms.nodes l.out.nodes l.entries l.reds l.rows l.top l.place;
  later : Later l.fn.out.nodes l.fn.entries l.out.nodes l.entries;
  part : IsPart l.terms.nodes l.map l.top;
  parts : AllParts l.terms.nodes l.map l.left;
  waits : found l.map l.place l.rows ≡ None → found l.top l.place l.rows ≡ None;
  nodes : length l.out.nodes + 2 * known (length l.terms.nodes) l.fn.rows ≤ length l.fn.out.nodes + 2 * known (length l.terms.nodes) l.rows;
  entries : length l.entries + known (length l.terms.nodes) l.fn.rows ≤ length l.fn.entries + known (length l.terms.nodes) l.rows;
}

abbrev pub decreases-walk : goal.decreases-walk
decreases-walk l = (length l.terms.nodes - known_at (length l.terms.nodes) l.rows l.place) * length l.terms.nodes + l.top
