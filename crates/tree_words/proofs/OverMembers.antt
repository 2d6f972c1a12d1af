-- Members by the sites from the root are the members of the over question.
use Rattle.std.proofs.Common.{ℕ, List, sym}
use Rattle.flat_prog.specs.Program.{FlatProgram}
use Rattle.flat_prog.specs.Changes.{MayBe}
use Rattle.flat_prog.specs.Trees.{Run}
use Rattle.call_tree.specs.declared.piece.Decision2.{Decision2}
use Rattle.call_tree.specs.Trees.{has_path, open_of}
use Rattle.call_tree.specs.Pieces.{reaches}
use Rattle.call_tree.specs.Questions.{IsOver}
use Rattle.call_tree.specs.Descent.{goes_down, DescentLaw}
use Rattle.tree_words.specs.Question.{IsMember}
use Rattle.tree_words.proofs.Meeting.{meets_alike}

pub over_member : DescentLaw → (flat : FlatProgram) (entry bound : ℕ) (tree : List (List ℕ)) (piece : List (List ℕ × Decision2)) (run : Run)
    → IsOver flat entry bound tree piece run → IsMember flat entry (MayBe flat) (has_path tree) (has_path (open_of flat entry bound tree)) piece run
over_member law flat entry bound tree piece run m = record {
  proc = m.proc;
  number = m.number;
  fails = m.fails;
  places = m.stands;
  meets_piece = meets_alike (goes_down run flat) (reaches flat run) (λ p. sym (law flat run p)) piece m.meets;
}

pub member_over : DescentLaw → (flat : FlatProgram) (entry bound : ℕ) (tree : List (List ℕ)) (piece : List (List ℕ × Decision2)) (run : Run)
    → IsMember flat entry (MayBe flat) (has_path tree) (has_path (open_of flat entry bound tree)) piece run → IsOver flat entry bound tree piece run
member_over law flat entry bound tree piece run m = record {
  proc = m.proc;
  number = m.number;
  fails = m.fails;
  stands = m.places;
  meets = meets_alike (reaches flat run) (goes_down run flat) (λ p. law flat run p) piece m.meets_piece;
}
