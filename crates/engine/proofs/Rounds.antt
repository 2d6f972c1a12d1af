-- Events that leave as many to come.
use Rattle.std.proofs.Common.{◌≡◌, List, ap, ap₂, Ok, Err}
use Rattle.std.specs.Prelude.{Result, MatchResult}
use Rattle.piece_core.specs.declared.tasks.Task.{Task}
use Rattle.piece_core.specs.declared.leaves.Leaf.{Leaf}
use Rattle.piece_core.specs.Measures.{potential, paths_count}
use Rattle.piece_core.specs.Evidence.{shapes_of}
use Rattle.piece_core.specs.Book.{Ledger, Same, to_come}

pub same_stays : (old new : Ledger) → Same old new → to_come new ≡ to_come old
same_stays old new h = ap₂ (λ (t : Task) (ns : List Leaf). potential (paths_count t) (shapes_of ns)) h.task h.nodes

pub either_stays : {A E : Type 0} (X Y Z : Type 0) (F : E → Type 0) (r : Result A E) (old new : Ledger) → MatchResult r (λ _. X × Y × Z × (to_come new ≡ to_come old)) (λ e. F e × (new ≡ old)) → to_come new ≡ to_come old
either_stays X Y Z F (Ok a) old new h = h.3
either_stays X Y Z F (Err e) old new h = ap to_come h.1
