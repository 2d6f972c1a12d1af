-- A book taken through calls of any workers, refused ones included.
use Rattle.std.specs.Prelude.{◌≡◌, ◌⊎◌, ℕ, List, [], ◌∷◌, ◌++◌, Option, None, Some}
use Rattle.std.specs.Arc.{arc_value}
use Rattle.flat_prog.specs.Nodes.{run_of}
use Rattle.piece_core.specs.declared.tasks.Task.{Task}
use Rattle.piece_core.specs.declared.refusals.EventRefusal.{EventRefusal}
use Rattle.piece_core.specs.declared.sights.Sight.{Sight}
use Rattle.piece_core.specs.declared.events.Event.{Event}
use Rattle.piece_core.specs.declared.events.Event.TheVariants.{Take, Inline, Split, Close, Found, Back}
use Rattle.piece_core.specs.declared.events.Entry.{Entry}
use Rattle.piece_core.specs.declared.leaves.Leaf.{Leaf}
use Rattle.piece_core.specs.declared.leaves.Status2.{Status2}
use Rattle.piece_core.specs.declared.leaves.Status2.TheVariants.{Live, Closed as ClosedNode, Found as FoundNode, Split as SplitNode}
use Rattle.piece_core.specs.declared.calls.BookCall.{BookCall}
use Rattle.piece_core.specs.declared.calls.BookCall.TheVariants.{Take as TakeCall, Back as BackCall, Inline as InlineCall, Split as SplitCall, Close as CloseCall, Found as FoundCall}
use Rattle.piece_core.specs.Book.{Ledger, entry, written, opening_leaves}
use Rattle.piece_core.specs.Refusals.{take_refusal, back_refusal, EventRefused}
use Rattle.piece_core.specs.Evidence.{MayInline, MaySplit, Closes, Under}

pub record Stand : Type 0 where
  pub nodes : List Leaf
  pub entries : List Entry

abbrev pub stand_of : Ledger → Stand
stand_of l = record { nodes = l.nodes; entries = l.entries }

abbrev pub first_stand : Stand
first_stand = record { nodes = opening_leaves; entries = [] }

-- the entry is booked
abbrev pub booked : Stand → Entry → Status2 → Stand
booked st e status = record { nodes = written st.nodes e status; entries = st.entries ++ e ∷ [] }

-- a refused call leaves the book, and one that isn't refused is booked
abbrev pub Leads : Stand → Entry → Status2 → Option EventRefusal → Stand → Type 0
Leads st e status None new = new ≡ booked st e status
Leads st e status (Some refusal) new = new ≡ st

abbrev pub SightLeads : Task → Stand → (worker : ℕ) → Sight → Event → Status2 → Stand → Type 0
SightLeads task st w sight event status new = (r : Option EventRefusal) × EventRefused task st.nodes w sight r × Leads st (entry w sight.node event) status r new

-- what a call makes of a book's nodes and journal
abbrev pub Called : Task → Stand → BookCall → Stand → Type 0
Called task st (TakeCall w node) new = Leads st (entry w node Take) Live (take_refusal st.nodes node) new
Called task st (BackCall w node) new = Leads st (entry w node Back) Live (back_refusal st.nodes node) new
Called task st (InlineCall w sight sites run) new = SightLeads task st w sight (Inline sites) Live new
Called task st (SplitCall w sight site) new = SightLeads task st w sight (Split site) (SplitNode site) new
Called task st (CloseCall w sight proof) new = SightLeads task st w sight Close (ClosedNode proof) new
Called task st (FoundCall w sight run) new = SightLeads task st w sight Found (FoundNode run) new

-- the calls in order lead from one stand to the other
abbrev pub RunsCalls : Task → Stand → List BookCall → Stand → Type 0
RunsCalls task st [] new = new ≡ st
RunsCalls task st (c ∷ cs) new = (mid : Stand) × Called task st c mid × RunsCalls task mid cs new

-- what a call asks
abbrev pub MayCall : BookCall → Type 0
MayCall (TakeCall w node) = Unit {0}
MayCall (BackCall w node) = Unit {0}
MayCall (InlineCall w sight sites run) = MayInline (arc_value sight.task) sight.tree sight.piece sight.inlined sites (run_of run)
MayCall (SplitCall w sight site) = MaySplit (arc_value sight.task) sight.tree sight.piece sight.inlined site
MayCall (CloseCall w sight proof) = Closes (arc_value sight.task) sight.tree sight.piece proof
MayCall (FoundCall w sight run) = Under (arc_value sight.task) sight.tree sight.piece (run_of run)
