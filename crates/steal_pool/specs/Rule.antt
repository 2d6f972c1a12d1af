-- The rule of a deque. Its content is a suffix of what its owner put, and each ticket is as often in what was put as in
-- the content, the pops, all steals and all takings of joined passes together.
use Rattle.std.specs.Prelude.{◌≡◌, ℕ, ◌+◌, ◌^◌, ◌≤◌, List, [], ◌++◌, length}
use Rattle.std.specs.List.{sum_by}
use mathlib.Core.Option.{some}
use lib.ListN.{get_elem?}
use Rattle.steal_pool.specs.declared.rule.Ticket.{Ticket}
use Rattle.steal_pool.specs.declared.rule.View.{View}

-- the view with these parts and lists
abbrev pub view_of : ℕ → List Ticket → List Ticket → List Ticket → List Ticket → View
view_of parts puts pops steals olds =
    record { parts = parts; puts = puts; pops = pops; steals = steals; olds = olds }

-- the view v after the pass that has w was joined to it: what that one stole goes to the olds
abbrev pub joined : View → View → View
joined v w = view_of (v.parts + w.parts) v.puts v.pops v.steals (v.olds ++ (w.steals ++ w.olds))

-- the parts of all passes
abbrev pub parts_of : List View → ℕ
parts_of views = sum_by (λ v. v.parts) views

-- However the tickets are weighed, what the owner put weighs as much as the content, the pops, all steals and all olds.
-- With the weight that is 1 at one ticket and 0 at every other this counts that ticket, so each ticket is as often there
-- as here. With the weight that is 1 at every ticket it says it of the lengths.
abbrev pub IsWhole : List Ticket → List View → View → Type 0
IsWhole items views owner =
    (h : Ticket → ℕ)
    → sum_by h owner.puts
    ≡ sum_by h items + sum_by h owner.pops + sum_by (λ (v : View). sum_by h v.steals) views + sum_by (λ (v : View). sum_by h v.olds) views

-- a pass with no part has stolen nothing, and none that did was joined to it
abbrev pub IdleIsEmpty : List View → Type 0
IdleIsEmpty views =
    (port : ℕ) (v : View) → get_elem? views port ≡ some v → v.parts ≡ 0 → (v.steals ≡ []) × (v.olds ≡ [])

-- The rule, for a content and the views of all passes. The owner's pass is that at 0, `gone` is what has left the deque,
-- and all passes together have the 64 parts of the right to know the whole.
abbrev pub Balanced : List Ticket → List View → Type 0
Balanced items views =
    (owner : View) × (gone : List Ticket)
    × (get_elem? views 0 ≡ some owner)
    × (owner.puts ≡ gone ++ items)
    × IsWhole items views owner
    × (length owner.puts ≤ 2 ^ 57)
    × (parts_of views ≡ 64)
    × IdleIsEmpty views

-- the owner's view v becomes w as it puts xs
abbrev pub AfterPut : View → List Ticket → View → Type 0
AfterPut v xs w = w ≡ view_of v.parts (v.puts ++ xs) v.pops v.steals v.olds

-- the owner's view v becomes w as it pops xs; it has popped no more than was put
abbrev pub AfterPop : View → List Ticket → View → Type 0
AfterPop v xs w = (w ≡ view_of v.parts v.puts (v.pops ++ xs) v.steals v.olds) × (length w.pops ≤ 2 ^ 57)

-- a thief's view v becomes w as it steals xs
abbrev pub AfterSteal : View → List Ticket → View → Type 0
AfterSteal v xs w = w ≡ view_of v.parts v.puts v.pops (v.steals ++ xs) v.olds

-- what the owner knows of the content once its pass has all parts
abbrev pub IsAccounted : View → List Ticket → Type 0
IsAccounted v items =
    ((gone : List Ticket) × (v.puts ≡ gone ++ items))
    × ((h : Ticket → ℕ) → sum_by h v.puts ≡ sum_by h items + sum_by h v.pops + sum_by h v.steals + sum_by h v.olds)
