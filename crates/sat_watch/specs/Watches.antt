-- The two literals that a clause watches.
use Rattle.std.specs.Prelude.{ℕ, ◌==◌, List, Option, Some, None, if◌then◌else◌, slice_index_or}
use Rattle.sat_watch.specs.declared.watch.Watch.{Watch}

-- by the clause's number, the two literals that it watches; two equal ones beyond the end
abbrev pub watch_at : List Watch → ℕ → Watch
watch_at watches id = slice_index_or watches id (record { first = 0; second = 0 })

-- the other literal, where two different ones are watched and this is one of them
abbrev pub other_watch : Watch → ℕ → Option ℕ
other_watch w l = if w.first == w.second then None else (if w.first == l then Some w.second else (if w.second == l then Some w.first else None))
