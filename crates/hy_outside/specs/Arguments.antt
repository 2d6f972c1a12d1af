-- The words that the arguments of a process are.
use Rattle.std.specs.Prelude.{ℕ, List, [], map, drop, Result, Ok, Err, string_bytes}
use Rattle.std.specs.Vec.Iter.{into_iter_items}
use Rattle.std.specs.declared.vec.IntoIter.{IntoIter}
use Rattle.std.specs.declared.string.String.{String}

-- all but the program's name, and none where the arguments are not told
abbrev pub words_in : {Z E : Type 0} → Result (IntoIter (String Z) Z) E → List (List ℕ)
words_in (Ok arguments) = map string_bytes (drop 1 (into_iter_items arguments))
words_in (Err error) = []
