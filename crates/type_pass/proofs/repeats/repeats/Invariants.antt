use Rattle.std.proofs.Common.{◌≡◌, ℕ, List, map, take, drop}
use Rattle.std.specs.List.{list_any}
use Rattle.std.specs.Str.{bytes_eq}
use Rattle.type_pass.specs.Faults.{earlier, first}
use Rattle.type_pass.specs.Names.{is_among, repeats, repeats_after}
use Rattle.type_pass.proofs.repeats.repeats.Given as goal

-- the set has the names so far; what was found comes before what the rest has
abbrev pub invariant-loop-name : goal.invariant-loop-name
invariant-loop-name l =
    ((text : List ℕ) → list_any (λ k. bytes_eq text k.now) l.seen.keys ≡ is_among (map (λ n. n.now) (take l.name-index l.names)) text)
    × (earlier l.found (first (repeats_after (map (λ n. n.now) (take l.name-index l.names)) (map (λ n. n.now) (drop l.name-index l.names)))) ≡ first (repeats (map (λ n. n.now) l.names)))
