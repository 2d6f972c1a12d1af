-- More digits never make a number smaller.
use Rattle.std.proofs.Common.{ℕ, ◌+◌, ◌*◌, ◌<◌, ◌≤◌, List, [], ◌∷◌, length, get_or, drop, arith, add-one, drop-cons}
use Rattle.std.specs.Char.{digit_value}
use Rattle.std.specs.Str.Parse.{digits_value_after}

pub value_grows : (ds : List ℕ) (n : ℕ) → n ≤ digits_value_after 10 n ds
value_grows [] n = omega arith
value_grows (d ∷ ds) n = omega (arith, value_grows ds (n * 10 + digit_value d))

pub value_too_large : (ds : List ℕ) (i n limit : ℕ) → i < length ds → limit ≤ n * 10 + digit_value (get_or ds i 0) → limit ≤ digits_value_after 10 n (drop i ds)
value_too_large ds i n limit lt h =
    let more = value_grows (drop (i + 1) ds) (n * 10 + digit_value (get_or ds i 0)) in
    let same = rw add-one at more in
    rw (drop-cons ds i 0) (omega (arith, same))
