-- What a file is of which a front was read.
use Rattle.std.proofs.Common.{◌≡◌, ℕ, ◌+◌, ◌<◌, ◌≤◌, List, [], ◌++◌, length, arith, ◌∙◌, ap, refl, length-append}
use Rattle.std.specs.Prelude.{Option, None, Some}
use Rattle.std.specs.Io.KnownBytes.{Consumes, IsAtEnd}
use Rattle.std.proofs.lemmas.List.{append-nil}
use Rattle.hydra_top.specs.declared.reading.Source.TheVariants.{Whole, TooLong}
use Rattle.hydra_top.specs.Reading.{ReadsLeft, Spares, limit}

-- no more bytes than the limit and one
spares : (bytes : List ℕ) (left : Option (List ℕ)) → length bytes ≤ limit + 1 → Spares bytes left
spares bytes None few = tt
spares bytes (Some left) few = omega arith

-- at the end all that was left was read
pub whole : (a b c : Option (List ℕ)) (bytes : List ℕ) → Consumes a b bytes → Consumes b c [] → IsAtEnd c → length bytes ≤ limit → ReadsLeft a c (Whole bytes)
whole None b c bytes h k end short = record { bytes = bytes; told = tt; is = (refl, short); spares = spares bytes c (omega arith) }
whole (Some xs) None c bytes h k end short = absurd h
whole (Some xs) (Some ys) None bytes h k end short = absurd k
whole (Some xs) (Some ys) (Some zs) bytes h k end short =
    let none : ys ≡ [] = k ∙ end in
    record { bytes = bytes; told = h ∙ ap (λ r. bytes ++ r) none ∙ append-nil bytes; is = (refl, short); spares = spares bytes (Some zs) (omega arith) }

-- one byte more than the limit was read
pub too_long : (a b : Option (List ℕ)) (bytes : List ℕ) → Consumes a b bytes → limit < length bytes → length bytes ≤ limit + 1 → ReadsLeft a b TooLong
too_long None b bytes h long few = record { bytes = bytes; told = tt; is = long; spares = spares bytes b few }
too_long (Some xs) None bytes h long few = absurd h
too_long (Some xs) (Some ys) bytes h long few =
    let size : length xs ≡ length bytes + length ys = ap length h ∙ length-append bytes ys in
    record { bytes = xs; told = refl; is = omega arith; spares = omega arith }
