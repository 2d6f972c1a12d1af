-- A text that was written in pieces.
use Rattle.std.proofs.Common.{◌≡◌, ℕ, ◌+◌, ◌-◌, List, ◌++◌, take, drop, length, arith, ◌∙◌, ap, append_assoc}
use Rattle.std.specs.Prelude.{Option, None, Some}
use Rattle.std.specs.Io.KnownBytes.{Appends, Keeps}
use Rattle.std.proofs.Math.Seq.{take-add}
use Rattle.std.proofs.lemmas.List.{take_all, length-drop}
use Rattle.hydra_top.specs.Writing.{AppendsFront}

pub appends_more : (a b c : Option (List ℕ)) (text : List ℕ) (at n : ℕ) → Appends a b (take at text) → Appends b c (take n (take (length text - at) (drop at text))) → Appends a c (take (at + n) text)
appends_more None b c text at n h k = tt
appends_more (Some xs) None c text at n h k = absurd h
appends_more (Some xs) (Some ys) None text at n h k = absurd k
appends_more (Some xs) (Some ys) (Some zs) text at n h k =
    let tail : take (length text - at) (drop at text) ≡ drop at text = take_all _ (drop at text) (omega (arith, length-drop at text)) in
    let joined = take-add at n text in
    let glued = append_assoc xs (take at text) (take n (drop at text)) in
    let last : zs ≡ ys ++ take n (drop at text) = k ∙ ap (λ p. ys ++ take n p) tail in
    cc

-- what was written before a write that failed
pub stays_front : (a b c : Option (List ℕ)) (text : List ℕ) (at : ℕ) → Appends a b (take at text) → Keeps b c → AppendsFront a c text
stays_front None b c text at h k = (at, tt)
stays_front (Some xs) None c text at h k = absurd h
stays_front (Some xs) (Some ys) None text at h k = absurd k
stays_front (Some xs) (Some ys) (Some zs) text at h k = (at, k ∙ h)
