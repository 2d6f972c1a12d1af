-- Two lists, compared item by item.
use Rattle.std.proofs.Common.{◌≡◌, ℕ, ◌<◌, List, length, map, get_or}
use Rattle.std.proofs.lemmas.List.{get_or-map}

-- an item differs
pub differs : {X Y : Type 0} (f : X → Y) (a b : List X) (i : ℕ) (x y : X) → i < length a → i < length b → x ≡ get_or a i x → y ≡ get_or b i y → (f x ≡ f y → ⊥) → map f a ≡ map f b → ⊥
differs f a b i x y p q r s never same =
    let e : get_or (map f a) i (f x) ≡ f (get_or a i x) = get_or-map f a i x (f x) p in
    let d : get_or (map f b) i (f x) ≡ f (get_or b i y) = get_or-map f b i y (f x) q in never cc
