-- One more gate of a net that grows or is evaluated.
use Rattle.std.proofs.Common.{◌≡◌, ℕ, suc, ◌+◌, ◌<◌, ◌≤◌, Bool, true, false, List, [], ◌∷◌, ◌++◌, length, get_or, take, sym, ap, ◌∙◌, subst, arith, length-append, if◌then◌else◌}
use Rattle.std.proofs.lemmas.List.{take_more}
use Rattle.gate_net.specs.Net.{gate_value, values, is_lower, are_lower}
use Rattle.gate_net.specs.declared.net.NetGate.{NetGate}
use Rattle.gate_net.proofs.Wires.{values-push, lower-push}

-- whether or not the gate was put behind the others
pub lower_pushed : (n : ℕ) (gs more : List NetGate) (g : NetGate) (b : Bool) → more ≡ (if b then gs ++ g ∷ [] else gs) → are_lower n gs ≡ true → is_lower (n + length gs) g ≡ true → are_lower n more ≡ true
lower_pushed n gs more g true e all one = subst (λ (l : List NetGate). are_lower n l ≡ true) (sym e) (lower-push n gs g all one)
lower_pushed n gs more g false e all one = subst (λ (l : List NetGate). are_lower n l ≡ true) (sym e) all

pub length_pushed : (gs more : List NetGate) (g : NetGate) (b : Bool) → more ≡ (if b then gs ++ g ∷ [] else gs) → (length gs ≤ length more) × (length more ≤ length gs + 1)
length_pushed gs more g true e = let l : length more ≡ length gs + 1 = ap length e ∙ length-append gs (g ∷ []) in (omega arith, omega arith)
length_pushed gs more g false e = let l : length more ≡ length gs = ap length e in (omega arith, omega arith)

-- what the wires carry with one gate more
pub values-more : (ins : List Bool) (gates : List NetGate) (i : ℕ) (g : NetGate) → i < length gates → g ≡ get_or gates i g
    → values ins (take (i + 1) gates) ≡ values ins (take i gates) ++ gate_value (values ins (take i gates)) g ∷ []
values-more ins gates i g within is =
    ap (values ins) (take_more gates i g within ∙ ap (λ (x : NetGate). take i gates ++ x ∷ []) (sym is)) ∙ values-push ins (take i gates) g
