-- Terms of values that are taken, part by part.
use Rattle.std.proofs.Common.{◌≡◌, ℕ, ◌+◌, Bool, true, false, List, [], ◌∷◌, ◌++◌, length, arith, sym, ◌∙◌, ap, refl, append_assoc, length-append}
use Rattle.std.specs.Prelude.{if◌then◌else◌}
use Rattle.hy_val.specs.Values.{is_on}
use Rattle.hy_val.specs.declared.value.Value.{Value}
use Rattle.hy_term.specs.Meaning.{value}
use Rattle.hy_term.specs.declared.node.TermNode.{TermNode}
use Rattle.passive_form.specs.declared.Item.{Item}
use Rattle.vc_gen.specs.declared.parts.ValueTerm.{ValueTerm}
use Rattle.vc_gen.specs.Standing.{Later}
use Rattle.vc_gen.specs.Items.{bool_sort, on_after, on_end}
use Rattle.vc_gen.specs.Taken.{true_values, ValuesThere, free_by, frees_in}
use Rattle.vc_gen.proofs.Growth.{value_later, sort_later, sort_within}

pub values_later : (x y : List TermNode) (a : ℕ → Value) (vs : List ValueTerm) → Later x y → ValuesThere x vs → true_values a y vs ≡ true_values a x vs
values_later x y a [] h t = refl
values_later x y a (v ∷ vs) h (t, ts) =
    ap (λ r. if is_on (value a y v.live) then value a y v.node ∷ r else r) (values_later x y a vs h ts)
    ∙ ap (λ b. if is_on b then value a y v.node ∷ true_values a x vs else true_values a x vs) (value_later x y a v.live h (sort_within x v.live bool_sort t.0))
    ∙ ap (λ n. if is_on (value a x v.live) then n ∷ true_values a x vs else true_values a x vs) (value_later x y a v.node h t.1)

pub values_stay : (x y : List TermNode) (vs : List ValueTerm) → Later x y → ValuesThere x vs → ValuesThere y vs
values_stay x y [] h t = tt
values_stay x y (v ∷ vs) h (t, ts) =
    let more : length y ≡ length x + length h.nodes.0 = ap length h.nodes.1 ∙ length-append x h.nodes.0 in
    ((sort_later x y v.live bool_sort h t.0, omega (arith, more, t.1)), values_stay x y vs h ts)

pub values_there : (x : List TermNode) (vs ws : List ValueTerm) → ValuesThere x vs → ValuesThere x ws → ValuesThere x (vs ++ ws)
values_there x [] ws h k = k
values_there x (v ∷ vs) ws (h, hs) k = (h, values_there x vs ws hs k)

pub values_both : (a : ℕ → Value) (nodes : List TermNode) (vs ws : List ValueTerm) → true_values a nodes (vs ++ ws) ≡ true_values a nodes vs ++ true_values a nodes ws
values_both a nodes [] ws = refl
values_both a nodes (v ∷ vs) ws =
    ap (λ r. if is_on (value a nodes v.live) then value a nodes v.node ∷ r else r) (values_both a nodes vs ws) ∙ by (is_on (value a nodes v.live))
  where
    by : (b : Bool) → (if b then value a nodes v.node ∷ (true_values a nodes vs ++ true_values a nodes ws) else true_values a nodes vs ++ true_values a nodes ws)
        ≡ (if b then value a nodes v.node ∷ true_values a nodes vs else true_values a nodes vs) ++ true_values a nodes ws
    by true = refl
    by false = refl

pub frees_append : (consts : List Value) (vals : ℕ → Value) (on : Bool) (xs ys : List Item) → frees_in consts vals on (xs ++ ys) ≡ frees_in consts vals on xs ++ frees_in consts vals (on_end consts vals on xs) ys
frees_append consts vals on [] ys = refl
frees_append consts vals on (x ∷ xs) ys =
    ap (λ r. free_by vals on x ++ r) (frees_append consts vals (on_after consts vals on x) xs ys)
    ∙ sym (append_assoc (free_by vals on x) (frees_in consts vals (on_after consts vals on x) xs) (frees_in consts vals (on_end consts vals on (x ∷ xs)) ys))
