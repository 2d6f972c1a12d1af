-- The lines of choices, one by one.
use Rattle.std.proofs.Common.{◌≡◌, ℕ, ◌+◌, ◌<◌, ◌≤◌, List, [], ◌∷◌, ◌++◌, length, get_or, drop, slice_get, None, Some, refl, sym, ◌∙◌, ap, append_assoc}
use Rattle.std.specs.List.{flat_map}
use Rattle.std.proofs.lemmas.List.{append-nil, drop_all, drop_more}
use Rattle.src_run.proofs.Takes.{drop_some, drop_none}
use Rattle.src_run.specs.Names.{Name}
use Rattle.src_run.specs.declared.machine.Choice.{Choice}
use Rattle.trace_text.specs.Printing.{items_of}
use Rattle.trace_text.specs.Traces.{item_line}
use Rattle.trace_text.specs.declared.trace.TraceItem.{TraceItem}

abbrev pub lines_from : ℕ → List Name → List Choice → List ℕ
lines_from i names choices = flat_map item_line (items_of (drop i names) (drop i choices))

none_of_choices : (names : List Name) → items_of names [] ≡ []
none_of_choices [] = refl
none_of_choices (n ∷ ns) = refl

-- no line is left where no name or no choice is
pub no_names : (i : ℕ) (names : List Name) (choices : List Choice) (text whole : List ℕ) → slice_get names i ≡ None → text ++ lines_from i names choices ≡ whole → text ≡ whole
no_names i names choices text whole none h =
    sym (append-nil text) ∙ ap (λ (ns : List Name). text ++ flat_map item_line (items_of ns (drop i choices))) (sym (drop_none i names none)) ∙ h

pub no_choices : (i : ℕ) (names : List Name) (choices : List Choice) (text whole : List ℕ) → length choices ≤ i → text ++ lines_from i names choices ≡ whole → text ≡ whole
no_choices i names choices text whole none h =
    sym (append-nil text)
    ∙ ap (λ (is : List TraceItem). text ++ flat_map item_line is) (sym (none_of_choices (drop i names)))
    ∙ ap (λ (cs : List Choice). text ++ flat_map item_line (items_of (drop i names) cs)) (sym (drop_all i choices none))
    ∙ h

-- the line of the choice at an index is printed
pub one_line : (i : ℕ) (names : List Name) (choices : List Choice) (name : Name) (choice : Choice) (text new whole : List ℕ) → slice_get names i ≡ Some name → i < length choices → choice ≡ get_or choices i choice
    → new ≡ text ++ item_line (record { name = name; choice = choice }) → text ++ lines_from i names choices ≡ whole → new ++ lines_from (i + 1) names choices ≡ whole
one_line i names choices name choice text new whole named there is printed h =
    let here = drop_some i names name named in
    let this : drop i choices ≡ choice ∷ drop (i + 1) choices = drop_more choices i choice there ∙ ap (λ (c : Choice). c ∷ drop (i + 1) choices) (sym is) in
    let item : TraceItem = record { name = name; choice = choice } in
    ap (λ t. t ++ lines_from (i + 1) names choices) printed
    ∙ append_assoc text (item_line item) (lines_from (i + 1) names choices)
    ∙ sym (ap (λ (ns : List Name). text ++ flat_map item_line (items_of ns (drop i choices))) here ∙ ap (λ (cs : List Choice). text ++ flat_map item_line (items_of (name ∷ drop (i + 1) names) cs)) this)
    ∙ h
