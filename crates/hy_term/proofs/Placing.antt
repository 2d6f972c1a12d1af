-- The sort of each node from those before it, and where variables stand in their list.
use Rattle.std.proofs.Common.{◌≡◌, ◌≢◌, ℕ, zero, suc, ◌+◌, ◌<◌, Bool, true, false, ◌&&◌, List, [], ◌∷◌, ◌++◌, length, take, arith, sym, ◌∙◌, ap, refl, subst, length-append, append_assoc}
use Rattle.std.specs.Prelude.{Option, None, Some, if◌then◌else◌, slice_get, IsTrue, IsSome, nat_eq, nat_lt}
use Rattle.std.specs.Option.{option_and_then}
use Rattle.std.proofs.Math.Seq.{take-append_seam}
use Rattle.std.proofs.lemmas.Bool.Decides.{nat_tests}
use Rattle.hy_val.specs.NodeSorts.{is_sort}
use Rattle.hy_val.specs.declared.sort.Sort.{Sort}
use Rattle.hy_term.specs.TermSorts.{sort_of_node, sorts_onto, or_else, sort_of_number, variable_agrees, agree_onto, is_scalar_sort, is_plain, are_plain}
use Rattle.hy_term.specs.Variables.{insert, with_variable, variables_onto, variables, numbers_of, first_above, ascend, are_scalars, count_below}
use Rattle.hy_term.specs.Laws.{EachNodeHasItsSort, VariablesAreListed, PlainVariablesAreScalars}
use Rattle.hy_term.specs.declared.node.TermNode.{TermNode}
use Rattle.hy_term.specs.declared.node.TermNode.TheVariants.{Lit, ZeroMap, Variable, Unary, Binary, If, Select, Store}
use Rattle.hy_term.specs.declared.node.TermVariable.{TermVariable}
use Rattle.hy_term.proofs.Sorting.{and_left, and_right, and_both}
use Rattle.hy_term.proofs.Numbering.{number_is}
use Rattle.hy_term.proofs.Ordering.{lt_is, variables_ascend}
use Rattle.hy_term.proofs.Fitting.{sort_in, named_off, none_above, in-onto, number-append, named_self, agreed, append_one}

-- ---- the sort of each node

append_nil : (xs : List Sort) → xs ++ [] ≡ xs
append_nil [] = refl
append_nil (x ∷ xs) = ap (λ (r : List Sort). x ∷ r) (append_nil xs)

abbrev Behind : List Sort → List Sort → Type 0
Behind known ss = (rest : List Sort) × (ss ≡ known ++ rest)

rest_by : (o : Option Sort) (known ss : List Sort) (nodes : List TermNode) → option_and_then (λ s. sorts_onto (known ++ s ∷ []) nodes) o ≡ Some ss
    → ((s : Sort) → sorts_onto (known ++ s ∷ []) nodes ≡ Some ss → Behind (known ++ s ∷ []) ss) → Behind known ss
rest_by None known ss nodes h ih = absurd (let no : None ≡ Some ss → ⊥ = λ y. cc in no h)
rest_by (Some s) known ss nodes h ih = let r = ih s h in (s ∷ r.0, r.1 ∙ append_assoc known (s ∷ []) r.0)

onto_rest : (known ss : List Sort) (nodes : List TermNode) → sorts_onto known nodes ≡ Some ss → Behind known ss
onto_rest known ss [] h = let same : known ≡ ss = cc in ([], sym same ∙ sym (append_nil known))
onto_rest known ss (node ∷ nodes) h = rest_by (sort_of_node known node) known ss nodes h (λ s. onto_rest (known ++ s ∷ []) ss nodes)

get_seam : (xs : List Sort) (y : Sort) (ys : List Sort) → slice_get (xs ++ y ∷ ys) (length xs) ≡ Some y
get_seam [] y ys = refl
get_seam (x ∷ xs) y ys = get_seam xs y ys

abbrev SortedAt : List Sort → ℕ → TermNode → Type 0
SortedAt ss k node = slice_get ss k ≡ sort_of_node (take k ss) node

here_by : (o : Option Sort) (known ss : List Sort) (node : TermNode) (nodes : List TermNode) → sort_of_node known node ≡ o → option_and_then (λ s. sorts_onto (known ++ s ∷ []) nodes) o ≡ Some ss
    → SortedAt ss (length known) node
here_by None known ss node nodes is h = absurd (let no : None ≡ Some ss → ⊥ = λ y. cc in no h)
here_by (Some s) known ss node nodes is h =
    let r = onto_rest (known ++ s ∷ []) ss nodes h in
    let whole : ss ≡ known ++ s ∷ r.0 = r.1 ∙ append_assoc known (s ∷ []) r.0 in
    ap (λ (l : List Sort). slice_get l (length known)) whole ∙ get_seam known s r.0 ∙ sym is
    ∙ ap (λ (l : List Sort). sort_of_node l node) (sym (ap (take (length known)) whole ∙ take-append_seam known (s ∷ r.0)))

next_by : (o : Option Sort) (known ss : List Sort) (nodes : List TermNode) (k : ℕ) (node : TermNode) → option_and_then (λ s. sorts_onto (known ++ s ∷ []) nodes) o ≡ Some ss
    → ((s : Sort) → sorts_onto (known ++ s ∷ []) nodes ≡ Some ss → SortedAt ss (length (known ++ s ∷ []) + k) node) → SortedAt ss (length known + suc k) node
next_by None known ss nodes k node h ih = absurd (let no : None ≡ Some ss → ⊥ = λ y. cc in no h)
next_by (Some s) known ss nodes k node h ih =
    let place : length (known ++ s ∷ []) + k ≡ length known + suc k = omega (arith, length-append known (s ∷ [])) in
    subst (λ (n : ℕ). SortedAt ss n node) place (ih s h)

sorted_onto : (known ss : List Sort) (nodes : List TermNode) (k : ℕ) (node : TermNode) → sorts_onto known nodes ≡ Some ss → slice_get nodes k ≡ Some node → SortedAt ss (length known + k) node
sorted_onto known ss [] k node h at = absurd (let no : None ≡ Some node → ⊥ = λ y. cc in no at)
sorted_onto known ss (first ∷ nodes) zero node h at =
    let same : first ≡ node = cc in
    let place : length known ≡ length known + 0 = omega arith in
    subst (λ (n : ℕ). SortedAt ss n node) place (subst (λ (m : TermNode). SortedAt ss (length known) m) same (here_by (sort_of_node known first) known ss first nodes refl h))
sorted_onto known ss (first ∷ nodes) (suc k) node h at =
    next_by (sort_of_node known first) known ss nodes k node h (λ s g. sorted_onto (known ++ s ∷ []) ss nodes k node g at)

pub node_has_sort : EachNodeHasItsSort
node_has_sort nodes ss k node h at =
    let place : length {A = Sort} [] + k ≡ k = omega arith in
    subst (λ (n : ℕ). SortedAt ss n node) place (sorted_onto [] ss nodes k node h at)

-- ---- where variables stand

named_at : (before nodes : List TermNode) (k number : ℕ) (sort : Sort) → IsTrue (agree_onto before nodes) → slice_get nodes k ≡ Some (Variable number sort)
    → sort_of_number number (before ++ nodes) ≡ Some sort
named_at before [] k number sort g at = absurd (let no : None ≡ Some (Variable number sort) → ⊥ = λ y. cc in no at)
named_at before (node ∷ nodes) zero number sort g at =
    let same : Variable number sort ≡ node = cc in
    let one : IsTrue (variable_agrees before (Variable number sort)) =
    subst (λ (n : TermNode). IsTrue (variable_agrees before n)) (sym same) (and_left (variable_agrees before node) (agree_onto (before ++ node ∷ []) nodes) g) in
    ap (λ (n : TermNode). sort_of_number number (before ++ n ∷ nodes)) (sym same)
    ∙ number-append number before (Variable number sort ∷ nodes)
    ∙ ap (λ (o : Option Sort). or_else (sort_of_number number before) o) (named_self number sort (sort_of_number number nodes))
    ∙ agreed (sort_of_number number before) sort one
named_at before (node ∷ nodes) (suc k) number sort g at =
    ap (λ (l : List TermNode). sort_of_number number l) (sym (append_one before node nodes))
    ∙ named_at (before ++ node ∷ []) nodes k number sort (and_right (variable_agrees before node) (agree_onto (before ++ node ∷ []) nodes) g) at

abbrev one : ℕ → Sort → TermVariable
one n s = record { number = n; sort = s }

listed_here : (e : Bool) (n : ℕ) (s : Sort) (v : TermVariable) (o : Option Sort) → nat_eq v.number n ≡ e → (e ≡ false → o ≡ None) → or_else (if e then Some v.sort else None) o ≡ Some s
    → Some v ≡ Some (one n s)
listed_here true n s v o is none h =
    let number : v.number ≡ n = number_is v.number n is in
    let sort : v.sort ≡ s = cc in
    ap (λ (m : ℕ). Some (one m v.sort)) number ∙ ap (λ (t : Sort). Some (one n t)) sort
listed_here false n s v o is none h = let no : None ≡ Some s = sym (none refl) ∙ h in cc

listed_by : (l : Bool) (n : ℕ) (s : Sort) (v : TermVariable) (vs : List TermVariable) → nat_lt v.number n ≡ l → ascend (numbers_of (v ∷ vs)) ≡ true → sort_in n (v ∷ vs) ≡ Some s
    → (sort_in n vs ≡ Some s → slice_get vs (count_below n vs) ≡ Some (one n s)) → slice_get (v ∷ vs) (if l then suc (count_below n vs) else zero) ≡ Some (one n s)
listed_by true n s v vs is a h ih =
    let other : v.number ≢ n = grind (arith, nat_tests, is) in
    ih (ap (λ (o : Option Sort). or_else o (sort_in n vs)) (sym (named_off v n other)) ∙ h)
listed_by false n s v vs is a h ih =
    listed_here (nat_eq v.number n) n s v (sort_in n vs) refl
    (λ off.
    let less : n < v.number = grind (arith, nat_tests, is, off) in
    let none : sort_in n (v ∷ vs) ≡ None = none_above n (v ∷ vs) (lt_is n v.number less) a in
    let other : v.number ≢ n = omega arith in
    ap (λ (o : Option Sort). or_else o (sort_in n vs)) (sym (named_off v n other)) ∙ none)
    h

listed : (n : ℕ) (s : Sort) (vs : List TermVariable) → ascend (numbers_of vs) ≡ true → sort_in n vs ≡ Some s → slice_get vs (count_below n vs) ≡ Some (one n s)
listed n s [] a h = absurd (let no : None ≡ Some s → ⊥ = λ y. cc in no h)
listed n s (v ∷ vs) a h =
    listed_by (nat_lt v.number n) n s v vs refl a h (listed n s vs (and_right (first_above v.number (numbers_of vs)) (ascend (numbers_of vs)) a))

pub are_listed : VariablesAreListed
are_listed nodes k number sort g at =
    listed number sort (variables nodes) (variables_ascend nodes) (in-onto number [] nodes refl ∙ named_at [] nodes k number sort g at)

-- ---- plain variables

scalars_by : (v w : TermVariable) (ws : List TermVariable) (l e : Bool) → are_scalars (w ∷ ws) ≡ true → IsTrue (is_scalar_sort v.sort && is_sort v.sort) → are_scalars (insert v ws) ≡ true
    → are_scalars (if l then w ∷ insert v ws else if e then w ∷ ws else v ∷ w ∷ ws) ≡ true
scalars_by v w ws true e h k ih = and_both (is_scalar_sort w.sort && is_sort w.sort) (are_scalars (insert v ws)) (and_left (is_scalar_sort w.sort && is_sort w.sort) (are_scalars ws) h) ih
scalars_by v w ws false true h k ih = h
scalars_by v w ws false false h k ih = and_both (is_scalar_sort v.sort && is_sort v.sort) (are_scalars (w ∷ ws)) k h

scalars-insert : (v : TermVariable) (ws : List TermVariable) → are_scalars ws ≡ true → IsTrue (is_scalar_sort v.sort && is_sort v.sort) → are_scalars (insert v ws) ≡ true
scalars-insert v [] h k = and_both (is_scalar_sort v.sort && is_sort v.sort) true k refl
scalars-insert v (w ∷ ws) h k =
    scalars_by v w ws (nat_lt w.number v.number) (nat_eq w.number v.number) h k (scalars-insert v ws (and_right (is_scalar_sort w.sort && is_sort w.sort) (are_scalars ws) h) k)

sort_there : (b : Bool) (s : Sort) → is_sort s ≡ b → IsSome (if b then Some s else None) → IsTrue (is_sort s)
sort_there true s is h = is
sort_there false s is h = absurd (let no : IsSome {T = Sort} None → ⊥ = λ y. cc in no h)

scalars-with : (known : List Sort) (vs : List TermVariable) (node : TermNode) → are_scalars vs ≡ true → IsTrue (is_plain node) → IsSome (sort_of_node known node)
    → are_scalars (with_variable vs node) ≡ true
scalars-with known vs (Lit x) h p k = h
scalars-with known vs (ZeroMap i e) h p k = h
scalars-with known vs (Variable number sort) h p k = scalars-insert (one number sort) vs h (and_both (is_scalar_sort sort) (is_sort sort) p (sort_there (is_sort sort) sort refl k))
scalars-with known vs (Unary op child) h p k = h
scalars-with known vs (Binary op left right) h p k = h
scalars-with known vs (If test one other) h p k = h
scalars-with known vs (Select m i) h p k = h
scalars-with known vs (Store m i v) h p k = h

abbrev Scalars : List TermVariable → List TermNode → Type 0
Scalars vs nodes = are_scalars (variables_onto vs nodes) ≡ true

scalars_rest : (o : Option Sort) (known : List Sort) (vs : List TermVariable) (nodes : List TermNode) → IsSome (option_and_then (λ s. sorts_onto (known ++ s ∷ []) nodes) o)
    → (IsSome o → (s : Sort) → IsSome (sorts_onto (known ++ s ∷ []) nodes) → Scalars vs nodes) → Scalars vs nodes
scalars_rest None known vs nodes h ih = absurd (let no : IsSome {T = List Sort} None → ⊥ = λ y. cc in no h)
scalars_rest (Some s) known vs nodes h ih = ih refl s h

scalars-onto : (known : List Sort) (vs : List TermVariable) (nodes : List TermNode) → are_scalars vs ≡ true → IsTrue (are_plain nodes) → IsSome (sorts_onto known nodes) → Scalars vs nodes
scalars-onto known vs [] h p k = h
scalars-onto known vs (node ∷ nodes) h p k =
    scalars_rest (sort_of_node known node) known (with_variable vs node) nodes k
    (λ here s rest. scalars-onto (known ++ s ∷ []) (with_variable vs node) nodes (scalars-with known vs node h (and_left (is_plain node) (are_plain nodes) p) here)
    (and_right (is_plain node) (are_plain nodes) p) rest)

pub plain_scalars : PlainVariablesAreScalars
plain_scalars nodes k p = scalars-onto [] [] nodes refl p k
