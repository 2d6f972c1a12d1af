-- The variables that stand in terms, and lists of values for them.
use Rattle.std.specs.Prelude.{◌≡◌, ℕ, zero, suc, ◌+◌, nat_eq, nat_lt, Bool, true, false, ◌&&◌, ◌||◌, List, [], ◌∷◌, map, if◌then◌else◌, Option, None, Some}
use Rattle.hy_val.specs.declared.atom.AtomKind.TheVariants.{Bool as BoolAtom}
use Rattle.hy_val.specs.declared.value.Value.{Value}
use Rattle.hy_val.specs.declared.value.Value.TheVariants.{Atom as AtomValue}
use Rattle.hy_val.specs.Values.{has_sort}
use Rattle.hy_val.specs.NodeSorts.{is_sort}
use Rattle.hy_term.specs.TermSorts.{is_scalar_sort}
use Rattle.hy_term.specs.declared.node.TermNode.{TermNode}
use Rattle.hy_term.specs.declared.node.TermNode.TheVariants.{Lit, ZeroMap, Variable, Unary, Binary, If, Select, Store}
use Rattle.hy_term.specs.declared.node.TermVariable.{TermVariable}

-- the variable at its place among variables that ascend by number; one that is there stays
abbrev pub insert : TermVariable → List TermVariable → List TermVariable
insert v [] = v ∷ []
insert v (w ∷ ws) = if nat_lt w.number v.number then w ∷ insert v ws else if nat_eq w.number v.number then w ∷ ws else v ∷ w ∷ ws

abbrev pub with_variable : List TermVariable → TermNode → List TermVariable
with_variable vs (Lit a) = vs
with_variable vs (ZeroMap index elem) = vs
with_variable vs (Variable number sort) = insert (record { number = number; sort = sort }) vs
with_variable vs (Unary op child) = vs
with_variable vs (Binary op left right) = vs
with_variable vs (If test one other) = vs
with_variable vs (Select map index) = vs
with_variable vs (Store map index value) = vs

abbrev pub variables_onto : List TermVariable → List TermNode → List TermVariable
variables_onto vs [] = vs
variables_onto vs (node ∷ nodes) = variables_onto (with_variable vs node) nodes

-- the variables that stand in the nodes, each once, ascending by number
abbrev pub variables : List TermNode → List TermVariable
variables nodes = variables_onto [] nodes

abbrev pub numbers_of : List TermVariable → List ℕ
numbers_of vs = map (λ (v : TermVariable). v.number) vs

abbrev pub numbers : List TermNode → List ℕ
numbers nodes = numbers_of (variables nodes)

-- each number is below the next
abbrev pub first_above : ℕ → List ℕ → Bool
first_above n [] = true
first_above n (m ∷ ms) = nat_lt n m

abbrev pub ascend : List ℕ → Bool
ascend [] = true
ascend (m ∷ ms) = first_above m ms && ascend ms

-- one value for each variable, which has its sort
abbrev pub have_sorts : List TermVariable → List Value → Bool
have_sorts [] [] = true
have_sorts [] (w ∷ ws) = false
have_sorts (v ∷ vs) [] = false
have_sorts (v ∷ vs) (w ∷ ws) = has_sort w v.sort && have_sorts vs ws

-- each has a scalar sort, whose width is 1 to 64
abbrev pub are_scalars : List TermVariable → Bool
are_scalars [] = true
are_scalars (v ∷ vs) = (is_scalar_sort v.sort && is_sort v.sort) && are_scalars vs

-- how many variables at the front have a number below this
abbrev pub count_below : ℕ → List TermVariable → ℕ
count_below n [] = zero
count_below n (v ∷ vs) = if nat_lt v.number n then suc (count_below n vs) else zero

-- the variable has this number
abbrev pub has_number : ℕ → Option TermVariable → Bool
has_number n None = false
has_number n (Some v) = nat_eq v.number n

-- the assignment that a list of values for these numbers stands for; false elsewhere
abbrev pub of_list : List ℕ → List Value → ℕ → Value
of_list [] vs n = AtomValue (BoolAtom false)
of_list (m ∷ ms) [] n = AtomValue (BoolAtom false)
of_list (m ∷ ms) (v ∷ vs) n = if nat_eq n m then v else of_list ms vs n

abbrev pub is_in : ℕ → List ℕ → Bool
is_in n [] = false
is_in n (m ∷ ms) = nat_eq n m || is_in n ms

-- the assignments agree on these numbers
abbrev pub Agree : (ℕ → Value) → (ℕ → Value) → List ℕ → Type 0
Agree a b ms = (n : ℕ) → is_in n ms ≡ true → a n ≡ b n

-- the variables' numbers are below a number
abbrev pub node_below : ℕ → TermNode → Bool
node_below k (Lit a) = true
node_below k (ZeroMap index elem) = true
node_below k (Variable number sort) = nat_lt number k
node_below k (Unary op child) = true
node_below k (Binary op left right) = true
node_below k (If test one other) = true
node_below k (Select map index) = true
node_below k (Store map index value) = true

abbrev pub below : ℕ → List TermNode → Bool
below k [] = true
below k (node ∷ nodes) = node_below k node && below k nodes

-- what an assignment gives the numbers from k on, so many
abbrev pub reads : (ℕ → Value) → ℕ → ℕ → List Value
reads a k zero = []
reads a k (suc n) = a k ∷ reads a (k + 1) n
