-- The nodes before one of them read the variables alone that stand there.
use Rattle.std.proofs.Common.{◌≡◌, ℕ, zero, suc, ◌+◌, ◌<◌, List, [], ◌∷◌, ◌++◌, length, map, refl, sym, ap, ◌∙◌, arith, length-append}
use Rattle.std.specs.Prelude.{Some, slice_get}
use Rattle.hy_val.specs.Values.{at}
use Rattle.hy_val.specs.declared.sort.Sort.{Sort}
use Rattle.hy_val.specs.declared.value.Value.{Value}
use Rattle.hy_term.specs.Meaning.{values, value, values_onto, node_value}
use Rattle.hy_term.specs.declared.node.TermNode.{TermNode}
use Rattle.hy_term.specs.declared.node.TermNode.TheVariants.{Lit, ZeroMap, Variable, Unary, Binary, If, Select, Store}
use Rattle.vc_gen.specs.Emit.{AllBefore}

-- a value that is known stays where more follow
at_front : (xs ys : List Value) (t : ℕ) → t < length xs → at (xs ++ ys) t ≡ at xs t
at_front [] ys t l = absurd (omega (arith, l))
at_front (x ∷ xs) ys zero l = refl
at_front (x ∷ xs) ys (suc t) l = at_front xs ys t (omega (arith, l))

onto_keeps : (a : ℕ → Value) (known : List Value) (nodes : List TermNode) (t : ℕ) → t < length known → at (values_onto a known nodes) t ≡ at known t
onto_keeps a known [] t l = refl
onto_keeps a known (node ∷ nodes) t l =
    let n = length-append known (node_value a known node ∷ []) in
    onto_keeps a (known ++ node_value a known node ∷ []) nodes t (omega (arith, n, l)) ∙ at_front known (node_value a known node ∷ []) t l

node_same : (a b : ℕ → Value) (known : List Value) (node : TermNode) → ((n : ℕ) (s : Sort) → node ≡ Variable n s → a n ≡ b n) → node_value a known node ≡ node_value b known node
node_same a b known (Lit v) h = refl
node_same a b known (ZeroMap i e) h = refl
node_same a b known (Variable n s) h = h n s refl
node_same a b known (Unary op child) h = refl
node_same a b known (Binary op left right) h = refl
node_same a b known (If test one other) h = refl
node_same a b known (Select m i) h = refl
node_same a b known (Store m i v) h = refl

-- assignments that agree on the variables among the first m nodes give these the same values
onto_same : (a b : ℕ → Value) (known : List Value) (nodes : List TermNode) (m : ℕ) → ((y n : ℕ) (s : Sort) → y < m → slice_get nodes y ≡ Some (Variable n s) → a n ≡ b n) → (t : ℕ) → t < length known + m →
    at (values_onto a known nodes) t ≡ at (values_onto b known nodes) t
onto_same a b known [] m h t l = refl
onto_same a b known (node ∷ nodes) zero h t l = onto_keeps a known (node ∷ nodes) t (omega (arith, l)) ∙ sym (onto_keeps b known (node ∷ nodes) t (omega (arith, l)))
onto_same a b known (node ∷ nodes) (suc m) h t l =
    let e = node_same a b known node (λ n s is. h 0 n s (omega arith) (ap (λ (x : TermNode). Some x) is)) in
    let n = length-append known (node_value a known node ∷ []) in
    onto_same a b (known ++ node_value a known node ∷ []) nodes m (λ y v s l2 is. h (suc y) v s (omega (arith, l2)) is) t (omega (arith, n, l))
    ∙ ap (λ v. at (values_onto b (known ++ v ∷ []) nodes) t) e

pub low_same : (a b : ℕ → Value) (nodes : List TermNode) (m : ℕ) → ((y n : ℕ) (s : Sort) → y < m → slice_get nodes y ≡ Some (Variable n s) → a n ≡ b n) → (t : ℕ) → t < m → value a nodes t ≡ value b nodes t
low_same a b nodes m h t l = onto_same a b [] nodes m h t (omega (arith, l))

pub lows_same : (a b : ℕ → Value) (nodes : List TermNode) (m : ℕ) → ((y n : ℕ) (s : Sort) → y < m → slice_get nodes y ≡ Some (Variable n s) → a n ≡ b n) → (ts : List ℕ) → AllBefore m ts →
    map (at (values a nodes)) ts ≡ map (at (values b nodes)) ts
lows_same a b nodes m h [] l = refl
lows_same a b nodes m h (t ∷ ts) l = ap (λ v. v ∷ map (at (values a nodes)) ts) (low_same a b nodes m h t l.0) ∙ ap (λ vs. at (values b nodes) t ∷ vs) (lows_same a b nodes m h ts l.1)
