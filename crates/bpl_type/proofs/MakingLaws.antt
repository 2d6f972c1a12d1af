-- Lists of nodes in the making: the term that they are, and terms in place of the locals of a body.
use Rattle.std.proofs.Common.{◌≡◌, ℕ, ◌+◌, ◌-◌, ◌<◌, ◌≤◌, ◌%◌, Bool, true, false, List, [], ◌∷◌, ◌++◌, length, map, fold, Option, Some, None, refl, sym, ◌∙◌, ap, arith, append_assoc, length-append, unwrap_or, get_or, take, slice_index}
use Rattle.std.specs.List.{slice_get}
use Rattle.std.specs.Option.{option_map}
use Rattle.std.specs.Prelude.{nat_lt, if◌then◌else◌}
use Rattle.std.proofs.lemmas.Bool.Decides.{nat_tests}
use Rattle.std.proofs.lemmas.List.{map-append, take_more}
use Rattle.std.proofs.lemmas.List.Sums.{fold_more}
use Rattle.std.proofs.Math.Nat.{mod-eq_of_lt}
use Rattle.std.proofs.lemmas.Option.{slice_get-map, get_or_from_slice_get}
use Rattle.hy_val.specs.declared.atom.Atom.{Atom}
use Rattle.hy_val.specs.declared.expr.ExprNode.{ExprNode}
use Rattle.hy_val.specs.declared.expr.ExprNode.TheVariants as nodes
use Rattle.hy_val.specs.declared.expr.Var.{Var}
use Rattle.hy_val.specs.declared.expr.Var.TheVariants.{Const, Global, Local}
use Rattle.hy_val.specs.declared.operator.BvOp.{BvOp}
use Rattle.hy_val.specs.declared.operator.BvOp.TheVariants.{Implies}
use Rattle.hy_val.specs.declared.operator.UnOp.{UnOp}
use Rattle.hy_val.specs.declared.sort.Sort.{Sort}
use Rattle.bpl_type.specs.Making.{with_term, renumbered, term_at, term_next, terms_of, read_back, placed, placed_as}
use Rattle.type_pass.specs.Terms.{Term, lit, read, unary, binary, implied, choice, select, store, size, nodes_from, nodes_of, missing, local_term, substituted}
use Rattle.bpl_type.proofs.NodeRuns.{Steps, ran, size-some}
use Rattle.bpl_type.proofs.TermLaws.{length-nodes}

-- ---- the term that a list of nodes is

abbrev read_step : List Term × Unit {0} → ExprNode → List Term × Unit {0}
read_step s node = (s.0 ++ term_next s.0 node ∷ [], tt)

abbrev whole_term : Unit {0} → Term → Term
whole_term x t = t

abbrev no_more : Unit {0} → Term → Unit {0}
no_more x t = tt

at-is : (known : List Term) (i : ℕ) (t : Term) → slice_get known i ≡ Some t → term_at known i ≡ t
at-is known i t h = ap (λ o. unwrap_or o missing) h

lt-is : (i j : ℕ) → i < j → nat_lt i j ≡ true
lt-is i j h = grind (arith, nat_tests)

not-lt : (i j : ℕ) → i < j → nat_lt j i ≡ false
not-lt i j h = grind (arith, nat_tests)

behind : List Term → Term → List Term × Unit {0}
behind known t = (known ++ t ∷ [], tt)

reads : Steps read_step whole_term no_more
unfolding behind
reads = record {
  of_lit = λ known x a. refl;
  of_read = λ known x v s. refl;
  of_unary = λ known x op a i at. ap (λ c. behind known (unary op c)) (at-is known i a at);
  of_binary = λ known x op a b i j at bt less.
      ap (λ c. behind known c) (ap (λ (c : Bool). if c then binary op (term_at known i) (term_at known j) else implied (term_at known j) (term_at known i)) (lt-is i j less)
      ∙ ap (λ c. binary op c (term_at known j)) (at-is known i a at) ∙ ap (binary op a) (at-is known j b bt));
  of_implied = λ known x a b i j at bt less.
      ap (λ c. behind known c) (ap (λ (c : Bool). if c then binary Implies (term_at known j) (term_at known i) else implied (term_at known i) (term_at known j)) (not-lt i j less)
      ∙ ap (λ c. implied c (term_at known j)) (at-is known i a at) ∙ ap (implied a) (at-is known j b bt));
  of_choice = λ known x c a b i j k at bt ct.
      ap (λ d. behind known d) (ap (λ d. choice d (term_at known j) (term_at known k)) (at-is known i c at) ∙ ap (λ d. choice c d (term_at known k)) (at-is known j a bt) ∙ ap (choice c a) (at-is known k b ct));
  of_select = λ known x a b i j at bt. ap (λ d. behind known d) (ap (λ d. select d (term_at known j)) (at-is known i a at) ∙ ap (select a) (at-is known j b bt));
  of_store = λ known x c a b i j k at bt ct.
      ap (λ d. behind known d) (ap (λ d. store d (term_at known j) (term_at known k)) (at-is known i c at) ∙ ap (λ d. store c d (term_at known k)) (at-is known j a bt) ∙ ap (store c a) (at-is known k b ct));
}

terms-run : (ns : List ExprNode) (known : List Term) → fold (λ ts node. ts ++ term_next ts node ∷ []) known ns ≡ (fold read_step (known, tt) ns).0
terms-run [] known = refl
terms-run (n ∷ ns) known = terms-run ns (known ++ term_next known n ∷ [])

-- the nodes of a term are that term
pub reads-back : (t : Term) → read_back (nodes_of t) ≡ t
unfolding read_back
reads-back t =
    let r = ran read_step whole_term no_more reads t [] tt in
    let place : length (nodes_of t) - 1 ≡ 0 + size t - 1 = ap (λ n. n - 1) (length-nodes 0 t) ∙ omega arith in
    ap (term_at (terms_of (nodes_of t))) place ∙ ap (λ ts. term_at ts (0 + size t - 1)) (terms-run (nodes_of t) [] ∙ ap (λ (s : List Term × Unit {0}). s.0) r.whole) ∙ at-is ([] ++ r.more) (0 + size t - 1) t r.last

-- ---- terms behind others

pub length-with : (out : List ExprNode) (t : Term) → length (with_term out t) ≡ length out + size t
unfolding with_term
length-with out t = length-append out (nodes_from (length out) t) ∙ ap (λ n. length out + n) (length-nodes (length out) t)

pub with-nothing : (t : Term) → with_term [] t ≡ nodes_of t
unfolding with_term
with-nothing t = refl

pub with-lit : (out : List ExprNode) (a : Atom) → with_term out (lit a) ≡ out ++ nodes.Lit a ∷ []
unfolding with_term
with-lit out a = refl

pub with-read : (out : List ExprNode) (x : Var) (s : Sort) → with_term out (read x s) ≡ out ++ nodes.Var x s ∷ []
unfolding with_term
with-read out x s = refl

last-one : (out : List ExprNode) (a : Term) → length out + size a - 1 ≡ length (with_term out a) - 1
last-one out a = ap (λ n. n - 1) (sym (length-with out a))

last-two : (out : List ExprNode) (a b : Term) → length out + size a + size b - 1 ≡ length (with_term (with_term out a) b) - 1
last-two out a b = ap (λ n. n - 1) (sym (length-with (with_term out a) b ∙ ap (λ n. n + size b) (length-with out a)))

last-three : (out : List ExprNode) (c a b : Term) → length out + size c + size a + size b - 1 ≡ length (with_term (with_term (with_term out c) a) b) - 1
last-three out c a b = ap (λ n. n - 1) (sym (length-with (with_term (with_term out c) a) b ∙ ap (λ n. n + size b) (length-with (with_term out c) a ∙ ap (λ n. n + size a) (length-with out c))))

with-two : (out : List ExprNode) (a b : Term) → with_term (with_term out a) b ≡ out ++ (nodes_from (length out) a ++ nodes_from (length out + size a) b)
unfolding with_term
with-two out a b = ap (λ n. (out ++ nodes_from (length out) a) ++ nodes_from n b) (length-with out a) ∙ append_assoc out (nodes_from (length out) a) (nodes_from (length out + size a) b)

with-three : (out : List ExprNode) (c a b : Term)
    → with_term (with_term (with_term out c) a) b ≡ out ++ (nodes_from (length out) c ++ nodes_from (length out + size c) a ++ nodes_from (length out + size c + size a) b)
unfolding with_term
with-three out c a b =
    let ca = nodes_from (length out) c ++ nodes_from (length out + size c) a in
    ap (λ n. with_term (with_term out c) a ++ nodes_from n b) (length-with (with_term out c) a ∙ ap (λ n. n + size a) (length-with out c))
    ∙ ap (λ ns. ns ++ nodes_from (length out + size c + size a) b) (with-two out c a)
    ∙ append_assoc out ca (nodes_from (length out + size c + size a) b)

pub with-unary : (out : List ExprNode) (op : UnOp) (a : Term) → with_term out (unary op a) ≡ with_term out a ++ nodes.Unary op (length (with_term out a) - 1) ∷ []
unfolding with_term
with-unary out op a =
    sym (append_assoc out (nodes_from (length out) a) (nodes.Unary op (length out + size a - 1) ∷ [])) ∙ ap (λ n. (out ++ nodes_from (length out) a) ++ nodes.Unary op n ∷ []) (last-one out a)

-- a node of two operands
node-two : (out : List ExprNode) (a b t : Term) (f : ℕ → ℕ → ExprNode)
    → nodes_from (length out) t ≡ nodes_from (length out) a ++ nodes_from (length out + size a) b ++ f (length out + size a - 1) (length out + size a + size b - 1) ∷ []
    → with_term out t ≡ with_term (with_term out a) b ++ f (length (with_term out a) - 1) (length (with_term (with_term out a) b) - 1) ∷ []
unfolding with_term
node-two out a b t f is =
    let ab = nodes_from (length out) a ++ nodes_from (length out + size a) b in
    ap (λ ns. out ++ ns) is ∙ sym (append_assoc out ab (f (length out + size a - 1) (length out + size a + size b - 1) ∷ []))
    ∙ ap (λ ns. ns ++ f (length out + size a - 1) (length out + size a + size b - 1) ∷ []) (sym (with-two out a b))
    ∙ ap (λ n. with_term (with_term out a) b ++ f n (length out + size a + size b - 1) ∷ []) (last-one out a)
    ∙ ap (λ n. with_term (with_term out a) b ++ f (length (with_term out a) - 1) n ∷ []) (last-two out a b)

-- a node of three operands
node-three : (out : List ExprNode) (c a b t : Term) (f : ℕ → ℕ → ℕ → ExprNode)
    → nodes_from (length out) t ≡ nodes_from (length out) c ++ nodes_from (length out + size c) a ++ nodes_from (length out + size c + size a) b ++ f (length out + size c - 1) (length out + size c + size a - 1) (length out + size c + size a + size b - 1) ∷ []
    → with_term out t ≡ with_term (with_term (with_term out c) a) b ++ f (length (with_term out c) - 1) (length (with_term (with_term out c) a) - 1) (length (with_term (with_term (with_term out c) a) b) - 1) ∷ []
unfolding with_term
node-three out c a b t f is =
    let cab = nodes_from (length out) c ++ nodes_from (length out + size c) a ++ nodes_from (length out + size c + size a) b in
    let i = length out + size c - 1 in
    let j = length out + size c + size a - 1 in
    let k = length out + size c + size a + size b - 1 in
    let whole = with_term (with_term (with_term out c) a) b in
    ap (λ ns. out ++ ns) is ∙ sym (append_assoc out cab (f i j k ∷ []))
    ∙ ap (λ ns. ns ++ f i j k ∷ []) (sym (with-three out c a b))
    ∙ ap (λ n. whole ++ f n j k ∷ []) (last-one out c)
    ∙ ap (λ n. whole ++ f (length (with_term out c) - 1) n k ∷ []) (last-two out c a)
    ∙ ap (λ n. whole ++ f (length (with_term out c) - 1) (length (with_term (with_term out c) a) - 1) n ∷ []) (last-three out c a b)

pub with-binary : (out : List ExprNode) (op : BvOp) (a b : Term)
    → with_term out (binary op a b) ≡ with_term (with_term out a) b ++ nodes.Binary op (length (with_term out a) - 1) (length (with_term (with_term out a) b) - 1) ∷ []
with-binary out op a b = node-two out a b (binary op a b) (λ i j. nodes.Binary op i j) refl

pub with-implied : (out : List ExprNode) (a b : Term)
    → with_term out (implied a b) ≡ with_term (with_term out a) b ++ nodes.Binary Implies (length (with_term (with_term out a) b) - 1) (length (with_term out a) - 1) ∷ []
with-implied out a b = node-two out a b (implied a b) (λ i j. nodes.Binary Implies j i) refl

pub with-select : (out : List ExprNode) (a b : Term)
    → with_term out (select a b) ≡ with_term (with_term out a) b ++ nodes.Select (length (with_term out a) - 1) (length (with_term (with_term out a) b) - 1) ∷ []
with-select out a b = node-two out a b (select a b) (λ i j. nodes.Select i j) refl

pub with-choice : (out : List ExprNode) (c a b : Term)
    → with_term out (choice c a b) ≡ with_term (with_term (with_term out c) a) b ++ nodes.If (length (with_term out c) - 1) (length (with_term (with_term out c) a) - 1) (length (with_term (with_term (with_term out c) a) b) - 1) ∷ []
with-choice out c a b = node-three out c a b (choice c a b) (λ i j k. nodes.If i j k) refl

pub with-store : (out : List ExprNode) (c a b : Term)
    → with_term out (store c a b) ≡ with_term (with_term (with_term out c) a) b ++ nodes.Store (length (with_term out c) - 1) (length (with_term (with_term out c) a) - 1) (length (with_term (with_term (with_term out c) a) b) - 1) ∷ []
with-store out c a b = node-three out c a b (store c a b) (λ i j k. nodes.Store i j k) refl

-- ---- nodes that stand later

number-is : (w n x y : ℕ) → n + x ≡ y → y < w → (n + x) % w ≡ y
number-is w n x y same less = let lt : n + x < w = omega arith in mod-eq_of_lt lt ∙ same

module _ (w n : ℕ) where
  abbrev pub later : ExprNode → ExprNode
  later node = renumbered (λ c. (n + c) % w) node

  moved-two : (m : ℕ) (a b : Term) → map later (nodes_from m a) ≡ nodes_from (n + m) a → map later (nodes_from (m + size a) b) ≡ nodes_from (n + (m + size a)) b
      → map later (nodes_from m a ++ nodes_from (m + size a) b) ≡ nodes_from (n + m) a ++ nodes_from (n + m + size a) b
  moved-two m a b ia ib =
      let place : n + (m + size a) ≡ n + m + size a = omega arith in
      map-append later (nodes_from m a) (nodes_from (m + size a) b) ∙ ap (λ ns. ns ++ map later (nodes_from (m + size a) b)) ia
      ∙ ap (λ ns. nodes_from (n + m) a ++ ns) (ib ∙ ap (λ k. nodes_from k b) place)

  moved-three : (m : ℕ) (c a b : Term) → map later (nodes_from m c) ≡ nodes_from (n + m) c → map later (nodes_from (m + size c) a) ≡ nodes_from (n + (m + size c)) a
      → map later (nodes_from (m + size c + size a) b) ≡ nodes_from (n + (m + size c + size a)) b
      → map later (nodes_from m c ++ nodes_from (m + size c) a ++ nodes_from (m + size c + size a) b) ≡ nodes_from (n + m) c ++ nodes_from (n + m + size c) a ++ nodes_from (n + m + size c + size a) b
  moved-three m c a b ic ia ib =
      let place : n + (m + size c + size a) ≡ n + m + size c + size a = omega arith in
      map-append later (nodes_from m c ++ nodes_from (m + size c) a) (nodes_from (m + size c + size a) b)
      ∙ ap (λ ns. ns ++ map later (nodes_from (m + size c + size a) b)) (moved-two m c a ic ia)
      ∙ ap (λ ns. nodes_from (n + m) c ++ nodes_from (n + m + size c) a ++ ns) (ib ∙ ap (λ k. nodes_from k b) place)

  moved-end : (ns ms : List ExprNode) (u v : ExprNode) → map later ns ≡ ms → later u ≡ v → map later (ns ++ u ∷ []) ≡ ms ++ v ∷ []
  moved-end ns ms u v h k = map-append later ns (u ∷ []) ∙ ap (λ xs. xs ++ later u ∷ []) h ∙ ap (λ x. ms ++ x ∷ []) k

  pub moved-nodes : (m : ℕ) (t : Term) → n + m + size t ≤ w → map later (nodes_from m t) ≡ nodes_from (n + m) t
  moved-nodes m (lit a) fits = refl
  moved-nodes m (read x sort) fits = refl
  moved-nodes m (unary op a) fits =
      let pa = size-some a in
      let fa : n + m + size a ≤ w = omega arith in
      let i : (n + (m + size a - 1)) % w ≡ n + m + size a - 1 = number-is w n (m + size a - 1) (n + m + size a - 1) (omega arith) (omega arith) in
      moved-end (nodes_from m a) (nodes_from (n + m) a) (nodes.Unary op (m + size a - 1)) (nodes.Unary op (n + m + size a - 1)) (moved-nodes m a fa) (ap (λ k. nodes.Unary op k) i)
  moved-nodes m (binary op a b) fits =
      let pa = size-some a in
      let pb = size-some b in
      let fa : n + m + size a ≤ w = omega arith in
      let fb : n + (m + size a) + size b ≤ w = omega arith in
      let i : (n + (m + size a - 1)) % w ≡ n + m + size a - 1 = number-is w n (m + size a - 1) (n + m + size a - 1) (omega arith) (omega arith) in
      let j : (n + (m + size a + size b - 1)) % w ≡ n + m + size a + size b - 1 = number-is w n (m + size a + size b - 1) (n + m + size a + size b - 1) (omega arith) (omega arith) in
      moved-end (nodes_from m a ++ nodes_from (m + size a) b) (nodes_from (n + m) a ++ nodes_from (n + m + size a) b) (nodes.Binary op (m + size a - 1) (m + size a + size b - 1)) (nodes.Binary op (n + m + size a - 1) (n + m + size a + size b - 1))
      (moved-two m a b (moved-nodes m a fa) (moved-nodes (m + size a) b fb)) (ap (λ k. nodes.Binary op k ((n + (m + size a + size b - 1)) % w)) i ∙ ap (λ k. nodes.Binary op (n + m + size a - 1) k) j)
  moved-nodes m (implied a b) fits =
      let pa = size-some a in
      let pb = size-some b in
      let fa : n + m + size a ≤ w = omega arith in
      let fb : n + (m + size a) + size b ≤ w = omega arith in
      let i : (n + (m + size a - 1)) % w ≡ n + m + size a - 1 = number-is w n (m + size a - 1) (n + m + size a - 1) (omega arith) (omega arith) in
      let j : (n + (m + size a + size b - 1)) % w ≡ n + m + size a + size b - 1 = number-is w n (m + size a + size b - 1) (n + m + size a + size b - 1) (omega arith) (omega arith) in
      moved-end (nodes_from m a ++ nodes_from (m + size a) b) (nodes_from (n + m) a ++ nodes_from (n + m + size a) b) (nodes.Binary Implies (m + size a + size b - 1) (m + size a - 1)) (nodes.Binary Implies (n + m + size a + size b - 1) (n + m + size a - 1))
      (moved-two m a b (moved-nodes m a fa) (moved-nodes (m + size a) b fb)) (ap (λ k. nodes.Binary Implies k ((n + (m + size a - 1)) % w)) j ∙ ap (λ k. nodes.Binary Implies (n + m + size a + size b - 1) k) i)
  moved-nodes m (select a b) fits =
      let pa = size-some a in
      let pb = size-some b in
      let fa : n + m + size a ≤ w = omega arith in
      let fb : n + (m + size a) + size b ≤ w = omega arith in
      let i : (n + (m + size a - 1)) % w ≡ n + m + size a - 1 = number-is w n (m + size a - 1) (n + m + size a - 1) (omega arith) (omega arith) in
      let j : (n + (m + size a + size b - 1)) % w ≡ n + m + size a + size b - 1 = number-is w n (m + size a + size b - 1) (n + m + size a + size b - 1) (omega arith) (omega arith) in
      moved-end (nodes_from m a ++ nodes_from (m + size a) b) (nodes_from (n + m) a ++ nodes_from (n + m + size a) b) (nodes.Select (m + size a - 1) (m + size a + size b - 1)) (nodes.Select (n + m + size a - 1) (n + m + size a + size b - 1))
      (moved-two m a b (moved-nodes m a fa) (moved-nodes (m + size a) b fb)) (ap (λ k. nodes.Select k ((n + (m + size a + size b - 1)) % w)) i ∙ ap (λ k. nodes.Select (n + m + size a - 1) k) j)
  moved-nodes m (choice c a b) fits =
      let pc = size-some c in
      let pa = size-some a in
      let pb = size-some b in
      let fc : n + m + size c ≤ w = omega arith in
      let fa : n + (m + size c) + size a ≤ w = omega arith in
      let fb : n + (m + size c + size a) + size b ≤ w = omega arith in
      let h : (n + (m + size c - 1)) % w ≡ n + m + size c - 1 = number-is w n (m + size c - 1) (n + m + size c - 1) (omega arith) (omega arith) in
      let i : (n + (m + size c + size a - 1)) % w ≡ n + m + size c + size a - 1 = number-is w n (m + size c + size a - 1) (n + m + size c + size a - 1) (omega arith) (omega arith) in
      let j : (n + (m + size c + size a + size b - 1)) % w ≡ n + m + size c + size a + size b - 1 = number-is w n (m + size c + size a + size b - 1) (n + m + size c + size a + size b - 1) (omega arith) (omega arith) in
      moved-end (nodes_from m c ++ nodes_from (m + size c) a ++ nodes_from (m + size c + size a) b) (nodes_from (n + m) c ++ nodes_from (n + m + size c) a ++ nodes_from (n + m + size c + size a) b)
      (nodes.If (m + size c - 1) (m + size c + size a - 1) (m + size c + size a + size b - 1)) (nodes.If (n + m + size c - 1) (n + m + size c + size a - 1) (n + m + size c + size a + size b - 1))
      (moved-three m c a b (moved-nodes m c fc) (moved-nodes (m + size c) a fa) (moved-nodes (m + size c + size a) b fb))
      (ap (λ k. nodes.If k ((n + (m + size c + size a - 1)) % w) ((n + (m + size c + size a + size b - 1)) % w)) h ∙ ap (λ k. nodes.If (n + m + size c - 1) k ((n + (m + size c + size a + size b - 1)) % w)) i ∙ ap (λ k. nodes.If (n + m + size c - 1) (n + m + size c + size a - 1) k) j)
  moved-nodes m (store c a b) fits =
      let pc = size-some c in
      let pa = size-some a in
      let pb = size-some b in
      let fc : n + m + size c ≤ w = omega arith in
      let fa : n + (m + size c) + size a ≤ w = omega arith in
      let fb : n + (m + size c + size a) + size b ≤ w = omega arith in
      let h : (n + (m + size c - 1)) % w ≡ n + m + size c - 1 = number-is w n (m + size c - 1) (n + m + size c - 1) (omega arith) (omega arith) in
      let i : (n + (m + size c + size a - 1)) % w ≡ n + m + size c + size a - 1 = number-is w n (m + size c + size a - 1) (n + m + size c + size a - 1) (omega arith) (omega arith) in
      let j : (n + (m + size c + size a + size b - 1)) % w ≡ n + m + size c + size a + size b - 1 = number-is w n (m + size c + size a + size b - 1) (n + m + size c + size a + size b - 1) (omega arith) (omega arith) in
      moved-end (nodes_from m c ++ nodes_from (m + size c) a ++ nodes_from (m + size c + size a) b) (nodes_from (n + m) c ++ nodes_from (n + m + size c) a ++ nodes_from (n + m + size c + size a) b)
      (nodes.Store (m + size c - 1) (m + size c + size a - 1) (m + size c + size a + size b - 1)) (nodes.Store (n + m + size c - 1) (n + m + size c + size a - 1) (n + m + size c + size a + size b - 1))
      (moved-three m c a b (moved-nodes m c fc) (moved-nodes (m + size c) a fa) (moved-nodes (m + size c + size a) b fb))
      (ap (λ k. nodes.Store k ((n + (m + size c + size a - 1)) % w) ((n + (m + size c + size a + size b - 1)) % w)) h ∙ ap (λ k. nodes.Store (n + m + size c - 1) k ((n + (m + size c + size a + size b - 1)) % w)) i ∙ ap (λ k. nodes.Store (n + m + size c - 1) (n + m + size c + size a - 1) k) j)

pub appended : (w : ℕ) (out made : List ExprNode) → made ≡ nodes_of (read_back made) → length out + length made < w → out ++ map (later w (length out)) made ≡ with_term out (read_back made)
unfolding with_term
appended w out made is less =
    let counted : length made ≡ size (read_back made) = ap length is ∙ length-nodes 0 (read_back made) in
    let fits : length out + 0 + size (read_back made) ≤ w = omega arith in
    let place : length out + 0 ≡ length out = omega arith in
    ap (λ ns. out ++ ns) (ap (map (later w (length out))) is ∙ moved-nodes w (length out) 0 (read_back made) fits ∙ ap (λ n. nodes_from n (read_back made)) place)

-- one node more
pub moved-further : (f : ExprNode → ExprNode) (out before after : List ExprNode) (ns : List ExprNode) (i : ℕ) (node : ExprNode) → i < length ns → node ≡ get_or ns i node → before ≡ out ++ map f (take i ns) → after ≡ before ++ f node ∷ []
    → after ≡ out ++ map f (take (i + 1) ns)
moved-further f out before after ns i node less at h k =
    k ∙ ap (λ xs. xs ++ f node ∷ []) h ∙ append_assoc out (map f (take i ns)) (f node ∷ [])
    ∙ ap (λ xs. out ++ xs) (sym (ap (map f) (take_more ns i node less) ∙ map-append f (take i ns) (get_or ns i node ∷ []) ∙ ap (λ x. map f (take i ns) ++ f x ∷ []) (sym at)))

-- ---- terms in place of the locals of a body

abbrev pub place_step : List (List ExprNode) → List ℕ × List ExprNode → ExprNode → List ℕ × List ExprNode
place_step arguments s node = (s.0 ++ (length (placed arguments s.0 s.1 node) - 1) ∷ [], placed arguments s.0 s.1 node)

module _ (arguments : List (List ExprNode)) where
  abbrev put_in : Term → Term
  put_in t = substituted (map read_back arguments) t

  abbrev place_value : List ExprNode → Term → ℕ
  place_value x t = length (with_term x (put_in t)) - 1

  abbrev place_next : List ExprNode → Term → List ExprNode
  place_next x t = with_term x (put_in t)

  put : List ℕ → List ExprNode → List ℕ × List ExprNode
  put known o = (known ++ (length o - 1) ∷ [], o)

  local-placed : (o : Option (List ExprNode)) (known : List ℕ) (x : List ExprNode) (n : ℕ) (s : Sort) → placed_as o known x (nodes.Var (Local n) s) ≡ with_term x (unwrap_or (option_map read_back o) (read (Local n) s))
  local-placed None known x n s = sym (with-read x (Local n) s)
  local-placed (Some made) known x n s = refl

  read-placed : (known : List ℕ) (x : List ExprNode) (v : Var) (s : Sort) → placed arguments known x (nodes.Var v s) ≡ with_term x (local_term (map read_back arguments) v s)
  read-placed known x (Const n) s = sym (with-read x (Const n) s)
  read-placed known x (Global n) s = sym (with-read x (Global n) s)
  read-placed known x (Local n) s = local-placed (slice_get arguments n) known x n s ∙ ap (λ o. with_term x (unwrap_or o (read (Local n) s))) (sym (slice_get-map read_back arguments n))

  at-place : (known : List ℕ) (i v : ℕ) → slice_get known i ≡ Some v → slice_index known i ≡ v
  at-place known i v h = get_or_from_slice_get known i v 0 h

  places : Steps (place_step arguments) place_value place_next
  unfolding put
  places = record {
    of_lit = λ known x a. ap (put known) (sym (with-lit x a));
    of_read = λ known x v s. ap (put known) (read-placed known x v s);
    of_unary = λ known x op a i at. ap (put known) (ap (λ k. place_next x a ++ nodes.Unary op k ∷ []) (at-place known i _ at) ∙ sym (with-unary x op (put_in a)));
    of_binary = λ known x op a b i j at bt less. ap (put known)
        (ap (λ k. place_next (place_next x a) b ++ nodes.Binary op k (slice_index known j) ∷ []) (at-place known i _ at)
        ∙ ap (λ k. place_next (place_next x a) b ++ nodes.Binary op (place_value x a) k ∷ []) (at-place known j _ bt) ∙ sym (with-binary x op (put_in a) (put_in b)));
    of_implied = λ known x a b i j at bt less. ap (put known)
        (ap (λ k. place_next (place_next x a) b ++ nodes.Binary Implies (slice_index known j) k ∷ []) (at-place known i _ at)
        ∙ ap (λ k. place_next (place_next x a) b ++ nodes.Binary Implies k (place_value x a) ∷ []) (at-place known j _ bt) ∙ sym (with-implied x (put_in a) (put_in b)));
    of_choice = λ known x c a b i j k at bt ct. ap (put known)
        (ap (λ n. place_next (place_next (place_next x c) a) b ++ nodes.If n (slice_index known j) (slice_index known k) ∷ []) (at-place known i _ at)
        ∙ ap (λ n. place_next (place_next (place_next x c) a) b ++ nodes.If (place_value x c) n (slice_index known k) ∷ []) (at-place known j _ bt)
        ∙ ap (λ n. place_next (place_next (place_next x c) a) b ++ nodes.If (place_value x c) (place_value (place_next x c) a) n ∷ []) (at-place known k _ ct) ∙ sym (with-choice x (put_in c) (put_in a) (put_in b)));
    of_select = λ known x a b i j at bt. ap (put known)
        (ap (λ k. place_next (place_next x a) b ++ nodes.Select k (slice_index known j) ∷ []) (at-place known i _ at)
        ∙ ap (λ k. place_next (place_next x a) b ++ nodes.Select (place_value x a) k ∷ []) (at-place known j _ bt) ∙ sym (with-select x (put_in a) (put_in b)));
    of_store = λ known x c a b i j k at bt ct. ap (put known)
        (ap (λ n. place_next (place_next (place_next x c) a) b ++ nodes.Store n (slice_index known j) (slice_index known k) ∷ []) (at-place known i _ at)
        ∙ ap (λ n. place_next (place_next (place_next x c) a) b ++ nodes.Store (place_value x c) n (slice_index known k) ∷ []) (at-place known j _ bt)
        ∙ ap (λ n. place_next (place_next (place_next x c) a) b ++ nodes.Store (place_value x c) (place_value (place_next x c) a) n ∷ []) (at-place known k _ ct) ∙ sym (with-store x (put_in c) (put_in a) (put_in b)));
  }

  -- what the steps over a whole body leave
  pub body-placed : (out : List ExprNode) (body : List ExprNode) (ps : List ℕ) (o : List ExprNode) → body ≡ nodes_of (read_back body) → (ps, o) ≡ fold (place_step arguments) ([], out) body → o ≡ with_term out (put_in (read_back body))
  body-placed out body ps o is h =
      let r = ran (place_step arguments) place_value place_next places (read_back body) [] out in
      ap (λ (s : List ℕ × List ExprNode). s.1) (h ∙ ap (fold (place_step arguments) ([], out)) is ∙ r.whole)

  -- one node more
  pub placed-further : (out : List ExprNode) (body : List ExprNode) (i : ℕ) (node : ExprNode) (ps : List ℕ) (o after : List ExprNode) (last : ℕ) → i < length body → node ≡ get_or body i node
      → (ps, o) ≡ fold (place_step arguments) ([], out) (take i body) → after ≡ placed arguments ps o node → last ≡ length after - 1
      → (ps ++ last ∷ [], after) ≡ fold (place_step arguments) ([], out) (take (i + 1) body)
  placed-further out body i node ps o after last less at h k e =
      ap (λ n. (ps ++ n ∷ [], after)) e ∙ ap (λ v. (ps ++ (length v - 1) ∷ [], v)) k
      ∙ ap (λ s. place_step arguments s node) h ∙ ap (place_step arguments (fold (place_step arguments) ([], out) (take i body))) at
      ∙ sym (fold_more (place_step arguments) ([], out) body i node less)

-- ---- a node that is pushed behind its operands

pub pushed : (f : ℕ → ExprNode) (out x new target : List ExprNode) (child : ℕ) → out ≡ x → child ≡ length out - 1 → new ≡ out ++ f child ∷ [] → target ≡ x ++ f (length x - 1) ∷ [] → new ≡ target
pushed f out x new target child h e k t = k ∙ ap (λ n. out ++ f n ∷ []) e ∙ ap (λ y. y ++ f (length y - 1) ∷ []) h ∙ sym t
