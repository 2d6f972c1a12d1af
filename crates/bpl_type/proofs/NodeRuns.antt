-- What goes over the nodes of a term from the first to the last, and keeps a value for each node.
use Rattle.std.proofs.Common.{◌≡◌, ℕ, zero, suc, ◌+◌, ◌-◌, ◌<◌, ◌≤◌, List, [], ◌∷◌, ◌++◌, length, fold, Some, refl, sym, ◌∙◌, ap, subst, arith, append_assoc, length-append}
use Rattle.std.specs.List.{slice_get}
use Rattle.hy_val.specs.declared.atom.Atom.{Atom}
use Rattle.hy_val.specs.declared.expr.ExprNode.{ExprNode}
use Rattle.hy_val.specs.declared.expr.ExprNode.TheVariants as nodes
use Rattle.hy_val.specs.declared.expr.Var.{Var}
use Rattle.hy_val.specs.declared.operator.BvOp.{BvOp}
use Rattle.hy_val.specs.declared.operator.BvOp.TheVariants.{Implies}
use Rattle.hy_val.specs.declared.operator.UnOp.{UnOp}
use Rattle.hy_val.specs.declared.sort.Sort.{Sort}
use Rattle.type_pass.specs.Terms.{Term, lit, read, unary, binary, implied, choice, select, store, size, nodes_from}

pub fold-append : {A B : Type 0} (f : B → A → B) (s : B) (xs ys : List A) → fold f s (xs ++ ys) ≡ fold f (fold f s xs) ys
fold-append f s [] ys = refl
fold-append f s (x ∷ xs) ys = fold-append f (f s x) xs ys

pub size-some : (t : Term) → 1 ≤ size t
size-some (lit a) = omega arith
size-some (read x sort) = omega arith
size-some (unary op a) = omega arith
size-some (binary op a b) = omega arith
size-some (implied a b) = omega arith
size-some (choice c a b) = omega arith
size-some (select m i) = omega arith
size-some (store m i v) = omega arith

get-seam : {V : Type 0} (xs : List V) (v : V) (i : ℕ) → i ≡ length xs → slice_get (xs ++ v ∷ []) i ≡ Some v
get-seam [] v i at = rw at refl
get-seam (x ∷ xs) v i at = rw at (get-seam xs v (length xs) refl)

get-more : {V : Type 0} (xs more : List V) (i : ℕ) (v : V) → slice_get xs i ≡ Some v → slice_get (xs ++ more) i ≡ Some v
get-more [] more i v h = absurd (cc)
get-more (x ∷ xs) more zero v h = h
get-more (x ∷ xs) more (suc i) v h = get-more xs more i v h

module _ {V X : Type 0} (step : List V × X → ExprNode → List V × X) (value : X → Term → V) (next : X → Term → X) where
  -- the value of a node from those of its operands, and what is left behind it
  abbrev pub Leads : List V → X → ExprNode → X → Term → Type 0
  Leads known behind node x t = step (known, behind) node ≡ (known ++ value x t ∷ [], next x t)

  pub record Steps : Type 0 where
    pub of_lit : (known : List V) (x : X) (a : Atom) → Leads known x (nodes.Lit a) x (lit a)
    pub of_read : (known : List V) (x : X) (v : Var) (s : Sort) → Leads known x (nodes.Var v s) x (read v s)
    pub of_unary : (known : List V) (x : X) (op : UnOp) (a : Term) (i : ℕ) → slice_get known i ≡ Some (value x a) → Leads known (next x a) (nodes.Unary op i) x (unary op a)
    pub of_binary : (known : List V) (x : X) (op : BvOp) (a b : Term) (i j : ℕ) → slice_get known i ≡ Some (value x a) → slice_get known j ≡ Some (value (next x a) b) → i < j
        → Leads known (next (next x a) b) (nodes.Binary op i j) x (binary op a b)
    pub of_implied : (known : List V) (x : X) (a b : Term) (i j : ℕ) → slice_get known i ≡ Some (value x a) → slice_get known j ≡ Some (value (next x a) b) → i < j
        → Leads known (next (next x a) b) (nodes.Binary Implies j i) x (implied a b)
    pub of_choice : (known : List V) (x : X) (c a b : Term) (i j k : ℕ) → slice_get known i ≡ Some (value x c) → slice_get known j ≡ Some (value (next x c) a) → slice_get known k ≡ Some (value (next (next x c) a) b)
        → Leads known (next (next (next x c) a) b) (nodes.If i j k) x (choice c a b)
    pub of_select : (known : List V) (x : X) (a b : Term) (i j : ℕ) → slice_get known i ≡ Some (value x a) → slice_get known j ≡ Some (value (next x a) b)
        → Leads known (next (next x a) b) (nodes.Select i j) x (select a b)
    pub of_store : (known : List V) (x : X) (c a b : Term) (i j k : ℕ) → slice_get known i ≡ Some (value x c) → slice_get known j ≡ Some (value (next x c) a) → slice_get known k ≡ Some (value (next (next x c) a) b)
        → Leads known (next (next (next x c) a) b) (nodes.Store i j k) x (store c a b)

  -- what the nodes of a term lead to
  pub record Ran (known : List V) (x : X) (t : Term) : Type 0 where
    pub more : List V
    pub counted : length more ≡ size t
    pub whole : fold step (known, x) (nodes_from (length known) t) ≡ (known ++ more, next x t)
    pub last : slice_get (known ++ more) (length known + size t - 1) ≡ Some (value x t)

  record Two (known : List V) (x : X) (a b : Term) : Type 0 where
    pub more : List V
    pub counted : length more ≡ size a + size b
    pub whole : fold step (known, x) (nodes_from (length known) a ++ nodes_from (length known + size a) b) ≡ (known ++ more, next (next x a) b)
    pub one : slice_get (known ++ more) (length known + size a - 1) ≡ Some (value x a)
    pub two : slice_get (known ++ more) (length known + size a + size b - 1) ≡ Some (value (next x a) b)

  record Three (known : List V) (x : X) (c a b : Term) : Type 0 where
    pub more : List V
    pub counted : length more ≡ size c + size a + size b
    pub whole : fold step (known, x) (nodes_from (length known) c ++ nodes_from (length known + size c) a ++ nodes_from (length known + size c + size a) b) ≡ (known ++ more, next (next (next x c) a) b)
    pub one : slice_get (known ++ more) (length known + size c - 1) ≡ Some (value x c)
    pub two : slice_get (known ++ more) (length known + size c + size a - 1) ≡ Some (value (next x c) a)
    pub three : slice_get (known ++ more) (length known + size c + size a + size b - 1) ≡ Some (value (next (next x c) a) b)

  -- one term more
  further : (known more : List V) (x y : X) (ns : List ExprNode) (count : ℕ) (t : Term) → length more ≡ count → fold step (known, x) ns ≡ (known ++ more, y)
      → (r : Ran (known ++ more) y t) → fold step (known, x) (ns ++ nodes_from (length known + count) t) ≡ (known ++ (more ++ r.more), next y t)
  further known more x y ns count t counted whole r =
      let place : length (known ++ more) ≡ length known + count = length-append known more ∙ ap (λ n. length known + n) counted in
      fold-append step (known, x) ns (nodes_from (length known + count) t)
      ∙ ap (λ s. fold step s (nodes_from (length known + count) t)) whole
      ∙ ap (λ n. fold step (known ++ more, y) (nodes_from n t)) (sym place)
      ∙ r.whole ∙ ap (λ vs. (vs, next y t)) (append_assoc known more r.more)

  two-of : (known : List V) (x : X) (a b : Term) (ra : Ran known x a) → Ran (known ++ ra.more) (next x a) b → Two known x a b
  two-of known x a b ra rb =
      let place : length (known ++ ra.more) ≡ length known + size a = length-append known ra.more ∙ ap (λ n. length known + n) ra.counted in
      record {
        more = ra.more ++ rb.more;
        counted = length-append ra.more rb.more ∙ omega (arith, ra.counted, rb.counted);
        whole = further known ra.more x (next x a) (nodes_from (length known) a) (size a) b ra.counted ra.whole rb;
        one = subst (λ vs. slice_get vs (length known + size a - 1) ≡ Some (value x a)) (append_assoc known ra.more rb.more) (get-more (known ++ ra.more) rb.more (length known + size a - 1) (value x a) ra.last);
        two = subst (λ vs. slice_get vs (length known + size a + size b - 1) ≡ Some (value (next x a) b)) (append_assoc known ra.more rb.more)
            (subst (λ n. slice_get ((known ++ ra.more) ++ rb.more) (n + size b - 1) ≡ Some (value (next x a) b)) place rb.last);
      }

  three-of : (known : List V) (x : X) (c a b : Term) (r : Two known x c a) → Ran (known ++ r.more) (next (next x c) a) b → Three known x c a b
  three-of known x c a b r rb =
      let place : length (known ++ r.more) ≡ length known + size c + size a = length-append known r.more ∙ omega (arith, r.counted) in
      let whole : length known + (size c + size a) ≡ length known + size c + size a = omega arith in
      record {
        more = r.more ++ rb.more;
        counted = length-append r.more rb.more ∙ omega (arith, r.counted, rb.counted);
        whole = subst (λ n. fold step (known, x) (nodes_from (length known) c ++ nodes_from (length known + size c) a ++ nodes_from n b) ≡ (known ++ (r.more ++ rb.more), next (next (next x c) a) b)) whole
            (further known r.more x (next (next x c) a) (nodes_from (length known) c ++ nodes_from (length known + size c) a) (size c + size a) b r.counted r.whole rb);
        one = subst (λ vs. slice_get vs (length known + size c - 1) ≡ Some (value x c)) (append_assoc known r.more rb.more) (get-more (known ++ r.more) rb.more (length known + size c - 1) (value x c) r.one);
        two = subst (λ vs. slice_get vs (length known + size c + size a - 1) ≡ Some (value (next x c) a)) (append_assoc known r.more rb.more) (get-more (known ++ r.more) rb.more (length known + size c + size a - 1) (value (next x c) a) r.two);
        three = subst (λ vs. slice_get vs (length known + size c + size a + size b - 1) ≡ Some (value (next (next x c) a) b)) (append_assoc known r.more rb.more)
            (subst (λ n. slice_get ((known ++ r.more) ++ rb.more) (n + size b - 1) ≡ Some (value (next (next x c) a) b)) place rb.last);
      }

  -- the last node
  ended : (known more : List V) (x y : X) (ns : List ExprNode) (count : ℕ) (node : ExprNode) (t : Term) → size t ≡ count + 1 → length more ≡ count → nodes_from (length known) t ≡ ns ++ node ∷ []
      → fold step (known, x) ns ≡ (known ++ more, y) → Leads (known ++ more) y node x t → Ran known x t
  ended known more x y ns count node t sized counted is whole leads = record {
    more = more ++ value x t ∷ [];
    counted = length-append more (value x t ∷ []) ∙ omega (arith, counted, sized);
    whole = ap (fold step (known, x)) is ∙ fold-append step (known, x) ns (node ∷ []) ∙ ap (λ s. step s node) whole ∙ leads ∙ ap (λ vs. (vs, next x t)) (append_assoc known more (value x t ∷ []));
    last = subst (λ vs. slice_get vs (length known + size t - 1) ≡ Some (value x t)) (append_assoc known more (value x t ∷ []))
        (get-seam (known ++ more) (value x t) (length known + size t - 1) (omega (arith, counted, sized, length-append known more)));
  }

  module _ (steps : Steps) where
    pub ran : (t : Term) (known : List V) (x : X) → Ran known x t
    ran (lit a) known x = record { more = value x (lit a) ∷ []; counted = refl; whole = steps.of_lit known x a; last = get-seam known (value x (lit a)) (length known + 1 - 1) (omega arith) }
    ran (read v s) known x = record { more = value x (read v s) ∷ []; counted = refl; whole = steps.of_read known x v s; last = get-seam known (value x (read v s)) (length known + 1 - 1) (omega arith) }
    ran (unary op a) known x =
        let r = ran a known x in
        ended known r.more x (next x a) (nodes_from (length known) a) (size a) (nodes.Unary op (length known + size a - 1)) (unary op a) refl r.counted refl r.whole
        (steps.of_unary (known ++ r.more) x op a (length known + size a - 1) r.last)
    ran (binary op a b) known x =
        let ra = ran a known x in
        let r = two-of known x a b ra (ran b (known ++ ra.more) (next x a)) in
        let less : length known + size a - 1 < length known + size a + size b - 1 = omega (arith, size-some a, size-some b) in
        ended known r.more x (next (next x a) b) (nodes_from (length known) a ++ nodes_from (length known + size a) b) (size a + size b) (nodes.Binary op (length known + size a - 1) (length known + size a + size b - 1)) (binary op a b) refl r.counted refl r.whole
        (steps.of_binary (known ++ r.more) x op a b (length known + size a - 1) (length known + size a + size b - 1) r.one r.two less)
    ran (implied a b) known x =
        let ra = ran a known x in
        let r = two-of known x a b ra (ran b (known ++ ra.more) (next x a)) in
        let less : length known + size a - 1 < length known + size a + size b - 1 = omega (arith, size-some a, size-some b) in
        ended known r.more x (next (next x a) b) (nodes_from (length known) a ++ nodes_from (length known + size a) b) (size a + size b) (nodes.Binary Implies (length known + size a + size b - 1) (length known + size a - 1)) (implied a b) refl r.counted refl r.whole
        (steps.of_implied (known ++ r.more) x a b (length known + size a - 1) (length known + size a + size b - 1) r.one r.two less)
    ran (choice c a b) known x =
        let rc = ran c known x in
        let r2 = two-of known x c a rc (ran a (known ++ rc.more) (next x c)) in
        let r = three-of known x c a b r2 (ran b (known ++ r2.more) (next (next x c) a)) in
        ended known r.more x (next (next (next x c) a) b) (nodes_from (length known) c ++ nodes_from (length known + size c) a ++ nodes_from (length known + size c + size a) b) (size c + size a + size b)
        (nodes.If (length known + size c - 1) (length known + size c + size a - 1) (length known + size c + size a + size b - 1)) (choice c a b) refl r.counted refl r.whole
        (steps.of_choice (known ++ r.more) x c a b (length known + size c - 1) (length known + size c + size a - 1) (length known + size c + size a + size b - 1) r.one r.two r.three)
    ran (select a b) known x =
        let ra = ran a known x in
        let r = two-of known x a b ra (ran b (known ++ ra.more) (next x a)) in
        ended known r.more x (next (next x a) b) (nodes_from (length known) a ++ nodes_from (length known + size a) b) (size a + size b) (nodes.Select (length known + size a - 1) (length known + size a + size b - 1)) (select a b) refl r.counted refl r.whole
        (steps.of_select (known ++ r.more) x a b (length known + size a - 1) (length known + size a + size b - 1) r.one r.two)
    ran (store c a b) known x =
        let rc = ran c known x in
        let r2 = two-of known x c a rc (ran a (known ++ rc.more) (next x c)) in
        let r = three-of known x c a b r2 (ran b (known ++ r2.more) (next (next x c) a)) in
        ended known r.more x (next (next (next x c) a) b) (nodes_from (length known) c ++ nodes_from (length known + size c) a ++ nodes_from (length known + size c + size a) b) (size c + size a + size b)
        (nodes.Store (length known + size c - 1) (length known + size c + size a - 1) (length known + size c + size a + size b - 1)) (store c a b) refl r.counted refl r.whole
        (steps.of_store (known ++ r.more) x c a b (length known + size c - 1) (length known + size c + size a - 1) (length known + size c + size a + size b - 1) r.one r.two r.three)
