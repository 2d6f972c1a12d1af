-- The sort of a term whose variables are known.
use Rattle.std.proofs.Common.{◌≡◌, Bool, true, false, [], Option, None, Some, refl, sym, ◌∙◌, ap, subst}
use Rattle.std.specs.Prelude.{if◌then◌else◌}
use Rattle.hy_val.specs.Exprs.{sort_of_node}
use Rattle.hy_val.specs.NodeSorts.{as_scalar, unary_sort, binary_sort, if_sort, select_sort, store_sort}
use Rattle.hy_val.specs.declared.atom.Atom.{Atom}
use Rattle.hy_val.specs.declared.expr.ExprNode.TheVariants as nodes
use Rattle.hy_val.specs.declared.expr.Var.{Var}
use Rattle.hy_val.specs.declared.operator.BvOp.{BvOp}
use Rattle.hy_val.specs.declared.operator.BvOp.TheVariants.{Implies}
use Rattle.hy_val.specs.declared.operator.UnOp.{UnOp}
use Rattle.hy_val.specs.declared.sort.Sort.{Sort}
use Rattle.type_pass.specs.Terms.{Term, lit, read, unary, binary, implied, choice, select, store}
use Rattle.bpl_type.proofs.TermLaws.{there, binary-none, select-none, if-none, if-nothing, store-none, store-nothing}

-- which variables are known with which sorts
abbrev pub Known : Type 0
Known = Var → Sort → Bool

-- the sort, and None where a variable is not known with its sort or the sorts don't fit
abbrev pub fitted : Known → Term → Option Sort
fitted k (lit a) = sort_of_node [] (nodes.Lit a)
fitted k (read x sort) = if k x sort then Some sort else None
fitted k (unary op a) = unary_sort op (as_scalar (fitted k a))
fitted k (binary op a b) = binary_sort op (as_scalar (fitted k a)) (as_scalar (fitted k b))
fitted k (implied a b) = binary_sort Implies (as_scalar (fitted k b)) (as_scalar (fitted k a))
fitted k (choice c a b) = if_sort (as_scalar (fitted k c)) (fitted k a) (fitted k b)
fitted k (select m i) = select_sort (fitted k m) (as_scalar (fitted k i))
fitted k (store m i v) = store_sort (fitted k m) (as_scalar (fitted k i)) (as_scalar (fitted k v))

-- what holds of each node if it holds of its operands holds of a term that has a sort
pub record Holds (k : Known) (P : Term → Sort → Type 0) : Type 0 where
  pub of_lit : (a : Atom) (s : Sort) → sort_of_node [] (nodes.Lit a) ≡ Some s → P (lit a) s
  pub of_read : (x : Var) (s : Sort) → k x s ≡ true → P (read x s) s
  pub of_unary : (op : UnOp) (a : Term) (x s : Sort) → P a x → unary_sort op (as_scalar (Some x)) ≡ Some s → P (unary op a) s
  pub of_binary : (op : BvOp) (a b : Term) (x y s : Sort) → P a x → P b y → binary_sort op (as_scalar (Some x)) (as_scalar (Some y)) ≡ Some s → P (binary op a b) s
  pub of_implied : (a b : Term) (x y s : Sort) → P a x → P b y → binary_sort Implies (as_scalar (Some y)) (as_scalar (Some x)) ≡ Some s → P (implied a b) s
  pub of_choice : (c a b : Term) (z x y s : Sort) → P c z → P a x → P b y → if_sort (as_scalar (Some z)) (Some x) (Some y) ≡ Some s → P (choice c a b) s
  pub of_select : (m i : Term) (x y s : Sort) → P m x → P i y → select_sort (Some x) (as_scalar (Some y)) ≡ Some s → P (select m i) s
  pub of_store : (m i v : Term) (x y z s : Sort) → P m x → P i y → P v z → store_sort (Some x) (as_scalar (Some y)) (as_scalar (Some z)) ≡ Some s → P (store m i v) s

read-known : (b : Bool) (x s : Sort) → (if b then Some x else None) ≡ Some s → (b ≡ true) × (x ≡ s)
read-known true x s h = (refl, cc)
read-known false x s h = absurd (cc)

module _ (k : Known) (P : Term → Sort → Type 0) (rule : Holds k P) where
  read-holds : (x : Var) (sort s : Sort) (b : Bool) → k x sort ≡ b → (if b then Some sort else None) ≡ Some s → P (read x sort) s
  read-holds x sort s b is h =
      let r = read-known b sort s h in
      subst (P (read x sort)) r.1 (rule.of_read x sort (is ∙ r.0))

  pub holds : (t : Term) (s : Sort) → fitted k t ≡ Some s → P t s
  holds (lit a) s h = rule.of_lit a s h
  holds (read x sort) s h = read-holds x sort s (k x sort) refl h
  holds (unary op a) s h =
      let x = there (fitted k a) (λ o. unary_sort op (as_scalar o)) s refl h in
      rule.of_unary op a x.0 s (holds a x.0 x.1) (ap (λ o. unary_sort op (as_scalar o)) (sym x.1) ∙ h)
  holds (binary op a b) s h =
      let x = there (fitted k a) (λ o. binary_sort op (as_scalar o) (as_scalar (fitted k b))) s refl h in
      let y = there (fitted k b) (λ o. binary_sort op (as_scalar (fitted k a)) (as_scalar o)) s (binary-none op (as_scalar (fitted k a))) h in
      rule.of_binary op a b x.0 y.0 s (holds a x.0 x.1) (holds b y.0 y.1)
      (ap (λ o. binary_sort op (as_scalar o) (as_scalar (Some y.0))) (sym x.1) ∙ ap (λ o. binary_sort op (as_scalar (fitted k a)) (as_scalar o)) (sym y.1) ∙ h)
  holds (implied a b) s h =
      let x = there (fitted k a) (λ o. binary_sort Implies (as_scalar (fitted k b)) (as_scalar o)) s (binary-none Implies (as_scalar (fitted k b))) h in
      let y = there (fitted k b) (λ o. binary_sort Implies (as_scalar o) (as_scalar (fitted k a))) s refl h in
      rule.of_implied a b x.0 y.0 s (holds a x.0 x.1) (holds b y.0 y.1)
      (ap (λ o. binary_sort Implies (as_scalar o) (as_scalar (Some x.0))) (sym y.1) ∙ ap (λ o. binary_sort Implies (as_scalar (fitted k b)) (as_scalar o)) (sym x.1) ∙ h)
  holds (choice c a b) s h =
      let z = there (fitted k c) (λ o. if_sort (as_scalar o) (fitted k a) (fitted k b)) s refl h in
      let x = there (fitted k a) (λ o. if_sort (as_scalar (fitted k c)) o (fitted k b)) s (if-nothing (as_scalar (fitted k c)) (fitted k b)) h in
      let y = there (fitted k b) (λ o. if_sort (as_scalar (fitted k c)) (fitted k a) o) s (if-none (as_scalar (fitted k c)) (fitted k a)) h in
      rule.of_choice c a b z.0 x.0 y.0 s (holds c z.0 z.1) (holds a x.0 x.1) (holds b y.0 y.1)
      (ap (λ o. if_sort (as_scalar o) (Some x.0) (Some y.0)) (sym z.1) ∙ ap (λ o. if_sort (as_scalar (fitted k c)) o (Some y.0)) (sym x.1)
      ∙ ap (λ o. if_sort (as_scalar (fitted k c)) (fitted k a) o) (sym y.1) ∙ h)
  holds (select m i) s h =
      let x = there (fitted k m) (λ o. select_sort o (as_scalar (fitted k i))) s refl h in
      let y = there (fitted k i) (λ o. select_sort (fitted k m) (as_scalar o)) s (select-none (fitted k m)) h in
      rule.of_select m i x.0 y.0 s (holds m x.0 x.1) (holds i y.0 y.1)
      (ap (λ o. select_sort o (as_scalar (Some y.0))) (sym x.1) ∙ ap (λ o. select_sort (fitted k m) (as_scalar o)) (sym y.1) ∙ h)
  holds (store m i v) s h =
      let x = there (fitted k m) (λ o. store_sort o (as_scalar (fitted k i)) (as_scalar (fitted k v))) s refl h in
      let y = there (fitted k i) (λ o. store_sort (fitted k m) (as_scalar o) (as_scalar (fitted k v))) s (store-nothing (fitted k m) (as_scalar (fitted k v))) h in
      let z = there (fitted k v) (λ o. store_sort (fitted k m) (as_scalar (fitted k i)) (as_scalar o)) s (store-none (fitted k m) (as_scalar (fitted k i))) h in
      rule.of_store m i v x.0 y.0 z.0 s (holds m x.0 x.1) (holds i y.0 y.1) (holds v z.0 z.1)
      (ap (λ o. store_sort o (as_scalar (Some y.0)) (as_scalar (Some z.0))) (sym x.1) ∙ ap (λ o. store_sort (fitted k m) (as_scalar o) (as_scalar (Some z.0))) (sym y.1)
      ∙ ap (λ o. store_sort (fitted k m) (as_scalar (fitted k i)) (as_scalar o)) (sym z.1) ∙ h)
