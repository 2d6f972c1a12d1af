-- A term over the variables of a place is an expression there, also where terms stand in place of the locals of a function.
use Rattle.std.proofs.Common.{◌≡◌, ℕ, ◌+◌, Bool, true, ◌&&◌, List, [], ◌∷◌, ◌++◌, Option, None, Some, refl, ◌∙◌, ap}
use Rattle.std.specs.List.{list_all}
use Rattle.std.specs.Prelude.{if◌then◌else◌}
use Rattle.std.proofs.lemmas.List.Folds.{list_all-append}
use Rattle.hy_val.specs.NodeSorts.{is_sort, as_scalar, unary_sort, binary_sort, if_sort, select_sort, store_sort}
use Rattle.hy_val.specs.declared.expr.ExprNode.TheVariants as nodes
use Rattle.hy_val.specs.declared.expr.Var.{Var}
use Rattle.hy_val.specs.declared.operator.BvOp.TheVariants.{Implies}
use Rattle.hy_val.specs.declared.sort.Sort.{Sort}
use Rattle.hy_val.specs.Scope.{Scope, sort_of_variable, is_sort_of, are_same, node_fits, sort_of_expr, expr_fits}
use Rattle.type_pass.specs.Terms.{Term, size, nodes_from, nodes_of, term_sort, local_term, substituted}
use Rattle.bpl_type.proofs.Elements.{both, and-true}
use Rattle.bpl_type.proofs.Fitted.{Known, fitted, Holds, holds}
use Rattle.bpl_type.proofs.Preserved.{same_sort-self}
use Rattle.bpl_type.proofs.TermLaws.{are_nodes}

-- the variables of a place
abbrev pub knows_in : Scope → Known
knows_in sc x sort = is_sort sort && is_sort_of (sort_of_variable sc x) sort

all-one : {A : Type 0} (p : A → Bool) (xs : List A) (u : A) → list_all p xs ≡ true → p u ≡ true → list_all p (xs ++ u ∷ []) ≡ true
all-one p xs u h last = list_all-append p xs (u ∷ []) ∙ and-true (list_all p xs) (list_all p (u ∷ [])) h (and-true (p u) true last refl)

all-two : {A : Type 0} (p : A → Bool) (xs ys : List A) (u : A) → list_all p xs ≡ true → list_all p ys ≡ true → p u ≡ true → list_all p (xs ++ ys ++ u ∷ []) ≡ true
all-two p xs ys u hx hy last = all-one p (xs ++ ys) u (list_all-append p xs ys ∙ and-true (list_all p xs) (list_all p ys) hx hy) last

all-three : {A : Type 0} (p : A → Bool) (xs ys zs : List A) (u : A) → list_all p xs ≡ true → list_all p ys ≡ true → list_all p zs ≡ true → p u ≡ true → list_all p (xs ++ ys ++ zs ++ u ∷ []) ≡ true
all-three p xs ys zs u hx hy hz last = all-two p (xs ++ ys) zs u (list_all-append p xs ys ∙ and-true (list_all p xs) (list_all p ys) hx hy) hz last

-- the sort of a term, and its variables in the place
record Stands (sc : Scope) (t : Term) (s : Sort) : Type 0 where
  pub sort : term_sort t ≡ Some s
  pub reads : (n : ℕ) → list_all (node_fits sc) (nodes_from n t) ≡ true

stands : (sc : Scope) → Holds (knows_in sc) (Stands sc)
stands sc = record {
  of_lit = λ a s h. record { sort = h; reads = λ n. refl };
  of_read = λ x s h.
      let r = both (is_sort s) (is_sort_of (sort_of_variable sc x) s) h in
      record { sort = ap (λ (b : Bool). if b then Some s else None) r.0; reads = λ n. and-true (node_fits sc (nodes.Var x s)) true r.1 refl };
  of_unary = λ op a x s pa h. record {
    sort = ap (λ o. unary_sort op (as_scalar o)) pa.sort ∙ h;
    reads = λ n. all-one (node_fits sc) (nodes_from n a) _ (pa.reads n) refl;
  };
  of_binary = λ op a b x y s pa pb h. record {
    sort = ap (λ o. binary_sort op (as_scalar o) (as_scalar (term_sort b))) pa.sort ∙ ap (λ o. binary_sort op (as_scalar (Some x)) (as_scalar o)) pb.sort ∙ h;
    reads = λ n. all-two (node_fits sc) (nodes_from n a) (nodes_from (n + size a) b) _ (pa.reads n) (pb.reads (n + size a)) refl;
  };
  of_implied = λ a b x y s pa pb h. record {
    sort = ap (λ o. binary_sort Implies (as_scalar o) (as_scalar (term_sort a))) pb.sort ∙ ap (λ o. binary_sort Implies (as_scalar (Some y)) (as_scalar o)) pa.sort ∙ h;
    reads = λ n. all-two (node_fits sc) (nodes_from n a) (nodes_from (n + size a) b) _ (pa.reads n) (pb.reads (n + size a)) refl;
  };
  of_choice = λ c a b z x y s pc pa pb h. record {
    sort = ap (λ o. if_sort (as_scalar o) (term_sort a) (term_sort b)) pc.sort ∙ ap (λ o. if_sort (as_scalar (Some z)) o (term_sort b)) pa.sort
        ∙ ap (λ o. if_sort (as_scalar (Some z)) (Some x) o) pb.sort ∙ h;
    reads = λ n. all-three (node_fits sc) (nodes_from n c) (nodes_from (n + size c) a) (nodes_from (n + size c + size a) b) _ (pc.reads n) (pa.reads (n + size c)) (pb.reads (n + size c + size a)) refl;
  };
  of_select = λ m i x y s pm pi h. record {
    sort = ap (λ o. select_sort o (as_scalar (term_sort i))) pm.sort ∙ ap (λ o. select_sort (Some x) (as_scalar o)) pi.sort ∙ h;
    reads = λ n. all-two (node_fits sc) (nodes_from n m) (nodes_from (n + size m) i) _ (pm.reads n) (pi.reads (n + size m)) refl;
  };
  of_store = λ m i v x y z s pm pi pv h. record {
    sort = ap (λ o. store_sort o (as_scalar (term_sort i)) (as_scalar (term_sort v))) pm.sort ∙ ap (λ o. store_sort (Some x) (as_scalar o) (as_scalar (term_sort v))) pi.sort
        ∙ ap (λ o. store_sort (Some x) (as_scalar (Some y)) (as_scalar o)) pv.sort ∙ h;
    reads = λ n. all-three (node_fits sc) (nodes_from n m) (nodes_from (n + size m) i) (nodes_from (n + size m + size i) v) _ (pm.reads n) (pi.reads (n + size m)) (pv.reads (n + size m + size i)) refl;
  };
}

pub term_fits : (sc : Scope) (t : Term) (s : Sort) → fitted (knows_in sc) t ≡ Some s → expr_fits sc (Some s) (nodes_of t) ≡ true
term_fits sc t s h =
    let r = holds (knows_in sc) (Stands sc) (stands sc) t s h in
    and-true (list_all (node_fits sc) (nodes_of t)) (are_same (sort_of_expr (nodes_of t)) (Some s)) (r.reads 0)
    (ap (λ o. are_same o (Some s)) ((are_nodes t).has_sort s r.sort) ∙ same_sort-self s)

-- ---- terms in place of locals

module _ (inner outer : Known) (arguments : List Term) (read-fits : (x : Var) (s : Sort) → inner x s ≡ true → fitted outer (local_term arguments x s) ≡ Some s) where
  abbrev Replaced : Term → Sort → Type 0
  Replaced t s = fitted outer (substituted arguments t) ≡ Some s

  abbrev made : Term → Option Sort
  made t = fitted outer (substituted arguments t)

  replaces : Holds inner Replaced
  replaces = record {
    of_lit = λ a s h. h;
    of_read = λ x s h. read-fits x s h;
    of_unary = λ op a x s pa h. ap (λ o. unary_sort op (as_scalar o)) pa ∙ h;
    of_binary = λ op a b x y s pa pb h. ap (λ o. binary_sort op (as_scalar o) (as_scalar (made b))) pa ∙ ap (λ o. binary_sort op (as_scalar (Some x)) (as_scalar o)) pb ∙ h;
    of_implied = λ a b x y s pa pb h. ap (λ o. binary_sort Implies (as_scalar o) (as_scalar (made a))) pb ∙ ap (λ o. binary_sort Implies (as_scalar (Some y)) (as_scalar o)) pa ∙ h;
    of_choice = λ c a b z x y s pc pa pb h. ap (λ o. if_sort (as_scalar o) (made a) (made b)) pc ∙ ap (λ o. if_sort (as_scalar (Some z)) o (made b)) pa ∙ ap (λ o. if_sort (as_scalar (Some z)) (Some x) o) pb ∙ h;
    of_select = λ m i x y s pm pi h. ap (λ o. select_sort o (as_scalar (made i))) pm ∙ ap (λ o. select_sort (Some x) (as_scalar o)) pi ∙ h;
    of_store = λ m i v x y z s pm pi pv h. ap (λ o. store_sort o (as_scalar (made i)) (as_scalar (made v))) pm ∙ ap (λ o. store_sort (Some x) (as_scalar o) (as_scalar (made v))) pi
        ∙ ap (λ o. store_sort (Some x) (as_scalar (Some y)) (as_scalar o)) pv ∙ h;
  }

  pub replaced : (t : Term) (s : Sort) → fitted inner t ≡ Some s → fitted outer (substituted arguments t) ≡ Some s
  replaced t s h = holds inner Replaced replaces t s h
