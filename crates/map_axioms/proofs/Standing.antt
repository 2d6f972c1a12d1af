-- What stands for a term stays while terms are added, and what an operator makes of such nodes stands for what it makes of the terms.
use Rattle.std.proofs.Common.{◌≡◌, ℕ, ◌<◌, true, List, [], ◌∷◌, ◌++◌, length, sym, ◌∙◌, ap, refl, subst, append_assoc, append-nil}
use Rattle.std.specs.Prelude.{Option, None, Some, slice_get, IsTrue, IsSome, is_some}
use Rattle.hy_val.specs.Operators.{sort_of_unary, sort_of_binary}
use Rattle.hy_val.specs.Values.{unary_value, binary_value, pick}
use Rattle.hy_val.specs.declared.sort.Scalar.{Scalar}
use Rattle.hy_val.specs.declared.sort.ScalarKind.TheVariants.{Bool as BoolSort}
use Rattle.hy_val.specs.declared.sort.Sort.{Sort}
use Rattle.hy_val.specs.declared.sort.SortKind.TheVariants.{Scalar as ScalarSort}
use Rattle.hy_val.specs.declared.operator.UnOp.{UnOp}
use Rattle.hy_val.specs.declared.operator.BvOp.{BvOp}
use Rattle.hy_val.specs.declared.value.Value.{Value}
use Rattle.hy_term.specs.TermSorts.{sorts, sort_at, sort_behind, sort_of_number, variable_agrees, fits_behind}
use Rattle.hy_term.specs.Meaning.{node_value, values, value, fits}
use Rattle.hy_term.specs.declared.node.TermNode.{TermNode}
use Rattle.hy_term.specs.declared.node.TermNode.TheVariants.{Unary, Binary, If}
use Rattle.hy_term.proofs.Growing.{value-more}
use Rattle.hy_term.proofs.Sorting.{and_both}
use Rattle.map_axioms.specs.declared.entry.Entry.{Entry}
use Rattle.map_axioms.specs.Steps.{IsHome, Linked, Stands, EntryKept, Later, State, IsReduced}
use Rattle.map_axioms.proofs.Cases.{added, sort_stays, sort_within, behind_unary, behind_binary, behind_if}
use Rattle.map_axioms.proofs.Homes.{home_push, number_stays}

pub some_is : {A : Type 0} (o : Option A) (x : A) → o ≡ Some x → IsSome o
some_is None x h = cc
some_is (Some y) x h = refl

module _ (out : List TermNode) (es : List Entry) (out' : List TermNode) (es' : List Entry) (later : Later out es out' es') where
  pub value_later : (b : ℕ → Value) (t : ℕ) → t < length out → value b out' t ≡ value b out t
  value_later b t w = ap (λ (ns : List TermNode). value b ns t) later.nodes.1 ∙ value-more b out later.nodes.0 t w

  pub sort_later : (t : ℕ) (s : Sort) → sort_at out t ≡ Some s → sort_at out' t ≡ Some s
  sort_later t s h =
      ap (λ (ns : List TermNode). sort_at ns t) later.nodes.1
      ∙ sort_stays out later.nodes.0 t s (subst (λ (ns : List TermNode). IsSome (sorts ns)) later.nodes.1 later.sound) h

  pub number_later : (n : ℕ) (s : Sort) → sort_of_number n out ≡ Some s → sort_of_number n out' ≡ Some s
  number_later n s h = ap (sort_of_number n) later.nodes.1 ∙ number_stays n out later.nodes.0 s h

  pub linked_back : (nodes : List TermNode) (a b : ℕ → Value) → Linked nodes out' es' a b → Linked nodes out es a b
  linked_back nodes a b k = record {
    scalars = k.scalars;
    maps = λ j e is same. k.maps j e (later.more j e is) (value_later b e.index (later.within j e is) ∙ same);
  }

  pub stands_later : (nodes : List TermNode) (s : Scalar) (t : ℕ) (f : (ℕ → Value) → Value) → Stands nodes out es s t f → Stands nodes out' es' s t f
  stands_later nodes s t f h = record {
    sort = sort_later t (ScalarSort s) h.sort;
    means = λ a b fit k. value_later b t (sort_within out t (ScalarSort s) h.sort) ∙ h.means a b fit (linked_back nodes a b k);
  }

  pub entry_later : (base : ℕ) (nodes : List TermNode) (e : Entry) → EntryKept base nodes out es e → EntryKept base nodes out' es' e
  entry_later base nodes e k = record {
    index = k.index;
    elem = k.elem;
    map = k.map;
    place = k.place;
    number = k.number;
    stands = stands_later nodes k.index e.index (λ a. value a nodes e.place) k.stands;
    sort = sort_later e.entry (ScalarSort k.elem) k.sort;
    is = λ b. value_later b e.entry (sort_within out e.entry (ScalarSort k.elem) k.sort) ∙ k.is b;
  }

  pub reduced_later : (nodes : List TermNode) (k t : ℕ) → IsReduced nodes out es k t → IsReduced nodes out' es' k t
  reduced_later nodes k t h = record {
    stands = λ s e. stands_later nodes s t (λ a. value a nodes k) (h.stands s e);
    variable = λ n s e. number_later n (ScalarSort s) (h.variable n s e);
  }

pub entries_within : (base : ℕ) (nodes out : List TermNode) (es : List Entry) → State base nodes out es → (j : ℕ) (e : Entry) → slice_get es j ≡ Some e → e.index < length out
entries_within base nodes out es st j e is = let k = st.entry j e is in sort_within out e.index (ScalarSort k.index) k.stands.sort

pub later_same : (base : ℕ) (nodes out : List TermNode) (es : List Entry) → State base nodes out es → Later out es out es
later_same base nodes out es st = record {
  nodes = ([], sym (append-nil out));
  sound = st.sound;
  more = λ j e is. is;
  within = entries_within base nodes out es st;
}

pub later_then : (out : List TermNode) (es : List Entry) (out' : List TermNode) (es' : List Entry) (out'' : List TermNode) (es'' : List Entry)
    → Later out es out' es' → Later out' es' out'' es'' → Later out es out'' es''
later_then out es out' es' out'' es'' x y = record {
  nodes = (x.nodes.0 ++ y.nodes.0, y.nodes.1 ∙ ap (λ (ns : List TermNode). ns ++ y.nodes.0) x.nodes.1 ∙ append_assoc out x.nodes.0 y.nodes.0);
  sound = y.sound;
  more = λ j e is. y.more j e (x.more j e is);
  within = x.within;
}

-- ---- one node more

pub later_push : (base : ℕ) (nodes out : List TermNode) (es : List Entry) (node : TermNode) (s : Sort) → State base nodes out es → sort_behind out node ≡ Some s → Later out es (out ++ node ∷ []) es
later_push base nodes out es node s st h =
    let a = added out node s h in
    record {
      nodes = (node ∷ [], refl);
      sound = some_is (sorts (out ++ node ∷ [])) (a.old ++ s ∷ []) a.new_is;
      more = λ j e is. is;
      within = entries_within base nodes out es st;
    }

pub state_push : (base : ℕ) (nodes out : List TermNode) (es : List Entry) (node : TermNode) (s : Sort) → State base nodes out es → sort_behind out node ≡ Some s → IsHome base nodes node
    → State base nodes (out ++ node ∷ []) es
state_push base nodes out es node s st h at_home =
    let l = later_push base nodes out es node s st h in
    record {
      sound = l.sound;
      at_home = home_push base nodes out node st.at_home at_home;
      entry = λ j e is. entry_later out es (out ++ node ∷ []) es l base nodes e (st.entry j e is);
      apart = st.apart;
    }

-- what may be added, and stands for a term
pub record Addable (base : ℕ) (nodes out : List TermNode) (es : List Entry) (node : TermNode) (s : Scalar) (f : (ℕ → Value) → Value) : Type 0 where
  pub behind : sort_behind out node ≡ Some (ScalarSort s)
  pub agrees : variable_agrees out node ≡ true
  pub at_home : IsHome base nodes node
  pub means : (a b : ℕ → Value) → IsTrue (fits a nodes) → Linked nodes out es a b → node_value b (values b out) node ≡ f a

pub addable_fits : (base : ℕ) (nodes out : List TermNode) (es : List Entry) (node : TermNode) (s : Scalar) (f : (ℕ → Value) → Value) → Addable base nodes out es node s f → IsTrue (fits_behind out node)
addable_fits base nodes out es node s f h = and_both (is_some (sort_behind out node)) (variable_agrees out node) (some_is (sort_behind out node) (ScalarSort s) h.behind) h.agrees

pub addable_unary : (base : ℕ) (nodes out : List TermNode) (es : List Entry) (op : UnOp) (c : ℕ) (s t : Scalar) (f : (ℕ → Value) → Value)
    → Stands nodes out es s c f → sort_of_unary op s ≡ Some t → Addable base nodes out es (Unary op c) t (λ a. unary_value op (f a))
addable_unary base nodes out es op c s t f h fit = record {
  behind = behind_unary out op c s t h.sort fit;
  agrees = refl;
  at_home = tt;
  means = λ a b ok link. ap (unary_value op) (h.means a b ok link);
}

pub addable_binary : (base : ℕ) (nodes out : List TermNode) (es : List Entry) (op : BvOp) (l r : ℕ) (s t u : Scalar) (f g : (ℕ → Value) → Value)
    → Stands nodes out es s l f → Stands nodes out es t r g → sort_of_binary op s t ≡ Some u → Addable base nodes out es (Binary op l r) u (λ a. binary_value op (f a) (g a))
addable_binary base nodes out es op l r s t u f g h k fit = record {
  behind = behind_binary out op l r s t u h.sort k.sort fit;
  agrees = refl;
  at_home = tt;
  means = λ a b ok link.
      ap (λ (v : Value). binary_value op v (value b out r)) (h.means a b ok link) ∙ ap (λ (v : Value). binary_value op (f a) v) (k.means a b ok link);
}

pub addable_if : (base : ℕ) (nodes out : List TermNode) (es : List Entry) (c y n : ℕ) (s : Scalar) (f g h : (ℕ → Value) → Value)
    → Stands nodes out es BoolSort c f → Stands nodes out es s y g → Stands nodes out es s n h → Addable base nodes out es (If c y n) s (λ a. pick (f a) (g a) (h a))
addable_if base nodes out es c y n s f g h x p q = record {
  behind = behind_if out c y n s x.sort p.sort q.sort;
  agrees = refl;
  at_home = tt;
  means = λ a b ok link.
      ap (λ (v : Value). pick v (value b out y) (value b out n)) (x.means a b ok link)
      ∙ ap (λ (v : Value). pick (f a) v (value b out n)) (p.means a b ok link)
      ∙ ap (λ (v : Value). pick (f a) (g a) v) (q.means a b ok link);
}

-- the meaning may be written otherwise
pub stands_as : (nodes out : List TermNode) (es : List Entry) (s : Scalar) (t : ℕ) (f g : (ℕ → Value) → Value) → ((a : ℕ → Value) → IsTrue (fits a nodes) → f a ≡ g a)
    → Stands nodes out es s t f → Stands nodes out es s t g
stands_as nodes out es s t f g same h = record { sort = h.sort; means = λ a b ok link. h.means a b ok link ∙ same a ok }
