-- Nodes that are copied one by one.
use Rattle.std.proofs.Common.{◌≡◌, ℕ, zero, suc, ◌+◌, ◌<◌, Bool, true, false, ◌&&◌, List, [], ◌∷◌, ◌++◌, length, take, refl, sym, ap, ◌∙◌, subst, arith, length-append, length-take, true≢false, inl, inr, ◌⊎◌, ⊎_elim}
use Rattle.std.specs.Prelude.{if◌then◌else◌, Option, None, Some, is_some, slice_get, slice_index, nat_lt, IsSome, IsTrue}
use Rattle.std.specs.Option.{option_and_then}
use Rattle.std.proofs.lemmas.Bool.{and_parts, and_from, lt-ltb, ltb-true, ltb-false}
use Rattle.std.proofs.lemmas.Option.{slice_get_within}
use Rattle.hy_val.specs.NodeSorts.{is_sort, as_scalar, unary_sort, binary_sort, if_sort, select_sort, store_sort}
use Rattle.hy_val.specs.Values.{at, unary_value, binary_value, pick, select_value, store_value}
use Rattle.hy_val.specs.declared.sort.ScalarKind.TheVariants.{Bool as BoolSort, Bv as BvSort}
use Rattle.hy_val.specs.declared.sort.Sort.{Sort}
use Rattle.hy_val.specs.declared.sort.SortKind.TheVariants.{Scalar as ScalarSort, Map as MapSort}
use Rattle.hy_val.specs.declared.operator.UnOp.{UnOp}
use Rattle.hy_val.specs.declared.operator.BvOp.{BvOp}
use Rattle.hy_val.specs.declared.value.Value.{Value}
use Rattle.hy_term.specs.TermSorts.{sorts, sort_at, sort_behind, sort_of_node, fits_behind, variable_agrees}
use Rattle.hy_term.specs.Meaning.{node_value, values, value, fits, node_fits, Grows}
use Rattle.hy_term.specs.Variables.{node_below}
use Rattle.hy_term.specs.declared.node.TermNode.{TermNode}
use Rattle.hy_term.specs.declared.node.TermNode.TheVariants.{Lit, ZeroMap, Variable, Unary, Binary, If, Select, Store}
use Rattle.hy_term.proofs.Sorting.{there, count_sorts, sort_there}
use Rattle.hy_term.proofs.Placing.{node_has_sort}
use Rattle.hy_term.proofs.Growing.{node_values}
use Rattle.tree_terms.specs.Folding.{IsLike}
use Rattle.tree_terms.specs.Copies.{renamed, is_made, children_below, IsPlaced, Puts, IsPart}
use Rattle.tree_terms.proofs.Growth.{below_push, fits_before, fits_push, fits_some, grows_not, later_push, of_sorts, sort_added, sort_here, sort_stays, sort_within, sorts_are, value_stays}

unary_there : (op : UnOp) (o : Option Sort) → IsSome (unary_sort op (as_scalar o)) → IsSome o
unary_there op None h = cc
unary_there op (Some s) h = refl

left_there : (op : BvOp) (o p : Option Sort) → IsSome (binary_sort op (as_scalar o) (as_scalar p)) → IsSome o
left_there op None p h = cc
left_there op (Some s) p h = refl

right_there : (op : BvOp) (o p : Option Sort) → IsSome (binary_sort op (as_scalar o) (as_scalar p)) → IsSome p
right_there op None p h = cc
right_there op (Some (ScalarSort s)) None h = cc
right_there op (Some (MapSort i e)) None h = cc
right_there op o (Some t) h = refl

test_there : (o p q : Option Sort) → IsSome (if_sort (as_scalar o) p q) → IsSome o
test_there None p q h = cc
test_there (Some s) p q h = refl

one_there : (o p q : Option Sort) → IsSome (if_sort (as_scalar o) p q) → IsSome p
one_there None None q h = cc
one_there (Some (MapSort i e)) None q h = cc
one_there (Some (ScalarSort BoolSort)) None q h = cc
one_there (Some (ScalarSort (BvSort w))) None q h = cc
one_there o (Some s) q h = refl

other_there : (o p q : Option Sort) → IsSome (if_sort (as_scalar o) p q) → IsSome q
other_there None p None h = cc
other_there (Some (MapSort i e)) p None h = cc
other_there (Some (ScalarSort BoolSort)) None None h = cc
other_there (Some (ScalarSort BoolSort)) (Some s) None h = cc
other_there (Some (ScalarSort (BvSort w))) p None h = cc
other_there o p (Some s) h = refl

map_there : (o p : Option Sort) → IsSome (select_sort o (as_scalar p)) → IsSome o
map_there None p h = cc
map_there (Some s) p h = refl

index_there : (o p : Option Sort) → IsSome (select_sort o (as_scalar p)) → IsSome p
index_there None None h = cc
index_there (Some (ScalarSort s)) None h = cc
index_there (Some (MapSort i e)) None h = cc
index_there o (Some s) h = refl

stored_there : (o p q : Option Sort) → IsSome (store_sort o (as_scalar p) (as_scalar q)) → IsSome o
stored_there None p q h = cc
stored_there (Some s) p q h = refl

place_there : (o p q : Option Sort) → IsSome (store_sort o (as_scalar p) (as_scalar q)) → IsSome p
place_there None None q h = cc
place_there (Some (ScalarSort s)) None q h = cc
place_there (Some (MapSort i e)) None q h = cc
place_there o (Some s) q h = refl

entry_there : (o p q : Option Sort) → IsSome (store_sort o (as_scalar p) (as_scalar q)) → IsSome q
entry_there None p None h = cc
entry_there (Some (ScalarSort s)) p None h = cc
entry_there (Some (MapSort i e)) None None h = cc
entry_there (Some (MapSort i e)) (Some (ScalarSort s)) None h = cc
entry_there (Some (MapSort i e)) (Some (MapSort j f)) None h = cc
entry_there o p (Some s) h = refl

lower : (known : List Sort) (node : TermNode) → IsSome (sort_of_node known node) → children_below (length known) node ≡ true
lower known (Lit a) h = refl
lower known (ZeroMap index elem) h = refl
lower known (Variable number sort) h = refl
lower known (Unary op child) h = lt-ltb child (length known) (there known child (unary_there op (slice_get known child) h))
lower known (Binary op left right) h =
    and_from (nat_lt left (length known)) (nat_lt right (length known))
    (lt-ltb left (length known) (there known left (left_there op (slice_get known left) (slice_get known right) h)))
    (lt-ltb right (length known) (there known right (right_there op (slice_get known left) (slice_get known right) h)))
lower known (If test one other) h =
    and_from (nat_lt test (length known)) (nat_lt one (length known) && nat_lt other (length known))
    (lt-ltb test (length known) (there known test (test_there (slice_get known test) (slice_get known one) (slice_get known other) h)))
    (and_from (nat_lt one (length known)) (nat_lt other (length known))
    (lt-ltb one (length known) (there known one (one_there (slice_get known test) (slice_get known one) (slice_get known other) h)))
    (lt-ltb other (length known) (there known other (other_there (slice_get known test) (slice_get known one) (slice_get known other) h))))
lower known (Select map index) h =
    and_from (nat_lt map (length known)) (nat_lt index (length known))
    (lt-ltb map (length known) (there known map (map_there (slice_get known map) (slice_get known index) h)))
    (lt-ltb index (length known) (there known index (index_there (slice_get known map) (slice_get known index) h)))
lower known (Store map index value) h =
    and_from (nat_lt map (length known)) (nat_lt index (length known) && nat_lt value (length known))
    (lt-ltb map (length known) (there known map (stored_there (slice_get known map) (slice_get known index) (slice_get known value) h)))
    (and_from (nat_lt index (length known)) (nat_lt value (length known))
    (lt-ltb index (length known) (there known index (place_there (slice_get known map) (slice_get known index) (slice_get known value) h)))
    (lt-ltb value (length known) (there known value (entry_there (slice_get known map) (slice_get known index) (slice_get known value) h))))

some_at : (ss : List Sort) (k : ℕ) → k < length ss → IsSome (slice_get ss k)
some_at [] k h = absurd (omega (arith, h))
some_at (s ∷ ss) zero h = refl
some_at (s ∷ ss) (suc k) h = some_at ss k (omega (arith, h))

-- children stand before their node
pub children_lower : (nodes : List TermNode) (k : ℕ) (node : TermNode) → IsSome (sorts nodes) → slice_get nodes k ≡ Some node → children_below k node ≡ true
children_lower nodes k node ok at =
    let s = sorts_are (sorts nodes) ok in
    let within : k < length nodes = slice_get_within nodes k node at in
    let many : k < length s.0 = omega (arith, count_sorts nodes s.0 s.1, within) in
    let there_is : IsSome (sort_of_node (take k s.0) node) = subst (λ (o : Option Sort). IsSome o) (node_has_sort nodes s.0 k node s.1 at) (some_at s.0 k many) in
    let count : length (take k s.0) ≡ k = omega (arith, length-take k s.0, many) in
    subst (λ (n : ℕ). children_below n node ≡ true) count (lower (take k s.0) node there_is)

-- ---- the copy of a node from those of its children

renamed_value : (a c : ℕ → Value) (us vs : List Value) (place : ℕ → ℕ) (k : ℕ) (node : TermNode) → children_below k node ≡ true → is_made node ≡ true
    → ((j : ℕ) → j < k → at us (place j) ≡ at vs j) → node_value a us (renamed place node) ≡ node_value c vs node
renamed_value a c us vs place k (Lit v) h made same = refl
renamed_value a c us vs place k (ZeroMap index elem) h made same = refl
renamed_value a c us vs place k (Variable number sort) h made same = absurd (true≢false (sym made))
renamed_value a c us vs place k (Unary op child) h made same = ap (unary_value op) (same child (ltb-true child k h))
renamed_value a c us vs place k (Binary op left right) h made same =
    let b = and_parts (nat_lt left k) (nat_lt right k) h in
    ap (λ (v : Value). binary_value op v (at us (place right))) (same left (ltb-true left k b.0)) ∙ ap (λ (v : Value). binary_value op (at vs left) v) (same right (ltb-true right k b.1))
renamed_value a c us vs place k (If test one other) h made same =
    let b = and_parts (nat_lt test k) (nat_lt one k && nat_lt other k) h in
    let d = and_parts (nat_lt one k) (nat_lt other k) b.1 in
    ap (λ (v : Value). pick v (at us (place one)) (at us (place other))) (same test (ltb-true test k b.0))
    ∙ (ap (λ (v : Value). pick (at vs test) v (at us (place other))) (same one (ltb-true one k d.0)) ∙ ap (λ (v : Value). pick (at vs test) (at vs one) v) (same other (ltb-true other k d.1)))
renamed_value a c us vs place k (Select map index) h made same =
    let b = and_parts (nat_lt map k) (nat_lt index k) h in
    ap (λ (v : Value). select_value v (at us (place index))) (same map (ltb-true map k b.0)) ∙ ap (λ (v : Value). select_value (at vs map) v) (same index (ltb-true index k b.1))
renamed_value a c us vs place k (Store map index value) h made same =
    let b = and_parts (nat_lt map k) (nat_lt index k && nat_lt value k) h in
    let d = and_parts (nat_lt index k) (nat_lt value k) b.1 in
    ap (λ (v : Value). store_value v (at us (place index)) (at us (place value))) (same map (ltb-true map k b.0))
    ∙ (ap (λ (v : Value). store_value (at vs map) v (at us (place value))) (same index (ltb-true index k d.0)) ∙ ap (λ (v : Value). store_value (at vs map) (at vs index) v) (same value (ltb-true value k d.1)))

renamed_sort : (into known : List Sort) (place : ℕ → ℕ) (k : ℕ) (node : TermNode) → children_below k node ≡ true → is_made node ≡ true
    → ((j : ℕ) → j < k → slice_get into (place j) ≡ slice_get known j) → sort_of_node into (renamed place node) ≡ sort_of_node known node
renamed_sort into known place k (Lit v) h made same = refl
renamed_sort into known place k (ZeroMap index elem) h made same = refl
renamed_sort into known place k (Variable number sort) h made same = absurd (true≢false (sym made))
renamed_sort into known place k (Unary op child) h made same = ap (λ (o : Option Sort). unary_sort op (as_scalar o)) (same child (ltb-true child k h))
renamed_sort into known place k (Binary op left right) h made same =
    let b = and_parts (nat_lt left k) (nat_lt right k) h in
    ap (λ (o : Option Sort). binary_sort op (as_scalar o) (as_scalar (slice_get into (place right)))) (same left (ltb-true left k b.0))
    ∙ ap (λ (o : Option Sort). binary_sort op (as_scalar (slice_get known left)) (as_scalar o)) (same right (ltb-true right k b.1))
renamed_sort into known place k (If test one other) h made same =
    let b = and_parts (nat_lt test k) (nat_lt one k && nat_lt other k) h in
    let d = and_parts (nat_lt one k) (nat_lt other k) b.1 in
    ap (λ (x : Option Sort). if_sort (as_scalar x) (slice_get into (place one)) (slice_get into (place other))) (same test (ltb-true test k b.0))
    ∙ (ap (λ (x : Option Sort). if_sort (as_scalar (slice_get known test)) x (slice_get into (place other))) (same one (ltb-true one k d.0))
    ∙ ap (λ (x : Option Sort). if_sort (as_scalar (slice_get known test)) (slice_get known one) x) (same other (ltb-true other k d.1)))
renamed_sort into known place k (Select map index) h made same =
    let b = and_parts (nat_lt map k) (nat_lt index k) h in
    ap (λ (x : Option Sort). select_sort x (as_scalar (slice_get into (place index)))) (same map (ltb-true map k b.0))
    ∙ ap (λ (x : Option Sort). select_sort (slice_get known map) (as_scalar x)) (same index (ltb-true index k b.1))
renamed_sort into known place k (Store map index value) h made same =
    let b = and_parts (nat_lt map k) (nat_lt index k && nat_lt value k) h in
    let d = and_parts (nat_lt index k) (nat_lt value k) b.1 in
    ap (λ (x : Option Sort). store_sort x (as_scalar (slice_get into (place index))) (as_scalar (slice_get into (place value)))) (same map (ltb-true map k b.0))
    ∙ (ap (λ (x : Option Sort). store_sort (slice_get known map) (as_scalar x) (as_scalar (slice_get into (place value)))) (same index (ltb-true index k d.0))
    ∙ ap (λ (x : Option Sort). store_sort (slice_get known map) (as_scalar (slice_get known index)) (as_scalar x)) (same value (ltb-true value k d.1)))

agrees_made : (place : ℕ → ℕ) (into : List TermNode) (node : TermNode) → is_made node ≡ true → variable_agrees into (renamed place node) ≡ true
agrees_made place into (Lit a) h = refl
agrees_made place into (ZeroMap index elem) h = refl
agrees_made place into (Variable number sort) h = absurd (true≢false (sym h))
agrees_made place into (Unary op child) h = refl
agrees_made place into (Binary op left right) h = refl
agrees_made place into (If test one other) h = refl
agrees_made place into (Select map index) h = refl
agrees_made place into (Store map index value) h = refl

some_is : (o : Option Sort) → IsSome o → is_some o ≡ true
some_is None h = cc
some_is (Some s) h = refl

take_at : (ss : List Sort) (k j : ℕ) → j < k → slice_get (take k ss) j ≡ slice_get ss j
take_at [] zero j h = absurd (omega (arith, h))
take_at [] (suc k) j h = refl
take_at (s ∷ ss) zero j h = absurd (omega (arith, h))
take_at (s ∷ ss) (suc k) zero h = refl
take_at (s ∷ ss) (suc k) (suc j) h = take_at ss k j (omega (arith, h))

-- where the copies before a node that is no variable have their sorts, its copy may stand behind, with its sort
pub copy_fits : (nodes into : List TermNode) (places : List ℕ) (node : TermNode) → IsSome (sorts nodes) → IsSome (sorts into) → IsPart nodes into places
    → slice_get nodes (length places) ≡ Some node → is_made node ≡ true
    → IsTrue (fits_behind into (renamed (slice_index places) node)) × (sort_behind into (renamed (slice_index places) node) ≡ sort_at nodes (length places))
copy_fits nodes into places node ok into_ok part at made =
    let k = length places in
    let r = renamed (slice_index places) node in
    let n = sorts_are (sorts nodes) ok in
    let t = sorts_are (sorts into) into_ok in
    let within : k < length nodes = slice_get_within nodes k node at in
    let sort : slice_get n.0 k ≡ sort_of_node (take k n.0) node = node_has_sort nodes n.0 k node n.1 at in
    let there_is : IsSome (sort_of_node (take k n.0) node) = subst (λ (o : Option Sort). IsSome o) sort (some_at n.0 k (omega (arith, count_sorts nodes n.0 n.1, within))) in
    let copy : sort_of_node t.0 r ≡ sort_of_node (take k n.0) node =
    renamed_sort t.0 (take k n.0) (slice_index places) k node (children_lower nodes k node ok at) made
    (λ j l. sym (of_sorts into t.0 (slice_index places j) t.1) ∙ (part.sorts_are j l ∙ (of_sorts nodes n.0 j n.1 ∙ sym (take_at n.0 k j l)))) in
    let behind : sort_behind into r ≡ sort_of_node (take k n.0) node = ap (λ (o : Option (List Sort)). option_and_then (λ ss. sort_of_node ss r) o) t.1 ∙ copy in (
      and_from (is_some (sort_behind into r)) (variable_agrees into r)
          (some_is (sort_behind into r) (subst (λ (o : Option Sort). IsSome o) (sym behind) there_is)) (agrees_made (slice_index places) into node made),
      behind ∙ (sym sort ∙ sym (of_sorts nodes n.0 k n.1)),
    )

-- ---- parts

-- each place is a term
pub place_low : (nodes into : List TermNode) (places : List ℕ) (j : ℕ) → IsSome (sorts nodes) → IsSome (sorts into) → IsPart nodes into places → j < length places → slice_index places j < length into
place_low nodes into places j ok into_ok part l =
    let s = sort_here nodes j ok (omega (arith, l, part.count)) in
    sort_within into (slice_index places j) s.0 (part.sorts_are j l ∙ s.1)

pub part_stays : (nodes old new : List TermNode) (places : List ℕ) → IsSome (sorts nodes) → IsSome (sorts old) → IsSome (sorts new) → Grows old new → IsPart nodes old places → IsPart nodes new places
part_stays nodes old new places ok old_ok new_ok g part = record {
  count = part.count;
  sorts_are = λ j l. sort_stays old new (slice_index places j) old_ok new_ok g (place_low nodes old places j ok old_ok part l) ∙ part.sorts_are j l;
  means = λ a c fit puts j l.
      value_stays a old new (slice_index places j) g (place_low nodes old places j ok old_ok part l)
      ∙ part.means a c (fits_before a old new g fit)
      (λ i number sort low is. puts i number sort low is ∙ value_stays a old new (slice_index places i) g (place_low nodes old places i ok old_ok part low)) j l;
}

pub index_left : (xs ys : List ℕ) (j : ℕ) → j < length xs → slice_index (xs ++ ys) j ≡ slice_index xs j
index_left [] ys j h = absurd (omega (arith, h))
index_left (x ∷ xs) ys zero h = refl
index_left (x ∷ xs) ys (suc j) h = index_left xs ys j (omega (arith, h))

pub index_last : (xs : List ℕ) (y : ℕ) → slice_index (xs ++ y ∷ []) (length xs) ≡ y
index_last [] y = refl
index_last (x ∷ xs) y = index_last xs y

pub lt_or_eq : (j k : ℕ) → j < k + 1 → (j < k) ⊎ (j ≡ k)
lt_or_eq j k l = by_test (nat_lt j k) refl
  where
    by_test : (b : Bool) → nat_lt j k ≡ b → (j < k) ⊎ (j ≡ k)
    by_test true is = inl (ltb-true j k is)
    by_test false is = let no = ltb-false j k is in inr (omega (arith, l, no))

-- one place more, of a term with the next node's sort and value
pub part_pushed : (nodes into : List TermNode) (places : List ℕ) (t : ℕ) → IsPart nodes into places → length places < length nodes → sort_at into t ≡ sort_at nodes (length places)
    → ((a c : ℕ → Value) → IsTrue (fits a into) → Puts nodes into (places ++ t ∷ []) a c → ((j : ℕ) → j < length places → value a into (slice_index places j) ≡ value c nodes j)
    → value a into t ≡ value c nodes (length places))
    → IsPart nodes into (places ++ t ∷ [])
part_pushed nodes into places t part more sort means = record {
  count = omega (arith, count, more);
  sorts_are = λ j l. ⊎_elim (λ low. ap (sort_at into) (index_left places (t ∷ []) j low) ∙ part.sorts_are j low)
      (λ e. subst (λ (i : ℕ). sort_at into (slice_index (places ++ t ∷ []) i) ≡ sort_at nodes i) (sym e) (ap (sort_at into) (index_last places t) ∙ sort))
      (lt_or_eq j (length places) (omega (arith, l, count)));
  means = all;
}
  where
    count : length (places ++ t ∷ []) ≡ length places + 1
    count = length-append places (t ∷ [])

    all : (a c : ℕ → Value) → IsTrue (fits a into) → Puts nodes into (places ++ t ∷ []) a c → (j : ℕ) → j < length (places ++ t ∷ []) → value a into (slice_index (places ++ t ∷ []) j) ≡ value c nodes j
    all a c fit puts j l = ⊎_elim (λ low. ap (value a into) (index_left places (t ∷ []) j low) ∙ before j low)
        (λ e. subst (λ (i : ℕ). value a into (slice_index (places ++ t ∷ []) i) ≡ value c nodes i) (sym e) (ap (value a into) (index_last places t) ∙ means a c fit puts before))
        (lt_or_eq j (length places) (omega (arith, l, count)))
      where
        before : (i : ℕ) → i < length places → value a into (slice_index places i) ≡ value c nodes i
        before = part.means a c fit (λ i number sort low is. puts i number sort (omega (arith, low, count)) is ∙ ap (value a into) (index_left places (t ∷ []) i low))

-- a node that is no variable
pub made_pushed : (nodes old new : List TermNode) (places : List ℕ) (node : TermNode) (t : ℕ) → IsSome (sorts nodes) → IsSome (sorts old) → IsPart nodes old places
    → slice_get nodes (length places) ≡ Some node → is_made node ≡ true → IsPlaced old new (renamed (slice_index places) node) t → IsPart nodes new (places ++ t ∷ [])
made_pushed nodes old new places node t ok old_ok part at made p =
    part_pushed nodes new places t (part_stays nodes old new places ok old_ok p.sorted p.grows part) (slice_get_within nodes (length places) node at)
    (p.sort ∙ (copy_fits nodes old places node ok old_ok part at made).1)
    (λ a c fit puts before. p.means a fit
    ∙ (renamed_value a c (values a new) (values c nodes) (slice_index places) (length places) node (children_lower nodes (length places) node ok at) made before
    ∙ sym (node_values c nodes (length places) node ok at)))

-- a variable, with a term of its sort in its place
pub variable_pushed : (nodes into : List TermNode) (places : List ℕ) (number t : ℕ) (sort : Sort) → IsSome (sorts nodes) → IsPart nodes into places
    → slice_get nodes (length places) ≡ Some (Variable number sort) → sort_at into t ≡ sort_at nodes (length places) → IsPart nodes into (places ++ t ∷ [])
variable_pushed nodes into places number t sort ok part at same =
    part_pushed nodes into places t part (slice_get_within nodes (length places) (Variable number sort) at) same
    (λ a c fit puts before. ap (value a into) (sym (index_last places t))
    ∙ (sym (puts (length places) number sort (omega (arith, length-append places (t ∷ []))) at)
    ∙ sym (node_values c nodes (length places) (Variable number sort) ok at)))

-- a variable's node has the variable's sort
sort_if_is : (sort s : Sort) → sort_of_node [] (Variable 0 sort) ≡ Some s → sort ≡ s
sort_if_is sort s h = by_sort (is_sort sort) h
  where
    by_sort : (b : Bool) → (if b then Some sort else None) ≡ Some s → sort ≡ s
    by_sort true e = cc
    by_sort false e = cc

pub variable_sort : (nodes : List TermNode) (k number : ℕ) (sort : Sort) → IsSome (sorts nodes) → slice_get nodes k ≡ Some (Variable number sort) → sort_at nodes k ≡ Some sort
variable_sort nodes k number sort ok at =
    let n = sorts_are (sorts nodes) ok in
    let s = sort_there nodes n.0 k n.1 (slice_get_within nodes k (Variable number sort) at) in
    let is : sort_of_node (take k n.0) (Variable number sort) ≡ Some s.0 = sym (node_has_sort nodes n.0 k (Variable number sort) n.1 at) ∙ s.1 in
    of_sorts nodes n.0 k n.1 ∙ (s.1 ∙ ap (λ (x : Sort). Some x) (sym (sort_if_is sort s.0 is)))

-- anywhere
pub variable_fits : (nodes : List TermNode) (k number : ℕ) (sort : Sort) → IsSome (sorts nodes) → slice_get nodes k ≡ Some (Variable number sort)
    → (known : List Sort) (n : ℕ) → sort_of_node known (Variable n sort) ≡ Some sort
variable_fits nodes k number sort ok at known n =
    let ss = sorts_are (sorts nodes) ok in
    let s = sort_there nodes ss.0 k ss.1 (slice_get_within nodes k (Variable number sort) at) in
    let is : sort_of_node known (Variable n sort) ≡ Some s.0 = sym (node_has_sort nodes ss.0 k (Variable number sort) ss.1 at) ∙ s.1 in
    is ∙ ap (λ (x : Sort). Some x) (sym (sort_if_is sort s.0 is))

-- ---- the node itself, put behind

-- nodes that are no variables have none of their own
pub made_fits : (a : ℕ → Value) (place : ℕ → ℕ) (node : TermNode) → is_made node ≡ true → IsTrue (node_fits a (renamed place node))
made_fits a place (Lit v) h = refl
made_fits a place (ZeroMap i e) h = refl
made_fits a place (Variable number sort) h = absurd (true≢false (sym h))
made_fits a place (Unary op child) h = refl
made_fits a place (Binary op left right) h = refl
made_fits a place (If test one other) h = refl
made_fits a place (Select i j) h = refl
made_fits a place (Store i j v) h = refl

pub made_below : (n : ℕ) (place : ℕ → ℕ) (node : TermNode) → is_made node ≡ true → IsTrue (node_below n (renamed place node))
made_below n place (Lit v) h = refl
made_below n place (ZeroMap i e) h = refl
made_below n place (Variable number sort) h = absurd (true≢false (sym h))
made_below n place (Unary op child) h = refl
made_below n place (Binary op left right) h = refl
made_below n place (If test one other) h = refl
made_below n place (Select i j) h = refl
made_below n place (Store i j v) h = refl

seam : (xs : List TermNode) (node : TermNode) → slice_get (xs ++ node ∷ []) (length xs) ≡ Some node
seam [] node = refl
seam (x ∷ xs) node = seam xs node

pub added : (into new : List TermNode) (node : TermNode) (t : ℕ) → IsSome (sorts into) → IsTrue (fits_behind into node) → new ≡ into ++ node ∷ [] → t ≡ length into → IsPlaced into new node t
added into new node t ok fit is last =
    subst (λ (ns : List TermNode). IsPlaced into ns node t) (sym is) (subst (λ (n : ℕ). IsPlaced into (into ++ node ∷ []) node n) (sym last) here)
  where
    s : (s : Sort) × (sort_behind into node ≡ Some s)
    s = fits_some into node fit

    here : IsPlaced into (into ++ node ∷ []) node (length into)
    here = record {
      grows = (node ∷ [], refl);
      sorted = (later_push into (into ++ node ∷ []) node s.0 s.1 refl).sound;
      sort = sort_added into node s.0 s.1 ∙ sym s.1;
      means = λ v h. node_values v (into ++ node ∷ []) (length into) node (later_push into (into ++ node ∷ []) node s.0 s.1 refl).sound (seam into node);
      fits = λ v h k. fits_push v into node h k;
      low = λ k h l. below_push k into node h l;
    }

-- ---- another node in the place of a node

-- the value of a node whose children have the same values
pub value_from : (a : ℕ → Value) (us vs : List Value) (k : ℕ) (node : TermNode) → children_below k node ≡ true → ((j : ℕ) → j < k → at us j ≡ at vs j) → node_value a us node ≡ node_value a vs node
value_from a us vs k (Lit v) h same = refl
value_from a us vs k (ZeroMap i e) h same = refl
value_from a us vs k (Variable number sort) h same = refl
value_from a us vs k (Unary op child) h same = renamed_value a a us vs (λ (j : ℕ). j) k (Unary op child) h refl same
value_from a us vs k (Binary op left right) h same = renamed_value a a us vs (λ (j : ℕ). j) k (Binary op left right) h refl same
value_from a us vs k (If test one other) h same = renamed_value a a us vs (λ (j : ℕ). j) k (If test one other) h refl same
value_from a us vs k (Select i j) h same = renamed_value a a us vs (λ (j : ℕ). j) k (Select i j) h refl same
value_from a us vs k (Store i j v) h same = renamed_value a a us vs (λ (j : ℕ). j) k (Store i j v) h refl same

-- the sort of a node whose children have the same sorts
sort_from : (into known : List Sort) (k : ℕ) (node : TermNode) → children_below k node ≡ true → ((j : ℕ) → j < k → slice_get into j ≡ slice_get known j) → sort_of_node into node ≡ sort_of_node known node
sort_from into known k (Lit v) h same = refl
sort_from into known k (ZeroMap i e) h same = refl
sort_from into known k (Variable number sort) h same = refl
sort_from into known k (Unary op child) h same = renamed_sort into known (λ (j : ℕ). j) k (Unary op child) h refl same
sort_from into known k (Binary op left right) h same = renamed_sort into known (λ (j : ℕ). j) k (Binary op left right) h refl same
sort_from into known k (If test one other) h same = renamed_sort into known (λ (j : ℕ). j) k (If test one other) h refl same
sort_from into known k (Select i j) h same = renamed_sort into known (λ (j : ℕ). j) k (Select i j) h refl same
sort_from into known k (Store i j v) h same = renamed_sort into known (λ (j : ℕ). j) k (Store i j v) h refl same

-- the children of a node that may stand behind others are among these
pub behind_lower : (nodes : List TermNode) (node : TermNode) → IsSome (sorts nodes) → IsTrue (fits_behind nodes node) → children_below (length nodes) node ≡ true
behind_lower nodes node ok fit =
    let s = fits_some nodes node fit in
    let n = sorts_are (sorts nodes) ok in
    let is : sort_of_node n.0 node ≡ Some s.0 = sym (ap (λ (o : Option (List Sort)). option_and_then (λ ss. sort_of_node ss node) o) n.1) ∙ s.1 in
    let count : length n.0 ≡ length nodes = omega (arith, count_sorts nodes n.0 n.1) in
    subst (λ (k : ℕ). children_below k node ≡ true) count (lower n.0 node (subst (λ (o : Option Sort). IsSome o) (sym is) refl))

value_grown : (a : ℕ → Value) (old new : List TermNode) (node : TermNode) → IsSome (sorts old) → Grows old new → IsTrue (fits_behind old node) → node_value a (values a new) node ≡ node_value a (values a old) node
value_grown a old new node ok g fit = value_from a (values a new) (values a old) (length old) node (behind_lower old node ok fit) (λ j l. value_stays a old new j g l)

-- a node that is there already
pub found_placed : (nodes : List TermNode) (node : TermNode) (k : ℕ) → IsSome (sorts nodes) → slice_get nodes k ≡ Some node → IsPlaced nodes nodes node k
found_placed nodes node k ok is = record {
  grows = grows_not nodes;
  sorted = ok;
  sort = sort;
  means = λ a f. node_values a nodes k node ok is;
  fits = λ a f h. f;
  low = λ j h l. h;
}
  where
    sort : sort_at nodes k ≡ sort_behind nodes node
    sort =
        let n = sorts_are (sorts nodes) ok in
        of_sorts nodes n.0 k n.1
        ∙ (node_has_sort nodes n.0 k node n.1 is
        ∙ (sym (sort_from n.0 (take k n.0) k node (children_lower nodes k node ok is) (λ j l. sym (take_at n.0 k j l)))
        ∙ sym (ap (λ (o : Option (List Sort)). option_and_then (λ ss. sort_of_node ss node) o) n.1)))

-- what is placed for a node with the same sort and value is placed for the node
pub like_placed : (old new : List TermNode) (node other : TermNode) (t : ℕ) → IsSome (sorts old) → IsTrue (fits_behind old node) → IsLike old node other → IsPlaced old new other t → IsPlaced old new node t
like_placed old new node other t ok fit like p = record {
  grows = p.grows;
  sorted = p.sorted;
  sort = p.sort ∙ like.sort;
  means = λ a f. p.means a f ∙ (value_grown a old new other ok p.grows like.behind ∙ (like.value a (fits_before a old new p.grows f) ∙ sym (value_grown a old new node ok p.grows fit)));
  fits = λ a f h. p.fits a f (like.fit a h);
  low = λ k h l. p.low k h (like.low k l);
}
