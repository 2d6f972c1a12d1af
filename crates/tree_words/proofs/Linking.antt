-- The copies of a tree's formulas are put together.
use Rattle.std.proofs.Common.{◌≡◌, ℕ, zero, suc, ◌<◌, Bool, true, false, ◌||◌, List, [], ◌∷◌, ◌++◌, map, length, refl, sym, ap, ◌∙◌, subst, arith, true≢false, inl, inr, ◌⊎◌, ⊎_elim}
use Rattle.std.specs.Prelude.{Option, None, Some, is_some, slice_get, slice_index, nat_eq, nat_lt, IsSome, IsTrue, if◌then◌else◌}
use Rattle.std.specs.Option.{option_and_then}
use Rattle.std.proofs.lemmas.Option.{slice_get_within}
use Rattle.hy_val.specs.declared.sort.Sort.{Sort}
use Rattle.hy_val.specs.declared.value.Value.{Value}
use Rattle.hy_term.specs.TermSorts.{named, or_else, sort_of_number}
use Rattle.hy_term.specs.Meaning.{value, fits}
use Rattle.hy_term.specs.Variables.{insert, with_variable, variables_onto, numbers_of, numbers, is_in}
use Rattle.hy_term.specs.declared.node.TermNode.{TermNode}
use Rattle.hy_term.specs.declared.node.TermNode.TheVariants.{Lit, ZeroMap, Variable, Unary, Binary, If, Select, Store}
use Rattle.hy_term.specs.declared.node.TermVariable.{TermVariable}
use Rattle.hy_term.proofs.Numbering.{number_is}
use Rattle.flat_prog.specs.Local.{Track}
use Rattle.tree_terms.specs.declared.linked.Linked.{Linked}
use Rattle.tree_terms.specs.declared.linked.Role.{Role}
use Rattle.tree_terms.specs.declared.linked.Role.TheVariants.{Const, Global, In, Failed, Out, After, Own}
use Rattle.tree_terms.specs.declared.linked.SiteTerms.{SiteTerms}
use Rattle.tree_terms.specs.declared.linked.Template.{Template as Formula}
use Rattle.tree_terms.specs.Linked.{template_of, nodes_of, parent, kid, role_of, site_of, given, up, down, back, global, argument, by_role}
use Rattle.tree_terms.specs.Copying.{AreCopied, PutIs as NumberPutIs}
use Rattle.tree_terms.specs.Tables.{row}
use Rattle.tree_words.specs.Template.{IsComposite, PutIs, Stands}
use Rattle.tree_words.specs.Linking.{walk, number_or, is_node_of, number, role_or, fails_by, outs_by, globals_by, template_at, place_at, first_at, put_at, before_by, args_by, proc_by, globals_of, args_of, proc_of, GlobalIs, InIs, IsThere, IsFilled}

-- ---- a variable that stands in nodes has a node

insert_in : (n : ℕ) (v : TermVariable) (ws : List TermVariable) → is_in n (numbers_of (insert v ws)) ≡ true → (n ≡ v.number) ⊎ (is_in n (numbers_of ws) ≡ true)
insert_in n v [] h = head_in (nat_eq n v.number) refl h
  where
    head_in : (b : Bool) → nat_eq n v.number ≡ b → (b || false) ≡ true → (n ≡ v.number) ⊎ (false ≡ true)
    head_in true e k = inl (number_is n v.number e)
    head_in false e k = inr k
insert_in n v (w ∷ ws) h = by_order (nat_lt w.number v.number) (nat_eq w.number v.number) h (insert_in n v ws)
  where
    in_front : (b : Bool) (r : Bool) → nat_eq n v.number ≡ b → (b || r) ≡ true → (n ≡ v.number) ⊎ (r ≡ true)
    in_front true r e k = inl (number_is n v.number e)
    in_front false r e k = inr k

    behind : (b r s : Bool) → (b || r) ≡ true → (r ≡ true → (n ≡ v.number) ⊎ (s ≡ true)) → (n ≡ v.number) ⊎ ((b || s) ≡ true)
    behind true r s k f = inr refl
    behind false r s k f = f k

    by_order : (l e : Bool) → is_in n (numbers_of (if l then w ∷ insert v ws else if e then w ∷ ws else v ∷ w ∷ ws)) ≡ true
        → (is_in n (numbers_of (insert v ws)) ≡ true → (n ≡ v.number) ⊎ (is_in n (numbers_of ws) ≡ true)) → (n ≡ v.number) ⊎ (is_in n (numbers_of (w ∷ ws)) ≡ true)
    by_order true e k f = behind (nat_eq n w.number) (is_in n (numbers_of (insert v ws))) (is_in n (numbers_of ws)) k f
    by_order false true k f = inr k
    by_order false false k f = in_front (nat_eq n v.number) (is_in n (numbers_of (w ∷ ws))) refl k

named_self : (n : ℕ) (sort : Sort) → named n (Variable n sort) ≡ Some sort
named_self n sort = by_test (nat_eq n n) (same n)
  where
    same : (k : ℕ) → nat_eq k k ≡ true
    same k = grind (arith, Rattle.std.proofs.lemmas.Bool.Decides.nat_tests)

    by_test : (b : Bool) → b ≡ true → (if b then Some sort else None) ≡ Some sort
    by_test true e = refl
    by_test false e = cc

some_else : (o p : Option Sort) → IsSome o → IsSome (or_else o p)
some_else None p h = cc
some_else (Some s) p h = refl

some_then : (o p : Option Sort) → IsSome p → IsSome (or_else o p)
some_then None p h = h
some_then (Some s) p h = refl

onto_in : (n : ℕ) (vs : List TermVariable) (nodes : List TermNode) → is_in n (numbers_of (variables_onto vs nodes)) ≡ true → (is_in n (numbers_of vs) ≡ true) ⊎ IsSome (sort_of_number n nodes)
onto_in n vs [] h = inl h
onto_in n vs (node ∷ nodes) h = ⊎_elim (λ w. with_in node w) (λ s. inr (some_then (named n node) (sort_of_number n nodes) s)) (onto_in n (with_variable vs node) nodes h)
  where
    with_in : (x : TermNode) → is_in n (numbers_of (with_variable vs x)) ≡ true → (is_in n (numbers_of vs) ≡ true) ⊎ IsSome (or_else (named n x) (sort_of_number n nodes))
    with_in (Lit a) w = inl w
    with_in (ZeroMap i e) w = inl w
    with_in (Variable k sort) w = ⊎_elim
        (λ e. inr (some_else (named n (Variable k sort)) (sort_of_number n nodes) (subst (λ (m : ℕ). IsSome (named n (Variable m sort))) e (subst (λ (o : Option Sort). IsSome o) (sym (named_self n sort)) refl))))
        (λ before. inl before) (insert_in n (record { number = k; sort = sort }) vs w)
    with_in (Unary op c) w = inl w
    with_in (Binary op l r) w = inl w
    with_in (If t o p) w = inl w
    with_in (Select m i) w = inl w
    with_in (Store m i v) w = inl w

named_node : (n : ℕ) (node : TermNode) → is_some (named n node) ≡ true → (sort : Sort) × (node ≡ Variable n sort)
named_node n (Lit a) h = cc
named_node n (ZeroMap i e) h = cc
named_node n (Variable k sort) h = by_test (nat_eq k n) refl h
  where
    by_test : (b : Bool) → nat_eq k n ≡ b → is_some (if b then Some sort else None) ≡ true → (s : Sort) × (Variable k sort ≡ Variable n s)
    by_test true e y = (sort, ap (λ (m : ℕ). Variable m sort) (number_is k n e))
    by_test false e y = cc
named_node n (Unary op c) h = cc
named_node n (Binary op l r) h = cc
named_node n (If t o p) h = cc
named_node n (Select m i) h = cc
named_node n (Store m i v) h = cc

rest_some : (o p : Option Sort) → is_some o ≡ false → IsSome (or_else o p) → IsSome p
rest_some None p e h = h
rest_some (Some s) p e h = cc

stands_first : (n : ℕ) (nodes : List TermNode) → IsSome (sort_of_number n nodes) → (sort : Sort) × (slice_get nodes (first_at n nodes) ≡ Some (Variable n sort))
stands_first n [] h = cc
stands_first n (node ∷ nodes) h = by_test (is_some (named n node)) refl (λ e. stands_first n nodes (rest_some (named n node) (sort_of_number n nodes) e h))
  where
    by_test : (b : Bool) → is_some (named n node) ≡ b → (is_some (named n node) ≡ false → (sort : Sort) × (slice_get nodes (first_at n nodes) ≡ Some (Variable n sort)))
        → (sort : Sort) × (slice_get (node ∷ nodes) (if b then 0 else suc (first_at n nodes)) ≡ Some (Variable n sort))
    by_test true e rest = let v = named_node n node e in (v.0, ap (λ (x : TermNode). Some x) v.1)
    by_test false e rest = rest e

pub stands_at : (n : ℕ) (nodes : List TermNode) → is_in n (numbers nodes) ≡ true → (sort : Sort) × (slice_get nodes (first_at n nodes) ≡ Some (Variable n sort))
stands_at n nodes h = stands_first n nodes (⊎_elim (λ e. absurd (true≢false (sym e))) (λ s. s) (onto_in n [] nodes h))

-- ---- lists

pub got : (xs : List ℕ) (k : ℕ) → k < length xs → slice_get xs k ≡ Some (slice_index xs k)
got [] k l = absurd (omega (arith, l))
got (x ∷ xs) zero l = refl
got (x ∷ xs) (suc k) l = got xs k (omega (arith, l))

index_map : (f : ℕ → ℕ) (xs : List ℕ) (k : ℕ) → k < length xs → slice_index (map f xs) k ≡ f (slice_index xs k)
index_map f [] k l = absurd (omega (arith, l))
index_map f (x ∷ xs) zero l = refl
index_map f (x ∷ xs) (suc k) l = index_map f xs k (omega (arith, l))

length_map : (f : ℕ → ℕ) (xs : List ℕ) → length (map f xs) ≡ length xs
length_map f [] = refl
length_map f (x ∷ xs) = ap suc (length_map f xs)

-- ---- paths

snoc_by : (q : Linked) (p : List ℕ) (i : ℕ) (o : Option ℕ) → ((c : ℕ) → walk q c (p ++ i ∷ []) ≡ option_and_then (λ d. kid q d i) (walk q c p))
    → option_and_then (λ c. walk q c (p ++ i ∷ [])) o ≡ option_and_then (λ d. kid q d i) (option_and_then (λ c. walk q c p) o)
snoc_by q p i None ih = refl
snoc_by q p i (Some c) ih = ih c

some_same : (q : Linked) (o : Option ℕ) → option_and_then (λ c. Some c) o ≡ o
some_same q None = refl
some_same q (Some c) = refl

pub walk_snoc : (q : Linked) (m : ℕ) (p : List ℕ) (i : ℕ) → walk q m (p ++ i ∷ []) ≡ option_and_then (λ d. kid q d i) (walk q m p)
walk_snoc q m [] i = some_same q (kid q m i)
walk_snoc q m (j ∷ p) i = snoc_by q p i (kid q m j) (λ c. walk_snoc q c p i)

pub some_number : (o : Option ℕ) → is_some o ≡ true → o ≡ Some (number_or o)
some_number None h = cc
some_number (Some m) h = refl

module _ (q : Linked) (track : Option Formula → List Value → Track) (entry : ℕ) (base into : List TermNode) (places : List (List ℕ)) (filled : IsFilled q track) (done : AreCopied q base into places) where
  walk_in : (m : ℕ) (p : List ℕ) (n : ℕ) → m < length q.tree → walk q m p ≡ Some n → n < length q.tree
  walk_in m [] n l h = let e : m ≡ n = cc in omega (arith, e, l)
  walk_in m (i ∷ p) n l h = by_kid (kid q m i) refl h (λ c low. walk_in c p n low)
    where
      by_kid : (o : Option ℕ) → kid q m i ≡ o → option_and_then (λ c. walk q c p) o ≡ Some n → ((c : ℕ) → c < length q.tree → walk q c p ≡ Some n → n < length q.tree) → n < length q.tree
      by_kid None e k ih = cc
      by_kid (Some c) e k ih = ih c (filled.kids m i c l e).1 k

  pub in_tree : (p : List ℕ) → is_node_of q p ≡ true → number q p < length q.tree
  in_tree p at = walk_in 0 p (number q p) filled.root (some_number (walk q 0 p) at)

  -- a node at a site of a node
  pub kid_is : (p : List ℕ) (i : ℕ) → is_node_of q (p ++ i ∷ []) ≡ true → is_node_of q p ≡ true → kid q (number q p) i ≡ Some (number q (p ++ i ∷ []))
  kid_is p i at here =
      let e : walk q 0 (p ++ i ∷ []) ≡ kid q (number q p) i = walk_snoc q 0 p i ∙ ap (λ (o : Option ℕ). option_and_then (λ d. kid q d i) o) (some_number (walk q 0 p) here) in
      sym e ∙ some_number (walk q 0 (p ++ i ∷ [])) at

  pub copied : (p : List ℕ) → is_node_of q p ≡ true → (a : ℕ → Value) → IsTrue (fits a into) → (k : ℕ) → k < length (nodes_of q (number q p))
      → value a into (place_at q places p k) ≡ value (λ n. value a into (put_at q places p n)) (nodes_of q (number q p)) k
  copied p at a fit k l =
      let m = number q p in
      (done.copying.parts m (in_tree p at)).means a (λ n. value a into (put_at q places p n)) fit
      (λ j n sort low is. ap (λ (i : ℕ). value a into (slice_index (row places m) i)) (filled.once m j n sort (in_tree p at) is))
      k (omega (arith, l, done.whole m (in_tree p at)))

  global_put : (m k put : ℕ) → GlobalIs q m k → NumberPutIs places (parent q m) put (global q m k) → (k < length (globals_of q places m)) × (put ≡ slice_index (globals_of q places m) k)
  global_put zero k put l h = (l, subst (λ (o : Option ℕ). NumberPutIs places (parent q 0) put (given o)) (got q.globals k l) h)
  global_put (suc m) k put (s, is, l) h =
      let f = slice_index (row places (parent q (suc m))) in
      let src : option_and_then (λ (x : SiteTerms). slice_get x.before k) (site_of q (suc m)) ≡ Some (slice_index s.before k) =
      ap (λ (o : Option SiteTerms). option_and_then (λ (x : SiteTerms). slice_get x.before k) o) is ∙ got s.before k l in
      let g = subst (λ (o : Option ℕ). NumberPutIs places (parent q (suc m)) put (up o)) src h in
      subst (λ (o : Option SiteTerms). (k < length (map f (before_by o))) × (put ≡ slice_index (map f (before_by o)) k)) (sym is)
      (omega (arith, l, length_map f s.before), g.1 ∙ sym (index_map f s.before k l))

  in_put : (m k put : ℕ) → InIs q m k → NumberPutIs places (parent q m) put (argument q m k) → (k < length (args_of q places m)) × (put ≡ slice_index (args_of q places m) k)
  in_put zero k put l h = (l, subst (λ (o : Option ℕ). NumberPutIs places (parent q 0) put (given o)) (got q.args k l) h)
  in_put (suc m) k put (s, is, l) h =
      let f = slice_index (row places (parent q (suc m))) in
      let src : option_and_then (λ (x : SiteTerms). slice_get x.args k) (site_of q (suc m)) ≡ Some (slice_index s.args k) =
      ap (λ (o : Option SiteTerms). option_and_then (λ (x : SiteTerms). slice_get x.args k) o) is ∙ got s.args k l in
      let g = subst (λ (o : Option ℕ). NumberPutIs places (parent q (suc m)) put (up o)) src h in
      subst (λ (o : Option SiteTerms). (k < length (map f (args_by o))) × (put ≡ slice_index (map f (args_by o)) k)) (sym is)
      (omega (arith, l, length_map f s.args), g.1 ∙ sym (index_map f s.args k l))

  -- what comes back from a node
  back_put : (m i c put parent_of k : ℕ) (which : Formula → Option ℕ) (t : Formula) → kid q m i ≡ Some c → template_of q c ≡ Some t → which t ≡ Some k
      → NumberPutIs places parent_of put (back q which (kid q m i)) → put ≡ slice_index (row places c) k
  back_put m i c put parent_of k which t at is there h =
      (subst (λ (o : Option ℕ). NumberPutIs places parent_of put (down c o)) there
      (subst (λ (o : Option Formula). NumberPutIs places parent_of put (down c (option_and_then which o))) is
      (subst (λ (o : Option ℕ). NumberPutIs places parent_of put (back q which o)) at h))).1

  put_by : (p : List ℕ) → is_node_of q p ≡ true → (put : ℕ) (o : Option Role) → IsThere q (number q p) (role_or o) → NumberPutIs places (parent q (number q p)) put (by_role q (number q p) o)
      → PutIs (is_node_of q) (template_at q track) (place_at q places) q.consts (globals_of q places (number q p)) (args_of q places (number q p)) p put (role_or o)
  put_by p here put None there h = tt
  put_by p here put (Some (Const k)) there h = (there, subst (λ (o : Option ℕ). NumberPutIs places (parent q (number q p)) put (given o)) (got q.consts k there) h)
  put_by p here put (Some (Global k)) there h = global_put (number q p) k put there h
  put_by p here put (Some (In k)) there h = in_put (number q p) k put there h
  put_by p here put (Some (Failed i)) there h = λ at.
      let c = number q (p ++ i ∷ []) in
      let t = filled.formulas c (in_tree (p ++ i ∷ []) at) in
      back_put (number q p) i c put (parent q (number q p)) t.0.fails (λ (x : Formula). Some x.fails) t.0 (kid_is p i at here) t.1 refl h
      ∙ ap (λ (o : Option Formula). slice_index (row places c) (fails_by o)) (sym t.1)
  put_by p here put (Some (Out i k)) there h = λ at.
      let c = number q (p ++ i ∷ []) in
      let t = filled.formulas c (in_tree (p ++ i ∷ []) at) in
      let l = there c (kid_is p i at here) in
      let m : k < length t.0.outs = subst (λ (o : Option Formula). k < length (outs_by o)) t.1 l in (
        l,
        back_put (number q p) i c put (parent q (number q p)) (slice_index t.0.outs k) (λ (x : Formula). slice_get x.outs k) t.0 (kid_is p i at here) t.1 (got t.0.outs k m) h
            ∙ ap (λ (o : Option Formula). slice_index (row places c) (slice_index (outs_by o) k)) (sym t.1),
      )
  put_by p here put (Some (After i k)) there h = λ at.
      let c = number q (p ++ i ∷ []) in
      let t = filled.formulas c (in_tree (p ++ i ∷ []) at) in
      let l = there c (kid_is p i at here) in
      let m : k < length t.0.globals = subst (λ (o : Option Formula). k < length (globals_by o)) t.1 l in (
        l,
        back_put (number q p) i c put (parent q (number q p)) (slice_index t.0.globals k) (λ (x : Formula). slice_get x.globals k) t.0 (kid_is p i at here) t.1 (got t.0.globals k m) h
            ∙ ap (λ (o : Option Formula). slice_index (row places c) (slice_index (globals_by o) k)) (sym t.1),
      )
  put_by p here put (Some Own) there h = tt

  puts : (p : List ℕ) → is_node_of q p ≡ true → (n : ℕ) → Stands (template_at q track p) n
      → PutIs (is_node_of q) (template_at q track) (place_at q places) q.consts (globals_of q places (number q p)) (args_of q places (number q p)) p (put_at q places p n) ((template_at q track p).role n)
  puts p here n stands =
      let m = number q p in
      let v = stands_at n (nodes_of q m) stands in
      let j = first_at n (nodes_of q m) in
      let low : j < length (row places m) = omega (arith, slice_get_within (nodes_of q m) j (Variable n v.0) v.1, done.whole m (in_tree p here)) in
      put_by p here (put_at q places p n) (role_of q m n) (filled.there m j n v.0 (in_tree p here) v.1) (done.copying.puts m j n v.0 (in_tree p here) low v.1)

  globals_child : (m c : ℕ) (s : SiteTerms) → m < c → parent q c ≡ m → site_of q c ≡ Some s → globals_of q places c ≡ map (slice_index (row places m)) s.before
  globals_child m zero s l up is = absurd (omega (arith, l))
  globals_child m (suc c) s l up is =
      ap (λ (x : ℕ). map (slice_index (row places x)) (before_by (site_of q (suc c)))) up ∙ ap (λ (o : Option SiteTerms). map (slice_index (row places m)) (before_by o)) is

  args_child : (m c : ℕ) (s : SiteTerms) → m < c → parent q c ≡ m → site_of q c ≡ Some s → args_of q places c ≡ map (slice_index (row places m)) s.args
  args_child m zero s l up is = absurd (omega (arith, l))
  args_child m (suc c) s l up is =
      ap (λ (x : ℕ). map (slice_index (row places x)) (args_by (site_of q (suc c)))) up ∙ ap (λ (o : Option SiteTerms). map (slice_index (row places m)) (args_by o)) is

  proc_child : (m c : ℕ) (s : SiteTerms) → m < c → site_of q c ≡ Some s → proc_of q entry c ≡ s.proc
  proc_child m zero s l is = absurd (omega (arith, l))
  proc_child m (suc c) s l is = ap proc_by is

  pub composite : IsComposite (is_node_of q) (template_at q track) into (put_at q places) (place_at q places) q.consts (λ p. globals_of q places (number q p)) (λ p. args_of q places (number q p))
      (λ p. proc_of q entry (number q p))
  composite = record {
    fits = λ p here. filled.fits (number q p) (in_tree p here);
    copied = copied;
    puts = puts;
    actuals = λ p i at here.
        let m = number q p in
        let c = number q (p ++ i ∷ []) in
        let k = filled.kids m i c (in_tree p here) (kid_is p i at here) in
        (k.3, k.4, globals_child m c k.3 k.0 k.2 k.5, args_child m c k.3 k.0 k.2 k.5, proc_child m c k.3 k.0 k.5);
  }
