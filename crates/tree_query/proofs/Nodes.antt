-- The tree, the piece and the open sites of a question, by its table.
use Rattle.std.proofs.Common.{◌≡◌, ℕ, zero, suc, ◌+◌, ◌<◌, Bool, true, false, not, ◌&&◌, ◌⊎◌, List, [], ◌∷◌, ◌++◌, length, map, refl, sym, ap, ◌∙◌, subst, true≢false, ⊎_elim, arith, inl, inr}
use Rattle.std.specs.Prelude.{Option, None, Some, slice_get, if◌then◌else◌, bytes_eq}
use Rattle.std.specs.Option.{option_map}
use Rattle.std.proofs.lemmas.Bool.{and_from, and_parts, or_cases}
use Rattle.std.proofs.lemmas.Option.{slice_get-map, slice_get_within}
use Rattle.flat_prog.specs.Caps.{within}
use Rattle.flat_prog.specs.Program.{FlatProgram}
use Rattle.flat_prog.specs.Sites.{along, numbers_from}
use Rattle.call_tree.specs.Pieces.{names_of}
use Rattle.call_tree.specs.Trees.{all_sites, are_in, callees, extended, has_path, is_open, IsPartTree, last_of, last_or, open_of, proc_at, sites_at}
use Rattle.call_tree.specs.declared.piece.Decision2.{Decision2}
use Rattle.call_tree.proofs.PartTrees.{filter_has, path_is}
use Rattle.call_tree.proofs.Places.{LeadsTo, site_opens, tree_prefix}
use Rattle.tree_terms.specs.declared.linked.Linked.{Linked}
use Rattle.tree_words.specs.Asking.{flag_by, flags_by, may_by}
use Rattle.tree_words.specs.Linking.{is_node_of, number}
use Rattle.tree_words.specs.Question.{named}
use Rattle.tree_words.specs.RulesSaid.{numbered}
use Rattle.tree_words.specs.Whole.{IsTree}
use Rattle.tree_query.specs.Asked.{caps_of}
use Rattle.tree_query.specs.Walked.{IsWalked}
use Rattle.tree_query.proofs.Tables.{exists_of, split_along}
use Rattle.tree_query.proofs.Walking.{nth_site, path_there}

-- ---- the tree

-- more than any path of the tree is long
abbrev pub height_of : List (List ℕ) → ℕ
height_of [] = 1
height_of (p ∷ ps) = length p + height_of ps

has_low : (tree : List (List ℕ)) (p : List ℕ) → has_path tree p ≡ true → length p < height_of tree
has_low [] p h = absurd (true≢false (sym h))
has_low (q ∷ tree) p h = ⊎_elim (λ e. here e) (λ e. let l = has_low tree p e in omega arith) (or_cases (bytes_eq q p) (has_path tree p) h)
  where
    some : (ps : List (List ℕ)) → 0 < height_of ps
    some [] = omega arith
    some (r ∷ ps) = let l = some ps in omega arith

    here : bytes_eq q p ≡ true → length p < height_of (q ∷ tree)
    here e = let s : length q ≡ length p = ap length (path_is q p e) in let l = some tree in omega arith

pub is_tree : (flat : FlatProgram) (entry bound : ℕ) (tree : List (List ℕ)) (q : Linked) → IsPartTree flat entry bound tree → IsWalked flat entry tree q
    → IsTree (is_node_of q) (has_path (open_of flat entry bound tree)) (height_of tree)
is_tree flat entry bound tree q part w = record {
  root = refl;
  low = λ p h. has_low tree p (sym (w.nodes p) ∙ h);
  closed = λ p rest h. w.nodes p ∙ tree_prefix flat entry bound tree p rest part (sym (w.nodes (p ++ rest)) ∙ h);
}

-- ---- the piece

pub named_is : (q : Linked) (tree : List (List ℕ)) (piece : List (List ℕ × Decision2)) → ((p : List ℕ) → is_node_of q p ≡ has_path tree p) → are_in (names_of piece) tree ≡ true → named (is_node_of q) piece ≡ true
named_is q tree [] nodes h = refl
named_is q tree ((path, way) ∷ piece) nodes h =
    let b = and_parts (has_path tree path) (are_in (names_of piece) tree) h in
    and_from (is_node_of q path) (named (is_node_of q) piece) (nodes path ∙ b.0) (named_is q tree piece nodes b.1)

pub decisions_low : (q : Linked) (piece : List (List ℕ × Decision2)) → ((p : List ℕ) → is_node_of q p ≡ true → number q p < length q.tree) → named (is_node_of q) piece ≡ true
    → (k : ℕ) (d : ℕ × Decision2) → slice_get (numbered q piece) k ≡ Some d → d.0 < length q.tree
decisions_low q [] low h k d is = cc
decisions_low q (e ∷ piece) low h zero d is =
    let same : (number q e.0, e.1) ≡ d = cc in
    let n : number q e.0 ≡ d.0 = ap (λ (x : ℕ × Decision2). x.0) same in
    subst (λ (m : ℕ). m < length q.tree) n (low e.0 (and_parts (is_node_of q e.0) (named (is_node_of q) piece) h).0)
decisions_low q (e ∷ piece) low h (suc k) d is = decisions_low q piece low (and_parts (is_node_of q e.0) (named (is_node_of q) piece) h).1 k d is

-- ---- open sites

site_or : (path : List ℕ) (first n i : ℕ) → (slice_get (extended path (numbers_from first n)) i ≡ None) ⊎ (slice_get (extended path (numbers_from first n)) i ≡ Some (path ++ (first + i) ∷ []))
site_or path first zero i = inl refl
site_or path first (suc n) zero = let e : first ≡ first + 0 = omega arith in inr (ap (λ (k : ℕ). Some (path ++ k ∷ [])) e)
site_or path first (suc n) (suc i) =
    let e : (first + 1) + i ≡ first + suc i = omega arith in
    ⊎_elim (λ h. inl h) (λ h. inr (h ∙ ap (λ (k : ℕ). Some (path ++ k ∷ [])) e)) (site_or path (first + 1) n i)

-- a site within the caps is one of its node's, and open where it is no node
opens : (flat : FlatProgram) (entry bound : ℕ) (tree : List (List ℕ)) (p : List ℕ) (i : ℕ) → has_path tree p ≡ true → has_path tree (p ++ i ∷ []) ≡ false → within flat entry bound (p ++ i ∷ []) ≡ true
    → (has_path (open_of flat entry bound tree) (p ++ i ∷ []) ≡ true) × (slice_get (sites_at flat entry p) i ≡ Some (p ++ i ∷ []))
opens flat entry bound tree p i here out caps =
    let w = exists_of flat bound (along flat entry (p ++ i ∷ [])) caps in
    let s = split_along flat entry p i w.0 w.1 in
    let lead : LeadsTo flat entry p (last_or 0 s.way) = record { procs = s.way; exists = s.is; last = refl } in
    let low : i < length (callees flat (last_or 0 s.way)) = slice_get_within (callees flat (last_or 0 s.way)) i (last_or 0 w.0) s.call in
    let proc : last_or 0 s.way ≡ proc_at flat entry p = sym (ap last_of s.is) in
    let e : 0 + i ≡ i = omega arith in (
      site_opens flat entry bound tree p (last_or 0 s.way) i (last_or 0 w.0) lead s.call here caps out,
      nth_site p 0 (length (callees flat (proc_at flat entry p))) i (subst (λ (c : ℕ). i < length (callees flat c)) proc low) ∙ ap (λ (k : ℕ). Some (p ++ k ∷ [])) e,
    )

none_open : (flat : FlatProgram) (entry bound : ℕ) (tree : List (List ℕ)) (x : List ℕ) → within flat entry bound x ≡ false → has_path (open_of flat entry bound tree) x ≡ false
none_open flat entry bound tree x out = by_case (has_path (open_of flat entry bound tree) x) refl
  where
    by_case : (b : Bool) → has_path (open_of flat entry bound tree) x ≡ b → has_path (open_of flat entry bound tree) x ≡ false
    by_case true e =
        let h = filter_has (is_open flat entry bound tree) (all_sites flat entry tree) x e in
        absurd (true≢false (sym (and_parts (within flat entry bound x) (not (has_path tree x)) h.0).0 ∙ out))
    by_case false e = e

flag_is : (flat : FlatProgram) (entry bound : ℕ) (tree : List (List ℕ)) (p : List ℕ) (m i : ℕ) → slice_get tree m ≡ Some p
    → may_by (caps_of flat entry bound tree) m i ≡ flag_by (option_map (within flat entry bound) (slice_get (sites_at flat entry p) i))
flag_is flat entry bound tree p m i is =
    ap (λ (o : Option (List Bool)). flag_by (slice_get (flags_by o) i)) (slice_get-map (λ (r : List ℕ). map (within flat entry bound) (sites_at flat entry r)) tree m ∙ ap (option_map (λ (r : List ℕ). map (within flat entry bound) (sites_at flat entry r))) is)
    ∙ ap flag_by (slice_get-map (within flat entry bound) (sites_at flat entry p) i)

caps_are : (flat : FlatProgram) (entry bound : ℕ) (tree : List (List ℕ)) (p : List ℕ) (m i : ℕ) → slice_get tree m ≡ Some p → has_path tree p ≡ true → has_path tree (p ++ i ∷ []) ≡ false
    → may_by (caps_of flat entry bound tree) m i ≡ has_path (open_of flat entry bound tree) (p ++ i ∷ [])
caps_are flat entry bound tree p m i is here out = flag_is flat entry bound tree p m i is ∙ by_case (within flat entry bound (p ++ i ∷ [])) refl
  where
    e : 0 + i ≡ i
    e = omega arith

    by_case : (b : Bool) → within flat entry bound (p ++ i ∷ []) ≡ b → flag_by (option_map (within flat entry bound) (slice_get (sites_at flat entry p) i)) ≡ has_path (open_of flat entry bound tree) (p ++ i ∷ [])
    by_case true caps =
        let o = opens flat entry bound tree p i here out caps in
        ap (λ (x : Option (List ℕ)). flag_by (option_map (within flat entry bound) x)) o.1 ∙ caps ∙ sym o.0
    by_case false caps =
        ⊎_elim (λ h. ap (λ (x : Option (List ℕ)). flag_by (option_map (within flat entry bound) x)) h)
        (λ h. ap (λ (x : Option (List ℕ)). flag_by (option_map (within flat entry bound) x)) (h ∙ ap (λ (k : ℕ). Some (p ++ k ∷ [])) e) ∙ caps)
        (site_or p 0 (length (callees flat (proc_at flat entry p))) i)
        ∙ sym (none_open flat entry bound tree (p ++ i ∷ []) caps)

and_true : (b : Bool) → (b && not false) ≡ b
and_true true = refl
and_true false = refl

and_not : (b : Bool) → (b && not true) ≡ false
and_not true = refl
and_not false = refl

-- which sites may be passed
pub may_is : (flat : FlatProgram) (entry bound : ℕ) (blocked : Bool) (tree : List (List ℕ)) (q : Linked) (table : List (List Bool)) (p : List ℕ) (i : ℕ) → IsWalked flat entry tree q
    → ((r : List ℕ) → is_node_of q r ≡ true → number q r < length q.tree) → table ≡ (if blocked then [] else caps_of flat entry bound tree) → is_node_of q p ≡ true → is_node_of q (p ++ i ∷ []) ≡ false
    → may_by table (number q p) i ≡ (has_path (open_of flat entry bound tree) (p ++ i ∷ []) && not blocked)
may_is flat entry bound true tree q table p i w low e here out =
    ap (λ (t : List (List Bool)). may_by t (number q p) i) e ∙ sym (and_not (has_path (open_of flat entry bound tree) (p ++ i ∷ [])))
may_is flat entry bound false tree q table p i w low e here out =
    let l : number q p < length tree = subst (λ (n : ℕ). number q p < n) w.count (low p here) in
    let is : slice_get tree (number q p) ≡ Some p = path_there tree (number q p) l ∙ ap (λ (r : List ℕ). Some r) (w.paths.same p here) in
    ap (λ (t : List (List Bool)). may_by t (number q p) i) e
    ∙ (caps_are flat entry bound tree p (number q p) i is (sym (w.nodes p) ∙ here) (sym (w.nodes (p ++ i ∷ [])) ∙ out) ∙ sym (and_true (has_path (open_of flat entry bound tree) (p ++ i ∷ []))))
