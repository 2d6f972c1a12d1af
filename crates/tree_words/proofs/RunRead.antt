-- The nodes that are read are the run that the views say.
use Rattle.std.proofs.Common.{◌≡◌, ℕ, zero, suc, ◌+◌, ◌<◌, ◌≤◌, Bool, true, false, not, List, [], ◌∷◌, ◌++◌, map, length, length-append, append_assoc, refl, sym, ap, ◌∙◌, subst, arith, true≢false, slice_index_or}
use Rattle.std.specs.Prelude.{Option, None, Some, is_some, slice_get, slice_index, nat_lt, IsTrue, filter, cond, if◌then◌else◌}
use Rattle.std.specs.List.{list_all}
use Rattle.std.specs.Option.{option_and_then}
use Rattle.std.proofs.lemmas.Bool.{and_from, lt-ltb}
use Rattle.hy_val.specs.declared.value.Value.{Value}
use Rattle.hy_val.specs.Values.{at, is_on}
use Rattle.hy_term.specs.Formula.{Formula as Terms}
use Rattle.hy_term.specs.Meaning.{values}
use Rattle.hy_term.specs.declared.node.TermNode.{TermNode}
use Rattle.hy_term.proofs.Growing.{length-values}
use Rattle.flat_prog.specs.Program.{FlatProgram, blocks_of}
use Rattle.flat_prog.specs.Sites.{sites_passed}
use Rattle.flat_prog.specs.Laws.{NodesAreRuns, below_of}
use Rattle.flat_prog.specs.Nodes.{is_child, is_node_child, nodes_fit, are_nodes, are_whole_nodes, stray, track_at, runs_of, run_of}
use Rattle.flat_prog.specs.Trees.{Run, Below, node, inner, free}
use Rattle.flat_prog.specs.declared.run.Child.{Child}
use Rattle.flat_prog.specs.declared.run.RunNode.{RunNode}
use Rattle.tree_terms.specs.declared.linked.Linked.{Linked}
use Rattle.tree_terms.specs.declared.linked.SiteTerms.{SiteTerms}
use Rattle.tree_terms.specs.Linked.{template_of, nodes_of, kid}
use Rattle.tree_terms.specs.Copying.{AreCopied}
use Rattle.tree_terms.specs.Tables.{row}
use Rattle.tree_terms.specs.Rules.{bit}
use Rattle.tree_words.specs.Built.{built, below_built, on_sites, root_run}
use Rattle.tree_words.specs.View.{SiteView, NodeView}
use Rattle.tree_words.specs.Template.{site_by, view_by, node_values}
use Rattle.tree_words.specs.Whole.{IsTree}
use Rattle.tree_words.specs.Linking.{walk, number_or, number, is_node_of, put_at, template_at, formula, sites_by, IsFilled}
use Rattle.tree_words.specs.Rooting.{term, IsReach, BitsAreThere}
use Rattle.tree_words.specs.Stands.{views_at}
use Rattle.tree_words.proofs.Linking.{in_tree, walk_snoc, some_number, copied}
use Rattle.tree_words.specs.Reading.{track_by, free_by, child_by, children_by, node_vals, view_at, node_with, front_at, node_at, reached, slot, slots_to, nodes_read}
use Rattle.tree_words.specs.NodesRead.{NodesAreRead, NoneOpen}
use Rattle.tree_words.proofs.Slots.{fit_each, slot_less, slots_index, nodes_count, nodes_get, nodes_of as whose}

-- ---- lists

same_values : (vs : List Value) (ks : List ℕ) (ws : List Value) → length ks ≡ length ws → ((k : ℕ) → k < length ks → at vs (slice_index ks k) ≡ at ws k) → map (at vs) ks ≡ ws
same_values vs [] [] c h = refl
same_values vs [] (w ∷ ws) c h = absurd (let e : length (w ∷ ws) ≡ 0 = sym c in omega (arith, e))
same_values vs (k ∷ ks) [] c h = absurd (let e : length (k ∷ ks) ≡ 0 = c in omega (arith, e))
same_values vs (k ∷ ks) (w ∷ ws) c h =
    ap (λ (x : Value). x ∷ map (at vs) ks) (h 0 (omega arith))
    ∙ ap (λ (xs : List Value). w ∷ xs) (same_values vs ks ws (omega (arith, c)) (λ j l. h (suc j) (omega (arith, l))))

mapped_at : (vs : List Value) (ks : List ℕ) (k : ℕ) → k < length ks → at (map (at vs) ks) k ≡ at vs (slice_index ks k)
mapped_at vs [] k l = absurd (omega (arith, l))
mapped_at vs (x ∷ ks) zero l = refl
mapped_at vs (x ∷ ks) (suc k) l = mapped_at vs ks k (omega (arith, l))

all_each : {X : Type 0} (p : X → Bool) (xs : List X) → ((k : ℕ) (x : X) → slice_get xs k ≡ Some x → p x ≡ true) → list_all p xs ≡ true
all_each p [] h = refl
all_each p (x ∷ xs) h = and_from (p x) (list_all p xs) (h 0 x refl) (all_each p xs (λ k y is. h (suc k) y is))

abbrev pub fronted : (front : List Value) → Run → Run
fronted front (node track below) = node (record { proc = track.proc; path = track.path; places = track.places; values = front ++ track.values }) below

bare : (r : Run) → fronted [] r ≡ r
bare (node track below) = refl

module _ (law : NodesAreRuns) (flat : FlatProgram) (changes : List (List ℕ)) (q : Linked) (places : List (List ℕ)) (reach : List ℕ) (vs : List Value) (filled : IsFilled q track_by)
    (root : reached reach vs 0 ≡ true)
    (next : (m i c : ℕ) → m < length q.tree → kid q m i ≡ Some c → ((view_at q places vs m).site i).on ≡ true → reached reach vs m ≡ true → reached reach vs c ≡ true) where
  abbrev r : ℕ → Bool
  r m = reached reach vs m

  abbrev slots : List ℕ
  slots = slots_to (reached reach vs) (length q.tree)

  abbrev one : ℕ → RunNode
  one m = node_at flat.procs changes slots q places vs m

  abbrev nodes : List RunNode
  nodes = nodes_read flat.procs changes q places reach vs

  count : length nodes ≡ slot r (length q.tree)
  count = nodes_count r one (length q.tree)

  -- ---- children

  child_fits : (m i : ℕ) (o : Option ℕ) (s : SiteView) → m < length q.tree → r m ≡ true → kid q m i ≡ o → ((c : ℕ) → o ≡ Some c → r c ≡ true)
      → is_child (slot r m) (slot r (length q.tree)) (child_by changes slots o s) ≡ true
  child_fits m i None s l go e on = refl
  child_fits m i (Some c) s l go e on =
      let k = filled.kids m i c l e in
      let x = slots_index r (length q.tree) c k.1 in
      let low : slot r m < slice_index slots c = (let y = slot_less r m c k.0 go in omega (arith, x, y)) in
      let high : slice_index slots c < slot r (length q.tree) = (let y = slot_less r c (length q.tree) k.1 (on c refl) in omega (arith, x, y)) in
      and_from (nat_lt (slot r m) (slice_index slots c)) (nat_lt (slice_index slots c) (slot r (length q.tree))) (lt-ltb (slot r m) (slice_index slots c) low) (lt-ltb (slice_index slots c) (slot r (length q.tree)) high)

  -- a fact of each child at a site that is passed
  each_child : (p : Child → Bool) (m : ℕ) (v : NodeView) → ((i : ℕ) → (v.site i).on ≡ true → p (child_by changes slots (kid q m i) (v.site i)) ≡ true) → (sites : List ℕ)
      → list_all p (children_by changes slots q m v sites) ≡ true
  each_child p m v h [] = refl
  each_child p m v h (i ∷ sites) = by_on ((v.site i).on) refl (each_child p m v h sites)
    where
      by_on : (b : Bool) → (v.site i).on ≡ b → list_all p (children_by changes slots q m v sites) ≡ true
          → list_all p (map (λ j. child_by changes slots (kid q m j) (v.site j)) (cond b (i ∷ filter (λ j. (v.site j).on) sites) (filter (λ j. (v.site j).on) sites))) ≡ true
      by_on true on ih = and_from (p (child_by changes slots (kid q m i) (v.site i))) (list_all p (children_by changes slots q m v sites)) (h i on) ih
      by_on false off ih = ih

  fit_one : (m : ℕ) → m < length q.tree → r m ≡ true → list_all (is_child (slot r m) (slot r (length q.tree))) (one m).children ≡ true
  fit_one m l go =
      let v = view_at q places vs m in
      each_child (is_child (slot r m) (slot r (length q.tree))) m v (λ i on. child_fits m i (kid q m i) (v.site i) l go refl (λ c k. next m i c l k on go))
      (sites_passed (blocks_of (slice_get flat.procs v.track.proc)) v.track.path)

  fit_nodes : nodes_fit 0 (slot r (length q.tree)) nodes ≡ true
  fit_nodes = fit_each 0 (slot r (length q.tree)) nodes (λ k x is.
      let w = whose r one (length q.tree) k x is in
      let z : slot r w.m ≡ 0 + k = (let e = w.at in omega (arith, e)) in
      subst (λ (j : ℕ). list_all (is_child j (slot r (length q.tree))) x.children ≡ true) z
      (subst (λ (y : RunNode). list_all (is_child (slot r w.m) (slot r (length q.tree))) y.children ≡ true) w.is (fit_one w.m w.low w.on)))

  pub are_nodes_read : IsTrue (are_nodes nodes)
  are_nodes_read =
      let some : 0 < length nodes = (let c = count in let s = slot_less r 0 (length q.tree) filled.root root in omega (arith, c, s)) in
      and_from (nat_lt 0 (length nodes)) (nodes_fit 0 (length nodes) nodes) (lt-ltb 0 (length nodes) some)
      (subst (λ (k : ℕ). nodes_fit 0 k nodes ≡ true) (sym count) fit_nodes)

  -- the run of a node that is reached, by those of all nodes
  runs_are : (m : ℕ) → m < length q.tree → r m ≡ true → slice_index_or (runs_of 0 nodes) (slot r m) stray ≡ node (track_at (one m)) (below_of (runs_of 0 nodes) (one m).children)
  runs_are m l go = (law nodes are_nodes_read).1 (slot r m) (one m) (nodes_get r one (length q.tree) m l go)

  -- ---- no child is free

  node_child : (o : Option ℕ) (s : SiteView) → (o ≡ None → ⊥) → is_node_child (child_by changes slots o s) ≡ true
  node_child None s h = absurd (h refl)
  node_child (Some c) s h = refl

  pub are_whole_read : ((m i : ℕ) → m < length q.tree → kid q m i ≡ None → r m ≡ true → ((view_at q places vs m).site i).on ≡ true → ⊥) → IsTrue (are_whole_nodes nodes)
  are_whole_read shut = all_each (λ (n : RunNode). list_all is_node_child n.children) nodes (λ k x is.
      let w = whose r one (length q.tree) k x is in
      let v = view_at q places vs w.m in
      subst (λ (y : RunNode). list_all is_node_child y.children ≡ true) w.is
      (each_child is_node_child w.m v (λ i on. node_child (kid q w.m i) (v.site i) (λ e. shut w.m i w.low e w.on on)) (sites_passed (blocks_of (slice_get flat.procs v.track.proc)) v.track.path)))

  -- ---- what stands below a node

  module _ (sub : List ℕ → Run) (p : List ℕ) (v : NodeView) (here : is_node_of q p ≡ true) (inside : number q p < length q.tree)
      (claim : (i : ℕ) → is_node_of q (p ++ i ∷ []) ≡ true → (v.site i).on ≡ true → slice_index_or (runs_of 0 nodes) (slot r (number q (p ++ i ∷ []))) stray ≡ sub (p ++ i ∷ [])) where
    kid_walk : (i : ℕ) → walk q 0 (p ++ i ∷ []) ≡ kid q (number q p) i
    kid_walk i = walk_snoc q 0 p i ∙ ap (λ (o : Option ℕ). option_and_then (λ d. kid q d i) o) (some_number (walk q 0 p) here)

    by_kid : (i : ℕ) (o : Option ℕ) (cs : List Child) (below : Below) → kid q (number q p) i ≡ o → (v.site i).on ≡ true → below_of (runs_of 0 nodes) cs ≡ below
        → below_of (runs_of 0 nodes) (child_by changes slots o (v.site i) ∷ cs)
        ≡ (if is_some o then inner (sub (p ++ i ∷ [])) below else free (not (v.site i).fails) (free_by changes (v.site i)) below)
    by_kid i None cs below e on h = ap (λ (b : Below). free (not (v.site i).fails) (free_by changes (v.site i)) b) h
    by_kid i (Some c) cs below e on h =
        let w : walk q 0 (p ++ i ∷ []) ≡ Some c = kid_walk i ∙ e in
        let m : c ≡ number q (p ++ i ∷ []) = ap number_or (sym w) in
        let x : slice_index slots c ≡ slot r c = slots_index r (length q.tree) c (filled.kids (number q p) i c inside e).1 in
        let run : slice_index_or (runs_of 0 nodes) (slice_index slots c) stray ≡ sub (p ++ i ∷ []) =
        ap (λ (k : ℕ). slice_index_or (runs_of 0 nodes) k stray) (x ∙ ap (slot r) m) ∙ claim i (ap is_some w) on in
        ap (λ (y : Run). inner y (below_of (runs_of 0 nodes) cs)) run ∙ ap (λ (b : Below). inner (sub (p ++ i ∷ [])) b) h

    at_site : (i : ℕ) (cs : List Child) (below : Below) → (v.site i).on ≡ true → below_of (runs_of 0 nodes) cs ≡ below
        → below_of (runs_of 0 nodes) (child_by changes slots (kid q (number q p) i) (v.site i) ∷ cs)
        ≡ (if is_node_of q (p ++ i ∷ []) then inner (sub (p ++ i ∷ [])) below else free (not (v.site i).fails) (free_by changes (v.site i)) below)
    at_site i cs below on h =
        by_kid i (kid q (number q p) i) cs below refl on h
        ∙ ap (λ (o : Option ℕ). if is_some o then inner (sub (p ++ i ∷ [])) below else free (not (v.site i).fails) (free_by changes (v.site i)) below) (sym (kid_walk i))

    below_is : (sites : List ℕ) → below_of (runs_of 0 nodes) (children_by changes slots q (number q p) v sites)
        ≡ below_built sub (is_node_of q) (free_by changes) v p (on_sites v sites)
    below_is [] = refl
    below_is (i ∷ sites) = by_on ((v.site i).on) refl (below_is sites)
      where
        by_on : (b : Bool) → (v.site i).on ≡ b → below_of (runs_of 0 nodes) (children_by changes slots q (number q p) v sites)
            ≡ below_built sub (is_node_of q) (free_by changes) v p (on_sites v sites)
            → below_of (runs_of 0 nodes)
            (map (λ j. child_by changes slots (kid q (number q p) j) (v.site j)) (cond b (i ∷ filter (λ j. (v.site j).on) sites) (filter (λ j. (v.site j).on) sites)))
            ≡ below_built sub (is_node_of q) (free_by changes) v p (if b then i ∷ on_sites v sites else on_sites v sites)
        by_on true on ih = at_site i (children_by changes slots q (number q p) v sites) (below_built sub (is_node_of q) (free_by changes) v p (on_sites v sites)) on ih
        by_on false off ih = ih

  -- ---- and at it

  module _ (height : ℕ) (is_open : List ℕ → Bool) (tree : IsTree (is_node_of q) is_open height) (view : List ℕ → NodeView)
      (inside : (p : List ℕ) → is_node_of q p ≡ true → number q p < length q.tree)
      (same : (p : List ℕ) → is_node_of q p ≡ true → view_at q places vs (number q p) ≡ view p) where
    node_is : (m : ℕ) (v w : NodeView) → v ≡ w → (front : List Value)
        → node (track_at (node_with flat.procs changes slots q m v front)) (below_of (runs_of 0 nodes) (node_with flat.procs changes slots q m v front).children)
        ≡ node (track_at (node_with flat.procs changes slots q m w front)) (below_of (runs_of 0 nodes) (node_with flat.procs changes slots q m w front).children)
    node_is m v w e front = ap (λ (x : NodeView). node (track_at (node_with flat.procs changes slots q m x front)) (below_of (runs_of 0 nodes) (node_with flat.procs changes slots q m x front).children)) e

    built_at : (deep : ℕ) (p : List ℕ) → is_node_of q p ≡ true → r (number q p) ≡ true → height ≤ length p + deep
        → slice_index_or (runs_of 0 nodes) (slot r (number q p)) stray ≡ fronted (front_at q vs (number q p)) (built deep flat (is_node_of q) (free_by changes) view p)
    built_at zero p here go h = absurd (omega (arith, h, tree.low p here))
    built_at (suc deep) p here go h =
        runs_are (number q p) (inside p here) go
        ∙ (node_is (number q p) (view_at q places vs (number q p)) (view p) (same p here) (front_at q vs (number q p))
        ∙ ap (λ (b : Below). node (track_at (node_with flat.procs changes slots q (number q p) (view p) (front_at q vs (number q p)))) b)
        (below_is (built deep flat (is_node_of q) (free_by changes) view) p (view p) here (inside p here)
        (λ i kid_here on. child_is i kid_here (number q (p ++ i ∷ [])) refl (built_at deep (p ++ i ∷ []) kid_here (goes_on i kid_here on) (longer i)))
        (sites_passed (blocks_of (slice_get flat.procs (view p).track.proc)) (view p).track.path)))
      where
        longer : (i : ℕ) → height ≤ length (p ++ i ∷ []) + deep
        longer i = omega (arith, h, length-append p (i ∷ []))

        kid_is : (i : ℕ) → is_node_of q (p ++ i ∷ []) ≡ true → kid q (number q p) i ≡ Some (number q (p ++ i ∷ []))
        kid_is i there = sym (walk_snoc q 0 p i ∙ ap (λ (o : Option ℕ). option_and_then (λ d. kid q d i) o) (some_number (walk q 0 p) here)) ∙ some_number (walk q 0 (p ++ i ∷ [])) there

        goes_on : (i : ℕ) → is_node_of q (p ++ i ∷ []) ≡ true → ((view p).site i).on ≡ true → r (number q (p ++ i ∷ [])) ≡ true
        goes_on i there on = next (number q p) i (number q (p ++ i ∷ [])) (inside p here) (kid_is i there) (ap (λ (v : NodeView). (v.site i).on) (same p here) ∙ on) go

        child_is : (i : ℕ) → is_node_of q (p ++ i ∷ []) ≡ true → (c : ℕ) → number q (p ++ i ∷ []) ≡ c
            → slice_index_or (runs_of 0 nodes) (slot r (number q (p ++ i ∷ []))) stray
            ≡ fronted (front_at q vs (number q (p ++ i ∷ []))) (built deep flat (is_node_of q) (free_by changes) view (p ++ i ∷ []))
            → slice_index_or (runs_of 0 nodes) (slot r (number q (p ++ i ∷ []))) stray ≡ built deep flat (is_node_of q) (free_by changes) view (p ++ i ∷ [])
        child_is i there zero e ih =
            let low = (filled.kids (number q p) i 0 (inside p here) (kid_is i there ∙ ap (λ (k : ℕ). Some k) e)).0 in
            absurd (omega (arith, low))
        child_is i there (suc c) e ih =
            ih ∙ (ap (λ (k : ℕ). fronted (front_at q vs k) (built deep flat (is_node_of q) (free_by changes) view (p ++ i ∷ []))) e
            ∙ bare (built deep flat (is_node_of q) (free_by changes) view (p ++ i ∷ [])))

    pub run_is : (proc : ℕ) → run_of nodes
        ≡ root_run (map (at vs) q.consts) (record { proc = proc; globals = map (at vs) q.globals; args = map (at vs) q.args }) (built height flat (is_node_of q) (free_by changes) view [])
    run_is proc =
        let l : height ≤ length {A = ℕ} [] + height = omega arith in
        built_at height [] tree.root root l ∙ in_front (built height flat (is_node_of q) (free_by changes) view [])
      where
        in_front : (x : Run) → fronted (map (at vs) q.consts ++ (map (at vs) q.globals ++ map (at vs) q.args)) x
            ≡ root_run (map (at vs) q.consts) (record { proc = proc; globals = map (at vs) q.globals; args = map (at vs) q.args }) x
        in_front (node track below) =
            ap (λ (xs : List Value). node (record { proc = track.proc; path = track.path; places = track.places; values = xs }) below)
            (append_assoc (map (at vs) q.consts) (map (at vs) q.globals ++ map (at vs) q.args) track.values
            ∙ ap (λ (xs : List Value). map (at vs) q.consts ++ xs) (append_assoc (map (at vs) q.globals) (map (at vs) q.args) track.values))

some_site : (o : Option SiteTerms) (vs : List Value) → (site_by vs o).on ≡ true → (s : SiteTerms) × (o ≡ Some s)
some_site None vs h = cc
some_site (Some s) vs h = (s, refl)

module _ (q : Linked) (base : List TermNode) (places : List (List ℕ)) (reach : List ℕ) (f : Terms) (a : ℕ → Value) (filled : IsFilled q track_by) (there : BitsAreThere q) (done : AreCopied q base f.nodes places)
    (reaches : IsReach q places reach (bit a f.nodes)) where
  -- the bit of a site is that of its copy
  on_is : (m i : ℕ) (s : SiteTerms) → m < length q.tree → slice_get (sites_by (template_of q m)) i ≡ Some s → ((view_at q places (values a f.nodes) m).site i).on ≡ bit a f.nodes (term places m s.node)
  on_is m i s l is =
      let w = done.whole m l in
      let t = there.sites m i s l is in
      ap (λ (o : Option SiteTerms). (site_by (node_vals (values a f.nodes) places m) o).on) is ∙ ap is_on (mapped_at (values a f.nodes) (row places m) s.node (omega (arith, w, t)))

  next_is : (m i c : ℕ) → m < length q.tree → kid q m i ≡ Some c → ((view_at q places (values a f.nodes) m).site i).on ≡ true → reached reach (values a f.nodes) m ≡ true → reached reach (values a f.nodes) c ≡ true
  next_is m i c l k on go =
      let x = filled.kids m i c l k in
      reaches.next m i c x.3 l x.4 k ∙ and_from (bit a f.nodes (slice_index reach m)) (bit a f.nodes (term places m x.3.node)) go (sym (on_is m i x.3 l x.4) ∙ on)

  shut_is : NoneOpen q places reach (bit a f.nodes) → (m i : ℕ) → m < length q.tree → kid q m i ≡ None → reached reach (values a f.nodes) m ≡ true → ((view_at q places (values a f.nodes) m).site i).on ≡ true → ⊥
  shut_is shut m i l k go on =
      let s = some_site (slice_get (sites_by (template_of q m)) i) (node_vals (values a f.nodes) places m) on in
      true≢false (sym on ∙ (on_is m i s.0 l s.1 ∙ shut m i s.0 l s.1 k go))

pub nodes_are_read : NodesAreRuns → NodesAreRead
nodes_are_read law flat entry changes is_open height q base places reach f a filled there done tree fit reaches = record {
  fit = are_nodes_read law flat changes q places reach (values a f.nodes) filled reaches.root next;
  is = run_is law flat changes q places reach (values a f.nodes) filled reaches.root next height is_open tree (views_at a f (template_at q track_by) (put_at q places))
      (in_tree q track_by entry base f.nodes places filled done) same entry;
  whole = λ shut. are_whole_read law flat changes q places reach (values a f.nodes) filled reaches.root next (shut_is q base places reach f a filled there done reaches shut);
}
  where
    next : (m i c : ℕ) → m < length q.tree → kid q m i ≡ Some c → ((view_at q places (values a f.nodes) m).site i).on ≡ true → reached reach (values a f.nodes) m ≡ true → reached reach (values a f.nodes) c ≡ true
    next = next_is q base places reach f a filled there done reaches

    same : (p : List ℕ) → is_node_of q p ≡ true → view_at q places (values a f.nodes) (number q p) ≡ views_at a f (template_at q track_by) (put_at q places) p
    same p here =
        let m = number q p in
        let c = node_values a f.nodes (put_at q places) p in
        let l = in_tree q track_by entry base f.nodes places filled done p here in
        let whole : length (row places m) ≡ length (nodes_of q m) = done.whole m l in
        let count : length (values c (nodes_of q m)) ≡ length (nodes_of q m) =
        length-values c [] (nodes_of q m) ∙ (let z : length {A = Value} [] + length (nodes_of q m) ≡ length (nodes_of q m) = omega arith in z) in
        ap (view_by (formula q track_by m)) (same_values (values a f.nodes) (row places m) (values c (nodes_of q m)) (omega (arith, whole, count))
        (λ k low. copied q track_by entry base f.nodes places filled done p here a fit k (omega (arith, low, whole))))
