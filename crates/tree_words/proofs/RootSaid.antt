-- The root says what a member must meet.
use Rattle.std.proofs.Common.{◌≡◌, ℕ, zero, suc, ◌<◌, Bool, true, false, not, ◌&&◌, ◌||◌, List, [], ◌∷◌, ◌++◌, length, length-append, append_assoc, append-nil, refl, sym, ap, ◌∙◌, subst, arith, true≢false, inl, inr, ⊎_elim}
use Rattle.std.specs.Prelude.{◌↔◌, Option, None, Some, is_some, slice_get, slice_index, IsSome, IsTrue}
use Rattle.std.specs.Option.{option_and_then}
use Rattle.std.proofs.lemmas.Bool.{and_parts, both_ways, cases_Bool}
use Rattle.hy_val.specs.declared.value.Value.{Value}
use Rattle.hy_val.specs.Values.{at, is_on}
use Rattle.hy_term.specs.Formula.{Formula as Terms}
use Rattle.hy_term.specs.TermSorts.{sorts}
use Rattle.hy_term.specs.Meaning.{values, fits, holds, Grows}
use Rattle.hy_term.specs.Variables.{below}
use Rattle.hy_term.specs.declared.node.TermNode.{TermNode}
use Rattle.flat_prog.specs.Program.{FlatProgram}
use Rattle.flat_prog.specs.Local.{Track}
use Rattle.flat_prog.specs.Runs.{are_allowed}
use Rattle.call_tree.specs.declared.piece.Decision2.{Decision2}
use Rattle.call_tree.specs.declared.piece.Decision2.TheVariants.{Must, Avoid}
use Rattle.call_tree.specs.Pieces.{meets}
use Rattle.tree_terms.proofs.Growth.{value_stays, grows_on}
use Rattle.tree_terms.proofs.Parts.{place_low, part_stays}
use Rattle.tree_terms.specs.declared.linked.Linked.{Linked}
use Rattle.tree_terms.specs.declared.linked.SiteTerms.{SiteTerms}
use Rattle.tree_terms.specs.declared.linked.Template.{Template as Formula}
use Rattle.tree_terms.specs.Linked.{template_of, nodes_of, kid, parent, site_of, node_by, IsLinked}
use Rattle.tree_terms.specs.Copying.{AreCopied}
use Rattle.tree_terms.specs.Tables.{row}
use Rattle.tree_terms.specs.Rules.{bit}
use Rattle.tree_terms.specs.Reach.{ReachTo, reach_by}
use Rattle.tree_words.specs.View.{NodeView}
use Rattle.tree_words.specs.Question.{named, goes}
use Rattle.tree_words.specs.Template.{node_values, site_by}
use Rattle.tree_terms.specs.Standing.{all_at}
use Rattle.tree_words.specs.Whole.{IsTree, RootSays}
use Rattle.tree_words.specs.Linking.{walk, number, number_or, is_node_of, put_at, template_at, sites_by, ends_by, fails_by, IsFilled}
use Rattle.tree_words.specs.Stands.{views_at}
use Rattle.tree_words.specs.Assigning.{ArePaths}
use Rattle.tree_words.specs.Rooting.{term, IsReach, RulesSay, BitsAreThere}
use Rattle.tree_words.proofs.Linking.{in_tree, kid_is, walk_snoc, some_number, copied}

pub copies_stay : (q : Linked) (base into new : List TermNode) (places : List (List ℕ)) → IsLinked q base → AreCopied q base into places → Grows into new → IsSome (sorts new)
    → ((a : ℕ → Value) → IsTrue (fits a into) → IsTrue (fits a new)) → IsTrue (below (length new) new) → AreCopied q base new places
copies_stay q base into new places linked done grows ok extends low = record {
  whole = done.whole;
  copying = record {
    grows = grows_on base into new done.copying.grows grows;
    base_sorted = done.copying.base_sorted;
    sorted = ok;
    low = low;
    count = done.copying.count;
    parts = λ m l. part_stays (nodes_of q m) into new (row places m) (linked.sorted m l) done.copying.sorted ok grows (done.copying.parts m l);
    puts = done.copying.puts;
    assigns = λ b w fit have.
        let s = done.copying.assigns b w fit have in
        record {
          a = s.a;
          fits = extends s.a s.fits;
          old = λ t l. value_stays s.a into new t grows (omega (arith, l, ap length done.copying.grows.1, length-append base done.copying.grows.0)) ∙ s.old t l;
          new = λ m j sort x. value_stays s.a into new (slice_index (row places m) j) grows
              (place_low (nodes_of q m) into (row places m) j (linked.sorted m x.tree) done.copying.sorted (done.copying.parts m x.tree) x.copied) ∙ s.new m j sort x;
        };
  };
}

meets_same : (r s : List ℕ → Bool) (is_node : List ℕ → Bool) (piece : List (List ℕ × Decision2)) → named is_node piece ≡ true → ((p : List ℕ) → is_node p ≡ true → r p ≡ s p) → meets r piece ≡ meets s piece
meets_same r s is_node [] h same = refl
meets_same r s is_node ((p, Must) ∷ ds) h same =
    let b = and_parts (is_node p) (named is_node ds) h in
    ap (λ (x : Bool). x && meets r ds) (same p b.0) ∙ ap (λ (x : Bool). s p && x) (meets_same r s is_node ds b.1 same)
meets_same r s is_node ((p, Avoid) ∷ ds) h same =
    let b = and_parts (is_node p) (named is_node ds) h in
    ap (λ (x : Bool). not x && meets r ds) (same p b.0) ∙ ap (λ (x : Bool). not (s p) && x) (meets_same r s is_node ds b.1 same)

grouped : (x y z : Bool) → (x && (y && z)) ≡ ((x && y) && z)
grouped true y z = refl
grouped false y z = refl

and_yes : (x : Bool) → (x && true) ≡ x
and_yes true = refl
and_yes false = refl

or_right : (x y : Bool) → y ≡ true → (x || y) ≡ true
or_right true y h = refl
or_right false y h = h

some_site : (o : Option SiteTerms) (vs : List Value) → (site_by vs o).on ≡ true → (s : SiteTerms) × (o ≡ Some s)
some_site None vs h = cc
some_site (Some s) vs h = (s, refl)

none_walk : (o : Option ℕ) → is_some o ≡ false → o ≡ None
none_walk None h = refl
none_walk (Some m) h = cc

module _ (flat : FlatProgram) (is_open : List ℕ → Bool) (blocked : Bool) (height : ℕ) (piece : List (List ℕ × Decision2)) (q : Linked) (track : Option Formula → List Value → Track) (base : List TermNode)
    (places : List (List ℕ)) (f : Terms) (path : ℕ → List ℕ) (reach : List ℕ) (may : ℕ → ℕ → Bool) (a : ℕ → Value)
    (filled : IsFilled q track) (there : BitsAreThere q) (done : AreCopied q base f.nodes places) (paths : ArePaths q path) (tree : IsTree (is_node_of q) is_open height) (names : named (is_node_of q) piece ≡ true)
    (may_is : (p : List ℕ) (i : ℕ) → is_node_of q p ≡ true → is_node_of q (p ++ i ∷ []) ≡ false → may (number q p) i ≡ (is_open (p ++ i ∷ []) && not blocked))
    (fit : IsTrue (fits a f.nodes)) (reached : IsReach q places reach (bit a f.nodes)) where
  abbrev view : List ℕ → NodeView
  view p = views_at a f (template_at q track) (put_at q places) p

  abbrev r : List ℕ → Bool
  r p = bit a f.nodes (slice_index reach (number q p))

  inside : (p : List ℕ) → is_node_of q p ≡ true → number q p < length q.tree
  inside p here = in_tree q track 0 base f.nodes places filled done p here

  -- a bit of a node's formula is that of its copy
  bit_is : (p : List ℕ) (k : ℕ) → is_node_of q p ≡ true → k < length (nodes_of q (number q p))
      → is_on (at (values (node_values a f.nodes (put_at q places) p) (nodes_of q (number q p))) k) ≡ bit a f.nodes (term places (number q p) k)
  bit_is p k here l = ap is_on (sym (copied q track 0 base f.nodes places filled done p here a fit k l))

  on_is : (p : List ℕ) (i : ℕ) (s : SiteTerms) → is_node_of q p ≡ true → slice_get (sites_by (template_of q (number q p))) i ≡ Some s → ((view p).site i).on ≡ bit a f.nodes (term places (number q p) s.node)
  on_is p i s here is =
      ap (λ (o : Option SiteTerms). (site_by (values (node_values a f.nodes (put_at q places) p) (nodes_of q (number q p))) o).on) is
      ∙ bit_is p s.node here (there.sites (number q p) i s (inside p here) is)

  ends_is : (p : List ℕ) → is_node_of q p ≡ true → (view p).ends ≡ bit a f.nodes (term places (number q p) (ends_by (template_of q (number q p))))
  ends_is p here = bit_is p (ends_by (template_of q (number q p))) here (there.ends (number q p) (inside p here))

  fails_is : (p : List ℕ) → is_node_of q p ≡ true → (view p).fails ≡ bit a f.nodes (term places (number q p) (fails_by (template_of q (number q p))))
  fails_is p here = bit_is p (fails_by (template_of q (number q p))) here (there.fails (number q p) (inside p here))

  -- a node is reached where its bool says so
  goes_from : (from p : List ℕ) → is_node_of q (from ++ p) ≡ true → (r from && goes view from p) ≡ r (from ++ p)
  goes_from from [] here = and_yes (r from) ∙ ap r (sym (append-nil from))
  goes_from from (i ∷ p) here =
      let assoc : (from ++ i ∷ []) ++ p ≡ from ++ i ∷ p = append_assoc from (i ∷ []) p in
      let rest : is_node_of q ((from ++ i ∷ []) ++ p) ≡ true = ap (is_node_of q) assoc ∙ here in
      let kid_here : is_node_of q (from ++ i ∷ []) ≡ true = tree.closed (from ++ i ∷ []) p rest in
      let from_here : is_node_of q from ≡ true = tree.closed from (i ∷ p) here in
      let k = kid_is q track 0 base f.nodes places filled done from i kid_here from_here in
      let s = filled.kids (number q from) i (number q (from ++ i ∷ [])) (inside from from_here) k in
      let step : r (from ++ i ∷ []) ≡ (r from && ((view from).site i).on) =
      reached.next (number q from) i (number q (from ++ i ∷ [])) s.3 (inside from from_here) s.4 k ∙ ap (λ (x : Bool). r from && x) (sym (on_is from i s.3 from_here s.4)) in
      grouped (r from) (((view from).site i).on) (goes view (from ++ i ∷ []) p)
      ∙ (ap (λ (x : Bool). x && goes view (from ++ i ∷ []) p) (sym step) ∙ (goes_from (from ++ i ∷ []) p rest ∙ ap r assoc))

  goes_is : (p : List ℕ) → is_node_of q p ≡ true → goes view [] p ≡ r p
  goes_is p here = ap (λ (x : Bool). x && goes view [] p) (sym reached.root) ∙ goes_from [] p here

  no_kid : (p : List ℕ) (i : ℕ) → is_node_of q p ≡ true → is_node_of q (p ++ i ∷ []) ≡ false → kid q (number q p) i ≡ None
  no_kid p i here out =
      sym (walk_snoc q 0 p i ∙ ap (λ (o : Option ℕ). option_and_then (λ d. kid q d i) o) (some_number (walk q 0 p) here)) ∙ none_walk (walk q 0 (p ++ i ∷ [])) out

  no_node : (p : List ℕ) (i : ℕ) → is_node_of q p ≡ true → kid q (number q p) i ≡ None → is_node_of q (p ++ i ∷ []) ≡ false
  no_node p i here none =
      ap is_some (walk_snoc q 0 p i ∙ (ap (λ (o : Option ℕ). option_and_then (λ d. kid q d i) o) (some_number (walk q 0 p) here) ∙ none))

  -- ---- from the rules

  module _ (fails : bit a f.nodes (term places 0 (fails_by (template_of q 0))) ≡ true) (say : RulesSay q places reach may piece (bit a f.nodes)) where
    over_at : (m : ℕ) → m < length q.tree → bit a f.nodes (slice_index reach m) ≡ true
        → (bit a f.nodes (term places m (ends_by (template_of q m))) || bit a f.nodes (term places m (fails_by (template_of q m)))) ≡ true
    over_at zero l go = or_right (bit a f.nodes (term places 0 (ends_by (template_of q 0)))) (bit a f.nodes (term places 0 (fails_by (template_of q 0)))) fails
    over_at (suc m) l go = say.over m l go

    -- a site that is passed and no node may be passed
    passed_may : (p : List ℕ) (i : ℕ) → is_node_of q p ≡ true → goes view [] p ≡ true → ((view p).site i).on ≡ true → is_node_of q (p ++ i ∷ []) ≡ false → (is_open (p ++ i ∷ []) && not blocked) ≡ true
    passed_may p i here go on out = by_may (may (number q p) i) refl
      where
        by_may : (b : Bool) → may (number q p) i ≡ b → (is_open (p ++ i ∷ []) && not blocked) ≡ true
        by_may true e = sym (may_is p i here out) ∙ e
        by_may false e =
            let s = some_site (slice_get (sites_by (template_of q (number q p))) i) (values (node_values a f.nodes (put_at q places) p) (nodes_of q (number q p))) on in
            let off = say.sites (number q p) i s.0 (inside p here) s.1 (no_kid p i here out) e (sym (goes_is p here) ∙ go) in
            absurd (both_ways (bit a f.nodes (term places (number q p) s.0.node)) off (sym (on_is p i s.0 here s.1) ∙ on))

    pub root_says : RootSays (is_node_of q) is_open blocked piece view
    root_says = record {
      fails = fails_is [] tree.root ∙ fails;
      over = λ p here go. ap (λ (x : Bool). x || (view p).fails) (ends_is p here) ∙ (ap (λ (x : Bool). bit a f.nodes (term places (number q p) (ends_by (template_of q (number q p)))) || x) (fails_is p here)
          ∙ over_at (number q p) (inside p here) (sym (goes_is p here) ∙ go));
      sites = λ p i here go on. ⊎_elim (λ e. inl e) (λ out. inr (and_parts (is_open (p ++ i ∷ [])) (not blocked) (passed_may p i here go on out)).0) (cases_Bool (is_node_of q (p ++ i ∷ [])));
      closed = λ shut p i here go on. ⊎_elim (λ e. e)
          (λ out. absurd (let b = (and_parts (is_open (p ++ i ∷ [])) (not blocked) (passed_may p i here go on out)).1 in let e : not true ≡ true = ap not (sym shut) ∙ b in true≢false (sym e)))
          (cases_Bool (is_node_of q (p ++ i ∷ [])));
      meet = meets_same (goes view []) r (is_node_of q) piece names goes_is ∙ say.meet;
    }

  -- ---- and to them

  path_in : (m : ℕ) → m < length q.tree → is_node_of q (path m) ≡ true
  path_in m l = ap is_some (paths.ends m l)

  path_number : (m : ℕ) → m < length q.tree → number q (path m) ≡ m
  path_number m l = ap number_or (paths.ends m l)

  path_goes : (m : ℕ) → m < length q.tree → bit a f.nodes (slice_index reach m) ≡ true → goes view [] (path m) ≡ true
  path_goes m l go = goes_is (path m) (path_in m l) ∙ (ap (λ (k : ℕ). bit a f.nodes (slice_index reach k)) (path_number m l) ∙ go)

  rules_say : RootSays (is_node_of q) is_open blocked piece view → RulesSay q places reach may piece (bit a f.nodes)
  rules_say says = record {
    over = λ m l go.
        let p = path (suc m) in
        let here = path_in (suc m) l in
        let o = says.over p here (path_goes (suc m) l go) in
        let e : (bit a f.nodes (term places (number q p) (ends_by (template_of q (number q p)))) || bit a f.nodes (term places (number q p) (fails_by (template_of q (number q p))))) ≡ true =
        sym (ap (λ (x : Bool). x || (view p).fails) (ends_is p here) ∙ ap (λ (x : Bool). bit a f.nodes (term places (number q p) (ends_by (template_of q (number q p)))) || x) (fails_is p here)) ∙ o in
        subst (λ (k : ℕ). (bit a f.nodes (term places k (ends_by (template_of q k))) || bit a f.nodes (term places k (fails_by (template_of q k)))) ≡ true) (path_number (suc m) l) e;
    sites = λ m i s l is none may_not go. by_bit m i s l is none may_not go (bit a f.nodes (term places m s.node)) refl;
    meet = sym (meets_same (goes view []) r (is_node_of q) piece names goes_is) ∙ says.meet;
  }
    where
      by_bit : (m i : ℕ) (s : SiteTerms) → m < length q.tree → slice_get (sites_by (template_of q m)) i ≡ Some s → kid q m i ≡ None → may m i ≡ false → bit a f.nodes (slice_index reach m) ≡ true
          → (b : Bool) → bit a f.nodes (term places m s.node) ≡ b → b ≡ false
      by_bit m i s l is none may_not go false e = refl
      by_bit m i s l is none may_not go true e =
          let p = path m in
          let here = path_in m l in
          let n = path_number m l in
          let none_here : kid q (number q p) i ≡ None = ap (λ (k : ℕ). kid q k i) n ∙ none in
          let out = no_node p i here none_here in
          let site_here : slice_get (sites_by (template_of q (number q p))) i ≡ Some s = ap (λ (k : ℕ). slice_get (sites_by (template_of q k)) i) n ∙ is in
          let on : ((view p).site i).on ≡ true = on_is p i s here site_here ∙ (ap (λ (k : ℕ). bit a f.nodes (term places k s.node)) n ∙ e) in
          let go_here = path_goes m l go in
          let open_here : is_open (p ++ i ∷ []) ≡ true = ⊎_elim (λ x. absurd (both_ways (is_node_of q (p ++ i ∷ [])) out x)) (λ x. x) (says.sites p i here go_here on) in
          let unblocked : blocked ≡ false = ⊎_elim (λ x. absurd (both_ways (is_node_of q (p ++ i ∷ [])) out (says.closed x p i here go_here on))) (λ x. x) (cases_Bool blocked) in
          let yes : may m i ≡ true = ap (λ (k : ℕ). may k i) (sym n) ∙ (may_is p i here out ∙ (ap (λ (x : Bool). x && not blocked) open_here ∙ ap not unblocked)) in
          absurd (both_ways (may m i) may_not yes)

  pub rooted : (holds a f ≡ true) ↔ ((bit a f.nodes (term places 0 (fails_by (template_of q 0))) ≡ true) × (are_allowed flat (all_at a f.nodes q.consts) ≡ true) × RulesSay q places reach may piece (bit a f.nodes))
      → (holds a f ≡ true) ↔ (RootSays (is_node_of q) is_open blocked piece view × (are_allowed flat (all_at a f.nodes q.consts) ≡ true))
  rooted (to, from) = (
    λ h. let x = to h in (root_says x.0 x.2, x.1),
    λ x. from (sym (fails_is [] tree.root) ∙ x.0.fails, x.1, rules_say x.0),
  )

-- ---- the bools that are made

reached_at : (q : Linked) (places : List (List ℕ)) (reach : List ℕ) (v : ℕ → Bool) (m c : ℕ) (s : SiteTerms) → m < c → parent q c ≡ m → site_of q c ≡ Some s → v (slice_index reach c) ≡ reach_by q places reach v c
    → v (slice_index reach c) ≡ (v (slice_index reach m) && v (term places m s.node))
reached_at q places reach v m zero s l up is h = absurd (omega (arith, l))
reached_at q places reach v m (suc c) s l up is h =
    h ∙ (ap (λ (k : ℕ). v (slice_index reach k) && v (slice_index (row places k) (node_by (site_of q (suc c))))) up
    ∙ ap (λ (o : Option SiteTerms). v (slice_index reach m) && v (slice_index (row places m) (node_by o))) is)

same_site : (o : Option SiteTerms) (s t : SiteTerms) → o ≡ Some s → o ≡ Some t → s ≡ t
same_site o s t e f = let g : Some s ≡ Some t = sym e ∙ f in cc

pub are_reached : (q : Linked) (track : Option Formula → List Value → Track) (places : List (List ℕ)) (old new : List TermNode) (reach : List ℕ) (a : ℕ → Value)
    → IsFilled q track → ReachTo q places old new reach (length q.tree) → IsTrue (fits a new) → IsReach q places reach (bit a new)
are_reached q track places old new reach a filled made fit = record {
  root = made.says a fit 0 filled.root;
  next = λ m i c s l site k.
      let x = filled.kids m i c l k in
      let e : x.3 ≡ s = same_site (slice_get (sites_by (template_of q m)) i) x.3 s x.4 site in
      reached_at q places reach (bit a new) m c s x.0 x.2 (x.5 ∙ ap (λ (t : SiteTerms). Some t) e) (made.says a fit c x.1);
}
