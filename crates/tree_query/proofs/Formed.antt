-- The nodes of a table over the formulas of a program have the formulas of their procedures.
use Rattle.std.proofs.Common.{◌≡◌, ℕ, zero, suc, ◌<◌, true, Bool, List, [], ◌∷◌, map, length, arith, refl, sym, ap, ◌∙◌, subst}
use Rattle.std.specs.Prelude.{Option, None, Some, is_some, slice_get}
use Rattle.std.specs.Option.{option_map, option_and_then}
use Rattle.std.proofs.lemmas.Option.{slice_get-map}
use Rattle.flat_prog.specs.Program.{FlatProgram}
use Rattle.flat_prog.specs.Shape.{IsFlat}
use Rattle.flat_prog.specs.Sites.{sites_of}
use Rattle.flat_prog.specs.declared.proc.FlatProc.{FlatProc}
use Rattle.call_tree.specs.Trees.{proc_at}
use Rattle.call_tree.proofs.Ranks.{callee_within, site_calls}
use Rattle.proc_template.specs.Template.{AreTemplates, IsTemplateOf}
use Rattle.proc_template.specs.Told.{TemplatesHaveSites}
use Rattle.template_law.specs.Formulas.{HaveFormulas}
use Rattle.tree_terms.specs.declared.linked.Linked.{Linked}
use Rattle.tree_terms.specs.declared.linked.Place.{Place}
use Rattle.tree_terms.specs.declared.linked.SiteTerms.{SiteTerms}
use Rattle.tree_terms.specs.declared.linked.Template.{Template as Formula}
use Rattle.tree_terms.specs.Linked.{template_of, parent, parent_by, kid, site_of}
use Rattle.tree_words.specs.Linking.{walk, number, number_or, sites_by, proc_by, proc_of}
use Rattle.tree_query.specs.Readied.{FormulasHaveSites}
use Rattle.tree_query.specs.Walked.{IsWalked, path_at}

-- ---- sites

map_same : {A B C : Type 0} → (f : A → C) (g : B → C) (xs : List A) (ys : List B) → length xs ≡ length ys → ((k : ℕ) (x : A) (y : B) → slice_get xs k ≡ Some x → slice_get ys k ≡ Some y → f x ≡ g y) → map f xs ≡ map g ys
map_same f g [] [] e h = refl
map_same f g [] (y ∷ ys) e h = absurd (omega (arith, e))
map_same f g (x ∷ xs) [] e h = absurd (omega (arith, e))
map_same f g (x ∷ xs) (y ∷ ys) e h =
    let first : f x ≡ g y = h 0 x y refl refl in
    let others : map f xs ≡ map g ys = map_same f g xs ys (omega (arith, e)) (λ k a b is there. h (suc k) a b is there) in
    cc

pub have_sites : TemplatesHaveSites → FormulasHaveSites
have_sites law flat f h =
    map_same (λ (t : Formula). map (λ (s : SiteTerms). s.proc) t.sites) (λ (q : FlatProc). sites_of q.blocks) f.templates flat.procs h.templates_are.count
    (λ k t q is there.
    let made = h.templates_are.each k t is in
    let same : Some made.q ≡ Some q = sym made.proc_is ∙ there in
    let e : made.q ≡ q = cc in
    law flat h.limits k t h.flat_is made ∙ ap (λ (x : FlatProc). sites_of x.blocks) e)

-- what a site of a formula calls is a procedure
called_low : TemplatesHaveSites → (flat : FlatProgram) (limits : List (List Bool)) (p : ℕ) (t : Formula) (i : ℕ) (s : SiteTerms) → IsFlat flat → IsTemplateOf flat limits p t → slice_get t.sites i ≡ Some s
    → s.proc < length flat.procs
called_low law flat limits p t i s fl h is =
    let calls : slice_get (sites_of h.q.blocks) i ≡ Some s.proc =
    ap (λ (ps : List ℕ). slice_get ps i) (sym (law flat limits p t fl h)) ∙ (slice_get-map (λ (x : SiteTerms). x.proc) t.sites i ∙ ap (option_map (λ (x : SiteTerms). x.proc)) is) in
    callee_within flat p h.q s.proc fl h.proc_is (site_calls h.q i s.proc calls)

-- ---- formulas

formula_there : (ts : List Formula) (k : ℕ) → k < length ts → (t : Formula) × (slice_get ts k ≡ Some t)
formula_there [] k l = absurd (omega (arith, l))
formula_there (t ∷ ts) zero l = (t, refl)
formula_there (t ∷ ts) (suc k) l = formula_there ts k (omega (arith, l))

site_at : (o : Option Formula) (i : ℕ) → option_and_then (λ (t : Formula). slice_get t.sites i) o ≡ slice_get (sites_by o) i
site_at None i = refl
site_at (Some t) i = refl

-- the site that a node is called at is one of its caller's
pub site_place : (q : Linked) (c : ℕ) (s : SiteTerms) → site_of q c ≡ Some s → (i : ℕ) × (slice_get (sites_by (template_of q (parent q c))) i ≡ Some s)
site_place q c s is = by_place (slice_get q.tree c) is
  where
    by_place : (o : Option Place) → option_and_then (λ (p : Place). option_and_then (λ (t : Formula). slice_get t.sites p.site) (template_of q p.parent)) o ≡ Some s
        → (i : ℕ) × (slice_get (sites_by (template_of q (parent_by o))) i ≡ Some s)
    by_place None h = cc
    by_place (Some p) h = (p.site, sym (site_at (template_of q p.parent) p.site) ∙ h)

walk_low : (flat : FlatProgram) (entry : ℕ) (tree : List (List ℕ)) (q : Linked) (m : ℕ) (p : List ℕ) (n : ℕ) → IsWalked flat entry tree q → m < length q.tree → walk q m p ≡ Some n → n < length q.tree
walk_low flat entry tree q m [] n w l h = let e : m ≡ n = cc in omega (arith, e, l)
walk_low flat entry tree q m (i ∷ p) n w l h = by_kid (kid q m i) refl h (λ c low. walk_low flat entry tree q c p n w low)
  where
    by_kid : (o : Option ℕ) → kid q m i ≡ o → option_and_then (λ c. walk q c p) o ≡ Some n → ((c : ℕ) → c < length q.tree → walk q c p ≡ Some n → n < length q.tree) → n < length q.tree
    by_kid None e k ih = cc
    by_kid (Some c) e k ih = ih c (w.kids m i c l e).there k

some_number : (o : Option ℕ) → is_some o ≡ true → o ≡ Some (number_or o)
some_number None h = cc
some_number (Some m) h = refl

module _ (law : TemplatesHaveSites) (flat : FlatProgram) (limits : List (List Bool)) (entry : ℕ) (tree : List (List ℕ)) (q : Linked) (fl : IsFlat flat) (ts : AreTemplates flat limits q.templates) (entry_is : entry < length flat.procs)
    (w : IsWalked flat entry tree q) where
  caller_calls : (p i : ℕ) (s : SiteTerms) (o : Option Formula) → slice_get q.templates p ≡ o → slice_get (sites_by o) i ≡ Some s → s.proc < length flat.procs
  caller_calls p i s None e is = cc
  caller_calls p i s (Some t) e is = called_low law flat limits p t i s fl (ts.each p t e) is

  -- a node's procedure is one
  proc_low : (m : ℕ) → m < length q.tree → proc_of q entry m < length flat.procs
  proc_low zero l = entry_is
  proc_low (suc m) l =
      let c = w.calls m l in
      let up = parent q (suc m) in
      let place = site_place q (suc m) c.site c.is in
      let low : up < length q.tree = omega (arith, l, c.caller) in
      let p = proc_at flat entry (path_at tree up) in
      subst (λ (o : Option SiteTerms). proc_by o < length flat.procs) (sym c.is)
      (caller_calls p place.0 c.site (slice_get q.templates p) refl (subst (λ (o : Option Formula). slice_get (sites_by o) place.0 ≡ Some c.site) (w.formulas up low) place.1))

  pub have_formulas : HaveFormulas flat limits entry q
  have_formulas = record {
    each = λ m l.
        let p = proc_of q entry m in
        let count : length q.templates ≡ length flat.procs = ts.count in
        let t = formula_there q.templates p (omega (arith, proc_low m l, count)) in
        (t.0, w.formulas m l ∙ (ap (slice_get q.templates) (sym (w.procs m l)) ∙ t.1), ts.each p t.0 t.1);
    nodes = λ p here. walk_low flat entry tree q 0 p (number q p) w w.root (some_number (walk q 0 p) here);
  }
