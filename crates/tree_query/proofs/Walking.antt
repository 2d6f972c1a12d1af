-- The table of a tree as its paths lead through it.
use Rattle.std.proofs.Common.{◌≡◌, ℕ, zero, suc, ◌+◌, ◌<◌, Bool, true, false, List, [], ◌∷◌, ◌++◌, length, map, take, arith, refl, sym, ap, ◌∙◌, subst, append_assoc, append-nil}
use Rattle.std.specs.Prelude.{Option, None, Some, is_some, slice_get}
use Rattle.std.specs.Option.{option_map, option_and_then}
use Rattle.std.proofs.lemmas.Option.{slice_get-map, slice_get_within}
use Rattle.flat_prog.specs.Program.{FlatProgram}
use Rattle.flat_prog.specs.Caps.{within}
use Rattle.flat_prog.specs.Sites.{numbers_from}
use Rattle.call_tree.specs.Trees.{has_path, parent as parent_path, IsPartTree, callees, last_or, proc_at, extended, sites_at}
use Rattle.call_tree.proofs.PartTrees.{parent_of, tree_caps, tree_differs}
use Rattle.call_tree.proofs.Places.{tree_prefix}
use Rattle.tree_terms.specs.declared.linked.Linked.{Linked}
use Rattle.tree_terms.specs.declared.linked.Place.{Place}
use Rattle.tree_terms.specs.declared.linked.SiteTerms.{SiteTerms}
use Rattle.tree_terms.specs.declared.linked.Template.{Template as Formula}
use Rattle.tree_terms.specs.Linked.{template_of, parent, parent_by, joined, kid, site_of}
use Rattle.tree_words.specs.Linking.{walk, number, number_or, is_node_of, sites_by, proc_by, proc_of}
use Rattle.tree_words.specs.Assigning.{ArePaths}
use Rattle.tree_query.specs.Tabled.{place_in, place_by, HaveSites, IsTabled}
use Rattle.tree_query.specs.Walked.{path_or, path_at, IsKid, IsCalled, TablesAreWalked}
use Rattle.tree_query.proofs.Numbers.{place_at, place_is, place_before}
use Rattle.tree_query.proofs.Tables.{call_at, called_is, has_at, node_caps, parent_before, sites_count}

-- ---- nodes

node_at : (flat : FlatProgram) (entry : ℕ) (tree : List (List ℕ)) (q : Linked) (m : ℕ) (p : List ℕ) → IsTabled flat entry tree q → slice_get tree m ≡ Some p → slice_get q.tree m ≡ Some (place_by flat entry tree p)
node_at flat entry tree q m p t is = ap (λ (ps : List Place). slice_get ps m) t ∙ slice_get-map (place_by flat entry tree) tree m ∙ ap (option_map (place_by flat entry tree)) is

length-places : (f : List ℕ → Place) (ps : List (List ℕ)) → length (map f ps) ≡ length ps
length-places f [] = refl
length-places f (p ∷ ps) = ap suc (length-places f ps)

count_is : (flat : FlatProgram) (entry : ℕ) (tree : List (List ℕ)) (q : Linked) → IsTabled flat entry tree q → length q.tree ≡ length tree
count_is flat entry tree q t = ap length t ∙ length-places (place_by flat entry tree) tree

pub path_there : (tree : List (List ℕ)) (m : ℕ) → m < length tree → slice_get tree m ≡ Some (path_at tree m)
path_there [] m l = absurd (omega (arith, l))
path_there (p ∷ tree) zero l = refl
path_there (p ∷ tree) (suc m) l = path_there tree m (omega (arith, l))

path_of_place : (tree : List (List ℕ)) (m : ℕ) (p : List ℕ) → slice_get tree m ≡ Some p → path_at tree m ≡ p
path_of_place tree m p h = ap path_or h

template_is : (flat : FlatProgram) (entry : ℕ) (tree : List (List ℕ)) (q : Linked) (m : ℕ) (p : List ℕ) → IsTabled flat entry tree q → slice_get tree m ≡ Some p → template_of q m ≡ slice_get q.templates (proc_at flat entry p)
template_is flat entry tree q m p t is = ap (λ (o : Option Place). option_and_then (λ (x : Place). slice_get q.templates x.template) o) (node_at flat entry tree q m p t is)

parent_is : (flat : FlatProgram) (entry : ℕ) (tree : List (List ℕ)) (q : Linked) (m : ℕ) (p : List ℕ) → IsTabled flat entry tree q → slice_get tree m ≡ Some p → parent q m ≡ number_or (place_in tree (parent_path p))
parent_is flat entry tree q m p t is = ap parent_by (node_at flat entry tree q m p t is)

-- ---- sites

pub nth_site : (path : List ℕ) (first n i : ℕ) → i < n → slice_get (extended path (numbers_from first n)) i ≡ Some (path ++ (first + i) ∷ [])
nth_site path first zero i l = absurd (omega (arith, l))
nth_site path first (suc n) zero l = let e : first ≡ first + 0 = omega arith in ap (λ (k : ℕ). Some (path ++ k ∷ [])) e
nth_site path first (suc n) (suc i) l =
    let e : (first + 1) + i ≡ first + suc i = omega arith in
    nth_site path (first + 1) n i (omega (arith, l)) ∙ ap (λ (k : ℕ). Some (path ++ k ∷ [])) e

site_low : (path : List ℕ) (first n i : ℕ) (p : List ℕ) → slice_get (extended path (numbers_from first n)) i ≡ Some p → i < n
site_low path first zero i p h = cc
site_low path first (suc n) zero p h = omega arith
site_low path first (suc n) (suc i) p h = let k : i < n = site_low path (first + 1) n i p h in omega (arith, k)

kid_by : (flat : FlatProgram) (entry : ℕ) (tree : List (List ℕ)) (q : Linked) (m i : ℕ) (p : List ℕ) → IsTabled flat entry tree q → slice_get tree m ≡ Some p
    → kid q m i ≡ joined (option_map (place_in tree) (slice_get (sites_at flat entry p) i))
kid_by flat entry tree q m i p t is =
    ap (λ (o : Option Place). option_and_then (λ (x : Place). joined (slice_get x.kids i)) o) (node_at flat entry tree q m p t is) ∙ ap joined (slice_get-map (place_in tree) (sites_at flat entry p) i)

joined_some : (tree : List (List ℕ)) (o : Option (List ℕ)) (c : ℕ) → joined (option_map (place_in tree) o) ≡ Some c → (p : List ℕ) × (o ≡ Some p) × (place_in tree p ≡ Some c)
joined_some tree None c h = cc
joined_some tree (Some p) c h = (p, refl, h)

-- the node at a site is that of the site's path
pub kid_path : (flat : FlatProgram) (entry : ℕ) (tree : List (List ℕ)) (q : Linked) (m i c : ℕ) (p : List ℕ) → IsTabled flat entry tree q → slice_get tree m ≡ Some p → kid q m i ≡ Some c
    → (i < length (callees flat (proc_at flat entry p))) × (slice_get tree c ≡ Some (p ++ i ∷ []))
kid_path flat entry tree q m i c p t is h =
    let j = joined_some tree (slice_get (sites_at flat entry p) i) c (sym (kid_by flat entry tree q m i p t is) ∙ h) in
    let low = site_low p 0 (length (callees flat (proc_at flat entry p))) i j.0 j.1 in
    let zero_more : 0 + i ≡ i = omega arith in
    let same : Some j.0 ≡ Some (p ++ i ∷ []) = sym j.1 ∙ nth_site p 0 (length (callees flat (proc_at flat entry p))) i low ∙ ap (λ (k : ℕ). Some (p ++ k ∷ [])) zero_more in
    let path : j.0 ≡ p ++ i ∷ [] = cc in
    (low, place_is tree (p ++ i ∷ []) c (ap (place_in tree) (sym path) ∙ j.2))

pub kid_there : (flat : FlatProgram) (entry : ℕ) (tree : List (List ℕ)) (q : Linked) (m i c : ℕ) (p : List ℕ) → IsTabled flat entry tree q → slice_get tree m ≡ Some p → i < length (callees flat (proc_at flat entry p))
    → place_in tree (p ++ i ∷ []) ≡ Some c → kid q m i ≡ Some c
kid_there flat entry tree q m i c p t is low h =
    let zero_more : 0 + i ≡ i = omega arith in
    kid_by flat entry tree q m i p t is
    ∙ ap (λ (o : Option (List ℕ)). joined (option_map (place_in tree) o)) (nth_site p 0 (length (callees flat (proc_at flat entry p))) i low ∙ ap (λ (k : ℕ). Some (p ++ k ∷ [])) zero_more) ∙ h

-- a path that ends in a site has a first one
snoc_cons : (p : List ℕ) (i : ℕ) → (x : ℕ) × (xs : List ℕ) × (p ++ i ∷ [] ≡ x ∷ xs)
snoc_cons [] i = (i, [], refl)
snoc_cons (y ∷ p) i = (y, p ++ i ∷ [], refl)

last_snoc : (p : List ℕ) (n i : ℕ) → last_or n (p ++ i ∷ []) ≡ i
last_snoc [] n i = refl
last_snoc (x ∷ p) n i = last_snoc p x i

-- the site before the last of a path within the caps is one of its node's
snoc_calls : (flat : FlatProgram) (entry bound : ℕ) (p : List ℕ) (i : ℕ) → within flat entry bound (p ++ i ∷ []) ≡ true → slice_get (callees flat (proc_at flat entry p)) i ≡ Some (proc_at flat entry (p ++ i ∷ []))
snoc_calls flat entry bound p i caps =
    let c = snoc_cons p i in
    let whole = call_at flat entry bound c.0 c.1 (subst (λ (r : List ℕ). within flat entry bound r ≡ true) c.2 caps) in
    ap (λ (r : List ℕ). slice_get (callees flat (proc_at flat entry r)) i) (sym (parent_of p i))
    ∙ ap (λ (r : List ℕ). slice_get (callees flat (proc_at flat entry (parent_path r))) i) c.2
    ∙ ap (slice_get (callees flat (proc_at flat entry (parent_path (c.0 ∷ c.1))))) (sym (last_snoc p 0 i) ∙ ap (last_or 0) c.2)
    ∙ whole ∙ ap (λ (r : List ℕ). Some (proc_at flat entry r)) (sym c.2)

-- ---- ways

walk_by : (tree : List (List ℕ)) (q : Linked) (m c i : ℕ) (r p : List ℕ) (o : Option ℕ) → kid q m i ≡ o → ((k : ℕ) → kid q m i ≡ Some k → walk q k p ≡ Some c → slice_get tree c ≡ Some (r ++ (i ∷ p)))
    → option_and_then (λ k. walk q k p) o ≡ Some c → slice_get tree c ≡ Some (r ++ (i ∷ p))
walk_by tree q m c i r p None e go f = cc
walk_by tree q m c i r p (Some k) e go f = go k e f

walk_to : (flat : FlatProgram) (entry : ℕ) (tree : List (List ℕ)) (q : Linked) (m c : ℕ) (r p : List ℕ) → IsTabled flat entry tree q → slice_get tree m ≡ Some r → walk q m p ≡ Some c → slice_get tree c ≡ Some (r ++ p)
walk_to flat entry tree q m c r [] t is h = let same : m ≡ c = cc in ap (slice_get tree) (sym same) ∙ is ∙ ap (λ (x : List ℕ). Some x) (sym (append-nil r))
walk_to flat entry tree q m c r (i ∷ p) t is h =
    walk_by tree q m c i r p (kid q m i) refl
    (λ k e f. walk_to flat entry tree q k c (r ++ i ∷ []) p t (kid_path flat entry tree q m i k r t is e).1 f ∙ ap (λ (x : List ℕ). Some x) (append_assoc r (i ∷ []) p)) h

walk_from : (flat : FlatProgram) (entry bound : ℕ) (tree : List (List ℕ)) (q : Linked) (m c : ℕ) (r p : List ℕ) → IsPartTree flat entry bound tree → IsTabled flat entry tree q → slice_get tree m ≡ Some r
    → slice_get tree c ≡ Some (r ++ p) → walk q m p ≡ Some c
walk_from flat entry bound tree q m c r [] part t is h =
    let differ = tree_differs flat entry bound tree part in
    let here : place_in tree r ≡ Some m = place_at tree m r differ is in
    let there : place_in tree r ≡ Some c = place_at tree c r differ (h ∙ ap (λ (x : List ℕ). Some x) (append-nil r)) in
    sym here ∙ there
walk_from flat entry bound tree q m c r (i ∷ p) part t is h =
    let split : r ++ (i ∷ p) ≡ (r ++ i ∷ []) ++ p = sym (append_assoc r (i ∷ []) p) in
    let has : has_path tree (r ++ i ∷ []) ≡ true = tree_prefix flat entry bound tree (r ++ i ∷ []) p part (has_at tree c ((r ++ i ∷ []) ++ p) (h ∙ ap (λ (x : List ℕ). Some x) split)) in
    let k = somewhere tree (r ++ i ∷ []) has in
    let low = slice_get_within (callees flat (proc_at flat entry r)) i (proc_at flat entry (r ++ i ∷ [])) (snoc_calls flat entry bound r i (tree_caps flat entry bound tree (r ++ i ∷ []) part has)) in
    ap (option_and_then (λ x. walk q x p)) (kid_there flat entry tree q m i k.0 r t is low k.1)
    ∙ walk_from flat entry bound tree q k.0 c (r ++ i ∷ []) p part t (place_is tree (r ++ i ∷ []) k.0 k.1) (h ∙ ap (λ (x : List ℕ). Some x) split)
  where
    take_all : (ps : List (List ℕ)) → take (length ps) ps ≡ ps
    take_all [] = refl
    take_all (x ∷ ps) = ap (λ (rs : List (List ℕ)). x ∷ rs) (take_all ps)

    somewhere : (ps : List (List ℕ)) (x : List ℕ) → has_path ps x ≡ true → (k : ℕ) × (place_in ps x ≡ Some k)
    somewhere ps x g = let b = place_before ps (length ps) x (ap (λ (rs : List (List ℕ)). has_path rs x) (take_all ps) ∙ g) in (b.place, b.is)

root_at : (flat : FlatProgram) (entry bound : ℕ) (tree : List (List ℕ)) → IsPartTree flat entry bound tree → slice_get tree 0 ≡ Some []
root_at flat entry bound tree part = ap (λ (ps : List (List ℕ)). slice_get ps 0) part.root_first

root_low : (flat : FlatProgram) (entry bound : ℕ) (tree : List (List ℕ)) → IsPartTree flat entry bound tree → 0 < length tree
root_low flat entry bound tree part = slice_get_within tree 0 [] (root_at flat entry bound tree part)

are_paths : (flat : FlatProgram) (entry bound : ℕ) (tree : List (List ℕ)) (q : Linked) → IsPartTree flat entry bound tree → IsTabled flat entry tree q → ArePaths q (path_at tree)
are_paths flat entry bound tree q part t = record {
  ends = λ m l. walk_from flat entry bound tree q 0 m [] (path_at tree m) part t (root_at flat entry bound tree part) (path_there tree m (subst (λ (n : ℕ). m < n) (count_is flat entry tree q t) l));
  same = λ p h. at_end p (walk q 0 p) refl h;
}
  where
    at_end : (p : List ℕ) (w : Option ℕ) → walk q 0 p ≡ w → is_some w ≡ true → path_at tree (number_or (walk q 0 p)) ≡ p
    at_end p None g h = cc
    at_end p (Some c) g h = ap (λ (o : Option ℕ). path_at tree (number_or o)) g ∙ path_of_place tree c p (walk_to flat entry tree q 0 c [] p t (root_at flat entry bound tree part) g)

-- ---- calls

some_at : (ss : List SiteTerms) (i : ℕ) → i < length ss → (s : SiteTerms) × (slice_get ss i ≡ Some s)
some_at [] i l = absurd (omega (arith, l))
some_at (s ∷ ss) zero l = (s, refl)
some_at (s ∷ ss) (suc i) l = some_at ss i (omega (arith, l))

site_by : (o : Option Formula) (i : ℕ) → option_and_then (λ (f : Formula). slice_get f.sites i) o ≡ slice_get (sites_by o) i
site_by None i = refl
site_by (Some f) i = refl

-- the site that a node is called at
site_is : (flat : FlatProgram) (entry : ℕ) (tree : List (List ℕ)) (q : Linked) (c m i : ℕ) (p r : List ℕ) → IsTabled flat entry tree q → slice_get tree c ≡ Some p → slice_get tree m ≡ Some r → number_or (place_in tree (parent_path p)) ≡ m
    → last_or 0 p ≡ i → site_of q c ≡ slice_get (sites_by (slice_get q.templates (proc_at flat entry r))) i
site_is flat entry tree q c m i p r t is up number last =
    ap (λ (o : Option Place). option_and_then (λ (x : Place). option_and_then (λ (f : Formula). slice_get f.sites x.site) (template_of q x.parent)) o) (node_at flat entry tree q c p t is)
    ∙ ap (λ (k : ℕ). option_and_then (λ (f : Formula). slice_get f.sites (last_or 0 p)) (template_of q k)) number
    ∙ ap (λ (o : Option Formula). option_and_then (λ (f : Formula). slice_get f.sites (last_or 0 p)) o) (template_is flat entry tree q m r t up)
    ∙ ap (λ (k : ℕ). option_and_then (λ (f : Formula). slice_get f.sites k) (slice_get q.templates (proc_at flat entry r))) last
    ∙ site_by (slice_get q.templates (proc_at flat entry r)) i

-- the node at a site is called there
is_kid : (flat : FlatProgram) (entry bound : ℕ) (tree : List (List ℕ)) (q : Linked) (m i c : ℕ) → IsPartTree flat entry bound tree → HaveSites flat q.templates → IsTabled flat entry tree q → m < length q.tree → kid q m i ≡ Some c
    → IsKid q m i c
is_kid flat entry bound tree q m i c part have t l h =
    let p = path_at tree m in
    let here = path_there tree m (subst (λ (n : ℕ). m < n) (count_is flat entry tree q t) l) in
    let k = kid_path flat entry tree q m i c p t here h in
    let differ = tree_differs flat entry bound tree part in
    let up : number_or (place_in tree (parent_path (p ++ i ∷ []))) ≡ m =
    ap (λ (r : List ℕ). number_or (place_in tree r)) (parent_of p i) ∙ ap number_or (place_at tree m p differ here) in
    let x = snoc_cons p i in
    let before = parent_before flat entry bound tree c x.0 x.1 part (k.1 ∙ ap (λ (r : List ℕ). Some r) x.2) in
    let low : m < c = earlier (place_in tree (parent_path (p ++ i ∷ []))) before.place m c (ap (λ (r : List ℕ). place_in tree (parent_path r)) x.2 ∙ before.is) up before.low in
    let s = some_at (sites_by (slice_get q.templates (proc_at flat entry p))) i (subst (λ (n : ℕ). i < n) (sym (sites_count flat q.templates (proc_at flat entry p) have)) k.0) in
    record {
      behind = low;
      there = subst (λ (n : ℕ). c < n) (sym (count_is flat entry tree q t)) (slice_get_within tree c (p ++ i ∷ []) k.1);
      caller = parent_is flat entry tree q c (p ++ i ∷ []) t k.1 ∙ up;
      site = s.0;
      site_there = ap (λ (o : Option Formula). slice_get (sites_by o) i) (template_is flat entry tree q m p t here) ∙ s.1;
      called = site_is flat entry tree q c m i (p ++ i ∷ []) p t k.1 here up (last_snoc p 0 i) ∙ s.1;
    }
  where
    earlier : (o : Option ℕ) (k m c : ℕ) → o ≡ Some k → number_or o ≡ m → k < c → m < c
    earlier o k m c e f l = let same : k ≡ m = sym (ap number_or e) ∙ f in omega (arith, same, l)

-- each node but the root is called at a site of one before it, which calls its procedure
is_called : (flat : FlatProgram) (entry bound : ℕ) (tree : List (List ℕ)) (q : Linked) (m : ℕ) → IsPartTree flat entry bound tree → HaveSites flat q.templates → IsTabled flat entry tree q → suc m < length q.tree
    → IsCalled flat entry tree q (suc m)
is_called flat entry bound tree q m part have t l = by_path (path_at tree (suc m)) refl
  where
    here : slice_get tree (suc m) ≡ Some (path_at tree (suc m))
    here = path_there tree (suc m) (subst (λ (n : ℕ). suc m < n) (count_is flat entry tree q t) l)

    by_path : (p : List ℕ) → path_at tree (suc m) ≡ p → IsCalled flat entry tree q (suc m)
    by_path [] e =
        let differ = tree_differs flat entry bound tree part in
        let first : place_in tree [] ≡ Some 0 = place_at tree 0 [] differ (root_at flat entry bound tree part) in
        let second : place_in tree [] ≡ Some (suc m) = place_at tree (suc m) [] differ (here ∙ ap (λ (r : List ℕ). Some r) e) in
        let same : Some 0 ≡ Some (suc m) = sym first ∙ second in
        absurd (let e : 0 ≡ suc m = cc in omega (arith, e))
    by_path (x ∷ xs) e =
        let is : slice_get tree (suc m) ≡ Some (x ∷ xs) = here ∙ ap (λ (r : List ℕ). Some r) e in
        let b = parent_before flat entry bound tree (suc m) x xs part is in
        let up : slice_get tree b.place ≡ Some (parent_path (x ∷ xs)) = place_is tree (parent_path (x ∷ xs)) b.place b.is in
        let call = call_at flat entry bound x xs (node_caps flat entry bound tree (suc m) (x ∷ xs) part is) in
        let low = slice_get_within (callees flat (proc_at flat entry (parent_path (x ∷ xs)))) (last_or 0 (x ∷ xs)) (proc_at flat entry (x ∷ xs)) call in
        let s =
        some_at (sites_by (slice_get q.templates (proc_at flat entry (parent_path (x ∷ xs))))) (last_or 0 (x ∷ xs))
        (subst (λ (n : ℕ). last_or 0 (x ∷ xs) < n) (sym (sites_count flat q.templates (proc_at flat entry (parent_path (x ∷ xs))) have)) low) in
        record {
          site = s.0;
          is = site_is flat entry tree q (suc m) b.place (last_or 0 (x ∷ xs)) (x ∷ xs) (parent_path (x ∷ xs)) t is up (ap number_or b.is) refl ∙ s.1;
          caller = let same : parent q (suc m) ≡ b.place = parent_is flat entry tree q (suc m) (x ∷ xs) t is ∙ ap number_or b.is in subst (λ (n : ℕ). n < suc m) (sym same) b.low;
          calls =
              sym (ap proc_by s.1) ∙ called_is flat q.templates (proc_at flat entry (parent_path (x ∷ xs))) (last_or 0 (x ∷ xs)) (proc_at flat entry (x ∷ xs)) have call ∙ ap (proc_at flat entry) (sym e);
        }

-- ---- the whole

proc_is : (flat : FlatProgram) (entry bound : ℕ) (tree : List (List ℕ)) (q : Linked) (m : ℕ) → IsPartTree flat entry bound tree → HaveSites flat q.templates → IsTabled flat entry tree q → m < length q.tree
    → proc_of q entry m ≡ proc_at flat entry (path_at tree m)
proc_is flat entry bound tree q zero part have t l = ap (proc_at flat entry) (sym (path_of_place tree 0 [] (root_at flat entry bound tree part)))
proc_is flat entry bound tree q (suc m) part have t l = let c = is_called flat entry bound tree q m part have t l in ap proc_by c.is ∙ c.calls

node_is : (flat : FlatProgram) (entry bound : ℕ) (tree : List (List ℕ)) (q : Linked) (p : List ℕ) → IsPartTree flat entry bound tree → IsTabled flat entry tree q → is_node_of q p ≡ has_path tree p
node_is flat entry bound tree q p part t = both (is_node_of q p) (has_path tree p) refl refl
  where
    there : (w : Option ℕ) → walk q 0 p ≡ w → is_some w ≡ true → has_path tree p ≡ true
    there None e h = cc
    there (Some c) e h = has_at tree c p (walk_to flat entry tree q 0 c [] p t (root_at flat entry bound tree part) e)

    take_all : (ps : List (List ℕ)) → take (length ps) ps ≡ ps
    take_all [] = refl
    take_all (x ∷ ps) = ap (λ (rs : List (List ℕ)). x ∷ rs) (take_all ps)

    back : has_path tree p ≡ true → is_node_of q p ≡ true
    back h =
        let b = place_before tree (length tree) p (ap (λ (rs : List (List ℕ)). has_path rs p) (take_all tree) ∙ h) in
        ap is_some (walk_from flat entry bound tree q 0 b.place [] p part t (root_at flat entry bound tree part) (place_is tree p b.place b.is))

    both : (x y : Bool) → is_node_of q p ≡ x → has_path tree p ≡ y → is_node_of q p ≡ has_path tree p
    both true y e f = e ∙ sym (there (walk q 0 p) refl e)
    both false true e f = back f ∙ sym f
    both false false e f = e ∙ sym f

pub walked : TablesAreWalked
walked flat entry bound tree q part have t = record {
  count = count_is flat entry tree q t;
  root = subst (λ (n : ℕ). 0 < n) (sym (count_is flat entry tree q t)) (root_low flat entry bound tree part);
  paths = are_paths flat entry bound tree q part t;
  nodes = λ p. node_is flat entry bound tree q p part t;
  kids = λ m i c l h. is_kid flat entry bound tree q m i c part have t l h;
  calls = λ m l. is_called flat entry bound tree q m part have t l;
  procs = λ m l. proc_is flat entry bound tree q m part have t l;
  formulas = λ m l. template_is flat entry tree q m (path_at tree m) t (path_there tree m (subst (λ (n : ℕ). m < n) (count_is flat entry tree q t) l));
}
