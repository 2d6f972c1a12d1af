-- The nodes of a tree's table, one after the other.
use Rattle.std.proofs.Common.{◌≡◌, ℕ, zero, suc, ◌+◌, ◌-◌, ◌<◌, Bool, true, false, not, ◌&&◌, ◌||◌, bytes_eq, List, [], ◌∷◌, ◌++◌, length, map, take, arith, refl, sym, ap, ◌∙◌, subst, append_assoc}
use Rattle.std.specs.Prelude.{Option, None, Some, slice_get}
use Rattle.std.specs.Option.{option_map, option_and_then}
use Rattle.std.proofs.lemmas.Option.{slice_get-map}
use Rattle.flat_prog.specs.Program.{FlatProgram, blocks_of}
use Rattle.flat_prog.specs.Caps.{chain_within, within}
use Rattle.flat_prog.specs.Sites.{along, numbers_from, sites_of}
use Rattle.flat_prog.specs.declared.proc.FlatProc.{FlatProc}
use Rattle.call_tree.specs.Trees.{has_path, parent, well_placed, IsPartTree, callees, last_or, last_of, proc_at, extended}
use Rattle.call_tree.proofs.PartTrees.{has_head, has_left, tree_caps}
use Rattle.call_tree.proofs.Places.{along_first, and_then_some, option_map_some}
use Rattle.tree_terms.specs.declared.linked.Place.{Place}
use Rattle.tree_terms.specs.declared.linked.SiteTerms.{SiteTerms}
use Rattle.tree_terms.specs.declared.linked.Template.{Template}
use Rattle.tree_words.specs.Linking.{number_or, proc_by, sites_by}
use Rattle.tree_query.specs.Tabled.{place_in, place_by, HaveSites, sites_of_template, called_by, called_from, proc_from, place_with, place_from}
use Rattle.tree_query.proofs.Numbers.{Before, place_before, place_is}
use Rattle.tree_query.proofs.Bases.{numbers-snoc}

-- ---- sites of formulas

abbrev list_or : Option (List ℕ) → List ℕ
list_or None = []
list_or (Some ns) = ns

their_sites : (o : Option Template) → list_or (option_map (λ (t : Template). map (λ (s : SiteTerms). s.proc) t.sites) o) ≡ map (λ (s : SiteTerms). s.proc) (sites_by o)
their_sites None = refl
their_sites (Some t) = refl

proc_sites : (o : Option FlatProc) → list_or (option_map (λ (q : FlatProc). sites_of q.blocks) o) ≡ sites_of (blocks_of o)
proc_sites None = refl
proc_sites (Some q) = refl

-- a formula's sites call what the procedure's do
pub sites_call : (flat : FlatProgram) (templates : List Template) (p : ℕ) → HaveSites flat templates → map (λ (s : SiteTerms). s.proc) (sites_of_template templates p) ≡ callees flat p
sites_call flat templates p h =
    sym (their_sites (slice_get templates p)) ∙ ap list_or (sym (slice_get-map (λ (t : Template). map (λ (s : SiteTerms). s.proc) t.sites) templates p) ∙ ap (λ (ls : List (List ℕ)). slice_get ls p) h
    ∙ slice_get-map (λ (q : FlatProc). sites_of q.blocks) flat.procs p) ∙ proc_sites (slice_get flat.procs p)

length-mapped : (ss : List SiteTerms) → length (map (λ (s : SiteTerms). s.proc) ss) ≡ length ss
length-mapped [] = refl
length-mapped (s ∷ ss) = ap suc (length-mapped ss)

pub sites_count : (flat : FlatProgram) (templates : List Template) (p : ℕ) → HaveSites flat templates → length (sites_of_template templates p) ≡ length (callees flat p)
sites_count flat templates p h = sym (length-mapped (sites_of_template templates p)) ∙ ap length (sites_call flat templates p h)

proc_of_some : (o : Option SiteTerms) (c : ℕ) → option_map (λ (s : SiteTerms). s.proc) o ≡ Some c → proc_by o ≡ c
proc_of_some None c h = cc
proc_of_some (Some s) c h = let e : Some s.proc ≡ Some c = h in cc

pub called_is : (flat : FlatProgram) (templates : List Template) (p site c : ℕ) → HaveSites flat templates → slice_get (callees flat p) site ≡ Some c → called_by templates p site ≡ c
called_is flat templates p site c h is =
    proc_of_some (slice_get (sites_of_template templates p) site) c
    (sym (slice_get-map (λ (s : SiteTerms). s.proc) (sites_of_template templates p) site) ∙ ap (λ (ns : List ℕ). slice_get ns site) (sites_call flat templates p h) ∙ is)

-- ---- the way to a node

pub split_last : (x : ℕ) (xs : List ℕ) → x ∷ xs ≡ parent (x ∷ xs) ++ last_or 0 (x ∷ xs) ∷ []
split_last x [] = refl
split_last x (y ∷ ys) = ap (λ (r : List ℕ). x ∷ r) (split_last y ys)

last_skip : (f c : ℕ) (ps rest : List ℕ) → ps ≡ c ∷ rest → last_or f ps ≡ last_or 0 ps
last_skip f c [] rest h = cc
last_skip f c (p ∷ ps) rest h = refl

pub record Splits (flat : FlatProgram) (from : ℕ) (path : List ℕ) (site : ℕ) (whole : List ℕ) : Type 0 where
  pub way : List ℕ
  pub is : along flat from path ≡ Some way
  pub call : slice_get (callees flat (last_or 0 way)) site ≡ Some (last_or 0 whole)

-- a way to a call goes by the way to its node
pub split_along : (flat : FlatProgram) (from : ℕ) (path : List ℕ) (site : ℕ) (whole : List ℕ) → along flat from (path ++ site ∷ []) ≡ Some whole → Splits flat from path site whole
split_along flat from [] site whole h =
    let o = option_map_some (λ ps. from ∷ ps) (option_and_then (λ q. along flat q []) (slice_get (callees flat from) site)) whole h in
    let c = and_then_some (λ q. along flat q []) (slice_get (callees flat from) site) o.0 o.1 in
    let rest : o.0 ≡ c.0 ∷ [] = let e : Some (c.0 ∷ []) ≡ Some o.0 = c.2 in cc in
    let last : c.0 ≡ last_or 0 whole = ap (last_or from) (sym rest) ∙ ap (last_or 0) o.2 in
    record { way = from ∷ []; is = refl; call = c.1 ∙ ap (λ (n : ℕ). Some n) last }
split_along flat from (x ∷ path) site whole h =
    let o = option_map_some (λ ps. from ∷ ps) (option_and_then (λ q. along flat q (path ++ site ∷ [])) (slice_get (callees flat from) x)) whole h in
    let c = and_then_some (λ q. along flat q (path ++ site ∷ [])) (slice_get (callees flat from) x) o.0 o.1 in
    let r = split_along flat c.0 path site o.0 c.2 in
    let first = along_first flat c.0 (path ++ site ∷ []) o.0 c.2 in
    let begin = along_first flat c.0 path r.way r.is in
    let last : last_or 0 o.0 ≡ last_or 0 whole = sym (last_skip from c.0 o.0 first.0 first.1) ∙ ap (last_or 0) o.2 in
    record {
      way = from ∷ r.way;
      is = ap (λ (t : Option ℕ). option_map (λ ps. from ∷ ps) (option_and_then (λ q. along flat q path) t)) c.1 ∙ ap (option_map (λ ps. from ∷ ps)) r.is;
      call = ap (λ (p : ℕ). slice_get (callees flat p) site) (last_skip from c.0 r.way begin.0 begin.1) ∙ r.call ∙ ap (λ (n : ℕ). Some n) last;
    }

pub exists_of : (flat : FlatProgram) (bound : ℕ) (o : Option (List ℕ)) → chain_within flat bound o ≡ true → (ps : List ℕ) × (o ≡ Some ps)
exists_of flat bound None h = cc
exists_of flat bound (Some ps) h = (ps, refl)

-- the site that a node is called at calls its procedure
pub call_at : (flat : FlatProgram) (entry bound x : ℕ) (xs : List ℕ) → within flat entry bound (x ∷ xs) ≡ true
    → slice_get (callees flat (proc_at flat entry (parent (x ∷ xs)))) (last_or 0 (x ∷ xs)) ≡ Some (proc_at flat entry (x ∷ xs))
call_at flat entry bound x xs caps =
    let w = exists_of flat bound (along flat entry (x ∷ xs)) caps in
    let s = split_along flat entry (parent (x ∷ xs)) (last_or 0 (x ∷ xs)) w.0 (ap (along flat entry) (sym (split_last x xs)) ∙ w.1) in
    ap (λ (o : Option (List ℕ)). slice_get (callees flat (last_of o)) (last_or 0 (x ∷ xs))) s.is ∙ s.call ∙ ap (λ (o : Option (List ℕ)). Some (last_of o)) (sym w.1)

-- ---- trees

both_left : (x y : Bool) → (x && y) ≡ true → x ≡ true
both_left true y h = refl
both_left false y h = cc

both_right : (x y : Bool) → (x && y) ≡ true → y ≡ true
both_right true y h = h
both_right false y h = cc

placed_parent : (flat : FlatProgram) (entry bound : ℕ) (seen ps : List (List ℕ)) (j : ℕ) (p : List ℕ) → well_placed flat entry bound seen ps ≡ true → slice_get ps j ≡ Some p → has_path (seen ++ take j ps) (parent p) ≡ true
placed_parent flat entry bound seen [] j p h is = cc
placed_parent flat entry bound seen (q ∷ ps) zero p h is =
    let same : q ≡ p = cc in
    has_left seen [] (parent p)
    (subst (λ (r : List ℕ). has_path seen (parent r) ≡ true) same
    (both_right (not (has_path seen q)) (has_path seen (parent q)) (both_left (not (has_path seen q) && has_path seen (parent q)) (within flat entry bound q && well_placed flat entry bound (seen ++ q ∷ []) ps) h)))
placed_parent flat entry bound seen (q ∷ ps) (suc j) p h is =
    subst (λ (rs : List (List ℕ)). has_path rs (parent p) ≡ true) (append_assoc seen (q ∷ []) (take j ps))
    (placed_parent flat entry bound (seen ++ q ∷ []) ps j p
    (both_right (within flat entry bound q) (well_placed flat entry bound (seen ++ q ∷ []) ps) (both_right (not (has_path seen q) && has_path seen (parent q)) (within flat entry bound q && well_placed flat entry bound (seen ++ q ∷ []) ps) h)) is)

first_placed : (flat : FlatProgram) (entry bound : ℕ) (rest : List (List ℕ)) (i x : ℕ) (xs : List ℕ) → well_placed flat entry bound ([] ∷ []) rest ≡ true → slice_get ([] ∷ rest) i ≡ Some (x ∷ xs)
    → has_path (take i ([] ∷ rest)) (parent (x ∷ xs)) ≡ true
first_placed flat entry bound rest zero x xs h is = cc
first_placed flat entry bound rest (suc i) x xs h is = placed_parent flat entry bound ([] ∷ []) rest i (x ∷ xs) h is

-- the parent of a node stands before it
pub parent_before : (flat : FlatProgram) (entry bound : ℕ) (tree : List (List ℕ)) (i x : ℕ) (xs : List ℕ) → IsPartTree flat entry bound tree → slice_get tree i ≡ Some (x ∷ xs) → Before tree i (parent (x ∷ xs))
parent_before flat entry bound tree i x xs t is =
    place_before tree i (parent (x ∷ xs))
    (subst (λ (ps : List (List ℕ)). has_path (take i ps) (parent (x ∷ xs)) ≡ true) (sym t.root_first)
    (first_placed flat entry bound t.rest i x xs t.placed (ap (λ (ps : List (List ℕ)). slice_get ps i) (sym t.root_first) ∙ is)))

pub has_at : (ps : List (List ℕ)) (i : ℕ) (p : List ℕ) → slice_get ps i ≡ Some p → has_path ps p ≡ true
has_at ps i p h = found ps i p h
  where
    or_true : (b c : Bool) → c ≡ true → (b || c) ≡ true
    or_true true c h = refl
    or_true false c h = h

    found : (qs : List (List ℕ)) (j : ℕ) (q : List ℕ) → slice_get qs j ≡ Some q → has_path qs q ≡ true
    found [] j q h = cc
    found (r ∷ qs) zero q h = let same : r ≡ q = cc in subst (λ (x : List ℕ). has_path (r ∷ qs) x ≡ true) same (has_head r qs)
    found (r ∷ qs) (suc j) q h = or_true (bytes_eq r q) (has_path qs q) (found qs j q h)

pub node_caps : (flat : FlatProgram) (entry bound : ℕ) (tree : List (List ℕ)) (i : ℕ) (p : List ℕ) → IsPartTree flat entry bound tree → slice_get tree i ≡ Some p → within flat entry bound p ≡ true
node_caps flat entry bound tree i p t is = tree_caps flat entry bound tree p t (has_at tree i p is)

-- ---- one node more

take_get : (ps : List (List ℕ)) (i k : ℕ) (p : List ℕ) → k < i → slice_get ps k ≡ Some p → slice_get (take i ps) k ≡ Some p
take_get [] i k p l h = cc
take_get (q ∷ ps) zero k p l h = absurd (omega (arith, l))
take_get (q ∷ ps) (suc i) zero p l h = h
take_get (q ∷ ps) (suc i) (suc k) p l h = take_get ps i k p (omega (arith, l)) h

-- the procedure that is found is the path's
proc_found : (flat : FlatProgram) (entry bound : ℕ) (tree : List (List ℕ)) (templates : List Template) (places : List Place) (i : ℕ) (path : List ℕ) → IsPartTree flat entry bound tree → HaveSites flat templates
    → slice_get tree i ≡ Some path → places ≡ map (place_by flat entry tree) (take i tree) → proc_from templates places entry path (number_or (place_in tree (parent path))) ≡ proc_at flat entry path
proc_found flat entry bound tree templates places i [] t h is before = refl
proc_found flat entry bound tree templates places i (x ∷ xs) t h is before =
    let b = parent_before flat entry bound tree i x xs t is in
    let up : number_or (place_in tree (parent (x ∷ xs))) ≡ b.place = ap number_or b.is in
    let node : slice_get places b.place ≡ Some (place_by flat entry tree (parent (x ∷ xs))) =
    ap (λ (ps : List Place). slice_get ps b.place) before ∙ slice_get-map (place_by flat entry tree) (take i tree) b.place
    ∙ ap (option_map (place_by flat entry tree)) (take_get tree i b.place (parent (x ∷ xs)) b.low (place_is tree (parent (x ∷ xs)) b.place b.is)) in
    ap (λ (k : ℕ). called_from templates (slice_get places k) (last_or 0 (x ∷ xs))) up ∙ ap (λ (o : Option Place). called_from templates o (last_or 0 (x ∷ xs))) node
    ∙ called_is flat templates (proc_at flat entry (parent (x ∷ xs))) (last_or 0 (x ∷ xs)) (proc_at flat entry (x ∷ xs)) h (call_at flat entry bound x xs (node_caps flat entry bound tree i (x ∷ xs) t is))

pub place_found : (flat : FlatProgram) (entry bound : ℕ) (tree : List (List ℕ)) (templates : List Template) (places : List Place) (i : ℕ) (path : List ℕ) → IsPartTree flat entry bound tree → HaveSites flat templates
    → slice_get tree i ≡ Some path → places ≡ map (place_by flat entry tree) (take i tree) → place_from tree templates places entry path ≡ place_by flat entry tree path
place_found flat entry bound tree templates places i path t h is before =
    ap (λ (p : ℕ). place_with tree templates path p (number_or (place_in tree (parent path)))) (proc_found flat entry bound tree templates places i path t h is before)
    ∙ ap (λ (n : ℕ). record { template = proc_at flat entry path; parent = number_or (place_in tree (parent path)); site = last_or 0 path; kids = map (place_in tree) (extended path (numbers_from 0 n)) })
    (sites_count flat templates (proc_at flat entry path) h)

map-snoc : (f : List ℕ → Place) (ps : List (List ℕ)) (p : List ℕ) → map f (ps ++ p ∷ []) ≡ map f ps ++ f p ∷ []
map-snoc f [] p = refl
map-snoc f (q ∷ ps) p = ap (λ (r : List Place). f q ∷ r) (map-snoc f ps p)

pub places_next : (flat : FlatProgram) (entry bound : ℕ) (tree : List (List ℕ)) (templates : List Template) (places new : List Place) (i : ℕ) (path : List ℕ) (p : Place) → IsPartTree flat entry bound tree → HaveSites flat templates
    → slice_get tree i ≡ Some path → places ≡ map (place_by flat entry tree) (take i tree) → p ≡ place_from tree templates places entry path → new ≡ places ++ p ∷ [] → take (i + 1) tree ≡ take i tree ++ path ∷ []
    → new ≡ map (place_by flat entry tree) (take (i + 1) tree)
places_next flat entry bound tree templates places new i path p t h is before p_is new_is next =
    new_is ∙ ap (λ (x : Place). places ++ x ∷ []) (p_is ∙ place_found flat entry bound tree templates places i path t h is before) ∙ ap (λ (ps : List Place). ps ++ place_by flat entry tree path ∷ []) before
    ∙ sym (ap (map (place_by flat entry tree)) next ∙ map-snoc (place_by flat entry tree) (take i tree) path)

-- ---- the sites of a node, one after the other

pub extended-snoc : (path ns : List ℕ) (n : ℕ) → extended path (ns ++ n ∷ []) ≡ extended path ns ++ (path ++ n ∷ []) ∷ []
extended-snoc path [] n = refl
extended-snoc path (m ∷ ns) n = ap (λ (r : List (List ℕ)). (path ++ m ∷ []) ∷ r) (extended-snoc path ns n)

kids-snoc : (paths ps : List (List ℕ)) (p : List ℕ) → map (place_in paths) (ps ++ p ∷ []) ≡ map (place_in paths) ps ++ place_in paths p ∷ []
kids-snoc paths [] p = refl
kids-snoc paths (q ∷ ps) p = ap (λ (r : List (Option ℕ)). place_in paths q ∷ r) (kids-snoc paths ps p)

pub kids_next : (paths : List (List ℕ)) (path next : List ℕ) (i site : ℕ) (old new : List (Option ℕ)) (o : Option ℕ) → site ≡ i → next ≡ path ++ site ∷ [] → o ≡ place_in paths next
    → old ≡ map (place_in paths) (extended path (numbers_from 0 i)) → new ≡ old ++ o ∷ [] → new ≡ map (place_in paths) (extended path (numbers_from 0 (i + 1)))
kids_next paths path next i site old new o site_is next_is o_is before new_is =
    let more : i + 1 ≡ suc i = omega arith in
    let place : 0 + i ≡ i = omega arith in
    new_is ∙ ap (λ (x : Option ℕ). old ++ x ∷ []) (o_is ∙ ap (place_in paths) (next_is ∙ ap (λ (n : ℕ). path ++ n ∷ []) site_is)) ∙ ap (λ (r : List (Option ℕ)). r ++ place_in paths (path ++ i ∷ []) ∷ []) before
    ∙ sym
    (ap (λ (n : ℕ). map (place_in paths) (extended path (numbers_from 0 n))) more
    ∙ ap (λ (ns : List ℕ). map (place_in paths) (extended path ns)) (numbers-snoc 0 i ∙ ap (λ (n : ℕ). numbers_from 0 i ++ n ∷ []) place)
    ∙ ap (map (place_in paths)) (extended-snoc path (numbers_from 0 i) i) ∙ kids-snoc paths (extended path (numbers_from 0 i)) (path ++ i ∷ []))

-- ---- paths that are taken apart

pub without_last : (p : List ℕ) → take (length p - 1) p ≡ parent p
without_last [] = refl
without_last (x ∷ []) = refl
without_last (x ∷ y ∷ p) =
    let e : length (x ∷ y ∷ p) - 1 ≡ suc (length (y ∷ p) - 1) = omega arith in
    ap (λ (n : ℕ). take n (x ∷ y ∷ p)) e ∙ ap (λ (r : List ℕ). x ∷ r) (without_last (y ∷ p))

pub last_is : (path : List ℕ) (d x : ℕ) → slice_get path (length path - 1) ≡ Some x → x ≡ last_or d path
last_is [] d x h = cc
last_is (y ∷ []) d x h = cc
last_is (y ∷ z ∷ path) d x h =
    let e : length (y ∷ z ∷ path) - 1 ≡ suc (length (z ∷ path) - 1) = omega arith in
    last_is (z ∷ path) y x (sym (ap (λ (n : ℕ). slice_get (y ∷ z ∷ path) n) e) ∙ h)
