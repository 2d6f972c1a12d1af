-- What is said of two lists of items is said of both together.
use Rattle.vc_gen.proofs.Numbers.{numbers_then}
use Rattle.vc_gen.proofs.Placed.{laid_then}
use Rattle.vc_gen.proofs.Checked.{checks_then}
use Rattle.vc_gen.proofs.Asks.{asks_later, asks_both}
use Rattle.vc_gen.specs.Taken.{true_values, frees_in}
use Rattle.vc_gen.proofs.Taking.{values_later, values_stay, values_there, values_both, frees_append}
use Rattle.vc_gen.specs.Passages.{places_from}
use Rattle.std.proofs.Common.{◌≡◌, ℕ, zero, suc, ◌+◌, ◌<◌, ◌≤◌, Bool, true, false, ◌&&◌, ◌||◌, List, [], ◌∷◌, ◌++◌, map, length, arith, sym, ◌∙◌, ap, refl, subst, append-nil, append_assoc, length-append}
use Rattle.std.specs.Prelude.{Some, slice_get, take, IsTrue}
use Rattle.std.proofs.lemmas.List.{map-append}
use Rattle.hy_val.specs.Values.{at, is_on, has_sort}
use Rattle.hy_val.specs.declared.sort.Sort.{Sort}
use Rattle.hy_val.specs.declared.value.Value.{Value}
use Rattle.hy_term.specs.Meaning.{values, value, node_fits, fits}
use Rattle.hy_term.specs.Variables.{below, reads}
use Rattle.hy_term.specs.declared.node.TermNode.{TermNode}
use Rattle.hy_term.specs.declared.node.TermNode.TheVariants.{Variable}
use Rattle.passive_form.specs.Local.{sorted_as}
use Rattle.passive_form.specs.declared.Item.{Item}
use Rattle.passive_form.specs.declared.Item.TheVariants.{Let, Zero, Free, Need, Check, Site}
use Rattle.passive_form.proofs.Passing.{defined_append}
use Rattle.vc_gen.specs.declared.parts.Draft.{Draft}
use Rattle.vc_gen.specs.declared.parts.SiteTerm.{SiteTerm}
use Rattle.vc_gen.specs.declared.parts.FailTerm.{FailTerm}
use Rattle.vc_gen.specs.Standing.{Later, AreOf, variables_in}
use Rattle.vc_gen.specs.Items.{bool_sort, made_by, made, chosen_by, chosen, SiteMeans, FailMeans, input_of, inputs, on_after, on_end, fails_by, fails_in, site_by, sites_in, assert_by, asserts_in}
use Rattle.vc_gen.specs.Emit.{SitesOf, AreVariables, Stands, Meant, site_value, fail_value, SiteThere, SitesThere, FailsThere, Step, site_place}
use Rattle.vc_gen.proofs.Growth.{later_same, later_then, value_later, sort_later, are_later, are_append, map_later, sort_within}

pub made_append : (xs ys : List Item) → made (xs ++ ys) ≡ made xs ++ made ys
made_append [] ys = refl
made_append (x ∷ xs) ys = ap (λ r. made_by x ++ r) (made_append xs ys) ∙ sym (append_assoc (made_by x) (made xs) (made ys))

pub chosen_append : (xs ys : List Item) → chosen (xs ++ ys) ≡ chosen xs ++ chosen ys
chosen_append [] ys = refl
chosen_append (x ∷ xs) ys = ap (λ r. chosen_by x ++ r) (chosen_append xs ys) ∙ sym (append_assoc (chosen_by x) (chosen xs) (chosen ys))

pub inputs_append : (vals : ℕ → Value) (xs ys : List Item) → inputs vals (xs ++ ys) ≡ inputs vals xs ++ inputs vals ys
inputs_append vals [] ys = refl
inputs_append vals (x ∷ xs) ys = ap (λ r. input_of vals x ++ r) (inputs_append vals xs ys) ∙ sym (append_assoc (input_of vals x) (inputs vals xs) (inputs vals ys))

pub on_append : (consts : List Value) (vals : ℕ → Value) (on : Bool) (xs ys : List Item) → on_end consts vals on (xs ++ ys) ≡ on_end consts vals (on_end consts vals on xs) ys
on_append consts vals on [] ys = refl
on_append consts vals on (x ∷ xs) ys = on_append consts vals (on_after consts vals on x) xs ys

pub fails_append : (consts : List Value) (vals : ℕ → Value) (on failed : Bool) (xs ys : List Item) →
    fails_in consts vals on failed (xs ++ ys) ≡ fails_in consts vals (on_end consts vals on xs) (fails_in consts vals on failed xs) ys
fails_append consts vals on failed [] ys = refl
fails_append consts vals on failed (x ∷ xs) ys = fails_append consts vals (on_after consts vals on x) (failed || fails_by consts vals on x) xs ys

pub sites_append : (consts : List Value) (vals : ℕ → Value) (on : Bool) (xs ys : List Item) → sites_in consts vals on (xs ++ ys) ≡ sites_in consts vals on xs ++ sites_in consts vals (on_end consts vals on xs) ys
sites_append consts vals on [] ys = refl
sites_append consts vals on (x ∷ xs) ys =
    ap (λ r. site_by consts vals on x ++ r) (sites_append consts vals (on_after consts vals on x) xs ys)
    ∙ sym (append_assoc (site_by consts vals on x) (sites_in consts vals (on_after consts vals on x) xs) (sites_in consts vals (on_end consts vals on (x ∷ xs)) ys))

pub asserts_append : (block : ℕ) (consts : List Value) (vals : ℕ → Value) (on : Bool) (xs ys : List Item) → asserts_in block consts vals on (xs ++ ys) ≡ asserts_in block consts vals on xs ++ asserts_in block consts vals (on_end consts vals on xs) ys
asserts_append block consts vals on [] ys = refl
asserts_append block consts vals on (x ∷ xs) ys =
    ap (λ r. assert_by block consts vals on x ++ r) (asserts_append block consts vals (on_after consts vals on x) xs ys)
    ∙ sym (append_assoc (assert_by block consts vals on x) (asserts_in block consts vals (on_after consts vals on x) xs) (asserts_in block consts vals (on_end consts vals on (x ∷ xs)) ys))

-- ---- variables in a row

pub reads_append : (a : ℕ → Value) (k n m : ℕ) → reads a k (n + m) ≡ reads a k n ++ reads a (k + n) m
reads_append a k zero m = let e : k ≡ k + 0 = omega arith in let f : 0 + m ≡ m = omega arith in ap (reads a k) f ∙ ap (λ i. reads a i m) e
reads_append a k (suc n) m =
    let e : k + 1 + n ≡ k + suc n = omega arith in
    let f : suc n + m ≡ suc (n + m) = omega arith in
    ap (reads a k) f ∙ ap (λ r. a k ∷ r) (reads_append a (k + 1) n m ∙ ap (λ i. reads a (k + 1) n ++ reads a i m) e)

pub length_reads : (a : ℕ → Value) (k n : ℕ) → length (reads a k n) ≡ n
length_reads a k zero = refl
length_reads a k (suc n) = ap suc (length_reads a (k + 1) n)

pub and_first : (a b : Bool) → (a && b) ≡ true → a ≡ true
and_first true b h = refl
and_first false b h = cc

pub and_second : (a b : Bool) → (a && b) ≡ true → b ≡ true
and_second true b h = h
and_second false b h = cc

pub and_two : (a b : Bool) → a ≡ true → b ≡ true → (a && b) ≡ true
and_two true b h k = k
and_two false b h k = cc

pub sorts_left : (ss rs : List Sort) (vs ws : List Value) → length vs ≡ length ss → sorted_as (ss ++ rs) (vs ++ ws) ≡ true → sorted_as ss vs ≡ true
sorts_left [] rs [] ws n h = refl
sorts_left [] rs (v ∷ vs) ws n h = absurd (omega (arith, n))
sorts_left (s ∷ ss) rs [] ws n h = absurd (omega (arith, n))
sorts_left (s ∷ ss) rs (v ∷ vs) ws n h =
    and_two (has_sort v s) (sorted_as ss vs) (and_first (has_sort v s) (sorted_as (ss ++ rs) (vs ++ ws)) h)
    (sorts_left ss rs vs ws (omega (arith, n)) (and_second (has_sort v s) (sorted_as (ss ++ rs) (vs ++ ws)) h))

pub sorts_right : (ss rs : List Sort) (vs ws : List Value) → length vs ≡ length ss → sorted_as (ss ++ rs) (vs ++ ws) ≡ true → sorted_as rs ws ≡ true
sorts_right [] rs [] ws n h = h
sorts_right [] rs (v ∷ vs) ws n h = absurd (omega (arith, n))
sorts_right (s ∷ ss) rs [] ws n h = absurd (omega (arith, n))
sorts_right (s ∷ ss) rs (v ∷ vs) ws n h = sorts_right ss rs vs ws (omega (arith, n)) (and_second (has_sort v s) (sorted_as (ss ++ rs) (vs ++ ws)) h)

pub sorts_both : (ss rs : List Sort) (vs ws : List Value) → sorted_as ss vs ≡ true → sorted_as rs ws ≡ true → sorted_as (ss ++ rs) (vs ++ ws) ≡ true
sorts_both [] rs [] ws h k = k
sorts_both [] rs (v ∷ vs) ws h k = cc
sorts_both (s ∷ ss) rs [] ws h k = cc
sorts_both (s ∷ ss) rs (v ∷ vs) ws h k =
    and_two (has_sort v s) (sorted_as (ss ++ rs) (vs ++ ws)) (and_first (has_sort v s) (sorted_as ss vs) h) (sorts_both ss rs vs ws (and_second (has_sort v s) (sorted_as ss vs) h) k)

fits_front : (a : ℕ → Value) (xs ys : List TermNode) → IsTrue (fits a (xs ++ ys)) → IsTrue (fits a xs)
fits_front a [] ys h = refl
fits_front a (x ∷ xs) ys h = and_two (node_fits a x) (fits a xs) (and_first (node_fits a x) (fits a (xs ++ ys)) h) (fits_front a xs ys (and_second (node_fits a x) (fits a (xs ++ ys)) h))

pub fits_before : (a : ℕ → Value) (x y : List TermNode) → Later x y → IsTrue (fits a y) → IsTrue (fits a x)
fits_before a x y h k = fits_front a x h.nodes.0 (subst (λ (ns : List TermNode). IsTrue (fits a ns)) h.nodes.1 k)

-- ---- growing

pub site_later : (x y : List TermNode) (a : ℕ → Value) (s : SiteTerm) → Later x y → SiteThere x s → site_value a y s ≡ site_value a x s
site_later x y a s h t =
    same (is_on (value a y s.node)) (is_on (value a x s.node)) (map (at (values a y)) s.args) (map (at (values a x)) s.args) (map (at (values a y)) s.globals_before) (map (at (values a x)) s.globals_before)
    (map (at (values a y)) s.outs) (map (at (values a x)) s.outs) (map (at (values a y)) s.changed) (map (at (values a x)) s.changed) (map (at (values a y)) s.globals_after) (map (at (values a x)) s.globals_after) (is_on (value a y s.fails)) (is_on (value a x s.fails))
    (ap is_on (value_later x y a s.node h (sort_within x s.node bool_sort t.node)))
    (map_later x y a s.args t.args.0 h t.args.1) (map_later x y a s.globals_before t.before.0 h t.before.1)
    (map_later x y a s.outs t.outs.0 h t.outs.1) (map_later x y a s.changed t.changed.0 h t.changed.1) (map_later x y a s.globals_after t.after.0 h t.after.1)
    (ap is_on (value_later x y a s.fails h (sort_within x s.fails bool_sort t.fails)))
  where
    same : (p p' : Bool) (q q' r r' u u' x x' v v' : List Value) (w w' : Bool) → p ≡ p' → q ≡ q' → r ≡ r' → u ≡ u' → x ≡ x' → v ≡ v' → w ≡ w' →
        ◌≡◌ {A = SiteMeans} (record { proc = s.proc; on = p; args = q; before = r; outs = u; changed = x; after = v; fails = w }) (record { proc = s.proc; on = p'; args = q'; before = r'; outs = u'; changed = x'; after = v'; fails = w' })
    same p p' q q' r r' u u' x x' v v' w w' a b c d e g f = cc

pub sites_later : (x y : List TermNode) (a : ℕ → Value) (ss : List SiteTerm) → Later x y → SitesThere x ss → map (site_value a y) ss ≡ map (site_value a x) ss
sites_later x y a [] h t = refl
sites_later x y a (s ∷ ss) h (t, ts) = ap (λ r. r ∷ map (site_value a y) ss) (site_later x y a s h t) ∙ ap (λ r. site_value a x s ∷ r) (sites_later x y a ss h ts)

get_grown : (xs more : List TermNode) (i : ℕ) (n : TermNode) → slice_get xs i ≡ Some n → slice_get (xs ++ more) i ≡ Some n
get_grown [] more i n h = cc
get_grown (x ∷ xs) more zero n h = h
get_grown (x ∷ xs) more (suc i) n h = get_grown xs more i n h

pub variables_stay : (x y : List TermNode) (ts : List ℕ) (k : ℕ) (ss : List Sort) → Later x y → AreVariables x ts k ss → AreVariables y ts k ss
variables_stay x y [] k [] h t = tt
variables_stay x y [] k (s ∷ ss) h t = absurd t
variables_stay x y (i ∷ ts) k [] h t = absurd t
variables_stay x y (i ∷ ts) k (s ∷ ss) h (t, us) = (ap (λ ns. slice_get ns i) h.nodes.1 ∙ get_grown x h.nodes.0 i (Variable k s) t, variables_stay x y ts (k + 1) ss h us)

got_within : (x : List TermNode) (i : ℕ) (n : TermNode) → slice_get x i ≡ Some n → i < length x
got_within [] i n h = cc
got_within (x ∷ xs) zero n h = omega arith
got_within (x ∷ xs) (suc i) n h = let l = got_within xs i n h in omega (arith, l)

first_within : (x : List TermNode) (t : ℕ) (ts : List ℕ) (k : ℕ) (ss : List Sort) → AreVariables x (t ∷ ts) k ss → t < length x
first_within x t ts k [] h = absurd h
first_within x t ts k (s ∷ ss) (h, hs) = got_within x t (Variable k s) h

pub take_grown : (xs more : List TermNode) (i : ℕ) → i ≤ length xs → take i (xs ++ more) ≡ take i xs
take_grown xs more zero l = refl
take_grown [] more (suc i) l = absurd (omega (arith, l))
take_grown (x ∷ xs) more (suc i) l = ap (λ r. x ∷ r) (take_grown xs more i (omega (arith, l)))

same_front : (x y : List TermNode) (i : ℕ) → Later x y → i < length x → take i y ≡ take i x
same_front x y i h l = ap (take i) h.nodes.1 ∙ take_grown x h.nodes.0 i (omega (arith, l))

pub site_stays : (x y : List TermNode) (s : SiteTerm) → Later x y → SiteThere x s → SiteThere y s
site_stays x y s h t = record {
  node = sort_later x y s.node bool_sort h t.node;
  args = (t.args.0, are_later x y s.args t.args.0 h t.args.1);
  before = (t.before.0, are_later x y s.globals_before t.before.0 h t.before.1);
  outs = (t.outs.0, are_later x y s.outs t.outs.0 h t.outs.1);
  changed = (t.changed.0, are_later x y s.changed t.changed.0 h t.changed.1);
  after = (t.after.0, are_later x y s.globals_after t.after.0 h t.after.1);
  fails = sort_later x y s.fails bool_sort h t.fails;
  failed = sort_later x y s.failed bool_sort h t.failed;
  fails_is = λ a f.
      ap is_on (value_later x y a s.fails h (sort_within x s.fails bool_sort t.fails)) ∙ t.fails_is a (fits_before a x y h f)
      ∙ ap (λ v. is_on v && is_on (value a x s.failed)) (sym (value_later x y a s.node h (sort_within x s.node bool_sort t.node)))
      ∙ ap (λ v. is_on (value a y s.node) && is_on v) (sym (value_later x y a s.failed h (sort_within x s.failed bool_sort t.failed)));
  variables = (t.variables.0, variables_stay x y (s.failed ∷ (s.outs ++ s.changed)) s.first t.variables.0 h t.variables.1);
  args_before = t.args_before;
  globals_before = t.globals_before;
  others_behind = t.others_behind;
  numbers = subst (λ (ns : List TermNode). IsTrue (below s.first ns)) (sym (same_front x y s.failed h (first_within x s.failed (s.outs ++ s.changed) s.first t.variables.0 t.variables.1))) t.numbers;
  after_is = t.after_is;
}

pub sites_stay : (x y : List TermNode) (ss : List SiteTerm) → Later x y → SitesThere x ss → SitesThere y ss
sites_stay x y [] h t = tt
sites_stay x y (s ∷ ss) h (t, ts) = (site_stays x y s h t, sites_stay x y ss h ts)

pub of_later : (x y : List TermNode) (items : List Item) (ts : List SiteTerm) → Later x y → SitesOf x items ts → SitesOf y items ts
of_later x y [] [] h k = tt
of_later x y [] (t ∷ ts) h k = absurd k
of_later x y (Let v e ∷ items) ts h k = of_later x y items ts h k
of_later x y (Zero v s ∷ items) ts h k = of_later x y items ts h k
of_later x y (Free v s ∷ items) ts h k = of_later x y items ts h k
of_later x y (Need e ∷ items) ts h k = of_later x y items ts h k
of_later x y (Check p e ∷ items) ts h k = of_later x y items ts h k
of_later x y (Site p f args before outs changes after ∷ items) [] h k = absurd k
of_later x y (Site p f args before outs changes after ∷ items) (t ∷ ts) h (k, ks) =
    (record { proc_is = k.proc_is; outs_are = are_later x y t.outs outs h k.outs_are; changed_are = are_later x y t.changed after h k.changed_are; after_is = k.after_is }, of_later x y items ts h ks)

pub of_both : (x : List TermNode) (xs ys : List Item) (ss ts : List SiteTerm) → SitesOf x xs ss → SitesOf x ys ts → SitesOf x (xs ++ ys) (ss ++ ts)
of_both x [] ys [] ts h k = k
of_both x [] ys (s ∷ ss) ts h k = absurd h
of_both x (Let v e ∷ xs) ys ss ts h k = of_both x xs ys ss ts h k
of_both x (Zero v s ∷ xs) ys ss ts h k = of_both x xs ys ss ts h k
of_both x (Free v s ∷ xs) ys ss ts h k = of_both x xs ys ss ts h k
of_both x (Need e ∷ xs) ys ss ts h k = of_both x xs ys ss ts h k
of_both x (Check p e ∷ xs) ys ss ts h k = of_both x xs ys ss ts h k
of_both x (Site p f args before outs changes after ∷ xs) ys [] ts h k = absurd h
of_both x (Site p f args before outs changes after ∷ xs) ys (s ∷ ss) ts (h, hs) k = (h, of_both x xs ys ss ts hs k)

pub sites_there_append : (x : List TermNode) (ss rs : List SiteTerm) → SitesThere x ss → SitesThere x rs → SitesThere x (ss ++ rs)
sites_there_append x [] rs h k = k
sites_there_append x (s ∷ ss) rs (h, hs) k = (h, sites_there_append x ss rs hs k)

pub fail_later : (x y : List TermNode) (a : ℕ → Value) (fs : List FailTerm) → Later x y → FailsThere x fs → map (fail_value a y) fs ≡ map (fail_value a x) fs
fail_later x y a [] h t = refl
fail_later x y a (f ∷ fs) h (t, ts) =
    ap {B = List FailMeans} (λ (b : Value). record { block = f.block; position = f.position; fails = is_on b } ∷ map (fail_value a y) fs) (value_later x y a f.node h (sort_within x f.node bool_sort t))
    ∙ ap (λ r. fail_value a x f ∷ r) (fail_later x y a fs h ts)

pub fails_stay : (x y : List TermNode) (fs : List FailTerm) → Later x y → FailsThere x fs → FailsThere y fs
fails_stay x y [] h t = tt
fails_stay x y (f ∷ fs) h (t, ts) = (sort_later x y f.node bool_sort h t, fails_stay x y fs h ts)

pub fails_there_append : (x : List TermNode) (fs gs : List FailTerm) → FailsThere x fs → FailsThere x gs → FailsThere x (fs ++ gs)
fails_there_append x [] gs h k = k
fails_there_append x (f ∷ fs) gs (h, hs) k = (h, fails_there_append x fs gs hs k)

-- ---- values of versions, and what stands, from step to step

get_front : (xs ys : List ℕ) (v t : ℕ) → slice_get xs v ≡ Some t → slice_get (xs ++ ys) v ≡ Some t
get_front [] ys v t h = cc
get_front (x ∷ xs) ys zero t h = h
get_front (x ∷ xs) ys (suc v) t h = get_front xs ys v t h

version_within : (x : List TermNode) (ts : List ℕ) (ss : List Sort) (v t : ℕ) → AreOf x ts ss → slice_get ts v ≡ Some t → t < length x
version_within x [] ss v t h k = cc
version_within x (u ∷ ts) [] v t h k = absurd h
version_within x (u ∷ ts) (s ∷ ss) zero t (h, hs) k = let same : u ≡ t = cc in subst (λ (i : ℕ). i < length x) same (sort_within x u s h)
version_within x (u ∷ ts) (s ∷ ss) (suc v) t (h, hs) k = version_within x ts ss v t hs k

pub meant_back : (a : ℕ → Value) (x y : List TermNode) (cs versions more behind : List ℕ) (csorts vsorts : List Sort) (consts : List Value) (vals : ℕ → Value) → Later x y → AreOf x cs csorts → AreOf x versions vsorts →
    behind ≡ versions ++ more → Meant a y cs behind consts vals → Meant a x cs versions consts vals
meant_back a x y cs versions more behind csorts vsorts consts vals h c w is m = record {
  consts_are = sym (map_later x y a cs csorts h c) ∙ m.consts_are;
  each = λ v t k. m.each v t (ap (λ vs. slice_get vs v) is ∙ get_front versions more v t k) ∙ value_later x y a t h (version_within x versions vsorts v t w k);
}

pub stands_then : (cs : List ℕ) (block : ℕ) (old new : List TermNode) (d e : Draft) (csorts vsorts : List Sort) (items : List Item) → Stands old cs d csorts vsorts → Step cs block old d items new e →
    Stands new cs e csorts (vsorts ++ made items)
stands_then cs block old new d e csorts vsorts items h s = record {
  sound = s.later.sound;
  consts = are_later old new cs csorts s.later h.consts;
  versions = subst (λ (vs : List ℕ). AreOf new vs (vsorts ++ made items)) (sym s.versions) (are_append new d.versions s.more vsorts (made items) (are_later old new d.versions vsorts s.later h.versions) s.are);
  cond = s.cond;
  fails = s.fails;
  next = s.below;
}

places_append : (b k n m : ℕ) → places_from b k (n + m) ≡ places_from b k n ++ places_from b (k + n) m
places_append b k zero m =
    let e : zero + m ≡ m = omega arith in
    let f : k ≡ k + zero = omega arith in
    ap (places_from b k) e ∙ ap (λ i. places_from b i m) f
places_append b k (suc n) m =
    let e : suc n + m ≡ suc (n + m) = omega arith in
    let f : k + 1 + n ≡ k + suc n = omega arith in
    ap (places_from b k) e ∙ ap (λ r. (b, k) ∷ r) (places_append b (k + 1) n m ∙ ap (λ i. places_from b (k + 1) n ++ places_from b i m) f)

pub step_nil : (cs : List ℕ) (block : ℕ) (old : List TermNode) (d : Draft) (csorts vsorts : List Sort) → Stands old cs d csorts vsorts → Step cs block old d [] old d
step_nil cs block old d csorts vsorts h = record {
  later = later_same old h.sound;
  more = [];
  versions = sym (append-nil d.versions);
  are = tt;
  cond = h.cond;
  fails = h.fails;
  next = omega arith;
  below = h.next;
  sites = [];
  sites_there = tt;
  sites_of = tt;
  sites_behind = sym (append-nil d.sites);
  asked = λ csorts vsorts _. tt;
  numbered = refl;
  laid = refl;
  calls = omega arith;
  variables = sym (append-nil (variables_in old));
  asserts = [];
  asserts_there = tt;
  asserts_behind = sym (append-nil d.asserts);
  checked = refl;
  values = [];
  values_there = tt;
  values_behind = sym (append-nil d.values);
  taken = λ a consts vals f m. refl;
  says = λ a consts vals f m. record { defined = tt; on = refl; fails = refl; inputs_are = refl; sites_are = refl; asserts_are = refl };
  fit = λ a f k. f;
}

pub step_then : (cs : List ℕ) (block : ℕ) (old mid new : List TermNode) (d m e : Draft) (csorts vsorts : List Sort) (xs ys : List Item) → Stands old cs d csorts vsorts →
    Step cs block old d xs mid m → Step cs block mid m ys new e → Step cs block old d (xs ++ ys) new e
step_then cs block old mid new d m e csorts vsorts xs ys h s t =
    let st = stands_then cs block old mid d m csorts vsorts xs h s in
    let n : length (chosen (xs ++ ys)) ≡ length (chosen xs) + length (chosen ys) = ap length (chosen_append xs ys) ∙ length-append (chosen xs) (chosen ys) in
    let split : (a : ℕ → Value) → reads a d.next (length (chosen (xs ++ ys))) ≡ reads a d.next (length (chosen xs)) ++ reads a m.next (length (chosen ys)) = λ a.
    ap (reads a d.next) n ∙ reads_append a d.next (length (chosen xs)) (length (chosen ys)) ∙ ap (λ i. reads a d.next (length (chosen xs)) ++ reads a i (length (chosen ys))) (sym s.next) in
    record {
      later = later_then old mid new s.later t.later;
      more = s.more ++ t.more;
      versions = t.versions ∙ ap (λ vs. vs ++ t.more) s.versions ∙ append_assoc d.versions s.more t.more;
      are = subst (λ (ss : List Sort). AreOf new (s.more ++ t.more) ss) (sym (made_append xs ys)) (are_append new s.more t.more (made xs) (made ys) (are_later mid new s.more (made xs) t.later s.are) t.are);
      cond = t.cond;
      fails = t.fails;
      next = omega (arith, t.next, s.next, n);
      below = t.below;
      sites = s.sites ++ t.sites;
      sites_there = sites_there_append new s.sites t.sites (sites_stay mid new s.sites t.later s.sites_there) t.sites_there;
      sites_of = of_both new xs ys s.sites t.sites (of_later mid new xs s.sites t.later s.sites_of) t.sites_of;
      sites_behind = t.sites_behind ∙ ap (λ r. r ++ t.sites) s.sites_behind ∙ append_assoc d.sites s.sites t.sites;
      asked = λ cs2 vs2 h2.
          asks_both new vs2 xs ys s.sites t.sites (asks_later mid new vs2 xs s.sites t.later (s.asked cs2 vs2 h2)) (t.asked cs2 (vs2 ++ made xs) (stands_then cs block old mid d m cs2 vs2 xs h2 s));
      numbered = map-append site_place s.sites t.sites ∙ ap (λ r. r ++ map site_place t.sites) s.numbered
          ∙ ap (λ r. places_from block d.calls (length s.sites) ++ r) (t.numbered ∙ ap (λ i. places_from block i (length t.sites)) s.calls)
          ∙ sym (ap (places_from block d.calls) (length-append s.sites t.sites) ∙ places_append block d.calls (length s.sites) (length t.sites));
      laid = laid_then block s.sites t.sites xs ys d.calls d.next m.calls m.next s.laid s.calls s.next t.laid;
      calls = omega (arith, t.calls, s.calls, length-append s.sites t.sites);
      variables = numbers_then (variables_in old) (variables_in mid) (variables_in new) d.next m.next (length (chosen xs)) (length (chosen ys)) (length (chosen (xs ++ ys))) s.variables s.next t.variables n;
      asserts = s.asserts ++ t.asserts;
      asserts_there = fails_there_append new s.asserts t.asserts (fails_stay mid new s.asserts t.later s.asserts_there) t.asserts_there;
      checked = checks_then block s.asserts t.asserts xs ys s.checked t.checked;
      asserts_behind = t.asserts_behind ∙ ap (λ r. r ++ t.asserts) s.asserts_behind ∙ append_assoc d.asserts s.asserts t.asserts;
      values = s.values ++ t.values;
      values_there = values_there new s.values t.values (values_stay mid new s.values t.later s.values_there) t.values_there;
      values_behind = t.values_behind ∙ ap (λ r. r ++ t.values) s.values_behind ∙ append_assoc d.values s.values t.values;
      taken = λ a consts vals f w.
          let f1 = fits_before a mid new t.later f in
          let back = meant_back a mid new cs m.versions t.more e.versions csorts (vsorts ++ made xs) consts vals t.later st.consts st.versions t.versions w in
          let on = is_on (value a old d.cond) in
          values_both a new s.values t.values ∙ ap (λ r. r ++ true_values a new t.values) (values_later mid new a s.values t.later s.values_there ∙ s.taken a consts vals f1 back)
          ∙ ap (λ r. frees_in consts vals on xs ++ r) (t.taken a consts vals f w ∙ ap (λ b. frees_in consts vals b ys) (s.says a consts vals f1 back).on) ∙ sym (frees_append consts vals on xs ys);
      says = λ a consts vals f w.
          let two = t.says a consts vals f w in
          let one = s.says a consts vals (fits_before a mid new t.later f) (meant_back a mid new cs m.versions t.more e.versions csorts (vsorts ++ made xs) consts vals t.later st.consts st.versions t.versions w) in
          let on = is_on (value a old d.cond) in
          let gone = is_on (value a old d.fails) in
          record {
            defined = defined_append consts vals xs ys one.defined two.defined;
            on = two.on ∙ ap (λ b. on_end consts vals b ys) one.on ∙ sym (on_append consts vals on xs ys);
            fails = two.fails ∙ ap (λ b. fails_in consts vals b (is_on (value a mid m.fails)) ys) one.on ∙ ap (λ b. fails_in consts vals (on_end consts vals on xs) b ys) one.fails
                ∙ sym (fails_append consts vals on gone xs ys);
            inputs_are = inputs_append vals xs ys ∙ ap (λ r. r ++ inputs vals ys) one.inputs_are ∙ ap (λ r. reads a d.next (length (chosen xs)) ++ r) two.inputs_are ∙ sym (split a);
            sites_are = map-append (site_value a new) s.sites t.sites ∙ ap (λ r. r ++ map (site_value a new) t.sites) (sites_later mid new a s.sites t.later s.sites_there ∙ one.sites_are)
                ∙ ap (λ r. sites_in consts vals on xs ++ r) (two.sites_are ∙ ap (λ b. sites_in consts vals b ys) one.on) ∙ sym (sites_append consts vals on xs ys);
            asserts_are = map-append (fail_value a new) s.asserts t.asserts ∙ ap (λ r. r ++ map (fail_value a new) t.asserts) (fail_later mid new a s.asserts t.later s.asserts_there ∙ one.asserts_are)
                ∙ ap (λ r. asserts_in block consts vals on xs ++ r) (two.asserts_are ∙ ap (λ b. asserts_in block consts vals b ys) one.on) ∙ sym (asserts_append block consts vals on xs ys);
          };
      fit = λ a f k.
          let k2 : sorted_as (chosen xs ++ chosen ys) (reads a d.next (length (chosen xs)) ++ reads a m.next (length (chosen ys))) ≡ true =
          sym (ap (λ r. sorted_as (chosen (xs ++ ys)) r) (split a) ∙ ap (λ r. sorted_as r (reads a d.next (length (chosen xs)) ++ reads a m.next (length (chosen ys)))) (chosen_append xs ys)) ∙ k in
          let l = length_reads a d.next (length (chosen xs)) in
          t.fit a (s.fit a f (sorts_left (chosen xs) (chosen ys) (reads a d.next (length (chosen xs))) (reads a m.next (length (chosen ys))) l k2))
          (sorts_right (chosen xs) (chosen ys) (reads a d.next (length (chosen xs))) (reads a m.next (length (chosen ys))) l k2);
    }
