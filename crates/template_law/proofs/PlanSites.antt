-- What the sites that a run passes say of its calls and of how the callees are over.
use Rattle.std.proofs.Common.{◌≡◌, ℕ, zero, suc, ◌<◌, ◌≤◌, Bool, true, false, ◌||◌, List, [], ◌∷◌, ◌++◌, length, map, refl, sym, ap, ◌∙◌, subst, arith}
use Rattle.std.specs.Prelude.{Option, None, Some, slice_get, slice_index, slice_index_or, nat_eq, nat_lt, if◌then◌else◌}
use Rattle.std.proofs.lemmas.Bool.Decides.{nat_tests}
use Rattle.std.proofs.lemmas.Option.{slice_get_past}
use Rattle.hy_val.specs.Values.{at, is_on}
use Rattle.hy_val.specs.declared.value.Value.{Value}
use Rattle.flat_prog.proofs.Lists.{alike}
use Rattle.flat_prog.specs.Changes.{Keeps, AllKeep}
use Rattle.flat_prog.specs.Limits.{row, AreLimits}
use Rattle.flat_prog.specs.Local.{Request, Result, Ended, Broken}
use Rattle.flat_prog.specs.Once.{has_number}
use Rattle.flat_prog.specs.Program.{FlatProgram}
use Rattle.passive_form.proofs.Slimming.{unmarked}
use Rattle.passive_form.specs.Local.{picked}
use Rattle.passive_form.specs.SameRuns.{slim, slims}
use Rattle.vc_gen.specs.Passages.{blame}
use Rattle.tree_terms.specs.declared.linked.SiteTerms.{SiteTerms}
use Rattle.proc_template.specs.Numbered.{is_passed, request_by, slim_by}
use Rattle.tree_words.specs.Compose.{Returned, Right, SiteIs, SitesAre}
use Rattle.tree_words.specs.Template.{Template, site_by, view_by}
use Rattle.tree_words.specs.View.{SiteView, NodeView}
use Rattle.template_law.proofs.PlanRuns.{AllEnded}

-- lists with the same marked elements and the same others are equal
pub picked_alike : (ms : List Bool) (xs ys : List Value) → length xs ≡ length ys → picked ms xs ≡ picked ms ys → ((k : ℕ) → slice_index_or ms k false ≡ false → slice_get xs k ≡ slice_get ys k) → xs ≡ ys
picked_alike [] xs ys n e h = alike xs ys (λ k. h k refl)
picked_alike (m ∷ ms) [] [] n e h = refl
picked_alike (m ∷ ms) [] (y ∷ ys) n e h = absurd (omega (arith, n))
picked_alike (m ∷ ms) (x ∷ xs) [] n e h = absurd (omega (arith, n))
picked_alike (true ∷ ms) (x ∷ xs) (y ∷ ys) n e h =
    let a : x ≡ y = cc in
    let b : picked ms xs ≡ picked ms ys = cc in
    ap (λ v. v ∷ xs) a ∙ ap (λ vs. y ∷ vs) (picked_alike ms xs ys (omega (arith, n)) b (λ k. h (suc k)))
picked_alike (false ∷ ms) (x ∷ xs) (y ∷ ys) n e h =
    let z = h 0 refl in
    let a : x ≡ y = cc in
    ap (λ v. v ∷ xs) a ∙ ap (λ vs. y ∷ vs) (picked_alike ms xs ys (omega (arith, n)) e (λ k. h (suc k)))

pub map_get : {B : Type 0} (f : ℕ → B) (xs : List ℕ) (k : ℕ) → k < length xs → slice_get (map f xs) k ≡ Some (f (slice_index xs k))
map_get f [] k l = absurd (omega (arith, l))
map_get f (x ∷ xs) zero l = refl
map_get f (x ∷ xs) (suc k) l = map_get f xs k (omega (arith, l))

pub map_count : {A B : Type 0} (f : A → B) (xs : List A) → length (map f xs) ≡ length xs
map_count f [] = refl
map_count f (x ∷ xs) = ap suc (map_count f xs)

-- a site names all globals before it and after it, and those after it that the callee may not change are those before it
pub record SiteSized (flat : FlatProgram) (limits : List (List Bool)) (s : SiteTerms) : Type 0 where
  pub before : length s.before ≡ length flat.globals
  pub after : length s.after ≡ length flat.globals
  pub kept : (k : ℕ) → k < length s.after → slice_index_or (row limits s.proc) k false ≡ false → slice_index s.after k ≡ slice_index s.before k

abbrev outs_or : Result → List Value
outs_or (Ended outs globals) = outs
outs_or (Broken proc number) = []

abbrev globals_or : Result → List Value
globals_or (Ended outs globals) = globals
globals_or (Broken proc number) = []

abbrev is_ended : Result → Bool
is_ended (Ended outs globals) = true
is_ended (Broken proc number) = false

true_false : true ≡ false → ⊥
true_false e = cc

module _ (flat : FlatProgram) (limits : List (List Bool)) (are : AreLimits flat limits) (vs : List Value) where
  kept_get : (s : SiteTerms) (c : Request) (os gs : List Value) → SiteSized flat limits s → c ≡ request_by vs (Some s) → Keeps flat c (Ended os gs) → (k : ℕ) → slice_index_or (row limits s.proc) k false ≡ false → slice_get (map (at vs) s.after) k ≡ slice_get gs k
  kept_get s c os gs sized e keeps k off =
      let same_proc : c.proc ≡ s.proc = ap (λ (x : Request). x.proc) e in
      let others : slice_get gs k ≡ slice_get c.globals k = keeps.others k (unmarked flat limits c.proc k are (ap (λ p. slice_index_or (row limits p) k false) same_proc ∙ off)) in
      let asked : slice_get c.globals k ≡ slice_get (map (at vs) s.before) k = ap (λ (x : Request). slice_get x.globals k) e in
      by (nat_lt k (length s.after)) refl ∙ sym (others ∙ asked)
    where
      by : (b : Bool) → nat_lt k (length s.after) ≡ b → slice_get (map (at vs) s.after) k ≡ slice_get (map (at vs) s.before) k
      by true l =
          let low : k < length s.after = grind (arith, nat_tests) in
          let low2 : k < length s.before = let a = sized.before in let b = sized.after in omega (arith, low, a, b) in
          map_get (at vs) s.after k low ∙ ap (λ i. Some (at vs i)) (sized.kept k low off) ∙ sym (map_get (at vs) s.before k low2)
      by false l =
          let high : length s.after ≤ k = grind (arith, nat_tests) in
          let m = map_count (at vs) s.after in
          let n = map_count (at vs) s.before in
          let a = sized.before in
          let b = sized.after in
          slice_get_past (map (at vs) s.after) k (omega (arith, high, m)) ∙ sym (slice_get_past (map (at vs) s.before) k (omega (arith, high, n, a, b)))

  ended_says : (s : SiteTerms) (c : Request) (os gs : List Value) → SiteSized flat limits s → c ≡ request_by vs (Some s) → Keeps flat c (Ended os gs) → (b : Bool) → is_on (at vs s.fails) ≡ b →
      blame (slim limits c (Ended os gs)) ≡ blame (slim limits (request_by vs (Some s)) (if b then Broken 0 0 else Ended (map (at vs) s.outs) (map (at vs) s.after))) → SiteIs (site_by vs (Some s)) (Ended os gs)
  ended_says s c os gs sized e keeps true on h = absurd (true_false (ap is_ended h))
  ended_says s c os gs sized e keeps false on h =
      let same_proc : c.proc ≡ s.proc = ap (λ (x : Request). x.proc) e in
      let marks = row limits s.proc in
      let outs_are : os ≡ map (at vs) s.outs = ap outs_or h in
      let picks : picked marks gs ≡ picked marks (map (at vs) s.after) = ap (λ p. picked (row limits p) gs) (sym same_proc) ∙ ap globals_or h in
      let n1 : length gs ≡ length c.globals = keeps.count in
      let n2 : length c.globals ≡ length s.before = ap (λ (x : Request). length x.globals) e ∙ map_count (at vs) s.before in
      let n3 = map_count (at vs) s.after in
      let a = sized.before in
      let d = sized.after in
      let count : length (map (at vs) s.after) ≡ length gs = omega (arith, n1, n2, n3, a, d) in
      (on, sym outs_are, picked_alike marks (map (at vs) s.after) gs count (sym picks) (λ k off. kept_get s c os gs sized e keeps k off))

  broken_says : (s : SiteTerms) (c : Request) (x y : ℕ) → (b : Bool) → is_on (at vs s.fails) ≡ b →
      blame (slim limits c (Broken x y)) ≡ blame (slim limits (request_by vs (Some s)) (if b then Broken 0 0 else Ended (map (at vs) s.outs) (map (at vs) s.after))) → is_on (at vs s.fails) ≡ true
  broken_says s c x y true on h = on
  broken_says s c x y false on h = absurd (true_false (sym (ap is_ended h)))

  site_says : (o : Option SiteTerms) (c : Request) (r : Result) → ((s : SiteTerms) → o ≡ Some s → SiteSized flat limits s) → is_passed vs o ≡ true → c ≡ request_by vs o → Keeps flat c r → blame (slim limits c r) ≡ blame (slim_by limits vs o) →
      ((site_by vs o).call ≡ c) × SiteIs (site_by vs o) r
  site_says None c r sized on e keeps h = absurd (true_false (sym on))
  site_says (Some s) c (Ended os gs) sized on e keeps h = (sym e, ended_says s c os gs (sized s refl) e keeps (is_on (at vs s.fails)) refl h)
  site_says (Some s) c (Broken x y) sized on e keeps h = (sym e, broken_says s c x y (is_on (at vs s.fails)) refl h)

  -- the sites that are passed say the calls and their results
  pub sites_said : (t : Template) → ((i : ℕ) (s : SiteTerms) → slice_get t.sites i ≡ Some s → SiteSized flat limits s) → (passed : List ℕ) (calls : List Request) (results : List Result) →
      calls ≡ map (λ (i : ℕ). request_by vs (slice_get t.sites i)) passed → map blame (slims limits calls results) ≡ map blame (map (λ (i : ℕ). slim_by limits vs (slice_get t.sites i)) passed) → AllKeep flat calls results →
      ((i : ℕ) → has_number passed i ≡ true → is_passed vs (slice_get t.sites i) ≡ true) → SitesAre (view_by t vs) passed calls results
  sites_said t sized [] calls results e h keep on = tt
  sites_said t sized (i ∷ is) [] results e h keep on = tt
  sites_said t sized (i ∷ is) (c ∷ cs) [] e h keep on = tt
  sites_said t sized (i ∷ is) (c ∷ cs) (r ∷ rs) e h keep on =
      let one : c ≡ request_by vs (slice_get t.sites i) = cc in
      let rest : cs ≡ map (λ (i : ℕ). request_by vs (slice_get t.sites i)) is = cc in
      let two : blame (slim limits c r) ≡ blame (slim_by limits vs (slice_get t.sites i)) = cc in
      let more : map blame (slims limits cs rs) ≡ map blame (map (λ (i : ℕ). slim_by limits vs (slice_get t.sites i)) is) = cc in
      let here : has_number (i ∷ is) i ≡ true = ap (λ b. b || has_number is i) (own i) in
      let z = site_says (slice_get t.sites i) c r (sized i) (on i here) one keep.0 two in
      (z.0, z.1, sites_said t sized is cs rs rest more keep.1 (λ j k. on j (or_right (nat_eq i j) (has_number is j) k)))
    where
      own : (i : ℕ) → nat_eq i i ≡ true
      own i = grind (arith, nat_tests)

      or_right : (a b : Bool) → b ≡ true → (a || b) ≡ true
      or_right true b k = refl
      or_right false b k = k

-- ---- what comes back, where it is right

-- the site and what comes back end in the same way
pub record SameEnd (s : SiteView) (r : Returned) : Type 0 where
  pub off : s.fails ≡ false
  pub ends : r.fails ≡ false
  pub outs : s.outs ≡ r.outs
  pub globals : s.globals ≡ r.globals

same_number : (i j : ℕ) → nat_eq i j ≡ true → i ≡ j
same_number i j h = grind (arith, nat_tests)

-- so it is at each of the first sites, whose callees all ended
pub ended_at : (v : NodeView) (ret : ℕ → Returned) (front rest : List ℕ) (calls : List Request) (ended lasts : List Result) → length front ≡ length ended → length (front ++ rest) ≡ length calls → AllEnded ended →
    SitesAre v (front ++ rest) calls (ended ++ lasts) → Right ret (front ++ rest) (ended ++ lasts) → (i : ℕ) → has_number front i ≡ true → SameEnd (v.site i) (ret i)
ended_at v ret [] rest calls ended lasts n m all said right i h = absurd (true_false (sym h))
ended_at v ret (x ∷ front) rest calls [] lasts n m all said right i h = absurd (omega (arith, n))
ended_at v ret (x ∷ front) rest [] (r ∷ ended) lasts n m all said right i h = absurd (omega (arith, m))
ended_at v ret (x ∷ front) rest (c ∷ cs) (Broken p k ∷ ended) lasts n m all said right i h = absurd all
ended_at v ret (x ∷ front) rest (c ∷ cs) (Ended os gs ∷ ended) lasts n m all said right i h =
    by (nat_eq x i) refl h (λ k. ended_at v ret front rest cs ended lasts (omega (arith, n)) (omega (arith, m)) all said.2 right.1 i k)
  where
    here : SameEnd (v.site x) (ret x)
    here = record { off = said.1.0; ends = right.0.0; outs = said.1.1 ∙ sym right.0.1; globals = said.1.2 ∙ sym right.0.2 }

    by : (b : Bool) → nat_eq x i ≡ b → (b || has_number front i) ≡ true → (has_number front i ≡ true → SameEnd (v.site i) (ret i)) → SameEnd (v.site i) (ret i)
    by true e k more = subst (λ (j : ℕ). SameEnd (v.site j) (ret j)) (same_number x i e) here
    by false e k more = more k

-- the last one, whose callee fails
pub failing_at : (v : NodeView) (ret : ℕ → Returned) (front : List ℕ) (i : ℕ) (calls : List Request) (ended : List Result) (x y : ℕ) → length front ≡ length ended → length (front ++ i ∷ []) ≡ length calls →
    SitesAre v (front ++ i ∷ []) calls (ended ++ Broken x y ∷ []) → Right ret (front ++ i ∷ []) (ended ++ Broken x y ∷ []) → ((v.site i).fails ≡ true) × ((ret i).fails ≡ true)
failing_at v ret [] i [] [] x y n m said right = absurd (omega (arith, m))
failing_at v ret [] i (c ∷ cs) [] x y n m said right = (said.1, right.0)
failing_at v ret [] i calls (r ∷ ended) x y n m said right = absurd (omega (arith, n))
failing_at v ret (z ∷ front) i calls [] x y n m said right = absurd (omega (arith, n))
failing_at v ret (z ∷ front) i [] (r ∷ ended) x y n m said right = absurd (omega (arith, m))
failing_at v ret (z ∷ front) i (c ∷ cs) (r ∷ ended) x y n m said right = failing_at v ret front i cs ended x y (omega (arith, n)) (omega (arith, m)) said.2 right.1

-- the calls go to the procedures of the sites
pub procs_said : (v : NodeView) (passed : List ℕ) (calls : List Request) (results : List Result) → length passed ≡ length calls → length passed ≡ length results → SitesAre v passed calls results →
    map (λ (c : Request). c.proc) calls ≡ map (λ (i : ℕ). (v.site i).call.proc) passed
procs_said v [] [] results n m h = refl
procs_said v [] (c ∷ cs) results n m h = absurd (omega (arith, n))
procs_said v (i ∷ is) [] results n m h = absurd (omega (arith, n))
procs_said v (i ∷ is) (c ∷ cs) [] n m h = absurd (omega (arith, m))
procs_said v (i ∷ is) (c ∷ cs) (r ∷ rs) n m h =
    ap (λ (x : Request). x.proc ∷ map (λ (c : Request). c.proc) cs) (sym h.0) ∙ ap (λ ps. (v.site i).call.proc ∷ ps) (procs_said v is cs rs (omega (arith, n)) (omega (arith, m)) h.2)
