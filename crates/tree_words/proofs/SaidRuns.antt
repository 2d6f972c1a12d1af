-- Where the views say a run, they reach the nodes that it has, and the run read off them is this one.
use Rattle.std.proofs.Common.{◌≡◌, ℕ, zero, suc, ◌+◌, ◌<◌, ◌≤◌, Bool, true, false, not, ◌&&◌, ◌||◌, List, [], ◌∷◌, ◌++◌, length, refl, sym, ap, ◌∙◌, subst, append_assoc, append-nil, true≢false, ⊎_elim, arith, length-append}
use Rattle.std.specs.Prelude.{nat_eq, slice_get, if◌then◌else◌}
use Rattle.std.proofs.lemmas.Bool.{and_parts, or_cases, both_ways, eqb-true, false_from_ne_true}
use Rattle.hy_val.specs.declared.value.Value.{Value}
use Rattle.flat_prog.specs.Program.{FlatProgram, blocks_of}
use Rattle.flat_prog.specs.Local.{Track}
use Rattle.flat_prog.specs.Trees.{Run, Below, node, none, inner, free, is_whole, are_whole}
use Rattle.flat_prog.specs.Sites.{sites_passed}
use Rattle.call_tree.specs.Questions.{stands, stand_below}
use Rattle.call_tree.specs.Descent.{goes_down, goes_below}
use Rattle.tree_words.specs.Question.{goes}
use Rattle.tree_words.specs.View.{SiteView, NodeView}
use Rattle.tree_words.specs.Compose.{FreeSay, AllSay, BelowSay}
use Rattle.flat_prog.specs.Once.{has_number}
use Rattle.tree_words.specs.Built.{on_sites, below_built, built}
use Rattle.tree_words.proofs.Sound.{on_passed}
use Rattle.tree_words.proofs.Choosing.{fits_at}

-- what the views of a node at some sites say, where they say the run
pub record Sub (flat : FlatProgram) (is_node is_open : List ℕ → Bool) (free_values : SiteView → List Value) (view : List ℕ → NodeView) (p : List ℕ) (whole : Bool) : Type 0 where
  pub run : Run
  pub say : AllSay run flat free_values view p
  pub fit : stands run flat is_node is_open p ≡ true
  pub all : whole ≡ true → is_whole run ≡ true

-- the site's child, where the views say what is below
pub data Kid (flat : FlatProgram) (is_node is_open : List ℕ → Bool) (free_values : SiteView → List Value) (view : List ℕ → NodeView) (p : List ℕ) (i : ℕ) (whole : Bool) : Type 0 where
  kid_node : Sub flat is_node is_open free_values view (p ++ i ∷ []) whole → Kid flat is_node is_open free_values view p i whole
  kid_open : is_open (p ++ i ∷ []) ≡ true → whole ≡ false → Kid flat is_node is_open free_values view p i whole

merge_back : (x a b g : Bool) → g ≡ a → (x && g) ≡ b → g ≡ (a || b)
merge_back x true b true e f = refl
merge_back x true b false e f = absurd (true≢false (sym e))
merge_back x false b true e f = absurd (true≢false e)
merge_back true false b false e f = f
merge_back false false b false e f = f

module _ (flat : FlatProgram) (is_node is_open : List ℕ → Bool) (free_values : SiteView → List Value) (view : List ℕ → NodeView) (apart : (p : List ℕ) → is_open p ≡ true → is_node p ≡ false)
    (closed : (p rest : List ℕ) → is_node (p ++ rest) ≡ true → is_node p ≡ true) where
  kid_in : (below : Below) (p : List ℕ) (ss more : List ℕ) (i : ℕ) (whole : Bool) → BelowSay below flat free_values view p ss → stand_below below flat is_node is_open p (ss ++ more) ≡ true
      → (whole ≡ true → are_whole below ≡ true) → has_number ss i ≡ true → Kid flat is_node is_open free_values view p i whole
  kid_in none p [] more i whole say fit all at = absurd (true≢false (sym at))
  kid_in none p (s ∷ ss) more i whole say fit all at = absurd say
  kid_in (inner run below) p [] more i whole say fit all at = absurd say
  kid_in (inner run below) p (s ∷ ss) more i whole say fit all at =
      let both = and_parts (stands run flat is_node is_open (p ++ s ∷ [])) (stand_below below flat is_node is_open p (ss ++ more)) fit in
      let here : Sub flat is_node is_open free_values view (p ++ s ∷ []) whole = record { run = run; say = say.0; fit = both.0; all = λ w. (and_parts (is_whole run) (are_whole below) (all w)).0 } in
      ⊎_elim (λ e. subst (λ (n : ℕ). Kid flat is_node is_open free_values view p n whole) (eqb-true s i e) (kid_node here))
      (λ e. kid_in below p ss more i whole say.1 both.1 (λ w. (and_parts (is_whole run) (are_whole below) (all w)).1) e)
      (or_cases (nat_eq s i) (has_number ss i) at)
  kid_in (free ends values below) p [] more i whole say fit all at = absurd say
  kid_in (free ends values below) p (s ∷ ss) more i whole say fit all at =
      let both = and_parts (is_open (p ++ s ∷ [])) (stand_below below flat is_node is_open p (ss ++ more)) fit in
      let none_whole : whole ≡ false = false_from_ne_true whole (λ w. absurd (true≢false (sym (all w)))) in
      ⊎_elim (λ e. subst (λ (n : ℕ). Kid flat is_node is_open free_values view p n whole) (eqb-true s i e) (kid_open both.0 none_whole))
      (λ e. kid_in below p ss more i whole say both.1 (λ w. absurd (true≢false (sym (all w)))) e)
      (or_cases (nat_eq s i) (has_number ss i) at)

  pub kid_of : (run : Run) (p : List ℕ) (i : ℕ) (whole : Bool) → AllSay run flat free_values view p → stands run flat is_node is_open p ≡ true → (whole ≡ true → is_whole run ≡ true)
      → ((view p).site i).on ≡ true → Kid flat is_node is_open free_values view p i whole
  kid_of (node track below) p i whole (passed, more, along, on, over, low, track_is, parted, frees) fit all at =
      let both = and_parts (is_node p) (stand_below below flat is_node is_open p (sites_passed (blocks_of (slice_get flat.procs track.proc)) track.path)) fit in
      kid_in below p passed more i whole low (subst (λ (ss : List ℕ). stand_below below flat is_node is_open p ss ≡ true) along both.1) all (sym (on i) ∙ at)

  pub sub : (rest : List ℕ) (p : List ℕ) (whole : Bool) → Sub flat is_node is_open free_values view p whole → is_node (p ++ rest) ≡ true → goes view p rest ≡ true → Sub flat is_node is_open free_values view (p ++ rest) whole
  sub [] p whole s at go = subst (λ (x : List ℕ). Sub flat is_node is_open free_values view x whole) (sym (append-nil p)) s
  sub (i ∷ rest) p whole s at go =
      let parts = and_parts (((view p).site i).on) (goes view (p ++ i ∷ []) rest) go in
      let at_next : is_node ((p ++ i ∷ []) ++ rest) ≡ true = subst (λ (x : List ℕ). is_node x ≡ true) (sym (append_assoc p (i ∷ []) rest)) at in
      by_kid (λ next. sub rest (p ++ i ∷ []) whole next at_next parts.1) at_next (kid_of s.run p i whole s.say s.fit s.all parts.0)
    where
      by_kid : (Sub flat is_node is_open free_values view (p ++ i ∷ []) whole → Sub flat is_node is_open free_values view ((p ++ i ∷ []) ++ rest) whole) → is_node ((p ++ i ∷ []) ++ rest) ≡ true
          → Kid flat is_node is_open free_values view p i whole → Sub flat is_node is_open free_values view (p ++ i ∷ rest) whole
      by_kid go_on at_next (kid_node next) = subst (λ (x : List ℕ). Sub flat is_node is_open free_values view x whole) (append_assoc p (i ∷ []) rest) (go_on next)
      by_kid go_on at_next (kid_open free_here not_all) = absurd (both_ways (is_node (p ++ i ∷ [])) (apart (p ++ i ∷ []) free_here) (closed (p ++ i ∷ []) rest at_next))

  reach_below : (below : Below) (p : List ℕ) (ss more : List ℕ) (i : ℕ) (rest : List ℕ) → BelowSay below flat free_values view p ss → stand_below below flat is_node is_open p (ss ++ more) ≡ true
      → is_node (p ++ i ∷ rest) ≡ true
      → ((run : Run) → AllSay run flat free_values view (p ++ i ∷ []) → stands run flat is_node is_open (p ++ i ∷ []) ≡ true → goes view (p ++ i ∷ []) rest ≡ goes_down run flat rest)
      → (has_number ss i && goes view (p ++ i ∷ []) rest) ≡ goes_below below flat (ss ++ more) i rest
  reach_below none p [] more i rest say fit at lower = refl
  reach_below none p (s ∷ ss) more i rest say fit at lower = absurd say
  reach_below (inner run below) p [] more i rest say fit at lower = absurd say
  reach_below (inner run below) p (s ∷ ss) more i rest say fit at lower =
      let both = and_parts (stands run flat is_node is_open (p ++ s ∷ [])) (stand_below below flat is_node is_open p (ss ++ more)) fit in
      by_site (nat_eq s i) refl both.0 (reach_below below p ss more i rest say.1 both.1 at lower)
    where
      by_site : (b : Bool) → nat_eq s i ≡ b → stands run flat is_node is_open (p ++ s ∷ []) ≡ true → (has_number ss i && goes view (p ++ i ∷ []) rest) ≡ goes_below below flat (ss ++ more) i rest
          → ((b || has_number ss i) && goes view (p ++ i ∷ []) rest) ≡ ((b && goes_down run flat rest) || goes_below below flat (ss ++ more) i rest)
      by_site true is fit later =
          let same : s ≡ i = eqb-true s i is in
          merge_back (has_number ss i) (goes_down run flat rest) (goes_below below flat (ss ++ more) i rest) (goes view (p ++ i ∷ []) rest)
          (lower run (subst (λ (n : ℕ). AllSay run flat free_values view (p ++ n ∷ [])) same say.0) (subst (λ (n : ℕ). stands run flat is_node is_open (p ++ n ∷ []) ≡ true) same fit)) later
      by_site false is fit later = later
  reach_below (free ends values below) p [] more i rest say fit at lower = absurd say
  reach_below (free ends values below) p (s ∷ ss) more i rest say fit at lower =
      let both = and_parts (is_open (p ++ s ∷ [])) (stand_below below flat is_node is_open p (ss ++ more)) fit in
      by_site (nat_eq s i) refl both.0 (reach_below below p ss more i rest say both.1 at lower)
    where
      by_site : (b : Bool) → nat_eq s i ≡ b → is_open (p ++ s ∷ []) ≡ true → (has_number ss i && goes view (p ++ i ∷ []) rest) ≡ goes_below below flat (ss ++ more) i rest
          → ((b || has_number ss i) && goes view (p ++ i ∷ []) rest) ≡ goes_below below flat (ss ++ more) i rest
      by_site true is free_here later =
          absurd (both_ways (is_node (p ++ i ∷ [])) (apart (p ++ i ∷ []) (subst (λ (n : ℕ). is_open (p ++ n ∷ []) ≡ true) (eqb-true s i is) free_here))
          (closed (p ++ i ∷ []) rest (subst (λ (x : List ℕ). is_node x ≡ true) (sym (append_assoc p (i ∷ []) rest)) at)))
      by_site false is free_here later = later

  pub reach_says : (rest : List ℕ) (run : Run) (p : List ℕ) → AllSay run flat free_values view p → stands run flat is_node is_open p ≡ true → is_node (p ++ rest) ≡ true → goes view p rest ≡ goes_down run flat rest
  reach_says [] (node track below) p say fit at = refl
  reach_says (i ∷ rest) (node track below) p (passed, more, along, on, over, low, track_is, parted, frees) fit at =
      let both = and_parts (is_node p) (stand_below below flat is_node is_open p (sites_passed (blocks_of (slice_get flat.procs track.proc)) track.path)) fit in
      let lower = reach_below below p passed more i rest low (subst (λ (ss : List ℕ). stand_below below flat is_node is_open p ss ≡ true) along both.1) at
      (λ run say fit. reach_says rest run (p ++ i ∷ []) say fit (subst (λ (x : List ℕ). is_node x ≡ true) (sym (append_assoc p (i ∷ []) rest)) at)) in
      ap (λ b. b && goes view (p ++ i ∷ []) rest) (on i) ∙ (lower ∙ ap (λ (ss : List ℕ). goes_below below flat ss i rest) (sym along))

-- ---- the run read off

module _ (flat : FlatProgram) (is_node is_open : List ℕ → Bool) (free_values : SiteView → List Value) (height : ℕ) (view : List ℕ → NodeView) (apart : (p : List ℕ) → is_open p ≡ true → is_node p ≡ false)
    (low : (p : List ℕ) → is_node p ≡ true → length p < height) where
  below_is : (sub : List ℕ → Run) (below : Below) (p : List ℕ) (ss more : List ℕ) → BelowSay below flat free_values view p ss → stand_below below flat is_node is_open p (ss ++ more) ≡ true
      → FreeSay below free_values (view p) ss
      → ((run : Run) (s : ℕ) → AllSay run flat free_values view (p ++ s ∷ []) → stands run flat is_node is_open (p ++ s ∷ []) ≡ true → sub (p ++ s ∷ []) ≡ run)
      → below_built sub is_node free_values (view p) p ss ≡ below
  below_is sub none p [] more say fit frees same = refl
  below_is sub none p (s ∷ ss) more say fit frees same = absurd say
  below_is sub (inner run below) p [] more say fit frees same = absurd say
  below_is sub (inner run below) p (s ∷ ss) more say fit frees same =
      let both = and_parts (stands run flat is_node is_open (p ++ s ∷ [])) (stand_below below flat is_node is_open p (ss ++ more)) fit in
      let rest = below_is sub below p ss more say.1 both.1 frees same in
      ap (λ b. if b then inner (sub (p ++ s ∷ [])) (below_built sub is_node free_values (view p) p ss) else free (not ((view p).site s).fails) (free_values ((view p).site s)) (below_built sub is_node free_values (view p) p ss))
      (fits_at run (p ++ s ∷ []) flat is_node is_open both.0)
      ∙ (ap (λ (b : Below). inner (sub (p ++ s ∷ [])) b) rest ∙ ap (λ (r : Run). inner r below) (same run s say.0 both.0))
  below_is sub (free ends values below) p [] more say fit frees same = absurd say
  below_is sub (free ends values below) p (s ∷ ss) more say fit frees same =
      let both = and_parts (is_open (p ++ s ∷ [])) (stand_below below flat is_node is_open p (ss ++ more)) fit in
      let rest = below_is sub below p ss more say both.1 frees.2 same in
      ap (λ b. if b then inner (sub (p ++ s ∷ [])) (below_built sub is_node free_values (view p) p ss) else free (not ((view p).site s).fails) (free_values ((view p).site s)) (below_built sub is_node free_values (view p) p ss))
      (apart (p ++ s ∷ []) both.0)
      ∙ (ap (λ (b : Below). free (not ((view p).site s).fails) (free_values ((view p).site s)) b) rest
      ∙ (ap (λ (e : Bool). free e (free_values ((view p).site s)) below) frees.0 ∙ ap (λ (vs : List Value). free ends vs below) frees.1))

  pub built_is : (deep : ℕ) (run : Run) (p : List ℕ) → AllSay run flat free_values view p → stands run flat is_node is_open p ≡ true → height ≤ length p + deep → built deep flat is_node free_values view p ≡ run
  built_is zero run p say fit high = absurd (not_low (length p) height (low p (fits_at run p flat is_node is_open fit)) high)
    where
      not_low : (a b : ℕ) → a < b → b ≤ a + 0 → ⊥
      not_low a b h k = omega arith
  built_is (suc deep) (node track below) p (passed, more, along, on, over, lower, track_is, parted, frees) fit high =
      let both = and_parts (is_node p) (stand_below below flat is_node is_open p (sites_passed (blocks_of (slice_get flat.procs track.proc)) track.path)) fit in
      let sites : on_sites (view p) (sites_passed (blocks_of (slice_get flat.procs (view p).track.proc)) (view p).track.path) ≡ passed =
      ap (λ (t : Track). on_sites (view p) (sites_passed (blocks_of (slice_get flat.procs t.proc)) t.path)) track_is ∙ (ap (on_sites (view p)) along ∙ on_passed (view p) passed more on parted) in
      let under = below_is (built deep flat is_node free_values view) below p passed more lower (subst (λ (ss : List ℕ). stand_below below flat is_node is_open p ss ≡ true) along both.1) frees
      (λ run s say fit. built_is deep run (p ++ s ∷ []) say fit (higher (length p) (length (p ++ s ∷ [])) (length-append p (s ∷ [])) high)) in
      ap (λ (ss : List ℕ). node (view p).track (below_built (built deep flat is_node free_values view) is_node free_values (view p) p ss)) sites
      ∙ (ap (node (view p).track) under ∙ ap (λ (t : Track). node t below) track_is)
    where
      higher : (a b : ℕ) → b ≡ a + 1 → height ≤ a + suc deep → height ≤ b + deep
      higher a b e h = omega arith
