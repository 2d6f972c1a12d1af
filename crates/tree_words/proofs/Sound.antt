-- Views that meet the question stand for a member: the run of a node is put together from the runs of its children.
use Rattle.std.proofs.Common.{◌≡◌, ℕ, zero, suc, ◌+◌, ◌<◌, ◌≤◌, Bool, true, false, not, ◌&&◌, ◌||◌, List, [], ◌∷◌, ◌++◌, map, length, refl, sym, ap, ◌∙◌, subst, append_assoc, append-nil, true≢false, arith, length-append}
use Rattle.std.specs.Prelude.{nat_eq, slice_get, Option, Some, if◌then◌else◌}
use Rattle.std.proofs.lemmas.Bool.{and_parts, and_from, or_left, or_right, both_ways, eqb-true, eq-eqb}
use Rattle.hy_val.specs.declared.value.Value.{Value}
use Rattle.flat_prog.specs.Once.{has_number}
use Rattle.flat_prog.specs.declared.proc.FlatProc.{FlatProc}
use Rattle.flat_prog.specs.Program.{FlatProgram, blocks_of}
use Rattle.call_tree.specs.declared.piece.Decision2.{Decision2}
use Rattle.flat_prog.specs.Local.{Track, State, Request, Result, Ended, Broken, Begins}
use Rattle.flat_prog.specs.Trees.{Run, Below, node, none, inner, free, track_of, is_whole, are_whole, Means, Answer}
use Rattle.flat_prog.specs.Changes.{Keeps}
use Rattle.flat_prog.specs.Sites.{sites_passed}
use Rattle.call_tree.specs.Questions.{stands, stand_below}
use Rattle.call_tree.specs.Pieces.{meets}
use Rattle.tree_words.specs.View.{SiteView, NodeView, over_in, result_at, call_at, HasRun}
use Rattle.tree_words.specs.Built.{on_sites, below_built, built, root_run}
use Rattle.call_tree.specs.Descent.{goes_down, goes_below}
use Rattle.tree_words.specs.Question.{goes, Tied, IsMember, Met, Starts, named}
use Rattle.tree_words.proofs.Meeting.{meets_alike, meets_same}

pub goes_snoc : (view : List ℕ → NodeView) (at p : List ℕ) (i : ℕ) → goes view at p ≡ true → ((view (at ++ p)).site i).on ≡ true → goes view at (p ++ i ∷ []) ≡ true
goes_snoc view at [] i go on = and_from (((view at).site i).on) true (subst (λ (x : List ℕ). ((view x).site i).on ≡ true) (append-nil at) on) refl
goes_snoc view at (s ∷ p) i go on =
    let parts = and_parts (((view at).site s).on) (goes view (at ++ s ∷ []) p) go in
    and_from (((view at).site s).on) (goes view (at ++ s ∷ []) (p ++ i ∷ [])) parts.0
    (goes_snoc view (at ++ s ∷ []) p i parts.1 (subst (λ (x : List ℕ). ((view x).site i).on ≡ true) (sym (append_assoc at (s ∷ []) p)) on))

on_more : (v : NodeView) (xs ys : List ℕ) → on_sites v (xs ++ ys) ≡ on_sites v xs ++ on_sites v ys
on_more v [] ys = refl
on_more v (x ∷ xs) ys = by_on (v.site x).on (on_more v xs ys)
  where
    by_on : (b : Bool) → on_sites v (xs ++ ys) ≡ on_sites v xs ++ on_sites v ys → (if b then x ∷ on_sites v (xs ++ ys) else on_sites v (xs ++ ys)) ≡ (if b then x ∷ on_sites v xs else on_sites v xs) ++ on_sites v ys
    by_on true h = ap (λ (zs : List ℕ). x ∷ zs) h
    by_on false h = h

all_on : (v : NodeView) (xs : List ℕ) → ((i : ℕ) → has_number xs i ≡ true → (v.site i).on ≡ true) → on_sites v xs ≡ xs
all_on v [] h = refl
all_on v (x ∷ xs) h =
    ap (λ b. if b then x ∷ on_sites v xs else on_sites v xs) (h x (or_left (nat_eq x x) (has_number xs x) (eq-eqb x x refl)))
    ∙ ap (λ (zs : List ℕ). x ∷ zs) (all_on v xs (λ i at. h i (or_right (nat_eq x i) (has_number xs i) at)))

all_off : (v : NodeView) (xs : List ℕ) → ((i : ℕ) → has_number xs i ≡ true → (v.site i).on ≡ false) → on_sites v xs ≡ []
all_off v [] h = refl
all_off v (x ∷ xs) h =
    ap (λ b. if b then x ∷ on_sites v xs else on_sites v xs) (h x (or_left (nat_eq x x) (has_number xs x) (eq-eqb x x refl)))
    ∙ all_off v xs (λ i at. h i (or_right (nat_eq x i) (has_number xs i) at))

-- the sites passed are those of the path whose bits are true
pub on_passed : (v : NodeView) (passed more : List ℕ) → ((i : ℕ) → (v.site i).on ≡ has_number passed i) → ((i : ℕ) → has_number more i ≡ true → has_number passed i ≡ false) → on_sites v (passed ++ more) ≡ passed
on_passed v passed more on apart =
    on_more v passed more
    ∙ (ap (λ (zs : List ℕ). zs ++ on_sites v more) (all_on v passed (λ i at. on i ∙ at))
    ∙ (ap (λ (zs : List ℕ). passed ++ zs) (all_off v more (λ i at. on i ∙ apart i at)) ∙ append-nil passed))

-- a run of the node's callee with this result, which has the nodes that the views say
record Found (flat : FlatProgram) (may : Request → Bool → List Value → Result → Type 0) (is_node is_open : List ℕ → Bool) (blocked : Bool) (free_values : SiteView → List Value) (consts : List Value) (view : List ℕ → NodeView) (m : List ℕ) (call : Request) (result : Result) (r : Run) : Type 0 where
  run : Run
  is : run ≡ r
  q : FlatProc
  begin : State
  begins : Begins flat (track_of run) call q begin
  means : Means run flat may consts q begin result
  fit : stands run flat is_node is_open m ≡ true
  reached : (rest : List ℕ) → is_node (m ++ rest) ≡ true → goes_down run flat rest ≡ goes view m rest
  whole : blocked ≡ true → is_whole run ≡ true

-- how the callee at a site of the node is over
data Child (flat : FlatProgram) (may : Request → Bool → List Value → Result → Type 0) (is_node is_open : List ℕ → Bool) (blocked : Bool) (free_values : SiteView → List Value) (consts : List Value) (view : List ℕ → NodeView) (m : List ℕ) (i : ℕ) (result : Result) (r : Run) : Type 0 where
  at_node : is_node (m ++ i ∷ []) ≡ true → Found flat may is_node is_open blocked free_values consts view (m ++ i ∷ []) (call_at (view m) i) result r → Child flat may is_node is_open blocked free_values consts view m i result r
  at_open : is_node (m ++ i ∷ []) ≡ false → is_open (m ++ i ∷ []) ≡ true → blocked ≡ false → may (call_at (view m) i) (not ((view m).site i).fails) (free_values ((view m).site i)) result → Child flat may is_node is_open blocked free_values consts view m i result r

-- what is below the node, where these sites are passed
record Under (flat : FlatProgram) (may : Request → Bool → List Value → Result → Type 0) (is_node is_open : List ℕ → Bool) (blocked : Bool) (free_values : SiteView → List Value) (consts : List Value) (view : List ℕ → NodeView) (m : List ℕ) (broken : ℕ → ℕ × ℕ) (ss : List ℕ) (b : Below) : Type 0 where
  below : Below
  is : below ≡ b
  answers : Answer below flat may consts (map (call_at (view m)) ss) (map (result_at broken (view m)) ss)
  fit : (more : List ℕ) → stand_below below flat is_node is_open m (ss ++ more) ≡ true
  reached : (more : List ℕ) (i : ℕ) (rest : List ℕ) → is_node (m ++ i ∷ rest) ≡ true → goes_below below flat (ss ++ more) i rest ≡ (has_number ss i && goes view (m ++ i ∷ []) rest)
  whole : blocked ≡ true → are_whole below ≡ true

merge : (x a b g : Bool) → a ≡ g → b ≡ (x && g) → (a || b) ≡ g
merge x true b true e f = refl
merge x true b false e f = absurd (true≢false e)
merge x false b true e f = absurd (true≢false (sym e))
merge true false b false e f = f
merge false false b false e f = f

module _ (flat : FlatProgram) (may : Request → Bool → List Value → Result → Type 0) (is_node is_open : List ℕ → Bool) (blocked : Bool) (free_values : SiteView → List Value) (consts : List Value) (view : List ℕ → NodeView) where
  reached_inner : (m : List ℕ) (s i : ℕ) (ss more rest : List ℕ) (run : Run) (below : Below) (b : Bool) → nat_eq s i ≡ b
      → ((rest : List ℕ) → is_node ((m ++ s ∷ []) ++ rest) ≡ true → goes_down run flat rest ≡ goes view (m ++ s ∷ []) rest)
      → is_node (m ++ i ∷ rest) ≡ true
      → goes_below below flat (ss ++ more) i rest ≡ (has_number ss i && goes view (m ++ i ∷ []) rest)
      → ((b && goes_down run flat rest) || goes_below below flat (ss ++ more) i rest) ≡ ((b || has_number ss i) && goes view (m ++ i ∷ []) rest)
  reached_inner m s i ss more rest run below true is here node_is later =
      let same : s ≡ i = eqb-true s i is in
      let at : is_node ((m ++ s ∷ []) ++ rest) ≡ true = subst (λ (x : List ℕ). is_node x ≡ true) (sym (append_assoc m (s ∷ []) rest)) (subst (λ (n : ℕ). is_node (m ++ n ∷ rest) ≡ true) (sym same) node_is) in
      merge (has_number ss i) (goes_down run flat rest) (goes_below below flat (ss ++ more) i rest) (goes view (m ++ i ∷ []) rest)
      (here rest at ∙ ap (λ (n : ℕ). goes view (m ++ n ∷ []) rest) same) later
  reached_inner m s i ss more rest run below false is here node_is later = later

  reached_free : (m : List ℕ) (s i : ℕ) (ss more rest : List ℕ) (below : Below) (b : Bool) → nat_eq s i ≡ b
      → ((p rest : List ℕ) → is_node (p ++ rest) ≡ true → is_node p ≡ true) → is_node (m ++ s ∷ []) ≡ false
      → is_node (m ++ i ∷ rest) ≡ true
      → goes_below below flat (ss ++ more) i rest ≡ (has_number ss i && goes view (m ++ i ∷ []) rest)
      → goes_below below flat (ss ++ more) i rest ≡ ((b || has_number ss i) && goes view (m ++ i ∷ []) rest)
  reached_free m s i ss more rest below true is closed out node_is later =
      let same : s ≡ i = eqb-true s i is in
      absurd (both_ways (is_node (m ++ s ∷ [])) out
      (closed (m ++ s ∷ []) rest (subst (λ (x : List ℕ). is_node x ≡ true) (sym (append_assoc m (s ∷ []) rest)) (subst (λ (n : ℕ). is_node (m ++ n ∷ rest) ≡ true) (sym same) node_is))))
  reached_free m s i ss more rest below false is closed out node_is later = later

  under_of : (m : List ℕ) (broken : ℕ → ℕ × ℕ) (sub : List ℕ → Run) → ((p rest : List ℕ) → is_node (p ++ rest) ≡ true → is_node p ≡ true) → (ss : List ℕ)
      → ((i : ℕ) → has_number ss i ≡ true → Child flat may is_node is_open blocked free_values consts view m i (result_at broken (view m) i) (sub (m ++ i ∷ [])))
      → Under flat may is_node is_open blocked free_values consts view m broken ss (below_built sub is_node free_values (view m) m ss)
  under_of m broken sub closed [] child = record { below = none; is = refl; answers = tt; fit = λ more. refl; reached = λ more i rest at. refl; whole = λ b. refl }
  under_of m broken sub closed (s ∷ ss) child =
      let rest = under_of m broken sub closed ss (λ i at. child i (or_right (nat_eq s i) (has_number ss i) at)) in
      more_of (child s (or_left (nat_eq s s) (has_number ss s) (eq-eqb s s refl))) rest
    where
      more_of : Child flat may is_node is_open blocked free_values consts view m s (result_at broken (view m) s) (sub (m ++ s ∷ [])) → Under flat may is_node is_open blocked free_values consts view m broken ss (below_built sub is_node free_values (view m) m ss)
          → Under flat may is_node is_open blocked free_values consts view m broken (s ∷ ss) (below_built sub is_node free_values (view m) m (s ∷ ss))
      more_of (at_node here found) u = record {
        below = inner found.run u.below;
        is = ap (λ (r : Run). inner r u.below) found.is ∙ (ap (λ (b : Below). inner (sub (m ++ s ∷ [])) b) u.is
            ∙ ap (λ b. if b then inner (sub (m ++ s ∷ [])) (below_built sub is_node free_values (view m) m ss) else free (not ((view m).site s).fails) (free_values ((view m).site s)) (below_built sub is_node free_values (view m) m ss)) (sym here));
        answers = ((found.q, found.begin, found.begins, found.means), u.answers);
        fit = λ more. and_from (stands found.run flat is_node is_open (m ++ s ∷ [])) (stand_below u.below flat is_node is_open m (ss ++ more)) found.fit (u.fit more);
        reached = λ more i rest at. reached_inner m s i ss more rest found.run u.below (nat_eq s i) refl found.reached at (u.reached more i rest at);
        whole = λ b. and_from (is_whole found.run) (are_whole u.below) (found.whole b) (u.whole b);
      }
      more_of (at_open out here unblocked may_be) u = record {
        below = free (not ((view m).site s).fails) (free_values ((view m).site s)) u.below;
        is = ap (λ (b : Below). free (not ((view m).site s).fails) (free_values ((view m).site s)) b) u.is
            ∙ ap (λ b. if b then inner (sub (m ++ s ∷ [])) (below_built sub is_node free_values (view m) m ss) else free (not ((view m).site s).fails) (free_values ((view m).site s)) (below_built sub is_node free_values (view m) m ss)) (sym out);
        answers = (may_be, u.answers);
        fit = λ more. and_from (is_open (m ++ s ∷ [])) (stand_below u.below flat is_node is_open m (ss ++ more)) here (u.fit more);
        reached = λ more i rest at. reached_free m s i ss more rest u.below (nat_eq s i) refl closed out at (u.reached more i rest at);
        whole = λ b. absurd (both_ways blocked unblocked b);
      }

  -- a node's run, from a local run and what is below it
  found_of : (deep : ℕ) (m : List ℕ) (call : Request) (broken : ℕ → ℕ × ℕ) (result : Result) → is_node m ≡ true
      → (h : HasRun flat consts call (view m) broken result)
      → Under flat may is_node is_open blocked free_values consts view m broken h.says.passed (below_built (built deep flat is_node free_values view) is_node free_values (view m) m h.says.passed)
      → Found flat may is_node is_open blocked free_values consts view m call result (built (suc deep) flat is_node free_values view m)
  found_of deep m call broken result at h u =
      let answers : Answer u.below flat may consts h.calls h.results =
      subst (λ (rs : List Result). Answer u.below flat may consts h.calls rs) (sym h.says.results_are)
      (subst (λ (cs : List Request). Answer u.below flat may consts cs (map (result_at broken (view m)) h.says.passed)) (sym h.says.calls_are) u.answers) in
      record {
        run = node (view m).track u.below;
        is = ap (node (view m).track) (u.is ∙ ap (below_built (built deep flat is_node free_values view) is_node free_values (view m) m)
            (sym (ap (on_sites (view m)) sites ∙ on_passed (view m) h.says.passed h.says.more h.says.sites_are h.says.apart)));
        q = h.q;
        begin = h.begin;
        begins = h.begins;
        means = (h.results, h.calls, h.run, answers);
        fit = and_from (is_node m) (stand_below u.below flat is_node is_open m (sites_passed (blocks_of (slice_get flat.procs (view m).track.proc)) (view m).track.path)) at
            (subst (λ (ss : List ℕ). stand_below u.below flat is_node is_open m ss ≡ true) (sym sites) (u.fit h.says.more));
        reached = reach;
        whole = u.whole;
      }
    where
      sites : sites_passed (blocks_of (slice_get flat.procs (view m).track.proc)) (view m).track.path ≡ h.says.passed ++ h.says.more
      sites = ap (λ (o : Option FlatProc). sites_passed (blocks_of o) (view m).track.path) h.begins.proc ∙ h.says.along

      reach : (rest : List ℕ) → is_node (m ++ rest) ≡ true → goes_down (node (view m).track u.below) flat rest ≡ goes view m rest
      reach [] is = refl
      reach (i ∷ rest) is =
          ap (λ (ss : List ℕ). goes_below u.below flat ss i rest) (ap (λ (o : Option FlatProc). sites_passed (blocks_of o) (view m).track.path) h.begins.proc ∙ h.says.along)
          ∙ (u.reached h.says.more i rest is ∙ ap (λ b. b && goes view (m ++ i ∷ []) rest) (sym (h.says.sites_are i)))

-- what is known of a node that is reached
record Claim (flat : FlatProgram) (may : Request → Bool → List Value → Result → Type 0) (is_node is_open : List ℕ → Bool) (blocked : Bool) (free_values : SiteView → List Value) (consts : List Value) (view : List ℕ → NodeView) (m : List ℕ) (call : Request) (r : Run) : Type 0 where
  broken : ℕ × ℕ
  ends : (view m).ends ≡ true → Found flat may is_node is_open blocked free_values consts view m call (Ended (view m).outs (view m).globals) r
  fails : (view m).fails ≡ true → Found flat may is_node is_open blocked free_values consts view m call (Broken (broken.0) (broken.1)) r

-- what a site's callee fails with, where it does, and how it is over
record Kid (flat : FlatProgram) (may : Request → Bool → List Value → Result → Type 0) (is_node is_open : List ℕ → Bool) (blocked : Bool) (free_values : SiteView → List Value) (consts : List Value) (view : List ℕ → NodeView) (m : List ℕ) (i : ℕ) (r : Run) : Type 0 where
  broken : ℕ × ℕ
  over : ((view m).site i).on ≡ true → Child flat may is_node is_open blocked free_values consts view m i (over_in ((view m).site i).fails broken ((view m).site i).outs ((view m).site i).globals) r

module _ (flat : FlatProgram) (entry : ℕ) (may : Request → Bool → List Value → Result → Type 0) (is_node is_open : List ℕ → Bool) (blocked : Bool) (free_values : SiteView → List Value) (height : ℕ)
    (consts : List Value) (call_of : List ℕ → Request) (view : List ℕ → NodeView) (met : Met flat entry may is_node is_open blocked free_values height consts call_of view) where
  kid_at : (m : List ℕ) (i : ℕ) → is_node (m ++ i ∷ []) ≡ true → Tied flat ((view m).site i) (view (m ++ i ∷ []))
      → (r : Run) → Claim flat may is_node is_open blocked free_values consts view (m ++ i ∷ []) (call_of (m ++ i ∷ [])) r → Kid flat may is_node is_open blocked free_values consts view m i r
  kid_at m i at tied r claim = record { broken = claim.broken; over = λ on. at_node at (by_fails ((view m).site i).fails refl) }
    where
      call_is : call_of (m ++ i ∷ []) ≡ call_at (view m) i
      call_is = met.calls m i at

      keeps_kid : ((view m).site i).fails ≡ false → Keeps flat ((view m).site i).call (Ended (view (m ++ i ∷ [])).outs (view (m ++ i ∷ [])).globals)
      keeps_kid is =
          let f = claim.ends (tied.ends is) in
          subst (λ (c : Request). Keeps flat c (Ended (view (m ++ i ∷ [])).outs (view (m ++ i ∷ [])).globals)) call_is
          (met.keeps f.run (call_of (m ++ i ∷ [])) f.q f.begin (Ended (view (m ++ i ∷ [])).outs (view (m ++ i ∷ [])).globals) f.begins f.means)

      by_fails : (b : Bool) → ((view m).site i).fails ≡ b → Found flat may is_node is_open blocked free_values consts view (m ++ i ∷ []) (call_at (view m) i) (over_in b claim.broken ((view m).site i).outs ((view m).site i).globals) r
      by_fails true is = subst (λ (c : Request). Found flat may is_node is_open blocked free_values consts view (m ++ i ∷ []) c (Broken (claim.broken.0) (claim.broken.1)) r) call_is (claim.fails (tied.fails is))
      by_fails false is =
          subst (λ (c : Request). Found flat may is_node is_open blocked free_values consts view (m ++ i ∷ []) c (Ended ((view m).site i).outs ((view m).site i).globals) r) call_is
          (subst (λ (gs : List Value). Found flat may is_node is_open blocked free_values consts view (m ++ i ∷ []) (call_of (m ++ i ∷ [])) (Ended ((view m).site i).outs gs) r) (tied.globals is (keeps_kid is))
          (subst (λ (os : List Value). Found flat may is_node is_open blocked free_values consts view (m ++ i ∷ []) (call_of (m ++ i ∷ [])) (Ended os (view (m ++ i ∷ [])).globals) r) (tied.outs is)
          (claim.ends (tied.ends is))))

  kid : (m : List ℕ) (sub : List ℕ → Run) → is_node m ≡ true → goes view [] m ≡ true
      → ((i : ℕ) → is_node (m ++ i ∷ []) ≡ true → goes view [] (m ++ i ∷ []) ≡ true → Claim flat may is_node is_open blocked free_values consts view (m ++ i ∷ []) (call_of (m ++ i ∷ [])) (sub (m ++ i ∷ [])))
      → (i : ℕ) → Kid flat may is_node is_open blocked free_values consts view m i (sub (m ++ i ∷ []))
  kid m sub at go claims i = by_on (((view m).site i).on) refl (is_node (m ++ i ∷ [])) refl
    where
      by_on : (b : Bool) → ((view m).site i).on ≡ b → (c : Bool) → is_node (m ++ i ∷ []) ≡ c → Kid flat may is_node is_open blocked free_values consts view m i (sub (m ++ i ∷ []))
      by_on false off c is = record { broken = (0, 0); over = λ on. absurd (both_ways (((view m).site i).on) off on) }
      by_on true on true is = kid_at m i is (met.tied m i is go on) (sub (m ++ i ∷ [])) (claims i is (goes_snoc view [] m i go on))
      by_on true on false is =
          let o = met.opens m i at go on is in
          record { broken = (0, 0); over = λ at. at_open is o.0 o.1 (o.2 (0, 0)) }

  claim_with : (deep : ℕ) (m : List ℕ) → is_node m ≡ true → (kids : (i : ℕ) → Kid flat may is_node is_open blocked free_values consts view m i (built deep flat is_node free_values view (m ++ i ∷ [])))
      → Claim flat may is_node is_open blocked free_values consts view m (call_of m) (built (suc deep) flat is_node free_values view m)
  claim_with deep m at kids = by_fails (view m).fails refl
    where
      broken : ℕ → ℕ × ℕ
      broken i = (kids i).broken

      whole : (result : Result) (h : HasRun flat consts (call_of m) (view m) broken result) → Found flat may is_node is_open blocked free_values consts view m (call_of m) result (built (suc deep) flat is_node free_values view m)
      whole result h =
          found_of flat may is_node is_open blocked free_values consts view deep m (call_of m) broken result at h
          (under_of flat may is_node is_open blocked free_values consts view m broken (built deep flat is_node free_values view) met.closed h.says.passed (λ i is. (kids i).over (h.says.sites_are i ∙ is)))

      ended : (view m).ends ≡ true → Found flat may is_node is_open blocked free_values consts view m (call_of m) (Ended (view m).outs (view m).globals) (built (suc deep) flat is_node free_values view m)
      ended e = whole (Ended (view m).outs (view m).globals) ((met.sound m at).ends e broken)

      by_fails : (b : Bool) → (view m).fails ≡ b → Claim flat may is_node is_open blocked free_values consts view m (call_of m) (built (suc deep) flat is_node free_values view m)
      by_fails true is =
          let f = (met.sound m at).fails is broken in
          record { broken = (f.0, f.1); ends = ended; fails = λ e. whole (Broken f.0 f.1) f.2 }
      by_fails false is = record { broken = (0, 0); ends = ended; fails = λ e. absurd (both_ways (view m).fails is e) }

  claim : (fuel : ℕ) (m : List ℕ) → is_node m ≡ true → goes view [] m ≡ true → height ≤ length m + fuel → Claim flat may is_node is_open blocked free_values consts view m (call_of m) (built fuel flat is_node free_values view m)
  claim zero m at go high = absurd (not_low (length m) height (met.low m at) high)
    where
      not_low : (a b : ℕ) → a < b → b ≤ a + 0 → ⊥
      not_low a b h k = omega arith
  claim (suc fuel) m at go high =
      claim_with fuel m at (kid m (built fuel flat is_node free_values view) at go (λ i is further. claim fuel (m ++ i ∷ []) is further (higher (length m) (length (m ++ i ∷ [])) (length-append m (i ∷ [])) high)))
    where
      higher : (a b : ℕ) → b ≡ a + 1 → height ≤ a + suc fuel → height ≤ b + fuel
      higher a b e h = omega arith

root_member : (flat : FlatProgram) (entry : ℕ) (may : Request → Bool → List Value → Result → Type 0) (is_node is_open : List ℕ → Bool) (piece : List (List ℕ × Decision2))
    (consts : List Value) (call : Request) (run : Run) (q : FlatProc) (begin : State) (proc number : ℕ)
    → Starts flat entry consts call → Begins flat (track_of run) call q begin → Means run flat may consts q begin (Broken proc number)
    → stands run flat is_node is_open [] ≡ true → meets (goes_down run flat) piece ≡ true → (blocked : Bool) → (blocked ≡ true → is_whole run ≡ true)
    → IsMember flat entry may is_node is_open piece (root_run consts call run) × (blocked ≡ true → is_whole (root_run consts call run) ≡ true)
root_member flat entry may is_node is_open piece consts call (node track below) q begin proc number starts begins (results, calls, local, answers) fit met blocked whole =
    let fresh : Track = record { proc = track.proc; path = track.path; places = track.places; values = consts ++ (call.globals ++ (call.args ++ track.values)) } in
    let at_entry : track.proc ≡ entry = begins.same ∙ starts.proc in
    let there : slice_get flat.procs entry ≡ Some q = subst (λ (n : ℕ). slice_get flat.procs n ≡ Some q) at_entry begins.proc in (
      record {
        proc = proc;
        number = number;
        fails = record {
          proc = q;
          consts = consts;
          globals = call.globals;
          args = call.args;
          rest = track.values;
          begin = begin;
          same = at_entry;
          proc_is = there;
          values = refl;
          consts_fit = starts.consts_fit;
          globals_fit = begins.globals;
          args_fit = begins.args;
          allowed = starts.allowed;
          begin_is = begins.begin_is;
          means = (results, calls, local, answers);
        };
        places = fit;
        meets_piece = meets_alike (goes_down (node fresh below) flat) (goes_down (node track below) flat) same piece met;
      },
      whole,
    )
  where
    same : (p : List ℕ) → goes_down (node (record { proc = track.proc; path = track.path; places = track.places; values = consts ++ (call.globals ++ (call.args ++ track.values)) }) below) flat p ≡ goes_down (node track below) flat p
    same [] = refl
    same (i ∷ rest) = refl

pub member : (flat : FlatProgram) (entry : ℕ) (may : Request → Bool → List Value → Result → Type 0) (is_node is_open : List ℕ → Bool) (blocked : Bool) (free_values : SiteView → List Value) (height : ℕ) (piece : List (List ℕ × Decision2))
    (consts : List Value) (call_of : List ℕ → Request) (view : List ℕ → NodeView)
    → Met flat entry may is_node is_open blocked free_values height consts call_of view → Starts flat entry consts (call_of []) → (view []).fails ≡ true
    → named is_node piece ≡ true → meets (goes view []) piece ≡ true
    → IsMember flat entry may is_node is_open piece (root_run consts (call_of []) (built height flat is_node free_values view []))
    × (blocked ≡ true → is_whole (root_run consts (call_of []) (built height flat is_node free_values view [])) ≡ true)
member flat entry may is_node is_open blocked free_values height piece consts call_of view met starts fails names meet =
    let c = claim flat entry may is_node is_open blocked free_values height consts call_of view met height [] met.root refl (omega arith) in
    let f = c.fails fails in
    subst (λ (r : Run). IsMember flat entry may is_node is_open piece (root_run consts (call_of []) r) × (blocked ≡ true → is_whole (root_run consts (call_of []) r) ≡ true)) f.is
    (root_member flat entry may is_node is_open piece consts (call_of []) f.run f.q f.begin (c.broken.0) (c.broken.1) starts f.begins f.means f.fit
    (meets_same is_node (goes_down f.run flat) (goes view []) f.reached piece names meet) blocked f.whole)
