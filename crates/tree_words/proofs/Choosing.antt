-- A run has choices of its nodes and of what comes back at open sites, under which the views say it, however they are put together.
use Rattle.std.proofs.Common.{◌≡◌, ℕ, Bool, true, false, not, ◌||◌, List, [], ◌∷◌, ◌++◌, map, refl, sym, ap, ◌∙◌, subst, append_assoc, append-nil}
use Rattle.std.specs.Prelude.{nat_eq, slice_get, Option, Some, cond}
use Rattle.std.proofs.lemmas.Bool.{and_parts, or_left, or_right, both_ways, not-true, eqb-true, eq-eqb, false_from_ne_true}
use Rattle.hy_val.specs.declared.value.Value.{Value}
use Rattle.flat_prog.specs.declared.proc.FlatProc.{FlatProc}
use Rattle.flat_prog.specs.Program.{FlatProgram, blocks_of}
use Rattle.flat_prog.specs.Local.{Track, State, Request, Result, Ended, Broken, Begins}
use Rattle.flat_prog.specs.Trees.{Run, Below, node, none, inner, free, track_of, Means, Answer}
use Rattle.flat_prog.specs.Sites.{sites_passed}
use Rattle.call_tree.specs.Questions.{stands, stand_below}
use Rattle.flat_prog.specs.Changes.{AllKeep}
use Rattle.tree_words.specs.View.{SiteView, NodeView}
use Rattle.tree_words.specs.Compose.{Returned, Viewer, RightAt, Right, Goes, Bits, Plan, SitesAre, FreeSay, ret_at, ret_of, Composed, AllSay, BelowSay, Parts}
use Rattle.flat_prog.specs.Once.{has_number, numbers_differ}

-- choices for a run at a path and for what is below it, by the sites from there
pub record Chosen (flat : FlatProgram) (is_node : List ℕ → Bool) (free_values : SiteView → List Value) (viewer : List ℕ → Viewer) (OwnFit : List ℕ → (ℕ → Value) → Type 0) (FreeFit : List ℕ → ℕ → Returned → Type 0) (root : Request)
    (run : Run) (p : List ℕ) (call : Request) (result : Result) : Type 0 where
  pub own : List ℕ → ℕ → Value
  pub chosen : List ℕ → ℕ → Returned
  pub own_fit : (rest : List ℕ) → OwnFit (p ++ rest) (own rest)
  pub chosen_fit : (rest : List ℕ) (i : ℕ) → FreeFit (p ++ rest) i (chosen rest i)
  pub says : (o : List ℕ → ℕ → Value) (f : List ℕ → ℕ → Returned) (call_of : List ℕ → Request) (view : List ℕ → NodeView) → Composed is_node viewer FreeFit root o f call_of view
      → ((rest : List ℕ) → o (p ++ rest) ≡ own rest) → ((rest : List ℕ) → f (p ++ rest) ≡ chosen rest) → call_of p ≡ call
      → AllSay run flat free_values view p × Bits (view p) result

record ChosenBelow (flat : FlatProgram) (is_node : List ℕ → Bool) (free_values : SiteView → List Value) (viewer : List ℕ → Viewer) (OwnFit : List ℕ → (ℕ → Value) → Type 0) (FreeFit : List ℕ → ℕ → Returned → Type 0) (root : Request)
    (below : Below) (p : List ℕ) (ss : List ℕ) (calls : List Request) (results : List Result) : Type 0 where
  own : ℕ → List ℕ → ℕ → Value
  chosen : ℕ → List ℕ → ℕ → Returned
  here : ℕ → Returned
  own_fit : (i : ℕ) (rest : List ℕ) → OwnFit (p ++ i ∷ rest) (own i rest)
  chosen_fit : (i : ℕ) (rest : List ℕ) (j : ℕ) → FreeFit (p ++ i ∷ rest) j (chosen i rest j)
  here_fit : (i : ℕ) → FreeFit p i (here i)
  says : (o : List ℕ → ℕ → Value) (f : List ℕ → ℕ → Returned) (call_of : List ℕ → Request) (view : List ℕ → NodeView) → Composed is_node viewer FreeFit root o f call_of view
      → ((i : ℕ) (rest : List ℕ) → has_number ss i ≡ true → o (p ++ i ∷ rest) ≡ own i rest) → ((i : ℕ) (rest : List ℕ) → has_number ss i ≡ true → f (p ++ i ∷ rest) ≡ chosen i rest)
      → ((i : ℕ) → has_number ss i ≡ true → f p i ≡ here i)
      → Goes (ret_of is_node view f p) (view p) ss calls results
      → Right (ret_of is_node view f p) ss results × BelowSay below flat free_values view p ss

abbrev by_first : {A : Type 0} → A → (ℕ → List ℕ → A) → List ℕ → A
by_first here below [] = here
by_first here below (i ∷ rest) = below i rest

abbrev returned_of : Returned → Result → Returned
returned_of d (Ended outs globals) = record { fails = false; outs = outs; globals = globals }
returned_of d (Broken proc number) = record d { fails = true }

returned_right : (d : Returned) (r : Result) → RightAt (returned_of d r) r
returned_right d (Ended outs globals) = (refl, refl, refl)
returned_right d (Broken proc number) = refl

ret_right : (v : NodeView) (r : Result) → Bits v r → RightAt (record { fails = v.fails; outs = v.outs; globals = v.globals }) r
ret_right v (Ended outs globals) h = (h.1, h.2, h.3)
ret_right v (Broken proc number) h = h.0

over_either : (v : NodeView) (r : Result) → Bits v r → (v.ends || v.fails) ≡ true
over_either v (Ended outs globals) h = or_left v.ends v.fails h.0
over_either v (Broken proc number) h = or_right v.ends v.fails h.0

other_site : (i s : ℕ) (ss : List ℕ) → has_number ss i ≡ true → has_number ss s ≡ false → nat_eq s i ≡ false
other_site i s ss at out = false_from_ne_true (nat_eq s i) (λ e. both_ways (has_number ss s) out (subst (λ (n : ℕ). has_number ss n ≡ true) (sym (eqb-true s i e)) at))

head_same : (a b : ℕ) (xs ys : List ℕ) → a ∷ xs ≡ b ∷ ys → a ≡ b
head_same a b xs ys h = cc

tail_same : (a b : ℕ) (xs ys : List ℕ) → a ∷ xs ≡ b ∷ ys → xs ≡ ys
tail_same a b xs ys h = cc

pub fits_at : (run : Run) (p : List ℕ) (flat : FlatProgram) (is_node is_open : List ℕ → Bool) → stands run flat is_node is_open p ≡ true → is_node p ≡ true
fits_at (node track below) p flat is_node is_open h = (and_parts (is_node p) (stand_below below flat is_node is_open p (sites_passed (blocks_of (slice_get flat.procs track.proc)) track.path)) h).0

module _ (flat : FlatProgram) (may : Request → Bool → List Value → Result → Type 0) (is_node is_open : List ℕ → Bool) (free_values : SiteView → List Value) (consts : List Value) (viewer : List ℕ → Viewer)
    (OwnFit : List ℕ → (ℕ → Value) → Type 0) (FreeFit : List ℕ → ℕ → Returned → Type 0) (callee : List ℕ → ℕ → ℕ) (proc : List ℕ → ℕ) (entry : ℕ)
    (parts : Parts flat may is_node is_open free_values consts viewer OwnFit FreeFit callee proc entry) (root : Request) where
  free_say : (below : Below) (ss : List ℕ) (calls : List Request) (results : List Result) (v : NodeView) → Answer below flat may consts calls results → SitesAre v ss calls results → FreeSay below free_values v ss
  free_say none ss calls results v h say = tt
  free_say (inner run below) [] calls results v h say = tt
  free_say (inner run below) (s ∷ ss) [] results v h say = absurd h
  free_say (inner run below) (s ∷ ss) (c ∷ cs) [] v h say = absurd h
  free_say (inner run below) (s ∷ ss) (c ∷ cs) (r ∷ rs) v h say = free_say below ss cs rs v h.1 say.2
  free_say (free ends values below) [] calls results v h say = tt
  free_say (free ends values below) (s ∷ ss) [] results v h say = absurd h
  free_say (free ends values below) (s ∷ ss) (c ∷ cs) [] v h say = absurd h
  free_say (free ends values below) (s ∷ ss) (c ∷ cs) (r ∷ rs) v h say =
      let m = parts.may_is (v.site s) ends values r (subst (λ (x : Request). may x ends values r) (sym say.0) h.0) say.1 in
      (m.0, m.1, free_say below ss cs rs v h.1 say.2)

  at_node : (track : Track) (below : Below) (p : List ℕ) (call : Request) (q : FlatProc) (results : List Result) (calls : List Request) (result : Result) → is_node p ≡ true
      → slice_get flat.procs track.proc ≡ Some q
      → (plan : Plan (viewer p) (OwnFit p) (FreeFit p) (callee p) q call track results calls result)
      → ChosenBelow flat is_node free_values viewer OwnFit FreeFit root below p plan.passed calls results → Answer below flat may consts calls results
      → Chosen flat is_node free_values viewer OwnFit FreeFit root (node track below) p call result
  at_node track below p call q results calls result at proc plan lower answers = record {
    own = by_first plan.own lower.own;
    chosen = by_first lower.here lower.chosen;
    own_fit = own_fit;
    chosen_fit = chosen_fit;
    says = says;
  }
    where
      own_fit : (rest : List ℕ) → OwnFit (p ++ rest) (by_first plan.own lower.own rest)
      own_fit [] = subst (λ (x : List ℕ). OwnFit x plan.own) (sym (append-nil p)) plan.fit
      own_fit (i ∷ rest) = lower.own_fit i rest

      chosen_fit : (rest : List ℕ) (i : ℕ) → FreeFit (p ++ rest) i (by_first lower.here lower.chosen rest i)
      chosen_fit [] i = subst (λ (x : List ℕ). FreeFit x i (lower.here i)) (sym (append-nil p)) (lower.here_fit i)
      chosen_fit (j ∷ rest) i = lower.chosen_fit j rest i

      says : (o : List ℕ → ℕ → Value) (f : List ℕ → ℕ → Returned) (call_of : List ℕ → Request) (view : List ℕ → NodeView) → Composed is_node viewer FreeFit root o f call_of view
          → ((rest : List ℕ) → o (p ++ rest) ≡ by_first plan.own lower.own rest) → ((rest : List ℕ) → f (p ++ rest) ≡ by_first lower.here lower.chosen rest) → call_of p ≡ call
          → AllSay (node track below) flat free_values view p × Bits (view p) result
      says o f call_of view comp same_own same_chosen call_is =
          let ret = ret_of is_node view f p in
          let own_is : o p ≡ plan.own = subst (λ (x : List ℕ). o x ≡ plan.own) (append-nil p) (same_own []) in
          let here_is : f p ≡ lower.here = subst (λ (x : List ℕ). f x ≡ lower.here) (append-nil p) (same_chosen []) in
          let view_is : view p ≡ viewer p call plan.own ret = comp.views p at ∙ (ap (λ (c : Request). viewer p c (o p) ret) call_is ∙ ap (λ (w : ℕ → Value). viewer p call w ret) own_is) in
          let goes : Goes ret (view p) plan.passed calls results = subst (λ (v : NodeView). Goes ret v plan.passed calls results) (sym view_is) (plan.steps ret (comp.fit p)) in
          let low = lower.says o f call_of view comp (λ i rest is. same_own (i ∷ rest)) (λ i rest is. same_chosen (i ∷ rest)) (λ i is. ap (λ (g : ℕ → Returned). g i) here_is) goes in
          let bits : Bits (view p) result = subst (λ (v : NodeView). Bits v result) (sym view_is) (plan.bits ret (comp.fit p) low.0) in
          let on : (i : ℕ) → ((view p).site i).on ≡ has_number plan.passed i = λ i. ap (λ (v : NodeView). (v.site i).on) view_is ∙ plan.sites ret (comp.fit p) low.0 i in (
            (
              plan.passed,
              plan.more,
              ap (λ (b : Option FlatProc). sites_passed (blocks_of b) track.path) proc ∙ plan.along,
              on,
              over_either (view p) result bits,
              low.1,
              ap (λ (v : NodeView). v.track) view_is ∙ plan.track_is ret (comp.fit p) low.0,
              plan.apart,
              free_say below plan.passed calls results (view p) answers (subst (λ (v : NodeView). SitesAre v plan.passed calls results) (sym view_is) (plan.says ret (comp.fit p) low.0)),
            ),
            bits,
          )

  at_inner : (run : Run) (below : Below) (p : List ℕ) (s : ℕ) (ss : List ℕ) (c : Request) (cs : List Request) (r : Result) (rs : List Result) → is_node (p ++ s ∷ []) ≡ true → has_number ss s ≡ false
      → Chosen flat is_node free_values viewer OwnFit FreeFit root run (p ++ s ∷ []) c r → ChosenBelow flat is_node free_values viewer OwnFit FreeFit root below p ss cs rs
      → ChosenBelow flat is_node free_values viewer OwnFit FreeFit root (inner run below) p (s ∷ ss) (c ∷ cs) (r ∷ rs)
  at_inner run below p s ss c cs r rs at out child rest = record {
    own = λ i more. cond (nat_eq s i) (child.own more) (rest.own i more);
    chosen = λ i more. cond (nat_eq s i) (child.chosen more) (rest.chosen i more);
    here = rest.here;
    own_fit = λ i more. own_fit i more (nat_eq s i) refl;
    chosen_fit = λ i more j. chosen_fit i more j (nat_eq s i) refl;
    here_fit = rest.here_fit;
    says = says;
  }
    where
      along : (more : List ℕ) → (p ++ s ∷ []) ++ more ≡ p ++ s ∷ more
      along more = append_assoc p (s ∷ []) more

      own_fit : (i : ℕ) (more : List ℕ) (b : Bool) → nat_eq s i ≡ b → OwnFit (p ++ i ∷ more) (cond b (child.own more) (rest.own i more))
      own_fit i more true is = subst (λ (n : ℕ). OwnFit (p ++ n ∷ more) (child.own more)) (eqb-true s i is) (subst (λ (x : List ℕ). OwnFit x (child.own more)) (along more) (child.own_fit more))
      own_fit i more false is = rest.own_fit i more

      chosen_fit : (i : ℕ) (more : List ℕ) (j : ℕ) (b : Bool) → nat_eq s i ≡ b → FreeFit (p ++ i ∷ more) j (cond b (child.chosen more) (rest.chosen i more) j)
      chosen_fit i more j true is = subst (λ (n : ℕ). FreeFit (p ++ n ∷ more) j (child.chosen more j)) (eqb-true s i is) (subst (λ (x : List ℕ). FreeFit x j (child.chosen more j)) (along more) (child.chosen_fit more j))
      chosen_fit i more j false is = rest.chosen_fit i more j

      says : (o : List ℕ → ℕ → Value) (f : List ℕ → ℕ → Returned) (call_of : List ℕ → Request) (view : List ℕ → NodeView) → Composed is_node viewer FreeFit root o f call_of view
          → ((i : ℕ) (more : List ℕ) → has_number (s ∷ ss) i ≡ true → o (p ++ i ∷ more) ≡ cond (nat_eq s i) (child.own more) (rest.own i more))
          → ((i : ℕ) (more : List ℕ) → has_number (s ∷ ss) i ≡ true → f (p ++ i ∷ more) ≡ cond (nat_eq s i) (child.chosen more) (rest.chosen i more))
          → ((i : ℕ) → has_number (s ∷ ss) i ≡ true → f p i ≡ rest.here i)
          → Goes (ret_of is_node view f p) (view p) (s ∷ ss) (c ∷ cs) (r ∷ rs)
          → Right (ret_of is_node view f p) (s ∷ ss) (r ∷ rs) × BelowSay (inner run below) flat free_values view p (s ∷ ss)
      says o f call_of view comp same_own same_chosen same_here (call_is, go) =
          let first : has_number (s ∷ ss) s ≡ true = or_left (nat_eq s s) (has_number ss s) (eq-eqb s s refl) in
          let child_says = child.says o f call_of view comp
          (λ more. ap o (along more) ∙ (same_own s more first ∙ ap (λ b. cond b (child.own more) (rest.own s more)) (eq-eqb s s refl)))
          (λ more. ap f (along more) ∙ (same_chosen s more first ∙ ap (λ b. cond b (child.chosen more) (rest.chosen s more)) (eq-eqb s s refl)))
          (comp.calls p s at ∙ call_is) in
          let right : RightAt (ret_of is_node view f p s) r =
          subst (λ b. RightAt (ret_at b (view (p ++ s ∷ [])) (f p s)) r) (sym at) (ret_right (view (p ++ s ∷ [])) r child_says.1) in
          let later = rest.says o f call_of view comp
          (λ i more is. same_own i more (or_right (nat_eq s i) (has_number ss i) is) ∙ ap (λ b. cond b (child.own more) (rest.own i more)) (other_site i s ss is out))
          (λ i more is. same_chosen i more (or_right (nat_eq s i) (has_number ss i) is) ∙ ap (λ b. cond b (child.chosen more) (rest.chosen i more)) (other_site i s ss is out))
          (λ i is. same_here i (or_right (nat_eq s i) (has_number ss i) is)) (go right) in
          ((right, later.0), (child_says.0, later.1))

  at_free : (ends : Bool) (values : List Value) (below : Below) (p : List ℕ) (s : ℕ) (ss : List ℕ) (c : Request) (cs : List Request) (r : Result) (rs : List Result) → is_node (p ++ s ∷ []) ≡ false → has_number ss s ≡ false
      → FreeFit p s (returned_of (parts.some_free p s) r) → ChosenBelow flat is_node free_values viewer OwnFit FreeFit root below p ss cs rs
      → ChosenBelow flat is_node free_values viewer OwnFit FreeFit root (free ends values below) p (s ∷ ss) (c ∷ cs) (r ∷ rs)
  at_free ends values below p s ss c cs r rs at out fit rest = record {
    own = rest.own;
    chosen = rest.chosen;
    here = λ i. cond (nat_eq s i) (returned_of (parts.some_free p s) r) (rest.here i);
    own_fit = rest.own_fit;
    chosen_fit = rest.chosen_fit;
    here_fit = λ i. here_fit i (nat_eq s i) refl;
    says = says;
  }
    where
      here_fit : (i : ℕ) (b : Bool) → nat_eq s i ≡ b → FreeFit p i (cond b (returned_of (parts.some_free p s) r) (rest.here i))
      here_fit i true is = subst (λ (n : ℕ). FreeFit p n (returned_of (parts.some_free p s) r)) (eqb-true s i is) fit
      here_fit i false is = rest.here_fit i

      says : (o : List ℕ → ℕ → Value) (f : List ℕ → ℕ → Returned) (call_of : List ℕ → Request) (view : List ℕ → NodeView) → Composed is_node viewer FreeFit root o f call_of view
          → ((i : ℕ) (more : List ℕ) → has_number (s ∷ ss) i ≡ true → o (p ++ i ∷ more) ≡ rest.own i more)
          → ((i : ℕ) (more : List ℕ) → has_number (s ∷ ss) i ≡ true → f (p ++ i ∷ more) ≡ rest.chosen i more)
          → ((i : ℕ) → has_number (s ∷ ss) i ≡ true → f p i ≡ cond (nat_eq s i) (returned_of (parts.some_free p s) r) (rest.here i))
          → Goes (ret_of is_node view f p) (view p) (s ∷ ss) (c ∷ cs) (r ∷ rs)
          → Right (ret_of is_node view f p) (s ∷ ss) (r ∷ rs) × BelowSay (free ends values below) flat free_values view p (s ∷ ss)
      says o f call_of view comp same_own same_chosen same_here (call_is, go) =
          let first : has_number (s ∷ ss) s ≡ true = or_left (nat_eq s s) (has_number ss s) (eq-eqb s s refl) in
          let here_is : f p s ≡ returned_of (parts.some_free p s) r = same_here s first ∙ ap (λ b. cond b (returned_of (parts.some_free p s) r) (rest.here s)) (eq-eqb s s refl) in
          let right : RightAt (ret_of is_node view f p s) r =
          subst (λ b. RightAt (ret_at b (view (p ++ s ∷ [])) (f p s)) r) (sym at) (subst (λ (x : Returned). RightAt x r) (sym here_is) (returned_right (parts.some_free p s) r)) in
          let later = rest.says o f call_of view comp
          (λ i more is. same_own i more (or_right (nat_eq s i) (has_number ss i) is))
          (λ i more is. same_chosen i more (or_right (nat_eq s i) (has_number ss i) is))
          (λ i is. same_here i (or_right (nat_eq s i) (has_number ss i) is) ∙ ap (λ b. cond b (returned_of (parts.some_free p s) r) (rest.here i)) (other_site i s ss is out)) (go right) in
          ((right, later.0), later.1)

  at_none : (p : List ℕ) → ChosenBelow flat is_node free_values viewer OwnFit FreeFit root none p [] [] []
  at_none p = record {
    own = λ i rest. parts.some_own (p ++ i ∷ rest);
    chosen = λ i rest. parts.some_free (p ++ i ∷ rest);
    here = parts.some_free p;
    own_fit = λ i rest. parts.own_fits (p ++ i ∷ rest);
    chosen_fit = λ i rest j. parts.free_fits (p ++ i ∷ rest) j;
    here_fit = parts.free_fits p;
    says = λ o f call_of view comp a b d go. (tt, tt);
  }

  all_keep : (below : Below) (calls : List Request) (results : List Result) → Answer below flat may consts calls results → AllKeep flat calls results
  all_keep below [] results h = tt
  all_keep below (c ∷ cs) [] h = tt
  all_keep none (c ∷ cs) (r ∷ rs) h = absurd h
  all_keep (inner run below) (c ∷ cs) (r ∷ rs) ((q, begin, begins, means), rest) = (parts.run_keeps run c q begin r begins means, all_keep below cs rs rest)
  all_keep (free ends values below) (c ∷ cs) (r ∷ rs) (may_be, rest) = (parts.may_keeps c ends values r may_be, all_keep below cs rs rest)

  fit_free : (p : List ℕ) (s : ℕ) (c : Request) (ends : Bool) (values : List Value) (r : Result) → c.proc ≡ callee p s → may c ends values r → FreeFit p s (returned_of (parts.some_free p s) r)
  fit_free p s c ends values (Ended outs globals) same h = parts.may_fit p s c ends values outs globals same h
  fit_free p s c ends values (Broken proc number) same h = parts.failing_fits p s (parts.some_free p s) (parts.free_fits p s)

  mutual
    pub chosen_run : (run : Run) (p : List ℕ) (call : Request) (q : FlatProc) (begin : State) (result : Result) → stands run flat is_node is_open p ≡ true → call.proc ≡ proc p
        → Begins flat (track_of run) call q begin → Means run flat may consts q begin result → Chosen flat is_node free_values viewer OwnFit FreeFit root run p call result
    chosen_run (node track below) p call q begin result fit same begins (results, calls, local, answers) =
        let both = and_parts (is_node p) (stand_below below flat is_node is_open p (sites_passed (blocks_of (slice_get flat.procs track.proc)) track.path)) fit in
        let plan = parts.plan p both.0 call track q begin results calls result same begins local (all_keep below calls results answers) in
        let along : sites_passed (blocks_of (slice_get flat.procs track.proc)) track.path ≡ plan.passed ++ plan.more = ap (λ (b : Option FlatProc). sites_passed (blocks_of b) track.path) begins.proc ∙ plan.along in
        let lower = chosen_below below p plan.passed plan.more calls results (subst (λ (ss : List ℕ). stand_below below flat is_node is_open p ss ≡ true) along both.1) plan.differ plan.procs answers in
        at_node track below p call q results calls result both.0 begins.proc plan lower answers

    chosen_below : (below : Below) (p : List ℕ) (ss more : List ℕ) (calls : List Request) (results : List Result) → stand_below below flat is_node is_open p (ss ++ more) ≡ true → numbers_differ ss ≡ true
        → map (λ (c : Request). c.proc) calls ≡ map (callee p) ss → Answer below flat may consts calls results → ChosenBelow flat is_node free_values viewer OwnFit FreeFit root below p ss calls results
    chosen_below none p [] more [] [] fit differ procs h = at_none p
    chosen_below none p (s ∷ ss) more [] [] fit differ procs h = cc
    chosen_below none p ss more (c ∷ cs) results fit differ procs h = absurd h
    chosen_below none p ss more [] (r ∷ rs) fit differ procs h = absurd h
    chosen_below (inner run below) p ss more [] results fit differ procs h = absurd h
    chosen_below (inner run below) p ss more (c ∷ cs) [] fit differ procs h = absurd h
    chosen_below (inner run below) p [] more (c ∷ cs) (r ∷ rs) fit differ procs h = cc
    chosen_below (inner run below) p (s ∷ ss) more (c ∷ cs) (r ∷ rs) fit differ procs ((q, begin, begins, means), answers) =
        let both = and_parts (stands run flat is_node is_open (p ++ s ∷ [])) (stand_below below flat is_node is_open p (ss ++ more)) fit in
        let apart = and_parts (not (has_number ss s)) (numbers_differ ss) differ in
        at_inner run below p s ss c cs r rs (fits_at run (p ++ s ∷ []) flat is_node is_open both.0) (not-true (has_number ss s) apart.0)
        (chosen_run run (p ++ s ∷ []) c q begin r both.0
        (head_same c.proc (callee p s) (map (λ (x : Request). x.proc) cs) (map (callee p) ss) procs ∙ sym (parts.child_is p s (fits_at run (p ++ s ∷ []) flat is_node is_open both.0))) begins means)
        (chosen_below below p ss more cs rs both.1 apart.1 (tail_same c.proc (callee p s) (map (λ (x : Request). x.proc) cs) (map (callee p) ss) procs) answers)
    chosen_below (free ends values below) p ss more [] results fit differ procs h = absurd h
    chosen_below (free ends values below) p ss more (c ∷ cs) [] fit differ procs h = absurd h
    chosen_below (free ends values below) p [] more (c ∷ cs) (r ∷ rs) fit differ procs h = cc
    chosen_below (free ends values below) p (s ∷ ss) more (c ∷ cs) (r ∷ rs) fit differ procs (may_be, answers) =
        let both = and_parts (is_open (p ++ s ∷ [])) (stand_below below flat is_node is_open p (ss ++ more)) fit in
        let apart = and_parts (not (has_number ss s)) (numbers_differ ss) differ in
        at_free ends values below p s ss c cs r rs (parts.apart (p ++ s ∷ []) both.0) (not-true (has_number ss s) apart.0)
        (fit_free p s c ends values r (head_same c.proc (callee p s) (map (λ (x : Request). x.proc) cs) (map (callee p) ss) procs) may_be)
        (chosen_below below p ss more cs rs both.1 apart.1 (tail_same c.proc (callee p s) (map (λ (x : Request). x.proc) cs) (map (callee p) ss) procs) answers)
