-- Formulas that are put together meet the question where the root says so.
use Rattle.std.proofs.Common.{◌≡◌, ℕ, Bool, true, false, not, List, [], ◌∷◌, ◌++◌, sym, ap, ◌∙◌, subst, ⊎_elim}
use Rattle.std.proofs.lemmas.Bool.{or_cases, both_ways, cases_Bool}
use Rattle.hy_val.specs.declared.value.Value.{Value}
use Rattle.flat_prog.specs.Program.{FlatProgram}
use Rattle.flat_prog.specs.Changes.{MayBe, Keeps}
use Rattle.flat_prog.specs.Local.{Request, Ended}
use Rattle.flat_prog.specs.Laws.{AllRunsKeep}
use Rattle.flat_prog.specs.Trees.{is_whole}
use Rattle.call_tree.specs.declared.piece.Decision2.{Decision2}
use Rattle.tree_words.specs.View.{SiteView, NodeView, IsSound, over_in}
use Rattle.tree_words.specs.Built.{built, root_run}
use Rattle.tree_words.specs.Question.{goes, Tied, Met, Starts, IsMember, named}
use Rattle.tree_words.specs.Compose.{Returned, Viewer, ret_at, ret_of, Composed}
use Rattle.tree_words.specs.Whole.{SoundParts, IsTree, RootSays, AllFit, RunsKeep}
use Rattle.tree_words.proofs.Sound.{goes_snoc, member}

-- runs that answer calls leave what may not be changed, with free children
pub leave : AllRunsKeep → (flat : FlatProgram) (consts : List Value) → RunsKeep flat (MayBe flat) consts
leave law flat consts run call q begin result begins means = (law flat).part_calls consts run call result (q, begin, begins, means)

module _ (flat : FlatProgram) (entry : ℕ) (is_node is_open : List ℕ → Bool) (blocked : Bool) (free_values : SiteView → List Value) (height : ℕ) (piece : List (List ℕ × Decision2)) (consts : List Value) (viewer : List ℕ → Viewer)
    (own_ok : List ℕ → (ℕ → Value) → Bool) (free_ok : List ℕ → ℕ → Returned → Bool) (call_ok : List ℕ → Request → Bool)
    (root : Request) (own : List ℕ → ℕ → Value) (chosen : List ℕ → ℕ → Returned) (call_of : List ℕ → Request) (view : List ℕ → NodeView)
    (parts : SoundParts flat (MayBe flat) is_node is_open free_values consts viewer own_ok free_ok call_ok) (keeps : RunsKeep flat (MayBe flat) consts) (tree : IsTree is_node is_open height)
    (comp : Composed is_node viewer (λ p i ret. free_ok p i ret ≡ true) root own chosen call_of view) (fit : AllFit is_node own_ok call_ok own call_of)
    (says : RootSays is_node is_open blocked piece view) where
  -- a site that is passed says what comes back there
  tied : (p : List ℕ) (i : ℕ) → is_node (p ++ i ∷ []) ≡ true → goes view [] p ≡ true → ((view p).site i).on ≡ true → Tied flat ((view p).site i) (view (p ++ i ∷ []))
  tied p i at go on = record { fails = fails; ends = ends; outs = outs; globals = globals }
    where
      here : is_node p ≡ true
      here = tree.closed p (i ∷ []) at

      view_is : view p ≡ viewer p (call_of p) (own p) (ret_of is_node view chosen p)
      view_is = comp.views p here

      on_there : ((viewer p (call_of p) (own p) (ret_of is_node view chosen p)).site i).on ≡ true
      on_there = subst (λ (v : NodeView). (v.site i).on ≡ true) view_is on

      back : ret_of is_node view chosen p i ≡ record { fails = (view (p ++ i ∷ [])).fails; outs = (view (p ++ i ∷ [])).outs; globals = (view (p ++ i ∷ [])).globals }
      back = ap (λ b. ret_at b (view (p ++ i ∷ [])) (chosen p i)) at

      fails_is : ((view p).site i).fails ≡ (view (p ++ i ∷ [])).fails
      fails_is =
          ap (λ (v : NodeView). (v.site i).fails) view_is
          ∙ (parts.fails p here (call_of p) (own p) (ret_of is_node view chosen p) (comp.fit p) i on_there ∙ ap (λ (r : Returned). r.fails) back)

      fails : ((view p).site i).fails ≡ true → (view (p ++ i ∷ [])).fails ≡ true
      fails h = sym fails_is ∙ h

      ends : ((view p).site i).fails ≡ false → (view (p ++ i ∷ [])).ends ≡ true
      ends h =
          ⊎_elim (λ e. e) (λ e. absurd (both_ways (view (p ++ i ∷ [])).fails (sym fails_is ∙ h) e))
          (or_cases (view (p ++ i ∷ [])).ends (view (p ++ i ∷ [])).fails (says.over (p ++ i ∷ []) at (goes_snoc view [] p i go on)))

      outs : ((view p).site i).fails ≡ false → (view (p ++ i ∷ [])).outs ≡ ((view p).site i).outs
      outs h =
          ap (λ (r : Returned). r.outs) (sym back)
          ∙ (parts.outs p here (call_of p) (own p) (ret_of is_node view chosen p) (comp.fit p) i on_there ∙ ap (λ (v : NodeView). (v.site i).outs) (sym view_is))

      globals : ((view p).site i).fails ≡ false → Keeps flat ((view p).site i).call (Ended (view (p ++ i ∷ [])).outs (view (p ++ i ∷ [])).globals) → (view (p ++ i ∷ [])).globals ≡ ((view p).site i).globals
      globals h keep =
          ap (λ (r : Returned). r.globals) (sym back)
          ∙ (parts.globals p here (call_of p) (own p) (ret_of is_node view chosen p) (comp.fit p) i on_there
          (subst (λ (c : Request). Keeps flat c (Ended (ret_of is_node view chosen p i).outs (ret_of is_node view chosen p i).globals)) (ap (λ (v : NodeView). (v.site i).call) view_is)
          (subst (λ (r : Returned). Keeps flat ((view p).site i).call (Ended r.outs r.globals)) (sym back) keep))
          ∙ ap (λ (v : NodeView). (v.site i).globals) (sym view_is))

  opens : (p : List ℕ) (i : ℕ) → is_node p ≡ true → goes view [] p ≡ true → ((view p).site i).on ≡ true → is_node (p ++ i ∷ []) ≡ false
      → (is_open (p ++ i ∷ []) ≡ true) × (blocked ≡ false)
      × ((broken : ℕ × ℕ) → MayBe flat ((view p).site i).call (not ((view p).site i).fails) (free_values ((view p).site i)) (over_in ((view p).site i).fails broken ((view p).site i).outs ((view p).site i).globals))
  opens p i at go on out =
      let view_is = comp.views p at in
      let open_here = ⊎_elim (λ e. absurd (both_ways (is_node (p ++ i ∷ [])) out e)) (λ e. e) (says.sites p i at go on) in
      let unblocked = ⊎_elim (λ e. absurd (both_ways (is_node (p ++ i ∷ [])) out (says.closed e p i at go on))) (λ e. e) (cases_Bool blocked) in
      let f = parts.free p at (call_of p) (own p) (ret_of is_node view chosen p) (fit.calls p at) (fit.owns p at) (comp.fit p) i open_here (subst (λ (v : NodeView). (v.site i).on ≡ true) view_is on) in (
        open_here,
        unblocked,
        λ broken.
            subst (λ (v : NodeView). MayBe flat (v.site i).call (not (v.site i).fails) (free_values (v.site i)) (over_in (v.site i).fails broken (v.site i).outs (v.site i).globals)) (sym view_is) (f broken),
      )

  met : Met flat entry (MayBe flat) is_node is_open blocked free_values height consts call_of view
  met = record {
    root = tree.root;
    low = tree.low;
    closed = tree.closed;
    sound = λ p at. subst (λ (v : NodeView). IsSound flat consts (call_of p) v) (sym (comp.views p at))
        (parts.sound p at (call_of p) (own p) (ret_of is_node view chosen p) (fit.calls p at) (fit.owns p at) (comp.fit p));
    calls = comp.calls;
    tied = tied;
    opens = opens;
    keeps = keeps;
  }

pub composed_members :
    (flat : FlatProgram) (entry : ℕ) (is_node is_open : List ℕ → Bool) (blocked : Bool) (free_values : SiteView → List Value) (height : ℕ) (piece : List (List ℕ × Decision2)) (consts : List Value) (viewer : List ℕ → Viewer)
    (own_ok : List ℕ → (ℕ → Value) → Bool) (free_ok : List ℕ → ℕ → Returned → Bool) (call_ok : List ℕ → Request → Bool)
    (root : Request) (own : List ℕ → ℕ → Value) (chosen : List ℕ → ℕ → Returned) (call_of : List ℕ → Request) (view : List ℕ → NodeView)
    → SoundParts flat (MayBe flat) is_node is_open free_values consts viewer own_ok free_ok call_ok → RunsKeep flat (MayBe flat) consts → IsTree is_node is_open height → named is_node piece ≡ true
    → Starts flat entry consts root
    → Composed is_node viewer (λ p i ret. free_ok p i ret ≡ true) root own chosen call_of view → AllFit is_node own_ok call_ok own call_of → RootSays is_node is_open blocked piece view
    → IsMember flat entry (MayBe flat) is_node is_open piece (root_run consts root (built height flat is_node free_values view []))
    × (blocked ≡ true → is_whole (root_run consts root (built height flat is_node free_values view [])) ≡ true)
composed_members flat entry is_node is_open blocked free_values height piece consts viewer own_ok free_ok call_ok root own chosen call_of view parts keeps tree names starts comp fit says =
    subst (λ (c : Request). IsMember flat entry (MayBe flat) is_node is_open piece (root_run consts c (built height flat is_node free_values view []))
    × (blocked ≡ true → is_whole (root_run consts c (built height flat is_node free_values view [])) ≡ true)) comp.begins
    (member flat entry (MayBe flat) is_node is_open blocked free_values height piece consts call_of view
    (met flat entry is_node is_open blocked free_values height piece consts viewer own_ok free_ok call_ok root own chosen call_of view parts keeps tree comp fit says)
    (subst (λ (c : Request). Starts flat entry consts c) (sym comp.begins) starts) says.fails names says.meet)
