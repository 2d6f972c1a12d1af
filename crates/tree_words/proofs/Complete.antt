-- A member has choices of its nodes under which the views of all nodes say it and meet the question.
use Rattle.std.proofs.Common.{◌≡◌, ℕ, Bool, true, false, ◌||◌, List, [], ◌∷◌, ◌++◌, refl, sym, ap, ◌∙◌, subst, true≢false, inl, inr, ◌⊎◌, arith}
use Rattle.std.specs.Prelude.{slice_get, Some}
use Rattle.hy_val.specs.declared.value.Value.{Value}
use Rattle.flat_prog.specs.Program.{FlatProgram}
use Rattle.flat_prog.specs.Local.{Track, Request, Result, Broken, Begins}
use Rattle.flat_prog.specs.Trees.{Run, node, is_whole, Means}
use Rattle.call_tree.specs.declared.piece.Decision2.{Decision2}
use Rattle.call_tree.specs.Questions.{stands}
use Rattle.flat_prog.specs.Changes.{MayBe}
use Rattle.call_tree.specs.Descent.{goes_down}
use Rattle.tree_words.specs.Question.{goes, IsMember, named}
use Rattle.tree_words.specs.Said.{Says}
use Rattle.tree_words.specs.View.{SiteView, NodeView}
use Rattle.tree_words.specs.Compose.{Returned, Viewer, Composed, AllSay, Parts}
use Rattle.tree_words.specs.Built.{root_run}
use Rattle.tree_words.specs.Whole.{IsTree}
use Rattle.tree_words.proofs.Choosing.{chosen_run, fits_at}
use Rattle.tree_words.proofs.SaidRuns.{Sub, Kid, kid_node, kid_open, kid_of, sub, reach_says, built_is}
use Rattle.tree_words.proofs.Meeting.{meets_same}

over_of : (flat : FlatProgram) (free_values : SiteView → List Value) (view : List ℕ → NodeView) (run : Run) (p : List ℕ) → AllSay run flat free_values view p → ((view p).ends || (view p).fails) ≡ true
over_of flat free_values view (node track below) p (passed, more, along, on, over, low, track_is, parted, frees) = over

-- choices for a failing run of the entry
record RootChosen (flat : FlatProgram) (is_node is_open : List ℕ → Bool) (free_values : SiteView → List Value) (consts : List Value) (viewer : List ℕ → Viewer) (OwnFit : List ℕ → (ℕ → Value) → Type 0) (FreeFit : List ℕ → ℕ → Returned → Type 0) (root : Request) (run : Run) : Type 0 where
  own : List ℕ → ℕ → Value
  chosen : List ℕ → ℕ → Returned
  own_fit : (p : List ℕ) → OwnFit p (own p)
  chosen_fit : (p : List ℕ) (i : ℕ) → FreeFit p i (chosen p i)
  plain : Run
  plain_is : root_run consts root plain ≡ run
  same : (p : List ℕ) → goes_down plain flat p ≡ goes_down run flat p
  fit : stands plain flat is_node is_open [] ≡ true
  whole : is_whole run ≡ true → is_whole plain ≡ true
  says : (call_of : List ℕ → Request) (view : List ℕ → NodeView) → Composed is_node viewer FreeFit root own chosen call_of view → AllSay plain flat free_values view [] × ((view []).fails ≡ true)

root_chosen : (flat : FlatProgram) (entry : ℕ) (may : Request → Bool → List Value → Result → Type 0) (is_node is_open : List ℕ → Bool) (free_values : SiteView → List Value) (piece : List (List ℕ × Decision2)) (viewer : List ℕ → Viewer)
    (OwnFit : List ℕ → (ℕ → Value) → Type 0) (FreeFit : List ℕ → ℕ → Returned → Type 0) (callee : List ℕ → ℕ → ℕ) (proc : List ℕ → ℕ) (run : Run) (m : IsMember flat entry may is_node is_open piece run)
    → Parts flat may is_node is_open free_values m.fails.consts viewer OwnFit FreeFit callee proc entry
    → RootChosen flat is_node is_open free_values m.fails.consts viewer OwnFit FreeFit (record { proc = entry; globals = m.fails.globals; args = m.fails.args }) run
root_chosen flat entry may is_node is_open free_values piece viewer OwnFit FreeFit callee proc (node track below) m parts = with_means m.fails.means
  where
    root : Request
    root = record { proc = entry; globals = m.fails.globals; args = m.fails.args }

    plain : Track
    plain = record { proc = track.proc; path = track.path; places = track.places; values = m.fails.rest }

    same : (p : List ℕ) → goes_down (node plain below) flat p ≡ goes_down (node track below) flat p
    same [] = refl
    same (i ∷ rest) = refl

    begins : Begins flat plain root m.fails.proc m.fails.begin
    begins = record { same = m.fails.same; proc = subst (λ (n : ℕ). slice_get flat.procs n ≡ Some m.fails.proc) (sym m.fails.same) m.fails.proc_is; globals = m.fails.globals_fit; args = m.fails.args_fit; begin_is = m.fails.begin_is }

    with_means : Means (node track below) flat may m.fails.consts m.fails.proc m.fails.begin (Broken m.proc m.number) → RootChosen flat is_node is_open free_values m.fails.consts viewer OwnFit FreeFit root (node track below)
    with_means (results, calls, local, answers) =
        let c = chosen_run flat may is_node is_open free_values m.fails.consts viewer OwnFit FreeFit callee proc entry parts root (node plain below) [] root m.fails.proc m.fails.begin (Broken m.proc m.number) m.places (sym parts.entry_is) begins
        (results, calls, local, answers) in
        record {
          own = c.own;
          chosen = c.chosen;
          own_fit = c.own_fit;
          chosen_fit = c.chosen_fit;
          plain = node plain below;
          plain_is = ap (λ (vs : List Value). node (record { proc = track.proc; path = track.path; places = track.places; values = vs }) below) (sym m.fails.values);
          same = same;
          fit = m.places;
          whole = λ w. w;
          says = λ call_of view comp. let s = c.says c.own c.chosen call_of view comp (λ rest. refl) (λ rest. refl) comp.begins in (s.0, s.1.0);
        }

pub choices : (flat : FlatProgram) (entry : ℕ) (is_node is_open : List ℕ → Bool) (free_values : SiteView → List Value) (height : ℕ) (piece : List (List ℕ × Decision2)) (viewer : List ℕ → Viewer)
    (own_ok : List ℕ → (ℕ → Value) → Bool) (free_ok : List ℕ → ℕ → Returned → Bool) (callee : List ℕ → ℕ → ℕ) (proc : List ℕ → ℕ) (run : Run) (member : IsMember flat entry (MayBe flat) is_node is_open piece run)
    → Parts flat (MayBe flat) is_node is_open free_values member.fails.consts viewer (λ p own. own_ok p own ≡ true) (λ p i ret. free_ok p i ret ≡ true) callee proc entry
    → IsTree is_node is_open height → named is_node piece ≡ true
    → (own : List ℕ → ℕ → Value) × (chosen : List ℕ → ℕ → Returned) × ((p : List ℕ) → own_ok p (own p) ≡ true) × ((p : List ℕ) (i : ℕ) → free_ok p i (chosen p i) ≡ true)
    × ((call_of : List ℕ → Request) (view : List ℕ → NodeView)
    → Composed is_node viewer (λ p i ret. free_ok p i ret ≡ true) (record { proc = entry; globals = member.fails.globals; args = member.fails.args }) own chosen call_of view
    → Says flat is_node is_open piece free_values height member.fails.consts (record { proc = entry; globals = member.fails.globals; args = member.fails.args }) view run)
choices flat entry is_node is_open free_values height piece viewer own_ok free_ok callee proc run m parts tree names =
    (c.own, c.chosen, c.own_fit, c.chosen_fit, λ call_of view comp. said view (c.says call_of view comp))
  where
    root : Request
    root = record { proc = entry; globals = m.fails.globals; args = m.fails.args }

    c : RootChosen flat is_node is_open free_values m.fails.consts viewer (λ p own. own_ok p own ≡ true) (λ p i ret. free_ok p i ret ≡ true) root run
    c = root_chosen flat entry (MayBe flat) is_node is_open free_values piece viewer (λ p own. own_ok p own ≡ true) (λ p i ret. free_ok p i ret ≡ true) callee proc run m parts

    said : (view : List ℕ → NodeView) → AllSay c.plain flat free_values view [] × ((view []).fails ≡ true) → Says flat is_node is_open piece free_values height m.fails.consts root view run
    said view (say, fails) = record {
      is = ap (root_run m.fails.consts root) (built_is flat is_node is_open free_values height view parts.apart tree.low height c.plain [] say c.fit (omega arith)) ∙ c.plain_is;
      fails = fails;
      over = λ p at go. (let s = at_path true p at go in over_of flat free_values view s.run p s.say);
      reached = reached;
      sites = λ p i at go on. by_kid p i (kid_of flat is_node is_open free_values view parts.apart tree.closed (at_path false p at go).run p i false (at_path false p at go).say (at_path false p at go).fit (at_path false p at go).all on);
      whole = λ w p i at go on. by_whole p i (kid_of flat is_node is_open free_values view parts.apart tree.closed (at_whole w p at go).run p i true (at_whole w p at go).say (at_whole w p at go).fit (at_whole w p at go).all on);
      meet = meets_same is_node (goes view []) (goes_down run flat) reached piece names m.meets_piece;
    }
      where
        reached : (p : List ℕ) → is_node p ≡ true → goes view [] p ≡ goes_down run flat p
        reached p at = reach_says flat is_node is_open free_values view parts.apart tree.closed p c.plain [] say c.fit at ∙ c.same p

        at_whole : is_whole run ≡ true → (p : List ℕ) → is_node p ≡ true → goes view [] p ≡ true → Sub flat is_node is_open free_values view p true
        at_whole w p at go = sub flat is_node is_open free_values view parts.apart tree.closed p [] true (record { run = c.plain; say = say; fit = c.fit; all = λ e. c.whole w }) at go

        at_path : Bool → (p : List ℕ) → is_node p ≡ true → goes view [] p ≡ true → Sub flat is_node is_open free_values view p false
        at_path b p at go = sub flat is_node is_open free_values view parts.apart tree.closed p [] false (record { run = c.plain; say = say; fit = c.fit; all = λ e. absurd (true≢false (sym e)) }) at go

        by_kid : (p : List ℕ) (i : ℕ) → Kid flat is_node is_open free_values view p i false → (is_node (p ++ i ∷ []) ≡ true) ⊎ (is_open (p ++ i ∷ []) ≡ true)
        by_kid p i (kid_node s) = inl (fits_at s.run (p ++ i ∷ []) flat is_node is_open s.fit)
        by_kid p i (kid_open free_here not_all) = inr free_here

        by_whole : (p : List ℕ) (i : ℕ) → Kid flat is_node is_open free_values view p i true → is_node (p ++ i ∷ []) ≡ true
        by_whole p i (kid_node s) = fits_at s.run (p ++ i ∷ []) flat is_node is_open s.fit
        by_whole p i (kid_open free_here not_all) = absurd (true≢false not_all)
