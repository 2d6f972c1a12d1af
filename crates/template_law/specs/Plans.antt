-- What formulas of procedures owe for the way from runs to assignments.
use Rattle.std.specs.Prelude.{◌≡◌, ℕ, Bool, true, false, List, [], ◌∷◌, ◌++◌, slice_get}
use Rattle.hy_val.specs.declared.value.Value.{Value}
use Rattle.flat_prog.specs.Changes.{MayBe}
use Rattle.flat_prog.specs.Limits.{AreLimits}
use Rattle.flat_prog.specs.Local.{have_sorts}
use Rattle.flat_prog.specs.Program.{FlatProgram}
use Rattle.flat_prog.specs.Shape.{IsFlat}
use Rattle.template_law.specs.Formulas.{AreChanges, HaveFormulas}
use Rattle.tree_terms.specs.Linked.{template_of}
use Rattle.tree_terms.specs.declared.linked.Linked.{Linked}
use Rattle.tree_words.specs.Compose.{Parts}
use Rattle.tree_words.specs.Filling.{free_fits, own_fits}
use Rattle.tree_words.specs.Linking.{is_node_of, number, proc_by, proc_of, sites_by, template_at}
use Rattle.tree_words.specs.Reading.{free_by, track_by}
use Rattle.tree_words.specs.Template.{viewer_of}

-- the procedure that is called at a site of the node at a path, by the node's formula
abbrev pub callee_of : Linked → List ℕ → ℕ → ℕ
callee_of q p i = proc_by (slice_get (sites_by (template_of q (number q p))) i)

-- where each node has the formula of its procedure, and is one of the procedure that its caller's site calls, each run has choices
abbrev pub PartsAreMet : Type 0
PartsAreMet =
    (flat : FlatProgram) (limits : List (List Bool)) (changes : List (List ℕ)) (entry : ℕ) (q : Linked) (is_open : List ℕ → Bool) (vs : List Value) → IsFlat flat → AreLimits flat limits → AreChanges flat changes
    → HaveFormulas flat limits entry q → have_sorts vs flat.consts ≡ true → ((p : List ℕ) → is_open p ≡ true → is_node_of q p ≡ false)
    → ((p : List ℕ) (i : ℕ) → is_node_of q (p ++ i ∷ []) ≡ true → proc_of q entry (number q (p ++ i ∷ [])) ≡ callee_of q p i)
    → Parts flat (MayBe flat) (is_node_of q) is_open (free_by changes) vs (λ p. viewer_of vs (template_at q track_by p)) (λ p own. own_fits q p own ≡ true) (λ p i ret. free_fits flat q p i ret ≡ true)
    (callee_of q) (λ p. proc_of q entry (number q p)) entry
