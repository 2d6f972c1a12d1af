-- What formulas of procedures owe for the way from an assignment to runs.
use Rattle.std.specs.Prelude.{◌≡◌, ℕ, Bool, true, false, List}
use Rattle.hy_val.specs.declared.value.Value.{Value}
use Rattle.flat_prog.specs.Changes.{MayBe}
use Rattle.flat_prog.specs.Limits.{AreLimits}
use Rattle.flat_prog.specs.Local.{have_sorts}
use Rattle.flat_prog.specs.Program.{FlatProgram}
use Rattle.flat_prog.specs.Shape.{IsFlat}
use Rattle.template_law.specs.Formulas.{AreChanges, HaveFormulas}
use Rattle.tree_terms.specs.declared.linked.Linked.{Linked}
use Rattle.tree_words.specs.Filling.{call_fits, free_fits, own_fits}
use Rattle.tree_words.specs.Linking.{is_node_of, template_at}
use Rattle.tree_words.specs.Reading.{free_by, track_by}
use Rattle.tree_words.specs.Template.{viewer_of}
use Rattle.tree_words.specs.Whole.{SoundParts}

-- where each node has the formula of its procedure, the formulas are sound
abbrev pub SoundPartsAreMet : Type 0
SoundPartsAreMet =
    (flat : FlatProgram) (limits : List (List Bool)) (changes : List (List ℕ)) (entry : ℕ) (q : Linked) (is_open : List ℕ → Bool) (vs : List Value) → IsFlat flat → AreLimits flat limits → AreChanges flat changes
    → HaveFormulas flat limits entry q → have_sorts vs flat.consts ≡ true → ((p : List ℕ) → is_open p ≡ true → is_node_of q p ≡ false)
    → SoundParts flat (MayBe flat) (is_node_of q) is_open (free_by changes) vs (λ p. viewer_of vs (template_at q track_by p)) (own_fits q) (free_fits flat q) (call_fits flat q entry)
