-- What a run passes, in order.
use Rattle.std.proofs.Common.{◌≡◌, ℕ, Bool, true, false, ◌||◌, List, [], ◌∷◌, ◌++◌, map, refl, sym, ap, ◌∙◌}
use Rattle.std.specs.Prelude.{Option}
use Rattle.hy_val.specs.declared.value.Value.{Value}
use Rattle.flat_prog.specs.Program.{FlatProgram, blocks_of}
use Rattle.flat_prog.specs.Local.{Request, Result, edges_of}
use Rattle.flat_prog.specs.Sites.{sites_passed}
use Rattle.flat_prog.specs.declared.proc.FlatProc.{FlatProc}
use Rattle.tree_terms.specs.declared.linked.EdgeTerms.{EdgeTerms}
use Rattle.tree_words.specs.View.{NodeView, HasRun}
use Rattle.flat_prog.specs.Once.{has_number}
use Rattle.tree_words.specs.Built.{on_sites}
use Rattle.tree_words.proofs.Sound.{on_passed}
use Rattle.tree_words.specs.Reading.{passed_edges}
use Rattle.tree_words.specs.Passing.{sites_by_track, InOrder, RunsAreInOrder, Chained, EdgesAreTrue}

of_run : (flat : FlatProgram) (consts : List Value) (call : Request) (v : NodeView) (broken : ℕ → ℕ × ℕ) (result : Result) → HasRun flat consts call v broken result → InOrder flat v
of_run flat consts call v broken result h =
    let sites : sites_by_track flat v.track ≡ h.says.passed ++ h.says.more = ap (λ (o : Option FlatProc). sites_passed (blocks_of o) v.track.path) h.begins.proc ∙ h.says.along in
    let on : on_sites v (sites_by_track flat v.track) ≡ h.says.passed = ap (on_sites v) sites ∙ on_passed v h.says.passed h.says.more h.says.sites_are h.says.apart in
    record {
      more = h.says.more;
      along = sites ∙ ap (λ (ss : List ℕ). ss ++ h.says.more) (sym on);
      are = λ i. h.says.sites_are i ∙ ap (λ (ss : List ℕ). has_number ss i) (sym on);
    }

pub runs_are_in_order : RunsAreInOrder
runs_are_in_order flat consts call v sound over = by_end v.ends refl over
  where
    by_end : (b : Bool) → v.ends ≡ b → (b || v.fails) ≡ true → InOrder flat v
    by_end true e h = of_run flat consts call v (λ i. (0, 0)) _ (sound.ends e (λ i. (0, 0)))
    by_end false e h = let f = sound.fails h (λ i. (0, 0)) in of_run flat consts call v (λ i. (0, 0)) _ f.2

chained : (b : ℕ) (es : List EdgeTerms) → Chained b es → edges_of (b ∷ map (λ (e : EdgeTerms). e.target) es) (map (λ (e : EdgeTerms). e.place) es) ≡ map (λ (e : EdgeTerms). (e.block, e.place)) es
chained b [] h = refl
chained b (e ∷ es) h =
    ap (λ (n : ℕ). (n, e.place) ∷ edges_of (e.target ∷ map (λ (x : EdgeTerms). x.target) es) (map (λ (x : EdgeTerms). x.place) es)) (sym h.0)
    ∙ ap (λ (ps : List (ℕ × ℕ)). (e.block, e.place) ∷ ps) (chained e.target es h.1)

pub edges_are_true : EdgesAreTrue
edges_are_true t vs h = chained 0 (passed_edges vs t.edges) h
