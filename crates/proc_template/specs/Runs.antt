-- The runs of a procedure that the values of its formula's variables say.
use Rattle.std.specs.Prelude.{◌≡◌, ℕ, ◌+◌, true, false, Bool, List, [], ◌∷◌, ◌++◌, map, filter, length, slice_get, IsTrue}
use Rattle.hy_val.specs.Values.{at, is_on}
use Rattle.hy_val.specs.declared.value.Value.{Value}
use Rattle.hy_term.specs.Meaning.{fits, value, values}
use Rattle.hy_term.specs.Variables.{reads}
use Rattle.flat_prog.specs.Changes.{AllKeep}
use Rattle.flat_prog.specs.Limits.{AreLimits}
use Rattle.flat_prog.specs.Local.{Begins, Broken, Ended, LocalRun, Request, Result, State, Track}
use Rattle.flat_prog.specs.Once.{has_number}
use Rattle.flat_prog.specs.Program.{FlatProgram}
use Rattle.flat_prog.specs.Shape.{IsFlat}
use Rattle.flat_prog.specs.Sites.{sites_passed}
use Rattle.passive_form.specs.declared.Passive.{Passive}
use Rattle.vc_gen.specs.Instance.{start_sorts}
use Rattle.vc_gen.specs.Taken.{true_values}
use Rattle.tree_terms.specs.declared.linked.EdgeTerms.{EdgeTerms}
use Rattle.tree_terms.specs.declared.linked.Template.{Template}
use Rattle.tree_terms.specs.declared.linked.ValueTerms.{ValueTerms}
use Rattle.proc_template.specs.Numbered.{is_passed, requests_of, results_of}
use Rattle.proc_template.specs.Starting.{first_sorts}
use Rattle.proc_template.specs.Template.{IsTemplateOf}

-- the edges whose bits are true, by the values of the nodes
abbrev pub passed : List Value → List EdgeTerms → List EdgeTerms
passed vs es = filter (λ (e : EdgeTerms). is_on (at vs e.node)) es

-- the track of a run that takes these values: it passes the edges whose bits are true
abbrev pub track_at : Template → (ℕ → Value) → List Value → Track
track_at t a taken = record {
  proc = t.track.proc;
  path = 0 ∷ map (λ (e : EdgeTerms). e.target) (passed (values a t.nodes) t.track.edges);
  places = map (λ (e : EdgeTerms). e.place) (passed (values a t.nodes) t.track.edges);
  values = taken;
}

-- the values of the constants, and the call that the formula's first variables say
abbrev pub consts_at : Passive → (ℕ → Value) → List Value
consts_at p a = reads a 0 (length p.consts)

abbrev pub call_at : ℕ → Passive → (ℕ → Value) → Request
call_at proc p a = record { proc = proc; globals = reads a (length p.consts) (length p.globals); args = reads a (length p.consts + length p.globals) (length p.ins) }

-- the values of those that the run comes to
abbrev pub values_taken : List Value → List ValueTerms → List Value
values_taken vs values = map (λ (v : ValueTerms). at vs v.node) (filter (λ (v : ValueTerms). is_on (at vs v.live)) values)

-- the values that the run takes
abbrev pub taken_by : Template → List Value → List Value
taken_by t vs = map (at vs) t.track.begin ++ values_taken vs t.track.values

-- the values that the layers below name are read off the track's nodes
abbrev pub TakenAreRead : Type 0
TakenAreRead =
    (flat : FlatProgram) (limits : List (List Bool)) (proc : ℕ) (t : Template) (a : ℕ → Value) → IsFlat flat → (h : IsTemplateOf flat limits proc t) → IsTrue (fits a t.nodes) →
    (reads a (length (first_sorts h.passive)) (length (start_sorts h.q h.q.kind)) ≡ map (at (values a t.nodes)) t.track.begin)
    × (true_values a t.nodes h.made.instance.values ≡ values_taken (values a t.nodes) t.track.values)

-- There is a run with this result, which passes the edges whose bits are true and takes values of the formula's variables. It makes the calls of the sites
-- whose bits are true, the first ones of its path, and they come back so, with all globals: where a callee fails, it fails in the assert x y.
pub record SaysRun (flat : FlatProgram) (limits : List (List Bool)) (proc : ℕ) (t : Template) (h : IsTemplateOf flat limits proc t) (a : ℕ → Value) (x y : ℕ) (result : Result) : Type 0 where
  pub taken : List Value
  pub begin : State
  pub results : List Result
  pub calls : List Request
  pub begins : Begins flat (track_at t a taken) (call_at proc h.passive a) h.q begin
  pub run : LocalRun flat h.q (consts_at h.passive a) (track_at t a taken) begin results calls result
  pub keep : AllKeep flat calls results
  pub passed : List ℕ
  pub more : List ℕ
  pub along : sites_passed h.q.blocks (track_at t a taken).path ≡ passed ++ more
  pub apart : (i : ℕ) → has_number more i ≡ true → has_number passed i ≡ false
  pub on : (i : ℕ) → is_passed (values a t.nodes) (slice_get t.sites i) ≡ has_number passed i
  pub calls_are : calls ≡ requests_of t (values a t.nodes) passed
  pub results_are : results ≡ results_of x y t (values a t.nodes) passed
  pub track_is : taken ≡ taken_by t (values a t.nodes)

-- where the bit is true that the run ends, there is such a run, which passes all sites of its path
abbrev pub EndsAreRuns : Type 0
EndsAreRuns =
    (flat : FlatProgram) (limits : List (List Bool)) (proc : ℕ) (t : Template) (a : ℕ → Value) → IsFlat flat → AreLimits flat limits → (h : IsTemplateOf flat limits proc t) → IsTrue (fits a t.nodes) → is_on (value a t.nodes t.ends) ≡ true →
    (x y : ℕ) → (s : SaysRun flat limits proc t h a x y (Ended (map (at (values a t.nodes)) t.outs) (map (at (values a t.nodes)) t.globals))) × (s.more ≡ [])

-- and where the bit is true that it fails, there is one that fails, whatever a callee that fails there fails with
abbrev pub FailuresAreRuns : Type 0
FailuresAreRuns =
    (flat : FlatProgram) (limits : List (List Bool)) (proc : ℕ) (t : Template) (a : ℕ → Value) → IsFlat flat → AreLimits flat limits → (h : IsTemplateOf flat limits proc t) → IsTrue (fits a t.nodes) → is_on (value a t.nodes t.fails) ≡ true →
    (x y : ℕ) → (p : ℕ) × (n : ℕ) × SaysRun flat limits proc t h a x y (Broken p n)

-- the two bits are never true at once
abbrev pub BitsAreNeverBoth : Type 0
BitsAreNeverBoth =
    (flat : FlatProgram) (limits : List (List Bool)) (proc : ℕ) (t : Template) (a : ℕ → Value) → IsFlat flat → IsTemplateOf flat limits proc t → IsTrue (fits a t.nodes) → is_on (value a t.nodes t.ends) ≡ true → is_on (value a t.nodes t.fails) ≡ false
