-- The values of a run are those whose bits are true.
use Rattle.std.specs.Prelude.{◌≡◌, ℕ, ◌+◌, true, List, ◌∷◌, ◌++◌, map, length, take, IsTrue}
use Rattle.hy_val.specs.Values.{is_on}
use Rattle.hy_val.specs.declared.value.Value.{Value}
use Rattle.hy_term.specs.Meaning.{value, fits}
use Rattle.hy_term.specs.Variables.{reads}
use Rattle.hy_term.specs.declared.node.TermNode.{TermNode}
use Rattle.flat_prog.specs.declared.proc.FlatProc.{FlatProc}
use Rattle.flat_prog.specs.Local.{Result, Request, edges_of}
use Rattle.passive_form.specs.Limited.{Limited}
use Rattle.vc_gen.specs.Fold.{seen}
use Rattle.vc_gen.specs.Passages.{blame}
use Rattle.vc_gen.specs.Inputs.{givens_at}
use Rattle.vc_gen.specs.Emit.{site_value}
use Rattle.vc_gen.specs.Exact.{true_edges, asked, given_back}
use Rattle.vc_gen.specs.Instance.{start_sorts, first_edge, run_values, Built, EndsFrom, FailsFrom}
use Rattle.vc_gen.specs.Taken.{true_values, ValuesThere, all_values}
use Rattle.vc_gen.specs.declared.parts.Actuals.{Actuals}
use Rattle.vc_gen.specs.declared.parts.EdgeTerm.{EdgeTerm}
use Rattle.vc_gen.specs.declared.parts.SiteTerm.{SiteTerm}
use Rattle.vc_gen.specs.declared.parts.ValueTerm.{ValueTerm}
use Rattle.vc_gen.specs.declared.parts.Wait.{Wait}

-- the blocks have become terms, and the values that they take
pub record BuiltValued (flat : Limited) (q : FlatProc) (order : List ℕ) (actuals : Actuals) (k : ℕ) (old new : List TermNode) (left : List Wait) (ended fails : ℕ) (outs globals : List ℕ) (edges : List EdgeTerm) (sites : List SiteTerm) (vals : List ValueTerm) : Type 0 where
  pub built : Built flat q order actuals k old new left ended fails outs globals edges sites
  pub there : ValuesThere new vals
  pub are : (a : ℕ → Value) → IsTrue (fits a new) →
      true_values a new vals ≡ all_values flat q (seen flat q (built.env a) (givens_at flat q a (k + length (start_sorts q q.kind)) order) (first_edge (built.env a)))

-- the values that are taken as the procedure begins, and those of the blocks whose bits are true
abbrev pub begin_and_true : FlatProc → ℕ → (ℕ → Value) → List TermNode → List ValueTerm → List Value
begin_and_true q k a nodes vals = reads a k (length (start_sorts q q.kind)) ++ true_values a nodes vals

-- a run that ends, and takes its values as the variables have them, takes these
abbrev pub EndsValued : Limited → FlatProc → List ℕ → Actuals → ℕ → List TermNode → ℕ → List EdgeTerm → List ValueTerm → Type 0
EndsValued flat q order actuals k nodes ended edges vals =
    (a : ℕ → Value) → IsTrue (fits a nodes) → is_on (value a nodes ended) ≡ true → (path places : List ℕ) (values : List Value) (results : List Result) (calls : List Request) (os gs : List Value) →
    EndsFrom flat q actuals a nodes path places values results calls os gs → edges_of (0 ∷ path) places ≡ true_edges a nodes edges → values ≡ run_values flat q order k a (0 ∷ path) → values ≡ begin_and_true q k a nodes vals

-- the same for a run that fails: of its last block it takes those alone that stand before the command that fails
abbrev pub FailsValued : Limited → FlatProc → List ℕ → Actuals → ℕ → List TermNode → ℕ → List EdgeTerm → List SiteTerm → List ValueTerm → Type 0
FailsValued flat q order actuals k nodes fails edges sites vals =
    (a : ℕ → Value) → IsTrue (fits a nodes) → is_on (value a nodes fails) ≡ true → (path places : List ℕ) (values : List Value) (results : List Result) (calls : List Request) (proc number : ℕ) →
    FailsFrom flat q actuals a nodes path places values results calls proc number → edges_of (0 ∷ path) places ≡ true_edges a nodes edges → calls ≡ asked (map (site_value a nodes) sites) →
    map blame results ≡ map blame (given_back (map (site_value a nodes) sites)) → values ≡ take (length values) (run_values flat q order k a (0 ∷ path)) → values ≡ begin_and_true q k a nodes vals
