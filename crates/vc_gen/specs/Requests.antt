-- What holds of a formula's calls and runs whatever the new variables are: what a call is asked for reads no variable from its own on, the globals
-- behind it have their sorts, and a run from the actuals stays one.
use Rattle.std.specs.Prelude.{◌≡◌, ℕ, ◌<◌, List}
use Rattle.hy_val.specs.declared.value.Value.{Value}
use Rattle.hy_term.specs.Meaning.{value}
use Rattle.hy_term.specs.declared.node.TermNode.{TermNode}
use Rattle.passive_form.specs.Limited.{Limited}
use Rattle.vc_gen.specs.Emit.{SiteThere}
use Rattle.flat_prog.specs.Local.{Result, Request}
use Rattle.flat_prog.specs.declared.proc.FlatProc.{FlatProc}
use Rattle.passive_form.specs.declared.Passive.{Passive}
use Rattle.vc_gen.specs.Instance.{all_at, EndsFrom, FailsFrom}
use Rattle.vc_gen.specs.Whole.{InstanceReady}
use Rattle.vc_gen.specs.declared.parts.Actuals.{Actuals}
use Rattle.vc_gen.specs.Signed.{SiteSigned, SiteAsked}
use Rattle.vc_gen.specs.Standing.{Later, AreOf}
use Rattle.vc_gen.specs.declared.parts.SiteTerm.{SiteTerm}

-- all globals behind a call have their sorts
abbrev pub GlobalsBehindCalls : Type 0
GlobalsBehindCalls = (flat : Limited) (nodes : List TermNode) (s : SiteTerm) → SiteSigned flat nodes s → SiteAsked flat nodes s → AreOf nodes s.globals_after flat.globals

-- two assignments say the same of the nodes before a call's variables, and of what it is asked for
pub record SameBefore (nodes : List TermNode) (s : SiteTerm) (a b : ℕ → Value) : Type 0 where
  pub each : (t : ℕ) → t < s.failed → value a nodes t ≡ value b nodes t
  pub args : all_at a nodes s.args ≡ all_at b nodes s.args
  pub globals : all_at a nodes s.globals_before ≡ all_at b nodes s.globals_before

-- they do where they agree on the variables before the call's
abbrev pub CallsReadBefore : Type 0
CallsReadBefore = (nodes : List TermNode) (s : SiteTerm) (a b : ℕ → Value) → SiteThere nodes s → ((n : ℕ) → n < s.first → a n ≡ b n) → SameBefore nodes s a b

-- ---- runs, when the terms grow

-- A run from the actuals is one under each assignment that agrees on the variables before the new ones, over the terms that have grown.
pub record SameRuns (flat : Limited) (q : FlatProc) (actuals : Actuals) (a b : ℕ → Value) (old new : List TermNode) : Type 0 where
  pub ends : (path places : List ℕ) (values : List Value) (results : List Result) (calls : List Request) (os gs : List Value) →
      EndsFrom flat q actuals a old path places values results calls os gs → EndsFrom flat q actuals b new path places values results calls os gs
  pub fails : (path places : List ℕ) (values : List Value) (results : List Result) (calls : List Request) (proc number : ℕ) →
      FailsFrom flat q actuals a old path places values results calls proc number → FailsFrom flat q actuals b new path places values results calls proc number

abbrev pub RunsStay : Type 0
RunsStay =
    (flat : Limited) (q : FlatProc) (p : Passive) (actuals : Actuals) (k : ℕ) (old new : List TermNode) (a b : ℕ → Value) → InstanceReady old p actuals k → Later old new → ((n : ℕ) → n < k → b n ≡ a n) →
    SameRuns flat q actuals a b old new
