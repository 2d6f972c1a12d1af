-- A run from the actuals stays one, whatever the new variables are.
use Rattle.std.proofs.Common.{◌≡◌, ℕ, ◌<◌, List, [], map, sym, ◌∙◌, ap}
use Rattle.std.specs.Prelude.{Some, IsTrue}
use Rattle.hy_val.specs.Values.{at}
use Rattle.hy_val.specs.declared.sort.Sort.{Sort}
use Rattle.hy_val.specs.declared.value.Value.{Value}
use Rattle.hy_term.specs.Variables.{below}
use Rattle.hy_term.specs.declared.node.TermNode.{TermNode}
use Rattle.flat_prog.specs.declared.proc.FlatProc.{FlatProc}
use Rattle.passive_form.specs.Local.{State, start}
use Rattle.passive_form.specs.declared.Passive.{Passive}
use Rattle.vc_gen.specs.Instance.{all_at}
use Rattle.vc_gen.specs.Requests.{RunsStay}
use Rattle.vc_gen.specs.Standing.{Later, AreOf}
use Rattle.vc_gen.specs.Whole.{InstanceReady}
use Rattle.vc_gen.specs.declared.parts.Actuals.{Actuals}
use Rattle.vc_gen.proofs.Earlier.{values_same}
use Rattle.vc_gen.proofs.Growth.{map_later}

-- the terms of old nodes
same_at : (k : ℕ) (old new : List TermNode) (a b : ℕ → Value) (ts : List ℕ) (ss : List Sort) → Later old new → IsTrue (below k old) → ((n : ℕ) → n < k → b n ≡ a n) → AreOf old ts ss → all_at a old ts ≡ all_at b new ts
same_at k old new a b ts ss later low same are =
    ap (λ (vs : List Value). map (at vs) ts) (values_same a b k [] old (λ n l. sym (same n l)) low) ∙ sym (map_later old new b ts ss later are)

same_start : (q : FlatProc) (p : Passive) (actuals : Actuals) (k : ℕ) (old new : List TermNode) (a b : ℕ → Value) (vals : List Value) (s : State) → InstanceReady old p actuals k → Later old new → ((n : ℕ) → n < k → b n ≡ a n) →
    start q q.kind (all_at a old actuals.consts) (all_at a old actuals.globals) (all_at a old actuals.args) vals ≡ Some s → start q q.kind (all_at b new actuals.consts) (all_at b new actuals.globals) (all_at b new actuals.args) vals ≡ Some s
same_start q p actuals k old new a b vals s r later same h =
    let consts = same_at k old new a b actuals.consts p.consts later r.below same r.consts in
    let globals = same_at k old new a b actuals.globals p.globals later r.below same r.globals in
    let args = same_at k old new a b actuals.args p.ins later r.below same r.args in
    sym (ap (λ x. start q q.kind x (all_at a old actuals.globals) (all_at a old actuals.args) vals) consts ∙ ap (λ x. start q q.kind (all_at b new actuals.consts) x (all_at a old actuals.args) vals) globals
    ∙ ap (λ x. start q q.kind (all_at b new actuals.consts) (all_at b new actuals.globals) x vals) args) ∙ h

pub stay : RunsStay
stay flat q p actuals k old new a b r later same = record {
  ends = λ path places vals results calls os gs run. record { begin = run.begin; begin_is = same_start q p actuals k old new a b vals run.begin r later same run.begin_is; run = run.run };
  fails = λ path places vals results calls proc number run. record { begin = run.begin; begin_is = same_start q p actuals k old new a b vals run.begin r later same run.begin_is; run = run.run };
}
