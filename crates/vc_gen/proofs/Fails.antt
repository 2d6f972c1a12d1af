-- From a block that is reached and fails to a run that fails.
use Rattle.std.proofs.Common.{◌≡◌, ℕ, List, [], ◌∷◌, ◌++◌, sym, ◌∙◌, ap, refl, append-nil}
use Rattle.std.specs.Prelude.{Some, slice_get}
use Rattle.hy_val.specs.declared.value.Value.{Value}
use Rattle.hy_val.specs.declared.expr.Env.{Env}
use Rattle.flat_prog.specs.declared.block.FlatCmd.{FlatCmd}
use Rattle.flat_prog.specs.declared.block.FlatBlock.{FlatBlock}
use Rattle.flat_prog.specs.declared.proc.FlatProc.{FlatProc}
use Rattle.passive_form.specs.Limited.{Limited}
use Rattle.passive_form.specs.Local.{State, alone, LocalFails, pass_all, fail}
use Rattle.flat_prog.specs.Local.{Request, Result, Broken}
use Rattle.vc_gen.proofs.Frames.{pass_all_frame}
use Rattle.vc_gen.proofs.Sound.{same_state}
use Rattle.vc_gen.proofs.Used.{pass_all_used}
use Rattle.vc_gen.proofs.Reach.{Reaches}

pub record Failing (flat : Limited) (q : FlatProc) (b : ℕ) (env : Env) (proc number : ℕ) : Type 0 where
  pub path : List ℕ
  pub places : List ℕ
  pub values : List Value
  pub results : List Result
  pub calls : List Request
  pub run : LocalFails flat q (record { proc = 0; path = b ∷ path; places = places; values = values }) (alone env values [] []) results calls proc number

-- more: no result at an assert, one Broken at a call; after: what the place adds to the calls
pub fails_at : (flat : Limited) (q : FlatProc) (b c : ℕ) (env over : Env) (edges : List (ℕ × ℕ)) (block : FlatBlock) (before after : List FlatCmd) (place : FlatCmd) (vs : List Value) (rs more : List Result) (s : State) (adds : List Request → List Request) (proc number : ℕ) →
    Reaches flat q b env c over edges → slice_get q.blocks c ≡ Some block → block.cmds ≡ before ++ place ∷ after → pass_all flat q before (alone over vs rs []) ≡ Some s →
    ((calls : List Request) → fail place (alone s.env [] more calls) ≡ Some (Broken proc number, adds calls)) → Failing flat q b env proc number
fails_at flat q b c env over edges block before after place vs rs more s adds proc number m at split passes fails =
    let u = pass_all_used flat q before (alone over vs rs []) s passes in
    record {
      path = m.path;
      places = m.places;
      values = m.values ++ u.values;
      results = m.results ++ (u.results ++ more);
      calls = adds (m.calls ++ u.calls);
      run = record {
        last = block;
        arrived = alone over u.values (u.results ++ more) m.calls;
        before = before;
        at = place;
        after = after;
        over = alone s.env [] more (m.calls ++ u.calls);
        walks = m.goes u.values (u.results ++ more) ∙ ap (λ x. Some (x, alone over u.values (u.results ++ more) m.calls)) at;
        splits = split;
        passes =
            ap (pass_all flat q before) (same_state over u.values (u.values ++ []) (u.results ++ more) (u.results ++ more) m.calls (m.calls ++ []) (sym (append-nil u.values)) refl (sym (append-nil m.calls)))
            ∙ pass_all_frame flat q before [] more m.calls (alone over u.values u.results []) (alone s.env [] [] u.calls) u.does;
        fails = fails (m.calls ++ u.calls);
        taken = refl;
      };
    }
