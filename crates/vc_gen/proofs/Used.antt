-- What commands take of the values and results, and that they do the same with these alone.
use Rattle.std.proofs.Common.{◌≡◌, ℕ, Bool, if◌then◌else◌, List, [], ◌∷◌, ◌++◌, sym, ◌∙◌, ap, refl, append_assoc, append-nil}
use Rattle.std.specs.Prelude.{Option, None, Some, option_and_then}
use Rattle.hy_val.specs.declared.value.Value.{Value}
use Rattle.hy_val.specs.declared.expr.Var.{Var}
use Rattle.hy_val.specs.declared.expr.ExprNode.{ExprNode}
use Rattle.flat_prog.specs.declared.block.FlatCmd.{FlatCmd}
use Rattle.flat_prog.specs.declared.block.FlatCmd.TheVariants.{Assign, Havoc, Assume, Assert, Call}
use Rattle.flat_prog.specs.declared.proc.FlatProc.{FlatProc}
use Rattle.passive_form.specs.Limited.{Limited}
use Rattle.passive_form.specs.Local.{State, alone, havoc, havoc_with, pass, pass_all, come_back, request, sort_of, result_fits, after_call, write, write_all, targets_of, assigned}
use Rattle.flat_prog.specs.Local.{Request, Result, Ended, Broken}
use Rattle.hy_val.specs.Stores.{holds, is_value_of}
use Rattle.vc_gen.proofs.Frames.{framed, choose_some, and_then_some, pass_frame, pass_all_frame, havoc_frame, havoc_one_frame}
use Rattle.vc_gen.proofs.Sound.{same_state}

-- from s to t the part f takes these values and results and makes these calls
pub record Used (f : State → Option State) (s t : State) : Type 0 where
  pub values : List Value
  pub results : List Result
  pub calls : List Request
  pub values_are : s.values ≡ values ++ t.values
  pub results_are : s.results ≡ results ++ t.results
  pub calls_are : t.calls ≡ s.calls ++ calls
  pub does : f (alone s.env values results []) ≡ Some (alone t.env [] [] calls)

-- nothing is taken, and the state stays
nothing : (f : State → Option State) (s t : State) → s ≡ t → f (alone s.env [] [] []) ≡ Some (alone s.env [] [] []) → Used f s t
nothing f s t e h = record {
  values = [];
  results = [];
  calls = [];
  values_are = ap (λ (x : State). x.values) e;
  results_are = ap (λ (x : State). x.results) e;
  calls_are = ap (λ (x : State). x.calls) (sym e) ∙ sym (append-nil s.calls);
  does = h ∙ ap (λ (x : State). Some (alone x.env [] [] [])) e;
}

-- one after the other
pub after_each : (flat : Limited) (q : FlatProc) (f g : State → Option State) →
    ((vs : List Value) (rs : List Result) (cs : List Request) (s t : State) → f s ≡ Some t → f (framed vs rs cs s) ≡ Some (framed vs rs cs t)) →
    ((vs : List Value) (rs : List Result) (cs : List Request) (s t : State) → g s ≡ Some t → g (framed vs rs cs s) ≡ Some (framed vs rs cs t)) →
    (s m t : State) → Used f s m → Used g m t → Used (λ x. option_and_then g (f x)) s t
after_each flat q f g ff gf s m t u v = record {
  values = u.values ++ v.values;
  results = u.results ++ v.results;
  calls = u.calls ++ v.calls;
  values_are = u.values_are ∙ ap (λ x. u.values ++ x) v.values_are ∙ sym (append_assoc u.values v.values t.values);
  results_are = u.results_are ∙ ap (λ x. u.results ++ x) v.results_are ∙ sym (append_assoc u.results v.results t.results);
  calls_are = v.calls_are ∙ ap (λ x. x ++ v.calls) u.calls_are ∙ append_assoc s.calls u.calls v.calls;
  does =
      ap (option_and_then g) (ff v.values v.results [] (alone s.env u.values u.results []) (alone m.env [] [] u.calls) u.does)
      ∙ ap g (same_state m.env v.values (v.values ++ []) v.results (v.results ++ []) u.calls (u.calls ++ []) (sym (append-nil v.values)) (sym (append-nil v.results)) (sym (append-nil u.calls)))
      ∙ gf [] [] u.calls (alone m.env v.values v.results []) (alone t.env [] [] v.calls) v.does;
}

havoc_one : (flat : Limited) (q : FlatProc) (x : Var) (s t : State) (values : List Value) → s.values ≡ values → havoc_with flat q x s values ≡ Some t → Used (λ s. havoc_with flat q x s s.values) s t
havoc_one flat q x s t [] are h = cc
havoc_one flat q x s t (v ∷ vs) are h =
    let c = choose_some (is_value_of (sort_of flat q x) v) (alone (write s.env x v) vs s.results s.calls) t h in
    record {
      values = v ∷ [];
      results = [];
      calls = [];
      values_are = are ∙ ap (λ (y : State). v ∷ y.values) c.1;
      results_are = ap (λ (y : State). y.results) c.1;
      calls_are = ap (λ (y : State). y.calls) (sym c.1) ∙ sym (append-nil s.calls);
      does = ap (λ b. if b then Some (alone (write s.env x v) [] [] []) else None) c.0 ∙ ap (λ (y : State). Some (alone y.env [] [] [])) c.1;
    }

havoc_one_frames : (flat : Limited) (q : FlatProc) (x : Var) (vs : List Value) (rs : List Result) (cs : List Request) (s t : State) →
    havoc_with flat q x s s.values ≡ Some t → havoc_with flat q x (framed vs rs cs s) (s.values ++ vs) ≡ Some (framed vs rs cs t)
havoc_one_frames flat q x vs rs cs s t h = havoc_one_frame flat q x vs rs cs s s.values t h

havoc_used : (flat : Limited) (q : FlatProc) (xs : List Var) (s t : State) → havoc flat q xs s ≡ Some t → Used (havoc flat q xs) s t
havoc_used flat q [] s t h = let e : s ≡ t = cc in nothing (havoc flat q []) s t e refl
havoc_used flat q (x ∷ xs) s t h =
    let m = and_then_some (havoc flat q xs) (havoc_with flat q x s s.values) t h in
    after_each flat q (λ y. havoc_with flat q x y y.values) (havoc flat q xs)
    (havoc_one_frames flat q x) (λ vs rs cs. havoc_frame flat q xs vs rs cs) s m.0 t
    (havoc_one flat q x s m.0 s.values refl m.1) (havoc_used flat q xs m.0 t m.2)

test_used : (f : State → Option State) (b : Bool) (s t : State) → f (alone s.env [] [] []) ≡ (if b then Some (alone s.env [] [] []) else None) → (if b then Some s else None) ≡ Some t → Used f s t
test_used f b s t e h =
    let c = choose_some b s t h in
    nothing f s t c.1 (e ∙ ap (λ x. if x then Some (alone s.env [] [] []) else None) c.0)

call_used : (flat : Limited) (q : FlatProc) (p : ℕ) (args : List (List ExprNode)) (outs : List Var) (s t : State) (results : List Result) → s.results ≡ results →
    come_back flat s (request s p args) outs results ≡ Some t → Used (pass flat q (Call p args outs)) s t
call_used flat q p args outs s t [] are h = cc
call_used flat q p args outs s t (Broken a b ∷ rs) are h = cc
call_used flat q p args outs s t (Ended os gs ∷ rs) are h =
    let env = write_all (after_call flat p s.env gs) outs os in
    let c = choose_some (result_fits flat p os gs) (alone env s.values rs (s.calls ++ request s p args ∷ [])) t h in
    let e : ◌≡◌ {A = State} (alone env s.values rs (s.calls ++ request s p args ∷ [])) t = c.1 in
    record {
      values = [];
      results = Ended os gs ∷ [];
      calls = request s p args ∷ [];
      values_are = ap (λ (y : State). y.values) e;
      results_are = are ∙ ap (λ (y : State). Ended os gs ∷ y.results) e;
      calls_are = ap (λ (y : State). y.calls) (sym e);
      does = ap (λ b. if b then Some (alone env [] [] (request s p args ∷ [])) else None) c.0 ∙ ap (λ (y : State). Some (alone y.env [] [] (request s p args ∷ []))) e;
    }

pub pass_used : (flat : Limited) (q : FlatProc) (c : FlatCmd) (s t : State) → pass flat q c s ≡ Some t → Used (pass flat q c) s t
pass_used flat q (Assign pairs) s t h =
    let e : ◌≡◌ {A = State} (alone (write_all s.env (targets_of pairs) (assigned s.env pairs)) s.values s.results s.calls) t = cc in
    record {
      values = [];
      results = [];
      calls = [];
      values_are = ap (λ (x : State). x.values) e;
      results_are = ap (λ (x : State). x.results) e;
      calls_are = ap (λ (x : State). x.calls) (sym e) ∙ sym (append-nil s.calls);
      does = ap (λ (x : State). Some (alone x.env [] [] [])) e;
    }
pass_used flat q (Havoc xs) s t h = havoc_used flat q xs s t h
pass_used flat q (Assume e) s t h = test_used (pass flat q (Assume e)) (holds s.env e) s t refl h
pass_used flat q (Assert p n e) s t h = test_used (pass flat q (Assert p n e)) (holds s.env e) s t refl h
pass_used flat q (Call p args outs) s t h = call_used flat q p args outs s t s.results refl h

pub pass_all_used : (flat : Limited) (q : FlatProc) (cmds : List FlatCmd) (s t : State) → pass_all flat q cmds s ≡ Some t → Used (pass_all flat q cmds) s t
pass_all_used flat q [] s t h = let e : s ≡ t = cc in nothing (pass_all flat q []) s t e refl
pass_all_used flat q (c ∷ cmds) s t h =
    let m = and_then_some (pass_all flat q cmds) (pass flat q c s) t h in
    after_each flat q (pass flat q c) (pass_all flat q cmds)
    (pass_frame flat q c) (pass_all_frame flat q cmds) s m.0 t
    (pass_used flat q c s m.0 m.1) (pass_all_used flat q cmds m.0 t m.2)
