-- What a run takes and calls, block by block: each call of the commands that it passes has a result that ended.
use Rattle.std.proofs.Common.{◌≡◌, ℕ, ◌+◌, Bool, true, false, List, [], ◌∷◌, ◌++◌, length, refl, sym, ap, ◌∙◌, subst, arith, append_assoc, length-append}
use Rattle.std.specs.Prelude.{Option, None, Some, slice_get, if◌then◌else◌}
use Rattle.std.specs.Option.{option_and_then}
use Rattle.hy_val.specs.declared.expr.Var.{Var}
use Rattle.hy_val.specs.declared.value.Value.{Value}
use Rattle.hy_val.specs.Stores.{holds, is_value_of}
use Rattle.flat_prog.specs.Shape.{place_at}
use Rattle.flat_prog.specs.Sites.{calls_of}
use Rattle.flat_prog.specs.Local.{Result, Ended, Broken, Request}
use Rattle.flat_prog.specs.declared.block.FlatBlock.{FlatBlock}
use Rattle.flat_prog.specs.declared.block.FlatCmd.{FlatCmd}
use Rattle.flat_prog.specs.declared.block.FlatCmd.TheVariants.{Assign, Havoc, Assume, Assert, Call}
use Rattle.flat_prog.specs.declared.proc.FlatProc.{FlatProc}
use Rattle.passive_form.specs.Limited.{Limited}
use Rattle.passive_form.specs.Local.{State, pass, pass_all, havoc, havoc_with, come_back, request, result_fits, alone, cmds_of, is_target, walk, sort_of, write, write_all, after_call}

-- all of these ended
abbrev pub AllEnded : List Result → Type 0
AllEnded [] = Unit {0}
AllEnded (Ended outs globals ∷ rs) = AllEnded rs
AllEnded (Broken proc number ∷ rs) = ⊥

pub ended_both : (xs ys : List Result) → AllEnded xs → AllEnded ys → AllEnded (xs ++ ys)
ended_both [] ys h k = k
ended_both (Ended os gs ∷ xs) ys h k = ended_both xs ys h k
ended_both (Broken p n ∷ xs) ys h k = absurd h

-- so many results are taken from the front, all of which ended, and as many calls are made
pub record Takes (count : ℕ) (s t : State) : Type 0 where
  pub taken : List Result
  pub results_are : s.results ≡ taken ++ t.results
  pub ended : AllEnded taken
  pub each : length taken ≡ count
  pub made : length t.calls ≡ length s.calls + count

takes_none : (s t : State) → s.results ≡ t.results → s.calls ≡ t.calls → Takes 0 s t
takes_none s t e f = record { taken = []; results_are = e; ended = tt; each = refl; made = let n = ap length f in omega (arith, n) }

pub takes_both : (m n : ℕ) (r s t : State) → Takes m r s → Takes n s t → Takes (m + n) r t
takes_both m n r s t h k = record {
  taken = h.taken ++ k.taken;
  results_are = h.results_are ∙ ap (λ x. h.taken ++ x) k.results_are ∙ sym (append_assoc h.taken k.taken t.results);
  ended = ended_both h.taken k.taken h.ended k.ended;
  each = length-append h.taken k.taken ∙ ap (λ x. x + length k.taken) h.each ∙ ap (λ x. m + x) k.each;
  made = let a = h.made in let b = k.made in omega (arith, a, b);
}

havoc_takes : (flat : Limited) (q : FlatProc) (xs : List Var) (s t : State) → havoc flat q xs s ≡ Some t → Takes 0 s t
havoc_takes flat q [] s t h = let e : s ≡ t = cc in takes_none s t (ap (λ (x : State). x.results) e) (ap (λ (x : State). x.calls) e)
havoc_takes flat q (x ∷ xs) s t h = with_values s.values h (λ m k. havoc_takes flat q xs m t k)
  where
    with_bit : ((m : State) → havoc flat q xs m ≡ Some t → Takes 0 m t) → (v : Value) (vs : List Value) (b : Bool) → option_and_then (havoc flat q xs) (if b then Some (alone (write s.env x v) vs s.results s.calls) else None) ≡ Some t → Takes 0 s t
    with_bit more v vs true k =
        let r = more (alone (write s.env x v) vs s.results s.calls) k in
        record { taken = r.taken; results_are = r.results_are; ended = r.ended; each = r.each; made = r.made }
    with_bit more v vs false k = cc

    with_values : (vs : List Value) → option_and_then (havoc flat q xs) (havoc_with flat q x s vs) ≡ Some t → ((m : State) → havoc flat q xs m ≡ Some t → Takes 0 m t) → Takes 0 s t
    with_values [] k more = cc
    with_values (v ∷ vs) k more = with_bit more v vs (is_value_of (sort_of flat q x) v) k

back_takes : (flat : Limited) (s : State) (call : Request) (outs : List Var) (rs : List Result) (t : State) → s.results ≡ rs → come_back flat s call outs rs ≡ Some t → Takes 1 s t
back_takes flat s call outs [] t e h = cc
back_takes flat s call outs (Broken p n ∷ rest) t e h = cc
back_takes flat s call outs (Ended os gs ∷ rest) t e h = with_bit (result_fits flat call.proc os gs) h
  where
    with_bit : (b : Bool) → (if b then Some (alone (write_all (after_call flat call.proc s.env gs) outs os) s.values rest (s.calls ++ call ∷ [])) else None) ≡ Some t → Takes 1 s t
    with_bit true k =
        let same : alone (write_all (after_call flat call.proc s.env gs) outs os) s.values rest (s.calls ++ call ∷ []) ≡ t = cc in
        record {
          taken = Ended os gs ∷ [];
          results_are = e ∙ ap (λ (x : State). Ended os gs ∷ x.results) same;
          ended = tt;
          each = refl;
          made = sym (ap (λ (x : State). length x.calls) same) ∙ length-append s.calls (call ∷ []);
        }
    with_bit false k = cc

checked : (b : Bool) (s t : State) → (if b then Some s else None) ≡ Some t → Takes 0 s t
checked true s t h = let e : s ≡ t = cc in takes_none s t (ap (λ (x : State). x.results) e) (ap (λ (x : State). x.calls) e)
checked false s t h = cc

cmd_takes : (flat : Limited) (q : FlatProc) (c : FlatCmd) (s t : State) → pass flat q c s ≡ Some t → Takes (length (calls_of (c ∷ []))) s t
cmd_takes flat q (Assign pairs) s t h =
    let f : List Result = s.results in
    record {
      taken = [];
      results_are = some_results h;
      ended = tt;
      each = refl;
      made = let n = some_calls h in omega (arith, n);
    }
  where
    results_or : Option State → List Result
    results_or None = []
    results_or (Some x) = x.results

    calls_or : Option State → List Request
    calls_or None = []
    calls_or (Some x) = x.calls

    some_results : pass flat q (Assign pairs) s ≡ Some t → s.results ≡ t.results
    some_results k = ap results_or k

    some_calls : pass flat q (Assign pairs) s ≡ Some t → length s.calls ≡ length t.calls
    some_calls k = ap (λ x. length (calls_or x)) k
cmd_takes flat q (Havoc xs) s t h = havoc_takes flat q xs s t h
cmd_takes flat q (Assume e) s t h = checked (holds s.env e) s t h
cmd_takes flat q (Assert p n e) s t h = checked (holds s.env e) s t h
cmd_takes flat q (Call p args outs) s t h = back_takes flat s (request s p args) outs s.results t refl h

calls_first : (c : FlatCmd) (cs : List FlatCmd) → length (calls_of (c ∷ cs)) ≡ length (calls_of (c ∷ [])) + length (calls_of cs)
calls_first (Assign pairs) cs = omega arith
calls_first (Havoc xs) cs = omega arith
calls_first (Assume e) cs = omega arith
calls_first (Assert p n e) cs = omega arith
calls_first (Call p args outs) cs = omega arith

pub all_take : (flat : Limited) (q : FlatProc) (cmds : List FlatCmd) (s t : State) → pass_all flat q cmds s ≡ Some t → Takes (length (calls_of cmds)) s t
all_take flat q [] s t h = let e : s ≡ t = cc in takes_none s t (ap (λ (x : State). x.results) e) (ap (λ (x : State). x.calls) e)
all_take flat q (c ∷ cs) s t h = with_pass (pass flat q c s) refl h (λ m k. all_take flat q cs m t k)
  where
    with_pass : (o : Option State) → pass flat q c s ≡ o → option_and_then (pass_all flat q cs) o ≡ Some t → ((m : State) → pass_all flat q cs m ≡ Some t → Takes (length (calls_of cs)) m t) → Takes (length (calls_of (c ∷ cs))) s t
    with_pass None e k more = cc
    with_pass (Some m) e k more = subst (λ (n : ℕ). Takes n s t) (sym (calls_first c cs)) (takes_both (length (calls_of (c ∷ []))) (length (calls_of cs)) s m t (cmd_takes flat q c s m e) (more m k))

-- ---- a walk

-- how many calls the blocks of a path have but for the last
abbrev pub calls_before : FlatProc → List ℕ → ℕ
calls_before q [] = 0
calls_before q (b ∷ []) = 0
calls_before q (b ∷ next ∷ path) = length (calls_of (cmds_of (slice_get q.blocks b))) + calls_before q (next ∷ path)

abbrev results_or : Option (Option FlatBlock × State) → List Result
results_or None = []
results_or (Some x) = x.1.results

abbrev calls_or : Option (Option FlatBlock × State) → List Request
calls_or None = []
calls_or (Some x) = x.1.calls

pub walk_takes : (flat : Limited) (q : FlatProc) (path places : List ℕ) (s : State) (o : Option FlatBlock) (t : State) → walk flat q path places s ≡ Some (o, t) → Takes (calls_before q path) s t
walk_takes flat q [] places s o t h = cc
walk_takes flat q (b ∷ []) [] s o t h = takes_none s t (ap results_or h) (ap calls_or h)
walk_takes flat q (b ∷ []) (place ∷ places) s o t h = cc
walk_takes flat q (b ∷ next ∷ path) [] s o t h = cc
walk_takes flat q (b ∷ next ∷ path) (place ∷ places) s o t h = with_bit (is_target (place_at (slice_get q.blocks b) place) next) h (λ m k. walk_takes flat q (next ∷ path) places m o t k)
  where
    with_pass : (p : Option State) → pass_all flat q (cmds_of (slice_get q.blocks b)) s ≡ p → option_and_then (walk flat q (next ∷ path) places) p ≡ Some (o, t) →
        ((m : State) → walk flat q (next ∷ path) places m ≡ Some (o, t) → Takes (calls_before q (next ∷ path)) m t) → Takes (calls_before q (b ∷ next ∷ path)) s t
    with_pass None e k more = cc
    with_pass (Some m) e k more =
        takes_both (length (calls_of (cmds_of (slice_get q.blocks b)))) (calls_before q (next ∷ path)) s m t (all_take flat q (cmds_of (slice_get q.blocks b)) s m e) (more m k)

    with_bit : (c : Bool) → (if c then option_and_then (walk flat q (next ∷ path) places) (pass_all flat q (cmds_of (slice_get q.blocks b)) s) else None) ≡ Some (o, t) →
        ((m : State) → walk flat q (next ∷ path) places m ≡ Some (o, t) → Takes (calls_before q (next ∷ path)) m t) → Takes (calls_before q (b ∷ next ∷ path)) s t
    with_bit true k more = with_pass (pass_all flat q (cmds_of (slice_get q.blocks b)) s) refl k more
    with_bit false k more = cc
