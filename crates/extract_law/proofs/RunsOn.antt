-- Flat runs from within a block, put together from their end: over a command, over an edge, over a call.
use Rattle.std.proofs.Common.{◌≡◌, ℕ, Bool, true, false, if◌then◌else◌, List, [], ◌∷◌, ◌++◌, sym, ◌∙◌, ap, refl, subst, append_assoc}
use Rattle.std.proofs.lemmas.List.{append-nil}
use Rattle.std.specs.Prelude.{None, Some, slice_get, IsTrue}
use Rattle.std.specs.Option.{option_and_then}
use Rattle.hy_val.specs.declared.expr.ExprNode.{ExprNode}
use Rattle.hy_val.specs.declared.expr.Var.{Var}
use Rattle.hy_val.specs.declared.value.Value.{Value}
use Rattle.hy_val.specs.Stores.{Store, write_all, holds}
use Rattle.flat_prog.specs.Program.{FlatProgram}
use Rattle.flat_prog.specs.Shape.{place_of}
use Rattle.flat_prog.specs.Caps.{kind_of, may_follow, Capped, CappedBelow}
use Rattle.flat_prog.specs.Local.{Result, Ended, Broken, Request, State, request, can_come_back, pass, pass_all, outs_of, Tail}
use Rattle.hy_val.specs.Stores.{env_with}
use Rattle.flat_prog.specs.Trees.{Run, Below, none, inner, track_of, Never, Answer, IsCall}
use Rattle.flat_prog.specs.declared.block.FlatBlock.{FlatBlock}
use Rattle.flat_prog.specs.declared.block.FlatCmd.{FlatCmd}
use Rattle.flat_prog.specs.declared.block.FlatCmd.TheVariants.{Assume, Assert, Call}
use Rattle.flat_prog.specs.declared.block.FlatNext.{FlatNext}
use Rattle.flat_prog.specs.declared.block.FlatNext.TheVariants.{Return}
use Rattle.flat_prog.specs.declared.proc.FlatProc.{FlatProc}

module _ (flat : FlatProgram) (bound : ℕ) (consts : List Value) where
  -- a flat run of a procedure from here on, with the runs below it within the caps, where these procedures stand on the way, its own first
  pub record RunsOn (q : FlatProc) (passed : List ℕ) (cmds : List FlatCmd) (next : FlatNext) (store : Store) (result : Result) : Type 0 where
    pub path : List ℕ
    pub places : List ℕ
    pub values : List Value
    pub results : List Result
    pub calls : List Request
    pub below : Below
    pub tail : (before : List Request) → Tail flat q consts path places cmds next (record { store = store; values = values; results = results; calls = before }) (before ++ calls) result
    pub answers : Answer below flat Never consts calls results
    pub capped : CappedBelow below flat bound passed

  -- along an edge
  pub along_edge : (q : FlatProc) (passed : List ℕ) (next : FlatNext) (store : Store) (place to : ℕ) (b : FlatBlock) → place_of next place ≡ Some to → slice_get q.blocks to ≡ Some b → (r : Result) →
      RunsOn q passed b.cmds b.next store r → RunsOn q passed [] next store r
  along_edge q passed next store place to b there block_is r k = record {
    path = to ∷ k.path;
    places = place ∷ k.places;
    values = k.values;
    results = k.results;
    calls = k.calls;
    below = k.below;
    tail = λ before. (b, record { store = store; values = k.values; results = k.results; calls = before }, refl, there, block_is, k.tail before);
    answers = k.answers;
    capped = k.capped;
  }

  tail_cons : (q : FlatProc) (c : FlatCmd) (path places : List ℕ) (cmds : List FlatCmd) (next : FlatNext) (s t : State) (calls : List Request) (r : Result) →
      pass flat q consts c s ≡ Some t → Tail flat q consts path places cmds next t calls r → Tail flat q consts path places (c ∷ cmds) next s calls r
  tail_cons q c [] [] cmds next s t calls (Ended os gs) e k =
      record { over = k.over; passes = ap (option_and_then (pass_all flat q consts cmds)) e ∙ k.passes; returns = k.returns; values = k.values; results = k.results; calls_are = k.calls_are; outs_are = k.outs_are; globals_are = k.globals_are }
  tail_cons q c [] [] cmds next s t calls (Broken p n) e k =
      record { before = c ∷ k.before; at = k.at; behind = k.behind; over = k.over; splits = ap (λ cs. c ∷ cs) k.splits; passes = ap (option_and_then (pass_all flat q consts k.before)) e ∙ k.passes; fails = k.fails; values = k.values }
  tail_cons q c [] (place ∷ places) cmds next s t calls r e k = absurd k
  tail_cons q c (b ∷ path) [] cmds next s t calls r e k = absurd k
  tail_cons q c (b ∷ path) (place ∷ places) cmds next s t calls r e (block, u, passes, there, is, k) =
      (block, u, ap (option_and_then (pass_all flat q consts cmds)) e ∙ passes, there, is, k)

  -- over a command that takes these values and no results
  pub over_command : (q : FlatProc) (passed : List ℕ) (c : FlatCmd) (cmds : List FlatCmd) (next : FlatNext) (store after : Store) (values : List Value) (r : Result) →
      ((vs : List Value) (rs : List Result) (cs : List Request) → pass flat q consts c (record { store = store; values = values ++ vs; results = rs; calls = cs }) ≡ Some (record { store = after; values = vs; results = rs; calls = cs })) →
      RunsOn q passed cmds next after r → RunsOn q passed (c ∷ cmds) next store r
  over_command q passed c cmds next store after values r passes k = record {
    path = k.path;
    places = k.places;
    values = values ++ k.values;
    results = k.results;
    calls = k.calls;
    below = k.below;
    tail = λ before. tail_cons q c k.path k.places cmds next (record { store = store; values = values ++ k.values; results = k.results; calls = before }) (record { store = after; values = k.values; results = k.results; calls = before }) (before ++ k.calls) r (passes k.values k.results before) (k.tail before);
    answers = k.answers;
    capped = k.capped;
  }

  pub over_test : (q : FlatProc) (passed : List ℕ) (expr : List ExprNode) (cmds : List FlatCmd) (next : FlatNext) (store : Store) (r : Result) → holds (env_with consts store) expr ≡ true → RunsOn q passed cmds next store r → RunsOn q passed (Assume expr ∷ cmds) next store r
  over_test q passed expr cmds next store r h k =
      over_command q passed (Assume expr) cmds next store store [] r (λ vs rs cs. ap (λ b. if b then Some (record { store = store; values = vs; results = rs; calls = cs }) else None) h) k

  -- the run returns
  pub returns : (q : FlatProc) (passed : List ℕ) (next : FlatNext) (store : Store) → next ≡ Return → (os gs : List Value) → os ≡ outs_of q store.locals → gs ≡ store.globals → RunsOn q passed [] next store (Ended os gs)
  returns q passed next store e os gs os_are gs_are = record {
    path = [];
    places = [];
    values = [];
    results = [];
    calls = [];
    below = none;
    tail = λ before. record { over = record { store = store; values = []; results = []; calls = before }; passes = refl; returns = e; values = refl; results = refl; calls_are = append-nil before; outs_are = os_are; globals_are = gs_are };
    answers = tt;
    capped = tt;
  }

  -- an assert fails
  pub fails_here : (q : FlatProc) (passed : List ℕ) (p n : ℕ) (expr : List ExprNode) (cmds : List FlatCmd) (next : FlatNext) (store : Store) → holds (env_with consts store) expr ≡ false → RunsOn q passed (Assert p n expr ∷ cmds) next store (Broken p n)
  fails_here q passed p n expr cmds next store wrong = record {
    path = [];
    places = [];
    values = [];
    results = [];
    calls = [];
    below = none;
    tail = λ before. record {
      before = [];
      at = Assert p n expr;
      behind = cmds;
      over = record { store = store; values = []; results = []; calls = before };
      splits = refl;
      passes = refl;
      fails = ap (λ b. if b then None else Some (Broken p n, before)) wrong ∙ ap (λ cs. Some (Broken p n, cs)) (sym (append-nil before));
      values = refl;
    };
    answers = tt;
    capped = tt;
  }

  -- a run below a call
  pub record RunsBelow (passed : List ℕ) (call : Request) (result : Result) : Type 0 where
    pub run : Run
    pub is_call : IsCall flat Never consts run call result
    pub may : IsTrue (may_follow bound (kind_of (slice_get flat.procs (track_of run).proc)) (track_of run).proc passed)
    pub capped : Capped run flat bound ((track_of run).proc ∷ passed)

  come_back_if : (b : Bool) (s t : State) → b ≡ true → s ≡ t → (if b then Some s else None) ≡ Some t
  come_back_if true s t h e = ap (λ (u : State). Some u) e
  come_back_if false s t h e = absurd cc

  pub over_call : (q : FlatProc) (passed : List ℕ) (p : ℕ) (args : List (List ExprNode)) (outs : List Var) (cmds : List FlatCmd) (next : FlatNext) (store after : Store) (os gs : List Value) (r : Result) →
      RunsBelow passed (request consts store p args) (Ended os gs) → can_come_back flat p os gs ≡ true → write_all (record { globals = gs; locals = store.locals }) outs os ≡ after →
      RunsOn q passed cmds next after r → RunsOn q passed (Call p args outs ∷ cmds) next store r
  over_call q passed p args outs cmds next store after os gs r i can is k =
      let call = request consts store p args in
      record {
        path = k.path;
        places = k.places;
        values = k.values;
        results = Ended os gs ∷ k.results;
        calls = call ∷ k.calls;
        below = inner i.run k.below;
        tail = λ before. tail_cons q (Call p args outs) k.path k.places cmds next
            (record { store = store; values = k.values; results = Ended os gs ∷ k.results; calls = before }) (record { store = after; values = k.values; results = k.results; calls = before ++ call ∷ [] }) (before ++ call ∷ k.calls) r
            (come_back_if (can_come_back flat p os gs) (record { store = write_all (record { globals = gs; locals = store.locals }) outs os; values = k.values; results = k.results; calls = before ++ call ∷ [] }) (record { store = after; values = k.values; results = k.results; calls = before ++ call ∷ [] }) can
            (ap (λ (t : Store). record { store = t; values = k.values; results = k.results; calls = before ++ call ∷ [] }) is))
            (subst (λ cs. Tail flat q consts k.path k.places cmds next (record { store = after; values = k.values; results = k.results; calls = before ++ call ∷ [] }) cs r) (append_assoc before (call ∷ []) k.calls) (k.tail (before ++ call ∷ [])));
        answers = (i.is_call, k.answers);
        capped = (i.may, i.capped, k.capped);
      }

  pub call_fails_here : (q : FlatProc) (passed : List ℕ) (p : ℕ) (args : List (List ExprNode)) (outs : List Var) (cmds : List FlatCmd) (next : FlatNext) (store : Store) (proc number : ℕ) →
      RunsBelow passed (request consts store p args) (Broken proc number) → RunsOn q passed (Call p args outs ∷ cmds) next store (Broken proc number)
  call_fails_here q passed p args outs cmds next store proc number i =
      let call = request consts store p args in
      record {
        path = [];
        places = [];
        values = [];
        results = Broken proc number ∷ [];
        calls = call ∷ [];
        below = inner i.run none;
        tail = λ before. record { before = []; at = Call p args outs; behind = cmds; over = record { store = store; values = []; results = Broken proc number ∷ []; calls = before }; splits = refl; passes = refl; fails = refl; values = refl };
        answers = (i.is_call, tt);
        capped = (i.may, i.capped, tt);
      }
