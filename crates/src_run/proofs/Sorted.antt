-- What is known where a run is sorted: the expressions of a command that fits can be evaluated, and so can the axioms, and their values have their sorts.
use Rattle.std.proofs.Common.{◌≡◌, ℕ, zero, suc, ◌+◌, ◌<◌, nat_lt, nat_le, true, List, [], ◌∷◌, ◌++◌, length, map, slice_get, Option, None, Some, arith, ap, refl, subst}
use Rattle.std.specs.List.{list_all}
use Rattle.std.proofs.lemmas.Bool.Decides.{nat_tests}
use Rattle.std.proofs.lemmas.List.{length-map}
use Rattle.hy_val.proofs.Scopes.{is_sort_of_is, fitting_sorted}
use Rattle.hy_val.specs.Exprs.{eval, reads, is_there, variable}
use Rattle.hy_val.specs.Values.{has_sort}
use Rattle.hy_val.specs.declared.expr.Env.{Env}
use Rattle.hy_val.specs.declared.expr.ExprNode.{ExprNode}
use Rattle.hy_val.specs.declared.expr.Var.{Var}
use Rattle.hy_val.specs.declared.expr.Var.TheVariants.{Const, Global, Local}
use Rattle.hy_val.specs.declared.sort.Sort.{Sort}
use Rattle.hy_val.specs.declared.value.Value.{Value}
use Rattle.src_prog.specs.Program.{Program}
use Rattle.hy_val.specs.Scope.{Scope, sort_of_variable, is_sort_of, expr_fits, is_condition}
use Rattle.src_prog.specs.Scope.{sorts_of, locals_of, args_fit, call_fits, cmd_fits}
use Rattle.src_prog.specs.Shape.{is_program, scope_of, constant_scope}
use Rattle.hy_val.specs.Scope.{ascend_from}
use Rattle.src_prog.specs.declared.block.Cmd.TheVariants.{Assign, Assume, Assert, Call}
use Rattle.src_prog.specs.declared.proc.Named.{Named}
use Rattle.src_prog.specs.declared.proc.SrcProc.{SrcProc}
use Rattle.hy_val.proofs.Booleans.{and-first, and-second, and-both}
use Rattle.hy_val.proofs.Scopes.{reads_expr, pairs_read}
use Rattle.src_run.proofs.Programs.{axioms_fit, uniques_ascend}
use Rattle.src_run.specs.Machine.{Config, Frame, Want, AConst, AGlobal, ALocal, env_of}
use Rattle.src_run.specs.Sorted.{HaveSorts, HasVariables, AreFrames, AreSorted, AreComplete, AsksForNone, AsksForNoConst}

-- ---- values of sorts

pub have_at : (vs : List Value) (sorts : List Sort) (n : ℕ) (s : Sort) → HaveSorts vs sorts [] → slice_get sorts n ≡ Some s → is_there (slice_get vs n) s ≡ true
have_at [] sorts n s h e = let none = rw h at e in cc
have_at (v ∷ vs) [] n s h e = absurd h
have_at (v ∷ vs) (t ∷ sorts) zero s h e = let same : t ≡ s = cc in rw (← same) h.0
have_at (v ∷ vs) (t ∷ sorts) (suc n) s h e = have_at vs sorts n s h.1 e

pub have_length : (vs : List Value) (sorts : List Sort) → HaveSorts vs sorts [] → length vs ≡ length sorts
have_length [] sorts h = rw h refl
have_length (v ∷ vs) [] h = absurd h
have_length (v ∷ vs) (s ∷ sorts) h = ap suc (have_length vs sorts h.1)

-- ---- expressions

module _ (scope : Scope) (env : Env) (has : HasVariables scope env) where
  variable_there : (x : Var) (s : Sort) → is_sort_of (sort_of_variable scope x) s ≡ true → is_there (variable env x) s ≡ true
  variable_there (Const n) s h = have_at env.consts scope.consts n s has.consts (is_sort_of_is (slice_get scope.consts n) s h)
  variable_there (Global n) s h = have_at env.globals scope.globals n s has.globals (is_sort_of_is (slice_get scope.globals n) s h)
  variable_there (Local n) s h = have_at env.locals scope.locals n s has.locals (is_sort_of_is (slice_get scope.locals n) s h)

  -- an expression that fits can be evaluated
  pub expr_reads : (sort : Option Sort) (nodes : List ExprNode) → expr_fits scope sort nodes ≡ true → reads env nodes ≡ true
  expr_reads sort nodes h = reads_expr scope env variable_there sort nodes h

  -- its value has the sort that it should have, which is there
  pub expr_sorted : (sort : Option Sort) (nodes : List ExprNode) → expr_fits scope sort nodes ≡ true → (s : Sort) × (sort ≡ Some s) × (has_sort (eval env nodes) s ≡ true)
  expr_sorted sort nodes h = fitting_sorted scope env variable_there sort nodes h

  pub expr_has_sort : (s : Sort) (nodes : List ExprNode) → expr_fits scope (Some s) nodes ≡ true → has_sort (eval env nodes) s ≡ true
  expr_has_sort s nodes h =
      let (t, is, own) = expr_sorted (Some s) nodes h in
      let same : s ≡ t = cc in
      rw same own

  -- ---- the expressions of a command

  pub assume_reads : (procs : List SrcProc) (expr : List ExprNode) → cmd_fits procs scope (Assume expr) ≡ true → reads env expr ≡ true
  assume_reads procs expr h = expr_reads _ expr h

  pub assert_reads : (procs : List SrcProc) (number : ℕ) (expr : List ExprNode) → cmd_fits procs scope (Assert number expr) ≡ true → reads env expr ≡ true
  assert_reads procs number expr h = expr_reads _ expr (and-second (nat_le 1 number) (is_condition scope expr) h)

  pub assign_reads : (procs : List SrcProc) (pairs : List (Var × List ExprNode)) → cmd_fits procs scope (Assign pairs) ≡ true → list_all (λ (p : Var × List ExprNode). reads env p.1) pairs ≡ true
  assign_reads procs pairs h = pairs_read scope env variable_there pairs h

  args_there : (names : List Named) (args : List (List ExprNode)) → args_fit scope names args ≡ true → list_all (reads env) args ≡ true
  args_there [] [] h = refl
  args_there [] (arg ∷ args) h = cc
  args_there (n ∷ ns) [] h = cc
  args_there (n ∷ ns) (arg ∷ args) h = and-both (reads env arg) (list_all (reads env) args) (expr_reads (Some n.sort) arg (and-first (expr_fits scope (Some n.sort) arg) _ h)) (args_there ns args (and-second (expr_fits scope (Some n.sort) arg) _ h))

  call_there : (o : Option SrcProc) (args : List (List ExprNode)) (outs : List Var) → call_fits scope o args outs ≡ true → list_all (reads env) args ≡ true
  call_there None args outs h = cc
  call_there (Some proc) args outs h = args_there proc.ins args (and-first (args_fit scope proc.ins args) _ h)

  pub call_reads : (procs : List SrcProc) (number : ℕ) (args : List (List ExprNode)) (outs : List Var) → cmd_fits procs scope (Call number args outs) ≡ true → list_all (reads env) args ≡ true
  call_reads procs number args outs h = call_there (slice_get procs number) args outs h

  conditions_there : (exprs : List (List ExprNode)) → list_all (is_condition scope) exprs ≡ true → list_all (reads env) exprs ≡ true
  conditions_there [] h = refl
  conditions_there (expr ∷ exprs) h = and-both (reads env expr) (list_all (reads env) exprs) (expr_reads _ expr (and-first (is_condition scope expr) _ h)) (conditions_there exprs (and-second (is_condition scope expr) _ h))

-- ---- the constants alone

pub has_constants : (prog : Program) (consts : List Value) → HaveSorts consts (sorts_of prog.consts) [] → HasVariables (constant_scope prog) (record { consts = consts; globals = []; locals = [] })
has_constants prog consts h = record { consts = h; globals = refl; locals = refl }

-- where each constant has its value, each axiom can be evaluated
pub axioms_read : (prog : Program) (consts : List Value) → is_program prog ≡ true → HaveSorts consts (sorts_of prog.consts) [] → list_all (reads (record { consts = consts; globals = []; locals = [] })) prog.axioms ≡ true
axioms_read prog consts h have = conditions_there (constant_scope prog) (record { consts = consts; globals = []; locals = [] }) (has_constants prog consts have) prog.axioms (axioms_fit prog h)

ascend_below : (least bound : ℕ) (ns : List ℕ) (k n : ℕ) → ascend_from least bound ns ≡ true → slice_get ns k ≡ Some n → n < bound
ascend_below least bound [] k n h e = cc
ascend_below least bound (m ∷ ns) zero n h e =
    let below = and-first (nat_lt m bound) _ (and-second (nat_le least m) _ h) in
    let same : m ≡ n = cc in
    let less : m < bound = grind (arith, nat_tests) in
    rw (← same) less
ascend_below least bound (m ∷ ns) (suc k) n h e = ascend_below (m + 1) bound ns k n (and-second (nat_lt m bound) _ (and-second (nat_le least m) _ h)) e

-- and each unique constant is there
pub uniques_there : (prog : Program) (consts : List Value) → is_program prog ≡ true → HaveSorts consts (sorts_of prog.consts) [] → (k n : ℕ) → slice_get prog.uniques k ≡ Some n → n < length consts
uniques_there prog consts h have k n e =
    let less = ascend_below 0 (length prog.consts) prog.uniques k n (uniques_ascend prog h) e in
    let same = have_length consts (sorts_of prog.consts) have in
    let names = length-map prog.consts (λ (n : Named). n.sort) in
    omega arith

-- ---- configurations

none_missing : (cs gs ls : List Sort) (changes ws : List Want) → ws ≡ map AConst cs ++ (map AGlobal gs ++ (map ALocal ls ++ changes)) → AsksForNone ws → (cs ≡ []) × (gs ≡ []) × (ls ≡ [])
none_missing [] [] [] changes ws e h = (refl, refl, refl)
none_missing (c ∷ cs) gs ls changes ws e h = absurd (rw e at h)
none_missing [] (g ∷ gs) ls changes ws e h = absurd (rw e at h)
none_missing [] [] (l ∷ ls) changes ws e h = absurd (rw e at h)

no_const_missing : (cs : List Sort) (others ws : List Want) → ws ≡ map AConst cs ++ others → AsksForNoConst ws → cs ≡ []
no_const_missing [] others ws e h = refl
no_const_missing (c ∷ cs) others ws e h = absurd (rw e at h)

-- where no value is asked for that is missing, all are there
pub complete : (prog : Program) (c : Config) → AreSorted prog c → AsksForNone c.wants → AreComplete prog c
complete prog c sorted h =
    let (cs, gs, ls) = none_missing sorted.missing_consts sorted.missing_globals sorted.missing_locals sorted.changes c.wants sorted.wants h in
    record { consts = rw cs at sorted.consts; globals = rw gs at sorted.globals; frames = rw ls at sorted.frames }

-- where no constant is asked for, each has its value
pub consts_there : (prog : Program) (c : Config) → AreSorted prog c → AsksForNoConst c.wants → HaveSorts c.consts (sorts_of prog.consts) []
consts_there prog c sorted h =
    let cs = no_const_missing sorted.missing_consts (map AGlobal sorted.missing_globals ++ (map ALocal sorted.missing_locals ++ sorted.changes)) c.wants sorted.wants h in
    rw cs at sorted.consts

-- the environment of the innermost frame has the variables of its procedure
pub has_variables : (prog : Program) (c : Config) (f : Frame) (rest : List Frame) (proc : SrcProc) → AreComplete prog c → c.frames ≡ f ∷ rest → slice_get prog.procs f.proc ≡ Some proc → HasVariables (scope_of prog proc) (env_of c f)
has_variables prog c f rest proc all e is =
    let here : AreFrames prog (f ∷ rest) [] = rw e at all.frames in
    let own = here.1.0 in
    let same : here.0 ≡ proc = cc in
    record { consts = all.consts; globals = all.globals; locals = subst (λ (p : SrcProc). HaveSorts f.locals (locals_of p) []) same here.1.1 }

-- so an expression that fits can be evaluated where nothing is asked for
pub reads_in_frame : (prog : Program) (c : Config) (f : Frame) (rest : List Frame) (proc : SrcProc) → AreSorted prog c → c.wants ≡ [] → c.frames ≡ f ∷ rest → slice_get prog.procs f.proc ≡ Some proc
    → (sort : Option Sort) (nodes : List ExprNode) → expr_fits (scope_of prog proc) sort nodes ≡ true → reads (env_of c f) nodes ≡ true
reads_in_frame prog c f rest proc sorted none e is sort nodes fit = expr_reads (scope_of prog proc) (env_of c f) (has_variables prog c f rest proc (complete prog c sorted (rw none tt)) e is) sort nodes fit

-- and has a value of its sort
pub sort_in_frame : (prog : Program) (c : Config) (f : Frame) (rest : List Frame) (proc : SrcProc) → AreSorted prog c → c.wants ≡ [] → c.frames ≡ f ∷ rest → slice_get prog.procs f.proc ≡ Some proc
    → (sort : Sort) (nodes : List ExprNode) → expr_fits (scope_of prog proc) (Some sort) nodes ≡ true → has_sort (eval (env_of c f) nodes) sort ≡ true
sort_in_frame prog c f rest proc sorted none e is sort nodes fit = expr_has_sort (scope_of prog proc) (env_of c f) (has_variables prog c f rest proc (complete prog c sorted (rw none tt)) e is) sort nodes fit
