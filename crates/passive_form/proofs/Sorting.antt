-- The procedures of a flat program have their sorts.
use Rattle.std.proofs.Common.{◌≡◌, ℕ, zero, suc, ◌+◌, ◌-◌, ◌<◌, Bool, true, false, ◌&&◌, List, [], ◌∷◌, ◌++◌, length, arith, sym, ◌∙◌, ap, refl, subst, append_assoc}
use Rattle.std.specs.Prelude.{Option, None, Some, All, slice_get, slice_index_or, IsTrue, nat_lt, nat_le}
use Rattle.std.proofs.lemmas.Option.{slice_get_within}
use Rattle.std.specs.List.{list_all}
use Rattle.std.proofs.lemmas.Bool.Decides.{nat_tests}
use Rattle.hy_val.specs.Building.{whole_sort}
use Rattle.hy_val.specs.NodeSorts.{is_sort}
use Rattle.hy_val.specs.Scope.{Scope, sort_of_variable, sort_of_target, is_sort_of, are_same, node_fits, sort_of_expr, expr_fits, is_condition, is_target, pair_fits, are_numbered}
use Rattle.hy_val.specs.declared.sort.Sort.{Sort}
use Rattle.hy_val.specs.declared.expr.Var.{Var}
use Rattle.hy_val.specs.declared.expr.Var.TheVariants.{Const, Global, Local}
use Rattle.hy_val.specs.declared.expr.ExprNode.{ExprNode}
use Rattle.hy_val.specs.declared.expr.ExprNode.TheVariants.{Lit, Var as Read, Unary, Binary, If, Select, Store}
use Rattle.hy_val.proofs.Booleans.{and-first, and-second, all-at}
use Rattle.hy_val.proofs.Scopes.{is_sort_of_is, are_same_is}
use Rattle.flat_prog.specs.Program.{FlatProgram, scope_of, variables_of, outs_at}
use Rattle.flat_prog.specs.Shape.{args_fit, targets_fit, call_fits, cmd_fits, next_fits, block_fits, sorts_fit, HaveLoopOuts, IsFlatProc, IsFlat}
use Rattle.flat_prog.specs.declared.block.FlatCmd.{FlatCmd}
use Rattle.flat_prog.specs.declared.block.FlatCmd.TheVariants.{Assign, Havoc, Assume, Assert, Call}
use Rattle.flat_prog.specs.declared.block.FlatNext.{FlatNext}
use Rattle.flat_prog.specs.declared.block.FlatNext.TheVariants.{Goto, Return}
use Rattle.flat_prog.specs.declared.block.FlatBlock.{FlatBlock}
use Rattle.flat_prog.specs.declared.proc.FlatKind.{FlatKind}
use Rattle.flat_prog.specs.declared.proc.FlatKind.TheVariants.{Source, Loop}
use Rattle.flat_prog.specs.declared.proc.FlatProc.{FlatProc}
use Rattle.passive_form.specs.Limited.{Limited, limited}
use Rattle.passive_form.specs.Local.{sort_of}
use Rattle.passive_form.specs.WellSorted.{truth_sort, var_sort, ReadsSorted, AllSorted, PairsSorted, NamesSorted, TargetsHave, ArgsHave, ins_at, SortsGood, CmdSorted, CmdsSorted, LeadsOn, KindSorted, ProcSorted}
use Rattle.passive_form.specs.Laws.{ProcsAreSorted}

-- ---- lists of sorts

all_left : {A : Type 0} (f : A → Bool) (xs ys : List A) → list_all f (xs ++ ys) ≡ true → list_all f xs ≡ true
all_left f [] ys h = refl
all_left f (x ∷ xs) ys h = both (f x) (list_all f xs) (and-first (f x) (list_all f (xs ++ ys)) h) (all_left f xs ys (and-second (f x) (list_all f (xs ++ ys)) h))
  where
    both : (a b : Bool) → a ≡ true → b ≡ true → (a && b) ≡ true
    both true b p q = q
    both false b p q = cc

all_right : {A : Type 0} (f : A → Bool) (xs ys : List A) → list_all f (xs ++ ys) ≡ true → list_all f ys ≡ true
all_right f [] ys h = h
all_right f (x ∷ xs) ys h = all_right f xs ys (and-second (f x) (list_all f (xs ++ ys)) h)

sorts_good : (ss : List Sort) → list_all is_sort ss ≡ true → SortsGood ss
sorts_good [] h = tt
sorts_good (s ∷ ss) h = (and-first (is_sort s) (list_all is_sort ss) h, sorts_good ss (and-second (is_sort s) (list_all is_sort ss) h))

-- ---- expressions and targets

module _ (flat : FlatProgram) (limits : List (List Bool)) (q : FlatProc) (globals_good : list_all is_sort flat.globals ≡ true) (locals_good : list_all is_sort (variables_of q) ≡ true) where
  variable_is : (x : Var) → var_sort (limited flat limits) q x ≡ sort_of_variable (scope_of flat q) x
  variable_is (Const n) = refl
  variable_is (Global n) = refl
  variable_is (Local n) = ap (λ (ls : List Sort). slice_get ls n) (append_assoc q.ins q.outs q.locals)

  target_is : (x : Var) → sort_of (limited flat limits) q x ≡ sort_of_target (scope_of flat q) x
  target_is (Const n) = refl
  target_is (Global n) = refl
  target_is (Local n) = ap (λ (ls : List Sort). slice_get ls n) (append_assoc q.ins q.outs q.locals)

  target_good : (x : Var) (s : Sort) → sort_of_target (scope_of flat q) x ≡ Some s → is_sort s ≡ true
  target_good (Const n) s h = cc
  target_good (Global n) s h = all-at is_sort flat.globals n s globals_good h
  target_good (Local n) s h = all-at is_sort (variables_of q) n s locals_good h

  reads_sorted : (nodes : List ExprNode) → list_all (node_fits (scope_of flat q)) nodes ≡ true → ReadsSorted (limited flat limits) q nodes
  reads_sorted [] h = tt
  reads_sorted (Read x s ∷ nodes) h = (
    variable_is x ∙ is_sort_of_is (sort_of_variable (scope_of flat q) x) s (and-first (is_sort_of (sort_of_variable (scope_of flat q) x) s) (list_all (node_fits (scope_of flat q)) nodes) h),
    reads_sorted nodes (and-second (is_sort_of (sort_of_variable (scope_of flat q) x) s) (list_all (node_fits (scope_of flat q)) nodes) h),
  )
  reads_sorted (Lit a ∷ nodes) h = reads_sorted nodes h
  reads_sorted (Unary op c ∷ nodes) h = reads_sorted nodes h
  reads_sorted (Binary op l r ∷ nodes) h = reads_sorted nodes h
  reads_sorted (If c y n ∷ nodes) h = reads_sorted nodes h
  reads_sorted (Select m i ∷ nodes) h = reads_sorted nodes h
  reads_sorted (Store m i v ∷ nodes) h = reads_sorted nodes h

  -- an expression that fits
  expr_sorted : (o : Option Sort) (nodes : List ExprNode) → expr_fits (scope_of flat q) o nodes ≡ true → (s : Sort) × (o ≡ Some s) × (whole_sort nodes ≡ Some s) × ReadsSorted (limited flat limits) q nodes
  expr_sorted o nodes h =
      let same = are_same_is (sort_of_expr nodes) o (and-second (list_all (node_fits (scope_of flat q)) nodes) (are_same (sort_of_expr nodes) o) h) in
      (same.0, same.2, same.1, reads_sorted nodes (and-first (list_all (node_fits (scope_of flat q)) nodes) (are_same (sort_of_expr nodes) o) h))

  condition_sorted : (nodes : List ExprNode) → is_condition (scope_of flat q) nodes ≡ true → (whole_sort nodes ≡ Some truth_sort) × ReadsSorted (limited flat limits) q nodes
  condition_sorted nodes h = let r = expr_sorted (Some truth_sort) nodes h in (r.2 ∙ sym r.1, r.3)

  pairs_sorted : (pairs : List (Var × List ExprNode)) → list_all (pair_fits (scope_of flat q)) pairs ≡ true → PairsSorted (limited flat limits) q pairs
  pairs_sorted [] h = tt
  pairs_sorted (p ∷ pairs) h =
      let r = expr_sorted (sort_of_target (scope_of flat q) p.0) p.1 (and-first (pair_fits (scope_of flat q) p) (list_all (pair_fits (scope_of flat q)) pairs) h) in
      ((r.0, target_is p.0 ∙ r.1, r.2, r.3), pairs_sorted pairs (and-second (pair_fits (scope_of flat q) p) (list_all (pair_fits (scope_of flat q)) pairs) h))

  names_sorted : (xs : List Var) → list_all (is_target (scope_of flat q)) xs ≡ true → NamesSorted (limited flat limits) q xs
  names_sorted [] h = tt
  names_sorted (x ∷ xs) h =
      let r = are_same_is (sort_of_target (scope_of flat q) x) (sort_of_target (scope_of flat q) x) (and-first (is_target (scope_of flat q) x) (list_all (is_target (scope_of flat q)) xs) h) in
      ((r.0, target_is x ∙ r.1, target_good x r.0 r.1), names_sorted xs (and-second (is_target (scope_of flat q) x) (list_all (is_target (scope_of flat q)) xs) h))

  targets_have : (sorts : List Sort) (xs : List Var) → targets_fit (scope_of flat q) sorts xs ≡ true → TargetsHave (limited flat limits) q xs sorts
  targets_have [] [] h = tt
  targets_have [] (x ∷ xs) h = cc
  targets_have (s ∷ sorts) [] h = cc
  targets_have (s ∷ sorts) (x ∷ xs) h = (
    target_is x ∙ is_sort_of_is (sort_of_target (scope_of flat q) x) s (and-first (is_sort_of (sort_of_target (scope_of flat q) x) s) (targets_fit (scope_of flat q) sorts xs) h),
    targets_have sorts xs (and-second (is_sort_of (sort_of_target (scope_of flat q) x) s) (targets_fit (scope_of flat q) sorts xs) h),
  )

  args_sorted : (sorts : List Sort) (args : List (List ExprNode)) → args_fit (scope_of flat q) sorts args ≡ true → AllSorted (limited flat limits) q args
  args_sorted [] [] h = tt
  args_sorted [] (e ∷ es) h = cc
  args_sorted (s ∷ sorts) [] h = cc
  args_sorted (s ∷ sorts) (e ∷ es) h = (
    (expr_sorted (Some s) e (and-first (expr_fits (scope_of flat q) (Some s) e) (args_fit (scope_of flat q) sorts es) h)).3,
    args_sorted sorts es (and-second (expr_fits (scope_of flat q) (Some s) e) (args_fit (scope_of flat q) sorts es) h),
  )

  args_have : (sorts : List Sort) (args : List (List ExprNode)) → args_fit (scope_of flat q) sorts args ≡ true → ArgsHave args sorts
  args_have [] [] h = tt
  args_have [] (e ∷ es) h = cc
  args_have (s ∷ sorts) [] h = cc
  args_have (s ∷ sorts) (e ∷ es) h =
      let r = expr_sorted (Some s) e (and-first (expr_fits (scope_of flat q) (Some s) e) (args_fit (scope_of flat q) sorts es) h) in
      (r.2 ∙ sym r.1, args_have sorts es (and-second (expr_fits (scope_of flat q) (Some s) e) (args_fit (scope_of flat q) sorts es) h))

  -- ---- commands

  call_sorted : (callees_good : (p : ℕ) (r : FlatProc) → slice_get flat.procs p ≡ Some r → SortsGood r.outs) (p : ℕ) (args : List (List ExprNode)) (outs : List Var) (o : Option FlatProc) → slice_get flat.procs p ≡ o →
      call_fits (scope_of flat q) o args outs ≡ true → AllSorted (limited flat limits) q args × TargetsHave (limited flat limits) q outs (outs_at o) × SortsGood (outs_at o) × ArgsHave args (ins_at o)
  call_sorted good p args outs None at h = cc
  call_sorted good p args outs (Some r) at h = (
    args_sorted r.ins args (and-first (args_fit (scope_of flat q) r.ins args) (targets_fit (scope_of flat q) r.outs outs) h),
    targets_have r.outs outs (and-second (args_fit (scope_of flat q) r.ins args) (targets_fit (scope_of flat q) r.outs outs) h),
    good p r at,
    args_have r.ins args (and-first (args_fit (scope_of flat q) r.ins args) (targets_fit (scope_of flat q) r.outs outs) h),
  )

  cmd_sorted : (callees_good : (p : ℕ) (r : FlatProc) → slice_get flat.procs p ≡ Some r → SortsGood r.outs) (c : FlatCmd) → cmd_fits flat.procs (scope_of flat q) c ≡ true → CmdSorted (limited flat limits) q c
  cmd_sorted good (Assign pairs) h = pairs_sorted pairs h
  cmd_sorted good (Havoc xs) h = names_sorted xs h
  cmd_sorted good (Assume e) h = condition_sorted e h
  cmd_sorted good (Assert p n e) h = condition_sorted e (and-second (nat_le 1 n) (is_condition (scope_of flat q) e) h)
  cmd_sorted good (Call p args outs) h = call_sorted good p args outs (slice_get flat.procs p) refl h

  cmds_sorted : (callees_good : (p : ℕ) (r : FlatProc) → slice_get flat.procs p ≡ Some r → SortsGood r.outs) (cs : List FlatCmd) → list_all (cmd_fits flat.procs (scope_of flat q)) cs ≡ true → CmdsSorted (limited flat limits) q cs
  cmds_sorted good [] h = tt
  cmds_sorted good (c ∷ cs) h = (
    cmd_sorted good c (and-first (cmd_fits flat.procs (scope_of flat q) c) (list_all (cmd_fits flat.procs (scope_of flat q)) cs) h),
    cmds_sorted good cs (and-second (cmd_fits flat.procs (scope_of flat q) c) (list_all (cmd_fits flat.procs (scope_of flat q)) cs) h),
  )

leads_on : (blocks : ℕ) (next : FlatNext) → next_fits blocks next ≡ true → LeadsOn next
leads_on blocks Return h = tt
leads_on blocks (Goto ts) h = let some : nat_lt 0 (length ts) ≡ true = and-first (nat_lt 0 (length ts)) (list_all (λ t. nat_lt t blocks) ts) h in grind (arith, nat_tests, some)

kind_sorted : (kind : FlatKind) (q : FlatProc) → HaveLoopOuts kind q → KindSorted q kind
kind_sorted (Source p) q h = tt
kind_sorted (Loop p head) q h = h

-- ---- procedures

index_is : {A : Type 0} (xs : List A) (n : ℕ) (x : A) → slice_get xs n ≡ Some x → slice_index_or xs n x ≡ x
index_is [] n x e = cc
index_is (y ∷ ys) zero x e = cc
index_is (y ∷ ys) (suc n) x e = index_is ys n x e

pub proc_at : {A : Type 0} (P : A → Type 0) (xs : List A) (n : ℕ) (x : A) → All P xs → slice_get xs n ≡ Some x → P x
proc_at P xs n x all e = subst P (index_is xs n x e) (all n x (slice_get_within xs n x e))

locals_of : (flat : FlatProgram) (q : FlatProc) → IsFlatProc flat q → list_all is_sort (variables_of q) ≡ true
locals_of flat q h = and-second (are_numbered (length (variables_of q))) (list_all is_sort (variables_of q)) h.variables

pub procs_are_sorted : ProcsAreSorted
procs_are_sorted = λ flat limits p q is at.
    let proc = λ (n : ℕ) (r : FlatProc) (e : slice_get flat.procs n ≡ Some r). proc_at (IsFlatProc flat) flat.procs n r is.procs e in
    let h = proc p q at in
    let gs : list_all is_sort flat.globals ≡ true = and-second (are_numbered (length flat.globals)) (list_all is_sort flat.globals) is.globals in
    let ls = locals_of flat q h in
    let good : (n : ℕ) (r : FlatProc) → slice_get flat.procs n ≡ Some r → SortsGood r.outs = λ n r e. sorts_good r.outs (all_left is_sort r.outs r.locals (all_right is_sort r.ins (r.outs ++ r.locals) (locals_of flat r (proc n r e)))) in
    let rest = all_right is_sort q.ins (q.outs ++ q.locals) ls in
    record {
      globals = sorts_good flat.globals gs;
      outs = sorts_good q.outs (all_left is_sort q.outs q.locals rest);
      locals = sorts_good q.locals (all_right is_sort q.outs q.locals rest);
      kind = kind_sorted q.kind q h.loop_outs;
      blocks = λ n b e.
          let fits = all-at (block_fits flat.procs (scope_of flat q) (length q.blocks)) q.blocks n b h.blocks e in (
            cmds_sorted flat limits q gs ls good b.cmds (and-first (list_all (cmd_fits flat.procs (scope_of flat q)) b.cmds) (next_fits (length q.blocks) b.next) fits),
            leads_on (length q.blocks) b.next (and-second (list_all (cmd_fits flat.procs (scope_of flat q)) b.cmds) (next_fits (length q.blocks) b.next) fits),
          );
    }
