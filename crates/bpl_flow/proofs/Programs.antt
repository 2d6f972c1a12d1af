-- What a typed program becomes, where no fault of flow is told, is a program.
use Rattle.std.proofs.Common.{◌≡◌, ℕ, ◌+◌, ◌^◌, true, false, ◌&&◌, List, [], ◌∷◌, ◌++◌, length, length-append, map, Option, None, Some, is_some, Ok, refl, sym, ap, ◌∙◌, subst, zero, suc, arith}
use Rattle.std.specs.Prelude.{if◌then◌else◌, nat_lt, slice_get}
use Rattle.std.specs.List.{list_all}
use Rattle.std.proofs.lemmas.Bool.{and_parts, and_from, lt-ltb, ltb-true}
use Rattle.std.proofs.lemmas.List.{length-map}
use Rattle.std.proofs.lemmas.List.Folds.{list_all-map}
use Rattle.bpl_flow.proofs.Induction.{CallsFit, statements-keep}
use Rattle.bpl_flow.proofs.Kept.{IsKept, kept-stop, marks_of}
use Rattle.bpl_flow.proofs.Placing.{blocks_from-length}
use Rattle.bpl_flow.proofs.Resolved.{all-sound, blocks-fit, both-empty, loops-within}
use Rattle.bpl_flow.proofs.Turns.{all-step}
use Rattle.bpl_flow.specs.Counted.{is_counted, is_counted_proc}
use Rattle.bpl_flow.specs.Flow.{blocks_of, faults_of, faults_of_proc, faults_of_procs, first_behind, first_fault, lowered, lowered_unless, proc_of, procs_of, procs_onto, program_of, sooner, walked}
use Rattle.bpl_flow.specs.Walk.{begin, walk, walk_all}
use Rattle.bpl_flow.specs.declared.fault.FlowFault.{FlowFault}
use Rattle.bpl_flow.specs.declared.state.End.TheVariants.{Returns}
use Rattle.bpl_flow.specs.declared.state.Walk.{Walk}
use Rattle.bpl_type.specs.WellTyped.{body_fits, body_scope, callee_fits, callees_of, constant_scope, have_sorts, is_typed, named, proc_fits, sorts_of, stmt_fits}
use Rattle.type_pass.specs.declared.tables.Named.{Named as TypedName}
use Rattle.bpl_type.specs.declared.typed.Typed.{Typed}
use Rattle.bpl_type.specs.declared.typed.TypedBody.{TypedBody}
use Rattle.bpl_type.specs.declared.typed.TypedProc.{TypedProc}
use Rattle.hy_val.specs.NodeSorts.{is_sort}
use Rattle.hy_val.specs.declared.expr.ExprNode.{ExprNode}
use Rattle.hy_val.specs.declared.expr.Var.{Var}
use Rattle.src_prog.specs.Loops.{are_nested, loop_is_within}
use Rattle.src_prog.specs.Program.{Program}
use Rattle.hy_val.specs.Scope.{Scope, is_condition}
use Rattle.src_prog.specs.Scope.{call_fits, locals_of, sorts_of as program_sorts}
use Rattle.hy_val.specs.Scope.{are_numbered, ascend_from}
use Rattle.src_prog.specs.Shape.{blocks_fit, constant_scope as program_constants, is_procedure, is_program, loops_fit, names_fit, scope_of}
use Rattle.src_prog.specs.declared.proc.SrcProc.{SrcProc}

-- ---- faults

some-behind : (f : FlowFault) (fs : List FlowFault) → first_behind (Some f) fs ≡ None → ⊥
some-behind f [] e = absurd (cc)
some-behind f (g ∷ fs) e = some-behind (sooner (Some f) g) fs e

no-faults : (fs : List FlowFault) → first_fault fs ≡ None → fs ≡ []
no-faults [] e = refl
no-faults (f ∷ fs) e = absurd (some-behind (sooner None f) fs e)

-- ---- names

sorts-named : (names : List TypedName) → program_sorts (map named names) ≡ sorts_of names
sorts-named [] = refl
sorts-named (n ∷ names) = ap (λ ss. n.sort ∷ ss) (sorts-named names)

names-fit : (names : List TypedName) → have_sorts names ≡ true → are_numbered (length (map named names)) ≡ true → names_fit (map named names) ≡ true
names-fit names h few =
    and_from (are_numbered (length (map named names))) (list_all (λ n. is_sort n.sort) (map named names)) few (list_all-map (λ n. is_sort n.sort) named names ∙ h)

-- ---- calls

call-some : (typed : Typed) (p : TypedProc) (o : Option TypedBody) (rest : List TypedProc) (more : List SrcProc) (scope : Scope) (n : ℕ) (args : List (List ExprNode)) (outs : List Var)
    → ((k : ℕ) → call_fits scope (slice_get more k) args outs ≡ callee_fits scope (slice_get rest k) args outs)
    → call_fits scope (slice_get (procs_onto p o more) n) args outs ≡ callee_fits scope (slice_get (if is_some o then p ∷ rest else rest) n) args outs
call-some typed p None rest more scope n args outs f = f n
call-some typed p (Some body) rest more scope zero args outs f = refl
call-some typed p (Some body) rest more scope (suc n) args outs f = f n

call-same : (typed : Typed) (ps : List TypedProc) (scope : Scope) (n : ℕ) (args : List (List ExprNode)) (outs : List Var) → call_fits scope (slice_get (procs_of ps) n) args outs ≡ callee_fits scope (slice_get (callees_of ps) n) args outs
call-same typed [] scope n args outs = refl
call-same typed (p ∷ ps) scope n args outs = call-some typed p p.body (callees_of ps) (procs_of ps) scope n args outs (λ k. call-same typed ps scope k args outs)

-- ---- one procedure

begin-kept : (procs : List SrcProc) (scope : Scope) → IsKept procs scope [] [] begin
begin-kept procs scope = record {
  some = omega arith;
  closed = tt;
  around = λ s i. absurd (let f : false ≡ true = i in cc);
  keys = λ s i. absurd (let f : false ≡ true = i in cc);
  current = record { below = omega arith; cmds = refl; behind = λ s i. absurd (let f : false ≡ true = i in cc) };
  ended = tt;
  places = tt;
}

record WalkFits (procs : List SrcProc) (scope : Scope) (w : Walk) : Type 0 where
  pub kept : IsKept procs scope w.loops [] w
  pub nested : are_nested w.loops ≡ true

walk-fits : (callees : List TypedProc) (procs : List SrcProc) (scope : Scope) (body : TypedBody) → CallsFit callees procs scope → list_all (stmt_fits callees scope) body.statements ≡ true → WalkFits procs scope (walked body)
walk-fits callees procs scope body calls fits =
    let st = all-step procs scope (map walk body.statements) (statements-keep callees procs scope calls body.statements fits) [] [] None begin (begin-kept procs scope) in
    let last = walk_all body.statements [] None begin in
    let same : st.new ≡ (walked body).loops = sym st.loops in
    record {
      kept = subst (λ ls. IsKept procs scope ls [] (walked body)) same (kept-stop procs scope st.new [] last Returns st.kept (λ c q. tt));
      nested = subst (λ ls. are_nested ls ≡ true) same st.nested;
    }

procedure-blocks : (procs : List SrcProc) (scope : Scope) (body : TypedBody) (count : ℕ) → WalkFits procs scope (walked body) → count ≡ (walked body).made → faults_of body ≡ []
    → blocks_fit procs scope (walked body).loops count 0 (blocks_of (walked body)) ≡ true
procedure-blocks procs scope body count f e quiet =
    let sound = all-sound (walked body).places (walked body).jumps (both-empty (walked body).faults _ quiet).1 in
    subst (λ n. blocks_fit procs scope (walked body).loops n 0 (blocks_of (walked body)) ≡ true) (sym e)
    (blocks-fit (walked body).loops f.nested procs scope (marks_of [] (walked body)) (walked body).ended refl f.kept.places sound f.kept.ended 0 (walked body).made)

locals-same : (typed : Typed) (p : TypedProc) (body : TypedBody) → scope_of (program_of typed) (proc_of p body) ≡ body_scope typed p body
locals-same typed p body = rw (sorts-named typed.consts, sorts-named typed.globals, sorts-named p.ins, sorts-named p.outs, sorts-named body.locals) refl

-- the counts of a procedure whose locals are few
few-left : (a b : ℕ) → are_numbered (a + b) ≡ true → are_numbered a ≡ true
few-left a b h = lt-ltb a (2 ^ 32) (omega (arith, ltb-true (a + b) (2 ^ 32) h))

few-right : (a b : ℕ) → are_numbered (a + b) ≡ true → are_numbered b ≡ true
few-right a b h = lt-ltb b (2 ^ 32) (omega (arith, ltb-true (a + b) (2 ^ 32) h))

counts : (p : SrcProc) → length (locals_of p) ≡ length p.ins + (length p.outs + length p.locals)
counts p = omega (
  arith,
  length-append (program_sorts p.ins) (program_sorts p.outs ++ program_sorts p.locals),
  length-append (program_sorts p.outs) (program_sorts p.locals),
  length-map p.ins (λ n. n.sort),
  length-map p.outs (λ n. n.sort),
  length-map p.locals (λ n. n.sort),
)

module _ (typed : Typed) where
  procedure-fits : (p : TypedProc) (body : TypedBody) → have_sorts p.ins ≡ true → have_sorts p.outs ≡ true → body_fits typed p (Some body) ≡ true → faults_of body ≡ [] → is_counted_proc (proc_of p body) ≡ true
      → is_procedure (program_of typed) (proc_of p body) ≡ true
  procedure-fits p body ins outs fits quiet counted =
      let proc = proc_of p body in
      let f = and_parts (have_sorts body.locals) (list_all (stmt_fits (callees_of typed.procs) (body_scope typed p body)) body.statements) fits in
      let c = and_parts (are_numbered (length (locals_of (proc_of p body)))) (are_numbered (length (blocks_of (walked body)))) counted in
      let few : are_numbered (length (map named p.ins) + (length (map named p.outs) + length (map named body.locals))) ≡ true = subst (λ n. are_numbered n ≡ true) (counts (proc_of p body)) c.0 in
      let fewer = few-right (length (map named p.ins)) (length (map named p.outs) + length (map named body.locals)) few in
      let w = walk-fits (callees_of typed.procs) (procs_of typed.procs) (body_scope typed p body) body (λ n args outs h. call-same typed typed.procs (body_scope typed p body) n args outs ∙ h) f.1 in
      let size : length (blocks_of (walked body)) ≡ (walked body).made = blocks_from-length (walked body).places (walked body).exits (walked body).ended 0 (walked body).made in
      let within : list_all (loop_is_within (length (blocks_of (walked body)))) (walked body).loops ≡ true =
      subst (λ n. list_all (loop_is_within n) (walked body).loops ≡ true) (sym size) (loops-within (walked body).made (walked body).loops w.kept.closed) in
      let blocks : blocks_fit (procs_of typed.procs) (scope_of (program_of typed) (proc_of p body)) (walked body).loops (length (blocks_of (walked body))) 0 (blocks_of (walked body)) ≡ true =
      subst (λ sc. blocks_fit (procs_of typed.procs) sc (walked body).loops (length (blocks_of (walked body))) 0 (blocks_of (walked body)) ≡ true) (sym (locals-same typed p body))
      (procedure-blocks (procs_of typed.procs) (body_scope typed p body) body (length (blocks_of (walked body))) w size quiet) in
      and_from (names_fit (map named p.ins) && (names_fit (map named p.outs) && names_fit (map named body.locals)))
      ((are_numbered (length (locals_of (proc_of p body))) && (nat_lt 0 (length (blocks_of (walked body))) && are_numbered (length (blocks_of (walked body)))))
      && (loops_fit (proc_of p body) && blocks_fit (procs_of typed.procs) (scope_of (program_of typed) (proc_of p body)) (walked body).loops (length (blocks_of (walked body))) 0 (blocks_of (walked body))))
      (and_from (names_fit (map named p.ins)) (names_fit (map named p.outs) && names_fit (map named body.locals))
      (names-fit p.ins ins (few-left (length (map named p.ins)) (length (map named p.outs) + length (map named body.locals)) few))
      (and_from (names_fit (map named p.outs)) (names_fit (map named body.locals))
      (names-fit p.outs outs (few-left (length (map named p.outs)) (length (map named body.locals)) fewer))
      (names-fit body.locals f.0 (few-right (length (map named p.outs)) (length (map named body.locals)) fewer))))
      (and_from (are_numbered (length (locals_of (proc_of p body))) && (nat_lt 0 (length (blocks_of (walked body))) && are_numbered (length (blocks_of (walked body)))))
      (loops_fit (proc_of p body) && blocks_fit (procs_of typed.procs) (scope_of (program_of typed) (proc_of p body)) (walked body).loops (length (blocks_of (walked body))) 0 (blocks_of (walked body)))
      (and_from (are_numbered (length (locals_of (proc_of p body)))) (nat_lt 0 (length (blocks_of (walked body))) && are_numbered (length (blocks_of (walked body)))) c.0
      (and_from (nat_lt 0 (length (blocks_of (walked body)))) (are_numbered (length (blocks_of (walked body)))) (lt-ltb 0 (length (blocks_of (walked body))) (omega (arith, size, w.kept.some))) c.1))
      (and_from (loops_fit (proc_of p body)) (blocks_fit (procs_of typed.procs) (scope_of (program_of typed) (proc_of p body)) (walked body).loops (length (blocks_of (walked body))) 0 (blocks_of (walked body)))
      (and_from (list_all (loop_is_within (length (blocks_of (walked body)))) (walked body).loops) (are_nested (walked body).loops) within w.nested) blocks))

  one-fits : (p : TypedProc) (o : Option TypedBody) (rest : List SrcProc) → have_sorts p.ins ≡ true → have_sorts p.outs ≡ true → body_fits typed p o ≡ true → faults_of_proc o ≡ []
      → list_all is_counted_proc (procs_onto p o rest) ≡ true → (list_all is_counted_proc rest ≡ true → list_all (is_procedure (program_of typed)) rest ≡ true)
      → list_all (is_procedure (program_of typed)) (procs_onto p o rest) ≡ true
  one-fits p None rest ins outs fits quiet counted more = more counted
  one-fits p (Some body) rest ins outs fits quiet counted more =
      let c = and_parts (is_counted_proc (proc_of p body)) (list_all is_counted_proc rest) counted in
      and_from (is_procedure (program_of typed) (proc_of p body)) (list_all (is_procedure (program_of typed)) rest) (procedure-fits p body ins outs fits quiet c.0) (more c.1)

  procedures-fit : (ps : List TypedProc) → list_all (proc_fits typed) ps ≡ true → faults_of_procs ps ≡ [] → list_all is_counted_proc (procs_of ps) ≡ true → list_all (is_procedure (program_of typed)) (procs_of ps) ≡ true
  procedures-fit [] fits quiet counted = refl
  procedures-fit (p ∷ ps) fits quiet counted =
      let f = and_parts (proc_fits typed p) (list_all (proc_fits typed) ps) fits in
      let g = and_parts (have_sorts p.ins && have_sorts p.outs) (body_fits typed p p.body) f.0 in
      let h = and_parts (have_sorts p.ins) (have_sorts p.outs) g.0 in
      let q = both-empty (faults_of_proc p.body) (faults_of_procs ps) quiet in
      one-fits p p.body (procs_of ps) h.0 h.1 g.1 q.0 counted (λ c. procedures-fit ps f.1 q.1 c)

  constants-same : program_constants (program_of typed) ≡ constant_scope typed
  constants-same = rw (sorts-named typed.consts) refl

  -- a typed program without a fault of flow becomes a program, where its counts are those of numbers of 32 bits
  pub program-fits : is_typed typed ≡ true → first_fault (faults_of_procs typed.procs) ≡ None → is_counted (program_of typed) ≡ true → is_program (program_of typed) ≡ true
  program-fits fits quiet counted =
      let f = and_parts (have_sorts typed.consts && have_sorts typed.globals)
      (ascend_from 0 (length typed.consts) typed.uniques && (list_all (is_condition (constant_scope typed)) typed.axioms && list_all (proc_fits typed) typed.procs)) fits in
      let g = and_parts (have_sorts typed.consts) (have_sorts typed.globals) f.0 in
      let h = and_parts (ascend_from 0 (length typed.consts) typed.uniques) (list_all (is_condition (constant_scope typed)) typed.axioms && list_all (proc_fits typed) typed.procs) f.1 in
      let k = and_parts (list_all (is_condition (constant_scope typed)) typed.axioms) (list_all (proc_fits typed) typed.procs) h.1 in
      let c = and_parts (are_numbered (length (map named typed.consts))) (are_numbered (length (map named typed.globals)) && (are_numbered (length (procs_of typed.procs)) && list_all is_counted_proc (procs_of typed.procs))) counted in
      let d = and_parts (are_numbered (length (map named typed.globals))) (are_numbered (length (procs_of typed.procs)) && list_all is_counted_proc (procs_of typed.procs)) c.1 in
      let e = and_parts (are_numbered (length (procs_of typed.procs))) (list_all is_counted_proc (procs_of typed.procs)) d.1 in
      let ascend : ascend_from 0 (length (map named typed.consts)) typed.uniques ≡ true = subst (λ n. ascend_from 0 n typed.uniques ≡ true) (sym (length-map typed.consts named)) h.0 in
      let axioms : list_all (is_condition (program_constants (program_of typed))) typed.axioms ≡ true = subst (λ sc. list_all (is_condition sc) typed.axioms ≡ true) (sym constants-same) k.0 in
      and_from (names_fit (map named typed.consts) && (names_fit (map named typed.globals) && ascend_from 0 (length (map named typed.consts)) typed.uniques))
      (list_all (is_condition (program_constants (program_of typed))) typed.axioms && (are_numbered (length (procs_of typed.procs)) && list_all (is_procedure (program_of typed)) (procs_of typed.procs)))
      (and_from (names_fit (map named typed.consts)) (names_fit (map named typed.globals) && ascend_from 0 (length (map named typed.consts)) typed.uniques)
      (names-fit typed.consts g.0 c.0)
      (and_from (names_fit (map named typed.globals)) (ascend_from 0 (length (map named typed.consts)) typed.uniques) (names-fit typed.globals g.1 d.0) ascend))
      (and_from (list_all (is_condition (program_constants (program_of typed))) typed.axioms) (are_numbered (length (procs_of typed.procs)) && list_all (is_procedure (program_of typed)) (procs_of typed.procs)) axioms
      (and_from (are_numbered (length (procs_of typed.procs))) (list_all (is_procedure (program_of typed)) (procs_of typed.procs)) e.0
      (procedures-fit typed.procs k.1 (no-faults (faults_of_procs typed.procs) quiet) e.1)))

  fits-unless : (o : Option FlowFault) (prog : Program) → is_typed typed ≡ true → first_fault (faults_of_procs typed.procs) ≡ o → is_counted prog ≡ true → lowered_unless o typed ≡ Ok prog → is_program prog ≡ true
  fits-unless None prog fits quiet counted e =
      let same : program_of typed ≡ prog = cc in
      subst (λ x. is_program x ≡ true) same (program-fits fits quiet (subst (λ x. is_counted x ≡ true) (sym same) counted))
  fits-unless (Some f) prog fits quiet counted e = absurd (cc)

  -- the same, of what the text becomes
  pub lowered-fits : (prog : Program) → is_typed typed ≡ true → is_counted prog ≡ true → lowered typed ≡ Ok prog → is_program prog ≡ true
  lowered-fits prog fits counted e = fits-unless (first_fault (faults_of_procs typed.procs)) prog fits refl counted e
