-- The flat program of a program is one, where numbers of 32 bits are enough.
use Rattle.std.proofs.Common.{◌≡◌, ℕ, suc, ◌+◌, Bool, true, List, [], ◌∷◌, ◌++◌, length, ◌⊎◌, inl, inr, arith, sym, ◌∙◌, ap, refl, subst, append_assoc}
use Rattle.std.specs.Prelude.{Option, None, Some, slice_get, flat_map}
use Rattle.std.specs.List.{list_all}
use Rattle.hy_val.specs.NodeSorts.{is_sort}
use Rattle.src_prog.specs.Program.{Program}
use Rattle.src_prog.specs.Scope.{sorts_of, locals_of}
use Rattle.src_prog.specs.Shape.{is_program, scope_of as src_scope_of}
use Rattle.src_prog.specs.declared.block.SrcBlock.{SrcBlock}
use Rattle.src_prog.specs.declared.proc.SrcLoop.{SrcLoop}
use Rattle.src_prog.specs.declared.proc.SrcProc.{SrcProc}
use Rattle.hy_val.proofs.Booleans.{and-both}
use Rattle.src_run.proofs.Programs.{cmd_fits_in}
use Rattle.flat_prog.specs.Program.{scope_of}
use Rattle.flat_prog.specs.Shape.{cmd_fits, exit_sort}
use Rattle.flat_prog.specs.declared.block.FlatBlock.{FlatBlock}
use Rattle.extract_def.proofs.Extracting.{whole_there, loop_there}
use Rattle.extract_def.proofs.Facts.{Among, Inside}
use Rattle.extract_def.proofs.Fitting.{moved_cmd_fits}
use Rattle.extract_def.proofs.Members.{from_pieces, only_one}
use Rattle.extract_def.proofs.Moved.{IsMoved}
use Rattle.extract_def.proofs.Lookup.{get_left, get_right}
use Rattle.extract_def.proofs.Shaping.{loop_call_fits}
use Rattle.extract_def.specs.Extraction.{number_of, own_block_at, proc_of, exit_locals, flat_of}
use Rattle.extract_def.specs.Places.{loop_in, moved_by, exit_local}
use Rattle.extract_def.specs.Renaming.{moved_cmd, moved_cmds, call_of_loop}
use Rattle.extract_def.specs.Scopes.{Scope, Whole, In, reached_loops}

-- ---- the variables of a scope's procedure

pub scope_moves : (prog : Program) (p : ℕ) (q : SrcProc) (scope : Scope) → IsMoved (moved_by q scope) (src_scope_of prog q) (scope_of (flat_of prog) (proc_of prog p q scope))
scope_moves prog p q Whole =
    record {
      consts = refl;
      globals = refl;
      locals = λ n s h.
          let z : 0 + n ≡ n = omega arith in
          let a = append_assoc (sorts_of q.outs) (sorts_of q.locals) (exit_locals (reached_loops q)) in
          let b = append_assoc (sorts_of q.ins) (sorts_of q.outs ++ sorts_of q.locals) (exit_locals (reached_loops q)) in
          let all : sorts_of q.ins ++ (sorts_of q.outs ++ (sorts_of q.locals ++ exit_locals (reached_loops q))) ≡ locals_of q ++ exit_locals (reached_loops q) = ap (λ ss. sorts_of q.ins ++ ss) (sym a) ∙ sym b in
          ap (slice_get (sorts_of q.ins ++ (sorts_of q.outs ++ (sorts_of q.locals ++ exit_locals (reached_loops q))))) z ∙ (ap (λ ss. slice_get ss n) all ∙ get_left (locals_of q) (exit_locals (reached_loops q)) n s h);
    }
scope_moves prog p q (In head exit) =
    record {
      consts = refl;
      globals = refl;
      locals = λ n s h. get_right (locals_of q) ((locals_of q ++ exit_sort ∷ []) ++ []) n ∙ get_left (locals_of q ++ exit_sort ∷ []) [] n s (get_left (locals_of q) (exit_sort ∷ []) n s h);
    }

-- a scope with a loop inside, or of a loop, has the local for the exit number
pub exit_local_there : (prog : Program) (p : ℕ) (q : SrcProc) (scope : Scope) → ((exit_locals (reached_loops q) ≡ exit_sort ∷ []) ⊎ ((head exit : ℕ) × (scope ≡ In head exit))) → slice_get (scope_of (flat_of prog) (proc_of prog p q scope)).locals (exit_local q scope) ≡ Some exit_sort
exit_local_there prog p q Whole (inl e) =
    let a = append_assoc (sorts_of q.outs) (sorts_of q.locals) (exit_locals (reached_loops q)) in
    let b = append_assoc (sorts_of q.ins) (sorts_of q.outs ++ sorts_of q.locals) (exit_locals (reached_loops q)) in
    let all : sorts_of q.ins ++ (sorts_of q.outs ++ (sorts_of q.locals ++ exit_locals (reached_loops q))) ≡ locals_of q ++ exit_locals (reached_loops q) = ap (λ ss. sorts_of q.ins ++ ss) (sym a) ∙ sym b in
    let z : 0 + length (locals_of q) ≡ length (locals_of q) + 0 = omega arith in
    ap (slice_get (sorts_of q.ins ++ (sorts_of q.outs ++ (sorts_of q.locals ++ exit_locals (reached_loops q))))) z
    ∙ (ap (λ ss. slice_get ss (length (locals_of q) + 0)) (all ∙ ap (λ ss. locals_of q ++ ss) e) ∙ get_right (locals_of q) (exit_sort ∷ []) 0)
exit_local_there prog p q Whole (inr (head, exit, e)) = absurd cc
exit_local_there prog p q (In head exit) h =
    let z : length (locals_of q) ≡ length (locals_of q) + 0 = omega arith in
    get_right (locals_of q) ((locals_of q ++ exit_sort ∷ []) ++ []) (length (locals_of q))
    ∙ get_left (locals_of q ++ exit_sort ∷ []) [] (length (locals_of q)) exit_sort (ap (slice_get (locals_of q ++ exit_sort ∷ [])) z ∙ get_right (locals_of q) (exit_sort ∷ []) 0)

pub has_exit_local : (q : SrcProc) (l : SrcLoop) → Among (reached_loops q) l → exit_locals (reached_loops q) ≡ exit_sort ∷ []
has_exit_local q l a = at (reached_loops q) a
  where
    at : (ls : List SrcLoop) → Among ls l → exit_locals ls ≡ exit_sort ∷ []
    at [] (k, e) = absurd cc
    at (m ∷ ms) b = refl

-- ---- the commands of a block fit

pub all_of : {A : Type 0} (test : A → Bool) (xs : List A) → ((x : A) → Among xs x → test x ≡ true) → list_all test xs ≡ true
all_of test [] each = refl
all_of test (x ∷ xs) each = and-both (test x) (list_all test xs) (each x (0, refl)) (all_of test xs (λ y a. each y (suc a.0, a.1)))

abbrev CmdsFit : Program → (p : ℕ) → SrcProc → Scope → FlatBlock → Type 0
CmdsFit prog p q scope block = list_all (cmd_fits (flat_of prog).procs (scope_of (flat_of prog) (proc_of prog p q scope))) block.cmds ≡ true

pub own_cmds : (prog : Program) (p : ℕ) (q : SrcProc) (scope : Scope) (b : ℕ) → is_program prog ≡ true → slice_get prog.procs p ≡ Some q → CmdsFit prog p q scope (own_block_at prog p q scope b (slice_get q.blocks b))
own_cmds prog p q scope b h e = at (slice_get q.blocks b) refl
  where
    at : (o : Option SrcBlock) → slice_get q.blocks b ≡ o → list_all (cmd_fits (flat_of prog).procs (scope_of (flat_of prog) (proc_of prog p q scope))) (own_block_at prog p q scope b o).cmds ≡ true
    at None s = refl
    at (Some block) s =
        all_of (cmd_fits (flat_of prog).procs (scope_of (flat_of prog) (proc_of prog p q scope))) (flat_map (moved_cmds prog p (moved_by q scope)) block.cmds)
        (λ c a. let m = from_pieces (moved_cmds prog p (moved_by q scope)) block.cmds c a in
        subst (λ x. cmd_fits (flat_of prog).procs (scope_of (flat_of prog) (proc_of prog p q scope)) x ≡ true) (only_one (moved_cmd p (moved_by q scope) m.0) c m.2)
        (moved_cmd_fits prog (flat_of prog).procs p (moved_by q scope) (src_scope_of prog q) (scope_of (flat_of prog) (proc_of prog p q scope)) m.0 (λ n callee i. whole_there prog n callee i) (scope_moves prog p q scope) (cmd_fits_in prog p b m.1.0 q block m.0 h e s m.1.1)))

-- the call of a loop whose procedure is there
pub call_cmds : (prog : Program) (p : ℕ) (q : SrcProc) (scope : Scope) (head exit : ℕ) → is_program prog ≡ true → slice_get prog.procs p ≡ Some q → list_all is_sort (locals_of q) ≡ true → Among (reached_loops q) (loop_in head exit) → Inside q (In head exit) head →
    cmd_fits (flat_of prog).procs (scope_of (flat_of prog) (proc_of prog p q scope)) (call_of_loop (number_of prog p (In head exit)) (moved_by q scope) (locals_of q)) ≡ true
call_cmds prog p q scope head exit h e sorts a i =
    loop_call_fits (flat_of prog).procs (scope_of (flat_of prog) (proc_of prog p q scope)) (number_of prog p (In head exit)) (moved_by q scope) (locals_of q) (proc_of prog p q (In head exit)) (loop_there prog p q head exit h e i) refl refl sorts
    (scope_moves prog p q scope).locals (exit_local_there prog p q scope (inl (has_exit_local q (loop_in head exit) a)))
