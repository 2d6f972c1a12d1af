-- The flat program by its parts.
use Rattle.std.proofs.Common.{◌≡◌, ◌&&◌, ℕ, true, List, ◌++◌, length, sym, ap, ◌∙◌}
use Rattle.std.specs.List.{list_all}
use Rattle.hy_val.specs.declared.expr.ExprNode.{ExprNode}
use Rattle.hy_val.specs.declared.sort.Sort.{Sort}
use Rattle.src_prog.specs.Program.{Program}
use Rattle.src_prog.specs.Scope.{sorts_of}
use Rattle.hy_val.specs.Scope.{are_numbered}
use Rattle.flat_prog.specs.Program.{FlatProgram}
use Rattle.flat_prog.specs.declared.proc.FlatProc.{FlatProc}
use Rattle.extract_def.specs.Extraction.{flat_of, source_procs, loop_procs}
use Rattle.extract_def.specs.Laws.{is_small, is_small_proc}

pub flat_is : (prog : Program) (consts globals : List Sort) (uniques : List ℕ) (axioms : List (List ExprNode)) (procs : List FlatProc) → consts ≡ sorts_of prog.consts → uniques ≡ prog.uniques → axioms ≡ prog.axioms → globals ≡ sorts_of prog.globals
    → procs ≡ source_procs prog 0 prog.procs ++ loop_procs prog 0 prog.procs
    → ◌≡◌ {A = FlatProgram} (record { consts = consts; uniques = uniques; axioms = axioms; globals = globals; procs = procs }) (flat_of prog)
flat_is prog consts globals uniques axioms procs a b d e f = cc

pub small_is : (prog : Program) (procs : List FlatProc) → procs ≡ source_procs prog 0 prog.procs ++ loop_procs prog 0 prog.procs → (are_numbered (length procs) && list_all is_small_proc procs) ≡ true → is_small (flat_of prog) ≡ true
small_is prog procs e h = ap (λ (qs : List FlatProc). are_numbered (length qs) && list_all is_small_proc qs) (sym e) ∙ h
