-- What contracts see of a program.
use Rattle.std.specs.Prelude.{ℕ, Bool, List, Option}
use Rattle.std.specs.List.{position_from}
use Rattle.std.specs.Str.{bytes_eq}
use Rattle.hy_val.specs.declared.expr.ExprNode.{ExprNode}
use Rattle.src_prog.specs.declared.proc.Named.{Named}
use Rattle.src_prog.specs.declared.proc.SrcProc.{SrcProc}

-- a program: constants, globals and procedures, each numbered from 0 in order, and the axioms
pub record Program : Type 0 where
  pub consts : List Named
  pub uniques : List ℕ
  pub axioms : List (List ExprNode)
  pub globals : List Named
  pub procs : List SrcProc

-- whether a procedure has this name
abbrev pub has_name : List ℕ → SrcProc → Bool
has_name name proc = bytes_eq proc.name name

-- the number of the first procedure of this name, where there is one
abbrev pub number_of : Program → List ℕ → Option ℕ
number_of prog name = position_from (has_name name) 0 prog.procs
