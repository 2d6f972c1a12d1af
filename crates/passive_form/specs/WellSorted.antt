-- Commands whose expressions and variables have their sorts.
use Rattle.std.specs.Prelude.{◌≡◌, ℕ, ◌<◌, List, [], ◌∷◌, ◌++◌, length, slice_get, Option, None, Some, IsTrue}
use Rattle.hy_val.specs.Building.{whole_sort}
use Rattle.hy_val.specs.NodeSorts.{is_sort}
use Rattle.hy_val.specs.declared.sort.ScalarKind.TheVariants.{Bool as BoolSort}
use Rattle.hy_val.specs.declared.sort.Sort.{Sort}
use Rattle.hy_val.specs.declared.sort.SortKind.TheVariants.{Scalar as ScalarSort}
use Rattle.hy_val.specs.declared.expr.Var.{Var}
use Rattle.hy_val.specs.declared.expr.Var.TheVariants.{Const, Global, Local}
use Rattle.hy_val.specs.declared.expr.ExprNode.{ExprNode}
use Rattle.hy_val.specs.declared.expr.ExprNode.TheVariants.{Lit, Var as Read, Unary, Binary, If, Select, Store}
use Rattle.flat_prog.specs.declared.block.FlatCmd.{FlatCmd}
use Rattle.flat_prog.specs.declared.block.FlatCmd.TheVariants.{Assign, Havoc, Assume, Assert, Call}
use Rattle.flat_prog.specs.declared.block.FlatNext.{FlatNext}
use Rattle.flat_prog.specs.declared.block.FlatNext.TheVariants.{Goto, Return}
use Rattle.flat_prog.specs.declared.block.FlatBlock.{FlatBlock}
use Rattle.flat_prog.specs.declared.proc.FlatKind.{FlatKind}
use Rattle.flat_prog.specs.declared.proc.FlatKind.TheVariants.{Source, Loop}
use Rattle.flat_prog.specs.declared.proc.FlatProc.{FlatProc}
use Rattle.passive_form.specs.Limited.{Limited}
use Rattle.passive_form.specs.Local.{sort_of}
use Rattle.flat_prog.specs.Program.{outs_at}
use Rattle.flat_prog.specs.Shape.{exit_sort}

abbrev pub truth_sort : Sort
truth_sort = ScalarSort BoolSort

-- the sort of a variable that an expression reads
abbrev pub var_sort : Limited → FlatProc → Var → Option Sort
var_sort flat q (Const n) = slice_get flat.consts n
var_sort flat q (Global n) = sort_of flat q (Global n)
var_sort flat q (Local n) = sort_of flat q (Local n)

-- each variable of the expression has the sort that stands there
abbrev pub ReadsSorted : Limited → FlatProc → List ExprNode → Type 0
ReadsSorted flat q [] = Unit {0}
ReadsSorted flat q (Read x s ∷ nodes) = (var_sort flat q x ≡ Some s) × ReadsSorted flat q nodes
ReadsSorted flat q (node ∷ nodes) = ReadsSorted flat q nodes

abbrev pub AllSorted : Limited → FlatProc → List (List ExprNode) → Type 0
AllSorted flat q [] = Unit {0}
AllSorted flat q (e ∷ es) = ReadsSorted flat q e × AllSorted flat q es

abbrev pub PairsSorted : Limited → FlatProc → List (Var × List ExprNode) → Type 0
PairsSorted flat q [] = Unit {0}
PairsSorted flat q (pair ∷ pairs) = ((s : Sort) × (sort_of flat q pair.0 ≡ Some s) × (whole_sort pair.1 ≡ Some s) × ReadsSorted flat q pair.1) × PairsSorted flat q pairs

abbrev pub NamesSorted : Limited → FlatProc → List Var → Type 0
NamesSorted flat q [] = Unit {0}
NamesSorted flat q (x ∷ xs) = ((s : Sort) × (sort_of flat q x ≡ Some s) × IsTrue (is_sort s)) × NamesSorted flat q xs

-- the expressions have these sorts, one for one
abbrev pub ArgsHave : List (List ExprNode) → List Sort → Type 0
ArgsHave [] [] = Unit {0}
ArgsHave [] (s ∷ ss) = ⊥
ArgsHave (e ∷ es) [] = ⊥
ArgsHave (e ∷ es) (s ∷ ss) = (whole_sort e ≡ Some s) × ArgsHave es ss

abbrev pub ins_at : Option FlatProc → List Sort
ins_at None = []
ins_at (Some q) = q.ins

-- the sorts of what a procedure is called with
abbrev pub callee_ins : Limited → ℕ → List Sort
callee_ins flat p = ins_at (slice_get flat.procs p)

-- the variables have these sorts, one for one
abbrev pub TargetsHave : Limited → FlatProc → List Var → List Sort → Type 0
TargetsHave flat q [] [] = Unit {0}
TargetsHave flat q [] (s ∷ ss) = ⊥
TargetsHave flat q (x ∷ xs) [] = ⊥
TargetsHave flat q (x ∷ xs) (s ∷ ss) = (sort_of flat q x ≡ Some s) × TargetsHave flat q xs ss

abbrev pub SortsGood : List Sort → Type 0
SortsGood [] = Unit {0}
SortsGood (s ∷ ss) = IsTrue (is_sort s) × SortsGood ss

abbrev pub CmdSorted : Limited → FlatProc → FlatCmd → Type 0
CmdSorted flat q (Assign pairs) = PairsSorted flat q pairs
CmdSorted flat q (Havoc xs) = NamesSorted flat q xs
CmdSorted flat q (Assume e) = (whole_sort e ≡ Some truth_sort) × ReadsSorted flat q e
CmdSorted flat q (Assert p n e) = (whole_sort e ≡ Some truth_sort) × ReadsSorted flat q e
CmdSorted flat q (Call p args outs) = AllSorted flat q args × TargetsHave flat q outs (outs_at (slice_get flat.procs p)) × SortsGood (outs_at (slice_get flat.procs p)) × ArgsHave args (callee_ins flat p)

abbrev pub CmdsSorted : Limited → FlatProc → List FlatCmd → Type 0
CmdsSorted flat q [] = Unit {0}
CmdsSorted flat q (c ∷ cs) = CmdSorted flat q c × CmdsSorted flat q cs

-- a goto leads somewhere
abbrev pub LeadsOn : FlatNext → Type 0
LeadsOn Return = Unit {0}
LeadsOn (Goto ts) = 0 < length ts

-- the outs of a loop procedure are its ins, and the exit
abbrev pub KindSorted : FlatProc → FlatKind → Type 0
KindSorted q (Source p) = Unit {0}
KindSorted q (Loop p head) = q.outs ≡ q.ins ++ exit_sort ∷ []

-- a procedure whose variables and commands have their sorts
pub record ProcSorted (flat : Limited) (q : FlatProc) : Type 0 where
  pub globals : SortsGood flat.globals
  pub outs : SortsGood q.outs
  pub locals : SortsGood q.locals
  pub kind : KindSorted q q.kind
  pub blocks : (n : ℕ) (b : FlatBlock) → slice_get q.blocks n ≡ Some b → CmdsSorted flat q b.cmds × LeadsOn b.next
