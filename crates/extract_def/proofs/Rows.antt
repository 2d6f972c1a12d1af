-- The flat programs of small programs, computed.
use Rattle.std.proofs.Common.{ℕ, true, false, List, [], ◌∷◌, map, refl, codes, ◌≡◌}
use Rattle.hy_val.specs.declared.atom.AtomKind.TheVariants.{Bool as BoolAtom, Bv as BvAtom}
use Rattle.hy_val.specs.declared.expr.ExprNode.{ExprNode}
use Rattle.hy_val.specs.declared.expr.ExprNode.TheVariants.{Lit, Var as Read, Binary}
use Rattle.hy_val.specs.declared.expr.Var.TheVariants.{Local}
use Rattle.hy_val.specs.declared.operator.BvOp.TheVariants.{Eq, Ne, BvAdd}
use Rattle.hy_val.specs.declared.sort.ScalarKind.TheVariants.{Bv as BvSort}
use Rattle.hy_val.specs.declared.sort.Sort.{Sort}
use Rattle.hy_val.specs.declared.sort.SortKind.TheVariants.{Scalar as ScalarSort}
use Rattle.src_prog.specs.Program.{Program}
use Rattle.src_prog.specs.Shape.{is_program}
use Rattle.src_prog.specs.declared.block.Cmd.{Cmd}
use Rattle.src_prog.specs.declared.block.Cmd.TheVariants as source
use Rattle.src_prog.specs.declared.block.Next.TheVariants.{Goto as SrcGoto, Return as SrcReturn}
use Rattle.src_prog.specs.declared.block.SrcBlock.{SrcBlock}
use Rattle.src_prog.specs.declared.proc.Named.{Named}
use Rattle.flat_prog.specs.Shape.{exit_sort}
use Rattle.flat_prog.specs.declared.block.FlatBlock.{FlatBlock}
use Rattle.flat_prog.specs.declared.block.FlatCmd.{FlatCmd}
use Rattle.flat_prog.specs.declared.block.FlatCmd.TheVariants.{Assign, Assume, Assert, Call}
use Rattle.flat_prog.specs.declared.block.FlatNext.TheVariants.{Goto, Return}
use Rattle.flat_prog.specs.declared.proc.FlatKind.TheVariants.{Source, Loop}
use Rattle.flat_prog.specs.declared.proc.FlatProc.{FlatProc}
use Rattle.extract_def.specs.declared.origin.Origin.TheVariants.{Block, Enter, Pass, Leave, Again}
use Rattle.extract_def.specs.Extraction.{flat_of}
use Rattle.extract_def.specs.Origins.{origins}

abbrev pub bv8 : Sort
bv8 = ScalarSort (BvSort 8)

abbrev pub var : ℕ → List ExprNode
var n = Read (Local n) bv8 ∷ []

abbrev lit : ℕ → ExprNode
lit n = Lit (BvAtom (record { width = 8; bits = n }))

abbrev is : ℕ → ℕ → List ExprNode
is i n = Read (Local i) bv8 ∷ lit n ∷ Binary Eq 0 1 ∷ []

abbrev pub is_not : ℕ → ℕ → List ExprNode
is_not i n = Read (Local i) bv8 ∷ lit n ∷ Binary Ne 0 1 ∷ []

abbrev pub next_of : ℕ → List ExprNode
next_of i = Read (Local i) bv8 ∷ lit 1 ∷ Binary BvAdd 0 1 ∷ []

abbrev local : List ℕ → Named
local text = record { name = text; sort = bv8 }

abbrev goes : List Cmd → List ℕ → SrcBlock
goes cmds targets = record { cmds = cmds; next = SrcGoto targets }

-- var i: bv8; i := 0bv8; while (i != 3bv8) { i := ADD(i, 1bv8); } assert false; (row 5)
abbrev pub row5 : Program
row5 = record {
  consts = [];
  uniques = [];
  axioms = [];
  globals = [];
  procs =
      record {
        name = codes "main";
        ins = [];
        outs = [];
        locals = local (codes "i") ∷ [];
        blocks =
            goes (source.Assign ((Local 0, lit 0 ∷ []) ∷ []) ∷ []) (1 ∷ [])
            ∷ goes [] (2 ∷ 3 ∷ [])
            ∷ goes (source.Assume (is_not 0 3) ∷ source.Assign ((Local 0, next_of 0) ∷ []) ∷ []) (1 ∷ [])
            ∷ record { cmds = source.Assume (is 0 3) ∷ source.Assert 1 (Lit (BoolAtom false) ∷ []) ∷ []; next = SrcReturn } ∷ [];
        loops = record { head = 1; exit = 3 } ∷ [];
      } ∷ [];
}

abbrev exit_is : ℕ → ℕ → FlatCmd
exit_is local n = Assume (Read (Local local) exit_sort ∷ Lit (BvAtom (record { width = 32; bits = n })) ∷ Binary Eq 0 1 ∷ [])

abbrev pub exit_becomes : ℕ → ℕ → FlatCmd
exit_becomes local n = Assign ((Local local, Lit (BvAtom (record { width = 32; bits = n })) ∷ []) ∷ [])

row5_is_program : is_program row5 ≡ true
row5_is_program = refl

-- The kept blocks of main are 0, 1 (the loop's head, a call of procedure 1) and 3; behind the one exit, from the head's second place, the number is 0
-- and the run goes on at block 3, which stands at 2. The loop keeps 1 and 2, then leaves by exit 0, or calls itself.
row5_flat : flat_of row5 ≡ record {
  consts = [];
  uniques = [];
  axioms = [];
  globals = [];
  procs =
      record {
        kind = Source 0;
        ins = [];
        outs = [];
        locals = bv8 ∷ exit_sort ∷ [];
        blocks =
            record { cmds = Assign ((Local 0, lit 0 ∷ []) ∷ []) ∷ []; next = Goto (1 ∷ []) }
            ∷ record { cmds = Call 1 (var 0 ∷ []) (Local 0 ∷ Local 1 ∷ []) ∷ []; next = Goto (3 ∷ []) }
            ∷ record { cmds = Assume (is 0 3) ∷ Assert 0 1 (Lit (BoolAtom false) ∷ []) ∷ []; next = Return }
            ∷ record { cmds = exit_is 1 0 ∷ []; next = Goto (2 ∷ []) } ∷ [];
      }
      ∷ record {
        kind = Loop 0 1;
        ins = bv8 ∷ [];
        outs = bv8 ∷ exit_sort ∷ [];
        locals = [];
        blocks =
            record { cmds = []; next = Goto (1 ∷ 2 ∷ []) }
            ∷ record { cmds = Assume (is_not 1 3) ∷ Assign ((Local 1, next_of 1) ∷ []) ∷ []; next = Goto (3 ∷ []) }
            ∷ record { cmds = exit_becomes 2 0 ∷ []; next = Return }
            ∷ record { cmds = Call 1 (var 1 ∷ []) (Local 1 ∷ Local 2 ∷ []) ∷ []; next = Return } ∷ [];
      } ∷ [];
}
row5_flat = refl

row5_origins : origins row5 ≡ (Block 0 ∷ Enter 1 ∷ Block 3 ∷ Pass 1 0 ∷ []) ∷ (Block 1 ∷ Block 2 ∷ Leave 0 ∷ Again 1 ∷ []) ∷ []
row5_origins = refl

-- A loop in a loop, with a way out of both from the inner one, and a block that is not reached: 0 before, the outer head 1, the inner head 2, its body 3,
-- which goes on, leaves both, or returns, its exit 4, the exit 5, and 6 (row 7 in small form).
abbrev nested : Program
nested = record {
  consts = [];
  uniques = [];
  axioms = [];
  globals = [];
  procs =
      record {
        name = codes "main";
        ins = [];
        outs = [];
        locals = [];
        blocks =
            goes [] (1 ∷ [])
            ∷ goes [] (2 ∷ 5 ∷ [])
            ∷ goes [] (3 ∷ 4 ∷ [])
            ∷ goes [] (2 ∷ 5 ∷ [])
            ∷ goes [] (1 ∷ [])
            ∷ record { cmds = []; next = SrcReturn }
            ∷ record { cmds = []; next = SrcReturn } ∷ [];
        loops = record { head = 1; exit = 5 } ∷ record { head = 2; exit = 4 } ∷ [];
      } ∷ [];
}

abbrev block : List FlatCmd → List ℕ → FlatBlock
block cmds targets = record { cmds = cmds; next = Goto targets }

abbrev ends : List FlatCmd → FlatBlock
ends cmds = record { cmds = cmds; next = Return }

-- Main keeps 0, 1 and 5, and passes the exits (1, 1) and (3, 1) of the outer loop, both to 5. The outer loop keeps 1, 2 and 4; passes the exits (2, 1),
-- to 4, and (3, 1), out of it too, of the inner one; leaves by its two exits, or calls itself. The inner loop keeps 2 and 3, leaves, or calls itself.
nested_flat : map (λ (q : FlatProc). q.blocks) (flat_of nested).procs
    ≡ (block [] (1 ∷ []) ∷ block (Call 1 [] (Local 0 ∷ []) ∷ []) (3 ∷ 4 ∷ []) ∷ ends [] ∷ block (exit_is 0 0 ∷ []) (2 ∷ []) ∷ block (exit_is 0 1 ∷ []) (2 ∷ []) ∷ [])
    ∷ (block [] (1 ∷ 5 ∷ []) ∷ block (Call 2 [] (Local 0 ∷ []) ∷ []) (3 ∷ 4 ∷ []) ∷ block [] (7 ∷ [])
    ∷ block (exit_is 0 0 ∷ []) (2 ∷ []) ∷ block (exit_is 0 1 ∷ []) (6 ∷ [])
    ∷ ends (exit_becomes 0 0 ∷ []) ∷ ends (exit_becomes 0 1 ∷ []) ∷ ends (Call 1 [] (Local 0 ∷ []) ∷ []) ∷ [])
    ∷ (block [] (1 ∷ 2 ∷ []) ∷ block [] (4 ∷ 3 ∷ []) ∷ ends (exit_becomes 0 0 ∷ []) ∷ ends (exit_becomes 0 1 ∷ []) ∷ ends (Call 2 [] (Local 0 ∷ []) ∷ []) ∷ [])
    ∷ []
nested_flat = refl

nested_is_program : is_program nested ≡ true
nested_is_program = refl

nested_origins : origins nested ≡ (Block 0 ∷ Enter 1 ∷ Block 5 ∷ Pass 1 0 ∷ Pass 1 1 ∷ []) ∷ (Block 1 ∷ Enter 2 ∷ Block 4 ∷ Pass 2 0 ∷ Pass 2 1 ∷ Leave 0 ∷ Leave 1 ∷ Again 1 ∷ []) ∷ (Block 2 ∷ Block 3 ∷ Leave 0 ∷ Leave 1 ∷ Again 2 ∷ []) ∷ []
nested_origins = refl

-- a loop that is never left
abbrev endless : Program
endless = record {
  consts = [];
  uniques = [];
  axioms = [];
  globals = [];
  procs =
      record { name = codes "main"; ins = []; outs = []; locals = []; blocks = goes [] (1 ∷ []) ∷ goes [] (1 ∷ []) ∷ record { cmds = []; next = SrcReturn } ∷ []; loops = record { head = 1; exit = 2 } ∷ [] } ∷ [];
}

endless_flat : map (λ (q : FlatProc). q.blocks) (flat_of endless).procs
    ≡ (block [] (1 ∷ []) ∷ block (Call 1 [] (Local 0 ∷ []) ∷ []) (2 ∷ []) ∷ ends (Assume (Lit (BoolAtom false) ∷ []) ∷ []) ∷ [])
    ∷ (block [] (1 ∷ []) ∷ ends (Call 1 [] (Local 0 ∷ []) ∷ []) ∷ [])
    ∷ []
endless_flat = refl
