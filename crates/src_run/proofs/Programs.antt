-- What the type of programs keeps of the parts of a program.
use Rattle.std.proofs.Common.{◌≡◌, ℕ, zero, suc, ◌+◌, nat_lt, true, ◌&&◌, List, [], ◌∷◌, length, slice_get, Some, arith}
use Rattle.std.specs.List.{list_all}
use Rattle.src_prog.specs.Program.{Program}
use Rattle.hy_val.specs.Scope.{Scope, is_condition}
use Rattle.src_prog.specs.Scope.{locals_of, cmd_fits}
use Rattle.src_prog.specs.Shape.{is_program, is_procedure, next_fits, block_fits, blocks_fit, scope_of, loops_fit, names_fit, constant_scope}
use Rattle.hy_val.specs.Scope.{are_numbered, ascend_from}
use Rattle.src_prog.specs.declared.block.Cmd.{Cmd}
use Rattle.src_prog.specs.declared.block.SrcBlock.{SrcBlock}
use Rattle.src_prog.specs.declared.proc.SrcLoop.{SrcLoop}
use Rattle.src_prog.specs.declared.proc.SrcProc.{SrcProc}
use Rattle.hy_val.proofs.Booleans.{and-first, and-second}
use Rattle.hy_val.proofs.Booleans.{all-at}

-- ---- procedures

pub proc_fits : (prog : Program) (n : ℕ) (proc : SrcProc) → is_program prog ≡ true → slice_get prog.procs n ≡ Some proc → is_procedure prog proc ≡ true
proc_fits prog n proc h e =
    let rest = and-second (names_fit prog.consts && (names_fit prog.globals && ascend_from 0 (length prog.consts) prog.uniques)) _ h in
    let procs = and-second (are_numbered (length prog.procs)) _ (and-second (list_all (is_condition (constant_scope prog)) prog.axioms) _ rest) in
    all-at (is_procedure prog) prog.procs n proc procs e

-- its loops and its blocks
pub proc_shape : (prog : Program) (proc : SrcProc) → is_procedure prog proc ≡ true → (loops_fit proc && blocks_fit prog.procs (scope_of prog proc) proc.loops (length proc.blocks) 0 proc.blocks) ≡ true
proc_shape prog proc h =
    and-second (are_numbered (length (locals_of proc)) && (nat_lt 0 (length proc.blocks) && are_numbered (length proc.blocks))) _
    (and-second (names_fit proc.ins && (names_fit proc.outs && names_fit proc.locals)) _ h)

block_at : (procs : List SrcProc) (scope : Scope) (loops : List SrcLoop) (count number : ℕ) (blocks : List SrcBlock) (n : ℕ) (block : SrcBlock) → blocks_fit procs scope loops count number blocks ≡ true → slice_get blocks n ≡ Some block
    → block_fits procs scope loops count (number + n) block ≡ true
block_at procs scope loops count number [] n block h e = cc
block_at procs scope loops count number (b ∷ bs) zero block h e =
    let same : b ≡ block = cc in
    let here : number + 0 ≡ number = omega arith in
    rw (here, ← same) (and-first (block_fits procs scope loops count number b) _ h)
block_at procs scope loops count number (b ∷ bs) (suc n) block h e =
    let there : number + suc n ≡ number + 1 + n = omega arith in
    rw there (block_at procs scope loops count (number + 1) bs n block (and-second (block_fits procs scope loops count number b) _ h) e)

pub block_fits_in : (prog : Program) (p n : ℕ) (proc : SrcProc) (block : SrcBlock) → is_program prog ≡ true → slice_get prog.procs p ≡ Some proc → slice_get proc.blocks n ≡ Some block
    → block_fits prog.procs (scope_of prog proc) proc.loops (length proc.blocks) n block ≡ true
block_fits_in prog p n proc block h e f =
    let fit = and-second (loops_fit proc) _ (proc_shape prog proc (proc_fits prog p proc h e)) in
    let one = block_at prog.procs (scope_of prog proc) proc.loops (length proc.blocks) 0 proc.blocks n block fit f in
    let zero_n : 0 + n ≡ n = omega arith in
    rw zero_n at one

pub next_fits_in : (prog : Program) (p n : ℕ) (proc : SrcProc) (block : SrcBlock) → is_program prog ≡ true → slice_get prog.procs p ≡ Some proc → slice_get proc.blocks n ≡ Some block
    → next_fits proc.loops (length proc.blocks) n block.next ≡ true
next_fits_in prog p n proc block h e f = and-second (list_all (cmd_fits prog.procs (scope_of prog proc)) block.cmds) _ (block_fits_in prog p n proc block h e f)

pub cmd_fits_in : (prog : Program) (p n k : ℕ) (proc : SrcProc) (block : SrcBlock) (cmd : Cmd) → is_program prog ≡ true → slice_get prog.procs p ≡ Some proc → slice_get proc.blocks n ≡ Some block → slice_get block.cmds k ≡ Some cmd
    → cmd_fits prog.procs (scope_of prog proc) cmd ≡ true
cmd_fits_in prog p n k proc block cmd h e f g =
    all-at (cmd_fits prog.procs (scope_of prog proc)) block.cmds k cmd (and-first (list_all (cmd_fits prog.procs (scope_of prog proc)) block.cmds) _ (block_fits_in prog p n proc block h e f)) g

-- ---- names, constants and axioms

pub names_of_consts : (prog : Program) → is_program prog ≡ true → names_fit prog.consts ≡ true
names_of_consts prog h = and-first (names_fit prog.consts) _ (and-first (names_fit prog.consts && (names_fit prog.globals && ascend_from 0 (length prog.consts) prog.uniques)) _ h)

pub names_of_globals : (prog : Program) → is_program prog ≡ true → names_fit prog.globals ≡ true
names_of_globals prog h =
    and-first (names_fit prog.globals) _ (and-second (names_fit prog.consts) _ (and-first (names_fit prog.consts && (names_fit prog.globals && ascend_from 0 (length prog.consts) prog.uniques)) _ h))

-- the ins, the outs and the other locals
pub names_of_proc : (prog : Program) (n : ℕ) (proc : SrcProc) → is_program prog ≡ true → slice_get prog.procs n ≡ Some proc → (names_fit proc.ins ≡ true) × (names_fit proc.outs ≡ true) × (names_fit proc.locals ≡ true)
names_of_proc prog n proc h e =
    let all = and-first (names_fit proc.ins && (names_fit proc.outs && names_fit proc.locals)) _ (proc_fits prog n proc h e) in
    let behind = and-second (names_fit proc.ins) _ all in
    (and-first (names_fit proc.ins) _ all, and-first (names_fit proc.outs) _ behind, and-second (names_fit proc.outs) _ behind)

pub axioms_fit : (prog : Program) → is_program prog ≡ true → list_all (is_condition (constant_scope prog)) prog.axioms ≡ true
axioms_fit prog h =
    and-first (list_all (is_condition (constant_scope prog)) prog.axioms) _ (and-second (names_fit prog.consts && (names_fit prog.globals && ascend_from 0 (length prog.consts) prog.uniques)) _ h)

pub uniques_ascend : (prog : Program) → is_program prog ≡ true → ascend_from 0 (length prog.consts) prog.uniques ≡ true
uniques_ascend prog h =
    and-second (names_fit prog.globals) _ (and-second (names_fit prog.consts) _ (and-first (names_fit prog.consts && (names_fit prog.globals && ascend_from 0 (length prog.consts) prog.uniques)) _ h))
