-- What single steps of a run read and do. No public clause cites it.
use Rattle.std.specs.Prelude.{◌≡◌, ℕ, nat_eq, Bool, true, false, List, [], ◌∷◌, ◌++◌, length, filter, slice_get, Some, IsTrue}
use Rattle.std.specs.List.{list_all}
use Rattle.hy_val.specs.Exprs.{reads}
use Rattle.hy_val.specs.declared.expr.Env.{Env}
use Rattle.hy_val.specs.declared.expr.Var.{Var}
use Rattle.hy_val.specs.declared.value.Value.{Value}
use Rattle.src_prog.specs.Program.{Program}
use Rattle.src_prog.specs.Scope.{sorts_of}
use Rattle.src_prog.specs.declared.block.Cmd.{Cmd}
use Rattle.src_prog.specs.declared.block.Cmd.TheVariants.{Assign, Havoc, Assume, Assert, Call}
use Rattle.src_prog.specs.declared.block.SrcBlock.{SrcBlock}
use Rattle.src_prog.specs.declared.proc.SrcProc.{SrcProc}
use Rattle.src_run.specs.declared.machine.Status.{Status}
use Rattle.src_run.specs.declared.state.Caller.{Caller}
use Rattle.src_run.specs.declared.state.Step.{Step}
use Rattle.src_run.specs.declared.state.Step.TheVariants.{On, Over}
use Rattle.src_run.specs.Machine.{Config, Frame, env_of, further, locals_wanted}

-- the variables of a command's expressions are there, with their sorts
abbrev pub cmd_reads : Env → Cmd → Bool
cmd_reads env (Assign pairs) = list_all (λ p. reads env p.1) pairs
cmd_reads env (Havoc xs) = true
cmd_reads env (Assume expr) = reads env expr
cmd_reads env (Assert number expr) = reads env expr
cmd_reads env (Call number args outs) = list_all (reads env) args

-- the variables of the next command's expressions are there, if there is one
abbrev pub CanTick : Program → Config → Type 0
CanTick prog c =
    (f : Frame) (rest : List Frame) (proc : SrcProc) (block : SrcBlock) (cmd : Cmd) → c.frames ≡ f ∷ rest → slice_get prog.procs f.proc ≡ Some proc → slice_get proc.blocks f.block ≡ Some block → slice_get block.cmds f.at ≡ Some cmd
    → IsTrue (cmd_reads (env_of c f) cmd)

-- how many callers are frames of the procedure
abbrev pub open_callers : ℕ → List Caller → ℕ
open_callers number callers = length (filter (λ (c : Caller). nat_eq c.place.proc number) callers)

-- a frame of the procedure is open on these values of its ins, above the one that called it
abbrev pub opened : Config → Frame → List Frame → ℕ → SrcProc → List Value → List Var → Config
opened c f rest number proc ins outs =
    record c {
      wants = locals_wanted (sorts_of proc.outs ++ sorts_of proc.locals);
      frames = record { proc = number; block = 0; at = 0; locals = ins; laps = []; outs = outs } ∷ further f ∷ rest;
    }

-- the run goes on behind a condition that is true, and stands with this status behind a false one
abbrev pub TestedTo : Step → Bool → Status → Config → Config → Frame → List Frame → Type 0
TestedTo On b otherwise old new f rest = (b ≡ true) × (new ≡ record old { frames = further f ∷ rest })
TestedTo (Over status) b otherwise old new f rest = (b ≡ false) × (status ≡ otherwise)
