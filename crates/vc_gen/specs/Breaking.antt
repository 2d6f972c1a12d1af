-- Whether a block that is reached fails: some command of it does, behind commands that hold.
use Rattle.std.specs.Prelude.{Bool, true, false, not, ◌&&◌, ◌||◌, List, [], ◌∷◌, slice_get, Option, None, Some}
use Rattle.flat_prog.specs.declared.block.FlatCmd.{FlatCmd}
use Rattle.flat_prog.specs.declared.block.FlatCmd.TheVariants.{Assign, Havoc, Assume, Assert, Call}
use Rattle.flat_prog.specs.declared.proc.FlatProc.{FlatProc}
use Rattle.passive_form.specs.Limited.{Limited}
use Rattle.passive_form.specs.Local.{State, alone, pass, cmds_of}
use Rattle.flat_prog.specs.Local.{Result, Ended, Broken}
use Rattle.hy_val.specs.Stores.{holds}
use Rattle.vc_gen.specs.Fold.{Seen}

-- the next callee fails
abbrev pub bad_call : List Result → Bool
bad_call [] = false
bad_call (Ended os gs ∷ rest) = false
bad_call (Broken p n ∷ rest) = true

-- the run fails at the command
abbrev pub breaks_at : FlatCmd → State → Bool
breaks_at (Assign pairs) s = false
breaks_at (Havoc xs) s = false
breaks_at (Assume e) s = false
breaks_at (Assert p n e) s = not (holds s.env e)
breaks_at (Call p args outs) s = bad_call s.results

abbrev pub test_some : {A : Type 0} → (A → Bool) → Option A → Bool
test_some f None = false
test_some f (Some x) = f x

-- the run fails at one of the commands
abbrev pub breaks : Limited → FlatProc → List FlatCmd → State → Bool
breaks flat q [] s = false
breaks flat q (c ∷ cs) s = breaks_at c s || test_some (breaks flat q cs) (pass flat q c s)

-- a block of the order is reached, and fails
abbrev pub breaks_seen : Limited → FlatProc → Seen → Bool
breaks_seen flat q x = x.on && breaks flat q (cmds_of (slice_get q.blocks x.given.number)) (alone x.env x.given.values x.given.results [])

abbrev pub any_breaks : Limited → FlatProc → List Seen → Bool
any_breaks flat q [] = false
any_breaks flat q (x ∷ xs) = breaks_seen flat q x || any_breaks flat q xs
