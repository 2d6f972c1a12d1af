-- The flat procedures, from what is kept of a procedure.
use Rattle.std.specs.Prelude.{ℕ, List, [], ◌∷◌, ◌++◌}
use Rattle.hy_val.specs.declared.sort.Sort.{Sort}
use Rattle.src_prog.specs.Program.{Program}
use Rattle.src_prog.specs.Scope.{sorts_of}
use Rattle.src_prog.specs.declared.proc.SrcProc.{SrcProc}
use Rattle.flat_prog.specs.declared.block.FlatBlock.{FlatBlock}
use Rattle.flat_prog.specs.declared.proc.FlatKind.TheVariants.{Source, Loop}
use Rattle.flat_prog.specs.Shape.{exit_sort}
use Rattle.flat_prog.specs.declared.proc.FlatProc.{FlatProc}
use Rattle.extract_def.specs.Extraction.{proc_of}
use Rattle.extract_def.specs.Origins.{origins_of}
use Rattle.extract_def.specs.declared.origin.Origin.{Origin}
use Rattle.extract_def.specs.declared.scope.Scope.{Scope}
use Rattle.loop_extract.specs.declared.plan.Plan.{Plan}
use Rattle.extract_def.specs.declared.scope.Scope.TheVariants.{Whole, In}
use Rattle.loop_extract.specs.declared.scopes.Head.{Head}

-- a procedure that has a loop has a local for the exit number
abbrev pub exit_sorts : List Head → List Sort
exit_sorts [] = []
exit_sorts (h ∷ hs) = exit_sort ∷ []

-- the flat procedure of a loop
abbrev pub loop_of : Program → (p : ℕ) → SrcProc → Head → FlatProc
loop_of prog p proc h = proc_of prog p proc (In h.span.head h.span.exit)

-- what its blocks come from
abbrev pub loop_origins : SrcProc → Head → List Origin
loop_origins proc h = origins_of proc (In h.span.head h.span.exit)

-- the flat procedure of a scope, with these blocks
abbrev pub proc_at : SrcProc → Plan → Scope → List FlatBlock → FlatProc
proc_at proc plan Whole blocks = record { kind = Source plan.proc; ins = sorts_of proc.ins; outs = sorts_of proc.outs; locals = sorts_of proc.locals ++ exit_sorts plan.heads; blocks = blocks }
proc_at proc plan (In head exit) blocks = record { kind = Loop plan.proc head; ins = plan.sorts; outs = plan.sorts ++ exit_sort ∷ []; locals = []; blocks = blocks }
