-- What each block of the flat program comes from.
use Rattle.std.specs.Prelude.{ℕ, List, [], ◌∷◌, ◌++◌, length, map, flat_map, if◌then◌else◌}
use Rattle.src_prog.specs.Program.{Program}
use Rattle.src_prog.specs.declared.proc.SrcLoop.{SrcLoop}
use Rattle.src_prog.specs.declared.proc.SrcProc.{SrcProc}
use Rattle.flat_prog.specs.Sites.{numbers_from}
use Rattle.extract_def.specs.declared.origin.Origin.{Origin}
use Rattle.extract_def.specs.declared.origin.Origin.TheVariants.{Block, Enter, Pass, Leave, Again}
use Rattle.extract_def.specs.Exits.{exits_of}
use Rattle.extract_def.specs.Places.{exits_in, pass_count}
use Rattle.extract_def.specs.Scopes.{Scope, Whole, In, reached_loops, loops_inside, kept_blocks, is_head_of}

-- what a block that a scope keeps comes from, where these are the loops directly inside
abbrev pub kept_origin : List SrcLoop → ℕ → Origin
kept_origin inside block = if is_head_of inside block then Enter block else Block block

-- what the blocks behind the others of a loop procedure come from
abbrev pub end_origins : SrcProc → Scope → List Origin
end_origins proc Whole = []
end_origins proc (In head exit) = map Leave (numbers_from 0 (length (exits_in proc (In head exit)))) ++ Again head ∷ []

-- the origins of the blocks of a scope's flat procedure, in order
abbrev pub origins_of : SrcProc → Scope → List Origin
origins_of proc scope =
    map (kept_origin (loops_inside proc scope)) (kept_blocks proc scope)
    ++ (flat_map (λ l. map (Pass l.head) (numbers_from 0 (pass_count (exits_of proc l)))) (loops_inside proc scope)
    ++ end_origins proc scope)

-- those of all flat procedures
abbrev pub origins : Program → List (List Origin)
origins prog =
    map (λ proc. origins_of proc Whole) prog.procs
    ++ flat_map (λ proc. map (λ l. origins_of proc (In l.head l.exit)) (reached_loops proc)) prog.procs
