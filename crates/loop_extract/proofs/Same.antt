-- What is kept of a scope gives the blocks of the definition.
use Rattle.std.proofs.Common.{◌≡◌, ℕ, ◌+◌, Bool, true, false, ◌&&◌, nat_eq, nat_lt, List, [], ◌∷◌, ◌++◌, length, map, slice_get, Option, None, Some, if◌then◌else◌, refl, ap, ◌∙◌, arith}
use Rattle.std.specs.List.{flat_map}
use Rattle.src_prog.specs.Program.{Program}
use Rattle.src_prog.specs.declared.block.Cmd.{Cmd}
use Rattle.src_prog.specs.declared.block.Next.{Next}
use Rattle.src_prog.specs.declared.block.Next.TheVariants.{Goto as SrcGoto, Return as SrcReturn}
use Rattle.src_prog.specs.declared.block.SrcBlock.{SrcBlock}
use Rattle.src_prog.specs.declared.proc.SrcLoop.{SrcLoop}
use Rattle.src_prog.specs.declared.proc.SrcProc.{SrcProc}
use Rattle.src_run.specs.Machine.{entry_of, Again, Enter, Out}
use Rattle.flat_prog.specs.declared.block.FlatBlock.{FlatBlock}
use Rattle.flat_prog.specs.declared.block.FlatCmd.{FlatCmd}
use Rattle.flat_prog.specs.declared.block.FlatNext.{FlatNext}
use Rattle.flat_prog.specs.declared.block.FlatNext.TheVariants.{Goto, Return}
use Rattle.extract_def.specs.Exits.{exits_of, place_of_edge}
use Rattle.extract_def.specs.Extraction.{blocks_of, kept_block, head_block, own_block_at, next_from, dest_from, return_from, target_from, targets_from, pass_blocks, pass_blocks_of, leave_blocks, again_block, end_blocks}
use Rattle.extract_def.specs.Places.{edge_place, kept_place, again_place, exits_in, exit_of, leave_place, moved_by, passes_of}
use Rattle.extract_def.specs.Renaming.{moved_cmd, moved_cmds, assume_exit, set_exit}
use Rattle.extract_def.specs.Scopes.{kept_blocks, loops_inside}
use Rattle.extract_def.specs.declared.edge.Dest.{Dest}
use Rattle.extract_def.specs.declared.edge.Dest.TheVariants.{Back, At}
use Rattle.extract_def.specs.declared.edge.Edge.{Edge}
use Rattle.extract_def.specs.declared.scope.Scope.{Scope}
use Rattle.extract_def.specs.declared.scope.Scope.TheVariants.{Whole, In}
use Rattle.loop_extract.specs.Regions.{region_of, inner_of, leave_at, target_at, targets_at, return_at, next_at, dest_at, block_at, plain_block_at, pass_from, pass_all, leave_from, ends_at, blocks_at}

-- ---- where edges lead

leaves_same : (prog : Program) (p : ℕ) (proc : SrcProc) (scope : Scope) (block place : ℕ) → leave_at (region_of prog p proc scope) block place ≡ leave_place proc scope (exit_of proc scope block place)
leaves_same prog p proc scope block place = sum (length (kept_blocks proc scope)) (passes_of proc (loops_inside proc scope)) (place_of_edge block place (exits_in proc scope))
  where
    sum : (a b x : ℕ) → a + (b + 0) + x ≡ a + (b + x)
    sum a b x = omega arith

entry_same : (proc : SrcProc) (scope : Scope) (block place to : ℕ) (ls : List SrcLoop) → kept_place proc scope to ≡ edge_place proc scope block place to (entry_of ls to)
entry_same proc scope block place to [] = refl
entry_same proc scope block place to (l ∷ ls) = pick (nat_eq l.head to) (entry_same proc scope block place to ls)
  where
    pick : (b : Bool) → kept_place proc scope to ≡ edge_place proc scope block place to (entry_of ls to) → kept_place proc scope to ≡ edge_place proc scope block place to (if b then Enter l.exit else entry_of ls to)
    pick true h = refl
    pick false h = h

target_same : (prog : Program) (p : ℕ) (proc : SrcProc) (scope : Scope) (block place to : ℕ) → target_at (region_of prog p proc scope) scope block place to ≡ target_from proc scope block place to
target_same prog p proc Whole block place to = entry_same proc Whole block place to proc.loops
target_same prog p proc (In head exit) block place to = pick (nat_eq head to) (nat_lt head to && nat_lt to exit)
  where
    pick : (a b : Bool)
        → (if a then again_place proc (In head exit) else (if b then kept_place proc (In head exit) to else leave_at (region_of prog p proc (In head exit)) block place))
        ≡ edge_place proc (In head exit) block place to (if a then Again else (if b then entry_of proc.loops to else Out))
    pick true b = refl
    pick false true = entry_same proc (In head exit) block place to proc.loops
    pick false false = leaves_same prog p proc (In head exit) block place

targets_same : (prog : Program) (p : ℕ) (proc : SrcProc) (scope : Scope) (block place : ℕ) (ts : List ℕ) → targets_at (region_of prog p proc scope) block place ts ≡ targets_from proc scope block place ts
targets_same prog p proc scope block place [] = refl
targets_same prog p proc scope block place (t ∷ ts) =
    ap (λ n. n ∷ targets_at (region_of prog p proc scope) block (place + 1) ts) (target_same prog p proc scope block place t) ∙ ap (λ ns. target_from proc scope block place t ∷ ns) (targets_same prog p proc scope block (place + 1) ts)

return_same : (prog : Program) (p : ℕ) (proc : SrcProc) (scope : Scope) (block : ℕ) → return_at (region_of prog p proc scope) scope block ≡ return_from proc scope block
return_same prog p proc Whole block = refl
return_same prog p proc (In head exit) block = ap (λ n. Goto (n ∷ [])) (leaves_same prog p proc (In head exit) block 0)

next_same : (prog : Program) (p : ℕ) (proc : SrcProc) (scope : Scope) (block : ℕ) (next : Next) → next_at (region_of prog p proc scope) block next ≡ next_from proc scope block next
next_same prog p proc scope block SrcReturn = return_same prog p proc scope block
next_same prog p proc scope block (SrcGoto ts) = ap Goto (targets_same prog p proc scope block 0 ts)

dest_same : (prog : Program) (p : ℕ) (proc : SrcProc) (scope : Scope) (e : Edge) (d : Dest) → dest_at (region_of prog p proc scope) e d ≡ dest_from proc scope e.block e.place d
dest_same prog p proc scope e Back = return_same prog p proc scope e.block
dest_same prog p proc scope e (At to) = ap (λ n. Goto (n ∷ [])) (target_same prog p proc scope e.block e.place to)

-- ---- blocks

singles : (prog : Program) (p by : ℕ) (cmds : List Cmd) → map (moved_cmd p by) cmds ≡ flat_map (moved_cmds prog p by) cmds
singles prog p by [] = refl
singles prog p by (c ∷ cmds) = ap (λ cs. moved_cmd p by c ∷ cs) (singles prog p by cmds)

plain_same : (prog : Program) (p : ℕ) (proc : SrcProc) (scope : Scope) (n : ℕ) (o : Option SrcBlock) → plain_block_at (region_of prog p proc scope) n o ≡ own_block_at prog p proc scope n o
plain_same prog p proc scope n None = refl
plain_same prog p proc scope n (Some b) = ap (λ (x : FlatNext). record { cmds = map (moved_cmd p (region_of prog p proc scope).by) b.cmds; next = x }) (next_same prog p proc scope n b.next)
    ∙ ap (λ (cs : List FlatCmd). record { cmds = cs; next = next_from proc scope n b.next }) (singles prog p (moved_by proc scope) b.cmds)

kept_same : (prog : Program) (p : ℕ) (proc : SrcProc) (scope : Scope) (ls : List SrcLoop) (n : ℕ) → block_at (region_of prog p proc scope) proc.blocks (map (inner_of prog p proc scope) ls) n ≡ kept_block prog p proc scope ls n
kept_same prog p proc scope [] n = plain_same prog p proc scope n (slice_get proc.blocks n)
kept_same prog p proc scope (l ∷ ls) n = ap (λ (b : FlatBlock). if nat_eq l.head n then head_block prog p proc scope l else b) (kept_same prog p proc scope ls n)

map_same : {A B : Type 0} (f g : A → B) (xs : List A) → ((x : A) → f x ≡ g x) → map f xs ≡ map g xs
map_same f g [] h = refl
map_same f g (x ∷ xs) h = ap (λ y. y ∷ map f xs) (h x) ∙ ap (λ ys. g x ∷ ys) (map_same f g xs h)

pass_same : (prog : Program) (p : ℕ) (proc : SrcProc) (scope : Scope) (x : ℕ) (es : List Edge) → pass_from (region_of prog p proc scope) x es ≡ pass_blocks proc scope x es
pass_same prog p proc scope x [] = refl
pass_same prog p proc scope x (e ∷ es) =
    ap (λ (n : FlatNext). record { cmds = assume_exit (region_of prog p proc scope).local x ∷ []; next = n } ∷ pass_from (region_of prog p proc scope) (x + 1) es) (dest_same prog p proc scope e e.dest)
    ∙ ap (λ bs. record { cmds = assume_exit (region_of prog p proc scope).local x ∷ []; next = dest_from proc scope e.block e.place e.dest } ∷ bs) (pass_same prog p proc scope (x + 1) es)

passes_same : (prog : Program) (p : ℕ) (proc : SrcProc) (scope : Scope) (es : List Edge) → pass_all (region_of prog p proc scope) es ≡ pass_blocks_of proc scope es
passes_same prog p proc scope [] = refl
passes_same prog p proc scope (e ∷ es) = pass_same prog p proc scope 0 (e ∷ es)

all_passes : (prog : Program) (p : ℕ) (proc : SrcProc) (scope : Scope) (ls : List SrcLoop)
    → flat_map (λ i. pass_all (region_of prog p proc scope) i.exits) (map (inner_of prog p proc scope) ls) ≡ flat_map (λ l. pass_blocks_of proc scope (exits_of proc l)) ls
all_passes prog p proc scope [] = refl
all_passes prog p proc scope (l ∷ ls) =
    ap (λ bs. bs ++ flat_map (λ i. pass_all (region_of prog p proc scope) i.exits) (map (inner_of prog p proc scope) ls)) (passes_same prog p proc scope (exits_of proc l))
    ∙ ap (λ bs. pass_blocks_of proc scope (exits_of proc l) ++ bs) (all_passes prog p proc scope ls)

leave_same : (prog : Program) (p : ℕ) (proc : SrcProc) (scope : Scope) (x : ℕ) (es : List Edge) → leave_from (region_of prog p proc scope) x es ≡ leave_blocks proc scope x es
leave_same prog p proc scope x [] = refl
leave_same prog p proc scope x (e ∷ es) = ap (λ bs. record { cmds = set_exit (region_of prog p proc scope).local x ∷ []; next = Return } ∷ bs) (leave_same prog p proc scope (x + 1) es)

ends_same : (prog : Program) (p : ℕ) (proc : SrcProc) (scope : Scope) → ends_at (region_of prog p proc scope) scope ≡ end_blocks prog p proc scope
ends_same prog p proc Whole = refl
ends_same prog p proc (In head exit) = ap (λ bs. bs ++ again_block prog p proc (In head exit) ∷ []) (leave_same prog p proc (In head exit) 0 (exits_in proc (In head exit)))

pub blocks_same : (prog : Program) (p : ℕ) (proc : SrcProc) (scope : Scope) → blocks_at (region_of prog p proc scope) proc.blocks ≡ blocks_of prog p proc scope
blocks_same prog p proc scope =
    let r = region_of prog p proc scope in
    ap (λ bs. bs ++ (flat_map (λ i. pass_all r i.exits) r.inside ++ ends_at r scope))
    (map_same (block_at r proc.blocks r.inside) (kept_block prog p proc scope (loops_inside proc scope)) (kept_blocks proc scope) (kept_same prog p proc scope (loops_inside proc scope)))
    ∙ ap (λ bs. map (kept_block prog p proc scope (loops_inside proc scope)) (kept_blocks proc scope) ++ (bs ++ ends_at r scope)) (all_passes prog p proc scope (loops_inside proc scope))
    ∙ ap (λ bs. map (kept_block prog p proc scope (loops_inside proc scope)) (kept_blocks proc scope) ++ (flat_map (λ l. pass_blocks_of proc scope (exits_of proc l)) (loops_inside proc scope) ++ bs)) (ends_same prog p proc scope)
