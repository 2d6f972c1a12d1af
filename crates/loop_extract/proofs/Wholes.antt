-- The flat procedures, one by one.
use Rattle.std.proofs.Common.{◌≡◌, ℕ, ◌+◌, ◌<◌, List, [], ◌∷◌, ◌++◌, length, map, take, drop, get_or, slice_get, Option, Some, refl, sym, ap, ◌∙◌, subst, arith, true}
use Rattle.std.proofs.lemmas.List.{take-append-drop, drop_more, get_or-map, length-map, length-take-le, take_more}
use Rattle.hy_val.specs.declared.sort.Sort.{Sort}
use Rattle.src_prog.specs.Loops.{are_nested, loop_is_within}
use Rattle.std.specs.List.{list_all, flat_map}
use Rattle.src_prog.specs.Program.{Program}
use Rattle.src_prog.specs.Scope.{locals_of, sorts_of}
use Rattle.src_prog.specs.Shape.{is_program}
use Rattle.src_prog.specs.declared.block.SrcBlock.{SrcBlock}
use Rattle.src_prog.specs.declared.proc.SrcLoop.{SrcLoop}
use Rattle.src_prog.specs.declared.proc.SrcProc.{SrcProc}
use Rattle.flat_prog.specs.Shape.{exit_sort}
use Rattle.flat_prog.specs.declared.block.FlatBlock.{FlatBlock}
use Rattle.flat_prog.specs.declared.proc.FlatKind.TheVariants.{Source, Loop}
use Rattle.flat_prog.specs.declared.proc.FlatProc.{FlatProc}
use Rattle.extract_def.specs.Extraction.{number_of, loops_count, heads_at, blocks_of, proc_of, exit_locals, source_procs, loop_procs}
use Rattle.extract_def.specs.Places.{index_of, pass_count}
use Rattle.extract_def.specs.Scopes.{loops_inside, kept_blocks, is_head_of, reached_loops, reached_blocks, is_in}
use Rattle.extract_def.specs.declared.scope.Scope.{Scope}
use Rattle.extract_def.specs.declared.scope.Scope.TheVariants.{Whole, In}
use Rattle.loop_extract.specs.Heads.{head_of}
use Rattle.loop_extract.specs.Plans.{IsPlan, region_from}
use Rattle.loop_extract.specs.Procs.{exit_sorts, loop_of, loop_origins, proc_at}
use Rattle.loop_extract.specs.OriginRows.{kept_at, passes_at, ends_at, origins_at}
use Rattle.extract_def.specs.Origins.{origins_of, kept_origin, end_origins}
use Rattle.extract_def.specs.declared.origin.Origin.TheVariants.{Block, Enter, Pass}
use Rattle.extract_def.specs.Exits.{exits_of}
use Rattle.flat_prog.specs.Sites.{numbers_from}
use Rattle.std.proofs.Common.{nat_eq, Bool, false, ◌||◌, if◌then◌else◌}
use Rattle.loop_extract.specs.Regions.{region_of, inner_of, blocks_at}
use Rattle.loop_extract.specs.declared.plan.Plan.{Plan}
use Rattle.loop_extract.specs.declared.region.Region.{Region}
use Rattle.loop_extract.specs.declared.scopes.Head.{Head}
use Rattle.loop_extract.proofs.Kept.{region_same, loops_ok, nested_filter, lesser, lesser_of, index_in}
use Rattle.loop_extract.proofs.Rests.{rest_more}
use Rattle.hy_val.proofs.Booleans.{and-second}
use Rattle.loop_extract.proofs.Same.{blocks_same}

nested_of : (prog : Program) (proc : SrcProc) (plan : Plan) → IsPlan prog proc plan → is_program prog ≡ true → are_nested proc.loops ≡ true
nested_of prog proc plan is h = and-second (list_all (loop_is_within (length proc.blocks)) proc.loops) (are_nested proc.loops) (loops_ok prog plan.proc proc h is.is_proc)

pub blocks_are : (prog : Program) (proc : SrcProc) (plan : Plan) (scope : Scope) (number : ℕ) (region : Region) (bs : List SrcBlock) (blocks : List FlatBlock) → IsPlan prog proc plan → is_program prog ≡ true
    → number ≡ number_of prog plan.proc scope → region ≡ region_from proc plan scope number → bs ≡ proc.blocks → blocks ≡ blocks_at region bs → blocks ≡ blocks_of prog plan.proc proc scope
blocks_are prog proc plan scope number region bs blocks is h num made same put =
    put ∙ ap (λ r. blocks_at r bs) (made ∙ region_same prog proc plan scope number is (nested_of prog proc plan is h) num) ∙ ap (blocks_at (region_of prog plan.proc proc scope)) same ∙ blocks_same prog plan.proc proc scope

exit_sorts_are : (loops ls : List SrcLoop) → exit_sorts (map (head_of loops) ls) ≡ exit_locals ls
exit_sorts_are loops [] = refl
exit_sorts_are loops (l ∷ ls) = refl

pub source_is : (prog : Program) (proc : SrcProc) (plan : Plan) (scope : Scope) (blocks : List FlatBlock) → IsPlan prog proc plan → scope ≡ Whole → blocks ≡ blocks_of prog plan.proc proc scope
    → ◌≡◌ {A = FlatProc} (record { kind = Source plan.proc; ins = sorts_of proc.ins; outs = sorts_of proc.outs; locals = sorts_of proc.locals ++ exit_sorts plan.heads; blocks = blocks }) (proc_of prog plan.proc proc scope)
source_is prog proc plan scope blocks is e b =
    let at : List Sort → List FlatBlock → FlatProc = λ ss bs. record { kind = Source plan.proc; ins = sorts_of proc.ins; outs = sorts_of proc.outs; locals = sorts_of proc.locals ++ ss; blocks = bs } in
    ap (λ ss. at ss blocks) (ap exit_sorts is.heads ∙ exit_sorts_are proc.loops (reached_loops proc)) ∙ ap (at (exit_locals (reached_loops proc))) (b ∙ ap (blocks_of prog plan.proc proc) e) ∙ ap (proc_of prog plan.proc proc) (sym e)

pub loop_is : (prog : Program) (proc : SrcProc) (plan : Plan) (scope : Scope) (head exit : ℕ) (blocks : List FlatBlock) → IsPlan prog proc plan → scope ≡ In head exit → blocks ≡ blocks_of prog plan.proc proc scope
    → ◌≡◌ {A = FlatProc} (record { kind = Loop plan.proc head; ins = plan.sorts; outs = plan.sorts ++ exit_sort ∷ []; locals = []; blocks = blocks }) (proc_of prog plan.proc proc scope)
loop_is prog proc plan scope head exit blocks is e b =
    let at : List Sort → List FlatBlock → FlatProc = λ ss bs. record { kind = Loop plan.proc head; ins = ss; outs = ss ++ exit_sort ∷ []; locals = []; blocks = bs } in
    ap (λ ss. at ss blocks) is.sorts ∙ ap (at (locals_of proc)) (b ∙ ap (blocks_of prog plan.proc proc) e) ∙ ap (proc_of prog plan.proc proc) (sym e)

pub proc_is : (prog : Program) (proc : SrcProc) (plan : Plan) (scope : Scope) (blocks : List FlatBlock) → IsPlan prog proc plan → blocks ≡ blocks_of prog plan.proc proc scope → proc_at proc plan scope blocks ≡ proc_of prog plan.proc proc scope
proc_is prog proc plan Whole blocks is b = source_is prog proc plan Whole blocks is refl b
proc_is prog proc plan (In head exit) blocks is b = loop_is prog proc plan (In head exit) head exit blocks is refl b

-- ---- origins

kept_origins_same : (prog : Program) (p : ℕ) (proc : SrcProc) (scope : Scope) (ls : List SrcLoop) (block : ℕ) → kept_at (map (inner_of prog p proc scope) ls) block ≡ kept_origin ls block
kept_origins_same prog p proc scope [] block = refl
kept_origins_same prog p proc scope (l ∷ ls) block = pick (nat_eq l.head block) (kept_origins_same prog p proc scope ls block)
  where
    pick : (b : Bool) → kept_at (map (inner_of prog p proc scope) ls) block ≡ kept_origin ls block → (if b then Enter block else kept_at (map (inner_of prog p proc scope) ls) block) ≡ (if b || is_head_of ls block then Enter block else Block block)
    pick true h = refl
    pick false h = h

passes_origins_same : (prog : Program) (p : ℕ) (proc : SrcProc) (scope : Scope) (ls : List SrcLoop) → flat_map passes_at (map (inner_of prog p proc scope) ls) ≡ flat_map (λ l. map (Pass l.head) (numbers_from 0 (pass_count (exits_of proc l)))) ls
passes_origins_same prog p proc scope [] = refl
passes_origins_same prog p proc scope (l ∷ ls) = ap (λ os. map (Pass l.head) (numbers_from 0 (pass_count (exits_of proc l))) ++ os) (passes_origins_same prog p proc scope ls)

ends_origins_same : (prog : Program) (p : ℕ) (proc : SrcProc) (scope : Scope) → ends_at (region_of prog p proc scope) scope ≡ end_origins proc scope
ends_origins_same prog p proc Whole = refl
ends_origins_same prog p proc (In head exit) = refl

map_by : {A B : Type 0} (f g : A → B) (xs : List A) → ((x : A) → f x ≡ g x) → map f xs ≡ map g xs
map_by f g [] h = refl
map_by f g (x ∷ xs) h = ap (λ y. y ∷ map f xs) (h x) ∙ ap (λ ys. g x ∷ ys) (map_by f g xs h)

origins_same : (prog : Program) (p : ℕ) (proc : SrcProc) (scope : Scope) → origins_at (region_of prog p proc scope) ≡ origins_of proc scope
origins_same prog p proc scope =
    let ls = loops_inside proc scope in
    let r = region_of prog p proc scope in
    ap (λ os. os ++ (flat_map passes_at r.inside ++ ends_at r scope)) (map_by (kept_at r.inside) (kept_origin ls) (kept_blocks proc scope) (kept_origins_same prog p proc scope ls))
    ∙ ap (λ os. map (kept_origin ls) (kept_blocks proc scope) ++ (os ++ ends_at r scope)) (passes_origins_same prog p proc scope ls)
    ∙ ap (λ os. map (kept_origin ls) (kept_blocks proc scope) ++ (flat_map (λ l. map (Pass l.head) (numbers_from 0 (pass_count (exits_of proc l)))) ls ++ os)) (ends_origins_same prog p proc scope)

pub origins_are : (prog : Program) (proc : SrcProc) (plan : Plan) (scope : Scope) (number : ℕ) (region : Region) → IsPlan prog proc plan → is_program prog ≡ true → number ≡ number_of prog plan.proc scope → region ≡ region_from proc plan scope number
    → origins_at region ≡ origins_of proc scope
origins_are prog proc plan scope number region is h num made =
    ap origins_at (made ∙ region_same prog proc plan scope number is (nested_of prog proc plan is h) num) ∙ origins_same prog plan.proc proc scope

loop_origins_map : (proc : SrcProc) (ls : List SrcLoop) → map (loop_origins proc) (map (head_of proc.loops) ls) ≡ map (λ l. origins_of proc (In l.head l.exit)) ls
loop_origins_map proc [] = refl
loop_origins_map proc (l ∷ ls) = ap (λ os. origins_of proc (In l.head l.exit) ∷ os) (loop_origins_map proc ls)

pub loop_origins_are : (prog : Program) (proc : SrcProc) (plan : Plan) → IsPlan prog proc plan → map (loop_origins proc) plan.heads ≡ map (λ l. origins_of proc (In l.head l.exit)) (reached_loops proc)
loop_origins_are prog proc plan is = ap (map (loop_origins proc)) is.heads ∙ loop_origins_map proc (reached_loops proc)

-- ---- numbers of loops

number_in : (prog : Program) (p : ℕ) (proc : SrcProc) (ls : List SrcLoop) (k base : ℕ) (d : SrcLoop) → slice_get prog.procs p ≡ Some proc → reached_loops proc ≡ ls → are_nested ls ≡ true → base ≡ length prog.procs + loops_count (take p prog.procs) → k < length ls
    → base + k ≡ number_of prog p (In (get_or ls k d).head (get_or ls k d).exit)
number_in prog p proc ls k base d is same nested b lt =
    let l = get_or ls k d in
    let split : ls ≡ take k ls ++ l ∷ drop (k + 1) ls = sym (take-append-drop k ls) ∙ ap (λ zs. take k ls ++ zs) (drop_more ls k d lt) in
    let less : lesser l (take k ls) ≡ true = lesser_of (take k ls) l (drop (k + 1) ls) (subst (λ zs. are_nested zs ≡ true) split nested) in
    let long : length (take k ls) ≡ k = length-take-le k ls (omega (arith, lt)) in
    let place : index_of l.head (heads_at (slice_get prog.procs p)) ≡ k =
    ap (λ (o : Option SrcProc). index_of l.head (heads_at o)) is ∙ ap (λ zs. index_of l.head (map (λ (m : SrcLoop). m.head) zs)) (same ∙ split) ∙ index_in l (take k ls) (drop (k + 1) ls) less ∙ long in
    omega (arith, b, place)

pub number_at : (prog : Program) (proc : SrcProc) (plan : Plan) (k : ℕ) (e : Head) → IsPlan prog proc plan → is_program prog ≡ true → k < length plan.heads
    → plan.base + k ≡ number_of prog plan.proc (In (get_or plan.heads k e).span.head (get_or plan.heads k e).span.exit)
number_at prog proc plan k e is h lt =
    let ls = reached_loops proc in
    let d : SrcLoop = record { head = 0; exit = 0 } in
    let long : length plan.heads ≡ length ls = ap (λ (hs : List Head). length hs) is.heads ∙ length-map ls (head_of proc.loops) in
    let less : k < length ls = omega (arith, lt, long) in
    let there : get_or plan.heads k e ≡ head_of proc.loops (get_or ls k d) = ap (λ (hs : List Head). get_or hs k e) is.heads ∙ get_or-map (head_of proc.loops) ls k d e less in
    number_in prog plan.proc proc ls k plan.base d is.is_proc refl (nested_filter (λ l. is_in l.head (reached_blocks proc)) proc.loops (nested_of prog proc plan is h)) is.base less
    ∙ ap (λ (x : Head). number_of prog plan.proc (In x.span.head x.span.exit)) (sym there)

loops_map : (prog : Program) (p : ℕ) (proc : SrcProc) (ls : List SrcLoop) → map (loop_of prog p proc) (map (head_of proc.loops) ls) ≡ map (λ l. proc_of prog p proc (In l.head l.exit)) ls
loops_map prog p proc [] = refl
loops_map prog p proc (l ∷ ls) = ap (λ qs. proc_of prog p proc (In l.head l.exit) ∷ qs) (loops_map prog p proc ls)

pub loops_are : (prog : Program) (proc : SrcProc) (plan : Plan) (p : ℕ) → IsPlan prog proc plan → plan.proc ≡ p → map (loop_of prog plan.proc proc) plan.heads ≡ map (λ l. proc_of prog p proc (In l.head l.exit)) (reached_loops proc)
loops_are prog proc plan p is e =
    ap (λ n. map (loop_of prog n proc) plan.heads) e ∙ ap (map (loop_of prog p proc)) is.heads ∙ loops_map prog p proc (reached_loops proc)

-- ---- the walk over the procedures

pub sources_more : (prog : Program) (procs : List SrcProc) (k n : ℕ) (x : SrcProc) (whole out new : List FlatProc) → whole ≡ out ++ source_procs prog k (drop k procs) → k < length procs → x ≡ get_or procs k x → n ≡ k
    → new ≡ out ++ proc_of prog n x Whole ∷ [] → whole ≡ new ++ source_procs prog (k + 1) (drop (k + 1) procs)
sources_more prog procs k n x whole out new h lt is e put =
    rest_more (source_procs prog k) (source_procs prog (k + 1)) whole out (proc_of prog k x Whole ∷ []) procs k x h lt is refl
    ∙ ap (λ m. (out ++ proc_of prog m x Whole ∷ []) ++ source_procs prog (k + 1) (drop (k + 1) procs)) (sym e) ∙ ap (λ qs. qs ++ source_procs prog (k + 1) (drop (k + 1) procs)) (sym put)

pub loops_more : (prog : Program) (procs : List SrcProc) (k n : ℕ) (x : SrcProc) (whole out new : List FlatProc) → whole ≡ out ++ loop_procs prog k (drop k procs) → k < length procs → x ≡ get_or procs k x → n ≡ k
    → new ≡ out ++ map (λ l. proc_of prog n x (In l.head l.exit)) (reached_loops x) → whole ≡ new ++ loop_procs prog (k + 1) (drop (k + 1) procs)
loops_more prog procs k n x whole out new h lt is e put =
    rest_more (loop_procs prog k) (loop_procs prog (k + 1)) whole out (map (λ l. proc_of prog k x (In l.head l.exit)) (reached_loops x)) procs k x h lt is refl
    ∙ ap (λ m. (out ++ map (λ l. proc_of prog m x (In l.head l.exit)) (reached_loops x)) ++ loop_procs prog (k + 1) (drop (k + 1) procs)) (sym e) ∙ ap (λ qs. qs ++ loop_procs prog (k + 1) (drop (k + 1) procs)) (sym put)

count_more : (xs : List SrcProc) (x : SrcProc) → loops_count (xs ++ x ∷ []) ≡ loops_count xs + length (reached_loops x)
count_more [] x = omega arith
count_more (y ∷ xs) x = let r = count_more xs x in omega (arith, r)

pub base_more : (procs : List SrcProc) (k base new : ℕ) (x : SrcProc) → base ≡ length procs + loops_count (take k procs) → k < length procs → x ≡ get_or procs k x → new ≡ base + length (reached_loops x) → new ≡ length procs + loops_count (take (k + 1) procs)
base_more procs k base new x h lt is put =
    let one : loops_count (take (k + 1) procs) ≡ loops_count (take k procs) + length (reached_loops x) = ap loops_count (take_more procs k x lt ∙ ap (λ y. take k procs ++ y ∷ []) (sym is)) ∙ count_more (take k procs) x in
    omega (arith, h, put, one)
