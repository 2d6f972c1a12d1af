-- The flat program of a program keeps the facts of its type, where numbers of 32 bits are enough.
use Rattle.std.proofs.Common.{◌≡◌, ℕ, zero, suc, ◌<◌, ◌+◌, ◌^◌, Bool, true, ◌&&◌, List, [], ◌∷◌, ◌++◌, map, length, ◌⊎◌, inl, inr, arith, sym, ◌∙◌, ap, refl, subst}
use Rattle.std.proofs.lemmas.Bool.{lt-ltb, ltb-true}
use Rattle.std.proofs.lemmas.List.{length-map}
use Rattle.std.specs.Prelude.{Option, None, Some, slice_get, nat_lt, flat_map, slice_index_or}
use Rattle.std.specs.List.{list_all}
use Rattle.hy_val.specs.NodeSorts.{is_sort}
use Rattle.src_prog.specs.Program.{Program}
use Rattle.src_prog.specs.Scope.{sorts_of, locals_of}
use Rattle.src_prog.specs.Shape.{is_program, names_fit, next_fits as src_next_fits}
use Rattle.hy_val.specs.Scope.{are_numbered, ascend_from}
use Rattle.src_prog.specs.declared.block.Next.{Next}
use Rattle.src_prog.specs.declared.block.Next.TheVariants.{Goto as SrcGoto, Return as SrcReturn}
use Rattle.src_prog.specs.declared.block.SrcBlock.{SrcBlock}
use Rattle.src_prog.specs.declared.proc.Named.{Named}
use Rattle.src_prog.specs.declared.proc.SrcLoop.{SrcLoop}
use Rattle.src_prog.specs.declared.proc.SrcProc.{SrcProc}
use Rattle.hy_val.proofs.Booleans.{and-first, and-second, and-both}
use Rattle.src_run.proofs.Programs.{proc_fits, next_fits_in, names_of_consts, names_of_globals, axioms_fit}
use Rattle.flat_prog.specs.Program.{variables_of, scope_of}
use Rattle.flat_prog.specs.Shape.{IsFlatProc, cmd_fits, next_fits, block_fits, exit_sort, sorts_fit, place_of, place_at}
use Rattle.flat_prog.specs.Sites.{numbers_from}
use Rattle.flat_prog.specs.declared.block.FlatBlock.{FlatBlock}
use Rattle.flat_prog.specs.declared.block.FlatNext.{FlatNext}
use Rattle.flat_prog.specs.declared.block.FlatNext.TheVariants.{Goto, Return}
use Rattle.flat_prog.specs.declared.proc.FlatProc.{FlatProc}
use Rattle.extract_def.proofs.Circles.{from_map, split_place, kept_one, which, no_circle}
use Rattle.extract_def.proofs.Extracting.{fits_of}
use Rattle.extract_def.proofs.Facts.{Among, Inside}
use Rattle.extract_def.proofs.Lookup.{below}
use Rattle.extract_def.proofs.Members.{all_at, split_get, from_pieces, from_filter}
use Rattle.extract_def.proofs.Reaching.{reached_there}
use Rattle.extract_def.proofs.Ranking.{ranks_of, rank_pass, rank_leave, scope_beside, beside_length, ranked, scope_acyclic}
use Rattle.extract_def.proofs.Regions.{Fits, inside_head, inside_first}
use Rattle.extract_def.proofs.Shaping.{assume_exit_fits, set_exit_fits}
use Rattle.extract_def.proofs.Standing.{inside_loop, reached_loop, own_there}
use Rattle.extract_def.proofs.Whole.{all_of, own_cmds, call_cmds, exit_local_there, has_exit_local}
use Rattle.extract_def.specs.Exits.{Dest, Back, At, Edge, exits_of}
use Rattle.extract_def.specs.Extraction.{return_from, targets_from, next_from, dest_from, head_block, own_block_at, kept_block, pass_blocks, pass_blocks_of, leave_blocks, again_block, end_blocks, blocks_of, proc_of, source_procs, loop_procs, exit_locals, flat_of}
use Rattle.extract_def.specs.Laws.{is_small_proc}
use Rattle.extract_def.specs.Laws.{ExtractionIsFlat}
use Rattle.extract_def.specs.Places.{loop_in, exits_in, pass_count, kept_place, pass_place, leave_place, exit_local}
use Rattle.extract_def.specs.Renaming.{assume_exit, set_exit, assume_false}
use Rattle.extract_def.specs.Scopes.{Scope, Whole, In, is_in, reached_blocks, reached_loops, loops_inside, kept_blocks}

-- ---- gotos have targets

abbrev has_target : FlatNext → Bool
has_target Return = true
has_target (Goto targets) = nat_lt 0 (length targets)

some_there : (ns : List ℕ) → 0 < length ns → nat_lt 0 (length ns) ≡ true
some_there ns lt = lt-ltb 0 (length ns) lt

return_aims : (q : SrcProc) (scope : Scope) (b : ℕ) → has_target (return_from q scope b) ≡ true
return_aims q Whole b = refl
return_aims q (In head exit) b = refl

dest_aims : (q : SrcProc) (scope : Scope) (b place : ℕ) (d : Dest) → has_target (dest_from q scope b place d) ≡ true
dest_aims q scope b place Back = return_aims q scope b
dest_aims q scope b place (At to) = refl

next_aims : (q : SrcProc) (scope : Scope) (b : ℕ) (next : Next) → src_next_fits q.loops (length q.blocks) b next ≡ true → has_target (next_from q scope b next) ≡ true
next_aims q scope b SrcReturn h = return_aims q scope b
next_aims q scope b (SrcGoto []) h = absurd cc
next_aims q scope b (SrcGoto (t ∷ ts)) h = some_there (targets_from q scope b 0 (t ∷ ts)) (omega arith)

head_aims : (prog : Program) (p : ℕ) (q : SrcProc) (scope : Scope) (l : SrcLoop) → has_target (head_block prog p q scope l).next ≡ true
head_aims prog p q scope l = at (exits_of q l)
  where
    at : (es : List Edge) → nat_lt 0 (length (numbers_from (pass_place q scope l.head 0) (pass_count es))) ≡ true
    at [] = refl
    at (e ∷ es) = some_there (numbers_from (pass_place q scope l.head 0) (length (e ∷ es))) (omega arith)

-- ---- the blocks of a scope

record Good (prog : Program) (p : ℕ) (q : SrcProc) (scope : Scope) (block : FlatBlock) : Type 0 where
  cmds : list_all (cmd_fits (flat_of prog).procs (scope_of (flat_of prog) (proc_of prog p q scope))) block.cmds ≡ true
  aims : has_target block.next ≡ true

own_aims : (prog : Program) (p : ℕ) (q : SrcProc) (scope : Scope) (b : ℕ) → is_program prog ≡ true → slice_get prog.procs p ≡ Some q → has_target (own_block_at prog p q scope b (slice_get q.blocks b)).next ≡ true
own_aims prog p q scope b h e = at (slice_get q.blocks b) refl
  where
    at : (o : Option SrcBlock) → slice_get q.blocks b ≡ o → has_target (own_block_at prog p q scope b o).next ≡ true
    at None s = refl
    at (Some block) s = next_aims q scope b block.next (next_fits_in prog p b q block h e s)

inside_is : (q : SrcProc) (scope : Scope) (l : SrcLoop) → Fits q → Among (loops_inside q scope) l → Among (reached_loops q) l × Inside q (In l.head l.exit) l.head
inside_is q scope l f a = let i = inside_loop q scope l a in (reached_loop q l i.among i.reached, inside_head q l.head l.exit f i.among i.reached)

kept_good : (prog : Program) (p : ℕ) (q : SrcProc) (scope : Scope) (b : ℕ) → is_program prog ≡ true → slice_get prog.procs p ≡ Some q → list_all is_sort (locals_of q) ≡ true → Good prog p q scope (kept_block prog p q scope (loops_inside q scope) b)
kept_good prog p q scope b h e sorts = at (kept_one prog p q scope b (loops_inside q scope))
  where
    at : (kept_block prog p q scope (loops_inside q scope) b ≡ own_block_at prog p q scope b (slice_get q.blocks b)) ⊎ ((l : SrcLoop) × Among (loops_inside q scope) l × (kept_block prog p q scope (loops_inside q scope) b ≡ head_block prog p q scope l)) → Good prog p q scope (kept_block prog p q scope (loops_inside q scope) b)
    at (inl s) = subst (Good prog p q scope) (sym s) (record { cmds = own_cmds prog p q scope b h e; aims = own_aims prog p q scope b h e })
    at (inr (l, a, s)) =
        let i = inside_is q scope l (fits_of prog p q h e) a in
        subst (Good prog p q scope) (sym s) (record { cmds = and-both _ true (call_cmds prog p q scope l.head l.exit h e sorts i.0 i.1) refl; aims = head_aims prog p q scope l })

pass_good : (prog : Program) (p : ℕ) (q : SrcProc) (scope : Scope) (first k : ℕ) (es : List Edge) (block : FlatBlock) → slice_get (scope_of (flat_of prog) (proc_of prog p q scope)).locals (exit_local q scope) ≡ Some exit_sort → slice_get (pass_blocks q scope first es) k ≡ Some block → first + k < 2 ^ 32 → Good prog p q scope block
pass_good prog p q scope first k [] block there e lt = absurd cc
pass_good prog p q scope first zero (x ∷ xs) block there e lt =
    let same : record { cmds = assume_exit (exit_local q scope) first ∷ []; next = dest_from q scope x.block x.place x.dest } ≡ block = cc in
    subst (Good prog p q scope) same (record { cmds = and-both _ true (assume_exit_fits (flat_of prog).procs (scope_of (flat_of prog) (proc_of prog p q scope)) (exit_local q scope) first there (omega (arith, lt))) refl; aims = dest_aims q scope x.block x.place x.dest })
pass_good prog p q scope first (suc k) (x ∷ xs) block there e lt = pass_good prog p q scope (first + 1) k xs block there e (omega (arith, lt))

counted : (q : SrcProc) (scope : Scope) (first k : ℕ) (es : List Edge) (block : FlatBlock) → slice_get (pass_blocks q scope first es) k ≡ Some block → k < length es
counted q scope first k [] block e = absurd cc
counted q scope first zero (y ∷ ys) block e = omega arith
counted q scope first (suc k) (y ∷ ys) block e = let i = counted q scope (first + 1) k ys block e in omega (arith, i)

pass_of_good : (prog : Program) (p : ℕ) (q : SrcProc) (scope : Scope) (k : ℕ) (es : List Edge) (block : FlatBlock) → slice_get (scope_of (flat_of prog) (proc_of prog p q scope)).locals (exit_local q scope) ≡ Some exit_sort → slice_get (pass_blocks_of q scope es) k ≡ Some block → (k < pass_count es → k < 2 ^ 32) → Good prog p q scope block
pass_of_good prog p q scope zero [] block there e lt =
    let same : record { cmds = assume_false ∷ []; next = Return } ≡ block = cc in subst (Good prog p q scope) same (record { cmds = refl; aims = refl })
pass_of_good prog p q scope (suc k) [] block there e lt = absurd cc
pass_of_good prog p q scope k (x ∷ xs) block there e lt = let j = counted q scope 0 k (x ∷ xs) block e in let b = lt j in pass_good prog p q scope 0 k (x ∷ xs) block there e (omega (arith, b))

leave_good : (prog : Program) (p : ℕ) (q : SrcProc) (scope : Scope) (first k : ℕ) (es : List Edge) (block : FlatBlock) → slice_get (scope_of (flat_of prog) (proc_of prog p q scope)).locals (exit_local q scope) ≡ Some exit_sort → slice_get (leave_blocks q scope first es) k ≡ Some block → (k < length es → first + k < 2 ^ 32) → Good prog p q scope block
leave_good prog p q scope first k [] block there e lt = absurd cc
leave_good prog p q scope first zero (x ∷ xs) block there e lt =
    let same : record { cmds = set_exit (exit_local q scope) first ∷ []; next = Return } ≡ block = cc in let b = lt (omega arith) in
    subst (Good prog p q scope) same (record { cmds = and-both _ true (set_exit_fits (flat_of prog).procs (scope_of (flat_of prog) (proc_of prog p q scope)) (exit_local q scope) first there (omega (arith, b))) refl; aims = refl })
leave_good prog p q scope first (suc k) (x ∷ xs) block there e lt = leave_good prog p q scope (first + 1) k xs block there e (λ j. let b = lt (omega (arith, j)) in omega (arith, b))

end_good : (prog : Program) (p : ℕ) (q : SrcProc) (scope : Scope) (block : FlatBlock) → is_program prog ≡ true → slice_get prog.procs p ≡ Some q → list_all is_sort (locals_of q) ≡ true → length (blocks_of prog p q scope) < 2 ^ 32 →
    ((head exit : ℕ) → scope ≡ In head exit → Among (reached_loops q) (loop_in head exit) × Inside q (In head exit) head) → Among (end_blocks prog p q scope) block → Good prog p q scope block
end_good prog p q Whole block h e sorts few own (k, s) = absurd cc
end_good prog p q (In head exit) block h e sorts few own (k, s) = at (split_get (leave_blocks q (In head exit) 0 (exits_in q (In head exit))) (again_block prog p q (In head exit) ∷ []) k block s)
  where
    scope : Scope
    scope = In head exit

    long : length (ranks_of q (In head exit)) ≡ length (blocks_of prog p q (In head exit))
    long = beside_length (ranks_of q (In head exit)) (ranks_of q (In head exit)) (blocks_of prog p q (In head exit)) (scope_beside prog p q (In head exit) (fits_of prog p q h e))

    at : Among (leave_blocks q (In head exit) 0 (exits_in q (In head exit))) block ⊎ Among (again_block prog p q (In head exit) ∷ []) block → Good prog p q (In head exit) block
    at (inl (j, f)) =
        leave_good prog p q (In head exit) 0 j (exits_in q (In head exit)) block (exit_local_there prog p q (In head exit) (inr (head, exit, refl))) f
        (λ lt. let b = below (ranks_of q (In head exit)) (leave_place q (In head exit) j) _ (rank_leave q head exit j lt) in let l = long in omega (arith, b, l, few))
    at (inr (zero, f)) =
        let same : again_block prog p q (In head exit) ≡ block = cc in let i = own head exit refl in
        subst (Good prog p q (In head exit)) same (record { cmds = and-both _ true (call_cmds prog p q (In head exit) head exit h e sorts i.0 i.1) refl; aims = refl })
    at (inr (suc j, f)) = absurd cc

block_good : (prog : Program) (p : ℕ) (q : SrcProc) (scope : Scope) (block : FlatBlock) → is_program prog ≡ true → slice_get prog.procs p ≡ Some q → list_all is_sort (locals_of q) ≡ true → length (blocks_of prog p q scope) < 2 ^ 32 →
    ((head exit : ℕ) → scope ≡ In head exit → Among (reached_loops q) (loop_in head exit) × Inside q (In head exit) head) → Among (blocks_of prog p q scope) block → Good prog p q scope block
block_good prog p q scope block h e sorts few own (k, s) = at (split_get kept (pieces ++ end_blocks prog p q scope) k block s)
  where
    kept : List FlatBlock
    kept = map (kept_block prog p q scope (loops_inside q scope)) (kept_blocks q scope)

    pieces : List FlatBlock
    pieces = flat_map (λ l. pass_blocks_of q scope (exits_of q l)) (loops_inside q scope)

    f_q : Fits q
    f_q = fits_of prog p q h e

    long : length (ranks_of q scope) ≡ length (blocks_of prog p q scope)
    long = beside_length (ranks_of q scope) (ranks_of q scope) (blocks_of prog p q scope) (scope_beside prog p q scope f_q)

    later : Among pieces block ⊎ Among (end_blocks prog p q scope) block → Good prog p q scope block
    later (inl (j, f)) =
        let g = from_pieces (λ l. pass_blocks_of q scope (exits_of q l)) (loops_inside q scope) block (j, f) in
        let i = inside_is q scope g.0 f_q g.1 in
        pass_of_good prog p q scope g.2.0 (exits_of q g.0) block (exit_local_there prog p q scope (inl (has_exit_local q g.0 i.0))) g.2.1
        (λ lt. let b = below (ranks_of q scope) (pass_place q scope g.0.head g.2.0) _ (rank_pass q scope g.0 g.2.0 f_q g.1 lt) in let l = long in omega (arith, b, l, few))
    later (inr x) = end_good prog p q scope block h e sorts few own x

    at : Among kept block ⊎ Among (pieces ++ end_blocks prog p q scope) block → Good prog p q scope block
    at (inl (j, f)) = let m = from_map (kept_block prog p q scope (loops_inside q scope)) (kept_blocks q scope) j block f in subst (Good prog p q scope) m.2 (kept_good prog p q scope m.0 h e sorts)
    at (inr (j, f)) = later (split_get pieces (end_blocks prog p q scope) j block f)

next_good : (n : ℕ) (next : FlatNext) → has_target next ≡ true → ((place to : ℕ) → place_of next place ≡ Some to → to < n) → next_fits n next ≡ true
next_good n Return h low = refl
next_good n (Goto ts) h low = and-both (nat_lt 0 (length ts)) (list_all (λ t. nat_lt t n) ts) h (all_of (λ t. nat_lt t n) ts (λ t a. lt-ltb t n (low a.0 t a.1)))

blocks_good : (prog : Program) (p : ℕ) (q : SrcProc) (scope : Scope) → is_program prog ≡ true → slice_get prog.procs p ≡ Some q → list_all is_sort (locals_of q) ≡ true → length (blocks_of prog p q scope) < 2 ^ 32 →
    ((head exit : ℕ) → scope ≡ In head exit → Among (reached_loops q) (loop_in head exit) × Inside q (In head exit) head) →
    list_all (block_fits (flat_of prog).procs (scope_of (flat_of prog) (proc_of prog p q scope)) (length (blocks_of prog p q scope))) (blocks_of prog p q scope) ≡ true
blocks_good prog p q scope h e sorts few own =
    all_of (block_fits (flat_of prog).procs (scope_of (flat_of prog) (proc_of prog p q scope)) (length (blocks_of prog p q scope))) (blocks_of prog p q scope)
    (λ block a. let g = block_good prog p q scope block h e sorts few own a in
    and-both _ (next_fits (length (blocks_of prog p q scope)) block.next) g.cmds
    (next_good (length (blocks_of prog p q scope)) block.next g.aims (λ place to k. ((ranked prog p q scope (fits_of prog p q h e)).grows a.0 place to (ap (λ o. place_at o place) a.1 ∙ k)).0)))

-- ---- sorts

names_sorts : (names : List Named) → list_all (λ (n : Named). is_sort n.sort) names ≡ true → list_all is_sort (sorts_of names) ≡ true
names_sorts [] h = refl
names_sorts (n ∷ ns) h = and-both (is_sort n.sort) (list_all is_sort (sorts_of ns)) (and-first (is_sort n.sort) _ h) (names_sorts ns (and-second (is_sort n.sort) _ h))

all_append : {A : Type 0} (test : A → Bool) (xs ys : List A) → list_all test xs ≡ true → list_all test ys ≡ true → list_all test (xs ++ ys) ≡ true
all_append test [] ys h k = k
all_append test (x ∷ xs) ys h k = and-both (test x) (list_all test (xs ++ ys)) (and-first (test x) _ h) (all_append test xs ys (and-second (test x) _ h) k)

names_good : (names : List Named) → names_fit names ≡ true → sorts_fit (sorts_of names) ≡ true
names_good names h =
    and-both (are_numbered (length (sorts_of names))) (list_all is_sort (sorts_of names)) (ap are_numbered (length-map names (λ (n : Named). n.sort)) ∙ and-first (are_numbered (length names)) _ h) (names_sorts names (and-second (are_numbered (length names)) _ h))

locals_sorts : (prog : Program) (p : ℕ) (q : SrcProc) → is_program prog ≡ true → slice_get prog.procs p ≡ Some q → (list_all is_sort (sorts_of q.ins) ≡ true) × (list_all is_sort (sorts_of q.outs) ≡ true) × (list_all is_sort (sorts_of q.locals) ≡ true)
locals_sorts prog p q h e =
    let names = and-first (names_fit q.ins && (names_fit q.outs && names_fit q.locals)) _ (proc_fits prog p q h e) in
    let outs = and-first (names_fit q.outs) _ (and-second (names_fit q.ins) _ names) in
    let locals = and-second (names_fit q.outs) _ (and-second (names_fit q.ins) _ names) in
    (names_sorts q.ins (and-second (are_numbered (length q.ins)) _ (and-first (names_fit q.ins) _ names)), names_sorts q.outs (and-second (are_numbered (length q.outs)) _ outs), names_sorts q.locals (and-second (are_numbered (length q.locals)) _ locals))

own_sorts : (prog : Program) (p : ℕ) (q : SrcProc) → is_program prog ≡ true → slice_get prog.procs p ≡ Some q → list_all is_sort (locals_of q) ≡ true
own_sorts prog p q h e = let s = locals_sorts prog p q h e in all_append is_sort (sorts_of q.ins) (sorts_of q.outs ++ sorts_of q.locals) s.0 (all_append is_sort (sorts_of q.outs) (sorts_of q.locals) s.1 s.2)

exit_sorts : (ls : List SrcLoop) → list_all is_sort (exit_locals ls) ≡ true
exit_sorts [] = refl
exit_sorts (l ∷ ls) = refl

-- ---- the procedures

whole_good : (prog : Program) (p : ℕ) (q : SrcProc) → is_program prog ≡ true → slice_get prog.procs p ≡ Some q → is_small_proc (proc_of prog p q Whole) ≡ true → IsFlatProc (flat_of prog) (proc_of prog p q Whole)
whole_good prog p q h e small =
    let f = fits_of prog p q h e in
    let i = inside_first q f in
    let b = reached_there q 0 i.reached in
    let lt = below (proc_of prog p q Whole).blocks (kept_place q Whole 0) _ (own_there prog p q Whole 0 b.0 f i b.1) in
    let count = and-second (are_numbered (length (variables_of (proc_of prog p q Whole)))) _ small in
    let few = ltb-true (length (blocks_of prog p q Whole)) (2 ^ 32) count in
    let s = locals_sorts prog p q h e in
    record {
      variables = and-both (are_numbered (length (variables_of (proc_of prog p q Whole)))) (list_all is_sort (variables_of (proc_of prog p q Whole))) (and-first (are_numbered (length (variables_of (proc_of prog p q Whole)))) _ small)
          (all_append is_sort (sorts_of q.ins) (sorts_of q.outs ++ (sorts_of q.locals ++ exit_locals (reached_loops q))) s.0
          (all_append is_sort (sorts_of q.outs) (sorts_of q.locals ++ exit_locals (reached_loops q)) s.1 (all_append is_sort (sorts_of q.locals) (exit_locals (reached_loops q)) s.2 (exit_sorts (reached_loops q)))));
      some = and-both (nat_lt 0 (length (blocks_of prog p q Whole))) (are_numbered (length (blocks_of prog p q Whole))) (lt-ltb 0 (length (blocks_of prog p q Whole)) (omega (arith, lt))) count;
      blocks = blocks_good prog p q Whole h e (own_sorts prog p q h e) few (λ head exit k. absurd cc);
      acyclic = scope_acyclic prog p q Whole f;
      loop_outs = tt;
    }

loop_good : (prog : Program) (p : ℕ) (q : SrcProc) (l : SrcLoop) → is_program prog ≡ true → slice_get prog.procs p ≡ Some q → Among (reached_loops q) l → is_small_proc (proc_of prog p q (In l.head l.exit)) ≡ true → IsFlatProc (flat_of prog) (proc_of prog p q (In l.head l.exit))
loop_good prog p q l h e a small =
    let f = fits_of prog p q h e in
    let code = proc_of prog p q (In l.head l.exit) in
    let r = from_filter (λ m. is_in m.head (reached_blocks q)) q.loops l a in
    let i = inside_head q l.head l.exit f r.0 r.1 in
    let b = reached_there q l.head r.1 in
    let lt = below code.blocks (kept_place q (In l.head l.exit) l.head) _ (own_there prog p q (In l.head l.exit) l.head b.0 f i b.1) in
    let count = and-second (are_numbered (length (variables_of code))) _ small in
    let few = ltb-true (length (blocks_of prog p q (In l.head l.exit))) (2 ^ 32) count in
    let sorts = own_sorts prog p q h e in
    record {
      variables = and-both (are_numbered (length (variables_of code))) (list_all is_sort (variables_of code)) (and-first (are_numbered (length (variables_of code))) _ small)
          (all_append is_sort (locals_of q) ((locals_of q ++ exit_sort ∷ []) ++ []) sorts (all_append is_sort (locals_of q ++ exit_sort ∷ []) [] (all_append is_sort (locals_of q) (exit_sort ∷ []) sorts refl) refl));
      some = and-both (nat_lt 0 (length (blocks_of prog p q (In l.head l.exit)))) (are_numbered (length (blocks_of prog p q (In l.head l.exit)))) (lt-ltb 0 (length (blocks_of prog p q (In l.head l.exit))) (omega (arith, lt))) count;
      blocks = blocks_good prog p q (In l.head l.exit) h e sorts few (λ head exit k. own head exit k (a, i));
      acyclic = scope_acyclic prog p q (In l.head l.exit) f;
      loop_outs = refl;
    }
  where
    own : (head exit : ℕ) → In l.head l.exit ≡ In head exit → Among (reached_loops q) (loop_in l.head l.exit) × Inside q (In l.head l.exit) l.head → Among (reached_loops q) (loop_in head exit) × Inside q (In head exit) head
    own head exit k h =
        let x : l.head ≡ head = cc in let y : l.exit ≡ exit = cc in
        subst (λ m. Among (reached_loops q) (loop_in m exit) × Inside q (In m exit) m) x (subst (λ n. Among (reached_loops q) (loop_in l.head n) × Inside q (In l.head n) l.head) y h)

source_which : (prog : Program) (n k : ℕ) (ps : List SrcProc) (code : FlatProc) → slice_get (source_procs prog n ps) k ≡ Some code → (q : SrcProc) × (slice_get ps k ≡ Some q) × (code ≡ proc_of prog (n + k) q Whole)
source_which prog n k [] code e = absurd cc
source_which prog n zero (r ∷ rs) code e = let same : proc_of prog n r Whole ≡ code = cc in let z : n ≡ n + 0 = omega arith in (r, refl, sym same ∙ ap (λ i. proc_of prog i r Whole) z)
source_which prog n (suc k) (r ∷ rs) code e = let i = source_which prog (n + 1) k rs code e in let z : n + 1 + k ≡ n + suc k = omega arith in (i.0, i.1, i.2 ∙ ap (λ j. proc_of prog j i.0 Whole) z)

proc_good : (prog : Program) (k : ℕ) (code : FlatProc) → is_program prog ≡ true → slice_get (flat_of prog).procs k ≡ Some code → is_small_proc code ≡ true → IsFlatProc (flat_of prog) code
proc_good prog k code h e small = at (split_place (source_procs prog 0 prog.procs) (loop_procs prog 0 prog.procs) k code e)
  where
    at : (slice_get (source_procs prog 0 prog.procs) k ≡ Some code) ⊎ ((m : ℕ) × (k ≡ length (source_procs prog 0 prog.procs) + m) × (slice_get (loop_procs prog 0 prog.procs) m ≡ Some code)) → IsFlatProc (flat_of prog) code
    at (inl s) =
        let w = source_which prog 0 k prog.procs code s in let z : 0 + k ≡ k = omega arith in
        let is = w.2 ∙ ap (λ i. proc_of prog i w.0 Whole) z in
        subst (IsFlatProc (flat_of prog)) (sym is) (whole_good prog k w.0 h w.1 (ap is_small_proc (sym is) ∙ small))
    at (inr (m, y, s)) =
        let w = which prog 0 m prog.procs code s in let z : 0 + w.at ≡ w.at = omega arith in
        let is = w.code_is ∙ ap (λ i. proc_of prog i w.q (In w.l.head w.l.exit)) z in
        subst (IsFlatProc (flat_of prog)) (sym is) (loop_good prog w.at w.q w.l h w.q_is (w.place, w.l_is) (ap is_small_proc (sym is) ∙ small))

-- ---- the program

get_or_there : {A : Type 0} (xs : List A) (k : ℕ) (d : A) → k < length xs → slice_get xs k ≡ Some (slice_index_or xs k d)
get_or_there [] k d lt = absurd (omega (arith, lt))
get_or_there (x ∷ xs) zero d lt = refl
get_or_there (x ∷ xs) (suc k) d lt = get_or_there xs k d (omega (arith, lt))

pub extraction_is_flat : ExtractionIsFlat
extraction_is_flat prog h small =
    let flat = flat_of prog in
    record {
      consts = names_good prog.consts (names_of_consts prog h);
      globals = names_good prog.globals (names_of_globals prog h);
      uniques = ap (λ n. ascend_from 0 n prog.uniques) (length-map prog.consts (λ (n : Named). n.sort)) ∙ and-second (names_fit prog.globals) _ (and-second (names_fit prog.consts) _ (and-first (names_fit prog.consts && (names_fit prog.globals && ascend_from 0 (length prog.consts) prog.uniques)) _ h));
      axioms = axioms_fit prog h;
      few = and-first (are_numbered (length flat.procs)) _ small;
      procs = λ k d lt. let e = get_or_there flat.procs k d lt in proc_good prog k (slice_index_or flat.procs k d) h e (all_at is_small_proc flat.procs (slice_index_or flat.procs k d) (and-second (are_numbered (length flat.procs)) _ small) (k, e));
      loops = no_circle prog h;
    }
