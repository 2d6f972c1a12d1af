-- The blocks of a scope are acyclic: a kept block has twice its number as its rank, what follows a loop one more than its head's, and the end blocks
-- of a loop procedure have the greatest.
use Rattle.std.proofs.Common.{◌≡◌, ℕ, zero, suc, ◌≤◌, ◌<◌, ◌+◌, Bool, true, false, ◌&&◌, ◌||◌, not, if◌then◌else◌, List, [], ◌∷◌, ◌++◌, map, length, ◌⊎◌, inl, inr, arith, sym, ◌∙◌, ap, refl, subst, length-append}
use Rattle.std.proofs.lemmas.Bool.{eqb-true, eq-eqb, ltb-true}
use Rattle.std.proofs.lemmas.List.{length-map}
use Rattle.std.specs.Prelude.{Option, None, Some, slice_get, nat_eq, nat_lt, filter, flat_map}
use Rattle.std.specs.Option.{option_map}
use Rattle.src_prog.specs.Loops.{holds_block, goes_back}
use Rattle.src_prog.specs.Program.{Program}
use Rattle.src_prog.specs.declared.block.Next.{Next}
use Rattle.src_prog.specs.declared.block.Next.TheVariants.{Goto as SrcGoto, Return as SrcReturn}
use Rattle.src_prog.specs.declared.block.SrcBlock.{SrcBlock}
use Rattle.src_prog.specs.declared.proc.SrcLoop.{SrcLoop}
use Rattle.src_prog.specs.declared.proc.SrcProc.{SrcProc}
use Rattle.hy_val.proofs.Booleans.{and-first, and-second}
use Rattle.src_run.specs.Machine.{Way, Again, Enter, Stay, Out, entry_of}
use Rattle.flat_prog.specs.Shape.{AreAcyclic, place_of, place_at}
use Rattle.flat_prog.specs.declared.block.FlatBlock.{FlatBlock}
use Rattle.flat_prog.specs.declared.block.FlatNext.{FlatNext}
use Rattle.flat_prog.specs.declared.block.FlatNext.TheVariants.{Goto, Return}
use Rattle.extract_def.proofs.Ways.{IsEntry, is_entry, enters, stays, way_out}
use Rattle.extract_def.proofs.Facts.{Among, Inside, Around, IsInside, Seen, Leaves, IsEdge, dest_of}
use Rattle.extract_def.proofs.Lookup.{below}
use Rattle.extract_def.proofs.Members.{or-cases, any_at, is_in_at, at_is_in, from_filter, from_pieces, get_map, index_found}
use Rattle.extract_def.proofs.Lookup.{get_left, get_right}
use Rattle.extract_def.proofs.Ranks.{AreRanked, acyclic_by_rank}
use Rattle.extract_def.proofs.Reaching.{reached_there}
use Rattle.extract_def.proofs.Regions.{Fits, holding, holds_it, both_hold, same_loop, seen_fits, loop_order, within_of, seen_own, seen_out, inside_stay, inside_enter}
use Rattle.extract_def.proofs.Standing.{inside_loop, kept_own, kept_head, own_no_head, is_kept_own, is_kept_head, kept_is, exit_is, edge_is, exit_there, numbers_is, blocks_are}
use Rattle.extract_def.specs.Exits.{Dest, Back, At, Edge, edges_at, leaves, exits_of}
use Rattle.extract_def.specs.Extraction.{return_from, target_from, targets_from, next_from, dest_from, head_block, own_block_at, kept_block, pass_blocks, pass_blocks_of, leave_blocks, again_block, end_blocks, blocks_of, proc_of}
use Rattle.extract_def.specs.Places.{loop_in, exits_in, exit_of, kept_place, pass_count, passes_of, passes_before, pass_place, leave_place, again_place, edge_place}
use Rattle.extract_def.specs.Scopes.{Scope, Whole, In, is_in, reached_blocks, scope_of, loops_inside, is_kept, kept_blocks, way_from}

-- ---- edges that stay, or enter a loop, lead on

exit_within : (q : SrcProc) (l : SrcLoop) (e : Edge) → Among (exits_of q l) e → (is_in e.block (reached_blocks q) ≡ true) × (holds_block l e.block ≡ true) × (leaves l e.dest ≡ true)
exit_within q l e a =
    let f = from_filter (λ (x : Edge). leaves l x.dest) (flat_map (λ b. edges_at b (slice_get q.blocks b)) (filter (holds_block l) (reached_blocks q))) e a in
    let g = from_pieces (λ b. edges_at b (slice_get q.blocks b)) (filter (holds_block l) (reached_blocks q)) e f.0 in
    let b = from_filter (holds_block l) (reached_blocks q) g.0 g.1 in
    at g.0 (slice_get q.blocks g.0) refl g.2 (at_is_in g.0 (reached_blocks q) b.0) b.1 f.1
  where
    at : (b : ℕ) (o : Option SrcBlock) → slice_get q.blocks b ≡ o → Among (edges_at b o) e → is_in b (reached_blocks q) ≡ true → holds_block l b ≡ true → leaves l e.dest ≡ true → (is_in e.block (reached_blocks q) ≡ true) × (holds_block l e.block ≡ true) × (leaves l e.dest ≡ true)
    at b None s i r h v = absurd (let k = i.1 in cc)
    at b (Some block) s i r h v = let j = edge_is b block.next e i in (ap (λ n. is_in n (reached_blocks q)) j.0 ∙ r, ap (holds_block l) j.0 ∙ h, v)

pub seen_exit : (q : SrcProc) (l : SrcLoop) (e : Edge) → Among q.loops l → Among (exits_of q l) e → Seen q (In l.head l.exit) e.block e.dest
seen_exit q l e a x =
    let w = exit_within q l e x in
    record { reached = w.0; held = (a, w.1); outward = λ m c h i. outer e.dest m i w.2 }
  where
    outer : (dest : Dest) (m : SrcLoop) → IsInside (In l.head l.exit) m → leaves l dest ≡ true → leaves m dest ≡ true
    outer Back m i h = refl
    outer (At to) m i h = at (holds_block m to) refl
      where
        at : (b : Bool) → holds_block m to ≡ b → not (holds_block m to) ≡ true
        at true k =
            let p = holding m to k in let x = p.from in let y = p.below in let u = i.0 in let v = i.1 in
            let z = holds_it l to (omega (arith, x, u)) (omega (arith, y, v)) in absurd (let n : not (holds_block l to) ≡ false = ap not z in cc)
        at false k = ap not k

-- an edge back leads to the head of a loop that holds the block: it isn't seen as one that stays or enters
no_back : (q : SrcProc) (scope : Scope) (b to : ℕ) → Fits q → Seen q scope b (At to) → (y : Way) → IsEntry y → way_from q.loops scope to ≡ y → (l : SrcLoop) → Among q.loops l → l.head ≡ to → holds_block l b ≡ true → ⊥
no_back q Whole b to f s y n w l a head h =
    let order = loop_order q l f a in
    let out = s.outward l a h tt in
    let z = holds_it l to (omega (arith, head)) (omega (arith, head, order)) in let k : not (holds_block l to) ≡ false = ap not z in cc
no_back q (In first end) b to f s y n w l a head h = at (both_hold q.loops (loop_in first end) l b f.nested s.held.0 a s.held.1 h)
  where
    at : (loop_in first end ≡ l) ⊎ (((first < l.head) × (l.exit < end)) ⊎ ((l.head < first) × (end < l.exit))) → ⊥
    at (inl same) = let i = within_of q.loops first end to y n w in let lt = i.from in let z : first ≡ l.head = ap (λ (k : SrcLoop). k.head) same in omega (arith, lt, z, head)
    at (inr (inl c)) =
        let order = loop_order q l f a in
        let out = s.outward l a h c in
        let z = holds_it l to (omega (arith, head)) (omega (arith, head, order)) in let k : not (holds_block l to) ≡ false = ap not z in cc
    at (inr (inr c)) = let i = within_of q.loops first end to y n w in let lt = i.from in let z = c.0 in omega (arith, lt, z, head)

pub onward : (q : SrcProc) (scope : Scope) (b place to : ℕ) → Fits q → Seen q scope b (At to) → IsEdge q b place (At to) → (y : Way) → IsEntry y → way_from q.loops scope to ≡ y → b < to
onward q scope b place to f s e y n w = at (or-cases (nat_lt b to) (goes_back q.loops b to) (and-first (nat_lt b to || goes_back q.loops b to) _ (seen_fits q b place to f e)))
  where
    at : (nat_lt b to ≡ true) ⊎ (goes_back q.loops b to ≡ true) → b < to
    at (inl lt) = ltb-true b to lt
    at (inr back) =
        let l = any_at (λ m. nat_eq m.head to && holds_block m b) q.loops back in
        absurd (no_back q scope b to f s y n w l.0 l.1 (eqb-true l.0.head to (and-first (nat_eq l.0.head to) _ l.2)) (and-second (nat_eq l.0.head to) _ l.2))

-- ---- the ranks of a scope's blocks

abbrev pub many : (count value : ℕ) → List ℕ
many zero v = []
many (suc n) v = v ∷ many n v

many_at : (count value k : ℕ) → k < count → slice_get (many count value) k ≡ Some value
many_at zero v k lt = absurd (omega (arith, lt))
many_at (suc n) v zero lt = refl
many_at (suc n) v (suc k) lt = many_at n v k (omega (arith, lt))

many_length : (count value : ℕ) → length (many count value) ≡ count
many_length zero v = refl
many_length (suc n) v = ap suc (many_length n v)

abbrev pub top_of : SrcProc → ℕ
top_of q = length q.blocks + length q.blocks + 2

abbrev pub pass_ranks : SrcProc → SrcLoop → List ℕ
pass_ranks q l = many (pass_count (exits_of q l)) (suc (l.head + l.head))

abbrev pub end_ranks : SrcProc → Scope → List ℕ
end_ranks q Whole = []
end_ranks q (In head exit) = many (length (exits_in q (In head exit))) (top_of q) ++ top_of q ∷ []

abbrev pub ranks_of : SrcProc → Scope → List ℕ
ranks_of q scope = map (λ b. b + b) (kept_blocks q scope) ++ (flat_map (pass_ranks q) (loops_inside q scope) ++ end_ranks q scope)

-- ---- the ranks at the places

rank_kept : (q : SrcProc) (scope : Scope) (b : ℕ) → is_in b (kept_blocks q scope) ≡ true → slice_get (ranks_of q scope) (kept_place q scope b) ≡ Some (b + b)
rank_kept q scope b h =
    get_left (map (λ n. n + n) (kept_blocks q scope)) (flat_map (pass_ranks q) (loops_inside q scope) ++ end_ranks q scope) (kept_place q scope b) (b + b)
    (get_map (λ n. n + n) (kept_blocks q scope) (kept_place q scope b) b (index_found b (kept_blocks q scope) (is_in_at b (kept_blocks q scope) h)))

rank_behind : (q : SrcProc) (scope : Scope) (k : ℕ) → slice_get (ranks_of q scope) (length (kept_blocks q scope) + k) ≡ slice_get (flat_map (pass_ranks q) (loops_inside q scope) ++ end_ranks q scope) k
rank_behind q scope k =
    let own = map (λ n. n + n) (kept_blocks q scope) in
    let n = length-map (kept_blocks q scope) (λ n. n + n) in
    ap (λ i. slice_get (ranks_of q scope) (i + k)) (sym n) ∙ get_right own (flat_map (pass_ranks q) (loops_inside q scope) ++ end_ranks q scope) k

rank_pieces : (q : SrcProc) (l : SrcLoop) (ls : List SrcLoop) (x : ℕ) → Among ls l → ((m : SrcLoop) → Among ls m → m.head ≡ l.head → m ≡ l) → x < pass_count (exits_of q l) → slice_get (flat_map (pass_ranks q) ls) (passes_before q l.head ls + x) ≡ Some (suc (l.head + l.head))
rank_pieces q l [] x (k, e) one lt = absurd cc
rank_pieces q l (m ∷ ms) x a one lt = at (nat_eq m.head l.head) refl a (λ i. rank_pieces q l ms x i (λ n b. one n (suc b.0, b.1)) lt)
  where
    rest : List ℕ
    rest = flat_map (pass_ranks q) ms

    at : (t : Bool) → nat_eq m.head l.head ≡ t → Among (m ∷ ms) l → (Among ms l → slice_get rest (passes_before q l.head ms + x) ≡ Some (suc (l.head + l.head))) → slice_get (pass_ranks q m ++ rest) (passes_before q l.head (m ∷ ms) + x) ≡ Some (suc (l.head + l.head))
    at true t i ih =
        let same = one m (0, refl) (eqb-true m.head l.head t) in let z : 0 + x ≡ x = omega arith in
        ap (λ c. slice_get (pass_ranks q m ++ rest) ((if c then 0 else pass_count (exits_of q m) + passes_before q l.head ms) + x)) t
        ∙ (ap (slice_get (pass_ranks q m ++ rest)) z
        ∙ get_left (pass_ranks q m) rest x (suc (l.head + l.head)) (ap (λ (n : SrcLoop). slice_get (pass_ranks q n) x) same ∙ many_at (pass_count (exits_of q l)) (suc (l.head + l.head)) x lt))
    at false t (zero, e) ih = let same : m ≡ l = cc in absurd (let z = eq-eqb m.head l.head (ap (λ (n : SrcLoop). n.head) same) in cc)
    at false t (suc k, e) ih =
        let n = many_length (pass_count (exits_of q m)) (suc (m.head + m.head)) in
        let z : pass_count (exits_of q m) + passes_before q l.head ms + x ≡ length (pass_ranks q m) + (passes_before q l.head ms + x) = omega (arith, n) in
        ap (λ c. slice_get (pass_ranks q m ++ rest) ((if c then 0 else pass_count (exits_of q m) + passes_before q l.head ms) + x)) t
        ∙ (ap (slice_get (pass_ranks q m ++ rest)) z ∙ (get_right (pass_ranks q m) rest (passes_before q l.head ms + x) ∙ ih (k, e)))

ranks_length : (q : SrcProc) (ls : List SrcLoop) → length (flat_map (pass_ranks q) ls) ≡ passes_of q ls
ranks_length q [] = refl
ranks_length q (l ∷ ls) =
    length-append (pass_ranks q l) (flat_map (pass_ranks q) ls)
    ∙ (ap (λ n. n + length (flat_map (pass_ranks q) ls)) (many_length (pass_count (exits_of q l)) (suc (l.head + l.head))) ∙ ap (λ n. pass_count (exits_of q l) + n) (ranks_length q ls))

pub rank_pass : (q : SrcProc) (scope : Scope) (l : SrcLoop) (x : ℕ) → Fits q → Among (loops_inside q scope) l → x < pass_count (exits_of q l) → slice_get (ranks_of q scope) (pass_place q scope l.head x) ≡ Some (suc (l.head + l.head))
rank_pass q scope l x f a lt =
    rank_behind q scope (passes_before q l.head (loops_inside q scope) + x)
    ∙ get_left (flat_map (pass_ranks q) (loops_inside q scope)) (end_ranks q scope) (passes_before q l.head (loops_inside q scope) + x) (suc (l.head + l.head))
    (rank_pieces q l (loops_inside q scope) x a (λ m b e. same_loop q.loops m l f.nested (inside_loop q scope m b).among (inside_loop q scope l a).among e) lt)

rank_end : (q : SrcProc) (scope : Scope) (k : ℕ) → slice_get (ranks_of q scope) (leave_place q scope k) ≡ slice_get (end_ranks q scope) k
rank_end q scope k =
    let pieces = flat_map (pass_ranks q) (loops_inside q scope) in
    let n = ranks_length q (loops_inside q scope) in
    rank_behind q scope (passes_of q (loops_inside q scope) + k)
    ∙ (ap (λ i. slice_get (pieces ++ end_ranks q scope) (i + k)) (sym n) ∙ get_right pieces (end_ranks q scope) k)

pub rank_leave : (q : SrcProc) (head exit x : ℕ) → x < length (exits_in q (In head exit)) → slice_get (ranks_of q (In head exit)) (leave_place q (In head exit) x) ≡ Some (top_of q)
rank_leave q head exit x lt =
    rank_end q (In head exit) x
    ∙ get_left (many (length (exits_in q (In head exit))) (top_of q)) (top_of q ∷ []) x (top_of q) (many_at (length (exits_in q (In head exit))) (top_of q) x lt)

rank_again : (q : SrcProc) (head exit : ℕ) → slice_get (ranks_of q (In head exit)) (again_place q (In head exit)) ≡ Some (top_of q)
rank_again q head exit =
    let scope = In head exit in
    let n = many_length (length (exits_in q scope)) (top_of q) in let z : length (exits_in q scope) ≡ length (many (length (exits_in q scope)) (top_of q)) + 0 = omega (arith, n) in
    rank_end q scope (length (exits_in q scope))
    ∙ (ap (slice_get (many (length (exits_in q scope)) (top_of q) ++ top_of q ∷ [])) z ∙ get_right (many (length (exits_in q scope)) (top_of q)) (top_of q ∷ []) 0)

-- ---- targets have greater ranks

abbrev pub Higher : (ranks : List ℕ) (r to : ℕ) → Type 0
Higher ranks r to = (s : ℕ) × (slice_get ranks to ≡ Some s) × (r < s)

abbrev pub Rises : (ranks : List ℕ) (r : ℕ) → FlatNext → Type 0
Rises ranks r next = (place to : ℕ) → place_of next place ≡ Some to → Higher ranks r to

rises_not : (ranks : List ℕ) (r : ℕ) → Rises ranks r Return
rises_not ranks r place to e = absurd cc

single : (ranks : List ℕ) (r a : ℕ) → Higher ranks r a → Rises ranks r (Goto (a ∷ []))
single ranks r a h zero to e = let same : a ≡ to = cc in subst (Higher ranks r) same h
single ranks r a h (suc n) to e = absurd cc

never_again : (y : Way) → IsEntry y → y ≡ Again → ⊥
never_again y (enters x) h = cc
never_again y stays h = cc

never_out : (y : Way) → IsEntry y → y ≡ Out → ⊥
never_out y (enters x) h = cc
never_out y stays h = cc

under_top : (q : SrcProc) (b place r : ℕ) (dest : Dest) → IsEdge q b place dest → r ≤ suc (b + b) → r < top_of q
under_top q b place r dest e le = let lt = below q.blocks b e.block e.block_is in omega (arith, lt, le)

leave_higher : (q : SrcProc) (head exit b place r : ℕ) (dest : Dest) → Seen q (In head exit) b dest → IsEdge q b place dest → Leaves head exit dest → r ≤ suc (b + b) → Higher (ranks_of q (In head exit)) r (leave_place q (In head exit) (exit_of q (In head exit) b place))
leave_higher q head exit b place r dest s e out le =
    let there = exit_there q head exit b place dest s e out in
    (top_of q, rank_leave q head exit (exit_of q (In head exit) b place) (below (exits_in q (In head exit)) (exit_of q (In head exit) b place) _ there), under_top q b place r dest e le)

again_higher : (q : SrcProc) (scope : Scope) (b place to r : ℕ) → IsEdge q b place (At to) → r ≤ suc (b + b) → way_from q.loops scope to ≡ Again → Higher (ranks_of q scope) r (again_place q scope)
again_higher q Whole b place to r e le w = absurd (never_again (entry_of q.loops to) (is_entry q.loops to) w)
again_higher q (In head exit) b place to r e le w = (top_of q, rank_again q head exit, under_top q b place r (At to) e le)

out_higher : (q : SrcProc) (scope : Scope) (b place to r : ℕ) → Seen q scope b (At to) → IsEdge q b place (At to) → r ≤ suc (b + b) → way_from q.loops scope to ≡ Out → Higher (ranks_of q scope) r (leave_place q scope (exit_of q scope b place))
out_higher q Whole b place to r s e le w = absurd (never_out (entry_of q.loops to) (is_entry q.loops to) w)
out_higher q (In head exit) b place to r s e le w = leave_higher q head exit b place r (At to) s e (way_out q.loops head exit to w) le

target_higher : (q : SrcProc) (scope : Scope) (b place to r : ℕ) → Fits q → Seen q scope b (At to) → IsEdge q b place (At to) → r ≤ suc (b + b) → Higher (ranks_of q scope) r (target_from q scope b place to)
target_higher q scope b place to r f s e le = at (way_from q.loops scope to) refl
  where
    at : (y : Way) → way_from q.loops scope to ≡ y → Higher (ranks_of q scope) r (edge_place q scope b place to y)
    at Again w = again_higher q scope b place to r e le w
    at (Enter exit) w =
        let i = inside_enter q scope b place to exit f s e w in let lt = onward q scope b place to f s e (Enter exit) (enters exit) w in
        (to + to, rank_kept q scope to (is_kept_head q scope to exit i.1), omega (arith, le, lt))
    at Stay w =
        let i = inside_stay q scope b place to f s e w in let lt = onward q scope b place to f s e Stay stays w in
        (to + to, rank_kept q scope to (is_kept_own q scope to i), omega (arith, le, lt))
    at Out w = out_higher q scope b place to r s e le w

return_rises : (q : SrcProc) (scope : Scope) (b r : ℕ) → Seen q scope b Back → IsEdge q b 0 Back → r ≤ suc (b + b) → Rises (ranks_of q scope) r (return_from q scope b)
return_rises q Whole b r s e le = rises_not (ranks_of q Whole) r
return_rises q (In head exit) b r s e le = single (ranks_of q (In head exit)) r (leave_place q (In head exit) (exit_of q (In head exit) b 0)) (leave_higher q head exit b 0 r Back s e refl le)

-- ---- the blocks

target_is : (q : SrcProc) (scope : Scope) (b first k to : ℕ) (ts : List ℕ) → slice_get (targets_from q scope b first ts) k ≡ Some to → (t : ℕ) × (slice_get ts k ≡ Some t) × (to ≡ target_from q scope b (first + k) t)
target_is q scope b first k to [] e = absurd cc
target_is q scope b first zero to (t ∷ ts) e =
    let same : target_from q scope b first t ≡ to = cc in let z : first ≡ first + 0 = omega arith in
    (t, refl, sym same ∙ ap (λ n. target_from q scope b n t) z)
target_is q scope b first (suc k) to (t ∷ ts) e =
    let i = target_is q scope b (first + 1) k to ts e in let z : first + 1 + k ≡ first + suc k = omega arith in
    (i.0, i.1, i.2 ∙ ap (λ n. target_from q scope b n i.0) z)

own_rises : (q : SrcProc) (scope : Scope) (b : ℕ) (block : SrcBlock) → Fits q → Inside q scope b → slice_get q.blocks b ≡ Some block → Rises (ranks_of q scope) (b + b) (next_from q scope b block.next)
own_rises q scope b block f i e = at block.next refl
  where
    at : (next : Next) → block.next ≡ next → Rises (ranks_of q scope) (b + b) (next_from q scope b next)
    at SrcReturn n = return_rises q scope b (b + b) (seen_own q scope b Back f i) (record { block = block; block_is = e; dest_is = ap (λ m. dest_of m 0) n }) (omega arith)
    at (SrcGoto ts) n = λ k to h. goes k to (target_is q scope b 0 k to ts h)
      where
        goes : (k to : ℕ) → (t : ℕ) × (slice_get ts k ≡ Some t) × (to ≡ target_from q scope b (0 + k) t) → Higher (ranks_of q scope) (b + b) to
        goes k to (t, s, is) =
            let z : 0 + k ≡ k = omega arith in
            let x : IsEdge q b k (At t) = record { block = block; block_is = e; dest_is = ap (λ m. dest_of m k) n ∙ ap (option_map At) s } in
            subst (Higher (ranks_of q scope) (b + b)) (sym (is ∙ ap (λ m. target_from q scope b m t) z)) (target_higher q scope b k t (b + b) f (seen_own q scope b (At t) f i) x (omega arith))

head_rises : (prog : Program) (p : ℕ) (q : SrcProc) (scope : Scope) (l : SrcLoop) → Fits q → Among (loops_inside q scope) l → Rises (ranks_of q scope) (l.head + l.head) (head_block prog p q scope l).next
head_rises prog p q scope l f a k to e =
    let n = numbers_is (pass_place q scope l.head 0) (pass_count (exits_of q l)) k to e in
    let z : to ≡ pass_place q scope l.head k = let w = n.0 in omega (arith, w) in
    subst (Higher (ranks_of q scope) (l.head + l.head)) (sym z) (suc (l.head + l.head), rank_pass q scope l k f a n.1, omega arith)

kept_rises : (prog : Program) (p : ℕ) (q : SrcProc) (scope : Scope) (b : ℕ) → Fits q → Among (kept_blocks q scope) b → Rises (ranks_of q scope) (b + b) (kept_block prog p q scope (loops_inside q scope) b).next
kept_rises prog p q scope b f a = let k = from_filter (is_kept q scope) (reached_blocks q) b a in at (at_is_in b (reached_blocks q) k.0) (kept_is q scope b k.1)
  where
    at : is_in b (reached_blocks q) ≡ true → (scope_of q.loops b ≡ scope) ⊎ ((l : SrcLoop) × Among (loops_inside q scope) l × (l.head ≡ b)) → Rises (ranks_of q scope) (b + b) (kept_block prog p q scope (loops_inside q scope) b).next
    at r (inl e) =
        let i : Inside q scope b = record { reached = r; is = e } in
        let s = reached_there q b r in
        let is = kept_own prog p q scope b (loops_inside q scope) (own_no_head q scope b f i) ∙ ap (own_block_at prog p q scope b) s.1 in
        subst (λ (c : FlatBlock). Rises (ranks_of q scope) (b + b) c.next) (sym is) (own_rises q scope b s.0 f i s.1)
    at r (inr (l, x, e)) =
        let is = kept_head prog p q scope l (loops_inside q scope) x (λ m c d. same_loop q.loops m l f.nested (inside_loop q scope m c).among (inside_loop q scope l x).among d) in
        subst (λ n. Rises (ranks_of q scope) (n + n) (kept_block prog p q scope (loops_inside q scope) n).next) e
        (subst (λ (c : FlatBlock). Rises (ranks_of q scope) (l.head + l.head) c.next) (sym is) (head_rises prog p q scope l f x))

back_first : (next : Next) (place : ℕ) → dest_of next place ≡ Some Back → dest_of next 0 ≡ Some Back
back_first SrcReturn place h = refl
back_first (SrcGoto ts) place h = at (slice_get ts place) h
  where
    at : (o : Option ℕ) → option_map At o ≡ Some Back → dest_of (SrcGoto ts) 0 ≡ Some Back
    at None k = absurd cc
    at (Some t) k = absurd (let z : At t ≡ Back = cc in cc)

exit_rises : (q : SrcProc) (scope : Scope) (l : SrcLoop) (e : Edge) → Fits q → Among (loops_inside q scope) l → Among (exits_of q l) e → Rises (ranks_of q scope) (suc (l.head + l.head)) (dest_from q scope e.block e.place e.dest)
exit_rises q scope l e f a x =
    let j = inside_loop q scope l a in
    let w = exit_within q l e x in
    let around : Around q l.head l.exit scope = record { reached = j.reached; among = j.among; is = j.is } in
    let h = (holding l e.block w.1).from in
    at e.dest (seen_out q scope l.head l.exit e.block e.dest f around (seen_exit q l e j.among x) w.2) (exit_is q l e x) (omega (arith, h))
  where
    at : (d : Dest) → Seen q scope e.block d → IsEdge q e.block e.place d → suc (l.head + l.head) ≤ suc (e.block + e.block) → Rises (ranks_of q scope) (suc (l.head + l.head)) (dest_from q scope e.block e.place d)
    at Back s i le = return_rises q scope e.block (suc (l.head + l.head)) s (record { block = i.block; block_is = i.block_is; dest_is = back_first i.block.next e.place i.dest_is }) le
    at (At to) s i le = single (ranks_of q scope) (suc (l.head + l.head)) (target_from q scope e.block e.place to) (target_higher q scope e.block e.place to (suc (l.head + l.head)) f s i le)

-- ---- ranks beside blocks

abbrev pub Beside : (ranks rs : List ℕ) → List FlatBlock → Type 0
Beside ranks [] [] = Unit {0}
Beside ranks [] (b ∷ bs) = true ≡ false
Beside ranks (r ∷ rs) [] = true ≡ false
Beside ranks (r ∷ rs) (b ∷ bs) = Rises ranks r b.next × Beside ranks rs bs

beside_append : (ranks rs rs' : List ℕ) (bs bs' : List FlatBlock) → Beside ranks rs bs → Beside ranks rs' bs' → Beside ranks (rs ++ rs') (bs ++ bs')
beside_append ranks [] rs' [] bs' h k = k
beside_append ranks [] rs' (b ∷ bs) bs' h k = absurd cc
beside_append ranks (r ∷ rs) rs' [] bs' h k = absurd cc
beside_append ranks (r ∷ rs) rs' (b ∷ bs) bs' h k = (h.0, beside_append ranks rs rs' bs bs' h.1 k)

beside_map : (ranks : List ℕ) (f : ℕ → ℕ) (g : ℕ → FlatBlock) (xs : List ℕ) → ((x : ℕ) → Among xs x → Rises ranks (f x) (g x).next) → Beside ranks (map f xs) (map g xs)
beside_map ranks f g [] each = tt
beside_map ranks f g (x ∷ xs) each = (each x (0, refl), beside_map ranks f g xs (λ y a. each y (suc a.0, a.1)))

beside_pieces : (ranks : List ℕ) (f : SrcLoop → List ℕ) (g : SrcLoop → List FlatBlock) (ls : List SrcLoop) → ((l : SrcLoop) → Among ls l → Beside ranks (f l) (g l)) → Beside ranks (flat_map f ls) (flat_map g ls)
beside_pieces ranks f g [] each = tt
beside_pieces ranks f g (l ∷ ls) each = beside_append ranks (f l) (flat_map f ls) (g l) (flat_map g ls) (each l (0, refl)) (beside_pieces ranks f g ls (λ m a. each m (suc a.0, a.1)))

beside_at : (ranks rs : List ℕ) (bs : List FlatBlock) (n : ℕ) (block : FlatBlock) → Beside ranks rs bs → slice_get bs n ≡ Some block → (r : ℕ) × (slice_get rs n ≡ Some r) × Rises ranks r block.next
beside_at ranks [] [] n block h e = absurd cc
beside_at ranks [] (b ∷ bs) n block h e = absurd cc
beside_at ranks (r ∷ rs) [] n block h e = absurd cc
beside_at ranks (r ∷ rs) (b ∷ bs) zero block h e = let same : b ≡ block = cc in (r, refl, subst (λ (c : FlatBlock). Rises ranks r c.next) same h.0)
beside_at ranks (r ∷ rs) (b ∷ bs) (suc n) block h e = beside_at ranks rs bs n block h.1 e

pub beside_length : (ranks rs : List ℕ) (bs : List FlatBlock) → Beside ranks rs bs → length rs ≡ length bs
beside_length ranks [] [] h = refl
beside_length ranks [] (b ∷ bs) h = absurd cc
beside_length ranks (r ∷ rs) [] h = absurd cc
beside_length ranks (r ∷ rs) (b ∷ bs) h = ap suc (beside_length ranks rs bs h.1)

pass_beside : (ranks : List ℕ) (q : SrcProc) (scope : Scope) (r first : ℕ) (es : List Edge) → ((e : Edge) → Among es e → Rises ranks r (dest_from q scope e.block e.place e.dest)) → Beside ranks (many (length es) r) (pass_blocks q scope first es)
pass_beside ranks q scope r first [] each = tt
pass_beside ranks q scope r first (e ∷ es) each = (each e (0, refl), pass_beside ranks q scope r (first + 1) es (λ x a. each x (suc a.0, a.1)))

pass_beside_of : (ranks : List ℕ) (q : SrcProc) (scope : Scope) (r : ℕ) (es : List Edge) → ((e : Edge) → Among es e → Rises ranks r (dest_from q scope e.block e.place e.dest)) → Beside ranks (many (pass_count es) r) (pass_blocks_of q scope es)
pass_beside_of ranks q scope r [] each = (rises_not ranks r, tt)
pass_beside_of ranks q scope r (e ∷ es) each = pass_beside ranks q scope r 0 (e ∷ es) each

leave_beside : (ranks : List ℕ) (q : SrcProc) (scope : Scope) (r first : ℕ) (es : List Edge) → Beside ranks (many (length es) r) (leave_blocks q scope first es)
leave_beside ranks q scope r first [] = tt
leave_beside ranks q scope r first (e ∷ es) = (rises_not ranks r, leave_beside ranks q scope r (first + 1) es)

end_beside : (ranks : List ℕ) (prog : Program) (p : ℕ) (q : SrcProc) (scope : Scope) → Beside ranks (end_ranks q scope) (end_blocks prog p q scope)
end_beside ranks prog p q Whole = tt
end_beside ranks prog p q (In head exit) =
    beside_append ranks (many (length (exits_in q (In head exit))) (top_of q)) (top_of q ∷ []) (leave_blocks q (In head exit) 0 (exits_in q (In head exit))) (again_block prog p q (In head exit) ∷ [])
    (leave_beside ranks q (In head exit) (top_of q) 0 (exits_in q (In head exit))) (rises_not ranks (top_of q), tt)

pub scope_beside : (prog : Program) (p : ℕ) (q : SrcProc) (scope : Scope) → Fits q → Beside (ranks_of q scope) (ranks_of q scope) (blocks_of prog p q scope)
scope_beside prog p q scope f =
    let ranks = ranks_of q scope in
    let inside = loops_inside q scope in
    beside_append ranks (map (λ b. b + b) (kept_blocks q scope)) (flat_map (pass_ranks q) inside ++ end_ranks q scope) (map (kept_block prog p q scope inside) (kept_blocks q scope)) (flat_map (λ l. pass_blocks_of q scope (exits_of q l)) inside ++ end_blocks prog p q scope)
    (beside_map ranks (λ b. b + b) (kept_block prog p q scope inside) (kept_blocks q scope) (λ b a. kept_rises prog p q scope b f a))
    (beside_append ranks (flat_map (pass_ranks q) inside) (end_ranks q scope) (flat_map (λ l. pass_blocks_of q scope (exits_of q l)) inside) (end_blocks prog p q scope)
    (beside_pieces ranks (pass_ranks q) (λ l. pass_blocks_of q scope (exits_of q l)) inside (λ l a. pass_beside_of ranks q scope (suc (l.head + l.head)) (exits_of q l) (λ e x. exit_rises q scope l e f a x)))
    (end_beside ranks prog p q scope))

-- ---- acyclic

abbrev pub rank_or : Option ℕ → ℕ
rank_or None = 0
rank_or (Some r) = r

abbrev pub sum_of : List ℕ → ℕ
sum_of [] = 0
sum_of (n ∷ ns) = n + sum_of ns

under_sum : (ns : List ℕ) (k n : ℕ) → slice_get ns k ≡ Some n → n ≤ sum_of ns
under_sum [] k n e = absurd cc
under_sum (m ∷ ms) zero n e = let same : m ≡ n = cc in omega (arith, same)
under_sum (m ∷ ms) (suc k) n e = let le = under_sum ms k n e in omega (arith, le)

pub ranked : (prog : Program) (p : ℕ) (q : SrcProc) (scope : Scope) → Fits q → AreRanked (blocks_of prog p q scope) (λ n. rank_or (slice_get (ranks_of q scope) n)) (suc (sum_of (ranks_of q scope)))
ranked prog p q scope f = record { under = λ n lt. low (slice_get ranks n) n refl; grows = λ n place to e. at n place to (slice_get (blocks_of prog p q scope) n) refl e }
  where
    ranks : List ℕ
    ranks = ranks_of q scope

    low : (o : Option ℕ) (n : ℕ) → slice_get ranks n ≡ o → rank_or o < suc (sum_of ranks)
    low None n e = omega arith
    low (Some r) n e = let le = under_sum ranks n r e in omega (arith, le)

    at : (n place to : ℕ) (o : Option FlatBlock) → slice_get (blocks_of prog p q scope) n ≡ o → place_at o place ≡ Some to → (to < length (blocks_of prog p q scope)) × (rank_or (slice_get ranks n) < rank_or (slice_get ranks to))
    at n place to None s e = absurd cc
    at n place to (Some block) s e =
        let all = scope_beside prog p q scope f in
        let r = beside_at ranks ranks (blocks_of prog p q scope) n block all s in
        let h = r.2 place to e in
        let long = beside_length ranks ranks (blocks_of prog p q scope) all in
        let lt = below ranks to h.0 h.1 in let less = h.2 in
        let x = ap rank_or r.1 in let y = ap rank_or h.1 in
        (omega (arith, lt, long), omega (arith, less, x, y))

pub scope_acyclic : (prog : Program) (p : ℕ) (q : SrcProc) (scope : Scope) → Fits q → AreAcyclic (proc_of prog p q scope).blocks
scope_acyclic prog p q scope f = subst AreAcyclic (sym (blocks_are prog p q scope)) (acyclic_by_rank (blocks_of prog p q scope) (λ n. rank_or (slice_get (ranks_of q scope) n)) (suc (sum_of (ranks_of q scope))) (ranked prog p q scope f))
