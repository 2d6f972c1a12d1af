-- Where the blocks of a scope stand in its flat procedure.
use Rattle.std.proofs.Common.{◌≡◌, ℕ, zero, suc, ◌≤◌, ◌<◌, ◌+◌, Bool, true, false, ◌&&◌, not, if◌then◌else◌, List, [], ◌∷◌, ◌++◌, map, length, ◌⊎◌, inl, inr, arith, sym, ◌∙◌, ap, refl, subst, length-append}
use Rattle.std.proofs.lemmas.Bool.{eqb-true, eq-eqb}
use Rattle.std.proofs.lemmas.List.{length-map}
use Rattle.std.specs.Prelude.{Option, None, Some, slice_get, nat_eq, cond, filter, flat_map}
use Rattle.std.specs.Option.{option_map}
use Rattle.src_prog.specs.Loops.{holds_block}
use Rattle.src_prog.specs.Program.{Program}
use Rattle.src_prog.specs.declared.block.Next.{Next}
use Rattle.src_prog.specs.declared.block.Next.TheVariants.{Goto as SrcGoto, Return as SrcReturn}
use Rattle.src_prog.specs.declared.block.SrcBlock.{SrcBlock}
use Rattle.src_prog.specs.declared.proc.SrcLoop.{SrcLoop}
use Rattle.src_prog.specs.declared.proc.SrcProc.{SrcProc}
use Rattle.hy_val.proofs.Booleans.{and-first, and-second, and-both}
use Rattle.flat_prog.specs.Sites.{numbers_from}
use Rattle.flat_prog.specs.declared.block.FlatBlock.{FlatBlock}
use Rattle.flat_prog.specs.declared.block.FlatNext.TheVariants.{Return}
use Rattle.extract_def.proofs.Facts.{Among, Inside, Around, Seen, Leaves, IsEdge, dest_of}
use Rattle.extract_def.proofs.Lookup.{below}
use Rattle.extract_def.proofs.Members.{or-cases, or-left, or-right, any_of, any_at, is_in_at, at_is_in, in_filter, from_filter, get_map, index_found, in_pieces, from_pieces}
use Rattle.extract_def.proofs.Lookup.{get_left, get_right}
use Rattle.extract_def.proofs.Reaching.{none_before, step_from}
use Rattle.extract_def.proofs.Regions.{Fits, found_in, same_loop, holding, inside_head, around_test}
use Rattle.extract_def.specs.Exits.{Dest, Back, At, Edge, edges_to, edges_of, edges_at, leaves, exits_of, place_of_edge}
use Rattle.extract_def.specs.Extraction.{own_block, own_block_at, head_block, kept_block, pass_blocks, pass_blocks_of, leave_blocks, again_block, end_blocks, blocks_of, proc_of, dest_from}
use Rattle.extract_def.specs.Places.{index_of, loop_in, exits_in, exit_of, kept_place, pass_count, passes_of, passes_before, pass_place, leave_place, again_place, exit_local}
use Rattle.extract_def.specs.Renaming.{assume_exit, set_exit}
use Rattle.extract_def.specs.Scopes.{Scope, Whole, In, is_in, targets_of, same_scope, reached_from, reached_blocks, reached_loops, scope_of, scope_around, loops_inside, is_head_of, is_kept, kept_blocks}

-- ---- scopes that are equal

pub same_self : (s : Scope) → same_scope s s ≡ true
same_self Whole = refl
same_self (In h e) = and-both (nat_eq h h) (nat_eq e e) (eq-eqb h h refl) (eq-eqb e e refl)

pub same_is : (s t : Scope) → same_scope s t ≡ true → s ≡ t
same_is Whole Whole h = refl
same_is Whole (In a b) h = absurd cc
same_is (In a b) Whole h = absurd cc
same_is (In a b) (In c d) h = ap (λ n. In n b) (eqb-true a c (and-first (nat_eq a c) _ h)) ∙ ap (In c) (eqb-true b d (and-second (nat_eq a c) _ h))

-- ---- loops inside a scope

pub reached_loop : (q : SrcProc) (l : SrcLoop) → Among q.loops l → is_in l.head (reached_blocks q) ≡ true → Among (reached_loops q) l
reached_loop q l a r = in_filter (λ m. is_in m.head (reached_blocks q)) q.loops l a r

pub loop_inside : (q : SrcProc) (scope : Scope) (head exit : ℕ) → Around q head exit scope → Among (loops_inside q scope) (loop_in head exit)
loop_inside q scope head exit a =
    in_filter (λ l. same_scope (scope_around q.loops l.head) scope) (reached_loops q) (loop_in head exit) (reached_loop q (loop_in head exit) a.among a.reached) (ap (λ s. same_scope s scope) a.is ∙ same_self scope)

pub record InsideLoop (q : SrcProc) (scope : Scope) (l : SrcLoop) : Type 0 where
  pub among : Among q.loops l
  pub reached : is_in l.head (reached_blocks q) ≡ true
  pub is : scope_around q.loops l.head ≡ scope

pub inside_loop : (q : SrcProc) (scope : Scope) (l : SrcLoop) → Among (loops_inside q scope) l → InsideLoop q scope l
inside_loop q scope l a =
    let f = from_filter (λ m. same_scope (scope_around q.loops m.head) scope) (reached_loops q) l a in
    let g = from_filter (λ m. is_in m.head (reached_blocks q)) q.loops l f.0 in
    record { among = g.0; reached = g.1; is = same_is (scope_around q.loops l.head) scope f.1 }

-- ---- kept blocks

pub kept_own : (prog : Program) (p : ℕ) (q : SrcProc) (scope : Scope) (b : ℕ) (ls : List SrcLoop) → ((l : SrcLoop) → Among ls l → l.head ≡ b → ⊥) → kept_block prog p q scope ls b ≡ own_block_at prog p q scope b (slice_get q.blocks b)
kept_own prog p q scope b [] none = refl
kept_own prog p q scope b (l ∷ ls) none = at (nat_eq l.head b) refl (kept_own prog p q scope b ls (λ m a. none m (suc a.0, a.1)))
  where
    at : (t : Bool) → nat_eq l.head b ≡ t → kept_block prog p q scope ls b ≡ own_block_at prog p q scope b (slice_get q.blocks b) → kept_block prog p q scope (l ∷ ls) b ≡ own_block_at prog p q scope b (slice_get q.blocks b)
    at true e ih = absurd (none l (0, refl) (eqb-true l.head b e))
    at false e ih = ap (λ t. if t then head_block prog p q scope l else kept_block prog p q scope ls b) e ∙ ih

pub kept_head : (prog : Program) (p : ℕ) (q : SrcProc) (scope : Scope) (l : SrcLoop) (ls : List SrcLoop) → Among ls l → ((m : SrcLoop) → Among ls m → m.head ≡ l.head → m ≡ l) → kept_block prog p q scope ls l.head ≡ head_block prog p q scope l
kept_head prog p q scope l [] (k, e) one = absurd cc
kept_head prog p q scope l (m ∷ ms) a one = at (nat_eq m.head l.head) refl a (λ i. kept_head prog p q scope l ms i (λ n b. one n (suc b.0, b.1)))
  where
    at : (t : Bool) → nat_eq m.head l.head ≡ t → Among (m ∷ ms) l → (Among ms l → kept_block prog p q scope ms l.head ≡ head_block prog p q scope l) → kept_block prog p q scope (m ∷ ms) l.head ≡ head_block prog p q scope l
    at true e i ih = ap (λ t. if t then head_block prog p q scope m else kept_block prog p q scope ms l.head) e ∙ ap (head_block prog p q scope) (one m (0, refl) (eqb-true m.head l.head e))
    at false e (zero, f) ih = let same : m ≡ l = cc in absurd (let t = eq-eqb m.head l.head (ap (λ (k : SrcLoop). k.head) same) in cc)
    at false e (suc k, f) ih = ap (λ t. if t then head_block prog p q scope m else kept_block prog p q scope ms l.head) e ∙ ih (k, f)

-- the block of a head isn't kept as it is
pub own_no_head : (q : SrcProc) (scope : Scope) (b : ℕ) → Fits q → Inside q scope b → (l : SrcLoop) → Among (loops_inside q scope) l → l.head ≡ b → ⊥
own_no_head q scope b f i l a e =
    let j = inside_loop q scope l a in
    let h = inside_head q l.head l.exit f j.among j.reached in
    let same : scope ≡ In l.head l.exit = sym i.is ∙ (ap (scope_of q.loops) (sym e) ∙ h.is) in
    let d = found_in (λ m. holds_block m l.head && not (nat_eq m.head l.head)) q.loops l.head l.exit f.nested (j.is ∙ same) in
    (around_test (loop_in l.head l.exit) l.head d.passes).1 refl

pub is_kept_own : (q : SrcProc) (scope : Scope) (b : ℕ) → Inside q scope b → is_in b (kept_blocks q scope) ≡ true
is_kept_own q scope b i = at_is_in b (kept_blocks q scope) (in_filter (is_kept q scope) (reached_blocks q) b (is_in_at b (reached_blocks q) i.reached)
    (or-left (same_scope (scope_of q.loops b) scope) (is_head_of (loops_inside q scope) b) (ap (λ s. same_scope s scope) i.is ∙ same_self scope)))

pub is_kept_head : (q : SrcProc) (scope : Scope) (head exit : ℕ) → Around q head exit scope → is_in head (kept_blocks q scope) ≡ true
is_kept_head q scope head exit a = at_is_in head (kept_blocks q scope) (in_filter (is_kept q scope) (reached_blocks q) head (is_in_at head (reached_blocks q) a.reached)
    (or-right (same_scope (scope_of q.loops head) scope) (is_head_of (loops_inside q scope) head) (any_of (λ l. nat_eq l.head head) (loops_inside q scope) (loop_in head exit) (loop_inside q scope head exit a) (eq-eqb head head refl))))

kept_at : (prog : Program) (p : ℕ) (q : SrcProc) (scope : Scope) (b : ℕ) → is_in b (kept_blocks q scope) ≡ true → slice_get (blocks_of prog p q scope) (kept_place q scope b) ≡ Some (kept_block prog p q scope (loops_inside q scope) b)
kept_at prog p q scope b h =
    get_left (map (kept_block prog p q scope (loops_inside q scope)) (kept_blocks q scope)) _ (kept_place q scope b) (kept_block prog p q scope (loops_inside q scope) b)
    (get_map (kept_block prog p q scope (loops_inside q scope)) (kept_blocks q scope) (kept_place q scope b) b (index_found b (kept_blocks q scope) (is_in_at b (kept_blocks q scope) h)))

pub blocks_are : (prog : Program) (p : ℕ) (q : SrcProc) (scope : Scope) → (proc_of prog p q scope).blocks ≡ blocks_of prog p q scope
blocks_are prog p q Whole = refl
blocks_are prog p q (In head exit) = refl

pub own_there : (prog : Program) (p : ℕ) (q : SrcProc) (scope : Scope) (b : ℕ) (block : SrcBlock) → Fits q → Inside q scope b → slice_get q.blocks b ≡ Some block → slice_get (proc_of prog p q scope).blocks (kept_place q scope b) ≡ Some (own_block prog p q scope b block)
own_there prog p q scope b block f i e =
    ap (λ bs. slice_get bs (kept_place q scope b)) (blocks_are prog p q scope)
    ∙ (kept_at prog p q scope b (is_kept_own q scope b i)
    ∙ ap (λ c. Some c) (kept_own prog p q scope b (loops_inside q scope) (own_no_head q scope b f i) ∙ ap (own_block_at prog p q scope b) e))

pub head_there : (prog : Program) (p : ℕ) (q : SrcProc) (scope : Scope) (head exit : ℕ) → Fits q → Around q head exit scope → slice_get (proc_of prog p q scope).blocks (kept_place q scope head) ≡ Some (head_block prog p q scope (loop_in head exit))
head_there prog p q scope head exit f a =
    ap (λ bs. slice_get bs (kept_place q scope head)) (blocks_are prog p q scope)
    ∙ (kept_at prog p q scope head (is_kept_head q scope head exit a)
    ∙ ap (λ c. Some c) (kept_head prog p q scope (loop_in head exit) (loops_inside q scope) (loop_inside q scope head exit a)
    (λ m b e. same_loop q.loops m (loop_in head exit) f.nested (inside_loop q scope m b).among a.among e)))

-- ---- exits

edge_in_goto : (b first k to : ℕ) (ts : List ℕ) → slice_get ts k ≡ Some to → slice_get (edges_to b first ts) k ≡ Some (record { block = b; place = first + k; dest = At to })
edge_in_goto b first k to [] e = absurd cc
edge_in_goto b first zero to (t ∷ ts) e =
    let same : t ≡ to = cc in let z : first ≡ first + 0 = omega arith in
    ap (λ u. Some (record { block = b; place = first; dest = At u })) same ∙ ap (λ n. Some (record { block = b; place = n; dest = At to })) z
edge_in_goto b first (suc k) to (t ∷ ts) e =
    let z : first + 1 + k ≡ first + suc k = omega arith in
    edge_in_goto b (first + 1) k to ts e ∙ ap (λ n. Some (record { block = b; place = n; dest = At to })) z

edge_among : (b place : ℕ) (next : Next) (dest : Dest) → dest_of next place ≡ Some dest → Among (edges_of b next) (record { block = b; place = place; dest = dest })
edge_among b zero SrcReturn dest e = let same : Back ≡ dest = cc in (0, ap (λ d. Some (record { block = b; place = 0; dest = d })) same)
edge_among b (suc place) SrcReturn dest e = absurd cc
edge_among b place (SrcGoto ts) dest e = at (slice_get ts place) refl e
  where
    at : (o : Option ℕ) → slice_get ts place ≡ o → option_map At o ≡ Some dest → Among (edges_to b 0 ts) (record { block = b; place = place; dest = dest })
    at None s k = absurd cc
    at (Some to) s k =
        let same : At to ≡ dest = cc in let z : 0 + place ≡ place = omega arith in
        (place, edge_in_goto b 0 place to ts s ∙ (ap (λ n. Some (record { block = b; place = n; dest = At to })) z ∙ ap (λ d. Some (record { block = b; place = place; dest = d })) same))

-- the edges of a goto are its targets
goto_edge : (b first : ℕ) (ts : List ℕ) (k : ℕ) (e : Edge) → slice_get (edges_to b first ts) k ≡ Some e → (e.block ≡ b) × (to : ℕ) × (slice_get ts k ≡ Some to) × (e.place ≡ first + k) × (e.dest ≡ At to)
goto_edge b first [] k e h = absurd cc
goto_edge b first (t ∷ ts) zero e h =
    let same : record { block = b; place = first; dest = At t } ≡ e = cc in let z : first ≡ first + 0 = omega arith in
    (ap (λ (x : Edge). x.block) (sym same), t, refl, ap (λ (x : Edge). x.place) (sym same) ∙ z, ap (λ (x : Edge). x.dest) (sym same))
goto_edge b first (t ∷ ts) (suc k) e h =
    let i = goto_edge b (first + 1) ts k e h in let z : first + 1 + k ≡ first + suc k = omega arith in
    (i.0, i.1, i.2, i.3 ∙ z, i.4)

pub edge_is : (b : ℕ) (next : Next) (e : Edge) → Among (edges_of b next) e → (e.block ≡ b) × (dest_of next e.place ≡ Some e.dest)
edge_is b SrcReturn e (zero, h) =
    let same : record { block = b; place = 0; dest = Back } ≡ e = cc in
    (ap (λ (x : Edge). x.block) (sym same), subst (λ (x : Edge). dest_of SrcReturn x.place ≡ Some x.dest) same refl)
edge_is b SrcReturn e (suc k, h) = absurd cc
edge_is b (SrcGoto ts) e (k, h) =
    let i = goto_edge b 0 ts k e h in let z : 0 + k ≡ k = omega arith in
    (i.0, ap (λ n. option_map At (slice_get ts n)) (i.3 ∙ z) ∙ (ap (option_map At) i.2 ∙ ap (λ d. Some d) (sym i.4)))

-- the exits are edges of the procedure
pub exit_is : (q : SrcProc) (l : SrcLoop) (e : Edge) → Among (exits_of q l) e → IsEdge q e.block e.place e.dest
exit_is q l e a =
    let f = from_filter (λ (x : Edge). leaves l x.dest) (flat_map (λ b. edges_at b (slice_get q.blocks b)) (filter (holds_block l) (reached_blocks q))) e a in
    let g = from_pieces (λ b. edges_at b (slice_get q.blocks b)) (filter (holds_block l) (reached_blocks q)) e f.0 in
    at g.0 (slice_get q.blocks g.0) refl g.2
  where
    at : (b : ℕ) (o : Option SrcBlock) → slice_get q.blocks b ≡ o → Among (edges_at b o) e → IsEdge q e.block e.place e.dest
    at b None s i = absurd (let h = i.1 in cc)
    at b (Some block) s i = let j = edge_is b block.next e i in record { block = block; block_is = ap (slice_get q.blocks) j.0 ∙ s; dest_is = j.1 }

-- an edge has one destination
one_dest : (q : SrcProc) (b place : ℕ) (d d' : Dest) → IsEdge q b place d → IsEdge q b place d' → d ≡ d'
one_dest q b place d d' e e' =
    let s : Some e.block ≡ Some e'.block = sym e.block_is ∙ e'.block_is in
    let same : e.block ≡ e'.block = cc in
    let t : Some d ≡ Some d' = sym e.dest_is ∙ (ap (λ (x : SrcBlock). dest_of x.next place) same ∙ e'.dest_is) in cc

found_edge : (b place : ℕ) (e : Edge) (es : List Edge) → e.block ≡ b → e.place ≡ place → Among es e → ((x : Edge) → Among es x → x.block ≡ b → x.place ≡ place → x ≡ e) → slice_get es (place_of_edge b place es) ≡ Some e
found_edge b place e [] p r (k, h) one = absurd cc
found_edge b place e (x ∷ xs) p r a one = at (nat_eq x.block b && nat_eq x.place place) refl a (λ i. found_edge b place e xs p r i (λ y j. one y (suc j.0, j.1)))
  where
    at : (t : Bool) → (nat_eq x.block b && nat_eq x.place place) ≡ t → Among (x ∷ xs) e → (Among xs e → slice_get xs (place_of_edge b place xs) ≡ Some e) → slice_get (x ∷ xs) (place_of_edge b place (x ∷ xs)) ≡ Some e
    at true t i ih =
        ap (λ c. slice_get (x ∷ xs) (if c then 0 else place_of_edge b place xs + 1)) t
        ∙ ap (λ y. Some y) (one x (0, refl) (eqb-true x.block b (and-first (nat_eq x.block b) _ t)) (eqb-true x.place place (and-second (nat_eq x.block b) _ t)))
    at false t (zero, h) ih =
        let same : x ≡ e = cc in
        absurd (let z = and-both (nat_eq x.block b) (nat_eq x.place place) (eq-eqb x.block b (ap (λ (y : Edge). y.block) same ∙ p)) (eq-eqb x.place place (ap (λ (y : Edge). y.place) same ∙ r)) in cc)
    at false t (suc k, h) ih =
        let z : place_of_edge b place xs + 1 ≡ suc (place_of_edge b place xs) = omega arith in
        ap (λ c. slice_get (x ∷ xs) (if c then 0 else place_of_edge b place xs + 1)) t ∙ (ap (slice_get (x ∷ xs)) z ∙ ih (k, h))

pub exit_there : (q : SrcProc) (head exit b place : ℕ) (dest : Dest) → Seen q (In head exit) b dest → IsEdge q b place dest → Leaves head exit dest → slice_get (exits_of q (loop_in head exit)) (exit_of q (In head exit) b place) ≡ Some (record { block = b; place = place; dest = dest })
exit_there q head exit b place dest s e out =
    let l = loop_in head exit in
    let x : Edge = record { block = b; place = place; dest = dest } in
    let here : Among (edges_at b (slice_get q.blocks b)) x = subst (λ o. Among (edges_at b o) x) (sym e.block_is) (edge_among b place e.block.next dest e.dest_is) in
    let held = in_filter (holds_block l) (reached_blocks q) b (is_in_at b (reached_blocks q) s.reached) s.held.1 in
    let all = in_pieces (λ c. edges_at c (slice_get q.blocks c)) (filter (holds_block l) (reached_blocks q)) b x held here in
    let among = in_filter (λ (y : Edge). leaves l y.dest) (flat_map (λ c. edges_at c (slice_get q.blocks c)) (filter (holds_block l) (reached_blocks q))) x all out in
    found_edge b place x (exits_of q l) refl refl among (λ y a p r. one y a p r)
  where
    one : (y : Edge) → Among (exits_of q (loop_in head exit)) y → y.block ≡ b → y.place ≡ place → y ≡ record { block = b; place = place; dest = dest }
    one y a p r =
        let i = exit_is q (loop_in head exit) y a in
        let i' : IsEdge q b place y.dest = subst (λ n. IsEdge q b n y.dest) r (subst (λ n. IsEdge q n y.place y.dest) p i) in
        let d = one_dest q b place y.dest dest i' e in
        ap (λ n. record { block = n; place = y.place; dest = y.dest }) p ∙ (ap (λ n. record { block = b; place = n; dest = y.dest }) r ∙ ap (λ (n : Dest). record { block = b; place = place; dest = n }) d)

-- ---- blocks for exits

pass_get : (q : SrcProc) (scope : Scope) (first x : ℕ) (es : List Edge) (e : Edge) → slice_get es x ≡ Some e → slice_get (pass_blocks q scope first es) x ≡ Some (record { cmds = assume_exit (exit_local q scope) (first + x) ∷ []; next = dest_from q scope e.block e.place e.dest })
pass_get q scope first x [] e h = absurd cc
pass_get q scope first zero (y ∷ ys) e h =
    let same : y ≡ e = cc in let z : first ≡ first + 0 = omega arith in
    ap (λ (k : Edge). Some (record { cmds = assume_exit (exit_local q scope) first ∷ []; next = dest_from q scope k.block k.place k.dest })) same
    ∙ ap (λ n. Some (record { cmds = assume_exit (exit_local q scope) n ∷ []; next = dest_from q scope e.block e.place e.dest })) z
pass_get q scope first (suc x) (y ∷ ys) e h =
    let z : first + 1 + x ≡ first + suc x = omega arith in
    pass_get q scope (first + 1) x ys e h ∙ ap (λ n. Some (record { cmds = assume_exit (exit_local q scope) n ∷ []; next = dest_from q scope e.block e.place e.dest })) z

pass_get_of : (q : SrcProc) (scope : Scope) (x : ℕ) (es : List Edge) (e : Edge) → slice_get es x ≡ Some e → slice_get (pass_blocks_of q scope es) x ≡ Some (record { cmds = assume_exit (exit_local q scope) x ∷ []; next = dest_from q scope e.block e.place e.dest })
pass_get_of q scope x [] e h = absurd cc
pass_get_of q scope x (y ∷ ys) e h =
    let z : 0 + x ≡ x = omega arith in
    pass_get q scope 0 x (y ∷ ys) e h ∙ ap (λ n. Some (record { cmds = assume_exit (exit_local q scope) n ∷ []; next = dest_from q scope e.block e.place e.dest })) z

pass_length : (q : SrcProc) (scope : Scope) (first : ℕ) (es : List Edge) → length (pass_blocks q scope first es) ≡ length es
pass_length q scope first [] = refl
pass_length q scope first (e ∷ es) = ap suc (pass_length q scope (first + 1) es)

pass_count_is : (q : SrcProc) (scope : Scope) (es : List Edge) → length (pass_blocks_of q scope es) ≡ pass_count es
pass_count_is q scope [] = refl
pass_count_is q scope (e ∷ es) = pass_length q scope 0 (e ∷ es)

pieces_at : (q : SrcProc) (scope : Scope) (l : SrcLoop) (ls : List SrcLoop) (x : ℕ) (block : FlatBlock) → Among ls l → ((m : SrcLoop) → Among ls m → m.head ≡ l.head → m ≡ l) → slice_get (pass_blocks_of q scope (exits_of q l)) x ≡ Some block →
    slice_get (flat_map (λ m. pass_blocks_of q scope (exits_of q m)) ls) (passes_before q l.head ls + x) ≡ Some block
pieces_at q scope l [] x block (k, e) one h = absurd cc
pieces_at q scope l (m ∷ ms) x block a one h = at (nat_eq m.head l.head) refl a (λ i. pieces_at q scope l ms x block i (λ n b. one n (suc b.0, b.1)) h)
  where
    rest : List FlatBlock
    rest = flat_map (λ n. pass_blocks_of q scope (exits_of q n)) ms

    at : (t : Bool) → nat_eq m.head l.head ≡ t → Among (m ∷ ms) l → (Among ms l → slice_get rest (passes_before q l.head ms + x) ≡ Some block) →
        slice_get (pass_blocks_of q scope (exits_of q m) ++ rest) (passes_before q l.head (m ∷ ms) + x) ≡ Some block
    at true t i ih =
        let same = one m (0, refl) (eqb-true m.head l.head t) in let z : 0 + x ≡ x = omega arith in
        ap (λ c. slice_get (pass_blocks_of q scope (exits_of q m) ++ rest) ((if c then 0 else pass_count (exits_of q m) + passes_before q l.head ms) + x)) t
        ∙ (ap (slice_get (pass_blocks_of q scope (exits_of q m) ++ rest)) z
        ∙ get_left (pass_blocks_of q scope (exits_of q m)) rest x block (ap (λ (n : SrcLoop). slice_get (pass_blocks_of q scope (exits_of q n)) x) same ∙ h))
    at false t (zero, e) ih = let same : m ≡ l = cc in absurd (let z = eq-eqb m.head l.head (ap (λ (n : SrcLoop). n.head) same) in cc)
    at false t (suc k, e) ih =
        let n = pass_count_is q scope (exits_of q m) in
        let z : pass_count (exits_of q m) + passes_before q l.head ms + x ≡ length (pass_blocks_of q scope (exits_of q m)) + (passes_before q l.head ms + x) = omega (arith, n) in
        ap (λ c. slice_get (pass_blocks_of q scope (exits_of q m) ++ rest) ((if c then 0 else pass_count (exits_of q m) + passes_before q l.head ms) + x)) t
        ∙ (ap (slice_get (pass_blocks_of q scope (exits_of q m) ++ rest)) z ∙ (get_right (pass_blocks_of q scope (exits_of q m)) rest (passes_before q l.head ms + x) ∙ ih (k, e)))

pieces_length : (q : SrcProc) (scope : Scope) (ls : List SrcLoop) → length (flat_map (λ m. pass_blocks_of q scope (exits_of q m)) ls) ≡ passes_of q ls
pieces_length q scope [] = refl
pieces_length q scope (l ∷ ls) =
    length-append (pass_blocks_of q scope (exits_of q l)) (flat_map (λ m. pass_blocks_of q scope (exits_of q m)) ls)
    ∙ (ap (λ n. n + length (flat_map (λ m. pass_blocks_of q scope (exits_of q m)) ls)) (pass_count_is q scope (exits_of q l)) ∙ ap (λ n. pass_count (exits_of q l) + n) (pieces_length q scope ls))

-- behind the kept blocks
behind_kept : (prog : Program) (p : ℕ) (q : SrcProc) (scope : Scope) (k : ℕ) → slice_get (blocks_of prog p q scope) (length (kept_blocks q scope) + k)
    ≡ slice_get (flat_map (λ m. pass_blocks_of q scope (exits_of q m)) (loops_inside q scope) ++ end_blocks prog p q scope) k
behind_kept prog p q scope k =
    let own = map (kept_block prog p q scope (loops_inside q scope)) (kept_blocks q scope) in
    let n = length-map (kept_blocks q scope) (kept_block prog p q scope (loops_inside q scope)) in
    ap (λ i. slice_get (blocks_of prog p q scope) (i + k)) (sym n) ∙ get_right own (flat_map (λ m. pass_blocks_of q scope (exits_of q m)) (loops_inside q scope) ++ end_blocks prog p q scope) k

pub pass_there : (prog : Program) (p : ℕ) (q : SrcProc) (scope : Scope) (head exit b place : ℕ) (dest : Dest) → Fits q → Around q head exit scope → Seen q (In head exit) b dest → IsEdge q b place dest → Leaves head exit dest →
    slice_get (proc_of prog p q scope).blocks (pass_place q scope head (exit_of q (In head exit) b place)) ≡ Some (record { cmds = assume_exit (exit_local q scope) (exit_of q (In head exit) b place) ∷ []; next = dest_from q scope b place dest })
pass_there prog p q scope head exit b place dest f a s e out =
    let x = exit_of q (In head exit) b place in
    let block : FlatBlock = record { cmds = assume_exit (exit_local q scope) x ∷ []; next = dest_from q scope b place dest } in
    ap (λ bs. slice_get bs (pass_place q scope head x)) (blocks_are prog p q scope)
    ∙ (behind_kept prog p q scope (passes_before q head (loops_inside q scope) + x)
    ∙ get_left (flat_map (λ m. pass_blocks_of q scope (exits_of q m)) (loops_inside q scope)) (end_blocks prog p q scope) (passes_before q head (loops_inside q scope) + x) block
    (pieces_at q scope (loop_in head exit) (loops_inside q scope) x block (loop_inside q scope head exit a) (λ m c d. same_loop q.loops m (loop_in head exit) f.nested (inside_loop q scope m c).among a.among d)
    (pass_get_of q scope x (exits_of q (loop_in head exit)) (record { block = b; place = place; dest = dest }) (exit_there q head exit b place dest s e out))))

numbers_get : (first count k : ℕ) → k < count → slice_get (numbers_from first count) k ≡ Some (first + k)
numbers_get first zero k lt = absurd (omega (arith, lt))
numbers_get first (suc count) zero lt = let z : first ≡ first + 0 = omega arith in ap (λ n. Some n) z
numbers_get first (suc count) (suc k) lt = let z : first + 1 + k ≡ first + suc k = omega arith in numbers_get (first + 1) count k (omega (arith, lt)) ∙ ap (λ n. Some n) z

few_counted : (es : List Edge) (k : ℕ) (e : Edge) → slice_get es k ≡ Some e → k < pass_count es
few_counted [] k e h = absurd cc
few_counted (x ∷ xs) k e h = below (x ∷ xs) k e h

pub pass_listed : (q : SrcProc) (scope : Scope) (head exit b place : ℕ) (dest : Dest) → Seen q (In head exit) b dest → IsEdge q b place dest → Leaves head exit dest →
    slice_get (numbers_from (pass_place q scope head 0) (pass_count (exits_of q (loop_in head exit)))) (exit_of q (In head exit) b place) ≡ Some (pass_place q scope head (exit_of q (In head exit) b place))
pass_listed q scope head exit b place dest s e out =
    let x = exit_of q (In head exit) b place in
    let lt = few_counted (exits_of q (loop_in head exit)) x (record { block = b; place = place; dest = dest }) (exit_there q head exit b place dest s e out) in
    let z : pass_place q scope head 0 + x ≡ pass_place q scope head x = omega arith in
    numbers_get (pass_place q scope head 0) (pass_count (exits_of q (loop_in head exit))) x lt ∙ ap (λ n. Some n) z

-- ---- the end blocks of a loop

leave_get : (q : SrcProc) (scope : Scope) (first x : ℕ) (es : List Edge) (e : Edge) → slice_get es x ≡ Some e → slice_get (leave_blocks q scope first es) x ≡ Some (record { cmds = set_exit (exit_local q scope) (first + x) ∷ []; next = Return })
leave_get q scope first x [] e h = absurd cc
leave_get q scope first zero (y ∷ ys) e h = let z : first ≡ first + 0 = omega arith in ap (λ n. Some (record { cmds = set_exit (exit_local q scope) n ∷ []; next = Return })) z
leave_get q scope first (suc x) (y ∷ ys) e h =
    let z : first + 1 + x ≡ first + suc x = omega arith in
    leave_get q scope (first + 1) x ys e h ∙ ap (λ n. Some (record { cmds = set_exit (exit_local q scope) n ∷ []; next = Return })) z

leave_length : (q : SrcProc) (scope : Scope) (first : ℕ) (es : List Edge) → length (leave_blocks q scope first es) ≡ length es
leave_length q scope first [] = refl
leave_length q scope first (e ∷ es) = ap suc (leave_length q scope (first + 1) es)

end_at : (prog : Program) (p : ℕ) (q : SrcProc) (scope : Scope) (k : ℕ) → slice_get (proc_of prog p q scope).blocks (leave_place q scope k) ≡ slice_get (end_blocks prog p q scope) k
end_at prog p q scope k =
    let pieces = flat_map (λ m. pass_blocks_of q scope (exits_of q m)) (loops_inside q scope) in
    let n = pieces_length q scope (loops_inside q scope) in
    ap (λ bs. slice_get bs (leave_place q scope k)) (blocks_are prog p q scope)
    ∙ (behind_kept prog p q scope (passes_of q (loops_inside q scope) + k)
    ∙ (ap (λ i. slice_get (pieces ++ end_blocks prog p q scope) (i + k)) (sym n) ∙ get_right pieces (end_blocks prog p q scope) k))

pub leave_there : (prog : Program) (p : ℕ) (q : SrcProc) (head exit b place : ℕ) (dest : Dest) → Seen q (In head exit) b dest → IsEdge q b place dest → Leaves head exit dest →
    slice_get (proc_of prog p q (In head exit)).blocks (leave_place q (In head exit) (exit_of q (In head exit) b place)) ≡ Some (record { cmds = set_exit (exit_local q (In head exit)) (exit_of q (In head exit) b place) ∷ []; next = Return })
leave_there prog p q head exit b place dest s e out =
    let x = exit_of q (In head exit) b place in let scope = In head exit in let z : 0 + x ≡ x = omega arith in
    end_at prog p q scope x
    ∙ get_left (leave_blocks q scope 0 (exits_in q scope)) (again_block prog p q scope ∷ []) x (record { cmds = set_exit (exit_local q scope) x ∷ []; next = Return })
    (leave_get q scope 0 x (exits_in q scope) (record { block = b; place = place; dest = dest }) (exit_there q head exit b place dest s e out) ∙ ap (λ n. Some (record { cmds = set_exit (exit_local q scope) n ∷ []; next = Return })) z)

pub again_there : (prog : Program) (p : ℕ) (q : SrcProc) (head exit : ℕ) → slice_get (proc_of prog p q (In head exit)).blocks (again_place q (In head exit)) ≡ Some (again_block prog p q (In head exit))
again_there prog p q head exit =
    let scope = In head exit in
    let n = leave_length q scope 0 (exits_in q scope) in let z : length (exits_in q scope) ≡ length (leave_blocks q scope 0 (exits_in q scope)) + 0 = omega (arith, n) in
    end_at prog p q scope (length (exits_in q scope))
    ∙ (ap (slice_get (leave_blocks q scope 0 (exits_in q scope) ++ again_block prog p q scope ∷ [])) z ∙ get_right (leave_blocks q scope 0 (exits_in q scope)) (again_block prog p q scope ∷ []) 0)

-- ---- the first block

first_of : (test : ℕ → Bool) (h n : ℕ) (blocks : List SrcBlock) (ts : List ℕ) → is_in h (reached_from n blocks ts) ≡ true → test h ≡ true → ((m : ℕ) → is_in m (reached_from n blocks ts) ≡ true → test m ≡ true → h ≤ m) → index_of h (filter test (reached_from n blocks ts)) ≡ 0
first_of test h n [] ts r t least = absurd cc
first_of test h n (b ∷ bs) ts r t least = at (is_in n ts) refl r least (λ us. first_of test h (n + 1) bs us)
  where
    rest : List ℕ → List ℕ
    rest us = reached_from (n + 1) bs us

    at : (c : Bool) → is_in n ts ≡ c → is_in h (reached_from n (b ∷ bs) ts) ≡ true → ((m : ℕ) → is_in m (reached_from n (b ∷ bs) ts) ≡ true → test m ≡ true → h ≤ m) →
        ((us : List ℕ) → is_in h (rest us) ≡ true → test h ≡ true → ((m : ℕ) → is_in m (rest us) ≡ true → test m ≡ true → h ≤ m) → index_of h (filter test (rest us)) ≡ 0) → index_of h (filter test (reached_from n (b ∷ bs) ts)) ≡ 0
    at false e r least ih =
        ap (λ c. index_of h (filter test (step_from c n b bs ts))) e
        ∙ ih ts (ap (λ c. is_in h (step_from c n b bs ts)) (sym e) ∙ r) t (λ m i. least m (ap (λ c. is_in m (step_from c n b bs ts)) e ∙ i))
    at true e r least ih =
        ap (λ c. index_of h (filter test (step_from c n b bs ts))) e ∙ now (test n) refl
      where
        us : List ℕ
        us = ts ++ targets_of b.next

        whole : (m : ℕ) → is_in m (n ∷ rest us) ≡ true → is_in m (reached_from n (b ∷ bs) ts) ≡ true
        whole m i = ap (λ c. is_in m (step_from c n b bs ts)) e ∙ i

        here : is_in h (n ∷ rest us) ≡ true
        here = ap (λ c. is_in h (step_from c n b bs ts)) (sym e) ∙ r

        now : (c : Bool) → test n ≡ c → index_of h (filter test (n ∷ rest us)) ≡ 0
        now true f = ap (λ c. index_of h (cond c (n ∷ filter test (rest us)) (filter test (rest us)))) f ∙ same (or-cases (nat_eq n h) (is_in h (rest us)) here)
          where
            same : (nat_eq n h ≡ true) ⊎ (is_in h (rest us) ≡ true) → index_of h (n ∷ filter test (rest us)) ≡ 0
            same (inl k) = ap (λ c. if c then 0 else index_of h (filter test (rest us)) + 1) k
            same (inr k) =
                let le = least n (whole n (or-left (nat_eq n n) (is_in n (rest us)) (eq-eqb n n refl))) f in
                let lt = none_before (n + 1) h bs us k in absurd (omega (arith, le, lt))
        now false f = ap (λ c. index_of h (cond c (n ∷ filter test (rest us)) (filter test (rest us)))) f ∙ other (or-cases (nat_eq n h) (is_in h (rest us)) here)
          where
            other : (nat_eq n h ≡ true) ⊎ (is_in h (rest us) ≡ true) → index_of h (filter test (rest us)) ≡ 0
            other (inl k) = let z = ap test (eqb-true n h k) in absurd (let y : test h ≡ false = sym z ∙ f in cc)
            other (inr k) = ih us k t (λ m i. least m (whole m (or-right (nat_eq n m) (is_in m (rest us)) i)))

-- the blocks that a scope keeps are its own, or heads of loops inside it
pub kept_is : (q : SrcProc) (scope : Scope) (b : ℕ) → is_kept q scope b ≡ true → (scope_of q.loops b ≡ scope) ⊎ ((l : SrcLoop) × Among (loops_inside q scope) l × (l.head ≡ b))
kept_is q scope b h = at (or-cases (same_scope (scope_of q.loops b) scope) (is_head_of (loops_inside q scope) b) h)
  where
    at : (same_scope (scope_of q.loops b) scope ≡ true) ⊎ (is_head_of (loops_inside q scope) b ≡ true) → (scope_of q.loops b ≡ scope) ⊎ ((l : SrcLoop) × Among (loops_inside q scope) l × (l.head ≡ b))
    at (inl k) = inl (same_is (scope_of q.loops b) scope k)
    at (inr k) = let a = any_at (λ l. nat_eq l.head b) (loops_inside q scope) k in inr (a.0, a.1, eqb-true a.0.head b a.2)

pub first_whole : (q : SrcProc) → Inside q Whole 0 → kept_place q Whole 0 ≡ 0
first_whole q i = first_of (is_kept q Whole) 0 0 q.blocks (0 ∷ []) i.reached (or-left (same_scope (scope_of q.loops 0) Whole) (is_head_of (loops_inside q Whole) 0) (ap (λ s. same_scope s Whole) i.is)) (λ m r t. omega arith)

pub first_loop : (q : SrcProc) (head exit : ℕ) → Fits q → Inside q (In head exit) head → kept_place q (In head exit) head ≡ 0
first_loop q head exit f i =
    first_of (is_kept q (In head exit)) head 0 q.blocks (0 ∷ []) i.reached (or-left (same_scope (scope_of q.loops head) (In head exit)) (is_head_of (loops_inside q (In head exit)) head) (ap (λ s. same_scope s (In head exit)) i.is ∙ same_self (In head exit)))
    (λ m r t. at m (kept_is q (In head exit) m t))
  where
    at : (m : ℕ) → (scope_of q.loops m ≡ In head exit) ⊎ ((l : SrcLoop) × Among (loops_inside q (In head exit)) l × (l.head ≡ m)) → head ≤ m
    at m (inl e) = let d = found_in (λ l. holds_block l m) q.loops head exit f.nested e in (holding (loop_in head exit) m d.passes).from
    at m (inr (l, a, e)) =
        let j = inside_loop q (In head exit) l a in
        let d = found_in (λ k. holds_block k l.head && not (nat_eq k.head l.head)) q.loops head exit f.nested j.is in
        let h = (holding (loop_in head exit) l.head (and-first (holds_block (loop_in head exit) l.head) _ d.passes)).from in
        omega (arith, h, e)

-- ---- what stands at a place that a run chose behind a loop

pub numbers_is : (first count k y : ℕ) → slice_get (numbers_from first count) k ≡ Some y → (y ≡ first + k) × (k < count)
numbers_is first zero k y e = absurd cc
numbers_is first (suc count) zero y e = let same : first ≡ y = cc in (let z : y ≡ first + 0 = omega (arith, same) in z, omega arith)
numbers_is first (suc count) (suc k) y e = let i = numbers_is (first + 1) count k y e in (let z = i.0 in let w : y ≡ first + suc k = omega (arith, z) in w, let lt = i.1 in omega (arith, lt))

exit_get : (es : List Edge) (own : Edge) (k : ℕ) → Among es own → k < pass_count es → (e : Edge) × (slice_get es k ≡ Some e)
exit_get [] own k a lt = absurd (let e = a.1 in cc)
exit_get (x ∷ xs) own k a lt = there (x ∷ xs) k lt
  where
    there : (es : List Edge) (k : ℕ) → k < length es → (e : Edge) × (slice_get es k ≡ Some e)
    there [] k lt = absurd (omega (arith, lt))
    there (y ∷ ys) zero lt = (y, refl)
    there (y ∷ ys) (suc k) lt = there ys k (omega (arith, lt))

pub pass_any : (prog : Program) (p : ℕ) (q : SrcProc) (scope : Scope) (head exit x y : ℕ) (own : Edge) → Fits q → Around q head exit scope → Among (exits_of q (loop_in head exit)) own → slice_get (numbers_from (pass_place q scope head 0) (pass_count (exits_of q (loop_in head exit)))) x ≡ Some y →
    (e : Edge) × (slice_get (exits_of q (loop_in head exit)) x ≡ Some e) × (slice_get (proc_of prog p q scope).blocks y ≡ Some (record { cmds = assume_exit (exit_local q scope) x ∷ []; next = dest_from q scope e.block e.place e.dest }))
pass_any prog p q scope head exit x y own f a some h =
    let n = numbers_is (pass_place q scope head 0) (pass_count (exits_of q (loop_in head exit))) x y h in
    let e = exit_get (exits_of q (loop_in head exit)) own x some n.1 in
    let z : y ≡ length (kept_blocks q scope) + (passes_before q head (loops_inside q scope) + x) = let w = n.0 in omega (arith, w) in
    let block : FlatBlock = record { cmds = assume_exit (exit_local q scope) x ∷ []; next = dest_from q scope e.0.block e.0.place e.0.dest } in (
      e.0,
      e.1,
      ap (λ bs. slice_get bs y) (blocks_are prog p q scope)
          ∙ (ap (slice_get (blocks_of prog p q scope)) z
          ∙ (behind_kept prog p q scope (passes_before q head (loops_inside q scope) + x)
          ∙ get_left (flat_map (λ m. pass_blocks_of q scope (exits_of q m)) (loops_inside q scope)) (end_blocks prog p q scope) (passes_before q head (loops_inside q scope) + x) block
          (pieces_at q scope (loop_in head exit) (loops_inside q scope) x block (loop_inside q scope head exit a) (λ m c d. same_loop q.loops m (loop_in head exit) f.nested (inside_loop q scope m c).among a.among d)
          (pass_get_of q scope x (exits_of q (loop_in head exit)) e.0 e.1)))),
    )
