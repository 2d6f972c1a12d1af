-- Loop procedures call themselves, and loop procedures of greater numbers.
use Rattle.std.proofs.Common.{◌≡◌, ℕ, zero, suc, ◌≤◌, ◌<◌, ◌+◌, Bool, true, false, if◌then◌else◌, List, [], ◌∷◌, ◌++◌, map, length, take, ◌⊎◌, inl, inr, arith, sym, ◌∙◌, ap, refl, subst, length-append}
use Rattle.std.proofs.lemmas.Bool.{eqb-true, eq-eqb}
use Rattle.std.proofs.lemmas.List.{length-map}
use Rattle.std.specs.Prelude.{Option, None, Some, slice_get, nat_eq, cond, filter, flat_map, Any, Contains, slice_index_or}
use Rattle.std.specs.List.{list_all}
use Rattle.src_prog.specs.Loops.{is_apart_or_inside, are_nested}
use Rattle.src_prog.specs.Program.{Program}
use Rattle.hy_val.specs.declared.expr.ExprNode.{ExprNode}
use Rattle.hy_val.specs.declared.expr.Var.{Var}
use Rattle.hy_val.specs.Scope.{Scope as Variables}
use Rattle.src_prog.specs.Scope.{cmd_fits, call_fits}
use Rattle.src_prog.specs.Shape.{is_program, scope_of}
use Rattle.src_prog.specs.Scope.{locals_of}
use Rattle.src_prog.specs.declared.block.Cmd.{Cmd}
use Rattle.src_prog.specs.declared.block.Cmd.TheVariants.{Assign, Havoc, Assume, Assert, Call}
use Rattle.src_prog.specs.declared.block.SrcBlock.{SrcBlock}
use Rattle.src_prog.specs.declared.proc.SrcLoop.{SrcLoop}
use Rattle.src_prog.specs.declared.proc.SrcProc.{SrcProc}
use Rattle.hy_val.proofs.Booleans.{and-first, and-second, and-both}
use Rattle.src_run.proofs.Programs.{cmd_fits_in}
use Rattle.flat_prog.specs.Shape.{Calls, CallsOnward, HaveNoLoopCircle, is_call_of, is_loop_kind}
use Rattle.flat_prog.specs.Sites.{numbers_from}
use Rattle.flat_prog.specs.declared.block.FlatBlock.{FlatBlock}
use Rattle.flat_prog.specs.declared.block.FlatCmd.{FlatCmd}
use Rattle.flat_prog.specs.declared.block.FlatNext.TheVariants.{Return}
use Rattle.flat_prog.specs.declared.proc.FlatProc.{FlatProc}
use Rattle.extract_def.proofs.Extracting.{fits_of, whole_there, source_count}
use Rattle.extract_def.proofs.Facts.{Among, Around}
use Rattle.extract_def.proofs.Lookup.{below}
use Rattle.extract_def.proofs.Members.{split_get, from_pieces, only_one}
use Rattle.extract_def.proofs.Ranks.{contains, numbered}
use Rattle.extract_def.proofs.Regions.{Fits, before_of, around_holds}
use Rattle.extract_def.proofs.Standing.{inside_loop, blocks_are, reached_loop}
use Rattle.extract_def.specs.Exits.{Edge, exits_of}
use Rattle.extract_def.specs.Extraction.{loops_count, heads_at, number_of, head_block, own_block_at, kept_block, dest_from, pass_blocks, pass_blocks_of, leave_blocks, again_block, end_blocks, blocks_of, proc_of, source_procs, loop_procs, flat_of}
use Rattle.extract_def.specs.Places.{index_of, exits_in, moved_by, exit_local}
use Rattle.extract_def.specs.Renaming.{moved_cmd, moved_cmds, call_of_loop, assume_exit, set_exit, assume_false}
use Rattle.extract_def.specs.Scopes.{Scope, Whole, In, is_in, reached_blocks, reached_loops, loops_inside, kept_blocks}

-- ---- members

get_among : {A : Type 0} (xs : List A) (k : ℕ) (x d : A) → k < length xs → slice_index_or xs k d ≡ x → slice_get xs k ≡ Some x
get_among [] k x d lt e = absurd (omega (arith, lt))
get_among (y ∷ ys) zero x d lt e = ap (λ z. Some z) e
get_among (y ∷ ys) (suc k) x d lt e = get_among ys k x d (omega (arith, lt)) e

from_any : {A : Type 0} (P : A → Type 0) (xs : List A) → Any P xs → (x : A) × Among xs x × P x
from_any P xs (k, x, lt, e, h) = (x, (k, get_among xs k x x lt e), h)

pub from_map : {A B : Type 0} (f : A → B) (xs : List A) (k : ℕ) (y : B) → slice_get (map f xs) k ≡ Some y → (x : A) × (slice_get xs k ≡ Some x) × (f x ≡ y)
from_map f [] k y e = absurd cc
from_map f (x ∷ xs) zero y e = (x, refl, let same : f x ≡ y = cc in same)
from_map f (x ∷ xs) (suc k) y e = from_map f xs k y e

pub split_place : {A : Type 0} (xs ys : List A) (k : ℕ) (a : A) → slice_get (xs ++ ys) k ≡ Some a → (slice_get xs k ≡ Some a) ⊎ ((m : ℕ) × (k ≡ length xs + m) × (slice_get ys m ≡ Some a))
split_place [] ys k a e = inr (k, omega arith, e)
split_place (x ∷ xs) ys zero a e = inl e
split_place (x ∷ xs) ys (suc k) a e = at (split_place xs ys k a e)
  where
    at : (slice_get xs k ≡ Some a) ⊎ ((m : ℕ) × (k ≡ length xs + m) × (slice_get ys m ≡ Some a)) → (slice_get (x ∷ xs) (suc k) ≡ Some a) ⊎ ((m : ℕ) × (suc k ≡ length (x ∷ xs) + m) × (slice_get ys m ≡ Some a))
    at (inl h) = inl h
    at (inr (m, z, h)) = inr (m, omega (arith, z), h)

none_beyond : {A : Type 0} (xs : List A) (k : ℕ) → slice_get xs k ≡ None → length xs ≤ k
none_beyond [] k e = omega arith
none_beyond (x ∷ xs) zero e = absurd cc
none_beyond (x ∷ xs) (suc k) e = let le = none_beyond xs k e in omega (arith, le)

-- ---- heads ascend

ahead : (l m : SrcLoop) (ls : List SrcLoop) (k : ℕ) → list_all (is_apart_or_inside l) ls ≡ true → slice_get ls k ≡ Some m → l.head < m.head
ahead l m [] k h e = absurd cc
ahead l m (n ∷ ns) zero h e = let same : n ≡ m = cc in subst (λ (x : SrcLoop). l.head < x.head) same (before_of l n (and-first (is_apart_or_inside l n) _ h)).heads
ahead l m (n ∷ ns) (suc k) h e = ahead l m ns k (and-second (is_apart_or_inside l n) _ h) e

all_kept : (test keep : SrcLoop → Bool) (ls : List SrcLoop) → list_all test ls ≡ true → list_all test (filter keep ls) ≡ true
all_kept test keep [] h = refl
all_kept test keep (l ∷ ls) h = at (keep l) refl (all_kept test keep ls (and-second (test l) _ h))
  where
    at : (b : Bool) → keep l ≡ b → list_all test (filter keep ls) ≡ true → list_all test (filter keep (l ∷ ls)) ≡ true
    at true e ih = ap (λ b. list_all test (cond b (l ∷ filter keep ls) (filter keep ls))) e ∙ and-both (test l) (list_all test (filter keep ls)) (and-first (test l) _ h) ih
    at false e ih = ap (λ b. list_all test (cond b (l ∷ filter keep ls) (filter keep ls))) e ∙ ih

nested_kept : (keep : SrcLoop → Bool) (ls : List SrcLoop) → are_nested ls ≡ true → are_nested (filter keep ls) ≡ true
nested_kept keep [] h = refl
nested_kept keep (l ∷ ls) h = at (keep l) refl (nested_kept keep ls (and-second (list_all (is_apart_or_inside l) ls) _ h))
  where
    at : (b : Bool) → keep l ≡ b → are_nested (filter keep ls) ≡ true → are_nested (filter keep (l ∷ ls)) ≡ true
    at true e ih =
        ap (λ b. are_nested (cond b (l ∷ filter keep ls) (filter keep ls))) e
        ∙ and-both (list_all (is_apart_or_inside l) (filter keep ls)) (are_nested (filter keep ls)) (all_kept (is_apart_or_inside l) keep ls (and-first (list_all (is_apart_or_inside l) ls) _ h)) ih
    at false e ih = ap (λ b. are_nested (cond b (l ∷ filter keep ls) (filter keep ls))) e ∙ ih

-- the loop at a place stands there by its head
index_at : (ls : List SrcLoop) (j : ℕ) (l : SrcLoop) → are_nested ls ≡ true → slice_get ls j ≡ Some l → index_of l.head (map (λ (m : SrcLoop). m.head) ls) ≡ j
index_at [] j l h e = absurd cc
index_at (m ∷ ms) zero l h e =
    let same : m ≡ l = cc in
    ap (λ b. if b then 0 else index_of l.head (map (λ (n : SrcLoop). n.head) ms) + 1) (eq-eqb m.head l.head (ap (λ (n : SrcLoop). n.head) same))
index_at (m ∷ ms) (suc j) l h e = at (nat_eq m.head l.head) refl (index_at ms j l (and-second (list_all (is_apart_or_inside m) ms) _ h) e)
  where
    at : (b : Bool) → nat_eq m.head l.head ≡ b → index_of l.head (map (λ (n : SrcLoop). n.head) ms) ≡ j → index_of l.head (map (λ (n : SrcLoop). n.head) (m ∷ ms)) ≡ suc j
    at true t ih = let same = eqb-true m.head l.head t in let lt = ahead m l ms j (and-first (list_all (is_apart_or_inside m) ms) _ h) e in absurd (omega (arith, same, lt))
    at false t ih = let z : index_of l.head (map (λ (n : SrcLoop). n.head) ms) + 1 ≡ suc j = omega (arith, ih) in ap (λ b. if b then 0 else index_of l.head (map (λ (n : SrcLoop). n.head) ms) + 1) t ∙ z

places_ascend : (ls : List SrcLoop) (j k : ℕ) (l m : SrcLoop) → are_nested ls ≡ true → slice_get ls j ≡ Some l → slice_get ls k ≡ Some m → l.head < m.head → j < k
places_ascend [] j k l m h e f lt = absurd cc
places_ascend (n ∷ ns) zero zero l m h e f lt = let same : l ≡ m = cc in let z = ap (λ (x : SrcLoop). x.head) same in absurd (omega (arith, lt, z))
places_ascend (n ∷ ns) zero (suc k) l m h e f lt = omega arith
places_ascend (n ∷ ns) (suc j) zero l m h e f lt =
    let same : n ≡ m = cc in let z = ap (λ (x : SrcLoop). x.head) same in
    let lt' = ahead n l ns j (and-first (list_all (is_apart_or_inside n) ns) _ h) e in absurd (omega (arith, lt, z, lt'))
places_ascend (n ∷ ns) (suc j) (suc k) l m h e f lt = let i = places_ascend ns j k l m (and-second (list_all (is_apart_or_inside n) ns) _ h) e f lt in omega (arith, i)

-- ---- what the blocks of a scope call

pub kept_one : (prog : Program) (p : ℕ) (q : SrcProc) (scope : Scope) (b : ℕ) (ls : List SrcLoop) → (kept_block prog p q scope ls b ≡ own_block_at prog p q scope b (slice_get q.blocks b)) ⊎ ((l : SrcLoop) × Among ls l × (kept_block prog p q scope ls b ≡ head_block prog p q scope l))
kept_one prog p q scope b [] = inl refl
kept_one prog p q scope b (l ∷ ls) = at (nat_eq l.head b) refl (kept_one prog p q scope b ls)
  where
    pick : (t : Bool) → nat_eq l.head b ≡ t → kept_block prog p q scope (l ∷ ls) b ≡ (if t then head_block prog p q scope l else kept_block prog p q scope ls b)
    pick t e = ap (λ c. if c then head_block prog p q scope l else kept_block prog p q scope ls b) e

    at : (t : Bool) → nat_eq l.head b ≡ t → (kept_block prog p q scope ls b ≡ own_block_at prog p q scope b (slice_get q.blocks b)) ⊎ ((m : SrcLoop) × Among ls m × (kept_block prog p q scope ls b ≡ head_block prog p q scope m)) →
        (kept_block prog p q scope (l ∷ ls) b ≡ own_block_at prog p q scope b (slice_get q.blocks b)) ⊎ ((m : SrcLoop) × Among (l ∷ ls) m × (kept_block prog p q scope (l ∷ ls) b ≡ head_block prog p q scope m))
    at true e ih = inr (l, (0, refl), pick true e)
    at false e (inl h) = inl (pick false e ∙ h)
    at false e (inr (m, a, h)) = inr (m, (suc a.0, a.1), pick false e ∙ h)

-- a command of the block is a call of the procedure of that number
abbrev HasCall : FlatBlock → ℕ → Type 0
HasCall block to = (c : FlatCmd) × Among block.cmds c × (is_call_of to c ≡ true)

-- a moved command that is a call calls a source procedure
abbrev IsSource : Program → ℕ → Type 0
IsSource prog to = (callee : SrcProc) × (slice_get prog.procs to ≡ Some callee)

callee_there : (prog : Program) (n : ℕ) (scope : Variables) (args : List (List ExprNode)) (outs : List Var) → call_fits scope (slice_get prog.procs n) args outs ≡ true → IsSource prog n
callee_there prog n scope args outs h = at (slice_get prog.procs n) refl h
  where
    at : (o : Option SrcProc) → slice_get prog.procs n ≡ o → call_fits scope o args outs ≡ true → IsSource prog n
    at None e k = absurd cc
    at (Some callee) e k = (callee, e)

moved_call : (prog : Program) (p by to : ℕ) (scope : Variables) (c : Cmd) → cmd_fits prog.procs scope c ≡ true → is_call_of to (moved_cmd p by c) ≡ true → IsSource prog to
moved_call prog p by to scope (Assign pairs) h e = absurd cc
moved_call prog p by to scope (Havoc xs) h e = absurd cc
moved_call prog p by to scope (Assume expr) h e = absurd cc
moved_call prog p by to scope (Assert number expr) h e = absurd cc
moved_call prog p by to scope (Call n args outs) h e = subst (IsSource prog) (eqb-true n to e) (callee_there prog n scope args outs h)

-- what a command of a scope's procedure calls
data Called (prog : Program) (p : ℕ) (q : SrcProc) (scope : Scope) (to : ℕ) : Type 0 where
  a_source : IsSource prog to → Called prog p q scope to
  itself : to ≡ number_of prog p scope → Called prog p q scope to
  one_inside : (l : SrcLoop) → Among (loops_inside q scope) l → to ≡ number_of prog p (In l.head l.exit) → Called prog p q scope to

own_calls : (prog : Program) (p : ℕ) (q : SrcProc) (scope : Scope) (b to : ℕ) → is_program prog ≡ true → slice_get prog.procs p ≡ Some q → HasCall (own_block_at prog p q scope b (slice_get q.blocks b)) to → IsSource prog to
own_calls prog p q scope b to h e calls = at (slice_get q.blocks b) refl calls
  where
    at : (o : Option SrcBlock) → slice_get q.blocks b ≡ o → HasCall (own_block_at prog p q scope b o) to → IsSource prog to
    at None s (c, a, k) = absurd (let z = a.1 in cc)
    at (Some block) s (c, a, k) =
        let m = from_pieces (moved_cmds prog p (moved_by q scope)) block.cmds c a in
        moved_call prog p (moved_by q scope) to (scope_of prog q) m.0 (cmd_fits_in prog p b m.1.0 q block m.0 h e s m.1.1) (ap (is_call_of to) (only_one (moved_cmd p (moved_by q scope) m.0) c m.2) ∙ k)

one_cmd : (c : FlatCmd) (to : ℕ) (block : FlatBlock) → block.cmds ≡ c ∷ [] → HasCall block to → is_call_of to c ≡ true
one_cmd c to block e (d, (k, a), h) = at k (subst (λ cs. slice_get cs k ≡ Some d) e a)
  where
    at : (k : ℕ) → slice_get (c ∷ []) k ≡ Some d → is_call_of to c ≡ true
    at zero s = let same : c ≡ d = cc in ap (is_call_of to) same ∙ h
    at (suc j) s = absurd cc

pass_calls : (q : SrcProc) (scope : Scope) (first k to : ℕ) (es : List Edge) (block : FlatBlock) → slice_get (pass_blocks q scope first es) k ≡ Some block → HasCall block to → ⊥
pass_calls q scope first k to [] block e h = cc
pass_calls q scope first zero to (x ∷ xs) block e h =
    let same : record { cmds = assume_exit (exit_local q scope) first ∷ []; next = dest_from q scope x.block x.place x.dest } ≡ block = cc in
    let z = one_cmd (assume_exit (exit_local q scope) first) to block (ap (λ (b : FlatBlock). b.cmds) (sym same)) h in cc
pass_calls q scope first (suc k) to (x ∷ xs) block e h = pass_calls q scope (first + 1) k to xs block e h

pass_of_calls : (q : SrcProc) (scope : Scope) (k to : ℕ) (es : List Edge) (block : FlatBlock) → slice_get (pass_blocks_of q scope es) k ≡ Some block → HasCall block to → ⊥
pass_of_calls q scope zero to [] block e h =
    let same : record { cmds = assume_false ∷ []; next = Return } ≡ block = cc in
    let z = one_cmd assume_false to block (ap (λ (b : FlatBlock). b.cmds) (sym same)) h in cc
pass_of_calls q scope (suc k) to [] block e h = cc
pass_of_calls q scope k to (x ∷ xs) block e h = pass_calls q scope 0 k to (x ∷ xs) block e h

leave_calls : (q : SrcProc) (scope : Scope) (first k to : ℕ) (es : List Edge) (block : FlatBlock) → slice_get (leave_blocks q scope first es) k ≡ Some block → HasCall block to → ⊥
leave_calls q scope first k to [] block e h = cc
leave_calls q scope first zero to (x ∷ xs) block e h =
    let same : record { cmds = set_exit (exit_local q scope) first ∷ []; next = Return } ≡ block = cc in
    let z = one_cmd (set_exit (exit_local q scope) first) to block (ap (λ (b : FlatBlock). b.cmds) (sym same)) h in cc
leave_calls q scope first (suc k) to (x ∷ xs) block e h = leave_calls q scope (first + 1) k to xs block e h

end_calls : (prog : Program) (p : ℕ) (q : SrcProc) (scope : Scope) (to : ℕ) (block : FlatBlock) → Among (end_blocks prog p q scope) block → HasCall block to → to ≡ number_of prog p scope
end_calls prog p q Whole to block (k, e) h = absurd cc
end_calls prog p q (In head exit) to block (k, e) h = at (split_get (leave_blocks q (In head exit) 0 (exits_in q (In head exit))) (again_block prog p q (In head exit) ∷ []) k block e)
  where
    at : Among (leave_blocks q (In head exit) 0 (exits_in q (In head exit))) block ⊎ Among (again_block prog p q (In head exit) ∷ []) block → to ≡ number_of prog p (In head exit)
    at (inl (j, f)) = absurd (leave_calls q (In head exit) 0 j to (exits_in q (In head exit)) block f h)
    at (inr (zero, f)) =
        let same : again_block prog p q (In head exit) ≡ block = cc in
        let z = one_cmd (call_of_loop (number_of prog p (In head exit)) (moved_by q (In head exit)) (locals_of q)) to block (ap (λ (b : FlatBlock). b.cmds) (sym same)) h in
        sym (eqb-true (number_of prog p (In head exit)) to z)
    at (inr (suc j, f)) = absurd cc

block_calls : (prog : Program) (p : ℕ) (q : SrcProc) (scope : Scope) (to : ℕ) (block : FlatBlock) → is_program prog ≡ true → slice_get prog.procs p ≡ Some q → Among (blocks_of prog p q scope) block → HasCall block to → Called prog p q scope to
block_calls prog p q scope to block h e (k, a) calls = at (split_get kept (pieces ++ end_blocks prog p q scope) k block a)
  where
    inside : List SrcLoop
    inside = loops_inside q scope

    kept : List FlatBlock
    kept = map (kept_block prog p q scope (loops_inside q scope)) (kept_blocks q scope)

    pieces : List FlatBlock
    pieces = flat_map (λ l. pass_blocks_of q scope (exits_of q l)) (loops_inside q scope)

    own : (b : ℕ) → kept_block prog p q scope (loops_inside q scope) b ≡ block → (kept_block prog p q scope (loops_inside q scope) b ≡ own_block_at prog p q scope b (slice_get q.blocks b)) ⊎ ((l : SrcLoop) × Among (loops_inside q scope) l × (kept_block prog p q scope (loops_inside q scope) b ≡ head_block prog p q scope l)) → Called prog p q scope to
    own b s (inl f) = a_source (own_calls prog p q scope b to h e (subst (λ c. HasCall c to) (sym s ∙ f) calls))
    own b s (inr (l, x, f)) =
        let z = one_cmd (call_of_loop (number_of prog p (In l.head l.exit)) (moved_by q scope) (locals_of q)) to block (ap (λ (c : FlatBlock). c.cmds) (sym s ∙ f)) calls in
        one_inside l x (sym (eqb-true (number_of prog p (In l.head l.exit)) to z))

    later : Among pieces block ⊎ Among (end_blocks prog p q scope) block → Called prog p q scope to
    later (inl (j, f)) = let g = from_pieces (λ l. pass_blocks_of q scope (exits_of q l)) (loops_inside q scope) block (j, f) in absurd (pass_of_calls q scope g.2.0 to (exits_of q g.0) block g.2.1 calls)
    later (inr x) = itself (end_calls prog p q scope to block x calls)

    at : Among kept block ⊎ Among (pieces ++ end_blocks prog p q scope) block → Called prog p q scope to
    at (inl (j, f)) = let m = from_map (kept_block prog p q scope (loops_inside q scope)) (kept_blocks q scope) j block f in own m.0 m.2 (kept_one prog p q scope m.0 (loops_inside q scope))
    at (inr (j, f)) = later (split_get pieces (end_blocks prog p q scope) j block f)

-- ---- which procedure stands at a number

pub record Which (prog : Program) (n k : ℕ) (ps : List SrcProc) (code : FlatProc) : Type 0 where
  pub at : ℕ
  pub q : SrcProc
  pub place : ℕ
  pub l : SrcLoop
  pub q_is : slice_get ps at ≡ Some q
  pub l_is : slice_get (reached_loops q) place ≡ Some l
  pub code_is : code ≡ proc_of prog (n + at) q (In l.head l.exit)
  pub number : k ≡ loops_count (take at ps) + place

pub which : (prog : Program) (n k : ℕ) (ps : List SrcProc) (code : FlatProc) → slice_get (loop_procs prog n ps) k ≡ Some code → Which prog n k ps code
which prog n k [] code e = absurd cc
which prog n k (r ∷ rs) code e = go (split_place (map f (reached_loops r)) (loop_procs prog (n + 1) rs) k code e) (λ m g. which prog (n + 1) m rs code g)
  where
    f : SrcLoop → FlatProc
    f l = proc_of prog n r (In l.head l.exit)

    go : (slice_get (map f (reached_loops r)) k ≡ Some code) ⊎ ((m : ℕ) × (k ≡ length (map f (reached_loops r)) + m) × (slice_get (loop_procs prog (n + 1) rs) m ≡ Some code)) → ((m : ℕ) → slice_get (loop_procs prog (n + 1) rs) m ≡ Some code → Which prog (n + 1) m rs code) → Which prog n k (r ∷ rs) code
    go (inl g) ih =
        let m = from_map f (reached_loops r) k code g in let z : n ≡ n + 0 = omega arith in
        record { at = 0; q = r; place = k; l = m.0; q_is = refl; l_is = m.1; code_is = sym m.2 ∙ ap (λ i. proc_of prog i r (In m.0.head m.0.exit)) z; number = omega arith }
    go (inr (m, z, g)) ih =
        let w = ih m g in let c = length-map (reached_loops r) f in let y = w.number in let x : n + 1 + w.at ≡ n + suc w.at = omega arith in
        record { at = suc w.at; q = w.q; place = w.place; l = w.l; q_is = w.q_is; l_is = w.l_is; code_is = w.code_is ∙ ap (λ i. proc_of prog i w.q (In w.l.head w.l.exit)) x; number = omega (arith, z, c, y) }

no_source : (prog : Program) (to : ℕ) (called : FlatProc) → slice_get (flat_of prog).procs to ≡ Some called → is_loop_kind called.kind ≡ true → IsSource prog to → ⊥
no_source prog to called e h (callee, s) =
    let there = whole_there prog to callee s in
    let both : Some (proc_of prog to callee Whole) ≡ Some called = sym there ∙ e in
    let same : proc_of prog to callee Whole ≡ called = cc in
    let z = ap (λ (c : FlatProc). is_loop_kind c.kind) same in cc

calls_on : (prog : Program) (p to : ℕ) (code called : FlatProc) → is_program prog ≡ true → length prog.procs ≤ p → slice_get (flat_of prog).procs p ≡ Some code → slice_get (flat_of prog).procs to ≡ Some called → is_loop_kind called.kind ≡ true → Calls code to → (to ≡ p) ⊎ (p < to)
calls_on prog p to code called h le e f kd calls =
    go (split_place (source_procs prog 0 prog.procs) (loop_procs prog 0 prog.procs) p code e)
  where
    loop : (k : ℕ) → p ≡ length (source_procs prog 0 prog.procs) + k → Which prog 0 k prog.procs code → (to ≡ p) ⊎ (p < to)
    loop k z w = made (block_calls prog w.at w.q scope to block h w.q_is (subst (λ bs. Among bs block) (blocks_are prog w.at w.q scope) (subst (λ (c : FlatProc). Among c.blocks block) is (from_any _ code.blocks calls).1)) has)
      where
        scope : Scope
        scope = In w.l.head w.l.exit

        is : code ≡ proc_of prog w.at w.q (In w.l.head w.l.exit)
        is = let x : 0 + w.at ≡ w.at = omega arith in w.code_is ∙ ap (λ i. proc_of prog i w.q (In w.l.head w.l.exit)) x

        block : FlatBlock
        block = (from_any _ code.blocks calls).0

        has : HasCall block to
        has = from_any _ block.cmds (from_any _ code.blocks calls).2

        f_q : Fits w.q
        f_q = fits_of prog w.at w.q h w.q_is

        nested : are_nested (reached_loops w.q) ≡ true
        nested = nested_kept (λ l. is_in l.head (reached_blocks w.q)) w.q.loops f_q.nested

        number_is : (l : SrcLoop) (j : ℕ) → slice_get (reached_loops w.q) j ≡ Some l → number_of prog w.at (In l.head l.exit) ≡ length prog.procs + (loops_count (take w.at prog.procs) + j)
        number_is l j s =
            ap (λ o. length prog.procs + (loops_count (take w.at prog.procs) + index_of l.head (heads_at o))) w.q_is
            ∙ ap (λ i. length prog.procs + (loops_count (take w.at prog.procs) + i)) (index_at (reached_loops w.q) j l nested s)

        p_is : p ≡ number_of prog w.at (In w.l.head w.l.exit)
        p_is = let a = number_is w.l w.place w.l_is in let b = w.number in let c = source_count prog 0 prog.procs in omega (arith, z, a, b, c)

        made : Called prog w.at w.q (In w.l.head w.l.exit) to → (to ≡ p) ⊎ (p < to)
        made (a_source s) = absurd (no_source prog to called f kd s)
        made (itself s) = inl (s ∙ sym p_is)
        made (one_inside l a s) =
            let i = inside_loop w.q (In w.l.head w.l.exit) l a in
            let around : Around w.q l.head l.exit (In w.l.head w.l.exit) = record { reached = i.reached; among = i.among; is = i.is } in
            let lt = (around_holds w.q l.head l.exit w.l.head w.l.exit f_q around).1 in
            let there = reached_loop w.q l i.among i.reached in
            let less = places_ascend (reached_loops w.q) w.place there.0 w.l l nested w.l_is there.1 lt in
            let x = number_is w.l w.place w.l_is in let y = number_is l there.0 there.1 in
            let p' = p_is in
            inr (omega (arith, s, less, x, y, p'))

    go : (slice_get (source_procs prog 0 prog.procs) p ≡ Some code) ⊎ ((k : ℕ) × (p ≡ length (source_procs prog 0 prog.procs) + k) × (slice_get (loop_procs prog 0 prog.procs) k ≡ Some code)) → (to ≡ p) ⊎ (p < to)
    go (inl s) = let lt = below (source_procs prog 0 prog.procs) p code s in let c = source_count prog 0 prog.procs in absurd (omega (arith, le, lt, c))
    go (inr (k, z, s)) = loop k z (which prog 0 k prog.procs code s)

-- ---- no circle

onward_from : (prog : Program) (first count : ℕ) → is_program prog ≡ true → length prog.procs ≤ first → first + count ≡ length (flat_of prog).procs → CallsOnward (flat_of prog).procs (numbers_from first count)
onward_from prog first zero h le e = tt
onward_from prog first (suc count) h le e =
    (λ code called to a b kd calls. at to called b (calls_on prog first to code called h le a b kd calls), onward_from prog (first + 1) count h (omega (arith, le)) (omega (arith, e)))
  where
    at : (to : ℕ) (called : FlatProc) → slice_get (flat_of prog).procs to ≡ Some called → (to ≡ first) ⊎ (first < to) → (to ≡ first) ⊎ Contains (numbers_from (first + 1) count) to
    at to called b (inl s) = inl s
    at to called b (inr lt) =
        let within = below (flat_of prog).procs to called b in
        inr (contains (numbers_from (first + 1) count) to (numbered (first + 1) count to (omega (arith, lt)) (omega (arith, within, e))))

pub no_circle : (prog : Program) → is_program prog ≡ true → HaveNoLoopCircle (flat_of prog).procs
no_circle prog h =
    record {
      order = numbers_from (length prog.procs) (length (loop_procs prog 0 prog.procs));
      onward = onward_from prog (length prog.procs) (length (loop_procs prog 0 prog.procs)) h (omega arith) long;
      every = λ p q e kd. at p q e kd (slice_get prog.procs p) refl;
    }
  where
    long : length prog.procs + length (loop_procs prog 0 prog.procs) ≡ length (flat_of prog).procs
    long = let a = length-append (source_procs prog 0 prog.procs) (loop_procs prog 0 prog.procs) in let c = source_count prog 0 prog.procs in omega (arith, a, c)

    at : (p : ℕ) (q : FlatProc) → slice_get (flat_of prog).procs p ≡ Some q → is_loop_kind q.kind ≡ true → (o : Option SrcProc) → slice_get prog.procs p ≡ o → Contains (numbers_from (length prog.procs) (length (loop_procs prog 0 prog.procs))) p
    at p q e kd None s =
        let le = none_beyond prog.procs p s in let lt = below (flat_of prog).procs p q e in let l = long in
        contains (numbers_from (length prog.procs) (length (loop_procs prog 0 prog.procs))) p (numbered (length prog.procs) (length (loop_procs prog 0 prog.procs)) p le (omega (arith, lt, l)))
    at p q e kd (Some callee) s = absurd (no_source prog p q e kd (callee, s))
