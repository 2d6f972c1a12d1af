-- Extraction has what the proof needs of it.
use Rattle.std.proofs.Common.{◌≡◌, ℕ, zero, suc, ◌<◌, ◌^◌, ◌+◌, Bool, true, false, ◌&&◌, not, if◌then◌else◌, List, [], ◌∷◌, ◌++◌, map, length, take, arith, sym, ◌∙◌, ap, refl}
use Rattle.std.proofs.lemmas.Bool.{eqb-true, eq-eqb, ltb-true}
use Rattle.std.proofs.lemmas.List.{length-map}
use Rattle.std.specs.Prelude.{Some, slice_get, nat_eq, nat_lt}
use Rattle.std.specs.List.{list_all}
use Rattle.src_prog.specs.Loops.{holds_block, loop_is_within, edge_fits}
use Rattle.src_prog.specs.Program.{Program}
use Rattle.src_prog.specs.Scope.{locals_of}
use Rattle.src_prog.specs.Shape.{is_program, names_fit, target_fits, next_fits, loops_fit}
use Rattle.hy_val.specs.Scope.{are_numbered}
use Rattle.src_prog.specs.declared.block.Next.{Next}
use Rattle.src_prog.specs.declared.block.Next.TheVariants.{Goto, Return}
use Rattle.src_prog.specs.declared.proc.SrcLoop.{SrcLoop}
use Rattle.src_prog.specs.declared.proc.SrcProc.{SrcProc}
use Rattle.hy_val.proofs.Booleans.{and-first, and-second}
use Rattle.src_run.proofs.Programs.{proc_fits, proc_shape, next_fits_in}
use Rattle.flat_prog.specs.Shape.{IsFlat, IsFlatProc}
use Rattle.extract_def.proofs.Facts.{Facts, Among, Inside, Around, Seen, Leaves, IsEdge}
use Rattle.extract_def.proofs.Lookup.{below}
use Rattle.extract_def.proofs.Members.{all_at, from_filter, is_in_at, get_map, all_holds}
use Rattle.extract_def.proofs.Lookup.{get_left, get_right}
use Rattle.extract_def.proofs.Regions.{Fits, found_in, same_loop, inside_first, inside_again, seen_own, seen_out, inside_stay, inside_enter, around_test}
use Rattle.extract_def.proofs.Standing.{own_there, head_there, pass_listed, pass_there, leave_there, again_there, first_whole, first_loop, reached_loop}
use Rattle.extract_def.specs.Exits.{Dest}
use Rattle.extract_def.specs.Extraction.{loops_count, heads_at, number_of, proc_of, source_procs, loop_procs, flat_of}
use Rattle.extract_def.specs.Places.{index_of, loop_in, exit_of, leave_place}
use Rattle.extract_def.specs.Scopes.{Scope, Whole, In, is_in, targets_of, reached_blocks, reached_loops}

-- ---- a procedure of a program fits

aims_at : (loops : List SrcLoop) (count b to : ℕ) (next : Next) → next_fits loops count b next ≡ true → is_in to (targets_of next) ≡ true → (to < count) × (edge_fits loops b to ≡ true)
aims_at loops count b to Return h i = absurd cc
aims_at loops count b to (Goto ts) h i =
    let one = all_at (target_fits loops count b) ts to (and-second (nat_lt 0 (length ts)) _ h) (is_in_at to ts i) in
    (ltb-true to count (and-first (nat_lt to count) _ one), and-second (nat_lt to count) _ one)

pub fits_of : (prog : Program) (p : ℕ) (q : SrcProc) → is_program prog ≡ true → slice_get prog.procs p ≡ Some q → Fits q
fits_of prog p q h e =
    let whole = proc_fits prog p q h e in
    let shape = and-first (loops_fit q) _ (proc_shape prog q whole) in
    let counts = and-first (are_numbered (length (locals_of q)) && (nat_lt 0 (length q.blocks) && are_numbered (length q.blocks))) _ (and-second (names_fit q.ins && (names_fit q.outs && names_fit q.locals)) _ whole) in
    record {
      some = ltb-true 0 (length q.blocks) (and-first (nat_lt 0 (length q.blocks)) _ (and-second (are_numbered (length (locals_of q))) _ counts));
      nested = and-second (list_all (loop_is_within (length q.blocks)) q.loops) _ shape;
      loops = λ l a. all_at (loop_is_within (length q.blocks)) q.loops l (and-first (list_all (loop_is_within (length q.blocks)) q.loops) _ shape) a;
      edges = λ b block to s i. aims_at q.loops (length q.blocks) b to block.next (next_fits_in prog p b q block h e s) i;
    }

-- ---- numbers of procedures

source_at : (prog : Program) (n k : ℕ) (procs : List SrcProc) (q : SrcProc) → slice_get procs k ≡ Some q → slice_get (source_procs prog n procs) k ≡ Some (proc_of prog (n + k) q Whole)
source_at prog n k [] q e = absurd cc
source_at prog n zero (r ∷ rs) q e = let same : r ≡ q = cc in let z : n ≡ n + 0 = omega arith in ap (λ (s : SrcProc). Some (proc_of prog n s Whole)) same ∙ ap (λ m. Some (proc_of prog m q Whole)) z
source_at prog n (suc k) (r ∷ rs) q e = let z : n + 1 + k ≡ n + suc k = omega arith in source_at prog (n + 1) k rs q e ∙ ap (λ m. Some (proc_of prog m q Whole)) z

pub source_count : (prog : Program) (n : ℕ) (procs : List SrcProc) → length (source_procs prog n procs) ≡ length procs
source_count prog n [] = refl
source_count prog n (q ∷ qs) = ap suc (source_count prog (n + 1) qs)

pub whole_there : (prog : Program) (p : ℕ) (q : SrcProc) → slice_get prog.procs p ≡ Some q → slice_get (flat_of prog).procs p ≡ Some (proc_of prog p q Whole)
whole_there prog p q e =
    let z : 0 + p ≡ p = omega arith in
    get_left (source_procs prog 0 prog.procs) (loop_procs prog 0 prog.procs) p (proc_of prog p q Whole) (source_at prog 0 p prog.procs q e ∙ ap (λ m. Some (proc_of prog m q Whole)) z)

loops_at : (prog : Program) (n k i : ℕ) (procs : List SrcProc) (q : SrcProc) (l : SrcLoop) → slice_get procs k ≡ Some q → slice_get (reached_loops q) i ≡ Some l → slice_get (loop_procs prog n procs) (loops_count (take k procs) + i) ≡ Some (proc_of prog (n + k) q (In l.head l.exit))
loops_at prog n k i [] q l e h = absurd cc
loops_at prog n zero i (r ∷ rs) q l e h =
    let same : r ≡ q = cc in let z : n ≡ n + 0 = omega arith in let y : 0 + i ≡ i = omega arith in
    let f = λ (m : SrcLoop). proc_of prog n r (In m.head m.exit) in
    ap (slice_get (map f (reached_loops r) ++ loop_procs prog (n + 1) rs)) y
    ∙ (get_left (map f (reached_loops r)) (loop_procs prog (n + 1) rs) i (proc_of prog n r (In l.head l.exit)) (get_map f (reached_loops r) i l (ap (λ (s : SrcProc). slice_get (reached_loops s) i) same ∙ h))
    ∙ (ap (λ (s : SrcProc). Some (proc_of prog n s (In l.head l.exit))) same ∙ ap (λ m. Some (proc_of prog m q (In l.head l.exit))) z))
loops_at prog n (suc k) i (r ∷ rs) q l e h =
    let f = λ (m : SrcLoop). proc_of prog n r (In m.head m.exit) in
    let c = length-map (reached_loops r) f in let z : n + 1 + k ≡ n + suc k = omega arith in
    let y : length (reached_loops r) + loops_count (take k rs) + i ≡ length (map f (reached_loops r)) + (loops_count (take k rs) + i) = omega (arith, c) in
    ap (slice_get (map f (reached_loops r) ++ loop_procs prog (n + 1) rs)) y
    ∙ (get_right (map f (reached_loops r)) (loop_procs prog (n + 1) rs) (loops_count (take k rs) + i) ∙ (loops_at prog (n + 1) k i rs q l e h ∙ ap (λ m. Some (proc_of prog m q (In l.head l.exit))) z))

-- a loop stands among the reached ones where its head stands among their heads
head_found : (l : SrcLoop) (ls : List SrcLoop) → Among ls l → ((m : SrcLoop) → Among ls m → m.head ≡ l.head → m ≡ l) → slice_get ls (index_of l.head (map (λ (m : SrcLoop). m.head) ls)) ≡ Some l
head_found l [] (k, e) one = absurd cc
head_found l (m ∷ ms) a one = at (nat_eq m.head l.head) refl a (λ i. head_found l ms i (λ n b. one n (suc b.0, b.1)))
  where
    at : (t : Bool) → nat_eq m.head l.head ≡ t → Among (m ∷ ms) l → (Among ms l → slice_get ms (index_of l.head (map (λ (n : SrcLoop). n.head) ms)) ≡ Some l) → slice_get (m ∷ ms) (index_of l.head (map (λ (n : SrcLoop). n.head) (m ∷ ms))) ≡ Some l
    at true t i ih =
        ap (λ b. slice_get (m ∷ ms) (if b then 0 else index_of l.head (map (λ (n : SrcLoop). n.head) ms) + 1)) t ∙ ap (λ n. Some n) (one m (0, refl) (eqb-true m.head l.head t))
    at false t (zero, e) ih = let same : m ≡ l = cc in absurd (let z = eq-eqb m.head l.head (ap (λ (n : SrcLoop). n.head) same) in cc)
    at false t (suc k, e) ih =
        let z : index_of l.head (map (λ (n : SrcLoop). n.head) ms) + 1 ≡ suc (index_of l.head (map (λ (n : SrcLoop). n.head) ms)) = omega arith in
        ap (λ b. slice_get (m ∷ ms) (if b then 0 else index_of l.head (map (λ (n : SrcLoop). n.head) ms) + 1)) t ∙ (ap (slice_get (m ∷ ms)) z ∙ ih (k, e))

filtered_in : (q : SrcProc) (l : SrcLoop) → Among (reached_loops q) l → Among q.loops l
filtered_in q l a = (from_filter (λ m. is_in m.head (reached_blocks q)) q.loops l a).0

loop_found : (q : SrcProc) (head exit : ℕ) → Fits q → Among q.loops (loop_in head exit) → is_in head (reached_blocks q) ≡ true → slice_get (reached_loops q) (index_of head (map (λ (m : SrcLoop). m.head) (reached_loops q))) ≡ Some (loop_in head exit)
loop_found q head exit f a r = head_found (loop_in head exit) (reached_loops q) (reached_loop q (loop_in head exit) a r) (λ m b e. same_loop q.loops m (loop_in head exit) f.nested (filtered_in q m b) a e)

pub loop_there : (prog : Program) (p : ℕ) (q : SrcProc) (head exit : ℕ) → is_program prog ≡ true → slice_get prog.procs p ≡ Some q → Inside q (In head exit) head → slice_get (flat_of prog).procs (number_of prog p (In head exit)) ≡ Some (proc_of prog p q (In head exit))
loop_there prog p q head exit h e i =
    let f = fits_of prog p q h e in
    let d = found_in (λ l. holds_block l head) q.loops head exit f.nested i.is in
    let n = source_count prog 0 prog.procs in let z : 0 + p ≡ p = omega arith in
    let x = index_of head (map (λ (m : SrcLoop). m.head) (reached_loops q)) in
    ap (λ o. slice_get (flat_of prog).procs (length prog.procs + (loops_count (take p prog.procs) + index_of head (heads_at o)))) e
    ∙ (ap (λ k. slice_get (flat_of prog).procs (k + (loops_count (take p prog.procs) + x))) (sym n)
    ∙ (get_right (source_procs prog 0 prog.procs) (loop_procs prog 0 prog.procs) (loops_count (take p prog.procs) + x)
    ∙ (loops_at prog 0 p x prog.procs q (loop_in head exit) e (loop_found q head exit f d.among i.reached) ∙ ap (λ m. Some (proc_of prog m q (In head exit))) z)))

-- what stands at the place of a number is that number
index_is : (n m : ℕ) (ns : List ℕ) → slice_get ns (index_of n ns) ≡ Some m → n ≡ m
index_is n m [] g = absurd cc
index_is n m (k ∷ ks) g = at (nat_eq k n) refl (index_is n m ks)
  where
    at : (b : Bool) → nat_eq k n ≡ b → (slice_get ks (index_of n ks) ≡ Some m → n ≡ m) → n ≡ m
    at true t ih = let z : Some k ≡ Some m = ap (λ b. slice_get (k ∷ ks) (if b then 0 else index_of n ks + 1)) (sym t) ∙ g in let y : k ≡ m = cc in sym (eqb-true k n t) ∙ y
    at false t ih =
        let w : index_of n ks + 1 ≡ suc (index_of n ks) = omega arith in
        ih (ap (slice_get (k ∷ ks)) (sym w) ∙ (ap (λ b. slice_get (k ∷ ks) (if b then 0 else index_of n ks + 1)) (sym t) ∙ g))

pub apart : (prog : Program) (p : ℕ) (q : SrcProc) (head exit : ℕ) (scope : Scope) → is_program prog ≡ true → slice_get prog.procs p ≡ Some q → Around q head exit scope → number_of prog p scope ≡ number_of prog p (In head exit) → ⊥
apart prog p q head exit Whole h e a same = let lt = below prog.procs p q e in omega (arith, same, lt)
apart prog p q head exit (In outer end) h e a same =
    let f = fits_of prog p q h e in
    let d = found_in (λ l. holds_block l head && not (nat_eq l.head head)) q.loops outer end f.nested a.is in
    let t = around_test (loop_in outer end) head d.passes in
    let heads = map (λ (m : SrcLoop). m.head) (reached_loops q) in
    let x = ap (λ o. length prog.procs + (loops_count (take p prog.procs) + index_of outer (heads_at o))) e in
    let y = ap (λ o. length prog.procs + (loops_count (take p prog.procs) + index_of head (heads_at o))) e in
    let i : index_of outer heads ≡ index_of head heads = omega (arith, same, x, y) in
    let there = loop_found q head exit f a.among a.reached in
    let at_head = get_map (λ (m : SrcLoop). m.head) (reached_loops q) (index_of head heads) (loop_in head exit) there in
    t.1 (index_is outer head heads (ap (slice_get heads) i ∙ at_head))

-- an exit number is below the number of blocks
few : (prog : Program) (p : ℕ) (q : SrcProc) (head exit b place : ℕ) (dest : Dest) → is_program prog ≡ true → IsFlat (flat_of prog) → slice_get prog.procs p ≡ Some q → Inside q (In head exit) head → Seen q (In head exit) b dest → IsEdge q b place dest → Leaves head exit dest →
    exit_of q (In head exit) b place < 2 ^ 32
few prog p q head exit b place dest h flat e i s x out =
    let code = proc_of prog p q (In head exit) in
    let is = loop_there prog p q head exit h e i in
    let fit : IsFlatProc (flat_of prog) code = all_holds (IsFlatProc (flat_of prog)) (flat_of prog).procs (number_of prog p (In head exit)) code flat.procs is in
    let count = ltb-true (length code.blocks) (2 ^ 32) (and-second (nat_lt 0 (length code.blocks)) _ fit.some) in
    let n = exit_of q (In head exit) b place in
    let there = below code.blocks (leave_place q (In head exit) n) _ (leave_there prog p q head exit b place dest s x out) in
    omega (arith, count, there)

-- ---- all facts

pub facts_of : (prog : Program) → is_program prog ≡ true → IsFlat (flat_of prog) → Facts prog
facts_of prog h flat = record {
  whole_there = λ p q e. whole_there prog p q e;
  loop_there = λ p q head exit e i. loop_there prog p q head exit h e i;
  apart = λ p q head exit scope e a s. apart prog p q head exit scope h e a s;
  own_there = λ p q scope b block e i s. own_there prog p q scope b block (fits_of prog p q h e) i s;
  head_there = λ p q scope head exit e a. head_there prog p q scope head exit (fits_of prog p q h e) a;
  pass_listed = λ p q scope head exit b place dest e a s x out. pass_listed q scope head exit b place dest s x out;
  pass_there = λ p q scope head exit b place dest e a s x out. pass_there prog p q scope head exit b place dest (fits_of prog p q h e) a s x out;
  leave_there = λ p q head exit b place dest e s x out. leave_there prog p q head exit b place dest s x out;
  again_there = λ p q head exit e. again_there prog p q head exit;
  first_whole = λ p q e. first_whole q (inside_first q (fits_of prog p q h e));
  first_loop = λ p q head exit e i. first_loop q head exit (fits_of prog p q h e) i;
  few_exits = λ p q head exit b place dest e i s x out. few prog p q head exit b place dest h flat e i s x out;
  inside_first = λ p q e. inside_first q (fits_of prog p q h e);
  seen_own = λ p q scope b place dest e i x. seen_own q scope b dest (fits_of prog p q h e) i;
  seen_out = λ p q scope head exit b dest e a s out. seen_out q scope head exit b dest (fits_of prog p q h e) a s out;
  inside_stay = λ p q scope b place to e s x w. inside_stay q scope b place to (fits_of prog p q h e) s x w;
  inside_enter = λ p q scope b place to exit e s x w. inside_enter q scope b place to exit (fits_of prog p q h e) s x w;
  inside_again = λ p q head exit b dest e s. inside_again q head exit b dest (fits_of prog p q h e) s;
}
