-- Loops ascend by head, so one is found by its head in halves.
use Rattle.std.proofs.Common.{◌≡◌, ℕ, zero, suc, ◌+◌, ◌<◌, ◌≤◌, nat_eq, nat_lt, Bool, true, false, List, [], ◌∷◌, length, drop, slice_get, Option, None, Some, refl, sym, ap, ◌∙◌, subst, arith}
use Rattle.std.proofs.lemmas.Bool.Decides.{nat_tests}
use Rattle.std.proofs.lemmas.Option.{slice_get_past}
use Rattle.std.specs.List.{list_all}
use Rattle.src_prog.specs.Loops.{is_apart_or_inside, are_nested, loop_is_within}
use Rattle.src_prog.specs.Program.{Program}
use Rattle.src_prog.specs.Shape.{is_program, loops_fit, blocks_fit, scope_of}
use Rattle.src_prog.specs.declared.proc.SrcLoop.{SrcLoop}
use Rattle.src_prog.specs.declared.proc.SrcProc.{SrcProc}
use Rattle.src_run.specs.Edges.{is_below, entry_at}
use Rattle.src_run.specs.Machine.{Stay, entry_of}
use Rattle.hy_val.proofs.Booleans.{and-first, and-second}
use Rattle.src_run.proofs.Programs.{proc_fits, proc_shape}
use Rattle.src_run.proofs.Takes.{drop_some, drop_none}

-- the loops of a procedure of a program ascend
pub nested_in : (prog : Program) (n : ℕ) (proc : SrcProc) → is_program prog ≡ true → slice_get prog.procs n ≡ Some proc → are_nested proc.loops ≡ true
nested_in prog n proc h e =
    and-second (list_all (loop_is_within (length proc.blocks)) proc.loops) (are_nested proc.loops)
    (and-first (loops_fit proc) (blocks_fit prog.procs (scope_of prog proc) proc.loops (length proc.blocks) 0 proc.blocks) (proc_shape prog proc (proc_fits prog n proc h e)))

head_below : (l m : SrcLoop) → is_apart_or_inside l m ≡ true → l.head < m.head
head_below l m h = let t = and-first (nat_lt l.head m.head) _ h in grind (arith, nat_tests)

passes : (l : SrcLoop) (ls : List SrcLoop) (to : ℕ) → nat_eq l.head to ≡ false → entry_of (l ∷ ls) to ≡ entry_of ls to
passes l ls to e = rw e refl

item_apart : (l : SrcLoop) (ls : List SrcLoop) (k : ℕ) (m : SrcLoop) → list_all (is_apart_or_inside l) ls ≡ true → slice_get ls k ≡ Some m → l.head < m.head
item_apart l [] k m h e = cc
item_apart l (x ∷ xs) zero m h e = let same : x ≡ m = cc in head_below l m (subst (λ (y : SrcLoop). is_apart_or_inside l y ≡ true) same (and-first (is_apart_or_inside l x) _ h))
item_apart l (x ∷ xs) (suc k) m h e = item_apart l xs k m (and-second (is_apart_or_inside l x) _ h) e

skip_one : (ls : List SrcLoop) (k to : ℕ) (m : SrcLoop) → are_nested ls ≡ true → slice_get ls k ≡ Some m → m.head < to → entry_of (drop (suc k) ls) to ≡ entry_of ls to
skip_one [] k to m h e b = cc
skip_one (x ∷ xs) zero to m h e b = let same : x ≡ m = cc in let heads = ap (λ (y : SrcLoop). y.head) same in let ne : nat_eq x.head to ≡ false = grind (arith, nat_tests) in sym (passes x xs to ne)
skip_one (x ∷ xs) (suc k) to m h e b =
    let lower = item_apart x xs k m (and-first (list_all (is_apart_or_inside x) xs) _ h) e in
    let ne : nat_eq x.head to ≡ false = grind (arith, nat_tests) in
    skip_one xs k to m (and-second (list_all (is_apart_or_inside x) xs) _ h) e b ∙ sym (passes x xs to ne)

-- loops up to one whose head is below a block are not entered there
pub skipped : (ls : List SrcLoop) (k to : ℕ) → are_nested ls ≡ true → is_below to (slice_get ls k) ≡ true → entry_of (drop (k + 1) ls) to ≡ entry_of ls to
skipped ls k to h b = at (slice_get ls k) refl b
  where
    at : (o : Option SrcLoop) → slice_get ls k ≡ o → is_below to o ≡ true → entry_of (drop (k + 1) ls) to ≡ entry_of ls to
    at None e c = cc
    at (Some m) e c =
        let below : m.head < to = grind (arith, nat_tests) in
        let more : k + 1 ≡ suc k = omega arith in
        rw more (skip_one ls k to m h e below)

none_above : (l : SrcLoop) (ls : List SrcLoop) (to : ℕ) → list_all (is_apart_or_inside l) ls ≡ true → to ≤ l.head → entry_of ls to ≡ Stay
none_above l [] to h b = refl
none_above l (x ∷ xs) to h b =
    let lower = head_below l x (and-first (is_apart_or_inside l x) _ h) in
    let ne : nat_eq x.head to ≡ false = grind (arith, nat_tests) in
    passes x xs to ne ∙ none_above l xs to (and-second (is_apart_or_inside l x) _ h) b

nested_behind : (n : ℕ) (ls : List SrcLoop) → are_nested ls ≡ true → are_nested (drop n ls) ≡ true
nested_behind zero [] h = refl
nested_behind zero (x ∷ xs) h = h
nested_behind (suc n) [] h = refl
nested_behind (suc n) (x ∷ xs) h = nested_behind n xs (and-second (list_all (is_apart_or_inside x) xs) _ h)

here_or_nowhere : (l : SrcLoop) (ls : List SrcLoop) (to : ℕ) → are_nested (l ∷ ls) ≡ true → to ≤ l.head → entry_of (l ∷ ls) to ≡ entry_at to (Some l)
here_or_nowhere l ls to h b = at (nat_eq l.head to) refl
  where
    at : (t : Bool) → nat_eq l.head to ≡ t → entry_of (l ∷ ls) to ≡ entry_at to (Some l)
    at true e = rw e refl
    at false e = rw e (none_above l ls to (and-first (list_all (is_apart_or_inside l) ls) _ h) b)

-- the first loop whose head is not below a block is the one that is entered there, if one is
pub found_at : (ls : List SrcLoop) (k to : ℕ) → are_nested ls ≡ true → entry_of (drop k ls) to ≡ entry_of ls to → is_below to (slice_get ls k) ≡ false → entry_of ls to ≡ entry_at to (slice_get ls k)
found_at ls k to h skips b = at (slice_get ls k) refl b
  where
    at : (o : Option SrcLoop) → slice_get ls k ≡ o → is_below to o ≡ false → entry_of ls to ≡ entry_at to o
    at None e c = sym skips ∙ ap (λ ms. entry_of ms to) (drop_none k ls e)
    at (Some m) e c =
        let above : to ≤ m.head = grind (arith, nat_tests) in
        let is = drop_some k ls m e in
        let nested : are_nested (m ∷ drop (k + 1) ls) ≡ true = subst (λ (ms : List SrcLoop). are_nested ms ≡ true) is (nested_behind k ls h) in
        sym skips ∙ (ap (λ ms. entry_of ms to) is ∙ here_or_nowhere m (drop (k + 1) ls) to nested above)

pub none_past : (ls : List SrcLoop) (k to : ℕ) → length ls ≤ k → is_below to (slice_get ls k) ≡ false
none_past ls k to h = ap (is_below to) (slice_get_past ls k h)
