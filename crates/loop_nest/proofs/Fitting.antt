-- What the type of programs keeps of the loops and edges of a procedure.
use Rattle.std.proofs.Common.{◌≡◌, ℕ, zero, suc, ◌+◌, ◌^◌, ◌<◌, ◌≤◌, nat_eq, nat_lt, nat_le, Bool, true, false, ◌&&◌, ◌||◌, not, List, [], ◌∷◌, length, get_or, ◌⊎◌, inl, inr, Option, Some, None, refl, sym, ◌∙◌, ap, subst, arith, true≢false}
use Rattle.std.proofs.lemmas.Bool.Decides.{nat_tests}
use Rattle.std.proofs.lemmas.List.Elements.{All-nil, All-cons, All-contains, Contains-append_right}
use Rattle.std.proofs.lemmas.List.Kept.{AllPairs-cons}
use Rattle.std.proofs.lemmas.Option.{slice_get_read}
use Rattle.std.specs.List.{All, AllPairs, Contains, list_all, slice_get}
use Rattle.src_prog.specs.Loops.{holds_block, loop_is_within, is_apart_or_inside, are_nested, goes_back, enters_at_head}
use Rattle.src_prog.specs.Program.{Program}
use Rattle.hy_val.specs.Scope.{Scope, is_condition}
use Rattle.src_prog.specs.Scope.{locals_of, cmd_fits}
use Rattle.src_prog.specs.Shape.{is_program, is_procedure, target_fits, next_fits, block_fits, blocks_fit, scope_of, loops_fit, names_fit, constant_scope}
use Rattle.hy_val.specs.Scope.{are_numbered, ascend_from}
use Rattle.src_prog.specs.declared.block.Next.{Next}
use Rattle.src_prog.specs.declared.block.Next.TheVariants.{Goto, Return}
use Rattle.src_prog.specs.declared.block.SrcBlock.{SrcBlock}
use Rattle.src_prog.specs.declared.proc.SrcLoop.{SrcLoop}
use Rattle.src_prog.specs.declared.proc.SrcProc.{SrcProc}
use Rattle.loop_nest.specs.Reached.{targets, targets_of, targets_from}
use Rattle.loop_nest.specs.Walks.{IsClosed}

pub and-first : (a b : Bool) → (a && b) ≡ true → a ≡ true
and-first true b h = refl
and-first false b h = h

pub and-second : (a b : Bool) → (a && b) ≡ true → b ≡ true
and-second true b h = h
and-second false b h = cc

or-either : (a b : Bool) → (a || b) ≡ true → (a ≡ true) ⊎ (b ≡ true)
or-either true b h = inl refl
or-either false b h = inr h

pub all-of : {X : Type 0} (p : X → Bool) (xs : List X) → list_all p xs ≡ true → All (λ x. p x ≡ true) xs
all-of p [] h = All-nil (λ x. p x ≡ true)
all-of p (x ∷ xs) h = All-cons (λ y. p y ≡ true) x xs (and-first (p x) (list_all p xs) h) (all-of p xs (and-second (p x) (list_all p xs) h))

all-at : {X : Type 0} (p : X → Bool) (xs : List X) (n : ℕ) (x : X) → list_all p xs ≡ true → slice_get xs n ≡ Some x → p x ≡ true
all-at p [] n x h e = cc
all-at p (y ∷ ys) zero x h e = let same : y ≡ x = cc in subst (λ z. p z ≡ true) same (and-first (p y) (list_all p ys) h)
all-at p (y ∷ ys) (suc n) x h e = all-at p ys n x (and-second (p y) (list_all p ys) h) e

-- ---- loops

pub record IsWithin (blocks : ℕ) (l : SrcLoop) : Type 0 where
  pub some : 0 < l.head
  pub order : l.head < l.exit
  pub within : l.exit < blocks

-- the second has the greater head, and is apart from the first or inside it
pub record AreApart (l m : SrcLoop) : Type 0 where
  pub below : l.head < m.head
  pub apart : (l.exit ≤ m.head) ⊎ (m.exit < l.exit)

within-of : (blocks : ℕ) (l : SrcLoop) → loop_is_within blocks l ≡ true → IsWithin blocks l
within-of blocks l h =
    let p = and-first (nat_lt 0 l.head) _ h in
    let q = and-second (nat_lt 0 l.head) _ h in
    let r = and-first (nat_lt l.head l.exit) _ q in
    let s = and-second (nat_lt l.head l.exit) _ q in
    record { some = grind (arith, nat_tests); order = grind (arith, nat_tests); within = grind (arith, nat_tests) }

apart-of : (l m : SrcLoop) → is_apart_or_inside l m ≡ true → AreApart l m
apart-of l m h =
    let p = and-first (nat_lt l.head m.head) _ h in
    record { below = grind (arith, nat_tests); apart = by (or-either (nat_le l.exit m.head) (nat_lt m.exit l.exit) (and-second (nat_lt l.head m.head) _ h)) }
  where
    by : (nat_le l.exit m.head ≡ true) ⊎ (nat_lt m.exit l.exit ≡ true) → (l.exit ≤ m.head) ⊎ (m.exit < l.exit)
    by (inl s) = let t : l.exit ≤ m.head = grind (arith, nat_tests) in inl t
    by (inr s) = let t : m.exit < l.exit = grind (arith, nat_tests) in inr t

all-within : (blocks : ℕ) (ls : List SrcLoop) → list_all (loop_is_within blocks) ls ≡ true → All (IsWithin blocks) ls
all-within blocks [] h = All-nil (IsWithin blocks)
all-within blocks (l ∷ ls) h = All-cons (IsWithin blocks) l ls (within-of blocks l (and-first (loop_is_within blocks l) (list_all (loop_is_within blocks) ls) h)) (all-within blocks ls (and-second (loop_is_within blocks l) (list_all (loop_is_within blocks) ls) h))

all-apart : (l : SrcLoop) (ms : List SrcLoop) → list_all (is_apart_or_inside l) ms ≡ true → All (AreApart l) ms
all-apart l [] h = All-nil (AreApart l)
all-apart l (m ∷ ms) h = All-cons (AreApart l) m ms (apart-of l m (and-first (is_apart_or_inside l m) (list_all (is_apart_or_inside l) ms) h)) (all-apart l ms (and-second (is_apart_or_inside l m) (list_all (is_apart_or_inside l) ms) h))

pairs-apart : (ls : List SrcLoop) → are_nested ls ≡ true → AllPairs AreApart ls
pairs-apart [] h = λ i j d lt within. absurd (omega arith)
pairs-apart (l ∷ ls) h = AllPairs-cons AreApart l ls (all-apart l ls (and-first (list_all (is_apart_or_inside l) ls) (are_nested ls) h)) (pairs-apart ls (and-second (list_all (is_apart_or_inside l) ls) (are_nested ls) h))

pub record LoopsFit (blocks : ℕ) (loops : List SrcLoop) : Type 0 where
  pub within : All (IsWithin blocks) loops
  pub apart : AllPairs AreApart loops

pub loops-fit : (proc : SrcProc) → loops_fit proc ≡ true → LoopsFit (length proc.blocks) proc.loops
loops-fit proc h = record {
  within = all-within (length proc.blocks) proc.loops (and-first (list_all (loop_is_within (length proc.blocks)) proc.loops) (are_nested proc.loops) h);
  apart = pairs-apart proc.loops (and-second (list_all (loop_is_within (length proc.blocks)) proc.loops) (are_nested proc.loops) h);
}

-- ---- procedures of a program

proc-fits : (prog : Program) (n : ℕ) (proc : SrcProc) → is_program prog ≡ true → slice_get prog.procs n ≡ Some proc → is_procedure prog proc ≡ true
proc-fits prog n proc h e =
    let rest = and-second (names_fit prog.consts && (names_fit prog.globals && ascend_from 0 (length prog.consts) prog.uniques)) _ h in
    let procs = and-second (are_numbered (length prog.procs)) _ (and-second (list_all (is_condition (constant_scope prog)) prog.axioms) _ rest) in
    all-at (is_procedure prog) prog.procs n proc procs e

proc-sizes : (prog : Program) (proc : SrcProc) → is_procedure prog proc ≡ true → (nat_lt 0 (length proc.blocks) && are_numbered (length proc.blocks)) ≡ true
proc-sizes prog proc h =
    and-second (are_numbered (length (locals_of proc))) _
    (and-first (are_numbered (length (locals_of proc)) && (nat_lt 0 (length proc.blocks) && are_numbered (length proc.blocks))) _
    (and-second (names_fit proc.ins && (names_fit proc.outs && names_fit proc.locals)) _ h))

proc-shape : (prog : Program) (proc : SrcProc) → is_procedure prog proc ≡ true → (loops_fit proc && blocks_fit prog.procs (scope_of prog proc) proc.loops (length proc.blocks) 0 proc.blocks) ≡ true
proc-shape prog proc h =
    and-second (are_numbered (length (locals_of proc)) && (nat_lt 0 (length proc.blocks) && are_numbered (length proc.blocks))) _
    (and-second (names_fit proc.ins && (names_fit proc.outs && names_fit proc.locals)) _ h)

block-at : (procs : List SrcProc) (scope : Scope) (loops : List SrcLoop) (count number : ℕ) (blocks : List SrcBlock) (n : ℕ) (block : SrcBlock) → blocks_fit procs scope loops count number blocks ≡ true → slice_get blocks n ≡ Some block
    → block_fits procs scope loops count (number + n) block ≡ true
block-at procs scope loops count number [] n block h e = cc
block-at procs scope loops count number (b ∷ bs) zero block h e =
    let same : b ≡ block = cc in
    let here : number + 0 ≡ number = omega arith in
    rw (here, ← same) (and-first (block_fits procs scope loops count number b) _ h)
block-at procs scope loops count number (b ∷ bs) (suc n) block h e =
    let there : number + suc n ≡ number + 1 + n = omega arith in
    rw there (block-at procs scope loops count (number + 1) bs n block (and-second (block_fits procs scope loops count number b) _ h) e)

next-fits : (prog : Program) (n : ℕ) (proc : SrcProc) (block : SrcBlock) → is_procedure prog proc ≡ true → slice_get proc.blocks n ≡ Some block → next_fits proc.loops (length proc.blocks) n block.next ≡ true
next-fits prog n proc block h f =
    let fit = and-second (loops_fit proc) _ (proc-shape prog proc h) in
    let one = block-at prog.procs (scope_of prog proc) proc.loops (length proc.blocks) 0 proc.blocks n block fit f in
    let zero_n : 0 + n ≡ n = omega arith in
    and-second (list_all (cmd_fits prog.procs (scope_of prog proc)) block.cmds) _ (rw zero_n at one)

-- What an edge keeps: it leads to a greater block or to the head of a loop that holds the block, and a loop that holds the target but not the
-- block has the target as its head.
pub record Edge (loops : List SrcLoop) (blocks from to : ℕ) : Type 0 where
  pub within : to < blocks
  pub way : (from < to) ⊎ ((l : SrcLoop) × Contains loops l × (l.head ≡ to) × (holds_block l from ≡ true))
  pub enters : (l : SrcLoop) → Contains loops l → holds_block l to ≡ true → (holds_block l from ≡ true) ⊎ (l.head ≡ to)

tail-contains : {X : Type 0} (y : X) (xs : List X) (x : X) → Contains xs x → Contains (y ∷ xs) x
tail-contains y xs x h = Contains-append_right (y ∷ []) xs x h

back-to : (loops : List SrcLoop) (from to : ℕ) → goes_back loops from to ≡ true → (l : SrcLoop) × Contains loops l × (l.head ≡ to) × (holds_block l from ≡ true)
back-to [] from to h = cc
back-to (l ∷ ls) from to h = by (λ k. back-to ls from to k) (or-either (nat_eq l.head to && holds_block l from) (goes_back ls from to) h)
  where
    by : (goes_back ls from to ≡ true → (m : SrcLoop) × Contains ls m × (m.head ≡ to) × (holds_block m from ≡ true)) → ((nat_eq l.head to && holds_block l from) ≡ true) ⊎ (goes_back ls from to ≡ true)
        → (m : SrcLoop) × Contains (l ∷ ls) m × (m.head ≡ to) × (holds_block m from ≡ true)
    by rec (inl s) =
        let p = and-first (nat_eq l.head to) _ s in
        let same : l.head ≡ to = grind (arith, nat_tests) in
        (l, (0, omega arith, refl), same, and-second (nat_eq l.head to) _ s)
    by rec (inr s) = let r = rec s in (r.0, tail-contains l ls r.0 r.1, r.2, r.3)

enters-of : (from to : ℕ) (l : SrcLoop) → enters_at_head from to l ≡ true → holds_block l to ≡ true → (holds_block l from ≡ true) ⊎ (l.head ≡ to)
enters-of from to l h inside = by (or-either (not (holds_block l to)) (holds_block l from || nat_eq l.head to) h)
  where
    last : (holds_block l from ≡ true) ⊎ (nat_eq l.head to ≡ true) → (holds_block l from ≡ true) ⊎ (l.head ≡ to)
    last (inl s) = inl s
    last (inr s) = let same : l.head ≡ to = grind (arith, nat_tests) in inr same

    by : (not (holds_block l to) ≡ true) ⊎ ((holds_block l from || nat_eq l.head to) ≡ true) → (holds_block l from ≡ true) ⊎ (l.head ≡ to)
    by (inl s) = absurd (true≢false (sym s ∙ ap not inside))
    by (inr s) = last (or-either (holds_block l from) (nat_eq l.head to) s)

edge-of : (loops : List SrcLoop) (blocks from to : ℕ) → target_fits loops blocks from to ≡ true → Edge loops blocks from to
edge-of loops blocks from to h =
    let p = and-first (nat_lt to blocks) _ h in
    let q = and-second (nat_lt to blocks) _ h in
    let enter = all-of (enters_at_head from to) loops (and-second (nat_lt from to || goes_back loops from to) _ q) in
    record {
      within = grind (arith, nat_tests);
      way = by (or-either (nat_lt from to) (goes_back loops from to) (and-first (nat_lt from to || goes_back loops from to) _ q));
      enters = λ l among inside. enters-of from to l (All-contains (λ m. enters_at_head from to m ≡ true) loops l enter among) inside;
    }
  where
    by : (nat_lt from to ≡ true) ⊎ (goes_back loops from to ≡ true) → (from < to) ⊎ ((l : SrcLoop) × Contains loops l × (l.head ≡ to) × (holds_block l from ≡ true))
    by (inl s) = let t : from < to = grind (arith, nat_tests) in inl t
    by (inr s) = inr (back-to loops from to s)

next-edge : (loops : List SrcLoop) (blocks from to : ℕ) (next : Next) → next_fits loops blocks from next ≡ true → Contains (targets_of next) to → Edge loops blocks from to
next-edge loops blocks from to Return h there = let lt = there.1 in absurd (omega arith)
next-edge loops blocks from to (Goto ts) h there =
    edge-of loops blocks from to (All-contains (λ t. target_fits loops blocks from t ≡ true) ts to (all-of (target_fits loops blocks from) ts (and-second (nat_lt 0 (length ts)) _ h)) there)

edge-fits : (prog : Program) (proc : SrcProc) (from to : ℕ) (o : Option SrcBlock) → is_procedure prog proc ≡ true → slice_get proc.blocks from ≡ o → Contains (targets_from o) to → Edge proc.loops (length proc.blocks) from to
edge-fits prog proc from to None h e there = let lt = there.1 in absurd (omega arith)
edge-fits prog proc from to (Some block) h e there = next-edge proc.loops (length proc.blocks) from to block.next (next-fits prog from proc block h e) there

-- what is used of a procedure of a program
pub record ProcFits (proc : SrcProc) : Type 0 where
  pub some : 0 < length proc.blocks
  pub numbered : length proc.blocks < 2 ^ 32
  pub loops : loops_fit proc ≡ true
  pub edges : (from to : ℕ) → Contains (targets proc.blocks from) to → Edge proc.loops (length proc.blocks) from to

pub proc-of : (prog : Program) (n : ℕ) (proc : SrcProc) → is_program prog ≡ true → slice_get prog.procs n ≡ Some proc → ProcFits proc
proc-of prog n proc h e =
    let fit = proc-fits prog n proc h e in
    let sizes = proc-sizes prog proc fit in
    let p = and-first (nat_lt 0 (length proc.blocks)) _ sizes in
    let q = and-second (nat_lt 0 (length proc.blocks)) _ sizes in
    record {
      some = grind (arith, nat_tests);
      numbered = grind (arith, nat_tests);
      loops = and-first (loops_fit proc) _ (proc-shape prog proc fit);
      edges = λ from to there. edge-fits prog proc from to (slice_get proc.blocks from) fit refl there;
    }

pub closed-of : (proc : SrcProc) → ProcFits proc → IsClosed proc.blocks
closed-of proc fits = λ from to there. (fits.edges from to there).within

pub ascend-of : (proc : SrcProc) (ls : List SrcLoop) → loops_fit proc ≡ true → ls ≡ proc.loops → AllPairs (λ l m. l.head ≤ m.head) ls
ascend-of proc ls h e = subst (AllPairs (λ l m. l.head ≤ m.head)) (sym e) (λ i j d lt within. let b = ((loops-fit proc h).apart i j d lt within).below in omega arith)

pub proc-at : (prog : Program) (n : ℕ) (procs : List SrcProc) (proc : SrcProc) → procs ≡ prog.procs → n < length prog.procs → proc ≡ get_or procs n proc → slice_get prog.procs n ≡ Some proc
proc-at prog n procs proc e within is = slice_get_read prog.procs (length prog.procs) n proc refl within (is ∙ ap (λ (ps : List SrcProc). get_or ps n proc) e)
