-- The scopes of a source procedure, each of which becomes a flat procedure: the whole procedure, and each of its loops.
use Rattle.std.specs.Prelude.{ℕ, ◌+◌, nat_eq, Bool, true, false, not, ◌&&◌, ◌||◌, List, [], ◌∷◌, ◌++◌, filter, if◌then◌else◌}
use Rattle.std.specs.List.{list_any}
use Rattle.src_prog.specs.Loops.{holds_block}
use Rattle.src_prog.specs.declared.block.Next.{Next}
use Rattle.src_prog.specs.declared.block.Next.TheVariants.{Goto, Return}
use Rattle.src_prog.specs.declared.block.SrcBlock.{SrcBlock}
use Rattle.src_prog.specs.declared.proc.SrcLoop.{SrcLoop}
use Rattle.src_prog.specs.declared.proc.SrcProc.{SrcProc}
use Rattle.src_run.specs.Machine.{Way, entry_of, way}
pub use Rattle.extract_def.specs.declared.scope.Scope.{Scope}
pub use Rattle.extract_def.specs.declared.scope.Scope.TheVariants.{Whole, In}

-- ---- reached blocks

-- the number is one of these
abbrev pub is_in : ℕ → List ℕ → Bool
is_in n ns = list_any (λ m. nat_eq m n) ns

-- the blocks to which the end of a block leads
abbrev pub targets_of : Next → List ℕ
targets_of (Goto targets) = targets
targets_of Return = []

-- Those of the blocks, numbered from a number on, that are targets of these or of reached blocks before them. An edge back leads to a block that is
-- reached before the block it comes from, so these are all.
abbrev pub reached_from : ℕ → List SrcBlock → (targets : List ℕ) → List ℕ
reached_from number [] targets = []
reached_from number (b ∷ bs) targets =
    if is_in number targets then number ∷ reached_from (number + 1) bs (targets ++ targets_of b.next) else reached_from (number + 1) bs targets

-- the reached blocks, ascending
abbrev pub reached_blocks : SrcProc → List ℕ
reached_blocks proc = reached_from 0 proc.blocks (0 ∷ [])

-- the loops whose head is reached, by head
abbrev pub reached_loops : SrcProc → List SrcLoop
reached_loops proc = filter (λ l. is_in l.head (reached_blocks proc)) proc.loops

-- ---- scopes

-- the scopes are one
abbrev pub same_scope : Scope → Scope → Bool
same_scope Whole Whole = true
same_scope Whole (In head exit) = false
same_scope (In head exit) Whole = false
same_scope (In head exit) (In other end) = nat_eq head other && nat_eq exit end

-- the innermost of those loops, which ascend by head, that pass a test by which they lie in one another, else this scope
abbrev pub innermost : (SrcLoop → Bool) → Scope → List SrcLoop → Scope
innermost test scope [] = scope
innermost test scope (l ∷ ls) = innermost test (if test l then In l.head l.exit else scope) ls

-- the scope of a block: the innermost loop that holds it
abbrev pub scope_of : List SrcLoop → ℕ → Scope
scope_of loops block = innermost (λ l. holds_block l block) Whole loops

-- the scope directly around the loop of a head: the innermost other loop that holds the head
abbrev pub scope_around : List SrcLoop → ℕ → Scope
scope_around loops head = innermost (λ l. holds_block l head && not (nat_eq l.head head)) Whole loops

-- the loops directly inside a scope, by head
abbrev pub loops_inside : SrcProc → Scope → List SrcLoop
loops_inside proc scope = filter (λ l. same_scope (scope_around proc.loops l.head) scope) (reached_loops proc)

-- the block is the head of one of these loops
abbrev pub is_head_of : List SrcLoop → ℕ → Bool
is_head_of loops block = list_any (λ l. nat_eq l.head block) loops

-- the blocks that a scope keeps: those in no loop directly inside, and the heads of these
abbrev pub is_kept : SrcProc → Scope → ℕ → Bool
is_kept proc scope block = same_scope (scope_of proc.loops block) scope || is_head_of (loops_inside proc scope) block

-- those that a scope keeps, ascending; the scope's own first block is the first
abbrev pub kept_blocks : SrcProc → Scope → List ℕ
kept_blocks proc scope = filter (is_kept proc scope) (reached_blocks proc)

-- where an edge to a block leads, seen from a scope
abbrev pub way_from : List SrcLoop → Scope → ℕ → Way
way_from loops Whole to = entry_of loops to
way_from loops (In head exit) to = way loops (record { head = head; exit = exit; count = 0 }) to
