-- What extraction keeps of a source procedure.
use Rattle.std.specs.Prelude.{◌≡◌, ◌<◌, ◌+◌, ◌||◌, ℕ, min, Bool, false, List, [], ◌∷◌, length, map, take, filter, slice_get, slice_index_or, Some, if◌then◌else◌}
use Rattle.src_prog.specs.Loops.{holds_block}
use Rattle.src_prog.specs.Program.{Program}
use Rattle.src_prog.specs.Scope.{locals_of}
use Rattle.src_prog.specs.declared.proc.SrcLoop.{SrcLoop}
use Rattle.src_prog.specs.declared.proc.SrcProc.{SrcProc}
use Rattle.extract_def.specs.Exits.{exits_of}
use Rattle.extract_def.specs.Extraction.{loops_count}
use Rattle.extract_def.specs.Places.{pass_count, exits_in}
use Rattle.extract_def.specs.Scopes.{reached_blocks, reached_loops, scope_of, same_scope, is_head_of}
use Rattle.extract_def.specs.declared.scope.Scope.{Scope}
use Rattle.extract_def.specs.declared.scope.Scope.TheVariants.{Whole, In}
use Rattle.loop_extract.specs.Flags.{ups}
use Rattle.loop_extract.specs.Heads.{head_of}
use Rattle.loop_extract.specs.declared.plan.Plan.{Plan}
use Rattle.loop_extract.specs.declared.inner.Inner.{Inner}
use Rattle.loop_extract.specs.declared.region.Region.{Region}
use Rattle.loop_extract.specs.declared.scopes.Head.{Head}

-- this is kept of a procedure of the program
pub record IsPlan (prog : Program) (proc : SrcProc) (plan : Plan) : Type 0 where
  pub is_proc : slice_get prog.procs plan.proc ≡ Some proc
  pub base : plan.base ≡ length prog.procs + loops_count (take plan.proc prog.procs)
  pub reached : ups 0 plan.up ≡ reached_blocks proc
  pub size : length plan.up ≡ length proc.blocks
  pub long : length plan.scopes ≡ length plan.up
  pub scopes : (n : ℕ) → n < length plan.up → slice_index_or plan.scopes n Whole ≡ scope_of proc.loops n
  pub heads : plan.heads ≡ map (head_of proc.loops) (reached_loops proc)
  pub sorts : plan.sorts ≡ locals_of proc

-- ---- walks over what is kept

-- the loops of which this is the scope directly around
abbrev pub spans_in : Scope → List Head → List SrcLoop
spans_in scope heads = map (λ h. h.span) (filter (λ (h : Head). same_scope h.around scope) heads)

-- the block stands in the scope, or is the head of one of the loops
abbrev pub stays : List Scope → Scope → List SrcLoop → ℕ → Bool
stays scopes scope spans block = same_scope (slice_index_or scopes block Whole) scope || is_head_of spans block

-- the loops directly inside a scope, where the first of these has this number, and the blocks for its exits stand from here on
abbrev pub inners_from : SrcProc → Scope → (number first : ℕ) → List Head → List Inner
inners_from proc scope number first [] = []
inners_from proc scope number first (h ∷ hs) =
    if same_scope h.around scope
    then record { span = h.span; number = number; first = first; exits = exits_of proc h.span } ∷ inners_from proc scope (number + 1) (first + pass_count (exits_of proc h.span)) hs
    else inners_from proc scope (number + 1) first hs

-- how many blocks there are for the exits of these loops
abbrev pub passes_in : List Inner → ℕ
passes_in [] = 0
passes_in (i ∷ is) = pass_count i.exits + passes_in is

-- how much further behind the variables stand, of which there are so many
abbrev pub moved_in : Scope → ℕ → ℕ
moved_in Whole count = 0
moved_in (In head exit) count = count

-- the blocks that a scope keeps
abbrev pub kept_in : Plan → Scope → List ℕ
kept_in plan scope = filter (stays plan.scopes scope (spans_in scope plan.heads)) (ups 0 plan.up)

-- the loops directly inside a scope
abbrev pub inside_in : SrcProc → Plan → Scope → List Inner
inside_in proc plan scope = inners_from proc scope plan.base (length (kept_in plan scope)) plan.heads

-- where the blocks of a scope begin
abbrev pub first_of : Scope → ℕ
first_of Whole = 0
first_of (In head exit) = head

-- where they end, among so many
abbrev pub end_of : Scope → ℕ → ℕ
end_of Whole count = count
end_of (In head exit) count = min exit count

-- a loop keeps none but blocks that it holds
abbrev pub OnlyWithin : Plan → Scope → Type 0
OnlyWithin plan Whole = Unit {0}
OnlyWithin plan (In head exit) = (b : ℕ) → holds_block (record { head = head; exit = exit }) b ≡ false → stays plan.scopes (In head exit) (spans_in (In head exit) plan.heads) b ≡ false

-- what is kept of a scope, from what is kept of the procedure
abbrev pub region_from : SrcProc → Plan → Scope → (number : ℕ) → Region
region_from proc plan scope number =
    record {
      proc = plan.proc;
      number = number;
      scope = scope;
      by = moved_in scope (length plan.sorts);
      local = moved_in scope (length plan.sorts) + length plan.sorts;
      sorts = plan.sorts;
      kept = kept_in plan scope;
      inside = inside_in proc plan scope;
      exits = exits_in proc scope;
      leave = length (kept_in plan scope) + passes_in (inside_in proc plan scope);
      again = length (kept_in plan scope) + passes_in (inside_in proc plan scope) + length (exits_in proc scope);
    }
