-- What is kept of a scope is what the definitions say.
use Rattle.std.proofs.Common.{◌≡◌, ℕ, zero, suc, ◌+◌, ◌<◌, Bool, true, false, not, ◌||◌, ◌&&◌, nat_eq, nat_lt, List, [], ◌∷◌, ◌++◌, length, map, take, filter, get_or, slice_get, Option, Some, if◌then◌else◌, refl, sym, ap, ◌∙◌, subst, arith}
use Rattle.std.proofs.Common.{◌⊎◌, ◌≤◌, inl, inr}
use Rattle.std.specs.List.{list_all}
use Rattle.std.proofs.lemmas.List.{append_assoc, append-nil, length-append, get_or_past}
use Rattle.std.proofs.lemmas.List.Elements.{filter-append}
use Rattle.std.proofs.lemmas.Bool.{eqb-true, eq-eqb, ltb-true, cases_lt}
use Rattle.hy_val.specs.declared.sort.Sort.{Sort}
use Rattle.src_prog.specs.Loops.{are_nested, is_apart_or_inside, holds_block}
use Rattle.src_prog.specs.Program.{Program}
use Rattle.src_prog.specs.Scope.{locals_of}
use Rattle.hy_val.specs.Scope.{is_condition}
use Rattle.src_prog.specs.Shape.{is_program, is_procedure, loops_fit, names_fit, constant_scope}
use Rattle.hy_val.specs.Scope.{ascend_from, are_numbered}
use Rattle.src_prog.specs.declared.proc.SrcLoop.{SrcLoop}
use Rattle.src_prog.specs.declared.proc.SrcProc.{SrcProc}
use Rattle.extract_def.specs.Exits.{exits_of}
use Rattle.extract_def.specs.Extraction.{number_of, loops_count, heads_at}
use Rattle.extract_def.specs.Places.{index_of, exits_in, pass_count, pass_place, passes_before, passes_of, moved_by, exit_local, leave_place, again_place}
use Rattle.extract_def.specs.Scopes.{reached_blocks, reached_loops, loops_inside, kept_blocks, is_kept, is_head_of, is_in, same_scope, scope_of, scope_around, innermost}
use Rattle.extract_def.specs.declared.scope.Scope.{Scope}
use Rattle.extract_def.specs.declared.scope.Scope.TheVariants.{Whole, In}
use Rattle.extract_def.specs.declared.edge.Edge.{Edge}
use Rattle.loop_extract.specs.Flags.{ups}
use Rattle.loop_extract.specs.Heads.{head_of, is_up}
use Rattle.loop_extract.specs.Plans.{IsPlan, spans_in, stays, inners_from, passes_in, moved_in, kept_in, inside_in, region_from, OnlyWithin}
use Rattle.loop_extract.specs.Regions.{region_of, inner_of}
use Rattle.loop_extract.specs.declared.plan.Plan.{Plan}
use Rattle.loop_extract.specs.declared.inner.Inner.{Inner}
use Rattle.loop_extract.specs.declared.region.Region.{Region}
use Rattle.loop_extract.specs.declared.scopes.Head.{Head}
use Rattle.hy_val.proofs.Booleans.{and-first, and-second}

-- ---- loops that ascend

both : (a b : Bool) → a ≡ true → b ≡ true → (a && b) ≡ true
both true b e h = h
both false b e h = absurd cc

all_filter : {A : Type 0} (q t : A → Bool) (xs : List A) → list_all q xs ≡ true → list_all q (filter t xs) ≡ true
all_filter q t [] h = refl
all_filter q t (x ∷ xs) h = pick (t x) (and-first (q x) (list_all q xs) h) (all_filter q t xs (and-second (q x) (list_all q xs) h))
  where
    pick : (b : Bool) → q x ≡ true → list_all q (filter t xs) ≡ true → list_all q (if b then x ∷ filter t xs else filter t xs) ≡ true
    pick true a r = both (q x) (list_all q (filter t xs)) a r
    pick false a r = r

pub nested_filter : (t : SrcLoop → Bool) (ls : List SrcLoop) → are_nested ls ≡ true → are_nested (filter t ls) ≡ true
nested_filter t [] h = refl
nested_filter t (l ∷ ls) h =
    pick (t l) (all_filter (is_apart_or_inside l) t ls (and-first (list_all (is_apart_or_inside l) ls) (are_nested ls) h)) (nested_filter t ls (and-second (list_all (is_apart_or_inside l) ls) (are_nested ls) h))
  where
    pick : (b : Bool) → list_all (is_apart_or_inside l) (filter t ls) ≡ true → are_nested (filter t ls) ≡ true → are_nested (if b then l ∷ filter t ls else filter t ls) ≡ true
    pick true a r = both (list_all (is_apart_or_inside l) (filter t ls)) (are_nested (filter t ls)) a r
    pick false a r = r

-- the loops have lesser heads than this one
abbrev pub lesser : SrcLoop → List SrcLoop → Bool
lesser l ms = list_all (λ m. nat_lt m.head l.head) ms

all_at : {A : Type 0} (q : A → Bool) (xs : List A) (y : A) (ys : List A) → list_all q (xs ++ y ∷ ys) ≡ true → q y ≡ true
all_at q [] y ys h = and-first (q y) (list_all q ys) h
all_at q (x ∷ xs) y ys h = all_at q xs y ys (and-second (q x) (list_all q (xs ++ y ∷ ys)) h)

pub lesser_of : (xs : List SrcLoop) (l : SrcLoop) (ys : List SrcLoop) → are_nested (xs ++ l ∷ ys) ≡ true → lesser l xs ≡ true
lesser_of [] l ys h = refl
lesser_of (m ∷ xs) l ys h =
    both (nat_lt m.head l.head) (lesser l xs)
    (and-first (nat_lt m.head l.head) _ (all_at (is_apart_or_inside m) xs l ys (and-first (list_all (is_apart_or_inside m) (xs ++ l ∷ ys)) (are_nested (xs ++ l ∷ ys)) h)))
    (lesser_of xs l ys (and-second (list_all (is_apart_or_inside m) (xs ++ l ∷ ys)) (are_nested (xs ++ l ∷ ys)) h))

not_eq : (a b : ℕ) → nat_lt a b ≡ true → nat_eq a b ≡ false
not_eq a b lt = by (nat_eq a b) refl
  where
    by : (t : Bool) → nat_eq a b ≡ t → nat_eq a b ≡ false
    by true e = absurd (omega (arith, ltb-true a b lt, eqb-true a b e))
    by false e = e

pub index_in : (l : SrcLoop) (xs ys : List SrcLoop) → lesser l xs ≡ true → index_of l.head (map (λ m. m.head) (xs ++ l ∷ ys)) ≡ length xs
index_in l [] ys h = ap (λ (b : Bool). if b then 0 else index_of l.head (map (λ m. m.head) ys) + 1) (eq-eqb l.head l.head refl)
index_in l (m ∷ xs) ys h =
    let rest = index_in l xs ys (and-second (nat_lt m.head l.head) (lesser l xs) h) in
    let z : length xs + 1 ≡ suc (length xs) = omega arith in
    ap (λ (b : Bool). if b then 0 else index_of l.head (map (λ m. m.head) (xs ++ l ∷ ys)) + 1) (not_eq m.head l.head (and-first (nat_lt m.head l.head) (lesser l xs) h)) ∙ ap (λ n. n + 1) rest ∙ z

before_in : (proc : SrcProc) (l : SrcLoop) (xs ys : List SrcLoop) → lesser l xs ≡ true → passes_before proc l.head (xs ++ l ∷ ys) ≡ passes_of proc xs
before_in proc l [] ys h = ap (λ (b : Bool). if b then 0 else pass_count (exits_of proc l) + passes_before proc l.head ys) (eq-eqb l.head l.head refl)
before_in proc l (m ∷ xs) ys h =
    ap (λ (b : Bool). if b then 0 else pass_count (exits_of proc m) + passes_before proc l.head (xs ++ l ∷ ys)) (not_eq m.head l.head (and-first (nat_lt m.head l.head) (lesser l xs) h))
    ∙ ap (λ n. pass_count (exits_of proc m) + n) (before_in proc l xs ys (and-second (nat_lt m.head l.head) (lesser l xs) h))

passes_more : (proc : SrcProc) (xs : List SrcLoop) (l : SrcLoop) → passes_of proc (xs ++ l ∷ []) ≡ passes_of proc xs + pass_count (exits_of proc l)
passes_more proc [] l = omega arith
passes_more proc (m ∷ xs) l = let r = passes_more proc xs l in omega (arith, r)

-- ---- the loops directly inside

spans_same : (loops : List SrcLoop) (scope : Scope) (ls : List SrcLoop) → spans_in scope (map (head_of loops) ls) ≡ filter (λ l. same_scope (scope_around loops l.head) scope) ls
spans_same loops scope [] = refl
spans_same loops scope (l ∷ ls) = pick (same_scope (scope_around loops l.head) scope) (spans_same loops scope ls)
  where
    pick : (b : Bool) → spans_in scope (map (head_of loops) ls) ≡ filter (λ l. same_scope (scope_around loops l.head) scope) ls
        → map (λ h. h.span) (if b then head_of loops l ∷ filter (λ (h : Head). same_scope h.around scope) (map (head_of loops) ls) else filter (λ (h : Head). same_scope h.around scope) (map (head_of loops) ls))
        ≡ (if b then l ∷ filter (λ l. same_scope (scope_around loops l.head) scope) ls else filter (λ l. same_scope (scope_around loops l.head) scope) ls)
    pick true h = ap (λ ms. l ∷ ms) h
    pick false h = h

-- the loops before the next one, of which so many blocks stand for their exits
pub record Passed (prog : Program) (p : ℕ) (proc : SrcProc) (scope : Scope) (xs ys : List SrcLoop) (number first : ℕ) : Type 0 where
  all : reached_loops proc ≡ xs ++ ys
  number_is : number ≡ length prog.procs + (loops_count (take p prog.procs) + length xs)
  first_is : first ≡ length (kept_blocks proc scope) + passes_of proc (filter (λ l. same_scope (scope_around proc.loops l.head) scope) xs)

inside_more : (loops : List SrcLoop) (scope : Scope) (xs : List SrcLoop) (l : SrcLoop) (ys : List SrcLoop) (b : Bool) → same_scope (scope_around loops l.head) scope ≡ b
    → filter (λ m. same_scope (scope_around loops m.head) scope) (xs ++ l ∷ ys)
    ≡ filter (λ m. same_scope (scope_around loops m.head) scope) xs ++ (if b then l ∷ filter (λ m. same_scope (scope_around loops m.head) scope) ys else filter (λ m. same_scope (scope_around loops m.head) scope) ys)
inside_more loops scope xs l ys b e =
    filter-append (λ m. same_scope (scope_around loops m.head) scope) xs (l ∷ ys)
    ∙ ap (λ (t : Bool). filter (λ m. same_scope (scope_around loops m.head) scope) xs ++ (if t then l ∷ filter (λ m. same_scope (scope_around loops m.head) scope) ys else filter (λ m. same_scope (scope_around loops m.head) scope) ys)) e

inners_same : (prog : Program) (p : ℕ) (proc : SrcProc) (scope : Scope) (xs ys : List SrcLoop) (number first : ℕ) → slice_get prog.procs p ≡ Some proc → are_nested (reached_loops proc) ≡ true
    → Passed prog p proc scope xs ys number first
    → inners_from proc scope number first (map (head_of proc.loops) ys) ≡ map (inner_of prog p proc scope) (filter (λ l. same_scope (scope_around proc.loops l.head) scope) ys)
inners_same prog p proc scope xs [] number first is nested at = refl
inners_same prog p proc scope xs (l ∷ ys) number first is nested at =
    let long : number + 1 ≡ length prog.procs + (loops_count (take p prog.procs) + length (xs ++ l ∷ [])) = omega (arith, at.number_is, length-append xs (l ∷ [])) in
    pick (same_scope (scope_around proc.loops l.head) scope) refl
    (λ f e. inners_same prog p proc scope (xs ++ l ∷ []) ys (number + 1) f is nested (record { all = at.all ∙ sym (append_assoc xs (l ∷ []) ys); number_is = long; first_is = e }))
  where
    less : lesser l xs ≡ true
    less = lesser_of xs l ys (subst (λ ls. are_nested ls ≡ true) at.all nested)

    number_same : number ≡ number_of prog p (In l.head l.exit)
    number_same =
        at.number_is
        ∙ ap (λ n. length prog.procs + (loops_count (take p prog.procs) + n))
        (sym (ap (λ (o : Option SrcProc). index_of l.head (heads_at o)) is ∙ ap (λ ls. index_of l.head (map (λ (m : SrcLoop). m.head) ls)) at.all ∙ index_in l xs ys less))

    first_same : same_scope (scope_around proc.loops l.head) scope ≡ true → first ≡ pass_place proc scope l.head 0
    first_same e =
        let before : passes_before proc l.head (loops_inside proc scope) ≡ passes_of proc (filter (λ m. same_scope (scope_around proc.loops m.head) scope) xs) =
        ap (λ ls. passes_before proc l.head (filter (λ m. same_scope (scope_around proc.loops m.head) scope) ls)) at.all
        ∙ ap (passes_before proc l.head) (inside_more proc.loops scope xs l ys true e)
        ∙ before_in proc l (filter (λ m. same_scope (scope_around proc.loops m.head) scope) xs) (filter (λ m. same_scope (scope_around proc.loops m.head) scope) ys)
        (all_filter (λ m. nat_lt m.head l.head) (λ m. same_scope (scope_around proc.loops m.head) scope) xs less) in
        omega (arith, at.first_is, before)

    next_same : same_scope (scope_around proc.loops l.head) scope ≡ true → first + pass_count (exits_of proc l) ≡ length (kept_blocks proc scope) + passes_of proc (filter (λ m. same_scope (scope_around proc.loops m.head) scope) (xs ++ l ∷ []))
    next_same e =
        let more : passes_of proc (filter (λ m. same_scope (scope_around proc.loops m.head) scope) (xs ++ l ∷ [])) ≡ passes_of proc (filter (λ m. same_scope (scope_around proc.loops m.head) scope) xs) + pass_count (exits_of proc l) =
        ap (passes_of proc) (inside_more proc.loops scope xs l [] true e) ∙ passes_more proc (filter (λ m. same_scope (scope_around proc.loops m.head) scope) xs) l in
        omega (arith, at.first_is, more)

    still_same : same_scope (scope_around proc.loops l.head) scope ≡ false → first ≡ length (kept_blocks proc scope) + passes_of proc (filter (λ m. same_scope (scope_around proc.loops m.head) scope) (xs ++ l ∷ []))
    still_same e =
        at.first_is
        ∙ ap (λ ls. length (kept_blocks proc scope) + passes_of proc ls) (sym (inside_more proc.loops scope xs l [] false e ∙ append-nil (filter (λ m. same_scope (scope_around proc.loops m.head) scope) xs)))

    done : (b : Bool) → same_scope (scope_around proc.loops l.head) scope ≡ b
        → ((f : ℕ) → f ≡ length (kept_blocks proc scope) + passes_of proc (filter (λ m. same_scope (scope_around proc.loops m.head) scope) (xs ++ l ∷ []))
        → inners_from proc scope (number + 1) f (map (head_of proc.loops) ys) ≡ map (inner_of prog p proc scope) (filter (λ m. same_scope (scope_around proc.loops m.head) scope) ys))
        → (if b then record { span = l; number = number; first = first; exits = exits_of proc l } ∷ inners_from proc scope (number + 1) (first + pass_count (exits_of proc l)) (map (head_of proc.loops) ys)
        else inners_from proc scope (number + 1) first (map (head_of proc.loops) ys))
        ≡ map (inner_of prog p proc scope) (if b then l ∷ filter (λ m. same_scope (scope_around proc.loops m.head) scope) ys else filter (λ m. same_scope (scope_around proc.loops m.head) scope) ys)
    done true e rest =
        ap (λ n. record { span = l; number = n; first = first; exits = exits_of proc l } ∷ inners_from proc scope (number + 1) (first + pass_count (exits_of proc l)) (map (head_of proc.loops) ys)) number_same
        ∙ ap (λ f. record { span = l; number = number_of prog p (In l.head l.exit); first = f; exits = exits_of proc l } ∷ inners_from proc scope (number + 1) (first + pass_count (exits_of proc l)) (map (head_of proc.loops) ys)) (first_same e)
        ∙ ap (λ is. inner_of prog p proc scope l ∷ is) (rest (first + pass_count (exits_of proc l)) (next_same e))
    done false e rest = rest first (still_same e)

    pick : (b : Bool) → same_scope (scope_around proc.loops l.head) scope ≡ b
        → ((f : ℕ) → f ≡ length (kept_blocks proc scope) + passes_of proc (filter (λ m. same_scope (scope_around proc.loops m.head) scope) (xs ++ l ∷ []))
        → inners_from proc scope (number + 1) f (map (head_of proc.loops) ys) ≡ map (inner_of prog p proc scope) (filter (λ m. same_scope (scope_around proc.loops m.head) scope) ys))
        → inners_from proc scope number first (map (head_of proc.loops) (l ∷ ys)) ≡ map (inner_of prog p proc scope) (filter (λ m. same_scope (scope_around proc.loops m.head) scope) (l ∷ ys))
    pick b e rest =
        ap (λ (t : Bool). if t then record { span = l; number = number; first = first; exits = exits_of proc l } ∷ inners_from proc scope (number + 1) (first + pass_count (exits_of proc l)) (map (head_of proc.loops) ys)
        else inners_from proc scope (number + 1) first (map (head_of proc.loops) ys)) e
        ∙ done b e rest
        ∙ ap (λ (t : Bool). map (inner_of prog p proc scope) (if t then l ∷ filter (λ m. same_scope (scope_around proc.loops m.head) scope) ys else filter (λ m. same_scope (scope_around proc.loops m.head) scope) ys)) (sym e)

-- ---- kept blocks

ups_same : (t u : ℕ → Bool) (n : ℕ) (fs : List Bool) → ((k : ℕ) → k < length fs → t (n + k) ≡ u (n + k)) → filter t (ups n fs) ≡ filter u (ups n fs)
ups_same t u n [] h = refl
ups_same t u n (f ∷ fs) h =
    let z : n + 0 ≡ n = omega arith in
    let here : t n ≡ u n = ap t (sym z) ∙ h 0 (omega arith) ∙ ap u z in
    pick f here (ups_same t u (n + 1) fs (λ k lt. let y : n + suc k ≡ n + 1 + k = omega arith in ap t (sym y) ∙ h (suc k) (omega (arith, lt)) ∙ ap u y))
  where
    pick : (f : Bool) → t n ≡ u n → filter t (ups (n + 1) fs) ≡ filter u (ups (n + 1) fs) → filter t (ups n (f ∷ fs)) ≡ filter u (ups n (f ∷ fs))
    pick true e h = ap (λ ns. if t n then n ∷ ns else ns) h ∙ ap (λ (b : Bool). if b then n ∷ filter u (ups (n + 1) fs) else filter u (ups (n + 1) fs)) e
    pick false e h = h

spans_are : (prog : Program) (proc : SrcProc) (plan : Plan) (scope : Scope) → IsPlan prog proc plan → spans_in scope plan.heads ≡ loops_inside proc scope
spans_are prog proc plan scope is = ap (spans_in scope) is.heads ∙ spans_same proc.loops scope (reached_loops proc)

kept_are : (prog : Program) (proc : SrcProc) (plan : Plan) (scope : Scope) → IsPlan prog proc plan → kept_in plan scope ≡ kept_blocks proc scope
kept_are prog proc plan scope is =
    ups_same (stays plan.scopes scope (spans_in scope plan.heads)) (is_kept proc scope) 0 plan.up
    (λ k lt.
    let z : 0 + k ≡ k = omega arith in
    ap (stays plan.scopes scope (spans_in scope plan.heads)) z ∙ ap (λ s. same_scope s scope || is_head_of (spans_in scope plan.heads) k) (is.scopes k lt)
    ∙ ap (λ ls. same_scope (scope_of proc.loops k) scope || is_head_of ls k) (spans_are prog proc plan scope is) ∙ ap (is_kept proc scope) (sym z))
    ∙ ap (filter (is_kept proc scope)) is.reached

-- ---- the whole

passes_are : (prog : Program) (p : ℕ) (proc : SrcProc) (scope : Scope) (ls : List SrcLoop) → passes_in (map (inner_of prog p proc scope) ls) ≡ passes_of proc ls
passes_are prog p proc scope [] = refl
passes_are prog p proc scope (l ∷ ls) = ap (λ n. pass_count (exits_of proc l) + n) (passes_are prog p proc scope ls)

inside_are : (prog : Program) (proc : SrcProc) (plan : Plan) (scope : Scope) → IsPlan prog proc plan → are_nested proc.loops ≡ true → inside_in proc plan scope ≡ map (inner_of prog plan.proc proc scope) (loops_inside proc scope)
inside_are prog proc plan scope is nested =
    let start : length (kept_in plan scope) ≡ length (kept_blocks proc scope) + 0 = let z : length (kept_blocks proc scope) + 0 ≡ length (kept_blocks proc scope) = omega arith in ap length (kept_are prog proc plan scope is) ∙ sym z in
    let base : plan.base ≡ length prog.procs + (loops_count (take plan.proc prog.procs) + 0) = let b = is.base in omega (arith, b) in
    ap (inners_from proc scope plan.base (length (kept_in plan scope))) is.heads
    ∙ inners_same prog plan.proc proc scope [] (reached_loops proc) plan.base (length (kept_in plan scope)) is.is_proc (nested_filter (λ l. is_in l.head (reached_blocks proc)) proc.loops nested)
    (record { all = refl; number_is = base; first_is = start })

moved_same : (proc : SrcProc) (scope : Scope) → moved_in scope (length (locals_of proc)) ≡ moved_by proc scope
moved_same proc Whole = refl
moved_same proc (In head exit) = refl

-- a region by its fields
pub make : (p : ℕ) (scope : Scope) (x x' : List Edge) (n n' b b' l l' : ℕ) (s s' : List Sort) (k k' : List ℕ) (i i' : List Inner) (v v' a a' : ℕ) → x ≡ x' → n ≡ n' → b ≡ b' → l ≡ l' → s ≡ s' → k ≡ k' → i ≡ i' → v ≡ v' → a ≡ a'
    → ◌≡◌ {A = Region} (record { proc = p; number = n; scope = scope; by = b; local = l; sorts = s; kept = k; inside = i; exits = x; leave = v; again = a })
    (record { proc = p; number = n'; scope = scope; by = b'; local = l'; sorts = s'; kept = k'; inside = i'; exits = x'; leave = v'; again = a' })
make p scope x x' n n' b b' l l' s s' k k' i i' v v' a a' e0 e1 e2 e3 e4 e5 e6 e7 e8 = cc

pub region_same : (prog : Program) (proc : SrcProc) (plan : Plan) (scope : Scope) (number : ℕ) → IsPlan prog proc plan → are_nested proc.loops ≡ true → number ≡ number_of prog plan.proc scope
    → region_from proc plan scope number ≡ region_of prog plan.proc proc scope
region_same prog proc plan scope number is nested num =
    let kept = kept_are prog proc plan scope is in
    let inside = inside_are prog proc plan scope is nested in
    let passes : passes_in (inside_in proc plan scope) ≡ passes_of proc (loops_inside proc scope) = ap passes_in inside ∙ passes_are prog plan.proc proc scope (loops_inside proc scope) in
    let long : length (kept_in plan scope) ≡ length (kept_blocks proc scope) = ap length kept in
    let by : moved_in scope (length plan.sorts) ≡ moved_by proc scope = ap (λ (ss : List Sort). moved_in scope (length ss)) is.sorts ∙ moved_same proc scope in
    let count : length plan.sorts ≡ length (locals_of proc) = ap length is.sorts in
    let local : moved_in scope (length plan.sorts) + length plan.sorts ≡ exit_local proc scope = omega (arith, by, count) in
    let leave : length (kept_in plan scope) + passes_in (inside_in proc plan scope) ≡ leave_place proc scope 0 = omega (arith, long, passes) in
    let again : length (kept_in plan scope) + passes_in (inside_in proc plan scope) + length (exits_in proc scope) ≡ again_place proc scope = omega (arith, long, passes) in
    make plan.proc scope (exits_in proc scope) (exits_in proc scope) number (number_of prog plan.proc scope) (moved_in scope (length plan.sorts)) (moved_by proc scope) (moved_in scope (length plan.sorts) + length plan.sorts) (exit_local proc scope) plan.sorts (locals_of proc)
    (kept_in plan scope) (kept_blocks proc scope) (inside_in proc plan scope) (map (inner_of prog plan.proc proc scope) (loops_inside proc scope))
    (length (kept_in plan scope) + passes_in (inside_in proc plan scope)) (leave_place proc scope 0) (length (kept_in plan scope) + passes_in (inside_in proc plan scope) + length (exits_in proc scope)) (again_place proc scope)
    refl num by local is.sorts kept inside leave again

-- ---- reached loops

none_below : (n m : ℕ) (fs : List Bool) → n < m → is_in n (ups m fs) ≡ false
none_below n m [] lt = refl
none_below n m (f ∷ fs) lt = pick f (none_below n (m + 1) fs (omega (arith, lt))) (other (nat_eq m n) refl)
  where
    other : (b : Bool) → nat_eq m n ≡ b → nat_eq m n ≡ false
    other true e = absurd (omega (arith, lt, eqb-true m n e))
    other false e = e

    pick : (f : Bool) → is_in n (ups (m + 1) fs) ≡ false → nat_eq m n ≡ false → is_in n (ups m (f ∷ fs)) ≡ false
    pick true h e = ap (λ b. b || is_in n (ups (m + 1) fs)) e ∙ h
    pick false h e = h

is_in_ups : (m k : ℕ) (fs : List Bool) → is_in (m + k) (ups m fs) ≡ get_or fs k false
is_in_ups m k [] = refl
is_in_ups m zero (f ∷ fs) = pick f
  where
    z : m + 0 ≡ m
    z = omega arith

    pick : (f : Bool) → is_in (m + 0) (ups m (f ∷ fs)) ≡ f
    pick true = ap (λ b. b || is_in (m + 0) (ups (m + 1) fs)) (eq-eqb m (m + 0) (sym z))
    pick false = none_below (m + 0) (m + 1) fs (omega arith)
is_in_ups m (suc k) (f ∷ fs) = pick f (is_in_ups (m + 1) k fs)
  where
    z : m + suc k ≡ m + 1 + k
    z = omega arith

    not_here : (b : Bool) → nat_eq m (m + suc k) ≡ b → nat_eq m (m + suc k) ≡ false
    not_here true e = absurd (omega (arith, eqb-true m (m + suc k) e))
    not_here false e = e

    pick : (f : Bool) → is_in (m + 1 + k) (ups (m + 1) fs) ≡ get_or fs k false → is_in (m + suc k) (ups m (f ∷ fs)) ≡ get_or fs k false
    pick true h = ap (λ b. b || is_in (m + suc k) (ups (m + 1) fs)) (not_here (nat_eq m (m + suc k)) refl) ∙ ap (λ n. is_in n (ups (m + 1) fs)) z ∙ h
    pick false h = ap (λ n. is_in n (ups (m + 1) fs)) z ∙ h

filter_same : {A : Type 0} (t u : A → Bool) (xs : List A) → ((x : A) → t x ≡ u x) → filter t xs ≡ filter u xs
filter_same t u [] h = refl
filter_same t u (x ∷ xs) h = ap (λ (b : Bool). if b then x ∷ filter t xs else filter t xs) (h x) ∙ ap (λ ys. if u x then x ∷ ys else ys) (filter_same t u xs h)

pub reached_are : (proc : SrcProc) (up : List Bool) → ups 0 up ≡ reached_blocks proc → filter (is_up up) proc.loops ≡ reached_loops proc
reached_are proc up e =
    filter_same (is_up up) (λ l. is_in l.head (reached_blocks proc)) proc.loops
    (λ l. let z : 0 + l.head ≡ l.head = omega arith in sym (ap (is_in l.head) (sym e) ∙ ap (λ n. is_in n (ups 0 up)) (sym z) ∙ is_in_ups 0 l.head up))

-- ---- loops of a procedure of a program

all_get : {A : Type 0} (q : A → Bool) (xs : List A) (k : ℕ) (x : A) → list_all q xs ≡ true → slice_get xs k ≡ Some x → q x ≡ true
all_get q [] k x h e = absurd cc
all_get q (y ∷ xs) zero x h e = let same : y ≡ x = cc in subst (λ z. q z ≡ true) same (and-first (q y) (list_all q xs) h)
all_get q (y ∷ xs) (suc k) x h e = all_get q xs k x (and-second (q y) (list_all q xs) h) e

pub loops_ok : (prog : Program) (p : ℕ) (proc : SrcProc) → is_program prog ≡ true → slice_get prog.procs p ≡ Some proc → loops_fit proc ≡ true
loops_ok prog p proc h e =
    let a = and-second (names_fit prog.consts && (names_fit prog.globals && ascend_from 0 (length prog.consts) prog.uniques)) _ h in
    let b = and-second (list_all (is_condition (constant_scope prog)) prog.axioms) _ a in
    let d = all_get (is_procedure prog) prog.procs p proc (and-second (are_numbered (length prog.procs)) _ b) e in
    and-first (loops_fit proc) _ (and-second (are_numbered (length (locals_of proc)) && (nat_lt 0 (length proc.blocks) && are_numbered (length proc.blocks))) _ (and-second (names_fit proc.ins && (names_fit proc.outs && names_fit proc.locals)) _ d))

-- ---- a loop keeps none but blocks that it holds

innermost_in : (test : SrcLoop → Bool) (s : Scope) (ls : List SrcLoop) (head exit : ℕ) → innermost test s ls ≡ In head exit → (s ≡ In head exit) ⊎ (test (record { head = head; exit = exit }) ≡ true)
innermost_in test s [] head exit e = inl e
innermost_in test s (l ∷ ls) head exit e = pick (test l) refl (innermost_in test (if test l then In l.head l.exit else s) ls head exit e)
  where
    pick : (b : Bool) → test l ≡ b → ((if test l then In l.head l.exit else s) ≡ In head exit) ⊎ (test (record { head = head; exit = exit }) ≡ true) → (s ≡ In head exit) ⊎ (test (record { head = head; exit = exit }) ≡ true)
    pick b t (inr h) = inr h
    pick true t (inl h) =
        let k : In l.head l.exit ≡ In head exit = ap (λ (c : Bool). if c then In l.head l.exit else s) (sym t) ∙ h in
        let x : l.head ≡ head = cc in
        let y : l.exit ≡ exit = cc in
        let at : ℕ → ℕ → SrcLoop = λ a c. record { head = a; exit = c } in
        let same : l ≡ at head exit = ap (λ n. at n l.exit) x ∙ ap (at head) y in
        inr (ap test (sym same) ∙ t)
    pick false t (inl h) = inl (ap (λ (c : Bool). if c then In l.head l.exit else s) (sym t) ∙ h)

same_scope_true : (s : Scope) (head exit : ℕ) → same_scope s (In head exit) ≡ true → s ≡ In head exit
same_scope_true Whole head exit e = absurd cc
same_scope_true (In a b) head exit e =
    let x = eqb-true a head (and-first (nat_eq a head) (nat_eq b exit) e) in
    let y = eqb-true b exit (and-second (nat_eq a head) (nat_eq b exit) e) in
    ap (λ n. In n b) x ∙ ap (λ n. In head n) y

not_whole : (head exit : ℕ) → Whole ≡ In head exit → ⊥
not_whole head exit e = absurd cc

-- a test is false where it would hold only of what the loop holds
out_scope : (loops : List SrcLoop) (test : SrcLoop → Bool) (head exit b : ℕ) → (test (record { head = head; exit = exit }) ≡ true → holds_block (record { head = head; exit = exit }) b ≡ true) → holds_block (record { head = head; exit = exit }) b ≡ false
    → same_scope (innermost test Whole loops) (In head exit) ≡ false
out_scope loops test head exit b held out = pick (same_scope (innermost test Whole loops) (In head exit)) refl
  where
    never : (Whole ≡ In head exit) ⊎ (test (record { head = head; exit = exit }) ≡ true) → ⊥
    never (inl e) = not_whole head exit e
    never (inr e) = let z : true ≡ false = sym (held e) ∙ out in absurd cc

    pick : (t : Bool) → same_scope (innermost test Whole loops) (In head exit) ≡ t → same_scope (innermost test Whole loops) (In head exit) ≡ false
    pick true e = absurd (never (innermost_in test Whole loops head exit (same_scope_true (innermost test Whole loops) head exit e)))
    pick false e = e

around_out : (loops : List SrcLoop) (head exit : ℕ) (l : SrcLoop) (b : ℕ) → holds_block (record { head = head; exit = exit }) b ≡ false → l.head ≡ b → same_scope (scope_around loops l.head) (In head exit) ≡ false
around_out loops head exit l b out e =
    out_scope loops (λ m. holds_block m l.head && not (nat_eq m.head l.head)) head exit l.head (λ h. and-first (holds_block (record { head = head; exit = exit }) l.head) (not (nat_eq head l.head)) h)
    (ap (holds_block (record { head = head; exit = exit })) e ∙ out)

heads_out : (loops : List SrcLoop) (head exit b : ℕ) (ls : List SrcLoop) → holds_block (record { head = head; exit = exit }) b ≡ false → is_head_of (filter (λ l. same_scope (scope_around loops l.head) (In head exit)) ls) b ≡ false
heads_out loops head exit b [] out = refl
heads_out loops head exit b (l ∷ ls) out = pick (nat_eq l.head b) refl (heads_out loops head exit b ls out)
  where
    pick : (t : Bool) → nat_eq l.head b ≡ t → is_head_of (filter (λ l. same_scope (scope_around loops l.head) (In head exit)) ls) b ≡ false
        → is_head_of (if same_scope (scope_around loops l.head) (In head exit) then l ∷ filter (λ l. same_scope (scope_around loops l.head) (In head exit)) ls else filter (λ l. same_scope (scope_around loops l.head) (In head exit)) ls) b ≡ false
    pick true e rest =
        ap (λ (c : Bool). is_head_of (if c then l ∷ filter (λ l. same_scope (scope_around loops l.head) (In head exit)) ls else filter (λ l. same_scope (scope_around loops l.head) (In head exit)) ls) b)
        (around_out loops head exit l b out (eqb-true l.head b e))
        ∙ rest
    pick false e rest = each (same_scope (scope_around loops l.head) (In head exit))
      where
        each : (c : Bool) → is_head_of (if c then l ∷ filter (λ l. same_scope (scope_around loops l.head) (In head exit)) ls else filter (λ l. same_scope (scope_around loops l.head) (In head exit)) ls) b ≡ false
        each true = ap (λ t. t || is_head_of (filter (λ l. same_scope (scope_around loops l.head) (In head exit)) ls) b) e ∙ rest
        each false = rest

pub only_within : (prog : Program) (proc : SrcProc) (plan : Plan) (scope : Scope) → IsPlan prog proc plan → OnlyWithin plan scope
only_within prog proc plan Whole is = tt
only_within prog proc plan (In head exit) is = λ b out.
    ap (λ t. t || is_head_of (spans_in (In head exit) plan.heads) b) (at b out (cases_lt b (length plan.up)))
    ∙ ap (λ ls. is_head_of ls b) (spans_are prog proc plan (In head exit) is) ∙ heads_out proc.loops head exit b (reached_loops proc) out
  where
    at : (b : ℕ) → holds_block (record { head = head; exit = exit }) b ≡ false → (b < length plan.up) ⊎ (length plan.up ≤ b) → same_scope (get_or plan.scopes b Whole) (In head exit) ≡ false
    at b out (inl lt) = ap (λ s. same_scope s (In head exit)) (is.scopes b lt) ∙ out_scope proc.loops (λ l. holds_block l b) head exit b (λ h. h) out
    at b out (inr le) = ap (λ s. same_scope s (In head exit)) (get_or_past plan.scopes b Whole (subst (λ n. n ≤ b) (sym is.long) le))
