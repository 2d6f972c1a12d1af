-- A walk over the flags of a part of the blocks finds all that pass a test which holds in that part alone.
use Rattle.std.proofs.Common.{◌≡◌, ℕ, zero, suc, ◌+◌, ◌<◌, ◌≤◌, Bool, true, false, ◌&&◌, nat_le, nat_lt, List, [], ◌∷◌, ◌++◌, length, get_or, drop, slice_get, if◌then◌else◌, refl, sym, ap, ◌∙◌, arith, filter, inl, inr, ◌⊎◌}
use Rattle.std.proofs.lemmas.Bool.{le-leb, lt-ltb, le-ltb, lt-leb, cases_lt}
use Rattle.std.proofs.lemmas.List.{append-nil, append_assoc, get_or_past}
use Rattle.std.proofs.Math.ListN.{drop_of_length-le}
use Rattle.std.proofs.lemmas.List.Elements.{filter-append}
use Rattle.std.specs.List.{flat_map}
use Rattle.src_prog.specs.Loops.{holds_block}
use Rattle.src_prog.specs.declared.proc.SrcLoop.{SrcLoop}
use Rattle.src_prog.specs.declared.proc.SrcProc.{SrcProc}
use Rattle.extract_def.specs.Exits.{edges_at, exits_of, leaves}
use Rattle.extract_def.specs.declared.edge.Edge.{Edge}
use Rattle.extract_def.specs.Scopes.{reached_blocks}
use Rattle.extract_def.specs.declared.scope.Scope.{Scope}
use Rattle.extract_def.specs.declared.scope.Scope.TheVariants.{Whole, In}
use Rattle.loop_extract.specs.Flags.{ups}
use Rattle.loop_extract.specs.Plans.{stays, spans_in, OnlyWithin, first_of, end_of}
use Rattle.loop_extract.specs.declared.plan.Plan.{Plan}
use Rattle.loop_extract.proofs.Rests.{rest_more}

-- ---- numbers of flags that pass a test

pub pass_no : (t : ℕ → Bool) (n : ℕ) (f : Bool) (fs : List Bool) → t n ≡ false → filter t (ups n (f ∷ fs)) ≡ filter t (ups (n + 1) fs)
pass_no t n true fs e = ap (λ (b : Bool). if b then n ∷ filter t (ups (n + 1) fs) else filter t (ups (n + 1) fs)) e
pass_no t n false fs e = refl

pub pass_yes : (t : ℕ → Bool) (n : ℕ) (f : Bool) (fs : List Bool) → t n ≡ true → filter t (ups n (f ∷ fs)) ≡ (if f then n ∷ [] else []) ++ filter t (ups (n + 1) fs)
pass_yes t n true fs e = ap (λ (b : Bool). if b then n ∷ filter t (ups (n + 1) fs) else filter t (ups (n + 1) fs)) e
pass_yes t n false fs e = refl

-- none passes from a number on
pub none_past : (t : ℕ → Bool) (n : ℕ) (fs : List Bool) → ((b : ℕ) → n ≤ b → t b ≡ false) → filter t (ups n fs) ≡ []
none_past t n [] h = refl
none_past t n (f ∷ fs) h = pass_no t n f fs (h n (omega arith)) ∙ none_past t (n + 1) fs (λ b le. h b (omega (arith, le)))

-- none passes below a number
pub none_before : (t : ℕ → Bool) (n k : ℕ) (fs : List Bool) → ((b : ℕ) → b < n + k → t b ≡ false) → filter t (ups n fs) ≡ filter t (ups (n + k) (drop k fs))
none_before t n zero fs h = let z : n ≡ n + 0 = omega arith in ap (λ m. filter t (ups m fs)) z
none_before t n (suc k) [] h = refl
none_before t n (suc k) (f ∷ fs) h =
    let z : n + 1 + k ≡ n + suc k = omega arith in
    pass_no t n f fs (h n (omega arith)) ∙ none_before t (n + 1) k fs (λ b lt. h b (omega (arith, lt))) ∙ ap (λ m. filter t (ups m (drop k fs))) z

-- ---- exits

-- the exits by blocks from a number on, whose flags these are
abbrev pub exits_from : SrcProc → SrcLoop → ℕ → List Bool → List Edge
exits_from proc l n fs = filter (λ e. leaves l e.dest) (flat_map (λ b. edges_at b (slice_get proc.blocks b)) (filter (holds_block l) (ups n fs)))

holds_not_before : (l : SrcLoop) (b : ℕ) → b < l.head → holds_block l b ≡ false
holds_not_before l b lt = ap (λ (t : Bool). t && nat_lt b l.exit) (lt-leb l.head b lt)

and-false : (a : Bool) → (a && false) ≡ false
and-false true = refl
and-false false = refl

holds_not_past : (l : SrcLoop) (b : ℕ) → l.exit ≤ b → holds_block l b ≡ false
holds_not_past l b le = ap (λ (t : Bool). nat_le l.head b && t) (le-ltb b l.exit le) ∙ and-false (nat_le l.head b)

holds_within : (l : SrcLoop) (b : ℕ) → l.head ≤ b → b < l.exit → holds_block l b ≡ true
holds_within l b le lt = ap (λ (t : Bool). t && nat_lt b l.exit) (le-leb l.head b le) ∙ lt-ltb b l.exit lt

pub exits_start : (proc : SrcProc) (l : SrcLoop) (up : List Bool) → ups 0 up ≡ reached_blocks proc → exits_of proc l ≡ [] ++ exits_from proc l l.head (drop l.head up)
exits_start proc l up e =
    ap (λ bs. filter (λ e. leaves l e.dest) (flat_map (λ b. edges_at b (slice_get proc.blocks b)) bs))
    (ap (filter (holds_block l)) (sym e) ∙ none_before (holds_block l) 0 l.head up (λ b lt. holds_not_before l b (omega (arith, lt))) ∙ ap (λ m. filter (holds_block l) (ups m (drop l.head up))) z)
  where
    z : 0 + l.head ≡ l.head
    z = omega arith

exits_step : (proc : SrcProc) (l : SrcLoop) (n : ℕ) (f : Bool) (fs : List Bool) → holds_block l n ≡ true
    → exits_from proc l n (f ∷ fs) ≡ (if f then filter (λ e. leaves l e.dest) (edges_at n (slice_get proc.blocks n)) else []) ++ exits_from proc l (n + 1) fs
exits_step proc l n true fs e =
    ap (λ bs. filter (λ e. leaves l e.dest) (flat_map (λ b. edges_at b (slice_get proc.blocks b)) bs)) (pass_yes (holds_block l) n true fs e)
    ∙ filter-append (λ (x : Edge). leaves l x.dest) (edges_at n (slice_get proc.blocks n)) (flat_map (λ b. edges_at b (slice_get proc.blocks b)) (filter (holds_block l) (ups (n + 1) fs)))
exits_step proc l n false fs e = refl

pub get_or_same : {A : Type 0} (xs : List A) (k : ℕ) (d : A) → get_or xs k d ≡ get_or xs k (get_or xs k d)
get_or_same [] k d = refl
get_or_same (x ∷ xs) zero d = refl
get_or_same (x ∷ xs) (suc k) d = get_or_same xs k d

exits_beyond : (proc : SrcProc) (l : SrcLoop) (up : List Bool) (n : ℕ) → length up ≤ n → exits_from proc l n (drop n up) ≡ (if get_or up n false then filter (λ e. leaves l e.dest) (edges_at n (slice_get proc.blocks n)) else []) ++ exits_from proc l (n + 1) (drop (n + 1) up)
exits_beyond proc l up n le =
    let a : drop n up ≡ [] = drop_of_length-le up le in
    let b : drop (n + 1) up ≡ [] = drop_of_length-le up (omega (arith, le)) in
    ap (exits_from proc l n) a ∙ ap (λ (t : Bool). (if t then filter (λ e. leaves l e.dest) (edges_at n (slice_get proc.blocks n)) else []) ++ []) (sym (get_or_past up n false le)) ∙ ap (λ fs. (if get_or up n false then filter (λ e. leaves l e.dest) (edges_at n (slice_get proc.blocks n)) else []) ++ exits_from proc l (n + 1) fs) (sym b)

pub exits_more : (proc : SrcProc) (l : SrcLoop) (up : List Bool) (n : ℕ) (whole out new : List Edge) → l.head ≤ n → n < l.exit → whole ≡ out ++ exits_from proc l n (drop n up)
    → new ≡ out ++ (if get_or up n false then filter (λ e. leaves l e.dest) (edges_at n (slice_get proc.blocks n)) else []) → whole ≡ new ++ exits_from proc l (n + 1) (drop (n + 1) up)
exits_more proc l up n whole out new from below h put = at (cases_lt n (length up))
  where
    at : (n < length up) ⊎ (length up ≤ n) → whole ≡ new ++ exits_from proc l (n + 1) (drop (n + 1) up)
    at (inl lt) =
        rest_more (exits_from proc l n) (exits_from proc l (n + 1)) whole out (if get_or up n false then filter (λ e. leaves l e.dest) (edges_at n (slice_get proc.blocks n)) else []) up n (get_or up n false) h lt
        (get_or_same up n false) (exits_step proc l n (get_or up n false) (drop (n + 1) up) (holds_within l n from below))
        ∙ ap (λ es. es ++ exits_from proc l (n + 1) (drop (n + 1) up)) (sym put)
    at (inr le) =
        h ∙ ap (λ es. out ++ es) (exits_beyond proc l up n le)
        ∙ sym (append_assoc out (if get_or up n false then filter (λ e. leaves l e.dest) (edges_at n (slice_get proc.blocks n)) else []) (exits_from proc l (n + 1) (drop (n + 1) up)))
        ∙ ap (λ es. es ++ exits_from proc l (n + 1) (drop (n + 1) up)) (sym put)

pub exits_end : (proc : SrcProc) (l : SrcLoop) (up : List Bool) (n : ℕ) (whole out : List Edge) → l.exit ≤ n → whole ≡ out ++ exits_from proc l n (drop n up) → whole ≡ out
exits_end proc l up n whole out past h =
    h ∙ ap (λ bs. out ++ filter (λ e. leaves l e.dest) (flat_map (λ b. edges_at b (slice_get proc.blocks b)) bs)) (none_past (holds_block l) n (drop n up) (λ b le. holds_not_past l b (omega (arith, le, past)))) ∙ append-nil out

-- ---- kept blocks

pub kept_more : (t : ℕ → Bool) (whole out new : List ℕ) (up : List Bool) (n : ℕ) → n < length up → whole ≡ out ++ filter t (ups n (drop n up)) → new ≡ out ++ (if get_or up n false then (if t n then n ∷ [] else []) else [])
    → whole ≡ new ++ filter t (ups (n + 1) (drop (n + 1) up))
kept_more t whole out new up n lt h put =
    rest_more (λ fs. filter t (ups n fs)) (λ fs. filter t (ups (n + 1) fs)) whole out (if get_or up n false then (if t n then n ∷ [] else []) else []) up n (get_or up n false) h lt (get_or_same up n false)
    (one (get_or up n false) (t n) refl)
    ∙ ap (λ ns. ns ++ filter t (ups (n + 1) (drop (n + 1) up))) (sym put)
  where
    one : (f b : Bool) → t n ≡ b → filter t (ups n (f ∷ drop (n + 1) up)) ≡ (if f then (if t n then n ∷ [] else []) else []) ++ filter t (ups (n + 1) (drop (n + 1) up))
    one true true e = pass_yes t n true (drop (n + 1) up) e ∙ ap (λ (b : Bool). (if b then n ∷ [] else []) ++ filter t (ups (n + 1) (drop (n + 1) up))) (sym e)
    one true false e = pass_no t n true (drop (n + 1) up) e ∙ ap (λ (b : Bool). (if b then n ∷ [] else []) ++ filter t (ups (n + 1) (drop (n + 1) up))) (sym e)
    one false b e = refl

pub kept_start : (plan : Plan) (scope : Scope) (spans : List SrcLoop) (first : ℕ) → spans ≡ spans_in scope plan.heads → OnlyWithin plan scope → first ≡ first_of scope
    → filter (stays plan.scopes scope spans) (ups 0 plan.up) ≡ [] ++ filter (stays plan.scopes scope spans) (ups first (drop first plan.up))
kept_start plan Whole spans first same only e = ap (λ n. filter (stays plan.scopes Whole spans) (ups n (drop n plan.up))) (sym e)
kept_start plan (In head exit) spans first same only e =
    let z : 0 + head ≡ head = omega arith in
    none_before (stays plan.scopes (In head exit) spans) 0 head plan.up
    (λ b lt. ap (λ ls. stays plan.scopes (In head exit) ls b) same ∙ only b (holds_not_before (record { head = head; exit = exit }) b (omega (arith, lt))))
    ∙ ap (λ n. filter (stays plan.scopes (In head exit) spans) (ups n (drop head plan.up))) z ∙ ap (λ n. filter (stays plan.scopes (In head exit) spans) (ups n (drop n plan.up))) (sym e)

kept_none : (plan : Plan) (scope : Scope) (spans : List SrcLoop) (n : ℕ) → spans ≡ spans_in scope plan.heads → OnlyWithin plan scope → end_of scope (length plan.up) ≤ n → filter (stays plan.scopes scope spans) (ups n (drop n plan.up)) ≡ []
kept_none plan Whole spans n same only le = ap (λ fs. filter (stays plan.scopes Whole spans) (ups n fs)) (drop_of_length-le plan.up le)
kept_none plan (In head exit) spans n same only le = at (cases_lt n (length plan.up))
  where
    at : (n < length plan.up) ⊎ (length plan.up ≤ n) → filter (stays plan.scopes (In head exit) spans) (ups n (drop n plan.up)) ≡ []
    at (inl lt) =
        none_past (stays plan.scopes (In head exit) spans) n (drop n plan.up)
        (λ b more. ap (λ ls. stays plan.scopes (In head exit) ls b) same ∙ only b (holds_not_past (record { head = head; exit = exit }) b (omega (arith, lt, le, more))))
    at (inr past) = ap (λ fs. filter (stays plan.scopes (In head exit) spans) (ups n fs)) (drop_of_length-le plan.up past)

pub kept_end : (plan : Plan) (scope : Scope) (spans : List SrcLoop) (n : ℕ) (whole out : List ℕ) → spans ≡ spans_in scope plan.heads → OnlyWithin plan scope → end_of scope (length plan.up) ≤ n
    → whole ≡ out ++ filter (stays plan.scopes scope spans) (ups n (drop n plan.up)) → whole ≡ out
kept_end plan scope spans n whole out same only le h = h ∙ ap (λ ns. out ++ ns) (kept_none plan scope spans n same only le) ∙ append-nil out

pub end_within : (scope : Scope) (count : ℕ) → end_of scope count ≤ count
end_within Whole count = omega arith
end_within (In head exit) count = omega arith
