-- A log of the lines that the last one needs still refutes.
use Rattle.std.proofs.Common.{◌≡◌, ℕ, zero, suc, ◌+◌, ◌-◌, ◌<◌, ◌≤◌, ◌==◌, Bool, true, false, not, ◌||◌, ◌&&◌, if◌then◌else◌, Option, None, Some, List, [], ◌∷◌, ◌++◌, length, map, take, drop, get_or, slice_get, refl, ap, sym, ◌∙◌, subst, arith, inl, inr, ◌⊎◌, set, append_assoc, append-nil, length-append, take_all}
use Rattle.std.proofs.lemmas.List.{take_more, length-take-le, drop_all}
use Rattle.cnf_form.proofs.Trails.{is_among-push}
use Rattle.proof_check.specs.Verdict.{IsFirstBad}
use Rattle.std.specs.Prelude.{nat_lt, slice_index_or}
use Rattle.std.specs.List.{list_any, list_all, items_where_true}
use Rattle.std.specs.Option.{option_map}
use Rattle.std.proofs.lemmas.Bool.{and_parts, or_parts, or_cases, cases_Bool, eqb-true, eq-eqb, false≢true, or_left, or_right, lt-ltb, le-ltb, ltb-false}
use Rattle.cnf_form.specs.Literal.{negation, is_among, is_tautology, look}
use Rattle.cnf_form.specs.Lines.{follows, accepts, refutes, hints_refute, hint_says, is_empty_list, is_empty_line, clauses_of}
use Rattle.cnf_form.specs.declared.log.Line.{Line}
use Rattle.cnf_form.specs.declared.look.Look.{Look}
use Rattle.cnf_form.specs.declared.look.Look.TheVariants.{Falsified, Unit, Other}
use Rattle.proof_check.specs.Trimmed.{is_hinted, is_trimmed}
use Rattle.proof_check.specs.Trimming.{HintsEarlier, is_set, ClosedFrom, UsedFrom, AreNeeded, new_number, renumbered, kept_lines}

-- hints that refute name clauses that are there
module _ (cs : List (List ℕ)) where
  some_case : (o : Option (List ℕ)) (fs : List ℕ) (last : Bool) (k : ℕ → Bool) → hint_says (option_map (look fs) o) last k ≡ true → (c : List ℕ) × (o ≡ Some c)
  some_case None fs last k h = absurd (false≢true h)
  some_case (Some c) fs last k h = (c, refl)

  rest_case : (w : Look) (hs : List ℕ) (k : ℕ → Bool) (P : Type 0) → hint_says (Some w) (is_empty_list hs) k ≡ true → ((l : ℕ) → k l ≡ true → P) → (hs ≡ [] → P) → P
  rest_case Falsified [] k P h f e = e refl
  rest_case Falsified (x ∷ hs) k P h f e = absurd (false≢true h)
  rest_case (Unit l) hs k P h f e = f l h
  rest_case Other hs k P h f e = absurd (false≢true h)

  pub hint_there : (hs fs : List ℕ) (h : ℕ) → hints_refute cs fs hs ≡ true → is_among hs h ≡ true → (c : List ℕ) × (slice_get cs h ≡ Some c)
  hint_there [] fs h r a = absurd (false≢true a)
  hint_there (x ∷ hs) fs h r a =
      let k : ℕ → Bool = λ l. hints_refute cs (fs ++ negation l ∷ []) hs in
      let here = some_case (slice_get cs x) fs (is_empty_list hs) k r in
      elim (or_cases (x == h) (is_among hs h) a) [
        | inl e ↦ subst (λ y. (c : List ℕ) × (slice_get cs y ≡ Some c)) (eqb-true x h e) here
        | inr b ↦ rest_case (look fs here.0) hs k ((c : List ℕ) × (slice_get cs h ≡ Some c))
            (sym (ap (λ (o : Option (List ℕ)). hint_says (option_map (look fs) o) (is_empty_list hs) k) here.1) ∙ r)
            (λ l z. hint_there hs (fs ++ negation l ∷ []) h z b)
            (λ e. absurd (false≢true (sym (ap (λ (ys : List ℕ). is_among ys h) e) ∙ b)))
      ]

pub some_within : (cs : List (List ℕ)) (i : ℕ) (c : List ℕ) → slice_get cs i ≡ Some c → i < length cs
some_within [] i c e = absurd (cc)
some_within (d ∷ cs) zero c e = omega arith
some_within (d ∷ cs) (suc i) c e = let ih = some_within cs i c e in omega (arith, ih)

-- each line's hints name clauses before it
pub accepts_earlier : (cs : List (List ℕ)) (lines : List Line) → accepts cs lines ≡ true → HintsEarlier (length cs) lines
accepts_earlier cs [] a j h line e b = absurd (cc)
accepts_earlier cs (x ∷ lines) a zero h line e b =
    let p = and_parts (follows cs x) (accepts (cs ++ x.clause ∷ []) lines) a in
    let q = and_parts (not (is_tautology x.clause)) (hints_refute cs x.clause x.hints) p.0 in
    let same : x ≡ line = cc in
    let there = hint_there cs x.hints x.clause h q.1 (ap (λ (l : Line). is_among l.hints h) same ∙ b) in
    omega (arith, some_within cs h there.0 there.1)
accepts_earlier cs (x ∷ lines) a (suc j) h line e b =
    let p = and_parts (follows cs x) (accepts (cs ++ x.clause ∷ []) lines) a in
    omega (arith, accepts_earlier (cs ++ x.clause ∷ []) lines p.1 j h line e b, length-append cs (x.clause ∷ []))

-- hints under other numbers of the same clauses
says_same : (o : Option Look) (last : Bool) (f g : ℕ → Bool) → ((l : ℕ) → f l ≡ g l) → hint_says o last f ≡ hint_says o last g
says_same None last f g h = refl
says_same (Some Falsified) last f g h = refl
says_same (Some (Unit l)) last f g h = h l
says_same (Some Other) last f g h = refl

empty_map : (f : ℕ → ℕ) (hs : List ℕ) → is_empty_list (map f hs) ≡ is_empty_list hs
empty_map f [] = refl
empty_map f (x ∷ hs) = refl

pub hints_renumbered : (cs ds : List (List ℕ)) (f : ℕ → ℕ) (hs fs : List ℕ) → ((h : ℕ) → is_among hs h ≡ true → slice_get cs (f h) ≡ slice_get ds h) → hints_refute cs fs (map f hs) ≡ hints_refute ds fs hs
hints_renumbered cs ds f [] fs e = refl
hints_renumbered cs ds f (x ∷ hs) fs e =
    let here : slice_get cs (f x) ≡ slice_get ds x = e x (or_left _ _ (eq-eqb x x refl)) in
    rw (here, empty_map f hs)
    (says_same (option_map (look fs) (slice_get ds x)) (is_empty_list hs)
    (λ l. hints_refute cs (fs ++ negation l ∷ []) (map f hs)) (λ l. hints_refute ds (fs ++ negation l ∷ []) hs)
    (λ l. hints_renumbered cs ds f hs (fs ++ negation l ∷ []) (λ h a. e h (or_right _ _ a))))

-- a clause that a kept line may name: one of the formula, or that of a set line
abbrev pub is_usable : ℕ → List Bool → ℕ → Bool
is_usable offset flags h = nat_lt h offset || is_set flags (h - offset)

-- each clause that may be named stands under its new number
abbrev pub Stands : ℕ → List Bool → List ℕ → List (List ℕ) → List (List ℕ) → Type 0
Stands offset flags numbers cs ds = (h : ℕ) (c : List ℕ) → slice_get ds h ≡ Some c → is_usable offset flags h ≡ true → slice_get cs (new_number offset numbers h) ≡ Some c

-- each kept line has only such hints, where the earlier lines have these flags
abbrev pub uses_kept : ℕ → List Bool → List Bool → List Line → Bool
uses_kept offset earlier [] lines = true
uses_kept offset earlier (b ∷ flags) [] = true
uses_kept offset earlier (b ∷ flags) (line ∷ lines) = (not b || list_all (is_usable offset earlier) line.hints) && uses_kept offset (earlier ++ b ∷ []) flags lines

get_front : (cs : List (List ℕ)) (d c : List ℕ) (h : ℕ) → slice_get cs h ≡ Some c → slice_get (cs ++ d ∷ []) h ≡ Some c
get_front [] d c h e = absurd (cc)
get_front (x ∷ cs) d c zero e = e
get_front (x ∷ cs) d c (suc h) e = get_front cs d c h e

get_end : (cs : List (List ℕ)) (d : List ℕ) → slice_get (cs ++ d ∷ []) (length cs) ≡ Some d
get_end [] d = refl
get_end (x ∷ cs) d = get_end cs d

get_cases : (cs : List (List ℕ)) (d c : List ℕ) (h : ℕ) → slice_get (cs ++ d ∷ []) h ≡ Some c → (slice_get cs h ≡ Some c) ⊎ ((h ≡ length cs) × (d ≡ c))
get_cases [] d c zero e = inr (refl, cc)
get_cases [] d c (suc h) e = absurd (cc)
get_cases (x ∷ cs) d c zero e = inl e
get_cases (x ∷ cs) d c (suc h) e = elim (get_cases cs d c h e) [ inl z ↦ inl z | inr z ↦ inr (omega (arith, z.0), z.1) ]

set_front : (fs : List Bool) (b : Bool) (k : ℕ) → k < length fs → is_set (fs ++ b ∷ []) k ≡ is_set fs k
set_front [] b k h = absurd (omega arith)
set_front (f ∷ fs) b zero h = refl
set_front (f ∷ fs) b (suc k) h = set_front fs b k (omega arith)

set_end : (fs : List Bool) (b : Bool) → is_set (fs ++ b ∷ []) (length fs) ≡ b
set_end [] b = refl
set_end (f ∷ fs) b = set_end fs b

num_front : (ns : List ℕ) (m k : ℕ) → k < length ns → slice_index_or (ns ++ m ∷ []) k 0 ≡ slice_index_or ns k 0
num_front [] m k h = absurd (omega arith)
num_front (n ∷ ns) m zero h = refl
num_front (n ∷ ns) m (suc k) h = num_front ns m k (omega arith)

num_end : (ns : List ℕ) (m : ℕ) → slice_index_or (ns ++ m ∷ []) (length ns) 0 ≡ m
num_end [] m = refl
num_end (n ∷ ns) m = num_end ns m

usable_front : (offset : ℕ) (fs : List Bool) (b : Bool) (h : ℕ) → h < offset + length fs → is_usable offset (fs ++ b ∷ []) h ≡ is_usable offset fs h
usable_front offset fs b h l = elim (cases_Bool (nat_lt h offset)) [
  | inl t ↦ rw t refl
  | inr f ↦ let k : offset ≤ h = ltb-false h offset f in rw (f, set_front fs b (h - offset) (omega arith)) refl
]

usable_end : (offset : ℕ) (fs : List Bool) (b : Bool) (h : ℕ) → h ≡ offset + length fs → is_usable offset (fs ++ b ∷ []) h ≡ b
usable_end offset fs b h e =
    let k : h - offset ≡ length fs = omega arith in
    rw (le-ltb h offset (omega arith), k, set_end fs b) refl

number_front : (offset m : ℕ) (ns : List ℕ) (h : ℕ) → h < offset + length ns → new_number offset (ns ++ m ∷ []) h ≡ new_number offset ns h
number_front offset m ns h l = elim (cases_Bool (nat_lt h offset)) [
  | inl t ↦ rw t refl
  | inr f ↦ let k : offset ≤ h = ltb-false h offset f in rw (f, num_front ns m (h - offset) (omega arith)) refl
]

number_end : (offset m : ℕ) (ns : List ℕ) (h : ℕ) → h ≡ offset + length ns → new_number offset (ns ++ m ∷ []) h ≡ m
number_end offset m ns h e =
    let k : h - offset ≡ length ns = omega arith in
    rw (le-ltb h offset (omega arith), k, num_end ns m) refl

module _ (offset : ℕ) (flags : List Bool) (numbers : List ℕ) (cs ds : List (List ℕ)) (d : List ℕ) (many : length ds ≡ offset + length flags) (same : length numbers ≡ length flags) (s : Stands offset flags numbers cs ds) where
  old_stands : (b : Bool) (m h : ℕ) (c : List ℕ) → slice_get ds h ≡ Some c → is_usable offset (flags ++ b ∷ []) h ≡ true → slice_get cs (new_number offset (numbers ++ m ∷ []) h) ≡ Some c
  old_stands b m h c e u =
      let l = some_within ds h c e in
      let k = s h c e (sym (usable_front offset flags b h (omega arith)) ∙ u) in
      rw (number_front offset m numbers h (omega arith)) k

  stands_kept : Stands offset (flags ++ true ∷ []) (numbers ++ length cs ∷ []) (cs ++ d ∷ []) (ds ++ d ∷ [])
  stands_kept h c e u = elim (get_cases ds d c h e) [
    | inl z ↦ get_front cs d c (new_number offset (numbers ++ length cs ∷ []) h) (old_stands true (length cs) h c z u)
    | inr z ↦ rw (number_end offset (length cs) numbers h (omega arith)) (get_end cs d ∙ ap (λ (x : List ℕ). Some x) z.1)
  ]

  stands_dropped : Stands offset (flags ++ false ∷ []) (numbers ++ 0 ∷ []) cs (ds ++ d ∷ [])
  stands_dropped h c e u = elim (get_cases ds d c h e) [
    | inl z ↦ old_stands false 0 h c z u
    | inr z ↦ absurd (false≢true (sym (usable_end offset flags false h (omega arith)) ∙ u))
  ]

all_has : (f : ℕ → Bool) (hs : List ℕ) (h : ℕ) → list_all f hs ≡ true → is_among hs h ≡ true → f h ≡ true
all_has f [] h l a = absurd (false≢true a)
all_has f (x ∷ hs) h l a =
    let p = and_parts (f x) (list_all f hs) l in
    elim (or_cases (x == h) (is_among hs h) a) [
      | inl e ↦ ap f (sym (eqb-true x h e)) ∙ p.0
      | inr e ↦ all_has f hs h p.1 e
    ]

-- a line follows as well from the kept clauses
follows_kept : (offset : ℕ) (flags : List Bool) (numbers : List ℕ) (cs ds : List (List ℕ)) (line : Line) → Stands offset flags numbers cs ds → list_all (is_usable offset flags) line.hints ≡ true → follows ds line ≡ true → follows cs (renumbered offset numbers line) ≡ true
follows_kept offset flags numbers cs ds line s u f =
    let p = and_parts (not (is_tautology line.clause)) (hints_refute ds line.clause line.hints) f in
    let same = hints_renumbered cs ds (new_number offset numbers) line.hints line.clause (λ h a.
    let there = hint_there ds line.hints line.clause h p.1 a in
    s h there.0 there.1 (all_has (is_usable offset flags) line.hints h u a) ∙ sym there.1) in
    rw (p.0, same, p.1) refl

or_not : (b u : Bool) → b ≡ true → (not b || u) ≡ true → u ≡ true
or_not true u e h = h
or_not false u e h = absurd (false≢true e)

pub kept_accepted : (offset : ℕ) (flags : List Bool) (numbers : List ℕ) (cs ds : List (List ℕ)) (needed : List Bool) (lines : List Line) → length ds ≡ offset + length flags → length numbers ≡ length flags → Stands offset flags numbers cs ds → accepts ds lines ≡ true → uses_kept offset flags needed lines ≡ true → accepts cs (kept_lines offset numbers needed lines (length cs)) ≡ true
kept_accepted offset flags numbers cs ds [] lines many same s a u = refl
kept_accepted offset flags numbers cs ds (b ∷ needed) [] many same s a u = refl
kept_accepted offset flags numbers cs ds (true ∷ needed) (line ∷ lines) many same s a u =
    let p = and_parts (follows ds line) (accepts (ds ++ line.clause ∷ []) lines) a in
    let q = and_parts (not true || list_all (is_usable offset flags) line.hints) (uses_kept offset (flags ++ true ∷ []) needed lines) u in
    let here = follows_kept offset flags numbers cs ds line s q.0 p.0 in
    let rest = kept_accepted offset (flags ++ true ∷ []) (numbers ++ length cs ∷ []) (cs ++ line.clause ∷ []) (ds ++ line.clause ∷ []) needed lines
    (omega (arith, length-append ds (line.clause ∷ []), length-append flags (true ∷ [])))
    (omega (arith, length-append numbers (length cs ∷ []), length-append flags (true ∷ [])))
    (stands_kept offset flags numbers cs ds line.clause many same s) p.1 q.1 in
    let n : length (cs ++ line.clause ∷ []) ≡ length cs + 1 = length-append cs (line.clause ∷ []) in
    rw here (ap (λ k. accepts (cs ++ line.clause ∷ []) (kept_lines offset (numbers ++ length cs ∷ []) needed lines k)) (sym n) ∙ rest)
kept_accepted offset flags numbers cs ds (false ∷ needed) (line ∷ lines) many same s a u =
    let p = and_parts (follows ds line) (accepts (ds ++ line.clause ∷ []) lines) a in
    kept_accepted offset (flags ++ false ∷ []) (numbers ++ 0 ∷ []) cs (ds ++ line.clause ∷ []) needed lines
    (omega (arith, length-append ds (line.clause ∷ []), length-append flags (false ∷ [])))
    (omega (arith, length-append numbers (0 ∷ []), length-append flags (false ∷ [])))
    (stands_dropped offset flags numbers cs ds line.clause many same s) p.1 u

-- each kept line but the last is named by a later kept one, where the first line has this number
abbrev pub all_used : ℕ → List Bool → List Line → Bool
all_used id [] lines = true
all_used id (b ∷ flags) [] = true
all_used id (b ∷ flags) (line ∷ lines) = (not b || is_empty_list lines || is_hinted id (items_where_true flags lines)) && all_used (id + 1) flags lines

-- the last line is kept and alone is empty
abbrev pub ends_well : List Bool → List Line → Bool
ends_well [] lines = false
ends_well (b ∷ flags) [] = false
ends_well (b ∷ flags) (line ∷ lines) = if is_empty_list lines then (b && is_empty_line line) else (not (is_empty_line line) && ends_well flags lines)

among_map : (f : ℕ → ℕ) (hs : List ℕ) (h t : ℕ) → f h ≡ t → is_among hs h ≡ true → is_among (map f hs) t ≡ true
among_map f [] h t e a = absurd (false≢true a)
among_map f (x ∷ hs) h t e a = elim (or_cases (x == h) (is_among hs h) a) [
  | inl z ↦ or_left _ _ (eq-eqb (f x) t (ap f (eqb-true x h z) ∙ e))
  | inr z ↦ or_right _ _ (among_map f hs h t e z)
]

hinted_kept : (offset : ℕ) (numbers : List ℕ) (needed : List Bool) (lines : List Line) (next k t : ℕ) → k < length numbers → slice_index_or numbers k 0 ≡ t → is_hinted (offset + k) (items_where_true needed lines) ≡ true → is_hinted t (kept_lines offset numbers needed lines next) ≡ true
hinted_kept offset numbers [] lines next k t l e h = absurd (false≢true h)
hinted_kept offset numbers (b ∷ needed) [] next k t l e h = absurd (false≢true h)
hinted_kept offset numbers (true ∷ needed) (line ∷ lines) next k t l e h =
    let at : new_number offset numbers (offset + k) ≡ t = let z : offset + k - offset ≡ k = omega arith in rw (le-ltb (offset + k) offset (omega arith), z) e in
    elim (or_cases (is_among line.hints (offset + k)) (is_hinted (offset + k) (items_where_true needed lines)) h) [
      | inl z ↦ or_left _ _ (among_map (new_number offset numbers) line.hints (offset + k) t at z)
      | inr z ↦ or_right _ _ (hinted_kept offset (numbers ++ next ∷ []) needed lines (next + 1) k t (omega (arith, length-append numbers (next ∷ []))) (num_front numbers next k l ∙ e) z)
    ]
hinted_kept offset numbers (false ∷ needed) (line ∷ lines) next k t l e h =
    hinted_kept offset (numbers ++ 0 ∷ []) needed lines next k t (omega (arith, length-append numbers (0 ∷ []))) (num_front numbers 0 k l ∙ e) h

trimmed_some : (id : ℕ) (lines : List Line) → is_trimmed id lines ≡ true → is_empty_list lines ≡ false
trimmed_some id [] h = absurd (false≢true h)
trimmed_some id (x ∷ lines) h = refl

pub kept_trimmed : (offset : ℕ) (numbers : List ℕ) (needed : List Bool) (lines : List Line) (next : ℕ) → all_used (offset + length numbers) needed lines ≡ true → ends_well needed lines ≡ true → is_trimmed next (kept_lines offset numbers needed lines next) ≡ true
kept_trimmed offset numbers [] lines next u e = absurd (false≢true e)
kept_trimmed offset numbers (b ∷ needed) [] next u e = absurd (false≢true e)
kept_trimmed offset numbers (true ∷ []) (line ∷ []) next u e = e
kept_trimmed offset numbers (true ∷ (b ∷ needed)) (line ∷ []) next u e = e
kept_trimmed offset numbers (false ∷ needed) (line ∷ []) next u e = absurd (false≢true e)
kept_trimmed offset numbers (true ∷ needed) (line ∷ (line2 ∷ lines)) next u e =
    let p = and_parts (not (is_empty_line line)) (ends_well needed (line2 ∷ lines)) e in
    let q = and_parts (is_hinted (offset + length numbers) (items_where_true needed (line2 ∷ lines))) (all_used (offset + length numbers + 1) needed (line2 ∷ lines)) u in
    let m : offset + length (numbers ++ next ∷ []) ≡ offset + length numbers + 1 = omega (arith, length-append numbers (next ∷ [])) in
    let rest = kept_trimmed offset (numbers ++ next ∷ []) needed (line2 ∷ lines) (next + 1) (rw m q.1) p.1 in
    let hinted = hinted_kept offset (numbers ++ next ∷ []) needed (line2 ∷ lines) (next + 1) (length numbers) next (omega (arith, length-append numbers (next ∷ []))) (num_end numbers next) q.0 in
    rw (trimmed_some (next + 1) (kept_lines offset (numbers ++ next ∷ []) needed (line2 ∷ lines) (next + 1)) rest, p.0, hinted, rest) refl
kept_trimmed offset numbers (false ∷ needed) (line ∷ (line2 ∷ lines)) next u e =
    let p = and_parts (not (is_empty_line line)) (ends_well needed (line2 ∷ lines)) e in
    let m : offset + length (numbers ++ 0 ∷ []) ≡ offset + length numbers + 1 = omega (arith, length-append numbers (0 ∷ [])) in
    kept_trimmed offset (numbers ++ 0 ∷ []) needed (line2 ∷ lines) next (rw m u) p.1

-- from facts by place to facts by recursion
set_prefix : (fs gs : List Bool) (k : ℕ) → k < length fs → is_set (fs ++ gs) k ≡ is_set fs k
set_prefix [] gs k h = absurd (omega arith)
set_prefix (f ∷ fs) gs zero h = refl
set_prefix (f ∷ fs) gs (suc k) h = set_prefix fs gs k (omega arith)

usable_prefix : (offset : ℕ) (fs gs : List Bool) (h : ℕ) → h < offset + length fs → is_usable offset (fs ++ gs) h ≡ is_usable offset fs h
usable_prefix offset fs gs h l = elim (cases_Bool (nat_lt h offset)) [
  | inl t ↦ rw t refl
  | inr f ↦ let k : offset ≤ h = ltb-false h offset f in rw (f, set_prefix fs gs (h - offset) (omega arith)) refl
]

all_from : (f : ℕ → Bool) (hs : List ℕ) → ((h : ℕ) → is_among hs h ≡ true → f h ≡ true) → list_all f hs ≡ true
all_from f [] e = refl
all_from f (x ∷ hs) e = rw (e x (or_left _ _ (eq-eqb x x refl)), all_from f hs (λ h a. e h (or_right _ _ a))) refl

abbrev HintsUsable : ℕ → List Bool → List Bool → List Line → Type 0
HintsUsable offset earlier flags lines = (j h : ℕ) (line : Line) → is_set flags j ≡ true → slice_get lines j ≡ Some line → is_among line.hints h ≡ true → (h < offset + length earlier + j) × (is_usable offset (earlier ++ flags) h ≡ true)

usable_rest : (offset : ℕ) (earlier : List Bool) (b : Bool) (flags : List Bool) (line : Line) (lines : List Line) → HintsUsable offset earlier (b ∷ flags) (line ∷ lines) → HintsUsable offset (earlier ++ b ∷ []) flags lines
usable_rest offset earlier b flags line lines u j h l a e m =
    let z = u (suc j) h l a e m in
    (omega (arith, z.0, length-append earlier (b ∷ [])), ap (λ (fs : List Bool). is_usable offset fs h) (append_assoc earlier (b ∷ []) flags) ∙ z.1)

uses_from : (offset : ℕ) (earlier flags : List Bool) (lines : List Line) → HintsUsable offset earlier flags lines → uses_kept offset earlier flags lines ≡ true
uses_from offset earlier [] lines u = refl
uses_from offset earlier (b ∷ flags) [] u = refl
uses_from offset earlier (true ∷ flags) (line ∷ lines) u =
    let here = all_from (is_usable offset earlier) line.hints (λ h a.
    let z = u 0 h line refl refl a in
    sym (usable_prefix offset earlier (true ∷ flags) h (omega (arith, z.0))) ∙ z.1) in
    rw (here, uses_from offset (earlier ++ true ∷ []) flags lines (usable_rest offset earlier true flags line lines u)) refl
uses_from offset earlier (false ∷ flags) (line ∷ lines) u = uses_from offset (earlier ++ false ∷ []) flags lines (usable_rest offset earlier false flags line lines u)

hinted_at : (flags : List Bool) (lines : List Line) (j id : ℕ) (line : Line) → is_set flags j ≡ true → slice_get lines j ≡ Some line → is_among line.hints id ≡ true → is_hinted id (items_where_true flags lines) ≡ true
hinted_at [] lines j id line a e m = absurd (false≢true a)
hinted_at (b ∷ flags) [] j id line a e m = absurd (cc)
hinted_at (true ∷ flags) (x ∷ lines) zero id line a e m = let same : x ≡ line = cc in or_left _ _ (ap (λ (l : Line). is_among l.hints id) same ∙ m)
hinted_at (false ∷ flags) (x ∷ lines) zero id line a e m = absurd (false≢true a)
hinted_at (true ∷ flags) (x ∷ lines) (suc j) id line a e m = or_right _ _ (hinted_at flags lines j id line a e m)
hinted_at (false ∷ flags) (x ∷ lines) (suc j) id line a e m = hinted_at flags lines j id line a e m

abbrev SetUsed : ℕ → List Bool → List Line → Type 0
SetUsed id flags lines = (k : ℕ) → is_set flags k ≡ true → k + 1 < length lines → (j : ℕ) × (line : Line) × (k < j) × (is_set flags j ≡ true) × (slice_get lines j ≡ Some line) × (is_among line.hints (id + k) ≡ true)

set_rest : (id : ℕ) (b : Bool) (flags : List Bool) (x : Line) (lines : List Line) (k j : ℕ) (line : Line) → suc k < j → is_set (b ∷ flags) j ≡ true → slice_get (x ∷ lines) j ≡ Some line → is_among line.hints (id + suc k) ≡ true → (i : ℕ) × (l : Line) × (k < i) × (is_set flags i ≡ true) × (slice_get lines i ≡ Some l) × (is_among l.hints (id + 1 + k) ≡ true)
set_rest id b flags x lines k zero line l a e m = absurd (omega arith)
set_rest id b flags x lines k (suc j) line l a e m =
    let n : id + suc k ≡ id + 1 + k = omega arith in
    (j, line, omega arith, a, e, ap (λ i. is_among line.hints i) (sym n) ∙ m)

used_rest : (id : ℕ) (b : Bool) (flags : List Bool) (x : Line) (lines : List Line) → SetUsed id (b ∷ flags) (x ∷ lines) → SetUsed (id + 1) flags lines
used_rest id b flags x lines u k a l =
    let z = u (suc k) a (omega arith) in
    set_rest id b flags x lines k z.0 z.1 z.2 z.3 z.4 z.5

used_here : (id : ℕ) (b : Bool) (flags : List Bool) (x : Line) (lines : List Line) (j : ℕ) (line : Line) → 0 < j → is_set (b ∷ flags) j ≡ true → slice_get (x ∷ lines) j ≡ Some line → is_among line.hints (id + 0) ≡ true → is_hinted id (items_where_true flags lines) ≡ true
used_here id b flags x lines zero line l a e m = absurd (omega arith)
used_here id b flags x lines (suc j) line l a e m =
    let n : id + 0 ≡ id = omega arith in
    hinted_at flags lines j id line a e (ap (λ i. is_among line.hints i) (sym n) ∙ m)

used_none : (id : ℕ) (flags : List Bool) → all_used id flags [] ≡ true
used_none id [] = refl
used_none id (b ∷ flags) = refl

used_from : (id : ℕ) (flags : List Bool) (lines : List Line) → SetUsed id flags lines → all_used id flags lines ≡ true
used_from id [] lines u = refl
used_from id (b ∷ flags) [] u = refl
used_from id (false ∷ flags) (x ∷ lines) u = used_from (id + 1) flags lines (used_rest id false flags x lines u)
used_from id (true ∷ flags) (x ∷ []) u = used_none (id + 1) flags
used_from id (true ∷ flags) (x ∷ (y ∷ lines)) u =
    let z = u 0 refl (omega arith) in
    let here = used_here id true flags x (y ∷ lines) z.0 z.1 z.2 z.3 z.4 z.5 in
    rw (here, used_from (id + 1) flags (y ∷ lines) (used_rest id true flags x (y ∷ lines) u)) refl

ends_from : (last : ℕ) (flags : List Bool) (lines : List Line) → length lines ≡ suc last → length flags ≡ suc last → is_set flags last ≡ true → list_any is_empty_line (take last lines) ≡ false → list_any is_empty_line lines ≡ true → ends_well flags lines ≡ true
ends_from last [] lines n m a before e = absurd (omega arith)
ends_from last (b ∷ flags) [] n m a before e = absurd (omega arith)
ends_from zero (b ∷ flags) (x ∷ []) n m a before e = rw (a, or_false (is_empty_line x) e) refl
  where
    or_false : (t : Bool) → (t || false) ≡ true → t ≡ true
    or_false true h = refl
    or_false false h = h
ends_from zero (b ∷ flags) (x ∷ (y ∷ lines)) n m a before e = absurd (omega arith)
ends_from (suc last) (b ∷ flags) (x ∷ []) n m a before e = absurd (omega arith)
ends_from (suc last) (b ∷ flags) (x ∷ (y ∷ lines)) n m a before e =
    let p = or_parts (is_empty_line x) (list_any is_empty_line (take last (y ∷ lines))) before in
    let f : list_any is_empty_line (y ∷ lines) ≡ true = elim (or_cases (is_empty_line x) (list_any is_empty_line (y ∷ lines)) e) [
      | inl t ↦ absurd (false≢true (sym p.0 ∙ t))
      | inr t ↦ t
    ] in
    rw (p.0, ends_from last flags (y ∷ lines) (omega arith) (omega arith) a p.1 f) refl

trimmed_empty : (id : ℕ) (lines : List Line) → is_trimmed id lines ≡ true → list_any is_empty_line lines ≡ true
trimmed_empty id [] h = absurd (false≢true h)
trimmed_empty id (x ∷ []) h = or_left _ _ h
trimmed_empty id (x ∷ (y ∷ lines)) h =
    let p = and_parts (not (is_empty_line x) && is_hinted id (y ∷ lines)) (is_trimmed (id + 1) (y ∷ lines)) h in
    or_right _ _ (trimmed_empty (id + 1) (y ∷ lines) p.1)

pub accepts_take : (cs : List (List ℕ)) (n : ℕ) (lines : List Line) → accepts cs lines ≡ true → accepts cs (take n lines) ≡ true
accepts_take cs zero lines a = refl
accepts_take cs (suc n) [] a = refl
accepts_take cs (suc n) (x ∷ lines) a =
    let p = and_parts (follows cs x) (accepts (cs ++ x.clause ∷ []) lines) a in
    rw (p.0, accepts_take (cs ++ x.clause ∷ []) n lines p.1) refl

-- what is kept of lines that end in their only empty one
pub kept_good : (cs : List (List ℕ)) (last : ℕ) (lines : List Line) (needed : List Bool) → accepts cs lines ≡ true → length lines ≡ suc last → list_any is_empty_line (take last lines) ≡ false → list_any is_empty_line lines ≡ true → AreNeeded (length cs) lines needed → (refutes cs (kept_lines (length cs) [] needed lines (length cs)) ≡ true) × (is_trimmed (length cs) (kept_lines (length cs) [] needed lines (length cs)) ≡ true)
kept_good cs last lines needed a n before empty r =
    let offset = length cs in
    let earlier = accepts_earlier cs lines a in
    let usable : HintsUsable offset [] needed lines = λ j h line s e m. (
      omega (arith, earlier j h line e m),
      elim (cases_Bool (nat_lt h offset)) as (λ _. is_usable offset needed h ≡ true) [
        | inl t ↦ or_left _ _ t
        | inr f ↦ or_right _ _ (r.closed j h line (omega arith) s e m (ltb-false h offset f))
      ],
    ) in
    let stands : Stands offset [] [] cs cs = λ h c e u. rw (lt-ltb h offset (some_within cs h c e)) e in
    let accepted = kept_accepted offset [] [] cs cs needed lines (omega arith) refl stands a (uses_from offset [] needed lines usable) in
    let used : SetUsed (offset + 0) needed lines = λ k s l.
    let z = r.used k s l in
    (z.0, z.1, z.2, z.4, z.5, ap (λ i. is_among z.1.hints i) (same k) ∙ z.6) in
    let ends = ends_from last needed lines n (omega (arith, r.same_length)) (ap (is_set needed) (lastly n) ∙ r.last) before empty in
    let trimmed = kept_trimmed offset [] needed lines offset (used_from (offset + 0) needed lines used) ends in
    (rw (accepted, trimmed_empty offset (kept_lines offset [] needed lines offset) trimmed) refl, trimmed)
  where
    same : (k : ℕ) → length cs + 0 + k ≡ length cs + k
    same k = omega arith

    lastly : length lines ≡ suc last → last ≡ length lines - 1
    lastly e = omega arith

-- the backward pass over one line
some_line : (lines : List Line) (i : ℕ) (line : Line) → slice_get lines i ≡ Some line → i < length lines
some_line [] i line e = absurd (cc)
some_line (x ∷ lines) zero line e = omega arith
some_line (x ∷ lines) (suc i) line e = let ih = some_line lines i line e in omega (arith, ih)

module _ (offset : ℕ) (lines : List Line) (needed : List Bool) (p : ℕ) where
  pub closed_end : length lines ≤ p → ClosedFrom offset lines needed p
  closed_end l j h line a b e m o = absurd (omega (arith, some_line lines j line e))

  pub pass_closed : is_set needed p ≡ false → ClosedFrom offset lines needed (p + 1) → ClosedFrom offset lines needed p
  pass_closed f c j h line a b e m o = elim (cases_Bool (j == p)) [
    | inl z ↦ absurd (false≢true (sym f ∙ ap (is_set needed) (sym (eqb-true j p z)) ∙ b))
    | inr z ↦ c j h line (let ne : j ≡ p → ⊥ = λ q. false≢true (sym z ∙ eq-eqb j p q) in omega (arith, ne)) b e m o
  ]

  pub pass_used : UsedFrom offset lines needed (p + 1) → UsedFrom offset lines needed p
  pass_used u k a l = let z = u k a l in (z.0, z.1, z.2, omega (arith, z.3), z.4, z.5, z.6)

  module _ (marked : List Bool) (line : Line) (at : slice_get lines p ≡ Some line) (marked_p : is_set needed p ≡ true) (marks : (k : ℕ) → is_set marked k ≡ (is_set needed k || is_among line.hints (offset + k))) (earlier : HintsEarlier offset lines) where
    pub mark_closed : ClosedFrom offset lines needed (p + 1) → ClosedFrom offset lines marked p
    mark_closed c j h l a b e m o =
        let back : offset + (h - offset) ≡ h = omega arith in
        elim (cases_Bool (j == p)) [
          | inl z ↦
              let same : l ≡ line = let y : slice_get lines p ≡ Some l = ap (λ i. slice_get lines i) (sym (eqb-true j p z)) ∙ e in cc in
              marks (h - offset) ∙ or_right (is_set needed (h - offset)) (is_among line.hints (offset + (h - offset))) (ap (λ i. is_among line.hints i) back ∙ ap (λ (x : Line). is_among x.hints h) (sym same) ∙ m)
          | inr z ↦
              let ne : j ≡ p → ⊥ = λ q. false≢true (sym z ∙ eq-eqb j p q) in
              let later : p + 1 ≤ j = omega (arith, ne) in
              elim (or_cases (is_set needed j) (is_among line.hints (offset + j)) (sym (marks j) ∙ b)) [
                | inl y ↦ marks (h - offset) ∙ or_left _ _ (c j h l later y e m o)
                | inr y ↦ absurd (omega (arith, earlier p (offset + j) line at y))
              ]
        ]

    pub mark_used : UsedFrom offset lines needed (p + 1) → UsedFrom offset lines marked p
    mark_used u k a l = elim (or_cases (is_set needed k) (is_among line.hints (offset + k)) (sym (marks k) ∙ a)) [
      | inl y ↦ let z = u k y l in (z.0, z.1, z.2, omega (arith, z.3), marks z.0 ∙ or_left _ _ z.4, z.5, z.6)
      | inr y ↦ (p, line, omega (arith, earlier p (offset + k) line at y), omega arith, marks p ∙ or_left _ _ marked_p, at, y)
    ]

-- one more hint is marked
pub among_index : (hs : List ℕ) (i : ℕ) → i < length hs → is_among hs (slice_index_or hs i 0) ≡ true
among_index [] i l = absurd (omega arith)
among_index (x ∷ hs) zero l = or_left _ _ (eq-eqb x x refl)
among_index (x ∷ hs) (suc i) l = or_right _ _ (among_index hs i (omega arith))

mark_set : (fs : List Bool) (p k : ℕ) → p < length fs → is_set (set fs p true) k ≡ (is_set fs k || (p == k))
mark_set [] p k l = absurd (omega arith)
mark_set (f ∷ fs) zero zero l = grind (arith, eqb-true)
mark_set (f ∷ fs) zero (suc k) l = grind (arith, eqb-true)
mark_set (f ∷ fs) (suc p) zero l = grind (arith, eqb-true)
mark_set (f ∷ fs) (suc p) (suc k) l = let ih = mark_set fs p k (omega arith) in grind (arith, ih, eqb-true)

or-assoc : (a b c : Bool) → ((a || b) || c) ≡ (a || (b || c))
or-assoc true b c = refl
or-assoc false b c = refl

shifted : (offset h k : ℕ) → offset ≤ h → (h - offset == k) ≡ (h == offset + k)
shifted offset h k l = grind (arith, eqb-true)

never : (offset h k : ℕ) → h < offset → (h == offset + k) ≡ false
never offset h k l = grind (arith, eqb-true)

or-false : (b : Bool) → (b || false) ≡ b
or-false true = refl
or-false false = refl

pub mark_then : (old now : List Bool) (hints : List ℕ) (i offset : ℕ) → i < length hints → ((k : ℕ) → is_set now k ≡ (is_set old k || is_among (take i hints) (offset + k))) → offset ≤ get_or hints i 0 → get_or hints i 0 - offset < length now → (k : ℕ) → is_set (set now (get_or hints i 0 - offset) true) k ≡ (is_set old k || is_among (take (i + 1) hints) (offset + k))
mark_then old now hints i offset within so_far above below k =
    let h = get_or hints i 0 in
    let grown : is_among (take (i + 1) hints) (offset + k) ≡ (is_among (take i hints) (offset + k) || (h == offset + k)) = ap (λ (hs : List ℕ). is_among hs (offset + k)) (take_more hints i 0 within) ∙ is_among-push (take i hints) h (offset + k) in
    mark_set now (h - offset) k below
    ∙ ap (λ b. b || (h - offset == k)) (so_far k)
    ∙ ap (λ b. (is_set old k || is_among (take i hints) (offset + k)) || b) (shifted offset h k above)
    ∙ or-assoc (is_set old k) (is_among (take i hints) (offset + k)) (h == offset + k)
    ∙ ap (λ b. is_set old k || b) (sym grown)

pub mark_else : (old now : List Bool) (hints : List ℕ) (i offset : ℕ) → i < length hints → ((k : ℕ) → is_set now k ≡ (is_set old k || is_among (take i hints) (offset + k))) → get_or hints i 0 < offset → (k : ℕ) → is_set now k ≡ (is_set old k || is_among (take (i + 1) hints) (offset + k))
mark_else old now hints i offset within so_far below k =
    let h = get_or hints i 0 in
    let grown : is_among (take (i + 1) hints) (offset + k) ≡ (is_among (take i hints) (offset + k) || (h == offset + k)) = ap (λ (hs : List ℕ). is_among hs (offset + k)) (take_more hints i 0 within) ∙ is_among-push (take i hints) h (offset + k) in
    let same : (is_among (take i hints) (offset + k) || (h == offset + k)) ≡ is_among (take i hints) (offset + k) = ap (λ b. is_among (take i hints) (offset + k) || b) (never offset h k below) ∙ or-false (is_among (take i hints) (offset + k)) in
    so_far k ∙ ap (λ b. is_set old k || b) (sym (grown ∙ same))

-- from what code reads to places in lists
pub set_from : (fs : List Bool) (p : ℕ) (d : Bool) → p < length fs → d ≡ get_or fs p d → is_set fs p ≡ d
set_from [] p d l e = absurd (omega arith)
set_from (f ∷ fs) zero d l e = sym e
set_from (f ∷ fs) (suc p) d l e = set_from fs p d (omega arith) e

pub line_from : (lines : List Line) (p : ℕ) (line : Line) → p < length lines → line ≡ get_or lines p line → slice_get lines p ≡ Some line
line_from [] p line l e = absurd (omega arith)
line_from (x ∷ lines) zero line l e = ap (λ (y : Line). Some y) (sym e)
line_from (x ∷ lines) (suc p) line l e = line_from lines p line (omega arith) e

pub whole : (n : ℕ) (new old : List Bool) → length new ≡ n → length old ≡ n → take n (new ++ drop (length new) old) ≡ new
whole n new old a b = ap (λ (fs : List Bool). take n (new ++ fs)) (drop_all (length new) old (omega arith)) ∙ ap (λ (fs : List Bool). take n fs) (append-nil new) ∙ take_all n new (omega arith)

take-take : (m n : ℕ) (xs : List Line) → m ≤ n → take m (take n xs) ≡ take m xs
take-take zero n xs l = refl
take-take (suc m) zero xs l = absurd (omega arith)
take-take (suc m) (suc n) [] l = refl
take-take (suc m) (suc n) (x ∷ xs) l = ap (λ (ys : List Line). x ∷ ys) (take-take m n xs (omega arith))

-- the whole trimmer
pub log_good : (cs : List (List ℕ)) (all : List Line) (last offset : ℕ) (needed : List Bool) (kept : List Line) → offset ≡ length cs → refutes cs all ≡ true → last < length all → list_any is_empty_line (take last all) ≡ false → list_any is_empty_line (take (last + 1) all) ≡ true → AreNeeded offset (take (last + 1) all) needed → kept ≡ kept_lines offset [] needed (take (last + 1) all) offset → (refutes cs kept ≡ true) × (is_trimmed (length cs) kept ≡ true)
log_good cs all last offset needed kept o r within before empty n k =
    let lines = take (last + 1) all in
    let parts = and_parts (accepts cs all) (list_any is_empty_line all) r in
    let early : list_any is_empty_line (take last lines) ≡ false = ap (λ (ls : List Line). list_any is_empty_line ls) (take-take last (last + 1) all (omega arith)) ∙ before in
    let long : length lines ≡ suc last = omega (arith, length-take-le (last + 1) all) in
    let good = kept_good cs last lines needed (accepts_take cs (last + 1) all parts.0) long early empty (subst (λ x. AreNeeded x lines needed) o n) in
    let same : kept ≡ kept_lines (length cs) [] needed lines (length cs) = k ∙ ap (λ x. kept_lines x [] needed lines x) o in
    (ap (λ (ls : List Line). refutes cs ls) same ∙ good.0, ap (λ (ls : List Line). is_trimmed (length cs) ls) same ∙ good.1)

-- a log with a line that doesn't follow refutes nothing
accepts_bad : (cs : List (List ℕ)) (lines : List Line) (i : ℕ) (line : Line) → slice_get lines i ≡ Some line → follows (cs ++ clauses_of (take i lines)) line ≡ false → accepts cs lines ≡ false
accepts_bad cs [] i line e f = absurd (cc)
accepts_bad cs (x ∷ lines) zero line e f =
    let same : x ≡ line = cc in
    let here : follows cs x ≡ false = ap (λ (y : Line). follows cs y) same ∙ ap (λ (ds : List (List ℕ)). follows ds line) (sym (append-nil cs)) ∙ f in
    ap (λ b. b && accepts (cs ++ x.clause ∷ []) lines) here
accepts_bad cs (x ∷ lines) (suc i) line e f =
    let ih = accepts_bad (cs ++ x.clause ∷ []) lines i line e (ap (λ (ds : List (List ℕ)). follows ds line) (append_assoc cs (x.clause ∷ []) (clauses_of (take i lines))) ∙ f) in
    ap (λ b. follows cs x && b) ih ∙ and-false (follows cs x)
  where
    and-false : (b : Bool) → (b && false) ≡ false
    and-false true = refl
    and-false false = refl

pub bad_refutes : (cs : List (List ℕ)) (lines : List Line) (i : ℕ) → IsFirstBad cs lines i → refutes cs lines ≡ false
bad_refutes cs lines i b = ap (λ a. a && list_any is_empty_line lines) (accepts_bad cs lines i b.1.0 b.1.1 b.1.2)
