-- The names of a run's choices.
use Rattle.std.proofs.Common.{◌≡◌, ℕ, zero, suc, ◌+◌, Bool, true, false, if◌then◌else◌, List, [], ◌∷◌, ◌++◌, length, slice_get, Option, None, Some, option_map, arith, refl, sym, ◌∙◌, ap, subst, inl, inr, ◌⊎◌}
use Rattle.std.specs.List.{list_all}
use Rattle.std.proofs.lemmas.List.Folds.{list_all-append}
use Rattle.hy_val.specs.NodeSorts.{is_sort}
use Rattle.hy_val.specs.Values.{has_sort}
use Rattle.hy_val.specs.declared.expr.Var.{Var}
use Rattle.hy_val.specs.declared.expr.Var.TheVariants.{Const, Global, Local}
use Rattle.hy_val.specs.declared.sort.Sort.{Sort}
use Rattle.hy_val.specs.declared.value.Value.{Value}
use Rattle.src_prog.specs.Program.{Program}
use Rattle.src_prog.specs.Scope.{sorts_of, locals_of}
use Rattle.src_prog.specs.Shape.{is_program, names_fit, scope_of}
use Rattle.hy_val.specs.Scope.{are_numbered, sort_of_target}
use Rattle.src_prog.specs.declared.proc.Named.{Named}
use Rattle.src_prog.specs.declared.proc.SrcProc.{SrcProc}
use Rattle.hy_val.proofs.Booleans.{and-second, and-both, all-at}
use Rattle.src_run.proofs.Programs.{names_of_proc, names_of_consts, names_of_globals}
use Rattle.src_run.proofs.Sorting.{begin_sorted, tick_sorted, choice_sorted}
use Rattle.src_run.proofs.Takes.{local_sort}
use Rattle.src_run.specs.declared.machine.Choice.{Choice}
use Rattle.src_run.specs.declared.machine.Choice.TheVariants.{Go, Val}
use Rattle.src_run.specs.declared.machine.Status.{Status}
use Rattle.src_run.specs.declared.machine.Status.TheVariants.{Going, Ended, Failed, Blocked, Cut, BadChoice}
use Rattle.src_run.specs.Machine.{Config, Frame, Want, AConst, AGlobal, ALocal, AVariable, ATarget, Turn, Stands, GoesOn, tick, take_choice, bad, turn, going, over, after, within, begin}
use Rattle.src_run.specs.Names.{Name, name_at, name_of, names_behind, names_within, turn_names, local_names}
use Rattle.src_run.specs.Sorted.{AreSorted}
use Rattle.src_law.specs.AskedNames.{NamesAreUnique, NamesAreOfChoices, Declares, IsTakenBy, AreTakenBy}
use Rattle.src_law.specs.HeldValues.{AsksNext}
use Rattle.src_law.specs.Statuses.{AreTaken}
use Rattle.src_law.proofs.Holding.{sorted_asks}
use Rattle.src_law.proofs.Taken.{Took, tick_took, choice_took, begin_took}

-- ---- one list of names

abbrev MoreNames : ℕ → Program → ℕ → Type 0
MoreNames n prog bound = (index : ℕ) (c : Config) (choices : List Choice) (names : List Name) → names_within n prog bound index c choices ≡ Some names → names_within (suc n) prog bound index c choices ≡ Some names

more_behind : (n : ℕ) (prog : Program) (bound : ℕ) (front names : List Name) → MoreNames n prog bound → (t : Turn)
    → names_behind front (λ i d xs. names_within n prog bound i d xs) t ≡ Some names → names_behind front (λ i d xs. names_within (suc n) prog bound i d xs) t ≡ Some names
more_behind n prog bound front names f (Stands d) h = h
more_behind n prog bound front names f (GoesOn i d xs) h = at (names_within n prog bound i d xs) refl h
  where
    at : (o : Option (List Name)) → names_within n prog bound i d xs ≡ o → option_map (λ more. front ++ more) o ≡ Some names → option_map (λ more. front ++ more) (names_within (suc n) prog bound i d xs) ≡ Some names
    at None e k = cc
    at (Some more) e k = ap (option_map (λ more. front ++ more)) (f i d xs more e) ∙ k

more_names : (n : ℕ) (prog : Program) (bound : ℕ) → MoreNames n prog bound
more_names zero prog bound index c choices names h = cc
more_names (suc n) prog bound index c choices names h =
    more_behind n prog bound (turn_names prog c c.status choices) names (more_names n prog bound) (turn prog bound index c c.status choices) h

names_more : (k n : ℕ) (prog : Program) (bound index : ℕ) (c : Config) (choices : List Choice) (names : List Name) → names_within n prog bound index c choices ≡ Some names → names_within (k + n) prog bound index c choices ≡ Some names
names_more zero n prog bound index c choices names h = let e : zero + n ≡ n = omega arith in rw e h
names_more (suc k) n prog bound index c choices names h =
    let e : suc k + n ≡ suc (k + n) = omega arith in
    rw e (more_names (k + n) prog bound index c choices names (names_more k n prog bound index c choices names h))

pub names_are_unique : NamesAreUnique
names_are_unique prog entry bound choices one other x y =
    let c = begin prog entry in
    let a = names_more y.turns x.turns prog bound 0 c choices one x.are in
    let b = names_more x.turns y.turns prog bound 0 c choices other y.are in
    let e : y.turns + x.turns ≡ x.turns + y.turns = omega arith in
    let same : Some one ≡ Some other = sym a ∙ (ap (λ n. names_within n prog bound 0 c choices) e ∙ b) in
    cc

-- ---- the variable that is asked for

-- the variable at a place, and its sort
named_at : (names : List Named) (n : ℕ) (s : Sort) → slice_get (sorts_of names) n ≡ Some s → (v : Named) × (slice_get names n ≡ Some v) × (v.sort ≡ s)
named_at [] n s e = cc
named_at (v ∷ vs) zero s e = (v, refl, cc)
named_at (v ∷ vs) (suc n) s e = named_at vs n s e

name_is : (names : List Named) (n : ℕ) (v : Named) → slice_get names n ≡ Some v → name_at names n ≡ Some v.name
name_is names n v e = ap (option_map (λ (x : Named). x.name)) e

named_by_sort : (names : List Named) (n : ℕ) (s : Sort) → option_map (λ (name : Named). name.sort) (slice_get names n) ≡ Some s → (v : Named) × (slice_get names n ≡ Some v) × (v.sort ≡ s)
named_by_sort names n s e = at (slice_get names n) refl
  where
    at : (o : Option Named) → slice_get names n ≡ o → (v : Named) × (slice_get names n ≡ Some v) × (v.sort ≡ s)
    at None k = let j = rw k at e in cc
    at (Some v) k = let j = rw k at e in (v, k, cc)

module _ (prog : Program) where
  -- a local of a procedure
  record LocalAt (proc : SrcProc) (p n : ℕ) (sort : Sort) : Type 0 where
    variable : Named
    declared : Declares prog variable
    is_sort : variable.sort ≡ sort
    name : name_at (local_names (slice_get prog.procs p)) n ≡ Some variable.name

  local_at : (proc : SrcProc) (p n : ℕ) (s : Sort) → slice_get prog.procs p ≡ Some proc → slice_get (locals_of proc) n ≡ Some s → LocalAt proc p n s
  local_at proc p n s is e =
      let (v, found, sort) = named_by_sort (proc.ins ++ (proc.outs ++ proc.locals)) n s (sym (local_sort proc n) ∙ e) in
      let here : slice_get (local_names (slice_get prog.procs p)) n ≡ Some v = rw is found in
      record { variable = v; declared = inr (inr (p, n, here)); is_sort = sort; name = name_is (local_names (slice_get prog.procs p)) n v here }

-- ---- the sorts of variables

sort_at : (names : List Named) (n : ℕ) (v : Named) → names_fit names ≡ true → slice_get names n ≡ Some v → is_sort v.sort ≡ true
sort_at names n v fit e = all-at (λ (x : Named). is_sort x.sort) names n v (and-second (are_numbered (length names)) _ fit) e

-- the sorts of each of three lists of names are sorts
all_names : (names more : List Named) → names_fit names ≡ true → list_all (λ (x : Named). is_sort x.sort) more ≡ true → list_all (λ (x : Named). is_sort x.sort) (names ++ more) ≡ true
all_names names more fit h = list_all-append (λ (x : Named). is_sort x.sort) names more ∙ and-both _ _ (and-second (are_numbered (length names)) _ fit) h

local_is_sorted : (prog : Program) (p n : ℕ) (v : Named) (o : Option SrcProc) → is_program prog ≡ true → slice_get prog.procs p ≡ o → slice_get (local_names o) n ≡ Some v → is_sort v.sort ≡ true
local_is_sorted prog p n v None h e k = cc
local_is_sorted prog p n v (Some proc) h e k =
    let (ins, outs, locals) = names_of_proc prog p proc h e in
    all-at (λ (x : Named). is_sort x.sort) (local_names (Some proc)) n v (all_names proc.ins (proc.outs ++ proc.locals) ins (all_names proc.outs proc.locals outs (and-second (are_numbered (length proc.locals)) _ locals))) k

declared_sort : (prog : Program) (v : Named) → is_program prog ≡ true → Declares prog v → is_sort v.sort ≡ true
declared_sort prog v h (inl (n, e)) = sort_at prog.consts n v (names_of_consts prog h) e
declared_sort prog v h (inr (inl (n, e))) = sort_at prog.globals n v (names_of_globals prog h) e
declared_sort prog v h (inr (inr (p, n, e))) = local_is_sorted prog p n v (slice_get prog.procs p) h refl e

module _ (prog : Program) (h : is_program prog ≡ true) (c : Config) where
  -- the variable that is asked for has a name and the sort
  record Asked (want : Want) (sort : Sort) : Type 0 where
    variable : Named
    declared : Declares prog variable
    is_sort : variable.sort ≡ sort
    name : name_of prog c want ≡ Some variable.name

  const_asked : (s : Sort) → slice_get (sorts_of prog.consts) (length c.consts) ≡ Some s → Asked (AConst s) s
  const_asked s e =
      let (v, is, sort) = named_at prog.consts (length c.consts) s e in
      record { variable = v; declared = inl (length c.consts, is); is_sort = sort; name = name_is prog.consts (length c.consts) v is }

  global_asked : (s : Sort) → slice_get (sorts_of prog.globals) (length c.globals) ≡ Some s → Asked (AGlobal s) s
  global_asked s e =
      let (v, is, sort) = named_at prog.globals (length c.globals) s e in
      record { variable = v; declared = inr (inl (length c.globals, is)); is_sort = sort; name = name_is prog.globals (length c.globals) v is }

  local_asked : (s : Sort) (f : Frame) (rest : List Frame) (proc : SrcProc) → c.frames ≡ f ∷ rest → slice_get prog.procs f.proc ≡ Some proc → slice_get (locals_of proc) (length f.locals) ≡ Some s → Asked (ALocal s) s
  local_asked s f rest proc are is e =
      let l = local_at prog proc f.proc (length f.locals) s is e in
      record { variable = l.variable; declared = l.declared; is_sort = l.is_sort; name = rw are l.name }

  variable_asked : (x : Var) (s : Sort) (f : Frame) (rest : List Frame) (proc : SrcProc) → c.frames ≡ f ∷ rest → slice_get prog.procs f.proc ≡ Some proc → Some s ≡ sort_of_target (scope_of prog proc) x → Asked (AVariable x (Some s)) s
  variable_asked (Const n) s f rest proc are is e = cc
  variable_asked (Global n) s f rest proc are is e =
      let (v, found, sort) = named_at prog.globals n s (sym e) in
      record { variable = v; declared = inr (inl (n, found)); is_sort = sort; name = name_is prog.globals n v found }
  variable_asked (Local n) s f rest proc are is e =
      let l = local_at prog proc f.proc n s is (sym e) in
      record { variable = l.variable; declared = l.declared; is_sort = l.is_sort; name = rw are l.name }

  by_sort : (bound index : ℕ) (want : Want) (v : Value) (s : Sort) (d : Config) → Asked want s → (b : Bool) → has_sort v s ≡ b → Took (if b then d else bad index c) → IsTakenBy prog (Val v) (name_of prog c want)
  by_sort bound index want v s d a true k took = subst (IsTakenBy prog (Val v)) (sym a.name) (a.variable, a.declared, refl, declared_sort prog a.variable h a.declared, rw a.is_sort k)
  by_sort bound index want v s d a false k took = absurd took

  -- a choice that is taken is one of what is asked for
  taken_by : (bound index : ℕ) (want : Want) (ws : List Want) (x : Choice) → AsksNext prog c (want ∷ ws) → Took (take_choice prog bound c index want ws x) → IsTakenBy prog x (name_of prog c want)
  taken_by bound index (AConst s) ws (Val v) asks took = by_sort bound index (AConst s) v s _ (const_asked s asks) (has_sort v s) refl took
  taken_by bound index (AGlobal s) ws (Val v) asks took = by_sort bound index (AGlobal s) v s _ (global_asked s asks) (has_sort v s) refl took
  taken_by bound index (ALocal s) ws (Val v) asks took = let (f, proc, i, e) = asks in by_sort bound index (ALocal s) v s _ (local_asked s f i.callers proc i.are i.is_proc e) (has_sort v s) refl took
  taken_by bound index (AVariable x None) ws (Val v) asks took = absurd took
  taken_by bound index (AVariable x (Some s)) ws (Val v) asks took =
      let (f, proc, i, e) = asks in by_sort bound index (AVariable x (Some s)) v s _ (variable_asked x s f i.callers proc i.are i.is_proc e) (has_sort v s) refl took
  taken_by bound index (ATarget ts) ws (Val v) asks took = absurd took
  taken_by bound index (AConst s) ws (Go place) asks took = absurd took
  taken_by bound index (AGlobal s) ws (Go place) asks took = absurd took
  taken_by bound index (ALocal s) ws (Go place) asks took = absurd took
  taken_by bound index (AVariable x s) ws (Go place) asks took = absurd took
  taken_by bound index (ATarget ts) ws (Go place) asks took = tt

-- ---- whole runs

-- the names of a run from here on, each that of what takes its choice
record Names (prog : Program) (bound turns index : ℕ) (c : Config) (choices : List Choice) : Type 0 where
  names : List Name
  are : names_within turns prog bound index c choices ≡ Some names
  taken : AreTakenBy prog choices names

module _ (prog : Program) (bound : ℕ) where
  -- behind a bad choice a run stands
  bad_stands : (n index first : ℕ) (c last : Config) (choices : List Choice) → c.status ≡ BadChoice first → within n prog bound index c choices ≡ Some last → AreTaken last.status → ⊥
  bad_stands zero index first c last choices e r t = cc
  bad_stands (suc n) index first c last choices e r t =
      let stands : turn prog bound index c c.status choices ≡ Stands c = rw e refl in
      let k = rw stands at r in
      let is : c ≡ last = cc in
      let b : last.status ≡ BadChoice first = rw (← is) e in
      let no = rw b at t in
      absurd no

  stands_named : (n index : ℕ) (c d : Config) (choices : List Choice) → turn prog bound index c c.status choices ≡ Stands d → turn_names prog c c.status choices ≡ [] → AreTakenBy prog choices [] → Names prog bound (suc n) index c choices
  stands_named n index c d choices stands none taken = record { names = []; are = rw (stands, none) refl; taken = taken }

  over_named : (n index : ℕ) (c : Config) (choices : List Choice) (last : Config) → turn prog bound index c c.status choices ≡ over index c choices → turn_names prog c c.status choices ≡ []
      → after (λ i d xs. within n prog bound i d xs) (over index c choices) ≡ Some last → AreTaken last.status → Names prog bound (suc n) index c choices
  over_named n index c [] last turns none r t = stands_named n index c c [] turns none tt
  over_named n index c (x ∷ xs) last turns none r t =
      let is : bad index c ≡ last = cc in
      let no : AreTaken (BadChoice index) = subst (λ (d : Config). AreTaken d.status) (sym is) t in
      absurd no

module _ (prog : Program) (h : is_program prog ≡ true) (bound : ℕ) where
  abbrev AreNamed : ℕ → Type 0
  AreNamed n = (index : ℕ) (c : Config) (choices : List Choice) (last : Config) → AreSorted prog c → Took c → within n prog bound index c choices ≡ Some last → AreTaken last.status → Names prog bound n index c choices

  -- one turn in front
  turn_named : (n index next : ℕ) (c d : Config) (xs ys : List Choice) (front : List Name) → turn prog bound index c c.status xs ≡ GoesOn next d ys → turn_names prog c c.status xs ≡ front
      → (k : Names prog bound n next d ys) → AreTakenBy prog xs (front ++ k.names) → Names prog bound (suc n) index c xs
  turn_named n index next c d xs ys front turns names k taken = record { names = front ++ k.names; are = rw (turns, names) (ap (option_map (λ more. front ++ more)) k.are); taken = taken }

  going_named : (n index : ℕ) → AreNamed n → (c : Config) (choices : List Choice) (ws : List Want) (last : Config) → AreSorted prog c → Took c → c.status ≡ Going → c.wants ≡ ws
      → after (λ i d xs. within n prog bound i d xs) (going prog bound index c ws choices) ≡ Some last → AreTaken last.status → Names prog bound (suc n) index c choices
  going_named n index rec c choices [] last sorted took e asks r t =
      let turns : turn prog bound index c c.status choices ≡ GoesOn index (tick prog bound c) choices = rw (e, asks) refl in
      let names : turn_names prog c c.status choices ≡ [] = rw (e, asks) refl in
      let k = rec index (tick prog bound c) choices last (tick_sorted prog h bound c sorted asks) (tick_took prog bound c took) r t in
      turn_named n index index c (tick prog bound c) choices choices [] turns names k k.taken
  going_named n index rec c [] (w ∷ ws) last sorted took e asks r t =
      let turns : turn prog bound index c c.status [] ≡ Stands c = rw (e, asks) refl in
      let names : turn_names prog c c.status [] ≡ [] = rw (e, asks) refl in
      stands_named prog bound n index c c [] turns names tt
  going_named n index rec c (x ∷ xs) (w ∷ ws) last sorted took e asks r t = at (choice_took prog bound c index w ws x took)
    where
      d : Config
      d = take_choice prog bound c index w ws x

      at : Took d ⊎ (d.status ≡ BadChoice index) → Names prog bound (suc n) index c (x ∷ xs)
      at (inr b) = absurd (bad_stands prog bound n (index + 1) index d last xs b r t)
      at (inl now) =
          let turns : turn prog bound index c c.status (x ∷ xs) ≡ GoesOn (index + 1) d xs = rw (e, asks) refl in
          let names : turn_names prog c c.status (x ∷ xs) ≡ name_of prog c w ∷ [] = rw (e, asks) refl in
          let k = rec (index + 1) d xs last (choice_sorted prog bound c index w ws x asks sorted) now r t in
          let taken = taken_by prog h c bound index w ws x (sorted_asks prog c sorted (w ∷ ws) asks) now in
          turn_named n index (index + 1) c d (x ∷ xs) xs (name_of prog c w ∷ []) turns names k (taken, k.taken)

  are_named : (n : ℕ) → AreNamed n
  are_named zero index c choices last sorted took r t = cc
  are_named (suc n) index c choices last sorted took r t = at (are_named n) c.status refl r
    where
      at : AreNamed n → (s : Status) → c.status ≡ s → after (λ i d xs. within n prog bound i d xs) (turn prog bound index c s choices) ≡ Some last → Names prog bound (suc n) index c choices
      at rec Going e k = going_named n index rec c choices c.wants last sorted took e refl k t
      at rec Ended e k = over_named prog bound n index c choices last (rw e refl) (rw e refl) k t
      at rec (Failed p m) e k = over_named prog bound n index c choices last (rw e refl) (rw e refl) k t
      at rec Blocked e k = over_named prog bound n index c choices last (rw e refl) (rw e refl) k t
      at rec Cut e k = over_named prog bound n index c choices last (rw e refl) (rw e refl) k t
      at rec (BadChoice i) e k = absurd (rw e at took)

  -- an entry that is not there
  none_named : (n entry : ℕ) (choices : List Choice) (last : Config) → slice_get prog.procs entry ≡ None → within n prog bound 0 (begin prog entry) choices ≡ Some last → AreTaken last.status → Names prog bound n 0 (begin prog entry) choices
  none_named zero entry choices last e r t = cc
  none_named (suc n) entry choices last e r t =
      let blocked : (begin prog entry).status ≡ Blocked = rw e refl in
      let k : after (λ i d xs. within n prog bound i d xs) (over 0 (begin prog entry) choices) ≡ Some last = rw blocked at r in
      over_named prog bound n 0 (begin prog entry) choices last (rw blocked refl) (rw blocked refl) k t

  begin_named : (n entry : ℕ) (choices : List Choice) (last : Config) → within n prog bound 0 (begin prog entry) choices ≡ Some last → AreTaken last.status → Names prog bound n 0 (begin prog entry) choices
  begin_named n entry choices last r t = at (slice_get prog.procs entry) refl
    where
      at : (o : Option SrcProc) → slice_get prog.procs entry ≡ o → Names prog bound n 0 (begin prog entry) choices
      at None e = none_named n entry choices last e r t
      at (Some proc) e = are_named n 0 (begin prog entry) choices last (begin_sorted prog entry proc e) (begin_took prog entry) r t

pub names_are_of_choices : NamesAreOfChoices
names_are_of_choices prog h entry bound choices status names taken run named =
    let k = begin_named prog h bound run.turns entry choices run.last run.runs (rw run.is taken) in
    let same = names_are_unique prog entry bound choices k.names names (record { turns = run.turns; are = k.are }) named in
    subst (AreTakenBy prog choices) same k.taken
