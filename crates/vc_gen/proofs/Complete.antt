-- From a run that ends to values of the blocks, in an order in which each edge leads on.
use Rattle.std.proofs.Common.{◌≡◌, ℕ, ◌-◌, zero, suc, Bool, true, false, ◌||◌, List, [], ◌∷◌, ◌++◌, map, length, arith, sym, ◌∙◌, ap, refl, subst, inl, inr}
use Rattle.std.specs.Prelude.{Option, None, Some, nat_eq, if◌then◌else◌, slice_get, option_and_then}
use Rattle.std.proofs.lemmas.Bool.Decides.{nat_tests}
use Rattle.std.proofs.lemmas.Grind.{common_steps}
use Rattle.hy_val.specs.declared.expr.Env.{Env}
use Rattle.flat_prog.specs.declared.block.FlatNext.{FlatNext}
use Rattle.flat_prog.specs.declared.block.FlatNext.TheVariants.{Goto, Return}
use Rattle.flat_prog.specs.declared.block.FlatBlock.{FlatBlock}
use Rattle.flat_prog.specs.declared.proc.FlatProc.{FlatProc}
use Rattle.passive_form.specs.Limited.{Limited}
use Rattle.passive_form.specs.Local.{State, alone, AllTaken, walk, pass_all, cmds_of, is_target}
use Rattle.flat_prog.specs.Local.{Request}
use Rattle.flat_prog.specs.Shape.{place_at, place_of}
use Rattle.flat_prog.specs.Ordering.{is_in, Onward}
use Rattle.vc_gen.specs.Fold.{Edge, Given, reached, others, through, closed, fan, out_next, passed, step, fold, Dead, One, choice_count}
use Rattle.vc_gen.proofs.Frames.{and_then_some}
use Rattle.vc_gen.proofs.Edges.{one_reached, one_entered, one_dead, one_right, end_step, end_fold}
use Rattle.vc_gen.proofs.Sound.{number_is}
use Rattle.vc_gen.proofs.Used.{Used, pass_all_used}

-- the choices that lead to a place, one for each target but the last
abbrev pub never : List ℕ → List Bool
never [] = []
never (t ∷ []) = []
never (t ∷ u ∷ ts) = false ∷ never (u ∷ ts)

abbrev pub picks : List ℕ → ℕ → List Bool
picks [] place = []
picks (t ∷ []) place = []
picks (t ∷ u ∷ ts) zero = true ∷ never (u ∷ ts)
picks (t ∷ u ∷ ts) (suc place) = false ∷ picks (u ∷ ts) place

pub dead_never : (env : Env) (ts : List ℕ) → Dead (fan false env ts (never ts))
dead_never env [] = tt
dead_never env (t ∷ []) = (refl, tt)
dead_never env (t ∷ u ∷ ts) = (refl, dead_never env (u ∷ ts))

length_never : (ts : List ℕ) → length (never ts) ≡ length ts - 1
length_never [] = refl
length_never (t ∷ []) = refl
length_never (t ∷ u ∷ ts) = omega (arith, length_never (u ∷ ts))

pub length_picks : (ts : List ℕ) (place : ℕ) → length (picks ts place) ≡ length ts - 1
length_picks [] place = refl
length_picks (t ∷ []) place = refl
length_picks (t ∷ u ∷ ts) zero = omega (arith, length_never (u ∷ ts))
length_picks (t ∷ u ∷ ts) (suc place) = omega (arith, length_picks (u ∷ ts) place)

pub pick_fan : (env : Env) (ts : List ℕ) (place t : ℕ) → slice_get ts place ≡ Some t → One (fan true env ts (picks ts place)) (Some t) env
pick_fan env [] place t h = absurd (grind (arith, common_steps, h))
pick_fan env (u ∷ []) zero t h = inl (refl, h, refl, tt)
pick_fan env (u ∷ []) (suc place) t h = absurd (grind (arith, common_steps, h))
pick_fan env (u ∷ w ∷ ts) zero t h = inl (refl, h, refl, dead_never env (w ∷ ts))
pick_fan env (u ∷ w ∷ ts) (suc place) t h = inr (refl, pick_fan env (w ∷ ts) place t h)

-- the values that a passed block takes
abbrev given : ℕ → {f : State → Option State} {s t : State} → Used f s t → List Bool → Given
given n u cs = record { number = n; values = u.values; results = u.results; choices = cs }

-- the step of a passed block
pub step_is : (flat : Limited) (q : FlatProc) (d : Env) (g : Given) (es : List Edge) (env : Env) (block : FlatBlock) (o : Env) (calls : List Request) →
    One es (Some g.number) env → slice_get q.blocks g.number ≡ Some block →
    pass_all flat q block.cmds (alone env g.values g.results []) ≡ Some (alone o [] [] calls) →
    step flat q d g es ≡ others g.number es ++ out_next block.next true o g.choices
step_is flat q d g es env block o calls one at does =
    ap (λ x. others g.number es ++ passed (through flat q g x) (reached g.number es) (slice_get q.blocks g.number) d g.choices) (one_entered g.number d es env one)
    ∙ ap (λ x. others g.number es ++ passed (through flat q g env) x (slice_get q.blocks g.number) d g.choices) (one_reached g.number es env one)
    ∙ ap (λ x. others g.number es ++ passed (closed (pass_all flat q (cmds_of x) (alone env g.values g.results []))) true x d g.choices) at
    ∙ ap (λ x. others g.number es ++ passed (closed x) true (Some block) d g.choices) does

-- one choice for each target but the last
abbrev pub Each : (Given → Type 0) → List Given → Type 0
Each P [] = Unit {0}
Each P (g ∷ gs) = P g × Each P gs

-- what holds of the values of each block that is passed
abbrev pub Fine : Limited → FlatProc → (Given → Type 0) → Type 0
Fine flat q P = (n : ℕ) (block : FlatBlock) (s m : State) (u : Used (pass_all flat q block.cmds) s m) (cs : List Bool) → slice_get q.blocks n ≡ Some block → length cs ≡ choice_count block.next → P (given n u cs)

abbrev pub Found : Limited → FlatProc → Env → (Given → Type 0) → List ℕ → List Edge → Env → Type 0
Found flat q d P ns es over = (gs : List Given) × (map (λ (g : Given). g.number) gs ≡ ns) × Each P gs × One (fold flat q d gs es) None over

put_first : (flat : Limited) (q : FlatProc) (d : Env) (P : Given → Type 0) (g : Given) (ns : List ℕ) (es fs : List Edge) (over : Env) → P g → step flat q d g es ≡ fs → Found flat q d P ns fs over → Found flat q d P (g.number ∷ ns) es over
put_first flat q d P g ns es fs over good is (gs, numbers, each, one) =
    (g ∷ gs, ap (λ x. g.number ∷ x) numbers, (good, each), subst (λ x. One (fold flat q d gs x) None over) (sym is) one)

-- blocks that are not passed
pub all_dull : (flat : Limited) (q : FlatProc) (d : Env) (dull : ℕ → Given) → ((n : ℕ) → (dull n).number ≡ n) → (P : Given → Type 0) → ((n : ℕ) → P (dull n)) → Fine flat q P → (ns : List ℕ) (es : List Edge) (over : Env) → One es None over → Found flat q d P ns es over
all_dull flat q d dull is P pd ok ns es over one = (map dull ns, same ns, each ns, end_fold flat q d (map dull ns) es over one)
  where
    same : (ns : List ℕ) → map (λ (g : Given). g.number) (map dull ns) ≡ ns
    same [] = refl
    same (n ∷ ns) = ap (λ x. x ∷ map (λ (g : Given). g.number) (map dull ns)) (is n) ∙ ap (λ x. n ∷ x) (same ns)

    each : (ns : List ℕ) → Each P (map dull ns)
    each [] = tt
    each (n ∷ ns) = (pd n, each ns)

-- a run from here that ends
pub record Ending (flat : Limited) (q : FlatProc) (b : ℕ) (path places : List ℕ) (s over : State) : Type 0 where
  pub last : FlatBlock
  pub arrived : State
  pub walks : walk flat q (b ∷ path) places s ≡ Some (Some last, arrived)
  pub passes : pass_all flat q last.cmds arrived ≡ Some over
  pub returns : last.next ≡ Return
  pub taken : AllTaken over

pub split_or : (a b : Bool) → (a || b) ≡ true → a ≡ false → b ≡ true
split_or true b h f = absurd (cc)
split_or false b h f = h

-- the numbers that stand in the order
abbrev Rest : Limited → FlatProc → Env → (Given → Type 0) → List ℕ → State → Type 0
Rest flat q d P ns over = (es : List Edge) (b : ℕ) (path places : List ℕ) (s : State) → One es (Some b) s.env → is_in b ns ≡ true → Ending flat q b path places s over → Found flat q d P ns es over.env

-- the last block
last_here : (flat : Limited) (q : FlatProc) (d : Env) (dull : ℕ → Given) → ((n : ℕ) → (dull n).number ≡ n) → (P : Given → Type 0) → ((n : ℕ) → P (dull n)) → Fine flat q P → (n : ℕ) (ns : List ℕ) (es : List Edge) (s over : State) (block : FlatBlock) →
    One es (Some n) s.env → slice_get q.blocks n ≡ Some block → pass_all flat q block.cmds s ≡ Some over → block.next ≡ Return → Found flat q d P (n ∷ ns) es over.env
last_here flat q d dull is P pd ok n ns es s over block one at passes returns =
    let u = pass_all_used flat q block.cmds s over passes in
    let g : Given = record { number = n; values = u.values; results = u.results; choices = [] } in
    let fs = others n es ++ record { target = None; live = true; env = over.env } ∷ [] in
    put_first flat q d P g ns es fs over.env (ok n block s over u [] at (sym (ap choice_count returns)))
    (step_is flat q d g es s.env block over.env u.calls one at u.does ∙ ap (λ x. others n es ++ out_next x true over.env []) returns)
    (all_dull flat q d dull is P pd ok ns fs over.env (one_right (others n es) (record { target = None; live = true; env = over.env } ∷ []) None over.env (one_dead n es s.env one) (inl (refl, refl, refl, tt))))

next_here : (flat : Limited) (q : FlatProc) (d : Env) (P : Given → Type 0) → Fine flat q P → (n : ℕ) (ns : List ℕ) (es : List Edge) (s m over : State) (block : FlatBlock) (next : FlatNext) (place t : ℕ) (path places : List ℕ) →
    Rest flat q d P ns over → One es (Some n) s.env → slice_get q.blocks n ≡ Some block → pass_all flat q block.cmds s ≡ Some m → block.next ≡ next → place_of next place ≡ Some t →
    is_in t ns ≡ true → Ending flat q t path places m over → Found flat q d P (n ∷ ns) es over.env
next_here flat q d P ok n ns es s m over block Return place t path places rest one at passes next edge later more = cc
next_here flat q d P ok n ns es s m over block (Goto ts) place t path places rest one at passes next edge later more =
    let u = pass_all_used flat q block.cmds s m passes in
    let g : Given = record { number = n; values = u.values; results = u.results; choices = picks ts place } in
    let fs = others n es ++ fan true m.env ts (picks ts place) in
    put_first flat q d P g ns es fs over.env (ok n block s m u (picks ts place) at (length_picks ts place ∙ sym (ap choice_count next)))
    (step_is flat q d g es s.env block m.env u.calls one at u.does ∙ ap (λ x. others n es ++ out_next x true m.env (picks ts place)) next)
    (rest fs t path places m (one_right (others n es) (fan true m.env ts (picks ts place)) (Some t) m.env (one_dead n es s.env one) (pick_fan m.env ts place t edge)) later more)

pub some_pair : (a b : Option FlatBlock) (s t : State) → ◌≡◌ {A = Option (Option FlatBlock × State)} (Some (a, s)) (Some (b, t)) → ◌≡◌ {A = Option FlatBlock × State} (a, s) (b, t)
some_pair a b s t h = cc

pub if_some : (b : Bool) (o : Option (Option FlatBlock × State)) (r : Option FlatBlock × State) → (if b then o else None) ≡ Some r → (b ≡ true) × (o ≡ Some r)
if_some true o r h = (refl, h)
if_some false o r h = cc

number_same : (a n : ℕ) → nat_eq a n ≡ true → a ≡ n
number_same a n h = grind (arith, nat_tests, h)

pub target_is : (o : Option ℕ) (n : ℕ) → is_target o n ≡ true → o ≡ Some n
target_is None n h = cc
target_is (Some a) n h = ap (λ x. Some x) (number_same a n h)

on_path : (flat : Limited) (q : FlatProc) (d : Env) (P : Given → Type 0) → Fine flat q P → (n : ℕ) (ns : List ℕ) (es : List Edge) (s over : State) (o : Option FlatBlock) (place t : ℕ) (path places : List ℕ) (last : FlatBlock) (arrived : State) →
    Rest flat q d P ns over → One es (Some n) s.env → slice_get q.blocks n ≡ o → is_target (place_at o place) t ≡ true → option_and_then (walk flat q (t ∷ path) places) (pass_all flat q (cmds_of o) s) ≡ Some (Some last, arrived) →
    is_in t ns ≡ true → ((m : State) → walk flat q (t ∷ path) places m ≡ Some (Some last, arrived) → Ending flat q t path places m over) → Found flat q d P (n ∷ ns) es over.env
on_path flat q d P ok n ns es s over None place t path places last arrived rest one at edge walks later more = cc
on_path flat q d P ok n ns es s over (Some block) place t path places last arrived rest one at edge walks later more =
    let m = and_then_some (walk flat q (t ∷ path) places) (pass_all flat q block.cmds s) (Some last, arrived) walks in
    next_here flat q d P ok n ns es s m.0 over block block.next place t path places rest one at m.1 refl (target_is (place_of block.next place) t edge) later (more m.0 m.2)

here : (flat : Limited) (q : FlatProc) (d : Env) (dull : ℕ → Given) → ((n : ℕ) → (dull n).number ≡ n) → (P : Given → Type 0) → ((n : ℕ) → P (dull n)) → Fine flat q P → (n : ℕ) (ns : List ℕ) (es : List Edge) (path places : List ℕ) (s over : State) →
    Rest flat q d P ns over → Onward q (n ∷ ns) → One es (Some n) s.env → Ending flat q n path places s over → Found flat q d P (n ∷ ns) es over.env
here flat q d dull is P pd ok n ns es [] [] s over rest on one h =
    let p = some_pair (slice_get q.blocks n) (Some h.last) s h.arrived h.walks in
    let same : s ≡ h.arrived = ap (λ x. x.1) p in
    last_here flat q d dull is P pd ok n ns es s over h.last one (ap (λ x. x.0) p) (ap (pass_all flat q h.last.cmds) same ∙ h.passes) h.returns
here flat q d dull is P pd ok n ns es [] (place ∷ places) s over rest on one h = let w = h.walks in cc
here flat q d dull is P pd ok n ns es (t ∷ path) [] s over rest on one h = let w = h.walks in cc
here flat q d dull is P pd ok n ns es (t ∷ path) (place ∷ places) s over rest on one h =
    let w = if_some (is_target (place_at (slice_get q.blocks n) place) t) (option_and_then (walk flat q (t ∷ path) places) (pass_all flat q (cmds_of (slice_get q.blocks n)) s)) (Some h.last, h.arrived) h.walks in
    on_path flat q d P ok n ns es s over (slice_get q.blocks n) place t path places h.last h.arrived rest one refl w.0 w.1
    (on.0 place t (target_is (place_at (slice_get q.blocks n) place) t w.0))
    (λ m k. record { last = h.last; arrived = h.arrived; walks = k; passes = h.passes; returns = h.returns; taken = h.taken })

by_number : (flat : Limited) (q : FlatProc) (d : Env) (dull : ℕ → Given) → ((n : ℕ) → (dull n).number ≡ n) → (P : Given → Type 0) → ((n : ℕ) → P (dull n)) → Fine flat q P → (n : ℕ) (ns : List ℕ) (over : State) → Rest flat q d P ns over → Onward q (n ∷ ns) →
    (es : List Edge) (b : ℕ) (path places : List ℕ) (s : State) (x : Bool) → nat_eq b n ≡ x → One es (Some b) s.env → is_in b (n ∷ ns) ≡ true → Ending flat q b path places s over → Found flat q d P (n ∷ ns) es over.env
by_number flat q d dull is P pd ok n ns over rest on es b path places s true f one within h =
    let same = number_is b n f in
    here flat q d dull is P pd ok n ns es path places s over rest on (subst (λ x. One es (Some x) s.env) (sym same) one) (subst (λ x. Ending flat q x path places s over) (sym same) h)
by_number flat q d dull is P pd ok n ns over rest on es b path places s false f one within h =
    let off : is_target (Some b) (dull n).number ≡ false = ap (λ x. nat_eq b x) (is n) ∙ f in
    subst (λ x. Found flat q d P (x ∷ ns) es over.env) (is n)
    (put_first flat q d P (dull n) ns es (step flat q d (dull n) es) over.env (pd n) refl
    (rest (step flat q d (dull n) es) b path places s (end_step flat q d (dull n) es (Some b) s.env off one) (split_or (nat_eq b n) (is_in b ns) within f) h))

-- a run from the target of the live edge has values of the blocks by which it ends so
pub complete : (flat : Limited) (q : FlatProc) (d : Env) (dull : ℕ → Given) → ((n : ℕ) → (dull n).number ≡ n) → (P : Given → Type 0) → ((n : ℕ) → P (dull n)) → Fine flat q P → (ns : List ℕ) (over : State) → Onward q ns →
    (es : List Edge) (b : ℕ) (path places : List ℕ) (s : State) → One es (Some b) s.env → is_in b ns ≡ true → Ending flat q b path places s over → Found flat q d P ns es over.env
complete flat q d dull is P pd ok [] over on es b path places s one within h = cc
complete flat q d dull is P pd ok (n ∷ ns) over on es b path places s one within h =
    by_number flat q d dull is P pd ok n ns over (complete flat q d dull is P pd ok ns over on.1) on es b path places s (nat_eq b n) refl one within h
