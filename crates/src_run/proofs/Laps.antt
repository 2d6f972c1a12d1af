-- The open loops of a frame are those that hold its block, innermost first, and an edge keeps that.
use Rattle.std.proofs.Common.{◌≡◌, ℕ, suc, ◌+◌, ◌<◌, ◌≤◌, nat_eq, nat_lt, Bool, true, false, ◌&&◌, if◌then◌else◌, List, [], ◌∷◌, arith, refl, sym, ◌∙◌, inl, inr, ◌⊎◌}
use Rattle.std.proofs.lemmas.Bool.Decides.{nat_tests}
use Rattle.std.specs.List.{list_all}
use Rattle.src_prog.specs.Loops.{loop_is_within, are_nested}
use Rattle.src_prog.specs.declared.proc.SrcLoop.{SrcLoop}
use Rattle.src_run.specs.Machine.{Config, Frame, Lap, Way, Again, Enter, Stay, Out, entry_of, way, land, land_outside, land_inside, arrive, with_status}
use Rattle.src_run.specs.declared.machine.Status.TheVariants.{Cut}
use Rattle.src_run.proofs.Nested.{IsLoop, Edge, head_below, nested, one_exit}

-- a loop with this head and this exit is open
abbrev pub IsOpen : List Lap → (head exit : ℕ) → Type 0
IsOpen [] head exit = ⊥
IsOpen (lap ∷ laps) head exit = ((lap.head ≡ head) × (lap.exit ≡ exit)) ⊎ IsOpen laps head exit

-- how often the head of an open loop was come back to
abbrev pub rounds : List Lap → (head exit : ℕ) → ℕ
rounds [] head exit = 0
rounds (lap ∷ laps) head exit = if nat_eq lap.head head && nat_eq lap.exit exit then lap.count else rounds laps head exit

-- all heads are below this one
abbrev pub HeadsBelow : ℕ → List Lap → Type 0
HeadsBelow head [] = Unit {0}
HeadsBelow head (lap ∷ laps) = (lap.head < head) × HeadsBelow head laps

-- the open loops are loops that hold the block, innermost first
abbrev pub Around : List SrcLoop → (block : ℕ) → List Lap → Type 0
Around loops block [] = Unit {0}
Around loops block (lap ∷ laps) = IsLoop loops lap.head lap.exit × ((lap.head ≤ block) × (block < lap.exit)) × HeadsBelow lap.head laps × Around loops block laps

-- they are all that do
pub record LapsFit (loops : List SrcLoop) (block : ℕ) (laps : List Lap) : Type 0 where
  pub around : Around loops block laps
  pub all : (h e : ℕ) → IsLoop loops h e → h ≤ block → block < e → IsOpen laps h e

-- what is known of the loops of a procedure
pub record LoopsFit (blocks : ℕ) (loops : List SrcLoop) : Type 0 where
  pub within : list_all (loop_is_within blocks) loops ≡ true
  pub nest : are_nested loops ≡ true

pub open_below : (laps : List Lap) (head h e : ℕ) → HeadsBelow head laps → IsOpen laps h e → h < head
open_below [] head h e b i = absurd i
open_below (lap ∷ laps) head h e b (inl (p, q)) = let r = b.0 in omega arith
open_below (lap ∷ laps) head h e b (inr i) = open_below laps head h e b.1 i

-- heads below one are below each that is not smaller
pub all_below : (laps : List Lap) (head more : ℕ) → head ≤ more → HeadsBelow head laps → HeadsBelow more laps
all_below [] head more le b = tt
all_below (lap ∷ laps) head more le b = let r = b.0 in (omega arith, all_below laps head more le b.1)

-- the loops around an open loop hold what it holds
pub still_around : (blocks : ℕ) (loops : List SrcLoop) → LoopsFit blocks loops → (laps : List Lap) (block h e to : ℕ) → IsLoop loops h e → h ≤ block → block < e → HeadsBelow h laps → Around loops block laps → h ≤ to → to < e → Around loops to laps
still_around blocks loops fit [] block h e to i a b below around c d = tt
still_around blocks loops fit (lap ∷ laps) block h e to i a b below around c d =
    let lt = below.0 in
    let (one, holds, inner, outer) = around in
    let (low, high) = holds in
    let outside : e < lap.exit = wide (nested loops lap.head lap.exit h e fit.nest one i lt) in
    (one, (omega arith, omega arith), inner, still_around blocks loops fit laps block h e to i a b below.1 outer c d)
  where
    wide : (lap.exit ≤ h) ⊎ (e < lap.exit) → e < lap.exit
    wide (inl s) = let (low, high) = around.1 in absurd (omega arith)
    wide (inr s) = s

-- ---- what an edge leads to

-- where an edge comes to: the open loops are those around the target, the loops that stay open keep their counts, and one that is come back to
-- has one round more
pub record Landing (loops : List SrcLoop) (bound to : ℕ) (laps : List Lap) (new : List Lap) : Type 0 where
  pub fits : LapsFit loops to new
  pub keeps : (h e : ℕ) → IsLoop loops h e → (h ≡ to → ⊥) → h ≤ to → to < e → rounds new h e ≡ rounds laps h e
  pub counts : (h e : ℕ) → IsOpen laps h e → h ≡ to → to < e → (rounds laps h e < bound) × (rounds new h e ≡ suc (rounds laps h e))

-- an edge lands, or cuts the run
abbrev pub Lands : List SrcLoop → (bound : ℕ) → Config → Frame → List Frame → (to : ℕ) → List Lap → Config → Type 0
Lands loops bound c f rest to laps d = (d ≡ with_status c Cut) ⊎ ((new : List Lap) × (d ≡ land c f rest to new) × Landing loops bound to laps new)

-- what entry_of gives
abbrev IsEntry : List SrcLoop → ℕ → Way → Type 0
IsEntry loops to (Enter exit) = IsLoop loops to exit
IsEntry loops to Stay = (e : ℕ) → IsLoop loops to e → ⊥
IsEntry loops to Again = ⊥
IsEntry loops to Out = ⊥

entry : (loops : List SrcLoop) (to : ℕ) → IsEntry loops to (entry_of loops to)
entry [] to = λ e i. i
entry (l ∷ ls) to = at (entry ls to) (nat_eq l.head to) refl
  where
    behind : (w : Way) → (l.head ≡ to → ⊥) → IsEntry ls to w → IsEntry (l ∷ ls) to w
    behind (Enter exit) ne i = inr i
    behind Stay ne i = λ e j. out e j
      where
        out : (e : ℕ) → IsLoop (l ∷ ls) to e → ⊥
        out e (inl (a, b)) = ne a
        out e (inr j) = i e j
    behind Again ne i = i
    behind Out ne i = i

    at : IsEntry ls to (entry_of ls to) → (b : Bool) → nat_eq l.head to ≡ b → IsEntry (l ∷ ls) to (if b then Enter l.exit else entry_of ls to)
    at rec true h = let e : l.head ≡ to = grind (arith, nat_tests) in inl (e, refl)
    at rec false h = behind (entry_of ls to) (λ e. grind (arith, nat_tests)) rec

-- what way gives
abbrev pub IsWay : List SrcLoop → Lap → ℕ → Way → Type 0
IsWay loops lap to Again = lap.head ≡ to
IsWay loops lap to (Enter exit) = (lap.head < to) × (to < lap.exit) × IsLoop loops to exit
IsWay loops lap to Stay = (lap.head < to) × (to < lap.exit) × ((e : ℕ) → IsLoop loops to e → ⊥)
IsWay loops lap to Out = lap.head ≤ to → to < lap.exit → ⊥

pub way_is : (loops : List SrcLoop) (lap : Lap) (to : ℕ) → IsWay loops lap to (way loops lap to)
way_is loops lap to = first (nat_eq lap.head to) refl
  where
    within : (w : Way) → lap.head < to → to < lap.exit → IsEntry loops to w → IsWay loops lap to w
    within (Enter exit) a b i = (a, b, i)
    within Stay a b i = (a, b, i)
    within Again a b i = absurd i
    within Out a b i = absurd i

    second : (b : Bool) → (lap.head ≡ to → ⊥) → (nat_lt lap.head to && nat_lt to lap.exit) ≡ b → IsWay loops lap to (if b then entry_of loops to else Out)
    second true ne h =
        let p : lap.head < to = grind (arith, nat_tests) in
        let q : to < lap.exit = grind (arith, nat_tests) in
        within (entry_of loops to) p q (entry loops to)
    second false ne h = λ p q. grind (arith, nat_tests)

    first : (b : Bool) → nat_eq lap.head to ≡ b → IsWay loops lap to (if b then Again else if nat_lt lap.head to && nat_lt to lap.exit then entry_of loops to else Out)
    first true h = grind (arith, nat_tests)
    first false h = second (nat_lt lap.head to && nat_lt to lap.exit) (λ e. grind (arith, nat_tests)) refl

-- a count beside the first open loop
rounds_other : (lap : Lap) (laps : List Lap) (h e : ℕ) → ((lap.head ≡ h) → (lap.exit ≡ e) → ⊥) → rounds (lap ∷ laps) h e ≡ rounds laps h e
rounds_other lap laps h e ne = at (nat_eq lap.head h && nat_eq lap.exit e) refl
  where
    at : (b : Bool) → (nat_eq lap.head h && nat_eq lap.exit e) ≡ b → (if b then lap.count else rounds laps h e) ≡ rounds laps h e
    at true k =
        let p : lap.head ≡ h = grind (arith, nat_tests) in
        let q : lap.exit ≡ e = grind (arith, nat_tests) in
        absurd (ne p q)
    at false k = refl

rounds_first : (lap : Lap) (laps : List Lap) (h e : ℕ) → lap.head ≡ h → lap.exit ≡ e → rounds (lap ∷ laps) h e ≡ lap.count
rounds_first lap laps h e p q =
    let t : (nat_eq lap.head h && nat_eq lap.exit e) ≡ true = grind (arith, nat_tests) in
    rw t refl

-- the loops that hold both ends of an edge from the block are open
abbrev pub OpenOver : List SrcLoop → (block to : ℕ) → List Lap → Type 0
OpenOver loops block to laps = (h e : ℕ) → IsLoop loops h e → h ≤ block → block < e → h ≤ to → to < e → IsOpen laps h e

module _ (blocks : ℕ) (loops : List SrcLoop) (fit : LoopsFit blocks loops) (bound : ℕ) (c : Config) (f : Frame) (rest : List Frame) (block to : ℕ) (edge : Edge loops block to) where
  -- an edge out of all loops
  outside : OpenOver loops block to [] → (w : Way) → IsEntry loops to w → Lands loops bound c f rest to [] (land_outside c f rest to w)
  outside over (Enter exit) i = inr (
    record { head = to; exit = exit; count = 0 } ∷ [],
    refl,
    record {
      fits = record { around = (i, (omega arith, (head_below blocks loops to exit fit.within i).1), tt, tt); all = all };
      keeps = λ h e j ne a b. rounds_other (record { head = to; exit = exit; count = 0 }) [] h e (λ p q. ne (sym p));
      counts = λ h e o p b. absurd o;
    },
  )
    where
      all : (h e : ℕ) → IsLoop loops h e → h ≤ to → to < e → IsOpen (record { head = to; exit = exit; count = 0 } ∷ []) h e
      all h e j a b = at (edge.enters h e j a b)
        where
          at : ((h ≤ block) × (block < e)) ⊎ (h ≡ to) → IsOpen (record { head = to; exit = exit; count = 0 } ∷ []) h e
          at (inl (p, q)) = absurd (over h e j p q a b)
          at (inr p) = inl (sym p, one_exit loops to exit e fit.nest i (rw (← p) j))
  outside over Stay i = inr (
    [],
    refl,
    record {
      fits = record { around = tt; all = all };
      keeps = λ h e j ne a b. refl;
      counts = λ h e o p b. absurd o;
    },
  )
    where
      all : (h e : ℕ) → IsLoop loops h e → h ≤ to → to < e → IsOpen [] h e
      all h e j a b = at (edge.enters h e j a b)
        where
          at : ((h ≤ block) × (block < e)) ⊎ (h ≡ to) → IsOpen [] h e
          at (inl (p, q)) = absurd (over h e j p q a b)
          at (inr p) = absurd (i e (rw (← p) j))
  outside over Again i = absurd i
  outside over Out i = absurd i

  -- the open loops around a target that the innermost one holds
  around_inner : (lap : Lap) (laps : List Lap) → Around loops block (lap ∷ laps) → lap.head ≤ to → to < lap.exit → Around loops to (lap ∷ laps)
  around_inner lap laps (one, (low, high), inner, outer) a b = (one, (a, b), inner, still_around blocks loops fit laps block lap.head lap.exit to one low high inner outer a b)

  -- a loop that holds the target is open over the edge, or has the target as its head
  inner_all : (old new : List Lap) → OpenOver loops block to old → ((h e : ℕ) → IsOpen old h e → IsOpen new h e) → ((e : ℕ) → IsLoop loops to e → IsOpen new to e)
      → (h e : ℕ) → IsLoop loops h e → h ≤ to → to < e → IsOpen new h e
  inner_all old new over keep enter h e j a b = at (edge.enters h e j a b)
    where
      at : ((h ≤ block) × (block < e)) ⊎ (h ≡ to) → IsOpen new h e
      at (inl (p, q)) = keep h e (over h e j p q a b)
      at (inr p) = rw p (enter e (rw (← p) j))

  again : (lap : Lap) (laps : List Lap) → Around loops block (lap ∷ laps) → OpenOver loops block to (lap ∷ laps) → lap.head ≡ to → lap.count < bound
      → Landing loops bound to (lap ∷ laps) (record lap { count = lap.count + 1 } ∷ laps)
  again lap laps around over i lt =
      let (one, (low, high), inner, outer) = around in
      record {
        fits = record {
          around = around_inner lap laps around (omega arith) (omega arith);
          all = inner_all (lap ∷ laps) (record lap { count = lap.count + 1 } ∷ laps) over (λ h e o. o) (λ e j. inl (i, one_exit loops to lap.exit e fit.nest (rw (← i) one) j));
        };
        keeps = λ h e j ne a b. rounds_other (record lap { count = lap.count + 1 }) laps h e (λ p q. ne (sym p ∙ i)) ∙ sym (rounds_other lap laps h e (λ p q. ne (sym p ∙ i)));
        counts = counts;
      }
    where
      counts : (h e : ℕ) → IsOpen (lap ∷ laps) h e → h ≡ to → to < e → (rounds (lap ∷ laps) h e < bound) × (rounds (record lap { count = lap.count + 1 } ∷ laps) h e ≡ suc (rounds (lap ∷ laps) h e))
      counts h e (inl (q, r)) p b =
          let x = rounds_first lap laps h e q r in
          let y = rounds_first (record lap { count = lap.count + 1 }) laps h e q r in
          (omega arith, omega arith)
      counts h e (inr o) p b = let below = open_below laps lap.head h e around.2 o in absurd (omega arith)

  enter : (lap : Lap) (laps : List Lap) (exit : ℕ) → Around loops block (lap ∷ laps) → OpenOver loops block to (lap ∷ laps) → lap.head < to → to < lap.exit → IsLoop loops to exit
      → Landing loops bound to (lap ∷ laps) (record { head = to; exit = exit; count = 0 } ∷ lap ∷ laps)
  enter lap laps exit around over low high i =
      record {
        fits = record {
          around = (i, (omega arith, (head_below blocks loops to exit fit.within i).1), (low, all_below laps lap.head to (omega arith) around.2), around_inner lap laps around (omega arith) high);
          all = inner_all (lap ∷ laps) (record { head = to; exit = exit; count = 0 } ∷ lap ∷ laps) over (λ h e o. inr o) (λ e j. inl (refl, one_exit loops to exit e fit.nest i j));
        };
        keeps = λ h e j ne a b. rounds_other (record { head = to; exit = exit; count = 0 }) (lap ∷ laps) h e (λ p q. ne (sym p));
        counts = λ h e o p b. absurd (not_open h e o p);
      }
    where
      not_open : (h e : ℕ) → IsOpen (lap ∷ laps) h e → h ≡ to → ⊥
      not_open h e (inl (q, r)) p = omega arith
      not_open h e (inr o) p = let below = open_below laps lap.head h e around.2 o in omega arith

  stay : (lap : Lap) (laps : List Lap) → Around loops block (lap ∷ laps) → OpenOver loops block to (lap ∷ laps) → lap.head < to → to < lap.exit → ((e : ℕ) → IsLoop loops to e → ⊥)
      → Landing loops bound to (lap ∷ laps) (lap ∷ laps)
  stay lap laps around over low high none =
      record {
        fits = record {
          around = around_inner lap laps around (omega arith) high;
          all = inner_all (lap ∷ laps) (lap ∷ laps) over (λ h e o. o) (λ e j. absurd (none e j));
        };
        keeps = λ h e j ne a b. refl;
        counts = λ h e o p b. absurd (not_open h e o p);
      }
    where
      not_open : (h e : ℕ) → IsOpen (lap ∷ laps) h e → h ≡ to → ⊥
      not_open h e (inl (q, r)) p = omega arith
      not_open h e (inr o) p = let below = open_below laps lap.head h e around.2 o in omega arith

  -- an edge out of the innermost loop does what it does from those around it
  leave : (lap : Lap) (laps new : List Lap) → (lap.head ≤ to → to < lap.exit → ⊥) → Landing loops bound to laps new → Landing loops bound to (lap ∷ laps) new
  leave lap laps new out l =
      record {
        fits = l.fits;
        keeps = λ h e j ne a b. l.keeps h e j ne a b ∙ sym (rounds_other lap laps h e (λ p q. out (omega arith) (omega arith)));
        counts = counts;
      }
    where
      counts : (h e : ℕ) → IsOpen (lap ∷ laps) h e → h ≡ to → to < e → (rounds (lap ∷ laps) h e < bound) × (rounds new h e ≡ suc (rounds (lap ∷ laps) h e))
      counts h e (inl (q, r)) p b = absurd (out (omega arith) (omega arith))
      counts h e (inr o) p b =
          let same = rounds_other lap laps h e (λ q r. out (omega arith) (omega arith)) in
          let (one, two) = l.counts h e o p b in
          (omega arith, omega arith)

  -- an edge seen from an open loop, where those around it do what they do
  inside : (lap : Lap) (laps : List Lap) → Around loops block (lap ∷ laps) → OpenOver loops block to (lap ∷ laps) → (w : Way) → IsWay loops lap to w → (d : Config)
      → (OpenOver loops block to laps → Lands loops bound c f rest to laps d)
      → Lands loops bound c f rest to (lap ∷ laps) (land_inside bound c f rest to lap laps w d)
  inside lap laps around over Again i d out = at (nat_lt lap.count bound) refl
    where
      at : (b : Bool) → nat_lt lap.count bound ≡ b → Lands loops bound c f rest to (lap ∷ laps) (if b then land c f rest to (record lap { count = lap.count + 1 } ∷ laps) else with_status c Cut)
      at false h = inl refl
      at true h = let lt : lap.count < bound = grind (arith, nat_tests) in inr (record lap { count = lap.count + 1 } ∷ laps, refl, again lap laps around over i lt)
  inside lap laps around over (Enter exit) (low, high, i) d out = inr (record { head = to; exit = exit; count = 0 } ∷ lap ∷ laps, refl, enter lap laps exit around over low high i)
  inside lap laps around over Stay (low, high, none) d out = inr (lap ∷ laps, refl, stay lap laps around over low high none)
  inside lap laps around over Out i d out = at (out tail_over)
    where
      tail_over : OpenOver loops block to laps
      tail_over h e j p q a b = still (over h e j p q a b)
        where
          still : IsOpen (lap ∷ laps) h e → IsOpen laps h e
          still (inl (r, s)) = absurd (i (omega arith) (omega arith))
          still (inr o) = o

      at : Lands loops bound c f rest to laps d → Lands loops bound c f rest to (lap ∷ laps) d
      at (inl e) = inl e
      at (inr (new, e, l)) = inr (new, e, leave lap laps new i l)

  pub lands : (laps : List Lap) → Around loops block laps → OpenOver loops block to laps → Lands loops bound c f rest to laps (arrive loops bound c f rest to laps)
  lands [] around over = outside over (entry_of loops to) (entry loops to)
  lands (lap ∷ laps) around over = inside lap laps around over (way loops lap to) (way_is loops lap to) (arrive loops bound c f rest to laps) (λ o. lands laps around.3 o)
