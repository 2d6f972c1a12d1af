-- A walk to a block has values of the blocks by which that block is reached so, whatever it takes itself.
use Rattle.std.proofs.Common.{◌≡◌, ℕ, suc, Bool, true, false, List, [], ◌∷◌, ◌++◌, map, sym, ◌∙◌, ap, refl, subst}
use Rattle.std.specs.Prelude.{Option, None, Some, nat_eq, slice_get, option_and_then}
use Rattle.flat_prog.specs.declared.block.FlatNext.{FlatNext}
use Rattle.flat_prog.specs.declared.block.FlatNext.TheVariants.{Goto, Return}
use Rattle.flat_prog.specs.declared.block.FlatBlock.{FlatBlock}
use Rattle.flat_prog.specs.declared.proc.FlatProc.{FlatProc}
use Rattle.passive_form.specs.Limited.{Limited}
use Rattle.hy_val.specs.declared.expr.Env.{Env}
use Rattle.passive_form.specs.Local.{State, walk, pass_all, cmds_of, is_target}
use Rattle.flat_prog.specs.Shape.{place_at, place_of}
use Rattle.flat_prog.specs.Ordering.{is_in, Onward}
use Rattle.vc_gen.specs.Fold.{Edge, Given, Seen, seen, entered, others, fan, out_next, step, One, choice_count, last_of}
use Rattle.vc_gen.proofs.Frames.{and_then_some}
use Rattle.vc_gen.proofs.Edges.{one_reached, one_entered, one_dead, one_right, end_step}
use Rattle.vc_gen.proofs.Sound.{number_is}
use Rattle.vc_gen.proofs.Used.{pass_all_used}
use Rattle.vc_gen.proofs.Complete.{Each, Fine, length_picks, picks, pick_fan, step_is, some_pair, if_some, target_is, split_or}

-- the blocks' values, of which these are the last block's, and it is reached with these variables
pub record FoundAt (flat : Limited) (q : FlatProc) (d : Env) (P : Given → Type 0) (ns : List ℕ) (es : List Edge) (g : Given) (env : Env) : Type 0 where
  pub givens : List Given
  pub good : Each P givens
  pub numbers : map (λ (g : Given). g.number) givens ≡ ns
  pub index : ℕ
  pub at : slice_get (seen flat q d givens es) index ≡ Some (record { given = g; on = true; env = env })

put_first : (flat : Limited) (q : FlatProc) (d : Env) (P : Given → Type 0) (g : Given) (ns : List ℕ) (es fs : List Edge) (c : Given) (env : Env) → P g → step flat q d g es ≡ fs → FoundAt flat q d P ns fs c env →
    FoundAt flat q d P (g.number ∷ ns) es c env
put_first flat q d P g ns es fs c env good is f = record {
  givens = g ∷ f.givens;
  good = (good, f.good);
  numbers = ap (λ x. g.number ∷ x) f.numbers;
  index = suc f.index;
  at = ap (λ x. slice_get (seen flat q d f.givens x) f.index) is ∙ f.at;
}

pub map_same : (dull : ℕ → Given) → ((n : ℕ) → (dull n).number ≡ n) → (ns : List ℕ) → map (λ (g : Given). g.number) (map dull ns) ≡ ns
map_same dull is [] = refl
map_same dull is (n ∷ ns) = ap (λ x. x ∷ map (λ (g : Given). g.number) (map dull ns)) (is n) ∙ ap (λ x. n ∷ x) (map_same dull is ns)

pub each_dull : (P : Given → Type 0) (dull : ℕ → Given) → ((n : ℕ) → P (dull n)) → (ns : List ℕ) → Each P (map dull ns)
each_dull P dull pd [] = tt
each_dull P dull pd (n ∷ ns) = (pd n, each_dull P dull pd ns)

abbrev Rest : Limited → FlatProc → Env → (Given → Type 0) → List ℕ → Given → State → Type 0
Rest flat q d P ns c arrived = (es : List Edge) (b : ℕ) (path places : List ℕ) (s : State) → One es (Some b) s.env → is_in b ns ≡ true →
    walk flat q (b ∷ path) places s ≡ Some (slice_get q.blocks c.number, arrived) → c.number ≡ last_of b path → FoundAt flat q d P ns es c arrived.env

next_here : (flat : Limited) (q : FlatProc) (d : Env) (P : Given → Type 0) → Fine flat q P → (n : ℕ) (ns : List ℕ) (es : List Edge) (s m : State) (c : Given) (arrived : State) (block : FlatBlock) (next : FlatNext) (place t : ℕ) (path places : List ℕ) →
    Rest flat q d P ns c arrived → One es (Some n) s.env → slice_get q.blocks n ≡ Some block → pass_all flat q block.cmds s ≡ Some m → block.next ≡ next → place_of next place ≡ Some t →
    is_in t ns ≡ true → walk flat q (t ∷ path) places m ≡ Some (slice_get q.blocks c.number, arrived) → c.number ≡ last_of t path → FoundAt flat q d P (n ∷ ns) es c arrived.env
next_here flat q d P ok n ns es s m c arrived block Return place t path places rest one at passes next edge later more last = cc
next_here flat q d P ok n ns es s m c arrived block (Goto ts) place t path places rest one at passes next edge later more last =
    let u = pass_all_used flat q block.cmds s m passes in
    let g : Given = record { number = n; values = u.values; results = u.results; choices = picks ts place } in
    let fs = others n es ++ fan true m.env ts (picks ts place) in
    put_first flat q d P g ns es fs c arrived.env (ok n block s m u (picks ts place) at (length_picks ts place ∙ sym (ap choice_count next)))
    (step_is flat q d g es s.env block m.env u.calls one at u.does ∙ ap (λ x. others n es ++ out_next x true m.env (picks ts place)) next)
    (rest fs t path places m (one_right (others n es) (fan true m.env ts (picks ts place)) (Some t) m.env (one_dead n es s.env one) (pick_fan m.env ts place t edge)) later more last)

on_path : (flat : Limited) (q : FlatProc) (d : Env) (P : Given → Type 0) → Fine flat q P → (n : ℕ) (ns : List ℕ) (es : List Edge) (s : State) (c : Given) (arrived : State) (o : Option FlatBlock) (place t : ℕ) (path places : List ℕ) →
    Rest flat q d P ns c arrived → One es (Some n) s.env → slice_get q.blocks n ≡ o → is_target (place_at o place) t ≡ true → option_and_then (walk flat q (t ∷ path) places) (pass_all flat q (cmds_of o) s) ≡ Some (slice_get q.blocks c.number, arrived) →
    is_in t ns ≡ true → c.number ≡ last_of t path → FoundAt flat q d P (n ∷ ns) es c arrived.env
on_path flat q d P ok n ns es s c arrived None place t path places rest one at edge walks later last = cc
on_path flat q d P ok n ns es s c arrived (Some block) place t path places rest one at edge walks later last =
    let m = and_then_some (walk flat q (t ∷ path) places) (pass_all flat q block.cmds s) (slice_get q.blocks c.number, arrived) walks in
    next_here flat q d P ok n ns es s m.0 c arrived block block.next place t path places rest one at m.1 refl (target_is (place_of block.next place) t edge) later m.2 last

here : (flat : Limited) (q : FlatProc) (d : Env) (dull : ℕ → Given) → ((n : ℕ) → (dull n).number ≡ n) → (P : Given → Type 0) → ((n : ℕ) → P (dull n)) → Fine flat q P → (n : ℕ) (ns : List ℕ) (es : List Edge) (path places : List ℕ) (s : State) (c : Given) (arrived : State) → P c →
    Rest flat q d P ns c arrived → Onward q (n ∷ ns) → One es (Some n) s.env → walk flat q (n ∷ path) places s ≡ Some (slice_get q.blocks c.number, arrived) → c.number ≡ last_of n path → FoundAt flat q d P (n ∷ ns) es c arrived.env
here flat q d dull is P pd ok n ns es [] [] s c arrived pc rest on one h last =
    let p = some_pair (slice_get q.blocks n) (slice_get q.blocks c.number) s arrived h in
    let same : s ≡ arrived = ap (λ x. x.1) p in
    let one2 = subst (λ x. One es (Some x) s.env) (sym last) one in
    record {
      givens = c ∷ map dull ns;
      good = (pc, each_dull P dull pd ns);
      numbers = ap (λ x. x ∷ map (λ (g : Given). g.number) (map dull ns)) last ∙ ap (λ x. n ∷ x) (map_same dull is ns);
      index = 0;
      at = ap {B = Option Seen} (λ x. Some (record { given = c; on = x; env = entered c.number d es })) (one_reached c.number es s.env one2)
          ∙ ap {B = Option Seen} (λ x. Some (record { given = c; on = true; env = x })) (one_entered c.number d es s.env one2 ∙ ap (λ (x : State). x.env) same);
    }
here flat q d dull is P pd ok n ns es [] (place ∷ places) s c arrived pc rest on one h last = cc
here flat q d dull is P pd ok n ns es (t ∷ path) [] s c arrived pc rest on one h last = cc
here flat q d dull is P pd ok n ns es (t ∷ path) (place ∷ places) s c arrived pc rest on one h last =
    let w = if_some (is_target (place_at (slice_get q.blocks n) place) t) (option_and_then (walk flat q (t ∷ path) places) (pass_all flat q (cmds_of (slice_get q.blocks n)) s)) (slice_get q.blocks c.number, arrived) h in
    on_path flat q d P ok n ns es s c arrived (slice_get q.blocks n) place t path places rest one refl w.0 w.1 (on.0 place t (target_is (place_at (slice_get q.blocks n) place) t w.0)) last

by_number : (flat : Limited) (q : FlatProc) (d : Env) (dull : ℕ → Given) → ((n : ℕ) → (dull n).number ≡ n) → (P : Given → Type 0) → ((n : ℕ) → P (dull n)) → Fine flat q P → (n : ℕ) (ns : List ℕ) (c : Given) (arrived : State) → P c → Rest flat q d P ns c arrived → Onward q (n ∷ ns) →
    (es : List Edge) (b : ℕ) (path places : List ℕ) (s : State) (x : Bool) → nat_eq b n ≡ x → One es (Some b) s.env → is_in b (n ∷ ns) ≡ true →
    walk flat q (b ∷ path) places s ≡ Some (slice_get q.blocks c.number, arrived) → c.number ≡ last_of b path → FoundAt flat q d P (n ∷ ns) es c arrived.env
by_number flat q d dull is P pd ok n ns c arrived pc rest on es b path places s true f one within h last =
    let same = number_is b n f in
    here flat q d dull is P pd ok n ns es path places s c arrived pc rest on (subst (λ x. One es (Some x) s.env) (sym same) one)
    (ap (λ x. walk flat q (x ∷ path) places s) same ∙ h) (last ∙ ap (λ x. last_of x path) (sym same))
by_number flat q d dull is P pd ok n ns c arrived pc rest on es b path places s false f one within h last =
    let off : is_target (Some b) (dull n).number ≡ false = ap (λ x. nat_eq b x) (is n) ∙ f in
    subst (λ x. FoundAt flat q d P (x ∷ ns) es c arrived.env) (is n)
    (put_first flat q d P (dull n) ns es (step flat q d (dull n) es) c arrived.env (pd n) refl
    (rest (step flat q d (dull n) es) b path places s (end_step flat q d (dull n) es (Some b) s.env off one) (split_or (nat_eq b n) (is_in b ns) within f) h last))

pub arrive : (flat : Limited) (q : FlatProc) (d : Env) (dull : ℕ → Given) → ((n : ℕ) → (dull n).number ≡ n) → (P : Given → Type 0) → ((n : ℕ) → P (dull n)) → Fine flat q P → (ns : List ℕ) (c : Given) (arrived : State) → P c → Onward q ns → Rest flat q d P ns c arrived
arrive flat q d dull is P pd ok [] c arrived pc on es b path places s one within h last = cc
arrive flat q d dull is P pd ok (n ∷ ns) c arrived pc on es b path places s one within h last =
    by_number flat q d dull is P pd ok n ns c arrived pc (arrive flat q d dull is P pd ok ns c arrived pc on.1) on es b path places s (nat_eq b n) refl one within h last
