-- Where no fault of a goto is told, each edge leads where an edge of a program may lead.
use Rattle.std.proofs.Common.{◌≡◌, ◌⊎◌, inl, inr, ℕ, ◌+◌, ◌<◌, ◌≤◌, Bool, true, false, not, ◌&&◌, ◌||◌, nat_eq, List, [], ◌∷◌, ◌++◌, length, map, Option, None, Some, refl, sym, ap, ◌∙◌, subst, zero, suc, arith}
use Rattle.std.specs.Prelude.{if◌then◌else◌, nat_lt, nat_le}
use Rattle.std.specs.List.{list_all, list_any, AllByRecursion as Each}
use Rattle.std.specs.Str.{bytes_eq}
use Rattle.std.proofs.lemmas.Bool.{eqb-true, eq-eqb, or_cases, or_left, or_right, or_parts, and_parts, and_from, lt-ltb, le-leb, ltb-true, leb-true, not-false, cases_eq}
use Rattle.std.proofs.lemmas.List.{length-map}
use Rattle.std.proofs.lemmas.List.Folds.{list_all-map}
use Rattle.bpl_flow.proofs.Among.{In, Among, each-at, each-weaker, each-list_all}
use Rattle.bpl_flow.proofs.Edges.{Held, Holds, Marks, EdgeFits, JumpFits, AimFits, EndFits, EndedFits, PlaceFits}
use Rattle.bpl_flow.proofs.Kept.{IsWithin}
use Rattle.bpl_flow.specs.Flow.{block_of, block_of_place, blocks_from, ended_at, fault_of_jump, faults_of_jumps, is_enclosed, next_of, place_of, target}
use Rattle.bpl_flow.specs.declared.fault.FlowFault.{FlowFault}
use Rattle.bpl_flow.specs.declared.state.Aim.{Aim}
use Rattle.bpl_flow.specs.declared.state.Aim.TheVariants.{Block, Label, Exit}
use Rattle.bpl_flow.specs.declared.state.End.{End}
use Rattle.bpl_flow.specs.declared.state.End.TheVariants.{Goes, Returns}
use Rattle.bpl_flow.specs.declared.state.Ended.{Ended}
use Rattle.bpl_flow.specs.declared.state.Jump.{Jump}
use Rattle.bpl_flow.specs.declared.state.Place.{Place}
use Rattle.src_prog.specs.Loops.{are_nested, edge_fits, enters_at_head, goes_back, holds_block, is_apart_or_inside, loop_is_within}
use Rattle.hy_val.specs.Scope.{Scope}
use Rattle.src_prog.specs.Scope.{cmd_fits}
use Rattle.src_prog.specs.Shape.{block_fits, blocks_fit, next_fits, target_fits}
use Rattle.src_prog.specs.declared.proc.SrcLoop.{SrcLoop}
use Rattle.src_prog.specs.declared.proc.SrcProc.{SrcProc}

-- ---- faults of gotos

pub both-empty : {A : Type 0} (xs ys : List A) → xs ++ ys ≡ [] → (xs ≡ []) × (ys ≡ [])
both-empty [] ys e = (refl, e)
both-empty (x ∷ xs) ys e = absurd (cc)

-- a goto of which no fault is told
abbrev pub Sound : List Place → Jump → Type 0
Sound places j = fault_of_jump (place_of j.name.text places) j ≡ []

pub all-sound : (places : List Place) (js : List Jump) → faults_of_jumps places js ≡ [] → Each (Sound places) js
all-sound places [] e = tt
all-sound places (j ∷ js) e =
    let p = both-empty (fault_of_jump (place_of j.name.text places) j) (faults_of_jumps places js) e in
    (p.0, all-sound places js p.1)

no-fault : (b : Bool) (f : FlowFault) → (if b then f ∷ [] else []) ≡ [] → b ≡ false
no-fault true f e = absurd (cc)
no-fault false f e = refl

-- ---- loops

held-self : (ls : List SrcLoop) (h b : ℕ) → Held ls h b → Held ls h h
held-self [] h b held = absurd held
held-self (l ∷ ls) h b (inl p) = inl (p.0, omega (arith, p.0), omega (arith, p.0, p.1, p.2))
held-self (l ∷ ls) h b (inr p) = inr (held-self ls h b p)

held-among : (ls : List SrcLoop) (l : SrcLoop) (b : ℕ) → Among l ls → l.head ≤ b → b < l.exit → Held ls l.head b
held-among [] l b a le lt = absurd a
held-among (x ∷ ls) l b (inl e) le lt = inl (ap (λ (y : SrcLoop). y.head) (sym e), omega (arith, ap (λ (y : SrcLoop). y.head) e), omega (arith, ap (λ (y : SrcLoop). y.exit) e))
held-among (x ∷ ls) l b (inr a) le lt = inr (held-among ls l b a le lt)

-- the heads behind a loop are above its own
among-above : (x l : SrcLoop) (ls : List SrcLoop) → list_all (is_apart_or_inside x) ls ≡ true → Among l ls → x.head < l.head
among-above x l [] h a = absurd a
among-above x l (y ∷ ls) h (inl e) =
    let p = and_parts (is_apart_or_inside x y) (list_all (is_apart_or_inside x) ls) h in
    let q = and_parts (nat_lt x.head y.head) (nat_le x.exit y.head || nat_lt y.exit x.exit) p.0 in
    omega (arith, ltb-true x.head y.head q.0, ap (λ (z : SrcLoop). z.head) e)
among-above x l (y ∷ ls) h (inr a) = among-above x l ls (and_parts (is_apart_or_inside x y) (list_all (is_apart_or_inside x) ls) h).1 a

held-above : (x : SrcLoop) (ls : List SrcLoop) (h b : ℕ) → list_all (is_apart_or_inside x) ls ≡ true → Held ls h b → x.head < h
held-above x [] h b all held = absurd held
held-above x (y ∷ ls) h b all (inl e) =
    let p = and_parts (is_apart_or_inside x y) (list_all (is_apart_or_inside x) ls) all in
    let q = and_parts (nat_lt x.head y.head) (nat_le x.exit y.head || nat_lt y.exit x.exit) p.0 in
    omega (arith, ltb-true x.head y.head q.0, e.0)
held-above x (y ∷ ls) h b all (inr held) = held-above x ls h b (and_parts (is_apart_or_inside x y) (list_all (is_apart_or_inside x) ls) all).1 held

-- a loop is the only one with its head
held-own : (ls : List SrcLoop) (l : SrcLoop) (b : ℕ) → are_nested ls ≡ true → Among l ls → Held ls l.head b → (l.head ≤ b) × (b < l.exit)
held-own [] l b h a held = absurd a
held-own (x ∷ ls) l b h (inl e) (inl q) = (omega (arith, q.0, q.1), omega (arith, q.2, ap (λ (y : SrcLoop). y.exit) e))
held-own (x ∷ ls) l b h (inl e) (inr q) =
    absurd (omega (arith, held-above x ls l.head b (and_parts (list_all (is_apart_or_inside x) ls) (are_nested ls) h).0 q, ap (λ (y : SrcLoop). y.head) e))
held-own (x ∷ ls) l b h (inr a) (inl q) =
    absurd (omega (arith, q.0, among-above x l ls (and_parts (list_all (is_apart_or_inside x) ls) (are_nested ls) h).0 a))
held-own (x ∷ ls) l b h (inr a) (inr q) = held-own ls l b (and_parts (list_all (is_apart_or_inside x) ls) (are_nested ls) h).1 a q

-- ---- edges

holds-block : (l : SrcLoop) (b : ℕ) → l.head ≤ b → b < l.exit → holds_block l b ≡ true
holds-block l b le lt = and_from (nat_le l.head b) (nat_lt b l.exit) (le-leb l.head b le) (lt-ltb b l.exit lt)

back-to : (ls : List SrcLoop) (b t : ℕ) → Held ls t b → goes_back ls b t ≡ true
back-to [] b t held = absurd held
back-to (l ∷ ls) b t (inl p) =
    or_left (nat_eq l.head t && holds_block l b) (goes_back ls b t) (and_from (nat_eq l.head t) (holds_block l b) (eq-eqb l.head t p.0) (holds-block l b p.1 p.2))
back-to (l ∷ ls) b t (inr p) = or_right (nat_eq l.head t && holds_block l b) (goes_back ls b t) (back-to ls b t p)

each-self : (ls : List SrcLoop) → Each (λ l. Among l ls) ls
each-self [] = tt
each-self (l ∷ ls) = (inl refl, each-weaker (λ x. Among x ls) (λ x. Among x (l ∷ ls)) (λ x a. inr a) ls (each-self ls))

module _ (loops : List SrcLoop) (nested : are_nested loops ≡ true) where
  way-on : (b t : ℕ) → (b < t) ⊎ Holds loops [] t b → (nat_lt b t || goes_back loops b t) ≡ true
  way-on b t (inl on) = or_left (nat_lt b t) (goes_back loops b t) (lt-ltb b t on)
  way-on b t (inr (inl held)) = or_right (nat_lt b t) (goes_back loops b t) (back-to loops b t held)
  way-on b t (inr (inr p)) = absurd (let f : false ≡ true = p.0 in cc)

  held-only : (h b : ℕ) → Holds loops [] h b → Held loops h b
  held-only h b (inl held) = held
  held-only h b (inr p) = absurd (let f : false ≡ true = p.0 in cc)

  enters-inner : (l : SrcLoop) (b t : ℕ) → Among l loops → EdgeFits (Holds loops []) b t → l.head ≤ t → t < l.exit → (l.head ≡ t) ⊎ (l.head ≡ t → ⊥) → (holds_block l b || nat_eq l.head t) ≡ true
  enters-inner l b t a e le lt (inl same) = or_right (holds_block l b) (nat_eq l.head t) (eq-eqb l.head t same)
  enters-inner l b t a e le lt (inr other) =
      let below : l.head < t = omega arith in
      let q = held-own loops l b nested a (held-only l.head b (e.entered l.head below (inl (held-among loops l t a le lt)))) in
      or_left (holds_block l b) (nat_eq l.head t) (holds-block l b q.0 q.1)

  enters-or : (c : Bool) (l : SrcLoop) (b t : ℕ) → holds_block l t ≡ c → Among l loops → EdgeFits (Holds loops []) b t → (not c || (holds_block l b || nat_eq l.head t)) ≡ true
  enters-or false l b t h a e = refl
  enters-or true l b t h a e =
      let p = and_parts (nat_le l.head t) (nat_lt t l.exit) h in
      enters-inner l b t a e (leb-true l.head t p.0) (ltb-true t l.exit p.1) (cases_eq l.head t)

  pub edge-fits : (b t : ℕ) → EdgeFits (Holds loops []) b t → edge_fits loops b t ≡ true
  edge-fits b t e =
      and_from (nat_lt b t || goes_back loops b t) (list_all (enters_at_head b t) loops) (way-on b t e.way)
      (each-list_all (enters_at_head b t) loops (each-weaker (λ l. Among l loops) (λ l. enters_at_head b t l ≡ true) (λ l a. enters-or (holds_block l t) l b t refl a e) loops (each-self loops)))

  -- ---- labels

  in-all-or : (q : ℕ → Bool) (x n : ℕ) (P : Type 0) → q x ≡ true → (P → q n ≡ true) → (nat_eq n x ≡ true) ⊎ P → q n ≡ true
  in-all-or q x n P h f (inl e) = subst (λ m. q m ≡ true) (sym (eqb-true n x e)) h
  in-all-or q x n P h f (inr i) = f i

  in-all : (q : ℕ → Bool) (xs : List ℕ) (n : ℕ) → list_all q xs ≡ true → In n xs → q n ≡ true
  in-all q [] n h i = absurd (cc)
  in-all q (x ∷ xs) n h i =
      let p = and_parts (q x) (list_all q xs) h in
      in-all-or q x n (In n xs) p.0 (in-all q xs n p.1) (or_cases (nat_eq n x) (list_any (nat_eq n) xs) i)

  found-if : (c : Bool) (P : Place → Type 0) (x p : Place) (o : Option Place) → P x → (o ≡ Some p → P p) → (if c then Some x else o) ≡ Some p → P p
  found-if true P x p o fits f e = let same : x ≡ p = cc in subst P same fits
  found-if false P x p o fits f e = f e

  place-found : (P : Place → Type 0) (name : List ℕ) (ps : List Place) (p : Place) → Each P ps → place_of name ps ≡ Some p → P p
  place-found P name [] p each e = absurd (cc)
  place-found P name (x ∷ ps) p each e = found-if (bytes_eq x.name name) P x p (place_of name ps) each.0 (place-found P name ps p each.1) e

  behind-not : (b : Bool) → b ≡ false → (b ≡ true) → ⊥
  behind-not b e f = let g : false ≡ true = cc in cc

  ahead-of : (b : Bool) (P : Type 0) → b ≡ false → (b ≡ true) ⊎ P → P
  ahead-of b P e (inl f) = absurd (behind-not b e f)
  ahead-of b P e (inr p) = p

  label-aim : (m : Marks) (b : ℕ) (name : List ℕ) (j : JumpFits (Holds loops []) m b name) (o : Option Place) → Each (PlaceFits (Holds loops []) m.limit) m.places → place_of name m.places ≡ o → fault_of_jump o j.jump ≡ []
      → (block_of_place o < m.limit) × EdgeFits (Holds loops []) b (block_of_place o)
  label-aim m b name j None places e sound = absurd (cc)
  label-aim m b name j (Some p) places e sound =
      let quiet = or_parts j.jump.is_behind (not (is_enclosed p.loops j.jump.loops)) (no-fault (j.jump.is_behind || not (is_enclosed p.loops j.jump.loops)) _ sound) in
      let fits = place-found (PlaceFits (Holds loops []) m.limit) name m.places p places e in
      let on : b < p.block = ahead-of j.jump.is_behind ((q : Place) → place_of name m.places ≡ Some q → b < q.block) quiet.0 j.ahead p e in (
        fits.below,
        record {
          way = inl on;
          entered = λ h lt held. j.loops h (in-all (λ n. list_any (nat_eq n) j.jump.loops) p.loops h (not-false (is_enclosed p.loops j.jump.loops) quiet.1) (fits.loops h held)) (inl (held-self loops h p.block (held-only h p.block held)));
        },
      )

  aim-target : (m : Marks) (b : ℕ) → m.around ≡ [] → Each (PlaceFits (Holds loops []) m.limit) m.places → Each (Sound m.places) m.jumps → (a : Aim) → AimFits (Holds loops []) m b a
      → (target m.places m.exits a < m.limit) × EdgeFits (Holds loops []) b (target m.places m.exits a)
  aim-target m b none' places sound (Block t) f = f
  aim-target m b none' places sound (Label name) f =
      label-aim m b name f (place_of name m.places) places refl
      (subst (λ n. fault_of_jump (place_of n m.places) f.jump ≡ []) f.named (each-at (Sound m.places) m.jumps f.jump sound f.listed))
  aim-target m b none' places sound (Exit s) (inl k) = (k.below, k.edge)
  aim-target m b none' places sound (Exit s) (inr o) = absurd (let f : false ≡ true = subst (In s) none' o.0 in cc)

  aim-fits : (m : Marks) (b : ℕ) → m.around ≡ [] → Each (PlaceFits (Holds loops []) m.limit) m.places → Each (Sound m.places) m.jumps → (a : Aim) → AimFits (Holds loops []) m b a
      → target_fits loops m.limit b (target m.places m.exits a) ≡ true
  aim-fits m b none' places sound a f =
      let p = aim-target m b none' places sound a f in
      and_from (nat_lt (target m.places m.exits a) m.limit) (edge_fits loops b (target m.places m.exits a)) (lt-ltb (target m.places m.exits a) m.limit p.0) (edge-fits b (target m.places m.exits a) p.1)

  end-fits : (m : Marks) (b : ℕ) → m.around ≡ [] → Each (PlaceFits (Holds loops []) m.limit) m.places → Each (Sound m.places) m.jumps → (e : End) → EndFits (Holds loops []) m b e
      → next_fits loops m.limit b (next_of m.places m.exits e) ≡ true
  end-fits m b none' places sound (Goes aims) f =
      and_from (nat_lt 0 (length (map (target m.places m.exits) aims))) (list_all (target_fits loops m.limit b) (map (target m.places m.exits) aims))
      (lt-ltb 0 (length (map (target m.places m.exits) aims)) (omega (arith, f.0, length-map aims (target m.places m.exits))))
      (list_all-map (target_fits loops m.limit b) (target m.places m.exits) aims
      ∙ each-list_all (λ a. target_fits loops m.limit b (target m.places m.exits a)) aims
      (each-weaker (AimFits (Holds loops []) m b) (λ a. target_fits loops m.limit b (target m.places m.exits a) ≡ true) (aim-fits m b none' places sound) aims f.1))
  end-fits m b none' places sound Returns f = refl

  -- ---- blocks

  block-fits : (procs : List SrcProc) (scope : Scope) (m : Marks) (number : ℕ) → m.around ≡ [] → Each (PlaceFits (Holds loops []) m.limit) m.places → Each (Sound m.places) m.jumps
      → (o : Option Ended) → ((b : Ended) → o ≡ Some b → (b.number ≡ number) × EndedFits procs scope (Holds loops []) m b)
      → block_fits procs scope loops m.limit number (block_of m.places m.exits o) ≡ true
  block-fits procs scope m number none' places sound None f = refl
  block-fits procs scope m number none' places sound (Some b) f =
      let p = f b refl in
      let e = p.1 in
      and_from (list_all (cmd_fits procs scope) b.cmds) (next_fits loops m.limit number (next_of m.places m.exits b.end)) e.cmds
      (subst (λ n. next_fits loops m.limit n (next_of m.places m.exits b.end) ≡ true) p.0 (end-fits m b.number none' places sound b.end e.ends))

  ended-if : (c : Bool) (P : Ended → Type 0) (number : ℕ) (x b : Ended) (o : Option Ended) → nat_eq x.number number ≡ c → P x → (o ≡ Some b → (b.number ≡ number) × P b) → (if c then Some x else o) ≡ Some b → (b.number ≡ number) × P b
  ended-if true P number x b o h fits f e = let same : x ≡ b = cc in subst (λ y. (y.number ≡ number) × P y) same (eqb-true x.number number h, fits)
  ended-if false P number x b o h fits f e = f e

  ended-found : (P : Ended → Type 0) (number : ℕ) (done : List Ended) (b : Ended) → Each P done → ended_at number done ≡ Some b → (b.number ≡ number) × P b
  ended-found P number [] b each e = absurd (cc)
  ended-found P number (x ∷ done) b each e = ended-if (nat_eq x.number number) P number x b (ended_at number done) refl each.0 (ended-found P number done b each.1) e

  pub blocks-fit : (procs : List SrcProc) (scope : Scope) (m : Marks) (done : List Ended) → m.around ≡ [] → Each (PlaceFits (Holds loops []) m.limit) m.places → Each (Sound m.places) m.jumps
      → Each (EndedFits procs scope (Holds loops []) m) done → (number left : ℕ) → blocks_fit procs scope loops m.limit number (blocks_from m.places m.exits done number left) ≡ true
  blocks-fit procs scope m done none' places sound each number zero = refl
  blocks-fit procs scope m done none' places sound each number (suc left) =
      and_from (block_fits procs scope loops m.limit number (block_of m.places m.exits (ended_at number done))) (blocks_fit procs scope loops m.limit (number + 1) (blocks_from m.places m.exits done (number + 1) left))
      (block-fits procs scope m number none' places sound (ended_at number done) (λ b e. ended-found (EndedFits procs scope (Holds loops []) m) number done b each e))
      (blocks-fit procs scope m done none' places sound each (number + 1) left)

loop-within : (limit : ℕ) (l : SrcLoop) → IsWithin 1 limit l → loop_is_within limit l ≡ true
loop-within limit l w =
    and_from (nat_lt 0 l.head) (nat_lt l.head l.exit && nat_lt l.exit limit) (lt-ltb 0 l.head (omega (arith, w.from)))
    (and_from (nat_lt l.head l.exit) (nat_lt l.exit limit) (lt-ltb l.head l.exit w.inside) (lt-ltb l.exit limit w.below))

pub loops-within : (limit : ℕ) (ls : List SrcLoop) → Each (IsWithin 1 limit) ls → list_all (loop_is_within limit) ls ≡ true
loops-within limit ls each = each-list_all (loop_is_within limit) ls (each-weaker (IsWithin 1 limit) (λ l. loop_is_within limit l ≡ true) (loop-within limit) ls each)
