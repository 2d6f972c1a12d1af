-- A procedure whose blocks are acyclic has an order: that of its facts, without the numbers that name no block.
use Rattle.std.proofs.Common.{◌≡◌, ℕ, ◌<◌, nat_eq, nat_lt, Bool, true, false, cond, List, [], ◌∷◌, length, slice_get, Option, None, Some, Contains, refl, sym, ◌∙◌, subst, inl, inr, ◌⊎◌, ⊎_elim, true≢false}
use Rattle.std.proofs.lemmas.Bool.{and_parts, or_cases, or_left, or_right, eq-eqb, eqb-true, ltb-true, lt-ltb}
use Rattle.std.specs.List.{list_all}
use Rattle.flat_prog.specs.declared.block.FlatBlock.{FlatBlock}
use Rattle.flat_prog.specs.declared.block.FlatNext.{FlatNext}
use Rattle.flat_prog.specs.declared.block.FlatNext.TheVariants.{Goto, Return}
use Rattle.flat_prog.specs.declared.proc.FlatProc.{FlatProc}
use Rattle.flat_prog.specs.Laws.{FlatProcsAreAcyclic}
use Rattle.flat_prog.specs.Ordering.{is_in, Onward, IsAcyclic}
use Rattle.flat_prog.specs.Program.{FlatProgram, scope_of}
use Rattle.flat_prog.specs.Shape.{place_of, place_at, block_fits, cmd_fits, next_fits, IsFlatProc, AreAcyclic}
use Rattle.flat_prog.specs.Shape as shape
use Rattle.flat_prog.proofs.Lists.{has_cases, has_none, test_at, all_at}

-- a number that is contained is among them
pub contained : (ns : List ℕ) (n : ℕ) → Contains ns n → is_in n ns ≡ true
contained [] n h = absurd (has_none n h)
contained (m ∷ ms) n h = ⊎_elim (λ e. or_left (nat_eq n m) (is_in n ms) (eq-eqb n m (sym e))) (λ more. or_right (nat_eq n m) (is_in n ms) (contained ms n more)) (has_cases n m ms h)

-- those that name a block
abbrev pub kept : ℕ → List ℕ → List ℕ
kept size [] = []
kept size (n ∷ ns) = cond (nat_lt n size) (n ∷ kept size ns) (kept size ns)

in_kept : (size n : ℕ) (ns : List ℕ) → n < size → is_in n ns ≡ true → is_in n (kept size ns) ≡ true
in_kept size n [] less h = h
in_kept size n (m ∷ ms) less h = by (nat_lt m size) refl (or_cases (nat_eq n m) (is_in n ms) h) (λ e. in_kept size n ms less e)
  where
    by : (b : Bool) → nat_lt m size ≡ b → (nat_eq n m ≡ true) ⊎ (is_in n ms ≡ true) → (is_in n ms ≡ true → is_in n (kept size ms) ≡ true) → is_in n (cond b (m ∷ kept size ms) (kept size ms)) ≡ true
    by true test (inl e) more = or_left (nat_eq n m) (is_in n (kept size ms)) e
    by true test (inr e) more = or_right (nat_eq n m) (is_in n (kept size ms)) (more e)
    by false test (inl e) more = let same : n ≡ m = eqb-true n m e in absurd (true≢false (sym (lt-ltb m size (subst (λ x. x < size) same less)) ∙ test))
    by false test (inr e) more = more e

kept_there : (size n : ℕ) (ns : List ℕ) → is_in n (kept size ns) ≡ true → n < size
kept_there size n [] h = absurd (true≢false (sym h))
kept_there size n (m ∷ ms) h = by (nat_lt m size) refl (λ e. kept_there size n ms e) h
  where
    by : (b : Bool) → nat_lt m size ≡ b → (is_in n (kept size ms) ≡ true → n < size) → is_in n (cond b (m ∷ kept size ms) (kept size ms)) ≡ true → n < size
    by true test more h = ⊎_elim (λ e. subst (λ x. x < size) (sym (eqb-true n m e)) (ltb-true m size test)) more (or_cases (nat_eq n m) (is_in n (kept size ms)) h)
    by false test more h = more h

-- the blocks to which edges lead are there
next_within : (size : ℕ) (next : FlatNext) (place to : ℕ) → next_fits size next ≡ true → place_of next place ≡ Some to → to < size
next_within size Return place to fits at = cc
next_within size (Goto targets) place to fits at =
    ltb-true to size (test_at (λ t. nat_lt t size) targets place to (and_parts (nat_lt 0 (length targets)) (list_all (λ t. nat_lt t size) targets) fits).1 at)

pub edge_within : (flat : FlatProgram) (q : FlatProc) (n place to : ℕ) → IsFlatProc flat q → place_at (slice_get q.blocks n) place ≡ Some to → to < length q.blocks
edge_within flat q n place to fits at = by (slice_get q.blocks n) refl at
  where
    by : (o : Option FlatBlock) → slice_get q.blocks n ≡ o → place_at o place ≡ Some to → to < length q.blocks
    by None is at = cc
    by (Some block) is at =
        let fit = test_at (block_fits flat.procs (scope_of flat q) (length q.blocks)) q.blocks n block fits.blocks is in
        next_within (length q.blocks) block.next place to (and_parts (list_all (cmd_fits flat.procs (scope_of flat q)) block.cmds) (next_fits (length q.blocks) block.next) fit).1 at

kept_onward : (flat : FlatProgram) (q : FlatProc) (ns : List ℕ) → IsFlatProc flat q → shape.Onward q.blocks ns → Onward q (kept (length q.blocks) ns)
kept_onward flat q [] fits onward = tt
kept_onward flat q (n ∷ ns) fits onward = by (nat_lt n (length q.blocks)) (kept_onward flat q ns fits onward.1)
  where
    by : (b : Bool) → Onward q (kept (length q.blocks) ns) → Onward q (cond b (n ∷ kept (length q.blocks) ns) (kept (length q.blocks) ns))
    by true more = (λ place to at. in_kept (length q.blocks) to ns (edge_within flat q n place to fits at) (contained ns to (onward.0 place to at)), more)
    by false more = more

pub acyclic_is : FlatProcsAreAcyclic
acyclic_is flat q fits = record {
  order = kept (length q.blocks) fits.acyclic.order;
  ordered = record {
    onward = kept_onward flat q fits.acyclic.order fits fits.acyclic.onward;
    every = λ n less. in_kept (length q.blocks) n fits.acyclic.order less (contained fits.acyclic.order n (fits.acyclic.every n less));
    there = λ n h. kept_there (length q.blocks) n fits.acyclic.order h;
  };
}

-- a procedure of a flat program is such
pub proc_acyclic : (flat : FlatProgram) (p : ℕ) (q : FlatProc) → shape.IsFlat flat → slice_get flat.procs p ≡ Some q → IsAcyclic q
proc_acyclic flat p q fits is = acyclic_is flat q (all_at (IsFlatProc flat) flat.procs p q fits.procs is)
