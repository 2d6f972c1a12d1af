-- What stands behind the terms of an opening, and stays where more does.
use Rattle.std.proofs.Common.{◌≡◌, ℕ, ◌+◌, ◌≤◌, true, false, List, length, refl, sym, ap, ◌∙◌, subst, length-append, arith}
use Rattle.std.specs.Prelude.{IsSome, IsTrue, Option, Some}
use Rattle.hy_term.specs.Meaning.{Grows}
use Rattle.hy_term.specs.TermSorts.{sorts}
use Rattle.hy_term.specs.Variables.{below}
use Rattle.hy_term.specs.declared.node.TermNode.{TermNode}
use Rattle.flat_prog.specs.Program.{FlatProgram}
use Rattle.flat_prog.specs.Runs.{are_allowed}
use Rattle.tree_terms.specs.Reach.{IsAlways}
use Rattle.tree_terms.specs.Rules.{IsBit, IsBool, IsFalse}
use Rattle.tree_terms.specs.Standing.{Later, all_at}
use Rattle.tree_terms.proofs.Growth.{below_more, fits_before, grows_on, map_later}
use Rattle.tree_terms.proofs.Ruling.{bit_stays, bool_stays, false_stays}
use Rattle.tree_query.specs.Allowing.{SaysAllowed}
use Rattle.tree_query.specs.Founded.{IsFoundation}
use Rattle.tree_query.specs.Opening.{CanHaveValues, HasTerms}
use Rattle.tree_query.specs.declared.opening.BaseTerms.{BaseTerms}

pub longer : (x y : List TermNode) → Grows x y → length x ≤ length y
longer x y g = let e : length y ≡ length x + length g.0 = ap length g.1 ∙ length-append x g.0 in omega arith

-- numbers below the count of the terms stay such
pub still_low : (x y : List TermNode) → Grows x y → ((k : ℕ) → IsTrue (below k x) → IsTrue (below k y)) → IsTrue (below (length x) x) → IsTrue (below (length y) y)
still_low x y g low h = below_more (length x) (length y) y (longer x y g) (low (length x) h)

always_stays : (old new : List TermNode) (t : ℕ) → IsSome (sorts old) → IsSome (sorts new) → Grows old new → IsAlways old t → IsAlways new t
always_stays old new t old_ok ok g x = record { bool = bool_stays old new t old_ok ok g x.bool; on = λ a f. bit_stays a old new t old_ok g x.bool ∙ x.on a (fits_before a old new g f) }

-- the bool that is answered, where the terms and the constants are these
pub says_bit : (flat : FlatProgram) (old old2 new new2 : List TermNode) (consts consts2 : List ℕ) (o : Option ℕ) (t : ℕ) → o ≡ Some t → old2 ≡ old → new2 ≡ new → consts2 ≡ consts → SaysAllowed flat old2 new2 consts2 o
    → IsBit old new (λ a. are_allowed flat (all_at a old consts)) t
says_bit flat old old2 new new2 consts consts2 o t oe pe ne ce h =
    let one = subst (λ (x : Option ℕ). SaysAllowed flat old2 new2 consts2 x) oe h in
    let two = subst (λ (ns : List TermNode). IsBit ns new2 (λ a. are_allowed flat (all_at a ns consts2)) t) pe one.1 in
    let three = subst (λ (ns : List TermNode). IsBit old ns (λ a. are_allowed flat (all_at a old consts2)) t) ne two in
    subst (λ (cs : List ℕ). IsBit old new (λ a. are_allowed flat (all_at a old cs)) t) ce three

pub founded : (flat : FlatProgram) (entry : ℕ) (b : BaseTerms) (one two new : List TermNode) (allowed always never : ℕ) → HasTerms flat entry b.terms.nodes b → CanHaveValues flat entry b.terms.nodes b
    → IsBit b.terms.nodes one (λ a. are_allowed flat (all_at a b.terms.nodes b.consts)) allowed → IsBit one two (λ a. true) always → IsBit two new (λ a. false) never
    → IsFoundation flat entry new b.consts b.globals b.args allowed always never
founded flat entry b one two new allowed always never has can x y z =
    let more = grows_on one two new y.grows z.grows in
    let all = grows_on b.terms.nodes one new x.grows more in
    let later : Later b.terms.nodes new = record { nodes = all; sound = z.sorted } in
    record {
      opening = b;
      has = has;
      can = can;
      grows = all;
      sorted = z.sorted;
      fit = λ a f. z.fit a (y.fit a (x.fit a f));
      low = still_low b.terms.nodes new all (λ k h. z.low k (y.low k (x.low k h))) has.low;
      consts_are = refl;
      globals_are = refl;
      args_are = refl;
      bool = bool_stays one new allowed x.sorted z.sorted more x.bool;
      says = λ a f. bit_stays a one new allowed x.sorted more x.bool
          ∙ (x.means a (fits_before a one new more f) ∙ ap (are_allowed flat) (sym (map_later b.terms.nodes new a b.consts flat.consts later has.consts)));
      is_always = always_stays two new always y.sorted z.sorted z.grows (record { bool = y.bool; on = y.means });
      is_never = record { bool = z.bool; off = z.means };
    }

-- the bools stay such
pub always_later : (flat : FlatProgram) (entry : ℕ) (base new : List TermNode) (consts globals args : List ℕ) (allowed always never : ℕ) → IsFoundation flat entry base consts globals args allowed always never → IsSome (sorts new) → Grows base new → IsAlways new always
always_later flat entry base new consts globals args allowed always never x ok g = always_stays base new always x.sorted ok g x.is_always

pub never_later : (flat : FlatProgram) (entry : ℕ) (base new : List TermNode) (consts globals args : List ℕ) (allowed always never : ℕ) → IsFoundation flat entry base consts globals args allowed always never → IsSome (sorts new) → Grows base new → IsFalse new never
never_later flat entry base new consts globals args allowed always never x ok g = false_stays base new never x.sorted ok g x.is_never

pub allowed_later : (flat : FlatProgram) (entry : ℕ) (base new : List TermNode) (consts globals args : List ℕ) (allowed always never : ℕ) → IsFoundation flat entry base consts globals args allowed always never → IsSome (sorts new) → Grows base new → IsBool new allowed
allowed_later flat entry base new consts globals args allowed always never x ok g = bool_stays base new allowed x.sorted ok g x.bool
