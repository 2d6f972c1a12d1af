-- Loop procedures have ranks that fall along calls of others.
use Rattle.std.proofs.Common.{◌≡◌, ℕ, zero, suc, ◌<◌, ◌≤◌, Bool, true, false, nat_eq, cond, List, [], ◌∷◌, ◌++◌, length, slice_get, Option, None, Some, Any, Contains, IsTrue, refl, sym, ◌∙◌, subst, inl, inr, ◌⊎◌, ⊎_elim, arith, true≢false, not-suc-le-zero}
use Rattle.std.proofs.lemmas.Bool.{or_cases, or_left, or_right, eq-eqb, eqb-true, both_ways, cases_eq, cases_lt}
use Rattle.std.proofs.lemmas.Option.{slice_get_within}
use Rattle.flat_prog.specs.Program.{FlatProgram, scope_of}
use Rattle.flat_prog.specs.Shape.{Calls, is_call_of, is_loop_kind, CallsOnward, HaveNoLoopCircle, IsFlat, IsFlatProc, cmd_fits, next_fits, call_fits, block_fits}
use Rattle.flat_prog.specs.Sites.{calls_of, sites_of}
use Rattle.flat_prog.specs.declared.block.FlatCmd.{FlatCmd}
use Rattle.flat_prog.specs.declared.block.FlatCmd.TheVariants.{Assign, Havoc, Assume, Assert, Call}
use Rattle.flat_prog.specs.declared.block.FlatBlock.{FlatBlock}
use Rattle.flat_prog.specs.declared.proc.FlatProc.{FlatProc}
use Rattle.flat_prog.specs.Once.{has_number}
use Rattle.call_tree.proofs.Lists.{any_here, any_there, has_cases, has_none}
use Rattle.call_tree.proofs.Freeing.{any_all, all_at}
use Rattle.std.specs.List.{list_all}
use Rattle.std.proofs.lemmas.Bool.{and_parts}

-- ---- numbers in lists

number_here : (n : ℕ) (ns : List ℕ) → has_number (n ∷ ns) n ≡ true
number_here n ns = or_left (nat_eq n n) (has_number ns n) (eq-eqb n n refl)

pub from_contains : (ns : List ℕ) (n : ℕ) → Contains ns n → has_number ns n ≡ true
from_contains [] n h = absurd (has_none n h)
from_contains (m ∷ ms) n h = ⊎_elim (λ e. or_left (nat_eq m n) (has_number ms n) (eq-eqb m n e)) (λ more. or_right (nat_eq m n) (has_number ms n) (from_contains ms n more)) (has_cases n m ms h)

number_at : (ns : List ℕ) (k n : ℕ) → slice_get ns k ≡ Some n → has_number ns n ≡ true
number_at [] k n h = cc
number_at (m ∷ ms) zero n h = let e : m ≡ n = cc in or_left (nat_eq m n) (has_number ms n) (eq-eqb m n e)
number_at (m ∷ ms) (suc k) n h = or_right (nat_eq m n) (has_number ms n) (number_at ms k n h)

pub number_cases : (ms ns : List ℕ) (n : ℕ) → has_number (ms ++ ns) n ≡ true → (has_number ms n ≡ true) ⊎ (has_number ns n ≡ true)
number_cases [] ns n h = inr h
number_cases (m ∷ ms) ns n h =
    ⊎_elim (λ e. inl (or_left (nat_eq m n) (has_number ms n) e))
    (λ e. ⊎_elim (λ x. inl (or_right (nat_eq m n) (has_number ms n) x)) (λ y. inr y) (number_cases ms ns n e)) (or_cases (nat_eq m n) (has_number (ms ++ ns) n) h)

-- ---- calls at sites

cmds_call : (cmds : List FlatCmd) (r : ℕ) → has_number (calls_of cmds) r ≡ true → Any (λ c. IsTrue (is_call_of r c)) cmds
cmds_call [] r h = absurd (true≢false (sym h))
cmds_call (Assign pairs ∷ cmds) r h = any_there (λ c. IsTrue (is_call_of r c)) (Assign pairs) cmds (cmds_call cmds r h)
cmds_call (Havoc xs ∷ cmds) r h = any_there (λ c. IsTrue (is_call_of r c)) (Havoc xs) cmds (cmds_call cmds r h)
cmds_call (Assume e ∷ cmds) r h = any_there (λ c. IsTrue (is_call_of r c)) (Assume e) cmds (cmds_call cmds r h)
cmds_call (Assert p n e ∷ cmds) r h = any_there (λ c. IsTrue (is_call_of r c)) (Assert p n e) cmds (cmds_call cmds r h)
cmds_call (Call p args outs ∷ cmds) r h =
    ⊎_elim (λ e. any_here (λ c. IsTrue (is_call_of r c)) (Call p args outs) cmds e) (λ e. any_there (λ c. IsTrue (is_call_of r c)) (Call p args outs) cmds (cmds_call cmds r e)) (or_cases (nat_eq p r) (has_number (calls_of cmds) r) h)

blocks_call : (blocks : List FlatBlock) (r : ℕ) → has_number (sites_of blocks) r ≡ true → Any (λ (b : FlatBlock). Any (λ c. IsTrue (is_call_of r c)) b.cmds) blocks
blocks_call [] r h = absurd (true≢false (sym h))
blocks_call (b ∷ blocks) r h =
    ⊎_elim (λ e. any_here (λ (b : FlatBlock). Any (λ c. IsTrue (is_call_of r c)) b.cmds) b blocks (cmds_call b.cmds r e)) (λ e. any_there (λ (b : FlatBlock). Any (λ c. IsTrue (is_call_of r c)) b.cmds) b blocks (blocks_call blocks r e))
    (number_cases (calls_of b.cmds) (sites_of blocks) r h)

pub site_calls : (q : FlatProc) (site r : ℕ) → slice_get (sites_of q.blocks) site ≡ Some r → Calls q r
site_calls q site r h = blocks_call q.blocks r (number_at (sites_of q.blocks) site r h)

called_within : (procs : List FlatProc) (flat : FlatProgram) (q : FlatProc) (r : ℕ) (c : FlatCmd) → cmd_fits procs (scope_of flat q) c ≡ true → is_call_of r c ≡ true → r < length procs
called_within procs flat q r (Assign pairs) h k = absurd (true≢false (sym k))
called_within procs flat q r (Havoc xs) h k = absurd (true≢false (sym k))
called_within procs flat q r (Assume e) h k = absurd (true≢false (sym k))
called_within procs flat q r (Assert p n e) h k = absurd (true≢false (sym k))
called_within procs flat q r (Call p args outs) h k = subst (λ (x : ℕ). x < length procs) (eqb-true p r k) (found (slice_get procs p) refl h)
  where
    found : (o : Option FlatProc) → slice_get procs p ≡ o → call_fits (scope_of flat q) o args outs ≡ true → p < length procs
    found None is h = absurd (true≢false (sym h))
    found (Some t) is h = slice_get_within procs p t is

-- what a procedure of the program calls is one
pub callee_within : (flat : FlatProgram) (p : ℕ) (q : FlatProc) (r : ℕ) → IsFlat flat → slice_get flat.procs p ≡ Some q → Calls q r → r < length flat.procs
callee_within flat p q r fits is calls =
    let f = all_at (IsFlatProc flat) flat.procs p q fits.procs is in
    any_all (λ (b : FlatBlock). Any (λ c. IsTrue (is_call_of r c)) b.cmds) (r < length flat.procs) (block_fits flat.procs (scope_of flat q) (length q.blocks)) q.blocks
    (λ b fit some. any_all (λ c. IsTrue (is_call_of r c)) (r < length flat.procs) (cmd_fits flat.procs (scope_of flat q)) b.cmds
    (λ c fits k. called_within flat.procs flat q r c fits k) (and_parts (list_all (cmd_fits flat.procs (scope_of flat q)) b.cmds) (next_fits (length q.blocks) b.next) fit).0 some)
    f.blocks calls

-- ---- ranks

-- how many numbers below a bound are in the list
abbrev pub counted : ℕ → List ℕ → ℕ
counted zero ns = 0
counted (suc m) ns = cond (has_number ns m) (suc (counted m ns)) (counted m ns)

counted_most : (m : ℕ) (ns : List ℕ) → counted m ns ≤ m
counted_most zero ns = omega arith
counted_most (suc m) ns = by_test (has_number ns m) (counted_most m ns)
  where
    by_test : (b : Bool) → counted m ns ≤ m → cond b (suc (counted m ns)) (counted m ns) ≤ suc m
    by_test true h = omega arith
    by_test false h = omega arith

counted_le : (m : ℕ) (ms ns : List ℕ) → ((n : ℕ) → has_number ms n ≡ true → has_number ns n ≡ true) → counted m ms ≤ counted m ns
counted_le zero ms ns h = omega arith
counted_le (suc m) ms ns h = by_tests (has_number ms m) (has_number ns m) (h m) (counted_le m ms ns h)
  where
    by_tests : (a b : Bool) → (a ≡ true → b ≡ true) → counted m ms ≤ counted m ns → cond a (suc (counted m ms)) (counted m ms) ≤ cond b (suc (counted m ns)) (counted m ns)
    by_tests true true up h = omega arith
    by_tests true false up h = absurd (true≢false (sym (up refl)))
    by_tests false true up h = omega arith
    by_tests false false up h = h

pub counted_less : (m : ℕ) (ms ns : List ℕ) (k : ℕ) → ((n : ℕ) → has_number ms n ≡ true → has_number ns n ≡ true) → k < m → has_number ms k ≡ false → has_number ns k ≡ true → counted m ms < counted m ns
counted_less zero ms ns k h l out at = absurd (not-suc-le-zero l)
counted_less (suc m) ms ns k h l out at = by_place (cases_eq k m) (counted_le m ms ns h) (λ lower. counted_less m ms ns k h lower out at)
  where
    by_tests : (a b : Bool) → (a ≡ true → b ≡ true) → counted m ms < counted m ns → cond a (suc (counted m ms)) (counted m ms) < cond b (suc (counted m ns)) (counted m ns)
    by_tests true true up h = omega arith
    by_tests true false up h = absurd (true≢false (sym (up refl)))
    by_tests false true up h = omega arith
    by_tests false false up h = h

    at_last : (a b : Bool) → a ≡ false → b ≡ true → counted m ms ≤ counted m ns → cond a (suc (counted m ms)) (counted m ms) < cond b (suc (counted m ns)) (counted m ns)
    at_last true b e f h = absurd (true≢false e)
    at_last false true e f h = omega arith
    at_last false false e f h = absurd (true≢false (sym f))

    below : k < suc m → (k ≡ m → ⊥) → k < m
    below l e = ⊎_elim (λ h. h) (λ h. absurd (e (omega arith))) (cases_lt k m)

    by_place : ((k ≡ m) ⊎ (k ≡ m → ⊥)) → counted m ms ≤ counted m ns → (k < m → counted m ms < counted m ns) → cond (has_number ms m) (suc (counted m ms)) (counted m ms) < cond (has_number ns m) (suc (counted m ns)) (counted m ns)
    by_place (inl e) le less = at_last (has_number ms m) (has_number ns m) (subst (λ (n : ℕ). has_number ms n ≡ false) e out) (subst (λ (n : ℕ). has_number ns n ≡ true) e at) le
    by_place (inr e) le less = by_tests (has_number ms m) (has_number ns m) (h m) (less (below l e))

-- what stands behind the last place of a number
abbrev pub behind : List ℕ → ℕ → List ℕ
behind [] p = []
behind (q ∷ qs) p = cond (has_number qs p) (behind qs p) qs

pub behind_without : (ns : List ℕ) (p : ℕ) → has_number (behind ns p) p ≡ false
behind_without [] p = refl
behind_without (q ∷ qs) p = by_test (has_number qs p) refl (behind_without qs p)
  where
    by_test : (b : Bool) → has_number qs p ≡ b → has_number (behind qs p) p ≡ false → has_number (cond b (behind qs p) qs) p ≡ false
    by_test true is h = h
    by_test false is h = is

behind_among : (ns : List ℕ) (p n : ℕ) → has_number (behind ns p) n ≡ true → has_number ns n ≡ true
behind_among [] p n h = h
behind_among (q ∷ qs) p n h = or_right (nat_eq q n) (has_number qs n) (by_test (has_number qs p) (λ k. behind_among qs p n k) h)
  where
    by_test : (b : Bool) → (has_number (behind qs p) n ≡ true → has_number qs n ≡ true) → has_number (cond b (behind qs p) qs) n ≡ true → has_number qs n ≡ true
    by_test true go h = go h
    by_test false go h = h

pub behind_fewer : (ns : List ℕ) (p to : ℕ) → has_number (behind ns p) to ≡ true → (n : ℕ) → has_number (behind ns to) n ≡ true → has_number (behind ns p) n ≡ true
behind_fewer [] p to h n k = k
behind_fewer (q ∷ qs) p to h n k = by_test (has_number qs p) (λ g m. behind_fewer qs p to g n m) h
  where
    inner : has_number qs to ≡ true → has_number (behind qs to) n ≡ true
    inner e = subst (λ (b : Bool). has_number (cond b (behind qs to) qs) n ≡ true) e k

    by_test : (b : Bool) → (has_number (behind qs p) to ≡ true → has_number (behind qs to) n ≡ true → has_number (behind qs p) n ≡ true) → has_number (cond b (behind qs p) qs) to ≡ true → has_number (cond b (behind qs p) qs) n ≡ true
    by_test true go h = go h (inner (behind_among qs p to h))
    by_test false go h = behind_among qs to n (inner h)

calls_behind : (procs : List FlatProc) (ns : List ℕ) (p : ℕ) (q called : FlatProc) (to : ℕ) → CallsOnward procs ns → has_number ns p ≡ true → slice_get procs p ≡ Some q → slice_get procs to ≡ Some called →
    is_loop_kind called.kind ≡ true → Calls q to → (to ≡ p → ⊥) → has_number (behind ns p) to ≡ true
calls_behind procs [] p q called to onward at is found loop calls other = absurd (true≢false (sym at))
calls_behind procs (m ∷ ms) p q called to onward at is found loop calls other = by_test (has_number ms p) refl (λ e. calls_behind procs ms p q called to onward.1 e is found loop calls other)
  where
    first : has_number ms p ≡ false → m ≡ p
    first out = ⊎_elim (λ e. eqb-true m p e) (λ e. absurd (both_ways (has_number ms p) out e)) (or_cases (nat_eq m p) (has_number ms p) at)

    by_test : (b : Bool) → has_number ms p ≡ b → (has_number ms p ≡ true → has_number (behind ms p) to ≡ true) → has_number (cond b (behind ms p) ms) to ≡ true
    by_test true e go = go e
    by_test false e go =
        ⊎_elim (λ same. absurd (other (same ∙ first e))) (λ more. from_contains ms to more)
        (onward.0 q called to (subst (λ (x : ℕ). slice_get procs x ≡ Some q) (sym (first e)) is) found loop calls)

-- the rank of a loop procedure: how many loop procedures stand behind it
abbrev pub rank_of : FlatProgram → List ℕ → ℕ → ℕ
rank_of flat order p = counted (length flat.procs) (behind order p)

pub rank_most : (flat : FlatProgram) (order : List ℕ) (p : ℕ) → rank_of flat order p ≤ length flat.procs
rank_most flat order p = counted_most (length flat.procs) (behind order p)

pub rank_falls : (flat : FlatProgram) (p to : ℕ) (q called : FlatProc) → (h : HaveNoLoopCircle flat.procs) → slice_get flat.procs p ≡ Some q → slice_get flat.procs to ≡ Some called →
    is_loop_kind q.kind ≡ true → is_loop_kind called.kind ≡ true → Calls q to → (to ≡ p → ⊥) → rank_of flat h.order to < rank_of flat h.order p
rank_falls flat p to q called h is found loop loops calls other =
    let at = calls_behind flat.procs h.order p q called to h.onward (from_contains h.order p (h.every p q is loop)) is found loops calls other in
    counted_less (length flat.procs) (behind h.order to) (behind h.order p) to (behind_fewer h.order p to at) (slice_get_within flat.procs to called found) (behind_without h.order to) at
