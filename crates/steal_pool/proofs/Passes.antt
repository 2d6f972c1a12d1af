-- Lists of passes.
use Rattle.std.proofs.Common.{◌≡◌, ◌≢◌, ℕ, zero, suc, ◌+◌, ◌<◌, List, [], ◌∷◌, map, Global, get_or, length, take, drop, set, sym, refl, ap, ◌∙◌, subst, arith}
use mathlib.Core.Option.{some, some-ne-none, some-injective}
use lib.ListN.{get_elem?}
use Rattle.crossbeam_deque.proofs.Lists.{at_index, at_map}
use Rattle.crossbeam_deque.specs.Handles.{stealer_deque}
use Rattle.crossbeam_deque.specs.declared.handles.Stealer.{Stealer}
use Rattle.steal_pool.specs.declared.rule.Ticket.{Ticket}
use Rattle.steal_pool.specs.declared.rule.View.{View}
use Rattle.steal_pool.specs.Seats.{Deque, TicketPass, IsThief, AreThieves, stolen_by, stolen_at}
use Rattle.steal_pool.specs.Thief.{HasThief}

pub thief_here : (d : Deque) (at : ℕ) (ps : List TicketPass) (x : TicketPass) → at < length ps → x ≡ get_or ps at x → HasThief d at ps → IsThief d x
thief_here d at ps x within is h = subst (IsThief d) (some-injective _ _ (sym h.1 ∙ at_index ps at x within is)) h.2

module _ {A : Type 0} where
  pub at_take : (l : List A) (n i : ℕ) (a : A) → i < n → get_elem? l i ≡ some a → get_elem? (take n l) i ≡ some a
  at_take l zero i a lt at = absurd (omega arith)
  at_take [] (suc n) i a lt at = absurd (some-ne-none a (sym at))
  at_take (x ∷ xs) (suc n) zero a lt at = at
  at_take (x ∷ xs) (suc n) (suc i) a lt at = at_take xs n i a (omega arith) at

  pub at_drop : (l : List A) (n i : ℕ) (a : A) → get_elem? l (n + i) ≡ some a → get_elem? (drop n l) i ≡ some a
  at_drop l zero i a at = let e : 0 + i ≡ i = omega arith in subst (λ (k : ℕ). get_elem? l k ≡ some a) e at
  at_drop [] (suc n) i a at = absurd (some-ne-none a (sym at))
  at_drop (x ∷ xs) (suc n) i a at = let e : suc n + i ≡ suc (n + i) = omega arith in at_drop xs n i a (subst (λ (k : ℕ). get_elem? (x ∷ xs) k ≡ some a) e at)

pub at_within : (ps : List TicketPass) (i : ℕ) (p : TicketPass) → get_elem? ps i ≡ some p → i < length ps
at_within [] i p at = absurd (some-ne-none p (sym at))
at_within (x ∷ xs) zero p at = omega arith
at_within (x ∷ xs) (suc i) p at = let h = at_within xs i p at in omega arith

pub thief_at : (ds : List Deque) (ps : List TicketPass) (i : ℕ) (d : Deque) → AreThieves ds ps → get_elem? ds i ≡ some d → HasThief d i ps
thief_at [] ps i d all at = absurd (some-ne-none d (sym at))
thief_at (e ∷ ds) [] i d all at = absurd all
thief_at (e ∷ ds) (p ∷ ps) zero d all at = (p, refl, subst (λ (x : Deque). IsThief x p) (some-injective e d at) all.0)
thief_at (e ∷ ds) (p ∷ ps) (suc i) d all at = thief_at ds ps i d all.1 at

pub thieves_length : (ds : List Deque) (ps : List TicketPass) → AreThieves ds ps → length ps ≡ length ds
thieves_length [] [] all = refl
thieves_length [] (p ∷ ps) all = absurd all
thieves_length (e ∷ ds) [] all = absurd all
thieves_length (e ∷ ds) (p ∷ ps) all = ap suc (thieves_length ds ps all.1)

pub thieves_set : (ds : List Deque) (ps : List TicketPass) (i : ℕ) (d : Deque) (q : TicketPass) → AreThieves ds ps → get_elem? ds i ≡ some d → IsThief d q → AreThieves ds (set ps i q)
thieves_set [] ps i d q all at is = absurd (some-ne-none d (sym at))
thieves_set (e ∷ ds) [] i d q all at is = absurd all
thieves_set (e ∷ ds) (p ∷ ps) zero d q all at is = (subst (λ (x : Deque). IsThief x q) (sym (some-injective e d at)) is, all.1)
thieves_set (e ∷ ds) (p ∷ ps) (suc i) d q all at is = (all.0, thieves_set ds ps i d q all.1 at is)

pub stolen_at_is : (ps : List TicketPass) (i : ℕ) (p : TicketPass) → get_elem? ps i ≡ some p → stolen_at ps i ≡ stolen_by p
stolen_at_is [] i p at = absurd (some-ne-none p (sym at))
stolen_at_is (x ∷ xs) zero p at = ap stolen_by (some-injective x p at)
stolen_at_is (x ∷ xs) (suc i) p at = stolen_at_is xs i p at

pub stolen_at_set : (ps : List TicketPass) (i : ℕ) (p q : TicketPass) → get_elem? ps i ≡ some p → stolen_at (set ps i q) i ≡ stolen_by q
stolen_at_set [] i p q at = absurd (some-ne-none p (sym at))
stolen_at_set (x ∷ xs) zero p q at = refl
stolen_at_set (x ∷ xs) (suc i) p q at = stolen_at_set xs i p q at

pub stolen_at_else : (ps : List TicketPass) (i j : ℕ) (q : TicketPass) → j ≢ i → stolen_at (set ps i q) j ≡ stolen_at ps j
stolen_at_else [] i j q other = refl
stolen_at_else (x ∷ xs) zero zero q other = absurd (other refl)
stolen_at_else (x ∷ xs) zero (suc j) q other = refl
stolen_at_else (x ∷ xs) (suc i) zero q other = refl
stolen_at_else (x ∷ xs) (suc i) (suc j) q other = stolen_at_else xs i j q (λ e. other (ap suc e))

pub deque_at : {P : Type 0} (ss : List (Stealer Ticket Global View P)) (i : ℕ) (x : Stealer Ticket Global View P) → i < length ss → x ≡ get_or ss i x → get_elem? (map stealer_deque ss) i ≡ some (stealer_deque x)
deque_at ss i x within is = at_map stealer_deque ss i x (at_index ss i x within is)
