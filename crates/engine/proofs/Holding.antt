-- A live leaf can be held, and turns go on at a leaf that is held.
use Rattle.std.proofs.Common.{◌≡◌, ℕ, suc, ◌+◌, Bool, true, false, List, [], ◌∷◌, length, cond, slice_get, refl, sym, ap, ◌∙◌, subst, true≢false, Some, Ok, Err, arith}
use Rattle.std.specs.Prelude.{Option, None, Result, MatchResult}
use Rattle.std.proofs.lemmas.Option.{none-some, same_Some}
use Rattle.piece_core.specs.declared.refusals.EventRefusal.{EventRefusal}
use Rattle.piece_core.specs.declared.refusals.EventRefusal.TheVariants.{Stale}
use Rattle.piece_core.specs.declared.events.Event.TheVariants.{Back as BackEvent}
use Rattle.piece_core.specs.declared.leaves.Leaf.{Leaf}
use Rattle.piece_core.specs.declared.leaves.Status2.{Status2}
use Rattle.piece_core.specs.declared.leaves.Status2.TheVariants.{Live, Closed, Found, Split}
use Rattle.piece_core.specs.Shapes.{is_live, changed}
use Rattle.piece_core.specs.Evidence.{shape_of, kind_of}
use Rattle.piece_core.specs.Refusals.{take_at, take_holder, take_refusal, back_at, back_holder, back_refusal}
use Rattle.piece_core.specs.Book.{Ledger, Same, Booked, entry, leaf_with, least_live, live_or}
use Rattle.engine.specs.Engine.{IsLive}
use Rattle.engine.proofs.Turning.{own_written, live_test}

-- a live leaf that nobody holds
pub record IsFree (l : Ledger) (node : ℕ) : Type 0 where
  pub leaf : Leaf
  pub at : slice_get l.nodes node ≡ Some leaf
  pub live : leaf.status ≡ Live
  pub free : leaf.holder ≡ None

back_kept : (old : Ledger) (node : ℕ) (e : EventRefusal) (leaf : Leaf) (o : Option ℕ) → leaf.holder ≡ o → slice_get old.nodes node ≡ Some leaf → leaf.status ≡ Live → back_refusal old.nodes node ≡ Some e → o ≡ None
back_kept old node e leaf None is at live h = refl
back_kept old node e leaf (Some by) is at live h =
    absurd (none-some e (sym (ap back_holder is) ∙ sym (ap (λ (b : Bool). cond b (back_holder leaf.holder) (Some (Stale (kind_of leaf.status)))) (live_test leaf.status live)) ∙ sym (ap (back_at (length old.nodes)) at) ∙ h))

pub freed : (X Y : Type 0) (r : Result (Unit {0}) EventRefusal) (old new : Ledger) (worker node : ℕ) → IsLive old node
    → MatchResult r (λ _. (back_refusal old.nodes node ≡ None) × Booked old new (entry worker node BackEvent) Live × X × Y) (λ e. (back_refusal old.nodes node ≡ Some e) × (new ≡ old)) → IsFree new node
freed X Y (Ok a) old new worker node h (no_refusal, booked, x, y) = record {
  leaf = leaf_with (changed (shape_of h.leaf) worker BackEvent) Live;
  at = ap (λ (ns : List Leaf). slice_get ns node) booked.nodes ∙ own_written old.nodes (entry worker node BackEvent) Live h.leaf h.at;
  live = refl;
  free = refl;
}
freed X Y (Err e) old new worker node h (refused, same) = record {
  leaf = h.leaf;
  at = ap (λ (l : Ledger). slice_get l.nodes node) same ∙ h.at;
  live = h.live;
  free = back_kept old node e h.leaf h.leaf.holder refl h.at h.live refused;
}

pub free_same : (old new : Ledger) (node : ℕ) → Same old new → IsFree old node → IsFree new node
free_same old new node same h = record { leaf = h.leaf; at = ap (λ (ns : List Leaf). slice_get ns node) same.nodes ∙ h.at; live = h.live; free = h.free }

pub taken : (l : Ledger) (node : ℕ) (e : EventRefusal) → IsFree l node → take_refusal l.nodes node ≡ Some e → ⊥
taken l node e h refused = none-some e
    (sym (ap take_holder h.free) ∙ sym (ap (λ (b : Bool). cond b (take_holder h.leaf.holder) (Some (Stale (kind_of h.leaf.status)))) (live_test h.leaf.status h.live)) ∙ sym (ap (take_at (length l.nodes)) h.at) ∙ refused)

pub live_of_free : (l : Ledger) (node : ℕ) → IsFree l node → IsLive l node
live_of_free l node h = record { leaf = h.leaf; at = h.at; live = h.live }

-- ---- the least live leaf is live

status_is : (t : Status2) → is_live (kind_of t) ≡ true → t ≡ Live
status_is Live h = refl
status_is (Closed proof) h = absurd (true≢false (sym h))
status_is (Found run) h = absurd (true≢false (sym h))
status_is (Split site) h = absurd (true≢false (sym h))

least_at : (k : ℕ) (nodes : List Leaf) (n : ℕ) → least_live k nodes ≡ Some n → (i : ℕ) × (leaf : Leaf) × (n ≡ k + i) × (slice_get nodes i ≡ Some leaf) × (leaf.status ≡ Live)
least_at k [] n h = absurd (none-some n h)
least_at k (x ∷ xs) n h = by_live (is_live (kind_of x.status)) refl (λ r. least_at (k + 1) xs n r) h
  where
    by_live : (b : Bool) → is_live (kind_of x.status) ≡ b → (least_live (k + 1) xs ≡ Some n → (i : ℕ) × (leaf : Leaf) × (n ≡ k + 1 + i) × (slice_get xs i ≡ Some leaf) × (leaf.status ≡ Live)) → live_or b k (least_live (k + 1) xs) ≡ Some n
        → (i : ℕ) × (leaf : Leaf) × (n ≡ k + i) × (slice_get (x ∷ xs) i ≡ Some leaf) × (leaf.status ≡ Live)
    by_live true is rest r = let same = same_Some k n r in (0, x, omega (arith, same), refl, status_is x.status is)
    by_live false is rest r = let q = rest r in let place = q.2 in (suc q.0, q.1, omega (arith, place), q.3, q.4)

pub least_is_live : (l : Ledger) (n : ℕ) → least_live 0 l.nodes ≡ Some n → IsLive l n
least_is_live l n h =
    let q = least_at 0 l.nodes n h in
    let place : q.0 ≡ n = let e = q.2 in omega (arith, e) in
    record { leaf = q.1; at = subst (λ i. slice_get l.nodes i ≡ Some q.1) place q.3; live = q.4 }
