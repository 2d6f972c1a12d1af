-- Calls in order.
use Rattle.std.proofs.Common.{◌≡◌, ℕ, List, [], ◌∷◌, ◌++◌, refl, sym, ap, ◌∙◌, subst, reverse, append_assoc}
use Rattle.std.specs.Prelude.{All}
use Rattle.std.proofs.lemmas.List.{reverse-append}
use Rattle.std.proofs.lemmas.List.Elements.{All-cons, All-nil, All-head, All-tail}
use Rattle.piece_core.specs.declared.tasks.Task.{Task}
use Rattle.piece_core.specs.declared.calls.BookCall.{BookCall}
use Rattle.piece_core.specs.Calls.{Stand, Called, RunsCalls}

runs_more : (task : Task) (st mid new : Stand) (made : List BookCall) (call : BookCall) → RunsCalls task st made mid → Called task mid call new → RunsCalls task st (made ++ call ∷ []) new
runs_more task st mid new [] call same called = (new, subst (λ (s : Stand). Called task s call new) same called, refl)
runs_more task st mid new (x ∷ xs) call (next, first, rest) called = (next, first, runs_more task next mid new xs call rest called)

-- one call more of those that are left
pub calls_more : (task : Task) (first : Stand) (old new : List BookCall) (call : BookCall) (whole : List BookCall) (at next : Stand) → old ≡ new ++ call ∷ []
    → ((made : List BookCall) × (made ++ reverse old ≡ whole) × RunsCalls task first made at) → Called task at call next → (made : List BookCall) × (made ++ reverse new ≡ whole) × RunsCalls task first made next
calls_more task first old new call whole at next split (made, all, runs) called =
    (made ++ call ∷ [], append_assoc made (call ∷ []) (reverse new) ∙ sym (ap (λ (cs : List BookCall). made ++ cs) (ap reverse split ∙ reverse-append new (call ∷ []))) ∙ all, runs_more task first at next made call runs called)

pub all_left : {X : Type 0} (P : X → Type 0) (xs ys : List X) → All P (xs ++ ys) → All P xs
all_left P [] ys all = All-nil P
all_left P (x ∷ xs) ys all = All-cons P x xs (All-head P x (xs ++ ys) all) (all_left P xs ys (All-tail P x (xs ++ ys) all))
