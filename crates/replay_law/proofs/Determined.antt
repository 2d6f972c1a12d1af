-- The replay of a text has one answer.
use Rattle.std.proofs.Common.{◌≡◌, ◌⊎◌, inl, inr, ℕ, zero, suc, ◌<◌, List, [], ◌∷◌, length, take, slice_get, arith, refl, sym, ◌∙◌, ap, subst}
use Rattle.std.specs.Prelude.{Result, Ok, Err}
use Rattle.src_prog.specs.Program.{Program}
use Rattle.src_run.specs.Machine.{HasStatus}
use Rattle.src_run.specs.declared.machine.Choice.{Choice}
use Rattle.src_run.specs.declared.machine.Status.{Status}
use Rattle.src_run.specs.declared.machine.Status.TheVariants.{Going, Ended, Failed, Blocked, Cut, BadChoice}
use Rattle.src_law.specs.AskedNames.{NamesAreUnique}
use Rattle.src_law.specs.Statuses.{StatusesAreUnique}
use Rattle.trace_text.specs.Printing.{IsPrinted, trace_with}
use Rattle.trace_text.specs.Reading.{trace_of}
use Rattle.trace_text.specs.Traces.{text_of_trace}
use Rattle.trace_text.specs.declared.trace.Trace.{Trace}
use Rattle.trace_text.specs.declared.trace.TraceFault.{TraceFault}
use Rattle.replay_law.specs.Laws.{ReplaysAreDetermined}
use Rattle.replay_text.specs.Lines.{IsFirstDifference, whole_lines}
use Rattle.replay_text.specs.Replayed.{DiffersAt, IsIndex, IsJudged, IsReplayedAs, choices_of}
use Rattle.replay_text.specs.declared.replaying.Replayed.{Replayed}
use Rattle.replay_text.specs.declared.replaying.Replayed.TheVariants.{Unread, NotFailed, Differs, Done}

-- ---- lines

-- what stands at a place within a front
take_get : (n m : ℕ) (xs ys : List (List ℕ)) → n < m → take m xs ≡ take m ys → slice_get xs n ≡ slice_get ys n
take_get n zero xs ys h e = absurd (omega arith)
take_get n (suc m) [] [] h e = refl
take_get n (suc m) [] (y ∷ ys) h e = cc
take_get n (suc m) (x ∷ xs) [] h e = cc
take_get zero (suc m) (x ∷ xs) (y ∷ ys) h e = let same : x ≡ y = cc in cc
take_get (suc n) (suc m) (x ∷ xs) (y ∷ ys) h e = let rest : take m xs ≡ take m ys = cc in take_get n m xs ys (omega arith) rest

tell_apart : (m n : ℕ) → (m ≡ n) ⊎ ((m < n) ⊎ (n < m))
tell_apart zero zero = inl refl
tell_apart zero (suc n) = inr (inl (omega arith))
tell_apart (suc m) zero = inr (inr (omega arith))
tell_apart (suc m) (suc n) = elim (tell_apart m n) [ inl e ↦ inl (ap suc e) | inr h ↦ elim h [ inl a ↦ inr (inl (omega arith)) | inr b ↦ inr (inr (omega arith)) ] ]

first_is_one : (one other : List ℕ) (line next : ℕ) → IsFirstDifference one other line → IsFirstDifference one other next → line ≡ next
first_is_one one other line next h k =
    let a = h.number in
    let b = k.number in
    elim (tell_apart h.before k.before) [
      | inl e ↦ omega arith
      | inr less ↦ elim less [
        | inl x ↦ absurd (h.differs (take_get h.before k.before (whole_lines one) (whole_lines other) x k.same))
        | inr y ↦ absurd (k.differs (take_get k.before h.before (whole_lines one) (whole_lines other) y h.same))
      ]
    ]

not_itself : (text : List ℕ) (line : ℕ) → IsFirstDifference text text line → ⊥
not_itself text line h = h.differs refl

-- ---- texts

pub same_proc : (p a q b : ℕ) → Failed p a ≡ Failed q b → p ≡ q
same_proc p a q b h = cc

pub same_assert : (p a q b : ℕ) → Failed p a ≡ Failed q b → a ≡ b
same_assert p a q b h = cc

pub printed_is_one : StatusesAreUnique → NamesAreUnique → (prog : Program) (entry bound : ℕ) (choices : List Choice) (one other : List ℕ) → IsPrinted prog entry bound choices one → IsPrinted prog entry bound choices other → one ≡ other
printed_is_one statuses names prog entry bound choices one other h k =
    let status = statuses prog entry bound choices (Failed h.1.proc h.1.assert) (Failed k.1.proc k.1.assert) h.1.fails k.1.fails in
    let proc = same_proc h.1.proc h.1.assert k.1.proc k.1.assert status in
    let assert = same_assert h.1.proc h.1.assert k.1.proc k.1.assert status in
    let named = names prog entry bound choices h.1.names k.1.names h.1.are k.1.are in
    let same : h.0 ≡ k.0 =
    h.1.is ∙ ap (λ ns. trace_with prog choices ns h.1.proc h.1.assert) named ∙ ap (λ p. trace_with prog choices k.1.names p h.1.assert) proc ∙ ap (λ a. trace_with prog choices k.1.names k.1.proc a) assert ∙ sym k.1.is in
    h.2 ∙ ap text_of_trace same ∙ sym k.2

-- ---- answers

index_is_one : (status : Status) (count one other : ℕ) → IsIndex status count one → IsIndex status count other → one ≡ other
index_is_one Going count one other h k = h ∙ sym k
index_is_one Ended count one other h k = h ∙ sym k
index_is_one (Failed proc assert) count one other h k = absurd h
index_is_one Blocked count one other h k = h ∙ sym k
index_is_one Cut count one other h k = h ∙ sym k
index_is_one (BadChoice bad) count one other h k = h ∙ sym k

-- a run that fails has no other status
not_failed : StatusesAreUnique → (prog : Program) (entry bound : ℕ) (choices : List Choice) (status : Status) (index proc assert : ℕ) → HasStatus prog entry bound choices status → IsIndex status (length choices) index
    → HasStatus prog entry bound choices (Failed proc assert) → ⊥
not_failed statuses prog entry bound choices status index proc assert has is fails =
    subst (λ s. IsIndex s (length choices) index) (statuses prog entry bound choices status (Failed proc assert) has fails) is

not_failed_is_one : StatusesAreUnique → (prog : Program) (entry bound : ℕ) (choices : List Choice) (one other : Status) (i j : ℕ) → HasStatus prog entry bound choices one → IsIndex one (length choices) i
    → HasStatus prog entry bound choices other → IsIndex other (length choices) j → NotFailed one i ≡ NotFailed other j
not_failed_is_one statuses prog entry bound choices one other i j h is k at =
    let same = statuses prog entry bound choices one other h k in
    let index = index_is_one other (length choices) i j (subst (λ s. IsIndex s (length choices) i) same is) at in
    cc

done_is_one : StatusesAreUnique → (prog : Program) (entry bound : ℕ) (choices : List Choice) (p a q b : ℕ) → HasStatus prog entry bound choices (Failed p a) → HasStatus prog entry bound choices (Failed q b) → Done p a ≡ Done q b
done_is_one statuses prog entry bound choices p a q b h k =
    let status = statuses prog entry bound choices (Failed p a) (Failed q b) h k in
    let proc = same_proc p a q b status in
    let assert = same_assert p a q b status in
    cc

differs_is_one : StatusesAreUnique → NamesAreUnique → (prog : Program) (entry bound : ℕ) (text : List ℕ) (choices : List Choice) (one other : ℕ) → DiffersAt prog entry bound text choices one → DiffersAt prog entry bound text choices other → one ≡ other
differs_is_one statuses names prog entry bound text choices one other h k =
    let printed = printed_is_one statuses names prog entry bound choices h.0 k.0 h.1 k.1 in
    first_is_one text k.0 one other (subst (λ t. IsFirstDifference text t one) printed h.2) k.2

differs_or_done : StatusesAreUnique → NamesAreUnique → (prog : Program) (entry bound : ℕ) (text : List ℕ) (choices : List Choice) (line : ℕ) → DiffersAt prog entry bound text choices line → IsPrinted prog entry bound choices text → ⊥
differs_or_done statuses names prog entry bound text choices line h k =
    let printed = printed_is_one statuses names prog entry bound choices h.0 text h.1 k in
    not_itself text line (subst (λ t. IsFirstDifference text t line) printed h.2)

judged_is_one : StatusesAreUnique → NamesAreUnique → (prog : Program) (entry bound : ℕ) (text : List ℕ) (choices : List Choice) (one other : Replayed) → IsJudged prog entry bound text choices one → IsJudged prog entry bound text choices other → one ≡ other
judged_is_one statuses names prog entry bound text choices (Unread fault) other h k = absurd h
judged_is_one statuses names prog entry bound text choices (NotFailed one i) (Unread fault) h k = absurd k
judged_is_one statuses names prog entry bound text choices (NotFailed one i) (NotFailed other j) h k = not_failed_is_one statuses prog entry bound choices one other i j h.0 h.1 k.0 k.1
judged_is_one statuses names prog entry bound text choices (NotFailed one i) (Differs line) h k = absurd (not_failed statuses prog entry bound choices one i k.1.1.proc k.1.1.assert h.0 h.1 k.1.1.fails)
judged_is_one statuses names prog entry bound text choices (NotFailed one i) (Done q b) h k = absurd (not_failed statuses prog entry bound choices one i q b h.0 h.1 k.0)
judged_is_one statuses names prog entry bound text choices (Differs line) (Unread fault) h k = absurd k
judged_is_one statuses names prog entry bound text choices (Differs line) (NotFailed other j) h k = absurd (not_failed statuses prog entry bound choices other j h.1.1.proc h.1.1.assert k.0 k.1 h.1.1.fails)
judged_is_one statuses names prog entry bound text choices (Differs line) (Differs next) h k = ap (λ l. Differs l) (differs_is_one statuses names prog entry bound text choices line next h k)
judged_is_one statuses names prog entry bound text choices (Differs line) (Done q b) h k = absurd (differs_or_done statuses names prog entry bound text choices line h k.1)
judged_is_one statuses names prog entry bound text choices (Done p a) (Unread fault) h k = absurd k
judged_is_one statuses names prog entry bound text choices (Done p a) (NotFailed other j) h k = absurd (not_failed statuses prog entry bound choices other j p a k.0 k.1 h.0)
judged_is_one statuses names prog entry bound text choices (Done p a) (Differs line) h k = absurd (differs_or_done statuses names prog entry bound text choices line k h.1)
judged_is_one statuses names prog entry bound text choices (Done p a) (Done q b) h k = done_is_one statuses prog entry bound choices p a q b h.0 k.0

as_is_one : StatusesAreUnique → NamesAreUnique → (prog : Program) (entry bound : ℕ) (text : List ℕ) (read : Result Trace TraceFault) (one other : Replayed) → IsReplayedAs prog entry bound text read one → IsReplayedAs prog entry bound text read other → one ≡ other
as_is_one statuses names prog entry bound text (Err fault) one other h k = h ∙ sym k
as_is_one statuses names prog entry bound text (Ok trace) one other h k = judged_is_one statuses names prog entry bound text (choices_of trace) one other h k

pub determined : StatusesAreUnique → NamesAreUnique → ReplaysAreDetermined
determined statuses names prog entry bound text one other h k = as_is_one statuses names prog entry bound text (trace_of text) one other h k
