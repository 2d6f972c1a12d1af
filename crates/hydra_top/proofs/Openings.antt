-- Which files were opened, step by step.
use Rattle.std.proofs.Common.{◌≡◌, ◌⊎◌, inl, inr, ℕ, List, [], ◌∷◌, ◌++◌, length, arith, sym, ◌∙◌, ap, subst, append_assoc}
use Rattle.std.specs.Prelude.{codes, Result, Ok, Err, IfOk}
use Rattle.std.specs.Result.{MatchResult}
use Rattle.std.proofs.lemmas.List.{append-nil, take_all}
use Rattle.trace_text.specs.Traces.{line}
use Rattle.hydra_top.specs.declared.answer.Answer.{Answer}
use Rattle.hydra_top.specs.declared.outcome.Outcome.{Outcome}
use Rattle.hydra_top.specs.declared.outcome.Outcome.TheVariants.{ReadFault, WriteFault}
use Rattle.hydra_top.specs.declared.outcome.Refusal.{Refusal}
use Rattle.hydra_top.specs.Opened.{Extent, nothing, first, all, front, Opens, OpensAs, OpensOneMore, OpensSome, extent, files_of}
use Rattle.hydra_top.specs.Words.{replay, Task}

-- ---- a file that could not be read

front_of_first : (task : Task) (before now : List (List ℕ)) → (now ≡ before) ⊎ (now ≡ before ++ task.file ∷ []) → OpensAs front task before now
front_of_first task before now (inl is) = (0, is ∙ sym (append-nil before))
front_of_first task before now (inr is) = (1, is)

-- where the first file could not be read, it may have been opened
pub opens_unread : {E : Type 0} → (result : Result Answer E) (task : Task) (before now : List (List ℕ)) → IfOk result (λ a. (a.outcome ≡ ReadFault) × (a.text ≡ line (codes "fault: read"))) → (now ≡ before) ⊎ (now ≡ before ++ task.file ∷ [])
    → MatchResult result (λ a. OpensAs (extent a.outcome) task before now) (λ _. OpensAs front task before now)
opens_unread (Ok a) task before now unread one = subst (λ o. OpensAs (extent o) task before now) (sym unread.0) (front_of_first task before now one)
opens_unread (Err e) task before now unread one = front_of_first task before now one

-- ---- a task of two files

opens_more : (e : Extent) (file name trace : List ℕ) (bound : ℕ) (before middle now : List (List ℕ)) → middle ≡ before ++ file ∷ [] → OpensOneMore e trace middle now → OpensAs e (record { file = file; job = replay name bound trace }) before now
opens_more nothing file name trace bound before middle now one more = absurd more
opens_more first file name trace bound before middle now one more = absurd more
opens_more all file name trace bound before middle now one more = more ∙ ap (λ (m : List (List ℕ)). m ++ trace ∷ []) one ∙ append_assoc before (file ∷ []) (trace ∷ [])
opens_more front file name trace bound before middle now one (inl none) = (1, none ∙ one)
opens_more front file name trace bound before middle now one (inr more) = (2, more ∙ ap (λ (m : List (List ℕ)). m ++ trace ∷ []) one ∙ append_assoc before (file ∷ []) (trace ∷ []))

pub opens_second : {E : Type 0} → (result : Result Answer E) (file name trace : List ℕ) (bound : ℕ) (before middle now : List (List ℕ)) → middle ≡ before ++ file ∷ []
    → MatchResult result (λ a. OpensOneMore (extent a.outcome) trace middle now) (λ _. OpensOneMore front trace middle now)
    → MatchResult result (λ a. OpensAs (extent a.outcome) (record { file = file; job = replay name bound trace }) before now) (λ _. OpensAs front (record { file = file; job = replay name bound trace }) before now)
opens_second (Ok a) file name trace bound before middle now one more = opens_more (extent a.outcome) file name trace bound before middle now one more
opens_second (Err e) file name trace bound before middle now one more = opens_more front file name trace bound before middle now one more

-- ---- the outcome that is reported

some_opened : (e : Extent) (task : Task) (before now : List (List ℕ)) → OpensAs e task before now → OpensAs front task before now
some_opened nothing task before now h = (0, h ∙ sym (append-nil before))
some_opened first task before now h = (1, h)
some_opened all task before now h =
    (length (files_of task), h ∙ ap (λ (names : List (List ℕ)). before ++ names) (sym (take_all (length (files_of task)) (files_of task) (omega arith))))
some_opened front task before now h = h

-- an outcome whose text could not be written
pub opens_some : (task : Result Task Refusal) (outcome : Outcome) (before now : List (List ℕ)) → Opens task outcome before now → OpensSome task before now
opens_some (Err refusal) outcome before now h = h
opens_some (Ok task) outcome before now h = some_opened (extent outcome) task before now h

pub opens_reported : (task : Result Task Refusal) (outcome reported : Outcome) (before now : List (List ℕ)) → (reported ≡ outcome) ⊎ (reported ≡ WriteFault) → Opens task outcome before now → Opens task reported before now
opens_reported task outcome reported before now (inl same) h = subst (λ o. Opens task o before now) (sym same) h
opens_reported (Err refusal) outcome reported before now (inr fault) h = h
opens_reported (Ok task) outcome reported before now (inr fault) h = subst (λ o. OpensAs (extent o) task before now) (sym fault) (opens_some (Ok task) outcome before now h)
