-- The fault that is told is that of the first word with which no command goes on.
use Rattle.std.proofs.Common.{◌≡◌, ◌≢◌, ℕ, ◌+◌, ◌≤◌, ◌<◌, ◌⊎◌, inl, inr, Bool, true, false, List, [], ◌∷◌, ◌++◌, Result, Ok, Err, refl, sym, ap, ◌∙◌, length, take, append_assoc, length-append, nat_le, arith, codes, if◌then◌else◌}
use Rattle.std.proofs.Math.Seq.{take-length, take-append_seam, take-append-add}
use Rattle.std.proofs.lemmas.List.{append-nil}
use Rattle.std.proofs.lemmas.Bool.Decides.{nat_tests}
use Rattle.std.proofs.lemmas.Slice.Eq.{bytes_eq-Decides}
use Rattle.std.specs.Str.{bytes_eq}
use Rattle.std.specs.Str.Parse.{digits_value}
use Rattle.hy_text.specs.Number.{are_digits}
use Rattle.hydra_words.specs.declared.command.Command.{Command}
use Rattle.hydra_words.specs.declared.command.Command.TheVariants.{Check, Solo, Replay, Show, Gen}
use Rattle.hydra_words.specs.declared.command.WordFault.{WordFault}
use Rattle.hydra_words.specs.declared.command.WordKind.{WordKind}
use Rattle.hydra_words.specs.declared.command.WordKind.TheVariants.{Missing, Unexpected, NotNumber, OutOfRange, Repeated}
use Rattle.hydra_words.specs.declared.options.Options.{Options}
use Rattle.hydra_words.specs.declared.options.Grain.{Grain}
use Rattle.hydra_words.specs.declared.options.Grain.TheVariants.{NotGiven, Due, Given}
use Rattle.hydra_words.specs.Words.{◌>>=◌, refused, text_at, in_range, number_in, ended_at, once, is_given, is_due, with_name, with_grain, with_word, with_words, no_options, grain_of, command_of}
use Rattle.hydra_words.specs.Forms.{Writes, AreWordsOf}
use Rattle.hydra_words.specs.Forms.AreOptions.{neither}
use Rattle.hydra_words.specs.Forms.AreWordsOf.{check, solo, replay, show, gen}
use Rattle.hydra_words.specs.Faults.{IsFirst, FaultsAreFirst}
use Rattle.hydra_words.proofs.FormsRead.{number_in-written}
use Rattle.hydra_words.proofs.FormsOnly.{number_in-only}
use Rattle.hydra_words.proofs.CommandsExact.{read, late}

bind_err : {A B : Type 0} (reading : Result A WordFault) (next : A → Result B WordFault) (fault : WordFault) → (reading >>= next) ≡ Err fault → (reading ≡ Err fault) ⊎ ((x : A) × (reading ≡ Ok x) × (next x ≡ Err fault))
bind_err (Ok x) next fault h = inr (x, refl, h)
bind_err (Err f) next fault h = let same : f ≡ fault = cc in inl (ap Err same)

-- Where a fault of one word is told.

abbrev IsAt : WordFault → ℕ → Type 0
IsAt fault index = (fault.index ≡ index) × (fault.kind ≢ Missing)

told : (kind : WordKind) (index : ℕ) (fault : WordFault) → kind ≢ Missing → record { index = index; kind = kind } ≡ fault → IsAt fault index
told kind index fault other e = rw (← e) (refl, other)

number_fault : (digits fits : Bool) (index n : ℕ) (fault : WordFault) → (if digits then (if fits then Ok n else refused index OutOfRange) else refused index NotNumber) ≡ Err fault → IsAt fault index
number_fault true true index n fault h = let never : ⊥ = cc in absurd never
number_fault true false index n fault h = told OutOfRange index fault (λ bad. cc) cc
number_fault false fits index n fault h = told NotNumber index fault (λ bad. cc) cc

number_in-fault : (low high index : ℕ) (word : List ℕ) (fault : WordFault) → number_in low high index word ≡ Err fault → IsAt fault index
unfolding number_in
number_in-fault low high index word fault h = number_fault (are_digits word) (in_range low high (digits_value 10 word)) index (digits_value 10 word) fault h

name_fault : (g j a b : Bool) (index : ℕ) (x y : Options) (fault : WordFault) → (if g then once index a x else (if j then once index b y else refused index Unexpected)) ≡ Err fault → IsAt fault index
name_fault true j true b index x y fault h = told Repeated index fault (λ bad. cc) cc
name_fault true j false b index x y fault h = let never : ⊥ = cc in absurd never
name_fault false true a true index x y fault h = told Repeated index fault (λ bad. cc) cc
name_fault false true a false index x y fault h = let never : ⊥ = cc in absurd never
name_fault false false a b index x y fault h = told Unexpected index fault (λ bad. cc) cc

grain_fault : (index : ℕ) (options : Options) (word : List ℕ) (fault : WordFault) → with_grain index options word ≡ Err fault → IsAt fault index
grain_fault index options word fault h =
    elim (bind_err (number_in 1 1000000 index word) (λ n. Ok (record options { grain = Given n })) fault h) [
      | inl bad ↦ number_in-fault 1 1000000 index word fault bad
      | inr ok ↦ (let never : ⊥ = cc (ok.2) in absurd never)
    ]

word_fault : (due : Bool) (index : ℕ) (options : Options) (word : List ℕ) (fault : WordFault) → (if due then with_grain index options word else with_name index options word) ≡ Err fault → IsAt fault index
word_fault true index options word fault h = grain_fault index options word fault h
word_fault false index options word fault h =
    name_fault (bytes_eq word (codes "--grain")) (bytes_eq word (codes "--journal")) (is_given options.grain) options.journal index (record options { grain = Due }) (record options { journal = true }) fault h

with_word-fault : (index : ℕ) (options : Options) (word : List ℕ) (fault : WordFault) → with_word index options word ≡ Err fault → IsAt fault index
unfolding with_word
with_word-fault index options word fault h = word_fault (is_due options.grain) index options word fault h

-- Where reading stops: a word is missing behind these, or it is the first that is at fault. The words are counted from a first index.

data Stops {A : Type 0} (reading : List (List ℕ) → Result A WordFault) (first : ℕ) (fault : WordFault) : List (List ℕ) → Type 0 where
  wants_more : (words more : List (List ℕ)) (x : A) → fault.kind ≡ Missing → fault.index ≡ first + length words → reading (words ++ more) ≡ Ok x → Stops reading first fault words
  at_word : (front : List (List ℕ)) (word : List ℕ) (rest more : List (List ℕ)) (x : A) → IsAt fault (first + length front) → reading (front ++ more) ≡ Ok x → ((after : List (List ℕ)) → reading (front ++ word ∷ after) ≡ Err fault) → Stops reading first fault (front ++ word ∷ rest)

-- one word before
later : {A : Type 0} (these those : List (List ℕ) → Result A WordFault) (first : ℕ) (fault : WordFault) (word : List ℕ) (words : List (List ℕ)) → ((rest : List (List ℕ)) → those (word ∷ rest) ≡ these rest) → Stops these (first + 1) fault words → Stops those first fault (word ∷ words)
later these those first fault word words same (wants_more _ more x kind index go) =
    wants_more (word ∷ words) more x kind (omega (arith, index)) (same (words ++ more) ∙ go)
later these those first fault word words same (at_word front bad rest more x at go stays) =
    at_word (word ∷ front) bad rest more x (omega (arith, at.0), at.1) (same (front ++ more) ∙ go) (λ after. same (front ++ bad ∷ after) ∙ stays after)

-- the plain words before, and the command after
whole_command : (plain words : List (List ℕ)) (reading : List (List ℕ) → Result Options WordFault) (last : Options → Command) (fault : WordFault) → ((rest : List (List ℕ)) → command_of (plain ++ rest) ≡ (reading rest >>= λ options. Ok (last options))) → Stops reading (length plain) fault words → Stops command_of 0 fault (plain ++ words)
whole_command plain words reading last fault same (wants_more _ more x kind index go) =
    wants_more (plain ++ words) more (last x) kind (omega (arith, index, length-append plain words)) (rw (append_assoc plain words more, same (words ++ more), go) refl)
whole_command plain words reading last fault same (at_word front bad rest more x at go stays) =
    rw (← append_assoc plain front (bad ∷ rest)) (at_word (plain ++ front) bad rest more (last x) (omega (arith, at.0, length-append plain front), at.1) (rw (append_assoc plain front more, same (front ++ more), go) refl) (λ after. rw (append_assoc plain front (bad ∷ after), same (front ++ bad ∷ after), stays after) refl))

cut : (index : ℕ) (front : List (List ℕ)) (word : List ℕ) (rest after : List (List ℕ)) → index ≡ length front → take (index + 1) (front ++ word ∷ rest) ++ after ≡ front ++ word ∷ after
cut index front word rest after e = rw (e, take-append-add front (word ∷ rest) 1, append_assoc front (word ∷ []) after) refl

first_of_words : (words : List (List ℕ)) (fault : WordFault) → Stops command_of 0 fault words → IsFirst words fault
first_of_words words fault (wants_more _ more command kind index go) =
    let there : fault.index ≡ length words = omega (arith, index) in
    record {
      begun = (more, command, rw (there, take-length words) go);
      place = inl (kind, there);
      stays = λ other after. absurd (other kind);
    }
first_of_words words fault (at_word front word rest more command at go stays) =
    let there : fault.index ≡ length front = omega (arith, at.0) in
    record {
      begun = (more, command, rw (there, take-append_seam front (word ∷ rest)) go);
      place = inr (at.1, omega (arith, there, length-append front (word ∷ rest)));
      stays = λ other after. ap command_of (cut fault.index front word rest after there) ∙ stays after;
    }

-- The options.

one : List ℕ
one = codes "1"

one_written : (high : ℕ) → 1 ≤ high → Writes 1 high 1 one
unfolding one
one_written high most = record { digits = refl; value = refl; least = omega arith; most = most }

-- options can always be made whole
completed : (first : ℕ) (grain : Grain) (journal : Bool) → (more : List (List ℕ)) × (options : Options) × (with_words first (record { grain = grain; journal = journal }) more ≡ Ok options)
unfolding with_words with_word
completed first NotGiven journal = ([], record { grain = NotGiven; journal = journal }, refl)
completed first Due journal = (one ∷ [], record { grain = Given 1; journal = journal }, rw (number_in-written 1 1000000 first 1 one (one_written 1000000 (omega arith))) refl)
completed first (Given n) journal = ([], record { grain = Given n; journal = journal }, refl)

options_end : (first : ℕ) (grain : Grain) (journal : Bool) (fault : WordFault) → with_words first (record { grain = grain; journal = journal }) [] ≡ Err fault → (fault.kind ≡ Missing) × (fault.index ≡ first)
unfolding with_words
options_end first NotGiven journal fault h = let never : ⊥ = cc in absurd never
options_end first Due journal fault h = let e : record { index = first; kind = Missing } ≡ fault = cc in rw (← e) (refl, refl)
options_end first (Given n) journal fault h = let never : ⊥ = cc in absurd never

options_stop : (words : List (List ℕ)) (first : ℕ) (options : Options) (fault : WordFault) → with_words first options words ≡ Err fault → Stops (with_words first options) first fault words
unfolding with_words
options_stop [] first options fault h =
    let e = options_end first options.grain options.journal fault h in
    let c = completed first options.grain options.journal in
    wants_more [] c.0 c.1 e.0 (omega (arith, e.1)) c.2
options_stop (word ∷ rest) first options fault h =
    elim (bind_err (with_word first options word) (λ next. with_words (first + 1) next rest) fault h) [
      | inl bad ↦ (
          let at = with_word-fault first options word fault bad in
          let c = completed first options.grain options.journal in
          at_word [] word rest c.0 c.1 (omega (arith, at.0), at.1) c.2 (λ after. rw bad refl)
          )
      | inr ok ↦ later (with_words (first + 1) ok.0) (with_words first options) first fault word rest (λ more. rw (ok.1) refl) (options_stop rest (first + 1) ok.0 fault ok.2)
    ]

-- The commands.

-- a word is missing behind these
missing : (words more : List (List ℕ)) (command : Command) (fault : WordFault) → refused {A = Command} (length words) Missing ≡ Err fault → AreWordsOf command (words ++ more) → Stops command_of 0 fault words
missing words more command fault h go =
    let e : record { index = length words; kind = Missing } ≡ fault = cc in
    rw (← e) (wants_more words more command refl (omega arith) (read command (words ++ more) go))

-- a number is at fault
bad_number : (front : List (List ℕ)) (low high : ℕ) (word : List ℕ) (rest more : List (List ℕ)) (command : Command) (fault : WordFault) → number_in low high (length front) word ≡ Err fault → AreWordsOf command (front ++ more) → ((after : List (List ℕ)) → command_of (front ++ word ∷ after) ≡ Err fault) → Stops command_of 0 fault (front ++ word ∷ rest)
bad_number front low high word rest more command fault h go stays =
    let at = number_in-fault low high (length front) word fault h in
    at_word front word rest more command (omega (arith, at.0), at.1) (read command (front ++ more) go) stays

-- a word too many
extra : (front : List (List ℕ)) (word : List ℕ) (rest : List (List ℕ)) (command : Command) (fault : WordFault) → refused {A = Command} (length front) Unexpected ≡ Err fault → AreWordsOf command front → ((after : List (List ℕ)) → command_of (front ++ word ∷ after) ≡ refused (length front) Unexpected) → Stops command_of 0 fault (front ++ word ∷ rest)
extra front word rest command fault h go stays =
    let e : record { index = length front; kind = Unexpected } ≡ fault = cc in
    let at = told Unexpected (length front) fault (λ bad. cc) e in
    at_word front word rest [] command (omega (arith, at.0), at.1) (rw (append-nil front) (read command front go)) (λ after. stays after ∙ h)

-- all words are read, and none is at fault
ended_whole : (words : List (List ℕ)) (index : ℕ) (next : Bool → Command) (fault : WordFault) → length words ≤ index → (ended_at words index >>= λ end. Ok (next end)) ≡ Err fault → ⊥
unfolding ended_at
ended_whole words index next fault le h =
    let whole : nat_le (length words) index ≡ true = grind (arith, nat_tests) in
    let never : Ok (next true) ≡ Err fault = rw whole at h in
    cc

-- the fault of a word too many
ended_late : (words : List (List ℕ)) (index : ℕ) (next : Bool → Result Command WordFault) (fault : WordFault) → index < length words → (ended_at words index >>= next) ≡ Err fault → refused {A = Command} index Unexpected ≡ Err fault
ended_late words index next fault lt h = rw (late words index lt) at h

bound_one : Writes 1 1000 1 one
bound_one = one_written 1000 (omega arith)

workers_one : Writes 1 64 1 one
workers_one = one_written 64 (omega arith)

check_stop : (rest : List (List ℕ)) (fault : WordFault) → command_of (codes "check" ∷ rest) ≡ Err fault → Stops command_of 0 fault (codes "check" ∷ rest)
unfolding command_of text_at
check_stop [] fault h = missing (codes "check" ∷ []) ([] ∷ [] ∷ one ∷ one ∷ []) _ fault h (check [] [] one one [] 1 1 16 false bound_one workers_one neither)
check_stop (f ∷ []) fault h = missing (codes "check" ∷ f ∷ []) ([] ∷ one ∷ one ∷ []) _ fault h (check f [] one one [] 1 1 16 false bound_one workers_one neither)
check_stop (f ∷ e ∷ []) fault h = missing (codes "check" ∷ f ∷ e ∷ []) (one ∷ one ∷ []) _ fault h (check f e one one [] 1 1 16 false bound_one workers_one neither)
check_stop (f ∷ e ∷ b ∷ []) fault h =
    elim (bind_err (number_in 1 1000 3 b) _ fault h) [
      | inl bad ↦ bad_number (codes "check" ∷ f ∷ e ∷ []) 1 1000 b [] (one ∷ one ∷ []) _ fault bad (check f e one one [] 1 1 16 false bound_one workers_one neither) (λ after. rw bad refl)
      | inr bound ↦ missing (codes "check" ∷ f ∷ e ∷ b ∷ []) (one ∷ []) _ fault (bound.2) (check f e b one [] bound.0 1 16 false (number_in-only 1 1000 3 bound.0 b bound.1) workers_one neither)
    ]
check_stop (f ∷ e ∷ b ∷ w ∷ os) fault h =
    elim (bind_err (number_in 1 1000 3 b) _ fault h) [
      | inl bad ↦ bad_number (codes "check" ∷ f ∷ e ∷ []) 1 1000 b (w ∷ os) (one ∷ one ∷ []) _ fault bad (check f e one one [] 1 1 16 false bound_one workers_one neither) (λ after. rw bad refl)
      | inr bound ↦
          elim (bind_err (number_in 1 64 4 w) _ fault bound.2) [
            | inl bad ↦ bad_number (codes "check" ∷ f ∷ e ∷ b ∷ []) 1 64 w os (one ∷ []) _ fault bad (check f e b one [] bound.0 1 16 false (number_in-only 1 1000 3 bound.0 b bound.1) workers_one neither) (λ after. rw (bound.1, bad) refl)
            | inr workers ↦
                elim (bind_err (with_words 5 no_options os) _ fault workers.2) [
                  | inl bad ↦ whole_command (codes "check" ∷ f ∷ e ∷ b ∷ w ∷ []) os (with_words 5 no_options) (λ options. Check f e bound.0 workers.0 (grain_of options.grain) options.journal) fault (λ rest. rw (bound.1, workers.1) refl) (options_stop os 5 no_options fault bad)
                  | inr options ↦ (let never : ⊥ = cc (options.2) in absurd never)
                ]
          ]
    ]

solo_stop : (rest : List (List ℕ)) (fault : WordFault) → command_of (codes "solo" ∷ rest) ≡ Err fault → Stops command_of 0 fault (codes "solo" ∷ rest)
unfolding command_of text_at
solo_stop [] fault h = missing (codes "solo" ∷ []) ([] ∷ [] ∷ one ∷ []) _ fault h (solo [] [] one [] 1 16 false bound_one neither)
solo_stop (f ∷ []) fault h = missing (codes "solo" ∷ f ∷ []) ([] ∷ one ∷ []) _ fault h (solo f [] one [] 1 16 false bound_one neither)
solo_stop (f ∷ e ∷ []) fault h = missing (codes "solo" ∷ f ∷ e ∷ []) (one ∷ []) _ fault h (solo f e one [] 1 16 false bound_one neither)
solo_stop (f ∷ e ∷ b ∷ os) fault h =
    elim (bind_err (number_in 1 1000 3 b) _ fault h) [
      | inl bad ↦ bad_number (codes "solo" ∷ f ∷ e ∷ []) 1 1000 b os (one ∷ []) _ fault bad (solo f e one [] 1 16 false bound_one neither) (λ after. rw bad refl)
      | inr bound ↦
          elim (bind_err (with_words 4 no_options os) _ fault bound.2) [
            | inl bad ↦ whole_command (codes "solo" ∷ f ∷ e ∷ b ∷ []) os (with_words 4 no_options) (λ options. Solo f e bound.0 (grain_of options.grain) options.journal) fault (λ rest. rw (bound.1) refl) (options_stop os 4 no_options fault bad)
            | inr options ↦ (let never : ⊥ = cc (options.2) in absurd never)
          ]
    ]

replay_stop : (rest : List (List ℕ)) (fault : WordFault) → command_of (codes "replay" ∷ rest) ≡ Err fault → Stops command_of 0 fault (codes "replay" ∷ rest)
unfolding command_of text_at
replay_stop [] fault h = missing (codes "replay" ∷ []) ([] ∷ [] ∷ one ∷ [] ∷ []) _ fault h (replay [] [] one [] 1 bound_one)
replay_stop (f ∷ []) fault h = missing (codes "replay" ∷ f ∷ []) ([] ∷ one ∷ [] ∷ []) _ fault h (replay f [] one [] 1 bound_one)
replay_stop (f ∷ e ∷ []) fault h = missing (codes "replay" ∷ f ∷ e ∷ []) (one ∷ [] ∷ []) _ fault h (replay f e one [] 1 bound_one)
replay_stop (f ∷ e ∷ b ∷ []) fault h =
    elim (bind_err (number_in 1 1000 3 b) _ fault h) [
      | inl bad ↦ bad_number (codes "replay" ∷ f ∷ e ∷ []) 1 1000 b [] (one ∷ [] ∷ []) _ fault bad (replay f e one [] 1 bound_one) (λ after. rw bad refl)
      | inr bound ↦ missing (codes "replay" ∷ f ∷ e ∷ b ∷ []) ([] ∷ []) _ fault (bound.2) (replay f e b [] bound.0 (number_in-only 1 1000 3 bound.0 b bound.1))
    ]
replay_stop (f ∷ e ∷ b ∷ t ∷ []) fault h =
    elim (bind_err (number_in 1 1000 3 b) _ fault h) [
      | inl bad ↦ bad_number (codes "replay" ∷ f ∷ e ∷ []) 1 1000 b (t ∷ []) (one ∷ [] ∷ []) _ fault bad (replay f e one [] 1 bound_one) (λ after. rw bad refl)
      | inr bound ↦ (let never : ⊥ = ended_whole (codes "replay" ∷ f ∷ e ∷ b ∷ t ∷ []) 5 _ fault (omega arith) (bound.2) in absurd never)
    ]
replay_stop (f ∷ e ∷ b ∷ t ∷ word ∷ rest) fault h =
    elim (bind_err (number_in 1 1000 3 b) _ fault h) [
      | inl bad ↦ bad_number (codes "replay" ∷ f ∷ e ∷ []) 1 1000 b (t ∷ word ∷ rest) (one ∷ [] ∷ []) _ fault bad (replay f e one [] 1 bound_one) (λ after. rw bad refl)
      | inr bound ↦ extra (codes "replay" ∷ f ∷ e ∷ b ∷ t ∷ []) word rest (Replay f e bound.0 t) fault (ended_late (codes "replay" ∷ f ∷ e ∷ b ∷ t ∷ word ∷ rest) 5 _ fault (omega arith) (bound.2)) (replay f e b t bound.0 (number_in-only 1 1000 3 bound.0 b bound.1)) (λ after. rw (bound.1, late (codes "replay" ∷ f ∷ e ∷ b ∷ t ∷ word ∷ after) 5 (omega arith)) refl)
    ]

show_stop : (rest : List (List ℕ)) (fault : WordFault) → command_of (codes "show" ∷ rest) ≡ Err fault → Stops command_of 0 fault (codes "show" ∷ rest)
unfolding command_of text_at
show_stop [] fault h = missing (codes "show" ∷ []) ([] ∷ []) _ fault h (show [])
show_stop (f ∷ []) fault h = let never : ⊥ = ended_whole (codes "show" ∷ f ∷ []) 2 _ fault (omega arith) h in absurd never
show_stop (f ∷ word ∷ rest) fault h = extra (codes "show" ∷ f ∷ []) word rest (Show f) fault (ended_late (codes "show" ∷ f ∷ word ∷ rest) 2 _ fault (omega arith) h) (show f) (λ after. rw (late (codes "show" ∷ f ∷ word ∷ after) 2 (omega arith)) refl)

seed_one : Writes 0 4294967295 1 one
unfolding one
seed_one = record { digits = refl; value = refl; least = omega arith; most = omega arith }

-- the numbers of `gen` that are read make their word's number at fault, or go on
gen_seed : (a : List ℕ) (rest : List (List ℕ)) (fault : WordFault) → number_in 0 4294967295 1 a ≡ Err fault → Stops command_of 0 fault (codes "gen" ∷ a ∷ rest)
unfolding command_of text_at
gen_seed a rest fault bad = bad_number (codes "gen" ∷ []) 0 4294967295 a rest (one ∷ one ∷ one ∷ []) _ fault bad (gen one one one 1 1 1 seed_one bound_one bound_one) (λ after. rw bad refl)

gen_size : (a s : List ℕ) (rest : List (List ℕ)) (seed : ℕ) (fault : WordFault) → number_in 0 4294967295 1 a ≡ Ok seed → number_in 1 1000 2 s ≡ Err fault → Stops command_of 0 fault (codes "gen" ∷ a ∷ s ∷ rest)
unfolding command_of text_at
gen_size a s rest seed fault is_seed bad = bad_number (codes "gen" ∷ a ∷ []) 1 1000 s rest (one ∷ one ∷ []) _ fault bad (gen a one one seed 1 1 (number_in-only 0 4294967295 1 seed a is_seed) bound_one bound_one) (λ after. rw (is_seed, bad) refl)

gen_bound : (a s b : List ℕ) (rest : List (List ℕ)) (seed size : ℕ) (fault : WordFault) → number_in 0 4294967295 1 a ≡ Ok seed → number_in 1 1000 2 s ≡ Ok size → number_in 1 1000 3 b ≡ Err fault → Stops command_of 0 fault (codes "gen" ∷ a ∷ s ∷ b ∷ rest)
unfolding command_of text_at
gen_bound a s b rest seed size fault is_seed is_size bad = bad_number (codes "gen" ∷ a ∷ s ∷ []) 1 1000 b rest (one ∷ []) _ fault bad (gen a s one seed size 1 (number_in-only 0 4294967295 1 seed a is_seed) (number_in-only 1 1000 2 size s is_size) bound_one) (λ after. rw (is_seed, is_size, bad) refl)

gen_stop : (rest : List (List ℕ)) (fault : WordFault) → command_of (codes "gen" ∷ rest) ≡ Err fault → Stops command_of 0 fault (codes "gen" ∷ rest)
unfolding command_of text_at
gen_stop [] fault h = missing (codes "gen" ∷ []) (one ∷ one ∷ one ∷ []) _ fault h (gen one one one 1 1 1 seed_one bound_one bound_one)
gen_stop (a ∷ []) fault h =
    elim (bind_err (number_in 0 4294967295 1 a) _ fault h) [
      | inl bad ↦ gen_seed a [] fault bad
      | inr seed ↦ missing (codes "gen" ∷ a ∷ []) (one ∷ one ∷ []) _ fault (seed.2) (gen a one one seed.0 1 1 (number_in-only 0 4294967295 1 seed.0 a seed.1) bound_one bound_one)
    ]
gen_stop (a ∷ s ∷ []) fault h =
    elim (bind_err (number_in 0 4294967295 1 a) _ fault h) [
      | inl bad ↦ gen_seed a (s ∷ []) fault bad
      | inr seed ↦
          elim (bind_err (number_in 1 1000 2 s) _ fault seed.2) [
            | inl bad ↦ gen_size a s [] seed.0 fault seed.1 bad
            | inr size ↦ missing (codes "gen" ∷ a ∷ s ∷ []) (one ∷ []) _ fault (size.2) (gen a s one seed.0 size.0 1 (number_in-only 0 4294967295 1 seed.0 a seed.1) (number_in-only 1 1000 2 size.0 s size.1) bound_one)
          ]
    ]
gen_stop (a ∷ s ∷ b ∷ []) fault h =
    elim (bind_err (number_in 0 4294967295 1 a) _ fault h) [
      | inl bad ↦ gen_seed a (s ∷ b ∷ []) fault bad
      | inr seed ↦
          elim (bind_err (number_in 1 1000 2 s) _ fault seed.2) [
            | inl bad ↦ gen_size a s (b ∷ []) seed.0 fault seed.1 bad
            | inr size ↦
                elim (bind_err (number_in 1 1000 3 b) _ fault size.2) [
                  | inl bad ↦ gen_bound a s b [] seed.0 size.0 fault seed.1 size.1 bad
                  | inr bound ↦ (let never : ⊥ = ended_whole (codes "gen" ∷ a ∷ s ∷ b ∷ []) 4 _ fault (omega arith) (bound.2) in absurd never)
                ]
          ]
    ]
gen_stop (a ∷ s ∷ b ∷ word ∷ rest) fault h =
    elim (bind_err (number_in 0 4294967295 1 a) _ fault h) [
      | inl bad ↦ gen_seed a (s ∷ b ∷ word ∷ rest) fault bad
      | inr seed ↦
          elim (bind_err (number_in 1 1000 2 s) _ fault seed.2) [
            | inl bad ↦ gen_size a s (b ∷ word ∷ rest) seed.0 fault seed.1 bad
            | inr size ↦
                elim (bind_err (number_in 1 1000 3 b) _ fault size.2) [
                  | inl bad ↦ gen_bound a s b (word ∷ rest) seed.0 size.0 fault seed.1 size.1 bad
                  | inr bound ↦ extra (codes "gen" ∷ a ∷ s ∷ b ∷ []) word rest (Gen seed.0 size.0 bound.0) fault (ended_late (codes "gen" ∷ a ∷ s ∷ b ∷ word ∷ rest) 4 _ fault (omega arith) (bound.2)) (gen a s b seed.0 size.0 bound.0 (number_in-only 0 4294967295 1 seed.0 a seed.1) (number_in-only 1 1000 2 size.0 s size.1) (number_in-only 1 1000 3 bound.0 b bound.1)) (λ after. rw (seed.1, size.1, bound.1, late (codes "gen" ∷ a ∷ s ∷ b ∷ word ∷ after) 4 (omega arith)) refl)
                ]
          ]
    ]

-- no command has the name
unknown : (name : List ℕ) (rest : List (List ℕ)) (fault : WordFault) → ((words : List (List ℕ)) → command_of (name ∷ words) ≡ refused 0 Unexpected) → command_of (name ∷ rest) ≡ Err fault → Stops command_of 0 fault (name ∷ rest)
unknown name rest fault all h =
    let e : refused {A = Command} 0 Unexpected ≡ Err fault = sym (all rest) ∙ h in
    let same : record { index = 0; kind = Unexpected } ≡ fault = cc in
    let at = told Unexpected 0 fault (λ bad. cc) same in
    at_word [] name rest (codes "show" ∷ [] ∷ []) (Show []) (omega (arith, at.0), at.1) (read (Show []) (codes "show" ∷ [] ∷ []) (show [])) (λ after. all after ∙ e)

spelt : (name word : List ℕ) → bytes_eq name word ≡ true → name ≡ word
spelt name word h = (bytes_eq-Decides name word).0 h

named_stop : (name : List ℕ) (rest : List (List ℕ)) (fault : WordFault) (is_check is_solo is_replay is_show is_gen : Bool)
    → bytes_eq name (codes "check") ≡ is_check → bytes_eq name (codes "solo") ≡ is_solo → bytes_eq name (codes "replay") ≡ is_replay → bytes_eq name (codes "show") ≡ is_show → bytes_eq name (codes "gen") ≡ is_gen
    → command_of (name ∷ rest) ≡ Err fault → Stops command_of 0 fault (name ∷ rest)
unfolding command_of text_at
named_stop name rest fault true s r w g a1 a2 a3 a4 a5 h = let e = spelt name (codes "check") a1 in rw e (check_stop rest fault (rw e at h))
named_stop name rest fault false true r w g a1 a2 a3 a4 a5 h = let e = spelt name (codes "solo") a2 in rw e (solo_stop rest fault (rw e at h))
named_stop name rest fault false false true w g a1 a2 a3 a4 a5 h = let e = spelt name (codes "replay") a3 in rw e (replay_stop rest fault (rw e at h))
named_stop name rest fault false false false true g a1 a2 a3 a4 a5 h = let e = spelt name (codes "show") a4 in rw e (show_stop rest fault (rw e at h))
named_stop name rest fault false false false false true a1 a2 a3 a4 a5 h = let e = spelt name (codes "gen") a5 in rw e (gen_stop rest fault (rw e at h))
named_stop name rest fault false false false false false a1 a2 a3 a4 a5 h = unknown name rest fault (λ words. rw (a1, a2, a3, a4, a5) refl) h

words_stop : (words : List (List ℕ)) (fault : WordFault) → command_of words ≡ Err fault → Stops command_of 0 fault words
unfolding command_of text_at
words_stop [] fault h = missing [] (codes "show" ∷ [] ∷ []) (Show []) fault h (show [])
words_stop (name ∷ rest) fault h = named_stop name rest fault _ _ _ _ _ refl refl refl refl refl h

pub faults_first : FaultsAreFirst
faults_first words fault h = first_of_words words fault (words_stop words fault h)
