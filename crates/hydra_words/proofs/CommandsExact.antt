-- The words that read as a command are its words.
use Rattle.std.proofs.Common.{◌≡◌, ℕ, ◌<◌, Bool, true, false, List, [], ◌∷◌, Result, Ok, refl, length, nat_le, arith, codes, if◌then◌else◌}
use Rattle.std.proofs.lemmas.Bool.Decides.{nat_tests}
use Rattle.std.proofs.lemmas.Slice.Eq.{bytes_eq-Decides}
use Rattle.std.specs.Str.{bytes_eq}
use Rattle.hydra_words.specs.declared.command.Command.{Command}
use Rattle.hydra_words.specs.declared.command.Command.TheVariants.{Check, Solo, Replay, Show, Gen}
use Rattle.hydra_words.specs.declared.command.WordFault.{WordFault}
use Rattle.hydra_words.specs.declared.command.WordKind.TheVariants.{Unexpected}
use Rattle.hydra_words.specs.Words.{◌>>=◌, refused, text_at, number_in, ended_at, with_words, no_options, command_of, check_of, solo_of, replay_of, show_of, gen_of, grain_of}
use Rattle.hydra_words.specs.Forms.{AreWordsOf, ReadsCommandsExactly}
use Rattle.hydra_words.specs.Forms.AreWordsOf.{check, solo, replay, show, gen}
use Rattle.hydra_words.proofs.FormsRead.{number_in-written, with_words-options}
use Rattle.hydra_words.proofs.FormsOnly.{bind_ok, number_in-only, with_words-only}

pub late : (words : List (List ℕ)) (index : ℕ) → index < length words → ended_at words index ≡ refused index Unexpected
unfolding ended_at
late words index lt = let more : nat_le (length words) index ≡ false = grind (arith, nat_tests) in rw more refl

-- a word too many
too_many : (words : List (List ℕ)) (index : ℕ) (next : Bool → Result Command WordFault) (command : Command) → index < length words → (ended_at words index >>= next) ≡ Ok command → ⊥
too_many words index next command lt h =
    let end = bind_ok (ended_at words index) next command h in
    let fault = late words index lt in
    cc (end.1, fault)

-- Words of a command read as it.

pub read : (command : Command) (words : List (List ℕ)) → AreWordsOf command words → command_of words ≡ Ok command
unfolding command_of text_at ended_at
read command words (check file entry b w options bound workers grain journal is_bound is_workers are_options) =
    let o = with_words-options grain journal options 5 are_options in
    rw (number_in-written 1 1000 3 bound b is_bound, number_in-written 1 64 4 workers w is_workers, o.1, o.2, o.3) refl
read command words (solo file entry b options bound grain journal is_bound are_options) =
    let o = with_words-options grain journal options 4 are_options in
    rw (number_in-written 1 1000 3 bound b is_bound, o.1, o.2, o.3) refl
read command words (replay file entry b trace bound is_bound) = rw (number_in-written 1 1000 3 bound b is_bound) refl
read command words (show file) = refl
read command words (gen a s b seed size bound is_seed is_size is_bound) =
    rw (number_in-written 0 4294967295 1 seed a is_seed, number_in-written 1 1000 2 size s is_size, number_in-written 1 1000 3 bound b is_bound) refl

-- What reads as a command is words of it.

check_only : (rest : List (List ℕ)) (command : Command) → check_of (codes "check" ∷ rest) ≡ Ok command → AreWordsOf command (codes "check" ∷ rest)
unfolding text_at
check_only [] command h = let never : ⊥ = cc in absurd never
check_only (f ∷ []) command h = let never : ⊥ = cc in absurd never
check_only (f ∷ e ∷ []) command h = let never : ⊥ = cc in absurd never
check_only (f ∷ e ∷ b ∷ []) command h =
    let bound = bind_ok (number_in 1 1000 3 b) _ command h in
    let never : ⊥ = cc (bound.2) in absurd never
check_only (f ∷ e ∷ b ∷ w ∷ os) command h =
    let bound = bind_ok (number_in 1 1000 3 b) _ command h in
    let workers = bind_ok (number_in 1 64 4 w) _ command bound.2 in
    let options = bind_ok (with_words 5 no_options os) _ command workers.2 in
    let same : Check f e bound.0 workers.0 (grain_of options.0.grain) options.0.journal ≡ command = cc (options.2) in
    rw (← same) (check f e b w os bound.0 workers.0 (grain_of options.0.grain) options.0.journal (number_in-only 1 1000 3 bound.0 b bound.1) (number_in-only 1 64 4 workers.0 w workers.1) (with_words-only 5 os options.0 options.1))

solo_only : (rest : List (List ℕ)) (command : Command) → solo_of (codes "solo" ∷ rest) ≡ Ok command → AreWordsOf command (codes "solo" ∷ rest)
unfolding text_at
solo_only [] command h = let never : ⊥ = cc in absurd never
solo_only (f ∷ []) command h = let never : ⊥ = cc in absurd never
solo_only (f ∷ e ∷ []) command h = let never : ⊥ = cc in absurd never
solo_only (f ∷ e ∷ b ∷ os) command h =
    let bound = bind_ok (number_in 1 1000 3 b) _ command h in
    let options = bind_ok (with_words 4 no_options os) _ command bound.2 in
    let same : Solo f e bound.0 (grain_of options.0.grain) options.0.journal ≡ command = cc (options.2) in
    rw (← same) (solo f e b os bound.0 (grain_of options.0.grain) options.0.journal (number_in-only 1 1000 3 bound.0 b bound.1) (with_words-only 4 os options.0 options.1))

replay_only : (rest : List (List ℕ)) (command : Command) → replay_of (codes "replay" ∷ rest) ≡ Ok command → AreWordsOf command (codes "replay" ∷ rest)
unfolding text_at ended_at
replay_only [] command h = let never : ⊥ = cc in absurd never
replay_only (f ∷ []) command h = let never : ⊥ = cc in absurd never
replay_only (f ∷ e ∷ []) command h = let never : ⊥ = cc in absurd never
replay_only (f ∷ e ∷ b ∷ []) command h =
    let bound = bind_ok (number_in 1 1000 3 b) _ command h in
    let never : ⊥ = cc (bound.2) in absurd never
replay_only (f ∷ e ∷ b ∷ t ∷ []) command h =
    let bound = bind_ok (number_in 1 1000 3 b) _ command h in
    let same : Replay f e bound.0 t ≡ command = cc (bound.2) in
    rw (← same) (replay f e b t bound.0 (number_in-only 1 1000 3 bound.0 b bound.1))
replay_only (f ∷ e ∷ b ∷ t ∷ more ∷ rest) command h =
    let bound = bind_ok (number_in 1 1000 3 b) _ command h in
    absurd (too_many (codes "replay" ∷ f ∷ e ∷ b ∷ t ∷ more ∷ rest) 5 _ command (omega arith) bound.2)

show_only : (rest : List (List ℕ)) (command : Command) → show_of (codes "show" ∷ rest) ≡ Ok command → AreWordsOf command (codes "show" ∷ rest)
unfolding text_at ended_at
show_only [] command h = let never : ⊥ = cc in absurd never
show_only (f ∷ []) command h = let same : Show f ≡ command = cc in rw (← same) (show f)
show_only (f ∷ more ∷ rest) command h = absurd (too_many (codes "show" ∷ f ∷ more ∷ rest) 2 _ command (omega arith) h)

gen_only : (rest : List (List ℕ)) (command : Command) → gen_of (codes "gen" ∷ rest) ≡ Ok command → AreWordsOf command (codes "gen" ∷ rest)
unfolding text_at ended_at
gen_only [] command h = let never : ⊥ = cc in absurd never
gen_only (a ∷ []) command h =
    let seed = bind_ok (number_in 0 4294967295 1 a) _ command h in
    let never : ⊥ = cc (seed.2) in absurd never
gen_only (a ∷ s ∷ []) command h =
    let seed = bind_ok (number_in 0 4294967295 1 a) _ command h in
    let size = bind_ok (number_in 1 1000 2 s) _ command seed.2 in
    let never : ⊥ = cc (size.2) in absurd never
gen_only (a ∷ s ∷ b ∷ []) command h =
    let seed = bind_ok (number_in 0 4294967295 1 a) _ command h in
    let size = bind_ok (number_in 1 1000 2 s) _ command seed.2 in
    let bound = bind_ok (number_in 1 1000 3 b) _ command size.2 in
    let same : Gen seed.0 size.0 bound.0 ≡ command = cc (bound.2) in
    rw (← same) (gen a s b seed.0 size.0 bound.0 (number_in-only 0 4294967295 1 seed.0 a seed.1) (number_in-only 1 1000 2 size.0 s size.1) (number_in-only 1 1000 3 bound.0 b bound.1))
gen_only (a ∷ s ∷ b ∷ more ∷ rest) command h =
    let seed = bind_ok (number_in 0 4294967295 1 a) _ command h in
    let size = bind_ok (number_in 1 1000 2 s) _ command seed.2 in
    let bound = bind_ok (number_in 1 1000 3 b) _ command size.2 in
    absurd (too_many (codes "gen" ∷ a ∷ s ∷ b ∷ more ∷ rest) 4 _ command (omega arith) bound.2)

spelt : (name word : List ℕ) → bytes_eq name word ≡ true → name ≡ word
spelt name word h = (bytes_eq-Decides name word).0 h

only_named : (name : List ℕ) (rest : List (List ℕ)) (command : Command) (is_check is_solo is_replay is_show is_gen : Bool)
    → bytes_eq name (codes "check") ≡ is_check → bytes_eq name (codes "solo") ≡ is_solo → bytes_eq name (codes "replay") ≡ is_replay → bytes_eq name (codes "show") ≡ is_show → bytes_eq name (codes "gen") ≡ is_gen
    → (if is_check then check_of (name ∷ rest) else (if is_solo then solo_of (name ∷ rest) else (if is_replay then replay_of (name ∷ rest) else (if is_show then show_of (name ∷ rest) else (if is_gen then gen_of (name ∷ rest) else refused 0 Unexpected))))) ≡ Ok command
    → AreWordsOf command (name ∷ rest)
only_named name rest command true s r w g a1 a2 a3 a4 a5 h = let e = spelt name (codes "check") a1 in rw e (check_only rest command (rw e at h))
only_named name rest command false true r w g a1 a2 a3 a4 a5 h = let e = spelt name (codes "solo") a2 in rw e (solo_only rest command (rw e at h))
only_named name rest command false false true w g a1 a2 a3 a4 a5 h = let e = spelt name (codes "replay") a3 in rw e (replay_only rest command (rw e at h))
only_named name rest command false false false true g a1 a2 a3 a4 a5 h = let e = spelt name (codes "show") a4 in rw e (show_only rest command (rw e at h))
only_named name rest command false false false false true a1 a2 a3 a4 a5 h = let e = spelt name (codes "gen") a5 in rw e (gen_only rest command (rw e at h))
only_named name rest command false false false false false a1 a2 a3 a4 a5 h = let never : ⊥ = cc in absurd never

only : (words : List (List ℕ)) (command : Command) → command_of words ≡ Ok command → AreWordsOf command words
unfolding command_of text_at
only [] command h = let never : ⊥ = cc in absurd never
only (name ∷ rest) command h = only_named name rest command _ _ _ _ _ refl refl refl refl refl h

pub commands_exact : ReadsCommandsExactly
commands_exact words command = (only words command, read command words)
