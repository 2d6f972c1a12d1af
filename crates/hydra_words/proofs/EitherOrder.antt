-- The options in either order.
use Rattle.std.proofs.Common.{◌≡◌, ℕ, ◌+◌, false, true, List, [], ◌∷◌, Result, Ok, Err, codes}
use Rattle.hydra_words.specs.declared.command.Command.{Command}
use Rattle.hydra_words.specs.declared.command.Command.TheVariants.{Check, Solo}
use Rattle.hydra_words.specs.declared.command.WordFault.{WordFault}
use Rattle.hydra_words.specs.declared.options.Options.{Options}
use Rattle.hydra_words.specs.declared.options.Grain.TheVariants.{Due, Given}
use Rattle.hydra_words.specs.Words.{◌>>=◌, text_at, number_in, with_grain, with_word, with_words, no_options, grain_of, command_of}
use Rattle.hydra_words.specs.Forms.{OptionsInEitherOrder}
use Rattle.hydra_words.proofs.FormsOnly.{bind_ok, due}
use Rattle.hydra_words.proofs.FormsRead.{number_in-written}

abbrev grain_first : List ℕ → List (List ℕ)
grain_first g = codes "--grain" ∷ g ∷ codes "--journal" ∷ []

abbrev journal_first : List ℕ → List (List ℕ)
journal_first g = codes "--journal" ∷ codes "--grain" ∷ g ∷ []

journal_after : (first : ℕ) (g : List ℕ) (options : Options) → with_words first no_options (grain_first g) ≡ Ok options → with_words first no_options (journal_first g) ≡ Ok options
unfolding with_words with_word
journal_after first g options h =
    let b = bind_ok (with_grain (first + 1) (record { grain = Due; journal = false }) g) (λ next. with_words (first + 1 + 1) next (codes "--journal" ∷ [])) options h in
    let d = due (first + 1) false g b.0 b.1 in
    let left : with_words (first + 1 + 1) (record { grain = Given d.0; journal = false }) (codes "--journal" ∷ []) ≡ Ok options = rw d.2 at b.2 in
    rw (number_in-written 1 1000000 (first + 1 + 1) d.0 g d.1) left

grain_after : (first : ℕ) (g : List ℕ) (options : Options) → with_words first no_options (journal_first g) ≡ Ok options → with_words first no_options (grain_first g) ≡ Ok options
unfolding with_words with_word
grain_after first g options h =
    let b = bind_ok (with_grain (first + 1 + 1) (record { grain = Due; journal = true }) g) (λ next. with_words (first + 1 + 1 + 1) next []) options h in
    let d = due (first + 1 + 1) true g b.0 b.1 in
    let left : with_words (first + 1 + 1 + 1) (record { grain = Given d.0; journal = true }) [] ≡ Ok options = rw d.2 at b.2 in
    rw (number_in-written 1 1000000 (first + 1) d.0 g d.1) left

-- what goes on the same way from each value that is read
same_next : {A B : Type 0} (read : Result A WordFault) (these those : A → Result B WordFault) (y : B) → ((x : A) → these x ≡ Ok y → those x ≡ Ok y) → (read >>= these) ≡ Ok y → (read >>= those) ≡ Ok y
same_next (Ok x) these those y same h = same x h
same_next (Err fault) these those y same h = let never : ⊥ = cc in absurd never

-- the same value read otherwise
same_read : {A B : Type 0} (this that : Result A WordFault) (next : A → Result B WordFault) (y : B) → ((x : A) → this ≡ Ok x → that ≡ Ok x) → (this >>= next) ≡ Ok y → (that >>= next) ≡ Ok y
same_read this that next y same h = let b = bind_ok this next y h in rw (same b.0 b.1) (b.2)

-- other options that say the same give the same command
module _ (file entry b w : List ℕ) (these those : List (List ℕ)) (command : Command) where
  check_same : ((options : Options) → with_words 5 no_options these ≡ Ok options → with_words 5 no_options those ≡ Ok options) → command_of (codes "check" ∷ file ∷ entry ∷ b ∷ w ∷ these) ≡ Ok command → command_of (codes "check" ∷ file ∷ entry ∷ b ∷ w ∷ those) ≡ Ok command
  unfolding command_of text_at
  check_same same h =
      same_next (number_in 1 1000 3 b) (λ bound. check_with bound these) (λ bound. check_with bound those) command (λ bound. same_next (number_in 1 64 4 w) (λ workers. options_of (said bound workers) these) (λ workers. options_of (said bound workers) those) command (λ workers. same_read (with_words 5 no_options these) (with_words 5 no_options those) (said bound workers) command same)) h
    where
      said : ℕ → ℕ → Options → Result Command WordFault
      said bound workers options = Ok (Check file entry bound workers (grain_of options.grain) options.journal)

      options_of : (Options → Result Command WordFault) → List (List ℕ) → Result Command WordFault
      options_of last options = with_words 5 no_options options >>= last

      check_with : ℕ → List (List ℕ) → Result Command WordFault
      check_with bound options = number_in 1 64 4 w >>= λ workers. options_of (said bound workers) options

  solo_same : ((options : Options) → with_words 4 no_options these ≡ Ok options → with_words 4 no_options those ≡ Ok options) → command_of (codes "solo" ∷ file ∷ entry ∷ b ∷ these) ≡ Ok command → command_of (codes "solo" ∷ file ∷ entry ∷ b ∷ those) ≡ Ok command
  unfolding command_of text_at
  solo_same same h =
      same_next (number_in 1 1000 3 b) (λ bound. with_words 4 no_options these >>= said bound) (λ bound. with_words 4 no_options those >>= said bound) command (λ bound. same_read (with_words 4 no_options these) (with_words 4 no_options those) (said bound) command same) h
    where
      said : ℕ → Options → Result Command WordFault
      said bound options = Ok (Solo file entry bound (grain_of options.grain) options.journal)

pub either_order : OptionsInEitherOrder
either_order file entry b w g = (
  λ command. (check_same file entry b w (grain_first g) (journal_first g) command (journal_after 5 g), check_same file entry b w (journal_first g) (grain_first g) command (grain_after 5 g)),
  λ command. (solo_same file entry b w (grain_first g) (journal_first g) command (journal_after 4 g), solo_same file entry b w (journal_first g) (grain_first g) command (grain_after 4 g)),
)
