-- Which words are a command, form by form.
use Rattle.std.specs.Prelude.{◌≡◌, ◌↔◌, ℕ, ◌≤◌, Bool, true, false, List, [], ◌∷◌, ◌++◌, Ok, codes}
use Rattle.std.specs.Str.Parse.{digits_value}
use Rattle.hy_text.specs.Number.{are_digits}
use Rattle.hydra_words.specs.declared.command.Command.{Command}
use Rattle.hydra_words.specs.declared.command.Command.TheVariants.{Check, Solo, Replay, Show, Gen}
use Rattle.hydra_words.specs.Words.{command_of}

-- The word is decimal digits of this number, which is from low to high.
pub record Writes (low high n : ℕ) (word : List ℕ) : Type 0 where
  pub digits : are_digits word ≡ true
  pub value : digits_value 10 word ≡ n
  pub least : low ≤ n
  pub most : n ≤ high

-- These options say this number of `--grain`, and whether there is a journal: in either order, each at most once.
pub data AreOptions : ℕ → Bool → List (List ℕ) → Type 0 where
  neither : AreOptions 16 false []
  journal_alone : AreOptions 16 true (codes "--journal" ∷ [])
  grain_alone : (n : ℕ) (g : List ℕ) → Writes 1 1000000 n g → AreOptions n false (codes "--grain" ∷ g ∷ [])
  grain_first : (n : ℕ) (g : List ℕ) → Writes 1 1000000 n g → AreOptions n true (codes "--grain" ∷ g ∷ codes "--journal" ∷ [])
  journal_first : (n : ℕ) (g : List ℕ) → Writes 1 1000000 n g → AreOptions n true (codes "--journal" ∷ codes "--grain" ∷ g ∷ [])

-- The words of each command.
pub data AreWordsOf : Command → List (List ℕ) → Type 0 where
  check : (file entry b w : List ℕ) (options : List (List ℕ)) (bound workers grain : ℕ) (journal : Bool) → Writes 1 1000 bound b → Writes 1 64 workers w → AreOptions grain journal options → AreWordsOf (Check file entry bound workers grain journal) (codes "check" ∷ file ∷ entry ∷ b ∷ w ∷ options)
  solo : (file entry b : List ℕ) (options : List (List ℕ)) (bound grain : ℕ) (journal : Bool) → Writes 1 1000 bound b → AreOptions grain journal options → AreWordsOf (Solo file entry bound grain journal) (codes "solo" ∷ file ∷ entry ∷ b ∷ options)
  replay : (file entry b trace : List ℕ) (bound : ℕ) → Writes 1 1000 bound b → AreWordsOf (Replay file entry bound trace) (codes "replay" ∷ file ∷ entry ∷ b ∷ trace ∷ [])
  show : (file : List ℕ) → AreWordsOf (Show file) (codes "show" ∷ file ∷ [])
  gen : (a s b : List ℕ) (seed size bound : ℕ) → Writes 0 4294967295 seed a → Writes 1 1000 size s → Writes 1 1000 bound b → AreWordsOf (Gen seed size bound) (codes "gen" ∷ a ∷ s ∷ b ∷ [])

-- The words that read as a command are its words, and no others.
abbrev pub ReadsCommandsExactly : Type 0
ReadsCommandsExactly = (words : List (List ℕ)) (command : Command) → (command_of words ≡ Ok command) ↔ AreWordsOf command words

-- The numbers of a command are in their ranges.
abbrev pub IsInRange : Command → Type 0
IsInRange (Check file entry bound workers grain journal) = (1 ≤ bound) × (bound ≤ 1000) × (1 ≤ workers) × (workers ≤ 64) × (1 ≤ grain) × (grain ≤ 1000000)
IsInRange (Solo file entry bound grain journal) = (1 ≤ bound) × (bound ≤ 1000) × (1 ≤ grain) × (grain ≤ 1000000)
IsInRange (Replay file entry bound trace) = (1 ≤ bound) × (bound ≤ 1000)
IsInRange (Show file) = Unit {0}
IsInRange (Gen seed size bound) = (seed ≤ 4294967295) × (1 ≤ size) × (size ≤ 1000) × (1 ≤ bound) × (bound ≤ 1000)

-- Behind some words the options may change places: whatever command these are, those are.
abbrev pub MayChangePlaces : List (List ℕ) → List ℕ → Type 0
MayChangePlaces plain g = (command : Command) → (command_of (plain ++ codes "--grain" ∷ g ∷ codes "--journal" ∷ []) ≡ Ok command) ↔ (command_of (plain ++ codes "--journal" ∷ codes "--grain" ∷ g ∷ []) ≡ Ok command)

-- The options of `check` and of `solo` may stand in either order.
abbrev pub OptionsInEitherOrder : Type 0
OptionsInEitherOrder =
    (file entry b w g : List ℕ) → MayChangePlaces (codes "check" ∷ file ∷ entry ∷ b ∷ w ∷ []) g × MayChangePlaces (codes "solo" ∷ file ∷ entry ∷ b ∷ []) g
