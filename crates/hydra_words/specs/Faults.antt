-- Which word a fault names.
use Rattle.std.specs.Prelude.{◌≡◌, ◌≢◌, ◌⊎◌, ℕ, ◌+◌, ◌<◌, List, ◌++◌, length, take, Ok, Err}
use Rattle.hydra_words.specs.declared.command.Command.{Command}
use Rattle.hydra_words.specs.declared.command.WordFault.{WordFault}
use Rattle.hydra_words.specs.declared.command.WordKind.TheVariants.{Missing}
use Rattle.hydra_words.specs.Words.{command_of}

-- The fault is that of the first word with which no command goes on; where a word is missing, all words are the front of a command.
pub record IsFirst (words : List (List ℕ)) (fault : WordFault) : Type 0 where
  -- some command begins with the words before it
  pub begun : (more : List (List ℕ)) × (command : Command) × (command_of (take fault.index words ++ more) ≡ Ok command)
  -- it names a word, or the number of words where one is missing
  pub place : ((fault.kind ≡ Missing) × (fault.index ≡ length words)) ⊎ ((fault.kind ≢ Missing) × (fault.index < length words))
  -- whatever stands behind the word that it names, the fault is the same
  pub stays : fault.kind ≢ Missing → (more : List (List ℕ)) → command_of (take (fault.index + 1) words ++ more) ≡ Err fault

-- Each fault that is told is the first.
abbrev pub FaultsAreFirst : Type 0
FaultsAreFirst = (words : List (List ℕ)) (fault : WordFault) → command_of words ≡ Err fault → IsFirst words fault
